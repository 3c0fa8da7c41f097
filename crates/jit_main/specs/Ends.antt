-- How the program ends: what it writes, why it stops, and the status of each.
use Rattle.std.specs.Prelude.{◌≡◌, ℕ, ◌≤◌, Bool, true, false, List, ◌++◌, length, take, Option, Some, None, codes, ◌≢◌, ◌<◌, ◌↔◌, ◌⊎◌}
use Rattle.std.specs.Fmt.{decimal}
use Rattle.rj_io.specs.Faults.{Rose}
use Rattle.rj_io.specs.Sinks.{Took}
use Rattle.jit_text.specs.RefusalTexts.{unread_text, unverified_text, no_image_text, uncalled_text}
use Rattle.jit_main.specs.declared.stop.Stop.{Stop}
use Rattle.jit_main.specs.declared.stop.Stop.TheVariants.{Usage, CannotRead, Unread, Unverified, TooBig, Uncalled, NoRoom, NoMemory}
use Rattle.command_words.specs.Commands.{Line, run, big, eval, sim, dump, command_of}
use Rattle.jit_text.specs.ManyCallsTexts as many
use Rattle.jit_main.specs.Commands.{IsText, AreTexts, IsNamed}
use Rattle.jit_main.specs.Run.{NoModule, NoPass, NoImage, NoCalls, NoCode, Ran, Counted}
use Rattle.jit_main.specs.Evals.{Evaluated}
use Rattle.jit_main.specs.Dumps.{Dumped}
use Rattle.jit_main.specs.Sims.{Simulated}

-- why a text has no checked module
abbrev pub ModuleStop : List ℕ → Stop → Type 0
ModuleStop module_text (Unread refusal) = NoModule module_text refusal
ModuleStop module_text (Unverified module_ refusal) = NoPass module_text module_ refusal
ModuleStop module_text NoMemory = Unit {0}
ModuleStop module_text _ = ⊥

-- why two texts have no calls of a module, with so many bytes of data memory
abbrev pub FrontStop : List ℕ → List ℕ → ℕ → Stop → Type 0
FrontStop module_text calls_text room (TooBig bytes size) = NoImage module_text room bytes size
FrontStop module_text calls_text room (Uncalled refusal) = NoCalls module_text calls_text room refusal
FrontStop module_text calls_text room stop = ModuleStop module_text stop

-- why they have no answers of a run over so many code words
abbrev pub RunStop : List ℕ → List ℕ → ℕ → ℕ → Stop → Type 0
RunStop module_text calls_text room code_words (NoRoom needed had) = (had ≡ code_words) × NoCode module_text calls_text room code_words needed
RunStop module_text calls_text room code_words stop = FrontStop module_text calls_text room stop

-- two files have such texts
abbrev pub OfTexts : (List ℕ → Option (List ℕ)) → List ℕ → List ℕ → (List ℕ → List ℕ → Type 0) → Type 0
OfTexts told module_name calls_name P =
    (module_text calls_text : List ℕ) × AreTexts told module_name calls_name module_text calls_text × P module_text calls_text

-- this is the text that a command writes for what its files have, and whether a call in it is unanswered; the marks are those of the policy
-- of its session
abbrev pub LineWrites : List ℕ → Line → (List ℕ → Option (List ℕ)) → List ℕ → Bool → Type 0
LineWrites marks (run module_name calls_name options) told text unanswered =
    OfTexts told module_name calls_name (λ m c. Ran marks m c options text unanswered)
LineWrites marks (big calls options) told text unanswered = Counted marks calls options text unanswered
LineWrites marks (eval module_name calls_name room) told text unanswered = OfTexts told module_name calls_name (λ m c. Evaluated m c room text unanswered)
LineWrites marks (sim module_name calls_name options) told text unanswered = OfTexts told module_name calls_name (λ m c. Simulated m c options text unanswered)
LineWrites marks (dump module_name level) told text unanswered =
    (module_text : List ℕ) × IsText (told module_name) module_text × Dumped module_text level text × (unanswered ≡ false)

-- what a command's files have stops the program so
abbrev pub LineStops : Line → (List ℕ → Option (List ℕ)) → Stop → Type 0
LineStops (run module_name calls_name options) told stop = OfTexts told module_name calls_name (λ m c. RunStop m c options.room options.code_words stop)
LineStops (big calls options) told stop = RunStop many.module_text (many.calls_text calls) options.room options.code_words stop
LineStops (eval module_name calls_name room) told stop = OfTexts told module_name calls_name (λ m c. FrontStop m c room stop)
LineStops (sim module_name calls_name options) told stop = OfTexts told module_name calls_name (λ m c. RunStop m c options.room options.code_words stop)
LineStops (dump module_name level) told stop = (module_text : List ℕ) × IsText (told module_name) module_text × ModuleStop module_text stop

-- why a command stops before it writes: its line, the files, the counts of their faults before and after
abbrev pub LineCause : Line → (List ℕ → Option (List ℕ)) → ℕ → ℕ → Stop → Type 0
LineCause line told before now Usage = ⊥
LineCause line told before now (CannotRead name) = IsNamed line name.now × Rose before now
LineCause line told before now (Unread refusal) = LineStops line told (Unread refusal) × (now ≡ before)
LineCause line told before now (Unverified module_ refusal) = LineStops line told (Unverified module_ refusal) × (now ≡ before)
LineCause line told before now (TooBig bytes size) = LineStops line told (TooBig bytes size) × (now ≡ before)
LineCause line told before now (Uncalled refusal) = LineStops line told (Uncalled refusal) × (now ≡ before)
LineCause line told before now (NoRoom needed had) = LineStops line told (NoRoom needed had) × (now ≡ before)
LineCause line told before now NoMemory = now ≡ before

-- the same where the words may be no command, or there is no memory to read them
abbrev pub WordsCause : Option Line → (List ℕ → Option (List ℕ)) → ℕ → ℕ → Stop → Type 0
WordsCause None told before now Usage = now ≡ before
WordsCause None told before now NoMemory = now ≡ before
WordsCause None told before now stop = ⊥
WordsCause (Some line) told before now stop = LineCause line told before now stop

-- the words are a command, and this is the text that it writes for what its files have
abbrev pub Answers : List ℕ → List (List ℕ) → (List ℕ → Option (List ℕ)) → List ℕ → Bool → Type 0
Answers marks words told text unanswered = (line : Line) × (command_of words ≡ Some line) × LineWrites marks line told text unanswered

-- the words are a command, and what its files have stops the program so
abbrev pub Stops : List (List ℕ) → (List ℕ → Option (List ℕ)) → Stop → Type 0
Stops words told stop = (line : Line) × (command_of words ≡ Some line) × LineStops line told stop

-- why the program stops before it writes its answers
abbrev pub Cause : List (List ℕ) → (List ℕ → Option (List ℕ)) → ℕ → ℕ → Stop → Type 0
Cause words told before now stop = WordsCause (command_of words) told before now stop

-- a load that fails says which, and is counted
abbrev pub LoadStop : List ℕ → ℕ → ℕ → Stop → Type 0
LoadStop name before now (CannotRead other) = (other.now ≡ name) × Rose before now
LoadStop name before now NoMemory = now ≡ before
LoadStop name before now _ = ⊥

abbrev pub status_of : Stop → ℕ
status_of Usage = 3
status_of (CannotRead name) = 4
status_of (Unread refusal) = 2
status_of (Unverified module_ refusal) = 2
status_of (TooBig bytes size) = 2
status_of (Uncalled refusal) = 2
status_of (NoRoom needed had) = 7
status_of NoMemory = 6

-- what the words name and the files have is refused: the module doesn't read or doesn't pass, has no image, or the calls don't read
abbrev pub TextRefused : List (List ℕ) → (List ℕ → Option (List ℕ)) → Type 0
TextRefused words told = (stop : Stop) × (status_of stop ≡ 2) × Stops words told stop

abbrev pub status_when : Bool → ℕ
status_when true = 1
status_when false = 0

abbrev pub no_file_text : List ℕ → List ℕ
no_file_text name = codes "reopt: cannot read " ++ (name ++ codes "\n")

abbrev pub room_text : ℕ → ℕ → List ℕ
room_text needed had = codes "reopt: code: needs " ++ decimal needed ++ codes " words, has " ++ decimal had ++ codes "\n"

abbrev pub text_of : Stop → List ℕ
text_of Usage = codes "reopt: usage\n"
text_of (CannotRead name) = no_file_text name.now
text_of (Unread refusal) = unread_text refusal
text_of (Unverified module_ refusal) = unverified_text module_.functions refusal
text_of (TooBig bytes size) = no_image_text bytes size
text_of (Uncalled refusal) = uncalled_text refusal
text_of (NoRoom needed had) = room_text needed had
text_of NoMemory = codes "reopt: no memory\n"

-- where a sink tells what it took, it took a front of this text more
abbrev pub TookFront : Option (List ℕ) → Option (List ℕ) → List ℕ → Type 0
TookFront old new text = (sent : ℕ) × (sent ≤ length text) × Took old new (take sent text)

-- a text was written whole, or the sink failed behind a front of it; the counts of its faults before and after
abbrev pub Wrote : List ℕ → Bool → Option (List ℕ) → Option (List ℕ) → ℕ → ℕ → ℕ → Type 0
Wrote text unanswered old new before now status =
    ((status ≡ status_when unanswered) × Took old new text × (now ≡ before)) ⊎ ((status ≡ 5) × TookFront old new text × Rose before now)

-- what a sink took of a text: a front, and all of it where the count of its faults didn't rise
pub record Said (old new : Option (List ℕ)) (before now : ℕ) (text : List ℕ) : Type 0 where
  pub front : TookFront old new text
  pub whole : (Rose before now → ⊥) → Took old new text

-- a refusal whose text takes memory
abbrev pub TakesMemory : Stop → Type 0
TakesMemory Usage = ⊥
TakesMemory (CannotRead name) = ⊥
TakesMemory stop = Unit {0}

-- why the program stops was said: this, or that there is no memory for its text
pub data SaidWhy (stop : Stop) (status : ℕ) (old new : Option (List ℕ)) (before now : ℕ) : Type 0 where
  WithText : (is : status ≡ status_of stop) (said : Said old new before now (text_of stop)) → SaidWhy stop status old new before now
  WithoutMemory : (takes : TakesMemory stop) (is : status ≡ 6) (said : Said old new before now (text_of NoMemory)) → SaidWhy stop status old new before now

-- what the two sinks took, and the counts of their faults, before and after a run of the program
pub record Sinks : Type 0 where
  pub out_old : Option (List ℕ)
  pub out_new : Option (List ℕ)
  pub out_before : ℕ
  pub out_now : ℕ
  pub err_old : Option (List ℕ)
  pub err_new : Option (List ℕ)
  pub err_before : ℕ
  pub err_now : ℕ

-- nothing was written but the text that says why
pub record Stopped (stop : Stop) (ends : ℕ) (sinks : Sinks) : Type 0 where
  pub status : ends ≡ status_of stop
  pub out : sinks.out_new ≡ sinks.out_old
  pub faults : sinks.out_now ≡ sinks.out_before
  pub said : Said sinks.err_old sinks.err_new sinks.err_before sinks.err_now (text_of stop)

-- the same, or for want of memory for that text
pub record StoppedWhy (stop : Stop) (status : ℕ) (sinks : Sinks) : Type 0 where
  pub out : sinks.out_new ≡ sinks.out_old
  pub faults : sinks.out_now ≡ sinks.out_before
  pub said : SaidWhy stop status sinks.err_old sinks.err_new sinks.err_before sinks.err_now

-- a text was written, and nothing said
pub record Written (text : List ℕ) (unanswered : Bool) (status : ℕ) (sinks : Sinks) : Type 0 where
  pub wrote : Wrote text unanswered sinks.out_old sinks.out_new sinks.out_before sinks.out_now status
  pub quiet : sinks.err_new ≡ sinks.err_old

-- what a status says of the run of these words over these files, by a policy of these marks, with the counts of their faults before and after
pub record Finished (marks : List ℕ) (words : List (List ℕ)) (told : List ℕ → Option (List ℕ)) (before now : ℕ) (sinks : Sinks) (status : ℕ) : Type 0 where
  pub answered : status ≡ 0 → (text : List ℕ) × Answers marks words told text false × Took sinks.out_old sinks.out_new text
  pub unanswered : status ≡ 1 → (text : List ℕ) × Answers marks words told text true × Took sinks.out_old sinks.out_new text
  pub front : status ≡ 5 → (text : List ℕ) × (b : Bool) × Answers marks words told text b × TookFront sinks.out_old sinks.out_new text
  pub write : status ≡ 5 → Rose sinks.out_before sinks.out_now
  pub write_told : sinks.out_before < sinks.out_now → status ≡ 5
  pub quiet : (status ≡ 0) ⊎ (status ≡ 1) ⊎ (status ≡ 5) → sinks.err_new ≡ sinks.err_old
  pub stop : status ≢ 0 → status ≢ 1 → status ≢ 5 → (stop : Stop) × (status_of stop ≡ status)
      × Cause words told before now stop
      × (sinks.out_new ≡ sinks.out_old)
      × Said sinks.err_old sinks.err_new sinks.err_before sinks.err_now (text_of stop)
  pub usage : status ≡ 3 → command_of words ≡ None
  pub usage_told : command_of words ≡ None → (status ≡ 3) ⊎ (status ≡ 6)
  pub load : status ≡ 4 → Rose before now
  pub load_told : before < now → status ≡ 4
  pub form : status ≡ 2 → TextRefused words told
  pub room : status ≡ 7 → (needed had : ℕ) × Stops words told (NoRoom needed had)
