-- What a status must be, by what a status says.
use Rattle.std.proofs.Common.{◌≡◌, ◌≢◌, ℕ, ◌<◌, ◌≤◌, ◌⊎◌, inl, inr, List, Bool, true, false, Option, Some, None, refl, sym, ap, subst, ◌∙◌, arith}
use Rattle.std.specs.Prelude.{IfSome}
use Rattle.std.proofs.lemmas.Bool.{cases_eq}
use Rattle.ir_core.specs.Program.{Program}
use Rattle.ir_meaning.specs.declared.calls.ListedCall.{ListedCall}
use Rattle.fast_isel.specs.Modules.{Needs, words_needed}
use Rattle.fast_isel.specs.ModuleLaws.{QuickNeedIsOne}
use Rattle.rj_io.specs.Faults.{Rose}
use Rattle.command_words.specs.Commands.{Line, run, big, eval, sim, dump, command_of}
use Rattle.command_words.specs.declared.line.RunOptions.{RunOptions}
use Rattle.command_words.specs.declared.line.SimOptions.{SimOptions}
use Rattle.jit_text.specs.ManyCallsTexts as many
use Rattle.session_types.specs.declared.settled.Settled.{Settled}
use Rattle.jit_main.specs.declared.stop.Stop.{Stop}
use Rattle.jit_main.specs.declared.stop.Stop.TheVariants.{Usage, CannotRead, Unread, Unverified, TooBig, Uncalled, NoRoom, NoMemory}
use Rattle.jit_main.specs.Commands.{AreTexts}
use Rattle.jit_main.specs.Dumps.{Dumped, dump_room}
use Rattle.jit_main.specs.Evals.{Evaluated}
use Rattle.jit_main.specs.Run.{IsCheckedText, NoCode, Ran, HasRun, Counted}
use Rattle.jit_main.specs.Sims.{Simulated}
use Rattle.jit_main.specs.Ends.{ModuleStop, FrontStop, RunStop, OfTexts, LineWrites, LineStops, LineCause, WordsCause, Answers, Sinks, Finished, status_of}
use Rattle.jit_main.specs.Complete.{IsLoaded, OfLoaded, AreRead, TakeWords, AreSome, HasAll, HasNoRoom, IsRefused, Must}
use Rattle.jit_main.proofs.Completing.{same_text, one_program, module_stops, front_stops, run_stops, fitting_stops, IsOfRoom}

abbrev Told : Type 0
Told = List ℕ → Option (List ℕ)

-- what is said of the texts of two files is said of what is loaded of them
loaded : (told : Told) (module_name calls_name : List ℕ) (P Q : List ℕ → List ℕ → Type 0) → OfTexts told module_name calls_name P → OfLoaded told module_name calls_name Q
    → (m : List ℕ) × (c : List ℕ) × P m c × Q m c
loaded told module_name calls_name P Q texts all =
    let m = same_text (told module_name) texts.0 all.0 texts.2.module_loaded all.2 in
    let c = same_text (told calls_name) texts.1 all.1 texts.2.calls_loaded all.3 in
    (all.0, all.1, subst (λ (x : List ℕ). P x all.1) m (subst (λ (y : List ℕ). P texts.0 y) c texts.3), all.4)

-- ---- stops

line-fits : QuickNeedIsOne → (line : Line) (told : Told) (stop : Stop) → HasAll line told → LineStops line told stop → stop ≡ NoMemory
line-fits law (run module_name calls_name options) told stop all why =
    let both = loaded told module_name calls_name (λ m c. RunStop m c options.room options.code_words stop) (λ m c. TakeWords m c options.room (λ words. words ≤ options.code_words)) why all in
    fitting_stops law both.0 both.1 options.room options.code_words stop both.3 both.2
line-fits law (big calls options) told stop all why = fitting_stops law many.module_text (many.calls_text calls) options.room options.code_words stop all why
line-fits law (eval module_name calls_name room) told stop all why =
    let both = loaded told module_name calls_name (λ m c. FrontStop m c room stop) (λ m c. AreSome m c room) why all in
    let are = both.3 in
    front_stops both.0 both.1 room stop are.0 are.1 are.2 both.2
line-fits law (sim module_name calls_name options) told stop all why =
    let both = loaded told module_name calls_name (λ m c. RunStop m c options.room options.code_words stop) (λ m c. TakeWords m c options.room (λ words. words ≤ options.code_words)) why all in
    fitting_stops law both.0 both.1 options.room options.code_words stop both.3 both.2
line-fits law (dump module_name level) told stop all why =
    let same = same_text (told module_name) why.0 all.0 why.1 all.1 in
    let is = all.2 in
    module_stops all.0 dump_room stop is.0 is.1 (subst (λ (m : List ℕ). ModuleStop m stop) same why.2)

of-words : (m c : List ℕ) (room code_words : ℕ) (stop : Stop) (P : ℕ → Type 0) → TakeWords m c room P → RunStop m c room code_words stop → IsOfRoom stop
of-words m c room code_words stop P (program, list, words, are, needs, holds) why = run_stops m c room code_words stop program list are why

line-crowded : (line : Line) (told : Told) (stop : Stop) → HasNoRoom line told → LineStops line told stop → IsOfRoom stop
line-crowded (run module_name calls_name options) told stop all why =
    let both = loaded told module_name calls_name (λ m c. RunStop m c options.room options.code_words stop) (λ m c. TakeWords m c options.room (λ words. options.code_words < words)) why all in
    of-words both.0 both.1 options.room options.code_words stop (λ words. options.code_words < words) both.3 both.2
line-crowded (big calls options) told stop all why = of-words many.module_text (many.calls_text calls) options.room options.code_words stop (λ words. options.code_words < words) all why
line-crowded (eval module_name calls_name room) told stop all why = absurd all
line-crowded (sim module_name calls_name options) told stop all why =
    let both = loaded told module_name calls_name (λ m c. RunStop m c options.room options.code_words stop) (λ m c. TakeWords m c options.room (λ words. options.code_words < words)) why all in
    of-words both.0 both.1 options.room options.code_words stop (λ words. options.code_words < words) both.3 both.2
line-crowded (dump module_name level) told stop all why = absurd all

read-of : (m c : List ℕ) (room code_words needed : ℕ) → NoCode m c room code_words needed → AreSome m c room
read-of m c room code_words needed why = (why.program, why.list, record { is_module = why.is_module; image = why.image; is_calls = why.is_calls })

no-room-refused : (line : Line) (told : Told) (needed had : ℕ) → IsRefused line told → LineStops line told (NoRoom needed had) → ⊥
no-room-refused (run module_name calls_name options) told needed had none why =
    let both = loaded told module_name calls_name (λ m c. RunStop m c options.room options.code_words (NoRoom needed had)) (λ m c. AreSome m c options.room → ⊥) why none in
    both.3 (read-of both.0 both.1 options.room options.code_words needed both.2.1)
no-room-refused (big calls options) told needed had none why = none (read-of many.module_text (many.calls_text calls) options.room options.code_words needed why.1)
no-room-refused (eval module_name calls_name room) told needed had none why = why.3
no-room-refused (sim module_name calls_name options) told needed had none why =
    let both = loaded told module_name calls_name (λ m c. RunStop m c options.room options.code_words (NoRoom needed had)) (λ m c. AreSome m c options.room → ⊥) why none in
    both.3 (read-of both.0 both.1 options.room options.code_words needed both.2.1)
no-room-refused (dump module_name level) told needed had none why = why.2

-- no fault of the files was counted
caused : (line : Line) (told : Told) (before now : ℕ) (stop : Stop) → LineCause line told before now stop → (Rose before now → ⊥) → (stop ≡ NoMemory) ⊎ LineStops line told stop
caused line told before now Usage cause calm = absurd cause
caused line told before now (CannotRead name) cause calm = absurd (calm cause.1)
caused line told before now (Unread refusal) cause calm = inr cause.0
caused line told before now (Unverified module_ refusal) cause calm = inr cause.0
caused line told before now (TooBig bytes size) cause calm = inr cause.0
caused line told before now (Uncalled refusal) cause calm = inr cause.0
caused line told before now (NoRoom needed had) cause calm = inr cause.0
caused line told before now NoMemory cause calm = inl refl

refused-status : (line : Line) (told : Told) (before now : ℕ) (stop : Stop) → IsRefused line told → LineCause line told before now stop → (Rose before now → ⊥)
    → (status_of stop ≡ 2) ⊎ (status_of stop ≡ 6)
refused-status line told before now Usage none cause calm = absurd cause
refused-status line told before now (CannotRead name) none cause calm = absurd (calm cause.1)
refused-status line told before now (Unread refusal) none cause calm = inl refl
refused-status line told before now (Unverified module_ refusal) none cause calm = inl refl
refused-status line told before now (TooBig bytes size) none cause calm = inl refl
refused-status line told before now (Uncalled refusal) none cause calm = inl refl
refused-status line told before now (NoRoom needed had) none cause calm = absurd (no-room-refused line told needed had none cause.0)
refused-status line told before now NoMemory none cause calm = inr refl

-- ---- what a status is

-- which it is
pub data Kind (status : ℕ) : Type 0 where
  Writes : (which : (status ≡ 0) ⊎ (status ≡ 1) ⊎ (status ≡ 5)) → Kind status
  Stops : (zero : status ≢ 0) (one : status ≢ 1) (five : status ≢ 5) → Kind status

kind : (status : ℕ) → Kind status
kind status = zero (cases_eq status 0)
  where
    five : status ≢ 0 → status ≢ 1 → (status ≡ 5) ⊎ (status ≢ 5) → Kind status
    five z o (inl is) = Writes (inr (inr is))
    five z o (inr not) = Stops z o not

    one : status ≢ 0 → (status ≡ 1) ⊎ (status ≢ 1) → Kind status
    one z (inl is) = Writes (inr (inl is))
    one z (inr not) = five z not (cases_eq status 5)

    zero : (status ≡ 0) ⊎ (status ≢ 0) → Kind status
    zero (inl is) = Writes (inl is)
    zero (inr not) = one not (cases_eq status 1)

six : (status : ℕ) (stop : Stop) → status_of stop ≡ status → stop ≡ NoMemory → status ≡ 6
six status stop is memory = sym is ∙ ap status_of memory

of-room : (status : ℕ) (stop : Stop) → status_of stop ≡ status → IsOfRoom stop → (status ≡ 7) ⊎ (status ≡ 6)
of-room status stop is (inl memory) = inr (six status stop is memory)
of-room status stop is (inr room) = inl (sym is ∙ ap status_of room.2)

module _ (marks : List ℕ) where
  -- ---- what was written

  ran-read : (m c : List ℕ) (options : RunOptions) (program : Program) (list : List ListedCall) (settled : Settled) → HasRun marks m c options program list settled → AreRead m c options.room program list
  ran-read m c options program list settled has = record { is_module = has.is_module; image = has.image; is_calls = has.is_calls }

  -- two texts of one module: the quick code fits, and it doesn't
  fits-twice : QuickNeedIsOne → (m c : List ℕ) (room code_words words : ℕ) (program : Program) → IsCheckedText m room program → Needs program words → words ≤ code_words
      → TakeWords m c room (λ words. code_words < words) → ⊥
  fits-twice law m c room code_words words program is needs fits (other, list, more, are, needed, over) =
      let same = one_program m room other program are.is_module is in
      let one = law program more words (subst (λ (p : Program). Needs p more) same needed) needs in
      let bad : ⊥ = omega (arith, one, fits, over) in bad

  ran-fits : QuickNeedIsOne → (m c : List ℕ) (options : RunOptions) (program : Program) (list : List ListedCall) (settled : Settled) → HasRun marks m c options program list settled
      → TakeWords m c options.room (λ words. options.code_words < words) → ⊥
  ran-fits law m c options program list settled has all =
      let session = has.session in
      fits-twice law m c options.room options.code_words (words_needed session.versions) program has.is_module (session.versions, session.quick, refl) session.fits all

  sim-fits : QuickNeedIsOne → (m c : List ℕ) (options : SimOptions) (text : List ℕ) (b : Bool) → Simulated m c options text b → TakeWords m c options.room (λ words. options.code_words < words) → ⊥
  sim-fits law m c options text b is all =
      let ran = is.ran in
      fits-twice law m c options.room options.code_words (words_needed ran.versions) is.program is.is_module (ran.versions, ran.quick, refl) ran.fits all

  writes-fit : QuickNeedIsOne → (line : Line) (told : Told) (text : List ℕ) (b : Bool) → LineWrites marks line told text b → HasNoRoom line told → ⊥
  writes-fit law (run module_name calls_name options) told text b writes all =
      let both = loaded told module_name calls_name (λ m c. Ran marks m c options text b) (λ m c. TakeWords m c options.room (λ words. options.code_words < words)) writes all in
      let is = both.2 in
      ran-fits law both.0 both.1 options is.program is.list is.settled is.has_run both.3
  writes-fit law (big calls options) told text b writes all = ran-fits law many.module_text (many.calls_text calls) options writes.program writes.list writes.settled writes.has_run all
  writes-fit law (eval module_name calls_name room) told text b writes all = all
  writes-fit law (sim module_name calls_name options) told text b writes all =
      let both = loaded told module_name calls_name (λ m c. Simulated m c options text b) (λ m c. TakeWords m c options.room (λ words. options.code_words < words)) writes all in
      sim-fits law both.0 both.1 options text b both.2 both.3
  writes-fit law (dump module_name level) told text b writes all = all

  writes-read : (line : Line) (told : Told) (text : List ℕ) (b : Bool) → LineWrites marks line told text b → IsRefused line told → ⊥
  writes-read (run module_name calls_name options) told text b writes none =
      let both = loaded told module_name calls_name (λ m c. Ran marks m c options text b) (λ m c. AreSome m c options.room → ⊥) writes none in
      let is = both.2 in
      both.3 (is.program, is.list, ran-read both.0 both.1 options is.program is.list is.settled is.has_run)
  writes-read (big calls options) told text b writes none =
      none (writes.program, writes.list, ran-read many.module_text (many.calls_text calls) options writes.program writes.list writes.settled writes.has_run)
  writes-read (eval module_name calls_name room) told text b writes none =
      let both = loaded told module_name calls_name (λ m c. Evaluated m c room text b) (λ m c. AreSome m c room → ⊥) writes none in
      let is = both.2 in
      both.3 (is.program, is.list, record { is_module = is.is_module; image = is.image; is_calls = is.is_calls })
  writes-read (sim module_name calls_name options) told text b writes none =
      let both = loaded told module_name calls_name (λ m c. Simulated m c options text b) (λ m c. AreSome m c options.room → ⊥) writes none in
      let is = both.2 in
      let ran = is.ran in
      both.3 (is.program, is.list, record { is_module = is.is_module; image = (ran.image, ran.has_image); is_calls = is.is_calls })
  writes-read (dump module_name level) told text b writes none =
      let same = same_text (told module_name) writes.0 none.0 writes.1 none.1 in
      let is = writes.2 in
      none.2 (is.program, subst (λ (m : List ℕ). IsCheckedText m dump_room is.program) same is.is_module)

  -- ---- all of a status

  the-line : (words : List (List ℕ)) (told : Told) (text : List ℕ) (b : Bool) (line : Line) → command_of words ≡ Some line → Answers marks words told text b → LineWrites marks line told text b
  the-line words told text b line is answers =
      let both : Some answers.0 ≡ Some line = sym answers.1 ∙ is in
      let same : answers.0 ≡ line = cc in
      subst (λ (l : Line). LineWrites marks l told text b) same answers.2

  -- with status 0, 1 or 5 the command writes a text
  writes-some : (words : List (List ℕ)) (told : Told) (before now : ℕ) (sinks : Sinks) (status : ℕ) → Finished marks words told before now sinks status
      → (line : Line) → command_of words ≡ Some line → (status ≡ 0) ⊎ (status ≡ 1) ⊎ (status ≡ 5) → (text : List ℕ) × (b : Bool) × LineWrites marks line told text b
  writes-some words told before now sinks status f line is (inl zero) = let w = f.answered zero in (w.0, false, the-line words told w.0 false line is w.1)
  writes-some words told before now sinks status f line is (inr (inl one)) = let w = f.unanswered one in (w.0, true, the-line words told w.0 true line is w.1)
  writes-some words told before now sinks status f line is (inr (inr five)) = let w = f.front five in (w.0, w.1, the-line words told w.0 w.1 line is w.2)

  -- with any other it stops
  stops-so : (words : List (List ℕ)) (told : Told) (before now : ℕ) (sinks : Sinks) (status : ℕ) → Finished marks words told before now sinks status
      → (line : Line) → command_of words ≡ Some line → status ≢ 0 → status ≢ 1 → status ≢ 5 → (stop : Stop) × (status_of stop ≡ status) × LineCause line told before now stop
  stops-so words told before now sinks status f line is zero one five =
      let s = f.stop zero one five in
      (s.0, s.1, subst (λ (found : Option Line). WordsCause found told before now s.0) is s.2)

  complete-by : QuickNeedIsOne → (words : List (List ℕ)) (told : Told) (before now : ℕ) (sinks : Sinks) (status : ℕ) → Finished marks words told before now sinks status
      → (line : Line) → command_of words ≡ Some line → HasAll line told → (Rose before now → ⊥) → (Rose sinks.out_before sinks.out_now → ⊥) → Kind status
      → (status ≡ 0) ⊎ (status ≡ 1) ⊎ (status ≡ 6)
  complete-by law words told before now sinks status f line is all calm quiet (Writes (inl zero)) = inl zero
  complete-by law words told before now sinks status f line is all calm quiet (Writes (inr (inl one))) = inr (inl one)
  complete-by law words told before now sinks status f line is all calm quiet (Writes (inr (inr five))) = absurd (quiet (f.write five))
  complete-by law words told before now sinks status f line is all calm quiet (Stops zero one five) =
      let s = stops-so words told before now sinks status f line is zero one five in
      inr (inr (six status s.0 s.1 (memory s.0 (caused line told before now s.0 s.2 calm))))
    where
      memory : (stop : Stop) → (stop ≡ NoMemory) ⊎ LineStops line told stop → stop ≡ NoMemory
      memory stop (inl same) = same
      memory stop (inr why) = line-fits law line told stop all why

  crowded-by : QuickNeedIsOne → (words : List (List ℕ)) (told : Told) (before now : ℕ) (sinks : Sinks) (status : ℕ) → Finished marks words told before now sinks status
      → (line : Line) → command_of words ≡ Some line → HasNoRoom line told → (Rose before now → ⊥) → Kind status → (status ≡ 7) ⊎ (status ≡ 6)
  crowded-by law words told before now sinks status f line is all calm (Writes which) =
      let w = writes-some words told before now sinks status f line is which in
      absurd (writes-fit law line told w.0 w.1 w.2 all)
  crowded-by law words told before now sinks status f line is all calm (Stops zero one five) =
      let s = stops-so words told before now sinks status f line is zero one five in
      of-room status s.0 s.1 (room s.0 (caused line told before now s.0 s.2 calm))
    where
      room : (stop : Stop) → (stop ≡ NoMemory) ⊎ LineStops line told stop → IsOfRoom stop
      room stop (inl same) = inl same
      room stop (inr why) = line-crowded line told stop all why

  refused-by : (words : List (List ℕ)) (told : Told) (before now : ℕ) (sinks : Sinks) (status : ℕ) → Finished marks words told before now sinks status
      → (line : Line) → command_of words ≡ Some line → IsRefused line told → (Rose before now → ⊥) → Kind status → (status ≡ 2) ⊎ (status ≡ 6)
  refused-by words told before now sinks status f line is none calm (Writes which) =
      let w = writes-some words told before now sinks status f line is which in
      absurd (writes-read line told w.0 w.1 w.2 none)
  refused-by words told before now sinks status f line is none calm (Stops zero one five) =
      let s = stops-so words told before now sinks status f line is zero one five in
      subst (λ (n : ℕ). (n ≡ 2) ⊎ (n ≡ 6)) s.1 (refused-status line told before now s.0 none s.2 calm)

  pub must : QuickNeedIsOne → (words : List (List ℕ)) (told : Told) (before now : ℕ) (sinks : Sinks) (status : ℕ) → Finished marks words told before now sinks status → Must words told before now sinks status
  must law words told before now sinks status f = record {
    complete = λ line is all calm quiet. complete-by law words told before now sinks status f line is all calm quiet (kind status);
    crowded = λ line is all calm. crowded-by law words told before now sinks status f line is all calm (kind status);
    refused = λ line is none calm. refused-by words told before now sinks status f line is none calm (kind status);
  }

  -- the same of a status that may not be there
  pub must_some : QuickNeedIsOne → (words : List (List ℕ)) (told : Told) (before now : ℕ) (sinks : Sinks) (r : Option ℕ) → IfSome r (λ (status : ℕ). Finished marks words told before now sinks status)
      → IfSome r (λ (status : ℕ). Must words told before now sinks status)
  must_some law words told before now sinks None f = tt
  must_some law words told before now sinks (Some status) f = must law words told before now sinks status f
