-- What a status says of how the program ended.
use Rattle.std.proofs.Common.{Result, Ok, Err, ◌≡◌, ◌≢◌, ℕ, ◌<◌, Bool, true, false, List, Option, Some, None, refl, sym, subst, ◌⊎◌, inl, inr, arith}
use Rattle.std.specs.Prelude.{◌↔◌, IfOk, OnOk, IfErr}
use Rattle.jit_main.specs.declared.answered.Answered.{Answered}
use Rattle.rj_io.specs.Faults.{Rose}
use Rattle.rj_io.specs.Sinks.{Took}
use Rattle.jit_main.specs.declared.stop.Stop.{Stop}
use Rattle.jit_main.specs.declared.stop.Stop.TheVariants.{Usage, CannotRead, Unread, Unverified, TooBig, Uncalled, NoRoom, NoMemory}
use Rattle.command_words.specs.Commands.{Line, command_of}
use Rattle.jit_main.specs.Ends.{LineWrites, LineStops, LineCause, WordsCause, Cause, Stops, TextRefused, TookFront, Wrote, Sinks, Stopped, StoppedWhy, SaidWhy, WithText, WithoutMemory, TakesMemory, Written, Finished, status_of, status_when}

abbrev Told : Type 0
Told = List ℕ → Option (List ℕ)

module _ (marks : List ℕ) where
  -- all was written, and each call is answered
  wrote-all : (words : List (List ℕ)) (told : Told) (before now : ℕ) (sinks : Sinks) (line : Line) (text : List ℕ) → command_of words ≡ Some line → LineWrites marks line told text false
      → now ≡ before → Took sinks.out_old sinks.out_new text → sinks.out_now ≡ sinks.out_before → sinks.err_new ≡ sinks.err_old → Finished marks words told before now sinks 0
  wrote-all words told before now sinks line text is writes kept took same said = record {
    answered = λ status. (text, (line, is, writes), took);
    unanswered = λ status. absurd cc;
    front = λ status. absurd cc;
    write = λ status. absurd cc;
    write_told = λ more. absurd (omega (arith, more, same));
    quiet = λ which. said;
    stop = λ zero one five. absurd (zero refl);
    usage = λ status. absurd cc;
    usage_told = λ none. absurd cc;
    load = λ status. absurd cc;
    load_told = λ more. absurd (omega (arith, more, kept));
    form = λ status. absurd cc;
    room = λ status. absurd cc;
  }

  -- all was written, and a call is unanswered
  wrote-unanswered : (words : List (List ℕ)) (told : Told) (before now : ℕ) (sinks : Sinks) (line : Line) (text : List ℕ) → command_of words ≡ Some line → LineWrites marks line told text true
      → now ≡ before → Took sinks.out_old sinks.out_new text → sinks.out_now ≡ sinks.out_before → sinks.err_new ≡ sinks.err_old → Finished marks words told before now sinks 1
  wrote-unanswered words told before now sinks line text is writes kept took same said = record {
    answered = λ status. absurd cc;
    unanswered = λ status. (text, (line, is, writes), took);
    front = λ status. absurd cc;
    write = λ status. absurd cc;
    write_told = λ more. absurd (omega (arith, more, same));
    quiet = λ which. said;
    stop = λ zero one five. absurd (one refl);
    usage = λ status. absurd cc;
    usage_told = λ none. absurd cc;
    load = λ status. absurd cc;
    load_told = λ more. absurd (omega (arith, more, kept));
    form = λ status. absurd cc;
    room = λ status. absurd cc;
  }

  wrote-whole : (words : List (List ℕ)) (told : Told) (before now : ℕ) (sinks : Sinks) (line : Line) (text : List ℕ) (b : Bool) → command_of words ≡ Some line → LineWrites marks line told text b
      → now ≡ before → Took sinks.out_old sinks.out_new text → sinks.out_now ≡ sinks.out_before → sinks.err_new ≡ sinks.err_old → Finished marks words told before now sinks (status_when b)
  wrote-whole words told before now sinks line text false is writes kept took same said = wrote-all words told before now sinks line text is writes kept took same said
  wrote-whole words told before now sinks line text true is writes kept took same said = wrote-unanswered words told before now sinks line text is writes kept took same said

  -- a front was written
  wrote-front : (words : List (List ℕ)) (told : Told) (before now : ℕ) (sinks : Sinks) (line : Line) (text : List ℕ) (b : Bool) → command_of words ≡ Some line → LineWrites marks line told text b
      → now ≡ before → TookFront sinks.out_old sinks.out_new text → Rose sinks.out_before sinks.out_now → sinks.err_new ≡ sinks.err_old → Finished marks words told before now sinks 5
  wrote-front words told before now sinks line text b is writes kept took rose said = record {
    answered = λ status. absurd cc;
    unanswered = λ status. absurd cc;
    front = λ status. (text, b, (line, is, writes), took);
    write = λ status. rose;
    write_told = λ more. refl;
    quiet = λ which. said;
    stop = λ zero one five. absurd (five refl);
    usage = λ status. absurd cc;
    usage_told = λ none. absurd cc;
    load = λ status. absurd cc;
    load_told = λ more. absurd (omega (arith, more, kept));
    form = λ status. absurd cc;
    room = λ status. absurd cc;
  }

  wrote-either : (words : List (List ℕ)) (told : Told) (before now : ℕ) (sinks : Sinks) (line : Line) (text : List ℕ) (b : Bool) (status : ℕ) → command_of words ≡ Some line → LineWrites marks line told text b
      → now ≡ before → Wrote text b sinks.out_old sinks.out_new sinks.out_before sinks.out_now status → sinks.err_new ≡ sinks.err_old → Finished marks words told before now sinks status
  wrote-either words told before now sinks line text b status is writes kept (inl whole) said =
      subst (λ (n : ℕ). Finished marks words told before now sinks n) (sym whole.0) (wrote-whole words told before now sinks line text b is writes kept whole.1 whole.2 said)
  wrote-either words told before now sinks line text b status is writes kept (inr cut) said =
      subst (λ (n : ℕ). Finished marks words told before now sinks n) (sym cut.0) (wrote-front words told before now sinks line text b is writes kept cut.1 cut.2 said)

  -- a text was written
  pub wrote : (words : List (List ℕ)) (told : Told) (before now : ℕ) (sinks : Sinks) (line : Line) (text : List ℕ) (b : Bool) (status : ℕ) → command_of words ≡ Some line → LineWrites marks line told text b
      → now ≡ before → Written text b status sinks → Finished marks words told before now sinks status
  wrote words told before now sinks line text b status is writes kept written = wrote-either words told before now sinks line text b status is writes kept written.wrote written.quiet

  -- a status of another kind
  none-of : (n : ℕ) → n ≢ 0 → n ≢ 1 → n ≢ 5 → (n ≡ 0) ⊎ (n ≡ 1) ⊎ (n ≡ 5) → ⊥
  none-of n zero one five (inl is) = zero is
  none-of n zero one five (inr (inl is)) = one is
  none-of n zero one five (inr (inr is)) = five is

  -- nothing was written: the words are no command
  stopped-usage : (words : List (List ℕ)) (told : Told) (before now : ℕ) (sinks : Sinks) → command_of words ≡ None → Cause words told before now Usage
      → now ≡ before → Stopped Usage 3 sinks → Finished marks words told before now sinks 3
  stopped-usage words told before now sinks is why kept stopped = record {
    answered = λ status. absurd cc;
    unanswered = λ status. absurd cc;
    front = λ status. absurd cc;
    write = λ status. absurd cc;
    write_told = λ more. absurd (omega (arith, more, stopped.faults));
    quiet = λ which. absurd (none-of 3 (λ is. absurd cc) (λ is. absurd cc) (λ is. absurd cc) which);
    stop = λ zero one five. (Usage, refl, why, stopped.out, stopped.said);
    usage = λ status. is;
    usage_told = λ none. inl refl;
    load = λ status. absurd cc;
    load_told = λ more. absurd (omega (arith, more, kept));
    form = λ status. absurd cc;
    room = λ status. absurd cc;
  }

  -- a load failed
  stopped-load : (words : List (List ℕ)) (told : Told) (before now : ℕ) (sinks : Sinks) (line : Line) (stop : Stop) → status_of stop ≡ 4 → command_of words ≡ Some line → Cause words told before now stop
      → Rose before now → Stopped stop 4 sinks → Finished marks words told before now sinks 4
  stopped-load words told before now sinks line stop four is why rose stopped = record {
    answered = λ status. absurd cc;
    unanswered = λ status. absurd cc;
    front = λ status. absurd cc;
    write = λ status. absurd cc;
    write_told = λ more. absurd (omega (arith, more, stopped.faults));
    quiet = λ which. absurd (none-of 4 (λ is. absurd cc) (λ is. absurd cc) (λ is. absurd cc) which);
    stop = λ zero one five. (stop, four, why, stopped.out, stopped.said);
    usage = λ status. absurd cc;
    usage_told = λ none. absurd cc;
    load = λ status. rose;
    load_told = λ more. refl;
    form = λ status. absurd cc;
    room = λ status. absurd cc;
  }

  -- what the files have is refused
  stopped-text : (words : List (List ℕ)) (told : Told) (before now : ℕ) (sinks : Sinks) (line : Line) (stop : Stop) → status_of stop ≡ 2 → command_of words ≡ Some line → Cause words told before now stop
      → LineStops line told stop → now ≡ before → Stopped stop 2 sinks → Finished marks words told before now sinks 2
  stopped-text words told before now sinks line stop two is why stops kept stopped = record {
    answered = λ status. absurd cc;
    unanswered = λ status. absurd cc;
    front = λ status. absurd cc;
    write = λ status. absurd cc;
    write_told = λ more. absurd (omega (arith, more, stopped.faults));
    quiet = λ which. absurd (none-of 2 (λ is. absurd cc) (λ is. absurd cc) (λ is. absurd cc) which);
    stop = λ zero one five. (stop, two, why, stopped.out, stopped.said);
    usage = λ status. absurd cc;
    usage_told = λ none. absurd cc;
    load = λ status. absurd cc;
    load_told = λ more. absurd (omega (arith, more, kept));
    form = λ status. (stop, two, (line, is, stops));
    room = λ status. absurd cc;
  }

  -- the code has no room
  stopped-room : (words : List (List ℕ)) (told : Told) (before now : ℕ) (sinks : Sinks) (line : Line) (needed had : ℕ) → command_of words ≡ Some line → Cause words told before now (NoRoom needed had)
      → LineStops line told (NoRoom needed had) → now ≡ before → Stopped (NoRoom needed had) 7 sinks → Finished marks words told before now sinks 7
  stopped-room words told before now sinks line needed had is why stops kept stopped = record {
    answered = λ status. absurd cc;
    unanswered = λ status. absurd cc;
    front = λ status. absurd cc;
    write = λ status. absurd cc;
    write_told = λ more. absurd (omega (arith, more, stopped.faults));
    quiet = λ which. absurd (none-of 7 (λ is. absurd cc) (λ is. absurd cc) (λ is. absurd cc) which);
    stop = λ zero one five. (NoRoom needed had, refl, why, stopped.out, stopped.said);
    usage = λ status. absurd cc;
    usage_told = λ none. absurd cc;
    load = λ status. absurd cc;
    load_told = λ more. absurd (omega (arith, more, kept));
    form = λ status. absurd cc;
    room = λ status. (needed, had, (line, is, stops));
  }

  -- there is no memory
  stopped-memory : (words : List (List ℕ)) (told : Told) (before now : ℕ) (sinks : Sinks) → Cause words told before now NoMemory
      → now ≡ before → Stopped NoMemory 6 sinks → Finished marks words told before now sinks 6
  stopped-memory words told before now sinks why kept stopped = record {
    answered = λ status. absurd cc;
    unanswered = λ status. absurd cc;
    front = λ status. absurd cc;
    write = λ status. absurd cc;
    write_told = λ more. absurd (omega (arith, more, stopped.faults));
    quiet = λ which. absurd (none-of 6 (λ is. absurd cc) (λ is. absurd cc) (λ is. absurd cc) which);
    stop = λ zero one five. (NoMemory, refl, why, stopped.out, stopped.said);
    usage = λ status. absurd cc;
    usage_told = λ none. inr refl;
    load = λ status. absurd cc;
    load_told = λ more. absurd (omega (arith, more, kept));
    form = λ status. absurd cc;
    room = λ status. absurd cc;
  }

  stopped-line : (words : List (List ℕ)) (told : Told) (before now : ℕ) (sinks : Sinks) (line : Line) (stop : Stop) → command_of words ≡ Some line → Cause words told before now stop
      → LineCause line told before now stop → Stopped stop (status_of stop) sinks → Finished marks words told before now sinks (status_of stop)
  stopped-line words told before now sinks line Usage is why cause stopped = absurd cause
  stopped-line words told before now sinks line (CannotRead name) is why cause stopped = stopped-load words told before now sinks line (CannotRead name) refl is why cause.1 stopped
  stopped-line words told before now sinks line (Unread refusal) is why cause stopped = stopped-text words told before now sinks line (Unread refusal) refl is why cause.0 cause.1 stopped
  stopped-line words told before now sinks line (Unverified module_ refusal) is why cause stopped = stopped-text words told before now sinks line (Unverified module_ refusal) refl is why cause.0 cause.1 stopped
  stopped-line words told before now sinks line (TooBig bytes size) is why cause stopped = stopped-text words told before now sinks line (TooBig bytes size) refl is why cause.0 cause.1 stopped
  stopped-line words told before now sinks line (Uncalled refusal) is why cause stopped = stopped-text words told before now sinks line (Uncalled refusal) refl is why cause.0 cause.1 stopped
  stopped-line words told before now sinks line (NoRoom needed had) is why cause stopped = stopped-room words told before now sinks line needed had is why cause.0 cause.1 stopped
  stopped-line words told before now sinks line NoMemory is why cause stopped = stopped-memory words told before now sinks why cause stopped

  stopped-that : (words : List (List ℕ)) (told : Told) (before now : ℕ) (sinks : Sinks) (line : Line) (stop : Stop) (status : ℕ) → command_of words ≡ Some line
      → LineCause line told before now stop → Stopped stop status sinks → Finished marks words told before now sinks status
  stopped-that words told before now sinks line stop status is cause stopped =
      let at : Finished marks words told before now sinks (status_of stop) =
      stopped-line words told before now sinks line stop is
      (subst (λ (found : Option Line). WordsCause found told before now stop) (sym is) cause)
      cause
      (subst (λ (n : ℕ). Stopped stop n sinks) stopped.status stopped)
      in subst (λ (n : ℕ). Finished marks words told before now sinks n) (sym stopped.status) at

  -- a refusal whose text takes memory came after both files were loaded
  kept-there : (line : Line) (told : Told) (before now : ℕ) (stop : Stop) → TakesMemory stop → LineCause line told before now stop → now ≡ before
  kept-there line told before now Usage takes cause = absurd takes
  kept-there line told before now (CannotRead name) takes cause = absurd takes
  kept-there line told before now (Unread refusal) takes cause = cause.1
  kept-there line told before now (Unverified module_ refusal) takes cause = cause.1
  kept-there line told before now (TooBig bytes size) takes cause = cause.1
  kept-there line told before now (Uncalled refusal) takes cause = cause.1
  kept-there line told before now (NoRoom needed had) takes cause = cause.1
  kept-there line told before now NoMemory takes cause = cause

  stopped-said : (words : List (List ℕ)) (told : Told) (before now : ℕ) (sinks : Sinks) (line : Line) (stop : Stop) (status : ℕ) → command_of words ≡ Some line
      → LineCause line told before now stop → sinks.out_new ≡ sinks.out_old → sinks.out_now ≡ sinks.out_before
      → SaidWhy stop status sinks.err_old sinks.err_new sinks.err_before sinks.err_now → Finished marks words told before now sinks status
  stopped-said words told before now sinks line stop status is cause out faults (WithText at said) =
      stopped-that words told before now sinks line stop status is cause (record { status = at; out = out; faults = faults; said = said })
  stopped-said words told before now sinks line stop status is cause out faults (WithoutMemory takes at said) =
      stopped-that words told before now sinks line NoMemory status is (kept-there line told before now stop takes cause)
      (record { status = at; out = out; faults = faults; said = said })

  -- a command stopped
  pub stopped : (words : List (List ℕ)) (told : Told) (before now : ℕ) (sinks : Sinks) (line : Line) (stop : Stop) (status : ℕ) → command_of words ≡ Some line
      → LineCause line told before now stop → StoppedWhy stop status sinks → Finished marks words told before now sinks status
  stopped words told before now sinks line stop status is cause why = stopped-said words told before now sinks line stop status is cause why.out why.faults why.said

  no_command-said : (words : List (List ℕ)) (told : Told) (before now : ℕ) (sinks : Sinks) (status : ℕ) → command_of words ≡ None → now ≡ before
      → sinks.out_new ≡ sinks.out_old → sinks.out_now ≡ sinks.out_before
      → SaidWhy Usage status sinks.err_old sinks.err_new sinks.err_before sinks.err_now → Finished marks words told before now sinks status
  no_command-said words told before now sinks status is kept out faults (WithText at said) =
      let done : Finished marks words told before now sinks 3 =
      stopped-usage words told before now sinks is
      (subst (λ (found : Option Line). WordsCause found told before now Usage) (sym is) kept)
      kept
      (record { status = refl; out = out; faults = faults; said = said })
      in subst (λ (n : ℕ). Finished marks words told before now sinks n) (sym at) done
  no_command-said words told before now sinks status is kept out faults (WithoutMemory takes at said) = absurd takes

  -- the words are no command
  pub no_command : (words : List (List ℕ)) (told : Told) (before now : ℕ) (sinks : Sinks) (status : ℕ) → command_of words ≡ None → now ≡ before
      → StoppedWhy Usage status sinks → Finished marks words told before now sinks status
  no_command words told before now sinks status is kept why = no_command-said words told before now sinks status is kept why.out why.faults why.said

  -- whatever the words are
  memory-cause : (found : Option Line) (told : Told) (before now : ℕ) → now ≡ before → WordsCause found told before now NoMemory
  memory-cause None told before now same = same
  memory-cause (Some line) told before now same = same

  no_words-said : (words : List (List ℕ)) (told : Told) (before now : ℕ) (sinks : Sinks) (status : ℕ) → now ≡ before
      → sinks.out_new ≡ sinks.out_old → sinks.out_now ≡ sinks.out_before
      → SaidWhy NoMemory status sinks.err_old sinks.err_new sinks.err_before sinks.err_now → Finished marks words told before now sinks status
  no_words-said words told before now sinks status kept out faults (WithText at said) =
      subst (λ (n : ℕ). Finished marks words told before now sinks n) (sym at)
      (stopped-memory words told before now sinks (memory-cause (command_of words) told before now kept) kept (record { status = refl; out = out; faults = faults; said = said }))
  no_words-said words told before now sinks status kept out faults (WithoutMemory takes at said) =
      subst (λ (n : ℕ). Finished marks words told before now sinks n) (sym at)
      (stopped-memory words told before now sinks (memory-cause (command_of words) told before now kept) kept (record { status = refl; out = out; faults = faults; said = said }))

  -- there is no memory to read the words
  pub no_words : (words : List (List ℕ)) (told : Told) (before now : ℕ) (sinks : Sinks) (status : ℕ) → now ≡ before
      → StoppedWhy NoMemory status sinks → Finished marks words told before now sinks status
  no_words words told before now sinks status kept why = no_words-said words told before now sinks status kept why.out why.faults why.said

  -- a command of these words came to its end
  pub ended_by : (words : List (List ℕ)) (told : Told) (before now : ℕ) (sinks : Sinks) (line : Line) (ended : Result Answered Stop) (status : ℕ) → command_of words ≡ Some line
      → IfOk ended (λ a. LineWrites marks line told a.text.items a.is_unanswered) → OnOk ended (now ≡ before) → IfErr ended (λ stop. LineCause line told before now stop)
      → IfOk ended (λ a. Written a.text.items a.is_unanswered status sinks) → IfErr ended (λ stop. StoppedWhy stop status sinks) → Finished marks words told before now sinks status
  ended_by words told before now sinks line (Ok a) status is writes kept cause written why = wrote words told before now sinks line a.text.items a.is_unanswered status is writes kept written
  ended_by words told before now sinks line (Err stop) status is writes kept cause written why = stopped words told before now sinks line stop status is cause why
