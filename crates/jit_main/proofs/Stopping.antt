-- Why a command stops, by its texts.
use Rattle.std.proofs.Common.{◌≡◌, ℕ, List, Option, refl}
use Rattle.jit_main.specs.declared.stop.Stop.{Stop}
use Rattle.jit_main.specs.declared.stop.Stop.TheVariants.{Usage, CannotRead, Unread, Unverified, TooBig, Uncalled, NoRoom, NoMemory}
use Rattle.command_words.specs.Commands.{Line, run, big, eval, sim, dump}
use Rattle.ir_core.specs.Program.{Program}
use Rattle.jit_main.specs.Run.{QuickStop}
use Rattle.jit_main.specs.Ends.{ModuleStop, FrontStop, RunStop, LineStops, LineCause}

-- a module that isn't there has no calls
pub without_module : (module_text calls_text : List ℕ) (room : ℕ) (stop : Stop) → ModuleStop module_text stop → FrontStop module_text calls_text room stop
without_module m c r Usage why = absurd why
without_module m c r (CannotRead name) why = absurd why
without_module m c r (Unread refusal) why = why
without_module m c r (Unverified module_ refusal) why = why
without_module m c r (TooBig bytes size) why = absurd why
without_module m c r (Uncalled refusal) why = absurd why
without_module m c r (NoRoom needed had) why = absurd why
without_module m c r NoMemory why = tt

-- nor is it run
pub without_front : (module_text calls_text : List ℕ) (room code_words : ℕ) (stop : Stop) → FrontStop module_text calls_text room stop → RunStop module_text calls_text room code_words stop
without_front m c r w Usage why = absurd why
without_front m c r w (CannotRead name) why = absurd why
without_front m c r w (Unread refusal) why = why
without_front m c r w (Unverified module_ refusal) why = why
without_front m c r w (TooBig bytes size) why = why
without_front m c r w (Uncalled refusal) why = why
without_front m c r w (NoRoom needed had) why = absurd why
without_front m c r w NoMemory why = tt

-- what was loaded doesn't stop a command as if its words or files were wrong
no-usage : (line : Line) (told : List ℕ → Option (List ℕ)) → LineStops line told Usage → ⊥
no-usage (run module_name calls_name options) told why = why.3
no-usage (big calls options) told why = why
no-usage (eval module_name calls_name room) told why = why.3
no-usage (sim module_name calls_name options) told why = why.3
no-usage (dump module_name level) told why = why.2

pub cause_of : (line : Line) (told : List ℕ → Option (List ℕ)) (before now : ℕ) (stop : Stop)
    → LineStops line told stop → now ≡ before → LineCause line told before now stop
cause_of line told before now Usage why same = absurd (no-usage line told why)
cause_of (run module_name calls_name options) told before now (CannotRead name) why same = absurd why.3
cause_of (big calls options) told before now (CannotRead name) why same = absurd why
cause_of (eval module_name calls_name room) told before now (CannotRead name) why same = absurd why.3
cause_of (sim module_name calls_name options) told before now (CannotRead name) why same = absurd why.3
cause_of (dump module_name level) told before now (CannotRead name) why same = absurd why.2
cause_of line told before now (Unread refusal) why same = (why, same)
cause_of line told before now (Unverified module_ refusal) why same = (why, same)
cause_of line told before now (TooBig bytes size) why same = (why, same)
cause_of line told before now (Uncalled refusal) why same = (why, same)
cause_of line told before now (NoRoom needed had) why same = (why, same)
cause_of line told before now NoMemory why same = same
