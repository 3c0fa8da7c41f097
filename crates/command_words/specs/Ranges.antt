-- The ranges of what the commands take.
use Rattle.std.specs.Prelude.{◌≡◌, ◌≤◌, ◌%◌, ℕ}
use Rattle.command_words.specs.declared.line.RunOptions.{RunOptions}
use Rattle.command_words.specs.declared.line.SimOptions.{SimOptions}
use Rattle.command_words.specs.declared.line.CommandLine.{CommandLine}
use Rattle.command_words.specs.declared.line.CommandLine.TheVariants.{Run, Big, Eval, Sim, Dump}
use Rattle.command_words.specs.declared.line.TheConstants.{GREATEST_LEVEL}

abbrev pub IsBetween : ℕ → ℕ → ℕ → Type 0
IsBetween least most n = (least ≤ n) × (n ≤ most)

-- bytes of data memory
abbrev pub IsRoom : ℕ → Type 0
IsRoom room = (4096 ≤ room) × (room ≤ 67108864) × (room % 16 ≡ 0)

abbrev pub AreRunOptions : RunOptions → Type 0
AreRunOptions options = IsBetween 1 16 options.harts × IsBetween 0 8 options.workers × IsBetween 1 4194304 options.code_words × IsRoom options.room

abbrev pub AreSimOptions : SimOptions → Type 0
AreSimOptions options = IsBetween 0 1000000 options.steps × IsBetween 1 16 options.harts × IsBetween 1 4194304 options.code_words × IsRoom options.room

abbrev pub IsInRange : CommandLine → Type 0
IsInRange (Run module_name calls_name options) = AreRunOptions options
IsInRange (Big calls options) = IsBetween 1 65536 calls × AreRunOptions options
IsInRange (Eval module_name calls_name room) = IsRoom room
IsInRange (Sim module_name calls_name options) = AreSimOptions options
IsInRange (Dump module_name level) = IsBetween 1 GREATEST_LEVEL level
