-- The listing of a module's code.
use Rattle.std.specs.Prelude.{◌≡◌, ℕ, List}
use Rattle.ir_core.specs.Program.{Program}
use Rattle.rv_play.specs.declared.version.Version.{Version}
use Rattle.jit_text.specs.Parts.{parts}
use Rattle.fast_isel.specs.Modules.{AreQuick}
use Rattle.jit_main.specs.Run.{IsCheckedText}

-- the bytes of data memory of a module that is listed
abbrev pub dump_room : ℕ
dump_room = 1048576

-- the text is that of a module, and it is listed: one part per function, the heading and the listing of its quick code, a good version
-- of it of that level, which is 1
pub record Dumped (module_text : List ℕ) (level : ℕ) (text : List ℕ) : Type 0 where
  pub program : Program
  pub versions : List Version
  pub is_module : IsCheckedText module_text dump_room program
  pub first : level ≡ 1
  pub quick : AreQuick program versions
  pub listed : text ≡ parts program.module_.functions versions
