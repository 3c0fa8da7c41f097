-- Code as it is written.
use Rattle.std.specs.Prelude.{List, ◌++◌, map}
use Rattle.rv_asm.specs.declared.item.Item.TheVariants as asm
use Rattle.rv_core.specs.declared.instr.Instr.{Instr}
use Rattle.rv_asm.specs.Code.{Code}

-- code with these instructions behind it
unfoldable pub put_code : Code → List Instr → Code
put_code code instrs = record code { items = code.items ++ map asm.Plain instrs }
