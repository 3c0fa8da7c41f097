-- What is printed of a module reads back as it.
use Rattle.std.specs.Prelude.{◌≤◌, length}
use Rattle.ir_core.specs.declared.program.Module.{Module}
use Rattle.ir_tree.specs.declared.tree.Tree.{Tree}
use Rattle.ir_functions.specs.Functions.{IsModuleOf}
use Rattle.ir_reader.specs.Reads.{Reads}
use Rattle.ir_print.specs.Modules.{module_text}
use Rattle.ir_print_laws.specs.ModuleTrees.{IsModuleTree}
use Rattle.ir_print_laws.specs.Written.{IsWritten}
use Rattle.ir_print_laws.specs.Fits.{FitsModule}

-- a tree of a module whose parts fit says this module
abbrev pub TreesSayModules : Type 0
TreesSayModules = (m : Module) (tree : Tree) → FitsModule m → IsModuleTree m tree → IsModuleOf tree m

-- a module whose parts fit is written as a text of the grammar, where that isn't longer than a text may be
abbrev pub FitsIsWritten : Type 0
FitsIsWritten = (m : Module) → FitsModule m → length (module_text m) ≤ 4194304 → IsWritten m

-- a module whose parts fit reads back from its printed text, where that isn't longer than a text may be
abbrev pub PrintsBack : Type 0
PrintsBack = (m : Module) → FitsModule m → length (module_text m) ≤ 4194304 → Reads (module_text m) m
