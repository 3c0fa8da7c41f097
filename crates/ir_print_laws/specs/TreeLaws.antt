-- What is printed of a module is a text of its tree.
use Rattle.ir_core.specs.declared.program.Module.{Module}
use Rattle.ir_tree.specs.declared.tree.Tree.{Tree}
use Rattle.ir_tree.specs.Modules.{IsTextOf}
use Rattle.ir_print.specs.Modules.{module_text}
use Rattle.ir_print_laws.specs.ModuleTrees.{IsModuleTree}
use Rattle.ir_print_laws.specs.Written.{IsWritten}

-- the text of a module whose parts have the forms of the grammar is a text of the module's tree
abbrev pub ModulesReadBack : Type 0
ModulesReadBack = (m : Module) → IsWritten m → (tree : Tree) × IsTextOf (module_text m) tree × IsModuleTree m tree
