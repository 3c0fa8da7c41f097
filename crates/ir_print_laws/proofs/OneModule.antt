-- A text reads as one module.
use Rattle.std.proofs.Common.{◌≡◌, ℕ, List, Ok, sym, ap, subst, ◌∙◌}
use Rattle.ir_core.specs.declared.program.Module.{Module}
use Rattle.ir_tree.specs.declared.tree.Tree.{Tree}
use Rattle.ir_resolve.proofs.One.{one_types}
use Rattle.ir_functions.specs.Functions.{module_with, IsModuleOf}
use Rattle.ir_reader.specs.Reads.{Reads}
use Rattle.ir_reader.proofs.Refusals.{one_tree}
use Rattle.ir_print_laws.proofs.Inverting.{same_ok}

one-said : (tree : Tree) (a b : Module) → IsModuleOf tree a → IsModuleOf tree b → a ≡ b
one-said tree a b x y = same_ok a b (sym x.2 ∙ ap (λ types. module_with types tree) (one_types tree.types x.0 y.0 x.1 y.1) ∙ y.2)

pub one-module : (text : List ℕ) (a b : Module) → Reads text a → Reads text b → a ≡ b
one-module text a b x y = one-said y.1.0 a b (subst (λ (tree : Tree). IsModuleOf tree a) (one_tree text x.1.0 y.1.0 x.1.1 y.1.1) x.1.2) y.1.2
