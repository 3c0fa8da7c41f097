-- The text of a printed module reads as this module alone.
use Rattle.std.proofs.Common.{◌≡◌, ◌≤◌, List, [], ◌∷◌, length, Result, Ok, refl, sym, ◌∙◌, ap, subst, arith}
use Rattle.ir_core.specs.declared.program.Module.{Module}
use Rattle.ir_types.specs.declared.fault.Fault.{Fault}
use Rattle.ir_types.specs.Walk.{walk}
use Rattle.ir_types.specs.declared.names.Table.{Table}
use Rattle.ir_types.specs.declared.table.Types.{Types}
use Rattle.ir_types.specs.declared.summary.Entry.{Entry}
use Rattle.ir_types.specs.Replaced.{Definitions}
use Rattle.ir_resolve.specs.Named.{names_of, bodies_of, IsTypesOf}
use Rattle.ir_tree.specs.declared.tree.Tree.{Tree}
use Rattle.ir_tree.specs.declared.tree.NamedType.{NamedType}
use Rattle.ir_functions.specs.Functions.{module_with, IsModuleOf}
use Rattle.ir_reader.specs.Reads.{Reads}
use Rattle.ir_reader.proofs.Refusals.{one_tree}
use Rattle.ir_print.specs.Modules.{module_text as printed}
use Rattle.ir_print_laws.specs.TreeLaws.{ModulesReadBack}
use Rattle.ir_print_laws.specs.Fits.{FitsModule, no_types}
use Rattle.ir_print_laws.specs.PrintLaws.{TreesSayModules, FitsIsWritten}

no_items : {X : Type 0} (xs : List X) → length xs ≡ 0 → [] ≡ xs
no_items [] e = refl
no_items (x ∷ xs) e = absurd (omega (arith, e))

same_ok : {X : Type 0} (x y : X) → ◌≡◌ {A = Result X Fault} (Ok x) (Ok y) → x ≡ y
same_ok x y e = cc

abbrev tables : Table → Definitions → List Entry → Types
tables names bodies entries = record { names = names; bodies = bodies; entries = entries }

-- where there are no named types, there is nothing in their tables
types_one : (types : Types) → IsTypesOf [] types → no_types ≡ types
unfolding names_of bodies_of walk
types_one types is =
    let names = same_ok no_types.names types.names is.0 in
    let bodies = same_ok no_types.bodies types.bodies is.1 in
    let entries = no_items types.entries (is.2.size ∙ ap (λ (all : Definitions). length all) (sym bodies)) in
    ap (λ (x : Table). tables x [] []) names ∙ ap (λ (x : Definitions). tables types.names x []) bodies ∙ ap (λ (x : List Entry). tables types.names types.bodies x) entries

-- a tree without named types says one module
said_with : (tree : Tree) (m : Module) → tree.types ≡ [] → IsModuleOf tree m → module_with no_types tree ≡ Ok m
said_with tree m none is =
    let same : no_types ≡ is.0 = types_one is.0 (subst (λ (types : List NamedType). IsTypesOf types is.0) none is.1) in
    subst (λ (types : Types). module_with types tree ≡ Ok m) (sym same) is.2

one_module : (tree : Tree) (m other : Module) → tree.types ≡ [] → IsModuleOf tree m → IsModuleOf tree other → other ≡ m
one_module tree m other none is also = same_ok other m (sym (said_with tree other none also) ∙ said_with tree m none is)

pub reads_alone : ModulesReadBack → FitsIsWritten → TreesSayModules → (m other : Module) → FitsModule m → length (printed m) ≤ 4194304 → Reads (printed m) other → other ≡ m
reads_alone back written say m other fits few r =
    let h = back m (written m fits few) in
    let same : r.1.0 ≡ h.0 = one_tree (printed m) r.1.0 h.0 r.1.1 h.1 in
    one_module h.0 m other h.2.0 (say m h.0 fits h.2) (subst (λ (tree : Tree). IsModuleOf tree other) same r.1.2)
