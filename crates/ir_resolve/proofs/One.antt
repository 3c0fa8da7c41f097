-- The named types of a tree are one, or something is wrong with them.
use Rattle.std.proofs.Common.{◌≡◌, ◌⊎◌, inl, inr, List, refl, sym, ◌∙◌, ap, subst, Result, Ok, Err}
use Rattle.ir_tree.specs.declared.tree.NamedType.{NamedType}
use Rattle.ir_types.specs.declared.fault.Fault.{Fault}
use Rattle.ir_types.specs.declared.fault.Fault.TheVariants as faults
use Rattle.ir_types.specs.declared.names.Table.{Table}
use Rattle.ir_types.specs.declared.table.Types.{Types}
use Rattle.ir_types.specs.Replaced.{Definitions}
use Rattle.ir_types.specs.Summaries.{AreResolved, IsUnresolved}
use Rattle.ir_types.proofs.TypeLists.{same_Ok, err-ok}
use Rattle.ir_types.proofs.Following.{one_resolution}
use Rattle.ir_types.proofs.Grounds.{unresolved}
use Rattle.ir_resolve.specs.Named.{names_of, bodies_of, IsTypesOf, IsWrong}

pub one_types : (given : List NamedType) (a b : Types) → IsTypesOf given a → IsTypesOf given b → a ≡ b
one_types given a b x y =
    let names : a.names ≡ b.names = same_Ok a.names b.names (sym x.0 ∙ y.0) in
    let bodies : a.bodies ≡ b.bodies = same_Ok a.bodies b.bodies (sym x.1 ∙ ap (λ n. bodies_of n given) names ∙ y.1) in
    let entries : a.entries ≡ b.entries = one_resolution a.bodies a.entries b.entries x.2 (subst (λ d. AreResolved d b.entries) (sym bodies) y.2) in
    together a.names b.names a.bodies b.bodies names bodies (ap (λ k. record { names = a.names; bodies = a.bodies; entries = k }) entries)
  where
    together : (n m : Table) (d c : Definitions) → n ≡ m → d ≡ c → a ≡ record { names = n; bodies = d; entries = b.entries } → a ≡ record { names = m; bodies = c; entries = b.entries }
    together n m d c same also is = is ∙ ap (λ k. record { names = k; bodies = d; entries = b.entries }) same ∙ ap (λ k. record { names = m; bodies = k; entries = b.entries }) also

none_resolved : (bodies : Definitions) (e : Fault) → (e ≡ faults.NoMemory → ⊥) → IsUnresolved bodies e → (types : Types) → AreResolved bodies types.entries → ⊥
none_resolved bodies faults.NoMemory apart bad types are = apart refl
none_resolved bodies (faults.Name left) apart bad types are = unresolved bodies left bad types.entries are
none_resolved bodies (faults.Syntax left) apart bad types are = bad
none_resolved bodies (faults.LeftOut left) apart bad types are = bad
none_resolved bodies (faults.Limit what count) apart bad types are = bad

-- where something is wrong with them, there are none
pub none_wrong : (given : List NamedType) (e : Fault) → (e ≡ faults.NoMemory → ⊥) → IsWrong given e → (types : Types) → IsTypesOf given types → ⊥
none_wrong given e apart (inl names) types are = err-ok e types.names (sym names ∙ are.0)
none_wrong given e apart (inr (names, is, bad)) types are = by (same_Ok types.names names (sym are.0 ∙ is)) bad
  where
    by : types.names ≡ names → (bodies_of names given ≡ Err e) ⊎ ((bodies : Definitions) × (bodies_of names given ≡ Ok bodies) × IsUnresolved bodies e) → ⊥
    by same (inl bodies) = err-ok e types.bodies (sym bodies ∙ ap (λ n. bodies_of n given) (sym same) ∙ are.1)
    by same (inr (bodies, made, wrong)) =
        let one : types.bodies ≡ bodies = same_Ok types.bodies bodies (sym are.1 ∙ ap (λ n. bodies_of n given) same ∙ made) in
        none_resolved bodies e apart wrong types (subst (λ d. AreResolved d types.entries) one are.2)
