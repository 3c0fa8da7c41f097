-- A type that is whole, in the open ones around it.
use Rattle.std.proofs.Common.{◌≡◌, ℕ, List, [], ◌∷◌, ◌++◌, Bool, sym, ◌∙◌, ap, Some, Result, Ok}
use Rattle.std.specs.Prelude.{reverse}
use Rattle.std.proofs.lemmas.List.{reverse-append, reverse-reverse}
use Rattle.ir_core.specs.declared.types.MemTy.{MemTy}
use Rattle.ir_core.specs.declared.types.MemTy as types
use Rattle.ir_types.specs.declared.fault.Fault.{Fault}
use Rattle.ir_types.specs.declared.build.OpenType.{OpenType}
use Rattle.ir_types.specs.declared.build.OpenType.TheVariants as opens
use Rattle.ir_types.specs.declared.build.Builder.{Builder}
use Rattle.ir_types.specs.Build.{completed, begun}

last_first : (outer now : List OpenType) (one other : OpenType) → outer ≡ now ++ one ∷ [] → one ≡ other → reverse outer ≡ other ∷ reverse now
last_first outer now one other is same = ap reverse (is ∙ ap (λ x. now ++ x ∷ []) same) ∙ reverse-append now (other ∷ [])

pub array_goes_on : (outer now : List OpenType) (one : OpenType) (count : ℕ) (ty element : MemTy) (all : Builder) → outer ≡ now ++ one ∷ [] → one ≡ opens.Array count → element ≡ ty → completed ty (reverse outer) ≡ all → completed (types.Array count element) (reverse now) ≡ all
unfolding completed
array_goes_on outer now one count ty element all is same inner e =
    ap (λ (t : MemTy). completed (types.Array count t) (reverse now)) inner ∙ sym (ap (completed ty) (last_first outer now one (opens.Array count) is same)) ∙ e

pub struct_goes_on : (outer now : List OpenType) (one : OpenType) (fields : List MemTy) (packed : Bool) (ty : MemTy) (all : Builder) → outer ≡ now ++ one ∷ [] → one ≡ opens.Struct fields packed → completed ty (reverse outer) ≡ all → begun now (opens.Struct (fields ++ ty ∷ []) packed) ≡ all
unfolding completed
struct_goes_on outer now one fields packed ty all is same e =
    ap (λ xs. begun xs (opens.Struct (fields ++ ty ∷ []) packed)) (sym (reverse-reverse now)) ∙ sym (ap (completed ty) (last_first outer now one (opens.Struct fields packed) is same)) ∙ e

pub whole_at_last : (outer now : List OpenType) (ty : MemTy) (all : Builder) → outer ≡ [] → now ≡ [] → completed ty (reverse outer) ≡ all → ◌≡◌ {A = Result Builder Fault} (Ok all) (Ok (record { outer = now; done = Some ty }))
unfolding completed
whole_at_last outer now ty all none empty e = ap Ok (sym e ∙ ap (λ xs. completed ty (reverse xs)) none ∙ ap (λ xs. record { outer = xs; done = Some ty }) (sym empty))
