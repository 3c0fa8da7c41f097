-- Parameters and phis, one after another.
use Rattle.std.proofs.Common.{◌≡◌, refl, sym, ap, ◌∙◌, ℕ, zero, suc, ◌+◌, ◌<◌, ◌≤◌, List, [], ◌∷◌, ◌++◌, length, map, drop, get_or, arith, append_assoc}
use Rattle.std.specs.Prelude.{slice_get, slice_index_or, None}
use Rattle.std.proofs.Math.Seq.{drop-cons}
use Rattle.std.proofs.lemmas.List.{append-nil, drop_all}
use Rattle.ir_core.specs.declared.types.Ty.{Ty}
use Rattle.ir_core.specs.declared.types.Ty.TheVariants.{Void}
use Rattle.ir_core.specs.declared.code.Inst.{Inst}
use Rattle.ir_core.specs.declared.program.Function.{Function}
use Rattle.ir_core.specs.declared.program.Global.{Global}
use Rattle.gmir.specs.declared.code.GInst.{GInst}
use Rattle.gmir.specs.declared.code.GOp.TheVariants.{Param, Phi}
use Rattle.generic_code.specs.Literals.{plain}
use Rattle.generic_code.specs.Edges.{Edge}
use Rattle.generic_code.specs.Whole.{params_code, phis_code}

next : {A : Type 0} (xs : List A) (i : ℕ) (d : A) → i < length xs → drop i xs ≡ get_or xs i d ∷ drop (i + 1) xs
next xs i d lt = drop-cons xs i d lt ∙ ap (λ (n : ℕ). get_or xs i d ∷ drop n xs) (let one : suc i ≡ i + 1 = omega arith in one)

pub params-next : (insts new total : List GInst) (params : List Ty) (i : ℕ) (param : GInst) → i < length params → insts ++ params_code i (drop i params) ≡ total
    → new ≡ insts ++ param ∷ [] → param ≡ plain Param (i ∷ []) [] i → new ++ params_code (i + 1) (drop (i + 1) params) ≡ total
params-next insts new total params i param lt h e is =
    ap (λ (xs : List GInst). xs ++ params_code (i + 1) (drop (i + 1) params)) (e ∙ ap (λ (x : GInst). insts ++ x ∷ []) is)
    ∙ append_assoc insts (plain Param (i ∷ []) [] i ∷ []) (params_code (i + 1) (drop (i + 1) params))
    ∙ ap (λ (tys : List Ty). insts ++ params_code i tys) (sym (next params i Void lt))
    ∙ h

pub params-end : (insts total : List GInst) (params : List Ty) (i : ℕ) → length params ≤ i → insts ++ params_code i (drop i params) ≡ total → insts ≡ total
params-end insts total params i le h = sym (append-nil insts) ∙ ap (λ (tys : List Ty). insts ++ params_code i tys) (sym (drop_all i params le)) ∙ h

some-drop : {A : Type 0} (xs : List A) (i : ℕ) → i < length xs → (x : A) × (drop i xs ≡ x ∷ drop (suc i) xs)
some-drop [] i lt = absurd (let bad : ⊥ = omega (arith, lt) in bad)
some-drop (x ∷ xs) zero lt = (x, refl)
some-drop (x ∷ xs) (suc i) lt = some-drop xs i (omega (arith, lt))

some-next : {A : Type 0} (xs : List A) (i : ℕ) → i < length xs → (x : A) × (drop i xs ≡ x ∷ drop (i + 1) xs)
some-next xs i lt =
    let found = some-drop xs i lt in
    (found.0, found.1 ∙ ap (λ (n : ℕ). found.0 ∷ drop n xs) (let one : suc i ≡ i + 1 = omega arith in one))

module _ (globals : List Global) (function : Function) where
  abbrev phi_of : ℕ → ℕ → List Edge → GInst
  phi_of value place edges = record { op = Phi; defs = value ∷ []; uses = map (λ (edge : Edge). slice_index_or edge.uses place 0) edges; num = 0; to = map (λ (edge : Edge). edge.at) edges }

  pub phis-next : (insts new total : List GInst) (value : ℕ) (phis : List Inst) (edges : List Edge) (i : ℕ) (phi : GInst) → i < length phis
      → insts ++ phis_code globals function (value + i) i edges (drop i phis) ≡ total → new ≡ insts ++ phi ∷ [] → phi ≡ phi_of (value + i) i edges
      → new ++ phis_code globals function (value + (i + 1)) (i + 1) edges (drop (i + 1) phis) ≡ total
  phis-next insts new total value phis edges i phi lt h e is =
      ap (λ (xs : List GInst). xs ++ phis_code globals function (value + (i + 1)) (i + 1) edges (drop (i + 1) phis)) (e ∙ ap (λ (x : GInst). insts ++ x ∷ []) is)
      ∙ append_assoc insts (phi_of (value + i) i edges ∷ []) (phis_code globals function (value + (i + 1)) (i + 1) edges (drop (i + 1) phis))
      ∙ ap (λ (n : ℕ). insts ++ phi_of (value + i) i edges ∷ phis_code globals function n (i + 1) edges (drop (i + 1) phis)) (let one : value + (i + 1) ≡ value + i + 1 = omega arith in one)
      ∙ ap (λ (is' : List Inst). insts ++ phis_code globals function (value + i) i edges is') (sym (some-next phis i lt).1)
      ∙ h

  pub phis-end : (insts total : List GInst) (value : ℕ) (phis : List Inst) (edges : List Edge) (i : ℕ) → length phis ≤ i
      → insts ++ phis_code globals function (value + i) i edges (drop i phis) ≡ total → insts ≡ total
  phis-end insts total value phis edges i le h =
      sym (append-nil insts) ∙ ap (λ (is' : List Inst). insts ++ phis_code globals function (value + i) i edges is') (sym (drop_all i phis le)) ∙ h

pub index-none : {A : Type 0} (xs : List A) (i : ℕ) (d : A) → slice_get xs i ≡ None → slice_index_or xs i d ≡ d
index-none [] zero d e = refl
index-none [] (suc i) d e = refl
index-none (x ∷ xs) zero d e = absurd (let bad : ⊥ = cc in bad)
index-none (x ∷ xs) (suc i) d e = index-none xs i d e
