-- What a function that is formed and legal is shown by: its types, and instructions that jump nowhere.
use Rattle.std.proofs.Common.{◌≡◌, refl, sym, subst, ap, ◌∙◌, ℕ, zero, suc, ◌≤◌, ◌==◌, ◌⊎◌, inl, inr, false, true, List, [], ◌∷◌, length, Some, None, Result, Ok, Err, arith}
use Rattle.std.specs.Prelude.{slice_get, unwrap_or, IfOk}
use Rattle.std.proofs.lemmas.Bool.{false≢true}
use Rattle.gmir.specs.declared.code.GType.{GType}
use Rattle.gmir.specs.declared.code.GType.TheVariants.{S, P0}
use Rattle.gmir.specs.declared.code.GInst.{GInst}
use Rattle.gmir.specs.declared.code.GFunction.{GFunction}
use Rattle.gmir.specs.Play.{is_phi}
use Rattle.mir.specs.declared.code.MFunction.{MFunction}
use Rattle.selected_code.specs.Selected.{selected}
use Rattle.gmir.specs.Formed.{IsInstAt, IsParamAt, HasForm, AllExist, AllAssigned, AssignedBy, targets, is_end, is_param, takes_data}

pub nothing : {A B : Type 0} (x : A) → None ≡ Some x → B
nothing x e = absurd (let bad : ⊥ = cc in bad)

pub same : {A : Type 0} (x y : A) → Some x ≡ Some y → x ≡ y
same x y e = ap (λ o. unwrap_or o x) e

-- ---- types

abbrev pub AllLegal : List GType → Type 0
AllLegal [] = Unit {0}
AllLegal (ty ∷ types) = ((ty ≡ S 64) ⊎ (ty ≡ P0)) × AllLegal types

pub legal_at : (types : List GType) → AllLegal types → (r : ℕ) (ty : GType) → slice_get types r ≡ Some ty → (ty ≡ S 64) ⊎ (ty ≡ P0)
legal_at [] all r ty e = nothing ty e
legal_at (first ∷ types) all zero ty e = subst (λ z. (z ≡ S 64) ⊎ (z ≡ P0)) (same first ty e) all.0
legal_at (first ∷ types) all (suc r) ty e = legal_at types all.1 r ty e

abbrev width_or : GType → ℕ
width_or (S w) = w
width_or P0 = 0

pub widths_at : (types : List GType) → AllLegal types → (r w : ℕ) → slice_get types r ≡ Some (S w) → (1 ≤ w) × (w ≤ 64)
widths_at types all r w e = by_type (legal_at types all r (S w) e)
  where
    by_type : (S w ≡ S 64) ⊎ (S w ≡ P0) → (1 ≤ w) × (w ≤ 64)
    by_type (inl is) = let wide : w ≡ 64 = ap width_or is in (omega (arith, wide), omega (arith, wide))
    by_type (inr is) = absurd (let bad : ⊥ = cc in bad)

-- ---- instructions

module _ (f : GFunction) (block : ℕ) (before : List GInst) (i : GInst) (behind : List GInst) where
  -- one that is no phi, no parameter, takes no data and jumps nowhere
  pub ordinary : is_phi i.op ≡ false → is_param i.op ≡ false → takes_data i.op ≡ false → targets i ≡ [] → is_end i.op ≡ (length behind == 0) → HasForm f i i.op
      → AllExist f i.defs → AllExist f i.uses → AllAssigned f block before i.uses → IsInstAt f block before i behind
  ordinary no_phi no_param no_data no_target ends form defs uses assigned = record {
    form = form;
    defs = defs;
    uses = uses;
    assigned = subst (λ z. AssignedBy f z block before i) (sym no_phi) assigned;
    ends = ends;
    targets' = λ k to e. nothing to (subst (λ z. slice_get z k ≡ Some to) no_target e);
    phi = λ e. absurd (false≢true (sym no_phi ∙ e));
    param = λ e. absurd (false≢true (sym no_param ∙ e));
    data' = λ e. absurd (false≢true (sym no_data ∙ e));
  }

  -- a parameter
  pub parameter : is_phi i.op ≡ false → takes_data i.op ≡ false → targets i ≡ [] → is_end i.op ≡ (length behind == 0) → HasForm f i i.op → AllExist f i.defs → i.uses ≡ []
      → IsParamAt f block before → IsInstAt f block before i behind
  parameter no_phi no_data no_target ends form defs no_uses placed = record {
    form = form;
    defs = defs;
    uses = subst (λ z. AllExist f z) (sym no_uses) tt;
    assigned = subst (λ z. AssignedBy f z block before i) (sym no_phi) (subst (λ z. AllAssigned f block before z) (sym no_uses) tt);
    ends = ends;
    targets' = λ k to e. nothing to (subst (λ z. slice_get z k ≡ Some to) no_target e);
    phi = λ e. absurd (false≢true (sym no_phi ∙ e));
    param = λ e. placed;
    data' = λ e. absurd (false≢true (sym no_data ∙ e));
  }

-- behind no instruction, and behind one parameter
pub first_param : (f : GFunction) → IsParamAt f 0 []
first_param f = record { entry = refl; first = λ other k e. nothing other e }

pub second_param : (f : GFunction) (one : GInst) → is_param one.op ≡ true → IsParamAt f 0 (one ∷ [])
second_param f one is = record { entry = refl; first = before }
  where
    before : (other : GInst) (k : ℕ) → slice_get (one ∷ []) k ≡ Some other → is_param other.op ≡ true
    before other zero e = subst (λ (z : GInst). is_param z.op ≡ true) (same one other e) is
    before other (suc k) e = nothing other e

-- ---- what selection answers

pub selects : {E : Type 0} (f g : GFunction) (code : MFunction) → f ≡ g → selected g ≡ code → (r : Result MFunction E) → IfOk r (λ c. c ≡ selected f) → IfOk r (λ c. c ≡ code)
selects f g code is computed (Ok c) e = e ∙ (ap selected is ∙ computed)
selects f g code is computed (Err x) e = tt
