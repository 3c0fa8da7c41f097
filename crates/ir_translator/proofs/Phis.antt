-- The phis at the head of a block, one after another.
use Rattle.std.proofs.Common.{◌≡◌, refl, sym, ap, ◌∙◌, ℕ, zero, suc, ◌+◌, ◌-◌, ◌<◌, ◌≤◌, List, [], ◌∷◌, length, take, drop, get_or, Bool, true, false, arith}
use Rattle.std.proofs.lemmas.List.{drop_all, length-drop}
use Rattle.ir_core.specs.declared.code.Op.{Op}
use Rattle.ir_core.specs.declared.code.Op.TheVariants.{Phi}
use Rattle.ir_core.specs.declared.code.Inst.{Inst}
use Rattle.ir_flow.specs.Code.{is_phi}
use Rattle.ir_meaning.specs.Step.{phis}
use Rattle.ir_translator.proofs.Insts.{here_is}

phi_head : (inst : Inst) (insts : List Inst) → is_phi inst.op ≡ true → phis (inst ∷ insts) ≡ inst ∷ phis insts
phi_head inst insts e = by inst.op e
  where
    by : (op : Op) → is_phi op ≡ true → phis (record { gives = inst.gives; op = op } ∷ insts) ≡ record { gives = inst.gives; op = op } ∷ phis insts
    by (Phi pairs) e = refl
    by _ e = absurd (let bad : false ≡ true = e in cc)

other_head : (inst : Inst) (insts : List Inst) → is_phi inst.op ≡ false → phis (inst ∷ insts) ≡ []
other_head inst insts e = by inst.op e
  where
    by : (op : Op) → is_phi op ≡ false → phis (record { gives = inst.gives; op = op } ∷ insts) ≡ []
    by (Phi pairs) e = absurd (let bad : true ≡ false = e in cc)
    by _ e = refl

pub phi_first : (insts : List Inst) (i : ℕ) (inst : Inst) → i < length insts → inst ≡ get_or insts i inst → is_phi inst.op ≡ true → phis (drop i insts) ≡ inst ∷ phis (drop (i + 1) insts)
phi_first insts i inst lt is e = ap phis (here_is insts i inst lt is) ∙ phi_head inst (drop (i + 1) insts) e

-- none is left where another instruction stands
pub phi_none : (insts : List Inst) (i : ℕ) (inst : Inst) → i < length insts → inst ≡ get_or insts i inst → is_phi inst.op ≡ false → phis (drop i insts) ≡ []
phi_none insts i inst lt is e = ap phis (here_is insts i inst lt is) ∙ other_head inst (drop (i + 1) insts) e

pub none_left : (insts : List Inst) (i : ℕ) → length insts ≤ i → phis (drop i insts) ≡ []
none_left insts i le = ap phis (drop_all i insts le)

-- the phis are the first instructions
pub taken_phis : (insts : List Inst) → take (length (phis insts)) insts ≡ phis insts
taken_phis [] = refl
taken_phis (inst ∷ insts) = by (is_phi inst.op) refl (taken_phis insts)
  where
    by : (b : Bool) → is_phi inst.op ≡ b → take (length (phis insts)) insts ≡ phis insts → take (length (phis (inst ∷ insts))) (inst ∷ insts) ≡ phis (inst ∷ insts)
    by true e ih = ap (λ (xs : List Inst). take (length xs) (inst ∷ insts)) (phi_head inst insts e) ∙ ap (λ (xs : List Inst). inst ∷ xs) ih ∙ sym (phi_head inst insts e)
    by false e ih = ap (λ (xs : List Inst). take (length xs) (inst ∷ insts)) (other_head inst insts e) ∙ sym (other_head inst insts e)

-- nothing is cut behind a place
take-past : (xs : List Inst) (k : ℕ) → length xs ≤ k → take k xs ≡ xs
take-past [] zero le = refl
take-past [] (suc k) le = refl
take-past (x ∷ xs) zero le = absurd (let bad : ⊥ = omega (arith, le) in bad)
take-past (x ∷ xs) (suc k) le = ap (λ (ys : List Inst). x ∷ ys) (take-past xs k (omega (arith, le)))

pub all_behind : (xs : List Inst) (k : ℕ) → take (length xs - k) (drop k xs) ≡ drop k xs
all_behind xs k = let left = length-drop k xs in take-past (drop k xs) (length xs - k) (omega (arith, left))
