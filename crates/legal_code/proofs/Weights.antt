-- The legal form of an instruction weighs no more than it.
use Rattle.std.proofs.Common.{◌≡◌, refl, sym, ap, subst, ◌∙◌, ℕ, suc, ◌+◌, ◌<◌, ◌≤◌, Bool, true, false, List, [], ◌∷◌, length, Some, arith}
use Rattle.std.specs.Prelude.{if◌then◌else◌, ◌==◌, ◌&&◌, slice_get, slice_index_or}
use Rattle.std.proofs.lemmas.Bool.{ne_eqb}
use Rattle.gmir.specs.declared.code.GType.{GType}
use Rattle.gmir.specs.declared.code.GType.TheVariants.{S, P0}
use Rattle.gmir.specs.declared.code.GOp.{GOp}
use Rattle.gmir.specs.declared.code.GOp.TheVariants.{Add, Sub, Mul, UDiv, SDiv, URem, SRem, And, Or, Xor, Shl, LShr, AShr, Icmp, Select, Trunc, ZExt, SExt, AnyExt, SExtInReg, PtrToInt, IntToPtr, PtrAdd, Constant, Phi, Load, Store, Br, BrCond, Param, Call, Return, TakeData, CopyBytes, FillBytes, Copy, Trap}
use Rattle.gmir.specs.declared.code.GInst.{GInst}
use Rattle.gmir.specs.declared.code.GFunction.{GFunction}
use Rattle.gmir.specs.Play.{width, use_at, is_full, all_full, is_legal, op_weight, weight}
use Rattle.gmir.specs.Formed.{HasForm}
use Rattle.legal_code.specs.Legal.{Above, Anything, Zeros, Signs, compared_above, above, Extension, Kept, ByZeros, BySigns, by_type, extends, taken, extension, extensions, operands, mask, masked, signed, Form, Same, Masks, Extends, Copies, form, before, last, before_by, last_by}
use Rattle.legal_code.proofs.Widens.{has_type}
use Rattle.legal_code.proofs.Work.{weights, weights_append}

-- what an extension weighs, and at most
abbrev pub cost : Extension → ℕ
cost Kept = 0
cost (ByZeros w) = 36
cost (BySigns w) = 24

abbrev pub cap : Above → ℕ
cap Anything = 0
cap Zeros = 36
cap Signs = 24

by_test : (b : Bool) (e : Extension) → cost (if b then Kept else e) ≤ cost e
by_test true e = omega arith
by_test false e = omega arith

pub at_most : (x : Above) (t : GType) → cost (by_type x t) ≤ cap x
at_most Anything t = omega arith
at_most Zeros P0 = omega arith
at_most Signs P0 = omega arith
at_most Zeros (S w) = by_test (w == 64) (ByZeros w)
at_most Signs (S w) = by_test (w == 64) (BySigns w)

full_free : (x : Above) (t : GType) → is_full t ≡ true → cost (by_type x t) ≡ 0
full_free Anything t e = refl
full_free Zeros P0 e = refl
full_free Signs P0 e = refl
full_free Zeros (S w) e = ap (λ (b : Bool). cost (if b then Kept else ByZeros w)) e
full_free Signs (S w) e = ap (λ (b : Bool). cost (if b then Kept else BySigns w)) e

right_true : (a b : Bool) → (a && b) ≡ true → b ≡ true
right_true true b e = e
right_true false b e = absurd (let bad : ⊥ = cc in bad)

left_true : (a b : Bool) → (a && b) ≡ true → a ≡ true
left_true true b e = refl
left_true false b e = absurd (let bad : ⊥ = cc in bad)

-- an operation weighs no more where its registers are legal
lighter : (op : GOp) (n : ℕ) → op_weight op true n ≤ op_weight op false n
lighter Call n = omega arith
lighter _ n = omega arith

module _ (types : List GType) (op : GOp) (n : ℕ) where
  abbrev pub costs : ℕ → List ℕ → ℕ
  costs k [] = 0
  costs k (r ∷ rs) = cost (extension types op n k r) + costs (suc k) rs

  costs_full : (k : ℕ) (rs : List ℕ) → all_full types rs ≡ true → costs k rs ≡ 0
  costs_full k [] e = refl
  costs_full k (r ∷ rs) e =
      let one : cost (extension types op n k r) ≡ 0 = full_free (above op n k) (slice_index_or types r P0) (left_true (is_full (slice_index_or types r P0)) (all_full types rs) e) in
      let rest : costs (suc k) rs ≡ 0 = costs_full (suc k) rs (right_true (is_full (slice_index_or types r P0)) (all_full types rs) e) in
      omega (arith, one, rest)

  costs_none : ((k : ℕ) → above op n k ≡ Anything) → (k : ℕ) (rs : List ℕ) → costs k rs ≡ 0
  costs_none any k [] = refl
  costs_none any k (r ∷ rs) =
      let one : cost (extension types op n k r) ≡ 0 = ap (λ x. cost (by_type x (slice_index_or types r P0))) (any k) in
      let rest : costs (suc k) rs ≡ 0 = costs_none any (suc k) rs in
      omega (arith, one, rest)

  pub operands_length : (k next : ℕ) (rs : List ℕ) → length (operands types op n k next rs) ≡ length rs
  operands_length k next [] = refl
  operands_length k next (r ∷ rs) = ap suc (operands_length (suc k) (next + taken (extension types op n k r)) rs)

  costs_two : (us : List ℕ) (a b : ℕ) → us ≡ a ∷ b ∷ [] → costs 0 us + op_weight op true 2 ≤ cap (above op n 0) + cap (above op n 1) + op_weight op true 2
  costs_two us a b e =
      let first = at_most (above op n 0) (slice_index_or types a P0) in
      let second = at_most (above op n 1) (slice_index_or types b P0) in
      let all : costs 0 us ≡ cost (extension types op n 0 a) + (cost (extension types op n 1 b) + 0) = ap (costs 0) e in
      omega (arith, first, second, all)

  costs_three : (us : List ℕ) (a b c : ℕ) → us ≡ a ∷ b ∷ c ∷ [] → costs 0 us ≤ cap (above op n 0) + (cap (above op n 1) + cap (above op n 2))
  costs_three us a b c e =
      let first = at_most (above op n 0) (slice_index_or types a P0) in
      let second = at_most (above op n 1) (slice_index_or types b P0) in
      let third = at_most (above op n 2) (slice_index_or types c P0) in
      let all : costs 0 us ≡ cost (extension types op n 0 a) + (cost (extension types op n 1 b) + (cost (extension types op n 2 c) + 0)) = ap (costs 0) e in
      omega (arith, first, second, third, all)

cap_small : (n : ℕ) → cap (compared_above n) ≤ 36
cap_small n = by (compared_above n)
  where
    by : (x : Above) → cap x ≤ 36
    by Anything = omega arith
    by Zeros = omega arith
    by Signs = omega arith

module _ (f : GFunction) (i : GInst) where
  abbrev Light : GOp → Type 0
  Light op = costs f.types op i.num 0 i.uses + op_weight op true (length i.uses) ≤ op_weight op false (length i.uses)

  free : (op : GOp) → ((k : ℕ) → above op i.num k ≡ Anything) → Light op
  free op any = let none = costs_none f.types op i.num any 0 i.uses in let less = lighter op (length i.uses) in omega (arith, none, less)

  two : (op : GOp) (a b : ℕ) → i.uses ≡ a ∷ b ∷ [] → cap (above op i.num 0) + cap (above op i.num 1) + op_weight op true 2 ≤ op_weight op false 2 → Light op
  two op a b e le =
      let most = costs_two f.types op i.num i.uses a b e in
      let count : length i.uses ≡ 2 = ap length e in
      subst (λ (z : ℕ). costs f.types op i.num 0 i.uses + op_weight op true z ≤ op_weight op false z) (sym count) (omega (arith, most, le))

  three : (op : GOp) (a b c : ℕ) → i.uses ≡ a ∷ b ∷ c ∷ [] → (cap (above op i.num 0) + (cap (above op i.num 1) + cap (above op i.num 2))) + op_weight op true 3 ≤ op_weight op false 3 → Light op
  three op a b c e le =
      let most = costs_three f.types op i.num i.uses a b c e in
      let count : length i.uses ≡ 3 = ap length e in
      subst (λ (z : ℕ). costs f.types op i.num 0 i.uses + op_weight op true z ≤ op_weight op false z) (sym count) (omega (arith, most, le))

  pub light : (op : GOp) → HasForm f i op → Light op
  light UDiv (d, a, b, w, g, p, q) = two UDiv a b g.uses (omega arith)
  light SDiv (d, a, b, w, g, p, q) = two SDiv a b g.uses (omega arith)
  light URem (d, a, b, w, g, p, q) = two URem a b g.uses (omega arith)
  light SRem (d, a, b, w, g, p, q) = two SRem a b g.uses (omega arith)
  light Shl (d, a, b, w, g, p, q) = two Shl a b g.uses (omega arith)
  light LShr (d, a, b, w, g, p, q) = two LShr a b g.uses (omega arith)
  light AShr (d, a, b, w, g, p, q) = two AShr a b g.uses (omega arith)
  light Icmp (d, a, b, w, ty, g, p, q, low) = two Icmp a b g.uses (let most = cap_small i.num in omega (arith, most))
  light CopyBytes (a, b, c, defs, uses, p, q, r) = three CopyBytes a b c uses (omega arith)
  light FillBytes (a, b, c, w, defs, uses, p, q, le, r) = three FillBytes a b c uses (omega arith)
  light Add h = free Add (λ k. refl)
  light Sub h = free Sub (λ k. refl)
  light Mul h = free Mul (λ k. refl)
  light And h = free And (λ k. refl)
  light Or h = free Or (λ k. refl)
  light Xor h = free Xor (λ k. refl)
  light Select h = free Select (λ k. refl)
  light Trunc h = free Trunc (λ k. refl)
  light ZExt h = free ZExt (λ k. refl)
  light SExt h = free SExt (λ k. refl)
  light AnyExt h = free AnyExt (λ k. refl)
  light SExtInReg h = free SExtInReg (λ k. refl)
  light PtrToInt h = free PtrToInt (λ k. refl)
  light IntToPtr h = free IntToPtr (λ k. refl)
  light PtrAdd h = free PtrAdd (λ k. refl)
  light Constant h = free Constant (λ k. refl)
  light Phi h = free Phi (λ k. refl)
  light Load h = free Load (λ k. refl)
  light Store h = free Store (λ k. refl)
  light Br h = free Br (λ k. refl)
  light BrCond h = free BrCond (λ k. refl)
  light Param h = free Param (λ k. refl)
  light Call h = free Call (λ k. refl)
  light Return h = free Return (λ k. refl)
  light TakeData h = free TakeData (λ k. refl)
  light Copy h = free Copy (λ k. refl)
  light Trap h = free Trap (λ k. refl)

-- what the new forms stand for
pub masks_zext : (op : GOp) → form op ≡ Masks → op ≡ ZExt
masks_zext ZExt e = refl
masks_zext _ e = absurd (let bad : ⊥ = cc in bad)

pub extends_sext : (op : GOp) → form op ≡ Extends → op ≡ SExt
extends_sext SExt e = refl
extends_sext _ e = absurd (let bad : ⊥ = cc in bad)

pub data IsCopied : GOp → Type 0 where
  trunc : IsCopied Trunc
  any : IsCopied AnyExt

pub copied_op : (op : GOp) → form op ≡ Copies → IsCopied op
copied_op Trunc e = trunc
copied_op AnyExt e = any
copied_op _ e = absurd (let bad : ⊥ = cc in bad)

-- a function whose registers are legal
module _ (f h : GFunction) (wholly : (r : ℕ) → is_full (slice_index_or h.types r P0) ≡ true) where
  all_wholly : (rs : List ℕ) → all_full h.types rs ≡ true
  all_wholly [] = refl
  all_wholly (r ∷ rs) = rw (wholly r) (all_wholly rs)

  pub legal_weight : (j : GInst) → weight h.types j ≡ op_weight j.op true (length j.uses)
  legal_weight j = ap (λ b. op_weight j.op b (length j.uses)) (rw (all_wholly j.defs) (all_wholly j.uses))

  one_weight : (e : Extension) (a next : ℕ) → weights h (extends e a next) ≡ cost e
  one_weight Kept a next = refl
  one_weight (ByZeros w) a next =
      let first = legal_weight (mask next w) in let second = legal_weight (masked (next + 1) a next) in omega (arith, first, second)
  one_weight (BySigns w) a next = let first = legal_weight (signed next a w) in omega (arith, first)

  all_weights : (op : GOp) (n k next : ℕ) (rs : List ℕ) → weights h (extensions f.types op n k next rs) ≡ costs f.types op n k rs
  all_weights op n k next [] = refl
  all_weights op n k next (r ∷ rs) =
      let e : Extension = extension f.types op n k r in
      let sum = weights_append h (extends (extension f.types op n k r) r next) (extensions f.types op n (suc k) (next + taken (extension f.types op n k r)) rs) in
      let one = one_weight (extension f.types op n k r) r next in
      let rest = all_weights op n (suc k) (next + taken (extension f.types op n k r)) rs in
      omega (arith, sum, one, rest)

  module _ (next : ℕ) (i : GInst) (form_is : HasForm f i i.op) where
    same_by : (b : Bool) → is_legal f.types i ≡ b → costs f.types i.op i.num 0 i.uses + op_weight i.op true (length i.uses) ≤ op_weight i.op b (length i.uses)
    same_by true e =
        let none = costs_full f.types i.op i.num 0 i.uses (right_true (all_full f.types i.defs) (all_full f.types i.uses) e) in omega (arith, none)
    same_by false e = light f i i.op form_is

    same_light : weights h (before_by f.types Same next i) + weight h.types (last_by f.types Same next i) ≤ weight f.types i
    same_light =
        let work = all_weights i.op i.num 0 next i.uses in
        let own : weight h.types (last_by f.types Same next i) ≡ op_weight i.op true (length i.uses) =
        legal_weight (last_by f.types Same next i) ∙ ap (op_weight i.op true) (operands_length f.types i.op i.num 0 next i.uses) in
        let most = same_by (is_legal f.types i) refl in
        omega (arith, work, own, most)

    narrow : (a v w : ℕ) → i.uses ≡ a ∷ [] → slice_get f.types a ≡ Some (S v) → v < w → w ≤ 64 → is_legal f.types i ≡ false
    narrow a v w uses has less small =
        ap (λ us. all_full f.types i.defs && all_full f.types us) uses ∙ ap (λ t. all_full f.types i.defs && (is_full t && true)) (has_type f.types a (S v) has)
        ∙ ap (λ b. all_full f.types i.defs && (b && true)) (ne_eqb v 64 (λ e. let bad : ⊥ = omega (arith, e, less, small) in bad)) ∙ never (all_full f.types i.defs)
      where
        never : (b : Bool) → (b && false) ≡ false
        never true = refl
        never false = refl

    module _ (small : (r w : ℕ) → slice_get f.types r ≡ Some (S w) → w ≤ 64) where
      masks_light : i.op ≡ ZExt → weights h (before_by f.types Masks next i) + weight h.types (last_by f.types Masks next i) ≤ weight f.types i
      masks_light e = by (subst (HasForm f i) e form_is)
        where
          by : HasForm f i ZExt → weights h (before_by f.types Masks next i) + weight h.types (last_by f.types Masks next i) ≤ weight f.types i
          by (d, a, w, v, g, has, less) =
              let first = legal_weight (mask next (width f.types (use_at i 0))) in
              let own = legal_weight (last_by f.types Masks next i) in
              let whole : weight f.types i ≡ 72 = ap (λ b. op_weight i.op b (length i.uses)) (narrow a v w g.uses has less (small d w g.type)) ∙ ap (λ op. op_weight op false (length i.uses)) e in
              omega (arith, first, own, whole)

      extends_light : i.op ≡ SExt → weights h (before_by f.types Extends next i) + weight h.types (last_by f.types Extends next i) ≤ weight f.types i
      extends_light e =
          let own = legal_weight (last_by f.types Extends next i) in
          let whole : weight f.types i ≡ op_weight SExt (is_legal f.types i) (length i.uses) = ap (λ op. op_weight op (is_legal f.types i) (length i.uses)) e in
          let least = by (is_legal f.types i) in
          omega (arith, own, whole, least)
        where
          by : (b : Bool) → 24 ≤ op_weight SExt b (length i.uses)
          by true = omega arith
          by false = omega arith

      copies_light : IsCopied i.op → weights h (before_by f.types Copies next i) + weight h.types (last_by f.types Copies next i) ≤ weight f.types i
      copies_light c =
          let own = legal_weight (last_by f.types Copies next i) in
          let least = by i.op (is_legal f.types i) c in
          omega (arith, own, least)
        where
          by : (op : GOp) (b : Bool) → IsCopied op → 12 ≤ op_weight op b (length i.uses)
          by _ true trunc = omega arith
          by _ false trunc = omega arith
          by _ true any = omega arith
          by _ false any = omega arith

      -- the instruction with those before it
      pub inst_light : weights h (before f.types next i) + weight h.types (last f.types next i) ≤ weight f.types i
      inst_light = by (form i.op) refl
        where
          by : (x : Form) → form i.op ≡ x → weights h (before_by f.types x next i) + weight h.types (last_by f.types x next i) ≤ weight f.types i
          by Same e = same_light
          by Masks e = masks_light (masks_zext i.op e)
          by Extends e = extends_light (extends_sext i.op e)
          by Copies e = copies_light (copied_op i.op e)
