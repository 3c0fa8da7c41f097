-- Each instruction that computes, by the registers that it asks for.
use Rattle.std.proofs.Common.{◌≡◌, refl, sym, ap, subst, ◌∙◌, ℕ, zero, suc, ◌/◌, ◌%◌, ◌≤◌, ◌⊎◌, inl, inr, List, [], ◌∷◌, Option, Some, None, arith}
use Rattle.std.specs.Prelude.{slice_get, slice_index_or}
use Rattle.gmir.specs.declared.code.GType.{GType}
use Rattle.gmir.specs.declared.code.GType.TheVariants.{S, P0}
use Rattle.gmir.specs.declared.code.GOp.{GOp}
use Rattle.gmir.specs.declared.code.GOp.TheVariants.{Add, Sub, Mul, UDiv, SDiv, URem, SRem, And, Or, Xor, Shl, LShr, AShr, Icmp, Select, Trunc, ZExt, SExt, AnyExt, SExtInReg, PtrToInt, IntToPtr, PtrAdd, Constant, Copy}
use Rattle.gmir.specs.declared.code.GInst.{GInst}
use Rattle.gmir.specs.declared.code.GFunction.{GFunction}
use Rattle.walks.specs.Walk.{Bits}
use Rattle.walks.specs.Refines.{RefinesBits}
use Rattle.walks.specs.Bits.{and_bit, or_bit, xor_bit, chosen, add_low, sub_low, mul_low, divide_signed, rest_signed}
use Rattle.gmir.specs.Play.{width_of, width, def_at, use_at, Other, kind, value}
use Rattle.gmir.specs.Formed.{Has, Gives, IsTwo, IsShift, HasForm}
use Rattle.legal_code.specs.Legal.{above, by_type, Same, form}
use Rattle.legal_code.proofs.Values.{wide, low_widens, bits_widen, cut_widens, constant_widens, sign_widens, zero_widens, zeros_widen, signs_widen, quotient_bit, rest_bit, compare_widens, left_widens, right_widens, signed_widens}

-- the type of a register, where one is named
abbrev pub type_of : List GType → Option ℕ → GType
type_of types None = P0
type_of types (Some r) = slice_index_or types r P0

same_type : (a b : GType) → Some a ≡ Some b → a ≡ b
same_type a b e = cc

pub has_type : (types : List GType) (r : ℕ) (ty : GType) → slice_get types r ≡ Some ty → slice_index_or types r P0 ≡ ty
has_type [] r ty e = absurd (let bad : ⊥ = cc in bad)
has_type (t ∷ ts) zero ty e = same_type t ty e
has_type (t ∷ ts) (suc r) ty e = has_type ts r ty e

pub found : (types : List GType) (r : ℕ) → (slice_index_or types r P0 ≡ P0) ⊎ (slice_get types r ≡ Some (slice_index_or types r P0))
found [] r = inl refl
found (t ∷ ts) zero = inr refl
found (t ∷ ts) (suc r) = found ts r

-- each register has from 1 to 64 bits
abbrev pub HasWidths : List GType → Type 0
HasWidths types = (r w : ℕ) → slice_get types r ≡ Some (S w) → (1 ≤ w) × (w ≤ 64)

abbrev IsWidth : GType → Type 0
IsWidth t = (1 ≤ width_of t) × (width_of t ≤ 64)

full_width : IsWidth P0
full_width = (omega arith, omega arith)

pub widths_at : (types : List GType) → HasWidths types → (r : ℕ) → (1 ≤ width types r) × (width types r ≤ 64)
widths_at types h r = by (slice_index_or types r P0) refl (found types r)
  where
    by : (t : GType) → slice_index_or types r P0 ≡ t → (slice_index_or types r P0 ≡ P0) ⊎ (slice_get types r ≡ Some (slice_index_or types r P0))
        → (1 ≤ width_of (slice_index_or types r P0)) × (width_of (slice_index_or types r P0) ≤ 64)
    by t e (inl k) = subst IsWidth (sym k) full_width
    by P0 e (inr k) = subst IsWidth (sym e) full_width
    by (S w) e (inr k) = subst IsWidth (sym e) (h r w (k ∙ ap Some e))

pub widths_of : (types : List GType) → HasWidths types → (o : Option ℕ) → (1 ≤ width_of (type_of types o)) × (width_of (type_of types o) ≤ 64)
widths_of types h None = full_width
widths_of types h (Some r) = widths_at types h r

module _ (f : GFunction) (i : GInst) where
  abbrev pub type_at : ℕ → GType
  type_at k = type_of f.types (slice_get i.uses k)

  first_width : (a : ℕ) (rs : List ℕ) → i.uses ≡ a ∷ rs → width f.types (use_at i 0) ≡ width_of (type_at 0)
  first_width a rs e = ap (λ (us : List ℕ). width f.types (slice_index_or us 0 0)) e ∙ sym (ap (λ (us : List ℕ). width_of (type_of f.types (slice_get us 0))) e)

  second_width : (a b : ℕ) (rs : List ℕ) → i.uses ≡ a ∷ b ∷ rs → width f.types (use_at i 1) ≡ width_of (type_at 1)
  second_width a b rs e = ap (λ (us : List ℕ). width f.types (slice_index_or us 1 0)) e ∙ sym (ap (λ (us : List ℕ). width_of (type_of f.types (slice_get us 1))) e)

  first_type : (a : ℕ) (rs : List ℕ) (ty : GType) → i.uses ≡ a ∷ rs → Has f a ty → type_at 0 ≡ ty
  first_type a rs ty e h = ap (λ (us : List ℕ). type_of f.types (slice_get us 0)) e ∙ has_type f.types a ty h

  second_type : (a b : ℕ) (rs : List ℕ) (ty : GType) → i.uses ≡ a ∷ b ∷ rs → Has f b ty → type_at 1 ≡ ty
  second_type a b rs ty e h = ap (λ (us : List ℕ). type_of f.types (slice_get us 1)) e ∙ has_type f.types b ty h

  pub def_width : (d : ℕ) (ty : GType) (rs : List ℕ) → Gives f i d ty rs → width f.types (def_at i 0) ≡ width_of ty
  def_width d ty rs g = ap (λ (ds : List ℕ). width f.types (slice_index_or ds 0 0)) g.defs ∙ ap width_of (has_type f.types d ty g.type)

  -- two operands of one width, which is the result's
  pub record AreTwo : Type 0 where
    pub result : width f.types (def_at i 0) ≡ width_of (type_at 0)
    pub second : width_of (type_at 1) ≡ width_of (type_at 0)
    pub second_use : width f.types (use_at i 1) ≡ width_of (type_at 1)

  pub are_two : IsTwo f i → AreTwo
  are_two (d, a, b, w, g, p, q) =
      let one = first_type a (b ∷ []) (S w) g.uses p in
      let two = second_type a b [] (S w) g.uses q in
      record {
        result = def_width d (S w) (a ∷ b ∷ []) g ∙ sym (ap width_of one);
        second = ap width_of two ∙ sym (ap width_of one);
        second_use = second_width a b [] g.uses;
      }

  pub record IsShifted : Type 0 where
    pub result : width f.types (def_at i 0) ≡ width_of (type_at 0)
    pub amount : width f.types (use_at i 1) ≡ width_of (type_at 1)

  is_shifted : IsShift f i → IsShifted
  is_shifted (d, a, b, w, g, p, q) = record {
    result = def_width d (S w) (a ∷ b ∷ []) g ∙ sym (ap width_of (first_type a (b ∷ []) (S w) g.uses p));
    amount = second_width a b [] g.uses;
  }

  module _ (widths : HasWidths f.types) where
    -- what it computes is kept where its operands are extended
    abbrev pub Widens : GOp → Type 0
    Widens op = (a b c : Bits) → RefinesBits
        (value op (width f.types (def_at i 0)) (width f.types (use_at i 0)) (width f.types (use_at i 1)) i.num a b c)
        (value op 64 64 64 i.num (wide (by_type (above op i.num 0) (type_at 0)) a) (wide (by_type (above op i.num 1) (type_at 1)) b) (wide (by_type (above op i.num 2) (type_at 2)) c))

    small : width f.types (def_at i 0) ≤ 64
    small = (widths_at f.types widths (def_at i 0)).1

    some_at : (k : ℕ) → 1 ≤ width_of (type_at k)
    some_at k = (widths_of f.types widths (slice_get i.uses k)).0

    small_at : (k : ℕ) → width_of (type_at k) ≤ 64
    small_at k = (widths_of f.types widths (slice_get i.uses k)).1

    pub widens : (op : GOp) → HasForm f i op → (kind op ≡ Other → ⊥) → form op ≡ Same → (op ≡ IntToPtr → (x : ℕ) → i.uses ≡ x ∷ [] → Has f x (S 64)) → Widens op
    widens Add h p q adr a b c = low_widens add_low (width f.types (def_at i 0)) a b small
    widens Sub h p q adr a b c = low_widens sub_low (width f.types (def_at i 0)) a b small
    widens Mul h p q adr a b c = low_widens mul_low (width f.types (def_at i 0)) a b small
    widens UDiv h p q adr a b c =
        let two = are_two h in
        rw two.result (zeros_widen (λ x y. x / y) (width_of (type_at 0)) (type_at 0) (type_at 1) a b (small_at 0) (small_at 0) two.second)
    widens URem h p q adr a b c =
        let two = are_two h in
        rw two.result (zeros_widen (λ x y. x % y) (width_of (type_at 0)) (type_at 0) (type_at 1) a b (small_at 0) (small_at 0) two.second)
    widens SDiv h p q adr a b c =
        let two = are_two h in
        rw two.result
        (signs_widen (divide_signed (width_of (type_at 0))) (divide_signed 64) (width_of (type_at 0)) (type_at 0) (type_at 1) a b (small_at 0) (some_at 0) (small_at 0) two.second
        (λ m n k l l' z. quotient_bit (width_of (type_at 0)) m n k (some_at 0) (small_at 0) l l' z))
    widens SRem h p q adr a b c =
        let two = are_two h in
        rw two.result
        (signs_widen (rest_signed (width_of (type_at 0))) (rest_signed 64) (width_of (type_at 0)) (type_at 0) (type_at 1) a b (small_at 0) (some_at 0) (small_at 0) two.second
        (λ m n k l l' z. rest_bit (width_of (type_at 0)) m n k (some_at 0) (small_at 0) l l' z))
    widens And h p q adr a b c = bits_widen and_bit (width f.types (def_at i 0)) a b small
    widens Or h p q adr a b c = bits_widen or_bit (width f.types (def_at i 0)) a b small
    widens Xor h p q adr a b c = bits_widen xor_bit (width f.types (def_at i 0)) a b small
    widens Shl h p q adr a b c =
        let is = is_shifted h in
        rw is.amount (left_widens (width f.types (def_at i 0)) (type_at 1) a b small (small_at 1))
    widens LShr h p q adr a b c =
        let is = is_shifted h in
        rw (is.result, is.amount) (right_widens (type_at 0) (type_at 1) a b (small_at 0) (small_at 1))
    widens AShr h p q adr a b c =
        let is = is_shifted h in
        rw (is.result, is.amount) (signed_widens (type_at 0) (type_at 1) a b (some_at 0) (small_at 0) (small_at 1))
    widens Icmp (d, x, y, w, ty, g, one, two, low) p q adr a b c =
        let first = first_type x (y ∷ []) ty g.uses one in
        let second = second_type x y [] ty g.uses two in
        rw (first_width x (y ∷ []) g.uses)
        (compare_widens i.num (width f.types (def_at i 0)) (type_at 0) (type_at 1) a b small (some_at 0) (small_at 0) (ap width_of second ∙ sym (ap width_of first)))
    widens Select h p q adr a b c = cut_widens (width f.types (def_at i 0)) (chosen (a 0) b c) small
    widens SExtInReg h p q adr a b c = sign_widens i.num (width f.types (def_at i 0)) a small
    widens PtrToInt (d, x, w, g, one) p q adr a b c =
        rw (first_width x [] g.uses, first_type x [] P0 g.uses one) (zero_widens 64 (width f.types (def_at i 0)) a small)
    widens IntToPtr (d, x, g, one) p q adr a b c =
        rw (first_width x [] g.uses, first_type x [] (S 64) g.uses (adr refl x g.uses)) (zero_widens 64 (width f.types (def_at i 0)) a small)
    widens PtrAdd h p q adr a b c = low_widens add_low (width f.types (def_at i 0)) a b small
    widens Constant h p q adr a b c = constant_widens (width f.types (def_at i 0)) i.num small
    widens Copy h p q adr a b c = cut_widens (width f.types (def_at i 0)) a small
    widens Trunc h p q adr a b c = absurd (let bad : ⊥ = cc in bad)
    widens ZExt h p q adr a b c = absurd (let bad : ⊥ = cc in bad)
    widens SExt h p q adr a b c = absurd (let bad : ⊥ = cc in bad)
    widens AnyExt h p q adr a b c = absurd (let bad : ⊥ = cc in bad)
    widens _ h p q adr a b c = absurd (p refl)
