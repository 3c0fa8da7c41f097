-- The legal form of an instruction has the form of its operation.
use Rattle.std.proofs.Common.{◌≡◌, refl, sym, ap, subst, ◌∙◌, ℕ, zero, suc, ◌+◌, ◌^◌, ◌<◌, ◌≤◌, Bool, true, false, List, [], ◌∷◌, ◌++◌, length, map, replicate, Some, arith}
use Rattle.std.specs.Prelude.{if◌then◌else◌, ◌==◌, slice_get, slice_index_or}
use Rattle.gmir.specs.declared.code.GType.{GType}
use Rattle.gmir.specs.declared.code.GType.TheVariants.{S, P0}
use Rattle.gmir.specs.declared.code.GOp.{GOp}
use Rattle.gmir.specs.declared.code.GOp.TheVariants.{Add, Sub, Mul, UDiv, SDiv, URem, SRem, And, Or, Xor, Shl, LShr, AShr, Icmp, Select, ZExt, SExt, SExtInReg, PtrToInt, IntToPtr, PtrAdd, Constant, Phi, Load, Store, Br, BrCond, Param, Call, Return, TakeData, CopyBytes, FillBytes, Copy, Trap}
use Rattle.gmir.specs.declared.code.GInst.{GInst}
use Rattle.gmir.specs.declared.code.GFunction.{GFunction}
use Rattle.gmir.specs.Play.{width_of, use_at}
use Rattle.gmir.specs.Formed.{Has, Gives, AllHave, HasForm, IsSize}
use Rattle.legal_code.specs.Legal.{Above, Anything, Zeros, Signs, above, Extension, Kept, ByZeros, BySigns, by_type, taken, extended, extension, operands, taken_all, Same, Masks, Extends, Copies, form, last_by, legal_type, legalized, spent_blocks}
use Rattle.legal_code.proofs.Numbers.{power_low}
use Rattle.legal_code.proofs.Widens.{has_type, HasWidths, widths_at}
use Rattle.legal_code.proofs.Weights.{operands_length, IsCopied, trunc, any}
use Rattle.legal_code.proofs.Registers.{legal_forms_are_legal}

-- ---- registers

long : (ts : List GType) (n : ℕ) → length (map legal_type ts ++ replicate n (S 64)) ≡ length ts + n
long [] zero = refl
long [] (suc n) = let rest = long [] n in omega (arith, rest)
long (t ∷ ts) n = let rest = long ts n in omega (arith, rest)

new_one : (n x : ℕ) → x < n → slice_get (replicate n (S 64)) x ≡ Some (S 64)
new_one zero x l = absurd (let bad : ⊥ = omega (arith, l) in bad)
new_one (suc n) zero l = refl
new_one (suc n) (suc x) l = new_one n x (omega (arith, l))

new_at : (ts : List GType) (n x : ℕ) → length ts ≤ x → x < length ts + n → slice_get (map legal_type ts ++ replicate n (S 64)) x ≡ Some (S 64)
new_at [] n x l m = new_one n x (omega (arith, m))
new_at (t ∷ ts) n zero l m = absurd (let bad : ⊥ = omega (arith, l) in bad)
new_at (t ∷ ts) n (suc x) l m = new_at ts n x (omega (arith, l)) (omega (arith, m))

wider : (ty : GType) → width_of ty ≤ 64 → width_of ty ≤ width_of (legal_type ty)
wider P0 h = omega arith
wider (S w) h = h

module _ (f : GFunction) (widths : HasWidths f.types) where
  abbrev h : GFunction
  h = legalized f

  abbrev bound : ℕ
  bound = length f.types

  pub registers : length h.types ≡ bound + spent_blocks f.types f.blocks
  registers = long f.types (spent_blocks f.types f.blocks)

  pub old_has : (r : ℕ) (ty : GType) → Has f r ty → Has h r (legal_type ty)
  old_has r ty e = (legal_forms_are_legal f).1 r ty e

  pub new_has : (x : ℕ) → bound ≤ x → x < length h.types → Has h x (S 64)
  new_has x l m = let all = registers in new_at f.types (spent_blocks f.types f.blocks) x l (omega (arith, all, m))

  type_small : (r : ℕ) (ty : GType) → Has f r ty → width_of ty ≤ 64
  type_small r ty e = subst (λ t. width_of t ≤ 64) (has_type f.types r ty e) (widths_at f.types widths r).1

  -- an operand where it is extended
  pub extended_has : (x : Above) (a next : ℕ) (ty : GType) → Has f a ty → bound ≤ next → next + taken (by_type x (slice_index_or f.types a P0)) ≤ length h.types
      → Has h (extended (by_type x (slice_index_or f.types a P0)) a next) (legal_type ty)
  extended_has x a next ty e low top =
      subst (λ t. next + taken (by_type x t) ≤ length h.types → Has h (extended (by_type x t) a next) (legal_type ty)) (sym (has_type f.types a ty e)) (by x ty e) top
    where
      by_test : (b : Bool) (w : ℕ) (z : Extension) → Has f a (S w) → (next + taken z ≤ length h.types → Has h (extended z a next) (S 64))
          → next + taken (if b then Kept else z) ≤ length h.types → Has h (extended (if b then Kept else z) a next) (S 64)
      by_test true w z e k l = old_has a (S w) e
      by_test false w z e k l = k l

      by : (x : Above) (ty : GType) → Has f a ty → next + taken (by_type x ty) ≤ length h.types → Has h (extended (by_type x ty) a next) (legal_type ty)
      by Anything ty e l = old_has a ty e
      by Zeros P0 e l = old_has a P0 e
      by Signs P0 e l = old_has a P0 e
      by Zeros (S w) e l = by_test (w == 64) w (ByZeros w) e (λ l. new_has (next + 1) (omega (arith, low)) (omega (arith, l))) l
      by Signs (S w) e l = by_test (w == 64) w (BySigns w) e (λ l. new_has next low (omega (arith, l))) l

  module _ (i : GInst) (next : ℕ) (low : bound ≤ next) where
    abbrev us : List ℕ
    us = operands f.types i.op i.num 0 next i.uses

    abbrev j : GInst
    j = record i { uses = operands f.types i.op i.num 0 next i.uses }

    abbrev ex : ℕ → ℕ → Extension
    ex k r = extension f.types i.op i.num k r

    all_have : (ty : GType) (k n : ℕ) (rs : List ℕ) → bound ≤ n → n + taken_all f.types i.op i.num k rs ≤ length h.types → AllHave f ty rs → AllHave h (legal_type ty) (operands f.types i.op i.num k n rs)
    all_have ty k n [] l m x = tt
    all_have ty k n (r ∷ rs) l m x = (
      extended_has (above i.op i.num k) r n ty x.0 l (omega (arith, m)),
      all_have ty (suc k) (n + taken (ex k r)) rs (omega (arith, l)) (omega (arith, m)) x.1,
    )

    module _ (top : next + taken_all f.types i.op i.num 0 i.uses ≤ length h.types) where
      gives : (d : ℕ) (ty : GType) (rs : List ℕ) → Gives f i d ty rs → Gives h j d (legal_type ty) (operands f.types i.op i.num 0 next rs)
      gives d ty rs g = record { defs = g.defs; type = old_has d ty g.type; uses = ap (operands f.types i.op i.num 0 next) g.uses }

      room : (rs : List ℕ) → i.uses ≡ rs → next + taken_all f.types i.op i.num 0 rs ≤ length h.types
      room rs e = subst (λ xs. next + taken_all f.types i.op i.num 0 xs ≤ length h.types) e top

      abbrev at0 : ℕ → ℕ
      at0 a = extended (ex 0 a) a next

      abbrev at1 : ℕ → ℕ → ℕ
      at1 a b = extended (ex 1 b) b (next + taken (ex 0 a))

      abbrev at2 : ℕ → ℕ → ℕ → ℕ
      at2 a b c = extended (ex 2 c) c (next + taken (ex 0 a) + taken (ex 1 b))

      has0 : (a : ℕ) (rs : List ℕ) (ty : GType) → i.uses ≡ a ∷ rs → Has f a ty → Has h (at0 a) (legal_type ty)
      has0 a rs ty e x = let m = room (a ∷ rs) e in extended_has (above i.op i.num 0) a next ty x low (omega (arith, m))

      has1 : (a b : ℕ) (rs : List ℕ) (ty : GType) → i.uses ≡ a ∷ b ∷ rs → Has f b ty → Has h (at1 a b) (legal_type ty)
      has1 a b rs ty e x = let m = room (a ∷ b ∷ rs) e in extended_has (above i.op i.num 1) b (next + taken (ex 0 a)) ty x (omega (arith, low)) (omega (arith, m))

      has2 : (a b c : ℕ) (rs : List ℕ) (ty : GType) → i.uses ≡ a ∷ b ∷ c ∷ rs → Has f c ty → Has h (at2 a b c) (legal_type ty)
      has2 a b c rs ty e x =
          let m = room (a ∷ b ∷ c ∷ rs) e in extended_has (above i.op i.num 2) c (next + taken (ex 0 a) + taken (ex 1 b)) ty x (omega (arith, low)) (omega (arith, m))

      constant_low : (d : ℕ) (ty : GType) → Has f d ty → i.num < 2 ^ width_of ty → i.num < 2 ^ width_of (legal_type ty)
      constant_low d ty e l = let p = power_low (width_of ty) (width_of (legal_type ty)) (wider ty (type_small d ty e)) in omega (arith, l, p)

      size_kept : (r : ℕ) (ty : GType) → Has f r ty → IsSize f i.num ty → IsSize h i.num (legal_type ty)
      size_kept r ty e z = (z.0, (let p = wider ty (type_small r ty e) in let l = z.1 in omega (arith, l, p)))

      two : (op : GOp) → (d a b w : ℕ) → Gives f i d (S w) (a ∷ b ∷ []) → Has f a (S w) → Has f b (S w)
          → (d' a' b' w' : ℕ) × Gives h j d' (S w') (a' ∷ b' ∷ []) × Has h a' (S w') × Has h b' (S w')
      two op d a b w g p q = (d, at0 a, at1 a b, 64, gives d (S w) (a ∷ b ∷ []) g, has0 a (b ∷ []) (S w) g.uses p, has1 a b [] (S w) g.uses q)

      shift : (d a b w v : ℕ) → Gives f i d (S w) (a ∷ b ∷ []) → Has f a (S w) → Has f b (S v)
          → (d' a' b' w' : ℕ) × Gives h j d' (S w') (a' ∷ b' ∷ []) × Has h a' (S w') × ((v' : ℕ) × Has h b' (S v'))
      shift d a b w v g p q = (d, at0 a, at1 a b, 64, gives d (S w) (a ∷ b ∷ []) g, has0 a (b ∷ []) (S w) g.uses p, (64, has1 a b [] (S v) g.uses q))

      pub same_form : (op : GOp) → form op ≡ Same → HasForm f i op → HasForm h j op
      same_form Add e (d, a, b, w, g, p, q) = two Add d a b w g p q
      same_form Sub e (d, a, b, w, g, p, q) = two Sub d a b w g p q
      same_form Mul e (d, a, b, w, g, p, q) = two Mul d a b w g p q
      same_form UDiv e (d, a, b, w, g, p, q) = two UDiv d a b w g p q
      same_form SDiv e (d, a, b, w, g, p, q) = two SDiv d a b w g p q
      same_form URem e (d, a, b, w, g, p, q) = two URem d a b w g p q
      same_form SRem e (d, a, b, w, g, p, q) = two SRem d a b w g p q
      same_form And e (d, a, b, w, g, p, q) = two And d a b w g p q
      same_form Or e (d, a, b, w, g, p, q) = two Or d a b w g p q
      same_form Xor e (d, a, b, w, g, p, q) = two Xor d a b w g p q
      same_form Shl e (d, a, b, w, g, p, q) = shift d a b w q.0 g p q.1
      same_form LShr e (d, a, b, w, g, p, q) = shift d a b w q.0 g p q.1
      same_form AShr e (d, a, b, w, g, p, q) = shift d a b w q.0 g p q.1
      same_form Icmp e (d, a, b, w, ty, g, p, q, l) =
          (d, at0 a, at1 a b, 64, legal_type ty, gives d (S w) (a ∷ b ∷ []) g, has0 a (b ∷ []) ty g.uses p, has1 a b [] ty g.uses q, l)
      same_form Select e (d, c, a, b, ty, g, k, p, q) =
          (d, at0 c, at1 c a, at2 c a b, legal_type ty, gives d ty (c ∷ a ∷ b ∷ []) g, (64, has0 c (a ∷ b ∷ []) (S k.0) g.uses k.1), has1 c a (b ∷ []) ty g.uses p, has2 c a b [] ty g.uses q)
      same_form SExtInReg e (d, a, w, g, p, l, m) =
          (d, at0 a, 64, gives d (S w) (a ∷ []) g, has0 a [] (S w) g.uses p, l, (let z = type_small a (S w) p in omega (arith, m, z)))
      same_form PtrToInt e (d, a, w, g, p) = (d, at0 a, 64, gives d (S w) (a ∷ []) g, has0 a [] P0 g.uses p)
      same_form IntToPtr e (d, a, g, p) = (d, at0 a, gives d P0 (a ∷ []) g, (64, has0 a [] (S p.0) g.uses p.1))
      same_form PtrAdd e (d, a, b, g, p, q) = (d, at0 a, at1 a b, gives d P0 (a ∷ b ∷ []) g, has0 a (b ∷ []) P0 g.uses p, has1 a b [] (S 64) g.uses q)
      same_form Constant e (d, ty, g, l) = (d, legal_type ty, gives d ty [] g, constant_low d ty g.type l)
      same_form Phi e (d, ty, g, p, l) = (
        d,
        legal_type ty,
        record { defs = g.defs; type = old_has d ty g.type; uses = refl },
        all_have ty 0 next i.uses low top p,
        l ∙ sym (operands_length f.types i.op i.num 0 next i.uses),
      )
      same_form Load e (d, a, ty, g, p, z) = (d, at0 a, legal_type ty, gives d ty (a ∷ []) g, has0 a [] P0 g.uses p, size_kept d ty g.type z)
      same_form Store e (v, a, ty, defs, uses, p, q, z) =
          (at0 v, at1 v a, legal_type ty, defs, ap (operands f.types i.op i.num 0 next) uses, has0 v (a ∷ []) ty uses p, has1 v a [] P0 uses q, size_kept v ty p z)
      same_form Br e (to, defs, uses, is) = (to, defs, ap (operands f.types i.op i.num 0 next) uses, is)
      same_form BrCond e (c, x, y, defs, uses, k, is) =
          (at0 c, x, y, defs, ap (operands f.types i.op i.num 0 next) uses, (64, has0 c [] (S k.0) uses k.1), is)
      same_form Param e (d, ty, g, l) = (d, legal_type ty, gives d ty [] g, l)
      same_form Call e (callee, few, l, is, m) = (callee, few, (let z = operands_length f.types i.op i.num 0 next i.uses in omega (arith, l, z)), is, m)
      same_form Return e (defs, l) = (defs, (let z = operands_length f.types i.op i.num 0 next i.uses in omega (arith, l, z)))
      same_form TakeData e (d, g) = (d, gives d P0 [] g)
      same_form CopyBytes e (a, b, c, defs, uses, p, q, k) =
          (at0 a, at1 a b, at2 a b c, defs, ap (operands f.types i.op i.num 0 next) uses, has0 a (b ∷ c ∷ []) P0 uses p, has1 a b (c ∷ []) P0 uses q, (64, has2 a b c [] (S k.0) uses k.1))
      same_form FillBytes e (a, b, c, w, defs, uses, p, q, l, k) =
          (at0 a, at1 a b, at2 a b c, 64, defs, ap (operands f.types i.op i.num 0 next) uses, has0 a (b ∷ c ∷ []) P0 uses p, has1 a b (c ∷ []) (S w) uses q, omega arith, (64, has2 a b c [] (S k.0) uses k.1))
      same_form Copy e (d, a, ty, g, p) = (d, at0 a, legal_type ty, gives d ty (a ∷ []) g, has0 a [] ty g.uses p)
      same_form Trap e (defs, uses) = (defs, ap (operands f.types i.op i.num 0 next) uses)
      same_form _ e x = absurd (let bad : ⊥ = cc in bad)

    pub masks_form : HasForm f i ZExt → next < length h.types → HasForm h (last_by f.types Masks next i) And
    masks_form (d, a, w, v, g, p, l) m =
        (d, a, next, 64, record { defs = g.defs; type = old_has d (S w) g.type; uses = ap (λ xs. xs ++ next ∷ []) g.uses }, old_has a (S v) p, new_has next low m)

    pub extends_form : HasForm f i SExt → HasForm h (last_by f.types Extends next i) SExtInReg
    extends_form (d, a, w, v, g, p, l) =
        let z = widths_at f.types widths (use_at i 0) in
        (d, a, 64, record { defs = g.defs; type = old_has d (S w) g.type; uses = g.uses }, old_has a (S v) p, z.0, z.1)

    pub copies_form : (op : GOp) → IsCopied op → HasForm f i op → HasForm h (last_by f.types Copies next i) Copy
    copies_form _ trunc (d, a, w, v, g, p, l) = (d, a, S 64, record { defs = g.defs; type = old_has d (S w) g.type; uses = g.uses }, old_has a (S v) p)
    copies_form _ any (d, a, w, v, g, p, l) = (d, a, S 64, record { defs = g.defs; type = old_has d (S w) g.type; uses = g.uses }, old_has a (S v) p)
