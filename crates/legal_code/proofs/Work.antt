-- Instructions that compute, run one after another, and what the instructions leave that extend operands.
use Rattle.std.proofs.Common.{◌≡◌, refl, sym, ap, subst, ◌∙◌, ℕ, zero, suc, ◌+◌, ◌<◌, ◌≤◌, true, List, [], ◌∷◌, ◌++◌, Option, Some, None, arith}
use Rattle.std.specs.Prelude.{◌==◌, slice_get, slice_index_or}
use Rattle.std.proofs.lemmas.Bool.{ne_eqb}
use Rattle.gmir.specs.declared.code.GType.{GType}
use Rattle.gmir.specs.declared.code.GType.TheVariants.{P0}
use Rattle.gmir.specs.declared.code.GOp.{GOp}
use Rattle.gmir.specs.declared.code.GInst.{GInst}
use Rattle.gmir.specs.declared.code.GFunction.{GFunction}
use Rattle.walks.specs.Walk.{Bits, Step}
use Rattle.walks.specs.Bits.{free}
use Rattle.walks.specs.Simulation.{Chain, here, further}
use Rattle.walks.specs.Registers.{Registers, read, put}
use Rattle.gmir.specs.Play.{width, def_at, use_at, Kind, Computes, kind, value, weight, State, plain, give, by_kind, step_at, step}
use Rattle.legal_code.specs.Legal.{Above, Anything, Zeros, Signs, above, Extension, Kept, ByZeros, BySigns, by_type, extends, taken, extended, extension, extensions, operands, taken_all}
use Rattle.legal_code.proofs.Values.{wide}
use Rattle.legal_code.proofs.Widens.{type_of}

abbrev pub AllBelow : ℕ → List ℕ → Type 0
AllBelow bound [] = Unit {0}
AllBelow bound (r ∷ rs) = (r < bound) × AllBelow bound rs

pub below_more : (b c : ℕ) (rs : List ℕ) → b ≤ c → AllBelow b rs → AllBelow c rs
below_more b c [] le h = tt
below_more b c (r ∷ rs) le h = ((let l = h.0 in omega (arith, l, le)), below_more b c rs le h.1)

pub pointer_kept : (x : Above) → by_type x P0 ≡ Kept
pointer_kept Anything = refl
pointer_kept Zeros = refl
pointer_kept Signs = refl

-- where nothing is asked above any operand, nothing is extended
pub record NoneExtended (types : List GType) (op : GOp) (n k next : ℕ) (rs : List ℕ) : Type 0 where
  pub before' : extensions types op n k next rs ≡ []
  pub uses' : operands types op n k next rs ≡ rs
  pub taken' : taken_all types op n k rs ≡ 0

none_by : (types : List GType) (op : GOp) (n k next r : ℕ) (rs : List ℕ) → extension types op n k r ≡ Kept → NoneExtended types op n (suc k) (next + 0) rs → NoneExtended types op n k next (r ∷ rs)
none_by types op n k next r rs e rest =
    let more = rest.taken' in
    record {
      before' = ap (λ z. extends z r next ++ extensions types op n (suc k) (next + taken z) rs) e ∙ rest.before';
      uses' = ap (λ z. extended z r next ∷ operands types op n (suc k) (next + taken z) rs) e ∙ ap (λ us. r ∷ us) rest.uses';
      taken' = ap (λ z. taken z + taken_all types op n (suc k) rs) e ∙ (let z : 0 + taken_all types op n (suc k) rs ≡ 0 = omega (arith, more) in z);
    }

pub none_extended : (types : List GType) (op : GOp) (n : ℕ) → ((k : ℕ) → above op n k ≡ Anything) → (k next : ℕ) (rs : List ℕ) → NoneExtended types op n k next rs
none_extended types op n none k next [] = record { before' = refl; uses' = refl; taken' = refl }
none_extended types op n none k next (r ∷ rs) =
    none_by types op n k next r rs (ap (λ x. by_type x (slice_index_or types r P0)) (none k)) (none_extended types op n none (suc k) (next + 0) rs)

-- a function whose registers have 64 bits
module _ (h : GFunction) where
  abbrev pub computed : Registers → GInst → Bits
  computed regs p =
      value p.op (width h.types (def_at p 0)) (width h.types (use_at p 0)) (width h.types (use_at p 1)) p.num
      (read regs (slice_get p.uses 0)) (read regs (slice_get p.uses 1)) (read regs (slice_get p.uses 2))

  -- the registers behind instructions that compute
  abbrev pub ran : Registers → List GInst → Registers
  ran regs [] = regs
  ran regs (p ∷ ps) = ran (put regs p.defs (computed regs p)) ps

  abbrev pub AllCompute : List GInst → Type 0
  AllCompute [] = Unit {0}
  AllCompute (p ∷ ps) = (kind p.op ≡ Computes) × AllCompute ps

  abbrev pub weights : List GInst → ℕ
  weights [] = 0
  weights (p ∷ ps) = weight h.types p + weights ps

  -- a state in which the registers alone have changed
  pub record Worked (s t : State) (regs : Registers) : Type 0 where
    pub args : t.args ≡ s.args
    pub base : t.base_length ≡ s.base_length
    pub block : t.block ≡ s.block
    pub regs' : t.regs ≡ regs
    pub memory : t.memory ≡ s.memory

  abbrev Ch : Step State → Step State → ℕ → ℕ → Type 0
  Ch = Chain State (step h)

  pub works : (s : State) (ps tail : List GInst) → AllCompute ps
      → (t : State) × Ch (step_at h s (ps ++ tail)) (step_at h t tail) (weights ps) 0 × Worked s t (ran s.regs ps)
  works s [] tail c = (s, here, record { args = refl; base = refl; block = refl; regs' = refl; memory = refl })
  works s (p ∷ ps) tail c =
      let regs : Registers = put s.regs p.defs (computed s.regs p) in
      let r = works (record s { rest = ps ++ tail; regs = put s.regs p.defs (computed s.regs p) }) ps tail c.1 in
      (r.0, first r.0 r.1, record { args = r.2.args; base = r.2.base; block = r.2.block; regs' = r.2.regs'; memory = r.2.memory })
    where
      first : (t : State) → Ch (step_at h (record s { rest = ps ++ tail; regs = put s.regs p.defs (computed s.regs p) }) (ps ++ tail)) (step_at h t tail) (weights ps) 0
          → Ch (by_kind h s p (ps ++ tail) (kind p.op)) (step_at h t tail) (weight h.types p + weights ps) 0
      first t chain =
          subst (λ (k : Kind). Ch (by_kind h s p (ps ++ tail) k) (step_at h t tail) (weight h.types p + weights ps) 0) (sym c.0)
          (further {st = plain h s p (ps ++ tail) (give h s p (ps ++ tail) (computed s.regs p))}
          (record s { rest = ps ++ tail; regs = put s.regs p.defs (computed s.regs p) }) refl chain)

  ran_append : (regs : Registers) (ps qs : List GInst) → ran regs (ps ++ qs) ≡ ran (ran regs ps) qs
  ran_append regs [] qs = refl
  ran_append regs (p ∷ ps) qs = ran_append (put regs p.defs (computed regs p)) ps qs

  pub weights_append : (ps qs : List GInst) → weights (ps ++ qs) ≡ weights ps + weights qs
  weights_append [] qs = omega arith
  weights_append (p ∷ ps) qs = let rest = weights_append ps qs in omega (arith, rest)

  all_append : (ps qs : List GInst) → AllCompute ps → AllCompute qs → AllCompute (ps ++ qs)
  all_append [] qs p q = q
  all_append (x ∷ ps) qs p q = (p.0, all_append ps qs p.1 q)

  -- ---- one extension

  extends_compute : (e : Extension) (a next : ℕ) → AllCompute (extends e a next)
  extends_compute Kept a next = tt
  extends_compute (ByZeros w) a next = (refl, (refl, tt))
  extends_compute (BySigns w) a next = (refl, tt)

  same_test : (x : ℕ) → (x == x) ≡ true
  same_test x = grind arith

  -- registers below the new ones stay
  one_kept : (e : Extension) (regs : Registers) (a next r : ℕ) → r < next → ran regs (extends e a next) r ≡ regs r
  one_kept Kept regs a next r l = refl
  one_kept (ByZeros w) regs a next r l =
      rw (ne_eqb r (next + 1) (λ e. let bad : ⊥ = omega (arith, l, e) in bad), ne_eqb r next (λ e. let bad : ⊥ = omega (arith, l, e) in bad)) refl
  one_kept (BySigns w) regs a next r l = rw (ne_eqb r next (λ e. let bad : ⊥ = omega (arith, l, e) in bad)) refl

  module _ (full : (r : ℕ) → width h.types r ≡ 64) where
    -- where the operand then stands it is extended
    one_extended : (e : Extension) (regs : Registers) (a next : ℕ) → a < next → ran regs (extends e a next) (extended e a next) ≡ wide e (regs a)
    one_extended Kept regs a next l = refl
    one_extended (ByZeros w) regs a next l =
        rw (same_test (next + 1), full (next + 1), full next, ne_eqb a next (λ e. let bad : ⊥ = omega (arith, l, e) in bad), same_test next) refl
    one_extended (BySigns w) regs a next l = rw (same_test next, full next) refl

    one_below : (e : Extension) (a next : ℕ) → a < next → extended e a next < next + taken e
    one_below Kept a next l = omega (arith, l)
    one_below (ByZeros w) a next l = omega arith
    one_below (BySigns w) a next l = omega arith

    -- ---- all operands of an instruction
    module _ (types : List GType) (op : GOp) (n : ℕ) where
      pub all_compute : (k next : ℕ) (rs : List ℕ) → AllCompute (extensions types op n k next rs)
      all_compute k next [] = tt
      all_compute k next (r ∷ rs) =
          all_append (extends (extension types op n k r) r next) (extensions types op n (suc k) (next + taken (extension types op n k r)) rs)
          (extends_compute (extension types op n k r) r next) (all_compute (suc k) (next + taken (extension types op n k r)) rs)

      pub all_kept : (k next : ℕ) (rs : List ℕ) (regs : Registers) (x : ℕ) → x < next → ran regs (extensions types op n k next rs) x ≡ regs x
      all_kept k next [] regs x l = refl
      all_kept k next (r ∷ rs) regs x l =
          ap (λ (z : Registers). z x) (ran_append regs (extends (extension types op n k r) r next) (extensions types op n (suc k) (next + taken (extension types op n k r)) rs))
          ∙ all_kept (suc k) (next + taken (extension types op n k r)) rs (ran regs (extends (extension types op n k r) r next)) x (omega (arith, l))
          ∙ one_kept (extension types op n k r) regs r next x l

      -- each stands extended
      pub all_extended : (k next : ℕ) (rs : List ℕ) (regs : Registers) (j m : ℕ) → k + j ≡ m → AllBelow next rs
          → read (ran regs (extensions types op n k next rs)) (slice_get (operands types op n k next rs) j) ≡ wide (by_type (above op n m) (type_of types (slice_get rs j))) (read regs (slice_get rs j))
      all_extended k next [] regs j m e below = ap (λ x. wide x free) (sym (pointer_kept (above op n m)))
      all_extended k next (r ∷ rs) regs zero m e below =
          let same : k ≡ m = omega (arith, e) in
          ap (λ (z : Registers). z (extended (extension types op n k r) r next)) (ran_append regs (extends (extension types op n k r) r next) (extensions types op n (suc k) (next + taken (extension types op n k r)) rs))
          ∙ all_kept (suc k) (next + taken (extension types op n k r)) rs (ran regs (extends (extension types op n k r) r next)) (extended (extension types op n k r) r next) (one_below (extension types op n k r) r next below.0)
          ∙ one_extended (extension types op n k r) regs r next below.0
          ∙ ap (λ (z : ℕ). wide (by_type (above op n z) (slice_index_or types r P0)) (regs r)) same
      all_extended k next (r ∷ rs) regs (suc j) m e below =
          ap (λ (z : Registers). read z (slice_get (operands types op n (suc k) (next + taken (extension types op n k r)) rs) j))
          (ran_append regs (extends (extension types op n k r) r next) (extensions types op n (suc k) (next + taken (extension types op n k r)) rs))
          ∙ all_extended (suc k) (next + taken (extension types op n k r)) rs (ran regs (extends (extension types op n k r) r next)) j m (omega (arith, e)) (below_more next (next + taken (extension types op n k r)) rs (omega arith) below.1)
          ∙ ap (wide (by_type (above op n m) (type_of types (slice_get rs j)))) (read_kept (slice_get rs j) (λ x e. get_below rs j x below.1 e))
        where
          get_below : (xs : List ℕ) (j x : ℕ) → AllBelow next xs → slice_get xs j ≡ Some x → x < next
          get_below [] j x h e = absurd (let bad : ⊥ = cc in bad)
          get_below (y ∷ ys) zero x h e = subst (λ z. z < next) (let same : y ≡ x = cc in same) h.0
          get_below (y ∷ ys) (suc j) x h e = get_below ys j x h.1 e

          read_kept : (o : Option ℕ) → ((x : ℕ) → o ≡ Some x → x < next) → read (ran regs (extends (extension types op n k r) r next)) o ≡ read regs o
          read_kept None h = refl
          read_kept (Some x) h = one_kept (extension types op n k r) regs r next x (h x refl)
