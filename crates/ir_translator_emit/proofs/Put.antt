-- What is written behind what was written.
use Rattle.std.proofs.Common.{◌≡◌, refl, sym, ap, ap₂, ◌∙◌, ℕ, suc, ◌+◌, List, [], ◌∷◌, ◌++◌, length, append_assoc, drop, get_or, ◌<◌, ◌≤◌, arith}
use Rattle.std.proofs.Math.Seq.{drop-cons}
use Rattle.std.proofs.lemmas.List.{append-nil, drop_all}
use Rattle.ir_core.specs.declared.types.Ty.{Ty}
use Rattle.ir_core.specs.declared.code.Operand.{Operand}
use Rattle.ir_core.specs.declared.program.Global.{Global}
use Rattle.gmir.specs.declared.code.GType.{GType}
use Rattle.gmir.specs.declared.code.GInst.{GInst}
use Rattle.generic_code.specs.Literals.{Pool, empty_pool, skip, load, loaded, behind, register_of, literal, loads, all_loaded, registers, behind_all}
use Rattle.generic_code.specs.Edges.{Edge, no_ending}
use Rattle.ir_translator_emit.specs.Jumps.{whole}
use Rattle.ir_translator_emit.specs.Written.{Written, put, put_edge, begun}

module _ (w : Written) where
  pub put_put : (a b : List GInst) (s t : List GType) (p q : Pool) → put (put w a s p) b t q ≡ put w (a ++ b) (s ++ t) q
  unfolding put
  put_put a b s t p q =
      ap₂ (λ (code : List GInst) (types : List GType). record w { code = code; types = types; pool = q }) (append_assoc w.code a b) (append_assoc w.types s t)

  pub put_code : (a b : List GInst) (s : List GType) (p q : Pool) → put (put w a s p) b [] q ≡ put w (a ++ b) s q
  put_code a b s p q = put_put a b s [] p q ∙ ap (λ (types : List GType). put w (a ++ b) types q) (append-nil s)

  pub put_types : (a : List GInst) (s t : List GType) (p q : Pool) → put (put w a s p) [] t q ≡ put w a (s ++ t) q
  put_types a s t p q = put_put a [] s t p q ∙ ap (λ (code : List GInst). put w code (s ++ t) q) (append-nil a)

  pub put_same : put w [] [] w.pool ≡ w
  unfolding put
  put_same = ap₂ (λ (code : List GInst) (types : List GType). record w { code = code; types = types }) (append-nil w.code) (append-nil w.types)

module _ (w : Written) (a : List GInst) (s : List GType) (p : Pool) where
  pub put_pool : (put w a s p).pool ≡ p
  unfolding put
  put_pool = refl

  pub put_globals : (put w a s p).globals ≡ w.globals
  unfolding put
  put_globals = refl

  pub put_function : (put w a s p).function ≡ w.function
  unfolding put
  put_function = refl

  pub put_own : (put w a s p).own ≡ w.own
  unfolding put
  put_own = refl

pub two_behind : {A : Type 0} (xs : List A) (a b : A) → (xs ++ a ∷ []) ++ b ∷ [] ≡ xs ++ a ∷ b ∷ []
two_behind xs a b = append_assoc xs (a ∷ []) (b ∷ [])

pub skip_two : (pool : Pool) → skip 1 (skip 1 pool) ≡ skip 2 pool
skip_two pool = ap (λ (n : ℕ). record pool { next = n }) (let same : pool.next + 1 + 1 ≡ pool.next + 2 = omega arith in same)

-- ---- operands that are read one after another

module _ (globals : List Global) where
  rest_is : (operands : List (Ty × Operand)) (i : ℕ) (d : Ty × Operand) → i < length operands → drop i operands ≡ get_or operands i d ∷ drop (i + 1) operands
  rest_is operands i d lt = drop-cons operands i d lt ∙ ap (λ (n : ℕ). get_or operands i d ∷ drop n operands) (let k : suc i ≡ i + 1 = omega arith in k)

  -- the operands from a place on are read, and come to this
  abbrev pub reads : Written → List (Ty × Operand) → Written
  reads w operands = put w (loads globals w.pool operands) (all_loaded globals w.pool operands) (behind_all globals w.pool operands)

  reads_first : (w : Written) (one : Ty × Operand) (more : List (Ty × Operand))
      → reads w (one ∷ more) ≡ reads (put w (load (literal globals one.1) one.0 w.pool) (loaded (literal globals one.1) one.0 w.pool) (behind (literal globals one.1) one.0 w.pool)) more
  unfolding put
  reads_first w one more =
      sym (put_put w (load (literal globals one.1) one.0 w.pool) (loads globals (behind (literal globals one.1) one.0 w.pool) more)
      (loaded (literal globals one.1) one.0 w.pool) (all_loaded globals (behind (literal globals one.1) one.0 w.pool) more)
      (behind (literal globals one.1) one.0 w.pool) (behind_all globals (behind (literal globals one.1) one.0 w.pool) more))

  pub reads_more : (w v total : Written) (operands : List (Ty × Operand)) (i : ℕ) (d : Ty × Operand) → i < length operands → reads w (drop i operands) ≡ total
      → v ≡ put w (load (literal globals (get_or operands i d).1) (get_or operands i d).0 w.pool) (loaded (literal globals (get_or operands i d).1) (get_or operands i d).0 w.pool) (behind (literal globals (get_or operands i d).1) (get_or operands i d).0 w.pool)
      → reads v (drop (i + 1) operands) ≡ total
  reads_more w v total operands i d lt h e =
      ap (λ (x : Written). reads x (drop (i + 1) operands)) e ∙ sym (reads_first w (get_or operands i d) (drop (i + 1) operands))
      ∙ ap (reads w) (sym (rest_is operands i d lt)) ∙ h

  pub registers_more : (w v : Written) (all : List ℕ) (r : ℕ) (total : List ℕ) (operands : List (Ty × Operand)) (i : ℕ) (d : Ty × Operand) → i < length operands
      → all ++ registers globals w.pool (drop i operands) ≡ total
      → v ≡ put w (load (literal globals (get_or operands i d).1) (get_or operands i d).0 w.pool) (loaded (literal globals (get_or operands i d).1) (get_or operands i d).0 w.pool) (behind (literal globals (get_or operands i d).1) (get_or operands i d).0 w.pool)
      → r ≡ register_of (get_or operands i d).1 (literal globals (get_or operands i d).1) (get_or operands i d).0 w.pool
      → (all ++ r ∷ []) ++ registers globals v.pool (drop (i + 1) operands) ≡ total
  registers_more w v all r total operands i d lt h e is =
      let one : Ty × Operand = get_or operands i d in
      let pool : v.pool ≡ behind (literal globals one.1) one.0 w.pool = ap (λ (x : Written). x.pool) e ∙ put_pool w (load (literal globals one.1) one.0 w.pool) (loaded (literal globals one.1) one.0 w.pool) (behind (literal globals one.1) one.0 w.pool) in
      append_assoc all (r ∷ []) (registers globals v.pool (drop (i + 1) operands))
      ∙ ap₂ (λ (x : ℕ) (p : Pool). all ++ x ∷ registers globals p (drop (i + 1) operands)) is pool
      ∙ ap (λ (os : List (Ty × Operand)). all ++ registers globals w.pool os) (sym (rest_is operands i d lt)) ∙ h

  pub reads_done : (w total : Written) (operands : List (Ty × Operand)) (i : ℕ) → length operands ≤ i → reads w (drop i operands) ≡ total → w ≡ total
  reads_done w total operands i le h = sym (put_same w) ∙ ap (reads w) (sym (drop_all i operands le)) ∙ h

  pub registers_done : (w : Written) (all total : List ℕ) (operands : List (Ty × Operand)) (i : ℕ) → length operands ≤ i → all ++ registers globals w.pool (drop i operands) ≡ total → all ≡ total
  registers_done w all total operands i le h = sym (append-nil all) ∙ ap (λ (os : List (Ty × Operand)). all ++ registers globals w.pool os) (sym (drop_all i operands le)) ∙ h

-- ---- edges and blocks

pub edge_pool : (w : Written) (e : Edge) → (put_edge w e).pool ≡ w.pool
unfolding put_edge
edge_pool w e = refl

pub edge_own : (w : Written) (e : Edge) → (put_edge w e).own ≡ w.own
unfolding put_edge
edge_own w e = refl

pub begun_globals : (w : Written) → (begun w).globals ≡ w.globals
unfolding begun
begun_globals w = refl

pub begun_function : (w : Written) → (begun w).function ≡ w.function
unfolding begun
begun_function w = refl

pub begun_next : (w : Written) → (begun w).pool.next ≡ w.pool.next
unfolding begun
begun_next w = refl

pub begun_own : (w : Written) → (begun w).own ≡ w.own + 1
unfolding begun
begun_own w = refl

-- a block that is finished as it is
pub ended : (w : Written) → w.pool.next ≡ length w.types → whole w no_ending ≡ record w { done = w.done ++ w.code ∷ []; code = []; pool = empty_pool w.pool.next }
unfolding whole
ended w e = rw (append-nil w.code, append-nil w.types, append-nil w.edges, e) (let same : w.own + 0 ≡ w.own = omega arith in ap (λ (n : ℕ). record w { done = w.done ++ w.code ∷ []; code = []; pool = empty_pool (length w.types); own = n }) same)
