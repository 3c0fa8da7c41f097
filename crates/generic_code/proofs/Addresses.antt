-- The address of a part is what the code of its addends computes.
use Rattle.std.proofs.Common.{◌≡◌, refl, sym, ap, subst, ◌∙◌, ℕ, zero, suc, ◌+◌, ◌-◌, ◌*◌, ◌%◌, ◌^◌, ◌<◌, ◌≤◌, ◌⊎◌, inl, inr, Bool, true, false, cond, List, [], ◌∷◌, ◌++◌, length, Option, Some, None, arith}
use Rattle.std.specs.Prelude.{slice_get, slice_index_or, ◌==◌, ◌&&◌, nat_lt, not, pos, ◌-ℤ◌, if◌then◌else◌}
use Rattle.std.specs.Int.{w64, trailing_zeros}
use Rattle.std.proofs.Math.Nat.{mod-eq_of_lt}
use Rattle.std.proofs.lemmas.Nat.{mul-mod_second}
use Rattle.std.proofs.lemmas.List.{append_assoc}
use Rattle.std.proofs.lemmas.Bool.{and_parts, ltb-true, eqb-true, cases_lt, lt-ltb, le-ltb}
use Rattle.ir_core.specs.Program.{Program}
use Rattle.ir_core.specs.declared.types.Ty.{Ty}
use Rattle.ir_core.specs.declared.types.Ty.TheVariants.{Int}
use Rattle.ir_core.specs.declared.code.Operand.TheVariants.{Num}
use Rattle.ir_core.specs.declared.code.BinOp.TheVariants.{Add, Mul, Shl}
use Rattle.ir_core.specs.declared.code.CastOp.TheVariants as c
use Rattle.rj_num.specs.Width.{signed, modulo}
use Rattle.ir_meaning.specs.Value.{Value}
use Rattle.ir_meaning.specs.Memory.{index_64}
use Rattle.ir_meaning.specs.Operators as op
use Rattle.ir_meaning.specs.Operators.{width, cast}
use Rattle.gmir.specs.declared.code.GType.{GType}
use Rattle.gmir.specs.declared.code.GType.TheVariants.{S, P0}
use Rattle.gmir.specs.declared.code.GOp.{GOp}
use Rattle.gmir.specs.declared.code.GOp.TheVariants as g
use Rattle.gmir.specs.declared.code.GInst.{GInst}
use Rattle.gmir.specs.declared.code.GFunction.{GFunction}
use Rattle.gmir.specs.Play as play
use Rattle.gmir.specs.Play.{State, Computes, kind, weight, is_legal, is_full, width_of, by, value}
use Rattle.walks.specs.Registers.{Registers, write}
use Rattle.walks.specs.Walk.{Bits}
use Rattle.walks.specs.Bits.{constant, free}
use Rattle.walks.specs.Refines.{RefinesBits}
use Rattle.walks.specs.Simulation.{here}
use Rattle.walks.specs.Functions.{bits_of}
use Rattle.generic_code.specs.Literals.{Pool, plain, skip, loads, all_loaded, registers, behind_all, register_of}
use Rattle.generic_code.specs.Parts.{Addend, Bytes, Times, Left, extended, exponent, scale_by, literal_64, with_literal, multiplied, then_left, left_of, sum_code, sum_types, sum_pool, offset, values_then, bytes_in, in_order}
use Rattle.generic_code.proofs.Loads.{Stand, stand_front, stand_first, stand_tail, stand_behind, width_there, other_same, written_there, Known, known_next, ValuesTyped, Prepared, prepared, registers_behind, unchanged, behind_all_above, loads_run, by_most, Holds}
use Rattle.generic_code.proofs.Results.{binary_row, cast_row, copy_row}
use Rattle.generic_code.proofs.Computes.{resized}
use Rattle.generic_code.proofs.Absolutes.{below_zero}
use Rattle.generic_code.proofs.Choices.{no_flags}
use Rattle.generic_code.proofs.Runs.{Runs, run_then, run_one, computed_bits, Gets, gets_then, gets_one}
use Rattle.generic_code.proofs.Distances.{amount, total, IsGiven, AllGiven, IsAddend, AreAddends, number_or_0}

-- ---- numbers

-- a number of its own width, extended by its sign, is the same
same_extended : (w n : ℕ) → n < 2 ^ w → modulo w (signed w n) ≡ n
same_extended w n small = by_sign (cases_lt n (2 ^ (w - 1)))
  where
    by_sign : (n < 2 ^ (w - 1)) ⊎ (2 ^ (w - 1) ≤ n) → modulo w (signed w n) ≡ n
    by_sign (inl l) = ap (λ (b : Bool). modulo w (if not b then pos n -ℤ pos (2 ^ w) else pos n)) (lt-ltb n (2 ^ (w - 1)) l) ∙ mod-eq_of_lt small
    by_sign (inr l) =
        let low : 2 ^ w - n - 1 < 2 ^ w = omega (arith, small) in
        ap (λ (b : Bool). modulo w (if not b then pos n -ℤ pos (2 ^ w) else pos n)) (le-ltb n (2 ^ (w - 1)) l) ∙ ap (modulo w) (below_zero n (2 ^ w) small)
        ∙ ap (λ (k : ℕ). 2 ^ w - 1 - k) (mod-eq_of_lt low) ∙ (let e : 2 ^ w - 1 - (2 ^ w - n - 1) ≡ n = omega (arith, small) in e)

some_of : {A : Type 0} (x y : A) → Some x ≡ Some y → x ≡ y
some_of x y e = cc

-- an exponent that is found is one
power_of : (size k : ℕ) → exponent size ≡ Some k → (k < 64) × (size ≡ 2 ^ k)
power_of size k e = by_test (nat_lt (trailing_zeros w64 size) 64 && size == 2 ^ trailing_zeros w64 size) refl e
  where
    j : ℕ
    j = trailing_zeros w64 size

    by_test : (b : Bool) → (nat_lt j 64 && size == 2 ^ j) ≡ b → cond b (Some j) None ≡ Some k → (k < 64) × (size ≡ 2 ^ k)
    by_test true t e =
        let parts = and_parts (nat_lt j 64) (size == 2 ^ j) t in
        let same : j ≡ k = some_of j k e in
        subst (λ (i : ℕ). (i < 64) × (size ≡ 2 ^ i)) same (ltb-true j 64 parts.0, eqb-true size (2 ^ j) parts.1)
    by_test false t e = absurd (let bad : ⊥ = cc in bad)

-- ---- full registers

full_type : (ty : GType) → width_of ty ≡ 64 → is_full ty ≡ true
full_type (S w) e = let same : (w == 64) ≡ true = grind (arith, e) in same
full_type P0 e = refl

legal_one : (types : List GType) (o : GOp) (d a n : ℕ) → play.width types d ≡ 64 → play.width types a ≡ 64 → is_legal types (plain o (d ∷ []) (a ∷ []) n) ≡ true
legal_one types o d a n e e' = rw (full_type (slice_index_or types d P0) e, full_type (slice_index_or types a P0) e') refl

legal_two : (types : List GType) (o : GOp) (d a b n : ℕ) → play.width types d ≡ 64 → play.width types a ≡ 64 → play.width types b ≡ 64 → is_legal types (plain o (d ∷ []) (a ∷ b ∷ []) n) ≡ true
legal_two types o d a b n e e' e'' = rw (full_type (slice_index_or types d P0) e, full_type (slice_index_or types a P0) e', full_type (slice_index_or types b P0) e'') refl

by_legal : (legal : Bool) (m n : ℕ) → legal ≡ true → by legal m n ≤ m
by_legal true m n e = omega arith
by_legal false m n e = absurd (let bad : ⊥ = cc in bad)

module _ (program : Program) (f : GFunction) (tys : List Ty) (values : List Value) (typed : ValuesTyped program f tys values) where
  abbrev Regs_hold : Registers → Type 0
  Regs_hold = Holds program f tys values

  -- code that leaves a number in a register
  pub record LeftRun (s : State) (left : Left) (next most : ℕ) (Given : Type 0) (n : ℕ) : Type 0 where
    pub regs : Registers
    pub run : (r : List GInst) → Runs f s left.code r regs most
    pub known : Known f tys left.pool regs
    pub holds : Regs_hold regs
    pub same : (x : ℕ) → x < next → regs x ≡ s.regs x
    pub up : next ≤ left.pool.next
    pub below : left.register < left.pool.next
    pub wide : play.width f.types left.register ≡ 64
    pub bits : Given → RefinesBits (constant 64 n) (regs left.register)

  -- values hold still where registers beyond theirs are written
  holds_beyond : (regs : Registers) (d : ℕ) (a : Bits) → length tys ≤ d → Regs_hold regs → Regs_hold (write regs d a)
  holds_beyond regs d a up holds n ty e =
      let below = value_here n ty tys e in
      rw (other_same regs d a n (λ z. let bad : ⊥ = omega (arith, z, below, up) in bad)) (holds n ty e)
    where
      value_here : (n : ℕ) (ty : Ty) (ts : List Ty) → slice_get ts n ≡ Some ty → n < length ts
      value_here n ty ts e = short n ts e
        where
          short : (n : ℕ) (ts : List Ty) → slice_get ts n ≡ Some ty → n < length ts
          short n [] e = absurd (let bad : ⊥ = cc in bad)
          short zero (t ∷ ts) e = omega arith
          short (suc n) (t ∷ ts) e = let l = short n ts e in omega (arith, l)

  -- ---- extended by its sign

  extended_run : (s : State) (pool : Pool) (w number : ℕ) → slice_get tys number ≡ Some (Int w) → 1 ≤ w → w ≤ 64 → Known f tys pool s.regs → Regs_hold s.regs
      → Stand f.types pool.next (extended (w == 64) pool number).types
      → LeftRun s (extended (w == 64) pool number) pool.next 72 (IsGiven values (Times w number 1)) (index_64 w (number_or_0 (slice_index_or values number None)))
  extended_run s pool w number is some most known holds stand = by_test (w == 64) refl stand
    where
      type_is : play.width f.types number ≡ w
      type_is = width_there f.types number (S w) (typed number (Int w) is)

      number_low : number < length tys
      number_low = short number tys is
        where
          short : (n : ℕ) (ts : List Ty) → slice_get ts n ≡ Some (Int w) → n < length ts
          short n [] e = absurd (let bad : ⊥ = cc in bad)
          short zero (t ∷ ts) e = omega arith
          short (suc n) (t ∷ ts) e = let l = short n ts e in omega (arith, l)

      by_test : (b : Bool) → (w == 64) ≡ b → Stand f.types pool.next (extended b pool number).types
          → LeftRun s (extended b pool number) pool.next 72 (IsGiven values (Times w number 1)) (index_64 w (number_or_0 (slice_index_or values number None)))
      by_test true e stand =
          let is_64 : w ≡ 64 = grind (arith, e) in
          let low = known.low in
          record {
            regs = s.regs;
            run = λ r. (0, here, omega arith);
            known = known;
            holds = holds;
            same = λ x l. refl;
            up = omega arith;
            below = omega (arith, low, number_low);
            wide = type_is ∙ is_64;
            bits = λ given.
                let v = given.0 in
                let plain_is : index_64 w (number_or_0 (slice_index_or values number None)) ≡ given.0 =
                ap (λ (z : Value). index_64 w (number_or_0 z)) given.1 ∙ ap (λ (z : ℕ). index_64 z given.0) is_64 ∙ same_extended 64 given.0 (subst (λ (z : ℕ). given.0 < 2 ^ z) is_64 given.2) in
                let here : RefinesBits (constant w given.0) (s.regs number) = subst (λ (z : Value). RefinesBits (bits_of w z) (s.regs number)) given.1 (holds number (Int w) is) in
                subst (λ (z : ℕ). RefinesBits (constant 64 z) (s.regs number)) (sym plain_is) (subst (λ (z : ℕ). RefinesBits (constant z given.0) (s.regs number)) is_64 here);
          }
      by_test false e stand =
          let not_64 : w < 64 = (let other : w ≡ 64 → ⊥ = (λ z. let t : (w == 64) ≡ true = grind (arith, z) in let bad : ⊥ = cc in bad) in omega (arith, most, other)) in
          let low = known.low in
          let type' = width_there f.types pool.next (S 64) (stand_first f.types pool.next (S 64) [] stand) in
          record {
            regs = write s.regs pool.next (computed_bits f s g.SExt pool.next (number ∷ []) 0 []);
            run = λ r. run_one f s g.SExt pool.next (number ∷ []) 0 72 r refl (by_most _ 24 72 72 (omega arith) (omega arith));
            known = known_next f tys pool s.regs (computed_bits f s g.SExt pool.next (number ∷ []) 0 []) known;
            holds = holds_beyond s.regs pool.next (computed_bits f s g.SExt pool.next (number ∷ []) 0 []) low holds;
            same = λ x l. other_same s.regs pool.next (computed_bits f s g.SExt pool.next (number ∷ []) 0 []) x (λ z. let bad : ⊥ = omega (arith, z, l) in bad);
            up = omega arith;
            below = omega arith;
            wide = type';
            bits = λ given.
                let here : RefinesBits (constant w given.0) (s.regs number) = subst (λ (z : Value). RefinesBits (bits_of w z) (s.regs number)) given.1 (holds number (Int w) is) in
                let row : RefinesBits (constant 64 (index_64 w given.0)) (computed_bits f s g.SExt pool.next (number ∷ []) 0 []) =
                resized g.SExt (play.width f.types pool.next) (play.width f.types number) (play.width f.types 0) 64 w (play.width f.types 0) 0 (s.regs number) free free (constant 64 (index_64 w given.0)) type' type_is refl
                (cast_row no_flags (play.width f.types 0) (s.regs number) free free c.SExt (Int w) (Int 64) (Some given.0) ((some, most), (omega arith, omega arith), not_64) given.2 here) in
                subst (RefinesBits (constant 64 (index_64 w (number_or_0 (slice_index_or values number None))))) (sym (written_there s.regs pool.next (computed_bits f s g.SExt pool.next (number ∷ []) 0 [])))
                (subst (λ (z : Value). RefinesBits (constant 64 (index_64 w (number_or_0 z))) (computed_bits f s g.SExt pool.next (number ∷ []) 0 [])) (sym given.1) row);
          }

  -- ---- multiplied by a size

  abbrev gl : List Rattle.ir_core.specs.declared.program.Global.Global
  gl = program.module_.globals

  literal_prepared : (s : State) (pool : Pool) (n : ℕ) → n < 2 ^ 64 → Known f tys pool s.regs → Regs_hold s.regs → Stand f.types pool.next (all_loaded gl pool (literal_64 n))
      → Prepared program f tys values pool (literal_64 n) (registers_behind gl f pool (literal_64 n) s.regs)
  literal_prepared s pool n small known holds stand = prepared program f tys values (literal_64 n) pool s.regs ((omega arith, omega arith), small, tt) typed known holds stand

  -- by an operation of two full registers, where it gives what is wanted
  scaled_run : (s : State) (pool : Pool) (number n k m : ℕ) (o : GOp) (Given : Type 0) → k < 2 ^ 64 → kind o ≡ Computes → ((legal : Bool) → legal ≡ true → play.op_weight o legal 2 ≤ 40)
      → ((A B : Bits) → RefinesBits (constant 64 n) A → RefinesBits (constant 64 k) B → RefinesBits (constant 64 m) (value o 64 64 64 0 A B free))
      → number < pool.next → play.width f.types number ≡ 64 → (Given → RefinesBits (constant 64 n) (s.regs number)) → Known f tys pool s.regs → Regs_hold s.regs
      → Stand f.types pool.next (with_literal gl (o, k) pool number).types
      → LeftRun s (with_literal gl (o, k) pool number) pool.next 64 Given m
  scaled_run s pool number n k m o Given small computes light row below wide bits known holds stand = record {
    regs = write regs d (computed_bits f (record s { regs = regs }) o d (number ∷ rs) 0 []);
    run = λ r. run_then f s (loads gl pool (literal_64 k)) (plain o (d ∷ []) (number ∷ rs) 0 ∷ []) r regs (write regs d (computed_bits f (record s { regs = regs }) o d (number ∷ rs) 0 [])) 24 40
        (loads_run gl f (literal_64 k) s pool (plain o (d ∷ []) (number ∷ rs) 0 ∷ r))
        (run_one f (record s { regs = regs }) o d (number ∷ rs) 0 40 r computes (light (is_legal f.types (plain o (d ∷ []) (number ∷ rs) 0)) (legal_two f.types o d number lit 0 type' wide pre.ready.0.wide)));
    known = known_next f tys (behind_all gl pool (literal_64 k)) regs (computed_bits f (record s { regs = regs }) o d (number ∷ rs) 0 []) pre.known;
    holds = holds_beyond regs d (computed_bits f (record s { regs = regs }) o d (number ∷ rs) 0 []) pre.known.low pre.holds;
    same = λ x l. other_same regs d (computed_bits f (record s { regs = regs }) o d (number ∷ rs) 0 []) x (λ z. let bad : ⊥ = omega (arith, z, l, rise) in bad) ∙ unchanged gl f (literal_64 k) pool s.regs x l;
    up = omega (arith, rise);
    below = omega arith;
    wide = type';
    bits = λ given.
        subst (RefinesBits (constant 64 m)) (sym (written_there regs d (computed_bits f (record s { regs = regs }) o d (number ∷ rs) 0 [])))
        (resized o (play.width f.types d) (play.width f.types number) (play.width f.types lit) 64 64 64 0 (regs number) (regs lit) free (constant 64 m) type' wide pre.ready.0.wide
        (row (regs number) (regs lit) (subst (RefinesBits (constant 64 n)) (sym (unchanged gl f (literal_64 k) pool s.regs number below)) (bits given)) pre.ready.0.bits));
  }
    where
      stand_lit : Stand f.types pool.next (all_loaded gl pool (literal_64 k))
      stand_lit = stand_front f.types pool.next (all_loaded gl pool (literal_64 k)) (S 64 ∷ []) stand

      regs : Registers
      regs = registers_behind gl f pool (literal_64 k) s.regs

      pre : Prepared program f tys values pool (literal_64 k) (registers_behind gl f pool (literal_64 k) s.regs)
      pre = literal_prepared s pool k small known holds stand_lit

      d : ℕ
      d = (behind_all gl pool (literal_64 k)).next

      rs : List ℕ
      rs = registers gl pool (literal_64 k)

      lit : ℕ
      lit = register_of (Num k) (Some k) (Int 64) pool

      rise : pool.next ≤ (behind_all gl pool (literal_64 k)).next
      rise = behind_all_above gl (literal_64 k) pool

      type' : play.width f.types (behind_all gl pool (literal_64 k)).next ≡ 64
      type' = width_there f.types d (S 64) (stand_first f.types d (S 64) [] (stand_behind gl f.types (literal_64 k) pool (S 64 ∷ []) stand))

  multiplied_run : (s : State) (pool : Pool) (number n size : ℕ) (Given : Type 0) → size < 2 ^ 64 → n < 2 ^ 64 → number < pool.next → play.width f.types number ≡ 64 → (Given → RefinesBits (constant 64 n) (s.regs number))
      → Known f tys pool s.regs → Regs_hold s.regs → Stand f.types pool.next (multiplied gl size pool number).types
      → LeftRun s (multiplied gl size pool number) pool.next 64 Given ((n * size) % 2 ^ 64)
  multiplied_run s pool number n size Given small low below wide bits known holds stand = by_one (size == 1) refl stand
    where
      by_power : (o : Option ℕ) → exponent size ≡ o → Stand f.types pool.next (with_literal gl (scale_by o size) pool number).types → LeftRun s (with_literal gl (scale_by o size) pool number) pool.next 64 Given ((n * size) % 2 ^ 64)
      by_power None e st =
          scaled_run s pool number n size ((n * size) % 2 ^ 64) g.Mul Given small refl (λ legal t. by_legal legal 40 184 t)
          (λ A B p q. binary_row no_flags 64 (omega arith) A B free Mul (Some n) (Some size) (Some ((n * size) % 2 ^ 64)) low small p q refl) below wide bits known holds st
      by_power (Some k) e st =
          let power = power_of size k e in
          let few = power.0 in
          let k_small : k < 2 ^ 64 = omega (arith, few) in
          subst (λ (z : ℕ). LeftRun s (with_literal gl (g.Shl, k) pool number) pool.next 64 Given ((n * z) % 2 ^ 64)) (sym power.1)
          (scaled_run s pool number n k ((n * 2 ^ k) % 2 ^ 64) g.Shl Given k_small refl (λ legal t. (let w = by_legal legal 24 160 t in omega (arith, w)))
          (λ A B p q. binary_row no_flags 64 (omega arith) A B free Shl (Some n) (Some k) (Some ((n * 2 ^ k) % 2 ^ 64)) low k_small p q (shift_is k few)) below wide bits known holds st)
        where
          shift_is : (k : ℕ) → k < 64 → op.binary Shl no_flags 64 (Some n) (Some k) ≡ Rattle.ir_meaning.specs.Value.Gives (Some ((n * 2 ^ k) % 2 ^ 64))
          shift_is k few = ap (λ (b : Bool). Rattle.ir_meaning.specs.Value.Gives (cond b (Some ((n * 2 ^ k) % 2 ^ 64)) None)) (lt-ltb k 64 few)

      by_one : (b : Bool) → (size == 1) ≡ b → Stand f.types pool.next (cond b (record { code = []; types = []; register = number; pool = pool }) (with_literal gl (scale_by (exponent size) size) pool number)).types
          → LeftRun s (cond b (record { code = []; types = []; register = number; pool = pool }) (with_literal gl (scale_by (exponent size) size) pool number)) pool.next 64 Given ((n * size) % 2 ^ 64)
      by_one true e st =
          let one : size ≡ 1 = grind (arith, e) in
          let product : n * size ≡ n = ap (λ (z : ℕ). n * z) one ∙ (let z : n * 1 ≡ n = omega arith in z) in
          let same_n : (n * size) % 2 ^ 64 ≡ n = ap (λ (z : ℕ). z % 2 ^ 64) product ∙ mod-eq_of_lt low in
          record {
            regs = s.regs;
            run = λ r. (0, here, omega arith);
            known = known;
            holds = holds;
            same = λ x l. refl;
            up = omega arith;
            below = below;
            wide = wide;
            bits = λ given. subst (λ (z : ℕ). RefinesBits (constant 64 z) (s.regs number)) (sym same_n) (bits given);
          }
      by_one false e st = by_power (exponent size) refl st

  -- ---- one addend

  left_run : (s : State) (pool : Pool) (one : Addend) → IsAddend tys one → Known f tys pool s.regs → Regs_hold s.regs → ((count : ℕ) → one ≡ Bytes count → count < 2 ^ 64) → Stand f.types pool.next (left_of gl one pool).types
      → LeftRun s (left_of gl one pool) pool.next 136 (IsGiven values one) (amount values one % 2 ^ 64)
  left_run s pool (Bytes count) is known holds small stand =
      let pre = literal_prepared s pool count (small count refl) known holds stand in
      record {
        regs = registers_behind gl f pool (literal_64 count) s.regs;
        run = λ r. (let run = loads_run gl f (literal_64 count) s pool r in let low = run.2 in (run.0, run.1, omega (arith, low)));
        known = pre.known;
        holds = pre.holds;
        same = λ x l. unchanged gl f (literal_64 count) pool s.regs x l;
        up = behind_all_above gl (literal_64 count) pool;
        below = pre.ready.0.below;
        wide = pre.ready.0.wide;
        bits = λ given. subst (λ (z : ℕ). RefinesBits (constant 64 z) (registers_behind gl f pool (literal_64 count) s.regs (register_of (Num count) (Some count) (Int 64) pool))) (sym (mod-eq_of_lt (small count refl))) pre.ready.0.bits;
      }
  left_run s pool (Times w number size) is known holds small stand =
      let n = index_64 w (number_or_0 (slice_index_or values number None)) in
      let stand_1 = stand_front f.types pool.next (extended (w == 64) pool number).types (multiplied gl (size % 2 ^ 64) (extended (w == 64) pool number).pool (extended (w == 64) pool number).register).types stand in
      let first = extended_run s pool w number is.0 is.1 is.2 known holds stand_1 in
      let second = multiplied_run (record s { regs = first.regs }) (extended (w == 64) pool number).pool (extended (w == 64) pool number).register n (size % 2 ^ 64) (IsGiven values (Times w number size))
      (omega arith) (low_index w (number_or_0 (slice_index_or values number None))) first.below first.wide first.bits first.known first.holds
      (stand_second (w == 64) stand) in
      let rise = first.up in
      let rise' = second.up in
      record {
        regs = second.regs;
        run = λ r. run_then f s (extended (w == 64) pool number).code (multiplied gl (size % 2 ^ 64) (extended (w == 64) pool number).pool (extended (w == 64) pool number).register).code r first.regs second.regs 72 64
            (first.run ((multiplied gl (size % 2 ^ 64) (extended (w == 64) pool number).pool (extended (w == 64) pool number).register).code ++ r)) (second.run r);
        known = second.known;
        holds = second.holds;
        same = λ x l. second.same x (omega (arith, l, rise)) ∙ first.same x l;
        up = omega (arith, rise, rise');
        below = second.below;
        wide = second.wide;
        bits = λ given. subst (λ (z : ℕ). RefinesBits (constant 64 z) (second.regs (left_of gl (Times w number size) pool).register)) (mul-mod_second n size (2 ^ 64)) (second.bits given);
      }
    where
      low_modulo : (z : Rattle.std.specs.Prelude.ℤ) → modulo 64 z < 2 ^ 64
      low_modulo (pos k) = omega arith
      low_modulo (Rattle.std.specs.Prelude.negsuc k) = omega arith

      low_index : (w n : ℕ) → index_64 w n < 2 ^ 64
      low_index w n = low_modulo (signed w n)

      stand_second : (b : Bool) → Stand f.types pool.next (then_left gl (extended b pool number) (multiplied gl (size % 2 ^ 64))).types
          → Stand f.types (extended b pool number).pool.next (multiplied gl (size % 2 ^ 64) (extended b pool number).pool (extended b pool number).register).types
      stand_second true st = st
      stand_second false st = stand_tail f.types pool.next (S 64) (multiplied gl (size % 2 ^ 64) (extended false pool number).pool (extended false pool number).register).types st

  -- the registers behind an addend
  with_stand : (pool : Pool) (number : ℕ) (o : GOp × ℕ) (more : List GType) → Stand f.types pool.next ((with_literal gl o pool number).types ++ more) → Stand f.types (with_literal gl o pool number).pool.next more
  with_stand pool number o more h =
      stand_tail f.types (behind_all gl pool (literal_64 o.1)).next (S 64) more
      (stand_behind gl f.types (literal_64 o.1) pool (S 64 ∷ more) (subst (λ (z : List GType). Stand f.types pool.next z) (append_assoc (all_loaded gl pool (literal_64 o.1)) (S 64 ∷ []) more) h))

  multiplied_stand : (size : ℕ) (pool : Pool) (number : ℕ) (more : List GType) → Stand f.types pool.next ((multiplied gl size pool number).types ++ more) → Stand f.types (multiplied gl size pool number).pool.next more
  multiplied_stand size pool number more h = by_one (size == 1) h
    where
      by_one : (b : Bool) → Stand f.types pool.next ((cond b (record { code = []; types = []; register = number; pool = pool }) (with_literal gl (scale_by (exponent size) size) pool number)).types ++ more)
          → Stand f.types (cond b (record { code = []; types = []; register = number; pool = pool }) (with_literal gl (scale_by (exponent size) size) pool number)).pool.next more
      by_one true st = st
      by_one false st = with_stand pool number (scale_by (exponent size) size) more st

  pub left_stand : (one : Addend) (pool : Pool) (more : List GType) → Stand f.types pool.next ((left_of gl one pool).types ++ more) → Stand f.types (left_of gl one pool).pool.next more
  left_stand (Bytes count) pool more h = stand_behind gl f.types (literal_64 count) pool more h
  left_stand (Times w number size) pool more h = by_width (w == 64) h
    where
      by_width : (b : Bool) → Stand f.types pool.next ((then_left gl (extended b pool number) (multiplied gl (size % 2 ^ 64))).types ++ more)
          → Stand f.types (then_left gl (extended b pool number) (multiplied gl (size % 2 ^ 64))).pool.next more
      by_width true st = multiplied_stand (size % 2 ^ 64) pool number more st
      by_width false st = multiplied_stand (size % 2 ^ 64) (skip 1 pool) pool.next more (stand_tail f.types pool.next (S 64) ((multiplied gl (size % 2 ^ 64) (skip 1 pool) pool.next).types ++ more) st)

  -- ---- all addends, one after another

  -- offsets are numbers of 64 bits
  abbrev pub AreShort : List Addend → Type 0
  AreShort [] = Unit {0}
  AreShort (one ∷ more) = ((count : ℕ) → one ≡ Bytes count → count < 2 ^ 64) × AreShort more

  -- the code that adds these to a base leaves the sum in a register of a value
  pub record SumRun (s : State) (result from : ℕ) (pool : Pool) (all : List Addend) : Type 0 where
    pub regs : Registers
    pub sum : Bits
    pub gets : (r : List GInst) → Gets f s (sum_code gl result from pool all) r (write regs result sum) (36 + 160 * length all)
    pub known : Known f tys (sum_pool gl pool all) regs
    pub holds : Regs_hold regs
    pub bits : (base : ℕ) → base < 2 ^ 64 → RefinesBits (constant 64 base) (s.regs from) → AllGiven values all → RefinesBits (constant 64 ((base + total values all) % 2 ^ 64)) sum

  -- one addend, added to a base
  added : (A B : Bits) (base n : ℕ) → base < 2 ^ 64 → RefinesBits (constant 64 base) A → RefinesBits (constant 64 (n % 2 ^ 64)) B → RefinesBits (constant 64 ((base + n) % 2 ^ 64)) (value g.PtrAdd 64 64 64 0 A B free)
  added A B base n small p q =
      let same : (base + n % 2 ^ 64) % 2 ^ 64 ≡ (base + n) % 2 ^ 64 = omega arith in
      let low : n % 2 ^ 64 < 2 ^ 64 = omega arith in
      subst (λ (z : ℕ). RefinesBits (constant 64 z) (value g.PtrAdd 64 64 64 0 A B free)) same
      (binary_row no_flags 64 (omega arith) A B free Add (Some base) (Some (n % 2 ^ 64)) (Some ((base + n % 2 ^ 64) % 2 ^ 64)) small low p q refl)

  pub sum_run : (all : List Addend) (s : State) (result from : ℕ) (pool : Pool) → AreAddends tys all → AreShort all → Known f tys pool s.regs → Regs_hold s.regs → from < pool.next
      → play.width f.types from ≡ 64 → play.width f.types result ≡ 64 → Stand f.types pool.next (sum_types gl pool all) → SumRun s result from pool all
  sum_run [] s result from pool are short known holds below wide result_wide stand = record {
    regs = s.regs;
    sum = computed_bits f s g.Copy result (from ∷ []) 0 [];
    gets = λ r. gets_one f s g.Copy result (from ∷ []) 0 36 r refl (by_most _ 12 36 36 (omega arith) (omega arith));
    known = known;
    holds = holds;
    bits = λ base small at given.
        let same : (base + 0) % 2 ^ 64 ≡ base = (let z : base + 0 ≡ base = omega arith in ap (λ (k : ℕ). k % 2 ^ 64) z ∙ mod-eq_of_lt small) in
        subst (λ (z : ℕ). RefinesBits (constant 64 z) (computed_bits f s g.Copy result (from ∷ []) 0 [])) (sym same)
        (resized g.Copy (play.width f.types result) (play.width f.types from) (play.width f.types 0) 64 64 (play.width f.types 0) 0 (s.regs from) free free (constant 64 base) result_wide wide refl
        (copy_row 64 64 (play.width f.types 0) (Some base) (s.regs from) free free at));
  }
  sum_run (one ∷ []) s result from pool are short known holds below wide result_wide stand =
      let left = left_run s pool one are.0 known holds short.0 stand in
      let target = left_of gl one pool in
      record {
        regs = left.regs;
        sum = computed_bits f (record s { regs = left.regs }) g.PtrAdd result (from ∷ target.register ∷ []) 0 [];
        gets = λ r. (
            let q = gets_then f s target.code (plain g.PtrAdd (result ∷ []) (from ∷ target.register ∷ []) 0 ∷ []) r left.regs
            (write left.regs result (computed_bits f (record s { regs = left.regs }) g.PtrAdd result (from ∷ target.register ∷ []) 0 [])) 136 24
            (left.run (plain g.PtrAdd (result ∷ []) (from ∷ target.register ∷ []) 0 ∷ r))
            (gets_one f (record s { regs = left.regs }) g.PtrAdd result (from ∷ target.register ∷ []) 0 24 r refl
            (by_legal _ 24 160 (legal_two f.types g.PtrAdd result from target.register 0 result_wide wide left.wide))) in
            let low = q.4 in (q.0, q.1, q.2, q.3, omega (arith, low)));
        known = left.known;
        holds = left.holds;
        bits = λ base small at given.
            let none : amount values one + 0 ≡ amount values one = omega arith in
            subst (λ (z : ℕ). RefinesBits (constant 64 ((base + z) % 2 ^ 64)) (computed_bits f (record s { regs = left.regs }) g.PtrAdd result (from ∷ target.register ∷ []) 0 [])) (sym none)
            (resized g.PtrAdd (play.width f.types result) (play.width f.types from) (play.width f.types target.register) 64 64 64 0 (left.regs from) (left.regs target.register) free
            (constant 64 ((base + amount values one) % 2 ^ 64)) result_wide wide left.wide
            (added (left.regs from) (left.regs target.register) base (amount values one) small (subst (RefinesBits (constant 64 base)) (sym (left.same from below)) at) (left.bits given.0)));
      }
  sum_run (one ∷ two ∷ more) s result from pool are short known holds below wide result_wide stand =
      let target = left_of gl one pool in
      let left = left_run s pool one are.0 known holds short.0 (stand_front f.types pool.next target.types (P0 ∷ sum_types gl (skip 1 target.pool) (two ∷ more)) stand) in
      let stand_next = left_stand one pool (P0 ∷ sum_types gl (skip 1 target.pool) (two ∷ more)) stand in
      let t_wide = width_there f.types target.pool.next P0 (stand_first f.types target.pool.next P0 (sum_types gl (skip 1 target.pool) (two ∷ more)) stand_next) in
      let a = computed_bits f (record s { regs = left.regs }) g.PtrAdd target.pool.next (from ∷ target.register ∷ []) 0 [] in
      let regs' = write left.regs target.pool.next a in
      let rest = sum_run (two ∷ more) (record s { regs = regs' }) result target.pool.next (skip 1 target.pool) are.1 short.1 (known_next f tys target.pool left.regs a left.known)
      (holds_beyond left.regs target.pool.next a left.known.low left.holds) (omega arith) t_wide result_wide
      (stand_tail f.types target.pool.next P0 (sum_types gl (skip 1 target.pool) (two ∷ more)) stand_next) in
      record {
        regs = rest.regs;
        sum = rest.sum;
        gets = λ r. (
            let code = sum_code gl result target.pool.next (skip 1 target.pool) (two ∷ more) in
            let inner = gets_then f (record s { regs = left.regs }) (plain g.PtrAdd (target.pool.next ∷ []) (from ∷ target.register ∷ []) 0 ∷ []) code r regs' (write rest.regs result rest.sum) 24 (36 + 160 * length (two ∷ more))
            (run_one f (record s { regs = left.regs }) g.PtrAdd target.pool.next (from ∷ target.register ∷ []) 0 24 (code ++ r) refl
            (by_legal _ 24 160 (legal_two f.types g.PtrAdd target.pool.next from target.register 0 t_wide wide left.wide)))
            (rest.gets r) in
            let q = gets_then f s target.code (plain g.PtrAdd (target.pool.next ∷ []) (from ∷ target.register ∷ []) 0 ∷ code) r left.regs (write rest.regs result rest.sum) 136 (24 + (36 + 160 * length (two ∷ more)))
            (left.run ((plain g.PtrAdd (target.pool.next ∷ []) (from ∷ target.register ∷ []) 0 ∷ code) ++ r)) inner in
            let low = q.4 in (q.0, q.1, q.2, q.3, omega (arith, low)));
        known = rest.known;
        holds = rest.holds;
        bits = λ base small at given.
            let step_sum : RefinesBits (constant 64 ((base + amount values one) % 2 ^ 64)) a =
            resized g.PtrAdd (play.width f.types target.pool.next) (play.width f.types from) (play.width f.types target.register) 64 64 64 0 (left.regs from) (left.regs target.register) free
            (constant 64 ((base + amount values one) % 2 ^ 64)) t_wide wide left.wide
            (added (left.regs from) (left.regs target.register) base (amount values one) small (subst (RefinesBits (constant 64 base)) (sym (left.same from below)) at) (left.bits given.0)) in
            let low : (base + amount values one) % 2 ^ 64 < 2 ^ 64 = omega arith in
            let all_is : ((base + amount values one) % 2 ^ 64 + total values (two ∷ more)) % 2 ^ 64 ≡ (base + total values (one ∷ two ∷ more)) % 2 ^ 64 = omega arith in
            subst (λ (z : ℕ). RefinesBits (constant 64 z) rest.sum) all_is
            (rest.bits ((base + amount values one) % 2 ^ 64) low (subst (RefinesBits (constant 64 ((base + amount values one) % 2 ^ 64))) (sym (written_there left.regs target.pool.next a)) step_sum) given.1);
      }

  -- the offset in order is a number of 64 bits
  offset_short : (count : ℕ) → count < 2 ^ 64 → AreShort (offset count)
  offset_short count small = by_test (count == 0)
    where
      by_test : (b : Bool) → AreShort (cond b [] (Bytes count ∷ []))
      by_test true = tt
      by_test false = ((λ k e. let same : count ≡ k = cc in subst (λ (z : ℕ). z < 2 ^ 64) same small), tt)

  then_short : (last all : List Addend) → AreShort last → AreShort (values_then last all)
  then_short last [] h = h
  then_short last (Bytes count ∷ more) h = then_short last more h
  then_short last (Times w number size ∷ more) h = ((λ k e. absurd (let bad : ⊥ = cc in bad)), then_short last more h)

  pub order_short : (all : List Addend) → AreShort (in_order all)
  order_short all = let low : bytes_in all % 2 ^ 64 < 2 ^ 64 = omega arith in then_short (offset (bytes_in all % 2 ^ 64)) all (offset_short (bytes_in all % 2 ^ 64) low)
