-- A test of a register against a number of its type.
use Rattle.std.proofs.Common.{◌≡◌, refl, sym, ap, subst, ◌∙◌, ℕ, ◌+◌, ◌^◌, ◌<◌, ◌≤◌, Bool, true, false, List, [], ◌∷◌, ◌++◌, Some, arith}
use Rattle.std.specs.Prelude.{if◌then◌else◌, ◌==◌}
use Rattle.ir_core.specs.Program.{Program}
use Rattle.ir_core.specs.declared.types.Ty.{Ty}
use Rattle.ir_core.specs.declared.code.Operand.{Operand}
use Rattle.ir_core.specs.declared.code.Operand.TheVariants.{Num}
use Rattle.ir_core.specs.declared.code.Pred.TheVariants.{Eq}
use Rattle.ir_core.specs.declared.program.Function.{Function}
use Rattle.ir_core.specs.declared.program.Global.{Global}
use Rattle.ir_meaning.specs.declared.activation.Activation.{Activation}
use Rattle.ir_meaning.specs.Memory.{Memory}
use Rattle.ir_meaning.specs.Operators.{width, compare, bit}
use Rattle.ir_meaning.specs.Step.{function_at, case_block}
use Rattle.ir_meaning.specs.Typed.{types, IsInteger, IsTypedFunction}
use Rattle.gmir.specs.declared.code.GType.TheVariants.{S}
use Rattle.gmir.specs.declared.code.GOp.TheVariants as g
use Rattle.gmir.specs.declared.code.GInst.{GInst}
use Rattle.gmir.specs.declared.code.GFunction.{GFunction}
use Rattle.gmir.specs.Play as play
use Rattle.gmir.specs.Play.{State, weight, is_legal}
use Rattle.walks.specs.Registers.{Registers, write}
use Rattle.walks.specs.Walk.{Bits, Step}
use Rattle.walks.specs.Bits.{constant, free}
use Rattle.walks.specs.Refines.{RefinesBits}
use Rattle.walks.specs.Simulation.{Chain}
use Rattle.walks.specs.Functions.{bits_of}
use Rattle.generic_code.specs.Literals.{Pool, plain, loads, all_loaded, registers, register_of, behind_all}
use Rattle.generic_code.specs.Edges.{Edge, test_code, test_types}
use Rattle.generic_code.proofs.Loads.{behind_all_above, Stand, stand_front, stand_first, stand_behind, Known, known_next, Holds, ValuesTyped, Prepared, prepared, registers_behind, unchanged, loads_run, by_most, width_there, other_same, written_there, value_below}
use Rattle.generic_code.proofs.Results.{compare_row}
use Rattle.generic_code.proofs.Computes.{resized, integer_value}
use Rattle.generic_code.proofs.Choices.{no_flags}
use Rattle.generic_code.proofs.Steps.{Alike}
use Rattle.generic_code.proofs.Runs.{run_then, run_one, computed_bits}
use Rattle.generic_code.proofs.Arrivals.{BlockStands, Lands}

-- a number is equal to another both ways
equal_both : (a b : ℕ) → (a == b) ≡ (b == a)
equal_both a b = by_test (a == b) (b == a) refl refl
  where
    by_test : (x y : Bool) → (a == b) ≡ x → (b == a) ≡ y → x ≡ y
    by_test true true e e' = refl
    by_test false false e e' = refl
    by_test true false e e' = absurd (let same : a ≡ b = grind (arith, e) in let other : (b == a) ≡ true = grind (arith, same) in let bad : ⊥ = cc in bad)
    by_test false true e e' = absurd (let same : b ≡ a = grind (arith, e') in let other : (a == b) ≡ true = grind (arith, same) in let bad : ⊥ = cc in bad)

module _ (program : Program) (symbol : ℕ) (function : Function) (there : function_at program symbol ≡ Some function) (f : GFunction)
    (typed : ValuesTyped program f (types function) []) (all : List Edge) (well : IsTypedFunction program function) where
  abbrev gl : List Global
  gl = program.module_.globals

  abbrev L : Step State → Activation → Memory → ℕ → ℕ → Type 0
  L = Lands program symbol function there f typed all well

  abbrev pub B : ℕ → Type 0
  B = BlockStands program symbol function there f typed all well

  abbrev A : Activation → Memory → State → Type 0
  A = Alike program symbol function there f

  -- the blocks that a jump leads to stand
  abbrev pub AllCasesStand : List (ℕ × ℕ) → Type 0
  AllCasesStand [] = Unit {0}
  AllCasesStand (one ∷ cases) = B one.1 × AllCasesStand cases

  pub target_stands : (n : ℕ) (cases : List (ℕ × ℕ)) (otherwise : ℕ) → AllCasesStand cases → B otherwise → B (case_block n cases otherwise)
  target_stands n [] otherwise h b = b
  target_stands n (one ∷ cases) otherwise h b = by_test (one.0 == n) (target_stands n cases otherwise h.1 b)
    where
      by_test : (t : Bool) → B (case_block n cases otherwise) → B (if t then one.1 else case_block n cases otherwise)
      by_test true k = h.0
      by_test false k = k

  pub own_block : (now : Activation) (memory : Memory) (s : State) → A now memory s → A (record now { block = s.block }) memory s
  own_block now memory s h = record { symbol' = h.symbol'; base = h.base; block = refl; memory' = h.memory'; bytes = h.bytes; room = h.room; fit = h.fit; holds = h.holds }

  -- ---- one test

  abbrev pub ops_of : Ty → ℕ → List (Ty × Operand)
  ops_of of k = (of, Num k) ∷ []

  -- a register has the bits of a number, and lies below the free ones
  pub record HasNumber (of : Ty) (n r next : ℕ) (regs : Registers) : Type 0 where
    pub bits : RefinesBits (constant (width of) n) (regs r)
    pub wide : play.width f.types r ≡ width of
    pub below : r < next
    pub small : n < 2 ^ width of

  -- behind a test its bit says whether the number is that of the case
  pub record Tested (now : Activation) (memory : Memory) (s : State) (of : Ty) (n r : ℕ) (pool : Pool) (k : ℕ) (rest : List GInst) : Type 0 where
    pub regs : Registers
    pub w : ℕ
    pub chain : Chain State (play.step f) (play.step f (record s { rest = test_code gl function now.block of r pool k ++ rest })) (play.step f (record s { rest = rest; regs = regs })) w 0
    pub light : w ≤ 176
    pub known : Known f (types function) (record { next = (behind_all gl pool (ops_of of k)).next + 1; known = (behind_all gl pool (ops_of of k)).known }) regs
    pub holds : Holds program f (types function) now.values regs
    pub bit_is : regs (behind_all gl pool (ops_of of k)).next 0 ≡ Some (k == n)
    pub number : HasNumber of n r ((behind_all gl pool (ops_of of k)).next + 1) regs
    pub up : pool.next ≤ (behind_all gl pool (ops_of of k)).next

  bit_low : (b : Bool) → constant 1 (bit b) 0 ≡ Some b
  bit_low true = refl
  bit_low false = refl

  pub tested : (now : Activation) (memory : Memory) (s : State) (of : Ty) (n r : ℕ) (pool : Pool) (k : ℕ) (rest : List GInst) → IsInteger of → k < 2 ^ width of → A (record now { block = s.block }) memory s
      → Known f (types function) pool s.regs → HasNumber of n r pool.next s.regs → Stand f.types pool.next (test_types gl function now.block of pool k) → Tested now memory s of n r pool k rest
  tested now memory s of n r pool k rest integer small h known number stand = record {
    regs = write regs bit_register bits;
    w = run.0;
    chain = run.1;
    light = run.2;
    known = known_next f (types function) (behind_all gl pool (ops_of of k)) regs bits pre.known;
    holds = held;
    bit_is = ap (λ (z : Bits). z 0) (written_there regs bit_register bits) ∙ row 0 (k == n) (ap (λ (b : Bool). constant 1 (bit b) 0) (equal_both n k) ∙ bit_low (k == n));
    number = record {
      bits = subst (RefinesBits (constant (width of) n)) (sym (same r (omega (arith, below, rise)))) (subst (RefinesBits (constant (width of) n)) (sym (unchanged gl f (ops_of of k) pool s.regs r number.below)) number.bits);
      wide = number.wide;
      below = omega (arith, below, rise);
      small = number.small;
    };
    up = rise;
  }
    where
      below : r < pool.next
      below = number.below

      rise : pool.next ≤ (behind_all gl pool (ops_of of k)).next
      rise = behind_all_above gl (ops_of of k) pool

      regs : Registers
      regs = registers_behind gl f pool (ops_of of k) s.regs

      bit_register : ℕ
      bit_register = (behind_all gl pool (ops_of of k)).next

      lit : ℕ
      lit = register_of (Num k) (Some k) of pool

      bits : Bits
      bits = computed_bits f (record s { regs = regs }) g.Icmp bit_register (r ∷ registers gl pool (ops_of of k)) 0 []

      pre : Prepared program f (types function) now.values pool (ops_of of k) (registers_behind gl f pool (ops_of of k) s.regs)
      pre = prepared program f (types function) now.values (ops_of of k) pool s.regs (integer_value of integer, small, tt) typed known h.holds (stand_front f.types pool.next (all_loaded gl pool (ops_of of k)) (S 1 ∷ []) stand)

      same : (x : ℕ) → x < (behind_all gl pool (ops_of of k)).next → write regs bit_register bits x ≡ regs x
      same x l = other_same regs bit_register bits x (λ e. let bad : ⊥ = omega (arith, e, l) in bad)

      held : Holds program f (types function) now.values (write regs bit_register bits)
      held v ty e =
          let v_below = value_below program f (types function) now.values v ty (types function) e in
          let low = pre.known.low in
          rw (same v (omega (arith, v_below, low))) (pre.holds v ty e)

      bit_wide : play.width f.types (behind_all gl pool (ops_of of k)).next ≡ 1
      bit_wide = width_there f.types bit_register (S 1) (stand_first f.types bit_register (S 1) [] (stand_behind gl f.types (ops_of of k) pool (S 1 ∷ []) stand))

      row : RefinesBits (bits_of 1 (compare Eq no_flags (width of) (Some n) (Some k))) bits
      row =
          resized g.Icmp (play.width f.types bit_register) (play.width f.types r) (play.width f.types lit) 1 (width of) (width of) 0 (regs r) (regs lit) free (bits_of 1 (compare Eq no_flags (width of) (Some n) (Some k))) bit_wide number.wide pre.ready.0.wide
          (compare_row Eq no_flags (width of) (Some n) (Some k) (regs r) (regs lit) free number.small small
          (subst (RefinesBits (constant (width of) n)) (sym (unchanged gl f (ops_of of k) pool s.regs r below)) number.bits) pre.ready.0.bits)

      run : (w : ℕ) × Chain State (play.step f) (play.step f (record s { rest = test_code gl function now.block of r pool k ++ rest })) (play.step f (record s { rest = rest; regs = write regs bit_register bits })) w 0 × (w ≤ 176)
      run =
          let both = run_then f s (loads gl pool (ops_of of k)) (plain g.Icmp (bit_register ∷ []) (r ∷ registers gl pool (ops_of of k)) 0 ∷ []) rest regs (write regs bit_register bits) 24 152
          (loads_run gl f (ops_of of k) s pool (plain g.Icmp (bit_register ∷ []) (r ∷ registers gl pool (ops_of of k)) 0 ∷ rest))
          (run_one f (record s { regs = regs }) g.Icmp bit_register (r ∷ registers gl pool (ops_of of k)) 0 152 rest refl (by_most _ 44 152 152 (omega arith) (omega arith))) in
          let low = both.2 in
          (both.0, both.1, omega (arith, low))
