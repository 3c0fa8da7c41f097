-- The greater and the lesser of two numbers are followed by a comparison and a choice.
use Rattle.std.proofs.Common.{◌≡◌, refl, sym, ap, subst, ◌∙◌, ℕ, ◌+◌, ◌<◌, ◌≤◌, Bool, true, false, List, [], ◌∷◌, ◌++◌, Some, None, arith}
use Rattle.std.specs.Prelude.{slice_get, if◌then◌else◌, ◌==◌, nat_lt, nat_le, not, int_lt, int_le, ℤ}
use Rattle.std.proofs.lemmas.Int.{ints}
use Rattle.ir_core.specs.Program.{Program}
use Rattle.ir_core.specs.Units.{units, has_result}
use Rattle.ir_core.specs.declared.types.Ty.{Ty}
use Rattle.ir_core.specs.declared.types.Ty.TheVariants.{Void}
use Rattle.ir_core.specs.declared.code.Operand.{Operand}
use Rattle.ir_core.specs.declared.code.Flags.{Flags}
use Rattle.ir_core.specs.declared.code.Pred.{Pred}
use Rattle.ir_core.specs.declared.code.Pred.TheVariants.{Sge, Sle, Uge, Ule}
use Rattle.ir_core.specs.declared.code.BuiltIn.{BuiltIn}
use Rattle.ir_core.specs.declared.code.BuiltIn.TheVariants.{SMax, SMin, UMax, UMin}
use Rattle.ir_core.specs.declared.code.Inst.{Inst}
use Rattle.ir_core.specs.declared.program.Function.{Function}
use Rattle.rj_num.specs.Width.{signed}
use Rattle.ir_meaning.specs.declared.activation.Activation.{Activation}
use Rattle.ir_meaning.specs.Value.{Value}
use Rattle.ir_meaning.specs.Memory.{Memory}
use Rattle.ir_meaning.specs.Operators.{width, compare, select, holds, bit}
use Rattle.ir_meaning.specs.Step as ir
use Rattle.ir_meaning.specs.Step.{function_at, insts_at, number_at, act, operand, built_in}
use Rattle.ir_meaning.specs.Ranges.{FitsWidth}
use Rattle.ir_meaning.specs.Typed.{types, IsOperand, IsInteger}
use Rattle.ir_meaning.proofs.Fitting.{compare-fits, greatest-fits}
use Rattle.ir_meaning.proofs.Keeping.{operand-fits}
use Rattle.ir_meaning.proofs.Numbering.{number-type}
use Rattle.gmir.specs.declared.code.GType.TheVariants.{S}
use Rattle.gmir.specs.declared.code.GOp.TheVariants as g
use Rattle.gmir.specs.declared.code.GInst.{GInst}
use Rattle.gmir.specs.declared.code.GFunction.{GFunction}
use Rattle.gmir.specs.Play as play
use Rattle.gmir.specs.Play.{State, weight, is_legal, value}
use Rattle.walks.specs.Registers.{Registers, write}
use Rattle.walks.specs.Walk.{Bits, Goes, Step}
use Rattle.walks.specs.Refines.{RefinesBits}
use Rattle.walks.specs.Simulation.{Chain, here, further, moves}
use Rattle.walks.specs.Functions.{bits_of, Point, step_over_bits}
use Rattle.generic_code.specs.Literals.{Pool, type_of, plain, loads, all_loaded, registers, register_of, literal, behind, behind_all}
use Rattle.generic_code.specs.Code.{chooses, predicate}
use Rattle.generic_code.proofs.Loads.{Prepared, stand_front, stand_behind, value_below, Stand, stand_first, Holds, ValuesTyped, Readied, prepared, registers_behind, loads_run, width_there, same_width, by_most, Known}
use Rattle.generic_code.proofs.Computes.{resized, some_integer, integer_value}
use Rattle.generic_code.proofs.Results.{nothing, compare_row, select_row}
use Rattle.generic_code.proofs.Steps.{Alike, alike_behind, Fol, here_step, step_is}

-- ---- the choice by a comparison is the greater or the lesser

abbrev pub no_flags : Flags
no_flags = record { nuw = false; nsw = false; exact = false; disjoint = false; nneg = false; samesign = false }

-- a built-in that chooses one of two numbers, and its comparison
pub data Chooses : BuiltIn → Pred → Type 0 where
  greatest_signed : Chooses SMax Sge
  least_signed : Chooses SMin Sle
  greatest : Chooses UMax Uge
  least : Chooses UMin Ule

turned_signed : (x y : ℤ) → int_le y x ≡ not (int_lt x y)
turned_signed x y = grind (arith, ints)

turned : (x y : ℕ) → nat_le y x ≡ not (nat_lt x y)
turned x y = grind arith

by_bit : (b : Bool) (x y : ℕ) → Some (if b then y else x) ≡ select (Some (bit (not b))) (Some x) (Some y)
by_bit true x y = refl
by_bit false x y = refl

choice_is : (which : BuiltIn) (pred : Pred) → Chooses which pred → (w x y : ℕ) → built_in which w (Some x ∷ Some y ∷ []) ≡ select (Some (bit (holds pred w x y))) (Some x) (Some y)
choice_is which pred greatest_signed w x y = by_bit (int_lt (signed w x) (signed w y)) x y ∙ ap (λ (b : Bool). select (Some (bit b)) (Some x) (Some y)) (sym (turned_signed (signed w x) (signed w y)))
choice_is which pred least_signed w x y = by_bit (int_lt (signed w y) (signed w x)) x y ∙ ap (λ (b : Bool). select (Some (bit b)) (Some x) (Some y)) (sym (turned_signed (signed w y) (signed w x)))
choice_is which pred greatest w x y = by_bit (nat_lt x y) x y ∙ ap (λ (b : Bool). select (Some (bit b)) (Some x) (Some y)) (sym (turned x y))
choice_is which pred least w x y = by_bit (nat_lt y x) x y ∙ ap (λ (b : Bool). select (Some (bit b)) (Some x) (Some y)) (sym (turned y x))

poison_first : (which : BuiltIn) (pred : Pred) → Chooses which pred → (w : ℕ) (b : Value) → built_in which w (None ∷ b ∷ []) ≡ None
poison_first which pred greatest_signed w b = refl
poison_first which pred least_signed w b = refl
poison_first which pred greatest w b = refl
poison_first which pred least w b = refl

poison_second : (which : BuiltIn) (pred : Pred) → Chooses which pred → (w x : ℕ) → built_in which w (Some x ∷ None ∷ []) ≡ None
poison_second which pred greatest_signed w x = refl
poison_second which pred least_signed w x = refl
poison_second which pred greatest w x = refl
poison_second which pred least w x = refl

-- from registers that have the comparison and the two numbers
pub choice_row : (which : BuiltIn) (pred : Pred) → Chooses which pred → (w v u : ℕ) (a b : Value) (X A B : Bits) → FitsWidth w a → FitsWidth w b
    → RefinesBits (bits_of 1 (compare pred no_flags w a b)) X → RefinesBits (bits_of w a) A → RefinesBits (bits_of w b) B
    → RefinesBits (bits_of w (built_in which w (a ∷ b ∷ []))) (value g.Select w v u 0 X A B)
choice_row which pred c w v u None b X A B fits fits' p q r =
    subst (λ (z : Value). RefinesBits (bits_of w z) (value g.Select w v u 0 X A B)) (sym (poison_first which pred c w b)) (nothing w _)
choice_row which pred c w v u (Some x) None X A B fits fits' p q r =
    subst (λ (z : Value). RefinesBits (bits_of w z) (value g.Select w v u 0 X A B)) (sym (poison_second which pred c w x)) (nothing w _)
choice_row which pred c w v u (Some x) (Some y) X A B fits fits' p q r =
    subst (λ (z : Value). RefinesBits (bits_of w z) (value g.Select w v u 0 X A B)) (sym (choice_is which pred c w x y))
    (select_row w v u (Some (bit (holds pred w x y))) (Some x) (Some y) X A B (compare-fits pred no_flags w (Some x) (Some y) fits fits') p q r)

place_is : (which : BuiltIn) (pred : Pred) → Chooses which pred → chooses which ≡ predicate pred
place_is which pred greatest_signed = refl
place_is which pred least_signed = refl
place_is which pred greatest = refl
place_is which pred least = refl

-- ---- chains

-- one step more at the end of a chain
pub longer : {T : Type 0} {step : T → Step T} {st before : Step T} {w j : ℕ} → Chain T step st before w j → (s : T) → before.does ≡ Goes s
    → (w' : ℕ) × (j' : ℕ) × Chain T step st (step s) w' j' × (w' ≡ w + before.weight) × (j' ≡ j + before.jumps)
longer {step = step} (here {st = st}) s e = (st.weight + 0, st.jumps + 0, further s e here, (let z : st.weight + 0 ≡ 0 + st.weight = omega arith in z), (let z : st.jumps + 0 ≡ 0 + st.jumps = omega arith in z))
longer {before = before} (further {st = st} {w = w} {j = j} s0 e0 rest) s e =
    let q = longer rest s e in
    let one = q.3 in let two = q.4 in
    (st.weight + q.0, st.jumps + q.1, further s0 e0 q.2, omega (arith, one), omega (arith, two))

same_there : (regs : Registers) (c : ℕ) (a : Bits) → write regs c a c ≡ a
same_there regs c a = let e : (c == c) ≡ true = grind arith in rw e refl

same_below : (regs : Registers) (c : ℕ) (a : Bits) (x : ℕ) → x < c → write regs c a x ≡ regs x
same_below regs c a x h = let e : (x == c) ≡ false = grind arith in rw e refl

module _ (program : Program) (symbol : ℕ) (function : Function) (there : function_at program symbol ≡ Some function) (f : GFunction)
    (typed : ValuesTyped program f (types function) []) (R : Point program symbol → State → Type 0) (measure : Point program symbol → ℕ)
    (now : Activation) (memory : Memory) (s : State) (inst : Inst) (h : Alike program symbol function there f now memory s)
    (at : slice_get (insts_at function now.block) now.place ≡ Some inst)
    (next : Pool) (low : Known f (types function) next s.regs) (r : List GInst) (m : ℕ)
    (which : BuiltIn) (pred : Pred) (choosing : Chooses which pred) (x y : Operand) (integer : IsInteger inst.gives)
    (is_x : IsOperand (types function) inst.gives x) (is_y : IsOperand (types function) inst.gives y)
    (two_units : 2 ≤ units inst) (acts : act program function now memory inst inst.op
    ≡ ir.plain program function now memory inst (ir.give program function now memory inst (built_in which (width inst.gives) (operand program now.values x ∷ operand program now.values y ∷ []))))
    (stand : Stand f.types next.next (all_loaded program.module_.globals next ((inst.gives, x) ∷ (inst.gives, y) ∷ []) ++ S 1 ∷ [])) where
  abbrev ops : List (Ty × Operand)
  ops = (inst.gives, x) ∷ (inst.gives, y) ∷ []

  abbrev rs : List ℕ
  rs = registers program.module_.globals next ((inst.gives, x) ∷ (inst.gives, y) ∷ [])

  abbrev bit_register : ℕ
  bit_register = (behind_all program.module_.globals next ((inst.gives, x) ∷ (inst.gives, y) ∷ [])).next

  abbrev N : ℕ
  N = number_at function now.block now.place

  abbrev pub compare_inst : GInst
  compare_inst = plain g.Icmp (bit_register ∷ []) rs (chooses which)

  abbrev pub choice_inst : GInst
  choice_inst = plain g.Select (N ∷ []) (bit_register ∷ rs) 0

  abbrev regs : Registers
  regs = registers_behind program.module_.globals f next ((inst.gives, x) ∷ (inst.gives, y) ∷ []) s.regs

  abbrev compared_state : State
  compared_state = record s { rest = compare_inst ∷ choice_inst ∷ r; regs = regs }

  abbrev bit_bits : Bits
  bit_bits = play.result f compared_state compare_inst (choice_inst ∷ r)

  abbrev regs_with_bit : Registers
  regs_with_bit = write regs bit_register bit_bits

  abbrev choosing_state : State
  choosing_state = record s { rest = choice_inst ∷ r; regs = regs_with_bit }

  abbrev chosen_bits : Bits
  chosen_bits = play.result f choosing_state choice_inst r

  abbrev pub chosen_after : State
  chosen_after = record s { rest = r; regs = write regs_with_bit N chosen_bits }

  abbrev pub chosen_value : Value
  chosen_value = built_in which (width inst.gives) (operand program now.values x ∷ operand program now.values y ∷ [])

  real : inst.gives ≡ Void → ⊥
  real = (some_integer inst.gives integer).0

  pre : Prepared program f (types function) now.values next ((inst.gives, x) ∷ (inst.gives, y) ∷ []) regs
  pre = prepared program f (types function) now.values ((inst.gives, x) ∷ (inst.gives, y) ∷ []) next s.regs (integer_value inst.gives integer, is_x, (integer_value inst.gives integer, is_y, tt)) typed low h.holds
      (stand_front f.types next.next (all_loaded program.module_.globals next ((inst.gives, x) ∷ (inst.gives, y) ∷ [])) (S 1 ∷ []) stand)

  rd : Readied program f (types function) now.values next ((inst.gives, x) ∷ (inst.gives, y) ∷ []) s.regs
  rd = pre.ready

  fits_x : FitsWidth (width inst.gives) (operand program now.values x)
  fits_x = operand-fits program (types function) now.values inst.gives x h.fit is_x

  fits_y : FitsWidth (width inst.gives) (operand program now.values y)
  fits_y = operand-fits program (types function) now.values inst.gives y h.fit is_y

  bit_width : play.width f.types bit_register ≡ 1
  bit_width = width_there f.types bit_register (S 1) (stand_first f.types bit_register (S 1) [] (stand_behind program.module_.globals f.types ((inst.gives, x) ∷ (inst.gives, y) ∷ []) next (S 1 ∷ []) stand))

  bit_known : RefinesBits (bits_of 1 (compare pred no_flags (width inst.gives) (operand program now.values x) (operand program now.values y))) bit_bits
  bit_known =
      resized g.Icmp (play.width f.types bit_register) (play.width f.types (play.use_at compare_inst 0)) (play.width f.types (play.use_at compare_inst 1)) 1 (width inst.gives) (width inst.gives) (chooses which)
      (play.operand f compared_state compare_inst (choice_inst ∷ r) 0) (play.operand f compared_state compare_inst (choice_inst ∷ r) 1) (play.operand f compared_state compare_inst (choice_inst ∷ r) 2)
      (bits_of 1 (compare pred no_flags (width inst.gives) (operand program now.values x) (operand program now.values y))) bit_width rd.0.wide rd.1.0.wide
      (subst (λ (n : ℕ). RefinesBits (bits_of 1 (compare pred no_flags (width inst.gives) (operand program now.values x) (operand program now.values y)))
      (value g.Icmp 1 (width inst.gives) (width inst.gives) n (play.operand f compared_state compare_inst (choice_inst ∷ r) 0) (play.operand f compared_state compare_inst (choice_inst ∷ r) 1) (play.operand f compared_state compare_inst (choice_inst ∷ r) 2))) (sym (place_is which pred choosing))
      (compare_row pred no_flags (width inst.gives) (operand program now.values x) (operand program now.values y) (play.operand f compared_state compare_inst (choice_inst ∷ r) 0) (play.operand f compared_state compare_inst (choice_inst ∷ r) 1) (play.operand f compared_state compare_inst (choice_inst ∷ r) 2) fits_x fits_y rd.0.bits rd.1.0.bits))

  abbrev rx : ℕ
  rx = register_of x (literal program.module_.globals x) inst.gives next

  abbrev ry : ℕ
  ry = register_of y (literal program.module_.globals y) inst.gives (behind (literal program.module_.globals x) inst.gives next)

  x_below : rx < bit_register
  x_below = rd.0.below

  y_below : ry < bit_register
  y_below = rd.1.0.below

  holds_with_bit : Holds program f (types function) now.values regs_with_bit
  holds_with_bit n ty e =
      let below = value_below program f (types function) now.values n ty (types function) e in
      let all = pre.known.low in
      rw (same_below regs bit_register bit_bits n (omega (arith, below, all))) (pre.holds n ty e)

  chosen_known : has_result inst ≡ true → RefinesBits (bits_of (width inst.gives) chosen_value) chosen_bits
  chosen_known gives =
      resized g.Select (play.width f.types N) (play.width f.types (play.use_at choice_inst 0)) (play.width f.types (play.use_at choice_inst 1)) (width inst.gives) (play.width f.types (play.use_at choice_inst 0)) (play.width f.types (play.use_at choice_inst 1)) 0
      (regs_with_bit bit_register) (regs_with_bit rx) (regs_with_bit ry) (bits_of (width inst.gives) chosen_value)
      (width_there f.types N (type_of inst.gives) (typed N inst.gives (number-type function now.block now.place inst at gives)) ∙ same_width inst.gives real) refl refl
      (choice_row which pred choosing (width inst.gives) (play.width f.types (play.use_at choice_inst 0)) (play.width f.types (play.use_at choice_inst 1)) (operand program now.values x) (operand program now.values y)
      (regs_with_bit bit_register) (regs_with_bit rx) (regs_with_bit ry) fits_x fits_y
      (subst (RefinesBits (bits_of 1 (compare pred no_flags (width inst.gives) (operand program now.values x) (operand program now.values y)))) (sym (same_there regs bit_register bit_bits)) bit_known)
      (subst (RefinesBits (bits_of (width inst.gives) (operand program now.values x))) (sym (same_below regs bit_register bit_bits rx x_below)) rd.0.bits)
      (subst (RefinesBits (bits_of (width inst.gives) (operand program now.values y))) (sym (same_below regs bit_register bit_bits ry y_below)) rd.1.0.bits))

  pub follows_choice : has_result inst ≡ true
      → (Alike program symbol function there f (ir.behind function now inst chosen_value) memory chosen_after → R (ir.behind function now inst chosen_value, memory) chosen_after)
      → Fol program symbol function there f R measure m (here_step program symbol function there f R measure now memory)
      (play.step f (record s { rest = loads program.module_.globals next ((inst.gives, x) ∷ (inst.gives, y) ∷ []) ++ compare_inst ∷ choice_inst ∷ r }))
  follows_choice gives closes =
      let run = loads_run program.module_.globals f ((inst.gives, x) ∷ (inst.gives, y) ∷ []) s next (compare_inst ∷ choice_inst ∷ r) in
      let loaded_low = run.2 in
      let all = longer run.1 choosing_state refl in
      let chain_weight = all.3 in
      let light = by_most (is_legal f.types compare_inst) 44 152 152 (omega arith) (omega arith) in
      let light' = by_most (is_legal f.types choice_inst) 96 184 184 (omega arith) (omega arith) in
      let two : 2 ≤ units inst = two_units in
      let one = ap (step_over_bits program symbol now memory) (step_is program symbol function there f now memory s inst h at ∙ acts) in
      subst (λ (z : Step (Point program symbol)). Fol program symbol function there f R measure m z (play.step f (record s { rest = loads program.module_.globals next ((inst.gives, x) ∷ (inst.gives, y) ∷ []) ++ compare_inst ∷ choice_inst ∷ r }))) (sym one)
      (moves (ir.behind function now inst chosen_value, memory) chosen_after refl all.2 refl
      (closes (alike_behind program symbol function there f now memory s regs_with_bit r inst chosen_value chosen_bits h at gives
      (greatest-fits which (width inst.gives) (operand program now.values x ∷ operand program now.values y ∷ []) (fits_x, fits_y)) holds_with_bit (chosen_known gives)))
      (omega (arith, loaded_low, chain_weight, light, light', two)) (omega arith))
