-- The number without its sign is what its negation, a comparison and a choice give.
use Rattle.std.proofs.Common.{◌≡◌, refl, sym, ap, subst, ◌∙◌, ℕ, ◌+◌, ◌-◌, ◌<◌, ◌≤◌, ◌^◌, ◌⊎◌, inl, inr, Bool, true, false, List, [], ◌∷◌, Some, None, arith}
use Rattle.std.specs.Prelude.{if◌then◌else◌, ◌==◌, ◌&&◌, not, int_lt, ℤ, pos, negsuc, ◌-ℤ◌}
use Rattle.std.proofs.Math.Nat.{mod-eq_of_lt}
use Rattle.std.proofs.lemmas.Nat.{pow_pos}
use Rattle.std.proofs.lemmas.Int.{ints}
use Rattle.std.proofs.lemmas.Bool.{cases_lt, lt-ltb, le-ltb}
use Rattle.ir_core.specs.declared.code.Pred.TheVariants.{Slt}
use Rattle.ir_core.specs.declared.code.BuiltIn.TheVariants.{Abs}
use Rattle.rj_num.specs.Width.{signed, is_negative, modulo}
use Rattle.ir_meaning.specs.Value.{Value}
use Rattle.ir_meaning.specs.Operators.{compare, sub, bit, absolute}
use Rattle.ir_meaning.specs.Ranges.{FitsWidth}
use Rattle.ir_meaning.specs.Step.{built_in}
use Rattle.gmir.specs.declared.code.GOp.TheVariants as g
use Rattle.gmir.specs.Play.{value}
use Rattle.walks.specs.Walk.{Bits}
use Rattle.walks.specs.Refines.{RefinesBits}
use Rattle.walks.specs.Bits.{constant}
use Rattle.walks.specs.Functions.{bits_of}
use Rattle.generic_code.proofs.Rows.{poison_row}
use Rattle.generic_code.proofs.Results.{nothing, select_row}
use Rattle.generic_code.proofs.Choices.{no_flags}
use Rattle.std.specs.Prelude.{slice_get}
use Rattle.std.proofs.Common.{◌++◌}
use Rattle.std.proofs.lemmas.List.{append_assoc}
use Rattle.ir_core.specs.Program.{Program}
use Rattle.ir_core.specs.Units.{units, has_result}
use Rattle.ir_core.specs.declared.types.Ty.{Ty}
use Rattle.ir_core.specs.declared.code.Operand.{Operand}
use Rattle.ir_core.specs.declared.code.Operand.TheVariants.{Num}
use Rattle.ir_core.specs.declared.code.BinOp.TheVariants.{Sub}
use Rattle.ir_core.specs.declared.code.Inst.{Inst}
use Rattle.ir_core.specs.declared.program.Function.{Function}
use Rattle.ir_meaning.specs.declared.activation.Activation.{Activation}
use Rattle.ir_meaning.specs.Memory.{Memory}
use Rattle.ir_meaning.specs.Operators.{width}
use Rattle.ir_meaning.specs.Step as ir
use Rattle.ir_meaning.specs.Step.{function_at, insts_at, number_at, act, operand}
use Rattle.ir_meaning.specs.Typed.{types, IsOperand, IsInteger, IsValueType}
use Rattle.ir_meaning.proofs.Keeping.{operand-fits}
use Rattle.ir_meaning.proofs.Numbering.{number-type}
use Rattle.gmir.specs.declared.code.GType.TheVariants.{S}
use Rattle.gmir.specs.declared.code.GInst.{GInst}
use Rattle.gmir.specs.declared.code.GFunction.{GFunction}
use Rattle.gmir.specs.Play as play
use Rattle.gmir.specs.Play.{State}
use Rattle.walks.specs.Registers.{Registers, write}
use Rattle.walks.specs.Bits.{free}
use Rattle.walks.specs.Functions.{Point}
use Rattle.generic_code.specs.Literals.{Pool, type_of, plain, literal, behind, register_of, loads, all_loaded, behind_all}
use Rattle.generic_code.specs.Code.{predicate}
use Rattle.generic_code.proofs.Loads.{Stand, stand_front, stand_first, stand_tail, stand_behind, width_there, same_width, value_not_void, other_same, written_there, value_below, Known, Holds, ValuesTyped, Prepared, prepared, registers_behind, loads_run, by_most}
use Rattle.generic_code.proofs.Results.{binary_row, compare_row}
use Rattle.generic_code.proofs.Computes.{resized, some_integer, integer_value}
use Rattle.generic_code.proofs.Steps.{Alike, Fol, here_step}
use Rattle.generic_code.proofs.Runs.{Runs, run_then, run_one, computed_bits, follows_run}

pub below_zero : (a b : ℕ) → a < b → pos a -ℤ pos b ≡ negsuc (b - a - 1)
below_zero a b h = grind (arith, ints)

-- the negation of a number that isn't 0
negated : (w n : ℕ) → 0 < n → n < 2 ^ w → modulo w (pos 0 -ℤ pos n) ≡ 2 ^ w - n
negated w n some small =
    let low : n - 0 - 1 < 2 ^ w = omega (arith, small) in
    ap (modulo w) (below_zero 0 n some) ∙ ap (λ (k : ℕ). 2 ^ w - 1 - k) (mod-eq_of_lt low) ∙ (let e : 2 ^ w - 1 - (n - 0 - 1) ≡ 2 ^ w - n = omega (arith, some, small) in e)

-- below 0 by its sign
zero_plain : (w : ℕ) → signed w 0 ≡ pos 0
zero_plain w = ap (λ (b : Bool). if not b then pos 0 -ℤ pos (2 ^ w) else pos 0) (lt-ltb 0 (2 ^ (w - 1)) (pow_pos (w - 1)))

signed_below : (n : ℕ) → int_lt (pos n) (pos 0) ≡ false
signed_below n = grind (arith, ints)

signed_above : (n p : ℕ) → n < p → int_lt (pos n -ℤ pos p) (pos 0) ≡ true
signed_above n p h = grind (arith, ints)

-- the choice by whether a number is below 0
pub absolute_row : (w v u n k : ℕ) (X Y A : Bits) → n < 2 ^ w → RefinesBits (bits_of 1 (compare Slt no_flags w (Some n) (Some 0))) X
    → RefinesBits (bits_of w (sub no_flags w 0 n)) Y → RefinesBits (constant w n) A → RefinesBits (bits_of w (absolute w n k)) (value g.Select w v u 0 X Y A)
absolute_row w v u n k X Y A small p q r = by_sign (cases_lt n (2 ^ (w - 1)))
  where
    compared : (b : Bool) → int_lt (signed w n) (signed w 0) ≡ b → RefinesBits (bits_of 1 (Some (bit b))) X
    compared b e = subst (λ (z : Bool). RefinesBits (bits_of 1 (Some (bit z))) X) e p

    by_sign : (n < 2 ^ (w - 1)) ⊎ (2 ^ (w - 1) ≤ n) → RefinesBits (bits_of w (absolute w n k)) (value g.Select w v u 0 X Y A)
    by_sign (inl l) =
        let plain : signed w n ≡ pos n = ap (λ (b : Bool). if not b then pos n -ℤ pos (2 ^ w) else pos n) (lt-ltb n (2 ^ (w - 1)) l) in
        let test : int_lt (signed w n) (signed w 0) ≡ false = ap (λ (z : ℤ). int_lt z (signed w 0)) plain ∙ ap (int_lt (pos n)) (zero_plain w) ∙ signed_below n in
        let is : (if is_negative w n then 2 ^ w - n else n) ≡ n = ap (λ (b : Bool). if not b then 2 ^ w - n else n) (lt-ltb n (2 ^ (w - 1)) l) in
        poison_row w (n == 2 ^ (w - 1) && not (k == 0)) (if is_negative w n then 2 ^ w - n else n) _
        (subst (λ (z : ℕ). RefinesBits (constant w z) (value g.Select w v u 0 X Y A)) (sym is)
        (select_row w v u (Some 0) (Some (modulo w (pos 0 -ℤ pos n))) (Some n) X Y A (omega arith) (compared false test) q r))
    by_sign (inr l) =
        let some = pow_pos (w - 1) in
        let turned : signed w n ≡ pos n -ℤ pos (2 ^ w) = ap (λ (b : Bool). if not b then pos n -ℤ pos (2 ^ w) else pos n) (le-ltb n (2 ^ (w - 1)) l) in
        let test : int_lt (signed w n) (signed w 0) ≡ true = ap (λ (z : ℤ). int_lt z (signed w 0)) turned ∙ ap (int_lt (pos n -ℤ pos (2 ^ w))) (zero_plain w) ∙ signed_above n (2 ^ w) small in
        let is : (if is_negative w n then 2 ^ w - n else n) ≡ 2 ^ w - n = ap (λ (b : Bool). if not b then 2 ^ w - n else n) (le-ltb n (2 ^ (w - 1)) l) in
        let negation : modulo w (pos 0 -ℤ pos n) ≡ 2 ^ w - n = negated w n (omega (arith, some, l)) small in
        poison_row w (n == 2 ^ (w - 1) && not (k == 0)) (if is_negative w n then 2 ^ w - n else n) _
        (subst (λ (z : ℕ). RefinesBits (constant w z) (value g.Select w v u 0 X Y A)) (sym (is ∙ sym negation))
        (select_row w v u (Some 1) (Some (modulo w (pos 0 -ℤ pos n))) (Some n) X Y A (omega arith) (compared true test) q r))

-- ---- the step

module _ (program : Program) (symbol : ℕ) (function : Function) (there : function_at program symbol ≡ Some function) (f : GFunction)
    (typed : ValuesTyped program f (types function) []) (R : Point program symbol → State → Type 0) (measure : Point program symbol → ℕ)
    (now : Activation) (memory : Memory) (s : State) (inst : Inst) (h : Alike program symbol function there f now memory s)
    (at : slice_get (insts_at function now.block) now.place ≡ Some inst) (gives : has_result inst ≡ true)
    (next : Pool) (low : Known f (types function) next s.regs) (r : List GInst) (m : ℕ)
    (x y : Operand) (integer : IsInteger inst.gives) (is_x : IsOperand (types function) inst.gives x) (three_units : 3 ≤ units inst)
    (acts : act program function now memory inst inst.op
    ≡ ir.plain program function now memory inst (ir.give program function now memory inst (built_in Abs (width inst.gives) (operand program now.values x ∷ operand program now.values y ∷ []))))
    (stand : Stand f.types next.next (all_loaded program.module_.globals next ((inst.gives, x) ∷ (inst.gives, Num 0) ∷ []) ++ type_of inst.gives ∷ S 1 ∷ [])) where
  abbrev ops : List (Ty × Operand)
  ops = (inst.gives, x) ∷ (inst.gives, Num 0) ∷ []

  abbrev w : ℕ
  w = width inst.gives

  abbrev N : ℕ
  N = number_at function now.block now.place

  abbrev free_register : ℕ
  free_register = (behind_all program.module_.globals next ((inst.gives, x) ∷ (inst.gives, Num 0) ∷ [])).next

  abbrev rx : ℕ
  rx = register_of x (literal program.module_.globals x) inst.gives next

  abbrev rz : ℕ
  rz = register_of (Num 0) (Some 0) inst.gives (behind (literal program.module_.globals x) inst.gives next)

  abbrev regs : Registers
  regs = registers_behind program.module_.globals f next ((inst.gives, x) ∷ (inst.gives, Num 0) ∷ []) s.regs

  value_type : IsValueType inst.gives
  value_type = integer_value inst.gives integer

  stand_more : Stand f.types free_register (type_of inst.gives ∷ S 1 ∷ [])
  stand_more = stand_behind program.module_.globals f.types ((inst.gives, x) ∷ (inst.gives, Num 0) ∷ []) next (type_of inst.gives ∷ S 1 ∷ []) stand

  pre : Prepared program f (types function) now.values next ((inst.gives, x) ∷ (inst.gives, Num 0) ∷ []) regs
  pre = prepared program f (types function) now.values ((inst.gives, x) ∷ (inst.gives, Num 0) ∷ []) next s.regs (value_type, is_x, (value_type, pow_pos w, tt)) typed low h.holds
      (stand_front f.types next.next (all_loaded program.module_.globals next ((inst.gives, x) ∷ (inst.gives, Num 0) ∷ [])) (type_of inst.gives ∷ S 1 ∷ []) stand)

  fits_x : FitsWidth (width inst.gives) (operand program now.values x)
  fits_x = operand-fits program (types function) now.values inst.gives x h.fit is_x

  -- the negation
  abbrev code_1 : List GInst
  code_1 = plain g.Select (N ∷ []) ((free_register + 1) ∷ free_register ∷ rx ∷ []) 0 ∷ r

  abbrev code_2 : List GInst
  code_2 = plain g.Icmp ((free_register + 1) ∷ []) (rx ∷ rz ∷ []) (predicate Slt) ∷ (plain g.Select (N ∷ []) ((free_register + 1) ∷ free_register ∷ rx ∷ []) 0 ∷ r)

  abbrev turned : Bits
  turned = computed_bits f (record s { regs = regs }) g.Sub free_register (rz ∷ rx ∷ []) 0 code_2

  abbrev regs_1 : Registers
  regs_1 = write regs free_register turned

  abbrev tested : Bits
  tested = computed_bits f (record s { regs = regs_1 }) g.Icmp (free_register + 1) (rx ∷ rz ∷ []) (predicate Slt) code_1

  abbrev regs_2 : Registers
  regs_2 = write regs_1 (free_register + 1) tested

  abbrev chosen : Bits
  chosen = computed_bits f (record s { regs = regs_2 }) g.Select N ((free_register + 1) ∷ free_register ∷ rx ∷ []) 0 r

  abbrev pub absolute_value : Value
  absolute_value = built_in Abs (width inst.gives) (operand program now.values x ∷ operand program now.values y ∷ [])

  abbrev pub absolute_after : State
  absolute_after = record s { rest = r; regs = write regs_2 N chosen }

  turned_wide : play.width f.types free_register ≡ w
  turned_wide = width_there f.types free_register (type_of inst.gives) (stand_first f.types free_register (type_of inst.gives) (S 1 ∷ []) stand_more) ∙ same_width inst.gives (value_not_void inst.gives value_type)

  tested_wide : play.width f.types (free_register + 1) ≡ 1
  tested_wide = width_there f.types (free_register + 1) (S 1) (stand_first f.types (free_register + 1) (S 1) [] (stand_tail f.types free_register (type_of inst.gives) (S 1 ∷ []) stand_more))

  number_wide : play.width f.types N ≡ w
  number_wide = width_there f.types N (type_of inst.gives) (typed N inst.gives (number-type function now.block now.place inst at gives)) ∙ same_width inst.gives (value_not_void inst.gives value_type)

  -- registers that the two further ones leave
  first_same : (k : ℕ) → k < free_register → regs_1 k ≡ regs k
  first_same k l = other_same regs free_register turned k (λ e. let bad : ⊥ = omega (arith, l, e) in bad)

  second_same : (k : ℕ) → k ≤ free_register → regs_2 k ≡ regs_1 k
  second_same k l = other_same regs_1 (free_register + 1) tested k (λ e. let bad : ⊥ = omega (arith, l, e) in bad)

  both_same : (k : ℕ) → k < free_register → regs_2 k ≡ regs k
  both_same k l = second_same k (omega (arith, l)) ∙ first_same k l

  holds_too : Holds program f (types function) now.values regs_2
  holds_too n ty e =
      let below = value_below program f (types function) now.values n ty (types function) e in
      let low' = pre.known.low in
      rw (both_same n (omega (arith, below, low'))) (pre.holds n ty e)

  run : Runs f s (loads program.module_.globals next ((inst.gives, x) ∷ (inst.gives, Num 0) ∷ []) ++ (plain g.Sub (free_register ∷ []) (rz ∷ rx ∷ []) 0 ∷ plain g.Icmp ((free_register + 1) ∷ []) (rx ∷ rz ∷ []) (predicate Slt) ∷ []))
      (plain g.Select (N ∷ []) ((free_register + 1) ∷ free_register ∷ rx ∷ []) 0 ∷ r) regs_2 (48 + (160 + 152))
  run =
      run_then f s (loads program.module_.globals next ((inst.gives, x) ∷ (inst.gives, Num 0) ∷ [])) (plain g.Sub (free_register ∷ []) (rz ∷ rx ∷ []) 0 ∷ plain g.Icmp ((free_register + 1) ∷ []) (rx ∷ rz ∷ []) (predicate Slt) ∷ [])
      code_1 regs regs_2 48 (160 + 152)
      (loads_run program.module_.globals f ((inst.gives, x) ∷ (inst.gives, Num 0) ∷ []) s next (plain g.Sub (free_register ∷ []) (rz ∷ rx ∷ []) 0 ∷ code_2))
      (run_then f (record s { regs = regs }) (plain g.Sub (free_register ∷ []) (rz ∷ rx ∷ []) 0 ∷ []) (plain g.Icmp ((free_register + 1) ∷ []) (rx ∷ rz ∷ []) (predicate Slt) ∷ []) code_1 regs_1 regs_2 160 152
      (run_one f (record s { regs = regs }) g.Sub free_register (rz ∷ rx ∷ []) 0 160 code_2 refl (by_most _ 24 160 160 (omega arith) (omega arith)))
      (run_one f (record s { regs = regs_1 }) g.Icmp (free_register + 1) (rx ∷ rz ∷ []) (predicate Slt) 152 code_1 refl (by_most _ 44 152 152 (omega arith) (omega arith))))

  abbrev zero_value : Value
  zero_value = Some 0

  known : (n k : ℕ) → operand program now.values x ≡ Some n → RefinesBits (bits_of w (absolute w n k)) chosen
  known n k e =
      let rd = pre.ready in
      let small : n < 2 ^ w = subst (FitsWidth w) e fits_x in
      let is_n : RefinesBits (constant w n) (regs rx) = subst (λ (v : Value). RefinesBits (bits_of w v) (regs rx)) e rd.0.bits in
      let is_zero : RefinesBits (constant w 0) (regs rz) = rd.1.0.bits in
      let X : RefinesBits (bits_of 1 (compare Slt no_flags w (Some n) (Some 0))) tested =
      resized g.Icmp (play.width f.types (free_register + 1)) (play.width f.types rx) (play.width f.types rz) 1 w w (predicate Slt) (regs_1 rx) (regs_1 rz) free (bits_of 1 (compare Slt no_flags w (Some n) (Some 0))) tested_wide rd.0.wide rd.1.0.wide
      (compare_row Slt no_flags w (Some n) (Some 0) (regs_1 rx) (regs_1 rz) free small (pow_pos w)
      (subst (RefinesBits (constant w n)) (sym (first_same rx rd.0.below)) is_n) (subst (RefinesBits (constant w 0)) (sym (first_same rz rd.1.0.below)) is_zero)) in
      let Y : RefinesBits (bits_of w (sub no_flags w 0 n)) turned =
      resized g.Sub (play.width f.types free_register) (play.width f.types rz) (play.width f.types rx) w w w 0 (regs rz) (regs rx) free (bits_of w (sub no_flags w 0 n)) turned_wide rd.1.0.wide rd.0.wide
      (binary_row no_flags w (some_integer inst.gives integer).2 (regs rz) (regs rx) free Sub (Some 0) (Some n) (sub no_flags w 0 n) (pow_pos w) small is_zero is_n refl) in
      resized g.Select (play.width f.types N) (play.width f.types (free_register + 1)) (play.width f.types free_register) w (play.width f.types (free_register + 1)) (play.width f.types free_register) 0
      (regs_2 (free_register + 1)) (regs_2 free_register) (regs_2 rx) (bits_of w (absolute w n k)) number_wide refl refl
      (absolute_row w (play.width f.types (free_register + 1)) (play.width f.types free_register) n k (regs_2 (free_register + 1)) (regs_2 free_register) (regs_2 rx) small
      (subst (RefinesBits (bits_of 1 (compare Slt no_flags w (Some n) (Some 0)))) (sym (written_there regs_1 (free_register + 1) tested)) X)
      (subst (RefinesBits (bits_of w (sub no_flags w 0 n))) (sym (second_same free_register (omega arith) ∙ written_there regs free_register turned)) Y)
      (subst (RefinesBits (constant w n)) (sym (both_same rx rd.0.below)) is_n))

  known_all : (v v' : Value) → operand program now.values x ≡ v → RefinesBits (bits_of w (built_in Abs w (v ∷ v' ∷ []))) chosen
  known_all None v' e = nothing w chosen
  known_all (Some n) None e = nothing w chosen
  known_all (Some n) (Some k) e = known n k e

  pub follows_absolute : FitsWidth (width inst.gives) absolute_value
      → (Alike program symbol function there f (ir.behind function now inst absolute_value) memory absolute_after → R (ir.behind function now inst absolute_value, memory) absolute_after)
      → Fol program symbol function there f R measure m (here_step program symbol function there f R measure now memory)
      (play.step f (record s {
        rest = loads program.module_.globals next ((inst.gives, x) ∷ (inst.gives, Num 0) ∷ [])
            ++ (plain g.Sub (free_register ∷ []) (rz ∷ rx ∷ []) 0 ∷ plain g.Icmp ((free_register + 1) ∷ []) (rx ∷ rz ∷ []) (predicate Slt) ∷ plain g.Select (N ∷ []) ((free_register + 1) ∷ free_register ∷ rx ∷ []) 0 ∷ r);
      }))
  follows_absolute fits closes =
      subst (λ (code : List GInst). Fol program symbol function there f R measure m (here_step program symbol function there f R measure now memory) (play.step f (record s { rest = code })))
      (append_assoc (loads program.module_.globals next ((inst.gives, x) ∷ (inst.gives, Num 0) ∷ [])) (plain g.Sub (free_register ∷ []) (rz ∷ rx ∷ []) 0 ∷ plain g.Icmp ((free_register + 1) ∷ []) (rx ∷ rz ∷ []) (predicate Slt) ∷ []) code_1)
      (follows_run program symbol function there f typed R measure now memory s inst h at gives r m
      (loads program.module_.globals next ((inst.gives, x) ∷ (inst.gives, Num 0) ∷ []) ++ (plain g.Sub (free_register ∷ []) (rz ∷ rx ∷ []) 0 ∷ plain g.Icmp ((free_register + 1) ∷ []) (rx ∷ rz ∷ []) (predicate Slt) ∷ []))
      regs_2 g.Select ((free_register + 1) ∷ free_register ∷ rx ∷ []) 0 (48 + (160 + 152)) 184 absolute_value refl run holds_too acts fits
      (known_all (operand program now.values x) (operand program now.values y) refl)
      (by_most _ 96 184 184 (omega arith) (omega arith)) (omega (arith, three_units)) closes)
