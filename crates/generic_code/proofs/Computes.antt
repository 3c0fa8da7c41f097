-- Each instruction that computes a value is followed by its code.
use Rattle.std.proofs.Common.{◌≡◌, refl, sym, ap, subst, ◌∙◌, ℕ, zero, suc, ◌+◌, ◌*◌, ◌≤◌, ◌⊎◌, inl, inr, Bool, true, List, [], ◌∷◌, ◌++◌, length, Option, Some, None, arith}
use Rattle.std.specs.Prelude.{slice_get}
use Rattle.std.proofs.Math.Nat.{mod-eq_of_lt}
use Rattle.ir_core.specs.Program.{Program}
use Rattle.ir_core.specs.Units.{has_result, is_result}
use Rattle.ir_core.specs.declared.types.Ty.{Ty}
use Rattle.ir_core.specs.declared.types.Ty.TheVariants.{Void, Int, Ptr}
use Rattle.ir_core.specs.declared.code.Operand.{Operand}
use Rattle.ir_core.specs.declared.code.Flags.{Flags}
use Rattle.ir_core.specs.declared.code.BinOp.{BinOp}
use Rattle.ir_core.specs.declared.code.BinOp.TheVariants as b
use Rattle.ir_core.specs.declared.code.Pred.{Pred}
use Rattle.ir_core.specs.declared.code.CastOp.{CastOp}
use Rattle.ir_core.specs.declared.code.CastOp.TheVariants as c
use Rattle.ir_core.specs.declared.code.Op.TheVariants.{Binary, Icmp, Cast, Select, Freeze}
use Rattle.ir_core.specs.declared.code.Inst.{Inst}
use Rattle.ir_core.specs.declared.program.Function.{Function}
use Rattle.ir_meaning.specs.declared.activation.Activation.{Activation}
use Rattle.ir_meaning.specs.Value.{Value, Computed, Gives, NoMeaning}
use Rattle.ir_meaning.specs.Memory.{Memory}
use Rattle.ir_meaning.specs.Operators as op
use Rattle.ir_meaning.specs.Operators.{width, binary, compare, cast, select, freeze}
use Rattle.ir_meaning.specs.Step as ir
use Rattle.ir_meaning.specs.Step.{function_at, insts_at, behind, act, operand}
use Rattle.ir_meaning.specs.Ranges.{FitsWidth}
use Rattle.ir_meaning.specs.Typed.{types, IsInteger, IsValueType, IsOperand, IsCast}
use Rattle.ir_meaning.proofs.Fitting.{ComputedFits, binary-fits, compare-fits, cast-fits, select-fits}
use Rattle.ir_meaning.proofs.Keeping.{operand-fits}
use Rattle.ir_meaning.proofs.Numbering.{number-type}
use Rattle.gmir.specs.declared.code.GOp.{GOp}
use Rattle.gmir.specs.declared.code.GOp.TheVariants as g
use Rattle.gmir.specs.declared.code.GInst.{GInst}
use Rattle.gmir.specs.declared.code.GFunction.{GFunction}
use Rattle.gmir.specs.Play as play
use Rattle.gmir.specs.Play.{State, Computes, Divides, kind, value, weight, is_legal}
use Rattle.walks.specs.Registers.{Registers, write}
use Rattle.walks.specs.Walk.{Bits, Step}
use Rattle.walks.specs.Bits.{number as number_in}
use Rattle.walks.specs.Refines.{RefinesBits}
use Rattle.walks.specs.Simulation.{breaks}
use Rattle.walks.specs.Functions.{bits_of, Point, step_over_bits}
use Rattle.walks.proofs.Numbers.{number_constant}
use Rattle.walks.proofs.Monotone.{keeps_number}
use Rattle.generic_code.specs.Literals.{Pool, type_of, loads, all_loaded, registers, register_of, literal, behind as behind_operand}
use Rattle.generic_code.specs.Code.{binary_op, predicate, cast_op}
use Rattle.generic_code.proofs.Loads.{Stand, ValuesTyped, AreTyped, Readied, prepared, registers_behind, width_there, same_width, by_most, Known}
use Rattle.generic_code.proofs.Results.{binary_row, compare_row, copy_row, select_row, cast_row}
use Rattle.generic_code.proofs.Steps.{Alike, Fol, here_step, number, loaded_regs, loaded_state, follows_give, step_is}

-- what the widths of registers are, the value is of these
pub resized : (o : GOp) (d v u d' v' u' n : ℕ) (A B C r : Bits) → d ≡ d' → v ≡ v' → u ≡ u' → RefinesBits r (value o d' v' u' n A B C) → RefinesBits r (value o d v u n A B C)
resized o d v u d' v' u' n A B C r e e' e'' h =
    subst (λ (z : ℕ). RefinesBits r (value o z v u n A B C)) (sym e)
    (subst (λ (z : ℕ). RefinesBits r (value o d' z u n A B C)) (sym e')
    (subst (λ (z : ℕ). RefinesBits r (value o d' v' z n A B C)) (sym e'') h))

-- an operator computes, or divides by a number that isn't 0
abbrev Divisor : Value → Type 0
Divisor b = (n : ℕ) × (b ≡ Some (suc n))

divisor_unsigned : (f : ℕ → ℕ → Value) (a b v : Value) → op.unsigned_division f a b ≡ Gives v → Divisor b
divisor_unsigned f a None v e = absurd (let bad : ⊥ = cc in bad)
divisor_unsigned f a (Some zero) v e = absurd (let bad : ⊥ = cc in bad)
divisor_unsigned f a (Some (suc n)) v e = (n, refl)

divisor_signed : (w : ℕ) (f : ℕ → ℕ → Value) (a b v : Value) → op.signed_division w f a b ≡ Gives v → Divisor b
divisor_signed w f a None v e = absurd (let bad : ⊥ = cc in bad)
divisor_signed w f a (Some zero) v e = absurd (let bad : ⊥ = cc in bad)
divisor_signed w f a (Some (suc n)) v e = (n, refl)

kinds : (o : BinOp) (flags : Flags) (w : ℕ) (a b v : Value) → binary o flags w a b ≡ Gives v → (kind (binary_op o) ≡ Computes) ⊎ ((kind (binary_op o) ≡ Divides) × Divisor b)
kinds b.Add flags w a d v e = inl refl
kinds b.Sub flags w a d v e = inl refl
kinds b.Mul flags w a d v e = inl refl
kinds b.UDiv flags w a d v e = inr (refl, divisor_unsigned (op.unsigned_quotient flags w) a d v e)
kinds b.SDiv flags w a d v e = inr (refl, divisor_signed w (op.signed_quotient flags w) a d v e)
kinds b.URem flags w a d v e = inr (refl, divisor_unsigned (op.unsigned_remainder flags w) a d v e)
kinds b.SRem flags w a d v e = inr (refl, divisor_signed w (op.signed_remainder flags w) a d v e)
kinds b.Shl flags w a d v e = inl refl
kinds b.LShr flags w a d v e = inl refl
kinds b.AShr flags w a d v e = inl refl
kinds b.And flags w a d v e = inl refl
kinds b.Or flags w a d v e = inl refl
kinds b.Xor flags w a d v e = inl refl

-- an operator weighs 184 or less
binary_weight : (o : BinOp) (legal : Bool) (n : ℕ) → play.op_weight (binary_op o) legal n ≤ 184
binary_weight b.Add legal n = by_most legal 24 160 184 (omega arith) (omega arith)
binary_weight b.Sub legal n = by_most legal 24 160 184 (omega arith) (omega arith)
binary_weight b.Mul legal n = by_most legal 40 184 184 (omega arith) (omega arith)
binary_weight b.UDiv legal n = by_most legal 40 184 184 (omega arith) (omega arith)
binary_weight b.SDiv legal n = by_most legal 40 184 184 (omega arith) (omega arith)
binary_weight b.URem legal n = by_most legal 40 184 184 (omega arith) (omega arith)
binary_weight b.SRem legal n = by_most legal 40 184 184 (omega arith) (omega arith)
binary_weight b.Shl legal n = by_most legal 24 160 184 (omega arith) (omega arith)
binary_weight b.LShr legal n = by_most legal 24 160 184 (omega arith) (omega arith)
binary_weight b.AShr legal n = by_most legal 24 160 184 (omega arith) (omega arith)
binary_weight b.And legal n = by_most legal 24 160 184 (omega arith) (omega arith)
binary_weight b.Or legal n = by_most legal 24 160 184 (omega arith) (omega arith)
binary_weight b.Xor legal n = by_most legal 24 160 184 (omega arith) (omega arith)

pub some_integer : (ty : Ty) → IsInteger ty → (ty ≡ Void → ⊥) × (is_result ty ≡ true) × (1 ≤ width ty)
some_integer Void h = absurd h
some_integer (Int w) h = ((λ e. let bad : ⊥ = cc in bad), refl, h.0)
some_integer Ptr h = absurd h

pub some_value : (ty : Ty) → IsValueType ty → (ty ≡ Void → ⊥) × (is_result ty ≡ true)
some_value Void h = absurd h
some_value (Int w) h = ((λ e. let bad : ⊥ = cc in bad), refl)
some_value Ptr h = ((λ e. let bad : ⊥ = cc in bad), refl)

pub integer_value : (ty : Ty) → IsInteger ty → IsValueType ty
integer_value Void h = h
integer_value (Int w) h = h
integer_value Ptr h = tt

pub cast_value : (o : CastOp) (from to : Ty) → IsCast o from to → IsValueType from
cast_value c.Trunc from to h = integer_value from h.0
cast_value c.ZExt from to h = integer_value from h.0
cast_value c.SExt from to h = integer_value from h.0
cast_value c.PtrToInt from to h = subst IsValueType (sym h.0) tt
cast_value c.IntToPtr from to h = integer_value from h.0
cast_value c.Same from to h = h.0

pub cast_to : (o : CastOp) (from to : Ty) → IsCast o from to → IsValueType to
cast_to c.Trunc from to h = integer_value to h.1
cast_to c.ZExt from to h = integer_value to h.1
cast_to c.SExt from to h = integer_value to h.1
cast_to c.PtrToInt from to h = integer_value to h.1
cast_to c.IntToPtr from to h = subst IsValueType (sym h.1) tt
cast_to c.Same from to h = subst IsValueType h.1 h.0

cast_computes : (o : CastOp) → kind (cast_op o) ≡ Computes
cast_computes c.Trunc = refl
cast_computes c.ZExt = refl
cast_computes c.SExt = refl
cast_computes c.PtrToInt = refl
cast_computes c.IntToPtr = refl
cast_computes c.Same = refl

cast_weight : (o : CastOp) (legal : Bool) (n : ℕ) → play.op_weight (cast_op o) legal n ≤ 72
cast_weight c.Trunc legal n = by_most legal 12 36 72 (omega arith) (omega arith)
cast_weight c.ZExt legal n = by_most legal 24 72 72 (omega arith) (omega arith)
cast_weight c.SExt legal n = by_most legal 24 72 72 (omega arith) (omega arith)
cast_weight c.PtrToInt legal n = by_most legal 12 36 72 (omega arith) (omega arith)
cast_weight c.IntToPtr legal n = by_most legal 12 36 72 (omega arith) (omega arith)
cast_weight c.Same legal n = by_most legal 12 36 72 (omega arith) (omega arith)

module _ (program : Program) (symbol : ℕ) (function : Function) (there : function_at program symbol ≡ Some function) (f : GFunction)
    (typed : ValuesTyped program f (types function) []) (R : Point program symbol → State → Type 0) (measure : Point program symbol → ℕ)
    (now : Activation) (memory : Memory) (s : State) (inst : Inst) (h : Alike program symbol function there f now memory s)
    (at : slice_get (insts_at function now.block) now.place ≡ Some inst)
    (next : Pool) (low : Known f (types function) next s.regs) (r : List GInst) (m : ℕ) where
  abbrev F : Step (Point program symbol) → Step State → Type 0
  F = Fol program symbol function there f R measure m

  abbrev here_now : Step (Point program symbol)
  here_now = here_step program symbol function there f R measure now memory

  abbrev value_of : Operand → Value
  value_of = operand program now.values

  -- nothing is asked where the instruction breaks
  pub follows_break : (st : Step State) → act program function now memory inst inst.op ≡ ir.plain program function now memory inst ir.Breaks → F here_now st
  follows_break st acts =
      let one = ap (step_over_bits program symbol now memory) (step_is program symbol function there f now memory s inst h at ∙ acts) in
      breaks (ap (λ (z : Step (Point program symbol)). z.does) one) (ap (λ (z : Step (Point program symbol)). z.jumps) one)

  module _ (gives : has_result inst ≡ true) (real : inst.gives ≡ Void → ⊥) (ops : List (Ty × Operand)) where
    abbrev N : ℕ
    N = number program symbol function there f R measure now memory s inst h at gives next low ops r m

    abbrev regs : Registers
    regs = loaded_regs program symbol function there f R measure now memory s inst h at gives next low ops r m

    abbrev state_of : GInst → State
    state_of = loaded_state program symbol function there f R measure now memory s inst h at gives next low ops r m

    number_width : play.width f.types N ≡ width inst.gives
    number_width = width_there f.types N (type_of inst.gives) (typed N inst.gives (number-type function now.block now.place inst at gives)) ∙ same_width inst.gives real

    abbrev inst_of : GOp → ℕ → GInst
    inst_of o n = record { op = o; defs = N ∷ []; uses = registers program.module_.globals next ops; num = n; to = [] }

    abbrev result_of : GOp → ℕ → Bits
    result_of o n = play.result f (state_of (inst_of o n)) (inst_of o n) r

    -- the width of an operand's register, and its bits
    abbrev at_width : GOp → ℕ → ℕ → ℕ
    at_width o n k = play.width f.types (play.use_at (inst_of o n) k)

    abbrev at_bits : GOp → ℕ → ℕ → Bits
    at_bits o n k = play.operand f (state_of (inst_of o n)) (inst_of o n) r k

    -- behind it, the states are alike
    abbrev pub Closes : GOp → ℕ → Value → Type 0
    Closes o n v =
        Alike program symbol function there f (behind function now inst v) memory (record s { rest = r; regs = write regs N (result_of o n) })
        → R (behind function now inst v, memory) (record s { rest = r; regs = write regs N (result_of o n) })

    -- an instruction that computes follows
    pub follows_computed : (o : GOp) (n most : ℕ) (v : Value) → kind o ≡ Computes
        → act program function now memory inst inst.op ≡ ir.plain program function now memory inst (ir.give program function now memory inst v)
        → FitsWidth (width inst.gives) v → RefinesBits (bits_of (width inst.gives) v) (result_of o n)
        → weight f.types (inst_of o n) ≤ most → 24 * length ops + most ≤ 256 → Closes o n v
        → F here_now (play.step f (record s { rest = loads program.module_.globals next ops ++ inst_of o n ∷ r }))
    follows_computed o n most v computes acts fits known heavy light closes =
        follows_give program symbol function there f R measure now memory s inst h at gives next low ops r m v (result_of o n) (inst_of o n) most acts
        (ap (play.by_kind f (state_of (inst_of o n)) (inst_of o n) r) computes) fits known heavy light closes

    -- so does one that divides by a number that isn't 0
    pub follows_divided : (o : GOp) (n most k : ℕ) (v : Value) → kind o ≡ Divides
        → number_in (play.reg_width f (state_of (inst_of o n)) (inst_of o n) r (play.use_at (inst_of o n) 1)) (play.operand f (state_of (inst_of o n)) (inst_of o n) r 1) ≡ Some (suc k)
        → act program function now memory inst inst.op ≡ ir.plain program function now memory inst (ir.give program function now memory inst v)
        → FitsWidth (width inst.gives) v → RefinesBits (bits_of (width inst.gives) v) (result_of o n)
        → weight f.types (inst_of o n) ≤ most → 24 * length ops + most ≤ 256 → Closes o n v
        → F here_now (play.step f (record s { rest = loads program.module_.globals next ops ++ inst_of o n ∷ r }))
    follows_divided o n most k v divides known_divisor acts fits known heavy light closes =
        follows_give program symbol function there f R measure now memory s inst h at gives next low ops r m v (result_of o n) (inst_of o n) most acts
        (ap (play.by_kind f (state_of (inst_of o n)) (inst_of o n) r) divides
        ∙ ap (λ (z : Option ℕ). play.plain f (state_of (inst_of o n)) (inst_of o n) r (play.divided f (state_of (inst_of o n)) (inst_of o n) r z)) known_divisor)
        fits known heavy light closes

  -- ---- the instructions

  -- an operator on two values of one width
  pub follows_binary : (o : BinOp) (flags : Flags) (x y : Operand) → inst.op ≡ Binary o flags x y → (integer : IsInteger inst.gives)
      → IsOperand (types function) inst.gives x → IsOperand (types function) inst.gives y
      → Stand f.types next.next (all_loaded program.module_.globals next ((inst.gives, x) ∷ (inst.gives, y) ∷ []))
      → ((v : Value) → Closes (some_integer inst.gives integer).1 (some_integer inst.gives integer).0 ((inst.gives, x) ∷ (inst.gives, y) ∷ []) (binary_op o) 0 v)
      → F here_now (play.step f (record s {
        rest =
            loads program.module_.globals next ((inst.gives, x) ∷ (inst.gives, y) ∷ [])
            ++ inst_of (some_integer inst.gives integer).1 (some_integer inst.gives integer).0 ((inst.gives, x) ∷ (inst.gives, y) ∷ []) (binary_op o) 0 ∷ r;
      }))
  follows_binary o flags x y is integer is_x is_y stand closes = by_result (binary o flags (width inst.gives) (value_of x) (value_of y)) refl
    where
      ops : List (Ty × Operand)
      ops = (inst.gives, x) ∷ (inst.gives, y) ∷ []

      real : inst.gives ≡ Void → ⊥
      real = (some_integer inst.gives integer).0

      gives : has_result inst ≡ true
      gives = (some_integer inst.gives integer).1

      by_result : (c : Computed) → binary o flags (width inst.gives) (value_of x) (value_of y) ≡ c
          → F here_now (play.step f (record s { rest = loads program.module_.globals next ((inst.gives, x) ∷ (inst.gives, y) ∷ []) ++ inst_of (some_integer inst.gives integer).1 (some_integer inst.gives integer).0 ((inst.gives, x) ∷ (inst.gives, y) ∷ []) (binary_op o) 0 ∷ r }))
      by_result NoMeaning e =
          follows_break
          (play.step f (record s { rest = loads program.module_.globals next ((inst.gives, x) ∷ (inst.gives, y) ∷ []) ++ inst_of (some_integer inst.gives integer).1 (some_integer inst.gives integer).0 ((inst.gives, x) ∷ (inst.gives, y) ∷ []) (binary_op o) 0 ∷ r }))
          (ap (act program function now memory inst) is
          ∙ ap (λ (c : Computed). ir.plain program function now memory inst (ir.computed (ir.give program function now memory inst) c)) e)
      by_result (Gives v) e = by_kind (kinds o flags (width inst.gives) (value_of x) (value_of y) v e)
        where
          rd : Readied program f (types function) now.values next ((inst.gives, x) ∷ (inst.gives, y) ∷ []) s.regs
          rd = (prepared program f (types function) now.values ((inst.gives, x) ∷ (inst.gives, y) ∷ []) next s.regs
              (integer_value inst.gives integer, is_x, (integer_value inst.gives integer, is_y, tt)) typed low h.holds stand).ready

          fits_x : FitsWidth (width inst.gives) (value_of x)
          fits_x = operand-fits program (types function) now.values inst.gives x h.fit is_x

          fits_y : FitsWidth (width inst.gives) (value_of y)
          fits_y = operand-fits program (types function) now.values inst.gives y h.fit is_y

          fits : FitsWidth (width inst.gives) v
          fits = subst (ComputedFits (width inst.gives)) e (binary-fits o flags (width inst.gives) (value_of x) (value_of y) fits_x fits_y)

          acts : act program function now memory inst inst.op ≡ ir.plain program function now memory inst (ir.give program function now memory inst v)
          acts =
              ap (act program function now memory inst) is
              ∙ ap (λ (c : Computed). ir.plain program function now memory inst (ir.computed (ir.give program function now memory inst) c)) e

          known : RefinesBits (bits_of (width inst.gives) v) (result_of (some_integer inst.gives integer).1 (some_integer inst.gives integer).0 ((inst.gives, x) ∷ (inst.gives, y) ∷ []) (binary_op o) 0)
          known =
              resized (binary_op o) _ _ _ (width inst.gives) (width inst.gives) (width inst.gives) 0 _ _ _ (bits_of (width inst.gives) v)
              (number_width (some_integer inst.gives integer).1 (some_integer inst.gives integer).0 ((inst.gives, x) ∷ (inst.gives, y) ∷ [])) rd.0.wide rd.1.0.wide
              (binary_row flags (width inst.gives) (some_integer inst.gives integer).2 _ _ _ o (value_of x) (value_of y) v fits_x fits_y rd.0.bits rd.1.0.bits e)

          divisor : (k : ℕ) → value_of y ≡ Some (suc k) → number_in (width inst.gives) (registers_behind program.module_.globals f next ((inst.gives, x) ∷ (inst.gives, y) ∷ []) s.regs (register_of y (literal program.module_.globals y) inst.gives (behind_operand (literal program.module_.globals x) inst.gives next))) ≡ Some (suc k)
          divisor k same =
              keeps_number (width inst.gives) (bits_of (width inst.gives) (value_of y)) _ rd.1.0.bits (suc k)
              (ap (λ (z : Value). number_in (width inst.gives) (bits_of (width inst.gives) z)) same
              ∙ number_constant (width inst.gives) (width inst.gives) (suc k) (omega arith)
              ∙ ap Some (mod-eq_of_lt (subst (FitsWidth (width inst.gives)) same fits_y)))

          by_kind : (kind (binary_op o) ≡ Computes) ⊎ ((kind (binary_op o) ≡ Divides) × Divisor (value_of y))
              → F here_now (play.step f (record s { rest = loads program.module_.globals next ((inst.gives, x) ∷ (inst.gives, y) ∷ []) ++ inst_of (some_integer inst.gives integer).1 (some_integer inst.gives integer).0 ((inst.gives, x) ∷ (inst.gives, y) ∷ []) (binary_op o) 0 ∷ r }))
          by_kind (inl computes) =
              follows_computed (some_integer inst.gives integer).1 (some_integer inst.gives integer).0 ((inst.gives, x) ∷ (inst.gives, y) ∷ []) (binary_op o) 0 184 v computes acts fits known
              (binary_weight o (is_legal f.types (inst_of (some_integer inst.gives integer).1 (some_integer inst.gives integer).0 ((inst.gives, x) ∷ (inst.gives, y) ∷ []) (binary_op o) 0)) 2) (omega arith) (closes v)
          by_kind (inr (divides, (k, same))) =
              follows_divided (some_integer inst.gives integer).1 (some_integer inst.gives integer).0 ((inst.gives, x) ∷ (inst.gives, y) ∷ []) (binary_op o) 0 184 k v divides
              (ap (λ (z : ℕ). number_in z (registers_behind program.module_.globals f next ((inst.gives, x) ∷ (inst.gives, y) ∷ []) s.regs (register_of y (literal program.module_.globals y) inst.gives (behind_operand (literal program.module_.globals x) inst.gives next)))) rd.1.0.wide ∙ divisor k same)
              acts fits known (binary_weight o (is_legal f.types (inst_of (some_integer inst.gives integer).1 (some_integer inst.gives integer).0 ((inst.gives, x) ∷ (inst.gives, y) ∷ []) (binary_op o) 0)) 2) (omega arith) (closes v)

  module _ (gives : has_result inst ≡ true) (real : inst.gives ≡ Void → ⊥) (ops : List (Ty × Operand)) where
    -- what follows from the operands' registers
    pub follows_known : (o : GOp) (n most : ℕ) (v : Value) → kind o ≡ Computes → AreTyped program f (types function) now.values ops
        → Stand f.types next.next (all_loaded program.module_.globals next ops)
        → act program function now memory inst inst.op ≡ ir.plain program function now memory inst (ir.give program function now memory inst v)
        → FitsWidth (width inst.gives) v
        → (Readied program f (types function) now.values next ops s.regs → RefinesBits (bits_of (width inst.gives) v) (result_of gives real ops o n))
        → weight f.types (inst_of gives real ops o n) ≤ most → 24 * length ops + most ≤ 256 → Closes gives real ops o n v
        → F here_now (play.step f (record s { rest = loads program.module_.globals next ops ++ inst_of gives real ops o n ∷ r }))
    follows_known o n most v computes are stand acts fits row heavy light closes =
        follows_computed gives real ops o n most v computes acts fits (row ((prepared program f (types function) now.values ops next s.regs are typed low h.holds stand).ready)) heavy light closes

  -- a comparison
  pub follows_icmp : (gives : has_result inst ≡ true) (real : inst.gives ≡ Void → ⊥) (pred : Pred) (flags : Flags) (of : Ty) (x y : Operand) → inst.op ≡ Icmp pred flags of x y → inst.gives ≡ Int 1 → IsValueType of
      → IsOperand (types function) of x → IsOperand (types function) of y → Stand f.types next.next (all_loaded program.module_.globals next ((of, x) ∷ (of, y) ∷ []))
      → Closes gives real ((of, x) ∷ (of, y) ∷ []) g.Icmp (predicate pred) (compare pred flags (width of) (value_of x) (value_of y))
      → F here_now (play.step f (record s { rest = loads program.module_.globals next ((of, x) ∷ (of, y) ∷ []) ++ inst_of gives real ((of, x) ∷ (of, y) ∷ []) g.Icmp (predicate pred) ∷ r }))
  follows_icmp gives real pred flags of x y is bit_type value_type is_x is_y stand closes =
      let some = some_value of value_type in
      let fits_x = operand-fits program (types function) now.values of x h.fit is_x in
      let fits_y = operand-fits program (types function) now.values of y h.fit is_y in
      let one : width inst.gives ≡ 1 = ap width bit_type in
      follows_known gives real ((of, x) ∷ (of, y) ∷ []) g.Icmp (predicate pred) 152 (compare pred flags (width of) (value_of x) (value_of y)) refl
      (value_type, is_x, (value_type, is_y, tt)) stand (ap (act program function now memory inst) is)
      (subst (λ (w : ℕ). FitsWidth w (compare pred flags (width of) (value_of x) (value_of y))) (sym one) (compare-fits pred flags (width of) (value_of x) (value_of y) fits_x fits_y))
      (λ rd.
      subst (λ (w : ℕ). RefinesBits (bits_of w (compare pred flags (width of) (value_of x) (value_of y))) (result_of gives real ((of, x) ∷ (of, y) ∷ []) g.Icmp (predicate pred))) (sym one)
      (resized g.Icmp _ (at_width gives real ((of, x) ∷ (of, y) ∷ []) g.Icmp (predicate pred) 0) (at_width gives real ((of, x) ∷ (of, y) ∷ []) g.Icmp (predicate pred) 1) 1 (width of) (width of) (predicate pred) (at_bits gives real ((of, x) ∷ (of, y) ∷ []) g.Icmp (predicate pred) 0) (at_bits gives real ((of, x) ∷ (of, y) ∷ []) g.Icmp (predicate pred) 1) (at_bits gives real ((of, x) ∷ (of, y) ∷ []) g.Icmp (predicate pred) 2) (bits_of 1 (compare pred flags (width of) (value_of x) (value_of y)))
      (number_width gives real ((of, x) ∷ (of, y) ∷ []) ∙ one) rd.0.wide rd.1.0.wide
      (compare_row pred flags (width of) (value_of x) (value_of y) (at_bits gives real ((of, x) ∷ (of, y) ∷ []) g.Icmp (predicate pred) 0) (at_bits gives real ((of, x) ∷ (of, y) ∷ []) g.Icmp (predicate pred) 1) (at_bits gives real ((of, x) ∷ (of, y) ∷ []) g.Icmp (predicate pred) 2) fits_x fits_y rd.0.bits rd.1.0.bits)))
      (by_most _ 44 152 152 (omega arith) (omega arith)) (omega arith) closes

  -- a cast
  pub follows_cast : (gives : has_result inst ≡ true) (real : inst.gives ≡ Void → ⊥) (o : CastOp) (flags : Flags) (from : Ty) (x : Operand) → inst.op ≡ Cast o flags from x → IsCast o from inst.gives
      → IsOperand (types function) from x → Stand f.types next.next (all_loaded program.module_.globals next ((from, x) ∷ []))
      → Closes gives real ((from, x) ∷ []) (cast_op o) 0 (cast o flags (width from) (width inst.gives) (value_of x))
      → F here_now (play.step f (record s { rest = loads program.module_.globals next ((from, x) ∷ []) ++ inst_of gives real ((from, x) ∷ []) (cast_op o) 0 ∷ r }))
  follows_cast gives real o flags from x is is_cast is_x stand closes =
      let fits_x = operand-fits program (types function) now.values from x h.fit is_x in
      follows_known gives real ((from, x) ∷ []) (cast_op o) 0 72 (cast o flags (width from) (width inst.gives) (value_of x)) (cast_computes o)
      (cast_value o from inst.gives is_cast, is_x, tt) stand (ap (act program function now memory inst) is)
      (cast-fits o flags from inst.gives (value_of x) is_cast fits_x)
      (λ rd.
      resized (cast_op o) _ _ _ (width inst.gives) (width from) _ 0 _ _ _ (bits_of (width inst.gives) (cast o flags (width from) (width inst.gives) (value_of x)))
      (number_width gives real ((from, x) ∷ [])) rd.0.wide refl
      (cast_row flags _ _ _ _ o from inst.gives (value_of x) is_cast fits_x rd.0.bits))
      (cast_weight o _ _) (omega arith) closes

  -- a choice
  pub follows_select : (gives : has_result inst ≡ true) (real : inst.gives ≡ Void → ⊥) (condition x y : Operand) → inst.op ≡ Select condition x y → IsValueType inst.gives
      → IsOperand (types function) (Int 1) condition → IsOperand (types function) inst.gives x → IsOperand (types function) inst.gives y
      → Stand f.types next.next (all_loaded program.module_.globals next ((Int 1, condition) ∷ (inst.gives, x) ∷ (inst.gives, y) ∷ []))
      → Closes gives real ((Int 1, condition) ∷ (inst.gives, x) ∷ (inst.gives, y) ∷ []) g.Select 0 (select (value_of condition) (value_of x) (value_of y))
      → F here_now (play.step f (record s { rest = loads program.module_.globals next ((Int 1, condition) ∷ (inst.gives, x) ∷ (inst.gives, y) ∷ []) ++ inst_of gives real ((Int 1, condition) ∷ (inst.gives, x) ∷ (inst.gives, y) ∷ []) g.Select 0 ∷ r }))
  follows_select gives real condition x y is value_type is_condition is_x is_y stand closes =
      let fits_condition : FitsWidth 1 (value_of condition) = operand-fits program (types function) now.values (Int 1) condition h.fit is_condition in
      let fits_x = operand-fits program (types function) now.values inst.gives x h.fit is_x in
      let fits_y = operand-fits program (types function) now.values inst.gives y h.fit is_y in
      follows_known gives real ((Int 1, condition) ∷ (inst.gives, x) ∷ (inst.gives, y) ∷ []) g.Select 0 184 (select (value_of condition) (value_of x) (value_of y)) refl
      ((omega arith, omega arith), is_condition, (value_type, is_x, (value_type, is_y, tt))) stand (ap (act program function now memory inst) is)
      (select-fits (width inst.gives) (value_of condition) (value_of x) (value_of y) fits_x fits_y)
      (λ rd.
      resized g.Select _ (at_width gives real ((Int 1, condition) ∷ (inst.gives, x) ∷ (inst.gives, y) ∷ []) g.Select 0 0) (at_width gives real ((Int 1, condition) ∷ (inst.gives, x) ∷ (inst.gives, y) ∷ []) g.Select 0 1) (width inst.gives) (at_width gives real ((Int 1, condition) ∷ (inst.gives, x) ∷ (inst.gives, y) ∷ []) g.Select 0 0) (at_width gives real ((Int 1, condition) ∷ (inst.gives, x) ∷ (inst.gives, y) ∷ []) g.Select 0 1) 0 (at_bits gives real ((Int 1, condition) ∷ (inst.gives, x) ∷ (inst.gives, y) ∷ []) g.Select 0 0) (at_bits gives real ((Int 1, condition) ∷ (inst.gives, x) ∷ (inst.gives, y) ∷ []) g.Select 0 1) (at_bits gives real ((Int 1, condition) ∷ (inst.gives, x) ∷ (inst.gives, y) ∷ []) g.Select 0 2) (bits_of (width inst.gives) (select (value_of condition) (value_of x) (value_of y)))
      (number_width gives real ((Int 1, condition) ∷ (inst.gives, x) ∷ (inst.gives, y) ∷ [])) refl refl
      (select_row (width inst.gives) (at_width gives real ((Int 1, condition) ∷ (inst.gives, x) ∷ (inst.gives, y) ∷ []) g.Select 0 0) (at_width gives real ((Int 1, condition) ∷ (inst.gives, x) ∷ (inst.gives, y) ∷ []) g.Select 0 1) (value_of condition) (value_of x) (value_of y) (at_bits gives real ((Int 1, condition) ∷ (inst.gives, x) ∷ (inst.gives, y) ∷ []) g.Select 0 0) (at_bits gives real ((Int 1, condition) ∷ (inst.gives, x) ∷ (inst.gives, y) ∷ []) g.Select 0 1) (at_bits gives real ((Int 1, condition) ∷ (inst.gives, x) ∷ (inst.gives, y) ∷ []) g.Select 0 2) fits_condition rd.0.bits rd.1.0.bits rd.1.1.0.bits))
      (by_most _ 96 184 184 (omega arith) (omega arith)) (omega arith) closes

  -- a frozen value is a copy
  pub follows_freeze : (gives : has_result inst ≡ true) (real : inst.gives ≡ Void → ⊥) (x : Operand) → inst.op ≡ Freeze x → IsValueType inst.gives
      → IsOperand (types function) inst.gives x → Stand f.types next.next (all_loaded program.module_.globals next ((inst.gives, x) ∷ []))
      → Closes gives real ((inst.gives, x) ∷ []) g.Copy 0 (value_of x)
      → F here_now (play.step f (record s { rest = loads program.module_.globals next ((inst.gives, x) ∷ []) ++ inst_of gives real ((inst.gives, x) ∷ []) g.Copy 0 ∷ r }))
  follows_freeze gives real x is value_type is_x stand closes = by_value (value_of x) refl
    where
      by_value : (v : Value) → value_of x ≡ v → F here_now (play.step f (record s { rest = loads program.module_.globals next ((inst.gives, x) ∷ []) ++ inst_of gives real ((inst.gives, x) ∷ []) g.Copy 0 ∷ r }))
      by_value None e =
          follows_break (play.step f (record s { rest = loads program.module_.globals next ((inst.gives, x) ∷ []) ++ inst_of gives real ((inst.gives, x) ∷ []) g.Copy 0 ∷ r }))
          (ap (act program function now memory inst) is
          ∙ ap (λ (v : Value). ir.plain program function now memory inst (ir.computed (ir.give program function now memory inst) (freeze v))) e)
      by_value (Some n) e =
          follows_known gives real ((inst.gives, x) ∷ []) g.Copy 0 36 (value_of x) refl (value_type, is_x, tt) stand
          (ap (act program function now memory inst) is
          ∙ ap (λ (v : Value). ir.plain program function now memory inst (ir.computed (ir.give program function now memory inst) (freeze v))) e
          ∙ ap (λ (v : Value). ir.plain program function now memory inst (ir.give program function now memory inst v)) (sym e))
          (operand-fits program (types function) now.values inst.gives x h.fit is_x)
          (λ rd.
          resized g.Copy _ (at_width gives real ((inst.gives, x) ∷ []) g.Copy 0 0) (at_width gives real ((inst.gives, x) ∷ []) g.Copy 0 1) (width inst.gives) (at_width gives real ((inst.gives, x) ∷ []) g.Copy 0 0) (at_width gives real ((inst.gives, x) ∷ []) g.Copy 0 1) 0 (at_bits gives real ((inst.gives, x) ∷ []) g.Copy 0 0) (at_bits gives real ((inst.gives, x) ∷ []) g.Copy 0 1) (at_bits gives real ((inst.gives, x) ∷ []) g.Copy 0 2) (bits_of (width inst.gives) (value_of x))
          (number_width gives real ((inst.gives, x) ∷ [])) refl refl (copy_row (width inst.gives) (at_width gives real ((inst.gives, x) ∷ []) g.Copy 0 0) (at_width gives real ((inst.gives, x) ∷ []) g.Copy 0 1) (value_of x) (at_bits gives real ((inst.gives, x) ∷ []) g.Copy 0 0) (at_bits gives real ((inst.gives, x) ∷ []) g.Copy 0 1) (at_bits gives real ((inst.gives, x) ∷ []) g.Copy 0 2) rd.0.bits))
          (by_most _ 12 36 36 (omega arith) (omega arith)) (omega arith) closes
