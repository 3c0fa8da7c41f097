-- An address that is a narrower number is followed by its extension, and the address of what that gives.
use Rattle.std.proofs.Common.{◌≡◌, refl, sym, ap, subst, ◌∙◌, ℕ, ◌+◌, ◌<◌, ◌≤◌, true, false, List, [], ◌∷◌, ◌++◌, Some, None, arith}
use Rattle.std.specs.Prelude.{slice_get, ◌==◌, ◌^◌}
use Rattle.std.proofs.Math.Nat.{pow-le-pow_right}
use Rattle.ir_core.specs.Program.{Program}
use Rattle.ir_core.specs.Units.{units, has_result, is_result}
use Rattle.ir_core.specs.declared.types.Ty.{Ty}
use Rattle.ir_core.specs.declared.types.Ty.TheVariants.{Void, Int, Ptr}
use Rattle.ir_core.specs.declared.code.Operand.{Operand}
use Rattle.ir_core.specs.declared.code.Flags.{Flags}
use Rattle.ir_core.specs.declared.code.CastOp.TheVariants.{ZExt, IntToPtr}
use Rattle.ir_core.specs.declared.code.Op.TheVariants.{Cast}
use Rattle.ir_core.specs.declared.code.Inst.{Inst}
use Rattle.ir_core.specs.declared.program.Function.{Function}
use Rattle.ir_meaning.specs.declared.activation.Activation.{Activation}
use Rattle.ir_meaning.specs.Value.{Value}
use Rattle.ir_meaning.specs.Memory.{Memory}
use Rattle.ir_meaning.specs.Operators.{width, cast}
use Rattle.ir_meaning.specs.Step as ir
use Rattle.ir_meaning.specs.Step.{function_at, insts_at, number_at, act, operand}
use Rattle.ir_meaning.specs.Ranges.{FitsWidth}
use Rattle.ir_meaning.specs.Typed.{types, IsOperand, IsInteger}
use Rattle.ir_meaning.proofs.Fitting.{cast-fits}
use Rattle.ir_meaning.proofs.Keeping.{operand-fits}
use Rattle.ir_meaning.proofs.Numbering.{number-type}
use Rattle.gmir.specs.declared.code.GType.TheVariants.{S}
use Rattle.gmir.specs.declared.code.GOp.TheVariants as g
use Rattle.gmir.specs.declared.code.GInst.{GInst}
use Rattle.gmir.specs.declared.code.GFunction.{GFunction}
use Rattle.gmir.specs.Play as play
use Rattle.gmir.specs.Play.{State, value}
use Rattle.walks.specs.Registers.{Registers, write}
use Rattle.walks.specs.Walk.{Bits}
use Rattle.walks.specs.Bits.{constant, free}
use Rattle.walks.specs.Refines.{RefinesBits}
use Rattle.walks.specs.Functions.{bits_of, Point}
use Rattle.generic_code.specs.Literals.{Pool, type_of, plain, loads, all_loaded, register_of, literal, behind_all}
use Rattle.generic_code.proofs.Loads.{Prepared, stand_front, stand_behind, value_below, Stand, stand_first, Holds, ValuesTyped, prepared, registers_behind, other_same, written_there, loads_run, width_there, by_most, Known}
use Rattle.generic_code.proofs.Computes.{resized, integer_value}
use Rattle.generic_code.proofs.Results.{nothing, cast_row}
use Rattle.generic_code.proofs.Steps.{Alike, Fol, here_step}
use Rattle.generic_code.proofs.Choices.{no_flags}
use Rattle.generic_code.proofs.Runs.{gets_then, gets_one, run_one, computed_bits, follows_gets}

-- a number that hasn't 64 bits has fewer
pub narrow : (ty : Ty) → IsInteger ty → (width ty == 64) ≡ false → width ty < 64
narrow Void h e = absurd h
narrow (Int w) h e = let low = h.1 in grind (arith, low, e)
narrow Ptr h e = absurd h

module _ (program : Program) (symbol : ℕ) (function : Function) (there : function_at program symbol ≡ Some function) (f : GFunction)
    (typed : ValuesTyped program f (types function) []) (R : Point program symbol → State → Type 0) (measure : Point program symbol → ℕ)
    (now : Activation) (memory : Memory) (s : State) (inst : Inst) (h : Alike program symbol function there f now memory s)
    (at : slice_get (insts_at function now.block) now.place ≡ Some inst)
    (next : Pool) (low : Known f (types function) next s.regs) (r : List GInst) (m : ℕ)
    (flags : Flags) (from : Ty) (x : Operand) (is : inst.op ≡ Cast IntToPtr flags from x) (integer : IsInteger from) (pointer : inst.gives ≡ Ptr) (small : width from < 64)
    (is_x : IsOperand (types function) from x) (stand : Stand f.types next.next (all_loaded program.module_.globals next ((from, x) ∷ []) ++ S 64 ∷ [])) where
  abbrev N : ℕ
  N = number_at function now.block now.place

  abbrev wide_register : ℕ
  wide_register = (behind_all program.module_.globals next ((from, x) ∷ [])).next

  abbrev rx : ℕ
  rx = register_of x (literal program.module_.globals x) from next

  abbrev regs : Registers
  regs = registers_behind program.module_.globals f next ((from, x) ∷ []) s.regs

  abbrev extension : GInst
  extension = plain g.ZExt (wide_register ∷ []) (rx ∷ []) 0

  abbrev conversion : GInst
  conversion = plain g.IntToPtr (N ∷ []) (wide_register ∷ []) 0

  abbrev wide_bits : Bits
  wide_bits = computed_bits f (record s { regs = regs }) g.ZExt wide_register (rx ∷ []) 0 (conversion ∷ r)

  abbrev regs_1 : Registers
  regs_1 = write regs wide_register wide_bits

  abbrev address_bits : Bits
  address_bits = computed_bits f (record s { regs = regs_1 }) g.IntToPtr N (wide_register ∷ []) 0 r

  abbrev pub address_after : State
  address_after = record s { rest = r; regs = write regs_1 N address_bits }

  abbrev pub address_value : Value
  address_value = cast IntToPtr flags (width from) (width inst.gives) (operand program now.values x)

  gives : has_result inst ≡ true
  gives = ap is_result pointer

  wide : width inst.gives ≡ 64
  wide = ap width pointer

  pre : Prepared program f (types function) now.values next ((from, x) ∷ []) regs
  pre = prepared program f (types function) now.values ((from, x) ∷ []) next s.regs (integer_value from integer, is_x, tt) typed low h.holds
      (stand_front f.types next.next (all_loaded program.module_.globals next ((from, x) ∷ [])) (S 64 ∷ []) stand)

  fits_x : FitsWidth (width from) (operand program now.values x)
  fits_x = operand-fits program (types function) now.values from x h.fit is_x

  register_wide : play.width f.types wide_register ≡ 64
  register_wide = width_there f.types wide_register (S 64) (stand_first f.types wide_register (S 64) [] (stand_behind program.module_.globals f.types ((from, x) ∷ []) next (S 64 ∷ []) stand))

  number_wide : play.width f.types N ≡ 64
  number_wide = width_there f.types N (type_of inst.gives) (typed N inst.gives (number-type function now.block now.place inst at gives)) ∙ ap (λ (t : Ty). play.width_of (type_of t)) pointer

  holds_too : Holds program f (types function) now.values regs_1
  holds_too n ty e =
      let below = value_below program f (types function) now.values n ty (types function) e in
      let all = pre.known.low in
      rw (other_same regs wide_register wide_bits n (λ e'. let bad : ⊥ = omega (arith, below, all, e') in bad)) (pre.holds n ty e)

  -- a number of a width is one of 64 bits
  fits_more : (n : ℕ) → n < 2 ^ width from → n < 2 ^ 64
  fits_more n l = let two : 0 < 2 = omega arith in let less : width from ≤ 64 = omega (arith, small) in let more : 2 ^ width from ≤ 2 ^ 64 = pow-le-pow_right two less in omega (arith, l, more)

  known : (v : Value) → operand program now.values x ≡ v → RefinesBits (bits_of 64 (cast IntToPtr flags (width from) 64 v)) address_bits
  known None e = nothing 64 address_bits
  known (Some n) e =
      let small' : FitsWidth (width from) (Some n) = subst (FitsWidth (width from)) e fits_x in
      let is_n : RefinesBits (constant (width from) n) (regs rx) = subst (λ (v : Value). RefinesBits (bits_of (width from) v) (regs rx)) e pre.ready.0.bits in
      let X : RefinesBits (constant 64 n) wide_bits =
      resized g.ZExt (play.width f.types wide_register) (play.width f.types rx) (play.width f.types (play.use_at extension 1)) 64 (width from) (play.width f.types (play.use_at extension 1)) 0 (regs rx) free free (constant 64 n) register_wide pre.ready.0.wide refl
      (cast_row no_flags (play.width f.types (play.use_at extension 1)) (regs rx) free free ZExt from (Int 64) (Some n) (integer, (omega arith, omega arith), small) small' is_n) in
      resized g.IntToPtr (play.width f.types N) (play.width f.types wide_register) (play.width f.types (play.use_at conversion 1)) 64 64 (play.width f.types (play.use_at conversion 1)) 0 (regs_1 wide_register) free free (bits_of 64 (cast IntToPtr flags (width from) 64 (Some n))) number_wide register_wide refl
      (cast_row flags (play.width f.types (play.use_at conversion 1)) (regs_1 wide_register) free free IntToPtr (Int 64) Ptr (Some n) ((omega arith, omega arith), refl) (fits_more n small')
      (subst (RefinesBits (constant 64 n)) (sym (written_there regs wide_register wide_bits)) X))

  pub follows_address : (Alike program symbol function there f (ir.behind function now inst address_value) memory address_after → R (ir.behind function now inst address_value, memory) address_after)
      → Fol program symbol function there f R measure m (here_step program symbol function there f R measure now memory)
      (play.step f (record s { rest = (loads program.module_.globals next ((from, x) ∷ []) ++ (plain g.ZExt (wide_register ∷ []) (rx ∷ []) 0 ∷ plain g.IntToPtr (N ∷ []) (wide_register ∷ []) 0 ∷ [])) ++ r }))
  follows_address closes =
      follows_gets program symbol function there f typed R measure now memory s inst h at gives r m
      (loads program.module_.globals next ((from, x) ∷ []) ++ (extension ∷ conversion ∷ [])) regs_1 address_bits (24 + (72 + 36)) address_value
      (gets_then f s (loads program.module_.globals next ((from, x) ∷ [])) (extension ∷ conversion ∷ []) r regs (write regs_1 N address_bits) 24 (72 + 36)
      (loads_run program.module_.globals f ((from, x) ∷ []) s next (extension ∷ conversion ∷ r))
      (gets_then f (record s { regs = regs }) (extension ∷ []) (conversion ∷ []) r regs_1 (write regs_1 N address_bits) 72 36
      (run_one f (record s { regs = regs }) g.ZExt wide_register (rx ∷ []) 0 72 (conversion ∷ r) refl (by_most _ 24 72 72 (omega arith) (omega arith)))
      (gets_one f (record s { regs = regs_1 }) g.IntToPtr N (wide_register ∷ []) 0 36 r refl (by_most _ 12 36 36 (omega arith) (omega arith)))))
      holds_too (ap (act program function now memory inst) is)
      (cast-fits IntToPtr flags from inst.gives (operand program now.values x) (integer, pointer) fits_x)
      (subst (λ (k : ℕ). RefinesBits (bits_of k (cast IntToPtr flags (width from) k (operand program now.values x))) address_bits) (sym wide) (known (operand program now.values x) refl))
      (let cost : 1 ≤ units inst = omega arith in omega (arith, cost)) closes
