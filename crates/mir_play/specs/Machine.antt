-- What is known of values is so on the machine.
use Rattle.std.specs.Prelude.{◌≡◌, ℕ, ◌^◌, ◌<◌, ℤ, Bool, Some}
use Rattle.rv_core.specs.declared.instr.BranchOp.{BranchOp}
use Rattle.rv_core.specs.declared.instr.ImmOp.{ImmOp}
use Rattle.rv_core.specs.declared.instr.RegOp.{RegOp}
use Rattle.rv_core.specs.Step.{op_value, register_form, is_taken, modulo, plus}
use Rattle.walks.specs.Walk.{Bits}
use Rattle.walks.specs.Bits.{constant}
use Rattle.walks.specs.Refines.{RefinesBits}
use Rattle.mir_play.specs.Values.{value, immediate_value, divisor, MayDivide, taken, address}

-- the machine's register holds this number, of which these bits are known
pub record IsHeld (a : Bits) (n : ℕ) : Type 0 where
  pub low : n < 2 ^ 64
  pub bits : RefinesBits a (constant 64 n)

-- whatever the free bits of registers are, the machine's results have the known bits of values, its branches go where they are known to
-- go, and its addresses are the known ones
pub record ValuesHold : Type 0 where
  pub operations : (op : RegOp) (a b : Bits) (m n : ℕ) → IsHeld a m → IsHeld b n → MayDivide (divisor op b)
      → RefinesBits (value op a b) (constant 64 (op_value op m n))
  pub immediates : (op : ImmOp) (a : Bits) (m : ℕ) (k : ℤ) → IsHeld a m → RefinesBits (immediate_value op a k) (constant 64 (op_value (register_form op) m (modulo k)))
  pub branches : (op : BranchOp) (a b : Bits) (m n : ℕ) (t : Bool) → IsHeld a m → IsHeld b n → taken op a b ≡ Some t → is_taken op m n ≡ t
  pub addresses : (a : Bits) (m at : ℕ) (offset : ℤ) → IsHeld a m → address a offset ≡ Some at → plus m offset ≡ at
