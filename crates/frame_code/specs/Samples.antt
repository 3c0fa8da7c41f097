-- A function that adds its parameter to itself and returns the sum from a second block: both registers stand in s0.
use Rattle.std.specs.Prelude.{ℕ, List, [], ◌∷◌, Some}
use Rattle.rv_core.specs.declared.instr.RegOp.TheVariants.{Add}
use Rattle.mir.specs.declared.code.MInst.TheVariants.{Param, Op, Jump, Return}
use Rattle.mir.specs.declared.code.MFunction.{MFunction}
use Rattle.mir.specs.declared.places.Place.TheVariants.{Saved}
use Rattle.mir.specs.declared.places.Places.{Places}
use Rattle.frame_code.specs.Assembly.{IsLaidOut}

abbrev pub twice : MFunction
twice = record {
  symbol = 0;
  values = 2;
  end = 268435456;
  regs = 2;
  blocks = (Param 0 0 ∷ Op Add 1 0 0 ∷ Jump 1 ∷ []) ∷ (Return (1 ∷ []) ∷ []) ∷ [];
}

abbrev pub in_s0 : Places
in_s0 = record { at = Some (Saved 0) ∷ Some (Saved 0) ∷ [] }

-- the count, the guard, the frame, ra and s0; the parameter, the sum and the result; s0, ra and sp again, and the return. The jump to the second block is left out
abbrev pub words : List ℕ
words =
    0x00100293
    ∷ 0x00000313
    ∷ 0x00000073
    ∷ 0xf4010293
    ∷ 0x400003b7
    ∷ 0x0072f663
    ∷ 0x00200293
    ∷ 0x00000073
    ∷ 0xf4010113
    ∷ 0x0a113c23
    ∷ 0x0a813823
    ∷ 0x00050413
    ∷ 0x00840433
    ∷ 0x00040513
    ∷ 0x0b013403
    ∷ 0x0b813083
    ∷ 0x0c010113
    ∷ 0x00008067
    ∷ []

abbrev pub TwiceIsLaidOut : Type 0
TwiceIsLaidOut = IsLaidOut twice in_s0 words
