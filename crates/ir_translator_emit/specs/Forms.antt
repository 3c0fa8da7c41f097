-- What the translator asks of an instruction: each instruction of a checked module has it.
use Rattle.std.specs.Prelude.{◌≡◌, ℕ, ◌<◌, ◌≤◌, true, List, [], ◌∷◌, length}
use Rattle.ir_core.specs.declared.code.Op.{Op}
use Rattle.ir_core.specs.declared.code.Op.TheVariants.{Alloca, Gep, BuiltIn as CallBuiltIn, Br, CondBr, Switch}
use Rattle.ir_core.specs.Layout.{HasSizesWithin}
use Rattle.ir_flow.specs.Limits.{nodes}
use Rattle.ir_meaning.specs.Step.{moves_bytes}
use Rattle.ir_translator_emit.specs.Sums.{AreRead}

-- types of memory keep their limits, indices are integers, and a built-in has its arguments
abbrev pub IsTaken : Op → Type 0
IsTaken (Alloca of count) = HasSizesWithin of
IsTaken (Gep of base indices) = AreRead indices × HasSizesWithin of × (nodes of ≤ 4096)
IsTaken (CallBuiltIn which arguments) = (2 ≤ length arguments) × (moves_bytes which ≡ true → 3 ≤ length arguments)
IsTaken _ = Unit {0}

-- where cases lead to there are blocks, of which there are so many
abbrev pub AreLed : ℕ → List (ℕ × ℕ) → Type 0
AreLed blocks [] = Unit {0}
AreLed blocks (one ∷ cases) = (one.1 < blocks) × AreLed blocks cases

-- what an instruction leads to is a block, of which there are so many
abbrev pub IsLed : ℕ → Op → Type 0
IsLed blocks (Br to) = to < blocks
IsLed blocks (CondBr condition if_one if_zero) = (if_one < blocks) × (if_zero < blocks)
IsLed blocks (Switch of a otherwise cases) = (otherwise < blocks) × AreLed blocks cases
IsLed blocks _ = Unit {0}
