-- Small functions, computed.
use Rattle.std.proofs.Common.{◌≡◌, refl, ℕ, false, List, [], ◌∷◌, take, length, map, Option, Some, None, pos}
use Rattle.rv_core.specs.declared.instr.BranchOp.TheVariants.{Bltu}
use Rattle.rv_core.specs.declared.instr.RegOp.TheVariants.{Add, Addw, Divw, Mulh, Sll, Sltu, Sraw, Subw}
use Rattle.rv_core.specs.declared.instr.ImmOp.TheVariants.{Addi, Slliw}
use Rattle.rv_core.specs.declared.instr.LoadOp.TheVariants.{Lb, Lhu}
use Rattle.rv_core.specs.declared.instr.StoreOp.TheVariants.{Sh}
use Rattle.mir.specs.declared.code.MInst.{MInst}
use Rattle.mir.specs.declared.code.MInst.TheVariants.{Param, Op, Imm, Const, Load, Store, Phi, Call, TakeData, CopyBytes, FillBytes, Branch, Jump, Return, Trap}
use Rattle.mir.specs.declared.code.MFunction.{MFunction}
use Rattle.ir_meaning.specs.Memory.{Memory}
use Rattle.walks.specs.Walk.{Bits, Reply, Entry, End, Calls, Returns, Overflows, Undefined, overflows, play_of}
use Rattle.walks.specs.Computed.{Ended, computed}
use Rattle.walks.proofs.Computed.{from_computed}
use Rattle.walks.specs.Bits.{cut, constant, number}
use Rattle.mir_play.specs.Values.{value, immediate_value}
use Rattle.mir_play.specs.Play.{walk}
use Rattle.mir_play.specs.Refines.{static_weight}

-- ---- operations

-- a number of 32 bits, with free bits above
abbrev low : ℕ → Bits
low n = constant 32 n

-- a word's sum, difference, quotient and shifts take no bit above 31, and are extended by their sign
sum_of_words : number 64 (value Addw (low 5) (low 7)) ≡ Some 12
sum_of_words = refl

below_zero : number 64 (value Subw (low 5) (low 7)) ≡ Some 0xffff_ffff_ffff_fffe
below_zero = refl

quotient_of_words : number 64 (value Divw (low 0xffff_fff9) (low 2)) ≡ Some 0xffff_ffff_ffff_fffd
quotient_of_words = refl

shifted_word : number 64 (value Sraw (low 0x8000_0000) (constant 5 4)) ≡ Some 0xffff_ffff_f800_0000
shifted_word = refl

by_immediate : number 64 (immediate_value Slliw (low 3) (pos 4)) ≡ Some 48
by_immediate = refl

-- a sum of 64 bits is known below the lowest free bit, and no more
not_above : value Add (low 5) (low 7) 31 ≡ Some false
not_above = refl

free_above : value Add (low 5) (low 7) 32 ≡ None
free_above = refl

-- in a comparison a free bit frees the result
free_below : value Sltu (low 5) (low 7) 0 ≡ None
free_below = refl

-- a shift takes the low six bits of its amount
wraps : number 64 (value Sll (constant 64 3) (constant 64 65)) ≡ Some 6
wraps = refl

-- minus one by minus one, the high half
high_half : number 64 (value Mulh (constant 64 0xffff_ffff_ffff_ffff) (constant 64 0xffff_ffff_ffff_ffff)) ≡ Some 0
high_half = refl

-- ---- a function that adds its parameter to itself and returns the sum from a second block

abbrev pub twice : MFunction
twice = record {
  symbol = 0;
  values = 2;
  end = 268435456;
  regs = 2;
  blocks = (Param 0 0 ∷ Op Add 1 0 0 ∷ Jump 1 ∷ []) ∷ (Return (1 ∷ []) ∷ []) ∷ [];
}

abbrev entered : List Bits → Memory → Entry
entered args memory = record { args = args; memory = memory; sp = 1082130432 }

-- from each argument and memory it comes to the sum and to the memory, at weight 160 and 12, 20, 4 and 64, with one jump
pub twice_plays : (a : Bits) (memory : Memory)
    → play_of (walk twice) (entered (a ∷ []) memory) [] (Returns (value Add (cut 64 a) (cut 64 a)) (take (length memory) memory)) 260 1
twice_plays a memory =
    from_computed (walk twice) (entered (a ∷ []) memory) [] 5 (Returns (value Add (cut 64 a) (cut 64 a)) (take (length memory) memory)) 260 1 refl

forty_two : number 64 (value Add (cut 64 (constant 64 21)) (cut 64 (constant 64 21))) ≡ Some 42
forty_two = refl

-- 160 for the entry, and its instructions
weighs : static_weight twice ≡ 260
weighs = refl

-- where there is no room for its frame of 192 bytes it wants stack
too_deep : play_of (walk twice) (record { args = []; memory = []; sp = 1073742015 }) [] Overflows 160 0
too_deep = overflows refl

-- ---- phis, calls, data memory, divisors

-- what an end says, with a result's number
data Said : Type 0 where
  Answers : Option ℕ → Memory → Said
  Asked : ℕ → List (Option ℕ) → Said
  Overflowed : Said
  Unsaid : Said

abbrev said : End → Said
said (Calls symbol args memory) = Asked symbol (map (number 64) args)
said (Returns a memory) = Answers (number 64 a) memory
said Overflows = Overflowed
said Undefined = Unsaid

abbrev told : Option Ended → Option (Said × ℕ × ℕ)
told None = None
told (Some (e, w, j)) = Some (said e, w, j)

-- what the play of a function without parameters comes to, with its weight and its jumps
abbrev plays : List (List MInst) → List Reply → Option (Said × ℕ × ℕ)
plays blocks replies = told (computed (walk (record { symbol = 0; values = 4; end = 268435472; regs = 4; blocks = blocks })) (entered [] []) replies 20)

-- two phis change places on the edge of their block to itself, both at once; they weigh 80 on each of both edges
abbrev turning : List (List MInst)
turning =
    (Const 0 1 ∷ Const 1 2 ∷ Jump 1 ∷ [])
    ∷ (Phi 0 ((0, 0) ∷ (1, 1) ∷ []) ∷ Phi 1 ((1, 0) ∷ (0, 1) ∷ []) ∷ Branch Bltu 0 1 1 2 ∷ [])
    ∷ (Return (1 ∷ []) ∷ []) ∷ []

turned : plays turning [] ≡ Some (Answers (Some 1) [], 476, 3)
turned = refl

-- and count once per operand in the static weight
turning_weighs : static_weight (record { symbol = 0; values = 4; end = 268435472; regs = 4; blocks = turning }) ≡ 444
turning_weighs = refl

-- a call of the third function, and what is answered
abbrev calling : List (List MInst)
calling = (Const 0 7 ∷ Call 3 (0 ∷ []) (1 ∷ []) ∷ Return (1 ∷ []) ∷ []) ∷ []

asked : plays calling [] ≡ Some (Asked 3 (Some 7 ∷ []), 248, 0)
asked = refl

replied : plays calling (record { value = constant 64 9; memory = [] } ∷ []) ≡ Some (Answers (Some 9) [], 312, 0)
replied = refl

-- sixteen new bytes, two of them filled by 7 and copied, each a jump; a load; they are gone behind the return
abbrev bytes : ℕ → List (List MInst)
bytes n =
    (TakeData 0 n ∷ Const 1 7 ∷ Const 2 2 ∷ FillBytes 0 1 2 ∷ Imm Addi 3 0 (pos 2) ∷ CopyBytes 3 0 2 ∷ Load Lhu 3 0 (pos 2) ∷ Return (3 ∷ []) ∷ []) ∷ []

seven_twice : plays (bytes 16) [] ≡ Some (Answers (Some 1799) [], 576, 4)
seven_twice = refl

-- seventeen don't fit
no_room : plays (bytes 17) [] ≡ Some (Overflowed, 208, 0)
no_room = refl

-- a byte is extended by its sign; one that is below 0 is loaded
abbrev signs : List (List MInst)
signs = (TakeData 0 8 ∷ Const 1 128 ∷ Store Sh 1 0 (pos 4) ∷ Load Lb 2 0 (pos 4) ∷ Return (2 ∷ []) ∷ []) ∷ []

below : plays signs [] ≡ Some (Answers (Some 0xffff_ffff_ffff_ff80) [], 316, 0)
below = refl

-- new bytes aren't known, and an address is known wholly or undefined
unknown : plays ((TakeData 0 8 ∷ Load Lb 2 0 (pos 0) ∷ Return (2 ∷ []) ∷ []) ∷ []) [] ≡ Some (Answers None [], 284, 0)
unknown = refl

nowhere : plays ((Store Sh 0 1 (pos 0) ∷ Return [] ∷ []) ∷ []) [] ≡ Some (Unsaid, 180, 0)
nowhere = refl

-- a divisor of which a bit is free, and one whose low word is 0
free_divisor : plays ((Const 0 4 ∷ Op Divw 2 0 1 ∷ Return (2 ∷ []) ∷ []) ∷ []) [] ≡ Some (Unsaid, 192, 0)
free_divisor = refl

divisor_of_zeros : plays ((Const 0 0x1_0000_0000 ∷ Op Divw 2 0 0 ∷ Return (2 ∷ []) ∷ []) ∷ []) [] ≡ Some (Unsaid, 192, 0)
divisor_of_zeros = refl

-- a branch on a register of which a bit is free is undefined
free_branch : plays ((Branch Bltu 0 1 1 1 ∷ []) ∷ (Return [] ∷ []) ∷ []) [] ≡ Some (Unsaid, 192, 0)
free_branch = refl

-- a move of no bytes does nothing, whatever its addresses
nothing_moved : plays ((Const 0 0 ∷ CopyBytes 1 2 0 ∷ FillBytes 1 2 0 ∷ Return [] ∷ []) ∷ []) [] ≡ Some (Answers None [], 364, 0)
nothing_moved = refl

trapped : plays ((Trap ∷ []) ∷ []) [] ≡ Some (Unsaid, 164, 0)
trapped = refl
