-- The instructions that load a constant of 64 bits, and what they do.
use Rattle.std.specs.Prelude.{◌≡◌, ℕ, zero, suc, ◌+◌, ◌-◌, ◌/◌, ◌%◌, ◌^◌, ℤ, pos, negsuc, ◌==◌, ◌||◌, Bool, if◌then◌else◌, nat_lt, nat_le, List, [], ◌∷◌, ◌++◌}
use Rattle.rv_core.specs.declared.reg.Reg.{Reg}
use Rattle.rv_core.specs.declared.reg.Reg.TheVariants.{X0}
use Rattle.rv_core.specs.declared.instr.ImmOp.{ImmOp}
use Rattle.rv_core.specs.declared.instr.ImmOp.TheVariants.{Addi, Slli, Addiw}
use Rattle.rv_core.specs.declared.instr.Instr.{Instr}
use Rattle.rv_core.specs.declared.instr.Instr.TheVariants.{Lui, Imm}
use Rattle.rv_core.specs.Reg.{number_of}
use Rattle.rv_core.specs.Step.{Registers, written, after}

-- the upper bits of a number, rounded so that the rest is a signed number of 12 bits, and that rest
abbrev pub upper : ℕ → ℕ
upper n = (n + 2048) / 4096

abbrev pub lower : ℕ → ℤ
lower n = if nat_lt (n % 4096) 2048 then pos (n % 4096) else negsuc (4095 - n % 4096)

-- whether a number of 64 bits, read with its sign, has 12 bits, or 32
abbrev pub is_twelve : ℕ → Bool
is_twelve n = nat_lt n 2048 || nat_le (2 ^ 64 - 2048) n

abbrev pub is_word : ℕ → Bool
is_word n = nat_lt n (2 ^ 31) || nat_le (2 ^ 64 - 2 ^ 31) n

-- a number less its low twelve bits, read with a sign, divided by 4096 with its sign
abbrev pub high_part : ℕ → ℕ
high_part n = if nat_lt n (2 ^ 63) then (n + 2048) / 4096 else (n + 2048) / 4096 + (2 ^ 64 - 2 ^ 52)

-- adds a number's low twelve bits, read with a sign, where they aren't 0
abbrev pub add_low : ImmOp → Reg → ℕ → List Instr
add_low op rd n = if n % 4096 == 0 then [] else Imm op rd rd (lower n) ∷ []

-- loads a number of 32 bits with its sign
abbrev pub word_code : Reg → ℕ → List Instr
word_code rd n =
    if is_twelve n then Imm Addi rd X0 (if nat_lt n 2048 then pos n else negsuc (2 ^ 64 - 1 - n)) ∷ []
    else Lui rd (upper n % 2 ^ 20) ∷ add_low Addiw rd n

-- loads a number: its high part first, which is taken at most k times
abbrev pub const_code : ℕ → Reg → ℕ → List Instr
const_code zero rd n = word_code rd n
const_code (suc k) rd n =
    if is_word n then word_code rd n
    else const_code k rd (high_part n) ++ Imm Slli rd rd (pos 12) ∷ add_low Addi rd n

-- the registers after a list of instructions
abbrev pub after_all : List Instr → Registers → Registers
after_all [] s = s
after_all (i ∷ is) s = after_all is (after s i)

-- the instructions leave this value in the register, and change no other
abbrev pub Puts : List Instr → Reg → ℕ → Type 0
Puts code rd value = (s : Registers) → (after_all code s).x ≡ written s.x (number_of rd) value
