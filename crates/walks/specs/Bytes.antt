-- Bits in data memory.
use Rattle.std.specs.Prelude.{ℕ, zero, suc, ◌+◌, ◌/◌, ◌%◌, Bool, List, [], ◌∷◌, Option, Some, None, slice_index_or}
use Rattle.ir_meaning.specs.Value.{Byte}
use Rattle.walks.specs.Walk.{Bits}
use Rattle.walks.specs.Bits.{bit_of, number}

-- a bit of a byte; those of a poison byte are free
abbrev pub byte_bit : Byte → ℕ → Option Bool
byte_bit None i = None
byte_bit (Some n) i = Some (bit_of n i)

-- the bits of bytes, the lowest byte first
abbrev pub bits_of_bytes : List Byte → Bits
bits_of_bytes bytes i = byte_bit (slice_index_or bytes (i / 8) None) (i % 8)

-- so many bytes of a register, the lowest first: one with a free bit is poison
abbrev pub bytes_of_bits : ℕ → Bits → List Byte
bytes_of_bits zero a = []
bytes_of_bits (suc count) a = number 8 a ∷ bytes_of_bits count (λ i. a (i + 8))
