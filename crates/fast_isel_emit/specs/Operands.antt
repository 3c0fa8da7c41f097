-- What the pieces of code ask of types, operands and indices, as tests.
use Rattle.std.specs.Prelude.{ℕ, ◌^◌, Bool, true, false, ◌&&◌, ◌==◌, nat_lt, nat_le, List, [], ◌∷◌, length, Option, Some, None}
use Rattle.ir_core.specs.declared.types.Ty.{Ty}
use Rattle.ir_core.specs.declared.types.Ty.TheVariants.{Void, Int, Ptr}
use Rattle.ir_core.specs.declared.code.Operand.{Operand}
use Rattle.ir_core.specs.declared.code.Operand.TheVariants.{Value as Local, Num, Null, Place, Poison}
use Rattle.ir_meaning.specs.Operators.{width}

-- an integer of at most 64 bits, or a pointer
abbrev pub is_width : Ty → Bool
is_width Void = false
is_width (Int w) = nat_le 1 w && nat_le w 64
is_width Ptr = true

abbrev pub are_widths : List Ty → Bool
are_widths [] = true
are_widths (ty ∷ tys) = is_width ty && are_widths tys

-- what a call may give
abbrev pub is_given : Ty → Bool
is_given Void = true
is_given ty = is_width ty

-- an operand among n values: one of them, a number of 64 bits, an address or poison
abbrev pub is_operand : ℕ → Operand → Bool
is_operand n (Local number) = nat_lt number n
is_operand n (Num k) = nat_lt k (2 ^ 64)
is_operand n Null = true
is_operand n (Place global offset) = true
is_operand n Poison = true

abbrev pub are_arguments : ℕ → List (Ty × Operand) → Bool
are_arguments n [] = true
are_arguments n (argument ∷ arguments) = is_operand n argument.1 && are_arguments n arguments

abbrev pub is_answer : ℕ → Option Operand → Bool
is_answer n None = true
is_answer n (Some answer) = is_operand n answer

-- an integer of at most 64 bits
abbrev pub is_integer : Ty → Bool
is_integer (Int w) = nat_le 1 w && nat_le w 64
is_integer _ = false

-- an index among n values: one of them, a number of its width, or poison
abbrev pub is_index : ℕ → ℕ → Operand → Bool
is_index n w (Local number) = nat_lt number n
is_index n w (Num k) = nat_lt k (2 ^ w)
is_index n w Poison = true
is_index n w _ = false

abbrev pub is_index_at : ℕ → Ty × Operand → Bool
is_index_at n index = is_integer index.0 && is_index n (width index.0) index.1

abbrev pub are_indices : ℕ → List (Ty × Operand) → Bool
are_indices n [] = true
are_indices n (index ∷ indices) = is_index_at n index && are_indices n indices

-- a built-in that moves bytes, or one that gives a value of two arguments
abbrev pub is_built_in : Ty → Bool → List (Ty × Operand) → Bool
is_built_in gives true arguments = true
is_built_in gives false arguments = is_width gives && length arguments == 2
