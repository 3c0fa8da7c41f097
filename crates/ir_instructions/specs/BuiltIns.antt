-- The built-ins, by their names and what stands behind them.
use Rattle.std.specs.Prelude.{ℕ, Bool, true, false, not, ◌&&◌, ◌-◌, nat_eq, nat_le, nat_lt, List, [], ◌∷◌, length, take, drop, codes, Option, Some, None, Result, Ok, Err, slice_get, if◌then◌else◌}
use Rattle.std.specs.List.{list_all}
use Rattle.std.specs.Str.{bytes_eq}
use Rattle.std.specs.Char.{is_ascii_digit}
use Rattle.ir_value_trees.specs.declared.value_tree.Value.{Value}
use Rattle.ir_value_trees.specs.declared.value_tree.Value.TheVariants as written
use Rattle.ir_value_trees.specs.declared.value_tree.Typed.{Typed}
use Rattle.ir_core.specs.declared.types.TheConstants.{MAX_WIDTH}
use Rattle.ir_core.specs.declared.types.Ty.{Ty}
use Rattle.ir_core.specs.declared.types.Ty.TheVariants as values
use Rattle.ir_core.specs.declared.code.BuiltIn.{BuiltIn}
use Rattle.ir_core.specs.declared.code.BuiltIn.TheVariants as built
use Rattle.ir_core.specs.declared.code.Operand.{Operand}
use Rattle.ir_types.specs.declared.fault.Fault.{Fault}
use Rattle.ir_types.specs.declared.fault.Fault.TheVariants as faults
use Rattle.ir_types.specs.Numbers.{natural}
use Rattle.ir_resolve.specs.Operands.{is_ty}
use Rattle.ir_instructions.specs.declared.built_ins.NamedBuiltIn.{NamedBuiltIn}

-- decimal digits of which the first isn't 0
abbrev pub are_plain_digits : List ℕ → Bool
are_plain_digits [] = false
are_plain_digits (digit ∷ digits) = not (nat_eq digit 48) && list_all is_ascii_digit (digit ∷ digits)

-- a width that decimal digits say
abbrev pub small_width : Option ℕ → Option ℕ
small_width None = None
small_width (Some w) = if nat_le 1 w && nat_le w MAX_WIDTH then Some w else None

unfoldable pub width_of_digits : List ℕ → Option ℕ
width_of_digits digits = if are_plain_digits digits then small_width (natural digits) else None

-- the width that stands behind the front of a name
unfoldable pub width_behind : List ℕ → List ℕ → Option ℕ
width_behind front name =
    if nat_lt (length name) (length front) then None
    else if bytes_eq (take (length front) name) front then width_of_digits (drop (length front) name)
    else None

abbrev pub with_width : BuiltIn → Option ℕ → Option NamedBuiltIn
with_width which None = None
with_width which (Some w) = Some (record { which = which; width = w })

abbrev pub or_named : Option NamedBuiltIn → Option NamedBuiltIn → Option NamedBuiltIn
or_named None other = other
or_named (Some named) other = Some named

abbrev pub built_in : BuiltIn → ℕ → Option NamedBuiltIn
built_in which w = Some (record { which = which; width = w })

-- the built-ins of memory, whose lengths are i32 or i64
unfoldable pub memory_named : List ℕ → Option NamedBuiltIn
memory_named name =
    if bytes_eq name (codes "llvm.memcpy.p0.p0.i32") then built_in built.MemCpy 32
    else if bytes_eq name (codes "llvm.memcpy.p0.p0.i64") then built_in built.MemCpy 64
    else if bytes_eq name (codes "llvm.memmove.p0.p0.i32") then built_in built.MemMove 32
    else if bytes_eq name (codes "llvm.memmove.p0.p0.i64") then built_in built.MemMove 64
    else if bytes_eq name (codes "llvm.memset.p0.i32") then built_in built.MemSet 32
    else if bytes_eq name (codes "llvm.memset.p0.i64") then built_in built.MemSet 64
    else None

-- the built-ins over integers of any width
unfoldable pub integer_named : List ℕ → Option NamedBuiltIn
integer_named name =
    or_named (with_width built.SMax (width_behind (codes "llvm.smax.i") name))
    (or_named (with_width built.SMin (width_behind (codes "llvm.smin.i") name))
    (or_named (with_width built.UMax (width_behind (codes "llvm.umax.i") name))
    (or_named (with_width built.UMin (width_behind (codes "llvm.umin.i") name))
    (with_width built.Abs (width_behind (codes "llvm.abs.i") name)))))

-- the built-in that a name is that of
unfoldable pub built_in_of : List ℕ → Option NamedBuiltIn
built_in_of name = or_named (memory_named name) (integer_named name)

abbrev pub is_of_memory : BuiltIn → Bool
is_of_memory built.MemCpy = true
is_of_memory built.MemMove = true
is_of_memory built.MemSet = true
is_of_memory built.SMax = false
is_of_memory built.SMin = false
is_of_memory built.UMax = false
is_of_memory built.UMin = false
is_of_memory built.Abs = false

-- which argument has the width in the name: the length, or the first operand
abbrev pub measured : BuiltIn → ℕ
measured which = if is_of_memory which then 2 else 0

-- an argument whose type isn't that of the width; where there is none, the number of arguments is another rule's matter
abbrev pub has_width : ℕ → Option (Ty × Operand) → Bool
has_width w None = true
has_width w (Some argument) = is_ty argument.0 (values.Int w)

-- the last argument of a built-in of memory is written `false`; `true` is left out
abbrev pub quiet_value : Value → Result (Unit {0}) Fault
quiet_value (written.False left) = Ok tt
quiet_value (written.True left) = Err (faults.LeftOut left)
quiet_value (written.Local name) = Err (faults.Syntax name.left)
quiet_value (written.Number number) = Err (faults.Syntax number.left)
quiet_value (written.Null left) = Err (faults.Syntax left)
quiet_value (written.Poison left) = Err (faults.Syntax left)
quiet_value (written.Address address) = Err (faults.Syntax address.left)

abbrev pub quiet_argument : ℕ → Option Typed → Result (Unit {0}) Fault
quiet_argument at None = Err (faults.Syntax at)
quiet_argument at (Some given) = quiet_value given.value

-- a built-in of memory moves its bytes plainly
abbrev pub quiet : ℕ → BuiltIn → List Typed → Result (Unit {0}) Fault
quiet at which given = if is_of_memory which then quiet_argument at (slice_get given (length given - 1)) else Ok tt

-- the width in the name is that of the operands; a name of another width isn't defined for them
abbrev pub fitting : ℕ → NamedBuiltIn → List (Ty × Operand) → Result (Unit {0}) Fault
fitting at named all = if has_width named.width (slice_get all (measured named.which)) then Ok tt else Err (faults.Name at)
