-- What holds of the generic operations that stand for instructions.
use Rattle.std.specs.Prelude.{◌≡◌, ℕ, ◌≤◌}
use Rattle.ir_core.specs.declared.types.Ty.{Ty}
use Rattle.ir_core.specs.declared.code.Flags.{Flags}
use Rattle.ir_core.specs.declared.code.BinOp.{BinOp}
use Rattle.ir_core.specs.declared.code.Pred.{Pred}
use Rattle.ir_core.specs.declared.code.CastOp.{CastOp}
use Rattle.ir_meaning.specs.Value.{Value, Gives}
use Rattle.ir_meaning.specs.Operators.{width, binary, compare, cast, select}
use Rattle.ir_meaning.specs.Ranges.{FitsWidth}
use Rattle.ir_meaning.specs.Typed.{IsCast}
use Rattle.gmir.specs.declared.code.GOp.TheVariants as g
use Rattle.gmir.specs.Play.{value}
use Rattle.walks.specs.Walk.{Bits}
use Rattle.walks.specs.Refines.{RefinesBits}
use Rattle.walks.specs.Functions.{bits_of}
use Rattle.generic_code.specs.Code.{binary_op, predicate, cast_op}

-- registers that have the bits of a value of this width, which is in its range
abbrev pub Has : ℕ → Value → Bits → Type 0
Has w v a = FitsWidth w v × RefinesBits (bits_of w v) a

-- the value that an operator gives, its generic operation gives, whatever the flags
abbrev pub OperatorsAgree : Type 0
OperatorsAgree =
    (o : BinOp) (flags : Flags) (w : ℕ) (a b v : Value) (A B C : Bits) → 1 ≤ w → Has w a A → Has w b B → binary o flags w a b ≡ Gives v
    → RefinesBits (bits_of w v) (value (binary_op o) w w w 0 A B C)

abbrev pub ComparisonsAgree : Type 0
ComparisonsAgree =
    (pred : Pred) (flags : Flags) (w : ℕ) (a b : Value) (A B C : Bits) → Has w a A → Has w b B
    → RefinesBits (bits_of 1 (compare pred flags w a b)) (value g.Icmp 1 w w (predicate pred) A B C)

abbrev pub CastsAgree : Type 0
CastsAgree =
    (o : CastOp) (flags : Flags) (from to : Ty) (u : ℕ) (a : Value) (A B C : Bits) → IsCast o from to → Has (width from) a A
    → RefinesBits (bits_of (width to) (cast o flags (width from) (width to) a)) (value (cast_op o) (width to) (width from) u 0 A B C)

abbrev pub ChoicesAgree : Type 0
ChoicesAgree =
    (w v u : ℕ) (c a b : Value) (A B C : Bits) → Has 1 c A → RefinesBits (bits_of w a) B → RefinesBits (bits_of w b) C
    → RefinesBits (bits_of w (select c a b)) (value g.Select w v u 0 A B C)
