-- One line of a list of calls.
use Rattle.std.specs.Prelude.{◌≡◌, ℕ, ◌+◌, ◌^◌, ◌<◌, ◌≤◌, Bool, true, false, ◌==◌, ◌&&◌, List, [], ◌∷◌, ◌++◌, length, slice_get, Option, Some, None, Result, Ok, Err, codes, if◌then◌else◌, nat_lt, nat_le}
use Rattle.std.specs.Option.{option_map}
use Rattle.ir_core.specs.declared.types.Ty.{Ty}
use Rattle.ir_core.specs.declared.types.TheConstants.{MAX_WIDTH}
use Rattle.ir_core.specs.declared.types.Ty.TheVariants.{Void, Int, Ptr}
use Rattle.ir_core.specs.declared.program.Function.{Function}
use Rattle.ir_core.specs.declared.program.Global.{Global}
use Rattle.ir_meaning.specs.Image.{address_of}
use Rattle.ir_meaning.specs.Operators.{width}
use Rattle.ir_meaning.specs.declared.calls.ListedCall.{ListedCall}
use Rattle.ir_types.specs.Numbers.{decimal}
use Rattle.jit_calls.specs.declared.line.Written.{Written}
use Rattle.jit_calls.specs.declared.line.LineFault.{LineFault}
use Rattle.jit_calls.specs.declared.line.LineFault.TheVariants as faults
use Rattle.jit_calls.specs.Form.{Form, ◌>>=◌, yield, chosen, by_next, begins, by_length, literal, Next, more, stop, repeat, whole}
use Rattle.jit_calls.specs.Names.{name, function_named, global_named}
use Rattle.jit_calls.specs.Numbers.{some_digits, number_between, number, width_of, if_bit}

-- an argument as it is written: its type, and its value where it is one of the type
abbrev pub Argument : Type 0
Argument = Ty × Option ℕ

-- the value of an integer of a width: a number, or `true` and `false` of one bit
unfoldable pub integer_value : ℕ → Form (Option ℕ)
integer_value width =
    by_next (begins (codes "true"))
    (do
      _ ← literal (codes "true")
      chosen (if_bit width 1))
    (by_next (begins (codes "false"))
    (do
      _ ← literal (codes "false")
      chosen (if_bit width 0))
    (number width))

-- `iN VALUE`
unfoldable pub integer : Form Argument
integer = do
  _ ← literal (codes "i")
  digits ← some_digits
  _ ← literal (codes " ")
  value ← integer_value (width_of (decimal digits))
  yield (Int (width_of (decimal digits)), value)

-- the address of the first global that has the name
abbrev pub named_address : List Global → List ℕ → Option ℕ
named_address globals name = option_map (address_of globals) (global_named globals name)

-- `ptr null` or `ptr @GLOBAL`
unfoldable pub pointer : List Global → Form Argument
pointer globals = do
  _ ← literal (codes "ptr ")
  by_next (begins (codes "null"))
      (do
        _ ← literal (codes "null")
        yield (Ptr, Some 0))
      (do
        word ← name
        yield (Ptr, named_address globals word))

abbrev pub argument : List Global → Form Argument
argument globals = by_next (begins (codes "ptr ")) (pointer globals) integer

-- `, ` behind other items, and nothing before the first
abbrev pub separator : {A : Type 0} → List A → Form (Unit {0})
separator [] = yield tt
separator (item ∷ items) = literal (codes ", ")

-- another argument, or `)`
unfoldable pub next_argument : List Global → List Argument → Form (Next Argument (Unit {0}))
next_argument globals arguments =
    by_next (begins (codes ")"))
    (literal (codes ")") >>= λ _. yield (stop tt))
    (do
      _ ← separator arguments
      one ← argument globals
      yield (more one))

abbrev pub with_argument : List Argument → Argument → List Argument
with_argument arguments one = arguments ++ one ∷ []

-- the arguments, up to `)`; each takes a byte at least, and so does that
unfoldable pub arguments : List Global → Form (List Argument)
arguments globals = do
  all ← by_length (λ size. repeat (next_argument globals) with_argument size [])
  yield all.0

-- ` turns N` with N from 1 to 2^32, or 1,000,000
unfoldable pub turns : Form ℕ
turns =
    by_next (begins (codes " turns "))
    (literal (codes " turns ") >>= λ _. number_between 1 (2 ^ 32))
    (yield 1000000)

-- `@NAME(ARGS)`, and how many turns it has at most
unfoldable pub call : List Global → Form Written
call globals = do
  word ← name
  _ ← literal (codes "(")
  args ← arguments globals
  spent ← turns
  yield (record { name = word; args = args; turns = spent })

-- ---- what a written call stands for

abbrev pub is_same : Ty → Ty → Bool
is_same Void Void = true
is_same Void (Int w) = false
is_same Void Ptr = false
is_same (Int w) Void = false
is_same (Int w) (Int v) = w == v
is_same (Int w) Ptr = false
is_same Ptr Void = false
is_same Ptr (Int w) = false
is_same Ptr Ptr = true

-- a value that is one of a width, which isn't above the greatest
abbrev pub of_width : ℕ → Option ℕ → Option ℕ
of_width w None = None
of_width w (Some value) = if nat_le w MAX_WIDTH && nat_lt value (2 ^ w) then Some value else None

-- the value of an argument that is one of the type
abbrev pub value_of_type : Ty → Argument → Option ℕ
value_of_type ty one = if is_same ty one.0 then of_width (width ty) one.1 else None

-- a value before others, where all are there
abbrev pub before : Option ℕ → Option (List ℕ) → Option (List ℕ)
before (Some value) (Some values) = Some (value ∷ values)
before (Some value) None = None
before None values = None

-- the values of arguments that are as many as the parameters, each of its type
abbrev pub values_of : List Ty → List Argument → Option (List ℕ)
values_of [] [] = Some []
values_of [] (one ∷ args) = None
values_of (ty ∷ tys) [] = None
values_of (ty ∷ tys) (one ∷ args) = before (value_of_type ty one) (values_of tys args)

-- values before others, where those are there
abbrev pub onto : List ℕ → Option (List ℕ) → Option (List ℕ)
onto values None = None
onto values (Some behind) = Some (values ++ behind)

abbrev pub parameters : Option Function → List Ty
parameters None = []
parameters (Some function) = function.params

abbrev pub by_values : ℕ → ℕ → Option (List ℕ) → Result ListedCall LineFault
by_values symbol spent None = Err faults.Shape
by_values symbol spent (Some args) = Ok (record { symbol = symbol; args = args; turns = spent })

abbrev pub by_symbol : List Function → Written → Option ℕ → Result ListedCall LineFault
by_symbol functions written None = Err faults.NoSuchFunction
by_symbol functions written (Some symbol) = by_values symbol written.turns (values_of (parameters (slice_get functions symbol)) written.args)

-- the call that is written: of the first function that has the name, with arguments of its parameters' types
abbrev pub resolved : List Function → Written → Result ListedCall LineFault
resolved functions written = by_symbol functions written (function_named functions written.name)

abbrev pub by_form : List Function → Option Written → Result ListedCall LineFault
by_form functions None = Err faults.Syntax
by_form functions (Some written) = resolved functions written

-- the call of a line
abbrev pub line_call : List Function → List Global → List ℕ → Result ListedCall LineFault
line_call functions globals line = by_form functions (whole (call globals) line)

-- an empty line, or one that begins with `;`
abbrev pub is_skipped : List ℕ → Bool
is_skipped [] = true
is_skipped (byte ∷ line) = byte == 59
