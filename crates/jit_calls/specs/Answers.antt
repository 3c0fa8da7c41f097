-- The lines of answers.
use Rattle.std.specs.Prelude.{ℕ, zero, suc, ◌+◌, ◌*◌, ◌/◌, ◌%◌, ◌^◌, Bool, true, false, ◌||◌, nat_lt, nat_le, List, [], ◌∷◌, ◌++◌, slice_get, Option, Some, None, codes, decimal, if◌then◌else◌}
use Rattle.ir_core.specs.declared.types.Ty.{Ty}
use Rattle.ir_core.specs.declared.types.TheConstants.{MAX_WIDTH}
use Rattle.ir_core.specs.declared.types.Ty.TheVariants.{Void, Int, Ptr}
use Rattle.ir_core.specs.declared.program.Function.{Function}
use Rattle.ir_meaning.specs.declared.calls.ListedCall.{ListedCall}
use Rattle.ir_meaning.specs.declared.calls.Ended.{Ended}
use Rattle.ir_meaning.specs.declared.calls.Ended.TheVariants as ends
use Rattle.ir_meaning.specs.declared.calls.Outcome.{Outcome}
use Rattle.ir_meaning.specs.declared.calls.Outcome.TheVariants as outcomes
use Rattle.ir_print_names.specs.Names.{name_text}
use Rattle.ir_print_names.specs.Numbers.{number_text}

-- a lower-case hexadecimal digit
abbrev pub hexadecimal_digit : ℕ → ℕ
hexadecimal_digit n = if nat_lt n 10 then 48 + n else 87 + n

-- so many hexadecimal digits of a number, the lowest last
unfoldable pub hexadecimal : ℕ → ℕ → List ℕ
hexadecimal zero n = []
hexadecimal (suc more) n = hexadecimal_digit (n / 2 ^ (4 * more) % 16) ∷ hexadecimal more n

-- a number cut to its width, which isn't above the greatest
abbrev pub cut : ℕ → ℕ → ℕ
cut width value = if nat_le width MAX_WIDTH then value % 2 ^ width else value

-- A value of a type, cut to its width: `true` or `false` of one bit, another integer as its signed decimal number, a pointer
-- as `0x` and sixteen digits; where the type is void, `void`
abbrev pub value_text : Ty → ℕ → List ℕ
value_text Void value = codes "void"
value_text (Int width) value = number_text width (cut width value)
value_text Ptr value = codes "0x" ++ hexadecimal 16 value

abbrev pub more_values : List Ty → List ℕ → List ℕ
more_values (ty ∷ tys) (value ∷ values) = codes ", " ++ value_text ty value ++ more_values tys values
more_values [] values = []
more_values (ty ∷ tys) [] = []

-- values of these types, separated by `, `
abbrev pub values_text : List Ty → List ℕ → List ℕ
values_text (ty ∷ tys) (value ∷ values) = value_text ty value ++ more_values tys values
values_text [] values = []
values_text (ty ∷ tys) [] = []

abbrev pub name_in : Option Function → List ℕ
name_in None = []
name_in (Some function) = name_text function.name

abbrev pub parameters_in : Option Function → List Ty
parameters_in None = []
parameters_in (Some function) = function.params

abbrev pub result_in : Option Function → Ty
result_in None = Void
result_in (Some function) = function.ret

-- how a run on a hart ended
abbrev pub ended_text : Ty → Ended → List ℕ
ended_text ty (ends.Value value) = value_text ty value
ended_text ty ends.Void = codes "void"
ended_text ty ends.Stack = codes "stack"
ended_text ty (ends.Fuel spent) = codes "fuel " ++ decimal spent
ended_text ty (ends.Fault pc) = codes "fault"

-- how an evaluation ended
abbrev pub outcome_text : Ty → Outcome → List ℕ
outcome_text ty (outcomes.Value value) = value_text ty value
outcome_text ty outcomes.Void = codes "void"
outcome_text ty outcomes.Stack = codes "stack"
outcome_text ty outcomes.NotEnded = codes "not ended"
outcome_text ty outcomes.Undefined = codes "undefined"

-- `@NAME(ARGS) = ` of a call of this function
abbrev pub call_text : Option Function → ListedCall → List ℕ
call_text function call = codes "@" ++ name_in function ++ codes "(" ++ values_text (parameters_in function) call.args ++ codes ") = "

abbrev pub answer_line : List Function → ListedCall → Ended → List ℕ
answer_line functions call end =
    call_text (slice_get functions call.symbol) call ++ ended_text (result_in (slice_get functions call.symbol)) end ++ codes "\n"

abbrev pub outcome_line : List Function → ListedCall → Outcome → List ℕ
outcome_line functions call outcome =
    call_text (slice_get functions call.symbol) call ++ outcome_text (result_in (slice_get functions call.symbol)) outcome ++ codes "\n"

-- one line per call, in order
abbrev pub answer_lines : List Function → List ListedCall → List Ended → List ℕ
answer_lines functions (call ∷ calls) (end ∷ ends) = answer_line functions call end ++ answer_lines functions calls ends
answer_lines functions [] ends = []
answer_lines functions (call ∷ calls) [] = []

abbrev pub outcome_lines : List Function → List ListedCall → List Outcome → List ℕ
outcome_lines functions (call ∷ calls) (outcome ∷ outcomes) = outcome_line functions call outcome ++ outcome_lines functions calls outcomes
outcome_lines functions [] outcomes = []
outcome_lines functions (call ∷ calls) [] = []

-- the call didn't answer a value, or that it has none
abbrev pub is_unanswered : Ended → Bool
is_unanswered (ends.Value value) = false
is_unanswered ends.Void = false
is_unanswered ends.Stack = true
is_unanswered (ends.Fuel spent) = true
is_unanswered (ends.Fault pc) = true

abbrev pub any_unanswered : List Ended → Bool
any_unanswered [] = false
any_unanswered (end ∷ ends) = is_unanswered end || any_unanswered ends

abbrev pub is_no_answer : Outcome → Bool
is_no_answer (outcomes.Value value) = false
is_no_answer outcomes.Void = false
is_no_answer outcomes.Stack = true
is_no_answer outcomes.NotEnded = true
is_no_answer outcomes.Undefined = true

abbrev pub any_no_answer : List Outcome → Bool
any_no_answer [] = false
any_no_answer (outcome ∷ outcomes) = is_no_answer outcome || any_no_answer outcomes
