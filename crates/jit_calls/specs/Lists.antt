-- A list of calls, line by line.
use Rattle.std.specs.Prelude.{ℕ, ◌+◌, ◌-◌, Bool, false, ◌==◌, nat_le, List, [], ◌∷◌, ◌++◌, length, take, slice_get, Option, Some, None, Result, Ok, Err, if◌then◌else◌}
use Rattle.ir_core.specs.declared.program.Function.{Function}
use Rattle.ir_core.specs.declared.program.Global.{Global}
use Rattle.ir_core.specs.declared.program.Module.{Module}
use Rattle.ir_meaning.specs.declared.calls.ListedCall.{ListedCall}
use Rattle.jit_calls.specs.declared.line.LineFault.{LineFault}
use Rattle.jit_calls.specs.declared.line.LineFault.TheVariants as faults
use Rattle.jit_calls.specs.declared.lists.CallsRefusal.{CallsRefusal}
use Rattle.jit_calls.specs.declared.lists.CallsRefusal.TheVariants as refusals
use Rattle.jit_calls.specs.Line.{line_call, is_skipped}

abbrev pub is_return : Option ℕ → Bool
is_return None = false
is_return (Some byte) = byte == 13

-- a line without the carriage return at its end
abbrev pub without_return : List ℕ → List ℕ
without_return line = if is_return (slice_get line (length line - 1)) then take (length line - 1) line else line

-- the lines of a text that end by a line feed, each without its end, and what stands behind the last line feed; these bytes of the first line stand before the text
abbrev pub lines_behind : List ℕ → List ℕ → List (List ℕ) × List ℕ
lines_behind line [] = ([], line)
lines_behind line (byte ∷ text) =
    if byte == 10 then (without_return line ∷ (lines_behind [] text).0, (lines_behind [] text).1) else lines_behind (line ++ byte ∷ []) text

abbrev pub lines : List ℕ → List (List ℕ) × List ℕ
lines text = lines_behind [] text

-- how a fault of a line is shown
abbrev pub shown : ℕ → LineFault → CallsRefusal
shown n faults.Syntax = refusals.Syntax n
shown n faults.NoSuchFunction = refusals.NoSuchFunction n
shown n faults.Shape = refusals.Shape n
shown n faults.NoMemory = refusals.NoMemory

abbrev pub with_call : ℕ → List ListedCall → Result ListedCall LineFault → Result (List ListedCall) CallsRefusal
with_call n list (Ok call) = Ok (list ++ call ∷ [])
with_call n list (Err fault) = Err (shown n fault)

abbrev pub and_then : {A : Type 0} → Result (List ListedCall) CallsRefusal → (List ListedCall → Result A CallsRefusal) → Result A CallsRefusal
and_then (Ok list) k = k list
and_then (Err refusal) k = Err refusal

-- the calls of a text of at most so many bytes, and of at most so many calls
abbrev pub most_bytes : ℕ
most_bytes = 4194304

abbrev pub most_calls : ℕ
most_calls = 65536

-- at most so many calls
abbrev pub few : List ListedCall → Result (List ListedCall) CallsRefusal
few list = if nat_le (length list) most_calls then Ok list else Err (refusals.Limit (length list))

module _ (functions : List Function) (globals : List Global) where
  -- the calls up to the line of this number
  abbrev pub with_line : ℕ → List ListedCall → List ℕ → Result (List ListedCall) CallsRefusal
  with_line n list line = if is_skipped line then Ok list else with_call n list (line_call functions globals line)

  -- the calls up to and with these lines, the first of which has this number
  abbrev pub with_lines : ℕ → List ListedCall → List (List ℕ) → Result (List ListedCall) CallsRefusal
  with_lines n list [] = Ok list
  with_lines n list (line ∷ more) = and_then (with_line n list line) (λ after. with_lines (n + 1) after more)

  -- the calls of all lines, of which the last has no line feed
  abbrev pub all_lines : List (List ℕ) × List ℕ → Result (List ListedCall) CallsRefusal
  all_lines text = and_then (with_lines 1 [] text.0) (λ list. and_then (with_line (1 + length text.0) list text.1) few)

  -- a text that is too long is refused at the line that holds the byte behind its greatest length, where no earlier line is refused
  abbrev pub cut_lines : List (List ℕ) × List ℕ → Result (List ListedCall) CallsRefusal
  cut_lines text = and_then (with_lines 1 [] text.0) (λ list. Err (refusals.Syntax (1 + length text.0)))

-- the list of calls of a text, or why it is none of the module's
abbrev pub calls_of : Module → List ℕ → Result (List ListedCall) CallsRefusal
calls_of module_ text =
    if nat_le (length text) most_bytes then all_lines module_.functions module_.globals (lines text)
    else cut_lines module_.functions module_.globals (lines (take most_bytes text))
