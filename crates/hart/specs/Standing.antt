-- What a hart's fields mean: the machine that it is, how its call goes on from there, and the two lists that it stands for since
-- its start.
use Rattle.std.specs.Prelude.{◌≡◌, ℕ, ◌+◌, ◌-◌, ◌*◌, ◌/◌, ◌%◌, ◌<◌, ◌≤◌, ◌==◌, ◌&&◌, nat_lt, nat_le, if◌then◌else◌, List, [], ◌∷◌, ◌++◌, length, slice_get, Option, Some, None}
use Rattle.rv_core.specs.declared.reg.Reg.{Reg}
use Rattle.rv_core.specs.declared.step.Stepped.{Stepped}
use Rattle.rv_core.specs.Step.{view, write}
use Rattle.ir_meaning.specs.declared.calls.Ended.{Ended}
use Rattle.ir_meaning.specs.declared.calls.Ended.TheVariants as ended
use Rattle.ir_meaning.specs.Plays.{Meaning}
use Rattle.rv_play.specs.Machine.{Machine, Act, serve, exit_address, stub_base, stub_of, code_base, data_base, control_base}
use Rattle.rv_play.specs.Machine as act
use Rattle.rv_play.specs.Ending.{Item, Held, Saw, Run, Next, Goes, Ends, Misfit, cell_load, seen, goes_to, run, in_code}
use Rattle.hart.specs.declared.hart.Hart.{Hart}
use Rattle.hart.specs.declared.hart.Wanted.{Wanted}
use Rattle.hart.specs.declared.hart.Wanted.TheVariants as wanted
use Rattle.hart.specs.declared.hart.Given.{Given}
use Rattle.hart.specs.declared.hart.Given.TheVariants as given
use Rattle.hart.specs.declared.hart.Phase.{Phase}
use Rattle.hart.specs.declared.hart.Phase.TheVariants as phase
use Rattle.hart.specs.declared.hart.Did.{Did}
use Rattle.hart.specs.declared.hart.Did.TheVariants as did
use Rattle.hart.specs.declared.map.At.{At}
use Rattle.hart.specs.declared.map.At.TheVariants.{Exit, Spent, Stub, Code, Nowhere}
use Rattle.hart.specs.Places.{bytes_from}

-- the hart knows the meaning's functions, their results and the size of data memory
pub record IsFor (m : Meaning) (h : Hart) : Type 0 where
  pub functions : m.functions ≡ h.functions
  pub room : m.room ≡ length h.bytes.items
  pub results : (symbol : ℕ) → symbol < m.functions → slice_get h.widths.items symbol ≡ Some (m.result symbol)

abbrev pub machine_of : Hart → Machine
machine_of h = record {
  regs = view h.regs;
  bytes = bytes_from data_base h.bytes.items;
  control = bytes_from control_base h.control.items;
}

abbrev pub run_of : Hart → List ℕ → List Item → Run
run_of h counted pass = record { machine = machine_of h; pass = pass; counted = counted }

-- the register gets the base that the pass holds of the symbol's cell, if that is what comes next
abbrev pub cell_given : Machine → List ℕ → Reg → ℕ → List Item → Next
cell_given s counted rd symbol (Held symbol' base ∷ pass) =
    if symbol == symbol' then Goes (record { machine = record s { regs = write s.regs rd base }; pass = pass; counted = counted }) else Misfit
cell_given s counted rd symbol _ = Misfit

-- what an instruction has led to
abbrev pub next_of : Hart → List ℕ → List Item → Did → Next
next_of h counted pass did.On = Goes (run_of h counted pass)
next_of h counted pass (did.Cell rd symbol) = cell_given (machine_of h) counted rd symbol pass
next_of h counted pass (did.Count symbol) = Goes (run_of h (counted ++ symbol ∷ []) pass)
next_of h counted pass did.Overflow = Ends ended.Stack (run_of h counted pass)
next_of h counted pass did.Fault = Ends (ended.Fault h.regs.pc) (run_of h counted pass)

-- how what an instruction asks was served
abbrev pub Serves : Meaning → Machine → Stepped → Machine → Did → Type 0
Serves m s q s' did.On = (cell_load m q ≡ None) × (serve m s q ≡ act.On s')
Serves m s q s' (did.Cell rd symbol) = (cell_load m q ≡ Some (rd, symbol)) × (s' ≡ s)
Serves m s q s' (did.Count symbol) = (cell_load m q ≡ None) × (serve m s q ≡ act.Counts symbol s')
Serves m s q s' did.Overflow = (cell_load m q ≡ None) × (serve m s q ≡ act.Overflow s')
Serves m s q s' did.Fault = (cell_load m q ≡ None) × (serve m s q ≡ act.Fails) × (s' ≡ s)

-- the call's run from a state on, by the hart's own numbers
abbrev pub goes_on : Meaning → Hart → Run → Option (Ended × Run)
goes_on m h r = run m h.code_words h.width h.fuel h.left r

-- how the call goes on over the rest of its pass, from where the hart stands
abbrev pub rest_of : Meaning → Hart → Phase → List ℕ → List Item → Option (Ended × Run)
rest_of m h phase.Idle counted pass = None
rest_of m h phase.Start counted pass = goes_on m h (run_of h counted pass)
rest_of m h phase.Begin counted pass = goes_on m h (run_of h counted pass)
rest_of m h phase.Fetch counted pass = goes_to (goes_on m h) (seen m (run_of h counted pass) pass)
rest_of m h (phase.Cell rd symbol) counted pass = goes_to (goes_on m h) (cell_given (machine_of h) counted rd symbol pass)
rest_of m h (phase.Count symbol) counted pass = goes_on m h (run_of h counted pass)
rest_of m h (phase.End e) counted pass = Some (e, run_of h counted pass)
rest_of m h (phase.Done e) counted pass = Some (e, run_of h counted pass)

-- the symbols counted once the hart has asked for this
abbrev pub with_counted : Phase → List ℕ → List ℕ
with_counted (phase.Count symbol) counted = counted ++ symbol ∷ []
with_counted _ counted = counted

-- what the hart wants where it stands
abbrev pub wanted_by : Hart → Phase → Wanted → Type 0
wanted_by h phase.Idle w = ⊥
wanted_by h phase.Start w = ⊥
wanted_by h phase.Begin w = w ≡ wanted.Begin
wanted_by h phase.Fetch w = w ≡ wanted.Fetch h.regs.pc
wanted_by h (phase.Cell rd symbol) w = w ≡ wanted.Cell symbol
wanted_by h (phase.Count symbol) w = w ≡ wanted.Count symbol
wanted_by h (phase.End e) w = w ≡ wanted.End
wanted_by h (phase.Done e) w = w ≡ wanted.Done e

-- all but the machine and what it has left is as before, and data memory as long
pub record IsSameCall (h h' : Hart) : Type 0 where
  pub room : length h'.bytes.items ≡ length h.bytes.items
  pub widths : h'.widths ≡ h.widths
  pub functions : h'.functions ≡ h.functions
  pub code_words : h'.code_words ≡ h.code_words
  pub width : h'.width ≡ h.width
  pub fuel : h'.fuel ≡ h.fuel

-- only symbols of the module are read and counted
abbrev pub IsAllowed : Hart → Did → Type 0
IsAllowed h (did.Cell rd symbol) = symbol < h.functions
IsAllowed h (did.Count symbol) = symbol < h.functions
IsAllowed h _ = Unit {0}

-- the address of one of so many code words
abbrev pub IsCodeAddress : ℕ → ℕ → Type 0
IsCodeAddress code_words a = (code_base ≤ a) × (a < code_base + 4 * code_words) × (a % 4 ≡ 0)

-- a wish between the first and the last: a cell or a count of a symbol of the module, a fetch of a code word, or the end
abbrev pub IsAsked : Hart → Wanted → Type 0
IsAsked h wanted.Begin = ⊥
IsAsked h (wanted.Cell symbol) = symbol < h.functions
IsAsked h (wanted.Fetch a) = IsCodeAddress h.code_words a
IsAsked h (wanted.Count symbol) = symbol < h.functions
IsAsked h wanted.End = Unit {0}
IsAsked h (wanted.Done e) = ⊥

-- more than the turns that the hart will still take
abbrev pub turns_left : Hart → Phase → ℕ
turns_left h phase.Idle = 0
turns_left h phase.Start = 2 * h.left + 3
turns_left h phase.Begin = 2 * h.left + 2
turns_left h phase.Fetch = 2 * h.left + 3
turns_left h (phase.Cell rd symbol) = 2 * h.left + 2
turns_left h (phase.Count symbol) = 2 * h.left + 2
turns_left h (phase.End e) = 1
turns_left h (phase.Done e) = 0

-- where an instruction stands, or why none is run any more
abbrev pub at_of : Hart → At
at_of h =
    if h.regs.pc == exit_address then Exit
    else if h.left == 0 then Spent
    else if (nat_le stub_base h.regs.pc) && ((nat_lt h.regs.pc (stub_of h.functions)) && (h.regs.pc % 4 == 0)) then Stub ((h.regs.pc - stub_base) / 16) ((h.regs.pc - stub_base) % 16 / 4)
    else if in_code h.code_words h.regs.pc then Code
    else Nowhere

-- an instruction of a stub has been run, and the call goes on at the next
pub record Continues (h h' : Hart) : Type 0 where
  pub goes : (m : Meaning) → IsFor m h → (counted : List ℕ) (pass : List Item) → goes_on m h (run_of h counted pass) ≡ goes_on m h' (run_of h' counted pass)
  pub same : IsSameCall h h'
  pub fewer : h'.left < h.left

-- the call has gone on to where the hart wants something
pub record Waits (h h' : Hart) (w : Wanted) : Type 0 where
  pub goes : (m : Meaning) → IsFor m h → (counted : List ℕ) (pass : List Item) →
      goes_on m h (run_of h counted pass) ≡ rest_of m h' h'.phase (with_counted h'.phase counted) pass
  pub wanted : wanted_by h' h'.phase w
  pub asked : IsAsked h' w
  pub same : IsSameCall h h'
  pub fewer : turns_left h' h'.phase < 2 * h.left + 2

-- what was given has led to where the hart wants something
pub record Turns (h h' : Hart) (items : List Item) (w : Wanted) : Type 0 where
  pub goes : (m : Meaning) → IsFor m h → (counted : List ℕ) (pass : List Item) →
      rest_of m h h.phase counted (items ++ pass) ≡ rest_of m h' h'.phase (with_counted h'.phase counted) pass
  pub wanted : wanted_by h' h'.phase w
  pub asked : IsAsked h' w
  pub same : IsSameCall h h'
  pub fewer : turns_left h' h'.phase < turns_left h h.phase

-- the call has gone on to where the hart wants something, and what was given has led there
abbrev pub HasGone : Hart → Hart → Type 0
HasGone h h' = (w : Wanted) × Waits h h' w

abbrev pub HasTurned : Hart → Hart → List Item → Type 0
HasTurned h h' items = (w : Wanted) × Turns h h' items w

-- the hart wants something
abbrev pub WantsSome : Hart → Type 0
WantsSome h = (w : Wanted) × wanted_by h h.phase w

-- what is given is what was wanted last
abbrev pub IsGiven : Phase → Given → Type 0
IsGiven phase.Idle g = ⊥
IsGiven phase.Start g = g ≡ given.Nothing
IsGiven phase.Begin g = g ≡ given.Nothing
IsGiven phase.Fetch g = (word : ℕ) × (g ≡ given.Word word)
IsGiven (phase.Cell rd symbol) g = (base : ℕ) × (g ≡ given.Cell base)
IsGiven (phase.Count symbol) g = g ≡ given.Nothing
IsGiven (phase.End e) g = g ≡ given.Nothing
IsGiven (phase.Done e) g = ⊥

-- what the pass has more by what is given
abbrev pub item_of : Hart → Phase → Given → List Item
item_of h phase.Fetch (given.Word word) = Saw h.regs.pc word ∷ []
item_of h (phase.Cell rd symbol) (given.Cell base) = Held symbol base ∷ []
item_of h _ _ = []

-- what is wanted next: the first is to begin the call, and the last is its end
abbrev pub IsNext : Phase → Hart → Wanted → Type 0
IsNext phase.Start h w = w ≡ wanted.Begin
IsNext (phase.End e) h w = w ≡ wanted.Done e
IsNext _ h w = IsAsked h w

-- what was given has led to what is wanted next
pub record Turned (h h' : Hart) (g : Given) (w : Wanted) : Type 0 where
  pub goes : (m : Meaning) → IsFor m h → (counted : List ℕ) (pass : List Item) →
      rest_of m h h.phase counted (item_of h h.phase g ++ pass) ≡ rest_of m h' h'.phase (with_counted h'.phase counted) pass
  pub wanted : wanted_by h' h'.phase w
  pub next : IsNext h.phase h' w
  pub same : IsSameCall h h'
  pub fewer : turns_left h' h'.phase < turns_left h h.phase
