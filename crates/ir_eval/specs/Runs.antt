-- A run in progress: what it comes to, and what it keeps.
use Rattle.std.specs.Prelude.{◌≡◌, ℕ, ◌+◌, ◌-◌, ◌^◌, ◌<◌, ◌≤◌, ◌==◌, List, [], ◌∷◌, length, count_by, slice_index, slice_get, Option, Some, None}
use Rattle.ir_meaning.specs.declared.activation.Activation.{Activation}
use Rattle.ir_meaning.specs.Value.{Value}
use Rattle.ir_meaning.specs.Memory.{Memory}
use Rattle.ir_meaning.specs.Step.{Program, Opens, TooDeep, NoFunction, entry, answered}
use Rattle.ir_meaning.specs.Eval.{Run, Ends, NoStack, NoUnits, NoMeaning, RunOn, run_on, run_answer, behind_entries}
use Rattle.ir_meaning.specs.Meaning.{meaning}
use Rattle.ir_meaning.specs.Ranges.{FitsResult, IsMemory}
use Rattle.ir_eval.specs.declared.ends.End.{End}
use Rattle.ir_eval.specs.declared.ends.End.TheVariants.{Answer, Stack, NotEnded, Undefined}
use Rattle.ir_eval.specs.declared.ends.Entered.{Entered}
use Rattle.ir_eval.specs.declared.ends.Entered.TheVariants.{Opens as Opened, Ends as Ended}
use Rattle.ir_eval.specs.Fits.{HasFitting}

-- an activation runs on with as many steps as units
abbrev pub running : Program → RunOn
running program left = run_on program left left

-- a run in progress: its activation, the callers with the outermost first, and how often each symbol was entered
pub record State : Type 0 where
  pub now : Activation
  pub callers : List Activation
  pub memory : Memory
  pub counts : List ℕ
  pub left : ℕ

-- what callers make of the run of what the innermost of them called
abbrev pub resume : Program → List Activation → Run → Run
resume program [] r = r
resume program (caller ∷ callers) r = run_answer program (running program) caller (resume program callers r)

-- what the whole run comes to from here
abbrev pub rest : Program → State → Run
rest program s = resume program s.callers (running program s.left s.now s.memory)

-- ---- entries

-- how often a symbol stands in a list
abbrev pub times : ℕ → List ℕ → ℕ
times n ns = count_by (λ m. m == n) ns

-- counts to which these entries were added
pub record Counted (added : List ℕ) (old new : List ℕ) : Type 0 where
  pub long : length new ≡ length old
  pub each : (k : ℕ) → k < length old → slice_index new k ≡ slice_index old k + times k added

-- the counts of each of so many symbols
pub record AreCounts (symbols : ℕ) (entered : List ℕ) (counts : List ℕ) : Type 0 where
  pub long : length counts ≡ symbols
  pub each : (k : ℕ) → k < symbols → slice_get counts k ≡ Some (times k entered)

-- ---- ends

-- a run ends so, with these entries
abbrev pub HasEnd : End → List ℕ → Run → Type 0
HasEnd (Answer value) entered r = (memory : Memory) × ((left : ℕ) × (r ≡ Ends value memory left entered))
HasEnd Stack entered r = r ≡ NoStack entered
HasEnd NotEnded entered r = r ≡ NoUnits entered
HasEnd Undefined entered r = r ≡ NoMeaning entered

-- what an entry leads to, which leaves so many units
abbrev pub Enters : Program → ℕ → List Value → Memory → ℕ → ℕ → Entered → ℕ → Type 0
Enters program symbol given memory sp left (Opened first) left' = (2 ≤ left) × (left' ≡ left - 2) × (entry program symbol given memory sp ≡ Opens first)
Enters program symbol given memory sp left (Ended (Answer value)) left' = ⊥
Enters program symbol given memory sp left (Ended Stack) left' = (2 ≤ left) × (entry program symbol given memory sp ≡ TooDeep)
Enters program symbol given memory sp left (Ended NotEnded) left' = left < 2
Enters program symbol given memory sp left (Ended Undefined) left' = (2 ≤ left) × (entry program symbol given memory sp ≡ NoFunction)

-- ---- what a run keeps

-- a caller fits on behind the answer of this symbol
abbrev pub Waiting : Program → Activation → ℕ → Type 0
Waiting program caller symbol = (value : Value) → FitsResult ((meaning program).result symbol) value → HasFitting program (answered program caller value)

-- the symbol that the outermost of these callers is an entry of; this one where there is none
abbrev pub first_symbol : List Activation → ℕ → ℕ
first_symbol [] symbol = symbol
first_symbol (caller ∷ callers) symbol = caller.symbol

-- each caller waits for the next, and the last for this symbol
abbrev pub Chain : Program → List Activation → ℕ → Type 0
Chain program [] symbol = Unit {0}
Chain program (caller ∷ callers) symbol = Waiting program caller (first_symbol callers symbol) × Chain program callers symbol

pub record IsReady (program : Program) (s : State) : Type 0 where
  pub fitting : HasFitting program s.now
  pub chain : Chain program s.callers s.now.symbol
  pub bytes : IsMemory s.memory
  pub room : length s.memory ≤ program.room
  pub few : (k : ℕ) → slice_index s.counts k + s.left ≤ 2 ^ 32

-- ---- one turn of the run

-- the run goes on, with these entries more
pub record Led (program : Program) (old new : State) (added : List ℕ) : Type 0 where
  pub same : rest program old ≡ behind_entries added (rest program new)
  pub counts : Counted added old.counts new.counts
  pub fewer : new.left < old.left
  pub ready : IsReady program new

-- the run ends, with these entries more
pub record EndsWith (program : Program) (old : State) (end : End) (counts : List ℕ) (added : List ℕ) : Type 0 where
  pub end' : HasEnd end added (rest program old)
  pub counts' : Counted added old.counts counts

-- what a turn leads to
abbrev pub Leads : Program → State → Option End → State → Type 0
Leads program old None new = (added : List ℕ) × Led program old new added
Leads program old (Some end) new = (added : List ℕ) × EndsWith program old end new.counts added

-- a run that came from its first state to this one, with these entries
pub record Going (program : Program) (first now : State) (added : List ℕ) : Type 0 where
  pub same : rest program first ≡ behind_entries added (rest program now)
  pub counts : Counted added first.counts now.counts
  pub ready : IsReady program now
