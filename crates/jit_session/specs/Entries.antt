-- The calls of one hart, and what their evaluations enter.
use Rattle.std.specs.Prelude.{◌≡◌, ℕ, zero, suc, ◌+◌, ◌-◌, ◌<◌, ◌≤◌, List, [], ◌∷◌, sum_by}
use Rattle.ir_core.specs.Program.{Program}
use Rattle.ir_meaning.specs.Eval.{eval_call}
use Rattle.ir_meaning.specs.declared.calls.ListedCall.{ListedCall}
use Rattle.rv_play.specs.ListedCalls.{IsResult}
use Rattle.entry_counts.specs.Tally.{times}
use Rattle.entry_counts.specs.declared.seat.CountSeat.{CountSeat}

-- the calls of one of so many harts, in order: so many are passed over, the next is its own, and so is each that comes as many harts later
abbrev pub calls_of : List ListedCall → ℕ → ℕ → List ListedCall
calls_of [] harts over = []
calls_of (call ∷ calls) harts zero = call ∷ calls_of calls harts (harts - 1)
calls_of (call ∷ calls) harts (suc over) = calls_of calls harts over

-- the evaluation of each call ends within its turns with a value, none, or for want of stack
abbrev pub AllEnd : Program → List ListedCall → Type 0
AllEnd program [] = Unit {0}
AllEnd program (call ∷ calls) = IsResult (eval_call program call call.turns).outcome × AllEnd program calls

-- how often the evaluations of the calls enter a symbol
abbrev pub entered_in : Program → List ListedCall → ℕ → ℕ
entered_in program calls k = sum_by (λ (call : ListedCall). times k (eval_call program call call.turns).entered) calls

-- Where the evaluation of each of these calls ends, the seat has counted since then what they enter, of each symbol of which it had counted at most 2^56.
abbrev pub HasEntered : Program → List ListedCall → CountSeat → CountSeat → Type 0
HasEntered program calls c c' =
    AllEnd program calls → (k : ℕ) → k < c.counts.now.symbols → times k c.seat.me.0.own ≤ 72057594037927936
    → times k c'.seat.me.0.own ≡ times k c.seat.me.0.own + entered_in program calls k

-- where the evaluation of each of these calls ends, these entries are, of each of so many symbols, as many as theirs
abbrev pub AreEntries : Program → List ListedCall → ℕ → List ℕ → Type 0
AreEntries program calls symbols own = AllEnd program calls → (k : ℕ) → k < symbols → times k own ≡ entered_in program calls k
