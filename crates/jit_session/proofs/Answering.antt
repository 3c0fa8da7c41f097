-- One answer more of a hart.
use Rattle.std.proofs.Common.{◌≡◌, ℕ, zero, suc, ◌+◌, ◌*◌, ◌<◌, List, [], ◌∷◌, ◌++◌, length, get_or, sym, ap, subst, ◌∙◌, ⊎_elim, arith}
use mathlib.Core.Option.{some-ne-none}
use Rattle.ir_core.specs.Program.{Program}
use Rattle.ir_core.specs.declared.program.Function.{Function}
use Rattle.ir_meaning.specs.declared.calls.Ended.{Ended}
use Rattle.ir_meaning.specs.declared.calls.ListedCall.{ListedCall}
use Rattle.ir_meaning.specs.Right.{Right}
use Rattle.code_epochs.specs.Sound.{At}
use Rattle.code_epochs.proofs.Lists.{at_snoc, at_index}
use Rattle.jit_session.specs.Calls.{IsCallOf, AreCallsOf}
use Rattle.entry_counts.specs.declared.seat.CountSeat.{CountSeat}
use Rattle.redirect_cells.specs.declared.hart_seat.HartSeat.{HartSeat}
use Rattle.jit_session.specs.Runs.{IsSameSeat, IsSameCounts, place_of}

-- the call at a place is a listed one
pub listed_at : (functions : List Function) (calls : List ListedCall) (i : ℕ) (call : ListedCall) → AreCallsOf functions calls → i < length calls → call ≡ get_or calls i call → IsCallOf functions call
listed_at functions [] i call all below is = absurd (omega arith)
listed_at functions (c ∷ calls) zero call all below is = subst (λ (x : ListedCall). IsCallOf functions x) (sym is) all.0
listed_at functions (c ∷ calls) (suc i) call all below is = listed_at functions calls i call all.1 (omega arith) is

-- the answers so far are right
abbrev pub AreRight : Program → List ListedCall → ℕ → ℕ → List Ended → Type 0
AreRight program calls harts hart ends = (i : ℕ) (e : Ended) → At ends i e → (call : ListedCall) × At calls (place_of harts hart i) call × Right program call e

pub right_none : (program : Program) (calls : List ListedCall) (harts hart : ℕ) (ends : List Ended) → ends ≡ [] → AreRight program calls harts hart ends
right_none program calls harts hart [] e i a at = absurd (some-ne-none a (sym at))
right_none program calls harts hart (x ∷ ends) e i a at = absurd (let bad : ⊥ = cc in bad)

pub right_more : (program : Program) (calls : List ListedCall) (harts hart place : ℕ) (ends : List Ended) (call : ListedCall) (end : Ended) → AreRight program calls harts hart ends
    → place ≡ place_of harts hart (length ends) → place < length calls → call ≡ get_or calls place call → Right program call end → AreRight program calls harts hart (ends ++ end ∷ [])
right_more program calls harts hart place ends call end all is below read right i e at = ⊎_elim
    (λ t. all i e t)
    (λ t. (
      call,
      subst (λ (k : ℕ). At calls k call) (is ∙ ap (λ (n : ℕ). place_of harts hart n) (sym t.0)) (at_index calls place call below read),
      subst (λ (x : Ended). Right program call x) t.1 right,
    ))
    (at_snoc ends end e i at)

-- the next place
pub next_place : (harts hart place n m : ℕ) → place ≡ place_of harts hart n → m ≡ n + 1 → place + harts ≡ place_of harts hart m
next_place harts hart place n m is more = ap (λ (k : ℕ). k + harts) is ∙ (omega arith) ∙ ap (λ (k : ℕ). hart + harts * k) (sym more)

pub first_place : (harts hart n : ℕ) → n ≡ 0 → hart ≡ place_of harts hart n
first_place harts hart n none = (omega arith) ∙ ap (λ (k : ℕ). hart + harts * k) (sym none)

pub same_seat : (a b c : HartSeat) → IsSameSeat a b → IsSameSeat b c → IsSameSeat a c
same_seat a b c f s = record { table = s.table ∙ f.table; number = s.number ∙ f.number }

pub same_counts : (a b c : CountSeat) → IsSameCounts a b → IsSameCounts b c → IsSameCounts a c
same_counts a b c f s = record { table = s.table ∙ f.table; parts = s.parts ∙ f.parts; joined = s.joined ∙ f.joined }
