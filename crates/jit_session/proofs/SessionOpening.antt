-- What a session opens with.
use Rattle.std.proofs.Common.{◌≡◌, ℕ, ◌+◌, List, length, sum_by, Option, Some, Result, Ok, Err, IfOk, sym, ap, subst, ◌∙◌, arith}
use Rattle.ir_core.specs.Program.{Program}
use Rattle.entry_counts.specs.declared.counts.Counts.{Counts}
use Rattle.entry_counts.specs.declared.seat.CountSeat.{CountSeat}
use Rattle.entry_counts.specs.Seats.{IsNewSeat}
use Rattle.entry_counts.specs.Seats as seats
use Rattle.redirect_cells.specs.declared.table.CodeTable.{CodeTable}
use Rattle.std.specs.Global.{Vec}
use Rattle.jit_session.specs.declared.runner.Runner.{Runner}
use Rattle.jit_session.specs.OpenedHarts.{IsNew, parts_of}
use Rattle.jit_session.specs.Runs.{Each}
use Rattle.jit_session.specs.declared.asking.Asking.{Asking}
use Rattle.jit_session.specs.declared.parts.Part.{Part}
use Rattle.jit_session.specs.Parts.{harts_of, asking_in, or_else}
use Rattle.jit_session.specs.Opened.{AreOpened}

module _ {G M P : Type 0} (program : Program) (of : CodeTable) (tally : Counts) (calls : ℕ) (policy : P) (runners : List (Runner G)) (all : CountSeat) (asking : Asking P) (count : ℕ) (number : count ≡ of.harts)
    (long : length runners ≡ count) (new : Each (IsNew program of tally count calls) runners) (fresh : IsNewSeat tally all) (shares : sum_by parts_of runners + seats.parts_of all ≡ 64) (is : (asking.policy ≡ policy) × (asking.counts ≡ all)) where
  put : (parts : List (Part G M P)) (idle : Option (Asking P)) → harts_of parts ≡ runners → or_else (asking_in parts) idle ≡ Some asking → AreOpened program of tally calls policy parts idle
  put parts idle harts asks = record {
    harts = subst (λ (l : List (Runner G)). Each (IsNew program of tally of.harts calls) l) (sym harts) (subst (λ (n : ℕ). Each (IsNew program of tally n calls) runners) number new);
    count = ap length harts ∙ long ∙ number;
    asking = asking;
    asks = asks;
    policy_is = is.0;
    counts = subst (IsNewSeat tally) (sym is.1) fresh;
    shares = (let sums = ap (sum_by (parts_of {G = G})) harts in let own = ap seats.parts_of is.1 in omega (arith, sums, own, shares));
  }

  pub opened : {E : Type 0} (r : Result (Vec (Part G M P) × Option (Asking P)) E) → IfOk r (λ x. harts_of x.0.items ≡ runners) → IfOk r (λ x. or_else (asking_in x.0.items) x.1 ≡ Some asking)
      → IfOk r (λ x. AreOpened program of tally calls policy x.0.items x.1)
  opened (Ok x) harts asks = put x.0.items x.1 harts asks
  opened (Err e) harts asks = tt
