use Rattle.std.proofs.Common.{◌≡◌, ◌≤◌, ℕ, List}
use Rattle.ir_meaning.specs.Plays.{Meaning}
use Rattle.rv_play.specs.Ending.{Item}
use Rattle.hart.specs.Standing.{IsFor, IsSameCall, goes_on, run_of}
use Rattle.hart.proofs.hart.Hart.go_on.Given as goal

abbrev pub invariant-loop-wanted : goal.invariant-loop-wanted
invariant-loop-wanted l = record {
  goes : (m : Meaning) → IsFor m l.fn.self → (counted : List ℕ) (pass : List Item) →
      goes_on m l.fn.self (run_of l.fn.self counted pass) ≡ goes_on m l.self (run_of l.self counted pass);
  same : IsSameCall l.fn.self l.self;
  fewer : l.self.left ≤ l.fn.self.left;
}

abbrev pub decreases-loop-wanted : goal.decreases-loop-wanted
decreases-loop-wanted l = l.self.left
