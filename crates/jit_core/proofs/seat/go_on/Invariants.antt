use Rattle.std.proofs.Common.{ℕ, ◌<◌, List, ◌++◌}
use Rattle.ir_meaning.specs.Plays.{Meaning}
use Rattle.rv_play.specs.Ending.{Item}
use Rattle.hart.specs.Standing.{IsSameCall, IsAsked, wanted_by, turns_left, item_of}
use Rattle.hart.specs.Calls.{Origin, Stands}
use Rattle.jit_core.proofs.seat.go_on.Given as goal

abbrev pub invariant-loop-wanted : goal.invariant-loop-wanted
invariant-loop-wanted l = record {
  wanted : wanted_by l.hart l.hart.phase l.wanted;
  asked : IsAsked l.hart l.wanted;
  stands : (m : Meaning) (o : Origin) (pass : List Item) (counted : List ℕ) → Stands m o l.fn.hart pass counted → (all : List ℕ) × Stands m o l.hart (pass ++ item_of l.fn.hart l.fn.hart.phase l.fn.given) all;
  same : IsSameCall l.fn.hart l.hart;
  fewer : turns_left l.hart l.hart.phase < turns_left l.fn.hart l.fn.hart.phase;
}

abbrev pub decreases-loop-wanted : goal.decreases-loop-wanted
decreases-loop-wanted l = turns_left l.hart l.hart.phase
