use Rattle.liveness.specs.Search.{Grows, looks_left}
use Rattle.liveness.specs.Scan.{Searches}
use Rattle.liveness.proofs.spread.spread.Given as goal

abbrev pub invariant-loop-is_more : goal.invariant-loop-is_more
invariant-loop-is_more l =
    record {
      grows : Grows l.initial.search l.search;
      searches : Searches l.blocks l.sources l.written l.search;
    }

abbrev pub decreases-loop-is_more : goal.decreases-loop-is_more
decreases-loop-is_more l = looks_left l.search
