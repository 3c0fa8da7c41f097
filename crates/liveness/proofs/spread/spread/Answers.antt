use Rattle.std.proofs.Common.{length}
use Rattle.liveness.proofs.Extending.{grows_itself, grows_then, sized_then}
use Rattle.liveness.proofs.Looking.{all_done}
use Rattle.liveness.proofs.spread.spread.Goals as goal

pub loop-is_more-init : goal.loop-is_more-init
loop-is_more-init c = record { grows = grows_itself c.args.search.now; searches = c.requires.searches }

pub look_once-requires-clause-sized : goal.look_once-requires-clause-sized
look_once-requires-clause-sized c = rw c.loop-is_more.invariant.grows.registers
    (sized_then c.args.search.now c.loop-is_more.search (length c.args.blocks.now) (length c.args.search.now.spans.items) c.loop-is_more.invariant.grows c.requires.sized)

pub look_once-requires-clause-sizes : goal.look_once-requires-clause-sizes
look_once-requires-clause-sizes c = rw c.loop-is_more.invariant.grows.registers c.requires.sizes

pub loop-is_more-preserved : goal.loop-is_more-preserved
loop-is_more-preserved c = record {
  grows = grows_then c.args.search.now c.loop-is_more.search c.look_once.new.search c.loop-is_more.invariant.grows c.in_ok-is_more.ensures.grows;
  searches = c.in_ok-is_more.ensures.searches;
}

pub returns-then-not-is_more-clause-grows : goal.returns-then-not-is_more-clause-grows
returns-then-not-is_more-clause-grows c =
    grows_then c.args.search.now c.loop-is_more.search c.look_once.new.search c.loop-is_more.invariant.grows c.in_ok-is_more.ensures.grows

pub returns-then-not-is_more-clause-done : goal.returns-then-not-is_more-clause-done
returns-then-not-is_more-clause-done c =
    all_done c.args.blocks.now c.args.sources.now c.args.written.now c.args.numbers.now c.requires.numbers c.requires.sources
    c.look_once.new.search c.in_ok-is_more.ensures.searches (c.in_ok-is_more.ensures.ended c.if-not-is_more.true)

pub returns-then-not-is_more-clause-ends : goal.returns-then-not-is_more-clause-ends
returns-then-not-is_more-clause-ends c = c.in_ok-is_more.ensures.searches.ends
