use Rattle.std.proofs.Common.{arith}
use Rattle.liveness.proofs.Extending.{grows_then}
use Rattle.liveness.proofs.Looking.{Ready, is_ready, one_done, none_taken, grown_by}
use Rattle.liveness.proofs.spread.look_once.Goals as goal

pub look_back-requires-clause-block : goal.look_back-requires-clause-block
look_back-requires-clause-block c =
    (is_ready c.args.blocks.now c.args.sources.now c.args.written.now c.args.numbers.now c.requires.numbers c.requires.sources c.args.search.now c.take_work.new.self
    (c.in-Some.pair.0) (c.in-Some.pair.1) c.requires.searches c.requires.sized c.requires.sizes c.in-Some.ensures.work c.take_work.ensures.live c.take_work.ensures.spans).block

pub look_back-requires-clause-register : goal.look_back-requires-clause-register
look_back-requires-clause-register c =
    (is_ready c.args.blocks.now c.args.sources.now c.args.written.now c.args.numbers.now c.requires.numbers c.requires.sources c.args.search.now c.take_work.new.self
    (c.in-Some.pair.0) (c.in-Some.pair.1) c.requires.searches c.requires.sized c.requires.sizes c.in-Some.ensures.work c.take_work.ensures.live c.take_work.ensures.spans).register

pub look_back-requires-clause-sized : goal.look_back-requires-clause-sized
look_back-requires-clause-sized c =
    (is_ready c.args.blocks.now c.args.sources.now c.args.written.now c.args.numbers.now c.requires.numbers c.requires.sources c.args.search.now c.take_work.new.self
    (c.in-Some.pair.0) (c.in-Some.pair.1) c.requires.searches c.requires.sized c.requires.sizes c.in-Some.ensures.work c.take_work.ensures.live c.take_work.ensures.spans).sized

pub look_back-requires-clause-sizes : goal.look_back-requires-clause-sizes
look_back-requires-clause-sizes c =
    (is_ready c.args.blocks.now c.args.sources.now c.args.written.now c.args.numbers.now c.requires.numbers c.requires.sources c.args.search.now c.take_work.new.self
    (c.in-Some.pair.0) (c.in-Some.pair.1) c.requires.searches c.requires.sized c.requires.sizes c.in-Some.ensures.work c.take_work.ensures.live c.take_work.ensures.spans).sizes

pub look_back-requires-clause-sources : goal.look_back-requires-clause-sources
look_back-requires-clause-sources c =
    (is_ready c.args.blocks.now c.args.sources.now c.args.written.now c.args.numbers.now c.requires.numbers c.requires.sources c.args.search.now c.take_work.new.self
    (c.in-Some.pair.0) (c.in-Some.pair.1) c.requires.searches c.requires.sized c.requires.sizes c.in-Some.ensures.work c.take_work.ensures.live c.take_work.ensures.spans).within

pub look_back-requires-clause-numbers : goal.look_back-requires-clause-numbers
look_back-requires-clause-numbers c =
    (is_ready c.args.blocks.now c.args.sources.now c.args.written.now c.args.numbers.now c.requires.numbers c.requires.sources c.args.search.now c.take_work.new.self
    (c.in-Some.pair.0) (c.in-Some.pair.1) c.requires.searches c.requires.sized c.requires.sizes c.in-Some.ensures.work c.take_work.ensures.live c.take_work.ensures.spans).numbers_long

pub look_back-requires-clause-most : goal.look_back-requires-clause-most
look_back-requires-clause-most c =
    (is_ready c.args.blocks.now c.args.sources.now c.args.written.now c.args.numbers.now c.requires.numbers c.requires.sources c.args.search.now c.take_work.new.self
    (c.in-Some.pair.0) (c.in-Some.pair.1) c.requires.searches c.requires.sized c.requires.sizes c.in-Some.ensures.work c.take_work.ensures.live c.take_work.ensures.spans).most

pub returns-in_ok-look_back-in-Some-clause-grows : goal.returns-in_ok-look_back-in-Some-clause-grows
returns-in_ok-look_back-in-Some-clause-grows c =
    grows_then c.args.search.now c.take_work.new.self c.look_back.new.search (grown_by c.args.search.now c.take_work.new.self c.take_work.ensures.live c.take_work.ensures.spans)
    c.in_ok-look_back-in-Some.ensures.extends.grows

pub returns-in_ok-look_back-in-Some-clause-searches : goal.returns-in_ok-look_back-in-Some-clause-searches
returns-in_ok-look_back-in-Some-clause-searches c =
    let ready : Ready c.args.sources.now c.args.written.now c.args.numbers.now c.take_work.new.self (c.in-Some.pair.0) (c.in-Some.pair.1) =
    is_ready c.args.blocks.now c.args.sources.now c.args.written.now c.args.numbers.now c.requires.numbers c.requires.sources c.args.search.now c.take_work.new.self
    (c.in-Some.pair.0) (c.in-Some.pair.1) c.requires.searches c.requires.sized c.requires.sizes c.in-Some.ensures.work c.take_work.ensures.live c.take_work.ensures.spans in
    one_done c.args.blocks.now c.args.sources.now c.args.written.now c.args.numbers.now c.requires.numbers c.requires.sources c.args.search.now c.take_work.new.self c.look_back.new.search
    (c.in-Some.pair.0) (c.in-Some.pair.1) c.requires.searches c.in-Some.ensures.work c.take_work.ensures.live c.take_work.ensures.spans
    (omega (arith, ready.block.0, c.requires.sizes.size)) c.requires.written c.in_ok-look_back-in-Some.ensures

pub returns-in-None-clause-grows : goal.returns-in-None-clause-grows
returns-in-None-clause-grows c = grown_by c.args.search.now c.take_work.new.self c.take_work.ensures.live c.take_work.ensures.spans

pub returns-in-None-clause-searches : goal.returns-in-None-clause-searches
returns-in-None-clause-searches c =
    none_taken c.args.blocks.now c.args.sources.now c.args.written.now c.args.numbers.now c.requires.numbers c.requires.sources c.args.search.now c.take_work.new.self
    c.requires.searches (c.in-None.ensures.work.0) (c.in-None.ensures.work.1)
    (grown_by c.args.search.now c.take_work.new.self c.take_work.ensures.live c.take_work.ensures.spans) c.take_work.ensures.live c.take_work.ensures.spans

pub returns-in-None-clause-ended : goal.returns-in-None-clause-ended
returns-in-None-clause-ended c = λ e. c.in-None.ensures.work.1

pub returns-in_ok-look_back-in-Some-clause-falls : goal.returns-in_ok-look_back-in-Some-clause-falls
returns-in_ok-look_back-in-Some-clause-falls c = λ e. omega (arith, c.in-Some.ensures.once, c.in_ok-look_back-in-Some.ensures.extends.once)
