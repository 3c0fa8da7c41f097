use Rattle.std.proofs.Common.{length}
use Rattle.liveness.specs.Search.{IsSized}
use Rattle.liveness.proofs.Extending.{sized_then}
use Rattle.liveness.proofs.Kept.{all_kept}
use Rattle.liveness.proofs.Starting.{starts_sized, searches_all}
use Rattle.liveness.proofs.intervals.finished.Goals as goal

pub scan-requires-clause-sized : goal.scan-requires-clause-sized
scan-requires-clause-sized c = starts_sized c.in_ok-search.search (length c.args.blocks.now) c.args.regs c.in_ok-search.ensures

pub spread-requires-clause-sized : goal.spread-requires-clause-sized
spread-requires-clause-sized c =
    let sized : IsSized c.in_ok-search.search (length c.args.blocks.now) c.args.regs = starts_sized c.in_ok-search.search (length c.args.blocks.now) c.args.regs c.in_ok-search.ensures in
    let now : IsSized c.scan.new.search (length c.args.blocks.now) c.args.regs =
    sized_then c.in_ok-search.search c.scan.new.search (length c.args.blocks.now) c.args.regs c.in_ok-written.ensures.extends.grows sized in
    rw now.registers now

pub spread-requires-clause-sizes : goal.spread-requires-clause-sizes
spread-requires-clause-sizes c =
    let sized : IsSized c.in_ok-search.search (length c.args.blocks.now) c.args.regs = starts_sized c.in_ok-search.search (length c.args.blocks.now) c.args.regs c.in_ok-search.ensures in
    let now : IsSized c.scan.new.search (length c.args.blocks.now) c.args.regs =
    sized_then c.in_ok-search.search c.scan.new.search (length c.args.blocks.now) c.args.regs c.in_ok-written.ensures.extends.grows sized in
    rw (now.registers, c.as_slice-2.ensures.value) c.in_ok-written.ensures.sizes

pub spread-requires-clause-searches : goal.spread-requires-clause-searches
spread-requires-clause-searches c =
    searches_all c.in_ok-search.search c.scan.new.search c.args.blocks.now _ _ (length c.args.blocks.now) c.args.regs c.in_ok-search.ensures c.in_ok-written.ensures.extends c.in_ok-written.ensures.adds

pub spread-requires-clause-written : goal.spread-requires-clause-written
spread-requires-clause-written c = rw c.as_slice-2.ensures.value (λ b r below h. (c.in_ok-written.ensures.read b below).all r h)

pub returns-clause-finished : goal.returns-clause-finished
returns-clause-finished c = record {
  written = c.in_ok-written.written.items;
  sources = c.in_ok-leads.leads.items;
  are = c.in_ok-leads.ensures;
  read = all_kept c.scan.new.search c.spread.new.search c.in_ok-spread.ensures.grows c.in_ok-written.written.items c.args.blocks.now (length c.args.blocks.now) c.in_ok-written.ensures.read;
  done = rw (c.as_slice-2.ensures.value, c.as_slice-3.ensures.value) at c.in_ok-spread.ensures.done;
  ends = c.in_ok-spread.ensures.ends;
}
