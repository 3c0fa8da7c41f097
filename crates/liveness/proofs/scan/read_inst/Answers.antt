use Rattle.std.proofs.Common.{◌≡◌, ◌++◌, ap, ◌∙◌}
use Rattle.mir.specs.Code.{reads, writes}
use Rattle.liveness.proofs.scan.read_inst.Goals as goal

pub note_reads-requires-clause-registers : goal.note_reads-requires-clause-registers
note_reads-requires-clause-registers c =
    let list : c.as_slice.result.now ≡ reads c.args.inst.now =
    c.as_slice.ensures.value ∙ c.in_ok-put_reads.ensures ∙ ap (λ xs. xs ++ reads c.args.inst.now) c.clear.ensures.items in
    λ r in'. c.requires.reads r (rw list at in')

pub note_writes-requires-clause-size : goal.note_writes-requires-clause-size
note_writes-requires-clause-size c = c.in_ok-note_reads.ensures.extends.grows.registers ∙ c.requires.sized.registers

pub note_writes-requires-clause-registers : goal.note_writes-requires-clause-registers
note_writes-requires-clause-registers c =
    let list : c.as_slice-2.result.now ≡ writes c.args.inst.now =
    c.as_slice-2.ensures.value ∙ c.in_ok-put_writes.ensures ∙ ap (λ xs. xs ++ writes c.args.inst.now) c.clear-2.ensures.items in
    λ r in'. c.requires.writes r (rw list at in')

pub returns : goal.returns
returns c =
    let read : c.as_slice.result.now ≡ reads c.args.inst.now =
    c.as_slice.ensures.value ∙ c.in_ok-put_reads.ensures ∙ ap (λ xs. xs ++ reads c.args.inst.now) c.clear.ensures.items in
    let wrote : c.as_slice-2.result.now ≡ writes c.args.inst.now =
    c.as_slice-2.ensures.value ∙ c.in_ok-put_writes.ensures ∙ ap (λ xs. xs ++ writes c.args.inst.now) c.clear-2.ensures.items in
    record {
      between = c.note_reads.new.search;
      noted = rw read at c.in_ok-note_reads.ensures;
      wrote = rw wrote at c.note_writes.ensures;
    }
