use Rattle.std.proofs.Common.{ap, sym, ◌∙◌, length}
use Rattle.emulate.proofs.Bases.{bases_count}
use Rattle.emulate.proofs.call.call_words.Goals as goal

pub run_call-requires-clause-symbols : goal.run_call-requires-clause-symbols
run_call-requires-clause-symbols c =
    ap length c.in_ok-fabric.ensures.cells ∙ bases_count 0 c.in_ok-one_version.field-0.items ∙ c.in_ok-one_version.ensures.one ∙ sym c.requires.one
