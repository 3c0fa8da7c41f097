use Rattle.std.proofs.Common.{◌≡◌}
use Rattle.code_pieces.specs.Assembly.{labelled}
use Rattle.code_emit.proofs.labels.with_labels.Given as goal

abbrev pub invariant-loop-label : goal.invariant-loop-label
invariant-loop-label l = l.asm ≡ labelled l._label
