use Rattle.std.proofs.Common.{◌≡◌, drop}
use Rattle.fast_isel.specs.Taken.{are_forms}
use Rattle.fast_isel.proofs.taken.are_forms.Given as goal

abbrev pub invariant-loop-inst : goal.invariant-loop-inst
invariant-loop-inst l = are_forms l.values l.blocks (drop l.inst-index l.insts) ≡ are_forms l.values l.blocks l.insts
