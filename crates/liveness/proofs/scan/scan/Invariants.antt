use Rattle.liveness.specs.Search.{Extends, Adds}
use Rattle.liveness.specs.Scan.{IsNeeded, IsUse, AreRead, HaveSizes}
use Rattle.liveness.proofs.scan.scan.Given as goal

abbrev pub invariant-loop-block : goal.invariant-loop-block
invariant-loop-block l =
    record {
      extends : Extends l.initial.search l.search;
      adds : Adds (IsUse l.blocks) (λ b r. IsNeeded l.blocks r b) l.initial.search l.search;
      sizes : HaveSizes l.block l.regs l.written.items;
      read : AreRead l.search l.written.items l.blocks l.block;
    }
