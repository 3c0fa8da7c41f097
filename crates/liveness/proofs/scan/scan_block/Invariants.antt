use Rattle.std.proofs.Common.{◌≡◌, length}
use Rattle.liveness.specs.Search.{Extends, Adds}
use Rattle.liveness.specs.Scan.{IsUsedIn, IsReadFirst, IsRead}
use Rattle.liveness.proofs.scan.scan_block.Given as goal

abbrev pub invariant-loop-place : goal.invariant-loop-place
invariant-loop-place l =
    record {
      extends : Extends l.initial.search l.search;
      size : length l.written ≡ l.regs;
      adds : Adds (IsUsedIn l.insts l.place l.first) (λ b r. (b ≡ l.block) × IsReadFirst l.insts l.place r) l.initial.search l.search;
      read : IsRead l.search l.written l.insts l.block l.place l.first;
    }
