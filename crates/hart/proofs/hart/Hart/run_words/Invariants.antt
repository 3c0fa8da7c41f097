use Rattle.std.proofs.Common.{◌≡◌, ◌≤◌, true}
use Rattle.hart.specs.declared.hart.Hart.{Hart}
use Rattle.hart.specs.declared.hart.Phase.TheVariants as phase
use Rattle.hart.specs.Standing.{IsSameCall, IsCodeAddress}
use Rattle.hart.specs.Calls.{Origin, Both}
use Rattle.hart.specs.Steps.{standing_at}
use Rattle.hart.proofs.hart.Hart.run_words.Given as goal

abbrev pub invariant-loop-next : goal.invariant-loop-next
invariant-loop-next g l = record {
  phase : l.self.phase ≡ phase.Fetch;
  inside : IsCodeAddress l.self.code_words l.pc;
  both : (since : _) (known : Hart) (o : Origin) → Both g.F.Fabric.stands since l.fn.fabric known o l.fn.self → Both g.F.Fabric.stands since l.fabric known o (standing_at l.pc l.left l.self);
  begun : g.F.Fabric.is_begun l.fabric ≡ true;
  symbols : g.F.Fabric.symbol_count l.fabric ≡ g.F.Fabric.symbol_count l.fn.fabric;
  code_words : g.F.Fabric.code_word_count l.fabric ≡ g.F.Fabric.code_word_count l.fn.fabric;
  same : IsSameCall l.fn.self l.self;
  fewer : l.left ≤ l.fn.self.left;
}

abbrev pub decreases-loop-next : goal.decreases-loop-next
decreases-loop-next g l = l.left
