use Rattle.std.proofs.Common.{◌≡◌, true}
use Rattle.hart.specs.declared.hart.Hart.{Hart}
use Rattle.hart.specs.Standing.{IsSameCall, IsAsked, wanted_by, turns_left}
use Rattle.hart.specs.Calls.{Origin, Both}
use Rattle.hart.proofs.hart.Hart.serve_call.Given as goal

abbrev pub invariant-loop-wanted : goal.invariant-loop-wanted
invariant-loop-wanted g l = record {
  wanted : wanted_by l.self l.self.phase l.wanted;
  asked : IsAsked l.self l.wanted;
  both : (since : _) (known : Hart) (o : Origin) → Both g.F.Fabric.stands since l.fn.fabric known o l.fn.self → Both g.F.Fabric.stands since l.fabric known o l.self;
  begun : g.F.Fabric.is_begun l.fabric ≡ true;
  symbols : g.F.Fabric.symbol_count l.fabric ≡ g.F.Fabric.symbol_count l.fn.fabric;
  code_words : g.F.Fabric.code_word_count l.fabric ≡ g.F.Fabric.code_word_count l.fn.fabric;
  same : IsSameCall l.fn.self l.self;
}

abbrev pub decreases-loop-wanted : goal.decreases-loop-wanted
decreases-loop-wanted g l = turns_left l.self l.self.phase
