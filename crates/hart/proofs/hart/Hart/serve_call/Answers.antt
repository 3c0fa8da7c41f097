use Rattle.std.proofs.Common.{refl, subst, ◌∙◌}
use Rattle.hart.specs.declared.hart.Phase.{Phase}
use Rattle.hart.specs.Standing.{IsNext}
use Rattle.hart.proofs.Turning.{same_then}
use Rattle.hart.proofs.Asking.{both_begun}
use Rattle.hart.proofs.hart.Hart.serve_call.Goals as goal

pub loop-wanted-init : goal.loop-wanted-init
loop-wanted-init g c = record {
  wanted = c.turn-wanted.ensures.wanted;
  asked = subst (λ (p : Phase). IsNext p c.turn-wanted.new.self c.turn-wanted.result) c.requires.phase c.turn-wanted.ensures.next;
  both = λ since known o b.
      both_begun g.F.Fabric.stands since c.args.fabric.now known o c.args.self.now c.turn-wanted.new.self c.args.self.now.phase c.requires.phase
      c.turn-wanted.ensures.stands b.pass b.counted b.fabric_stands b.hart_stands;
  begun = c.requires.begun;
  symbols = refl;
  code_words = refl;
  same = c.turn-wanted.ensures.same;
}

pub loop-wanted-preserved : goal.loop-wanted-preserved
loop-wanted-preserved g c = record {
  wanted = c.serve_wish-wanted.ensures.wanted;
  asked = c.serve_wish-wanted.ensures.asked;
  both = λ since known o b. c.serve_wish-wanted.ensures.both since known o (c.loop-wanted.invariant.both since known o b);
  begun = c.serve_wish-wanted.ensures.begun;
  symbols = c.serve_wish-wanted.ensures.symbols ∙ c.loop-wanted.invariant.symbols;
  code_words = c.serve_wish-wanted.ensures.code_words ∙ c.loop-wanted.invariant.code_words;
  same = same_then c.args.self.now c.loop-wanted.self c.serve_wish-wanted.new.self c.loop-wanted.invariant.same c.serve_wish-wanted.ensures.same;
}
