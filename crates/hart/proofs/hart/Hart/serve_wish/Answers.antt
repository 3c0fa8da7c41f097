use Rattle.hart.proofs.Asking.{next_asked, both_after}
use Rattle.hart.proofs.hart.Hart.serve_wish.Goals as goal

pub returns-in_default : goal.returns-in_default
returns-in_default g c = record {
  wanted = c.turn.ensures.wanted;
  asked = next_asked c.args.self.now c.turn.new.self c.args.self.now.phase c.args.wanted c.turn.result c.requires.wanted c.requires.asked c.requires.goes c.turn.ensures.next;
  both = λ since known o b.
      both_after g.F.Fabric.stands since c.args.fabric.now c.ask-given.new.fabric known o c.args.self.now c.turn.new.self
      c.args.self.now.phase c.args.wanted c.ask-given.result
      c.requires.wanted c.ask-given.ensures.asked c.turn.ensures.stands b.pass b.counted b.fabric_stands b.hart_stands;
  begun = c.ask-given.ensures.begun;
  symbols = c.ask-given.ensures.symbols;
  code_words = c.ask-given.ensures.code_words;
  same = c.turn.ensures.same;
  fewer = c.turn.ensures.fewer;
}
