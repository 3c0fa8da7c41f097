use Rattle.std.proofs.Common.{subst, List, [], ◌∷◌}
use Rattle.rv_play.specs.Ending.{Saw}
use Rattle.hart.specs.declared.hart.Wanted.{Wanted}
use Rattle.hart.specs.Standing.{Turns}
use Rattle.hart.proofs.Following.{one_wish}
use Rattle.hart.proofs.hart.Hart.take_word.Goals as goal

pub returns : goal.returns
returns c =
    let turned = c.take_next.ensures.turned in
    subst (λ (w : Wanted). Turns c.args.self.now c.take_next.new.self (Saw c.args.self.now.regs.pc c.args.word ∷ []) w)
    (one_wish c.take_next.new.self c.take_next.new.self.phase turned.0 c.wanted.result turned.1.wanted c.wanted.ensures) turned.1
