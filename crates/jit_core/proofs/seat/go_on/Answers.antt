use Rattle.std.proofs.Common.{arith}
use Rattle.hart.proofs.Turning.{same_then}
use Rattle.jit_core.proofs.Turning as T
use Rattle.jit_core.proofs.seat.go_on.Goals as goal

pub loop-wanted-init : goal.loop-wanted-init
loop-wanted-init c = record {
  wanted = c.turn-wanted.ensures.wanted;
  asked = T.next_asked c.turn-wanted.new.self c.args.hart.now.phase c.turn-wanted.result c.requires.goes c.turn-wanted.ensures.next;
  stands = λ m o pass counted s. (_, c.turn-wanted.ensures.stands m o pass counted s);
  same = c.turn-wanted.ensures.same;
  fewer = c.turn-wanted.ensures.fewer;
}

pub returns-in-Cell-clause-stands : goal.returns-in-Cell-clause-stands
returns-in-Cell-clause-stands c = c.loop-wanted.invariant.stands

pub returns-in-Fetch-clause-stands : goal.returns-in-Fetch-clause-stands
returns-in-Fetch-clause-stands c = c.loop-wanted.invariant.stands

pub returns-in-End-clause-stands : goal.returns-in-End-clause-stands
returns-in-End-clause-stands c = c.loop-wanted.invariant.stands

pub loop-wanted-preserved : goal.loop-wanted-preserved
loop-wanted-preserved c =
    let h = c.loop-wanted.hart in
    let h' = c.turn-wanted-in_default.new.self in
    let i = c.loop-wanted.invariant in
    let k = T.counting h c.loop-wanted.wanted i.wanted i.asked record { cell = c.in_default.not-Cell; word = c.in_default.not-Fetch; end = c.in_default.not-End } in record {
      wanted = c.turn-wanted-in_default.ensures.wanted;
      asked = T.count_next h h' k.0 c.turn-wanted-in_default.result k.1 c.turn-wanted-in_default.ensures.next;
      stands = λ m o pass counted s.
          let before = i.stands m o pass counted s in
          let after = c.turn-wanted-in_default.ensures.stands m o _ before.0 before.1 in
          (_, T.count_stands h h' k.0 m o _ _ k.1 after);
      same = same_then c.args.hart.now h h' i.same c.turn-wanted-in_default.ensures.same;
      fewer = (let a = i.fewer in let b = c.turn-wanted-in_default.ensures.fewer in omega arith);
    }
