use Rattle.std.proofs.Common.{◌≡◌, ◌≤◌, ◌++◌, ◌∷◌, [], List, length, refl, ap, ◌∙◌, arith}
use Rattle.jit_core.specs.declared.event.Event.{Event}
use Rattle.jit_core.specs.Finished.{one_round}
use Rattle.jit_core.proofs.Simulating.{makes_more, events_then, same_core, same_more}
use Rattle.jit_core.proofs.Finishing.{few_seats, falls_on, over_more, over_same, all_over_same, round_more}
use Rattle.jit_core.proofs.ending.go_round.Goals as goal

pub loop-number-init : goal.loop-number-init
loop-number-init c = record {
  kept = c.requires.kept;
  same = same_core c.args.core.now;
  makes = ([], refl, refl);
  most = omega arith;
  fewer = λ e. absurd (cc);
  still = λ e. (refl, refl, λ k low. absurd (omega arith));
}

pub overflow_cast-number-end : goal.overflow_cast-number-end
overflow_cast-number-end c =
    let few = few_seats c.args.core.now c.requires.kept in
    let vec = c.args.core.now.seats.ok.0 in
    let len = c.len-number-end.ensures in
    omega arith

pub go_on-moved-requires-clause-number : goal.go_on-moved-requires-clause-number
go_on-moved-requires-clause-number c =
    let few = few_seats c.args.core.now c.requires.kept in
    let vec = c.args.core.now.seats.ok.0 in
    let len = c.len-number-end.ensures in
    let same = c.loop-number.invariant.same.2 in
    let test = c.loop-number-test.true in
    omega arith

pub loop-number-preserved : goal.loop-number-preserved
loop-number-preserved c =
    let at = c.loop-number in
    let inv = at.invariant in
    let e = c.go_on-moved.ensures in
    let old = c.args.core.now in
    let new = c.go_on-moved.new.core in
    let told = inv.makes.0 in
    let t = e.makes.0 in record {
      kept = e.kept;
      same = same_more old at.core new inv.same e.same;
      makes = (told ++ t ∷ [], events_then told (t ∷ []) ∙ ap (λ (l : List Event). l ++ t.event ∷ []) inv.makes.1 ∙ ap (λ (k : Event). one_round at.number ++ k ∷ []) e.makes.1 ∙ round_more at.number, makes_more old at.core new told t inv.makes.2 e.makes.2);
      most = (let a = inv.most in let b = e.most in omega arith);
      fewer = falls_on at.moved c.go_on-moved.result _ _ _ inv.fewer e.fewer e.most inv.most;
      still = λ none.
          let o = e.over none in
          let s = inv.still o.0 in
          (o.1 ∙ s.0, o.2 ∙ s.1, over_more old at.number s.2 (over_same old at.core at.number s.0 s.1 o.3));
    }

pub returns-clause-makes : goal.returns-clause-makes
returns-clause-makes c =
    let inv = c.loop-number.invariant in
    let few = few_seats c.args.core.now c.requires.kept in
    let vec = c.args.core.now.seats.ok.0 in
    let len = c.len-number-end.ensures in
    let test = c.loop-number-test.false in
    let all : c.loop-number.number ≡ length c.args.core.now.seats.items = omega arith in
    (inv.makes.0, inv.makes.1 ∙ ap one_round all, inv.makes.2)

pub returns-clause-fewer : goal.returns-clause-fewer
returns-clause-fewer c = c.loop-number.invariant.fewer

pub returns-clause-over : goal.returns-clause-over
returns-clause-over c = λ none.
    let inv = c.loop-number.invariant in
    let few = few_seats c.args.core.now c.requires.kept in
    let vec = c.args.core.now.seats.ok.0 in
    let len = c.len-number-end.ensures in
    let test = c.loop-number-test.false in
    let all : length c.args.core.now.seats.items ≤ c.loop-number.number = omega arith in
    let s = inv.still none in
    all_over_same c.args.core.now c.loop-number.core s.0 s.1 (λ h low. s.2 h (omega arith))
