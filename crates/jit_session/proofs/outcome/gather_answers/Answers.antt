use Rattle.std.proofs.Common.{◌≡◌, ◌+◌, ◌%◌, ◌/◌, ℕ, List, length, length-append, take, get_or, sym, ap, subst, ◌∙◌, arith}
use Rattle.std.proofs.Math.Nat.{mod-lt}
use Rattle.ir_meaning.specs.declared.calls.Ended.{Ended}
use Rattle.code_epochs.proofs.Lists.{at_index}
use Rattle.jit_session.specs.Runs.{AllRight, HasAnswered}
use Rattle.jit_session.proofs.Each.{each_at}
use Rattle.jit_session.proofs.Gathering.{one_right, answered_below, right_at, one_more_same}
use Rattle.jit_session.proofs.outcome.gather_answers.Goals as goal

pub loop-place-preserved : goal.loop-place-preserved
loop-place-preserved g c =
    let inv = c.loop-place.invariant in
    let place = c.loop-place.place in
    let calls = c.args.calls.now in
    let harts = length c.args.runners.now in
    let r = c.index-runners-place.result in
    let e = c.index.result.now in
    let items = c.push_reserved.ensures.items in record {
      right = λ program all.
          let h : HasAnswered program calls harts (place % harts) r.answers.items = each_at (λ n s. HasAnswered program calls harts n s.answers.items) c.args.runners.now (place % harts) r all (mod-lt place c.requires.some) c.index-runners-place.is in
          let low = answered_below harts place (length r.answers.items) (length calls) c.loop-place-test.true h.whole in
          let t = right_at program calls c.args.runners.now harts place r e h (at_index r.answers.items (place / harts) e low (subst (λ s. e ≡ get_or s.answers.items (place / harts) e) (sym c.index-runners-place.is) c.index.ensures)) in
          subst (λ (l : List Ended). AllRight program (take (place + 1) calls) l) (sym items) (one_right program calls c.loop-place.answers.items place t.0 e c.loop-place-test.true t.1 (inv.right program all) t.2);
      same = one_more_same c.args.runners.now place c.loop-place.answers.items c.push_reserved.new.self.items r e c.requires.some items inv.len c.index-runners-place.is
          (subst (λ s. e ≡ get_or s.answers.items (place / harts) e) (sym c.index-runners-place.is) c.index.ensures) inv.same;
      len = ap length items ∙ length-append c.loop-place.answers.items _ ∙ ap (λ (n : ℕ). n + 1) inv.len;
      room = c.push_reserved.ensures.capacity ∙ inv.room;
    }

pub returns-clause-same : goal.returns-clause-same
returns-clause-same g c = λ h d low i u at below. (
    let past = c.loop-place-test.false in
    c.loop-place.invariant.same h d low i u at (omega (arith, past, below))
    )
