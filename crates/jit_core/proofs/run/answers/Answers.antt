use Rattle.std.proofs.Common.{◌≡◌, ◌+◌, ◌%◌, ℕ, List, [], ◌∷◌, length, length-append, sym, ap, subst, ◌∙◌, ⊎_elim, arith}
use Rattle.std.proofs.Math.Nat.{mod-lt}
use Rattle.ir_meaning.specs.declared.calls.Ended.{Ended}
use Rattle.code_epochs.specs.Sound.{At}
use Rattle.code_epochs.proofs.Lists.{at_some, at_snoc}
use Rattle.jit_core.specs.Cores.{IsRightAnswer, IsSeatAnswer}
use Rattle.jit_core.proofs.run.answers.Goals as goal

pub unreachable-requires : goal.unreachable-requires
unreachable-requires c =
    let core = c.args.core.now in
    let call = c.loop-call.call in
    let n = length core.seats.items in
    let s = at_some core.seats.items (call % n) (mod-lt call c.requires.kept.harts.0) in
    let a = c.requires.ended call c.loop-call-test.true s.0 s.1 in
    let b = c.in_default.ensures.none s.0 s.1 in
    omega arith

pub loop-call-preserved : goal.loop-call-preserved
loop-call-preserved c =
    let core = c.args.core.now in
    let call = c.loop-call.call in
    let inv = c.loop-call.invariant in
    let old = c.loop-call.ends.items in
    let end = c.in-Some.end in
    let p = c.push_reserved.ensures in record {
      answers = (
        ap length p.items ∙ length-append old (end ∷ []) ∙ ap (λ (n : ℕ). n + 1) inv.answers.0,
        λ i e at. ⊎_elim
            (λ (t : At old i e). inv.answers.1 i e t)
            (λ (t : (i ≡ length old) × (end ≡ e)). subst (λ (z : ℕ × Ended). IsRightAnswer core z.0 z.1 × IsSeatAnswer core z.0 z.1) (λ j. (sym (t.0 ∙ inv.answers.0) j, t.1 j)) (c.in-Some.ensures.right, c.in-Some.ensures.seat))
            (at_snoc old end e i (subst (λ (l : List Ended). At l i e) p.items at)),
      );
      room = p.capacity ∙ inv.room;
    }
