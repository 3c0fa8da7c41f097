use Rattle.std.proofs.Common.{ℕ, List, [], length, sym, ap, subst, ◌∙◌}
use Rattle.ir_meaning.specs.Meaning.{meaning}
use Rattle.rv_play.specs.declared.version.Version.{Version}
use Rattle.jit_core.specs.First.{AreQuick, IsBehind, laid, words_of}
use Rattle.jit_core.specs.Finished.{rounds}
use Rattle.jit_core.proofs.Simulating.{all_stand_for}
use Rattle.jit_core.proofs.Draws.{right_for}
use Rattle.jit_core.proofs.run.run_drawn.Goals as goal

pub new-requires-clause-versions : goal.new-requires-clause-versions
new-requires-clause-versions c = subst (λ (l : List Version). AreQuick (meaning c.args.all.now) l) (sym c.in-Ok.ensures) c.requires.versions

pub go-requires-clause-versions : goal.go-requires-clause-versions
go-requires-clause-versions c = subst (λ a. AreQuick (meaning a.now) c.args.versions.now) (sym c.in-Ok-new.ensures.work.0) c.requires.versions

pub returns-clause-ran : goal.returns-clause-ran
returns-clause-ran c =
    let n = c.in-Ok-new.ensures in
    let w = n.work in
    let g = c.in-Ok-go.ensures in
    let f = c.finish.ensures in
    let first = c.in-Ok-new.core in
    let middle = c.go.new.core in
    let last = c.finish.new.core in
    let d = g.makes in
    let m = f.makes in
    let a = c.in-Ok-answers.ensures in record {
      first = first;
      middle = middle;
      last = last;
      goes_by = (ap (λ x. x.now) w.0, ap (λ x. x.now) w.1, ap (λ x. x.now) w.2, n.seats.0);
      begins = record {
        stands = n.stands;
        versions_are = n.versions.0 ∙ ap (λ (l : List Version). laid l 0 0) c.in-Ok.ensures;
        publishing = n.versions.1;
        looked = n.versions.2;
        space = subst (λ (l : List Version). IsBehind c.args.plan.code_words (words_of l) (length l) first.space) c.in-Ok.ensures n.versions.3;
        size = n.versions.4;
        seats = n.seats.1;
      };
      draws = d;
      finishes = (m.0, m.1, m.2 ∙ ap (λ (k : ℕ). rounds m.1 k) (g.same.2 ∙ n.seats.0), m.3);
      stands = m.4 d.0 (all_stand_for first middle d.0 d.2 [] n.stands);
      answers = (
        a.0,
        λ i e at. right_for last c.args.all.now c.args.image.now c.args.calls.now i e (ap (λ x. x.now) (f.same.0 ∙ g.same.0 ∙ w.0)) (ap (λ x. x.image.now) (f.same.1 ∙ g.same.1) ∙ ap (λ x. x.now) w.1)
            (ap (λ x. x.calls.now) (f.same.1 ∙ g.same.1) ∙ ap (λ x. x.now) w.2) (a.1 i e at).0,
      );
      seats = λ i e at. (a.1 i e at).1;
      versions_are = c.versions.ensures;
    }
