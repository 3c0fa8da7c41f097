use Rattle.std.proofs.Common.{ℕ, List, length, replicate, refl, ap, subst, ◌∙◌, arith}
use Rattle.std.proofs.lemmas.List.{length-replicate}
use Rattle.ir_meaning.specs.Meaning.{meaning}
use Rattle.code_epochs.specs.Sound.{At, IsStateOf}
use Rattle.code_epochs.specs.Steps.{first_whole}
use Rattle.code_epochs.proofs.Lists.{at_below}
use Rattle.code_epochs.proofs.First.{first_sound, at_zeros}
use Rattle.jit_core.proofs.first.opened.Goals as goal

pub publish_all-requires-clause-symbols : goal.publish_all-requires-clause-symbols
publish_all-requires-clause-symbols c = λ k v at.
    let symbol = (c.requires.quick.1 k v at).0 in
    let low = at_below c.args.versions.items k v at in
    let count = c.requires.quick.0 in
    let functions = c.function_count.ensures.value in
    let cells = ap length c.in_ok-state.ensures.cells ∙ length-replicate c.function_count.result 0 in
    omega arith

pub returns : goal.returns
returns c =
    let m = meaning c.args.all.now in
    let harts = c.args.harts in
    let code = c.args.code_words in
    let x = first_whole m harts code in
    let e = c.in_ok-state.ensures in
    let state : IsStateOf c.in_ok-state.state x = (e.cells ∙ ap (λ (n : ℕ). replicate n 0) c.function_count.ensures.value, e.epoch, e.harts, e.code, e.versions) in
    let t = c.in_ok-publish_all.ensures.opens m x (first_sound m harts code c.requires.harts c.requires.code) state refl refl c.requires.quick in record {
      whole = t.0;
      sound = t.1;
      state = t.2;
      draft = t.3;
      gone = t.4.gone;
      looks = t.4.looks;
      harts = t.4.harts;
      words = (ap length t.4.announced ∙ length-replicate harts 0, λ h w at. at_zeros harts h w (subst (λ (l : List ℕ). At l h w) t.4.announced at));
      code = t.4.code ∙ length-replicate code 0;
      versions = t.5;
    }
