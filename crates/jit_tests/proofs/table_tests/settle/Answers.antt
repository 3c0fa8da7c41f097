use Rattle.std.proofs.Common.{ℕ, List, ◌<◌, sym, ap, subst, ◌∙◌}
use Rattle.code_epochs.specs.Sound.{Has}
use Rattle.jit_tests.proofs.table_tests.settle.Goals as goal

pub close-requires : goal.close-requires
close-requires c = λ h low.
    let harts = ap (λ t. t.now.harts) (c.collect.ensures.table ∙ c.gather.ensures.table) in
    subst (λ (l : List ℕ). Has l h) (sym c.collect.ensures.collected.gone) (c.gather.ensures.all_gone h (subst (λ (n : ℕ). h < n) harts low))
