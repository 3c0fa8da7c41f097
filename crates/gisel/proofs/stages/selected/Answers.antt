use Rattle.std.proofs.Common.{ap, subst, sym, ◌∙◌, ◌<◌, ◌^◌, ◌+◌, length}
use Rattle.gmir.specs.declared.code.GFunction.{GFunction}
use Rattle.selected_code.specs.Selected.{fresh_of}
use Rattle.gisel.proofs.Kept.{one-each}
use Rattle.gisel.proofs.Sizes.{legal-has-numbers, selected-has-numbers}
use Rattle.gisel.proofs.stages.selected.Goals as goal

pub legalize-requires-clause-room : goal.legalize-requires-clause-room
legalize-requires-clause-room c = legal-has-numbers c.args.function.now c.requires.small

pub select-requires-clause-room : goal.select-requires-clause-room
select-requires-clause-room c =
    subst (λ (g : GFunction). length g.types + fresh_of g.blocks < 2 ^ 32) (sym c.in_ok-legal.ensures.is) (selected-has-numbers c.args.function.now c.requires.small)

pub select-requires-clause-kept : goal.select-requires-clause-kept
select-requires-clause-kept c = ap length (c.as_slice.ensures.value ∙ c.in_ok-banks.ensures) ∙ one-each c.in_ok-legal.legal
