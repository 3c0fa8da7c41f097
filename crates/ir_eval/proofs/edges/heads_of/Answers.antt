use Rattle.std.proofs.Common.{◌≡◌, take, ap, ◌∙◌, List, Option}
use Rattle.ir_core.specs.declared.code.Inst.{Inst}
use Rattle.ir_core.specs.declared.code.Block.{Block}
use Rattle.ir_meaning.specs.Step.{insts_at, insts_of, phis}
use Rattle.ir_eval.proofs.Heads.{phis_first}
use Rattle.ir_eval.proofs.edges.heads_of.Goals as goal

pub returns-in-Some : goal.returns-in-Some
returns-in-Some c =
    let at : c.as_slice-insts.result.now ≡ insts_at c.args.function.now c.args.to = c.as_slice-insts.ensures ∙ ap (λ (b : Option Block). insts_of b) c.in-Some.ensures.value in
    ap (λ n. take n c.as_slice-insts.result.now) c.count_phis-count.ensures.value ∙ phis_first c.as_slice-insts.result.now ∙ ap (λ (is : List Inst). phis is) at
