use Rattle.std.proofs.Common.{◌<◌, ap, sym, subst, ◌∙◌, length, List}
use Rattle.generic_code.specs.Edges.{edge_operands}
use Rattle.ir_translator_emit.specs.Written.{Written, Head, reads_on}
use Rattle.ir_translator_emit.proofs.Heads.{row_is, edge_reads}
use Rattle.ir_translator_emit.proofs.translator.Translator.operands_on.Goals as goal

pub returns : goal.returns
returns c =
    let f = c.self.inside.function.now in
    let row : List Head = c.index-self-to.result in
    let below : c.args.to < length f.blocks = subst (λ (w : Written). c.args.to < length w.function.blocks) (sym c.self.view_is) c.requires in
    c.in_ok-operands.ensures ∙ ap (λ (hs : List Head). reads_on c.args.from hs) (c.as_slice-heads.ensures ∙ sym c.index-self-to.is)
    ∙ edge_reads c.args.self.now.globals f c.args.from c.args.to row (row_is f c.self.inside.heads.now row c.args.to c.self.invariant below c.index-self-to.is)
    ∙ ap (λ (w : Written). edge_operands c.args.self.now.globals w.function c.args.from c.args.to) c.self.view_is
