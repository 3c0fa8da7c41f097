use Rattle.std.proofs.Common.{◌∙◌, ap, sym, subst, arith, length, List}
use Rattle.std.proofs.lemmas.Result.{IfOk-weaker, on_ok_weaker}
use Rattle.ir_core.specs.declared.code.Inst.{Inst}
use Rattle.ir_meaning.specs.Step.{phis}
use Rattle.ir_translator_emit.specs.Jumps.{whole}
use Rattle.ir_translator.specs.Fit.{AreFit, weight}
use Rattle.ir_translator.proofs.Bodies.{phis_weight, behind_fit, body_is, block_room, block_code, block_laid}
use Rattle.ir_translator.proofs.blocks.translate_block.Goals as goal

pub overflow_cast-heads : goal.overflow_cast-heads
overflow_cast-heads c =
    let many = ap (λ (xs : List Inst). length xs) c.phis_in.ensures in
    let all = phis_weight c.args.insts.now in
    let values = c.requires.values in
    omega (arith, many, all, values)

pub overflow_add-first : goal.overflow_add-first
overflow_add-first c =
    let many = ap (λ (xs : List Inst). length xs) c.phis_in.ensures in
    let all = phis_weight c.args.insts.now in
    let values = c.requires.values in
    omega (arith, many, all, values)

pub translate_insts-requires-clause-fit : goal.translate_insts-requires-clause-fit
translate_insts-requires-clause-fit c =
    subst (λ (xs : List Inst). AreFit (length c.args.translator.now.function.blocks) xs) (sym c.behind_phis.ensures)
    (behind_fit (length c.args.translator.now.function.blocks) (length (phis c.args.insts.now)) c.args.insts.now c.requires.fit)

pub translate_insts-requires-clause-values : goal.translate_insts-requires-clause-values
translate_insts-requires-clause-values c =
    let many = ap (λ (xs : List Inst). length xs) c.phis_in.ensures in
    let all = phis_weight c.args.insts.now in
    let behind = ap weight c.behind_phis.ensures in
    let values = c.requires.values in
    omega (arith, many, all, behind, values)

pub translate_insts-requires-clause-room : goal.translate_insts-requires-clause-room
translate_insts-requires-clause-room c =
    let many = ap (λ (xs : List Inst). length xs) c.phis_in.ensures in
    let all = phis_weight c.args.insts.now in
    let behind = ap weight c.behind_phis.ensures in
    let room = c.requires.room in
    omega (arith, many, all, behind, room)

pub translate_insts-requires-clause-own : goal.translate_insts-requires-clause-own
translate_insts-requires-clause-own c =
    let many = ap (λ (xs : List Inst). length xs) c.phis_in.ensures in
    let all = phis_weight c.args.insts.now in
    let behind = ap weight c.behind_phis.ensures in
    let own = c.requires.own in
    omega (arith, many, all, behind, own)

pub finish-requires : goal.finish-requires
finish-requires c =
    let w = c.args.translator.now in
    let e = c.in_ok-translate_insts.ensures.written
    ∙ ap (whole w) (body_is w.globals w.function c.args.from c.args.first (length c.phis_in.result.now) (length w.types) w.own w.pool c.args.insts.now c.behind_phis.result.now c.requires.fresh (ap (λ (xs : List Inst). length xs) c.phis_in.ensures) c.behind_phis.ensures) in
    block_room w c.translate_insts.new.translator _ c.finished-at.result c.requires.begins c.finished-at.ensures e

pub returns-clause-code : goal.returns-clause-code
returns-clause-code c =
    let w = c.args.translator.now in
    let e = c.in_ok-translate_insts.ensures.written
    ∙ ap (whole w) (body_is w.globals w.function c.args.from c.args.first (length c.phis_in.result.now) (length w.types) w.own w.pool c.args.insts.now c.behind_phis.result.now c.requires.fresh (ap (λ (xs : List Inst). length xs) c.phis_in.ensures) c.behind_phis.ensures) in
    IfOk-weaker c.finish.result _ _
    (λ code h. block_code w c.translate_insts.new.translator _ c.finished-at.result code c.requires.begins c.finished-at.ensures e h)
    c.finish.ensures.code

pub returns-clause-written : goal.returns-clause-written
returns-clause-written c =
    let w = c.args.translator.now in
    let e = c.in_ok-translate_insts.ensures.written
    ∙ ap (whole w) (body_is w.globals w.function c.args.from c.args.first (length c.phis_in.result.now) (length w.types) w.own w.pool c.args.insts.now c.behind_phis.result.now c.requires.fresh (ap (λ (xs : List Inst). length xs) c.phis_in.ensures) c.behind_phis.ensures) in
    on_ok_weaker c.finish.result
    (λ h. block_laid w c.translate_insts.new.translator c.finish.new.self _ c.finished-at.result c.requires.begins c.finished-at.ensures e h)
    c.finish.ensures.rest

pub returns-clause-most : goal.returns-clause-most
returns-clause-most c =
    let many = ap (λ (xs : List Inst). length xs) c.phis_in.ensures in
    let all = phis_weight c.args.insts.now in
    let behind = ap weight c.behind_phis.ensures in
    let most = c.in_ok-translate_insts.ensures.most in
    on_ok_weaker c.finish.result (λ h. omega (arith, many, all, behind, most, h)) c.finish.ensures.next

pub returns-clause-own : goal.returns-clause-own
returns-clause-own c =
    let many = ap (λ (xs : List Inst). length xs) c.phis_in.ensures in
    let all = phis_weight c.args.insts.now in
    let behind = ap weight c.behind_phis.ensures in
    let most = c.in_ok-translate_insts.ensures.own in
    on_ok_weaker c.finish.result (λ h. omega (arith, many, all, behind, most, h)) c.finish.ensures.own
