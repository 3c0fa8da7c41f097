use Rattle.std.proofs.Common.{◌≡◌, ◌+◌, length, drop, List, sym, arith, ap, ◌∙◌}
use Rattle.ir_meaning.specs.Value.{Value}
use Rattle.ir_meaning.specs.Step.{Program, insts_at, phis, phi_value, with_phis, with_result}
use Rattle.ir_eval.proofs.Heads.{phis_within, next_phi}
use Rattle.ir_eval.specs.Code.{program_with}
use Rattle.ir_eval.proofs.edges.set_phis.Goals as goal

pub put-requires-clause-place : goal.put-requires-clause-place
put-requires-clause-place c =
    let long : length c.args.heads.now ≡ length (phis (insts_at c.args.function.now c.args.to)) = ap (λ (is : _). length is) c.requires.heads in
    let below = c.loop-place-test.true in
    let within = phis_within (insts_at c.args.function.now c.args.to) in
    omega (arith, long, below, within)

pub loop-place-preserved : goal.loop-place-preserved
loop-place-preserved c =
    let next = next_phi (program_with c.args.all.now c.args.room) c.args.function.now c.args.from c.args.values.now c.args.to c.loop-place.place c.args.heads.now c.index-heads-place.result
    c.loop-place.values c.loop-place-test.true c.index-heads-place.is in
    let P : Program = program_with c.args.all.now c.args.room in
    let value : c.phi_value-value.result ≡ phi_value P c.args.values.now c.args.from c.index-heads-place.result.op =
    c.phi_value-value.ensures ∙ ap (λ (vs : List Value). phi_value P vs c.args.from c.index-heads-place.result.op) (c.as_slice-in-loop-place.ensures ∙ c.in_ok-before.ensures ∙ c.as_slice.ensures) in
    ap (λ (vs : List Value). with_phis P c.args.function.now c.args.from c.args.values.now c.args.to (c.loop-place.place + 1) (drop (c.loop-place.place + 1) c.args.heads.now) vs)
    (c.put.ensures ∙ ap (λ (v : Value). with_result c.args.function.now c.args.to c.loop-place.place c.index-heads-place.result v c.loop-place.values) value)
    ∙ sym next ∙ c.loop-place.invariant
