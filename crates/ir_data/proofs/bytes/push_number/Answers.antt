use Rattle.std.proofs.Common.{◌∙◌, ◌%◌, ◌/◌, ap, length, ◌∷◌, [], arith, refl}
use Rattle.std.proofs.lemmas.List.{length-append}
use Rattle.ir_data.proofs.Steps.{next_digit}
use Rattle.ir_data.proofs.bytes.push_number.Goals as goal

pub loop-preserved : goal.loop-preserved
loop-preserved c = record {
  value = rw c.in_ok-push.ensures.ok (next_digit c.loop.bytes c.args.count c.loop.counter c.loop.rest (c.loop.rest % 256) (c.loop.rest / 256) (omega arith) refl refl) ∙ c.loop.invariant.value;
  more =
      let e = ap length c.in_ok-push.ensures.ok in
      let l = length-append c.loop.bytes (c.loop.rest % 256 ∷ []) in
      omega (arith, e, l, c.loop.invariant.more);
}
