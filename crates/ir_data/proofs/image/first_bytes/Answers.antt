use Rattle.std.proofs.Common.{◌≡◌, ◌<◌, ◌+◌, ◌-◌, ◌++◌, List, ◌∙◌, ap, sym, subst, arith, rules, length, map, Some}
use Rattle.ir_meaning.specs.Image.{zeros}
use Rattle.ir_core.specs.declared.program.Global.{Global}
use Rattle.ir_core.specs.Layout.{size, HasSizesWithin}
use Rattle.ir_verify.proofs.Rows.{no_limit, globals_fit}
use Rattle.ir_data.specs.Image.{HasFewBytes}
use Rattle.ir_data.proofs.Sizes.{few_bytes}
use Rattle.ir_data.proofs.Steps.{global_fits, after_long, known_on, long_on, last_on, taken_on, size_spans}
use Rattle.ir_data.proofs.image.first_bytes.Goals as goal

pub places-requires : goal.places-requires
places-requires c = rw c.as_slice-globals.ensures (few_bytes c.args.all.now (no_limit c.args.all.now c.requires.rows))

pub push_init-requires : goal.push_init-requires
push_init-requires c =
    let few : HasFewBytes c.as_slice-globals.result.now = rw c.as_slice-globals.ensures (few_bytes c.args.all.now (no_limit c.args.all.now c.requires.rows)) in
    record {
      stand = search rules;
      sizes = subst (λ (g : Global). HasSizesWithin g.ty) (sym c.global-item.is) (few.sizes c.loop-global.global-index c.global-item.result (omega arith));
      fits = global_fits (length c.as_slice-globals.result.now) c.as_slice-globals.result.now c.loop-global.global-index c.global-item.result
          (rw c.as_slice-globals.ensures (globals_fit c.args.all.now c.requires.rows)) (omega arith) c.global-item.is;
    }

pub span-start-requires : goal.span-start-requires
span-start-requires c =
    let few : HasFewBytes c.as_slice-globals.result.now = rw c.as_slice-globals.ensures (few_bytes c.args.all.now (no_limit c.args.all.now c.requires.rows)) in
    subst (λ (g : Global). HasSizesWithin g.ty) (sym c.global-item.is) (few.sizes c.loop-global.global-index c.global-item.result (omega arith))

pub loop-global-preserved : goal.loop-global-preserved
loop-global-preserved c =
    let below : c.loop-global.global-index < length c.as_slice-globals.result.now = omega arith in
    let pad : map Some c.push_zeros.new.bytes ≡ map Some c.loop-global.bytes ++ zeros (c.loop-global.start - length c.loop-global.bytes) = rw (← c.len-len.ensures) c.in_ok-push_zeros.ensures.value in
    let pad_more : length c.push_zeros.new.bytes ≡ length c.loop-global.bytes + (c.loop-global.start - length c.loop-global.bytes) = omega (arith, c.len-len.ensures, c.in_ok-push_zeros.ensures.more) in
    let long : length c.push_init.new.bytes ≡ c.loop-global.start + size c.global-item.result.ty =
    after_long c.as_slice-globals.result.now c.loop-global.global-index c.loop-global.start c.global-item.result c.loop-global.bytes c.push_zeros.new.bytes c.push_init.new.bytes
    below c.global-item.is c.loop-global.invariant.known c.loop-global.invariant.below c.loop-global.invariant.top pad pad_more c.in_ok-push_init.ensures.value c.in_ok-push_init.ensures.more in
    record {
      known = rw c.span-start.ensures.value (known_on c.as_slice-globals.result.now c.loop-global.global-index c.loop-global.start c.global-item.result c.loop-global.bytes c.push_zeros.new.bytes c.push_init.new.bytes
          below c.global-item.is c.loop-global.invariant.known c.loop-global.invariant.below c.loop-global.invariant.top pad pad_more c.in_ok-push_init.ensures.value c.in_ok-push_init.ensures.more);
      below = omega (arith, long, size_spans c.global-item.result, c.span-start.ensures.value);
      end = rw c.span-start.ensures.value (last_on c.as_slice-globals.result.now c.loop-global.global-index c.loop-global.start c.global-item.result c.loop-global.bytes c.push_zeros.new.bytes c.push_init.new.bytes
          below c.global-item.is c.loop-global.invariant.known c.loop-global.invariant.below c.loop-global.invariant.top pad pad_more c.in_ok-push_init.ensures.value c.in_ok-push_init.ensures.more
          c.loop-global.invariant.end);
      top = rw c.span-start.ensures.value (long_on c.as_slice-globals.result.now c.loop-global.global-index c.loop-global.start c.global-item.result c.loop-global.bytes c.push_zeros.new.bytes c.push_init.new.bytes
          below c.global-item.is c.loop-global.invariant.known c.loop-global.invariant.below c.loop-global.invariant.top pad pad_more c.in_ok-push_init.ensures.value c.in_ok-push_init.ensures.more);
      start = rw c.span-start.ensures.value (taken_on c.as_slice-globals.result.now c.loop-global.global-index c.loop-global.start c.global-item.result c.loop-global.bytes c.push_zeros.new.bytes c.push_init.new.bytes
          below c.global-item.is c.loop-global.invariant.known c.loop-global.invariant.below c.loop-global.invariant.top pad pad_more c.in_ok-push_init.ensures.value c.in_ok-push_init.ensures.more
          c.loop-global.invariant.start);
      most = omega (arith, c.loop-global.invariant.most, c.span-start.ensures.most);
    }
