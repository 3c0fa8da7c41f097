use Rattle.std.proofs.Common.{◌≡◌, ◌-◌, ◌++◌, List, ◌∙◌, ap, sym, subst, arith, rules, length, map, Some, None, replicate, ℕ}
use Rattle.ir_core.specs.declared.program.Global.{Global}
use Rattle.ir_core.specs.Layout.{HasSizesWithin}
use Rattle.ir_meaning.specs.Memory.{Memory}
use Rattle.ir_meaning.specs.Image.{span, initial}
use Rattle.ir_verify.proofs.Rows.{no_limit, globals_fit}
use Rattle.ir_data.specs.Image.{HasFewBytes}
use Rattle.ir_data.proofs.Sizes.{few_bytes}
use Rattle.ir_data.proofs.Steps.{global_fits}
use Rattle.ir_eval.proofs.Beginning.{one_more}
use Rattle.ir_eval.proofs.first.first_memory.Goals as goal

pub places-requires : goal.places-requires
places-requires c = rw c.as_slice-globals.ensures (few_bytes c.args.all.now (no_limit c.args.all.now c.requires.rows))

pub push_init-requires : goal.push_init-requires
push_init-requires c =
    let few : HasFewBytes c.as_slice-globals.result.now = rw c.as_slice-globals.ensures (few_bytes c.args.all.now (no_limit c.args.all.now c.requires.rows)) in
    record {
      stand = search rules;
      sizes = subst (λ (g : Global). HasSizesWithin g.ty) (sym c.global-item.is) (few.sizes c.loop-global.global-index c.global-item.result (omega arith));
      fits = global_fits (length c.as_slice-globals.result.now) c.as_slice-globals.result.now c.loop-global.global-index c.global-item.result
          (rw c.as_slice-globals.ensures (globals_fit c.args.all.now c.requires.rows)) (omega arith) c.global-item.is;
    }

pub span-requires : goal.span-requires
span-requires c =
    let few : HasFewBytes c.as_slice-globals.result.now = rw c.as_slice-globals.ensures (few_bytes c.args.all.now (no_limit c.args.all.now c.requires.rows)) in
    subst (λ (g : Global). HasSizesWithin g.ty) (sym c.global-item.is) (few.sizes c.loop-global.global-index c.global-item.result (omega arith))

pub size_of-requires : goal.size_of-requires
size_of-requires c =
    let few : HasFewBytes c.as_slice-globals.result.now = rw c.as_slice-globals.ensures (few_bytes c.args.all.now (no_limit c.args.all.now c.requires.rows)) in
    subst (λ (g : Global). HasSizesWithin g.ty) (sym c.global-item.is) (few.sizes c.loop-global.global-index c.global-item.result (omega arith))

pub loop-global-preserved : goal.loop-global-preserved
loop-global-preserved c =
    let own : map Some c.push_init.new.bytes ≡ initial c.as_slice-globals.result.now c.global-item.result.ty c.global-item.result.init =
    c.in_ok-push_init.ensures.value ∙ ap (λ (bs : List ℕ). map Some bs ++ initial c.as_slice-globals.result.now c.global-item.result.ty c.global-item.result.init) c.new-bytes.ensures in
    let grown : c.extend.new.self ≡ c.push_bytes.new.memory ++ replicate (c.span.result - c.size_of.result) None = c.in_ok-extend.ensures in
    let pushed : c.push_bytes.new.memory ≡ c.loop-global.memory ++ map Some c.as_slice-in-loop-global.result.now = c.in_ok-push_bytes.ensures in
    one_more c.as_slice-globals.result.now c.loop-global.global-index c.global-item.result c.loop-global.memory c.extend.new.self (c.span.result - c.size_of.result) (map Some c.push_init.new.bytes)
    (omega arith) c.global-item.is c.loop-global.invariant own
    (ap (λ (s : ℕ). s - c.size_of.result) c.span.ensures.value ∙ ap (λ (s : ℕ). span c.global-item.result - s) c.size_of.ensures)
    (grown ∙ ap (λ (m : Memory). m ++ replicate (c.span.result - c.size_of.result) None)
    (pushed ∙ ap (λ (bs : List ℕ). c.loop-global.memory ++ map Some bs) c.as_slice-in-loop-global.ensures))
