use Rattle.std.proofs.Common.{◌∙◌, ap, List, ℕ, map}
use Rattle.rv_asm.specs.declared.item.Formed.{Formed}
use Rattle.rv_asm.specs.Layout.{item_of, goes_to, first_from, places_from}
use Rattle.rv_asm.proofs.Least.{least-first, least-next}
use Rattle.rv_asm.proofs.layout.lay_out.Goals as goal

pub loop-round-init : goal.loop-round-init
loop-round-init c = record { items = c.in_ok-formed.ensures.items; least = least-first _ _ _ c.in_ok-formed.ensures.short }

pub loop-round-preserved : goal.loop-round-preserved
loop-round-preserved c =
    let formed = c.deref-in-loop-round-3.ensures.value in
    let places = c.deref-in-loop-round-4.ensures.value in
    record {
      items = c.in_ok-formed-2.ensures.items ∙ ap (map item_of) formed ∙ c.loop-round.invariant.items;
      least = least-next _ _ c.loop-round.formed.items _ _ (c.in_ok-places.ensures.value ∙ ap (places_from 0) c.deref.ensures.value)
          (c.in_ok-formed-2.ensures.forms ∙ ap (λ (xs : List Formed). first_from (goes_to c.args.bound.now c.deref-in-loop-round-4.result.now) 0 xs) formed ∙ ap (λ (ps : List ℕ). first_from (goes_to c.args.bound.now ps) 0 c.loop-round.formed.items) places) c.loop-round.invariant.least;
    }
