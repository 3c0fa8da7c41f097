use Rattle.std.proofs.Common.{◌∙◌, ap, List, ◌+◌}
use Rattle.ir_core.specs.declared.program.Global.{Global}
use Rattle.ir_meaning.specs.Memory.{data_start}
use Rattle.ir_verify.proofs.Rows.{no_limit}
use Rattle.ir_data.specs.Image.{places_from, taken}
use Rattle.ir_data.proofs.Sizes.{few_bytes}
use Rattle.ir_eval.proofs.Checking.{are_places}
use Rattle.ir_eval.proofs.first.places_of.Goals as goal

pub places-requires : goal.places-requires
places-requires c = rw c.as_slice-globals.ensures (few_bytes c.args.all.now (no_limit c.args.all.now c.requires.rows))

pub taken-requires : goal.taken-requires
taken-requires c = rw c.as_slice-globals.ensures (few_bytes c.args.all.now (no_limit c.args.all.now c.requires.rows))

pub returns : goal.returns
returns c =
    are_places c.args.all.now.globals c.in_ok-known.known c.push.new.self _
    (c.in_ok-known.ensures ∙ ap (λ (gs : List Global). places_from data_start gs) c.as_slice-globals.ensures)
    (ap (λ n. data_start + n) (c.taken.ensures.value ∙ ap (λ (gs : List Global). taken gs) c.as_slice-globals.ensures))
    c.in_ok-push.ensures.ok
