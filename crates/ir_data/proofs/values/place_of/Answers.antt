use Rattle.std.proofs.Common.{◌≡◌, ◌+◌, ◌%◌, ◌^◌, ap}
use Rattle.std.specs.Prelude.{slice_index_or}
use Rattle.ir_meaning.specs.Memory.{data_start}
use Rattle.ir_meaning.specs.Image.{address_of}
use Rattle.ir_data.proofs.Steps.{place_at, places_long}
use Rattle.ir_data.proofs.values.place_of.Goals as goal

pub bounds-places-global : goal.bounds-places-global
bounds-places-global c = rw (c.requires.places, places_long c.args.globals.now data_start) c.requires.exists

pub returns : goal.returns
returns c =
    let at : slice_index_or c.args.places.now c.args.global 0 ≡ address_of c.args.globals.now c.args.global =
    rw c.requires.places (place_at c.args.globals.now data_start c.args.global c.requires.exists) in
    ap (λ n. (n + c.args.offset) % 2 ^ 64) at
