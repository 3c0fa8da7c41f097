-- What holds of all spans.
use Rattle.std.specs.Prelude.{◌≡◌, length}
use Rattle.mir.specs.declared.code.MFunction.{MFunction}
use Rattle.mir.specs.declared.places.Intervals.{Intervals}
use Rattle.mir.specs.Live.{Covers, IsTight}

-- of spans for so many registers, those that cover a function and are tight are the only ones
abbrev pub SpansAreDetermined : Type 0
SpansAreDetermined = (f : MFunction) (one other : Intervals) → Covers f one → IsTight f one → Covers f other → IsTight f other
    → length one.spans ≡ length other.spans → one.spans ≡ other.spans
