use Rattle.std.proofs.Common.{◌≡◌, ◌≤◌, ap, ◌∙◌, length, arith}
use Rattle.hart.specs.Fixed.{code_of}
use Rattle.hart.proofs.fixed.FixedFabric.new.Goals as goal

pub invariant_of-result : goal.invariant_of-result
invariant_of-result c =
    let long : length c.in_ok-cells.code.items ≡ length (code_of 0 c.args.versions.items) =
    ap length (c.in_ok-cells.ensures.code ∙ ap (code_of 0) c.as_slice.ensures.value) in
    let room : length (code_of 0 c.args.versions.items) ≤ 4194304 = c.requires.room in
    let fewer : length c.in_ok-cells.cells.items ≤ length c.in_ok-cells.code.items = c.in_ok-cells.ensures.fewer in
    record { few = omega arith; symbols = omega arith }
