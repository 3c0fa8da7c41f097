use Rattle.std.proofs.Common.{◌≡◌, ℕ, ◌+◌, List, [], ◌∷◌, length, map, refl, sym, ◌∙◌, ap, arith}
use Rattle.std.specs.Prelude.{sum_by}
use Rattle.ir_flow.specs.Limits.{nodes, capped}
use Rattle.ir_flow.proofs.nodes.count_nodes.Goals as goal

none_left : {A : Type 0} (xs : List A) (n : ℕ) → n ≡ length xs → n ≡ 0 → xs ≡ []
none_left [] n e h = refl
none_left (x ∷ xs) n e h = absurd (omega arith)

pub returns : goal.returns
returns c =
    let empty = none_left c.loop-next.left.items _ c.loop-next.left.ok.0 c.in_default.ensures.cases.0 in
    let same = rw empty at c.loop-next.invariant.same in
    omega (arith, same, c.loop-next.invariant.small)
