-- What a seat with all counts finds.
use Rattle.std.proofs.Common.{◌≡◌, ℕ, ◌+◌, [], ap, arith}
use Rattle.entry_counts.specs.Tally.{Found, counted, times}
use Rattle.entry_counts.specs.declared.view.Tally.{Tally}

pub whole_found : (v : Tally) (k n : ℕ) → v.parts ≡ 64 → v.own ≡ [] → Found v k n → n ≡ times k v.joined
whole_found v k n whole none found = let e = found.1 whole in let z = ap (times k) none in omega (arith, e, z)
