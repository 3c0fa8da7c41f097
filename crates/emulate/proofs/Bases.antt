-- A fabric has a cell for each of its versions.
use Rattle.std.proofs.Common.{ℕ, suc, ◌+◌, ◌≡◌, refl, ap, List, [], ◌∷◌, length}
use Rattle.rv_play.specs.declared.version.Version.{Version}
use Rattle.hart.specs.Fixed.{bases_of}

pub bases_count : (place : ℕ) (versions : List Version) → length (bases_of place versions) ≡ length versions
bases_count place [] = refl
bases_count place (v ∷ versions) = ap (λ n. suc n) (bases_count (place + 1 + length v.words) versions)
