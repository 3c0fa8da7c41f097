-- Types of registers have few bits.
use Rattle.std.proofs.Common.{◌≡◌, ℕ, List}
use Rattle.std.specs.Prelude.{slice_get, Some}
use Rattle.gmir.specs.declared.code.GType.{GType}
use Rattle.gmir.specs.declared.code.GType.TheVariants.{S, P0}
use Rattle.legalizer.specs.Extends.{IsNarrowType, AreNarrow}

pub type_is_narrow : (types : List GType) (r : ℕ) (ty : GType) → AreNarrow types → slice_get types r ≡ Some ty → IsNarrowType ty
type_is_narrow types r P0 h e = tt
type_is_narrow types r (S w) h e = h r w e
