-- What the code's extensions stand for.
use Rattle.std.specs.Prelude.{◌≡◌, ◌≤◌, ℕ, List, Some, slice_get}
use Rattle.gmir.specs.declared.code.GType.{GType}
use Rattle.gmir.specs.declared.code.GType.TheVariants.{S, P0}
use Rattle.legalizer.specs.declared.extend.Extended.{Extended}
use Rattle.legalizer.specs.declared.extend.Extended.TheVariants.{Kept, ByZeros, BySigns}
use Rattle.legalizer.specs.declared.extend.Asked.{Asked}
use Rattle.legalizer.specs.declared.extend.Asked.TheVariants.{Anything, Zeros, Signs}
use Rattle.legal_code.specs.Legal as legal

abbrev pub extension_of : Extended → legal.Extension
extension_of Kept = legal.Kept
extension_of (ByZeros w) = legal.ByZeros w
extension_of (BySigns w) = legal.BySigns w

abbrev pub above_of : Asked → legal.Above
above_of Anything = legal.Anything
above_of Zeros = legal.Zeros
above_of Signs = legal.Signs

-- a scalar has from 1 to 64 bits, as `widths` of gmir's `IsFormed` says
abbrev pub IsNarrowType : GType → Type 0
IsNarrowType (S w) = (1 ≤ w) × (w ≤ 64)
IsNarrowType P0 = Unit {0}

abbrev pub AreNarrow : List GType → Type 0
AreNarrow types = (r w : ℕ) → slice_get types r ≡ Some (S w) → (1 ≤ w) × (w ≤ 64)

-- so has the width that is extended from
abbrev pub IsNarrow : Extended → Type 0
IsNarrow Kept = Unit {0}
IsNarrow (ByZeros w) = (1 ≤ w) × (w ≤ 64)
IsNarrow (BySigns w) = (1 ≤ w) × (w ≤ 64)
