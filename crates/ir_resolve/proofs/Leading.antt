-- Fields of a type within its limits are within theirs.
use Rattle.std.proofs.Common.{◌≡◌, ℕ, Bool, Bor, List, Option, Some, None, subst, sym}
use Rattle.std.specs.Prelude.{slice_get, option_copied, IfSome}
use Rattle.std.proofs.lemmas.Option.{slice_get_within, get_or_from_slice_get}
use Rattle.ir_core.specs.declared.types.MemTy.{MemTy}
use Rattle.ir_core.specs.declared.types.MemTy.TheVariants.{Struct}
use Rattle.ir_core.specs.Layout.{HasSizesWithin}
use Rattle.ir_core.proofs.Structs.{struct-fields}

pub field_within : (fields : List MemTy) (packed : Bool) (n : ℕ) (field : MemTy) → HasSizesWithin (Struct fields packed) → slice_get fields n ≡ Some field → HasSizesWithin field
field_within fields packed n field h e =
    subst (λ (ty : MemTy). HasSizesWithin ty) (get_or_from_slice_get fields n field field e) (struct-fields fields packed h n field (slice_get_within fields n field e))

pub fields_within : (fields : List MemTy) (packed : Bool) (n : ℕ) (found : Option (Bor MemTy)) → HasSizesWithin (Struct fields packed) → option_copied found ≡ slice_get fields n → IfSome found (λ part. HasSizesWithin part.now)
fields_within fields packed n None h e = tt
fields_within fields packed n (Some part) h e = field_within fields packed n part.now h (sym e)
