use Rattle.std.proofs.Common.{subst}
use Rattle.ir_core.specs.declared.types.MemTy.{MemTy}
use Rattle.ir_core.specs.Layout.{HasSizesWithin}
use Rattle.ir_resolve.proofs.Leading.{fields_within}
use Rattle.ir_resolve.proofs.offsets.part_in.Goals as goal

pub returns-in-Struct-clause-sizes : goal.returns-in-Struct-clause-sizes
returns-in-Struct-clause-sizes c =
    fields_within c.in-Struct.fields c.in-Struct.field-1 c.args.index c.get-in-Struct.result (subst (λ (ty : MemTy). HasSizesWithin ty) c.in-Struct.is c.requires) c.get-in-Struct.ensures.value
