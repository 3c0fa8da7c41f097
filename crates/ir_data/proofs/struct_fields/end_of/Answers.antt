use Rattle.std.proofs.Common.{◌≡◌, ◌≤◌, ◌<◌, ◌+◌, ◌-◌, ◌^◌, refl, subst, length, ℕ, arith}
use Rattle.ir_core.specs.declared.types.MemTy.TheVariants.{Struct}
use Rattle.ir_core.proofs.Structs.{first-within}
use Rattle.ir_data.proofs.Fields.{some_field, field_within, last_end, ends_within}
use Rattle.ir_data.proofs.struct_fields.end_of.Goals as goal

pub size_of-requires : goal.size_of-requires
size_of-requires c =
    let some = some_field c.args.fields.now c.is_empty.result c.is_empty.ensures c.if-is_empty.false in
    field_within (Struct c.args.fields.now c.args.packed) c.index-fields-last.result c.args.fields.now c.args.packed (length c.args.fields.now - 1) c.requires.sizes refl (omega (arith, some)) c.index-fields-last.is

pub overflow_add-result : goal.overflow_add-result
overflow_add-result c =
    let some = some_field c.args.fields.now c.is_empty.result c.is_empty.ensures c.if-is_empty.false in
    let same = last_end c.args.packed c.args.fields.now (length c.args.fields.now - 1) c.field_offset.result c.size_of.result c.index-fields-last.result (omega (arith, some)) c.index-fields-last.is c.field_offset.ensures c.size_of.ensures in
    let within = ends_within c.args.packed c.args.fields.now c.requires.sizes in
    omega (arith, same, within)

pub returns : goal.returns
returns c =
    let some = some_field c.args.fields.now c.is_empty.result c.is_empty.ensures c.if-is_empty.false in
    last_end c.args.packed c.args.fields.now (length c.args.fields.now - 1) c.field_offset.result c.size_of.result c.index-fields-last.result (omega (arith, some)) c.index-fields-last.is c.field_offset.ensures c.size_of.ensures
