use Rattle.std.proofs.Common.{◌≡◌, sym, ◌∙◌}
use Rattle.ir_data.proofs.Fields.{offset_behind}
use Rattle.ir_data.proofs.struct_fields.offset_of.Goals as goal

pub returns-else-field-fields : goal.returns-else-field-fields
returns-else-field-fields c = c.end_of.ensures ∙ sym (offset_behind c.args.packed c.args.fields.now c.args.field c.if-field-fields.false)
