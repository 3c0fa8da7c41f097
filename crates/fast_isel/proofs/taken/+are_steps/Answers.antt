use Rattle.std.proofs.Common.{◌≡◌, ◌∙◌, sym, ap, List}
use Rattle.ir_core.specs.declared.types.Ty.TheVariants.{Void}
use Rattle.ir_core.specs.declared.types.MemTy.{MemTy}
use Rattle.ir_core.specs.declared.types.MemTy.TheVariants.{Array, Struct}
use Rattle.ir_core.specs.declared.code.Operand.TheVariants.{Value as Local}
use Rattle.fast_isel_emit.proofs.Adding.{array_answer, struct_answer, struct_past}
use Rattle.fast_isel.proofs.taken.+are_steps.Goals as goal

pub returns-then-is_number : goal.returns-then-is_number
returns-then-is_number t c =
    let is : c.args.ty.now ≡ Array c.in-Array.field-0 c.get.result.now = c.in-Array.is ∙ ap (λ (e : MemTy). Array c.in-Array.field-0 e) (sym c.get.ensures) in
    c.are_steps.ensures ∙ array_answer c.args.ty.now c.get.result.now c.in-Array.field-0 c.args.indices.now (Void, Local 0) is c.in-len1-up.len_at_least (sym c.is_number.ensures ∙ c.if-is_number.true)

pub returns-then-field-fields : goal.returns-then-field-fields
returns-then-field-fields t c =
    let is : c.args.ty.now ≡ Struct c.as_slice-fields.result.now c.in-Struct.field-1 = c.in-Struct.is ∙ ap (λ (fs : List MemTy). Struct fs c.in-Struct.field-1) (sym c.as_slice-fields.ensures) in
    sym (struct_past c.args.ty.now c.as_slice-fields.result.now c.in-Struct.field-1 c.literal-field.result c.args.indices.now (Void, Local 0) is c.in-len1-up.len_at_least c.literal-field.ensures (sym c.is_literal.ensures ∙ c.if-not-is_literal.false) c.if-fields.false c.if-field-fields.true)

pub returns-else-field-fields : goal.returns-else-field-fields
returns-else-field-fields t c =
    let is : c.args.ty.now ≡ Struct c.as_slice-fields.result.now c.in-Struct.field-1 = c.in-Struct.is ∙ ap (λ (fs : List MemTy). Struct fs c.in-Struct.field-1) (sym c.as_slice-fields.ensures) in
    c.are_steps-in-Struct.ensures
    ∙ struct_answer c.args.ty.now c.index-fields-field.result c.as_slice-fields.result.now c.in-Struct.field-1 c.literal-field.result c.args.indices.now (Void, Local 0) is c.in-len1-up.len_at_least c.literal-field.ensures (sym c.is_literal.ensures ∙ c.if-not-is_literal.false) c.if-fields.false c.if-field-fields.false c.index-fields-field.is
