use Rattle.std.proofs.Common.{◌≡◌, ◌+◌, ◌%◌, ◌^◌, ◌∙◌, sym, ap, subst, get_or, arith, rules, ℕ, List, [], ◌∷◌}
use Rattle.std.proofs.lemmas.Result.{IfOk-weaker, on_ok_weaker}
use Rattle.ir_core.specs.declared.types.Ty.TheVariants.{Void}
use Rattle.ir_core.specs.declared.types.MemTy.{MemTy}
use Rattle.ir_core.specs.declared.types.MemTy.TheVariants.{Array, Struct}
use Rattle.ir_core.specs.declared.code.Operand.TheVariants.{Value as Local}
use Rattle.ir_core.specs.Layout.{HasSizesWithin}
use Rattle.quick_code.specs.Parts.{Piece, Bytes, sized, pieces_into, pieces_code, bytes_in}
use Rattle.ir_data.proofs.Sizes.{element_within}
use Rattle.ir_data.proofs.Fields.{field_within}
use Rattle.code_emit.specs.Written.{put_code}
use Rattle.code_emit.proofs.Put.{code_none}
use Rattle.fast_isel_emit.proofs.Adding.{none_into, array_all, array_steps, struct_all, struct_none, struct_steps, two_pieces, two_counts, indices_apart, rest_of}
use Rattle.fast_isel_emit.proofs.parts.+put_into.Goals as goal

pub returns-in_default-clause-code : goal.returns-in_default-clause-code
returns-in_default-clause-code t c = none_into c.args.asm.now c.args.indices.now c.args.ty.now c.in_default.len_below

pub put_into-requires : goal.put_into-requires
put_into-requires t c =
    let is : c.args.ty.now ≡ Array c.in-Array.field-0 c.get-element.result.now = c.in-Array.is ∙ ap (λ (e : MemTy). Array c.in-Array.field-0 e) (sym c.get-element.ensures) in
    let some = c.in-len1-up.len_at_least in (
      search rules,
      (
        (indices_apart c.args.values c.args.indices.now (Void, Local 0) some c.requires.indices).1,
        (
          array_steps c.args.ty.now c.get-element.result.now c.in-Array.field-0 c.args.indices.now (Void, Local 0) is some c.requires.steps,
          (element_within c.in-Array.field-0 c.get-element.result.now (subst HasSizesWithin is c.requires.sizes), c.requires.values),
        ),
      ),
    )

pub returns-in_ok-bytes-in-Array-clause-code : goal.returns-in_ok-bytes-in-Array-clause-code
returns-in_ok-bytes-in-Array-clause-code t c =
    let is : c.args.ty.now ≡ Array c.in-Array.field-0 c.get-element.result.now = c.in-Array.is ∙ ap (λ (e : MemTy). Array c.in-Array.field-0 e) (sym c.get-element.ensures) in
    on_ok_weaker c.put_into.result
    (λ d. two_pieces c.args.asm.now c.put_index.new.asm c.put_into.new.asm (sized c.size_of.result (get_or c.args.indices.now 0 (Void, Local 0)).0 (get_or c.args.indices.now 0 (Void, Local 0)).1) (pieces_into (rest_of c.args.indices.now) c.get-element.result.now) (pieces_into c.args.indices.now c.args.ty.now) c.in_ok-bytes-in-Array.ensures.code d
    (array_all c.args.ty.now c.get-element.result.now c.in-Array.field-0 c.size_of.result c.args.indices.now (Void, Local 0) is c.in-len1-up.len_at_least c.size_of.ensures))
    c.put_into.ensures.code

pub returns-in_ok-bytes-in-Array-clause-bytes : goal.returns-in_ok-bytes-in-Array-clause-bytes
returns-in_ok-bytes-in-Array-clause-bytes t c =
    let is : c.args.ty.now ≡ Array c.in-Array.field-0 c.get-element.result.now = c.in-Array.is ∙ ap (λ (e : MemTy). Array c.in-Array.field-0 e) (sym c.get-element.ensures) in
    IfOk-weaker c.put_into.result _ _
    (λ all h. two_counts c.args.bytes c.in_ok-bytes-in-Array.bytes all (sized c.size_of.result (get_or c.args.indices.now 0 (Void, Local 0)).0 (get_or c.args.indices.now 0 (Void, Local 0)).1) (pieces_into (rest_of c.args.indices.now) c.get-element.result.now) (pieces_into c.args.indices.now c.args.ty.now) c.in_ok-bytes-in-Array.ensures.bytes h
    (array_all c.args.ty.now c.get-element.result.now c.in-Array.field-0 c.size_of.result c.args.indices.now (Void, Local 0) is c.in-len1-up.len_at_least c.size_of.ensures))
    c.put_into.ensures.bytes

pub returns-then-field-fields-clause-code : goal.returns-then-field-fields-clause-code
returns-then-field-fields-clause-code t c =
    let is : c.args.ty.now ≡ Struct c.as_slice-fields.result.now c.in-Struct.packed = c.in-Struct.is ∙ ap (λ (fs : List MemTy). Struct fs c.in-Struct.packed) (sym c.as_slice-fields.ensures) in
    sym (code_none c.args.asm.now)
    ∙ ap (λ (ps : List Piece). put_code c.args.asm.now (pieces_code ps))
    (sym (struct_none c.args.ty.now c.as_slice-fields.result.now c.in-Struct.packed c.literal-field.result c.args.indices.now (Void, Local 0) is c.in-len1-up.len_at_least c.literal-field.ensures c.if-field-fields.true))

pub returns-then-field-fields-clause-bytes : goal.returns-then-field-fields-clause-bytes
returns-then-field-fields-clause-bytes t c =
    let is : c.args.ty.now ≡ Struct c.as_slice-fields.result.now c.in-Struct.packed = c.in-Struct.is ∙ ap (λ (fs : List MemTy). Struct fs c.in-Struct.packed) (sym c.as_slice-fields.ensures) in
    let none = ap bytes_in (struct_none c.args.ty.now c.as_slice-fields.result.now c.in-Struct.packed c.literal-field.result c.args.indices.now (Void, Local 0) is c.in-len1-up.len_at_least c.literal-field.ensures c.if-field-fields.true) in
    let last = c.end_of.ensures in
    let same : c.end_of.result ≡ bytes_in (pieces_into c.args.indices.now c.args.ty.now) = omega (arith, none, last) in
    ap (λ (k : ℕ). (c.args.bytes + k) % 2 ^ 64) same

pub put_into-requires-in-Struct : goal.put_into-requires-in-Struct
put_into-requires-in-Struct t c =
    let is : c.args.ty.now ≡ Struct c.as_slice-fields.result.now c.in-Struct.packed = c.in-Struct.is ∙ ap (λ (fs : List MemTy). Struct fs c.in-Struct.packed) (sym c.as_slice-fields.ensures) in
    let some = c.in-len1-up.len_at_least in
    let below = c.if-field-fields.false in
    let f = struct_steps c.args.ty.now c.as_slice-fields.result.now c.in-Struct.packed c.literal-field.result c.args.indices.now (Void, Local 0) is some c.literal-field.ensures c.requires.steps in (
      search rules,
      (
        (indices_apart c.args.values c.args.indices.now (Void, Local 0) some c.requires.indices).1,
        (
          f.rest c.index-fields-field.result below c.index-fields-field.is,
          (field_within c.args.ty.now c.index-fields-field.result c.as_slice-fields.result.now c.in-Struct.packed c.literal-field.result c.requires.sizes is below c.index-fields-field.is, c.requires.values),
        ),
      ),
    )

pub returns-else-field-fields-clause-code : goal.returns-else-field-fields-clause-code
returns-else-field-fields-clause-code t c =
    let is : c.args.ty.now ≡ Struct c.as_slice-fields.result.now c.in-Struct.packed = c.in-Struct.is ∙ ap (λ (fs : List MemTy). Struct fs c.in-Struct.packed) (sym c.as_slice-fields.ensures) in
    on_ok_weaker c.put_into-in-Struct.result
    (λ d. two_pieces c.args.asm.now c.args.asm.now c.put_into-in-Struct.new.asm (Bytes c.field_offset.result ∷ []) (pieces_into (rest_of c.args.indices.now) c.index-fields-field.result) (pieces_into c.args.indices.now c.args.ty.now) (sym (code_none c.args.asm.now)) d
    (struct_all c.args.ty.now c.index-fields-field.result c.as_slice-fields.result.now c.in-Struct.packed c.literal-field.result c.field_offset.result c.args.indices.now (Void, Local 0) is c.in-len1-up.len_at_least c.literal-field.ensures c.if-field-fields.false c.index-fields-field.is c.field_offset.ensures))
    c.put_into-in-Struct.ensures.code

pub returns-else-field-fields-clause-bytes : goal.returns-else-field-fields-clause-bytes
returns-else-field-fields-clause-bytes t c =
    let is : c.args.ty.now ≡ Struct c.as_slice-fields.result.now c.in-Struct.packed = c.in-Struct.is ∙ ap (λ (fs : List MemTy). Struct fs c.in-Struct.packed) (sym c.as_slice-fields.ensures) in
    IfOk-weaker c.put_into-in-Struct.result _ _
    (λ all h. two_counts c.args.bytes ((c.args.bytes + c.field_offset.result) % 2 ^ 64) all (Bytes c.field_offset.result ∷ []) (pieces_into (rest_of c.args.indices.now) c.index-fields-field.result) (pieces_into c.args.indices.now c.args.ty.now) (omega arith) h
    (struct_all c.args.ty.now c.index-fields-field.result c.as_slice-fields.result.now c.in-Struct.packed c.literal-field.result c.field_offset.result c.args.indices.now (Void, Local 0) is c.in-len1-up.len_at_least c.literal-field.ensures c.if-field-fields.false c.index-fields-field.is c.field_offset.ensures))
    c.put_into-in-Struct.ensures.bytes
