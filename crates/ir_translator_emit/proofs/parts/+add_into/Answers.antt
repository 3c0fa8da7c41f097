use Rattle.std.proofs.Common.{◌≡◌, ◌+◌, ◌%◌, ◌^◌, ◌∙◌, sym, ap, get_or, arith, rules, ℕ, List, [], ◌∷◌, ◌++◌}
use Rattle.std.proofs.lemmas.Result.{IfOk-weaker, on_ok_weaker}
use Rattle.ir_core.specs.declared.types.Ty.TheVariants.{Void}
use Rattle.ir_core.specs.declared.types.MemTy.{MemTy}
use Rattle.ir_core.specs.declared.types.MemTy.TheVariants.{Array, Struct}
use Rattle.ir_core.specs.declared.code.Operand.TheVariants.{Value as Local}
use Rattle.generic_code.specs.Parts.{Addend, Bytes, sized, addends_into, bytes_in}
use Rattle.ir_translator_emit.specs.Sums.{addends_of_values, only_values}
use Rattle.ir_translator_emit.proofs.Adding.{none_into, array_all, struct_all, struct_none, two_values, two_counts, read_apart, rest_of, field_is_few, element_is_few, struct_is_few, values_none}
use Rattle.ir_translator_emit.proofs.parts.+add_into.Goals as goal

pub returns-in_default-clause-scaled : goal.returns-in_default-clause-scaled
returns-in_default-clause-scaled t c = none_into c.args.scaled.now c.args.indices.now c.args.of.now c.in_default.len_below

pub size_of-requires : goal.size_of-requires
size_of-requires t c =
    let is : c.args.of.now ≡ Array c.in-Array.field-0 c.get-element.result.now = c.in-Array.is ∙ ap (λ (e : MemTy). Array c.in-Array.field-0 e) (sym c.get-element.ensures) in
    (element_is_few c.args.of.now c.get-element.result.now c.in-Array.field-0 is c.requires.sizes c.requires.few).sizes

pub add_index-requires : goal.add_index-requires
add_index-requires t c = (read_apart c.args.indices.now (Void, Local 0) c.in-len1-up.len_at_least c.requires.indices).0

pub add_into-requires : goal.add_into-requires
add_into-requires t c =
    let is : c.args.of.now ≡ Array c.in-Array.field-0 c.get-element.result.now = c.in-Array.is ∙ ap (λ (e : MemTy). Array c.in-Array.field-0 e) (sym c.get-element.ensures) in
    let few = element_is_few c.args.of.now c.get-element.result.now c.in-Array.field-0 is c.requires.sizes c.requires.few in
    (search rules, ((read_apart c.args.indices.now (Void, Local 0) c.in-len1-up.len_at_least c.requires.indices).1, (few.sizes, few.few)))

pub returns-in_ok-bytes-in-Array-clause-scaled : goal.returns-in_ok-bytes-in-Array-clause-scaled
returns-in_ok-bytes-in-Array-clause-scaled t c =
    let is : c.args.of.now ≡ Array c.in-Array.field-0 c.get-element.result.now = c.in-Array.is ∙ ap (λ (e : MemTy). Array c.in-Array.field-0 e) (sym c.get-element.ensures) in
    on_ok_weaker c.add_into.result
    (λ d. two_values (sized c.size_of.result (get_or c.args.indices.now 0 (Void, Local 0)).0 (get_or c.args.indices.now 0 (Void, Local 0)).1) (addends_into (rest_of c.args.indices.now) c.get-element.result.now)
    (addends_into c.args.indices.now c.args.of.now) (addends_of_values c.args.scaled.now) (addends_of_values c.add_index.new.scaled) (addends_of_values c.add_into.new.scaled) c.in_ok-bytes-in-Array.ensures.scaled d
    (array_all c.args.of.now c.get-element.result.now c.in-Array.field-0 c.size_of.result c.args.indices.now (Void, Local 0) is c.in-len1-up.len_at_least c.size_of.ensures))
    c.add_into.ensures.scaled

pub returns-in_ok-bytes-in-Array-clause-bytes : goal.returns-in_ok-bytes-in-Array-clause-bytes
returns-in_ok-bytes-in-Array-clause-bytes t c =
    let is : c.args.of.now ≡ Array c.in-Array.field-0 c.get-element.result.now = c.in-Array.is ∙ ap (λ (e : MemTy). Array c.in-Array.field-0 e) (sym c.get-element.ensures) in
    IfOk-weaker c.add_into.result _ _
    (λ all h. two_counts c.args.bytes c.in_ok-bytes-in-Array.bytes all (sized c.size_of.result (get_or c.args.indices.now 0 (Void, Local 0)).0 (get_or c.args.indices.now 0 (Void, Local 0)).1) (addends_into (rest_of c.args.indices.now) c.get-element.result.now)
    (addends_into c.args.indices.now c.args.of.now) c.in_ok-bytes-in-Array.ensures.bytes h
    (array_all c.args.of.now c.get-element.result.now c.in-Array.field-0 c.size_of.result c.args.indices.now (Void, Local 0) is c.in-len1-up.len_at_least c.size_of.ensures))
    c.add_into.ensures.bytes

pub number_of-field-requires : goal.number_of-field-requires
number_of-field-requires t c = (read_apart c.args.indices.now (Void, Local 0) c.in-len1-up.len_at_least c.requires.indices).0

pub offset_of-requires-clause-few : goal.offset_of-requires-clause-few
offset_of-requires-clause-few t c =
    let is : c.args.of.now ≡ Struct c.as_slice-fields.result.now c.in-Struct.packed = c.in-Struct.is ∙ ap (λ (fs : List MemTy). Struct fs c.in-Struct.packed) (sym c.as_slice-fields.ensures) in
    (struct_is_few c.args.of.now c.as_slice-fields.result.now c.in-Struct.packed is c.requires.sizes c.requires.few).1

pub returns-then-field-fields-clause-scaled : goal.returns-then-field-fields-clause-scaled
returns-then-field-fields-clause-scaled t c =
    let is : c.args.of.now ≡ Struct c.as_slice-fields.result.now c.in-Struct.packed = c.in-Struct.is ∙ ap (λ (fs : List MemTy). Struct fs c.in-Struct.packed) (sym c.as_slice-fields.ensures) in
    sym (values_none (addends_of_values c.args.scaled.now))
    ∙ ap (λ (xs : List Addend). addends_of_values c.args.scaled.now ++ only_values xs)
    (sym (struct_none c.args.of.now c.as_slice-fields.result.now c.in-Struct.packed c.number_of-field.result c.offset_of.result c.args.indices.now (Void, Local 0) is c.in-len1-up.len_at_least c.number_of-field.ensures c.if-field-fields.true c.offset_of.ensures))

pub returns-then-field-fields-clause-bytes : goal.returns-then-field-fields-clause-bytes
returns-then-field-fields-clause-bytes t c =
    let is : c.args.of.now ≡ Struct c.as_slice-fields.result.now c.in-Struct.packed = c.in-Struct.is ∙ ap (λ (fs : List MemTy). Struct fs c.in-Struct.packed) (sym c.as_slice-fields.ensures) in
    let none = ap bytes_in (struct_none c.args.of.now c.as_slice-fields.result.now c.in-Struct.packed c.number_of-field.result c.offset_of.result c.args.indices.now (Void, Local 0) is c.in-len1-up.len_at_least c.number_of-field.ensures c.if-field-fields.true c.offset_of.ensures) in
    let same : c.offset_of.result ≡ bytes_in (addends_into c.args.indices.now c.args.of.now) = omega (arith, none) in
    ap (λ (k : ℕ). (c.args.bytes + k) % 2 ^ 64) same

pub add_into-requires-in-Struct : goal.add_into-requires-in-Struct
add_into-requires-in-Struct t c =
    let is : c.args.of.now ≡ Struct c.as_slice-fields.result.now c.in-Struct.packed = c.in-Struct.is ∙ ap (λ (fs : List MemTy). Struct fs c.in-Struct.packed) (sym c.as_slice-fields.ensures) in
    let few = field_is_few c.args.of.now c.index-fields-field.result c.as_slice-fields.result.now c.in-Struct.packed c.number_of-field.result is c.requires.sizes c.requires.few c.if-field-fields.false c.index-fields-field.is in
    (search rules, ((read_apart c.args.indices.now (Void, Local 0) c.in-len1-up.len_at_least c.requires.indices).1, (few.sizes, few.few)))

pub returns-else-field-fields-clause-scaled : goal.returns-else-field-fields-clause-scaled
returns-else-field-fields-clause-scaled t c =
    let is : c.args.of.now ≡ Struct c.as_slice-fields.result.now c.in-Struct.packed = c.in-Struct.is ∙ ap (λ (fs : List MemTy). Struct fs c.in-Struct.packed) (sym c.as_slice-fields.ensures) in
    on_ok_weaker c.add_into-in-Struct.result
    (λ d. two_values (Bytes c.offset_of.result ∷ []) (addends_into (rest_of c.args.indices.now) c.index-fields-field.result) (addends_into c.args.indices.now c.args.of.now) (addends_of_values c.args.scaled.now) (addends_of_values c.args.scaled.now)
    (addends_of_values c.add_into-in-Struct.new.scaled) (sym (values_none (addends_of_values c.args.scaled.now))) d
    (struct_all c.args.of.now c.index-fields-field.result c.as_slice-fields.result.now c.in-Struct.packed c.number_of-field.result c.offset_of.result c.args.indices.now (Void, Local 0) is c.in-len1-up.len_at_least c.number_of-field.ensures c.if-field-fields.false c.index-fields-field.is c.offset_of.ensures))
    c.add_into-in-Struct.ensures.scaled

pub returns-else-field-fields-clause-bytes : goal.returns-else-field-fields-clause-bytes
returns-else-field-fields-clause-bytes t c =
    let is : c.args.of.now ≡ Struct c.as_slice-fields.result.now c.in-Struct.packed = c.in-Struct.is ∙ ap (λ (fs : List MemTy). Struct fs c.in-Struct.packed) (sym c.as_slice-fields.ensures) in
    IfOk-weaker c.add_into-in-Struct.result _ _
    (λ all h. two_counts c.args.bytes ((c.args.bytes + c.offset_of.result) % 2 ^ 64) all (Bytes c.offset_of.result ∷ []) (addends_into (rest_of c.args.indices.now) c.index-fields-field.result) (addends_into c.args.indices.now c.args.of.now) (omega arith) h
    (struct_all c.args.of.now c.index-fields-field.result c.as_slice-fields.result.now c.in-Struct.packed c.number_of-field.result c.offset_of.result c.args.indices.now (Void, Local 0) is c.in-len1-up.len_at_least c.number_of-field.ensures c.if-field-fields.false c.index-fields-field.is c.offset_of.ensures))
    c.add_into-in-Struct.ensures.bytes
