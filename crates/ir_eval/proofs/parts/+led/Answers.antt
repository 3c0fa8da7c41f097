use Rattle.std.proofs.Common.{◌≡◌, ◌+◌, ◌*◌, ◌%◌, ◌^◌, ◌∙◌, sym, ap, refl, List, rules, length, take, drop, ◌-◌, Option, ℕ}
use Rattle.ir_core.specs.declared.types.MemTy.{MemTy}
use Rattle.ir_core.specs.declared.types.MemTy.TheVariants.{Array, Struct}
use Rattle.ir_core.specs.declared.code.Operand.TheVariants.{Value as Local}
use Rattle.ir_core.specs.declared.types.Ty.TheVariants.{Void}
use Rattle.ir_core.specs.Layout.{size}
use Rattle.ir_meaning.specs.Step.{index_numbers}
use Rattle.ir_eval.specs.Beyond.{led_if, led_of}
use Rattle.ir_eval.specs.Code.{program_with}
use Rattle.ir_eval.proofs.Leading.{numbers_split, in_array, in_struct, past_struct, led_on, led_stuck, field_within, rest_fit}
use Rattle.ir_eval.proofs.parts.+led.Goals as goal

pub led-requires-then-n-fields : goal.led-requires-then-n-fields
led-requires-then-n-fields t c =
    let within = field_within c.args.ty.now c.index-fields-n.result c.as_slice-fields.result.now c.in-Struct.packed c.index_64-n.result c.requires.sizes
    (c.in-Struct.is ∙ ap (λ (fs : List MemTy). Struct fs c.in-Struct.packed) (sym c.as_slice-fields.ensures)) c.if-n-fields.true c.index-fields-n.is in
    (search rules, (c.requires.places, (rest_fit (program_with c.args.all.now c.args.room) c.args.values.now c.args.indices.now (Void, Local 0) c.in-len1-up.len_at_least c.requires.fits, within)))

pub returns-in-Array : goal.returns-in-Array
returns-in-Array t c =
    let rest : Option (List ℕ) = index_numbers (program_with c.args.all.now c.args.room) c.args.values.now (take (length c.args.indices.now - 1) (drop 1 c.args.indices.now)) in
    let next : ℕ = (c.args.address + c.index_64-n.result * c.size_of.result % 2 ^ 64) % 2 ^ 64 in
    let is : c.args.ty.now ≡ Array c.in-Array.field-0 c.get-element.result.now =
    c.in-Array.is ∙ ap (λ (e : MemTy). Array c.in-Array.field-0 e) (sym c.get-element.ensures) in
    let next_is : next ≡ (c.args.address + c.index_64-n.result * size c.get-element.result.now % 2 ^ 64) % 2 ^ 64 =
    ap (λ (s : ℕ). (c.args.address + c.index_64-n.result * s % 2 ^ 64) % 2 ^ 64) c.size_of.ensures in
    c.led.ensures
    ∙ led_on c.args.ty.now c.get-element.result.now c.index_64-n.result c.args.address next rest
    (λ ns. in_array c.args.ty.now c.get-element.result.now c.in-Array.field-0 c.index_64-n.result c.args.address next ns is next_is)
    ∙ ap (λ (r : Option (List ℕ)). led_of c.args.ty.now c.args.address r)
    (numbers_split (program_with c.args.all.now c.args.room) c.args.values.now c.args.indices.now _ c.in-Some.n c.index_64-n.result c.in-len1-up.len_at_least c.in-Some.ensures c.index_64-n.ensures)

pub returns-then-n-fields : goal.returns-then-n-fields
returns-then-n-fields t c =
    let rest : Option (List ℕ) = index_numbers (program_with c.args.all.now c.args.room) c.args.values.now (take (length c.args.indices.now - 1) (drop 1 c.args.indices.now)) in
    let next : ℕ = (c.args.address + c.offset_of.result) % 2 ^ 64 in
    let is : c.args.ty.now ≡ Struct c.as_slice-fields.result.now c.in-Struct.packed =
    c.in-Struct.is ∙ ap (λ (fs : List MemTy). Struct fs c.in-Struct.packed) (sym c.as_slice-fields.ensures) in
    c.led-then-n-fields.ensures
    ∙ led_on c.args.ty.now c.index-fields-n.result c.index_64-n.result c.args.address next rest
    (λ ns. in_struct c.args.ty.now c.index-fields-n.result c.as_slice-fields.result.now c.in-Struct.packed c.index_64-n.result c.args.address c.offset_of.result next ns is
    c.if-n-fields.true c.index-fields-n.is c.offset_of.ensures refl)
    ∙ ap (λ (r : Option (List ℕ)). led_of c.args.ty.now c.args.address r)
    (numbers_split (program_with c.args.all.now c.args.room) c.args.values.now c.args.indices.now _ c.in-Some.n c.index_64-n.result c.in-len1-up.len_at_least c.in-Some.ensures c.index_64-n.ensures)

pub returns-else-n-fields : goal.returns-else-n-fields
returns-else-n-fields t c =
    let rest : Option (List ℕ) = index_numbers (program_with c.args.all.now c.args.room) c.args.values.now (take (length c.args.indices.now - 1) (drop 1 c.args.indices.now)) in
    let next : ℕ = (c.args.address + c.offset_of.result) % 2 ^ 64 in
    let is : c.args.ty.now ≡ Struct c.as_slice-fields.result.now c.in-Struct.packed =
    c.in-Struct.is ∙ ap (λ (fs : List MemTy). Struct fs c.in-Struct.packed) (sym c.as_slice-fields.ensures) in
    c.ended.ensures
    ∙ ap (λ b. led_if b next) c.all_numbers.ensures
    ∙ led_stuck c.args.ty.now c.index_64-n.result c.args.address next rest
    (λ ns. past_struct c.args.ty.now c.as_slice-fields.result.now c.in-Struct.packed c.index_64-n.result c.args.address c.offset_of.result next ns is
    c.if-n-fields.false c.offset_of.ensures refl)
    ∙ ap (λ (r : Option (List ℕ)). led_of c.args.ty.now c.args.address r)
    (numbers_split (program_with c.args.all.now c.args.room) c.args.values.now c.args.indices.now _ c.in-Some.n c.index_64-n.result c.in-len1-up.len_at_least c.in-Some.ensures c.index_64-n.ensures)
