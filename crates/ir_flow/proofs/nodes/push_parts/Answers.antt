use Rattle.std.proofs.Common.{◌≡◌, ◌+◌, ◌∙◌, ap, sym, arith, rules, List}
use Rattle.std.proofs.lemmas.Grind.{common_steps}
use Rattle.ir_core.specs.declared.types.MemTy.{MemTy}
use Rattle.ir_core.specs.declared.types.MemTy.TheVariants.{Struct}
use Rattle.ir_flow.specs.Limits.{nodes}
use Rattle.ir_flow.proofs.Stops.{nodes-Struct}
use Rattle.ir_flow.proofs.nodes.push_parts.Goals as goal

pub returns-in-Struct : goal.returns-in-Struct
returns-in-Struct c =
    let is : nodes c.args.ty.now ≡ 1 + _ = ap (λ (ty : MemTy). nodes ty) c.in-Struct.is ∙ nodes-Struct c.in-Struct.fields c.in-Struct.field-1 in
    grind (arith, common_steps, is, c.as_slice.ensures, c.push_fields.ensures)
