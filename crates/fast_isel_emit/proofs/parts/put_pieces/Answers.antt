use Rattle.std.proofs.Common.{get_or}
use Rattle.std.proofs.lemmas.Result.{on_ok_weaker}
use Rattle.ir_core.specs.declared.types.Ty.TheVariants.{Void}
use Rattle.ir_core.specs.declared.code.Operand.TheVariants.{Value as Local}
use Rattle.quick_code.specs.Parts.{sized, pieces_into, pieces}
use Rattle.fast_isel_emit.proofs.Adding.{none_pieces, pieces_all, two_pieces, rest_of}
use Rattle.fast_isel_emit.proofs.parts.put_pieces.Goals as goal

pub returns-in_default-clause-code : goal.returns-in_default-clause-code
returns-in_default-clause-code c = none_pieces c.args.asm.now c.args.indices.now c.args.of.now c.in_default.len_below

pub returns-clause-code : goal.returns-clause-code
returns-clause-code c =
    on_ok_weaker c.put_into.result
    (λ d. two_pieces c.args.asm.now c.put_index.new.asm c.put_into.new.asm (sized c.size_of.result (get_or c.args.indices.now 0 (Void, Local 0)).0 (get_or c.args.indices.now 0 (Void, Local 0)).1)
    (pieces_into (rest_of c.args.indices.now) c.args.of.now) (pieces c.args.of.now c.args.indices.now) c.in_ok-bytes.ensures.code d
    (pieces_all c.args.of.now c.size_of.result c.args.indices.now (Void, Local 0) c.in-len1-up.len_at_least c.size_of.ensures))
    c.put_into.ensures.code
