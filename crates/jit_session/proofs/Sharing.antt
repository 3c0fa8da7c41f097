-- A checked module may be shared by threads.
use denote.Param.Send.{sendable, view_sync, IsSync}
use denote.Param.SendFields.{variants_sync, declared_sync}
use Rattle.std.proofs.Crossing.{crosses}
use Rattle.ir_core.specs.contracts.code.Operand as operand
use Rattle.ir_core.specs.contracts.code.Flags as flags
use Rattle.ir_core.specs.contracts.code.BinOp as bin_op
use Rattle.ir_core.specs.contracts.code.Pred as pred
use Rattle.ir_core.specs.contracts.code.CastOp as cast_op
use Rattle.ir_core.specs.contracts.code.BuiltIn as built_in
use Rattle.ir_core.specs.contracts.code.Inst as inst
use Rattle.ir_core.specs.contracts.code.Op as op
use Rattle.ir_core.specs.contracts.code.Block as block
use Rattle.ir_core.specs.contracts.program.Function as function
use Rattle.ir_core.specs.contracts.program.Global as global_
use Rattle.ir_core.specs.contracts.program.Module as module_
use Rattle.ir_core.specs.contracts.types.Ty as ty
use Rattle.ir_core.proofs.program.Init.TheLaws.TheKnot as init_knot
use Rattle.ir_core.proofs.types.MemTy.TheLaws.TheKnot as mem_knot
use Rattle.ir_verify.specs.contracts.checked.Checked as checked
use Rattle.ir_verify.specs.contracts.checked.Checked.TheInside as inside

operand_sync : IsSync operand.the_row
operand_sync = search (sendable, crosses) depth 40

flags_sync : IsSync flags.the_row
flags_sync = search (sendable, crosses) depth 40

bin_op_sync : IsSync bin_op.the_row
bin_op_sync = search (sendable, crosses) depth 40

pred_sync : IsSync pred.the_row
pred_sync = search (sendable, crosses) depth 40

cast_op_sync : IsSync cast_op.the_row
cast_op_sync = search (sendable, crosses) depth 40

built_in_sync : IsSync built_in.the_row
built_in_sync = search (sendable, crosses) depth 40

ty_sync : IsSync ty.the_row
ty_sync = search (sendable, crosses) depth 40

op_sync : IsSync op.the_row
op_sync = variants_sync op.enum ((bin_op_sync, (flags_sync, (operand_sync, (operand_sync, tt)))), ((pred_sync, (flags_sync, (ty_sync, (operand_sync, (operand_sync, tt))))), ((cast_op_sync, (flags_sync, (ty_sync, (operand_sync, tt)))), ((operand_sync, (operand_sync, (operand_sync, tt))), ((operand_sync, tt), ((search (operand_sync, sendable, crosses) depth 30, tt), ((search (mem_knot.crosses, sendable, crosses) depth 20, (search (sendable, crosses) depth 20, tt)), ((operand_sync, tt), ((ty_sync, (operand_sync, (operand_sync, tt))), ((search (mem_knot.crosses, sendable, crosses) depth 20, (operand_sync, (search (ty_sync, operand_sync, sendable, crosses) depth 30, tt))), ((search (sendable, crosses) depth 20, (search (ty_sync, operand_sync, sendable, crosses) depth 30, tt)), ((built_in_sync, (search (ty_sync, operand_sync, sendable, crosses) depth 30, tt)), ((search (operand_sync, sendable, crosses) depth 30, tt), ((search (sendable, crosses) depth 20, tt), ((operand_sync, (search (sendable, crosses) depth 20, (search (sendable, crosses) depth 20, tt))), ((ty_sync, (operand_sync, (search (sendable, crosses) depth 20, (search (sendable, crosses) depth 30, tt)))), (tt, tt)))))))))))))))))

inst_sync : IsSync inst.the_row
inst_sync = declared_sync inst.the_type (ty_sync, (op_sync, tt))

block_sync : IsSync block.the_row
block_sync = search (inst_sync, sendable, crosses) depth 60

function_sync : IsSync function.the_row
function_sync = search (block_sync, ty_sync, sendable, crosses) depth 60

global_sync : IsSync global_.the_row
global_sync = search (mem_knot.crosses, init_knot.crosses, sendable, crosses) depth 60 fits 20000

module_sync : IsSync module_.the_row
module_sync = search (function_sync, global_sync, sendable, crosses) depth 60

inside_sync : IsSync inside.the_row
inside_sync = declared_sync inside.the_type (module_sync, (search (sendable, crosses) depth 20, tt))

pub checked_sync : IsSync checked.the_row
checked_sync = view_sync _ _ _ _ _ inside_sync
