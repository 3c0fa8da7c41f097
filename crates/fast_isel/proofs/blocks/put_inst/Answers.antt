use Rattle.std.proofs.Common.{◌≡◌, None, ap, sym, ◌∙◌, ◌+◌, ◌*◌, subst, arith, length}
use Rattle.ir_core.specs.declared.code.Op.{Op}
use Rattle.ir_core.specs.declared.code.Op.TheVariants.{BuiltIn, Gep}
use Rattle.ir_flow.specs.Limits.{op_limit}
use Rattle.ir_data.proofs.Sizes.{type_within}
use Rattle.quick_code.specs.Operations.{operation_code}
use Rattle.ir_core.specs.Units.{frame}
use Rattle.quick_code.specs.Blocks.{return_code, switch_items, op_items, edges_of, edge_label}
use Rattle.std.specs.Prelude.{if◌then◌else◌}
use Rattle.ir_meaning.specs.Step.{moves_bytes}
use Rattle.quick_code.specs.Data.{takes_data, moved_code}
use Rattle.quick_code.specs.Forms.{IsJump}
use Rattle.code_pieces.specs.Assembly.{put}
use Rattle.code_emit.specs.Written.{put_code}
use Rattle.code_emit.proofs.Put.{code_is}
use Rattle.fast_isel.proofs.Counts.{label_below}
use Rattle.fast_isel.proofs.blocks.put_inst.Goals as goal

pub put_both_edges-requires-clause-free : goal.put_both_edges-requires-clause-free
put_both_edges-requires-clause-free c =
    let below = label_below c.args.function.now c.args.block c.requires.block in
    let among = c.requires.edges in
    let one = ap edges_of c.in-CondBr.is in
    c.requires.free (subst IsJump (sym c.in-CondBr.is) tt) (edge_label c.args.function.now c.args.block) (omega arith) (omega (arith, below, among, one))

pub put_switch-requires-clause-free : goal.put_switch-requires-clause-free
put_switch-requires-clause-free c = c.requires.free (subst IsJump (sym c.in-Switch.is) tt)

pub put_switch-requires-clause-few : goal.put_switch-requires-clause-few
put_switch-requires-clause-few c =
    let below = label_below c.args.function.now c.args.block c.requires.block in
    let among = c.requires.edges in
    let one = ap edges_of c.in-Switch.is in
    let same = ap length c.as_slice-in-Switch.ensures in
    omega (arith, below, among, one, same)

pub returns-in_ok-put_binary-in-Binary : goal.returns-in_ok-put_binary-in-Binary
returns-in_ok-put_binary-in-Binary c = c.in_ok-put_binary-in-Binary.ensures ∙ code_is c.args.asm.now _ ∙ ap (λ (op : Op). put c.args.asm.now (op_items c.args.globals.now c.args.function.now c.args.room (frame c.args.function.now) c.args.block c.args.value c.args.inst.now.gives op)) (sym c.in-Binary.is)

pub returns-in_ok-put_compare-in-Icmp : goal.returns-in_ok-put_compare-in-Icmp
returns-in_ok-put_compare-in-Icmp c = c.in_ok-put_compare-in-Icmp.ensures ∙ code_is c.args.asm.now _ ∙ ap (λ (op : Op). put c.args.asm.now (op_items c.args.globals.now c.args.function.now c.args.room (frame c.args.function.now) c.args.block c.args.value c.args.inst.now.gives op)) (sym c.in-Icmp.is)

pub returns-in_ok-put_cast-in-Cast : goal.returns-in_ok-put_cast-in-Cast
returns-in_ok-put_cast-in-Cast c = c.in_ok-put_cast-in-Cast.ensures ∙ code_is c.args.asm.now _ ∙ ap (λ (op : Op). put c.args.asm.now (op_items c.args.globals.now c.args.function.now c.args.room (frame c.args.function.now) c.args.block c.args.value c.args.inst.now.gives op)) (sym c.in-Cast.is)

pub returns-in_ok-put_choice-in-Select : goal.returns-in_ok-put_choice-in-Select
returns-in_ok-put_choice-in-Select c = c.in_ok-put_choice-in-Select.ensures ∙ code_is c.args.asm.now _ ∙ ap (λ (op : Op). put c.args.asm.now (op_items c.args.globals.now c.args.function.now c.args.room (frame c.args.function.now) c.args.block c.args.value c.args.inst.now.gives op)) (sym c.in-Select.is)

pub returns-in_ok-put_same-in-Freeze : goal.returns-in_ok-put_same-in-Freeze
returns-in_ok-put_same-in-Freeze c = c.in_ok-put_same-in-Freeze.ensures ∙ code_is c.args.asm.now _ ∙ ap (λ (op : Op). put c.args.asm.now (op_items c.args.globals.now c.args.function.now c.args.room (frame c.args.function.now) c.args.block c.args.value c.args.inst.now.gives op)) (sym c.in-Freeze.is)

pub returns-in_ok-put_call-in-Call : goal.returns-in_ok-put_call-in-Call
returns-in_ok-put_call-in-Call c = c.in_ok-put_call-in-Call.ensures ∙ code_is c.args.asm.now _ ∙ ap (λ (op : Op). put c.args.asm.now (op_items c.args.globals.now c.args.function.now c.args.room (frame c.args.function.now) c.args.block c.args.value c.args.inst.now.gives op)) (sym c.in-Call.is)

pub returns-in_ok-put_last_edge-in-Br : goal.returns-in_ok-put_last_edge-in-Br
returns-in_ok-put_last_edge-in-Br c = c.in_ok-put_last_edge-in-Br.ensures ∙ ap (λ (op : Op). put c.args.asm.now (op_items c.args.globals.now c.args.function.now c.args.room (frame c.args.function.now) c.args.block c.args.value c.args.inst.now.gives op)) (sym c.in-Br.is)

pub returns-in_ok-put_both_edges-in-CondBr : goal.returns-in_ok-put_both_edges-in-CondBr
returns-in_ok-put_both_edges-in-CondBr c = c.in_ok-put_both_edges-in-CondBr.ensures ∙ ap (λ (op : Op). put c.args.asm.now (op_items c.args.globals.now c.args.function.now c.args.room (frame c.args.function.now) c.args.block c.args.value c.args.inst.now.gives op)) (sym c.in-CondBr.is)

pub returns-in_ok-put_return-in-Ret : goal.returns-in_ok-put_return-in-Ret
returns-in_ok-put_return-in-Ret c =
    c.in_ok-put_return-in-Ret.ensures ∙ ap (λ b. put_code c.args.asm.now (return_code c.args.globals.now b (128 + 32 * c.args.values) c.in-Ret.answer)) c.requires.takes
    ∙ ap (λ v. put_code c.args.asm.now (return_code c.args.globals.now (takes_data c.args.function.now) (128 + 32 * v) c.in-Ret.answer)) c.requires.values ∙ code_is c.args.asm.now _
    ∙ ap (λ (op : Op). put c.args.asm.now (op_items c.args.globals.now c.args.function.now c.args.room (frame c.args.function.now) c.args.block c.args.value c.args.inst.now.gives op)) (sym c.in-Ret.is)

pub returns-in_ok-put_load-in-Load : goal.returns-in_ok-put_load-in-Load
returns-in_ok-put_load-in-Load c = c.in_ok-put_load-in-Load.ensures ∙ code_is c.args.asm.now _ ∙ ap (λ (op : Op). put c.args.asm.now (op_items c.args.globals.now c.args.function.now c.args.room (frame c.args.function.now) c.args.block c.args.value c.args.inst.now.gives op)) (sym c.in-Load.is)

pub returns-in_ok-put_store-in-Store : goal.returns-in_ok-put_store-in-Store
returns-in_ok-put_store-in-Store c = c.in_ok-put_store-in-Store.ensures ∙ code_is c.args.asm.now _ ∙ ap (λ (op : Op). put c.args.asm.now (op_items c.args.globals.now c.args.function.now c.args.room (frame c.args.function.now) c.args.block c.args.value c.args.inst.now.gives op)) (sym c.in-Store.is)

pub returns-in_ok-put_switch-in-Switch : goal.returns-in_ok-put_switch-in-Switch
returns-in_ok-put_switch-in-Switch c =
    c.in_ok-put_switch-in-Switch.ensures ∙ ap (λ cases. put c.args.asm.now (switch_items c.args.globals.now c.args.function.now c.args.block c.in-Switch.value c.in-Switch.otherwise cases)) c.as_slice-in-Switch.ensures
    ∙ ap (λ (op : Op). put c.args.asm.now (op_items c.args.globals.now c.args.function.now c.args.room (frame c.args.function.now) c.args.block c.args.value c.args.inst.now.gives op)) (sym c.in-Switch.is)

pub returns-in_ok-put_alloca-in-Alloca : goal.returns-in_ok-put_alloca-in-Alloca
returns-in_ok-put_alloca-in-Alloca c = c.in_ok-put_alloca-in-Alloca.ensures ∙ code_is c.args.asm.now _ ∙ ap (λ (op : Op). put c.args.asm.now (op_items c.args.globals.now c.args.function.now c.args.room (frame c.args.function.now) c.args.block c.args.value c.args.inst.now.gives op)) (sym c.in-Alloca.is)

pub returns-in_ok-put_built_in-in-BuiltIn : goal.returns-in_ok-put_built_in-in-BuiltIn
returns-in_ok-put_built_in-in-BuiltIn c =
    c.in_ok-put_built_in-in-BuiltIn.ensures ∙ ap (λ arguments. put_code c.args.asm.now (if moves_bytes c.in-BuiltIn.which then moved_code c.args.globals.now c.in-BuiltIn.which arguments else operation_code c.args.globals.now c.args.inst.now.gives (BuiltIn c.in-BuiltIn.which arguments) c.args.value)) c.as_slice-in-BuiltIn.ensures ∙ code_is c.args.asm.now _
    ∙ ap (λ (op : Op). put c.args.asm.now (op_items c.args.globals.now c.args.function.now c.args.room (frame c.args.function.now) c.args.block c.args.value c.args.inst.now.gives op)) (sym c.in-BuiltIn.is)

pub put_part-requires-clause-sizes : goal.put_part-requires-clause-sizes
put_part-requires-clause-sizes c = type_within c.in-Gep.of (subst (λ (op : Op). op_limit op ≡ None) c.in-Gep.is c.requires.limit)

pub returns-in_ok-put_part-in-Gep : goal.returns-in_ok-put_part-in-Gep
returns-in_ok-put_part-in-Gep c =
    c.in_ok-put_part-in-Gep.ensures
    ∙ ap (λ indices. put_code c.args.asm.now (operation_code c.args.globals.now c.args.inst.now.gives (Gep c.in-Gep.of c.in-Gep.base indices) c.args.value)) c.as_slice.ensures
    ∙ code_is c.args.asm.now _ ∙ ap (λ (op : Op). put c.args.asm.now (op_items c.args.globals.now c.args.function.now c.args.room (frame c.args.function.now) c.args.block c.args.value c.args.inst.now.gives op)) (sym c.in-Gep.is)
