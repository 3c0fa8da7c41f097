use Rattle.std.proofs.Common.{◌≡◌, drop}
use Rattle.code_pieces.specs.Assembly.{put}
use Rattle.frame_code.specs.Code.{insts_items}
use Rattle.frame_out.proofs.placed.Placed.put_insts.Given as goal

abbrev pub invariant-loop-inst : goal.invariant-loop-inst
invariant-loop-inst l = put l.asm (insts_items l.fn.self.function.now l.fn.self.places.now l.fn.block (drop l.inst-index l.insts)) ≡ put l.fn.asm (insts_items l.fn.self.function.now l.fn.self.places.now l.fn.block l.insts)
