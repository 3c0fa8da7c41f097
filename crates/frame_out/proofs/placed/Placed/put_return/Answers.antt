use Rattle.std.proofs.Common.{ap, ◌∙◌}
use Rattle.code_pieces.specs.Code.{leave_code}
use Rattle.code_emit.specs.Written.{put_code}
use Rattle.frame_code.specs.Frame.{used}
use Rattle.frame_code.specs.Code.{give_back, restore_code, result_code, taken}
use Rattle.walks.specs.Face.{frame_of}
use Rattle.frame_out.proofs.Joining.{four_code, given_capped}
use Rattle.frame_out.proofs.placed.Placed.put_return.Goals as goal

pub returns : goal.returns
returns c =
    let f = c.args.self.now.function.now in
    let places = c.args.self.now.places.now in
    four_code c.args.asm.now c.put_result.new.asm c.put_give_back.new.asm c.put_restores.new.asm c.put_leave.new.asm (result_code f places c.args.results.now) (give_back (taken f)) (restore_code (frame_of f.values) (used places)) (leave_code (frame_of f.values))
    c.in_ok-put_result.ensures
    (c.in_ok-put_give_back.ensures ∙ ap (λ n. put_code c.put_result.new.asm (give_back n)) c.args.self.now.sum ∙ ap (put_code c.put_result.new.asm) (given_capped (taken f)))
    (c.in_ok-put_restores.ensures ∙ ap (λ n. put_code c.put_give_back.new.asm (restore_code n (used places))) c.frame-frame.ensures)
    (c.in_ok-put_leave.ensures ∙ ap (λ n. put_code c.put_restores.new.asm (leave_code n)) c.frame-frame.ensures)
