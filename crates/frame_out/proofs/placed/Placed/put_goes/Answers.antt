use Rattle.std.proofs.Common.{ap, ap₂, sym, ◌∙◌, ◌∷◌, ◌++◌, [], Option}
use Rattle.rv_core.specs.declared.reg.Reg.TheVariants.{T0, T1}
use Rattle.mir.specs.declared.places.Place.{Place}
use Rattle.mir.specs.Places.{place_of}
use Rattle.code_pieces.specs.Items.{Test, plain}
use Rattle.code_pieces.specs.Assembly.{put}
use Rattle.frame_code.specs.Code.{held_in, fetch}
use Rattle.frame_out.specs.Ready.{goes_items}
use Rattle.frame_out.proofs.Joining.{branch_put}
use Rattle.frame_out.proofs.placed.Placed.put_goes.Goals as goal

pub returns-in_ok-put_goto-in-Branch : goal.returns-in_ok-put_goto-in-Branch
returns-in_ok-put_goto-in-Branch c =
    let f = c.args.self.now.function.now in
    let places = c.args.self.now.places.now in
    branch_put f places c.args.asm.now c.put_tested.new.asm c.put_goto.new.asm c.args.block c.in-Branch.then c.in-Branch.other c.in-Branch.op (place_of places c.in-Branch.a) (place_of places c.in-Branch.b)
    (c.in_ok-put_tested-in-Branch.ensures
    ∙ ap₂ (λ (a b : Option Place). put c.args.asm.now (plain (fetch T0 a ++ fetch T1 b) ++ Test c.in-Branch.op (held_in T0 a) (held_in T1 b) c.in-Branch.then ∷ [])) c.at.ensures c.at-in-Branch.ensures)
    c.in_ok-put_goto-in-Branch.ensures
    ∙ ap (λ inst. put c.args.asm.now (goes_items f places c.args.block inst)) (sym c.in-Branch.is)
