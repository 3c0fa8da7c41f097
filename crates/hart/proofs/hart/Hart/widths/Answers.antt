use Rattle.std.proofs.Common.{◌≡◌, ◌∙◌, ap, length, map, arith}
use Rattle.ir_core.specs.declared.program.Function.{Function}
use Rattle.ir_meaning.specs.Meaning.{result_width}
use Rattle.hart.proofs.Knowing.{is_for_program}
use Rattle.hart.proofs.hart.Hart.widths.Goals as goal

pub returns-clause-known : goal.returns-clause-known
returns-clause-known c =
    let room : c.args.all.now.room ≡ length c.args.self.now.bytes.items = omega arith in
    is_for_program c.args.all.now c.know.new.self
    (rw c.know.ensures.bytes room)
    (rw c.know.ensures.widths (c.in_ok-widths.ensures.widths ∙ ap (map (λ (f : Function). result_width f.ret)) c.functions_of.ensures.value))
    (c.know.ensures.functions ∙ c.in_ok-widths.ensures.count ∙ ap length c.functions_of.ensures.value)
