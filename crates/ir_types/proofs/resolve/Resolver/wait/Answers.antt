use Rattle.std.proofs.Common.{◌≡◌, Some, sym, ◌∙◌, ap, inr}
use Rattle.std.specs.Prelude.{slice_get}
use Rattle.ir_types.specs.declared.summary.Entry.TheVariants as entries
use Rattle.ir_types.specs.declared.parts.Part.TheVariants as parts
use Rattle.ir_types.specs.Resolving.{IsAt}
use Rattle.ir_types.proofs.Resolving.{holds_itself}
use Rattle.ir_types.proofs.resolve.Resolver.wait.Goals as goal

pub returns-in-Some-Open : goal.returns-in-Some-Open
returns-in-Some-Open c =
    let here : IsAt c.args.bodies.now c.args.frame (parts.Named c.in-Named.number c.in-Named.left) = rw (sym c.in-Named.is) c.requires.here in
    let open_entry : slice_get c.args.self.now.entries c.in-Named.number ≡ Some entries.Open = sym c.get.ensures.value ∙ sym c.copied.ensures ∙ c.in-Some-Open.is ∙ ap Some c.in-Some-Open.field-0-is in
    (c.args.frame.ty, c.in-Named.number, (here.0, c.args.frame.position, here.1, here.2), inr (holds_itself c.args.bodies.now c.args.self.now.entries c.args.self.now.frames c.args.frame c.requires.sound c.in-Named.number c.in-Named.left here open_entry))
