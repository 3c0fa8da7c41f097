use Rattle.std.proofs.Common.{sym, ◌∙◌, ap}
use Rattle.std.specs.Str.{bytes_eq}
use Rattle.ir_types.specs.Tables.{target_named}
use Rattle.ir_types.proofs.Lookups.{lookup_by}
use Rattle.ir_types.proofs.tables.Named.find.Goals as goal

pub returns : goal.returns
returns c = c.copied.ensures ∙ c.get.ensures.value ∙ sym (lookup_by (λ v. v.items) (bytes_eq c.args.name.now) c.self.inside.targets.entries) ∙ ap (target_named c.args.name.now) c.self.view_is
