use Rattle.std.proofs.Common.{refl, arith, length, ◌-◌, ◌/◌, ◌<◌}
use Rattle.std.proofs.lemmas.Option.{slice_get_read}
use Rattle.rv_play.specs.Machine.{code_base}
use Rattle.hart.proofs.Laid.{serves_saw}
use Rattle.hart.proofs.fixed.FixedFabricFabric.fetch.Goals as goal

pub returns-clause-stands : goal.returns-clause-stands
returns-clause-stands c = λ since pass counted s. record {
  cells = s.cells;
  code = s.code;
  serves = let low = c.requires.inside.0 in let high = c.requires.inside.1 in
      let below : (c.args.address - code_base) / 4 < length c.args.self.now.code.items = omega arith in
      serves_saw c.args.self.now.cells.items c.args.self.now.code.items pass c.args.address c.index.result.now s.serves c.requires.inside.0
      (slice_get_read c.args.self.now.code.items (length c.args.self.now.code.items) ((c.args.address - code_base) / 4) c.index.result.now refl below c.index.ensures);
}
