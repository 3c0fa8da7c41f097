use Rattle.std.proofs.Common.{refl, length}
use Rattle.std.proofs.lemmas.Option.{slice_get_read}
use Rattle.hart.proofs.Laid.{serves_held}
use Rattle.hart.proofs.fixed.FixedFabricFabric.cell.Goals as goal

pub returns-clause-stands : goal.returns-clause-stands
returns-clause-stands c = λ since pass counted s. record {
  cells = s.cells;
  code = s.code;
  serves = serves_held c.args.self.now.cells.items c.args.self.now.code.items pass c.args.symbol c.index.result.now s.serves
      (slice_get_read c.args.self.now.cells.items (length c.args.self.now.cells.items) c.args.symbol c.index.result.now refl c.requires.below c.index.ensures);
}
