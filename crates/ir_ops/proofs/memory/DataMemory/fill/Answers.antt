use Rattle.std.proofs.Common.{◌≡◌, rules, arith, length, replicate}
use Rattle.ir_ops.proofs.Views.{stored_in, part_long, filled_view}
use Rattle.ir_ops.proofs.memory.DataMemory.fill.Goals as goal

pub returns : goal.returns
returns c =
    let part = part_long c.self.inside.cells.items c.args.self.now c.args.to c.args.count c.self.view_is c.requires.inside in
    let long : length c.fill_cells.new.cells ≡ c.args.count = search rules in
    stored_in c.self.inside.cells.items c.args.self.now c.args.to c.args.count c.self.view_is c.requires.inside c.self.inside.cells.len _ c.fill_cells.new.cells _ (replicate c.args.count c.args.byte)
    c.self.inside.cells.ok.0 (search rules) (omega arith) (filled_view c.fill_cells.new.cells _ c.args.count c.cell_of.result c.args.byte c.fill_cells.ensures long c.cell_of.ensures) long
