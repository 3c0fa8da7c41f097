use Rattle.std.proofs.Common.{◌≡◌, ◌∙◌, rules, sym, ap, refl, arith, length, None}
use Rattle.ir_meaning.specs.Memory.{to_bytes, number_bytes}
use Rattle.ir_ops.specs.Cells.{bytes_of}
use Rattle.ir_ops.proofs.Views.{stored_in, part_long, filled_view}
use Rattle.ir_ops.proofs.memory.DataMemory.store.Goals as goal

pub returns-in-None : goal.returns-in-None
returns-in-None c =
    let part = part_long c.self.inside.cells.items c.args.self.now c.args.address c.args.count c.self.view_is c.requires in
    let long : length c.fill_cells.new.cells ≡ c.args.count = search rules in
    stored_in c.self.inside.cells.items c.args.self.now c.args.address c.args.count c.self.view_is c.requires c.self.inside.cells.len _ c.fill_cells.new.cells _ (to_bytes c.args.count c.args.value)
    c.self.inside.cells.ok.0 (search rules) (omega arith) (filled_view c.fill_cells.new.cells _ c.args.count 256 None c.fill_cells.ensures long refl ∙ sym (ap (to_bytes c.args.count) c.in-None.is)) long

pub returns-in-Some : goal.returns-in-Some
returns-in-Some c =
    let part = part_long c.self.inside.cells.items c.args.self.now c.args.address c.args.count c.self.view_is c.requires in
    let long : length c.put_number.new.cells ≡ c.args.count = search rules in
    let bytes : bytes_of c.put_number.new.cells ≡ number_bytes c.args.count c.in-Some.n = search rules in
    stored_in c.self.inside.cells.items c.args.self.now c.args.address c.args.count c.self.view_is c.requires c.self.inside.cells.len _ c.put_number.new.cells _ (to_bytes c.args.count c.args.value)
    c.self.inside.cells.ok.0 (search rules) (omega arith) (bytes ∙ sym (ap (to_bytes c.args.count) c.in-Some.is)) long
