use Rattle.std.proofs.Common.{arith}
use Rattle.redirect_cells.proofs.keeper.Keeper.used.Goals as goal

pub overflow_sub-result : goal.overflow_sub-result
overflow_sub-result c =
    let me = c.args.self.now in
    let words = me.words_are in
    let size = me.desk.size_is in
    let count = c.count.ensures in
    omega arith

pub returns-clause-held : goal.returns-clause-held
returns-clause-held c =
    let me = c.args.self.now in
    let words = me.words_are in
    let size = me.desk.size_is in
    let count = c.count.ensures in
    omega arith

pub returns-clause-free : goal.returns-clause-free
returns-clause-free c =
    let me = c.args.self.now in
    let words = me.words_are in
    let size = me.desk.size_is in
    let count = c.count.ensures in
    omega arith
