use Rattle.std.proofs.Common.{sym}
use Rattle.parallel_copies.proofs.Picking.{other}
use Rattle.parallel_copies.proofs.Parallel.{sequences_copy, few_moves}
use Rattle.parallel_copies.proofs.Naming.{only_moves}
use Rattle.parallel_copies.proofs.moves.sequence.Goals as goal

pub returns-clause-made : goal.returns-clause-made
returns-clause-made c = λ regs x differs. sequences_copy c.args.spare x (other x c.args.spare (λ e. differs (sym e))) c.args.copies.items c.in_ok-moves.moves.items c.in_ok-moves.ensures c.requires.distinct regs

pub returns-clause-only : goal.returns-clause-only
returns-clause-only c = only_moves c.args.spare c.args.copies.items c.in_ok-moves.moves.items c.in_ok-moves.ensures

pub returns-clause-short : goal.returns-clause-short
returns-clause-short c = few_moves c.args.spare c.args.copies.items c.in_ok-moves.moves.items c.in_ok-moves.ensures
