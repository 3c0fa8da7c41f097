use Rattle.ir_print_laws.proofs.read_laws.read_modules_print_back.Goals as goal

pub returns : goal.returns
returns c = λ text m bytes reads few. c.prints_back.ensures m (c.reads_fit.ensures text m bytes reads) few
