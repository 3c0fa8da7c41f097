use Rattle.ir_ops.proofs.Bounds.{magnitude, read_back}
use Rattle.rj_num.specs.Width.{signed as signed_of}
use Rattle.ir_ops.proofs.value.signed.Goals as goal

pub returns-clause-within : goal.returns-clause-within
returns-clause-within c =
    let m = magnitude c.args.width c.args.a c.requires.width.0 c.requires.width.1 c.requires.a in
    rw (c.sign_of.ensures, read_back (signed_of c.args.width c.args.a) m) m
