use Rattle.rv_asm.proofs.constant.+put_const.Given as goal

abbrev pub decreases-put_const : goal.decreases-put_const
decreases-put_const l = l.cuts
