use Rattle.std.proofs.Common.{◌∙◌, ap, take, ℕ}
use Rattle.ir_translator.proofs.Phis.{taken_phis}
use Rattle.ir_translator.proofs.heads.phis_in.Goals as goal

pub returns : goal.returns
returns c = ap (λ (n : ℕ). take n c.args.insts.now) c.phi_count-count.ensures.value ∙ taken_phis c.args.insts.now
