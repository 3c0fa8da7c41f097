use Rattle.std.proofs.Common.{sym, ap, ◌∙◌}
use Rattle.phi_out.specs.Lowering.{any_phi}
use Rattle.mir_play.proofs.Itself.{functions_refine_themselves}
use Rattle.phi_out.proofs.Making.{has_none, has_one}
use Rattle.phi_out.proofs.Formed.{well_formed, has_no_phi}
use Rattle.phi_out.proofs.Law.{lowered_refines}
use Rattle.phi_out.proofs.lowering.lower_phis.Goals as goal

pub returns-then-not-has_phi-clause-refines : goal.returns-then-not-has_phi-clause-refines
returns-then-not-has_phi-clause-refines c = functions_refine_themselves c.args.function

pub returns-then-not-has_phi-clause-no_phi : goal.returns-then-not-has_phi-clause-no_phi
returns-then-not-has_phi-clause-no_phi c = has_none c.args.function (sym (c.if-not-has_phi.ensures ∙ ap any_phi c.as_slice.ensures))

pub returns-clause-refines : goal.returns-clause-refines
returns-clause-refines c = lowered_refines c.args.function c.in_ok-lowered.lowered c.requires.formed c.in_ok-lowered.ensures.is

pub returns-clause-formed : goal.returns-clause-formed
returns-clause-formed c = well_formed c.args.function c.in_ok-lowered.lowered c.requires.formed c.in_ok-lowered.ensures.is

pub returns-clause-no_phi : goal.returns-clause-no_phi
returns-clause-no_phi c = has_no_phi c.args.function c.in_ok-lowered.lowered c.requires.formed c.in_ok-lowered.ensures.is

pub returns-clause-same : goal.returns-clause-same
returns-clause-same c = λ none. absurd (has_one c.args.function (sym (c.if-not-has_phi.ensures ∙ ap any_phi c.as_slice.ensures)) none)
