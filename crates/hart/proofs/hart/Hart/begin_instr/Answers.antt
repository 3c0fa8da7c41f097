use Rattle.std.proofs.Common.{refl, sym, ◌∙◌, arith, rules}
use Rattle.hart.proofs.Turning.{steps_in_code, code_address, has_left}
use Rattle.hart.proofs.hart.Hart.begin_instr.Goals as goal

pub returns-in-Code : goal.returns-in-Code
returns-in-Code c = record {
  goes = λ m f counted pass. steps_in_code m c.args.self.now counted pass f (sym c.standing.ensures.at ∙ c.in-Code.is);
  wanted = refl;
  asked = code_address c.args.self.now (sym c.standing.ensures.at ∙ c.in-Code.is);
  same = search rules;
  fewer = let some = has_left c.args.self.now (sym c.standing.ensures.at ∙ c.in-Code.is) in omega arith;
}
