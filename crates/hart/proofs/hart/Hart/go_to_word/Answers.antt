use Rattle.std.proofs.Common.{refl, sym, ◌∙◌, arith, rules}
use Rattle.hart.specs.declared.hart.Wanted.TheVariants as wanted
use Rattle.hart.proofs.Turning.{steps_in_code, code_address, has_left}
use Rattle.hart.proofs.hart.Hart.go_to_word.Goals as goal

pub returns-in-Code-clause-waits : goal.returns-in-Code-clause-waits
returns-in-Code-clause-waits c = (
  wanted.Fetch c.args.self.now.regs.pc,
  record {
    goes = λ m f counted pass. rw c.requires (steps_in_code m c.args.self.now counted pass f (sym c.standing.ensures.at ∙ c.in-Code.is));
    wanted = rw c.requires refl;
    asked = code_address c.args.self.now (sym c.standing.ensures.at ∙ c.in-Code.is);
    same = record { room = refl; widths = refl; functions = refl; code_words = refl; width = refl; fuel = refl };
    fewer = rw c.requires (let some = has_left c.args.self.now (sym c.standing.ensures.at ∙ c.in-Code.is) in omega arith);
  },
)
