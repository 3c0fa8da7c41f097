use Rattle.std.proofs.Common.{◌≡◌, false, true, sym, ◌∙◌, arith}
use Rattle.hart.proofs.Turning.{word_done, same_then}
use Rattle.hart.proofs.hart.Hart.take_next.Goals as goal

pub returns-in_default : goal.returns-in_default
returns-in_default c = record {
  turned = (
    c.wait.result,
    record {
      goes = λ m f counted pass.
          word_done m c.args.self.now c.execute.new.self counted pass c.args.word c.in-Some.instr c.execute.result c.requires
          (sym c.instr_at.ensures.value ∙ c.in-Some.is)
          (c.execute.ensures.does m f counted pass) c.execute.ensures.keeps c.execute.ensures.left
          ∙ c.wait.ensures.goes m counted pass;
      wanted = c.wait.ensures.wanted;
      asked = c.wait.ensures.asked;
      same = same_then c.args.self.now c.execute.new.self c.wait.new.self c.execute.ensures.keeps c.wait.ensures.keeps;
      fewer = rw c.requires (let same = c.execute.ensures.left in let few = c.wait.ensures.fewer in omega arith);
    },
  );
  word = λ e. absurd (let bad : false ≡ true = e in cc);
}
