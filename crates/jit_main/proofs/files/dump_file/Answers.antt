use Rattle.std.proofs.Common.{refl}
use Rattle.jit_main.proofs.files.dump_file.Goals as goal

pub returns-in-Ok-dumped-clause-text : goal.returns-in-Ok-dumped-clause-text
returns-in-Ok-dumped-clause-text g c = λ marks. (c.deref.result.now, rw c.deref.ensures.value c.in-Ok.ensures.text, c.in-Ok-dumped.ensures.text, refl)
