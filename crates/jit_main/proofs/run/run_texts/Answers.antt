use Rattle.jit_main.proofs.Firsts.{as_many}
use Rattle.jit_main.proofs.run.run_texts.Goals as goal

pub session_text-requires : goal.session_text-requires
session_text-requires g c =
    let session = c.in-Ok.ensures.session.session in
    as_many c.in-Ok.session.checked c.in-Ok.session.calls c.in-Ok.session.settled.answers session.comes.answers
