use Rattle.std.proofs.Common.{◌≤◌, List, length, sym, subst}
use Rattle.ir_meaning.specs.declared.calls.ListedCall.{ListedCall}
use Rattle.jit_session.specs.Calls.{AreCallsOf}
use Rattle.jit_tests.proofs.Firsts.{are_calls, are_first}
use Rattle.jit_tests.proofs.quick.open.Goals as goal

pub run-requires-clause-work : goal.run-requires-clause-work
run-requires-clause-work g c κs within =
    let functions = c.args.prepared.checked.module_.functions in
    let same = sym c.as_slice-calls.ensures in
    record {
      typed = c.module.ensures.typed;
      image = c.image_of-image.ensures;
      calls = subst (λ (l : List ListedCall). AreCallsOf functions l) same (are_calls functions c.args.prepared.calls c.requires.listed);
      few = subst (λ (l : List ListedCall). length l ≤ 65536) same c.requires.few;
      harts = c.requires.harts;
    }

pub run-requires-clause-versions : goal.run-requires-clause-versions
run-requires-clause-versions g c κs within = are_first c.args.prepared.checked c.in-Ok.versions.items c.in-Ok.ensures
