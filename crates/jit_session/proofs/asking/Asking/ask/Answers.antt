use Rattle.std.proofs.Common.{◌<◌, length, length-set, sym, ap, subst, ◌∙◌, arith}
use Rattle.std.specs.Prelude.{slice_index}
use Rattle.crossbeam_queue.specs.Passes.{view}
use Rattle.jit_session.proofs.Asked.{noted}
use Rattle.jit_session.proofs.asking.Asking.ask.Goals as goal

pub invariant_of-self : goal.invariant_of-self
invariant_of-self g c =
    let was = c.wanted.new.self in
    let job = c.in-Some.job in
    let asked = c.in-Some.ensures.queue.1 in
    let long = ap (λ v. length v.items) asked in
    let are = c.args.self.now.asked_are in
    let exists = c.requires.exists in record {
      symbols_are = was.symbols_are;
      asked_are = length-set was.asked.items c.args.symbol job.level ∙ was.asked_are;
      once = noted (view was.queue.pass) (view c.put.new.self.pass) was.asked.items job c.args.symbol c.in-Ok.ensures.put c.in-Some.ensures.job.0 (omega (arith, long, are, exists))
          (subst (λ v. slice_index v.items c.args.symbol < job.level) (sym asked) c.in-Some.ensures.job.1) was.once;
    }
