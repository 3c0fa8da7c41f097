use Rattle.hart.proofs.Doing.{does-as_served, served-after}
use Rattle.hart.specs.Standing.{machine_of}
use Rattle.rv_core.specs.Step.{view}
use Rattle.hart.proofs.hart.Hart.execute.Goals as goal

pub returns-in_default : goal.returns-in_default
returns-in_default c = record {
  does = λ m for_it counted pass.
      does-as_served m (machine_of c.args.self.now) c.serve-did.new.self counted pass c.args.instr c.serve-did.result
      (served-after m (machine_of c.args.self.now) c.args.instr (view c.step_instr-asked.new.regs) c.step_instr-asked.result (machine_of c.serve-did.new.self) c.serve-did.result
      c.step_instr-asked.ensures.registers c.step_instr-asked.ensures.request
      (c.serve-did.ensures.does m (record { functions = for_it.functions; room = for_it.room; results = for_it.results })))
      c.in_default.not-Fault;
  keeps = record {
    room = c.serve-did.ensures.keeps.room;
    widths = c.serve-did.ensures.keeps.widths;
    functions = c.serve-did.ensures.keeps.functions;
    code_words = c.serve-did.ensures.keeps.code_words;
    width = c.serve-did.ensures.keeps.width;
    fuel = c.serve-did.ensures.keeps.fuel;
  };
  left = c.serve-did.ensures.left;
  phase = c.serve-did.ensures.phase;
  allowed = c.serve-did.ensures.allowed;
}
