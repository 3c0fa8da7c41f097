use Rattle.std.proofs.Common.{◌≡◌, drop}
use Rattle.frame_code.specs.Code.{arguments_code}
use Rattle.code_emit.specs.Written.{put_code}
use Rattle.frame_out.specs.Ready.{AreNear}
use Rattle.frame_out.proofs.placed.Placed.put_arguments.Given as goal

abbrev pub invariant-loop-argument : goal.invariant-loop-argument
invariant-loop-argument l = record {
  number : l.number ≡ l.argument-index;
  near : AreNear l.fn.self.places.now (drop l.argument-index l.arguments);
  code : put_code l.asm (arguments_code l.fn.self.function.now l.fn.self.places.now l.number (drop l.argument-index l.arguments)) ≡ put_code l.fn.asm (arguments_code l.fn.self.function.now l.fn.self.places.now 0 l.arguments);
}
