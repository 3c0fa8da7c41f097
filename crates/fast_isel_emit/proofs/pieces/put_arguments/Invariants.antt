use Rattle.std.proofs.Common.{◌≡◌, ◌+◌, drop, map, true}
use Rattle.quick_code.specs.Operations.{values_code}
use Rattle.fast_isel_emit.specs.Operands.{are_arguments}
use Rattle.code_emit.specs.Written.{put_code}
use Rattle.fast_isel_emit.proofs.pieces.put_arguments.Given as goal

abbrev pub invariant-loop-argument : goal.invariant-loop-argument
invariant-loop-argument l = record {
  place : l.place ≡ l.argument-index;
  small : are_arguments l.values (drop l.argument-index l.arguments) ≡ true;
  code : put_code l.asm (values_code l.globals (10 + l.place) (map (λ argument. argument.1) (drop l.argument-index l.arguments))) ≡ put_code l.fn.asm (values_code l.globals 10 (map (λ argument. argument.1) l.arguments));
}
