use Rattle.std.proofs.Common.{◌≡◌, drop, true}
use Rattle.quick_code.specs.Blocks.{arguments_code}
use Rattle.fast_isel_emit.specs.Operands.{are_widths}
use Rattle.code_emit.specs.Written.{put_code}
use Rattle.fast_isel_emit.proofs.pieces.put_parameters.Given as goal

abbrev pub invariant-loop-ty : goal.invariant-loop-ty
invariant-loop-ty l = record {
  place : l.place ≡ l.ty-index;
  widths : are_widths (drop l.ty-index l.tys) ≡ true;
  code : put_code l.asm (arguments_code l.place (drop l.ty-index l.tys)) ≡ put_code l.fn.asm (arguments_code 0 l.tys);
}
