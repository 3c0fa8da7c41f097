use Rattle.std.proofs.Common.{◌≡◌, ◌++◌, drop}
use Rattle.generic_code.specs.Whole.{params_code}
use Rattle.ir_translator.proofs.assembled.put_params.Given as goal

abbrev pub invariant-loop-place : goal.invariant-loop-place
invariant-loop-place l = l.insts ++ params_code l.place (drop l.place l.params) ≡ l.fn.insts ++ params_code 0 l.params
