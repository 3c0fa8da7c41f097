use Rattle.std.proofs.Common.{◌≡◌, ◌++◌, drop}
use Rattle.ir_print.specs.Modules.{params_text}
use Rattle.ir_print.proofs.modules.params.Given as goal

abbrev pub invariant-loop-number : goal.invariant-loop-number
invariant-loop-number l = l.page ++ params_text l.number (drop l.number l.params) ≡ l.fn.page ++ params_text 0 l.params
