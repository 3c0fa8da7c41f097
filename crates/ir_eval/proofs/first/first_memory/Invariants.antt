use Rattle.std.proofs.Common.{◌≡◌, take}
use Rattle.std.specs.Prelude.{flat_map}
use Rattle.ir_meaning.specs.Image.{global_bytes}
use Rattle.ir_eval.proofs.first.first_memory.Given as goal

abbrev pub invariant-loop-global : goal.invariant-loop-global
invariant-loop-global l = l.memory ≡ flat_map (global_bytes l.globals) (take l.global-index l.globals)
