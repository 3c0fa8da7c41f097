use Rattle.std.proofs.Common.{◌≡◌, ◌*◌, ◌+◌, ◌^◌, ◌≤◌, drop}
use Rattle.ir_data.specs.Image.{taken}
use Rattle.ir_data.proofs.places.taken.Given as goal

abbrev pub invariant-loop-global : goal.invariant-loop-global
invariant-loop-global l = record {
  value : l.bytes + taken (drop l.global-index l.globals) ≡ taken l.globals;
  most : l.bytes ≤ l.global-index * 2 ^ 32;
}
