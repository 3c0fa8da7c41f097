use Rattle.std.proofs.Common.{◌≡◌, ◌+◌, ◌-◌, ◌*◌, ◌^◌, ◌≤◌, ◌++◌, length, map, take, drop, replicate}
use Rattle.std.specs.Prelude.{flat_map}
use Rattle.ir_meaning.specs.Image.{global_bytes}
use Rattle.ir_data.specs.Image.{known, taken, last_end}
use Rattle.ir_data.proofs.image.first_bytes.Given as goal

abbrev pub invariant-loop-global : goal.invariant-loop-global
invariant-loop-global l = record {
  known : map known (flat_map (global_bytes l.globals) (take l.global-index l.globals)) ≡ l.bytes ++ replicate (l.start - length l.bytes) 0;
  below : length l.bytes ≤ l.start;
  end : last_end (length l.bytes) l.start (drop l.global-index l.globals) ≡ last_end 0 0 l.globals;
  top : length (flat_map (global_bytes l.globals) (take l.global-index l.globals)) ≡ l.start;
  start : l.start + taken (drop l.global-index l.globals) ≡ taken l.globals;
  most : l.start ≤ l.global-index * 2 ^ 32;
}
