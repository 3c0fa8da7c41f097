use Rattle.std.proofs.Common.{◌≡◌, ◌-◌}
use Rattle.frame_code.specs.Frame.{used, used_from}
use Rattle.frame_code.specs.Code.{save_code}
use Rattle.code_emit.specs.Written.{put_code}
use Rattle.frame_out.proofs.frames.put_saves.Given as goal

abbrev pub invariant-loop-number : goal.invariant-loop-number
invariant-loop-number l = put_code l.asm (save_code l.fn.frame (used_from l.fn.places l.number (11 - l.number))) ≡ put_code l.fn.asm (save_code l.fn.frame (used l.fn.places))
