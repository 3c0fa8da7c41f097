use Rattle.std.proofs.Common.{ℕ}
use Rattle.ir_text.proofs.Unquoting.{ends_closed, ends_open}
use Rattle.ir_text.proofs.quoted.unquote.Goals as goal

pub returns-in-Closed : goal.returns-in-Closed
returns-in-Closed c = ends_closed c.loop-byte.bytes c.args.text.now c.loop-byte.byte-index _ c.loop-byte-test.false (rw c.in-Closed.is at c.loop-byte.invariant)

pub returns-in_default : goal.returns-in_default
returns-in_default c = ends_open c.loop-byte.escape c.loop-byte.bytes c.args.text.now c.loop-byte.byte-index _ c.loop-byte-test.false c.in_default.not-Closed c.loop-byte.invariant
