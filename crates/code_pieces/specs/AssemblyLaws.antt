-- Assembled words in the play of a version.
use Rattle.std.specs.Prelude.{◌≡◌, ◌≢◌, ℕ, ◌+◌, ◌*◌, ◌≤◌, List, length}
use Rattle.rv_core.specs.declared.reg.Reg.TheVariants.{Sp}
use Rattle.rv_core.specs.Step.{Registers, read}
use Rattle.ir_meaning.specs.Plays.{Meaning}
use Rattle.rv_play.specs.Machine.{code_base, code_limit}
use Rattle.rv_play.specs.CodePlay.{Place, Point, CodeReply, code_run}
use Rattle.rv_asm.specs.Runs.{Arrives}

-- the point behind n steps that change registers alone
abbrev pub reached : Point → ℕ → Registers → Point
reached p n t = record p { machine = record p.machine { regs = t }; steps = p.steps + n }

-- Words stand in the code region. Where instructions among them arrive at an address of it, and the stack pointer isn't the
-- entering one, so that no jump there is a return, the play goes on from there, whatever steps and replies follow.
abbrev pub JumpsArrive : Type 0
JumpsArrive =
    (m : Meaning) → m.functions ≤ 1024 → (place : Place) → code_base + 4 ≤ place.base → place.base + 4 * length place.words ≤ code_limit
    → (p : Point) (to : ℕ) → read p.machine.regs Sp ≢ place.sp → code_base ≤ to → (a : Arrives place.words place.base p.machine.regs to)
    → (f : ℕ) (replies : List CodeReply) → code_run m place (a.count + f) p replies ≡ code_run m place f (reached p a.count a.last) replies
