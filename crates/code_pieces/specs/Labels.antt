-- Words that stand as code with labels.
use Rattle.std.specs.Prelude.{◌≡◌, ◌≢◌, ℕ, ◌+◌, ◌%◌, ◌≤◌, List, [], ◌∷◌, Some, if◌then◌else◌}
use Rattle.rv_core.specs.declared.reg.Reg.TheVariants.{Sp}
use Rattle.rv_core.specs.Step.{read, is_taken}
use Rattle.ir_meaning.specs.Plays.{Meaning}
use Rattle.rv_play.specs.Machine.{code_base, code_limit}
use Rattle.rv_play.specs.CodePlay.{Place, Point, CodeReply, code_run, instr_at}
use Rattle.rv_play.specs.Good.{IsBase}
use Rattle.code_pieces.specs.Items.{Item, Plain, Bind, Goto, Test}

-- at least so many and at most three instructions lead from a point to an address, and change no register but t6
pub record Hops (m : Meaning) (place : Place) (least : ℕ) (p : Point) (to : ℕ) : Type 0 where
  pub count : ℕ
  pub point : Point
  pub some : least ≤ count
  pub few : count ≤ 3
  pub run : (f : ℕ) (answers : List CodeReply) → code_run m place (count + f) p answers ≡ code_run m place f point answers
  pub there : point.machine.regs.pc ≡ to
  pub others : (i : ℕ) → i ≢ 31 → point.machine.regs.x i ≡ p.machine.regs.x i
  pub bytes : point.machine.bytes ≡ p.machine.bytes
  pub control : point.machine.control ≡ p.machine.control
  pub counted : point.counted ≡ p.counted

-- Items stand at an address, where each label has its own; what stands behind a jump has an address of its own. No jump among them is taken for the return, since sp isn't what
-- it was at the entry.
abbrev pub StandsAs : Meaning → Place → (ℕ → ℕ) → ℕ → List Item → Type 0
StandsAs m place labels pc [] = Unit {0}
StandsAs m place labels pc (Plain i ∷ items) = (code_base ≤ pc) × (pc + 4 ≤ code_limit) × (instr_at place pc ≡ Some i) × StandsAs m place labels (pc + 4) items
StandsAs m place labels pc (Bind label ∷ items) = (labels label ≡ pc) × StandsAs m place labels pc items
StandsAs m place labels pc (Goto label ∷ items) =
    (next : ℕ) × ((p : Point) → p.machine.regs.pc ≡ pc → read p.machine.regs Sp ≢ place.sp → Hops m place 1 p (labels label)) × StandsAs m place labels next items
StandsAs m place labels pc (Test op a b label ∷ items) =
    (next : ℕ) × (next % 4 ≡ 0)
    × ((p : Point) → p.machine.regs.pc ≡ pc → read p.machine.regs Sp ≢ place.sp →
    Hops m place 1 p (if is_taken op (read p.machine.regs a) (read p.machine.regs b) then labels label else next))
    × StandsAs m place labels next items

-- words stand as items wherever they stand, whoever enters them; labels are addresses of instructions
abbrev pub StandEverywhere : Meaning → List ℕ → List Item → Type 0
StandEverywhere m words items =
    (place : Place) → place.words ≡ words → IsBase words place.base
    → (labels : ℕ → ℕ) × ((label : ℕ) → labels label % 4 ≡ 0) × StandsAs m place labels place.base items
