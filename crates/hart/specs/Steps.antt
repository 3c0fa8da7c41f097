-- What it is for a hart to run an instruction at an address.
use Rattle.std.specs.Prelude.{◌≡◌, ℕ, ◌+◌, ◌-◌, ◌*◌, ◌%◌, ◌<◌, ◌≤◌, ◌==◌, ◌&&◌, nat_le, nat_lt, true, pos, List, Option}
use Rattle.rv_core.specs.declared.instr.Instr.{Instr}
use Rattle.rv_core.specs.declared.reg.Reg.TheVariants.{T0, T1}
use Rattle.rv_core.specs.Step.{view, read, plus}
use Rattle.ir_meaning.specs.Plays.{Meaning}
use Rattle.rv_play.specs.Machine.{code_base}
use Rattle.rv_play.specs.Ending.{Item, Goes, do_decoded}
use Rattle.hart.specs.declared.form.Form.{Form}
use Rattle.hart.specs.declared.hart.Hart.{Hart}
use Rattle.hart.specs.declared.hart.Phase.TheVariants as phase
use Rattle.hart.specs.declared.hart.Wanted.{Wanted}
use Rattle.hart.specs.Calls.{Origin, Both}
use Rattle.hart.specs.Forms.{reads_as}
use Rattle.hart.specs.Standing.{IsFor, IsSameCall, IsAsked, IsCodeAddress, run_of, wanted_by, turns_left}

-- a hart whose program counter is at an address
abbrev pub at_address : ℕ → Hart → Hart
at_address pc h = record h { regs = record h.regs { pc = pc } }

-- the same with so many instructions left
abbrev pub standing_at : ℕ → ℕ → Hart → Hart
standing_at pc left h = record (at_address pc h) { left = left }

-- a hart whose call goes on at an address, with so many instructions left
abbrev pub going_at : ℕ → ℕ → Hart → Hart
going_at pc left h = record (standing_at pc left h) { phase = phase.Begin }

-- a hart that stands at an address has run an instruction, and stands at the next
pub record DoesAt (h : Hart) (pc : ℕ) (o : Option Instr) (h' : Hart) (next : ℕ) : Type 0 where
  pub goes : (m : Meaning) → IsFor m h → (counted : List ℕ) (pass : List Item) →
      do_decoded m (run_of (at_address pc h) counted pass) o ≡ Goes (run_of (at_address next h') counted pass)
  pub same : IsSameCall h h'
  pub phase : h'.phase ≡ h.phase

-- the same of a form, whatever its word spells otherwise
abbrev pub RunsAt : Hart → ℕ → Form → Hart → ℕ → Type 0
RunsAt h pc f h' next = (o : Option Instr) → DoesAt h pc (reads_as f o) h' next

-- a call that went on at an address has led to where the hart wants something
pub record HasLeft {S : Type 0} (stands : S → S → List Item → List ℕ → Type 0) (f f' : S) (h h' : Hart) (address left : ℕ) : Type 0 where
  pub wants : (w : Wanted) × wanted_by h' h'.phase w × IsAsked h' w
  pub fewer : turns_left h' h'.phase < 2 * left + 2
  pub both : (since : S) (known : Hart) (o : Origin) → Both stands since f known o (going_at address left h) → Both stands since f' known o h'

-- a call that went on at a stub's start has led to a code word
pub record HasEntered {S : Type 0} (stands : S → S → List Item → List ℕ → Type 0) (f f' : S) (h h' : Hart) (address left next : ℕ) : Type 0 where
  pub phase : h'.phase ≡ phase.Fetch
  pub inside : IsCodeAddress h'.code_words next
  pub enough : 4 ≤ left
  pub both : (since : S) (known : Hart) (o : Origin) → Both stands since f known o (going_at address left h) → Both stands since f' known o (standing_at next (left - 4) h')

-- a word that counts an entry of a symbol, behind which a code word stands
pub record CountsAt (h : Hart) (limit pc left word symbol : ℕ) : Type 0 where
  pub word_is : word ≡ 0x73
  pub one : read (view h.regs) T0 ≡ 1
  pub symbol_is : read (view h.regs) T1 ≡ symbol
  pub below : symbol < h.functions
  pub some : 0 < left
  pub code : ((nat_le code_base (plus pc (pos 4))) && ((nat_lt (plus pc (pos 4)) limit) && (plus pc (pos 4) % 4 == 0))) ≡ true
