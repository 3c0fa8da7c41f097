-- Words that run as code with labels.
use Rattle.std.specs.Prelude.{◌≡◌, ◌≢◌, ℕ, zero, suc, ◌+◌, ◌-◌, ◌*◌, ◌/◌, ◌%◌, ◌^◌, ◌<◌, ◌≤◌, ◌==◌, ◌&&◌, if◌then◌else◌, nat_le, List, [], ◌∷◌, length, Option, Some, None, slice_get}
use Rattle.rv_core.specs.declared.instr.Instr.{Instr}
use Rattle.rv_core.specs.declared.step.Stepped.TheVariants as stepped
use Rattle.rv_core.specs.Step.{Registers, read, after, asks, is_taken}
use Rattle.rv_encode.specs.Reading.{instr_of}
use Rattle.rv_asm.specs.declared.item.Item.{Item}
use Rattle.rv_asm.specs.declared.item.Item.TheVariants.{Plain, BranchTo, JumpTo}
use Rattle.rv_asm.specs.Code.{Code, target}

-- the instruction at an address, where words stand from a base on
abbrev pub spelled : Option ℕ → Option Instr
spelled None = None
spelled (Some word) = instr_of word

abbrev pub instr_at : List ℕ → ℕ → ℕ → Option Instr
instr_at words base pc =
    spelled (if (nat_le base pc) && ((pc - base) % 4 == 0) then slice_get words ((pc - base) / 4) else None)

-- n instructions, none of which asks anything of the machine or changes a register but t6, lead from these registers to those
abbrev pub Runs : List ℕ → ℕ → ℕ → Registers → Registers → Type 0
Runs words base zero s t = s ≡ t
Runs words base (suc n) s t = (i : Instr) × (instr_at words base s.pc ≡ Some i) × (asks s i ≡ stepped.Done) × ((j : ℕ) → j ≢ 31 → (after s i).x j ≡ s.x j) × Runs words base n (after s i) t

-- one to three instructions lead to an address, and change no register but t6
pub record Arrives (words : List ℕ) (base : ℕ) (s : Registers) (to : ℕ) : Type 0 where
  pub count : ℕ
  pub some : 1 ≤ count
  pub few : count ≤ 3
  pub last : Registers
  pub run : Runs words base count s last
  pub there : last.pc ≡ to
  pub others : (j : ℕ) → j ≢ 31 → last.x j ≡ s.x j

-- item k stands at its address: an instruction as itself, before the next; a jump leads to the item of its label, and so does
-- a branch where its condition holds, and else to the next item
abbrev pub ItemStands : List ℕ → ℕ → (ℕ → ℕ) → (ℕ → ℕ) → ℕ → Item → Type 0
ItemStands words base to at k (Plain i) = (instr_at words base (at k) ≡ Some i) × (at (k + 1) ≡ at k + 4)
ItemStands words base to at k (JumpTo label) = (s : Registers) → s.pc ≡ at k → Arrives words base s (at (to label))
ItemStands words base to at k (BranchTo op a b label) =
    (s : Registers) → s.pc ≡ at k → Arrives words base s (at (if is_taken op (read s a) (read s b) then to label else k + 1))

-- items from that of number k on
abbrev pub ItemsStand : List ℕ → ℕ → (ℕ → ℕ) → (ℕ → ℕ) → ℕ → List Item → Type 0
ItemsStand words base to at k [] = Unit {0}
ItemsStand words base to at k (item ∷ items) = ItemStands words base to at k item × ItemsStand words base to at (k + 1) items

-- words at a base stand as the code, each item at an address of its own
pub record StandsAs (code : Code) (words : List ℕ) (base : ℕ) : Type 0 where
  pub at : ℕ → ℕ
  pub first : at 0 ≡ base
  pub last : at (length code.items) ≡ base + 4 * length words
  pub each : ItemsStand words base (target code.bound) at 0 code.items

-- they do wherever they stand
abbrev pub RunsAs : Code → List ℕ → Type 0
RunsAs code words = (base : ℕ) → base % 4 ≡ 0 → base + 4 * length words < 2 ^ 64 → StandsAs code words base
