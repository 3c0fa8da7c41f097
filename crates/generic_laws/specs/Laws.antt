-- What holds of the generic code of all functions of checked modules.
use Rattle.std.specs.Prelude.{◌≡◌, ℕ, true, ◌<◌, ◌≤◌, ◌==◌, List, ◌∷◌, ◌++◌, length, Some, slice_get}
use Rattle.ir_core.specs.Program.{Program}
use Rattle.ir_core.specs.declared.program.Function.{Function}
use Rattle.ir_meaning.specs.Step.{function_at}
use Rattle.ir_verify.specs.Verdict.{IsChecked}
use Rattle.gmir.specs.declared.code.GType.TheVariants.{S}
use Rattle.gmir.specs.declared.code.GInst.{GInst}
use Rattle.gmir.specs.declared.code.GFunction.{GFunction}
use Rattle.gmir.specs.Formed.{HasForm, AllExist, times, all_written, is_end, is_param, takes_data, targets, edges}
use Rattle.gmir.specs.Play.{insts_at, is_phi}
use Rattle.gmir.specs.Refines.{RefinesFunction}
use Rattle.legal_code.specs.Legal.{HasWideAddresses}
use Rattle.generic_code.specs.Whole.{translated}

-- it refines the function: data memory ends where the program's does, its static weight is at most 256 for each unit and each operand of a
-- phi, and its play refines the function's
abbrev pub TranslatedRefines : Type 0
TranslatedRefines = (program : Program) (symbol : ℕ) (function : Function) → IsChecked program → function_at program symbol ≡ Some function
    → RefinesFunction program symbol function (translated program symbol function)

-- each number that becomes an address has 64 bits
abbrev pub TranslatedHasWideAddresses : Type 0
TranslatedHasWideAddresses = (program : Program) (symbol : ℕ) (function : Function) → IsChecked program → function_at program symbol ≡ Some function
    → HasWideAddresses (translated program symbol function)

-- each instruction has the registers, types and number that its operation asks, and registers that it names are there
abbrev pub HasForms : GFunction → Type 0
HasForms f = (block k : ℕ) (i : GInst) → slice_get (insts_at f block) k ≡ Some i → HasForm f i i.op × AllExist f i.defs × AllExist f i.uses

abbrev pub TranslatedHasForms : Type 0
TranslatedHasForms = (program : Program) (symbol : ℕ) (function : Function) → IsChecked program → function_at program symbol ≡ Some function
    → HasForms (translated program symbol function)

-- each register is written at most once
abbrev pub WritesOnce : GFunction → Type 0
WritesOnce f = (r : ℕ) → times r (all_written f) ≤ 1

abbrev pub TranslatedWritesOnce : Type 0
TranslatedWritesOnce = (program : Program) (symbol : ℕ) (function : Function) → IsChecked program → function_at program symbol ≡ Some function
    → WritesOnce (translated program symbol function)

-- there is a block; each has instructions, of which the last and no other ends it, and jumps to blocks that are there, and never to the first
pub record EndsBlocks (f : GFunction) : Type 0 where
  pub some : 1 ≤ length f.blocks
  pub filled : (block : ℕ) → block < length f.blocks → 1 ≤ length (insts_at f block)
  pub ends : (block : ℕ) (before : List GInst) (i : GInst) (behind : List GInst) → block < length f.blocks → insts_at f block ≡ before ++ i ∷ behind
      → is_end i.op ≡ (length behind == 0)
  pub targets' : (block : ℕ) (before : List GInst) (i : GInst) (behind : List GInst) → block < length f.blocks → insts_at f block ≡ before ++ i ∷ behind
      → (k to : ℕ) → slice_get (targets i) k ≡ Some to → (1 ≤ to) × (to < length f.blocks)

abbrev pub TranslatedEndsBlocks : Type 0
TranslatedEndsBlocks = (program : Program) (symbol : ℕ) (function : Function) → IsChecked program → function_at program symbol ≡ Some function
    → EndsBlocks (translated program symbol function)

-- each register has from 1 to 64 bits
abbrev pub HasWidths : GFunction → Type 0
HasWidths f = (r w : ℕ) → slice_get f.types r ≡ Some (S w) → (1 ≤ w) × (w ≤ 64)

abbrev pub TranslatedHasWidths : Type 0
TranslatedHasWidths = (program : Program) (symbol : ℕ) (function : Function) → IsChecked program → function_at program symbol ≡ Some function
    → HasWidths (translated program symbol function)

-- parameters stand in the first block, behind parameters alone; phis stand in the others, behind phis alone
pub record HeadsFirst (f : GFunction) : Type 0 where
  pub params : (block : ℕ) (before : List GInst) (i : GInst) (behind : List GInst) → block < length f.blocks → insts_at f block ≡ before ++ i ∷ behind
      → is_param i.op ≡ true → (block ≡ 0) × ((other : GInst) (k : ℕ) → slice_get before k ≡ Some other → is_param other.op ≡ true)
  pub phis : (block : ℕ) (before : List GInst) (i : GInst) (behind : List GInst) → block < length f.blocks → insts_at f block ≡ before ++ i ∷ behind
      → is_phi i.op ≡ true → (1 ≤ block) × ((other : GInst) (k : ℕ) → slice_get before k ≡ Some other → is_phi other.op ≡ true)

abbrev pub TranslatedHeadsFirst : Type 0
TranslatedHeadsFirst = (program : Program) (symbol : ℕ) (function : Function) → IsChecked program → function_at program symbol ≡ Some function
    → HeadsFirst (translated program symbol function)

-- what takes data stands in the first block
abbrev pub TakesDataFirst : GFunction → Type 0
TakesDataFirst f = (block k : ℕ) (i : GInst) → slice_get (insts_at f block) k ≡ Some i → takes_data i.op ≡ true → block ≡ 0

abbrev pub TranslatedTakesDataFirst : Type 0
TranslatedTakesDataFirst = (program : Program) (symbol : ℕ) (function : Function) → IsChecked program → function_at program symbol ≡ Some function
    → TakesDataFirst (translated program symbol function)

-- a phi names once each block that jumps to its block, and no other
abbrev pub PhisNameJumps : GFunction → Type 0
PhisNameJumps f = (block : ℕ) (before : List GInst) (i : GInst) (behind : List GInst) → block < length f.blocks → insts_at f block ≡ before ++ i ∷ behind → is_phi i.op ≡ true
    → ((from : ℕ) → 1 ≤ times block (edges (insts_at f from)) → times from i.to ≡ 1) × ((from : ℕ) → 1 ≤ times from i.to → 1 ≤ times block (edges (insts_at f from)))

abbrev pub TranslatedNamesJumps : Type 0
TranslatedNamesJumps = (program : Program) (symbol : ℕ) (function : Function) → IsChecked program → function_at program symbol ≡ Some function
    → PhisNameJumps (translated program symbol function)
