-- Where registers of target code stand in words: in s0 to s10 and in slots of the frame.
use Rattle.std.specs.Prelude.{ℕ, zero, suc, ◌+◌, ◌*◌, ◌==◌, ◌||◌, Bool, false, List, [], ◌∷◌, slice_index_or, Option, Some, None, if◌then◌else◌}
use Rattle.rv_core.specs.declared.reg.Reg.{Reg}
use Rattle.rv_core.specs.declared.reg.Reg.TheVariants.{X0, S0, S1, S2, S3, S4, S5, S6, S7, S8, S9, S10}
use Rattle.abi.specs.Frame.{save_place}
use Rattle.mir.specs.declared.places.Place.{Place}
use Rattle.mir.specs.declared.places.Place.TheVariants.{Saved, Slot}
use Rattle.mir.specs.declared.places.Places.{Places}

-- the registers that hold registers of target code
abbrev pub saved_regs : List Reg
saved_regs = S0 ∷ S1 ∷ S2 ∷ S3 ∷ S4 ∷ S5 ∷ S6 ∷ S7 ∷ S8 ∷ S9 ∷ S10 ∷ []

-- s0 to s10, by their numbers
abbrev pub saved_reg : ℕ → Reg
saved_reg k = slice_index_or saved_regs k X0

-- where the frame keeps the caller's ra, and the caller's s(k)
abbrev pub ra_offset : ℕ → ℕ
ra_offset frame = save_place frame 0

abbrev pub save_offset : ℕ → ℕ → ℕ
save_offset frame k = save_place frame (k + 1)

-- how many slots the frame of so many values has
abbrev pub slots_of : ℕ → ℕ
slots_of values = 4 * values + 4

-- ---- the s registers in use

abbrev pub is_saved : ℕ → Option Place → Bool
is_saved k (Some (Saved j)) = k == j
is_saved k _ = false

abbrev pub some_saved : ℕ → List (Option Place) → Bool
some_saved k [] = false
some_saved k (place ∷ places) = is_saved k place || some_saved k places

-- a register stands in s(k)
abbrev pub uses : Places → ℕ → Bool
uses places k = some_saved k places.at

-- which of so many are in use, from one on
abbrev pub used_from : Places → ℕ → ℕ → List ℕ
used_from places k zero = []
used_from places k (suc more) = if uses places k then k ∷ used_from places (k + 1) more else used_from places (k + 1) more

abbrev pub used : Places → List ℕ
used places = used_from places 0 11
