-- Where a frame holds saved registers and slots, counted in bytes from sp.
use Rattle.std.specs.Prelude.{◌≢◌, ◌<◌, ◌≤◌, ◌⊎◌, ℕ, ◌+◌, ◌-◌, ◌*◌, List, [], ◌∷◌}
use Rattle.rv_core.specs.declared.reg.Reg.{Reg}
use Rattle.rv_core.specs.declared.reg.Reg.TheVariants.{Ra, S0, S1, S2, S3, S4, S5, S6, S7, S8, S9, S10}

-- the registers that a version saves
abbrev pub saved : List Reg
saved = Ra ∷ S0 ∷ S1 ∷ S2 ∷ S3 ∷ S4 ∷ S5 ∷ S6 ∷ S7 ∷ S8 ∷ S9 ∷ S10 ∷ []

-- ra stands at frame - 8, s(i) at frame - 16 - 8 i
abbrev pub save_place : ℕ → ℕ → ℕ
save_place frame place = frame - 8 - 8 * place

abbrev pub slot_place : ℕ → ℕ
slot_place slot = 8 * slot

-- eight bytes at one place and eight at another have no byte in common
abbrev pub AreApart : ℕ → ℕ → Type 0
AreApart a b = (a + 8 ≤ b) ⊎ (b + 8 ≤ a)

-- the frame of n values
abbrev pub frame_of_values : ℕ → ℕ
frame_of_values n = 128 + 32 * n

-- the places of a frame of n values lie apart and inside it
pub record IsDisjointFrame (n : ℕ) : Type 0 where
  pub saves : (i j : ℕ) → i < 12 → j < 12 → i ≢ j → AreApart (save_place (frame_of_values n) i) (save_place (frame_of_values n) j)
  pub slots : (i j : ℕ) → i ≢ j → AreApart (slot_place i) (slot_place j)
  pub both : (i j : ℕ) → i < 12 → j < 4 * n + 4 → slot_place j + 8 ≤ save_place (frame_of_values n) i
  pub inside : (i : ℕ) → i < 12 → save_place (frame_of_values n) i + 8 ≤ frame_of_values n

abbrev pub FramesAreDisjoint : Type 0
FramesAreDisjoint = (n : ℕ) → IsDisjointFrame n
