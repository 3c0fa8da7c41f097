-- The harts of a session, and what their calls come to.
use Rattle.std.specs.Prelude.{◌≡◌, ℕ, ◌+◌, ◌*◌, ◌<◌, ◌≤◌, List, [], ◌∷◌, length, slice_index_or}
use Rattle.ir_core.specs.Program.{Program}
use Rattle.ir_meaning.specs.Image.{first_memory}
use Rattle.ir_meaning.specs.Meaning.{meaning}
use Rattle.ir_meaning.specs.declared.calls.ListedCall.{ListedCall}
use Rattle.ir_meaning.specs.declared.calls.Ended.{Ended}
use Rattle.ir_meaning.specs.Right.{Right}
use Rattle.hart.specs.declared.hart.Hart.{Hart}
use Rattle.hart.specs.declared.hart.Image.{Image}
use Rattle.hart.specs.Calls.{HasRoomFor}
use Rattle.hart.specs.Right.{IsImageOf}
use Rattle.hart.specs.Standing.{IsFor}
use Rattle.code_epochs.specs.Sound.{At}
use Rattle.entry_counts.specs.declared.seat.CountSeat.{CountSeat}
use Rattle.redirect_cells.specs.declared.hart_seat.HartSeat.{HartSeat}
use Rattle.redirect_cells.specs.Kept.{word_in}

-- the image of the first data memory of a program, within its data memory
pub record IsImage (program : Program) (image : Image) : Type 0 where
  pub of : IsImageOf (first_memory program.module_.globals) image
  pub room : HasRoomFor program.room image

-- each answer is right for its call
abbrev pub AllRight : Program → List ListedCall → List Ended → Type 0
AllRight program [] [] = Unit {0}
AllRight program [] (end ∷ ends) = ⊥
AllRight program (call ∷ calls) [] = ⊥
AllRight program (call ∷ calls) (end ∷ ends) = Right program call end × AllRight program calls ends

-- the hart knows the program, and its seat is an idle one of a table for the program
pub record IsReady (program : Program) (h : Hart) (s : HartSeat) : Type 0 where
  pub known : IsFor (meaning program) h
  pub table : s.table.now.table.shared.key.module.value ≡ program
  pub idle : word_in s.seat.me.0.role ≡ 0

-- a seat of the same hart of the same table
pub record IsSameSeat (s s' : HartSeat) : Type 0 where
  pub table : s'.table ≡ s.table
  pub number : s'.number ≡ s.number

-- a seat of the same counts, with as many parts, which has taken in the same seats
pub record IsSameCounts (c c' : CountSeat) : Type 0 where
  pub table : c'.counts ≡ c.counts
  pub parts : c'.seat.me.0.parts ≡ c.seat.me.0.parts
  pub joined : c'.seat.me.0.joined ≡ c.seat.me.0.joined

-- the place in the list of calls of the call with this number among those of the hart
abbrev pub place_of : ℕ → ℕ → ℕ → ℕ
place_of harts hart n = hart + harts * n

-- Of so many harts, this one has answered its calls, in order: those whose places leave its number as remainder. Each answer is right.
pub record HasAnswered (program : Program) (calls : List ListedCall) (harts hart : ℕ) (ends : List Ended) : Type 0 where
  pub right : (i : ℕ) (e : Ended) → At ends i e → (call : ListedCall) × At calls (place_of harts hart i) call × Right program call e
  pub whole : length calls ≤ place_of harts hart (length ends)

-- what holds at each place of a list
abbrev pub Each : {A : Type 0} → (ℕ → A → Type 0) → List A → Type 0
Each {A = A} P xs = (i : ℕ) (d : A) → i < length xs → P i (slice_index_or xs i d)
