-- Registers that agree still agree after writes that agree.
use Rattle.std.proofs.Common.{ℕ, zero, suc, Bool, true, false, List, [], ◌∷◌, map}
use Rattle.std.specs.Prelude.{if◌then◌else◌, ◌==◌, slice_get, slice_index_or, IsTrue}
use Rattle.walks.specs.Walk.{Bits}
use Rattle.walks.specs.Bits.{free}
use Rattle.walks.specs.Refines.{RefinesBits, AllRefine}
use Rattle.walks.specs.Registers.{Registers, read, write, put, RegsAgree}

-- the instruction reads only registers that count
abbrev pub ReadsAlive : (ℕ → Bool) → List ℕ → Type 0
ReadsAlive alive [] = Unit {0}
ReadsAlive alive (r ∷ rs) = IsTrue (alive r) × ReadsAlive alive rs

pub read_agrees : (alive : ℕ → Bool) (regs regs' : Registers) → RegsAgree alive regs regs' → (rs : List ℕ) → ReadsAlive alive rs → (k : ℕ) → RefinesBits (read regs (slice_get rs k)) (read regs' (slice_get rs k))
read_agrees alive regs regs' h [] reads k = λ i z e. e
read_agrees alive regs regs' h (r ∷ rs) reads zero = h r reads.0
read_agrees alive regs regs' h (r ∷ rs) reads (suc k) = read_agrees alive regs regs' h rs reads.1 k

pub args_agree : (alive : ℕ → Bool) (regs regs' : Registers) → RegsAgree alive regs regs' → (rs : List ℕ) → ReadsAlive alive rs → AllRefine (map (λ r. regs r) rs) (map (λ r. regs' r) rs)
args_agree alive regs regs' h [] reads = tt
args_agree alive regs regs' h (r ∷ rs) reads = (h r reads.0, args_agree alive regs regs' h rs reads.1)

write_by : (regs regs' : Registers) (a a' : Bits) (x : ℕ) (b : Bool) → RefinesBits (regs x) (regs' x) → RefinesBits a a'
    → RefinesBits (if b then a else regs x) (if b then a' else regs' x)
write_by regs regs' a a' x true h p = p
write_by regs regs' a a' x false h p = h

pub write_agrees : (alive : ℕ → Bool) (regs regs' : Registers) (d : ℕ) (a a' : Bits) → RegsAgree alive regs regs' → RefinesBits a a' → RegsAgree alive (write regs d a) (write regs' d a')
write_agrees alive regs regs' d a a' h p x live = write_by regs regs' a a' x (x == d) (h x live) p

pub put_agrees : (alive : ℕ → Bool) (regs regs' : Registers) (ds : List ℕ) (a a' : Bits) → RegsAgree alive regs regs' → RefinesBits a a' → RegsAgree alive (put regs ds a) (put regs' ds a')
put_agrees alive regs regs' [] a a' h p = h
put_agrees alive regs regs' (d ∷ ds) a a' h p = write_agrees alive regs regs' d a a' h p

pub item_agrees : (xs ys : List Bits) → AllRefine xs ys → (k : ℕ) → RefinesBits (slice_index_or xs k free) (slice_index_or ys k free)
item_agrees [] [] h k = λ i z e. e
item_agrees [] (y ∷ ys) h k = absurd h
item_agrees (x ∷ xs) [] h k = absurd h
item_agrees (x ∷ xs) (y ∷ ys) h zero = h.0
item_agrees (x ∷ xs) (y ∷ ys) h (suc k) = item_agrees xs ys h.1 k
