-- More replies change a play at calls alone.
use Rattle.std.proofs.Common.{◌≡◌, refl, ℕ, zero, suc, ◌-◌, Bool, true, false, List, [], ◌∷◌, ◌++◌, inl, inr}
use Rattle.std.specs.Prelude.{nat_lt}
use Rattle.ir_meaning.specs.Memory.{Memory}
use Rattle.ir_meaning.specs.Walk.{Walker, Does, Goes, Calls, Returns, Overflows, Breaks, Entry, Opens, TooDeep, NoFunction}
use Rattle.ir_meaning.specs.Play.{PlayOn, play_after, play_on, play_entry, play}
use Rattle.ir_meaning.specs.Step.{walker}
use Rattle.ir_meaning.proofs.Plays.{paid, unpaid, play-paid, play-unpaid}
use Rattle.walks.specs.MoreReplies.{CallsOrStays, MoreRepliesAgree}

module _ {V R : Type 0} (w : Walker V R) (more : List R) where
  -- what goes on from a state is the same with more replies
  abbrev Agrees : PlayOn w → ℕ → Type 0
  Agrees on left = (replies : List R) (now : w.State) (memory : Memory) → CallsOrStays (on left replies now memory) (on left (replies ++ more) now memory)

  after_agrees : (on : PlayOn w) (left : ℕ) → Agrees on left → (replies : List R) (now : w.State) (memory : Memory) (does : Does V w.State)
      → CallsOrStays (play_after w on left replies now memory does) (play_after w on left (replies ++ more) now memory does)
  after_agrees on left h replies now memory (Goes next after) = h replies next after
  after_agrees on left h [] now memory (Calls callee arguments) = inl tt
  after_agrees on left h (reply ∷ replies) now memory (Calls callee arguments) = h replies (w.answered now reply) (w.memory_of reply)
  after_agrees on left h replies now memory (Returns value after) = inr refl
  after_agrees on left h replies now memory Overflows = inr refl
  after_agrees on left h replies now memory Breaks = inr refl

  entry_agrees : (on : PlayOn w) (left : ℕ) → Agrees on left → (replies : List R) (memory : Memory) (e : Entry w.State)
      → CallsOrStays (play_entry w on left replies memory e) (play_entry w on left (replies ++ more) memory e)
  entry_agrees on left h replies memory (Opens first) = h replies first memory
  entry_agrees on left h replies memory TooDeep = inr refl
  entry_agrees on left h replies memory NoFunction = inr refl

  on_agrees : (steps left : ℕ) → Agrees (play_on w steps) left
  on_agrees zero left replies now memory = inr refl
  on_agrees (suc steps) left replies now memory = by_test (on_agrees steps) (nat_lt left (w.step now memory).units) refl
    where
      by_test : ((left : ℕ) → Agrees (play_on w steps) left) → (short : Bool) → nat_lt left (w.step now memory).units ≡ short
          → CallsOrStays (play_on w (suc steps) left replies now memory) (play_on w (suc steps) left (replies ++ more) now memory)
      by_test h true e =
          rw (unpaid w (play_on w steps) left replies now memory (w.step now memory) e, unpaid w (play_on w steps) left (replies ++ more) now memory (w.step now memory) e) (inr refl)
      by_test h false e =
          rw (paid w (play_on w steps) left replies now memory (w.step now memory) e, paid w (play_on w steps) left (replies ++ more) now memory (w.step now memory) e)
          (after_agrees (play_on w steps) (left - (w.step now memory).units) (h (left - (w.step now memory).units)) replies now memory (w.step now memory).does)

  pub play_agrees : (symbol : ℕ) (arguments : List V) (memory : Memory) (sp : ℕ) (replies : List R) (units : ℕ)
      → CallsOrStays (play w symbol arguments memory sp replies units) (play w symbol arguments memory sp (replies ++ more) units)
  play_agrees symbol arguments memory sp replies units = by_test (nat_lt units w.entry_units) refl
    where
      by_test : (short : Bool) → nat_lt units w.entry_units ≡ short
          → CallsOrStays (play w symbol arguments memory sp replies units) (play w symbol arguments memory sp (replies ++ more) units)
      by_test true e = rw (play-unpaid w symbol arguments memory sp replies units e, play-unpaid w symbol arguments memory sp (replies ++ more) units e) (inr refl)
      by_test false e =
          rw (play-paid w symbol arguments memory sp replies units e, play-paid w symbol arguments memory sp (replies ++ more) units e)
          (entry_agrees (play_on w units) (units - w.entry_units) (on_agrees units (units - w.entry_units)) replies memory (w.entry symbol arguments memory sp))

pub more_replies_agree : MoreRepliesAgree
more_replies_agree program a rs more units = play_agrees (walker program) more a.symbol a.args a.memory a.sp rs units
