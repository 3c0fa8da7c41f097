-- A play that isn't at a call is the same with more replies.
use Rattle.std.specs.Prelude.{◌≡◌, ℕ, zero, suc, ◌-◌, ◌⊎◌, Bool, true, false, nat_lt, List, [], ◌∷◌, ◌++◌, refl}
use Rattle.std.proofs.Common.{inl, inr}
use Rattle.ir_core.specs.Program.{Program}
use Rattle.ir_meaning.specs.declared.calls.Reply.{Reply}
use Rattle.ir_meaning.specs.Memory.{Memory}
use Rattle.ir_meaning.specs.Walk.{Walker, Does, Goes, Calls, Returns, Overflows, Breaks, Entry, Opens, TooDeep, NoFunction}
use Rattle.ir_meaning.specs.Play.{EndOf, NotEnded, PlayOn, ask, play_after, play_on, play_entry, play}
use Rattle.ir_meaning.specs.Play as ends
use Rattle.ir_meaning.specs.Step.{walker}
use Rattle.ir_meaning.specs.Plays.{Meaning, Invocation, play_of}
use Rattle.ir_meaning.specs.Meaning.{meaning}
use Rattle.ir_meaning.proofs.Plays.{paid, unpaid, play-paid, play-unpaid}

abbrev pub IsCall : {V : Type 0} → EndOf V → Type 0
IsCall (ends.Calls callee given memory) = Unit {0}
IsCall (ends.Returns value memory) = ⊥
IsCall ends.Overflows = ⊥
IsCall NotEnded = ⊥
IsCall ends.Undefined = ⊥

-- the first is at a call, or the second is the same
abbrev pub CallsOrStays : {V : Type 0} → EndOf V → EndOf V → Type 0
CallsOrStays e e' = IsCall e ⊎ (e' ≡ e)

module _ {V R : Type 0} (w : Walker V R) (on : PlayOn w) (left : ℕ) (more : List R)
    (rest : (replies : List R) (now : w.State) (memory : Memory) → CallsOrStays (on left replies now memory) (on left (replies ++ more) now memory)) where
  ask-stays : (replies : List R) (now : w.State) (memory : Memory) (callee : ℕ) (given : List V)
      → CallsOrStays (ask w on left replies now memory callee given) (ask w on left (replies ++ more) now memory callee given)
  ask-stays [] now memory callee given = inl tt
  ask-stays (reply ∷ replies) now memory callee given = rest replies (w.answered now reply) (w.memory_of reply)

  after-stays : (replies : List R) (now : w.State) (memory : Memory) (does : Does V w.State)
      → CallsOrStays (play_after w on left replies now memory does) (play_after w on left (replies ++ more) now memory does)
  after-stays replies now memory (Goes next after) = rest replies next after
  after-stays replies now memory (Calls callee given) = ask-stays replies now memory callee given
  after-stays replies now memory (Returns value after) = inr refl
  after-stays replies now memory Overflows = inr refl
  after-stays replies now memory Breaks = inr refl

  entry-stays : (replies : List R) (memory : Memory) (e : Entry w.State)
      → CallsOrStays (play_entry w on left replies memory e) (play_entry w on left (replies ++ more) memory e)
  entry-stays replies memory (Opens first) = rest replies first memory
  entry-stays replies memory TooDeep = inr refl
  entry-stays replies memory NoFunction = inr refl

module _ {V R : Type 0} (w : Walker V R) (more : List R) where
  pub play_on-stays : (n left : ℕ) (replies : List R) (now : w.State) (memory : Memory)
      → CallsOrStays (play_on w n left replies now memory) (play_on w n left (replies ++ more) now memory)
  play_on-stays zero left replies now memory = inr refl
  play_on-stays (suc n) left replies now memory = by_test (play_on-stays n) (nat_lt left (w.step now memory).units) refl
    where
      by_test : ((l : ℕ) (rs : List R) (a : w.State) (b : Memory) → CallsOrStays (play_on w n l rs a b) (play_on w n l (rs ++ more) a b))
          → (short : Bool) → nat_lt left (w.step now memory).units ≡ short
          → CallsOrStays (play_on w (suc n) left replies now memory) (play_on w (suc n) left (replies ++ more) now memory)
      by_test ih true e =
          rw (unpaid w (play_on w n) left replies now memory (w.step now memory) e, unpaid w (play_on w n) left (replies ++ more) now memory (w.step now memory) e) (inr refl)
      by_test ih false e =
          rw (paid w (play_on w n) left replies now memory (w.step now memory) e, paid w (play_on w n) left (replies ++ more) now memory (w.step now memory) e)
          (after-stays w (play_on w n) (left - (w.step now memory).units) more (ih (left - (w.step now memory).units)) replies now memory (w.step now memory).does)

  pub play-stays : (symbol : ℕ) (arguments : List V) (memory : Memory) (sp : ℕ) (replies : List R) (units : ℕ)
      → CallsOrStays (play w symbol arguments memory sp replies units) (play w symbol arguments memory sp (replies ++ more) units)
  play-stays symbol arguments memory sp replies units = by_test (nat_lt units w.entry_units) refl
    where
      by_test : (short : Bool) → nat_lt units w.entry_units ≡ short
          → CallsOrStays (play w symbol arguments memory sp replies units) (play w symbol arguments memory sp (replies ++ more) units)
      by_test true e = rw (play-unpaid w symbol arguments memory sp replies units e, play-unpaid w symbol arguments memory sp (replies ++ more) units e) (inr refl)
      by_test false e =
          rw (play-paid w symbol arguments memory sp replies units e, play-paid w symbol arguments memory sp (replies ++ more) units e)
          (entry-stays w (play_on w units) (units - w.entry_units) more (play_on-stays units (units - w.entry_units)) replies memory (w.entry symbol arguments memory sp))

-- more replies change a play of the meaning at calls alone
abbrev pub MoreReplies : Meaning → Type 0
MoreReplies m = (a : Invocation) (rs more : List Reply) (t : ℕ) → CallsOrStays (play_of m a rs t) (play_of m a (rs ++ more) t)

pub more_replies : (program : Program) → MoreReplies (meaning program)
more_replies program a rs more t = play-stays (walker program) more a.symbol a.args a.memory a.sp rs t
