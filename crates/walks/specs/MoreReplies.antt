-- A play with more replies than it asks for.
use Rattle.std.specs.Prelude.{◌≡◌, ℕ, ◌⊎◌, List, ◌++◌}
use Rattle.ir_core.specs.Program.{Program}
use Rattle.ir_meaning.specs.declared.calls.Reply.{Reply}
use Rattle.ir_meaning.specs.Play.{EndOf, Calls}
use Rattle.ir_meaning.specs.Plays.{Invocation, play_of}
use Rattle.ir_meaning.specs.Meaning.{meaning}

-- the play stands at a call without a reply
abbrev pub IsCall : {V : Type 0} → EndOf V → Type 0
IsCall (Calls callee arguments memory) = Unit {0}
IsCall _ = ⊥

-- the first stands at a call, or the second is the same
abbrev pub CallsOrStays : {V : Type 0} → EndOf V → EndOf V → Type 0
CallsOrStays e e' = IsCall e ⊎ (e' ≡ e)

-- more replies change the play of a function of a module at calls alone
abbrev pub MoreRepliesAgree : Type 0
MoreRepliesAgree = (program : Program) (a : Invocation) (rs more : List Reply) (units : ℕ)
    → CallsOrStays (play_of (meaning program) a rs units) (play_of (meaning program) a (rs ++ more) units)
