-- What the reader of a list of calls answers.
use Rattle.std.specs.Prelude.{◌≡◌, ℕ, ◌+◌, Bool, not, ◌==◌, nat_eq, List, length, take, drop, Option, Some, None, Result, Ok, Err, if◌then◌else◌}
use Rattle.std.specs.Borrow.{Bor}
use Rattle.std.specs.List.{prefix_len}
use Rattle.ir_meaning.specs.declared.calls.ListedCall.{ListedCall}
use Rattle.jit_calls.specs.declared.lists.CallsRefusal.{CallsRefusal}
use Rattle.jit_calls.specs.declared.lists.CallsRefusal.TheVariants as refusals
use Rattle.jit_calls.specs.Lists.{without_return}

-- a refusal, but for want of memory, is the one that is due
abbrev pub Refuses : {A : Type 0} → CallsRefusal → Result A CallsRefusal → Type 0
Refuses refusals.NoMemory due = Unit {0}
Refuses (refusals.Syntax line) due = due ≡ Err (refusals.Syntax line)
Refuses (refusals.NoSuchFunction line) due = due ≡ Err (refusals.NoSuchFunction line)
Refuses (refusals.Shape line) due = due ≡ Err (refusals.Shape line)
Refuses (refusals.Limit count) due = due ≡ Err (refusals.Limit count)

-- what is answered, seen by view, is what is due, but for want of memory
abbrev pub Gives : {X A : Type 0} → (X → A) → Result X CallsRefusal → Result A CallsRefusal → Type 0
Gives view (Ok x) due = due ≡ Ok (view x)
Gives view (Err refusal) due = Refuses refusal due

-- the same of a list that grows
abbrev pub Follows : Result (Unit {0}) CallsRefusal → List ListedCall → Result (List ListedCall) CallsRefusal → Type 0
Follows (Ok done) list due = due ≡ Ok list
Follows (Err refusal) list due = Refuses refusal due

abbrev pub is_in_line : ℕ → Bool
is_in_line byte = not (nat_eq byte 10)

abbrev pub line_at : ℕ → List ℕ → Option (List ℕ × List ℕ)
line_at len text = if len == length text then None else Some (without_return (take len text), drop (len + 1) text)

-- the first line that ends by a line feed, without its end, and what stands behind it
abbrev pub next_line_of : List ℕ → Option (List ℕ × List ℕ)
next_line_of text = line_at (prefix_len is_in_line text) text

abbrev pub pair_of : Option (Bor (List ℕ) × Bor (List ℕ)) → Option (List ℕ × List ℕ)
pair_of None = None
pair_of (Some pair) = Some (pair.0.now, pair.1.now)
