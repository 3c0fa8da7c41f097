-- Code with labels: a list of items, and where each label is bound.
use Rattle.std.specs.Prelude.{◌≤◌, ◌^◌, ℕ, List, [], ◌∷◌, length, Option, Some, None, slice_index_or}
use Rattle.rv_core.specs.Instr.{IsValid}
use Rattle.rv_asm.specs.declared.item.Item.{Item}
use Rattle.rv_asm.specs.declared.item.Item.TheVariants.{Plain, BranchTo, JumpTo}

-- the items in order, and for each label the number of the item before which it stands, where it is bound
pub record Code : Type 0 where
  pub items : List Item
  pub bound : List (Option ℕ)

abbrev pub empty : Code
empty = record { items = []; bound = [] }

abbrev pub item_at : Option ℕ → ℕ
item_at None = 0
item_at (Some k) = k

-- the item that a label leads to; a label that isn't bound leads to the first
abbrev pub target : List (Option ℕ) → ℕ → ℕ
target bound label = item_at (slice_index_or bound label None)

-- the item that an item leads to, other than the next
abbrev pub leads_to : List (Option ℕ) → Item → ℕ
leads_to bound (Plain i) = 0
leads_to bound (BranchTo op a b label) = target bound label
leads_to bound (JumpTo label) = target bound label

-- an instruction among them has a spelling
abbrev pub IsSound : Item → Type 0
IsSound (Plain i) = IsValid i
IsSound (BranchTo op a b label) = Unit {0}
IsSound (JumpTo label) = Unit {0}

abbrev pub AreSound : List Item → Type 0
AreSound [] = Unit {0}
AreSound (item ∷ items) = IsSound item × AreSound items

-- what is true of all code that is being written: its instructions have spellings, and it has at most so many items
pub record IsCode (items : List Item) : Type 0 where
  pub sound : AreSound items
  pub few : length items ≤ 2 ^ 29
