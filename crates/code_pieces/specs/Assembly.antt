-- Code with labels as the assembler holds it.
use Rattle.std.specs.Prelude.{[], ℕ, ◌+◌, List, ◌∷◌, ◌++◌, length, replicate, slice_set, Option, Some, None}
use Rattle.rv_asm.specs.declared.item.Item.{Item as Assembled}
use Rattle.rv_asm.specs.declared.item.Item.TheVariants as asm
use Rattle.rv_asm.specs.Code.{Code}
use Rattle.code_pieces.specs.Items.{Item, Plain, Bind, Goto, Test}

-- the assembler's items, among which labels have no place
abbrev pub assembled : List Item → List Assembled
assembled [] = []
assembled (Plain i ∷ items) = asm.Plain i ∷ assembled items
assembled (Bind label ∷ items) = assembled items
assembled (Goto label ∷ items) = asm.JumpTo label ∷ assembled items
assembled (Test op a b label ∷ items) = asm.BranchTo op a b label ∷ assembled items

-- where labels stand behind these items, of which the first is the assembler's of that number
abbrev pub bind_all : ℕ → List Item → List (Option ℕ) → List (Option ℕ)
bind_all at [] bound = bound
bind_all at (Plain i ∷ items) bound = bind_all (at + 1) items bound
bind_all at (Bind label ∷ items) bound = bind_all at items (slice_set bound label (Some at))
bind_all at (Goto label ∷ items) bound = bind_all (at + 1) items bound
bind_all at (Test op a b label ∷ items) bound = bind_all (at + 1) items bound

-- code with these items behind it
unfoldable pub put : Code → List Item → Code
put code items = record { items = code.items ++ assembled items; bound = bind_all (length code.items) items code.bound }

-- no code, and so many labels that stand nowhere
abbrev pub labelled : ℕ → Code
labelled labels = record { items = []; bound = replicate labels None }
