-- The instructions of code with labels. Places are counted in words from the first.
use Rattle.std.specs.Prelude.{◌≡◌, ℕ, ◌+◌, ◌-◌, ◌*◌, ◌%◌, ◌^◌, ℤ, pos, negsuc, Bool, true, if◌then◌else◌, nat_lt, nat_le, List, [], ◌∷◌, ◌++◌, map, Option, slice_index}
use Rattle.rv_core.specs.declared.reg.Reg.{Reg}
use Rattle.rv_core.specs.declared.reg.Reg.TheVariants.{X0, T6}
use Rattle.rv_core.specs.declared.instr.BranchOp.{BranchOp}
use Rattle.rv_core.specs.declared.instr.BranchOp.TheVariants.{Beq, Bne, Blt, Bge, Bltu, Bgeu}
use Rattle.rv_core.specs.declared.instr.Instr.{Instr}
use Rattle.rv_core.specs.declared.instr.Instr.TheVariants.{Auipc, Jal, Jalr, Branch}
use Rattle.rv_encode.specs.Spelling.{word_of}
use Rattle.rv_asm.specs.declared.item.Item.{Item}
use Rattle.rv_asm.specs.declared.item.Item.TheVariants.{Plain, BranchTo, JumpTo}
use Rattle.rv_asm.specs.declared.item.Form.{Form}
use Rattle.rv_asm.specs.declared.item.Form.TheVariants.{Short, Near, Far}
use Rattle.rv_asm.specs.declared.item.Formed.{Formed}
use Rattle.rv_asm.specs.Code.{Code, leads_to}
use Rattle.rv_asm.specs.Constant.{upper, lower}

-- how many bytes it is from one place to another
abbrev pub offset : ℕ → ℕ → ℤ
offset place to = if nat_le place to then pos (4 * (to - place)) else negsuc (4 * (place - to) - 1)

-- an offset from -half to half - 1 leads there
abbrev pub reaches : ℕ → ℕ → ℕ → Bool
reaches half place to = if nat_le place to then nat_lt (4 * (to - place)) half else nat_le (4 * (place - to)) half

-- the offset's low 32 bits
abbrev pub distance : ℕ → ℕ → ℕ
distance place to = (4 * to + 2 ^ 34 - 4 * place) % 2 ^ 32

-- the condition that holds where this one doesn't
abbrev pub opposite : BranchOp → BranchOp
opposite Beq = Bne
opposite Bne = Beq
opposite Blt = Bge
opposite Bge = Blt
opposite Bltu = Bgeu
opposite Bgeu = Bltu

-- the upper part of the offset is added to pc, and the low part by the jump
abbrev pub far_code : ℕ → ℕ → List Instr
far_code place to = Auipc T6 (upper (distance place to) % 2 ^ 20) ∷ Jalr X0 T6 (lower (distance place to)) ∷ []

abbrev pub jump_code : Form → ℕ → ℕ → List Instr
jump_code Short place to = Jal X0 (offset place to) ∷ []
jump_code Near place to = Jal X0 (offset place to) ∷ []
jump_code Far place to = far_code place to

abbrev pub branch_code : Form → BranchOp → Reg → Reg → ℕ → ℕ → List Instr
branch_code Short op a b place to = Branch op a b (offset place to) ∷ []
branch_code Near op a b place to = Branch (opposite op) a b (pos 8) ∷ jump_code Near (place + 1) to
branch_code Far op a b place to = Branch (opposite op) a b (pos 12) ∷ jump_code Far (place + 1) to

-- the instructions of an item at a place, which leads to another
abbrev pub item_code : Form → Item → ℕ → ℕ → List Instr
item_code form (Plain i) place to = i ∷ []
item_code form (BranchTo op a b label) place to = branch_code form op a b place to
item_code form (JumpTo label) place to = jump_code form place to

-- how many words that is
abbrev pub size : Form → Item → ℕ
size form (Plain i) = 1
size Short (BranchTo op a b label) = 1
size Near (BranchTo op a b label) = 2
size Far (BranchTo op a b label) = 3
size Short (JumpTo label) = 1
size Near (JumpTo label) = 1
size Far (JumpTo label) = 2

-- the first form that reaches
abbrev pub first_form : Item → ℕ → ℕ → Form
first_form (Plain i) place to = Short
first_form (BranchTo op a b label) place to = if reaches 4096 place to then Short else if reaches (2 ^ 20) (place + 1) to then Near else Far
first_form (JumpTo label) place to = if reaches (2 ^ 20) place to then Short else Far

-- the place of each item, and that behind the last
abbrev pub places_from : ℕ → List Formed → List ℕ
places_from place [] = place ∷ []
places_from place (x ∷ xs) = place ∷ places_from (place + size x.form x.item) xs

-- the place to which an item leads
abbrev pub goes_to : List (Option ℕ) → List ℕ → Item → ℕ
goes_to bound places item = slice_index places (leads_to bound item)

-- the instructions of items from a place on
abbrev pub laid : (Item → ℕ) → ℕ → List Formed → List Instr
laid to place [] = []
laid to place (x ∷ xs) = item_code x.form x.item place (to x.item) ++ laid to (place + size x.form x.item) xs

-- each has the first form that reaches
abbrev pub AreFirst : (Item → ℕ) → ℕ → List Formed → Type 0
AreFirst to place [] = Unit {0}
AreFirst to place (x ∷ xs) = (x.form ≡ first_form x.item place (to x.item)) × AreFirst to (place + size x.form x.item) xs

abbrev pub item_of : Formed → Item
item_of x = x.item

-- where the items of a list lead to, once each has its form
abbrev pub way : List (Option ℕ) → List Formed → Item → ℕ
way bound xs = goes_to bound (places_from 0 xs)

-- a form is no longer than another
abbrev pub IsNoLonger : Form → Form → Type 0
IsNoLonger Short form = Unit {0}
IsNoLonger Near Short = ⊥
IsNoLonger Near Near = Unit {0}
IsNoLonger Near Far = Unit {0}
IsNoLonger Far Short = ⊥
IsNoLonger Far Near = ⊥
IsNoLonger Far Far = Unit {0}

-- item by item, none is longer
abbrev pub AreNoLonger : List Formed → List Formed → Type 0
AreNoLonger [] [] = Unit {0}
AreNoLonger [] (y ∷ ys) = ⊥
AreNoLonger (x ∷ xs) [] = ⊥
AreNoLonger (x ∷ xs) (y ∷ ys) = (x.item ≡ y.item) × (IsNoLonger x.form y.form × AreNoLonger xs ys)

abbrev pub in_short : Item → Formed
in_short item = record { item = item; form = Short }

-- items with the first form that reaches from where each stands now, whatever form it has
abbrev pub first_from : (Item → ℕ) → ℕ → List Formed → List Formed
first_from to place [] = []
first_from to place (x ∷ xs) = record { item = x.item; form = first_form x.item place (to x.item) } ∷ first_from to (place + size x.form x.item) xs

-- the words are those of the items in order, each in the first form that reaches, and of all such choices of forms it is the shortest, item by item
pub record IsAssembly (code : Code) (words : List ℕ) : Type 0 where
  pub formed : List Formed
  pub items : map item_of formed ≡ code.items
  pub first : AreFirst (way code.bound formed) 0 formed
  pub least : (others : List Formed) → map item_of others ≡ code.items → AreFirst (way code.bound others) 0 others → AreNoLonger formed others
  pub made : words ≡ map word_of (laid (way code.bound formed) 0 formed)

-- the form's instructions have offsets that reach
abbrev pub CanJump : Form → ℕ → ℕ → Type 0
CanJump Short place to = reaches (2 ^ 20) place to ≡ true
CanJump Near place to = reaches (2 ^ 20) place to ≡ true
CanJump Far place to = Unit {0}

abbrev pub CanBranch : Form → ℕ → ℕ → Type 0
CanBranch Short place to = reaches 4096 place to ≡ true
CanBranch Near place to = reaches (2 ^ 20) (place + 1) to ≡ true
CanBranch Far place to = Unit {0}

-- code has one assembly
abbrev pub OneAssembly : Type 0
OneAssembly = (code : Code) (v w : List ℕ) → IsAssembly code v → IsAssembly code w → v ≡ w
