-- When a text reads as a module, and what a refusal says.
use Rattle.std.specs.Prelude.{◌≡◌, ◌⊎◌, ℕ, ◌-◌, ◌≤◌, ◌<◌, List, take, drop, length, codes, Result, Ok, Err, if◌then◌else◌}
use Rattle.ir_text.specs.Token.{Token, token_at, word, local, global, label, number, string, bytes, mark, end}
use Rattle.ir_text.specs.Words.{is_word}
use Rattle.ir_tree.specs.declared.tree.Tree.{Tree}
use Rattle.ir_tree.specs.Modules.{IsTextOf}
use Rattle.ir_tree.specs.LeftOut.{FirstLeftOut, HasNoLeftOut}
use Rattle.ir_core.specs.declared.program.Module.{Module}
use Rattle.ir_core.specs.declared.program.What.{What}
use Rattle.ir_core.specs.declared.program.What.TheVariants as what
use Rattle.ir_types.specs.declared.fault.Fault.{Fault}
use Rattle.ir_types.specs.declared.fault.Fault.TheVariants as faults
use Rattle.ir_functions.specs.Functions.{IsModuleOf}
use Rattle.ir_functions.specs.TreeCauses.{TreeFault, FitsTree}
use Rattle.ir_reader.specs.declared.reading.ReadRefusal.{ReadRefusal}
use Rattle.ir_reader.specs.declared.reading.ReadRefusal.TheVariants as refusals

-- a text of at most 4,194,304 bytes has the module of its tree
abbrev pub Reads : List ℕ → Module → Type 0
Reads text module_ = (length text ≤ 4194304) × ((tree : Tree) × IsTextOf text tree × IsModuleOf tree module_)

-- a text with the forms of a module: it has a tree of which each part fits, whatever its names stand for and its sizes are
abbrev pub Forms : List ℕ → Type 0
Forms text = (tree : Tree) × IsTextOf text tree × FitsTree tree

-- a tree of the text has this fault
abbrev pub HasFault : List ℕ → Fault → Type 0
HasFault text fault = (tree : Tree) × IsTextOf text tree × TreeFault tree fault

-- a plain left-out word, the first in the text, or a left-out item stands where so much is left
abbrev pub StandsLeftOut : List ℕ → ℕ → Type 0
StandsLeftOut text left = FirstLeftOut text left ⊎ HasFault text (faults.LeftOut left)

-- the bytes of the text, or what a limit counts in its tree, pass the limit
abbrev pub PassesLimit : List ℕ → What → ℕ → Type 0
PassesLimit text counted count = ((counted ≡ what.Bytes) × (count ≡ length text) × (4194304 < length text)) ⊎ HasFault text (faults.Limit counted count)

-- a label is shown without its colon
abbrev pub colon_of : Token → ℕ
colon_of (label spelling name) = 1
colon_of (word name) = 0
colon_of (local spelling name) = 0
colon_of (global spelling name) = 0
colon_of (number negative digits) = 0
colon_of (string inner) = 0
colon_of (bytes inner) = 0
colon_of (mark byte) = 0
colon_of end = 0

-- the bytes of the token at the front of a text, as they are written
abbrev pub written : List ℕ → List ℕ
written text = take (length text - length (token_at text).1 - colon_of (token_at text).0) text

-- what is shown of a left-out token: `true`, which ends a built-in of memory, says `volatile`
abbrev pub written_left_out : List ℕ → List ℕ
written_left_out text = if is_word (codes "true") (token_at text).0 then codes "volatile" else written text

-- the token at a place of a text is shown
abbrev pub ShowsToken : List ℕ → ℕ → ℕ → List ℕ → Type 0
ShowsToken text left at shown = (at ≡ length text - left) × (shown ≡ written (drop at text))

-- it is refused by memory, or has no module
abbrev pub HasNone : List ℕ → ReadRefusal → Type 0
HasNone text refusals.NoMemory = Unit {0}
HasNone text (refusals.Syntax at) = (module_ : Module) → Reads text module_ → ⊥
HasNone text (refusals.LeftOut at name) = (module_ : Module) → Reads text module_ → ⊥
HasNone text (refusals.Name at name) = (module_ : Module) → Reads text module_ → ⊥
HasNone text (refusals.Limit counted count) = (module_ : Module) → Reads text module_ → ⊥

-- a refusal for its syntax: the text hasn't the forms of a module, and no plain left-out word stands in it
abbrev pub ShowsSyntax : List ℕ → ReadRefusal → Type 0
ShowsSyntax text refusals.NoMemory = Unit {0}
ShowsSyntax text (refusals.Syntax at) = (Forms text → ⊥) × HasNoLeftOut text
ShowsSyntax text (refusals.LeftOut at name) = Unit {0}
ShowsSyntax text (refusals.Name at name) = Unit {0}
ShowsSyntax text (refusals.Limit counted count) = Unit {0}

-- a refusal of what is left out: it stands at the place, and its token is shown
abbrev pub ShowsLeftOut : List ℕ → ReadRefusal → Type 0
ShowsLeftOut text refusals.NoMemory = Unit {0}
ShowsLeftOut text (refusals.Syntax at) = Unit {0}
ShowsLeftOut text (refusals.LeftOut at name) = (left : ℕ) × ((at ≡ length text - left) × (name ≡ written_left_out (drop at text))) × StandsLeftOut text left
ShowsLeftOut text (refusals.Name at name) = Unit {0}
ShowsLeftOut text (refusals.Limit counted count) = Unit {0}

-- a refusal of a name: at the place stands one that isn't defined or is defined twice, and it is shown
abbrev pub ShowsName : List ℕ → ReadRefusal → Type 0
ShowsName text refusals.NoMemory = Unit {0}
ShowsName text (refusals.Syntax at) = Unit {0}
ShowsName text (refusals.LeftOut at name) = Unit {0}
ShowsName text (refusals.Name at name) = (left : ℕ) × ShowsToken text left at name × HasFault text (faults.Name left)
ShowsName text (refusals.Limit counted count) = Unit {0}

-- a refusal by a limit: what it counts passes it, and the count is shown
abbrev pub ShowsLimit : List ℕ → ReadRefusal → Type 0
ShowsLimit text refusals.NoMemory = Unit {0}
ShowsLimit text (refusals.Syntax at) = Unit {0}
ShowsLimit text (refusals.LeftOut at name) = Unit {0}
ShowsLimit text (refusals.Name at name) = Unit {0}
ShowsLimit text (refusals.Limit counted count) = PassesLimit text counted count

-- all that a refusal says
abbrev pub Refuses : List ℕ → ReadRefusal → Type 0
Refuses text refusal = HasNone text refusal × (ShowsSyntax text refusal × (ShowsLeftOut text refusal × (ShowsName text refusal × ShowsLimit text refusal)))

abbrev pub IsMemoryRefusal : ReadRefusal → Type 0
IsMemoryRefusal refusals.NoMemory = Unit {0}
IsMemoryRefusal (refusals.Syntax at) = ⊥
IsMemoryRefusal (refusals.LeftOut at name) = ⊥
IsMemoryRefusal (refusals.Name at name) = ⊥
IsMemoryRefusal (refusals.Limit counted count) = ⊥

-- how a refusal tells a fault: the place from the front of the text, and what stands there
abbrev pub Tells : List ℕ → Fault → ReadRefusal → Type 0
Tells text faults.NoMemory refusal = ⊥
Tells text (faults.Syntax left) refusal = refusal ≡ refusals.Syntax (length text - left)
Tells text (faults.LeftOut left) refusal = refusal ≡ refusals.LeftOut (length text - left) (written_left_out (drop (length text - left) text))
Tells text (faults.Name left) refusal = refusal ≡ refusals.Name (length text - left) (written (drop (length text - left) text))
Tells text (faults.Limit counted count) refusal = refusal ≡ refusals.Limit counted count

-- a refusal tells a fault, or that memory was wanting
abbrev pub Told : List ℕ → Fault → ReadRefusal → Type 0
Told text fault refusal = IsMemoryRefusal refusal ⊎ Tells text fault refusal

-- in the place of a fault of syntax stands the first plain left-out word, where there is one
abbrev pub IsBlamed : List ℕ → Fault → Type 0
IsBlamed text faults.NoMemory = Unit {0}
IsBlamed text (faults.Syntax left) = HasNoLeftOut text
IsBlamed text (faults.LeftOut left) = FirstLeftOut text left
IsBlamed text (faults.Name left) = ⊥
IsBlamed text (faults.Limit counted count) = ⊥

-- the fault that is told of a tree that has this one
abbrev pub IsToldFor : List ℕ → Fault → Fault → Type 0
IsToldFor text (faults.Syntax left) told = IsBlamed text told
IsToldFor text faults.NoMemory told = told ≡ faults.NoMemory
IsToldFor text (faults.LeftOut left) told = told ≡ faults.LeftOut left
IsToldFor text (faults.Name left) told = told ≡ faults.Name left
IsToldFor text (faults.Limit counted count) told = told ≡ faults.Limit counted count

-- what is answered to a text
abbrev pub Answers : List ℕ → Result Module ReadRefusal → Type 0
Answers text (Ok module_) = Reads text module_
Answers text (Err refusal) = Refuses text refusal
