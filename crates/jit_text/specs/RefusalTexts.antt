-- What is said of a module that is refused.
use Rattle.std.specs.Prelude.{ℕ, List, [], ◌∷◌, ◌++◌, slice_get, Option, Some, None, codes}
use Rattle.std.specs.Fmt.{decimal}
use Rattle.ir_core.specs.declared.program.Function.{Function}
use Rattle.ir_core.specs.declared.program.What.{What}
use Rattle.ir_print_names.specs.Names.{name_text}
use Rattle.ir_core.specs.declared.program.What.TheVariants.{Bytes, Functions, Globals, Parameters, Units, Nodes, Size}
use Rattle.jit_calls.specs.declared.lists.CallsRefusal.{CallsRefusal}
use Rattle.jit_calls.specs.declared.lists.CallsRefusal.TheVariants as lists
use Rattle.ir_reader.specs.declared.reading.ReadRefusal.{ReadRefusal}
use Rattle.ir_reader.specs.declared.reading.ReadRefusal.TheVariants as unread
use Rattle.ir_verify.specs.declared.refusal.VerifyRefusal.{VerifyRefusal}
use Rattle.ir_verify.specs.declared.refusal.VerifyRefusal.TheVariants.{Limit, Shape, Range, EntryEdge, BadType, CallShape, PhiEdges, NotAssigned, NoMemory}

-- what is counted
abbrev pub what_text : What → List ℕ
what_text Bytes = codes "bytes"
what_text Functions = codes "functions"
what_text Globals = codes "globals"
what_text Parameters = codes "parameters"
what_text Units = codes "units"
what_text Nodes = codes "nodes"
what_text Size = codes "size"

-- `limit WHAT N`
abbrev pub limit_text : What → ℕ → List ℕ
limit_text what count = codes "limit " ++ what_text what ++ codes " " ++ decimal count

-- why the reader refuses a text
abbrev pub fault_text : ReadRefusal → List ℕ
fault_text (unread.Syntax at) = codes "syntax at " ++ decimal at
fault_text (unread.LeftOut at word) = codes "left out at " ++ decimal at ++ codes ": " ++ word
fault_text (unread.Name at name) = codes "name at " ++ decimal at ++ codes ": " ++ name
fault_text (unread.Limit what count) = limit_text what count
fault_text unread.NoMemory = codes "no memory"

-- the line of a text that doesn't read
abbrev pub unread_text : ReadRefusal → List ℕ
unread_text refusal = codes "reopt: module: " ++ fault_text refusal ++ codes "\n"

abbrev pub name_in : Option Function → List ℕ
name_in None = []
name_in (Some function) = name_text function.name

-- `@NAME` of a function by its number
abbrev pub symbol_text : List Function → ℕ → List ℕ
symbol_text functions symbol = codes "@" ++ name_in (slice_get functions symbol)

-- ` N` for each block of a walk
abbrev pub walk_text : List ℕ → List ℕ
walk_text [] = []
walk_text (block ∷ blocks) = codes " " ++ decimal block ++ walk_text blocks

-- `block N` and what it does
abbrev pub block_text : List Function → ℕ → ℕ → List ℕ → List ℕ
block_text functions function block fault = symbol_text functions function ++ codes ": block " ++ decimal block ++ fault

-- `instruction N` and what it does
abbrev pub instruction_text : List Function → ℕ → ℕ → List ℕ → List ℕ
instruction_text functions function inst fault = symbol_text functions function ++ codes ": instruction " ++ decimal inst ++ fault

-- why the verifier refuses a module of these functions
abbrev pub row_text : List Function → VerifyRefusal → List ℕ
row_text functions (Limit what count) = limit_text what count
row_text functions (Shape function block) = block_text functions function block (codes " is misshapen")
row_text functions (Range function inst) = instruction_text functions function inst (codes " is out of range")
row_text functions (EntryEdge function block) = block_text functions function block (codes " jumps to the entry")
row_text functions (BadType function inst) = instruction_text functions function inst (codes " has wrong types")
row_text functions (CallShape function inst callee) = instruction_text functions function inst (codes " calls " ++ symbol_text functions callee ++ codes " wrongly")
row_text functions (PhiEdges function block) = block_text functions function block (codes " has wrong phis")
row_text functions (NotAssigned function value walk) = symbol_text functions function ++ codes ": value " ++ decimal value ++ codes " not assigned on" ++ walk_text walk
row_text functions NoMemory = codes "no memory"

-- the line of a module that doesn't verify
abbrev pub unverified_text : List Function → VerifyRefusal → List ℕ
unverified_text functions refusal = codes "reopt: verify: " ++ row_text functions refusal ++ codes "\n"

-- the line of a module whose globals take more bytes than the data memory has
abbrev pub no_image_text : ℕ → ℕ → List ℕ
no_image_text bytes size = codes "reopt: image: needs " ++ decimal bytes ++ codes " bytes, has " ++ decimal size ++ codes "\n"

-- `line N: ` and what is wrong there
abbrev pub line_text : ℕ → List ℕ → List ℕ
line_text line fault = codes "line " ++ decimal line ++ codes ": " ++ fault

-- why a text is no list of calls
abbrev pub list_text : CallsRefusal → List ℕ
list_text (lists.Syntax line) = line_text line (codes "syntax")
list_text (lists.NoSuchFunction line) = line_text line (codes "no such function")
list_text (lists.Shape line) = line_text line (codes "wrong arguments")
list_text (lists.Limit count) = codes "limit " ++ decimal count
list_text lists.NoMemory = codes "no memory"

-- the line of a text that is no list of the module's calls
abbrev pub uncalled_text : CallsRefusal → List ℕ
uncalled_text refusal = codes "reopt: calls: " ++ list_text refusal ++ codes "\n"
