-- Types, each part before those inside it.
use Rattle.std.specs.Prelude.{ℕ, Bool, true, false, nat_eq, length, List, [], ◌∷◌, ◌++◌, Option, Some, None, codes, if◌then◌else◌}
use Rattle.std.specs.Str.{bytes_eq}
use Rattle.ir_text.specs.declared.name.Name.{Name}
use Rattle.ir_text.specs.Token.{Token, word, local, mark, begins_with, behind_one}
use Rattle.ir_text.specs.Form.{Form, ◌>>=◌, yield, place, taken, by_token, by_two, by_flag, repeat}
use Rattle.ir_text.specs.Words.{is_mark, is_word, punctuation, keyword, numeral, local_of}
use Rattle.ir_grammar.specs.declared.type_tree.TypeNode.{TypeNode}
use Rattle.ir_grammar.specs.declared.type_tree.TypeNode.TheVariants.{Void, Int, Ptr, Array, Struct, Packed, Close, Named}
use Rattle.ir_grammar.specs.declared.types.OpenType.{OpenType}
use Rattle.ir_grammar.specs.Words.{is_int_name}

abbrev pub int_of : List ℕ → ℕ → Option TypeNode
int_of name left = if is_int_name name then Some (Int (behind_one name) left) else None

abbrev pub named_node : Option Name → Option TypeNode
named_node None = None
named_node (Some name) = Some (Named name)

-- a type that is one token
abbrev pub scalar_of : ℕ → Token → Option TypeNode
scalar_of left (word name) = if bytes_eq name (codes "ptr") then Some (Ptr left) else if bytes_eq name (codes "void") then Some (Void left) else int_of name left
scalar_of left token = named_node (local_of left token)

unfoldable pub scalar : Form TypeNode
scalar = do
  left ← place
  taken (scalar_of left)

abbrev pub is_int : Token → Bool
is_int (word name) = is_int_name name
is_int token = false

abbrev pub integer_of : ℕ → Token → Option TypeNode
integer_of left (word name) = int_of name left
integer_of left token = None

-- `iN`
unfoldable pub integer : Form TypeNode
integer = do
  left ← place
  taken (integer_of left)

-- behind a part that is whole
abbrev pub completed : OpenType → TypeNode → OpenType
completed open_type node = record { wanted = open_type.wanted; nodes = open_type.nodes ++ node ∷ []; is_complete = true }

-- behind what opens a part; an element comes
abbrev pub opened : OpenType → ℕ → TypeNode → OpenType
opened open_type closer node = record { wanted = closer ∷ open_type.wanted; nodes = open_type.nodes ++ node ∷ []; is_complete = false }

-- behind what closes the innermost part
abbrev pub closed : OpenType → OpenType
closed open_type = record { wanted = behind_one open_type.wanted; nodes = open_type.nodes ++ Close ∷ []; is_complete = true }

-- `}`, or `}>` of a packed struct
unfoldable pub struct_end : Bool → Form (Unit {0})
struct_end packed = do
  _ ← punctuation 125
  by_flag packed (punctuation 62) (yield tt)

abbrev pub struct_node : Bool → ℕ → TypeNode
struct_node packed left = if packed then Packed left else Struct left

-- behind `{`: the first field comes, or the struct is empty
unfoldable pub struct_start : OpenType → Bool → ℕ → Form OpenType
struct_start open_type packed left =
    by_token (is_mark 125)
    (do
      _ ← struct_end packed
      yield (completed (completed open_type (struct_node packed left)) Close))
    (yield (opened open_type (if packed then 62 else 125) (struct_node packed left)))

-- where a type comes
unfoldable pub type_start : OpenType → Form OpenType
type_start open_type = do
  left ← place
  by_token (is_mark 91)
      (do
        _ ← punctuation 91
        count ← numeral
        _ ← keyword (codes "x")
        yield (opened open_type 93 (Array count left)))
      (by_token (is_mark 123)
      (do
        _ ← punctuation 123
        struct_start open_type false left)
      (by_token (is_mark 60)
      (do
        _ ← punctuation 60
        _ ← punctuation 123
        struct_start open_type true left)
      (scalar >>= λ node. yield (completed open_type node))))

-- behind a type: the end of what it stands in, or a comma and another field
unfoldable pub type_end : OpenType → Form OpenType
type_end open_type =
    by_flag (begins_with 93 open_type.wanted)
    (do
      _ ← punctuation 93
      yield (record { wanted = behind_one open_type.wanted; nodes = open_type.nodes; is_complete = true }))
    (by_token (is_mark 44)
    (do
      _ ← punctuation 44
      yield (record { wanted = open_type.wanted; nodes = open_type.nodes; is_complete = false }))
    (do
      _ ← struct_end (begins_with 62 open_type.wanted)
      yield (closed open_type)))

abbrev pub more : OpenType → Bool × OpenType
more open_type = (true, open_type)

abbrev pub type_turn : OpenType → Form (Bool × OpenType)
type_turn open_type =
    by_flag open_type.is_complete
    (by_flag (nat_eq (length open_type.wanted) 0)
    (yield (false, open_type))
    (type_end open_type >>= λ next. yield (more next)))
    (type_start open_type >>= λ next. yield (more next))

-- a type
unfoldable pub type_form : Form (List TypeNode)
type_form = do
  open_type ← repeat type_turn (record { wanted = []; nodes = []; is_complete = false })
  yield open_type.nodes
