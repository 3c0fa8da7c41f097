-- Addresses, operands and initial values.
use Rattle.std.specs.Prelude.{ℕ, ◌-◌, Bool, true, false, ◌&&◌, ◌||◌, nat_eq, length, List, [], ◌∷◌, ◌++◌, Option, Some, None, codes, if◌then◌else◌}
use Rattle.std.specs.Str.{bytes_eq}
use Rattle.ir_text.specs.declared.name.Name.{Name}
use Rattle.ir_text.specs.declared.name.Number.{Number}
use Rattle.ir_text.specs.Token.{Token, word, local, global, number, bytes, mark, begins_with, behind_one}
use Rattle.ir_text.specs.Form.{Form, ◌>>=◌, yield, place, taken, by_token, by_two, by_flag, repeat}
use Rattle.ir_text.specs.Words.{is_mark, is_word, punctuation, keyword, passed, local_name, global_name, numeral, group}
use Rattle.ir_grammar.specs.declared.type_tree.TypeNode.{TypeNode}
use Rattle.ir_value_trees.specs.declared.value_tree.Index.{Index}
use Rattle.ir_value_trees.specs.declared.value_tree.Address.{Address}
use Rattle.ir_value_trees.specs.declared.value_tree.Value.{Value}
use Rattle.ir_value_trees.specs.declared.value_tree.Value.TheVariants as values
use Rattle.ir_value_trees.specs.declared.value_tree.Typed.{Typed}
use Rattle.ir_value_trees.specs.declared.value_tree.InitNode.{InitNode}
use Rattle.ir_value_trees.specs.declared.value_tree.InitNode.TheVariants as inits
use Rattle.ir_value_trees.specs.declared.values.AddressWordList.{AddressWordList}
use Rattle.ir_value_trees.specs.declared.values.IndexList.{IndexList}
use Rattle.ir_value_trees.specs.declared.values.HeadList.{HeadList}
use Rattle.ir_value_trees.specs.declared.values.TailList.{TailList}
use Rattle.ir_value_trees.specs.declared.values.OpenInit.{OpenInit}
use Rattle.ir_grammar.specs.Words.{is_attribute, is_number, is_string, is_align_of, begins_word_item, string_attribute, numbered_attribute, word_attribute, attributes}
use Rattle.ir_grammar.specs.Types.{is_int, integer, struct_end, type_form}

-- a word behind the `getelementptr` of a constant; `inrange` alone has a group, so that another word's parenthesis opens the operands
unfoldable pub address_word : Form (Unit {0})
address_word =
    by_token is_string string_attribute
    (by_two (is_align_of (codes "align")) numbered_attribute
    (by_two (is_align_of (codes "cc")) numbered_attribute
    (by_token (is_word (codes "inrange")) word_attribute
    (passed is_attribute))))

abbrev pub address_word_turn : AddressWordList → Form (Bool × AddressWordList)
address_word_turn before = by_token begins_word_item (address_word >>= λ _. yield (true, before)) (yield (false, before))

unfoldable pub address_words : Form (Unit {0})
address_words = do
  _ ← repeat address_word_turn (record {})
  yield tt

-- `iN NUMBER`
unfoldable pub index_form : Form Index
index_form = do
  ty ← integer
  given ← numeral
  yield (record { ty = ty; number = given })

abbrev pub index_turn : IndexList → Form (Bool × IndexList)
index_turn before =
    by_token (is_mark 44)
    (do
      _ ← punctuation 44
      one ← index_form
      yield (true, record { indices = before.indices ++ one ∷ [] }))
    (yield (false, before))

-- `getelementptr WORDS (TYPE, ptr`
unfoldable pub address_head : Form (List TypeNode)
address_head = do
  _ ← keyword (codes "getelementptr")
  _ ← address_words
  _ ← punctuation 40
  ty ← type_form
  _ ← punctuation 44
  _ ← keyword (codes "ptr")
  yield ty

abbrev pub head_turn : HeadList → Form (Bool × HeadList)
head_turn before =
    by_token (is_word (codes "getelementptr"))
    (address_head >>= λ ty. yield (true, record { heads = before.heads ++ ty ∷ [] }))
    (yield (false, before))

-- `, iN NUMBER, ..)`
unfoldable pub address_tail : Form (List Index)
address_tail = do
  all ← repeat index_turn (record { indices = [] })
  _ ← punctuation 41
  yield all.indices

abbrev pub tail_turn : TailList → Form (Bool × TailList)
tail_turn before =
    by_flag (nat_eq (length before.tails) before.count)
    (yield (false, before))
    (address_tail >>= λ indices. yield (true, record { count = before.count; tails = before.tails ++ indices ∷ [] }))

unfoldable pub address_heads : Form (List (List TypeNode))
address_heads = do
  all ← repeat head_turn (record { heads = [] })
  yield all.heads

-- as many tails as there were heads
unfoldable pub address_tails : ℕ → Form (List (List Index))
address_tails count = do
  all ← repeat tail_turn (record { count = count; tails = [] })
  yield all.tails

-- `@NAME`, or `getelementptr` over a constant place
unfoldable pub address : Form Address
address = do
  left ← place
  heads ← address_heads
  name ← global_name
  tails ← address_tails (length heads)
  yield (record { left = left; heads = heads; name = name; tails = tails })

-- an operand that is one word
abbrev pub word_value : ℕ → List ℕ → Option Value
word_value left name =
    if bytes_eq name (codes "true") then Some (values.True left)
    else if bytes_eq name (codes "false") then Some (values.False left)
    else if bytes_eq name (codes "null") then Some (values.Null left)
    else if bytes_eq name (codes "poison") then Some (values.Poison left)
    else None

abbrev pub word_value_of : ℕ → Token → Option Value
word_value_of left (word name) = word_value left name
word_value_of left token = None

unfoldable pub word_operand : Form Value
word_operand = do
  left ← place
  taken (word_value_of left)

abbrev pub is_local : Token → Bool
is_local (local spelling name) = true
is_local token = false

abbrev pub begins_address : Token → Bool
begins_address (global spelling name) = true
begins_address (word name) = bytes_eq name (codes "getelementptr")
begins_address token = false

-- an operand
unfoldable pub operand : Form Value
operand =
    by_token is_local
    (local_name >>= λ name. yield (values.Local name))
    (by_token is_number
    (numeral >>= λ given. yield (values.Number given))
    (by_token begins_address
    (address >>= λ place. yield (values.Address place))
    word_operand))

-- `T V`
unfoldable pub typed : Form Typed
typed = do
  ty ← type_form
  value ← operand
  yield (record { ty = ty; value = value })

-- `T ATTRS V`
unfoldable pub argument : Form Typed
argument = do
  ty ← type_form
  _ ← attributes
  value ← operand
  yield (record { ty = ty; value = value })

-- an initial value that is one word; `true` and `false` are values of `i1`, which no global has
abbrev pub word_init : ℕ → List ℕ → Option InitNode
word_init left name =
    if bytes_eq name (codes "null") then Some (inits.Null left)
    else if bytes_eq name (codes "zeroinitializer") then Some (inits.Zero left)
    else if bytes_eq name (codes "true") then Some (inits.True left)
    else if bytes_eq name (codes "false") then Some (inits.False left)
    else None

abbrev pub token_init_of : ℕ → Token → Option InitNode
token_init_of left (word name) = word_init left name
token_init_of left (bytes inner) = Some (inits.Bytes inner left)
token_init_of left token = None

-- an initial value that is one token
unfoldable pub token_init : Form InitNode
token_init = do
  left ← place
  taken (token_init_of left)

-- an initial value without parts
unfoldable pub plain_init : Form InitNode
plain_init =
    by_token is_number
    (numeral >>= λ given. yield (inits.Number given))
    (by_token begins_address
    (address >>= λ place. yield (inits.Address place))
    token_init)

-- behind a value that is whole
abbrev pub whole : OpenInit → InitNode → OpenInit
whole before node = record { wanted = before.wanted; nodes = before.nodes ++ node ∷ []; is_complete = true }

-- `]`, `}` or `}>`
unfoldable pub list_end : Bool → Bool → Form (Unit {0})
list_end array packed = by_flag array (punctuation 93) (struct_end packed)

abbrev pub closing : Bool → ℕ
closing array = if array then 93 else 125

abbrev pub wanted_by : Bool → Bool → ℕ
wanted_by array packed = if array then 93 else if packed then 62 else 125

-- behind what opens a list: its first element's type, or its end
unfoldable pub list_start : OpenInit → Bool → Bool → InitNode → Form OpenInit
list_start before array packed node =
    by_token (is_mark (closing array))
    (do
      left ← place
      _ ← list_end array packed
      yield (whole (whole before node) (inits.Close left)))
    (do
      ty ← type_form
      yield (record { wanted = wanted_by array packed ∷ before.wanted; nodes = before.nodes ++ node ∷ inits.Of ty ∷ []; is_complete = false }))

-- where a value comes
unfoldable pub init_start : OpenInit → Form OpenInit
init_start before = do
  left ← place
  by_token (is_mark 91)
      (do
        _ ← punctuation 91
        list_start before true false (inits.Array left))
      (by_token (is_mark 123)
      (do
        _ ← punctuation 123
        list_start before false false (inits.Struct left))
      (by_token (is_mark 60)
      (do
        _ ← punctuation 60
        _ ← punctuation 123
        list_start before false true (inits.Packed left))
      (plain_init >>= λ node. yield (whole before node))))

-- behind a value: a comma and the next element's type, or the end of the list
unfoldable pub init_end : OpenInit → Form OpenInit
init_end before =
    by_token (is_mark 44)
    (do
      _ ← punctuation 44
      ty ← type_form
      yield (record { wanted = before.wanted; nodes = before.nodes ++ inits.Of ty ∷ []; is_complete = false }))
    (do
      left ← place
      _ ← list_end (begins_with 93 before.wanted) (begins_with 62 before.wanted)
      yield (record { wanted = behind_one before.wanted; nodes = before.nodes ++ inits.Close left ∷ []; is_complete = true }))

abbrev pub init_turn : OpenInit → Form (Bool × OpenInit)
init_turn before =
    by_flag before.is_complete
    (by_flag (nat_eq (length before.wanted) 0)
    (yield (false, before))
    (init_end before >>= λ next. yield (true, next)))
    (init_start before >>= λ next. yield (true, next))

-- an initial value
unfoldable pub init_form : Form (List InitNode)
init_form = do
  all ← repeat init_turn (record { wanted = []; nodes = []; is_complete = false })
  yield all.nodes
