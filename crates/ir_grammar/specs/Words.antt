-- Words and attributes that are dropped, and what may stand behind an instruction or a global.
use Rattle.std.specs.Prelude.{ℕ, Bool, true, false, not, ◌||◌, ◌&&◌, nat_eq, nat_le, List, [], ◌∷◌, ◌++◌, Option, Some, None, codes, if◌then◌else◌}
use Rattle.std.specs.Str.{bytes_eq}
use Rattle.std.specs.List.{list_all, list_any}
use Rattle.std.specs.Char.{is_ascii_digit}
use Rattle.ir_text.specs.Token.{Token, word, local, global, label, number, string, mark, begins, is_letter}
use Rattle.ir_text.specs.Form.{Form, ◌>>=◌, yield, nothing, place, taken, by_token, by_two, repeat}
use Rattle.ir_text.specs.Words.{is_mark, is_word, punctuation, keyword, passed, numeral, group, is_opener}
use Rattle.ir_grammar.specs.declared.type_tree.Align.{Align}
use Rattle.ir_grammar.specs.declared.words.WordList.{WordList}
use Rattle.ir_grammar.specs.declared.words.AttributeList.{AttributeList}
use Rattle.ir_grammar.specs.declared.words.SuffixList.{SuffixList}

abbrev pub left_out_words : List (List ℕ)
left_out_words =
    codes "undef" ∷ codes "volatile" ∷ codes "atomic" ∷ codes "musttail" ∷ codes "byval" ∷ codes "inalloca" ∷ codes "preallocated" ∷ codes "swifterror" ∷ codes "nest" ∷ codes "addrspace"
    ∷ codes "thread_local" ∷ codes "external" ∷ codes "extern_weak" ∷ codes "alias" ∷ codes "ifunc" ∷ codes "asm" ∷ codes "personality" ∷ codes "invoke" ∷ codes "resume" ∷ codes "landingpad"
    ∷ codes "indirectbr" ∷ codes "callbr" ∷ codes "blockaddress" ∷ codes "fence" ∷ codes "cmpxchg" ∷ codes "atomicrmw" ∷ codes "va_arg" ∷ codes "extractvalue" ∷ codes "insertvalue"
    ∷ codes "extractelement" ∷ codes "insertelement" ∷ codes "shufflevector" ∷ codes "addrspacecast" ∷ codes "fadd" ∷ codes "fsub" ∷ codes "fmul" ∷ codes "fdiv" ∷ codes "frem" ∷ codes "fneg"
    ∷ codes "fcmp" ∷ codes "fptrunc" ∷ codes "fpext" ∷ codes "fptoui" ∷ codes "fptosi" ∷ codes "uitofp" ∷ codes "sitofp" ∷ codes "half" ∷ codes "bfloat" ∷ codes "float" ∷ codes "double"
    ∷ codes "fp128" ∷ codes "..." ∷ []

-- words that begin an instruction, an operand or a type, and the two that end the words of a global
abbrev pub reserved_words : List (List ℕ)
reserved_words =
    codes "add" ∷ codes "sub" ∷ codes "mul" ∷ codes "udiv" ∷ codes "sdiv" ∷ codes "urem" ∷ codes "srem" ∷ codes "shl" ∷ codes "lshr" ∷ codes "ashr" ∷ codes "and" ∷ codes "or" ∷ codes "xor"
    ∷ codes "icmp" ∷ codes "trunc" ∷ codes "zext" ∷ codes "sext" ∷ codes "ptrtoint" ∷ codes "inttoptr" ∷ codes "bitcast" ∷ codes "select" ∷ codes "freeze" ∷ codes "phi" ∷ codes "alloca"
    ∷ codes "load" ∷ codes "store" ∷ codes "getelementptr" ∷ codes "tail" ∷ codes "notail" ∷ codes "call" ∷ codes "ret" ∷ codes "br" ∷ codes "switch" ∷ codes "unreachable"
    ∷ codes "null" ∷ codes "true" ∷ codes "false" ∷ codes "poison" ∷ codes "zeroinitializer" ∷ codes "void" ∷ codes "ptr" ∷ codes "global" ∷ codes "constant" ∷ []

abbrev pub is_among : List (List ℕ) → List ℕ → Bool
is_among words name = list_any (λ known. bytes_eq known name) words

-- `iN`
abbrev pub is_int_name : List ℕ → Bool
is_int_name [] = false
is_int_name (letter ∷ []) = false
is_int_name (letter ∷ digit ∷ digits) = nat_eq letter 105 && list_all is_ascii_digit (digit ∷ digits)

-- a lower-case letter, a digit or `_`
abbrev pub is_lower_byte : ℕ → Bool
is_lower_byte byte = (nat_le 97 byte && nat_le byte 122) || is_ascii_digit byte || nat_eq byte 95

abbrev pub is_attribute_name : List ℕ → Bool
is_attribute_name name = list_all is_lower_byte name && not (is_int_name name) && not (is_among reserved_words name) && not (is_among left_out_words name)

abbrev pub is_attribute : Token → Bool
is_attribute (word name) = is_attribute_name name
is_attribute token = false

abbrev pub is_string : Token → Bool
is_string (string inner) = true
is_string token = false

abbrev pub is_number : Token → Bool
is_number (number negative digits) = true
is_number token = false

-- a number without a sign
abbrev pub is_natural : Token → Bool
is_natural (number negative digits) = not negative
is_natural token = false

abbrev pub is_align_of : List ℕ → Token → Token → Bool
is_align_of name token second = is_word name token && is_natural second

-- `"..."`, with `="..."` or not
unfoldable pub string_attribute : Form (Unit {0})
string_attribute = do
  _ ← passed is_string
  by_token (is_mark 61)
      (do
        _ ← punctuation 61
        passed is_string)
      (yield tt)

-- a word with a group in parentheses or none; `align` and `cc` with a number
unfoldable pub word_attribute : Form (Unit {0})
word_attribute = do
  _ ← passed is_attribute
  by_token (is_mark 40) group (yield tt)

unfoldable pub numbered_attribute : Form (Unit {0})
numbered_attribute = do
  _ ← passed is_attribute
  passed is_natural

-- one of the words before a type
unfoldable pub word_item : Form (Unit {0})
word_item =
    by_token is_string string_attribute
    (by_two (is_align_of (codes "align")) numbered_attribute
    (by_two (is_align_of (codes "cc")) numbered_attribute
    word_attribute))

abbrev pub begins_word_item : Token → Bool
begins_word_item token = is_string token || is_attribute token

abbrev pub word_turn : WordList → Form (Bool × WordList)
word_turn before = by_token begins_word_item (word_item >>= λ _. yield (true, before)) (yield (false, before))

-- words that are dropped
unfoldable pub words : Form (Unit {0})
words = do
  _ ← repeat word_turn (record {})
  yield tt

-- `#N`
unfoldable pub attribute_number : Form (Unit {0})
attribute_number = do
  _ ← punctuation 35
  passed is_natural

-- one of the attributes behind a type or a call
unfoldable pub attribute_item : Form (Unit {0})
attribute_item =
    by_token is_string string_attribute
    (by_token (is_mark 35) attribute_number
    (by_two (is_align_of (codes "align")) numbered_attribute
    word_attribute))

abbrev pub is_number_behind : ℕ → Token → Token → Bool
is_number_behind byte token second = is_mark byte token && is_natural second

abbrev pub begins_attribute : Token → Token → Bool
begins_attribute token second = is_string token || is_attribute token || is_number_behind 35 token second

abbrev pub attribute_turn : AttributeList → Form (Bool × AttributeList)
attribute_turn before = by_two begins_attribute (attribute_item >>= λ _. yield (true, before)) (yield (false, before))

-- attributes that are dropped
unfoldable pub attributes : Form (Unit {0})
attributes = do
  _ ← repeat attribute_turn (record {})
  yield tt

-- a bare part that begins with a letter, as the name behind `!`
abbrev pub is_any_word : Token → Bool
is_any_word (word name) = begins is_letter name
is_any_word token = false

abbrev pub is_cased_byte : ℕ → Bool
is_cased_byte byte = is_letter byte || is_ascii_digit byte || nat_eq byte 95

-- a word that may have capitals
abbrev pub is_cased_word : Token → Bool
is_cased_word (word name) = list_all is_cased_byte name
is_cased_word token = false

-- a group in parentheses
unfoldable pub parentheses : Form (Unit {0})
parentheses = by_token (is_mark 40) group nothing

-- `!N`, `!GROUP` or `!WORD GROUP`
unfoldable pub metadata : Form (Unit {0})
metadata = do
  _ ← punctuation 33
  by_token is_natural
      (passed is_natural)
      (by_token is_any_word
      (do
        _ ← passed is_cased_word
        parentheses)
      group)

-- `!NAME` and its metadata
unfoldable pub named_metadata : Form (Unit {0})
named_metadata = do
  _ ← punctuation 33
  _ ← passed is_any_word
  metadata

-- `align N`
unfoldable pub align_form : Form Align
align_form = do
  left ← place
  _ ← keyword (codes "align")
  given ← numeral
  yield (record { left = left; number = given })

abbrev pub is_section_of : Token → Token → Bool
is_section_of token second = is_word (codes "section") token && is_string second

-- behind a comma: `align N`, `section STRING`, `comdat` with a group or not, a word and its group, or named metadata; what `align` says is kept
unfoldable pub suffix : List Align → Form (List Align)
suffix aligns =
    by_token (is_mark 33)
    (named_metadata >>= λ _. yield aligns)
    (by_two (is_align_of (codes "align"))
    (align_form >>= λ one. yield (aligns ++ one ∷ []))
    (by_two is_section_of
    (do
      _ ← keyword (codes "section")
      _ ← passed is_string
      yield aligns)
    (by_token (is_word (codes "comdat"))
    (do
      _ ← keyword (codes "comdat")
      by_token (is_mark 40) (group >>= λ _. yield aligns) (yield aligns))
    (do
      _ ← passed is_attribute
      _ ← parentheses
      yield aligns))))

abbrev pub suffix_turn : SuffixList → Form (Bool × SuffixList)
suffix_turn before =
    by_token (is_mark 44)
    (do
      _ ← punctuation 44
      aligns ← suffix before.aligns
      yield (true, record { aligns = aligns }))
    (yield (false, before))

-- any number of suffixes; what `align` says in them
unfoldable pub suffixes : Form (List Align)
suffixes = do
  all ← repeat suffix_turn (record { aligns = [] })
  yield all.aligns
