-- The shape of a command line: its options and the words that are none.
-- After `--x v` and `--x=v` of the GNU conventions for long options: `--` ends the options.
use Rattle.std.specs.Prelude.{ℕ, ◌==◌, ◌&&◌, Bool, true, false, not, List, [], ◌∷◌, ◌++◌, map, Option, Some, None, find, option_map, option_and_then, if◌then◌else◌, codes}
use Rattle.std.specs.List.{list_any, before_first, after_first}
use Rattle.std.specs.Str.{bytes_eq}

abbrev pub Text : Type 0
Text = List ℕ

-- what a command takes: its options, each with whether a value goes with it, and the names of its
-- positionals in order
pub record Form : Type 0 where
  pub options : List (Text × Bool)
  pub positionals : List Text

-- ---- the words before the first `--`, and those after it

abbrev pub ends_options : Text → Bool
ends_options word = bytes_eq word (codes "--")

abbrev pub words_before : List Text → List Text
words_before [] = []
words_before (word ∷ words) = if ends_options word then [] else word ∷ words_before words

abbrev pub words_after : List Text → List Text
words_after [] = []
words_after (word ∷ words) = if ends_options word then words else words_after words

-- ---- what a word is

pub data Word : Type 0 where
  -- no option: a positional, or the value of the option before it
  plain : Word
  -- `--x=v`
  gives : Text → Text → Word
  -- `--x` of an option with a value
  opens : Text → Word
  -- `--x` of an option without one
  marks : Text → Word
  -- begins with `-`, and is no option of the command
  stray : Word

-- two bytes or more, of which the first is `-`
abbrev pub is_dashed : Text → Bool
is_dashed (first ∷ second ∷ rest) = first == 45
is_dashed _ = false

abbrev pub has_equals : Text → Bool
has_equals text = list_any (λ byte. byte == 61) text

-- the name and the value in `x=v`, and `x` alone
abbrev pub name_and_value : Text → Text × Option Text
name_and_value text = (
  before_first (λ byte. byte == 61) text,
  if has_equals text
      then Some (after_first (λ byte. byte == 61) text) else None,
)

-- the same behind `--`
abbrev pub option_in : Text → Option (Text × Option Text)
option_in (first ∷ second ∷ third ∷ rest) =
    if first == 45 && second == 45 then Some (name_and_value (third ∷ rest)) else None
option_in _ = None

-- the command's option of this name
abbrev pub option_of : List (Text × Bool) → Text → Option (Text × Bool)
option_of options name = find (λ o. bytes_eq o.0 name) options

abbrev pub named : Text → Option Text → Option (Text × Bool) → Word
named name value None = stray
named name (Some value) (Some o) = if o.1 then gives name value else stray
named name None (Some o) = if o.1 then opens name else marks name

abbrev pub dashed : Form → Option (Text × Option Text) → Word
dashed form None = stray
dashed form (Some p) = named p.0 p.1 (option_of form.options p.0)

abbrev pub word_of : Form → Text → Word
word_of form word = if is_dashed word then dashed form (option_in word) else plain

-- ---- the parts of a line

pub data Part : Type 0 where
  -- an option with its value; `true` for an option without one
  option : Text → Text → Part
  positional : Text → Part

abbrev pub first_as_value : Text → Option (List Part) → Option (List Part)
first_as_value name (Some (positional value ∷ parts)) = Some (option name value ∷ parts)
first_as_value name _ = None

-- the parts of a word and of the words behind it: the word behind `--x` is the value, and it is no
-- option
abbrev pub with_word : Word → Text → Option (List Part) → Option (List Part)
with_word plain word parts = option_map (λ ps. positional word ∷ ps) parts
with_word (gives name value) word parts = option_map (λ ps. option name value ∷ ps) parts
with_word (marks name) word parts = option_map (λ ps. option name (codes "true") ∷ ps) parts
with_word (opens name) word parts = first_as_value name parts
with_word stray word parts = None

-- of words before the first `--`
abbrev pub parts_of : Form → List Text → Option (List Part)
parts_of form [] = Some []
parts_of form (word ∷ words) = with_word (word_of form word) word (parts_of form words)

-- of all words: those after the first `--` are positionals
abbrev pub line_parts : Form → List Text → Option (List Part)
line_parts form words = option_map (λ ps. ps ++ map positional (words_after words))
    (parts_of form (words_before words))

-- ---- what each name is given

-- the name of an option or of a positional, and its text
abbrev pub Entry : Type 0
Entry = Text × Text

-- none where there are more positionals than names
abbrev pub entries_of : List Text → List Part → Option (List Entry)
entries_of names [] = Some []
entries_of names (option name value ∷ parts) =
    option_map (λ es. (name, value) ∷ es) (entries_of names parts)
entries_of [] (positional word ∷ parts) = None
entries_of (name ∷ names) (positional word ∷ parts) =
    option_map (λ es. (name, word) ∷ es) (entries_of names parts)

abbrev pub has_entry : Text → List Entry → Bool
has_entry name entries = list_any (λ e. bytes_eq e.0 name) entries

-- each name is there once at most, and is none of those before
abbrev pub are_new : List Entry → List Entry → Bool
are_new before [] = true
are_new before (e ∷ entries) = not (has_entry e.0 before) && are_new (before ++ e ∷ []) entries

abbrev pub if_once : List Entry → Option (List Entry)
if_once entries = if are_new [] entries then Some entries else None

-- what the names of a command are given by these words, where they have its shape
abbrev pub shape_of : Form → List Text → Option (List Entry)
shape_of form words = option_and_then if_once
    (option_and_then (entries_of form.positionals) (line_parts form words))

-- the text that a name is given
abbrev pub text_of : List Entry → Text → Option Text
text_of entries name = option_map (λ e. e.1) (find (λ e. bytes_eq e.0 name) entries)

abbrev pub is_true : Option Text → Bool
is_true None = false
is_true (Some text) = bytes_eq text (codes "true")
