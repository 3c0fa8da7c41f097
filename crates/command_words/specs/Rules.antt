-- The command of `clap` for a form, and what its matches are.
use Rattle.std.specs.Prelude.{◌≡◌, ◌<◌, ℕ, true, List, [], ◌∷◌, ◌++◌, map, fold, Some, None, if◌then◌else◌, suc, Bool}
use Rattle.clap.specs.Walk.{Row, Rule, rows_of, with_default, arg_by_id, arg_by_index}
use Rattle.clap.specs.Matches.{found_of}
use Rattle.clap.specs.Simple.{App, Shape, new_rule, new_shape, filled, filled_from, with_index}
use Rattle.clap.specs.Faults.{is_simple_and_free}
use Rattle.clap.specs.declared.builder.action.ArgAction.TheVariants.{SetTrue}
use Rattle.clap.specs.declared.builder.value_parser.Reading.TheVariants.{AsWritten}
use Rattle.clap.specs.declared.parser.matches.ValueSource.TheVariants.{CommandLine}
use Rattle.clap.specs.declared.parser.matches.ArgMatches.{ArgMatches}
use Rattle.command_words.specs.Shapes.{Text, Form, Entry, shape_of}

-- an option by its long name, which is its id
abbrev pub option_rule : Text × Bool → Rule
option_rule o = record (new_rule o.0) {
  long = Some o.0;
  action = if o.1 then None else Some SetTrue;
}

abbrev pub rules_in : Form → List Rule
rules_in form = map option_rule form.options ++ map new_rule form.positionals

-- no program's name before the words, no help flag and no version flag
abbrev pub app_with : Text → List Rule → App
app_with name rules = record {
  top = record (new_shape name) {
    rules = rules;
    no_binary_name = true;
    disable_help_flag = true;
    disable_version_flag = true;
  };
  subs = [];
}

abbrev pub app_in : Text → Form → App
app_in name form = app_with name (rules_in form)

-- with these options behind what is there
abbrev pub with_options : List (Text × Bool) → App → App
with_options options app = record app {
  top = record app.top { rules = app.top.rules ++ map option_rule options };
}

-- ---- the same as a parse builds it

abbrev pub built_option : Text × Bool → Rule
built_option o = filled (option_rule o)

abbrev pub built_positional : ℕ → Text → Rule
built_positional place name = with_index place (filled (new_rule name))

abbrev pub positionals_from : ℕ → List Text → List Rule
positionals_from place [] = []
positionals_from place (name ∷ names) =
    built_positional place name ∷ positionals_from (suc place) names

abbrev pub built_rules : Form → List Rule
built_rules form = map built_option form.options ++ positionals_from 1 form.positionals

abbrev pub built_shape : Text → Form → Shape
built_shape name form = record (new_shape name) {
  rules = built_rules form;
  no_binary_name = true;
  disable_help_flag = true;
  disable_version_flag = true;
  disable_help_subcommand = true;
  is_built = true;
}

-- ---- matches

abbrev pub row_in : Entry → Row
row_in e = record {
  id = e.0;
  values = e.1 ∷ [];
  count = None;
  source = Some CommandLine;
  reading = AsWritten;
}

-- the line has the shape, and the matches are its entries and the defaults of flags
abbrev pub Matches : Form → List Text → ArgMatches → Type 0
Matches form words m = (entries : List Entry) × (shape_of form words ≡ Some entries)
    × (rows_of (found_of m) ≡ fold with_default (map row_in entries) (built_rules form))

-- ---- forms that a simple command of `clap` has

-- the positionals of these names stand from this place on, and are found by their names
abbrev pub Serves : List Rule → ℕ → List Text → Type 0
Serves c place [] = arg_by_index c place ≡ None
Serves c place (name ∷ names) = (arg_by_index c place ≡ Some (built_positional place name))
    × (arg_by_id c name ≡ Some (built_positional place name)) × (place < 100) × Serves c (suc place) names

pub record IsServed (form : Form) : Type 0 where
  -- building gives the arguments as above
  pub rules : filled_from 1 (rules_in form) ≡ built_rules form
  -- no positional has the name of an option, or of one before it
  pub serves : Serves (built_rules form) 1 form.positionals
  pub simple : (name : Text) → is_simple_and_free (app_in name form) ≡ true
