-- The commands of the program, and what each takes.
use Rattle.std.specs.Prelude.{ℕ, ◌==◌, ◌&&◌, ◌%◌, nat_le, Bool, true, false, List, [], ◌∷◌, map, length, Option, Some, None, String, string_bytes, option_and_then, if◌then◌else◌, codes}
use Rattle.std.specs.Str.{bytes_eq}
use Rattle.std.specs.Char.{is_ascii_digit}
use Rattle.std.specs.List.{list_all}
use Rattle.std.specs.Str.Parse.{digits_value}
use Rattle.std.specs.Global.{Global}
use Rattle.command_words.specs.Shapes.{Text, Form, shape_of, text_of, is_true}
use Rattle.command_words.specs.declared.line.RunOptions.{RunOptions}
use Rattle.command_words.specs.declared.line.SimOptions.{SimOptions}
use Rattle.command_words.specs.declared.line.CommandLine.{CommandLine}
use Rattle.command_words.specs.declared.line.CommandLine.TheVariants as variant
use Rattle.command_words.specs.declared.line.TheConstants.{GREATEST_LEVEL}

abbrev pub words_of : List (String Global) → List Text
words_of words = map string_bytes words

-- a command with all that it takes
pub data Line : Type 0 where
  run : Text → Text → RunOptions → Line
  big : ℕ → RunOptions → Line
  eval : Text → Text → ℕ → Line
  sim : Text → Text → SimOptions → Line
  dump : Text → ℕ → Line

abbrev pub line_of : CommandLine → Line
line_of (variant.Run module_name calls_name options) = run module_name.now calls_name.now options
line_of (variant.Big calls options) = big calls options
line_of (variant.Eval module_name calls_name room) = eval module_name.now calls_name.now room
line_of (variant.Sim module_name calls_name options) = sim module_name.now calls_name.now options
line_of (variant.Dump module_name level) = dump module_name.now level

-- ---- numbers

-- 1 to 20 decimal digits
abbrev pub number : Text → Option ℕ
number text = if nat_le 1 (length text) && nat_le (length text) 20 && list_all is_ascii_digit text
    then Some (digits_value 10 text) else None

-- where it is from `least` to `most`
abbrev pub within : ℕ → ℕ → ℕ → Option ℕ
within least most n = if nat_le least n && nat_le n most then Some n else None

abbrev pub number_within : ℕ → ℕ → Text → Option ℕ
number_within least most text = option_and_then (within least most) (number text)

-- the number of an option, or what stands for it where it isn't there
abbrev pub number_or : ℕ → ℕ → ℕ → Option Text → Option ℕ
number_or usual least most None = Some usual
number_or usual least most (Some text) = number_within least most text

abbrev pub whole_pieces : ℕ → Option ℕ
whole_pieces n = if n % 16 == 0 then Some n else None

-- ---- options, by the text that each name is given

abbrev pub harts_of : Option Text → Option ℕ
harts_of = number_or 1 1 16

abbrev pub workers_of : Option Text → Option ℕ
workers_of = number_or 1 0 8

abbrev pub code_words_of : Option Text → Option ℕ
code_words_of = number_or 262144 1 4194304

-- bytes of data memory, a multiple of 16
abbrev pub room_of : Option Text → Option ℕ
room_of text = option_and_then whole_pieces (number_or 1048576 4096 67108864 text)

abbrev pub draw_of : Option Text → Option ℕ
draw_of = number_or 0 0 18446744073709551615

abbrev pub steps_of : Option Text → Option ℕ
steps_of = number_or 1000 0 1000000

abbrev pub level_of : Option Text → Option ℕ
level_of = number_or 1 1 GREATEST_LEVEL

-- ---- forms

abbrev pub run_names : List (Text × Bool)
run_names = (codes "harts", true) ∷ (codes "workers", true) ∷ (codes "code-words", true) ∷ (codes "room", true) ∷ (codes "report", false) ∷ []

abbrev pub run_form : Form
run_form = record { options = run_names; positionals = codes "MODULE" ∷ codes "CALLS" ∷ [] }

abbrev pub big_form : Form
big_form = record { options = run_names; positionals = codes "N" ∷ [] }

abbrev pub eval_form : Form
eval_form = record { options = (codes "room", true) ∷ []; positionals = codes "MODULE" ∷ codes "CALLS" ∷ [] }

abbrev pub sim_form : Form
sim_form = record {
  options = (codes "draw", true) ∷ (codes "steps", true) ∷ (codes "harts", true) ∷ (codes "code-words", true) ∷ (codes "room", true) ∷ [];
  positionals = codes "MODULE" ∷ codes "CALLS" ∷ [];
}

abbrev pub dump_form : Form
dump_form = record { options = (codes "level", true) ∷ []; positionals = codes "MODULE" ∷ [] }

-- ---- commands, by the text that each name is given

infixl 10 ◌>>=◌
abbrev pub ◌>>=◌ : {X Y : Type 0} → Option X → (X → Option Y) → Option Y
x >>= next = option_and_then next x

abbrev pub run_options : (Text → Option Text) → Option RunOptions
run_options given = do
  harts ← harts_of (given (codes "harts"))
  workers ← workers_of (given (codes "workers"))
  code_words ← code_words_of (given (codes "code-words"))
  room ← room_of (given (codes "room"))
  Some (record { harts = harts; workers = workers; code_words = code_words; room = room; report = is_true (given (codes "report")) })

abbrev pub run_line : (Text → Option Text) → Option Line
run_line given = do
  module_name ← given (codes "MODULE")
  calls_name ← given (codes "CALLS")
  options ← run_options given
  Some (run module_name calls_name options)

abbrev pub big_line : (Text → Option Text) → Option Line
big_line given = do
  text ← given (codes "N")
  calls ← number_within 1 65536 text
  options ← run_options given
  Some (big calls options)

abbrev pub eval_line : (Text → Option Text) → Option Line
eval_line given = do
  module_name ← given (codes "MODULE")
  calls_name ← given (codes "CALLS")
  room ← room_of (given (codes "room"))
  Some (eval module_name calls_name room)

abbrev pub sim_options : (Text → Option Text) → Option SimOptions
sim_options given = do
  draw ← draw_of (given (codes "draw"))
  steps ← steps_of (given (codes "steps"))
  harts ← harts_of (given (codes "harts"))
  code_words ← code_words_of (given (codes "code-words"))
  room ← room_of (given (codes "room"))
  Some (record { draw = draw; steps = steps; harts = harts; code_words = code_words; room = room })

abbrev pub sim_line : (Text → Option Text) → Option Line
sim_line given = do
  module_name ← given (codes "MODULE")
  calls_name ← given (codes "CALLS")
  options ← sim_options given
  Some (sim module_name calls_name options)

abbrev pub dump_line : (Text → Option Text) → Option Line
dump_line given = do
  module_name ← given (codes "MODULE")
  level ← level_of (given (codes "level"))
  Some (dump module_name level)

-- ---- a whole command line

abbrev pub line_in : Form → ((Text → Option Text) → Option Line) → List Text → Option Line
line_in form line words = option_and_then (λ entries. line (text_of entries)) (shape_of form words)

-- the first word names the command
abbrev pub command_of : List Text → Option Line
command_of [] = None
command_of (word ∷ words) =
    if bytes_eq word (codes "run") then line_in run_form run_line words
    else if bytes_eq word (codes "big") then line_in big_form big_line words
    else if bytes_eq word (codes "eval") then line_in eval_form eval_line words
    else if bytes_eq word (codes "sim") then line_in sim_form sim_line words
    else if bytes_eq word (codes "dump") then line_in dump_form dump_line words
    else None
