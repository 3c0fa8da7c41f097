-- The text that lists versions of functions.
use Rattle.std.specs.Prelude.{ℕ, List, [], ◌∷◌, ◌++◌, length, slice_get, Option, Some, None, codes, decimal}
use Rattle.ir_core.specs.declared.program.Function.{Function}
use Rattle.ir_print_names.specs.Names.{name_text}
use Rattle.rv_play.specs.declared.version.Version.{Version}
use Rattle.rv_print.specs.Listing.{listing_of}

abbrev pub name_in : Option Function → List ℕ
name_in None = []
name_in (Some function) = name_text function.name

-- `@NAME level L words W`
abbrev pub heading : Option Function → ℕ → ℕ → List ℕ
heading function level many = codes "@" ++ name_in function ++ codes " level " ++ decimal level ++ codes " words " ++ decimal many ++ codes "\n"

-- a heading, and a line for each word
abbrev pub part : Option Function → Version → List ℕ
part function version = heading function version.level (length version.words) ++ listing_of version.words

-- one part per version of one of these functions, in order
abbrev pub parts : List Function → List Version → List ℕ
parts functions [] = []
parts functions (version ∷ versions) = part (slice_get functions version.symbol) version ++ parts functions versions
