-- One turn of clap's walk, for each kind of word.
use Rattle.std.proofs.Common.{◌≡◌, ◌<◌, ◌+◌, ◌&&◌, ℕ, Bool, true, false, not, suc, refl, arith, List, [], ◌∷◌, Option, Some, None, codes, min}
use Rattle.std.specs.Option.{option_map, option_map_or}
use Rattle.std.specs.Str.{bytes_eq, chars, IsUtf8}
use Rattle.clap.specs.Kinds.{Kinds, or_else}
use Rattle.clap.specs.Lexer.{long_of, short_of, usize_max}
use Rattle.clap.specs.Walk.{Row, Waiting, idle, option as waits_for, arg_by_id, arg_by_long, arg_by_index, settled_rows, with_values, without, has_row, walked}
use Rattle.clap.specs.Faults.{flags_fault}
use Rattle.clap.specs.declared.builder.value_parser.Reading.TheVariants.{AsWritten}
use Rattle.clap.specs.declared.parser.matches.ValueSource.TheVariants.{CommandLine}
use Rattle.std.proofs.lemmas.Slice.Eq.{bytes_eq-Decides}
use Rattle.command_words.specs.Shapes.{Text, Form, ends_options}
use Rattle.command_words.specs.Rules.{built_option, built_positional, built_rules}
use Rattle.command_words.proofs.Following.{only, clean, run, walk_at, unfaulted, clean_both, clean_repeat}
use Rattle.command_words.proofs.Lookups.{by_short}

and_false : (b : Bool) → (b && false) ≡ false
and_false true = refl
and_false false = refl

next_place : (place : ℕ) → place < 100 → min (place + 1) usize_max ≡ suc place
next_place place low = omega arith

clean_nothing : (a : Kinds) → clean (or_else a []) ≡ clean a
clean_nothing [] = refl
clean_nothing (k ∷ ks) = refl

pub same_text : (x : Text) → bytes_eq x x ≡ true
same_text x = go (bytes_eq x x) (bytes_eq-Decides x x)
  where
    go : (b : Bool) → Rattle.std.specs.Bool.Decides b (x ≡ x) → b ≡ true
    go b d = grind arith

module _ (name : Text) (form : Form) where
  -- a word behind `--`
  pub trailing_word : (rows : List Row) (pending : Option (Text × List Text)) (waiting : Waiting) (place : ℕ) (positional word : Text) (words : List Text)
      → arg_by_index (built_rules form) place ≡ Some (built_positional place positional) → place < 100
      → run name form (walk_at name form rows pending waiting place true) (word ∷ words)
      ≡ only (unfaulted name form rows pending)
      (run name form (walk_at name form (settled_rows (built_rules form) pending rows) (Some (positional, word ∷ [])) idle (suc place) true) words)
  unfolding walked
  trailing_word rows pending waiting place positional word words found low = rw (found, and_false, next_place place low) refl

  pub trailing_stray : (rows : List Row) (pending : Option (Text × List Text)) (waiting : Waiting) (place : ℕ) (word : Text) (words : List Text)
      → arg_by_index (built_rules form) place ≡ None
      → run name form (walk_at name form rows pending waiting place true) (word ∷ words) ≡ None
  trailing_stray rows pending waiting place word words found = rw found refl

  -- ---- before `--`, where no option waits for its value

  pub idle_end : (rows : List Row) (pending : Option (Text × List Text)) (place : ℕ) (word : Text) (words : List Text) → ends_options word ≡ true
      → run name form (walk_at name form rows pending idle place false) (word ∷ words) ≡ run name form (walk_at name form rows pending idle place true) words
  unfolding walked
  idle_end rows pending place word words is = rw is refl

  pub idle_plain : (rows : List Row) (pending : Option (Text × List Text)) (place : ℕ) (positional word : Text) (words : List Text)
      → ends_options word ≡ false → long_of word ≡ None → short_of word ≡ None
      → arg_by_index (built_rules form) place ≡ Some (built_positional place positional) → place < 100
      → run name form (walk_at name form rows pending idle place false) (word ∷ words)
      ≡ only (unfaulted name form rows pending)
      (run name form (walk_at name form (settled_rows (built_rules form) pending rows) (Some (positional, word ∷ [])) idle (suc place) false) words)
  unfolding walked
  idle_plain rows pending place positional word words other long short found low = rw (other, long, short, found, and_false, next_place place low) refl

  pub idle_stray : (rows : List Row) (pending : Option (Text × List Text)) (place : ℕ) (word : Text) (words : List Text)
      → ends_options word ≡ false → long_of word ≡ None → short_of word ≡ None
      → arg_by_index (built_rules form) place ≡ None
      → run name form (walk_at name form rows pending idle place false) (word ∷ words) ≡ None
  idle_stray rows pending place word words other long short found = rw (other, long, short, found) refl

  pub idle_gives : (rows : List Row) (pending : Option (Text × List Text)) (place : ℕ) (word x value : Text) (words : List Text)
      → ends_options word ≡ false → long_of word ≡ Some (x, Some value) → arg_by_long (built_rules form) x ≡ Some (built_option (x, true))
      → run name form (walk_at name form rows pending idle place false) (word ∷ words)
      ≡ only (unfaulted name form rows pending && not (has_row x (settled_rows (built_rules form) pending rows)))
      (run name form (walk_at name form (with_values x AsWritten CommandLine (value ∷ []) (without x (settled_rows (built_rules form) pending rows))) None idle place false) words)
  unfolding walked
  idle_gives rows pending place word x value words other long found = rw (other, long, found, clean_nothing, clean_both, clean_repeat) refl

  pub idle_marks : (rows : List Row) (pending : Option (Text × List Text)) (place : ℕ) (word x : Text) (words : List Text)
      → ends_options word ≡ false → long_of word ≡ Some (x, None) → arg_by_long (built_rules form) x ≡ Some (built_option (x, false))
      → run name form (walk_at name form rows pending idle place false) (word ∷ words)
      ≡ only (unfaulted name form rows pending && not (has_row x (settled_rows (built_rules form) pending rows)))
      (run name form (walk_at name form (with_values x AsWritten CommandLine (codes "true" ∷ []) (without x (settled_rows (built_rules form) pending rows))) None idle place false) words)
  unfolding walked
  idle_marks rows pending place word x words other long found = rw (other, long, found, clean_nothing, clean_both, clean_repeat) refl

  pub idle_opens : (rows : List Row) (pending : Option (Text × List Text)) (place : ℕ) (word x : Text) (words : List Text)
      → ends_options word ≡ false → long_of word ≡ Some (x, None) → arg_by_long (built_rules form) x ≡ Some (built_option (x, true))
      → run name form (walk_at name form rows pending idle place false) (word ∷ words)
      ≡ only (unfaulted name form rows pending)
      (run name form (walk_at name form (settled_rows (built_rules form) pending rows) (Some (x, [])) (waits_for x) place false) words)
  unfolding walked
  idle_opens rows pending place word x words other long found = rw (other, long, found, clean_nothing) refl

  pub idle_unknown : (rows : List Row) (pending : Option (Text × List Text)) (place : ℕ) (word x : Text) (value : Option Text) (words : List Text)
      → ends_options word ≡ false → long_of word ≡ Some (x, value) → arg_by_long (built_rules form) x ≡ None
      → run name form (walk_at name form rows pending idle place false) (word ∷ words) ≡ None
  idle_unknown rows pending place word x value words other long found = rw (other, long, found) refl

  pub idle_unneeded : (rows : List Row) (pending : Option (Text × List Text)) (place : ℕ) (word x value : Text) (words : List Text)
      → ends_options word ≡ false → long_of word ≡ Some (x, Some value) → arg_by_long (built_rules form) x ≡ Some (built_option (x, false))
      → run name form (walk_at name form rows pending idle place false) (word ∷ words) ≡ None
  idle_unneeded rows pending place word x value words other long found = rw (other, long, found) refl

  pub idle_bundle : (rows : List Row) (pending : Option (Text × List Text)) (place : ℕ) (word : Text) (first : ℕ) (rest : Text) (x : ℕ) (xs : List ℕ) (words : List Text)
      → ends_options word ≡ false → long_of word ≡ None → short_of word ≡ Some (first ∷ rest) → chars (first ∷ rest) ≡ x ∷ xs
      → run name form (walk_at name form rows pending idle place false) (word ∷ words) ≡ None
  unfolding flags_fault
  idle_bundle rows pending place word first rest x xs words other long short some = rw (other, long, short, some, by_short form x) refl

  -- ---- where an option waits for its value

  pub waits_end : (rows : List Row) (x : Text) (place : ℕ) (word : Text) (words : List Text) → ends_options word ≡ true
      → run name form (walk_at name form rows (Some (x, [])) (waits_for x) place false) (word ∷ words)
      ≡ run name form (walk_at name form rows (Some (x, [])) (waits_for x) place true) words
  unfolding walked
  waits_end rows x place word words is = rw is refl

  pub waits_plain : (rows : List Row) (x : Text) (place : ℕ) (word : Text) (words : List Text)
      → ends_options word ≡ false → long_of word ≡ None → short_of word ≡ None
      → arg_by_id (built_rules form) x ≡ Some (built_option (x, true))
      → run name form (walk_at name form rows (Some (x, [])) (waits_for x) place false) (word ∷ words)
      ≡ run name form (walk_at name form rows (Some (x, word ∷ [])) idle place false) words
  unfolding walked
  waits_plain rows x place word words other long short found = rw (other, long, short, found, same_text x) refl

  pub waits_bundle : (rows : List Row) (x : Text) (place : ℕ) (word : Text) (first : ℕ) (rest : Text) (y : ℕ) (ys : List ℕ) (words : List Text)
      → ends_options word ≡ false → long_of word ≡ None → short_of word ≡ Some (first ∷ rest) → chars (first ∷ rest) ≡ y ∷ ys
      → run name form (walk_at name form rows (Some (x, [])) (waits_for x) place false) (word ∷ words) ≡ None
  unfolding flags_fault
  waits_bundle rows x place word first rest y ys words other long short some = rw (other, long, short, some, by_short form y) refl

  pub waits_long : (rows : List Row) (x : Text) (place : ℕ) (word : Text) (p : Text × Option Text) (found : Option (Text × Bool)) (words : List Text)
      → ends_options word ≡ false → long_of word ≡ Some p → arg_by_long (built_rules form) p.0 ≡ option_map built_option found
      → arg_by_id (built_rules form) x ≡ Some (built_option (x, true))
      → run name form (walk_at name form rows (Some (x, [])) (waits_for x) place false) (word ∷ words) ≡ None
  waits_long rows x place word (y, v) None words other long found held = rw (other, long, found) refl
  waits_long rows x place word (y, Some v) (Some (z, true)) words other long found held = rw (other, long, found, held) refl
  waits_long rows x place word (y, None) (Some (z, true)) words other long found held = rw (other, long, found, held) refl
  waits_long rows x place word (y, Some v) (Some (z, false)) words other long found held = rw (other, long, found) refl
  waits_long rows x place word (y, None) (Some (z, false)) words other long found held = rw (other, long, found, held) refl

  -- ---- what is pending after a turn

  pub end_none : (rows : List Row) (x : Text) (waiting : Waiting) (place : ℕ) (trailing : Bool) → arg_by_id (built_rules form) x ≡ Some (built_option (x, true))
      → run name form (walk_at name form rows (Some (x, [])) waiting place trailing) [] ≡ None
  end_none rows x waiting place trailing held = rw held refl

  pub open_faulted : (rows : List Row) (x : Text) → arg_by_id (built_rules form) x ≡ Some (built_option (x, true)) → unfaulted name form rows (Some (x, [])) ≡ false
  open_faulted rows x held = rw held refl

  pub option_unfaulted : (rows : List Row) (x value : Text) → arg_by_id (built_rules form) x ≡ Some (built_option (x, true))
      → unfaulted name form rows (Some (x, value ∷ [])) ≡ not (has_row x rows)
  option_unfaulted rows x value held = rw held (clean_repeat x rows)

  pub option_settled : (rows : List Row) (x value : Text) → arg_by_id (built_rules form) x ≡ Some (built_option (x, true))
      → settled_rows (built_rules form) (Some (x, value ∷ [])) rows ≡ with_values x AsWritten CommandLine (value ∷ []) (without x rows)
  option_settled rows x value held = rw held refl

  pub positional_unfaulted : (rows : List Row) (place : ℕ) (x value : Text) → arg_by_id (built_rules form) x ≡ Some (built_positional place x)
      → unfaulted name form rows (Some (x, value ∷ [])) ≡ not (has_row x rows)
  positional_unfaulted rows place x value held = rw held (clean_repeat x rows)

  pub positional_settled : (rows : List Row) (place : ℕ) (x value : Text) → arg_by_id (built_rules form) x ≡ Some (built_positional place x)
      → settled_rows (built_rules form) (Some (x, value ∷ [])) rows ≡ with_values x AsWritten CommandLine (value ∷ []) (without x rows)
  positional_settled rows place x value held = rw held refl
