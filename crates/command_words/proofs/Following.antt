-- Clap's walk over the words gives the entries that the shape of the line gives.
use Rattle.std.proofs.Common.{◌≡◌, ◌∙◌, ◌&&◌, ◌||◌, ℕ, Bool, cond, true, false, not, refl, ap, List, [], ◌∷◌, ◌++◌, map, Option, Some, None}
use Rattle.std.specs.Str.{bytes_eq}
use Rattle.clap.specs.Kinds.{Kinds, or_else}
use Rattle.clap.specs.Walk.{Held, Row, Rule, Waiting, Walk, settled, with_values, without, has_row, walked}
use Rattle.clap.specs.Faults.{settle_fault, turn_fault, repeat_fault}
use Rattle.clap.specs.declared.builder.value_parser.Reading.TheVariants.{AsWritten}
use Rattle.clap.specs.declared.parser.matches.ValueSource.TheVariants.{CommandLine}
use Rattle.command_words.specs.Shapes.{Text, Form, Part, option, positional, Entry, has_entry}
use Rattle.command_words.specs.Rules.{row_in, built_rules, built_shape}

-- ---- rows and entries

pub has_row_in : (name : Text) (entries : List Entry) → has_row name (map row_in entries) ≡ has_entry name entries
has_row_in name [] = refl
has_row_in name (e ∷ entries) = ap (λ b. bytes_eq e.0 name || b) (has_row_in name entries)

not_first : (a b : Bool) → (a || b) ≡ false → (a ≡ false) × (b ≡ false)
not_first true b e = absurd (cc)
not_first false b e = (refl, e)

without_none : (name : Text) (rows : List Row) → has_row name rows ≡ false → without name rows ≡ rows
without_none name [] none = refl
without_none name (r ∷ rows) none =
    let parts = not_first (bytes_eq r.id name) (has_row name rows) none in
    rw parts.0 (ap (λ rs. r ∷ rs) (without_none name rows parts.1))

added : (name value : Text) (rows : List Row) → has_row name rows ≡ false
    → with_values name AsWritten CommandLine (value ∷ []) rows ≡ rows ++ row_in (name, value) ∷ []
added name value [] none = refl
added name value (r ∷ rows) none =
    let parts = not_first (bytes_eq r.id name) (has_row name rows) none in
    rw parts.0 (ap (λ rs. r ∷ rs) (added name value rows parts.1))

map_end : (entries : List Entry) (e : Entry) → map row_in entries ++ row_in e ∷ [] ≡ map row_in (entries ++ e ∷ [])
map_end [] e = refl
map_end (x ∷ entries) e = ap (λ rs. row_in x ∷ rs) (map_end entries e)

-- one use of a name that is new gives its entry
pub used_new : (done : List Entry) (rows : List Row) (name value : Text) → rows ≡ map row_in done → has_entry name done ≡ false
    → with_values name AsWritten CommandLine (value ∷ []) (without name rows) ≡ map row_in (done ++ (name, value) ∷ [])
used_new done rows name value are new =
    let none : has_row name rows ≡ false = rw are (has_row_in name done ∙ new) in
    rw (without_none name rows none) (added name value rows none ∙ rw are (map_end done (name, value)))

-- ---- faults

abbrev pub clean : Kinds → Bool
clean [] = true
clean (k ∷ ks) = false

pub clean_both : (a b : Kinds) → clean (or_else a b) ≡ (clean a && clean b)
clean_both [] b = refl
clean_both (k ∷ ks) b = refl

pub clean_repeat : (name : Text) (rows : List Row) → clean (or_else (repeat_fault false name rows) []) ≡ not (has_row name rows)
clean_repeat name rows = go (has_row name rows)
  where
    go : (b : Bool) → clean (or_else (cond (b && true) (Rattle.clap.specs.declared.error.kind.ErrorKind.TheVariants.ArgumentConflict ∷ []) []) []) ≡ not b
    go true = refl
    go false = refl

-- ---- the walk, step by step: the rows at its end, where nothing is a fault

abbrev pub only : {X : Type 0} → Bool → Option X → Option X
only b x = cond b x None

module _ (name : Text) (form : Form) where
  abbrev pub c : List Rule
  c = built_rules form

  abbrev pub run : Walk → List Text → Option (List Row)
  run w [] = only (clean (settle_fault c false w.held)) (Some (settled c w.held).rows)
  run w (word ∷ words) = only (clean (turn_fault (built_shape name form) [] w word)) (run (walked c [] w word) words)

  abbrev pub held_at : List Row → Option (Text × List Text) → Held
  held_at rows pending = record { rows = rows; pending = pending; skip = 0 }

  abbrev pub walk_at : List Row → Option (Text × List Text) → Waiting → ℕ → Bool → Walk
  walk_at rows pending waiting place trailing = record {
    held = held_at rows pending;
    waiting = waiting;
    position = place;
    is_trailing = trailing;
    stopped = None;
  }

  abbrev pub unfaulted : List Row → Option (Text × List Text) → Bool
  unfaulted rows pending = clean (settle_fault c false (held_at rows pending))

-- the entries after these parts, of names that are new
abbrev pub lay : List Entry → List Text → List Part → Option (List Entry)
lay done names [] = Some done
lay done names (option name value ∷ parts) = cond (has_entry name done) None (lay (done ++ (name, value) ∷ []) names parts)
lay done [] (positional word ∷ parts) = None
lay done (name ∷ names) (positional word ∷ parts) = cond (has_entry name done) None (lay (done ++ (name, word) ∷ []) names parts)
