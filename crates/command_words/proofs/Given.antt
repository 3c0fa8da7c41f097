-- What the matches give under a name is what the entries give.
use Rattle.std.proofs.Common.{◌≡◌, ◌∙◌, ◌&&◌, ◌||◌, ℕ, Bool, cond, true, false, not, suc, refl, sym, ap, subst, List, [], ◌∷◌, ◌++◌, map, Option, Some, None, codes}
use Rattle.std.specs.List.{fold, find, list_any}
use Rattle.std.specs.Option.{option_map}
use Rattle.std.specs.Prelude.{option_and_then, slice_get, ⊤}
use Rattle.std.specs.Str.{bytes_eq}
use Rattle.clap.specs.Walk.{Row, first_of, with_default, with_values, has_row}
use Rattle.clap.specs.Matches.{first_value, found_of}
use Rattle.clap.proofs.WalkLemmas.{first_value-rows}
use Rattle.clap.specs.declared.parser.matches.ArgMatches.{ArgMatches}
use Rattle.clap.specs.declared.parser.matches.ValueSource.TheVariants.{DefaultValue}
use Rattle.clap.specs.declared.builder.value_parser.Reading.TheVariants.{AsWritten}
use Rattle.command_words.specs.Shapes.{Text, Form, Entry, text_of, is_true}
use Rattle.command_words.specs.Rules.{row_in, built_option, built_positional, positionals_from, Matches}

abbrev first_text : Option Row → Option Text
first_text r = option_and_then (λ (r : Row). slice_get r.values 0) r

first_row : (b : Bool) (e : Entry) (rest : Option Row) (left : Option Entry) → first_text rest ≡ option_map (λ (e : Entry). e.1) left
    → first_text (cond b (Some (row_in e)) rest) ≡ option_map (λ (e : Entry). e.1) (cond b (Some e) left)
first_row true e rest left is = refl
first_row false e rest left is = is

first_entry : (name : Text) (entries : List Entry) → first_of name (map row_in entries) ≡ text_of entries name
first_entry name [] = refl
first_entry name (e ∷ entries) = first_row (bytes_eq e.0 name) e _ _ (first_entry name entries)

-- ---- defaults

abbrev off : Text → Row
off name = record { id = name; values = codes "false" ∷ []; count = None; source = Some DefaultValue; reading = AsWritten }

not_first : (a b : Bool) → (a || b) ≡ false → (a ≡ false) × (b ≡ false)
not_first true b e = absurd (cc)
not_first false b e = (refl, e)

off_added : (name : Text) (rows : List Row) → has_row name rows ≡ false → with_values name AsWritten DefaultValue (codes "false" ∷ []) rows ≡ rows ++ off name ∷ []
off_added name [] none = refl
off_added name (r ∷ rows) none =
    let parts = not_first (bytes_eq r.id name) (has_row name rows) none in
    rw parts.0 (ap (λ rs. r ∷ rs) (off_added name rows parts.1))

valued_default : (n : Text) (rows : List Row) → with_default rows (built_option (n, true)) ≡ rows
valued_default n rows = go (has_row n rows)
  where
    go : (b : Bool) → cond b rows rows ≡ rows
    go true = refl
    go false = refl

positional_default : (place : ℕ) (n : Text) (rows : List Row) → with_default rows (built_positional place n) ≡ rows
positional_default place n rows = go (has_row n rows)
  where
    go : (b : Bool) → cond b rows rows ≡ rows
    go true = refl
    go false = refl

flag_default : (P : List Row → Type 0) (n : Text) (rows : List Row) → P rows → P (rows ++ off n ∷ []) → P (with_default rows (built_option (n, false)))
flag_default P n rows same more = go (has_row n rows) refl
  where
    go : (b : Bool) → has_row n rows ≡ b → P (with_default rows (built_option (n, false)))
    go true is = rw is same
    go false is = rw (is, off_added n rows is) more

positional_defaults : (place : ℕ) (names : List Text) (rows : List Row) → fold with_default rows (positionals_from place names) ≡ rows
positional_defaults place [] rows = refl
positional_defaults place (n ∷ names) rows =
    ap (λ xs. fold with_default xs (positionals_from (suc place) names)) (positional_default place n rows) ∙ positional_defaults (suc place) names rows

-- a property of rows that one more row of each flag keeps
More : (List Row → Type 0) → List (Text × Bool) → Type 0
More P [] = ⊤
More P ((n, true) ∷ options) = More P options
More P ((n, false) ∷ options) = ((rows : List Row) → P rows → P (rows ++ off n ∷ [])) × More P options

kept : (P : List Row → Type 0) (options : List (Text × Bool)) (names : List Text) → More P options
    → (rows : List Row) → P rows → P (fold with_default rows (map built_option options ++ positionals_from 1 names))
unfolding More
kept P [] names more rows held = rw (positional_defaults 1 names rows) held
kept P ((n, true) ∷ options) names more rows held =
    subst (λ rs. P (fold with_default rs (map built_option options ++ positionals_from 1 names))) (sym (valued_default n rows)) (kept P options names more rows held)
kept P ((n, false) ∷ options) names more rows held =
    flag_default (λ rs. P (fold with_default rs (map built_option options ++ positionals_from 1 names))) n rows
    (kept P options names more.1 rows held) (kept P options names more.1 (rows ++ off n ∷ []) (more.0 rows held))

-- a row at the end under another name
other_row : (name n : Text) (rows : List Row) → bytes_eq n name ≡ false → first_of name (rows ++ off n ∷ []) ≡ first_of name rows
other_row name n [] other = rw other refl
other_row name n (r ∷ rows) other = go (bytes_eq r.id name) (other_row name n rows other)
  where
    go : (b : Bool) → first_of name (rows ++ off n ∷ []) ≡ first_of name rows
        → first_text (cond b (Some r) (find (λ (r : Row). bytes_eq r.id name) (rows ++ off n ∷ []))) ≡ first_text (cond b (Some r) (find (λ (r : Row). bytes_eq r.id name) rows))
    go true e = refl
    go false e = e

off_row : (name n : Text) (rows : List Row) → is_true (first_of name (rows ++ off n ∷ [])) ≡ is_true (first_of name rows)
off_row name n [] = go (bytes_eq n name)
  where
    go : (b : Bool) → is_true (first_text (cond b (Some (off n)) None)) ≡ false
    go true = refl
    go false = refl
off_row name n (r ∷ rows) = go (bytes_eq r.id name) (off_row name n rows)
  where
    go : (b : Bool) → is_true (first_of name (rows ++ off n ∷ [])) ≡ is_true (first_of name rows)
        → is_true (first_text (cond b (Some r) (find (λ (r : Row). bytes_eq r.id name) (rows ++ off n ∷ [])))) ≡ is_true (first_text (cond b (Some r) (find (λ (r : Row). bytes_eq r.id name) rows)))
    go true e = refl
    go false e = e

-- whether an option without a value has the name
abbrev pub is_flag : List (Text × Bool) → Text → Bool
is_flag options name = list_any (λ (o : Text × Bool). not o.1 && bytes_eq o.0 name) options

other_more : (name : Text) (text : Option Text) (options : List (Text × Bool)) → is_flag options name ≡ false → More (λ rows. first_of name rows ≡ text) options
unfolding More
other_more name text [] none = tt
other_more name text ((n, true) ∷ options) none = other_more name text options none
other_more name text ((n, false) ∷ options) none =
    let parts = not_first (bytes_eq n name) (is_flag options name) none in
    (λ rows e. other_row name n rows parts.0 ∙ e, other_more name text options parts.1)

off_more : (name : Text) (b : Bool) (options : List (Text × Bool)) → More (λ rows. is_true (first_of name rows) ≡ b) options
unfolding More
off_more name b [] = tt
off_more name b ((n, true) ∷ options) = off_more name b options
off_more name b ((n, false) ∷ options) = (λ rows e. off_row name n rows ∙ e, off_more name b options)

-- the text of a name that is no flag's, and whether a flag is on
pub given : (form : Form) (words : List Text) (m : ArgMatches) (found : Matches form words m) (name : Text) → is_flag form.options name ≡ false
    → first_value (found_of m) name ≡ text_of found.0 name
given form words m found name none =
    first_value-rows (found_of m) name ∙ ap (first_of name) found.2
    ∙ kept (λ rows. first_of name rows ≡ text_of found.0 name) form.options form.positionals (other_more name _ form.options none) _ (first_entry name found.0)

pub switched : (form : Form) (words : List Text) (m : ArgMatches) (found : Matches form words m) (name : Text)
    → is_true (first_value (found_of m) name) ≡ is_true (text_of found.0 name)
switched form words m found name =
    ap is_true (first_value-rows (found_of m) name ∙ ap (first_of name) found.2)
    ∙ kept (λ rows. is_true (first_of name rows) ≡ is_true (text_of found.0 name)) form.options form.positionals (off_more name _ form.options) _ (ap is_true (first_entry name found.0))
