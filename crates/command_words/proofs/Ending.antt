-- What a parse by clap says of the line's shape.
use Rattle.std.proofs.Common.{◌≡◌, ◌∙◌, ◌&&◌, ◌||◌, ℕ, Bool, cond, true, false, not, suc, refl, sym, ap, subst, inl, inr, List, [], ◌∷◌, ◌++◌, map, Option, Some, None, append_assoc, append-nil}
use Rattle.std.specs.List.{fold, list_any}
use Rattle.std.specs.Option.{option_map}
use Rattle.std.specs.Prelude.{option_and_then}
use Rattle.clap.specs.Kinds.{HasKind, IsAmong, Kinds, or_else}
use Rattle.clap.specs.Values.{kind_of}
use Rattle.clap.specs.declared.error.Error.{Error}
use Rattle.clap.specs.declared.error.kind.ErrorKind.TheVariants.{OutOfMemory}
use Rattle.std.specs.Global.{Global}
use Rattle.std.specs.Prelude.{String}
use Rattle.std.proofs.lemmas.Str.{IsUtf8-string_bytes}
use Rattle.command_words.specs.Commands.{words_of}
use Rattle.clap.specs.declared.error.kind.ErrorKind.{ErrorKind}
use Rattle.clap.specs.declared.parser.matches.ArgMatches.{ArgMatches}
use Rattle.clap.specs.Matches.{found_of}
use Rattle.clap.specs.Walk.{Row, Rule, Walk, settled, has_row, walk_from, walked, nothing_held, with_default, rows_after, rows_of}
use Rattle.clap.specs.Simple.{App, HasMatchesOf, built, is_simple, matches_of}
use Rattle.clap.specs.Faults.{settle_fault, walk_fault, turn_fault, default_fault, defaults_fault, check_fault, level_fault, is_simple_and_free, fault_of, built_fault}
use Rattle.clap.specs.Takes.{is_given}
use Rattle.clap.proofs.FaultLemmas.{leaf_fault}
use Rattle.command_words.specs.Shapes.{Text, Form, Entry, Part, option, positional, has_entry, are_new, if_once, entries_of, line_parts, shape_of}
use Rattle.command_words.specs.Rules.{row_in, app_in, built_rules, built_shape, built_option, built_positional, positionals_from, IsServed, Matches}
use Rattle.command_words.proofs.Following.{only, clean, run, lay}
use Rattle.command_words.proofs.Trails.{rows_in}
use Rattle.command_words.proofs.Shaping.{AreUtf8, laid, walk_is}

-- ---- laying entries, and entries of new names

abbrev if_new : List Entry → List Entry → Option (List Entry)
if_new done entries = cond (are_new done entries) (Some (done ++ entries)) None

one_more : (b : Bool) (e : Entry) (done : List Entry) (rest left : Option (List Entry)) → has_entry e.0 done ≡ b
    → left ≡ option_and_then (if_new (done ++ e ∷ [])) rest → cond b None left ≡ option_and_then (if_new done) (option_map (λ es. e ∷ es) rest)
one_more true e done None left has is = refl
one_more true e done (Some es) left has is = rw has refl
one_more false e done None left has is = is
one_more false e done (Some es) left has is =
    rw has (is ∙ ap (λ xs. cond (are_new (done ++ e ∷ []) es) (Some xs) None) (append_assoc done (e ∷ []) es))

lay_is : (done : List Entry) (names : List Text) (parts : List Part) → lay done names parts ≡ option_and_then (if_new done) (entries_of names parts)
lay_is done names [] = ap Some (sym (append-nil done))
lay_is done names (option x value ∷ parts) =
    one_more (has_entry x done) (x, value) done (entries_of names parts) _ refl (lay_is (done ++ (x, value) ∷ []) names parts)
lay_is done [] (positional word ∷ parts) = refl
lay_is done (n ∷ names) (positional word ∷ parts) =
    one_more (has_entry n done) (n, word) done (entries_of names parts) _ refl (lay_is (done ++ (n, word) ∷ []) names parts)

laid_is : (form : Form) (words : List Text) → laid [] form.positionals (line_parts form words) ≡ shape_of form words
laid_is form words = go (line_parts form words)
  where
    go : (parts : Option (List Part)) → laid [] form.positionals parts ≡ option_and_then if_once (option_and_then (entries_of form.positionals) parts)
    go None = refl
    go (Some ps) = lay_is [] form.positionals ps

-- ---- the faults of a whole parse

module _ (name : Text) (form : Form) where
  abbrev pub end_of : Walk → List Text → Walk
  end_of w words = fold (walked (built_rules form) []) w words

  abbrev is_clean : Walk → List Text → Bool
  is_clean w words = clean (walk_fault (built_shape name form) [] w words) && clean (settle_fault (built_rules form) false (end_of w words).held)

  step_clean : {X : Type 0} (a b : Kinds) (c : Bool) (x y : Option X) → x ≡ only (clean b && c) y → only (clean a) x ≡ only (clean (or_else a b) && c) y
  step_clean [] b c x y e = e
  step_clean (k ∷ ks) b c x y e = refl

  run_is : (w : Walk) (words : List Text) → run name form w words ≡ only (is_clean w words) (Some (settled (built_rules form) (end_of w words).held).rows)
  unfolding walk_fault
  run_is w [] = refl
  run_is w (word ∷ words) = step_clean (turn_fault (built_shape name form) [] w word) _ _ _ _ (run_is (walked (built_rules form) [] w word) words)

-- a default passes, and no argument is required
no_default : (rows : List Row) (place : ℕ) (n : Text) → default_fault rows (built_positional place n) ≡ []
no_default rows place n = go (has_row n rows)
  where
    go : (b : Bool) → cond (b || true) [] (or_else [] []) ≡ []
    go true = refl
    go false = refl

option_default : (rows : List Row) (n : Text) (takes : Bool) → default_fault rows (built_option (n, takes)) ≡ []
option_default rows n true = go (has_row n rows)
  where
    go : (b : Bool) → cond (b || true) [] (or_else [] []) ≡ []
    go true = refl
    go false = refl
option_default rows n false = go (has_row n rows)
  where
    go : (b : Bool) → cond (b || false) [] (or_else [] []) ≡ []
    go true = refl
    go false = refl

positional_defaults : (rows : List Row) (place : ℕ) (names : List Text) → defaults_fault rows (positionals_from place names) ≡ []
unfolding defaults_fault
positional_defaults rows place [] = refl
positional_defaults rows place (n ∷ names) = rw (no_default rows place n) (positional_defaults (with_default rows (built_positional place n)) (suc place) names)

no_default_fault : (rows : List Row) (options : List (Text × Bool)) (names : List Text) → defaults_fault rows (map built_option options ++ positionals_from 1 names) ≡ []
unfolding defaults_fault
no_default_fault rows [] names = positional_defaults rows 1 names
no_default_fault rows ((n, takes) ∷ options) names =
    rw (option_default rows n takes) (no_default_fault (with_default rows (built_option (n, takes))) options names)

none_required : (rows : List Row) (place : ℕ) (names : List Text) → list_any (λ (a : Rule). a.required && not (is_given a.id rows)) (positionals_from place names) ≡ false
none_required rows place [] = refl
none_required rows place (n ∷ names) = none_required rows (suc place) names

no_required : (rows : List Row) (options : List (Text × Bool)) (names : List Text)
    → list_any (λ (a : Rule). a.required && not (is_given a.id rows)) (map built_option options ++ positionals_from 1 names) ≡ false
no_required rows [] names = none_required rows 1 names
no_required rows (o ∷ options) names = no_required rows options names

-- ---- a form whose command clap reads as the walk above

module _ (name : Text) (form : Form) (served : IsServed form) where
  built_is : built (app_in name form) ≡ record { top = built_shape name form; subs = [] }
  built_is = ap (λ rules. record { top = record (built_shape name form) { rules = rules }; subs = [] }) served.rules

  check_passes : (rows : List Row) → check_fault (built_shape name form) rows false ≡ []
  check_passes rows = rw (no_required rows form.options form.positionals) refl

  clean_end : (a b d e : Kinds) → d ≡ [] → e ≡ [] → clean (or_else a (or_else [] (or_else b (or_else d e)))) ≡ (clean a && clean b)
  clean_end [] [] d e no_d no_e = rw (no_d, no_e) refl
  clean_end [] (k ∷ ks) d e no_d no_e = refl
  clean_end (k ∷ ks) b d e no_d no_e = refl

  fault_is : (words : List Text) → clean (fault_of (app_in name form) words) ≡ is_clean name form (walk_from nothing_held) words
  fault_is words =
      ap (λ a. clean (built_fault a nothing_held words)) built_is
      ∙ ap clean (leaf_fault (record { top = built_shape name form; subs = [] }) nothing_held words refl)
      ∙ clean_end (walk_fault (built_shape name form) [] (walk_from nothing_held) words)
      (settle_fault (built_rules form) false (end_of name form (walk_from nothing_held) words).held) _ _
      (no_default_fault _ form.options form.positionals) (check_passes _)

  abbrev pub ended : List Text → List Row
  ended words = (settled (built_rules form) (end_of name form (walk_from nothing_held) words).held).rows

  -- where nothing is a fault, the rows of the walk are the entries of the shape
  pub shape_is : (words : List Text) → AreUtf8 words
      → only (clean (fault_of (app_in name form) words)) (Some (ended words)) ≡ rows_in (shape_of form words)
  shape_is words utf8 =
      ap (λ b. only b (Some (ended words))) (fault_is words)
      ∙ sym (run_is name form (walk_from nothing_held) words)
      ∙ walk_is name form words utf8 served.serves
      ∙ ap rows_in (laid_is form words)

  pub matches_is : (words : List Text) → matches_of (app_in name form) words ≡ fold with_default (ended words) (built_rules form)
  matches_is words = ap (λ (a : App). rows_after a.top.rules [] words) built_is

-- ---- what the two answers of a parse say

shape_some : (rows : List Row) (shape : Option (List Entry)) → Some rows ≡ rows_in shape → (es : List Entry) × (shape ≡ Some es) × (rows ≡ map row_in es)
shape_some rows None e = absurd (cc)
shape_some rows (Some es) e = (es, refl, cc)

shape_none : (shape : Option (List Entry)) → None ≡ rows_in shape → shape ≡ None
shape_none None e = refl
shape_none (Some es) e = absurd (cc)

not_clean : (kinds : Kinds) (k : ErrorKind) → IsAmong k kinds → clean kinds ≡ false
not_clean [] k among = absurd among
not_clean (x ∷ xs) k among = refl

module _ (name : Text) (form : Form) (served : IsServed form) (words : List Text) (utf8 : AreUtf8 words) where
  pub at_ok : (m : ArgMatches) → fault_of (app_in name form) words ≡ [] → rows_of (found_of m) ≡ matches_of (app_in name form) words → Matches form words m
  at_ok m none rows =
      let e : Some (ended name form served words) ≡ rows_in (shape_of form words) =
      sym (ap (λ k. only (clean k) (Some (ended name form served words))) none) ∙ shape_is name form served words utf8 in
      let some = shape_some (ended name form served words) (shape_of form words) e in
      (some.0, some.1, rows ∙ matches_is name form served words ∙ ap (λ xs. fold with_default xs (built_rules form)) some.2)

  pub at_err : (kind : ErrorKind) → IsAmong kind (fault_of (app_in name form) words) → shape_of form words ≡ None
  at_err kind among =
      let bad : clean (fault_of (app_in name form) words) ≡ false = not_clean _ kind among in
      shape_none (shape_of form words)
      (sym (ap (λ b. only b (Some (ended name form served words))) bad) ∙ shape_is name form served words utf8)

pub are_utf8 : (words : List (String Global)) → AreUtf8 (words_of words)
are_utf8 [] = tt
are_utf8 (word ∷ words) = (IsUtf8-string_bytes word, are_utf8 words)

simple_of : (a : App) → is_simple_and_free a ≡ true → is_simple a ≡ true
simple_of a e = go (is_simple a) e
  where
    go : (b : Bool) → (b && Rattle.clap.specs.Faults.is_free_app (built a)) ≡ true → b ≡ true
    go true e = refl
    go false e = e

-- the same of the command that was parsed
pub parsed_ok : (name : Text) (form : Form) → IsServed form → (app : App) → app ≡ app_in name form → (words : List (String Global)) (m : ArgMatches)
    → (is_simple_and_free app ≡ true → fault_of app (words_of words) ≡ []) → HasMatchesOf app (words_of words) m → Matches form (words_of words) m
parsed_ok name form served app is words m faults has =
    let simple : is_simple_and_free app ≡ true = rw is (served.simple name) in
    at_ok name form served (words_of words) (are_utf8 words) m
    (sym (ap (λ a. fault_of a (words_of words)) is) ∙ faults simple)
    ((has (simple_of app simple)).0 ∙ ap (λ a. matches_of a (words_of words)) is)

pub parsed_err : (name : Text) (form : Form) → IsServed form → (app : App) → app ≡ app_in name form → (words : List (String Global)) (e : Error)
    → (is_simple_and_free app ≡ true → HasKind (fault_of app (words_of words)) e) → (kind_of e ≡ OutOfMemory → ⊥) → shape_of form (words_of words) ≡ None
parsed_err name form served app is words e faults other =
    let simple : is_simple_and_free app ≡ true = rw is (served.simple name) in
    elim (faults simple) [
      | inl memory ↦ absurd (other memory)
      | inr among ↦ at_err name form served (words_of words) (are_utf8 words) (kind_of e)
          (subst (λ a. IsAmong (kind_of e) (fault_of a (words_of words))) is among)
    ]
