-- The words behind `--`, each one more positional.
use Rattle.std.proofs.Common.{◌≡◌, ◌∙◌, ℕ, Bool, cond, true, false, not, suc, refl, sym, ap, List, [], ◌∷◌, ◌++◌, map, Option, Some, None}
use Rattle.std.specs.Option.{option_map}
use Rattle.clap.specs.Walk.{Row, Waiting, idle, settled_rows, has_row, with_values, without}
use Rattle.command_words.specs.Shapes.{Text, Form, Entry, positional, has_entry}
use Rattle.command_words.specs.Rules.{row_in, Serves, built_rules}
use Rattle.command_words.proofs.Following.{only, run, walk_at, unfaulted, lay, has_row_in, used_new}
use Rattle.command_words.proofs.Turns.{trailing_word, trailing_stray, positional_unfaulted, positional_settled}

abbrev pub rows_in : Option (List Entry) → Option (List Row)
rows_in = option_map (map row_in)

pub only_none : {X : Type 0} (b : Bool) → None ≡ only {X = X} b None
only_none true = refl
only_none false = refl

-- under a test that is true
pub only_if : {X : Type 0} (b : Bool) (x y : Option X) → (b ≡ true → x ≡ y) → only b x ≡ only b y
only_if true x y same = same refl
only_if false x y same = refl

pub only_not : {X : Type 0} (b : Bool) (x : Option X) → only (not b) x ≡ cond b None x
only_not true x = refl
only_not false x = refl

pub rows_cond : (b : Bool) (x : Option (List Entry)) → cond b None (rows_in x) ≡ rows_in (cond b None x)
rows_cond true x = refl
rows_cond false x = refl

module _ (name : Text) (form : Form) where
  -- the rows so far, with what is pending, are those of the entries, where no name came twice
  abbrev pub Holds : List Row → Option (Text × List Text) → List Entry → Type 0
  Holds rows pending done = unfaulted name form rows pending ≡ true → settled_rows (built_rules form) pending rows ≡ map row_in done

  -- what one more entry leaves pending
  pub holds_more : (rows : List Row) (pending : Option (Text × List Text)) (done : List Entry) (x value : Text) → rows ≡ map row_in done
      → unfaulted name form rows pending ≡ not (has_row x rows)
      → settled_rows (built_rules form) pending rows ≡ with_values x Rattle.clap.specs.declared.builder.value_parser.Reading.TheVariants.AsWritten Rattle.clap.specs.declared.parser.matches.ValueSource.TheVariants.CommandLine (value ∷ []) (without x rows)
      → (unfaulted name form rows pending ≡ not (has_entry x done)) × Holds rows pending (done ++ (x, value) ∷ [])
  holds_more rows pending done x value are faults left =
      let has : has_row x rows ≡ has_entry x done = rw are (has_row_in x done) in
      let free : unfaulted name form rows pending ≡ not (has_entry x done) = faults ∙ ap not has in
      (free, λ ok. left ∙ used_new done rows x value are (not_true (has_entry x done) (sym free ∙ ok)))
    where
      not_true : (b : Bool) → not b ≡ true → b ≡ false
      not_true true e = sym e
      not_true false e = refl

  abbrev pub Trails : List Text → Type 0
  Trails words = (rows : List Row) (pending : Option (Text × List Text)) (waiting : Waiting) (place : ℕ) (names : List Text) (done : List Entry)
      → Serves (built_rules form) place names → Holds rows pending done
      → run name form (walk_at name form rows pending waiting place true) words
      ≡ only (unfaulted name form rows pending) (rows_in (lay done names (map positional words)))

  pub trails : (words : List Text) → Trails words
  trails [] rows pending waiting place names done serves holds =
      only_if (unfaulted name form rows pending) _ _ (λ ok. ap Some (holds ok))
  trails (word ∷ words) rows pending waiting place [] done serves holds =
      trailing_stray name form rows pending waiting place word words serves ∙ only_none _
  trails (word ∷ words) rows pending waiting place (n ∷ names) done serves holds =
      let now = settled_rows (built_rules form) pending rows in
      trailing_word name form rows pending waiting place n word words serves.0 serves.2
      ∙ only_if (unfaulted name form rows pending) _ _ (λ ok.
      let more = holds_more now (Some (n, word ∷ [])) done n word (holds ok)
      (positional_unfaulted name form now place n word serves.1) (positional_settled name form now place n word serves.1) in
      trails words now (Some (n, word ∷ [])) idle (suc place) names (done ++ (n, word) ∷ []) serves.3 more.1
      ∙ ap (λ b. only b (rows_in (lay (done ++ (n, word) ∷ []) names (map positional words)))) more.0
      ∙ only_not (has_entry n done) _ ∙ rows_cond (has_entry n done) _)
