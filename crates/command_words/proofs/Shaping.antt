-- Clap's rows at the end of its walk are the entries of the line's shape.
use Rattle.std.proofs.Common.{◌≡◌, ◌∙◌, ◌<◌, ◌&&◌, ℕ, Bool, cond, true, false, not, zero, suc, refl, sym, ap, ap₂, List, [], ◌∷◌, ◌++◌, map, Option, Some, None, codes}
use Rattle.std.specs.Option.{option_map}
use Rattle.std.specs.Prelude.{option_and_then, ⊤}
use Rattle.std.specs.Str.{bytes_eq, chars, IsUtf8}
use Rattle.std.proofs.lemmas.Slice.Eq.{bytes_eq-Decides}
use Rattle.clap.specs.Lexer.{long_of}
use Rattle.clap.specs.Walk.{Row, idle, option as waits_for, settled_rows, has_row, with_values, without, arg_by_id}
use Rattle.clap.specs.declared.builder.value_parser.Reading.TheVariants.{AsWritten}
use Rattle.clap.specs.declared.parser.matches.ValueSource.TheVariants.{CommandLine}
use Rattle.command_words.specs.Shapes.{Text, Form, Entry, Part, option, positional, has_entry, Word, plain, gives, opens, marks, stray, ends_options, is_dashed, option_in, option_of, named, word_of, with_word, first_as_value, parts_of, words_before, words_after, line_parts}
use Rattle.command_words.specs.Rules.{row_in, Serves, built_rules, built_option}
use Rattle.command_words.proofs.Dashes.{Dashed, long, short, seen, no_long, no_short}
use Rattle.command_words.proofs.Following.{only, run, walk_at, unfaulted, lay, has_row_in, used_new}
use Rattle.command_words.proofs.Lookups.{by_long, by_id}
use Rattle.command_words.proofs.Turns
use Rattle.command_words.proofs.Trails.{rows_in, Holds, holds_more, trails, only_none, only_if, only_not, rows_cond}

-- ---- the parts of a line with one more word

abbrev pub with_rest : Option (List Part) → List Text → Option (List Part)
with_rest parts rest = option_map (λ ps. ps ++ map positional rest) parts

line_cons : (form : Form) (word : Text) (words : List Text) (w : Word) → ends_options word ≡ false → word_of form word ≡ w
    → line_parts form (word ∷ words) ≡ with_rest (with_word w word (parts_of form (words_before words))) (words_after words)
line_cons form word words w other is = rw (other, is) refl

line_end : (form : Form) (word : Text) (words : List Text) → ends_options word ≡ true → line_parts form (word ∷ words) ≡ Some (map positional words)
line_end form word words is = rw is refl

abbrev pub laid : List Entry → List Text → Option (List Part) → Option (List Entry)
laid done names parts = option_and_then (lay done names) parts

either_way : {X : Type 0} (b : Bool) (x : X) → x ≡ cond b x x
either_way true x = refl
either_way false x = refl

lay_option : (done : List Entry) (names : List Text) (x value : Text) (parts : Option (List Part)) (rest : List Text)
    → laid done names (with_rest (option_map (λ ps. option x value ∷ ps) parts) rest)
    ≡ cond (has_entry x done) None (laid (done ++ (x, value) ∷ []) names (with_rest parts rest))
lay_option done names x value None rest = either_way (has_entry x done) None
lay_option done names x value (Some ps) rest = refl

lay_positional : (done : List Entry) (n : Text) (names : List Text) (word : Text) (parts : Option (List Part)) (rest : List Text)
    → laid done (n ∷ names) (with_rest (option_map (λ ps. positional word ∷ ps) parts) rest)
    ≡ cond (has_entry n done) None (laid (done ++ (n, word) ∷ []) names (with_rest parts rest))
lay_positional done n names word None rest = either_way (has_entry n done) None
lay_positional done n names word (Some ps) rest = refl

lay_no_name : (done : List Entry) (word : Text) (parts : Option (List Part)) (rest : List Text)
    → None ≡ laid done [] (with_rest (option_map (λ ps. positional word ∷ ps) parts) rest)
lay_no_name done word None rest = refl
lay_no_name done word (Some ps) rest = refl

value_first : (x word : Text) (parts : Option (List Part)) → first_as_value x (option_map (λ ps. positional word ∷ ps) parts) ≡ option_map (λ ps. option x word ∷ ps) parts
value_first x word None = refl
value_first x word (Some ps) = refl

-- an option is no value
no_value : (x : Text) (parts : Option (List Part)) (y value : Text) → first_as_value x (option_map (λ ps. option y value ∷ ps) parts) ≡ None
no_value x None y value = refl
no_value x (Some ps) y value = refl

no_opened : (x y : Text) (parts : Option (List Part)) → first_as_value x (first_as_value y parts) ≡ None
no_opened x y None = refl
no_opened x y (Some []) = refl
no_opened x y (Some (option n v ∷ ps)) = refl
no_opened x y (Some (positional v ∷ ps)) = refl

dashed_no_value : (x word y : Text) (value : Option Text) (found : Option (Text × Bool)) (parts : Option (List Part))
    → first_as_value x (with_word (named y value found) word parts) ≡ None
dashed_no_value x word y value None parts = refl
dashed_no_value x word y (Some v) (Some (n, true)) parts = no_value x parts y v
dashed_no_value x word y (Some v) (Some (n, false)) parts = refl
dashed_no_value x word y None (Some (n, true)) parts = no_opened x y parts
dashed_no_value x word y None (Some (n, false)) parts = no_value x parts y (codes "true")

-- ---- what a word is, by what clap sees of it

plain_is : (form : Form) (word : Text) → is_dashed word ≡ false → word_of form word ≡ plain
plain_is form word is = rw is refl

long_is : (form : Form) (word : Text) (p : Text × Option Text) → is_dashed word ≡ true → option_in word ≡ Some p
    → word_of form word ≡ named p.0 p.1 (option_of form.options p.0)
long_is form word p is has = rw (is, has) refl

short_is : (form : Form) (word : Text) → is_dashed word ≡ true → option_in word ≡ None → word_of form word ≡ stray
short_is form word is has = rw (is, has) refl

same_name : (options : List (Text × Bool)) (x : Text) (o : Text × Bool) → option_of options x ≡ Some o → o.0 ≡ x
same_name [] x o found = absurd (cc)
same_name (p ∷ options) x o found = go (bytes_eq p.0 x) (bytes_eq-Decides p.0 x) found (same_name options x o)
  where
    go : (b : Bool) → Rattle.std.specs.Bool.Decides b (p.0 ≡ x) → cond b (Some p) (option_of options x) ≡ Some o → (option_of options x ≡ Some o → o.0 ≡ x) → o.0 ≡ x
    go true d e next = let same : p ≡ o = cc in let is : p.0 ≡ x = grind Rattle.std.proofs.Common.arith in ap (λ (q : Text × Bool). q.0) (sym same) ∙ is
    go false d e next = next e

-- ---- the walk over all words

only_both : {X : Type 0} (a b : Bool) (x : Option X) → only (a && b) x ≡ only a (only b x)
only_both true b x = refl
only_both false b x = refl

not_false : (b : Bool) → not b ≡ true → b ≡ false
not_false true e = sym e
not_false false e = refl

absurd_false : {X : Type 0} → false ≡ true → X
absurd_false e = absurd (cc)

abbrev pub AreUtf8 : List Text → Type 0
AreUtf8 [] = ⊤
AreUtf8 (word ∷ words) = IsUtf8 word × AreUtf8 words

module _ (name : Text) (form : Form) where
  abbrev pub Idle : List Text → Type 0
  Idle words = (rows : List Row) (pending : Option (Text × List Text)) (place : ℕ) (names : List Text) (done : List Entry)
      → Serves (built_rules form) place names → Holds name form rows pending done
      → run name form (walk_at name form rows pending idle place false) words
      ≡ only (unfaulted name form rows pending) (rows_in (laid done names (line_parts form words)))

  -- the parts where the words before are `--x` and wait for its value
  abbrev pub value_parts : Text → List Text → Option (List Part)
  value_parts x words = with_rest (first_as_value x (parts_of form (words_before words))) (words_after words)

  abbrev pub Waits : List Text → Type 0
  Waits words = (rows : List Row) (x : Text) (place : ℕ) (names : List Text) (done : List Entry)
      → Serves (built_rules form) place names → rows ≡ map row_in done → option_of form.options x ≡ Some (x, true)
      → run name form (walk_at name form rows (Some (x, [])) (waits_for x) place false) words ≡ rows_in (laid done names (value_parts x words))

  -- one more entry, after which nothing is pending
  idle_entry : (words : List Text) → Idle words → (rows : List Row) (done : List Entry) (place : ℕ) (names : List Text) (x value : Text)
      → Serves (built_rules form) place names → rows ≡ map row_in done
      → only (not (has_row x rows)) (run name form (walk_at name form (with_values x AsWritten CommandLine (value ∷ []) (without x rows)) None idle place false) words)
      ≡ rows_in (cond (has_entry x done) None (laid (done ++ (x, value) ∷ []) names (line_parts form words)))
  idle_entry words next rows done place names x value serves are =
      let has : has_row x rows ≡ has_entry x done = rw are (has_row_in x done) in
      only_if (not (has_row x rows)) _ _ (λ ok.
      next (with_values x AsWritten CommandLine (value ∷ []) (without x rows)) None place names (done ++ (x, value) ∷ []) serves
      (λ _. used_new done rows x value are (sym has ∙ not_false (has_row x rows) ok)))
      ∙ ap (λ b. only (not b) (rows_in (laid (done ++ (x, value) ∷ []) names (line_parts form words)))) has
      ∙ only_not (has_entry x done) _ ∙ rows_cond (has_entry x done) _

  idle_plain : (word : Text) (words : List Text) → Idle words → ends_options word ≡ false → is_dashed word ≡ false → Idle (word ∷ words)
  idle_plain word words next other is rows pending place [] done serves holds =
      Turns.idle_stray name form rows pending place word words other (no_long word is) (no_short word is) serves
      ∙ only_none _
      ∙ ap (λ o. only (unfaulted name form rows pending) (rows_in o)) (lay_no_name done word (parts_of form (words_before words)) (words_after words)
      ∙ sym (ap (laid done []) (line_cons form word words plain other (plain_is form word is))))
  idle_plain word words next other is rows pending place (n ∷ names) done serves holds =
      let now = settled_rows (built_rules form) pending rows in
      Turns.idle_plain name form rows pending place n word words other (no_long word is) (no_short word is) serves.0 serves.2
      ∙ only_if (unfaulted name form rows pending) _ _ (λ ok.
      let more = holds_more name form now (Some (n, word ∷ [])) done n word (holds ok)
      (Turns.positional_unfaulted name form now place n word serves.1) (Turns.positional_settled name form now place n word serves.1) in
      next now (Some (n, word ∷ [])) (suc place) names (done ++ (n, word) ∷ []) serves.3 more.1
      ∙ ap (λ b. only b (rows_in (laid (done ++ (n, word) ∷ []) names (line_parts form words)))) more.0
      ∙ only_not (has_entry n done) _ ∙ rows_cond (has_entry n done) _)
      ∙ ap (λ o. only (unfaulted name form rows pending) (rows_in o))
      (sym (ap (laid done (n ∷ names)) (line_cons form word words plain other (plain_is form word is))
      ∙ lay_positional done n names word (parts_of form (words_before words)) (words_after words)))

  refused : (word : Text) (words : List Text) (w : Word) (rows : List Row) (pending : Option (Text × List Text)) (names : List Text) (done : List Entry)
      → ends_options word ≡ false → word_of form word ≡ w → with_word w word (parts_of form (words_before words)) ≡ None
      → None ≡ only (unfaulted name form rows pending) (rows_in (laid done names (line_parts form (word ∷ words))))
  refused word words w rows pending names done other is none =
      only_none _ ∙ ap (λ o. only (unfaulted name form rows pending) (rows_in (laid done names o)))
      (sym (line_cons form word words w other is ∙ ap (λ o. with_rest o (words_after words)) none))

  -- an option, by what the form has of its name
  idle_long : (word : Text) (words : List Text) → Idle words → Waits words → ends_options word ≡ false → (x : Text) (value : Option Text) (found : Option (Text × Bool))
      → long_of word ≡ Some (x, value) → option_of form.options x ≡ found → word_of form word ≡ named x value found → Idle (word ∷ words)
  idle_long word words next waits other x value None sees has is rows pending place names done serves holds =
      Turns.idle_unknown name form rows pending place word x value words other sees (by_long form x ∙ ap (option_map built_option) has)
      ∙ refused word words stray rows pending names done other is refl
  idle_long word words next waits other x (Some v) (Some (y, false)) sees has is rows pending place names done serves holds =
      let known : option_of form.options x ≡ Some (x, false) = has ∙ ap (λ z. Some (z, false)) (same_name form.options x (y, false) has) in
      Turns.idle_unneeded name form rows pending place word x v words other sees (by_long form x ∙ ap (option_map built_option) known)
      ∙ refused word words stray rows pending names done other is refl
  idle_long word words next waits other x (Some v) (Some (y, true)) sees has is rows pending place names done serves holds =
      let known : option_of form.options x ≡ Some (x, true) = has ∙ ap (λ z. Some (z, true)) (same_name form.options x (y, true) has) in
      let now = settled_rows (built_rules form) pending rows in
      Turns.idle_gives name form rows pending place word x v words other sees (by_long form x ∙ ap (option_map built_option) known)
      ∙ only_both (unfaulted name form rows pending) _ _
      ∙ only_if (unfaulted name form rows pending) _ _ (λ ok. idle_entry words next now done place names x v serves (holds ok))
      ∙ ap (λ o. only (unfaulted name form rows pending) (rows_in o))
      (sym (ap (laid done names) (line_cons form word words (gives x v) other is)
      ∙ lay_option done names x v (parts_of form (words_before words)) (words_after words)))
  idle_long word words next waits other x None (Some (y, false)) sees has is rows pending place names done serves holds =
      let known : option_of form.options x ≡ Some (x, false) = has ∙ ap (λ z. Some (z, false)) (same_name form.options x (y, false) has) in
      let now = settled_rows (built_rules form) pending rows in
      Turns.idle_marks name form rows pending place word x words other sees (by_long form x ∙ ap (option_map built_option) known)
      ∙ only_both (unfaulted name form rows pending) _ _
      ∙ only_if (unfaulted name form rows pending) _ _ (λ ok. idle_entry words next now done place names x (codes "true") serves (holds ok))
      ∙ ap (λ o. only (unfaulted name form rows pending) (rows_in o))
      (sym (ap (laid done names) (line_cons form word words (marks x) other is)
      ∙ lay_option done names x (codes "true") (parts_of form (words_before words)) (words_after words)))
  idle_long word words next waits other x None (Some (y, true)) sees has is rows pending place names done serves holds =
      let known : option_of form.options x ≡ Some (x, true) = has ∙ ap (λ z. Some (z, true)) (same_name form.options x (y, true) has) in
      let now = settled_rows (built_rules form) pending rows in
      Turns.idle_opens name form rows pending place word x words other sees (by_long form x ∙ ap (option_map built_option) known)
      ∙ only_if (unfaulted name form rows pending) _ _ (λ ok. waits now x place names done serves (holds ok) known)
      ∙ ap (λ o. only (unfaulted name form rows pending) (rows_in o))
      (sym (ap (laid done names) (line_cons form word words (opens x) other is)))

  idle_dashed : (word : Text) (words : List Text) → Idle words → Waits words → ends_options word ≡ false → is_dashed word ≡ true → Dashed word → Idle (word ∷ words)
  idle_dashed word words next waits other is (long p has sees) =
      idle_long word words next waits other p.0 p.1 (option_of form.options p.0) sees refl (long_is form word p is has)
  idle_dashed word words next waits other is (short first rest y ys has sees flags some) = λ rows pending place names done serves holds.
      Turns.idle_bundle name form rows pending place word first rest y ys words other sees flags some
      ∙ refused word words stray rows pending names done other (short_is form word is has) refl

  idle_end : (word : Text) (words : List Text) → ends_options word ≡ true → Idle (word ∷ words)
  idle_end word words is rows pending place names done serves holds =
      Turns.idle_end name form rows pending place word words is
      ∙ trails name form words rows pending idle place names done serves holds
      ∙ ap (λ o. only (unfaulted name form rows pending) (rows_in (laid done names o))) (sym (line_end form word words is))

  idle_other : (word : Text) (words : List Text) → Idle words → Waits words → IsUtf8 word → ends_options word ≡ false → (b : Bool) → is_dashed word ≡ b → Idle (word ∷ words)
  idle_other word words next waits utf8 other false is = idle_plain word words next other is
  idle_other word words next waits utf8 other true is = idle_dashed word words next waits other is (seen word is other utf8)

  idle_word : (word : Text) (words : List Text) → Idle words → Waits words → IsUtf8 word → (b : Bool) → ends_options word ≡ b → Idle (word ∷ words)
  idle_word word words next waits utf8 true is = idle_end word words is
  idle_word word words next waits utf8 false is = idle_other word words next waits utf8 is (is_dashed word) refl

  -- ---- where an option waits for its value

  waits_end : (word : Text) (words : List Text) → ends_options word ≡ true → Waits (word ∷ words)
  waits_end word words is rows x place names done serves are known =
      let held : arg_by_id (built_rules form) x ≡ Some (built_option (x, true)) = by_id form x (x, true) known in
      let faulted : unfaulted name form rows (Some (x, [])) ≡ false = Turns.open_faulted name form rows x held in
      let nothing : value_parts x (word ∷ words) ≡ None = rw is refl in
      Turns.waits_end name form rows x place word words is
      ∙ trails name form words rows (Some (x, [])) (waits_for x) place names done serves (λ ok. absurd_false (sym faulted ∙ ok))
      ∙ ap (λ b. only b (rows_in (lay done names (map positional words)))) faulted
      ∙ sym (ap (λ o. rows_in (laid done names o)) nothing)

  waits_plain : (word : Text) (words : List Text) → Idle words → ends_options word ≡ false → is_dashed word ≡ false → Waits (word ∷ words)
  waits_plain word words next other is rows x place names done serves are known =
      let held : arg_by_id (built_rules form) x ≡ Some (built_option (x, true)) = by_id form x (x, true) known in
      let more = holds_more name form rows (Some (x, word ∷ [])) done x word are
      (Turns.option_unfaulted name form rows x word held) (Turns.option_settled name form rows x word held) in
      let parts = parts_of form (words_before words) in
      let one : value_parts x (word ∷ words) ≡ with_rest (option_map (λ ps. option x word ∷ ps) parts) (words_after words) =
      rw (other, plain_is form word is) (ap (λ o. with_rest o (words_after words)) (value_first x word parts)) in
      Turns.waits_plain name form rows x place word words other (no_long word is) (no_short word is) held
      ∙ next rows (Some (x, word ∷ [])) place names (done ++ (x, word) ∷ []) serves more.1
      ∙ ap (λ b. only b (rows_in (laid (done ++ (x, word) ∷ []) names (line_parts form words)))) more.0
      ∙ only_not (has_entry x done) _ ∙ rows_cond (has_entry x done) _
      ∙ sym (ap (λ o. rows_in (laid done names o)) one ∙ ap rows_in (lay_option done names x word parts (words_after words)))

  waits_refused : (word : Text) (words : List Text) (w : Word) (x : Text) (names : List Text) (done : List Entry)
      → ends_options word ≡ false → word_of form word ≡ w → first_as_value x (with_word w word (parts_of form (words_before words))) ≡ None
      → None ≡ rows_in (laid done names (value_parts x (word ∷ words)))
  waits_refused word words w x names done other is none =
      let nothing : value_parts x (word ∷ words) ≡ None = rw (other, is, none) refl in
      sym (ap (λ o. rows_in (laid done names o)) nothing)

  waits_dashed : (word : Text) (words : List Text) → ends_options word ≡ false → is_dashed word ≡ true → Dashed word → Waits (word ∷ words)
  waits_dashed word words other is (long p has sees) = λ rows x place names done serves are known.
      Turns.waits_long name form rows x place word p (option_of form.options p.0) words other sees (by_long form p.0) (by_id form x (x, true) known)
      ∙ waits_refused word words (named p.0 p.1 (option_of form.options p.0)) x names done other (long_is form word p is has)
      (dashed_no_value x word p.0 p.1 (option_of form.options p.0) (parts_of form (words_before words)))
  waits_dashed word words other is (short first rest y ys has sees flags some) = λ rows x place names done serves are known.
      Turns.waits_bundle name form rows x place word first rest y ys words other sees flags some
      ∙ waits_refused word words stray x names done other (short_is form word is has) refl

  waits_other : (word : Text) (words : List Text) → Idle words → IsUtf8 word → ends_options word ≡ false → (b : Bool) → is_dashed word ≡ b → Waits (word ∷ words)
  waits_other word words next utf8 other false is = waits_plain word words next other is
  waits_other word words next utf8 other true is = waits_dashed word words other is (seen word is other utf8)

  waits_word : (word : Text) (words : List Text) → Idle words → IsUtf8 word → (b : Bool) → ends_options word ≡ b → Waits (word ∷ words)
  waits_word word words next utf8 true is = waits_end word words is
  waits_word word words next utf8 false is = waits_other word words next utf8 is (is_dashed word) refl

  -- ---- both

  idle_none : Idle []
  idle_none rows pending place names done serves holds = only_if (unfaulted name form rows pending) _ _ (λ ok. ap Some (holds ok))

  waits_none : Waits []
  waits_none rows x place names done serves are known = Turns.end_none name form rows x (waits_for x) place false (by_id form x (x, true) known)

  pub both : (words : List Text) → AreUtf8 words → Idle words × Waits words
  both [] utf8 = (idle_none, waits_none)
  both (word ∷ words) utf8 =
      let rest = both words utf8.1 in
      (idle_word word words rest.0 rest.1 utf8.0 (ends_options word) refl, waits_word word words rest.0 utf8.0 (ends_options word) refl)

  -- the whole walk
  pub walk_is : (words : List Text) → AreUtf8 words → Serves (built_rules form) 1 form.positionals
      → run name form (walk_at name form [] None idle 1 false) words ≡ rows_in (laid [] form.positionals (line_parts form words))
  walk_is words utf8 serves = (both words utf8).0 [] None 1 form.positionals [] serves (λ ok. refl)
