-- How clap sees a word: `--`, an option by its long name, a bundle of short names, or none of them.
use Rattle.std.proofs.Common.{◌≡◌, ◌==◌, ◌&&◌, ℕ, Bool, cond, true, false, refl, List, [], ◌∷◌, Option, Some, None}
use Rattle.std.specs.Str.{IsUtf8, chars, bytes_eq}
use Rattle.std.specs.Char.{encode_utf8}
use Rattle.std.proofs.lemmas.Bool.{eqb-true}
use Rattle.std.proofs.lemmas.Str.{IsUtf8-past_char, encodes-chars}
use Rattle.clap.specs.Lexer.{long_of, short_of}
use Rattle.command_words.specs.Shapes.{Text, is_dashed, option_in, ends_options, name_and_value}

-- no byte is left of a text that has no characters
some_chars : (first : ℕ) (rest : Text) → IsUtf8 (first ∷ rest) → (x : ℕ) × (xs : List ℕ) × (chars (first ∷ rest) ≡ x ∷ xs)
some_chars first rest utf8 = go (chars (first ∷ rest)) refl (encodes-chars (first ∷ rest) utf8)
  where
    go : (cs : List ℕ) → chars (first ∷ rest) ≡ cs → Rattle.std.specs.Str.encode_utf8_all (chars (first ∷ rest)) ≡ first ∷ rest
        → (x : ℕ) × (xs : List ℕ) × (chars (first ∷ rest) ≡ x ∷ xs)
    go [] e same = let bad : [] ≡ first ∷ rest = rw e at same in absurd (cc)
    go (x ∷ xs) e same = (x, xs, e)

past_dash : (first : ℕ) (rest : Text) → IsUtf8 (first ∷ rest) → (first == 45) ≡ true → IsUtf8 rest
unfolding encode_utf8
past_dash first rest utf8 is =
    let e : first ≡ 45 = eqb-true first 45 is in
    IsUtf8-past_char (first ∷ rest) rest 45 utf8 (rw e refl)

-- a word that is neither plain nor `--`
pub data Dashed (word : Text) : Type 0 where
  long : (p : Text × Option Text) → option_in word ≡ Some p → long_of word ≡ Some p → Dashed word
  short : (first : ℕ) (rest : Text) (x : ℕ) (xs : List ℕ) → option_in word ≡ None → long_of word ≡ None → short_of word ≡ Some (first ∷ rest)
      → chars (first ∷ rest) ≡ x ∷ xs → Dashed word

dashed_third : (a b c : ℕ) (rest : Text) → (a == 45) ≡ true → (b == 45) ≡ true → Dashed (a ∷ b ∷ c ∷ rest)
dashed_third a b c rest first second = long (name_and_value (c ∷ rest)) (rw (first, second) refl) (rw (first, second) refl)

dashed_bundle : (a b : ℕ) (rest : Text) → (a == 45) ≡ true → (b == 45) ≡ false → option_in (a ∷ b ∷ rest) ≡ None → IsUtf8 (a ∷ b ∷ rest) → Dashed (a ∷ b ∷ rest)
dashed_bundle a b rest first second none utf8 =
    let some = some_chars b rest (past_dash a (b ∷ rest) utf8 first) in
    short b rest some.0 some.1 none (rw (first, second) refl) (rw (first, second) refl) some.2

no_option : (a b : ℕ) (rest : Text) → (b == 45) ≡ false → option_in (a ∷ b ∷ rest) ≡ None
no_option a b [] second = refl
no_option a b (c ∷ rest) second = go (a == 45)
  where
    go : (x : Bool) → cond (x && (b == 45)) (Some (name_and_value (c ∷ rest))) None ≡ None
    go true = rw second refl
    go false = refl

dashed_by : (a b : ℕ) (rest : Text) (second : Bool) → (b == 45) ≡ second → (a == 45) ≡ true → ends_options (a ∷ b ∷ rest) ≡ false → IsUtf8 (a ∷ b ∷ rest)
    → Dashed (a ∷ b ∷ rest)
dashed_by a b rest false second first other utf8 = dashed_bundle a b rest first second (no_option a b rest second) utf8
dashed_by a b [] true second first other utf8 = let bad : true ≡ false = rw (first, second) at other in absurd (cc)
dashed_by a b (c ∷ rest) true second first other utf8 = dashed_third a b c rest first second

pub seen : (word : Text) → is_dashed word ≡ true → ends_options word ≡ false → IsUtf8 word → Dashed word
seen [] is other utf8 = absurd (cc)
seen (a ∷ []) is other utf8 = absurd (cc)
seen (a ∷ b ∷ rest) is other utf8 = dashed_by a b rest (b == 45) refl is other utf8

-- ---- a word that is plain

pub no_long : (word : Text) → is_dashed word ≡ false → long_of word ≡ None
no_long [] is = refl
no_long (a ∷ []) is = go (a == 45)
  where
    go : (x : Bool) → Rattle.std.specs.Prelude.option_and_then Rattle.clap.specs.Lexer.long_of_rest
        (Rattle.std.specs.Prelude.option_and_then (Rattle.clap.specs.Lexer.strip_byte 45) (cond x (Some []) None)) ≡ None
    go true = refl
    go false = refl
no_long (a ∷ b ∷ rest) is = rw is refl

pub no_short : (word : Text) → is_dashed word ≡ false → short_of word ≡ None
no_short [] is = refl
no_short (a ∷ []) is = go (a == 45)
  where
    go : (x : Bool) → Rattle.std.specs.Prelude.option_and_then Rattle.clap.specs.Lexer.short_of_rest (cond x (Some []) None) ≡ None
    go true = refl
    go false = refl
no_short (a ∷ b ∷ rest) is = rw is refl

pub no_end : (word : Text) → is_dashed word ≡ false → ends_options word ≡ false
no_end [] is = refl
no_end (a ∷ []) is = go (a == 45)
  where
    go : (x : Bool) → (x && false) ≡ false
    go true = refl
    go false = refl
no_end (a ∷ b ∷ rest) is = rw is refl
