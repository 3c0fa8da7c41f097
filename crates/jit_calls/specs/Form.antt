-- Forms of text: what stands at the front of a text, its value, and the rest.
use Rattle.std.specs.Prelude.{◌≡◌, ℕ, zero, suc, Bool, false, List, [], ◌∷◌, ◌++◌, length, take, drop, Option, Some, None, nat_eq, MatchBool, if◌then◌else◌}
use Rattle.std.specs.Option.{option_and_then, option_map}
use Rattle.std.specs.List.{starts_with, prefix_len, AllPass}

-- The relation of a text to a value and the rest says what the form is; `read` finds them.
pub record Form (A : Type 0) : Type 1 where
  pub Is : List ℕ → A → List ℕ → Type 0
  pub read : List ℕ → Option (A × List ℕ)

-- one form, and then another that may depend on the first one's value
infixl 10 ◌>>=◌
abbrev pub ◌>>=◌ : {A B : Type 0} → Form A → (A → Form B) → Form B
f >>= k = record {
  Is = λ text v rest. (x : _) × (mid : List ℕ) × f.Is text x mid × (k x).Is mid v rest;
  read = λ text. option_and_then (λ x. (k x.0).read x.1) (f.read text);
}

-- nothing is taken, and the value is given
abbrev pub yield : {A : Type 0} → A → Form A
yield x = record {
  Is = λ text v rest. (v ≡ x) × (rest ≡ text);
  read = λ text. Some (x, text);
}

-- nothing is taken, and the value is one that may be missing
abbrev pub chosen : {A : Type 0} → Option A → Form A
chosen o = record {
  Is = λ text v rest. (o ≡ Some v) × (rest ≡ text);
  read = λ text. option_map (λ v. (v, text)) o;
}

-- one of two forms, by a test of what comes
abbrev pub by_next : {A : Type 0} → (List ℕ → Bool) → Form A → Form A → Form A
by_next test f g = record {
  Is = λ text v rest. MatchBool (test text) (f.Is text v rest) (g.Is text v rest);
  read = λ text. if test text then f.read text else g.read text;
}

-- no text has this form
abbrev pub nothing : {A : Type 0} → Form A
nothing = record {
  Is = λ text v rest. ⊥;
  read = λ text. None;
}

-- the text begins with these bytes
abbrev pub begins : List ℕ → List ℕ → Bool
begins bytes text = starts_with nat_eq text bytes

-- these very bytes
unfoldable pub literal : List ℕ → Form (Unit {0})
literal bytes = record {
  Is = λ text v rest. text ≡ bytes ++ rest;
  read = λ text. if begins bytes text then Some (tt, drop (length bytes) text) else None;
}

-- the text doesn't begin with a byte that passes
abbrev pub Stops : (ℕ → Bool) → List ℕ → Type 0
Stops test [] = Unit {0}
Stops test (byte ∷ text) = test byte ≡ false

-- the longest run of bytes that pass
unfoldable pub run : (ℕ → Bool) → Form (List ℕ)
run test = record {
  Is = λ text v rest. (text ≡ v ++ rest) × AllPass test v × Stops test rest;
  read = λ text. Some (take (prefix_len test text) text, drop (prefix_len test text) text);
}

-- another item, or the end
pub data Next (X Y : Type 0) : Type 0 where
  more : X → Next X Y
  stop : Y → Next X Y

abbrev pub after_next : {X Y B : Type 0} → Next X Y → (X → Form B) → (Y → Form B) → Form B
after_next (more x) go end = go x
after_next (stop y) go end = end y

-- items up to the end, in at most so many steps; what an item means may depend on those before it
unfoldable pub repeat : {S X Y : Type 0} → (S → Form (Next X Y)) → (S → X → S) → ℕ → S → Form (S × Y)
repeat item add zero state = nothing
repeat item add (suc steps) state = item state >>= λ next. after_next next (λ x. repeat item add steps (add state x)) (λ y. yield (state, y))

-- a form that depends on the length of the text
abbrev pub by_length : {A : Type 0} → (ℕ → Form A) → Form A
by_length form = record {
  Is = λ text v rest. (form (length text)).Is text v rest;
  read = λ text. (form (length text)).read text;
}

-- nothing comes
abbrev pub ends : List ℕ → Bool
ends text = nat_eq (length text) 0

-- what is read of a whole text
abbrev pub if_ended : {A : Type 0} → A × List ℕ → Option A
if_ended found = if ends found.1 then Some found.0 else None

abbrev pub whole : {A : Type 0} → Form A → List ℕ → Option A
whole form text = option_and_then if_ended (form.read text)
