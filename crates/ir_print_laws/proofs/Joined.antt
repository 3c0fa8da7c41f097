-- Lists one behind the other.
use Rattle.std.proofs.Common.{◌≡◌, List, ◌++◌, ◌∙◌, append_assoc}

infixr 60 ◌▸◌
abbrev pub ◌▸◌ : {X : Type 0} → List X → List X → List X
xs ▸ ys = xs ++ ys

pub nest3 : {X : Type 0} (a b c r : List X) → ((a ++ b) ++ c) ++ r ≡ a ▸ b ▸ c ▸ r
nest3 a b c r = append_assoc (a ++ b) c r ∙ append_assoc a b (c ++ r)

pub nest4 : {X : Type 0} (a b c d r : List X) → (((a ++ b) ++ c) ++ d) ++ r ≡ a ▸ b ▸ c ▸ d ▸ r
nest4 a b c d r = append_assoc ((a ++ b) ++ c) d r ∙ nest3 a b c (d ++ r)

pub nest5 : {X : Type 0} (a b c d e r : List X) → ((((a ++ b) ++ c) ++ d) ++ e) ++ r ≡ a ▸ b ▸ c ▸ d ▸ e ▸ r
nest5 a b c d e r = append_assoc (((a ++ b) ++ c) ++ d) e r ∙ nest4 a b c d (e ++ r)

pub nest6 : {X : Type 0} (a b c d e f r : List X) → (((((a ++ b) ++ c) ++ d) ++ e) ++ f) ++ r ≡ a ▸ b ▸ c ▸ d ▸ e ▸ f ▸ r
nest6 a b c d e f r = append_assoc ((((a ++ b) ++ c) ++ d) ++ e) f r ∙ nest5 a b c d e (f ++ r)
