-- What a call answers.
use Rattle.std.specs.Prelude.{Result, Ok, Err, IfOk}

pub answered : {A E : Type 0} (P Q : A → Type 0) → ((a : A) → P a → Q a) → (r : Result A E) → IfOk r P → IfOk r Q
answered P Q f (Ok a) h = f a h
answered P Q f (Err e) h = tt
