-- What a reading that comes to something went through.
use Rattle.std.proofs.Common.{◌≡◌, ℕ, zero, suc, ◌+◌, Bool, true, false, List, [], ◌∷◌, ◌++◌, length, Option, Some, None, Result, Ok, Err, refl, sym, ◌∙◌, ap, subst, append_assoc, append-nil}
use Rattle.std.specs.Prelude.{slice_get}
use Rattle.ir_types.specs.declared.fault.Fault.{Fault}
use Rattle.ir_types.specs.Walk.{◌>>=◌, or_fault, walk}
use Rattle.ir_print_laws.specs.Instructions.{AreTrees}
use Rattle.ir_print_laws.specs.Written.{Each}

pub bind : {A B : Type 0} (r : Result A Fault) (k : A → Result B Fault) (v : B) → (r >>= k) ≡ Ok v → (x : A) × (r ≡ Ok x) × (k x ≡ Ok v)
bind (Ok x) k v e = (x, refl, e)
bind (Err d) k v e = absurd cc

pub same_ok : {A : Type 0} (x y : A) → ◌≡◌ {A = Result A Fault} (Ok x) (Ok y) → x ≡ y
same_ok x y e = cc

pub same_some : {A : Type 0} (x y : A) → ◌≡◌ {A = Option A} (Some x) (Some y) → x ≡ y
same_some x y e = cc

pub or_ok : {A : Type 0} (fault : Fault) (o : Option A) (x : A) → or_fault fault o ≡ Ok x → o ≡ Some x
or_ok fault None x e = absurd cc
or_ok fault (Some y) x e = ap (λ z. Some z) (same_ok y x e)

-- what follows from a value that is known
pub known : {A : Type 0} (P : A → Type 0) (x y : A) → ◌≡◌ {A = Result A Fault} (Ok x) (Ok y) → P x → P y
known P x y e p = subst P (same_ok x y e) p

pub first_walk : {S T : Type 0} (step : S → T → Result S Fault) (before last : S) (x : T) (xs : List T) → walk step before (x ∷ xs) ≡ Ok last → (next : S) × (step before x ≡ Ok next) × (walk step next xs ≡ Ok last)
unfolding walk
first_walk step before last x xs e = bind (step before x) (λ next. walk step next xs) last e

pub no_walk : {S T : Type 0} (step : S → T → Result S Fault) (before last : S) → walk step before [] ≡ Ok last → before ≡ last
unfolding walk
no_walk step before last e = same_ok before last e

-- what each step keeps
pub walk_keeps : {S T : Type 0} (step : S → T → Result S Fault) (Inv : S → Type 0) (Has : T → Type 0) → ((s : S) (t : T) (after : S) → Inv s → Has t → step s t ≡ Ok after → Inv after)
    → (ts : List T) (s after : S) → Each Has ts → Inv s → walk step s ts ≡ Ok after → Inv after
walk_keeps step Inv Has one [] s after has inv e = subst Inv (no_walk step s after e) inv
walk_keeps step Inv Has one (t ∷ ts) s after has inv e =
    let f = first_walk step s after t ts e in
    walk_keeps step Inv Has one ts f.0 after has.1 (one s t f.0 inv has.0 f.1) f.2

abbrev pub Any : {X : Type 0} → X → Type 0
Any x = Unit {0}

pub each_any : {X : Type 0} (xs : List X) → Each Any xs
each_any [] = tt
each_any (x ∷ xs) = (tt, each_any xs)

-- each step makes one item
module _ {S T X : Type 0} (step : S → T → Result S Fault) (state : List X → S) (Made : X → T → Type 0)
    (one : (before : List X) (t : T) (after : S) → step (state before) t ≡ Ok after → (x : X) × (after ≡ state (before ++ x ∷ [])) × Made x t) where
  pub made : (ts : List T) (before : List X) (after : S) → walk step (state before) ts ≡ Ok after → (xs : List X) × (after ≡ state (before ++ xs)) × AreTrees Made xs ts
  made [] before after e = ([], sym (no_walk step (state before) after e) ∙ ap state (sym (append-nil before)), tt)
  made (t ∷ ts) before after e =
      let f = first_walk step (state before) after t ts e in
      let x = one before t f.0 f.1 in
      let rest = made ts (before ++ x.0 ∷ []) after (subst (λ (s : S). walk step s ts ≡ Ok after) x.1 f.2) in
      (x.0 ∷ rest.0, rest.1 ∙ ap state (append_assoc before (x.0 ∷ []) rest.0), (x.2, rest.2))

pub each_made : {T X : Type 0} (Made : X → T → Type 0) (Is : X → Type 0) (Has : T → Type 0) → ((x : X) (t : T) → Has t → Made x t → Is x) → (xs : List X) (ts : List T) → Each Has ts → AreTrees Made xs ts → Each Is xs
each_made Made Is Has f [] [] has made = tt
each_made Made Is Has f [] (t ∷ ts) has made = absurd made
each_made Made Is Has f (x ∷ xs) [] has made = absurd made
each_made Made Is Has f (x ∷ xs) (t ∷ ts) has made = (f x t has.0 made.0, each_made Made Is Has f xs ts has.1 made.1)

pub made_length : {T X : Type 0} (Made : X → T → Type 0) (xs : List X) (ts : List T) → AreTrees Made xs ts → length ts ≡ length xs
made_length Made [] [] made = refl
made_length Made [] (t ∷ ts) made = absurd made
made_length Made (x ∷ xs) [] made = absurd made
made_length Made (x ∷ xs) (t ∷ ts) made = ap suc (made_length Made xs ts made.1)

pub each_get : {X : Type 0} (Is : X → Type 0) (xs : List X) (k : ℕ) (x : X) → Each Is xs → slice_get xs k ≡ Some x → Is x
each_get Is [] k x all e = absurd cc
each_get Is (y ∷ xs) zero x all e = subst Is (same_some y x e) all.0
each_get Is (y ∷ xs) (suc k) x all e = each_get Is xs k x all.1 e
