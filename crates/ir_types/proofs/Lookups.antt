-- What is found by the bytes of keys.
use Rattle.std.proofs.Common.{◌≡◌, ℕ, Bool, true, false, List, [], ◌∷◌, ◌++◌, map, Option, Some, None, is_some, if◌then◌else◌, refl, sym, ◌∙◌, true≢false, ap, cond}
use Rattle.ir_types.specs.declared.tables.Target.{Target}
use Rattle.ir_types.specs.Tables.{target_named, put_named}
use Rattle.std.specs.Map.{lookup}
use Rattle.indexmap.specs.IndexMap.{IndexMap, get, insert_entry}
use Rattle.indexmap.proofs.CallerLemmas.{insert_entry-new}

pub lookup_by : {K A V : Type 0} (f : K → A) (test : A → Bool) (es : List (K × V)) → lookup test (map (λ e. (f e.0, e.1)) es) ≡ lookup (λ k. test (f k)) es
lookup_by f test [] = refl
lookup_by f test (e ∷ es) = ap (cond (test (f e.0)) (Some e.1)) (lookup_by f test es)

-- an entry that is new goes last
pub new_last : {K X S : Type 0} (eq : K → K → Bool) (m : IndexMap K X S) (k : K) (v : X) → get eq m k ≡ None → insert_entry eq m.entries k v ≡ m.entries ++ (k, v) ∷ []
new_last eq m k v none = insert_entry-new eq m k v none

pub map_last : {A B : Type 0} (f : A → B) (xs : List A) (x : A) → map f (xs ++ x ∷ []) ≡ map f xs ++ f x ∷ []
map_last f [] x = refl
map_last f (y ∷ ys) x = ap (λ zs. f y ∷ zs) (map_last f ys x)

-- a name that isn't found is put last
pub put_new : (name : List ℕ) (target : Target) (all new : List (List ℕ × Target)) (found : Option Target) (is : Bool) → found ≡ target_named name all → is ≡ is_some found → is ≡ false → new ≡ all ++ (name, target) ∷ [] → ◌≡◌ {A = Bool × List (List ℕ × Target)} (true, new) (put_named name target all)
put_new name target all new found is here tells isnt made = rw made (by (is_some (target_named name all)) (sym isnt ∙ tells ∙ ap is_some here))
  where
    by : (b : Bool) → false ≡ b → ◌≡◌ {A = Bool × List (List ℕ × Target)} (true, all ++ (name, target) ∷ []) (if b then (false, all) else (true, all ++ (name, target) ∷ []))
    by false e = refl
    by true e = absurd (true≢false (sym e))

pub is_none : (name : List ℕ) (all : List (List ℕ × Target)) (found : Option Target) (is : Bool) → found ≡ target_named name all → is ≡ is_some found → is ≡ false → target_named name all ≡ None
is_none name all found is here tells isnt = by (target_named name all) (sym isnt ∙ tells ∙ ap is_some here)
  where
    by : (r : Option Target) → false ≡ is_some r → r ≡ None
    by None e = refl
    by (Some x) e = absurd (true≢false (sym e))
