-- A loop over a list: what its invariant says at each turn and exit.
use Rattle.std.proofs.Common.{get_or, ◌≡◌, ℕ, suc, ◌+◌, ◌<◌, ◌≤◌, List, [], ◌∷◌, ◌++◌, length, drop, reverse, slice_get, Result, Ok, Err, Some, refl, sym, ◌∙◌, arith, ap}
use Rattle.ir_types.specs.declared.fault.Fault.{Fault}
use Rattle.ir_types.specs.declared.fault.Fault.TheVariants as faults
use Rattle.std.proofs.lemmas.List.{drop_more, drop_all}
use Rattle.ir_types.specs.Walk.{◌>>=◌, Fails, walk}

pub fails-then : {A B : Type 0} (f : A → Result B Fault) (e : Fault) (part : Result A Fault) (whole : Result B Fault) → Fails e part → whole ≡ (part >>= f) → Fails e whole
fails-then f faults.NoMemory part whole h e = tt
fails-then f (faults.Syntax left) part whole h e = rw h at e
fails-then f (faults.LeftOut left) part whole h e = rw h at e
fails-then f (faults.Name left) part whole h e = rw h at e
fails-then f (faults.Limit what count) part whole h e = rw h at e

module _ {S T : Type 0} (step : S → T → Result S Fault) where
  one_more : (s : S) (xs : List T) (i : ℕ) (x : T) (total : Result S Fault) → i < length xs → x ≡ get_or xs i x → walk step s (drop i xs) ≡ total → total ≡ (step s x >>= λ t. walk step t (drop (i + 1) xs))
  unfolding walk
  one_more s xs i x total lt is e = sym e ∙ ap (walk step s) (drop_more xs i x lt ∙ ap (λ y. y ∷ drop (i + 1) xs) (sym is))

  pub goes : (s next : S) (xs : List T) (i : ℕ) (x : T) (total : Result S Fault) → i < length xs → x ≡ get_or xs i x → walk step s (drop i xs) ≡ total → step s x ≡ Ok next → walk step next (drop (i + 1) xs) ≡ total
  goes s next xs i x total lt is e made = sym (rw made at (one_more s xs i x total lt is e))

  pub refused : (s : S) (xs : List T) (i : ℕ) (x : T) (total : Result S Fault) (error : Fault) → i < length xs → x ≡ get_or xs i x → walk step s (drop i xs) ≡ total → Fails error (step s x) → Fails error total
  refused s xs i x total error lt is e h = fails-then _ error _ _ h (one_more s xs i x total lt is e)

  pub ended : (s : S) (xs : List T) (i : ℕ) (total : Result S Fault) → length xs ≤ i → walk step s (drop i xs) ≡ total → total ≡ Ok s
  unfolding walk
  ended s xs i total le e = sym e ∙ ap (walk step s) (drop_all i xs le)
