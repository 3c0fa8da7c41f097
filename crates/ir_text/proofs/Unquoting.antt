-- Quoted text, a byte at a time.
use Rattle.std.proofs.Common.{◌≡◌, ◌≤◌, ℕ, List, [], ◌∷◌, ◌++◌, Option, Some, None, length, drop, refl, sym, ap, ◌∙◌}
use Rattle.std.proofs.lemmas.List.{append_assoc, append-nil, at_drop_all}
use Rattle.ir_text.specs.declared.quoted.Escape.{Escape}
use Rattle.ir_text.specs.declared.quoted.Escape.TheVariants.{Closed, Opened, Half}
use Rattle.ir_text.specs.Quoted.{before, onto, unquoted_behind}

pub onto_before : (bytes : List ℕ) (byte : ℕ) (more : Option (List ℕ)) → onto bytes (before (Some byte) more) ≡ onto (bytes ++ byte ∷ []) more
onto_before bytes byte None = refl
onto_before bytes byte (Some more) = ap (λ (t : List ℕ). Some t) (sym (append_assoc bytes (byte ∷ []) more))

pub onto_none : (bytes : List ℕ) (more : Option (List ℕ)) → onto bytes (before None more) ≡ None
onto_none bytes more = refl

pub ends_closed : (bytes text : List ℕ) (i : ℕ) (total : Option (List ℕ)) → length text ≤ i → onto bytes (unquoted_behind Closed (drop i text)) ≡ total → Some bytes ≡ total
unfolding unquoted_behind
ends_closed bytes text i total le so_far =
    let one : onto bytes (unquoted_behind Closed (drop i text)) ≡ Some (bytes ++ []) = at_drop_all (λ (t : List ℕ). onto bytes (unquoted_behind Closed t)) text i le in
    ap (λ (t : List ℕ). Some t) (sym (append-nil bytes)) ∙ sym one ∙ so_far

none_left : (escape : Escape) (bytes : List ℕ) → (escape ≡ Closed → ⊥) → onto bytes (unquoted_behind escape []) ≡ None
unfolding unquoted_behind
none_left Closed bytes open_still = absurd (open_still refl)
none_left Opened bytes open_still = refl
none_left (Half high) bytes open_still = refl

pub ends_open : (escape : Escape) (bytes text : List ℕ) (i : ℕ) (total : Option (List ℕ)) → length text ≤ i → (escape ≡ Closed → ⊥) → onto bytes (unquoted_behind escape (drop i text)) ≡ total → None ≡ total
ends_open escape bytes text i total le open_still so_far =
    sym (none_left escape bytes open_still) ∙ sym (at_drop_all (λ (t : List ℕ). onto bytes (unquoted_behind escape t)) text i le) ∙ so_far
