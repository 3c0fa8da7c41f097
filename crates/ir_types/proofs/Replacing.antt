-- Names that are replaced by definitions: deeper replacing finds the same, and one more part goes behind.
use Rattle.std.proofs.Common.{◌≡◌, ℕ, zero, suc, ◌+◌, ◌≤◌, max, List, [], ◌∷◌, ◌++◌, refl, sym, ◌∙◌, ap, subst, arith, Option, Some, None, Result, Ok}
use Rattle.std.specs.Prelude.{slice_get}
use Rattle.std.proofs.lemmas.Option.{none-some, same_Some}
use Rattle.std.proofs.lemmas.List.{append_assoc, append-nil}
use Rattle.ir_flow.specs.First.{or_then}
use Rattle.ir_flow.specs.Limits.{capped}
use Rattle.ir_flow.proofs.Stops.{or_assoc, or_none}
use Rattle.ir_types.specs.declared.fault.Fault.{Fault}
use Rattle.ir_types.specs.declared.fault.Fault.TheVariants as faults
use Rattle.ir_types.specs.Walk.{◌>>=◌}
use Rattle.ir_types.specs.declared.parts.Part.{Part}
use Rattle.ir_types.specs.declared.parts.Part.TheVariants as parts
use Rattle.ir_types.specs.declared.summary.Summary.{Summary}
use Rattle.ir_types.specs.declared.summary.Entry.{Entry}
use Rattle.ir_types.specs.declared.summary.Entry.TheVariants as entries
use Rattle.ir_types.specs.Replaced.{Definitions, definition, both, joined, one_with, over, expansion, replaced, nodes_of, node_count, odd_of, first_odd}
use Rattle.ir_types.specs.Summaries.{known_of, with_named, with_part, summary_step, IsSummary, IsKnown}
use Rattle.ir_types.proofs.TypeLists.{same_Ok, err-ok}

pub both_inv : (a b : Option (List Part)) (flat : List Part) → both a b ≡ Some flat → (x : List Part) × (y : List Part) × (a ≡ Some x) × (b ≡ Some y) × (flat ≡ x ++ y)
both_inv None b flat e = absurd (none-some flat e)
both_inv (Some x) None flat e = absurd (none-some flat e)
both_inv (Some x) (Some y) flat e = (x, y, refl, refl, sym (same_Some (x ++ y) flat e))

joined_more : (f g : Part → Option (List Part)) → ((p : Part) (x : List Part) → f p ≡ Some x → g p ≡ Some x) → (ps flat : List Part) → joined f ps ≡ Some flat → joined g ps ≡ Some flat
unfolding joined
joined_more f g h [] flat e = e
joined_more f g h (p ∷ ps) flat e =
    let i = both_inv (f p) (joined f ps) flat e in
    rw (h p i.0 i.2, joined_more f g h ps i.1 i.3) (ap Some (sym i.4))

one_more : (f g : ℕ → Option (List Part)) → ((n : ℕ) (x : List Part) → f n ≡ Some x → g n ≡ Some x) → (p : Part) (x : List Part) → one_with f p ≡ Some x → one_with g p ≡ Some x
one_more f g h (parts.Named n left) x e = h n x e
one_more f g h (parts.Int w left) x e = e
one_more f g h parts.Ptr x e = e
one_more f g h (parts.Array count) x e = e
one_more f g h parts.Struct x e = e
one_more f g h parts.Packed x e = e
one_more f g h parts.Close x e = e

over_more : (f g : List Part → Option (List Part)) → ((b x : List Part) → f b ≡ Some x → g b ≡ Some x) → (o : Option (List Part)) (x : List Part) → over f o ≡ Some x → over g o ≡ Some x
over_more f g h None x e = e
over_more f g h (Some b) x e = h b x e

pub deeper : (bodies : Definitions) (d e : ℕ) (n : ℕ) (flat : List Part) → d ≤ e → expansion d bodies n ≡ Some flat → expansion e bodies n ≡ Some flat
unfolding expansion
deeper bodies zero e n flat le h = absurd (none-some flat h)
deeper bodies (suc d) zero n flat le h = absurd (omega arith)
deeper bodies (suc d) (suc e) n flat le h =
    over_more _ _ (λ b x. joined_more (one_with (expansion d bodies)) (one_with (expansion e bodies)) (one_more (expansion d bodies) (expansion e bodies) (λ m y. deeper bodies d e m y (omega arith))) b x) (definition bodies n) flat h

pub replaced_deeper : (bodies : Definitions) (d e : ℕ) (ps flat : List Part) → d ≤ e → replaced d bodies ps ≡ Some flat → replaced e bodies ps ≡ Some flat
replaced_deeper bodies d e ps flat le h =
    joined_more (one_with (expansion d bodies)) (one_with (expansion e bodies)) (one_more (expansion d bodies) (expansion e bodies) (λ m y. deeper bodies d e m y le)) ps flat h

joined_last : (f : Part → Option (List Part)) (ps : List Part) (p : Part) (a b : List Part) → joined f ps ≡ Some a → f p ≡ Some b → joined f (ps ++ p ∷ []) ≡ Some (a ++ b)
unfolding joined
joined_last f [] p a b e h = rw h (ap Some (append-nil b ∙ ap (λ z. z ++ b) (same_Some [] a e)))
joined_last f (q ∷ qs) p a b e h =
    let i = both_inv (f q) (joined f qs) a e in
    rw (i.2, joined_last f qs p i.1 b i.3 h) (ap Some (sym (append_assoc i.0 i.1 b) ∙ ap (λ z. z ++ b) (sym i.4)))

pub nothing_replaced : (d : ℕ) (bodies : Definitions) → replaced d bodies [] ≡ Some []
unfolding joined
nothing_replaced d bodies = refl

-- a name alone is its definition
pub name_alone : (d : ℕ) (bodies : Definitions) (n left : ℕ) (flat : List Part) → replaced d bodies (parts.Named n left ∷ []) ≡ Some flat → expansion d bodies n ≡ Some flat
unfolding joined
name_alone d bodies n left flat e =
    let i = both_inv (expansion d bodies n) (Some []) flat e in
    i.2 ∙ ap Some (sym (append-nil i.0) ∙ ap (λ z. i.0 ++ z) (same_Some [] i.1 i.3) ∙ sym i.4)

pub expanded : (d : ℕ) (bodies : Definitions) (n : ℕ) (body flat : List Part) → definition bodies n ≡ Some body → replaced d bodies body ≡ Some flat → expansion (suc d) bodies n ≡ Some flat
unfolding expansion
expanded d bodies n body flat is e = ap (over (joined (one_with (expansion d bodies)))) is ∙ e

count_append : (a b : List Part) → node_count (a ++ b) ≡ node_count a + node_count b
unfolding node_count
count_append [] b = omega arith
count_append (p ∷ ps) b = let h = count_append ps b in omega (arith, h)

odd_append : (a b : List Part) → first_odd (a ++ b) ≡ or_then (first_odd a) (first_odd b)
unfolding first_odd
odd_append [] b = refl
odd_append (p ∷ ps) b = ap (or_then (odd_of p)) (odd_append ps b) ∙ sym (or_assoc (odd_of p) (first_odd ps) (first_odd b))

pub capped_twice : (x y m n : ℕ) → m ≡ capped x → n ≡ capped y → capped (m + n) ≡ capped (x + y)
capped_twice x y m n e f = omega arith

pub one_counts : (p : Part) → node_count (p ∷ []) ≡ nodes_of p
unfolding node_count
one_counts p = omega arith

pub one_odd : (p : Part) → first_odd (p ∷ []) ≡ odd_of p
unfolding first_odd
one_odd p = or_none (odd_of p)

counts_on : (a b : List Part) (m n : ℕ) → m ≡ capped (node_count a) → n ≡ capped (node_count b) → capped (m + n) ≡ capped (node_count (a ++ b))
counts_on a b m n e f = capped_twice (node_count a) (node_count b) m n e f ∙ ap capped (sym (count_append a b))

odds_on : (a b : List Part) (m n : Option ℕ) → m ≡ first_odd a → n ≡ first_odd b → or_then m n ≡ first_odd (a ++ b)
odds_on a b m n e f = rw (e, f) (sym (odd_append a b))

-- one node or none
small_count : (p : Part) → nodes_of p ≡ capped (nodes_of p)
small_count (parts.Named n left) = refl
small_count (parts.Int w left) = refl
small_count parts.Ptr = refl
small_count (parts.Array count) = refl
small_count parts.Struct = refl
small_count parts.Packed = refl
small_count parts.Close = refl

left_most : (a b : ℕ) → a ≤ max a b
left_most a b = omega arith

right_most : (a b : ℕ) → b ≤ max a b
right_most a b = omega arith

module _ (bodies : Definitions) (known : List Entry)
    (right : (n : ℕ) (summary : Summary) (root : ℕ) → slice_get known n ≡ Some (entries.Known summary root) → IsKnown bodies n summary root) where
  plain_on : (ps : List Part) (p : Part) (before : Summary) → ((f : ℕ → Option (List Part)) → one_with f p ≡ Some (p ∷ [])) → IsSummary bodies ps before → IsSummary bodies (ps ++ p ∷ []) (with_part before p)
  plain_on ps p before plain is = (
    is.0 ++ p ∷ [],
    joined_last (one_with (expansion before.rank bodies)) ps p is.0 (p ∷ []) is.1 (plain (expansion before.rank bodies)),
    (
      counts_on is.0 (p ∷ []) before.nodes (nodes_of p) is.2.0 (small_count p ∙ ap capped (sym (one_counts p))),
      odds_on is.0 (p ∷ []) before.odd (odd_of p) is.2.1 (sym (one_odd p)),
    ),
  )

  named_on : (ps : List Part) (n left : ℕ) (before named : Summary) (root : ℕ) → slice_get known n ≡ Some (entries.Known named root) → IsSummary bodies ps before → IsSummary bodies (ps ++ parts.Named n left ∷ []) (with_named before named)
  named_on ps n left before named root here is =
      let k = right n named root here in
      let most : ℕ = max before.rank named.rank in (
        is.0 ++ k.0,
        joined_last (one_with (expansion most bodies)) ps (parts.Named n left) is.0 k.0
            (replaced_deeper bodies before.rank most ps is.0 (left_most before.rank named.rank) is.1)
            (deeper bodies named.rank most n k.0 (right_most before.rank named.rank) k.1),
        (counts_on is.0 k.0 before.nodes named.nodes is.2.0 k.3.0, odds_on is.0 k.0 before.odd named.odd is.2.1 k.3.1),
      )

  by_entry : (ps : List Part) (n left : ℕ) (before after : Summary) (entry : Option Entry) → slice_get known n ≡ entry
      → (known_of left entry >>= λ named. Ok (with_named before named.0)) ≡ Ok after → IsSummary bodies ps before → IsSummary bodies (ps ++ parts.Named n left ∷ []) after
  by_entry ps n left before after None here e is = absurd (err-ok (faults.Name left) after e)
  by_entry ps n left before after (Some entries.Fresh) here e is = absurd (err-ok (faults.Name left) after e)
  by_entry ps n left before after (Some entries.Open) here e is = absurd (err-ok (faults.Name left) after e)
  by_entry ps n left before after (Some (entries.Known named root)) here e is =
      subst (λ s. IsSummary bodies (ps ++ parts.Named n left ∷ []) s) (same_Ok (with_named before named) after e) (named_on ps n left before named root here is)

  by_part : (ps : List Part) (p : Part) (before after : Summary) → ((f : ℕ → Option (List Part)) → one_with f p ≡ Some (p ∷ [])) → ◌≡◌ {A = Result Summary Fault} (Ok (with_part before p)) (Ok after) → IsSummary bodies ps before → IsSummary bodies (ps ++ p ∷ []) after
  by_part ps p before after plain e is = subst (λ s. IsSummary bodies (ps ++ p ∷ []) s) (same_Ok (with_part before p) after e) (plain_on ps p before plain is)

  -- one more part
  pub summary_on : (ps : List Part) (p : Part) (before after : Summary) → summary_step known before p ≡ Ok after → IsSummary bodies ps before → IsSummary bodies (ps ++ p ∷ []) after
  unfolding summary_step
  summary_on ps (parts.Named n left) before after e is = by_entry ps n left before after (slice_get known n) refl e is
  summary_on ps (parts.Int w left) before after e is = by_part ps (parts.Int w left) before after (λ f. refl) e is
  summary_on ps parts.Ptr before after e is = by_part ps parts.Ptr before after (λ f. refl) e is
  summary_on ps (parts.Array count) before after e is = by_part ps (parts.Array count) before after (λ f. refl) e is
  summary_on ps parts.Struct before after e is = by_part ps parts.Struct before after (λ f. refl) e is
  summary_on ps parts.Packed before after e is = by_part ps parts.Packed before after (λ f. refl) e is
  summary_on ps parts.Close before after e is = by_part ps parts.Close before after (λ f. refl) e is
