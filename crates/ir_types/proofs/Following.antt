-- What is known of types follows from their definitions in one way alone.
use Rattle.std.proofs.Common.{◌≡◌, ℕ, zero, suc, ◌+◌, ◌≤◌, max, Bool, true, false, nat_eq, List, [], ◌∷◌, ◌++◌, length, refl, sym, ◌∙◌, ap, subst, arith, Option, Some, None, Result, Ok, Err, if◌then◌else◌}
use Rattle.std.specs.Prelude.{slice_get}
use Rattle.std.proofs.lemmas.Bool.Decides.{nat_tests}
use Rattle.std.proofs.lemmas.Option.{none-some, same_Some}
use Rattle.ir_types.specs.declared.fault.Fault.{Fault}
use Rattle.ir_types.specs.declared.fault.Fault.TheVariants as faults
use Rattle.ir_types.specs.Walk.{◌>>=◌, walk}
use Rattle.ir_types.specs.declared.parts.Part.{Part}
use Rattle.ir_types.specs.declared.parts.Part.TheVariants as parts
use Rattle.ir_types.specs.declared.summary.Summary.{Summary}
use Rattle.ir_types.specs.declared.summary.Entry.{Entry}
use Rattle.ir_types.specs.declared.summary.Entry.TheVariants as entries
use Rattle.ir_types.specs.Replaced.{Definitions, definition}
use Rattle.ir_types.specs.Summaries.{known_of, with_named, with_part, summary_step, summary_of, no_parts, root_in, root_at, root_of, Follows, AreResolved}
use Rattle.ir_types.proofs.TypeLists.{same_Ok, err-ok, one_item}

-- up to a rank, what is known stays known
abbrev pub Keeps : List Entry → List Entry → ℕ → Type 0
Keeps known after bound = (n : ℕ) (summary : Summary) (root : ℕ) → summary.rank ≤ bound → slice_get known n ≡ Some (entries.Known summary root) → slice_get after n ≡ Some (entries.Known summary root)

-- the entry of a name that a step goes over
abbrev Found : List Entry → ℕ → Summary → Summary → Type 0
Found known n before next = (named : Summary) × (root : ℕ) × (slice_get known n ≡ Some (entries.Known named root)) × (with_named before named ≡ next)

found_entry : (known : List Entry) (n left : ℕ) (before next : Summary) (entry : Option Entry) → slice_get known n ≡ entry → (known_of left entry >>= λ named. Ok (with_named before named.0)) ≡ Ok next → Found known n before next
found_entry known n left before next None here e = absurd (err-ok (faults.Name left) next e)
found_entry known n left before next (Some entries.Fresh) here e = absurd (err-ok (faults.Name left) next e)
found_entry known n left before next (Some entries.Open) here e = absurd (err-ok (faults.Name left) next e)
found_entry known n left before next (Some (entries.Known named root)) here e = (named, root, here, same_Ok (with_named before named) next e)

found : (known : List Entry) (n left : ℕ) (before next : Summary) → summary_step known before (parts.Named n left) ≡ Ok next → Found known n before next
unfolding summary_step
found known n left before next e = found_entry known n left before next (slice_get known n) refl e

found_ranks : (known : List Entry) (n : ℕ) (before next : Summary) (f : Found known n before next) → (before.rank ≤ next.rank) × (f.0.rank ≤ next.rank)
found_ranks known n before next f =
    let r : max before.rank f.0.rank ≡ next.rank = ap (λ s. s.rank) f.3 in (omega (arith, r), omega (arith, r))

plain_ranks : (before next : Summary) (p : Part) → ◌≡◌ {A = Result Summary Fault} (Ok (with_part before p)) (Ok next) → before.rank ≤ next.rank
plain_ranks before next p e = let r : before.rank ≡ next.rank = ap (λ s. s.rank) (same_Ok (with_part before p) next e) in omega (arith, r)

step_ranks : (known : List Entry) (before next : Summary) (p : Part) → summary_step known before p ≡ Ok next → before.rank ≤ next.rank
unfolding summary_step
step_ranks known before next (parts.Named n left) e = (found_ranks known n before next (found known n left before next e)).0
step_ranks known before next (parts.Int w left) e = plain_ranks before next (parts.Int w left) e
step_ranks known before next parts.Ptr e = plain_ranks before next parts.Ptr e
step_ranks known before next (parts.Array count) e = plain_ranks before next (parts.Array count) e
step_ranks known before next parts.Struct e = plain_ranks before next parts.Struct e
step_ranks known before next parts.Packed e = plain_ranks before next parts.Packed e
step_ranks known before next parts.Close e = plain_ranks before next parts.Close e

-- a walk that comes to something goes by its first step
first_step : {S T : Type 0} (step : S → T → Result S Fault) (before last : S) (x : T) (xs : List T) → walk step before (x ∷ xs) ≡ Ok last → (next : S) × (step before x ≡ Ok next) × (walk step next xs ≡ Ok last)
unfolding walk
first_step {S = S} step before last x xs e = by (step before x) refl e
  where
    by : (r : Result S Fault) → step before x ≡ r → (r >>= λ next. walk step next xs) ≡ Ok last → (next : S) × (step before x ≡ Ok next) × (walk step next xs ≡ Ok last)
    by (Ok next) is e = (next, is, e)
    by (Err d) is e = absurd (err-ok d last e)

then_walks : {S T : Type 0} (step : S → T → Result S Fault) (before next last : S) (x : T) (xs : List T) → step before x ≡ Ok next → walk step next xs ≡ Ok last → walk step before (x ∷ xs) ≡ Ok last
unfolding walk
then_walks step before next last x xs e more = ap (λ r. r >>= λ next. walk step next xs) e ∙ more

no_walk : {S T : Type 0} (step : S → T → Result S Fault) (before last : S) → walk step before [] ≡ Ok last → before ≡ last
unfolding walk
no_walk step before last e = same_Ok before last e

stays : {S T : Type 0} (step : S → T → Result S Fault) (before : S) → walk step before [] ≡ Ok before
unfolding walk
stays step before = refl

-- one item more behind a walk
pub walk_last : {S T : Type 0} (step : S → T → Result S Fault) (before after last : S) (xs : List T) (x : T) → walk step before xs ≡ Ok after → step after x ≡ Ok last → walk step before (xs ++ x ∷ []) ≡ Ok last
walk_last step before after last [] x e is = then_walks step before last last x [] (ap (λ s. step s x) (no_walk step before after e) ∙ is) (stays step last)
walk_last step before after last (y ∷ ys) x e is =
    let f = first_step step before after y ys e in
    then_walks step before f.0 last y (ys ++ x ∷ []) f.1 (walk_last step f.0 after last ys x f.2 is)

walk_ranks : (known : List Entry) (ps : List Part) (before last : Summary) → walk (summary_step known) before ps ≡ Ok last → before.rank ≤ last.rank
walk_ranks known [] before last e = let r = ap (λ s. s.rank) (no_walk (summary_step known) before last e) in omega (arith, r)
walk_ranks known (p ∷ ps) before last e =
    let f = first_step (summary_step known) before last p ps e in
    let a = step_ranks known before f.0 p f.1 in
    let b = walk_ranks known ps f.0 last f.2 in
    omega (arith, a, b)

module _ (known after : List Entry) (bound : ℕ) (keeps : Keeps known after bound) where
  named_keeps : (n left : ℕ) (before next : Summary) → Found known n before next → next.rank ≤ bound → summary_step after before (parts.Named n left) ≡ Ok next
  unfolding summary_step
  named_keeps n left before next f le =
      let r = (found_ranks known n before next f).1 in
      let here = keeps n f.0 f.1 (omega (arith, r, le)) f.2 in
      subst (λ o. (known_of left o >>= λ named. Ok (with_named before named.0)) ≡ Ok next) (sym here) (ap (λ s. Ok s) f.3)

  step_keeps : (before next : Summary) (p : Part) → summary_step known before p ≡ Ok next → next.rank ≤ bound → summary_step after before p ≡ Ok next
  unfolding summary_step
  step_keeps before next (parts.Named n left) e le = named_keeps n left before next (found known n left before next e) le
  step_keeps before next (parts.Int w left) e le = e
  step_keeps before next parts.Ptr e le = e
  step_keeps before next (parts.Array count) e le = e
  step_keeps before next parts.Struct e le = e
  step_keeps before next parts.Packed e le = e
  step_keeps before next parts.Close e le = e

  walk_keeps : (ps : List Part) (before last : Summary) → walk (summary_step known) before ps ≡ Ok last → last.rank ≤ bound → walk (summary_step after) before ps ≡ Ok last
  walk_keeps [] before last e le = stays (summary_step after) before ∙ ap (λ s. Ok s) (no_walk (summary_step known) before last e)
  walk_keeps (p ∷ ps) before last e le =
      let f = first_step (summary_step known) before last p ps e in
      let r = walk_ranks known ps f.0 last f.2 in
      then_walks (summary_step after) before f.0 last p ps (step_keeps before f.0 p f.1 (omega (arith, r, le))) (walk_keeps ps f.0 last f.2 le)

  pub summary_keeps : (ps : List Part) (sum : Summary) → summary_of known ps ≡ Ok sum → sum.rank ≤ bound → summary_of after ps ≡ Ok sum
  unfolding summary_of
  summary_keeps ps sum e le = walk_keeps ps no_parts sum e le

  named_root : (own rank n left : ℕ) (sum : Summary) → summary_of known (parts.Named n left ∷ []) ≡ Ok sum → sum.rank ≤ bound → root_in own rank (slice_get known n) ≡ root_in own rank (slice_get after n)
  unfolding summary_of
  named_root own rank n left sum e le =
      let f = first_step (summary_step known) no_parts sum (parts.Named n left) [] e in
      let g = found known n left no_parts f.0 f.1 in
      let r = (found_ranks known n no_parts f.0 g).1 in
      let s = walk_ranks known [] f.0 sum f.2 in
      let here = keeps n g.0 g.1 (omega (arith, r, s, le)) g.2 in
      ap (root_in own rank) (g.2 ∙ sym here)

  pub root_keeps : (own rank : ℕ) (body : List Part) (sum : Summary) → summary_of known body ≡ Ok sum → sum.rank ≤ bound → root_of known own rank body ≡ root_of after own rank body
  root_keeps own rank body sum e le = by_length (nat_eq (length body) 1) refl
    where
      by_first : length body ≡ 1 → (first : Option Part) → slice_get body 0 ≡ first → root_at known own rank first ≡ root_at after own rank first
      by_first one None here = refl
      by_first one (Some (parts.Named n left)) here = named_root own rank n left sum (subst (λ ps. summary_of known ps ≡ Ok sum) (one_item body (parts.Named n left) one here) e) le
      by_first one (Some (parts.Int w left)) here = refl
      by_first one (Some parts.Ptr) here = refl
      by_first one (Some (parts.Array count)) here = refl
      by_first one (Some parts.Struct) here = refl
      by_first one (Some parts.Packed) here = refl
      by_first one (Some parts.Close) here = refl

      by_length : (b : Bool) → nat_eq (length body) 1 ≡ b → (if b then root_at known own rank (slice_get body 0) else own) ≡ (if b then root_at after own rank (slice_get body 0) else own)
      by_length false h = refl
      by_length true h = let one : length body ≡ 1 = grind (arith, nat_tests) in by_first one (slice_get body 0) refl

-- where all that is known stays known, what follows from it follows then
pub follows_keeps : (bodies : Definitions) (known after : List Entry) → ((bound : ℕ) → Keeps known after bound) → (n : ℕ) (summary : Summary) (root : ℕ) → Follows bodies known n summary root → Follows bodies after n summary root
follows_keeps bodies known after keeps n summary root f =
    let sum = f.1 in
    let le : sum.rank ≤ sum.rank = omega arith in (
      f.0,
      sum,
      f.2,
      summary_keeps known after sum.rank (keeps sum.rank) f.0 sum f.3 le,
      f.4,
      f.5 ∙ root_keeps known after sum.rank (keeps sum.rank) n sum.rank f.0 sum f.3 le,
    )

-- the summary of a type by that of its definition
abbrev pub closing : Summary → Summary
closing sum = record { nodes = sum.nodes; odd = sum.odd; rank = sum.rank + 1 }

-- ---- nothing else follows

module _ (bodies : Definitions) (a b : List Entry) (is_a : AreResolved bodies a) (is_b : AreResolved bodies b) where
  same_known : (bound : ℕ) → Keeps a b bound
  same_known zero n summary root le e =
      let f = is_a.follows n summary root e in
      let r : summary.rank ≡ f.1.rank + 1 = ap (λ s. s.rank) f.4 in
      absurd (omega (arith, r, le))
  same_known (suc bound) n summary root le e =
      let f = is_a.follows n summary root e in
      let w = is_b.whole n f.0 f.2 in
      let g = is_b.follows n w.0 w.1 w.2 in
      let r : summary.rank ≡ f.1.rank + 1 = ap (λ s. s.rank) f.4 in
      let less : f.1.rank ≤ bound = omega (arith, r, le) in
      let body : g.0 ≡ f.0 = same_Some g.0 f.0 (sym g.2 ∙ f.2) in
      let mine : summary_of b f.0 ≡ Ok f.1 = summary_keeps a b bound (same_known bound) f.0 f.1 f.3 less in
      let sums : g.1 ≡ f.1 = same_Ok g.1 f.1 (sym g.3 ∙ ap (summary_of b) body ∙ mine) in
      let summaries : w.0 ≡ summary = g.4 ∙ ap closing sums ∙ sym f.4 in
      let roots : w.1 ≡ root = g.5 ∙ ap (λ s. root_of b n s.rank g.0) sums ∙ ap (root_of b n f.1.rank) body ∙ sym (root_keeps a b bound (same_known bound) n f.1.rank f.0 f.1 f.3 less) ∙ sym f.5 in
      w.2 ∙ ap (λ s. Some (entries.Known s w.1)) summaries ∙ ap (λ k. Some (entries.Known summary k)) roots

  same_entry : (n : ℕ) (x y : Entry) → slice_get a n ≡ Some x → slice_get b n ≡ Some y → x ≡ y
  same_entry n x y here there = by (definition bodies n) refl
    where
      by : (o : Option (List Part)) → definition bodies n ≡ o → x ≡ y
      by None none = is_a.idle n x none here ∙ sym (is_b.idle n y none there)
      by (Some body) is =
          let w = is_a.whole n body is in
          let v = same_known w.0.rank n w.0 w.1 (omega arith) w.2 in
          same_Some x y (sym here ∙ w.2 ∙ sym v ∙ there)

  same_lists : {A : Type 0} (xs ys : List A) → length xs ≡ length ys → ((n : ℕ) (x y : A) → slice_get xs n ≡ Some x → slice_get ys n ≡ Some y → x ≡ y) → xs ≡ ys
  same_lists [] [] l same = refl
  same_lists [] (y ∷ ys) l same = absurd (omega (arith, l))
  same_lists (x ∷ xs) [] l same = absurd (omega (arith, l))
  same_lists (x ∷ xs) (y ∷ ys) l same = ap (λ z. z ∷ xs) (same zero x y refl refl) ∙ ap (λ zs. y ∷ zs) (same_lists xs ys (omega (arith, l)) (λ n u v e f. same (suc n) u v e f))

  -- what is known of all types is one
  pub one_resolution : a ≡ b
  one_resolution = same_lists a b (is_a.size ∙ sym is_b.size) same_entry
