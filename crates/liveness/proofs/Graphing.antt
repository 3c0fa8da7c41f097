-- Numbers of blocks and their sources, one block after another.
use Rattle.std.proofs.Common.{◌≡◌, ℕ, zero, suc, ◌+◌, ◌<◌, ◌≤◌, ◌⊎◌, inl, inr, List, [], ◌∷◌, ◌++◌, length, replicate, get_or, set, take, arith, refl, ap, sym, ◌∙◌}
use Rattle.std.specs.List.{Contains}
use Rattle.std.proofs.lemmas.List.{length-set, get_or-set_same, get_or-set_other, get_or_append_left, get_or_push, length_push, length-replicate}
use Rattle.std.proofs.lemmas.List.Elements.{Contains-push, Contains-push_cases, Contains-append_left}
use Rattle.std.proofs.lemmas.Bool.{cases_eq}
use Rattle.mir.specs.declared.code.MInst.{MInst}
use Rattle.mir.specs.Code.{count_before}
use Rattle.liveness.specs.Scan.{IsNumbering, AddsSource, AreSources, last_targets}
use Rattle.liveness.proofs.Noting.{front_or_next, in_front, in_next, no_items}
use Rattle.liveness.proofs.Reading.{earlier_or_here}

pub no_numbers : (blocks : List (List MInst)) → IsNumbering blocks 0 (0 ∷ [])
no_numbers blocks = record { size = omega arith; each = each; most = most }
  where
    each : (b : ℕ) → b ≤ 0 → get_or (0 ∷ []) b 0 ≡ count_before blocks b
    each zero h = refl
    each (suc b) h = absurd (omega arith)

    most : (b : ℕ) → b ≤ 0 → count_before blocks b < 2147483648
    most zero h = omega arith
    most (suc b) h = absurd (omega arith)

pub one_number : (blocks : List (List MInst)) (i : ℕ) (numbers : List ℕ) (number : ℕ) → IsNumbering blocks i numbers
    → number ≡ count_before blocks (i + 1) → number < 2147483648 → IsNumbering blocks (i + 1) (numbers ++ number ∷ [])
one_number blocks i numbers number is counts below = record {
  size = length_push numbers number ∙ ap (λ n. n + 1) is.size;
  each = λ b h. elim (earlier_or_here b (i + 1) (omega (arith, h))) [
    | inl before ↦ get_or_append_left numbers (number ∷ []) 0 b (omega (arith, is.size, before)) ∙ is.each b (omega (arith, before))
    | inr here ↦ rw here (get_or_push numbers number 0 (i + 1) is.size ∙ counts)
  ];
  most = λ b h. elim (earlier_or_here b (i + 1) (omega (arith, h))) [
    | inl before ↦ is.most b (omega (arith, before))
    | inr here ↦ rw (here, ← counts) below
  ];
}

pub no_source : (old : List (List ℕ)) (from : ℕ) → AddsSource old [] from old
no_source old from = record {
  size = refl;
  kept = λ to x in'. in';
  added = λ to in'. absurd (no_items to in');
  only = λ to x in'. inl in';
}

module _ (old now : List (List ℕ)) (xs : List ℕ) (from i : ℕ) (below : i < length xs) (within : get_or xs i 0 < length now)
    (is : AddsSource old (take i xs) from now) (next : List ℕ) (next_is : next ≡ get_or now (get_or xs i 0) [] ++ from ∷ []) where
  own : get_or (set now (get_or xs i 0) next) (get_or xs i 0) [] ≡ get_or now (get_or xs i 0) [] ++ from ∷ []
  own = get_or-set_same now (get_or xs i 0) next [] within ∙ next_is

  grown : (to x : ℕ) → Contains (get_or now to []) x → Contains (get_or (set now (get_or xs i 0) next) to []) x
  grown to x in' = elim (cases_eq to (get_or xs i 0)) [
    | inl same ↦ rw (same, own) (Contains-append_left (get_or now (get_or xs i 0) []) (from ∷ []) x (rw same at in'))
    | inr differs ↦ rw (get_or-set_other now (get_or xs i 0) to next [] differs) in'
  ]

  wider : (to x : ℕ) → Contains (get_or old to []) x ⊎ ((x ≡ from) × Contains (take i xs) to)
      → Contains (get_or old to []) x ⊎ ((x ≡ from) × Contains (take (i + 1) xs) to)
  wider to x (inl was) = inl was
  wider to x (inr (e, front)) = inr (e, in_front xs i to below front)

  pub source_more : AddsSource old (take (i + 1) xs) from (set now (get_or xs i 0) next)
  source_more = record {
    size = length-set now (get_or xs i 0) next ∙ is.size;
    kept = λ to x in'. grown to x (is.kept to x in');
    added = λ to in'. elim (front_or_next xs i to below in') [
      | inl front ↦ grown to from (is.added to front)
      | inr same ↦ rw (← same, own) (Contains-push (get_or now (get_or xs i 0) []) from)
    ];
    only = λ to x in'. elim (cases_eq to (get_or xs i 0)) [
      | inl same ↦ elim (Contains-push_cases (get_or now (get_or xs i 0) []) from x (rw (same, own) at in')) [
        | inl was ↦ wider to x (is.only to x (rw same was))
        | inr e ↦ inr (sym e, rw same (in_next xs i below))
      ]
      | inr differs ↦ wider to x (is.only to x (rw (get_or-set_other now (get_or xs i 0) to next [] differs) at in'))
    ];
  }

abbrev no_list : List ℕ
no_list = []

nothing_in : (n to : ℕ) → get_or (replicate n no_list) to no_list ≡ no_list
nothing_in zero to = refl
nothing_in (suc n) zero = refl
nothing_in (suc n) (suc to) = nothing_in n to

pub no_sources : (blocks : List (List MInst)) → AreSources blocks 0 (replicate (length blocks) [])
no_sources blocks = record {
  size = length-replicate (length blocks) [];
  all = λ from to below in'. absurd (omega arith);
  only = λ from to in'. absurd (no_items from (rw (nothing_in (length blocks) to) at in'));
}

pub sources_more : (blocks : List (List MInst)) (i : ℕ) (old new : List (List ℕ)) → AreSources blocks i old
    → AddsSource old (last_targets (get_or blocks i [])) i new → AreSources blocks (i + 1) new
sources_more blocks i old new are adds = record {
  size = adds.size ∙ are.size;
  all = λ from to below in'. elim (earlier_or_here from i below) [
    | inl before ↦ adds.kept to from (are.all from to before in')
    | inr here ↦ rw here (adds.added to (rw here at in'))
  ];
  only = λ from to in'. elim (adds.only to from in') [
    | inl was ↦ let low : from < i = (are.only from to was).0 in (omega (arith, low), (are.only from to was).1)
    | inr here ↦ (omega (arith, here.0), rw here.0 here.1)
  ];
}
