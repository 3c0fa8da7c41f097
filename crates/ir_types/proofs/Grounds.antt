-- A type that is known doesn't hold itself, and what it names is defined.
use Rattle.std.proofs.Common.{◌≡◌, ℕ, zero, suc, ◌<◌, ◌≤◌, inl, inr, List, [], ◌∷◌, refl, sym, ◌∙◌, ap, arith, Option, Some, None}
use Rattle.std.specs.Prelude.{slice_get}
use Rattle.std.proofs.lemmas.Option.{none-some, same_Some}
use Rattle.ir_types.specs.declared.parts.Part.{Part}
use Rattle.ir_types.specs.declared.parts.Part.TheVariants as parts
use Rattle.ir_types.specs.declared.summary.Entry.{Entry}
use Rattle.ir_types.specs.Replaced.{Definitions, definition, joined, one_with, over, expansion, Mentions, Holds, directly, further, IsBadName}
use Rattle.ir_types.specs.Summaries.{AreResolved}
use Rattle.ir_types.proofs.Replacing.{both_inv}

Expanded : Definitions → ℕ → ℕ → Type 0
Expanded bodies depth n = (flat : List Part) × (expansion depth bodies n ≡ Some flat)

over_some : (f : List Part → Option (List Part)) (o : Option (List Part)) (flat : List Part) → over f o ≡ Some flat → (body : List Part) × (o ≡ Some body) × (f body ≡ Some flat)
over_some f None flat e = absurd (none-some flat e)
over_some f (Some body) flat e = (body, refl, e)

at_part : (f : Part → Option (List Part)) (body flat : List Part) (at : ℕ) (part : Part) → joined f body ≡ Some flat → slice_get body at ≡ Some part → (x : List Part) × (f part ≡ Some x)
unfolding joined
at_part f [] flat at part e here = absurd (none-some part here)
at_part f (p ∷ ps) flat zero part e here = let i = both_inv (f p) (joined f ps) flat e in (i.0, ap f (sym (same_Some p part here)) ∙ i.2)
at_part f (p ∷ ps) flat (suc at) part e here = let i = both_inv (f p) (joined f ps) flat e in at_part f ps i.1 at part i.3 here

-- what a definition names is expanded less deep
inner : (bodies : Definitions) (depth outer n : ℕ) (flat : List Part) → expansion depth bodies outer ≡ Some flat → Mentions bodies outer n → (less : ℕ) × (less < depth) × Expanded bodies less n
unfolding expansion Expanded
inner bodies zero outer n flat e mentions = absurd (none-some flat e)
inner bodies (suc depth) outer n flat e mentions =
    let o = over_some (joined (one_with (expansion depth bodies))) (definition bodies outer) flat e in
    let m = mentions.1 in
    let same = same_Some o.0 m.0 (sym o.1 ∙ m.2) in
    let found = at_part (one_with (expansion depth bodies)) m.0 flat m.1 (parts.Named n mentions.0) (rw (sym same) o.2) m.3 in
    (depth, omega arith, found)

held : (bodies : Definitions) (depth outer n : ℕ) (flat : List Part) → expansion depth bodies outer ≡ Some flat → Holds bodies outer n → (less : ℕ) × (less < depth) × Expanded bodies less n
unfolding Expanded
held bodies depth outer n flat e (directly mentions) = inner bodies depth outer n flat e mentions
held bodies depth outer n flat e (further {middle = between} holds mentions) =
    let first = held bodies depth outer between flat e holds in
    let next = inner bodies first.0 between n first.2.0 first.2.1 mentions in
    (next.0, omega (arith, first.1, next.1), next.2)

never : (bodies : Definitions) (bound depth n : ℕ) (flat : List Part) → depth ≤ bound → expansion depth bodies n ≡ Some flat → Holds bodies n n → ⊥
unfolding expansion Expanded
never bodies bound zero n flat le e holds = none-some flat e
never bodies zero (suc depth) n flat le e holds = absurd (omega arith)
never bodies (suc bound) (suc depth) n flat le e holds =
    let next = held bodies (suc depth) n n flat e holds in
    never bodies bound next.0 n next.2.0 (omega (arith, le, next.1)) next.2.1 holds

-- where a name is bad, nothing is known of all types
pub unresolved : (bodies : Definitions) (left : ℕ) → IsBadName bodies left → (known : List Entry) → AreResolved bodies known → ⊥
unfolding expansion Expanded
unresolved bodies left bad known are =
    let at = bad.2 in
    let found = are.whole bad.0 at.0 at.2 in
    let is = are.right bad.0 found.0 found.1 found.2 in
    let named = inner bodies found.0.rank bad.0 bad.1 is.0 is.1 (left, at) in
    elim bad.3
    [ inl none ↦ undefined named.0 bad.1 named.2.0 named.2.1 none | inr holds ↦ never bodies named.0 named.0 bad.1 named.2.0 (omega arith) named.2.1 holds ]
  where
    undefined : (depth n : ℕ) (flat : List Part) → expansion depth bodies n ≡ Some flat → definition bodies n ≡ None → ⊥
    undefined zero n flat e none = none-some flat e
    undefined (suc depth) n flat e none =
        let o = over_some (joined (one_with (expansion depth bodies))) (definition bodies n) flat e in
        none-some o.0 (sym none ∙ o.1)
