-- Maps from literals to registers, and from blocks to operands.
use Rattle.std.proofs.Common.{◌≡◌, refl, sym, ap, ◌∙◌, ℕ, suc, ◌+◌, List, [], ◌∷◌, ◌++◌, length, drop, get_or, ◌<◌, ◌≤◌, arith, Option, Some, None, Bool, true, false, cond}
use Rattle.std.specs.Prelude.{nat_eq, ◌==◌}
use Rattle.std.proofs.Math.Seq.{drop-cons}
use Rattle.std.proofs.lemmas.List.{drop_all}
use Rattle.std.specs.Map.{lookup}
use Rattle.indexmap.specs.IndexMap.{IndexMap, get, insert_entry}
use Rattle.indexmap.proofs.CallerLemmas.{insert_entry-new}
use Rattle.ir_core.specs.declared.code.Operand.{Operand}
use Rattle.ir_meaning.specs.Step.{on_edge}
use Rattle.ir_translator_emit.specs.Maps.{or_else, or_poison, first_from, Finds, Adds}

-- an entry that is new goes last
pub new_last : {K X S : Type 0} (eq : K → K → Bool) (m : IndexMap K X S) (k : K) (v : X) → get eq m k ≡ None → insert_entry eq m.entries k v ≡ m.entries ++ (k, v) ∷ []
new_last eq m k v none = insert_entry-new eq m k v none

-- the first operand of a block, or poison, is that of the edge
pub first_on_edge : (from : ℕ) (pairs : List (Operand × ℕ)) → or_poison (first_from from pairs) ≡ on_edge from pairs
first_on_edge from [] = refl
first_on_edge from (pair ∷ pairs) = by (pair.1 == from) (first_on_edge from pairs)
  where
    by : (b : Bool) → or_poison (first_from from pairs) ≡ on_edge from pairs → or_poison (cond b (Some pair.0) (first_from from pairs)) ≡ cond b pair.0 (on_edge from pairs)
    by true e = refl
    by false e = e

or_step : (a : Option Operand) (b : Bool) (x : Operand) (rest : Option Operand) → or_else (or_else a (cond b (Some x) None)) rest ≡ or_else a (cond b (Some x) rest)
or_step (Some y) b x rest = refl
or_step None true x rest = refl
or_step None false x rest = refl

-- one more operand stands in the map
pub finds_more : (old new : List (ℕ × Operand)) (pairs : List (Operand × ℕ)) (i : ℕ) (d : Operand × ℕ) → i < length pairs
    → ((from : ℕ) → or_else (lookup (nat_eq from) old) (first_from from (drop i pairs)) ≡ first_from from pairs)
    → Adds old (get_or pairs i d).1 (get_or pairs i d).0 new
    → (from : ℕ) → or_else (lookup (nat_eq from) new) (first_from from (drop (i + 1) pairs)) ≡ first_from from pairs
finds_more old new pairs i d lt h adds from =
    let one : Operand × ℕ = get_or pairs i d in
    let rest : drop i pairs ≡ one ∷ drop (i + 1) pairs =
    drop-cons pairs i d lt ∙ ap (λ (n : ℕ). one ∷ drop n pairs) (let k : suc i ≡ i + 1 = omega arith in k) in
    ap (λ (o : Option Operand). or_else o (first_from from (drop (i + 1) pairs))) (adds from)
    ∙ or_step (lookup (nat_eq from) old) (one.1 == from) one.0 (first_from from (drop (i + 1) pairs))
    ∙ ap (λ (ps : List (Operand × ℕ)). or_else (lookup (nat_eq from) old) (first_from from ps)) (sym rest) ∙ h from

or_none : (a : Option Operand) → or_else a None ≡ a
or_none None = refl
or_none (Some x) = refl

pub finds_all : (entries : List (ℕ × Operand)) (pairs : List (Operand × ℕ)) (i : ℕ) → length pairs ≤ i
    → ((from : ℕ) → or_else (lookup (nat_eq from) entries) (first_from from (drop i pairs)) ≡ first_from from pairs) → Finds pairs entries
finds_all entries pairs i le h from =
    sym (or_none (lookup (nat_eq from) entries)) ∙ ap (λ (ps : List (Operand × ℕ)). or_else (lookup (nat_eq from) entries) (first_from from ps)) (sym (drop_all i pairs le)) ∙ h from
