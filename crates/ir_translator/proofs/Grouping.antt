-- Edges that are put into the lists of their blocks, one after another.
use Rattle.std.proofs.Common.{◌≡◌, refl, sym, ap, subst, ◌∙◌, ℕ, zero, suc, ◌+◌, ◌<◌, ◌≤◌, List, [], ◌∷◌, ◌++◌, length, drop, get_or, Bool, true, false, Some, arith, append_assoc}
use Rattle.std.specs.Prelude.{slice_get, slice_set, slice_index_or, ◌==◌, if◌then◌else◌}
use Rattle.std.proofs.Math.Seq.{drop-cons}
use Rattle.std.proofs.lemmas.Bool.{eq-eqb, ne_eqb}
use Rattle.std.proofs.lemmas.List.{append-nil, drop_all, map-append}
use Rattle.ir_core.specs.declared.program.Function.{Function}
use Rattle.ir_core.specs.declared.program.Global.{Global}
use Rattle.generic_code.specs.Edges.{Edge}
use Rattle.generic_code.specs.Whole.{edges_to}
use Rattle.ir_translator.specs.Groups.{no_edge, picked, AreGroups, added}

-- the edges before a place are in the lists of their blocks
abbrev pub AreGrouped : List Global → Function → List Edge → ℕ → List (List ℕ) → Type 0
AreGrouped globals function edges i groups =
    (to : ℕ) (places : List ℕ) → slice_get groups to ≡ Some places → picked edges places ++ edges_to globals function to (drop i edges) ≡ edges_to globals function to edges

-- ---- one number more

pub added-past : (groups : List (List ℕ)) (to place : ℕ) → length groups ≤ to → groups ≡ added to place groups
added-past [] to place le = refl
added-past (g ∷ gs) zero place le = absurd (let bad : ⊥ = omega (arith, le) in bad)
added-past (g ∷ gs) (suc to) place le = ap (λ (xs : List (List ℕ)). g ∷ xs) (added-past gs to place (omega (arith, le)))

pub added-at : (groups : List (List ℕ)) (to place : ℕ) (old new : List ℕ) → to < length groups → old ≡ get_or groups to old → new ≡ old ++ place ∷ [] → slice_set groups to new ≡ added to place groups
added-at [] to place old new lt is e = absurd (let bad : ⊥ = omega (arith, lt) in bad)
added-at (g ∷ gs) zero place old new lt is e = ap (λ (x : List ℕ). x ∷ gs) (e ∙ ap (λ (x : List ℕ). x ++ place ∷ []) is)
added-at (g ∷ gs) (suc to) place old new lt is e = ap (λ (xs : List (List ℕ)). g ∷ xs) (added-at gs to place old new (omega (arith, lt)) is e)

pub added-length : (groups : List (List ℕ)) (to place : ℕ) → length (added to place groups) ≡ length groups
added-length [] to place = refl
added-length (g ∷ gs) zero place = refl
added-length (g ∷ gs) (suc to) place = ap suc (added-length gs to place)

-- the list of a block behind that
data Found (groups : List (List ℕ)) (to place at : ℕ) (places : List ℕ) : Type 0 where
  here : (old : List ℕ) → at ≡ to → slice_get groups at ≡ Some old → places ≡ old ++ place ∷ [] → Found groups to place at places
  apart : (at ≡ to → ⊥) → slice_get groups at ≡ Some places → Found groups to place at places

found : (groups : List (List ℕ)) (to place at : ℕ) (places : List ℕ) → slice_get (added to place groups) at ≡ Some places → Found groups to place at places
found [] to place at places e = absurd (let bad : ⊥ = cc in bad)
found (g ∷ gs) zero place zero places e = here g refl refl (let same : places ≡ g ++ place ∷ [] = cc in same)
found (g ∷ gs) zero place (suc at) places e = apart (λ (z : suc at ≡ 0). let bad : ⊥ = omega (arith, z) in bad) e
found (g ∷ gs) (suc to) place zero places e = apart (λ (z : 0 ≡ suc to). let bad : ⊥ = omega (arith, z) in bad) e
found (g ∷ gs) (suc to) place (suc at) places e = by (found gs to place at places e)
  where
    by : Found gs to place at places → Found (g ∷ gs) (suc to) place (suc at) places
    by (here old same is more) = here old (ap suc same) is more
    by (apart other is) = apart (λ (z : suc at ≡ suc to). other (omega (arith, z))) is

-- ---- the next edge

module _ (globals : List Global) (function : Function) where
  split : (to : ℕ) (edge : Edge) (edges : List Edge) (b : Bool) → (edge.to == to) ≡ b → edges_to globals function to (edge ∷ edges) ≡ (if b then edge ∷ edges_to globals function to edges else edges_to globals function to edges)
  split to edge edges b e = ap (λ (x : Bool). if x then edge ∷ edges_to globals function to edges else edges_to globals function to edges) e

  picked-more : (edges : List Edge) (places : List ℕ) (i : ℕ) (edge : Edge) → slice_index_or edges i no_edge ≡ edge → picked edges (places ++ i ∷ []) ≡ picked edges places ++ edge ∷ []
  picked-more edges places i edge e =
      map-append (λ (place : ℕ). slice_index_or edges place no_edge) places (i ∷ []) ∙ ap (λ (x : Edge). picked edges places ++ x ∷ []) e

  index-is : (edges : List Edge) (i : ℕ) (edge : Edge) → i < length edges → edge ≡ get_or edges i edge → slice_index_or edges i no_edge ≡ edge
  index-is [] i edge lt e = absurd (let bad : ⊥ = omega (arith, lt) in bad)
  index-is (x ∷ xs) zero edge lt e = sym e
  index-is (x ∷ xs) (suc i) edge lt e = index-is xs i edge (omega (arith, lt)) e

  next-drop : (edges : List Edge) (i : ℕ) (edge : Edge) → i < length edges → edge ≡ get_or edges i edge → drop i edges ≡ edge ∷ drop (i + 1) edges
  next-drop edges i edge lt e =
      drop-cons edges i edge lt ∙ ap (λ (n : ℕ). get_or edges i edge ∷ drop n edges) (let one : suc i ≡ i + 1 = omega arith in one) ∙ ap (λ (x : Edge). x ∷ drop (i + 1) edges) (sym e)

  pub grouped-next : (edges : List Edge) (i : ℕ) (groups new : List (List ℕ)) (edge : Edge) (to : ℕ) → i < length edges → edge ≡ get_or edges i edge → to ≡ edge.to
      → AreGrouped globals function edges i groups → new ≡ added to i groups → AreGrouped globals function edges (i + 1) new
  grouped-next edges i groups new edge to lt is target h e = λ at places z. by at places (found groups to i at places (subst (λ (gs : List (List ℕ)). slice_get gs at ≡ Some places) e z))
    where
      rest : List Edge
      rest = drop (i + 1) edges

      by : (at : ℕ) (places : List ℕ) → Found groups to i at places → picked edges places ++ edges_to globals function at (drop (i + 1) edges) ≡ edges_to globals function at edges
      by at places (here old same there more) =
          ap (λ (ps : List ℕ). picked edges ps ++ edges_to globals function at (drop (i + 1) edges)) more
          ∙ ap (λ (es : List Edge). es ++ edges_to globals function at (drop (i + 1) edges)) (picked-more edges old i edge (index-is edges i edge lt is))
          ∙ append_assoc (picked edges old) (edge ∷ []) (edges_to globals function at (drop (i + 1) edges))
          ∙ ap (λ (es : List Edge). picked edges old ++ es) (sym (split at edge (drop (i + 1) edges) true (eq-eqb edge.to at (sym target ∙ sym same))))
          ∙ ap (λ (es : List Edge). picked edges old ++ edges_to globals function at es) (sym (next-drop edges i edge lt is))
          ∙ h at old there
      by at places (apart other there) =
          ap (λ (es : List Edge). picked edges places ++ es) (sym (split at edge (drop (i + 1) edges) false (ne_eqb edge.to at (λ (z : edge.to ≡ at). other (sym z ∙ sym target)))))
          ∙ ap (λ (es : List Edge). picked edges places ++ edges_to globals function at es) (sym (next-drop edges i edge lt is))
          ∙ h at places there

  pub grouped-end : (edges : List Edge) (i : ℕ) (groups : List (List ℕ)) → length edges ≤ i → AreGrouped globals function edges i groups → AreGroups globals function edges groups
  grouped-end edges i groups le h = λ to places z.
      sym (append-nil (picked edges places)) ∙ ap (λ (es : List Edge). picked edges places ++ edges_to globals function to es) (sym (drop_all i edges le)) ∙ h to places z
