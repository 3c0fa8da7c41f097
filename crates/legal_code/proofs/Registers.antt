-- The registers of a legal form.
use Rattle.std.proofs.Common.{◌≡◌, refl, ap, ℕ, zero, suc, true, ◌⊎◌, inl, inr, List, [], ◌∷◌, ◌++◌, map, replicate, Some}
use Rattle.std.specs.Prelude.{slice_get, slice_index_or}
use Rattle.gmir.specs.declared.code.GType.{GType}
use Rattle.gmir.specs.declared.code.GType.TheVariants.{S, P0}
use Rattle.gmir.specs.Play.{width_of, is_full}
use Rattle.legal_code.specs.Legal.{legal_type, spent_blocks}
use Rattle.legal_code.specs.Laws.{LegalFormsAreLegal}

abbrev IsWhole : GType → Type 0
IsWhole t = (width_of t ≡ 64) × (is_full t ≡ true)

one_whole : (t : GType) → IsWhole (legal_type t)
one_whole (S w) = (refl, refl)
one_whole P0 = (refl, refl)

new_whole : (n r : ℕ) → IsWhole (slice_index_or (replicate n (S 64)) r P0)
new_whole zero r = (refl, refl)
new_whole (suc n) zero = (refl, refl)
new_whole (suc n) (suc r) = new_whole n r

-- each has 64 bits
pub whole_at : (types : List GType) (n r : ℕ) → IsWhole (slice_index_or (map legal_type types ++ replicate n (S 64)) r P0)
whole_at [] n r = new_whole n r
whole_at (t ∷ ts) n zero = one_whole t
whole_at (t ∷ ts) n (suc r) = whole_at ts n r

abbrev IsOne : GType → Type 0
IsOne ty = (ty ≡ S 64) ⊎ (ty ≡ P0)

one_legal : (t ty : GType) → Some (legal_type t) ≡ Some ty → IsOne ty
one_legal (S w) ty e = inl (let z : ty ≡ S 64 = cc in z)
one_legal P0 ty e = inr (let z : ty ≡ P0 = cc in z)

new_legal : (n r : ℕ) (ty : GType) → slice_get (replicate n (S 64)) r ≡ Some ty → IsOne ty
new_legal zero r ty e = absurd (let bad : ⊥ = cc in bad)
new_legal (suc n) zero ty e = inl (let z : ty ≡ S 64 = cc in z)
new_legal (suc n) (suc r) ty e = new_legal n r ty e

all_legal : (types : List GType) (n r : ℕ) (ty : GType) → slice_get (map legal_type types ++ replicate n (S 64)) r ≡ Some ty → IsOne ty
all_legal [] n r ty e = new_legal n r ty e
all_legal (t ∷ ts) n zero ty e = one_legal t ty e
all_legal (t ∷ ts) n (suc r) ty e = all_legal ts n r ty e

all_kept : (types : List GType) (n r : ℕ) (ty : GType) → slice_get types r ≡ Some ty → slice_get (map legal_type types ++ replicate n (S 64)) r ≡ Some (legal_type ty)
all_kept [] n r ty e = absurd (let bad : ⊥ = cc in bad)
all_kept (t ∷ ts) n zero ty e = let same : t ≡ ty = cc in ap (λ x. Some (legal_type x)) same
all_kept (t ∷ ts) n (suc r) ty e = all_kept ts n r ty e

pub legal_forms_are_legal : LegalFormsAreLegal
legal_forms_are_legal f = (all_legal f.types (spent_blocks f.types f.blocks), all_kept f.types (spent_blocks f.types f.blocks))
