-- The search before anything is known, and once all blocks were read.
use Rattle.std.proofs.Common.{◌≡◌, ℕ, zero, suc, inl, inr, Bool, true, false, List, [], length, replicate, get_or, arith, refl, sym, ◌∙◌, Option, Some, None}
use Rattle.std.specs.List.{Contains}
use Rattle.std.proofs.lemmas.List.{length-replicate, get_or-replicate}
use Rattle.std.proofs.lemmas.Bool.{false≢true}
use Rattle.rj_num.specs.Sets.{has}
use Rattle.mir.specs.declared.code.MInst.{MInst}
use Rattle.liveness.specs.declared.search.Search.{Search}
use Rattle.liveness.specs.Search.{IsFound, IsEnd, Extends, Adds, IsSized, StartsEmpty}
use Rattle.liveness.specs.Scan.{IsNeeded, IsUse, Searches}

pub starts_sized : (s : Search) (blocks regs : ℕ) → StartsEmpty s blocks regs → IsSized s blocks regs
starts_sized s blocks regs is = record {
  registers = rw is.spans (length-replicate regs None);
  blocks_sized = rw is.live (length-replicate blocks (replicate regs false));
  sizes = λ b below. rw (is.live, get_or-replicate blocks b (replicate regs false) [] below) (length-replicate regs false);
}

clear : (n r : ℕ) → has (replicate n false) r ≡ false
clear zero r = refl
clear (suc n) zero = refl
clear (suc n) (suc r) = clear n r

all_clear : (blocks regs b r : ℕ) → has (get_or (replicate blocks (replicate regs false)) b []) r ≡ false
all_clear zero regs b r = refl
all_clear (suc blocks) regs zero r = clear regs r
all_clear (suc blocks) regs (suc b) r = all_clear blocks regs b r

abbrev no_span : Option (ℕ × ℕ)
no_span = None

spanless : (n r : ℕ) → get_or (replicate n no_span) r no_span ≡ no_span
spanless zero r = refl
spanless (suc n) zero = refl
spanless (suc n) (suc r) = spanless n r

-- what was found since the start is on the list of work
pub searches_all : (s t : Search) (blocks : List (List MInst)) (sources : List (List ℕ)) (written : List (List Bool)) (count regs : ℕ)
    → StartsEmpty s count regs → Extends s t → Adds (IsUse blocks) (λ b r. IsNeeded blocks r b) s t → Searches blocks sources written t
searches_all s t blocks sources written count regs is extends adds = record {
  done_or_listed = λ b r found. elim (extends.listed b r found) [
    | inl was ↦ absurd (not_found b r was)
    | inr there ↦ inl there
  ];
  real = λ x in'. elim (extends.real x in') [
    | inl was ↦ absurd (nothing x (rw is.work at was))
    | inr found ↦ found
  ];
  needed = λ b r found. elim (adds.finds b r found) [
    | inl was ↦ absurd (not_found b r was)
    | inr needed ↦ needed
  ];
  ends = λ r at end. elim (adds.ends r at end) [
    | inl was ↦ absurd (not_ended r at was)
    | inr use' ↦ use'
  ];
}
  where
    some_span : (span : ℕ × ℕ) → no_span ≡ Some span → ⊥
    some_span span e = cc

    not_ended : (r at : ℕ) → IsEnd s r at → ⊥
    not_ended r at (first, last, has_span, end) = some_span (first, last) (sym (spanless regs r) ∙ rw is.spans at has_span)

    not_found : (b r : ℕ) → IsFound s b r → ⊥
    not_found b r found = false≢true (sym (all_clear count regs b r) ∙ rw is.live at found)

    nothing : (x : ℕ × ℕ) → Contains [] x → ⊥
    nothing x in' = absurd (omega (arith, in'.1))

-- an empty set has no number
pub none_in : (size r : ℕ) → has (replicate size false) r ≡ true → ⊥
none_in size r h = false≢true (sym (clear size r) ∙ h)

-- where sets are as large as there are registers, one more is
pub sized_alone : (s : Search) (blocks regs : ℕ) → IsSized s blocks regs → IsSized s (length s.live.items) regs
sized_alone s blocks regs sized = rw sized.blocks_sized sized
