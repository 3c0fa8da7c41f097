-- What holds of each instruction of a list, with those before it and those behind it.
use Rattle.std.proofs.Common.{◌≡◌, sym, subst, ap, List, [], ◌∷◌, ◌++◌}
use Rattle.std.proofs.lemmas.List.{append-nil, append_assoc}
use Rattle.gmir.specs.declared.code.GInst.{GInst}

-- it holds of each of these, which stand behind others
abbrev pub HoldsFrom : (List GInst → GInst → List GInst → Type 0) → List GInst → List GInst → Type 0
HoldsFrom P done [] = Unit {0}
HoldsFrom P done (i ∷ is) = P done i is × HoldsFrom P (done ++ i ∷ []) is

abbrev head_or : GInst → List GInst → GInst
head_or i [] = i
head_or i (x ∷ xs) = x

abbrev tail_of : List GInst → List GInst
tail_of [] = []
tail_of (x ∷ xs) = xs

same_head : (x i : GInst) (xs ys : List GInst) → x ∷ xs ≡ i ∷ ys → x ≡ i
same_head x i xs ys e = ap (head_or x) e

same_tail : (x i : GInst) (xs ys : List GInst) → x ∷ xs ≡ i ∷ ys → xs ≡ ys
same_tail x i xs ys e = ap tail_of e

here : (P : List GInst → GInst → List GInst → Type 0) (done : List GInst) (x i : GInst) (xs behind : List GInst) → P done x xs → x ≡ i → xs ≡ behind → P (done ++ []) i behind
here P done x i xs behind h one rest =
    subst (λ z. P z i behind) (sym (append-nil done)) (subst (λ z. P done i z) rest (subst (λ z. P done z xs) one h))

pub each : (P : List GInst → GInst → List GInst → Type 0) (done is before : List GInst) (i : GInst) (behind : List GInst) → HoldsFrom P done is → is ≡ before ++ i ∷ behind
    → P (done ++ before) i behind
each P done [] [] i behind h e = absurd (let bad : ⊥ = cc in bad)
each P done [] (b ∷ before) i behind h e = absurd (let bad : ⊥ = cc in bad)
each P done (x ∷ xs) [] i behind h e = here P done x i xs behind h.0 (same_head x i xs behind e) (same_tail x i xs behind e)
each P done (x ∷ xs) (b ∷ before) i behind h e =
    let one : x ≡ b = same_head x b xs (before ++ i ∷ behind) e in
    subst (λ z. P z i behind) (append_assoc done (b ∷ []) before)
    (each P (done ++ b ∷ []) xs before i behind (subst (λ z. HoldsFrom P (done ++ z ∷ []) xs) one h.1) (same_tail x b xs (before ++ i ∷ behind) e))
