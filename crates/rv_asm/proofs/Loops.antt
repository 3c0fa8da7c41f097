-- What the loops over items keep.
use Rattle.std.proofs.Common.{◌≡◌, refl, sym, ap, subst, ◌∙◌, ℕ, zero, suc, ◌+◌, ◌^◌, ◌<◌, ◌≤◌, List, [], ◌∷◌, ◌++◌, map, length, drop, get_or, take, Bool, true, false, cond, arith, append_assoc, slice_index}
use Rattle.std.proofs.Math.Seq.{drop-cons}
use Rattle.std.proofs.lemmas.List.{length-append, length-map}
use Rattle.rv_core.specs.declared.instr.Instr.{Instr}
use Rattle.rv_encode.specs.Spelling.{word_of}
use Rattle.rv_asm.specs.declared.item.Item.{Item}
use Rattle.rv_asm.specs.declared.item.Formed.{Formed}
use Rattle.rv_asm.specs.Code.{IsSound, AreSound, IsCode}
use Rattle.rv_asm.specs.Layout.{item_code, size, first_form, places_from, laid, AreFirst, item_of, first_from}
use Rattle.rv_asm.proofs.Laid.{sizes-few, place-below}

drop-one : (xs : List Formed) (k : ℕ) (d : Formed) → k < length xs → drop k xs ≡ get_or xs k d ∷ drop (k + 1) xs
drop-one xs k d h = let one : k + 1 ≡ suc k = omega arith in drop-cons xs k d h ∙ ap (λ (j : ℕ). get_or xs k d ∷ drop j xs) (sym one)

-- one place more
pub places-on : (xs : List Formed) (k place n : ℕ) (d : Formed) (ps qs total : List ℕ) → k < length xs → n ≡ size (get_or xs k d).form (get_or xs k d).item → qs ≡ ps ++ place ∷ []
    → ps ++ places_from place (drop k xs) ≡ total → qs ++ places_from (place + n) (drop (k + 1) xs) ≡ total
places-on xs k place n d ps qs total h e made same =
    let x = get_or xs k d in
    let rest : List ℕ = places_from (place + size x.form x.item) (drop (k + 1) xs) in
    ap (λ (m : ℕ). qs ++ places_from (place + m) (drop (k + 1) xs)) e
    ∙ ap (λ (ws : List ℕ). ws ++ rest) made
    ∙ append_assoc ps (place ∷ []) rest
    ∙ ap (λ (ys : List Formed). ps ++ places_from place ys) (sym (drop-one xs k d h))
    ∙ same

pub places-small : (xs : List Formed) (places : List ℕ) → places ≡ places_from 0 xs → length xs ≤ 2 ^ 29 → (k : ℕ) → slice_index places k < 2 ^ 31
places-small xs places e few k =
    let same : slice_index places k ≡ slice_index (places_from 0 xs) k = ap (λ (ps : List ℕ). slice_index ps k) e in
    let below = place-below 0 xs k in
    let few' = sizes-few xs in
    omega (arith, same, below, few', few)

-- the item at a place has the first form, and so have those behind it
pub first-here : (to : Item → ℕ) (xs : List Formed) (k place : ℕ) (d : Formed) → k < length xs → AreFirst to place (drop k xs) → (get_or xs k d).form ≡ first_form (get_or xs k d).item place (to (get_or xs k d).item)
first-here to xs k place d h f = (subst (AreFirst to place) (drop-one xs k d h) f).0

pub first-on : (to : Item → ℕ) (xs : List Formed) (k place n : ℕ) (d : Formed) → k < length xs → n ≡ size (get_or xs k d).form (get_or xs k d).item → AreFirst to place (drop k xs) → AreFirst to (place + n) (drop (k + 1) xs)
first-on to xs k place n d h e f = subst (λ (m : ℕ). AreFirst to (place + m) (drop (k + 1) xs)) (sym e) (subst (AreFirst to place) (drop-one xs k d h) f).1

pub first-back : (to : Item → ℕ) (xs : List Formed) (k place n : ℕ) (d : Formed) → k < length xs → n ≡ size (get_or xs k d).form (get_or xs k d).item
    → (get_or xs k d).form ≡ first_form (get_or xs k d).item place (to (get_or xs k d).item) → AreFirst to (place + n) (drop (k + 1) xs) → AreFirst to place (drop k xs)
first-back to xs k place n d h e this f = subst (AreFirst to place) (sym (drop-one xs k d h)) (this, subst (λ (m : ℕ). AreFirst to (place + m) (drop (k + 1) xs)) e f)

pub sound-at : (xs : List Formed) (k : ℕ) (d : Formed) → AreSound (map item_of xs) → k < length xs → IsSound (get_or xs k d).item
sound-at [] k d s h = absurd (omega (arith, h))
sound-at (x ∷ xs) zero d s h = s.0
sound-at (x ∷ xs) (suc k) d s h = sound-at xs k d s.1 (omega (arith, h))

map-append : (xs ys : List Instr) → map word_of (xs ++ ys) ≡ map word_of xs ++ map word_of ys
map-append [] ys = refl
map-append (x ∷ xs) ys = ap (λ (zs : List ℕ). word_of x ∷ zs) (map-append xs ys)

-- the words of one item more
pub words-on : (to : Item → ℕ) (xs : List Formed) (k place n : ℕ) (d : Formed) (w w' total : List ℕ) → k < length xs → n ≡ size (get_or xs k d).form (get_or xs k d).item
    → w' ≡ w ++ map word_of (item_code (get_or xs k d).form (get_or xs k d).item place (to (get_or xs k d).item)) → w ++ map word_of (laid to place (drop k xs)) ≡ total
    → w' ++ map word_of (laid to (place + n) (drop (k + 1) xs)) ≡ total
words-on to xs k place n d w w' total h e made same =
    let x = get_or xs k d in
    let code : List Instr = item_code x.form x.item place (to x.item) in
    let rest : List Instr = laid to (place + size x.form x.item) (drop (k + 1) xs) in
    ap (λ (m : ℕ). w' ++ map word_of (laid to (place + m) (drop (k + 1) xs))) e
    ∙ ap (λ (v : List ℕ). v ++ map word_of rest) made
    ∙ append_assoc w (map word_of code) (map word_of rest)
    ∙ ap (λ (v : List ℕ). w ++ v) (sym (map-append code rest))
    ∙ ap (λ (ys : List Formed). w ++ map word_of (laid to place ys)) (sym (drop-one xs k d h))
    ∙ same

-- one form more
pub forms-on : (to : Item → ℕ) (xs : List Formed) (k place n : ℕ) (d : Formed) (w w' total : List Formed) → k < length xs → n ≡ size (get_or xs k d).form (get_or xs k d).item
    → w' ≡ w ++ record { item = (get_or xs k d).item; form = first_form (get_or xs k d).item place (to (get_or xs k d).item) } ∷ [] → w ++ first_from to place (drop k xs) ≡ total
    → w' ++ first_from to (place + n) (drop (k + 1) xs) ≡ total
forms-on to xs k place n d w w' total h e made same =
    let x = get_or xs k d in
    let y : Formed = record { item = x.item; form = first_form x.item place (to x.item) } in
    let rest : List Formed = first_from to (place + size x.form x.item) (drop (k + 1) xs) in
    ap (λ (m : ℕ). w' ++ first_from to (place + m) (drop (k + 1) xs)) e
    ∙ ap (λ (v : List Formed). v ++ rest) made
    ∙ append_assoc w (y ∷ []) rest
    ∙ ap (λ (ys : List Formed). w ++ first_from to place ys) (sym (drop-one xs k d h))
    ∙ same

-- ---- code that is being written

pub sound-append : (xs : List Item) (x : Item) → AreSound xs → IsSound x → AreSound (xs ++ x ∷ [])
sound-append [] x h s = (s, tt)
sound-append (y ∷ xs) x h s = (h.0, sound-append xs x h.1 s)

pub take-front : (xs ys zs : List Item) → zs ≡ xs ++ ys → take (length xs) zs ≡ xs
take-front xs ys zs e = ap (take (length xs)) e ∙ front xs
  where
    front : (xs : List Item) → take (length xs) (xs ++ ys) ≡ xs
    front [] = refl
    front (x ∷ xs) = ap (λ (t : List Item). x ∷ t) (front xs)

pub code_pushed : (b : Bool) (xs ys : List Item) (x : Item) → ys ≡ cond b (xs ++ x ∷ []) xs → IsCode xs → IsSound x → length xs < 2 ^ 29 → IsCode ys
code_pushed true xs ys x e h s few = subst IsCode (sym e) (record { sound = sound-append xs x h.sound s; few = let n = length-append xs (x ∷ []) in omega (arith, few, n) })
code_pushed false xs ys x e h s few = subst IsCode (sym e) h

-- what stood at the front still does
kept-on : (old ys new : List Item) → take (length (old ++ ys)) new ≡ old ++ ys → take (length old) new ≡ old
kept-on [] ys new h = refl
kept-on (x ∷ old) ys [] h = absurd (let bad : ⊥ = cc in bad)
kept-on (x ∷ old) ys (n ∷ new) h =
    ap (λ (m : Item). m ∷ take (length old) new) (ap (head x) h) ∙ ap (λ (t : List Item). x ∷ t) (kept-on old ys new (ap rest h))
  where
    head : Item → List Item → Item
    head d [] = d
    head d (y ∷ ys) = y

    rest : List Item → List Item
    rest [] = []
    rest (y ∷ ys) = ys

pub kept-by : (old mid ys new : List Item) → mid ≡ old ++ ys → take (length mid) new ≡ mid → take (length old) new ≡ old
kept-by old mid ys new e h = kept-on old ys new (subst (λ (m : List Item). take (length m) new ≡ m) e h)

pub as_many : (xs : List Formed) (items : List Item) → map item_of xs ≡ items → length xs ≡ length items
as_many xs items e = sym (length-map xs item_of) ∙ ap length e

pub few-formed : (xs : List Formed) (items : List Item) → map item_of xs ≡ items → length items ≤ 2 ^ 29 → length xs ≤ 2 ^ 29
few-formed xs items e h = let n = as_many xs items e in omega (arith, n, h)
