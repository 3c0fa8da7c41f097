-- Forms that begin short and are lengthened as they must be are the shortest of all in which each is the first that reaches.
use Rattle.std.proofs.Common.{◌≡◌, refl, sym, ap, subst, ◌∙◌, ℕ, zero, suc, ◌+◌, ◌-◌, ◌*◌, ◌^◌, ◌<◌, ◌≤◌, ◌⊎◌, inl, inr, ⊎_elim, List, [], ◌∷◌, map, length, Option, Bool, true, false, cond, arith, slice_index}
use Rattle.std.specs.Prelude.{nat_le, nat_lt}
use Rattle.std.proofs.lemmas.Bool.{cases_lt, lt-ltb, le-leb, lt-leb}
use Rattle.rv_encode.specs.Spelling.{word_of}
use Rattle.rv_asm.specs.declared.item.Item.{Item}
use Rattle.rv_asm.specs.declared.item.Item.TheVariants.{Plain, BranchTo, JumpTo}
use Rattle.rv_asm.specs.declared.item.Form.{Form}
use Rattle.rv_asm.specs.declared.item.Form.TheVariants.{Short, Near, Far}
use Rattle.rv_asm.specs.declared.item.Formed.{Formed}
use Rattle.rv_asm.specs.Code.{Code, leads_to}
use Rattle.rv_asm.specs.Layout.{reaches, size, first_form, places_from, goes_to, laid, AreFirst, item_of, way, IsNoLonger, AreNoLonger, in_short, first_from, IsAssembly}
use Rattle.rv_asm.proofs.Arriving.{reaches-forward, reaches-backward}

-- ---- places

-- how many words the first so many items have
abbrev upto : ℕ → List Formed → ℕ
upto zero xs = 0
upto (suc k) [] = 0
upto (suc k) (x ∷ xs) = size x.form x.item + upto k xs

place-at : (place : ℕ) (xs : List Formed) (k : ℕ) → k ≤ length xs → slice_index (places_from place xs) k ≡ place + upto k xs
place-at place [] zero h = omega arith
place-at place [] (suc k) h = absurd (omega (arith, h))
place-at place (x ∷ xs) zero h = omega arith
place-at place (x ∷ xs) (suc k) h = place-at (place + size x.form x.item) xs k (omega (arith, h)) ∙ omega arith

no-place : (place : ℕ) (xs : List Formed) (k : ℕ) → length xs < k → slice_index (places_from place xs) k ≡ 0
no-place place [] zero h = absurd (omega (arith, h))
no-place place [] (suc k) h = refl
no-place place (x ∷ xs) zero h = absurd (omega (arith, h))
no-place place (x ∷ xs) (suc k) h = no-place (place + size x.form x.item) xs k (omega (arith, h))

size-some : (form : Form) (item : Item) → 1 ≤ size form item
size-some form (Plain i) = omega arith
size-some Short (BranchTo op a b l) = omega arith
size-some Near (BranchTo op a b l) = omega arith
size-some Far (BranchTo op a b l) = omega arith
size-some Short (JumpTo l) = omega arith
size-some Near (JumpTo l) = omega arith
size-some Far (JumpTo l) = omega arith

size-less : (item : Item) (f g : Form) → IsNoLonger f g → size f item ≤ size g item
size-less (Plain i) f g h = omega arith
size-less (BranchTo op a b l) Short Short h = omega arith
size-less (BranchTo op a b l) Short Near h = omega arith
size-less (BranchTo op a b l) Short Far h = omega arith
size-less (BranchTo op a b l) Near Short h = absurd h
size-less (BranchTo op a b l) Near Near h = omega arith
size-less (BranchTo op a b l) Near Far h = omega arith
size-less (BranchTo op a b l) Far Short h = absurd h
size-less (BranchTo op a b l) Far Near h = absurd h
size-less (BranchTo op a b l) Far Far h = omega arith
size-less (JumpTo l) Short Short h = omega arith
size-less (JumpTo l) Short Near h = omega arith
size-less (JumpTo l) Short Far h = omega arith
size-less (JumpTo l) Near Short h = absurd h
size-less (JumpTo l) Near Near h = omega arith
size-less (JumpTo l) Near Far h = omega arith
size-less (JumpTo l) Far Short h = absurd h
size-less (JumpTo l) Far Near h = absurd h
size-less (JumpTo l) Far Far h = omega arith

-- the words between two items are no more
spread : (xs ys : List Formed) (k l : ℕ) → AreNoLonger xs ys → k ≤ l → l ≤ length xs → upto l xs + upto k ys ≤ upto l ys + upto k xs
spread xs ys zero zero h kl lx = omega arith
spread xs ys (suc k) zero h kl lx = absurd (omega (arith, kl))
spread [] ys k (suc l) h kl lx = absurd (omega (arith, lx))
spread (x ∷ xs) [] k (suc l) h kl lx = absurd h
spread (x ∷ xs) (y ∷ ys) zero (suc l) h kl lx =
    let r = spread xs ys 0 l h.1.1 (omega arith) (omega (arith, lx)) in
    let s = size-less x.item x.form y.form h.1.0 in
    let e : size y.form y.item ≡ size y.form x.item = ap (size y.form) (sym h.0) in
    omega (arith, r, s, e)
spread (x ∷ xs) (y ∷ ys) (suc k) (suc l) h kl lx =
    let r = spread xs ys k l h.1.1 (omega (arith, kl)) (omega (arith, lx)) in
    omega (arith, r)

-- there are words between two items
apart : (xs : List Formed) (k l : ℕ) → k < l → l ≤ length xs → upto k xs < upto l xs
apart xs k zero kl lx = absurd (omega (arith, kl))
apart [] k (suc l) kl lx = absurd (omega (arith, lx))
apart (x ∷ xs) zero (suc l) kl lx = let s = size-some x.form x.item in omega (arith, s)
apart (x ∷ xs) (suc k) (suc l) kl lx = let r = apart xs k l (omega (arith, kl)) (omega (arith, lx)) in omega (arith, r)

before : (xs : List Formed) (k l : ℕ) → k ≤ l → l ≤ length xs → upto k xs ≤ upto l xs
before xs zero l kl lx = omega arith
before xs (suc k) zero kl lx = absurd (omega (arith, kl))
before [] (suc k) (suc l) kl lx = omega arith
before (x ∷ xs) (suc k) (suc l) kl lx = let r = before xs k l (omega (arith, kl)) (omega (arith, lx)) in omega (arith, r)

-- ---- forms

-- from one place to another it is no farther than from a third to a fourth, in the same direction
abbrev Closer : ℕ → ℕ → ℕ → ℕ → Type 0
Closer p q p' q' = ((p ≤ q) × ((p' ≤ q') × (q + p' ≤ q' + p))) ⊎ ((q ≤ p) × ((q' ≤ p') × (p + q' ≤ p' + q)))

choose : (a b : ℕ) (m n : Bool) → Bool
choose a b m n = cond (nat_le a b) m n

reach-on : (half p q : ℕ) → p ≤ q → 4 * (q - p) < half → reaches half p q ≡ true
reach-on half p q h r = ap (λ (b : Bool). cond b (nat_lt (4 * (q - p)) half) (nat_le (4 * (p - q)) half)) (le-leb p q h) ∙ lt-ltb _ _ r

reach-back : (half p q : ℕ) → q < p → 4 * (p - q) ≤ half → reaches half p q ≡ true
reach-back half p q h r = ap (λ (b : Bool). cond b (nat_lt (4 * (q - p)) half) (nat_le (4 * (p - q)) half)) (lt-leb p q h) ∙ le-leb _ _ r

closer-reaches : (half p q p' q' : ℕ) → 0 < half → Closer p q p' q' → reaches half p' q' ≡ true → reaches half p q ≡ true
closer-reaches half p q p' q' some (inl c) r = let far = reaches-forward half p' q' c.1.0 r in reach-on half p q c.0 (omega (arith, c.0, c.1.0, c.1.1, far))
closer-reaches half p q p' q' some (inr c) r =
    ⊎_elim
    (λ h. ⊎_elim (λ h'. let far = reaches-backward half p' q' h' r in reach-back half p q h (omega (arith, h, h', c.1.1, far))) (λ h'. absurd (omega (arith, h, h', c.0, c.1.0, c.1.1))) (cases_lt q' p'))
    (λ h. reach-on half p q h (omega (arith, h, c.0, some)))
    (cases_lt q p)

branch-less : (b b' n n' : Bool) → (b' ≡ true → b ≡ true) → (n' ≡ true → n ≡ true) → IsNoLonger (cond b Short (cond n Near Far)) (cond b' Short (cond n' Near Far))
branch-less true b' n n' h k = tt
branch-less false true n n' h k = absurd (let bad : false ≡ true = h refl in cc)
branch-less false false true true h k = tt
branch-less false false true false h k = tt
branch-less false false false true h k = absurd (let bad : false ≡ true = k refl in cc)
branch-less false false false false h k = tt

jump-less : (b b' : Bool) → (b' ≡ true → b ≡ true) → IsNoLonger (cond b Short Far) (cond b' Short Far)
jump-less true b' h = tt
jump-less false true h = absurd (let bad : false ≡ true = h refl in cc)
jump-less false false h = tt

form-less : (item : Item) (p q p' q' : ℕ) → Closer p q p' q' → Closer (p + 1) q (p' + 1) q' → IsNoLonger (first_form item p q) (first_form item p' q')
form-less (Plain i) p q p' q' c d = tt
form-less (BranchTo op a b l) p q p' q' c d =
    branch-less (reaches 4096 p q) (reaches 4096 p' q') (reaches (2 ^ 20) (p + 1) q) (reaches (2 ^ 20) (p' + 1) q')
    (closer-reaches 4096 p q p' q' (omega arith) c) (closer-reaches (2 ^ 20) (p + 1) q (p' + 1) q' (omega arith) d)
form-less (JumpTo l) p q p' q' c d = jump-less (reaches (2 ^ 20) p q) (reaches (2 ^ 20) p' q') (closer-reaches (2 ^ 20) p q p' q' (omega arith) c)

-- ---- all forms

as-many : (xs ys : List Formed) → AreNoLonger xs ys → length xs ≡ length ys
as-many [] [] h = refl
as-many [] (y ∷ ys) h = absurd h
as-many (x ∷ xs) [] h = absurd h
as-many (x ∷ xs) (y ∷ ys) h = ap suc (as-many xs ys h.1.1)

-- where a label leads to, in two choices of forms
record Goes (xs ys : List Formed) (p q : ℕ) : Type 0 where
  to : ℕ
  within : to ≤ length xs
  first : p ≡ upto to xs
  second : q ≡ upto to ys

goes : (xs ys : List Formed) → AreNoLonger xs ys → (t : ℕ) → Goes xs ys (slice_index (places_from 0 xs) t) (slice_index (places_from 0 ys) t)
goes xs ys h t = ⊎_elim
    (λ far. record { to = 0; within = omega arith; first = no-place 0 xs t far; second = no-place 0 ys t (omega (arith, far, as-many xs ys h)) })
    (λ near. record { to = t; within = near; first = place-at 0 xs t near ∙ omega arith; second = place-at 0 ys t (omega (arith, near, as-many xs ys h)) ∙ omega arith })
    (cases_lt (length xs) t)

-- from one item to another it is no farther
closer : (xs ys : List Formed) → AreNoLonger xs ys → (k t : ℕ) → k < length xs → t ≤ length xs → Closer (upto k xs) (upto t xs) (upto k ys) (upto t ys) × Closer (upto k xs + 1) (upto t xs) (upto k ys + 1) (upto t ys)
closer xs ys h k t kx tx =
    ⊎_elim
    (λ kt. let a = apart xs k t kt tx in let b = apart ys k t kt (omega (arith, tx, as-many xs ys h)) in let s = spread xs ys k t h (omega (arith, kt)) tx in
    (inl (omega (arith, a), (omega (arith, b), omega (arith, s))), inl (omega (arith, a), (omega (arith, b), omega (arith, s)))))
    (λ tk. let a = before xs t k tk (omega (arith, kx)) in let b = before ys t k tk (omega (arith, kx, as-many xs ys h)) in let s = spread xs ys t k h tk (omega (arith, kx)) in
    (inr (a, (b, omega (arith, s))), inr (omega (arith, a), (omega (arith, b), omega (arith, s)))))
    (cases_lt k t)

module _ (bound : List (Option ℕ)) (xs ys : List Formed) (h : AreNoLonger xs ys) where
  -- what stands from an item on, and where
  record From (k p : ℕ) (all tail : List Formed) : Type 0 where
    at : (j : ℕ) → upto (k + j) all ≡ p + upto j tail

  from-next : (k p : ℕ) (all : List Formed) (x : Formed) (tail : List Formed) → From k p all (x ∷ tail) → From (k + 1) (p + size x.form x.item) all tail
  from-next k p all x tail f = record { at = λ j. (let one : k + 1 + j ≡ k + suc j = omega arith in ap (λ (n : ℕ). upto n all) one) ∙ f.at (suc j) ∙ omega arith }

  from-here : (k p : ℕ) (all tail : List Formed) → From k p all tail → upto k all ≡ p
  from-here k p all tail f = (let one : k ≡ k + 0 = omega arith in ap (λ (n : ℕ). upto n all) one) ∙ f.at 0 ∙ omega arith

  forms-less : (us vs : List Formed) (k p q : ℕ) → From k p xs us → From k q ys vs → k + length us ≡ length xs → AreNoLonger us vs → AreFirst (way bound ys) q vs
      → AreNoLonger (first_from (way bound xs) p us) vs
  forms-less [] [] k p q fu fv many uv a = tt
  forms-less [] (v ∷ vs) k p q fu fv many uv a = absurd uv
  forms-less (u ∷ us) [] k p q fu fv many uv a = absurd uv
  forms-less (u ∷ us) (v ∷ vs) k p q fu fv many uv a =
      let t : ℕ = leads_to bound u.item in
      let g = goes xs ys h t in
      let c = closer xs ys h k g.to (omega (arith, many)) g.within in
      let hp = from-here k p xs (u ∷ us) fu in
      let hq = from-here k q ys (v ∷ vs) fv in
      let same : first_form u.item q (way bound ys u.item) ≡ v.form = ap (λ (i : Item). first_form i q (way bound ys i)) uv.0 ∙ sym a.0 in
      let less : IsNoLonger (first_form u.item p (way bound xs u.item)) (first_form u.item q (way bound ys u.item)) =
      form-less u.item p (way bound xs u.item) q (way bound ys u.item)
      (subst (λ (n : ℕ). Closer n (way bound xs u.item) q (way bound ys u.item)) hp (subst (λ (n : ℕ). Closer (upto k xs) (way bound xs u.item) n (way bound ys u.item)) hq
      (subst (λ (n : ℕ). Closer (upto k xs) n (upto k ys) (way bound ys u.item)) (sym g.first) (subst (λ (n : ℕ). Closer (upto k xs) (upto g.to xs) (upto k ys) n) (sym g.second) c.0))))
      (subst (λ (n : ℕ). Closer (n + 1) (way bound xs u.item) (q + 1) (way bound ys u.item)) hp (subst (λ (n : ℕ). Closer (upto k xs + 1) (way bound xs u.item) (n + 1) (way bound ys u.item)) hq
      (subst (λ (n : ℕ). Closer (upto k xs + 1) n (upto k ys + 1) (way bound ys u.item)) (sym g.first) (subst (λ (n : ℕ). Closer (upto k xs + 1) (upto g.to xs) (upto k ys + 1) n) (sym g.second) c.1)))) in (
        uv.0,
        (
          subst (IsNoLonger (first_form u.item p (way bound xs u.item))) same less,
          forms-less us vs (k + 1) (p + size u.form u.item) (q + size v.form v.item) (from-next k p xs u us fu) (from-next k q ys v vs fv) (omega (arith, many)) uv.1.1 a.1,
        ),
      )

  -- lengthened once, they are still no longer than others that are all first
  pub still-less : AreFirst (way bound ys) 0 ys → AreNoLonger (first_from (way bound xs) 0 xs) ys
  still-less a = forms-less xs ys 0 0 0 (all-from xs) (all-from ys) (omega arith) h a
    where
      all-from : (all : List Formed) → From 0 0 all all
      all-from all = record { at = λ j. (let none : 0 + j ≡ j = omega arith in ap (λ (n : ℕ). upto n all) none) ∙ omega arith }

-- ---- rounds

pub short-less : (items : List Item) (ys : List Formed) → items ≡ map item_of ys → AreNoLonger (map in_short items) ys
short-less [] [] e = tt
short-less [] (y ∷ ys) e = absurd (let bad : ⊥ = cc in bad)
short-less (i ∷ is) [] e = absurd (let bad : ⊥ = cc in bad)
short-less (i ∷ is) (y ∷ ys) e = (ap (head i) e, (tt, short-less is ys (ap rest e)))
  where
    head : Item → List Item → Item
    head d [] = d
    head d (i ∷ is) = i

    rest : List Item → List Item
    rest [] = []
    rest (i ∷ is) = is

-- they are no longer than any of the same items that are all first
abbrev pub AreLeast : List Item → List (Option ℕ) → List Formed → Type 0
AreLeast items bound xs = (others : List Formed) → map item_of others ≡ items → AreFirst (way bound others) 0 others → AreNoLonger xs others

pub least-first : (items : List Item) (bound : List (Option ℕ)) (xs : List Formed) → xs ≡ map in_short items → AreLeast items bound xs
least-first items bound xs e = λ others o a. subst (λ (zs : List Formed). AreNoLonger zs others) (sym e) (short-less items others (sym o))

pub least-next : (items : List Item) (bound : List (Option ℕ)) (xs more : List Formed) (places : List ℕ) → places ≡ places_from 0 xs → more ≡ first_from (goes_to bound places) 0 xs
    → AreLeast items bound xs → AreLeast items bound more
least-next items bound xs more places p e l = λ others o a.
    subst (λ (ms : List Formed). AreNoLonger ms others) (sym (e ∙ ap (λ (ps : List ℕ). first_from (goes_to bound ps) 0 xs) p)) (still-less bound xs others (l others o a) a)

-- the words of items that all have their first form, and are the shortest such
pub is-assembly : (xs : List Formed) (items : List Item) (bound : List (Option ℕ)) (places words : List ℕ) → map item_of xs ≡ items → places ≡ places_from 0 xs
    → AreFirst (goes_to bound places) 0 xs → words ≡ map word_of (laid (goes_to bound places) 0 xs) → AreLeast items bound xs → IsAssembly (record { items = items; bound = bound }) words
is-assembly xs items bound places words same e first spelled least = record {
  formed = xs;
  items = same;
  first = subst (λ (ps : List ℕ). AreFirst (goes_to bound ps) 0 xs) e first;
  least = least;
  made = spelled ∙ ap (λ (ps : List ℕ). map word_of (laid (goes_to bound ps) 0 xs)) e;
}

-- ---- one assembly

same-form : (f g : Form) → IsNoLonger f g → IsNoLonger g f → f ≡ g
same-form Short Short h k = refl
same-form Short Near h k = absurd k
same-form Short Far h k = absurd k
same-form Near Short h k = absurd h
same-form Near Near h k = refl
same-form Near Far h k = absurd k
same-form Far Short h k = absurd h
same-form Far Near h k = absurd h
same-form Far Far h k = refl

formed-by : (x y : Formed) → x.item ≡ y.item → x.form ≡ y.form → x ≡ y
formed-by x y i f = ap (λ (item : Item). record { item = item; form = x.form }) i ∙ ap (λ (form : Form). record { item = y.item; form = form }) f

same-forms : (xs ys : List Formed) → AreNoLonger xs ys → AreNoLonger ys xs → xs ≡ ys
same-forms [] [] h k = refl
same-forms [] (y ∷ ys) h k = absurd h
same-forms (x ∷ xs) [] h k = absurd h
same-forms (x ∷ xs) (y ∷ ys) h k =
    ap (λ (z : Formed). z ∷ xs) (formed-by x y h.0 (same-form x.form y.form h.1.0 k.1.0)) ∙ ap (λ (zs : List Formed). y ∷ zs) (same-forms xs ys h.1.1 k.1.1)

pub one-assembly : (code : Code) (v w : List ℕ) → IsAssembly code v → IsAssembly code w → v ≡ w
one-assembly code v w a b =
    let same : a.formed ≡ b.formed = same-forms a.formed b.formed (a.least b.formed b.items b.first) (b.least a.formed a.items a.first) in
    a.made ∙ ap (λ (xs : List Formed). map word_of (laid (way code.bound xs) 0 xs)) same ∙ sym b.made
