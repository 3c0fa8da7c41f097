-- Versions laid out one after another, and passes that they serve.
use Rattle.std.proofs.Common.{◌≡◌, ◌≢◌, refl, sym, ap, subst, ◌∙◌, ℕ, zero, suc, ◌+◌, ◌-◌, ◌*◌, ◌/◌, ◌<◌, ◌≤◌, true, false, List, [], ◌∷◌, ◌++◌, length, Some, None, arith, length-append}
use Rattle.std.specs.Prelude.{◌==◌, if◌then◌else◌, Contains, slice_index_or}
use Rattle.std.specs.List.{slice_get}
use Rattle.ir_meaning.specs.Plays.{Meaning}
use Rattle.rv_play.specs.declared.version.Version.{Version}
use Rattle.rv_play.specs.Machine.{code_base}
use Rattle.rv_play.specs.Good.{Good}
use Rattle.rv_play.specs.Ending.{Item, Held, Saw}
use Rattle.rv_play.specs.Link.{Agrees, Backs, Backed}
use Rattle.hart.specs.Fixed.{Serves, AreVersions, AreInOrder, AllGood, code_of, bases_of}
use Rattle.hart.proofs.Stores.{pick, pick_no}

pub serves_held : (cells code : List ℕ) (pass : List Item) (symbol base : ℕ) → Serves cells code pass → slice_get cells symbol ≡ Some base
    → Serves cells code (pass ++ Held symbol base ∷ [])
serves_held cells code [] symbol base s h = (h, tt)
serves_held cells code (Held k b ∷ pass) symbol base s h = (s.0, serves_held cells code pass symbol base s.1 h)
serves_held cells code (Saw a w ∷ pass) symbol base s h = (s.0, s.1, serves_held cells code pass symbol base s.2 h)

pub serves_saw : (cells code : List ℕ) (pass : List Item) (address word : ℕ) → Serves cells code pass
    → code_base ≤ address → slice_get code ((address - code_base) / 4) ≡ Some word
    → Serves cells code (pass ++ Saw address word ∷ [])
serves_saw cells code [] address word s l h = (l, h, tt)
serves_saw cells code (Held k b ∷ pass) address word s l h = (s.0, serves_saw cells code pass address word s.1 l h)
serves_saw cells code (Saw a w ∷ pass) address word s l h = (s.0, s.1, serves_saw cells code pass address word s.2 l h)

-- ---- where a version stands

-- the words of the version with this base, among versions of which the first header stands at a place
abbrev pub words_at : ℕ → List Version → ℕ → List ℕ
words_at place [] base = []
words_at place (v ∷ vs) base = if base == code_base + 4 * (place + 1) then v.words else words_at (place + 1 + length v.words) vs base

slice_get_left : (xs ys : List ℕ) (i w : ℕ) → slice_get xs i ≡ Some w → slice_get (xs ++ ys) i ≡ Some w
slice_get_left [] ys i w h = absurd (let bad : None ≡ Some w = h in cc)
slice_get_left (x ∷ xs) ys zero w h = h
slice_get_left (x ∷ xs) ys (suc i) w h = slice_get_left xs ys i w h

slice_get_right : (xs ys : List ℕ) (j : ℕ) → slice_get (xs ++ ys) (length xs + j) ≡ slice_get ys j
slice_get_right [] ys j = let e : 0 + j ≡ j = omega arith in ap (slice_get ys) e
slice_get_right (x ∷ xs) ys j =
    let e : length (x ∷ xs) + j ≡ suc (length xs + j) = omega arith in
    ap (slice_get (x ∷ (xs ++ ys))) e ∙ slice_get_right xs ys j

-- the version whose base a cell holds; so many code words stand ahead of its header
pub record Located (place n : ℕ) (vs : List Version) (k base : ℕ) : Type 0 where
  pub version : Version
  pub at : slice_get vs k ≡ Some version
  pub ahead : ℕ
  pub base_is : base ≡ code_base + 4 * (place + ahead + 1)
  pub high : ahead + 1 + length version.words ≤ length (code_of n vs)
  pub words : words_at place vs base ≡ version.words
  pub stand : (i w : ℕ) → slice_get version.words i ≡ Some w → slice_get (code_of n vs) (ahead + 1 + i) ≡ Some w

test_same : (a b : ℕ) → a ≡ b → (a == b) ≡ true
test_same a b e = grind arith

test_other : (a b : ℕ) → a ≢ b → (a == b) ≡ false
test_other a b e = grind arith

pub located : (place n : ℕ) (vs : List Version) (k base : ℕ) → slice_get (bases_of place vs) k ≡ Some base → Located place n vs k base
located place n [] k base h = absurd (let bad : None ≡ Some base = h in cc)
located place n (v ∷ vs) zero base h =
    let first : Some (code_base + 4 * (place + 1)) ≡ Some base = h in
    let e : code_base + 4 * (place + 1) ≡ base = cc in
    record {
      version = v;
      at = refl;
      ahead = 0;
      base_is = omega arith;
      high = let l = length-append v.words (code_of (n + 1) vs) in omega arith;
      words = pick (base == code_base + 4 * (place + 1)) _ _ (test_same base (code_base + 4 * (place + 1)) (sym e));
      stand = λ i w g.
          let j : 0 + 1 + i ≡ suc i = omega arith in
          ap (slice_get ((n + 1) ∷ (v.words ++ code_of (n + 1) vs))) j ∙ slice_get_left v.words (code_of (n + 1) vs) i w g;
    }
located place n (v ∷ vs) (suc k) base h =
    let r = located (place + 1 + length v.words) (n + 1) vs k base h in
    let is = r.base_is in
    let other : base ≢ code_base + 4 * (place + 1) = λ e. omega arith in
    record {
      version = r.version;
      at = r.at;
      ahead = 1 + length v.words + r.ahead;
      base_is = omega arith;
      high = let l = length-append v.words (code_of (n + 1) vs) in let q = r.high in omega arith;
      words = pick_no (base == code_base + 4 * (place + 1)) _ _ (test_other base (code_base + 4 * (place + 1)) other) ∙ r.words;
      stand = λ i w g.
          let j : 1 + length v.words + r.ahead + 1 + i ≡ suc (length v.words + (r.ahead + 1 + i)) = omega arith in
          ap (slice_get ((n + 1) ∷ (v.words ++ code_of (n + 1) vs))) j ∙ slice_get_right v.words (code_of (n + 1) vs) (r.ahead + 1 + i) ∙ r.stand i w g;
    }

first_base : (place : ℕ) (v : Version) (vs : List Version) (base : ℕ) → slice_get (bases_of place (v ∷ vs)) 0 ≡ Some base → base ≡ code_base + 4 * (place + 1)
first_base place v vs base h = let first : Some (code_base + 4 * (place + 1)) ≡ Some base = h in cc

-- a base is that of one symbol
pub one_place : (place : ℕ) (vs : List Version) (k k' base : ℕ) → slice_get (bases_of place vs) k ≡ Some base → slice_get (bases_of place vs) k' ≡ Some base → k ≡ k'
one_place place [] k k' base h h' = absurd (let bad : None ≡ Some base = h in cc)
one_place place (v ∷ vs) zero zero base h h' = refl
one_place place (v ∷ vs) zero (suc k') base h h' =
    let e = first_base place v vs base h in let r = (located (place + 1 + length v.words) 0 vs k' base h').base_is in absurd (omega arith)
one_place place (v ∷ vs) (suc k) zero base h h' =
    let e = first_base place v vs base h' in let r = (located (place + 1 + length v.words) 0 vs k base h).base_is in absurd (omega arith)
one_place place (v ∷ vs) (suc k) (suc k') base h h' = ap suc (one_place (place + 1 + length v.words) vs k k' base h h')

-- words of different bases stand apart
pub apart : (place : ℕ) (vs : List Version) (k k' base base' : ℕ) → slice_get (bases_of place vs) k ≡ Some base → slice_get (bases_of place vs) k' ≡ Some base'
    → base < base' → base + 4 * length (words_at place vs base) ≤ base'
apart place [] k k' base base' h h' less = absurd (let bad : None ≡ Some base = h in cc)
apart place (v ∷ vs) zero zero base base' h h' less =
    let e = first_base place v vs base h in let e' = first_base place v vs base' h' in absurd (omega arith)
apart place (v ∷ vs) zero (suc k') base base' h h' less =
    let e = first_base place v vs base h in
    let r = (located (place + 1 + length v.words) 0 vs k' base' h').base_is in
    let own : words_at place (v ∷ vs) base ≡ v.words = pick (base == code_base + 4 * (place + 1)) _ _ (test_same base (code_base + 4 * (place + 1)) e) in
    let long : length (words_at place (v ∷ vs) base) ≡ length v.words = ap length own in
    omega arith
apart place (v ∷ vs) (suc k) zero base base' h h' less =
    let e = first_base place v vs base' h' in let r = (located (place + 1 + length v.words) 0 vs k base h).base_is in absurd (omega arith)
apart place (v ∷ vs) (suc k) (suc k') base base' h h' less =
    let r = (located (place + 1 + length v.words) 0 vs k base h).base_is in
    let other : base ≢ code_base + 4 * (place + 1) = λ e. omega arith in
    let own : words_at place (v ∷ vs) base ≡ words_at (place + 1 + length v.words) vs base =
    pick_no (base == code_base + 4 * (place + 1)) _ _ (test_other base (code_base + 4 * (place + 1)) other) in
    let long : length (words_at place (v ∷ vs) base) ≡ length (words_at (place + 1 + length v.words) vs base) = ap length own in
    let rest = apart (place + 1 + length v.words) vs k k' base base' h h' less in
    omega arith

good_at : (m : Meaning) (s : ℕ) (vs : List Version) (k : ℕ) (v : Version) → AllGood m vs → AreInOrder s vs → slice_get vs k ≡ Some v → Good m (s + k) v.words
good_at m s [] k v g o h = absurd (let bad : None ≡ Some v = h in cc)
good_at m s (x ∷ vs) zero v g o h =
    let e : x ≡ v = (let q : Some x ≡ Some v = h in cc) in
    let n : x.symbol ≡ s + 0 = omega (arith, o.0) in
    subst (λ (u : Version). Good m (s + 0) u.words) e (subst (λ (j : ℕ). Good m j x.words) n g.0)
good_at m s (x ∷ vs) (suc k) v g o h =
    let n : s + 1 + k ≡ s + suc k = omega arith in
    subst (λ (j : ℕ). Good m j v.words) n (good_at m (s + 1) vs k v g.1 o.1 h)

-- what a served pass holds stands in the cell
held-at : (cells code : List ℕ) (pass : List Item) (k symbol base : ℕ) → Serves cells code pass → k < length pass
    → slice_index_or pass k (Held symbol base) ≡ Held symbol base → slice_get cells symbol ≡ Some base
held-at cells code [] k symbol base s l h = absurd (omega arith)
held-at cells code (Held k b ∷ pass) zero symbol base s l h =
    let e : Held k b ≡ Held symbol base = h in
    let one : k ≡ symbol = cc in let two : b ≡ base = cc in
    ap (slice_get cells) (sym one) ∙ s.0 ∙ ap (λ (x : ℕ). Some x) two
held-at cells code (Saw a w ∷ pass) zero symbol base s l h = absurd (let bad : Saw a w ≡ Held symbol base = h in cc)
held-at cells code (Held k b ∷ pass) (suc i) symbol base s l h = held-at cells code pass i symbol base s.1 (omega arith) h
held-at cells code (Saw a w ∷ pass) (suc i) symbol base s l h = held-at cells code pass i symbol base s.2 (omega arith) h

held_in : (cells code : List ℕ) (pass : List Item) (symbol base : ℕ) → Serves cells code pass → Contains pass (Held symbol base) → slice_get cells symbol ≡ Some base
held_in cells code pass symbol base s c = held-at cells code pass c.0 symbol base s c.1 c.2

-- what a served pass saw in the words' range are the words
agrees : (cells code : List ℕ) (base p : ℕ) (words : List ℕ) (pass : List Item) → base ≡ code_base + 4 * p
    → ((i w : ℕ) → slice_get words i ≡ Some w → slice_get code (p + i) ≡ Some w) → Serves cells code pass → Agrees base words pass
agrees cells code base p words [] e g s = tt
agrees cells code base p words (Held k b ∷ pass) e g s = agrees cells code base p words pass e g s.1
agrees cells code base p words (Saw a x ∷ pass) e g s = (
  (λ i w at stands.
      let j : (a - code_base) / 4 ≡ p + i = omega arith in
      let both : Some w ≡ Some x = sym (g i w stands) ∙ ap (slice_get code) (sym j) ∙ s.1 in cc),
  agrees cells code base p words pass e g s.2,
)

backs : (m : Meaning) (vs : List Version) (pass : List Item) → AreVersions vs → AllGood m vs → Serves (bases_of 0 vs) (code_of 0 vs) pass
    → Backs m (length (code_of 0 vs)) (words_at 0 vs) pass
backs m vs [] a g s = tt
backs m vs (Saw address word ∷ pass) a g s = backs m vs pass a g s.2
backs m vs (Held symbol base ∷ pass) a g s =
    let r = located 0 0 vs symbol base s.0 in
    let is = r.base_is in let high = r.high in let room = a.room in
    let long : length (words_at 0 vs base) ≡ length r.version.words = ap length r.words in
    let same : 0 + symbol ≡ symbol = omega arith in
    let good : Good m symbol r.version.words = subst (λ (k : ℕ). Good m k r.version.words) same (good_at m 0 vs symbol r.version g a.ordered r.at) in
    let stands : Agrees base r.version.words pass = agrees (bases_of 0 vs) (code_of 0 vs) base (0 + r.ahead + 1) r.version.words pass is
    (λ i w h. (let j : 0 + r.ahead + 1 + i ≡ r.ahead + 1 + i = omega arith in ap (slice_get (code_of 0 vs)) j) ∙ r.stand i w h) s.1 in (
      (
        subst (Good m symbol) (sym r.words) good,
        record { aligned = omega arith; low = omega arith; high = omega arith },
        omega arith,
        subst (λ (ws : List ℕ). Agrees base ws pass) (sym r.words) stands,
      ),
      backs m vs pass a g s.1,
    )

-- passes over good versions are backed
pub fixed_backed : (m : Meaning) (vs : List Version) (pass : List Item) → AreVersions vs → AllGood m vs → Serves (bases_of 0 vs) (code_of 0 vs) pass
    → Backed m (length (code_of 0 vs)) pass
fixed_backed m vs pass a g s = (
  a.room,
  words_at 0 vs,
  backs m vs pass a g s,
  record {
    one_symbol = λ k k' base c c'. one_place 0 vs k k' base (held_in (bases_of 0 vs) (code_of 0 vs) pass k base s c) (held_in (bases_of 0 vs) (code_of 0 vs) pass k' base s c');
    disjoint = λ k k' base base' c c' less.
        apart 0 vs k k' base base' (held_in (bases_of 0 vs) (code_of 0 vs) pass k base s c) (held_in (bases_of 0 vs) (code_of 0 vs) pass k' base' s c') less;
  },
)
