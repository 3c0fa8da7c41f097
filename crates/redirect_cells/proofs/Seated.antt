-- The seats of harts, when they are made and when they are taken in.
use Rattle.std.proofs.Common.{◌≡◌, ℕ, zero, suc, ◌+◌, ◌<◌, List, [], ◌∷◌, ◌++◌, map, length, length-append, get_or, All, sym, refl, ap, subst, ◌∙◌, ⊎_elim, arith}
use mathlib.Core.Option.{some, some-injective, some-ne-none}
use Rattle.code_epochs.specs.declared.parts.Book.{Book}
use Rattle.code_epochs.specs.declared.parts.HartPart.{HartPart}
use Rattle.code_epochs.specs.Sound.{At, Has}
use Rattle.code_epochs.specs.Steps.{new_part}
use Rattle.code_epochs.proofs.Lists.{at_snoc, at_some}
use Rattle.redirect_cells.specs.declared.view.Role.{Role}
use Rattle.redirect_cells.specs.declared.view.Role.TheVariants.{Hart}
use Rattle.redirect_cells.specs.declared.table.CodeTable.{CodeTable}
use Rattle.redirect_cells.specs.declared.hart_seat.HartSeat.{HartSeat}
use Rattle.redirect_cells.specs.Kept.{word_in, part_of}
use Rattle.redirect_cells.specs.Gathered.{IsIdleSeat, AreAllHarts, numbers_of, parts_of}
use Rattle.redirect_cells.specs.Keeping.{AllGone}
use Rattle.redirect_cells.specs.Opened.{AreNewSeats}

module _ {A : Type 0} where
  at_or : (l : List A) (i : ℕ) (d : A) → i < length l → At l i (get_or l i d)
  at_or [] i d h = absurd (omega arith)
  at_or (x ∷ xs) zero d h = refl
  at_or (x ∷ xs) (suc i) d h = at_or xs i d (omega arith)

  at_behind : (xs ys : List A) (i : ℕ) (y : A) → At ys i y → At (xs ++ ys) (length xs + i) y
  at_behind [] ys i y e = subst (λ (k : ℕ). At ys k y) (let z : i ≡ length {A = A} [] + i = omega arith in z) e
  at_behind (x ∷ xs) ys i y e = subst (λ (k : ℕ). At (x ∷ (xs ++ ys)) k y) (let z : suc (length xs + i) ≡ length (x ∷ xs) + i = omega arith in z) (at_behind xs ys i y e)

  pub append_snoc : (xs ys : List A) (z : A) → xs ++ (ys ++ z ∷ []) ≡ (xs ++ ys) ++ z ∷ []
  append_snoc [] ys z = refl
  append_snoc (x ∷ xs) ys z = ap (λ (l : List A). x ∷ l) (append_snoc xs ys z)

pub numbers_snoc : (xs : List HartSeat) (x : HartSeat) → numbers_of (xs ++ x ∷ []) ≡ numbers_of xs ++ x.number ∷ []
numbers_snoc [] x = refl
numbers_snoc (y ∷ xs) x = ap (λ (l : List ℕ). y.number ∷ l) (numbers_snoc xs x)

pub parts_snoc : (xs : List HartSeat) (x : HartSeat) → parts_of (xs ++ x ∷ []) ≡ parts_of xs ++ part_of x.seat.me.0 ∷ []
parts_snoc [] x = refl
parts_snoc (y ∷ xs) x = ap (λ (l : List HartPart). part_of y.seat.me.0 ∷ l) (parts_snoc xs x)

at_number : (xs : List HartSeat) (i : ℕ) (x : HartSeat) → At xs i x → At (numbers_of xs) i x.number
at_number [] i x e = absurd (some-ne-none x (sym e))
at_number (y ∷ xs) zero x e = ap (λ (z : HartSeat). some z.number) (some-injective y x e)
at_number (y ∷ xs) (suc i) x e = at_number xs i x e

pub seats_none : (table : CodeTable) → AreNewSeats table 0 []
seats_none table = (refl, λ h s at. absurd (some-ne-none s (sym at)))

pub seats_more : (table : CodeTable) (n : ℕ) (seats new : List HartSeat) (s : HartSeat) → AreNewSeats table n seats → new ≡ seats ++ s ∷ [] → s.table.now ≡ table → s.number ≡ n → s.seat.me.0.role ≡ Hart record { number = n; word = 0; part = new_part } → AreNewSeats table (n + 1) new
seats_more table n seats new s old is here number role = (
  ap length is ∙ more seats n old.0,
  λ h u at. ⊎_elim
      (λ (t : At seats h u). old.1 h u t)
      (λ (t : (h ≡ length seats) × (s ≡ u)).
      let e : n ≡ h = sym (t.0 ∙ old.0) in
      subst (λ (y : HartSeat). (y.table.now ≡ table) × (y.number ≡ h) × (y.seat.me.0.role ≡ Hart record { number = h; word = 0; part = new_part })) t.1
      (here, number ∙ e, subst (λ (k : ℕ). s.seat.me.0.role ≡ Hart record { number = k; word = 0; part = new_part }) e role))
      (at_snoc seats s u h (subst (λ (l : List HartSeat). At l h u) is at)),
)
  where
    more : (xs : List HartSeat) (n : ℕ) → length xs ≡ n → length (xs ++ s ∷ []) ≡ n + 1
    more [] n e = omega arith
    more (x ∷ xs) n e = let r = more xs (length xs) refl in omega arith

-- new seats are idle
pub seats_idle : (table : CodeTable) (n : ℕ) (seats : List HartSeat) → AreNewSeats table n seats → All (IsIdleSeat table) seats
seats_idle table n seats all k d low =
    let s = all.1 k (get_or seats k d) (at_or seats k d low) in
    (s.0, ap word_in s.2)

-- and there is one for each hart
pub seats_all : (table : CodeTable) (n : ℕ) (seats : List HartSeat) → AreNewSeats table n seats → AreAllHarts n seats
seats_all table n seats all h low =
    let count = all.0 in
    let below : h < length seats = omega arith in
    (h, below, λ d. (all.1 h (get_or seats h d) (at_or seats h d below)).1)

at_is : (l : List HartSeat) (i : ℕ) (x d : HartSeat) → At l i x → get_or l i d ≡ x
at_is [] i x d e = absurd (some-ne-none x (sym e))
at_is (y ∷ l) zero x d e = some-injective y x e
at_is (y ∷ l) (suc i) x d e = at_is l i x d e

-- where all seats were taken in, all harts are gone
pub all_gone : (harts : ℕ) (old now : List ℕ) (seats : List HartSeat) → now ≡ old ++ numbers_of seats → AreAllHarts harts seats → (h : ℕ) → h < harts → Has now h
all_gone harts old now seats is all h low =
    let mine = all h low in
    let s = at_some seats mine.0 mine.1 in
    let number : s.0.number ≡ h = sym (ap (λ (y : HartSeat). y.number) (at_is seats mine.0 s.0 s.0 s.1)) ∙ mine.2 s.0 in
    let here : At (numbers_of seats) mine.0 h = subst (λ (k : ℕ). At (numbers_of seats) mine.0 k) number (at_number seats mine.0 s.0 s.1) in
    (length old + mine.0, subst (λ (l : List ℕ). At l (length old + mine.0) h) (sym is) (at_behind old (numbers_of seats) mine.0 h here))

pub some_seats : (harts : ℕ) (seats : List HartSeat) → 0 < harts → AreAllHarts harts seats → 0 < length seats
some_seats harts seats more all = let low = (all 0 more).1 in omega arith

module _ {A : Type 0} where
  get_here : (ys zs : List A) (x : A) → get_or (ys ++ x ∷ zs) (length ys) x ≡ x
  get_here [] zs x = refl
  get_here (y ∷ ys) zs x = get_here ys zs x

  -- what holds of all holds of the one in the middle
  pub one_of : (P : A → Type 0) (ys zs l : List A) (x : A) → ys ++ x ∷ zs ≡ l → All P l → P x
  one_of P ys zs l x e h =
      let low : length ys < length (ys ++ x ∷ zs) = (let n = length-append ys (x ∷ zs) in omega arith) in
      subst P (get_here ys zs x) (subst (All P) (sym e) h (length ys) x low)
