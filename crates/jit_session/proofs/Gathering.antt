-- What harts leave, put together.
use Rattle.std.proofs.Common.{◌≡◌, ℕ, zero, suc, ◌+◌, ◌*◌, ◌/◌, ◌%◌, ◌<◌, ◌≤◌, List, [], ◌∷◌, ◌++◌, length, take, get_or, refl, sym, ap, subst, ◌∙◌, ⊎_elim, arith}
use Rattle.std.specs.Prelude.{slice_index}
use Rattle.std.proofs.Math.Nat.{mul-le-mul_left, mul-suc, mod-add-div, mod-lt}
use Rattle.std.proofs.Math.Seq.{take-suc}
use Rattle.std.proofs.lemmas.Bool.{cases_lt}
use Rattle.std.proofs.lemmas.List.Sums.{sum_by_push}
use mathlib.Core.Option.{some-injective, some-ne-none}
use Rattle.ir_core.specs.Program.{Program}
use Rattle.ir_meaning.specs.declared.calls.Ended.{Ended}
use Rattle.ir_meaning.specs.declared.calls.ListedCall.{ListedCall}
use Rattle.ir_meaning.specs.Right.{Right}
use Rattle.code_epochs.specs.Sound.{At}
use Rattle.entry_counts.specs.Tally.{times}
use Rattle.entry_counts.specs.declared.seat.CountSeat.{CountSeat}
use Rattle.entry_counts.proofs.Sums.{times_append}
use Rattle.redirect_cells.specs.declared.hart_seat.HartSeat.{HartSeat}
use Rattle.jit_session.specs.declared.runner.Runner.{Runner}
use Rattle.jit_session.specs.Runs.{AllRight, Each, HasAnswered, place_of}
use Rattle.jit_session.specs.Settling.{IsRow, AreAnswersOf, column, seats_of}
use Rattle.code_epochs.proofs.Lists.{at_below, at_last, at_longer}

right-push : (program : Program) (calls : List ListedCall) (ends : List Ended) (call : ListedCall) (end : Ended) → AllRight program calls ends → Right program call end
    → AllRight program (calls ++ call ∷ []) (ends ++ end ∷ [])
right-push program [] [] call end all right = (right, tt)
right-push program [] (e ∷ ends) call end all right = absurd all
right-push program (c ∷ calls) [] call end all right = absurd all
right-push program (c ∷ calls) (e ∷ ends) call end all right = (all.0, right-push program calls ends call end all.1 right)

call_at : (calls : List ListedCall) (i : ℕ) (call : ListedCall) → At calls i call → call ≡ get_or calls i call
call_at [] i call at = absurd (some-ne-none call (sym at))
call_at (c ∷ calls) zero call at = sym (some-injective c call at)
call_at (c ∷ calls) (suc i) call at = call_at calls i call at

-- one answer more
pub one_right : (program : Program) (calls : List ListedCall) (ends : List Ended) (i : ℕ) (call : ListedCall) (end : Ended) → i < length calls → At calls i call
    → AllRight program (take i calls) ends → Right program call end → AllRight program (take (i + 1) calls) (ends ++ end ∷ [])
one_right program calls ends i call end below at all right =
    let k : i + 1 ≡ suc i = omega arith in
    let e : take (i + 1) calls ≡ take i calls ++ call ∷ [] = ap (λ (n : ℕ). take n calls) k ∙ take-suc calls i call below ∙ ap (λ (c : ListedCall). take i calls ++ c ∷ []) (sym (call_at calls i call at)) in
    subst (λ (cs : List ListedCall). AllRight program cs (ends ++ end ∷ [])) (sym e) (right-push program (take i calls) ends call end all right)

-- the call at a place has been answered by its hart
pub answered_below : (harts place n calls : ℕ) → place < calls → calls ≤ place_of harts (place % harts) n → place / harts < n
answered_below harts place n calls low whole = ⊎_elim (λ lt. lt) (λ le. absurd (let more = mul-le-mul_left harts le in let is = mod-add-div place harts in let bad : ⊥ = omega arith in bad)) (cases_lt (place / harts) n)

-- the answer to the call at a place is right
pub right_at : {G : Type 0} (program : Program) (calls : List ListedCall) (runners : List (Runner G)) (harts place : ℕ) (r : Runner G) (e : Ended) → HasAnswered program calls harts (place % harts) r.answers.items
    → At r.answers.items (place / harts) e → (call : ListedCall) × At calls place call × Right program call e
right_at program calls runners harts place r e h at =
    let is = h.right (place / harts) e at in
    (is.0, subst (λ (k : ℕ). At calls k is.0) (mod-add-div place harts) is.1, is.2)

pub seats_push : {G : Type 0} (runners : List (Runner G)) (r : Runner G) → seats_of (runners ++ r ∷ []) ≡ seats_of runners ++ r.bench.seat ∷ []
seats_push [] r = refl
seats_push (x ∷ runners) r = ap (λ (l : List HartSeat). x.bench.seat ∷ l) (seats_push runners r)

-- one row more
pub counted_more : (k symbols : ℕ) (c : CountSeat) (joined : List ℕ) (rows : List (List ℕ)) (row : List ℕ) → k < symbols → IsRow symbols c row → c.seat.me.0.joined ≡ [] → times k joined ≡ column k rows
    → times k (joined ++ (c.seat.me.0.own ++ c.seat.me.0.joined)) ≡ column k (rows ++ row ∷ [])
counted_more k symbols c joined rows row low is none before =
    let a = times_append k joined (c.seat.me.0.own ++ c.seat.me.0.joined) in
    let b = times_append k c.seat.me.0.own c.seat.me.0.joined in
    let n : times k c.seat.me.0.joined ≡ 0 = ap (times k) none in
    let long = is.0 in
    let own : slice_index row k ≡ times k c.seat.me.0.own = is.1 k 0 (omega arith) in
    let sum = sum_by_push (λ (l : List ℕ). slice_index l k) rows row in
    omega (arith, a, b, n, own, sum, before)

pub seats_long : {G : Type 0} (runners : List (Runner G)) → length (seats_of runners) ≡ length runners
seats_long [] = refl
seats_long (x ∷ runners) = ap suc (seats_long runners)

-- ---- each answer in its call's place

get_any : {A : Type 0} (xs : List A) (i : ℕ) (a b : A) → i < length xs → get_or xs i a ≡ get_or xs i b
get_any [] i a b low = absurd (omega arith)
get_any (x ∷ xs) zero a b low = refl
get_any (x ∷ xs) (suc i) a b low = get_any xs i a b (omega arith)

pub at_get : {A : Type 0} (xs : List A) (i : ℕ) (x : A) → At xs i x → x ≡ get_or xs i x
at_get [] i x at = absurd (some-ne-none x (sym at))
at_get (y ∷ xs) zero x at = sym (some-injective y x at)
at_get (y ∷ xs) (suc i) x at = at_get xs i x at

-- a place is that of one call of one hart
same_number : (n h i q s : ℕ) → h < n → q < n → h + n * i ≡ q + n * s → i ≡ s
same_number n h i q s low low' e = ⊎_elim
    (λ (lt : i < s). absurd (let more = mul-le-mul_left n (as_le i s lt) in let k = mul-suc n i in let bad : ⊥ = omega (arith, more, k, e, low, low') in bad))
    (λ (ge : s ≤ i). ⊎_elim
    (λ (lt : s < i). absurd (let more = mul-le-mul_left n (as_le s i lt) in let k = mul-suc n s in let bad : ⊥ = omega (arith, more, k, e, low, low') in bad))
    (λ (le : i ≤ s). omega (arith, ge, le))
    (cases_lt s i))
    (cases_lt i s)
  where
    as_le : (a b : ℕ) → a < b → suc a ≤ b
    as_le a b lt = omega (arith, lt)

module _ {G : Type 0} (runners : List (Runner G)) (place : ℕ) (answers more : List Ended) (r : Runner G) (e : Ended) where
  place_number : 0 < length runners → (h i : ℕ) → h < length runners → h + length runners * i ≡ place → i ≡ place / length runners
  place_number positive h i low is =
      same_number (length runners) h i (place % length runners) (place / length runners) low (mod-lt place positive) (is ∙ sym (mod-add-div place (length runners)))

  place_hart : 0 < length runners → (h i : ℕ) → h < length runners → h + length runners * i ≡ place → h ≡ place % length runners
  place_hart positive h i low is =
      let whole = mod-add-div place (length runners) in
      let same : length runners * i ≡ length runners * (place / length runners) = ap (λ (k : ℕ). length runners * k) (place_number positive h i low is) in
      omega (arith, whole, same, is)

  same_place : 0 < length runners → more ≡ answers ++ e ∷ [] → length answers ≡ place → r ≡ get_or runners (place % length runners) r → e ≡ get_or r.answers.items (place / length runners) e
      → (h : ℕ) (d : Runner G) → h < length runners → (i : ℕ) (u : Ended) → At (get_or runners h d).answers.items i u → h + length runners * i ≡ place → At more (h + length runners * i) u
  same_place positive items long runner answer h d low i u at is =
      let number : i ≡ place / length runners = place_number positive h i low is in
      let hart : h ≡ place % length runners = place_hart positive h i low is in
      let one : get_or runners h d ≡ r = get_any runners h d r low ∙ ap (λ (k : ℕ). get_or runners k r) hart ∙ sym runner in
      let here : At r.answers.items i u = subst (λ (q : Runner G). At q.answers.items i u) one at in
      let same : u ≡ e = at_get r.answers.items i u here ∙ get_any r.answers.items i u e (at_below r.answers.items i u here) ∙ ap (λ (k : ℕ). get_or r.answers.items k e) number ∙ sym answer in
      subst (λ (l : List Ended). At l (h + length runners * i) u) (sym items)
      (subst (λ (k : ℕ). At (answers ++ e ∷ []) k u) (long ∙ sym is) (subst (λ (x : Ended). At (answers ++ e ∷ []) (length answers) x) (sym same) (at_last answers e)))

  -- one answer more stands in its call's place
  pub one_more_same : 0 < length runners → more ≡ answers ++ e ∷ [] → length answers ≡ place → r ≡ get_or runners (place % length runners) r → e ≡ get_or r.answers.items (place / length runners) e
      → Each (λ h (q : Runner G). AreAnswersOf place (length runners) h answers q.answers.items) runners → Each (λ h (q : Runner G). AreAnswersOf (place + 1) (length runners) h more q.answers.items) runners
  one_more_same positive items long runner answer all h d low i u at below = ⊎_elim
      (λ (lt : h + length runners * i < place). subst (λ (l : List Ended). At l (h + length runners * i) u) (sym items) (at_longer answers (e ∷ []) (h + length runners * i) u (all h d low i u at lt)))
      (λ (ge : place ≤ h + length runners * i). same_place positive items long runner answer h d low i u at (omega (arith, ge, below)))
      (cases_lt (h + length runners * i) place)
