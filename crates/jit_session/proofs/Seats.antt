-- Seats from one step of a bench to the next.
use Rattle.std.proofs.Common.{◌≡◌, ℕ, ◌+◌, ◌<◌, ◌≤◌, min, Bool, true, false, List, [], ◌∷◌, ◌++◌, length, refl, sym, ap, subst, ◌∙◌, ⊎_elim, arith}
use Rattle.std.proofs.lemmas.Bool.Decides.{nat_tests}
use Rattle.std.proofs.lemmas.Bool.{cases_lt}
use mathlib.Core.Logic.{dite}
use native.Mathlib.Decide.{ℕ_discrete}
use Rattle.rv_play.specs.Ending as ending
use Rattle.code_epochs.specs.declared.parts.Item.{Item}
use Rattle.code_epochs.specs.declared.parts.HartPart.{HartPart}
use Rattle.code_epochs.specs.Passes.{items_of, item_of}
use Rattle.redirect_cells.specs.declared.view.Role.{Role}
use Rattle.redirect_cells.specs.declared.view.Role.TheVariants.{Hart, Keeper, Spent}
use Rattle.code_epochs.specs.Steps.{with_item, ended_part}
use Rattle.entry_counts.specs.declared.view.Tally.{Tally}
use Rattle.entry_counts.specs.declared.seat.CountSeat.{CountSeat}
use Rattle.entry_counts.specs.Tally.{times, with_entry}
use Rattle.entry_counts.proofs.Sums.{times_same, times_one}
use Rattle.redirect_cells.specs.declared.hart_seat.HartSeat.{HartSeat}
use Rattle.redirect_cells.specs.Kept.{Begun, WasServed, meaning_of, part_of, word_in}
use Rattle.jit_session.specs.Benches.{has_begun, HasHad, HasCounted, StandsFor}

-- the announced word is above 0 where the seat has begun
pub begun_of : (r : Role) → has_begun r ≡ true → Begun r
begun_of (Hart v) e = grind (arith, nat_tests)
begun_of (Keeper book) e = absurd (let bad : ⊥ = cc in bad)
begun_of Spent e = absurd (let bad : ⊥ = cc in bad)

pub has_begun_of : (r : Role) → Begun r → has_begun r ≡ true
has_begun_of (Hart v) b = grind (arith, nat_tests)
has_begun_of (Keeper book) b = absurd b
has_begun_of Spent b = absurd b

pub idle_of : (r : Role) → has_begun r ≡ false → word_in r ≡ 0
idle_of (Hart v) e = grind (arith, nat_tests)
idle_of (Keeper book) e = refl
idle_of Spent e = refl

pub has_not_begun : (r : Role) → word_in r ≡ 0 → has_begun r ≡ false
has_not_begun (Hart v) e = grind (arith, nat_tests)
has_not_begun (Keeper book) e = refl
has_not_begun Spent e = refl

pub none_items : (pass : List Item) → length pass ≡ 0 → items_of pass ≡ []
none_items [] e = refl
none_items (i ∷ pass) e = absurd (omega arith)

pub items_more : (pass : List Item) (i : Item) → items_of (pass ++ i ∷ []) ≡ items_of pass ++ item_of i ∷ []
items_more [] i = refl
items_more (j ∷ pass) i = ap (λ (l : List ending.Item). item_of j ∷ l) (items_more pass i)

-- ---- what a bench stands for

abbrev most : ℕ
most = 144115188075855872

counted_none : (c : CountSeat) → HasCounted c c []
counted_none c = record {
  table = refl;
  own = λ k low. (let fits = c.own_fits k low in omega arith);
  parts = refl;
  joined = refl;
}

-- the hart has begun
pub begins : (s s' : HartSeat) (c : CountSeat) → word_in s.seat.me.0.role ≡ 0 → s'.table ≡ s.table → s'.number ≡ s.number → Begun s'.seat.me.0.role
    → (part_of s'.seat.me.0).pass ≡ (part_of s.seat.me.0).pass → (part_of s'.seat.me.0).ended ≡ (part_of s.seat.me.0).ended → StandsFor s c s' c [] []
begins s s' c idle table number begun pass ended = record {
  table = table;
  number = number;
  had = subst (λ (b : Bool). HasHad b s'.table.now (part_of s.seat.me.0) (part_of s'.seat.me.0) []) (sym (has_begun_of s'.seat.me.0.role begun))
      (ap items_of pass ∙ none_items (part_of s.seat.me.0).pass (s.rested idle), ended);
  count = counted_none c;
}

-- the pass that is on its way
had_now : (since s : HartSeat) (pass : List ending.Item) → Begun s.seat.me.0.role → HasHad (has_begun s.seat.me.0.role) s.table.now (part_of since.seat.me.0) (part_of s.seat.me.0) pass
    → HasHad true s.table.now (part_of since.seat.me.0) (part_of s.seat.me.0) pass
had_now since s pass begun had = subst (λ (b : Bool). HasHad b s.table.now (part_of since.seat.me.0) (part_of s.seat.me.0) pass) (has_begun_of s.seat.me.0.role begun) had

-- one item more
pub goes_on : (since s s' : HartSeat) (c c' : CountSeat) (pass : List ending.Item) (counted : List ℕ) (item : Item) → StandsFor since c s c' pass counted
    → Begun s.seat.me.0.role → s'.table ≡ s.table → s'.number ≡ s.number → Begun s'.seat.me.0.role → part_of s'.seat.me.0 ≡ with_item (part_of s.seat.me.0) item
    → StandsFor since c s' c' (pass ++ item_of item ∷ []) counted
goes_on since s s' c c' pass counted item f begun table number begun' part =
    let had = had_now since s pass begun f.had in record {
      table = table ∙ f.table;
      number = number ∙ f.number;
      had = subst (λ (b : Bool). HasHad b s'.table.now (part_of since.seat.me.0) (part_of s'.seat.me.0) (pass ++ item_of item ∷ [])) (sym (has_begun_of s'.seat.me.0.role begun'))
          (ap (λ (p : HartPart). items_of p.pass) part ∙ items_more (part_of s.seat.me.0).pass item ∙ ap (λ (l : List ending.Item). l ++ item_of item ∷ []) had.0, ap (λ (p : HartPart). p.ended) part ∙ had.1);
      count = f.count;
    }

-- the pass has ended
pub ends : (since s s' : HartSeat) (c c' : CountSeat) (pass : List ending.Item) (counted : List ℕ) → StandsFor since c s c' pass counted
    → Begun s.seat.me.0.role → s'.table ≡ s.table → s'.number ≡ s.number → word_in s'.seat.me.0.role ≡ 0 → part_of s'.seat.me.0 ≡ ended_part (part_of s.seat.me.0)
    → WasServed s.table.now.table.shared.key (part_of s.seat.me.0).pass → StandsFor since c s' c' pass counted
ends since s s' c c' pass counted f begun table number idle part served =
    let had = had_now since s pass begun f.had in
    let last = (part_of s.seat.me.0).pass in record {
      table = table ∙ f.table;
      number = number ∙ f.number;
      had = subst (λ (b : Bool). HasHad b s'.table.now (part_of since.seat.me.0) (part_of s'.seat.me.0) pass) (sym (has_not_begun s'.seat.me.0.role idle)) (
        last,
        had.0,
        ap (λ (p : HartPart). p.ended) part ∙ ap (λ (l : List (List Item)). l ++ last ∷ []) had.1,
        subst (λ t. WasServed t.now.table.shared.key last) (sym table) served,
      );
      count = f.count;
    }

more_own : (symbol k : ℕ) (own since_own counted : List ℕ) → times symbol own < most → times k own ≡ min (times k since_own + times k counted) most
    → times k (own ++ symbol ∷ []) ≡ min (times k since_own + times k (counted ++ symbol ∷ [])) most
more_own symbol k own since_own counted few is = dite (ℕ_discrete k symbol)
    (λ same. let own' = subst (λ (i : ℕ). times i (own ++ symbol ∷ []) ≡ times i own + 1) (sym same) (times_same symbol own) in
    let counted' = subst (λ (i : ℕ). times i (counted ++ symbol ∷ []) ≡ times i counted + 1) (sym same) (times_same symbol counted) in
    let few' = subst (λ (i : ℕ). times i own < most) (sym same) few in
    omega arith)
    (λ apart. let own' = times_one k symbol own apart in let counted' = times_one k symbol counted apart in omega arith)

full_own : (symbol k : ℕ) (own since_own counted : List ℕ) → most ≤ times symbol own → times k own ≡ min (times k since_own + times k counted) most
    → times k own ≡ min (times k since_own + times k (counted ++ symbol ∷ [])) most
full_own symbol k own since_own counted full is = dite (ℕ_discrete k symbol)
    (λ same. let counted' = subst (λ (i : ℕ). times i (counted ++ symbol ∷ []) ≡ times i counted + 1) (sym same) (times_same symbol counted) in
    let full' = subst (λ (i : ℕ). most ≤ times i own) (sym same) full in
    omega arith)
    (λ apart. let counted' = times_one k symbol counted apart in omega arith)

-- one more symbol counted
pub counts_on : (c d d' : CountSeat) (counted : List ℕ) (symbol : ℕ) → HasCounted c d counted → d'.counts ≡ d.counts
    → (times symbol d.seat.me.0.own < most → d'.seat.me.0 ≡ with_entry d.seat.me.0 symbol) → (most ≤ times symbol d.seat.me.0.own → d' ≡ d) → HasCounted c d' (counted ++ symbol ∷ [])
counts_on c d d' counted symbol h table some full = ⊎_elim
    (λ few. let is = some few in record {
      table = table ∙ h.table;
      own = λ k low. subst (λ (v : Tally). times k v.own ≡ min (times k c.seat.me.0.own + times k (counted ++ symbol ∷ [])) most) (sym is) (more_own symbol k d.seat.me.0.own c.seat.me.0.own counted few (h.own k low));
      parts = ap (λ (v : Tally). v.parts) is ∙ h.parts;
      joined = ap (λ (v : Tally). v.joined) is ∙ h.joined;
    })
    (λ many. let is = full many in record {
      table = table ∙ h.table;
      own = λ k low. subst (λ (s : CountSeat). times k s.seat.me.0.own ≡ min (times k c.seat.me.0.own + times k (counted ++ symbol ∷ [])) most) (sym is) (full_own symbol k d.seat.me.0.own c.seat.me.0.own counted many (h.own k low));
      parts = ap (λ (s : CountSeat). s.seat.me.0.parts) is ∙ h.parts;
      joined = ap (λ (s : CountSeat). s.seat.me.0.joined) is ∙ h.joined;
    })
    (cases_lt (times symbol d.seat.me.0.own) most)

pub stands_counted : (since s : HartSeat) (c d d' : CountSeat) (pass : List ending.Item) (counted counted' : List ℕ) → StandsFor since c s d pass counted → HasCounted c d' counted' → StandsFor since c s d' pass counted'
stands_counted since s c d d' pass counted counted' f h = record { table = f.table; number = f.number; had = f.had; count = h }
