-- The keeper's steps once all of a version is stored: it is linked, and the one that it replaced is given up in the end.
use Rattle.std.proofs.Common.{◌≡◌, ◌≢◌, ◌⊎◌, ◌↔◌, ℕ, ◌+◌, ◌<◌, ◌≤◌, List, [], ◌∷◌, ◌++◌, map, length, set, Option, Some, None, refl, sym, ap, subst, ◌∙◌, arith}
use Rattle.std.proofs.lemmas.List.{length-set}
use Rattle.code_epochs.specs.declared.state.CodeState.{CodeState}
use Rattle.code_epochs.specs.declared.state.VersionState.{VersionState}
use Rattle.code_epochs.specs.declared.state.Status.{Status}
use Rattle.code_epochs.specs.declared.state.Status.TheVariants.{Linked, Unlinked, Pending, GivenUp}
use Rattle.code_epochs.specs.declared.parts.Look.{Look}
use Rattle.code_epochs.specs.Sound.{At, Stays, HasPassed, left, count_left, start_of}
use Rattle.code_epochs.specs.Steps.{unlinked, linked_of, with_status, RaisesEpoch, LooksAtHart, ClearsHeader, IsUnlinked, IsPending, AllPassed, epoch_raised, hart_looked, header_cleared, marked_by}
use Rattle.code_epochs.proofs.Lists.{at_some, at_below}
use Rattle.code_space.specs.Space.{Space, IsFree, IsTaken}
use Rattle.code_epochs.specs.Shelf.{count_staying}
use Rattle.code_epochs.proofs.Shelves.{count_set, count_link, one_stays}
use Rattle.jit_core.specs.declared.laying.Laying.{Laying}
use Rattle.jit_core.specs.declared.publishing.Publishing.{Publishing}
use Rattle.jit_core.specs.declared.publishing.Publishing.TheVariants.{Storing, Raising}
use Rattle.jit_core.specs.declared.publishing.Pair.{Pair}
use Rattle.jit_core.specs.declared.state_machine.Core.{Core}
use Rattle.jit_core.specs.Events.{Told, lay_draft, raise_for, clear_of, look_at, raises_epoch, looks_at, clears_header}
use Rattle.jit_core.specs.Laying.{Links, draft_from}
use Rattle.jit_core.specs.Spaces.{SpaceIs}
use Rattle.jit_core.specs.Cores.{PublishesAs, IsLastLook, Does, Stands, publishing_as, meaning_of}
use Rattle.jit_core.proofs.Standing.{core_with, keeper_does}
use Rattle.jit_core.proofs.Spaces.{space_same, space_linked, space_set, space_given}
use Rattle.jit_core.proofs.Storing.{beside}
use Rattle.jit_core.proofs.Linking.{OnlyRaising, swapped_raising, swapped_unlinked, set_raising, raised_none}

-- the version is linked, and the one that it replaces is unlinked
pub link_does : (c : Core) (st : CodeState) (d : Laying) (n : ℕ) (v : VersionState) → Links c.state st d → At c.state.versions.items n v → v.status ≡ Linked → v.symbol ≡ d.version.symbol
    → Does (publishing_as c (Some (Storing d))) lay_draft (core_with c st c.space (Some (Raising n)) c.looked)
link_does c st d n v links at linked is told s =
    let m = meaning_of c in
    let x = s.whole in
    let t = links m x s.sound s.state s.publishing in
    let y = t.0 in
    let new = linked_of (draft_from d) (length x.book.versions) in
    let here : At x.book.versions n v = subst (λ (l : List VersionState). At l n v) s.state.4 at in
    let there = swapped_unlinked x.book.versions d.version.symbol n v new here linked is in
    keeper_does (publishing_as c (Some (Storing d))) st c.space (Some (Raising n)) c.looked lay_draft told s y t.1 t.2 t.3 (beside x y t.5)
    (t.4, (unlinked d.version.symbol v, (subst (λ (l : List VersionState). At l n (unlinked d.version.symbol v)) (sym t.6) there.0, there.1)))
    (subst (λ (l : List VersionState). OnlyRaising l (Some (Raising n))) (sym t.6) (swapped_raising m x d.version.symbol (length x.book.versions) n d v s.sound s.unlinked here linked is))
    (space_same (map (unlinked d.version.symbol) x.book.versions ++ new ∷ []) y.book.versions (length x.code) (length y.code) (Some (Raising n)) c.space t.6 t.5.code
    (space_linked x.book.versions (length x.code) d.version.symbol (length x.book.versions) n d c.space s.space))
    (subst (λ (l : List Look). IsLastLook l c.looked) (sym t.5.looks) s.looked)

pub link_count : (c : Core) (st : CodeState) (d : Laying) (told : List Told) → Links c.state st d → Stands (publishing_as c (Some (Storing d))) told → count_staying st.versions.items ≡ count_staying c.state.versions.items + 1
link_count c st d told links s =
    let x = s.whole in
    let t = links (meaning_of c) x s.sound s.state s.publishing in
    ap count_staying (t.3.4 ∙ t.6) ∙ count_link d.version.symbol x.book.versions (linked_of (draft_from d) (length x.book.versions)) refl ∙ ap (λ (l : List VersionState). count_staying l + 1) (sym s.state.4)

pending-not : (tag passed : ℕ) → Pending tag passed ≢ Unlinked
pending-not tag passed e = cc

given-up-not : GivenUp ≢ Unlinked
given-up-not e = cc

stays-unlinked : (s : Status) → s ≡ Unlinked → Stays s
stays-unlinked s is = subst (λ (t : Status). Stays t) (sym is) tt

pub stays_pending : (s : Status) (tag passed : ℕ) → s ≡ Pending tag passed → Stays s
stays_pending s tag passed is = subst (λ (t : Status). Stays t) (sym is) tt

-- the epoch is raised for the version that was replaced
pub raise_does : (c : Core) (st : CodeState) (n : ℕ) → c.publishing ≡ None → RaisesEpoch c.state st n → Does (publishing_as c (Some (Raising n))) (raise_for n) (core_with c st c.space c.publishing c.looked)
raise_does c st n none raises = subst (λ (p : Option Publishing). Does (publishing_as c (Some (Raising n))) (raise_for n) (core_with c st c.space p c.looked)) (sym none) (λ told s.
    let m = meaning_of c in
    let x = s.whole in
    let v = s.publishing.1.0 in
    let is : IsUnlinked x n v = s.publishing.1.1 in
    let y = epoch_raised x n v in
    let both = raises m x v s.state s.sound is in
    keeper_does (publishing_as c (Some (Raising n))) st c.space None c.looked (raise_for n) told s y (raises_epoch n v is) both.0 both.1 record { harts = refl; announced = refl; code = refl; gone = refl }
    s.publishing.0
    (set_raising x.book.versions n v (Pending (x.epoch + 1) 0) None (pending-not (x.epoch + 1) 0) (raised_none x.book.versions n None s.unlinked))
    (space_set x.book.versions (length x.code) n v (Pending (x.epoch + 1) 0) (Some (Raising n)) c.space is.0 (stays-unlinked v.status is.1) tt (λ w. tt) s.space)
    s.looked)

none-raising : (p : Option Publishing) (n : ℕ) → p ≡ None → p ≡ Some (Raising n) → ⊥
none-raising p n a b = let e : None ≡ Some (Raising n) = sym a ∙ b in cc

-- the header of a version that all harts have passed is cleared, and its range given back
pub clear_does : (c : Core) (st : CodeState) (sp : Space) (n : ℕ) (v : VersionState) (tag passed : ℕ) → c.publishing ≡ None → At c.state.versions.items n v → v.status ≡ Pending tag passed
    → ((h : ℕ) → h < length c.state.harts.items → HasPassed passed h) → ClearsHeader c.state st n → sp.size ≡ c.space.size
    → ((w : ℕ) → IsFree sp.ranges w ↔ (IsFree c.space.ranges w ⊎ ((start_of v.base ≤ w) × (w < start_of v.base + (v.words + 1))))) → Does c (clear_of n) (core_with c st sp c.publishing c.looked)
clear_does c st sp n v tag passed none at is all clears size given told s =
    let m = meaning_of c in
    let x = s.whole in
    let here : At x.book.versions n v = subst (λ (l : List VersionState). At l n v) s.state.4 at in
    let pending : IsPending x n v tag passed = (here, is) in
    let every : AllPassed x passed = λ h low. all h (subst (λ (l : List ℕ). h < length l) (sym s.state.2) low) in
    let y = header_cleared x n v in
    let both = clears m x v tag passed s.state s.sound pending every in
    let stay = stays_pending v.status tag passed is in
    let low = at_below x.book.versions n v here in
    let same = s.sound.book.texts in
    let text = at_some x.book.texts n (omega arith) in
    let stand = s.sound.book.stands n v text.0 here stay text.1 in
    let code : length y.code ≡ length x.code = length-set x.code (start_of v.base) 0 in
    keeper_does c st sp c.publishing c.looked (clear_of n) told s y (clears_header n v tag passed pending every) both.0 both.1 record { harts = refl; announced = refl; code = code; gone = refl }
    (subst (λ (p : Option Publishing). PublishesAs m y p) (sym none) (subst (λ (p : Option Publishing). PublishesAs m x p) none s.publishing))
    (set_raising x.book.versions n v GivenUp c.publishing given-up-not (λ j u other there un. s.unlinked j u there un))
    (subst (λ (p : Option Publishing). SpaceIs y.book.versions (length y.code) p sp) (sym none) (subst (λ (k : ℕ). SpaceIs y.book.versions k None sp) (sym code)
    (space_given x.book.versions (length x.code) n v c.space sp here stay stand.base.1 (λ j u there stays ne. s.sound.book.apart n j v u here there stay stays ne) size given
    (subst (λ (p : Option Publishing). SpaceIs x.book.versions (length x.code) p c.space) none s.space))))
    s.looked

-- a hart's word is looked at
pub look_does : (c : Core) (st : CodeState) (pair : Pair) (v : VersionState) (tag passed : ℕ) (b : _) → c.publishing ≡ None → At c.state.versions.items pair.version v → v.status ≡ Pending tag passed
    → pair.hart < length c.state.harts.items → LooksAtHart c.state st pair.version pair.hart b → Does c (look_at pair.version pair.hart) (core_with c st c.space c.publishing (Some pair))
look_does c st pair v tag passed b none at is low looks told s =
    let m = meaning_of c in
    let x = s.whole in
    let n = pair.version in
    let here : At x.book.versions n v = subst (λ (l : List VersionState). At l n v) s.state.4 at in
    let pending : IsPending x n v tag passed = (here, is) in
    let small : pair.hart < length x.announced = subst (λ (l : List ℕ). pair.hart < length l) s.state.2 low in
    let few = s.sound.places.1 in
    let word = at_some x.announced pair.hart small in
    let marked = marked_by tag passed pair.hart word.0 in
    let y = hart_looked x n v tag marked pair.hart word.0 in
    let both = looks m x v tag passed word.0 s.state s.sound pending word.1 in
    keeper_does c st c.space c.publishing (Some pair) (look_at n pair.hart) told s y (looks_at n v tag passed pair.hart word.0 pending word.1) both.0 both.1 record { harts = refl; announced = refl; code = refl; gone = refl }
    (subst (λ (p : Option Publishing). PublishesAs m y p) (sym none) (subst (λ (p : Option Publishing). PublishesAs m x p) none s.publishing))
    (set_raising x.book.versions n v (Pending tag marked) c.publishing (pending-not tag marked) (λ j u other there un. s.unlinked j u there un))
    (subst (λ (p : Option Publishing). SpaceIs y.book.versions (length y.code) p c.space) (sym none)
    (space_set x.book.versions (length x.code) n v (Pending tag marked) None c.space here (stays_pending v.status tag passed is) tt (λ w. tt) (subst (λ (p : Option Publishing). SpaceIs x.book.versions (length x.code) p c.space) none s.space)))
    (x.book.looks, word.0, refl, (let z : pair.hart < 16 = omega arith in z))

one-left : (s : Status) → left s ≤ 1
one-left Linked = omega arith
one-left Unlinked = omega arith
one-left (Pending tag passed) = omega arith
one-left GivenUp = omega arith

most-left : (vs : List VersionState) → count_left vs ≤ length vs
most-left [] = omega arith
most-left (v ∷ vs) = let t = most-left vs in let u = one-left v.status in omega arith

-- what a core that stands for events says of its numbers
pub record IsSmall (c : Core) : Type 0 where
  pub versions : length c.state.versions.items ≤ 1048576
  pub harts : length c.state.harts.items ≤ 16
  pub epoch : c.state.epoch ≤ 1048577

pub small : (c : Core) (told : List Told) → Stands c told → IsSmall c
small c told s =
    let x = s.whole in
    let count = s.sound.book.count in
    let most = most-left x.book.versions in
    let epoch = s.sound.book.epoch_is in
    let here = s.state.1 in record {
      versions = subst (λ (l : List VersionState). length l ≤ 1048576) (sym s.state.4) count;
      harts = subst (λ (l : List ℕ). length l ≤ 16) (sym s.state.2) s.sound.places.1;
      epoch = omega arith;
    }

-- the version that was replaced is one of the list
pub raising_below : (c : Core) (n : ℕ) (told : List Told) → Stands (publishing_as c (Some (Raising n))) told → n < length c.state.versions.items
raising_below c n told s = subst (λ (l : List VersionState). n < length l) (sym s.state.4) (at_below s.whole.book.versions n s.publishing.1.0 s.publishing.1.1.0)

-- a version that gets another status and isn't given up is counted as before
kept-count : (vs : List VersionState) (i : ℕ) (v : VersionState) (st : Status) → At vs i v → Stays v.status → Stays st → count_staying (set vs i (with_status v st)) ≡ count_staying vs
kept-count vs i v st here stay stays = let a = one_stays v.status stay in let b = one_stays st stays in let t = count_set vs i v st here in omega arith

pub raised_count : (c : Core) (st : CodeState) (n : ℕ) (told : List Told) → RaisesEpoch c.state st n → Stands (publishing_as c (Some (Raising n))) told → count_staying st.versions.items ≡ count_staying c.state.versions.items
raised_count c st n told raises s =
    let x = s.whole in
    let v = s.publishing.1.0 in
    let is : IsUnlinked x n v = s.publishing.1.1 in
    let both = raises (meaning_of c) x v s.state s.sound is in
    ap count_staying both.1.4 ∙ kept-count x.book.versions n v (Pending (x.epoch + 1) 0) is.0 (stays-unlinked v.status is.1) tt ∙ ap count_staying (sym s.state.4)

pub looked_count : (c : Core) (st : CodeState) (pair : Pair) (v : VersionState) (tag passed : ℕ) → At c.state.versions.items pair.version v → v.status ≡ Pending tag passed → pair.hart < length c.state.harts.items
    → (told : List Told) (b : _) → LooksAtHart c.state st pair.version pair.hart b → Stands c told → count_staying st.versions.items ≡ count_staying c.state.versions.items
looked_count c st pair v tag passed at is low told b looks s =
    let x = s.whole in
    let n = pair.version in
    let here : At x.book.versions n v = subst (λ (l : List VersionState). At l n v) s.state.4 at in
    let small : pair.hart < length x.announced = subst (λ (l : List ℕ). pair.hart < length l) s.state.2 low in
    let word = at_some x.announced pair.hart small in
    let both = looks (meaning_of c) x v tag passed word.0 s.state s.sound (here, is) word.1 in
    ap count_staying both.1.4 ∙ kept-count x.book.versions n v (Pending tag (marked_by tag passed pair.hart word.0)) here (stays_pending v.status tag passed is) tt ∙ ap count_staying (sym s.state.4)

pub cleared_count : (c : Core) (st : CodeState) (n : ℕ) (v : VersionState) (tag passed : ℕ) → At c.state.versions.items n v → v.status ≡ Pending tag passed → ((h : ℕ) → h < length c.state.harts.items → HasPassed passed h)
    → (told : List Told) → ClearsHeader c.state st n → Stands c told → count_staying st.versions.items + 1 ≡ count_staying c.state.versions.items
cleared_count c st n v tag passed at is all told clears s =
    let x = s.whole in
    let here : At x.book.versions n v = subst (λ (l : List VersionState). At l n v) s.state.4 at in
    let every : AllPassed x passed = λ h low. all h (subst (λ (l : List ℕ). h < length l) (sym s.state.2) low) in
    let both = clears (meaning_of c) x v tag passed s.state s.sound (here, is) every in
    let a = one_stays v.status (stays_pending v.status tag passed is) in
    let t = count_set x.book.versions n v GivenUp here in
    let new = ap count_staying both.1.4 in
    let old = ap count_staying s.state.4 in omega arith

-- the range of a pending version
pub record IsHeld (c : Core) (v : VersionState) : Type 0 where
  pub base : 16777220 ≤ v.base
  pub range : start_of v.base + v.words < length c.state.code.items
  pub taken : (w : ℕ) → start_of v.base ≤ w → w < start_of v.base + (v.words + 1) → ¬ IsFree c.space.ranges w
  pub size : c.space.size ≡ length c.state.code.items

pub held : (c : Core) (n : ℕ) (v : VersionState) (tag passed : ℕ) → At c.state.versions.items n v → v.status ≡ Pending tag passed → (told : List Told) → Stands c told → IsHeld c v
held c n v tag passed at is told s =
    let x = s.whole in
    let here : At x.book.versions n v = subst (λ (l : List VersionState). At l n v) s.state.4 at in
    let stay = stays_pending v.status tag passed is in
    let low = at_below x.book.versions n v here in
    let same = s.sound.book.texts in
    let text = at_some x.book.texts n (omega arith) in
    let stand = s.sound.book.stands n v text.0 here stay text.1 in
    let place = stand.base.0 in
    let code = ap length s.state.3 in
    let range = stand.base.1 in record {
      base = omega arith;
      range = omega arith;
      taken = λ w a b free. (s.space.free w free).1 n v here stay (a, omega arith);
      size = s.space.size ∙ sym code;
    }

-- the range is taken
pub taken_at : (s : Space) (v x : VersionState) (n : ℕ) → v ≡ x → s.size ≡ n → start_of v.base + v.words < n → ((w : ℕ) → start_of v.base ≤ w → w < start_of v.base + (v.words + 1) → ¬ IsFree s.ranges w)
    → IsTaken s (start_of x.base) (x.words + 1)
taken_at s v x n same size range none = subst (λ (y : VersionState). IsTaken s (start_of y.base) (y.words + 1)) same (omega arith, none)

-- the range is given back
pub given_at : (s t : Space) (v x : VersionState) → v ≡ x → ((w : ℕ) → IsFree t.ranges w ↔ (IsFree s.ranges w ⊎ ((start_of x.base ≤ w) × (w < start_of x.base + (x.words + 1)))))
    → (w : ℕ) → IsFree t.ranges w ↔ (IsFree s.ranges w ⊎ ((start_of v.base ≤ w) × (w < start_of v.base + (v.words + 1))))
given_at s t v x same given = subst (λ (y : VersionState). (w : ℕ) → IsFree t.ranges w ↔ (IsFree s.ranges w ⊎ ((start_of y.base ≤ w) × (w < start_of y.base + (y.words + 1))))) (sym same) given
