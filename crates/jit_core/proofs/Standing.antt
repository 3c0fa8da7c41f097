-- The core from one event to the next.
use Rattle.std.proofs.Common.{◌≡◌, ◌⊎◌, ℕ, vec_len, vec_capacity, ◌+◌, ◌-◌, ◌*◌, ◌/◌, ◌<◌, ◌≤◌, List, [], ◌∷◌, ◌++◌, length, Option, Some, None, refl, sym, ap, subst, ◌∙◌, inl, inr, ⊎_elim, arith}
use mathlib.Core.Option.{some-ne-none}
use Rattle.ir_meaning.specs.Plays.{Meaning}
use Rattle.ir_meaning.specs.declared.calls.Ended.{Ended}
use Rattle.rv_play.specs.Good.{Good}
use Rattle.code_epochs.specs.declared.state.CodeState.{CodeState}
use Rattle.code_epochs.specs.declared.state.VersionState.{VersionState}
use Rattle.code_epochs.specs.declared.state.Status.TheVariants.{Unlinked}
use Rattle.code_epochs.specs.declared.parts.Book.{Book}
use Rattle.code_epochs.specs.Sound.{At, Has, Whole, Sound, IsStateOf, IsBase, start_of}
use Rattle.code_epochs.specs.Steps.{CanBegin, IsHere}
use Rattle.code_epochs.specs.Passes.{items_of}
use Rattle.code_epochs.proofs.Good.{good_backed}
use Rattle.code_epochs.proofs.Lists.{at_below, at_some}
use Rattle.code_space.specs.declared.FreeRange.{FreeRange}
use Rattle.code_space.specs.Space.{Space, HasRoom, IsFree}
use Rattle.hart.proofs.Answering.{right_answers}
use Rattle.jit_core.specs.declared.event.Event.TheVariants as event
use Rattle.jit_core.specs.declared.event.Stepped.TheVariants as stepped
use Rattle.jit_core.specs.declared.seat.Seat.{Seat}
use Rattle.jit_core.specs.declared.seat.Work.{Work}
use Rattle.jit_core.specs.declared.publishing.Publishing.{Publishing}
use Rattle.jit_core.specs.declared.publishing.Publishing.TheVariants.{Storing, Raising}
use Rattle.jit_core.specs.declared.publishing.Pair.{Pair}
use Rattle.jit_core.specs.declared.state_machine.Core.{Core}
use Rattle.jit_core.specs.Events.{Told, Leads, Runs, Task, KeeperStep}
use Rattle.jit_core.specs.Seats.{place_of}
use Rattle.jit_core.specs.Seated.{IsSameSize}
use Rattle.jit_core.specs.Harts.{AreReady, AllStand}
use Rattle.jit_core.specs.Laying.{draft_from}
use Rattle.jit_core.specs.Spaces.{SpaceIs}
use Rattle.jit_core.specs.Cores.{PublishesAs, CanPublish, IsLastLook, Stands, IsRightAnswer, meaning_of}
use Rattle.jit_core.proofs.Stands.{IsBeside, frame_stands}
use Rattle.jit_core.proofs.Readying.{other_ready}
use Rattle.jit_core.proofs.Spaces.{ranges_apart}

-- one more event
pub runs_more : (m : Meaning) (x y z : Whole) (told : List Told) (t : Told) → Runs m x told y → Leads m y t.event t.answer z → Runs m x (told ++ t ∷ []) z
runs_more m x y z [] t e l = (z, subst (λ (w : Whole). Leads m w t.event t.answer z) e l, refl)
runs_more m x y z (u ∷ told) t r l = (r.0, r.1, runs_more m r.0 y z told t r.2 l)

none_here : {A : Type 0} (a : A) → Has [] a → ⊥
none_here a h = some-ne-none a (sym h.1)

-- where no hart is gone, each is here
pub all_here : (x : Whole) (h : ℕ) → x.book.gone ≡ [] → IsHere x h
all_here x h none = λ gone. none_here h (subst (λ (l : List ℕ). Has l h) none gone)

begins_same : (m : Meaning) (x y : Whole) (symbol base : ℕ) (words : List ℕ) → y.cells ≡ x.cells → y.code ≡ x.code → y.book ≡ x.book → CanBegin m x symbol base words → CanBegin m y symbol base words
begins_same m x y symbol base words cells code book b = record {
  free = ap (λ (k : Book). k.draft) book ∙ b.free;
  room = subst (λ (k : Book). length k.versions < 1048576) (sym book) b.room;
  good = b.good;
  has_cell = subst (λ (l : List ℕ). symbol < length l) (sym cells) b.has_cell;
  fits = subst (λ (l : List ℕ). IsBase (length l) base (length words)) (sym code) b.fits;
  apart = (λ i v at stays. b.apart i v (subst (λ (k : Book). At k.versions i v) book at) stays);
}

-- a hart's step leaves the version that is being published
pub publishes_same : (m : Meaning) (x y : Whole) (p : Option Publishing) → y.cells ≡ x.cells → y.code ≡ x.code → y.book ≡ x.book → PublishesAs m x p → PublishesAs m y p
publishes_same m x y None cells code book l = ap (λ (k : Book). k.draft) book ∙ l
publishes_same m x y (Some (Storing d)) cells code book l =
    ⊎_elim
    (λ (t : (d.stored ≡ 0) × CanBegin m x d.version.symbol d.base d.version.words). inl (t.0, begins_same m x y d.version.symbol d.base d.version.words cells code book t.1))
    (λ (t : (0 < d.stored) × (x.book.draft ≡ Some (draft_from d))). inr (t.0, ap (λ (k : Book). k.draft) book ∙ t.1))
    l
publishes_same m x y (Some (Raising n)) cells code book l = subst (λ (k : Book). (k.draft ≡ None) × ((v : VersionState) × (At k.versions n v × (v.status ≡ Unlinked)))) (sym book) l

-- what is being published can go on where nothing of its needs has changed
pub can_same : (old new : CodeState) (p : Option Publishing) → IsSameSize old new → new.versions ≡ old.versions → CanPublish old p → CanPublish new p
can_same old new None size versions can = tt
can_same old new (Some (Storing d)) size versions can = record {
  base = can.base;
  range = subst (λ (n : ℕ). start_of d.base + length d.version.words < n) (sym size.2) can.range;
  code = subst (λ (n : ℕ). n ≤ 4194304) (sym size.2) can.code;
  symbol = subst (λ (n : ℕ). d.version.symbol < n) (sym size.0) can.symbol;
  room = subst (λ v. vec_len v < vec_capacity v) (sym versions) can.room;
  count = subst (λ v. length v.items < 1048576) (sym versions) can.count;
}
can_same old new (Some (Raising n)) size versions can = tt

pub all_other_ready : (old new : CodeState) (seats : List Seat) (work : Work) → IsSameSize old new → AreReady seats old work → AreReady seats new work
all_other_ready old new seats work size all = λ h s at. other_ready s old new work h size (all h s at)

pub all_beside : (m : Meaning) (work : Work) (x y : Whole) (seats : List Seat) → IsBeside x y → AllStand m work x seats → AllStand m work y seats
all_beside m work x y seats frame all = λ h s at. frame_stands m work.image.now work.calls.now work.harts x y h s frame (all h s at)

-- the core in another state, with another space, another version that is being published, and another last look
abbrev pub core_with : Core → CodeState → Space → Option Publishing → Option Pair → Core
core_with c st sp p l = record { all = c.all; work = c.work; state = st; seats = c.seats; space = sp; publishing = p; looked = l }

-- an event that changes nothing that is shared
pub stands_still : (c : Core) (st : CodeState) (sp : Space) (told : List Told) (t : Told) → ((x : Whole) → IsStateOf c.state x → IsStateOf st x) → ((x : Whole) → Leads (meaning_of c) x t.event t.answer x)
    → sp.size ≡ c.space.size → sp.ranges ≡ c.space.ranges → Stands c told → Stands (core_with c st sp c.publishing c.looked) (told ++ t ∷ [])
stands_still c st sp told t keeps leads size ranges s = record {
  first = s.first;
  whole = s.whole;
  sound_first = s.sound_first;
  runs = runs_more (meaning_of c) s.first s.whole s.whole told t s.runs (leads s.whole);
  sound = s.sound;
  state = keeps s.whole s.state;
  gone = s.gone;
  seats = s.seats;
  publishing = s.publishing;
  unlinked = s.unlinked;
  space = record {
    size = size ∙ s.space.size;
    free = λ w f. s.space.free w (subst (λ (l : List FreeRange). IsFree l w) ranges f);
    all = λ w low out of. subst (λ (l : List FreeRange). IsFree l w) (sym ranges) (s.space.all w low out of);
  };
  looked = s.looked;
}

-- a step of the keeper
pub keeper_does : (c : Core) (st : CodeState) (sp : Space) (p : Option Publishing) (l : Option Pair) (task : Task) (told : List Told) (s : Stands c told) (y : Whole) → KeeperStep (meaning_of c) s.whole task y
    → Sound (meaning_of c) y → IsStateOf st y → IsBeside s.whole y → PublishesAs (meaning_of c) y p → ((i : ℕ) (v : VersionState) → At y.book.versions i v → v.status ≡ Unlinked → p ≡ Some (Raising i))
    → SpaceIs y.book.versions (length y.code) p sp → IsLastLook y.book.looks l
    → (t : Stands (core_with c st sp p l) (told ++ record { event = event.Keeper; answer = stepped.Moved } ∷ [])) × KeeperStep (meaning_of c) s.whole task t.whole
keeper_does c st sp p l task told s y step sound state beside publishes unlinked space looked = (
  record {
    first = s.first;
    whole = y;
    sound_first = s.sound_first;
    runs = runs_more (meaning_of c) s.first s.whole y told record { event = event.Keeper; answer = stepped.Moved } s.runs (task, step);
    sound = sound;
    state = state;
    gone = beside.gone ∙ s.gone;
    seats = all_beside (meaning_of c) c.work s.whole y c.seats.items beside s.seats;
    publishing = publishes;
    unlinked = unlinked;
    space = space;
    looked = looked;
  },
  step,
)

-- a range that is free is apart from those of all versions
pub may_begin_at : (m : Meaning) (x : Whole) (symbol base place : ℕ) (words : List ℕ) (p : Option Publishing) (s : Space) → Sound m x → x.book.draft ≡ None → length x.book.versions < 1048576 → Good m symbol words → symbol < m.functions
    → base ≡ 16777220 + 4 * place → place + length words < length x.code → SpaceIs x.book.versions (length x.code) p s → HasRoom s.ranges place (length words + 1) → CanBegin m x symbol base words
may_begin_at m x symbol base place words p s sound none room good small is range space free =
    let start : start_of base ≡ place = (let e : start_of base ≡ (base - 16777220) / 4 = refl in omega arith) in record {
      free = none;
      room = room;
      good = good;
      has_cell = subst (λ (n : ℕ). symbol < n) (sym sound.book.functions) small;
      fits = ((let e : base ≡ 16777220 + 4 * start_of base = omega arith in e), (let e : start_of base + length words < length x.code = omega arith in e));
      apart = λ i v at stays. subst (λ (n : ℕ). (start_of v.base + v.words < n) ⊎ (n + length words < start_of v.base)) (sym start)
          (ranges_apart (start_of v.base) v.words place (length words) (λ w here there. (space.free w (let low = there.0 in let high = there.1 in free w low (omega arith))).1 i v at stays here));
    }

-- what a hart answered is right
pub answer_right : (c : Core) (told : List Told) (place i h : ℕ) (seat : Seat) (e : Ended) → Stands c told → At c.seats.items h seat → At seat.answers.items i e → place_of c.work.harts h i ≡ place → IsRightAnswer c place e
answer_right c told place i h seat e s at told_e is =
    let m = meaning_of c in
    let x = s.whole in
    let st = s.seats h seat at in
    let a = st.answered i e told_e in
    let hart = at_below x.harts h st.part st.at in
    let harts = s.sound.places.0 in
    let low : h < length x.announced = omega arith in
    let word = at_some x.announced h low in
    let backed = (s.sound.harts h st.part word.0 st.at word.1).ended i a.0 a.1 in
    let o = a.2.2 in (
      a.2.0,
      subst (λ (k : ℕ). At c.work.calls.now k a.2.0) is a.2.1,
      λ memory typed invocation image.
          (right_answers c.all.now a.2.0 memory c.work.image.now o.before o.after (length x.code) (items_of a.0) o.counted e
          (record { typed = typed; known = o.started.known; invocation = invocation; image_of = image; room = o.started.room; bytes = o.started.bytes; control = o.started.control })
          (good_backed m (length x.code) x.book a.0 s.sound.book.code_size backed) o.over).0,
    )
