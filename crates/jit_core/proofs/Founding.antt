-- A core's harts before their first call.
use Rattle.std.proofs.Common.{◌≡◌, ℕ, zero, suc, ◌+◌, ◌<◌, ◌≤◌, List, [], ◌∷◌, ◌++◌, length, length-append, None, Some, Option, refl, sym, ap, subst, ◌∙◌, ⊎_elim, arith}
use mathlib.Core.Option.{some-ne-none}
use Rattle.ir_meaning.specs.Plays.{Meaning}
use Rattle.ir_meaning.specs.declared.calls.Ended.{Ended}
use Rattle.ir_meaning.specs.declared.calls.ListedCall.{ListedCall}
use Rattle.rv_play.specs.declared.version.Version.{Version}
use Rattle.hart.specs.declared.hart.Image.{Image}
use Rattle.hart.specs.Calls.{HasRoomFor}
use Rattle.code_epochs.specs.declared.parts.HartPart.{HartPart}
use Rattle.code_epochs.specs.declared.parts.Book.{Book}
use Rattle.code_epochs.specs.declared.state.CodeState.{CodeState}
use Rattle.code_epochs.specs.declared.state.VersionState.{VersionState}
use Rattle.code_epochs.specs.Sound.{At, Whole, Sound}
use Rattle.code_epochs.specs.Steps.{AllLinked, hart_split, new_part}
use Rattle.code_epochs.proofs.Lists.{at_snoc, at_some, at_below}
use Rattle.code_epochs.proofs.Seats.{split_sound}
use Rattle.code_epochs.specs.declared.state.Status.TheVariants.{Linked, Unlinked}
use Rattle.code_epochs.specs.Shelf.{count_staying}
use Rattle.jit_core.specs.declared.publishing.Publishing.{Publishing}
use Rattle.jit_core.specs.declared.publishing.Publishing.TheVariants.{Raising}
use Rattle.jit_core.specs.declared.publishing.Pair.{Pair}
use Rattle.jit_core.specs.declared.seat.Seat.{Seat}
use Rattle.jit_core.specs.declared.seat.Stage.{Stage}
use Rattle.jit_core.specs.declared.seat.Stage.TheVariants as stage
use Rattle.jit_core.specs.declared.seat.Work.{Work}
use Rattle.jit_core.specs.declared.state_machine.Core.{Core}
use Rattle.jit_core.specs.Seats.{SeatStands, StandsAt, AreCalls, place_of}
use Rattle.jit_core.specs.Seated.{CanStep}
use Rattle.jit_core.specs.Harts.{AreReady, AllStand}
use Rattle.jit_core.specs.Cores.{PublishesAs, CanPublish, IsLastLook, Stands, IsKept, meaning_of}
use Rattle.jit_core.specs.Spaces.{SpaceIs, count_held}
use Rattle.jit_core.specs.First.{words_of, AreQuick, laid, IsNewSeat, AreNewSeats, IsOpened, IsBehind}
use Rattle.jit_core.proofs.Opening.{laid_linked, laid_all_linked, laid_count}
use Rattle.jit_core.proofs.Spaces.{space_first}

pub seats_more : (m : Meaning) (harts calls : ℕ) (old new : List Seat) (s : Seat) → AreNewSeats m harts calls old → IsNewSeat m harts calls s → new ≡ old ++ s ∷ [] → AreNewSeats m harts calls new
seats_more m harts calls old new s all one is = λ h u at. ⊎_elim
    (λ (t : At old h u). all h u t)
    (λ (t : (h ≡ length old) × (s ≡ u)). subst (λ (v : Seat). IsNewSeat m harts calls v) t.1 one)
    (at_snoc old s u h (subst (λ (l : List Seat). At l h u) is at))

-- so many more harts, each new; nothing else is changed
pub record Split (x y : Whole) (n : ℕ) : Type 0 where
  pub stored : (y.cells ≡ x.cells) × (y.epoch ≡ x.epoch) × (y.announced ≡ x.announced) × (y.code ≡ x.code)
  pub versions : y.book.versions ≡ x.book.versions
  pub draft : y.book.draft ≡ x.book.draft
  pub gone : y.book.gone ≡ x.book.gone
  pub looks : y.book.looks ≡ x.book.looks
  pub count : length y.harts ≡ length x.harts + n
  pub parts : ((h : ℕ) (p : HartPart) → At x.harts h p → p ≡ new_part) → (h : ℕ) (p : HartPart) → At y.harts h p → p ≡ new_part

linked-same : (functions : ℕ) (old new : Book) → new.versions ≡ old.versions → AllLinked functions old → AllLinked functions new
linked-same functions old new same all = λ k low. let v = all k low in (v.0, v.1, subst (λ (l : List VersionState). At l v.0 v.1) (sym same) v.2, v.3, v.4)

pub split_all : (m : Meaning) (x : Whole) (n : ℕ) → Sound m x → length x.harts + n ≤ length x.announced → AllLinked m.functions x.book → (y : Whole) × Sound m y × Split x y n
split_all m x zero s room all = (x, s, record { stored = (refl, refl, refl, refl); versions = refl; draft = refl; gone = refl; looks = refl; count = (let e : length x.harts ≡ length x.harts + 0 = omega arith in e); parts = λ new. new })
split_all m x (suc n) s room all =
    let t = split_all m x n s (omega arith) all in
    let y = t.0 in
    let f = t.2 in
    let count = f.count in
    let seated = t.1.book.seated in
    let announced = ap length f.stored.2 in
    let low : y.book.seated < length y.announced = omega arith in (
      hart_split y,
      split_sound m y t.1 low (linked-same m.functions x.book y.book f.versions all),
      record {
        stored = f.stored;
        versions = f.versions;
        draft = f.draft;
        gone = f.gone;
        looks = f.looks;
        count = (let more = length-append y.harts (new_part ∷ []) in omega arith);
        parts = λ new h p at. ⊎_elim (λ (z : At y.harts h p). f.parts new h p z) (λ (z : (h ≡ length y.harts) × (new_part ≡ p)). sym z.1) (at_snoc y.harts new_part p h at);
      },
    )

none-at : {A : Type 0} (i : ℕ) (a : A) → At [] i a → ⊥
none-at i a e = some-ne-none a (sym e)

-- each symbol has a linked version
all-linked : (m : Meaning) (book : Book) (versions : List Version) → AreQuick m versions → book.versions ≡ laid versions 0 0 → AllLinked m.functions book
all-linked m book versions quick is = λ k low.
    let count = quick.0 in
    let w = at_some versions k (omega arith) in
    let u = laid_linked versions 0 0 k w.0 w.1 in
    (k, u.0, subst (λ (l : List VersionState). At l k u.0) (sym is) u.1, u.2, u.3 ∙ (quick.1 k w.0 w.1).0)

idle-at : (m : Meaning) (image : Image) (calls : List ListedCall) (place : ℕ) (x : Whole) (h : ℕ) (s : Seat) (p : HartPart) (g : Stage) → g ≡ stage.Idle → At x.announced h 0 → StandsAt m image calls place x h s p g
idle-at m image calls place x h s p g is at = subst (λ (k : Stage). StandsAt m image calls place x h s p k) (sym is) at

-- a new hart stands for what it knows, which is nothing
new-stands : (m : Meaning) (image : Image) (calls : List ListedCall) (harts many : ℕ) (x : Whole) (h : ℕ) (s : Seat) → IsNewSeat m harts many s → HasRoomFor m.room image → At x.harts h new_part → At x.announced h 0
    → SeatStands m image calls harts x h s
new-stands m image calls harts many x h s new room at word = record {
  part = new_part;
  at = at;
  known = new.known;
  room = subst (λ (n : ℕ). HasRoomFor n image) new.known.room room;
  count = ap length new.answers;
  answered = λ i e told. absurd (none-at i e (subst (λ (l : List Ended). At l i e) new.answers told));
  stands = idle-at m image calls (place_of harts h (length s.answers.items)) x h s new_part s.stage new.stage word;
}

all-stand : (m : Meaning) (work : Work) (many : ℕ) (x : Whole) (seats : List Seat) → AreNewSeats m work.harts many seats → HasRoomFor m.room work.image.now
    → length seats ≤ length x.harts → length x.harts ≤ length x.announced → ((h : ℕ) (p : HartPart) → At x.harts h p → p ≡ new_part) → ((h w : ℕ) → At x.announced h w → w ≡ 0) → AllStand m work x seats
all-stand m work many x seats new room few low parts words = λ h s at.
    let here = at_below seats h s at in
    let p = at_some x.harts h (omega arith) in
    let w = at_some x.announced h (omega arith) in
    new-stands m work.image.now work.calls.now work.harts many x h s (new h s at) room
    (subst (λ (q : HartPart). At x.harts h q) (parts h p.0 p.1) p.1) (subst (λ (n : ℕ). At x.announced h n) (words h w.0 w.1) w.1)

idle-can : (work : Work) (number n : ℕ) (state : CodeState) (s : Seat) (g : Stage) → g ≡ stage.Idle → CanStep work number n state s.hart g
idle-can work number n state s g is = subst (λ (k : Stage). CanStep work number n state s.hart k) (sym is) tt

pub all_ready : (m : Meaning) (work : Work) (seats : List Seat) (state : CodeState) → AreNewSeats m work.harts (length work.calls.now) seats → HasRoomFor m.room work.image.now
    → length state.cells.items ≡ m.functions → length seats ≤ length state.harts.items → length state.code.items ≤ 4194304 → AreCalls m.functions work.calls.now → length work.calls.now ≤ 65536
    → (1 ≤ work.harts) × (work.harts ≤ 16) → AreReady seats state work
all_ready m work seats state new room functions low code calls few harts = λ h s at.
    let here = at_below seats h s at in
    let n = new h s at in
    let none = ap length n.answers in record {
      stage = idle-can work h (length s.answers.items) state s s.stage n.stage;
      functions = sym n.known.functions ∙ sym functions;
      number_fits = omega arith;
      image = subst (λ (k : ℕ). HasRoomFor k work.image.now) n.known.room room;
      calls = subst (λ (k : ℕ). AreCalls k work.calls.now) n.known.functions calls;
      few = few;
      harts = harts;
      count = omega arith;
      code = code;
      enough = λ k more. n.enough k (omega arith);
    }

-- an unlinked version isn't linked
linked-only : (l : List VersionState) (p : Option Publishing) → ((i : ℕ) (v : VersionState) → At l i v → v.status ≡ Linked) → (i : ℕ) (v : VersionState) → At l i v → v.status ≡ Unlinked → p ≡ Some (Raising i)
linked-only l p all i v at is = absurd (let e : Linked ≡ Unlinked = sym (all i v at) ∙ is in cc)

-- the core stands for no event
pub new_stands : (c : Core) (harts code_words : ℕ) (versions : List Version) → IsOpened (meaning_of c) harts code_words versions c.state → AreQuick (meaning_of c) versions
    → c.publishing ≡ None → c.looked ≡ None → IsBehind code_words (words_of versions) (length versions) c.space → c.work.harts ≡ harts → length c.seats.items ≡ harts → HasRoomFor (meaning_of c).room c.work.image.now
    → AreNewSeats (meaning_of c) harts (length c.work.calls.now) c.seats.items → Stands c []
new_stands c harts code_words versions o quick publishing looked space count seats room new =
    let m = meaning_of c in
    let x = o.whole in
    let none = ap length o.harts in
    let many = o.words.0 in
    let t = split_all m x harts o.sound (omega arith) (all-linked m x.book versions quick o.versions) in
    let y = t.0 in
    let f = t.2 in
    let number = f.count in
    let announced = ap length f.stored.2 in
    let nothing : y.book.draft ≡ None = f.draft ∙ o.draft in
    let laid_are : y.book.versions ≡ laid versions 0 0 = f.versions ∙ o.versions in
    let code : length y.code ≡ code_words = ap length f.stored.3 ∙ o.code in
    let fresh : (h : ℕ) (p : HartPart) → At x.harts h p → p ≡ new_part = λ h p at. absurd (none-at h p (subst (λ (l : List HartPart). At l h p) o.harts at)) in record {
      first = y;
      whole = y;
      sound_first = t.1;
      runs = refl;
      sound = t.1;
      state = (o.state.0 ∙ sym f.stored.0, o.state.1 ∙ sym f.stored.1, o.state.2 ∙ sym f.stored.2, o.state.3 ∙ sym f.stored.3, o.state.4 ∙ sym f.versions);
      gone = f.gone ∙ o.gone;
      seats = all-stand m c.work (length c.work.calls.now) y c.seats.items (subst (λ (k : ℕ). AreNewSeats m k (length c.work.calls.now) c.seats.items) (sym count) new) room (omega arith) (omega arith)
          (f.parts fresh) (λ h w at. o.words.1 h w (subst (λ (l : List ℕ). At l h w) f.stored.2 at));
      publishing = subst (λ (p : Option Publishing). PublishesAs m y p) (sym publishing) nothing;
      unlinked = linked-only y.book.versions c.publishing (λ i v at. laid_all_linked versions 0 0 i v (subst (λ (l : List VersionState). At l i v) laid_are at));
      space = subst (λ (l : List VersionState). SpaceIs l (length y.code) c.publishing c.space) (sym laid_are) (subst (λ (p : Option Publishing). SpaceIs (laid versions 0 0) (length y.code) p c.space) (sym publishing)
          (subst (λ (k : ℕ). SpaceIs (laid versions 0 0) k None c.space) (sym code) (space_first versions code_words (length versions) c.space space)));
      looked = subst (λ (p : Option Pair). IsLastLook y.book.looks p) (sym looked) (f.looks ∙ o.looks);
    }

-- the core has what it needs for its steps
pub new_kept : (c : Core) (harts code_words : ℕ) (versions : List Version) → IsOpened (meaning_of c) harts code_words versions c.state → Stands c []
    → c.publishing ≡ None → IsBehind code_words (words_of versions) (length versions) c.space → c.work.harts ≡ harts → length c.seats.items ≡ harts → HasRoomFor (meaning_of c).room c.work.image.now
    → (1 ≤ harts) × (harts ≤ 16) → code_words ≤ 4194304 → AreCalls (meaning_of c).functions c.work.calls.now × (length c.work.calls.now ≤ 65536)
    → AreNewSeats (meaning_of c) harts (length c.work.calls.now) c.seats.items → IsKept c
new_kept c harts code_words versions o stands publishing space count seats room some small calls new =
    let m = meaning_of c in
    let x = o.whole in
    let cells = ap length o.state.0 ∙ o.sound.book.functions in
    let words = ap length o.state.2 ∙ o.words.0 in
    let code = ap length o.state.3 ∙ o.code in
    let held : count_staying c.state.versions.items ≤ c.space.spare = subst (λ (l : List VersionState). count_staying l ≤ c.space.spare) (sym (o.state.4 ∙ o.versions)) (subst (λ (k : ℕ). k ≤ c.space.spare) (sym (laid_count versions 0 0)) space.spare) in record {
      ready = all_ready m c.work c.seats.items c.state (subst (λ (k : ℕ). AreNewSeats m k (length c.work.calls.now) c.seats.items) (sym count) new) room cells (omega arith) (omega arith) calls.0 calls.1
          (subst (λ (k : ℕ). (1 ≤ k) × (k ≤ 16)) (sym count) some);
      can = subst (λ (p : Option Publishing). CanPublish c.state p) (sym publishing) tt;
      code = omega arith;
      functions = cells;
      harts = ((let least = some.0 in omega arith), count ∙ sym seats);
      room = subst (λ (p : Option Publishing). count_held c.state.versions.items p ≤ c.space.spare) (sym publishing) held;
      stands = ([], stands);
    }
