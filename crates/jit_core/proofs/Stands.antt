-- Seats from one step to the next.
use Rattle.std.proofs.Common.{◌≡◌, ◌≢◌, ℕ, zero, suc, ◌<◌, List, [], ◌∷◌, ◌++◌, length, get_or, refl, sym, ap, subst, ◌∙◌, arith}
use Rattle.ir_meaning.specs.declared.calls.ListedCall.{ListedCall}
use Rattle.ir_meaning.specs.Plays.{Meaning}
use Rattle.hart.specs.declared.hart.Hart as hart
use Rattle.hart.specs.declared.hart.Image.{Image}
use Rattle.hart.specs.Standing.{IsFor}
use Rattle.hart.specs.Calls.{HasRoomFor}
use Rattle.rv_play.specs.Ending as ending
use Rattle.code_epochs.specs.declared.parts.HartPart.{HartPart}
use Rattle.code_epochs.specs.declared.parts.Item.{Item}
use Rattle.code_epochs.specs.Sound.{At, Whole}
use Rattle.code_epochs.specs.Passes.{items_of, item_of}
use Rattle.jit_core.specs.declared.seat.Stage.{Stage}
use Rattle.jit_core.specs.declared.seat.Stage.TheVariants as stage
use Rattle.jit_core.specs.declared.seat.Seat.{Seat}
use Rattle.jit_core.specs.Events.{IsOwn}
use Rattle.jit_core.specs.Seats.{WaitsFor, Running, AnsweredOver, StandsAt, SeatStands, place_of}

pub at_or : {A : Type 0} (l : List A) (i : ℕ) (d : A) → i < length l → At l i (get_or l i d)
at_or [] i d low = absurd (omega arith)
at_or (x ∷ l) zero d low = refl
at_or (x ∷ l) (suc i) d low = at_or l i d (omega arith)

-- one more item
pub items_more : (pass : List Item) (i : Item) → items_of (pass ++ i ∷ []) ≡ items_of pass ++ item_of i ∷ []
items_more [] i = refl
items_more (j ∷ pass) i = ap (λ (l : List ending.Item). item_of j ∷ l) (items_more pass i)

stands-else : (m : Meaning) (image : Image) (calls : List ListedCall) (place : ℕ) (x y : Whole) (h k : ℕ) (s : Seat) (p : HartPart) (g : Stage) → IsOwn x y h → k ≢ h
    → StandsAt m image calls place x k s p g → StandsAt m image calls place y k s p g
stands-else m image calls place x y h k s p stage.Idle own other t = own.words k 0 other t
stands-else m image calls place x y h k s p (stage.Loaded epoch) own other t = (own.words k 0 other t.0, t.1, t.2, t.3)
stands-else m image calls place x y h k s p (stage.Cell symbol) own other t =
    let e : length y.code ≡ length x.code = ap length own.rest.2 in
    subst (λ (n : ℕ). (word : ℕ) × At y.announced k word × (0 < word) × WaitsFor s.hart (stage.Cell symbol) × (s.hart.code_words ≡ n) × ((call : ListedCall) × At calls place call × Running m image n call p.pass s.hart)) (sym e)
    (t.0, own.words k t.0 other t.1, t.2, t.3, t.4, t.5)
stands-else m image calls place x y h k s p (stage.Fetch address) own other t =
    let e : length y.code ≡ length x.code = ap length own.rest.2 in
    subst (λ (n : ℕ). (word : ℕ) × At y.announced k word × (0 < word) × WaitsFor s.hart (stage.Fetch address) × (s.hart.code_words ≡ n) × ((call : ListedCall) × At calls place call × Running m image n call p.pass s.hart)) (sym e)
    (t.0, own.words k t.0 other t.1, t.2, t.3, t.4, t.5)
stands-else m image calls place x y h k s p stage.End own other t =
    let e : length y.code ≡ length x.code = ap length own.rest.2 in
    subst (λ (n : ℕ). (word : ℕ) × At y.announced k word × (0 < word) × WaitsFor s.hart stage.End × (s.hart.code_words ≡ n) × ((call : ListedCall) × At calls place call × Running m image n call p.pass s.hart)) (sym e)
    (t.0, own.words k t.0 other t.1, t.2, t.3, t.4, t.5)

-- the seat of a hart stands while another hart makes a step
pub other_stands : (m : Meaning) (image : Image) (calls : List ListedCall) (harts : ℕ) (x y : Whole) (h k : ℕ) (s : Seat) → IsOwn x y h → k ≢ h
    → SeatStands m image calls harts x k s → SeatStands m image calls harts y k s
other_stands m image calls harts x y h k s own other st =
    let e : length y.code ≡ length x.code = ap length own.rest.2 in record {
      part = st.part;
      at = own.others k st.part other st.at;
      known = st.known;
      room = st.room;
      count = st.count;
      answered = λ i a at. subst (λ (n : ℕ). (pass : List Item) × At st.part.ended i pass × ((call : ListedCall) × At calls (place_of harts k i) call × AnsweredOver m image n call pass a)) (sym e) (st.answered i a at);
      stands = stands-else m image calls (place_of harts k (length s.answers.items)) x y h k s st.part s.stage own other st.stands;
    }

run-stands : (m : Meaning) (image : Image) (calls : List ListedCall) (place : ℕ) (x : Whole) (h : ℕ) (s : Seat) (p : HartPart) (g : Stage) (word : ℕ) (call : ListedCall)
    → At x.announced h word → 0 < word → WaitsFor s.hart g → s.hart.code_words ≡ length x.code → At calls place call → Running m image (length x.code) call p.pass s.hart
    → StandsAt m image calls place x h s p g
run-stands m image calls place x h s p stage.Idle word call at positive waits code here run = absurd waits
run-stands m image calls place x h s p (stage.Loaded epoch) word call at positive waits code here run = absurd waits
run-stands m image calls place x h s p (stage.Cell symbol) word call at positive waits code here run = (word, at, positive, waits, code, (call, here, run))
run-stands m image calls place x h s p (stage.Fetch address) word call at positive waits code here run = (word, at, positive, waits, code, (call, here, run))
run-stands m image calls place x h s p stage.End word call at positive waits code here run = (word, at, positive, waits, code, (call, here, run))

abbrev pub seat_of : hart.Hart → Stage → Seat → Seat
seat_of h g s = record { hart = h; stage = g; answers = s.answers }

-- the seat of a hart whose call goes on
pub runs_on : (m : Meaning) (image : Image) (calls : List ListedCall) (harts : ℕ) (x y : Whole) (h : ℕ) (s : Seat) (after : hart.Hart) (g : Stage) (p : HartPart) (word : ℕ) (call : ListedCall)
    → (st : SeatStands m image calls harts x h s) → At y.harts h p → p.ended ≡ st.part.ended → length y.code ≡ length x.code → At y.announced h word → 0 < word
    → IsFor m after → HasRoomFor (length after.bytes.items) image → WaitsFor after g → after.code_words ≡ length x.code
    → At calls (place_of harts h (length s.answers.items)) call → Running m image (length x.code) call p.pass after
    → SeatStands m image calls harts y h (seat_of after g s)
runs_on m image calls harts x y h s after g p word call st at ended size announced positive known room waits code here run = record {
  part = p;
  at = at;
  known = known;
  room = room;
  count = st.count ∙ ap length (sym ended);
  answered = (λ i a told. subst (λ (n : ℕ). (pass : List Item) × At p.ended i pass × ((c : ListedCall) × At calls (place_of harts h i) c × AnsweredOver m image n c pass a)) (sym size)
      (subst (λ (l : List (List Item)). (pass : List Item) × At l i pass × ((c : ListedCall) × At calls (place_of harts h i) c × AnsweredOver m image (length x.code) c pass a)) (sym ended) (st.answered i a told)));
  stands = run-stands m image calls (place_of harts h (length s.answers.items)) y h (seat_of after g s) p g word call announced positive waits (code ∙ sym size) here
      (subst (λ (n : ℕ). Running m image n call p.pass after) (sym size) run);
}

stands-same : (m : Meaning) (image : Image) (calls : List ListedCall) (place : ℕ) (x y : Whole) (h : ℕ) (s : Seat) (p : HartPart) (g : Stage) → y.announced ≡ x.announced → length y.code ≡ length x.code
    → StandsAt m image calls place x h s p g → StandsAt m image calls place y h s p g
stands-same m image calls place x y h s p stage.Idle words code t = subst (λ (l : List ℕ). At l h 0) (sym words) t
stands-same m image calls place x y h s p (stage.Loaded epoch) words code t = (subst (λ (l : List ℕ). At l h 0) (sym words) t.0, t.1, t.2, t.3)
stands-same m image calls place x y h s p (stage.Cell symbol) words code t =
    subst (λ (n : ℕ). (word : ℕ) × At y.announced h word × (0 < word) × WaitsFor s.hart (stage.Cell symbol) × (s.hart.code_words ≡ n) × ((call : ListedCall) × At calls place call × Running m image n call p.pass s.hart)) (sym code)
    (t.0, subst (λ (l : List ℕ). At l h t.0) (sym words) t.1, t.2, t.3, t.4, t.5)
stands-same m image calls place x y h s p (stage.Fetch address) words code t =
    subst (λ (n : ℕ). (word : ℕ) × At y.announced h word × (0 < word) × WaitsFor s.hart (stage.Fetch address) × (s.hart.code_words ≡ n) × ((call : ListedCall) × At calls place call × Running m image n call p.pass s.hart)) (sym code)
    (t.0, subst (λ (l : List ℕ). At l h t.0) (sym words) t.1, t.2, t.3, t.4, t.5)
stands-same m image calls place x y h s p stage.End words code t =
    subst (λ (n : ℕ). (word : ℕ) × At y.announced h word × (0 < word) × WaitsFor s.hart stage.End × (s.hart.code_words ≡ n) × ((call : ListedCall) × At calls place call × Running m image n call p.pass s.hart)) (sym code)
    (t.0, subst (λ (l : List ℕ). At l h t.0) (sym words) t.1, t.2, t.3, t.4, t.5)

-- the harts and their words, the harts that are gone and the number of code words are the same
pub record IsBeside (x y : Whole) : Type 0 where
  pub harts : y.harts ≡ x.harts
  pub announced : y.announced ≡ x.announced
  pub code : length y.code ≡ length x.code
  pub gone : y.book.gone ≡ x.book.gone

-- the seats of all harts stand while the keeper makes a step
pub frame_stands : (m : Meaning) (image : Image) (calls : List ListedCall) (harts : ℕ) (x y : Whole) (h : ℕ) (s : Seat) → IsBeside x y → SeatStands m image calls harts x h s → SeatStands m image calls harts y h s
frame_stands m image calls harts x y h s frame st = record {
  part = st.part;
  at = subst (λ (l : List HartPart). At l h st.part) (sym frame.harts) st.at;
  known = st.known;
  room = st.room;
  count = st.count;
  answered = λ i a at. subst (λ (n : ℕ). (pass : List Item) × At st.part.ended i pass × ((call : ListedCall) × At calls (place_of harts h i) call × AnsweredOver m image n call pass a)) (sym frame.code) (st.answered i a at);
  stands = stands-same m image calls (place_of harts h (length s.answers.items)) x y h s st.part s.stage frame.announced frame.code st.stands;
}
