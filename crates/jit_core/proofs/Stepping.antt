-- Each step of a hart, with its seat.
use Rattle.std.proofs.Common.{◌≡◌, ℕ, ◌+◌, ◌<◌, List, [], ◌∷◌, ◌++◌, length, length-append, refl, sym, ap, subst, ◌∙◌, ⊎_elim, arith}
use Rattle.ir_meaning.specs.declared.calls.Ended.{Ended}
use Rattle.ir_meaning.specs.declared.calls.ListedCall.{ListedCall}
use Rattle.ir_meaning.specs.Plays.{Meaning}
use Rattle.rv_play.specs.Good.{IsBytes}
use Rattle.rv_play.specs.Ending as ending
use Rattle.hart.specs.declared.hart.Hart as hart
use Rattle.hart.specs.declared.hart.Given.{Given}
use Rattle.hart.specs.declared.hart.Given.TheVariants as given
use Rattle.hart.specs.declared.hart.Phase.{Phase}
use Rattle.hart.specs.declared.hart.Phase.TheVariants as phase
use Rattle.hart.specs.Standing.{IsFor, IsSameCall, item_of as given_item}
use Rattle.hart.specs.Calls.{Origin, Stands, EndedOver, HasRoomFor, Knows, origin_of}
use Rattle.hart.proofs.Turning.{for_same}
use Rattle.code_epochs.specs.declared.state.CodeState.{CodeState}
use Rattle.code_epochs.specs.declared.parts.Item.{Item}
use Rattle.code_epochs.specs.declared.parts.Item.TheVariants.{Held, Saw}
use Rattle.code_epochs.specs.Sound.{At}
use Rattle.code_epochs.specs.Passes.{items_of}
use Rattle.code_epochs.specs.Steps.{IsActive, IsIdle, LoadsEpoch, LoadsCell, LoadsWord, GoesIdle, Announces, with_item, loaded_part, ended_part, epoch_loaded, epoch_announced, gone_idle, cell_held, word_seen, address_of}
use Rattle.code_epochs.proofs.Lists.{at_below, at_snoc, at_longer, at_last, set_here}
use Rattle.jit_core.specs.declared.seat.Stage.{Stage}
use Rattle.jit_core.specs.declared.seat.Stage.TheVariants as stage
use Rattle.jit_core.specs.declared.seat.Seat.{Seat}
use Rattle.jit_core.specs.declared.seat.Work.{Work}
use Rattle.jit_core.specs.Events.{HartStep, loads_epoch, announces, loads_cell, loads_word, goes_idle}
use Rattle.jit_core.specs.Seats.{WaitsFor, Running, AnsweredOver, StandsAt, place_of}
use Rattle.jit_core.specs.Seated.{Steps}
use Rattle.jit_core.proofs.Stands.{items_more, runs_on, seat_of}

-- what a hart that goes on with what was given stands for
abbrev pub GoesWith : hart.Hart → hart.Hart → Given → Type 0
GoesWith h h' g = (m : Meaning) (o : Origin) (pass : List ending.Item) (counted : List ℕ) → Stands m o h pass counted → (all : List ℕ) × Stands m o h' (pass ++ given_item h h.phase g) all

pub load_steps : (old new : CodeState) (before : Seat) (work : Work) (h found : ℕ) → LoadsEpoch old new h found → found ≡ old.epoch → before.stage ≡ stage.Idle
    → place_of work.harts h (length before.answers.items) < length work.calls.now → Steps old new before (seat_of before.hart (stage.Loaded found) before) work h
load_steps old new before work h found loads epoch idle more m x sound state here st =
    let p = st.part in
    let image = work.image.now in
    let calls = work.calls.now in
    let place = place_of work.harts h (length before.answers.items) in
    let zero : At x.announced h 0 = subst (λ (g : Stage). StandsAt m image calls place x h before p g) idle st.stands in
    let e : found ≡ x.epoch = epoch ∙ state.1 in
    let positive : 0 < found = (let is = sound.book.epoch_is in omega arith) in
    let both = loads m x p state sound (st.at, zero) here in
    let y = epoch_loaded x h p found in
    let step : HartStep x h y = subst (λ (n : ℕ). HartStep x h (epoch_loaded x h p n)) (sym e) (loads_epoch p (st.at, zero) here) in (
      y,
      step,
      both.0,
      both.1,
      record {
        part = loaded_part p found;
        at = set_here x.harts h (loaded_part p found) (at_below x.harts h p st.at);
        known = st.known;
        room = st.room;
        count = st.count;
        answered = st.answered;
        stands = (zero, refl, positive, more);
      },
    )

-- the call that is on its way
held : (m : Meaning) (o : Origin) (h h' : hart.Hart) (g : Given) (p : Phase) (pass : List ending.Item) (items : List ending.Item) (counted : List ℕ)
    → GoesWith h h' g → h.phase ≡ p → given_item h p g ≡ items → Stands m o h pass counted → (all : List ℕ) × Stands m o h' (pass ++ items) all
held m o h h' g p pass items counted goes at is s =
    subst (λ (l : List ending.Item). (all : List ℕ) × Stands m o h' (pass ++ l) all) is
    (subst (λ (q : Phase). (all : List ℕ) × Stands m o h' (pass ++ given_item h q g) all) at (goes m o pass counted s))

pub cell_steps : (old new : CodeState) (before : Seat) (work : Work) (h symbol base : ℕ) (after : hart.Hart) (next : Stage) → LoadsCell old new h symbol base → At old.cells.items symbol base
    → before.stage ≡ stage.Cell symbol → WaitsFor after next → GoesWith before.hart after (given.Cell base) → IsSameCall before.hart after
    → Steps old new before (seat_of after next before) work h
cell_steps old new before work h symbol base after next loads at_old was waits goes same m x sound state here st =
    let p = st.part in
    let image = work.image.now in
    let calls = work.calls.now in
    let place = place_of work.harts h (length before.answers.items) in
    let t = subst (λ (g : Stage). StandsAt m image calls place x h before p g) was st.stands in
    let active : IsActive x h p t.0 = (st.at, t.1, t.2) in
    let at : At x.cells symbol base = subst (λ (l : List ℕ). At l symbol base) state.0 at_old in
    let both = loads m x p t.0 state sound active in
    let y = cell_held x h p symbol base in
    let q = with_item p (Held symbol base) in
    let run = t.5.2 in
    let on = held m (origin_of run.before image t.5.0 (length x.code)) before.hart after (given.Cell base) (phase.Cell t.3.0 symbol) (items_of p.pass) (ending.Held symbol base ∷ []) run.counted goes t.3.1 refl run.stands in
    let running : Running m image (length x.code) t.5.0 q.pass after = record {
      before = run.before;
      counted = on.0;
      started = run.started;
      stands = subst (λ (l : List ending.Item). Stands m (origin_of run.before image t.5.0 (length x.code)) after l on.0) (sym (items_more p.pass (Held symbol base))) on.1;
    } in (
      y,
      loads_cell p t.0 symbol base active at,
      both.0,
      both.1,
      runs_on m image calls work.harts x y h before after next q t.0 t.5.0 st (set_here x.harts h q (at_below x.harts h p st.at)) refl refl t.1 t.2
          (for_same m before.hart after st.known same) (subst (λ (n : ℕ). HasRoomFor n image) (sym same.room) st.room) waits (same.code_words ∙ t.4) t.5.1 running,
    )

pub word_steps : (old new : CodeState) (before : Seat) (work : Work) (h place address found : ℕ) (after : hart.Hart) (next : Stage) → LoadsWord old new h place found → At old.code.items place found
    → before.stage ≡ stage.Fetch address → address_of place ≡ address → WaitsFor after next → GoesWith before.hart after (given.Word found) → IsSameCall before.hart after
    → Steps old new before (seat_of after next before) work h
word_steps old new before work h index address found after next loads at_old was index_is waits goes same m x sound state here st =
    let p = st.part in
    let image = work.image.now in
    let calls = work.calls.now in
    let place = place_of work.harts h (length before.answers.items) in
    let t = subst (λ (g : Stage). StandsAt m image calls place x h before p g) was st.stands in
    let active : IsActive x h p t.0 = (st.at, t.1, t.2) in
    let at : At x.code index found = subst (λ (l : List ℕ). At l index found) state.3 at_old in
    let both = loads m x p t.0 state sound active in
    let y = word_seen x h p index found in
    let q = with_item p (Saw (address_of index) found) in
    let run = t.5.2 in
    let pc : address_of index ≡ before.hart.regs.pc = index_is ∙ t.3.1 in
    let item : (ending.Saw before.hart.regs.pc found ∷ []) ≡ (ending.Saw (address_of index) found ∷ []) = ap (λ (n : ℕ). ending.Saw n found ∷ []) (sym pc) in
    let on = held m (origin_of run.before image t.5.0 (length x.code)) before.hart after (given.Word found) phase.Fetch (items_of p.pass) (ending.Saw (address_of index) found ∷ []) run.counted goes t.3.0 item run.stands in
    let running : Running m image (length x.code) t.5.0 q.pass after = record {
      before = run.before;
      counted = on.0;
      started = run.started;
      stands = subst (λ (l : List ending.Item). Stands m (origin_of run.before image t.5.0 (length x.code)) after l on.0) (sym (items_more p.pass (Saw (address_of index) found))) on.1;
    } in (
      y,
      loads_word p t.0 index found active at,
      both.0,
      both.1,
      runs_on m image calls work.harts x y h before after next q t.0 t.5.0 st (set_here x.harts h q (at_below x.harts h p st.at)) refl refl t.1 t.2
          (for_same m before.hart after st.known same) (subst (λ (n : ℕ). HasRoomFor n image) (sym same.room) st.room) waits (same.code_words ∙ t.4) t.5.1 running,
    )

-- over what the hart stood for, its call has ended so
abbrev pub Ends : hart.Hart → hart.Hart → Ended → Type 0
Ends h h' e = (m : Meaning) (o : Origin) (pass : List ending.Item) (counted : List ℕ) → Stands m o h pass counted → EndedOver m o pass e h' counted

pub end_steps : (old new : CodeState) (before after : Seat) (work : Work) (h : ℕ) (e : Ended) → GoesIdle old new h → before.stage ≡ stage.End → after.stage ≡ stage.Idle
    → after.answers.items ≡ before.answers.items ++ e ∷ [] → IsSameCall before.hart after.hart → Ends before.hart after.hart e → Steps old new before after work h
end_steps old new before after work h e goes was is answers same ends m x sound state here st =
    let p = st.part in
    let image = work.image.now in
    let calls = work.calls.now in
    let n = length before.answers.items in
    let place = place_of work.harts h n in
    let t = subst (λ (g : Stage). StandsAt m image calls place x h before p g) was st.stands in
    let active : IsActive x h p t.0 = (st.at, t.1, t.2) in
    let all = goes m x p t.0 state sound active in
    let y = gone_idle x h p in
    let q = ended_part p in
    let run = t.5.2 in
    let zero : At y.announced h 0 = set_here x.announced h 0 (at_below x.announced h t.0 t.1) in
    let over : AnsweredOver m image (length x.code) t.5.0 p.pass e = record {
      before = run.before;
      after = after.hart;
      counted = run.counted;
      started = run.started;
      over = ends m (origin_of run.before image t.5.0 (length x.code)) (items_of p.pass) run.counted run.stands;
    } in
    let last : At q.ended n p.pass = subst (λ (k : ℕ). At q.ended k p.pass) (sym st.count) (at_last p.ended p.pass) in (
      y,
      goes_idle p t.0 active,
      all.0,
      all.1,
      record {
        part = q;
        at = set_here x.harts h q (at_below x.harts h p st.at);
        known = for_same m before.hart after.hart st.known same;
        room = subst (λ (k : ℕ). HasRoomFor k image) (sym same.room) st.room;
        count = ap length answers ∙ length-append before.answers.items (e ∷ []) ∙ ap (λ (k : ℕ). k + 1) st.count ∙ sym (length-append p.ended (p.pass ∷ []));
        answered = λ i a told. ⊎_elim
            (λ (at : At before.answers.items i a). let one = st.answered i a at in (one.0, at_longer p.ended (p.pass ∷ []) i one.0 one.1, one.2))
            (λ (at : (i ≡ n) × (e ≡ a)).
            subst (λ (k : ℕ). (pass : List Item) × At q.ended k pass × ((call : ListedCall) × At calls (place_of work.harts h k) call × AnsweredOver m image (length x.code) call pass a)) (sym at.0)
            (p.pass, last, (t.5.0, t.5.1, subst (λ (d : Ended). AnsweredOver m image (length x.code) t.5.0 p.pass d) at.1 over)))
            (at_snoc before.answers.items e a i (subst (λ (l : List Ended). At l i a) answers told));
        stands = subst (λ (g : Stage). StandsAt m image calls (place_of work.harts h (length after.answers.items)) y h after q g) (sym is) zero;
      },
    )

-- a hart that knows the same is for the same meaning
pub for_known : (m : Meaning) (h h' : hart.Hart) → IsFor m h → Knows h h' → IsFor m h'
for_known m h h' f k = record {
  functions = f.functions ∙ sym k.functions;
  room = f.room ∙ sym k.room;
  results = λ symbol below. rw k.widths (f.results symbol below);
}

pub begin_steps : (old new : CodeState) (before : Seat) (work : Work) (h epoch code_words : ℕ) (call : ListedCall) (after : hart.Hart) (next : Stage) → Announces old new h epoch
    → before.stage ≡ stage.Loaded epoch → h < length old.harts.items → At work.calls.now (place_of work.harts h (length before.answers.items)) call → code_words ≡ length old.code.items
    → WaitsFor after next → Knows before.hart after → after.code_words ≡ code_words
    → IsBytes (origin_of before.hart work.image.now call 0).bytes → IsBytes (origin_of before.hart work.image.now call 0).control
    → ((m : Meaning) → IsFor m before.hart → (all : List ℕ) × Stands m (origin_of before.hart work.image.now call code_words) after [] all)
    → Steps old new before (seat_of after next before) work h
begin_steps old new before work h epoch code_words call after next announces_it was small call_is size waits knows code bytes control goes m x sound state here st =
    let p = st.part in
    let image = work.image.now in
    let calls = work.calls.now in
    let place = place_of work.harts h (length before.answers.items) in
    let t = subst (λ (g : Stage). StandsAt m image calls place x h before p g) was st.stands in
    let idle : IsIdle x h p = (st.at, t.0) in
    let both = announces_it m x p state sound idle t.1 t.2 here in
    let y = epoch_announced x h p in
    let word : At y.announced h p.epoch = set_here x.announced h p.epoch (at_below x.announced h 0 t.0) in
    let positive : 0 < p.epoch = subst (λ (k : ℕ). 0 < k) (sym t.1) t.2 in
    let none : p.pass ≡ [] = (sound.harts h p 0 st.at t.0).idle refl in
    let words : code_words ≡ length x.code = size ∙ ap length state.3 in
    let on = subst (λ (n : ℕ). (all : List ℕ) × Stands m (origin_of before.hart image call n) after [] all) words (goes m st.known) in
    let running : Running m image (length x.code) call p.pass after = record {
      before = before.hart;
      counted = on.0;
      started = record { known = st.known; room = st.room; bytes = bytes; control = control };
      stands = subst (λ (l : List Item). Stands m (origin_of before.hart image call (length x.code)) after (items_of l) on.0) (sym none) on.1;
    } in (
      y,
      announces p idle here,
      both.0,
      both.1,
      runs_on m image calls work.harts x y h before after next p p.epoch call st (set_here x.harts h p (at_below x.harts h p st.at)) refl refl word positive
          (for_known m before.hart after st.known knows) (subst (λ (n : ℕ). HasRoomFor n image) (sym knows.room) st.room) waits (code ∙ words) call_is running,
    )
