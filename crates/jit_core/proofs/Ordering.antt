-- An order: a version that may be refused, and the range that it takes.
use Rattle.std.proofs.Common.{◌≡◌, ◌⊎◌, ◌↔◌, ℕ, ◌+◌, ◌-◌, ◌*◌, ◌/◌, ◌<◌, ◌≤◌, List, [], ◌∷◌, ◌++◌, length, vec_len, vec_capacity, Option, Some, None, refl, sym, ap, subst, ◌∙◌, inl, arith}
use Rattle.rv_play.specs.declared.version.Version.{Version}
use Rattle.rv_play.specs.Good.{Good}
use Rattle.code_epochs.specs.declared.state.CodeState.{CodeState}
use Rattle.code_epochs.specs.declared.state.VersionState.{VersionState}
use Rattle.code_epochs.specs.Sound.{Whole, IsStateOf, start_of}
use Rattle.code_space.specs.declared.FreeRange.{FreeRange}
use Rattle.code_space.specs.Space.{Space, IsFree, HasRoom}
use Rattle.code_epochs.specs.Shelf.{count_staying}
use Rattle.jit_core.specs.declared.event.Event.TheVariants as event
use Rattle.jit_core.specs.declared.event.Stepped.TheVariants as stepped
use Rattle.jit_core.specs.declared.laying.Laying.{Laying}
use Rattle.jit_core.specs.declared.publishing.Publishing.{Publishing}
use Rattle.jit_core.specs.declared.publishing.Publishing.TheVariants.{Storing, Raising}
use Rattle.jit_core.specs.declared.state_machine.Core.{Core}
use Rattle.jit_core.specs.Events.{Told}
use Rattle.jit_core.specs.Spaces.{SpaceIs, count_held}
use Rattle.jit_core.specs.Cores.{PublishesAs, CanPublish, IsLargest, IsKept, Stands, meaning_of}
use Rattle.jit_core.proofs.Standing.{core_with, runs_more, stands_still, may_begin_at, all_other_ready}
use Rattle.jit_core.proofs.Spaces.{space_taken}

-- the stored fields are the same, but for room in the list of versions
abbrev pub SameItems : CodeState → CodeState → Type 0
SameItems old new = (new.cells ≡ old.cells) × (new.epoch ≡ old.epoch) × (new.harts ≡ old.harts) × (new.code ≡ old.code) × (new.versions.items ≡ old.versions.items)

pub state_of_same : (old new : CodeState) (x : Whole) → SameItems old new → IsStateOf old x → IsStateOf new x
state_of_same old new x f is = (ap (λ v. v.items) f.0 ∙ is.0, f.1 ∙ is.1, ap (λ v. v.items) f.2 ∙ is.2, ap (λ v. v.items) f.3 ∙ is.3, f.4 ∙ is.4)

-- the core with more room
pub kept_still : (c : Core) (st : CodeState) (sp : Space) → c.publishing ≡ None → SameItems c.state st → sp.size ≡ c.space.size → sp.ranges ≡ c.space.ranges → c.space.spare ≤ sp.spare → IsKept c → IsKept (core_with c st sp c.publishing c.looked)
kept_still c st sp none same size ranges more k =
    let code = ap (λ v. length v.items) same.3 in
    let was = k.room in record {
      ready = all_other_ready c.state st c.seats.items c.work (ap (λ v. length v.items) same.0, ap (λ v. length v.items) same.2, code) k.ready;
      can = subst (λ (p : Option Publishing). CanPublish st p) (sym none) tt;
      code = subst (λ (n : ℕ). n ≤ 4194304) (sym code) k.code;
      functions = ap (λ v. length v.items) same.0 ∙ k.functions;
      harts = k.harts;
      room = subst (λ (l : List VersionState). count_held l c.publishing ≤ sp.spare) (sym same.4) (let z : count_held c.state.versions.items c.publishing ≤ sp.spare = omega arith in z);
      stands = (_, stands_still c st sp k.stands.0 record { event = event.Keeper; answer = stepped.Nothing } (λ x is. state_of_same c.state st x same is) (λ x. refl) size ranges k.stands.1);
    }

-- nothing of the version is stored yet
abbrev pub unstored : Version → ℕ → Laying
unstored v base = record { version = v; base = base; stored = 0 }

none-raising : (p : Option Publishing) (n : ℕ) → p ≡ None → p ≡ Some (Raising n) → ⊥
none-raising p n a b = let e : None ≡ Some (Raising n) = sym a ∙ b in cc

-- the version has a range
pub taken_stands : (c : Core) (v : Version) (base place : ℕ) (sp : Space) (told : List Told) → base ≡ 16777220 + 4 * place → c.publishing ≡ None → v.symbol < (meaning_of c).functions → Good (meaning_of c) v.symbol v.words
    → length c.state.versions.items < 1048576 → sp.size ≡ c.space.size → ((w : ℕ) → IsFree sp.ranges w ↔ (IsFree c.space.ranges w × ((w < place) ⊎ (place + (length v.words + 1) ≤ w))))
    → HasRoom c.space.ranges place (length v.words + 1) → place + (length v.words + 1) ≤ c.space.size → Stands c told
    → Stands (core_with c c.state sp (Some (Storing (unstored v base))) c.looked) (told ++ record { event = event.Order v; answer = stepped.Taken } ∷ [])
taken_stands c v base place sp told is none small good count size free room range s =
    let m = meaning_of c in
    let x = s.whole in
    let space = subst (λ (p : Option Publishing). SpaceIs x.book.versions (length x.code) p c.space) none s.space in
    let draft = subst (λ (p : Option Publishing). PublishesAs m x p) none s.publishing in
    let few = subst (λ (l : List VersionState). length l < 1048576) s.state.4 count in
    let long = space.size in
    let start : start_of base ≡ place = (let e : start_of base ≡ (base - 16777220) / 4 = refl in omega arith) in record {
      first = s.first;
      whole = x;
      sound_first = s.sound_first;
      runs = runs_more m s.first x x told record { event = event.Order v; answer = stepped.Taken } s.runs refl;
      sound = s.sound;
      state = s.state;
      gone = s.gone;
      seats = s.seats;
      publishing = inl (refl, may_begin_at m x v.symbol base place v.words None c.space s.sound draft few good small is (omega arith) space room);
      unlinked = λ i u at un. absurd (none-raising c.publishing i none (s.unlinked i u at un));
      space = space_taken x.book.versions (length x.code) place (unstored v base) c.space sp start size free space;
      looked = s.looked;
    }

pub taken_kept : (c : Core) (v : Version) (base place : ℕ) (sp : Space) → base ≡ 16777220 + 4 * place → c.publishing ≡ None → v.symbol < (meaning_of c).functions → Good (meaning_of c) v.symbol v.words
    → (vec_len c.state.versions < vec_capacity c.state.versions) × (count_staying c.state.versions.items < c.space.spare) → length c.state.versions.items < 1048576 → sp.size ≡ c.space.size → c.space.spare ≤ sp.spare
    → ((w : ℕ) → IsFree sp.ranges w ↔ (IsFree c.space.ranges w × ((w < place) ⊎ (place + (length v.words + 1) ≤ w))))
    → HasRoom c.space.ranges place (length v.words + 1) → place + (length v.words + 1) ≤ c.space.size → IsKept c → IsKept (core_with c c.state sp (Some (Storing (unstored v base))) c.looked)
taken_kept c v base place sp is none small good memory count size more free room range k =
    let s = k.stands.1 in
    let long = s.space.size in
    let code = ap length s.state.3 in
    let functions = k.functions in
    let start : start_of base ≡ place = (let e : start_of base ≡ (base - 16777220) / 4 = refl in omega arith) in
    let spare = memory.1 in record {
      ready = k.ready;
      can = record {
        base = (let e : base ≡ 16777220 + 4 * start_of base = omega arith in e);
        range = (let e : start_of base + length v.words < length c.state.code.items = omega arith in e);
        code = k.code;
        symbol = (let e : v.symbol < length c.state.cells.items = omega arith in e);
        room = memory.0;
        count = count;
      };
      code = k.code;
      functions = k.functions;
      harts = k.harts;
      room = (let e : count_staying c.state.versions.items + 1 ≤ sp.spare = omega arith in e);
      stands = (_, taken_stands c v base place sp k.stands.0 is none small good count size free room range s);
    }

-- a core with more room stands for the same events
pub stands_roomy : (c : Core) (st : CodeState) (sp : Space) (told : List Told) → SameItems c.state st → sp.size ≡ c.space.size → sp.ranges ≡ c.space.ranges → Stands c told → Stands (core_with c st sp c.publishing c.looked) told
stands_roomy c st sp told same size ranges s = record {
  first = s.first;
  whole = s.whole;
  sound_first = s.sound_first;
  runs = s.runs;
  sound = s.sound;
  state = state_of_same c.state st s.whole same s.state;
  gone = s.gone;
  seats = s.seats;
  publishing = s.publishing;
  unlinked = s.unlinked;
  space = record {
    size = size ∙ s.space.size;
    free = λ w f. s.space.free w (subst (λ (l : List FreeRange). IsFree l w) ranges f);
    all = λ w low out of. subst (λ (l : List FreeRange). IsFree l w) (sym ranges) (s.space.all w low out of);
  };
  looked = s.looked;
}

pub largest_same : (s t : Space) (n : ℕ) → t.ranges ≡ s.ranges → (0 < n → (b : ℕ) × HasRoom t.ranges b n) → ((b : ℕ) → ¬ HasRoom t.ranges b (n + 1)) → IsLargest s n
largest_same s t n same room most = (
  subst (λ (l : List FreeRange). 0 < n → (b : ℕ) × HasRoom l b n) same room,
  subst (λ (l : List FreeRange). (b : ℕ) → ¬ HasRoom l b (n + 1)) same most,
)

pub room_below : (rs : List FreeRange) (b n m : ℕ) → m ≤ n → HasRoom rs b n → HasRoom rs b m
room_below rs b n m low room w a z = room w a (omega arith)
