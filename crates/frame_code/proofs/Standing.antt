-- A write of one register's place keeps what the machine stands for.
use Rattle.std.proofs.Common.{◌≡◌, ◌≢◌, refl, sym, ap, subst, ◌∙◌, ℕ, zero, suc, ◌+◌, ◌-◌, ◌*◌, ◌^◌, ◌<◌, ◌≤◌, ◌⊎◌, inl, inr, Bool, true, false, List, [], ◌∷◌, ◌++◌, length, Option, Some, None, arith}
use Rattle.std.specs.Prelude.{◌==◌, drop, slice_index_or, if◌then◌else◌}
use Rattle.std.specs.List.{Contains}
use Rattle.rv_core.specs.Bytes.{load_bytes}
use Rattle.ir_meaning.specs.Plays.{Meaning, Invocation}
use Rattle.rv_play.specs.Machine.{Machine, control_base, data_base}
use Rattle.rv_play.specs.CodePlay.{Point}
use Rattle.walks.specs.Walk.{Bits}
use Rattle.walks.specs.Bits.{free}
use Rattle.walks.specs.Registers.{write}
use Rattle.walks.specs.Face.{frame_of}
use Rattle.mir.specs.declared.code.MInst.{MInst}
use Rattle.mir.specs.declared.code.MInst.TheVariants.{Param}
use Rattle.mir.specs.declared.code.MFunction.{MFunction}
use Rattle.mir.specs.declared.places.Intervals.{Intervals}
use Rattle.mir.specs.declared.places.Place.{Place}
use Rattle.mir.specs.declared.places.Place.TheVariants.{Saved, Slot}
use Rattle.mir.specs.declared.places.Places.{Places}
use Rattle.mir.specs.Code.{writes, ends_block, inst_at, block_of, next}
use Rattle.mir.specs.Live.{ReadFrom, goes_on, Covers}
use Rattle.mir.specs.Places.{place_of, IsPlace, Fits}
use Rattle.mir_play.specs.Play.{State}
use Rattle.mir_play.specs.Machine.{IsHeld}
use Rattle.code_pieces.proofs.Const.{eq-true, self-eq}
use Rattle.frame_code.specs.Frame.{slots_of, save_offset, ra_offset, uses}
use Rattle.frame_code.specs.Code.{taken_by, taken_in, taken}
use Rattle.frame_code.specs.Stands.{saved_number, number_at, Keeps, HoldsRead, HoldsArguments, IsLong, Stands}
use Rattle.frame_code.proofs.Numbers.{IsSaved, is-saved, saved-is-one, uses-place}
use Rattle.frame_code.proofs.Operands.{IsOwn, Misses, Writes, elsewhere}
use Rattle.frame_code.proofs.Placed.{dropped, only-item, live-placed, place-apart}

module _ (m : Meaning) (f : MFunction) (places : Places) (intervals : Intervals) (covers : Covers f intervals) (fits : Fits intervals (slots_of f.values) places)
    (a : Invocation) (s : Machine) (wide : control_base + frame_of f.values ≤ a.sp) where
  abbrev fr : ℕ
  fr = frame_of f.values

  abbrev slots : ℕ
  slots = slots_of f.values

  abbrev low : ℕ
  low = a.sp - fr

  sum : low + fr ≡ a.sp
  sum = let h = wide in omega (arith, h)

  -- none of these registers is the place
  not-own : (to : Place) (j : ℕ) → IsPlace slots to → (j < 8) ⊎ (27 ≤ j) → IsOwn to j → ⊥
  not-own (Slot i) j is h own = own
  not-own (Saved k) j is (inl h) own = let x = is-saved k is in let l = x.low in omega (arith, own, l, h)
  not-own (Saved k) j is (inr h) own = let x = is-saved k is in let t = x.high in omega (arith, own, t, h)

  -- the slots lie below what is saved
  below-saves : (to : Place) (offset : ℕ) → IsPlace slots to → 8 * slots ≤ offset → Misses low to (low + offset)
  below-saves (Saved k) offset is le = tt
  below-saves (Slot i) offset is le = inr (omega (arith, is, le))

  pub keeps-write : (long v : ℕ) (p q : Point) (to : Place) → IsPlace slots to → ((k : ℕ) → to ≡ Saved k → uses places k ≡ true) → Writes low slots p q to v
      → Keeps m f places a s long p → Keeps m f places a s long q
  keeps-write long v p q to is used w h = record {
    sp = w.others 2 (λ z. cc) (λ z. cc) (λ z. cc) (not-own to 2 is (inl (omega arith))) ∙ h.sp;
    ra = w.apart (low + ra_offset fr) (below-saves to (ra_offset fr) is (omega arith)) ∙ h.ra;
    saved = λ k lt uses-k. w.apart (low + save_offset fr k) (below-saves to (save_offset fr k) is (omega (arith, lt))) ∙ h.saved k lt uses-k;
    others = λ k lt free-k. let x = is-saved k lt in let l = x.low in let t = x.high in
        w.others (saved_number k) (λ z. let bad : ⊥ = omega (arith, z, l) in bad) (λ z. let bad : ⊥ = omega (arith, z, l) in bad) (λ z. let bad : ⊥ = omega (arith, z, t) in bad) (unused to is used k lt free-k) ∙ h.others k lt free-k;
    data_top = w.others 27 (λ z. cc) (λ z. cc) (λ z. cc) (not-own to 27 is (inr (omega arith))) ∙ h.data_top;
    kept = λ x le. let e = sum in w.above x (omega (arith, e, le)) ∙ h.kept x le;
    counted = w.counted ∙ h.counted;
    bytes = λ x. let e : q.machine.bytes x ≡ p.machine.bytes x = ap (λ (bytes : ℕ → ℕ). bytes x) w.bytes in let b = h.bytes x in omega (arith, e, b);
  }
    where
      unused : (to : Place) → IsPlace slots to → ((k : ℕ) → to ≡ Saved k → uses places k ≡ true) → (k : ℕ) → k < 11 → uses places k ≡ false → IsOwn to (saved_number k) → ⊥
      unused (Slot i) is used k lt free-k own = own
      unused (Saved j) is used k lt free-k own =
          let same : k ≡ j = saved-is-one k j lt is own in
          let one : uses places j ≡ true = used j refl in
          let other : uses places j ≡ false = ap (uses places) (sym same) ∙ free-k in
          let bad : true ≡ false = sym one ∙ other in cc

  -- an item behind the first
  later : (inst x : MInst) (rest : List MInst) → Contains rest x → Contains (inst ∷ rest) x
  later inst x rest h = let lt = h.1 in (suc h.0, omega (arith, lt), h.2)

  -- behind a write of one register's place each register that is read from there on has its number
  pub held-write : (now : State) (p q : Point) (inst : MInst) (place d v : ℕ) (to : Place) (value : Bits) → inst_at f now.block place ≡ Some inst → ends_block inst ≡ false
      → writes inst ≡ d ∷ [] → place_of places d ≡ Some to → IsPlace slots to → IsHeld value v → Writes low slots p q to v → HoldsRead m f places a s now.block place now p
      → (r : ℕ) → ReadFrom f r now.block (place + 1) → IsHeld (write now.regs d value r) (number_at low q.machine (place_of places r))
  held-write now p q inst place d v to value at ends one e-d is holds w held r live = by_test (r == d) refl
    where
      writes-d : Contains (writes inst) d
      writes-d = subst (λ (ds : List ℕ). Contains ds d) (sym one) (0, omega arith, refl)

      by_test : (b : Bool) → (r == d) ≡ b → IsHeld (if b then value else now.regs r) (number_at low q.machine (place_of places r))
      by_test true e =
          let same : r ≡ d = eq-true r d e in
          subst (IsHeld value) (sym (ap (λ (x : ℕ). number_at low q.machine (place_of places x)) same ∙ ap (number_at low q.machine) e-d ∙ w.at)) holds
      by_test false e =
          let ne : r ≢ d = λ same. let bad : true ≡ false = sym (self-eq d) ∙ ap (λ (x : ℕ). x == d) (sym same) ∙ e in cc in
          let x = live-placed f places intervals covers fits r now.block (place + 1) live in
          let apart = place-apart f places intervals covers fits d r now.block place inst to x.0 at writes-d ends live ne e-d x.1 in
          let same : number_at low q.machine (place_of places r) ≡ number_at low p.machine (place_of places r) =
          ap (number_at low q.machine) x.1 ∙ elsewhere low slots p q to x.0 v is x.2 apart w ∙ ap (number_at low p.machine) (sym x.1) in
          subst (IsHeld (now.regs r)) (sym same) (held r (goes_on inst at (λ in'. ne (only-item d r (subst (λ (ds : List ℕ). Contains ds r) one in'))) (next inst at ends) live))

  -- an instruction that writes one register, whose place now has a number that refines what it writes
  pub stands-write : (now : State) (p q : Point) (inst : MInst) (rest : List MInst) (d v : ℕ) (to : Place) (value : Bits) → now.rest ≡ inst ∷ rest → ends_block inst ≡ false
      → writes inst ≡ d ∷ [] → taken_by inst ≡ 0 → place_of places d ≡ Some to → IsPlace slots to → IsHeld value v → Writes low slots p q to v
      → Stands m f places a s now p → Stands m f places a s (record now { rest = rest; regs = write now.regs d value }) q
  stands-write now p q inst rest d v to value left ends one none e-d is holds w h = record {
    place = h.place + 1;
    rests = at.1;
    held = held-write now p q inst h.place d v to value at.0 ends one e-d is holds w h.held;
    arguments = λ e n lt in'. subst (IsHeld (slice_index_or now.args n free)) (sym (w.others (10 + n) (λ z. let bad : ⊥ = omega (arith, z) in bad) (λ z. let bad : ⊥ = omega (arith, z) in bad) (λ z. let bad : ⊥ = omega (arith, z, lt) in bad) (argument to is n lt)))
        (h.arguments e n lt (subst (λ (insts : List MInst). Contains insts (Param e n)) (sym left) (later inst (Param e n) rest in')));
    keeps = keeps-write (length now.memory) v p q to is (λ k same. uses-place places d k (e-d ∙ ap Some same)) w h.keeps;
    long = (h.long.0, (let took : taken_in now.rest ≡ taken_by inst + taken_in rest = ap taken_in left in let long = h.long.1 in omega (arith, took, long, none)));
    room = h.room;
    memory' = λ i b e. ap (λ (bytes : ℕ → ℕ). bytes (data_base + i)) w.bytes ∙ h.memory' i b e;
  }
    where
      at : (inst_at f now.block h.place ≡ Some inst) × (drop (h.place + 1) (block_of f now.block) ≡ rest)
      at = dropped (block_of f now.block) h.place inst rest (h.rests ∙ left)

      argument : (to : Place) → IsPlace slots to → (n : ℕ) → n < 8 → IsOwn to (10 + n) → ⊥
      argument (Slot i) is n lt own = own
      argument (Saved k) is n lt own = let x = is-saved k is in by_side x.not-argument
        where
          by_side : (saved_number k < 10) ⊎ (18 ≤ saved_number k) → ⊥
          by_side (inl l) = omega (arith, own, l)
          by_side (inr g) = omega (arith, own, g, lt)
