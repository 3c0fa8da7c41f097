-- A jump leads to the block's code, or is left out where that comes next.
use Rattle.std.proofs.Common.{◌≡◌, ◌≢◌, refl, sym, ap, subst, ◌∙◌, ℕ, zero, suc, ◌+◌, ◌-◌, ◌*◌, ◌%◌, ◌<◌, ◌≤◌, ◌⊎◌, inl, inr, Bool, true, false, List, [], ◌∷◌, ◌++◌, length, Option, Some, None, arith, append-nil}
use Rattle.std.specs.Prelude.{◌==◌, drop, slice_get, slice_index_or, if◌then◌else◌}
use Rattle.std.specs.List.{Contains}
use Rattle.std.proofs.lemmas.Option.{slice_get_within}
use Rattle.rv_core.specs.Bytes.{load_bytes}
use Rattle.ir_meaning.specs.Plays.{Meaning, Invocation}
use Rattle.rv_play.specs.Machine.{Machine, data_base, control_base}
use Rattle.rv_play.specs.CodePlay.{Point}
use Rattle.walks.specs.Registers.{Registers}
use Rattle.walks.specs.Face.{frame_of}
use Rattle.mir.specs.declared.code.MInst.{MInst}
use Rattle.mir.specs.declared.code.MInst.TheVariants.{Param, Op, Imm, Const, Move, Load, Store, Phi, Call, TakeData, CopyBytes, FillBytes, Branch, Jump, Return, Trap}
use Rattle.mir.specs.declared.code.MFunction.{MFunction}
use Rattle.mir.specs.declared.places.Intervals.{Intervals}
use Rattle.mir.specs.declared.places.Place.{Place}
use Rattle.mir.specs.declared.places.Place.TheVariants.{Saved, Slot}
use Rattle.mir.specs.declared.places.Places.{Places}
use Rattle.mir.specs.Code.{writes, targets, ends_block, inst_at, block_of, jump}
use Rattle.mir.specs.Live.{ReadFrom, goes_on, Covers}
use Rattle.mir.specs.Places.{place_of, Fits}
use Rattle.mir.specs.WellFormed.{IsWellFormed, HasNoPhi, is_phi, is_param, takes_data}
use Rattle.mir_play.specs.Play.{State, behind_phis, with_phis, jumped}
use Rattle.mir_play.specs.Machine.{IsHeld}
use Rattle.frame_code.specs.Frame.{slots_of, ra_offset, save_offset}
use Rattle.frame_code.specs.Code.{taken_by, taken_in, taken}
use Rattle.frame_code.specs.Stands.{number_at, Keeps, Stands}
use Rattle.frame_code.proofs.Numbers.{IsSaved, is-saved}
use Rattle.frame_code.proofs.Operands.{Quiet, number-quiet}
use Rattle.frame_code.proofs.Placed.{dropped, live-placed}
use Rattle.frame_code.specs.Stands.{saved_number}

-- without a phi at its head a block is entered with the registers as they are
pub behind-none : (insts : List MInst) → ((place : ℕ) (inst : MInst) → slice_get insts place ≡ Some inst → is_phi inst ≡ false) → behind_phis insts ≡ insts
behind-none [] h = refl
behind-none (Phi d pairs ∷ insts) h = absurd (let bad : true ≡ false = h 0 (Phi d pairs) refl in cc)
behind-none (Param d n ∷ insts) h = refl
behind-none (Op op d a b ∷ insts) h = refl
behind-none (Imm op d a n ∷ insts) h = refl
behind-none (Const d n ∷ insts) h = refl
behind-none (Move d a ∷ insts) h = refl
behind-none (Load op d a n ∷ insts) h = refl
behind-none (Store op a b n ∷ insts) h = refl
behind-none (Call g args results ∷ insts) h = refl
behind-none (TakeData d n ∷ insts) h = refl
behind-none (CopyBytes a b n ∷ insts) h = refl
behind-none (FillBytes a b n ∷ insts) h = refl
behind-none (Branch op a b t e ∷ insts) h = refl
behind-none (Jump t ∷ insts) h = refl
behind-none (Return rs ∷ insts) h = refl
behind-none (Trap ∷ insts) h = refl

pub with-none : (from : ℕ) (before regs : Registers) (insts : List MInst) → ((place : ℕ) (inst : MInst) → slice_get insts place ≡ Some inst → is_phi inst ≡ false) → with_phis from before insts regs ≡ regs
with-none from before regs [] h = refl
with-none from before regs (Phi d pairs ∷ insts) h = absurd (let bad : true ≡ false = h 0 (Phi d pairs) refl in cc)
with-none from before regs (Param d n ∷ insts) h = refl
with-none from before regs (Op op d a b ∷ insts) h = refl
with-none from before regs (Imm op d a n ∷ insts) h = refl
with-none from before regs (Const d n ∷ insts) h = refl
with-none from before regs (Move d a ∷ insts) h = refl
with-none from before regs (Load op d a n ∷ insts) h = refl
with-none from before regs (Store op a b n ∷ insts) h = refl
with-none from before regs (Call g args results ∷ insts) h = refl
with-none from before regs (TakeData d n ∷ insts) h = refl
with-none from before regs (CopyBytes a b n ∷ insts) h = refl
with-none from before regs (FillBytes a b n ∷ insts) h = refl
with-none from before regs (Branch op a b t e ∷ insts) h = refl
with-none from before regs (Jump t ∷ insts) h = refl
with-none from before regs (Return rs ∷ insts) h = refl
with-none from before regs (Trap ∷ insts) h = refl

takes-none : (inst : MInst) → takes_data inst ≡ false → taken_by inst ≡ 0
takes-none (TakeData d n) h = absurd (let bad : true ≡ false = h in cc)
takes-none (Param d n) h = refl
takes-none (Op op d a b) h = refl
takes-none (Imm op d a n) h = refl
takes-none (Const d n) h = refl
takes-none (Move d a) h = refl
takes-none (Load op d a n) h = refl
takes-none (Store op a b n) h = refl
takes-none (Phi d pairs) h = refl
takes-none (Call g args results) h = refl
takes-none (CopyBytes a b n) h = refl
takes-none (FillBytes a b n) h = refl
takes-none (Branch op a b t e) h = refl
takes-none (Jump t) h = refl
takes-none (Return rs) h = refl
takes-none Trap h = refl

none-taken : (insts : List MInst) → ((place : ℕ) (inst : MInst) → slice_get insts place ≡ Some inst → takes_data inst ≡ false) → taken_in insts ≡ 0
none-taken [] h = refl
none-taken (inst ∷ insts) h =
    let one = takes-none inst (h 0 inst refl) in
    let rest = none-taken insts (λ place i e. h (suc place) i e) in
    omega (arith, one, rest)

pub index-get : (insts : List MInst) (k : ℕ) (inst : MInst) → k < length insts → slice_index_or insts k inst ≡ inst → slice_get insts k ≡ Some inst
index-get [] k inst lt e = absurd (let bad : ⊥ = omega (arith, lt) in bad)
index-get (x ∷ xs) zero inst lt e = ap Some e
index-get (x ∷ xs) (suc k) inst lt e = index-get xs k inst (omega (arith, lt)) e

module _ (m : Meaning) (f : MFunction) (well : IsWellFormed f) (no-phi : HasNoPhi f) (places : Places) (intervals : Intervals) (covers : Covers f intervals) (fits : Fits intervals (slots_of f.values) places)
    (a : Invocation) (s : Machine) (wide : control_base + frame_of f.values ≤ a.sp) where
  abbrev slots : ℕ
  slots = slots_of f.values

  abbrev low : ℕ
  low = a.sp - frame_of f.values

  -- nothing that an activation keeps is in t0, t1 or t6
  pub keeps-quiet : (long : ℕ) (p q : Point) → Quiet p q → Keeps m f places a s long p → Keeps m f places a s long q
  keeps-quiet long p q w h = record {
    sp = w.others 2 (λ z. cc) (λ z. cc) (λ z. cc) ∙ h.sp;
    ra = ap (λ (c : ℕ → ℕ). load_bytes c (low + ra_offset (frame_of f.values)) 8) w.control ∙ h.ra;
    saved = λ k lt uses-k. ap (λ (c : ℕ → ℕ). load_bytes c (low + save_offset (frame_of f.values) k) 8) w.control ∙ h.saved k lt uses-k;
    others = λ k lt free-k. let x = is-saved k lt in let l = x.low in let t = x.high in
        w.others (saved_number k) (λ z. let bad : ⊥ = omega (arith, z, l) in bad) (λ z. let bad : ⊥ = omega (arith, z, l) in bad) (λ z. let bad : ⊥ = omega (arith, z, t) in bad) ∙ h.others k lt free-k;
    data_top = w.others 27 (λ z. cc) (λ z. cc) (λ z. cc) ∙ h.data_top;
    kept = λ x le. ap (λ (c : ℕ → ℕ). c x) w.control ∙ h.kept x le;
    counted = w.counted ∙ h.counted;
    bytes = λ x. let e : q.machine.bytes x ≡ p.machine.bytes x = ap (λ (bytes : ℕ → ℕ). bytes x) w.bytes in let b = h.bytes x in omega (arith, e, b);
  }

  not-first : (t : ℕ) → 0 < t → (b : Bool) (P : Type 0) → (b ≡ true → t ≡ 0) → b ≡ false
  not-first t lt true P h = absurd (let e = h refl in let bad : ⊥ = omega (arith, lt, e) in bad)
  not-first t lt false P h = refl

  -- the machine stands for the state behind an edge to a block
  pub stands-edge : (now : State) (p q : Point) (inst : MInst) (rest : List MInst) (t : ℕ) → now.rest ≡ inst ∷ rest → Contains (targets inst) t → writes inst ≡ [] → taken_in now.rest ≡ 0
      → Quiet p q → Stands m f places a s now p → Stands m f places a s (jumped f now t) q
  stands-edge now p q inst rest t left goes none took w h = record {
    place = 0;
    rests = sym heads;
    held = λ r live.
        let x = live-placed f places intervals covers fits r t 0 live in
        let same : number_at low q.machine (place_of places r) ≡ number_at low p.machine (place_of places r) =
        ap (number_at low q.machine) x.1 ∙ number-quiet low slots p q x.0 x.2 w ∙ ap (number_at low p.machine) (sym x.1) in
        let before : IsHeld (now.regs r) (number_at low p.machine (place_of places r)) = h.held r (goes_on inst at (no-write r) (jump inst t at goes) live) in
        subst (λ (regs : Registers). IsHeld (regs r) (number_at low q.machine (place_of places r))) (sym regs) (subst (IsHeld (now.regs r)) (sym same) before);
    arguments = λ d n lt in'. absurd (no-param d n (subst (λ (insts : List MInst). Contains insts (Param d n)) heads in'));
    keeps = keeps-quiet (length now.memory) p q w h.keeps;
    long = (h.long.0, (let here : taken_in (behind_phis (block_of f t)) ≡ 0 = ap taken_in heads ∙ none-taken (block_of f t) no-takes in let long = h.long.1 in omega (arith, here, long, took)));
    room = h.room;
    memory' = λ i b e. ap (λ (bytes : ℕ → ℕ). bytes (data_base + i)) w.bytes ∙ h.memory' i b e;
  }
    where
      at : inst_at f now.block h.place ≡ Some inst
      at = (dropped (block_of f now.block) h.place inst rest (h.rests ∙ left)).0

      later-block : 0 < t
      later-block = ((well.placed now.block h.place inst at).targets_exist t goes).0

      no-write : (r : ℕ) → Contains (writes inst) r → ⊥
      no-write r in' = let x : Contains [] r = subst (λ (ds : List ℕ). Contains ds r) none in' in let lt = x.1 in omega (arith, lt)

      no-phis : (place : ℕ) (i : MInst) → slice_get (block_of f t) place ≡ Some i → is_phi i ≡ false
      no-phis place i e = no-phi t place i e

      heads : behind_phis (block_of f t) ≡ block_of f t
      heads = behind-none (block_of f t) no-phis

      regs : with_phis now.block now.regs (block_of f t) now.regs ≡ now.regs
      regs = with-none now.block now.regs now.regs (block_of f t) no-phis

      no-takes : (place : ℕ) (i : MInst) → slice_get (block_of f t) place ≡ Some i → takes_data i ≡ false
      no-takes place i e = not-first t later-block (takes_data i) (Unit {0}) (λ takes. (well.placed t place i e).data_taken takes)

      no-param : (d n : ℕ) → Contains (block_of f t) (Param d n) → ⊥
      no-param d n in' =
          let e = index-get (block_of f t) in'.0 (Param d n) in'.1 in'.2 in
          let first = ((well.placed t in'.0 (Param d n) e).params refl).0 in
          let later = later-block in
          omega (arith, first, later)
