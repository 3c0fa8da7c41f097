-- What a machine stands for stays where registers that code may change do, and behind instructions that write no register.
use Rattle.std.proofs.Common.{◌≡◌, ◌≢◌, refl, sym, ap, subst, ◌∙◌, ℕ, zero, suc, ◌+◌, ◌-◌, ◌*◌, ◌%◌, ◌<◌, ◌≤◌, ◌⊎◌, inl, inr, Bool, true, false, List, [], ◌∷◌, ◌++◌, length, Option, Some, None, arith}
use Rattle.std.specs.Prelude.{drop, slice_get, slice_index_or}
use Rattle.std.specs.List.{Contains}
use Rattle.rv_core.specs.Bytes.{load_bytes}
use Rattle.rv_core.proofs.Bytes.{load_alike}
use Rattle.rv_core.specs.declared.instr.Instr.{Instr}
use Rattle.abi.specs.Frame.{slot_place}
use Rattle.ir_meaning.specs.Memory.{Memory, top as top_of}
use Rattle.ir_meaning.specs.Plays.{Meaning, Invocation}
use Rattle.rv_play.specs.Machine.{Machine, code_base, code_limit, control_base, control_end, data_base, data_end}
use Rattle.rv_play.specs.CodePlay.{Place as Words, Point}
use Rattle.rv_play.specs.Good.{IsBytes, RefinesMemory}
use Rattle.rv_play.proofs.Lines.{Goes as Run}
use Rattle.walks.specs.Walk.{Step}
use Rattle.walks.specs.Registers.{Registers}
use Rattle.walks.specs.Face.{frame_of}
use Rattle.mir.specs.declared.code.MInst.{MInst}
use Rattle.mir.specs.declared.code.MInst.TheVariants.{Param}
use Rattle.mir.specs.declared.code.MFunction.{MFunction}
use Rattle.mir.specs.declared.places.Place.{Place}
use Rattle.mir.specs.declared.places.Place.TheVariants.{Saved, Slot}
use Rattle.mir.specs.declared.places.Places.{Places}
use Rattle.mir.specs.Code.{writes, ends_block, inst_at, block_of, next}
use Rattle.mir.specs.Live.{ReadFrom, goes_on}
use Rattle.mir.specs.Places.{IsPlace, place_of}
use Rattle.mir.specs.WellFormed.{is_param, HasRanges}
use Rattle.mir_play.specs.Play.{State}
use Rattle.mir_play.specs.Machine.{IsHeld}
use Rattle.good_code.proofs.BySteps.{Advances, Onward}
use Rattle.code_pieces.specs.Items.{Item, plain}
use Rattle.code_pieces.specs.Labels.{StandsAs}
use Rattle.frame_code.specs.Frame.{slots_of, ra_offset, save_offset, uses}
use Rattle.frame_code.specs.Code.{taken_by, taken_in, taken, inst_items, insts_items, blocks_items}
use Rattle.frame_code.specs.Stands.{saved_number, number_at, Keeps, Stands, Here, left}
use Rattle.frame_code.specs.Laws.{CanLayOut, StandsLaidOut}
use Rattle.frame_code.proofs.Numbers.{IsSaved, is-saved}
use Rattle.frame_code.proofs.Placed.{dropped, live-placed}
use Rattle.frame_code.proofs.Jumps.{index-get}
use Rattle.frame_code.proofs.Steps.{code-there, inst-there}

-- nothing changes of what holds registers of the function, with a frame from this address on
pub record Still (low : ℕ) (p q : Point) : Type 0 where
  pub sp : q.machine.regs.x 2 ≡ p.machine.regs.x 2
  pub data_top : q.machine.regs.x 27 ≡ p.machine.regs.x 27
  pub saved : (k : ℕ) → k < 11 → q.machine.regs.x (saved_number k) ≡ p.machine.regs.x (saved_number k)
  pub control : (x : ℕ) → low ≤ x → q.machine.control x ≡ p.machine.control x
  pub counted : q.counted ≡ p.counted

-- so it is where no register has changed but t0 to t6 and a0 to a7
pub still-others : (low : ℕ) (p q : Point) → ((j : ℕ) → (j < 5) ⊎ (8 ≤ j) → (j < 10) ⊎ (18 ≤ j) → j < 28 → q.machine.regs.x j ≡ p.machine.regs.x j) → q.machine.control ≡ p.machine.control → q.counted ≡ p.counted → Still low p q
still-others low p q others control counted = record {
  sp = others 2 (inl (omega arith)) (inl (omega arith)) (omega arith);
  data_top = others 27 (inr (omega arith)) (inr (omega arith)) (omega arith);
  saved = λ k lt. let x = is-saved k lt in let h = x.high in others (saved_number k) (inr x.low) x.not-argument (omega (arith, h));
  control = λ x le. ap (λ (c : ℕ → ℕ). c x) control;
  counted = counted;
}

pub still-then : (low : ℕ) (p q r : Point) → Still low p q → Still low q r → Still low p r
still-then low p q r h k = record {
  sp = k.sp ∙ h.sp;
  data_top = k.data_top ∙ h.data_top;
  saved = λ n lt. k.saved n lt ∙ h.saved n lt;
  control = λ x le. k.control x le ∙ h.control x le;
  counted = k.counted ∙ h.counted;
}

pub number-still : (low slots : ℕ) (p q : Point) (place : Place) → IsPlace slots place → Still low p q → number_at low q.machine (Some place) ≡ number_at low p.machine (Some place)
number-still low slots p q (Saved k) is h = h.saved k is
number-still low slots p q (Slot j) is h = load_alike q.machine.control p.machine.control (low + slot_place j) 8 (λ x le lt. h.control x (omega (arith, le)))

get-drop : (xs : List MInst) (n i : ℕ) → slice_get (drop n xs) i ≡ slice_get xs (n + i)
get-drop [] zero i = refl
get-drop [] (suc n) i = refl
get-drop (x ∷ xs) zero i = ap (slice_get (x ∷ xs)) (let z : i ≡ 0 + i = omega arith in z)
get-drop (x ∷ xs) (suc n) i = get-drop xs n i ∙ ap (slice_get (x ∷ xs)) (let z : suc (n + i) ≡ suc n + i = omega arith in z)

module _ (m : Meaning) (f : MFunction) (places : Places) (a : Invocation) (s : Machine) (words : Words) (labels : ℕ → ℕ) (can : CanLayOut f places) (there : StandsLaidOut m f places a s words labels) where
  abbrev fr : ℕ
  fr = frame_of f.values

  abbrev slots : ℕ
  slots = slots_of f.values

  abbrev low : ℕ
  low = a.sp - fr

  abbrev At : State → Point → Type 0
  At = Here m f places a s words labels

  abbrev Runs : ℕ → Point → Point → Type 0
  Runs = Run m there.functions words there.low_base there.high_base

  pub keeps-still : (long : ℕ) (p q : Point) → Still low p q → IsBytes q.machine.bytes → Keeps m f places a s long p → Keeps m f places a s long q
  keeps-still long p q w bytes h = record {
    sp = w.sp ∙ h.sp;
    ra = load_alike q.machine.control p.machine.control (low + ra_offset fr) 8 (λ x le lt. w.control x (omega (arith, le))) ∙ h.ra;
    saved = λ k lt uses-k. load_alike q.machine.control p.machine.control (low + save_offset fr k) 8 (λ x le less. w.control x (omega (arith, le))) ∙ h.saved k lt uses-k;
    others = λ k lt free-k. w.saved k lt ∙ h.others k lt free-k;
    data_top = w.data_top ∙ h.data_top;
    kept = λ x le. w.control x (omega (arith, le)) ∙ h.kept x le;
    counted = w.counted ∙ h.counted;
    bytes = bytes;
  }

  -- no parameter stands behind an instruction that is none
  pub no-param-behind : (block place : ℕ) (inst : MInst) (rest : List MInst) → inst_at f block place ≡ Some inst → drop (place + 1) (block_of f block) ≡ rest → is_param inst ≡ false
      → (d n : ℕ) → Contains rest (Param d n) → ⊥
  no-param-behind block place inst rest at behind isn't d n in' =
      let got : slice_get rest in'.0 ≡ Some (Param d n) = index-get rest in'.0 (Param d n) in'.1 in'.2 in
      let there' : inst_at f block (place + 1 + in'.0) ≡ Some (Param d n) = sym (get-drop (block_of f block) (place + 1) in'.0) ∙ ap (λ (insts : List MInst). slice_get insts in'.0) behind ∙ got in
      let bad : true ≡ false = sym (((can.formed.placed block (place + 1 + in'.0) (Param d n) there').params refl).1 place inst (omega arith) at) ∙ isn't in
      cc

  placed-at : (now : State) (p : Point) (inst : MInst) (rest : List MInst) → now.rest ≡ inst ∷ rest → (h : Stands m f places a s now p)
      → (inst_at f now.block h.place ≡ Some inst) × (drop (h.place + 1) (block_of f now.block) ≡ rest)
  placed-at now p inst rest ahead h = dropped (block_of f now.block) h.place inst rest (h.rests ∙ ahead)

  -- what the instruction at a state is asked
  pub ranges-at : (now : State) (p : Point) (inst : MInst) (rest : List MInst) → At now p → now.rest ≡ inst ∷ rest → HasRanges inst
  ranges-at now p inst rest h ahead = let at = placed-at now p inst rest ahead h.stands in (can.formed.placed now.block h.stands.place inst at.0).ranges

  -- an instruction at a state that is no parameter
  no-param : (now : State) (p : Point) (inst : MInst) (rest : List MInst) → now.rest ≡ inst ∷ rest → is_param inst ≡ false → (h : Stands m f places a s now p) → (d n : ℕ) → Contains now.rest (Param d n) → ⊥
  no-param now p inst rest ahead isn't h d n in' = by_place here.0 here.1 here.2
    where
      here : Contains (inst ∷ rest) (Param d n)
      here = subst (λ (insts : List MInst). Contains insts (Param d n)) ahead in'

      at : (inst_at f now.block h.place ≡ Some inst) × (drop (h.place + 1) (block_of f now.block) ≡ rest)
      at = placed-at now p inst rest ahead h

      by_place : (k : ℕ) → k < length (inst ∷ rest) → slice_index_or (inst ∷ rest) k (Param d n) ≡ Param d n → ⊥
      by_place zero lt e = let bad : true ≡ false = sym (ap is_param e) ∙ isn't in cc
      by_place (suc k) lt e = no-param-behind now.block h.place inst rest at.0 at.1 isn't d n (k, omega (arith, lt), e)

  -- the machine changes, and with it data memory, which stays as long as it is
  pub stands-memory : (now : State) (p q : Point) (inst : MInst) (rest : List MInst) (after : Memory) → now.rest ≡ inst ∷ rest → is_param inst ≡ false → Still low p q → IsBytes q.machine.bytes
      → length after ≡ length now.memory → RefinesMemory after q.machine.bytes → Stands m f places a s now p → Stands m f places a s (record now { memory = after }) q
  stands-memory now p q inst rest after ahead isn't w bytes long refines h = record {
    place = h.place;
    rests = h.rests;
    held = λ r live.
        let x = live-placed f places can.intervals can.covers can.fits r now.block h.place live in
        let same : number_at low q.machine (place_of places r) ≡ number_at low p.machine (place_of places r) =
        ap (number_at low q.machine) x.1 ∙ number-still low slots p q x.0 x.2 w ∙ ap (number_at low p.machine) (sym x.1) in
        subst (IsHeld (now.regs r)) (sym same) (h.held r live);
    arguments = λ d n lt in'. absurd (no-param now p inst rest ahead isn't h d n in');
    keeps = subst (λ (n : ℕ). Keeps m f places a s n q) (sym long) (keeps-still (length now.memory) p q w bytes h.keeps);
    long = (h.long.0, (let total = h.long.1 in omega (arith, long, total)));
    room = let top = h.room in omega (arith, long, top);
    memory' = refines;
  }

  -- an instruction that writes no register is behind
  pub stands-next : (now : State) (p : Point) (inst : MInst) (rest : List MInst) → now.rest ≡ inst ∷ rest → is_param inst ≡ false → ends_block inst ≡ false → writes inst ≡ [] → taken_by inst ≡ 0
      → Stands m f places a s now p → Stands m f places a s (record now { rest = rest }) p
  stands-next now p inst rest ahead isn't ends none takes h = record {
    place = h.place + 1;
    rests = at.1;
    held = λ r live. h.held r (goes_on inst at.0 (no-write r) (next inst at.0 ends) live);
    arguments = λ d n lt in'. absurd (no-param-behind now.block h.place inst rest at.0 at.1 isn't d n in');
    keeps = h.keeps;
    long = (h.long.0, (let took : taken_in now.rest ≡ taken_by inst + taken_in rest = ap taken_in ahead in let long = h.long.1 in omega (arith, took, long, takes)));
    room = h.room;
    memory' = h.memory';
  }
    where
      at : (inst_at f now.block h.place ≡ Some inst) × (drop (h.place + 1) (block_of f now.block) ≡ rest)
      at = placed-at now p inst rest ahead h

      no-write : (r : ℕ) → Contains (writes inst) r → ⊥
      no-write r in' = let x : Contains [] r = subst (λ (ds : List ℕ). Contains ds r) none in' in let lt = x.1 in omega (arith, lt)

  -- where the machine stands for the state behind an instruction, the rest of the code is there
  pub here-behind : (now : State) (p q : Point) (inst : MInst) (rest : List MInst) (code : List Instr) (regs : Registers) (memory : Memory) → At now p → now.rest ≡ inst ∷ rest
      → inst_items f places now.block inst ≡ plain code → q.machine.regs.pc ≡ p.machine.regs.pc + 4 * length code
      → Stands m f places a s (record now { rest = rest; regs = regs; memory = memory }) q → At (record now { rest = rest; regs = regs; memory = memory }) q
  here-behind now p q inst rest code regs memory h ahead same pc stands =
      let even = h.even in
      record {
        stands = stands;
        even = omega (arith, even, pc);
        code = subst (λ (pc : ℕ). StandsAs m words labels pc (insts_items f places now.block rest ++ blocks_items f places (now.block + 1) (drop (now.block + 1) f.blocks))) (sym pc)
            (code-there m there.functions there.room f places can.intervals can.covers can.fits a s there.wide there.high words there.low_base there.high_base labels now p inst rest code h ahead same).1;
      }

  -- so the words have gone on
  pub gone : (now : State) (p q : Point) (inst : MInst) (rest : List MInst) (code : List Instr) (count weight : ℕ) (regs : Registers) (memory : Memory) → At now p → now.rest ≡ inst ∷ rest
      → inst_items f places now.block inst ≡ plain code → Runs count p q → q.machine.regs.pc ≡ p.machine.regs.pc + 4 * length code → count ≤ weight
      → Stands m f places a s (record now { rest = rest; regs = regs; memory = memory }) q
      → Onward m State a s words At (left f) 0 (left f now) weight p (record now { rest = rest; regs = regs; memory = memory })
  gone now p q inst rest code count weight regs memory h ahead same run pc few stands =
      let long : length now.rest ≡ suc (length rest) = ap (λ (insts : List MInst). length insts) ahead in
      record {
        count = count;
        point = q;
        moves = inr (omega (arith, long));
        few = omega (arith, few);
        run = run;
        at = here-behind now p q inst rest code regs memory h ahead same pc stands;
      }
