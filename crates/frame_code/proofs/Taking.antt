-- New bytes of data memory are taken behind its top, or the call ends where there is no room for them.
use Rattle.std.proofs.Common.{◌≡◌, ◌≢◌, refl, sym, ap, subst, ◌∙◌, ℕ, zero, suc, ◌+◌, ◌-◌, ◌*◌, ◌/◌, ◌%◌, ◌^◌, ◌<◌, ◌≤◌, ◌⊎◌, inl, inr, Bool, true, false, cond, not, List, [], ◌∷◌, ◌++◌, length, Option, Some, None, arith, ap₂, append_assoc}
use Rattle.std.specs.Prelude.{◌==◌, ◌&&◌, ℤ, pos, negsuc, nat_lt, nat_le, drop, take, map, replicate, slice_get, slice_index_or, if◌then◌else◌}
use Rattle.std.specs.List.{Contains}
use Rattle.std.proofs.lemmas.Bool.{cases_lt, lt-ltb, le-ltb, le-leb, leb-true, leb-false, ltb-true, ltb-false, and_parts}
use Rattle.std.proofs.lemmas.List.{length-append, length-replicate}
use Rattle.rv_core.specs.Reg.{number_of}
use Rattle.rv_core.specs.declared.reg.Reg.{Reg}
use Rattle.rv_core.specs.declared.reg.Reg.TheVariants.{X0, Ra, Sp, T0, T1, T2, A0, A1, A2, A3, A4, A5, A6, A7, S0, S1, S2, S3, S4, S5, S6, S7, S8, S9, S10, S11}
use Rattle.rv_core.specs.declared.instr.BranchOp.TheVariants.{Bgeu}
use Rattle.rv_core.specs.declared.instr.ImmOp.TheVariants.{Addi}
use Rattle.rv_core.specs.declared.instr.LoadOp.{LoadOp}
use Rattle.rv_core.specs.declared.instr.StoreOp.{StoreOp}
use Rattle.rv_core.specs.declared.instr.RegOp.TheVariants.{Add, Sub}
use Rattle.rv_core.specs.declared.instr.Instr.{Instr}
use Rattle.rv_core.specs.declared.instr.Instr.TheVariants as rv
use Rattle.rv_core.specs.Bytes.{load_bytes, store_bytes}
use Rattle.rv_core.specs.Step.{Registers as MachineRegisters, read, written, write, next as next_regs, plus, modulo, op_value}
use Rattle.rv_core.proofs.Bytes.{load_stored, load_outside, store_outside, load_alike}
use Rattle.abi.specs.Frame.{slot_place}
use Rattle.ir_meaning.specs.Memory.{Memory, top as top_of, is_inside, bytes_at, with_bytes}
use Rattle.ir_meaning.specs.Step.{copied, set}
use Rattle.ir_meaning.specs.Plays.{Meaning, Invocation}
use Rattle.ir_meaning.specs.Ranges.{IsMemory}
use Rattle.ir_meaning.proofs.Lengths.{inside-bounds, with_bytes-length, bytes_at-length}
use Rattle.rv_play.specs.Machine.{Machine, Act, On, Fails, act, loaded, in_data, in_control, code_base, code_limit, control_base, control_end, data_base, data_end}
use Rattle.rv_play.specs.Machine as machine
use Rattle.rv_play.specs.CodePlay.{Place as Words, Point, CodeReply, code_run, go_on, resume}
use Rattle.rv_play.specs.CodePlay as ends
use Rattle.rv_play.specs.Good.{IsBytes, IsRegs, RefinesMemory, RefinesReply, KeepsControl, KeepsRegs, IsReturnAddress, arg_regs}
use Rattle.rv_play.proofs.Lines.{Stands as Stand, stands-apart, Goes as Run, goes-then, goes-none, one-step, plain-step, moved as moved_point, next-regs}
use Rattle.walks.specs.Walk.{Bits, Does, Goes, Step}
use Rattle.walks.specs.Bits.{free, cut, constant, number}
use Rattle.walks.specs.Bytes.{bits_of_bytes, bytes_of_bits}
use Rattle.walks.specs.Registers.{Registers, write as write_register}
use Rattle.walks.specs.Face.{frame_of}
use Rattle.walks.specs.Refines.{RefinesBits}
use Rattle.mir.specs.declared.code.MInst.{MInst}
use Rattle.mir.specs.declared.code.MInst.TheVariants.{Param, Op, Imm, Const, Move, Load, Store, Phi, Call, TakeData, CopyBytes, FillBytes, Branch, Jump, Return, Trap}
use Rattle.mir.specs.declared.code.MFunction.{MFunction}
use Rattle.mir.specs.declared.places.Place.{Place}
use Rattle.mir.specs.declared.places.Place.TheVariants.{Saved, Slot}
use Rattle.mir.specs.declared.places.Places.{Places}
use Rattle.mir.specs.Code.{reads, writes, ends_block, inst_at, block_of}
use Rattle.mir.specs.Places.{IsPlace, place_of}
use Rattle.mir_play.specs.Values.{address, load_size, extended, store_size}
use Rattle.mir_play.specs.Play.{State, by_inst, step, at_address, give, change, moved, behind_call, returned}
use Rattle.mir_play.specs.Machine.{IsHeld}
use Rattle.mir_play.proofs.Holding.{values_hold}
use Rattle.good_code.specs.Runs.{register, HoldBits, AtCall, AtReturn}
use Rattle.good_code.proofs.BySteps.{Advances, Onward, Asked, Resumed, Stopped}
use Rattle.code_pieces.specs.Code.{argument_reg, const_code, load_at, store_at, call_code, leave_code}
use Rattle.code_pieces.specs.Bytes.{taken_bytes, move_code as copy_code, fill_code}
use Rattle.code_pieces.specs.Items.{Item, plain}
use Rattle.code_pieces.specs.Labels.{StandsAs}
use Rattle.code_pieces.proofs.Const.{Puts, put, puts-one, read-put, const-puts, const-short, write-is}
use Rattle.code_pieces.proofs.Const.{read-is}
use Rattle.code_pieces.proofs.Slots.{other-register, loads-at, load-short}
use Rattle.frame_code.specs.Frame.{slots_of, saved_reg, save_offset, ra_offset, uses, used, used_from}
use Rattle.frame_code.specs.Code.{held_in, fetch, keep, load_place, store_place, load_code, store_code, bytes_code, restore_code, give_back, taken_by, taken_in, taken, take_code, arguments_code, answer_code, result_code, inst_items, insts_items, blocks_items}
use Rattle.frame_code.specs.Stands.{saved_number, number_at, Keeps, Stands, Here, left}
use Rattle.frame_code.specs.Laws.{CanLayOut, StandsLaidOut, IsOf}
use Rattle.frame_code.proofs.Short.{fetch-short, keep-short, load-place-short, store-place-short}
use Rattle.frame_code.proofs.Numbers.{IsSaved, is-saved, saved-is-one}
use Rattle.frame_code.proofs.Known.{cut-held, constant-held, number-held, byte-held}
use Rattle.frame_code.proofs.Operands.{Goes_on, on-then, on-puts, Fetched, fetched, fetched-quiet, spare-t0, Ready, ready, Quiet, quiet-none, quiet-then, number-quiet, Writes, writes-behind, Wrote, made, held-some, place-loaded, Stored, place-stored}
use Rattle.frame_code.proofs.Placed.{IsPlaced, first-item, second-item}
use Rattle.frame_code.proofs.Standing.{stands-write, keeps-write, held-write}
use Rattle.frame_code.proofs.Steps.{bottom, top, inside, Operand, operand, result, onward, by-inst, code-there, inst-there}
use Rattle.frame_code.proofs.Keeping.{Still, still-others, still-then, number-still, keeps-still, no-param-behind, ranges-at, stands-memory, stands-next, here-behind, gone}
use Rattle.mir.specs.Live.{ReadFrom}
use Rattle.frame_code.proofs.Numbers.{uses-place}
use Rattle.frame_code.proofs.Placed.{dropped, live-placed}
use Rattle.ir_meaning.specs.Value.{Byte}
use Rattle.rv_play.specs.CodePlay.{Overflows}
use Rattle.walks.specs.Walk.{Wants}
use Rattle.code_pieces.proofs.Memories.{get-front, get-back, no-byte}

pub taken-is : (bytes : ℕ) → ((bytes < 2 ^ 32) × (taken_bytes bytes ≡ bytes)) ⊎ ((2 ^ 32 ≤ bytes) × (taken_bytes bytes ≡ 2 ^ 32))
taken-is bytes = by_test (nat_lt bytes (2 ^ 32)) refl
  where
    by_test : (b : Bool) → nat_lt bytes (2 ^ 32) ≡ b → ((bytes < 2 ^ 32) × (cond b bytes (2 ^ 32) ≡ bytes)) ⊎ ((2 ^ 32 ≤ bytes) × (cond b bytes (2 ^ 32) ≡ 2 ^ 32))
    by_test true e = inl (ltb-true _ _ e, refl)
    by_test false e = inr (ltb-false _ _ e, refl)

pub taken-small : (bytes : ℕ) → taken_bytes bytes ≤ 2 ^ 32
taken-small bytes = by_case (taken-is bytes)
  where
    by_case : ((bytes < 2 ^ 32) × (taken_bytes bytes ≡ bytes)) ⊎ ((2 ^ 32 ≤ bytes) × (taken_bytes bytes ≡ 2 ^ 32)) → taken_bytes bytes ≤ 2 ^ 32
    by_case (inl c) = let lt = c.0 in let e = c.1 in omega (arith, lt, e)
    by_case (inr c) = let e = c.1 in omega (arith, e)

-- bytes for which there is room are taken as they are
pub taken-fits : (bytes : ℕ) → bytes < 2 ^ 32 → taken_bytes bytes ≡ bytes
taken-fits bytes small = by_case (taken-is bytes)
  where
    by_case : ((bytes < 2 ^ 32) × (taken_bytes bytes ≡ bytes)) ⊎ ((2 ^ 32 ≤ bytes) × (taken_bytes bytes ≡ 2 ^ 32)) → taken_bytes bytes ≡ bytes
    by_case (inl c) = c.1
    by_case (inr c) = absurd (let le = c.0 in let bad : ⊥ = omega (arith, le, small) in bad)

-- where there is none, too many are taken
taken-passes : (bytes long end : ℕ) → end ≤ 67108864 → end < long + bytes → end < long + taken_bytes bytes
taken-passes bytes long end small passes = by_case (taken-is bytes)
  where
    by_case : ((bytes < 2 ^ 32) × (taken_bytes bytes ≡ bytes)) ⊎ ((2 ^ 32 ≤ bytes) × (taken_bytes bytes ≡ 2 ^ 32)) → end < long + taken_bytes bytes
    by_case (inl c) = let e = c.1 in omega (arith, e, passes)
    by_case (inr c) = let e = c.1 in omega (arith, e, small)

grown-length : (here : Memory) (bytes : ℕ) → length (here ++ replicate bytes None) ≡ length here + bytes
grown-length here bytes =
    let fresh : Memory = replicate bytes None in
    let both = length-append here fresh in
    let none : Byte = None in
    let many = length-replicate bytes none in
    omega (arith, both, many)

grown-refines : (here : Memory) (n : ℕ) (bytes : ℕ → ℕ) → RefinesMemory here bytes → RefinesMemory (here ++ replicate n None) bytes
grown-refines here n bytes h i b e = by_place (cases_lt i (length here))
  where
    by_place : (i < length here) ⊎ (length here ≤ i) → bytes (data_base + i) ≡ b
    by_place (inl lt) = h i b (sym (get-front here (replicate n None) i lt) ∙ e)
    by_place (inr le) = absurd (no-byte n (i - length here) b None refl (sym (get-back here (replicate n None) i (i - length here) (let z : i ≡ length here + (i - length here) = omega (arith, le) in z)) ∙ e))

-- the point behind a branch
abbrev branched : Point → ℕ → Point
branched p pc = moved_point p (record p.machine { regs = record { x = p.machine.regs.x; pc = pc } }) p.counted

module _ (m : Meaning) (f : MFunction) (places : Places) (a : Invocation) (s : Machine) (words : Words) (labels : ℕ → ℕ) (can : CanLayOut f places) (there : StandsLaidOut m f places a s words labels) where
  abbrev fr : ℕ
  fr = frame_of f.values

  abbrev slots : ℕ
  slots = slots_of f.values

  abbrev low : ℕ
  low = a.sp - fr

  abbrev At : State → Point → Type 0
  At = Here m f places a s words labels

  abbrev Runs : ℕ → Point → Point → Type 0
  Runs = Run m there.functions words there.low_base there.high_base

  abbrev Does_it : State → Point → Step State → Type 0
  Does_it now p st = Advances m State a s words At (left f) 0 (left f now) st.weight p st.does

  abbrev bt : control_base ≤ low
  bt = bottom m there.functions there.room f places can.intervals can.covers can.fits a s there.wide there.high words there.low_base there.high_base labels

  abbrev tp : low + fr ≤ control_end
  tp = top m there.functions there.room f places can.intervals can.covers can.fits a s there.wide there.high words there.low_base there.high_base labels

  abbrev ins : 8 * slots ≤ fr
  ins = inside m there.functions there.room f places can.intervals can.covers can.fits a s there.wide there.high words there.low_base there.high_base labels

  abbrev Given : State → Point → ℕ → Type 0
  Given = Operand m there.functions there.room f places can.intervals can.covers can.fits a s there.wide there.high words there.low_base there.high_base labels

  given : (now : State) (p : Point) (inst : MInst) (rest : List MInst) (r : ℕ) → At now p → now.rest ≡ inst ∷ rest → Contains (reads inst) r → Given now p r
  given = operand m there.functions there.room f places can.intervals can.covers can.fits a s there.wide there.high words there.low_base there.high_base labels

  code-here : (now : State) (p : Point) (inst : MInst) (rest : List MInst) (code : List Instr) → At now p → now.rest ≡ inst ∷ rest → inst_items f places now.block inst ≡ plain code → Stand words p.machine.regs.pc code
  code-here now p inst rest code h ahead same = (code-there m there.functions there.room f places can.intervals can.covers can.fits a s there.wide there.high words there.low_base there.high_base labels now p inst rest code h ahead same).0

  by-step : (now : State) (p : Point) (inst : MInst) (rest : List MInst) → now.rest ≡ inst ∷ rest → Does_it now p (by_inst f now rest inst) → Does_it now p (step f now)
  by-step = by-inst m there.functions there.room f places can.intervals can.covers can.fits a s there.wide there.high words there.low_base there.high_base labels

  branch-goes : (p : Point) (b : Bool) (pc : ℕ) → nat_lt (p.machine.regs.x 6) (p.machine.regs.x 5) ≡ b → Stand words p.machine.regs.pc (rv.Branch Bgeu T1 T0 (pos 12) ∷ []) → p.machine.regs.pc + 12 ≤ code_limit
      → p.machine.regs.pc + cond (not b) 12 4 ≡ pc → Runs 1 p (branched p pc)
  branch-goes p true pc e st bound to =
      let base = st.0 in
      let goes : plus p.machine.regs.pc (pos 4) ≡ pc = omega (arith, to, bound) in
      plain-step m there.functions words there.low_base there.high_base p (rv.Branch Bgeu T1 T0 (pos 12)) (branched p pc).machine st.2 refl
      (ap (λ (c : Bool). On (record p.machine { regs = record { x = p.machine.regs.x; pc = plus p.machine.regs.pc (cond (not c) (pos 12) (pos 4)) } })) e
      ∙ ap (λ (j : ℕ). On (record p.machine { regs = record { x = p.machine.regs.x; pc = j } })) goes) (omega (arith, base, to))
  branch-goes p false pc e st bound to =
      let base = st.0 in
      let goes : plus p.machine.regs.pc (pos 12) ≡ pc = omega (arith, to, bound) in
      plain-step m there.functions words there.low_base there.high_base p (rv.Branch Bgeu T1 T0 (pos 12)) (branched p pc).machine st.2 refl
      (ap (λ (c : Bool). On (record p.machine { regs = record { x = p.machine.regs.x; pc = plus p.machine.regs.pc (cond (not c) (pos 12) (pos 4)) } })) e
      ∙ ap (λ (j : ℕ). On (record p.machine { regs = record { x = p.machine.regs.x; pc = j } })) goes) (omega (arith, base, to))

  still-t : (p : Point) (rd : Reg) (v k : ℕ) → (number_of rd ≡ 5) ⊎ (number_of rd ≡ 6) → Still low p (put p rd v k)
  still-t p rd v k is = still-others low p (put p rd v k) (λ j l g t. other-register p.machine.regs.x (number_of rd) j v (apart j is l)) refl refl
    where
      apart : (j : ℕ) → (number_of rd ≡ 5) ⊎ (number_of rd ≡ 6) → (j < 5) ⊎ (8 ≤ j) → j ≢ number_of rd
      apart j (inl e) (inl l) = λ z. let bad : ⊥ = omega (arith, z, e, l) in bad
      apart j (inl e) (inr l) = λ z. let bad : ⊥ = omega (arith, z, e, l) in bad
      apart j (inr e) (inl l) = λ z. let bad : ⊥ = omega (arith, z, e, l) in bad
      apart j (inr e) (inr l) = λ z. let bad : ⊥ = omega (arith, z, e, l) in bad

  abbrev tail : Option Place → List Instr
  tail d = rv.Branch Bgeu T1 T0 (pos 12) ∷ rv.Imm Addi T0 X0 (pos 2) ∷ rv.Ecall ∷ (store_place S11 d ++ rv.Imm Addi S11 T0 (pos 0) ∷ [])

  -- the new data top stands in t0, and the end of data memory in t1
  record Tested (d : Option Place) (long n : ℕ) (p : Point) : Type 0 where
    count : ℕ
    point : Point
    is : length (const_code 3 T0 (taken_bytes n)) + (1 + length (const_code 3 T1 f.end)) ≡ count
    run : Runs count p point
    pc : point.machine.regs.pc ≡ p.machine.regs.pc + 4 * count
    new : point.machine.regs.x 5 ≡ data_base + long + taken_bytes n
    last : point.machine.regs.x 6 ≡ f.end
    still : Still low p point
    bytes : point.machine.bytes ≡ p.machine.bytes
    code : Stand words point.machine.regs.pc (tail d)

  tested : (d : Option Place) (long n : ℕ) (p : Point) → long ≤ 67108864 → f.end < 2 ^ 64 → p.machine.regs.x 27 ≡ data_base + long → Stand words p.machine.regs.pc (take_code f places d n) → Tested d long n p
  tested d long n p small end top st =
      let k = taken_bytes n in
      let t = data_base + long + k in
      let c0 = const_code 3 T0 k in
      let c1 = const_code 3 T1 f.end in
      let few = taken-small n in
      let parts = stands-apart words p.machine.regs.pc c0 (rv.Op Add T0 S11 T0 ∷ (c1 ++ tail d)) st in
      let p1 = put p T0 k (length c0) in
      let r0 = const-puts m there.functions words there.low_base there.high_base p T0 k (λ z. cc) (omega (arith, few)) parts.0 in
      let st1 = parts.1 in
      let sum : op_value Add (p.machine.regs.x 27) k ≡ t = omega (arith, top, few, small) in
      let p2 = put p1 T0 t 1 in
      let r1 = puts-one m there.functions words there.low_base there.high_base p1 T0 t (rv.Op Add T0 S11 T0) (λ z. cc) refl (ap (λ (v : ℕ). On (record p1.machine { regs = next_regs (write p1.machine.regs T0 v) })) sum) (st1.0, st1.1, st1.2, tt) in
      let parts2 = stands-apart words p2.machine.regs.pc c1 (tail d) st1.3 in
      let p3 = put p2 T1 f.end (length c1) in
      let r2 = const-puts m there.functions words there.low_base there.high_base p2 T1 f.end (λ z. cc) end parts2.0 in
      record {
        count = length c0 + (1 + length c1);
        point = p3;
        is = refl;
        run = goes-then m there.functions words there.low_base there.high_base (length c0) (1 + length c1) p p1 p3 r0 (goes-then m there.functions words there.low_base there.high_base 1 (length c1) p1 p2 p3 r1 r2);
        pc = omega arith;
        new = refl;
        last = refl;
        still = still-then low p p1 p3 (still-t p T0 k (length c0) (inl refl)) (still-then low p1 p2 p3 (still-t p1 T0 t 1 (inl refl)) (still-t p2 T1 f.end (length c1) (inr refl)));
        bytes = refl;
        code = parts2.1;
      }

  -- the data top's register alone has changed
  record Raised (p q : Point) (t : ℕ) : Type 0 where
    others : (j : ℕ) → j ≢ 27 → q.machine.regs.x j ≡ p.machine.regs.x j
    top : q.machine.regs.x 27 ≡ t
    control : q.machine.control ≡ p.machine.control
    bytes : q.machine.bytes ≡ p.machine.bytes
    counted : q.counted ≡ p.counted

  number-raised : (p q : Point) (t : ℕ) (place : Place) → IsPlace slots place → Raised p q t → number_at low q.machine (Some place) ≡ number_at low p.machine (Some place)
  number-raised p q t (Saved k) is h = let x = is-saved k is in let hi = x.high in h.others (saved_number k) (λ z. let bad : ⊥ = omega (arith, z, hi) in bad)
  number-raised p q t (Slot j) is h = ap (λ (c : ℕ → ℕ). load_bytes c (low + slot_place j) 8) h.control

  keeps-raised : (long more t : ℕ) (p q : Point) → t ≡ data_base + more → Raised p q t → Keeps m f places a s long p → Keeps m f places a s more q
  keeps-raised long more t p q is w h = record {
    sp = w.others 2 (λ z. cc) ∙ h.sp;
    ra = ap (λ (c : ℕ → ℕ). load_bytes c (low + ra_offset fr) 8) w.control ∙ h.ra;
    saved = λ k lt u. ap (λ (c : ℕ → ℕ). load_bytes c (low + save_offset fr k) 8) w.control ∙ h.saved k lt u;
    others = λ k lt u. let x = is-saved k lt in let hi = x.high in w.others (saved_number k) (λ z. let bad : ⊥ = omega (arith, z, hi) in bad) ∙ h.others k lt u;
    data_top = w.top ∙ is;
    kept = λ y le. ap (λ (c : ℕ → ℕ). c y) w.control ∙ h.kept y le;
    counted = w.counted ∙ h.counted;
    bytes = subst IsBytes (sym w.bytes) h.bytes;
  }

  held-raised : (now : State) (p q : Point) (t place : ℕ) (regs : Registers) → Raised p q t → ((r : ℕ) → ReadFrom f r now.block place → IsHeld (regs r) (number_at low p.machine (place_of places r)))
      → (r : ℕ) → ReadFrom f r now.block place → IsHeld (regs r) (number_at low q.machine (place_of places r))
  held-raised now p q t place regs w h r live =
      let y = live-placed f places can.intervals can.covers can.fits r now.block place live in
      let same : number_at low q.machine (place_of places r) ≡ number_at low p.machine (place_of places r) =
      ap (number_at low q.machine) y.1 ∙ number-raised p q t y.0 y.2 w ∙ ap (number_at low p.machine) (sym y.1) in
      subst (IsHeld (regs r)) (sym same) (h r live)

  -- behind the new bytes, with the old top at its place
  stands-raised : (now : State) (p q : Point) (d n : ℕ) (rest : List MInst) (place : ℕ) (regs : Registers) → inst_at f now.block place ≡ Some (TakeData d n) → drop (place + 1) (block_of f now.block) ≡ rest
      → ((r : ℕ) → ReadFrom f r now.block (place + 1) → IsHeld (regs r) (number_at low p.machine (place_of places r))) → Keeps m f places a s (length now.memory) p → RefinesMemory now.memory p.machine.bytes
      → now.base_length ≡ length a.memory → length now.memory + (n + taken_in rest) ≡ now.base_length + taken f → top_of now.memory + n ≤ data_end m → Raised p q (data_base + length now.memory + n)
      → Stands m f places a s (record now { rest = rest; memory = now.memory ++ replicate n None; regs = regs }) q
  stands-raised now p q d n rest place regs at behind held keeps refines base total fits w =
      let long = grown-length now.memory n in
      record {
        place = place + 1;
        rests = behind;
        held = held-raised now p q (data_base + length now.memory + n) (place + 1) regs w held;
        arguments = λ e k lt in'. absurd (no-param-behind m f places a s words labels can there now.block place (TakeData d n) rest at behind refl e k in');
        keeps = keeps-raised (length now.memory) (length (now.memory ++ replicate n None)) (data_base + length now.memory + n) p q (omega (arith, long)) w keeps;
        long = (base, omega (arith, long, total));
        room = omega (arith, long, fits);
        memory' = grown-refines now.memory n q.machine.bytes (subst (RefinesMemory now.memory) (sym w.bytes) refines);
      }

  grown : (now : State) (p p4 p5 p6 : Point) (d n : ℕ) (rest : List MInst) (to : Place) (h : At now p) → now.rest ≡ TakeData d n ∷ rest → place_of places d ≡ Some to → IsPlace slots to → Still low p p4 → p4.machine.bytes ≡ p.machine.bytes
      → Writes low slots p4 p5 to (data_base + length now.memory) → top_of now.memory + n ≤ data_end m → data_base + length now.memory < 2 ^ 64 → Raised p5 p6 (data_base + length now.memory + n)
      → Stands m f places a s (record now { rest = rest; memory = now.memory ++ replicate n None; regs = write_register now.regs d (constant 64 (top_of now.memory)) }) p6
  grown now p p4 p5 p6 d n rest to h ahead e-d is still4 bytes4 w fits small raised =
      let inst = TakeData d n in
      let refines4 = subst (RefinesMemory now.memory) (sym bytes4) h.stands.memory' in
      let stands4 = stands-memory m f places a s words labels can there now p p4 inst rest now.memory ahead refl still4 (subst IsBytes (sym bytes4) h.stands.keeps.bytes) refl refines4 h.stands in
      let at = dropped (block_of f now.block) stands4.place inst rest (stands4.rests ∙ ahead) in
      let keeps5 = keeps-write m f places can.intervals can.covers can.fits a s there.wide (length now.memory) (data_base + length now.memory) p4 p5 to is (λ k same. uses-place places d k (e-d ∙ ap Some same)) w stands4.keeps in
      let held5 = held-write m f places can.intervals can.covers can.fits a s there.wide now p4 p5 inst stands4.place d (data_base + length now.memory) to (constant 64 (top_of now.memory)) at.0 refl refl e-d is (record { low = small; bits = λ i bit e. e }) w stands4.held in
      let took : taken_in now.rest ≡ n + taken_in rest = ap taken_in ahead in
      let total = h.stands.long.1 in
      stands-raised now p5 p6 d n rest stands4.place (write_register now.regs d (constant 64 (top_of now.memory))) at.0 at.1 held5 keeps5 (subst (RefinesMemory now.memory) (sym w.bytes) refines4) h.stands.long.0 (omega (arith, took, total)) fits raised

  take-short : (d : Option Place) (n : ℕ) → length (const_code 3 T0 (taken_bytes n)) + (1 + length (const_code 3 T1 f.end)) ≤ 17
  take-short d n = let x = const-short 3 T0 (taken_bytes n) in let y = const-short 3 T1 f.end in omega (arith, x, y)

  -- the new data top is taken, and the old one stands at its place
  record Took (to : Place) (long n : ℕ) (p : Point) : Type 0 where
    count : ℕ
    few : count ≤ 48
    point4 : Point
    point5 : Point
    point : Point
    run : Runs count p point
    pc : point.machine.regs.pc ≡ p.machine.regs.pc + 4 * length (take_code f places (Some to) n)
    still : Still low p point4
    bytes : point4.machine.bytes ≡ p.machine.bytes
    writes : Writes low slots point4 point5 to (data_base + long)
    raised : Raised point5 point (data_base + long + n)

  raise-goes : (t : ℕ) (p : Point) → p.machine.regs.x 5 ≡ t → t < 2 ^ 64 → Stand words p.machine.regs.pc (rv.Imm Addi S11 T0 (pos 0) ∷ []) → Runs 1 p (put p S11 t 1)
  raise-goes t p five small st =
      let sum : (p.machine.regs.x 5 + 0 % 2 ^ 64) % 2 ^ 64 ≡ t = omega (arith, five, small) in
      puts-one m there.functions words there.low_base there.high_base p S11 t (rv.Imm Addi S11 T0 (pos 0)) (λ z. cc) refl (ap (λ (v : ℕ). On (record p.machine { regs = next_regs (write p.machine.regs S11 v) })) sum) st

  take-long : (to : Place) (n count : ℕ) → length (const_code 3 T0 (taken_bytes n)) + (1 + length (const_code 3 T1 f.end)) ≡ count
      → length (take_code f places (Some to) n) ≡ count + (3 + (length (store_place S11 (Some to)) + 1))
  take-long to n count is =
      let l0 = length-append (const_code 3 T0 (taken_bytes n)) (rv.Op Add T0 S11 T0 ∷ (const_code 3 T1 f.end ++ tail (Some to))) in
      let l1 = length-append (const_code 3 T1 f.end) (tail (Some to)) in
      let l2 = length-append (store_place S11 (Some to)) (rv.Imm Addi S11 T0 (pos 0) ∷ []) in
      omega (arith, is, l0, l1, l2)

  -- behind the test, where there is room
  record Passed (to : Place) (p : Point) : Type 0 where
    point : Point
    run : Runs 1 p point
    pc : point.machine.regs.pc ≡ p.machine.regs.pc + 12
    same : (j : ℕ) → point.machine.regs.x j ≡ p.machine.regs.x j
    control : point.machine.control ≡ p.machine.control
    bytes : point.machine.bytes ≡ p.machine.bytes
    counted : point.counted ≡ p.counted
    code : Stand words point.machine.regs.pc (store_place S11 (Some to) ++ rv.Imm Addi S11 T0 (pos 0) ∷ [])

  passes : (to : Place) (p : Point) → p.machine.regs.x 5 ≤ p.machine.regs.x 6 → Stand words p.machine.regs.pc (tail (Some to)) → Passed to p
  passes to p le st =
      let bound = st.3.3.1 in
      let at6 : p.machine.regs.pc + 4 + 4 + 4 ≡ p.machine.regs.pc + 12 = omega arith in
      record {
        point = branched p (p.machine.regs.pc + 12);
        run = branch-goes p false (p.machine.regs.pc + 12) (le-ltb (p.machine.regs.x 6) (p.machine.regs.x 5) le) (st.0, st.1, st.2, tt) (omega (arith, bound)) refl;
        pc = refl;
        same = λ j. refl;
        control = refl;
        bytes = refl;
        counted = refl;
        code = subst (λ (k : ℕ). Stand words k (store_place S11 (Some to) ++ rv.Imm Addi S11 T0 (pos 0) ∷ [])) at6 st.3.3.3;
      }

  -- the old top is put to its place, and the new one is in s11
  record Topped (to : Place) (long n : ℕ) (p : Point) : Type 0 where
    point5 : Point
    point : Point
    run : Runs (length (store_place S11 (Some to)) + 1) p point
    pc : point.machine.regs.pc ≡ p.machine.regs.pc + 4 * (length (store_place S11 (Some to)) + 1)
    writes : Writes low slots p point5 to (data_base + long)
    raised : Raised point5 point (data_base + long + n)

  raised-put : (p : Point) (t : ℕ) → Raised p (put p S11 t 1) t
  raised-put p t = record { others = λ j ne. other-register p.machine.regs.x 27 j t ne; top = refl; control = refl; bytes = refl; counted = refl }

  then-raised : (to : Place) (long n : ℕ) (p : Point) → data_base + long + n < 2 ^ 64 → p.machine.regs.x 5 ≡ data_base + long + n
      → Stored m there.functions there.room words there.low_base there.high_base low fr slots bt tp ins (store_place S11 (Some to)) to (data_base + long) p
      → Stand words (p.machine.regs.pc + 4 * length (store_place S11 (Some to))) (rv.Imm Addi S11 T0 (pos 0) ∷ []) → Topped to long n p
  then-raised to long n p small five stored st =
      let q = stored.wrote.point in
      let pc = stored.wrote.on.pc in
      record {
        point5 = q;
        point = put q S11 (data_base + long + n) 1;
        run = goes-then m there.functions words there.low_base there.high_base (length (store_place S11 (Some to))) 1 p q (put q S11 (data_base + long + n) 1) stored.wrote.on.run
            (raise-goes (data_base + long + n) q (stored.t0 ∙ five) small (subst (λ (k : ℕ). Stand words k (rv.Imm Addi S11 T0 (pos 0) ∷ [])) (sym pc) st));
        pc = omega (arith, pc);
        writes = stored.wrote.writes;
        raised = raised-put q (data_base + long + n);
      }

  topped : (to : Place) (long n : ℕ) (p : Point) → IsPlace slots to → p.machine.regs.x 2 ≡ low → p.machine.regs.x 27 ≡ data_base + long → data_base + long + n < 2 ^ 64 → p.machine.regs.x 5 ≡ data_base + long + n
      → Stand words p.machine.regs.pc (store_place S11 (Some to) ++ rv.Imm Addi S11 T0 (pos 0) ∷ []) → Topped to long n p
  topped to long n p is sp top-is small five st =
      let parts = stands-apart words p.machine.regs.pc (store_place S11 (Some to)) (rv.Imm Addi S11 T0 (pos 0) ∷ []) st in
      then-raised to long n p small five
      (place-stored m there.functions there.room words there.low_base there.high_base low fr slots bt tp ins S11 to (data_base + long) p (λ z. cc) is sp top-is (omega (arith, small)) parts.0) parts.1

  still-passed : (to : Place) (p q : Point) → Still low p q → (y : Passed to q) → Still low p y.point
  still-passed to p q h y = record {
    sp = y.same 2 ∙ h.sp;
    data_top = y.same 27 ∙ h.data_top;
    saved = λ k lt. y.same (saved_number k) ∙ h.saved k lt;
    control = λ z le. ap (λ (c : ℕ → ℕ). c z) y.control ∙ h.control z le;
    counted = y.counted ∙ h.counted;
  }

  took : (to : Place) (long n : ℕ) (p : Point) (x : Tested (Some to) long n p) (y : Passed to x.point) → Topped to long n y.point → Took to long n p
  took to long n p x y z =
      let short = take-short (Some to) n in
      let short' = store-place-short S11 (Some to) in
      let count = x.is in
      let pc3 = x.pc in let pc4 = y.pc in let pc5 = z.pc in
      let total = take-long to n x.count count in
      record {
        count = x.count + (1 + (length (store_place S11 (Some to)) + 1));
        few = omega (arith, count, short, short');
        point4 = y.point;
        point5 = z.point5;
        point = z.point;
        run = goes-then m there.functions words there.low_base there.high_base x.count (1 + (length (store_place S11 (Some to)) + 1)) p x.point z.point x.run
            (goes-then m there.functions words there.low_base there.high_base 1 (length (store_place S11 (Some to)) + 1) x.point y.point z.point y.run z.run);
        pc = omega (arith, pc3, pc4, pc5, total);
        still = still-passed to p x.point x.still y;
        bytes = y.bytes ∙ x.bytes;
        writes = z.writes;
        raised = z.raised;
      }

  takes-it : IsOf m f → (to : Place) (long n : ℕ) (p : Point) → IsPlace slots to → Tested (Some to) long n p → p.machine.regs.x 2 ≡ low → p.machine.regs.x 27 ≡ data_base + long → data_base + long + n ≤ f.end → Took to long n p
  takes-it of to long n p is x sp top-is fits =
      let e : f.end ≡ data_base + m.room = of.end' in let r = there.room in
      let new = x.new in let last = x.last in
      let exact = taken-fits n (omega (arith, fits, e, r)) in
      let y = passes to x.point (omega (arith, new, last, exact, fits)) x.code in
      let five : x.point.machine.regs.x 5 ≡ data_base + long + n = new ∙ ap (λ (k : ℕ). data_base + long + k) exact in
      took to long n p x y (topped to long n y.point is (y.same 2 ∙ x.still.sp ∙ sp) (y.same 27 ∙ x.still.data_top ∙ top-is) (omega (arith, fits, e, r)) (y.same 5 ∙ five) y.code)

  module _ (of : IsOf m f) where
    pub take-step : (now : State) (p : Point) (d n : ℕ) (rest : List MInst) → At now p → now.rest ≡ TakeData d n ∷ rest → Does_it now p (step f now)
    take-step now p d n rest h ahead = by-step now p (TakeData d n) rest ahead (by_room (nat_le (top_of now.memory + n) f.end) refl)
      where
        inst : MInst
        inst = TakeData d n

        to : IsPlaced f places can.intervals can.covers can.fits d
        to = result m there.functions there.room f places can.intervals can.covers can.fits a s there.wide there.high words there.low_base there.high_base labels now p inst rest d h ahead (first-item d [])

        same : inst_items f places now.block inst ≡ plain (take_code f places (Some to.0) n)
        same = ap (λ (o : Option Place). plain (take_code f places o n)) to.1

        end-is : f.end ≡ data_base + m.room
        end-is = of.end'

        x : Tested (Some to.0) (length now.memory) n p
        x =
            let e = end-is in let fits = h.stands.room in let r = there.room in
            tested (Some to.0) (length now.memory) n p (omega (arith, fits, r)) (omega (arith, e, r)) h.stands.keeps.data_top (code-here now p inst rest (take_code f places (Some to.0) n) h ahead same)

        stops : f.end < top_of now.memory + n → Stopped m State a s words At (left f) 0 48 p Overflows (λ (q : Point). q.counted ≡ a.symbol ∷ [])
        stops past =
            let e = end-is in let r = there.room in
            let p3 = x.point in
            let new = x.new in let last = x.last in
            let passes = taken-passes n (length now.memory) m.room r (omega (arith, past, e)) in
            let st3 = x.code in let st4 = st3.3 in let st5 = st4.3 in
            let bound = st5.1 in
            let q4 = branched p3 (p3.machine.regs.pc + 4) in
            let q5 = put q4 T0 2 1 in
            let q6 = moved_point q5 (record q5.machine { regs = next_regs q5.machine.regs }) q5.counted in
            let r4 = branch-goes p3 true (p3.machine.regs.pc + 4) (lt-ltb (p3.machine.regs.x 6) (p3.machine.regs.x 5) (omega (arith, new, last, passes, e))) (st3.0, st3.1, st3.2, tt) (omega (arith, bound)) refl in
            let r5 = puts-one m there.functions words there.low_base there.high_base q4 T0 2 (rv.Imm Addi T0 X0 (pos 2)) (λ z. cc) refl refl (st4.0, st4.1, st4.2, tt) in
            let all = goes-then m there.functions words there.low_base there.high_base x.count (1 + 1) p p3 q5 x.run (goes-then m there.functions words there.low_base there.high_base 1 1 p3 q4 q5 r4 r5) in
            let count = x.is in
            let short = take-short (Some to.0) n in
            record {
              count = x.count + 3;
              point = q6;
              few = omega (arith, count, short);
              run = λ k replies.
                  ap (λ (j : ℕ). code_run m words j p replies) (let z : x.count + 3 + k ≡ x.count + (1 + 1) + suc k = omega arith in z)
                  ∙ all (suc k) replies
                  ∙ one-step m there.functions words there.low_base there.high_base q5 rv.Ecall (Overflows q6) st5.2 refl k replies;
              is = x.still.counted ∙ h.stands.keeps.counted;
            }

        goes : top_of now.memory + n ≤ f.end
            → Onward m State a s words At (left f) 0 (left f now) 48 p (record now { rest = rest; memory = now.memory ++ replicate n None; regs = write_register now.regs d (constant 64 (top_of now.memory)) })
        goes fits =
            let e = end-is in let r = there.room in
            let y = takes-it of to.0 (length now.memory) n p to.2 x h.stands.keeps.sp h.stands.keeps.data_top fits in
            gone m f places a s words labels can there now p y.point inst rest (take_code f places (Some to.0) n) y.count 48 (write_register now.regs d (constant 64 (top_of now.memory))) (now.memory ++ replicate n None) h ahead same y.run y.pc y.few
            (grown now p y.point4 y.point5 y.point d n rest to.0 h ahead to.1 to.2 y.still y.bytes y.writes (omega (arith, fits, e)) (omega (arith, fits, e, r)) y.raised)

        by_room : (b : Bool) → nat_le (top_of now.memory + n) f.end ≡ b
            → Advances m State a s words At (left f) 0 (left f now) 48 p
            (if b then Goes (record now { rest = rest; memory = now.memory ++ replicate n None; regs = write_register now.regs d (constant 64 (top_of now.memory)) }) else Wants)
        by_room true e = goes (leb-true (top_of now.memory + n) f.end e)
        by_room false e = stops (leb-false (top_of now.memory + n) f.end e)
