-- A return puts the result into a0, gives data back, restores the s registers, and leaves.
use Rattle.std.proofs.Common.{◌≡◌, ◌≢◌, refl, sym, ap, subst, ◌∙◌, ℕ, zero, suc, ◌+◌, ◌-◌, ◌*◌, ◌/◌, ◌%◌, ◌^◌, ◌<◌, ◌≤◌, ◌⊎◌, inl, inr, Bool, true, false, cond, not, List, [], ◌∷◌, ◌++◌, length, Option, Some, None, arith, ap₂, append_assoc}
use Rattle.std.specs.Prelude.{◌==◌, ◌&&◌, ℤ, pos, negsuc, nat_lt, nat_le, drop, take, map, replicate, slice_get, slice_index_or, if◌then◌else◌}
use Rattle.std.specs.List.{Contains}
use Rattle.std.proofs.lemmas.Bool.{cases_lt, lt-ltb, le-ltb, le-leb, leb-true, leb-false, ltb-true, ltb-false, and_parts}
use Rattle.std.proofs.lemmas.List.{length-append, length-replicate}
use Rattle.rv_core.specs.Reg.{number_of}
use Rattle.rv_core.specs.declared.reg.Reg.{Reg}
use Rattle.rv_core.specs.declared.reg.Reg.TheVariants.{X0, Ra, Sp, T0, T1, T2, A0, A1, A2, A3, A4, A5, A6, A7, S0, S1, S2, S3, S4, S5, S6, S7, S8, S9, S10, S11}
use Rattle.rv_core.specs.declared.instr.BranchOp.TheVariants.{Bgeu}
use Rattle.rv_core.specs.declared.instr.ImmOp.TheVariants.{Addi}
use Rattle.rv_core.specs.declared.instr.LoadOp.{LoadOp}
use Rattle.rv_core.specs.declared.instr.StoreOp.{StoreOp}
use Rattle.rv_core.specs.declared.instr.RegOp.TheVariants.{Add, Sub}
use Rattle.rv_core.specs.declared.instr.Instr.{Instr}
use Rattle.rv_core.specs.declared.instr.Instr.TheVariants as rv
use Rattle.rv_core.specs.Bytes.{load_bytes, store_bytes}
use Rattle.rv_core.specs.Step.{Registers as MachineRegisters, read, written, write, next as next_regs, plus, modulo, op_value}
use Rattle.rv_core.proofs.Bytes.{load_stored, load_outside, store_outside, load_alike}
use Rattle.abi.specs.Frame.{slot_place}
use Rattle.ir_meaning.specs.Memory.{Memory, top as top_of, is_inside, bytes_at, with_bytes}
use Rattle.ir_meaning.specs.Step.{copied, set}
use Rattle.ir_meaning.specs.Plays.{Meaning, Invocation}
use Rattle.ir_meaning.specs.Ranges.{IsMemory}
use Rattle.ir_meaning.proofs.Lengths.{inside-bounds, with_bytes-length, bytes_at-length}
use Rattle.rv_play.specs.Machine.{Machine, Act, On, Fails, act, loaded, in_data, in_control, code_base, code_limit, control_base, control_end, data_base, data_end}
use Rattle.rv_play.specs.Machine as machine
use Rattle.rv_play.specs.CodePlay.{Place as Words, Point, CodeReply, code_run, go_on, resume}
use Rattle.rv_play.specs.CodePlay as ends
use Rattle.rv_play.specs.Good.{IsBytes, IsRegs, RefinesMemory, RefinesReply, KeepsControl, KeepsRegs, IsReturnAddress, arg_regs}
use Rattle.rv_play.proofs.Lines.{Stands as Stand, stands-apart, Goes as Run, goes-then, goes-none, one-step, plain-step, moved as moved_point, next-regs}
use Rattle.walks.specs.Walk.{Bits, Does, Goes, Step}
use Rattle.walks.specs.Bits.{free, cut, constant, number}
use Rattle.walks.specs.Bytes.{bits_of_bytes, bytes_of_bits}
use Rattle.walks.specs.Registers.{Registers, write as write_register}
use Rattle.walks.specs.Face.{frame_of}
use Rattle.walks.specs.Refines.{RefinesBits}
use Rattle.mir.specs.declared.code.MInst.{MInst}
use Rattle.mir.specs.declared.code.MInst.TheVariants.{Param, Op, Imm, Const, Move, Load, Store, Phi, Call, TakeData, CopyBytes, FillBytes, Branch, Jump, Return, Trap}
use Rattle.mir.specs.declared.code.MFunction.{MFunction}
use Rattle.mir.specs.declared.places.Place.{Place}
use Rattle.mir.specs.declared.places.Place.TheVariants.{Saved, Slot}
use Rattle.mir.specs.declared.places.Places.{Places}
use Rattle.mir.specs.Code.{reads, writes, ends_block, inst_at, block_of}
use Rattle.mir.specs.Places.{IsPlace, place_of}
use Rattle.mir_play.specs.Values.{address, load_size, extended, store_size}
use Rattle.mir_play.specs.Play.{State, by_inst, step, at_address, give, change, moved, grown, behind_call, returned}
use Rattle.mir_play.specs.Machine.{IsHeld}
use Rattle.mir_play.proofs.Holding.{values_hold}
use Rattle.good_code.specs.Runs.{register, HoldBits, AtCall, AtReturn}
use Rattle.good_code.proofs.BySteps.{Advances, Onward, Asked, Resumed, Stopped}
use Rattle.code_pieces.specs.Code.{argument_reg, const_code, load_at, store_at, call_code, leave_code}
use Rattle.code_pieces.specs.Bytes.{taken_bytes, move_code as copy_code, fill_code}
use Rattle.code_pieces.specs.Items.{Item, plain}
use Rattle.code_pieces.specs.Labels.{StandsAs}
use Rattle.code_pieces.proofs.Const.{Puts, put, puts-one, read-put, const-puts, const-short, write-is}
use Rattle.code_pieces.proofs.Const.{read-is}
use Rattle.code_pieces.proofs.Slots.{other-register, loads-at, load-short}
use Rattle.frame_code.specs.Frame.{slots_of, saved_reg, save_offset, ra_offset, uses, used, used_from}
use Rattle.frame_code.specs.Code.{held_in, fetch, keep, load_place, store_place, load_code, store_code, bytes_code, restore_code, give_back, taken_by, taken_in, taken, take_code, arguments_code, answer_code, result_code, inst_items, insts_items, blocks_items}
use Rattle.frame_code.specs.Stands.{saved_number, number_at, Keeps, Stands, Here, left}
use Rattle.frame_code.specs.Laws.{CanLayOut, StandsLaidOut, IsOf}
use Rattle.frame_code.proofs.Short.{fetch-short, keep-short, load-place-short, store-place-short}
use Rattle.frame_code.proofs.Numbers.{IsSaved, is-saved, saved-is-one}
use Rattle.frame_code.proofs.Known.{cut-held, constant-held, number-held, byte-held}
use Rattle.frame_code.proofs.Operands.{Goes_on, on-then, on-puts, Fetched, fetched, fetched-quiet, spare-t0, Ready, ready, Quiet, quiet-none, quiet-then, number-quiet, Writes, writes-behind, Wrote, made, held-some, place-loaded, Stored, place-stored}
use Rattle.frame_code.proofs.Placed.{IsPlaced, first-item, second-item}
use Rattle.frame_code.proofs.Standing.{stands-write, keeps-write, held-write}
use Rattle.frame_code.proofs.Steps.{bottom, top, inside, Operand, operand, result, onward, by-inst, code-there, inst-there}
use Rattle.frame_code.proofs.Keeping.{Still, still-others, still-then, number-still, keeps-still, no-param-behind, ranges-at, stands-memory, stands-next, here-behind, gone}
use Rattle.rv_play.specs.CodePlay.{Returns}
use Rattle.rv_play.specs.Good.{Enters}
use Rattle.ir_meaning.specs.Value.{Value}
use Rattle.ir_meaning.specs.Step.{Program}
use Rattle.code_pieces.specs.Code.{negative}
use Rattle.code_pieces.proofs.Entry.{negative-is}
use Rattle.code_pieces.proofs.Frame.{Holds}
use Rattle.code_pieces.proofs.Memories.{get-take}
use Rattle.code_pieces.proofs.Ends.{Left, Returned, leaves, leave-short}
use Rattle.std.proofs.lemmas.List.{length-take-le, drop_all}
use Rattle.code_pieces.proofs.Const.{eq-true, self-eq}
use Rattle.frame_code.proofs.Placed.{dropped}
use Rattle.frame_code.proofs.Taking.{taken-small, taken-fits}

-- the part of data memory that was there at the entry
cut-refines : (memory : Memory) (n : ℕ) (bytes : ℕ → ℕ) → n ≤ length memory → RefinesMemory memory bytes → RefinesMemory (take n memory) bytes
cut-refines memory n bytes le h i b e = by_place (cases_lt i n)
  where
    get-below : (xs : Memory) (j : ℕ) (y : Option ℕ) → slice_get xs j ≡ Some y → j < length xs
    get-below [] j y e = absurd (let bad : ⊥ = cc in bad)
    get-below (x ∷ xs) zero y e = omega arith
    get-below (x ∷ xs) (suc j) y e = let lt = get-below xs j y e in omega (arith, lt)

    by_place : (i < n) ⊎ (n ≤ i) → bytes (data_base + i) ≡ b
    by_place (inl lt) = h i b (sym (get-take memory n i lt) ∙ e)
    by_place (inr past) = absurd (let long = length-take-le n memory le in let lt = get-below (take n memory) i (Some b) e in let bad : ⊥ = omega (arith, long, lt, past) in bad)

-- the bits that are returned
abbrev result_of : Registers → List ℕ → Bits
result_of regs [] = free
result_of regs (r ∷ rs) = regs r

-- no module is asked for
nowhere : Program
nowhere = record { module_ = record { globals = []; functions = [] }; room = 0 }

module _ (m : Meaning) (f : MFunction) (places : Places) (a : Invocation) (s : Machine) (words : Words) (labels : ℕ → ℕ) (can : CanLayOut f places) (there : StandsLaidOut m f places a s words labels) where
  abbrev fr : ℕ
  fr = frame_of f.values

  abbrev slots : ℕ
  slots = slots_of f.values

  abbrev low : ℕ
  low = a.sp - fr

  abbrev At : State → Point → Type 0
  At = Here m f places a s words labels

  abbrev Runs : ℕ → Point → Point → Type 0
  Runs = Run m there.functions words there.low_base there.high_base

  abbrev Does_it : State → Point → Step State → Type 0
  Does_it now p st = Advances m State a s words At (left f) 0 (left f now) st.weight p st.does

  abbrev bt : control_base ≤ low
  bt = bottom m there.functions there.room f places can.intervals can.covers can.fits a s there.wide there.high words there.low_base there.high_base labels

  abbrev tp : low + fr ≤ control_end
  tp = top m there.functions there.room f places can.intervals can.covers can.fits a s there.wide there.high words there.low_base there.high_base labels

  abbrev ins : 8 * slots ≤ fr
  ins = inside m there.functions there.room f places can.intervals can.covers can.fits a s there.wide there.high words there.low_base there.high_base labels

  abbrev Given : State → Point → ℕ → Type 0
  Given = Operand m there.functions there.room f places can.intervals can.covers can.fits a s there.wide there.high words there.low_base there.high_base labels

  given : (now : State) (p : Point) (inst : MInst) (rest : List MInst) (r : ℕ) → At now p → now.rest ≡ inst ∷ rest → Contains (reads inst) r → Given now p r
  given = operand m there.functions there.room f places can.intervals can.covers can.fits a s there.wide there.high words there.low_base there.high_base labels

  code-here : (now : State) (p : Point) (inst : MInst) (rest : List MInst) (code : List Instr) → At now p → now.rest ≡ inst ∷ rest → inst_items f places now.block inst ≡ plain code → Stand words p.machine.regs.pc code
  code-here now p inst rest code h ahead same = (code-there m there.functions there.room f places can.intervals can.covers can.fits a s there.wide there.high words there.low_base there.high_base labels now p inst rest code h ahead same).0

  by-step : (now : State) (p : Point) (inst : MInst) (rest : List MInst) → now.rest ≡ inst ∷ rest → Does_it now p (by_inst f now rest inst) → Does_it now p (step f now)
  by-step = by-inst m there.functions there.room f places can.intervals can.covers can.fits a s there.wide there.high words there.low_base there.high_base labels

  -- ---- the result

  record Answered (regs : Registers) (rs : List ℕ) (code : List Instr) (p : Point) : Type 0 where
    point : Point
    run : Runs (length code) p point
    pc : point.machine.regs.pc ≡ p.machine.regs.pc + 4 * length code
    result : RefinesBits (result_of regs rs) (register point.machine.regs A0)
    others : (j : ℕ) → j ≢ 10 → point.machine.regs.x j ≡ p.machine.regs.x j
    control : point.machine.control ≡ p.machine.control
    bytes : point.machine.bytes ≡ p.machine.bytes
    counted : point.counted ≡ p.counted

  answers : (now : State) (p : Point) (rs : List ℕ) (rest : List MInst) → At now p → now.rest ≡ Return rs ∷ rest → length rs ≤ 1 → Stand words p.machine.regs.pc (result_code f places rs) → Answered now.regs rs (result_code f places rs) p
  answers now p [] rest h ahead few st = record {
    point = p;
    run = goes-none m there.functions words there.low_base there.high_base p;
    pc = omega arith;
    result = λ i bit e. absurd (let bad : ⊥ = cc in bad);
    others = λ j ne. refl;
    control = refl;
    bytes = refl;
    counted = refl;
  }
  answers now p (r ∷ []) rest h ahead few st =
      let g = given now p (Return (r ∷ [])) rest r h ahead (first-item r []) in
      let v = number_at low p.machine (Some g.place) in
      let code = load_place A0 (Some g.place) in
      let same : load_place A0 (place_of places r) ≡ code = ap (λ (o : Option Place). load_place A0 o) g.at in
      let q = put p A0 v (length code) in
      let run = place-loaded m there.functions there.room words there.low_base there.high_base low fr slots bt tp ins A0 g.place p (λ z. cc) (λ z. cc) g.is h.stands.keeps.sp g.held.low (subst (Stand words p.machine.regs.pc) same st) in
      let long : length code ≡ length (load_place A0 (place_of places r)) = ap (λ (c : List Instr). length c) (sym same) in
      record {
        point = q;
        run = subst (λ (k : ℕ). Runs k p q) long run;
        pc = omega (arith, long);
        result = g.held.bits;
        others = λ j ne. other-register p.machine.regs.x 10 j v ne;
        control = refl;
        bytes = refl;
        counted = refl;
      }
  answers now p (r ∷ s' ∷ rs) rest h ahead few st = absurd (let bad : ⊥ = omega (arith, few) in bad)

  -- ---- data memory

  -- the data top has fallen, and no other register but t0 has changed
  record Fell (long : ℕ) (code : List Instr) (p : Point) : Type 0 where
    point : Point
    run : Runs (length code) p point
    pc : point.machine.regs.pc ≡ p.machine.regs.pc + 4 * length code
    top : point.machine.regs.x 27 ≡ data_base + long
    others : (j : ℕ) → j ≢ 5 → j ≢ 27 → point.machine.regs.x j ≡ p.machine.regs.x j
    control : point.machine.control ≡ p.machine.control
    bytes : point.machine.bytes ≡ p.machine.bytes
    counted : point.counted ≡ p.counted

  falls : (long n : ℕ) (p : Point) → long + n ≤ 67108864 → p.machine.regs.x 27 ≡ data_base + (long + n) → Stand words p.machine.regs.pc (give_back n) → Fell long (give_back n) p
  unfolding give_back
  falls long n p small top st = by_zero (n == 0) refl st
    where
      near : List Instr
      near = rv.Imm Addi S11 S11 (negative n) ∷ []

      far : List Instr
      far = const_code 3 T0 (taken_bytes n) ++ rv.Op Sub S11 S11 T0 ∷ []

      falls-near : n ≢ 0 → n ≤ 2048 → Stand words p.machine.regs.pc near → Fell long near p
      falls-near some le st =
          let t = data_base + long in
          let neg = negative-is n (omega (arith, some)) (omega (arith, le)) in
          let sum : (p.machine.regs.x 27 + modulo (negative n)) % 2 ^ 64 ≡ t = omega (arith, neg, top, small, le, some) in
          record {
            point = put p S11 t 1;
            run = puts-one m there.functions words there.low_base there.high_base p S11 t (rv.Imm Addi S11 S11 (negative n)) (λ z. cc) refl
                (ap (λ (v : ℕ). On (record p.machine { regs = record { x = written p.machine.regs.x 27 v; pc = plus p.machine.regs.pc (pos 4) } })) sum) st;
            pc = refl;
            top = refl;
            others = λ j a b. other-register p.machine.regs.x 27 j t b;
            control = refl;
            bytes = refl;
            counted = refl;
          }

      falls-far : Stand words p.machine.regs.pc far → Fell long far p
      falls-far st =
          let t = data_base + long in
          let k = taken_bytes n in
          let c0 = const_code 3 T0 k in
          let exact = taken-fits n (omega (arith, small)) in
          let parts = stands-apart words p.machine.regs.pc c0 (rv.Op Sub S11 S11 T0 ∷ []) st in
          let q = put p T0 k (length c0) in
          let r0 = const-puts m there.functions words there.low_base there.high_base p T0 k (λ z. cc) (omega (arith, exact, small)) parts.0 in
          let sum : (p.machine.regs.x 27 + (2 ^ 64 - k)) % 2 ^ 64 ≡ t = omega (arith, exact, top, small) in
          let r1 = puts-one m there.functions words there.low_base there.high_base q S11 t (rv.Op Sub S11 S11 T0) (λ z. cc) refl
          (ap (λ (v : ℕ). On (record q.machine { regs = record { x = written q.machine.regs.x 27 v; pc = plus q.machine.regs.pc (pos 4) } })) sum) parts.1 in
          let len = length-append c0 (rv.Op Sub S11 S11 T0 ∷ []) in
          let r = put q S11 t 1 in
          record {
            point = r;
            run = subst (λ (n : ℕ). Runs n p r) (sym len) (goes-then m there.functions words there.low_base there.high_base (length c0) 1 p q r r0 r1);
            pc = omega (arith, len);
            top = refl;
            others = λ j a b. other-register q.machine.regs.x 27 j t b ∙ other-register p.machine.regs.x 5 j k a;
            control = refl;
            bytes = refl;
            counted = refl;
          }

      by_size : n ≢ 0 → (b : Bool) → nat_le n 2048 ≡ b → Stand words p.machine.regs.pc (cond b near far) → Fell long (cond b near far) p
      by_size some true e st = falls-near some (leb-true n 2048 e) st
      by_size some false e st = falls-far st

      by_zero : (b : Bool) → (n == 0) ≡ b → Stand words p.machine.regs.pc (cond b [] (cond (nat_le n 2048) near far)) → Fell long (cond b [] (cond (nat_le n 2048) near far)) p
      by_zero true e st =
          let none : n ≡ 0 = eq-true n 0 e in
          record {
            point = p;
            run = goes-none m there.functions words there.low_base there.high_base p;
            pc = omega arith;
            top = omega (arith, top, none);
            others = λ j a b. refl;
            control = refl;
            bytes = refl;
            counted = refl;
          }
      by_zero false e st = by_size (λ z. let bad : true ≡ false = sym (self-eq 0) ∙ ap (λ (k : ℕ). k == 0) (sym z) ∙ e in cc) (nat_le n 2048) refl st

  -- ---- the s registers

  -- s(k) is as at the entry
  abbrev IsBack : Point → ℕ → Type 0
  IsBack p k = p.machine.regs.x (saved_number k) ≡ s.regs.x (saved_number k)

  -- what is left to be restored stands in the frame
  record Saves (p : Point) : Type 0 where
    sp : p.machine.regs.x 2 ≡ low
    saved : (k : ℕ) → k < 11 → uses places k ≡ true → load_bytes p.machine.control (low + save_offset fr k) 8 ≡ s.regs.x (saved_number k)
    others : (k : ℕ) → k < 11 → uses places k ≡ false → IsBack p k

  record Restored (code : List Instr) (p : Point) : Type 0 where
    point : Point
    run : Runs (length code) p point
    pc : point.machine.regs.pc ≡ p.machine.regs.pc + 4 * length code
    all : (k : ℕ) → k < 11 → IsBack point k
    others : (j : ℕ) → (j < 8) ⊎ (27 ≤ j) → point.machine.regs.x j ≡ p.machine.regs.x j
    arguments : (j : ℕ) → 10 ≤ j → j < 18 → point.machine.regs.x j ≡ p.machine.regs.x j
    control : point.machine.control ≡ p.machine.control
    bytes : point.machine.bytes ≡ p.machine.bytes
    counted : point.counted ≡ p.counted

  restores : (k more : ℕ) (p : Point) → k + more ≡ 11 → Saves p → ((j : ℕ) → j < k → IsBack p j) → Stand words p.machine.regs.pc (restore_code fr (used_from places k more)) → Restored (restore_code fr (used_from places k more)) p
  restores k zero p all h before st = record {
    point = p;
    run = goes-none m there.functions words there.low_base there.high_base p;
    pc = omega arith;
    all = λ j lt. before j (omega (arith, all, lt));
    others = λ j c. refl;
    arguments = λ j le lt. refl;
    control = refl;
    bytes = refl;
    counted = refl;
  }
  restores k (suc more) p all h before st = by_use (λ q saves back there'. restores (k + 1) more q (omega (arith, all)) saves back there') (uses places k) refl st
    where
      Again : Type 0
      Again = (q : Point) → Saves q → ((j : ℕ) → j < k + 1 → IsBack q j) → Stand words q.machine.regs.pc (restore_code fr (used_from places (k + 1) more)) → Restored (restore_code fr (used_from places (k + 1) more)) q

      by_use : Again → (b : Bool) → uses places k ≡ b → Stand words p.machine.regs.pc (restore_code fr (cond b (k ∷ used_from places (k + 1) more) (used_from places (k + 1) more)))
          → Restored (restore_code fr (cond b (k ∷ used_from places (k + 1) more) (used_from places (k + 1) more))) p
      by_use again false e st = again p h (λ j lt. by_order j (cases_lt j k) lt) st
        where
          by_order : (j : ℕ) → (j < k) ⊎ (k ≤ j) → j < k + 1 → IsBack p j
          by_order j (inl less) lt = before j less
          by_order j (inr le) lt = subst (IsBack p) (let z : k ≡ j = omega (arith, le, lt) in z) (h.others k (omega (arith, all)) e)
      by_use again true e st =
          let few : k < 11 = omega (arith, all) in
          let is = is-saved k few in
          let lo = is.low in let hi = is.high in
          let rd = saved_reg k in
          let offset = save_offset fr k in
          let v = load_bytes p.machine.control (low + offset) 8 in
          let c0 = load_at rd offset in
          let c1 = restore_code fr (used_from places (k + 1) more) in
          let parts = stands-apart words p.machine.regs.pc c0 c1 st in
          let some : number_of rd ≢ 0 = λ z. let bad : ⊥ = omega (arith, z, lo) in bad in
          let q = put p rd v (length c0) in
          let r0 = loads-at m there.functions there.room words there.low_base there.high_base low fr bt tp p rd offset some (λ x w. other-register x (number_of rd) 2 w (λ z. let bad : ⊥ = omega (arith, z, lo) in bad)) h.sp (omega (arith, few)) parts.0 in
          let back : IsBack q k = sym (read-is q.machine.regs rd some) ∙ read-put m there.functions words there.low_base there.high_base p rd v (length c0) some ∙ h.saved k few e in
          let apart : (j : ℕ) → j < 11 → j ≢ k → q.machine.regs.x (saved_number j) ≡ p.machine.regs.x (saved_number j) =
          λ j lt ne. other-register p.machine.regs.x (saved_number k) (saved_number j) v (λ z. ne (saved-is-one j k lt few z)) in
          let saves : Saves q = record {
            sp = other-register p.machine.regs.x (saved_number k) 2 v (λ z. let bad : ⊥ = omega (arith, z, lo) in bad) ∙ h.sp;
            saved = h.saved;
            others = λ j lt free-j. apart j lt (λ z. let bad : true ≡ false = sym e ∙ ap (uses places) (sym z) ∙ free-j in cc) ∙ h.others j lt free-j;
          } in
          let rest = again q saves (λ j lt. by_order j back apart (cases_lt j k) lt) parts.1 in
          let len = length-append c0 c1 in
          let pc1 = rest.pc in
          record {
            point = rest.point;
            run = subst (λ (n : ℕ). Runs n p rest.point) (sym len) (goes-then m there.functions words there.low_base there.high_base (length c0) (length c1) p q rest.point r0 rest.run);
            pc = omega (arith, len, pc1);
            all = rest.all;
            others = λ j c. rest.others j c ∙ other-register p.machine.regs.x (saved_number k) j v (not-place j c);
            arguments = λ j le lt. rest.arguments j le lt ∙ other-register p.machine.regs.x (saved_number k) j v (not-argument j le lt is.not-argument);
            control = rest.control;
            bytes = rest.bytes;
            counted = rest.counted;
          }
        where
          by_order : (j : ℕ) → IsBack (put p (saved_reg k) (load_bytes p.machine.control (low + save_offset fr k) 8) (length (load_at (saved_reg k) (save_offset fr k)))) k
              → ((j : ℕ) → j < 11 → j ≢ k → (put p (saved_reg k) (load_bytes p.machine.control (low + save_offset fr k) 8) (length (load_at (saved_reg k) (save_offset fr k)))).machine.regs.x (saved_number j) ≡ p.machine.regs.x (saved_number j))
              → (j < k) ⊎ (k ≤ j) → j < k + 1 → IsBack (put p (saved_reg k) (load_bytes p.machine.control (low + save_offset fr k) 8) (length (load_at (saved_reg k) (save_offset fr k)))) j
          by_order j back apart (inl less) lt = apart j (omega (arith, less, all)) (λ z. let bad : ⊥ = omega (arith, z, less) in bad) ∙ before j less
          by_order j back apart (inr le) lt = subst (IsBack (put p (saved_reg k) (load_bytes p.machine.control (low + save_offset fr k) 8) (length (load_at (saved_reg k) (save_offset fr k))))) (let z : k ≡ j = omega (arith, le, lt) in z) back

          not-place : (j : ℕ) → (j < 8) ⊎ (27 ≤ j) → j ≢ saved_number k
          not-place j (inl l) = let is = is-saved k (omega (arith, all)) in let lo = is.low in λ z. let bad : ⊥ = omega (arith, z, l, lo) in bad
          not-place j (inr l) = let is = is-saved k (omega (arith, all)) in let hi = is.high in λ z. let bad : ⊥ = omega (arith, z, l, hi) in bad

          not-argument : (j : ℕ) → 10 ≤ j → j < 18 → (saved_number k < 10) ⊎ (18 ≤ saved_number k) → j ≢ saved_number k
          not-argument j le lt (inl l) = λ z. let bad : ⊥ = omega (arith, z, l, le) in bad
          not-argument j le lt (inr l) = λ z. let bad : ⊥ = omega (arith, z, l, lt) in bad

  restore-short : (k more : ℕ) → length (restore_code fr (used_from places k more)) ≤ 3 * more
  restore-short k zero = omega arith
  restore-short k (suc more) = by_use (restore-short (k + 1) more) (uses places k)
    where
      by_use : length (restore_code fr (used_from places (k + 1) more)) ≤ 3 * more → (b : Bool) → length (restore_code fr (cond b (k ∷ used_from places (k + 1) more) (used_from places (k + 1) more))) ≤ 3 * suc more
      by_use x false = omega (arith, x)
      by_use x true =
          let y = load-short (saved_reg k) (save_offset fr k) in
          let l = length-append (load_at (saved_reg k) (save_offset fr k)) (restore_code fr (used_from places (k + 1) more)) in
          omega (arith, x, y, l)

  give-short : (n : ℕ) → length (give_back n) ≤ 9
  unfolding give_back
  give-short n = by_test (n == 0) (nat_le n 2048)
    where
      by_test : (b c : Bool) → length (cond b [] (cond c (rv.Imm Addi S11 S11 (negative n) ∷ []) (const_code 3 T0 (taken_bytes n) ++ rv.Op Sub S11 S11 T0 ∷ []))) ≤ 9
      by_test true c = omega arith
      by_test false true = omega arith
      by_test false false =
          let x = const-short 3 T0 (taken_bytes n) in
          let l = length-append (const_code 3 T0 (taken_bytes n)) (rv.Op Sub S11 S11 T0 ∷ []) in
          omega (arith, x, l)

  -- ---- the return

  module _ (back : words.ra ≡ read s.regs Ra) (even : read s.regs Ra % 4 ≡ 0) (small-ra : read s.regs Ra < 2 ^ 64) (entered-sp : s.regs.x 2 ≡ a.sp) (entered-top : s.regs.x 27 ≡ data_base + length a.memory) where
    pub return-step : (now : State) (p : Point) (rs : List ℕ) (rest : List MInst) → At now p → now.rest ≡ Return rs ∷ rest → Does_it now p (step f now)
    return-step now p rs rest h ahead = by-step now p (Return rs) rest ahead done
      where
        inst : MInst
        inst = Return rs

        c0 : List Instr
        c0 = result_code f places rs

        c1 : List Instr
        c1 = give_back (taken f)

        c2 : List Instr
        c2 = restore_code fr (used places)

        c3 : List Instr
        c3 = leave_code fr

        parts0 : Stand words p.machine.regs.pc c0 × Stand words (p.machine.regs.pc + 4 * length c0) (c1 ++ (c2 ++ c3))
        parts0 = stands-apart words p.machine.regs.pc c0 (c1 ++ (c2 ++ c3)) (code-here now p inst rest (c0 ++ (c1 ++ (c2 ++ c3))) h ahead refl)

        x0 : Answered now.regs rs c0 p
        x0 = answers now p rs rest h ahead (ranges-at m f places a s words labels can there now p inst rest h ahead) parts0.0

        parts1 : Stand words x0.point.machine.regs.pc c1 × Stand words (x0.point.machine.regs.pc + 4 * length c1) (c2 ++ c3)
        parts1 = stands-apart words x0.point.machine.regs.pc c1 (c2 ++ c3) (subst (λ (pc : ℕ). Stand words pc (c1 ++ (c2 ++ c3))) (sym x0.pc) parts0.1)

        none : taken_in now.rest ≡ 0
        none =
            let d = dropped (block_of f now.block) h.stands.place inst rest (h.stands.rests ∙ ahead) in
            let last : h.stands.place + 1 ≡ length (block_of f now.block) = (can.formed.placed now.block h.stands.place inst d.0).ends.0 refl in
            let nil : rest ≡ [] = sym d.1 ∙ drop_all (h.stands.place + 1) (block_of f now.block) (omega (arith, last)) in
            ap taken_in (ahead ∙ ap (λ (insts : List MInst). inst ∷ insts) nil)

        long : length now.memory ≡ now.base_length + taken f
        long = let l = h.stands.long.1 in let n = none in omega (arith, l, n)

        small : now.base_length + taken f ≤ 67108864
        small = let l = long in let fits = h.stands.room in let r = there.room in omega (arith, l, fits, r)

        x1 : Fell now.base_length c1 x0.point
        x1 = falls now.base_length (taken f) x0.point small (x0.others 27 (λ z. cc) ∙ h.stands.keeps.data_top ∙ ap (λ (n : ℕ). data_base + n) long) parts1.0

        parts2 : Stand words x1.point.machine.regs.pc c2 × Stand words (x1.point.machine.regs.pc + 4 * length c2) c3
        parts2 = stands-apart words x1.point.machine.regs.pc c2 c3 (subst (λ (pc : ℕ). Stand words pc (c2 ++ c3)) (sym x1.pc) parts1.1)

        control1 : x1.point.machine.control ≡ p.machine.control
        control1 = x1.control ∙ x0.control

        same-saved : (k : ℕ) → k < 11 → x1.point.machine.regs.x (saved_number k) ≡ p.machine.regs.x (saved_number k)
        same-saved k lt =
            let is = is-saved k lt in let lo = is.low in let hi = is.high in
            x1.others (saved_number k) (λ z. let bad : ⊥ = omega (arith, z, lo) in bad) (λ z. let bad : ⊥ = omega (arith, z, hi) in bad)
            ∙ x0.others (saved_number k) (not-ten is.not-argument)
          where
            not-ten : {n : ℕ} → (n < 10) ⊎ (18 ≤ n) → n ≢ 10
            not-ten (inl l) = λ z. let bad : ⊥ = omega (arith, z, l) in bad
            not-ten (inr l) = λ z. let bad : ⊥ = omega (arith, z, l) in bad

        x2 : Restored c2 x1.point
        x2 =
            restores 0 11 x1.point (omega arith)
            (record {
              sp = x1.others 2 (λ z. cc) (λ z. cc) ∙ x0.others 2 (λ z. cc) ∙ h.stands.keeps.sp;
              saved = λ k lt uses-k. ap (λ (c : ℕ → ℕ). load_bytes c (low + save_offset fr k) 8) control1 ∙ h.stands.keeps.saved k lt uses-k;
              others = λ k lt free-k. same-saved k lt ∙ h.stands.keeps.others k lt free-k;
            })
            (λ j lt. absurd (let bad : ⊥ = omega (arith, lt) in bad)) parts2.0

        q : Point
        q = x2.point

        control2 : q.machine.control ≡ p.machine.control
        control2 = x2.control ∙ control1

        bytes2 : q.machine.bytes ≡ p.machine.bytes
        bytes2 = x2.bytes ∙ x1.bytes ∙ x0.bytes

        counted2 : q.counted ≡ a.symbol ∷ []
        counted2 = x2.counted ∙ x1.counted ∙ x0.counted ∙ h.stands.keeps.counted

        here : Memory
        here = take now.base_length now.memory

        here-long : length here ≡ now.base_length
        here-long = let l = long in length-take-le now.base_length now.memory (omega (arith, l))

        here-refines : RefinesMemory here q.machine.bytes
        here-refines = let l = long in subst (RefinesMemory here) (sym bytes2) (cut-refines now.memory now.base_length p.machine.bytes (omega (arith, l)) h.stands.memory')

        answer : ℕ
        answer = q.machine.regs.x 10

        -- the machine as at the entry, with the control stack as it is now
        entering : Machine
        entering = record { regs = s.regs; bytes = s.bytes; control = q.machine.control }

        holds : Holds a entering low fr [] here q
        holds = record {
          sp = x2.others 2 (inl (omega arith)) ∙ x1.others 2 (λ z. cc) (λ z. cc) ∙ x0.others 2 (λ z. cc) ∙ h.stands.keeps.sp;
          slots = λ i v e. absurd (let bad : ⊥ = cc in bad);
          ra = ap (λ (c : ℕ → ℕ). load_bytes c (low + (fr - 8)) 8) control2 ∙ ap (λ (k : ℕ). load_bytes p.machine.control (low + k) 8) (let z : fr - 8 ≡ ra_offset fr = omega arith in z) ∙ h.stands.keeps.ra;
          aside = refl;
          saved = all-back;
          data_top = x2.others 27 (inr (omega arith)) ∙ x1.top ∙ ap (λ (n : ℕ). data_base + n) (sym here-long);
          kept = λ x le. refl;
          memory' = here-refines;
          counted = counted2;
        }
          where
            b : (k : ℕ) → k < 11 → q.machine.regs.x (saved_number k) ≡ s.regs.x (saved_number k)
            b k lt = x2.all k lt

            all-back : KeepsRegs (S0 ∷ S1 ∷ S2 ∷ S3 ∷ S4 ∷ S5 ∷ S6 ∷ S7 ∷ S8 ∷ S9 ∷ S10 ∷ []) s.regs q.machine.regs
            all-back = (b 0 (omega arith), (b 1 (omega arith), (b 2 (omega arith), (b 3 (omega arith), (b 4 (omega arith), (b 5 (omega arith), (b 6 (omega arith), (b 7 (omega arith), (b 8 (omega arith), (b 9 (omega arith), (b 10 (omega arith), tt)))))))))))

        sum : low + fr ≡ a.sp
        sum = let w = there.wide in omega (arith, w)

        left-it : Left nowhere a entering low fr f.values m there.functions there.room words there.low_base there.high_base bt tp refl (there.entering ∙ sym sum) back even small-ra here q (Some answer)
        left-it =
            leaves nowhere a entering low fr f.values m there.functions there.room words there.low_base there.high_base bt tp refl (there.entering ∙ sym sum) back even small-ra [] here q (Some answer) (λ k e. let same : answer ≡ k = cc in same) holds
            (subst (λ (pc : ℕ). Stand words pc c3) (sym x2.pc) parts2.1)

        done : Stopped m State a s words At (left f) 0 64 p Returns (AtReturn a s (returned f now rest rs) here)
        done =
            let y = left-it in
            let z = y.is in
            let k0 = length c0 in let k1 = length c1 in let k2 = length c2 in let k3 = length c3 in
            let s0 = load-short-result rs in
            let s1 = give-short (taken f) in
            let s2 = restore-short 0 11 in
            let s3 = leave-short fr in
            let run = goes-then m there.functions words there.low_base there.high_base k0 (k1 + k2) p x0.point q x0.run (goes-then m there.functions words there.low_base there.high_base k1 k2 x0.point x1.point q x1.run x2.run) in
            record {
              count = k0 + (k1 + k2) + k3;
              point = y.point;
              few = omega (arith, s0, s1, s2, s3);
              run = λ n replies. ap (λ (j : ℕ). code_run m words j p replies) (let e : k0 + (k1 + k2) + k3 + n ≡ k0 + (k1 + k2) + (k3 + n) = omega arith in e) ∙ run (k3 + n) replies ∙ y.runs n replies;
              is = record {
                counted = z.counted;
                control = λ x le. let e = sum in z.control x (omega (arith, e, le)) ∙ ap (λ (c : ℕ → ℕ). c x) control2 ∙ h.stands.keeps.kept x le;
                regs = (z.sp-is ∙ sum ∙ sym entered-sp, (z.saved.0, (z.saved.1.0, (z.saved.1.1.0, (z.saved.1.1.1.0, (z.saved.1.1.1.1.0, (z.saved.1.1.1.1.1.0, (z.saved.1.1.1.1.1.1.0, (z.saved.1.1.1.1.1.1.1.0, (z.saved.1.1.1.1.1.1.1.1.0, (z.saved.1.1.1.1.1.1.1.1.1.0, (z.saved.1.1.1.1.1.1.1.1.1.1.0, (top-back z.data_top, tt)))))))))))));
                result = result-is (z.answer answer refl);
                memory' = z.memory';
              };
            }
          where
            load-short-result : (rs : List ℕ) → length (result_code f places rs) ≤ 3
            load-short-result [] = omega arith
            load-short-result (r ∷ rs) = load-place-short A0 (place_of places r)

            top-back : {v : ℕ} → v ≡ data_base + length here → v ≡ s.regs.x 27
            top-back e = e ∙ ap (λ (n : ℕ). data_base + n) (here-long ∙ h.stands.long.0) ∙ sym entered-top

            same-answer : answer ≡ x0.point.machine.regs.x 10
            same-answer = x2.arguments 10 (omega arith) (omega arith) ∙ x1.others 10 (λ z. cc) (λ z. cc)

            result-is : {v : ℕ} → v ≡ answer → RefinesBits (returned f now rest rs) (constant 64 v)
            result-is e = subst (λ (n : ℕ). RefinesBits (returned f now rest rs) (constant 64 n)) (sym (e ∙ same-answer)) (by_result rs x0.result)
              where
                by_result : (rs : List ℕ) → RefinesBits (result_of now.regs rs) (register x0.point.machine.regs A0) → RefinesBits (returned f now rest rs) (register x0.point.machine.regs A0)
                by_result [] h = h
                by_result (r ∷ rs) h = h
