-- The code at a function's entry counts it, makes the frame and saves the s registers in use, or ends the call for want of stack.
use Rattle.std.proofs.Common.{◌≡◌, ◌≢◌, refl, sym, ap, subst, ◌∙◌, ℕ, zero, suc, ◌+◌, ◌-◌, ◌*◌, ◌/◌, ◌%◌, ◌^◌, ◌<◌, ◌≤◌, ◌⊎◌, inl, inr, Bool, true, false, cond, not, List, [], ◌∷◌, ◌++◌, length, Option, Some, None, arith, ap₂, append_assoc}
use Rattle.std.specs.Prelude.{◌==◌, ◌&&◌, ℤ, pos, negsuc, nat_lt, nat_le, drop, take, map, replicate, slice_get, slice_index_or, if◌then◌else◌}
use Rattle.std.specs.List.{Contains}
use Rattle.std.proofs.lemmas.Bool.{cases_lt, lt-ltb, le-ltb, le-leb, leb-true, leb-false, ltb-true, ltb-false, and_parts}
use Rattle.std.proofs.lemmas.List.{length-append, length-replicate}
use Rattle.rv_core.specs.Reg.{number_of}
use Rattle.rv_core.specs.declared.reg.Reg.{Reg}
use Rattle.rv_core.specs.declared.reg.Reg.TheVariants.{X0, Ra, Sp, T0, T1, T2, A0, A1, A2, A3, A4, A5, A6, A7, S0, S1, S2, S3, S4, S5, S6, S7, S8, S9, S10, S11}
use Rattle.rv_core.specs.declared.instr.BranchOp.TheVariants.{Bgeu}
use Rattle.rv_core.specs.declared.instr.ImmOp.TheVariants.{Addi}
use Rattle.rv_core.specs.declared.instr.LoadOp.{LoadOp}
use Rattle.rv_core.specs.declared.instr.StoreOp.{StoreOp}
use Rattle.rv_core.specs.declared.instr.RegOp.TheVariants.{Add, Sub}
use Rattle.rv_core.specs.declared.instr.Instr.{Instr}
use Rattle.rv_core.specs.declared.instr.Instr.TheVariants as rv
use Rattle.rv_core.specs.Bytes.{load_bytes, store_bytes}
use Rattle.rv_core.specs.Step.{Registers as MachineRegisters, read, written, write, next as next_regs, plus, modulo, op_value}
use Rattle.rv_core.proofs.Bytes.{load_stored, load_outside, store_outside, load_alike}
use Rattle.abi.specs.Frame.{slot_place}
use Rattle.ir_meaning.specs.Memory.{Memory, top as top_of, is_inside, bytes_at, with_bytes}
use Rattle.ir_meaning.specs.Step.{copied, set}
use Rattle.ir_meaning.specs.Plays.{Meaning, Invocation}
use Rattle.ir_meaning.specs.Ranges.{IsMemory}
use Rattle.ir_meaning.proofs.Lengths.{inside-bounds, with_bytes-length, bytes_at-length}
use Rattle.rv_play.specs.Machine.{Machine, Act, On, Fails, act, loaded, in_data, in_control, code_base, code_limit, control_base, control_end, data_base, data_end}
use Rattle.rv_play.specs.Machine as machine
use Rattle.rv_play.specs.CodePlay.{Place as Words, Point, CodeReply, code_run, go_on, resume}
use Rattle.rv_play.specs.CodePlay as ends
use Rattle.rv_play.specs.Good.{IsBytes, IsRegs, RefinesMemory, RefinesReply, KeepsControl, KeepsRegs, IsReturnAddress, arg_regs}
use Rattle.rv_play.proofs.Lines.{Stands as Stand, stands-apart, Goes as Run, goes-then, goes-none, one-step, plain-step, moved as moved_point, next-regs}
use Rattle.walks.specs.Walk.{Bits, Does, Goes, Step}
use Rattle.walks.specs.Bits.{free, cut, constant, number}
use Rattle.walks.specs.Bytes.{bits_of_bytes, bytes_of_bits}
use Rattle.walks.specs.Registers.{Registers, write as write_register}
use Rattle.walks.specs.Face.{frame_of}
use Rattle.walks.specs.Refines.{RefinesBits}
use Rattle.mir.specs.declared.code.MInst.{MInst}
use Rattle.mir.specs.declared.code.MInst.TheVariants.{Param, Op, Imm, Const, Move, Load, Store, Phi, Call, TakeData, CopyBytes, FillBytes, Branch, Jump, Return, Trap}
use Rattle.mir.specs.declared.code.MFunction.{MFunction}
use Rattle.mir.specs.declared.places.Place.{Place}
use Rattle.mir.specs.declared.places.Place.TheVariants.{Saved, Slot}
use Rattle.mir.specs.declared.places.Places.{Places}
use Rattle.mir.specs.Code.{reads, writes, ends_block, inst_at, block_of}
use Rattle.mir.specs.Places.{IsPlace, place_of}
use Rattle.mir_play.specs.Values.{address, load_size, extended, store_size}
use Rattle.mir_play.specs.Play.{State, by_inst, step, at_address, give, change, moved, grown, behind_call, returned}
use Rattle.mir_play.specs.Machine.{IsHeld}
use Rattle.mir_play.proofs.Holding.{values_hold}
use Rattle.good_code.specs.Runs.{register, HoldBits, AtCall, AtReturn}
use Rattle.good_code.proofs.BySteps.{Advances, Onward, Asked, Resumed, Stopped}
use Rattle.code_pieces.specs.Code.{argument_reg, const_code, load_at, store_at, call_code, leave_code}
use Rattle.code_pieces.specs.Bytes.{taken_bytes, move_code as copy_code, fill_code}
use Rattle.code_pieces.specs.Items.{Item, plain}
use Rattle.code_pieces.specs.Labels.{StandsAs}
use Rattle.code_pieces.proofs.Const.{Puts, put, puts-one, read-put, const-puts, const-short, write-is}
use Rattle.code_pieces.proofs.Const.{read-is}
use Rattle.code_pieces.proofs.Slots.{other-register, loads-at, load-short}
use Rattle.frame_code.specs.Frame.{slots_of, saved_reg, save_offset, ra_offset, uses, used, used_from}
use Rattle.frame_code.specs.Code.{held_in, fetch, keep, load_place, store_place, load_code, store_code, bytes_code, restore_code, give_back, taken_by, taken_in, taken, take_code, arguments_code, answer_code, result_code, inst_items, insts_items, blocks_items}
use Rattle.frame_code.specs.Stands.{saved_number, number_at, Keeps, Stands, Here, left}
use Rattle.frame_code.specs.Laws.{CanLayOut, StandsLaidOut, IsOf}
use Rattle.frame_code.proofs.Short.{fetch-short, keep-short, load-place-short, store-place-short}
use Rattle.frame_code.proofs.Numbers.{IsSaved, is-saved, saved-is-one}
use Rattle.frame_code.proofs.Known.{cut-held, constant-held, number-held, byte-held}
use Rattle.frame_code.proofs.Operands.{Goes_on, on-then, on-puts, Fetched, fetched, fetched-quiet, spare-t0, Ready, ready, Quiet, quiet-none, quiet-then, number-quiet, Writes, writes-behind, Wrote, made, held-some, place-loaded, Stored, place-stored}
use Rattle.frame_code.proofs.Placed.{IsPlaced, first-item, second-item}
use Rattle.frame_code.proofs.Standing.{stands-write, keeps-write, held-write}
use Rattle.frame_code.proofs.Steps.{bottom, top, inside, Operand, operand, result, onward, by-inst, code-there, inst-there}
use Rattle.frame_code.proofs.Keeping.{Still, still-others, still-then, number-still, keeps-still, no-param-behind, ranges-at, stands-memory, stands-next, here-behind, gone}
use Rattle.ir_meaning.specs.Ranges.{IsInvocation}
use Rattle.rv_play.specs.CodePlay.{Overflows, Running, entered}
use Rattle.rv_play.specs.Good.{IsBase, Enters}
use Rattle.rv_play.proofs.Fits.{Fits as IsFitting, FitsEnd, write_fits, run_fits}
use Rattle.walks.specs.Walk.{Wants}
use Rattle.mir_play.specs.Play.{first, enter}
use Rattle.good_code.specs.Runs.{registers_of, entry_at}
use Rattle.code_pieces.specs.Code.{lowered_code, prologue}
use Rattle.code_pieces.proofs.Frame.{saved_regs as quick_saved, argument-number}
use Rattle.code_pieces.proofs.Slots.{saves-at, store-short}
use Rattle.code_pieces.proofs.Entry.{Opened, opens, overflows, lowered-short}
use Rattle.code_pieces.proofs.Labelled.{plain-apart}
use Rattle.frame_code.specs.Code.{save_code, entry_code, function_items}
use Rattle.frame_code.proofs.Data.{load-below}
use Rattle.frame_code.proofs.Placed.{live-placed}
use Rattle.frame_code.proofs.Calls.{argument-next, argument-some}
use Rattle.mir.specs.Live.{ReadFrom}

-- ---- what an entry is given

args-held : (s : MachineRegisters) (ws : List ℕ) (i n : ℕ) → IsRegs s → i + n < 8 → IsHeld (slice_index_or (registers_of ws (drop i arg_regs) s) n free) (s.x (10 + (i + n)))
args-held s [] i n regs lt = record { low = regs (10 + (i + n)); bits = λ j bit e. absurd (let bad : ⊥ = cc in bad) }
args-held s (w ∷ ws) i zero regs lt =
    let few : i < 8 = omega (arith, lt) in
    let number = argument-number i few in
    let same : read s (argument_reg i) ≡ s.x (10 + (i + 0)) = read-is s (argument_reg i) (argument-some i few) ∙ ap s.x (let z : number_of (argument_reg i) ≡ 10 + (i + 0) = omega (arith, number) in z) in
    subst (λ (rs : List Reg). IsHeld (slice_index_or (registers_of (w ∷ ws) rs s) 0 free) (s.x (10 + (i + 0)))) (sym (argument-next i few))
    (subst (λ (v : ℕ). IsHeld (constant 64 v) (s.x (10 + (i + 0)))) (sym same) (record { low = regs (10 + (i + 0)); bits = λ j bit e. e }))
args-held s (w ∷ ws) i (suc n) regs lt =
    let few : i < 8 = omega (arith, lt) in
    let same : suc i + n ≡ i + suc n = omega arith in
    subst (λ (rs : List Reg). IsHeld (slice_index_or (registers_of (w ∷ ws) rs s) (suc n) free) (s.x (10 + (i + suc n)))) (sym (argument-next i few))
    (subst (λ (k : ℕ). IsHeld (slice_index_or (registers_of ws (drop (suc i) arg_regs) s) n free) (s.x (10 + k))) same (args-held s ws (suc i) n regs (omega (arith, lt))))

drop-none : {A : Type 0} (xs : List A) → drop 0 xs ≡ xs
drop-none [] = refl
drop-none (x ∷ xs) = refl

args-first : (s : MachineRegisters) (ws : List ℕ) (n : ℕ) → IsRegs s → n < 8 → IsHeld (slice_index_or (registers_of ws arg_regs s) n free) (s.x (10 + n))
args-first s ws n regs lt =
    let same : 10 + (0 + n) ≡ 10 + n = omega arith in
    subst (λ (rs : List Reg). IsHeld (slice_index_or (registers_of ws rs s) n free) (s.x (10 + n))) (drop-none arg_regs)
    (subst (λ (k : ℕ). IsHeld (slice_index_or (registers_of ws (drop 0 arg_regs) s) n free) (s.x k)) same (args-held s ws 0 n regs (omega (arith, lt))))

kept-saved : (r t : MachineRegisters) → KeepsRegs quick_saved r t → (k : ℕ) → k < 11 → t.x (saved_number k) ≡ r.x (saved_number k)
kept-saved r t h zero lt = h.0
kept-saved r t h (suc zero) lt = h.1.0
kept-saved r t h (suc (suc zero)) lt = h.1.1.0
kept-saved r t h (suc (suc (suc zero))) lt = h.1.1.1.0
kept-saved r t h (suc (suc (suc (suc zero)))) lt = h.1.1.1.1.0
kept-saved r t h (suc (suc (suc (suc (suc zero))))) lt = h.1.1.1.1.1.0
kept-saved r t h (suc (suc (suc (suc (suc (suc zero)))))) lt = h.1.1.1.1.1.1.0
kept-saved r t h (suc (suc (suc (suc (suc (suc (suc zero))))))) lt = h.1.1.1.1.1.1.1.0
kept-saved r t h (suc (suc (suc (suc (suc (suc (suc (suc zero)))))))) lt = h.1.1.1.1.1.1.1.1.0
kept-saved r t h (suc (suc (suc (suc (suc (suc (suc (suc (suc zero))))))))) lt = h.1.1.1.1.1.1.1.1.1.0
kept-saved r t h (suc (suc (suc (suc (suc (suc (suc (suc (suc (suc zero)))))))))) lt = h.1.1.1.1.1.1.1.1.1.1.0
kept-saved r t h (suc (suc (suc (suc (suc (suc (suc (suc (suc (suc (suc n))))))))))) lt = absurd (let bad : ⊥ = omega (arith, lt) in bad)

module _ (m : Meaning) (f : MFunction) (places : Places) (a : Invocation) (s : Machine) (words : Words) (labels : ℕ → ℕ) (can : CanLayOut f places) (there : StandsLaidOut m f places a s words labels) where
  abbrev fr : ℕ
  fr = frame_of f.values

  abbrev slots : ℕ
  slots = slots_of f.values

  abbrev low : ℕ
  low = a.sp - fr

  abbrev At : State → Point → Type 0
  At = Here m f places a s words labels

  abbrev Runs : ℕ → Point → Point → Type 0
  Runs = Run m there.functions words there.low_base there.high_base

  abbrev Does_it : State → Point → Step State → Type 0
  Does_it now p st = Advances m State a s words At (left f) 0 (left f now) st.weight p st.does

  abbrev bt : control_base ≤ low
  bt = bottom m there.functions there.room f places can.intervals can.covers can.fits a s there.wide there.high words there.low_base there.high_base labels

  abbrev tp : low + fr ≤ control_end
  tp = top m there.functions there.room f places can.intervals can.covers can.fits a s there.wide there.high words there.low_base there.high_base labels

  abbrev ins : 8 * slots ≤ fr
  ins = inside m there.functions there.room f places can.intervals can.covers can.fits a s there.wide there.high words there.low_base there.high_base labels

  abbrev Given : State → Point → ℕ → Type 0
  Given = Operand m there.functions there.room f places can.intervals can.covers can.fits a s there.wide there.high words there.low_base there.high_base labels

  given : (now : State) (p : Point) (inst : MInst) (rest : List MInst) (r : ℕ) → At now p → now.rest ≡ inst ∷ rest → Contains (reads inst) r → Given now p r
  given = operand m there.functions there.room f places can.intervals can.covers can.fits a s there.wide there.high words there.low_base there.high_base labels

  code-here : (now : State) (p : Point) (inst : MInst) (rest : List MInst) (code : List Instr) → At now p → now.rest ≡ inst ∷ rest → inst_items f places now.block inst ≡ plain code → Stand words p.machine.regs.pc code
  code-here now p inst rest code h ahead same = (code-there m there.functions there.room f places can.intervals can.covers can.fits a s there.wide there.high words there.low_base there.high_base labels now p inst rest code h ahead same).0

  by-step : (now : State) (p : Point) (inst : MInst) (rest : List MInst) → now.rest ≡ inst ∷ rest → Does_it now p (by_inst f now rest inst) → Does_it now p (step f now)
  by-step = by-inst m there.functions there.room f places can.intervals can.covers can.fits a s there.wide there.high words there.low_base there.high_base labels

  -- ---- the s registers

  record Kept (code : List Instr) (k : ℕ) (p : Point) : Type 0 where
    point : Point
    run : Runs (length code) p point
    pc : point.machine.regs.pc ≡ p.machine.regs.pc + 4 * length code
    saved : (j : ℕ) → k ≤ j → j < 11 → uses places j ≡ true → load_bytes point.machine.control (low + save_offset fr j) 8 ≡ s.regs.x (saved_number j)
    above : (x : ℕ) → low + save_offset fr k + 8 ≤ x → point.machine.control x ≡ p.machine.control x
    others : (j : ℕ) → j ≢ 31 → point.machine.regs.x j ≡ p.machine.regs.x j
    bytes : point.machine.bytes ≡ p.machine.bytes
    counted : point.counted ≡ p.counted

  module _ (regs : IsRegs s.regs) where
    saves : (k more : ℕ) (p : Point) → k + more ≡ 11 → p.machine.regs.x 2 ≡ low → ((j : ℕ) → j < 11 → p.machine.regs.x (saved_number j) ≡ s.regs.x (saved_number j))
        → Stand words p.machine.regs.pc (save_code fr (used_from places k more)) → Kept (save_code fr (used_from places k more)) k p
    saves k zero p all sp same st = record {
      point = p;
      run = goes-none m there.functions words there.low_base there.high_base p;
      pc = omega arith;
      saved = λ j le lt u. absurd (let bad : ⊥ = omega (arith, all, le, lt) in bad);
      above = λ x le. refl;
      others = λ j ne. refl;
      bytes = refl;
      counted = refl;
    }
    saves k (suc more) p all sp same st = by_use (λ q sp' same' st'. saves (k + 1) more q (omega (arith, all)) sp' same' st') (uses places k) refl st
      where
        Again : Type 0
        Again = (q : Point) → q.machine.regs.x 2 ≡ low → ((j : ℕ) → j < 11 → q.machine.regs.x (saved_number j) ≡ s.regs.x (saved_number j))
            → Stand words q.machine.regs.pc (save_code fr (used_from places (k + 1) more)) → Kept (save_code fr (used_from places (k + 1) more)) (k + 1) q

        by_use : Again → (b : Bool) → uses places k ≡ b → Stand words p.machine.regs.pc (save_code fr (cond b (k ∷ used_from places (k + 1) more) (used_from places (k + 1) more)))
            → Kept (save_code fr (cond b (k ∷ used_from places (k + 1) more) (used_from places (k + 1) more))) k p
        by_use again false e st =
            let x = again p sp same st in
            record {
              point = x.point;
              run = x.run;
              pc = x.pc;
              saved = λ j le lt u. by_order j (cases_lt k j) le lt u x.saved;
              above = λ y le. x.above y (omega (arith, le));
              others = x.others;
              bytes = x.bytes;
              counted = x.counted;
            }
          where
            by_order : (j : ℕ) → (k < j) ⊎ (j ≤ k) → k ≤ j → j < 11 → uses places j ≡ true
                → ((i : ℕ) → k + 1 ≤ i → i < 11 → uses places i ≡ true → load_bytes (again p sp same st).point.machine.control (low + save_offset fr i) 8 ≡ s.regs.x (saved_number i))
                → load_bytes (again p sp same st).point.machine.control (low + save_offset fr j) 8 ≡ s.regs.x (saved_number j)
            by_order j (inl lt') le lt u h = h j (omega (arith, lt')) lt u
            by_order j (inr ge) le lt u h = absurd (let z : k ≡ j = omega (arith, le, ge) in let bad : true ≡ false = sym u ∙ ap (uses places) (sym z) ∙ e in cc)
        by_use again true e st =
            let few : k < 11 = omega (arith, all) in
            let is = is-saved k few in
            let lo = is.low in let hi = is.high in
            let rs = saved_reg k in
            let offset = save_offset fr k in
            let c0 = store_at rs offset in
            let c1 = save_code fr (used_from places (k + 1) more) in
            let parts = stands-apart words p.machine.regs.pc c0 c1 st in
            let y = saves-at m there.functions there.room words there.low_base there.high_base low fr bt tp p rs offset (λ z. let bad : ⊥ = omega (arith, z, hi) in bad) sp (omega (arith, few)) parts.0 in
            let q = y.point in
            let x = again q (y.alters.others 2 (λ z. cc) ∙ sp)
            (λ j lt. let i = is-saved j lt in let h = i.high in y.alters.others (saved_number j) (λ z. let bad : ⊥ = omega (arith, z, h) in bad) ∙ same j lt)
            (subst (λ (pc : ℕ). Stand words pc c1) (sym y.pc) parts.1) in
            let len = length-append c0 c1 in
            let pc0 = y.pc in let pc1 = x.pc in
            let v = read p.machine.regs rs in
            let v-is : v ≡ s.regs.x (saved_number k) = read-is p.machine.regs rs (λ z. let bad : ⊥ = omega (arith, z, lo) in bad) ∙ same k few in
            let v-low = regs (saved_number k) in
            let here : load_bytes x.point.machine.control (low + offset) 8 ≡ s.regs.x (saved_number k) =
            load_alike x.point.machine.control q.machine.control (low + offset) 8 (λ z le lt. x.above z (omega (arith, le, few)))
            ∙ ap (λ (c : ℕ → ℕ). load_bytes c (low + offset) 8) y.alters.control ∙ load_stored p.machine.control (low + offset) 8 v ∙ (let w : v % 256 ^ 8 ≡ s.regs.x (saved_number k) = omega (arith, v-is, v-low) in w) in
            record {
              point = x.point;
              run = subst (λ (n : ℕ). Runs n p x.point) (sym len) (goes-then m there.functions words there.low_base there.high_base (length c0) (length c1) p q x.point y.run x.run);
              pc = omega (arith, len, pc0, pc1);
              saved = λ j le lt u. by_order x.point.machine.control j here x.saved (cases_lt k j) le lt u;
              above = λ z le. x.above z (omega (arith, le)) ∙ ap (λ (c : ℕ → ℕ). c z) y.alters.control ∙ store_outside p.machine.control (low + offset) 8 v z (inr (omega (arith, le)));
              others = λ j ne. x.others j ne ∙ y.alters.others j ne;
              bytes = x.bytes ∙ y.alters.bytes;
              counted = x.counted ∙ y.alters.counted;
            }
          where
            by_order : (c : ℕ → ℕ) (j : ℕ) → load_bytes c (low + save_offset fr k) 8 ≡ s.regs.x (saved_number k)
                → ((i : ℕ) → k + 1 ≤ i → i < 11 → uses places i ≡ true → load_bytes c (low + save_offset fr i) 8 ≡ s.regs.x (saved_number i))
                → (k < j) ⊎ (j ≤ k) → k ≤ j → j < 11 → uses places j ≡ true → load_bytes c (low + save_offset fr j) 8 ≡ s.regs.x (saved_number j)
            by_order c j here h (inl lt') le lt u = h j (omega (arith, lt')) lt u
            by_order c j here h (inr ge) le lt u = subst (λ (i : ℕ). load_bytes c (low + save_offset fr i) 8 ≡ s.regs.x (saved_number i)) (let z : k ≡ j = omega (arith, le, ge) in z) here

  save-few : (k more : ℕ) → length (save_code fr (used_from places k more)) ≤ 3 * more
  save-few k zero = omega arith
  save-few k (suc more) = by_use (save-few (k + 1) more) (uses places k)
    where
      by_use : length (save_code fr (used_from places (k + 1) more)) ≤ 3 * more → (b : Bool) → length (save_code fr (cond b (k ∷ used_from places (k + 1) more) (used_from places (k + 1) more))) ≤ 3 * suc more
      by_use x false = omega (arith, x)
      by_use x true =
          let y = store-short (saved_reg k) (save_offset fr k) in
          let l = length-append (store_at (saved_reg k) (save_offset fr k)) (save_code fr (used_from places (k + 1) more)) in
          omega (arith, x, y, l)

  -- the first block stands behind the entry
  first-block : (blocks : List (List MInst)) (pc : ℕ) → StandsAs m words labels pc (blocks_items f places 0 blocks) → StandsAs m words labels pc (insts_items f places 0 (slice_index_or blocks 0 []) ++ blocks_items f places 1 (drop 1 blocks))
  first-block [] pc h = tt
  first-block (b ∷ bs) pc h = subst (λ (rest : List (List MInst)). StandsAs m words labels pc (insts_items f places 0 b ++ blocks_items f places 1 rest)) (sym (drop-none bs)) h.1

  -- ---- the entry

  module _ (of : IsOf m f) (own : a.symbol ≡ f.symbol) (is : IsInvocation m a) (base : words.base % 4 ≡ 0) (enters : Enters m a s) where
    -- where the frame fits, the words lead to where they stand for the first state
    pub enter-step : StandsAs m words labels words.base (function_items f places) → Onward m State a s words At (left f) 3 (suc (left f (first f (entry_at m a s)))) 160 (entered words.base s) (first f (entry_at m a s))
    enter-step st =
        record {
          count = o.count + length c1;
          point = q;
          moves = inr (omega arith);
          few = let x = o.few in let y = save-few 0 11 in omega (arith, x, y);
          run = run;
          at = record {
            stands = record {
              place = 0;
              rests = drop-none (block_of f 0);
              held = λ r live. let x = live-placed f places can.intervals can.covers can.fits r 0 0 live in
                  subst (λ (o : Option Place). IsHeld free (number_at low q.machine o)) (sym x.1) (record { low = number-low x.0 x.2; bits = λ i bit e. absurd (let bad : ⊥ = cc in bad) });
              arguments = λ d n lt in'.
                  let same : q.machine.regs.x (10 + n) ≡ s.regs.x (10 + n) = x.others (10 + n) (λ z. let bad : ⊥ = omega (arith, z, lt) in bad) ∙ o.registers (10 + n) (omega arith) (omega (arith, lt)) in
                  subst (IsHeld (slice_index_or (registers_of (m.parameters a.symbol) arg_regs s.regs) n free)) (sym same) (args-first s.regs (m.parameters a.symbol) n enters.regs lt);
              keeps = record {
                sp = x.others 2 (λ z. cc) ∙ o.holds.sp;
                ra = load_alike q.machine.control o.point.machine.control (low + ra_offset fr) 8 (λ y le lt. x.above y (omega (arith, le))) ∙ ap (λ (k : ℕ). load_bytes o.point.machine.control (low + k) 8) (let z : ra_offset fr ≡ fr - 8 = omega arith in z) ∙ o.holds.ra;
                saved = λ k lt u. x.saved k (omega arith) lt u;
                others = λ k lt u. same-saved k lt;
                data_top = x.others 27 (λ z. cc) ∙ o.holds.data_top;
                kept = λ y le. let z = sum in x.above y (omega (arith, le, z)) ∙ o.holds.kept y (omega (arith, le, z));
                counted = x.counted ∙ o.holds.counted;
                bytes = fitting.bytes;
              };
              long = (refl, refl);
              room = let r = is.room in omega (arith, r);
              memory' = subst (RefinesMemory a.memory) (sym x.bytes) o.holds.memory';
            };
            even = let pc0 = o.pc in let pc1 = x.pc in let b = base in omega (arith, pc0, pc1, b);
            code = subst (λ (pc : ℕ). StandsAs m words labels pc (insts_items f places 0 (block_of f 0) ++ blocks_items f places 1 (drop 1 f.blocks))) pc-is (first-block f.blocks (words.base + 4 * length (entry_code f places)) parts.1);
          };
        }
      where
        c1 : List Instr
        c1 = save_code fr (used places)

        parts : Stand words words.base (entry_code f places) × StandsAs m words labels (words.base + 4 * length (entry_code f places)) (blocks_items f places 0 f.blocks)
        parts = plain-apart m words labels words.base (entry_code f places) (blocks_items f places 0 f.blocks) st

        halves : Stand words words.base (prologue f.symbol fr) × Stand words (words.base + 4 * length (prologue f.symbol fr)) c1
        halves = stands-apart words words.base (prologue f.symbol fr) c1 parts.0

        same-code : prologue f.symbol fr ≡ prologue a.symbol fr
        same-code = ap (λ (g : ℕ). prologue g fr) (sym own)

        o : Opened a s low fr m there.functions there.room words there.low_base there.high_base is.symbol (omega arith) can.small enters.sp is.sp_low is.sp_high refl enters.regs a.memory enters.memory
        o = opens a s low fr m there.functions there.room words there.low_base there.high_base is.symbol (omega arith) can.small enters.sp is.sp_low is.sp_high refl enters.regs a.memory enters.memory there.wide enters.top
            (subst (Stand words words.base) same-code halves.0)

        long-code : length (prologue f.symbol fr) ≡ length (prologue a.symbol fr)
        long-code = ap (λ (c : List Instr). length c) same-code

        code1 : Stand words o.point.machine.regs.pc c1
        code1 = let l = long-code in let pc0 = o.pc in subst (λ (pc : ℕ). Stand words pc c1) (let z : words.base + 4 * length (prologue f.symbol fr) ≡ o.point.machine.regs.pc = omega (arith, l, pc0) in z) halves.1

        x : Kept c1 0 o.point
        x = saves enters.regs 0 11 o.point (omega arith) o.holds.sp (λ j lt. kept-saved s.regs o.point.machine.regs o.holds.saved j lt) code1

        q : Point
        q = x.point

        run : Runs (o.count + length c1) (entered words.base s) q
        run = goes-then m there.functions words there.low_base there.high_base o.count (length c1) (entered words.base s) o.point q o.run x.run

        sum : low + fr ≡ a.sp
        sum = let w = there.wide in omega (arith, w)

        same-saved : (k : ℕ) → k < 11 → q.machine.regs.x (saved_number k) ≡ s.regs.x (saved_number k)
        same-saved k lt = let i = is-saved k lt in let h = i.high in x.others (saved_number k) (λ z. let bad : ⊥ = omega (arith, z, h) in bad) ∙ kept-saved s.regs o.point.machine.regs o.holds.saved k lt

        -- the machine's numbers stay in their ranges
        fitting : IsFitting q.machine
        fitting =
            let b = there.high_base in
            let first' : IsFitting (entered words.base s).machine = record { regs = write_fits s.regs T1 words.base enters.regs (omega (arith, b)); bytes = enters.bytes; control = enters.control } in
            subst FitsEnd (run 0 []) (run_fits m words (o.count + length c1 + 0) (entered words.base s) first')

        number-low : (place : Place) → IsPlace slots place → number_at low q.machine (Some place) < 2 ^ 64
        number-low (Saved k) is = fitting.regs (saved_number k)
        number-low (Slot j) is = load-below q.machine.control (low + slot_place j) 8 fitting.control

        pc-is : words.base + 4 * length (entry_code f places) ≡ q.machine.regs.pc
        pc-is = let l = length-append (prologue f.symbol fr) c1 in let l' = long-code in let pc0 = o.pc in let pc1 = x.pc in omega (arith, l, l', pc0, pc1)
