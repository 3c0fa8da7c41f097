-- A call leads to its symbol's stub with its arguments, and goes on with the answer.
use Rattle.std.proofs.Common.{◌≡◌, ◌≢◌, refl, sym, ap, subst, ◌∙◌, ℕ, zero, suc, ◌+◌, ◌-◌, ◌*◌, ◌/◌, ◌%◌, ◌^◌, ◌<◌, ◌≤◌, ◌⊎◌, inl, inr, Bool, true, false, cond, not, List, [], ◌∷◌, ◌++◌, length, Option, Some, None, arith, ap₂, append_assoc}
use Rattle.std.specs.Prelude.{◌==◌, ◌&&◌, ℤ, pos, negsuc, nat_lt, nat_le, drop, take, map, replicate, slice_get, slice_index_or, if◌then◌else◌}
use Rattle.std.specs.List.{Contains}
use Rattle.std.proofs.lemmas.Bool.{cases_lt, lt-ltb, le-ltb, le-leb, leb-true, leb-false, ltb-true, ltb-false, and_parts}
use Rattle.std.proofs.lemmas.List.{length-append, length-replicate}
use Rattle.rv_core.specs.Reg.{number_of}
use Rattle.rv_core.specs.declared.reg.Reg.{Reg}
use Rattle.rv_core.specs.declared.reg.Reg.TheVariants.{X0, Ra, Sp, T0, T1, T2, A0, A1, A2, A3, A4, A5, A6, A7, S0, S1, S2, S3, S4, S5, S6, S7, S8, S9, S10, S11}
use Rattle.rv_core.specs.declared.instr.BranchOp.TheVariants.{Bgeu}
use Rattle.rv_core.specs.declared.instr.ImmOp.TheVariants.{Addi}
use Rattle.rv_core.specs.declared.instr.LoadOp.{LoadOp}
use Rattle.rv_core.specs.declared.instr.StoreOp.{StoreOp}
use Rattle.rv_core.specs.declared.instr.RegOp.TheVariants.{Add, Sub}
use Rattle.rv_core.specs.declared.instr.Instr.{Instr}
use Rattle.rv_core.specs.declared.instr.Instr.TheVariants as rv
use Rattle.rv_core.specs.Bytes.{load_bytes, store_bytes}
use Rattle.rv_core.specs.Step.{Registers as MachineRegisters, read, written, write, next as next_regs, plus, modulo, op_value}
use Rattle.rv_core.proofs.Bytes.{load_stored, load_outside, store_outside, load_alike}
use Rattle.abi.specs.Frame.{slot_place}
use Rattle.ir_meaning.specs.Memory.{Memory, top as top_of, is_inside, bytes_at, with_bytes}
use Rattle.ir_meaning.specs.Step.{copied, set}
use Rattle.ir_meaning.specs.Plays.{Meaning, Invocation}
use Rattle.ir_meaning.specs.Ranges.{IsMemory}
use Rattle.ir_meaning.proofs.Lengths.{inside-bounds, with_bytes-length, bytes_at-length}
use Rattle.rv_play.specs.Machine.{Machine, Act, On, Fails, act, loaded, in_data, in_control, code_base, code_limit, control_base, control_end, data_base, data_end}
use Rattle.rv_play.specs.Machine as machine
use Rattle.rv_play.specs.CodePlay.{Place as Words, Point, CodeReply, code_run, go_on, resume}
use Rattle.rv_play.specs.CodePlay as ends
use Rattle.rv_play.specs.Good.{IsBytes, IsRegs, RefinesMemory, RefinesReply, KeepsControl, KeepsRegs, IsReturnAddress, arg_regs}
use Rattle.rv_play.proofs.Lines.{Stands as Stand, stands-apart, Goes as Run, goes-then, goes-none, one-step, plain-step, moved as moved_point, next-regs}
use Rattle.walks.specs.Walk.{Bits, Does, Goes, Step}
use Rattle.walks.specs.Bits.{free, cut, constant, number}
use Rattle.walks.specs.Bytes.{bits_of_bytes, bytes_of_bits}
use Rattle.walks.specs.Registers.{Registers, write as write_register}
use Rattle.walks.specs.Face.{frame_of}
use Rattle.walks.specs.Refines.{RefinesBits}
use Rattle.mir.specs.declared.code.MInst.{MInst}
use Rattle.mir.specs.declared.code.MInst.TheVariants.{Param, Op, Imm, Const, Move, Load, Store, Phi, Call, TakeData, CopyBytes, FillBytes, Branch, Jump, Return, Trap}
use Rattle.mir.specs.declared.code.MFunction.{MFunction}
use Rattle.mir.specs.declared.places.Place.{Place}
use Rattle.mir.specs.declared.places.Place.TheVariants.{Saved, Slot}
use Rattle.mir.specs.declared.places.Places.{Places}
use Rattle.mir.specs.Code.{reads, writes, ends_block, inst_at, block_of}
use Rattle.mir.specs.Places.{IsPlace, place_of}
use Rattle.mir_play.specs.Values.{address, load_size, extended, store_size}
use Rattle.mir_play.specs.Play.{State, by_inst, step, at_address, give, change, moved, grown, behind_call, returned}
use Rattle.mir_play.specs.Machine.{IsHeld}
use Rattle.mir_play.proofs.Holding.{values_hold}
use Rattle.good_code.specs.Runs.{register, HoldBits, AtCall, AtReturn}
use Rattle.good_code.proofs.BySteps.{Advances, Onward, Asked, Resumed, Stopped}
use Rattle.code_pieces.specs.Code.{argument_reg, const_code, load_at, store_at, call_code, leave_code}
use Rattle.code_pieces.specs.Bytes.{taken_bytes, move_code as copy_code, fill_code}
use Rattle.code_pieces.specs.Items.{Item, plain}
use Rattle.code_pieces.specs.Labels.{StandsAs}
use Rattle.code_pieces.proofs.Const.{Puts, put, puts-one, read-put, const-puts, const-short, write-is}
use Rattle.code_pieces.proofs.Const.{read-is}
use Rattle.code_pieces.proofs.Slots.{other-register, loads-at, load-short}
use Rattle.frame_code.specs.Frame.{slots_of, saved_reg, save_offset, ra_offset, uses, used, used_from}
use Rattle.frame_code.specs.Code.{held_in, fetch, keep, load_place, store_place, load_code, store_code, bytes_code, restore_code, give_back, taken_by, taken_in, taken, take_code, arguments_code, answer_code, result_code, inst_items, insts_items, blocks_items}
use Rattle.frame_code.specs.Stands.{saved_number, number_at, Keeps, Stands, Here, left}
use Rattle.frame_code.specs.Laws.{CanLayOut, StandsLaidOut, IsOf}
use Rattle.frame_code.proofs.Short.{fetch-short, keep-short, load-place-short, store-place-short}
use Rattle.frame_code.proofs.Numbers.{IsSaved, is-saved, saved-is-one}
use Rattle.frame_code.proofs.Known.{cut-held, constant-held, number-held, byte-held}
use Rattle.frame_code.proofs.Operands.{Goes_on, on-then, on-puts, Fetched, fetched, fetched-quiet, spare-t0, Ready, ready, Quiet, quiet-none, quiet-then, number-quiet, Writes, writes-behind, Wrote, made, held-some, place-loaded, Stored, place-stored}
use Rattle.frame_code.proofs.Placed.{IsPlaced, first-item, second-item}
use Rattle.frame_code.proofs.Standing.{stands-write, keeps-write, held-write}
use Rattle.frame_code.proofs.Steps.{bottom, top, inside, Operand, operand, result, onward, by-inst, code-there, inst-there}
use Rattle.frame_code.proofs.Keeping.{Still, still-others, still-then, number-still, keeps-still, no-param-behind, ranges-at, stands-memory, stands-next, here-behind, gone}
use Rattle.ir_meaning.specs.declared.calls.Reply.{Reply as IrReply}
use Rattle.rv_core.specs.Step.{sign_extend_word}
use Rattle.rv_play.specs.Ending.{upper}
use Rattle.rv_play.specs.Machine.{stub_of}
use Rattle.walks.specs.Walk.{Asks}
use Rattle.code_pieces.proofs.Frame.{Holds, saved_regs as quick_saved, argument-number}
use Rattle.code_pieces.proofs.Calling.{call_point, call-runs}

-- ---- argument registers

pub argument-next : (i : ℕ) → i < 8 → drop i arg_regs ≡ argument_reg i ∷ drop (suc i) arg_regs
argument-next zero h = refl
argument-next (suc zero) h = refl
argument-next (suc (suc zero)) h = refl
argument-next (suc (suc (suc zero))) h = refl
argument-next (suc (suc (suc (suc zero)))) h = refl
argument-next (suc (suc (suc (suc (suc zero))))) h = refl
argument-next (suc (suc (suc (suc (suc (suc zero)))))) h = refl
argument-next (suc (suc (suc (suc (suc (suc (suc zero))))))) h = refl
argument-next (suc (suc (suc (suc (suc (suc (suc (suc n)))))))) h = absurd (let bad : ⊥ = omega arith in bad)

bits-same : (xs : List Bits) (rs : List Reg) (s t : MachineRegisters) → KeepsRegs rs s t → HoldBits xs rs s → HoldBits xs rs t
bits-same [] rs s t same h = tt
bits-same (x ∷ xs) [] s t same h = tt
bits-same (x ∷ xs) (r ∷ rs) s t same h = (subst (λ (v : ℕ). RefinesBits x (constant 64 v)) (sym same.0) h.0, bits-same xs rs s t same.1 h.1)

pub argument-some : (i : ℕ) → i < 8 → number_of (argument_reg i) ≢ 0
argument-some i h = let e = argument-number i h in λ z. let bad : ⊥ = omega (arith, e, z) in bad

argument-not-sp : (i : ℕ) → i < 8 → number_of (argument_reg i) ≢ 2
argument-not-sp i h = let e = argument-number i h in λ z. let bad : ⊥ = omega (arith, e, z) in bad

-- what is kept over a call
resumed-saved : (q : Point) (c : CodeReply) (k : ℕ) → k < 11 → (resume q c).machine.regs.x (saved_number k) ≡ q.machine.regs.x (saved_number k)
resumed-saved q c zero h = refl
resumed-saved q c (suc zero) h = refl
resumed-saved q c (suc (suc zero)) h = refl
resumed-saved q c (suc (suc (suc zero))) h = refl
resumed-saved q c (suc (suc (suc (suc zero)))) h = refl
resumed-saved q c (suc (suc (suc (suc (suc zero))))) h = refl
resumed-saved q c (suc (suc (suc (suc (suc (suc zero)))))) h = refl
resumed-saved q c (suc (suc (suc (suc (suc (suc (suc zero))))))) h = refl
resumed-saved q c (suc (suc (suc (suc (suc (suc (suc (suc zero)))))))) h = refl
resumed-saved q c (suc (suc (suc (suc (suc (suc (suc (suc (suc zero))))))))) h = refl
resumed-saved q c (suc (suc (suc (suc (suc (suc (suc (suc (suc (suc zero)))))))))) h = refl
resumed-saved q c (suc (suc (suc (suc (suc (suc (suc (suc (suc (suc (suc n))))))))))) h = absurd (let bad : ⊥ = omega arith in bad)

kept-byte : (b : Bool) (x y : ℕ) → b ≡ true → cond b x y ≡ x
kept-byte true x y h = refl
kept-byte false x y h = absurd (let bad : false ≡ true = h in cc)

resumed-still : (low : ℕ) (q : Point) (c : CodeReply) → q.machine.regs.x 2 ≡ low → Still low q (resume q c)
resumed-still low q c sp = record {
  sp = refl;
  data_top = refl;
  saved = λ k lt. resumed-saved q c k lt;
  control = λ x le. kept-byte (nat_le (q.machine.regs.x 2) x) (q.machine.control x) (c.control x) (le-leb (q.machine.regs.x 2) x (omega (arith, sp, le)));
  counted = refl;
}

-- nor at the call
still-call : (low g : ℕ) (q : Point) → Still low q (call_point g q)
still-call low g q = record {
  sp = refl;
  data_top = refl;
  saved = λ k lt. let x = is-saved k lt in let l = x.low in
      let v = sign_extend_word (upper (stub_of g) * 2 ^ 12) in
      other-register (written q.machine.regs.x 6 v) 1 (saved_number k) (q.machine.regs.pc + 8) (λ z. let bad : ⊥ = omega (arith, z, l) in bad) ∙ other-register q.machine.regs.x 6 (saved_number k) v (λ z. let bad : ⊥ = omega (arith, z, l) in bad);
  control = λ x le. refl;
  counted = refl;
}

-- in a register of an argument nothing of the function stands
still-argument : (low : ℕ) (p : Point) (i v k : ℕ) → i < 8 → Still low p (put p (argument_reg i) v k)
still-argument low p i v k lt = still-others low p (put p (argument_reg i) v k) (λ j l g t. other-register p.machine.regs.x (number_of (argument_reg i)) j v (apart j (argument-number i lt) g)) refl refl
  where
    apart : (j : ℕ) → number_of (argument_reg i) ≡ 10 + i → (j < 10) ⊎ (18 ≤ j) → j ≢ number_of (argument_reg i)
    apart j e (inl l) = λ z. let bad : ⊥ = omega (arith, e, z, l) in bad
    apart j e (inr l) = λ z. let bad : ⊥ = omega (arith, e, z, l, lt) in bad

module _ (m : Meaning) (f : MFunction) (places : Places) (a : Invocation) (s : Machine) (words : Words) (labels : ℕ → ℕ) (can : CanLayOut f places) (there : StandsLaidOut m f places a s words labels) where
  abbrev fr : ℕ
  fr = frame_of f.values

  abbrev slots : ℕ
  slots = slots_of f.values

  abbrev low : ℕ
  low = a.sp - fr

  abbrev At : State → Point → Type 0
  At = Here m f places a s words labels

  abbrev Runs : ℕ → Point → Point → Type 0
  Runs = Run m there.functions words there.low_base there.high_base

  abbrev Does_it : State → Point → Step State → Type 0
  Does_it now p st = Advances m State a s words At (left f) 0 (left f now) st.weight p st.does

  abbrev bt : control_base ≤ low
  bt = bottom m there.functions there.room f places can.intervals can.covers can.fits a s there.wide there.high words there.low_base there.high_base labels

  abbrev tp : low + fr ≤ control_end
  tp = top m there.functions there.room f places can.intervals can.covers can.fits a s there.wide there.high words there.low_base there.high_base labels

  abbrev ins : 8 * slots ≤ fr
  ins = inside m there.functions there.room f places can.intervals can.covers can.fits a s there.wide there.high words there.low_base there.high_base labels

  abbrev Given : State → Point → ℕ → Type 0
  Given = Operand m there.functions there.room f places can.intervals can.covers can.fits a s there.wide there.high words there.low_base there.high_base labels

  given : (now : State) (p : Point) (inst : MInst) (rest : List MInst) (r : ℕ) → At now p → now.rest ≡ inst ∷ rest → Contains (reads inst) r → Given now p r
  given = operand m there.functions there.room f places can.intervals can.covers can.fits a s there.wide there.high words there.low_base there.high_base labels

  code-here : (now : State) (p : Point) (inst : MInst) (rest : List MInst) (code : List Instr) → At now p → now.rest ≡ inst ∷ rest → inst_items f places now.block inst ≡ plain code → Stand words p.machine.regs.pc code
  code-here now p inst rest code h ahead same = (code-there m there.functions there.room f places can.intervals can.covers can.fits a s there.wide there.high words there.low_base there.high_base labels now p inst rest code h ahead same).0

  by-step : (now : State) (p : Point) (inst : MInst) (rest : List MInst) → now.rest ≡ inst ∷ rest → Does_it now p (by_inst f now rest inst) → Does_it now p (step f now)
  by-step = by-inst m there.functions there.room f places can.intervals can.covers can.fits a s there.wide there.high words there.low_base there.high_base labels

  -- the register's number stands at its place
  record Placed (regs : Registers) (p : Point) (r : ℕ) : Type 0 where
    place : Place
    at : place_of places r ≡ Some place
    is : IsPlace slots place
    held : IsHeld (regs r) (number_at low p.machine (Some place))

  placed-still : (regs : Registers) (p q : Point) (r : ℕ) → Still low p q → Placed regs p r → Placed regs q r
  placed-still regs p q r w h = record {
    place = h.place;
    at = h.at;
    is = h.is;
    held = subst (IsHeld (regs r)) (sym (number-still low slots p q h.place h.is w)) h.held;
  }

  abbrev AllPlaced : Registers → Point → List ℕ → Type 0
  AllPlaced regs p rs = (r : ℕ) → Contains rs r → Placed regs p r

  contains-later : (r x : ℕ) (rs : List ℕ) → Contains rs x → Contains (r ∷ rs) x
  contains-later r x rs h = let lt = h.1 in (suc h.0, omega (arith, lt), h.2)

  -- ---- the arguments

  record Handed (regs : Registers) (i : ℕ) (rs : List ℕ) (p : Point) : Type 0 where
    point : Point
    run : Runs (length (arguments_code f places i rs)) p point
    pc : point.machine.regs.pc ≡ p.machine.regs.pc + 4 * length (arguments_code f places i rs)
    short : length (arguments_code f places i rs) ≤ 3 * length rs
    hold : HoldBits (map (λ (r : ℕ). regs r) rs) (drop i arg_regs) point.machine.regs
    before : (j : ℕ) → j < 10 + i → point.machine.regs.x j ≡ p.machine.regs.x j
    still : Still low p point
    bytes : point.machine.bytes ≡ p.machine.bytes

  handed : (regs : Registers) (i : ℕ) (rs : List ℕ) (p : Point) → i + length rs ≤ 8 → p.machine.regs.x 2 ≡ low → AllPlaced regs p rs → Stand words p.machine.regs.pc (arguments_code f places i rs) → Handed regs i rs p
  handed regs i [] p few sp given' st = record {
    point = p;
    run = goes-none m there.functions words there.low_base there.high_base p;
    pc = omega arith;
    short = omega arith;
    hold = tt;
    before = λ j lt. refl;
    still = still-others low p p (λ j l g t. refl) refl refl;
    bytes = refl;
  }
  handed regs i (r ∷ rs) p few sp given' st =
      let g = given' r (first-item r rs) in
      let i-small : i < 8 = omega (arith, few) in
      let rd = argument_reg i in
      let v = number_at low p.machine (Some g.place) in
      let c0 = load_place rd (Some g.place) in
      let c1 = arguments_code f places (i + 1) rs in
      let same : arguments_code f places i (r ∷ rs) ≡ c0 ++ c1 = ap (λ (o : Option Place). load_place rd o ++ c1) g.at in
      let parts = stands-apart words p.machine.regs.pc c0 c1 (subst (Stand words p.machine.regs.pc) same st) in
      let q = put p rd v (length c0) in
      let run0 = place-loaded m there.functions there.room words there.low_base there.high_base low fr slots bt tp ins rd g.place p (argument-some i i-small) (argument-not-sp i i-small) g.is sp g.held.low parts.0 in
      let w = still-argument low p i v (length c0) i-small in
      let rest = handed regs (i + 1) rs q (omega (arith, few)) (w.sp ∙ sp) (λ x in'. placed-still regs p q x w (given' x (contains-later r x rs in'))) parts.1 in
      let len = length-append c0 c1 in
      let all : length (arguments_code f places i (r ∷ rs)) ≡ length (c0 ++ c1) = ap (λ (code : List Instr). length code) same in
      let short0 = load-place-short rd (Some g.place) in
      let short1 = rest.short in
      let pc1 = rest.pc in
      let number = argument-number i i-small in
      let total : length c0 + length c1 ≡ length (arguments_code f places i (r ∷ rs)) = omega (arith, len, all) in
      let held : read rest.point.machine.regs rd ≡ v =
      read-is rest.point.machine.regs rd (argument-some i i-small) ∙ rest.before (number_of rd) (omega (arith, number))
      ∙ sym (read-is q.machine.regs rd (argument-some i i-small)) ∙ read-put m there.functions words there.low_base there.high_base p rd v (length c0) (argument-some i i-small) in
      let one : suc i ≡ i + 1 = omega arith in
      record {
        point = rest.point;
        run = subst (λ (k : ℕ). Runs k p rest.point) total (goes-then m there.functions words there.low_base there.high_base (length c0) (length c1) p q rest.point run0 rest.run);
        pc = omega (arith, pc1, total);
        short = omega (arith, total, short0, short1);
        hold = subst (λ (args : List Reg). HoldBits (map (λ (r : ℕ). regs r) (r ∷ rs)) args rest.point.machine.regs) (sym (argument-next i i-small))
            (subst (λ (v : ℕ). RefinesBits (regs r) (constant 64 v)) (sym held) g.held.bits, subst (λ (k : ℕ). HoldBits (map (λ (r : ℕ). regs r) rs) (drop k arg_regs) rest.point.machine.regs) (sym one) rest.hold);
        before = λ j lt. rest.before j (omega (arith, lt)) ∙ other-register p.machine.regs.x (number_of rd) j v (λ z. let bad : ⊥ = omega (arith, z, lt, number) in bad);
        still = still-then low p q rest.point w rest.still;
        bytes = rest.bytes;
      }

  -- ---- the call

  -- the frame as it is, with the machine whose registers it has
  abbrev holding : Point → Machine
  holding q = record {
    regs = record { x = λ (j : ℕ). cond (j == 1) (load_bytes q.machine.control (low + (fr - 8)) 8) (q.machine.regs.x j); pc = 0 };
    bytes = q.machine.bytes;
    control = q.machine.control;
  }

  holds-now : (memory : Memory) (q : Point) → q.machine.regs.x 2 ≡ low → q.machine.regs.x 27 ≡ data_base + length memory → RefinesMemory memory q.machine.bytes → q.counted ≡ a.symbol ∷ []
      → Holds a (record {
        regs = record { x = λ (j : ℕ). cond (j == 1) (load_bytes q.machine.control (low + (fr - 8)) 8) (q.machine.regs.x j); pc = 0 };
        bytes = q.machine.bytes;
        control = q.machine.control;
      }) low fr [] memory q
  holds-now memory q sp top refines counted = record {
    sp = sp;
    slots = λ i v e. absurd (let bad : ⊥ = cc in bad);
    ra = refl;
    aside = refl;
    saved = (refl, (refl, (refl, (refl, (refl, (refl, (refl, (refl, (refl, (refl, (refl, tt)))))))))));
    data_top = top;
    kept = λ x le. refl;
    memory' = refines;
    counted = counted;
  }

  record CallsOut (g : ℕ) (args : List Bits) (memory : Memory) (count : ℕ) (p : Point) : Type 0 where
    point : Point
    run : (n : ℕ) (replies : List CodeReply) → code_run m words (count + n) p replies ≡ go_on (code_run m words n) replies (ends.Calls g point)
    still : Still low p point
    bytes : point.machine.bytes ≡ p.machine.bytes
    call : AtCall m a s args memory point
    back : point.machine.regs.x 1 ≡ p.machine.regs.pc + 4 * count

  module _ (of : IsOf m f) (own : a.symbol ≡ f.symbol) where
    called-out : (now : State) (p : Point) (g : ℕ) (args : List ℕ) (results : List ℕ) (rest : List MInst) → (h : At now p) → now.rest ≡ Call g args results ∷ rest → g < m.functions → length args ≤ 8
        → Stand words p.machine.regs.pc (arguments_code f places 0 args ++ call_code g) → CallsOut g (map (λ (r : ℕ). now.regs r) args) now.memory (length (arguments_code f places 0 args) + 2) p
    called-out now p g args results rest h ahead exists few st =
        let inst = Call g args results in
        let parts = stands-apart words p.machine.regs.pc (arguments_code f places 0 args) (call_code g) st in
        let x = handed now.regs 0 args p (omega (arith, few)) h.stands.keeps.sp (λ r in'. let o = given now p inst rest r h ahead in' in record { place = o.place; at = o.at; is = o.is; held = o.held }) parts.0 in
        let q = x.point in
        let keeps = keeps-still m f places a s words labels can there (length now.memory) p q x.still (subst IsBytes (sym x.bytes) h.stands.keeps.bytes) h.stands.keeps in
        let refines : RefinesMemory now.memory q.machine.bytes = subst (RefinesMemory now.memory) (sym x.bytes) h.stands.memory' in
        let code1 = subst (λ (pc : ℕ). Stand words pc (call_code g)) (sym x.pc) parts.1 in
        let entering : words.sp ≡ low + fr = let e = there.entering in let w = there.wide in omega (arith, e, w) in
        let call = call-runs a (holding q) low fr m there.functions words there.low_base there.high_base entering (omega arith) g [] now.memory q exists (holds-now now.memory q keeps.sp keeps.data_top refines keeps.counted) code1 in
        let even = h.even in let pc1 = x.pc in let base = code1.0 in let frame = of.frame in
        let functions = there.functions in
        record {
          point = call_point g q;
          run = λ n replies.
              ap (λ (k : ℕ). code_run m words k p replies) (let z : length (arguments_code f places 0 args) + 2 + n ≡ length (arguments_code f places 0 args) + (2 + n) = omega arith in z)
              ∙ x.run (2 + n) replies ∙ call n replies;
          still = still-then low p q (call_point g q) x.still (still-call low g q);
          bytes = x.bytes;
          call = record {
            counted = keeps.counted;
            control = keeps.kept;
            sp = keeps.sp ∙ ap (λ (n : ℕ). a.sp - n) (sym (ap m.frame own ∙ frame));
            top = keeps.data_top;
            ra = (omega (arith, even, pc1), inr (omega (arith, base, functions)));
            registers = bits-same (map (λ (r : ℕ). now.regs r) args) arg_regs q.machine.regs (call_point g q).machine.regs (refl, (refl, (refl, (refl, (refl, (refl, (refl, (refl, tt)))))))) x.hold;
            memory' = refines;
          };
          back = omega (arith, pc1);
        }

    -- behind the answer
    answered : (now : State) (p : Point) (g : ℕ) (args results : List ℕ) (rest : List MInst) (value : Bits) (memory : Memory) (q : Point) → (h : At now p) → now.rest ≡ Call g args results ∷ rest
        → length results ≤ 1 → Still low p q → IsBytes q.machine.bytes → length memory ≡ length now.memory → RefinesMemory memory q.machine.bytes → IsHeld value (q.machine.regs.x 10)
        → q.machine.regs.pc ≡ p.machine.regs.pc + 4 * (length (arguments_code f places 0 args) + 2) → Stand words q.machine.regs.pc (answer_code f places results)
        → Resumed m State a s words At (left f) (length (answer_code f places results)) q (behind_call f now rest results (record { value = value; memory = memory }))
    answered now p g args [] rest value memory q h ahead few still bytes long refines held pc st =
        let inst = Call g args [] in
        let stands = stands-memory m f places a s words labels can there now p q inst rest memory ahead refl still bytes long refines h.stands in
        let l = length-append (arguments_code f places 0 args) (call_code g ++ answer_code f places []) in
        record {
          point = q;
          run = goes-none m there.functions words there.low_base there.high_base q;
          at = here-behind m f places a s words labels can there now p q inst rest (arguments_code f places 0 args ++ (call_code g ++ answer_code f places [])) now.regs memory h ahead refl (omega (arith, pc, l))
              (stands-next m f places a s words labels can there (record now { memory = memory }) q inst rest ahead refl refl refl refl stands);
        }
    answered now p g args (d ∷ []) rest value memory q h ahead few still bytes long refines held pc st =
        let inst = Call g args (d ∷ []) in
        let stands = stands-memory m f places a s words labels can there now p q inst rest memory ahead refl still bytes long refines h.stands in
        let to = result m there.functions there.room f places can.intervals can.covers can.fits a s there.wide there.high words there.low_base there.high_base labels now p inst rest d h ahead (first-item d []) in
        let v = q.machine.regs.x 10 in
        let y = (place-stored m there.functions there.room words there.low_base there.high_base low fr slots bt tp ins A0 to.0 v q (λ z. cc) to.2 stands.keeps.sp refl held.low
        (subst (λ (o : Option Place). Stand words q.machine.regs.pc (store_place A0 o)) to.1 st)).wrote in
        let l = length-append (arguments_code f places 0 args) (call_code g ++ store_place A0 (Some to.0)) in
        let pc1 = y.on.pc in
        let code' : Option Place → List Instr = λ o. store_place A0 o in
        let same = ap (λ (o : Option Place). length (code' o)) to.1 in
        record {
          point = y.point;
          run = subst (λ (k : ℕ). Runs k q y.point) (sym same) y.on.run;
          at = here-behind m f places a s words labels can there now p y.point inst rest (arguments_code f places 0 args ++ (call_code g ++ store_place A0 (Some to.0))) (write_register now.regs d (cut 64 value)) memory h ahead
              (ap (λ (o : Option Place). plain (arguments_code f places 0 args ++ (call_code g ++ store_place A0 o))) to.1) (omega (arith, pc, pc1, l))
              (stands-write m f places can.intervals can.covers can.fits a s there.wide (record now { memory = memory }) q y.point inst rest d v to.0 (cut 64 value) ahead refl refl refl to.1 to.2 (cut-held value v held) y.writes stands);
        }
    answered now p g args (d ∷ e ∷ ds) rest value memory q h ahead few still bytes long refines held pc st = absurd (let bad : ⊥ = omega (arith, few) in bad)

    pub call-step : (now : State) (p : Point) (g : ℕ) (args results : List ℕ) (rest : List MInst) → At now p → now.rest ≡ Call g args results ∷ rest → Does_it now p (step f now)
    call-step now p g args results rest h ahead = by-step now p (Call g args results) rest ahead goes
      where
        inst : MInst
        inst = Call g args results

        ranges : (g < 1024) × (length args ≤ 8) × (length results ≤ 1)
        ranges = ranges-at m f places a s words labels can there now p inst rest h ahead

        c0 : List Instr
        c0 = arguments_code f places 0 args

        c2 : List Instr
        c2 = answer_code f places results

        parts : Stand words p.machine.regs.pc (c0 ++ call_code g) × Stand words (p.machine.regs.pc + 4 * length (c0 ++ call_code g)) c2
        parts = stands-apart words p.machine.regs.pc (c0 ++ call_code g) c2 (subst (Stand words p.machine.regs.pc) (sym (append_assoc c0 (call_code g) c2)) (code-here now p inst rest (c0 ++ (call_code g ++ c2)) h ahead refl))

        answer-short : (results : List ℕ) → length (answer_code f places results) ≤ 3
        answer-short [] = omega arith
        answer-short (d ∷ ds) = store-place-short A0 (place_of places d)

        handed-short : (i : ℕ) (rs : List ℕ) → length (arguments_code f places i rs) ≤ 3 * length rs
        handed-short i [] = omega arith
        handed-short i (r ∷ rs) =
            let l = length-append (load_place (argument_reg i) (place_of places r)) (arguments_code f places (i + 1) rs) in
            let x = load-place-short (argument_reg i) (place_of places r) in
            let y = handed-short (i + 1) rs in
            omega (arith, l, x, y)

        goes : g < m.functions → Asked m State a s words At (left f) 0 (64 + 12 * length args) p g (map (λ (r : ℕ). now.regs r) args) now.memory (behind_call f now rest results)
        goes exists =
            let x = called-out now p g args results rest h ahead exists ranges.1 parts.0 in
            let short0 = handed-short 0 args in
            let short2 = answer-short results in
            let l = length-append c0 (call_code g) in
            let at : p.machine.regs.pc + 4 * length (c0 ++ call_code g) ≡ p.machine.regs.pc + 4 * (length c0 + 2) = omega (arith, l) in
            record {
              count = length c0 + 2;
              more = length c2;
              point = x.point;
              some = omega arith;
              few = omega (arith, short0, short2);
              run = x.run;
              call = x.call;
              back = λ r c of' fits long.
                  let back = x.back in
                  let regs = fits.regs in
                  answered now p g args results rest (register c.regs A0) r.memory (resume x.point c) h ahead ranges.2
                  (still-then low p x.point (resume x.point c) x.still (resumed-still low x.point c (x.still.sp ∙ h.stands.keeps.sp)))
                  fits.bytes long fits.memory (record { low = regs 10; bits = λ i bit e. e }) back
                  (subst (λ (pc : ℕ). Stand words pc c2) (sym (back ∙ sym at)) parts.1);
            }
