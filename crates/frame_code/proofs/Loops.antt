-- Bytes that are moved are one step each.
use Rattle.std.proofs.Common.{◌≡◌, ◌≢◌, refl, sym, ap, subst, ◌∙◌, ℕ, zero, suc, ◌+◌, ◌-◌, ◌*◌, ◌/◌, ◌%◌, ◌^◌, ◌<◌, ◌≤◌, ◌⊎◌, inl, inr, Bool, true, false, cond, not, List, [], ◌∷◌, ◌++◌, length, Option, Some, None, arith, ap₂, append_assoc}
use Rattle.std.specs.Prelude.{◌==◌, ◌&&◌, ℤ, pos, negsuc, nat_lt, nat_le, drop, take, map, replicate, slice_get, slice_index_or, if◌then◌else◌}
use Rattle.std.specs.List.{Contains}
use Rattle.std.proofs.lemmas.Bool.{cases_lt, lt-ltb, le-ltb, le-leb, leb-true, leb-false, ltb-true, ltb-false, and_parts}
use Rattle.std.proofs.lemmas.List.{length-append, length-replicate}
use Rattle.rv_core.specs.Reg.{number_of}
use Rattle.rv_core.specs.declared.reg.Reg.{Reg}
use Rattle.rv_core.specs.declared.reg.Reg.TheVariants.{X0, Ra, Sp, T0, T1, T2, A0, A1, A2, A3, A4, A5, A6, A7, S0, S1, S2, S3, S4, S5, S6, S7, S8, S9, S10, S11}
use Rattle.rv_core.specs.declared.instr.BranchOp.TheVariants.{Bgeu}
use Rattle.rv_core.specs.declared.instr.ImmOp.TheVariants.{Addi}
use Rattle.rv_core.specs.declared.instr.LoadOp.{LoadOp}
use Rattle.rv_core.specs.declared.instr.StoreOp.{StoreOp}
use Rattle.rv_core.specs.declared.instr.RegOp.TheVariants.{Add, Sub}
use Rattle.rv_core.specs.declared.instr.Instr.{Instr}
use Rattle.rv_core.specs.declared.instr.Instr.TheVariants as rv
use Rattle.rv_core.specs.Bytes.{load_bytes, store_bytes}
use Rattle.rv_core.specs.Step.{Registers as MachineRegisters, read, written, write, next as next_regs, plus, modulo, op_value}
use Rattle.rv_core.proofs.Bytes.{load_stored, load_outside, store_outside, load_alike}
use Rattle.abi.specs.Frame.{slot_place}
use Rattle.ir_meaning.specs.Memory.{Memory, top as top_of, is_inside, bytes_at, with_bytes}
use Rattle.ir_meaning.specs.Step.{copied, set}
use Rattle.ir_meaning.specs.Plays.{Meaning, Invocation}
use Rattle.ir_meaning.specs.Ranges.{IsMemory}
use Rattle.ir_meaning.proofs.Lengths.{inside-bounds, with_bytes-length, bytes_at-length}
use Rattle.rv_play.specs.Machine.{Machine, Act, On, Fails, act, loaded, in_data, in_control, code_base, code_limit, control_base, control_end, data_base, data_end}
use Rattle.rv_play.specs.Machine as machine
use Rattle.rv_play.specs.CodePlay.{Place as Words, Point, CodeReply, code_run, go_on, resume}
use Rattle.rv_play.specs.CodePlay as ends
use Rattle.rv_play.specs.Good.{IsBytes, IsRegs, RefinesMemory, RefinesReply, KeepsControl, KeepsRegs, IsReturnAddress, arg_regs}
use Rattle.rv_play.proofs.Lines.{Stands as Stand, stands-apart, Goes as Run, goes-then, goes-none, one-step, plain-step, moved as moved_point, next-regs}
use Rattle.walks.specs.Walk.{Bits, Does, Goes, Step}
use Rattle.walks.specs.Bits.{free, cut, constant, number}
use Rattle.walks.specs.Bytes.{bits_of_bytes, bytes_of_bits}
use Rattle.walks.specs.Registers.{Registers, write as write_register}
use Rattle.walks.specs.Face.{frame_of}
use Rattle.walks.specs.Refines.{RefinesBits}
use Rattle.mir.specs.declared.code.MInst.{MInst}
use Rattle.mir.specs.declared.code.MInst.TheVariants.{Param, Op, Imm, Const, Move, Load, Store, Phi, Call, TakeData, CopyBytes, FillBytes, Branch, Jump, Return, Trap}
use Rattle.mir.specs.declared.code.MFunction.{MFunction}
use Rattle.mir.specs.declared.places.Place.{Place}
use Rattle.mir.specs.declared.places.Place.TheVariants.{Saved, Slot}
use Rattle.mir.specs.declared.places.Places.{Places}
use Rattle.mir.specs.Code.{reads, writes, ends_block, inst_at, block_of}
use Rattle.mir.specs.Places.{IsPlace, place_of}
use Rattle.mir_play.specs.Values.{address, load_size, extended, store_size}
use Rattle.mir_play.specs.Play.{State, by_inst, step, at_address, give, change, moved, grown, behind_call, returned}
use Rattle.mir_play.specs.Machine.{IsHeld}
use Rattle.mir_play.proofs.Holding.{values_hold}
use Rattle.good_code.specs.Runs.{register, HoldBits, AtCall, AtReturn}
use Rattle.good_code.proofs.BySteps.{Advances, Onward, Asked, Resumed, Stopped}
use Rattle.code_pieces.specs.Code.{argument_reg, const_code, load_at, store_at, call_code, leave_code}
use Rattle.code_pieces.specs.Bytes.{taken_bytes, move_code as copy_code, fill_code}
use Rattle.code_pieces.specs.Items.{Item, plain}
use Rattle.code_pieces.specs.Labels.{StandsAs}
use Rattle.code_pieces.proofs.Const.{Puts, put, puts-one, read-put, const-puts, const-short, write-is}
use Rattle.code_pieces.proofs.Const.{read-is}
use Rattle.code_pieces.proofs.Slots.{other-register, loads-at, load-short}
use Rattle.frame_code.specs.Frame.{slots_of, saved_reg, save_offset, ra_offset, uses, used, used_from}
use Rattle.frame_code.specs.Code.{held_in, fetch, keep, load_place, store_place, load_code, store_code, bytes_code, restore_code, give_back, taken_by, taken_in, taken, take_code, arguments_code, answer_code, result_code, inst_items, insts_items, blocks_items}
use Rattle.frame_code.specs.Stands.{saved_number, number_at, Keeps, Stands, Here, left}
use Rattle.frame_code.specs.Laws.{CanLayOut, StandsLaidOut, IsOf}
use Rattle.frame_code.proofs.Short.{fetch-short, keep-short, load-place-short, store-place-short}
use Rattle.frame_code.proofs.Numbers.{IsSaved, is-saved, saved-is-one}
use Rattle.frame_code.proofs.Known.{cut-held, constant-held, number-held, byte-held}
use Rattle.frame_code.proofs.Operands.{Goes_on, on-then, on-puts, Fetched, fetched, fetched-quiet, spare-t0, Ready, ready, Quiet, quiet-none, quiet-then, number-quiet, Writes, writes-behind, Wrote, made, held-some, place-loaded, Stored, place-stored}
use Rattle.frame_code.proofs.Placed.{IsPlaced, first-item, second-item}
use Rattle.frame_code.proofs.Standing.{stands-write, keeps-write, held-write}
use Rattle.frame_code.proofs.Steps.{bottom, top, inside, Operand, operand, result, onward, by-inst, code-there, inst-there}
use Rattle.frame_code.proofs.Keeping.{Still, still-others, still-then, number-still, keeps-still, no-param-behind, ranges-at, stands-memory, stands-next, here-behind, gone}
use Rattle.walks.specs.Walk.{Breaks}
use Rattle.mir.specs.WellFormed.{is_param}
use Rattle.code_pieces.proofs.Moving.{Through, move-none, move-goes, fill-none, fill-goes}
use Rattle.code_pieces.proofs.Moved.{copy-refines, fill-refines}

third-item : (d e g : ℕ) (ds : List ℕ) → Contains (d ∷ e ∷ g ∷ ds) g
third-item d e g ds = (2, omega arith, refl)

module _ (m : Meaning) (f : MFunction) (places : Places) (a : Invocation) (s : Machine) (words : Words) (labels : ℕ → ℕ) (can : CanLayOut f places) (there : StandsLaidOut m f places a s words labels) where
  abbrev fr : ℕ
  fr = frame_of f.values

  abbrev slots : ℕ
  slots = slots_of f.values

  abbrev low : ℕ
  low = a.sp - fr

  abbrev At : State → Point → Type 0
  At = Here m f places a s words labels

  abbrev Runs : ℕ → Point → Point → Type 0
  Runs = Run m there.functions words there.low_base there.high_base

  abbrev Does_it : State → Point → Step State → Type 0
  Does_it now p st = Advances m State a s words At (left f) 0 (left f now) st.weight p st.does

  abbrev bt : control_base ≤ low
  bt = bottom m there.functions there.room f places can.intervals can.covers can.fits a s there.wide there.high words there.low_base there.high_base labels

  abbrev tp : low + fr ≤ control_end
  tp = top m there.functions there.room f places can.intervals can.covers can.fits a s there.wide there.high words there.low_base there.high_base labels

  abbrev ins : 8 * slots ≤ fr
  ins = inside m there.functions there.room f places can.intervals can.covers can.fits a s there.wide there.high words there.low_base there.high_base labels

  abbrev Given : State → Point → ℕ → Type 0
  Given = Operand m there.functions there.room f places can.intervals can.covers can.fits a s there.wide there.high words there.low_base there.high_base labels

  given : (now : State) (p : Point) (inst : MInst) (rest : List MInst) (r : ℕ) → At now p → now.rest ≡ inst ∷ rest → Contains (reads inst) r → Given now p r
  given = operand m there.functions there.room f places can.intervals can.covers can.fits a s there.wide there.high words there.low_base there.high_base labels

  code-here : (now : State) (p : Point) (inst : MInst) (rest : List MInst) (code : List Instr) → At now p → now.rest ≡ inst ∷ rest → inst_items f places now.block inst ≡ plain code → Stand words p.machine.regs.pc code
  code-here now p inst rest code h ahead same = (code-there m there.functions there.room f places can.intervals can.covers can.fits a s there.wide there.high words there.low_base there.high_base labels now p inst rest code h ahead same).0

  by-step : (now : State) (p : Point) (inst : MInst) (rest : List MInst) → now.rest ≡ inst ∷ rest → Does_it now p (by_inst f now rest inst) → Does_it now p (step f now)
  by-step = by-inst m there.functions there.room f places can.intervals can.covers can.fits a s there.wide there.high words there.low_base there.high_base labels

  abbrev Loop : ℕ → ℕ → ℕ → ℕ → (ℕ → ℕ) → Point → Type 0
  Loop = Through m there.functions there.room words there.low_base there.high_base

  -- two addresses, or an address and a byte, and how many, stand in t0 to t2
  record Three (b c d : Place) (p : Point) : Type 0 where
    point : Point
    run : Runs (length (bytes_code (Some b) (Some c) (Some d))) p point
    pc : point.machine.regs.pc ≡ p.machine.regs.pc + 4 * length (bytes_code (Some b) (Some c) (Some d))
    first : point.machine.regs.x 5 ≡ number_at low p.machine (Some b)
    second : point.machine.regs.x 6 ≡ number_at low p.machine (Some c)
    third : point.machine.regs.x 7 ≡ number_at low p.machine (Some d)
    still : Still low p point
    bytes : point.machine.bytes ≡ p.machine.bytes

  still-put : (p : Point) (rd : Reg) (v k : ℕ) → (5 ≤ number_of rd) × (number_of rd < 8) → Still low p (put p rd v k)
  still-put p rd v k is = still-others low p (put p rd v k) (λ j l g t. other-register p.machine.regs.x (number_of rd) j v (apart j is l)) refl refl
    where
      apart : (j : ℕ) → (5 ≤ number_of rd) × (number_of rd < 8) → (j < 5) ⊎ (8 ≤ j) → j ≢ number_of rd
      apart j h (inl l) = let x = h.0 in λ z. let bad : ⊥ = omega (arith, z, l, x) in bad
      apart j h (inr l) = let x = h.1 in λ z. let bad : ⊥ = omega (arith, z, l, x) in bad

  three : (b c d : Place) (p : Point) → IsPlace slots b → IsPlace slots c → IsPlace slots d → p.machine.regs.x 2 ≡ low → number_at low p.machine (Some b) < 2 ^ 64 → number_at low p.machine (Some c) < 2 ^ 64 → number_at low p.machine (Some d) < 2 ^ 64
      → Stand words p.machine.regs.pc (bytes_code (Some b) (Some c) (Some d)) → Three b c d p
  three b c d p is-b is-c is-d sp lt-b lt-c lt-d st =
      let c0 = load_place T0 (Some b) in
      let c1 = load_place T1 (Some c) in
      let c2 = load_place T2 (Some d) in
      let parts = stands-apart words p.machine.regs.pc c0 (c1 ++ c2) st in
      let v0 = number_at low p.machine (Some b) in
      let q0 = put p T0 v0 (length c0) in
      let r0 = place-loaded m there.functions there.room words there.low_base there.high_base low fr slots bt tp ins T0 b p (λ z. cc) (λ z. cc) is-b sp lt-b parts.0 in
      let w0 = still-put p T0 v0 (length c0) (omega arith, omega arith) in
      let same1 = number-still low slots p q0 c is-c w0 in
      let v1 = number_at low q0.machine (Some c) in
      let q1 = put q0 T1 v1 (length c1) in
      let parts1 = stands-apart words q0.machine.regs.pc c1 c2 parts.1 in
      let r1 = place-loaded m there.functions there.room words there.low_base there.high_base low fr slots bt tp ins T1 c q0 (λ z. cc) (λ z. cc) is-c sp (omega (arith, lt-c, same1)) parts1.0 in
      let w1 = still-then low p q0 q1 w0 (still-put q0 T1 v1 (length c1) (omega arith, omega arith)) in
      let same2 = number-still low slots p q1 d is-d w1 in
      let v2 = number_at low q1.machine (Some d) in
      let q2 = put q1 T2 v2 (length c2) in
      let r2 = place-loaded m there.functions there.room words there.low_base there.high_base low fr slots bt tp ins T2 d q1 (λ z. cc) (λ z. cc) is-d sp (omega (arith, lt-d, same2)) parts1.1 in
      let l0 = length-append c0 (c1 ++ c2) in
      let l1 = length-append c1 c2 in
      let total : length c0 + (length c1 + length c2) ≡ length (bytes_code (Some b) (Some c) (Some d)) = omega (arith, l0, l1) in
      record {
        point = q2;
        run = subst (λ (k : ℕ). Runs k p q2) total
            (goes-then m there.functions words there.low_base there.high_base (length c0) (length c1 + length c2) p q0 q2 r0 (goes-then m there.functions words there.low_base there.high_base (length c1) (length c2) q0 q1 q2 r1 r2));
        pc = omega (arith, total);
        first = refl;
        second = same1;
        third = same2;
        still = still-then low p q1 q2 w1 (still-put q1 T2 v2 (length c2) (omega arith, omega arith));
        bytes = refl;
      }

  bytes-short : (b c d : Option Place) → length (bytes_code b c d) ≤ 9
  bytes-short b c d =
      let l0 = length-append (load_place T0 b) (load_place T1 c ++ load_place T2 d) in
      let l1 = length-append (load_place T1 c) (load_place T2 d) in
      let x = load-place-short T0 b in let y = load-place-short T1 c in let z = load-place-short T2 d in
      omega (arith, l0, l1, x, y, z)

  -- what stands for data memory is below 256
  is-memory : (memory : Memory) (bytes : ℕ → ℕ) → RefinesMemory memory bytes → IsBytes bytes → IsMemory memory
  is-memory memory bytes refines below i b e = let same = refines i b e in let lt = below (data_base + i) in omega (arith, same, lt)

  -- behind the loop the machine stands for the state with the memory after it
  landed : (now : State) (p : Point) (inst : MInst) (rest : List MInst) (b c d : Place) (code : List Instr) (span most n t weight : ℕ) (g : ℕ → ℕ) (after : Memory) → At now p → now.rest ≡ inst ∷ rest
      → inst_items f places now.block inst ≡ plain (bytes_code (Some b) (Some c) (Some d) ++ code) → length code ≡ span → is_param inst ≡ false → ends_block inst ≡ false → writes inst ≡ [] → taken_by inst ≡ 0
      → (x : Three b c d p) → (w : Loop span most n t g x.point) → 9 + most ≤ weight → length after ≡ length now.memory → RefinesMemory after w.point.machine.bytes
      → Onward m State a s words At (left f) 0 (left f now) weight p (record now { rest = rest; memory = after })
  landed now p inst rest b c d code span most n t weight g after h ahead same many isn't ends none takes x w few long refines =
      let c0 = bytes_code (Some b) (Some c) (Some d) in
      let len = length-append c0 code in
      let pc0 = x.pc in let pc1 = w.pc in
      let short = bytes-short (Some b) (Some c) (Some d) in
      let count-few = w.few in
      let run = goes-then m there.functions words there.low_base there.high_base (length c0) w.count p x.point w.point x.run w.run in
      let still-w = still-others low x.point w.point (λ j l g t. w.kept.others j (side j 5 l (omega arith, omega arith)) (side j 6 l (omega arith, omega arith)) (side j 7 l (omega arith, omega arith)) (λ z. let bad : ⊥ = omega (arith, z, t) in bad) (λ z. let bad : ⊥ = omega (arith, z, t) in bad)) w.kept.control w.kept.counted in
      let still = still-then low p x.point w.point x.still still-w in
      let below : IsBytes w.point.machine.bytes = λ y. by_order y (cases_lt y t) (cases_lt y (t + n)) in
      let stands = stands-memory m f places a s words labels can there now p w.point inst rest after ahead isn't still below long refines h.stands in
      gone m f places a s words labels can there now p w.point inst rest (c0 ++ code) (length c0 + w.count) weight now.regs after h ahead same run (omega (arith, pc0, pc1, len, many)) (omega (arith, short, count-few, few))
      (stands-next m f places a s words labels can there (record now { memory = after }) w.point inst rest ahead isn't ends none takes stands)
    where
      side : (j k : ℕ) → (j < 5) ⊎ (8 ≤ j) → (5 ≤ k) × (k < 8) → j ≢ k
      side j k (inl l) h = let x = h.0 in λ z. let bad : ⊥ = omega (arith, z, l, x) in bad
      side j k (inr l) h = let x = h.1 in λ z. let bad : ⊥ = omega (arith, z, l, x) in bad

      same-bytes : (y : ℕ) → x.point.machine.bytes y ≡ p.machine.bytes y
      same-bytes y = ap (λ (bytes : ℕ → ℕ). bytes y) x.bytes

      by_order : (y : ℕ) → (y < t) ⊎ (t ≤ y) → (y < t + n) ⊎ (t + n ≤ y) → w.point.machine.bytes y < 256
      by_order y (inl lt) z = let e = w.outside y (inl lt) in let e' = same-bytes y in let b = h.stands.keeps.bytes y in omega (arith, e, e', b)
      by_order y (inr le) (inr past) = let e = w.outside y (inr past) in let e' = same-bytes y in let b = h.stands.keeps.bytes y in omega (arith, e, e', b)
      by_order y (inr le) (inl lt) = let e = w.inside y le lt in omega (arith, e)

  -- ---- a copy

  pub copy-step : (now : State) (p : Point) (b c d : ℕ) (rest : List MInst) → At now p → now.rest ≡ CopyBytes b c d ∷ rest → Does_it now p (step f now)
  copy-step now p b c d rest h ahead = by-step now p (CopyBytes b c d) rest ahead (by_count (number 64 (now.regs d)) refl)
    where
      inst : MInst
      inst = CopyBytes b c d

      to : Given now p b
      to = given now p inst rest b h ahead (first-item b (c ∷ d ∷ []))

      from : Given now p c
      from = given now p inst rest c h ahead (second-item b c (d ∷ []))

      many : Given now p d
      many = given now p inst rest d h ahead (third-item b c d [])

      same : inst_items f places now.block inst ≡ plain (bytes_code (Some to.place) (Some from.place) (Some many.place) ++ copy_code)
      same =
          ap (λ (o : Option Place). plain (bytes_code o (place_of places c) (place_of places d) ++ copy_code)) to.at
          ∙ ap (λ (o : Option Place). plain (bytes_code (Some to.place) o (place_of places d) ++ copy_code)) from.at
          ∙ ap (λ (o : Option Place). plain (bytes_code (Some to.place) (Some from.place) o ++ copy_code)) many.at

      parts : Stand words p.machine.regs.pc (bytes_code (Some to.place) (Some from.place) (Some many.place)) × Stand words (p.machine.regs.pc + 4 * length (bytes_code (Some to.place) (Some from.place) (Some many.place))) copy_code
      parts = stands-apart words p.machine.regs.pc (bytes_code (Some to.place) (Some from.place) (Some many.place)) copy_code (code-here now p inst rest _ h ahead same)

      x : Three to.place from.place many.place p
      x = three to.place from.place many.place p to.is from.is many.is h.stands.keeps.sp to.held.low from.held.low many.held.low parts.0

      code-at : Stand words x.point.machine.regs.pc copy_code
      code-at = subst (λ (pc : ℕ). Stand words pc copy_code) (sym x.pc) parts.1

      known : (r k : ℕ) (g : Given now p r) → number 64 (now.regs r) ≡ Some k → number_at low p.machine (Some g.place) ≡ k
      known r k g e = number-held (now.regs r) (number_at low p.machine (Some g.place)) k g.held e

      refined : RefinesMemory now.memory x.point.machine.bytes
      refined = subst (RefinesMemory now.memory) (sym x.bytes) h.stands.memory'

      Ends : Option ℕ → Option ℕ → Option ℕ → Type 0
      Ends t g o = Does_it now p (moved f now rest 64 o (copied (λ to from count. true) now.memory t g o))

      by_test : (t g k : ℕ) → number 64 (now.regs b) ≡ Some t → number 64 (now.regs c) ≡ Some g → number 64 (now.regs d) ≡ Some (suc k) → (i : Bool)
          → (is_inside now.memory t (suc k) && is_inside now.memory g (suc k) && true) ≡ i
          → Does_it now p (moved f now rest 64 (Some (suc k)) (if i then Some (with_bytes now.memory t (bytes_at now.memory g (suc k))) else None))
      by_test t g k et eg ek false e = tt
      by_test t g k et eg ek true e =
          let outer = and_parts (is_inside now.memory t (suc k) && is_inside now.memory g (suc k)) true e in
          let inner = and_parts (is_inside now.memory t (suc k)) (is_inside now.memory g (suc k)) outer.0 in
          let bt' = inside-bounds now.memory t (suc k) inner.0 in let bg = inside-bounds now.memory g (suc k) inner.1 in
          let lt = bt'.0 in let ht = bt'.1 in let lg = bg.0 in let hg = bg.1 in
          let room' = h.stands.room in
          let w = move-goes m there.functions there.room words there.low_base there.high_base k x.point t g (x.first ∙ known b t to et) (x.second ∙ known c g from eg) (x.third ∙ known d (suc k) many ek) lt lg (omega (arith, ht, room')) (omega (arith, hg, room')) code-at in
          let long = bytes_at-length now.memory g (suc k) inner.1 in
          landed now p inst rest to.place from.place many.place copy_code 14 (8 + 6 * suc k) (suc k) t (64 + 32 * suc k) (λ y. x.point.machine.bytes (g + (y - t))) (with_bytes now.memory t (bytes_at now.memory g (suc k))) h ahead same refl refl refl refl refl x w (omega arith)
          (with_bytes-length now.memory t (bytes_at now.memory g (suc k)) (ap (is_inside now.memory t) long ∙ inner.0))
          (copy-refines now.memory x.point.machine.bytes w.point.machine.bytes t g (suc k) long lt lg ht (is-memory now.memory p.machine.bytes h.stands.memory' h.stands.keeps.bytes) refined w.inside w.outside)

      by_from : (t k : ℕ) → number 64 (now.regs b) ≡ Some t → number 64 (now.regs d) ≡ Some (suc k) → (o : Option ℕ) → number 64 (now.regs c) ≡ o → Ends (Some t) o (Some (suc k))
      by_from t k et ek None e = tt
      by_from t k et ek (Some g) e = by_test t g k et e ek (is_inside now.memory t (suc k) && is_inside now.memory g (suc k) && true) refl

      by_to : (k : ℕ) → number 64 (now.regs d) ≡ Some (suc k) → (o : Option ℕ) → number 64 (now.regs b) ≡ o → Ends o (number 64 (now.regs c)) (Some (suc k))
      by_to k ek None e = tt
      by_to k ek (Some t) e = by_from t k e ek (number 64 (now.regs c)) refl

      by_count : (o : Option ℕ) → number 64 (now.regs d) ≡ o → Ends (number 64 (now.regs b)) (number 64 (now.regs c)) o
      by_count None e = tt
      by_count (Some zero) e =
          let w = move-none m there.functions there.room words there.low_base there.high_base x.point 0 (λ y. 0) (x.third ∙ known d 0 many e) code-at in
          landed now p inst rest to.place from.place many.place copy_code 14 1 0 0 (64 + 32 * 0) (λ y. 0) now.memory h ahead same refl refl refl refl refl x w (omega arith) refl
          (λ i v e'. w.outside (data_base + i) (inr (omega arith)) ∙ refined i v e')
      by_count (Some (suc k)) e = by_to k e (number 64 (now.regs b)) refl

  -- ---- a byte everywhere

  pub fill-step : (now : State) (p : Point) (b c d : ℕ) (rest : List MInst) → At now p → now.rest ≡ FillBytes b c d ∷ rest → Does_it now p (step f now)
  fill-step now p b c d rest h ahead = by-step now p (FillBytes b c d) rest ahead (by_count (number 64 (now.regs d)) refl)
    where
      inst : MInst
      inst = FillBytes b c d

      to : Given now p b
      to = given now p inst rest b h ahead (first-item b (c ∷ d ∷ []))

      byte : Given now p c
      byte = given now p inst rest c h ahead (second-item b c (d ∷ []))

      many : Given now p d
      many = given now p inst rest d h ahead (third-item b c d [])

      same : inst_items f places now.block inst ≡ plain (bytes_code (Some to.place) (Some byte.place) (Some many.place) ++ fill_code)
      same =
          ap (λ (o : Option Place). plain (bytes_code o (place_of places c) (place_of places d) ++ fill_code)) to.at
          ∙ ap (λ (o : Option Place). plain (bytes_code (Some to.place) o (place_of places d) ++ fill_code)) byte.at
          ∙ ap (λ (o : Option Place). plain (bytes_code (Some to.place) (Some byte.place) o ++ fill_code)) many.at

      parts : Stand words p.machine.regs.pc (bytes_code (Some to.place) (Some byte.place) (Some many.place)) × Stand words (p.machine.regs.pc + 4 * length (bytes_code (Some to.place) (Some byte.place) (Some many.place))) fill_code
      parts = stands-apart words p.machine.regs.pc (bytes_code (Some to.place) (Some byte.place) (Some many.place)) fill_code (code-here now p inst rest _ h ahead same)

      x : Three to.place byte.place many.place p
      x = three to.place byte.place many.place p to.is byte.is many.is h.stands.keeps.sp to.held.low byte.held.low many.held.low parts.0

      code-at : Stand words x.point.machine.regs.pc fill_code
      code-at = subst (λ (pc : ℕ). Stand words pc fill_code) (sym x.pc) parts.1

      known : (r k : ℕ) (g : Given now p r) → number 64 (now.regs r) ≡ Some k → number_at low p.machine (Some g.place) ≡ k
      known r k g e = number-held (now.regs r) (number_at low p.machine (Some g.place)) k g.held e

      refined : RefinesMemory now.memory x.point.machine.bytes
      refined = subst (RefinesMemory now.memory) (sym x.bytes) h.stands.memory'

      v : ℕ
      v = x.point.machine.regs.x 6

      is-byte : (k : ℕ) → number 8 (now.regs c) ≡ Some k → (v % 256 ≡ k) × (k < 256)
      is-byte k e =
          let is = byte-held (now.regs c) (number_at low p.machine (Some byte.place)) k byte.held e in
          let second = x.second in (
            ap (λ (n : ℕ). n % 256) second ∙ is,
            omega (arith, is),
          )

      Ends : Option ℕ → Option ℕ → Type 0
      Ends t o = Does_it now p (moved f now rest 64 o (set now.memory t (number 8 (now.regs c)) o))

      by_test : (t k : ℕ) → number 64 (now.regs b) ≡ Some t → number 64 (now.regs d) ≡ Some (suc k) → (i : Bool) → is_inside now.memory t (suc k) ≡ i
          → Does_it now p (moved f now rest 64 (Some (suc k)) (if i then Some (with_bytes now.memory t (replicate (suc k) (number 8 (now.regs c)))) else None))
      by_test t k et ek false e = tt
      by_test t k et ek true e =
          let bounds = inside-bounds now.memory t (suc k) e in
          let lt = bounds.0 in let ht = bounds.1 in
          let room' = h.stands.room in
          let w = fill-goes m there.functions there.room words there.low_base there.high_base k x.point t v (x.first ∙ known b t to et) refl (x.third ∙ known d (suc k) many ek) lt (omega (arith, ht, room')) code-at in
          let long = length-replicate (suc k) (number 8 (now.regs c)) in
          landed now p inst rest to.place byte.place many.place fill_code 5 (1 + 4 * suc k) (suc k) t (64 + 32 * suc k) (λ y. v) (with_bytes now.memory t (replicate (suc k) (number 8 (now.regs c)))) h ahead same refl refl refl refl refl x w (omega arith)
          (with_bytes-length now.memory t (replicate (suc k) (number 8 (now.regs c))) (ap (is_inside now.memory t) long ∙ e))
          (fill-refines now.memory x.point.machine.bytes w.point.machine.bytes t (suc k) (v % 256) (number 8 (now.regs c)) lt ht refined is-byte (λ y le less. let i = w.inside y le less in omega (arith, i)) w.outside)

      by_to : (k : ℕ) → number 64 (now.regs d) ≡ Some (suc k) → (o : Option ℕ) → number 64 (now.regs b) ≡ o → Ends o (Some (suc k))
      by_to k ek None e = tt
      by_to k ek (Some t) e = by_test t k e ek (is_inside now.memory t (suc k)) refl

      by_count : (o : Option ℕ) → number 64 (now.regs d) ≡ o → Ends (number 64 (now.regs b)) o
      by_count None e = tt
      by_count (Some zero) e =
          let w = fill-none m there.functions there.room words there.low_base there.high_base x.point 0 (λ y. 0) (x.third ∙ known d 0 many e) code-at in
          landed now p inst rest to.place byte.place many.place fill_code 5 1 0 0 (64 + 32 * 0) (λ y. 0) now.memory h ahead same refl refl refl refl refl x w (omega arith) refl
          (λ i z e'. w.outside (data_base + i) (inr (omega arith)) ∙ refined i z e')
      by_count (Some (suc k)) e = by_to k e (number 64 (now.regs b)) refl
