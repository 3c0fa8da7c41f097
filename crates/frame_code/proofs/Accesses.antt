-- Loads and stores of data memory do what their steps do, within their weight.
use Rattle.std.proofs.Common.{◌≡◌, ◌≢◌, refl, sym, ap, subst, ◌∙◌, ℕ, zero, suc, ◌+◌, ◌-◌, ◌*◌, ◌/◌, ◌%◌, ◌^◌, ◌<◌, ◌≤◌, ◌⊎◌, inl, inr, Bool, true, false, cond, not, List, [], ◌∷◌, ◌++◌, length, Option, Some, None, arith, ap₂, append_assoc}
use Rattle.std.specs.Prelude.{◌==◌, ◌&&◌, ℤ, pos, negsuc, nat_lt, nat_le, drop, take, map, replicate, slice_get, slice_index_or, if◌then◌else◌}
use Rattle.std.specs.List.{Contains}
use Rattle.std.proofs.lemmas.Bool.{cases_lt, lt-ltb, le-ltb, le-leb, leb-true, leb-false, ltb-true, ltb-false, and_parts}
use Rattle.std.proofs.lemmas.List.{length-append, length-replicate}
use Rattle.rv_core.specs.Reg.{number_of}
use Rattle.rv_core.specs.declared.reg.Reg.{Reg}
use Rattle.rv_core.specs.declared.reg.Reg.TheVariants.{X0, Ra, Sp, T0, T1, T2, A0, A1, A2, A3, A4, A5, A6, A7, S0, S1, S2, S3, S4, S5, S6, S7, S8, S9, S10, S11}
use Rattle.rv_core.specs.declared.instr.BranchOp.TheVariants.{Bgeu}
use Rattle.rv_core.specs.declared.instr.ImmOp.TheVariants.{Addi}
use Rattle.rv_core.specs.declared.instr.LoadOp.{LoadOp}
use Rattle.rv_core.specs.declared.instr.StoreOp.{StoreOp}
use Rattle.rv_core.specs.declared.instr.RegOp.TheVariants.{Add, Sub}
use Rattle.rv_core.specs.declared.instr.Instr.{Instr}
use Rattle.rv_core.specs.declared.instr.Instr.TheVariants as rv
use Rattle.rv_core.specs.Bytes.{load_bytes, store_bytes}
use Rattle.rv_core.specs.Step.{Registers as MachineRegisters, read, written, write, next as next_regs, plus, modulo, op_value}
use Rattle.rv_core.proofs.Bytes.{load_stored, load_outside, store_outside, load_alike}
use Rattle.abi.specs.Frame.{slot_place}
use Rattle.ir_meaning.specs.Memory.{Memory, top as top_of, is_inside, bytes_at, with_bytes}
use Rattle.ir_meaning.specs.Step.{copied, set}
use Rattle.ir_meaning.specs.Plays.{Meaning, Invocation}
use Rattle.ir_meaning.specs.Ranges.{IsMemory}
use Rattle.ir_meaning.proofs.Lengths.{inside-bounds, with_bytes-length, bytes_at-length}
use Rattle.rv_play.specs.Machine.{Machine, Act, On, Fails, act, loaded, in_data, in_control, code_base, code_limit, control_base, control_end, data_base, data_end}
use Rattle.rv_play.specs.Machine as machine
use Rattle.rv_play.specs.CodePlay.{Place as Words, Point, CodeReply, code_run, go_on, resume}
use Rattle.rv_play.specs.CodePlay as ends
use Rattle.rv_play.specs.Good.{IsBytes, IsRegs, RefinesMemory, RefinesReply, KeepsControl, KeepsRegs, IsReturnAddress, arg_regs}
use Rattle.rv_play.proofs.Lines.{Stands as Stand, stands-apart, Goes as Run, goes-then, goes-none, one-step, plain-step, moved as moved_point, next-regs}
use Rattle.walks.specs.Walk.{Bits, Does, Goes, Step}
use Rattle.walks.specs.Bits.{free, cut, constant, number}
use Rattle.walks.specs.Bytes.{bits_of_bytes, bytes_of_bits}
use Rattle.walks.specs.Registers.{Registers, write as write_register}
use Rattle.walks.specs.Face.{frame_of}
use Rattle.walks.specs.Refines.{RefinesBits}
use Rattle.mir.specs.declared.code.MInst.{MInst}
use Rattle.mir.specs.declared.code.MInst.TheVariants.{Param, Op, Imm, Const, Move, Load, Store, Phi, Call, TakeData, CopyBytes, FillBytes, Branch, Jump, Return, Trap}
use Rattle.mir.specs.declared.code.MFunction.{MFunction}
use Rattle.mir.specs.declared.places.Place.{Place}
use Rattle.mir.specs.declared.places.Place.TheVariants.{Saved, Slot}
use Rattle.mir.specs.declared.places.Places.{Places}
use Rattle.mir.specs.Code.{reads, writes, ends_block, inst_at, block_of}
use Rattle.mir.specs.Places.{IsPlace, place_of}
use Rattle.mir_play.specs.Values.{address, load_size, extended, store_size}
use Rattle.mir_play.specs.Play.{State, by_inst, step, at_address, give, change, moved, grown, behind_call, returned}
use Rattle.mir_play.specs.Machine.{IsHeld}
use Rattle.mir_play.proofs.Holding.{values_hold}
use Rattle.good_code.specs.Runs.{register, HoldBits, AtCall, AtReturn}
use Rattle.good_code.proofs.BySteps.{Advances, Onward, Asked, Resumed, Stopped}
use Rattle.code_pieces.specs.Code.{argument_reg, const_code, load_at, store_at, call_code, leave_code}
use Rattle.code_pieces.specs.Bytes.{taken_bytes, move_code as copy_code, fill_code}
use Rattle.code_pieces.specs.Items.{Item, plain}
use Rattle.code_pieces.specs.Labels.{StandsAs}
use Rattle.code_pieces.proofs.Const.{Puts, put, puts-one, read-put, const-puts, const-short, write-is}
use Rattle.code_pieces.proofs.Const.{read-is}
use Rattle.code_pieces.proofs.Slots.{other-register, loads-at, load-short}
use Rattle.frame_code.specs.Frame.{slots_of, saved_reg, save_offset, ra_offset, uses, used, used_from}
use Rattle.frame_code.specs.Code.{held_in, fetch, keep, load_place, store_place, load_code, store_code, bytes_code, restore_code, give_back, taken_by, taken_in, taken, take_code, arguments_code, answer_code, result_code, inst_items, insts_items, blocks_items}
use Rattle.frame_code.specs.Stands.{saved_number, number_at, Keeps, Stands, Here, left}
use Rattle.frame_code.specs.Laws.{CanLayOut, StandsLaidOut, IsOf}
use Rattle.frame_code.proofs.Short.{fetch-short, keep-short, load-place-short, store-place-short}
use Rattle.frame_code.proofs.Numbers.{IsSaved, is-saved, saved-is-one}
use Rattle.frame_code.proofs.Known.{cut-held, constant-held, number-held, byte-held}
use Rattle.frame_code.proofs.Operands.{Goes_on, on-then, on-puts, Fetched, fetched, fetched-quiet, spare-t0, Ready, ready, Quiet, quiet-none, quiet-then, number-quiet, Writes, writes-behind, Wrote, made, held-some, place-loaded, Stored, place-stored}
use Rattle.frame_code.proofs.Placed.{IsPlaced, first-item, second-item}
use Rattle.frame_code.proofs.Standing.{stands-write, keeps-write, held-write}
use Rattle.frame_code.proofs.Steps.{bottom, top, inside, Operand, operand, result, onward, by-inst, code-there, inst-there}
use Rattle.frame_code.proofs.Keeping.{Still, still-others, still-then, number-still, keeps-still, no-param-behind, ranges-at, stands-memory, stands-next, here-behind, gone}
use Rattle.rv_core.specs.declared.instr.LoadOp.TheVariants.{Lb, Lh, Lw, Ld, Lbu, Lhu, Lwu}
use Rattle.rv_core.specs.declared.instr.StoreOp.TheVariants.{Sb, Sh, Sw, Sd}
use Rattle.walks.specs.Walk.{Breaks}
use Rattle.frame_code.proofs.Data.{loaded-held, store-held, stored-long, store-below}

-- an access has one size in both
same-load : (op : LoadOp) → load_size op ≡ machine.load_size op
same-load Lb = refl
same-load Lh = refl
same-load Lw = refl
same-load Ld = refl
same-load Lbu = refl
same-load Lhu = refl
same-load Lwu = refl

store-sizes : (op : StoreOp) → store_size op ≡ machine.store_size op
store-sizes Sb = refl
store-sizes Sh = refl
store-sizes Sw = refl
store-sizes Sd = refl

pick : (b : Bool) (x y : Act) → b ≡ true → cond b x y ≡ x
pick true x y h = refl
pick false x y h = absurd (let bad : false ≡ true = h in cc)

module _ (m : Meaning) (f : MFunction) (places : Places) (a : Invocation) (s : Machine) (words : Words) (labels : ℕ → ℕ) (can : CanLayOut f places) (there : StandsLaidOut m f places a s words labels) where
  abbrev fr : ℕ
  fr = frame_of f.values

  abbrev slots : ℕ
  slots = slots_of f.values

  abbrev low : ℕ
  low = a.sp - fr

  abbrev At : State → Point → Type 0
  At = Here m f places a s words labels

  abbrev Runs : ℕ → Point → Point → Type 0
  Runs = Run m there.functions words there.low_base there.high_base

  abbrev Does_it : State → Point → Step State → Type 0
  Does_it now p st = Advances m State a s words At (left f) 0 (left f now) st.weight p st.does

  abbrev bt : control_base ≤ low
  bt = bottom m there.functions there.room f places can.intervals can.covers can.fits a s there.wide there.high words there.low_base there.high_base labels

  abbrev tp : low + fr ≤ control_end
  tp = top m there.functions there.room f places can.intervals can.covers can.fits a s there.wide there.high words there.low_base there.high_base labels

  abbrev ins : 8 * slots ≤ fr
  ins = inside m there.functions there.room f places can.intervals can.covers can.fits a s there.wide there.high words there.low_base there.high_base labels

  abbrev Given : State → Point → ℕ → Type 0
  Given = Operand m there.functions there.room f places can.intervals can.covers can.fits a s there.wide there.high words there.low_base there.high_base labels

  given : (now : State) (p : Point) (inst : MInst) (rest : List MInst) (r : ℕ) → At now p → now.rest ≡ inst ∷ rest → Contains (reads inst) r → Given now p r
  given = operand m there.functions there.room f places can.intervals can.covers can.fits a s there.wide there.high words there.low_base there.high_base labels

  code-here : (now : State) (p : Point) (inst : MInst) (rest : List MInst) (code : List Instr) → At now p → now.rest ≡ inst ∷ rest → inst_items f places now.block inst ≡ plain code → Stand words p.machine.regs.pc code
  code-here now p inst rest code h ahead same = (code-there m there.functions there.room f places can.intervals can.covers can.fits a s there.wide there.high words there.low_base there.high_base labels now p inst rest code h ahead same).0

  by-step : (now : State) (p : Point) (inst : MInst) (rest : List MInst) → now.rest ≡ inst ∷ rest → Does_it now p (by_inst f now rest inst) → Does_it now p (step f now)
  by-step = by-inst m there.functions there.room f places can.intervals can.covers can.fits a s there.wide there.high words there.low_base there.high_base labels

  -- bytes inside data memory are inside the machine's
  data-inside : (memory : Memory) (at count : ℕ) → top_of memory ≤ data_end m → is_inside memory at count ≡ true → in_data m at count ≡ true
  data-inside memory at count small h =
      let b = inside-bounds memory at count h in let lo = b.0 in let hi = b.1 in
      ap (λ (x : Bool). x && nat_le (at + count) (data_end m)) (le-leb data_base at lo) ∙ le-leb (at + count) (data_end m) (omega (arith, hi, small))

  -- ---- a load

  load-acts : (t : Machine) (op : LoadOp) (rd rs : Reg) (n : ℤ) (at : ℕ) → number_of rd ≢ 0 → plus (read t.regs rs) n ≡ at → in_data m at (machine.load_size op) ≡ true
      → act m t (rv.Load op rd rs n) ≡ On (record t { regs = next_regs (write t.regs rd (machine.extended op (load_bytes t.bytes at (machine.load_size op)))) })
  load-acts t op rd rs n at nz e inside =
      let v = machine.extended op (load_bytes t.bytes at (machine.load_size op)) in
      let after-one : ℕ → Act = λ x.
      cond (in_data m x (machine.load_size op)) (On (loaded (record t { regs = next_regs t.regs }) op rd (load_bytes t.bytes x (machine.load_size op))))
      (cond (in_control x (machine.load_size op)) (On (loaded (record t { regs = next_regs t.regs }) op rd (load_bytes t.control x (machine.load_size op)))) Fails) in
      ap after-one e
      ∙ pick (in_data m at (machine.load_size op)) _ _ inside
      ∙ ap (λ (r : MachineRegisters). On (record t { regs = r })) (write-is (next_regs t.regs) rd v nz)
      ∙ sym (ap (λ (r : MachineRegisters). On (record t { regs = next_regs r })) (write-is t.regs rd v nz))

  load-done : (op : LoadOp) (d b : Place) (n : ℤ) (at : ℕ) (p : Point) → IsPlace slots d → IsPlace slots b → p.machine.regs.x 2 ≡ low → plus (number_at low p.machine (Some b)) n ≡ at
      → in_data m at (machine.load_size op) ≡ true → machine.extended op (load_bytes p.machine.bytes at (machine.load_size op)) < 2 ^ 64 → Stand words p.machine.regs.pc (load_code op (Some d) (Some b) n)
      → Wrote m there.functions there.room words there.low_base there.high_base low fr slots bt tp ins (load_code op (Some d) (Some b) n) d (machine.extended op (load_bytes p.machine.bytes at (machine.load_size op))) p
  load-done op d b n at p is-d is-b sp to inside small st =
      let first = fetch T0 (Some b) in
      let i = rv.Load op (held_in T0 (Some d)) (held_in T0 (Some b)) n in
      let behind = i ∷ keep T0 (Some d) in
      let v = machine.extended op (load_bytes p.machine.bytes at (machine.load_size op)) in
      let parts = stands-apart words p.machine.regs.pc first behind st in
      let x = fetched m there.functions there.room words there.low_base there.high_base low fr slots bt tp ins T0 b p spare-t0 is-b sp parts.0 in
      let quiet = fetched-quiet m there.functions there.room words there.low_base there.high_base low fr slots bt tp ins T0 b p spare-t0 x in
      let sp' = quiet.others 2 (λ z. cc) (λ z. cc) (λ z. cc) ∙ sp in
      let nz = held-some m there.functions there.room words there.low_base there.high_base low fr slots bt tp ins d is-d in
      let brings : Puts m there.functions words there.low_base there.high_base x.point (held_in T0 (Some d)) v (i ∷ []) =
      puts-one m there.functions words there.low_base there.high_base x.point (held_in T0 (Some d)) v i nz refl
      (load-acts x.point.machine op (held_in T0 (Some d)) (held_in T0 (Some b)) n at nz (ap (λ (w : ℕ). plus w n) x.value ∙ to) inside
      ∙ ap (λ (bytes : ℕ → ℕ). On (record x.point.machine { regs = next_regs (write x.point.machine.regs (held_in T0 (Some d)) (machine.extended op (load_bytes bytes at (machine.load_size op)))) })) x.bytes) in
      let y = made m there.functions there.room words there.low_base there.high_base low fr slots bt tp ins (i ∷ []) d v x.point is-d small sp' brings (subst (λ (pc : ℕ). Stand words pc behind) (sym x.on.pc) parts.1) in
      record {
        point = y.point;
        on = on-then m there.functions there.room words there.low_base there.high_base low fr slots bt tp ins first behind p x.point y.point x.on y.on;
        writes = writes-behind low slots p x.point y.point d v quiet y.writes;
      }

  load-short' : (op : LoadOp) (d b : Option Place) (n : ℤ) → length (load_code op d b n) ≤ 7
  load-short' op d b n =
      let i = rv.Load op (held_in T0 d) (held_in T0 b) n in
      let first = length-append (fetch T0 b) (i ∷ keep T0 d) in
      let x = fetch-short T0 b in let z = keep-short T0 d in
      omega (arith, first, x, z)

  pub load-step : (now : State) (p : Point) (op : LoadOp) (d b : ℕ) (n : ℤ) (rest : List MInst) → At now p → now.rest ≡ Load op d b n ∷ rest → Does_it now p (step f now)
  load-step now p op d b n rest h ahead = by-step now p (Load op d b n) rest ahead (by_address (address (now.regs b) n) refl)
    where
      inst : MInst
      inst = Load op d b n

      first : Given now p b
      first = given now p inst rest b h ahead (first-item b [])

      to : IsPlaced f places can.intervals can.covers can.fits d
      to = result m there.functions there.room f places can.intervals can.covers can.fits a s there.wide there.high words there.low_base there.high_base labels now p inst rest d h ahead (first-item d [])

      goes : (at : ℕ) → address (now.regs b) n ≡ Some at → is_inside now.memory at (load_size op) ≡ true
          → Onward m State a s words At (left f) 0 (left f now) 12 p (record now { rest = rest; regs = write_register now.regs d (extended op (bits_of_bytes (bytes_at now.memory at (load_size op)))) })
      goes at e inside =
          let held = loaded-held op now.memory p.machine.bytes at inside h.stands.memory' h.stands.keeps.bytes in
          let size = same-load op in
          let v = machine.extended op (load_bytes p.machine.bytes at (load_size op)) in
          let same : load_code op (place_of places d) (place_of places b) n ≡ load_code op (Some to.0) (Some first.place) n =
          ap (λ (o : Option Place). load_code op o (place_of places b) n) to.1 ∙ ap (λ (o : Option Place). load_code op (Some to.0) o n) first.at in
          let w = ap (λ (k : ℕ). machine.extended op (load_bytes p.machine.bytes at k)) size in
          onward m there.functions there.room f places can.intervals can.covers can.fits a s there.wide there.high words there.low_base there.high_base labels now p inst rest (load_code op (Some to.0) (Some first.place) n) d
          (machine.extended op (load_bytes p.machine.bytes at (machine.load_size op))) 12 to.0 (extended op (bits_of_bytes (bytes_at now.memory at (load_size op)))) h ahead (ap plain same) refl refl refl to.1 to.2
          (subst (IsHeld (extended op (bits_of_bytes (bytes_at now.memory at (load_size op))))) w held)
          (let short = load-short' op (Some to.0) (Some first.place) n in omega (arith, short))
          (load-done op to.0 first.place n at p to.2 first.is h.stands.keeps.sp (values_hold.addresses (now.regs b) (number_at low p.machine (Some first.place)) at n first.held e)
          (ap (λ (k : ℕ). in_data m at k) (sym size) ∙ data-inside now.memory at (load_size op) h.stands.room inside) (let lt = held.low in omega (arith, lt, w)))

      by_inside : (at : ℕ) → address (now.regs b) n ≡ Some at → (i : Bool) → is_inside now.memory at (load_size op) ≡ i
          → Advances m State a s words At (left f) 0 (left f now) 12 p (if i then give f now rest d (extended op (bits_of_bytes (bytes_at now.memory at (load_size op)))) else Breaks)
      by_inside at e true is = goes at e is
      by_inside at e false is = tt

      by_address : (o : Option ℕ) → address (now.regs b) n ≡ o
          → Advances m State a s words At (left f) 0 (left f now) 12 p (at_address f now rest o (load_size op) (λ at. give f now rest d (extended op (bits_of_bytes (bytes_at now.memory at (load_size op))))))
      by_address None e = tt
      by_address (Some at) e = by_inside at e (is_inside now.memory at (load_size op)) refl

  -- ---- a store

  store-acts : (t : Machine) (op : StoreOp) (rs2 rs1 : Reg) (n : ℤ) (at : ℕ) → plus (read t.regs rs1) n ≡ at → in_data m at (machine.store_size op) ≡ true → t.regs.pc + 4 ≤ code_limit
      → act m t (rv.Store op rs2 rs1 n) ≡ On (record t { regs = next-regs t; bytes = store_bytes t.bytes at (machine.store_size op) (read t.regs rs2) })
  store-acts t op rs2 rs1 n at e inside bound =
      let near : plus t.regs.pc (pos 4) ≡ t.regs.pc + 4 = omega (arith, bound) in
      let after-one : ℕ → ℕ → Act = λ pc x.
      cond (in_data m x (machine.store_size op)) (On (record t { regs = record { x = t.regs.x; pc = pc }; bytes = store_bytes t.bytes x (machine.store_size op) (read t.regs rs2) }))
      (cond (in_control x (machine.store_size op)) (On (record t { regs = record { x = t.regs.x; pc = pc }; control = store_bytes t.control x (machine.store_size op) (read t.regs rs2) })) Fails) in
      ap (λ (x : ℕ). after-one (plus t.regs.pc (pos 4)) x) e
      ∙ ap (λ (pc : ℕ). after-one pc at) near
      ∙ pick (in_data m at (machine.store_size op)) _ _ inside

  store-short' : (op : StoreOp) (b c : Option Place) (n : ℤ) → length (store_code op b c n) ≤ 7
  store-short' op b c n =
      let i = rv.Store op (held_in T0 b) (held_in T1 c) n in
      let first = length-append (fetch T0 b) (fetch T1 c ++ i ∷ []) in
      let second = length-append (fetch T1 c) (i ∷ []) in
      let x = fetch-short T0 b in let y = fetch-short T1 c in
      omega (arith, first, second, x, y)

  -- the code of a store
  record Kept (op : StoreOp) (b c : Place) (n : ℤ) (at : ℕ) (p : Point) : Type 0 where
    point : Point
    run : Runs (length (store_code op (Some b) (Some c) n)) p point
    pc : point.machine.regs.pc ≡ p.machine.regs.pc + 4 * length (store_code op (Some b) (Some c) n)
    still : Still low p point
    bytes : point.machine.bytes ≡ store_bytes p.machine.bytes at (machine.store_size op) (number_at low p.machine (Some b))

  store-done : (op : StoreOp) (b c : Place) (n : ℤ) (at : ℕ) (p : Point) → IsPlace slots b → IsPlace slots c → p.machine.regs.x 2 ≡ low → plus (number_at low p.machine (Some c)) n ≡ at
      → in_data m at (machine.store_size op) ≡ true → Stand words p.machine.regs.pc (store_code op (Some b) (Some c) n) → Kept op b c n at p
  store-done op b c n at p is-b is-c sp to inside st =
      let first = fetch T0 (Some b) in
      let second = fetch T1 (Some c) in
      let i = rv.Store op (held_in T0 (Some b)) (held_in T1 (Some c)) n in
      let parts = stands-apart words p.machine.regs.pc (first ++ second) (i ∷ []) (subst (Stand words p.machine.regs.pc) (sym (append_assoc first second (i ∷ []))) st) in
      let x = ready m there.functions there.room words there.low_base there.high_base low fr slots bt tp ins b c p is-b is-c sp parts.0 in
      let last = subst (λ (pc : ℕ). Stand words pc (i ∷ [])) (sym x.on.pc) parts.1 in
      let bound = last.1 in let base = last.0 in
      let q : Point = moved_point x.point (record x.point.machine { regs = next-regs x.point.machine; bytes = store_bytes x.point.machine.bytes at (machine.store_size op) (read x.point.machine.regs (held_in T0 (Some b))) }) x.point.counted in
      let acts = store-acts x.point.machine op (held_in T0 (Some b)) (held_in T1 (Some c)) n at (ap (λ (w : ℕ). plus w n) x.second ∙ to) inside bound in
      let one : Runs 1 x.point q = plain-step m there.functions words there.low_base there.high_base x.point i q.machine last.2 refl acts (omega (arith, base)) in
      let len = length-append (first ++ second) (i ∷ []) in
      let same : length ((first ++ second) ++ i ∷ []) ≡ length (store_code op (Some b) (Some c) n) = ap (λ (code : List Instr). length code) (append_assoc first second (i ∷ [])) in
      let total : length (first ++ second) + 1 ≡ length (store_code op (Some b) (Some c) n) = omega (arith, len, same) in
      let at-pc = x.on.pc in
      record {
        point = q;
        run = subst (λ (k : ℕ). Runs k p q) total (goes-then m there.functions words there.low_base there.high_base (length (first ++ second)) 1 p x.point q x.on.run one);
        pc = omega (arith, at-pc, total);
        still = still-others low p q (λ j l g t. x.quiet.others j (λ z. let bad : ⊥ = by_side j 5 z l in bad) (λ z. let bad : ⊥ = by_side' j 6 z l in bad) (λ z. let bad : ⊥ = omega (arith, z, t) in bad)) x.quiet.control x.quiet.counted;
        bytes = ap₂ (λ (bytes : ℕ → ℕ) (v : ℕ). store_bytes bytes at (machine.store_size op) v) x.quiet.bytes x.first;
      }
    where
      by_side : (j k : ℕ) → j ≡ 5 → (j < 5) ⊎ (8 ≤ j) → ⊥
      by_side j k e (inl l) = omega (arith, e, l)
      by_side j k e (inr l) = omega (arith, e, l)

      by_side' : (j k : ℕ) → j ≡ 6 → (j < 5) ⊎ (8 ≤ j) → ⊥
      by_side' j k e (inl l) = omega (arith, e, l)
      by_side' j k e (inr l) = omega (arith, e, l)

  pub store-step : (now : State) (p : Point) (op : StoreOp) (b c : ℕ) (n : ℤ) (rest : List MInst) → At now p → now.rest ≡ Store op b c n ∷ rest → Does_it now p (step f now)
  store-step now p op b c n rest h ahead = by-step now p (Store op b c n) rest ahead (by_address (address (now.regs c) n) refl)
    where
      inst : MInst
      inst = Store op b c n

      first : Given now p b
      first = given now p inst rest b h ahead (first-item b (c ∷ []))

      second : Given now p c
      second = given now p inst rest c h ahead (second-item b c [])

      code : List Instr
      code = store_code op (Some first.place) (Some second.place) n

      goes : (at : ℕ) → address (now.regs c) n ≡ Some at → is_inside now.memory at (store_size op) ≡ true
          → Onward m State a s words At (left f) 0 (left f now) 20 p (record now { rest = rest; memory = with_bytes now.memory at (bytes_of_bits (store_size op) (now.regs b)) })
      goes at e is-inside =
          let size = store-sizes op in
          let m1 = number_at low p.machine (Some first.place) in
          let after = with_bytes now.memory at (bytes_of_bits (store_size op) (now.regs b)) in
          let same : inst_items f places now.block inst ≡ plain code =
          ap plain (ap (λ (o : Option Place). store_code op o (place_of places c) n) first.at ∙ ap (λ (o : Option Place). store_code op (Some first.place) o n) second.at) in
          let x = store-done op first.place second.place n at p first.is second.is h.stands.keeps.sp (values_hold.addresses (now.regs c) (number_at low p.machine (Some second.place)) at n second.held e)
          (ap (λ (k : ℕ). in_data m at k) (sym size) ∙ data-inside now.memory at (store_size op) h.stands.room is-inside) (code-here now p inst rest code h ahead same) in
          let bytes : x.point.machine.bytes ≡ store_bytes p.machine.bytes at (store_size op) m1 = x.bytes ∙ ap (λ (k : ℕ). store_bytes p.machine.bytes at k m1) (sym size) in
          let long : length after ≡ length now.memory = with_bytes-length now.memory at (bytes_of_bits (store_size op) (now.regs b)) (ap (is_inside now.memory at) (stored-long (store_size op) (now.regs b)) ∙ is-inside) in
          let refines : RefinesMemory after x.point.machine.bytes =
          subst (RefinesMemory after) (sym bytes) (store-held now.memory p.machine.bytes at (store_size op) m1 (now.regs b) is-inside h.stands.memory' first.held) in
          let below : IsBytes x.point.machine.bytes = subst IsBytes (sym bytes) (store-below p.machine.bytes at (store_size op) m1 h.stands.keeps.bytes) in
          let stands = stands-memory m f places a s words labels can there now p x.point inst rest after ahead refl x.still below long refines h.stands in
          gone m f places a s words labels can there now p x.point inst rest code (length code) 20 now.regs after h ahead same x.run x.pc (let short = store-short' op (Some first.place) (Some second.place) n in omega (arith, short))
          (stands-next m f places a s words labels can there (record now { memory = after }) x.point inst rest ahead refl refl refl refl stands)

      by_inside : (at : ℕ) → address (now.regs c) n ≡ Some at → (i : Bool) → is_inside now.memory at (store_size op) ≡ i
          → Advances m State a s words At (left f) 0 (left f now) 20 p (if i then change f now rest (with_bytes now.memory at (bytes_of_bits (store_size op) (now.regs b))) else Breaks)
      by_inside at e true is = goes at e is
      by_inside at e false is = tt

      by_address : (o : Option ℕ) → address (now.regs c) n ≡ o
          → Advances m State a s words At (left f) 0 (left f now) 20 p (at_address f now rest o (store_size op) (λ at. change f now rest (with_bytes now.memory at (bytes_of_bits (store_size op) (now.regs b)))))
      by_address None e = tt
      by_address (Some at) e = by_inside at e (is_inside now.memory at (store_size op)) refl
