-- The code of instructions that write one register does what their steps do, within their weight.
use Rattle.std.proofs.Common.{◌≡◌, ◌≢◌, refl, sym, ap, subst, ◌∙◌, ℕ, zero, suc, ◌+◌, ◌-◌, ◌*◌, ◌%◌, ◌^◌, ◌<◌, ◌≤◌, ◌⊎◌, inl, inr, Bool, true, false, List, [], ◌∷◌, ◌++◌, length, Option, Some, None, arith, append_assoc}
use Rattle.std.specs.Prelude.{ℤ, drop, slice_index_or, nat_lt, if◌then◌else◌}
use Rattle.std.specs.List.{Contains}
use Rattle.rv_core.specs.Reg.{number_of}
use Rattle.rv_core.specs.declared.instr.ImmOp.{ImmOp}
use Rattle.rv_core.specs.declared.instr.RegOp.{RegOp}
use Rattle.rv_core.specs.declared.instr.Instr.{Instr}
use Rattle.rv_core.specs.Step.{read, op_value, register_form, modulo}
use Rattle.ir_meaning.specs.Plays.{Meaning, Invocation}
use Rattle.rv_play.specs.Machine.{Machine, code_base, code_limit, control_base, control_end}
use Rattle.rv_play.specs.CodePlay.{Place as Words, Point}
use Rattle.rv_play.proofs.Lines.{Stands as Stand}
use Rattle.rv_play.proofs.Fits.{op_value_below, modulo_below}
use Rattle.walks.specs.Walk.{Bits, Does, Goes, Step}
use Rattle.walks.specs.Bits.{free, cut, constant}
use Rattle.walks.specs.Registers.{write}
use Rattle.walks.specs.Face.{frame_of}
use Rattle.mir.specs.declared.code.MInst.{MInst}
use Rattle.mir.specs.declared.code.MInst.TheVariants.{Param, Op, Imm, Const, Move}
use Rattle.mir.specs.declared.code.MFunction.{MFunction}
use Rattle.mir.specs.declared.places.Intervals.{Intervals}
use Rattle.mir.specs.declared.places.Place.{Place}
use Rattle.mir.specs.declared.places.Places.{Places}
use Rattle.mir.specs.Code.{reads, writes, ends_block, inst_at, block_of}
use Rattle.mir.specs.Live.{ReadFrom, reads_here, Covers}
use Rattle.mir.specs.Places.{place_of, IsPlace, Fits}
use Rattle.mir_play.specs.Values.{value, immediate_value, divisor, MayDivide}
use Rattle.mir_play.specs.Play.{State, by_inst, step_at, step, divided, give}
use Rattle.mir_play.specs.Machine.{IsHeld}
use Rattle.mir_play.proofs.Holding.{values_hold}
use Rattle.walks.specs.Refines.{RefinesBits}
use Rattle.code_pieces.specs.Code.{argument_reg}
use Rattle.code_pieces.proofs.Const.{read-is}
use Rattle.code_pieces.proofs.Frame.{argument-number}
use Rattle.good_code.proofs.BySteps.{Advances, Onward}
use Rattle.code_pieces.specs.Items.{Item, plain}
use Rattle.code_pieces.specs.Labels.{StandsAs}
use Rattle.code_pieces.proofs.Labelled.{plain-apart}
use Rattle.frame_code.specs.Frame.{slots_of}
use Rattle.frame_code.specs.Code.{taken_by, inst_items, insts_items, blocks_items, store_place, op_code, imm_code, number_code, move_code}
use Rattle.frame_code.specs.Stands.{number_at, Stands, Here, left}
use Rattle.frame_code.proofs.Operands.{Wrote, Writes, op-done, imm-done, const-done, move-done, place-stored}
use Rattle.frame_code.proofs.Placed.{dropped, first-item, second-item, live-placed, written-placed, IsPlaced}
use Rattle.frame_code.proofs.Known.{cut-held, constant-held}
use Rattle.frame_code.proofs.Standing.{stands-write}
use Rattle.frame_code.proofs.Short.{op-short, imm-short, number-short, move-short, store-place-short}

module _ (m : Meaning) (functions : m.functions ≤ 1024) (room : m.room ≤ 67108864) (f : MFunction) (places : Places) (intervals : Intervals) (covers : Covers f intervals) (fits : Fits intervals (slots_of f.values) places)
    (a : Invocation) (s : Machine) (wide : control_base + frame_of f.values ≤ a.sp) (high : a.sp ≤ control_end) (words : Words) (lowb : code_base + 4 ≤ words.base) (highb : words.base + 4 * length words.words ≤ code_limit)
    (labels : ℕ → ℕ) where
  abbrev fr : ℕ
  fr = frame_of f.values

  abbrev slots : ℕ
  slots = slots_of f.values

  abbrev low : ℕ
  low = a.sp - fr

  pub bottom : control_base ≤ low
  bottom = let h = wide in omega (arith, h)

  pub top : low + fr ≤ control_end
  top = let h = wide in let k = high in omega (arith, h, k)

  pub inside : 8 * slots ≤ fr
  inside = omega arith

  abbrev At : State → Point → Type 0
  At = Here m f places a s words labels

  abbrev Done : List Instr → Place → ℕ → Point → Type 0
  Done = Wrote m functions room words lowb highb low fr slots bottom top inside

  abbrev Does_it : ℕ → Point → State → Step State → Type 0
  Does_it top p now st = Advances m State a s words At (left f) 0 top st.weight p st.does

  -- ---- the instruction at a state

  -- its code stands at the program counter, and what comes next behind it
  pub code-there : (now : State) (p : Point) (inst : MInst) (rest : List MInst) (code : List Instr) → At now p → now.rest ≡ inst ∷ rest → inst_items f places now.block inst ≡ plain code
      → Stand words p.machine.regs.pc code
      × StandsAs m words labels (p.machine.regs.pc + 4 * length code) (insts_items f places now.block rest ++ blocks_items f places (now.block + 1) (drop (now.block + 1) f.blocks))
  code-there now p inst rest code h ahead same =
      let behind = blocks_items f places (now.block + 1) (drop (now.block + 1) f.blocks) in
      let more = insts_items f places now.block rest in
      let items : insts_items f places now.block now.rest ++ behind ≡ plain code ++ (more ++ behind) =
      ap (λ (insts : List MInst). insts_items f places now.block insts ++ behind) ahead ∙ append_assoc (inst_items f places now.block inst) more behind ∙ ap (λ (xs : List Item). xs ++ (more ++ behind)) same in
      plain-apart m words labels p.machine.regs.pc code (more ++ behind) (subst (StandsAs m words labels p.machine.regs.pc) items h.code)

  pub inst-there : (now : State) (p : Point) (inst : MInst) (rest : List MInst) (h : At now p) → now.rest ≡ inst ∷ rest → inst_at f now.block h.stands.place ≡ Some inst
  inst-there now p inst rest h ahead = (dropped (block_of f now.block) h.stands.place inst rest (h.stands.rests ∙ ahead)).0

  -- what an operand stands for
  pub record Operand (now : State) (p : Point) (r : ℕ) : Type 0 where
    pub place : Place
    pub at : place_of places r ≡ Some place
    pub is : IsPlace slots place
    pub held : IsHeld (now.regs r) (number_at low p.machine (Some place))

  pub operand : (now : State) (p : Point) (inst : MInst) (rest : List MInst) (r : ℕ) → At now p → now.rest ≡ inst ∷ rest → Contains (reads inst) r → Operand now p r
  operand now p inst rest r h ahead in' =
      let live = reads_here inst (inst-there now p inst rest h ahead) in' in
      let x = live-placed f places intervals covers fits r now.block h.stands.place live in
      record { place = x.0; at = x.1; is = x.2; held = subst (λ (o : Option Place). IsHeld (now.regs r) (number_at low p.machine o)) x.1 (h.stands.held r live) }

  pub result : (now : State) (p : Point) (inst : MInst) (rest : List MInst) (d : ℕ) → At now p → now.rest ≡ inst ∷ rest → Contains (writes inst) d → IsPlaced f places intervals covers fits d
  result now p inst rest d h ahead in' = written-placed f places intervals covers fits d now.block h.stands.place inst (inst-there now p inst rest h ahead) in'

  -- where the code has written the register's place, the machine stands for the state behind the instruction
  pub onward : (now : State) (p : Point) (inst : MInst) (rest : List MInst) (code : List Instr) (d v weight : ℕ) (to : Place) (value : Bits) → At now p → now.rest ≡ inst ∷ rest
      → inst_items f places now.block inst ≡ plain code → ends_block inst ≡ false → writes inst ≡ d ∷ [] → taken_by inst ≡ 0 → place_of places d ≡ Some to → IsPlace slots to → IsHeld value v
      → length code ≤ weight → (Stand words p.machine.regs.pc code → Done code to v p)
      → Onward m State a s words At (left f) 0 (left f now) weight p (record now { rest = rest; regs = write now.regs d value })
  onward now p inst rest code d v weight to value h ahead same ends one none e-d is holds few done =
      let st = code-there now p inst rest code h ahead same in
      let x = done st.0 in
      let even = h.even in
      let pc = x.on.pc in
      let long : length now.rest ≡ suc (length rest) = ap (λ (insts : List MInst). length insts) ahead in
      record {
        count = length code;
        point = x.point;
        moves = inr (omega (arith, long));
        few = omega (arith, few);
        run = x.on.run;
        at = record {
          stands = stands-write m f places intervals covers fits a s wide now p x.point inst rest d v to value ahead ends one none e-d is holds x.writes h.stands;
          even = omega (arith, even, pc);
          code = subst (λ (pc : ℕ). StandsAs m words labels pc (insts_items f places now.block rest ++ blocks_items f places (now.block + 1) (drop (now.block + 1) f.blocks))) (sym x.on.pc) st.1;
        };
      }

  pub by-inst : (now : State) (p : Point) (inst : MInst) (rest : List MInst) → now.rest ≡ inst ∷ rest → Does_it (left f now) p now (by_inst f now rest inst) → Does_it (left f now) p now (step f now)
  by-inst now p inst rest ahead h = subst (Does_it (left f now) p now) (sym (ap (step_at f now) ahead)) h

  -- ---- an operation

  pub op-step : (now : State) (p : Point) (op : RegOp) (d b c : ℕ) (rest : List MInst) → At now p → now.rest ≡ Op op d b c ∷ rest → Does_it (left f now) p now (step f now)
  op-step now p op d b c rest h ahead = by-inst now p (Op op d b c) rest ahead (by_divisor (divisor op (now.regs c)) refl)
    where
      inst : MInst
      inst = Op op d b c

      first : Operand now p b
      first = operand now p inst rest b h ahead (first-item b (c ∷ []))

      second : Operand now p c
      second = operand now p inst rest c h ahead (second-item b c [])

      to : IsPlaced f places intervals covers fits d
      to = result now p inst rest d h ahead (first-item d [])

      m1 : ℕ
      m1 = number_at low p.machine (Some first.place)

      m2 : ℕ
      m2 = number_at low p.machine (Some second.place)

      code : List Instr
      code = op_code op (Some to.0) (Some first.place) (Some second.place)

      same : op_code op (place_of places d) (place_of places b) (place_of places c) ≡ code
      same =
          ap (λ (o : Option Place). op_code op o (place_of places b) (place_of places c)) to.1
          ∙ ap (λ (o : Option Place). op_code op (Some to.0) o (place_of places c)) first.at
          ∙ ap (λ (o : Option Place). op_code op (Some to.0) (Some first.place) o) second.at

      goes : MayDivide (divisor op (now.regs c)) → Onward m State a s words At (left f) 0 (left f now) 20 p (record now { rest = rest; regs = write now.regs d (value op (now.regs b) (now.regs c)) })
      goes may =
          onward now p inst rest code d (op_value op m1 m2) 20 to.0 (value op (now.regs b) (now.regs c)) h ahead (ap plain same) refl refl refl to.1 to.2
          (record { low = op_value_below op m1 m2 first.held.low second.held.low; bits = values_hold.operations op (now.regs b) (now.regs c) m1 m2 first.held second.held may })
          (let short = op-short op (Some to.0) (Some first.place) (Some second.place) in omega (arith, short))
          (op-done m functions room words lowb highb low fr slots bottom top inside op to.0 first.place second.place p to.2 first.is second.is h.stands.keeps.sp first.held.low second.held.low)

      by_divisor : (o : Option (Option ℕ)) → divisor op (now.regs c) ≡ o
          → Advances m State a s words At (left f) 0 (left f now) 20 p (divided f now rest o (give f now rest d (value op (now.regs b) (now.regs c))))
      by_divisor None e = goes (subst MayDivide (sym e) tt)
      by_divisor (Some None) e = tt
      by_divisor (Some (Some zero)) e = tt
      by_divisor (Some (Some (suc n))) e = goes (subst MayDivide (sym e) (λ z. let bad : ⊥ = omega (arith, z) in bad))

  pub imm-step : (now : State) (p : Point) (op : ImmOp) (d b : ℕ) (n : ℤ) (rest : List MInst) → At now p → now.rest ≡ Imm op d b n ∷ rest → Does_it (left f now) p now (step f now)
  imm-step now p op d b n rest h ahead =
      let inst = Imm op d b n in
      let first = operand now p inst rest b h ahead (first-item b []) in
      let to = result now p inst rest d h ahead (first-item d []) in
      let m1 = number_at low p.machine (Some first.place) in
      let same : imm_code op (place_of places d) (place_of places b) n ≡ imm_code op (Some to.0) (Some first.place) n =
      ap (λ (o : Option Place). imm_code op o (place_of places b) n) to.1 ∙ ap (λ (o : Option Place). imm_code op (Some to.0) o n) first.at in
      by-inst now p inst rest ahead
      (onward now p inst rest (imm_code op (Some to.0) (Some first.place) n) d (op_value (register_form op) m1 (modulo n)) 12 to.0 (immediate_value op (now.regs b) n) h ahead (ap plain same) refl refl refl to.1 to.2
      (record { low = op_value_below (register_form op) m1 (modulo n) first.held.low (modulo_below n); bits = values_hold.immediates op (now.regs b) m1 n first.held })
      (let short = imm-short op (Some to.0) (Some first.place) n in omega (arith, short))
      (imm-done m functions room words lowb highb low fr slots bottom top inside op to.0 first.place n p to.2 first.is h.stands.keeps.sp first.held.low))

  pub const-step : (now : State) (p : Point) (d n : ℕ) (rest : List MInst) → At now p → now.rest ≡ Const d n ∷ rest → Does_it (left f now) p now (step f now)
  const-step now p d n rest h ahead =
      let inst = Const d n in
      let to = result now p inst rest d h ahead (first-item d []) in
      by-inst now p inst rest ahead
      (onward now p inst rest (number_code (Some to.0) n) d (n % 2 ^ 64) 12 to.0 (constant 64 n) h ahead (ap plain (ap (λ (o : Option Place). number_code o n) to.1)) refl refl refl to.1 to.2
      (constant-held n)
      (let short = number-short (Some to.0) n in omega (arith, short))
      (const-done m functions room words lowb highb low fr slots bottom top inside to.0 n p to.2 h.stands.keeps.sp))

  pub move-step : (now : State) (p : Point) (d b : ℕ) (rest : List MInst) → At now p → now.rest ≡ Move d b ∷ rest → Does_it (left f now) p now (step f now)
  move-step now p d b rest h ahead =
      let inst = Move d b in
      let first = operand now p inst rest b h ahead (first-item b []) in
      let to = result now p inst rest d h ahead (first-item d []) in
      let m1 = number_at low p.machine (Some first.place) in
      let same : move_code (place_of places d) (place_of places b) ≡ move_code (Some to.0) (Some first.place) =
      ap (λ (o : Option Place). move_code o (place_of places b)) to.1 ∙ ap (λ (o : Option Place). move_code (Some to.0) o) first.at in
      by-inst now p inst rest ahead
      (onward now p inst rest (move_code (Some to.0) (Some first.place)) d m1 12 to.0 (now.regs b) h ahead (ap plain same) refl refl refl to.1 to.2 first.held
      (let short = move-short (Some to.0) (Some first.place) in omega (arith, short))
      (move-done m functions room words lowb highb low fr slots bottom top inside to.0 first.place p to.2 first.is h.stands.keeps.sp first.held.low))

  -- a parameter comes from the register of its argument
  pub param-step : (now : State) (p : Point) (d n : ℕ) (rest : List MInst) → n < 8 → At now p → now.rest ≡ Param d n ∷ rest → Does_it (left f now) p now (step f now)
  param-step now p d n rest lt h ahead =
      let inst = Param d n in
      let to = result now p inst rest d h ahead (first-item d []) in
      let v = p.machine.regs.x (10 + n) in
      let held = h.stands.arguments d n lt (subst (λ (insts : List MInst). Contains insts inst) (sym ahead) (0, omega arith, refl)) in
      let number = argument-number n lt in
      let value-is : read p.machine.regs (argument_reg n) ≡ v =
      read-is p.machine.regs (argument_reg n) (λ z. let bad : ⊥ = omega (arith, z, number) in bad) ∙ ap p.machine.regs.x number in
      by-inst now p inst rest ahead
      (onward now p inst rest (store_place (argument_reg n) (Some to.0)) d v 12 to.0 (cut 64 (slice_index_or now.args n free)) h ahead
      (ap plain (ap (λ (o : Option Place). store_place (argument_reg n) o) to.1)) refl refl refl to.1 to.2 (cut-held (slice_index_or now.args n free) v held)
      (let short = store-place-short (argument_reg n) (Some to.0) in omega (arith, short))
      (λ st. (place-stored m functions room words lowb highb low fr slots bottom top inside (argument_reg n) to.0 v p (λ z. let bad : ⊥ = omega (arith, z, number, lt) in bad) to.2 h.stands.keeps.sp value-is held.low st).wrote))
