-- The code of an alloca takes fresh bytes behind the data top, or ends the call where there is no room for them.
use Rattle.std.proofs.Common.{◌≡◌, refl, sym, ap, subst, ◌∙◌, ℕ, zero, suc, ◌+◌, ◌-◌, ◌*◌, ◌%◌, ◌^◌, ◌<◌, ◌≤◌, ◌⊎◌, inl, inr, List, [], ◌∷◌, ◌++◌, length, replicate, Some, None, Bool, true, false, cond, arith}
use Rattle.std.specs.Prelude.{◌||◌, not, nat_lt, pos, slice_get, slice_set}
use Rattle.std.proofs.lemmas.Bool.{cases_lt, lt-ltb, le-ltb, ltb-true, ltb-false}
use Rattle.std.proofs.lemmas.List.{length-append, length-replicate}
use Rattle.ir_core.specs.declared.types.MemTy.{MemTy}
use Rattle.ir_core.specs.declared.code.Inst.{Inst}
use Rattle.ir_core.specs.declared.code.Block.{Block}
use Rattle.ir_core.specs.Layout.{size, aligned}
use Rattle.rv_core.specs.declared.reg.Reg.TheVariants.{X0, T0, T1, S11}
use Rattle.rv_core.specs.declared.instr.BranchOp.TheVariants.{Bgeu}
use Rattle.rv_core.specs.declared.instr.ImmOp.TheVariants.{Addi}
use Rattle.rv_core.specs.declared.instr.RegOp.TheVariants.{Add}
use Rattle.rv_core.specs.declared.instr.Instr.{Instr}
use Rattle.rv_core.specs.declared.instr.Instr.TheVariants.{Branch, Imm, Op as RegisterOp, Ecall}
use Rattle.rv_core.specs.Step.{next, write, plus, op_value}
use Rattle.ir_meaning.specs.Value.{Value, Byte}
use Rattle.ir_meaning.specs.Memory.{Memory, top as top_of, data_start}
use Rattle.ir_meaning.specs.Step.{insts_of}
use Rattle.ir_meaning.specs.Plays.{Meaning, Invocation}
use Rattle.rv_play.specs.Machine.{Machine, On, code_base, code_limit, control_base, control_end, data_base}
use Rattle.rv_play.specs.CodePlay.{Place, Point, Overflows, CodeReply, code_run}
use Rattle.rv_play.proofs.Lines.{Stands, stands-apart, Goes, goes-then, one-step, plain-step, moved}
use Rattle.code_pieces.specs.Code.{load_at, store_at, store_value, const_code}
use Rattle.code_pieces.specs.Bytes.{save_code, restore_code, taken_bytes}
use Rattle.quick_code.specs.Data.{is_alloca, insts_take, blocks_take, alloca_code}
use Rattle.code_pieces.proofs.Const.{put, puts-one, const-puts, const-short}
use Rattle.code_pieces.proofs.Slots.{load-short, store-short}
use Rattle.code_pieces.proofs.Frame.{Holds, scratch-t0, scratch-t1, hold-put, hold-store, store-goes}
use Rattle.code_pieces.proofs.Memories.{get-front, get-back, no-byte}

-- so many bytes or as good as so many
taken-is : (bytes : ℕ) → ((bytes < 2 ^ 32) × (taken_bytes bytes ≡ bytes)) ⊎ ((2 ^ 32 ≤ bytes) × (taken_bytes bytes ≡ 2 ^ 32))
taken-is bytes = by_test (nat_lt bytes (2 ^ 32)) refl
  where
    by_test : (b : Bool) → nat_lt bytes (2 ^ 32) ≡ b → ((bytes < 2 ^ 32) × (cond b bytes (2 ^ 32) ≡ bytes)) ⊎ ((2 ^ 32 ≤ bytes) × (cond b bytes (2 ^ 32) ≡ 2 ^ 32))
    by_test true e = inl (ltb-true _ _ e, refl)
    by_test false e = inr (ltb-false _ _ e, refl)

taken-small : (bytes : ℕ) → taken_bytes bytes ≤ 2 ^ 32
taken-small bytes = by_case (taken-is bytes)
  where
    by_case : ((bytes < 2 ^ 32) × (taken_bytes bytes ≡ bytes)) ⊎ ((2 ^ 32 ≤ bytes) × (taken_bytes bytes ≡ 2 ^ 32)) → taken_bytes bytes ≤ 2 ^ 32
    by_case (inl c) = let lt = c.0 in let e = c.1 in omega (arith, lt, e)
    by_case (inr c) = let e = c.1 in omega (arith, e)

-- where there is room
taken-fits : (bytes long end : ℕ) → end ≤ 67108864 → long + bytes ≤ end → taken_bytes bytes ≡ bytes
taken-fits bytes long end small fits = by_case (taken-is bytes)
  where
    by_case : ((bytes < 2 ^ 32) × (taken_bytes bytes ≡ bytes)) ⊎ ((2 ^ 32 ≤ bytes) × (taken_bytes bytes ≡ 2 ^ 32)) → taken_bytes bytes ≡ bytes
    by_case (inl c) = c.1
    by_case (inr c) = absurd (let le = c.0 in let bad : ⊥ = omega (arith, le, small, fits) in bad)

-- where there is none
taken-passes : (bytes long end : ℕ) → end ≤ 67108864 → end < long + bytes → end < long + taken_bytes bytes
taken-passes bytes long end small passes = by_case (taken-is bytes)
  where
    by_case : ((bytes < 2 ^ 32) × (taken_bytes bytes ≡ bytes)) ⊎ ((2 ^ 32 ≤ bytes) × (taken_bytes bytes ≡ 2 ^ 32)) → end < long + taken_bytes bytes
    by_case (inl c) = let e = c.1 in omega (arith, e, passes)
    by_case (inr c) = let e = c.1 in omega (arith, e, small)

-- an alloca among the instructions of a block
insts-take-it : (insts : List Inst) (k : ℕ) (inst : Inst) → is_alloca inst.op ≡ true → slice_get insts k ≡ Some inst → insts_take insts ≡ true
insts-take-it [] k inst is at = absurd (let bad : ⊥ = cc in bad)
insts-take-it (x ∷ xs) zero inst is at =
    let same : x ≡ inst = cc in
    ap (λ (b : Bool). b || insts_take xs) (ap (λ (y : Inst). is_alloca y.op) same ∙ is)
insts-take-it (x ∷ xs) (suc k) inst is at = either (is_alloca x.op) (insts-take-it xs k inst is at)
  where
    either : (b : Bool) → insts_take xs ≡ true → (b || insts_take xs) ≡ true
    either true e = refl
    either false e = e

pub block-takes : (blocks : List Block) (block k : ℕ) (inst : Inst) → is_alloca inst.op ≡ true → slice_get (insts_of (slice_get blocks block)) k ≡ Some inst → blocks_take blocks ≡ true
block-takes [] block k inst is at = absurd (let bad : ⊥ = cc in bad)
block-takes (x ∷ xs) zero k inst is at = ap (λ (b : Bool). b || blocks_take xs) (insts-take-it x.insts k inst is at)
block-takes (x ∷ xs) (suc block) k inst is at = either (insts_take x.insts) (block-takes xs block k inst is at)
  where
    either : (b : Bool) → blocks_take xs ≡ true → (b || blocks_take xs) ≡ true
    either true e = refl
    either false e = e

pub save-short : (takes : Bool) (frame : ℕ) → length (save_code takes frame) ≤ 3
save-short takes frame = by_test takes
  where
    by_test : (b : Bool) → length (cond b (store_at S11 (frame - 104)) []) ≤ 3
    by_test true = store-short S11 (frame - 104)
    by_test false = omega arith

pub restore-short : (takes : Bool) (frame : ℕ) → length (restore_code takes frame) ≤ 3
restore-short takes frame = by_test takes
  where
    by_test : (b : Bool) → length (cond b (load_at S11 (frame - 104)) []) ≤ 3
    by_test true = load-short S11 (frame - 104)
    by_test false = omega arith

pub alloca-short : (room : ℕ) (ty : MemTy) (count number : ℕ) → length (alloca_code room ty count number) ≤ 24
alloca-short room ty count number =
    let c0 = const_code 3 T0 (taken_bytes (aligned (size ty * count) 16)) in
    let c1 = const_code 3 T1 (data_start + room) in
    let c2 = Branch Bgeu T1 T0 (pos 12) ∷ Imm Addi T0 X0 (pos 2) ∷ Ecall ∷ (store_value S11 number ++ Imm Addi S11 T0 (pos 0) ∷ []) in
    let a = length-append c0 (RegisterOp Add T0 S11 T0 ∷ (c1 ++ c2)) in
    let b = length-append c1 c2 in
    let d = length-append (store_value S11 number) (Imm Addi S11 T0 (pos 0) ∷ []) in
    let z = store-short S11 (32 * number) in
    let x = const-short 3 T0 (taken_bytes (aligned (size ty * count) 16)) in
    let y = const-short 3 T1 (data_start + room) in
    omega (arith, a, b, d, x, y, z)

module _ (a : Invocation) (s : Machine) (low frame n : ℕ) (m : Meaning) (functions : m.functions ≤ 1024) (room : m.room ≤ 67108864) (place : Place) (lowb : code_base + 4 ≤ place.base) (highb : place.base + 4 * length place.words ≤ code_limit)
    (bottom : control_base ≤ low) (top : low + frame ≤ control_end) (is-frame : frame ≡ 128 + 32 * n) where
  abbrev Runs : ℕ → Point → Point → Type 0
  Runs = Goes m functions place lowb highb

  abbrev Held : List Value → Memory → Point → Type 0
  Held = Holds a s low frame

  -- ---- the test

  abbrev branched : Point → ℕ → Point
  branched p pc = moved p (record p.machine { regs = record { x = p.machine.regs.x; pc = pc } }) p.counted

  hold-branched : (values : List Value) (here : Memory) (p : Point) (pc : ℕ) → Held values here p → Held values here (branched p pc)
  hold-branched values here p pc h = record { sp = h.sp; slots = h.slots; ra = h.ra; aside = h.aside; saved = h.saved; data_top = h.data_top; kept = h.kept; memory' = h.memory'; counted = h.counted }

  branch-goes : (p : Point) (b : Bool) (pc : ℕ) → nat_lt (p.machine.regs.x 6) (p.machine.regs.x 5) ≡ b → Stands place p.machine.regs.pc (Branch Bgeu T1 T0 (pos 12) ∷ []) → p.machine.regs.pc + 12 ≤ code_limit
      → p.machine.regs.pc + cond (not b) 12 4 ≡ pc → Runs 1 p (branched p pc)
  branch-goes p true pc e st bound to =
      let inside = st.0 in
      let goes : plus p.machine.regs.pc (pos 4) ≡ pc = omega (arith, to, bound) in
      plain-step m functions place lowb highb p (Branch Bgeu T1 T0 (pos 12)) (branched p pc).machine st.2 refl
      (ap (λ (c : Bool). On (record p.machine { regs = record { x = p.machine.regs.x; pc = plus p.machine.regs.pc (cond (not c) (pos 12) (pos 4)) } })) e
      ∙ ap (λ (j : ℕ). On (record p.machine { regs = record { x = p.machine.regs.x; pc = j } })) goes) (omega (arith, inside, to))
  branch-goes p false pc e st bound to =
      let inside = st.0 in
      let goes : plus p.machine.regs.pc (pos 12) ≡ pc = omega (arith, to, bound) in
      plain-step m functions place lowb highb p (Branch Bgeu T1 T0 (pos 12)) (branched p pc).machine st.2 refl
      (ap (λ (c : Bool). On (record p.machine { regs = record { x = p.machine.regs.x; pc = plus p.machine.regs.pc (cond (not c) (pos 12) (pos 4)) } })) e
      ∙ ap (λ (j : ℕ). On (record p.machine { regs = record { x = p.machine.regs.x; pc = j } })) goes) (omega (arith, inside, to))

  -- the new data top stands in t0, and the end of data memory in t1
  record Tested (values : List Value) (here : Memory) (end bytes number : ℕ) (p : Point) : Type 0 where
    count : ℕ
    point : Point
    long : length (const_code 3 T0 (taken_bytes bytes)) + (1 + length (const_code 3 T1 (data_start + end))) ≡ count
    run : Runs count p point
    pc : point.machine.regs.pc ≡ p.machine.regs.pc + 4 * count
    new : point.machine.regs.x 5 ≡ data_base + length here + taken_bytes bytes
    last : point.machine.regs.x 6 ≡ data_base + end
    holds : Held values here point
    code : Stands place point.machine.regs.pc (Branch Bgeu T1 T0 (pos 12) ∷ Imm Addi T0 X0 (pos 2) ∷ Ecall ∷ (store_value S11 number ++ Imm Addi S11 T0 (pos 0) ∷ []))

  tested : (values : List Value) (here : Memory) (end bytes number : ℕ) (p : Point) → end ≤ 67108864 → length here ≤ end → Held values here p
      → Stands place p.machine.regs.pc (const_code 3 T0 (taken_bytes bytes) ++ (RegisterOp Add T0 S11 T0 ∷ (const_code 3 T1 (data_start + end) ++ (Branch Bgeu T1 T0 (pos 12) ∷ Imm Addi T0 X0 (pos 2) ∷ Ecall ∷ (store_value S11 number ++ Imm Addi S11 T0 (pos 0) ∷ [])))))
      → Tested values here end bytes number p
  tested values here end bytes number p small fits h st =
      let k : ℕ = taken_bytes bytes in
      let t : ℕ = data_base + length here + k in
      let c0 = const_code 3 T0 k in
      let c1 = const_code 3 T1 (data_start + end) in
      let c2 = Branch Bgeu T1 T0 (pos 12) ∷ Imm Addi T0 X0 (pos 2) ∷ Ecall ∷ (store_value S11 number ++ Imm Addi S11 T0 (pos 0) ∷ []) in
      let some = taken-small bytes in
      let parts = stands-apart place p.machine.regs.pc c0 (RegisterOp Add T0 S11 T0 ∷ (c1 ++ c2)) st in
      let p1 : Point = put p T0 k (length c0) in
      let run0 : Runs (length c0) p p1 = const-puts m functions place lowb highb p T0 k scratch-t0.0 (omega (arith, some)) parts.0 in
      let h1 = hold-put a s low frame values here p T0 k (length c0) scratch-t0 h in
      let st1 = parts.1 in
      let dt = h.data_top in
      let sum : op_value Add (p.machine.regs.x 27) k ≡ t = omega (arith, dt, some, small, fits) in
      let p2 : Point = put p1 T0 t 1 in
      let run1 : Runs 1 p1 p2 = puts-one m functions place lowb highb p1 T0 t (RegisterOp Add T0 S11 T0) scratch-t0.0 refl (ap (λ (v : ℕ). On (record p1.machine { regs = next (write p1.machine.regs T0 v) })) sum) (st1.0, st1.1, st1.2, tt) in
      let h2 = hold-put a s low frame values here p1 T0 t 1 scratch-t0 h1 in
      let parts2 = stands-apart place p2.machine.regs.pc c1 c2 st1.3 in
      let p3 : Point = put p2 T1 (data_start + end) (length c1) in
      let run2 : Runs (length c1) p2 p3 = const-puts m functions place lowb highb p2 T1 (data_start + end) scratch-t1.0 (omega (arith, small)) parts2.0 in
      record {
        count = length c0 + (1 + length c1);
        point = p3;
        long = refl;
        run = goes-then m functions place lowb highb (length c0) (1 + length c1) p p1 p3 run0 (goes-then m functions place lowb highb 1 (length c1) p1 p2 p3 run1 run2);
        pc = omega arith;
        new = refl;
        last = refl;
        holds = hold-put a s low frame values here p2 T1 (data_start + end) (length c1) scratch-t1 h2;
        code = parts2.1;
      }

  -- ---- there is no room

  pub alloca-stops : (ty : MemTy) (count number end : ℕ) (values : List Value) (here : Memory) (p : Point) → end ≤ 67108864 → length here ≤ end → end < length here + aligned (size ty * count) 16 → Held values here p
      → Stands place p.machine.regs.pc (alloca_code end ty count number)
      → (k : ℕ) × (q : Point) × (k ≤ 24) × (q.counted ≡ a.symbol ∷ []) × ((f : ℕ) (replies : List CodeReply) → code_run m place (k + f) p replies ≡ Overflows q)
  alloca-stops ty count number end values here p small fits passes h st =
      let bytes : ℕ = aligned (size ty * count) 16 in
      let c = tested values here end bytes number p small fits h st in
      let p3 : Point = c.point in
      let new = c.new in let last = c.last in
      let past = taken-passes bytes (length here) end small passes in
      let st3 = c.code in let st4 = st3.3 in let st5 = st4.3 in let st6 = st5.3 in
      let bound = st5.1 in
      let q4 : Point = branched p3 (p3.machine.regs.pc + 4) in
      let q5 : Point = put q4 T0 2 1 in
      let q6 : Point = moved q5 (record q5.machine { regs = next q5.machine.regs }) q5.counted in
      let r4 = branch-goes p3 true (p3.machine.regs.pc + 4) (lt-ltb (p3.machine.regs.x 6) (p3.machine.regs.x 5) (omega (arith, new, last, past))) (st3.0, st3.1, st3.2, tt) (omega (arith, bound)) refl in
      let r5 = puts-one m functions place lowb highb q4 T0 2 (Imm Addi T0 X0 (pos 2)) scratch-t0.0 refl refl (st4.0, st4.1, st4.2, tt) in
      let all = goes-then m functions place lowb highb c.count (1 + 1) p p3 q5 c.run (goes-then m functions place lowb highb 1 1 p3 q4 q5 r4 r5) in
      let long = c.long in
      let x = const-short 3 T0 (taken_bytes bytes) in
      let y = const-short 3 T1 (data_start + end) in (
        c.count + 3,
        q6,
        omega (arith, long, x, y),
        c.holds.counted,
        λ f replies.
            ap (λ (j : ℕ). code_run m place j p replies) (let e : c.count + 3 + f ≡ c.count + (1 + 1) + suc f = omega arith in e)
            ∙ all (suc f) replies
            ∙ one-step m functions place lowb highb q5 Ecall (Overflows q6) st5.2 refl f replies,
      )

  -- ---- there is room

  grown-length : (here : Memory) (bytes : ℕ) → length (here ++ replicate bytes None) ≡ length here + bytes
  grown-length here bytes =
      let fresh : Memory = replicate bytes None in
      let both = length-append here fresh in
      let none : Byte = None in
      let many = length-replicate bytes none in
      omega (arith, both, many)

  -- the data top is raised over fresh bytes
  hold-grown : (values : List Value) (here : Memory) (p : Point) (t bytes : ℕ) → t ≡ data_base + length here + bytes → Held values here p → Held values (here ++ replicate bytes None) (put p S11 t 1)
  hold-grown values here p t bytes is h = record {
    sp = h.sp;
    slots = h.slots;
    ra = h.ra;
    aside = h.aside;
    saved = h.saved;
    data_top = let long = grown-length here bytes in omega (arith, is, long);
    kept = h.kept;
    memory' = λ i b e. by_place i b e (cases_lt i (length here));
    counted = h.counted;
  }
    where
      by_place : (i b : ℕ) → slice_get (here ++ replicate bytes None) i ≡ Some (Some b) → (i < length here) ⊎ (length here ≤ i) → p.machine.bytes (data_base + i) ≡ b
      by_place i b e (inl lt) = h.memory' i b (sym (get-front here (replicate bytes None) i lt) ∙ e)
      by_place i b e (inr le) =
          absurd (no-byte bytes (i - length here) b None refl (sym (get-back here (replicate bytes None) i (i - length here) (let z : i ≡ length here + (i - length here) = omega (arith, le) in z)) ∙ e))

  pub record Grown (code : List Instr) (values : List Value) (after : Memory) (p : Point) : Type 0 where
    pub count : ℕ
    pub some : 1 ≤ count
    pub few : count ≤ 24
    pub point : Point
    pub run : Runs count p point
    pub pc : point.machine.regs.pc ≡ p.machine.regs.pc + 4 * length code
    pub holds : Held values after point

  pub alloca-goes : (ty : MemTy) (count number end : ℕ) (values : List Value) (here : Memory) (p : Point) → end ≤ 67108864 → length here + aligned (size ty * count) 16 ≤ end → number < n → Held values here p
      → Stands place p.machine.regs.pc (alloca_code end ty count number)
      → Grown (alloca_code end ty count number) (slice_set values number (Some (top_of here))) (here ++ replicate (aligned (size ty * count) 16) None) p
  alloca-goes ty count number end values here p small fits inside h st =
      let bytes : ℕ = aligned (size ty * count) 16 in
      let c = tested values here end bytes number p small (omega (arith, fits)) h st in
      let p3 : Point = c.point in
      let new = c.new in let last = c.last in
      let exact = taken-fits bytes (length here) end small fits in
      let st3 = c.code in let st4 = st3.3 in let st5 = st4.3 in let st6 = st5.3 in
      let bound = st5.1 in
      let p4 : Point = branched p3 (p3.machine.regs.pc + 12) in
      let h4 = hold-branched values here p3 (p3.machine.regs.pc + 12) c.holds in
      let r4 = branch-goes p3 false (p3.machine.regs.pc + 12) (le-ltb (p3.machine.regs.x 6) (p3.machine.regs.x 5) (omega (arith, new, last, exact, fits))) (st3.0, st3.1, st3.2, tt) (omega (arith, bound)) refl in
      let at6 : p3.machine.regs.pc + 4 + 4 + 4 ≡ p3.machine.regs.pc + 12 = omega arith in
      let keep : List Instr = store_value S11 number in
      let raise : List Instr = Imm Addi S11 T0 (pos 0) ∷ [] in
      let st6' : Stands place p4.machine.regs.pc (keep ++ raise) = subst (λ (k : ℕ). Stands place k (keep ++ raise)) at6 st6 in
      let parts6 = stands-apart place p4.machine.regs.pc keep raise st6' in
      let old : ℕ = p4.machine.regs.x 27 in
      let dt = h4.data_top in
      let save = store-goes a s low frame m functions room place lowb highb bottom top values here p4 S11 number (λ z. omega (arith, z)) (omega (arith, is-frame, inside)) h4 parts6.0 in
      let p5 : Point = save.point in
      let at5 = save.pc in
      let h5 = hold-store a s low frame values here p4 p5 number old (Some (top_of here)) save.alters (omega (arith, is-frame, inside)) (λ k e. let same : top_of here ≡ k = cc in omega (arith, dt, same)) (λ k e. let same : top_of here ≡ k = cc in omega (arith, same, small, fits)) h4 in
      let st7' = subst (λ (k : ℕ). Stands place k raise) (sym at5) parts6.1 in
      let five : p5.machine.regs.x 5 ≡ p3.machine.regs.x 5 = save.alters.others 5 (λ z. omega (arith, z)) in
      let t : ℕ = p3.machine.regs.x 5 in
      let same : (p5.machine.regs.x 5 + 0 % 2 ^ 64) % 2 ^ 64 ≡ p3.machine.regs.x 5 = omega (arith, five, new, exact, small, fits) in
      let p6 : Point = put p5 S11 t 1 in
      let r6 = puts-one m functions place lowb highb p5 S11 t (Imm Addi S11 T0 (pos 0)) (λ bad. cc) refl (ap (λ (v : ℕ). On (record p5.machine { regs = next (write p5.machine.regs S11 v) })) same) st7' in
      let c0 = const_code 3 T0 (taken_bytes bytes) in
      let c1 = const_code 3 T1 (data_start + end) in
      let c2 = Branch Bgeu T1 T0 (pos 12) ∷ Imm Addi T0 X0 (pos 2) ∷ Ecall ∷ (store_value S11 number ++ Imm Addi S11 T0 (pos 0) ∷ []) in
      let l0 = length-append c0 (RegisterOp Add T0 S11 T0 ∷ (c1 ++ c2)) in
      let l1 = length-append c1 c2 in
      let l2 = length-append keep raise in
      let short = store-short S11 (32 * number) in
      let long = c.long in
      let pc3 = c.pc in
      let x = const-short 3 T0 (taken_bytes bytes) in
      let y = const-short 3 T1 (data_start + end) in
      record {
        count = c.count + (1 + (length keep + 1));
        some = omega arith;
        few = omega (arith, long, x, y, short);
        point = p6;
        run = goes-then m functions place lowb highb c.count (1 + (length keep + 1)) p p3 p6 c.run (goes-then m functions place lowb highb 1 (length keep + 1) p3 p4 p6 r4 (goes-then m functions place lowb highb (length keep) 1 p4 p5 p6 save.run r6));
        pc = omega (arith, pc3, long, at5, l0, l1, l2);
        holds = hold-grown (slice_set values number (Some (top_of here))) here p5 t bytes (omega (arith, new, exact)) h5;
      }
