-- The code of jumps and branches leads to the blocks where their steps do, within their weight.
use Rattle.std.proofs.Common.{◌≡◌, ◌≢◌, refl, sym, ap, subst, ◌∙◌, ℕ, zero, suc, ◌+◌, ◌-◌, ◌*◌, ◌%◌, ◌^◌, ◌<◌, ◌≤◌, ◌⊎◌, inl, inr, Bool, true, false, cond, List, [], ◌∷◌, ◌++◌, length, Option, Some, None, arith, append_assoc, ap₂}
use Rattle.std.specs.Prelude.{◌==◌, drop, sum_by, slice_index_or, if◌then◌else◌}
use Rattle.std.specs.List.{Contains}
use Rattle.std.proofs.lemmas.List.{drop_all, length-append}
use Rattle.rv_core.specs.declared.instr.Instr.{Instr}
use Rattle.std.proofs.lemmas.List.Sums.{sum_by-cons}
use Rattle.rv_core.specs.declared.reg.Reg.TheVariants.{Sp, T0, T1}
use Rattle.rv_core.specs.declared.instr.BranchOp.{BranchOp}
use Rattle.rv_core.specs.Step.{read, is_taken}
use Rattle.ir_meaning.specs.Plays.{Meaning, Invocation}
use Rattle.rv_play.specs.Machine.{Machine, code_base, code_limit, control_base, control_end}
use Rattle.rv_play.specs.CodePlay.{Place as Words, Point}
use Rattle.rv_play.proofs.Lines.{Goes as Run, goes-then, goes-none}
use Rattle.walks.specs.Walk.{Step}
use Rattle.walks.specs.Face.{frame_of}
use Rattle.mir.specs.declared.code.MInst.{MInst}
use Rattle.mir.specs.declared.code.MInst.TheVariants.{Branch, Jump}
use Rattle.mir.specs.declared.code.MFunction.{MFunction}
use Rattle.mir.specs.declared.places.Intervals.{Intervals}
use Rattle.mir.specs.declared.places.Place.{Place}
use Rattle.mir.specs.declared.places.Places.{Places}
use Rattle.mir.specs.Code.{targets, writes, ends_block, inst_at, block_of}
use Rattle.mir.specs.Live.{Covers}
use Rattle.mir.specs.Places.{place_of, Fits}
use Rattle.mir.specs.WellFormed.{IsWellFormed, HasNoPhi}
use Rattle.mir_play.specs.Values.{taken as branch_taken}
use Rattle.mir_play.specs.Play.{State, weight, phi_weights, behind_phis, jumped, take_edge, branch, by_inst, step}
use Rattle.mir_play.proofs.Holding.{values_hold}
use Rattle.good_code.proofs.BySteps.{Advances, Onward}
use Rattle.code_pieces.specs.Items.{Item, Plain, Bind, Goto, Test, plain}
use Rattle.code_pieces.specs.Labels.{Hops, StandsAs}
use Rattle.code_pieces.proofs.Const.{eq-true}
use Rattle.code_pieces.proofs.Labelled.{plain-apart}
use Rattle.frame_code.specs.Frame.{slots_of}
use Rattle.frame_code.specs.Code.{held_in, fetch, taken_in, goto_items, inst_items, insts_items, blocks_items}
use Rattle.frame_code.specs.Stands.{number_at, Stands, Here, left}
use Rattle.frame_code.proofs.Short.{fetch-short}
use Rattle.frame_code.proofs.Operands.{Quiet, quiet-none, quiet-then, ready}
use Rattle.frame_code.proofs.Placed.{dropped, first-item, second-item}
use Rattle.frame_code.proofs.Steps.{Operand, bottom, top, inside, operand, by-inst}
use Rattle.frame_code.proofs.Jumps.{behind-none, stands-edge}

-- a list from a place on, where there is one
pub dropped-some : (blocks : List (List MInst)) (k : ℕ) → k < length blocks → drop k blocks ≡ slice_index_or blocks k [] ∷ drop (k + 1) blocks
dropped-some [] k lt = absurd (let bad : ⊥ = omega (arith, lt) in bad)
dropped-some (b ∷ bs) zero lt = refl
dropped-some (b ∷ bs) (suc k) lt =
    let one : suc (k + 1) ≡ suc k + 1 = omega arith in
    dropped-some bs k (omega (arith, lt)) ∙ ap (λ (n : ℕ). slice_index_or bs k [] ∷ drop n (b ∷ bs)) one

module _ (m : Meaning) (functions : m.functions ≤ 1024) (room : m.room ≤ 67108864) (f : MFunction) (well : IsWellFormed f) (no-phi : HasNoPhi f) (places : Places) (intervals : Intervals) (covers : Covers f intervals)
    (fits : Fits intervals (slots_of f.values) places) (a : Invocation) (s : Machine) (wide : control_base + frame_of f.values ≤ a.sp) (high : a.sp ≤ control_end) (words : Words) (lowb : code_base + 4 ≤ words.base)
    (highb : words.base + 4 * length words.words ≤ code_limit) (entering : words.sp ≡ a.sp) (labels : ℕ → ℕ) (aligned : (label : ℕ) → labels label % 4 ≡ 0)
    (placed : (t : ℕ) → t < length f.blocks → StandsAs m words labels (labels t) (insts_items f places t (block_of f t) ++ blocks_items f places (t + 1) (drop (t + 1) f.blocks))) where
  abbrev fr : ℕ
  fr = frame_of f.values

  abbrev slots : ℕ
  slots = slots_of f.values

  abbrev low : ℕ
  low = a.sp - fr

  abbrev At : State → Point → Type 0
  At = Here m f places a s words labels

  abbrev Runs : ℕ → Point → Point → Type 0
  Runs = Run m functions words lowb highb

  abbrev Does_it : ℕ → Point → State → Step State → Type 0
  Does_it top p now st = Advances m State a s words At (left f) 0 top st.weight p st.does

  -- the blocks behind one
  abbrev later : ℕ → List Item
  later block = blocks_items f places (block + 1) (drop (block + 1) f.blocks)

  -- sp isn't what it was at the entry
  inside-frame : (p : Point) → p.machine.regs.x 2 ≡ low → read p.machine.regs Sp ≢ words.sp
  inside-frame p sp = λ same. let w = wide in let e = entering in let bad : ⊥ = omega (arith, same, sp, w, e) in bad

  -- some words lead to the label of a block; none where it comes next
  pub record Led (most block t : ℕ) (p : Point) : Type 0 where
    pub count : ℕ
    pub point : Point
    pub some : (1 ≤ count) ⊎ (t ≡ block + 1)
    pub few : count ≤ most
    pub run : Runs count p point
    pub there : point.machine.regs.pc ≡ labels t
    pub quiet : Quiet p point

  hops-quiet : (least to : ℕ) (p : Point) → (h : Hops m words least p to) → Quiet p h.point
  hops-quiet least to p h = record { others = λ j a b c. h.others j c; control = h.control; bytes = h.bytes; counted = h.counted }

  pub led-by : (block t : ℕ) (p : Point) → t < length f.blocks → p.machine.regs.x 2 ≡ low → StandsAs m words labels p.machine.regs.pc (goto_items f places block t ++ later block) → Led 3 block t p
  led-by block t p exists sp st = by_test (t == block + 1) refl st
    where
      by_test : (b : Bool) → (t == block + 1) ≡ b → StandsAs m words labels p.machine.regs.pc (cond b [] (Goto t ∷ []) ++ later block) → Led 3 block t p
      by_test true e st =
          let next : t ≡ block + 1 = eq-true t (block + 1) e in
          let lt : block + 1 < length f.blocks = omega (arith, exists, next) in
          let bound = subst (λ (blocks : List (List MInst)). StandsAs m words labels p.machine.regs.pc (blocks_items f places (block + 1) blocks)) (dropped-some f.blocks (block + 1) lt) st in
          record { count = 0; point = p; some = inr next; few = omega arith; run = goes-none m functions words lowb highb p; there = sym (ap labels next ∙ bound.0); quiet = quiet-none p }
      by_test false e st =
          let h = st.1 p refl (inside-frame p sp) in
          let some = h.some in
          record { count = h.count; point = h.point; some = inl some; few = h.few; run = h.run; there = h.there; quiet = hops-quiet 1 (labels t) p h }

  -- where the words have led to a block, the machine stands for the state behind the edge
  pub edge-onward : (now : State) (p : Point) (inst : MInst) (rest : List MInst) (t most weight : ℕ) → At now p → now.rest ≡ inst ∷ rest → Contains (targets inst) t → writes inst ≡ [] → taken_in now.rest ≡ 0
      → t < length f.blocks → Led most now.block t p → most ≤ weight → Onward m State a s words At (left f) 0 (left f now) weight p (jumped f now t)
  edge-onward now p inst rest t most weight h ahead goes none took exists x le =
      let few = x.few in
      record {
        count = x.count;
        point = x.point;
        moves = moved x.some;
        few = omega (arith, few, le);
        run = x.run;
        at = record {
          stands = stands-edge m f well no-phi places intervals covers fits a s wide now p x.point inst rest t ahead goes none took x.quiet h.stands;
          even = subst (λ (pc : ℕ). pc % 4 ≡ 0) (sym x.there) (aligned t);
          code = subst (λ (pc : ℕ). StandsAs m words labels pc (insts_items f places t (behind_phis (block_of f t)) ++ later t)) (sym x.there)
              (subst (λ (insts : List MInst). StandsAs m words labels (labels t) (insts_items f places t insts ++ later t)) (sym heads) (placed t exists));
        };
      }
    where
      heads : behind_phis (block_of f t) ≡ block_of f t
      heads = behind-none (block_of f t) (λ place i e. no-phi t place i e)

      moved : (1 ≤ x.count) ⊎ (t ≡ now.block + 1) → (1 ≤ x.count) ⊎ (left f (jumped f now t) < left f now)
      moved (inl some) = inl some
      moved (inr next) =
          let lt : now.block + 1 < length f.blocks = omega (arith, exists, next) in
          let long : length now.rest ≡ suc (length rest) = ap (λ (insts : List MInst). length insts) ahead in
          let short : length (behind_phis (block_of f t)) ≡ length (block_of f t) = ap (λ (insts : List MInst). length insts) heads in
          let blocks : sum_by (λ (insts : List MInst). length insts) (drop (now.block + 1) f.blocks) ≡ length (block_of f (now.block + 1)) + sum_by (λ (insts : List MInst). length insts) (drop (now.block + 1 + 1) f.blocks) =
          ap (sum_by (λ (insts : List MInst). length insts)) (dropped-some f.blocks (now.block + 1) lt) ∙ sum_by-cons (λ (insts : List MInst). length insts) (block_of f (now.block + 1)) (drop (now.block + 1 + 1) f.blocks) in
          let same : length (block_of f t) ≡ length (block_of f (now.block + 1)) = ap (λ (b : ℕ). length (block_of f b)) next in
          let behind : sum_by (λ (insts : List MInst). length insts) (drop (t + 1) f.blocks) ≡ sum_by (λ (insts : List MInst). length insts) (drop (now.block + 1 + 1) f.blocks) =
          ap (λ (b : ℕ). sum_by (λ (insts : List MInst). length insts) (drop (b + 1) f.blocks)) next in
          inr (omega (arith, long, short, blocks, same, behind))

  -- nothing stands behind the last instruction of a block
  pub last-one : (now : State) (p : Point) (inst : MInst) (rest : List MInst) → At now p → now.rest ≡ inst ∷ rest → ends_block inst ≡ true → rest ≡ []
  last-one now p inst rest h ahead ends =
      let d = dropped (block_of f now.block) h.stands.place inst rest (h.stands.rests ∙ ahead) in
      let long : h.stands.place + 1 ≡ length (block_of f now.block) = (well.placed now.block h.stands.place inst d.0).ends.0 ends in
      sym d.1 ∙ drop_all (h.stands.place + 1) (block_of f now.block) (omega (arith, long))

  pub target-exists : (now : State) (p : Point) (inst : MInst) (rest : List MInst) (t : ℕ) → At now p → now.rest ≡ inst ∷ rest → Contains (targets inst) t → t < length f.blocks
  target-exists now p inst rest t h ahead goes =
      let d = dropped (block_of f now.block) h.stands.place inst rest (h.stands.rests ∙ ahead) in
      ((well.placed now.block h.stands.place inst d.0).targets_exist t goes).1

  -- the code of the last instruction, and the later blocks behind it
  pub last-code : (now : State) (p : Point) (inst : MInst) (rest : List MInst) → At now p → now.rest ≡ inst ∷ rest → rest ≡ [] → StandsAs m words labels p.machine.regs.pc (inst_items f places now.block inst ++ later now.block)
  last-code now p inst rest h ahead none =
      let all : insts_items f places now.block now.rest ++ later now.block ≡ inst_items f places now.block inst ++ later now.block =
      ap (λ (insts : List MInst). insts_items f places now.block insts ++ later now.block) (ahead ∙ ap (λ (insts : List MInst). inst ∷ insts) none) ∙ append_assoc (inst_items f places now.block inst) [] (later now.block) in
      subst (StandsAs m words labels p.machine.regs.pc) all h.code

  pub jump-step : (now : State) (p : Point) (t : ℕ) (rest : List MInst) → At now p → now.rest ≡ Jump t ∷ rest → Does_it (left f now) p now (step f now)
  jump-step now p t rest h ahead =
      let inst = Jump t in
      let none = last-one now p inst rest h ahead refl in
      let exists = target-exists now p inst rest t h ahead (first-item t []) in
      let x = led-by now.block t p exists h.stands.keeps.sp (last-code now p inst rest h ahead none) in
      by-inst m functions room f places intervals covers fits a s wide high words lowb highb labels now p inst rest ahead
      (edge-onward now p inst rest t 3 (4 + phi_weights (block_of f t)) h ahead (first-item t []) refl (ap taken_in (ahead ∙ ap (λ (insts : List MInst). inst ∷ insts) none)) exists x (omega arith))

  -- ---- a branch

  module _ (now : State) (p : Point) (op : BranchOp) (b c t e : ℕ) (rest : List MInst) (h : At now p) (ahead : now.rest ≡ Branch op b c t e ∷ rest) where
    abbrev inst : MInst
    inst = Branch op b c t e

    none : rest ≡ []
    none = last-one now p inst rest h ahead refl

    first : Operand m functions room f places intervals covers fits a s wide high words lowb highb labels now p b
    first = operand m functions room f places intervals covers fits a s wide high words lowb highb labels now p inst rest b h ahead (first-item b (c ∷ []))

    second : Operand m functions room f places intervals covers fits a s wide high words lowb highb labels now p c
    second = operand m functions room f places intervals covers fits a s wide high words lowb highb labels now p inst rest c h ahead (second-item b c [])

    abbrev m1 : ℕ
    m1 = number_at low p.machine (Some first.place)

    abbrev m2 : ℕ
    m2 = number_at low p.machine (Some second.place)

    abbrev code : List Instr
    code = fetch T0 (Some first.place) ++ fetch T1 (Some second.place)

    abbrev behind : List Item
    behind = Test op (held_in T0 (Some first.place)) (held_in T1 (Some second.place)) t ∷ (goto_items f places now.block e ++ later now.block)

    stands-in-parts : StandsAs m words labels p.machine.regs.pc (plain code ++ behind)
    stands-in-parts =
        let whole : Option Place → Option Place → List Item = λ x y. plain (fetch T0 x ++ fetch T1 y) ++ (Test op (held_in T0 x) (held_in T1 y) t ∷ goto_items f places now.block e) in
        let same : inst_items f places now.block inst ≡ whole (Some first.place) (Some second.place) =
        ap (λ (x : Option Place). whole x (place_of places c)) first.at ∙ ap (whole (Some first.place)) second.at in
        subst (StandsAs m words labels p.machine.regs.pc)
        (ap (λ (items : List Item). items ++ later now.block) same ∙ append_assoc (plain code) (Test op (held_in T0 (Some first.place)) (held_in T1 (Some second.place)) t ∷ goto_items f places now.block e) (later now.block))
        (last-code now p inst rest h ahead none)

    -- the operands are read, and the test leads on
    record Tested (taken : Bool) : Type 0 where
      next : ℕ
      count : ℕ
      point : Point
      some : 1 ≤ count
      few : count ≤ 9
      run : Runs count p point
      there : point.machine.regs.pc ≡ cond taken (labels t) next
      quiet : Quiet p point
      more : StandsAs m words labels next (goto_items f places now.block e ++ later now.block)

    tested : (taken : Bool) → branch_taken op (now.regs b) (now.regs c) ≡ Some taken → Tested taken
    tested taken is =
        let parts = plain-apart m words labels p.machine.regs.pc code behind stands-in-parts in
        let x = ready m functions room words lowb highb low fr slots (bottom m functions room f places intervals covers fits a s wide high words lowb highb labels) (top m functions room f places intervals covers fits a s wide high words lowb highb labels)
        (inside m functions room f places intervals covers fits a s wide high words lowb highb labels) first.place second.place p first.is second.is h.stands.keeps.sp parts.0 in
        let test = subst (λ (pc : ℕ). StandsAs m words labels pc behind) (sym x.on.pc) parts.1 in
        let sp = x.quiet.others 2 (λ z. cc) (λ z. cc) (λ z. cc) ∙ h.stands.keeps.sp in
        let hop = test.2 x.point refl (inside-frame x.point sp) in
        let known : is_taken op (read x.point.machine.regs (held_in T0 (Some first.place))) (read x.point.machine.regs (held_in T1 (Some second.place))) ≡ taken =
        ap₂ (is_taken op) x.first x.second ∙ values_hold.branches op (now.regs b) (now.regs c) m1 m2 taken first.held second.held is in
        let all = length-append (fetch T0 (Some first.place)) (fetch T1 (Some second.place)) in
        let l1 = fetch-short T0 (Some first.place) in let l2 = fetch-short T1 (Some second.place) in
        let some = hop.some in let few = hop.few in
        record {
          next = test.0;
          count = length code + hop.count;
          point = hop.point;
          some = omega (arith, some);
          few = omega (arith, all, l1, l2, few);
          run = goes-then m functions words lowb highb (length code) hop.count p x.point hop.point x.on.run hop.run;
          there = hop.there ∙ ap (λ (y : Bool). cond y (labels t) test.0) known;
          quiet = quiet-then p x.point hop.point x.quiet (hops-quiet 1 _ x.point hop);
          more = test.3;
        }

    took : taken_in now.rest ≡ 0
    took = ap taken_in (ahead ∙ ap (λ (insts : List MInst). inst ∷ insts) none)

    takes : (o : Option Bool) → branch_taken op (now.regs b) (now.regs c) ≡ o → Does_it (left f now) p now (branch f now rest 32 o t e)
    takes None is = tt
    takes (Some true) is =
        let x = tested true is in
        edge-onward now p inst rest t 9 (32 + phi_weights (block_of f t)) h ahead (first-item t (e ∷ [])) refl took (target-exists now p inst rest t h ahead (first-item t (e ∷ [])))
        (record { count = x.count; point = x.point; some = inl x.some; few = x.few; run = x.run; there = x.there; quiet = x.quiet }) (omega arith)
    takes (Some false) is =
        let x = tested false is in
        let exists = target-exists now p inst rest e h ahead (second-item t e []) in
        let y = led-by now.block e x.point exists (x.quiet.others 2 (λ z. cc) (λ z. cc) (λ z. cc) ∙ h.stands.keeps.sp)
        (subst (λ (pc : ℕ). StandsAs m words labels pc (goto_items f places now.block e ++ later now.block)) (sym x.there) x.more) in
        let some = x.some in let few = x.few in let few' = y.few in
        edge-onward now p inst rest e 12 (32 + phi_weights (block_of f e)) h ahead (second-item t e []) refl took exists
        (record {
          count = x.count + y.count;
          point = y.point;
          some = inl (omega (arith, some));
          few = omega (arith, few, few');
          run = goes-then m functions words lowb highb x.count y.count p x.point y.point x.run y.run;
          there = y.there;
          quiet = quiet-then p x.point y.point x.quiet y.quiet;
        })
        (omega arith)

    pub branch-step : Does_it (left f now) p now (step f now)
    branch-step = by-inst m functions room f places intervals covers fits a s wide high words lowb highb labels now p inst rest ahead (takes (branch_taken op (now.regs b) (now.regs c)) refl)
