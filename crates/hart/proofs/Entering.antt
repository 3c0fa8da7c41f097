-- A stub that is entered at its start is one step: the base that its cell holds goes to t1, and the call goes on there.
use Rattle.std.proofs.Common.{◌≡◌, refl, sym, ap, subst, ◌∙◌, ℕ, ◌+◌, ◌-◌, ◌*◌, ◌/◌, ◌%◌, ◌^◌, ◌<◌, ◌≤◌, ◌==◌, ◌&&◌, nat_le, nat_lt, Bool, true, false, cond, List, [], ◌∷◌, ◌++◌, slice_index, Option, Some, None, arith, pos}
use Rattle.std.proofs.lemmas.List.{append_assoc}
use Rattle.rv_core.specs.declared.reg.Reg.TheVariants.{T0, T1}
use Rattle.rv_core.specs.declared.instr.LoadOp.TheVariants.{Ld}
use Rattle.rv_core.specs.declared.instr.Instr.{Instr}
use Rattle.rv_core.specs.declared.instr.Instr.TheVariants.{Load, Ecall}
use Rattle.rv_core.specs.declared.step.Stepped.TheVariants as stepped
use Rattle.rv_core.specs.Step.{Registers, view, read, write, written, at_pc, plus, sign_extend_word}
use Rattle.rv_core.specs.declared.reg.Reg.{Reg}
use Rattle.ir_meaning.specs.Plays.{Meaning}
use Rattle.rv_play.specs.Machine.{Machine, Counts, exit_address, stub_base, stub_of, cell_base, cell_of}
use Rattle.rv_play.specs.Ending.{Item, Held, Saw, Run, Next, Goes, Misfit, run, goes_to, do_instr, do_instr_with, cell_load, is_cell, do_decoded, after_act, in_code, at_exit, in_stubs, upper, lower, stub_instr}
use Rattle.rv_play.proofs.Stub.{cell_address}
use Rattle.rv_encode.specs.Reading.{instr_of}
use Rattle.hart.specs.declared.form.Form.{Form}
use Rattle.hart.specs.declared.hart.Hart.{Hart}
use Rattle.hart.specs.declared.hart.Wanted.{Wanted}
use Rattle.hart.specs.declared.hart.Wanted.TheVariants as wanted
use Rattle.hart.specs.declared.hart.Phase.{Phase}
use Rattle.hart.specs.declared.hart.Phase.TheVariants as phase
use Rattle.hart.specs.declared.map.At.TheVariants.{Code}
use Rattle.hart.specs.Standing.{IsFor, IsSameCall, Waits, machine_of, run_of, goes_on, rest_of, with_counted, at_of}
use Rattle.hart.specs.Calls.{Origin, Stands, Both, ending_from}
use Rattle.hart.specs.Forms.{reads_as}
use Rattle.hart.specs.Steps.{RunsAt, HasLeft, HasEntered, CountsAt, at_address, standing_at, going_at}
use Rattle.hart.proofs.Stores.{pick}
use Rattle.hart.proofs.Serving.{machine_at}
use Rattle.hart.proofs.Turning.{steps, same_number, for_same, going_same, seen_word, code_address}
use Rattle.hart.proofs.Looping.{IsAlike, run_alike, at_in_code, waits_for_word}

set_twice_at : (f : ℕ → ℕ) (j v w : ℕ) (b : Bool) → cond b w (cond b v (f j)) ≡ cond b w (f j)
set_twice_at f j v w true = refl
set_twice_at f j v w false = refl

set_twice : (f : ℕ → ℕ) (i v w : ℕ) → written (written f i v) i w ≡ written f i w
set_twice f i v w = λ k j. set_twice_at f j v w (j == i) k

abbrev with_regs : Machine → (ℕ → ℕ) → ℕ → Machine
with_regs s xs pc = record s { regs = record { x = xs; pc = pc } }

abbrev cell_word : ℕ → ℕ
cell_word g = sign_extend_word (upper (cell_of g) * 2 ^ 12)

abbrev load_cell : ℕ → Instr
load_cell g = Load Ld T1 T1 (lower (cell_of g))

cell_chosen : (m : Meaning) (a g : ℕ) → m.functions ≤ 1024 → g < m.functions → a ≡ cell_of g → cell_load m (stepped.Load Ld T1 a) ≡ Some (T1, g)
cell_chosen m a g few low e =
    let is : is_cell m a ≡ true = grind arith in
    let which : (a - cell_base) / 8 ≡ g = omega arith in
    ap (λ (b : Bool). cond b (Some (T1, (a - cell_base) / 8)) None) is ∙ ap (λ (k : ℕ). Some (T1, k)) which

module _ (m : Meaning) (code_words : ℕ) (width : Option ℕ) (fuel : ℕ) (few : m.functions ≤ 1024) where
  stub_goes : (left g part : ℕ) (r : Run) → g < m.functions → part < 4 → r.machine.regs.pc ≡ stub_of g + 4 * part → 0 < left
      → run m code_words width fuel left r ≡ goes_to (run m code_words width fuel (left - 1)) (do_instr m r (stub_instr g part))
  stub_goes left g part r low four at some =
      let no_exit : at_exit r ≡ false = grind arith in
      let inside : in_stubs m r.machine.regs.pc ≡ true = grind arith in
      let symbol : (r.machine.regs.pc - stub_base) / 16 ≡ g = omega arith in
      let place : (r.machine.regs.pc - stub_base) % 16 / 4 ≡ part = omega arith in
      steps m code_words width fuel left r _ no_exit (grind arith)
      (pick (in_stubs m r.machine.regs.pc) _ _ inside
      ∙ ap (λ (k : ℕ). do_instr m r (stub_instr k ((r.machine.regs.pc - stub_base) % 16 / 4))) symbol
      ∙ ap (λ (k : ℕ). do_instr m r (stub_instr g k)) place)

  pub stub_entered : (left g base : ℕ) (s : Machine) (pass : List Item) (counted : List ℕ) → g < m.functions → s.regs.pc ≡ stub_of g → 3 ≤ left → base < 2 ^ 64
      → run m code_words width fuel left (record { machine = s; pass = Held g base ∷ pass; counted = counted })
      ≡ run m code_words width fuel (left - 3) (record { machine = with_regs s (written s.regs.x 6 base) (base - base % 2); pass = pass; counted = counted })
  stub_entered left g base s pass counted low at three fits =
      let xs : ℕ → ℕ = written s.regs.x 6 (cell_word g) in
      let ys : ℕ → ℕ = written xs 6 base in
      let one : Run = record { machine = with_regs s xs (plus s.regs.pc (pos 4)); pass = Held g base ∷ pass; counted = counted } in
      let two : Run = record { machine = with_regs s ys (plus (plus s.regs.pc (pos 4)) (pos 4)); pass = pass; counted = counted } in
      let address : plus (cell_word g) (lower (cell_of g)) ≡ cell_of g = cell_address (cell_of g) (omega arith) in
      let loads : do_instr m one (load_cell g) ≡ Goes two =
      ap (do_instr_with m one (load_cell g)) (cell_chosen m (plus (cell_word g) (lower (cell_of g))) g few low address) ∙ pick (g == g) _ _ (same_number g) in
      let target : plus (ys 6) (pos 0) - plus (ys 6) (pos 0) % 2 ≡ base - base % 2 = (let e : plus base (pos 0) ≡ base = omega arith in ap (λ (n : ℕ). n - n % 2) e) in
      let n1 : left - 1 - 1 ≡ left - 2 = omega arith in
      let n2 : left - 2 - 1 ≡ left - 3 = omega arith in
      stub_goes left g 0 (record { machine = s; pass = Held g base ∷ pass; counted = counted }) low (omega arith) (omega arith) (omega arith)
      ∙ stub_goes (left - 1) g 1 one low (omega arith) (omega arith) (omega arith)
      ∙ ap (goes_to (run m code_words width fuel (left - 1 - 1))) loads
      ∙ ap (λ (n : ℕ). run m code_words width fuel n two) n1
      ∙ stub_goes (left - 2) g 2 two low (omega arith) (omega arith) (omega arith)
      ∙ ap (λ (n : ℕ). run m code_words width fuel n (record { machine = with_regs s ys (plus (ys 6) (pos 0) - plus (ys 6) (pos 0) % 2); pass = pass; counted = counted })) n2
      ∙ ap (λ (pc : ℕ). run m code_words width fuel (left - 3) (record { machine = with_regs s ys pc; pass = pass; counted = counted })) target
      ∙ ap (λ (zs : ℕ → ℕ). run m code_words width fuel (left - 3) (record { machine = with_regs s zs (base - base % 2); pass = pass; counted = counted }))
      (set_twice s.regs.x 6 (cell_word g) base)

pub stub_at : (a f : ℕ) → ((nat_le stub_base a) && ((nat_lt a (stub_of f)) && ((a - stub_base) % 16 == 0))) ≡ true → (a ≡ stub_of ((a - stub_base) / 16)) × ((a - stub_base) / 16 < f)
stub_at a f t =
    let low : stub_base ≤ a = grind arith in
    let high : a < stub_of f = grind arith in
    let four : (a - stub_base) % 16 ≡ 0 = grind arith in
    (omega arith, omega arith)

-- ---- what a fabric and a hart stand for on the way

-- what was given has led from one hart to another
pub record Reaches (h h' : Hart) (items : List Item) : Type 0 where
  pub goes : (m : Meaning) → IsFor m h → (counted : List ℕ) (pass : List Item) → rest_of m h h.phase counted (items ++ pass) ≡ rest_of m h' h'.phase (with_counted h'.phase counted) pass
  pub same : IsSameCall h h'

pub both_by : {S : Type 0} (stands : S → S → List Item → List ℕ → Type 0) (since f f' : S) (known : Hart) (o : Origin) (h h' : Hart) (items : List Item)
    → ((counted : List ℕ) → with_counted h.phase counted ≡ counted)
    → ((s : S) (pass : List Item) (counted : List ℕ) → stands s f pass counted → stands s f' (pass ++ items) counted)
    → Reaches h h' items → Both stands since f known o h → Both stands since f' known o h'
both_by stands since f f' known o h h' items c s t b = record {
  pass = b.pass ++ items;
  counted = b.counted;
  fabric_stands = s since b.pass b.counted b.fabric_stands;
  hart_stands = λ m for_it.
      let k : Stands m o h b.pass b.counted = subst (Stands m o h b.pass) (c b.counted) (b.hart_stands m for_it) in
      record {
        is_for = for_same m h h' k.is_for t.same;
        goes = λ rest. ap (ending_from m o) (append_assoc b.pass items rest) ∙ k.goes (items ++ rest) ∙ t.goes m k.is_for b.counted rest;
      };
}

-- the call goes on to where the hart wants something
pub both_on : {S : Type 0} (stands : S → S → List Item → List ℕ → Type 0) (since f : S) (known : Hart) (o : Origin) (h h' : Hart) (address left : ℕ) (w : Wanted)
    → Waits (standing_at address left h) h' w → Both stands since f known o (going_at address left h) → Both stands since f known o h'
both_on stands since f known o h h' address left w k b = record {
  pass = b.pass;
  counted = b.counted;
  fabric_stands = b.fabric_stands;
  hart_stands = λ m for_it.
      let stood = b.hart_stands m for_it in
      let for_h : IsFor m (standing_at address left h) = record { functions = stood.is_for.functions; room = stood.is_for.room; results = stood.is_for.results } in
      record {
        is_for = for_same m (standing_at address left h) h' for_h k.same;
        goes = λ rest. stood.goes rest ∙ k.goes m for_h b.counted rest;
      };
}

pub left_by : {S : Type 0} (stands : S → S → List Item → List ℕ → Type 0) (f f' : S) (h k h' : Hart) (address left target left' : ℕ) (w : Wanted)
    → ((since : S) (known : Hart) (o : Origin) → Both stands since f known o (going_at address left h) → Both stands since f' known o (going_at target left' k))
    → left' ≤ left → Waits (standing_at target left' k) h' w → HasLeft stands f f' h h' address left
left_by stands f f' h k h' address left target left' w b less t = record {
  wants = (w, t.wanted, t.asked);
  fewer = let few = t.fewer in omega arith;
  both = λ since known o x. both_on stands since f' known o k h' target left' w t (b since known o x);
}

pub entered_by : {S : Type 0} (stands : S → S → List Item → List ℕ → Type 0) (f f' : S) (h k : Hart) (address left target : ℕ)
    → ((since : S) (known : Hart) (o : Origin) → Both stands since f known o (going_at address left h) → Both stands since f' known o (going_at target (left - 3) k))
    → 4 ≤ left → k.functions ≤ 1024 → k.phase ≡ phase.Fetch → in_code k.code_words target ≡ true → HasEntered stands f f' h k address left target
entered_by stands f f' h k address left target b enough few p c =
    let some : (left - 3 == 0) ≡ false = grind arith in
    let at : at_of (standing_at target (left - 3) k) ≡ Code = at_in_code (standing_at target (left - 3) k) few some c in
    let fewer : left - 3 - 1 ≡ left - 4 = omega arith in
    record {
      phase = p;
      inside = code_address (standing_at target (left - 3) k) at;
      enough = enough;
      both = λ since known o x.
          subst (λ (n : ℕ). Both stands since f' known o (standing_at target n k)) fewer
          (both_on stands since f' known o k (standing_at target (left - 3 - 1) k) target (left - 3) (wanted.Fetch target)
          (waits_for_word (standing_at target (left - 3) k) p at) (b since known o x));
    }

-- the stub's symbol, and the base that its cell holds
pub stub_reaches : (h k : Hart) (address left g base : ℕ) → h.functions ≤ 1024 → g < h.functions → address ≡ stub_of g → 3 ≤ left → base < 2 ^ 64
    → view k.regs ≡ write (view h.regs) T1 base → k.bytes.items ≡ h.bytes.items → k.control.items ≡ h.control.items → IsSameCall h k
    → Reaches (going_at address left h) (going_at (base - base % 2) (left - 3) k) (Held g base ∷ [])
stub_reaches h k address left g base few low at three fits put bytes control same =
    let target : ℕ = base - base % 2 in
    let both_same : IsSameCall (going_at address left h) (going_at target (left - 3) k) =
    record { room = same.room; widths = same.widths; functions = same.functions; code_words = same.code_words; width = same.width; fuel = same.fuel } in
    record {
      goes = λ m f counted pass.
          stub_entered m h.code_words h.width h.fuel (let e = f.functions in omega arith) left g base (machine_of (going_at address left h)) pass counted
          (let e = f.functions in omega arith) at three fits
          ∙ ap (λ (xs : ℕ → ℕ). run m h.code_words h.width h.fuel (left - 3) (record { machine = with_regs (machine_of (going_at address left h)) xs target; pass = pass; counted = counted }))
          (sym (ap (λ (r : Registers). r.x) put))
          ∙ ap (λ (b : List ℕ). run m h.code_words h.width h.fuel (left - 3) (record { machine = machine_at (record { x = slice_index k.regs.x; pc = target }) b h.control.items; pass = pass; counted = counted })) (sym bytes)
          ∙ ap (λ (c : List ℕ). run m h.code_words h.width h.fuel (left - 3) (record { machine = machine_at (record { x = slice_index k.regs.x; pc = target }) k.bytes.items c; pass = pass; counted = counted })) (sym control)
          ∙ going_same m (going_at address left h) (going_at target (left - 3) k) (left - 3) (Goes (run_of (going_at target (left - 3) k) counted pass)) both_same refl;
      same = both_same;
    }

-- the form of the word that was given has been run, and the call goes on from there
pub form_reaches : (h h' : Hart) (pc left word next : ℕ) (f : Form)
    → h.phase ≡ phase.Fetch → reads_as f (instr_of word) ≡ instr_of word → RunsAt h pc f h' next
    → Reaches (standing_at pc left h) (going_at next left h') (Saw pc word ∷ [])
form_reaches h h' pc left word next f p e r =
    let does = r (instr_of word) in
    let same : IsSameCall (standing_at pc left h) (going_at next left h') = record {
      room = does.same.room;
      widths = does.same.widths;
      functions = does.same.functions;
      code_words = does.same.code_words;
      width = does.same.width;
      fuel = does.same.fuel;
    } in
    record {
      goes = λ m for_it counted pass.
          ap (λ (q : Phase). rest_of m (standing_at pc left h) q counted (Saw pc word ∷ pass)) p
          ∙ ap (goes_to (goes_on m (standing_at pc left h)))
          (seen_word m (standing_at pc left h) counted pass word
          ∙ ap (do_decoded m (run_of (standing_at pc left h) counted pass)) (sym e)
          ∙ does.goes m (record { functions = for_it.functions; room = for_it.room; results = for_it.results }) counted pass)
          ∙ going_same m (standing_at pc left h) (going_at next left h') left (Goes (run_of (going_at next left h') counted pass)) same refl;
      same = same;
    }

-- ---- an entry is counted

counts-done : (m : Meaning) (s : Machine) (counted : List ℕ) (pass : List Item) (symbol : ℕ) → read s.regs T0 ≡ 1 → read s.regs T1 ≡ symbol → symbol < m.functions
    → do_instr m (record { machine = s; pass = pass; counted = counted }) Ecall
    ≡ Goes (record { machine = record s { regs = at_pc (plus s.regs.pc (pos 4)) s.regs }; pass = pass; counted = counted ++ symbol ∷ [] })
counts-done m s counted pass symbol one is below =
    let s' : Machine = record s { regs = at_pc (plus s.regs.pc (pos 4)) s.regs } in
    let few : read s.regs T1 < m.functions = omega arith in
    ap (after_act (record { machine = s; pass = pass; counted = counted }))
    (pick (read s.regs T0 == 1) _ _ (grind arith)
    ∙ pick (nat_lt (read s.regs T1) m.functions) _ _ (grind arith)
    ∙ ap (λ (n : ℕ). Counts n s') is)

pub both_counted : {S : Type 0} (stands : S → S → List Item → List ℕ → Type 0) (since f f' f'' : S) (known : Hart) (o : Origin) (h j : Hart) (pc left word symbol limit : ℕ)
    → IsAlike h j → h.phase ≡ phase.Fetch → CountsAt j limit pc left word symbol
    → ((s : S) (pass : List Item) (counted : List ℕ) → stands s f pass counted → stands s f' (pass ++ Saw pc word ∷ []) counted)
    → ((s : S) (pass : List Item) (counted : List ℕ) → stands s f' pass counted → stands s f'' pass (counted ++ symbol ∷ []))
    → Both stands since f known o (standing_at pc left h) → Both stands since f'' known o (going_at (plus pc (pos 4)) left j)
both_counted stands since f f' f'' known o h j pc left word symbol limit a p c fetches counts b =
    let reads : instr_of word ≡ Some Ecall = ap instr_of c.word_is in
    let same : IsSameCall (standing_at pc left h) (going_at (plus pc (pos 4)) left j) = record {
      room = a.same.room;
      widths = a.same.widths;
      functions = a.same.functions;
      code_words = a.same.code_words;
      width = a.same.width;
      fuel = a.same.fuel;
    } in
    record {
      pass = b.pass ++ Saw pc word ∷ [];
      counted = b.counted ++ symbol ∷ [];
      fabric_stands = counts since (b.pass ++ Saw pc word ∷ []) b.counted (fetches since b.pass b.counted b.fabric_stands);
      hart_stands = λ m for_it.
          let stood : Stands m o (standing_at pc left h) b.pass b.counted =
          subst (λ (q : Phase). Stands m o (standing_at pc left h) b.pass (with_counted q b.counted)) p (b.hart_stands m for_it) in
          let functions : m.functions ≡ j.functions = stood.is_for.functions ∙ sym a.same.functions in
          let below : symbol < m.functions = (let few = c.below in omega arith) in
          record {
            is_for = for_same m (standing_at pc left h) (going_at (plus pc (pos 4)) left j) stood.is_for same;
            goes = λ rest.
                ap (ending_from m o) (append_assoc b.pass (Saw pc word ∷ []) rest)
                ∙ stood.goes (Saw pc word ∷ rest)
                ∙ ap (λ (q : Phase). rest_of m (standing_at pc left h) q b.counted (Saw pc word ∷ rest)) p
                ∙ ap (goes_to (goes_on m (standing_at pc left h)))
                (seen_word m (standing_at pc left h) b.counted rest word
                ∙ ap (do_decoded m (run_of (standing_at pc left h) b.counted rest)) reads
                ∙ ap (λ (r : Run). do_instr m r Ecall) (run_alike h j pc b.counted rest a)
                ∙ counts-done m (machine_of (at_address pc j)) b.counted rest symbol c.one c.symbol_is below)
                ∙ going_same m (standing_at pc left h) (going_at (plus pc (pos 4)) left j) left
                (Goes (run_of (going_at (plus pc (pos 4)) left j) (b.counted ++ symbol ∷ []) rest)) same refl;
          };
    }

-- the call goes on at a code word
pub both_to_word : {S : Type 0} (stands : S → S → List Item → List ℕ → Type 0) (since f : S) (known : Hart) (o : Origin) (j : Hart) (next left : ℕ)
    → j.functions ≤ 1024 → j.phase ≡ phase.Fetch → 0 < left → in_code j.code_words next ≡ true
    → Both stands since f known o (going_at next left j) → Both stands since f known o (standing_at next (left - 1) j)
both_to_word stands since f known o j next left few p more c b =
    let some : (left == 0) ≡ false = grind arith in
    both_on stands since f known o j (standing_at next (left - 1) j) next left (wanted.Fetch next)
    (waits_for_word (standing_at next left j) p (at_in_code (standing_at next left j) few some c)) b

pub alike_by : (h j k : Hart) → j ≡ k → IsAlike h k → IsAlike h j
alike_by h j k e a = subst (IsAlike h) (sym e) a
