-- Words that stand as the code of a function of several blocks are good.
use Rattle.std.proofs.Common.{◌≡◌, ◌≢◌, refl, sym, ap, subst, ◌∙◌, ℕ, zero, suc, ◌+◌, ◌-◌, ◌*◌, ◌/◌, ◌%◌, ◌^◌, ◌<◌, ◌≤◌, inr, List, [], ◌++◌, length, map, Option, Some, None, Bool, true, false, cond, arith}
use Rattle.std.specs.Prelude.{◌&&◌, nat_lt, nat_le, drop, slice_get}
use Rattle.std.proofs.lemmas.Bool.{ltb-true, ltb-false}
use Rattle.std.proofs.lemmas.List.{append-nil, length-append}
use Rattle.std.proofs.lemmas.Option.{slice_get_within}
use Rattle.ir_core.specs.declared.code.Inst.{Inst}
use Rattle.ir_core.specs.declared.program.Function.{Function}
use Rattle.ir_core.specs.declared.program.Global.{Global}
use Rattle.ir_core.specs.Units.{frame, values as value_count}
use Rattle.rv_core.specs.declared.reg.Reg.TheVariants.{S11}
use Rattle.rv_core.specs.declared.instr.Instr.{Instr}
use Rattle.rv_core.specs.Bytes.{load_bytes, store_bytes}
use Rattle.rv_core.proofs.Bytes.{load_stored, load_outside, store_outside}
use Rattle.rv_core.specs.Step.{read}
use Rattle.ir_meaning.specs.declared.activation.Activation.{Activation}
use Rattle.ir_meaning.specs.declared.calls.Reply.{Reply}
use Rattle.ir_meaning.specs.Memory.{Memory}
use Rattle.ir_meaning.specs.Operators.{width}
use Rattle.ir_meaning.specs.Step.{Program, Does, Goes, Calls, Returns, Overflows, Breaks, step, Entry, Opens, TooDeep, function_at, entry, entry_in, first_values, insts_at, stack_start}
use Rattle.ir_meaning.specs.Play.{NotEnded}
use Rattle.ir_meaning.specs.Plays.{Invocation, play_of}
use Rattle.ir_meaning.specs.Meaning.{meaning, of_function, parameter_widths}
use Rattle.ir_meaning.specs.Ranges.{IsInvocation}
use Rattle.ir_meaning.specs.Typed.{IsTyped}
use Rattle.ir_meaning.proofs.Ranges.{Standing, FirstStands, first-stands, first-args}
use Rattle.rv_play.specs.Machine.{Machine, control_base}
use Rattle.rv_play.specs.CodePlay.{Place, Point, CodeReply, code_run, code_play, place_of, entered as entered_at}
use Rattle.rv_play.specs.Good.{IsBase, Enters, AreReplies, RefinesEnd, RefinesArgs, RefinesMemory, IsBytes, IsRunning, arg_regs}
use Rattle.rv_play.proofs.Lines.{Stands, stands-apart}
use Rattle.code_pieces.specs.Code.{lowered_code, store_at, prologue}
use Rattle.code_pieces.specs.Items.{Item, plain}
use Rattle.quick_code.specs.Blocks.{phis_code, block_label, block_items, blocks_items, insts_items, arguments_code, function_items}
use Rattle.code_pieces.specs.Bytes.{save_code}
use Rattle.quick_code.specs.Data.{takes_data}
use Rattle.code_pieces.specs.Labels.{StandsAs}
use Rattle.quick_code.specs.Forms.{IsFlow}
use Rattle.quick_code.specs.Laws.{FlowCodeIsGood}
use Rattle.code_pieces.proofs.Slots.{saves-at, store-short}
use Rattle.code_pieces.proofs.Frame.{Holds, saved_regs, keeps-then, keeps-others}
use Rattle.quick_code.proofs.Refines.{arguments-read, first-number}
use Rattle.code_pieces.proofs.Entry.{overflows, opens, lowered-short}
use Rattle.quick_code.proofs.Arguments.{Begun, are-given, arguments-go, arguments-short, args-inside}
use Rattle.code_pieces.proofs.Labelled.{plain-apart}
use Rattle.quick_code.proofs.Labelled.{block-stands, StandsThere}
use Rattle.quick_code.proofs.FlowState.{Here}
use Rattle.quick_code.proofs.Flow.{steps}
use Rattle.quick_code.proofs.Simulation.{Advances, Steps, Begins, OpensAt, OverflowsAt, refines-play, ends-play}

module _ (program : Program) (typed : IsTyped program) (function : Function) (flow : IsFlow function) (a : Invocation) (is : IsInvocation (meaning program) a) (there : function_at program a.symbol ≡ Some function)
    (s : Machine) (words : List ℕ) (base : ℕ) (stands : IsBase words base) (enters : Enters (meaning program) a s) (labels : ℕ → ℕ) (aligned : (label : ℕ) → labels label % 4 ≡ 0)
    (code : StandsAs (meaning program) (place_of words base s) labels base (function_items program.module_.globals a.symbol function program.room (frame function))) where
  abbrev globals : List Global
  globals = program.module_.globals

  abbrev n : ℕ
  n = value_count function

  abbrev fr : ℕ
  fr = 128 + 32 * n

  abbrev np : ℕ
  np = length function.params

  abbrev place : Place
  place = place_of words base s

  abbrev At : ℕ → List Item → Type 0
  At = StandsAs (meaning program) place labels

  abbrev blocks : List Item
  blocks = blocks_items globals function program.room fr 0 (length function.blocks)

  -- the machine whose control bytes have s11 where it is saved
  abbrev kept-in : Bool → Machine
  kept-in saves = record s { control = cond saves (store_bytes s.control (a.sp - fr + (fr - 104)) 8 (read s.regs S11)) s.control }

  abbrev saving : Machine
  saving = kept-in (takes_data function)

  pick-below : (b : Bool) (x y : ℕ) → x < 256 → y < 256 → cond b x y < 256
  pick-below true x y h k = h
  pick-below false x y h k = k

  stored-bytes : (f : ℕ → ℕ) (at v : ℕ) → IsBytes f → IsBytes (store_bytes f at 8 v)
  stored-bytes f at v h x = pick-below (nat_le at x && nat_lt x (at + 8)) (v / 256 ^ (x - at) % 256) (f x) (omega arith) (h x)

  enters-too : Enters (meaning program) a saving
  enters-too = record { regs = enters.regs; bytes = enters.bytes; control = by_test (takes_data function); ra = enters.ra; sp = enters.sp; top = enters.top; args = enters.args; memory = enters.memory }
    where
      by_test : (b : Bool) → IsBytes (cond b (store_bytes s.control (a.sp - fr + (fr - 104)) 8 (read s.regs S11)) s.control)
      by_test true = stored-bytes s.control (a.sp - fr + (fr - 104)) (read s.regs S11) enters.control
      by_test false = enters.control

  is-aside : takes_data function ≡ true → load_bytes saving.control (a.sp - fr + (fr - 104)) 8 ≡ read s.regs S11
  is-aside e =
      let regs = enters.regs in let bound = regs 27 in
      ap (λ (b : Bool). load_bytes (cond b (store_bytes s.control (a.sp - fr + (fr - 104)) 8 (read s.regs S11)) s.control) (a.sp - fr + (fr - 104)) 8) e
      ∙ load_stored s.control (a.sp - fr + (fr - 104)) 8 (read s.regs S11) ∙ (let z : read s.regs S11 % 256 ^ 8 ≡ read s.regs S11 = omega (arith, bound) in z)

  -- above the frame it has the same bytes
  above : control_base + fr ≤ a.sp → (x : ℕ) → a.sp ≤ x → saving.control x ≡ s.control x
  above wide x le = by_test (takes_data function)
    where
      by_test : (b : Bool) → cond b (store_bytes s.control (a.sp - fr + (fr - 104)) 8 (read s.regs S11)) s.control x ≡ s.control x
      by_test true = store_outside s.control (a.sp - fr + (fr - 104)) 8 (read s.regs S11) x (inr (omega (arith, wide, le)))
      by_test false = refl

  -- s11 is saved where the function has an alloca
  record SavedBy (saves : Bool) (p : Point) : Type 0 where
    count : ℕ
    few : count ≤ 3
    point : Point
    run : (f : ℕ) (cs : List CodeReply) → code_run (meaning program) place (count + f) p cs ≡ code_run (meaning program) place f point cs
    pc : point.machine.regs.pc ≡ p.machine.regs.pc + 4 * length (cond saves (store_at S11 (fr - 104)) [])
    holds : Holds a (kept-in saves) (a.sp - fr) fr [] a.memory point
    same : (j : ℕ) → j ≢ 31 → point.machine.regs.x j ≡ p.machine.regs.x j

  saves : control_base + fr ≤ a.sp → (p : Point) → Holds a s (a.sp - fr) fr [] a.memory p → Stands place p.machine.regs.pc (save_code (takes_data function) fr) → SavedBy (takes_data function) p
  saves wide p h st = by_test (takes_data function) st
    where
      by_test : (b : Bool) → Stands place p.machine.regs.pc (cond b (store_at S11 (fr - 104)) []) → SavedBy b p
      by_test false st = record {
        count = 0;
        few = omega arith;
        point = p;
        run = λ f cs. ap (λ (k : ℕ). code_run (meaning program) place k p cs) (let z : 0 + f ≡ f = omega arith in z);
        pc = omega arith;
        holds = record { sp = h.sp; slots = h.slots; ra = h.ra; aside = h.aside; saved = h.saved; data_top = h.data_top; kept = h.kept; memory' = h.memory'; counted = h.counted };
        same = λ j ne. refl;
      }
      by_test true st =
          let high = is.sp_high in
          let save = saves-at (meaning program) typed.functions typed.room place stands.low stands.high (a.sp - fr) fr (omega (arith, wide)) (omega (arith, wide, high)) p S11 (fr - 104) (λ z. omega (arith, z)) h.sp (omega arith) st in
          let alters = save.alters in
          record {
            count = length (store_at S11 (fr - 104));
            few = store-short S11 (fr - 104);
            point = save.point;
            run = save.run;
            pc = save.pc;
            holds = record {
              sp = alters.others 2 (λ z. omega (arith, z)) ∙ h.sp;
              slots = λ i v e. absurd (let bad : ⊥ = cc in bad);
              ra = ap (λ (c : ℕ → ℕ). load_bytes c (a.sp - fr + (fr - 8)) 8) alters.control ∙ load_outside p.machine.control (a.sp - fr + (fr - 104)) 8 (read p.machine.regs S11) (a.sp - fr + (fr - 8)) 8 (inr (omega arith)) ∙ h.ra;
              aside =
                  ap (λ (c : ℕ → ℕ). load_bytes c (a.sp - fr + (fr - 104)) 8) alters.control
                  ∙ load_stored p.machine.control (a.sp - fr + (fr - 104)) 8 (read p.machine.regs S11)
                  ∙ ap (λ (v : ℕ). v % 256 ^ 8) (h.data_top ∙ sym enters.top)
                  ∙ sym (load_stored s.control (a.sp - fr + (fr - 104)) 8 (read s.regs S11));
              saved = keeps-then saved_regs s.regs p.machine.regs save.point.machine.regs h.saved (keeps-others p.machine.regs save.point.machine.regs alters.others);
              data_top = alters.others 27 (λ z. omega (arith, z)) ∙ h.data_top;
              kept = λ x le.
                  ap (λ (c : ℕ → ℕ). c x) alters.control
                  ∙ store_outside p.machine.control (a.sp - fr + (fr - 104)) 8 (read p.machine.regs S11) x (inr (omega (arith, le)))
                  ∙ h.kept x le
                  ∙ sym (store_outside s.control (a.sp - fr + (fr - 104)) 8 (read s.regs S11) x (inr (omega (arith, le))));
              memory' = subst (λ (b : ℕ → ℕ). RefinesMemory a.memory b) (sym alters.bytes) h.memory';
              counted = alters.counted ∙ h.counted;
            };
            same = alters.others;
          }

  -- what is shown over that machine is shown over the one that enters
  again : control_base + fr ≤ a.sp → (At' : Activation → Memory → Point → Type 0) (units : ℕ) (now : Activation) (here : Memory) (p : Point) (does : Does)
      → Advances program a saving place At' units now here p does → Advances program a s place At' units now here p does
  again wide At' units now here p (Goes next after) o = record { count = o.count; point = o.point; moves = o.moves; few = o.few; run = o.run; at = o.at }
  again wide At' units now here p (Calls g given) o =
      let call = o.call in
      record {
        count = o.count;
        more = o.more;
        point = o.point;
        some = o.some;
        few = o.few;
        run = o.run;
        call = record {
          counted = call.counted;
          control = λ x le. call.control x le ∙ above wide x le;
          sp = call.sp;
          top = call.top;
          ra = call.ra;
          registers = call.registers;
          memory' = call.memory';
        };
        back = λ r c h k. let b = o.back r c h k in record { point = b.point; run = b.run; at = b.at };
      }
  again wide At' units now here p (Returns value after) o =
      let r = o.is in
      record {
        count = o.count;
        point = o.point;
        few = o.few;
        run = o.run;
        is = record { counted = r.counted; control = λ x le. r.control x le ∙ above wide x le; regs = r.regs; result = r.result; memory' = r.memory' };
      }
  again wide At' units now here p Overflows o = record { count = o.count; point = o.point; few = o.few; run = o.run; is = o.is }
  again wide At' units now here p Breaks o = tt

  abbrev first-code : List Instr
  first-code = prologue a.symbol fr ++ save_code (takes_data function) fr

  entry-parts : Stands place base first-code × At (base + 4 * length first-code) (plain (arguments_code 0 function.params) ++ blocks)
  entry-parts = plain-apart (meaning program) place labels base first-code (plain (arguments_code 0 function.params) ++ blocks) code

  opening : Stands place base (prologue a.symbol fr) × Stands place (base + 4 * length (prologue a.symbol fr)) (save_code (takes_data function) fr)
  opening = stands-apart place base (prologue a.symbol fr) (save_code (takes_data function) fr) entry-parts.0

  storing : Stands place (base + 4 * length first-code) (arguments_code 0 function.params) × At (base + 4 * length first-code + 4 * length (arguments_code 0 function.params)) blocks
  storing = plain-apart (meaning program) place labels (base + 4 * length first-code) (arguments_code 0 function.params) blocks entry-parts.1

  placed : (block : ℕ) → block < length function.blocks → StandsThere (meaning program) place labels globals function program.room fr block (length function.blocks)
  placed block lt =
      let pc = base + 4 * length first-code + 4 * length (arguments_code 0 function.params) in
      let r = block-stands (meaning program) place labels globals function program.room fr (length function.blocks) 0 pc block [] (subst (λ (items : List Item). At pc items) (sym (append-nil blocks)) storing.1) lt in
      let same : 0 + block ≡ block = omega arith in
      let many : 0 + length function.blocks ≡ length function.blocks = omega arith in
      subst (λ (b : ℕ). StandsThere (meaning program) place labels globals function program.room fr b (length function.blocks)) same (subst (λ (k : ℕ). StandsThere (meaning program) place labels globals function program.room fr (0 + block) k) many r)

  first-label : (many pc : ℕ) → 1 ≤ many → At pc (blocks_items globals function program.room fr 0 many) → labels (block_label function 0) ≡ pc
  first-label zero pc some h = absurd (let bad : ⊥ = omega arith in bad)
  first-label (suc many) pc some h = h.0

  -- the entry block begins with an instruction that isn't a phi
  entry-items : (pc : ℕ) (more : List Item) → At pc (block_items globals function program.room fr 0 ++ more) → At pc (insts_items globals function program.room fr 0 0 (insts_at function 0) ++ more)
  entry-items pc more h =
      subst (λ (heads : List Inst). At pc ((plain (phis_code function 0 0 heads) ++ insts_items globals function program.room fr 0 (length heads) (drop (length heads) (insts_at function 0))) ++ more)) flow.entry h.1

  -- the first state of the activation
  abbrev first : Activation
  first = record { symbol = a.symbol; block = 0; place = 0; values = first_values function a.args; entry_length = length a.memory; sp = a.sp - frame function }

  entry-is : (deep : Bool) → nat_lt a.sp (stack_start + frame function) ≡ deep → entry program a.symbol a.args a.memory a.sp ≡ cond deep TooDeep (Opens first)
  entry-is deep e =
      ap (λ (f : Option Function). entry_in a.symbol a.args a.memory a.sp f) there ∙ ap (λ (b : Bool). cond b TooDeep (Opens first)) e

  stood-first : entry program a.symbol a.args a.memory a.sp ≡ Opens first → Standing program typed a is function there first a.memory
  stood-first e =
      let f : FirstStands program typed a is function there (Opens first) = subst (FirstStands program typed a is function there) e (first-stands program typed a is function there) in
      f.0

  params-words : RefinesArgs (map width function.params) a.args arg_regs s.regs
  params-words = subst (λ (f : Option Function). RefinesArgs (of_function [] parameter_widths f) a.args arg_regs s.regs) there enters.args

  -- what is shown of each entry
  abbrev Shown : Type 0
  Shown =
      (replies : List Reply) (answers : List CodeReply) → AreReplies (meaning program) a [] replies answers
      → ((t : ℕ) → RefinesEnd (meaning program) a s (play_of (meaning program) a replies t) (code_play (meaning program) words base s answers (256 * t)))
      × ((k : ℕ) → (IsRunning (code_play (meaning program) words base s answers k) → ⊥) → (t : ℕ) × (play_of (meaning program) a replies t ≢ NotEnded))

  -- ---- no room for the frame

  abbrev Nowhere : Activation → Memory → Point → Type 0
  Nowhere now here p = ⊥

  too-deep : a.sp < stack_start + frame function → entry program a.symbol a.args a.memory a.sp ≡ TooDeep → Shown
  too-deep deep is-deep replies answers rs =
      let small = flow.frames in
      let short = lowered-short fr in
      let o = overflows a s (a.sp - fr) fr (meaning program) typed.functions typed.room place stands.low stands.high is.symbol (omega arith) small enters.sp is.sp_low is.sp_high refl enters.regs a.memory enters.memory (omega (arith, deep)) opening.0 in
      let at : OverflowsAt program a s place Nowhere (λ now here p h. absurd h) (entered_at base s) = record { count = 7 + length (lowered_code fr); point = o.0; few = omega (arith, short); run = o.2; counted = o.1 } in
      let begins = subst (λ (e : Entry). Begins program a s place Nowhere (λ now here p h. absurd h) (entered_at base s) e) (sym is-deep) at in (
        λ t. refines-play program a s place Nowhere (λ now here p h. absurd h) words base refl begins t replies answers rs,
        λ k over. ends-play program a s place Nowhere (λ now here p h. absurd h) words base refl begins k replies answers rs over,
      )

  -- ---- the frame is opened

  opened : stack_start + frame function ≤ a.sp → entry program a.symbol a.args a.memory a.sp ≡ Opens first → Shown
  opened room is-open replies answers rs =
      let few = flow.few in
      let small = flow.frames in
      let high = is.sp_high in
      let wide : control_base + fr ≤ a.sp = omega (arith, room) in
      let o = opens a s (a.sp - fr) fr (meaning program) typed.functions typed.room place stands.low stands.high is.symbol (omega arith) small enters.sp is.sp_low is.sp_high refl enters.regs a.memory enters.memory wide enters.top opening.0 in
      let p9 : Point = o.point in
      let opened-pc = o.pc in
      let few0 = o.few in
      let at9 : base + 4 * length (prologue a.symbol fr) ≡ p9.machine.regs.pc = omega (arith, opened-pc) in
      let v = saves wide p9 o.holds (subst (λ (pc : ℕ). Stands place pc (save_code (takes_data function) fr)) at9 opening.1) in
      let p10 : Point = v.point in
      let pc10 = v.pc in
      let len10 = length-append (prologue a.symbol fr) (save_code (takes_data function) fr) in
      let at10 : base + 4 * length first-code ≡ p10.machine.regs.pc = omega (arith, at9, pc10, len10) in
      let begun : Begun a saving (a.sp - fr) fr (meaning program) typed.functions typed.room place stands.low stands.high (omega (arith, wide)) (omega (arith, wide, high)) enters.regs a.memory a.args 0 p10 = record {
        holds = v.holds;
        slots = λ i x lt e. absurd (let bad : ⊥ = omega (arith, lt) in bad);
        registers = λ j le less. v.same j (λ z. let bad : ⊥ = omega (arith, z, less) in bad) ∙ o.registers j (omega (arith, le)) (omega (arith, less));
      } in
      let fit = first-args program typed a is function there in
      let given = are-given a saving (a.sp - fr) fr (meaning program) typed.functions typed.room place stands.low stands.high (omega (arith, wide)) (omega (arith, wide, high)) enters.regs a.memory a.args 0 function.params a.args arg_regs (λ j. s.regs.x (10 + j))
      (arguments-read s.regs) params-words (omega (arith, few)) fit (typed.typed a.symbol function there).params (λ k. ap s.regs.x (let z : 10 + k ≡ 10 + (0 + k) = omega arith in z)) (λ k v e. ap (slice_get a.args) (let z : k ≡ 0 + k = omega arith in z) ∙ e) in
      let w = arguments-go a saving (a.sp - fr) fr (meaning program) typed.functions typed.room place stands.low stands.high (omega (arith, wide)) (omega (arith, wide, high)) enters.regs a.memory a.args 0 function.params p10 (omega (arith, few)) (omega arith) given begun
      (subst (λ (pc : ℕ). Stands place pc (arguments_code 0 function.params)) at10 storing.0) in
      let q : Point = w.point in
      let pc = w.pc in
      let len = arguments-short 0 function.params in
      let start-even = stands.aligned in
      let label = first-label (length function.blocks) (base + 4 * length first-code + 4 * length (arguments_code 0 function.params)) flow.some storing.1 in
      let block0 = placed 0 flow.some in
      let there-is : labels (block_label function 0) ≡ q.machine.regs.pc = omega (arith, pc, at10, label) in
      let held0 = w.begun.holds in
      let held : Holds a saving (a.sp - fr) fr (first_values function a.args) a.memory q = record {
        sp = held0.sp;
        slots = λ i v e.
            let among = first-number a.args _ i v None refl e in
            let inside = args-inside function.params a.args fit i (Some v) among in
            w.begun.slots i v (omega (arith, inside)) among;
        ra = held0.ra;
        aside = held0.aside;
        saved = held0.saved;
        data_top = held0.data_top;
        kept = held0.kept;
        memory' = held0.memory';
        counted = held0.counted;
      } in
      let here : Here program typed function flow a is there saving words base stands enters-too room is-aside labels aligned placed first a.memory q = record {
        stood = stood-first is-open;
        long = λ none. refl;
        held = held;
        even = omega (arith, pc, start-even);
        rest = block0.0;
        code = subst (λ (k : ℕ). At k (insts_items globals function program.room fr 0 0 (insts_at function 0) ++ block0.0)) there-is (entry-items (labels (block_label function 0)) block0.0 block0.1);
        comes = block0.2;
      } in
      let v-few = v.few in
      let H = Here program typed function flow a is there saving words base stands enters-too room is-aside labels aligned placed in
      let all : Steps program a s place H = λ now here p h. again wide H (step program now here).units now here p (step program now here).does (steps program typed function flow a is there saving words base stands enters-too room is-aside labels aligned placed now here p h) in
      let at : OpensAt program a s place H all first (entered_at base s) = record {
        count = o.count + (v.count + length (arguments_code 0 function.params));
        point = q;
        few = omega (arith, few, len, v-few, few0);
        run = λ f cs.
            ap (λ (k : ℕ). code_run (meaning program) place k (entered_at base s) cs) (let z : o.count + (v.count + length (arguments_code 0 function.params)) + f ≡ o.count + (v.count + (length (arguments_code 0 function.params) + f)) = omega arith in z)
            ∙ o.run (v.count + (length (arguments_code 0 function.params) + f)) cs ∙ v.run (length (arguments_code 0 function.params) + f) cs ∙ w.run f cs;
        at = here;
      } in
      let begins = subst (λ (e : Entry). Begins program a s place H all (entered_at base s) e) (sym is-open) at in (
        λ t. refines-play program a s place H all words base refl begins t replies answers rs,
        λ k over. ends-play program a s place H all words base refl begins k replies answers rs over,
      )

  pub shown : Shown
  shown = by_test (nat_lt a.sp (stack_start + frame function)) refl
    where
      by_test : (deep : Bool) → nat_lt a.sp (stack_start + frame function) ≡ deep → Shown
      by_test true e = too-deep (ltb-true _ _ e) (entry-is true e)
      by_test false e = opened (ltb-false _ _ e) (entry-is false e)

-- ---- the law

pub flow-is-good : FlowCodeIsGood
flow-is-good program symbol function words typed flow there everywhere few = record {
  exists = slice_get_within program.module_.functions symbol function there;
  refines = λ a base s replies answers t same is stands enters answered. (at a base s same is stands enters replies answers answered).0 t;
  ended = λ a base s replies answers k same is stands enters answered over. (at a base s same is stands enters replies answers answered).1 k over;
  short = few;
}
  where
    at : (a : Invocation) (base : ℕ) (s : Machine) → a.symbol ≡ symbol → IsInvocation (meaning program) a → IsBase words base → Enters (meaning program) a s
        → (replies : List Reply) (answers : List CodeReply) → AreReplies (meaning program) a [] replies answers
        → ((t : ℕ) → RefinesEnd (meaning program) a s (play_of (meaning program) a replies t) (code_play (meaning program) words base s answers (256 * t)))
        × ((k : ℕ) → (IsRunning (code_play (meaning program) words base s answers k) → ⊥) → (t : ℕ) × (play_of (meaning program) a replies t ≢ NotEnded))
    at a base s same is stands enters =
        let e = everywhere (place_of words base s) refl stands in
        let there' : function_at program a.symbol ≡ Some function = ap (function_at program) same ∙ there in
        shown program typed function flow a is there' s words base stands enters e.0 e.1
        (subst (λ (g : ℕ). StandsAs (meaning program) (place_of words base s) e.0 base (function_items program.module_.globals g function program.room (frame function))) (sym same) e.2)
