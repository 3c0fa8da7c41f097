-- Words that stand as a function's code run as the function does.
use Rattle.std.proofs.Common.{◌≡◌, refl, sym, ap, subst, ◌∙◌, ℕ, zero, suc, ◌+◌, ◌-◌, ◌*◌, ◌%◌, ◌^◌, ◌<◌, ◌≤◌, Bool, true, false, List, [], ◌∷◌, ◌++◌, length, Option, Some, None, arith}
use Rattle.std.specs.Prelude.{nat_lt, if◌then◌else◌}
use Rattle.std.proofs.lemmas.Bool.{ltb-true, ltb-false}
use Rattle.rv_core.specs.Step.{read}
use Rattle.rv_core.specs.declared.reg.Reg.TheVariants.{Ra, Sp}
use Rattle.rv_core.specs.declared.instr.Instr.{Instr}
use Rattle.ir_meaning.specs.Plays.{Meaning, Invocation}
use Rattle.ir_meaning.specs.Ranges.{IsInvocation}
use Rattle.rv_play.specs.Machine.{Machine, control_base}
use Rattle.rv_play.specs.CodePlay.{Place as Words, Point, Overflows, place_of as words_at, entered}
use Rattle.rv_play.specs.Good.{IsBase, Enters}
use Rattle.rv_play.proofs.Lines.{Stands as Stand, stands-apart}
use Rattle.walks.specs.Walk.{Does, Goes, Asks, Gives, Wants, Breaks, Step, play_of}
use Rattle.walks.specs.Face.{frame_of}
use Rattle.mir.specs.declared.code.MInst.{MInst}
use Rattle.mir.specs.declared.code.MInst.TheVariants.{Param, Op, Imm, Const, Move, Load, Store, Phi, Call, TakeData, CopyBytes, FillBytes, Branch, Jump, Return, Trap}
use Rattle.mir.specs.declared.code.MFunction.{MFunction}
use Rattle.mir.specs.declared.places.Places.{Places}
use Rattle.mir_play.specs.Play.{State, by_inst, step, step_at, first, enter, walk}
use Rattle.good_code.specs.Runs.{entry_at}
use Rattle.good_code.proofs.BySteps.{Advances, Onward, Asked, Resumed, Stopped, DoesEach, runs_as}
use Rattle.code_pieces.specs.Code.{prologue, lowered_code}
use Rattle.code_pieces.specs.Labels.{StandsAs, StandEverywhere}
use Rattle.code_pieces.proofs.Labelled.{plain-apart}
use Rattle.code_pieces.proofs.Entry.{overflows, lowered-short}
use Rattle.frame_code.specs.Frame.{used}
use Rattle.frame_code.specs.Code.{save_code, entry_code, blocks_items, function_items}
use Rattle.frame_code.specs.Stands.{Here, left}
use Rattle.frame_code.specs.Laws.{CanLayOut, StandsLaidOut, IsOf, CodeRuns}
use Rattle.frame_code.proofs.Blocks.{all-stand}
use Rattle.frame_code.proofs.Simple.{simple-step}
use Rattle.frame_code.proofs.Steps.{by-inst}
use Rattle.frame_code.proofs.Keeping.{ranges-at}
use Rattle.frame_code.proofs.Accesses.{load-step, store-step}
use Rattle.frame_code.proofs.Loops.{copy-step, fill-step}
use Rattle.frame_code.proofs.Calls.{call-step}
use Rattle.frame_code.proofs.Taking.{take-step}
use Rattle.frame_code.proofs.Returning.{return-step}
use Rattle.frame_code.proofs.Entering.{enter-step}

-- what words do for one relation they do for each that follows from it
module _ (m : Meaning) (S : Type 0) (a : Invocation) (s : Machine) (words : Words) (At Then : S → Point → Type 0) (left : S → ℕ) (follows : (now : S) (p : Point) → At now p → Then now p) where
  resumed-follows : (more : ℕ) (p : Point) (next : S) → Resumed m S a s words At left more p next → Resumed m S a s words Then left more p next
  resumed-follows more p next h = record { point = h.point; run = h.run; at = follows next h.point h.at }

  advances-follows : (spent top weight : ℕ) (p : Point) (does : Does S) → Advances m S a s words At left spent top weight p does → Advances m S a s words Then left spent top weight p does
  advances-follows spent top weight p (Goes next) h = record { count = h.count; point = h.point; moves = h.moves; few = h.few; run = h.run; at = follows next h.point h.at }
  advances-follows spent top weight p (Asks callee args memory next) h =
      λ exists. let x = h exists in
      record {
        count = x.count;
        more = x.more;
        point = x.point;
        some = x.some;
        few = x.few;
        run = x.run;
        call = x.call;
        back = λ r c of fits long. resumed-follows x.more _ _ (x.back r c of fits long);
      }
  advances-follows spent top weight p (Gives value memory) h = record { count = h.count; point = h.point; few = h.few; run = h.run; is = h.is }
  advances-follows spent top weight p Wants h = record { count = h.count; point = h.point; few = h.few; run = h.run; is = h.is }
  advances-follows spent top weight p Breaks h = tt

module _ (m : Meaning) (f : MFunction) (places : Places) (can : CanLayOut f places) (of : IsOf m f) where
  -- ---- each step

  module _ (a : Invocation) (base : ℕ) (s : Machine) (words : List ℕ) (labels : ℕ → ℕ) (there : StandsLaidOut m f places a s (words_at words base s) labels) (own : a.symbol ≡ f.symbol) (enters : Enters m a s) where
    abbrev At : State → Point → Type 0
    At = Here m f places a s (words_at words base s) labels

    abbrev Does_it : State → Point → Step State → Type 0
    Does_it now p st = Advances m State a s (words_at words base s) At (left f) 0 (left f now) st.weight p st.does

    by-none : (now : State) (p : Point) (inst : MInst) (rest : List MInst) → now.rest ≡ inst ∷ rest → Does_it now p (by_inst f now rest inst) → Does_it now p (step f now)
    by-none = by-inst m there.functions there.room f places can.intervals can.covers can.fits a s there.wide there.high (words_at words base s) there.low_base there.high_base labels

    inst-step : (now : State) (p : Point) (inst : MInst) (rest : List MInst) → At now p → now.rest ≡ inst ∷ rest → Does_it now p (step f now)
    inst-step now p (Param d n) rest h ahead = simple-step m f places a s (words_at words base s) labels can there now p (Param d n) rest h ahead (ranges-at m f places a s (words_at words base s) labels can there now p (Param d n) rest h ahead)
    inst-step now p (Op op d b c) rest h ahead = simple-step m f places a s (words_at words base s) labels can there now p (Op op d b c) rest h ahead tt
    inst-step now p (Imm op d b n) rest h ahead = simple-step m f places a s (words_at words base s) labels can there now p (Imm op d b n) rest h ahead tt
    inst-step now p (Const d n) rest h ahead = simple-step m f places a s (words_at words base s) labels can there now p (Const d n) rest h ahead tt
    inst-step now p (Move d b) rest h ahead = simple-step m f places a s (words_at words base s) labels can there now p (Move d b) rest h ahead tt
    inst-step now p (Branch op b c t e) rest h ahead = simple-step m f places a s (words_at words base s) labels can there now p (Branch op b c t e) rest h ahead tt
    inst-step now p (Jump t) rest h ahead = simple-step m f places a s (words_at words base s) labels can there now p (Jump t) rest h ahead tt
    inst-step now p (Load op d b n) rest h ahead = load-step m f places a s (words_at words base s) labels can there now p op d b n rest h ahead
    inst-step now p (Store op b c n) rest h ahead = store-step m f places a s (words_at words base s) labels can there now p op b c n rest h ahead
    inst-step now p (Phi d pairs) rest h ahead = by-none now p (Phi d pairs) rest ahead tt
    inst-step now p (Call g args results) rest h ahead = call-step m f places a s (words_at words base s) labels can there of own now p g args results rest h ahead
    inst-step now p (TakeData d n) rest h ahead = take-step m f places a s (words_at words base s) labels can there of now p d n rest h ahead
    inst-step now p (CopyBytes b c d) rest h ahead = copy-step m f places a s (words_at words base s) labels can there now p b c d rest h ahead
    inst-step now p (FillBytes b c d) rest h ahead = fill-step m f places a s (words_at words base s) labels can there now p b c d rest h ahead
    inst-step now p (Return rs) rest h ahead =
        return-step m f places a s (words_at words base s) labels can there refl enters.ra.0 (enters.regs 1) enters.sp enters.top now p rs rest h ahead
    inst-step now p Trap rest h ahead = by-none now p Trap rest ahead tt

    each-step : (now : State) (p : Point) → At now p → Does_it now p (step f now)
    each-step now p h = by_rest now.rest refl
      where
        by_rest : (rest : List MInst) → now.rest ≡ rest → Does_it now p (step f now)
        by_rest [] e = subst (Does_it now p) (sym (ap (step_at f now) e)) tt
        by_rest (inst ∷ rest) e = inst-step now p inst rest h e

  -- ---- from the entry

  module _ (words : List ℕ) (functions : m.functions ≤ 1024) (room : m.room ≤ 67108864) (everywhere : StandEverywhere m words (function_items f places)) where
    -- the words stand with some labels, and the machine for the state
    record Standing (a : Invocation) (base : ℕ) (s : Machine) (now : State) (p : Point) : Type 0 where
      labels : ℕ → ℕ
      there : StandsLaidOut m f places a s (words_at words base s) labels
      here : Here m f places a s (words_at words base s) labels now p

    abbrev fr : ℕ
    fr = frame_of f.values

    begins : (a : Invocation) (base : ℕ) (s : Machine) → a.symbol ≡ f.symbol → IsInvocation m a → IsBase words base → Enters m a s
        → (top : ℕ) × Advances m State a s (words_at words base s) (Standing a base s) (left f) 3 top 160 (entered base s) (enter f (entry_at m a s)).does
    begins a base s own is stands enters = (suc (left f (first f (entry_at m a s))), by_room (nat_lt a.sp (control_base + fr)) refl)
      where
        x : (labels : ℕ → ℕ) × ((label : ℕ) → labels label % 4 ≡ 0) × StandsAs m (words_at words base s) labels base (function_items f places)
        x = everywhere (words_at words base s) refl stands

        halves : Stand (words_at words base s) base (prologue f.symbol fr) × Stand (words_at words base s) (base + 4 * length (prologue f.symbol fr)) (save_code fr (used places))
        halves = stands-apart (words_at words base s) base (prologue f.symbol fr) (save_code fr (used places)) (plain-apart m (words_at words base s) x.0 base (entry_code f places) (blocks_items f places 0 f.blocks) x.2).0

        by_room : (b : Bool) → nat_lt a.sp (control_base + fr) ≡ b
            → Advances m State a s (words_at words base s) (Standing a base s) (left f) 3 (suc (left f (first f (entry_at m a s)))) 160 (entered base s) (if b then Wants else Goes (first f (entry_at m a s)))
        by_room true e =
            let y = overflows a s (a.sp - fr) fr m functions room (words_at words base s) stands.low stands.high is.symbol (omega arith) can.small enters.sp is.sp_low is.sp_high refl enters.regs a.memory enters.memory (ltb-true a.sp (control_base + fr) e)
            (subst (Stand (words_at words base s) base) (ap (λ (g : ℕ). prologue g fr) (sym own)) halves.0) in
            let short = lowered-short fr in
            record { count = 7 + length (lowered_code fr); point = y.0; few = omega (arith, short); run = y.2; is = y.1 }
        by_room false e =
            let there : StandsLaidOut m f places a s (words_at words base s) x.0 = record {
              functions = functions;
              room = room;
              wide = ltb-false a.sp (control_base + fr) e;
              high = is.sp_high;
              low_base = stands.low;
              high_base = stands.high;
              entering = enters.sp;
              aligned = x.1;
              placed = all-stand m (words_at words base s) x.0 f places x.2;
            } in
            advances-follows m State a s (words_at words base s) (Here m f places a s (words_at words base s) x.0) (Standing a base s) (left f) (λ now p h. record { labels = x.0; there = there; here = h })
            3 (suc (left f (first f (entry_at m a s)))) 160 (entered base s) (Goes (first f (entry_at m a s)))
            (enter-step m f places a s (words_at words base s) x.0 can there of own is stands.aligned enters x.2)

    goes-on : (a : Invocation) (base : ℕ) (s : Machine) → a.symbol ≡ f.symbol → IsInvocation m a → IsBase words base → Enters m a s
        → (now : State) (p : Point) → Standing a base s now p → Advances m State a s (words_at words base s) (Standing a base s) (left f) 0 (left f now) (step f now).weight p (step f now).does
    goes-on a base s own is stands enters now p h =
        advances-follows m State a s (words_at words base s) (Here m f places a s (words_at words base s) h.labels) (Standing a base s) (left f) (λ next q at. record { labels = h.labels; there = h.there; here = at })
        0 (left f now) (step f now).weight p (step f now).does (each-step a base s words h.labels h.there own enters now p h.here)

    does-each : DoesEach m f.symbol words (walk f) Standing (left f)
    does-each = record { begins = begins; goes_on = goes-on }

pub code-runs : CodeRuns
code-runs m f places words functions room of can everywhere = runs_as m f.symbol words (walk f) (Standing m f places can of words functions room everywhere) (left f) (does-each m f places can of words functions room everywhere)
