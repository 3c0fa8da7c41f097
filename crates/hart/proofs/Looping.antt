-- Code words one after another, with the program counter and the instructions left beside the hart.
use Rattle.std.proofs.Common.{◌≡◌, refl, sym, ap, subst, ◌∙◌, ℕ, ◌+◌, ◌-◌, ◌*◌, ◌/◌, ◌%◌, ◌<◌, ◌≤◌, ◌==◌, ◌&&◌, nat_le, nat_lt, Bool, true, false, List, [], ◌∷◌, ◌++◌, Option, arith}
use Rattle.ir_meaning.specs.Plays.{Meaning}
use Rattle.rv_encode.specs.Reading.{instr_of}
use Rattle.rv_core.specs.declared.step.Regs.{Regs}
use Rattle.rv_core.specs.Step.{view}
use Rattle.rv_play.specs.Machine.{exit_address, stub_base, stub_of, code_base, data_base, control_base}
use Rattle.rv_play.specs.Ending.{Item, Saw, Run, Goes, in_code, do_decoded, seen, goes_to}
use Rattle.hart.specs.declared.form.Form.{Form}
use Rattle.hart.specs.declared.hart.Hart.{Hart}
use Rattle.hart.specs.declared.hart.Wanted.{Wanted}
use Rattle.hart.specs.declared.hart.Wanted.TheVariants as wanted
use Rattle.hart.specs.declared.hart.Phase.{Phase}
use Rattle.hart.specs.declared.hart.Phase.TheVariants as phase
use Rattle.hart.specs.declared.map.At.TheVariants.{Code}
use Rattle.hart.specs.Standing.{IsFor, IsSameCall, Waits, Turns, HasTurned, run_of, goes_on, rest_of, with_counted, turns_left, at_of}
use Rattle.hart.specs.Places.{bytes_from}
use Rattle.hart.specs.Forms.{reads_as}
use Rattle.hart.specs.Steps.{RunsAt, at_address, standing_at}
use Rattle.hart.proofs.Stores.{pick, pick_no}
use Rattle.hart.proofs.Turning.{for_same, same_then, going_same, seen_word, steps_in_code, code_address, has_left}

-- a code word is at no other place of the address map
pub at_in_code : (h : Hart) → h.functions ≤ 1024 → (h.left == 0) ≡ false → in_code h.code_words h.regs.pc ≡ true → at_of h ≡ Code
at_in_code h few s c =
    let low : code_base ≤ h.regs.pc = grind arith in
    pick_no (h.regs.pc == exit_address) _ _ (grind arith)
    ∙ pick_no (h.left == 0) _ _ s
    ∙ pick_no ((nat_le stub_base h.regs.pc) && ((nat_lt h.regs.pc (stub_of h.functions)) && (h.regs.pc % 4 == 0))) _ _ (grind arith)
    ∙ pick (in_code h.code_words h.regs.pc) _ _ c

-- the hart waits for the word at its program counter
pub waits_for_word : (h : Hart) → h.phase ≡ phase.Fetch → at_of h ≡ Code → Waits h (standing_at h.regs.pc (h.left - 1) h) (wanted.Fetch h.regs.pc)
waits_for_word h p a = record {
  goes = λ m f counted pass.
      subst (λ (q : Phase). goes_on m h (run_of h counted pass) ≡ rest_of m (standing_at h.regs.pc (h.left - 1) h) q (with_counted q counted) pass) (sym p)
      (steps_in_code m h counted pass f a);
  wanted = subst (λ (q : Phase). Rattle.hart.specs.Standing.wanted_by h q (wanted.Fetch h.regs.pc)) (sym p) refl;
  asked = code_address h a;
  same = record { room = refl; widths = refl; functions = refl; code_words = refl; width = refl; fuel = refl };
  fewer = subst (λ (q : Phase). turns_left (standing_at h.regs.pc (h.left - 1) h) q < 2 * h.left + 2) (sym p) (let some = has_left h a in omega arith);
}

-- all but the forms of words is the same
pub record IsAlike (h k : Hart) : Type 0 where
  pub same : IsSameCall h k
  pub regs : k.regs ≡ h.regs
  pub bytes : k.bytes.items ≡ h.bytes.items
  pub control : k.control.items ≡ h.control.items
  pub phase : k.phase ≡ h.phase

abbrev run_with : Regs → List ℕ → List ℕ → ℕ → List ℕ → List Item → Run
run_with r b c pc counted pass = record {
  machine = record { regs = view (record r { pc = pc }); bytes = bytes_from data_base b; control = bytes_from control_base c };
  pass = pass;
  counted = counted;
}

pub run_alike : (h k : Hart) (pc : ℕ) (counted : List ℕ) (pass : List Item) → IsAlike h k → run_of (at_address pc h) counted pass ≡ run_of (at_address pc k) counted pass
run_alike h k pc counted pass a =
    ap (λ (r : Regs). run_with r h.bytes.items h.control.items pc counted pass) (sym a.regs)
    ∙ ap (λ (b : List ℕ). run_with k.regs b h.control.items pc counted pass) (sym a.bytes)
    ∙ ap (λ (c : List ℕ). run_with k.regs k.bytes.items c pc counted pass) (sym a.control)

standing_same : (h k : Hart) (pc pc' left left' : ℕ) → IsSameCall h k → IsSameCall (standing_at pc left h) (standing_at pc' left' k)
standing_same h k pc pc' left left' s = record {
  room = s.room;
  widths = s.widths;
  functions = s.functions;
  code_words = s.code_words;
  width = s.width;
  fuel = s.fuel;
}

pub runs_alike : (h k h' : Hart) (pc next : ℕ) (f : Form) → IsAlike h k → RunsAt k pc f h' next → RunsAt h pc f h' next
runs_alike h k h' pc next f a r = λ o. record {
  goes = λ m for_it counted pass.
      ap (λ (x : Run). do_decoded m x (reads_as f o)) (run_alike h k pc counted pass a) ∙ (r o).goes m (for_same m h k for_it a.same) counted pass;
  same = same_then h k h' a.same (r o).same;
  phase = (r o).phase ∙ a.phase;
}

pub turned_alike : (h k h'' : Hart) (pc left word : ℕ) → IsAlike h k → h.phase ≡ phase.Fetch
    → HasTurned (standing_at pc left k) h'' (Saw pc word ∷ []) → HasTurned (standing_at pc left h) h'' (Saw pc word ∷ [])
turned_alike h k h'' pc left word a p t =
    let same : IsSameCall (standing_at pc left h) (standing_at pc left k) = standing_same h k pc pc left left a.same in
    let q : k.phase ≡ phase.Fetch = a.phase ∙ p in (
      t.0,
      record {
        goes = λ m for_it counted pass.
            ap (λ (x : Phase). rest_of m (standing_at pc left h) x counted (Saw pc word ∷ pass)) p
            ∙ ap (λ (x : Run). goes_to (goes_on m (standing_at pc left h)) (seen m x (Saw pc word ∷ pass))) (run_alike h k pc counted (Saw pc word ∷ pass) a)
            ∙ going_same m (standing_at pc left h) (standing_at pc left k) left (seen m (run_of (standing_at pc left k) counted (Saw pc word ∷ pass)) (Saw pc word ∷ pass)) same refl
            ∙ sym (ap (λ (x : Phase). rest_of m (standing_at pc left k) x counted (Saw pc word ∷ pass)) q)
            ∙ t.1.goes m (for_same m (standing_at pc left h) (standing_at pc left k) for_it same) counted pass;
        wanted = t.1.wanted;
        asked = t.1.asked;
        same = same_then (standing_at pc left h) (standing_at pc left k) h'' same t.1.same;
        fewer = subst (λ (x : Phase). turns_left h'' h''.phase < turns_left (standing_at pc left h) x) (sym p)
            (let less : turns_left h'' h''.phase < 2 * left + 3 = subst (λ (x : Phase). turns_left h'' h''.phase < turns_left (standing_at pc left k) x) q t.1.fewer in less);
      },
    )

pub turned_by : (h j k h'' : Hart) (pc left word : ℕ) → j ≡ k → IsAlike h k → h.phase ≡ phase.Fetch
    → HasTurned (standing_at pc left j) h'' (Saw pc word ∷ []) → HasTurned (standing_at pc left h) h'' (Saw pc word ∷ [])
turned_by h j k h'' pc left word e a p t =
    turned_alike h k h'' pc left word a p (subst (λ (i : Hart). HasTurned (standing_at pc left i) h'' (Saw pc word ∷ [])) e t)

-- the form of the word that was given has been run, and the call has gone on from there
pub form_turned : (h h' h'' : Hart) (pc left word next : ℕ) (f : Form) (w : Wanted)
    → h.phase ≡ phase.Fetch → reads_as f (instr_of word) ≡ instr_of word → RunsAt h pc f h' next
    → Waits (standing_at next left h') h'' w → Turns (standing_at pc left h) h'' (Saw pc word ∷ []) w
form_turned h h' h'' pc left word next f w p e r k =
    let does = r (instr_of word) in
    let same : IsSameCall (standing_at pc left h) (standing_at next left h') = standing_same h h' pc next left left does.same in
    record {
      goes = λ m for_it counted pass.
          ap (λ (q : Phase). rest_of m (standing_at pc left h) q counted (Saw pc word ∷ pass)) p
          ∙ ap (goes_to (goes_on m (standing_at pc left h)))
          (seen_word m (standing_at pc left h) counted pass word
          ∙ ap (do_decoded m (run_of (standing_at pc left h) counted pass)) (sym e)
          ∙ does.goes m (record { functions = for_it.functions; room = for_it.room; results = for_it.results }) counted pass)
          ∙ going_same m (standing_at pc left h) (standing_at next left h') left (Goes (run_of (standing_at next left h') counted pass)) same refl
          ∙ k.goes m (for_same m (standing_at pc left h) (standing_at next left h') for_it same) counted pass;
      wanted = k.wanted;
      asked = k.asked;
      same = same_then (standing_at pc left h) (standing_at next left h') h'' same k.same;
      fewer = subst (λ (q : Phase). turns_left h'' h''.phase < turns_left (standing_at pc left h) q) (sym p) (let few = k.fewer in omega arith);
    }

-- the same where the next word is wanted
pub form_to_word : (h h' : Hart) (pc left word next : ℕ) (f : Form)
    → h.phase ≡ phase.Fetch → h'.functions ≤ 1024 → (left == 0) ≡ false → in_code h'.code_words next ≡ true
    → reads_as f (instr_of word) ≡ instr_of word → RunsAt h pc f h' next
    → HasTurned (standing_at pc left h) (standing_at next (left - 1) h') (Saw pc word ∷ [])
form_to_word h h' pc left word next f p few some c e r = (
  wanted.Fetch next,
  form_turned h h' (standing_at next (left - 1) h') pc left word next f (wanted.Fetch next) p e r
      (waits_for_word (standing_at next left h') ((r (instr_of word)).phase ∙ p) (at_in_code (standing_at next left h') few some c)),
)

pub same_as : (h h'' : Hart) (pc left : ℕ) → IsSameCall (standing_at pc left h) h'' → IsSameCall h h''
same_as h h'' pc left s = record {
  room = s.room;
  widths = s.widths;
  functions = s.functions;
  code_words = s.code_words;
  width = s.width;
  fuel = s.fuel;
}
