-- From one turn of a hart to the next.
use Rattle.std.proofs.Common.{◌≡◌, refl, sym, ap, ◌∙◌, ℕ, zero, suc, ◌-◌, ◌/◌, ◌%◌, ◌^◌, ◌<◌, ◌≤◌, Bool, true, false, cond, List, ◌∷◌, Option, Some, arith, mod-eq_of_lt}
use Rattle.std.specs.Prelude.{nat_le, nat_lt, ◌==◌, ◌&&◌}
use Rattle.std.proofs.Math.Pow.{pow_mono}
use Rattle.rv_core.specs.declared.reg.Reg.{Reg}
use Rattle.rv_core.specs.declared.instr.Instr.{Instr}
use Rattle.rv_core.specs.Step.{view, write}
use Rattle.rv_encode.specs.Reading.{instr_of}
use Rattle.ir_meaning.specs.Plays.{Meaning}
use Rattle.rv_play.specs.Machine.{exit_address, stub_base, stub_of}
use Rattle.rv_play.specs.Ending.{Item, Held, Saw, Run, Next, Goes, Ends, Misfit, at_exit, in_stubs, in_code, stub_instr, do_instr, do_decoded, seen, goes_to, run}
use Rattle.hart.specs.declared.hart.Hart.{Hart}
use Rattle.hart.specs.declared.hart.Wanted.{Wanted}
use Rattle.hart.specs.declared.hart.Did.{Did}
use Rattle.hart.specs.declared.hart.Phase.{Phase}
use Rattle.hart.specs.declared.hart.Phase.TheVariants as phase
use Rattle.hart.specs.declared.map.At.TheVariants.{Exit, Spent, Stub, Code, Nowhere}
use Rattle.hart.specs.Standing.{IsFor, IsSameCall, IsCodeAddress, Waits, machine_of, run_of, next_of, cell_given, goes_on, rest_of, at_of}
use Rattle.hart.proofs.Stores.{pick, pick_no}

pub wide : (v w : ℕ) → v < 2 ^ 64 → 64 ≤ w → v ≡ v % 2 ^ w
wide v w h k = let m : 2 ^ 64 ≤ 2 ^ w = pow_mono k in sym (mod-eq_of_lt (let below : v < 2 ^ w = omega arith in below))

pub for_same : (m : Meaning) (h h' : Hart) → IsFor m h → IsSameCall h h' → IsFor m h'
for_same m h h' f s = record {
  functions = f.functions ∙ sym s.functions;
  room = f.room ∙ sym s.room;
  results = λ symbol below. rw s.widths (f.results symbol below);
}

pub same_then : (h h' h'' : Hart) → IsSameCall h h' → IsSameCall h' h'' → IsSameCall h h''
same_then h h' h'' s t = record {
  room = t.room ∙ s.room;
  widths = t.widths ∙ s.widths;
  functions = t.functions ∙ s.functions;
  code_words = t.code_words ∙ s.code_words;
  width = t.width ∙ s.width;
  fuel = t.fuel ∙ s.fuel;
}

-- the numbers of the call are the same
pub going_same : (m : Meaning) (h h' : Hart) (n : ℕ) (x : Next) → IsSameCall h h' → h'.left ≡ n
    → goes_to (run m h.code_words h.width h.fuel n) x ≡ goes_to (goes_on m h') x
going_same m h h' n (Goes r) s e = cc (s.code_words, s.width, s.fuel, e)
going_same m h h' n (Ends e' r) s e = refl
going_same m h h' n Misfit s e = refl

-- ---- where the program counter stands

at_stub : (e s t d : Bool) (a b symbol place : ℕ) → cond e Exit (cond s Spent (cond t (Stub a b) (cond d Code Nowhere))) ≡ Stub symbol place
    → (e ≡ false) × (s ≡ false) × (t ≡ true) × (symbol ≡ a) × (place ≡ b)
at_stub true s t d a b symbol place h = absurd (let bad : Exit ≡ Stub symbol place = h in cc)
at_stub false true t d a b symbol place h = absurd (let bad : Spent ≡ Stub symbol place = h in cc)
at_stub false false true d a b symbol place h = let e : Stub a b ≡ Stub symbol place = h in (refl, refl, refl, cc, cc)
at_stub false false false true a b symbol place h = absurd (let bad : Code ≡ Stub symbol place = h in cc)
at_stub false false false false a b symbol place h = absurd (let bad : Nowhere ≡ Stub symbol place = h in cc)

at_code : (e s t d : Bool) (a b : ℕ) → cond e Exit (cond s Spent (cond t (Stub a b) (cond d Code Nowhere))) ≡ Code
    → (e ≡ false) × (s ≡ false) × (t ≡ false) × (d ≡ true)
at_code true s t d a b h = absurd (let bad : Exit ≡ Code = h in cc)
at_code false true t d a b h = absurd (let bad : Spent ≡ Code = h in cc)
at_code false false true d a b h = absurd (let bad : Stub a b ≡ Code = h in cc)
at_code false false false true a b h = (refl, refl, refl, refl)
at_code false false false false a b h = absurd (let bad : Nowhere ≡ Code = h in cc)

-- a run that isn't at the exit and has fuel does its next instruction
pub steps : (m : Meaning) (code_words : ℕ) (width : Option ℕ) (fuel left : ℕ) (r : Run) (x : Next) → at_exit r ≡ false → (left == 0) ≡ false
    → Rattle.rv_play.specs.Ending.do_next m code_words r ≡ x → run m code_words width fuel left r ≡ goes_to (run m code_words width fuel (left - 1)) x
steps m code_words width fuel zero r x e s f = absurd (let bad : true ≡ false = s in cc)
steps m code_words width fuel (suc n) r x e s f =
    let less : suc n - 1 ≡ n = omega arith in
    pick_no (at_exit r) _ _ e ∙ ap (goes_to (run m code_words width fuel n)) f ∙ ap (λ (k : ℕ). goes_to (run m code_words width fuel k) x) (sym less)

abbrev place_in_stub : Hart → ℕ
place_in_stub h = (h.regs.pc - stub_base) % 16 / 4

pub steps_in_stub : (m : Meaning) (h : Hart) (counted : List ℕ) (pass : List Item) (symbol place : ℕ) → IsFor m h → at_of h ≡ Stub symbol place
    → goes_on m h (run_of h counted pass) ≡ goes_to (run m h.code_words h.width h.fuel (h.left - 1)) (do_instr m (run_of h counted pass) (stub_instr symbol place))
steps_in_stub m h counted pass symbol place f a =
    let t = at_stub (h.regs.pc == exit_address) (h.left == 0)
    ((nat_le stub_base h.regs.pc) && ((nat_lt h.regs.pc (stub_of h.functions)) && (h.regs.pc % 4 == 0)))
    (in_code h.code_words h.regs.pc) ((h.regs.pc - stub_base) / 16) (place_in_stub h) symbol place a in
    let inside : in_stubs m h.regs.pc ≡ true =
    ap (λ (n : ℕ). (nat_le stub_base h.regs.pc) && ((nat_lt h.regs.pc (stub_of n)) && (h.regs.pc % 4 == 0))) f.functions ∙ t.2 in
    steps m h.code_words h.width h.fuel h.left (run_of h counted pass) _ t.0 t.1
    (pick (in_stubs m h.regs.pc) _ _ inside
    ∙ ap (λ (k : ℕ). do_instr m (run_of h counted pass) (stub_instr k (place_in_stub h))) (sym t.3)
    ∙ ap (λ (k : ℕ). do_instr m (run_of h counted pass) (stub_instr symbol k)) (sym t.4))

pub steps_in_code : (m : Meaning) (h : Hart) (counted : List ℕ) (pass : List Item) → IsFor m h → at_of h ≡ Code
    → goes_on m h (run_of h counted pass) ≡ goes_to (run m h.code_words h.width h.fuel (h.left - 1)) (seen m (run_of h counted pass) pass)
steps_in_code m h counted pass f a =
    let t = at_code (h.regs.pc == exit_address) (h.left == 0)
    ((nat_le stub_base h.regs.pc) && ((nat_lt h.regs.pc (stub_of h.functions)) && (h.regs.pc % 4 == 0)))
    (in_code h.code_words h.regs.pc) ((h.regs.pc - stub_base) / 16) (place_in_stub h) a in
    let outside : in_stubs m h.regs.pc ≡ false =
    ap (λ (n : ℕ). (nat_le stub_base h.regs.pc) && ((nat_lt h.regs.pc (stub_of n)) && (h.regs.pc % 4 == 0))) f.functions ∙ t.2 in
    steps m h.code_words h.width h.fuel h.left (run_of h counted pass) _ t.0 t.1
    (pick_no (in_stubs m h.regs.pc) _ _ outside ∙ pick (in_code h.code_words h.regs.pc) _ _ t.3)

pub has_left : (h : Hart) → at_of h ≡ Code → 0 < h.left
has_left h a =
    let t = at_code (h.regs.pc == exit_address) (h.left == 0)
    ((nat_le stub_base h.regs.pc) && ((nat_lt h.regs.pc (stub_of h.functions)) && (h.regs.pc % 4 == 0)))
    (in_code h.code_words h.regs.pc) ((h.regs.pc - stub_base) / 16) (place_in_stub h) a in
    let some : (h.left == 0) ≡ false = t.1 in grind arith

pub code_address : (h : Hart) → at_of h ≡ Code → IsCodeAddress h.code_words h.regs.pc
code_address h a =
    let t = at_code (h.regs.pc == exit_address) (h.left == 0)
    ((nat_le stub_base h.regs.pc) && ((nat_lt h.regs.pc (stub_of h.functions)) && (h.regs.pc % 4 == 0)))
    (in_code h.code_words h.regs.pc) ((h.regs.pc - stub_base) / 16) (place_in_stub h) a in
    let inside : in_code h.code_words h.regs.pc ≡ true = t.3 in (grind arith, grind arith, grind arith)

pub has_left_in_stub : (h : Hart) (symbol place : ℕ) → at_of h ≡ Stub symbol place → 0 < h.left
has_left_in_stub h symbol place a =
    let t = at_stub (h.regs.pc == exit_address) (h.left == 0)
    ((nat_le stub_base h.regs.pc) && ((nat_lt h.regs.pc (stub_of h.functions)) && (h.regs.pc % 4 == 0)))
    (in_code h.code_words h.regs.pc) ((h.regs.pc - stub_base) / 16) (place_in_stub h) symbol place a in
    let some : (h.left == 0) ≡ false = t.1 in grind arith

-- a stub's instruction has led to this
pub stub_done : (m : Meaning) (h h' : Hart) (counted : List ℕ) (pass : List Item) (symbol place : ℕ) (i : Instr) (d : Did)
    → IsFor m h → at_of h ≡ Stub symbol place → i ≡ stub_instr symbol place → do_instr m (run_of h counted pass) i ≡ next_of h' counted pass d
    → IsSameCall h h' → h'.left ≡ h.left - 1
    → goes_on m h (run_of h counted pass) ≡ goes_to (goes_on m h') (next_of h' counted pass d)
stub_done m h h' counted pass symbol place i d f a e g s l =
    steps_in_stub m h counted pass symbol place f a
    ∙ ap (λ (j : Instr). goes_to (run m h.code_words h.width h.fuel (h.left - 1)) (do_instr m (run_of h counted pass) j)) (sym e)
    ∙ ap (goes_to (run m h.code_words h.width h.fuel (h.left - 1))) g
    ∙ going_same m h h' (h.left - 1) (next_of h' counted pass d) s l

-- ---- several steps

pub waits_after : (h h' h'' : Hart) (w : Wanted)
    → ((m : Meaning) → IsFor m h → (counted : List ℕ) (pass : List Item) → goes_on m h (run_of h counted pass) ≡ goes_on m h' (run_of h' counted pass))
    → IsSameCall h h' → h'.left ≤ h.left → Waits h' h'' w → Waits h h'' w
waits_after h h' h'' w g s l k = record {
  goes = λ m f counted pass. g m f counted pass ∙ k.goes m (for_same m h h' f s) counted pass;
  wanted = k.wanted;
  asked = k.asked;
  same = same_then h h' h'' s k.same;
  fewer = let below = k.fewer in omega arith;
}

pub same_number : (n : ℕ) → (n == n) ≡ true
same_number n = grind arith

-- the word that the hart waits for
pub seen_word : (m : Meaning) (h : Hart) (counted : List ℕ) (pass : List Item) (word : ℕ)
    → seen m (run_of h counted (Saw h.regs.pc word ∷ pass)) (Saw h.regs.pc word ∷ pass) ≡ do_decoded m (run_of h counted pass) (instr_of word)
seen_word m h counted pass word = pick (h.regs.pc == h.regs.pc) _ _ (same_number h.regs.pc)

-- the base that the hart waits for
pub given_base : (h : Hart) (counted : List ℕ) (pass : List Item) (rd : Reg) (symbol base : ℕ)
    → cell_given (machine_of h) counted rd symbol (Held symbol base ∷ pass)
    ≡ Goes (record { machine = record (machine_of h) { regs = write (view h.regs) rd base }; pass = pass; counted = counted })
given_base h counted pass rd symbol base = pick (symbol == symbol) _ _ (same_number symbol)

-- the instruction of the word that was given has led to this
pub word_done : (m : Meaning) (h h' : Hart) (counted : List ℕ) (pass : List Item) (word : ℕ) (i : Instr) (d : Did)
    → h.phase ≡ phase.Fetch → instr_of word ≡ Some i → do_instr m (run_of h counted pass) i ≡ next_of h' counted pass d
    → IsSameCall h h' → h'.left ≡ h.left
    → rest_of m h h.phase counted (Saw h.regs.pc word ∷ pass) ≡ goes_to (goes_on m h') (next_of h' counted pass d)
word_done m h h' counted pass word i d p e g s l =
    ap (λ (q : Phase). rest_of m h q counted (Saw h.regs.pc word ∷ pass)) p
    ∙ ap (goes_to (goes_on m h)) (seen_word m h counted pass word ∙ ap (do_decoded m (run_of h counted pass)) e ∙ g)
    ∙ going_same m h h' h.left (next_of h' counted pass d) s l
