-- The words of the calling function do what each of its steps does.
use Rattle.std.proofs.Common.{◌≡◌, refl, sym, ap, subst, ◌∙◌, ℕ, zero, suc, ◌+◌, ◌-◌, ◌*◌, ◌<◌, ◌≤◌, inr, List, [], ◌∷◌, ◌++◌, length, Bool, true, false, Some, None, arith}
use Rattle.std.specs.Prelude.{nat_lt, take, slice_index_or, if◌then◌else◌}
use Rattle.std.proofs.lemmas.Bool.{ltb-true, ltb-false}
use Rattle.rv_core.specs.declared.reg.Reg.TheVariants.{A0, S11}
use Rattle.rv_core.specs.Instr.{AreValid}
use Rattle.ir_meaning.specs.Memory.{Memory}
use Rattle.ir_meaning.specs.Step.{stack_start}
use Rattle.ir_meaning.specs.Plays.{Meaning, Invocation}
use Rattle.ir_meaning.specs.Ranges.{IsInvocation}
use Rattle.rv_play.specs.Machine.{Machine, data_base, control_base}
use Rattle.rv_play.specs.CodePlay.{Place, Point, CodeReply, place_of, entered, resume, code_run, kept_regs}
use Rattle.rv_play.specs.CodePlay as code_play
use Rattle.rv_play.specs.Good.{IsBase, Enters, KeepsControl, RefinesMemory, arg_regs}
use Rattle.rv_play.proofs.Lines.{Stands, stands-from, stands-apart, goes-none}
use Rattle.walks.specs.Walk.{Bits, Reply, Does, Goes, Wants}
use Rattle.walks.specs.Bits.{free, constant, cut}
use Rattle.walks.specs.Refines.{RefinesBits}
use Rattle.walks.proofs.Compose.{same_bits, bits_compose}
use Rattle.code_pieces.specs.Code.{prologue, call_code, leave_code, lowered_code, store_at, load_at, raised_code}
use Rattle.code_pieces.proofs.Frame.{Holds, saved_regs, keeps-last}
use Rattle.code_pieces.proofs.Entry.{overflows, opens, lowered-short}
use Rattle.code_pieces.proofs.Calling.{call_point, call-runs, hold-call, hold-resumed}
use Rattle.code_pieces.proofs.Ends.{leaves, leave-short}
use Rattle.good_code.specs.Runs.{register, registers_of, entry_at, AtReturn}
use Rattle.good_code.proofs.BySteps.{Advances, Onward, Asked, Stopped, runs_as}
use Rattle.mir.specs.declared.code.MInst.{MInst}
use Rattle.mir.specs.declared.code.MInst.TheVariants.{Param, Call, Return}
use Rattle.mir_play.specs.Play.{State, first, step, walk}
use Rattle.walks.specs.Registers.{Registers as MRegisters, unwritten, write}
use Rattle.good_samples.specs.Calling.{calling, calling_program, code, words, CallingRuns}

-- bytes of the frame of a function of two values
abbrev frame : ℕ
frame = 192

-- the words in their parts
in_parts : code ≡ prologue 0 frame ++ (call_code 1 ++ leave_code frame)
unfolding lowered_code store_at load_at raised_code
in_parts = refl

opening-long : length (prologue 0 frame) ≡ 10
unfolding lowered_code store_at
opening-long = refl

valid : AreValid code
valid = (
  (omega arith, omega arith),
  (
    (omega arith, omega arith),
    (
      tt,
      (
        (omega arith, omega arith),
        (
          omega arith,
          (
            (omega arith, omega arith, refl),
            (
              (omega arith, omega arith),
              (
                tt,
                (
                  (omega arith, omega arith),
                  (
                    (omega arith, omega arith),
                    (
                      omega arith,
                      (
                        (omega arith, omega arith),
                        (
                          (omega arith, omega arith),
                          (
                            (omega arith, omega arith),
                            (
                              (omega arith, omega arith),
                              tt,
                            ),
                          ),
                        ),
                      ),
                    ),
                  ),
                ),
              ),
            ),
          ),
        ),
      ),
    ),
  ),
)

-- ---- the states of the function

abbrev pub leaves_with : List MInst
leaves_with = Return (1 ∷ []) ∷ []

abbrev pub calls_with : List MInst
calls_with = Call 1 (0 ∷ []) (1 ∷ []) ∷ leaves_with

-- with so much of its block left
abbrev pub with_left : List MInst → List Bits → ℕ → MRegisters → Memory → State
with_left rest args long regs memory = record { args = args; base_length = long; block = 0; rest = rest; regs = regs; memory = memory }

-- ---- where the words stand for a state

-- The frame stands, data memory is as long as at the entry, and a0 has this.
record Standing (a : Invocation) (base : ℕ) (s : Machine) (place long : ℕ) (x : Bits) (memory : Memory) (p : Point) : Type 0 where
  wide : control_base + frame ≤ a.sp
  long_is : long ≡ length a.memory
  same : length memory ≡ length a.memory
  holds : Holds a s (a.sp - frame) frame [] memory p
  pc : p.machine.regs.pc ≡ base + place
  in_a0 : RefinesBits x (register p.machine.regs A0)

data At (a : Invocation) (base : ℕ) (s : Machine) : State → Point → Type 0 where
  at_first : (args : List Bits) (long : ℕ) (memory : Memory) (p : Point) → Standing a base s 40 long (slice_index_or args 0 free) memory p
      → At a base s (with_left (Param 0 0 ∷ calls_with) args long unwritten memory) p
  at_call : (args : List Bits) (long : ℕ) (regs : MRegisters) (memory : Memory) (p : Point) → Standing a base s 40 long (regs 0) memory p
      → At a base s (with_left calls_with args long regs memory) p
  at_return : (args : List Bits) (long : ℕ) (regs : MRegisters) (memory : Memory) (p : Point) → Standing a base s 48 long (regs 1) memory p
      → At a base s (with_left leaves_with args long regs memory) p

-- each step takes an instruction from what is left of the block
abbrev left : State → ℕ
left now = length now.rest

cut_by : (a : Bits) (i : ℕ) (b bit : Bool) → (if b then a i else None) ≡ Some bit → a i ≡ Some bit
cut_by a i true bit h = h
cut_by a i false bit h = absurd (let bad : ⊥ = cc in bad)

-- what is cut has no other bits
pub cut_refines : (w : ℕ) (a : Bits) → RefinesBits (cut w a) a
cut_refines w a i bit h = cut_by a i (nat_lt i w) bit h

all-taken : (n : ℕ) (memory : Memory) → n ≡ length memory → take n memory ≡ memory
all-taken zero [] h = refl
all-taken zero (x ∷ xs) h = absurd (let bad : ⊥ = omega (arith, h) in bad)
all-taken (suc n) [] h = refl
all-taken (suc n) (x ∷ xs) h = ap (λ (z : Memory). x ∷ z) (all-taken n xs (omega (arith, h)))

-- ---- what the words do

module _ (m : Meaning) (two : 2 ≤ m.functions) (functions : m.functions ≤ 1024) (room : m.room ≤ 67108864) (is-parameters : m.parameters 0 ≡ 64 ∷ []) (is-frame : m.frame 0 ≡ 192)
    (a : Invocation) (base : ℕ) (s : Machine) (own : a.symbol ≡ 0) (is : IsInvocation m a) (stands : IsBase words base) (enters : Enters m a s) where
  abbrev place : Place
  place = place_of words base s

  abbrev low : ℕ
  low = a.sp - frame

  abbrev Doing : ℕ → ℕ → ℕ → Point → Does State → Type 0
  Doing = Advances m State a s place (At a base s) left

  abbrev in_a0 : Point → Bits
  in_a0 p = register p.machine.regs A0

  whole : Stands place base (prologue 0 frame ++ (call_code 1 ++ leave_code frame))
  whole = subst (Stands place base) in_parts (subst (λ (pc : ℕ). Stands place pc code) (let e : base + 4 * 0 ≡ base = omega arith in e) (stands-from m functions place stands.low stands.high [] code refl valid))

  first-part : Stands place base (prologue a.symbol frame)
  first-part = subst (λ (k : ℕ). Stands place base (prologue k frame)) (sym own) (stands-apart place base (prologue 0 frame) (call_code 1 ++ leave_code frame) whole).0

  other-parts : Stands place (base + 40) (call_code 1) × Stands place (base + 48) (leave_code frame)
  other-parts =
      let at : base + 4 * length (prologue 0 frame) ≡ base + 40 = ap (λ (k : ℕ). base + 4 * k) opening-long in
      let rest = subst (λ (pc : ℕ). Stands place pc (call_code 1 ++ leave_code frame)) at (stands-apart place base (prologue 0 frame) (call_code 1 ++ leave_code frame) whole).1 in
      let two-parts = stands-apart place (base + 40) (call_code 1) (leave_code frame) rest in
      (two-parts.0, subst (λ (pc : ℕ). Stands place pc (leave_code frame)) (let e : base + 40 + 4 * 2 ≡ base + 48 = omega arith in e) two-parts.1)

  given-first : slice_index_or (entry_at m a s).args 0 free ≡ register s.regs A0
  given-first = ap (λ (ws : List ℕ). slice_index_or (registers_of ws arg_regs s.regs) 0 free) (ap m.parameters own ∙ is-parameters)

  begins-by : (b : Bool) → nat_lt a.sp (stack_start + frame) ≡ b → Doing 3 4 160 (entered base s) (if b then Wants else Goes (first calling (entry_at m a s)))
  begins-by true e =
      let deep : a.sp < control_base + frame = ltb-true _ _ e in
      let o = overflows a s low frame m functions room place stands.low stands.high is.symbol (omega arith) (omega arith) enters.sp is.sp_low is.sp_high refl enters.regs a.memory enters.memory deep first-part in
      let short = lowered-short frame in
      record { count = 7 + length (lowered_code frame); point = o.0; few = omega (arith, short); run = o.2; is = o.1 }
  begins-by false e =
      let wide : control_base + frame ≤ a.sp = ltb-false _ _ e in
      let o = opens a s low frame m functions room place stands.low stands.high is.symbol (omega arith) (omega arith) enters.sp is.sp_low is.sp_high refl enters.regs a.memory enters.memory wide enters.top first-part in
      let few = o.few in
      let at = o.pc in
      let long : length (prologue a.symbol frame) ≡ 10 = ap (λ (k : ℕ). length (prologue k frame)) own ∙ opening-long in
      record {
        count = o.count;
        point = o.point;
        moves = inr (omega arith);
        few = omega (arith, few);
        run = o.run;
        at = at_first (entry_at m a s).args (length a.memory) a.memory o.point (record {
          wide = wide;
          long_is = refl;
          same = refl;
          holds = o.holds;
          pc = at ∙ ap (λ (k : ℕ). base + 4 * k) long;
          in_a0 = subst (λ (x : Bits). RefinesBits x (in_a0 o.point)) (sym (given-first ∙ ap (λ (n : ℕ). constant 64 n) (sym (o.registers 10 (omega arith) (omega arith))))) (same_bits (in_a0 o.point));
        });
      }

  -- the argument stands in a0 already
  takes : (args : List Bits) (long : ℕ) (memory : Memory) (p : Point) → Standing a base s 40 long (slice_index_or args 0 free) memory p
      → Onward m State a s place (At a base s) left 0 3 12 p (with_left calls_with args long (write unwritten 0 (cut 64 (slice_index_or args 0 free))) memory)
  takes args long memory p h = record {
    count = 0;
    point = p;
    moves = inr (omega arith);
    few = omega arith;
    run = goes-none m functions place stands.low stands.high p;
    at = at_call args long (write unwritten 0 (cut 64 (slice_index_or args 0 free))) memory p (record {
      wide = h.wide;
      long_is = h.long_is;
      same = h.same;
      holds = h.holds;
      pc = h.pc;
      in_a0 = bits_compose (cut 64 (slice_index_or args 0 free)) (slice_index_or args 0 free) (in_a0 p) (cut_refines 64 (slice_index_or args 0 free)) h.in_a0;
    });
  }

  calls : (args : List Bits) (long : ℕ) (regs : MRegisters) (memory : Memory) (p : Point) → Standing a base s 40 long (regs 0) memory p
      → Asked m State a s place (At a base s) left 0 76 p 1 (regs 0 ∷ []) memory (λ (r : Reply). with_left leaves_with args long (write regs 1 (cut 64 r.value)) r.memory)
  calls args long regs memory p h =
      let wide = h.wide in
      let at : Stands place p.machine.regs.pc (call_code 1) = subst (λ (pc : ℕ). Stands place pc (call_code 1)) (sym h.pc) other-parts.0 in
      let entering : place.sp ≡ low + frame = enters.sp ∙ (let e : a.sp ≡ low + frame = omega (arith, wide) in e) in
      let q : Point = call_point 1 p in
      let kept = hold-call a s low frame m functions place stands.low stands.high entering (omega arith) 1 [] memory p h.holds in
      let pc = h.pc in let four = stands.aligned in let high = stands.low in
      record {
        count = 2;
        more = 0;
        point = q;
        some = omega arith;
        few = omega arith;
        run = call-runs a s low frame m functions place stands.low stands.high entering (omega arith) 1 [] memory p two h.holds at;
        call = record {
          counted = kept.counted;
          control = λ x le. kept.kept x (omega (arith, le, wide));
          sp = kept.sp ∙ sym (ap (λ (k : ℕ). a.sp - m.frame k) own ∙ ap (λ (k : ℕ). a.sp - k) is-frame);
          top = kept.data_top;
          ra = (omega (arith, pc, four), inr (omega (arith, pc, high, functions)));
          registers = (h.in_a0, tt);
          memory' = kept.memory';
        };
        back = λ r c of refine same. record {
          point = resume q c;
          run = goes-none m functions place stands.low stands.high (resume q c);
          at = at_return args long (write regs 1 (cut 64 (register c.regs A0))) r.memory (resume q c) (record {
            wide = wide;
            long_is = h.long_is;
            same = same ∙ h.same;
            holds = hold-resumed a s low frame m functions place stands.low stands.high entering (omega arith) [] memory r.memory q c kept refine.memory same;
            pc = ap (λ (k : ℕ). k + 8) h.pc ∙ (let e : base + 40 + 8 ≡ base + 48 = omega arith in e);
            in_a0 = cut_refines 64 (register c.regs A0);
          });
        };
      }

  gives : (args : List Bits) (long : ℕ) (regs : MRegisters) (memory : Memory) (p : Point) → Standing a base s 48 long (regs 1) memory p
      → Stopped m State a s place (At a base s) left 0 64 p code_play.Returns (AtReturn a s (regs 1) (take long memory))
  gives args long regs memory p h =
      let wide = h.wide in
      let high = is.sp_high in
      let at : Stands place p.machine.regs.pc (leave_code frame) = subst (λ (pc : ℕ). Stands place pc (leave_code frame)) (sym h.pc) other-parts.1 in
      let sum : low + frame ≡ a.sp = omega (arith, wide) in
      let o = leaves calling_program a s low frame 2 m functions room place stands.low stands.high (omega (arith, wide)) (omega (arith, sum, high)) refl (enters.sp ∙ sym sum) refl enters.ra.0 (enters.regs 1)
      [] memory p (Some (p.machine.regs.x 10)) (λ k e. cc) h.holds at in
      let short = leave-short frame in
      record {
        count = length (leave_code frame);
        point = o.point;
        few = omega (arith, short);
        run = o.runs;
        is = record {
          counted = o.is.counted;
          control = subst (λ (k : ℕ). KeepsControl s k o.point.machine) sum o.is.control;
          regs = (
            o.is.sp-is ∙ sum ∙ sym enters.sp,
            keeps-last saved_regs S11 s.regs o.point.machine.regs o.is.saved (o.is.data_top ∙ ap (λ (k : ℕ). data_base + k) h.same ∙ sym enters.top),
          );
          result = subst (λ (n : ℕ). RefinesBits (regs 1) (constant 64 n)) (sym (o.is.answer (p.machine.regs.x 10) refl)) h.in_a0;
          memory' = subst (λ (z : Memory). RefinesMemory z o.point.machine.bytes) (sym (all-taken long memory (h.long_is ∙ sym h.same))) o.is.memory';
        };
      }

  each-step : (now : State) (p : Point) → At a base s now p → Doing 0 (left now) (step calling now).weight p (step calling now).does
  each-step _ _ (at_first args long memory p h) = takes args long memory p h
  each-step _ _ (at_call args long regs memory p h) = λ exists. calls args long regs memory p h
  each-step _ _ (at_return args long regs memory p h) = gives args long regs memory p h

pub calling_runs : CallingRuns
calling_runs m two functions room is-parameters is-frame = runs_as m 0 words (walk calling) At left (record {
  begins = λ a base s own is stands enters. (4, begins-by m two functions room is-parameters is-frame a base s own is stands enters (nat_lt a.sp (stack_start + frame)) refl);
  goes_on = λ a base s own is stands enters. each-step m two functions room is-parameters is-frame a base s own is stands enters;
})
