-- The calling function of target code refines that of the module, so its words are good.
use Rattle.std.proofs.Common.{Some, ◌≡◌, refl, sym, ap, subst, ◌∙◌, ℕ, ◌+◌, ◌-◌, zero, suc, List, [], ◌∷◌, ◌++◌, length, replicate, Bool, true, false, None, arith}
use Rattle.std.specs.Prelude.{nat_lt, take, slice_get, slice_index_or, if◌then◌else◌}
use Rattle.ir_meaning.specs.declared.activation.Activation.{Activation}
use Rattle.ir_meaning.specs.Value.{Value}
use Rattle.ir_meaning.specs.Memory.{Memory}
use Rattle.ir_core.specs.declared.types.Ty.{Ty}
use Rattle.ir_core.specs.declared.types.Ty.TheVariants.{Void, Int}
use Rattle.ir_core.specs.declared.code.Operand.TheVariants.{Value as Local}
use Rattle.ir_core.specs.declared.code.Op.TheVariants.{Call as IrCall, Ret}
use Rattle.ir_core.specs.declared.code.Inst.{Inst}
use Rattle.ir_core.specs.declared.program.Function.{Function}
use Rattle.ir_meaning.specs.Step.{stack_start, function_at, insts_at}
use Rattle.ir_meaning.specs.Walk as ir
use Rattle.ir_meaning.specs.Meaning.{meaning}
use Rattle.ir_meaning.specs.Typed.{IsTyped, IsTypedFunction, IsOp, IsValueType}
use Rattle.rv_play.specs.Machine.{data_end}
use Rattle.walks.specs.Walk.{Bits, Reply, Entry, Does, Goes, Wants, play_of}
use Rattle.walks.specs.Refines.{RefinesBits, AllRefine, RefinesMemory, RefinesEntry, RefinesPlay}
use Rattle.walks.specs.Simulation.{here, further, Follows, moves, asks, gives, wants}
use Rattle.walks.specs.Bits.{free, cut, bit_of, number}
use Rattle.walks.specs.Functions.{Point, bits_of, value_of, all_values, resumed, entry_over_bits, function_walk}
use Rattle.walks.proofs.Compose.{bits_compose}
use Rattle.walks.proofs.Simulate.{simulated}
use Rattle.walks.proofs.Bytes.{take_mono}
use Rattle.good_code.proofs.Compiled.{compiled_is_good}
use Rattle.good_code.proofs.Narrow.{typed_is_narrow}
use Rattle.mir.specs.declared.code.MInst.TheVariants.{Param}
use Rattle.mir_play.specs.Play.{State, first, enter, step, walk}
use Rattle.walks.specs.Registers.{Registers as MRegisters, unwritten, write}
use Rattle.good_samples.specs.Calling.{calling, calling_program, words, CallingIsCompiled, CallingIsGood, f, g, function_of}
use Rattle.good_samples.proofs.Known.{value_refines}
use Rattle.good_samples.proofs.Calling.{calls_with, leaves_with, with_left, calling_runs}

-- bytes of the frame of a function of two values
abbrev frame : ℕ
frame = 192

-- ---- the states of the module's function

abbrev at_call : Value → ℕ → ℕ → Activation
at_call v long sp = record { symbol = 0; block = 0; place = 0; values = v ∷ None ∷ []; entry_length = long; sp = sp }

abbrev behind_call : Value → Value → ℕ → ℕ → Activation
behind_call v u long sp = record { symbol = 0; block = 0; place = 1; values = v ∷ u ∷ []; entry_length = long; sp = sp }

abbrev P : Type 0
P = Point calling_program 0

data Stands : P → State → Type 0 where
  at_first : (v : Value) (args : List Bits) (now after : Memory) (long sp : ℕ) → RefinesBits (bits_of 64 v) (slice_index_or args 0 free) → RefinesMemory now after
      → Stands (at_call v long sp, now) (with_left (Param 0 0 ∷ calls_with) args long unwritten after)
  at_return : (v u : Value) (args : List Bits) (regs : MRegisters) (now after : Memory) (long sp : ℕ) → RefinesBits (bits_of 64 u) (regs 1) → RefinesMemory now after
      → Stands (behind_call v u long sp, now) (with_left leaves_with args long regs after)

abbrev limit : ℕ
limit = data_end (meaning calling_program)

abbrev measure : P → ℕ
measure s = 0

abbrev Fol : ℕ → P → State → Type 0
Fol m s s' = Follows limit P State (step calling) Stands measure m ((function_walk calling_program 0).step s) (step calling s')

-- register 0 with the argument
abbrev taken : List Bits → MRegisters
taken args = write unwritten 0 (cut 64 (slice_index_or args 0 free))

cut_keeps : (w : ℕ) (v : Value) (a : Bits) → RefinesBits (bits_of w v) a → RefinesBits (bits_of w v) (cut w a)
cut_keeps w None a h i bit e = absurd (let bad : ⊥ = cc in bad)
cut_keeps w (Some k) a h i bit e = by_place (nat_lt i w) refl (h i bit e) e
  where
    by_place : (b : Bool) → nat_lt i w ≡ b → a i ≡ Some bit → (if b then Some (bit_of k i) else None) ≡ Some bit → (if nat_lt i w then a i else None) ≡ Some bit
    by_place true t x y = rw t x
    by_place false t x y = absurd (let bad : ⊥ = cc in bad)

steps : (s : P) (s' : State) → Stands s s' → Fol 0 s s'
steps _ _ (at_first v args now after long sp bits memory) =
    asks 1 (bits_of 64 v ∷ []) (taken args 0 ∷ []) now after (resumed calling_program 0 1 (at_call v long sp))
    (λ (r : Reply). with_left leaves_with args long (write (taken args) 1 (cut 64 r.value)) r.memory) refl
    (further (with_left calls_with args long (taken args) after) refl here) refl (cut_keeps 64 v (slice_index_or args 0 free) bits, tt) memory
    (λ r r' refine. at_return v (value_of 64 r.value) args (write (taken args) 1 (cut 64 r'.value)) r.memory r'.memory long sp
    (cut_keeps 64 (number 64 r.value) r'.value (bits_compose (bits_of 64 (number 64 r.value)) r.value r'.value (value_refines 64 r.value) refine.value)) refine.memory)
    (omega arith) (omega arith)
steps _ _ (at_return v u args regs now after long sp bits memory) =
    gives (bits_of 64 u) (regs 1) (take long now) (take long after) refl here refl bits (take_mono long now after memory) (omega arith) (omega arith)

-- ---- the entry

abbrev first_value : List Bits → Value
first_value [] = None
first_value (x ∷ xs) = value_of 64 x

one_value : (xs : List Bits) → all_values (64 ∷ []) xs ≡ first_value xs ∷ []
one_value [] = refl
one_value (x ∷ xs) = refl

first_refines : (xs ys : List Bits) → AllRefine xs ys → RefinesBits (bits_of 64 (first_value xs)) (slice_index_or ys 0 free)
first_refines [] ys h = λ i bit e. absurd (let bad : ⊥ = cc in bad)
first_refines (x ∷ xs) [] h = absurd h
first_refines (x ∷ xs) (y ∷ ys) h = bits_compose (bits_of 64 (number 64 x)) x y (value_refines 64 x) h.0

-- what the entry does, by whether there is room
abbrev entered : List Value → Memory → ℕ → Bool → Does P
entered args memory sp deep =
    entry_over_bits calling_program 0 memory
    (if deep then ir.TooDeep else ir.Opens (record { symbol = 0; block = 0; place = 0; values = args ++ replicate (2 - length args) None; entry_length = length memory; sp = sp - frame }))

enters_by : (a b : Entry) → RefinesEntry limit a b → (deep : Bool) → nat_lt a.sp (stack_start + frame) ≡ deep
    → Follows limit P State (step calling) Stands measure 0 ((function_walk calling_program 0).enter a) (enter calling b)
enters_by a b h true e =
    wants (ap (entered (all_values (64 ∷ []) a.args) a.memory a.sp) e) here
    (ap (λ (sp : ℕ). if nat_lt sp (stack_start + frame) then Wants else Goes (first calling b)) h.sp
    ∙ ap (λ (deep : Bool). if deep then Wants else Goes (first calling b)) e) (omega arith) (omega arith)
enters_by a b h false e =
    moves (at_call (first_value a.args) (length a.memory) (a.sp - frame), a.memory) (first calling b)
    (ap (entered (all_values (64 ∷ []) a.args) a.memory a.sp) e ∙ ap (λ (vs : List Value). entered vs a.memory a.sp false) (one_value a.args)) here
    (ap (λ (sp : ℕ). if nat_lt sp (stack_start + frame) then Wants else Goes (first calling b)) h.sp
    ∙ ap (λ (deep : Bool). if deep then Wants else Goes (first calling b)) e)
    (subst (λ (k : ℕ). Stands (at_call (first_value a.args) (length a.memory) (a.sp - frame), a.memory) (with_left (Param 0 0 ∷ calls_with) b.args k unwritten b.memory)) (sym h.memory.long)
    (at_first (first_value a.args) b.args a.memory b.memory (length a.memory) (a.sp - frame) (first_refines a.args b.args h.args) h.memory)) (omega arith) (omega arith)

refines : RefinesPlay limit (play_of (function_walk calling_program 0)) (play_of (walk calling))
refines = simulated limit (function_walk calling_program 0) (walk calling) Stands measure (record {
  enters = λ a b h. (0, enters_by a b h (nat_lt a.sp (stack_start + frame)) refl);
  steps = steps;
})

-- ---- the words are good

abbrev Every_inst : Function → List Inst → Type 0
Every_inst function [] = Unit {0}
Every_inst function (i ∷ insts) = IsOp calling_program function i.gives i.op × Every_inst function insts

one_param : (i : ℕ) (ty : Ty) → slice_get (Int 64 ∷ []) i ≡ Some ty → IsValueType ty
one_param zero ty e = let same : Int 64 ≡ ty = cc in subst IsValueType same (omega arith, omega arith)
one_param (suc i) ty e = absurd (let bad : ⊥ = cc in bad)

insts_typed : (function : Function) (insts : List Inst) → Every_inst function insts → (place : ℕ) (inst : Inst) → slice_get insts place ≡ Some inst
    → IsOp calling_program function inst.gives inst.op
insts_typed function [] h place inst e = absurd (let bad : ⊥ = cc in bad)
insts_typed function (i ∷ insts) h zero inst e = let same : i ≡ inst = cc in subst (λ (j : Inst). IsOp calling_program function j.gives j.op) same h.0
insts_typed function (i ∷ insts) h (suc place) inst e = insts_typed function insts h.1 place inst e

function_typed : (insts : List Inst) → Every_inst (function_of insts) insts → IsTypedFunction calling_program (function_of insts)
function_typed insts h = record {
  params = one_param;
  ret = (omega arith, omega arith);
  insts = by_block;
}
  where
    by_block : (block place : ℕ) (inst : Inst) → slice_get (insts_at (function_of insts) block) place ≡ Some inst → IsOp calling_program (function_of insts) inst.gives inst.op
    by_block zero place inst e = insts_typed (function_of insts) insts h place inst e
    by_block (suc block) place inst e = absurd (let bad : ⊥ = cc in bad)

typed : IsTyped calling_program
typed = record { functions = omega arith; room = omega arith; typed = by_symbol }
  where
    by_symbol : (symbol : ℕ) (function : Function) → function_at calling_program symbol ≡ Some function → IsTypedFunction calling_program function
    by_symbol zero function e =
        let same : f ≡ function = cc in
        subst (IsTypedFunction calling_program) same
        (function_typed (record { gives = Int 64; op = IrCall 1 ((Int 64, Local 0) ∷ []) } ∷ record { gives = Void; op = Ret (Some (Local 1)) } ∷ [])
        (((refl, refl), (refl, tt)), ((refl, ((omega arith, omega arith), refl)), tt)))
    by_symbol (suc zero) function e =
        let same : g ≡ function = cc in
        subst (IsTypedFunction calling_program) same
        (function_typed (record { gives = Void; op = Ret (Some (Local 0)) } ∷ []) ((refl, ((omega arith, omega arith), refl)), tt))
    by_symbol (suc (suc symbol)) function e = absurd (let bad : ⊥ = cc in bad)

pub calling_is_compiled : CallingIsCompiled
calling_is_compiled = (f, refl, record { symbol = refl; values = refl; end' = refl; static = omega arith; play = refines })

pub calling_is_good : CallingIsGood
calling_is_good =
    compiled_is_good calling_program 0 words calling typed (typed_is_narrow calling_program 0 f typed refl (omega arith)) calling_is_compiled
    (calling_runs (meaning calling_program) (omega arith) (omega arith) (omega arith) refl refl) (omega arith)
