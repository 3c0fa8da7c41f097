-- The function that adds its parameter to itself: its target code refines it.
use Rattle.std.proofs.Common.{◌≡◌, refl, sym, subst, ◌∙◌, ℕ, suc, ◌+◌, ◌-◌, ◌%◌, ◌^◌, Bool, true, false, List, [], ◌∷◌, length, take, Some, None, arith}
use Rattle.std.specs.Prelude.{nat_lt, if◌then◌else◌, slice_index_or}
use Rattle.rv_core.specs.declared.instr.RegOp.TheVariants.{Add as MAdd}
use Rattle.ir_core.specs.declared.types.Ty.TheVariants.{Void, Int}
use Rattle.ir_core.specs.declared.code.Operand.TheVariants.{Value as Local}
use Rattle.ir_core.specs.declared.code.BinOp.TheVariants.{Add}
use Rattle.ir_core.specs.declared.code.Flags.{Flags}
use Rattle.ir_core.specs.declared.code.Op.TheVariants.{Binary, Br, Ret}
use Rattle.ir_core.specs.declared.program.Function.{Function}
use Rattle.ir_core.specs.Program.{Program}
use Rattle.ir_meaning.specs.declared.activation.Activation.{Activation}
use Rattle.ir_meaning.specs.Value.{Value, on_numbers}
use Rattle.ir_meaning.specs.Operators.{add}
use Rattle.ir_meaning.specs.Memory.{Memory, data_start}
use Rattle.ir_meaning.specs.Step.{stack_start, TooDeep, Opens, entry, step as ir_step}
use Rattle.mir.specs.declared.code.MInst.{MInst}
use Rattle.mir.specs.declared.code.MInst.TheVariants.{Op, Jump, Return}
use Rattle.walks.specs.Walk.{Bits, Entry, Goes, Wants, Step}
use Rattle.walks.specs.Bits.{free, cut, constant, number, add_low, low_exact, bit_of}
use Rattle.walks.specs.Refines.{RefinesBits, AllRefine, RefinesMemory, RefinesEntry}
use Rattle.walks.specs.Registers.{Registers, write}
use Rattle.walks.specs.Simulation.{here, further, Follows, moves, gives, wants, Simulation}
use Rattle.walks.specs.Functions.{Point as PointOf, bits_of, all_values, entry_over_bits, enter_over_bits, step_over_bits, function_walk}
use Rattle.walks.specs.Face.{function_face}
use Rattle.walks.proofs.Faces.{simulated_face}
use Rattle.walks.proofs.Bytes.{take_mono}
use Rattle.walks.proofs.Monotone.{low_mono}
use Rattle.walks.proofs.Numbers.{number_refines}
use Rattle.mir_play.specs.Values.{value}
use Rattle.mir_play.specs.Play.{State, step, first, enter, walk}
use Rattle.mir_play.specs.Refines.{face, IsCompiled}
use Rattle.mir_play.proofs.Numbers.{add_by, cut_again}
use Rattle.mir_play.proofs.Machine.{Below, low_is}
use Rattle.mir_play.proofs.Samples.{twice}

abbrev no_flags : Flags
no_flags = record { nuw = false; nsw = false; exact = false; disjoint = false; nneg = false; samesign = false }

abbrev function : Function
function = record {
  name = [];
  params = Int 64 ∷ [];
  ret = Int 64;
  blocks =
      record { insts = record { gives = Int 64; op = Binary Add no_flags (Local 0) (Local 0) } ∷ record { gives = Void; op = Br 1 } ∷ [] }
      ∷ record { insts = record { gives = Void; op = Ret (Some (Local 1)) } ∷ [] } ∷ [];
}

abbrev program : Program
program = record { module_ = record { globals = []; functions = function ∷ [] }; room = 0 }

abbrev Point : Type 0
Point = PointOf program 0

-- an activation at a place of a block
abbrev at : ℕ → ℕ → Value → Value → ℕ → ℕ → Activation
at block place v w base sp = record { symbol = 0; block = block; place = place; values = v ∷ w ∷ []; entry_length = base; sp = sp }

abbrev state : ℕ → List MInst → List Bits → ℕ → Registers → Memory → State
state block rest args base regs memory = record { args = args; base_length = base; block = block; rest = rest; regs = regs; memory = memory }

-- before the sum, before the jump and before the return
data R : Point → State → Type 0 where
  adds : {v w : Value} {base sp : ℕ} {memory memory' : Memory} {args : List Bits} {regs : Registers} → RefinesMemory memory memory' → RefinesBits (bits_of 64 v) (regs 0)
      → R (at 0 0 v w base sp, memory) (state 0 (Op MAdd 1 0 0 ∷ Jump 1 ∷ []) args base regs memory')
  jumps : {v w : Value} {base sp : ℕ} {memory memory' : Memory} {args : List Bits} {regs : Registers} → RefinesMemory memory memory' → RefinesBits (bits_of 64 w) (regs 1)
      → R (at 0 1 v w base sp, memory) (state 0 (Jump 1 ∷ []) args base regs memory')
  returns : {v w : Value} {base sp : ℕ} {memory memory' : Memory} {args : List Bits} {regs : Registers} → RefinesMemory memory memory' → RefinesBits (bits_of 64 w) (regs 1)
      → R (at 1 0 v w base sp, memory) (state 1 (Return (1 ∷ []) ∷ []) args base regs memory')

abbrev Fol : ℕ → Step Point → Step State → Type 0
Fol = Follows data_start Point State (step twice) R (λ p. 0)

-- bits that are those of a number below 64 refine its own
below_refines : (a : Bits) (x : ℕ) → Below 64 a x → RefinesBits (constant 64 x) a
below_refines a x h i bit e = by_test (nat_lt i 64) refl e
  where
    by_test : (b : Bool) → nat_lt i 64 ≡ b → (if b then Some (bit_of x i) else None) ≡ Some bit → a i ≡ Some bit
    by_test true t e = h i (grind arith) ∙ e
    by_test false t e = absurd (let bad : ⊥ = cc in bad)

-- the sum's bits
sum_refines : (v : Value) (a : Bits) → RefinesBits (bits_of 64 v) a → RefinesBits (bits_of 64 (on_numbers (add no_flags 64) v v)) (value MAdd a a)
sum_refines None a h = λ i bit e. absurd (let bad : ⊥ = cc in bad)
sum_refines (Some m) a h =
    let is : Below 64 (low_exact add_low 64 (constant 64 m) (constant 64 m)) ((m + m) % 2 ^ 64) =
    low_is 64 (omega arith) m m add_low ((m + m) % 2 ^ 64) (λ i l. add_by (2 ^ suc i) m m ∙ sym (cut_again (suc i) 64 (m + m) (omega (arith, l)))) in
    λ i bit e. low_mono add_low 64 (constant 64 m) a (constant 64 m) a h h i bit (below_refines _ ((m + m) % 2 ^ 64) is i bit e)

steps : (p : Point) (s : State) → R p s → Fol 0 (step_over_bits program 0 p.0 p.1 (ir_step program p.0 p.1)) (step twice s)
steps p s (adds {v = v} {w = w} {base = base} {sp = sp} {memory = memory} {memory' = memory'} {args = args} {regs = regs} same bits) =
    moves (at 0 1 v (on_numbers (add no_flags 64) v v) base sp, memory) (state 0 (Jump 1 ∷ []) args base (write regs 1 (value MAdd (regs 0) (regs 0))) memory')
    refl here refl (jumps same (sum_refines v (regs 0) bits)) (omega arith) (omega arith)
steps p s (jumps {v = v} {w = w} {base = base} {sp = sp} {memory = memory} {memory' = memory'} {args = args} {regs = regs} same bits) =
    moves (at 1 0 v w base sp, memory) (state 1 (Return (1 ∷ []) ∷ []) args base regs memory') refl here refl (returns same bits) (omega arith) (omega arith)
steps p s (returns {w = w} {base = base} {memory = memory} {memory' = memory'} {regs = regs} same bits) =
    gives (bits_of 64 w) (regs 1) (take base memory) (take base memory') refl here refl bits (take_mono base memory memory' same) (omega arith) (omega arith)

-- the parameter's bits
value_refines : (a b : Bits) → RefinesBits a b → (v : Value) → number 64 a ≡ v → RefinesBits (bits_of 64 v) (cut 64 b)
value_refines a b h None e = λ i bit x. absurd (let bad : ⊥ = cc in bad)
value_refines a b h (Some n) e = λ i bit x. by_test i bit (nat_lt i 64) (h i bit (number_refines 64 a n e i bit x)) x
  where
    by_test : (i : ℕ) (bit : Bool) (t : Bool) → b i ≡ Some bit → (if t then Some (bit_of n i) else None) ≡ Some bit → (if t then b i else None) ≡ Some bit
    by_test i bit true y x = y
    by_test i bit false y x = absurd (let bad : ⊥ = cc in bad)

record Parameter (xs ys : List Bits) : Type 0 where
  value : Value
  is : all_values (64 ∷ []) xs ≡ value ∷ []
  bits : RefinesBits (bits_of 64 value) (cut 64 (slice_index_or ys 0 free))

parameter : (xs ys : List Bits) → AllRefine xs ys → Parameter xs ys
parameter [] ys h = record { value = None; is = refl; bits = λ i bit x. absurd (let bad : ⊥ = cc in bad) }
parameter (x ∷ xs) [] h = absurd h
parameter (x ∷ xs) (y ∷ ys) h = record { value = number 64 x; is = refl; bits = value_refines x y h.0 (number 64 x) refl }

-- an entry, where there is room for the frame of 192 bytes or not
enters_by : (a b : Entry) → RefinesEntry data_start a b → (v : Value) → RefinesBits (bits_of 64 v) (cut 64 (slice_index_or b.args 0 free)) → (deep : Bool)
    → Fol 0
    (record { weight = 512; jumps = 0; does = entry_over_bits program 0 a.memory (if deep then TooDeep else Opens (at 0 0 v None (length a.memory) (a.sp - 192))) })
    (record { weight = 160; jumps = 0; does = if deep then Wants else Goes (first twice b) })
enters_by a b h v bits true = wants refl here refl (omega arith) (omega arith)
enters_by a b h v bits false =
    moves (at 0 0 v None (length a.memory) (a.sp - 192), a.memory)
    (state 0 (Op MAdd 1 0 0 ∷ Jump 1 ∷ []) b.args (length b.memory) (write (first twice b).regs 0 (cut 64 (slice_index_or b.args 0 free))) b.memory)
    refl (further (first twice b) refl here) refl
    (subst (λ (n : ℕ). R (at 0 0 v None n (a.sp - 192), a.memory) (state 0 (Op MAdd 1 0 0 ∷ Jump 1 ∷ []) b.args (length b.memory) (write (first twice b).regs 0 (cut 64 (slice_index_or b.args 0 free))) b.memory))
    h.memory.long (adds h.memory bits))
    (omega arith) (omega arith)

enters : (a b : Entry) → RefinesEntry data_start a b → Fol 0 (enter_over_bits program 0 a) (enter twice b)
enters a b h =
    let p = parameter a.args b.args h.args in
    subst (λ (vs : List Value). Fol 0 (record { weight = 512; jumps = 0; does = entry_over_bits program 0 a.memory (entry program 0 vs a.memory a.sp) }) (enter twice b)) (sym p.is)
    (subst (λ (sp : ℕ). Fol 0 (record { weight = 512; jumps = 0; does = entry_over_bits program 0 a.memory (entry program 0 (p.value ∷ []) a.memory a.sp) })
    (record { weight = 160; jumps = 0; does = if nat_lt sp (stack_start + 192) then Wants else Goes (first twice b) })) (sym h.sp)
    (enters_by a b h p.value p.bits (nat_lt a.sp (stack_start + 192))))

simulation : Simulation data_start (function_walk program 0) (walk twice) R (λ p. 0)
simulation = record { enters = λ a b h. (0, enters a b h); steps = steps }

-- the function of this module is compiled
pub twice_is_compiled : IsCompiled program 0 twice
twice_is_compiled = (function, refl, simulated_face (function_face program 0 function) (face twice) refl refl refl (omega arith) R (λ p. 0) simulation)
