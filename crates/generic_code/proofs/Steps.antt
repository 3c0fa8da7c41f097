-- An instruction that computes a value is followed by its code.
use Rattle.std.proofs.Common.{◌≡◌, refl, sym, ap, subst, ◌∙◌, ℕ, ◌+◌, ◌*◌, ◌≤◌, Bool, true, List, ◌∷◌, ◌++◌, length, Some, arith}
use Rattle.std.specs.Prelude.{slice_get, slice_set, if◌then◌else◌}
use Rattle.ir_core.specs.Program.{Program}
use Rattle.ir_core.specs.Units.{units, has_result}
use Rattle.ir_core.specs.declared.types.Ty.{Ty}
use Rattle.ir_core.specs.declared.code.Operand.{Operand}
use Rattle.ir_core.specs.declared.code.Inst.{Inst}
use Rattle.ir_core.specs.declared.program.Function.{Function}
use Rattle.ir_core.specs.declared.program.Global.{Global}
use Rattle.ir_meaning.specs.declared.activation.Activation.{Activation}
use Rattle.ir_meaning.specs.Value.{Value}
use Rattle.ir_meaning.specs.Memory.{Memory}
use Rattle.ir_meaning.specs.Operators.{width}
use Rattle.ir_meaning.specs.Step as ir
use Rattle.ir_meaning.specs.Step.{function_at, insts_at, number_at, behind, with_result, act, step}
use Rattle.ir_meaning.specs.Ranges.{FitsWidth}
use Rattle.ir_meaning.specs.Typed.{types}
use Rattle.ir_meaning.proofs.Bytes.{AllBytes}
use Rattle.ir_meaning.proofs.Keeping.{ValuesFit, result-fits}
use Rattle.ir_meaning.proofs.Numbering.{number-type}
use Rattle.gmir.specs.declared.code.GInst.{GInst}
use Rattle.gmir.specs.declared.code.GFunction.{GFunction}
use Rattle.gmir.specs.Play as play
use Rattle.gmir.specs.Play.{State, weight}
use Rattle.walks.specs.Registers.{Registers, write}
use Rattle.walks.specs.Walk.{Bits, Goes, Step}
use Rattle.walks.specs.Refines.{RefinesBits, RefinesMemory}
use Rattle.walks.specs.Simulation.{Follows, moves}
use Rattle.walks.specs.Functions.{bits_of, Point, step_over_bits, function_walk}
use Rattle.generic_code.specs.Literals.{Pool, loads}
use Rattle.generic_code.proofs.Loads.{Holds, registers_behind, loads_run, hold_behind, holds_set, Known}

module _ (program : Program) (symbol : ℕ) (function : Function) (there : function_at program symbol ≡ Some function) (f : GFunction) where
  abbrev pub globals : List Global
  globals = program.module_.globals

  -- a state of the function and one of its code, but for what is left of the block
  pub record Alike (now : Activation) (memory : Memory) (s : State) : Type 0 where
    pub symbol' : now.symbol ≡ symbol
    pub base : s.base_length ≡ now.entry_length
    pub block : s.block ≡ now.block
    pub memory' : RefinesMemory memory s.memory
    pub bytes : AllBytes memory
    pub room : length memory ≤ program.room
    pub fit : ValuesFit (types function) now.values
    pub holds : Holds program f (types function) now.values s.regs

  -- behind an instruction that gave a value, its register has the value's bits
  pub alike_behind : (now : Activation) (memory : Memory) (s : State) (regs : Registers) (r : List GInst) (inst : Inst) (v : Value) (a : Bits) → Alike now memory s
      → slice_get (insts_at function now.block) now.place ≡ Some inst → has_result inst ≡ true → FitsWidth (width inst.gives) v
      → Holds program f (types function) now.values regs → RefinesBits (bits_of (width inst.gives) v) a
      → Alike (behind function now inst v) memory (record s { rest = r; regs = write regs (number_at function now.block now.place) a })
  alike_behind now memory s regs r inst v a h at gives fits holds known = record {
    symbol' = h.symbol';
    base = h.base;
    block = h.block;
    memory' = h.memory';
    bytes = h.bytes;
    room = h.room;
    fit = result-fits function now.block now.place inst v now.values at h.fit fits;
    holds =
        subst (λ (values : List Value). Holds program f (types function) values (write regs (number_at function now.block now.place) a))
        (ap (λ (b : Bool). if b then slice_set now.values (number_at function now.block now.place) v else now.values) (sym gives))
        (holds_set program f (types function) now.values regs (number_at function now.block now.place) inst.gives v a
        (number-type function now.block now.place inst at gives) holds known);
  }

  -- the step of a state is that of its instruction
  pub step_is : (now : Activation) (memory : Memory) (s : State) (inst : Inst) → Alike now memory s → slice_get (insts_at function now.block) now.place ≡ Some inst
      → step program now memory ≡ act program function now memory inst inst.op
  step_is now memory s inst h at =
      ap (λ (k : ℕ). ir.step_in program now memory (function_at program k)) h.symbol'
      ∙ ap (ir.step_in program now memory) there
      ∙ ap (ir.step_at program now memory function) at

  module _ (R : Point program symbol → State → Type 0) (measure : Point program symbol → ℕ) where
    abbrev pub Fol : ℕ → Step (Point program symbol) → Step State → Type 0
    Fol = Follows f.end (Point program symbol) State (play.step f) R measure

    abbrev pub here_step : Activation → Memory → Step (Point program symbol)
    here_step now memory = (function_walk program symbol).step (now, memory)

    module _ (now : Activation) (memory : Memory) (s : State) (inst : Inst) (h : Alike now memory s)
        (at : slice_get (insts_at function now.block) now.place ≡ Some inst) (gives : has_result inst ≡ true)
        (next : Pool) (low : Known f (types function) next s.regs) (ops : List (Ty × Operand)) (r : List GInst) (m : ℕ) where
      abbrev pub number : ℕ
      number = number_at function now.block now.place

      -- the registers behind the operands' constants
      abbrev pub loaded_regs : Registers
      loaded_regs = registers_behind globals f next ops s.regs

      abbrev pub loaded_state : GInst → State
      loaded_state i = record s { rest = i ∷ r; regs = loaded_regs }

      -- The constants, and an instruction that gives these bits, follow an instruction that gives this value
      pub follows_give : (v : Value) (a : Bits) (i : GInst) (most : ℕ)
          → act program function now memory inst inst.op ≡ ir.plain program function now memory inst (ir.give program function now memory inst v)
          → play.step f (loaded_state i) ≡ play.plain f (loaded_state i) i r (Goes (record s { rest = r; regs = write loaded_regs number a }))
          → FitsWidth (width inst.gives) v → RefinesBits (bits_of (width inst.gives) v) a
          → weight f.types i ≤ most → 24 * length ops + most ≤ 256
          → (Alike (behind function now inst v) memory (record s { rest = r; regs = write loaded_regs number a })
          → R (behind function now inst v, memory) (record s { rest = r; regs = write loaded_regs number a }))
          → Fol m (here_step now memory) (play.step f (record s { rest = loads globals next ops ++ i ∷ r }))
      follows_give v a i most acts runs fits known heavy light closes =
          let run = loads_run globals f ops s next (i ∷ r) in
          let one : here_step now memory ≡ step_over_bits program symbol now memory (ir.plain program function now memory inst (ir.give program function now memory inst v)) =
          ap (step_over_bits program symbol now memory) (step_is now memory s inst h at ∙ acts) in
          let loaded_low = run.2 in
          let weighs : (play.step f (loaded_state i)).weight ≡ weight f.types i = ap (λ (z : Step State). z.weight) runs in
          let jumps : (play.step f (loaded_state i)).jumps ≡ 0 = ap (λ (z : Step State). z.jumps) runs in
          let cost : 1 ≤ units inst = omega arith in
          subst (λ (z : Step (Point program symbol)). Fol m z (play.step f (record s { rest = loads globals next ops ++ i ∷ r }))) (sym one)
          (moves (behind function now inst v, memory) (record s { rest = r; regs = write loaded_regs number a }) refl run.1
          (ap (λ (z : Step State). z.does) runs)
          (closes (alike_behind now memory s loaded_regs r inst v a h at gives fits (hold_behind program f (types function) now.values ops next s.regs low h.holds) known))
          (omega (arith, loaded_low, weighs, heavy, light, cost)) (omega arith))
