-- Code that computes one register after another runs, and an instruction behind it gives a value.
use Rattle.std.proofs.Common.{◌≡◌, refl, sym, ap, subst, ◌∙◌, ℕ, ◌+◌, ◌*◌, ◌≤◌, true, List, [], ◌∷◌, ◌++◌, Some, arith}
use Rattle.std.specs.Prelude.{slice_get}
use Rattle.std.proofs.lemmas.List.{append_assoc}
use Rattle.ir_core.specs.Program.{Program}
use Rattle.ir_core.specs.Units.{units, has_result}
use Rattle.ir_core.specs.declared.code.Inst.{Inst}
use Rattle.ir_core.specs.declared.program.Function.{Function}
use Rattle.ir_meaning.specs.declared.activation.Activation.{Activation}
use Rattle.ir_meaning.specs.Value.{Value}
use Rattle.ir_meaning.specs.Memory.{Memory}
use Rattle.ir_meaning.specs.Operators.{width}
use Rattle.ir_meaning.specs.Step as ir
use Rattle.ir_meaning.specs.Step.{function_at, insts_at, number_at, behind, act}
use Rattle.ir_meaning.specs.Ranges.{FitsWidth}
use Rattle.ir_meaning.specs.Typed.{types}
use Rattle.gmir.specs.declared.code.GOp.{GOp}
use Rattle.gmir.specs.declared.code.GInst.{GInst}
use Rattle.gmir.specs.declared.code.GFunction.{GFunction}
use Rattle.gmir.specs.Play as play
use Rattle.gmir.specs.Play.{State, Computes, kind, weight, step}
use Rattle.walks.specs.Registers.{Registers, write}
use Rattle.walks.specs.Walk.{Bits, Goes, Step}
use Rattle.walks.specs.Refines.{RefinesBits}
use Rattle.walks.specs.Simulation.{Chain, here, further, moves}
use Rattle.walks.specs.Functions.{bits_of, Point, step_over_bits}
use Rattle.generic_code.specs.Literals.{plain}
use Rattle.generic_code.proofs.Loads.{Holds, ValuesTyped}
use Rattle.generic_code.proofs.Steps.{Alike, Fol, here_step, step_is, alike_behind}

-- one chain behind another
pub chain_then : {T : Type 0} {step : T → Step T} {st mid last : Step T} {w j w' j' : ℕ} → Chain T step st mid w j → Chain T step mid last w' j'
    → Chain T step st last (w + w') (j + j')
chain_then {T = T} {step = step} {last = last} {w' = w'} {j' = j'} (here {st = st}) c =
    let one : w' ≡ 0 + w' = omega arith in
    let two : j' ≡ 0 + j' = omega arith in
    subst (λ (n : ℕ). Chain T step st last n (0 + j')) one (subst (λ (n : ℕ). Chain T step st last w' n) two c)
chain_then {T = T} {step = step} {last = last} {w' = w'} {j' = j'} (further {st = st} {w = w} {j = j} s e rest) c =
    let one : st.weight + (w + w') ≡ (st.weight + w) + w' = omega arith in
    let two : st.jumps + (j + j') ≡ (st.jumps + j) + j' = omega arith in
    subst (λ (n : ℕ). Chain T step st last n ((st.jumps + j) + j')) one (subst (λ (n : ℕ). Chain T step st last (st.weight + (w + w')) n) two (further s e (chain_then rest c)))

module _ (f : GFunction) where
  -- this code runs before that, and leaves these registers, within so much weight
  abbrev pub Runs : State → List GInst → List GInst → Registers → ℕ → Type 0
  Runs s code r regs most =
      (w : ℕ) × Chain State (step f) (step f (record s { rest = code ++ r })) (step f (record s { rest = r; regs = regs })) w 0 × (w ≤ most)

  pub run_none : (s : State) (r : List GInst) → Runs s [] r s.regs 0
  run_none s r = (0, here, omega arith)

  pub run_then : (s : State) (first second r : List GInst) (regs regs' : Registers) (most most' : ℕ) → Runs s first (second ++ r) regs most
      → Runs (record s { regs = regs }) second r regs' most' → Runs s (first ++ second) r regs' (most + most')
  run_then s first second r regs regs' most most' (w, c, low) (w', c', low') = (
    w + w',
    subst (λ (code : List GInst). Chain State (step f) (step f (record s { rest = code })) (step f (record s { rest = r; regs = regs' })) (w + w') 0) (sym (append_assoc first second r)) (chain_then c c'),
    omega (arith, low, low'),
  )

  abbrev pub computed_bits : State → GOp → ℕ → List ℕ → ℕ → List GInst → Bits
  computed_bits s o d uses num r = play.result f (record s { rest = plain o (d ∷ []) uses num ∷ r }) (plain o (d ∷ []) uses num) r

  pub run_one : (s : State) (o : GOp) (d : ℕ) (uses : List ℕ) (num most : ℕ) (r : List GInst) → kind o ≡ Computes → weight f.types (plain o (d ∷ []) uses num) ≤ most
      → Runs s (plain o (d ∷ []) uses num ∷ []) r (write s.regs d (computed_bits s o d uses num r)) most
  run_one s o d uses num most r computes light =
      subst (λ (st : Step State). (w : ℕ) × Chain State (step f) st (step f after) w 0 × (w ≤ most)) (sym is)
      (weight f.types i + 0, further after refl here, omega (arith, light))
    where
      i : GInst
      i = plain o (d ∷ []) uses num

      after : State
      after = record s { rest = r; regs = write s.regs d (computed_bits s o d uses num r) }

      is : step f (record s { rest = plain o (d ∷ []) uses num ∷ r }) ≡ play.plain f (record s { rest = plain o (d ∷ []) uses num ∷ r }) (plain o (d ∷ []) uses num) r (Goes after)
      is = ap (play.by_kind f (record s { rest = plain o (d ∷ []) uses num ∷ r }) (plain o (d ∷ []) uses num) r) computes

module _ (program : Program) (symbol : ℕ) (function : Function) (there : function_at program symbol ≡ Some function) (f : GFunction)
    (typed : ValuesTyped program f (types function) []) (R : Point program symbol → State → Type 0) (measure : Point program symbol → ℕ)
    (now : Activation) (memory : Memory) (s : State) (inst : Inst) (h : Alike program symbol function there f now memory s)
    (at : slice_get (insts_at function now.block) now.place ≡ Some inst) (gives : has_result inst ≡ true) (r : List GInst) (m : ℕ) where
  abbrev N : ℕ
  N = number_at function now.block now.place

  -- Code, and an instruction that computes behind it, follow an instruction that gives this value
  pub follows_run : (code : List GInst) (regs : Registers) (o : GOp) (uses : List ℕ) (num most most' : ℕ) (v : Value) → kind o ≡ Computes
      → Runs f s code (plain o (N ∷ []) uses num ∷ r) regs most → Holds program f (types function) now.values regs
      → act program function now memory inst inst.op ≡ ir.plain program function now memory inst (ir.give program function now memory inst v)
      → FitsWidth (width inst.gives) v → RefinesBits (bits_of (width inst.gives) v) (computed_bits f (record s { regs = regs }) o N uses num r)
      → weight f.types (plain o (N ∷ []) uses num) ≤ most' → most + most' ≤ 256 * units inst
      → (Alike program symbol function there f (behind function now inst v) memory (record s { rest = r; regs = write regs N (computed_bits f (record s { regs = regs }) o N uses num r) })
      → R (behind function now inst v, memory) (record s { rest = r; regs = write regs N (computed_bits f (record s { regs = regs }) o N uses num r) }))
      → Fol program symbol function there f R measure m (here_step program symbol function there f R measure now memory) (step f (record s { rest = code ++ plain o (N ∷ []) uses num ∷ r }))
  follows_run code regs o uses num most most' v computes run holds acts fits known heavy light closes =
      let one = ap (step_over_bits program symbol now memory) (step_is program symbol function there f now memory s inst h at ∙ acts) in
      let low = run.2 in
      let runs = ap (play.by_kind f (record s { rest = plain o (N ∷ []) uses num ∷ r; regs = regs }) (plain o (N ∷ []) uses num) r) computes in
      let weighs : (step f (record s { rest = plain o (N ∷ []) uses num ∷ r; regs = regs })).weight ≡ weight f.types (plain o (N ∷ []) uses num) = ap (λ (z : Step State). z.weight) runs in
      subst (λ (z : Step (Point program symbol)). Fol program symbol function there f R measure m z (step f (record s { rest = code ++ plain o (N ∷ []) uses num ∷ r }))) (sym one)
      (moves (behind function now inst v, memory) (record s { rest = r; regs = write regs N (computed_bits f (record s { regs = regs }) o N uses num r) }) refl run.1
      (ap (λ (z : Step State). z.does) runs)
      (closes (alike_behind program symbol function there f now memory s regs r inst v (computed_bits f (record s { regs = regs }) o N uses num r) h at gives fits holds known))
      (omega (arith, low, weighs, heavy, light)) (omega arith))

module _ (f : GFunction) where
  -- this code runs before that, its last instruction goes on, and leaves these registers, within so much weight
  abbrev pub Gets : State → List GInst → List GInst → Registers → ℕ → Type 0
  Gets s code r regs most =
      (before : Step State) × (w : ℕ) × Chain State (step f) (step f (record s { rest = code ++ r })) before w 0 × (before.does ≡ Goes (record s { rest = r; regs = regs })) × (w + before.weight ≤ most)

  pub gets_then : (s : State) (first second r : List GInst) (regs regs' : Registers) (most most' : ℕ) → Runs f s first (second ++ r) regs most
      → Gets (record s { regs = regs }) second r regs' most' → Gets s (first ++ second) r regs' (most + most')
  gets_then s first second r regs regs' most most' (w, c, low) (before, w', c', goes, low') = (
    before,
    w + w',
    subst (λ (code : List GInst). Chain State (step f) (step f (record s { rest = code })) before (w + w') 0) (sym (append_assoc first second r)) (chain_then c c'),
    goes,
    omega (arith, low, low'),
  )

  pub gets_one : (s : State) (o : GOp) (d : ℕ) (uses : List ℕ) (num most : ℕ) (r : List GInst) → kind o ≡ Computes → weight f.types (plain o (d ∷ []) uses num) ≤ most
      → Gets s (plain o (d ∷ []) uses num ∷ []) r (write s.regs d (computed_bits f s o d uses num r)) most
  gets_one s o d uses num most r computes light =
      let is = ap (play.by_kind f (record s { rest = plain o (d ∷ []) uses num ∷ r }) (plain o (d ∷ []) uses num) r) computes in
      let weighs : (step f (record s { rest = plain o (d ∷ []) uses num ∷ r })).weight ≡ weight f.types (plain o (d ∷ []) uses num) = ap (λ (z : Step State). z.weight) is in
      (step f (record s { rest = plain o (d ∷ []) uses num ∷ r }), 0, here, ap (λ (z : Step State). z.does) is, omega (arith, weighs, light))

module _ (program : Program) (symbol : ℕ) (function : Function) (there : function_at program symbol ≡ Some function) (f : GFunction)
    (typed : ValuesTyped program f (types function) []) (R : Point program symbol → State → Type 0) (measure : Point program symbol → ℕ)
    (now : Activation) (memory : Memory) (s : State) (inst : Inst) (h : Alike program symbol function there f now memory s)
    (at : slice_get (insts_at function now.block) now.place ≡ Some inst) (gives : has_result inst ≡ true) (r : List GInst) (m : ℕ) where
  -- code whose last instruction writes the register of the value follows an instruction that gives it
  pub follows_gets : (code : List GInst) (regs : Registers) (a : Bits) (most : ℕ) (v : Value)
      → Gets f s code r (write regs (number_at function now.block now.place) a) most → Holds program f (types function) now.values regs
      → act program function now memory inst inst.op ≡ ir.plain program function now memory inst (ir.give program function now memory inst v)
      → FitsWidth (width inst.gives) v → RefinesBits (bits_of (width inst.gives) v) a → most ≤ 256 * units inst
      → (Alike program symbol function there f (behind function now inst v) memory (record s { rest = r; regs = write regs (number_at function now.block now.place) a })
      → R (behind function now inst v, memory) (record s { rest = r; regs = write regs (number_at function now.block now.place) a }))
      → Fol program symbol function there f R measure m (here_step program symbol function there f R measure now memory) (step f (record s { rest = code ++ r }))
  follows_gets code regs a most v gets holds acts fits known light closes =
      let one = ap (step_over_bits program symbol now memory) (step_is program symbol function there f now memory s inst h at ∙ acts) in
      let low = gets.4 in
      subst (λ (z : Step (Point program symbol)). Fol program symbol function there f R measure m z (step f (record s { rest = code ++ r }))) (sym one)
      (moves (behind function now inst v, memory) (record s { rest = r; regs = write regs (number_at function now.block now.place) a }) refl gets.2 gets.3
      (closes (alike_behind program symbol function there f now memory s regs r inst v a h at gives fits holds known))
      (omega (arith, low, light)) (omega arith))
