-- Calls and returns are followed by their code.
use Rattle.std.proofs.Common.{◌≡◌, refl, sym, ap, subst, ◌∙◌, ℕ, zero, suc, ◌+◌, ◌-◌, ◌*◌, ◌^◌, ◌<◌, ◌≤◌, ◌⊎◌, inl, inr, Bool, true, false, List, [], ◌∷◌, ◌++◌, length, map, take, Option, Some, None, arith}
use Rattle.std.specs.Prelude.{slice_get, ◌==◌}
use Rattle.std.specs.Int.{bit_at}
use Rattle.std.proofs.lemmas.Nat.{pow-add}
use Rattle.std.proofs.lemmas.Bool.{cases_lt}
use Rattle.std.proofs.lemmas.Nat.Bits.{bit_at_above, bit_at_cat_low, bit_at_cat_high}
use Rattle.ir_core.specs.Program.{Program}
use Rattle.ir_core.specs.declared.program.Global.{Global}
use Rattle.ir_core.specs.Units.{units, has_result, types_of_arguments, parts_in}
use Rattle.ir_core.specs.declared.types.Ty.{Ty}
use Rattle.ir_core.specs.declared.types.Ty.TheVariants.{Void, Int, Ptr}
use Rattle.ir_core.specs.declared.code.Operand.{Operand}
use Rattle.ir_core.specs.declared.code.Op.TheVariants.{Call, Ret, Unreachable}
use Rattle.ir_core.specs.declared.code.Inst.{Inst}
use Rattle.ir_core.specs.declared.program.Function.{Function}
use Rattle.ir_meaning.specs.declared.activation.Activation.{Activation}
use Rattle.ir_meaning.specs.Value.{Value}
use Rattle.ir_meaning.specs.Memory.{Memory, data_start}
use Rattle.ir_meaning.specs.Operators.{width}
use Rattle.ir_meaning.specs.Step as ir
use Rattle.ir_meaning.specs.Step.{function_at, insts_at, number_at, act, operand, arguments_of}
use Rattle.ir_meaning.specs.Meaning.{meaning, of_function, result_width, parameter_widths}
use Rattle.ir_meaning.specs.Ranges.{FitsWidth}
use Rattle.ir_meaning.proofs.Bytes.{all-of}
use Rattle.ir_meaning.proofs.Numbering.{number-type}
use Rattle.ir_meaning.specs.Typed.{types, IsOperand, AreArguments, IsValueType}
use Rattle.gmir.specs.declared.code.GOp.TheVariants as g
use Rattle.gmir.specs.declared.code.GInst.{GInst}
use Rattle.gmir.specs.declared.code.GFunction.{GFunction}
use Rattle.gmir.specs.Play as play
use Rattle.gmir.specs.Play.{State, weight, is_legal}
use Rattle.walks.specs.Registers.{Registers}
use Rattle.walks.specs.Walk.{Bits, Reply, Step}
use Rattle.walks.specs.Bits.{free, cut, bit_of, with_bit, number as number_in}
use Rattle.walks.specs.Refines.{RefinesBits, AllRefine, RefinesMemory, RefinesReply}
use Rattle.walks.specs.Simulation.{here, gives, asks}
use Rattle.walks.specs.Functions.{bits_of, all_bits, result_bits, result_value, Point, resumed, step_over_bits}
use Rattle.walks.proofs.Numbers.{lt_true}
use Rattle.walks.proofs.Bytes.{take_mono}
use Rattle.generic_code.specs.Literals.{Pool, type_of, loads, all_loaded, registers, register_of, literal, behind as behind_operand, behind_all}
use Rattle.generic_code.proofs.Rows.{by_bits}
use Rattle.generic_code.proofs.Loads.{Stand, ValuesTyped, AreTyped, AllReady, prepared, registers_behind, loads_run, hold_behind, width_there, same_width, by_most, Known}
use Rattle.generic_code.proofs.Computes.{some_value}
use Rattle.generic_code.proofs.Touches.{breaks_here, here_is, alike_changed}
use Rattle.generic_code.proofs.Steps.{Alike, alike_behind, Fol, here_step}

-- ---- the number of known bits has those bits

with_below : (w : ℕ) (m : Option ℕ) (b : Option Bool) (n : ℕ) → ((k : ℕ) → m ≡ Some k → k < 2 ^ w) → with_bit w m b ≡ Some n → n < 2 ^ suc w
with_below w None b n h e = absurd (let bad : ⊥ = cc in bad)
with_below w (Some k) None n h e = absurd (let bad : ⊥ = cc in bad)
with_below w (Some k) (Some true) n h e =
    let same : k + 2 ^ w ≡ n = cc in let low = h k refl in
    let twice : 2 ^ suc w ≡ 2 ^ w + 2 ^ w = (let sum : suc w ≡ w + 1 = omega arith in ap (λ (j : ℕ). 2 ^ j) sum ∙ pow-add 2 w 1 ∙ omega arith) in
    omega (arith, same, low, twice)
with_below w (Some k) (Some false) n h e =
    let same : k ≡ n = cc in let low = h k refl in
    let twice : 2 ^ suc w ≡ 2 ^ w + 2 ^ w = (let sum : suc w ≡ w + 1 = omega arith in ap (λ (j : ℕ). 2 ^ j) sum ∙ pow-add 2 w 1 ∙ omega arith) in
    omega (arith, same, low, twice)

pub number_below : (w : ℕ) (a : Bits) (n : ℕ) → number_in w a ≡ Some n → n < 2 ^ w
number_below zero a n e = let same : 0 ≡ n = cc in omega (arith, same)
number_below (suc w) a n e = with_below w (number_in w a) (a w) n (λ k h. number_below w a k h) e

with_bits : (w : ℕ) (a : Bits) (m : Option ℕ) (b : Option Bool) (n i : ℕ) → a w ≡ b → ((k : ℕ) → m ≡ Some k → (k < 2 ^ w) × ((i : ℕ) → i < w → a i ≡ Some (bit_of k i)))
    → with_bit w m b ≡ Some n → i < suc w → a i ≡ Some (bit_of n i)
with_bits w a None b n i top h e l = absurd (let bad : ⊥ = cc in bad)
with_bits w a (Some k) None n i top h e l = absurd (let bad : ⊥ = cc in bad)
with_bits w a (Some k) (Some true) n i top h e l = by_place (cases_lt i w)
  where
    sum : n ≡ 1 * 2 ^ w + k
    sum = let same : k + 2 ^ w ≡ n = cc in omega (arith, same)

    by_place : (i < w) ⊎ (w ≤ i) → a i ≡ Some (bit_of n i)
    by_place (inl s) = (h k refl).1 i s ∙ ap (λ (z : ℕ). Some (z == 1)) (sym (ap (λ (z : ℕ). bit_at z i) sum ∙ bit_at_cat_low 1 w k i s))
    by_place (inr s) =
        let is : i ≡ w = omega (arith, s, l) in
        let none : i - w ≡ 0 = omega (arith, is) in
        let one : bit_of n i ≡ true =
        ap (λ (z : ℕ). z == 1) (ap (λ (z : ℕ). bit_at z i) sum ∙ bit_at_cat_high 1 w k i (h k refl).0 s ∙ ap (bit_at 1) none) in
        ap a is ∙ top ∙ ap Some (sym one)
with_bits w a (Some k) (Some false) n i top h e l = by_place (cases_lt i w)
  where
    same : k ≡ n
    same = cc

    by_place : (i < w) ⊎ (w ≤ i) → a i ≡ Some (bit_of n i)
    by_place (inl s) = (h k refl).1 i s ∙ ap (λ (z : ℕ). Some (bit_of z i)) same
    by_place (inr s) =
        let is : i ≡ w = omega (arith, s, l) in
        let zero_bit : bit_of n i ≡ false = ap (λ (z : ℕ). bit_of z i) (sym same) ∙ ap (λ (z : ℕ). z == 1) (bit_at_above k w i (h k refl).0 s) in
        ap a is ∙ top ∙ ap Some (sym zero_bit)

pub number_bits : (w : ℕ) (a : Bits) (n i : ℕ) → number_in w a ≡ Some n → i < w → a i ≡ Some (bit_of n i)
number_bits zero a n i e l = absurd (let bad : ⊥ = omega (arith, l) in bad)
number_bits (suc w) a n i e l =
    with_bits w a (number_in w a) (a w) n i refl (λ k h. (number_below w a k h, λ j below. number_bits w a k j h below)) e l

-- the value of a reply's bits, and its bits cut to a register
pub reply_row : (w : ℕ) (a b : Bits) → RefinesBits a b → RefinesBits (bits_of w (number_in w a)) (cut w b)
reply_row w a b h = by_value (number_in w a) refl
  where
    by_value : (v : Value) → number_in w a ≡ v → RefinesBits (bits_of w v) (cut w b)
    by_value None e = λ i x z. absurd (let bad : ⊥ = cc in bad)
    by_value (Some n) e = by_bits w n (cut w b) (λ i below. rw (lt_true i w below) (h i (bit_of n i) (number_bits w a n i e below)))

-- ---- arguments

module _ (program : Program) (f : GFunction) (tys : List Ty) (values : List Value) where
  pub arguments_row : (regs : Registers) (next : ℕ) (ops : List (Ty × Operand)) (rs : List ℕ) → AllReady program f tys values regs next ops rs
      → AllRefine (all_bits (map width (types_of_arguments ops)) (arguments_of program values ops)) (map (λ r. regs r) rs)
  arguments_row regs next [] [] h = tt
  arguments_row regs next [] (r ∷ rs) h = absurd h
  arguments_row regs next (one ∷ more) [] h = absurd h
  arguments_row regs next (one ∷ more) (r ∷ rs) h = (h.0.bits, arguments_row regs next more rs h.1)

  -- operands of the types of parameters
  pub typed_arguments : (ops : List (Ty × Operand)) → AreArguments tys ops → ((i : ℕ) (ty : Ty) → slice_get (types_of_arguments ops) i ≡ Some ty → IsValueType ty) → AreTyped program f tys values ops
  typed_arguments [] are typed = tt
  typed_arguments (one ∷ more) are typed = (typed 0 one.0 refl, are.0, typed_arguments more are.1 (λ i. typed (suc i)))

pub registers_long : (globals : List Global) (next : Pool) (ops : List (Ty × Operand)) → length (registers globals next ops) ≡ length ops
registers_long globals next [] = refl
registers_long globals next (one ∷ more) = ap suc (registers_long globals (behind_operand (literal globals one.1) one.0 next) more)

result_some : (ty : Ty) → IsValueType ty → result_width ty ≡ Some (width ty)
result_some Void h = absurd h
result_some (Int w) h = refl
result_some Ptr h = refl

fits_number : (w : ℕ) (a : Bits) → FitsWidth w (number_in w a)
fits_number w a = by_value (number_in w a) refl
  where
    by_value : (v : Value) → number_in w a ≡ v → FitsWidth w v
    by_value None e = tt
    by_value (Some n) e = number_below w a n e

-- ---- returns

module _ (program : Program) (symbol : ℕ) (function : Function) (there : function_at program symbol ≡ Some function) (f : GFunction)
    (typed : ValuesTyped program f (types function) []) (R : Point program symbol → State → Type 0) (measure : Point program symbol → ℕ)
    (now : Activation) (memory : Memory) (s : State) (inst : Inst) (h : Alike program symbol function there f now memory s)
    (at : slice_get (insts_at function now.block) now.place ≡ Some inst)
    (next : Pool) (low : Known f (types function) next s.regs) (r : List GInst) (m : ℕ) where
  abbrev F : Step (Point program symbol) → Step State → Type 0
  F = Fol program symbol function there f R measure m

  abbrev here_now : Step (Point program symbol)
  here_now = here_step program symbol function there f R measure now memory

  abbrev return_inst : List ℕ → GInst
  return_inst rs = record { op = g.Return; defs = []; uses = rs; num = 0; to = [] }

  -- the width of the result of this function
  result_is : (meaning program).result symbol ≡ result_width function.ret
  result_is = ap (of_function None (λ (z : Function). result_width z.ret)) there

  -- the memory that is given back
  memory_back : RefinesMemory (take now.entry_length memory) (take s.base_length s.memory)
  memory_back = subst (λ (n : ℕ). RefinesMemory (take now.entry_length memory) (take n s.memory)) (sym h.base) (take_mono now.entry_length memory s.memory h.memory')

  pub follows_void : inst.op ≡ Ret None → F here_now (play.step f (record s { rest = return_inst [] ∷ r }))
  follows_void is =
      let one = here_is program symbol function there f typed R measure now memory s inst h at next low r m ∙ ap (step_over_bits program symbol now memory) (ap (act program function now memory inst) is) in
      let cost : 1 ≤ units inst = omega arith in
      let light = by_most (is_legal f.types (return_inst [])) 64 96 96 (omega arith) (omega arith) in
      subst (λ (z : Step (Point program symbol)). F z (play.step f (record s { rest = return_inst [] ∷ r }))) (sym one)
      (gives (result_bits ((meaning program).result symbol) None) free (take now.entry_length memory) (take s.base_length s.memory) refl here refl
      (void_free ((meaning program).result symbol)) memory_back (omega (arith, light, cost)) (omega arith))
    where
      void_free : (o : Option ℕ) → RefinesBits (result_bits o None) free
      void_free None i b e = e
      void_free (Some w) i b e = e

  pub follows_trap : inst.op ≡ Unreachable → (st : Step State) → F here_now st
  follows_trap is st =
      breaks_here program symbol function there f typed R measure now memory s inst h at next low r m [] st (ap (act program function now memory inst) is)

  -- a value that is returned
  pub follows_return : (x : Operand) → inst.op ≡ Ret (Some x) → IsValueType function.ret → IsOperand (types function) function.ret x
      → Stand f.types next.next (all_loaded program.module_.globals next ((function.ret, x) ∷ []))
      → F here_now (play.step f (record s { rest = loads program.module_.globals next ((function.ret, x) ∷ []) ++ return_inst (registers program.module_.globals next ((function.ret, x) ∷ [])) ∷ r }))
  follows_return x is value_type is_x stand =
      let one = here_is program symbol function there f typed R measure now memory s inst h at next low r m ∙ ap (step_over_bits program symbol now memory) (ap (act program function now memory inst) is) in
      let cost : 1 ≤ units inst = omega arith in
      let run = loads_run program.module_.globals f ((function.ret, x) ∷ []) s next (return_inst (registers program.module_.globals next ((function.ret, x) ∷ [])) ∷ r) in
      let loaded_low = run.2 in
      let light = by_most (is_legal f.types (return_inst (registers program.module_.globals next ((function.ret, x) ∷ [])))) 64 96 96 (omega arith) (omega arith) in
      let rd = (prepared program f (types function) now.values ((function.ret, x) ∷ []) next s.regs (value_type, is_x, tt) typed low h.holds stand).ready in
      let width_is : (meaning program).result symbol ≡ Some (width function.ret) = result_is ∙ result_some function.ret value_type in
      subst (λ (z : Step (Point program symbol)). F z (play.step f (record s { rest = loads program.module_.globals next ((function.ret, x) ∷ []) ++ return_inst (registers program.module_.globals next ((function.ret, x) ∷ [])) ∷ r }))) (sym one)
      (gives (result_bits ((meaning program).result symbol) (operand program now.values x)) (registers_behind program.module_.globals f next ((function.ret, x) ∷ []) s.regs (register_of x (literal program.module_.globals x) function.ret next))
      (take now.entry_length memory) (take s.base_length s.memory) refl run.1 refl
      (subst (λ (o : Option ℕ). RefinesBits (result_bits o (operand program now.values x)) (registers_behind program.module_.globals f next ((function.ret, x) ∷ []) s.regs (register_of x (literal program.module_.globals x) function.ret next))) (sym width_is) rd.0.bits)
      memory_back (omega (arith, loaded_low, light, cost)) (omega arith))

  -- ---- calls

  module _ (callee : ℕ) (arguments : List (Ty × Operand)) (is : inst.op ≡ Call callee arguments) (called : Function) (called_there : function_at program callee ≡ Some called)
      (params_are : types_of_arguments arguments ≡ called.params) (ret_is : inst.gives ≡ called.ret) (params_typed : (i : ℕ) (ty : Ty) → slice_get called.params i ≡ Some ty → IsValueType ty)
      (are : AreArguments (types function) arguments) (stand : Stand f.types next.next (all_loaded program.module_.globals next arguments)) (end_is : f.end ≡ data_start + program.room) where
    abbrev call_inst : List ℕ → GInst
    call_inst defs = record { op = g.Call; defs = defs; uses = registers program.module_.globals next arguments; num = 0; to = callee ∷ [] }

    abbrev call_regs : Registers
    call_regs = registers_behind program.module_.globals f next arguments s.regs

    abbrev call_state : List ℕ → State
    call_state defs = record s { rest = call_inst defs ∷ r; regs = call_regs }

    -- the state behind the call, of the function and of its code
    abbrev resumed_at : Reply → Point program symbol
    resumed_at reply = resumed program symbol callee now reply

    abbrev behind_at : List ℕ → Reply → State
    behind_at defs reply = play.behind_call f (call_state defs) (call_inst defs) r reply

    answered_is : (v : Value) → ir.answered program now v ≡ ir.behind function now inst v
    answered_is v =
        ap (λ (k : ℕ). ir.answered_in now v (function_at program k)) h.symbol' ∙ ap (ir.answered_in now v) there ∙ ap (ir.answered_at now v function) at

    width_of_reply : (meaning program).result callee ≡ result_width inst.gives
    width_of_reply = ap (of_function None (λ (z : Function). result_width z.ret)) called_there ∙ ap result_width (sym ret_is)

    params_of : (meaning program).parameters callee ≡ map width (types_of_arguments arguments)
    params_of = ap (of_function [] parameter_widths) called_there ∙ ap (map width) (sym params_are)

    room_of : (a b : Reply) → RefinesReply f.end a b → length a.memory ≤ program.room
    room_of a b q = let top_low = q.room in omega (arith, top_low, end_is)

    -- a call whose answer leads to related states follows
    follows_asked : (defs : List ℕ) → ((a b : Reply) → RefinesReply f.end a b → R (resumed_at a) (behind_at defs b))
        → F here_now (play.step f (record s { rest = loads program.module_.globals next arguments ++ call_inst defs ∷ r }))
    follows_asked defs related =
        let one = here_is program symbol function there f typed R measure now memory s inst h at next low r m ∙ ap (step_over_bits program symbol now memory) (ap (act program function now memory inst) is) in
        let run = loads_run program.module_.globals f arguments s next (call_inst defs ∷ r) in
        let loaded_low = run.2 in
        let count : length (registers program.module_.globals next arguments) ≡ length arguments = registers_long program.module_.globals next arguments in
        let parts : parts_in inst.op ≡ length arguments = ap parts_in is in
        let cost : 1 + parts_in inst.op ≤ units inst = omega arith in
        let light = by_most (is_legal f.types (call_inst defs)) (64 + 12 * length (registers program.module_.globals next arguments)) (96 + 36 * length (registers program.module_.globals next arguments))
        (96 + 36 * length (registers program.module_.globals next arguments)) (omega arith) (omega arith) in
        let rd = (prepared program f (types function) now.values arguments next s.regs
        (typed_arguments program f (types function) now.values arguments are (λ i ty e. params_typed i ty (subst (λ (tys : List Ty). slice_get tys i ≡ Some ty) params_are e))) typed low h.holds stand).ready in
        subst (λ (z : Step (Point program symbol)). F z (play.step f (record s { rest = loads program.module_.globals next arguments ++ call_inst defs ∷ r }))) (sym one)
        (asks callee (all_bits ((meaning program).parameters callee) (arguments_of program now.values arguments)) (map (λ x. call_regs x) (registers program.module_.globals next arguments))
        memory s.memory (resumed program symbol callee now) (play.behind_call f (call_state defs) (call_inst defs) r) refl run.1 refl
        (subst (λ (ws : List ℕ). AllRefine (all_bits ws (arguments_of program now.values arguments)) (map (λ x. call_regs x) (registers program.module_.globals next arguments))) (sym params_of)
        (arguments_row program f (types function) now.values call_regs (behind_all program.module_.globals next arguments).next arguments (registers program.module_.globals next arguments) rd))
        h.memory' related (omega (arith, loaded_low, light, count, parts, cost)) (omega arith))

    -- a call that gives a value
    pub follows_call : (gives_value : has_result inst ≡ true) (value_type : IsValueType inst.gives)
        → ((v : Value) (a b : Reply) → Alike program symbol function there f (ir.behind function now inst v) a.memory (behind_at (number_at function now.block now.place ∷ []) b)
        → R (ir.behind function now inst v, a.memory) (behind_at (number_at function now.block now.place ∷ []) b))
        → F here_now (play.step f (record s { rest = loads program.module_.globals next arguments ++ call_inst (number_at function now.block now.place ∷ []) ∷ r }))
    follows_call gives_value value_type closes = follows_asked (number_at function now.block now.place ∷ []) (λ a b q.
        let some = some_value inst.gives value_type in
        let w_is : (meaning program).result callee ≡ Some (width inst.gives) = width_of_reply ∙ result_some inst.gives value_type in
        let n_width : play.width f.types (number_at function now.block now.place) ≡ width inst.gives =
        width_there f.types (number_at function now.block now.place) (type_of inst.gives) (typed (number_at function now.block now.place) inst.gives (number-type function now.block now.place inst at gives_value)) ∙ same_width inst.gives some.0 in
        let v : Value = number_in (width inst.gives) a.value in
        let bits : RefinesBits (bits_of (width inst.gives) (number_in (width inst.gives) a.value)) (cut (play.width f.types (number_at function now.block now.place)) b.value) =
        subst (λ (k : ℕ). RefinesBits (bits_of (width inst.gives) (number_in (width inst.gives) a.value)) (cut k b.value)) (sym n_width) (reply_row (width inst.gives) a.value b.value q.value) in
        let first = alike_behind program symbol function there f now memory s call_regs r inst (number_in (width inst.gives) a.value) (cut (play.width f.types (number_at function now.block now.place)) b.value) h at gives_value
        (fits_number (width inst.gives) a.value) (hold_behind program f (types function) now.values arguments next s.regs low h.holds) bits in
        let state : resumed_at a ≡ (ir.behind function now inst (number_in (width inst.gives) a.value), a.memory) =
        ap (λ (o : Option ℕ). (ir.answered program now (result_value o a.value), a.memory)) w_is ∙ ap (λ (z : Activation). (z, a.memory)) (answered_is (number_in (width inst.gives) a.value)) in
        subst (λ (z : Point program symbol). R z (behind_at (number_at function now.block now.place ∷ []) b)) (sym state)
        (closes (number_in (width inst.gives) a.value) a b (record {
          symbol' = first.symbol';
          base = first.base;
          block = first.block;
          memory' = q.memory;
          bytes = all-of a.memory q.bytes;
          room = room_of a b q;
          fit = first.fit;
          holds = first.holds;
        })))

    -- a call that gives none
    pub follows_void_call : has_result inst ≡ false → inst.gives ≡ Void
        → ((a b : Reply) → Alike program symbol function there f (ir.behind function now inst None) a.memory (behind_at [] b) → R (ir.behind function now inst None, a.memory) (behind_at [] b))
        → F here_now (play.step f (record s { rest = loads program.module_.globals next arguments ++ call_inst [] ∷ r }))
    follows_void_call none void closes = follows_asked [] (λ a b q.
        let w_is : (meaning program).result callee ≡ None = width_of_reply ∙ ap result_width void in
        let state : resumed_at a ≡ (ir.behind function now inst None, a.memory) =
        ap (λ (o : Option ℕ). (ir.answered program now (result_value o a.value), a.memory)) w_is ∙ ap (λ (z : Activation). (z, a.memory)) (answered_is None) in
        subst (λ (z : Point program symbol). R z (behind_at [] b)) (sym state)
        (closes a b
        (alike_changed program symbol function there f typed R measure now memory s inst h at next low r m call_regs a.memory b.memory none
        (hold_behind program f (types function) now.values arguments next s.regs low h.holds) q.memory (all-of a.memory q.bytes) (room_of a b q))))
