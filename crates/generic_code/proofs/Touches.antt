-- Loads, stores and allocas are followed by their code.
use Rattle.std.proofs.Common.{◌≡◌, refl, sym, ap, subst, ◌∙◌, ℕ, zero, suc, ◌+◌, ◌-◌, ◌*◌, ◌/◌, ◌^◌, ◌<◌, ◌≤◌, Bool, true, false, List, [], ◌∷◌, ◌++◌, length, drop, Option, Some, None, arith}
use Rattle.std.specs.Prelude.{slice_get, slice_set, replicate, nat_le, ◌&&◌, ◌||◌, ◌==◌, if◌then◌else◌}
use Rattle.std.proofs.Math.Nat.{mod-eq_of_lt}
use Rattle.std.proofs.lemmas.Bool.{leb-true, and_parts}
use Rattle.std.proofs.lemmas.List.{length-append}
use Rattle.ir_core.specs.Program.{Program}
use Rattle.ir_core.specs.declared.layout.Extent.{Extent}
use Rattle.ir_core.specs.Layout.{size, aligned, is_memory_width}
use Rattle.ir_core.specs.Units.{units, has_result}
use Rattle.ir_core.specs.declared.types.Ty.{Ty}
use Rattle.ir_core.specs.declared.types.Ty.TheVariants.{Void, Int, Ptr}
use Rattle.ir_core.specs.declared.types.MemTy.{MemTy}
use Rattle.ir_core.specs.declared.code.Operand.{Operand}
use Rattle.ir_core.specs.declared.code.Op.TheVariants.{Alloca, Load, Store}
use Rattle.ir_core.specs.declared.code.Inst.{Inst}
use Rattle.ir_core.specs.declared.program.Function.{Function}
use Rattle.ir_meaning.specs.declared.activation.Activation.{Activation}
use Rattle.ir_meaning.specs.Value.{Value, Byte}
use Rattle.ir_meaning.specs.Memory.{Memory, data_start, top, is_inside, bytes_at, with_bytes, from_bytes, to_bytes, byte_count}
use Rattle.ir_meaning.specs.Operators.{width}
use Rattle.ir_meaning.specs.Step as ir
use Rattle.ir_meaning.specs.Step.{function_at, insts_at, number_at, behind, act, operand}
use Rattle.ir_meaning.specs.Ranges.{FitsWidth}
use Rattle.ir_meaning.specs.Typed.{types, IsOperand, IsStored, IsValueType}
use Rattle.ir_core.specs.declared.types.TheConstants.{MAX_WIDTH}
use Rattle.ir_meaning.proofs.Bytes.{AllBytes, all-take, all-append, all-replicate, all-value, all-with, loaded-fits}
use Rattle.ir_meaning.proofs.Lengths.{bytes_at-length, with_bytes-length, to_bytes-length}
use Rattle.ir_meaning.proofs.Keeping.{ValuesFit, operand-fits}
use Rattle.ir_meaning.proofs.Numbering.{number-type}
use Rattle.gmir.specs.declared.code.GOp.TheVariants as g
use Rattle.gmir.specs.declared.code.GInst.{GInst}
use Rattle.gmir.specs.declared.code.GFunction.{GFunction}
use Rattle.gmir.specs.Play as play
use Rattle.gmir.specs.Play.{State, weight, is_legal}
use Rattle.walks.specs.Registers.{Registers, write}
use Rattle.walks.specs.Walk.{Bits, Goes, Wants, Breaks, Step}
use Rattle.walks.specs.Bits.{constant, cut, number as number_in}
use Rattle.walks.specs.Bytes.{bits_of_bytes, bytes_of_bits}
use Rattle.walks.specs.Refines.{RefinesBits, RefinesMemory}
use Rattle.walks.specs.Simulation.{here, moves, wants, breaks}
use Rattle.walks.specs.Functions.{bits_of, Point, step_over_bits}
use Rattle.walks.proofs.Compose.{bits_compose, same_memory}
use Rattle.walks.proofs.Numbers.{number_constant}
use Rattle.walks.proofs.Monotone.{keeps_number}
use Rattle.walks.proofs.Bytes.{bits_mono, read_mono, written_mono, append_mono}
use Rattle.generic_code.specs.Literals.{Pool, type_of, loads, all_loaded, registers, register_of, literal, behind as behind_operand}
use Rattle.generic_code.proofs.Loads.{Stand, Holds, ValuesTyped, Readied, prepared, registers_behind, loads_run, hold_behind, width_there, same_width, by_most, Known}
use Rattle.generic_code.proofs.Results.{cut_same}
use Rattle.generic_code.proofs.Bytes.{read_row, written_row}
use Rattle.generic_code.proofs.Steps.{Alike, alike_behind, Fol, here_step, step_is}

-- ---- sizes in memory

memory_width : (w : ℕ) → is_memory_width w ≡ true → 8 * (w / 8) ≡ w
memory_width w e = grind arith

pub stored_width : (ty : Ty) → IsStored ty → 8 * byte_count ty ≡ width ty
stored_width Void h = absurd h
stored_width (Int w) h =
    subst (λ (b : Bool). (let e : Extent = if b then record { size = w / 8; align = w / 8 } else record { size = 0; align = 1 } in 8 * e.size ≡ w)) (sym h) (memory_width w h)
stored_width Ptr h = refl

pub stored_value : (ty : Ty) → IsStored ty → IsValueType ty
stored_value Void h = h
stored_value (Int zero) h = absurd (let bad : ⊥ = cc in bad)
stored_value (Int (suc w)) h =
    let parts = and_parts (suc w == 8 || suc w == 16 || suc w == 32 || suc w == 64 || suc w == 128) (nat_le (suc w) MAX_WIDTH) h in
    (omega arith, leb-true _ _ parts.1)
stored_value Ptr h = tt

pub stored_real : (ty : Ty) → IsStored ty → ty ≡ Void → ⊥
stored_real Void h = absurd h
stored_real (Int w) h = λ e. let bad : ⊥ = cc in bad
stored_real Ptr h = λ e. let bad : ⊥ = cc in bad

all_drop : (n : ℕ) (xs : Memory) → AllBytes xs → AllBytes (drop n xs)
all_drop zero xs h = h
all_drop (suc n) [] h = tt
all_drop (suc n) (x ∷ xs) h = all_drop n xs h.1

eighth : (n : ℕ) → 8 * n / 8 ≡ n
eighth n = omega arith

-- an address is known where its bits are
address_known : (a : ℕ) (A : Bits) → a < 2 ^ 64 → RefinesBits (constant 64 a) A → number_in 64 A ≡ Some a
address_known a A fits h = keeps_number 64 (constant 64 a) A h a (number_constant 64 64 a (omega arith) ∙ ap Some (mod-eq_of_lt fits))

shifted_true : (a n b : ℕ) → nat_le (a + n) b ≡ true → nat_le (data_start + a + n) (data_start + b) ≡ true
shifted_true a n b e = grind arith

shifted_false : (a n b : ℕ) → nat_le (a + n) b ≡ false → nat_le (data_start + a + n) (data_start + b) ≡ false
shifted_false a n b e = grind arith

shifted_test : (a n b : ℕ) (c : Bool) → nat_le (a + n) b ≡ c → nat_le (data_start + a + n) (data_start + b) ≡ c
shifted_test a n b true e = shifted_true a n b e
shifted_test a n b false e = shifted_false a n b e

replicate_long : (n : ℕ) (b : Byte) → length (replicate n b) ≡ n
replicate_long zero b = refl
replicate_long (suc n) b = ap suc (replicate_long n b)

grown_room : (memory : Memory) (n room : ℕ) → nat_le (length memory + n) room ≡ true → length (memory ++ replicate n None) ≤ room
grown_room memory n room e =
    let le : length memory + n ≤ room = leb-true _ _ e in
    let long = length-append memory (replicate n None) in
    let fresh = replicate_long n None in
    omega (arith, le, long, fresh)

module _ (program : Program) (symbol : ℕ) (function : Function) (there : function_at program symbol ≡ Some function) (f : GFunction)
    (typed : ValuesTyped program f (types function) []) (R : Point program symbol → State → Type 0) (measure : Point program symbol → ℕ)
    (now : Activation) (memory : Memory) (s : State) (inst : Inst) (h : Alike program symbol function there f now memory s)
    (at : slice_get (insts_at function now.block) now.place ≡ Some inst)
    (next : Pool) (low : Known f (types function) next s.regs) (r : List GInst) (m : ℕ) where
  abbrev F : Step (Point program symbol) → Step State → Type 0
  F = Fol program symbol function there f R measure m

  abbrev here_now : Step (Point program symbol)
  here_now = here_step program symbol function there f R measure now memory

  abbrev value_of : Operand → Value
  value_of = operand program now.values

  abbrev N : ℕ
  N = number_at function now.block now.place

  abbrev pub inst_step : Step (Point program symbol)
  inst_step = step_over_bits program symbol now memory (act program function now memory inst inst.op)

  pub here_is : here_now ≡ inst_step
  here_is = ap (step_over_bits program symbol now memory) (step_is program symbol function there f now memory s inst h at)

  module _ (ops : List (Ty × Operand)) where
    abbrev regs : Registers
    regs = registers_behind program.module_.globals f next ops s.regs

    abbrev before : GInst → State
    before i = record s { rest = i ∷ r; regs = regs }

    abbrev code_of : GInst → Step State
    code_of i = play.step f (record s { rest = loads program.module_.globals next ops ++ i ∷ r })

    -- the constants, and an instruction that goes on, follow one that goes on
    pub follows_on : (i : GInst) (most : ℕ) (after : Activation) (memory' : Memory) (s' : State)
        → act program function now memory inst inst.op ≡ ir.plain program function now memory inst (ir.Goes after memory')
        → play.step f (before i) ≡ play.plain f (before i) i r (Goes s')
        → R (after, memory') s' → weight f.types i ≤ most → 24 * length ops + most ≤ 256 → F here_now (code_of i)
    follows_on i most after memory' s' acts runs related heavy light =
        let run = loads_run program.module_.globals f ops s next (i ∷ r) in
        let loaded_low = run.2 in
        let weighs : (play.step f (before i)).weight ≡ weight f.types i = ap (λ (z : Step State). z.weight) runs in
        let one = here_is ∙ ap (step_over_bits program symbol now memory) acts in
        let cost : 1 ≤ units inst = omega arith in
        subst (λ (z : Step (Point program symbol)). F z (code_of i)) (sym one)
        (moves (after, memory') s' refl run.1 (ap (λ (z : Step State). z.does) runs) related (omega (arith, loaded_low, weighs, heavy, light, cost)) (omega arith))

    -- nothing is asked where the instruction breaks
    pub breaks_here : (st : Step State) → act program function now memory inst inst.op ≡ ir.plain program function now memory inst ir.Breaks → F here_now st
    breaks_here st acts =
        let one = here_is ∙ ap (step_over_bits program symbol now memory) acts in
        breaks (ap (λ (z : Step (Point program symbol)). z.does) one) (ap (λ (z : Step (Point program symbol)). z.jumps) one)

  -- ---- a load

  module _ (gives : has_result inst ≡ true) (address : Operand) (stored : IsStored inst.gives) (is : inst.op ≡ Load address) (is_address : IsOperand (types function) Ptr address)
      (stand : Stand f.types next.next (all_loaded program.module_.globals next ((Ptr, address) ∷ []))) where
    abbrev load_inst : GInst
    load_inst = record { op = g.Load; defs = N ∷ []; uses = registers program.module_.globals next ((Ptr, address) ∷ []); num = 8 * byte_count inst.gives; to = [] }

    abbrev load_ops : List (Ty × Operand)
    load_ops = (Ptr, address) ∷ []

    -- what the code loads from an address
    abbrev load_bits : ℕ → Bits
    load_bits a = cut (play.width f.types N) (bits_of_bytes (bytes_at s.memory a (8 * byte_count inst.gives / 8)))

    abbrev load_value : ℕ → Value
    load_value a = from_bytes (bytes_at memory a (byte_count inst.gives))

    abbrev load_after : ℕ → State
    load_after a = record s { rest = r; regs = write (regs load_ops) N (load_bits a) }

    load_width : play.width f.types N ≡ width inst.gives
    load_width = width_there f.types N (type_of inst.gives) (typed N inst.gives (number-type function now.block now.place inst at gives)) ∙ same_width inst.gives (stored_real inst.gives stored)

    load_known : (a : ℕ) → is_inside memory a (byte_count inst.gives) ≡ true → RefinesBits (bits_of (width inst.gives) (load_value a)) (load_bits a)
    load_known a inside =
        let long : length (bytes_at memory a (byte_count inst.gives)) ≡ byte_count inst.gives = bytes_at-length memory a (byte_count inst.gives) inside in
        let small : AllBytes (bytes_at memory a (byte_count inst.gives)) = all-take (byte_count inst.gives) (drop (a - data_start) memory) (all_drop (a - data_start) memory h.bytes) in
        let size : 8 * length (bytes_at memory a (byte_count inst.gives)) ≡ width inst.gives = ap (λ (k : ℕ). 8 * k) long ∙ stored_width inst.gives stored in
        let here : RefinesBits (bits_of (width inst.gives) (load_value a)) (bits_of_bytes (bytes_at s.memory a (byte_count inst.gives))) =
        bits_compose (bits_of (width inst.gives) (load_value a)) (bits_of_bytes (bytes_at memory a (byte_count inst.gives))) (bits_of_bytes (bytes_at s.memory a (byte_count inst.gives)))
        (read_row (width inst.gives) (bytes_at memory a (byte_count inst.gives)) small size)
        (bits_mono (bytes_at memory a (byte_count inst.gives)) (bytes_at s.memory a (byte_count inst.gives)) (read_mono memory s.memory a (byte_count inst.gives) h.memory')) in
        subst (λ (k : ℕ). RefinesBits (bits_of (width inst.gives) (load_value a)) (cut (play.width f.types N) (bits_of_bytes (bytes_at s.memory a k)))) (sym (eighth (byte_count inst.gives)))
        (subst (λ (w : ℕ). RefinesBits (bits_of (width inst.gives) (load_value a)) (cut w (bits_of_bytes (bytes_at s.memory a (byte_count inst.gives))))) (sym load_width)
        (cut_same (width inst.gives) (load_value a) (bits_of_bytes (bytes_at s.memory a (byte_count inst.gives))) here))

    pub follows_load : ((a : ℕ) → Alike program symbol function there f (behind function now inst (load_value a)) memory (load_after a) → R (behind function now inst (load_value a), memory) (load_after a))
        → F here_now (code_of load_ops load_inst)
    follows_load closes = by_address (value_of address) refl
      where
        rd : Readied program f (types function) now.values next ((Ptr, address) ∷ []) s.regs
        rd = (prepared program f (types function) now.values ((Ptr, address) ∷ []) next s.regs (tt, is_address, tt) typed low h.holds stand).ready

        fits_address : FitsWidth 64 (value_of address)
        fits_address = operand-fits program (types function) now.values Ptr address h.fit is_address

        acts : (v : Value) → value_of address ≡ v → act program function now memory inst inst.op
            ≡ ir.plain program function now memory inst (ir.at_address memory v (byte_count inst.gives) (ir.loaded program function now memory inst inst.gives))
        acts v e =
            ap (act program function now memory inst) is
            ∙ ap (λ (z : Value). ir.plain program function now memory inst (ir.at_address memory z (byte_count inst.gives) (ir.loaded program function now memory inst inst.gives))) e

        by_inside : (a : ℕ) → value_of address ≡ Some a → (inside : Bool) → is_inside memory a (byte_count inst.gives) ≡ inside → F here_now (code_of ((Ptr, address) ∷ []) load_inst)
        by_inside a e false i =
            breaks_here ((Ptr, address) ∷ []) (code_of ((Ptr, address) ∷ []) load_inst)
            (acts (Some a) e ∙ ap (λ (b : Bool). ir.plain program function now memory inst (if b then ir.loaded program function now memory inst inst.gives a else ir.Breaks)) i)
        by_inside a e true i =
            let small : a < 2 ^ 64 = subst (FitsWidth 64) e fits_address in
            let bits : RefinesBits (constant 64 a) (registers_behind program.module_.globals f next ((Ptr, address) ∷ []) s.regs (register_of address (literal program.module_.globals address) Ptr next)) =
            subst (λ (z : Value). RefinesBits (bits_of 64 z) (registers_behind program.module_.globals f next ((Ptr, address) ∷ []) s.regs (register_of address (literal program.module_.globals address) Ptr next))) e rd.0.bits in
            let known = address_known a (registers_behind program.module_.globals f next ((Ptr, address) ∷ []) s.regs (register_of address (literal program.module_.globals address) Ptr next)) small bits in
            let there_too : is_inside s.memory a (8 * byte_count inst.gives / 8) ≡ true =
            ap (is_inside s.memory a) (eighth (byte_count inst.gives))
            ∙ ap (λ (k : ℕ). nat_le data_start a && nat_le (a + byte_count inst.gives) (data_start + k)) h.memory'.long ∙ i in
            let fits : FitsWidth (width inst.gives) (load_value a) = loaded-fits memory a inst.gives h.bytes stored i in
            follows_on ((Ptr, address) ∷ []) load_inst 160 (behind function now inst (load_value a)) memory (load_after a)
            (acts (Some a) e ∙ ap (λ (b : Bool). ir.plain program function now memory inst (if b then ir.loaded program function now memory inst inst.gives a else ir.Breaks)) i)
            (ap (λ (o : Option ℕ). play.plain f (before ((Ptr, address) ∷ []) load_inst) load_inst r
            (play.at_address f (before ((Ptr, address) ∷ []) load_inst) load_inst r o (8 * byte_count inst.gives / 8) (play.load_at f (before ((Ptr, address) ∷ []) load_inst) load_inst r))) known
            ∙ ap (λ (b : Bool). play.plain f (before ((Ptr, address) ∷ []) load_inst) load_inst r
            (if b then play.load_at f (before ((Ptr, address) ∷ []) load_inst) load_inst r a else Breaks)) there_too)
            (closes a (alike_behind program symbol function there f now memory s (regs ((Ptr, address) ∷ [])) r inst (load_value a) (load_bits a) h at gives fits
            (hold_behind program f (types function) now.values ((Ptr, address) ∷ []) next s.regs low h.holds) (load_known a i)))
            (by_most (is_legal f.types load_inst) 24 160 160 (omega arith) (omega arith)) (omega arith)

        by_address : (v : Value) → value_of address ≡ v → F here_now (code_of ((Ptr, address) ∷ []) load_inst)
        by_address None e = breaks_here ((Ptr, address) ∷ []) (code_of ((Ptr, address) ∷ []) load_inst) (acts None e)
        by_address (Some a) e = by_inside a e (is_inside memory a (byte_count inst.gives)) refl

  -- ---- a store

  -- behind an instruction without a result the values are the same
  no_value : has_result inst ≡ false → (behind function now inst None).values ≡ now.values
  no_value none = ap (λ (b : Bool). if b then slice_set now.values N None else now.values) none

  -- the states are alike behind an instruction that changes memory alone
  pub alike_changed : (regs' : Registers) (memory' memory'' : Memory) → has_result inst ≡ false → Holds program f (types function) now.values regs'
      → RefinesMemory memory' memory'' → AllBytes memory' → length memory' ≤ program.room
      → Alike program symbol function there f (behind function now inst None) memory' (record s { rest = r; regs = regs'; memory = memory'' })
  alike_changed regs' memory' memory'' none holds refines bytes room = record {
    symbol' = h.symbol';
    base = h.base;
    block = h.block;
    memory' = refines;
    bytes = bytes;
    room = room;
    fit = subst (ValuesFit (types function)) (sym (no_value none)) h.fit;
    holds = subst (λ (values : List Value). Holds program f (types function) values regs') (sym (no_value none)) holds;
  }

  module _ (none : has_result inst ≡ false) (of : Ty) (x address : Operand) (stored : IsStored of) (is : inst.op ≡ Store of x address)
      (is_x : IsOperand (types function) of x) (is_address : IsOperand (types function) Ptr address)
      (stand : Stand f.types next.next (all_loaded program.module_.globals next ((of, x) ∷ (Ptr, address) ∷ []))) where
    abbrev store_ops : List (Ty × Operand)
    store_ops = (of, x) ∷ (Ptr, address) ∷ []

    abbrev store_inst : GInst
    store_inst = record { op = g.Store; defs = []; uses = registers program.module_.globals next ((of, x) ∷ (Ptr, address) ∷ []); num = 8 * byte_count of; to = [] }

    abbrev store_regs : Registers
    store_regs = registers_behind program.module_.globals f next ((of, x) ∷ (Ptr, address) ∷ []) s.regs

    abbrev store_memory : ℕ → Memory
    store_memory a = with_bytes memory a (to_bytes (byte_count of) (value_of x))

    abbrev store_after : ℕ → State
    store_after a = record s { rest = r; regs = store_regs; memory = with_bytes s.memory a (bytes_of_bits (8 * byte_count of / 8) (store_regs (register_of x (literal program.module_.globals x) of next))) }

    pub follows_store : ((a : ℕ) → Alike program symbol function there f (behind function now inst None) (store_memory a) (store_after a) → R (behind function now inst None, store_memory a) (store_after a))
        → F here_now (code_of store_ops store_inst)
    follows_store closes = by_address (value_of address) refl
      where
        rd : Readied program f (types function) now.values next ((of, x) ∷ (Ptr, address) ∷ []) s.regs
        rd = (prepared program f (types function) now.values ((of, x) ∷ (Ptr, address) ∷ []) next s.regs
            (stored_value of stored, is_x, (tt, is_address, tt)) typed low h.holds stand).ready

        fits_address : FitsWidth 64 (value_of address)
        fits_address = operand-fits program (types function) now.values Ptr address h.fit is_address

        acts : (v : Value) → value_of address ≡ v → act program function now memory inst inst.op
            ≡ ir.plain program function now memory inst (ir.at_address memory v (byte_count of) (ir.stored program function now memory inst of (value_of x)))
        acts v e =
            ap (act program function now memory inst) is
            ∙ ap (λ (z : Value). ir.plain program function now memory inst (ir.at_address memory z (byte_count of) (ir.stored program function now memory inst of (value_of x)))) e

        by_inside : (a : ℕ) → value_of address ≡ Some a → (inside : Bool) → is_inside memory a (byte_count of) ≡ inside → F here_now (code_of ((of, x) ∷ (Ptr, address) ∷ []) store_inst)
        by_inside a e false i =
            breaks_here ((of, x) ∷ (Ptr, address) ∷ []) (code_of ((of, x) ∷ (Ptr, address) ∷ []) store_inst)
            (acts (Some a) e ∙ ap (λ (b : Bool). ir.plain program function now memory inst (if b then ir.stored program function now memory inst of (value_of x) a else ir.Breaks)) i)
        by_inside a e true i =
            let small : a < 2 ^ 64 = subst (FitsWidth 64) e fits_address in
            let bits = subst (λ (z : Value). RefinesBits (bits_of 64 z) (store_regs (register_of address (literal program.module_.globals address) Ptr (behind_operand (literal program.module_.globals x) of next)))) e rd.1.0.bits in
            let known = address_known a (store_regs (register_of address (literal program.module_.globals address) Ptr (behind_operand (literal program.module_.globals x) of next))) small bits in
            let there_too : is_inside s.memory a (8 * byte_count of / 8) ≡ true =
            ap (is_inside s.memory a) (eighth (byte_count of))
            ∙ ap (λ (k : ℕ). nat_le data_start a && nat_le (a + byte_count of) (data_start + k)) h.memory'.long ∙ i in
            let value_bits : RefinesBits (bits_of (8 * byte_count of) (value_of x)) (store_regs (register_of x (literal program.module_.globals x) of next)) =
            subst (λ (w : ℕ). RefinesBits (bits_of w (value_of x)) (store_regs (register_of x (literal program.module_.globals x) of next))) (sym (stored_width of stored)) rd.0.bits in
            let written : RefinesMemory (store_memory a) (with_bytes s.memory a (bytes_of_bits (8 * byte_count of / 8) (store_regs (register_of x (literal program.module_.globals x) of next)))) =
            subst (λ (k : ℕ). RefinesMemory (store_memory a) (with_bytes s.memory a (bytes_of_bits k (store_regs (register_of x (literal program.module_.globals x) of next))))) (sym (eighth (byte_count of)))
            (written_mono memory s.memory a (to_bytes (byte_count of) (value_of x)) (bytes_of_bits (byte_count of) (store_regs (register_of x (literal program.module_.globals x) of next))) h.memory'
            (written_row (byte_count of) (value_of x) (store_regs (register_of x (literal program.module_.globals x) of next)) value_bits)) in
            let long : length (store_memory a) ≡ length memory =
            with_bytes-length memory a (to_bytes (byte_count of) (value_of x)) (ap (is_inside memory a) (to_bytes-length (byte_count of) (value_of x)) ∙ i) in
            let room = h.room in
            follows_on ((of, x) ∷ (Ptr, address) ∷ []) store_inst 160 (behind function now inst None) (store_memory a) (store_after a)
            (acts (Some a) e ∙ ap (λ (b : Bool). ir.plain program function now memory inst (if b then ir.stored program function now memory inst of (value_of x) a else ir.Breaks)) i)
            (ap (λ (o : Option ℕ). play.plain f (before ((of, x) ∷ (Ptr, address) ∷ []) store_inst) store_inst r
            (play.at_address f (before ((of, x) ∷ (Ptr, address) ∷ []) store_inst) store_inst r o (8 * byte_count of / 8) (play.store_at f (before ((of, x) ∷ (Ptr, address) ∷ []) store_inst) store_inst r))) known
            ∙ ap (λ (b : Bool). play.plain f (before ((of, x) ∷ (Ptr, address) ∷ []) store_inst) store_inst r
            (if b then play.store_at f (before ((of, x) ∷ (Ptr, address) ∷ []) store_inst) store_inst r a else Breaks)) there_too)
            (closes a (alike_changed store_regs (store_memory a) (with_bytes s.memory a (bytes_of_bits (8 * byte_count of / 8) (store_regs (register_of x (literal program.module_.globals x) of next)))) none
            (hold_behind program f (types function) now.values ((of, x) ∷ (Ptr, address) ∷ []) next s.regs low h.holds) written
            (all-with memory a (to_bytes (byte_count of) (value_of x)) h.bytes (all-value (byte_count of) (value_of x))) (omega (arith, long, room))))
            (by_most (is_legal f.types store_inst) 24 160 160 (omega arith) (omega arith)) (omega arith)

        by_address : (v : Value) → value_of address ≡ v → F here_now (code_of ((of, x) ∷ (Ptr, address) ∷ []) store_inst)
        by_address None e = breaks_here ((of, x) ∷ (Ptr, address) ∷ []) (code_of ((of, x) ∷ (Ptr, address) ∷ []) store_inst) (acts None e)
        by_address (Some a) e = by_inside a e (is_inside memory a (byte_count of)) refl

  -- ---- an alloca

  module _ (gives : has_result inst ≡ true) (pointer : inst.gives ≡ Ptr) (of : MemTy) (count : ℕ) (is : inst.op ≡ Alloca of count)
      (end_is : f.end ≡ data_start + program.room) (small : program.room ≤ 67108864) where
    abbrev bytes_taken : ℕ
    bytes_taken = aligned (size of * count) 16

    abbrev take_inst : GInst
    take_inst = record { op = g.TakeData; defs = N ∷ []; uses = []; num = aligned (size of * count) 16; to = [] }

    abbrev take_memory : Memory
    take_memory = memory ++ replicate (aligned (size of * count) 16) None

    abbrev take_after : State
    take_after = record s { rest = r; memory = s.memory ++ replicate (aligned (size of * count) 16) None; regs = write s.regs N (constant 64 (top s.memory)) }

    same_test : (b : Bool) → nat_le (length memory + aligned (size of * count) 16) program.room ≡ b → nat_le (top s.memory + aligned (size of * count) 16) f.end ≡ b
    same_test b e =
        ap (λ (k : ℕ). nat_le (top s.memory + aligned (size of * count) 16) k) end_is
        ∙ ap (λ (k : ℕ). nat_le (data_start + k + aligned (size of * count) 16) (data_start + program.room)) h.memory'.long
        ∙ shifted_test (length memory) (aligned (size of * count) 16) program.room b e

    pub follows_alloca : (Alike program symbol function there f (behind function now inst (Some (top memory))) take_memory take_after → R (behind function now inst (Some (top memory)), take_memory) take_after)
        → F here_now (play.step f (record s { rest = take_inst ∷ r }))
    follows_alloca closes = by_room (nat_le (length memory + aligned (size of * count) 16) program.room) refl
      where
        acts : (b : Bool) → nat_le (length memory + aligned (size of * count) 16) program.room ≡ b → act program function now memory inst inst.op
            ≡ ir.plain program function now memory inst (elim b [ true ↦ ir.Goes (behind function now inst (Some (top memory))) (memory ++ replicate (aligned (size of * count) 16) None) | false ↦ ir.Overflows ])
        acts b e =
            ap (act program function now memory inst) is
            ∙ ap (λ (z : Bool). ir.plain program function now memory inst (elim z [ true ↦ ir.Goes (behind function now inst (Some (top memory))) (memory ++ replicate (aligned (size of * count) 16) None) | false ↦ ir.Overflows ])) e

        runs : (b : Bool) → nat_le (length memory + aligned (size of * count) 16) program.room ≡ b
            → play.step f (record s { rest = take_inst ∷ r }) ≡ play.plain f (record s { rest = take_inst ∷ r }) take_inst r (if b then Goes take_after else Wants)
        runs b e = ap (λ (z : Bool). play.plain f (record s { rest = take_inst ∷ r }) take_inst r (if z then Goes take_after else Wants)) (same_test b e)

        one_width : width inst.gives ≡ 64
        one_width = ap width pointer

        fits : FitsWidth (width inst.gives) (Some (top memory))
        fits = subst (λ (w : ℕ). FitsWidth w (Some (top memory))) (sym one_width) (let room = h.room in let l : top memory < 2 ^ 64 = omega (arith, room, small) in l)

        known : RefinesBits (bits_of (width inst.gives) (Some (top memory))) (constant 64 (top s.memory))
        known =
            subst (λ (w : ℕ). RefinesBits (constant w (top memory)) (constant 64 (top s.memory))) (sym one_width)
            (subst (λ (k : ℕ). RefinesBits (constant 64 (top memory)) (constant 64 (data_start + k))) (sym h.memory'.long) (λ i b e. e))

        by_room : (b : Bool) → nat_le (length memory + aligned (size of * count) 16) program.room ≡ b → F here_now (play.step f (record s { rest = take_inst ∷ r }))
        by_room false e =
            let one = here_is ∙ ap (step_over_bits program symbol now memory) (acts false e) in
            let two = runs false e in
            let cost : 1 ≤ units inst = omega arith in
            let weighs : (play.step f (record s { rest = take_inst ∷ r })).weight ≡ 48 = ap (λ (z : Step State). z.weight) two in
            subst (λ (z : Step (Point program symbol)). F z (play.step f (record s { rest = take_inst ∷ r }))) (sym one)
            (wants refl here (ap (λ (z : Step State). z.does) two) (omega (arith, weighs, cost)) (omega arith))
        by_room true e =
            let room : length (memory ++ replicate (aligned (size of * count) 16) None) ≤ program.room = grown_room memory (aligned (size of * count) 16) program.room e in
            let first = alike_behind program symbol function there f now memory s s.regs r inst (Some (top memory)) (constant 64 (top s.memory)) h at gives fits h.holds known in
            follows_on [] take_inst 48 (behind function now inst (Some (top memory))) take_memory take_after (acts true e) (runs true e)
            (closes (record {
              symbol' = first.symbol';
              base = first.base;
              block = first.block;
              memory' = append_mono memory s.memory (replicate (aligned (size of * count) 16) None) (replicate (aligned (size of * count) 16) None) h.memory' (same_memory (replicate (aligned (size of * count) 16) None));
              bytes = all-append memory (replicate (aligned (size of * count) 16) None) h.bytes (all-replicate (aligned (size of * count) 16) None tt);
              room = room;
              fit = first.fit;
              holds = first.holds;
            }))
            (omega arith) (omega arith)
