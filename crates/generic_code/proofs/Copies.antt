-- Built-ins that move bytes are followed by their code.
use Rattle.std.proofs.Common.{◌≡◌, refl, sym, ap, subst, ◌∙◌, ℕ, zero, suc, ◌+◌, ◌*◌, ◌≤◌, Bool, true, false, List, [], ◌∷◌, ◌++◌, length, Option, Some, None, arith}
use Rattle.std.specs.Prelude.{slice_get, if◌then◌else◌, ◌&&◌}
use Rattle.std.proofs.Math.Nat.{mod-eq_of_lt}
use Rattle.ir_core.specs.Program.{Program}
use Rattle.ir_core.specs.Units.{units, has_result}
use Rattle.ir_core.specs.declared.types.Ty.{Ty}
use Rattle.ir_core.specs.declared.types.Ty.TheVariants.{Int, Ptr}
use Rattle.ir_core.specs.declared.code.Operand.{Operand}
use Rattle.ir_core.specs.declared.code.Inst.{Inst}
use Rattle.ir_core.specs.declared.program.Function.{Function}
use Rattle.ir_meaning.specs.declared.activation.Activation.{Activation}
use Rattle.ir_meaning.specs.Value.{Value}
use Rattle.ir_meaning.specs.Memory.{Memory, is_inside, bytes_at, with_bytes}
use Rattle.ir_meaning.specs.Step as ir
use Rattle.ir_meaning.specs.Step.{function_at, insts_at, act, operand, copied, set, step}
use Rattle.ir_meaning.specs.Ranges.{FitsWidth}
use Rattle.ir_meaning.specs.Typed.{IsValueType, types, IsOperand}
use Rattle.ir_meaning.proofs.Bytes.{AllBytes, AllBytesIf}
use Rattle.ir_meaning.proofs.Lengths.{step-lasts, Lasts}
use Rattle.ir_meaning.proofs.Keeping.{operand-fits}
use Rattle.gmir.specs.declared.code.GOp.{GOp}
use Rattle.gmir.specs.declared.code.GOp.TheVariants as g
use Rattle.gmir.specs.declared.code.GInst.{GInst}
use Rattle.gmir.specs.declared.code.GFunction.{GFunction}
use Rattle.gmir.specs.Play as play
use Rattle.gmir.specs.Play.{State, weight, is_legal}
use Rattle.walks.specs.Registers.{Registers}
use Rattle.walks.specs.Walk.{Bits, Step}
use Rattle.walks.specs.Bits.{constant, number as number_in}
use Rattle.walks.specs.Refines.{RefinesBits, RefinesMemory}
use Rattle.walks.specs.Simulation.{moves}
use Rattle.walks.specs.Functions.{bits_of, Point, step_over_bits}
use Rattle.walks.proofs.Numbers.{number_constant}
use Rattle.walks.proofs.Monotone.{Keeps, keeps_number}
use Rattle.walks.proofs.Bytes.{copied_mono, set_mono}
use Rattle.generic_code.specs.Literals.{Pool, loads, all_loaded, registers}
use Rattle.generic_code.proofs.Loads.{Stand, ValuesTyped, Readied, prepared, registers_behind, loads_run, hold_behind, by_most, Known}
use Rattle.generic_code.proofs.Touches.{breaks_here, here_is, alike_changed}
use Rattle.generic_code.proofs.Steps.{Alike, Fol, here_step, step_is}

-- what is known of a value is known of its bits
number_kept : (w : ℕ) (v : Value) (a : Bits) → FitsWidth w v → RefinesBits (bits_of w v) a → Keeps v (number_in w a)
number_kept w None a fits h x e = absurd (let bad : ⊥ = cc in bad)
number_kept w (Some n) a fits h x e =
    let same : n ≡ x = cc in
    keeps_number w (constant w n) a h x (number_constant w w n (omega arith) ∙ ap Some (mod-eq_of_lt fits ∙ same))

-- a copy that is tested is one that isn't
tested_by : (inside may : Bool) (m after : Memory) → (if inside && may then Some m else None) ≡ Some after → (if inside && true then Some m else None) ≡ Some after
tested_by true true m after e = e
tested_by true false m after e = absurd (let bad : ⊥ = cc in bad)
tested_by false may m after e = absurd (let bad : ⊥ = cc in bad)

tested : (may : ℕ → ℕ → ℕ → Bool) (m after : Memory) (to from count : Value) → copied may m to from count ≡ Some after → copied (λ to from count. true) m to from count ≡ Some after
tested may m after to from None e = absurd (let bad : ⊥ = cc in bad)
tested may m after to from (Some zero) e = e
tested may m after None from (Some (suc n)) e = absurd (let bad : ⊥ = cc in bad)
tested may m after (Some to) None (Some (suc n)) e = absurd (let bad : ⊥ = cc in bad)
tested may m after (Some to) (Some from) (Some (suc n)) e =
    tested_by (is_inside m to (suc n) && is_inside m from (suc n)) (may to from (suc n)) (with_bytes m to (bytes_at m from (suc n))) after e

module _ (program : Program) (symbol : ℕ) (function : Function) (there : function_at program symbol ≡ Some function) (f : GFunction)
    (typed : ValuesTyped program f (types function) []) (R : Point program symbol → State → Type 0) (measure : Point program symbol → ℕ)
    (now : Activation) (memory : Memory) (s : State) (inst : Inst) (h : Alike program symbol function there f now memory s)
    (at : slice_get (insts_at function now.block) now.place ≡ Some inst)
    (next : Pool) (low : Known f (types function) next s.regs) (r : List GInst) (m : ℕ) (none : has_result inst ≡ false) where
  abbrev F : Step (Point program symbol) → Step State → Type 0
  F = Fol program symbol function there f R measure m

  abbrev here_now : Step (Point program symbol)
  here_now = here_step program symbol function there f R measure now memory

  abbrev value_of : Operand → Value
  value_of = operand program now.values

  abbrev here_same : here_now ≡ step_over_bits program symbol now memory (act program function now memory inst inst.op)
  here_same = here_is program symbol function there f typed R measure now memory s inst h at next low r m

  -- what moves so many bytes, and leaves this memory
  abbrev moved_step : ℕ → Memory → ir.Step
  moved_step count after = record { units = units inst + count; jumps = count; does = ir.change program function now memory inst after }

  module _ (ops : List (Ty × Operand)) (few : length ops ≤ 3) (o : GOp) where
    abbrev regs : Registers
    regs = registers_behind program.module_.globals f next ops s.regs

    abbrev move_inst : GInst
    move_inst = record { op = o; defs = []; uses = registers program.module_.globals next ops; num = 0; to = [] }

    abbrev before : State
    before = record s { rest = move_inst ∷ r; regs = regs }

    abbrev pub moved_after : Memory → State
    moved_after after = record s { rest = r; regs = regs; memory = after }

    abbrev pub move_code : Step State
    move_code = play.step f (record s { rest = loads program.module_.globals next ops ++ move_inst ∷ r })

    pub follows_moved : (count : ℕ) (after after' : Memory) → act program function now memory inst inst.op ≡ moved_step count after
        → play.step f before ≡ play.moved f before move_inst r (Some count) (Some after') → weight f.types move_inst ≤ 160
        → RefinesMemory after after' → AllBytes after
        → (Alike program symbol function there f (ir.behind function now inst None) after (moved_after after') → R (ir.behind function now inst None, after) (moved_after after'))
        → F here_now move_code
    follows_moved count after after' acts runs light refines bytes closes =
        let one = here_same ∙ ap (step_over_bits program symbol now memory) acts in
        let run = loads_run program.module_.globals f ops s next (move_inst ∷ r) in
        let loaded_low = run.2 in
        let weighs : (play.step f before).weight ≡ weight f.types move_inst + 32 * count = ap (λ (z : Step State). z.weight) runs in
        let jumps : (play.step f before).jumps ≡ count = ap (λ (z : Step State). z.jumps) runs in
        let cost : 1 ≤ units inst = omega arith in
        let lasts = subst (Lasts program.room now memory) (ap (λ (z : ir.Step). z.does) (step_is program symbol function there f now memory s inst h at ∙ acts)) (step-lasts program now memory) in
        subst (λ (z : Step (Point program symbol)). F z move_code) (sym one)
        (moves (ir.behind function now inst None, after) (moved_after after') refl run.1 (ap (λ (z : Step State). z.does) runs)
        (closes (alike_changed program symbol function there f typed R measure now memory s inst h at next low r m regs after after' none
        (hold_behind program f (types function) now.values ops next s.regs low h.holds) refines bytes (lasts.1 h.room)))
        (omega (arith, loaded_low, weighs, light, cost, few)) (omega (arith, jumps)))

  -- ---- copies

  module _ (may : ℕ → ℕ → ℕ → Bool) (w : ℕ) (to from count volatile : Operand)
      (moves_it : act program function now memory inst inst.op ≡ ir.after_moving program function now memory inst (ir.moved_count (value_of to ∷ value_of from ∷ value_of count ∷ value_of volatile ∷ []))
      (copied may memory (value_of to) (value_of from) (value_of count)))
      (bytes_kept : AllBytesIf (copied may memory (value_of to) (value_of from) (value_of count)))
      (is_to : IsOperand (types function) Ptr to) (is_from : IsOperand (types function) Ptr from) (is_count : IsOperand (types function) (Int w) count) (wide : IsValueType (Int w))
      (stand : Stand f.types next.next (all_loaded program.module_.globals next ((Ptr, to) ∷ (Ptr, from) ∷ (Int w, count) ∷ []))) where
    abbrev bits_at : ℕ → Bits
    bits_at k = play.operand f (before ((Ptr, to) ∷ (Ptr, from) ∷ (Int w, count) ∷ []) (omega arith) g.CopyBytes) (move_inst ((Ptr, to) ∷ (Ptr, from) ∷ (Int w, count) ∷ []) (omega arith) g.CopyBytes) r k

    pub follows_copy : ((after after' : Memory) → Alike program symbol function there f (ir.behind function now inst None) after (moved_after ((Ptr, to) ∷ (Ptr, from) ∷ (Int w, count) ∷ []) (omega arith) g.CopyBytes after')
        → R (ir.behind function now inst None, after) (moved_after ((Ptr, to) ∷ (Ptr, from) ∷ (Int w, count) ∷ []) (omega arith) g.CopyBytes after'))
        → F here_now (move_code ((Ptr, to) ∷ (Ptr, from) ∷ (Int w, count) ∷ []) (omega arith) g.CopyBytes)
    follows_copy closes = by_count (value_of count) refl
      where
        rd : Readied program f (types function) now.values next ((Ptr, to) ∷ (Ptr, from) ∷ (Int w, count) ∷ []) s.regs
        rd = (prepared program f (types function) now.values ((Ptr, to) ∷ (Ptr, from) ∷ (Int w, count) ∷ []) next s.regs
            (tt, is_to, (tt, is_from, (wide, is_count, tt))) typed low h.holds stand).ready

        fits_to : FitsWidth 64 (value_of to)
        fits_to = operand-fits program (types function) now.values Ptr to h.fit is_to

        fits_from : FitsWidth 64 (value_of from)
        fits_from = operand-fits program (types function) now.values Ptr from h.fit is_from

        fits_count : FitsWidth w (value_of count)
        fits_count = operand-fits program (types function) now.values (Int w) count h.fit is_count

        by_memory : (n : ℕ) → value_of count ≡ Some n → (o : Option Memory) → copied may memory (value_of to) (value_of from) (value_of count) ≡ o → F here_now (move_code ((Ptr, to) ∷ (Ptr, from) ∷ (Int w, count) ∷ []) (omega arith) g.CopyBytes)
        by_memory n c None e =
            breaks_here program symbol function there f typed R measure now memory s inst h at next low r m [] (move_code ((Ptr, to) ∷ (Ptr, from) ∷ (Int w, count) ∷ []) (omega arith) g.CopyBytes)
            (moves_it ∙ ap (λ (o : Option Memory). ir.after_moving program function now memory inst (ir.moved_count (value_of to ∷ value_of from ∷ value_of count ∷ value_of volatile ∷ [])) o) e)
        by_memory n c (Some after) e =
            let kept = copied_mono (λ to from count. true) memory s.memory (value_of to) (number_in 64 (bits_at 0)) (value_of from) (number_in 64 (bits_at 1)) (value_of count) (number_in w (bits_at 2)) h.memory'
            (number_kept 64 (value_of to) (bits_at 0) fits_to rd.0.bits) (number_kept 64 (value_of from) (bits_at 1) fits_from rd.1.0.bits) (number_kept w (value_of count) (bits_at 2) fits_count rd.1.1.0.bits)
            after (tested may memory after (value_of to) (value_of from) (value_of count) e) in
            let known = number_kept w (value_of count) (bits_at 2) fits_count rd.1.1.0.bits n c in
            follows_moved ((Ptr, to) ∷ (Ptr, from) ∷ (Int w, count) ∷ []) (omega arith) g.CopyBytes n after kept.0
            (moves_it ∙ ap (λ (v : Value). ir.after_moving program function now memory inst (ir.moved_count (value_of to ∷ value_of from ∷ v ∷ value_of volatile ∷ [])) (copied may memory (value_of to) (value_of from) (value_of count))) c
            ∙ ap (λ (o : Option Memory). ir.after_moving program function now memory inst n o) e)
            (ap (λ (k : ℕ). play.moved f (before ((Ptr, to) ∷ (Ptr, from) ∷ (Int w, count) ∷ []) (omega arith) g.CopyBytes) (move_inst ((Ptr, to) ∷ (Ptr, from) ∷ (Int w, count) ∷ []) (omega arith) g.CopyBytes) r (number_in k (bits_at 2))
            (copied (λ to from count. true) s.memory (number_in 64 (bits_at 0)) (number_in 64 (bits_at 1)) (number_in k (bits_at 2)))) rd.1.1.0.wide
            ∙ ap (λ (o : Option ℕ). play.moved f (before ((Ptr, to) ∷ (Ptr, from) ∷ (Int w, count) ∷ []) (omega arith) g.CopyBytes) (move_inst ((Ptr, to) ∷ (Ptr, from) ∷ (Int w, count) ∷ []) (omega arith) g.CopyBytes) r o
            (copied (λ to from count. true) s.memory (number_in 64 (bits_at 0)) (number_in 64 (bits_at 1)) (number_in w (bits_at 2)))) known
            ∙ ap (λ (o : Option Memory). play.moved f (before ((Ptr, to) ∷ (Ptr, from) ∷ (Int w, count) ∷ []) (omega arith) g.CopyBytes) (move_inst ((Ptr, to) ∷ (Ptr, from) ∷ (Int w, count) ∷ []) (omega arith) g.CopyBytes) r (Some n) o) kept.1)
            (by_most (is_legal f.types (move_inst ((Ptr, to) ∷ (Ptr, from) ∷ (Int w, count) ∷ []) (omega arith) g.CopyBytes)) 64 160 160 (omega arith) (omega arith))
            kept.2 (subst AllBytesIf e bytes_kept) (closes after kept.0)

        by_count : (v : Value) → value_of count ≡ v → F here_now (move_code ((Ptr, to) ∷ (Ptr, from) ∷ (Int w, count) ∷ []) (omega arith) g.CopyBytes)
        by_count None c =
            breaks_here program symbol function there f typed R measure now memory s inst h at next low r m [] (move_code ((Ptr, to) ∷ (Ptr, from) ∷ (Int w, count) ∷ []) (omega arith) g.CopyBytes)
            (moves_it ∙ ap (λ (v : Value). ir.after_moving program function now memory inst (ir.moved_count (value_of to ∷ value_of from ∷ value_of count ∷ value_of volatile ∷ [])) (copied may memory (value_of to) (value_of from) v)) c)
        by_count (Some n) c = by_memory n c (copied may memory (value_of to) (value_of from) (value_of count)) refl

  -- ---- fills

  module _ (w : ℕ) (to byte count volatile : Operand)
      (moves_it : act program function now memory inst inst.op ≡ ir.after_moving program function now memory inst (ir.moved_count (value_of to ∷ value_of byte ∷ value_of count ∷ value_of volatile ∷ []))
      (set memory (value_of to) (value_of byte) (value_of count)))
      (bytes_kept : AllBytesIf (set memory (value_of to) (value_of byte) (value_of count)))
      (is_to : IsOperand (types function) Ptr to) (is_byte : IsOperand (types function) (Int 8) byte) (is_count : IsOperand (types function) (Int w) count) (wide : IsValueType (Int w))
      (stand : Stand f.types next.next (all_loaded program.module_.globals next ((Ptr, to) ∷ (Int 8, byte) ∷ (Int w, count) ∷ []))) where
    abbrev fill_bits : ℕ → Bits
    fill_bits k = play.operand f (before ((Ptr, to) ∷ (Int 8, byte) ∷ (Int w, count) ∷ []) (omega arith) g.FillBytes) (move_inst ((Ptr, to) ∷ (Int 8, byte) ∷ (Int w, count) ∷ []) (omega arith) g.FillBytes) r k

    pub follows_fill : ((after after' : Memory) → Alike program symbol function there f (ir.behind function now inst None) after (moved_after ((Ptr, to) ∷ (Int 8, byte) ∷ (Int w, count) ∷ []) (omega arith) g.FillBytes after')
        → R (ir.behind function now inst None, after) (moved_after ((Ptr, to) ∷ (Int 8, byte) ∷ (Int w, count) ∷ []) (omega arith) g.FillBytes after'))
        → F here_now (move_code ((Ptr, to) ∷ (Int 8, byte) ∷ (Int w, count) ∷ []) (omega arith) g.FillBytes)
    follows_fill closes = by_count (value_of count) refl
      where
        rd : Readied program f (types function) now.values next ((Ptr, to) ∷ (Int 8, byte) ∷ (Int w, count) ∷ []) s.regs
        rd = (prepared program f (types function) now.values ((Ptr, to) ∷ (Int 8, byte) ∷ (Int w, count) ∷ []) next s.regs
            (tt, is_to, ((omega arith, omega arith), is_byte, (wide, is_count, tt))) typed low h.holds stand).ready

        fits_to : FitsWidth 64 (value_of to)
        fits_to = operand-fits program (types function) now.values Ptr to h.fit is_to

        fits_from : FitsWidth 8 (value_of byte)
        fits_from = operand-fits program (types function) now.values (Int 8) byte h.fit is_byte

        fits_count : FitsWidth w (value_of count)
        fits_count = operand-fits program (types function) now.values (Int w) count h.fit is_count

        by_memory : (n : ℕ) → value_of count ≡ Some n → (o : Option Memory) → set memory (value_of to) (value_of byte) (value_of count) ≡ o → F here_now (move_code ((Ptr, to) ∷ (Int 8, byte) ∷ (Int w, count) ∷ []) (omega arith) g.FillBytes)
        by_memory n c None e =
            breaks_here program symbol function there f typed R measure now memory s inst h at next low r m [] (move_code ((Ptr, to) ∷ (Int 8, byte) ∷ (Int w, count) ∷ []) (omega arith) g.FillBytes)
            (moves_it ∙ ap (λ (o : Option Memory). ir.after_moving program function now memory inst (ir.moved_count (value_of to ∷ value_of byte ∷ value_of count ∷ value_of volatile ∷ [])) o) e)
        by_memory n c (Some after) e =
            let kept = set_mono memory s.memory (value_of to) (number_in 64 (fill_bits 0)) (value_of byte) (number_in 8 (fill_bits 1)) (value_of count) (number_in w (fill_bits 2)) h.memory'
            (number_kept 64 (value_of to) (fill_bits 0) fits_to rd.0.bits) (number_kept 8 (value_of byte) (fill_bits 1) fits_from rd.1.0.bits) (number_kept w (value_of count) (fill_bits 2) fits_count rd.1.1.0.bits)
            after e in
            let known = number_kept w (value_of count) (fill_bits 2) fits_count rd.1.1.0.bits n c in
            follows_moved ((Ptr, to) ∷ (Int 8, byte) ∷ (Int w, count) ∷ []) (omega arith) g.FillBytes n after kept.0
            (moves_it ∙ ap (λ (v : Value). ir.after_moving program function now memory inst (ir.moved_count (value_of to ∷ value_of byte ∷ v ∷ value_of volatile ∷ [])) (set memory (value_of to) (value_of byte) (value_of count))) c
            ∙ ap (λ (o : Option Memory). ir.after_moving program function now memory inst n o) e)
            (ap (λ (k : ℕ). play.moved f (before ((Ptr, to) ∷ (Int 8, byte) ∷ (Int w, count) ∷ []) (omega arith) g.FillBytes) (move_inst ((Ptr, to) ∷ (Int 8, byte) ∷ (Int w, count) ∷ []) (omega arith) g.FillBytes) r (number_in k (fill_bits 2))
            (set s.memory (number_in 64 (fill_bits 0)) (number_in 8 (fill_bits 1)) (number_in k (fill_bits 2)))) rd.1.1.0.wide
            ∙ ap (λ (o : Option ℕ). play.moved f (before ((Ptr, to) ∷ (Int 8, byte) ∷ (Int w, count) ∷ []) (omega arith) g.FillBytes) (move_inst ((Ptr, to) ∷ (Int 8, byte) ∷ (Int w, count) ∷ []) (omega arith) g.FillBytes) r o
            (set s.memory (number_in 64 (fill_bits 0)) (number_in 8 (fill_bits 1)) (number_in w (fill_bits 2)))) known
            ∙ ap (λ (o : Option Memory). play.moved f (before ((Ptr, to) ∷ (Int 8, byte) ∷ (Int w, count) ∷ []) (omega arith) g.FillBytes) (move_inst ((Ptr, to) ∷ (Int 8, byte) ∷ (Int w, count) ∷ []) (omega arith) g.FillBytes) r (Some n) o) kept.1)
            (by_most (is_legal f.types (move_inst ((Ptr, to) ∷ (Int 8, byte) ∷ (Int w, count) ∷ []) (omega arith) g.FillBytes)) 64 160 160 (omega arith) (omega arith))
            kept.2 (subst AllBytesIf e bytes_kept) (closes after kept.0)

        by_count : (v : Value) → value_of count ≡ v → F here_now (move_code ((Ptr, to) ∷ (Int 8, byte) ∷ (Int w, count) ∷ []) (omega arith) g.FillBytes)
        by_count None c =
            breaks_here program symbol function there f typed R measure now memory s inst h at next low r m [] (move_code ((Ptr, to) ∷ (Int 8, byte) ∷ (Int w, count) ∷ []) (omega arith) g.FillBytes)
            (moves_it ∙ ap (λ (v : Value). ir.after_moving program function now memory inst (ir.moved_count (value_of to ∷ value_of byte ∷ value_of count ∷ value_of volatile ∷ [])) (set memory (value_of to) (value_of byte) v)) c)
        by_count (Some n) c = by_memory n c (set memory (value_of to) (value_of byte) (value_of count)) refl
