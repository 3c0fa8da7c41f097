-- Each number that becomes an address in the code of a function has 64 bits.
use Rattle.std.proofs.Common.{◌≡◌, refl, sym, ap, subst, ◌∙◌, ℕ, ◌+◌, Bool, true, false, List, [], ◌∷◌, Some, arith}
use Rattle.std.specs.Prelude.{slice_get, ◌==◌, if◌then◌else◌}
use Rattle.ir_core.specs.Program.{Program}
use Rattle.ir_core.specs.Units.{has_result}
use Rattle.ir_core.specs.declared.types.Ty.{Ty}
use Rattle.ir_core.specs.declared.types.Ty.TheVariants.{Void, Int, Ptr}
use Rattle.ir_core.specs.declared.code.Operand.{Operand}
use Rattle.ir_core.specs.declared.code.CastOp.TheVariants.{IntToPtr}
use Rattle.ir_core.specs.declared.code.Op.{Op}
use Rattle.ir_core.specs.declared.code.Op.TheVariants.{Cast}
use Rattle.ir_core.specs.declared.code.Inst.{Inst}
use Rattle.ir_core.specs.declared.program.Function.{Function}
use Rattle.ir_core.specs.declared.program.Global.{Global}
use Rattle.ir_meaning.specs.Operators.{width}
use Rattle.ir_meaning.specs.Typed.{types, IsOp, IsOperand, IsInteger, IsTyped}
use Rattle.ir_verify.proofs.Lists.{Every, every_both}
use Rattle.gmir.specs.declared.code.GType.{GType}
use Rattle.gmir.specs.declared.code.GType.TheVariants.{S}
use Rattle.gmir.specs.declared.code.GOp.TheVariants as g
use Rattle.gmir.specs.declared.code.GInst.{GInst}
use Rattle.gmir.specs.declared.code.GFunction.{GFunction}
use Rattle.walks.specs.Registers.{Registers}
use Rattle.generic_code.specs.Literals.{Pool, type_of, plain, registers, behind_all}
use Rattle.generic_code.specs.Code.{address, piece_of}
use Rattle.generic_code.specs.Edges.{Ending, ending_of, ending_behind}
use Rattle.generic_code.specs.Whole.{is_jump, insts_ending}
use Rattle.generic_code.proofs.Loads.{Stand, stand_front, stand_first, stand_behind, Known, ValuesTyped}
use Rattle.generic_code.proofs.Computes.{integer_value}
use Rattle.generic_code.proofs.Flow.{piece_stand}
use Rattle.generic_laws.proofs.Philess.{ordinary, loads_then, each_piece, each_ending}
use Rattle.generic_laws.proofs.Typing.{registers_have, piece_held}
use Rattle.generic_laws.proofs.Along.{Along}

-- an integer of 64 bits
is_64 : (ty : Ty) → IsInteger ty → (width ty == 64) ≡ true → type_of ty ≡ S 64
is_64 Void h e = absurd h
is_64 (Int w) h e = let same : w ≡ 64 = grind (arith, e) in ap S same
is_64 Ptr h e = absurd h

module _ (program : Program) (all : IsTyped program) (function : Function) (f : GFunction) (typed : ValuesTyped program f (types function) []) where
  abbrev gl : List Global
  gl = program.module_.globals

  -- what becomes an address has 64 bits
  abbrev pub TakesWide : GInst → Type 0
  TakesWide i = i.op ≡ g.IntToPtr → (a : ℕ) → i.uses ≡ a ∷ [] → slice_get f.types a ≡ Some (S 64)

  pub no_address : (i : GInst) → ordinary i.op ≡ true → TakesWide i
  no_address i e is a uses = absurd (let bad : false ≡ true = sym (ap ordinary is) ∙ e in let no_way : ⊥ = cc in no_way)

  of_register : (value r : ℕ) → slice_get f.types r ≡ Some (S 64) → TakesWide (plain g.IntToPtr (value ∷ []) (r ∷ []) 0)
  of_register value r has is a uses = let same : r ≡ a = cc in subst (λ (x : ℕ). slice_get f.types x ≡ Some (S 64)) same has

  address_wide : (wide : Bool) (pool : Pool) (regs : Registers) (value : ℕ) (from : Ty) (a : Operand) → (width from == 64) ≡ wide → IsInteger from → IsOperand (types function) from a → Known f (types function) pool regs
      → Stand f.types pool.next (address gl wide pool value ((from, a) ∷ [])).types → Every TakesWide (address gl wide pool value ((from, a) ∷ [])).code
  address_wide true pool regs value from a e integer is held stand =
      let have = registers_have program function f typed ((from, a) ∷ []) pool regs (integer_value from integer, is, tt) held stand in
      loads_then gl TakesWide no_address pool ((from, a) ∷ []) _ (of_register value _ (have.0 ∙ ap (λ (t : GType). Some t) (is_64 from integer e)), tt)
  address_wide false pool regs value from a e integer is held stand =
      loads_then gl TakesWide no_address pool ((from, a) ∷ []) _
      (no_address (plain g.ZExt ((behind_all gl pool ((from, a) ∷ [])).next ∷ []) (registers gl pool ((from, a) ∷ [])) 0) refl, (of_register value _ (stand_first f.types (behind_all gl pool ((from, a) ∷ [])).next (S 64) [] (stand_behind gl f.types ((from, a) ∷ []) pool (S 64 ∷ []) stand)), tt))

  piece_wide : (pool : Pool) (regs : Registers) (value : ℕ) (ty : Ty) (op : Op) → IsOp program function ty op → Known f (types function) pool regs → Stand f.types pool.next (piece_of gl function.ret value pool ty op).types
      → Every TakesWide (piece_of gl function.ret value pool ty op).code
  piece_wide pool regs value ty op is held stand =
      each_piece gl TakesWide no_address function.ret value pool ty op
      (λ flags from a e.
      let is' : IsOp program function ty (Cast IntToPtr flags from a) = subst (IsOp program function ty) e is in
      address_wide (width from == 64) pool regs value from a refl is'.0.0 is'.1 held (subst (λ (o : Op). Stand f.types pool.next (piece_of gl function.ret value pool ty o).types) e stand)) (λ of count num e is' a uses. absurd (let bad : ⊥ = cc in bad))

  abbrev pub AllWide : Ending → Type 0
  AllWide e = Every TakesWide e.code × Every (Every TakesWide) e.later

  pub insts_wide : (insts : List Inst) (from value : ℕ) (pool : Pool) (own : ℕ) (regs : Registers) → Known f (types function) pool regs → Along program function f typed value insts
      → Stand f.types pool.next (insts_ending gl function from value pool own insts).types → AllWide (insts_ending gl function from value pool own insts)
  insts_wide [] from value pool own regs held along stand = (tt, tt)
  insts_wide (inst ∷ insts) from value pool own regs held along stand =
      by_jump (is_jump inst.op) refl stand (λ regs' held' stand'. insts_wide insts from (if has_result inst then value + 1 else value) (piece_of gl function.ret value pool inst.gives inst.op).pool own regs' held' along.2 stand')
    where
      rest : Ending
      rest = insts_ending gl function from (if has_result inst then value + 1 else value) (piece_of gl function.ret value pool inst.gives inst.op).pool own insts

      by_jump : (j : Bool) → is_jump inst.op ≡ j
          → Stand f.types pool.next (if j then ending_of gl function from pool own inst.op else (let piece = piece_of gl function.ret value pool inst.gives inst.op in
          ending_behind piece.code piece.types (insts_ending gl function from (if has_result inst then value + 1 else value) piece.pool own insts))).types
          → ((regs' : Registers) → Known f (types function) (piece_of gl function.ret value pool inst.gives inst.op).pool regs'
          → Stand f.types (piece_of gl function.ret value pool inst.gives inst.op).pool.next (insts_ending gl function from (if has_result inst then value + 1 else value) (piece_of gl function.ret value pool inst.gives inst.op).pool own insts).types
          → AllWide (insts_ending gl function from (if has_result inst then value + 1 else value) (piece_of gl function.ret value pool inst.gives inst.op).pool own insts))
          → AllWide (insts_ending gl function from value pool own (inst ∷ insts))
      by_jump true e stand more = rw e (each_ending gl TakesWide no_address function from pool own inst.op e)
      by_jump false e stand more =
          let piece = piece_of gl function.ret value pool inst.gives inst.op in
          let front = stand_front f.types pool.next piece.types rest.types stand in
          let next = piece_held program function f typed pool regs held all value inst.gives inst.op along.0 along.1 front in
          let ih = more next.0 next.1 (piece_stand program f (types function) [] typed function.ret value pool rest.types inst.gives inst.op stand) in
          rw e (every_both TakesWide piece.code rest.code (piece_wide pool regs value inst.gives inst.op along.0 held front) ih.0, ih.1)
