-- Registers of operands have the types of their places, at each place of a block.
use Rattle.std.proofs.Common.{◌≡◌, refl, sym, ap, subst, ◌∙◌, ℕ, ◌^◌, ◌<◌, Bool, true, false, List, [], ◌∷◌, ◌++◌, Option, Some, None, arith}
use Rattle.std.specs.Prelude.{slice_get, ◌==◌, take}
use Rattle.std.proofs.lemmas.List.{append_assoc}
use Rattle.std.proofs.lemmas.Nat.{pow_pos}
use Rattle.ir_core.specs.Program.{Program}
use Rattle.ir_core.specs.Units.{types_of_arguments, is_result}
use Rattle.ir_core.specs.declared.types.Ty.{Ty}
use Rattle.ir_core.specs.declared.types.Ty.TheVariants.{Int, Ptr}
use Rattle.ir_core.specs.declared.types.MemTy.{MemTy}
use Rattle.ir_core.specs.declared.code.Operand.{Operand}
use Rattle.ir_core.specs.declared.code.Operand.TheVariants.{Value as Local, Num, Null, Place, Poison}
use Rattle.ir_core.specs.declared.code.CastOp.{CastOp}
use Rattle.ir_core.specs.declared.code.CastOp.TheVariants.{Trunc, ZExt, SExt, PtrToInt, IntToPtr, Same}
use Rattle.ir_core.specs.declared.code.BuiltIn.{BuiltIn}
use Rattle.ir_core.specs.declared.code.BuiltIn.TheVariants.{MemCpy, MemMove, MemSet, SMax, SMin, UMax, UMin, Abs}
use Rattle.ir_core.specs.declared.code.Op.{Op}
use Rattle.ir_core.specs.declared.code.Op.TheVariants.{Binary, Icmp, Cast, Select, Freeze, Phi, Alloca, Load, Store, Gep, Call, BuiltIn as CallBuiltIn, Ret, Br, CondBr, Switch, Unreachable}
use Rattle.ir_core.specs.declared.program.Function.{Function}
use Rattle.ir_core.specs.declared.program.Global.{Global}
use Rattle.ir_meaning.specs.Image.{place_address}
use Rattle.ir_meaning.specs.Operators.{width}
use Rattle.ir_meaning.specs.Step.{function_at}
use Rattle.ir_meaning.specs.Typed.{types, IsOperand, IsInteger, IsValueType, IsOp, IsBuiltIn, IsCallee, AreArguments, AreIndices, IsTyped, IsCast}
use Rattle.gmir.specs.declared.code.GType.{GType}
use Rattle.gmir.specs.declared.code.GType.TheVariants.{S, P0}
use Rattle.gmir.specs.declared.code.GFunction.{GFunction}
use Rattle.gmir.specs.Play.{State}
use Rattle.walks.specs.Registers.{Registers, write}
use Rattle.walks.specs.Bits.{free}
use Rattle.generic_code.specs.Literals.{Pool, type_of, skip, literal, loaded, behind, register_of, all_loaded, registers, behind_all}
use Rattle.generic_code.specs.Parts.{addends_of, in_order, sum_types}
use Rattle.generic_code.specs.Code.{address, cast, built_in, piece_of}
use Rattle.generic_code.proofs.Loads.{Stand, stand_front, stand_behind, Known, known_next, known_second, Holds, ValuesTyped, AreTyped, Prepared, prepared, registers_behind, literal_known, key_is, width_there}
use Rattle.generic_code.proofs.Results.{nothing}
use Rattle.generic_code.proofs.Computes.{integer_value, cast_value}
use Rattle.generic_code.proofs.Touches.{stored_value}
use Rattle.generic_code.proofs.Calls.{typed_arguments}
use Rattle.generic_code.proofs.Pieces.{two_of, four_of, length_value}
use Rattle.generic_code.proofs.Distances.{typed_addends, order_addends}
use Rattle.generic_code.proofs.Addresses.{SumRun, sum_run, order_short}

module _ (program : Program) (function : Function) (f : GFunction) (typed : ValuesTyped program f (types function) []) where
  abbrev gl : List Global
  gl = program.module_.globals

  -- the literals that a block holds have their types, whatever the values are
  abbrev pub Held : Pool → Registers → Type 0
  Held pool regs = Known f (types function) pool regs

  pub holds_none : (regs : Registers) → Holds program f (types function) [] regs
  holds_none regs n ty e = nothing (width ty) (regs n)

  abbrev pub Has : ℕ → Ty → Type 0
  Has r ty = slice_get f.types r ≡ Some (type_of ty)

  abbrev pub AllHave : List (Ty × Operand) → List ℕ → Type 0
  AllHave [] [] = Unit {0}
  AllHave (one ∷ more) (r ∷ rs) = Has r one.0 × AllHave more rs
  AllHave _ _ = ⊥

  literal_has : (ty : Ty) (n : ℕ) (pool : Pool) (regs : Registers) → IsValueType ty → Held pool regs → Stand f.types pool.next (loaded (Some n) ty pool)
      → slice_get f.types (register_of (Num n) (Some n) ty pool) ≡ Some (type_of ty)
  literal_has ty n pool regs some held stand = (literal_known f (types function) ty n pool regs some held stand).1.type ∙ ap (λ (t : GType). Some t) (key_is ty some)

  register_has : (ty : Ty) (o : Operand) (pool : Pool) (regs : Registers) → IsValueType ty → IsOperand (types function) ty o → Held pool regs → Stand f.types pool.next (loaded (literal gl o) ty pool)
      → Has (register_of o (literal gl o) ty pool) ty
  register_has ty (Local n) pool regs some is held stand = typed n ty is
  register_has ty (Num n) pool regs some is held stand = literal_has ty n pool regs some held stand
  register_has ty Null pool regs some is held stand = literal_has ty 0 pool regs some held stand
  register_has ty (Place g o) pool regs some is held stand = literal_has ty (place_address program.module_.globals g o) pool regs some held stand
  register_has ty Poison pool regs some is held stand = literal_has ty 0 pool regs some held stand

  ready : (ops : List (Ty × Operand)) (pool : Pool) (regs : Registers) → AreTyped program f (types function) [] ops → Held pool regs → Stand f.types pool.next (all_loaded gl pool ops)
      → Prepared program f (types function) [] pool ops (registers_behind gl f pool ops regs)
  ready ops pool regs are held stand = prepared program f (types function) [] ops pool regs are typed held (holds_none regs) stand

  -- each operand's register has its type
  pub registers_have : (ops : List (Ty × Operand)) (pool : Pool) (regs : Registers) → AreTyped program f (types function) [] ops → Held pool regs → Stand f.types pool.next (all_loaded gl pool ops)
      → AllHave ops (registers gl pool ops)
  registers_have [] pool regs are held stand = tt
  registers_have (one ∷ more) pool regs are held stand =
      let front = stand_front f.types pool.next (loaded (literal gl one.1) one.0 pool) (all_loaded gl (behind (literal gl one.1) one.0 pool) more) stand in
      let single : Stand f.types pool.next (all_loaded gl pool (one ∷ [])) =
      stand_front f.types pool.next (all_loaded gl pool (one ∷ [])) (all_loaded gl (behind (literal gl one.1) one.0 pool) more)
      (subst (λ (z : List GType). Stand f.types pool.next z) (sym (append_assoc (loaded (literal gl one.1) one.0 pool) [] (all_loaded gl (behind (literal gl one.1) one.0 pool) more))) stand) in
      let next = ready (one ∷ []) pool regs (are.0, are.1, tt) held single in (
        register_has one.0 one.1 pool regs are.0 are.1 held front,
        registers_have more (behind (literal gl one.1) one.0 pool) (registers_behind gl f pool (one ∷ []) regs) are.2 next.known
            (stand_behind gl f.types (one ∷ []) pool (all_loaded gl (behind (literal gl one.1) one.0 pool) more)
            (subst (λ (z : List GType). Stand f.types pool.next z) (sym (append_assoc (loaded (literal gl one.1) one.0 pool) [] (all_loaded gl (behind (literal gl one.1) one.0 pool) more))) stand)),
      )

  -- ---- what a block holds behind a piece

  abbrev pub HeldBehind : Pool → Type 0
  HeldBehind pool = (regs : Registers) × Known f (types function) pool regs

  module _ (pool : Pool) (regs : Registers) (held : Known f (types function) pool regs) where
    pub behind_ops : (ops : List (Ty × Operand)) → AreTyped program f (types function) [] ops → Stand f.types pool.next (all_loaded gl pool ops) → HeldBehind (behind_all gl pool ops)
    behind_ops ops are stand = (registers_behind gl f pool ops regs, (ready ops pool regs are held stand).known)

    pub behind_one : (ops : List (Ty × Operand)) (ty : GType) → AreTyped program f (types function) [] ops → Stand f.types pool.next (all_loaded gl pool ops ++ ty ∷ []) → HeldBehind (skip 1 (behind_all gl pool ops))
    behind_one ops ty are stand =
        let p = ready ops pool regs are held (stand_front f.types pool.next (all_loaded gl pool ops) (ty ∷ []) stand) in
        (write (registers_behind gl f pool ops regs) (behind_all gl pool ops).next free, known_next f (types function) (behind_all gl pool ops) (registers_behind gl f pool ops regs) free p.known)

    behind_two : (ops : List (Ty × Operand)) (a b : GType) → AreTyped program f (types function) [] ops → Stand f.types pool.next (all_loaded gl pool ops ++ a ∷ b ∷ []) → HeldBehind (skip 2 (behind_all gl pool ops))
    behind_two ops a b are stand =
        let p = ready ops pool regs are held (stand_front f.types pool.next (all_loaded gl pool ops) (a ∷ b ∷ []) stand) in
        (_, known_second f (types function) (behind_all gl pool ops) (registers_behind gl f pool ops regs) free free p.known)

    -- the state that stands before a sum
    abbrev pub sum_state : Operand → State
    sum_state base = record { args = []; base_length = 0; block = 0; rest = []; regs = registers_behind gl f pool ((Ptr, base) ∷ []) regs; memory = [] }

    pub base_run : (result : ℕ) (of : MemTy) (base : Operand) (indices : List (Ty × Operand)) → Has result Ptr → IsOperand (types function) Ptr base → AreIndices (types function) indices
        → Stand f.types pool.next (all_loaded gl pool ((Ptr, base) ∷ []) ++ sum_types gl (behind_all gl pool ((Ptr, base) ∷ [])) (in_order (addends_of of indices)))
        → SumRun program f (types function) [] typed (sum_state base) result (register_of base (literal gl base) Ptr pool) (behind_all gl pool ((Ptr, base) ∷ [])) (in_order (addends_of of indices))
    base_run result of base indices has is_base are stand =
        let pre = ready ((Ptr, base) ∷ []) pool regs (tt, is_base, tt) held (stand_front f.types pool.next (all_loaded gl pool ((Ptr, base) ∷ [])) (sum_types gl (behind_all gl pool ((Ptr, base) ∷ [])) (in_order (addends_of of indices))) stand) in
        sum_run program f (types function) [] typed (in_order (addends_of of indices)) (sum_state base) result (register_of base (literal gl base) Ptr pool) (behind_all gl pool ((Ptr, base) ∷ []))
        (order_addends (types function) (addends_of of indices) (typed_addends (types function) of indices are)) (order_short program f (types function) [] typed (addends_of of indices)) pre.known pre.holds pre.ready.0.below pre.ready.0.wide
        (width_there f.types result P0 has)
        (stand_behind gl f.types ((Ptr, base) ∷ []) pool (sum_types gl (behind_all gl pool ((Ptr, base) ∷ [])) (in_order (addends_of of indices))) stand)

    address_held : (wide : Bool) (value : ℕ) (from : Ty) (a : Operand) → IsValueType from → IsOperand (types function) from a → Stand f.types pool.next (address gl wide pool value ((from, a) ∷ [])).types
        → HeldBehind (address gl wide pool value ((from, a) ∷ [])).pool
    address_held true value from a some is stand = behind_ops ((from, a) ∷ []) (some, is, tt) stand
    address_held false value from a some is stand = behind_one ((from, a) ∷ []) (S 64) (some, is, tt) stand

    cast_held : (value : ℕ) (from to : Ty) (a : Operand) (o : CastOp) → IsCast o from to → IsOperand (types function) from a → Stand f.types pool.next (cast gl pool value from a o).types → HeldBehind (cast gl pool value from a o).pool
    cast_held value from to a Trunc is h stand = behind_ops ((from, a) ∷ []) (cast_value Trunc from to is, h, tt) stand
    cast_held value from to a ZExt is h stand = behind_ops ((from, a) ∷ []) (cast_value ZExt from to is, h, tt) stand
    cast_held value from to a SExt is h stand = behind_ops ((from, a) ∷ []) (cast_value SExt from to is, h, tt) stand
    cast_held value from to a PtrToInt is h stand = behind_ops ((from, a) ∷ []) (cast_value PtrToInt from to is, h, tt) stand
    cast_held value from to a IntToPtr is h stand = address_held (width from == 64) value from a (cast_value IntToPtr from to is) h stand
    cast_held value from to a Same is h stand = behind_ops ((from, a) ∷ []) (cast_value Same from to is, h, tt) stand

    by_arguments : (types' : List Ty) (arguments : List (Ty × Operand)) → types_of_arguments arguments ≡ types' → ((i : ℕ) (ty : Ty) → slice_get types' i ≡ Some ty → IsValueType ty) → AreArguments (types function) arguments
        → AreTyped program f (types function) [] arguments
    by_arguments types' arguments e params are = typed_arguments program f (types function) [] arguments are (λ i ty at. params i ty (subst (λ (ts : List Ty). slice_get ts i ≡ Some ty) e at))

    -- the operands of built-ins
    pub two_typed : (ty : Ty) (arguments : List (Ty × Operand)) → types_of_arguments arguments ≡ ty ∷ ty ∷ [] → IsInteger ty → AreArguments (types function) arguments → AreTyped program f (types function) [] arguments
    two_typed ty arguments e integer are =
        let two = two_of arguments ty ty e in
        let some = integer_value ty integer in
        subst (λ (all : List (Ty × Operand)). AreArguments (types function) all → AreTyped program f (types function) [] all) (sym two.is) (λ are. (some, are.0, (some, are.1.0, tt))) are

    pub three_typed : (a b c d : Ty) (arguments : List (Ty × Operand)) → types_of_arguments arguments ≡ a ∷ b ∷ c ∷ d ∷ [] → IsValueType a → IsValueType b → IsValueType c → AreArguments (types function) arguments
        → AreTyped program f (types function) [] (take 3 arguments)
    three_typed a b c d arguments e is_a is_b is_c are =
        let four = four_of arguments a b c d e in
        subst (λ (all : List (Ty × Operand)). AreArguments (types function) all → AreTyped program f (types function) [] (take 3 all)) (sym four.is) (λ are. (is_a, are.0, (is_b, are.1.0, (is_c, are.1.1.0, tt)))) are

    pub abs_typed : (ty : Ty) (arguments : List (Ty × Operand)) → types_of_arguments arguments ≡ ty ∷ Int 1 ∷ [] → IsInteger ty → AreArguments (types function) arguments
        → AreTyped program f (types function) [] (take 1 arguments ++ (ty, Num 0) ∷ [])
    abs_typed ty arguments e integer are =
        let two = two_of arguments ty (Int 1) e in
        let some = integer_value ty integer in
        let zero_fits : 0 < 2 ^ width ty = pow_pos (width ty) in
        subst (λ (all : List (Ty × Operand)). AreArguments (types function) all → AreTyped program f (types function) [] (take 1 all ++ (ty, Num 0) ∷ [])) (sym two.is) (λ are. (some, are.0, (some, zero_fits, tt))) are

    eight : IsValueType (Int 8)
    eight = (omega arith, omega arith)

    built_held : (value : ℕ) (ty : Ty) (arguments : List (Ty × Operand)) (which : BuiltIn) → IsBuiltIn which (types_of_arguments arguments) ty → AreArguments (types function) arguments
        → Stand f.types pool.next (built_in gl pool value ty arguments which).types → HeldBehind (built_in gl pool value ty arguments which).pool
    built_held value ty arguments MemCpy b are stand = behind_ops (take 3 arguments) (three_typed Ptr Ptr (Int b.0) (Int 1) arguments b.2 tt tt (length_value b.0 b.1) are) stand
    built_held value ty arguments MemMove b are stand = behind_ops (take 3 arguments) (three_typed Ptr Ptr (Int b.0) (Int 1) arguments b.2 tt tt (length_value b.0 b.1) are) stand
    built_held value ty arguments MemSet b are stand = behind_ops (take 3 arguments) (three_typed Ptr (Int 8) (Int b.0) (Int 1) arguments b.2 tt eight (length_value b.0 b.1) are) stand
    built_held value ty arguments SMax b are stand = behind_one arguments (S 1) (two_typed ty arguments b.0 b.1 are) stand
    built_held value ty arguments SMin b are stand = behind_one arguments (S 1) (two_typed ty arguments b.0 b.1 are) stand
    built_held value ty arguments UMax b are stand = behind_one arguments (S 1) (two_typed ty arguments b.0 b.1 are) stand
    built_held value ty arguments UMin b are stand = behind_one arguments (S 1) (two_typed ty arguments b.0 b.1 are) stand
    built_held value ty arguments Abs b are stand = behind_two (take 1 arguments ++ (ty, Num 0) ∷ []) (type_of ty) (S 1) (abs_typed ty arguments b.0 b.1 are) stand

    pub call_typed : IsTyped program → (callee : ℕ) (arguments : List (Ty × Operand)) (ty : Ty) (called : Option Function) → function_at program callee ≡ called → IsCallee called (types_of_arguments arguments) ty → AreArguments (types function) arguments
        → AreTyped program f (types function) [] arguments
    call_typed all callee arguments ty None e is are = absurd is
    call_typed all callee arguments ty (Some g) e is are = by_arguments g.params arguments is.0 (all.typed callee g e).params are

    pub piece_held : IsTyped program → (value : ℕ) (ty : Ty) (op : Op) → IsOp program function ty op → (is_result ty ≡ true → Has value ty) → Stand f.types pool.next (piece_of gl function.ret value pool ty op).types
        → HeldBehind (piece_of gl function.ret value pool ty op).pool
    piece_held all value ty (Binary o flags x y) is has stand = let some = integer_value ty is.0 in behind_ops ((ty, x) ∷ (ty, y) ∷ []) (some, is.1, (some, is.2, tt)) stand
    piece_held all value ty (Icmp pred flags of x y) is has stand = behind_ops ((of, x) ∷ (of, y) ∷ []) (is.1, is.2, (is.1, is.3, tt)) stand
    piece_held all value ty (Cast o flags from a) is has stand = cast_held value from ty a o is.0 is.1 stand
    piece_held all value ty (Select c x y) is has stand = behind_ops ((Int 1, c) ∷ (ty, x) ∷ (ty, y) ∷ []) ((omega arith, omega arith), is.1, (is.0, is.2, (is.0, is.3, tt))) stand
    piece_held all value ty (Freeze x) is has stand = behind_ops ((ty, x) ∷ []) (is.0, is.1, tt) stand
    piece_held all value ty (Phi pairs) is has stand = (regs, held)
    piece_held all value ty (Alloca of count) is has stand = (regs, held)
    piece_held all value ty (Load x) is has stand = behind_ops ((Ptr, x) ∷ []) (tt, is.1, tt) stand
    piece_held all value ty (Store of x y) is has stand = behind_ops ((of, x) ∷ (Ptr, y) ∷ []) (stored_value of is.1, is.2, (tt, is.3, tt)) stand
    piece_held all value ty (Gep of base indices) is has stand =
        let pointer : Has value Ptr = subst (Has value) is.0 (has (ap is_result is.0)) in
        let run = base_run value of base indices pointer is.1 is.2 stand in (run.regs, run.known)
    piece_held all value ty (Call callee arguments) is has stand = behind_ops arguments (call_typed all callee arguments ty (function_at program callee) refl is.0 is.1) stand
    piece_held all value ty (CallBuiltIn which arguments) is has stand = built_held value ty arguments which is.0 is.1 stand
    piece_held all value ty (Ret None) is has stand = (regs, held)
    piece_held all value ty (Ret (Some a)) is has stand = behind_ops ((function.ret, a) ∷ []) (is.1.0, is.1.1, tt) stand
    piece_held all value ty (Br to) is has stand = (regs, held)
    piece_held all value ty (CondBr c x y) is has stand = (regs, held)
    piece_held all value ty (Switch of x otherwise cases) is has stand = (regs, held)
    piece_held all value ty Unreachable is has stand = (regs, held)
