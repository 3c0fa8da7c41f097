-- Each instruction that takes no edge is followed by its piece of code.
use Rattle.std.proofs.Common.{◌≡◌, refl, sym, ap, subst, ◌∙◌, ℕ, ◌+◌, ◌*◌, ◌%◌, ◌^◌, ◌<◌, ◌≤◌, inl, inr, Bool, true, false, List, [], ◌∷◌, ◌++◌, length, Option, Some, None, arith}
use Rattle.std.specs.Prelude.{◌==◌, slice_get, take}
use Rattle.std.proofs.lemmas.List.{append_assoc}
use Rattle.std.proofs.lemmas.Nat.{pow_pos}
use Rattle.ir_core.specs.Program.{Program}
use Rattle.ir_core.specs.Units.{units, parts_in, has_result, is_result, types_of_arguments}
use Rattle.ir_core.specs.declared.types.Ty.{Ty}
use Rattle.ir_core.specs.declared.types.Ty.TheVariants.{Void, Int, Ptr}
use Rattle.ir_core.specs.declared.types.MemTy.{MemTy}
use Rattle.ir_core.specs.declared.code.Operand.{Operand}
use Rattle.ir_core.specs.declared.code.Operand.TheVariants.{Num}
use Rattle.ir_core.specs.declared.code.CastOp.{CastOp}
use Rattle.ir_core.specs.declared.code.CastOp.TheVariants.{Trunc, ZExt, SExt, PtrToInt, IntToPtr, Same}
use Rattle.ir_core.specs.declared.code.Flags.{Flags}
use Rattle.ir_core.specs.declared.code.Pred.{Pred}
use Rattle.ir_core.specs.declared.code.BuiltIn.{BuiltIn}
use Rattle.ir_core.specs.declared.code.BuiltIn.TheVariants.{MemCpy, MemMove, MemSet, SMax, SMin, UMax, UMin, Abs}
use Rattle.ir_core.specs.declared.code.Op.{Op}
use Rattle.ir_core.specs.declared.code.Op.TheVariants.{Binary, Icmp, Cast, Select, Freeze, Phi, Alloca, Load, Store, Gep, Call, BuiltIn as CallBuiltIn, Ret, Br, CondBr, Switch, Unreachable}
use Rattle.ir_core.specs.declared.code.Inst.{Inst}
use Rattle.ir_core.specs.declared.program.Function.{Function}
use Rattle.ir_core.specs.declared.program.Global.{Global}
use Rattle.ir_meaning.specs.declared.activation.Activation.{Activation}
use Rattle.ir_meaning.specs.Value.{Value}
use Rattle.ir_meaning.specs.Memory.{Memory, data_start}
use Rattle.ir_meaning.specs.Operators.{width}
use Rattle.ir_meaning.specs.Step as ir
use Rattle.ir_meaning.specs.Step.{function_at, insts_at, number_at, act, operand, arguments_of, built_in, index_numbers, part, apart_or_equal, set, copied}
use Rattle.ir_meaning.specs.Ranges.{FitsWidth}
use Rattle.ir_meaning.specs.Typed.{types, IsOperand, IsInteger, IsValueType, IsResultType, IsOp, IsBuiltIn, IsCallee, IsReturned, AreArguments, AreIndices, IsTyped, IsLength, IsCast}
use Rattle.ir_meaning.proofs.Bytes.{AllBytesIf, all-copies, byte-of}
use Rattle.ir_meaning.proofs.Fitting.{abs-fits}
use Rattle.ir_meaning.proofs.Keeping.{operand-fits}
use Rattle.ir_meaning.proofs.Numbering.{number-type}
use Rattle.gmir.specs.declared.code.GType.TheVariants.{S}
use Rattle.gmir.specs.declared.code.GOp.TheVariants as g
use Rattle.gmir.specs.declared.code.GInst.{GInst}
use Rattle.gmir.specs.declared.code.GFunction.{GFunction}
use Rattle.gmir.specs.Play as play
use Rattle.gmir.specs.Play.{State}
use Rattle.walks.specs.Registers.{Registers, write}
use Rattle.walks.specs.Walk.{Bits}
use Rattle.walks.specs.Bits.{constant}
use Rattle.walks.specs.Refines.{RefinesBits}
use Rattle.walks.specs.Functions.{bits_of, Point}
use Rattle.generic_code.specs.Literals.{Pool, plain, skip, type_of, literal, register_of, loads, all_loaded, registers, behind_all}
use Rattle.generic_code.specs.Parts.{addends_of, in_order, sum_code, sum_types}
use Rattle.generic_code.specs.Code.{Piece, cast_op, chooses, result, one, address, cast, piece_of, absolute}
use Rattle.generic_code.specs.Whole.{is_jump}
use Rattle.generic_code.proofs.Loads.{Stand, stand_front, stand_behind, Known, known_write, known_next, known_second, ValuesTyped, AreTyped, Prepared, prepared, registers_behind, loads_run, value_below, width_there}
use Rattle.generic_code.proofs.Results.{nothing}
use Rattle.generic_code.proofs.Steps.{Alike, Fol, here_step}
use Rattle.generic_code.proofs.Computes.{some_integer, some_value, integer_value, cast_value, cast_to, follows_binary, follows_icmp, follows_cast, follows_select, follows_freeze, follows_break}
use Rattle.generic_code.proofs.Touches.{stored_value, follows_load, follows_store, follows_alloca}
use Rattle.generic_code.proofs.Calls.{typed_arguments, follows_void, follows_return, follows_trap, follows_call, follows_void_call}
use Rattle.generic_code.proofs.Copies.{follows_copy, follows_fill}
use Rattle.generic_code.proofs.Choices.{Chooses, greatest_signed, least_signed, greatest, least, follows_choice}
use Rattle.generic_code.proofs.Absolutes.{follows_absolute}
use Rattle.generic_code.proofs.Wide.{narrow, follows_address}
use Rattle.generic_code.proofs.Runs.{gets_then, follows_gets}
use Rattle.generic_code.proofs.Distances.{IsPath, led_of, typed_addends, order_addends, order_given, order_total, order_length, times_of}
use Rattle.generic_code.proofs.Addresses.{SumRun, sum_run, order_short}

-- ---- lists of arguments by their types

pub record Two (arguments : List (Ty × Operand)) (a b : Ty) : Type 0 where
  pub x : Operand
  pub y : Operand
  pub is : arguments ≡ (a, x) ∷ (b, y) ∷ []

pub two_of : (arguments : List (Ty × Operand)) (a b : Ty) → types_of_arguments arguments ≡ a ∷ b ∷ [] → Two arguments a b
two_of [] a b e = absurd (let bad : ⊥ = cc in bad)
two_of (p ∷ []) a b e = absurd (let bad : ⊥ = cc in bad)
two_of ((t, x) ∷ (u, y) ∷ []) a b e = let first : t ≡ a = cc in let second : u ≡ b = cc in record { x = x; y = y; is = cc }
two_of (p ∷ q ∷ o ∷ more) a b e = absurd (let bad : ⊥ = cc in bad)

pub record Four (arguments : List (Ty × Operand)) (a b c d : Ty) : Type 0 where
  pub x : Operand
  pub y : Operand
  pub z : Operand
  pub v : Operand
  pub is : arguments ≡ (a, x) ∷ (b, y) ∷ (c, z) ∷ (d, v) ∷ []

pub four_of : (arguments : List (Ty × Operand)) (a b c d : Ty) → types_of_arguments arguments ≡ a ∷ b ∷ c ∷ d ∷ [] → Four arguments a b c d
four_of [] a b c d e = absurd (let bad : ⊥ = cc in bad)
four_of (p ∷ []) a b c d e = absurd (let bad : ⊥ = cc in bad)
four_of (p ∷ q ∷ []) a b c d e = absurd (let bad : ⊥ = cc in bad)
four_of (p ∷ q ∷ o ∷ []) a b c d e = absurd (let bad : ⊥ = cc in bad)
four_of ((t, x) ∷ (u, y) ∷ (v, z) ∷ (w, q) ∷ []) a b c d e =
    let one : t ≡ a = cc in let two : u ≡ b = cc in let three : v ≡ c = cc in let four : w ≡ d = cc in record { x = x; y = y; z = z; v = q; is = cc }
four_of (p ∷ q ∷ o ∷ l ∷ k ∷ more) a b c d e = absurd (let bad : ⊥ = cc in bad)

pub length_value : (w : ℕ) → IsLength w → IsValueType (Int w)
length_value w (inl e) = (omega (arith, e), omega (arith, e))
length_value w (inr e) = (omega (arith, e), omega (arith, e))

module _ (program : Program) (symbol : ℕ) (function : Function) (there : function_at program symbol ≡ Some function) (f : GFunction)
    (typed : ValuesTyped program f (types function) []) (R : Point program symbol → State → Type 0) (measure : Point program symbol → ℕ)
    (now : Activation) (memory : Memory) (s : State) (inst : Inst) (h : Alike program symbol function there f now memory s)
    (at : slice_get (insts_at function now.block) now.place ≡ Some inst)
    (next : Pool) (low : Known f (types function) next s.regs) (r : List GInst) (m : ℕ)
    (all_typed : IsTyped program) (end_is : f.end ≡ data_start + program.room)
    (paths : (of : MemTy) (base : Operand) (indices : List (Ty × Operand)) → inst.op ≡ Gep of base indices → IsPath indices of) where
  abbrev gl : List Global
  gl = program.module_.globals

  abbrev tys : List Ty
  tys = types function

  abbrev N : ℕ
  N = number_at function now.block now.place

  abbrev pub F : List GInst → Type 0
  F code = Fol program symbol function there f R measure m (here_step program symbol function there f R measure now memory) (play.step f (record s { rest = code }))

  -- behind the instruction, with these registers
  abbrev pub Goes : Pool → Type 0
  Goes pool = (v : Value) (memory' : Memory) (s' : State) → Alike program symbol function there f (ir.behind function now inst v) memory' s' → Known f (types function) pool s'.regs → s'.rest ≡ r
      → R (ir.behind function now inst v, memory') s'

  abbrev pub piece : Op → Piece
  piece op = piece_of program.module_.globals function.ret (number_at function now.block now.place) next inst.gives op

  glue : (xs ys : List GInst) → F (xs ++ (ys ++ r)) → F ((xs ++ ys) ++ r)
  glue xs ys k = subst F (sym (append_assoc xs ys r)) k

  -- the registers behind operands, and behind the value too
  ready : (ops : List (Ty × Operand)) → AreTyped program f (types function) now.values ops → Stand f.types next.next (all_loaded gl next ops) → Prepared program f (types function) now.values next ops (registers_behind gl f next ops s.regs)
  ready ops are stand = prepared program f (types function) now.values ops next s.regs are typed low h.holds stand

  number_low : has_result inst ≡ true → number_at function now.block now.place < length (types function)
  number_low gives = value_below program f (types function) now.values (number_at function now.block now.place) inst.gives (types function) (number-type function now.block now.place inst at gives)

  valued : (gives : has_result inst ≡ true) (pool : Pool) (regs : Registers) (a : Bits) → Known f (types function) pool regs → Known f (types function) pool (write regs (number_at function now.block now.place) a)
  valued gives pool regs a k = known_write f (types function) pool regs (number_at function now.block now.place) a (number_low gives) k

  no_result : inst.gives ≡ Void → has_result inst ≡ false
  no_result e = ap is_result e

  pointer_result : inst.gives ≡ Ptr → has_result inst ≡ true
  pointer_result e = ap is_result e

  -- ---- built-ins

  units_of : (n : ℕ) → parts_in inst.op ≡ n → 1 + n ≤ units inst
  units_of n e = omega (arith, e)

  greater : (which : BuiltIn) (pred : Pred) → Chooses which pred → (x y : Operand) → IsInteger inst.gives → IsOperand (types function) inst.gives x → IsOperand (types function) inst.gives y → 2 ≤ units inst
      → act program function now memory inst inst.op
      ≡ ir.plain program function now memory inst (ir.give program function now memory inst (built_in which (width inst.gives) (operand program now.values x ∷ operand program now.values y ∷ [])))
      → Stand f.types next.next (all_loaded gl next ((inst.gives, x) ∷ (inst.gives, y) ∷ []) ++ S 1 ∷ [])
      → Goes (skip 1 (behind_all gl next ((inst.gives, x) ∷ (inst.gives, y) ∷ [])))
      → F ((loads gl next ((inst.gives, x) ∷ (inst.gives, y) ∷ [])
      ++ plain g.Icmp ((behind_all gl next ((inst.gives, x) ∷ (inst.gives, y) ∷ [])).next ∷ []) (registers gl next ((inst.gives, x) ∷ (inst.gives, y) ∷ [])) (chooses which)
      ∷ plain g.Select (number_at function now.block now.place ∷ []) ((behind_all gl next ((inst.gives, x) ∷ (inst.gives, y) ∷ [])).next ∷ registers gl next ((inst.gives, x) ∷ (inst.gives, y) ∷ [])) 0 ∷ []) ++ r)
  greater which pred choosing x y integer is_x is_y two_units acts stand goes =
      let some = integer_value inst.gives integer in
      let gives = (some_integer inst.gives integer).1 in
      let pre = ready ((inst.gives, x) ∷ (inst.gives, y) ∷ []) (some, is_x, (some, is_y, tt)) (stand_front f.types next.next (all_loaded gl next ((inst.gives, x) ∷ (inst.gives, y) ∷ [])) (S 1 ∷ []) stand) in
      glue (loads gl next ((inst.gives, x) ∷ (inst.gives, y) ∷ [])) _
      (follows_choice program symbol function there f typed R measure now memory s inst h at next low r m which pred choosing x y integer is_x is_y two_units acts stand gives
      (λ alike. goes _ memory _ alike (valued gives _ _ _ (known_next f (types function) (behind_all gl next ((inst.gives, x) ∷ (inst.gives, y) ∷ [])) _ _ pre.known)) refl))

  by_two : (which : BuiltIn) (pred : Pred) (a b : Ty) → Chooses which pred → (arguments : List (Ty × Operand)) → inst.op ≡ CallBuiltIn which arguments
      → ((vs : List Value) → ir.run_built_in program function now memory inst which vs ≡ ir.plain program function now memory inst (ir.give program function now memory inst (built_in which (width inst.gives) vs)))
      → types_of_arguments arguments ≡ inst.gives ∷ inst.gives ∷ [] → IsInteger inst.gives → AreArguments (types function) arguments
      → Stand f.types next.next (all_loaded gl next arguments ++ S 1 ∷ []) → Goes (skip 1 (behind_all gl next arguments))
      → F ((loads gl next arguments
      ++ plain g.Icmp ((behind_all gl next arguments).next ∷ []) (registers gl next arguments) (chooses which)
      ∷ plain g.Select (number_at function now.block now.place ∷ []) ((behind_all gl next arguments).next ∷ registers gl next arguments) 0 ∷ []) ++ r)
  by_two which pred a b choosing arguments is runs given integer are stand goes =
      let two = two_of arguments inst.gives inst.gives given in
      (subst (λ (all : List (Ty × Operand)). inst.op ≡ CallBuiltIn which all → AreArguments (types function) all → Stand f.types next.next (all_loaded gl next all ++ S 1 ∷ []) → Goes (skip 1 (behind_all gl next all))
      → F ((loads gl next all
      ++ plain g.Icmp ((behind_all gl next all).next ∷ []) (registers gl next all) (chooses which)
      ∷ plain g.Select (number_at function now.block now.place ∷ []) ((behind_all gl next all).next ∷ registers gl next all) 0 ∷ []) ++ r)) (sym two.is)
      (λ is are stand goes. greater which pred choosing two.x two.y integer are.0 are.1.0 (let u = units_of 2 (ap parts_in is) in omega (arith, u)) (ap (act program function now memory inst) is ∙ runs _) stand goes))
      is are stand goes

  -- ---- addresses

  gep : (of : MemTy) (base : Operand) (indices : List (Ty × Operand)) → inst.op ≡ Gep of base indices → inst.gives ≡ Ptr → IsOperand (types function) Ptr base → AreIndices (types function) indices
      → Stand f.types next.next (piece (Gep of base indices)).types → Goes (piece (Gep of base indices)).pool → F ((piece (Gep of base indices)).code ++ r)
  gep of base indices is pointer is_base are stand goes =
      follows_gets program symbol function there f typed R measure now memory s inst h at gives r m
      (loads gl next ((Ptr, base) ∷ []) ++ sum_code gl N from pool' (in_order (addends_of of indices))) run.regs run.sum (24 + (36 + 160 * length (in_order (addends_of of indices))))
      (part of (operand program now.values base) (index_numbers program now.values indices))
      (gets_then f s (loads gl next ((Ptr, base) ∷ [])) (sum_code gl N from pool' (in_order (addends_of of indices))) r regs (write run.regs N run.sum) 24 (36 + 160 * length (in_order (addends_of of indices)))
      (loads_run gl f ((Ptr, base) ∷ []) s next (sum_code gl N from pool' (in_order (addends_of of indices)) ++ r)) (run.gets r))
      run.holds (ap (act program function now memory inst) is)
      (subst (λ (w : ℕ). FitsWidth w (part of (operand program now.values base) (index_numbers program now.values indices))) (sym wide) (fits (operand program now.values base) (index_numbers program now.values indices)))
      (subst (λ (w : ℕ). RefinesBits (bits_of w (part of (operand program now.values base) (index_numbers program now.values indices))) run.sum) (sym wide) (known (operand program now.values base) (index_numbers program now.values indices) refl refl))
      (let few = order_length (addends_of of indices) in let few' = times_of of indices in let u = units_of (length indices) (ap parts_in is) in omega (arith, few, few', u))
      (λ alike. goes _ memory _ alike (valued gives _ _ _ run.known) refl)
    where
      gives : has_result inst ≡ true
      gives = pointer_result pointer

      wide : width inst.gives ≡ 64
      wide = ap width pointer

      from : ℕ
      from = register_of base (literal gl base) Ptr next

      pool' : Pool
      pool' = behind_all gl next ((Ptr, base) ∷ [])

      regs : Registers
      regs = registers_behind gl f next ((Ptr, base) ∷ []) s.regs

      pre : Prepared program f (types function) now.values next ((Ptr, base) ∷ []) (registers_behind gl f next ((Ptr, base) ∷ []) s.regs)
      pre = ready ((Ptr, base) ∷ []) (tt, is_base, tt) (stand_front f.types next.next (all_loaded gl next ((Ptr, base) ∷ [])) (sum_types gl (behind_all gl next ((Ptr, base) ∷ [])) (in_order (addends_of of indices))) stand)

      run : SumRun program f (types function) now.values typed (record s { regs = registers_behind gl f next ((Ptr, base) ∷ []) s.regs }) (number_at function now.block now.place) (register_of base (literal gl base) Ptr next) (behind_all gl next ((Ptr, base) ∷ [])) (in_order (addends_of of indices))
      run =
          sum_run program f (types function) now.values typed (in_order (addends_of of indices)) (record s { regs = registers_behind gl f next ((Ptr, base) ∷ []) s.regs }) N from pool'
          (order_addends (types function) (addends_of of indices) (typed_addends (types function) of indices are)) (order_short program f (types function) now.values typed (addends_of of indices)) pre.known pre.holds pre.ready.0.below pre.ready.0.wide
          (width_there f.types N (type_of inst.gives) (typed N inst.gives (number-type function now.block now.place inst at (pointer_result pointer))) ∙ ap (λ (t : Ty). play.width_of (type_of t)) pointer)
          (stand_behind gl f.types ((Ptr, base) ∷ []) next (sum_types gl (behind_all gl next ((Ptr, base) ∷ [])) (in_order (addends_of of indices))) stand)

      fits : (b : Value) (ns : Option (List ℕ)) → FitsWidth 64 (part of b ns)
      fits None ns = tt
      fits (Some b) None = tt
      fits (Some b) (Some ns) = omega arith

      known : (b : Value) (ns : Option (List ℕ)) → operand program now.values base ≡ b → index_numbers program now.values indices ≡ ns → RefinesBits (bits_of 64 (part of b ns)) run.sum
      known None ns e e' = nothing 64 run.sum
      known (Some b) None e e' = nothing 64 run.sum
      known (Some b) (Some ns) e e' =
          let led = led_of program (types function) now.values h.fit of indices ns e' are (paths of base indices is) in
          let small : b < 2 ^ 64 = subst (FitsWidth 64) e (operand-fits program (types function) now.values Ptr base h.fit is_base) in
          let here : RefinesBits (constant 64 b) (regs from) = subst (λ (v : Value). RefinesBits (bits_of 64 v) (regs from)) e pre.ready.0.bits in
          subst (λ (k : ℕ). RefinesBits (constant 64 k) run.sum) (order_total now.values (addends_of of indices) b ∙ ap (λ (k : ℕ). (b + k) % 2 ^ 64) led.sum)
          (run.bits b small here (order_given now.values (addends_of of indices) led.given))

  -- ---- calls

  call : (callee : ℕ) (arguments : List (Ty × Operand)) (ty : Ty) (called : Option Function) → inst.op ≡ Call callee arguments → inst.gives ≡ ty → function_at program callee ≡ called
      → IsCallee called (types_of_arguments arguments) ty → AreArguments (types function) arguments → Stand f.types next.next (all_loaded gl next arguments) → Goes (behind_all gl next arguments)
      → F ((loads gl next arguments ++ record { op = g.Call; defs = result ty (number_at function now.block now.place); uses = registers gl next arguments; num = 0; to = callee ∷ [] } ∷ []) ++ r)
  call callee arguments ty None is gives_ty e callee_is are stand goes = absurd callee_is
  call callee arguments Void (Some called) is gives_ty e callee_is are stand goes =
      let params = (all_typed.typed callee called e).params in
      let typed_ops = typed_arguments program f (types function) now.values arguments are (λ i ty z. params i ty (subst (λ (ts : List Ty). slice_get ts i ≡ Some ty) callee_is.0 z)) in
      glue (loads gl next arguments) _
      (follows_void_call program symbol function there f typed R measure now memory s inst h at next low r m callee arguments is called e callee_is.0 (gives_ty ∙ callee_is.1) params are stand end_is (no_result gives_ty) gives_ty
      (λ a b alike. goes None a.memory _ alike (ready arguments typed_ops stand).known refl))
  call callee arguments (Int w) (Some called) is gives_ty e callee_is are stand goes =
      let params = (all_typed.typed callee called e).params in
      let ret : IsValueType inst.gives = subst IsValueType (sym gives_ty) (subst IsResultType (sym callee_is.1) (all_typed.typed callee called e).ret) in
      let typed_ops = typed_arguments program f (types function) now.values arguments are (λ i ty z. params i ty (subst (λ (ts : List Ty). slice_get ts i ≡ Some ty) callee_is.0 z)) in
      glue (loads gl next arguments) _
      (follows_call program symbol function there f typed R measure now memory s inst h at next low r m callee arguments is called e callee_is.0 (gives_ty ∙ callee_is.1) params are stand end_is (ap is_result gives_ty) ret
      (λ v a b alike. goes v a.memory _ alike (valued (ap is_result gives_ty) _ _ _ (ready arguments typed_ops stand).known) refl))
  call callee arguments Ptr (Some called) is gives_ty e callee_is are stand goes =
      let params = (all_typed.typed callee called e).params in
      let typed_ops = typed_arguments program f (types function) now.values arguments are (λ i ty z. params i ty (subst (λ (ts : List Ty). slice_get ts i ≡ Some ty) callee_is.0 z)) in
      glue (loads gl next arguments) _
      (follows_call program symbol function there f typed R measure now memory s inst h at next low r m callee arguments is called e callee_is.0 (gives_ty ∙ callee_is.1) params are stand end_is (ap is_result gives_ty) (subst IsValueType (sym gives_ty) tt)
      (λ v a b alike. goes v a.memory _ alike (valued (ap is_result gives_ty) _ _ _ (ready arguments typed_ops stand).known) refl))

  -- ---- built-ins that move bytes

  copy : (which : BuiltIn) (may : ℕ → ℕ → ℕ → Bool) (w : ℕ) (arguments : List (Ty × Operand)) → inst.op ≡ CallBuiltIn which arguments
      → ((a b c d : Value) → ir.run_built_in program function now memory inst which (a ∷ b ∷ c ∷ d ∷ []) ≡ ir.after_moving program function now memory inst (ir.moved_count (a ∷ b ∷ c ∷ d ∷ [])) (copied may memory a b c))
      → ((a b c : Value) → AllBytesIf (copied may memory a b c))
      → IsLength w → types_of_arguments arguments ≡ Ptr ∷ Ptr ∷ Int w ∷ Int 1 ∷ [] → inst.gives ≡ Void → AreArguments (types function) arguments
      → Stand f.types next.next (all_loaded gl next (take 3 arguments)) → Goes (behind_all gl next (take 3 arguments))
      → F ((loads gl next (take 3 arguments) ++ record { op = g.CopyBytes; defs = []; uses = registers gl next (take 3 arguments); num = 0; to = [] } ∷ []) ++ r)
  copy which may w arguments is runs bytes long given void are stand goes =
      let four = four_of arguments Ptr Ptr (Int w) (Int 1) given in
      (subst (λ (all : List (Ty × Operand)). inst.op ≡ CallBuiltIn which all → AreArguments (types function) all → Stand f.types next.next (all_loaded gl next (take 3 all)) → Goes (behind_all gl next (take 3 all))
      → F ((loads gl next (take 3 all) ++ record { op = g.CopyBytes; defs = []; uses = registers gl next (take 3 all); num = 0; to = [] } ∷ []) ++ r)) (sym four.is)
      (λ is are stand goes.
      glue (loads gl next ((Ptr, four.x) ∷ (Ptr, four.y) ∷ (Int w, four.z) ∷ [])) _
      (follows_copy program symbol function there f typed R measure now memory s inst h at next low r m (no_result void) may w four.x four.y four.z four.v (ap (act program function now memory inst) is ∙ runs _ _ _ _) (bytes (operand program now.values four.x) (operand program now.values four.y) (operand program now.values four.z))
      are.0 are.1.0 are.1.1.0 (length_value w long) stand
      (λ after after' alike. goes None after _ alike (ready ((Ptr, four.x) ∷ (Ptr, four.y) ∷ (Int w, four.z) ∷ []) (tt, are.0, (tt, are.1.0, (length_value w long, are.1.1.0, tt))) stand).known refl))))
      is are stand goes

  fill : (w : ℕ) (arguments : List (Ty × Operand)) → inst.op ≡ CallBuiltIn MemSet arguments
      → IsLength w → types_of_arguments arguments ≡ Ptr ∷ Int 8 ∷ Int w ∷ Int 1 ∷ [] → inst.gives ≡ Void → AreArguments (types function) arguments
      → Stand f.types next.next (all_loaded gl next (take 3 arguments)) → Goes (behind_all gl next (take 3 arguments))
      → F ((loads gl next (take 3 arguments) ++ record { op = g.FillBytes; defs = []; uses = registers gl next (take 3 arguments); num = 0; to = [] } ∷ []) ++ r)
  fill w arguments is long given void are stand goes =
      let four = four_of arguments Ptr (Int 8) (Int w) (Int 1) given in
      (subst (λ (all : List (Ty × Operand)). inst.op ≡ CallBuiltIn MemSet all → AreArguments (types function) all → Stand f.types next.next (all_loaded gl next (take 3 all)) → Goes (behind_all gl next (take 3 all))
      → F ((loads gl next (take 3 all) ++ record { op = g.FillBytes; defs = []; uses = registers gl next (take 3 all); num = 0; to = [] } ∷ []) ++ r)) (sym four.is)
      (λ is are stand goes.
      glue (loads gl next ((Ptr, four.x) ∷ (Int 8, four.y) ∷ (Int w, four.z) ∷ [])) _
      (follows_fill program symbol function there f typed R measure now memory s inst h at next low r m (no_result void) w four.x four.y four.z four.v (ap (act program function now memory inst) is)
      (all-copies MemSet memory (operand program now.values four.x) (operand program now.values four.y) (operand program now.values four.z) [] (λ k. byte-of (operand program now.values four.y) (operand-fits program (types function) now.values (Int 8) four.y h.fit are.1.0)) h.bytes)
      are.0 are.1.0 are.1.1.0 (length_value w long) stand
      (λ after after' alike. goes None after _ alike (ready ((Ptr, four.x) ∷ (Int 8, four.y) ∷ (Int w, four.z) ∷ []) (tt, are.0, ((omega arith, omega arith), are.1.0, (length_value w long, are.1.1.0, tt))) stand).known refl))))
      is are stand goes

  abs : (arguments : List (Ty × Operand)) → inst.op ≡ CallBuiltIn Abs arguments → types_of_arguments arguments ≡ inst.gives ∷ Int 1 ∷ [] → IsInteger inst.gives → AreArguments (types function) arguments
      → Stand f.types next.next (absolute gl next N inst.gives (take 1 arguments ++ (inst.gives, Num 0) ∷ [])).types → Goes (absolute gl next N inst.gives (take 1 arguments ++ (inst.gives, Num 0) ∷ [])).pool
      → F ((absolute gl next N inst.gives (take 1 arguments ++ (inst.gives, Num 0) ∷ [])).code ++ r)
  abs arguments is given integer are stand goes =
      let two = two_of arguments inst.gives (Int 1) given in
      let some = integer_value inst.gives integer in
      let gives = (some_integer inst.gives integer).1 in
      (subst (λ (all : List (Ty × Operand)). inst.op ≡ CallBuiltIn Abs all → AreArguments (types function) all → Stand f.types next.next (absolute gl next N inst.gives (take 1 all ++ (inst.gives, Num 0) ∷ [])).types
      → Goes (absolute gl next N inst.gives (take 1 all ++ (inst.gives, Num 0) ∷ [])).pool → F ((absolute gl next N inst.gives (take 1 all ++ (inst.gives, Num 0) ∷ [])).code ++ r)) (sym two.is)
      (λ is are stand goes.
      let pre = ready ((inst.gives, two.x) ∷ (inst.gives, Num 0) ∷ []) (some, are.0, (some, pow_pos' (width inst.gives), tt))
      (stand_front f.types next.next (all_loaded gl next ((inst.gives, two.x) ∷ (inst.gives, Num 0) ∷ [])) (type_of inst.gives ∷ S 1 ∷ []) stand) in
      let u = units_of 2 (ap parts_in is) in
      glue (loads gl next ((inst.gives, two.x) ∷ (inst.gives, Num 0) ∷ [])) _
      (follows_absolute program symbol function there f typed R measure now memory s inst h at gives next low r m two.x two.y integer are.0 (omega (arith, u)) (ap (act program function now memory inst) is) stand
      (abs-fits (width inst.gives) 1 (operand program now.values two.x ∷ operand program now.values two.y ∷ [])
      (operand-fits program (types function) now.values inst.gives two.x h.fit are.0, operand-fits program (types function) now.values (Int 1) two.y h.fit are.1.0))
      (λ alike. goes _ memory _ alike (valued gives _ _ _ (known_second f (types function) (behind_all gl next ((inst.gives, two.x) ∷ (inst.gives, Num 0) ∷ [])) _ _ _ pre.known)) refl))))
      is are stand goes
    where
      pow_pos' : (w : ℕ) → 0 < 2 ^ w
      pow_pos' w = pow_pos w

  built : (which : BuiltIn) (arguments : List (Ty × Operand)) → inst.op ≡ CallBuiltIn which arguments → IsBuiltIn which (types_of_arguments arguments) inst.gives → AreArguments (types function) arguments
      → Stand f.types next.next (piece (CallBuiltIn which arguments)).types → Goes (piece (CallBuiltIn which arguments)).pool → F ((piece (CallBuiltIn which arguments)).code ++ r)
  built MemCpy arguments is b are stand goes = copy MemCpy apart_or_equal b.0 arguments is (λ a b' c d. refl) (λ a b' c. all-copies MemCpy memory a b' c [] (λ z. absurd (let bad : ⊥ = cc in bad)) h.bytes) b.1 b.2 b.3 are stand goes
  built MemMove arguments is b are stand goes = copy MemMove (λ to from count. true) b.0 arguments is (λ a b' c d. refl) (λ a b' c. all-copies MemMove memory a b' c [] (λ z. absurd (let bad : ⊥ = cc in bad)) h.bytes) b.1 b.2 b.3 are stand goes
  built MemSet arguments is b are stand goes = fill b.0 arguments is b.1 b.2 b.3 are stand goes
  built SMax arguments is b are stand goes = by_two SMax _ inst.gives inst.gives greatest_signed arguments is (λ vs. refl) b.0 b.1 are stand goes
  built SMin arguments is b are stand goes = by_two SMin _ inst.gives inst.gives least_signed arguments is (λ vs. refl) b.0 b.1 are stand goes
  built UMax arguments is b are stand goes = by_two UMax _ inst.gives inst.gives greatest arguments is (λ vs. refl) b.0 b.1 are stand goes
  built UMin arguments is b are stand goes = by_two UMin _ inst.gives inst.gives least arguments is (λ vs. refl) b.0 b.1 are stand goes
  built Abs arguments is b are stand goes = abs arguments is b.0 b.1 are stand goes

  returns : (a : Option Operand) → inst.op ≡ Ret a → IsReturned (types function) function.ret a → Stand f.types next.next (piece (Ret a)).types → F ((piece (Ret a)).code ++ r)
  returns None is ret stand = follows_void program symbol function there f typed R measure now memory s inst h at next low r m is
  returns (Some x) is ret stand =
      glue (loads gl next ((function.ret, x) ∷ [])) _ (follows_return program symbol function there f typed R measure now memory s inst h at next low r m x is ret.0 ret.1 stand)

  -- ---- casts

  by_one : (o : CastOp) (flags : Flags) (from : Ty) (x : Operand) → inst.op ≡ Cast o flags from x → IsCast o from inst.gives → IsOperand (types function) from x
      → Stand f.types next.next (all_loaded gl next ((from, x) ∷ [])) → Goes (behind_all gl next ((from, x) ∷ []))
      → F ((one gl next ((from, x) ∷ []) (cast_op o) (N ∷ []) 0 []).code ++ r)
  by_one o flags from x is is_cast is_x stand goes =
      let some = cast_to o from inst.gives is_cast in
      glue (loads gl next ((from, x) ∷ [])) _
      (follows_cast program symbol function there f typed R measure now memory s inst h at next low r m (some_value inst.gives some).1 (some_value inst.gives some).0 o flags from x is is_cast is_x stand
      (λ alike. goes _ memory _ alike (valued (some_value inst.gives some).1 _ _ _ (ready ((from, x) ∷ []) (cast_value o from inst.gives is_cast, is_x, tt) stand).known) refl))

  to_address : (wide : Bool) (flags : Flags) (from : Ty) (x : Operand) → (width from == 64) ≡ wide → inst.op ≡ Cast IntToPtr flags from x → IsCast IntToPtr from inst.gives → IsOperand (types function) from x
      → Stand f.types next.next (address gl wide next N ((from, x) ∷ [])).types → Goes (address gl wide next N ((from, x) ∷ [])).pool → F ((address gl wide next N ((from, x) ∷ [])).code ++ r)
  to_address true flags from x e is is_cast is_x stand goes = by_one IntToPtr flags from x is is_cast is_x stand goes
  to_address false flags from x e is is_cast is_x stand goes =
      let some = integer_value from is_cast.0 in
      let pre = ready ((from, x) ∷ []) (some, is_x, tt) (stand_front f.types next.next (all_loaded gl next ((from, x) ∷ [])) (S 64 ∷ []) stand) in
      follows_address program symbol function there f typed R measure now memory s inst h at next low r m flags from x is is_cast.0 is_cast.1 (narrow from is_cast.0 e) is_x stand
      (λ alike. goes _ memory _ alike (valued (pointer_result is_cast.1) _ _ _ (known_next f (types function) (behind_all gl next ((from, x) ∷ [])) _ _ pre.known)) refl)

  casts : (o : CastOp) (flags : Flags) (from : Ty) (x : Operand) → inst.op ≡ Cast o flags from x → IsCast o from inst.gives → IsOperand (types function) from x
      → Stand f.types next.next (cast gl next N from x o).types → Goes (cast gl next N from x o).pool → F ((cast gl next N from x o).code ++ r)
  casts Trunc flags from x is is_cast is_x stand goes = by_one Trunc flags from x is is_cast is_x stand goes
  casts ZExt flags from x is is_cast is_x stand goes = by_one ZExt flags from x is is_cast is_x stand goes
  casts SExt flags from x is is_cast is_x stand goes = by_one SExt flags from x is is_cast is_x stand goes
  casts PtrToInt flags from x is is_cast is_x stand goes = by_one PtrToInt flags from x is is_cast is_x stand goes
  casts IntToPtr flags from x is is_cast is_x stand goes = to_address (width from == 64) flags from x refl is is_cast is_x stand goes
  casts Same flags from x is is_cast is_x stand goes = by_one Same flags from x is is_cast is_x stand goes

  -- ---- each instruction

  pub by_op : (op : Op) → inst.op ≡ op → IsOp program function inst.gives op → is_jump op ≡ false → Stand f.types next.next (piece op).types → Goes (piece op).pool → F ((piece op).code ++ r)
  by_op (Binary o flags x y) is ops _ stand goes =
      let some = integer_value inst.gives ops.0 in
      glue (loads gl next ((inst.gives, x) ∷ (inst.gives, y) ∷ [])) _
      (follows_binary program symbol function there f typed R measure now memory s inst h at next low r m o flags x y is ops.0 ops.1 ops.2 stand
      (λ v alike. goes v memory _ alike (valued (some_integer inst.gives ops.0).1 _ _ _ (ready ((inst.gives, x) ∷ (inst.gives, y) ∷ []) (some, ops.1, (some, ops.2, tt)) stand).known) refl))
  by_op (Icmp pred flags of x y) is ops _ stand goes =
      let gives : has_result inst ≡ true = ap is_result ops.0 in
      glue (loads gl next ((of, x) ∷ (of, y) ∷ [])) _
      (follows_icmp program symbol function there f typed R measure now memory s inst h at next low r m gives (λ e. let z : Void ≡ Int 1 = sym e ∙ ops.0 in let bad : ⊥ = cc in bad) pred flags of x y is ops.0 ops.1 ops.2 ops.3 stand
      (λ alike. goes _ memory _ alike (valued gives _ _ _ (ready ((of, x) ∷ (of, y) ∷ []) (ops.1, ops.2, (ops.1, ops.3, tt)) stand).known) refl))
  by_op (Cast o flags from x) is ops _ stand goes = casts o flags from x is ops.0 ops.1 stand goes
  by_op (Select c x y) is ops _ stand goes =
      glue (loads gl next ((Int 1, c) ∷ (inst.gives, x) ∷ (inst.gives, y) ∷ [])) _
      (follows_select program symbol function there f typed R measure now memory s inst h at next low r m (some_value inst.gives ops.0).1 (some_value inst.gives ops.0).0 c x y is ops.0 ops.1 ops.2 ops.3 stand
      (λ alike. goes _ memory _ alike (valued (some_value inst.gives ops.0).1 _ _ _
      (ready ((Int 1, c) ∷ (inst.gives, x) ∷ (inst.gives, y) ∷ []) ((omega arith, omega arith), ops.1, (ops.0, ops.2, (ops.0, ops.3, tt))) stand).known) refl))
  by_op (Freeze x) is ops _ stand goes =
      glue (loads gl next ((inst.gives, x) ∷ [])) _
      (follows_freeze program symbol function there f typed R measure now memory s inst h at next low r m (some_value inst.gives ops.0).1 (some_value inst.gives ops.0).0 x is ops.0 ops.1 stand
      (λ alike. goes _ memory _ alike (valued (some_value inst.gives ops.0).1 _ _ _ (ready ((inst.gives, x) ∷ []) (ops.0, ops.1, tt) stand).known) refl))
  by_op (Phi pairs) is ops _ stand goes = follows_break program symbol function there f typed R measure now memory s inst h at next low r m _ (ap (act program function now memory inst) is)
  by_op (Alloca of count) is ops _ stand goes =
      follows_alloca program symbol function there f typed R measure now memory s inst h at next low r m (pointer_result ops) ops of count is end_is all_typed.room
      (λ alike. goes _ _ _ alike (valued (pointer_result ops) _ _ _ low) refl)
  by_op (Load address) is ops _ stand goes =
      let some = stored_value inst.gives ops.0 in
      glue (loads gl next ((Ptr, address) ∷ [])) _
      (follows_load program symbol function there f typed R measure now memory s inst h at next low r m (some_value inst.gives some).1 address ops.0 is ops.1 stand
      (λ a alike. goes _ memory _ alike (valued (some_value inst.gives some).1 _ _ _ (ready ((Ptr, address) ∷ []) (tt, ops.1, tt) stand).known) refl))
  by_op (Store of x address) is ops _ stand goes =
      glue (loads gl next ((of, x) ∷ (Ptr, address) ∷ [])) _
      (follows_store program symbol function there f typed R measure now memory s inst h at next low r m (no_result ops.0) of x address ops.1 is ops.2 ops.3 stand
      (λ a alike. goes None _ _ alike (ready ((of, x) ∷ (Ptr, address) ∷ []) (stored_value of ops.1, ops.2, (tt, ops.3, tt)) stand).known refl))
  by_op (Gep of base indices) is ops _ stand goes = gep of base indices is ops.0 ops.1 ops.2 stand goes
  by_op (Call callee arguments) is ops _ stand goes = call callee arguments inst.gives (function_at program callee) is refl refl ops.0 ops.1 stand goes
  by_op (CallBuiltIn which arguments) is ops _ stand goes = built which arguments is ops.0 ops.1 stand goes
  by_op (Ret a) is ops _ stand goes = returns a is ops.1 stand
  by_op Unreachable is ops _ stand goes = follows_trap program symbol function there f typed R measure now memory s inst h at next low r m is _
  by_op (Br to) is ops j stand goes = absurd (let bad : ⊥ = cc in bad)
  by_op (CondBr c a b) is ops j stand goes = absurd (let bad : ⊥ = cc in bad)
  by_op (Switch of a otherwise cases) is ops j stand goes = absurd (let bad : ⊥ = cc in bad)
