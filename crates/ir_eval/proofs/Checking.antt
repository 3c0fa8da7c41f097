-- What a checked program tells the evaluator.
use Rattle.std.proofs.Common.{◌≡◌, ℕ, zero, suc, ◌+◌, ◌<◌, ◌≤◌, ◌⊎◌, inl, inr, List, [], ◌∷◌, ◌++◌, map, length, take, Some, None, sym, ◌∙◌, ap, subst, refl, arith, length-append}
use Rattle.std.specs.Prelude.{slice_get, slice_index, slice_index_or, sum_by}
use Rattle.std.proofs.Math.Pow.{pow_mono}
use Rattle.ir_core.specs.declared.types.Ty.{Ty}
use Rattle.ir_core.specs.declared.types.Ty.TheVariants.{Void, Int, Ptr}
use Rattle.ir_core.specs.declared.code.Operand.{Operand}
use Rattle.ir_core.specs.declared.code.BuiltIn.{BuiltIn}
use Rattle.ir_core.specs.declared.code.BuiltIn.TheVariants.{MemCpy, MemMove, MemSet, SMax, SMin, UMax, UMin, Abs}
use Rattle.ir_core.specs.declared.code.Op.{Op}
use Rattle.ir_core.specs.declared.code.Op.TheVariants.{Binary, Icmp, Cast, Select, Freeze, Phi, Alloca, Load, Store, Gep, Call, BuiltIn as CallBuiltIn, Ret, Br, CondBr, Switch, Unreachable}
use Rattle.ir_core.specs.declared.code.Inst.{Inst}
use Rattle.ir_core.specs.declared.code.Block.{Block}
use Rattle.ir_core.specs.declared.program.Function.{Function}
use Rattle.ir_core.specs.declared.program.Global.{Global}
use Rattle.ir_core.specs.Units.{instructions, values as value_count, types_of_arguments}
use Rattle.ir_flow.specs.Limits.{function_limit, functions_limit, insts_limit, op_limit}
use Rattle.ir_meaning.specs.Value.{Value}
use Rattle.ir_meaning.specs.Memory.{data_start}
use Rattle.ir_meaning.specs.Image.{span, address_of}
use Rattle.ir_meaning.specs.Operators.{width}
use Rattle.ir_meaning.specs.Step.{Program, operand, arguments_of, insts_at, insts_of}
use Rattle.ir_meaning.specs.Ranges.{FitsWidth, AreArgs}
use Rattle.ir_meaning.specs.Typed.{types, IsOperand, AreIndices, IsLength, IsInteger, IsBuiltIn, IsOp, AreArguments}
use Rattle.ir_meaning.proofs.Keeping.{operand-fits, arguments-fit}
use Rattle.ir_data.specs.Image.{places_from, taken}
use Rattle.ir_data.proofs.Sizes.{type_within}
use Rattle.ir_data.proofs.Steps.{place_at, places_long}
use Rattle.ir_verify.specs.Verdict.{IsChecked}
use Rattle.ir_verify.proofs.Lists.{or_none_left, or_none_right}
use Rattle.ir_verify.proofs.Typing.{checked-typed}
use Rattle.ir_verify.proofs.WellFormed.{well_formed}
use Rattle.ir_verify.proofs.Usable.{functions_pass}
use Rattle.ir_eval.specs.Code.{ArePlaces}
use Rattle.ir_eval.specs.Fits.{ValuesFit, IsBounded, IsUsable, AreTwo, AreThree, BuiltInFits, IndicesFit, OpFits}

-- ---- limits of types

limit_left : (xs ys : List Inst) → insts_limit (xs ++ ys) ≡ None → insts_limit xs ≡ None
limit_left [] ys e = refl
limit_left (x ∷ xs) ys e =
    let a = or_none_left (op_limit x.op) (insts_limit (xs ++ ys)) e in
    let b = limit_left xs ys (or_none_right (op_limit x.op) (insts_limit (xs ++ ys)) e) in
    rw (a, b) refl

limit_right : (xs ys : List Inst) → insts_limit (xs ++ ys) ≡ None → insts_limit ys ≡ None
limit_right [] ys e = e
limit_right (x ∷ xs) ys e = limit_right xs ys (or_none_right (op_limit x.op) (insts_limit (xs ++ ys)) e)

block_limit : (blocks : List Block) (b : ℕ) → insts_limit (instructions blocks) ≡ None → insts_limit (insts_of (slice_get blocks b)) ≡ None
block_limit [] b e = refl
block_limit (x ∷ xs) zero e = limit_left x.insts (instructions xs) e
block_limit (x ∷ xs) (suc b) e = block_limit xs b (limit_right x.insts (instructions xs) e)

inst_limit : (insts : List Inst) (i : ℕ) (inst : Inst) → insts_limit insts ≡ None → slice_get insts i ≡ Some inst → op_limit inst.op ≡ None
inst_limit [] i inst e at = absurd (let bad : ⊥ = cc in bad)
inst_limit (x ∷ xs) zero inst e at = let same : x ≡ inst = cc in subst (λ (y : Inst). op_limit y.op ≡ None) same (or_none_left (op_limit x.op) (insts_limit xs) e)
inst_limit (x ∷ xs) (suc i) inst e at = inst_limit xs i inst (or_none_right (op_limit x.op) (insts_limit xs) e) at

function_none : (functions : List Function) (i : ℕ) (f : Function) → functions_limit functions ≡ None → slice_get functions i ≡ Some f → function_limit f ≡ None
function_none [] i f e at = absurd (let bad : ⊥ = cc in bad)
function_none (x ∷ xs) zero f e at = let same : x ≡ f = cc in subst (λ (y : Function). function_limit y ≡ None) same (or_none_left (function_limit x) (functions_limit xs) e)
function_none (x ∷ xs) (suc i) f e at = function_none xs i f (or_none_right (function_limit x) (functions_limit xs) e) at

block_within : (blocks : List Block) (b : ℕ) → length (insts_of (slice_get blocks b)) ≤ length (instructions blocks)
block_within [] b = omega arith
block_within (x ∷ xs) zero = let both = length-append x.insts (instructions xs) in omega (arith, both)
block_within (x ∷ xs) (suc b) =
    let both = length-append x.insts (instructions xs) in let within : length (insts_of (slice_get xs b)) ≤ length (instructions xs) = block_within xs b in omega (arith, both, within)

-- ---- operands

wider : (w v : ℕ) (value : Value) → w ≤ v → FitsWidth w value → FitsWidth v value
wider w v None le h = tt
wider w v (Some n) le h = let more = pow_mono {i = w} {j = v} le in omega (arith, h, more)

length_width : (w : ℕ) → IsLength w → w ≤ 64
length_width w (inl e) = omega (arith, e)
length_width w (inr e) = omega (arith, e)

are_three : (w v : ℕ) (given : List Value) → v ≤ 64 → AreArgs (64 ∷ w ∷ v ∷ 1 ∷ []) given → AreThree w given
are_three w v [] le h = absurd h
are_three w v (a ∷ []) le h = absurd h.1
are_three w v (a ∷ b ∷ []) le h = absurd h.1.1
are_three w v (a ∷ b ∷ c ∷ more) le h = (h.0, h.1.0, wider v 64 c le h.1.1.0)

are_two : (ty : Ty) (v : ℕ) (given : List Value) → IsInteger ty → v ≤ width ty → AreArgs (width ty ∷ v ∷ []) given → AreTwo ty given
are_two ty v [] i le h = absurd h
are_two ty v (a ∷ []) i le h = absurd h.1
are_two ty v (a ∷ b ∷ []) i le h = (i, h.0, wider v (width ty) b le h.1.0)
are_two ty v (a ∷ b ∷ c ∷ more) i le h = absurd h.1.1

some_width : (ty : Ty) → IsInteger ty → 1 ≤ width ty
some_width Void h = absurd h
some_width (Int w) h = h.0
some_width Ptr h = absurd h

module _ (program : Program) (function : Function) (values : List Value) (fit : ValuesFit (types function) values) where
  op : (ty : Ty) (o : Operand) → IsOperand (types function) ty o → FitsWidth (width ty) (operand program values o)
  op ty o is = operand-fits program (types function) values ty o fit is

  indices_fit : (indices : List (Ty × Operand)) → AreIndices (types function) indices → IndicesFit program values indices
  indices_fit [] h = tt
  indices_fit (i ∷ is) h = (h.0, op i.0 i.1 h.1, indices_fit is h.2)

  given_fit : (arguments : List (Ty × Operand)) (tys : List Ty) → types_of_arguments arguments ≡ tys → AreArguments (types function) arguments → AreArgs (map width tys) (arguments_of program values arguments)
  given_fit arguments tys e are = subst (λ (ts : List Ty). AreArgs (map width ts) (arguments_of program values arguments)) e (arguments-fit program (types function) values arguments fit are)

  built_in_fits : (which : BuiltIn) (ty : Ty) (arguments : List (Ty × Operand)) → IsBuiltIn which (types_of_arguments arguments) ty → AreArguments (types function) arguments
      → BuiltInFits which ty (arguments_of program values arguments)
  built_in_fits MemCpy ty arguments is are = are_three 64 is.0 _ (length_width is.0 is.1) (given_fit arguments _ is.2 are)
  built_in_fits MemMove ty arguments is are = are_three 64 is.0 _ (length_width is.0 is.1) (given_fit arguments _ is.2 are)
  built_in_fits MemSet ty arguments is are = are_three 8 is.0 _ (length_width is.0 is.1) (given_fit arguments _ is.2 are)
  built_in_fits SMax ty arguments is are = are_two ty (width ty) _ is.1 (omega arith) (given_fit arguments _ is.0 are)
  built_in_fits SMin ty arguments is are = are_two ty (width ty) _ is.1 (omega arith) (given_fit arguments _ is.0 are)
  built_in_fits UMax ty arguments is are = are_two ty (width ty) _ is.1 (omega arith) (given_fit arguments _ is.0 are)
  built_in_fits UMin ty arguments is are = are_two ty (width ty) _ is.1 (omega arith) (given_fit arguments _ is.0 are)
  built_in_fits Abs ty arguments is are = are_two ty 1 _ is.1 (some_width ty is.1) (given_fit arguments _ is.0 are)

  op_fits : (ty : Ty) (o : Op) → op_limit o ≡ None → IsOp program function ty o → OpFits program values ty o
  op_fits ty (Binary op' flags a b) e is = (is.0, op ty a is.1, op ty b is.2)
  op_fits ty (Icmp pred flags of a b) e is = (is.1, op of a is.2, op of b is.3)
  op_fits ty (Cast op' flags from a) e is = (is.0, op from a is.1)
  op_fits ty (Select condition a b) e is = tt
  op_fits ty (Freeze a) e is = tt
  op_fits ty (Phi pairs) e is = tt
  op_fits ty (Alloca of count) e is = type_within of e
  op_fits ty (Load address) e is = op Ptr address is.1
  op_fits ty (Store of a address) e is = op Ptr address is.3
  op_fits ty (Gep of base indices) e is = (type_within of e, op Ptr base is.1, indices_fit indices is.2)
  op_fits ty (Call callee arguments) e is = tt
  op_fits ty (CallBuiltIn which arguments) e is = built_in_fits which ty arguments is.0 is.1
  op_fits ty (Ret a) e is = tt
  op_fits ty (Br to) e is = tt
  op_fits ty (CondBr condition a b) e is = tt
  op_fits ty (Switch of a otherwise cases) e is = tt
  op_fits ty Unreachable e is = tt

-- ---- a checked program

bounded_by : (function : Function) → length (instructions function.blocks) ≤ 16384 → value_count function ≤ 16392 → IsBounded function
bounded_by function few small = record {
  frame' = omega (arith, small);
  insts = λ block. let within = block_within function.blocks block in omega (arith, within, few);
}

pub usable : (program : Program) → IsChecked program → IsUsable program
usable program is =
    let formed = well_formed program is in
    let typed = checked-typed program is in
    let room = is.room in
    record {
      room = omega (arith, room.1);
      bounded = λ symbol function there. let small = (formed.2 symbol function there).small in bounded_by function small.1 small.2;
      fits = λ symbol function there values fit block place inst at.
          let none = function_none program.module_.functions symbol function (functions_pass program.module_ formed.0) there in
          let insts : insts_limit (instructions function.blocks) ≡ None = or_none_right _ _ (or_none_right _ _ none) in
          op_fits program function values fit inst.gives inst.op
          (inst_limit (insts_at function block) place inst (block_limit function.blocks block insts) at)
          ((typed.typed symbol function there).insts block place inst at);
    }

-- ---- addresses

front_at : (xs : List ℕ) (x i : ℕ) → i < length xs → slice_index (xs ++ x ∷ []) i ≡ slice_index_or xs i 0
front_at [] x i h = absurd (omega arith)
front_at (y ∷ ys) x zero h = refl
front_at (y ∷ ys) x (suc i) h = front_at ys x i (omega arith)

last_at : (xs : List ℕ) (x i : ℕ) → i ≡ length xs → slice_index (xs ++ x ∷ []) i ≡ x
last_at [] x zero e = refl
last_at [] x (suc i) e = absurd (omega (arith, e))
last_at (y ∷ ys) x zero e = absurd (omega (arith, e))
last_at (y ∷ ys) x (suc i) e = last_at ys x i (omega (arith, e))

whole_take : (globals : List Global) → take (length globals) globals ≡ globals
whole_take [] = refl
whole_take (g ∷ gs) = ap (λ (x : List Global). g ∷ x) (whole_take gs)

pub are_places : (globals : List Global) (places all : List ℕ) (top : ℕ) → places ≡ places_from data_start globals → top ≡ data_start + taken globals → all ≡ places ++ top ∷ [] → ArePlaces globals all
are_places globals places all top is at whole =
    let long : length places ≡ length globals = ap length is ∙ places_long globals data_start in
    let more : length all ≡ length places + 1 = ap length whole ∙ length-append places (top ∷ []) in
    record {
      long = omega (arith, long, more);
      each = λ i le. by_place i (last_or i (length globals) le);
    }
  where
    last_or : (i n : ℕ) → i ≤ n → (i < n) ⊎ (i ≡ n)
    last_or i n le = grind (arith, le)

    by_place : (i : ℕ) → (i < length globals) ⊎ (i ≡ length globals) → slice_index all i ≡ address_of globals i
    by_place i (inl below) =
        let long : length places ≡ length globals = ap length is ∙ places_long globals data_start in
        ap (λ (xs : List ℕ). slice_index xs i) whole ∙ front_at places top i (omega (arith, below, long))
        ∙ ap (λ (xs : List ℕ). slice_index_or xs i 0) is ∙ place_at globals data_start i below
    by_place i (inr end) =
        let long : length places ≡ length globals = ap length is ∙ places_long globals data_start in
        ap (λ (xs : List ℕ). slice_index xs i) whole ∙ last_at places top i (end ∙ sym long) ∙ at
        ∙ ap (λ (gs : List Global). data_start + sum_by span gs) (sym (whole_take globals))
        ∙ ap (λ (n : ℕ). data_start + sum_by span (take n globals)) (sym end)
