-- Each function of a checked module is fit to be translated.
use Rattle.std.proofs.Common.{◌≡◌, refl, sym, ap, subst, ◌∙◌, ℕ, zero, suc, ◌+◌, ◌≤◌, List, [], ◌∷◌, ◌++◌, length, Some, None, true, arith}
use Rattle.std.specs.Prelude.{slice_get, sum_by}
use Rattle.std.proofs.lemmas.List.{length-map, length-append}
use Rattle.std.proofs.lemmas.List.Sums.{sum_by-append, sum_by-cons}
use Rattle.ir_core.specs.declared.types.Ty.{Ty}
use Rattle.ir_core.specs.declared.types.Ty.TheVariants.{Int, Ptr}
use Rattle.ir_core.specs.declared.code.Operand.{Operand}
use Rattle.ir_core.specs.declared.code.Operand.TheVariants.{Value as Local, Num, Null, Place, Poison}
use Rattle.ir_core.specs.declared.code.BuiltIn.{BuiltIn}
use Rattle.ir_core.specs.declared.code.BuiltIn.TheVariants.{MemCpy, MemMove, MemSet, SMax, SMin, UMax, UMin, Abs}
use Rattle.ir_core.specs.declared.code.Op.{Op}
use Rattle.ir_core.specs.declared.code.Op.TheVariants.{Binary, Icmp, Cast, Select, Freeze, Phi, Alloca, Load, Store, Gep, Call, BuiltIn as CallBuiltIn, Ret, Br, CondBr, Switch, Unreachable}
use Rattle.ir_core.specs.declared.code.Inst.{Inst}
use Rattle.ir_core.specs.declared.code.Block.{Block}
use Rattle.ir_core.specs.declared.program.Function.{Function}
use Rattle.ir_core.specs.declared.program.Module.{Module}
use Rattle.ir_core.specs.declared.program.What.TheVariants.{Nodes, Units}
use Rattle.ir_core.specs.Units.{units, parts_in, instructions, types_of_arguments}
use Rattle.ir_flow.specs.Limits.{op_limit, above, nodes, insts_limit, function_limit, functions_limit, globals_limit}
use Rattle.ir_meaning.specs.Step.{Program, function_at, insts_at, insts_of, phis, moves_bytes}
use Rattle.ir_meaning.specs.Typed.{types, IsTyped, IsOp, IsBuiltIn, IsOperand, AreIndices, AreCases}
use Rattle.ir_verify.specs.Small.{IsSmall, HasFewBlocks}
use Rattle.ir_verify.specs.Verdict.{refusal}
use Rattle.ir_verify.proofs.Lists.{every_at, or_none_left, or_none_right}
use Rattle.ir_verify.proofs.Usable.{within}
use Rattle.ir_verify.proofs.Rows.{no_limit, small, few_blocks}
use Rattle.ir_data.proofs.Sizes.{type_within}
use Rattle.ir_translator_emit.specs.Sums.{InWidth, AreRead}
use Rattle.ir_translator_emit.specs.Forms.{IsTaken, AreLed, IsLed}
use Rattle.ir_translator.specs.Fit.{AreFit, AreFitBlocks, weight, weight_of, IsFit}

-- ---- limits

limit_left : (xs ys : List Inst) → insts_limit (xs ++ ys) ≡ None → insts_limit xs ≡ None
limit_left [] ys e = refl
limit_left (x ∷ xs) ys e =
    let a = or_none_left (op_limit x.op) (insts_limit (xs ++ ys)) e in
    let b = limit_left xs ys (or_none_right (op_limit x.op) (insts_limit (xs ++ ys)) e) in
    rw (a, b) refl

limit_right : (xs ys : List Inst) → insts_limit (xs ++ ys) ≡ None → insts_limit ys ≡ None
limit_right [] ys e = e
limit_right (x ∷ xs) ys e = limit_right xs ys (or_none_right (op_limit x.op) (insts_limit (xs ++ ys)) e)

block_limit : (blocks : List Block) (b : ℕ) → insts_limit (instructions blocks) ≡ None → insts_limit (insts_of (slice_get blocks b)) ≡ None
block_limit [] b e = refl
block_limit (x ∷ xs) zero e = limit_left x.insts (instructions xs) e
block_limit (x ∷ xs) (suc b) e = block_limit xs b (limit_right x.insts (instructions xs) e)

inst_limit : (insts : List Inst) (i : ℕ) (inst : Inst) → insts_limit insts ≡ None → slice_get insts i ≡ Some inst → op_limit inst.op ≡ None
inst_limit [] i inst e at = absurd (let bad : ⊥ = cc in bad)
inst_limit (x ∷ xs) zero inst e at = let same : x ≡ inst = cc in subst (λ (y : Inst). op_limit y.op ≡ None) same (or_none_left (op_limit x.op) (insts_limit xs) e)
inst_limit (x ∷ xs) (suc i) inst e at = inst_limit xs i inst (or_none_right (op_limit x.op) (insts_limit xs) e) at

function_none : (functions : List Function) (i : ℕ) (f : Function) → functions_limit functions ≡ None → slice_get functions i ≡ Some f → function_limit f ≡ None
function_none [] i f e at = absurd (let bad : ⊥ = cc in bad)
function_none (x ∷ xs) zero f e at = let same : x ≡ f = cc in subst (λ (y : Function). function_limit y ≡ None) same (or_none_left (function_limit x) (functions_limit xs) e)
function_none (x ∷ xs) (suc i) f e at = function_none xs i f (or_none_right (function_limit x) (functions_limit xs) e) at

-- the limits of a function keep
function-limits : (module_ : Module) (symbol : ℕ) (function : Function) → refusal module_ ≡ None → slice_get module_.functions symbol ≡ Some function → function_limit function ≡ None
function-limits module_ symbol function rows there =
    let none = no_limit module_ rows in
    let a = or_none_right _ _ none in
    let b = or_none_right _ _ a in
    let c = or_none_right (globals_limit module_.globals) (functions_limit module_.functions) b in
    function_none module_.functions symbol function c there

-- ---- instructions

module _ (program : Program) (function : Function) where
  abbrev many : ℕ
  many = length function.blocks

  read-is : (ty : Ty) (o : Operand) → IsOperand (types function) ty o → InWidth ty o
  read-is ty (Local number) h = tt
  read-is ty (Num n) h = h
  read-is ty Null h = tt
  read-is ty (Place global offset) h = tt
  read-is ty Poison h = tt

  reads-are : (indices : List (Ty × Operand)) → AreIndices (types function) indices → AreRead indices
  reads-are [] h = tt
  reads-are (index ∷ indices) h = ((h.0, read-is index.0 index.1 h.1), reads-are indices h.2)

  led-are : (ty : Ty) (cases : List (ℕ × ℕ)) → AreCases many ty cases → AreLed many cases
  led-are ty [] h = tt
  led-are ty (one ∷ cases) h = (h.1, led-are ty cases h.2)

  counted : (arguments : List (Ty × Operand)) (given : List Ty) → types_of_arguments arguments ≡ given → length arguments ≡ length given
  counted arguments given e = sym (length-map arguments (λ (argument : Ty × Operand). argument.0)) ∙ ap length e

  arguments-are : (which : BuiltIn) (arguments : List (Ty × Operand)) (gives : Ty) → IsBuiltIn which (types_of_arguments arguments) gives → (2 ≤ length arguments) × (moves_bytes which ≡ true → 3 ≤ length arguments)
  arguments-are MemCpy arguments gives is = let n = counted arguments (Ptr ∷ Ptr ∷ Int is.0 ∷ Int 1 ∷ []) is.2 in (omega (arith, n), λ e. omega (arith, n))
  arguments-are MemMove arguments gives is = let n = counted arguments (Ptr ∷ Ptr ∷ Int is.0 ∷ Int 1 ∷ []) is.2 in (omega (arith, n), λ e. omega (arith, n))
  arguments-are MemSet arguments gives is = let n = counted arguments (Ptr ∷ Int 8 ∷ Int is.0 ∷ Int 1 ∷ []) is.2 in (omega (arith, n), λ e. omega (arith, n))
  arguments-are SMax arguments gives is = let n = counted arguments (gives ∷ gives ∷ []) is.0 in (omega (arith, n), λ (e : moves_bytes SMax ≡ true). absurd (let bad : ⊥ = cc in bad))
  arguments-are SMin arguments gives is = let n = counted arguments (gives ∷ gives ∷ []) is.0 in (omega (arith, n), λ (e : moves_bytes SMin ≡ true). absurd (let bad : ⊥ = cc in bad))
  arguments-are UMax arguments gives is = let n = counted arguments (gives ∷ gives ∷ []) is.0 in (omega (arith, n), λ (e : moves_bytes UMax ≡ true). absurd (let bad : ⊥ = cc in bad))
  arguments-are UMin arguments gives is = let n = counted arguments (gives ∷ gives ∷ []) is.0 in (omega (arith, n), λ (e : moves_bytes UMin ≡ true). absurd (let bad : ⊥ = cc in bad))
  arguments-are Abs arguments gives is = let n = counted arguments (gives ∷ Int 1 ∷ []) is.0 in (omega (arith, n), λ (e : moves_bytes Abs ≡ true). absurd (let bad : ⊥ = cc in bad))

  taken-is : (gives : Ty) (op : Op) → IsOp program function gives op → op_limit op ≡ None → IsTaken op
  taken-is gives (Alloca of count) h limit = type_within of limit
  taken-is gives (Gep of base indices) h limit = (reads-are indices h.2, type_within of limit, within Nodes 4096 (nodes of) (or_none_left (above Nodes 4096 (nodes of)) _ limit))
  taken-is gives (CallBuiltIn which arguments) h limit = arguments-are which arguments gives h.0
  taken-is gives (Binary op flags a b) h limit = tt
  taken-is gives (Icmp pred flags of a b) h limit = tt
  taken-is gives (Cast op flags from a) h limit = tt
  taken-is gives (Select condition a b) h limit = tt
  taken-is gives (Freeze a) h limit = tt
  taken-is gives (Phi pairs) h limit = tt
  taken-is gives (Load address) h limit = tt
  taken-is gives (Store of a address) h limit = tt
  taken-is gives (Call callee arguments) h limit = tt
  taken-is gives (Ret a) h limit = tt
  taken-is gives (Br to) h limit = tt
  taken-is gives (CondBr condition if_true if_false) h limit = tt
  taken-is gives (Switch of a otherwise cases) h limit = tt
  taken-is gives Unreachable h limit = tt

  led-is : (gives : Ty) (op : Op) → IsOp program function gives op → IsLed many op
  led-is gives (Br to) h = h.1
  led-is gives (CondBr condition if_true if_false) h = (h.2, h.3)
  led-is gives (Switch of a otherwise cases) h = (h.3, led-are of cases h.4)
  led-is gives (Alloca of count) h = tt
  led-is gives (Gep of base indices) h = tt
  led-is gives (CallBuiltIn which arguments) h = tt
  led-is gives (Binary op flags a b) h = tt
  led-is gives (Icmp pred flags of a b) h = tt
  led-is gives (Cast op flags from a) h = tt
  led-is gives (Select condition a b) h = tt
  led-is gives (Freeze a) h = tt
  led-is gives (Phi pairs) h = tt
  led-is gives (Load address) h = tt
  led-is gives (Store of a address) h = tt
  led-is gives (Call callee arguments) h = tt
  led-is gives (Ret a) h = tt
  led-is gives Unreachable h = tt

-- ---- blocks

fit-insts : (many : ℕ) (insts : List Inst) → ((place : ℕ) (inst : Inst) → slice_get insts place ≡ Some inst → IsTaken inst.op × IsLed many inst.op) → AreFit many insts
fit-insts blocks [] h = tt
fit-insts blocks (inst ∷ insts) h = ((h 0 inst refl).0, (h 0 inst refl).1, fit-insts blocks insts (λ place i e. h (suc place) i e))

fit-blocks : (many : ℕ) (blocks : List Block) → ((block place : ℕ) (inst : Inst) → slice_get (insts_of (slice_get blocks block)) place ≡ Some inst → IsTaken inst.op × IsLed many inst.op) → AreFitBlocks many blocks
fit-blocks all [] h = tt
fit-blocks all (block ∷ blocks) h = (fit-insts all block.insts (λ place i e. h 0 place i e), fit-blocks all blocks (λ b place i e. h (suc b) place i e))

-- ---- how large a function is

unit-weighs : (inst : Inst) → 1 + parts_in inst.op ≤ units inst
unit-weighs inst = omega arith

insts-weigh : (insts : List Inst) → weight insts ≤ sum_by units insts
insts-weigh [] = omega arith
insts-weigh (inst ∷ insts) = let one = unit-weighs inst in let rest = insts-weigh insts in let sum = sum_by-cons units inst insts in omega (arith, one, rest, sum)

blocks-weigh : (blocks : List Block) → weight_of blocks ≤ sum_by units (instructions blocks)
blocks-weigh [] = omega arith
blocks-weigh (block ∷ blocks) =
    let one = insts-weigh block.insts in
    let rest = blocks-weigh blocks in
    let sum = sum_by-append units block.insts (instructions blocks) in
    omega (arith, one, rest, sum)

phis-within : (insts : List Inst) → length (phis insts) ≤ length insts
phis-within [] = omega arith
phis-within (inst ∷ insts) = by inst.op (phis-within insts)
  where
    by : (op : Op) → length (phis insts) ≤ length insts → length (phis (record inst { op = op } ∷ insts)) ≤ length (inst ∷ insts)
    by (Phi pairs) h = omega (arith, h)
    by _ h = omega arith

block-within : (blocks : List Block) (block : ℕ) → length (insts_of (slice_get blocks block)) ≤ length (instructions blocks)
block-within [] block = omega arith
block-within (first ∷ blocks) zero = let both = length-append first.insts (instructions blocks) in omega (arith, both)
block-within (first ∷ blocks) (suc block) = let both = length-append first.insts (instructions blocks) in let rest = block-within blocks block in omega (arith, both, rest)

-- ---- functions

pub fit-at : (program : Program) (symbol : ℕ) (function : Function) → refusal program.module_ ≡ None → IsTyped program → function_at program symbol ≡ Some function → IsFit function
fit-at program symbol function rows all there =
    let one = all.typed symbol function there in
    let keeps = or_none_right _ _ (function-limits program.module_ symbol function rows there) in
    let few = every_at IsSmall program.module_.functions symbol function (small program.module_ rows) there in
    let most = within Units 16384 (sum_by units (instructions function.blocks)) (or_none_left (above Units 16384 (sum_by units (instructions function.blocks))) _ keeps) in
    let limited : (block place : ℕ) (inst : Inst) → slice_get (insts_at function block) place ≡ Some inst → op_limit inst.op ≡ None =
    λ block place inst at. inst_limit (insts_at function block) place inst (block_limit function.blocks block (or_none_right _ (insts_limit (instructions function.blocks)) keeps)) at in
    record {
      fit = fit-blocks (length function.blocks) function.blocks
          (λ block place inst at. (taken-is program function inst.gives inst.op (one.insts block place inst at) (limited block place inst at), led-is program function inst.gives inst.op (one.insts block place inst at)));
      phis = λ block. let a = phis-within (insts_at function block) in let b = block-within function.blocks block in let c = few.1 in omega (arith, a, b, c);
      few = let w = blocks-weigh function.blocks in omega (arith, w, most);
      params = few.0;
      blocks = (every_at HasFewBlocks program.module_.functions symbol function (few_blocks program.module_ rows) there).1;
    }
