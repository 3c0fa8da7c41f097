-- Printed operations of a fixed number of operands stand where operations are read.
use Rattle.std.proofs.Common.{◌≡◌, ℕ, List, ◌++◌, Option, Some, None, refl, ap}
use Rattle.std.specs.Prelude.{codes}
use Rattle.ir_text.specs.Token.{word, token_at, behind_blanks}
use Rattle.ir_text.specs.Words.{keyword}
use Rattle.ir_core.specs.declared.types.Ty.{Ty}
use Rattle.ir_core.specs.declared.code.BinOp.{BinOp}
use Rattle.ir_core.specs.declared.code.BinOp.TheVariants as binary_operators
use Rattle.ir_core.specs.declared.code.CastOp.{CastOp}
use Rattle.ir_core.specs.declared.code.CastOp.TheVariants as casts
use Rattle.ir_core.specs.declared.code.Operand.{Operand}
use Rattle.ir_core.specs.declared.code.Op.{Op}
use Rattle.ir_core.specs.declared.code.Op.TheVariants as ops
use Rattle.ir_core.specs.declared.program.Module.{Module}
use Rattle.ir_grammar.specs.declared.type_tree.TypeNode.{TypeNode}
use Rattle.ir_instruction_trees.specs.declared.tree.Operation.{Operation}
use Rattle.ir_instruction_trees.specs.declared.tree.Operation.TheVariants as operations
use Rattle.ir_instruction_trees.specs.Instructions.{binary, comparison, cast, selection, freezing, loading, storing, returning, branch, unreachable, valued, effect}
use Rattle.ir_print.specs.Instructions.{binary_word, cast_word, op_text}
use Rattle.ir_print_laws.specs.Instructions.{IsOperationTree, IsPlainReturn, IsPlainOperation, operation_form}
use Rattle.ir_print_laws.proofs.Tokens.{Ends, run_token}
use Rattle.ir_print_laws.proofs.OperationsBack.{binary_back, comparison_back, cast_back, select_back, freeze_back, load_back, store_back, jump_back, fork_back, ret_void_back, ret_back}

-- ---- by the first word

binary_valued : (op : BinOp) (a b c d r : List ℕ) (o : Operation) → binary.Is ((binary_word op ++ a ++ b ++ c ++ d) ++ r) o r → valued.Is ((binary_word op ++ a ++ b ++ c ++ d) ++ r) o r
unfolding valued token_at behind_blanks
binary_valued binary_operators.Add a b c d r o h = h
binary_valued binary_operators.Sub a b c d r o h = h
binary_valued binary_operators.Mul a b c d r o h = h
binary_valued binary_operators.UDiv a b c d r o h = h
binary_valued binary_operators.SDiv a b c d r o h = h
binary_valued binary_operators.URem a b c d r o h = h
binary_valued binary_operators.SRem a b c d r o h = h
binary_valued binary_operators.Shl a b c d r o h = h
binary_valued binary_operators.LShr a b c d r o h = h
binary_valued binary_operators.AShr a b c d r o h = h
binary_valued binary_operators.And a b c d r o h = h
binary_valued binary_operators.Or a b c d r o h = h
binary_valued binary_operators.Xor a b c d r o h = h

cast_valued : (op : CastOp) (a b c d r : List ℕ) (o : Operation) → cast.Is ((cast_word op ++ a ++ b ++ c ++ d) ++ r) o r → valued.Is ((cast_word op ++ a ++ b ++ c ++ d) ++ r) o r
unfolding valued token_at behind_blanks
cast_valued casts.Trunc a b c d r o h = h
cast_valued casts.ZExt a b c d r o h = h
cast_valued casts.SExt a b c d r o h = h
cast_valued casts.PtrToInt a b c d r o h = h
cast_valued casts.IntToPtr a b c d r o h = h
cast_valued casts.Same a b c d r o h = h

comparison_valued : (t r : List ℕ) (o : Operation) → comparison.Is (codes "icmp " ++ t) o r → valued.Is (codes "icmp " ++ t) o r
unfolding valued token_at behind_blanks
comparison_valued t r o h = h

select_valued : (t r : List ℕ) (o : Operation) → selection.Is (codes "select " ++ t) o r → valued.Is (codes "select " ++ t) o r
unfolding valued token_at behind_blanks
select_valued t r o h = h

freeze_valued : (t r : List ℕ) (o : Operation) → freezing.Is (codes "freeze " ++ t) o r → valued.Is (codes "freeze " ++ t) o r
unfolding valued token_at behind_blanks
freeze_valued t r o h = h

load_valued : (t r : List ℕ) (o : Operation) → loading.Is (codes "load " ++ t) o r → valued.Is (codes "load " ++ t) o r
unfolding valued token_at behind_blanks
load_valued t r o h = h

store_effect : (t r : List ℕ) (o : Operation) → storing.Is (codes "store " ++ t) o r → effect.Is (codes "store " ++ t) o r
unfolding effect token_at behind_blanks
store_effect t r o h = h

ret_effect : (t r : List ℕ) (o : Operation) → returning.Is (codes "ret " ++ t) o r → effect.Is (codes "ret " ++ t) o r
unfolding effect token_at behind_blanks
ret_effect t r o h = h

branch_effect : (t r : List ℕ) (o : Operation) → branch.Is (codes "br " ++ t) o r → effect.Is (codes "br " ++ t) o r
unfolding effect token_at behind_blanks
branch_effect t r o h = h

unreachable_token : (r : List ℕ) → Ends r → token_at (codes "unreachable" ++ r) ≡ (word (codes "unreachable"), r)
unfolding token_at behind_blanks
unreachable_token r ends = run_token (codes "unreachable") r refl ends

unreachable_effect : (r : List ℕ) → Ends r → effect.Is (codes "unreachable" ++ r) operations.Unreachable r
unfolding effect unreachable keyword
unreachable_effect r ends = rw (unreachable_token r ends) (tt, r, (refl, refl), (refl, refl))

-- ---- the whole

pub record OperationIsRead (m : Module) (ret gives : Ty) (op : Op) (t r : List ℕ) : Type 0 where
  pub operation : Operation
  pub read : (operation_form op).Is t operation r
  pub tree : IsOperationTree m ret gives op operation

return_back : (m : Module) (ret gives : Ty) (value : Option Operand) (r : List ℕ) → IsPlainReturn ret value → Ends r → OperationIsRead m ret gives (ops.Ret value) (op_text m ret gives (ops.Ret value) ++ r) r
return_back m ret gives None r plain ends = let h = ret_void_back r ends in record { operation = operations.Ret h.0 None; read = ret_effect (codes "void" ++ r) r _ h.1; tree = (h.2.0, ap (λ (ty : List TypeNode). operations.Ret ty None) h.2.1) }
return_back m ret gives (Some value) r plain ends = let h = ret_back m.globals ret value r plain ends in record { operation = _; read = ret_effect _ r _ h.1; tree = (h.0, refl, h.2) }

pub operation_back : (m : Module) (ret gives : Ty) (op : Op) (r : List ℕ) → IsPlainOperation ret op → Ends r → OperationIsRead m ret gives op (op_text m ret gives op ++ r) r
operation_back m ret gives (ops.Binary op flags a b) r plain ends =
    let h = binary_back m.globals gives op flags a b r plain ends in
    record { operation = _; read = binary_valued op _ _ _ _ r _ h.2; tree = (h.0, h.1, refl, h.3, h.4) }
operation_back m ret gives (ops.Icmp predicate flags ty a b) r plain ends =
    let h = comparison_back m.globals ty predicate flags a b r plain ends in
    record { operation = _; read = comparison_valued _ r _ h.2; tree = (h.0, h.1, refl, h.3, h.4) }
operation_back m ret gives (ops.Cast op flags from a) r plain ends =
    let h = cast_back m.globals from gives op flags a r plain ends in
    record { operation = _; read = cast_valued op _ _ _ _ r _ h.2; tree = (h.0, h.1, refl, h.3, h.4) }
operation_back m ret gives (ops.Select condition a b) r plain ends =
    let h = select_back m.globals gives condition a b r ends in
    record { operation = _; read = select_valued _ r _ h.3; tree = (h.0, h.1, h.2, refl, h.4, h.5, h.6) }
operation_back m ret gives (ops.Freeze a) r plain ends =
    let h = freeze_back m.globals gives a r ends in
    record { operation = _; read = freeze_valued _ r _ h.1; tree = (h.0, refl, h.2) }
operation_back m ret gives (ops.Phi incoming) r plain ends = absurd plain
operation_back m ret gives (ops.Alloca ty count) r plain ends = absurd plain
operation_back m ret gives (ops.Load address) r plain ends =
    let h = load_back m.globals gives address r ends in
    record { operation = _; read = load_valued _ r _ h.2; tree = (h.0, h.1, refl, h.3, h.4) }
operation_back m ret gives (ops.Store ty value address) r plain ends =
    let h = store_back m.globals ty value address r ends in
    record { operation = _; read = store_effect _ r _ h.2; tree = (h.0, h.1, refl, h.3, h.4) }
operation_back m ret gives (ops.Gep ty base offsets) r plain ends = absurd plain
operation_back m ret gives (ops.Call callee arguments) r plain ends = absurd plain
operation_back m ret gives (ops.BuiltIn which arguments) r plain ends = absurd plain
operation_back m ret gives (ops.Ret value) r plain ends = return_back m ret gives value r plain ends
operation_back m ret gives (ops.Br block) r plain ends =
    let h = jump_back block r ends in
    record { operation = _; read = branch_effect _ r _ h.1; tree = (h.0, refl, h.2) }
operation_back m ret gives (ops.CondBr condition first second) r plain ends =
    let h = fork_back m.globals condition first second r ends in
    record { operation = _; read = branch_effect _ r _ h.3; tree = (h.0, h.1, h.2, refl, h.4, h.5, h.6) }
operation_back m ret gives (ops.Switch ty value otherwise cases) r plain ends = absurd plain
operation_back m ret gives ops.Unreachable r plain ends = record { operation = _; read = unreachable_effect r ends; tree = refl }
