-- Printed operations with lists stand where operations are read.
use Rattle.std.proofs.Common.{◌≡◌, ℕ, List, [], ◌∷◌, ◌++◌, false, refl}
use Rattle.std.specs.Prelude.{codes}
use Rattle.ir_text.specs.Token.{token_at, behind_blanks}
use Rattle.ir_text.specs.Words.{is_mark}
use Rattle.ir_core.specs.declared.types.Ty.{Ty}
use Rattle.ir_core.specs.declared.code.Operand.{Operand}
use Rattle.ir_core.specs.declared.code.Op.{Op}
use Rattle.ir_core.specs.declared.code.Op.TheVariants as ops
use Rattle.ir_core.specs.declared.program.Module.{Module}
use Rattle.ir_instruction_trees.specs.declared.tree.Operation.{Operation}
use Rattle.ir_instruction_trees.specs.Instructions.{choice, allocation, switching, valued, effect}
use Rattle.ir_print.specs.Instructions.{op_text}
use Rattle.ir_print_laws.specs.Instructions.{HasIncoming, IsLongOperation}
use Rattle.ir_print_laws.proofs.Tokens.{Ends}
use Rattle.ir_print_laws.proofs.ListsBack.{phi_back}
use Rattle.ir_print_laws.proofs.AllocaBack.{alloca_back}
use Rattle.ir_print_laws.proofs.SwitchBack.{switch_back}
use Rattle.ir_print_laws.proofs.OperationsWhole.{OperationIsRead}

phi_valued : (t r : List ℕ) (o : Operation) → choice.Is (codes "phi " ++ t) o r → valued.Is (codes "phi " ++ t) o r
unfolding valued token_at behind_blanks
phi_valued t r o h = h

alloca_valued : (t r : List ℕ) (o : Operation) → allocation.Is (codes "alloca " ++ t) o r → valued.Is (codes "alloca " ++ t) o r
unfolding valued token_at behind_blanks
alloca_valued t r o h = h

switch_effect : (t r : List ℕ) (o : Operation) → switching.Is (codes "switch " ++ t) o r → effect.Is (codes "switch " ++ t) o r
unfolding effect token_at behind_blanks
switch_effect t r o h = h

phi_read : (m : Module) (ret gives : Ty) (incoming : List (Operand × ℕ)) (r : List ℕ) → HasIncoming incoming → Ends r → is_mark 44 (token_at r).0 ≡ false → OperationIsRead m ret gives (ops.Phi incoming) (op_text m ret gives (ops.Phi incoming) ++ r) r
phi_read m ret gives [] r has ends no_comma = absurd has
phi_read m ret gives (one ∷ others) r has ends no_comma =
    let h = phi_back m.globals gives one others r ends no_comma has in
    record { operation = _; read = phi_valued _ r _ h.2; tree = (h.0, h.1, refl, h.3, h.4) }

pub long_back : (m : Module) (ret gives : Ty) (op : Op) (r : List ℕ) → IsLongOperation op → Ends r → is_mark 44 (token_at r).0 ≡ false → OperationIsRead m ret gives op (op_text m ret gives op ++ r) r
long_back m ret gives (ops.Phi incoming) r long ends no_comma = phi_read m ret gives incoming r long ends no_comma
long_back m ret gives (ops.Alloca ty count) r long ends no_comma =
    let h = alloca_back ty count r long ends no_comma in
    record { operation = _; read = alloca_valued _ r _ h.3; tree = (h.0, h.1, h.2, refl, h.4, h.5) }
long_back m ret gives (ops.Switch ty value otherwise cases) r long ends no_comma =
    let h = switch_back m.globals ty value otherwise cases r long in
    record { operation = _; read = switch_effect _ r _ h.3; tree = (h.0, h.1, h.2, refl, h.4, h.5, h.6) }
long_back m ret gives (ops.Binary op flags a b) r long ends no_comma = absurd long
long_back m ret gives (ops.Icmp predicate flags ty a b) r long ends no_comma = absurd long
long_back m ret gives (ops.Cast op flags from a) r long ends no_comma = absurd long
long_back m ret gives (ops.Select condition a b) r long ends no_comma = absurd long
long_back m ret gives (ops.Freeze a) r long ends no_comma = absurd long
long_back m ret gives (ops.Load address) r long ends no_comma = absurd long
long_back m ret gives (ops.Store ty value address) r long ends no_comma = absurd long
long_back m ret gives (ops.Gep ty base offsets) r long ends no_comma = absurd long
long_back m ret gives (ops.Call callee arguments) r long ends no_comma = absurd long
long_back m ret gives (ops.BuiltIn which arguments) r long ends no_comma = absurd long
long_back m ret gives (ops.Ret value) r long ends no_comma = absurd long
long_back m ret gives (ops.Br block) r long ends no_comma = absurd long
long_back m ret gives (ops.CondBr condition first second) r long ends no_comma = absurd long
long_back m ret gives ops.Unreachable r long ends no_comma = absurd long
