-- The module of many calls, and the list of its calls.
use Rattle.std.specs.Prelude.{ℕ, zero, suc, ◌+◌, ◌%◌, false, List, [], ◌∷◌, ◌++◌, Some, codes, decimal}
use Rattle.ir_core.specs.declared.types.Ty.{Ty}
use Rattle.ir_core.specs.declared.types.Ty.TheVariants.{Void, Int}
use Rattle.ir_core.specs.declared.code.Operand.{Operand}
use Rattle.ir_core.specs.declared.code.Operand.TheVariants.{Value}
use Rattle.ir_core.specs.declared.code.Flags.{Flags}
use Rattle.ir_core.specs.declared.code.BinOp.TheVariants.{Add}
use Rattle.ir_core.specs.declared.code.Op.TheVariants.{Binary, Call, Ret}
use Rattle.ir_core.specs.declared.code.Inst.{Inst}
use Rattle.ir_core.specs.declared.program.Function.{Function}
use Rattle.ir_core.specs.declared.program.Module.{Module}
use Rattle.ir_meaning.specs.declared.calls.ListedCall.{ListedCall}

abbrev pub word : Ty
word = Int 64

abbrev pub no_flags : Flags
no_flags = record { nuw = false; nsw = false; exact = false; disjoint = false; nneg = false; samesign = false }

-- the parameter
abbrev pub given : Operand
given = Value 0

-- the function of this number calls the one before it and adds the parameter to what that one returns; the first returns the parameter
abbrev pub insts_of : ℕ → List Inst
insts_of zero = record { gives = Void; op = Ret (Some given) } ∷ []
insts_of (suc before) =
    record { gives = word; op = Call before ((word, given) ∷ []) } ∷ record { gives = word; op = Binary Add no_flags (Value 1) given }
    ∷ record { gives = Void; op = Ret (Some (Value 2)) } ∷ []

abbrev pub name_of : ℕ → List ℕ
name_of j = codes "f" ++ decimal j

-- `i64 @fj(i64)`, of one block
abbrev pub function_of : ℕ → Function
function_of j = record { name = name_of j; params = word ∷ []; ret = word; blocks = record { insts = insts_of j } ∷ [] }

-- so many functions, from this number on
abbrev pub functions_from : ℕ → ℕ → List Function
functions_from j zero = []
functions_from j (suc more) = function_of j ∷ functions_from (j + 1) more

-- @f0 to @f63
abbrev pub many_module : Module
many_module = record { globals = []; functions = functions_from 0 64 }

-- call i is of @f(i mod 64), with i and 1,000,000 turns
abbrev pub call_of : ℕ → ListedCall
call_of i = record { symbol = i % 64; args = i ∷ []; turns = 1000000 }

-- so many calls, from call 0 on
abbrev pub calls_before : ℕ → List ListedCall
calls_before zero = []
calls_before (suc i) = calls_before i ++ call_of i ∷ []
