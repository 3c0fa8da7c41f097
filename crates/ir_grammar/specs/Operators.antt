-- The words of operators, predicates and flags. LangRef, "Binary Operations", "Bitwise Binary Operations", "Conversion Operations", "icmp".
use Rattle.std.specs.Prelude.{ℕ, Bool, true, false, not, ◌&&◌, List, [], ◌∷◌, Option, Some, None, codes, if◌then◌else◌}
use Rattle.std.specs.Str.{bytes_eq}
use Rattle.ir_text.specs.Token.{Token, word}
use Rattle.ir_text.specs.Form.{Form, ◌>>=◌, yield, taken, by_token, repeat}
use Rattle.ir_core.specs.declared.code.Flags.{Flags}
use Rattle.ir_core.specs.declared.code.BinOp.{BinOp}
use Rattle.ir_core.specs.declared.code.BinOp.TheVariants as binary_operators
use Rattle.ir_core.specs.declared.code.Pred.{Pred}
use Rattle.ir_core.specs.declared.code.Pred.TheVariants as predicates
use Rattle.ir_core.specs.declared.code.CastOp.{CastOp}
use Rattle.ir_core.specs.declared.code.CastOp.TheVariants as casts
use Rattle.ir_grammar.specs.declared.operators.FlagList.{FlagList}

abbrev pub no_flags : Flags
no_flags = record { nuw = false; nsw = false; exact = false; disjoint = false; nneg = false; samesign = false }

abbrev pub wrap_flags : Flags
wrap_flags = record { nuw = true; nsw = true; exact = false; disjoint = false; nneg = false; samesign = false }

abbrev pub exact_flag : Flags
exact_flag = record { nuw = false; nsw = false; exact = true; disjoint = false; nneg = false; samesign = false }

abbrev pub disjoint_flag : Flags
disjoint_flag = record { nuw = false; nsw = false; exact = false; disjoint = true; nneg = false; samesign = false }

abbrev pub nneg_flag : Flags
nneg_flag = record { nuw = false; nsw = false; exact = false; disjoint = false; nneg = true; samesign = false }

abbrev pub samesign_flag : Flags
samesign_flag = record { nuw = false; nsw = false; exact = false; disjoint = false; nneg = false; samesign = true }

-- a flag's word, where it is allowed and doesn't stand there yet: the flags with it
abbrev pub with_flag : Flags → Flags → List ℕ → Option Flags
with_flag allowed flags name =
    if allowed.nuw && not flags.nuw && bytes_eq name (codes "nuw") then Some (record flags { nuw = true })
    else if allowed.nsw && not flags.nsw && bytes_eq name (codes "nsw") then Some (record flags { nsw = true })
    else if allowed.exact && not flags.exact && bytes_eq name (codes "exact") then Some (record flags { exact = true })
    else if allowed.disjoint && not flags.disjoint && bytes_eq name (codes "disjoint") then Some (record flags { disjoint = true })
    else if allowed.nneg && not flags.nneg && bytes_eq name (codes "nneg") then Some (record flags { nneg = true })
    else if allowed.samesign && not flags.samesign && bytes_eq name (codes "samesign") then Some (record flags { samesign = true })
    else None

abbrev pub another_flag : FlagList → Option Flags → Bool × FlagList
another_flag before None = (false, before)
another_flag before (Some flags) = (true, record { allowed = before.allowed; flags = flags })

abbrev pub flag_of : FlagList → Token → Option Flags
flag_of before (word name) = with_flag before.allowed before.flags name
flag_of before token = None

abbrev pub is_some : {A : Type 0} → Option A → Bool
is_some None = false
is_some (Some x) = true

abbrev pub flag_turn : FlagList → Form (Bool × FlagList)
flag_turn before =
    by_token (λ token. is_some (flag_of before token))
    (taken (flag_of before) >>= λ flags. yield (true, record { allowed = before.allowed; flags = flags }))
    (yield (false, before))

-- flags in any order
unfoldable pub flags_of : Flags → Form Flags
flags_of allowed = do
  all ← repeat flag_turn (record { allowed = allowed; flags = no_flags })
  yield all.flags

abbrev pub binary_name : List ℕ → Option (BinOp × Flags)
binary_name name =
    if bytes_eq name (codes "add") then Some (binary_operators.Add, wrap_flags)
    else if bytes_eq name (codes "sub") then Some (binary_operators.Sub, wrap_flags)
    else if bytes_eq name (codes "mul") then Some (binary_operators.Mul, wrap_flags)
    else if bytes_eq name (codes "udiv") then Some (binary_operators.UDiv, exact_flag)
    else if bytes_eq name (codes "sdiv") then Some (binary_operators.SDiv, exact_flag)
    else if bytes_eq name (codes "urem") then Some (binary_operators.URem, no_flags)
    else if bytes_eq name (codes "srem") then Some (binary_operators.SRem, no_flags)
    else if bytes_eq name (codes "shl") then Some (binary_operators.Shl, wrap_flags)
    else if bytes_eq name (codes "lshr") then Some (binary_operators.LShr, exact_flag)
    else if bytes_eq name (codes "ashr") then Some (binary_operators.AShr, exact_flag)
    else if bytes_eq name (codes "and") then Some (binary_operators.And, no_flags)
    else if bytes_eq name (codes "or") then Some (binary_operators.Or, disjoint_flag)
    else if bytes_eq name (codes "xor") then Some (binary_operators.Xor, no_flags)
    else None

abbrev pub cast_name : List ℕ → Option (CastOp × Flags)
cast_name name =
    if bytes_eq name (codes "trunc") then Some (casts.Trunc, wrap_flags)
    else if bytes_eq name (codes "zext") then Some (casts.ZExt, nneg_flag)
    else if bytes_eq name (codes "sext") then Some (casts.SExt, no_flags)
    else if bytes_eq name (codes "ptrtoint") then Some (casts.PtrToInt, no_flags)
    else if bytes_eq name (codes "inttoptr") then Some (casts.IntToPtr, no_flags)
    else if bytes_eq name (codes "bitcast") then Some (casts.Same, no_flags)
    else None

abbrev pub predicate_name : List ℕ → Option Pred
predicate_name name =
    if bytes_eq name (codes "eq") then Some predicates.Eq
    else if bytes_eq name (codes "ne") then Some predicates.Ne
    else if bytes_eq name (codes "ugt") then Some predicates.Ugt
    else if bytes_eq name (codes "uge") then Some predicates.Uge
    else if bytes_eq name (codes "ult") then Some predicates.Ult
    else if bytes_eq name (codes "ule") then Some predicates.Ule
    else if bytes_eq name (codes "sgt") then Some predicates.Sgt
    else if bytes_eq name (codes "sge") then Some predicates.Sge
    else if bytes_eq name (codes "slt") then Some predicates.Slt
    else if bytes_eq name (codes "sle") then Some predicates.Sle
    else None

abbrev pub binary_of : Token → Option (BinOp × Flags)
binary_of (word name) = binary_name name
binary_of token = None

abbrev pub cast_of : Token → Option (CastOp × Flags)
cast_of (word name) = cast_name name
cast_of token = None

abbrev pub predicate_of : Token → Option Pred
predicate_of (word name) = predicate_name name
predicate_of token = None

abbrev pub is_binary : Token → Bool
is_binary token = is_some (binary_of token)

abbrev pub is_cast : Token → Bool
is_cast token = is_some (cast_of token)
