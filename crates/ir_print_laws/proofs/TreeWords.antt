-- What the words of operators and flags say in a text of bytes.
use Rattle.std.proofs.Common.{◌≡◌, ℕ, suc, ◌+◌, ◌≤◌, Bool, true, false, List, [], ◌∷◌, ◌++◌, length, Option, Some, None, refl, sym, ◌∙◌, ap, subst, arith}
use Rattle.std.specs.Prelude.{◌&&◌, not, nat_eq, MatchBool, codes, if◌then◌else◌}
use Rattle.std.specs.List.{list_all}
use Rattle.std.specs.Str.{bytes_eq}
use Rattle.std.specs.Char.{is_ascii_digit}
use Rattle.std.proofs.lemmas.Option.{none-some}
use Rattle.ir_text.specs.declared.name.Name.{Name}
use Rattle.ir_text.specs.Token.{Token, word, local, global, label, number, string, bytes, mark, end, token_at, behind_one}
use Rattle.ir_text.specs.Form.{Form, ◌>>=◌, yield, taken, turns, most_turns, repeat, place}
use Rattle.ir_text.specs.Words.{is_mark, punctuation, global_of, global_name}
use Rattle.ir_core.specs.declared.code.Flags.{Flags}
use Rattle.ir_core.specs.declared.code.BinOp.{BinOp}
use Rattle.ir_core.specs.declared.code.CastOp.{CastOp}
use Rattle.ir_grammar.specs.declared.type_tree.TypeNode.{TypeNode}
use Rattle.ir_grammar.specs.declared.type_tree.TypeNode.TheVariants as nodes
use Rattle.ir_grammar.specs.declared.operators.FlagList.{FlagList}
use Rattle.ir_grammar.specs.declared.types.OpenType.{OpenType}
use Rattle.ir_core.specs.declared.code.BinOp.TheVariants as binary_operators
use Rattle.ir_core.specs.declared.code.CastOp.TheVariants as casts
use Rattle.ir_grammar.specs.Operators.{is_some, no_flags, wrap_flags, exact_flag, disjoint_flag, nneg_flag, samesign_flag, with_flag, flag_of, flag_turn, flags_of, binary_name, binary_of, cast_name, cast_of, predicate_of}
use Rattle.ir_grammar.specs.Words.{is_int_name}
use Rattle.ir_grammar.specs.Types.{scalar_of, scalar, is_int, completed, more, type_start, type_turn, type_form}
use Rattle.ir_value_trees.specs.declared.value_tree.Typed.{Typed}
use Rattle.ir_value_trees.specs.declared.value_tree.InitNode.{InitNode}
use Rattle.ir_value_trees.specs.declared.value_tree.InitNode.TheVariants as inits
use Rattle.ir_value_trees.specs.declared.values.OpenInit.{OpenInit}
use Rattle.ir_value_trees.specs.Values.{typed, token_init_of, word_init, token_init, plain_init, whole, list_start, init_start, init_end, init_turn, init_form}
use Rattle.ir_instruction_trees.specs.declared.tree.Incoming.{Incoming}
use Rattle.ir_instruction_trees.specs.declared.tree.Operation.{Operation}
use Rattle.ir_instruction_trees.specs.declared.tree.Operation.TheVariants as operations
use Rattle.ir_instruction_trees.specs.declared.tree.Instruction.{Instruction}
use Rattle.ir_tree.specs.declared.tree.Block.{Block}
use Rattle.ir_tree.specs.declared.tree.Function.{Function}
use Rattle.ir_tree.specs.declared.tree.Global.{Global}
use Rattle.ir_tree.specs.declared.tree.Tree.{Tree}
use Rattle.ir_instruction_trees.specs.declared.instructions.IncomingList.{IncomingList}
use Rattle.ir_instruction_trees.specs.declared.instructions.OffsetList.{OffsetList}
use Rattle.ir_tree.specs.declared.modules.InstructionList.{InstructionList}
use Rattle.ir_tree.specs.declared.modules.BlockList.{BlockList}
use Rattle.ir_instruction_trees.specs.Instructions.{binary, comparison, cast, selection, freezing, incoming_turn, more_incoming, choice, allocation, loading, storing, is_comma_before, offset_turn, offsets, addressing, call_rest, call, valued, returning, branch, switching, unreachable, effect, finished, assignment, instruction}
use Rattle.ir_tree.specs.Modules.{with_instruction, instruction_turn, instructions, block, block_turn, block_list, body, function, global_form, item_turn, module_form, IsTextOf}
use Rattle.ir_print_laws.specs.Operators.{allowed_of, allowed_of_cast, masked}
use Rattle.ir_print_laws.specs.Written.{Each}
use Rattle.ir_print_laws.proofs.ReadTokens.{Bytes, TokenBytes}
use Rattle.ir_print_laws.proofs.Kept.{IsKept, kept-then, kept-yield, kept-place, kept-taken, kept-repeat, Holds, holds-then, holds-behind, holds-yield, holds-taken, holds-by_token, holds-by_two, holds-by_flag, holds-repeat, counted-repeat}
use Rattle.ir_print_laws.proofs.KeptWords.{kept-punctuation, kept-keyword, kept-passed, kept-global_name, kept-local_name, kept-numeral, kept-ending, kept-flag_turn, kept-flags_of, kept-type_form, kept-struct_end, kept-words, kept-attributes, kept-suffixes}
use Rattle.ir_print_laws.proofs.KeptValues.{kept-address, kept-operand, kept-typed, kept-list_end, kept-list_start, kept-plain_init, kept-init_start, kept-init_end, kept-init_turn, kept-init_form}
use Rattle.ir_print_laws.proofs.KeptInstructions.{kept-incoming, kept-incoming_turn, kept-more_incoming, kept-count, kept-offset_turn, kept-offsets, kept-arguments, kept-call_start, kept-label_of_block, kept-cases, kept-valued, kept-effect, kept-finished, kept-instruction}
use Rattle.ir_print_laws.proofs.KeptModules.{kept-debug_record, kept-instruction_turn, kept-instructions, kept-block_label, kept-block, kept-block_turn, kept-block_list, kept-body, kept-parameters, kept-function_attributes, kept-function, kept-global_word, kept-global_form, kept-named_type, kept-source_filename, kept-target, kept-item_turn}

-- ---- lists

pub each_last : {X : Type 0} (Is : X → Type 0) (xs : List X) (x : X) → Each Is xs → Is x → Each Is (xs ++ x ∷ [])
each_last Is [] x all one = (one, tt)
each_last Is (y ∷ ys) x all one = (all.0, each_last Is ys x all.1 one)

pub length_last : {X : Type 0} (xs : List X) (x : X) → length (xs ++ x ∷ []) ≡ length xs + 1
length_last [] x = refl
length_last (y ∷ ys) x = let e = length_last ys x in omega (arith, e)

pub holds-any : {A : Type 0} (f : Form A) (P : A → Type 0) → ((v : A) → P v) → Holds f P
holds-any f P p = record { value = λ text v rest all w. p v }

pub holds-both : {A : Type 0} (f : Form A) (P Q : A → Type 0) → Holds f P → Holds f Q → Holds f (λ v. P v × Q v)
holds-both f P Q p q = record { value = λ text v rest all w. (p.value text v rest all w, q.value text v rest all w) }

-- ---- words of operators

-- the first of a list of choices that is taken
pub pick : {A : Type 0} (P : A → Type 0) (b : Bool) (x : A) (others : Option A) (v : A) → P x → (others ≡ Some v → P v) → (if b then Some x else others) ≡ Some v → P v
pick P true x others v p q e = let same : x ≡ v = cc in subst P same p
pick P false x others v p q e = q e

abbrev pub HasFlags : BinOp × Flags → Type 0
HasFlags x = x.1 ≡ allowed_of x.0

abbrev pub HasCastFlags : CastOp × Flags → Type 0
HasCastFlags x = x.1 ≡ allowed_of_cast x.0

binary_flags : (name : List ℕ) (v : BinOp × Flags) → binary_name name ≡ Some v → HasFlags v
binary_flags name v e =
    pick HasFlags (bytes_eq name (codes "add")) (binary_operators.Add, wrap_flags) _ v refl (λ e.
    pick HasFlags (bytes_eq name (codes "sub")) (binary_operators.Sub, wrap_flags) _ v refl (λ e.
    pick HasFlags (bytes_eq name (codes "mul")) (binary_operators.Mul, wrap_flags) _ v refl (λ e.
    pick HasFlags (bytes_eq name (codes "udiv")) (binary_operators.UDiv, exact_flag) _ v refl (λ e.
    pick HasFlags (bytes_eq name (codes "sdiv")) (binary_operators.SDiv, exact_flag) _ v refl (λ e.
    pick HasFlags (bytes_eq name (codes "urem")) (binary_operators.URem, no_flags) _ v refl (λ e.
    pick HasFlags (bytes_eq name (codes "srem")) (binary_operators.SRem, no_flags) _ v refl (λ e.
    pick HasFlags (bytes_eq name (codes "shl")) (binary_operators.Shl, wrap_flags) _ v refl (λ e.
    pick HasFlags (bytes_eq name (codes "lshr")) (binary_operators.LShr, exact_flag) _ v refl (λ e.
    pick HasFlags (bytes_eq name (codes "ashr")) (binary_operators.AShr, exact_flag) _ v refl (λ e.
    pick HasFlags (bytes_eq name (codes "and")) (binary_operators.And, no_flags) _ v refl (λ e.
    pick HasFlags (bytes_eq name (codes "or")) (binary_operators.Or, disjoint_flag) _ v refl (λ e.
    pick HasFlags (bytes_eq name (codes "xor")) (binary_operators.Xor, no_flags) _ v refl (λ e.
    absurd (none-some v e)) e) e) e) e) e) e) e) e) e) e) e) e) e

cast_flags : (name : List ℕ) (v : CastOp × Flags) → cast_name name ≡ Some v → HasCastFlags v
cast_flags name v e =
    pick HasCastFlags (bytes_eq name (codes "trunc")) (casts.Trunc, wrap_flags) _ v refl (λ e.
    pick HasCastFlags (bytes_eq name (codes "zext")) (casts.ZExt, nneg_flag) _ v refl (λ e.
    pick HasCastFlags (bytes_eq name (codes "sext")) (casts.SExt, no_flags) _ v refl (λ e.
    pick HasCastFlags (bytes_eq name (codes "ptrtoint")) (casts.PtrToInt, no_flags) _ v refl (λ e.
    pick HasCastFlags (bytes_eq name (codes "inttoptr")) (casts.IntToPtr, no_flags) _ v refl (λ e.
    pick HasCastFlags (bytes_eq name (codes "bitcast")) (casts.Same, no_flags) _ v refl (λ e.
    absurd (none-some v e)) e) e) e) e) e) e

pub binary_token : (token : Token) (v : BinOp × Flags) → TokenBytes token → binary_of token ≡ Some v → HasFlags v
binary_token (word name) v all e = binary_flags name v e
binary_token (local spelling name) v all e = absurd cc
binary_token (global spelling name) v all e = absurd cc
binary_token (label spelling name) v all e = absurd cc
binary_token (number negative digits) v all e = absurd cc
binary_token (string inner) v all e = absurd cc
binary_token (bytes inner) v all e = absurd cc
binary_token (mark byte) v all e = absurd cc
binary_token end v all e = absurd cc

pub cast_token : (token : Token) (v : CastOp × Flags) → TokenBytes token → cast_of token ≡ Some v → HasCastFlags v
cast_token (word name) v all e = cast_flags name v e
cast_token (local spelling name) v all e = absurd cc
cast_token (global spelling name) v all e = absurd cc
cast_token (label spelling name) v all e = absurd cc
cast_token (number negative digits) v all e = absurd cc
cast_token (string inner) v all e = absurd cc
cast_token (bytes inner) v all e = absurd cc
cast_token (mark byte) v all e = absurd cc
cast_token end v all e = absurd cc

-- ---- flags

-- a flag that stands is allowed
abbrev AreAllowed : Flags → Flags → Type 0
AreAllowed allowed flags =
    ((allowed.nuw && flags.nuw) ≡ flags.nuw) × (((allowed.nsw && flags.nsw) ≡ flags.nsw) × (((allowed.exact && flags.exact) ≡ flags.exact)
    × (((allowed.disjoint && flags.disjoint) ≡ flags.disjoint) × (((allowed.nneg && flags.nneg) ≡ flags.nneg) × ((allowed.samesign && flags.samesign) ≡ flags.samesign)))))

and_none : (b : Bool) → (b && false) ≡ false
and_none true = refl
and_none false = refl

pub first_true : (a b : Bool) → (a && b) ≡ true → a ≡ true
first_true true b e = refl
first_true false b e = e

none_allowed : (allowed : Flags) → AreAllowed allowed no_flags
none_allowed allowed = (and_none allowed.nuw, (and_none allowed.nsw, (and_none allowed.exact, (and_none allowed.disjoint, (and_none allowed.nneg, and_none allowed.samesign)))))

pub one_flag : {A : Type 0} (P : A → Type 0) (b : Bool) (x : A) (others : Option A) (v : A) → (b ≡ true → P x) → (others ≡ Some v → P v) → (if b then Some x else others) ≡ Some v → P v
one_flag P true x others v p q e = let same : x ≡ v = cc in subst P same (p refl)
one_flag P false x others v p q e = q e

flag_allowed : (allowed flags : Flags) (name : List ℕ) (v : Flags) → AreAllowed allowed flags → with_flag allowed flags name ≡ Some v → AreAllowed allowed v
flag_allowed allowed flags name v h e =
    one_flag (AreAllowed allowed) (allowed.nuw && not flags.nuw && bytes_eq name (codes "nuw")) (record flags { nuw = true }) _ v (λ b. let a : allowed.nuw ≡ true = first_true allowed.nuw (not flags.nuw) (first_true (allowed.nuw && not flags.nuw) (bytes_eq name (codes "nuw")) b) in (rw a refl, h.1)) (λ e.
    one_flag (AreAllowed allowed) (allowed.nsw && not flags.nsw && bytes_eq name (codes "nsw")) (record flags { nsw = true }) _ v (λ b. let a : allowed.nsw ≡ true = first_true allowed.nsw (not flags.nsw) (first_true (allowed.nsw && not flags.nsw) (bytes_eq name (codes "nsw")) b) in (h.0, (rw a refl, h.1.1))) (λ e.
    one_flag (AreAllowed allowed) (allowed.exact && not flags.exact && bytes_eq name (codes "exact")) (record flags { exact = true }) _ v (λ b. let a : allowed.exact ≡ true = first_true allowed.exact (not flags.exact) (first_true (allowed.exact && not flags.exact) (bytes_eq name (codes "exact")) b) in (h.0, (h.1.0, (rw a refl, h.1.1.1)))) (λ e.
    one_flag (AreAllowed allowed) (allowed.disjoint && not flags.disjoint && bytes_eq name (codes "disjoint")) (record flags { disjoint = true }) _ v (λ b. let a : allowed.disjoint ≡ true = first_true allowed.disjoint (not flags.disjoint) (first_true (allowed.disjoint && not flags.disjoint) (bytes_eq name (codes "disjoint")) b) in (h.0, (h.1.0, (h.1.1.0, (rw a refl, h.1.1.1.1))))) (λ e.
    one_flag (AreAllowed allowed) (allowed.nneg && not flags.nneg && bytes_eq name (codes "nneg")) (record flags { nneg = true }) _ v (λ b. let a : allowed.nneg ≡ true = first_true allowed.nneg (not flags.nneg) (first_true (allowed.nneg && not flags.nneg) (bytes_eq name (codes "nneg")) b) in (h.0, (h.1.0, (h.1.1.0, (h.1.1.1.0, (rw a refl, h.1.1.1.1.1)))))) (λ e.
    one_flag (AreAllowed allowed) (allowed.samesign && not flags.samesign && bytes_eq name (codes "samesign")) (record flags { samesign = true }) _ v (λ b. let a : allowed.samesign ≡ true = first_true allowed.samesign (not flags.samesign) (first_true (allowed.samesign && not flags.samesign) (bytes_eq name (codes "samesign")) b) in (h.0, (h.1.0, (h.1.1.0, (h.1.1.1.0, (h.1.1.1.1.0, rw a refl)))))) (λ e.
    absurd (none-some v e)) e) e) e) e) e) e

mask_of : (allowed flags : Flags) → AreAllowed allowed flags → masked allowed flags ≡ flags
mask_of allowed flags h = rw (h.0, h.1.0, h.1.1.0, h.1.1.1.0, h.1.1.1.1.0, h.1.1.1.1.1) refl

flag_token : (before : FlagList) (token : Token) (v : Flags) → AreAllowed before.allowed before.flags → flag_of before token ≡ Some v → AreAllowed before.allowed v
flag_token before (word name) v h e = flag_allowed before.allowed before.flags name v h e
flag_token before (local spelling name) v h e = absurd cc
flag_token before (global spelling name) v h e = absurd cc
flag_token before (label spelling name) v h e = absurd cc
flag_token before (number negative digits) v h e = absurd cc
flag_token before (string inner) v h e = absurd cc
flag_token before (bytes inner) v h e = absurd cc
flag_token before (mark byte) v h e = absurd cc
flag_token before end v h e = absurd cc

-- flags so far
abbrev FlagsFit : Flags → FlagList → Type 0
FlagsFit allowed before = (before.allowed ≡ allowed) × AreAllowed before.allowed before.flags

flag_turns : (allowed : Flags) (s : FlagList) → FlagsFit allowed s → Holds (flag_turn s) (λ x. FlagsFit allowed x.1)
flag_turns allowed s h =
    holds-by_token (λ token. is_some (flag_of s token)) (taken (flag_of s) >>= λ flags. yield (true, record { allowed = s.allowed; flags = flags })) (yield (false, s)) (λ x. FlagsFit allowed x.1)
    (holds-then (taken (flag_of s)) (λ flags. yield (true, record { allowed = s.allowed; flags = flags })) (λ flags. AreAllowed s.allowed flags) (λ x. FlagsFit allowed x.1) (kept-taken (flag_of s)) (holds-taken (flag_of s) (λ flags. AreAllowed s.allowed flags) (λ token v all e. flag_token s token v h.1 e))
    (λ flags fits. holds-yield (true, record { allowed = s.allowed; flags = flags }) (λ x. FlagsFit allowed x.1) (h.0, fits)))
    (holds-yield (false, s) (λ x. FlagsFit allowed x.1) h)

pub flags_fit : (allowed : Flags) → Holds (flags_of allowed) (λ flags. masked allowed flags ≡ flags)
unfolding flags_of
flags_fit allowed =
    holds-then _ _ (FlagsFit allowed) _ (kept-repeat flag_turn _ kept-flag_turn) (holds-repeat flag_turn kept-flag_turn (FlagsFit allowed) _ (flag_turns allowed) (refl, none_allowed allowed))
    (λ s h. holds-yield s.flags _ (mask_of allowed s.flags (subst (λ (a : Flags). AreAllowed a s.flags) h.0 h.1)))
