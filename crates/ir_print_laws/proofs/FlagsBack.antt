-- Printed operators and flags are read as what they are.
use Rattle.std.proofs.Common.{◌≡◌, ℕ, ◌<◌, Bool, true, false, List, ◌∷◌, ◌++◌, Option, Some, None, refl, ◌∙◌, subst, arith}
use Rattle.std.specs.Prelude.{not, ◌&&◌, codes, decimal, if◌then◌else◌}
use Rattle.std.specs.Str.{bytes_eq}
use Rattle.ir_text.specs.Token.{word, token_at, behind_blanks}
use Rattle.ir_text.specs.Form.{most_turns}
use Rattle.ir_core.specs.declared.types.Ty.{Ty}
use Rattle.ir_core.specs.declared.types.Ty.TheVariants as values
use Rattle.ir_core.specs.declared.code.Flags.{Flags}
use Rattle.ir_core.specs.declared.code.BinOp.{BinOp}
use Rattle.ir_core.specs.declared.code.BinOp.TheVariants as binary_operators
use Rattle.ir_core.specs.declared.code.CastOp.{CastOp}
use Rattle.ir_core.specs.declared.code.CastOp.TheVariants as casts
use Rattle.ir_core.specs.declared.code.Pred.{Pred}
use Rattle.ir_core.specs.declared.code.Pred.TheVariants as predicates
use Rattle.ir_grammar.specs.declared.operators.FlagList.{FlagList}
use Rattle.ir_grammar.specs.Operators.{no_flags, wrap_flags, exact_flag, disjoint_flag, nneg_flag, samesign_flag, with_flag, flag_turn, flags_of, binary_name, cast_name, predicate_name}
use Rattle.ir_print.specs.Types.{ty_text}
use Rattle.ir_print.specs.Instructions.{flags_text, binary_word, cast_word, predicate_word}
use Rattle.ir_print_laws.specs.Operators.{allowed_of, allowed_of_cast, masked}
use Rattle.ir_print_laws.proofs.Tokens.{Ends, token_blank, int_token, void_token, ptr_token}
use Rattle.ir_print_laws.proofs.Segments.{Seg, one_turn, no_turn, then_turns, all_turns}

-- ---- a word that is no flag

pub record NoFlag (name : List ℕ) : Type 0 where
  pub nuw : bytes_eq name (codes "nuw") ≡ false
  pub nsw : bytes_eq name (codes "nsw") ≡ false
  pub exact : bytes_eq name (codes "exact") ≡ false
  pub disjoint : bytes_eq name (codes "disjoint") ≡ false
  pub nneg : bytes_eq name (codes "nneg") ≡ false
  pub samesign : bytes_eq name (codes "samesign") ≡ false

passes_flag : (a b c : Bool) (x y : Option Flags) → c ≡ false → (if a && not b && c then x else y) ≡ y
passes_flag true true c x y e = refl
passes_flag true false c x y e = rw e refl
passes_flag false b c x y e = refl

no_flag : (allowed flags : Flags) (name : List ℕ) → NoFlag name → with_flag allowed flags name ≡ None
no_flag allowed flags name e =
    passes_flag allowed.nuw flags.nuw _ _ _ e.nuw ∙ passes_flag allowed.nsw flags.nsw _ _ _ e.nsw ∙ passes_flag allowed.exact flags.exact _ _ _ e.exact
    ∙ passes_flag allowed.disjoint flags.disjoint _ _ _ e.disjoint ∙ passes_flag allowed.nneg flags.nneg _ _ _ e.nneg ∙ passes_flag allowed.samesign flags.samesign _ _ _ e.samesign

flags_end : (s : FlagList) (name t r : List ℕ) → token_at t ≡ (word name, r) → NoFlag name → (flag_turn s).Is t (false, s) t
flags_end s name t r e other = rw (e, no_flag s.allowed s.flags name other) (refl, refl)

abbrev flags_at : Flags → Flags → FlagList
flags_at allowed flags = record { allowed = allowed; flags = flags }

-- the flags behind so many turns
flags_by : (n : ℕ) (allowed flags : Flags) (name t u r : List ℕ) → n < most_turns → token_at u ≡ (word name, r) → NoFlag name
    → Seg flag_turn n (flags_at allowed no_flags) t (flags_at allowed flags) u → (flags_of allowed).Is t flags u
unfolding flags_of
flags_by n allowed flags name t u r lt e other f = (flags_at allowed flags, u, all_turns flag_turn n _ _ _ t u lt f (flags_end (flags_at allowed flags) name u r e other), (refl, refl))

-- one more flag, by its word
abbrev Turns : Flags → Flags → Flags → List ℕ → Type 0
Turns allowed flags next name = (u : List ℕ) → (flag_turn (flags_at allowed flags)).Is (32 ∷ name ++ 32 ∷ u) (true, flags_at allowed next) (32 ∷ u)

abbrev wraps : Bool → Bool → Flags
wraps nuw nsw = record { nuw = nuw; nsw = nsw; exact = false; disjoint = false; nneg = false; samesign = false }

nuw_turn : Turns wrap_flags no_flags (wraps true false) (codes "nuw")
unfolding token_at behind_blanks
nuw_turn u = (wraps true false, 32 ∷ u, (refl, refl), (refl, refl))

nsw_turn : Turns wrap_flags no_flags (wraps false true) (codes "nsw")
unfolding token_at behind_blanks
nsw_turn u = (wraps false true, 32 ∷ u, (refl, refl), (refl, refl))

both_turn : Turns wrap_flags (wraps true false) (wraps true true) (codes "nsw")
unfolding token_at behind_blanks
both_turn u = (wraps true true, 32 ∷ u, (refl, refl), (refl, refl))

exact_turn : Turns exact_flag no_flags exact_flag (codes "exact")
unfolding token_at behind_blanks
exact_turn u = (exact_flag, 32 ∷ u, (refl, refl), (refl, refl))

disjoint_turn : Turns disjoint_flag no_flags disjoint_flag (codes "disjoint")
unfolding token_at behind_blanks
disjoint_turn u = (disjoint_flag, 32 ∷ u, (refl, refl), (refl, refl))

nneg_turn : Turns nneg_flag no_flags nneg_flag (codes "nneg")
unfolding token_at behind_blanks
nneg_turn u = (nneg_flag, 32 ∷ u, (refl, refl), (refl, refl))

samesign_turn : Turns samesign_flag no_flags samesign_flag (codes "samesign")
unfolding token_at behind_blanks
samesign_turn u = (samesign_flag, 32 ∷ u, (refl, refl), (refl, refl))

-- what is read of flags before a word that is none
abbrev FlagsBack : Flags → Flags → Type 0
FlagsBack allowed flags = (name u r : List ℕ) → token_at u ≡ (word name, r) → NoFlag name → (flags_of allowed).Is (32 ∷ flags_text flags ++ u) flags (32 ∷ u)

none_back : (allowed : Flags) → FlagsBack allowed no_flags
none_back allowed = λ name u r e other. flags_by 0 allowed no_flags name (32 ∷ u) (32 ∷ u) r (omega arith) (token_blank u ∙ e) other (no_turn flag_turn (flags_at allowed no_flags) (32 ∷ u))

single_back : (allowed flags : Flags) (word_of : List ℕ) → Turns allowed no_flags flags word_of → (name u r : List ℕ) → token_at u ≡ (word name, r) → NoFlag name → (flags_of allowed).Is (32 ∷ word_of ++ 32 ∷ u) flags (32 ∷ u)
single_back allowed flags word_of turn = λ name u r e other.
    flags_by 1 allowed flags name (32 ∷ word_of ++ 32 ∷ u) (32 ∷ u) r (omega arith) (token_blank u ∙ e) other (one_turn flag_turn (flags_at allowed no_flags) (flags_at allowed flags) _ _ (turn u))

wrap_back : (nuw nsw : Bool) → FlagsBack wrap_flags (wraps nuw nsw)
wrap_back false false = none_back wrap_flags
wrap_back true false = single_back wrap_flags (wraps true false) (codes "nuw") nuw_turn
wrap_back false true = single_back wrap_flags (wraps false true) (codes "nsw") nsw_turn
wrap_back true true = λ name u r e other.
    flags_by 2 wrap_flags (wraps true true) name (32 ∷ codes "nuw nsw " ++ u) (32 ∷ u) r (omega arith) (token_blank u ∙ e) other
    (then_turns flag_turn 1 1 _ _ _ _ _ _ (one_turn flag_turn (flags_at wrap_flags no_flags) (flags_at wrap_flags (wraps true false)) _ _ (nuw_turn (codes "nsw " ++ u))) (one_turn flag_turn (flags_at wrap_flags (wraps true false)) (flags_at wrap_flags (wraps true true)) _ _ (both_turn u)))

exact_back : (b : Bool) → FlagsBack exact_flag (record { nuw = false; nsw = false; exact = b; disjoint = false; nneg = false; samesign = false })
exact_back false = none_back exact_flag
exact_back true = single_back exact_flag exact_flag (codes "exact") exact_turn

disjoint_back : (b : Bool) → FlagsBack disjoint_flag (record { nuw = false; nsw = false; exact = false; disjoint = b; nneg = false; samesign = false })
disjoint_back false = none_back disjoint_flag
disjoint_back true = single_back disjoint_flag disjoint_flag (codes "disjoint") disjoint_turn

nneg_back : (b : Bool) → FlagsBack nneg_flag (record { nuw = false; nsw = false; exact = false; disjoint = false; nneg = b; samesign = false })
nneg_back false = none_back nneg_flag
nneg_back true = single_back nneg_flag nneg_flag (codes "nneg") nneg_turn

pub samesign_back : (b : Bool) → FlagsBack samesign_flag (record { nuw = false; nsw = false; exact = false; disjoint = false; nneg = false; samesign = b })
samesign_back false = none_back samesign_flag
samesign_back true = single_back samesign_flag samesign_flag (codes "samesign") samesign_turn

-- ---- by operator

pub binary_flags : (op : BinOp) (flags : Flags) → masked (allowed_of op) flags ≡ flags → FlagsBack (allowed_of op) flags
binary_flags binary_operators.Add flags e = subst (FlagsBack wrap_flags) e (wrap_back flags.nuw flags.nsw)
binary_flags binary_operators.Sub flags e = subst (FlagsBack wrap_flags) e (wrap_back flags.nuw flags.nsw)
binary_flags binary_operators.Mul flags e = subst (FlagsBack wrap_flags) e (wrap_back flags.nuw flags.nsw)
binary_flags binary_operators.UDiv flags e = subst (FlagsBack exact_flag) e (exact_back flags.exact)
binary_flags binary_operators.SDiv flags e = subst (FlagsBack exact_flag) e (exact_back flags.exact)
binary_flags binary_operators.URem flags e = subst (FlagsBack no_flags) e (none_back no_flags)
binary_flags binary_operators.SRem flags e = subst (FlagsBack no_flags) e (none_back no_flags)
binary_flags binary_operators.Shl flags e = subst (FlagsBack wrap_flags) e (wrap_back flags.nuw flags.nsw)
binary_flags binary_operators.LShr flags e = subst (FlagsBack exact_flag) e (exact_back flags.exact)
binary_flags binary_operators.AShr flags e = subst (FlagsBack exact_flag) e (exact_back flags.exact)
binary_flags binary_operators.And flags e = subst (FlagsBack no_flags) e (none_back no_flags)
binary_flags binary_operators.Or flags e = subst (FlagsBack disjoint_flag) e (disjoint_back flags.disjoint)
binary_flags binary_operators.Xor flags e = subst (FlagsBack no_flags) e (none_back no_flags)

pub cast_flags : (op : CastOp) (flags : Flags) → masked (allowed_of_cast op) flags ≡ flags → FlagsBack (allowed_of_cast op) flags
cast_flags casts.Trunc flags e = subst (FlagsBack wrap_flags) e (wrap_back flags.nuw flags.nsw)
cast_flags casts.ZExt flags e = subst (FlagsBack nneg_flag) e (nneg_back flags.nneg)
cast_flags casts.SExt flags e = subst (FlagsBack no_flags) e (none_back no_flags)
cast_flags casts.PtrToInt flags e = subst (FlagsBack no_flags) e (none_back no_flags)
cast_flags casts.IntToPtr flags e = subst (FlagsBack no_flags) e (none_back no_flags)
cast_flags casts.Same flags e = subst (FlagsBack no_flags) e (none_back no_flags)

pub predicate_flags : (flags : Flags) → masked samesign_flag flags ≡ flags → FlagsBack samesign_flag flags
predicate_flags flags e = subst (FlagsBack samesign_flag) e (samesign_back flags.samesign)

-- ---- words

-- a word with a value, and a blank behind it
pub record WordStands {A : Type 0} (value : List ℕ → Option A) (one : A) (text u : List ℕ) : Type 0 where
  pub name : List ℕ
  pub token : token_at text ≡ (word name, u)
  pub says : value name ≡ Some one

pub binary_stands : (op : BinOp) (t : List ℕ) → WordStands binary_name (op, allowed_of op) (binary_word op ++ t) (32 ∷ t)
unfolding token_at behind_blanks
binary_stands binary_operators.Add t = record { name = codes "add"; token = refl; says = refl }
binary_stands binary_operators.Sub t = record { name = codes "sub"; token = refl; says = refl }
binary_stands binary_operators.Mul t = record { name = codes "mul"; token = refl; says = refl }
binary_stands binary_operators.UDiv t = record { name = codes "udiv"; token = refl; says = refl }
binary_stands binary_operators.SDiv t = record { name = codes "sdiv"; token = refl; says = refl }
binary_stands binary_operators.URem t = record { name = codes "urem"; token = refl; says = refl }
binary_stands binary_operators.SRem t = record { name = codes "srem"; token = refl; says = refl }
binary_stands binary_operators.Shl t = record { name = codes "shl"; token = refl; says = refl }
binary_stands binary_operators.LShr t = record { name = codes "lshr"; token = refl; says = refl }
binary_stands binary_operators.AShr t = record { name = codes "ashr"; token = refl; says = refl }
binary_stands binary_operators.And t = record { name = codes "and"; token = refl; says = refl }
binary_stands binary_operators.Or t = record { name = codes "or"; token = refl; says = refl }
binary_stands binary_operators.Xor t = record { name = codes "xor"; token = refl; says = refl }

pub cast_stands : (op : CastOp) (t : List ℕ) → WordStands cast_name (op, allowed_of_cast op) (cast_word op ++ t) (32 ∷ t)
unfolding token_at behind_blanks
cast_stands casts.Trunc t = record { name = codes "trunc"; token = refl; says = refl }
cast_stands casts.ZExt t = record { name = codes "zext"; token = refl; says = refl }
cast_stands casts.SExt t = record { name = codes "sext"; token = refl; says = refl }
cast_stands casts.PtrToInt t = record { name = codes "ptrtoint"; token = refl; says = refl }
cast_stands casts.IntToPtr t = record { name = codes "inttoptr"; token = refl; says = refl }
cast_stands casts.Same t = record { name = codes "bitcast"; token = refl; says = refl }

-- a predicate's word, which is no flag
pub record PredicateStands (one : Pred) (text u : List ℕ) : Type 0 where
  pub name : List ℕ
  pub token : token_at text ≡ (word name, u)
  pub says : predicate_name name ≡ Some one
  pub other : NoFlag name

pub predicate_stands : (one : Pred) (t : List ℕ) → PredicateStands one (predicate_word one ++ t) (32 ∷ t)
unfolding token_at behind_blanks
predicate_stands predicates.Eq t = record { name = codes "eq"; token = refl; says = refl; other = record { nuw = refl; nsw = refl; exact = refl; disjoint = refl; nneg = refl; samesign = refl } }
predicate_stands predicates.Ne t = record { name = codes "ne"; token = refl; says = refl; other = record { nuw = refl; nsw = refl; exact = refl; disjoint = refl; nneg = refl; samesign = refl } }
predicate_stands predicates.Ugt t = record { name = codes "ugt"; token = refl; says = refl; other = record { nuw = refl; nsw = refl; exact = refl; disjoint = refl; nneg = refl; samesign = refl } }
predicate_stands predicates.Uge t = record { name = codes "uge"; token = refl; says = refl; other = record { nuw = refl; nsw = refl; exact = refl; disjoint = refl; nneg = refl; samesign = refl } }
predicate_stands predicates.Ult t = record { name = codes "ult"; token = refl; says = refl; other = record { nuw = refl; nsw = refl; exact = refl; disjoint = refl; nneg = refl; samesign = refl } }
predicate_stands predicates.Ule t = record { name = codes "ule"; token = refl; says = refl; other = record { nuw = refl; nsw = refl; exact = refl; disjoint = refl; nneg = refl; samesign = refl } }
predicate_stands predicates.Sgt t = record { name = codes "sgt"; token = refl; says = refl; other = record { nuw = refl; nsw = refl; exact = refl; disjoint = refl; nneg = refl; samesign = refl } }
predicate_stands predicates.Sge t = record { name = codes "sge"; token = refl; says = refl; other = record { nuw = refl; nsw = refl; exact = refl; disjoint = refl; nneg = refl; samesign = refl } }
predicate_stands predicates.Slt t = record { name = codes "slt"; token = refl; says = refl; other = record { nuw = refl; nsw = refl; exact = refl; disjoint = refl; nneg = refl; samesign = refl } }
predicate_stands predicates.Sle t = record { name = codes "sle"; token = refl; says = refl; other = record { nuw = refl; nsw = refl; exact = refl; disjoint = refl; nneg = refl; samesign = refl } }

-- a type's first word, which is no flag
pub record TypeStands (text u : List ℕ) : Type 0 where
  pub name : List ℕ
  pub token : token_at text ≡ (word name, u)
  pub other : NoFlag name

pub type_stands : (ty : Ty) (u : List ℕ) → Ends u → TypeStands (ty_text ty ++ u) u
type_stands values.Void u ends = record { name = codes "void"; token = void_token u ends; other = record { nuw = refl; nsw = refl; exact = refl; disjoint = refl; nneg = refl; samesign = refl } }
type_stands (values.Int w) u ends = record { name = 105 ∷ decimal w; token = int_token w u ends; other = record { nuw = refl; nsw = refl; exact = refl; disjoint = refl; nneg = refl; samesign = refl } }
type_stands values.Ptr u ends = record { name = codes "ptr"; token = ptr_token u ends; other = record { nuw = refl; nsw = refl; exact = refl; disjoint = refl; nneg = refl; samesign = refl } }
