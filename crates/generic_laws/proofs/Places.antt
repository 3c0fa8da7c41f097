-- Each block of the code ends with its one terminator, and jumps to blocks of its function's edges or to those of its own.
use Rattle.std.proofs.Common.{◌≡◌, refl, sym, ap, subst, ◌∙◌, ℕ, suc, ◌+◌, ◌≤◌, Bool, true, false, not, List, [], ◌∷◌, ◌++◌, length, Some, None, arith}
use Rattle.std.specs.Prelude.{drop, ◌==◌, if◌then◌else◌}
use Rattle.std.proofs.lemmas.Bool.{and_parts}
use Rattle.std.proofs.lemmas.List.{append_assoc}
use Rattle.ir_core.specs.Units.{has_result}
use Rattle.ir_core.specs.declared.types.Ty.{Ty}
use Rattle.ir_core.specs.declared.types.Ty.TheVariants.{Int}
use Rattle.ir_core.specs.declared.code.Operand.{Operand}
use Rattle.ir_core.specs.declared.code.Operand.TheVariants.{Num}
use Rattle.ir_core.specs.declared.code.Op.{Op}
use Rattle.ir_core.specs.declared.code.Op.TheVariants.{Phi, Ret, Br, CondBr, Switch, Unreachable}
use Rattle.ir_core.specs.declared.code.Inst.{Inst}
use Rattle.ir_core.specs.declared.program.Function.{Function}
use Rattle.ir_core.specs.declared.program.Global.{Global}
use Rattle.ir_flow.specs.Code.{is_terminator, is_phi}
use Rattle.ir_meaning.specs.Operators.{width}
use Rattle.ir_meaning.specs.Step.{phis}
use Rattle.ir_verify.specs.Shapes.{ends_once, has_no_phi, has_phis_first}
use Rattle.ir_verify.proofs.Lists.{Every, every_both}
use Rattle.gmir.specs.declared.code.GOp.{GOp}
use Rattle.gmir.specs.declared.code.GOp.TheVariants as g
use Rattle.gmir.specs.declared.code.GInst.{GInst}
use Rattle.gmir.specs.Formed.{is_end}
use Rattle.generic_code.specs.Literals.{Pool, plain, loads, registers, behind_all, empty_pool}
use Rattle.generic_code.specs.Parts.{first_register}
use Rattle.generic_code.specs.Code.{address, piece_of}
use Rattle.generic_code.specs.Edges.{Ending, jump_to, branch_on, spare, no_phis, edge_operands, edge_code, edge_types, edge_blocks, goes_to, test_code, branch, tests, ending_of}
use Rattle.generic_code.specs.Whole.{is_jump, insts_ending}
use Rattle.generic_laws.proofs.Inner.{inner, each_inner, loads_then}

-- ---- code that ends once

abbrev pub Ends : List GInst → Type 0
Ends [] = ⊥
Ends (i ∷ []) = is_end i.op ≡ true
Ends (i ∷ j ∷ is) = (is_end i.op ≡ false) × Ends (j ∷ is)

abbrev pub NoEnd : GInst → Type 0
NoEnd i = is_end i.op ≡ false

ends_add : (i : GInst) (is : List GInst) → is_end i.op ≡ false → Ends is → Ends (i ∷ is)
ends_add i [] e h = absurd h
ends_add i (j ∷ is) e h = (e, h)

pub ends_behind : (xs ys : List GInst) → Every NoEnd xs → Ends ys → Ends (xs ++ ys)
ends_behind [] ys h h' = h'
ends_behind (x ∷ xs) ys h h' = ends_add x (xs ++ ys) h.0 (ends_behind xs ys h.1 h')

more_than_none : (n : ℕ) → (suc n == 0) ≡ false
more_than_none n = grind arith

-- an instruction ends the code exactly where it is the last
pub ends_there : (before : List GInst) (i : GInst) (behind : List GInst) → Ends (before ++ i ∷ behind) → is_end i.op ≡ (length behind == 0)
ends_there [] i [] h = h
ends_there [] i (j ∷ is) h = h.0 ∙ sym (more_than_none (length is))
ends_there (b ∷ []) i behind h = ends_there [] i behind h.1
ends_there (b ∷ b' ∷ before) i behind h = ends_there (b' ∷ before) i behind h.1

pub ends_some : (code : List GInst) → Ends code → 1 ≤ length code
ends_some [] h = absurd h
ends_some (i ∷ is) h = omega arith

-- ---- instructions behind phis

pub phis_over : (insts : List Inst) → ends_once insts ≡ true → ends_once (drop (length (phis insts)) insts) ≡ true
phis_over [] h = h
phis_over (inst ∷ insts) h = by_op inst.gives inst.op h (λ e. phis_over insts e)
  where
    by_op : (ty : Ty) (op : Op) → ends_once (record { gives = ty; op = op } ∷ insts) ≡ true → (ends_once insts ≡ true → ends_once (drop (length (phis insts)) insts) ≡ true)
        → ends_once (drop (length (phis (record { gives = ty; op = op } ∷ insts))) (record { gives = ty; op = op } ∷ insts)) ≡ true
    by_op ty (Phi pairs) h ih = ih h
    by_op ty op h ih = h

pub phis_gone : (insts : List Inst) → has_phis_first insts ≡ true → has_no_phi (drop (length (phis insts)) insts) ≡ true
phis_gone [] h = refl
phis_gone (inst ∷ insts) h = by_op inst.gives inst.op h (λ e. phis_gone insts e)
  where
    by_op : (ty : Ty) (op : Op) → has_phis_first (record { gives = ty; op = op } ∷ insts) ≡ true → (has_phis_first insts ≡ true → has_no_phi (drop (length (phis insts)) insts) ≡ true)
        → has_no_phi (drop (length (phis (record { gives = ty; op = op } ∷ insts))) (record { gives = ty; op = op } ∷ insts)) ≡ true
    by_op ty (Phi pairs) h ih = ih h
    by_op ty op h ih = h

none_left : (insts : List Inst) → (length insts == 0) ≡ true → insts ≡ []
none_left [] e = refl
none_left (x ∷ xs) e = absurd (let bad : false ≡ true = sym (more_than_none (length xs)) ∙ e in let no_way : ⊥ = cc in no_way)

module _ (globals : List Global) where
  -- ---- ends

  inner_no_end : (i : GInst) → inner i.op ≡ true → NoEnd i
  inner_no_end i e = by_op i.op e
    where
      by_op : (o : GOp) → inner o ≡ true → is_end o ≡ false
      by_op g.Br e = absurd (let bad : ⊥ = cc in bad)
      by_op g.BrCond e = absurd (let bad : ⊥ = cc in bad)
      by_op g.Return e = absurd (let bad : ⊥ = cc in bad)
      by_op g.Trap e = absurd (let bad : ⊥ = cc in bad)
      by_op o e = refl

  loads_no_end : (pool : Pool) (ops : List (Ty × Operand)) (code : List GInst) → Ends code → Ends (loads globals pool ops ++ code)
  loads_no_end pool ops code h = ends_behind (loads globals pool ops) code (subst (Every NoEnd) (none_behind (loads globals pool ops)) (loads_then globals NoEnd inner_no_end pool ops [] tt)) h
    where
      none_behind : (xs : List GInst) → xs ++ [] ≡ xs
      none_behind [] = refl
      none_behind (x ∷ xs) = ap (λ (is : List GInst). x ∷ is) (none_behind xs)

  address_no_end : (wide : Bool) (value : ℕ) (pool : Pool) (ops : List (Ty × Operand)) → Every NoEnd (address globals wide pool value ops).code
  address_no_end true value pool ops = loads_then globals NoEnd inner_no_end pool ops _ (refl, tt)
  address_no_end false value pool ops = loads_then globals NoEnd inner_no_end pool ops _ (refl, (refl, tt))

  piece_no_end : (ret : Ty) (value : ℕ) (pool : Pool) (ty : Ty) (op : Op) → is_terminator op ≡ false → is_phi op ≡ false → Every NoEnd (piece_of globals ret value pool ty op).code
  piece_no_end ret value pool ty op t p = each_inner globals NoEnd inner_no_end ret value pool ty op t p (λ flags from a e. address_no_end (width from == 64) value pool ((from, a) ∷ [])) (λ of count num e. refl)

  piece_ends : (ret : Ty) (value : ℕ) (pool : Pool) (ty : Ty) (op : Op) → is_terminator op ≡ true → is_jump op ≡ false → Ends (piece_of globals ret value pool ty op).code
  piece_ends ret value pool ty (Ret None) t j = refl
  piece_ends ret value pool ty (Ret (Some a)) t j = loads_no_end pool ((ret, a) ∷ []) _ refl
  piece_ends ret value pool ty Unreachable t j = refl
  piece_ends ret value pool ty (Br to) t j = absurd (let bad : ⊥ = cc in bad)
  piece_ends ret value pool ty (CondBr x y z) t j = absurd (let bad : ⊥ = cc in bad)
  piece_ends ret value pool ty (Switch of x otherwise cases) t j = absurd (let bad : ⊥ = cc in bad)
  piece_ends ret value pool ty op t j = absurd (let bad : ⊥ = cc in bad)

  module _ (function : Function) (from : ℕ) where
    abbrev pub AllEnd : Ending → Type 0
    AllEnd e = Ends e.code × Every Ends e.later

    edge_ends : (pool : Pool) (to : ℕ) → Ends (edge_code globals function from pool to)
    edge_ends pool to = loads_no_end pool (edge_operands globals function from to) (jump_to to ∷ []) refl

    block_ends : (next to : ℕ) → Every Ends (edge_blocks globals function from next to)
    block_ends next to = by_phis (no_phis globals function to)
      where
        by_phis : (n : Bool) → Every Ends (if n then [] else edge_code globals function from (empty_pool next) to ∷ [])
        by_phis true = tt
        by_phis false = (edge_ends (empty_pool next) to, tt)

    branch_ends : (at next own bit if_one if_zero : ℕ) → AllEnd (branch globals function from at next own bit if_one if_zero)
    branch_ends at next own bit if_one if_zero = (refl, every_both Ends (edge_blocks globals function from next if_one) _ (block_ends next if_one) (block_ends (next + length (edge_types globals function from (empty_pool next) if_one)) if_zero))

    test_ends : (of : Ty) (r : ℕ) (pool : Pool) (n : ℕ) (code : List GInst) → Ends code → Ends (test_code globals function from of r pool n ++ code)
    test_ends of r pool n code h =
        subst Ends (sym (append_assoc (loads globals pool ((of, Num n) ∷ [])) (plain g.Icmp ((behind_all globals pool ((of, Num n) ∷ [])).next ∷ []) (r ∷ registers globals pool ((of, Num n) ∷ [])) 0 ∷ []) code))
        (loads_no_end pool ((of, Num n) ∷ []) _ (ends_add (plain g.Icmp ((behind_all globals pool ((of, Num n) ∷ [])).next ∷ []) (r ∷ registers globals pool ((of, Num n) ∷ [])) 0) code refl h))

    tests_end : (cases : List (ℕ × ℕ)) (of : Ty) (r otherwise at : ℕ) (pool : Pool) (own : ℕ) → AllEnd (tests globals function from of r otherwise at pool own cases)
    tests_end [] of r otherwise at pool own = (edge_ends pool otherwise, tt)
    tests_end (one ∷ []) of r otherwise at pool own =
        let bit = (behind_all globals pool ((of, Num one.0) ∷ [])).next in
        let rest = branch_ends at (bit + 1) own bit one.1 otherwise in
        (test_ends of r pool one.0 (branch globals function from at (bit + 1) own bit one.1 otherwise).code rest.0, rest.1)
    tests_end (one ∷ two ∷ cases) of r otherwise at pool own =
        let bit = (behind_all globals pool ((of, Num one.0) ∷ [])).next in
        let next = bit + 1 + length (edge_types globals function from (empty_pool (bit + 1)) one.1) in
        let on = own + spare globals function one.1 in
        let rest = tests globals function from of r otherwise on (empty_pool next) (on + 1) (two ∷ cases) in
        let ih = tests_end (two ∷ cases) of r otherwise on (empty_pool next) (on + 1) in
        (test_ends of r pool one.0 (branch_on bit (goes_to globals function from own one.1) on ∷ []) refl, every_both Ends (edge_blocks globals function from (bit + 1) one.1) (rest.code ∷ rest.later) (block_ends (bit + 1) one.1) (ih.0, ih.1))

    ending_ends : (pool : Pool) (own : ℕ) (op : Op) → is_jump op ≡ true → AllEnd (ending_of globals function from pool own op)
    ending_ends pool own (Br to) j = (edge_ends pool to, tt)
    ending_ends pool own (CondBr x y z) j =
        let rest = branch_ends from (behind_all globals pool ((Int 1, x) ∷ [])).next own (first_register (registers globals pool ((Int 1, x) ∷ []))) y z in
        (loads_no_end pool ((Int 1, x) ∷ []) _ rest.0, rest.1)
    ending_ends pool own (Switch of a otherwise cases) j =
        let rest = tests_end cases of (first_register (registers globals pool ((of, a) ∷ []))) otherwise from (behind_all globals pool ((of, a) ∷ [])) own in
        (loads_no_end pool ((of, a) ∷ []) _ rest.0, rest.1)
    ending_ends pool own op j = absurd (let bad : ⊥ = cc in bad)

    pub insts_end : (insts : List Inst) (value : ℕ) (pool : Pool) (own : ℕ) → ends_once insts ≡ true → has_no_phi insts ≡ true → AllEnd (insts_ending globals function from value pool own insts)
    insts_end [] value pool own h p = absurd (let bad : ⊥ = cc in bad)
    insts_end (inst ∷ insts) value pool own h p =
        by_kind (is_jump inst.op) (is_terminator inst.op) refl refl (λ h'. insts_end insts (if has_result inst then value + 1 else value) (piece_of globals function.ret value pool inst.gives inst.op).pool own h' (and_parts (not (is_phi inst.op)) (has_no_phi insts) p).1)
      where
        no_phi_here : is_phi inst.op ≡ false
        no_phi_here = turned (is_phi inst.op) (and_parts (not (is_phi inst.op)) (has_no_phi insts) p).0
          where
            turned : (b : Bool) → not b ≡ true → b ≡ false
            turned true e = absurd (let bad : ⊥ = cc in bad)
            turned false e = refl

        piece_code : List GInst
        piece_code = (piece_of globals function.ret value pool inst.gives inst.op).code

        rest : Ending
        rest = insts_ending globals function from (if has_result inst then value + 1 else value) (piece_of globals function.ret value pool inst.gives inst.op).pool own insts

        nothing_behind : (insts' : List Inst) → insts' ≡ [] → AllEnd (record { code = piece_code; types = []; later = []; edges = [] })
            → Ends (piece_code ++ (insts_ending globals function from (if has_result inst then value + 1 else value) (piece_of globals function.ret value pool inst.gives inst.op).pool own insts').code)
            × Every Ends (insts_ending globals function from (if has_result inst then value + 1 else value) (piece_of globals function.ret value pool inst.gives inst.op).pool own insts').later
        nothing_behind [] e k = (subst Ends (sym (none_behind piece_code)) k.0, tt)
          where
            none_behind : (xs : List GInst) → xs ++ [] ≡ xs
            none_behind [] = refl
            none_behind (x ∷ xs) = ap (λ (is : List GInst). x ∷ is) (none_behind xs)
        nothing_behind (x ∷ xs) e k = absurd (let bad : ⊥ = cc in bad)

        by_kind : (j t : Bool) → is_jump inst.op ≡ j → is_terminator inst.op ≡ t
            → (ends_once insts ≡ true → AllEnd (insts_ending globals function from (if has_result inst then value + 1 else value) (piece_of globals function.ret value pool inst.gives inst.op).pool own insts))
            → AllEnd (insts_ending globals function from value pool own (inst ∷ insts))
        by_kind true t e e' more = rw e (ending_ends pool own inst.op e)
        by_kind false true e e' more =
            let short : (length insts == 0) ≡ true = sym (ap (λ (b : Bool). if b then length insts == 0 else ends_once insts) e') ∙ h in
            rw e (nothing_behind insts (none_left insts short) (piece_ends function.ret value pool inst.gives inst.op e' e, tt))
        by_kind false false e e' more =
            let once : ends_once insts ≡ true = sym (ap (λ (b : Bool). if b then length insts == 0 else ends_once insts) e') ∙ h in
            let ih = more once in
            rw e (ends_behind piece_code rest.code (piece_no_end function.ret value pool inst.gives inst.op e' no_phi_here) ih.0, ih.1)
