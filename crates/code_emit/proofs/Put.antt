-- Code behind code.
use Rattle.std.proofs.Common.{◌≡◌, refl, sym, ap, ◌∙◌, ℕ, zero, suc, ◌+◌, ◌-◌, ◌<◌, ◌≤◌, List, [], ◌∷◌, ◌++◌, length, get_or, map, Option, Some, None, cond, arith, append_assoc}
use Rattle.std.specs.Prelude.{drop, pos, slice_set, replicate}
use Rattle.std.proofs.Math.Seq.{drop-cons}
use Rattle.std.proofs.lemmas.List.{length-append, append-nil}
use Rattle.rv_core.specs.Instr.{IsValid, AreValid}
use Rattle.rv_core.specs.declared.instr.Instr.{Instr}
use Rattle.rv_asm.specs.declared.item.Item.{Item as Assembled}
use Rattle.rv_asm.specs.declared.item.Item.TheVariants as asm
use Rattle.rv_asm.specs.Code.{Code}
use Rattle.rv_asm.specs.Constant as constant
use Rattle.rv_core.specs.declared.reg.Reg.{Reg}
use Rattle.rv_core.specs.declared.reg.Reg.TheVariants.{X0, Ra, T0, T1, T2}
use Rattle.rv_core.specs.declared.instr.BranchOp.TheVariants.{Bgeu}
use Rattle.rv_core.specs.declared.instr.ImmOp.TheVariants.{Addi, Slli}
use Rattle.rv_core.specs.declared.instr.Instr.TheVariants.{Lui, Branch, Imm, Ecall}
use Rattle.code_pieces.specs.Code.{store_at, lowered_code, lower_sp, prologue, const_code, word_code, is_word, high_part, add_low}
use Rattle.code_pieces.specs.Items.{Item, Plain, Bind, Goto, Test, plain}
use Rattle.code_pieces.specs.Assembly.{assembled, bind_all, put, labelled}
use Rattle.code_emit.specs.Written.{put_code}

assembled-append : (xs ys : List Item) → assembled (xs ++ ys) ≡ assembled xs ++ assembled ys
assembled-append [] ys = refl
assembled-append (Plain i ∷ xs) ys = ap (λ (zs : List Assembled). asm.Plain i ∷ zs) (assembled-append xs ys)
assembled-append (Bind l ∷ xs) ys = assembled-append xs ys
assembled-append (Goto l ∷ xs) ys = ap (λ (zs : List Assembled). asm.JumpTo l ∷ zs) (assembled-append xs ys)
assembled-append (Test op a b l ∷ xs) ys = ap (λ (zs : List Assembled). asm.BranchTo op a b l ∷ zs) (assembled-append xs ys)

bind-append : (xs ys : List Item) (at to : ℕ) (bound : List (Option ℕ)) → to ≡ at + length (assembled xs) → bind_all at (xs ++ ys) bound ≡ bind_all to ys (bind_all at xs bound)
bind-append [] ys at to bound e = ap (λ (k : ℕ). bind_all k ys bound) (let same : at ≡ to = omega (arith, e) in same)
bind-append (Plain i ∷ xs) ys at to bound e = bind-append xs ys (at + 1) to bound (omega (arith, e))
bind-append (Bind l ∷ xs) ys at to bound e = bind-append xs ys at to _ e
bind-append (Goto l ∷ xs) ys at to bound e = bind-append xs ys (at + 1) to bound (omega (arith, e))
bind-append (Test op a b l ∷ xs) ys at to bound e = bind-append xs ys (at + 1) to bound (omega (arith, e))

abbrev made : List Assembled → List (Option ℕ) → Code
made items bound = record { items = items; bound = bound }

pub put-put : (code : Code) (xs ys : List Item) → put (put code xs) ys ≡ put code (xs ++ ys)
unfolding put
put-put code xs ys =
    ap (λ (items : List Assembled). made items (bind_all (length (code.items ++ assembled xs)) ys (bind_all (length code.items) xs code.bound)))
    (append_assoc code.items (assembled xs) (assembled ys) ∙ ap (λ (zs : List Assembled). code.items ++ zs) (sym (assembled-append xs ys)))
    ∙ ap (made (code.items ++ assembled (xs ++ ys))) (sym (bind-append xs ys (length code.items) (length (code.items ++ assembled xs)) code.bound (length-append code.items (assembled xs))))

pub put-none : (code : Code) → put code [] ≡ code
unfolding put
put-none code = ap (λ (items : List Assembled). made items code.bound) (append-nil code.items)

pub put_none : (code : Code) → put code [] ≡ code
put_none code = put-none code

pub then-put : (code one two : Code) (xs ys : List Item) → one ≡ put code xs → two ≡ put one ys → two ≡ put code (xs ++ ys)
then-put code one two xs ys h k = k ∙ ap (λ (c : Code). put c ys) h ∙ put-put code xs ys

-- ---- plain instructions

pub code_code : (code : Code) (xs ys : List Instr) → put_code (put_code code xs) ys ≡ put_code code (xs ++ ys)
unfolding put_code
code_code code xs ys =
    ap (λ (items : List Assembled). made items code.bound) (append_assoc code.items (map asm.Plain xs) (map asm.Plain ys) ∙ ap (λ (zs : List Assembled). code.items ++ zs) (sym (map-both xs ys)))
  where
    map-both : (xs ys : List Instr) → map asm.Plain (xs ++ ys) ≡ map asm.Plain xs ++ map asm.Plain ys
    map-both [] ys = refl
    map-both (x ∷ xs) ys = ap (λ (zs : List Assembled). asm.Plain x ∷ zs) (map-both xs ys)

pub code_none : (code : Code) → put_code code [] ≡ code
unfolding put_code
code_none code = ap (λ (items : List Assembled). made items code.bound) (append-nil code.items)

assembled-plain : (xs : List Instr) → assembled (plain xs) ≡ map asm.Plain xs
assembled-plain [] = refl
assembled-plain (x ∷ xs) = ap (λ (zs : List Assembled). asm.Plain x ∷ zs) (assembled-plain xs)

bind-plain : (xs : List Instr) (at : ℕ) (bound : List (Option ℕ)) → bind_all at (plain xs) bound ≡ bound
bind-plain [] at bound = refl
bind-plain (x ∷ xs) at bound = bind-plain xs (at + 1) bound

-- plain instructions as items
pub code_is : (code : Code) (xs : List Instr) → put_code code xs ≡ put code (plain xs)
unfolding put put_code
code_is code xs =
    ap (λ (items : List Assembled). made (code.items ++ items) code.bound) (sym (assembled-plain xs))
    ∙ ap (made (code.items ++ assembled (plain xs))) (sym (bind-plain xs (length code.items) code.bound))

pub code_put : (code : Code) (xs : List Instr) (ys : List Item) → put (put_code code xs) ys ≡ put code (plain xs ++ ys)
code_put code xs ys = ap (λ (c : Code). put c ys) (code_is code xs) ∙ put-put code (plain xs) ys

const-same : (k : ℕ) (rd : Reg) (n : ℕ) → constant.const_code k rd n ≡ const_code k rd n
const-same zero rd n = refl
const-same (suc k) rd n =
    ap (λ (code : List Instr). cond (is_word n) (word_code rd n) (code ++ Imm Slli rd rd (pos 12) ∷ add_low Addi rd n)) (const-same k rd (high_part n))

-- a constant that the assembler loads
pub loaded_code : (code : Code) (rd : Reg) (n : ℕ) → record code { items = code.items ++ map asm.Plain (constant.const_code 3 rd n) } ≡ put_code code (const_code 3 rd n)
unfolding put_code
loaded_code code rd n = ap (λ (xs : List Instr). made (code.items ++ map asm.Plain xs) code.bound) (const-same 3 rd n)

-- a label, behind the code
pub bound_put : (code : Code) (label : ℕ) → record code { bound = slice_set code.bound label (Some (length code.items)) } ≡ put code (Bind label ∷ [])
unfolding put
bound_put code label = ap (λ (items : List Assembled). made items (slice_set code.bound label (Some (length code.items)))) (sym (append-nil code.items))

abbrev nowhere : Option ℕ
nowhere = None

replicate-more : (k : ℕ) → replicate k nowhere ++ nowhere ∷ [] ≡ replicate (suc k) nowhere
replicate-more zero = refl
replicate-more (suc k) = ap (λ (xs : List (Option ℕ)). nowhere ∷ xs) (replicate-more k)

-- one label more
pub labelled_more : (code new : Code) (k next : ℕ) → next ≡ k + 1 → code ≡ labelled k → new ≡ record code { bound = code.bound ++ None ∷ [] } → new ≡ labelled next
labelled_more code new k next follows is e =
    e ∙ ap (λ (c : Code). record c { bound = c.bound ++ None ∷ [] }) is ∙ ap (made []) (replicate-more k)
    ∙ ap labelled (let z : suc k ≡ next = omega (arith, follows) in z)

-- ---- loops

-- one step more of a loop whose rest is this
pub more_code : (code one total : Code) (xs ys : List Instr) → put_code code (xs ++ ys) ≡ total → one ≡ put_code code xs → put_code one ys ≡ total
more_code code one total xs ys h e = ap (λ (c : Code). put_code c ys) e ∙ code_code code xs ys ∙ h

pub drop-past : {A : Type 0} (xs : List A) (i : ℕ) → length xs ≤ i → drop i xs ≡ []
drop-past [] zero le = refl
drop-past [] (suc i) le = refl
drop-past (x ∷ xs) zero le = absurd (let bad : ⊥ = omega (arith, le) in bad)
drop-past (x ∷ xs) (suc i) le = drop-past xs i (omega (arith, le))

pub instr_more : (code one total : Code) (instrs : List Instr) (i : ℕ) (d : Instr) → i < length instrs → put_code code (drop i instrs) ≡ total → one ≡ put_code code (get_or instrs i d ∷ [])
    → put_code one (drop (i + 1) instrs) ≡ total
instr_more code one total instrs i d lt h e =
    let all : drop i instrs ≡ get_or instrs i d ∷ drop (i + 1) instrs =
    drop-cons instrs i d lt ∙ ap (λ (n : ℕ). get_or instrs i d ∷ drop n instrs) (let k : suc i ≡ i + 1 = omega arith in k) in
    more_code code one total (get_or instrs i d ∷ []) (drop (i + 1) instrs) (ap (put_code code) (sym all) ∙ h) e

pub instrs_done : (code total : Code) (instrs : List Instr) (i : ℕ) → length instrs ≤ i → put_code code (drop i instrs) ≡ total → code ≡ total
instrs_done code total instrs i le h = sym (code_none code) ∙ ap (put_code code) (sym (drop-past instrs i le)) ∙ h

-- an instruction of a list of valid ones
pub valid-at : (is : List Instr) (k : ℕ) (d : Instr) → AreValid is → k < length is → IsValid (get_or is k d)
valid-at [] k d h lt = absurd (omega arith)
valid-at (i ∷ is) zero d h lt = h.0
valid-at (i ∷ is) (suc k) d h lt = valid-at is k d h.1 (omega arith)

-- ---- the code that enters

pub then-code : (code one new : Code) (xs ys : List Instr) → one ≡ put_code code xs → new ≡ put_code one ys → new ≡ put_code code (xs ++ ys)
then-code code one new xs ys e f = f ∙ ap (λ (c : Code). put_code c ys) e ∙ code_code code xs ys

pub prologue_put : (code one two three new : Code) (symbol frame : ℕ) → one ≡ put_code code (Imm Addi T0 X0 (pos 1) ∷ Imm Addi T1 X0 (pos symbol) ∷ Ecall ∷ []) → two ≡ put_code one (lowered_code frame)
    → three ≡ put_code two (Lui T2 0x40000 ∷ Branch Bgeu T0 T2 (pos 12) ∷ Imm Addi T0 X0 (pos 2) ∷ Ecall ∷ lower_sp frame ∷ []) → new ≡ put_code three (store_at Ra (frame - 8)) → new ≡ put_code code (prologue symbol frame)
prologue_put code one two three new symbol frame h1 h2 h3 h4 =
    let test : List Instr = Lui T2 0x40000 ∷ Branch Bgeu T0 T2 (pos 12) ∷ Imm Addi T0 X0 (pos 2) ∷ Ecall ∷ lower_sp frame ∷ [] in
    then-code code one new (Imm Addi T0 X0 (pos 1) ∷ Imm Addi T1 X0 (pos symbol) ∷ Ecall ∷ []) (lowered_code frame ++ (test ++ store_at Ra (frame - 8))) h1
    (then-code one two new (lowered_code frame) (test ++ store_at Ra (frame - 8)) h2 (then-code two three new test (store_at Ra (frame - 8)) h3 h4))
