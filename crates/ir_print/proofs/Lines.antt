-- Lists whose items go by their number, an item at a time.
use Rattle.std.proofs.Common.{◌≡◌, ℕ, ◌+◌, ◌<◌, ◌≤◌, Bool, List, [], ◌∷◌, ◌++◌, length, get_or, drop, refl, sym, ◌∙◌, ap, arith}
use Rattle.std.specs.Prelude.{map, codes, decimal, suc, nat_eq, Result, Ok, Err, OnOk, if◌then◌else◌}
use Rattle.std.proofs.lemmas.List.Sums.{sum_by-cons}
use Rattle.std.proofs.lemmas.List.{at_drop_more, at_drop_all, append_assoc, append-nil}
use Rattle.ir_core.specs.declared.types.Ty.{Ty}
use Rattle.ir_core.specs.declared.code.Inst.{Inst}
use Rattle.ir_core.specs.declared.code.Block.{Block}
use Rattle.ir_core.specs.declared.program.Module.{Module}
use Rattle.ir_core.specs.Units.{has_result, results}
use Rattle.ir_print.specs.Types.{comma, listed, ty_text}
use Rattle.ir_core.specs.declared.types.MemTy.{MemTy}
use Rattle.ir_core.specs.declared.types.MemTy.TheOpen as memory
use Rattle.ir_core.specs.declared.program.Init.{Init}
use Rattle.ir_print.specs.Values.{part_of, part_text, parts_text, list_opening, list_ending, list_text}
use Rattle.ir_print.specs.Instructions.{inst_text}
use Rattle.ir_print.specs.Modules.{next_value, insts_text, blocks_text, params_text}

-- two pieces behind a page, and what comes behind them
three : (page a b rest : List ℕ) → ((page ++ a) ++ b) ++ rest ≡ page ++ ((a ++ b) ++ rest)
three page a b rest = ap (λ (t : List ℕ). t ++ rest) (append_assoc page a b) ∙ append_assoc page (a ++ b) rest

pub inst_step : (m : Module) (ret : Ty) (value next i : ℕ) (insts : List Inst) (one : Inst) (page after total : List ℕ) → i < length insts → one ≡ get_or insts i one → next ≡ next_value value one
    → after ≡ page ++ inst_text m ret value one → page ++ insts_text m ret value (drop i insts) ≡ total → after ++ insts_text m ret next (drop (i + 1) insts) ≡ total
unfolding insts_text
inst_step m ret value next i insts one page after total lt is e w so_far =
    let here : insts_text m ret value (drop i insts) ≡ inst_text m ret value one ++ insts_text m ret next (drop (i + 1) insts) =
    at_drop_more (insts_text m ret value) insts i one lt ∙ rw (← is, e) refl in
    ap (λ (t : List ℕ). t ++ insts_text m ret next (drop (i + 1) insts)) w ∙ append_assoc page (inst_text m ret value one) (insts_text m ret next (drop (i + 1) insts))
    ∙ sym (ap (λ (t : List ℕ). page ++ t) here) ∙ so_far

pub insts_end : (m : Module) (ret : Ty) (value i : ℕ) (insts : List Inst) (page total : List ℕ) → length insts ≤ i → page ++ insts_text m ret value (drop i insts) ≡ total → page ≡ total
unfolding insts_text
insts_end m ret value i insts page total le so_far =
    sym (append-nil page) ∙ sym (at_drop_all (λ (t : List Inst). page ++ insts_text m ret value t) insts i le) ∙ so_far

sums : (value here rest all next last : ℕ) → next ≡ value + here → all ≡ here + rest → value + all ≡ last → next + rest ≡ last
sums value here rest all next last e f so_far = omega (arith, e, f, so_far)

pub result_step : (value next i last : ℕ) (insts : List Inst) (one : Inst) → i < length insts → one ≡ get_or insts i one → next ≡ next_value value one → value + results (drop i insts) ≡ last → next + results (drop (i + 1) insts) ≡ last
result_step value next i last insts one lt is e so_far =
    let here : results (drop i insts) ≡ (if has_result one then 1 else 0) + results (drop (i + 1) insts) =
    at_drop_more (λ (t : List Inst). results t) insts i one lt ∙ rw (← is) (sum_by-cons (λ (x : Inst). if has_result x then 1 else 0) one (drop (i + 1) insts)) in
    sums value (if has_result one then 1 else 0) (results (drop (i + 1) insts)) (results (drop i insts)) next last e here so_far

pub results_end : (value i last : ℕ) (insts : List Inst) → length insts ≤ i → value + results (drop i insts) ≡ last → value ≡ last
results_end value i last insts le so_far =
    let here = at_drop_all (λ (t : List Inst). results t) insts i le in omega (arith, here, so_far)

pub block_step : (m : Module) (ret : Ty) (value next i : ℕ) (blocks : List Block) (one : Block) (page middle after total : List ℕ) → i < length blocks → one ≡ get_or blocks i one → next ≡ value + results one.insts
    → middle ≡ page ++ (codes "b" ++ decimal i ++ codes ":\n") → after ≡ middle ++ insts_text m ret value one.insts
    → page ++ blocks_text m ret i value (drop i blocks) ≡ total → after ++ blocks_text m ret (i + 1) next (drop (i + 1) blocks) ≡ total
unfolding blocks_text
block_step m ret value next i blocks one page middle after total lt is e v w so_far =
    let rest = blocks_text m ret (i + 1) next (drop (i + 1) blocks) in
    let here : blocks_text m ret i value (drop i blocks) ≡ (codes "b" ++ decimal i ++ codes ":\n" ++ insts_text m ret value one.insts) ++ rest =
    at_drop_more (blocks_text m ret i value) blocks i one lt ∙ rw (← is, e) refl in
    rw (w, v) (three page (codes "b" ++ decimal i ++ codes ":\n") (insts_text m ret value one.insts) rest ∙ ap (λ (t : List ℕ). page ++ t) (sym here) ∙ so_far)

pub blocks_end : (m : Module) (ret : Ty) (number value i : ℕ) (blocks : List Block) (page total : List ℕ) → length blocks ≤ i → page ++ blocks_text m ret number value (drop i blocks) ≡ total → page ≡ total
unfolding blocks_text
blocks_end m ret number value i blocks page total le so_far =
    sym (append-nil page) ∙ sym (at_drop_all (λ (t : List Block). page ++ blocks_text m ret number value t) blocks i le) ∙ so_far

pub param_step : (i : ℕ) (tys : List Ty) (one other : Ty) (page after total : List ℕ) → i < length tys → one ≡ get_or tys i other
    → after ≡ page ++ (comma i ++ ty_text one ++ codes " %v" ++ decimal i)
    → page ++ params_text i (drop i tys) ≡ total → after ++ params_text (i + 1) (drop (i + 1) tys) ≡ total
unfolding params_text
param_step i tys one other page after total lt is w so_far =
    let here : params_text i (drop i tys) ≡ (comma i ++ ty_text one ++ codes " %v" ++ decimal i) ++ params_text (i + 1) (drop (i + 1) tys) =
    at_drop_more (params_text i) tys i other lt ∙ rw (← is) refl in
    rw w (append_assoc page _ _ ∙ ap (λ (t : List ℕ). page ++ t) (sym here) ∙ so_far)

pub params_end : (number i : ℕ) (tys : List Ty) (page total : List ℕ) → length tys ≤ i → page ++ params_text number (drop i tys) ≡ total → page ≡ total
unfolding params_text
params_end number i tys page total le so_far =
    sym (append-nil page) ∙ sym (at_drop_all (λ (t : List Ty). page ++ params_text number t) tys i le) ∙ so_far

pub listed_step : {X : Type 0} (text : X → List ℕ) (i : ℕ) (xs : List X) (one other : X) (page middle after total : List ℕ) → i < length xs → one ≡ get_or xs i other
    → middle ≡ page ++ comma i → after ≡ middle ++ text one
    → page ++ listed text i (drop i xs) ≡ total → after ++ listed text (i + 1) (drop (i + 1) xs) ≡ total
unfolding listed
listed_step {X = X} text i xs one other page middle after total lt is v w so_far =
    let here : listed text i (drop i xs) ≡ comma i ++ text one ++ listed text (i + 1) (drop (i + 1) xs) = at_drop_more (λ (t : List X). listed text i t) xs i other lt ∙ rw (← is) refl in
    rw (w, v) (three page (comma i) (text one) (listed text (i + 1) (drop (i + 1) xs)) ∙ ap (λ (t : List ℕ). page ++ t) (sym here) ∙ so_far)

pub listed_end : {X : Type 0} (text : X → List ℕ) (number i : ℕ) (xs : List X) (page total : List ℕ) → length xs ≤ i → page ++ listed text number (drop i xs) ≡ total → page ≡ total
unfolding listed
listed_end {X = X} text number i xs page total le so_far =
    sym (append-nil page) ∙ sym (at_drop_all (λ (t : List X). page ++ listed text number t) xs i le) ∙ so_far

pub part_step : (one : memory.MemTy-F MemTy) (f : Init → MemTy → List ℕ) (i : ℕ) (items : List Init) (item : Init) (page after total : List ℕ) → i < length items → item ≡ get_or items i item
    → after ≡ page ++ part_text (part_of one i) i (f item)
    → page ++ parts_text one i (map f (drop i items)) ≡ total → after ++ parts_text one (i + 1) (map f (drop (i + 1) items)) ≡ total
unfolding parts_text
part_step one f i items item page after total lt is w so_far =
    let here : parts_text one i (map f (drop i items)) ≡ part_text (part_of one i) i (f item) ++ parts_text one (i + 1) (map f (drop (i + 1) items)) =
    at_drop_more (λ (t : List Init). parts_text one i (map f t)) items i item lt ∙ rw (← is) refl in
    rw w (append_assoc page (part_text (part_of one i) i (f item)) (parts_text one (i + 1) (map f (drop (i + 1) items))) ∙ ap (λ (t : List ℕ). page ++ t) (sym here) ∙ so_far)

pub parts_end : (one : memory.MemTy-F MemTy) (f : Init → MemTy → List ℕ) (number i : ℕ) (items : List Init) (page total : List ℕ) → length items ≤ i → page ++ parts_text one number (map f (drop i items)) ≡ total → page ≡ total
unfolding parts_text
parts_end one f number i items page total le so_far =
    sym (append-nil page) ∙ sym (at_drop_all (λ (t : List Init). page ++ parts_text one number (map f t)) items i le) ∙ so_far

length_map : {X Y : Type 0} (f : X → Y) (xs : List X) → length (map f xs) ≡ length xs
length_map f [] = refl
length_map f (x ∷ xs) = ap (λ (n : ℕ). suc n) (length_map f xs)

list_whole : (one : memory.MemTy-F MemTy) (f : Init → MemTy → List ℕ) (items : List Init) (before page after : List ℕ) (empty : Bool) → empty ≡ nat_eq (length items) 0
    → page ≡ (before ++ list_opening one (nat_eq (length items) 0)) ++ parts_text one 0 (map f items) → after ≡ page ++ list_ending one empty → after ≡ before ++ list_text one (map f items)
list_whole one f items before page after empty e so_far last =
    let front = list_opening one (nat_eq (length items) 0) in
    let parts = parts_text one 0 (map f items) in
    let back = list_ending one (nat_eq (length items) 0) in
    let shown : (before ++ front) ++ parts ++ back ≡ before ++ (front ++ parts ++ back) =
    append_assoc (before ++ front) parts back ∙ append_assoc before front (parts ++ back) ∙ ap (λ (t : List ℕ). before ++ t) (sym (append_assoc front parts back)) in
    let whole = ap (λ (n : ℕ). before ++ (list_opening one (nat_eq n 0) ++ parts ++ list_ending one (nat_eq n 0))) (length_map f items) in
    last ∙ ap (λ (b : Bool). page ++ list_ending one b) e ∙ ap (λ (t : List ℕ). t ++ back) so_far ∙ shown ∙ sym whole

pub list_done : {X E : Type 0} (r : Result X E) (one : memory.MemTy-F MemTy) (f : Init → MemTy → List ℕ) (items : List Init) (before page after : List ℕ) (empty : Bool) → empty ≡ nat_eq (length items) 0
    → page ≡ (before ++ list_opening one (nat_eq (length items) 0)) ++ parts_text one 0 (map f items) → OnOk r (after ≡ page ++ list_ending one empty) → OnOk r (after ≡ before ++ list_text one (map f items))
list_done (Ok x) one f items before page after empty e so_far last = list_whole one f items before page after empty e so_far last
list_done (Err x) one f items before page after empty e so_far last = last

joined : (p a b c d e : List ℕ) → ((((p ++ a) ++ b) ++ c) ++ d) ++ e ≡ p ++ (a ++ b ++ c ++ d ++ e)
joined p a b c d e =
    let two : (p ++ a) ++ b ≡ p ++ (a ++ b) = append_assoc p a b in
    let more : ((p ++ a) ++ b) ++ c ≡ p ++ (a ++ b ++ c) = ap (λ (t : List ℕ). t ++ c) two ∙ append_assoc p (a ++ b) c in
    let four : (((p ++ a) ++ b) ++ c) ++ d ≡ p ++ (a ++ b ++ c ++ d) = ap (λ (t : List ℕ). t ++ d) more ∙ append_assoc p (a ++ b ++ c) d in
    ap (λ (t : List ℕ). t ++ e) four ∙ append_assoc p (a ++ b ++ c ++ d) e

-- five pieces written behind a page, one behind the other
pub five_written : {X E : Type 0} (r : Result X E) (a b c d e p p1 p2 p3 p4 p5 : List ℕ) → p1 ≡ p ++ a → p2 ≡ p1 ++ b → p3 ≡ p2 ++ c → p4 ≡ p3 ++ d → OnOk r (p5 ≡ p4 ++ e) → OnOk r (p5 ≡ p ++ (a ++ b ++ c ++ d ++ e))
five_written (Ok x) a b c d e p p1 p2 p3 p4 p5 h1 h2 h3 h4 h5 =
    let s2 : p2 ≡ (p ++ a) ++ b = h2 ∙ ap (λ (t : List ℕ). t ++ b) h1 in
    let s3 : p3 ≡ ((p ++ a) ++ b) ++ c = h3 ∙ ap (λ (t : List ℕ). t ++ c) s2 in
    let s4 : p4 ≡ (((p ++ a) ++ b) ++ c) ++ d = h4 ∙ ap (λ (t : List ℕ). t ++ d) s3 in
    h5 ∙ ap (λ (t : List ℕ). t ++ e) s4 ∙ joined p a b c d e
five_written (Err x) a b c d e p p1 p2 p3 p4 p5 h1 h2 h3 h4 h5 = h5
