-- The code of a function that is formed is well formed.
use Rattle.std.proofs.Common.{◌≡◌, ◌≢◌, refl, sym, ap, subst, ◌∙◌, ℕ, zero, suc, ◌+◌, ◌-◌, ◌<◌, ◌≤◌, ◌⊎◌, inl, inr, ⊎_elim, Bool, true, false, ◌&&◌, List, [], ◌∷◌, ◌++◌, length, map, flat_map, Option, Some, None, arith}
use Rattle.std.specs.Prelude.{◌==◌, ◌↔◌, slice_get, slice_index, slice_index_or, unwrap_or, if◌then◌else◌}
use Rattle.std.specs.List.{Contains}
use Rattle.std.proofs.lemmas.Bool.{cases_lt, eqb-true, eq-eqb, and_from, cases_Bool}
use Rattle.std.proofs.lemmas.List.{append_assoc, append-nil}
use Rattle.std.proofs.lemmas.Grind.{flat_map-append}
use Rattle.std.proofs.lemmas.Option.{slice_get_within}
use Rattle.ir_core.specs.declared.code.Pred.{Pred}
use Rattle.ir_core.specs.declared.code.Pred.TheVariants as pred
use Rattle.gmir.specs.declared.code.GOp.{GOp}
use Rattle.gmir.specs.declared.code.GOp.TheVariants.{Add, Sub, Mul, UDiv, SDiv, URem, SRem, And, Or, Xor, Shl, LShr, AShr, Icmp, Select, Trunc, ZExt, SExt, AnyExt, SExtInReg, PtrToInt, IntToPtr, PtrAdd, Constant, Phi, Load, Store, Br, BrCond, Param, Call, Return, TakeData, CopyBytes, FillBytes, Copy, Trap}
use Rattle.gmir.specs.declared.code.GInst.{GInst}
use Rattle.gmir.specs.declared.code.GFunction.{GFunction}
use Rattle.gmir.specs.Play.{def_at, insts_at, is_phi}
use Rattle.gmir.specs.Formed.{is_branch, is_end, is_param, takes_data, targets, edges, times, HasForm, IsPhiAt, IsParamAt, IsInstAt, IsFormed}
use Rattle.mir.specs.declared.code.MInst.{MInst}
use Rattle.mir.specs.declared.code.MInst.TheVariants as m
use Rattle.mir.specs.declared.code.MFunction.{MFunction}
use Rattle.mir.specs.Code as target
use Rattle.mir.specs.WellFormed as formed
use Rattle.walks.specs.Bits.{predicates}
use Rattle.selected_code.specs.Selected.{compare, paired, code_by, code, fresh, fresh_in, fresh_of, code_from, blocks_from, selected}
use Rattle.selected_code.specs.Laws.{SelectedIsWellFormed}
use Rattle.selected_code.proofs.Straight.{AllBelow}
use Rattle.selected_code.proofs.Edges.{phi_is}
use Rattle.selected_code.proofs.Members.{In, in_from, in_to, in_get, times_from, times_to, once, flat_get, flat_put}
use Rattle.selected_code.proofs.Fitting.{Fits, EachFits, Found, found, fits_by}

-- ---- lists

get_left : {A : Type 0} (xs ys : List A) (k : ℕ) → k < length xs → slice_get (xs ++ ys) k ≡ slice_get xs k
get_left [] ys k h = absurd (let bad : ⊥ = omega arith in bad)
get_left (x ∷ xs) ys zero h = refl
get_left (x ∷ xs) ys (suc k) h = get_left xs ys k (omega arith)

get_right : {A : Type 0} (xs ys : List A) (k : ℕ) → slice_get (xs ++ ys) (length xs + k) ≡ slice_get ys k
get_right [] ys k = ap (slice_get ys) (let z : 0 + k ≡ k = omega arith in z)
get_right (x ∷ xs) ys k = ap (slice_get (x ∷ xs ++ ys)) (let z : suc (length xs) + k ≡ suc (length xs + k) = omega arith in z) ∙ get_right xs ys k

length_both : {A : Type 0} (xs ys : List A) → length (xs ++ ys) ≡ length xs + length ys
length_both [] ys = omega arith
length_both (x ∷ xs) ys = let e = length_both xs ys in omega (arith, e)

below_in : (top : ℕ) (rs : List ℕ) → AllBelow top rs → (r : ℕ) → In r rs → r < top
below_in top [] h r i = absurd i
below_in top (x ∷ xs) h r (inl e) = subst (λ z. z < top) e h.0
below_in top (x ∷ xs) h r (inr i) = below_in top xs h.1 r i

-- ---- an instruction of a block's code, with the one that it comes from

pub record Located (t : ℕ) (is : List GInst) (place : ℕ) (x : MInst) : Type 0 where
  pub passed : List GInst
  pub inst : GInst
  pub behind : List GInst
  pub split : is ≡ passed ++ inst ∷ behind
  pub from : ℕ
  pub within : ℕ
  pub get : slice_get (code from inst) within ≡ Some x
  pub place' : place ≡ length (code_from t passed) + within
  pub long : length (code_from t is) ≡ length (code_from t passed) + length (code from inst) + length (code_from (from + fresh inst.op) behind)
  pub low : t ≤ from
  pub high : from + fresh inst.op ≤ t + fresh_in is
  pub parts : code_from t is ≡ code_from t passed ++ (code from inst ++ code_from (from + fresh inst.op) behind)

located_later : (t : ℕ) (i : GInst) (is : List GInst) (place k : ℕ) (x : MInst) → place ≡ length (code t i) + k → Located (t + fresh i.op) is k x → Located t (i ∷ is) place x
located_later t i is place k x e r =
    let sum = r.place' in let long = r.long in let low = r.low in let high = r.high in
    let first = length_both (code t i) (code_from (t + fresh i.op) r.passed) in
    let all = length_both (code t i) (code_from (t + fresh i.op) is) in
    record {
      passed = i ∷ r.passed;
      inst = r.inst;
      behind = r.behind;
      split = ap (λ l. i ∷ l) r.split;
      from = r.from;
      within = r.within;
      get = r.get;
      place' = omega (arith, e, sum, first);
      long = omega (arith, long, first, all);
      low = omega (arith, low);
      high = omega (arith, high);
      parts = ap (λ l. code t i ++ l) r.parts ∙ sym (append_assoc (code t i) (code_from (t + fresh i.op) r.passed) (code r.from r.inst ++ code_from (r.from + fresh r.inst.op) r.behind));
    }

located : (t : ℕ) (is : List GInst) (place : ℕ) (x : MInst) → slice_get (code_from t is) place ≡ Some x → Located t is place x
located t [] place x e = absurd (let bad : ⊥ = cc in bad)
located t (i ∷ is) place x e = ⊎_elim here (later (λ k e. located (t + fresh i.op) is k x e)) (cases_lt place (length (code t i)))
  where
    here : place < length (code t i) → Located t (i ∷ is) place x
    here l = record {
      passed = [];
      inst = i;
      behind = is;
      split = refl;
      from = t;
      within = place;
      get = sym (get_left (code t i) (code_from (t + fresh i.op) is) place l) ∙ e;
      place' = omega arith;
      long = (let all = length_both (code t i) (code_from (t + fresh i.op) is) in omega (arith, all));
      low = omega arith;
      high = omega arith;
      parts = refl;
    }

    later : ((k : ℕ) → slice_get (code_from (t + fresh i.op) is) k ≡ Some x → Located (t + fresh i.op) is k x) → length (code t i) ≤ place → Located t (i ∷ is) place x
    later go l =
        let k : ℕ = place - length (code t i) in
        let sum : place ≡ length (code t i) + k = omega (arith, l) in
        located_later t i is place k x sum
        (go k (sym (get_right (code t i) (code_from (t + fresh i.op) is) k) ∙ ap (slice_get (code_from t (i ∷ is))) (sym sum) ∙ e))

-- ---- no code is empty
filled_compare : (c : Pred) (t d a b : ℕ) → 1 ≤ length (compare c t d a b)
filled_compare pred.Eq t d a b = omega arith
filled_compare pred.Ne t d a b = omega arith
filled_compare pred.Ugt t d a b = omega arith
filled_compare pred.Uge t d a b = omega arith
filled_compare pred.Ult t d a b = omega arith
filled_compare pred.Ule t d a b = omega arith
filled_compare pred.Sgt t d a b = omega arith
filled_compare pred.Sge t d a b = omega arith
filled_compare pred.Slt t d a b = omega arith
filled_compare pred.Sle t d a b = omega arith

filled_by : (t : ℕ) (i : GInst) (op : GOp) → 1 ≤ length (code_by t i op)
filled_by t i Icmp = filled_compare (slice_index_or predicates i.num pred.Eq) _ _ _ _
filled_by t i Add = omega arith
filled_by t i Sub = omega arith
filled_by t i Mul = omega arith
filled_by t i UDiv = omega arith
filled_by t i SDiv = omega arith
filled_by t i URem = omega arith
filled_by t i SRem = omega arith
filled_by t i And = omega arith
filled_by t i Or = omega arith
filled_by t i Xor = omega arith
filled_by t i Shl = omega arith
filled_by t i LShr = omega arith
filled_by t i AShr = omega arith
filled_by t i Select = omega arith
filled_by t i Trunc = omega arith
filled_by t i ZExt = omega arith
filled_by t i SExt = omega arith
filled_by t i AnyExt = omega arith
filled_by t i SExtInReg = omega arith
filled_by t i PtrToInt = omega arith
filled_by t i IntToPtr = omega arith
filled_by t i PtrAdd = omega arith
filled_by t i Constant = omega arith
filled_by t i Phi = omega arith
filled_by t i Load = omega arith
filled_by t i Store = omega arith
filled_by t i Br = omega arith
filled_by t i BrCond = omega arith
filled_by t i Param = omega arith
filled_by t i Call = omega arith
filled_by t i Return = omega arith
filled_by t i TakeData = omega arith
filled_by t i CopyBytes = omega arith
filled_by t i FillBytes = omega arith
filled_by t i Copy = omega arith
filled_by t i Trap = omega arith

filled : (t : ℕ) (is : List GInst) → length (code_from t is) ≡ 0 → length is ≡ 0
filled t [] h = refl
filled t (i ∷ is) h =
    let some = filled_by t i i.op in
    let all = length_both (code t i) (code_from (t + fresh i.op) is) in
    absurd (let bad : ⊥ = omega (arith, some, all, h) in bad)

-- ---- edges
no_targets : (c : Pred) (t d a b : ℕ) → flat_map target.targets (compare c t d a b) ≡ []
no_targets pred.Eq t d a b = refl
no_targets pred.Ne t d a b = refl
no_targets pred.Ugt t d a b = refl
no_targets pred.Uge t d a b = refl
no_targets pred.Ult t d a b = refl
no_targets pred.Ule t d a b = refl
no_targets pred.Sgt t d a b = refl
no_targets pred.Sge t d a b = refl
no_targets pred.Slt t d a b = refl
no_targets pred.Sle t d a b = refl

module _ (g : GFunction) (t : ℕ) (i : GInst) where
  abbrev Leaves : GOp → Type 0
  Leaves op = flat_map target.targets (code_by t i op) ≡ (if is_branch op then i.to else [])

  leaves_by : (op : GOp) → HasForm g i op → Leaves op
  leaves_by Br form = ap (λ l. slice_index_or l 0 0 ∷ []) form.3 ∙ sym form.3
  leaves_by BrCond form = ap (λ l. slice_index_or l 0 0 ∷ slice_index_or l 1 0 ∷ []) form.6 ∙ sym form.6
  leaves_by Icmp form = no_targets (slice_index_or predicates i.num pred.Eq) _ _ _ _
  leaves_by Add form = refl
  leaves_by Sub form = refl
  leaves_by Mul form = refl
  leaves_by UDiv form = refl
  leaves_by SDiv form = refl
  leaves_by URem form = refl
  leaves_by SRem form = refl
  leaves_by And form = refl
  leaves_by Or form = refl
  leaves_by Xor form = refl
  leaves_by Shl form = refl
  leaves_by LShr form = refl
  leaves_by AShr form = refl
  leaves_by Select form = refl
  leaves_by Trunc form = refl
  leaves_by ZExt form = refl
  leaves_by SExt form = refl
  leaves_by AnyExt form = refl
  leaves_by SExtInReg form = refl
  leaves_by PtrToInt form = refl
  leaves_by IntToPtr form = refl
  leaves_by PtrAdd form = refl
  leaves_by Constant form = refl
  leaves_by Phi form = refl
  leaves_by Load form = refl
  leaves_by Store form = refl
  leaves_by Param form = refl
  leaves_by Call form = refl
  leaves_by Return form = refl
  leaves_by TakeData form = refl
  leaves_by CopyBytes form = refl
  leaves_by FillBytes form = refl
  leaves_by Copy form = refl
  leaves_by Trap form = refl

-- ---- parameters and phis behind their like
abbrev AllAre : (MInst → Bool) → List MInst → Type 0
AllAre test [] = Unit {0}
AllAre test (x ∷ xs) = (test x ≡ true) × AllAre test xs

all_get : (test : MInst → Bool) (xs : List MInst) → AllAre test xs → (k : ℕ) (x : MInst) → slice_get xs k ≡ Some x → test x ≡ true
all_get test [] h k x e = absurd (let bad : ⊥ = cc in bad)
all_get test (y ∷ ys) h zero x e = subst (λ z. test z ≡ true) (sym (ap (λ o. unwrap_or o x) (sym e))) h.0
all_get test (y ∷ ys) h (suc k) x e = all_get test ys h.1 k x e

param_is : (op : GOp) → is_param op ≡ true → op ≡ Param
param_is Param e = refl
param_is Add e = absurd (let bad : ⊥ = cc in bad)
param_is Sub e = absurd (let bad : ⊥ = cc in bad)
param_is Mul e = absurd (let bad : ⊥ = cc in bad)
param_is UDiv e = absurd (let bad : ⊥ = cc in bad)
param_is SDiv e = absurd (let bad : ⊥ = cc in bad)
param_is URem e = absurd (let bad : ⊥ = cc in bad)
param_is SRem e = absurd (let bad : ⊥ = cc in bad)
param_is And e = absurd (let bad : ⊥ = cc in bad)
param_is Or e = absurd (let bad : ⊥ = cc in bad)
param_is Xor e = absurd (let bad : ⊥ = cc in bad)
param_is Shl e = absurd (let bad : ⊥ = cc in bad)
param_is LShr e = absurd (let bad : ⊥ = cc in bad)
param_is AShr e = absurd (let bad : ⊥ = cc in bad)
param_is Icmp e = absurd (let bad : ⊥ = cc in bad)
param_is Select e = absurd (let bad : ⊥ = cc in bad)
param_is Trunc e = absurd (let bad : ⊥ = cc in bad)
param_is ZExt e = absurd (let bad : ⊥ = cc in bad)
param_is SExt e = absurd (let bad : ⊥ = cc in bad)
param_is AnyExt e = absurd (let bad : ⊥ = cc in bad)
param_is SExtInReg e = absurd (let bad : ⊥ = cc in bad)
param_is PtrToInt e = absurd (let bad : ⊥ = cc in bad)
param_is IntToPtr e = absurd (let bad : ⊥ = cc in bad)
param_is PtrAdd e = absurd (let bad : ⊥ = cc in bad)
param_is Constant e = absurd (let bad : ⊥ = cc in bad)
param_is Phi e = absurd (let bad : ⊥ = cc in bad)
param_is Load e = absurd (let bad : ⊥ = cc in bad)
param_is Store e = absurd (let bad : ⊥ = cc in bad)
param_is Br e = absurd (let bad : ⊥ = cc in bad)
param_is BrCond e = absurd (let bad : ⊥ = cc in bad)
param_is Call e = absurd (let bad : ⊥ = cc in bad)
param_is Return e = absurd (let bad : ⊥ = cc in bad)
param_is TakeData e = absurd (let bad : ⊥ = cc in bad)
param_is CopyBytes e = absurd (let bad : ⊥ = cc in bad)
param_is FillBytes e = absurd (let bad : ⊥ = cc in bad)
param_is Copy e = absurd (let bad : ⊥ = cc in bad)
param_is Trap e = absurd (let bad : ⊥ = cc in bad)

-- all of these pass the test, so their code does
abbrev EachPasses : (GOp → Bool) → List GInst → Type 0
EachPasses test is = (other : GInst) (k : ℕ) → slice_get is k ≡ Some other → test other.op ≡ true

params_first : (t : ℕ) (is : List GInst) → EachPasses is_param is → AllAre formed.is_param (code_from t is)
params_first t [] h = tt
params_first t (i ∷ is) h =
    let rest = params_first (t + fresh i.op) is (λ other k e. h other (suc k) e) in
    subst (λ op. AllAre formed.is_param (code_by t i op ++ code_from (t + fresh i.op) is)) (sym (param_is i.op (h i 0 refl))) (refl, rest)

phis_first : (t : ℕ) (is : List GInst) → EachPasses is_phi is → AllAre formed.is_phi (code_from t is)
phis_first t [] h = tt
phis_first t (i ∷ is) h =
    let rest = phis_first (t + fresh i.op) is (λ other k e. h other (suc k) e) in
    subst (λ op. AllAre formed.is_phi (code_by t i op ++ code_from (t + fresh i.op) is)) (sym (phi_is i.op (h i 0 refl))) (refl, rest)

-- ---- the code of a block, with the registers that it may name
record BlockOf (t top : ℕ) (blocks : List (List GInst)) (k : ℕ) : Type 0 where
  next : ℕ
  low : t ≤ next
  high : next + fresh_in (slice_index_or blocks k []) ≤ top
  is : slice_index_or (blocks_from t blocks) k [] ≡ code_from next (slice_index_or blocks k [])

block_of : (t top : ℕ) (blocks : List (List GInst)) → t + fresh_of blocks ≤ top → (k : ℕ) → BlockOf t top blocks k
block_of t top [] h zero = record { next = t; low = omega arith; high = omega (arith, h); is = refl }
block_of t top [] h (suc k) = record { next = t; low = omega arith; high = omega (arith, h); is = refl }
block_of t top (insts ∷ blocks) h zero = record { next = t; low = omega arith; high = omega (arith, h); is = refl }
block_of t top (insts ∷ blocks) h (suc k) =
    let r = block_of (t + fresh_in insts) top blocks (omega (arith, h)) k in
    let low = r.low in
    record { next = r.next; low = omega (arith, low); high = r.high; is = r.is }

same_count : (t : ℕ) (blocks : List (List GInst)) → length (blocks_from t blocks) ≡ length blocks
same_count t [] = refl
same_count t (insts ∷ blocks) = ap suc (same_count (t + fresh_in insts) blocks)

seconds : (rs bs : List ℕ) → length bs ≡ length rs → map (λ (pair : ℕ × ℕ). pair.1) (paired rs bs) ≡ bs
seconds [] [] e = refl
seconds [] (b ∷ bs) e = absurd (let bad : ⊥ = omega (arith, e) in bad)
seconds (r ∷ rs) [] e = absurd (let bad : ⊥ = omega (arith, e) in bad)
seconds (r ∷ rs) (b ∷ bs) e = ap (λ l. b ∷ l) (seconds rs bs (let z : length bs ≡ length rs = omega (arith, e) in z))

no_sources : (x : MInst) → formed.is_phi x ≡ false → formed.sources x ≡ []
no_sources (m.Phi d pairs) e = absurd (let bad : ⊥ = cc in bad)
no_sources (m.Param d n) e = refl
no_sources (m.Op op d a b) e = refl
no_sources (m.Imm op d a n) e = refl
no_sources (m.Const d n) e = refl
no_sources (m.Move d a) e = refl
no_sources (m.Load op d a n) e = refl
no_sources (m.Store op a b n) e = refl
no_sources (m.Call callee args results) e = refl
no_sources (m.TakeData d n) e = refl
no_sources (m.CopyBytes a b n) e = refl
no_sources (m.FillBytes a b n) e = refl
no_sources (m.Branch op a b t e') e = refl
no_sources (m.Jump t) e = refl
no_sources (m.Return rs) e = refl
no_sources m.Trap e = refl

inside_or : (blocks : List (List GInst)) (k : ℕ) → (k < length blocks) ⊎ (slice_index_or blocks k [] ≡ [])
inside_or [] zero = inr refl
inside_or [] (suc k) = inr refl
inside_or (b ∷ bs) zero = inl (omega arith)
inside_or (b ∷ bs) (suc k) = ⊎_elim (λ l. inl (omega (arith, l))) (λ e. inr e) (inside_or bs k)

both_true : (a b : Bool) → (a && b) ≡ true → (a ≡ true) × (b ≡ true)
both_true true true e = (refl, refl)
both_true true false e = absurd (let bad : ⊥ = cc in bad)
both_true false true e = absurd (let bad : ⊥ = cc in bad)
both_true false false e = absurd (let bad : ⊥ = cc in bad)

module _ (g : GFunction) (formed' : IsFormed g) where
  abbrev n : ℕ
  n = length g.types

  abbrev top : ℕ
  top = n + fresh_of g.blocks

  abbrev f : MFunction
  f = selected g

  here_of : (k : ℕ) → BlockOf n top g.blocks k
  here_of k = block_of n top g.blocks (omega arith) k

  -- the edges of a block's code are those of the block
  leaves_from : (block : ℕ) → block < length g.blocks → (t : ℕ) (done is : List GInst) → insts_at g block ≡ done ++ is → flat_map target.targets (code_from t is) ≡ flat_map targets is
  leaves_from block inside t done [] e = refl
  leaves_from block inside t done (i ∷ is) e =
      let at = formed'.insts block done i is inside e in
      flat_map-append target.targets (code t i) (code_from (t + fresh i.op) is)
      ∙ ap (λ l. l ++ flat_map target.targets (code_from (t + fresh i.op) is)) (leaves_by g t i i.op at.form)
      ∙ ap (λ l. targets i ++ l) (leaves_from block inside (t + fresh i.op) (done ++ i ∷ []) is (e ∙ sym (append_assoc done (i ∷ []) is)))

  -- an instruction goes to a block exactly where the block's edges do
  leads_by : (from to : ℕ) → flat_map target.targets (target.block_of f from) ≡ edges (insts_at g from) → formed.Leads f from to ↔ (1 ≤ times to (edges (insts_at g from)))
  leads_by from to e = (
    λ l. times_to to (edges (insts_at g from)) (subst (In to) e (flat_put target.targets to (target.block_of f from) l.0 l.1 l.2 (in_from to (target.targets l.1) l.3))),
    λ h. let r = flat_get target.targets to (target.block_of f from) (subst (In to) (sym e) (times_from to (edges (insts_at g from)) h)) in
        (r.0, r.1, r.2, in_to to (target.targets r.1) r.3),
  )

  edges_same : (from : ℕ) → flat_map target.targets (target.block_of f from) ≡ edges (insts_at g from)
  edges_same from =
      let b = here_of from in
      ap (flat_map target.targets) b.is
      ∙ ⊎_elim (λ inside. leaves_from from inside b.next [] (insts_at g from) refl)
      (λ e. subst (λ is. flat_map target.targets (code_from b.next is) ≡ edges is) (sym e) refl) (inside_or g.blocks from)

  leads : (from to : ℕ) → formed.Leads f from to ↔ (1 ≤ times to (edges (insts_at g from)))
  leads from to = leads_by from to (edges_same from)

  -- ---- one instruction
  module _ (block place : ℕ) (x : MInst) (next : ℕ) (low : n ≤ next) (high : next + fresh_in (insts_at g block) ≤ top) (is : target.block_of f block ≡ code_from next (insts_at g block))
      (inside : block < length g.blocks) (l : Located next (insts_at g block) place x) where
    at : IsInstAt g block l.passed l.inst l.behind
    at = formed'.insts block l.passed l.inst l.behind inside l.split

    n_top : n ≤ top
    n_top = omega arith

    abbrev op : GOp
    op = l.inst.op

    there : Found top op (code l.from l.inst) l.within x
    there =
        let a = l.low in let b = l.high in
        found top op (code l.from l.inst)
        (fits_by g formed' l.inst at.defs at.uses l.from top (omega (arith, low, a)) op at.form n_top (omega (arith, b, high))) l.within x l.get

    fits : Fits top op x there.behind
    fits = there.fits

    ends : (target.ends_block x ≡ true) ↔ (place + 1 ≡ length (target.block_of f block))
    ends = (forward, backward)
      where
        all : length (target.block_of f block) ≡ length (code_from next (insts_at g block))
        all = ap length is

        forward : target.ends_block x ≡ true → place + 1 ≡ length (target.block_of f block)
        forward e =
            let both = both_true (is_end op) (length there.behind == 0) (sym fits.ends ∙ e) in
            let last : length there.behind ≡ 0 = eqb-true (length there.behind) 0 both.1 in
            let none : length l.behind ≡ 0 = eqb-true (length l.behind) 0 (sym at.ends ∙ both.0) in
            let empty : l.behind ≡ [] = no_items l.behind none in
            let rest : length (code_from (l.from + fresh op) l.behind) ≡ 0 = ap (λ z. length (code_from (l.from + fresh op) z)) empty in
            let p = l.place' in let q = l.long in let r = there.long in
            omega (arith, last, rest, p, q, r, all)
          where
            no_items : (xs : List GInst) → length xs ≡ 0 → xs ≡ []
            no_items [] e = refl
            no_items (x ∷ xs) e = absurd (let bad : ⊥ = omega (arith, e) in bad)

        backward : place + 1 ≡ length (target.block_of f block) → target.ends_block x ≡ true
        backward e =
            let p = l.place' in let q = l.long in let r = there.long in
            let last : length there.behind ≡ 0 = omega (arith, e, p, q, r, all) in
            let rest : length (code_from (l.from + fresh op) l.behind) ≡ 0 = omega (arith, e, p, q, r, all) in
            let none : length l.behind ≡ 0 = filled (l.from + fresh op) l.behind rest in
            fits.ends ∙ and_from (is_end op) (length there.behind == 0) (at.ends ∙ eq-eqb (length l.behind) 0 none) (eq-eqb (length there.behind) 0 last)

    -- it is alone in its code, and what stands before it is the code of what stands before its own
    before_all : (test : MInst → Bool) → AllAre test (code_from next l.passed) → l.within ≡ 0 → formed.AllBefore f block place test
    before_all test h first k y less e =
        let p = l.place' in
        let under : k < length (code_from next l.passed) = omega (arith, p, first, less) in
        all_get test (code_from next l.passed) h k y
        (sym (get_left (code_from next l.passed) (code l.from l.inst ++ code_from (l.from + fresh op) l.behind) k under) ∙ ap (λ z. slice_get z k) (sym l.parts) ∙ ap (λ z. slice_get z k) (sym is) ∙ e)

    first_of_one : (y : MInst) → code l.from l.inst ≡ y ∷ [] → (l.within ≡ 0) × (x ≡ y)
    first_of_one y e = by_place l.within (ap (λ z. slice_get z l.within) (sym e) ∙ l.get)
      where
        by_place : (k : ℕ) → slice_get (y ∷ []) k ≡ Some x → (k ≡ 0) × (x ≡ y)
        by_place zero e = (refl, sym (ap (λ o. unwrap_or o x) e))
        by_place (suc k) e = absurd (let bad : ⊥ = cc in bad)

    params : formed.is_param x ≡ true → (block ≡ 0) × formed.AllBefore f block place formed.is_param
    params e =
        let is_one : is_param op ≡ true = sym fits.param ∙ e in
        let stands : IsParamAt g block l.passed = at.param is_one in
        let alone = first_of_one _ (ap (code_by l.from l.inst) (param_is op is_one)) in
        (stands.entry, before_all formed.is_param (params_first next l.passed stands.first) alone.0)

    phi_first : is_phi op ≡ true → (l.within ≡ 0) × (x ≡ m.Phi (def_at l.inst 0) (paired l.inst.uses l.inst.to))
    phi_first is_one = first_of_one _ (ap (code_by l.from l.inst) (phi_is op is_one))

    phi_stands : is_phi op ≡ true → IsPhiAt g block l.passed l.inst
    phi_stands is_one = at.phi is_one

    sources_are : is_phi op ≡ true → formed.sources x ≡ l.inst.to
    sources_are is_one =
        let form : HasForm g l.inst Phi = subst (HasForm g l.inst) (phi_is op is_one) at.form in
        ap formed.sources (phi_first is_one).1 ∙ seconds l.inst.uses l.inst.to form.4

    phis : formed.is_phi x ≡ true → (0 < block) × formed.AllBefore f block place formed.is_phi
    phis e =
        let is_one : is_phi op ≡ true = sym fits.phi ∙ e in
        let stands = phi_stands is_one in
        let later = stands.later in
        (omega (arith, later), before_all formed.is_phi (phis_first next l.passed stands.first) (phi_first is_one).0)

    phi_sources : formed.is_phi x ≡ true → (from : ℕ) → Contains (formed.sources x) from ↔ formed.Leads f from block
    phi_sources e from =
        let is_one : is_phi op ≡ true = sym fits.phi ∙ e in
        let stands = phi_stands is_one in
        let same = sources_are is_one in (
          λ c. (leads from block).1 (stands.only from (times_to from l.inst.to (in_from from l.inst.to (subst (λ z. Contains z from) same c)))),
          λ h. subst (λ z. Contains z from) (sym same)
              (in_to from l.inst.to (times_from from l.inst.to (let one = stands.named from ((leads from block).0 h) in omega (arith, one)))),
        )

    phi_once : formed.is_phi x ≡ true → (j k : ℕ) → j < k → k < length (formed.sources x) → slice_index (formed.sources x) j ≢ slice_index (formed.sources x) k
    phi_once e j k less below =
        let is_one : is_phi op ≡ true = sym fits.phi ∙ e in
        let stands = phi_stands is_one in
        let same = sources_are is_one in
        subst (λ z. k < length z → slice_index z j ≢ slice_index z k) (sym same)
        (λ h equal.
        let twice = once (slice_index l.inst.to k) l.inst.to j k less h equal refl in
        let one = stands.named (slice_index l.inst.to k) (stands.only (slice_index l.inst.to k) (omega (arith, twice))) in
        omega (arith, twice, one)) below

    by_kind : (b : Bool) → formed.is_phi x ≡ b → (j k : ℕ) → j < k → k < length (formed.sources x) → slice_index (formed.sources x) j ≢ slice_index (formed.sources x) k
    by_kind true e j k less below = phi_once e j k less below
    by_kind false e j k less below = absurd (let none : length (formed.sources x) ≡ 0 = ap length (no_sources x e) in let bad : ⊥ = omega (arith, below, none) in bad)

    goes_inside : (to : ℕ) → Contains (target.targets x) to → (0 < to) × (to < length (blocks_from n g.blocks))
    goes_inside to c =
        let goes : In to (flat_map target.targets (code l.from l.inst)) = flat_put target.targets to (code l.from l.inst) l.within x l.get (in_from to (target.targets x) c) in
        let r = in_get to (targets l.inst) (subst (In to) (leaves_by g l.from l.inst op at.form) goes) in
        let inside' = at.targets' r.0 to r.1 in
        let first = inside'.0 in let last = inside'.1 in let count = same_count n g.blocks in
        (omega (arith, first), omega (arith, last, count))

    placed : formed.IsWellPlaced f block place x
    placed = record {
      ranges = fits.ranges;
      reads_exist = λ r c. below_in top (target.reads x) fits.reads r (in_from r (target.reads x) c);
      writes_exist = λ r c. below_in top (target.writes x) fits.writes r (in_from r (target.writes x) c);
      targets_exist = goes_inside;
      ends = ends;
      params = params;
      data_taken = λ e. at.data' (sym fits.data' ∙ e);
      phis = phis;
      phi_sources = phi_sources;
      phi_once = by_kind (formed.is_phi x) refl;
    }

  placed_by : (block place : ℕ) (x : MInst) → target.inst_at f block place ≡ Some x → (block < length g.blocks) ⊎ (insts_at g block ≡ []) → formed.IsWellPlaced f block place x
  placed_by block place x e (inl inside) =
      let b = here_of block in
      placed block place x b.next b.low b.high b.is inside (located b.next (insts_at g block) place x (ap (λ z. slice_get z place) (sym b.is) ∙ e))
  placed_by block place x e (inr empty) =
      let b = here_of block in
      let none : target.block_of f block ≡ [] = b.is ∙ ap (code_from b.next) empty in
      absurd (let bad : slice_get [] place ≡ Some x = ap (λ z. slice_get z place) (sym none) ∙ e in nothing_there place x bad)
    where
      nothing_there : (k : ℕ) (x : MInst) → slice_get [] k ≡ Some x → ⊥
      nothing_there k x e = cc

  blocks_end : (block : ℕ) → block < length (blocks_from n g.blocks) → 0 < length (target.block_of f block)
  blocks_end block h =
      let count = same_count n g.blocks in
      let some = formed'.filled block (omega (arith, h, count)) in
      let b = here_of block in
      let all : length (target.block_of f block) ≡ length (code_from b.next (insts_at g block)) = ap length b.is in
      ⊎_elim (λ none. absurd (let zero' : length (insts_at g block) ≡ 0 = filled b.next (insts_at g block) (omega (arith, none)) in let bad : ⊥ = omega (arith, zero', some) in bad)) (λ more. omega (arith, more, all))
      (cases_lt (length (code_from b.next (insts_at g block))) 1)

pub selected_is_well_formed : SelectedIsWellFormed
selected_is_well_formed g formed' legal = record {
  blocks_end = blocks_end g formed';
  placed = λ block place x e. placed_by g formed' block place x e (inside_or g.blocks block);
}
