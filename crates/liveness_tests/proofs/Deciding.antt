-- A test that shows a function to be well formed and without phis, for functions of few kinds of instructions.
use Rattle.std.proofs.Common.{◌≡◌, ℕ, zero, suc, ◌+◌, ◌<◌, ◌↔◌, inl, inr, Bool, true, false, not, ◌&&◌, ◌||◌, ◌==◌, nat_lt, List, [], ◌∷◌, length, get_or, Some, None, arith, refl, ap, sym, ◌∙◌}
use Rattle.std.specs.Prelude.{slice_get, unwrap_or}
use Rattle.std.specs.List.{Contains}
use Rattle.std.proofs.lemmas.List.{get_or_past}
use Rattle.std.proofs.lemmas.Bool.{and_parts, false≢true, ltb-true, eqb-true, not-true, cases_lt}
use Rattle.mir.specs.declared.code.MInst.{MInst}
use Rattle.mir.specs.declared.code.MInst.TheVariants.{Param, Op, Imm, Const, Move, Load, Store, Phi, Call, TakeData, CopyBytes, FillBytes, Branch, Jump, Return, Trap}
use Rattle.mir.specs.declared.code.MFunction.{MFunction}
use Rattle.mir.specs.Code.{reads, writes, targets, ends_block, block_of, inst_at}
use Rattle.mir.specs.WellFormed.{HasRanges, is_param, is_phi, takes_data, sources, IsWellPlaced, IsWellFormed, HasNoPhi}

-- the kinds that may occur
abbrev plain : MInst → Bool
plain (Param d n) = nat_lt n 8
plain (Return rs) = nat_lt (length rs) 2
plain (Op op d a b) = true
plain (Const d n) = true
plain (Move d a) = true
plain (Branch op a b t e) = true
plain (Jump t) = true
plain _ = false

record Plain (inst : MInst) : Type 0 where
  ranges : HasRanges inst
  phi : is_phi inst ≡ false
  data_taken : takes_data inst ≡ false
  from : length (sources inst) ≡ 0

is_plain : (inst : MInst) → plain inst ≡ true → Plain inst
is_plain (Param d n) h = record { ranges = ltb-true n 8 h; phi = refl; data_taken = refl; from = refl }
is_plain (Return rs) h = let low : length rs < 2 = ltb-true (length rs) 2 h in record { ranges = omega (arith, low); phi = refl; data_taken = refl; from = refl }
is_plain (Op op d a b) h = record { ranges = tt; phi = refl; data_taken = refl; from = refl }
is_plain (Const d n) h = record { ranges = tt; phi = refl; data_taken = refl; from = refl }
is_plain (Move d a) h = record { ranges = tt; phi = refl; data_taken = refl; from = refl }
is_plain (Branch op a b t e) h = record { ranges = tt; phi = refl; data_taken = refl; from = refl }
is_plain (Jump t) h = record { ranges = tt; phi = refl; data_taken = refl; from = refl }
is_plain (Imm op d a n) h = absurd (false≢true h)
is_plain (Load op d a n) h = absurd (false≢true h)
is_plain (Store op a b n) h = absurd (false≢true h)
is_plain (Phi d pairs) h = absurd (false≢true h)
is_plain (Call g args results) h = absurd (false≢true h)
is_plain (TakeData d n) h = absurd (false≢true h)
is_plain (CopyBytes a b n) h = absurd (false≢true h)
is_plain (FillBytes a b n) h = absurd (false≢true h)
is_plain Trap h = absurd (false≢true h)

-- all numbers of a list pass
abbrev all_of : (ℕ → Bool) → List ℕ → Bool
all_of test [] = true
all_of test (x ∷ xs) = test x && all_of test xs

all_hold : (test : ℕ → Bool) (xs : List ℕ) (x : ℕ) → all_of test xs ≡ true → Contains xs x → test x ≡ true
all_hold test [] x h in' = absurd (omega (arith, in'.1))
all_hold test (y ∷ ys) x h (zero, below, is) = rw (← is) (and_parts (test y) (all_of test ys) h).0
all_hold test (y ∷ ys) x h (suc k, below, is) = all_hold test ys x (and_parts (test y) (all_of test ys) h).1 (k, omega (arith, below), is)

abbrev agree : Bool → Bool → Bool
agree true last = last
agree false last = not last

agree_iff : (one other : Bool) → agree one other ≡ true → (one ≡ true) ↔ (other ≡ true)
agree_iff true other h = (λ e. h, λ e. refl)
agree_iff false other h = (λ e. absurd (false≢true e), λ e. absurd (false≢true (sym (not-true other h) ∙ e)))

param_parts : (is_one leads first : Bool) → (not is_one || (leads && first)) ≡ true → is_one ≡ true → (leads ≡ true) × (first ≡ true)
param_parts true leads first h e = and_parts leads first h
param_parts false leads first h e = absurd (false≢true e)

-- an instruction of a block; `leads` says that all before it are parameters, and `last` that none comes behind it
abbrev inst_passes : (regs count block : ℕ) (leads last : Bool) → MInst → Bool
inst_passes regs count block leads last inst =
    plain inst && (all_of (λ r. nat_lt r regs) (reads inst) && (all_of (λ r. nat_lt r regs) (writes inst)
    && (all_of (λ to. nat_lt 0 to && nat_lt to count) (targets inst) && (agree (ends_block inst) last && (not (is_param inst) || (leads && (block == 0)))))))

record Passes (regs count block : ℕ) (leads last : Bool) (inst : MInst) : Type 0 where
  kind : Plain inst
  read : (r : ℕ) → Contains (reads inst) r → r < regs
  written : (r : ℕ) → Contains (writes inst) r → r < regs
  goes : (to : ℕ) → Contains (targets inst) to → (0 < to) × (to < count)
  ends : (ends_block inst ≡ true) ↔ (last ≡ true)
  param : is_param inst ≡ true → (leads ≡ true) × (block ≡ 0)

passed : (regs count block : ℕ) (leads last : Bool) (inst : MInst) → inst_passes regs count block leads last inst ≡ true → Passes regs count block leads last inst
passed regs count block leads last inst h =
    let one = and_parts (plain inst) _ h in
    let two = and_parts (all_of (λ r. nat_lt r regs) (reads inst)) _ one.1 in
    let three = and_parts (all_of (λ r. nat_lt r regs) (writes inst)) _ two.1 in
    let four = and_parts (all_of (λ to. nat_lt 0 to && nat_lt to count) (targets inst)) _ three.1 in
    let five = and_parts (agree (ends_block inst) last) _ four.1 in
    record {
      kind = is_plain inst one.0;
      read = λ r in'. ltb-true r regs (all_hold (λ r. nat_lt r regs) (reads inst) r two.0 in');
      written = λ r in'. ltb-true r regs (all_hold (λ r. nat_lt r regs) (writes inst) r three.0 in');
      goes = λ to in'.
          let both : (nat_lt 0 to ≡ true) × (nat_lt to count ≡ true) =
          and_parts (nat_lt 0 to) (nat_lt to count) (all_hold (λ to. nat_lt 0 to && nat_lt to count) (targets inst) to four.0 in') in
          (ltb-true 0 to both.0, ltb-true to count both.1);
      ends = agree_iff (ends_block inst) last five.0;
      param = λ e.
          let parts : (leads ≡ true) × ((block == 0) ≡ true) = param_parts (is_param inst) leads (block == 0) five.1 e in
          (parts.0, eqb-true block 0 parts.1);
    }

abbrev empty : List MInst → Bool
empty [] = true
empty (inst ∷ insts) = false

abbrev block_passes : (regs count block : ℕ) (leads : Bool) → List MInst → Bool
block_passes regs count block leads [] = true
block_passes regs count block leads (inst ∷ insts) =
    inst_passes regs count block leads (empty insts) inst && block_passes regs count block (leads && is_param inst) insts

one_inst : (one other : MInst) → Some one ≡ Some other → one ≡ other
one_inst one other e = ap (λ o. unwrap_or o one) e

nothing : (inst : MInst) → None ≡ Some inst → ⊥
nothing inst e = cc

empty_is : (insts : List MInst) → (empty insts ≡ true) ↔ (0 ≡ length insts)
empty_is [] = (λ e. refl, λ e. refl)
empty_is (inst ∷ insts) = (λ e. absurd (false≢true e), λ e. absurd (omega (arith, e)))

-- what is known of an instruction at a place
record At (regs count block : ℕ) (leads : Bool) (insts : List MInst) (j : ℕ) (inst : MInst) : Type 0 where
  lead : Bool
  last : Bool
  passes : Passes regs count block lead last inst
  ends : (last ≡ true) ↔ (j + 1 ≡ length insts)
  led : lead ≡ true → leads ≡ true
  params : lead ≡ true → (e : ℕ) (x : MInst) → e < j → slice_get insts e ≡ Some x → is_param x ≡ true

at_later : (regs count block : ℕ) (leads : Bool) (first : MInst) (insts : List MInst) (j : ℕ) (inst : MInst) → At regs count block (leads && is_param first) insts j inst
    → At regs count block leads (first ∷ insts) (suc j) inst
at_later regs count block leads first insts j inst rest = record {
  lead = rest.lead;
  last = rest.last;
  passes = rest.passes;
  ends = (λ e. let z : j + 1 ≡ length insts = rest.ends.0 e in omega (arith, z), λ e. rest.ends.1 (omega (arith, e)));
  led = λ e. (and_parts leads (is_param first) (rest.led e)).0;
  params = before;
}
  where
    before : rest.lead ≡ true → (e : ℕ) (x : MInst) → e < suc j → slice_get (first ∷ insts) e ≡ Some x → is_param x ≡ true
    before led zero x below at' = rw (← one_inst first x at') (and_parts leads (is_param first) (rest.led led)).1
    before led (suc e) x below at' = rest.params led e x (omega (arith, below)) at'

at_place : (regs count block : ℕ) (leads : Bool) (insts : List MInst) (j : ℕ) (inst : MInst) → block_passes regs count block leads insts ≡ true
    → slice_get insts j ≡ Some inst → At regs count block leads insts j inst
at_place regs count block leads [] j inst h at = absurd (nothing inst at)
at_place regs count block leads (first ∷ insts) zero inst h at = record {
  lead = leads;
  last = empty insts;
  passes = rw (← one_inst first inst at) (passed regs count block leads (empty insts) first
      (and_parts (inst_passes regs count block leads (empty insts) first) (block_passes regs count block (leads && is_param first) insts) h).0);
  ends = (λ e. let z : 0 ≡ length insts = (empty_is insts).0 e in omega (arith, z), λ e. (empty_is insts).1 (omega (arith, e)));
  led = λ e. e;
  params = λ e k x below. absurd (omega (arith, below));
}
at_place regs count block leads (first ∷ insts) (suc j) inst h at = at_later regs count block leads first insts j inst
    (at_place regs count block (leads && is_param first) insts j inst
    (and_parts (inst_passes regs count block leads (empty insts) first) (block_passes regs count block (leads && is_param first) insts) h).1 at)

abbrev blocks_pass : (regs count block : ℕ) → List (List MInst) → Bool
blocks_pass regs count block [] = true
blocks_pass regs count block (insts ∷ blocks) = (not (empty insts) && block_passes regs count block true insts) && blocks_pass regs count (block + 1) blocks

block_at : (regs count first : ℕ) (blocks : List (List MInst)) (k : ℕ) → blocks_pass regs count first blocks ≡ true → k < length blocks
    → (not (empty (get_or blocks k [])) ≡ true) × (block_passes regs count (first + k) true (get_or blocks k []) ≡ true)
block_at regs count first [] k h below = absurd (omega (arith, below))
block_at regs count first (insts ∷ blocks) zero h below =
    let here : first + 0 ≡ first = omega arith in
    let own = and_parts (not (empty insts) && block_passes regs count first true insts) (blocks_pass regs count (first + 1) blocks) h in
    rw here (and_parts (not (empty insts)) (block_passes regs count first true insts) own.0)
block_at regs count first (insts ∷ blocks) (suc k) h below =
    let there : first + suc k ≡ (first + 1) + k = omega arith in
    let own = and_parts (not (empty insts) && block_passes regs count first true insts) (blocks_pass regs count (first + 1) blocks) h in
    rw there (block_at regs count (first + 1) blocks k own.1 (omega (arith, below)))

abbrev pub is_well_formed : MFunction → Bool
is_well_formed f = blocks_pass f.regs (length f.blocks) 0 f.blocks

module _ (f : MFunction) (h : is_well_formed f ≡ true) where
  within : (block place : ℕ) (inst : MInst) → inst_at f block place ≡ Some inst → block < length f.blocks
  within block place inst at = elim (cases_lt block (length f.blocks)) [
    | inl below ↦ below
    | inr past ↦
        let none' : block_of f block ≡ [] = get_or_past f.blocks block [] past in
        absurd (nothing inst (rw none' at at))
  ]

  found : (block place : ℕ) (inst : MInst) → inst_at f block place ≡ Some inst → At f.regs (length f.blocks) block true (block_of f block) place inst
  found block place inst at =
      let first : 0 + block ≡ block = omega arith in
      at_place f.regs (length f.blocks) block true (block_of f block) place inst (rw first at (block_at f.regs (length f.blocks) 0 f.blocks block h (within block place inst at)).1) at

  is_placed : (block place : ℕ) (inst : MInst) → At f.regs (length f.blocks) block true (block_of f block) place inst → IsWellPlaced f block place inst
  is_placed block place inst is = record {
    ranges = is.passes.kind.ranges;
    reads_exist = is.passes.read;
    writes_exist = is.passes.written;
    targets_exist = is.passes.goes;
    ends = (λ e. is.ends.0 (is.passes.ends.0 e), λ e. is.passes.ends.1 (is.ends.1 e));
    params = λ e. ((is.passes.param e).1, is.params (is.passes.param e).0);
    data_taken = λ e. absurd (false≢true (sym is.passes.kind.data_taken ∙ e));
    phis = λ e. absurd (false≢true (sym is.passes.kind.phi ∙ e));
    phi_sources = λ e. absurd (false≢true (sym is.passes.kind.phi ∙ e));
    phi_once = λ j k less below. absurd (omega (arith, below, is.passes.kind.from));
  }

  not_empty : (block : ℕ) → block < length f.blocks → 0 < length (block_of f block)
  not_empty block below = long (block_of f block) (block_at f.regs (length f.blocks) 0 f.blocks block h below).0
    where
      long : (insts : List MInst) → not (empty insts) ≡ true → 0 < length insts
      long [] e = absurd (false≢true e)
      long (inst ∷ insts) e = omega arith

  pub well_formed : IsWellFormed f
  well_formed = record { blocks_end = not_empty; placed = λ block place inst at. is_placed block place inst (found block place inst at) }

  pub without_phi : HasNoPhi f
  without_phi block place inst at = (found block place inst at).passes.kind.phi
