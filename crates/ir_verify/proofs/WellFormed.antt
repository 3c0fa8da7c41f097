-- What no refusal says of each block and instruction.
use Rattle.std.proofs.Common.{◌≡◌, ℕ, zero, suc, ◌+◌, List, [], ◌∷◌, length, refl, sym, ◌∙◌, ap, subst, Bool, true, false, ◌&&◌, ◌==◌, arith, Option, Some, None, if◌then◌else◌}
use Rattle.std.specs.Prelude.{slice_get}
use Rattle.std.proofs.lemmas.Bool.{false≢true}
use Rattle.std.proofs.lemmas.Bool.Decides.{nat_tests}
use Rattle.ir_core.specs.declared.code.Operand.{Operand}
use Rattle.ir_core.specs.declared.code.Op.{Op}
use Rattle.ir_core.specs.declared.code.Op.TheVariants.{Phi}
use Rattle.ir_core.specs.declared.code.Inst.{Inst}
use Rattle.ir_core.specs.declared.code.Block.{Block}
use Rattle.ir_core.specs.declared.program.Function.{Function}
use Rattle.ir_core.specs.declared.program.Module.{Module}
use Rattle.ir_core.specs.Units.{instructions}
use Rattle.ir_flow.specs.Code.{edges, pair_blocks}
use Rattle.ir_flow.specs.First.{first_refused, or_then}
use Rattle.ir_meaning.specs.Step.{Program}
use Rattle.ir_verify.specs.Calls.{wrong_callee, numbered, first_wrong_call, wrong_call}
use Rattle.ir_verify.specs.Phis.{times, all_agree, matches_edges, is_phi_of, all_phis, first_wrong_phis, wrong_phis}
use Rattle.ir_verify.specs.Ranges.{is_in_range, out_of_range}
use Rattle.ir_verify.specs.Small.{IsSmall, HasFewBlocks}
use Rattle.ir_verify.specs.Shapes.{is_shaped, first_misshapen, misshapen, jumps_to_entry}
use Rattle.ir_verify.specs.Verdict.{IsChecked, refusal}
use Rattle.ir_verify.specs.Laws.{TakesEdges, IsWellFormed, CheckedIsWellFormed}
use Rattle.ir_verify.proofs.Lists.{Every, every_at, and_both, or_none_left, or_none_right, none_refused}
use Rattle.ir_verify.proofs.Usable.{insts_in_range}
use Rattle.ir_verify.proofs.Rows.{no_limit, globals_fit, shaped, in_range, entered, called, joined, small, few_blocks}

none_some : {A : Type 0} (x : A) → None ≡ Some x → ⊥
none_some x e = cc

same_number : (a b : ℕ) → (a == b) ≡ true → a ≡ b
same_number a b h = grind (arith, nat_tests)

some_is : {A : Type 0} (x y : A) → Some x ≡ Some y → y ≡ x
some_is x y e = cc

-- where a failure isn't shown, the test holds, and nothing is shown of the rest
passed_then : (b : Bool) (rest : Option ℕ) (number : ℕ) → (if b then rest else Some number) ≡ None → (b ≡ true) × (rest ≡ None)
passed_then true rest number e = (refl, e)
passed_then false rest number e = absurd (none_some number (sym e))

shaped_at : (n : ℕ) (blocks : List Block) → first_misshapen n blocks ≡ None → (b : ℕ) (block : Block) → slice_get blocks b ≡ Some block
    → (m : ℕ) → m ≡ n + b → is_shaped m block ≡ true
shaped_at n [] e b block at m is = absurd (none_some block at)
shaped_at n (x ∷ blocks) e zero block at m is =
    let here : is_shaped n x ≡ true = (passed_then (is_shaped n x) (first_misshapen (n + 1) blocks) n e).0 in
    let number : m ≡ n = omega arith in
    let same : block ≡ x = some_is x block at in
    rw (number, same) here
shaped_at n (x ∷ blocks) e (suc b) block at m is =
    shaped_at (n + 1) blocks (passed_then (is_shaped n x) (first_misshapen (n + 1) blocks) n e).1 b block at m (omega arith)

all_shaped : (blocks : List Block) (function : Function) → function.blocks ≡ blocks → misshapen function ≡ None
    → (b : ℕ) (block : Block) → slice_get blocks b ≡ Some block → is_shaped b block ≡ true
all_shaped [] function is e b block at = absurd (none_some block at)
all_shaped (x ∷ blocks) function is e b block at = shaped_at 0 (x ∷ blocks) (rw is at e) b block at b (omega arith)

called_each : (module_ : Module) (at : ℕ) (insts : List Inst) → first_wrong_call module_ at insts ≡ None → Every (λ inst. wrong_callee module_ inst.gives inst.op ≡ None) insts
called_each module_ at [] e = tt
called_each module_ at (inst ∷ insts) e = (
  callee_none (wrong_callee module_ inst.gives inst.op) (or_none_left (numbered at (wrong_callee module_ inst.gives inst.op)) _ e),
  called_each module_ (at + 1) insts (or_none_right (numbered at (wrong_callee module_ inst.gives inst.op)) _ e),
)
  where
    callee_none : (found : Option ℕ) → numbered at found ≡ None → found ≡ None
    callee_none None e = refl
    callee_none (Some callee) e = absurd (none_some _ (sym e))

phis_at : (all : List Block) (n : ℕ) (blocks : List Block) → first_wrong_phis all n blocks ≡ None → (b : ℕ) (block : Block) → slice_get blocks b ≡ Some block
    → (m : ℕ) → m ≡ n + b → all_phis all m block.insts ≡ true
phis_at all n [] e b block at m is = absurd (none_some block at)
phis_at all n (x ∷ blocks) e zero block at m is =
    let here : all_phis all n x.insts ≡ true = (passed_then (all_phis all n x.insts) (first_wrong_phis all (n + 1) blocks) n e).0 in
    let number : m ≡ n = omega arith in
    let same : block ≡ x = some_is x block at in
    rw (number, same) here
phis_at all n (x ∷ blocks) e (suc b) block at m is =
    phis_at all (n + 1) blocks (passed_then (all_phis all n x.insts) (first_wrong_phis all (n + 1) blocks) n e).1 b block at m (omega arith)

each_phi : (all : List Block) (to : ℕ) (insts : List Inst) → all_phis all to insts ≡ true → Every (λ inst. is_phi_of all to inst.op ≡ true) insts
each_phi all to [] e = tt
each_phi all to (inst ∷ insts) e =
    let both : (is_phi_of all to inst.op ≡ true) × (all_phis all to insts ≡ true) = and_both _ _ e in
    (both.0, each_phi all to insts both.1)

matches_at : (from : List ℕ) (to n : ℕ) (blocks : List Block) → matches_edges from to n blocks ≡ true → (b : ℕ) (block : Block) → slice_get blocks b ≡ Some block
    → (m : ℕ) → m ≡ n + b → times m from ≡ times to (edges block)
matches_at from to n [] e b block at m is = absurd (none_some block at)
matches_at from to n (x ∷ blocks) e zero block at m is =
    let here : times n from ≡ times to (edges x) = same_number _ _ (and_both _ _ e).0 in
    let number : m ≡ n = omega arith in
    let same : block ≡ x = some_is x block at in
    rw (number, same) here
matches_at from to n (x ∷ blocks) e (suc b) block at m is = matches_at from to (n + 1) blocks (and_both _ _ e).1 b block at m (omega arith)

takes_edges : (blocks : List Block) (to : ℕ) (op : Op) (pairs : List (Operand × ℕ)) → is_phi_of blocks to op ≡ true → op ≡ Phi pairs → TakesEdges blocks to pairs
takes_edges blocks to op pairs h is =
    let both : (matches_edges (pair_blocks pairs) to 0 blocks ≡ true) × (all_agree pairs ≡ true) = and_both _ _ (rw is at h) in
    (λ from block at. matches_at (pair_blocks pairs) to 0 blocks both.0 from block at from (omega arith), both.1)

pub well_formed : CheckedIsWellFormed
well_formed program is =
    let m : Module = program.module_ in
    let e : refusal m ≡ None = is.passes.rows in (
      no_limit m e,
      globals_fit m e,
      λ symbol function at.
          let calls : Every (λ inst. wrong_callee m inst.gives inst.op ≡ None) (instructions function.blocks) =
          called_each m 0 (instructions function.blocks) (every_at (λ f. wrong_call m f ≡ None) m.functions symbol function (called m e) at) in
          let entries : Every (λ block. (times 0 (edges block) == 0) ≡ true) function.blocks =
          none_refused (λ block. times 0 (edges block) == 0) 0 function.blocks (every_at (λ f. jumps_to_entry f ≡ None) m.functions symbol function (entered m e) at) in
          let phis : wrong_phis function ≡ None = every_at (λ f. wrong_phis f ≡ None) m.functions symbol function (joined m e) at in
          record {
            small = every_at IsSmall m.functions symbol function (small m e) at;
            blocks = every_at HasFewBlocks m.functions symbol function (few_blocks m e) at;
            shaped = all_shaped function.blocks function refl (every_at (λ f. misshapen f ≡ None) m.functions symbol function (shaped m e) at);
            entry = λ b block there. same_number _ _ (every_at (λ x. (times 0 (edges x) == 0) ≡ true) function.blocks b block entries there);
            in_range = λ i inst there. every_at (λ x. is_in_range m function x ≡ true) (instructions function.blocks) i inst
                (insts_in_range m function (every_at (λ f. out_of_range m f ≡ None) m.functions symbol function (in_range m e) at)) there;
            calls = λ i inst there. every_at (λ x. wrong_callee m x.gives x.op ≡ None) (instructions function.blocks) i inst calls there;
            phis = λ b block i inst pairs there inst_there is_phi. takes_edges function.blocks b inst.op pairs
                (every_at (λ x. is_phi_of function.blocks b x.op ≡ true) block.insts i inst
                (each_phi function.blocks b block.insts (phis_at function.blocks 0 function.blocks phis b block there b (omega arith))) inst_there) is_phi;
            assigned = is.passes.assigned symbol function at;
          },
    )
