-- Words that the assembler made of a function's code stand as that code.
use Rattle.std.proofs.Common.{◌≡◌, refl, sym, ap, subst, ℕ, zero, suc, ◌+◌, ◌≤◌, List, [], ◌∷◌, ◌++◌, length, replicate, Option, Some, None, Bool, true, false, cond, arith}
use Rattle.std.specs.Prelude.{◌==◌}
use Rattle.rv_core.specs.declared.reg.Reg.TheVariants.{T0, T1}
use Rattle.rv_core.specs.declared.instr.Instr.{Instr}
use Rattle.rv_asm.specs.Runs.{RunsAs}
use Rattle.mir.specs.declared.code.MInst.{MInst}
use Rattle.mir.specs.declared.code.MInst.TheVariants.{Param, Op, Imm, Const, Move, Load, Store, Phi, Call, TakeData, CopyBytes, FillBytes, Branch, Jump, Return, Trap}
use Rattle.mir.specs.declared.code.MFunction.{MFunction}
use Rattle.mir.specs.declared.places.Places.{Places}
use Rattle.mir.specs.Places.{place_of}
use Rattle.code_pieces.specs.Items.{Item, Plain, Bind, Goto, Test, plain}
use Rattle.code_pieces.specs.Assembly.{assembled, bind_all, put}
use Rattle.code_pieces.specs.Labels.{StandEverywhere}
use Rattle.code_pieces.proofs.Bridge.{AreBound, AreWithin, stand-everywhere}
use Rattle.code_pieces.proofs.Rising.{Rise, rise-append, rise-plain, rise-lower, are-bound, bind-within, none-within}
use Rattle.frame_code.specs.Code.{held_in, fetch, goto_items, inst_code, inst_items, insts_items, blocks_items, entry_code, function_items}
use Rattle.frame_code.specs.Assembly.{code_of}
use Rattle.frame_code.specs.Laws.{LaidOutStands}

module _ (f : MFunction) (places : Places) where
  rise-goto : (block to low : ℕ) → Rise low low (goto_items f places block to)
  rise-goto block to low = by_test (to == block + 1)
    where
      by_test : (b : Bool) → Rise low low (cond b [] (Goto to ∷ []))
      by_test true = omega arith
      by_test false = omega arith

  rise-inst : (block low : ℕ) (inst : MInst) → Rise low low (inst_items f places block inst)
  rise-inst block low (Branch op a b t e) =
      rise-append (plain (fetch T0 (place_of places a) ++ fetch T1 (place_of places b))) (Test op (held_in T0 (place_of places a)) (held_in T1 (place_of places b)) t ∷ goto_items f places block e) low low low
      (rise-plain (fetch T0 (place_of places a) ++ fetch T1 (place_of places b)) low) (rise-goto block e low)
  rise-inst block low (Jump t) = rise-goto block t low
  rise-inst block low (Param d n) = rise-plain (inst_code f places (Param d n)) low
  rise-inst block low (Op op d a b) = rise-plain (inst_code f places (Op op d a b)) low
  rise-inst block low (Imm op d a n) = rise-plain (inst_code f places (Imm op d a n)) low
  rise-inst block low (Const d n) = rise-plain (inst_code f places (Const d n)) low
  rise-inst block low (Move d a) = rise-plain (inst_code f places (Move d a)) low
  rise-inst block low (Load op d a n) = rise-plain (inst_code f places (Load op d a n)) low
  rise-inst block low (Store op a b n) = rise-plain (inst_code f places (Store op a b n)) low
  rise-inst block low (Phi d pairs) = rise-plain (inst_code f places (Phi d pairs)) low
  rise-inst block low (Call g args results) = rise-plain (inst_code f places (Call g args results)) low
  rise-inst block low (TakeData d n) = rise-plain (inst_code f places (TakeData d n)) low
  rise-inst block low (CopyBytes a b n) = rise-plain (inst_code f places (CopyBytes a b n)) low
  rise-inst block low (FillBytes a b n) = rise-plain (inst_code f places (FillBytes a b n)) low
  rise-inst block low (Return rs) = rise-plain (inst_code f places (Return rs)) low
  rise-inst block low Trap = rise-plain (inst_code f places Trap) low

  pub rise-insts : (block low : ℕ) (insts : List MInst) → Rise low low (insts_items f places block insts)
  rise-insts block low [] = omega arith
  rise-insts block low (inst ∷ insts) = rise-append (inst_items f places block inst) (insts_items f places block insts) low low low (rise-inst block low inst) (rise-insts block low insts)

  -- each block's label is its number
  rise-blocks : (block : ℕ) (blocks : List (List MInst)) → Rise block (block + length blocks) (blocks_items f places block blocks)
  rise-blocks block [] = omega arith
  rise-blocks block (insts ∷ blocks) =
      let one : block + 1 + length blocks ≡ block + suc (length blocks) = omega arith in (
        omega arith,
        rise-append (insts_items f places block insts) (blocks_items f places (block + 1) blocks) (block + 1) (block + 1) (block + suc (length blocks)) (rise-insts block (block + 1) insts)
            (subst (λ (n : ℕ). Rise (block + 1) n (blocks_items f places (block + 1) blocks)) one (rise-blocks (block + 1) blocks)),
      )

  labels-rise : Rise 0 (length f.blocks) (function_items f places)
  labels-rise =
      let all : 0 + length f.blocks ≡ length f.blocks = omega arith in
      rise-append (plain (entry_code f places)) (blocks_items f places 0 f.blocks) 0 0 (length f.blocks) (rise-plain (entry_code f places) 0)
      (subst (λ (n : ℕ). Rise 0 n (blocks_items f places 0 f.blocks)) all (rise-blocks 0 f.blocks))

length-replicate : (n : ℕ) (x : Option ℕ) → length (replicate n x) ≡ n
length-replicate zero x = refl
length-replicate (suc n) x = ap suc (length-replicate n x)

items-of : (f : MFunction) (places : Places) → (code_of f places).items ≡ assembled (function_items f places)
unfolding put
items-of f places = refl

bound-of : (f : MFunction) (places : Places) → (code_of f places).bound ≡ bind_all 0 (function_items f places) (replicate (length f.blocks) None)
unfolding put
bound-of f places = refl

pub laid-out-stands : LaidOutStands
laid-out-stands m f places words functions runs =
    let items = function_items f places in
    let labels = length f.blocks in
    let many = length-replicate labels None in
    let bound : AreBound (code_of f places).bound 0 items = subst (λ (b : List (Option ℕ)). AreBound b 0 items) (sym (bound-of f places)) (are-bound items 0 0 labels (replicate labels None) (labels-rise f places) (omega (arith, many))) in
    let within : AreWithin (code_of f places).bound (length (code_of f places).items) =
    subst (λ (b : List (Option ℕ)). AreWithin b (length (code_of f places).items)) (sym (bound-of f places))
    (bind-within items 0 (length (code_of f places).items) (replicate labels None) (none-within labels (length (code_of f places).items)) (let same = ap length (items-of f places) in omega (arith, same))) in
    stand-everywhere m (code_of f places) words items functions (items-of f places) bound within runs
