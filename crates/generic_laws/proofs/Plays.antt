-- The play of the code of a function refines that of the function.
use Rattle.std.proofs.Common.{◌≡◌, refl, sym, ap, subst, ◌∙◌, ℕ, ◌+◌, ◌<◌, List, [], ◌∷◌, ◌++◌, length, Option, Some, None, Bool, true, false, not}
use Rattle.std.specs.Prelude.{◌&&◌, slice_get}
use Rattle.std.proofs.lemmas.Bool.{and_parts}
use Rattle.ir_core.specs.Program.{Program}
use Rattle.ir_core.specs.declared.types.Ty.{Ty}
use Rattle.ir_core.specs.declared.code.Op.{Op}
use Rattle.ir_core.specs.declared.code.Op.TheVariants.{Phi, Br, CondBr, Switch}
use Rattle.ir_core.specs.declared.code.Inst.{Inst}
use Rattle.ir_core.specs.declared.code.Block.{Block}
use Rattle.ir_core.specs.declared.program.Function.{Function}
use Rattle.ir_core.specs.declared.program.Global.{Global}
use Rattle.ir_flow.specs.Code.{targets, case_blocks, is_terminator, is_phi}
use Rattle.ir_meaning.specs.Memory.{data_start}
use Rattle.ir_meaning.specs.Step.{function_at, insts_of, insts_at, number_at, phis}
use Rattle.ir_meaning.specs.Typed.{types, IsOp, IsTyped, IsTypedFunction, AreCases}
use Rattle.ir_verify.specs.Shapes.{ends_once, fits_number, has_no_phi, all_cases_distinct, times}
use Rattle.ir_verify.specs.Laws.{IsWellFormed}
use Rattle.ir_verify.specs.Verdict.{IsChecked}
use Rattle.ir_verify.proofs.Typing.{checked-typed}
use Rattle.ir_verify.proofs.WellFormed.{well_formed}
use Rattle.gmir.specs.declared.code.GInst.{GInst}
use Rattle.gmir.specs.declared.code.GFunction.{GFunction}
use Rattle.gmir.specs.Play as play
use Rattle.gmir.specs.Play.{State, walk}
use Rattle.walks.specs.Walk.{Entry, play_of}
use Rattle.walks.specs.Refines.{RefinesPlay, RefinesEntry}
use Rattle.walks.specs.Simulation.{Simulation, Follows}
use Rattle.walks.specs.Functions.{Point, function_walk}
use Rattle.walks.proofs.Simulate.{simulated}
use Rattle.generic_code.specs.Literals.{empty_pool}
use Rattle.generic_code.specs.Edges.{heads}
use Rattle.generic_code.specs.Whole.{is_jump, params_code, phis_code, edges_to, translated}
use Rattle.generic_code.proofs.Loads.{known_empty}
use Rattle.generic_code.proofs.Entry.{first_alike, follows_entry}
use Rattle.generic_code.proofs.Flow.{At, Stands, code_from, inst_follows, none_follows}
use Rattle.generic_code.proofs.Arrivals.{BlockStands}
use Rattle.generic_code.proofs.Ways.{Followed}
use Rattle.generic_code.proofs.Tests.{AllCasesStand}
use Rattle.generic_code.proofs.Jumps.{LeadsOn, jump_follows}
use Rattle.generic_laws.proofs.Lists.{get_some}
use Rattle.generic_laws.proofs.Stands.{all_edges, values_typed, Placed, placed, block_stands}
use Rattle.generic_laws.proofs.Paths.{paths, edges_are, stands_nowhere}

pub jump_ends : (op : Op) → is_jump op ≡ true → is_terminator op ≡ true
jump_ends (Br to) e = refl
jump_ends (CondBr c a b) e = refl
jump_ends (Switch of a otherwise cases) e = refl
jump_ends op e = absurd (let bad : ⊥ = cc in bad)

-- a block in which no phi stands has none at its head
pub no_heads : (insts : List Inst) → has_no_phi insts ≡ true → phis insts ≡ []
no_heads [] h = refl
no_heads (inst ∷ insts) h = by_op inst.gives inst.op (and_parts (not (is_phi inst.op)) (has_no_phi insts) h).0
  where
    by_op : (ty : Ty) (op : Op) → not (is_phi op) ≡ true → phis (record { gives = ty; op = op } ∷ insts) ≡ []
    by_op ty (Phi pairs) e = absurd (let bad : ⊥ = cc in bad)
    by_op ty op e = refl

some_block : (blocks : List Block) (b place : ℕ) (inst : Inst) → slice_get (insts_of (slice_get blocks b)) place ≡ Some inst → (x : Block) × (slice_get blocks b ≡ Some x) × (slice_get x.insts place ≡ Some inst)
some_block blocks b place inst e = by_found (slice_get blocks b) refl e
  where
    by_found : (o : Option Block) → slice_get blocks b ≡ o → slice_get (insts_of o) place ≡ Some inst → (x : Block) × (slice_get blocks b ≡ Some x) × (slice_get x.insts place ≡ Some inst)
    by_found None f e = absurd (let bad : ⊥ = cc in bad)
    by_found (Some x) f e = (x, f, e)

module _ (program : Program) (checked : IsChecked program) (symbol : ℕ) (function : Function) (there : function_at program symbol ≡ Some function) where
  abbrev pub all : IsTyped program
  all = checked-typed program checked

  abbrev pub well : IsTypedFunction program function
  well = (checked-typed program checked).typed symbol function there

  formed : IsWellFormed program.module_ function
  formed = (well_formed program checked).2 symbol function there

  abbrev gl : List Global
  gl = program.module_.globals

  abbrev f : GFunction
  f = translated program symbol function

  abbrev Bl : ℕ → Type 0
  Bl = BlockStands program symbol function there (translated program symbol function) (values_typed program symbol function there ((checked-typed program checked).typed symbol function there)) (all_edges program symbol function there ((checked-typed program checked).typed symbol function there)) ((checked-typed program checked).typed symbol function there)

  shaped_parts : (b : ℕ) (x : Block) → slice_get function.blocks b ≡ Some x → (ends_once x.insts ≡ true) × (fits_number b x.insts ≡ true)
  shaped_parts b x e =
      let outer = and_parts (ends_once x.insts && fits_number b x.insts) (all_cases_distinct x.insts) (formed.shaped b x e) in
      and_parts (ends_once x.insts) (fits_number b x.insts) outer.0

  pub block_ends : (b : ℕ) (x : Block) → slice_get function.blocks b ≡ Some x → ends_once x.insts ≡ true
  block_ends b x e = (shaped_parts b x e).0

  -- a block that is there, and isn't the first, stands
  stands_at : (to : ℕ) → to < length function.blocks → (to ≡ 0 → ⊥) → Bl to
  stands_at to low later = let x = get_some function.blocks to low in block_stands program symbol function there well to x.0 x.1 later

  cases_stand : (of : Ty) (cases : List (ℕ × ℕ)) → AreCases (length function.blocks) of cases → times 0 (case_blocks cases) ≡ 0
      → AllCasesStand program symbol function there f (values_typed program symbol function there well) (all_edges program symbol function there well) well cases
  cases_stand of [] are none = tt
  cases_stand of (one ∷ cases) are none = let two = stands_nowhere 0 one.1 (case_blocks cases) none in (stands_at one.1 are.1 two.0, cases_stand of cases are.2 two.1)

  leads_by : (ty : Ty) (op : Op) → IsOp program function ty op → is_jump op ≡ true → times 0 (targets op) ≡ 0 → LeadsOn program symbol function there f (values_typed program symbol function there well) (all_edges program symbol function there well) all op
  leads_by ty (Br to) is j none = stands_at to is.1 (stands_nowhere 0 to [] none).0
  leads_by ty (CondBr c a b) is j none = let one = stands_nowhere 0 a (b ∷ []) none in (stands_at a is.2 one.0, stands_at b is.3 (stands_nowhere 0 b [] one.1).0)
  leads_by ty (Switch of a otherwise cases) is j none = let one = stands_nowhere 0 otherwise (case_blocks cases) none in (stands_at otherwise is.3 one.0, cases_stand of cases is.4 one.1)
  leads_by ty op is j none = tt

  pub leads : (block place : ℕ) (inst : Inst) → slice_get (insts_at function block) place ≡ Some inst → is_jump inst.op ≡ true → LeadsOn program symbol function there f (values_typed program symbol function there well) (all_edges program symbol function there well) all inst.op
  leads block place inst at j =
      let x = some_block function.blocks block place inst at in
      let ends = (shaped_parts block x.0 x.1).0 in
      leads_by inst.gives inst.op (well.insts block place inst at) j
      (ap (times 0) (sym (edges_are x.0 place inst ends x.2 (jump_ends inst.op j))) ∙ formed.entry block x.0 x.1)

  abbrev AtP : Point program symbol → State → Type 0
  AtP = At program symbol function there (translated program symbol function) (values_typed program symbol function there ((checked-typed program checked).typed symbol function there)) (all_edges program symbol function there ((checked-typed program checked).typed symbol function there))

  -- each step is followed
  steps : (p : Point program symbol) (s : State) → AtP p s → Followed program symbol function there f (values_typed program symbol function there well) (all_edges program symbol function there well) well p s
  steps p s h = by_inst (slice_get (insts_at function p.0.block) p.0.place) refl
    where
      by_jump : (inst : Inst) → slice_get (insts_at function p.0.block) p.0.place ≡ Some inst → (j : Bool) → is_jump inst.op ≡ j
          → Followed program symbol function there f (values_typed program symbol function there well) (all_edges program symbol function there well) well p s
      by_jump inst at true e = jump_follows program symbol function there f (values_typed program symbol function there well) (all_edges program symbol function there well) all p s inst h at e (leads p.0.block p.0.place inst at e)
      by_jump inst at false e = inst_follows program symbol function there f (values_typed program symbol function there well) (all_edges program symbol function there well) all refl (paths program checked symbol function there all) p s inst h at e

      by_inst : (o : Option Inst) → slice_get (insts_at function p.0.block) p.0.place ≡ o → Followed program symbol function there f (values_typed program symbol function there well) (all_edges program symbol function there well) well p s
      by_inst None e = none_follows program symbol function there f (values_typed program symbol function there well) (all_edges program symbol function there well) all refl (paths program checked symbol function there all) p s h e
      by_inst (Some inst) e = by_jump inst e (is_jump inst.op) refl

  -- ---- the first block

  first_block : (x : Block) × (slice_get function.blocks 0 ≡ Some x)
  first_block = get_some function.blocks 0 formed.blocks.0

  first_placed : Placed program symbol function there well 0
  first_placed = placed program symbol function there well 0 first_block.0 first_block.1

  no_first_heads : heads gl function 0 ≡ []
  no_first_heads = ap (λ (o : Option Block). phis (insts_of o)) first_block.1 ∙ no_heads first_block.0.insts (shaped_parts 0 first_block.0 first_block.1).1

  abbrev first_code : List GInst
  first_code = (code_from program symbol function there (translated program symbol function) (values_typed program symbol function there ((checked-typed program checked).typed symbol function there)) (all_edges program symbol function there ((checked-typed program checked).typed symbol function there)) 0 0 (empty_pool first_placed.next) first_placed.own).code

  -- it begins with the parameters
  starts : play.insts_at f 0 ≡ params_code 0 function.params ++ first_code
  starts =
      first_placed.insts_are
      ∙ ap (λ (hs : List Inst). params_code 0 function.params ++ (phis_code gl function (number_at function 0 0) 0 (edges_to gl function 0 (all_edges program symbol function there well)) hs
      ++ (code_from program symbol function there f (values_typed program symbol function there well) (all_edges program symbol function there well) 0 (length hs) (empty_pool first_placed.next) first_placed.own).code)) no_first_heads

  first_stands : Stands program symbol function there f (values_typed program symbol function there well) (all_edges program symbol function there well) (empty_pool first_placed.next) first_placed.own
      (code_from program symbol function there f (values_typed program symbol function there well) (all_edges program symbol function there well) 0 0 (empty_pool first_placed.next) first_placed.own)
  first_stands =
      subst (λ (hs : List Inst). Stands program symbol function there f (values_typed program symbol function there well) (all_edges program symbol function there well) (empty_pool first_placed.next) first_placed.own
      (code_from program symbol function there f (values_typed program symbol function there well) (all_edges program symbol function there well) 0 (length hs) (empty_pool first_placed.next) first_placed.own)) no_first_heads first_placed.stands

  enters : (a b : Entry) → RefinesEntry (data_start + program.room) a b
      → Follows (data_start + program.room) (Point program symbol) State (play.step f) AtP (λ q. 0) 0 ((function_walk program symbol).enter a) (play.enter f b)
  enters a b h =
      follows_entry program symbol function there f refl refl first_code starts (values_typed program symbol function there well) well.params formed.small.0 AtP (λ q. 0) a b 0 h
      (record {
        pool = empty_pool first_placed.next;
        own = first_placed.own;
        alike = first_alike program symbol function there f refl refl first_code starts (values_typed program symbol function there well) well.params formed.small.0 AtP (λ q. 0) a b h;
        known = known_empty f (types function) first_placed.next _ first_placed.low;
        rest = refl;
        stands = first_stands;
      })

  pub simulation : Simulation (data_start + program.room) (function_walk program symbol) (walk f) AtP (λ q. 0)
  simulation = record { enters = λ a b h. (0, enters a b h); steps = steps }

  pub play_refines : RefinesPlay (data_start + program.room) (play_of (function_walk program symbol)) (play_of (walk f))
  play_refines = simulated (data_start + program.room) (function_walk program symbol) (walk f) AtP (λ q. 0) simulation
