-- A function refines itself, and refinement composes.
use Rattle.std.proofs.Common.{◌≡◌, refl, sym, subst, ℕ, ◌+◌, Bool, true, false, List, [], ◌∷◌, Option, Some, None, arith}
use Rattle.std.specs.Prelude.{nat_lt, if◌then◌else◌}
use Rattle.mir.specs.declared.code.MInst.{MInst}
use Rattle.mir.specs.declared.code.MInst.TheVariants.{Param, Op, Imm, Const, Move, Load, Store, Phi, Call, TakeData, CopyBytes, FillBytes, Branch, Jump, Return, Trap}
use Rattle.mir.specs.declared.code.MFunction.{MFunction}
use Rattle.mir.specs.Code.{block_of, reads}
use Rattle.ir_meaning.specs.Step.{stack_start}
use Rattle.walks.specs.Walk.{Entry, Goes, Wants, Step}
use Rattle.walks.specs.Refines.{RefinesBits, RefinesEntry}
use Rattle.walks.specs.Registers.{Registers, read, RegsAgree}
use Rattle.walks.specs.Simulation.{here, Follows, moves, wants, breaks, Simulation}
use Rattle.walks.specs.Face.{frame_of, function_face}
use Rattle.walks.proofs.Faces.{itself, composes}
use Rattle.walks.proofs.OneEnd.{plays_have_one_end as walks_have_one_end}
use Rattle.walks.proofs.Registers.{ReadsAlive, write_agrees}
use Rattle.mir_play.specs.Play.{State, on_edge, with_phis, jumped, take_edge, step_at, step, first, enter, walk}
use Rattle.mir_play.specs.Refines.{face}
use Rattle.mir_play.specs.Laws.{FunctionsRefineThemselves, RefinementComposes, CompiledMayBeRefined, PlaysHaveOneEnd}
use Rattle.mir_play.proofs.Lock.{Agree, Alike, in_step}

-- each register counts
abbrev all : ℕ → Bool
all r = true

all_alive : (rs : List ℕ) → ReadsAlive all rs
all_alive [] = tt
all_alive (r ∷ rs) = (refl, all_alive rs)

edge_agrees : (before before' : Registers) → RegsAgree all before before' → (o : Option ℕ) → RefinesBits (read before o) (read before' o)
edge_agrees before before' h None = λ i b e. e
edge_agrees before before' h (Some r) = h r refl

pub phis_agree : (from : ℕ) (before before' : Registers) → RegsAgree all before before' → (is : List MInst) (regs regs' : Registers) → RegsAgree all regs regs'
    → RegsAgree all (with_phis from before is regs) (with_phis from before' is regs')
phis_agree from before before' h [] regs regs' k = k
phis_agree from before before' h (Phi d pairs ∷ is) regs regs' k =
    phis_agree from before before' h is _ _ (write_agrees all regs regs' d _ _ k (edge_agrees before before' h (on_edge from pairs)))
phis_agree from before before' h (Param d n ∷ is) regs regs' k = k
phis_agree from before before' h (Op op d a b ∷ is) regs regs' k = k
phis_agree from before before' h (Imm op d a n ∷ is) regs regs' k = k
phis_agree from before before' h (Const d n ∷ is) regs regs' k = k
phis_agree from before before' h (Move d a ∷ is) regs regs' k = k
phis_agree from before before' h (Load op d a n ∷ is) regs regs' k = k
phis_agree from before before' h (Store op a b n ∷ is) regs regs' k = k
phis_agree from before before' h (Call g args results ∷ is) regs regs' k = k
phis_agree from before before' h (TakeData d n ∷ is) regs regs' k = k
phis_agree from before before' h (CopyBytes a b n ∷ is) regs regs' k = k
phis_agree from before before' h (FillBytes a b n ∷ is) regs regs' k = k
phis_agree from before before' h (Branch op a b t e ∷ is) regs regs' k = k
phis_agree from before before' h (Jump t ∷ is) regs regs' k = k
phis_agree from before before' h (Return rs ∷ is) regs regs' k = k
phis_agree from before before' h (Trap ∷ is) regs regs' k = k

module _ (f : MFunction) where
  abbrev Same : ℕ → List MInst → ℕ → List MInst → Type 0
  Same block r block' r' = (block' ≡ block) × (r' ≡ r)

  abbrev R : State → State → Type 0
  R = Alike f f refl all Same (λ s. 0)

  abbrev Fol : Step State → Step State → Type 0
  Fol = Follows f.end State State (step f) R (λ s. 0) 0

  edge : (s s' : State) → Agree all s s' → s'.block ≡ s.block → (r r' : List MInst) (w to : ℕ) → Fol (take_edge f s r w to) (take_edge f s' r' w to)
  edge s s' h same r r' w to =
      moves (jumped f s to) (jumped f s' to) refl here refl
      (record {
        agree = record {
          args = h.args;
          base = h.base;
          regs = subst (λ (b : ℕ). RegsAgree all (with_phis s.block s.regs (block_of f to) s.regs) (with_phis b s'.regs (block_of f to) s'.regs)) (sym same)
              (phis_agree s.block s.regs s'.regs h.regs (block_of f to) s.regs s'.regs h.regs);
          memory = h.memory;
        };
        stands = (refl, refl);
      }) (omega arith) (omega arith)

  by_rest : (s s' : State) → Agree all s s' → s'.block ≡ s.block → (r : List MInst) → Fol (step_at f s r) (step_at f s' r)
  by_rest s s' h same [] = breaks refl refl
  by_rest s s' h same (i ∷ r) = in_step f f refl all Same (λ x. 0) s s' r r h (same, refl) 0 i (all_alive (reads i)) (λ w to c. edge s s' h same r r w to)

  steps : (s s' : State) → R s s' → Fol (step f s) (step f s')
  steps s s' h = subst (λ (r : List MInst). Fol (step_at f s s.rest) (step_at f s' r)) (sym h.stands.1) (by_rest s s' h.agree h.stands.0 s.rest)

  enters_by : (a b : Entry) → RefinesEntry f.end a b → (deep : Bool)
      → Fol (record { weight = 160; jumps = 0; does = if deep then Wants else Goes (first f a) }) (record { weight = 160; jumps = 0; does = if deep then Wants else Goes (first f b) })
  enters_by a b h true = wants refl here refl (omega arith) (omega arith)
  enters_by a b h false =
      moves (first f a) (first f b) refl here refl
      (record { agree = record { args = h.args; base = h.memory.long; regs = λ x live i bit e. e; memory = h.memory }; stands = (refl, refl) }) (omega arith) (omega arith)

  enters : (a b : Entry) → RefinesEntry f.end a b → Fol (enter f a) (enter f b)
  enters a b h = rw h.sp (enters_by a b h (nat_lt a.sp (stack_start + frame_of f.values)))

  pub simulation : Simulation f.end (walk f) (walk f) R (λ s. 0)
  simulation = record { enters = λ a b h. (0, enters a b h); steps = steps }

pub functions_refine_themselves : FunctionsRefineThemselves
functions_refine_themselves f = itself (face f) (Alike f f refl all (Same f) (λ s. 0)) (λ s. 0) (simulation f)

pub refinement_composes : RefinementComposes
refinement_composes f g h p q = composes (face f) (face g) (face h) p q

pub compiled_may_be_refined : CompiledMayBeRefined
compiled_may_be_refined program symbol f g (function, at, p) q = (function, at, composes (function_face program symbol function) (face f) (face g) p q)

pub plays_have_one_end : PlaysHaveOneEnd
plays_have_one_end f = walks_have_one_end (walk f)
