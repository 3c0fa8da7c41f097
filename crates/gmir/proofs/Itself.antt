-- A function refines itself, and refinement composes.
use Rattle.std.proofs.Common.{◌≡◌, refl, sym, subst, ℕ, ◌+◌, Bool, true, false, List, [], ◌∷◌, Option, Some, None, arith}
use Rattle.std.specs.Prelude.{nat_lt, if◌then◌else◌}
use Rattle.gmir.specs.declared.code.GType.{GType}
use Rattle.gmir.specs.declared.code.GInst.{GInst}
use Rattle.gmir.specs.declared.code.GFunction.{GFunction}
use Rattle.ir_meaning.specs.Step.{stack_start}
use Rattle.walks.specs.Walk.{Entry, Goes, Wants, Step}
use Rattle.walks.specs.Refines.{RefinesBits, RefinesEntry}
use Rattle.walks.specs.Simulation.{here, Follows, moves, wants, breaks, Simulation}
use Rattle.walks.specs.Registers.{Registers, read, RegsAgree}
use Rattle.walks.specs.Face.{frame_of, function_face}
use Rattle.walks.proofs.Faces.{itself, composes}
use Rattle.walks.proofs.OneEnd.{plays_have_one_end as walks_have_one_end}
use Rattle.walks.proofs.Registers.{ReadsAlive, put_agrees}
use Rattle.walks.proofs.Monotone.{cut_mono}
use Rattle.gmir.specs.Play.{State, width, def_at, on_edge, phis, insts_at, with_phis, kind, step_at, step, first, enter, walk}
use Rattle.gmir.specs.Refines.{face}
use Rattle.gmir.specs.Laws.{FunctionsRefineThemselves, RefinementComposes, TranslationsMayBeRefined, PlaysHaveOneEnd}
use Rattle.gmir.proofs.Lock.{Agree, Alike, EdgesAgree, in_step}

-- each register counts
abbrev all : ℕ → Bool
all r = true

all_alive : (rs : List ℕ) → ReadsAlive all rs
all_alive [] = tt
all_alive (r ∷ rs) = (refl, all_alive rs)

edge_agrees : (before before' : Registers) → RegsAgree all before before' → (o : Option ℕ) → RefinesBits (read before o) (read before' o)
edge_agrees before before' h None = λ i b e. e
edge_agrees before before' h (Some r) = h r refl

pub phis_agree : (types : List GType) (from : ℕ) (before before' : Registers) → RegsAgree all before before' → (is : List GInst) (regs regs' : Registers) → RegsAgree all regs regs'
    → RegsAgree all (with_phis types from before is regs) (with_phis types from before' is regs')
phis_agree types from before before' h [] regs regs' k = k
phis_agree types from before before' h (i ∷ is) regs regs' k =
    phis_agree types from before before' h is _ _
    (put_agrees all regs regs' i.defs _ _ k
    (cut_mono (width types (def_at i 0)) (read before (on_edge from i.to i.uses)) (read before' (on_edge from i.to i.uses)) (edge_agrees before before' h (on_edge from i.to i.uses))))

module _ (f : GFunction) where
  abbrev Same : List GInst → List GInst → Type 0
  Same r r' = r' ≡ r

  abbrev R : State → State → Type 0
  R = Alike f f all Same (λ s. 0)

  edges : EdgesAgree f f all Same (λ s. 0)
  edges = record {
    rests = λ to. refl;
    regs = λ to from before before' regs regs' h k. phis_agree f.types from before before' h (phis (insts_at f to)) regs regs' k;
    weights = λ to. omega arith;
  }

  abbrev Fol : Step State → Step State → Type 0
  Fol = Follows f.end State State (step f) R (λ s. 0) 0

  by_rest : (s s' : State) → Agree all s s' → (r : List GInst) → Fol (step_at f s r) (step_at f s' r)
  by_rest s s' h [] = breaks refl refl
  by_rest s s' h (i ∷ r) = in_step f f all Same (λ x. 0) edges s s' i r r h refl (all_alive i.uses) 0 (kind i.op)

  steps : (s s' : State) → R s s' → Fol (step f s) (step f s')
  steps s s' h = subst (λ (r : List GInst). Fol (step_at f s s.rest) (step_at f s' r)) (sym h.rests) (by_rest s s' h.agree s.rest)

  enters_by : (a b : Entry) → RefinesEntry f.end a b → (deep : Bool)
      → Fol (record { weight = 160; jumps = 0; does = if deep then Wants else Goes (first f a) }) (record { weight = 160; jumps = 0; does = if deep then Wants else Goes (first f b) })
  enters_by a b h true = wants refl here refl (omega arith) (omega arith)
  enters_by a b h false =
      moves (first f a) (first f b) refl here refl
      (record { agree = record { args = h.args; base = h.memory.long; block = refl; regs = λ x live i bit e. e; memory = h.memory }; rests = refl }) (omega arith) (omega arith)

  enters : (a b : Entry) → RefinesEntry f.end a b → Fol (enter f a) (enter f b)
  enters a b h = rw h.sp (enters_by a b h (nat_lt a.sp (stack_start + frame_of f.values)))

  pub simulation : Simulation f.end (walk f) (walk f) R (λ s. 0)
  simulation = record { enters = λ a b h. (0, enters a b h); steps = steps }

pub functions_refine_themselves : FunctionsRefineThemselves
functions_refine_themselves f = itself (face f) (Alike f f all (Same f) (λ s. 0)) (λ s. 0) (simulation f)

pub refinement_composes : RefinementComposes
refinement_composes f g h p q = composes (face f) (face g) (face h) p q

pub translations_may_be_refined : TranslationsMayBeRefined
translations_may_be_refined program symbol function f g p q = composes (function_face program symbol function) (face f) (face g) p q

pub plays_have_one_end : PlaysHaveOneEnd
plays_have_one_end f = walks_have_one_end (walk f)
