-- The steps of simple instructions, put together.
use Rattle.std.proofs.Common.{◌≡◌, refl, subst, ℕ, ◌≤◌, List, ◌∷◌, arith}
use Rattle.rv_play.specs.CodePlay.{Point}
use Rattle.ir_meaning.specs.Plays.{Meaning, Invocation}
use Rattle.rv_play.specs.Machine.{Machine}
use Rattle.rv_play.specs.CodePlay.{Place as Words}
use Rattle.walks.specs.Walk.{Does, Goes}
use Rattle.mir.specs.declared.code.MInst.{MInst}
use Rattle.mir.specs.declared.code.MInst.TheVariants.{Param, Op, Imm, Const, Move, Load, Store, Phi, Call, TakeData, CopyBytes, FillBytes, Branch, Jump, Return, Trap}
use Rattle.mir.specs.declared.code.MFunction.{MFunction}
use Rattle.mir.specs.declared.places.Places.{Places}
use Rattle.mir_play.specs.Play.{State, step}
use Rattle.good_code.proofs.BySteps.{Advances, Onward}
use Rattle.frame_code.specs.Stands.{Here, left}
use Rattle.frame_code.specs.Laws.{CanLayOut, StandsLaidOut, Reaches, IsSimple, SimpleStepsRun}
use Rattle.frame_code.proofs.Steps.{param-step, op-step, imm-step, const-step, move-step}
use Rattle.frame_code.proofs.Edges.{jump-step, branch-step}

module _ (m : Meaning) (f : MFunction) (places : Places) (a : Invocation) (s : Machine) (words : Words) (labels : ℕ → ℕ) (can : CanLayOut f places) (there : StandsLaidOut m f places a s words labels) where
  abbrev At : State → Point → Type 0
  At = Here m f places a s words labels

  abbrev Doing : State → Point → Type 0
  Doing now p = Advances m State a s words At (left f) 0 (left f now) (step f now).weight p (step f now).does

  pub simple-step : (now : State) (p : Point) (inst : MInst) (rest : List MInst) → At now p → now.rest ≡ inst ∷ rest → IsSimple inst → Doing now p
  simple-step now p (Param d n) rest h ahead is =
      param-step m there.functions there.room f places can.intervals can.covers can.fits a s there.wide there.high words there.low_base there.high_base labels now p d n rest is h ahead
  simple-step now p (Op op d b c) rest h ahead is =
      op-step m there.functions there.room f places can.intervals can.covers can.fits a s there.wide there.high words there.low_base there.high_base labels now p op d b c rest h ahead
  simple-step now p (Imm op d b n) rest h ahead is =
      imm-step m there.functions there.room f places can.intervals can.covers can.fits a s there.wide there.high words there.low_base there.high_base labels now p op d b n rest h ahead
  simple-step now p (Const d n) rest h ahead is =
      const-step m there.functions there.room f places can.intervals can.covers can.fits a s there.wide there.high words there.low_base there.high_base labels now p d n rest h ahead
  simple-step now p (Move d b) rest h ahead is =
      move-step m there.functions there.room f places can.intervals can.covers can.fits a s there.wide there.high words there.low_base there.high_base labels now p d b rest h ahead
  simple-step now p (Branch op b c t e) rest h ahead is =
      branch-step m there.functions there.room f can.formed can.without_phi places can.intervals can.covers can.fits a s there.wide there.high words there.low_base there.high_base there.entering labels there.aligned there.placed
      now p op b c t e rest h ahead
  simple-step now p (Jump t) rest h ahead is =
      jump-step m there.functions there.room f can.formed can.without_phi places can.intervals can.covers can.fits a s there.wide there.high words there.low_base there.high_base there.entering labels there.aligned there.placed
      now p t rest h ahead
  simple-step now p (Load op d b n) rest h ahead is = absurd is
  simple-step now p (Store op b c n) rest h ahead is = absurd is
  simple-step now p (Phi d pairs) rest h ahead is = absurd is
  simple-step now p (Call g args results) rest h ahead is = absurd is
  simple-step now p (TakeData d n) rest h ahead is = absurd is
  simple-step now p (CopyBytes b c n) rest h ahead is = absurd is
  simple-step now p (FillBytes b c n) rest h ahead is = absurd is
  simple-step now p (Return rs) rest h ahead is = absurd is
  simple-step now p Trap rest h ahead is = absurd is

pub simple-steps-run : SimpleStepsRun
simple-steps-run m f places a s words labels now next p inst rest can there h ahead is goes =
    let x : Onward m State a s words (Here m f places a s words labels) (left f) 0 (left f now) (step f now).weight p next =
    subst (Advances m State a s words (Here m f places a s words labels) (left f) 0 (left f now) (step f now).weight p) goes (simple-step m f places a s words labels can there now p inst rest h ahead is) in
    let few = x.few in
    (x.point, record { count = x.count; few = omega (arith, few); run = x.run }, x.at)
