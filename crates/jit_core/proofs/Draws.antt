-- Drawn events.
use Rattle.std.proofs.Common.{◌≡◌, ◌==◌, ℕ, suc, Bool, false, true≢false, ◌+◌, ◌-◌, ◌<◌, List, [], ◌∷◌, ◌++◌, length, Some, sym, ap, subst, ◌∙◌, append_assoc, arith}
use Rattle.ir_core.specs.Program.{Program}
use Rattle.ir_meaning.specs.declared.calls.Ended.{Ended}
use Rattle.ir_meaning.specs.declared.calls.ListedCall.{ListedCall}
use Rattle.hart.specs.declared.hart.Image.{Image}
use Rattle.rv_play.specs.declared.version.Version.{Version}
use Rattle.rv_play.specs.Good.{Good}
use Rattle.code_epochs.proofs.Lists.{at_below}
use Rattle.jit_core.specs.declared.event.Event.{Event}
use Rattle.jit_core.specs.declared.event.Event.TheVariants as event
use Rattle.jit_core.specs.declared.state_machine.Core.{Core}
use Rattle.jit_core.specs.Cores.{IsEvent, IsRightAnswer, meaning_of}
use Rattle.jit_core.specs.Ran.{IsRightFor}
use Rattle.jit_core.specs.First.{AreQuick}
use Rattle.jit_core.specs.Drawn.{next_draw, choice, event_for, drawn, IsDrawn}

-- a drawn event can be given to the core
pub can_be_given : (c : Core) (versions : List Version) (harts : ℕ) (e : Event) → AreQuick (meaning_of c) versions → harts ≡ length c.seats.items → IsDrawn versions harts (Some e) → IsEvent c e
can_be_given c versions harts (event.Hart h) quick same is = omega arith
can_be_given c versions harts event.Keeper quick same is = tt
can_be_given c versions harts (event.Order v) quick same is =
    let q = quick.1 is.0 v is.1 in
    let low = at_below versions is.0 v is.1 in
    let count = quick.0 in
    let symbol = q.0 in
    ((let e : v.symbol < (meaning_of c).functions = omega arith in e), subst (λ (k : ℕ). Good (meaning_of c) k v.words) (sym symbol) q.1)

-- the draws that are left, after one more
pub drawn_more : (versions : List Version) (harts x steps done : ℕ) → done < steps → drawn versions harts x (steps - done) ≡ event_for versions harts (choice (next_draw x)) ++ drawn versions harts (next_draw x) (steps - (done + 1))
drawn_more versions harts x steps done low = let e : steps - done ≡ suc (steps - (done + 1)) = omega arith in ap (λ (n : ℕ). drawn versions harts x n) e

-- a list that isn't empty has an element
pub not_empty : (vs : List Version) (b : Bool) → b ≡ (length vs == 0) → b ≡ false → 0 < length vs
not_empty [] b is off = absurd (true≢false (sym is ∙ off))
not_empty (v ∷ vs) b is off = omega arith

-- one draw more
pub go_more : (versions : List Version) (harts x y steps n : ℕ) (before more all : List Event) → y ≡ next_draw x → n < steps → before ++ drawn versions harts x (steps - n) ≡ all → more ≡ event_for versions harts (choice y)
    → (before ++ more) ++ drawn versions harts y (steps - (n + 1)) ≡ all
go_more versions harts x y steps n before more all is low was event_is =
    let rest = drawn versions harts y (steps - (n + 1)) in
    let d : drawn versions harts x (steps - n) ≡ event_for versions harts (choice y) ++ rest =
    subst (λ (z : ℕ). drawn versions harts x (steps - n) ≡ event_for versions harts (choice z) ++ drawn versions harts z (steps - (n + 1))) (sym is) (drawn_more versions harts x steps n low) in
    append_assoc before more rest ∙ ap (λ (l : List Event). before ++ (l ++ rest)) event_is ∙ ap (λ (l : List Event). before ++ l) (sym d) ∙ was

-- an answer of the core is one for what the core goes by
pub right_for : (c : Core) (program : Program) (image : Image) (calls : List ListedCall) (i : ℕ) (e : Ended) → c.all.now ≡ program → c.work.image.now ≡ image → c.work.calls.now ≡ calls → IsRightAnswer c i e → IsRightFor program image calls i e
right_for c program image calls i e a b d right =
    subst (λ (p : Program). IsRightFor p image calls i e) a (subst (λ (x : Image). IsRightFor c.all.now x calls i e) b (subst (λ (l : List ListedCall). IsRightFor c.all.now c.work.image.now l i e) d right))
