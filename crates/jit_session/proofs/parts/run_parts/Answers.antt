use Rattle.std.proofs.Common.{sym, subst}
use Rattle.std.specs.Prelude.{slice_index_or}
use mathlib.Core.List.{◌∷◌, []}
use mir.Syntax.{named}
use denote.RattleType.{RattleType}
use denote.Param.{param}
use denote.Builtin.{u32}
use denote.Ref.{NamedLft}
use denote.Param.Send.{IsSync, sendable, param_sync, given_sync, shr_sync, shr_slice_sync}
use Rattle.std.proofs.Crossing.{crosses}
use Rattle.std.proofs.alloc.Global.TheSendSync as alloc
use Rattle.std.specs.contracts.sync.atomic.AtomicU64 as atomic
use Rattle.std.specs.contracts.sync.Mutex as mutex
use Rattle.hart.proofs.hart.Image.TheSendSync as image
use Rattle.ir_meaning.proofs.calls.ListedCall.TheSendSync as call
use Rattle.jit_session.specs.Parts.{CanGo, Went}
use Rattle.jit_session.specs.declared.locked.Naming as naming
use Rattle.jit_session.specs.contracts.locked.Locked as locked
use Rattle.jit_session.proofs.locked.Locked.TheSendSync as locked_laws
use Rattle.jit_session.proofs.Captures.{captures_sync}
use Rattle.jit_session.proofs.Sharing.{checked_sync}
use Rattle.jit_session.proofs.parts.run_parts.Goals as goal

number_sync : IsSync u32
number_sync = search sendable

running_sync : IsSync atomic.the_row
running_sync = search (sendable, crosses) depth 20

desk_sync : (a : NamedLft) (N : RattleType) (names : naming.Ghosts N.Denot) → IsSync (mutex.the_row (locked.the_row a N names))
desk_sync a N names = search (sendable, crosses, locked_laws.the_send) depth 20

pub for_each_mut-requires-sync-F : goal.for_each_mut-requires-sync-F
for_each_mut-requires-sync-F g c κs within =
    let rt = shr_sync (named 7) κs.1.1.1.1.1.1.1.0 (param 1 g.row.R) (param_sync 1 g.row.R (given_sync _ _ c.type_bounds.sync-R)) in
    let memory = shr_sync (named 8) κs.1.1.1.1.1.1.1.1.0 _ alloc.the_sync in
    let first = shr_sync (named 9) κs.1.1.1.1.1.1.1.1.1.0 _ image.the_sync in
    let program = shr_sync (named 10) κs.1.1.1.1.1.1.1.1.1.1.0 _ checked_sync in
    let calls_are = shr_slice_sync (named 11) κs.1.1.1.1.1.1.1.1.1.1.1.0 _ call.the_sync in
    let harts_are = shr_sync (named 12) κs.1.1.1.1.1.1.1.1.1.1.1.1.0 _ number_sync in
    let running = shr_sync (named 13) κs.1.1.1.1.1.1.1.1.1.1.1.1.1.0 _ running_sync in
    let desk = shr_sync (named 14) κs.1.1.1.1.1.1.1.1.1.1.1.1.1.1.0 _ (desk_sync (record { mir = named 15; lft = κs.1.1.1.1.1.1.1.1.1.1.1.1.1.1.1.0 }) (param 0 g.row.N) g.N.Naming) in
    let gate = shr_sync (named 16) κs.1.1.1.1.1.1.1.1.1.1.1.1.1.1.1.1.0 (param 2 g.row.G) (param_sync 2 g.row.G (given_sync _ _ c.type_bounds.sync-G)) in
    let whole = captures_sync [] (_ ∷ _ ∷ _ ∷ _ ∷ _ ∷ _ ∷ _ ∷ _ ∷ _ ∷ []) (rt, (memory, (first, (program, (calls_are, (harts_are, (running, (desk, (gate, tt))))))))) in
    record { shared = whole.shared }

pub for_each_mut-requires-clause-accepts : goal.for_each_mut-requires-clause-accepts
for_each_mut-requires-clause-accepts g c κs within = λ i p low is. (
  c.requires.work,
  (c.args.keeper.desk.seat.table.now, c.requires.named, c.requires.table),
  subst (λ r. CanGo c.args.checked.now c.args.calls.now c.args.harts r) (sym is) (c.requires.ready i p.now low),
)

pub returns-clause-went : goal.returns-clause-went
returns-clause-went g c = λ i d low.
    let at = (c.for_each_mut.ensures i d low).1 in
    subst (λ s. Went g.P.ReoptPolicy.marks c.args.checked.now c.args.calls.now c.args.harts (slice_index_or c.args.parts.now i d) s) at.left
    (subst (λ r. Went g.P.ReoptPolicy.marks c.args.checked.now c.args.calls.now c.args.harts r at.after_call.now) at.argument_is at.call)
