use Rattle.std.proofs.Common.{◌≡◌, ◌≢◌, ◌⊎◌, ◌+◌, ◌*◌, ◌-◌, ◌/◌, ◌<◌, ◌≤◌, [], ◌∷◌, ◌++◌, map, length, set, get_or, None, Some, ℕ, suc, List, true, false, sym, refl, subst, ap, ◌∙◌, inl, inr, ⊎_elim, arith, rules, vec_len, vec_capacity}
use Rattle.code_epochs.specs.declared.state.Status.{Status}
use Rattle.code_epochs.specs.declared.state.Status.TheVariants.{Linked, Unlinked, Pending, GivenUp}
use Rattle.code_epochs.specs.declared.state.VersionState.{VersionState}
use Rattle.code_epochs.specs.declared.parts.Book.{Book}
use Rattle.code_epochs.specs.declared.parts.Draft.{Draft}
use Rattle.code_epochs.specs.Sound.{At, Apart, IsBase, Stays, HasPassed, start_of}
use Rattle.code_epochs.specs.Steps.{unlinked, linked_of, with_status}
use Rattle.code_epochs.proofs.Lists.{at_same, at_index, at_below, set_else, set_here}
use Rattle.code_space.specs.Space.{HasRoom, IsFree, count_free}
use Rattle.code_epochs.specs.Shelf.{NoneFree, NoneShared, IsApart, count_staying, is_linked}
use Rattle.redirect_cells.specs.declared.view.View.{View}
use Rattle.redirect_cells.specs.declared.view.Plan.{Plan}
use Rattle.redirect_cells.specs.Kept.{book_of, draft_at, MayBegin}
use Rattle.redirect_cells.specs.Keeping.{Published}
use Rattle.redirect_cells.proofs.Keeps as K
use Rattle.redirect_cells.specs.declared.desk.Desk.{Desk}
use Rattle.redirect_cells.specs.Keeping.{IsLook, LookedAt}
use Rattle.redirect_cells.proofs.desk.Desk.look_at_harts.Goals as goal

pub loop-hart-init : goal.loop-hart-init
loop-hart-init c = record { other = λ v at free. refl; table = refl; looked = λ v tag passed at is. K.looked_none (book_of c.args.self.now.seat.seat.me.0) c.args.number v tag passed at is; current = refl; space = refl; count = refl }

pub loop-hart-preserved : goal.loop-hart-preserved
loop-hart-preserved c =
    let inv = c.loop-hart.invariant in
    let look = c.look_once.ensures in
    let few = c.requires.harts in
    let t = c.loop-hart-test.true in record {
      other = λ v at free. let same = inv.other v at free in look.other v (subst (λ (d : Desk). At d.shelf.versions.items c.args.number v) (sym same) at) free ∙ same;
      table = look.table ∙ inv.table;
      looked = λ v tag passed at is. K.looked_more (book_of c.args.self.now.seat.seat.me.0) (book_of c.loop-hart.self.seat.seat.me.0) (book_of c.look_once.new.self.seat.seat.me.0) c.args.number v tag passed c.loop-hart.hart (omega arith) at (inv.looked v tag passed at is) look.looked;
      current = look.same.0 ∙ inv.current;
      space = look.same.1 ∙ inv.space;
      count = look.count ∙ inv.count;
    }
