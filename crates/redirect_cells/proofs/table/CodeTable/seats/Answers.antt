use Rattle.std.proofs.Common.{◌≡◌, ℕ, ◌+◌, List, length, refl, sym, ap, subst, ◌∙◌, arith}
use Rattle.rv_play.specs.declared.version.Version.{Version}
use Rattle.redirect_cells.specs.Opened.{AreQuick, AreLaid, AreNewSeats}
use Rattle.redirect_cells.proofs.Lays as L
use Rattle.redirect_cells.proofs.Seated as S
use Rattle.redirect_cells.proofs.table.CodeTable.seats.Goals as goal

pub opened-requires-clause-quick : goal.opened-requires-clause-quick
opened-requires-clause-quick c = subst (λ (l : List Version). AreQuick c.args.self.now.table.shared.key l) (sym c.as_slice-2.ensures.value) c.requires.quick

pub hart_seats-requires-clause-all : goal.hart_seats-requires-clause-all
hart_seats-requires-clause-all c =
    let desk = c.in-Ok.desk in
    let table = c.args.self.now in
    let quick = subst (λ (l : List Version). AreLaid desk.shelf l) c.as_slice-2.ensures.value c.in-Ok.ensures.versions in
    let functions = desk.functions_are ∙ ap (λ t. t.now.functions) c.in-Ok.ensures.table ∙ table.functions_are ∙ sym c.requires.quick.0 in
    L.laid_current desk.shelf c.args.quick.items quick functions

pub invariant_of-result : goal.invariant_of-result
invariant_of-result c =
    let desk = c.in-Ok.desk in
    let new = c.hart_seats.new.desk in
    let table = c.args.self.now in
    let same = c.hart_seats.ensures.shelf in
    let quick = subst (λ (l : List Version). AreLaid desk.shelf l) c.as_slice-2.ensures.value c.in-Ok.ensures.versions in
    let now = subst (λ s. AreLaid s c.args.quick.items) (sym same) quick in
    let functions = desk.functions_are ∙ ap (λ t. t.now.functions) c.in-Ok.ensures.table ∙ table.functions_are ∙ sym c.requires.quick.0 in
    let count = subst (λ (l : List Version). L.IsCounted desk.shelf l) c.as_slice-2.ensures.value c.in-Ok.ensures.count in record {
      all_current = L.laid_current new.shelf c.args.quick.items now (ap (λ s. length s.current.items) same ∙ functions);
      none_unlinked = L.laid_free new.shelf c.args.quick.items now;
      words_are = L.laid_all new.shelf c.args.quick.items now (subst (λ s. L.IsCounted s c.args.quick.items) (sym same) count);
    }

pub returns-clause-idle : goal.returns-clause-idle
returns-clause-idle c =
    S.seats_idle c.args.self.now c.args.self.now.harts c.in-Ok-hart_seats.seats.items (subst (λ t. AreNewSeats t.now t.now.harts c.in-Ok-hart_seats.seats.items) c.in-Ok.ensures.table c.in-Ok-hart_seats.ensures.seats)

pub returns-clause-all : goal.returns-clause-all
returns-clause-all c =
    S.seats_all c.args.self.now c.args.self.now.harts c.in-Ok-hart_seats.seats.items (subst (λ t. AreNewSeats t.now t.now.harts c.in-Ok-hart_seats.seats.items) c.in-Ok.ensures.table c.in-Ok-hart_seats.ensures.seats)
