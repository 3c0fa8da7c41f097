use Rattle.std.proofs.Common.{◌≡◌, ℕ, ◌+◌, ◌<◌, List, [], ◌∷◌, ◌++◌, length, true, false, refl, sym, ap, subst, ◌∙◌, arith}
use Rattle.code_epochs.specs.declared.parts.Book.{Book}
use Rattle.code_epochs.specs.Steps.{book_split, new_part}
use Rattle.redirect_cells.specs.declared.view.View.{View}
use Rattle.redirect_cells.specs.declared.view.Role.{Role}
use Rattle.redirect_cells.specs.declared.view.Role.TheVariants.{Hart, Keeper, Spent}
use Rattle.redirect_cells.specs.Kept.{book_of, book_in, is_keeper, split_role, number_in}
use Rattle.redirect_cells.specs.Keeping.{AllCurrent}
use Rattle.redirect_cells.proofs.Seated as S
use Rattle.redirect_cells.proofs.first.hart_seats.Goals as goal

off : false ≡ true → ⊥
off e = absurd (cc)

split_book : (r : Role) → is_keeper r ≡ true → book_in (split_role r) ≡ book_split (book_in r)
split_book (Keeper book) e = refl
split_book (Hart v) e = absurd (off e)
split_book Spent e = absurd (off e)

pub loop-number-preserved : goal.loop-number-preserved
loop-number-preserved c =
    let inv = c.loop-number.invariant in
    let old = c.loop-number.desk in
    let n = c.loop-number.number in
    let step = c.seat.ensures in
    let s = c.seat.result in
    let book : book_of c.seat.new.self.seat.seat.me.0 ≡ book_split (book_of old.seat.seat.me.0) = ap book_of step.keeper ∙ split_book old.seat.seat.me.0.role old.seat.keeper in
    let seated = ap (λ (b : Book). b.seated) book in
    let was = inv.seated in
    let role : s.seat.me.0.role ≡ Hart record { number = n; word = 0; part = new_part } = ap (λ (v : View). v.role) step.hart ∙ ap (λ (k : ℕ). Hart record { number = k; word = 0; part = new_part }) inv.seated in
    let here = ap (λ t. t.now) (step.table.1 ∙ inv.table) in record {
      table = step.table.0 ∙ inv.table;
      shelf = step.shelf ∙ inv.shelf;
      seated = omega arith;
      gone = ap (λ (b : Book). b.gone) book ∙ inv.gone;
      joined = ap (λ (b : Book). b.joined) book ∙ inv.joined;
      seats = S.seats_more c.args.desk.now.seat.table.now n c.loop-number.seats.items c.push_reserved.new.self.items s inv.seats c.push_reserved.ensures.items here (sym s.number_is ∙ ap number_in role) role;
      room = c.push_reserved.ensures.capacity ∙ inv.room;
    }
