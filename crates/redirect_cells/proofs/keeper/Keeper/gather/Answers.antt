use Rattle.std.proofs.Common.{◌≡◌, ℕ, ◌<◌, ◌∷◌, [], ◌++◌, List, length, refl, sym, ap, subst, ◌∙◌, append_assoc, append-nil, arith}
use Rattle.std.specs.Vec.Iter.{into_iter_items}
use Rattle.code_epochs.specs.declared.parts.HartPart.{HartPart}
use Rattle.redirect_cells.specs.declared.hart_seat.HartSeat.{HartSeat}
use Rattle.redirect_cells.specs.declared.table.CodeTable.{CodeTable}
use Rattle.redirect_cells.specs.Kept.{book_of, part_of}
use Rattle.redirect_cells.specs.Gathered.{IsIdleSeat, numbers_of, parts_of}
use Rattle.redirect_cells.proofs.Seated as S
use Rattle.redirect_cells.proofs.keeper.Keeper.gather.Goals as goal

nothing_left : {X : Type 0} (l : List X) → length l ≡ 0 → l ≡ []
nothing_left [] h = refl
nothing_left (x ∷ xs) h = absurd (omega arith)

pub take_in-requires : goal.take_in-requires
take_in-requires c =
    let at = c.loop-seat in
    let x = c.in-Some.seat in
    let inv = at.invariant in
    let steps : into_iter_items at.seat-iterator ≡ x ∷ into_iter_items c.next.new.self = c.in-Some.ensures.steps.0 in
    let all : at.yielded ++ x ∷ into_iter_items c.next.new.self ≡ c.args.seats.items = rw steps at inv.order ∙ c.into_iter-seat-iterator.ensures.into_iter_gives.0 in
    let mine = S.one_of (IsIdleSeat c.args.self.now.desk.seat.table.now) at.yielded (into_iter_items c.next.new.self) c.args.seats.items x all c.requires.idle in
    record { table = ap (λ (t : CodeTable). t.table.shared.table_id) mine.0 ∙ sym (ap (λ t. t.now.table.shared.table_id) inv.table); idle = mine.1 }

pub loop-seat-preserved : goal.loop-seat-preserved
loop-seat-preserved c =
    let at = c.loop-seat in
    let x = c.in-Some.seat in
    let inv = at.invariant in
    let steps : into_iter_items at.seat-iterator ≡ x ∷ into_iter_items c.next.new.self = c.in-Some.ensures.steps.0 in
    let take = c.take_in.ensures in record {
      order = append_assoc at.yielded (x ∷ []) _ ∙ rw steps at inv.order;
      left = (let was = inv.left in
          let gone = c.in-Some.ensures.steps.1 in
          let short = ap length steps in
          omega arith);
      table = take.table ∙ inv.table;
      shelf = take.shelf ∙ inv.shelf;
      gone = take.gone ∙ ap (λ (l : List ℕ). l ++ x.number ∷ []) inv.gone ∙ sym (S.append_snoc (book_of c.args.self.now.desk.seat.seat.me.0).gone (numbers_of at.yielded) x.number) ∙ ap (λ (l : List ℕ). (book_of c.args.self.now.desk.seat.seat.me.0).gone ++ l) (sym (S.numbers_snoc at.yielded x));
      joined = take.parts ∙ ap (λ (l : List HartPart). l ++ part_of x.seat.me.0 ∷ []) inv.joined ∙ sym (S.append_snoc (book_of c.args.self.now.desk.seat.seat.me.0).joined (parts_of at.yielded) (part_of x.seat.me.0)) ∙ ap (λ (l : List HartPart). (book_of c.args.self.now.desk.seat.seat.me.0).joined ++ l) (sym (S.parts_snoc at.yielded x));
      backed = λ _. take.backed;
    }

pub returns-clause-gone : goal.returns-clause-gone
returns-clause-gone c =
    let at = c.loop-seat in
    let inv = at.invariant in
    let none = c.in-None.ensures.steps in
    let empty : into_iter_items at.seat-iterator ≡ [] = nothing_left _ (sym inv.left ∙ none.0) in
    let all : at.yielded ≡ c.args.seats.items = sym (append-nil at.yielded) ∙ rw empty at inv.order ∙ c.into_iter-seat-iterator.ensures.into_iter_gives.0 in
    let old = book_of c.args.self.now.desk.seat.seat.me.0 in
    inv.gone ∙ ap (λ (l : List HartSeat). old.gone ++ numbers_of l) all

pub returns-clause-joined : goal.returns-clause-joined
returns-clause-joined c =
    let at = c.loop-seat in
    let inv = at.invariant in
    let none = c.in-None.ensures.steps in
    let empty : into_iter_items at.seat-iterator ≡ [] = nothing_left _ (sym inv.left ∙ none.0) in
    let all : at.yielded ≡ c.args.seats.items = sym (append-nil at.yielded) ∙ rw empty at inv.order ∙ c.into_iter-seat-iterator.ensures.into_iter_gives.0 in
    let old = book_of c.args.self.now.desk.seat.seat.me.0 in
    inv.joined ∙ ap (λ (l : List HartSeat). old.joined ++ parts_of l) all

pub returns-clause-all_gone : goal.returns-clause-all_gone
returns-clause-all_gone c =
    let at = c.loop-seat in
    let inv = at.invariant in
    let none = c.in-None.ensures.steps in
    let empty : into_iter_items at.seat-iterator ≡ [] = nothing_left _ (sym inv.left ∙ none.0) in
    let all : at.yielded ≡ c.args.seats.items = sym (append-nil at.yielded) ∙ rw empty at inv.order ∙ c.into_iter-seat-iterator.ensures.into_iter_gives.0 in
    let old = book_of c.args.self.now.desk.seat.seat.me.0 in
    S.all_gone c.args.self.now.desk.seat.table.now.harts old.gone (book_of at.self.desk.seat.seat.me.0).gone c.args.seats.items (inv.gone ∙ ap (λ (l : List HartSeat). old.gone ++ numbers_of l) all) c.requires.all

pub returns-clause-backed : goal.returns-clause-backed
returns-clause-backed c =
    let at = c.loop-seat in
    let inv = at.invariant in
    let none = c.in-None.ensures.steps in
    let empty : into_iter_items at.seat-iterator ≡ [] = nothing_left _ (sym inv.left ∙ none.0) in
    let all : at.yielded ≡ c.args.seats.items = sym (append-nil at.yielded) ∙ rw empty at inv.order ∙ c.into_iter-seat-iterator.ensures.into_iter_gives.0 in
    let old = book_of c.args.self.now.desk.seat.seat.me.0 in
    let more = S.some_seats c.args.self.now.desk.seat.table.now.harts c.args.seats.items c.args.self.now.desk.seat.table.now.some_harts c.requires.all in
    inv.backed (subst (λ (l : List HartSeat). 0 < length l) (sym all) more)
