use Rattle.std.proofs.Common.{◌≡◌, ◌+◌, ℕ, List, [], ◌∷◌, ◌++◌, length, length-append, All, sym, ap, subst, ◌∙◌, append_assoc, arith}
use Rattle.std.proofs.lemmas.List.Elements.{All-push}
use Rattle.std.proofs.lemmas.List.Sums.{sum_by_push}
use Rattle.std.specs.Vec.Iter.{into_iter_items}
use Rattle.entry_counts.specs.Tally.{times}
use Rattle.entry_counts.specs.declared.seat.CountSeat.{CountSeat}
use Rattle.entry_counts.specs.declared.view.Tally.{Tally}
use Rattle.redirect_cells.specs.declared.hart_seat.HartSeat.{HartSeat}
use Rattle.redirect_cells.proofs.Seated as S
use Rattle.jit_session.specs.OpenedHarts.{parts_of}
use Rattle.jit_session.specs.Settling.{IsRow, AreRows, CanPart, column, seats_of}
use Rattle.jit_session.proofs.Gathering.{seats_push, seats_long, counted_more}
use Rattle.jit_session.proofs.Parting.{rows_push}
use Rattle.jit_session.proofs.outcome.part.Goals as goal

pub push_reserved-requires-in-loop-runner : goal.push_reserved-requires-in-loop-runner
push_reserved-requires-in-loop-runner g c =
    let at = c.loop-runner in
    let inv = at.invariant in
    let x = c.in-Some.runner in
    let steps : into_iter_items at.runner-iterator ≡ x ∷ into_iter_items c.next.new.self = c.in-Some.ensures.steps.0 in
    let all : at.yielded ++ x ∷ into_iter_items c.next.new.self ≡ c.args.runners.items = rw steps at inv.order ∙ c.into_iter-runner-iterator.ensures.into_iter_gives.0 in
    let long = sym (length-append at.yielded (x ∷ into_iter_items c.next.new.self)) ∙ ap length all in
    let room = c.requires.room.0 in
    let same = inv.seats_room in
    let count : length at.seats.items ≡ length at.yielded = ap length inv.seats ∙ seats_long at.yielded in
    let len = at.seats.ok.0 in
    omega (arith, long, room, same, count, len)

pub loop-runner-preserved : goal.loop-runner-preserved
loop-runner-preserved g c =
    let at = c.loop-runner in
    let inv = at.invariant in
    let x = c.in-Some.runner in
    let steps : into_iter_items at.runner-iterator ≡ x ∷ into_iter_items c.next.new.self = c.in-Some.ensures.steps.0 in
    let all : at.yielded ++ x ∷ into_iter_items c.next.new.self ≡ c.args.runners.items = rw steps at inv.order ∙ c.into_iter-runner-iterator.ensures.into_iter_gives.0 in
    let can = S.one_of (CanPart c.args.all.now.counts.now) at.yielded (into_iter_items c.next.new.self) c.args.runners.items x all c.requires.parts in
    let seat : c.parts-seat.result.0 ≡ x.bench.seat = ap (λ r. r.0) c.parts-seat.ensures in
    let counts : c.parts-seat.result.1 ≡ x.bench.counts = ap (λ r. r.1) c.parts-seat.ensures in
    let row = c.row.result.items in
    let is : IsRow c.args.symbols x.bench.counts row = subst (λ (s : CountSeat). IsRow c.args.symbols s row) counts c.row.ensures in
    let rows : c.push_reserved.new.self.items ≡ at.by_hart.items ++ row ∷ [] = c.push_reserved.ensures.items ∙ ap (λ (r : List ℕ). at.by_hart.items ++ r ∷ []) c.from_vec.ensures in
    let joined = c.join.ensures.joined in
    let me = at.all.seat.me.0 in
    let mine = x.bench.counts.seat.me.0 in
    let both : c.join.new.self.seat.me.0.joined ≡ me.joined ++ (mine.own ++ mine.joined) = ap (λ (v : Tally). v.joined) joined ∙ ap (λ (s : CountSeat). me.joined ++ (s.seat.me.0.own ++ s.seat.me.0.joined)) counts in
    let more : length c.push_reserved.new.self.items ≡ length at.by_hart.items + 1 = ap length rows ∙ length-append at.by_hart.items (row ∷ []) in record {
      order = append_assoc at.yielded (x ∷ []) _ ∙ rw steps at inv.order;
      left = (let was = inv.left in
          let gone = c.in-Some.ensures.steps.1 in
          let short = ap length steps in
          omega arith);
      seats = c.push_reserved-in-loop-runner.ensures.items ∙ ap (λ (l : List HartSeat). l ++ c.parts-seat.result.0 ∷ []) inv.seats ∙ ap (λ (s : HartSeat). seats_of at.yielded ++ s ∷ []) seat ∙ sym (seats_push at.yielded x);
      count = (let was = inv.count in let y = length-append at.yielded (x ∷ []) in omega (arith, more, y, was));
      rows = subst (λ (l : List (List ℕ)). All (λ (r : List ℕ). length r ≡ c.args.symbols) l) (sym rows) (All-push (λ (r : List ℕ). length r ≡ c.args.symbols) at.by_hart.items row inv.rows is.0);
      each_row = subst (AreRows c.args.symbols (at.yielded ++ x ∷ [])) (sym rows) (rows_push c.args.symbols at.yielded at.by_hart.items x row inv.each_row is);
      joined = λ k low. ap (times k) both ∙ counted_more k c.args.symbols x.bench.counts me.joined at.by_hart.items row low is can.joined (inv.joined k low) ∙ ap (column k) (sym rows);
      parts = (let was = inv.parts in
          let a = ap (λ (v : Tally). v.parts) joined ∙ ap (λ (s : CountSeat). me.parts + s.seat.me.0.parts) counts in
          let b = sum_by_push parts_of at.yielded x in
          omega (arith, was, a, b));
      counts = c.join.ensures.counts ∙ inv.counts;
      own = ap (λ (v : Tally). v.own) joined ∙ inv.own;
      seats_room = c.push_reserved-in-loop-runner.ensures.capacity ∙ inv.seats_room;
      rows_room = c.push_reserved.ensures.capacity ∙ inv.rows_room;
    }
