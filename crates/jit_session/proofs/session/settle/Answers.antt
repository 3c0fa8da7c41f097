use Rattle.std.proofs.Common.{◌≡◌, ℕ, ◌<◌, ◌≤◌, List, ◌++◌, length, All, sym, ap, subst, ◌∙◌, arith}
use Rattle.ir_meaning.specs.Meaning.{meaning}
use Rattle.ir_meaning.specs.Plays.{Meaning}
use Rattle.code_epochs.specs.Sound.{At, AreMade, Backed}
use Rattle.code_epochs.specs.declared.state.VersionState.{VersionState}
use Rattle.redirect_cells.specs.declared.view.Plan.{Plan}
use Rattle.redirect_cells.specs.Keeping.{AllGone, AreStill, NonePending, NoneUnlinked, held_words}
use Rattle.reopt_policy.specs.Marks.{level_for}
use Rattle.entry_counts.specs.Tally.{times}
use Rattle.jit_session.specs.Levels.{IsShown}
use Rattle.jit_session.specs.Served.{IsServedBy}
use Rattle.jit_session.specs.Sessions.{IsRefusedRow}
use Rattle.jit_session.proofs.Answers.{meaning_in}
use Rattle.jit_session.proofs.ServedRows.{backed_seats, served_rows}
use Rattle.redirect_cells.specs.declared.table.CodeTable.{CodeTable}
use Rattle.redirect_cells.specs.declared.hart_seat.HartSeat.{HartSeat}
use Rattle.redirect_cells.specs.Gathered.{IsIdleSeat, AreAllHarts, parts_of}
use Rattle.redirect_cells.specs.Kept.{book_of, meaning_of}
use Rattle.session_types.specs.declared.settled.RefusedJob.{RefusedJob}
use Rattle.ir_meaning.specs.declared.calls.Ended.{Ended}
use Rattle.jit_session.specs.declared.runner.Runner.{Runner}
use Rattle.jit_session.specs.Runs.{AllRight, Each, HasAnswered}
use Rattle.jit_session.specs.Entries.{calls_of, AreEntries}
use Rattle.jit_session.specs.Settling.{AreRows, AreAnswersOf, IsEnteredRow, seats_of}
use Rattle.jit_session.proofs.Parting.{entered_rows}
use Rattle.jit_session.proofs.Shelves.{collected_keeps, collected_still}
use Rattle.jit_session.specs.Levels.{AreRefused}
use Rattle.jit_session.specs.Rows.{IsRowOf}
use Rattle.jit_session.proofs.Settled.{levels, sums, linked, refused_row}
use Rattle.jit_session.proofs.Words.{collected-current, collected-long, held-rows, linked-rows}
use Rattle.jit_session.proofs.Settles.{all_idle, all_harts, all_gone}
use Rattle.jit_session.proofs.session.settle.Goals as goal

pub gather-requires-clause-idle : goal.gather-requires-clause-idle
gather-requires-clause-idle g c =
    let table = c.args.table.now in
    let harts = c.args.harts.items in
    let all = all_idle c.args.checked.now table c.args.all.counts.now c.args.calls.now table.harts harts c.requires.done in
    subst (λ (l : List HartSeat). All (IsIdleSeat c.args.keeper.desk.seat.table.now) l) (sym c.part.ensures.seats)
    (subst (λ (t : CodeTable). All (IsIdleSeat t) (seats_of harts)) (sym c.requires.keeper) all)

pub gather-requires-clause-all : goal.gather-requires-clause-all
gather-requires-clause-all g c =
    let table = c.args.table.now in
    let harts = c.args.harts.items in
    let all = all_harts c.args.checked.now table c.args.all.counts.now c.args.calls.now table.harts harts c.requires.count c.requires.done in
    subst (λ (l : List HartSeat). AreAllHarts c.args.keeper.desk.seat.table.now.harts l) (sym c.part.ensures.seats)
    (subst (λ (t : CodeTable). AreAllHarts t.harts (seats_of harts)) (sym c.requires.keeper) all)

pub close-requires : goal.close-requires
close-requires g c =
    let now = c.gather.new.self in
    let last = c.settle_all.new.keeper in
    let table : last.desk.seat.table.now ≡ c.args.keeper.desk.seat.table.now = ap (λ t. t.now) (c.settle_all.ensures.table ∙ c.gather.ensures.table) in
    all_gone (book_of now.desk.seat.seat.me.0) (book_of last.desk.seat.seat.me.0) c.args.keeper.desk.seat.table.now.harts last.desk.seat.table.now.harts (ap (λ (t : CodeTable). t.harts) table) c.settle_all.ensures.gone c.gather.ensures.all_gone

pub returns : goal.returns
returns g c =
    let program = c.args.checked.now in
    let done = c.requires.done in
    let calls = c.args.calls.now in
    let harts = c.args.harts.items in
    let of = c.args.table.now in
    let functions = of.functions in
    let marks = g.P.ReoptPolicy.marks c.args.policy in
    let test = g.M.Maker.may_crowd c.args.maker program in
    let count = c.requires.count in
    let symbols = c.symbols-symbols.ensures in
    let tally = c.args.all.counts.now in
    let first = c.gather.new.self in
    let keeper = c.settle_all.new.keeper in
    let view = keeper.desk.seat.seat.me.0 in
    let entries = c.part.new.all.seat.me.0.joined in
    let counts = c.from_vec-2.ensures in
    let same = c.from_vec-3.ensures in
    let jobs = c.from_vec-4.ensures in
    let long = c.fill_rows.ensures.count in
    let close = c.close.ensures in
    let book = close.book in
    let tables : keeper.desk.seat.table.now ≡ of = ap (λ t. t.now) (c.settle_all.ensures.table ∙ c.gather.ensures.table) ∙ c.requires.keeper in
    let plan : view.plan ≡ of.table.shared.key = keeper.desk.seat.plan ∙ ap (λ (t : CodeTable). t.table.shared.key) tables in
    let means : meaning_of view.plan ≡ meaning program = ap meaning_of plan ∙ meaning_in of.table.shared.key program c.requires.program in
    let size : view.plan.code_words ≡ of.code_words = ap (λ (q : Plan). q.code_words) plan ∙ sym of.code_is in
    -- answers
    let answered : Each (λ h r. HasAnswered program calls (length harts) h r.answers.items) harts = subst (λ (n : ℕ). Each (λ h r. HasAnswered program calls n h r.answers.items) harts) (sym count) (λ i d low. (done i d low).answered) in
    let here : Each (λ h r. HasAnswered program calls (length c.as_slice.result.now) h r.answers.items) c.as_slice.result.now =
    subst (λ (l : List (Runner g.row.G.Denot)). Each (λ h r. HasAnswered program calls (length l) h r.answers.items) l) (sym c.as_slice.ensures.value) answered in
    let in_place : Each (λ h (r : Runner g.row.G.Denot). AreAnswersOf (length calls) of.harts h c.from_vec.result r.answers.items) harts =
    subst (λ (l : List Ended). Each (λ h (r : Runner g.row.G.Denot). AreAnswersOf (length calls) of.harts h l r.answers.items) harts) (sym c.from_vec.ensures)
    (subst (λ (n : ℕ). Each (λ h (r : Runner g.row.G.Denot). AreAnswersOf (length calls) n h c.gather_answers.new.answers.items r.answers.items) harts) count
    (subst (λ (l : List (Runner g.row.G.Denot)). Each (λ h (r : Runner g.row.G.Denot). AreAnswersOf (length calls) (length l) h c.gather_answers.new.answers.items r.answers.items) l) c.as_slice.ensures.value c.gather_answers.ensures.same)) in
    -- the rows of harts
    let own : AreRows functions harts c.part.new.by_hart.items = subst (λ (n : ℕ). AreRows n harts c.part.new.by_hart.items) symbols c.part.ensures.own in
    let each : Each (λ h (r : Runner g.row.G.Denot). AreEntries program (calls_of calls of.harts h) functions r.bench.counts.seat.me.0.own) harts =
    subst (λ (n : ℕ). Each (λ h (r : Runner g.row.G.Denot). AreEntries program (calls_of calls of.harts h) n r.bench.counts.seat.me.0.own) harts) c.requires.symbols (λ i d low. (done i d low).entered) in
    let before = (book_of c.args.keeper.desk.seat.seat.me.0).joined in
    let joined : book.joined ≡ before ++ parts_of (seats_of harts) = close.collected.joined ∙ c.settle_all.ensures.joined ∙ c.gather.ensures.joined ∙ ap (λ (l : List HartSeat). before ++ parts_of l) c.part.ensures.seats in
    let backed = backed_seats program of tally calls of.harts book c.from_vec.result harts before book.joined joined
    (λ i p at e pass was. subst (λ (z : Meaning × ℕ). Backed z.0 z.1 book pass) (λ j. (means j, size j)) (close.backed i p at e pass was)) in
    let served = served_rows program of tally calls of.harts book c.from_vec.result functions c.requires.symbols harts c.part.new.by_hart.items own done backed in_place in
    -- the rows of functions
    let rows : Each (IsRowOf keeper.desk.shelf entries) c.fill_rows.new.rows.items =
    subst (λ (l : List ℕ). Each (IsRowOf keeper.desk.shelf l) c.fill_rows.new.rows.items) c.settle_all.ensures.all.joined c.fill_rows.ensures.rows in
    let keeps = collected_keeps (book_of view) book keeper.desk.shelf close.shelf keeper.desk.seat.table.now.harts close.given close.collected in
    let current = collected-current (book_of view) book keeper.desk.shelf close.shelf keeper.desk.seat.table.now.harts close.given close.collected keeper.desk.linked_are in
    let rest = c.from_vec-3.result in
    let all-symbols : length rest ≡ functions = ap length same ∙ long ∙ symbols in
    let long-rows : length close.shelf.current.items ≡ length rest =
    collected-long (book_of view) book keeper.desk.shelf close.shelf keeper.desk.seat.table.now.harts close.given close.collected ∙ keeper.desk.functions_are ∙ ap (λ (t : CodeTable). t.functions) tables ∙ sym all-symbols in
    let all-linked = linked keeper.desk.shelf entries c.symbols-symbols.result c.fill_rows.new.rows.items rest same long rows close.shelf keeps in
    -- the refused jobs
    let refused : AreRefused test functions c.settle_all.new.refused.items = subst (λ (n : ℕ). AreRefused test n c.settle_all.new.refused.items) symbols c.settle_all.ensures.refused in
    let still : AreStill keeper.desk.shelf.versions.items book.versions = subst (AreStill keeper.desk.shelf.versions.items) (sym close.versions)
    (collected_still (book_of view) book keeper.desk.shelf close.shelf keeper.desk.seat.table.now.harts close.given close.collected) in
    let first-table : first.desk.seat.table.now ≡ of = ap (λ t. t.now) c.gather.ensures.table ∙ c.requires.keeper in
    let gone : AllGone first.desk.seat.table.now.harts (book_of first.desk.seat.seat.me.0) = subst (λ (n : ℕ). AllGone n (book_of first.desk.seat.seat.me.0)) (ap (λ t. t.now.harts) (sym c.gather.ensures.table)) c.gather.ensures.all_gone in
    let shown : (i : ℕ) (job : RefusedJob) → At c.settle_all.new.refused.items i job → IsRefusedRow test program of.code_words marks book rest job = λ i job at.
    refused_row keeper.desk.shelf entries c.symbols-symbols.result c.fill_rows.new.rows.items rest same long rows test program of.code_words marks book (book_of first.desk.seat.seat.me.0) first.desk.seat.table.now.harts job
    (subst (λ (n : ℕ). job.symbol < n) (sym symbols) (refused.exist i job at)) gone still
    (subst (λ (n : ℕ). IsShown (book_of first.desk.seat.seat.me.0) first.desk.seat.table.now.harts test program n (λ k. level_for marks (times k entries)) keeper.desk.shelf job) (ap (λ (t : CodeTable). t.code_words) first-table) (c.settle_all.ensures.shown i job at)) in
    let linked-are : (l : List VersionState) → l ≡ close.shelf.versions.items → NonePending l × NoneUnlinked l = λ l is. (subst NonePending (sym is) close.none_pending, subst NoneUnlinked (sym is) close.none_unlinked) in
    let calm = linked-are book.versions close.versions in
    record {
      answers = subst (λ (l : List Ended). AllRight program calls l) (sym c.from_vec.ensures) (c.gather_answers.ensures.right program here);
      harts = ap length counts ∙ c.part.ensures.count ∙ count;
      by_hart = subst (λ (l : List (List ℕ)). All (λ (row : List ℕ). length row ≡ functions) l) (sym counts)
          (subst (λ (n : ℕ). All (λ (row : List ℕ). length row ≡ n) c.part.new.by_hart.items) symbols c.part.ensures.rows);
      entered = subst (λ (l : List (List ℕ)). Each (IsEnteredRow program calls of.harts) l) (sym counts) (entered_rows program calls of.harts functions harts c.part.new.by_hart.items own each);
      symbols = all-symbols;
      entries = sums keeper.desk.shelf entries c.symbols-symbols.result c.fill_rows.new.rows.items c.from_vec-3.result same long rows c.part.new.by_hart.items c.from_vec-2.result counts c.part.ensures.joined;
      levels = levels keeper.desk.shelf entries c.symbols-symbols.result c.fill_rows.new.rows.items c.from_vec-3.result same long rows marks c.settle_all.new.refused.items c.from_vec-4.result jobs c.settle_all.ensures.levels;
      refused = subst (AreRefused test functions) (sym jobs) refused;
      book = book;
      made = subst (λ (m : Meaning). AreMade m book) means close.made;
      served = subst (λ (l : List (List ℕ)). Each (IsServedBy program of.code_words book calls c.from_vec.result of.harts) l) (sym counts) served;
      linked = linked-rows close.shelf book close.versions current rest all-linked;
      shown = subst (λ (l : List RefusedJob). (i : ℕ) (job : RefusedJob) → At l i job → IsRefusedRow test program of.code_words marks book rest job) (sym jobs) shown;
      none_pending = calm.0;
      none_unlinked = calm.1;
      used = close.used_are ∙ ap held_words (sym close.versions);
      words = close.used_are ∙ held-rows close.shelf close.none_pending close.none_unlinked current rest long-rows all-linked;
      fits = subst (λ (n : ℕ). c.close.result ≤ n) size close.fits;
    }
