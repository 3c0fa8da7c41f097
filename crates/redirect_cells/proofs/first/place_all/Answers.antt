use Rattle.std.proofs.Common.{◌≡◌, ℕ, ◌+◌, ◌<◌, ◌≤◌, List, [], ◌∷◌, ◌++◌, map, length, set, drop, refl, sym, ap, subst, ◌∙◌, arith}
use Rattle.code_epochs.specs.declared.state.VersionState.{VersionState}
use Rattle.code_epochs.specs.Sound.{At}
use Rattle.code_epochs.specs.Steps.{unlinked, linked_of}
use Rattle.code_epochs.proofs.Lists.{at_index}
use Rattle.code_space.specs.declared.FreeRange.{FreeRange}
use Rattle.code_space.specs.Space.{Space, IsFree}
use Rattle.rv_play.specs.declared.version.Version.{Version}
use Rattle.rv_play.specs.Good.{Good}
use Rattle.code_epochs.specs.Shelf.{IsApart}
use Rattle.redirect_cells.specs.Kept.{meaning_of, AllBelow, draft_at}
use Rattle.redirect_cells.specs.Opened.{words_of, laid}
use Rattle.redirect_cells.proofs.Lays as L
use Rattle.redirect_cells.proofs.first.place_all.Goals as goal

pub loop-version-init : goal.loop-version-init
loop-version-init c =
    let none = c.requires.none in record {
      table = refl;
      harts = (refl, refl, refl);
      laid = ap (λ (l : List VersionState). l ++ laid c.args.quick.now c.args.first 0) none;
      count = ap length none;
      symbols = subst (λ (l : List VersionState). (k : ℕ) (v : VersionState) → At l k v → v.symbol ≡ k) (sym none) L.no_symbols;
      below = subst (λ (l : List VersionState). AllBelow l c.args.first) (sym none) (L.none_below c.args.first);
      place = refl;
      least = omega arith;
      current = λ k low. absurd (omega arith);
      size = refl;
      ranges = refl;
    }

pub add-requires-clause-good : goal.add-requires-clause-good
add-requires-clause-good c =
    let inv = c.loop-version.invariant in
    let i = c.loop-version.version-index in
    let q = c.version-item.result in
    let at = at_index c.args.quick.now i q c.loop-version-test.true c.version-item.is in
    let quick = c.requires.quick.1 i q at in
    subst (λ t. Good (meaning_of t.now.table.shared.key) q.symbol q.words) (sym inv.table) (subst (λ (k : ℕ). Good (meaning_of c.args.desk.now.seat.table.now.table.shared.key) k q.words) (sym quick.0) quick.1)

pub add-requires-clause-symbol : goal.add-requires-clause-symbol
add-requires-clause-symbol c =
    let inv = c.loop-version.invariant in
    let i = c.loop-version.version-index in
    let q = c.version-item.result in
    let low : i < length c.args.quick.now = c.loop-version-test.true in
    let at = at_index c.args.quick.now i q low c.version-item.is in
    let symbol = (c.requires.quick.1 i q at).0 in
    let count = c.requires.quick.0 in
    let functions = c.args.desk.now.seat.table.now.functions_are in
    subst (λ t. q.symbol < t.now.functions) (sym inv.table) (omega arith)

pub add-requires-clause-range : goal.add-requires-clause-range
add-requires-clause-range c =
    let inv = c.loop-version.invariant in
    let i = c.loop-version.version-index in
    let place = c.loop-version.place in
    let q = c.version-item.result in
    let at = at_index c.args.quick.now i q c.loop-version-test.true c.version-item.is in
    let more = L.words_more c.args.quick.now q i at in
    let all = inv.place in
    let least = inv.least in
    let range = c.requires.range.0 in
    let space = c.reserve.ensures.space in
    let size = space.0 ∙ inv.size in
    let ranges = space.1 ∙ inv.ranges in (
      omega arith,
      λ w lo hi. subst (λ (l : List FreeRange). ¬ IsFree l w) (sym ranges) (c.requires.range.1 w (omega arith) (omega arith)),
      subst (λ (l : List VersionState). IsApart l place (length q.words)) (sym c.reserve.ensures.same.0) (L.behind_apart c.loop-version.desk.shelf.versions.items place (length q.words) inv.below),
    )

pub loop-version-preserved : goal.loop-version-preserved
loop-version-preserved c =
    let inv = c.loop-version.invariant in
    let old = c.loop-version.desk in
    let vs = old.shelf.versions.items in
    let new = c.add.new.self in
    let i = c.loop-version.version-index in
    let place : ℕ = c.loop-version.place in
    let q = c.version-item.result in
    let low : i < length c.args.quick.now = c.loop-version-test.true in
    let at = at_index c.args.quick.now i q low c.version-item.is in
    let symbol = (c.requires.quick.1 i q at).0 in
    let reserve = c.reserve.ensures in
    let add = c.add.ensures in
    let items = L.new_is vs new.shelf.versions.items q place i symbol inv.count inv.symbols (add.versions ∙ ap (λ (l : List VersionState). map (unlinked q.symbol) l ++ linked_of (draft_at q place 1) (length l) ∷ []) reserve.same.0) in
    let w : c.len.result ≡ length q.words = c.len.ensures in
    let more = L.words_more c.args.quick.now q i at in
    let all = inv.place in
    let least = inv.least in
    let functions : length old.shelf.current.items ≡ c.args.desk.now.seat.table.now.functions = old.functions_are ∙ ap (λ t. t.now.functions) inv.table in
    let functions_are = c.args.desk.now.seat.table.now.functions_are in
    let quick = c.requires.quick.0 in
    let below : i < length old.shelf.current.items = omega arith in
    let count : length vs ≡ i = inv.count in
    let current = add.current ∙ (λ j. set (reserve.same.1 j).items q.symbol (length (reserve.same.0 j) + 1)) in record {
      table = add.table ∙ inv.table;
      harts = (add.harts.0 ∙ inv.harts.0, add.harts.1 ∙ inv.harts.1, add.harts.2 ∙ inv.harts.2);
      laid = subst (λ (n : ℕ). new.shelf.versions.items ++ laid (drop (i + 1) c.args.quick.now) (place + (n + 1)) (i + 1) ≡ laid c.args.quick.now c.args.first 0) (sym w) (L.laid_more vs new.shelf.versions.items c.args.quick.now q place i at items ∙ inv.laid);
      count = L.count_more vs new.shelf.versions.items (linked_of (draft_at q place 1) i) i count items;
      symbols = L.symbols_more vs new.shelf.versions.items q place i symbol count inv.symbols items;
      below = subst (λ (n : ℕ). AllBelow new.shelf.versions.items (place + (n + 1))) (sym w) (L.below_more vs new.shelf.versions.items q place i inv.below items);
      place = omega arith;
      least = omega arith;
      current = subst (λ (l : List ℕ). (k : ℕ) → k < i + 1 → At l k (k + 1)) (sym current) (L.current_more old.shelf.current.items q.symbol i (length vs) symbol count below inv.current);
      size = ap (λ (y : Space). y.size) add.space ∙ reserve.space.0 ∙ inv.size;
      ranges = ap (λ (y : Space). y.ranges) add.space ∙ reserve.space.1 ∙ inv.ranges;
    }
