-- What harts and workers leave.
use Rattle.std.proofs.Common.{◌≡◌, ℕ, ◌+◌, ◌<◌, ◌++◌, List, [], length, drop, take, sum_by, All, Option, Some, None, refl, sym, ap, subst, ◌∙◌, arith}
use Rattle.std.specs.Prelude.{slice_index_or}
use Rattle.ir_core.specs.Program.{Program}
use Rattle.ir_meaning.specs.declared.calls.ListedCall.{ListedCall}
use Rattle.entry_counts.specs.declared.counts.Counts.{Counts}
use Rattle.redirect_cells.specs.declared.table.CodeTable.{CodeTable}
use Rattle.jit_session.specs.declared.runner.Runner.{Runner}
use Rattle.jit_session.specs.OpenedHarts.{IsDone, parts_of}
use Rattle.jit_session.specs.Runs.{Each}
use Rattle.jit_session.proofs.Ended.{all_done, can_run, parts_same}
use Rattle.jit_session.specs.declared.asking.Asking.{Asking}
use Rattle.jit_session.specs.declared.parts.Part.{Part}
use Rattle.jit_session.specs.Parts.{CanGo, Went, harts_of, asking_in, or_else}
use Rattle.jit_session.proofs.Lists.{all_can_go, all_went, harts_long, harts_ran, asker_left}
use Rattle.jit_session.specs.Opened.{AreOpened}
use Rattle.jit_session.proofs.Settles.{written}

module _ {G P : Type 0} (marks : P → List ℕ) (program : Program) (of : CodeTable) (tally : Counts) (calls : List ListedCall) (policy : P) where
  -- what is left once the parts are taken apart
  pub record IsLeft (runners : List (Runner G)) (a : Asking P) : Type 0 where
    pub done : Each (IsDone program of a.counts.counts.now calls of.harts) runners
    pub count : length runners ≡ of.harts
    pub symbols : a.counts.counts.now.symbols ≡ tally.symbols
    pub own : (a.counts.seat.me.0.own ≡ []) × (a.counts.seat.me.0.joined ≡ [])
    pub shares : a.counts.seat.me.0.parts + sum_by parts_of runners ≡ 64
    pub marks_are : marks a.policy ≡ marks policy

module _ {G M P : Type 0} (marks : P → List ℕ) (program : Program) (of : CodeTable) (tally : Counts) (calls : List ListedCall) (policy : P) where
  -- what asks has the policy's marks and a seat of the counts that has counted nothing, and it and the harts have all parts
  pub record Asks (parts : List (Part G M P)) (a : Asking P) : Type 0 where
    pub marks_are : marks a.policy ≡ marks policy
    pub counts : a.counts.counts.now ≡ tally
    pub own : (a.counts.seat.me.0.own ≡ []) × (a.counts.seat.me.0.joined ≡ [])
    pub shares : sum_by parts_of (harts_of parts) + a.counts.seat.me.0.parts ≡ 64

  abbrev pub AsksIn : List (Part G M P) → Option (Asking P) → Type 0
  AsksIn parts None = ⊥
  AsksIn parts (Some a) = Asks parts a

  -- the harts have answered their calls, and what asks is there
  pub record HaveGone (parts : List (Part G M P)) (idle : Option (Asking P)) : Type 0 where
    pub harts : Each (IsDone program of tally calls of.harts) (harts_of parts)
    pub count : length (harts_of parts) ≡ of.harts
    pub asks : AsksIn parts (or_else (asking_in parts) idle)

  pub asks_some : (parts : List (Part G M P)) (idle : Option (Asking P)) (a : Asking P) → HaveGone parts idle → Some a ≡ or_else (asking_in parts) idle → Asks parts a
  asks_some parts idle a all same = subst (AsksIn parts) (sym same) all.asks

  none_asks : (parts : List (Part G M P)) (o : Option (Asking P)) → AsksIn parts o → ((a : Asking P) → o ≡ Some a → ⊥) → ⊥
  none_asks parts None asks none = asks
  none_asks parts (Some a) asks none = none a refl

  pub asks_always : (parts : List (Part G M P)) (idle : Option (Asking P)) → HaveGone parts idle → (o : Option (Asking P)) → o ≡ or_else (asking_in parts) idle → ((a : Asking P) → o ≡ Some a → ⊥) → ⊥
  asks_always parts idle all o same = none_asks parts o (subst (AsksIn parts) (sym same) all.asks)

  pub left : (parts : List (Part G M P)) (idle : Option (Asking P)) (a : Asking P) (runners : List (Runner G)) → HaveGone parts idle → runners ≡ harts_of parts → Some a ≡ or_else (asking_in parts) idle → IsLeft marks program of tally calls policy runners a
  left parts idle a runners all same is =
      let asks = asks_some parts idle a all is in
      let sums = ap (sum_by (parts_of {G = G})) same in
      let shares = asks.shares in record {
        done = subst (λ (t : Counts). Each (IsDone program of t calls of.harts) runners) (sym asks.counts) (subst (λ (l : List (Runner G)). Each (IsDone program of tally calls of.harts) l) (sym same) all.harts);
        count = ap length same ∙ all.count;
        symbols = ap (λ (t : Counts). t.symbols) asks.counts;
        own = asks.own;
        shares = omega (arith, sums, shares);
        marks_are = asks.marks_are;
      }

  pub ready : (xs before : List (Part G M P)) (idle : Option (Asking P)) (harts : ℕ) → before ≡ xs → harts ≡ of.harts → of.table.shared.key.module.value ≡ program
      → AreOpened program of tally (length calls) policy xs idle → All (CanGo program calls harts) before
  ready xs before idle harts same number value opened =
      subst (λ (n : ℕ). All (CanGo program calls n) before) (sym number)
      (subst (λ (l : List (Part G M P)). All (CanGo program calls of.harts) l) (sym same)
      (all_can_go program calls of.harts xs (can_run program of tally calls of.harts (harts_of xs) value opened.harts)))

  gone : (xs ys : List (Part G M P)) (idle : Option (Asking P)) → length ys ≡ length xs
      → ((i : ℕ) (d : Part G M P) → i < length xs → Went marks program calls of.harts (slice_index_or xs i d) (slice_index_or ys i d))
      → AreOpened program of tally (length calls) policy xs idle → HaveGone ys idle
  gone xs ys idle long each opened =
      let went = all_went marks program calls of.harts xs ys long each in
      let count = harts_long marks program calls of.harts xs ys went in
      let ran = harts_ran marks program calls of.harts xs ys went in
      let left = asker_left marks program calls of.harts xs ys idle opened.asking went opened.asks in
      let parts = parts_same program calls of.harts (harts_of xs) (harts_of ys) count ran in
      let shares = opened.shares in
      let kept = left.2.counts.parts in record {
        harts = all_done program of tally calls of.harts (harts_of xs) (harts_of ys) opened.harts count ran;
        count = count ∙ opened.count;
        asks = subst (AsksIn ys) (sym left.1) record {
          marks_are = left.2.marks_are ∙ ap marks opened.policy_is;
          counts = ap (λ t. t.now) left.2.counts.table ∙ opened.counts.0;
          own = (left.2.own ∙ opened.counts.1, left.2.counts.joined ∙ opened.counts.2);
          shares = omega (arith, parts, shares, kept);
        };
      }

  -- the same of a list that was written to as a whole
  pub have_gone : (xs before ys : List (Part G M P)) (idle : Option (Asking P)) (len harts : ℕ) → before ≡ xs → len ≡ length xs → harts ≡ of.harts → length ys ≡ length before
      → ((i : ℕ) (d : Part G M P) → i < length before → Went marks program calls harts (slice_index_or before i d) (slice_index_or ys i d))
      → AreOpened program of tally (length calls) policy xs idle → HaveGone (take len (ys ++ drop (length ys) xs)) idle
  have_gone xs before ys idle len harts same is number long each opened =
      let count = long ∙ ap length same in
      let all = subst (λ (n : ℕ). (i : ℕ) (d : Part G M P) → i < length xs → Went marks program calls n (slice_index_or xs i d) (slice_index_or ys i d)) number
      (subst (λ (l : List (Part G M P)). (i : ℕ) (d : Part G M P) → i < length l → Went marks program calls harts (slice_index_or l i d) (slice_index_or ys i d)) same each) in
      subst (λ (l : List (Part G M P)). HaveGone l idle) (sym (written xs ys len is count)) (gone xs ys idle count all opened)
