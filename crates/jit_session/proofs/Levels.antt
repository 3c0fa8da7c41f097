-- What settling one symbol after another comes to.
use Rattle.std.proofs.Common.{◌≡◌, ◌≢◌, ◌⊎◌, ℕ, suc, ◌+◌, ◌<◌, ◌≤◌, List, [], ◌∷◌, ◌++◌, length, length-append, Bool, true, false, refl, sym, ap, subst, ◌∙◌, inl, inr, ⊎_elim, arith}
use Rattle.std.proofs.lemmas.Bool.{cases_lt}
use mathlib.Core.Option.{some-ne-none}
use Rattle.code_epochs.specs.Sound.{At}
use Rattle.code_epochs.specs.declared.parts.Book.{Book}
use Rattle.code_epochs.specs.declared.state.VersionState.{VersionState}
use Rattle.code_epochs.proofs.Lists.{at_snoc, at_below, at_last, at_longer}
use Rattle.ir_core.specs.Program.{Program}
use Rattle.code_epochs.specs.declared.shelf.Shelf.{Shelf}
use Rattle.redirect_cells.specs.Keeping.{Collected, IsSameShelf, AllGone, AreStill}
use Rattle.session_types.specs.declared.settled.JobRefusal.{JobRefusal}
use Rattle.session_types.specs.declared.settled.JobRefusal.TheVariants.{Crowded}
use Rattle.session_types.specs.declared.settled.RefusedJob.{RefusedJob}
use Rattle.jit_session.specs.Shelves.{KeepsAll, KeepsOthers}
use Rattle.jit_session.proofs.Shelves.{collected_keeps, same_keeps, same_still, still_still}
use Rattle.jit_session.specs.Levels.{HasLevel, HasOtherLevel, IsJobCause, IsRefusedJob, IsRaised, IsAmong, IsLevelled, AreRefused, MayAdd, MayShow, IsShown, AreShown, IsRefusedOver, IsSettledSymbol}

-- a job that was refused as crowded may be
may_crowd : (test : Bool) (shelf : Shelf) (program : Program) (symbol level : ℕ) (cause : JobRefusal) (point overlap : ℕ) → IsJobCause test shelf program symbol level cause → cause ≡ Crowded point overlap → test ≡ true
may_crowd test shelf program symbol level cause point overlap is same = subst (IsJobCause test shelf program symbol level) same is

module _ (test : ℕ → ℕ → Bool) (first middle last : Shelf) (before after : List RefusedJob) (symbol level : ℕ) (keeps : KeepsAll first middle) (count : length middle.versions.items ≡ length first.versions.items) (still : AreStill first.versions.items middle.versions.items) where
  pub raised_settles : IsRaised middle last symbol level → after ≡ before → IsSettledSymbol test first last before after symbol level
  raised_settles is same = record {
    levelled = inl is.has;
    others = λ k v other at. is.others k v other (keeps k v at);
    count = (let more = is.count in omega arith);
    still = still_still first.versions.items middle.versions.items last.versions.items still is.still;
    refused = inl same;
  }

  pub refused_settles : (program : Program) (job : RefusedJob) → IsRefusedJob (test symbol level) middle program symbol level job → IsSameShelf middle last → after ≡ before ++ job ∷ [] → IsSettledSymbol test first last before after symbol level
  refused_settles program job is same more = record {
    levelled = inr (length before, job, subst (λ (l : List RefusedJob). At l (length before) job) (sym more) (at_last before job), is.symbol_is, is.level_is);
    others = λ k v other at. same_keeps middle last same k v (keeps k v at);
    count = (let long = ap length same.0 in omega arith);
    still = still_still first.versions.items middle.versions.items last.versions.items still (same_still middle last same);
    refused = inr (job, more, is.symbol_is, is.level_is, λ point overlap e. may_crowd (test symbol level) middle program symbol level job.cause point overlap is.cause e);
  }

module _ (test : ℕ → ℕ → Bool) (old new : Shelf) (before after : List RefusedJob) (symbol level : ℕ) (s : IsSettledSymbol test old new before after symbol level) where
  still_among : (k wanted : ℕ) → IsAmong before k wanted → IsAmong after k wanted
  still_among k wanted is = ⊎_elim
      (λ same. subst (λ (l : List RefusedJob). IsAmong l k wanted) (sym same) is)
      (λ t. (is.0, is.1, subst (λ (l : List RefusedJob). At l is.0 is.1) (sym t.1) (at_longer before (t.0 ∷ []) is.0 is.1 is.2), is.3, is.4))
      s.refused

  pub still_levelled : (k wanted : ℕ) → k < symbol → IsLevelled old before k wanted → IsLevelled new after k wanted
  still_levelled k wanted low is = ⊎_elim
      (λ (has : HasLevel old k wanted). inl (has.0, s.others k has.0 (λ e. omega arith) has.1, has.2))
      (λ (among : IsAmong before k wanted). inr (still_among k wanted among))
      is

  pub length_most : length after ≤ length before + 1
  length_most = ⊎_elim
      (λ same. let e = ap length same in omega arith)
      (λ t. let e = ap length t.1 ∙ length-append before (t.0 ∷ []) in omega arith)
      s.refused

  more_refused : AreRefused test symbol before → (job : RefusedJob) → job.symbol ≡ symbol → job.level ≡ level → ((point overlap : ℕ) → job.cause ≡ Crowded point overlap → test symbol level ≡ true) → AreRefused test (symbol + 1) (before ++ job ∷ [])
  more_refused are job is at_level cause = record {
    exist = λ i x at. ⊎_elim (λ here. let low = are.exist i x here in omega arith) (λ t. let e = ap (λ (y : RefusedJob). y.symbol) t.1 in omega arith) (at_snoc before job x i at);
    order = λ i j a b at_a at_b below. ⊎_elim
        (λ here_b. ⊎_elim (λ here_a. are.order i j a b here_a here_b below) (λ t. absurd (let low = at_below before j b here_b in omega arith)) (at_snoc before job a i at_a))
        (λ t. ⊎_elim
        (λ here_a. let low = are.exist i a here_a in let e = ap (λ (y : RefusedJob). y.symbol) t.1 in omega arith)
        (λ u. absurd (omega arith))
        (at_snoc before job a i at_a))
        (at_snoc before job b j at_b);
    cause = λ i x point overlap at e. ⊎_elim
        (λ here. are.cause i x point overlap here e)
        (λ t. subst (λ (y : RefusedJob). test y.symbol y.level ≡ true) t.1 (subst (λ (n : ℕ). test n job.level ≡ true) (sym is) (subst (λ (n : ℕ). test symbol n ≡ true) (sym at_level) (cause point overlap (ap (λ (y : RefusedJob). y.cause) t.1 ∙ e)))))
        (at_snoc before job x i at);
  }

  pub still_refused : AreRefused test symbol before → AreRefused test (symbol + 1) after
  still_refused are = ⊎_elim
      (λ same. subst (AreRefused test (symbol + 1)) (sym same) record {
        exist = λ i x at. let low = are.exist i x at in omega arith;
        order = are.order;
        cause = are.cause;
      })
      (λ t. subst (AreRefused test (symbol + 1)) (sym t.1) (more_refused are t.0 t.2 t.3 t.4))
      s.refused

pub none_refused : (test : ℕ → ℕ → Bool) (jobs : List RefusedJob) → jobs ≡ [] → AreRefused test 0 jobs
none_refused test jobs none = subst (AreRefused test 0) (sym none) record {
  exist = λ i x at. absurd (some-ne-none x (sym at));
  order = λ i j a b at_a at_b below. absurd (some-ne-none a (sym at_a));
  cause = λ i x point overlap at e. absurd (some-ne-none x (sym at));
}

-- one symbol more has its level
pub levels_more : (test : ℕ → ℕ → Bool) (old new : Shelf) (before after : List RefusedJob) (symbol : ℕ) (level : ℕ → ℕ) → IsSettledSymbol test old new before after symbol (level symbol)
    → ((k : ℕ) → k < symbol → IsLevelled old before k (level k)) → (k : ℕ) → k < symbol + 1 → IsLevelled new after k (level k)
levels_more test old new before after symbol level s all k low = ⊎_elim
    (λ below. still_levelled test old new before after symbol (level symbol) s k (level k) below (all k below))
    (λ past. let e : symbol ≡ k = omega arith in subst (λ (n : ℕ). IsLevelled new after n (level n)) e s.levelled)
    (cases_lt k symbol)

-- ---- the jobs that are shown

-- the same cause, when there are later versions too
pub over_more : (test : Bool) (program : Program) (code_words : ℕ) (old new : List VersionState) (symbol level : ℕ) (cause : JobRefusal) → AreStill old new → IsRefusedOver test program code_words old symbol level cause → IsRefusedOver test program code_words new symbol level cause
over_more test program code_words old new symbol level cause still is = record {
  shelf = is.shelf;
  still = still_still is.shelf.versions.items old new is.still still;
  other = is.other;
  none_pending = is.none_pending;
  none_unlinked = is.none_unlinked;
  space = is.space;
  caused = is.caused;
}

module _ (book : Book) (harts : ℕ) (test : ℕ → ℕ → Bool) (program : Program) (code_words : ℕ) (wanted : ℕ → ℕ) where
  pub none_shown : (shelf : Shelf) (jobs : List RefusedJob) → jobs ≡ [] → AreShown book harts test program code_words wanted shelf jobs
  none_shown shelf jobs none i job at = absurd (some-ne-none job (sym (subst (λ (l : List RefusedJob). At l i job) none at)))

  module _ (old new : Shelf) (before after : List RefusedJob) (symbol : ℕ) (s : IsSettledSymbol test old new before after symbol (wanted symbol)) where
    still_shown : (job : RefusedJob) → job.symbol < symbol → IsShown book harts test program code_words wanted old job → IsShown book harts test program code_words wanted new job
    still_shown job low is = record {
      level = is.level;
      other = (is.other.0, s.others job.symbol is.other.0 (λ e. omega arith) is.other.1, is.other.2);
      refused = λ gone. over_more (test job.symbol job.level) program code_words old.versions.items new.versions.items job.symbol job.level job.cause s.still (is.refused gone);
    }

    pub shown_more : AreRefused test symbol before → AreShown book harts test program code_words wanted old before
        → MayShow book harts (test symbol (wanted symbol)) program code_words new before after symbol (wanted symbol) → AreShown book harts test program code_words wanted new after
    shown_more are all may i job at = ⊎_elim
        (λ (same : after ≡ before). let here : At before i job = subst (λ (l : List RefusedJob). At l i job) same at in still_shown job (are.exist i job here) (all i job here))
        (λ t. ⊎_elim
        (λ (here : At before i job). still_shown job (are.exist i job here) (all i job here))
        (λ (u : (i ≡ length before) × (t.0 ≡ job)). subst (IsShown book harts test program code_words wanted new) u.1 record {
          level = t.3 ∙ ap wanted (sym t.2);
          other = subst (λ (z : ℕ × ℕ). HasOtherLevel new z.0 z.1) (λ j. (sym t.2 j, sym t.3 j)) t.4;
          refused = λ gone. subst (λ (z : ℕ × ℕ). IsRefusedOver (test z.0 z.1) program code_words new.versions.items z.0 z.1 t.0.cause) (λ j. (sym t.2 j, sym t.3 j)) (t.5 gone);
        })
        (at_snoc before t.0 job i (subst (λ (l : List RefusedJob). At l i job) t.1 at)))
        may

-- where the same harts are gone before and now
pub since_gone : (before now : Book) (harts : ℕ) (test : Bool) (program : Program) (code_words : ℕ) (shelf : Shelf) (jobs more : List RefusedJob) (symbol level : ℕ) → now.gone ≡ before.gone
    → MayShow now harts test program code_words shelf jobs more symbol level → MayShow before harts test program code_words shelf jobs more symbol level
since_gone before now harts test program code_words shelf jobs more symbol level same = ⊎_elim
    (λ t. inl t)
    (λ t. inr (t.0, t.1, t.2, t.3, t.4, λ gone. t.5 (λ h low. let is = gone h low in (is.0, subst (λ (l : List ℕ). At l is.0 h) (sym same) is.1))))
