-- The rows of a session that has settled.
use Rattle.std.proofs.Common.{◌≡◌, ◌⊎◌, ℕ, ◌<◌, List, length, Bool, sym, ap, subst, ◌∙◌, inl, inr, ⊎_elim, arith}
use Rattle.ir_core.specs.Program.{Program}
use Rattle.code_epochs.specs.Sound.{At}
use Rattle.code_epochs.specs.declared.parts.Book.{Book}
use Rattle.code_epochs.proofs.Lists.{at_some}
use Rattle.redirect_cells.specs.Keeping.{AllGone, AreStill}
use Rattle.jit_session.proofs.Each.{each_at}
use Rattle.jit_session.proofs.Gathering.{at_get}
use Rattle.jit_session.proofs.Levels.{over_more}
use Rattle.code_epochs.specs.declared.state.VersionState.{VersionState}
use Rattle.entry_counts.specs.Tally.{times}
use Rattle.code_epochs.specs.declared.shelf.Shelf.{Shelf}
use Rattle.session_types.specs.declared.settled.RefusedJob.{RefusedJob}
use Rattle.session_types.specs.declared.settled.SymbolRow.{SymbolRow}
use Rattle.jit_session.specs.Runs.{Each}
use Rattle.jit_session.specs.Settling.{column}
use Rattle.jit_session.specs.Shelves.{KeepsAll}
use Rattle.jit_session.proofs.WorkerPublishing.{current_one}
use Rattle.reopt_policy.specs.Marks.{level_for}
use Rattle.jit_session.specs.Levels.{HasLevel, IsAmong, IsLevelled, IsShown}
use Rattle.jit_session.specs.Rows.{IsRowOf}
use Rattle.jit_session.specs.Sessions.{IsRefusedRow}
use Rattle.jit_session.proofs.Words.{IsLinkedOn}

-- the level of a row is the one that the marks give for its entries, or the job of giving it this level was refused
abbrev pub IsAtLevel : List ℕ → List RefusedJob → ℕ → SymbolRow → Type 0
IsAtLevel marks jobs k row = (row.level ≡ level_for marks row.entries) ⊎ IsAmong jobs k (level_for marks row.entries)

module _ (shelf : Shelf) (entries : List ℕ) (n : ℕ) (rows rows' : List SymbolRow) (same : rows' ≡ rows) (long : length rows ≡ n) (are : Each (IsRowOf shelf entries) rows) where
  row_level : (marks : List ℕ) (jobs : List RefusedJob) (i : ℕ) (row : SymbolRow) → IsRowOf shelf entries i row → IsLevelled shelf jobs i (level_for marks (times i entries)) → IsAtLevel marks jobs i row
  row_level marks jobs i row is levelled = subst (λ (m : ℕ). (row.level ≡ level_for marks m) ⊎ IsAmong jobs i (level_for marks m)) (sym is.counted)
      (⊎_elim
      (λ (has : HasLevel shelf i (level_for marks (times i entries))). inl (is.level ∙ ap (λ (v : VersionState). v.level) (current_one shelf i is.version has.0 is.current has.1) ∙ has.2))
      (λ (among : IsAmong jobs i (level_for marks (times i entries))). inr among)
      levelled)

  pub levels : (marks : List ℕ) (jobs jobs' : List RefusedJob) → jobs' ≡ jobs → ((k : ℕ) → k < n → IsLevelled shelf jobs k (level_for marks (times k entries))) → Each (IsAtLevel marks jobs') rows'
  levels marks jobs jobs' one all =
      subst (λ (l : List RefusedJob). Each (IsAtLevel marks l) rows') (sym one)
      (subst (λ (l : List SymbolRow). Each (IsAtLevel marks jobs) l) (sym same)
      (λ i d low. row_level marks jobs i _ (are i d low) (all i (omega arith))))

  pub sums : (counts counts' : List (List ℕ)) → counts' ≡ counts → ((k : ℕ) → k < n → times k entries ≡ column k counts) → Each (λ k (row : SymbolRow). row.entries ≡ column k counts') rows'
  sums counts counts' one all =
      subst (λ (l : List (List ℕ)). Each (λ k (row : SymbolRow). row.entries ≡ column k l) rows') (sym one)
      (subst (λ (l : List SymbolRow). Each (λ k (row : SymbolRow). row.entries ≡ column k counts) l) (sym same)
      (λ i d low. (are i d low).counted ∙ all i (omega arith)))

  pub linked : (after : Shelf) → KeepsAll shelf after → Each (IsLinkedOn after) rows'
  linked after keeps =
      subst (λ (l : List SymbolRow). Each (IsLinkedOn after) l) (sym same)
      (λ i d low. let is = are i d low in record { version = is.version; current = keeps i is.version is.current; level = is.level; words = is.words })

  -- a refused job by the row of its symbol
  pub refused_row : (test : ℕ → ℕ → Bool) (program : Program) (code_words : ℕ) (marks : List ℕ) (book before : Book) (harts : ℕ) (job : RefusedJob) → job.symbol < n → AllGone harts before
      → AreStill shelf.versions.items book.versions → IsShown before harts test program code_words (λ k. level_for marks (times k entries)) shelf job → IsRefusedRow test program code_words marks book rows' job
  refused_row test program code_words marks book before harts job low gone still is =
      let below : job.symbol < length rows = omega (arith, low, long) in
      let at = at_some rows job.symbol below in
      let row = at.0 in
      let of : IsRowOf shelf entries job.symbol row = each_at (IsRowOf shelf entries) rows job.symbol row are below (at_get rows job.symbol row at.1) in
      record {
        row = row;
        stands = subst (λ (l : List SymbolRow). At l job.symbol row) (sym same) at.1;
        level = is.level ∙ ap (level_for marks) (sym of.counted);
        other = λ e. is.other.2 (sym (ap (λ (v : VersionState). v.level) (current_one shelf job.symbol of.version is.other.0 of.current is.other.1)) ∙ sym of.level ∙ e);
        refused = over_more (test job.symbol job.level) program code_words shelf.versions.items book.versions job.symbol job.level job.cause still (is.refused gone);
      }
