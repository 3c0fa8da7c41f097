-- What publishing a version of a symbol comes to when a session settles.
use Rattle.std.proofs.Common.{◌≡◌, ℕ, ◌+◌, ◌<◌, ◌≤◌, List, length, sym, subst, ◌∙◌, arith, Bool, leb}
use Rattle.std.proofs.lemmas.List.Sums.{count_by-le-length}
use Rattle.ir_core.specs.Program.{Program}
use Rattle.ir_meaning.specs.Meaning.{meaning}
use Rattle.code_epochs.specs.declared.refusals.PublishRefusal.{PublishRefusal}
use Rattle.code_epochs.specs.declared.refusals.PublishRefusal.TheVariants as publish
use Rattle.code_epochs.specs.declared.state.VersionState.{VersionState}
use Rattle.rv_play.specs.Good.{Good}
use Rattle.rv_play.specs.Versions.{IsVersion, Allows}
use Rattle.rv_play.specs.declared.version.MakeRefusal.{MakeRefusal}
use Rattle.rv_play.specs.declared.version.MakeRefusal.TheVariants as make
use Rattle.rv_play.specs.declared.version.Version.{Version}
use Rattle.reopt_policy.specs.Marks.{AreMarks, level_for}
use Rattle.code_epochs.specs.declared.shelf.Shelf.{Shelf}
use Rattle.redirect_cells.specs.declared.table.CodeTable.{CodeTable}
use Rattle.redirect_cells.specs.Kept.{meaning_of}
use Rattle.redirect_cells.specs.Keeping.{IsCause, IsCurrent, Published}
use Rattle.session_types.specs.declared.settled.JobRefusal.{JobRefusal}
use Rattle.session_types.specs.declared.settled.RefusedJob.{RefusedJob}
use Rattle.jit_session.specs.Shelves.{KeepsOthers}
use Rattle.jit_session.proofs.Shelves.{published_has, published_keeps, published_still, still_again}
use Rattle.jit_session.specs.Levels.{IsForRoom, IsJobCause, IsRaised, IsRefusedJob, IsSameCause, IsSameMake}

-- a level is at most 3
pub few_levels : (ms : List ℕ) (entries : ℕ) → AreMarks ms → level_for ms entries ≤ 3
few_levels ms entries are = let most = count_by-le-length (λ mark. leb mark entries) ms in let few = are.0 in omega (arith, most, few)

-- a version that is good for the program is so for its table
pub good_of : (of : CodeTable) (program : Program) (symbol level : ℕ) (version : Version) → of.table.shared.key.module.value ≡ program → IsVersion program symbol level version → Good (meaning_of of.table.shared.key) version.symbol version.words
unfolding meaning_of
good_of of program symbol level version same is =
    subst (λ (p : Program). Good (meaning p) version.symbol version.words) (sym same) (subst (λ (k : ℕ). Good (meaning program) k version.words) (sym is.of_symbol) is.good)

-- where there are fewer versions than there may be, room or memory is the cause
pub for_room : (shelf : Shelf) (version : Version) (refusal : PublishRefusal) → length shelf.versions.items < 1048576 → IsCause shelf version refusal → IsForRoom refusal
for_room shelf version (publish.NoRoom needed largest) few cause = tt
for_room shelf version (publish.ManyVersions count) few cause = let many = cause.1 in omega arith
for_room shelf version publish.NoMemory few cause = tt

-- the job of a version that wasn't published
pub refused_publish : (test : Bool) (shelf : Shelf) (program : Program) (symbol level : ℕ) (version : Version) (refusal : PublishRefusal) (job : RefusedJob) → IsVersion program symbol level version → IsCause shelf version refusal
    → job.symbol ≡ symbol → job.level ≡ level → IsSameCause refusal job.cause → IsRefusedJob test shelf program symbol level job
refused_publish test shelf program symbol level version (publish.NoRoom needed largest) job is cause at_symbol at_level same =
    record { symbol_is = at_symbol; level_is = at_level; cause = subst (IsJobCause test shelf program symbol level) (sym same) (version, is, cause) }
refused_publish test shelf program symbol level version (publish.ManyVersions count) job is cause at_symbol at_level same = absurd same
refused_publish test shelf program symbol level version publish.NoMemory job is cause at_symbol at_level same =
    record { symbol_is = at_symbol; level_is = at_level; cause = subst (IsJobCause test shelf program symbol level) (sym same) tt }

-- the job of a version that wasn't made
pub refused_make : (test : Bool) (shelf : Shelf) (program : Program) (symbol level : ℕ) (refusal : MakeRefusal) (job : RefusedJob) → Allows test refusal
    → job.symbol ≡ symbol → job.level ≡ level → IsSameMake refusal job.cause → IsRefusedJob test shelf program symbol level job
refused_make test shelf program symbol level (make.Crowded point overlap) job allows at_symbol at_level same =
    record { symbol_is = at_symbol; level_is = at_level; cause = subst (IsJobCause test shelf program symbol level) (sym same) allows }
refused_make test shelf program symbol level make.NoMemory job allows at_symbol at_level same =
    record { symbol_is = at_symbol; level_is = at_level; cause = subst (IsJobCause test shelf program symbol level) (sym same) tt }

-- a version that was published gives its symbol its level
pub raised : (old new : Shelf) (version : Version) (program : Program) (n symbol level : ℕ) → Published old new version n → symbol < length old.current.items → IsVersion program symbol level version → IsRaised old new symbol level
raised old new version program n symbol level p low is =
    let has = published_has old new version n p (subst (λ (k : ℕ). k < length old.current.items) (sym is.of_symbol) low) in record {
      has = (has.state, subst (λ (k : ℕ). IsCurrent new k has.state) is.of_symbol has.current, has.level ∙ is.of_level);
      others = subst (KeepsOthers old new) is.of_symbol (published_keeps old new version n p);
      count = (let more = p.count in omega arith);
      still = published_still old new version n p;
    }

-- a symbol that has the level already keeps all as it is
pub raised_already : (shelf : Shelf) (symbol level : ℕ) (v : VersionState) → IsCurrent shelf symbol v → v.level ≡ level → IsRaised shelf shelf symbol level
raised_already shelf symbol level v is at_level = record { has = (v, is, at_level); others = λ k w other at. at; count = omega arith; still = still_again shelf.versions.items }
