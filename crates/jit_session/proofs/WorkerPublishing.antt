-- What a publication under the lock rests on and leaves.
use Rattle.std.proofs.Common.{◌≡◌, ℕ, ◌+◌, ◌<◌, ◌≤◌, List, [], ◌∷◌, length, get_or, sym, ap, subst, ◌∙◌, arith, Result, Ok, Err, IfOk, IfErr}
use Rattle.ir_core.specs.Program.{Program}
use Rattle.ir_meaning.specs.Meaning.{meaning}
use Rattle.code_epochs.specs.declared.refusals.PublishRefusal.{PublishRefusal}
use Rattle.code_epochs.specs.declared.state.VersionState.{VersionState}
use Rattle.code_epochs.specs.Sound.{At}
use Rattle.code_epochs.proofs.Lists.{at_same}
use Rattle.rv_play.specs.Good.{Good}
use Rattle.rv_play.specs.declared.version.Version.{Version}
use Rattle.code_epochs.specs.declared.shelf.Shelf.{Shelf}
use Rattle.code_epochs.specs.Shelf.{AreNumbers}
use Rattle.redirect_cells.specs.declared.table.CodeTable.{CodeTable}
use Rattle.redirect_cells.specs.Kept.{meaning_of}
use Rattle.redirect_cells.specs.Keeping.{AllCurrent, IsCurrent, IsSameShelf, Published}
use Rattle.jit_session.specs.Few.{HasFew, rises_left}
use Rattle.jit_session.specs.Names.{IsNamed}
use Rattle.jit_session.specs.Shelves.{KeepsAll, IsRenewed}
use Rattle.jit_session.proofs.Few.{few_published}
use Rattle.jit_session.proofs.Shelves.{published_has, published_keeps}

pub one_table : (a b : CodeTable) → a ∷ [] ≡ b ∷ [] → a ≡ b
one_table a b same = ap (λ (l : List CodeTable). get_or l 0 a) same

module _ (tables : List CodeTable) (of : CodeTable) (program : Program) (named : IsNamed tables program) (same : tables ≡ of ∷ []) where
  pub program_is : of.table.shared.key.module.value ≡ program
  program_is = ap (λ (t : CodeTable). t.table.shared.key.module.value) (one_table of named.0 (sym same ∙ named.1)) ∙ named.2

  pub functions_are : of.functions ≡ length program.module_.functions
  unfolding meaning_of
  functions_are = of.functions_are ∙ ap (λ (p : Program). length p.module_.functions) program_is

  pub good_here : (symbol : ℕ) (words : List ℕ) → Good (meaning program) symbol words → Good (meaning_of of.table.shared.key) symbol words
  unfolding meaning_of
  good_here symbol words good = subst (λ (p : Program). Good (meaning p) symbol words) (sym program_is) good

-- a symbol has one linked version
pub current_one : (s : Shelf) (k : ℕ) (v w : VersionState) → IsCurrent s k v → IsCurrent s k w → v ≡ w
current_one s k v w a b =
    let next : a.0 + 1 ≡ b.0 + 1 = at_same s.current.items k (a.0 + 1) (b.0 + 1) a.1 b.1 in
    let same : a.0 ≡ b.0 = omega arith in
    at_same s.versions.items b.0 v w (subst (λ (n : ℕ). At s.versions.items n v) same a.2) b.2

few_same : (old new : Shelf) → IsSameShelf old new → HasFew old → HasFew new
few_same old new same few =
    let count = ap length same.0 in
    let a = ap (λ (l : List VersionState). rises_left l new.current.items) same.0 in
    let b = ap (rises_left old.versions.items) same.1 in
    omega (arith, count, a, b, few)

-- few versions are left, whether or not the version was published
pub tried_few : (old new : Shelf) (version : Version) (P : Type 0) (result : Result ℕ (Version × PublishRefusal)) → AreNumbers old.versions.items old.current.items → AllCurrent old.current.items
    → (v : VersionState) → IsCurrent old version.symbol v → v.level < version.level → version.level ≤ 3 → HasFew old
    → IfOk result (λ n. Published old new version n) → IfErr result (λ e. (e.0 ≡ version) × IsSameShelf old new × P) → HasFew new
tried_few old new version P (Ok n) numbers all v is higher low few p same = few_published old new version n p numbers all v is higher low few
tried_few old new version P (Err e) numbers all v is higher low few p same = few_same old new same.1 few

pub renewed : (old middle new : Shelf) (version : Version) (n level base : ℕ) → KeepsAll old middle → Published middle new version n → version.symbol < length middle.current.items
    → ((v : VersionState) × IsCurrent middle version.symbol v × (level ≡ v.level)) → level < version.level → ((v : VersionState) × IsCurrent new version.symbol v × (base ≡ v.base)) → IsRenewed old new version base
renewed old middle new version n level base keeps p low was higher now =
    let has = published_has middle new version n p low in
    let same = current_one new version.symbol now.0 has.state now.1 has.current in record {
      linked = record { state = now.0; current = now.1; level = ap (λ (v : VersionState). v.level) same ∙ has.level; words = ap (λ (v : VersionState). v.words) same ∙ has.words };
      at_base = sym now.2;
      higher = λ v at. let e = ap (λ (w : VersionState). w.level) (current_one middle version.symbol v was.0 (keeps version.symbol v at) was.1) in let l = was.2 in omega (arith, e, l, higher);
      others = λ k v other at. published_keeps middle new version n p k v other (keeps k v at);
    }
