-- A version that is stored word by word.
use Rattle.std.proofs.Common.{◌≡◌, ℕ, ◌+◌, List, length, Some, sym, subst}
use Rattle.rv_play.specs.declared.version.Version.{Version}
use Rattle.code_epochs.specs.declared.state.CodeState.{CodeState}
use Rattle.code_epochs.specs.declared.state.VersionState.{VersionState}
use Rattle.code_epochs.specs.declared.parts.Look.{Look}
use Rattle.code_epochs.specs.Sound.{At, Whole, start_of}
use Rattle.jit_core.specs.declared.laying.Laying.{Laying}
use Rattle.jit_core.specs.declared.publishing.Publishing.TheVariants.{Storing, Raising}
use Rattle.jit_core.specs.declared.state_machine.Core.{Core}
use Rattle.jit_core.specs.Events.{lay_draft}
use Rattle.jit_core.specs.Laying.{Stores, IsFrame}
use Rattle.jit_core.specs.Spaces.{SpaceIs, InRange}
use Rattle.jit_core.specs.Cores.{IsLastLook, Does, publishing_as, meaning_of}
use Rattle.jit_core.proofs.Stands.{IsBeside}
use Rattle.jit_core.proofs.Standing.{core_with, keeper_does}
use Rattle.jit_core.proofs.Spaces.{space_same}

pub beside : (x y : Whole) → IsFrame x y → IsBeside x y
beside x y f = record { harts = f.harts; announced = f.announced; code = f.code; gone = f.gone }

-- the version is the same, and has the same range
abbrev pub IsFurther : Laying → Laying → Type 0
IsFurther d e = (e.version ≡ d.version) × (e.base ≡ d.base) × (e.stored ≡ d.stored + 1)

still-storing : (d e : Laying) (i : ℕ) → Some (Storing d) ≡ Some (Raising i) → Some (Storing e) ≡ Some (Raising i)
still-storing d e i is = absurd (cc)

space-further : (versions : List VersionState) (n : ℕ) (d e : Laying) (s : _) → IsFurther d e → SpaceIs versions n (Some (Storing d)) s → SpaceIs versions n (Some (Storing e)) s
space-further versions n d e s same is = record {
  size = is.size;
  free = λ w f. let t = is.free w f in (t.0, t.1, subst (λ (v : Version). ¬ InRange (start_of e.base) (length v.words) w) (sym same.0) (subst (λ (b : ℕ). ¬ InRange (start_of b) (length d.version.words) w) (sym same.1) t.2));
  all = λ w low out mine. is.all w low out (subst (λ (v : Version). ¬ InRange (start_of d.base) (length v.words) w) same.0 (subst (λ (b : ℕ). ¬ InRange (start_of b) (length e.version.words) w) same.1 mine));
}

-- one more word is stored
pub store_does : (c : Core) (st : CodeState) (d e : Laying) → IsFurther d e → Stores c.state st d e → Does (publishing_as c (Some (Storing d))) lay_draft (core_with c st c.space (Some (Storing e)) c.looked)
store_does c st d e same stores told s =
    let m = meaning_of c in
    let x = s.whole in
    let t = stores m x s.sound s.state s.publishing in
    let y = t.0 in
    keeper_does (publishing_as c (Some (Storing d))) st c.space (Some (Storing e)) c.looked lay_draft told s y t.1 t.2 t.3 (beside x y t.5) t.4
    (λ i v at is. still-storing d e i (s.unlinked i v (subst (λ (l : List VersionState). At l i v) t.6 at) is))
    (space_same x.book.versions y.book.versions (length x.code) (length y.code) (Some (Storing e)) c.space t.6 t.5.code (space-further x.book.versions (length x.code) d e c.space same s.space))
    (subst (λ (l : List Look). IsLastLook l c.looked) (sym t.5.looks) s.looked)
