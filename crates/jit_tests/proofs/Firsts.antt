-- First versions, images, and calls.
use Rattle.std.proofs.Common.{◌≡◌, ℕ, zero, suc, ◌+◌, ◌-◌, ◌≤◌, List, [], ◌∷◌, ◌++◌, length, map, replicate, slice_index, Some, sym, ap, subst, ◌∙◌, arith}
use Rattle.std.specs.List.{slice_get}
use Rattle.std.proofs.lemmas.List.{length-map, length-append}
use mathlib.Core.Option.{some-injective, some-ne-none}
use Rattle.ir_core.specs.Program.{Program}
use Rattle.ir_core.specs.declared.program.Function.{Function}
use Rattle.ir_data.specs.declared.image.Image.{Image as First}
use Rattle.ir_data.specs.Image.{IsFirstImage, known, taken}
use Rattle.ir_meaning.specs.Image.{first_memory}
use Rattle.ir_meaning.specs.Meaning.{meaning}
use Rattle.ir_meaning.specs.Memory.{Memory, data_start}
use Rattle.ir_meaning.specs.declared.calls.ListedCall.{ListedCall}
use Rattle.rv_play.specs.declared.version.Version.{Version}
use Rattle.rv_play.specs.Good.{Good}
use Rattle.fast_isel.specs.Modules.{quick_from, AreQuick}
use Rattle.code_epochs.specs.Sound.{At}
use Rattle.jit_calls.specs.Listed.{AllListed}
use Rattle.jit_session.specs.Calls.{AreCallsOf}
use Rattle.jit_session.specs.Runs.{IsImage}
use Rattle.jit_session.specs.Sessions.{AreFirst}

-- The quick versions of a module are first ones.
first-at : (program : Program) (n : ℕ) (versions : List Version) → quick_from program n versions → (k : ℕ) (v : Version) → At versions k v
    → (v.symbol ≡ n + k) × Good (meaning program) (n + k) v.words
first-at program n [] made k v at = absurd (some-ne-none v (sym at))
first-at program n (first ∷ versions) made zero v at =
    let same : first ≡ v = some-injective first v at in
    let e : n ≡ n + 0 = omega arith in
    subst (λ (w : Version). (w.symbol ≡ n + 0) × Good (meaning program) (n + 0) w.words) same
    (made.0.of_symbol ∙ e, subst (λ (s : ℕ). Good (meaning program) s first.words) e made.0.good)
first-at program n (first ∷ versions) made (suc k) v at =
    let more = first-at program (n + 1) versions made.2 k v at in
    let e : (n + 1) + k ≡ n + suc k = omega arith in
    (more.0 ∙ e, subst (λ (s : ℕ). Good (meaning program) s v.words) e more.1)

each : (program : Program) (versions : List Version) → AreQuick program versions → (k : ℕ) (v : Version) → At versions k v
    → (v.symbol ≡ k) × Good (meaning program) k v.words
each program versions quick k v at =
    let here = first-at program 0 versions quick.quick k v at in
    let e : 0 + k ≡ k = omega arith in
    (here.0 ∙ e, subst (λ (s : ℕ). Good (meaning program) s v.words) e here.1)

pub are_first : (program : Program) (versions : List Version) → AreQuick program versions → AreFirst program versions
are_first program versions quick = record { count = quick.count; good = each program versions quick }

abbrev nothing : List ℕ
nothing = []

shown_at : (memory : Memory) (bytes : List ℕ) (blanks i b : ℕ) → map known memory ≡ bytes ++ replicate blanks 0 → slice_get memory i ≡ Some (Some b) → slice_index bytes i ≡ b
shown_at [] bytes blanks i b is e = absurd (let bad : ⊥ = cc in bad)
shown_at (x ∷ memory) [] zero i b is e = absurd (let bad : ⊥ = cc in bad)
shown_at (x ∷ memory) [] (suc blanks) zero b is e =
    let first : known x ≡ 0 = cc in
    let same : x ≡ Some b = cc in
    sym first ∙ ap known same
shown_at (x ∷ memory) [] (suc blanks) (suc i) b is e =
    let rest : map known memory ≡ replicate blanks 0 = cc in
    past i (shown_at memory [] blanks i b rest e)
  where
    past : (i : ℕ) → slice_index nothing i ≡ b → slice_index nothing (suc i) ≡ b
    past i h = h
shown_at (x ∷ memory) (y ∷ bytes) blanks zero b is e =
    let first : known x ≡ y = cc in
    let same : x ≡ Some b = cc in
    sym first ∙ ap known same
shown_at (x ∷ memory) (y ∷ bytes) blanks (suc i) b is e =
    let rest : map known memory ≡ bytes ++ replicate blanks 0 = cc in
    shown_at memory bytes blanks i b rest e

-- the image that globals have is one of the first data memory
pub is_image : (program : Program) (image : First) → IsFirstImage program.module_.globals image × (image.top ≤ data_start + program.room) → IsImage program (record { bytes = image.bytes; top = image.top })
is_image program image is =
    let memory : Memory = first_memory program.module_.globals in
    let known' = is.0.bytes.known in
    let long = length-map memory known in
    let both = ap length known' ∙ length-append image.bytes (replicate (taken program.module_.globals - length image.bytes) 0) in
    let top = is.0.top in
    let high = is.1 in
    record {
      of = record { long = omega (arith, top); bytes = λ i b e. shown_at memory image.bytes (taken program.module_.globals - length image.bytes) i b known' e };
      room = record { low = omega (arith, long, both, top); high = omega (arith, high) };
    }

pub are_calls : (functions : List Function) (calls : List ListedCall) → AllListed functions calls → AreCallsOf functions calls
are_calls functions [] all = tt
are_calls functions (call ∷ calls) all = (record { function = all.0.function; found = all.0.found; args = all.0.args; turns = all.0.high }, are_calls functions calls all.1)
