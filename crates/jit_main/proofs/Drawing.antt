-- Answers over drawn events are right.
use Rattle.std.proofs.Common.{◌≡◌, ℕ, zero, suc, ◌+◌, ◌<◌, ◌≤◌, List, [], ◌∷◌, length, slice_index, nat_le, Bool, true, false, Result, Ok, Err, refl, sym, ap, subst, ◌∙◌, arith}
use mathlib.Core.Option.{some, some-injective, some-ne-none}
use Rattle.code_epochs.specs.Sound.{At}
use Rattle.ir_core.specs.Program.{Program}
use Rattle.ir_core.specs.declared.program.Function.{Function}
use Rattle.ir_data.specs.declared.image.Image.{Image as First}
use Rattle.ir_meaning.specs.declared.calls.Ended.{Ended}
use Rattle.ir_meaning.specs.declared.calls.ListedCall.{ListedCall}
use Rattle.ir_meaning.specs.Image.{first_memory}
use Rattle.ir_meaning.specs.Meaning.{meaning}
use Rattle.ir_meaning.specs.Ranges.{IsMemory}
use Rattle.ir_meaning.specs.Right.{Right}
use Rattle.ir_meaning.specs.Typed.{IsTyped}
use Rattle.rv_play.specs.declared.version.Version.{Version}
use Rattle.hart.specs.Calls.{IsCall}
use Rattle.hart.specs.declared.hart.Image.{Image}
use Rattle.jit_calls.specs.Listed.{IsListed, AllListed}
use Rattle.jit_core.specs.Seats.{AreCalls}
use Rattle.jit_core.specs.declared.run.Plan.{Plan}
use Rattle.jit_core.specs.declared.run.Report.{Report}
use Rattle.jit_core.specs.Ran.{Ran, IsRightFor}
use Rattle.jit_session.specs.Runs.{IsImage, AllRight}
use Rattle.jit_main.specs.Images.{hart_image}
use Rattle.jit_main.specs.Run.{IsImageFor}
use Rattle.jit_main.proofs.Readying.{is_call_of, is_image, invocation_of}

listed-at : (functions : List Function) (calls : List ListedCall) → AllListed functions calls → (i : ℕ) (call : ListedCall) → At calls i call → IsListed functions call
listed-at functions [] all i call at = absurd (some-ne-none call (sym at))
listed-at functions (first ∷ calls) all zero call at = subst (λ (c : ListedCall). IsListed functions c) (some-injective first call at) all.0
listed-at functions (first ∷ calls) all (suc i) call at = listed-at functions calls all.1 i call at

pub are_calls : (program : Program) (calls : List ListedCall) → IsTyped program → AllListed program.module_.functions calls
    → AreCalls (length program.module_.functions) calls
are_calls program calls typed all = λ i call at. is_call_of program call typed (listed-at program.module_.functions calls all i call at)

right-all : (program : Program) (calls : List ListedCall) (ends : List Ended) → length ends ≡ length calls
    → ((i : ℕ) (e : Ended) → At ends i e → (call : ListedCall) × At calls i call × Right program call e) → AllRight program calls ends
right-all program [] [] count each = tt
right-all program [] (end ∷ ends) count each = absurd (let bad : ⊥ = omega (arith, count) in bad)
right-all program (call ∷ calls) [] count each = absurd (let bad : ⊥ = omega (arith, count) in bad)
right-all program (call ∷ calls) (end ∷ ends) count each =
    let here = each 0 end refl in (
      subst (λ (c : ListedCall). Right program c end) (sym (some-injective call here.0 here.1)) here.2,
      right-all program calls ends (omega (arith, count)) (λ i e at. each (suc i) e at),
    )

-- the bytes of a first data memory are those of its image
memory_bytes : (program : Program) (image : Image) → IsImage program image → ((i : ℕ) → slice_index image.bytes i < 256) → IsMemory (first_memory program.module_.globals)
memory_bytes program image is below i b at = subst (λ (n : ℕ). n < 256) (is.of.bytes i b at) (below i)

-- each answer over drawn events is right
pub drawn_right : (program : Program) (first : First) (calls : List ListedCall) (versions : List Version) (plan : Plan) (report : Report)
    → IsTyped program → IsImageFor program first → AllListed program.module_.functions calls → ((i : ℕ) → slice_index first.bytes i < 256)
    → Ran program (hart_image first) calls versions plan report → AllRight program calls report.answers.items
drawn_right program first calls versions plan report typed is_for all below ran =
    let image = hart_image first in
    let is : IsImage program image = is_image program first is_for in
    let memory = memory_bytes program image is below in
    right-all program calls report.answers.items ran.answers.0 (λ i e at.
    let found : IsRightFor program image calls i e = ran.answers.1 i e at in (
      found.0,
      found.1,
      found.2 (first_memory program.module_.globals) typed
          (invocation_of program found.0 image (listed-at program.module_.functions calls all i found.0 found.1) is memory) is.of,
    ))
