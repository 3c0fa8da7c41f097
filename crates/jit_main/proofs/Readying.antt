-- Calls that were read, and the image that harts take.
use Rattle.std.proofs.Common.{◌≡◌, ℕ, zero, suc, ◌+◌, ◌-◌, ◌^◌, ◌<◌, ◌≤◌, List, [], ◌∷◌, ◌++◌, length, map, replicate, slice_index, Some, refl, sym, ap, ◌∙◌, arith}
use Rattle.std.specs.List.{slice_get}
use Rattle.std.proofs.Math.Pow.{pow_mono}
use Rattle.std.proofs.lemmas.List.{length-map, length-append}
use Rattle.std.proofs.lemmas.Option.{slice_get_within}
use Rattle.ir_core.specs.declared.program.Function.{Function}
use Rattle.ir_core.specs.declared.types.Ty.{Ty}
use Rattle.ir_core.specs.declared.types.Ty.TheVariants.{Void, Int, Ptr}
use Rattle.ir_core.specs.Program.{Program}
use Rattle.ir_data.specs.declared.image.Image.{Image as First}
use Rattle.ir_data.specs.Image.{known, taken}
use Rattle.ir_meaning.specs.declared.calls.ListedCall.{ListedCall}
use Rattle.ir_meaning.specs.Memory.{Memory}
use Rattle.ir_meaning.specs.Operators.{width}
use Rattle.ir_meaning.specs.Image.{first_memory}
use Rattle.ir_meaning.specs.Meaning.{meaning}
use Rattle.ir_meaning.specs.Ranges.{AreArgs, IsInvocation, IsMemory}
use Rattle.ir_meaning.specs.Typed.{IsTyped, IsValueType}
use Rattle.rv_play.specs.Machine.{data_base}
use Rattle.rv_play.specs.Link.{top_invocation}
use Rattle.hart.specs.declared.hart.Image.{Image}
use Rattle.hart.specs.Calls.{IsCall}
use Rattle.jit_calls.specs.Listed.{IsListed, AllListed}
use Rattle.jit_session.specs.Calls.{AreCallsOf}
use Rattle.jit_session.specs.Runs.{IsImage}
use Rattle.jit_main.specs.Images.{hart_image}
use Rattle.jit_main.specs.Run.{IsImageFor}

narrow : (ty : Ty) → IsValueType ty → width ty ≤ 64
narrow Void is = absurd is
narrow (Int w) is = is.1
narrow Ptr is = omega arith

value_at : (tys : List Ty) (values : List ℕ) (i : ℕ) → ((k : ℕ) (ty : Ty) → slice_get tys k ≡ Some ty → IsValueType ty) → AreArgs (map width tys) (map Some values) → slice_index values i < 2 ^ 64
value_at [] [] i of all = omega arith
value_at [] (v ∷ values) i of all = absurd all
value_at (ty ∷ tys) [] i of all = absurd all
value_at (ty ∷ tys) (v ∷ values) zero of all = let power : 2 ^ width ty ≤ 2 ^ 64 = pow_mono (narrow ty (of 0 ty refl)) in let below = all.0 in omega (arith, power, below)
value_at (ty ∷ tys) (v ∷ values) (suc i) of all = value_at tys values i (λ k other e. of (suc k) other e) all.1

listed_below : (program : Program) (call : ListedCall) → IsListed program.module_.functions call → call.symbol < length program.module_.functions
listed_below program call l = slice_get_within program.module_.functions call.symbol l.function l.found

-- a listed call of a well typed program
pub is_call_of : (program : Program) (call : ListedCall) → IsTyped program → IsListed program.module_.functions call → IsCall (length program.module_.functions) call
is_call_of program call typed l = record {
  symbol = listed_below program call l;
  args = λ i. value_at l.function.params call.args i (typed.typed call.symbol l.function l.found).params l.args;
  turns = l.high;
}

-- calls that were read are calls of the program
pub are_calls_of : (functions : List Function) (calls : List ListedCall) → AllListed functions calls → AreCallsOf functions calls
are_calls_of functions [] all = tt
are_calls_of functions (call ∷ calls) all = (record { function = all.0.function; found = all.0.found; args = all.0.args; turns = all.0.high }, are_calls_of functions calls all.1)

-- ---- the first data memory

abbrev nothing : List ℕ
nothing = []

shown_at : (memory : Memory) (bytes : List ℕ) (blanks i b : ℕ) → map known memory ≡ bytes ++ replicate blanks 0 → slice_get memory i ≡ Some (Some b) → slice_index bytes i ≡ b
shown_at [] bytes blanks i b is e = absurd (let bad : ⊥ = cc in bad)
shown_at (x ∷ memory) [] zero i b is e = absurd (let bad : ⊥ = cc in bad)
shown_at (x ∷ memory) [] (suc blanks) zero b is e =
    let first : known x ≡ 0 = cc in
    let same : x ≡ Some b = cc in
    sym first ∙ ap known same
shown_at (x ∷ memory) [] (suc blanks) (suc i) b is e =
    let rest : map known memory ≡ replicate blanks 0 = cc in
    past i (shown_at memory [] blanks i b rest e)
  where
    past : (i : ℕ) → slice_index nothing i ≡ b → slice_index nothing (suc i) ≡ b
    past i h = h
shown_at (x ∷ memory) (y ∷ bytes) blanks zero b is e =
    let first : known x ≡ y = cc in
    let same : x ≡ Some b = cc in
    sym first ∙ ap known same
shown_at (x ∷ memory) (y ∷ bytes) blanks (suc i) b is e =
    let rest : map known memory ≡ bytes ++ replicate blanks 0 = cc in
    shown_at memory bytes blanks i b rest e

-- the image that globals have is one of the first data memory
pub is_image : (program : Program) (image : First) → IsImageFor program image → IsImage program (hart_image image)
is_image program image is =
    let memory : Memory = first_memory program.module_.globals in
    let known' = is.0.bytes.known in
    let long = length-map memory known in
    let both = ap length known' ∙ length-append image.bytes (replicate (taken program.module_.globals - length image.bytes) 0) in
    let top = is.0.top in
    let high = is.1 in
    record {
      of = record { long = omega (arith, top); bytes = λ i b e. shown_at memory image.bytes (taken program.module_.globals - length image.bytes) i b known' e };
      room = record { low = omega (arith, long, both, top); high = omega (arith, high) };
    }

-- a listed call begins as one of the program's
pub invocation_of : (program : Program) (call : ListedCall) (image : Image) → IsListed program.module_.functions call → IsImage program image
    → IsMemory (first_memory program.module_.globals)
    → IsInvocation (meaning program) (top_invocation call.symbol call.args (first_memory program.module_.globals))
invocation_of program call image l is below =
    let long = is.of.long in
    let low = is.room.low in
    let high = is.room.high in
    record {
      symbol = listed_below program call l;
      args = rw l.found l.args;
      memory = below;
      room = omega (arith, long, low, high);
      sp_low = omega arith;
      sp_high = omega arith;
    }
