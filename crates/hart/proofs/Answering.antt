-- Right answers over backed passes.
use Rattle.std.proofs.Common.{◌≡◌, refl, sym, ap, ◌∙◌, ℕ, ◌+◌, ◌-◌, ◌<◌, ◌≤◌, List, [], ◌++◌, length, slice_index, Some, arith, ◌⊎◌, inl, inr}
use Rattle.std.specs.Prelude.{replicate, drop}
use Rattle.std.proofs.lemmas.List.{get_or_append_left, get_or-append_right, get_or_past, get_or-replicate}
use Rattle.std.proofs.lemmas.Option.{slice_get_within}
use Rattle.std.proofs.lemmas.List.{length-replicate}
use Rattle.rv_play.proofs.ListedCalls.{backed-is-right}
use Rattle.ir_meaning.specs.Memory.{Memory}
use Rattle.ir_meaning.specs.Meaning.{meaning}
use Rattle.rv_play.specs.Machine.{data_base}
use Rattle.rv_play.specs.Good.{RefinesMemory}
use Rattle.rv_play.specs.Ending.{ending, start}
use Rattle.rv_play.specs.ListedCalls.{IsListed}
use Rattle.rv_play.proofs.Runs.{lt_or_le}
use Rattle.hart.specs.declared.hart.Image.{Image}
use Rattle.hart.specs.Places.{bytes_from}
use Rattle.hart.specs.Standing.{run_of}
use Rattle.hart.specs.Calls.{origin_of, with_image}
use Rattle.hart.specs.Fixed.{code_of}
use Rattle.hart.specs.Right.{IsImageOf, AnswersAreRight, FixedAnswersAreRight}
use Rattle.hart.proofs.Stores.{from_above}
use Rattle.hart.proofs.Laid.{fixed_backed}

zeros_zero : (n i : ℕ) → (i < n) ⊎ (n ≤ i) → slice_index (replicate n 0) i ≡ 0
zeros_zero n i (inl h) = get_or-replicate n i 0 0 h
zeros_zero n i (inr h) = get_or_past (replicate n 0) i 0 (let l = length-replicate {A = ℕ} n 0 in omega arith)

written_at : (image : Image) (bytes : List ℕ) (i : ℕ) → i < image.top - data_base → length image.bytes ≤ image.top - data_base
    → (i < length image.bytes) ⊎ (length image.bytes ≤ i) → slice_index (with_image image bytes) i ≡ slice_index image.bytes i
written_at image bytes i h l (inl below) = get_or_append_left image.bytes _ 0 i below
written_at image bytes i h l (inr above) =
    let n : ℕ = image.top - data_base - length image.bytes in
    let rest : List ℕ = drop (image.top - data_base) bytes in
    let long = length-replicate {A = ℕ} n 0 in
    get_or-append_right image.bytes (replicate n 0 ++ rest) (length image.bytes) i 0 refl above
    ∙ get_or_append_left (replicate n 0) rest 0 (i - length image.bytes) (omega arith)
    ∙ zeros_zero n (i - length image.bytes) (lt_or_le (i - length image.bytes) n)
    ∙ sym (get_or_past image.bytes i 0 above)

-- the written image refines the first data memory
image_refines : (memory : Memory) (image : Image) (bytes : List ℕ) → IsImageOf memory image → data_base + length image.bytes ≤ image.top
    → RefinesMemory memory (bytes_from data_base (with_image image bytes))
image_refines memory image bytes m l i b h =
    let within : i < length memory = slice_get_within memory i (Some b) h in
    let long = m.long in
    let place : data_base + i - data_base ≡ i = omega arith in
    from_above data_base (with_image image bytes) (data_base + i) (omega arith)
    ∙ ap (slice_index (with_image image bytes)) place
    ∙ written_at image bytes i (omega arith) (omega arith) (lt_or_le i (length image.bytes))
    ∙ m.bytes i b h

pub right_answers : AnswersAreRight
right_answers program call memory image h h' code_words pass counted e l backed over =
    let listed : IsListed program call memory (origin_of h image call 0).bytes (origin_of h image call 0).control = record {
      typed = l.typed;
      invocation = l.invocation;
      data_bytes = l.bytes;
      control_bytes = l.control;
      refines = image_refines memory image h.bytes.items l.image_of l.room.low;
    } in
    let ends : ending (meaning program) code_words call.symbol call.turns
    (start call.symbol call.args (length memory) (origin_of h image call 0).bytes (origin_of h image call 0).control pass) ≡ Some (e, run_of h' counted []) =
    ap (λ (n : ℕ). ending (meaning program) code_words call.symbol call.turns
    (start call.symbol call.args n (origin_of h image call 0).bytes (origin_of h image call 0).control pass)) l.image_of.long ∙ over in
    backed-is-right program call memory (origin_of h image call 0).bytes (origin_of h image call 0).control code_words pass e (run_of h' counted []) listed backed ends refl

pub right_fixed_answers : FixedAnswersAreRight
right_fixed_answers program call memory image h h' versions pass counted e l versions_are good served over =
    right_answers program call memory image h h' (length (code_of 0 versions)) pass counted e l (fixed_backed (meaning program) versions pass versions_are good served) over
