-- What a reader that stops at a part that isn't read says of the whole.
use Rattle.std.proofs.Common.{◌≡◌, Option, None, Err}
use Rattle.std.specs.Option.{option_and_then}
use Rattle.std.specs.Prelude.{IsErrOf}
use Rattle.jit_calls.specs.declared.form.Refusal.{Refusal}
use Rattle.jit_calls.specs.declared.form.Refusal.TheVariants.{Form, NoMemory}
use Rattle.jit_calls.specs.Reads.{Refuses}

pub refuses-then : {A B : Type 0} (f : A → Option B) (refusal : Refusal) (part : Option A) (whole : Option B) → Refuses refusal part → whole ≡ option_and_then f part → Refuses refusal whole
refuses-then f Form part whole h e = rw h at e
refuses-then f NoMemory part whole h e = tt

-- a refusal of the form itself says that nothing is read
pub form-none : {A T : Type 0} (refusal : Refusal) (part : Option A) → Refuses refusal part → IsErrOf {T = T} (Err refusal) Form → part ≡ None
form-none Form part h e = h
form-none NoMemory part h e = absurd cc
