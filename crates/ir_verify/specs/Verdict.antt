-- What the verifier answers.
use Rattle.std.specs.Prelude.{◌≡◌, ℕ, ◌+◌, ◌%◌, ◌≤◌, Bool, true, false, List, [], ◌∷◌, slice_get, length, Option, Some, None, if◌then◌else◌}
use Rattle.ir_core.specs.declared.program.Function.{Function}
use Rattle.ir_core.specs.declared.program.Module.{Module}
use Rattle.ir_meaning.specs.Step.{Program}
use Rattle.ir_verify.specs.declared.refusal.VerifyRefusal.{VerifyRefusal}
use Rattle.ir_verify.specs.declared.refusal.VerifyRefusal.TheVariants.{Limit, Shape, Range, EntryEdge, BadType, CallShape, PhiEdges, NotAssigned, NoMemory}
use Rattle.ir_flow.specs.First.{or_then, first_in}
use Rattle.ir_flow.specs.Limits.{Passed, limit_passed}
use Rattle.ir_verify.specs.Shapes.{misshapen, jumps_to_entry}
use Rattle.ir_verify.specs.Ranges.{out_of_range, all_globals}
use Rattle.ir_verify.specs.Types.{mistyped}
use Rattle.ir_verify.specs.Calls.{wrong_call}
use Rattle.ir_verify.specs.Phis.{wrong_phis}
use Rattle.ir_flow.specs.Assigned.{AllAssigned, IsUnassigned}

abbrev pub of_passed : Option Passed → Option VerifyRefusal
of_passed None = None
of_passed (Some passed) = Some (Limit passed.0 passed.1)

abbrev pub of_number : (ℕ → ℕ → VerifyRefusal) → ℕ → Option ℕ → Option VerifyRefusal
of_number refusal function None = None
of_number refusal function (Some n) = Some (refusal function n)

abbrev pub of_call : ℕ → Option (ℕ × ℕ) → Option VerifyRefusal
of_call function None = None
of_call function (Some found) = Some (CallShape function found.0 found.1)

abbrev pub of_globals : Bool → Option VerifyRefusal
of_globals true = None
of_globals false = Some (Range 0 0)

module _ (module_ : Module) where
  abbrev pub shape_refusal : Option VerifyRefusal
  shape_refusal = first_in (λ f function. of_number Shape f (misshapen function)) 0 module_.functions

  -- globals stand first
  abbrev pub range_refusal : Option VerifyRefusal
  range_refusal =
      or_then (of_globals (all_globals (length module_.globals) module_.globals))
      (first_in (λ f function. of_number Range f (out_of_range module_ function)) 0 module_.functions)

  abbrev pub entry_refusal : Option VerifyRefusal
  entry_refusal = first_in (λ f function. of_number EntryEdge f (jumps_to_entry function)) 0 module_.functions

  abbrev pub type_refusal : Option VerifyRefusal
  type_refusal = first_in (λ f function. of_number BadType f (mistyped function)) 0 module_.functions

  abbrev pub call_refusal : Option VerifyRefusal
  call_refusal = first_in (λ f function. of_call f (wrong_call module_ function)) 0 module_.functions

  abbrev pub phi_refusal : Option VerifyRefusal
  phi_refusal = first_in (λ f function. of_number PhiEdges f (wrong_phis function)) 0 module_.functions

  -- the first of the rows before the last that refuses the module, in their order
  abbrev pub refusal : Option VerifyRefusal
  refusal =
      or_then (of_passed (limit_passed module_)) (or_then shape_refusal (or_then range_refusal (or_then entry_refusal
      (or_then type_refusal (or_then call_refusal phi_refusal)))))

-- each use in each function is assigned
abbrev pub AllUsesAssigned : Module → Type 0
AllUsesAssigned module_ = (symbol : ℕ) (function : Function) → slice_get module_.functions symbol ≡ Some function → AllAssigned function

-- each row passes
pub record Passes (module_ : Module) : Type 0 where
  pub rows : refusal module_ ≡ None
  pub assigned : AllUsesAssigned module_

-- a refusal shows the first row that doesn't pass, and what breaks it
abbrev pub Refuses : Module → VerifyRefusal → Type 0
Refuses module_ (NotAssigned function value walk) = (refusal module_ ≡ None) × IsUnassigned module_ function value walk
Refuses module_ NoMemory = Unit {0}
Refuses module_ shown = refusal module_ ≡ Some shown

-- a program whose module passes, with a size of data memory that there may be
pub record IsChecked (program : Program) : Type 0 where
  pub passes : Passes program.module_
  pub room : (4096 ≤ program.room) × (program.room ≤ 67108864) × (program.room % 16 ≡ 0)

abbrev pub program_of : Module → ℕ → Program
program_of module_ room = record { module_ = module_; room = room }
