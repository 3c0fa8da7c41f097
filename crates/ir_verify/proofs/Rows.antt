-- What no refusal says of each function of a module, row by row.
use Rattle.std.proofs.Common.{◌≡◌, ℕ, ◌+◌, List, [], ◌∷◌, length, refl, sym, ◌∙◌, ap, subst, Bool, true, false, Option, Some, None}
use Rattle.std.proofs.lemmas.Bool.{false≢true}
use Rattle.std.specs.Option.{is_some}
use Rattle.std.specs.Prelude.{MatchOption}
use Rattle.ir_core.specs.declared.program.Function.{Function}
use Rattle.ir_core.specs.declared.program.Module.{Module}
use Rattle.ir_flow.specs.First.{or_then, first_in}
use Rattle.ir_flow.specs.Limits.{Passed, limit_passed}
use Rattle.ir_flow.specs.Assigned.{IsUsable}
use Rattle.ir_verify.specs.declared.refusal.VerifyRefusal.{VerifyRefusal}
use Rattle.ir_verify.specs.declared.refusal.VerifyRefusal.TheVariants.{Limit, Shape, Range, EntryEdge, BadType, CallShape, PhiEdges, NotAssigned, NoMemory}
use Rattle.ir_verify.specs.Shapes.{misshapen, jumps_to_entry}
use Rattle.ir_verify.specs.Ranges.{out_of_range, all_globals}
use Rattle.ir_verify.specs.Types.{mistyped}
use Rattle.ir_verify.specs.Calls.{wrong_call}
use Rattle.ir_verify.specs.Phis.{wrong_phis}
use Rattle.ir_verify.specs.Small.{IsSmall, HasFewBlocks}
use Rattle.ir_verify.specs.Verdict.{of_passed, of_number, of_call, of_globals, shape_refusal, range_refusal, entry_refusal, type_refusal, call_refusal, phi_refusal, refusal, Passes, Refuses}
use Rattle.ir_verify.proofs.Lists.{Every, every_map, every_and, none_in, or_none_left, or_none_right}
use Rattle.ir_verify.proofs.Usable.{all_small, has_few_blocks, usable}

none_some : {A : Type 0} (x : A) → None ≡ Some x → ⊥
none_some x e = cc

passed_none : (passed : Option Passed) → of_passed passed ≡ None → passed ≡ None
passed_none None e = refl
passed_none (Some p) e = absurd (none_some _ (sym e))

number_none : (show : ℕ → ℕ → VerifyRefusal) (at : ℕ) (found : Option ℕ) → of_number show at found ≡ None → found ≡ None
number_none show at None e = refl
number_none show at (Some n) e = absurd (none_some _ (sym e))

call_none : (at : ℕ) (found : Option (ℕ × ℕ)) → of_call at found ≡ None → found ≡ None
call_none at None e = refl
call_none at (Some n) e = absurd (none_some _ (sym e))

each_number : (show : ℕ → ℕ → VerifyRefusal) (test : Function → Option ℕ) (functions : List Function)
    → first_in (λ f function. of_number show f (test function)) 0 functions ≡ None → Every (λ function. test function ≡ None) functions
each_number show test functions e =
    every_map (λ function. (n : ℕ) × (of_number show n (test function) ≡ None)) (λ function. test function ≡ None) functions
    (λ function h. number_none show h.0 (test function) h.1) (none_in (λ f function. of_number show f (test function)) 0 functions e)

pub small_shapes : (functions : List Function) → Every IsSmall functions → Every (λ function. misshapen function ≡ None) functions → Every HasFewBlocks functions
small_shapes functions small shapes =
    every_map (λ function. IsSmall function × (misshapen function ≡ None)) HasFewBlocks functions (λ function h. has_few_blocks function h.1 h.0)
    (every_and IsSmall (λ function. misshapen function ≡ None) functions small shapes)

pub limits_none : (module_ : Module) → of_passed (limit_passed module_) ≡ None → limit_passed module_ ≡ None
limits_none module_ = passed_none (limit_passed module_)

pub shapes_none : (module_ : Module) → shape_refusal module_ ≡ None → Every (λ function. misshapen function ≡ None) module_.functions
shapes_none module_ = each_number Shape misshapen module_.functions

module _ (module_ : Module) (e : refusal module_ ≡ None) where
  pub no_limit : limit_passed module_ ≡ None
  no_limit = passed_none (limit_passed module_) (or_none_left (of_passed (limit_passed module_)) _ e)

  from_shapes : or_then (shape_refusal module_) (or_then (range_refusal module_) (or_then (entry_refusal module_)
      (or_then (type_refusal module_) (or_then (call_refusal module_) (phi_refusal module_))))) ≡ None
  from_shapes = or_none_right (of_passed (limit_passed module_)) _ e

  from_ranges : or_then (range_refusal module_) (or_then (entry_refusal module_) (or_then (type_refusal module_) (or_then (call_refusal module_) (phi_refusal module_)))) ≡ None
  from_ranges = or_none_right (shape_refusal module_) _ from_shapes

  from_entries : or_then (entry_refusal module_) (or_then (type_refusal module_) (or_then (call_refusal module_) (phi_refusal module_))) ≡ None
  from_entries = or_none_right (range_refusal module_) _ from_ranges

  from_types : or_then (type_refusal module_) (or_then (call_refusal module_) (phi_refusal module_)) ≡ None
  from_types = or_none_right (entry_refusal module_) _ from_entries

  from_calls : or_then (call_refusal module_) (phi_refusal module_) ≡ None
  from_calls = or_none_right (type_refusal module_) _ from_types

  pub shaped : Every (λ function. misshapen function ≡ None) module_.functions
  shaped = shapes_none module_ (or_none_left (shape_refusal module_) _ from_shapes)

  ranges : or_then (of_globals (all_globals (length module_.globals) module_.globals)) (first_in (λ f function. of_number Range f (out_of_range module_ function)) 0 module_.functions) ≡ None
  ranges = or_none_left (range_refusal module_) _ from_ranges

  pub globals_fit : all_globals (length module_.globals) module_.globals ≡ true
  globals_fit = fit (all_globals (length module_.globals) module_.globals) (or_none_left (of_globals (all_globals (length module_.globals) module_.globals)) _ ranges)
    where
      fit : (b : Bool) → of_globals b ≡ None → b ≡ true
      fit true e = refl
      fit false e = absurd (none_some _ (sym e))

  pub in_range : Every (λ function. out_of_range module_ function ≡ None) module_.functions
  in_range = each_number Range (out_of_range module_) module_.functions (or_none_right (of_globals (all_globals (length module_.globals) module_.globals)) _ ranges)

  pub entered : Every (λ function. jumps_to_entry function ≡ None) module_.functions
  entered = each_number EntryEdge jumps_to_entry module_.functions (or_none_left (entry_refusal module_) _ from_entries)

  pub typed : Every (λ function. mistyped function ≡ None) module_.functions
  typed = each_number BadType mistyped module_.functions (or_none_left (type_refusal module_) _ from_types)

  pub called : Every (λ function. wrong_call module_ function ≡ None) module_.functions
  called =
      every_map (λ function. (n : ℕ) × (of_call n (wrong_call module_ function) ≡ None)) (λ function. wrong_call module_ function ≡ None) module_.functions
      (λ function h. call_none h.0 (wrong_call module_ function) h.1)
      (none_in (λ f function. of_call f (wrong_call module_ function)) 0 module_.functions (or_none_left (call_refusal module_) _ from_calls))

  pub joined : Every (λ function. wrong_phis function ≡ None) module_.functions
  joined = each_number PhiEdges wrong_phis module_.functions (or_none_right (call_refusal module_) _ from_calls)

  pub small : Every IsSmall module_.functions
  small = all_small module_ no_limit

  pub few_blocks : Every HasFewBlocks module_.functions
  few_blocks = small_shapes module_.functions small shaped

  pub all_usable : Every IsUsable module_.functions
  all_usable =
      every_map (λ function. IsSmall function × (HasFewBlocks function × (out_of_range module_ function ≡ None))) IsUsable module_.functions
      (λ function h. usable module_ function h.0 h.1.0 h.1.1)
      (every_and IsSmall (λ function. HasFewBlocks function × (out_of_range module_ function ≡ None)) module_.functions small
      (every_and HasFewBlocks (λ function. out_of_range module_ function ≡ None) module_.functions few_blocks in_range))

-- ---- what the rows before the last show

pub missing : {A : Type 0} (found : Option A) (b : Bool) → b ≡ is_some found → b ≡ false → found ≡ None
missing None b e h = refl
missing (Some x) b e h = absurd (false≢true (sym h ∙ e))

-- it isn't of the last row
abbrev IsEarly : Option VerifyRefusal → Type 0
IsEarly None = Unit {0}
IsEarly (Some (NotAssigned function value walk)) = ⊥
IsEarly (Some _) = Unit {0}

early_or : (a b : Option VerifyRefusal) → IsEarly a → IsEarly b → IsEarly (or_then a b)
early_or None b h g = g
early_or (Some x) b h g = h

early_number : (show : ℕ → ℕ → VerifyRefusal) → ((f n : ℕ) → IsEarly (Some (show f n))) → (f : ℕ) (found : Option ℕ) → IsEarly (of_number show f found)
early_number show early f None = tt
early_number show early f (Some n) = early f n

early_call : (f : ℕ) (found : Option (ℕ × ℕ)) → IsEarly (of_call f found)
early_call f None = tt
early_call f (Some found) = tt

early_passed : (found : Option Passed) → IsEarly (of_passed found)
early_passed None = tt
early_passed (Some passed) = tt

early_globals : (b : Bool) → IsEarly (of_globals b)
early_globals true = tt
early_globals false = tt

early_in : (show : ℕ → Function → Option VerifyRefusal) → ((f : ℕ) (function : Function) → IsEarly (show f function)) → (at : ℕ) (functions : List Function)
    → IsEarly (first_in show at functions)
early_in show early at [] = tt
early_in show early at (function ∷ functions) = early_or (show at function) (first_in show (at + 1) functions) (early at function) (early_in show early (at + 1) functions)

early_each : (show : ℕ → ℕ → VerifyRefusal) → ((f n : ℕ) → IsEarly (Some (show f n))) → (test : Function → Option ℕ) (functions : List Function)
    → IsEarly (first_in (λ f function. of_number show f (test function)) 0 functions)
early_each show early test functions = early_in (λ f function. of_number show f (test function)) (λ f function. early_number show early f (test function)) 0 functions

early : (module_ : Module) → IsEarly (refusal module_)
early module_ =
    early_or (of_passed (limit_passed module_)) _ (early_passed (limit_passed module_))
    (early_or (shape_refusal module_) _ (early_each Shape (λ f n. tt) misshapen module_.functions)
    (early_or (range_refusal module_) _
    (early_or (of_globals (all_globals (length module_.globals) module_.globals)) _ (early_globals (all_globals (length module_.globals) module_.globals))
    (early_each Range (λ f n. tt) (out_of_range module_) module_.functions))
    (early_or (entry_refusal module_) _ (early_each EntryEdge (λ f n. tt) jumps_to_entry module_.functions)
    (early_or (type_refusal module_) _ (early_each BadType (λ f n. tt) mistyped module_.functions)
    (early_or (call_refusal module_) _ (early_in (λ f function. of_call f (wrong_call module_ function)) (λ f function. early_call f (wrong_call module_ function)) 0 module_.functions)
    (early_each PhiEdges (λ f n. tt) wrong_phis module_.functions))))))

refuses_with : (module_ : Module) (shown : VerifyRefusal) → IsEarly (Some shown) → refusal module_ ≡ Some shown → Refuses module_ shown
refuses_with module_ (NotAssigned function value walk) h e = absurd h
refuses_with module_ NoMemory h e = tt
refuses_with module_ _ h e = e

pub refuses_shown : (module_ : Module) (found : Option VerifyRefusal) → found ≡ refusal module_ → (b : Bool) → b ≡ is_some found → b ≡ true
    → MatchOption found (Passes module_) (λ shown. Refuses module_ shown)
refuses_shown module_ None e b is h = absurd (false≢true (sym is ∙ h))
refuses_shown module_ (Some shown) e b is h = refuses_with module_ shown (subst_early (refusal module_) (early module_) e) (sym e)
  where
    subst_early : (found : Option VerifyRefusal) → IsEarly found → Some shown ≡ found → IsEarly (Some shown)
    subst_early found given same = let P : Option VerifyRefusal → Type 0 = λ o. IsEarly o in subst P (sym same) given
