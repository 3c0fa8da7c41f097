-- The module's parts fit, so that it reads back from its printed text.
use Rattle.std.proofs.Common.{◌≡◌, ℕ, zero, suc, ◌+◌, ◌<◌, ◌≤◌, Bool, true, false, List, [], ◌∷◌, length, take, slice_get, Option, Some, None, refl, arith}
use Rattle.std.specs.Prelude.{decimal, codes, nat_lt, bytes_eq, if◌then◌else◌}
use Rattle.std.specs.List.{list_all}
use Rattle.std.specs.Char.{is_ascii_digit}
use Rattle.ir_core.specs.declared.program.Function.{Function}
use Rattle.ir_core.specs.declared.program.Module.{Module}
use Rattle.ir_instructions.specs.BuiltIns.{built_in_of, memory_named, integer_named, width_behind}
use Rattle.ir_print.specs.Instructions.{function_of as name_in}
use Rattle.ir_print_names.proofs.NamesBack.{both_true}
use Rattle.ir_print_laws.proofs.Tokens.{decimal_digits}
use Rattle.ir_print_laws.specs.Written.{Each}
use Rattle.ir_print_laws.specs.Fits.{AreBytes, IsOwnName, FitsTy, block_parts, FitsBlocks, FitsFunction, HasOwnName, FitsModule, counts_of}
use Rattle.ir_print_laws.specs.Modules.{word, name_of, function_of, functions_from, many_module}
use Rattle.ir_print_laws.proofs.ManyCallsNames.{function_at, names_new}

digit_is_byte : (d : ℕ) → is_ascii_digit d ≡ true → nat_lt d 256 ≡ true
digit_is_byte d e = grind (arith, e)

digits_are_bytes : (ds : List ℕ) → list_all is_ascii_digit ds ≡ true → AreBytes ds
digits_are_bytes [] all = refl
digits_are_bytes (d ∷ ds) all = let s = both_true (is_ascii_digit d) (list_all is_ascii_digit ds) all in rw (digit_is_byte d s.0, digits_are_bytes ds s.1) refl

name_is_bytes : (j : ℕ) → AreBytes (name_of j)
name_is_bytes j = digits_are_bytes (decimal j) (decimal_digits j)

fits_word : FitsTy word
fits_word = (omega arith, omega arith)

-- ---- the instructions

-- a module of 64 functions, each the one of its number
pub record IsMany (m : Module) : Type 0 where
  pub count : length m.functions ≡ 64
  pub there : (j : ℕ) → j < 64 → slice_get m.functions j ≡ Some (function_of j)

own_name : (m : Module) (j : ℕ) → IsMany m → j < 64 → IsOwnName (name_in (slice_get m.functions j))
own_name m j is lt = rw (is.there j lt) refl

fits_blocks : (m : Module) (j : ℕ) → IsMany m → j < 64 → FitsBlocks m (counts_of m (function_of j)) true word (function_of j).blocks
fits_blocks m zero is lt = ((((refl, (tt, (fits_word, omega arith))), tt), tt), tt)
fits_blocks m (suc before) is lt =
    let callee : before < 64 = omega (arith, lt) in
    let there : before < length m.functions = (let e = is.count in omega (arith, callee, e)) in (
      (
        ((fits_word, (there, (own_name m before is callee, ((fits_word, omega arith), tt)))), tt),
        (
          (((fits_word, omega arith), omega arith), (tt, refl)),
          (((refl, (tt, (fits_word, omega arith))), tt), tt),
        ),
      ),
      tt,
    )

units_of : (j : ℕ) → block_parts (function_of j).blocks ≤ 16384
units_of zero = omega arith
units_of (suc before) = omega arith

fits_function : (m : Module) (j : ℕ) → IsMany m → j < 64 → FitsFunction m (function_of j)
fits_function m j is lt = record {
  name = name_is_bytes j;
  ret = fits_word;
  params = ((fits_word, tt), tt);
  few = omega arith;
  units = units_of j;
  held = omega arith;
  blocks = fits_blocks m j is lt;
}

-- ---- all functions

each_from : (P : Function → Type 0) → ((j : ℕ) → j < 64 → P (function_of j)) → (k more : ℕ) → k + more ≤ 64 → Each P (functions_from k more)
each_from P all k zero le = tt
each_from P all k (suc more) le = (all k (omega (arith, le)), each_from P all (k + 1) more (omega (arith, le)))

-- each function of the module
pub each_function : (P : Function → Type 0) → ((j : ℕ) → j < 64 → P (function_of j)) → Each P many_module.functions
each_function P all = each_from P all 0 64 (omega arith)

none_either : (b : Bool) → ◌≡◌ {A = Option ℕ} (if b then None else None) None
none_either true = refl
none_either false = refl

no_width : (front name : List ℕ) → bytes_eq (take (length front) name) front ≡ false → width_behind front name ≡ None
unfolding width_behind
no_width front name e = rw e (none_either (nat_lt (length name) (length front)))

has_own_name : (j : ℕ) → HasOwnName (function_of j)
unfolding built_in_of memory_named integer_named
has_own_name j =
    rw (
      no_width (codes "llvm.smax.i") (name_of j) refl,
      no_width (codes "llvm.smin.i") (name_of j) refl,
      no_width (codes "llvm.umax.i") (name_of j) refl,
      no_width (codes "llvm.umin.i") (name_of j) refl,
      no_width (codes "llvm.abs.i") (name_of j) refl,
    ) refl

pub is_many : IsMany many_module
is_many = record { count = refl; there = λ j lt. function_at 64 j lt }

pub many_fits : FitsModule many_module
many_fits = record {
  globals = tt;
  functions = each_function (FitsFunction many_module) (λ j lt. fits_function many_module j is_many lt);
  global_names = tt;
  function_names = names_new 64 (omega arith);
  own_names = each_function HasOwnName (λ j lt. has_own_name j);
  few_globals = omega arith;
  few_functions = (let e = is_many.count in omega (arith, e));
}
