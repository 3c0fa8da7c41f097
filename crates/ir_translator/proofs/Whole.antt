-- A function of a checked module, by its number.
use Rattle.std.proofs.Common.{◌≡◌, sym, ap, subst, ◌∙◌, ℕ, zero, suc, ◌<◌, ◌≤◌, ◌%◌, List, [], ◌∷◌, length, get_or, Some, arith}
use Rattle.std.specs.Prelude.{slice_get}
use Rattle.ir_core.specs.Program.{Program}
use Rattle.ir_core.specs.declared.program.Function.{Function}
use Rattle.ir_core.specs.declared.program.Module.{Module}
use Rattle.ir_meaning.specs.Step.{function_at}
use Rattle.ir_meaning.specs.Typed.{IsTyped}
use Rattle.ir_verify.specs.Verdict.{Passes, IsChecked}
use Rattle.gmir.specs.declared.code.GFunction.{GFunction}
use Rattle.gmir.specs.Refines.{RefinesFunction}
use Rattle.legal_code.specs.Legal.{HasWideAddresses}
use Rattle.generic_code.specs.Whole.{translated}
use Rattle.generic_laws.specs.Laws.{TranslatedRefines, TranslatedHasWideAddresses}
use Rattle.ir_translator.specs.Fit.{IsFit}
use Rattle.ir_translator.proofs.Fitting.{fit-at}

get-at : {A : Type 0} (xs : List A) (i : ℕ) (x : A) → i < length xs → x ≡ get_or xs i x → slice_get xs i ≡ Some x
get-at [] i x lt e = absurd (let bad : ⊥ = omega (arith, lt) in bad)
get-at (y ∷ ys) zero x lt e = ap (λ z. Some z) (sym e)
get-at (y ∷ ys) (suc i) x lt e = get-at ys i x (omega (arith, lt)) e

-- what is known of the function that was taken
pub record IsThere (program : Program) (symbol : ℕ) (function : Function) : Type 0 where
  pub checked : IsChecked program
  pub fit : IsFit function
  pub there : function_at program symbol ≡ Some function

pub is-there : (program : Program) (symbol room : ℕ) (module_ : Module) (functions : List Function) (function : Function)
    → symbol < length program.module_.functions → module_ ≡ program.module_ → Passes module_ → IsTyped program → room ≡ program.room → (4096 ≤ room) × (room ≤ 67108864) × (room % 16 ≡ 0)
    → functions ≡ module_.functions → function ≡ get_or functions symbol function → IsThere program symbol function
is-there program symbol room module_ functions function lt same passes typed size fits are is =
    let passed : Passes program.module_ = subst Passes same passes in
    let at = get-at program.module_.functions symbol function lt (is ∙ ap (λ (fs : List Function). get_or fs symbol function) (are ∙ ap (λ (m : Module). m.functions) same)) in
    record {
      checked = record { passes = passed; room = subst (λ (n : ℕ). (4096 ≤ n) × (n ≤ 67108864) × (n % 16 ≡ 0)) size fits };
      fit = fit-at program symbol function passed.rows typed at;
      there = at;
    }

one-function : (f g : Function) → Some f ≡ Some g → f ≡ g
one-function f g e = cc

pub exactly : (program : Program) (symbol : ℕ) (function other : Function) (generic : GFunction) → IsThere program symbol function → generic ≡ translated program symbol function
    → function_at program symbol ≡ Some other → generic ≡ translated program symbol other
exactly program symbol function other generic is e at = e ∙ ap (λ (f : Function). translated program symbol f) (one-function function other (sym is.there ∙ at))

pub refined : (program : Program) (symbol : ℕ) (function other : Function) (generic : GFunction) → TranslatedRefines → IsThere program symbol function → generic ≡ translated program symbol function
    → function_at program symbol ≡ Some other → RefinesFunction program symbol other generic
refined program symbol function other generic law is e at =
    subst (λ (g : GFunction). RefinesFunction program symbol other g) (sym (exactly program symbol function other generic is e at)) (law program symbol other is.checked at)

pub addressed : (program : Program) (symbol : ℕ) (function : Function) (generic : GFunction) → TranslatedHasWideAddresses → IsThere program symbol function → generic ≡ translated program symbol function
    → HasWideAddresses generic
addressed program symbol function generic law is e = subst HasWideAddresses (sym e) (law program symbol function is.checked is.there)
