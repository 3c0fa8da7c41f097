-- Steps of a typed program keep values and bytes in their ranges.
use Rattle.std.proofs.Common.{◌≡◌, ℕ, zero, suc, ◌+◌, ◌-◌, ◌^◌, ◌<◌, ◌≤◌, Bool, true, false, nat_lt, List, [], ◌∷◌, ◌++◌, map, length, take, replicate, Option, Some, None, sym, ◌∙◌, ap, subst, refl, arith, if◌then◌else◌}
use Rattle.std.specs.Prelude.{slice_get}
use Rattle.ir_core.specs.declared.types.Ty.{Ty}
use Rattle.ir_core.specs.declared.code.Inst.{Inst}
use Rattle.ir_core.specs.declared.program.Function.{Function}
use Rattle.ir_core.specs.Units.{frame, values as value_count}
use Rattle.ir_meaning.specs.declared.activation.Activation.{Activation}
use Rattle.ir_meaning.specs.Value.{Value}
use Rattle.ir_meaning.specs.Memory.{Memory}
use Rattle.ir_meaning.specs.Operators.{width}
use Rattle.ir_meaning.specs.Step.{Program, Does, Goes, Calls, Returns, Breaks, step, step_in, step_at, act, answered, answered_in, answered_at, behind, function_at, insts_at, Entry, Opens, TooDeep, NoFunction, entry, entry_in, first_values, stack_start}
use Rattle.ir_meaning.specs.Meaning.{meaning, result_width, parameter_widths, of_function}
use Rattle.ir_meaning.specs.Ranges.{FitsWidth, FitsResult, AreArgs, IsMemory}
use Rattle.ir_meaning.specs.Typed.{types, IsTyped}
use Rattle.ir_meaning.proofs.Bytes.{all-of, memory-of}
use Rattle.ir_meaning.proofs.Keeping.{DoesFit, inst-fits, result-fits}
use Rattle.ir_meaning.proofs.Lengths.{step-lasts, Lasts}
use Rattle.ir_meaning.proofs.Steps.{step-stays, Stays, SameEntry}
use Rattle.ir_eval.specs.Fits.{ValuesFit, HasFitting}
use Rattle.ir_eval.specs.Runs.{Waiting}

taken_within : (n : ℕ) (memory : Memory) → length (take n memory) ≤ length memory
taken_within zero memory = omega arith
taken_within (suc n) [] = omega arith
taken_within (suc n) (b ∷ bs) = let below : length (take n bs) ≤ length bs = taken_within n bs in omega (arith, below)

some_is : {A : Type 0} (x y : A) → Some x ≡ Some y → x ≡ y
some_is x y e = cc

module _ (program : Program) (typed : IsTyped program) (now : Activation) (memory : Memory) (fitting : HasFitting program now) (bytes : IsMemory memory) (room : length memory ≤ program.room) where
  -- an instruction stands there
  record Acting : Type 0 where
    function : Function
    inst : Inst
    there : function_at program now.symbol ≡ Some function
    at : slice_get (insts_at function now.block) now.place ≡ Some inst

  at_place : (d : Does) → (step program now memory).does ≡ d → (d ≡ Breaks → ⊥) → (function : Function) → function_at program now.symbol ≡ Some function
      → (o : Option Inst) → slice_get (insts_at function now.block) now.place ≡ o → Acting
  at_place d e h function there None at =
      absurd (h (sym e ∙ ap (λ (f : Option Function). (step_in program now memory f).does) there ∙ ap (λ (o : Option Inst). (step_at program now memory function o).does) at))
  at_place d e h function there (Some inst) at = record { function = function; inst = inst; there = there; at = at }

  in_function : (d : Does) → (step program now memory).does ≡ d → (d ≡ Breaks → ⊥) → (f : Option Function) → function_at program now.symbol ≡ f → Acting
  in_function d e h None there = absurd (h (sym e ∙ ap (λ (f : Option Function). (step_in program now memory f).does) there))
  in_function d e h (Some function) there = at_place d e h function there (slice_get (insts_at function now.block) now.place) refl

  acting : (d : Does) → (step program now memory).does ≡ d → (d ≡ Breaks → ⊥) → Acting
  acting d e h = in_function d e h (function_at program now.symbol) refl

  step_is : (a : Acting) → (step program now memory).does ≡ (act program a.function now memory a.inst a.inst.op).does
  step_is a =
      ap (λ (f : Option Function). (step_in program now memory f).does) a.there
      ∙ ap (λ (o : Option Inst). (step_at program now memory a.function o).does) a.at

  does_fit : (a : Acting) (d : Does) → (step program now memory).does ≡ d → DoesFit program a.function a.inst.gives d
  does_fit a d e =
      subst (DoesFit program a.function a.inst.gives) (sym (step_is a) ∙ e)
      (inst-fits program typed.room a.function (typed.typed now.symbol a.function a.there) now memory a.inst a.at room (fitting a.function a.there) (all-of memory bytes))

  lasts : (d : Does) → (step program now memory).does ≡ d → Lasts program.room now memory d
  lasts d e = subst (λ (x : Does). Lasts program.room now memory x) e (step-lasts program now memory)

  goes_not : (d : Does) (next : Activation) (after : Memory) → d ≡ Goes next after → d ≡ Breaks → ⊥
  goes_not d next after e f = cc

  calls_not : (d : Does) (g : ℕ) (given : List Value) → d ≡ Calls g given → d ≡ Breaks → ⊥
  calls_not d g given e f = cc

  returns_not : (d : Does) (value : Value) (after : Memory) → d ≡ Returns value after → d ≡ Breaks → ⊥
  returns_not d value after e f = cc

  pub record Gone (next : Activation) (after : Memory) : Type 0 where
    pub symbol : next.symbol ≡ now.symbol
    pub fitting' : HasFitting program next
    pub bytes' : IsMemory after
    pub room' : length after ≤ program.room

  pub goes : (next : Activation) (after : Memory) → (step program now memory).does ≡ Goes next after → Gone next after
  goes next after e =
      let a = acting (Goes next after) e (goes_not (Goes next after) next after refl) in
      let fit : DoesFit program a.function a.inst.gives (Goes next after) = does_fit a (Goes next after) e in
      let stays : SameEntry now next = subst (λ (d : Does). Stays now d) e (step-stays program now memory) in
      let last : Lasts program.room now memory (Goes next after) = lasts (Goes next after) e in
      record {
        symbol = stays.symbol;
        fitting' = λ f there.
            let same : a.function ≡ f = some_is a.function f (sym a.there ∙ ap (function_at program) (sym stays.symbol) ∙ there) in
            subst (λ (g : Function). ValuesFit (types g) next.values) same fit.0;
        bytes' = memory-of after fit.1;
        room' = last.1 room;
      }

  behind_fits : (a : Acting) (value : Value) → FitsWidth (width a.inst.gives) value → HasFitting program (behind a.function now a.inst value)
  behind_fits a value h f there =
      let same : a.function ≡ f = some_is a.function f (sym a.there ∙ there) in
      subst (λ (g : Function). ValuesFit (types g) (behind a.function now a.inst value).values) same
      (result-fits a.function now.block now.place a.inst value now.values a.at (fitting a.function a.there) h)

  pub record Called (g : ℕ) (given : List Value) : Type 0 where
    pub exists : g < length program.module_.functions
    pub args : AreArgs ((meaning program).parameters g) given
    pub waits : Waiting program now g

  pub calls : (g : ℕ) (given : List Value) → (step program now memory).does ≡ Calls g given → Called g given
  calls g given e =
      let a = acting (Calls g given) e (calls_not (Calls g given) g given refl) in
      let fit : DoesFit program a.function a.inst.gives (Calls g given) = does_fit a (Calls g given) e in
      record {
        exists = fit.0;
        args = fit.1;
        waits = λ value h.
            let is : answered program now value ≡ behind a.function now a.inst value =
            ap (λ (f : Option Function). answered_in now value f) a.there ∙ ap (λ (o : Option Inst). answered_at now value a.function o) a.at in
            subst (HasFitting program) (sym is) (behind_fits a value (fit.2 value h));
      }

  pub record Returned (value : Value) (after : Memory) : Type 0 where
    pub result : FitsResult ((meaning program).result now.symbol) value
    pub bytes' : IsMemory after
    pub room' : length after ≤ program.room

  pub returns : (value : Value) (after : Memory) → (step program now memory).does ≡ Returns value after → Returned value after
  returns value after e =
      let a = acting (Returns value after) e (returns_not (Returns value after) value after refl) in
      let fit : DoesFit program a.function a.inst.gives (Returns value after) = does_fit a (Returns value after) e in
      let last : Lasts program.room now memory (Returns value after) = lasts (Returns value after) e in
      record {
        result = subst (λ (f : Option Function). FitsResult (of_function None (λ (g : Function). result_width g.ret) f) value) (sym a.there) fit.0;
        bytes' = memory-of after fit.1;
        room' = let cut = taken_within now.entry_length memory in let long : length after ≡ length (take now.entry_length memory) = ap length last in omega (arith, room, cut, long);
      }

-- ---- the entry

abbrev poison : Value
poison = None

none_there : (n i k : ℕ) → slice_get (replicate n poison) i ≡ Some (Some k) → ⊥
none_there zero i k e = cc
none_there (suc n) zero k e = cc
none_there (suc n) (suc i) k e = none_there n i k e

args_fit : (params more : List Ty) (args : List Value) (n : ℕ) → AreArgs (map width params) args → ValuesFit (params ++ more) (args ++ replicate n None)
args_fit [] more [] n h i ty k e f = absurd (none_there n i k f)
args_fit [] more (v ∷ vs) n h i ty k e f = absurd h
args_fit (p ∷ ps) more [] n h i ty k e f = absurd h
args_fit (p ∷ ps) more (v ∷ vs) n h zero ty k e f =
    let one : p ≡ ty = cc in let two : v ≡ Some k = cc in
    subst (λ (t : Ty). k < 2 ^ width t) one (subst (λ (z : Value). FitsWidth (width p) z) two h.0)
args_fit (p ∷ ps) more (v ∷ vs) n h (suc i) ty k e f = args_fit ps more vs n h.1 i ty k e f

abbrev unopened : Entry → Activation → Activation
unopened (Opens first) d = first
unopened TooDeep d = d
unopened NoFunction d = d

pub record Opened (program : Program) (symbol : ℕ) (first : Activation) : Type 0 where
  pub symbol' : first.symbol ≡ symbol
  pub fitting : HasFitting program first

module _ (program : Program) (symbol : ℕ) (given : List Value) (memory : Memory) (sp : ℕ) (first : Activation) (args : AreArgs ((meaning program).parameters symbol) given) where
  deep_not : TooDeep ≡ Opens first → ⊥
  deep_not e = cc

  no_not : NoFunction ≡ Opens first → ⊥
  no_not e = cc

  opened_in : (f : Option Function) → function_at program symbol ≡ f → entry_in symbol given memory sp f ≡ Opens first → Opened program symbol first
  opened_in None there e = absurd (no_not e)
  opened_in (Some function) there e = by_test (nat_lt sp (stack_start + frame function)) e
    where
      by_test : (deep : Bool)
          → (if deep then TooDeep else Opens (record {
            symbol = symbol;
            block = 0;
            place = 0;
            values = first_values function given;
            entry_length = length memory;
            sp = sp - frame function;
          })) ≡ Opens first → Opened program symbol first
      by_test true e = absurd (deep_not e)
      by_test false e =
          let opened : Activation = record {
            symbol = symbol;
            block = 0;
            place = 0;
            values = first_values function given;
            entry_length = length memory;
            sp = sp - frame function;
          } in
          let is : opened ≡ first = ap (λ (x : Entry). unopened x first) e in
          let fits : AreArgs (map width function.params) given = subst (λ (f : Option Function). AreArgs (of_function [] parameter_widths f) given) there args in
          record {
            symbol' = ap (λ (a : Activation). a.symbol) (sym is);
            fitting = subst (HasFitting program) is
                (λ f at.
                let same : function ≡ f = some_is function f (sym there ∙ at) in
                subst (λ (g : Function). ValuesFit (types g) (first_values function given)) same
                (args_fit function.params _ given (value_count function - length given) fits));
          }

  pub opened_fits : entry program symbol given memory sp ≡ Opens first → Opened program symbol first
  opened_fits e = opened_in (function_at program symbol) refl e
