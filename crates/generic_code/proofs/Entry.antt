-- The entry of a function is followed by that of its code, and by its parameters.
use Rattle.std.proofs.Common.{◌≡◌, refl, sym, ap, subst, ◌∙◌, ℕ, zero, suc, ◌+◌, ◌-◌, ◌*◌, ◌<◌, ◌≤◌, ◌^◌, ◌⊎◌, inl, inr, Bool, true, false, List, [], ◌∷◌, ◌++◌, length, map, Option, Some, None, arith}
use Rattle.std.specs.Prelude.{slice_get, slice_index_or, replicate, if◌then◌else◌, ◌==◌, nat_lt}
use Rattle.std.proofs.lemmas.Bool.{cases_lt}
use Rattle.ir_core.specs.Program.{Program}
use Rattle.ir_core.specs.Units.{frame, instructions, values as value_count}
use Rattle.ir_core.specs.declared.types.Ty.{Ty}
use Rattle.ir_core.specs.declared.program.Function.{Function}
use Rattle.ir_meaning.specs.declared.activation.Activation.{Activation}
use Rattle.ir_meaning.specs.Value.{Value}
use Rattle.ir_meaning.specs.Memory.{data_start}
use Rattle.ir_meaning.specs.Operators.{width}
use Rattle.ir_meaning.specs.Step as ir
use Rattle.ir_meaning.specs.Step.{function_at, first_values, stack_start, entry_in}
use Rattle.ir_meaning.specs.Meaning.{of_function, parameter_widths}
use Rattle.ir_meaning.specs.Typed.{types, result_types, IsValueType}
use Rattle.ir_meaning.proofs.Bytes.{all-of}
use Rattle.ir_meaning.proofs.Keeping.{ValuesFit}
use Rattle.gmir.specs.declared.code.GType.{GType}
use Rattle.gmir.specs.declared.code.GOp.TheVariants as g
use Rattle.gmir.specs.declared.code.GInst.{GInst}
use Rattle.gmir.specs.declared.code.GFunction.{GFunction}
use Rattle.gmir.specs.Play as play
use Rattle.gmir.specs.Play.{State, weight, is_legal, insts_at}
use Rattle.walks.specs.Registers.{Registers, write}
use Rattle.walks.specs.Walk.{Bits, Entry, Goes, Wants, Step}
use Rattle.walks.specs.Bits.{free, cut, number as number_in}
use Rattle.walks.specs.Refines.{RefinesBits, AllRefine, RefinesEntry}
use Rattle.walks.specs.Simulation.{Chain, here, further, moves, wants}
use Rattle.walks.specs.Functions.{bits_of, all_values, Point, entry_over_bits, enter_over_bits, function_walk}
use Rattle.generic_code.specs.Literals.{type_of, plain}
use Rattle.walks.specs.Face.{frame_of}
use Rattle.generic_code.specs.Whole.{params_code}
use Rattle.generic_code.proofs.Loads.{Holds, ValuesTyped, width_there, same_width, by_most}
use Rattle.generic_code.proofs.Results.{nothing}
use Rattle.generic_code.proofs.Computes.{some_value}
use Rattle.generic_code.proofs.Calls.{reply_row, number_below}
use Rattle.generic_code.proofs.Steps.{Alike, Fol}

-- ---- the registers of parameters

abbrev pub params_regs : List GType → List Bits → ℕ → List Ty → Registers → Registers
params_regs types args place [] regs = regs
params_regs types args place (ty ∷ tys) regs = params_regs types args (place + 1) tys (write regs place (cut (play.width types place) (slice_index_or args place free)))

written_here : (regs : Registers) (n : ℕ) (a : Bits) → write regs n a n ≡ a
written_here regs n a = let e : (n == n) ≡ true = grind arith in rw e refl

written_above : (regs : Registers) (n k : ℕ) (a : Bits) → k < n → write regs n a k ≡ regs k
written_above regs n k a h = let e : (k == n) ≡ false = grind arith in rw e refl

params_below : (types : List GType) (args : List Bits) (place : ℕ) (tys : List Ty) (regs : Registers) (k : ℕ) → k < place → params_regs types args place tys regs k ≡ regs k
params_below types args place [] regs k h = refl
params_below types args place (ty ∷ tys) regs k h =
    params_below types args (place + 1) tys (write regs place (cut (play.width types place) (slice_index_or args place free))) k (omega (arith, h))
    ∙ written_above regs place k (cut (play.width types place) (slice_index_or args place free)) h

params_at : (types : List GType) (args : List Bits) (place : ℕ) (tys : List Ty) (regs : Registers) (k : ℕ) → k < length tys
    → params_regs types args place tys regs (place + k) ≡ cut (play.width types (place + k)) (slice_index_or args (place + k) free)
params_at types args place [] regs k h = absurd (let bad : ⊥ = omega (arith, h) in bad)
params_at types args place (ty ∷ tys) regs zero h =
    let same : place + 0 ≡ place = omega arith in
    subst (λ (n : ℕ). params_regs types args place (ty ∷ tys) regs n ≡ cut (play.width types n) (slice_index_or args n free)) (sym same)
    (params_below types args (place + 1) tys (write regs place (cut (play.width types place) (slice_index_or args place free))) place (omega arith)
    ∙ written_here regs place (cut (play.width types place) (slice_index_or args place free)))
params_at types args place (ty ∷ tys) regs (suc k) h =
    let same : place + suc k ≡ (place + 1) + k = omega arith in
    subst (λ (n : ℕ). params_regs types args place (ty ∷ tys) regs n ≡ cut (play.width types n) (slice_index_or args n free)) (sym same)
    (params_at types args (place + 1) tys (write regs place (cut (play.width types place) (slice_index_or args place free))) k (omega (arith, h)))

-- ---- the values of an entry

-- an argument's value, and poison behind the parameters
values_at : (tys : List Ty) (as_ : List Bits) (n k : ℕ) → k < length tys
    → (ty : Ty) → slice_get tys k ≡ Some ty → (slice_index_or (all_values (map width tys) as_ ++ replicate n None) k None ≡ number_in (width ty) (slice_index_or as_ k free)) ⊎ (slice_index_or (all_values (map width tys) as_ ++ replicate n None) k None ≡ None)
values_at [] as_ n k h ty e = absurd (let bad : ⊥ = omega (arith, h) in bad)
values_at (t ∷ tys) [] n zero h ty e = inr refl
values_at (t ∷ tys) [] n (suc k) h ty e = by_rest (values_at tys [] n k (omega (arith, h)) ty e)
  where
    by_rest : (slice_index_or (all_values (map width tys) [] ++ replicate n None) k None ≡ number_in (width ty) (slice_index_or [] k free)) ⊎ (slice_index_or (all_values (map width tys) [] ++ replicate n None) k None ≡ None)
        → (slice_index_or (None ∷ (all_values (map width tys) [] ++ replicate n None)) (suc k) None ≡ number_in (width ty) (slice_index_or [] (suc k) free)) ⊎ (slice_index_or (None ∷ (all_values (map width tys) [] ++ replicate n None)) (suc k) None ≡ None)
    by_rest (inl q) = inl q
    by_rest (inr q) = inr q
values_at (t ∷ tys) (a ∷ as_) n zero h ty e = let same : t ≡ ty = cc in inl (ap (λ (z : Ty). number_in (width z) a) same)
values_at (t ∷ tys) (a ∷ as_) n (suc k) h ty e = values_at tys as_ n k (omega (arith, h)) ty e

poison_behind : (tys : List Ty) (as_ : List Bits) (n k : ℕ) → length tys ≤ k → slice_index_or (all_values (map width tys) as_ ++ replicate n None) k None ≡ None
poison_behind [] as_ zero k h = refl
poison_behind [] as_ (suc n) zero h = refl
poison_behind [] as_ (suc n) (suc k) h = poison_behind [] as_ n k (omega arith)
poison_behind (t ∷ tys) as_ n zero h = absurd (let bad : ⊥ = omega (arith, h) in bad)
poison_behind (t ∷ tys) [] n (suc k) h = poison_behind tys [] n k (omega (arith, h))
poison_behind (t ∷ tys) (a ∷ as_) n (suc k) h = poison_behind tys as_ n k (omega (arith, h))

-- a number that is there
there_is : (vs : List Value) (k n : ℕ) → slice_get vs k ≡ Some (Some n) → slice_index_or vs k None ≡ Some n
there_is [] k n e = absurd (let bad : ⊥ = cc in bad)
there_is (v ∷ vs) zero n e = cc
there_is (v ∷ vs) (suc k) n e = there_is vs k n e

front_type : (xs ys : List Ty) (k : ℕ) (ty : Ty) → k < length xs → slice_get (xs ++ ys) k ≡ Some ty → slice_get xs k ≡ Some ty
front_type [] ys k ty h e = absurd (let bad : ⊥ = omega (arith, h) in bad)
front_type (x ∷ xs) ys zero ty h e = e
front_type (x ∷ xs) ys (suc k) ty h e = front_type xs ys k ty (omega (arith, h)) e

args_at : (as_ bs : List Bits) → AllRefine as_ bs → (k : ℕ) → RefinesBits (slice_index_or as_ k free) (slice_index_or bs k free)
args_at [] [] h k = λ i b e. e
args_at [] (b ∷ bs) h k = absurd h
args_at (a ∷ as_) [] h k = absurd h
args_at (a ∷ as_) (b ∷ bs) h zero = h.0
args_at (a ∷ as_) (b ∷ bs) h (suc k) = args_at as_ bs h.1 k

-- ---- steps that lead to a state

abbrev pub Reaches : (f : GFunction) → Step State → State → ℕ → Type 0
Reaches f st s most = (before : Step State) × (w : ℕ) × (j : ℕ) × Chain State (play.step f) st before w j × (before.does ≡ Goes s) × (w + before.weight ≤ most)

pub params_reached : (f : GFunction) (tys : List Ty) (place : ℕ) (s : State) (code : List GInst) (st : Step State) → st.does ≡ Goes (record s { rest = params_code place tys ++ code })
    → Reaches f st (record s { rest = code; regs = params_regs f.types s.args place tys s.regs }) (st.weight + 24 * length tys)
params_reached f [] place s code st e = (st, 0, 0, here, e, omega arith)
params_reached f (ty ∷ tys) place s code st e =
    let param : GInst = plain g.Param (place ∷ []) [] place in
    let next : State = record s { regs = write s.regs place (cut (play.width f.types place) (slice_index_or s.args place free)) } in
    let rest = params_reached f tys (place + 1) next code (play.step f (record s { rest = plain g.Param (place ∷ []) [] place ∷ (params_code (place + 1) tys ++ code) })) refl in
    let low = rest.5 in
    let light = by_most (is_legal f.types (plain g.Param (place ∷ []) [] place)) 12 24 24 (omega arith) (omega arith) in
    (rest.0, st.weight + rest.1, st.jumps + rest.2, further (record s { rest = plain g.Param (place ∷ []) [] place ∷ (params_code (place + 1) tys ++ code) }) e rest.3, rest.4, omega (arith, low, light))

module _ (program : Program) (symbol : ℕ) (function : Function) (there : function_at program symbol ≡ Some function) (f : GFunction)
    (values_is : f.values ≡ value_count function) (end_is : f.end ≡ data_start + program.room) (code : List GInst) (starts : insts_at f 0 ≡ params_code 0 function.params ++ code)
    (typed : ValuesTyped program f (types function) []) (params_typed : (i : ℕ) (ty : Ty) → slice_get function.params i ≡ Some ty → IsValueType ty) (few : length function.params ≤ 8)
    (R : Point program symbol → State → Type 0) (measure : Point program symbol → ℕ) where
  abbrev args_of : Entry → List Value
  args_of a = all_values (map width function.params) a.args

  abbrev first_of : Entry → Activation
  first_of a = record {
    symbol = symbol;
    block = 0;
    place = 0;
    values = first_values function (args_of a);
    entry_length = length a.memory;
    sp = a.sp - frame function;
  }

  abbrev regs_of : Entry → Registers
  regs_of b = params_regs f.types b.args 0 function.params (λ x. free)

  abbrev pub first_after : Entry → State
  first_after b = record { args = b.args; base_length = length b.memory; block = 0; rest = code; regs = regs_of b; memory = b.memory }

  entry_is : (a : Entry) → (enter_over_bits program symbol a).does ≡ entry_over_bits program symbol a.memory (entry_in symbol (args_of a) a.memory a.sp (Some function))
  entry_is a =
      ap (λ (ws : List ℕ). entry_over_bits program symbol a.memory (ir.entry program symbol (all_values ws a.args) a.memory a.sp)) (ap (of_function [] parameter_widths) there)
      ∙ ap (λ (o : Option Function). entry_over_bits program symbol a.memory (entry_in symbol (args_of a) a.memory a.sp o)) there

  -- the values of the parameters, and poison
  known_args : (a b : Entry) → RefinesEntry f.end a b → Holds program f (types function) (first_values function (args_of a)) (regs_of b)
  known_args a b h n ty e = by_place (cases_lt n (length function.params))
    where
      count : ℕ
      count = value_count function - length (args_of a)

      by_place : (n < length function.params) ⊎ (length function.params ≤ n) → RefinesBits (bits_of (width ty) (slice_index_or (args_of a ++ replicate (value_count function - length (args_of a)) None) n None)) (regs_of b n)
      by_place (inr l) =
          subst (λ (v : Value). RefinesBits (bits_of (width ty) v) (regs_of b n)) (sym (poison_behind function.params a.args (value_count function - length (args_of a)) n l)) (nothing (width ty) (regs_of b n))
      by_place (inl l) = by_value (values_at function.params a.args (value_count function - length (args_of a)) n l ty param)
        where
          param : slice_get function.params n ≡ Some ty
          param = front_type function.params (result_types (instructions function.blocks)) n ty l e

          known : RefinesBits (bits_of (width ty) (number_in (width ty) (slice_index_or a.args n free))) (regs_of b n)
          known =
              let w : play.width f.types n ≡ width ty = width_there f.types n (type_of ty) (typed n ty e) ∙ same_width ty (some_value ty (params_typed n ty param)).0 in
              let plus : 0 + n ≡ n = omega arith in
              let is : regs_of b n ≡ cut (play.width f.types n) (slice_index_or b.args n free) =
              subst (λ (k : ℕ). regs_of b k ≡ cut (play.width f.types k) (slice_index_or b.args k free)) plus (params_at f.types b.args 0 function.params (λ x. free) n l) in
              subst (RefinesBits (bits_of (width ty) (number_in (width ty) (slice_index_or a.args n free)))) (sym is)
              (subst (λ (k : ℕ). RefinesBits (bits_of (width ty) (number_in (width ty) (slice_index_or a.args n free))) (cut k (slice_index_or b.args n free))) (sym w)
              (reply_row (width ty) (slice_index_or a.args n free) (slice_index_or b.args n free) (args_at a.args b.args h.args n)))

          by_value : (slice_index_or (args_of a ++ replicate (value_count function - length (args_of a)) None) n None ≡ number_in (width ty) (slice_index_or a.args n free)) ⊎ (slice_index_or (args_of a ++ replicate (value_count function - length (args_of a)) None) n None ≡ None)
              → RefinesBits (bits_of (width ty) (slice_index_or (args_of a ++ replicate (value_count function - length (args_of a)) None) n None)) (regs_of b n)
          by_value (inl q) = subst (λ (v : Value). RefinesBits (bits_of (width ty) v) (regs_of b n)) (sym q) known
          by_value (inr q) = subst (λ (v : Value). RefinesBits (bits_of (width ty) v) (regs_of b n)) (sym q) (nothing (width ty) (regs_of b n))

  -- they have the widths of their types
  args_fit : (a : Entry) → ValuesFit (types function) (first_values function (args_of a))
  args_fit a n ty k e is = by_place (cases_lt n (length function.params))
    where
      value_is : slice_index_or (first_values function (args_of a)) n None ≡ Some k
      value_is = there_is (first_values function (args_of a)) n k is

      by_place : (n < length function.params) ⊎ (length function.params ≤ n) → k < 2 ^ width ty
      by_place (inr l) =
          let none = poison_behind function.params a.args (value_count function - length (args_of a)) n l in
          let bad_same : None ≡ Some k = sym none ∙ value_is in absurd (let bad : ⊥ = cc in bad)
      by_place (inl l) = by_value (values_at function.params a.args (value_count function - length (args_of a)) n l ty (front_type function.params (result_types (instructions function.blocks)) n ty l e))
        where
          by_value : (slice_index_or (args_of a ++ replicate (value_count function - length (args_of a)) None) n None ≡ number_in (width ty) (slice_index_or a.args n free)) ⊎ (slice_index_or (args_of a ++ replicate (value_count function - length (args_of a)) None) n None ≡ None) → k < 2 ^ width ty
          by_value (inl q) = number_below (width ty) (slice_index_or a.args n free) k (sym q ∙ value_is)
          by_value (inr q) = let bad_same : None ≡ Some k = sym q ∙ value_is in absurd (let bad : ⊥ = cc in bad)

  pub first_alike : (a b : Entry) → RefinesEntry f.end a b → Alike program symbol function there f (first_of a) a.memory (first_after b)
  first_alike a b h =
      let top_low = h.room in
      record {
        symbol' = refl;
        base = h.memory.long;
        block = refl;
        memory' = h.memory;
        bytes = all-of a.memory h.bytes;
        room = omega (arith, top_low, end_is);
        fit = args_fit a;
        holds = known_args a b h;
      }

  -- the entry, and the parameters
  pub follows_entry : (a b : Entry) (m : ℕ) → RefinesEntry f.end a b → R (first_of a, a.memory) (first_after b)
      → Fol program symbol function there f R measure m ((function_walk program symbol).enter a) (play.enter f b)
  follows_entry a b m h related = by_depth (nat_lt a.sp (stack_start + frame function)) refl
    where
      same_depth : (deep : Bool) → nat_lt a.sp (stack_start + frame function) ≡ deep → nat_lt b.sp (stack_start + frame_of f.values) ≡ deep
      same_depth deep e = ap (λ (k : ℕ). nat_lt b.sp (stack_start + frame_of k)) values_is ∙ ap (λ (k : ℕ). nat_lt k (stack_start + frame function)) h.sp ∙ e

      does : (deep : Bool) → nat_lt a.sp (stack_start + frame function) ≡ deep → ((function_walk program symbol).enter a).does ≡ entry_over_bits program symbol a.memory (if deep then ir.TooDeep else ir.Opens (first_of a))
      does deep e = entry_is a ∙ ap (λ (d : Bool). entry_over_bits program symbol a.memory (if d then ir.TooDeep else ir.Opens (first_of a))) e

      does_too : (deep : Bool) → nat_lt a.sp (stack_start + frame function) ≡ deep → (play.enter f b).does ≡ (if deep then Wants else Goes (play.first f b))
      does_too deep e = ap (λ (d : Bool). if d then Wants else Goes (play.first f b)) (same_depth deep e)

      by_depth : (deep : Bool) → nat_lt a.sp (stack_start + frame function) ≡ deep → Fol program symbol function there f R measure m ((function_walk program symbol).enter a) (play.enter f b)
      by_depth true e = wants (does true e) here (does_too true e) (omega arith) (omega arith)
      by_depth false e =
          let start : State = record { args = b.args; base_length = length b.memory; block = 0; rest = []; regs = λ x. free; memory = b.memory } in
          let goes_first = does_too false e ∙ ap (λ (rest : List GInst). Goes (record { args = b.args; base_length = length b.memory; block = 0; rest = rest; regs = λ x. free; memory = b.memory })) starts in
          let q = params_reached f function.params 0 (record { args = b.args; base_length = length b.memory; block = 0; rest = []; regs = λ x. free; memory = b.memory }) code (play.enter f b) goes_first in
          let low = q.5 in
          moves (first_of a, a.memory) (first_after b) (does false e) q.3 q.4 related (omega (arith, low, few)) (omega arith)
