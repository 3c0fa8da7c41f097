-- The walk of a function over bits is its play.
use Rattle.std.specs.Prelude.{◌≡◌, ◌≢◌, ℕ, zero, suc, ◌+◌, ◌-◌, ◌*◌, ◌<◌, ◌≤◌, Bool, true, false, nat_lt, List, [], ◌∷◌, ◌++◌, map, slice_get, Option, Some, None, refl}
use Rattle.std.proofs.Common.{arith, sym, ◌∙◌, ap, subst}
use Rattle.std.proofs.lemmas.Bool.{ltb-false}
use Rattle.std.proofs.Math.Nat.{mod-eq_of_lt}
use Rattle.ir_core.specs.Program.{Program}
use Rattle.ir_core.specs.declared.types.Ty.{Ty}
use Rattle.ir_core.specs.declared.types.Ty.TheVariants.{Void, Int, Ptr}
use Rattle.ir_core.specs.declared.program.Function.{Function}
use Rattle.ir_meaning.specs.declared.activation.Activation.{Activation}
use Rattle.ir_meaning.specs.declared.calls.Reply.{Reply as IrReply}
use Rattle.ir_meaning.specs.Value.{Value}
use Rattle.ir_meaning.specs.Memory.{Memory}
use Rattle.ir_meaning.specs.Walk as ir
use Rattle.ir_meaning.specs.Step.{step, entry, entry_units, answered, walker, function_at}
use Rattle.ir_meaning.specs.Play.{PlayEnd, Overflows, NotEnded, Undefined, play_on, play_after, play_entry}
use Rattle.ir_meaning.specs.Plays.{Meaning, Invocation, play_of}
use Rattle.ir_meaning.specs.Operators.{width}
use Rattle.ir_meaning.specs.Meaning.{meaning, of_function, parameter_widths, result_width}
use Rattle.ir_meaning.specs.Typed.{IsTyped, IsValueType, IsResultType}
use Rattle.ir_meaning.specs.Ranges.{IsInvocation, IsReply, AreArgs, FitsWidth, FitsResult, Answers}
use Rattle.ir_meaning.proofs.Steps.{step-costs}
use Rattle.ir_meaning.proofs.Plays.{playing, playing-paid, paid, unpaid, play-paid, play-unpaid}
use Rattle.ir_meaning.proofs.Bridge.{Arrives, at_step, arrives_next, arrives_behind, entered}
use Rattle.ir_meaning.proofs.Ranges.{is-meaning}
use Rattle.walks.specs.Walk.{Bits, Reply, Entry, Does, Goes, Asks, Gives, Wants, Breaks, Step, End, Ends, returns, overflows, breaks, calls, goes, answered as answered_end}
use Rattle.walks.specs.Walk as walks
use Rattle.walks.specs.Bits.{free, number}
use Rattle.walks.specs.Functions.{bits_of, value_of, all_bits, all_values, result_bits, result_value, Point, resumed, does_over_bits, entry_over_bits, enter_over_bits, function_walk, entry_of, AreAnswers, replies_of, end_of, IsPlayOf}
use Rattle.walks.specs.Laws.{WalksArePlays}
use Rattle.walks.proofs.Numbers.{number_constant}

-- ---- a value is told from its bits

free_number : (w : ℕ) → 0 < w → number w free ≡ None
free_number zero h = absurd (let bad : ⊥ = omega arith in bad)
free_number (suc zero) h = refl
free_number (suc (suc w)) h = rw (free_number (suc w) (omega arith)) refl

pub value_back : (w : ℕ) (v : Value) → 0 < w → FitsWidth w v → value_of w (bits_of w v) ≡ v
value_back w None some h = free_number w some
value_back w (Some n) some h = number_constant w w n (omega arith) ∙ ap Some (mod-eq_of_lt h)

-- every width of the list is of a bit or more
abbrev AllPositive : List ℕ → Type 0
AllPositive [] = Unit {0}
AllPositive (w ∷ ws) = (0 < w) × AllPositive ws

values_back : (ws : List ℕ) (vs : List Value) → AllPositive ws → AreArgs ws vs → all_values ws (all_bits ws vs) ≡ vs
values_back [] [] some h = refl
values_back [] (v ∷ vs) some h = absurd h
values_back (w ∷ ws) [] some h = absurd h
values_back (w ∷ ws) (v ∷ vs) some h = rw (value_back w v some.0 h.0, values_back ws vs some.1 h.1) refl

result_back : (o : Option ℕ) (v : Value) → ((w : ℕ) → o ≡ Some w → 0 < w) → FitsResult o v → result_value o (result_bits o v) ≡ v
result_back None v some h = sym h
result_back (Some w) v some h = value_back w v (some w refl) h

width_positive : (ty : Ty) → IsValueType ty → 0 < width ty
width_positive Void h = absurd h
width_positive (Int w) h = let low = h.0 in omega (arith, low)
width_positive Ptr h = omega arith

widths_positive : (tys : List Ty) → ((i : ℕ) (ty : Ty) → slice_get tys i ≡ Some ty → IsValueType ty) → AllPositive (map width tys)
widths_positive [] h = tt
widths_positive (ty ∷ tys) h = (width_positive ty (h 0 ty refl), widths_positive tys (λ i. h (suc i)))

result_positive : (ty : Ty) (w : ℕ) → IsResultType ty → result_width ty ≡ Some w → 0 < w
result_positive Void w h e = absurd (let bad : ⊥ = cc in bad)
result_positive (Int v) w h e = let low = h.0 in let same : v ≡ w = cc in omega (arith, low, same)
result_positive Ptr w h e = let same : 64 ≡ w = cc in omega (arith, same)

module _ (program : Program) (typed : IsTyped program) where
  abbrev m : Meaning
  m = meaning program

  parameters_positive : (symbol : ℕ) → AllPositive (m.parameters symbol)
  parameters_positive symbol = by_function (function_at program symbol) refl
    where
      by_function : (o : Option Function) → function_at program symbol ≡ o → AllPositive (of_function [] parameter_widths o)
      by_function None e = tt
      by_function (Some function) e = widths_positive function.params ((typed.typed symbol function e).params)

  results_positive : (symbol w : ℕ) → m.result symbol ≡ Some w → 0 < w
  results_positive symbol w = by_function (function_at program symbol) refl
    where
      by_function : (o : Option Function) → function_at program symbol ≡ o → of_function None (λ (f : Function). result_width f.ret) o ≡ Some w → 0 < w
      by_function None e h = absurd (let bad : ⊥ = cc in bad)
      by_function (Some function) e h = result_positive function.ret w ((typed.typed symbol function e).ret) h

  module _ (a : Invocation) where
    abbrev P : Type 0
    P = Point program a.symbol

    abbrev next_step : P → Step P
    next_step = (function_walk program a.symbol).step

    -- what is left of a play from a state on
    abbrev Found : ℕ → List IrReply → List ℕ → Activation → Memory → End → Type 0
    Found left rs callees now here e =
        (w : ℕ) × (j : ℕ) × Ends P next_step (next_step (now, here)) (replies_of m rs callees) e w j × (w ≤ 256 * left)

    -- the play goes on from there, by so many steps at most
    abbrev FromThere : ℕ → Type 0
    FromThere n =
        (left spent : ℕ) (before rs : List IrReply) (callees : List ℕ) (now : Activation) (here : Memory) (e : End)
        → Arrives program a spent before now here → AreAnswers m a before rs callees
        → end_of m a.symbol (play_on (walker program) n left rs now here) ≡ Some e → Found left rs callees now here e

    -- the state behind a call
    resumes : (callee : ℕ) (now : Activation) (reply : IrReply) → FitsResult (m.result callee) reply.value
        → resumed program a.symbol callee now (record { value = result_bits (m.result callee) reply.value; memory = reply.memory }) ≡ (answered program now reply.value, reply.memory)
    resumes callee now reply fits = rw (result_back (m.result callee) reply.value (results_positive callee) fits) refl

    -- where it stands, by the calls that follow
    found_call : (n left spent u : ℕ) (before rs : List IrReply) (callees : List ℕ) (now : Activation) (here : Memory) (e : End) (callee : ℕ) (given : List Value)
        → FromThere n → u ≡ (step program now here).units → u ≤ left → Arrives program a spent before now here → AreAnswers m a before rs callees
        → (step program now here).does ≡ ir.Calls callee given
        → end_of m a.symbol (play_after (walker program) (play_on (walker program) n) (left - u) rs now here (ir.Calls callee given)) ≡ Some e
        → Found left rs callees now here e
    found_call n left spent u before [] [] now here e callee given ih is le arrives answers d h =
        let same : walks.Calls callee (all_bits (m.parameters callee) given) here ≡ e = cc in (
          256 * (step program now here).units,
          (step program now here).jumps,
          subst (λ (z : End). Ends P next_step (next_step (now, here)) [] z (256 * (step program now here).units) (step program now here).jumps) same
              (calls callee (all_bits (m.parameters callee) given) here (resumed program a.symbol callee now) (ap (does_over_bits program a.symbol now here) d)),
          omega (arith, is, le),
        )
    found_call n left spent u before [] (c ∷ cs) now here e callee given ih is le arrives answers d h = absurd answers
    found_call n left spent u before (r ∷ rs) [] now here e callee given ih is le arrives answers d h = absurd answers
    found_call n left spent u before (r ∷ rs) (c ∷ cs) now here e callee given ih is le arrives answers d h =
        let at = answers.0 (spent + (step program now here).units) callee given here (at_step program a spent before now here (ir.Calls callee given) arrives d) in
        let fits : FitsResult (m.result callee) r.value = subst (λ (z : ℕ). FitsResult (m.result z) r.value) (sym at.0) at.1.value in
        let state = resumes callee now r fits in
        let q = ih (left - u) (spent + (step program now here).units) (before ++ r ∷ []) rs cs (answered program now r.value) r.memory e
        (arrives_behind program a spent before now here callee given r arrives d) answers.1 h in
        let low = q.3 in (
          256 * (step program now here).units + q.0,
          (step program now here).jumps + q.1,
          subst (λ (z : ℕ). Ends P next_step (next_step (now, here)) (record { value = result_bits (m.result z) r.value; memory = r.memory } ∷ replies_of m rs cs) e
              (256 * (step program now here).units + q.0) ((step program now here).jumps + q.1)) at.0
              (answered_end callee (all_bits (m.parameters callee) given) here (resumed program a.symbol callee now)
              (record { value = result_bits (m.result callee) r.value; memory = r.memory }) (ap (does_over_bits program a.symbol now here) d)
              (subst (λ (z : P). Ends P next_step (next_step z) (replies_of m rs cs) e q.0 q.1) (sym state) q.2)),
          omega (arith, is, le, low),
        )

    found_after : (n left spent u : ℕ) (before rs : List IrReply) (callees : List ℕ) (now : Activation) (here : Memory) (e : End) (does : ir.Does Value Activation)
        → FromThere n → u ≡ (step program now here).units → u ≤ left → Arrives program a spent before now here → AreAnswers m a before rs callees
        → (step program now here).does ≡ does
        → end_of m a.symbol (play_after (walker program) (play_on (walker program) n) (left - u) rs now here does) ≡ Some e
        → Found left rs callees now here e
    found_after n left spent u before rs callees now here e (ir.Goes next after) ih is le arrives answers d h =
        let q = ih (left - u) (spent + (step program now here).units) before rs callees next after e
        (arrives_next program a spent before now next here after arrives d) answers h in
        let low = q.3 in (
          256 * (step program now here).units + q.0,
          (step program now here).jumps + q.1,
          goes (next, after) (ap (does_over_bits program a.symbol now here) d) q.2,
          omega (arith, is, le, low),
        )
    found_after n left spent u before rs callees now here e (ir.Calls callee given) ih is le arrives answers d h =
        found_call n left spent u before rs callees now here e callee given ih is le arrives answers d h
    found_after n left spent u before rs callees now here e (ir.Returns value after) ih is le arrives answers d h =
        let same : walks.Returns (result_bits (m.result a.symbol) value) after ≡ e = cc in (
          256 * (step program now here).units,
          (step program now here).jumps,
          subst (λ (z : End). Ends P next_step (next_step (now, here)) (replies_of m rs callees) z (256 * (step program now here).units) (step program now here).jumps) same
              (returns (result_bits (m.result a.symbol) value) after (ap (does_over_bits program a.symbol now here) d)),
          omega (arith, is, le),
        )
    found_after n left spent u before rs callees now here e ir.Overflows ih is le arrives answers d h =
        let same : walks.Overflows ≡ e = cc in (
          256 * (step program now here).units,
          (step program now here).jumps,
          subst (λ (z : End). Ends P next_step (next_step (now, here)) (replies_of m rs callees) z (256 * (step program now here).units) (step program now here).jumps) same
              (overflows (ap (does_over_bits program a.symbol now here) d)),
          omega (arith, is, le),
        )
    found_after n left spent u before rs callees now here e ir.Breaks ih is le arrives answers d h =
        let same : walks.Undefined ≡ e = cc in (
          256 * (step program now here).units,
          (step program now here).jumps,
          subst (λ (z : End). Ends P next_step (next_step (now, here)) (replies_of m rs callees) z (256 * (step program now here).units) (step program now here).jumps) same
              (breaks (ap (does_over_bits program a.symbol now here) d)),
          omega (arith, is, le),
        )

    found_there : (n : ℕ) → FromThere n
    found_there zero left spent before rs callees now here e arrives answers h = absurd (let bad : ⊥ = cc in bad)
    found_there (suc n) left spent before rs callees now here e arrives answers h = by_test (found_there n) (nat_lt left (step program now here).units) refl
      where
        by_test : FromThere n → (short : Bool) → nat_lt left (step program now here).units ≡ short → Found left rs callees now here e
        by_test ih true t =
            let none : end_of m a.symbol NotEnded ≡ Some e = subst (λ (z : PlayEnd). end_of m a.symbol z ≡ Some e) (unpaid (walker program) (play_on (walker program) n) left rs now here (step program now here) t) h in
            absurd (let bad : ⊥ = cc in bad)
        by_test ih false t =
            found_after n left spent (step program now here).units before rs callees now here e (step program now here).does ih refl (ltb-false _ _ t) arrives answers refl
            (subst (λ (z : PlayEnd). end_of m a.symbol z ≡ Some e) (paid (walker program) (play_on (walker program) n) left rs now here (step program now here) t) h)

    -- ---- where the walk has ended, the play has

    abbrev HasEnded : List IrReply → Activation → Memory → Type 0
    HasEnded rs now here = (left : ℕ) × (playing (walker program) left rs now here ≢ NotEnded)

    -- one step more
    ended_later : (rs rs' : List IrReply) (now next : Activation) (here after : Memory)
        → ((left : ℕ) → play_after (walker program) (playing (walker program)) left rs now here (step program now here).does ≡ playing (walker program) left rs' next after)
        → HasEnded rs' next after → HasEnded rs now here
    ended_later rs rs' now next here after h (left, over) =
        let more : (step program now here).units + left - (step program now here).units ≡ left = omega arith in
        let same : playing (walker program) ((step program now here).units + left) rs now here ≡ playing (walker program) left rs' next after =
        playing-paid (walker program) (step-costs program) ((step program now here).units + left) rs now here (omega arith)
        ∙ ap (λ (k : ℕ). play_after (walker program) (playing (walker program)) k rs now here (step program now here).does) more
        ∙ h left in
        ((step program now here).units + left, λ e. over (sym same ∙ e))

    -- no step more
    ended_here : (rs : List IrReply) (now : Activation) (here : Memory)
        → (play_after (walker program) (playing (walker program)) 0 rs now here (step program now here).does ≢ NotEnded) → HasEnded rs now here
    ended_here rs now here over =
        let more : (step program now here).units - (step program now here).units ≡ 0 = omega arith in
        let same : playing (walker program) (step program now here).units rs now here ≡ play_after (walker program) (playing (walker program)) 0 rs now here (step program now here).does =
        playing-paid (walker program) (step-costs program) (step program now here).units rs now here (omega arith)
        ∙ ap (λ (k : ℕ). play_after (walker program) (playing (walker program)) k rs now here (step program now here).does) more in
        ((step program now here).units, λ e. over (sym same ∙ e))

    -- what a state's step does, by what it does over bits
    abbrev DoesGo : Activation → Memory → P → Type 0
    DoesGo now here s = (step program now here).does ≡ ir.Goes s.0 s.1

    going : (now : Activation) (here : Memory) (s : P) (does : ir.Does Value Activation) → (step program now here).does ≡ does
        → does_over_bits program a.symbol now here does ≡ Goes s → DoesGo now here s
    going now here s (ir.Goes next after) d e = let same : (next, after) ≡ s = cc in d ∙ ap (λ (z : P). ir.Goes z.0 z.1) same
    going now here s (ir.Calls callee given) d e = absurd (let bad : ⊥ = cc in bad)
    going now here s (ir.Returns value after) d e = absurd (let bad : ⊥ = cc in bad)
    going now here s ir.Overflows d e = absurd (let bad : ⊥ = cc in bad)
    going now here s ir.Breaks d e = absurd (let bad : ⊥ = cc in bad)

    -- it calls, or doesn't go on and doesn't ask
    abbrev Asking : Activation → Memory → ℕ → (Reply → P) → Type 0
    Asking now here callee next = (given : List Value) × ((step program now here).does ≡ ir.Calls callee given) × (next ≡ resumed program a.symbol callee now)

    asking : (now : Activation) (here : Memory) (callee : ℕ) (args : List Bits) (memory : Memory) (next : Reply → P) (does : ir.Does Value Activation) → (step program now here).does ≡ does
        → does_over_bits program a.symbol now here does ≡ Asks callee args memory next → Asking now here callee next
    asking now here callee args memory next (ir.Calls g given) d e =
        let same : g ≡ callee = cc in
        (given, d ∙ ap (λ (z : ℕ). ir.Calls z given) same, (let is : resumed program a.symbol g now ≡ next = cc in sym is ∙ ap (λ (z : ℕ). resumed program a.symbol z now) same))
    asking now here callee args memory next (ir.Goes s after) d e = absurd (let bad : ⊥ = cc in bad)
    asking now here callee args memory next (ir.Returns value after) d e = absurd (let bad : ⊥ = cc in bad)
    asking now here callee args memory next ir.Overflows d e = absurd (let bad : ⊥ = cc in bad)
    asking now here callee args memory next ir.Breaks d e = absurd (let bad : ⊥ = cc in bad)

    -- a step that ends or asks, where there is no further reply
    abbrev Stops : Does P → Type 0
    Stops (Goes s) = ⊥
    Stops _ = Unit {0}

    stops_asking : (rs : List IrReply) (now : Activation) (here : Memory) (does : ir.Does Value Activation) → rs ≡ [] → (step program now here).does ≡ does
        → Stops (does_over_bits program a.symbol now here does) → play_after (walker program) (playing (walker program)) 0 rs now here (step program now here).does ≢ NotEnded
    stops_asking rs now here (ir.Goes s after) none d h = absurd h
    stops_asking rs now here (ir.Calls g given) none d h = rw (d, none) (λ e. let bad : ⊥ = cc in bad)
    stops_asking rs now here (ir.Returns value after) none d h = rw d (λ e. let bad : ⊥ = cc in bad)
    stops_asking rs now here ir.Overflows none d h = rw d (λ e. let bad : ⊥ = cc in bad)
    stops_asking rs now here ir.Breaks none d h = rw d (λ e. let bad : ⊥ = cc in bad)

    abbrev Halts : Does P → Type 0
    Halts (Goes s) = ⊥
    Halts (Asks g args memory next) = ⊥
    Halts _ = Unit {0}

    halts : (rs : List IrReply) (now : Activation) (here : Memory) (does : ir.Does Value Activation) → (step program now here).does ≡ does
        → Halts (does_over_bits program a.symbol now here does) → play_after (walker program) (playing (walker program)) 0 rs now here (step program now here).does ≢ NotEnded
    halts rs now here (ir.Goes s after) d h = absurd h
    halts rs now here (ir.Calls g given) d h = absurd h
    halts rs now here (ir.Returns value after) d h = rw d (λ e. let bad : ⊥ = cc in bad)
    halts rs now here ir.Overflows d h = rw d (λ e. let bad : ⊥ = cc in bad)
    halts rs now here ir.Breaks d h = rw d (λ e. let bad : ⊥ = cc in bad)

    -- no reply is left where none is over bits
    none_left : (before rs : List IrReply) (callees : List ℕ) → AreAnswers m a before rs callees → [] ≡ replies_of m rs callees → rs ≡ []
    none_left before [] callees answers e = refl
    none_left before (r ∷ rs) [] answers e = absurd answers
    none_left before (r ∷ rs) (c ∷ cs) answers e = absurd (let bad : ⊥ = cc in bad)

    does_over : (st : Step P) (now : Activation) (here : Memory) → st ≡ next_step (now, here) → {d : Does P} → st.does ≡ d
        → does_over_bits program a.symbol now here (step program now here).does ≡ d
    does_over st now here is h = ap (λ (z : Step P). z.does) (sym is) ∙ h

    goes_same : (s s' : P) → Goes s ≡ Goes s' → s ≡ s'
    goes_same s s' e = cc

    -- where the walk ended from a state, the play does
    abbrev EndedFrom : Step P → List Reply → Type 0
    EndedFrom st qs =
        (spent : ℕ) (before rs : List IrReply) (callees : List ℕ) (now : Activation) (here : Memory) → st ≡ next_step (now, here) → qs ≡ replies_of m rs callees
        → Arrives program a spent before now here → AreAnswers m a before rs callees → HasEnded rs now here

    ended_call : (st : Step P) (callee : ℕ) (args : List Bits) (memory : Memory) (next : Reply → P) (q : Reply) (qs : List Reply)
        → st.does ≡ Asks callee args memory next → EndedFrom (next_step (next q)) qs → EndedFrom st (q ∷ qs)
    ended_call st callee args memory next q qs h ih spent before [] callees now here is same arrives answers = absurd (let bad : ⊥ = cc in bad)
    ended_call st callee args memory next q qs h ih spent before (r ∷ rs) [] now here is same arrives answers = absurd answers
    ended_call st callee args memory next q qs h ih spent before (r ∷ rs) (c ∷ cs) now here is same arrives answers =
        let asks = asking now here callee args memory next (step program now here).does refl (does_over st now here is h) in
        let at = answers.0 (spent + (step program now here).units) callee asks.0 here (at_step program a spent before now here (ir.Calls callee asks.0) arrives asks.1) in
        let fits : FitsResult (m.result callee) r.value = subst (λ (z : ℕ). FitsResult (m.result z) r.value) (sym at.0) at.1.value in
        let reply : q ≡ record { value = result_bits (m.result c) r.value; memory = r.memory } = cc in
        let tail : qs ≡ replies_of m rs cs = cc in
        let state : next q ≡ (answered program now r.value, r.memory) =
        ap next (reply ∙ ap (λ (z : ℕ). record { value = result_bits (m.result z) r.value; memory = r.memory }) (sym at.0))
        ∙ ap (λ (f : Reply → P). f (record { value = result_bits (m.result callee) r.value; memory = r.memory })) asks.2
        ∙ resumes callee now r fits in
        ended_later (r ∷ rs) rs now (answered program now r.value) here r.memory
        (λ left. rw asks.1 refl)
        (ih (spent + (step program now here).units) (before ++ r ∷ []) rs cs (answered program now r.value) r.memory (ap next_step state) tail
        (arrives_behind program a spent before now here callee asks.0 r arrives asks.1) answers.1)

    ended_there : {st : Step P} {qs : List Reply} {e : End} {w j : ℕ} → Ends P next_step st qs e w j → EndedFrom st qs
    ended_there (returns {st = st} value memory h) spent before rs callees now here is same arrives answers =
        ended_here rs now here (halts rs now here (step program now here).does refl (subst Halts (sym (does_over st now here is h)) tt))
    ended_there (overflows {st = st} h) spent before rs callees now here is same arrives answers =
        ended_here rs now here (halts rs now here (step program now here).does refl (subst Halts (sym (does_over st now here is h)) tt))
    ended_there (breaks {st = st} h) spent before rs callees now here is same arrives answers =
        ended_here rs now here (halts rs now here (step program now here).does refl (subst Halts (sym (does_over st now here is h)) tt))
    ended_there (calls {st = st} symbol args memory next h) spent before rs callees now here is same arrives answers =
        ended_here rs now here (stops_asking rs now here (step program now here).does (none_left before rs callees answers same) refl (subst Stops (sym (does_over st now here is h)) tt))
    ended_there (goes {st = st} s h rest) spent before rs callees now here is same arrives answers =
        let d = going now here s (step program now here).does refl (does_over st now here is h) in
        ended_later rs rs now s.0 here s.1 (λ left. rw d refl)
        (ended_there rest (spent + (step program now here).units) before rs callees s.0 s.1 refl same (arrives_next program a spent before now s.0 here s.1 arrives d) answers)
    ended_there (answered_end {st = st} {rs = qs} symbol args memory next q h rest) spent before rs callees now here is same arrives answers =
        ended_call st symbol args memory next q qs h (ended_there rest) spent before rs callees now here is same arrives answers

    -- ---- from the entry

    module _ (is : IsInvocation m a) where
      entry_same : entry program a.symbol (all_values (m.parameters a.symbol) (entry_of m a).args) a.memory a.sp ≡ entry program a.symbol a.args a.memory a.sp
      entry_same = ap (λ (vs : List Value). entry program a.symbol vs a.memory a.sp) (values_back (m.parameters a.symbol) a.args (parameters_positive a.symbol) is.args)

      abbrev enter : Step P
      enter = enter_over_bits program a.symbol (entry_of m a)

      enters : (x : ir.Entry Activation) → entry program a.symbol a.args a.memory a.sp ≡ x → enter.does ≡ entry_over_bits program a.symbol a.memory x
      enters x e = ap (entry_over_bits program a.symbol a.memory) (entry_same ∙ e)

      found_entry : (units : ℕ) (rs : List IrReply) (callees : List ℕ) (e : End) (x : ir.Entry Activation) → entry_units ≤ units → entry program a.symbol a.args a.memory a.sp ≡ x
          → AreAnswers m a [] rs callees
          → end_of m a.symbol (play_entry (walker program) (play_on (walker program) units) (units - entry_units) rs a.memory x) ≡ Some e
          → (w : ℕ) × (j : ℕ) × Ends P next_step enter (replies_of m rs callees) e w j × (w ≤ 256 * units)
      found_entry units rs callees e (ir.Opens first) le x answers h =
          let q = found_there units (units - entry_units) 2 [] rs callees first a.memory e (entered program a first x) answers h in
          let low = q.3 in
          (256 * entry_units + q.0, 0 + q.1, goes (first, a.memory) (enters (ir.Opens first) x) q.2, omega (arith, le, low))
      found_entry units rs callees e ir.TooDeep le x answers h =
          let same : walks.Overflows ≡ e = cc in
          (256 * entry_units, 0, subst (λ (z : End). Ends P next_step enter (replies_of m rs callees) z (256 * entry_units) 0) same (overflows (enters ir.TooDeep x)), omega (arith, le))
      found_entry units rs callees e ir.NoFunction le x answers h =
          let same : walks.Undefined ≡ e = cc in
          (256 * entry_units, 0, subst (λ (z : End). Ends P next_step enter (replies_of m rs callees) z (256 * entry_units) 0) same (breaks (enters ir.NoFunction x)), omega (arith, le))

      found : (units : ℕ) (rs : List IrReply) (callees : List ℕ) (e : End) → AreAnswers m a [] rs callees → end_of m a.symbol (play_of m a rs units) ≡ Some e
          → (w : ℕ) × (j : ℕ) × Ends P next_step enter (replies_of m rs callees) e w j × (w ≤ 256 * units)
      found units rs callees e answers h = by_test (nat_lt units entry_units) refl
        where
          by_test : (short : Bool) → nat_lt units entry_units ≡ short → (w : ℕ) × (j : ℕ) × Ends P next_step enter (replies_of m rs callees) e w j × (w ≤ 256 * units)
          by_test true t =
              let none : end_of m a.symbol NotEnded ≡ Some e = subst (λ (z : PlayEnd). end_of m a.symbol z ≡ Some e) (play-unpaid (walker program) a.symbol a.args a.memory a.sp rs units t) h in
              absurd (let bad : ⊥ = cc in bad)
          by_test false t =
              found_entry units rs callees e (entry program a.symbol a.args a.memory a.sp) (ltb-false _ _ t) refl answers
              (subst (λ (z : PlayEnd). end_of m a.symbol z ≡ Some e) (play-paid (walker program) a.symbol a.args a.memory a.sp rs units t) h)

      abbrev PlayEnds : List IrReply → Type 0
      PlayEnds rs = (units : ℕ) × (play_of m a rs units ≢ NotEnded)

      -- an entry that doesn't open has ended
      ended_entry : (rs : List IrReply) (x : ir.Entry Activation) → entry program a.symbol a.args a.memory a.sp ≡ x
          → ((first : Activation) → x ≡ ir.Opens first → HasEnded rs first a.memory) → PlayEnds rs
      ended_entry rs (ir.Opens first) x h =
          let q = h first refl in
          (2 + q.0, λ e. q.1 (sym (entered program a first x rs q.0) ∙ e))
      ended_entry rs ir.TooDeep x h =
          let same = play-paid (walker program) a.symbol a.args a.memory a.sp rs 2 refl ∙ ap (λ (z : ir.Entry Activation). play_entry (walker program) (play_on (walker program) 2) 0 rs a.memory z) x in
          (2, λ e. let no_end : Overflows ≡ NotEnded = sym same ∙ e in let bad : ⊥ = cc in bad)
      ended_entry rs ir.NoFunction x h =
          let same = play-paid (walker program) a.symbol a.args a.memory a.sp rs 2 refl ∙ ap (λ (z : ir.Entry Activation). play_entry (walker program) (play_on (walker program) 2) 0 rs a.memory z) x in
          (2, λ e. let no_end : Undefined ≡ NotEnded = sym same ∙ e in let bad : ⊥ = cc in bad)

      -- where the walk ended from its entry, the play has ended
      opened : (st : Step P) (d : Does P) (first : Activation) → st ≡ enter → st.does ≡ d → entry program a.symbol a.args a.memory a.sp ≡ ir.Opens first → Goes (first, a.memory) ≡ d
      opened st d first same h x = sym (enters (ir.Opens first) x) ∙ ap (λ (z : Step P). z.does) (sym same) ∙ h

      ended_enter : {st : Step P} {qs : List Reply} {e : End} {w j : ℕ} → Ends P next_step st qs e w j → (rs : List IrReply) (callees : List ℕ) → st ≡ enter
          → qs ≡ replies_of m rs callees → AreAnswers m a [] rs callees → (first : Activation) → entry program a.symbol a.args a.memory a.sp ≡ ir.Opens first → HasEnded rs first a.memory
      ended_enter (returns {st = st} value memory h) rs callees is_enter same answers first x = absurd (let one = opened st (Gives value memory) first is_enter h x in let bad : ⊥ = cc in bad)
      ended_enter (overflows {st = st} h) rs callees is_enter same answers first x = absurd (let one = opened st Wants first is_enter h x in let bad : ⊥ = cc in bad)
      ended_enter (breaks {st = st} h) rs callees is_enter same answers first x = absurd (let one = opened st Breaks first is_enter h x in let bad : ⊥ = cc in bad)
      ended_enter (calls {st = st} symbol args memory next h) rs callees is_enter same answers first x =
          absurd (let one = opened st (Asks symbol args memory next) first is_enter h x in let bad : ⊥ = cc in bad)
      ended_enter (goes {st = st} s h rest) rs callees is_enter same answers first x =
          let one : (first, a.memory) ≡ s = goes_same (first, a.memory) s (opened st (Goes s) first is_enter h x) in
          ended_there rest 2 [] rs callees first a.memory (ap next_step (sym one)) same (entered program a first x) answers
      ended_enter (answered_end {st = st} symbol args memory next q h rest) rs callees is_enter same answers first x =
          absurd (let one = opened st (Asks symbol args memory next) first is_enter h x in let bad : ⊥ = cc in bad)

      ended : (rs : List IrReply) (callees : List ℕ) (e : End) (w j : ℕ) → AreAnswers m a [] rs callees → Ends P next_step enter (replies_of m rs callees) e w j → PlayEnds rs
      ended rs callees e w j answers h =
          ended_entry rs (entry program a.symbol a.args a.memory a.sp) refl (λ first x. ended_enter h rs callees refl refl answers first x)

  -- replies with the symbols of their calls are replies
  answers_of : (a : Invocation) (before rs : List IrReply) (callees : List ℕ) → AreAnswers m a before rs callees → Answers m a before rs
  answers_of a before [] callees h = tt
  answers_of a before (r ∷ rs) [] h = absurd h
  answers_of a before (r ∷ rs) (c ∷ cs) h =
      (λ t symbol args memory e. let q = h.0 t symbol args memory e in subst (λ (z : ℕ). IsReply m z memory r) (sym q.0) q.1, answers_of a (before ++ r ∷ []) rs cs h.1)

  is_play : (symbol : ℕ) → IsPlayOf m symbol (walks.play_of (function_walk program symbol))
  is_play symbol = record {
    ends = λ a rs callees units e own is answers h.
        let h' : end_of m a.symbol (play_of m a rs units) ≡ Some e = subst (λ (z : ℕ). end_of m z (play_of m a rs units) ≡ Some e) (sym own) h in
        subst (λ (z : ℕ). (w : ℕ) × (j : ℕ) × walks.play_of (function_walk program z) (entry_of m a) (replies_of m rs callees) e w j × (w ≤ 256 * units)) own
        (found a is units rs callees e answers h');
    ended = λ a rs callees e w j own is answers h.
        ended a is rs callees e w j answers (subst (λ (z : ℕ). walks.play_of (function_walk program z) (entry_of m a) (replies_of m rs callees) e w j) (sym own) h);
    arguments = λ a rs callees units callee args memory is answers h.
        ((is-meaning program typed).calls a rs units callee args memory is (answers_of a [] rs callees answers) h).1;
    results = λ a rs callees units value memory is answers h.
        ((is-meaning program typed).returns a rs units value memory is (answers_of a [] rs callees answers) h).0;
  }

pub walks_are_plays : WalksArePlays
walks_are_plays program symbol typed = is_play program typed symbol
