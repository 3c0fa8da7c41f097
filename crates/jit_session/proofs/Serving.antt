-- The runs of a hart's calls, and what they counted.
use Rattle.std.proofs.Common.{◌≡◌, ℕ, zero, suc, ◌+◌, ◌-◌, ◌*◌, ◌^◌, ◌<◌, ◌≤◌, Bool, false, List, [], ◌∷◌, ◌++◌, length, map, append-nil, refl, sym, ap, subst, ◌∙◌, ⊎_elim, arith}
use Rattle.std.proofs.lemmas.List.{append_assoc, length-map}
use Rattle.std.proofs.lemmas.List.Sums.{sum_by-cons, sum_by_push}
use mathlib.Core.Option.{some-injective, some-ne-none}
use Rattle.ir_core.specs.Program.{Program}
use Rattle.ir_core.specs.declared.program.Function.{Function}
use Rattle.ir_meaning.specs.declared.calls.Ended.{Ended}
use Rattle.ir_meaning.specs.declared.calls.ListedCall.{ListedCall}
use Rattle.ir_meaning.specs.Eval.{eval_call}
use Rattle.ir_meaning.specs.Image.{first_memory}
use Rattle.ir_meaning.specs.Meaning.{meaning}
use Rattle.ir_meaning.specs.Plays.{Meaning}
use Rattle.ir_meaning.specs.Typed.{IsTyped}
use Rattle.rv_play.specs.Good.{IsBytes}
use Rattle.rv_play.specs.Ending as ending
use Rattle.rv_play.specs.Link.{Backed}
use Rattle.rv_play.specs.ListedCalls.{IsResult}
use Rattle.hart.specs.declared.hart.Hart.{Hart}
use Rattle.hart.specs.declared.hart.Image.{Image}
use Rattle.hart.specs.Calls.{EndedOver, origin_of}
use Rattle.hart.specs.Standing.{IsFor}
use Rattle.hart.proofs.Answering.{right_answers}
use Rattle.code_epochs.specs.declared.parts.Item.{Item}
use Rattle.code_epochs.specs.Passes.{items_of}
use Rattle.code_epochs.specs.Sound.{At}
use Rattle.code_epochs.proofs.Lists.{at_snoc}
use Rattle.entry_counts.specs.Tally.{times}
use Rattle.entry_counts.specs.declared.counts.Counts.{Counts}
use Rattle.entry_counts.specs.declared.seat.CountSeat.{CountSeat}
use Rattle.redirect_cells.specs.declared.hart_seat.HartSeat.{HartSeat}
use Rattle.redirect_cells.specs.Kept.{meaning_of, part_of}
use Rattle.jit_session.specs.Benches.{has_begun, HasHad, StandsFor}
use Rattle.jit_session.proofs.Answers.{meaning_in, was_backed}
use Rattle.jit_session.specs.Calls.{IsCallOf, AreCallsOf}
use Rattle.jit_session.specs.Runs.{IsReady, IsImage, place_of}
use Rattle.jit_session.specs.Runners.{IsWork}
use Rattle.jit_session.specs.Entries.{calls_of, AllEnd, entered_in, HasEntered}
use Rattle.jit_session.specs.Served.{CallRun, IsRunOf, AreRunsOf, HasServedOne, HasServed, answers_of, passes_of, counted_in}
use Rattle.jit_session.proofs.Entering.{few_entered, times_few}
use Rattle.jit_session.proofs.Readying.{listed_on}

-- a call on a hart that is ready has a run, over the pass that its seat has had
pub served_one : (program : Program) (call : ListedCall) (image : Image) (h h' : Hart) (s s' : HartSeat) (c c' : CountSeat) (pass : List ending.Item) (counted : List ℕ) (e : Ended)
    → IsTyped program → IsReady program h s → IsImage program image → IsCallOf program.module_.functions call
    → StandsFor s c s' c' pass counted → has_begun s'.seat.me.0.role ≡ false → ((m : Meaning) → IsFor m h → EndedOver m (origin_of h image call s.table.now.code_words) pass e h' counted)
    → IsBytes (origin_of h image call s.table.now.code_words).bytes × IsBytes (origin_of h image call s.table.now.code_words).control
    → HasServedOne program call s s' c c' e
served_one program call image h h' s s' c c' pass counted e typed r is l stands idle over b =
    let table = s.table.now in
    let later = s'.table.now in
    let had : HasHad false later (part_of s.seat.me.0) (part_of s'.seat.me.0) pass = subst (λ (x : Bool). HasHad x later (part_of s.seat.me.0) (part_of s'.seat.me.0) pass) idle stands.had in
    let there : Backed (meaning_of later.table.shared.key) later.code_words (items_of had.0) = was_backed later had.0 had.3 in
    let here : Backed (meaning_of table.table.shared.key) table.code_words (items_of had.0) = subst (λ t. Backed (meaning_of t.now.table.shared.key) t.now.code_words (items_of had.0)) stands.table there in
    record {
      run = record { pass = had.0; answer = e; counted = counted };
      of_call = record {
        image = image;
        before = h;
        after = h';
        listed = listed_on program call image h table.code_words typed r.known is l b;
        backed = subst (λ (m : Meaning). Backed m table.code_words (items_of had.0)) (meaning_in table.table.shared.key program r.table) here;
        ended = subst (λ (p : List ending.Item). EndedOver (meaning program) (origin_of h image call table.code_words) p e h' counted) (sym had.1) (over (meaning program) r.known);
      };
      answer = refl;
      pass = had.2;
      own = stands.count.own;
    }

map-push : {A B : Type 0} (f : A → B) (xs : List A) (x : A) → map f (xs ++ x ∷ []) ≡ map f xs ++ f x ∷ []
map-push f [] x = refl
map-push {B = B} f (y ∷ xs) x = ap (λ (l : List B). f y ∷ l) (map-push f xs x)

-- no call was run
pub served_none : (program : Program) (calls : List ListedCall) (harts hart : ℕ) (s : HartSeat) (c : CountSeat) (ends : List Ended) → ends ≡ [] → HasServed program calls harts hart s s c c ends
served_none program calls harts hart s c ends none = record {
  runs = [];
  of_calls = λ i r at. absurd (some-ne-none r (sym at));
  answers = none;
  passes = sym (append-nil (part_of s.seat.me.0).ended);
  own = λ k low. (let fits = c.own_fits k low in omega arith);
}

-- one run more
pub served_more : (program : Program) (calls : List ListedCall) (harts hart place : ℕ) (s t t' : HartSeat) (c d d' : CountSeat) (ends : List Ended) (call : ListedCall) (e : Ended)
    → HasServed program calls harts hart s t c d ends → t.table ≡ s.table → d.counts ≡ c.counts → place ≡ place_of harts hart (length ends) → At calls place call
    → HasServedOne program call t t' d d' e → HasServed program calls harts hart s t' c d' (ends ++ e ∷ [])
served_more program calls harts hart place s t t' c d d' ends call e h table counts is at one =
    let long : length ends ≡ length h.runs = ap length h.answers ∙ length-map h.runs (λ (r : CallRun). r.answer) in
    let of_call : IsRunOf program s.table.now.code_words call one.run = subst (λ x. IsRunOf program x.now.code_words call one.run) table one.of_call in record {
      runs = h.runs ++ one.run ∷ [];
      of_calls = λ i r here. ⊎_elim
          (λ before. h.of_calls i r before)
          (λ last. (
            call,
            subst (λ (n : ℕ). At calls n call) (is ∙ ap (λ (n : ℕ). place_of harts hart n) (long ∙ sym last.0)) at,
            subst (λ (x : CallRun). IsRunOf program s.table.now.code_words call x) last.1 of_call,
          ))
          (at_snoc h.runs one.run r i here);
      answers = ap (λ (l : List Ended). l ++ e ∷ []) h.answers ∙ ap (λ (x : Ended). answers_of h.runs ++ x ∷ []) (sym one.answer) ∙ sym (map-push (λ (r : CallRun). r.answer) h.runs one.run);
      passes = one.pass ∙ ap (λ (l : List (List Item)). l ++ one.run.pass ∷ []) h.passes
          ∙ append_assoc (part_of s.seat.me.0).ended (passes_of h.runs) (one.run.pass ∷ [])
          ∙ ap (λ (l : List (List Item)). (part_of s.seat.me.0).ended ++ l) (sym (map-push (λ (r : CallRun). r.pass) h.runs one.run));
      own = λ k low.
          (let was = h.own k low in
          let now = one.own k (subst (λ x. k < x.now.symbols) (sym counts) low) in
          let more = sum_by_push (λ (r : CallRun). times k r.counted) h.runs one.run in
          omega (arith, was, now, more));
    }

-- ---- the evaluations

-- what a run counted of a symbol, where its call's evaluation ends
one-same : (program : Program) (code_words k : ℕ) (call : ListedCall) (r : CallRun) → IsRunOf program code_words call r → IsResult (eval_call program call call.turns).outcome
    → times k r.counted ≡ times k (eval_call program call call.turns).entered
one-same program code_words k call r of_call is =
    let follows = (right_answers program call (first_memory program.module_.globals) of_call.image of_call.before of_call.after code_words (items_of r.pass) r.counted r.answer of_call.listed of_call.backed of_call.ended).1 in
    ap (times k) (follows.counted is)

place-later : (harts i : ℕ) → 1 ≤ harts → place_of harts 0 (suc i) ≡ suc (place_of harts (harts - 1) i)
place-later harts i some = omega arith

place-over : (harts over i : ℕ) → place_of harts (suc over) i ≡ suc (place_of harts over i)
place-over harts over i = omega arith

-- what the runs of all calls of a hart counted
sums-same : (program : Program) (code_words harts k : ℕ) (calls : List ListedCall) (over : ℕ) (runs : List CallRun) → 1 ≤ harts → AllEnd program (calls_of calls harts over)
    → AreRunsOf program code_words calls harts over runs → length calls ≤ place_of harts over (length runs) → counted_in runs k ≡ entered_in program (calls_of calls harts over) k
sums-same program code_words harts k [] over [] some all are whole = refl
sums-same program code_words harts k [] over (r ∷ runs) some all are whole = let x = are 0 r refl in absurd (some-ne-none x.0 (sym x.1))
sums-same program code_words harts k (c ∷ calls) (suc over) runs some all are whole =
    sums-same program code_words harts k calls over runs some all
    (λ i r at. let x = are i r at in (x.0, subst (λ (n : ℕ). At (c ∷ calls) n x.0) (place-over harts over i) x.1, x.2))
    (let e = place-over harts over (length runs) in omega arith)
sums-same program code_words harts k (c ∷ calls) zero [] some all are whole = absurd (let bad : ⊥ = omega arith in bad)
sums-same program code_words harts k (c ∷ calls) zero (r ∷ runs) some all are whole =
    let x = are 0 r refl in
    let here : place_of harts 0 0 ≡ 0 = omega arith in
    let same : c ≡ x.0 = some-injective c x.0 (subst (λ (n : ℕ). At (c ∷ calls) n x.0) here x.1) in
    let one = one-same program code_words k c r (subst (λ (y : ListedCall). IsRunOf program code_words y r) (sym same) x.2) all.0 in
    let end = place-later harts (length runs) some in
    let rest = sums-same program code_words harts k calls (harts - 1) runs some all.1
    (λ i s at. let y = are (suc i) s at in (y.0, subst (λ (n : ℕ). At (c ∷ calls) n y.0) (place-later harts i some) y.1, y.2))
    (omega (arith, whole, end)) in
    let a = sum_by-cons (λ (s : CallRun). times k s.counted) r runs in
    let b = sum_by-cons (λ (y : ListedCall). times k (eval_call program y y.turns).entered) c (calls_of calls harts (harts - 1)) in
    omega (arith, one, rest, a, b)

mine-listed : (functions : List Function) (harts : ℕ) (calls : List ListedCall) (over : ℕ) → AreCallsOf functions calls → AreCallsOf functions (calls_of calls harts over)
mine-listed functions harts [] over all = tt
mine-listed functions harts (c ∷ calls) zero all = (all.0, mine-listed functions harts calls (harts - 1) all.1)
mine-listed functions harts (c ∷ calls) (suc over) all = mine-listed functions harts calls over all.1

mine-few : (harts : ℕ) (calls : List ListedCall) (over : ℕ) → length (calls_of calls harts over) ≤ length calls
mine-few harts [] over = omega arith
mine-few harts (c ∷ calls) zero = let rest = mine-few harts calls (harts - 1) in omega arith
mine-few harts (c ∷ calls) (suc over) = let rest = mine-few harts calls over in omega arith

-- calls enter at most 2^32 symbols each
entered-few : (program : Program) (functions : List Function) (k : ℕ) (calls : List ListedCall) → AreCallsOf functions calls → AllEnd program calls → entered_in program calls k ≤ 4294967296 * length calls
entered-few program functions k [] listed all = omega arith
entered-few program functions k (c ∷ calls) listed all =
    let turns : c.turns ≤ 2 ^ 32 = listed.0.turns in
    let first = times_few k (eval_call program c c.turns).entered in
    let few = few_entered program c all.0 in
    let rest = entered-few program functions k calls listed.1 all.1 in
    let sum = sum_by-cons (λ (y : ListedCall). times k (eval_call program y y.turns).entered) c calls in
    omega (arith, turns, first, few, rest, sum)

-- a hart that has run all of its calls has counted what their evaluations enter
pub has_entered : (program : Program) (first : Image) (calls : List ListedCall) (harts hart : ℕ) (s s' : HartSeat) (c c' : CountSeat) (ends : List Ended)
    → IsWork program first calls harts → HasServed program calls harts hart s s' c c' ends → length calls ≤ place_of harts hart (length ends) → HasEntered program (calls_of calls harts hart) c c'
has_entered program first calls harts hart s s' c c' ends work h whole all k low fits =
    let long : length ends ≡ length h.runs = ap length h.answers ∙ length-map h.runs (λ (r : CallRun). r.answer) in
    let sum = sums-same program s.table.now.code_words harts k calls hart h.runs work.harts.0 all h.of_calls (subst (λ (n : ℕ). length calls ≤ place_of harts hart n) long whole) in
    let few = entered-few program program.module_.functions k (calls_of calls harts hart) (mine-listed program.module_.functions harts calls hart work.calls) all in
    let short = mine-few harts calls hart in
    let most = work.few in
    let own = h.own k low in
    omega (arith, sum, few, short, most, own, fits)
