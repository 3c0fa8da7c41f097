-- Calls on a hart that is ready are right.
use Rattle.std.proofs.Common.{◌≡◌, ℕ, zero, suc, ◌+◌, ◌-◌, ◌^◌, ◌<◌, ◌≤◌, ◌⊎◌, inl, inr, false, List, [], ◌∷◌, ◌++◌, length, map, drop, replicate, slice_index, Some, refl, sym, ap, subst, ◌∙◌, arith}
use Rattle.std.specs.List.{slice_get}
use Rattle.std.proofs.Math.Pow.{pow_mono}
use Rattle.std.proofs.lemmas.Bool.{cases_lt}
use Rattle.std.proofs.lemmas.List.{get_or_past}
use Rattle.std.proofs.lemmas.Option.{slice_get_within}
use Rattle.ir_core.specs.declared.types.Ty.{Ty}
use Rattle.ir_core.specs.declared.types.Ty.TheVariants.{Void, Int, Ptr}
use Rattle.ir_core.specs.Program.{Program}
use Rattle.ir_meaning.specs.declared.calls.Ended.{Ended}
use Rattle.ir_meaning.specs.declared.calls.ListedCall.{ListedCall}
use Rattle.ir_meaning.specs.Operators.{width}
use Rattle.ir_meaning.specs.Image.{first_memory}
use Rattle.ir_meaning.specs.Meaning.{meaning}
use Rattle.ir_meaning.specs.Plays.{Meaning}
use Rattle.ir_meaning.specs.Ranges.{AreArgs, IsInvocation, IsMemory}
use Rattle.ir_meaning.specs.Right.{Right}
use Rattle.ir_meaning.specs.Typed.{IsTyped, IsValueType}
use Rattle.rv_play.specs.Machine.{data_base}
use Rattle.rv_play.specs.Good.{IsBytes}
use Rattle.rv_play.specs.Ending.{Item}
use Rattle.rv_play.specs.Link.{top_invocation}
use Rattle.hart.specs.declared.hart.Hart.{Hart}
use Rattle.hart.specs.declared.hart.Image.{Image}
use Rattle.hart.specs.Calls.{IsCall, EndedOver, HasRoomFor, Knows, with_image, origin_of}
use Rattle.hart.specs.Right.{IsListedOn}
use Rattle.hart.specs.Standing.{IsFor}
use Rattle.hart.proofs.Stores.{from_above}
use Rattle.jit_session.specs.Calls.{IsCallOf}
use Rattle.entry_counts.specs.declared.seat.CountSeat.{CountSeat}
use Rattle.redirect_cells.specs.declared.hart_seat.HartSeat.{HartSeat}
use Rattle.redirect_cells.specs.Kept.{meaning_of}
use Rattle.jit_session.specs.Benches.{has_begun, StandsFor}
use Rattle.jit_session.proofs.Answers.{right_over}
use Rattle.jit_session.specs.Runs.{IsReady, IsImage}

narrow : (ty : Ty) → IsValueType ty → width ty ≤ 64
narrow Void is = absurd is
narrow (Int w) is = is.1
narrow Ptr is = omega arith

value_at : (tys : List Ty) (values : List ℕ) (i : ℕ) → ((k : ℕ) (ty : Ty) → slice_get tys k ≡ Some ty → IsValueType ty) → AreArgs (map width tys) (map Some values) → slice_index values i < 2 ^ 64
value_at [] [] i of all = omega arith
value_at [] (v ∷ values) i of all = absurd all
value_at (ty ∷ tys) [] i of all = absurd all
value_at (ty ∷ tys) (v ∷ values) zero of all = let power : 2 ^ width ty ≤ 2 ^ 64 = pow_mono (narrow ty (of 0 ty refl)) in let below = all.0 in omega (arith, power, below)
value_at (ty ∷ tys) (v ∷ values) (suc i) of all = value_at tys values i (λ k other e. of (suc k) other e) all.1

-- the table has a cell for each function that the hart knows
pub symbols_known : (program : Program) (h : Hart) (s : HartSeat) → IsReady program h s → s.table.now.functions ≡ h.functions
unfolding meaning_of
symbols_known program h s r = s.table.now.functions_are ∙ ap (λ (p : Program). length p.module_.functions) r.table ∙ r.known.functions

listed_below : (program : Program) (call : ListedCall) → IsCallOf program.module_.functions call → call.symbol < length program.module_.functions
listed_below program call l = slice_get_within program.module_.functions call.symbol l.function l.found

pub is_call : (program : Program) (h : Hart) (call : ListedCall) → IsTyped program → IsFor (meaning program) h → IsCallOf program.module_.functions call → IsCall h.functions call
is_call program h call typed known l = record {
  symbol = (let below = listed_below program call l in let e : length program.module_.functions ≡ h.functions = known.functions in omega arith);
  args = λ i. value_at l.function.params call.args i (typed.typed call.symbol l.function l.found).params l.args;
  turns = l.turns;
}

-- ---- the first data memory

front_at : (image rest : List ℕ) (i : ℕ) → i < length image → slice_index (image ++ rest) i ≡ slice_index image i
front_at [] rest i lt = absurd (let bad : ⊥ = omega (arith, lt) in bad)
front_at (x ∷ image) rest zero lt = refl
front_at (x ∷ image) rest (suc i) lt = front_at image rest i (omega (arith, lt))

-- a hart that knows the program has room for the image
pub room_for : (program : Program) (h : Hart) (image : Image) → IsFor (meaning program) h → IsImage program image → HasRoomFor (length h.bytes.items) image
room_for program h image known is = let room : program.room ≡ length h.bytes.items = known.room in let high = is.room.high in record { low = is.room.low; high = omega (arith, room, high) }

-- where a hart's bytes are numbers below 256, so are those of the first data memory
first_bytes : (program : Program) (image : Image) (h : Hart) (call : ListedCall) (words : ℕ) → IsImage program image → IsBytes (origin_of h image call words).bytes → IsMemory (first_memory program.module_.globals)
first_bytes program image h call words is bytes i b e = by_place (cases_lt i (length image.bytes))
  where
    by_place : (i < length image.bytes) ⊎ (length image.bytes ≤ i) → b < 256
    by_place (inl inside) =
        let value = is.of.bytes i b e in
        let all : List ℕ = with_image image h.bytes.items in
        let above : data_base ≤ data_base + i = omega arith in
        let back : data_base + i - data_base ≡ i = omega arith in
        let there = from_above data_base all (data_base + i) above ∙ ap (slice_index all) back in
        let front = front_at image.bytes (replicate (image.top - data_base - length image.bytes) 0 ++ drop (image.top - data_base) h.bytes.items) i inside in
        let below = bytes (data_base + i) in
        subst (λ (k : ℕ). k < 256) (there ∙ front ∙ value) below
    by_place (inr outside) =
        let value = is.of.bytes i b e in
        let none = get_or_past image.bytes i 0 outside in
        omega (arith, value, none)

invocation : (program : Program) (call : ListedCall) (image : Image) → IsCallOf program.module_.functions call → IsImage program image → IsMemory (first_memory program.module_.globals)
    → IsInvocation (meaning program) (top_invocation call.symbol call.args (first_memory program.module_.globals))
invocation program call image l is below =
    let long = is.of.long in
    let low = is.room.low in
    let high = is.room.high in
    record {
      symbol = listed_below program call l;
      args = rw l.found l.args;
      memory = below;
      room = omega (arith, long, low, high);
      sp_low = omega arith;
      sp_high = omega arith;
    }

-- a listed call on a hart that knows the program
pub listed_on : (program : Program) (call : ListedCall) (image : Image) (h : Hart) (words : ℕ) → IsTyped program → IsFor (meaning program) h → IsImage program image → IsCallOf program.module_.functions call
    → IsBytes (origin_of h image call words).bytes × IsBytes (origin_of h image call words).control
    → IsListedOn program call (first_memory program.module_.globals) image h
listed_on program call image h words typed known is l b = record {
  typed = typed;
  known = known;
  invocation = invocation program call image l is (first_bytes program image h call words is b.0);
  image_of = is.of;
  room = room_for program h image known is;
  bytes = b.0;
  control = b.1;
}

-- a hart that knows the same functions as before
pub still_known : (program : Program) (h h' : Hart) → IsFor (meaning program) h → Knows h h' → IsFor (meaning program) h'
still_known program h h' known k = record {
  functions = known.functions ∙ sym k.functions;
  room = known.room ∙ sym k.room;
  results = λ symbol below. ap (λ w. slice_get w.items symbol) k.widths ∙ known.results symbol below;
}

-- the answer of a call on a hart that is ready is right
pub right : (program : Program) (call : ListedCall) (image : Image) (h h' : Hart) (s s' : HartSeat) (c c' : CountSeat) (pass : List Item) (counted : List ℕ) (e : Ended)
    → IsTyped program → IsReady program h s → IsImage program image → IsCallOf program.module_.functions call
    → StandsFor s c s' c' pass counted → has_begun s'.seat.me.0.role ≡ false → ((m : Meaning) → IsFor m h → EndedOver m (origin_of h image call s.table.now.code_words) pass e h' counted)
    → IsBytes (origin_of h image call s.table.now.code_words).bytes × IsBytes (origin_of h image call s.table.now.code_words).control
    → Right program call e
right program call image h h' s s' c c' pass counted e typed r is l stands idle over b =
    (right_over program call (first_memory program.module_.globals) image h h' s s' c c' pass counted e r.table (listed_on program call image h s.table.now.code_words typed r.known is l b) stands idle (over (meaning program) r.known)).0
