-- Words one after another: what a hart and its fabric stand for after each.
use Rattle.std.proofs.Common.{◌≡◌, refl, sym, ap, subst, ◌∙◌, ℕ, ◌+◌, ◌*◌, ◌<◌, ◌≤◌, List, [], ◌∷◌, ◌++◌, arith}
use Rattle.std.proofs.lemmas.List.{append_assoc}
use Rattle.ir_meaning.specs.Plays.{Meaning}
use Rattle.rv_play.specs.Ending.{Item, Saw}
use Rattle.hart.specs.declared.hart.Hart.{Hart}
use Rattle.hart.specs.declared.hart.Wanted.{Wanted}
use Rattle.hart.specs.declared.hart.Wanted.TheVariants as wanted
use Rattle.hart.specs.declared.hart.Phase.{Phase}
use Rattle.hart.specs.declared.hart.Phase.TheVariants as phase
use Rattle.hart.specs.Standing.{IsFor, IsAsked, IsCodeAddress, Turns, HasTurned, turns_left, wanted_by, with_counted}
use Rattle.hart.specs.Calls.{Origin, Stands, Both, ending_from}
use Rattle.hart.proofs.Turning.{for_same}

-- a phase has one wish
pub one_wish : (h : Hart) (p : Phase) (w w' : Wanted) → wanted_by h p w → wanted_by h p w' → w ≡ w'
one_wish h phase.Idle w w' a b = absurd a
one_wish h phase.Start w w' a b = absurd a
one_wish h phase.Begin w w' a b = a ∙ sym b
one_wish h phase.Fetch w w' a b = a ∙ sym b
one_wish h (phase.Cell rd symbol) w w' a b = a ∙ sym b
one_wish h (phase.Count symbol) w w' a b = a ∙ sym b
one_wish h (phase.End e) w w' a b = a ∙ sym b
one_wish h (phase.Done e) w w' a b = a ∙ sym b

-- what is wanted is asked, however it is told
pub asked_too : (h : Hart) (w w' : Wanted) → wanted_by h h.phase w → wanted_by h h.phase w' → IsAsked h w → IsAsked h w'
asked_too h w w' a b x = subst (IsAsked h) (one_wish h h.phase w w' a b) x

-- the next word is a code word
pub next_word : (h : Hart) (w : Wanted) → h.phase ≡ phase.Fetch → wanted_by h h.phase w → IsAsked h w → IsCodeAddress h.code_words h.regs.pc
next_word h w p b a =
    let e : w ≡ wanted.Fetch h.regs.pc = subst (λ (q : Phase). wanted_by h q w) p b in
    subst (IsAsked h) e a

pub fewer_left : (h h' : Hart) → h.phase ≡ phase.Fetch → h'.phase ≡ phase.Fetch → turns_left h' h'.phase < turns_left h h.phase → h'.left < h.left
fewer_left h h' p p' x =
    let y : turns_left h' h'.phase < 2 * h.left + 3 = subst (λ (q : Phase). turns_left h' h'.phase < turns_left h q) p x in
    let z : 2 * h'.left + 3 < 2 * h.left + 3 = subst (λ (q : Phase). turns_left h' q < 2 * h.left + 3) p' y in
    omega arith

pub fewer_turns : (f h h' : Hart) → f.phase ≡ phase.Fetch → h.phase ≡ phase.Fetch → h.left ≤ f.left → turns_left h' h'.phase < turns_left h h.phase
    → turns_left h' h'.phase < turns_left f f.phase
fewer_turns f h h' pf p l x =
    let y : turns_left h' h'.phase < 2 * h.left + 3 = subst (λ (q : Phase). turns_left h' h'.phase < turns_left h q) p x in
    let z : turns_left h' h'.phase < 2 * f.left + 3 = omega arith in
    subst (λ (q : Phase). turns_left h' h'.phase < turns_left f q) (sym pf) z

stands_on : (m : Meaning) (o : Origin) (h h' : Hart) (items : List Item) (w : Wanted) (pass : List Item) (counted : List ℕ)
    → Turns h h' items w → Stands m o h pass counted → Stands m o h' (pass ++ items) (with_counted h'.phase counted)
stands_on m o h h' items w pass counted t k = record {
  is_for = for_same m h h' k.is_for t.same;
  goes = λ rest. ap (ending_from m o) (append_assoc pass items rest) ∙ k.goes (items ++ rest) ∙ t.goes m k.is_for counted rest;
}

-- both stand for the same once the word was seen and the hart has turned
pub both_seen : {S : Type 0} (stands : S → S → List Item → List ℕ → Type 0) (since f f' : S) (known : Hart) (o : Origin) (h h' : Hart) (word : ℕ)
    → h.phase ≡ phase.Fetch
    → ((s : S) (pass : List Item) (counted : List ℕ) → stands s f pass counted → stands s f' (pass ++ Saw h.regs.pc word ∷ []) counted)
    → HasTurned h h' (Saw h.regs.pc word ∷ [])
    → Both stands since f known o h → Both stands since f' known o h'
both_seen stands since f f' known o h h' word p s t b = record {
  pass = b.pass ++ Saw h.regs.pc word ∷ [];
  counted = b.counted;
  fabric_stands = s since b.pass b.counted b.fabric_stands;
  hart_stands = λ m for_it.
      stands_on m o h h' (Saw h.regs.pc word ∷ []) t.0 b.pass b.counted t.1
      (subst (λ (q : Phase). Stands m o h b.pass (with_counted q b.counted)) p (b.hart_stands m for_it));
}
