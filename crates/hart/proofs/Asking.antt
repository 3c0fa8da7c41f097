-- A hart and the fabric that serves it, from one wish to the next.
use Rattle.std.proofs.Common.{◌≡◌, ◌≢◌, refl, sym, ap, subst, ◌∙◌, ℕ, List, [], ◌∷◌, ◌++◌, Some, arith}
use Rattle.std.proofs.lemmas.List.{append-nil}
use Rattle.ir_meaning.specs.Plays.{Meaning}
use Rattle.ir_meaning.specs.declared.calls.Ended.{Ended}
use Rattle.rv_play.specs.Ending.{Item, Held, Saw}
use Rattle.hart.specs.declared.hart.Hart.{Hart}
use Rattle.hart.specs.declared.hart.Wanted.{Wanted}
use Rattle.hart.specs.declared.hart.Wanted.TheVariants as wanted
use Rattle.hart.specs.declared.hart.Given.{Given}
use Rattle.hart.specs.declared.hart.Given.TheVariants as given
use Rattle.hart.specs.declared.hart.Phase.{Phase}
use Rattle.hart.specs.declared.hart.Phase.TheVariants as phase
use Rattle.hart.specs.Standing.{IsFor, IsAsked, IsGiven, IsNext, run_of, rest_of, wanted_by, with_counted, item_of}
use Rattle.hart.specs.Calls.{Origin, Stands, Both, Asked, Answers, IsQuestion, HasEnded, ending_from}

-- what was asked is a wish that the fabric is asked
pub question : (h : Hart) (symbols code_words : ℕ) (w : Wanted) → IsAsked h w → w ≢ wanted.End → symbols ≡ h.functions → code_words ≡ h.code_words
    → IsQuestion symbols code_words w
question h symbols code_words wanted.Begin a n s c = a
question h symbols code_words (wanted.Cell symbol) a n s c = omega arith
question h symbols code_words (wanted.Fetch x) a n s c = rw c a
question h symbols code_words (wanted.Count symbol) a n s c = omega arith
question h symbols code_words wanted.End a n s c = n refl
question h symbols code_words (wanted.Done e) a n s c = a

-- what was given is what was wanted
pub given_for : {S : Type 0} (stands : S → S → List Item → List ℕ → Type 0) (f f' : S) (h : Hart) (p : Phase) (w : Wanted) (g : Given)
    → wanted_by h p w → Asked stands f f' w g → IsGiven p g
given_for stands f f' h phase.Idle w g b a = b
given_for stands f f' h phase.Start w g b a = absurd b
given_for stands f f' h phase.Begin w g b a = absurd (subst (λ (v : Wanted). Asked stands f f' v g) b a)
given_for stands f f' h phase.Fetch w g b a = let t = subst (λ (v : Wanted). Asked stands f f' v g) b a in (t.0, t.1)
given_for stands f f' h (phase.Cell rd symbol) w g b a = let t = subst (λ (v : Wanted). Asked stands f f' v g) b a in (t.0, t.1)
given_for stands f f' h (phase.Count symbol) w g b a = let t = subst (λ (v : Wanted). Asked stands f f' v g) b a in t.0
given_for stands f f' h (phase.End e) w g b a = absurd (subst (λ (v : Wanted). Asked stands f f' v g) b a)
given_for stands f f' h (phase.Done e) w g b a = absurd (subst (λ (v : Wanted). Asked stands f f' v g) b a)

-- a wish that isn't the end is followed by another
pub next_asked : (h h' : Hart) (p : Phase) (w w' : Wanted) → wanted_by h p w → IsAsked h w → w ≢ wanted.End → IsNext p h' w' → IsAsked h' w'
next_asked h h' phase.Idle w w' b a n x = absurd b
next_asked h h' phase.Start w w' b a n x = absurd b
next_asked h h' phase.Begin w w' b a n x = x
next_asked h h' phase.Fetch w w' b a n x = x
next_asked h h' (phase.Cell rd symbol) w w' b a n x = x
next_asked h h' (phase.Count symbol) w w' b a n x = x
next_asked h h' (phase.End e) w w' b a n x = absurd (n b)
next_asked h h' (phase.Done e) w w' b a n x = absurd (subst (λ (v : Wanted). IsAsked h v) b a)

-- a hart that wants the end has ended
pub at_end : (h : Hart) (p : Phase) (w : Wanted) → wanted_by h p w → w ≡ wanted.End → HasEnded p
at_end h phase.Idle w b e = absurd b
at_end h phase.Start w b e = absurd b
at_end h phase.Begin w b e = absurd (let bad : wanted.Begin ≡ wanted.End = sym b ∙ e in cc)
at_end h phase.Fetch w b e = absurd (let bad : wanted.Fetch h.regs.pc ≡ wanted.End = sym b ∙ e in cc)
at_end h (phase.Cell rd symbol) w b e = absurd (let bad : wanted.Cell symbol ≡ wanted.End = sym b ∙ e in cc)
at_end h (phase.Count symbol) w b e = absurd (let bad : wanted.Count symbol ≡ wanted.End = sym b ∙ e in cc)
at_end h (phase.End x) w b e = (x, refl)
at_end h (phase.Done x) w b e = absurd (let bad : wanted.Done x ≡ wanted.End = sym b ∙ e in cc)

pub at_begin : (h : Hart) (p : Phase) (w : Wanted) → wanted_by h p w → w ≡ wanted.Begin → p ≡ phase.Begin
at_begin h phase.Idle w b e = absurd b
at_begin h phase.Start w b e = absurd b
at_begin h phase.Begin w b e = refl
at_begin h phase.Fetch w b e = absurd (let bad : wanted.Fetch h.regs.pc ≡ wanted.Begin = sym b ∙ e in cc)
at_begin h (phase.Cell rd symbol) w b e = absurd (let bad : wanted.Cell symbol ≡ wanted.Begin = sym b ∙ e in cc)
at_begin h (phase.Count symbol) w b e = absurd (let bad : wanted.Count symbol ≡ wanted.Begin = sym b ∙ e in cc)
at_begin h (phase.End x) w b e = absurd (let bad : wanted.End ≡ wanted.Begin = sym b ∙ e in cc)
at_begin h (phase.Done x) w b e = absurd (let bad : wanted.Done x ≡ wanted.Begin = sym b ∙ e in cc)

pub at_done : (h : Hart) (p : Phase) (w : Wanted) (e : Ended) → wanted_by h p w → w ≡ wanted.Done e → p ≡ phase.Done e
at_done h phase.Idle w x b e = absurd b
at_done h phase.Start w x b e = absurd b
at_done h phase.Begin w x b e = absurd (let bad : wanted.Begin ≡ wanted.Done x = sym b ∙ e in cc)
at_done h phase.Fetch w x b e = absurd (let bad : wanted.Fetch h.regs.pc ≡ wanted.Done x = sym b ∙ e in cc)
at_done h (phase.Cell rd symbol) w x b e = absurd (let bad : wanted.Cell symbol ≡ wanted.Done x = sym b ∙ e in cc)
at_done h (phase.Count symbol) w x b e = absurd (let bad : wanted.Count symbol ≡ wanted.Done x = sym b ∙ e in cc)
at_done h (phase.End y) w x b e = absurd (let bad : wanted.End ≡ wanted.Done x = sym b ∙ e in cc)
at_done h (phase.Done y) w x b e = let same : wanted.Done y ≡ wanted.Done x = sym b ∙ e in cc

-- what a turn promises of the two lists
abbrev pub TurnStands : Hart → Hart → Phase → Given → Type 0
TurnStands h h' p g =
    (m : Meaning) (o : Origin) (pass : List Item) (counted : List ℕ) → Stands m o h pass counted
    → Stands m o h' (pass ++ item_of h p g) (with_counted h'.phase counted)

-- both stand for the same after the fabric was asked and the hart has turned
pub both_after : {S : Type 0} (stands : S → S → List Item → List ℕ → Type 0) (since f f' : S) (known : Hart) (o : Origin) (h h' : Hart) (p : Phase) (w : Wanted) (g : Given)
    → wanted_by h p w → Asked stands f f' w g → TurnStands h h' p g
    → (pass : List Item) (counted : List ℕ) → stands since f pass counted → ((m : Meaning) → IsFor m known → Stands m o h pass (with_counted p counted))
    → Both stands since f' known o h'
both_after stands since f f' known o h h' phase.Idle w g b a t pass counted s k = absurd b
both_after stands since f f' known o h h' phase.Start w g b a t pass counted s k = absurd b
both_after stands since f f' known o h h' phase.Begin w g b a t pass counted s k = absurd (subst (λ (v : Wanted). Asked stands f f' v g) b a)
both_after stands since f f' known o h h' phase.Fetch w g b a t pass counted s k =
    let u = subst (λ (v : Wanted). Asked stands f f' v g) b a in
    record {
      pass = pass ++ Saw h.regs.pc u.0 ∷ [];
      counted = counted;
      fabric_stands = u.2 since pass counted s;
      hart_stands = λ m for_it.
          subst (λ (v : Given). Stands m o h' (pass ++ item_of h phase.Fetch v) (with_counted h'.phase counted)) u.1 (t m o pass counted (k m for_it));
    }
both_after stands since f f' known o h h' (phase.Cell rd symbol) w g b a t pass counted s k =
    let u = subst (λ (v : Wanted). Asked stands f f' v g) b a in
    record {
      pass = pass ++ Held symbol u.0 ∷ [];
      counted = counted;
      fabric_stands = u.2 since pass counted s;
      hart_stands = λ m for_it.
          subst (λ (v : Given). Stands m o h' (pass ++ item_of h (phase.Cell rd symbol) v) (with_counted h'.phase counted)) u.1 (t m o pass counted (k m for_it));
    }
both_after stands since f f' known o h h' (phase.Count symbol) w g b a t pass counted s k =
    let u = subst (λ (v : Wanted). Asked stands f f' v g) b a in
    record {
      pass = pass;
      counted = counted ++ symbol ∷ [];
      fabric_stands = u.1 since pass counted s;
      hart_stands = λ m for_it.
          subst (λ (xs : List Item). Stands m o h' xs (with_counted h'.phase (counted ++ symbol ∷ []))) (append-nil pass)
          (t m o pass (counted ++ symbol ∷ []) (k m for_it));
    }
both_after stands since f f' known o h h' (phase.End e) w g b a t pass counted s k = absurd (subst (λ (v : Wanted). Asked stands f f' v g) b a)
both_after stands since f f' known o h h' (phase.Done e) w g b a t pass counted s k = absurd (subst (λ (v : Wanted). Asked stands f f' v g) b a)

-- a turn from the beginning of a call changes neither list
pub both_begun : {S : Type 0} (stands : S → S → List Item → List ℕ → Type 0) (since f : S) (known : Hart) (o : Origin) (h h' : Hart) (p : Phase)
    → p ≡ phase.Begin → TurnStands h h' p given.Nothing
    → (pass : List Item) (counted : List ℕ) → stands since f pass counted → ((m : Meaning) → IsFor m known → Stands m o h pass (with_counted p counted))
    → Both stands since f known o h'
both_begun stands since f known o h h' p e t pass counted s k = record {
  pass = pass;
  counted = counted;
  fabric_stands = s;
  hart_stands = λ m for_it.
      let at_begin : Stands m o h pass counted = subst (λ (q : Phase). Stands m o h pass (with_counted q counted)) e (k m for_it) in
      let turned : Stands m o h' (pass ++ []) (with_counted h'.phase counted) =
      subst (λ (q : Phase). Stands m o h' (pass ++ item_of h q given.Nothing) (with_counted h'.phase counted)) e (t m o pass counted at_begin) in
      subst (λ (xs : List Item). Stands m o h' xs (with_counted h'.phase counted)) (append-nil pass) turned;
}

-- the last turn gives the end of the call over what both stand for
pub answered : {S : Type 0} (stands : S → S → List Item → List ℕ → Type 0) (since f f' : S) (known : Hart) (o : Origin) (h h' : Hart) (e e' : Ended)
    → h.phase ≡ phase.End e → h'.phase ≡ phase.Done e' → e' ≡ e → TurnStands h h' h.phase given.Nothing
    → ((pass : List Item) (counted : List ℕ) → stands since f pass counted → stands since f' pass counted)
    → Both stands since f known o h → Answers stands since f' known o e' h'
answered stands since f f' known o h h' e e' p p' same t s b = record {
  pass = b.pass;
  counted = b.counted;
  fabric_stands = s b.pass b.counted b.fabric_stands;
  ended = λ m for_it.
      let before : Stands m o h b.pass b.counted = subst (λ (q : Phase). Stands m o h b.pass (with_counted q b.counted)) p (b.hart_stands m for_it) in
      let after : Stands m o h' (b.pass ++ []) b.counted =
      subst (λ (q : Phase). Stands m o h' (b.pass ++ []) (with_counted q b.counted)) p'
      (subst (λ (q : Phase). Stands m o h' (b.pass ++ item_of h q given.Nothing) (with_counted h'.phase b.counted)) p (t m o b.pass b.counted before)) in
      let over : ending_from m o (b.pass ++ []) ≡ Some (e', run_of h' b.counted []) =
      ap (ending_from m o) (sym (append-nil (b.pass ++ []))) ∙ after.goes [] ∙ ap (λ (q : Phase). rest_of m h' q b.counted []) p' in
      ap (ending_from m o) (sym (append-nil b.pass)) ∙ over;
}
