-- What a step through definitions keeps.
use Rattle.std.proofs.Common.{◌≡◌, ℕ, zero, suc, ◌+◌, ◌<◌, ◌≤◌, ◌⊎◌, inl, inr, Bool, true, false, nat_eq, nat_le, List, [], ◌∷◌, ◌++◌, length, take, get_or, replicate, refl, sym, ◌∙◌, ap, subst, arith, add-one, Option, Some, None, Result, Ok, Err, if◌then◌else◌, IsSome}
use Rattle.std.specs.Prelude.{slice_get, slice_set}
use Rattle.std.proofs.lemmas.Bool.Decides.{nat_tests}
use Rattle.std.proofs.lemmas.Bool.{false≢true}
use Rattle.std.proofs.lemmas.Option.{none-some, same_Some, slice_get_within, slice_get-get_or}
use Rattle.std.proofs.lemmas.List.{take_all, length-set, length-replicate}
use Rattle.ir_types.specs.declared.parts.Part.{Part}
use Rattle.ir_types.specs.declared.parts.Part.TheVariants as parts
use Rattle.ir_types.specs.declared.summary.Summary.{Summary}
use Rattle.ir_types.specs.declared.summary.Entry.{Entry}
use Rattle.ir_types.specs.declared.summary.Entry.TheVariants as entries
use Rattle.ir_types.specs.declared.resolve.Frame.{Frame}
use Rattle.ir_types.specs.declared.resolve.Resolver.{Resolver}
use Rattle.ir_types.specs.declared.fault.Fault.{Fault}
use Rattle.ir_types.specs.Walk.{walk}
use Rattle.ir_types.specs.Replaced.{Definitions, definition, expansion, replaced, node_count, first_odd, Mentions, Holds, directly, further}
use Rattle.ir_types.specs.Summaries.{summary_step, summary_of, no_parts, root_in, root_at, root_of, IsSummary, IsKnown, Follows, Tells, AreResolved}
use Rattle.ir_types.specs.Resolving.{IsRun, IsCounted, Sound, IsAt, Touches, Settled, Started, IsTouched, AreTouched}
use Rattle.ir_types.proofs.TypeLists.{get_last, get_front, get_either, set_same, set_cases, set_other, same_Ok, take_next, get_before, one_item}
use Rattle.ir_types.proofs.Following.{Keeps, closing, walk_last, summary_keeps, follows_keeps}
use Rattle.ir_types.proofs.Replacing.{deeper, name_alone, expanded, summary_on, nothing_replaced}

-- ---- kinds of entries differ

abbrev kind : Option Entry → ℕ
kind None = 0
kind (Some entries.Fresh) = 1
kind (Some entries.Open) = 2
kind (Some (entries.Known summary root)) = 3

known-open : (summary : Summary) (root : ℕ) → ◌≡◌ {A = Entry} (entries.Known summary root) entries.Open → ⊥
known-open summary root e = let k : 3 ≡ 2 = ap (λ x. kind (Some x)) e in omega (arith, k)

fresh-is-open : ◌≡◌ {A = Entry} entries.Fresh entries.Open → ⊥
fresh-is-open e = let k : 1 ≡ 2 = ap (λ x. kind (Some x)) e in omega (arith, k)

fresh-is-known : (summary : Summary) (root : ℕ) → ◌≡◌ {A = Entry} entries.Fresh (entries.Known summary root) → ⊥
fresh-is-known summary root e = let k : 1 ≡ 3 = ap (λ x. kind (Some x)) e in omega (arith, k)

open-is-known : (summary : Summary) (root : ℕ) → ◌≡◌ {A = Entry} entries.Open (entries.Known summary root) → ⊥
open-is-known summary root e = let k : 2 ≡ 3 = ap (λ x. kind (Some x)) e in omega (arith, k)

abbrev summary_in : Summary → Entry → Summary
summary_in other entries.Fresh = other
summary_in other entries.Open = other
summary_in other (entries.Known summary root) = summary

abbrev root_within : Entry → ℕ
root_within entries.Fresh = 0
root_within entries.Open = 0
root_within (entries.Known summary root) = root

last_or : (i n : ℕ) → i < suc n → (i < n) ⊎ (i ≡ n)
last_or i n h = grind arith

known_as : (bodies : Definitions) {m n : ℕ} {s t : Summary} {r q : ℕ} → m ≡ n → s ≡ t → r ≡ q → IsKnown bodies n t q → IsKnown bodies m s r
known_as bodies {m} {n} {s} {t} {r} {q} a b c is = subst (λ k. IsKnown bodies k s r) (sym a) (subst (λ k. IsKnown bodies n k r) (sym b) (subst (λ k. IsKnown bodies n t k) (sym c) is))

follows_as : (bodies : Definitions) (known : List Entry) {m n : ℕ} {s t : Summary} {r q : ℕ} → m ≡ n → s ≡ t → r ≡ q → Follows bodies known n t q → Follows bodies known m s r
follows_as bodies known {m} {n} {s} {t} {r} {q} a b c is = subst (λ k. Follows bodies known k s r) (sym a) (subst (λ k. Follows bodies known n k r) (sym b) (subst (λ k. Follows bodies known n t k) (sym c) is))

pub some_of : {A : Type 0} (o : Option A) → IsSome o → (x : A) × (o ≡ Some x)
some_of None h = absurd (false≢true h)
some_of (Some x) h = (x, refl)

nothing_counted : (known : List Entry) → summary_of known [] ≡ Ok no_parts
unfolding summary_of walk
nothing_counted known = refl

-- where a type that wasn't known is opened, what is known stays known
opening_keeps : (known : List Entry) (n : ℕ) → slice_get known n ≡ Some entries.Fresh → (bound : ℕ) → Keeps known (slice_set known n entries.Open) bound
opening_keeps known n fresh bound m summary root le e =
    elim (set_other known n entries.Open m (entries.Known summary root) e)
    [ inl same ↦ absurd (fresh-is-known summary root (same_Some entries.Fresh (entries.Known summary root) (sym fresh ∙ ap (slice_get known) (sym same) ∙ e))) | inr h ↦ h ]

-- what is counted stays so where what is known stays known
counted_keeps : (bodies : Definitions) (known after : List Entry) (frame : Frame) → ((bound : ℕ) → Keeps known after bound) → IsCounted bodies known frame → IsCounted bodies after frame
counted_keeps bodies known after frame keeps is = (is.0, is.1, summary_keeps known after frame.summary.rank (keeps frame.summary.rank) (take frame.position is.0) frame.summary is.2 (omega arith))

nothing_told : Tells no_parts []
unfolding node_count first_odd
nothing_told = (omega arith, refl)

-- a type with a definition is one of those that there are
has_body : (bodies : Definitions) (n : ℕ) (body : List Part) → definition bodies n ≡ Some body → n < length bodies
has_body [] n body e = absurd (none-some body e)
has_body (b ∷ bs) zero body e = omega arith
has_body (b ∷ bs) (suc n) body e = let h = has_body bs n body e in omega (arith, h)

item_of_replicated : {A : Type 0} (n k : ℕ) (x y : A) → slice_get (replicate n x) k ≡ Some y → y ≡ x
item_of_replicated zero k x y e = absurd (none-some y e)
item_of_replicated (suc n) zero x y e = sym (same_Some x y e)
item_of_replicated (suc n) (suc k) x y e = item_of_replicated n k x y e

-- ---- at first, nothing is known

pub untouched : (bodies : Definitions) → Sound bodies (replicate (length bodies) entries.Fresh) []
untouched bodies = record {
  size = length-replicate (length bodies) entries.Fresh;
  right = λ n summary root e. absurd (fresh-is-known summary root (sym (item_of_replicated (length bodies) n entries.Fresh (entries.Known summary root) e)));
  follows = λ n summary root e. absurd (fresh-is-known summary root (sym (item_of_replicated (length bodies) n entries.Fresh (entries.Known summary root) e)));
  idle = λ n entry none e. item_of_replicated (length bodies) n entries.Fresh entry e;
  opened = λ n e. absurd (fresh-is-open (sym (item_of_replicated (length bodies) n entries.Fresh entries.Open e)));
  runs = λ at frame e. absurd (none-some frame e);
  counted = λ at frame e. absurd (none-some frame e);
  linked = λ at lower upper e f. absurd (none-some lower e);
}

-- ---- the first definition

module _ (bodies : Definitions) (known : List Entry) (sound : Sound bodies known []) (n : ℕ) (body : List Part) (whole : definition bodies n ≡ Some body) (fresh : slice_get known n ≡ Some entries.Fresh) where
  abbrev first_frame : Frame
  first_frame = record { ty = n; position = 0; summary = no_parts }

  first_right : (m : ℕ) (summary : Summary) (root : ℕ) → slice_get (slice_set known n entries.Open) m ≡ Some (entries.Known summary root) → IsKnown bodies m summary root
  first_right m summary root e =
      elim (set_cases known n entries.Open m (entries.Known summary root) e)
      [ inl h ↦ absurd (known-open summary root h.1) | inr h ↦ sound.right m summary root h ]

  first_follows : (m : ℕ) (summary : Summary) (root : ℕ) → slice_get (slice_set known n entries.Open) m ≡ Some (entries.Known summary root) → Follows bodies (slice_set known n entries.Open) m summary root
  first_follows m summary root e =
      elim (set_cases known n entries.Open m (entries.Known summary root) e)
      [ inl h ↦ absurd (known-open summary root h.1) | inr h ↦ follows_keeps bodies known (slice_set known n entries.Open) (opening_keeps known n fresh) m summary root (sound.follows m summary root h) ]

  first_idle : (m : ℕ) (entry : Entry) → definition bodies m ≡ None → slice_get (slice_set known n entries.Open) m ≡ Some entry → entry ≡ entries.Fresh
  first_idle m entry none e =
      elim (set_cases known n entries.Open m entry e)
      [ inl h ↦ absurd (none-some body (sym none ∙ ap (definition bodies) h.0 ∙ whole)) | inr h ↦ sound.idle m entry none h ]

  first_counted : (at : ℕ) (one : Frame) → slice_get (first_frame ∷ []) at ≡ Some one → IsCounted bodies (slice_set known n entries.Open) one
  first_counted zero one e = subst (IsCounted bodies (slice_set known n entries.Open)) (same_Some first_frame one e) (body, whole, nothing_counted (slice_set known n entries.Open))
  first_counted (suc at) one e = absurd (none-some one e)

  first_opened : (m : ℕ) → slice_get (slice_set known n entries.Open) m ≡ Some entries.Open → (at : ℕ) × (one : Frame) × (slice_get (first_frame ∷ []) at ≡ Some one) × (one.ty ≡ m)
  first_opened m e =
      elim (set_cases known n entries.Open m entries.Open e) [
        | inl h ↦ (0, first_frame, refl, sym h.0)
        | inr h ↦ let o = sound.opened m h in absurd (none-some o.1 o.2)
      ]

  first_runs : (at : ℕ) (one : Frame) → slice_get (first_frame ∷ []) at ≡ Some one → IsRun bodies one
  first_runs zero one e = subst (IsRun bodies) (same_Some first_frame one e) (body, whole, ([], nothing_replaced 0 bodies, nothing_told))
  first_runs (suc at) one e = absurd (none-some one e)

  first_linked : (at : ℕ) (lower upper : Frame) → slice_get (first_frame ∷ []) at ≡ Some lower → slice_get (first_frame ∷ []) (suc at) ≡ Some upper → Mentions bodies lower.ty upper.ty
  first_linked at lower upper e f = absurd (none-some upper f)

  pub begun : Sound bodies (slice_set known n entries.Open) (first_frame ∷ [])
  begun = record {
    size = length-set known n entries.Open ∙ sound.size;
    right = first_right;
    follows = first_follows;
    idle = first_idle;
    opened = first_opened;
    runs = first_runs;
    counted = first_counted;
    linked = first_linked;
  }

  touches_first : Touches known (slice_set known n entries.Open)
  touches_first m e =
      elim (set_cases known n entries.Open m entries.Fresh e)
      [ inl h ↦ absurd (fresh-is-open h.1) | inr h ↦ h ]

  pub touched_since : (after : List Entry) → Touches (slice_set known n entries.Open) after → Touches known after
  touched_since after touched m e = touches_first m (touched m e)

  pub is_touched : (after : List Entry) → Touches (slice_set known n entries.Open) after → IsTouched bodies after n
  is_touched after touched other is e =
      fresh-is-open (same_Some entries.Fresh entries.Open (sym (touched n e) ∙ set_same known n entries.Open (rw sound.size (has_body bodies n body whole))))

  pub started_then : (after : Resolver) (result : Result (Unit {0}) Fault) → Settled bodies (slice_set known n entries.Open) after result → Started bodies n known after result
  started_then after (Ok done) s = (s.0, touched_since after.entries s.1, s.2, is_touched after.entries s.1)
  started_then after (Err fault) s = s

-- ---- at last, all is known

module _ (bodies : Definitions) (known : List Entry) (sound : Sound bodies known []) where
  known_then : (n : ℕ) (entry : Entry) → slice_get known n ≡ Some entry → (slice_get known n ≡ Some entries.Fresh → ⊥) → (summary : Summary) × (root : ℕ) × (slice_get known n ≡ Some (entries.Known summary root))
  known_then n entries.Fresh here touched = absurd (touched here)
  known_then n entries.Open here touched = let o = sound.opened n here in absurd (none-some o.1 o.2)
  known_then n (entries.Known summary root) here touched = (summary, root, here)

  pub resolved : AreTouched bodies known (length bodies) → AreResolved bodies known
  resolved touched = record {
    size = sound.size;
    right = sound.right;
    follows = sound.follows;
    idle = sound.idle;
    whole = λ n body is. let at : n < length known = rw sound.size (has_body bodies n body is) in known_then n (get_or known n entries.Fresh) (slice_get-get_or known n entries.Fresh at) (touched n body (behind n (has_body bodies n body is)) is);
  }
    where
      behind : (n : ℕ) → n < length bodies → suc n ≤ length bodies
      behind n lt = omega arith

pub touched_one_more : (bodies : Definitions) (before after : List Entry) (count : ℕ) → AreTouched bodies before count → Touches before after → IsTouched bodies after count → AreTouched bodies after (count + 1)
touched_one_more bodies before after count all touched one n body le is e =
    elim (last_or n count (omega (arith, le)))
    [ inl less ↦ all n body (omega (arith, less)) is (touched n e) | inr same ↦ one body (subst (λ k. definition bodies k ≡ Some body) same is) (subst (λ k. slice_get after k ≡ Some entries.Fresh) same e) ]

-- ---- one part further

module _ (bodies : Definitions) (known : List Entry) (frames : List Frame) (frame : Frame) (sound : Sound bodies known (frames ++ frame ∷ [])) where
  top : IsRun bodies frame
  top = sound.runs (length frames) frame (get_last frames frame)

  counted_in : (body : List Part) → definition bodies frame.ty ≡ Some body → summary_of known (take frame.position body) ≡ Ok frame.summary
  counted_in body is =
      let c = sound.counted (length frames) frame (get_last frames frame) in
      subst (λ b. summary_of known (take frame.position b) ≡ Ok frame.summary) (same_Some c.0 body (sym c.1 ∙ is)) c.2

  counted_on : (ps : List Part) (part : Part) (summary : Summary) → summary_of known ps ≡ Ok frame.summary → summary_step known frame.summary part ≡ Ok summary → summary_of known (ps ++ part ∷ []) ≡ Ok summary
  unfolding summary_of
  counted_on ps part summary e step = walk_last (summary_step known) no_parts frame.summary summary ps part e step

  same_body : (body : List Part) → definition bodies frame.ty ≡ Some body → top.0 ≡ body
  same_body body is = same_Some top.0 body (sym top.1 ∙ is)

  -- the frames below one that is replaced by another of the same type
  module _ (after : Frame) (same : after.ty ≡ frame.ty) (is_run : IsRun bodies after) (is_counted : IsCounted bodies known after) where
    runs_then : (at : ℕ) (one : Frame) → slice_get (frames ++ after ∷ []) at ≡ Some one → IsRun bodies one
    runs_then at one e =
        elim (get_either frames after at one e)
        [ inl h ↦ sound.runs at one (get_front frames frame at one h) | inr h ↦ subst (IsRun bodies) (sym h.1) is_run ]

    counted_then : (at : ℕ) (one : Frame) → slice_get (frames ++ after ∷ []) at ≡ Some one → IsCounted bodies known one
    counted_then at one e =
        elim (get_either frames after at one e)
        [ inl h ↦ sound.counted at one (get_front frames frame at one h) | inr h ↦ subst (IsCounted bodies known) (sym h.1) is_counted ]

    opened_then : (n : ℕ) → slice_get known n ≡ Some entries.Open → (at : ℕ) × (one : Frame) × (slice_get (frames ++ after ∷ []) at ≡ Some one) × (one.ty ≡ n)
    opened_then n e =
        let o = sound.opened n e in
        elim (get_either frames frame o.0 o.1 o.2) [
          | inl h ↦ (o.0, o.1, get_front frames after o.0 o.1 h, o.3)
          | inr h ↦ (length frames, after, get_last frames after, same ∙ ap (λ f. f.ty) (sym h.1) ∙ o.3)
        ]

    linked_then : (at : ℕ) (lower upper : Frame) → slice_get (frames ++ after ∷ []) at ≡ Some lower → slice_get (frames ++ after ∷ []) (suc at) ≡ Some upper → Mentions bodies lower.ty upper.ty
    linked_then at lower upper e f =
        elim (get_either frames after (suc at) upper f) [
          | inl h ↦ sound.linked at lower upper (below_front h) (get_front frames frame (suc at) upper h)
          | inr h ↦ subst (λ t. Mentions bodies lower.ty t) (sym (ap (λ g. g.ty) h.1 ∙ same)) (sound.linked at lower frame (below_top h.0) (subst (λ k. slice_get (frames ++ frame ∷ []) k ≡ Some frame) (sym h.0) (get_last frames frame)))
        ]
      where
        lower_in : suc at ≤ length frames → slice_get (frames ++ frame ∷ []) at ≡ Some lower
        lower_in le =
            elim (get_either frames after at lower e)
            [ inl h ↦ get_front frames frame at lower h | inr h ↦ absurd (omega (arith, h.0)) ]

        below_front : slice_get frames (suc at) ≡ Some upper → slice_get (frames ++ frame ∷ []) at ≡ Some lower
        below_front h = let w = slice_get_within frames (suc at) upper h in lower_in (omega (arith, w))

        below_top : suc at ≡ length frames → slice_get (frames ++ frame ∷ []) at ≡ Some lower
        below_top h = lower_in (omega (arith, h))

    pub sound_then : Sound bodies known (frames ++ after ∷ [])
    sound_then = record {
      size = sound.size;
      right = sound.right;
      follows = sound.follows;
      idle = sound.idle;
      opened = opened_then;
      runs = runs_then;
      counted = counted_then;
      linked = linked_then;
    }

  pub passed : (part : Part) (summary : Summary) (next : ℕ) → IsAt bodies frame part → summary_step known frame.summary part ≡ Ok summary → next ≡ frame.position + 1
      → Sound bodies known (frames ++ record { ty = frame.ty; position = next; summary = summary } ∷ [])
  passed part summary next here step is =
      sound_then (record { ty = frame.ty; position = next; summary = summary }) refl (
        here.0,
        here.1,
        subst (λ ps. IsSummary bodies ps summary) (sym (ap (λ k. take k here.0) (is ∙ add-one frame.position) ∙ take_next here.0 frame.position part here.2))
            (summary_on bodies known sound.right (take frame.position here.0) part frame.summary summary step
            (subst (λ b. IsSummary bodies (take frame.position b) frame.summary) (same_body here.0 here.1) top.2)),
      ) (
        here.0,
        here.1,
        subst (λ ps. summary_of known ps ≡ Ok summary) (sym (ap (λ k. take k here.0) (is ∙ add-one frame.position) ∙ take_next here.0 frame.position part here.2))
            (counted_on (take frame.position here.0) part summary (counted_in here.0 here.1) step),
      )

  -- ---- into a definition

  module _ (n left : ℕ) (here : IsAt bodies frame (parts.Named n left)) (fresh : slice_get known n ≡ Some entries.Fresh) (body : List Part) (whole : definition bodies n ≡ Some body) where
    abbrev inner : Frame
    inner = record { ty = n; position = 0; summary = no_parts }

    abbrev below : List Frame
    below = frames ++ frame ∷ []

    right_in : (m : ℕ) (summary : Summary) (root : ℕ) → slice_get (slice_set known n entries.Open) m ≡ Some (entries.Known summary root) → IsKnown bodies m summary root
    right_in m summary root e =
        elim (set_cases known n entries.Open m (entries.Known summary root) e)
        [ inl h ↦ absurd (known-open summary root h.1) | inr h ↦ sound.right m summary root h ]

    follows_in : (m : ℕ) (summary : Summary) (root : ℕ) → slice_get (slice_set known n entries.Open) m ≡ Some (entries.Known summary root) → Follows bodies (slice_set known n entries.Open) m summary root
    follows_in m summary root e =
        elim (set_cases known n entries.Open m (entries.Known summary root) e)
        [ inl h ↦ absurd (known-open summary root h.1) | inr h ↦ follows_keeps bodies known (slice_set known n entries.Open) (opening_keeps known n fresh) m summary root (sound.follows m summary root h) ]

    idle_in : (m : ℕ) (entry : Entry) → definition bodies m ≡ None → slice_get (slice_set known n entries.Open) m ≡ Some entry → entry ≡ entries.Fresh
    idle_in m entry none e =
        elim (set_cases known n entries.Open m entry e)
        [ inl h ↦ absurd (none-some body (sym none ∙ ap (definition bodies) h.0 ∙ whole)) | inr h ↦ sound.idle m entry none h ]

    counted_inside : (at : ℕ) (one : Frame) → slice_get (below ++ inner ∷ []) at ≡ Some one → IsCounted bodies (slice_set known n entries.Open) one
    counted_inside at one e =
        elim (get_either below inner at one e) [
          | inl h ↦ counted_keeps bodies known (slice_set known n entries.Open) one (opening_keeps known n fresh) (sound.counted at one h)
          | inr h ↦ subst (IsCounted bodies (slice_set known n entries.Open)) (sym h.1) (body, whole, nothing_counted (slice_set known n entries.Open))
        ]

    opened_in : (m : ℕ) → slice_get (slice_set known n entries.Open) m ≡ Some entries.Open → (at : ℕ) × (one : Frame) × (slice_get (below ++ inner ∷ []) at ≡ Some one) × (one.ty ≡ m)
    opened_in m e =
        elim (set_cases known n entries.Open m entries.Open e) [
          | inl h ↦ (length below, inner, get_last below inner, sym h.0)
          | inr h ↦ let o = sound.opened m h in (o.0, o.1, get_front below inner o.0 o.1 o.2, o.3)
        ]

    runs_in : (at : ℕ) (one : Frame) → slice_get (below ++ inner ∷ []) at ≡ Some one → IsRun bodies one
    runs_in at one e =
        elim (get_either below inner at one e) [
          | inl h ↦ sound.runs at one h
          | inr h ↦ subst (IsRun bodies) (sym h.1) (body, whole, ([], nothing_replaced 0 bodies, nothing_told))
        ]

    linked_in : (at : ℕ) (lower upper : Frame) → slice_get (below ++ inner ∷ []) at ≡ Some lower → slice_get (below ++ inner ∷ []) (suc at) ≡ Some upper → Mentions bodies lower.ty upper.ty
    linked_in at lower upper e f =
        elim (get_either below inner (suc at) upper f) [
          | inl h ↦ sound.linked at lower upper (low (slice_get_within below (suc at) upper h)) h
          | inr h ↦ subst (λ g. Mentions bodies lower.ty g.ty) (sym h.1) (subst (λ g. Mentions bodies g.ty n) (is_frame h.0) (left, (here.0, frame.position, here.1, here.2)))
        ]
      where
        low : suc at < length below → slice_get below at ≡ Some lower
        low lt =
            elim (get_either below inner at lower e)
            [ inl h ↦ h | inr h ↦ absurd (omega (arith, h.0)) ]

        is_frame : suc at ≡ length below → frame ≡ lower
        is_frame h =
            let here_low : slice_get below at ≡ Some lower = elim (get_either below inner at lower e) [ inl g ↦ g | inr g ↦ absurd (omega (arith, g.0, h)) ] in
            elim (get_either frames frame at lower here_low)
            [ inl g ↦ absurd (past (slice_get_within frames at lower g) h) | inr g ↦ sym g.1 ]
          where
            past : at < length frames → suc at ≡ length below → ⊥
            past lt e = let w = slice_get_within below (length frames) frame (get_last frames frame) in omega (arith, e, lt, w)

    pub entered : Sound bodies (slice_set known n entries.Open) (below ++ inner ∷ [])
    entered = record {
      size = length-set known n entries.Open ∙ sound.size;
      right = right_in;
      follows = follows_in;
      idle = idle_in;
      opened = opened_in;
      runs = runs_in;
      counted = counted_inside;
      linked = linked_in;
    }

    pub touches : Touches known (slice_set known n entries.Open)
    touches m e =
        elim (set_cases known n entries.Open m entries.Fresh e)
        [ inl h ↦ absurd (fresh-is-open h.1) | inr h ↦ h ]

  -- ---- a type that holds itself

  chain : (to at : ℕ) (lower upper : Frame) → at < to → slice_get (frames ++ frame ∷ []) at ≡ Some lower → slice_get (frames ++ frame ∷ []) to ≡ Some upper → Holds bodies lower.ty upper.ty
  chain zero at lower upper lt e f = absurd (omega arith)
  chain (suc to) at lower upper lt e f =
      elim (last_or at to lt) [
        | inl less ↦ let m = get_before (frames ++ frame ∷ []) to upper f in further (chain to at lower m.0 less e m.1) (sound.linked to m.0 upper m.1 f)
        | inr same ↦ directly (sound.linked to lower upper (subst (λ k. slice_get (frames ++ frame ∷ []) k ≡ Some lower) same e) f)
      ]

  pub holds_itself : (n left : ℕ) → IsAt bodies frame (parts.Named n left) → slice_get known n ≡ Some entries.Open → Holds bodies n n
  holds_itself n left here is_open =
      let o = sound.opened n is_open in
      let edge : Mentions bodies frame.ty n = (left, (here.0, frame.position, here.1, here.2)) in
      elim (get_either frames frame o.0 o.1 o.2) [
        | inl h ↦ further (subst (λ t. Holds bodies t frame.ty) o.3 (chain (length frames) o.0 o.1 frame (slice_get_within frames o.0 o.1 h) o.2 (get_last frames frame))) edge
        | inr h ↦ directly (subst (λ t. Mentions bodies t n) (sym (ap (λ g. g.ty) h.1) ∙ o.3) edge)
      ]

  -- ---- a definition that ends

  module _ (body : List Part) (whole : definition bodies frame.ty ≡ Some body) (ends : length body ≤ frame.position) where
    all_of : (flat : List Part) × (replaced frame.summary.rank bodies body ≡ Some flat) × Tells frame.summary flat
    all_of = subst (λ ps. IsSummary bodies ps frame.summary) (take_all frame.position body ends) (subst (λ b. IsSummary bodies (take frame.position b) frame.summary) (same_body body whole) top.2)

    own : expansion (suc frame.summary.rank) bodies frame.ty ≡ Some all_of.0
    own = expanded frame.summary.rank bodies frame.ty body all_of.0 whole all_of.1

    rooted : (root : ℕ) → root ≡ root_of known frame.ty frame.summary.rank body → expansion (suc frame.summary.rank) bodies root ≡ Some all_of.0
    rooted root is = subst (λ r. expansion (suc frame.summary.rank) bodies r ≡ Some all_of.0) (sym is) (by_length (nat_eq (length body) 1) refl)
      where
        by_rank : (n left : ℕ) (named : Summary) (r : ℕ) → body ≡ parts.Named n left ∷ [] → slice_get known n ≡ Some (entries.Known named r) → (b : Bool) → nat_le named.rank frame.summary.rank ≡ b
            → expansion (suc frame.summary.rank) bodies (if b then r else frame.ty) ≡ Some all_of.0
        by_rank n left named r alone here false h = own
        by_rank n left named r alone here true h =
            let k = sound.right n named r here in
            let le : named.rank ≤ frame.summary.rank = grind (arith, nat_tests) in
            let mine = name_alone frame.summary.rank bodies n left all_of.0 (subst (λ ps. replaced frame.summary.rank bodies ps ≡ Some all_of.0) alone all_of.1) in
            let theirs = deeper bodies named.rank frame.summary.rank n k.0 le k.1 in
            let same : k.0 ≡ all_of.0 = same_Some k.0 all_of.0 (sym theirs ∙ mine) in
            deeper bodies named.rank (suc frame.summary.rank) r k.0 (omega (arith, le)) k.2 ∙ ap Some same

        by_entry : (n left : ℕ) → body ≡ parts.Named n left ∷ [] → (entry : Option Entry) → slice_get known n ≡ entry → expansion (suc frame.summary.rank) bodies (root_in frame.ty frame.summary.rank entry) ≡ Some all_of.0
        by_entry n left alone None here = own
        by_entry n left alone (Some entries.Fresh) here = own
        by_entry n left alone (Some entries.Open) here = own
        by_entry n left alone (Some (entries.Known named r)) here = by_rank n left named r alone here (nat_le named.rank frame.summary.rank) refl

        by_first : length body ≡ 1 → (first : Option Part) → slice_get body 0 ≡ first → expansion (suc frame.summary.rank) bodies (root_at known frame.ty frame.summary.rank first) ≡ Some all_of.0
        by_first one None here = own
        by_first one (Some (parts.Named n left)) here = by_entry n left (one_item body (parts.Named n left) one here) (slice_get known n) refl
        by_first one (Some (parts.Int w left)) here = own
        by_first one (Some parts.Ptr) here = own
        by_first one (Some (parts.Array count)) here = own
        by_first one (Some parts.Struct) here = own
        by_first one (Some parts.Packed) here = own
        by_first one (Some parts.Close) here = own

        by_length : (b : Bool) → nat_eq (length body) 1 ≡ b → expansion (suc frame.summary.rank) bodies (if b then root_at known frame.ty frame.summary.rank (slice_get body 0) else frame.ty) ≡ Some all_of.0
        by_length false h = own
        by_length true h = let one : length body ≡ 1 = grind (arith, nat_tests) in by_first one (slice_get body 0) refl

    module _ (rank root : ℕ) (above : rank ≡ frame.summary.rank + 1) (is : root ≡ root_of known frame.ty frame.summary.rank body) where
      abbrev summary : Summary
      summary = record { nodes = frame.summary.nodes; odd = frame.summary.odd; rank = rank }

      is_known : IsKnown bodies frame.ty summary root
      is_known =
          let up : suc frame.summary.rank ≡ rank = sym (above ∙ add-one frame.summary.rank) in (
            all_of.0,
            subst (λ r. expansion r bodies frame.ty ≡ Some all_of.0) up own,
            subst (λ r. expansion r bodies root ≡ Some all_of.0) up (rooted root is),
            all_of.2,
          )

      right_at : (m : ℕ) (s : Summary) (r : ℕ) → slice_get (slice_set known frame.ty (entries.Known summary root)) m ≡ Some (entries.Known s r) → IsKnown bodies m s r
      right_at m s r e =
          elim (set_cases known frame.ty (entries.Known summary root) m (entries.Known s r) e)
          [ inl h ↦ known_as bodies h.0 (ap (summary_in s) h.1) (ap root_within h.1) is_known | inr h ↦ sound.right m s r h ]

      counted_all : summary_of known body ≡ Ok frame.summary
      counted_all = subst (λ ps. summary_of known ps ≡ Ok frame.summary) (take_all frame.position body ends) (counted_in body whole)

      is_following : Follows bodies known frame.ty summary root
      is_following = (body, frame.summary, whole, counted_all, ap (λ k. record { nodes = frame.summary.nodes; odd = frame.summary.odd; rank = k }) above, is)

      -- a type that was known already is known as before
      finish_keeps : (bound : ℕ) → Keeps known (slice_set known frame.ty (entries.Known summary root)) bound
      finish_keeps bound m s r le e =
          elim (set_other known frame.ty (entries.Known summary root) m (entries.Known s r) e)
          [ inl same ↦ again same | inr h ↦ h ]
        where
          again : m ≡ frame.ty → slice_get (slice_set known frame.ty (entries.Known summary root)) m ≡ Some (entries.Known s r)
          again same =
              let f = sound.follows m s r e in
              let b : f.0 ≡ body = same_Some f.0 body (sym f.2 ∙ ap (definition bodies) same ∙ whole) in
              let t : f.1 ≡ frame.summary = same_Ok f.1 frame.summary (sym f.3 ∙ ap (summary_of known) b ∙ counted_all) in
              let ss : summary ≡ s = ap (λ k. record { nodes = frame.summary.nodes; odd = frame.summary.odd; rank = k }) above ∙ sym (f.4 ∙ ap closing t) in
              let rr : root ≡ r = is ∙ sym (f.5 ∙ ap (λ k. root_of known k f.1.rank f.0) same ∙ ap (λ k. root_of known frame.ty k.rank f.0) t ∙ ap (root_of known frame.ty frame.summary.rank) b) in
              ap (slice_get (slice_set known frame.ty (entries.Known summary root))) same
              ∙ set_same known frame.ty (entries.Known summary root) (rw sound.size (has_body bodies frame.ty body whole))
              ∙ ap (λ k. Some (entries.Known k root)) ss ∙ ap (λ k. Some (entries.Known s k)) rr

      follows_at : (m : ℕ) (s : Summary) (r : ℕ) → slice_get (slice_set known frame.ty (entries.Known summary root)) m ≡ Some (entries.Known s r) → Follows bodies known m s r
      follows_at m s r e =
          elim (set_cases known frame.ty (entries.Known summary root) m (entries.Known s r) e)
          [ inl h ↦ follows_as bodies known h.0 (ap (summary_in s) h.1) (ap root_within h.1) is_following | inr h ↦ sound.follows m s r h ]

      idle_at : (m : ℕ) (entry : Entry) → definition bodies m ≡ None → slice_get (slice_set known frame.ty (entries.Known summary root)) m ≡ Some entry → entry ≡ entries.Fresh
      idle_at m entry none e =
          elim (set_cases known frame.ty (entries.Known summary root) m entry e)
          [ inl h ↦ absurd (none-some body (sym none ∙ ap (definition bodies) h.0 ∙ whole)) | inr h ↦ sound.idle m entry none h ]

      opened_at : (m : ℕ) → slice_get (slice_set known frame.ty (entries.Known summary root)) m ≡ Some entries.Open → (at : ℕ) × (one : Frame) × (slice_get frames at ≡ Some one) × (one.ty ≡ m)
      opened_at m e =
          elim (set_cases known frame.ty (entries.Known summary root) m entries.Open e)
          [ inl h ↦ absurd (open-is-known summary root h.1) | inr h ↦ old h ]
        where
          within : frame.ty < length known
          within = rw sound.size (has_body bodies frame.ty body whole)

          not_now : frame.ty ≡ m → ⊥
          not_now same =
              let now = subst (λ k. slice_get (slice_set known frame.ty (entries.Known summary root)) k ≡ Some entries.Open) (sym same) e in
              open-is-known summary root (same_Some entries.Open (entries.Known summary root) (sym now ∙ set_same known frame.ty (entries.Known summary root) within))

          old : slice_get known m ≡ Some entries.Open → (at : ℕ) × (one : Frame) × (slice_get frames at ≡ Some one) × (one.ty ≡ m)
          old h =
              let o = sound.opened m h in
              elim (get_either frames frame o.0 o.1 o.2)
              [ inl g ↦ (o.0, o.1, g, o.3) | inr g ↦ absurd (not_now (sym (ap (λ f. f.ty) g.1) ∙ o.3)) ]

      pub finished : Sound bodies (slice_set known frame.ty (entries.Known summary root)) frames
      finished = record {
        size = length-set known frame.ty (entries.Known summary root) ∙ sound.size;
        right = right_at;
        follows = λ m s r e. follows_keeps bodies known (slice_set known frame.ty (entries.Known summary root)) finish_keeps m s r (follows_at m s r e);
        idle = idle_at;
        opened = opened_at;
        runs = λ at one e. sound.runs at one (get_front frames frame at one e);
        counted = λ at one e. counted_keeps bodies known (slice_set known frame.ty (entries.Known summary root)) one finish_keeps (sound.counted at one (get_front frames frame at one e));
        linked = λ at lower upper e f. sound.linked at lower upper (get_front frames frame at lower e) (get_front frames frame (suc at) upper f);
      }

      pub finish_touches : Touches known (slice_set known frame.ty (entries.Known summary root))
      finish_touches m e =
          elim (set_cases known frame.ty (entries.Known summary root) m entries.Fresh e)
          [ inl h ↦ absurd (fresh-is-known summary root h.1) | inr h ↦ h ]
