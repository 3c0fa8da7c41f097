-- What a hart waits for, and how it goes on past what it wants counted.
use Rattle.std.proofs.Common.{◌≡◌, ◌≢◌, ℕ, ◌-◌, ◌≤◌, List, [], ◌++◌, length, length-append, replicate, drop, refl, sym, ap, subst, ◌∙◌, arith}
use Rattle.std.proofs.lemmas.List.{append-nil, length-replicate, length-drop}
use Rattle.ir_meaning.specs.declared.calls.Ended.{Ended}
use Rattle.rv_play.specs.Machine.{data_base}
use Rattle.ir_meaning.specs.Plays.{Meaning}
use Rattle.rv_play.specs.Ending.{Item}
use Rattle.hart.specs.declared.hart.Hart.{Hart}
use Rattle.hart.specs.declared.hart.Image.{Image}
use Rattle.hart.specs.declared.hart.Wanted.{Wanted}
use Rattle.hart.specs.declared.hart.Wanted.TheVariants as wanted
use Rattle.hart.specs.declared.hart.Given.TheVariants as given
use Rattle.hart.specs.declared.hart.Phase.{Phase}
use Rattle.hart.specs.declared.hart.Phase.TheVariants as phase
use Rattle.hart.specs.Standing.{IsAsked, IsGiven, IsNext, wanted_by, with_counted, item_of, rest_of}
use Rattle.hart.specs.Calls.{Origin, Stands, EndedOver, HasRoomFor, ending_from, with_image}
use Rattle.hart.proofs.Asking.{at_done, at_begin}
use Rattle.jit_core.specs.declared.seat.Stage.TheVariants as stage
use Rattle.jit_core.specs.Seats.{WaitsFor, GoesOn}

-- a call that goes on wants something, or its end
pub next_asked : (h : Hart) (p : Phase) (w : Wanted) → GoesOn p → IsNext p h w → IsAsked h w
next_asked h phase.Idle w g n = absurd g
next_asked h phase.Start w g n = absurd g
next_asked h phase.Begin w g n = n
next_asked h phase.Fetch w g n = n
next_asked h (phase.Cell rd symbol) w g n = n
next_asked h (phase.Count symbol) w g n = n
next_asked h (phase.End e) w g n = absurd g
next_asked h (phase.Done e) w g n = absurd g

waits-cell : (h : Hart) (p : Phase) (symbol : ℕ) → wanted_by h p (wanted.Cell symbol) → IsAsked h (wanted.Cell symbol) → h.phase ≡ p → WaitsFor h (stage.Cell symbol)
waits-cell h phase.Idle symbol b a e = absurd b
waits-cell h phase.Start symbol b a e = absurd b
waits-cell h phase.Begin symbol b a e = absurd (cc)
waits-cell h phase.Fetch symbol b a e = absurd (cc)
waits-cell h (phase.Cell rd k) symbol b a e = let same : symbol ≡ k = cc in (rd, e ∙ ap (λ (n : ℕ). phase.Cell rd n) (sym same), a)
waits-cell h (phase.Count k) symbol b a e = absurd (cc)
waits-cell h (phase.End x) symbol b a e = absurd (cc)
waits-cell h (phase.Done x) symbol b a e = absurd (cc)

pub waits_cell : (h : Hart) (symbol : ℕ) → wanted_by h h.phase (wanted.Cell symbol) → IsAsked h (wanted.Cell symbol) → WaitsFor h (stage.Cell symbol)
waits_cell h symbol b a = waits-cell h h.phase symbol b a refl

waits-word : (h : Hart) (p : Phase) (a : ℕ) → wanted_by h p (wanted.Fetch a) → IsAsked h (wanted.Fetch a) → h.phase ≡ p → WaitsFor h (stage.Fetch a)
waits-word h phase.Idle x b a e = absurd b
waits-word h phase.Start x b a e = absurd b
waits-word h phase.Begin x b a e = absurd (cc)
waits-word h phase.Fetch x b a e = let same : x ≡ h.regs.pc = cc in (e, same, a)
waits-word h (phase.Cell rd k) x b a e = absurd (cc)
waits-word h (phase.Count k) x b a e = absurd (cc)
waits-word h (phase.End y) x b a e = absurd (cc)
waits-word h (phase.Done y) x b a e = absurd (cc)

pub waits_word : (h : Hart) (a : ℕ) → wanted_by h h.phase (wanted.Fetch a) → IsAsked h (wanted.Fetch a) → WaitsFor h (stage.Fetch a)
waits_word h a b asked = waits-word h h.phase a b asked refl

waits-end : (h : Hart) (p : Phase) → wanted_by h p wanted.End → h.phase ≡ p → WaitsFor h stage.End
waits-end h phase.Idle b e = absurd b
waits-end h phase.Start b e = absurd b
waits-end h phase.Begin b e = absurd (cc)
waits-end h phase.Fetch b e = absurd (cc)
waits-end h (phase.Cell rd k) b e = absurd (cc)
waits-end h (phase.Count k) b e = absurd (cc)
waits-end h (phase.End x) b e = (x, e)
waits-end h (phase.Done x) b e = absurd (cc)

pub waits_end : (h : Hart) → wanted_by h h.phase wanted.End → WaitsFor h stage.End
waits_end h b = waits-end h h.phase b refl

-- the wishes that leave the loop
pub record IsCount (w : Wanted) : Type 0 where
  pub cell : (k : ℕ) → w ≢ wanted.Cell k
  pub word : (a : ℕ) → w ≢ wanted.Fetch a
  pub end : w ≢ wanted.End

counts : (h : Hart) (p : Phase) (w : Wanted) → wanted_by h p w → IsAsked h w → IsCount w → (k : ℕ) × (p ≡ phase.Count k)
counts h phase.Idle w b a n = absurd b
counts h phase.Start w b a n = absurd b
counts h phase.Begin w b a n = absurd (subst (λ (v : Wanted). IsAsked h v) b a)
counts h phase.Fetch w b a n = absurd (n.word h.regs.pc b)
counts h (phase.Cell rd k) w b a n = absurd (n.cell k b)
counts h (phase.Count k) w b a n = (k, refl)
counts h (phase.End x) w b a n = absurd (n.end b)
counts h (phase.Done x) w b a n = absurd (subst (λ (v : Wanted). IsAsked h v) b a)

pub counting : (h : Hart) (w : Wanted) → wanted_by h h.phase w → IsAsked h w → IsCount w → (k : ℕ) × (h.phase ≡ phase.Count k)
counting h w b a n = counts h h.phase w b a n

pub count_given : (h : Hart) (k : ℕ) → h.phase ≡ phase.Count k → IsGiven h.phase given.Nothing
count_given h k e = subst (λ (p : Phase). IsGiven p given.Nothing) (sym e) refl

pub count_next : (h h' : Hart) (k : ℕ) (w : Wanted) → h.phase ≡ phase.Count k → IsNext h.phase h' w → IsAsked h' w
count_next h h' k w e n = subst (λ (p : Phase). IsNext p h' w) e n

-- a count adds nothing to the pass
pub count_stands : (h h' : Hart) (k : ℕ) (m : Meaning) (o : Origin) (pass : List Item) (counted : List ℕ) → h.phase ≡ phase.Count k
    → Stands m o h' (pass ++ item_of h h.phase given.Nothing) counted → Stands m o h' pass counted
count_stands h h' k m o pass counted e s =
    subst (λ (l : List Item). Stands m o h' l counted) (append-nil pass) (subst (λ (p : Phase). Stands m o h' (pass ++ item_of h p given.Nothing) counted) e s)

-- a call that has ended has its answer
pub has_answer : (h h' : Hart) (e0 e : Ended) (w : Wanted) (m : Meaning) (o : Origin) (pass : List Item) (counted : List ℕ) → h.phase ≡ phase.End e0 → wanted_by h' h'.phase w → w ≡ wanted.Done e
    → Stands m o h' (pass ++ item_of h h.phase given.Nothing) (with_counted h'.phase counted) → EndedOver m o pass e h' counted
has_answer h h' e0 e w m o pass counted ends wants is s =
    let done : h'.phase ≡ phase.Done e = at_done h' h'.phase w e wants is in
    let t : Stands m o h' (pass ++ []) counted = subst (λ (p : Phase). Stands m o h' (pass ++ item_of h p given.Nothing) counted) ends (subst (λ (p : Phase). Stands m o h' (pass ++ item_of h h.phase given.Nothing) (with_counted p counted)) done s) in
    let u : Stands m o h' pass counted = subst (λ (l : List Item). Stands m o h' l counted) (append-nil pass) t in
    ap (λ (l : List Item). ending_from m o l) (sym (append-nil pass)) ∙ u.goes [] ∙ ap (λ (p : Phase). rest_of m h' p counted []) done

-- a call that was started stands for nothing yet when it begins
pub begun : (h h' : Hart) (w : Wanted) → h.phase ≡ phase.Start → wanted_by h' h'.phase w → IsNext h.phase h' w → h'.phase ≡ phase.Begin
begun h h' w starts wants next = at_begin h' h'.phase w wants (subst (λ (p : Phase). IsNext p h' w) starts next)

pub begun_stands : (h h' : Hart) (m : Meaning) (o : Origin) → h.phase ≡ phase.Start → h'.phase ≡ phase.Begin
    → Stands m o h' ([] ++ item_of h h.phase given.Nothing) (with_counted h'.phase []) → Stands m o h' [] []
begun_stands h h' m o starts begins s =
    subst (λ (p : Phase). Stands m o h' (item_of h p given.Nothing) []) starts (subst (λ (p : Phase). Stands m o h' (item_of h h.phase given.Nothing) (with_counted p [])) begins s)

pub goes_on : (h h' : Hart) (m : Meaning) (o : Origin) → h.phase ≡ phase.Begin
    → ((all : List ℕ) × Stands m o h' ([] ++ item_of h h.phase given.Nothing) all) → (all : List ℕ) × Stands m o h' [] all
goes_on h h' m o begins t = subst (λ (p : Phase). (all : List ℕ) × Stands m o h' (item_of h p given.Nothing) all) begins t

pub begin_given : (h : Hart) → h.phase ≡ phase.Begin → IsGiven h.phase given.Nothing × GoesOn h.phase
begin_given h e = subst (λ (p : Phase). IsGiven p given.Nothing × GoesOn p) (sym e) (refl, tt)

-- the image leaves the bytes as many
pub image_length : (image : Image) (bytes : List ℕ) → HasRoomFor (length bytes) image → length (with_image image bytes) ≡ length bytes
image_length image bytes room =
    let n = image.top - data_base in
    let low : length image.bytes ≤ n = (let a = room.low in omega arith) in
    let high : n ≤ length bytes = (let a = room.high in omega arith) in
    let a = length-append image.bytes (replicate (n - length image.bytes) 0 ++ drop n bytes) in
    let b = length-append (replicate (n - length image.bytes) 0) (drop n bytes) in
    let c = length-replicate {A = ℕ} (n - length image.bytes) 0 in
    let d = length-drop n bytes in
    omega (arith, a, b, c, d)
