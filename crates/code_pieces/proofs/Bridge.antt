-- Assembled words stand as the items of which they were made.
use Rattle.std.proofs.Common.{◌≡◌, ◌≢◌, refl, sym, ap, subst, ◌∙◌, ℕ, zero, suc, ◌+◌, ◌-◌, ◌*◌, ◌/◌, ◌%◌, ◌^◌, ◌<◌, ◌≤◌, ◌⊎◌, inl, inr, List, [], ◌∷◌, length, Option, Some, None, Bool, true, false, cond, arith}
use Rattle.std.specs.Prelude.{slice_get, slice_index_or, nat_le, ◌==◌, ◌&&◌}
use Rattle.std.proofs.lemmas.Bool.{cases_lt, leb-true, eqb-true}
use Rattle.std.proofs.lemmas.Option.{slice_get_within}
use Rattle.rv_core.specs.declared.reg.Reg.TheVariants.{Sp}
use Rattle.rv_core.specs.declared.instr.Instr.{Instr}
use Rattle.rv_core.specs.Step.{Registers, read, is_taken}
use Rattle.rv_encode.specs.Reading.{instr_of}
use Rattle.ir_meaning.specs.Plays.{Meaning}
use Rattle.rv_play.specs.Machine.{code_base, code_limit}
use Rattle.rv_play.specs.CodePlay.{Place, Point, option_bind, word_at}
use Rattle.rv_asm.specs.Code.{Code, item_at, target}
use Rattle.rv_asm.specs.Runs.{Arrives, ItemStands, ItemsStand, spelled, RunsAs, StandsAs as Runs}
use Rattle.rv_asm.specs.Runs as asm
use Rattle.rv_asm.specs.declared.item.Item.{Item as Assembled}
use Rattle.rv_asm.specs.declared.item.Item.TheVariants as asm_item
use Rattle.code_pieces.specs.AssemblyLaws.{reached}
use Rattle.code_pieces.proofs.Hops.{arrives-go}
use Rattle.code_pieces.specs.Items.{Item, Plain, Bind, Goto, Test}
use Rattle.code_pieces.specs.Labels.{Hops, StandsAs, StandEverywhere}
use Rattle.code_pieces.specs.Assembly.{assembled}

-- each label stands before its item, of which the first has that number
abbrev pub AreBound : List (Option ℕ) → ℕ → List Item → Type 0
AreBound bound at [] = Unit {0}
AreBound bound at (Plain i ∷ items) = AreBound bound (at + 1) items
AreBound bound at (Bind label ∷ items) = (slice_get bound label ≡ Some (Some at)) × AreBound bound at items
AreBound bound at (Goto label ∷ items) = AreBound bound (at + 1) items
AreBound bound at (Test op a b label ∷ items) = AreBound bound (at + 1) items

-- and stands before an item that there is, or behind the last
abbrev pub AreWithin : List (Option ℕ) → ℕ → Type 0
AreWithin bound many = (label k : ℕ) → slice_get bound label ≡ Some (Some k) → k ≤ many

read-alike : (o : Option ℕ) → option_bind o instr_of ≡ spelled o
read-alike None = refl
read-alike (Some word) = refl

get-index : (xs : List (Option ℕ)) (i : ℕ) (x : Option ℕ) → slice_get xs i ≡ Some x → slice_index_or xs i None ≡ x
get-index [] i x e = absurd (let bad : ⊥ = cc in bad)
get-index (y ∷ ys) zero x e = let same : y ≡ x = cc in same
get-index (y ∷ ys) (suc i) x e = get-index ys i x e

none-index : (xs : List (Option ℕ)) (i : ℕ) → slice_get xs i ≡ None → slice_index_or xs i None ≡ None
none-index [] i e = refl
none-index (y ∷ ys) zero e = absurd (let bad : ⊥ = cc in bad)
none-index (y ∷ ys) (suc i) e = none-index ys i e

target-within : (bound : List (Option ℕ)) (many label : ℕ) → AreWithin bound many → target bound label ≤ many
target-within bound many label h = by_get (slice_get bound label) refl
  where
    by_get : (o : Option (Option ℕ)) → slice_get bound label ≡ o → target bound label ≤ many
    by_get None e = let first : target bound label ≡ 0 = ap item_at (none-index bound label e) in omega (arith, first)
    by_get (Some None) e = let first : target bound label ≡ 0 = ap item_at (get-index bound label None e) in omega (arith, first)
    by_get (Some (Some k)) e = let is : target bound label ≡ k = ap item_at (get-index bound label (Some k) e) in let le = h label k e in omega (arith, is, le)

-- where an instruction stands, a word does
record IsPlace (words : List ℕ) (base pc : ℕ) : Type 0 where
  low : base ≤ pc
  aligned : (pc - base) % 4 ≡ 0
  high : pc + 4 ≤ base + 4 * length words

an-instr : (words : List ℕ) (base pc : ℕ) (i : Instr) → asm.instr_at words base pc ≡ Some i → IsPlace words base pc
an-instr words base pc i h = at (nat_le base pc) ((pc - base) % 4 == 0) refl refl h
  where
    of-word : (o : Option ℕ) → slice_get words ((pc - base) / 4) ≡ o → spelled o ≡ Some i → (pc - base) / 4 < length words
    of-word None e k = absurd (let bad : None ≡ Some i = k in cc)
    of-word (Some w) e k = slice_get_within words ((pc - base) / 4) w e

    at : (b c : Bool) → nat_le base pc ≡ b → ((pc - base) % 4 == 0) ≡ c → spelled (cond (b && c) (slice_get words ((pc - base) / 4)) None) ≡ Some i → IsPlace words base pc
    at true true e f k =
        let low' : base ≤ pc = leb-true _ _ e in
        let aligned' : (pc - base) % 4 ≡ 0 = eqb-true _ _ f in
        let within = of-word (slice_get words ((pc - base) / 4)) refl k in
        record { low = low'; aligned = aligned'; high = omega (arith, low', aligned', within) }
    at true false e f k = absurd (let bad : None ≡ Some i = k in cc)
    at false c e f k = absurd (let bad : None ≡ Some i = k in cc)

-- registers with this program counter
abbrev from-pc : ℕ → Registers
from-pc pc = record { x = λ i. 0; pc = pc }

-- an instruction stands at the address of each item
arrives-from : (words : List ℕ) (base pc to : ℕ) (s : Registers) → s.pc ≡ pc → Arrives words base s to → IsPlace words base pc
arrives-from words base pc to s same a = by_count a.count a.some a.run
  where
    by_count : (n : ℕ) → 1 ≤ n → asm.Runs words base n s a.last → IsPlace words base pc
    by_count zero some run = absurd (let bad : ⊥ = omega (arith, some) in bad)
    by_count (suc n) some run = subst (IsPlace words base) same (an-instr words base s.pc run.0 run.1)

item-place : (words : List ℕ) (base : ℕ) (at to : ℕ → ℕ) (k : ℕ) (item : Assembled) → ItemStands words base to at k item → IsPlace words base (at k)
item-place words base at to k (asm_item.Plain i) st = an-instr words base (at k) i st.0
item-place words base at to k (asm_item.JumpTo label) st = arrives-from words base (at k) (at (to label)) (from-pc (at k)) refl (st (from-pc (at k)) refl)
item-place words base at to k (asm_item.BranchTo op a b label) st =
    arrives-from words base (at k) (at (cond (is_taken op (read (from-pc (at k)) a) (read (from-pc (at k)) b)) (to label) (k + 1))) (from-pc (at k)) refl (st (from-pc (at k)) refl)

items-place : (words : List ℕ) (base : ℕ) (at to : ℕ → ℕ) (items : List Assembled) (from k : ℕ) → ItemsStand words base to at from items → k < length items → IsPlace words base (at (from + k))
items-place words base at to [] from k st lt = absurd (let bad : ⊥ = omega (arith, lt) in bad)
items-place words base at to (item ∷ items) from zero st lt = subst (λ (j : ℕ). IsPlace words base (at j)) (let z : from ≡ from + 0 = omega arith in z) (item-place words base at to from item st.0)
items-place words base at to (item ∷ items) from (suc k) st lt =
    subst (λ (j : ℕ). IsPlace words base (at j)) (let z : from + 1 + k ≡ from + suc k = omega arith in z) (items-place words base at to items (from + 1) k st.1 (omega (arith, lt)))

module _ (m : Meaning) (functions : m.functions ≤ 1024) (place : Place) (even : place.base % 4 ≡ 0) (low : code_base + 4 ≤ place.base) (high : place.base + 4 * length place.words ≤ code_limit)
    (code : Code) (r : Runs code place.words place.base) (within : AreWithin code.bound (length code.items)) where
  abbrev pub labels : ℕ → ℕ
  labels label = r.at (target code.bound label)

  -- each item has the address of a word, and that behind the last is the end
  address : (k : ℕ) → k ≤ length code.items → (place.base ≤ r.at k) × (r.at k % 4 ≡ 0)
  address k le = by_order (cases_lt k (length code.items))
    where
      by_order : (k < length code.items) ⊎ (length code.items ≤ k) → (place.base ≤ r.at k) × (r.at k % 4 ≡ 0)
      by_order (inl lt) =
          let p = subst (λ (j : ℕ). IsPlace place.words place.base (r.at j)) (let z : 0 + k ≡ k = omega arith in z) (items-place place.words place.base r.at (target code.bound) code.items 0 k r.each lt) in
          let l = p.low in let a = p.aligned in (l, omega (arith, l, a, even))
      by_order (inr more) =
          let last = r.last in
          let is : r.at k ≡ place.base + 4 * length place.words = ap r.at (let z : k ≡ length code.items = omega (arith, le, more) in z) ∙ last in
          (omega (arith, is), omega (arith, is, even))

  from-code : (k : ℕ) → k ≤ length code.items → code_base ≤ r.at k
  from-code k le = let a = address k le in let l = a.0 in omega (arith, low, l)

  pub label-aligned : (label : ℕ) → labels label % 4 ≡ 0
  label-aligned label = (address (target code.bound label) (target-within code.bound (length code.items) label within)).1

  label-inside : (label : ℕ) → code_base ≤ labels label
  label-inside label = from-code (target code.bound label) (target-within code.bound (length code.items) label within)

  hops : (p : Point) (to : ℕ) → read p.machine.regs Sp ≢ place.sp → code_base ≤ to → Arrives place.words place.base p.machine.regs to → Hops m place 1 p to
  hops p to sp inside a = record {
    count = a.count;
    point = reached p a.count a.last;
    some = a.some;
    few = a.few;
    run = arrives-go m functions place low high p to sp inside a;
    there = a.there;
    others = a.others;
    bytes = refl;
    control = refl;
    counted = refl;
  }

  choice : (b : Bool) (j k : ℕ) → r.at (cond b j k) ≡ cond b (r.at j) (r.at k)
  choice true j k = refl
  choice false j k = refl

  chosen : (b : Bool) (label k : ℕ) → k ≤ length code.items → code_base ≤ r.at (cond b (target code.bound label) k)
  chosen true label k le = label-inside label
  chosen false label k le = from-code k le

  pub stands : (items : List Item) (k : ℕ) → k + length (assembled items) ≤ length code.items → AreBound code.bound k items → ItemsStand place.words place.base (target code.bound) r.at k (assembled items) → StandsAs m place labels (r.at k) items
  stands [] k few bound st = tt
  stands (Plain i ∷ items) k few bound st =
      let next = st.0.1 in
      let here = an-instr place.words place.base (r.at k) i st.0.0 in
      let l = here.low in let h = here.high in (
        omega (arith, low, l),
        omega (arith, h, high),
        read-alike (word_at place (r.at k)) ∙ st.0.0,
        subst (λ (pc : ℕ). StandsAs m place labels pc items) next (stands items (k + 1) (omega (arith, few)) bound st.1),
      )
  stands (Bind label ∷ items) k few bound st =
      (ap (λ (o : Option ℕ). r.at (item_at o)) (get-index code.bound label (Some k) bound.0), stands items k few bound.1 st)
  stands (Goto label ∷ items) k few bound st = (
    r.at (k + 1),
    λ p at sp. hops p (labels label) sp (label-inside label) (st.0 p.machine.regs at),
    stands items (k + 1) (omega (arith, few)) bound st.1,
  )
  stands (Test op a b label ∷ items) k few bound st = (
    r.at (k + 1),
    (address (k + 1) (omega (arith, few))).1,
    λ p at sp.
        let taken : Bool = is_taken op (read p.machine.regs a) (read p.machine.regs b) in
        subst (Hops m place 1 p) (choice taken (target code.bound label) (k + 1))
        (hops p (r.at (cond taken (target code.bound label) (k + 1))) sp (chosen taken label (k + 1) (omega (arith, few))) (st.0 p.machine.regs at)),
    stands items (k + 1) (omega (arith, few)) bound st.1,
  )

-- they do wherever the words stand
pub stand-everywhere : (m : Meaning) (code : Code) (words : List ℕ) (items : List Item) → m.functions ≤ 1024 → code.items ≡ assembled items → AreBound code.bound 0 items → AreWithin code.bound (length code.items)
    → (length words ≤ 2 ^ 22 → RunsAs code words) → StandEverywhere m words items
stand-everywhere m code words items functions same bound within runs place is b =
    let high = b.high in
    let low = b.low in
    let even = b.aligned in
    let long : length place.words ≡ length words = ap length is in
    let r : Runs code place.words place.base = subst (λ (ws : List ℕ). Runs code ws place.base) (sym is) (runs (omega (arith, high, low)) place.base even (omega (arith, high))) in
    let limit : place.base + 4 * length place.words ≤ code_limit = omega (arith, high, long) in
    let each = subst (ItemsStand place.words place.base (target code.bound) r.at 0) same r.each in
    let few : length (assembled items) ≡ length code.items = ap length (sym same) in (
      labels m functions place even low limit code r within,
      label-aligned m functions place even low limit code r within,
      subst (λ (pc : ℕ). StandsAs m place (labels m functions place even low limit code r within) pc items) r.first (stands m functions place even low limit code r within items 0 (omega (arith, few)) bound each),
    )
