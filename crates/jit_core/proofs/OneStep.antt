-- Each event changes one shared word at most.
use Rattle.std.proofs.Common.{◌≡◌, ◌≢◌, ℕ, zero, suc, ◌+◌, List, [], ◌∷◌, ◌++◌, length, set, sym, refl, ap, subst, ◌∙◌, inl, inr, ⊎_elim}
use Rattle.ir_meaning.specs.Plays.{Meaning}
use Rattle.code_epochs.specs.declared.parts.HartPart.{HartPart}
use Rattle.code_epochs.specs.declared.parts.Item.TheVariants.{Held, Saw}
use Rattle.code_epochs.specs.Sound.{At, Whole, start_of}
use Rattle.code_epochs.specs.Steps.{address_of, with_item, loaded_part, ended_part, epoch_announced, gone_idle, draft_begun, word_stored, cell_swapped, header_cleared}
use Rattle.code_epochs.proofs.Lists.{set_else}
use Rattle.jit_core.specs.declared.event.Event.{Event}
use Rattle.jit_core.specs.declared.event.Event.TheVariants.{Hart, Keeper, Order}
use Rattle.jit_core.specs.declared.event.Stepped.{Stepped}
use Rattle.jit_core.specs.declared.event.Stepped.TheVariants.{Moved, Taken, Nothing, Busy, Refused}
use Rattle.jit_core.specs.Events.{HartStep, loads_epoch, announces, loads_cell, loads_word, goes_idle, KeeperStep, stores_header, stores_next, swaps_cell, raises_epoch, looks_at, clears_header, Task, Leads, OneChanged, OneWord, IsOwn, shared_words}

one-set : (l : List ℕ) (i n : ℕ) → OneChanged l (set l i n)
one-set l i n = inr (i, n, refl)

one-behind : (k : ℕ) (l m : List ℕ) → OneChanged l m → OneChanged (k ∷ l) (k ∷ m)
one-behind k l m = ⊎_elim (λ (e : m ≡ l). inl (ap (λ (x : List ℕ). k ∷ x) e)) (λ (t : (i : ℕ) × (n : ℕ) × (m ≡ set l i n)). inr (suc t.0, t.1, ap (λ (x : List ℕ). k ∷ x) t.2))

one-back : (xs l m : List ℕ) → OneChanged l m → OneChanged (xs ++ l) (xs ++ m)
one-back [] l m c = c
one-back (x ∷ xs) l m c = one-behind x (xs ++ l) (xs ++ m) (one-back xs l m c)

set-front : (l m : List ℕ) (i n : ℕ) → OneChanged (l ++ m) (set l i n ++ m)
set-front [] m i n = inl refl
set-front (x ∷ xs) m zero n = inr (0, n, refl)
set-front (x ∷ xs) m (suc i) n = one-behind x (xs ++ m) (set xs i n ++ m) (set-front xs m i n)

one-cell : (x y : Whole) (i n : ℕ) → y.epoch ≡ x.epoch → y.cells ≡ set x.cells i n → y.announced ≡ x.announced → y.code ≡ x.code → OneWord x y
one-cell x y i n epoch cells announced code =
    rw epoch rw cells rw announced rw code (one-behind x.epoch (x.cells ++ (x.announced ++ x.code)) (set x.cells i n ++ (x.announced ++ x.code)) (set-front x.cells (x.announced ++ x.code) i n))

one-hart : (x y : Whole) (i n : ℕ) → y.epoch ≡ x.epoch → y.cells ≡ x.cells → y.announced ≡ set x.announced i n → y.code ≡ x.code → OneWord x y
one-hart x y i n epoch cells announced code =
    rw epoch rw cells rw announced rw code (one-behind x.epoch (x.cells ++ (x.announced ++ x.code)) (x.cells ++ (set x.announced i n ++ x.code)) (one-back x.cells (x.announced ++ x.code) (set x.announced i n ++ x.code) (set-front x.announced x.code i n)))

one-code : (x y : Whole) (i n : ℕ) → y.epoch ≡ x.epoch → y.cells ≡ x.cells → y.announced ≡ x.announced → y.code ≡ set x.code i n → OneWord x y
one-code x y i n epoch cells announced code =
    rw epoch rw cells rw announced rw code (one-behind x.epoch (x.cells ++ (x.announced ++ x.code)) (x.cells ++ (x.announced ++ set x.code i n)) (one-back x.cells (x.announced ++ x.code) (x.announced ++ set x.code i n) (one-back x.announced x.code (set x.code i n) (one-set x.code i n))))

hart-word : (x : Whole) (h : ℕ) (y : Whole) → HartStep x h y → OneWord x y
hart-word x h _ (loads_epoch p idle here) = inl refl
hart-word x h _ (announces p idle here) = one-hart x (epoch_announced x h p) h p.epoch refl refl refl refl
hart-word x h _ (loads_cell p word symbol base active at) = inl refl
hart-word x h _ (loads_word p word place found active at) = inl refl
hart-word x h _ (goes_idle p word active) = one-hart x (gone_idle x h p) h 0 refl refl refl refl

keeper-word : (m : Meaning) (x : Whole) (task : Task) (y : Whole) → KeeperStep m x task y → OneWord x y
keeper-word m x _ _ (stores_header v base begins) = one-code x (draft_begun x v.symbol v.level base v.words) (start_of base) (length x.book.versions + 1) refl refl refl refl
keeper-word m x _ _ (stores_next d word next) = one-code x (word_stored x d word) (start_of d.base + d.stored) word refl refl refl refl
keeper-word m x _ _ (swaps_cell d complete) = one-cell x (cell_swapped x d) d.symbol d.base refl refl refl refl
keeper-word m x _ _ (raises_epoch i v is) = inr (0, x.epoch + 1, refl)
keeper-word m x _ _ (looks_at i v tag passed h found is at) = inl refl
keeper-word m x _ _ (clears_header i v tag passed is all) = one-code x (header_cleared x i v) (start_of v.base) 0 refl refl refl refl

same-word : (x y : Whole) → y ≡ x → OneWord x y
same-word x y e = inl (ap shared_words e)

pub one_word : (m : Meaning) (x y : Whole) (event : Event) (answer : Stepped) → Leads m x event answer y → OneWord x y
one_word m x y (Hart h) Moved l = hart-word x h y l
one_word m x y (Hart h) Taken l = absurd l
one_word m x y (Hart h) Nothing l = same-word x y l
one_word m x y (Hart h) (Busy v) l = absurd l
one_word m x y (Hart h) (Refused v cause) l = absurd l
one_word m x y Keeper Moved l = keeper-word m x l.0 y l.1
one_word m x y Keeper Taken l = absurd l
one_word m x y Keeper Nothing l = same-word x y l
one_word m x y Keeper (Busy v) l = absurd l
one_word m x y Keeper (Refused v cause) l = absurd l
one_word m x y (Order v) Moved l = absurd l
one_word m x y (Order v) Taken l = same-word x y l
one_word m x y (Order v) Nothing l = absurd l
one_word m x y (Order v) (Busy w) l = same-word x y l.1
one_word m x y (Order v) (Refused w cause) l = same-word x y l.1

same-words : (x : Whole) (h k word : ℕ) → k ≢ h → At x.announced k word → At x.announced k word
same-words x h k word other at = at

set-words : (x : Whole) (h n k word : ℕ) → k ≢ h → At x.announced k word → At (set x.announced h n) k word
set-words x h n k word other at = set_else x.announced h k n other ∙ at

set-parts : (x : Whole) (h : ℕ) (q : HartPart) (k : ℕ) (p : HartPart) → k ≢ h → At x.harts k p → At (set x.harts h q) k p
set-parts x h q k p other at = set_else x.harts h k q other ∙ at

pub hart_own : (x : Whole) (h : ℕ) (y : Whole) → HartStep x h y → IsOwn x y h
hart_own x h _ (loads_epoch p idle here) = record { others = set-parts x h (loaded_part p x.epoch); words = same-words x h; rest = (refl, refl, refl, refl) }
hart_own x h _ (announces p idle here) = record { others = set-parts x h p; words = set-words x h p.epoch; rest = (refl, refl, refl, refl) }
hart_own x h _ (loads_cell p word symbol base active at) = record { others = set-parts x h (with_item p (Held symbol base)); words = same-words x h; rest = (refl, refl, refl, refl) }
hart_own x h _ (loads_word p word place found active at) = record { others = set-parts x h (with_item p (Saw (address_of place) found)); words = same-words x h; rest = (refl, refl, refl, refl) }
hart_own x h _ (goes_idle p word active) = record { others = set-parts x h (ended_part p); words = set-words x h 0; rest = (refl, refl, refl, refl) }

nothing-own : (x y : Whole) (h : ℕ) → y ≡ x → IsOwn x y h
nothing-own x y h e = subst (λ (z : Whole). IsOwn x z h) (sym e) record { others = (λ k p other at. at); words = (λ k word other at. at); rest = (refl, refl, refl, refl) }

pub own : (m : Meaning) (x y : Whole) (h : ℕ) (answer : Stepped) → Leads m x (Hart h) answer y → IsOwn x y h
own m x y h Moved l = hart_own x h y l
own m x y h Taken l = absurd l
own m x y h Nothing l = nothing-own x y h l
own m x y h (Busy v) l = absurd l
own m x y h (Refused v cause) l = absurd l
