-- Cells as bytes.
use Rattle.std.proofs.Common.{◌≡◌, ℕ, zero, suc, ◌+◌, ◌-◌, ◌*◌, ◌/◌, ◌%◌, ◌^◌, ◌<◌, ◌≤◌, Bool, true, false, nat_lt, List, [], ◌∷◌, ◌++◌, length, take, drop, get_or, replicate, Some, None, sym, ◌∙◌, ap, subst, refl, arith, add-one, drop-cons, if◌then◌else◌}
use Rattle.std.specs.Prelude.{slice_set}
use Rattle.std.specs.List.{refill}
use Rattle.std.proofs.lemmas.List.{map-append, append_assoc}
use Rattle.std.proofs.lemmas.Bool.Decides.{nat_tests}
use Rattle.std.proofs.Math.Seq.{take-suc-set}
use Rattle.ir_meaning.specs.Value.{Value, Byte}
use Rattle.ir_meaning.specs.Memory.{Memory, data_start, is_inside, digit, from_bytes, number_bytes, bytes_at, with_bytes}
use Rattle.std.proofs.Math.Pow.{pow_mono}
use Rattle.std.proofs.lemmas.Nat.{pow-add}
use Rattle.std.proofs.lemmas.List.{length-append, length-take-le, length-drop, length-replicate, drop-drop}
use Rattle.ir_meaning.specs.Ranges.{FitsWidth}
use Rattle.ir_meaning.proofs.Bytes.{AllBytes, IsByte}
use Rattle.ir_ops.specs.Cells.{byte_of, bytes_of}

pub view_take : (n : ℕ) (cells : List ℕ) → bytes_of (take n cells) ≡ take n (bytes_of cells)
view_take zero cells = refl
view_take (suc n) [] = refl
view_take (suc n) (x ∷ xs) = ap (λ (bs : Memory). byte_of x ∷ bs) (view_take n xs)

pub view_drop : (n : ℕ) (cells : List ℕ) → bytes_of (drop n cells) ≡ drop n (bytes_of cells)
view_drop zero cells = refl
view_drop (suc n) [] = refl
view_drop (suc n) (x ∷ xs) = view_drop n xs

pub view_replicate : (n cell : ℕ) → bytes_of (replicate n cell) ≡ replicate n (byte_of cell)
view_replicate zero cell = refl
view_replicate (suc n) cell = ap (λ (bs : Memory). byte_of cell ∷ bs) (view_replicate n cell)

long_view : (cells : List ℕ) → length (bytes_of cells) ≡ length cells
long_view [] = refl
long_view (x ∷ xs) = ap suc (long_view xs)

-- cells that are written over those from a place on
pub written : (cells new : List ℕ) (address off count : ℕ) (bytes : List Byte) → off ≡ address - data_start → bytes_of new ≡ bytes → length new ≡ count
    → bytes_of (take off cells ++ (new ++ drop (off + count) cells)) ≡ with_bytes (bytes_of cells) address bytes
written cells new address off count bytes a b long =
    let long_bytes : length bytes ≡ count = ap length (sym b) ∙ long_view new ∙ long in
    map-append byte_of (take off cells) (new ++ drop (off + count) cells)
    ∙ ap (λ (bs : Memory). bytes_of (take off cells) ++ bs) (map-append byte_of new (drop (off + count) cells))
    ∙ ap (λ (bs : Memory). bs ++ (bytes_of new ++ bytes_of (drop (off + count) cells))) (view_take off cells)
    ∙ ap (λ (bs : Memory). take off (bytes_of cells) ++ (bytes_of new ++ bs)) (view_drop (off + count) cells)
    ∙ ap (λ (bs : Memory). take off (bytes_of cells) ++ (bs ++ drop (off + count) (bytes_of cells))) b
    ∙ ap (λ n. take n (bytes_of cells) ++ (bytes ++ drop (n + count) (bytes_of cells))) a
    ∙ ap (λ n. take (address - data_start) (bytes_of cells) ++ (bytes ++ drop (address - data_start + n) (bytes_of cells))) (sym long_bytes)
    ∙ sym (append_assoc (take (address - data_start) (bytes_of cells)) bytes (drop (address - data_start + length bytes) (bytes_of cells)))

pub read : (cells : List ℕ) (address off count : ℕ) → off ≡ address - data_start → bytes_of (take count (drop off cells)) ≡ bytes_at (bytes_of cells) address count
read cells address off count a =
    view_take count (drop off cells) ∙ ap (λ (bs : Memory). take count bs) (view_drop off cells) ∙ ap (λ n. take count (drop n (bytes_of cells))) a

-- ---- numbers

poison_cell : (cell : ℕ) → 256 ≤ cell → byte_of cell ≡ None
poison_cell cell h = let f : nat_lt cell 256 ≡ false = grind (arith, nat_tests) in rw f refl

byte_cell : (cell : ℕ) → cell < 256 → byte_of cell ≡ Some cell
byte_cell cell h = let f : nat_lt cell 256 ≡ true = grind (arith, nat_tests) in rw f refl

digit_poison : (byte : Byte) → digit byte None ≡ None
digit_poison None = refl
digit_poison (Some b) = refl

-- one cell of poison makes a number poison
pub poison_in : (cells : List ℕ) (i : ℕ) → i < length cells → 256 ≤ get_or cells i 0 → None ≡ from_bytes (bytes_of cells)
poison_in [] i h p = absurd (omega arith)
poison_in (x ∷ xs) zero h p = sym (ap (λ (b : Byte). digit b (from_bytes (bytes_of xs))) (poison_cell x p))
poison_in (x ∷ xs) (suc i) h p = sym (ap (digit (byte_of x)) (sym (poison_in xs i (omega arith) p)) ∙ digit_poison (byte_of x))

pub one_more : (cells : List ℕ) (left cell value : ℕ) → 0 < left → left ≤ length cells → cell ≡ get_or cells (left - 1) cell → cell < 256
    → from_bytes (bytes_of (drop left cells)) ≡ Some value → from_bytes (bytes_of (drop (left - 1) cells)) ≡ Some (value * 256 + cell)
one_more cells left cell value some within is small e =
    let next : suc (left - 1) ≡ left = omega arith in
    let split : drop (left - 1) cells ≡ cell ∷ drop left cells =
    drop-cons cells (left - 1) cell (omega arith) ∙ ap (λ (x : ℕ). x ∷ drop (suc (left - 1)) cells) (sym is) ∙ ap (λ n. cell ∷ drop n cells) next in
    let sum : cell + 256 * value ≡ value * 256 + cell = omega arith in
    ap (λ (cs : List ℕ). from_bytes (bytes_of cs)) split
    ∙ ap (λ (b : Byte). digit b (from_bytes (bytes_of (drop left cells)))) (byte_cell cell small)
    ∙ ap (λ (v : Value). digit (Some cell) v) e ∙ ap Some sum

pub next_byte : (cells : List ℕ) (i count rest : ℕ) (all : Memory) → i < length cells → length cells ≡ count
    → bytes_of (take i cells) ++ number_bytes (count - i) rest ≡ all
    → bytes_of (take (i + 1) (slice_set cells i (rest % 256))) ++ number_bytes (count - (i + 1)) (rest / 256) ≡ all
next_byte cells i count rest all below long e =
    let left : count - i ≡ suc (count - (i + 1)) = omega arith in
    let set_is : take (i + 1) (slice_set cells i (rest % 256)) ≡ take i cells ++ (rest % 256) ∷ [] = rw add-one (take-suc-set cells i (rest % 256) below) in
    ap (λ (cs : List ℕ). bytes_of cs ++ number_bytes (count - (i + 1)) (rest / 256)) set_is
    ∙ ap (λ (bs : Memory). bs ++ number_bytes (count - (i + 1)) (rest / 256)) (map-append byte_of (take i cells) (rest % 256 ∷ []))
    ∙ append_assoc (bytes_of (take i cells)) (byte_of (rest % 256) ∷ []) (number_bytes (count - (i + 1)) (rest / 256))
    ∙ ap (λ (b : Byte). bytes_of (take i cells) ++ b ∷ number_bytes (count - (i + 1)) (rest / 256)) (byte_cell (rest % 256) (omega arith))
    ∙ sym (ap (λ n. bytes_of (take i cells) ++ number_bytes n rest) left) ∙ e

-- a list that is made as long as it is
refilled : (len : ℕ) (items all : List ℕ) → length all ≡ len → refill len items all ≡ all
refilled len items all e = ap (λ n. take n (all ++ drop (length all) items)) (sym e) ∙ cut all (drop (length all) items)
  where
    cut : (xs ys : List ℕ) → take (length xs) (xs ++ ys) ≡ xs
    cut [] ys = refl
    cut (x ∷ xs) ys = ap (λ (zs : List ℕ). x ∷ zs) (cut xs ys)

-- ---- parts of the cells of a memory

module _ (items : List ℕ) (memory : Memory) (address count : ℕ) (seen : bytes_of items ≡ memory) (inside : is_inside memory address count ≡ true) where
  within : (data_start ≤ address) × (address - data_start + count ≤ length items)
  within =
      let long : length items ≡ length memory = sym (long_view items) ∙ ap length seen in
      let low : data_start ≤ address = grind (arith, nat_tests) in
      let high : address + count ≤ data_start + length memory = grind (arith, nat_tests) in
      (low, omega (arith, low, high, long))

  pub part_long : (k : ℕ) → k ≡ count → length (take k (drop (address - data_start) items)) ≡ count
  part_long k e =
      let fits = within.1 in
      let rest : length (drop (address - data_start) items) ≡ length items - (address - data_start) = length-drop (address - data_start) items in
      length-take-le k (drop (address - data_start) items) (omega (arith, e, fits, rest)) ∙ e

  pub stored : (shown new : List ℕ) (k : ℕ) (bytes : List Byte) → shown ≡ items → k ≡ count → bytes_of new ≡ bytes → length new ≡ count
      → bytes_of (take (address - data_start) shown ++ (new ++ drop k (drop (address - data_start) shown))) ≡ with_bytes memory address bytes
  stored shown new k bytes same e b long =
      ap (λ (xs : List ℕ). bytes_of (take (address - data_start) xs ++ (new ++ drop k (drop (address - data_start) xs)))) same
      ∙ ap (λ (xs : List ℕ). bytes_of (take (address - data_start) items ++ (new ++ xs)))
      (drop-drop k (address - data_start) items ∙ ap (λ n. drop (address - data_start + n) items) e)
      ∙ written items new address (address - data_start) count bytes refl b long
      ∙ ap (λ (m : Memory). with_bytes m address bytes) seen

  -- the same, where a list of that length is made of them
  pub stored_in : (len : ℕ) (shown new : List ℕ) (k : ℕ) (bytes : List Byte) → len ≡ length items → shown ≡ items → k ≡ count → bytes_of new ≡ bytes → length new ≡ count
      → bytes_of (refill len items (take (address - data_start) shown ++ (new ++ drop k (drop (address - data_start) shown)))) ≡ with_bytes memory address bytes
  stored_in len shown new k bytes full same e b long =
      let all : List ℕ = take (address - data_start) shown ++ (new ++ drop k (drop (address - data_start) shown)) in
      let fits = within.1 in
      let whole : length shown ≡ length items = ap length same in
      let first : length (take (address - data_start) shown) ≡ address - data_start = length-take-le (address - data_start) shown (omega (arith, fits, whole)) in
      let both : length all ≡ length (take (address - data_start) shown) + length (new ++ drop k (drop (address - data_start) shown)) =
      length-append (take (address - data_start) shown) (new ++ drop k (drop (address - data_start) shown)) in
      let rest : length (new ++ drop k (drop (address - data_start) shown)) ≡ length new + length (drop k (drop (address - data_start) shown)) =
      length-append new (drop k (drop (address - data_start) shown)) in
      let last : length (drop k (drop (address - data_start) shown)) ≡ length (drop (address - data_start) shown) - k = length-drop k (drop (address - data_start) shown) in
      let before : length (drop (address - data_start) shown) ≡ length shown - (address - data_start) = length-drop (address - data_start) shown in
      let long_all : length all ≡ len = omega (arith, fits, whole, first, both, rest, last, before, full, e, long) in
      ap bytes_of (refilled len items all long_all) ∙ stored shown new k bytes same e b long

  pub loaded : (shown : List ℕ) (k : ℕ) → shown ≡ items → k ≡ count → bytes_of (take k (drop (address - data_start) shown)) ≡ bytes_at memory address count
  loaded shown k same e =
      ap (λ (xs : List ℕ). bytes_of (take k (drop (address - data_start) xs))) same
      ∙ ap (λ n. bytes_of (take n (drop (address - data_start) items))) e
      ∙ read items address (address - data_start) count refl ∙ ap (λ (m : Memory). bytes_at m address count) seen

-- ---- numbers within their bytes

pub bytes_are : (cells : List ℕ) → AllBytes (bytes_of cells)
bytes_are [] = tt
bytes_are (x ∷ xs) = (is_byte x (nat_lt x 256) refl, bytes_are xs)
  where
    is_byte : (x : ℕ) (b : Bool) → nat_lt x 256 ≡ b → IsByte (if b then Some x else None)
    is_byte x true e = lt_is e
      where
        lt_is : nat_lt x 256 ≡ true → x < 256
        lt_is h = grind (arith, nat_tests)
    is_byte x false e = tt

digit_fits : (k : ℕ) (b : Byte) (rest : Value) → IsByte b → FitsWidth (8 * k) rest → FitsWidth (8 * suc k) (digit b rest)
digit_fits k None rest h l = tt
digit_fits k (Some b) None h l = tt
digit_fits k (Some b) (Some r) h l =
    let count : 8 * suc k ≡ 8 + 8 * k = omega arith in
    let product : 2 ^ (8 * suc k) ≡ 256 * 2 ^ (8 * k) = ap (λ (n : ℕ). 2 ^ n) count ∙ pow-add 2 8 (8 * k) in
    omega (arith, product)

from-fits : (bytes : List Byte) → AllBytes bytes → FitsWidth (8 * length bytes) (from_bytes bytes)
from-fits [] h = omega arith
from-fits (b ∷ bs) h = digit_fits (length bs) b (from_bytes bs) h.0 (from-fits bs h.1)

pub below_bits : (cells : List ℕ) (left value : ℕ) → length cells ≤ 16 → 0 < left → left ≤ length cells → from_bytes (bytes_of (drop left cells)) ≡ Some value → value < 2 ^ 120
below_bits cells left value few some within e =
    let fits : value < 2 ^ (8 * length (bytes_of (drop left cells))) = subst (FitsWidth (8 * length (bytes_of (drop left cells)))) e (from-fits (bytes_of (drop left cells)) (bytes_are (drop left cells))) in
    let long : length (bytes_of (drop left cells)) ≡ length cells - left = long_view (drop left cells) ∙ length-drop left cells in
    let most : 2 ^ (8 * length (bytes_of (drop left cells))) ≤ 2 ^ 120 = pow_mono {i = 8 * length (bytes_of (drop left cells))} {j = 120} (omega (arith, long)) in
    omega (arith, fits, most)

-- ---- cells that are all the same, and cells that were copied

pub filled_view : (new : List ℕ) (k count cell : ℕ) (byte : Byte) → new ≡ replicate k cell → length new ≡ count → byte_of cell ≡ byte → bytes_of new ≡ replicate count byte
filled_view new k count cell byte e long is =
    let same : k ≡ count = sym (length-replicate k cell) ∙ sym (ap length e) ∙ long in
    ap bytes_of e ∙ view_replicate k cell ∙ ap (replicate k) is ∙ ap (λ n. replicate n byte) same

pub copied_in : (items : List ℕ) (memory : Memory) (to from count k : ℕ) → bytes_of items ≡ memory → is_inside memory to count ≡ true → is_inside memory from count ≡ true → k ≡ count
    → bytes_of (take (to - data_start) items ++ take k (drop (from - data_start) items) ++ drop (to - data_start + k) items) ≡ with_bytes memory to (bytes_at memory from count)
copied_in items memory to from count k seen inside inside' e =
    ap bytes_of (append_assoc (take (to - data_start) items) (take k (drop (from - data_start) items)) (drop (to - data_start + k) items))
    ∙ ap (λ n. bytes_of (take (to - data_start) items ++ (take k (drop (from - data_start) items) ++ drop (to - data_start + n) items))) e
    ∙ written items (take k (drop (from - data_start) items)) to (to - data_start) count (bytes_at memory from count) refl
    (loaded items memory from count seen inside' items k refl e) (part_long items memory from count seen inside' k e)
    ∙ ap (λ (m : Memory). with_bytes m to (bytes_at memory from count)) seen

pub extended : (items old : List ℕ) (memory : Memory) (counter count : ℕ) → bytes_of old ≡ memory → items ≡ old ++ replicate counter 256 → counter ≡ count → bytes_of items ≡ memory ++ replicate count None
extended items old memory counter count seen e same =
    ap bytes_of e ∙ map-append byte_of old (replicate counter 256) ∙ ap (λ (m : Memory). m ++ bytes_of (replicate counter 256)) seen
    ∙ ap (λ (m : Memory). memory ++ m) (view_replicate counter 256) ∙ ap (λ n. memory ++ replicate n None) same
