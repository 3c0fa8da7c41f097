-- What loops that move bytes leave in data memory.
use Rattle.std.proofs.Common.{◌≡◌, ◌≢◌, sym, ap, ◌∙◌, ℕ, zero, suc, ◌+◌, ◌-◌, ◌*◌, ◌%◌, ◌<◌, ◌≤◌, ◌⊎◌, inl, inr, List, ◌++◌, length, replicate, Some, arith}
use Rattle.std.specs.Prelude.{slice_get, take, drop}
use Rattle.std.proofs.lemmas.Bool.{cases_lt}
use Rattle.std.proofs.lemmas.List.{length-append, length-take-le, length-replicate}
use Rattle.rv_core.specs.Bytes.{load_bytes}
use Rattle.rv_play.specs.Machine.{Machine, data_base}
use Rattle.ir_meaning.specs.Value.{Value, Byte}
use Rattle.ir_meaning.specs.Memory.{Memory, bytes_at, with_bytes}
use Rattle.ir_meaning.specs.Ranges.{IsMemory}
use Rattle.ir_meaning.specs.Plays.{Invocation}
use Rattle.rv_play.specs.CodePlay.{Point}
use Rattle.rv_play.specs.Good.{RefinesMemory}
use Rattle.code_pieces.proofs.Frame.{Holds, saved_regs, keeps-then}
use Rattle.code_pieces.proofs.Memories.{get-front, get-back, get-take, get-drop}

-- ---- bytes of a memory with others at an address

abbrev Outside : Memory → ℕ → ℕ → ℕ → Byte → Type 0
Outside memory t n i y = ((data_base + i < t) ⊎ (t + n ≤ data_base + i)) × (slice_get memory i ≡ Some y)

abbrev Inside : ℕ → ℕ → List Byte → ℕ → Byte → Type 0
Inside t n bytes i y = (t ≤ data_base + i) × (data_base + i < t + n) × (slice_get bytes (data_base + i - t) ≡ Some y)

with-get : (memory : Memory) (t n : ℕ) (bytes : List Byte) → length bytes ≡ n → data_base ≤ t → t + n ≤ data_base + length memory → (i : ℕ) (y : Byte) → slice_get (with_bytes memory t bytes) i ≡ Some y
    → Outside memory t n i y ⊎ Inside t n bytes i y
with-get memory t n bytes many low high i y e = by_place (cases_lt i (t - data_base)) (cases_lt i (t - data_base + n))
  where
    front : length (take (t - data_base) memory) ≡ t - data_base
    front = length-take-le (t - data_base) memory (omega (arith, low, high))

    both : length (take (t - data_base) memory ++ bytes) ≡ t - data_base + n
    both = let l = length-append (take (t - data_base) memory) bytes in let x = front in omega (arith, l, x, many)

    by_place : (i < t - data_base) ⊎ (t - data_base ≤ i) → (i < t - data_base + n) ⊎ (t - data_base + n ≤ i) → Outside memory t n i y ⊎ Inside t n bytes i y
    by_place (inl lt) second =
        let x = front in let z = both in
        inl (
          inl (omega (arith, lt, low)),
          sym (get-take memory (t - data_base) i lt) ∙ sym (get-front (take (t - data_base) memory) bytes i (omega (arith, lt, x)))
              ∙ sym (get-front (take (t - data_base) memory ++ bytes) (drop (t - data_base + length bytes) memory) i (omega (arith, lt, z))) ∙ e,
        )
    by_place (inr le) (inl lt) =
        let x = front in let z = both in
        let same : data_base + i - t ≡ i - (t - data_base) = omega (arith, low, le) in
        inr (
          omega (arith, low, le),
          omega (arith, low, lt),
          ap (slice_get bytes) same
              ∙ sym (get-back (take (t - data_base) memory) bytes i (i - (t - data_base)) (omega (arith, le, x)))
              ∙ sym (get-front (take (t - data_base) memory ++ bytes) (drop (t - data_base + length bytes) memory) i (omega (arith, lt, z))) ∙ e,
        )
    by_place (inr le) (inr past) =
        let z = both in
        let k : ℕ = i - (t - data_base + n) in
        let where' : t - data_base + length bytes + (i - (t - data_base + n)) ≡ i = omega (arith, many, past) in
        inl (
          inr (omega (arith, low, past)),
          ap (slice_get memory) (sym where') ∙ sym (get-drop memory (t - data_base + length bytes) (i - (t - data_base + n)))
              ∙ sym (get-back (take (t - data_base) memory ++ bytes) (drop (t - data_base + length bytes) memory) i (i - (t - data_base + n)) (omega (arith, z, past))) ∙ e,
        )

-- bytes that stand for those of the memory behind a change
written-refines : (memory : Memory) (f g h : ℕ → ℕ) (t n : ℕ) (bytes : List Byte) → length bytes ≡ n → data_base ≤ t → t + n ≤ data_base + length memory → RefinesMemory memory f
    → ((x : ℕ) → t ≤ x → x < t + n → g x ≡ h x % 256) → ((x : ℕ) → (x < t) ⊎ (t + n ≤ x) → g x ≡ f x)
    → ((j b : ℕ) → j < n → slice_get bytes j ≡ Some (Some b) → h (t + j) % 256 ≡ b) → RefinesMemory (with_bytes memory t bytes) g
written-refines memory f g h t n bytes many low high refines inside outside are i b e = by_place (with-get memory t n bytes many low high i (Some b) e)
  where
    by_place : Outside memory t n i (Some b) ⊎ Inside t n bytes i (Some b) → g (data_base + i) ≡ b
    by_place (inl c) = outside (data_base + i) c.0 ∙ refines i b c.1
    by_place (inr c) =
        let le = c.0 in let lt = c.1 in
        inside (data_base + i) le lt ∙ ap (λ (x : ℕ). h x % 256) (let z : data_base + i ≡ t + (data_base + i - t) = omega (arith, le) in z) ∙ are (data_base + i - t) b (omega (arith, le, lt)) c.2

-- a copy
pub copy-refines : (memory : Memory) (f g : ℕ → ℕ) (t from n : ℕ) → length (bytes_at memory from n) ≡ n → data_base ≤ t → data_base ≤ from → t + n ≤ data_base + length memory → IsMemory memory → RefinesMemory memory f
    → ((x : ℕ) → t ≤ x → x < t + n → g x ≡ f (from + (x - t)) % 256) → ((x : ℕ) → (x < t) ⊎ (t + n ≤ x) → g x ≡ f x) → RefinesMemory (with_bytes memory t (bytes_at memory from n)) g
copy-refines memory f g t from n many lowt lowf high bounded refines inside outside =
    written-refines memory f g (λ x. f (from + (x - t))) t n (bytes_at memory from n) many lowt high refines inside outside
    (λ j b lt e.
    let at : slice_get memory (from - data_base + j) ≡ Some (Some b) = sym (get-drop memory (from - data_base) j) ∙ sym (get-take (drop (from - data_base) memory) n j lt) ∙ e in
    let small = bounded (from - data_base + j) b at in
    let there : f (from + (t + j - t)) ≡ b = ap f (let z : from + (t + j - t) ≡ data_base + (from - data_base + j) = omega (arith, lowf) in z) ∙ refines (from - data_base + j) b at in
    omega (arith, there, small))

-- a byte everywhere
replicated : (n : ℕ) (v : Byte) (j : ℕ) (b : ℕ) → slice_get (replicate n v) j ≡ Some (Some b) → v ≡ Some b
replicated zero v j b e = absurd (let bad : ⊥ = cc in bad)
replicated (suc n) v zero b e = let same : v ≡ Some b = cc in same
replicated (suc n) v (suc j) b e = replicated n v j b e

pub fill-refines : (memory : Memory) (f g : ℕ → ℕ) (t n v : ℕ) (byte : Byte) → data_base ≤ t → t + n ≤ data_base + length memory → RefinesMemory memory f → ((b : ℕ) → byte ≡ Some b → (v ≡ b) × (b < 256))
    → ((x : ℕ) → t ≤ x → x < t + n → g x ≡ v % 256) → ((x : ℕ) → (x < t) ⊎ (t + n ≤ x) → g x ≡ f x) → RefinesMemory (with_bytes memory t (replicate n byte)) g
fill-refines memory f g t n v byte low high refines is inside outside =
    written-refines memory f g (λ x. v) t n (replicate n byte) (length-replicate n byte) low high refines inside outside
    (λ j b lt e. let known = is b (replicated n byte j b e) in let same = known.0 in let small = known.1 in omega (arith, same, small))

-- ---- the frame behind a loop

pub hold-behind : (a : Invocation) (s : Machine) (low frame : ℕ) (values : List Value) (here after : Memory) (p q : Point) → Holds a s low frame values here p
    → ((j : ℕ) → j ≢ 5 → j ≢ 6 → j ≢ 7 → j ≢ 28 → j ≢ 29 → q.machine.regs.x j ≡ p.machine.regs.x j) → q.machine.control ≡ p.machine.control → q.counted ≡ p.counted
    → length after ≡ length here → RefinesMemory after q.machine.bytes → Holds a s low frame values after q
hold-behind a s low frame values here after p q h others control counted long refines =
    let o : (j : ℕ) → j ≢ 5 → j ≢ 6 → j ≢ 7 → j ≢ 28 → j ≢ 29 → q.machine.regs.x j ≡ p.machine.regs.x j = others in
    record {
      sp = o 2 (λ z. cc) (λ z. cc) (λ z. cc) (λ z. cc) (λ z. cc) ∙ h.sp;
      slots = λ i v e. ap (λ (c : ℕ → ℕ). load_bytes c (low + 32 * i) 8) control ∙ h.slots i v e;
      ra = ap (λ (c : ℕ → ℕ). load_bytes c (low + (frame - 8)) 8) control ∙ h.ra;
      aside = ap (λ (c : ℕ → ℕ). load_bytes c (low + (frame - 104)) 8) control ∙ h.aside;
      saved = keeps-then saved_regs s.regs p.machine.regs q.machine.regs h.saved
          (o 8 (λ z. cc) (λ z. cc) (λ z. cc) (λ z. cc) (λ z. cc), (o 9 (λ z. cc) (λ z. cc) (λ z. cc) (λ z. cc) (λ z. cc), (o 18 (λ z. cc) (λ z. cc) (λ z. cc) (λ z. cc) (λ z. cc), (o 19 (λ z. cc) (λ z. cc) (λ z. cc) (λ z. cc) (λ z. cc), (o 20 (λ z. cc) (λ z. cc) (λ z. cc) (λ z. cc) (λ z. cc), (o 21 (λ z. cc) (λ z. cc) (λ z. cc) (λ z. cc) (λ z. cc), (o 22 (λ z. cc) (λ z. cc) (λ z. cc) (λ z. cc) (λ z. cc), (o 23 (λ z. cc) (λ z. cc) (λ z. cc) (λ z. cc) (λ z. cc), (o 24 (λ z. cc) (λ z. cc) (λ z. cc) (λ z. cc) (λ z. cc), (o 25 (λ z. cc) (λ z. cc) (λ z. cc) (λ z. cc) (λ z. cc), (o 26 (λ z. cc) (λ z. cc) (λ z. cc) (λ z. cc) (λ z. cc), tt)))))))))));
      data_top = o 27 (λ z. cc) (λ z. cc) (λ z. cc) (λ z. cc) (λ z. cc) ∙ h.data_top ∙ ap (λ (n : ℕ). data_base + n) (sym long);
      kept = λ x le. ap (λ (c : ℕ → ℕ). c x) control ∙ h.kept x le;
      memory' = refines;
      counted = counted ∙ h.counted;
    }
