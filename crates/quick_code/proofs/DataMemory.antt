-- Loads and stores of data memory do what they mean.
use Rattle.std.proofs.Common.{[], ◌≡◌, refl, sym, ap, subst, ◌∙◌, ℕ, zero, suc, ◌+◌, ◌-◌, ◌*◌, ◌/◌, ◌%◌, ◌^◌, ◌<◌, ◌≤◌, ◌⊎◌, inl, inr, List, ◌∷◌, ◌++◌, length, Some, None, Bool, true, false, cond, arith}
use Rattle.std.specs.Prelude.{◌==◌, ◌&&◌, ◌||◌, nat_le, pos, slice_get, take, drop}
use Rattle.std.proofs.Math.Nat.{pow-succ', div-div-eq-div-mul}
use Rattle.std.proofs.lemmas.Bool.{cases_lt, le-leb, and_parts, eqb-true}
use Rattle.std.proofs.lemmas.List.{length-append, length-take-le}
use Rattle.ir_core.specs.declared.types.Ty.{Ty}
use Rattle.ir_core.specs.declared.types.Ty.TheVariants.{Void, Int, Ptr}
use Rattle.rv_core.specs.declared.reg.Reg.TheVariants.{T0, T1}
use Rattle.rv_core.specs.declared.instr.LoadOp.{LoadOp}
use Rattle.rv_core.specs.declared.instr.LoadOp.TheVariants.{Lbu, Lhu, Lwu, Ld}
use Rattle.rv_core.specs.declared.instr.StoreOp.{StoreOp}
use Rattle.rv_core.specs.declared.instr.Instr.TheVariants.{Load, Store}
use Rattle.rv_core.specs.Bytes.{load_bytes, store_bytes}
use Rattle.rv_core.proofs.Bytes.{store_inside, store_outside}
use Rattle.rv_core.specs.Step.{Registers, write, plus}
use Rattle.ir_meaning.specs.Value.{Value, Byte}
use Rattle.ir_meaning.specs.Operators.{width}
use Rattle.ir_meaning.specs.Memory.{Memory, is_inside, bytes_at, with_bytes, digit, from_bytes, number_bytes, to_bytes, byte_count}
use Rattle.ir_meaning.specs.Step.{Program}
use Rattle.ir_meaning.specs.Plays.{Meaning, Invocation}
use Rattle.ir_meaning.specs.Typed.{IsStored, IsValueType}
use Rattle.ir_meaning.proofs.Lengths.{to_bytes-length, with_bytes-length, inside-bounds}
use Rattle.rv_play.specs.Machine.{Machine, Act, On, Fails, act, loaded, extended, load_size, store_size, in_data, in_control, code_base, code_limit, control_base, control_end, data_base}
use Rattle.rv_play.specs.CodePlay.{Place, Point}
use Rattle.rv_play.specs.Good.{RefinesMemory}
use Rattle.rv_play.proofs.Lines.{Stands, Goes, plain-step, moved, next-regs}
use Rattle.quick_code.specs.Operations.{load_op, store_op}
use Rattle.code_pieces.proofs.Const.{put, write-is}
use Rattle.code_pieces.proofs.Frame.{Is, Holds, scratch-t0, hold-put}
use Rattle.quick_code.proofs.Operations.{Worked}
use Rattle.code_pieces.proofs.Memories.{get-front, get-back, get-take, get-drop, no-byte}

-- ---- bytes of a memory

drop-at : (xs : Memory) (o : ℕ) → o < length xs → (x : Byte) × (slice_get xs o ≡ Some x) × (drop o xs ≡ x ∷ drop (suc o) xs)
drop-at [] o lt = absurd (let bad : ⊥ = omega (arith, lt) in bad)
drop-at (x ∷ []) zero lt = (x, refl, refl)
drop-at (x ∷ y ∷ xs) zero lt = (x, refl, refl)
drop-at (x ∷ xs) (suc o) lt = drop-at xs o (omega (arith, lt))

none-taken : (xs : Memory) → from_bytes (take 0 xs) ≡ Some 0
none-taken [] = refl
none-taken (x ∷ xs) = refl

digit-is : (x : Byte) (rest : Value) (low high : ℕ) → ((b : ℕ) → x ≡ Some b → low ≡ b) → Is rest high → Is (digit x rest) (low + 256 * high)
digit-is None rest low high hx hr k e = absurd (let bad : ⊥ = cc in bad)
digit-is (Some b) None low high hx hr k e = absurd (let bad : ⊥ = cc in bad)
digit-is (Some b) (Some r) low high hx hr k e =
    let same : b + 256 * r ≡ k = cc in let first = hx b refl in let second = hr r refl in omega (arith, same, first, second)

-- what is loaded is what stands there
loaded-is : (memory : Memory) (f : ℕ → ℕ) (count o a : ℕ) → a ≡ data_base + o → o + count ≤ length memory → RefinesMemory memory f → Is (from_bytes (take count (drop o memory))) (load_bytes f a count)
loaded-is memory f zero o a e le h = λ k z. let same : Some 0 ≡ Some k = sym (none-taken (drop o memory)) ∙ z in let zero-is : 0 ≡ k = cc in zero-is
loaded-is memory f (suc count) o a e le h =
    let d = drop-at memory o (omega (arith, le)) in
    let rest = loaded-is memory f count (suc o) (a + 1) (omega (arith, e)) (omega (arith, le)) h in
    let first : (b : ℕ) → d.0 ≡ Some b → f a ≡ b = λ b z. ap f e ∙ h o b (d.1 ∙ ap (λ (x : Byte). Some x) z) in
    subst (λ (xs : Memory). Is (from_bytes (take (suc count) xs)) (f a + 256 * load_bytes f (a + 1) count)) (sym d.2) (digit-is d.0 (from_bytes (take count (drop (suc o) memory))) (f a) (load_bytes f (a + 1) count) first rest)

pub load-is : (memory : Memory) (f : ℕ → ℕ) (count a : ℕ) → data_base ≤ a → a + count ≤ data_base + length memory → RefinesMemory memory f → Is (from_bytes (bytes_at memory a count)) (load_bytes f a count)
load-is memory f count a low high h = loaded-is memory f count (a - data_base) a (omega (arith, low)) (omega (arith, low, high)) h

-- ---- bytes behind a store

number-byte : (count n j b : ℕ) → slice_get (number_bytes count n) j ≡ Some (Some b) → n / 256 ^ j % 256 ≡ b
number-byte zero n j b h = absurd (let bad : ⊥ = cc in bad)
number-byte (suc count) n zero b h = let same : n % 256 ≡ b = cc in let one : n / 256 ^ 0 ≡ n = omega arith in ap (λ (x : ℕ). x % 256) one ∙ same
number-byte (suc count) n (suc j) b h =
    let rest = number-byte count (n / 256) j b h in
    let twice : n / 256 / 256 ^ j ≡ n / (256 * 256 ^ j) = div-div-eq-div-mul n 256 (256 ^ j) in
    let power : 256 ^ suc j ≡ 256 * 256 ^ j = pow-succ' 256 j in
    ap (λ (x : ℕ). n / x % 256) power ∙ ap (λ (x : ℕ). x % 256) (sym twice) ∙ rest

value-byte : (count n : ℕ) (value : Value) (j b : ℕ) → Is value n → slice_get (to_bytes count value) j ≡ Some (Some b) → n / 256 ^ j % 256 ≡ b
value-byte count n None j b is h = absurd (no-byte count j b None refl h)
value-byte count n (Some v) j b is h = ap (λ (x : ℕ). x / 256 ^ j % 256) (is v refl) ∙ number-byte count v j b h

pub store-refines : (memory : Memory) (f : ℕ → ℕ) (a count n : ℕ) (value : Value) → data_base ≤ a → a + count ≤ data_base + length memory → Is value n → RefinesMemory memory f
    → RefinesMemory (with_bytes memory a (to_bytes count value)) (store_bytes f a count n)
store-refines memory f a count n value low high is h i b e = by_place (cases_lt i o) (cases_lt i (o + count))
  where
    o : ℕ
    o = a - data_base

    bytes : List Byte
    bytes = to_bytes count value

    front : length (take (a - data_base) memory) ≡ a - data_base
    front = length-take-le (a - data_base) memory (omega (arith, low, high))

    many : length (to_bytes count value) ≡ count
    many = to_bytes-length count value

    both : length (take (a - data_base) memory ++ to_bytes count value) ≡ a - data_base + count
    both = let l = length-append (take (a - data_base) memory) (to_bytes count value) in let x = front in let y = many in omega (arith, l, x, y)

    by_place : (i < a - data_base) ⊎ (a - data_base ≤ i) → (i < a - data_base + count) ⊎ (a - data_base + count ≤ i) → store_bytes f a count n (data_base + i) ≡ b
    by_place (inl lt) second =
        let x = front in let y = both in
        let at = sym (get-take memory (a - data_base) i lt) ∙ sym (get-front (take (a - data_base) memory) (to_bytes count value) i (omega (arith, lt, x)))
        ∙ sym (get-front (take (a - data_base) memory ++ to_bytes count value) (drop (a - data_base + length (to_bytes count value)) memory) i (omega (arith, lt, y))) ∙ e in
        store_outside f a count n (data_base + i) (inl (omega (arith, lt, low))) ∙ h i b at
    by_place (inr le) (inl lt) =
        let x = front in let y = both in
        let at = sym (get-back (take (a - data_base) memory) (to_bytes count value) i (i - (a - data_base)) (omega (arith, le, x)))
        ∙ sym (get-front (take (a - data_base) memory ++ to_bytes count value) (drop (a - data_base + length (to_bytes count value)) memory) i (omega (arith, lt, y))) ∙ e in
        let place' : data_base + i - a ≡ i - (a - data_base) = omega (arith, low, le) in
        store_inside f a count n (data_base + i) (omega (arith, low, le)) (omega (arith, low, lt)) ∙ ap (λ (j : ℕ). n / 256 ^ j % 256) place' ∙ value-byte count n value (i - (a - data_base)) b is at
    by_place (inr le) (inr past) =
        let y = both in let z = many in
        let k : ℕ = i - (a - data_base + count) in
        let where' : a - data_base + length (to_bytes count value) + (i - (a - data_base + count)) ≡ i = omega (arith, z, past) in
        let at = ap (slice_get memory) (sym where') ∙ sym (get-drop memory (a - data_base + length (to_bytes count value)) (i - (a - data_base + count)))
        ∙ sym (get-back (take (a - data_base) memory ++ to_bytes count value) (drop (a - data_base + length (to_bytes count value)) memory) i (i - (a - data_base + count)) (omega (arith, y, past))) ∙ e in
        store_outside f a count n (data_base + i) (inr (omega (arith, past, low))) ∙ h i b at

-- ---- the sizes of accesses

-- a width that stands in memory is one of four
pub stored-widths : (P : ℕ → Type 0) (w : ℕ) → IsStored (Int w) → P 8 → P 16 → P 32 → P 64 → P w
stored-widths P w h p8 p16 p32 p64 =
    let parts = and_parts (w == 8 || w == 16 || w == 32 || w == 64 || w == 128) (nat_le w 64) h in
    by_eight (w == 8) refl parts.0
  where
    by_last : (b : Bool) → (w == 64) ≡ b → (w == 128) ≡ false → (b || (w == 128)) ≡ true → P w
    by_last true e no-wide s = subst P (sym (eqb-true w 64 e)) p64
    by_last false e no-wide s = absurd (let bad : ⊥ = cc in bad)

    not-wide : (w == 128) ≡ false
    not-wide = let small = (and_parts (w == 8 || w == 16 || w == 32 || w == 64 || w == 128) (nat_le w 64) h).1 in grind (arith, small)

    by_word : (b : Bool) → (w == 32) ≡ b → (b || (w == 64) || (w == 128)) ≡ true → P w
    by_word true e s = subst P (sym (eqb-true w 32 e)) p32
    by_word false e s = by_last (w == 64) refl not-wide s

    by_half : (b : Bool) → (w == 16) ≡ b → (b || (w == 32) || (w == 64) || (w == 128)) ≡ true → P w
    by_half true e s = subst P (sym (eqb-true w 16 e)) p16
    by_half false e s = by_word (w == 32) refl s

    by_eight : (b : Bool) → (w == 8) ≡ b → (b || (w == 16) || (w == 32) || (w == 64) || (w == 128)) ≡ true → P w
    by_eight true e s = subst P (sym (eqb-true w 8 e)) p8
    by_eight false e s = by_half (w == 16) refl s

pub stored-value : (ty : Ty) → IsStored ty → IsValueType ty
stored-value Void h = absurd h
stored-value (Int w) h = stored-widths (λ (v : ℕ). (1 ≤ v) × (v ≤ 64)) w h (omega arith, omega arith) (omega arith, omega arith) (omega arith, omega arith) (omega arith, omega arith)
stored-value Ptr h = tt

pub load-size-is : (ty : Ty) → IsStored ty → load_size (load_op (width ty)) ≡ byte_count ty
load-size-is Void h = absurd h
load-size-is (Int w) h = stored-widths (λ (v : ℕ). load_size (load_op v) ≡ byte_count (Int v)) w h refl refl refl refl
load-size-is Ptr h = refl

pub store-size-is : (ty : Ty) → IsStored ty → store_size (store_op (width ty)) ≡ byte_count ty
store-size-is Void h = absurd h
store-size-is (Int w) h = stored-widths (λ (v : ℕ). store_size (store_op v) ≡ byte_count (Int v)) w h refl refl refl refl
store-size-is Ptr h = refl

-- what is loaded isn't extended by a sign
plain-load : (w n : ℕ) → extended (load_op w) n ≡ n
plain-load w n = by_eight (w == 8)
  where
    by_word : (b : Bool) → extended (cond b Lwu Ld) n ≡ n
    by_word true = refl
    by_word false = refl

    by_half : (b : Bool) → extended (cond b Lhu (cond (w == 32) Lwu Ld)) n ≡ n
    by_half true = refl
    by_half false = by_word (w == 32)

    by_eight : (b : Bool) → extended (cond b Lbu (cond (w == 16) Lhu (cond (w == 32) Lwu Ld))) n ≡ n
    by_eight true = refl
    by_eight false = by_half (w == 16)

-- ---- the instructions

module _ (program : Program) (a : Invocation) (s : Machine) (low frame n : ℕ) (m : Meaning) (functions : m.functions ≤ 1024) (room : m.room ≤ 67108864) (place : Place) (lowb : code_base + 4 ≤ place.base) (highb : place.base + 4 * length place.words ≤ code_limit)
    (bottom : control_base ≤ low) (top : low + frame ≤ control_end) (is-frame : frame ≡ 128 + 32 * n) where
  abbrev Held : List Value → Memory → Point → Type 0
  Held = Holds a s low frame

  pick : (b : Bool) (x y : Act) → b ≡ true → cond b x y ≡ x
  pick true x y h = refl
  pick false x y h = absurd (let bad : false ≡ true = h in cc)

  data-inside : (memory : Memory) (address count : ℕ) → length memory ≤ m.room → is_inside memory address count ≡ true → in_data m address count ≡ true
  data-inside memory address count small inside =
      let b = inside-bounds memory address count inside in let lo = b.0 in let hi = b.1 in
      ap (λ (x : Bool). x && nat_le (address + count) (data_base + m.room)) (le-leb data_base address lo) ∙ le-leb (address + count) (data_base + m.room) (omega (arith, hi, small))

  near : (pc : ℕ) → pc + 4 ≤ code_limit → plus pc (pos 4) ≡ pc + 4
  near pc h = omega (arith, h)

  load-acts : (memory : Memory) (t : Machine) (op : LoadOp) (address : ℕ) → length memory ≤ m.room → t.regs.pc + 4 ≤ code_limit → t.regs.x 5 ≡ address → is_inside memory address (load_size op) ≡ true
      → act m t (Load op T0 T0 (pos 0)) ≡ On (record t { regs = write (next-regs t) T0 (extended op (load_bytes t.bytes address (load_size op))) })
  load-acts memory t op address small h e inside =
      let b = inside-bounds memory address (load_size op) inside in let hi = b.1 in
      let at : plus (t.regs.x 5) (pos 0) ≡ address = omega (arith, e, hi, small, room) in
      let after-one : ℕ → ℕ → Act = λ pc x. cond (in_data m x (load_size op)) (On (loaded (record t { regs = record { x = t.regs.x; pc = pc } }) op T0 (load_bytes t.bytes x (load_size op)))) (cond (in_control x (load_size op)) (On (loaded (record t { regs = record { x = t.regs.x; pc = pc } }) op T0 (load_bytes t.control x (load_size op)))) Fails) in
      ap (λ (x : ℕ). after-one (plus t.regs.pc (pos 4)) x) at
      ∙ ap (λ (pc : ℕ). after-one pc address) (near t.regs.pc h)
      ∙ pick (in_data m address (load_size op)) _ _ (data-inside memory address (load_size op) small inside)

  -- a load of the address in t0
  pub load-work : (values : List Value) (here : Memory) (gives : Ty) (address : ℕ) (p : Point) → IsStored gives → length here ≤ m.room → is_inside here address (byte_count gives) ≡ true → p.machine.regs.x 5 ≡ address → Held values here p
      → Stands place p.machine.regs.pc (Load (load_op (width gives)) T0 T0 (pos 0) ∷ [])
      → Worked program a s low frame n m functions room place lowb highb bottom top is-frame (Load (load_op (width gives)) T0 T0 (pos 0) ∷ []) values here (from_bytes (bytes_at here address (byte_count gives))) p
  load-work values here gives address p stored small inside at h st =
      let op : LoadOp = load_op (width gives) in
      let size = load-size-is gives stored in
      let inside' : is_inside here address (load_size op) ≡ true = ap (is_inside here address) size ∙ inside in
      let b = inside-bounds here address (byte_count gives) inside in
      let x : ℕ = load_bytes p.machine.bytes address (load_size op) in
      let bound = st.1 in let base' = st.0 in
      let acts = load-acts here p.machine op address small bound at inside' ∙ ap (λ (v : ℕ). On (record p.machine { regs = write (next-regs p.machine) T0 v })) (plain-load (width gives) x)
      ∙ ap (λ (r : Registers). On (record p.machine { regs = r })) (write-is (next-regs p.machine) T0 x scratch-t0.0) in
      record {
        count = 1;
        few = omega arith;
        point = put p T0 x 1;
        run = plain-step m functions place lowb highb p (Load op T0 T0 (pos 0)) (put p T0 x 1).machine st.2 refl acts (omega (arith, base'));
        pc = refl;
        holds = hold-put a s low frame values here p T0 x 1 scratch-t0 h;
        is = λ k e. ap (load_bytes p.machine.bytes address) size ∙ load-is here p.machine.bytes (byte_count gives) address b.0 b.1 h.memory' k e;
      }

  -- the point behind a store of t0 at an address
  abbrev pub kept_point : Point → ℕ → ℕ → Point
  kept_point p address count = moved p (record p.machine { regs = next-regs p.machine; bytes = store_bytes p.machine.bytes address count (p.machine.regs.x 5) }) p.counted

  store-acts : (memory : Memory) (t : Machine) (op : StoreOp) (address : ℕ) → length memory ≤ m.room → t.regs.pc + 4 ≤ code_limit → t.regs.x 6 ≡ address → is_inside memory address (store_size op) ≡ true
      → act m t (Store op T0 T1 (pos 0)) ≡ On (record t { regs = next-regs t; bytes = store_bytes t.bytes address (store_size op) (t.regs.x 5) })
  store-acts memory t op address small h e inside =
      let b = inside-bounds memory address (store_size op) inside in let hi = b.1 in
      let at : plus (t.regs.x 6) (pos 0) ≡ address = omega (arith, e, hi, small, room) in
      let after-one : ℕ → ℕ → Act = λ pc x. cond (in_data m x (store_size op)) (On (record t { regs = record { x = t.regs.x; pc = pc }; bytes = store_bytes t.bytes x (store_size op) (t.regs.x 5) })) (cond (in_control x (store_size op)) (On (record t { regs = record { x = t.regs.x; pc = pc }; control = store_bytes t.control x (store_size op) (t.regs.x 5) })) Fails) in
      ap (λ (x : ℕ). after-one (plus t.regs.pc (pos 4)) x) at
      ∙ ap (λ (pc : ℕ). after-one pc address) (near t.regs.pc h)
      ∙ pick (in_data m address (store_size op)) _ _ (data-inside memory address (store_size op) small inside)

  -- a store of the value in t0 at the address in t1
  pub store-runs : (here : Memory) (ty : Ty) (address : ℕ) (p : Point) → IsStored ty → length here ≤ m.room → is_inside here address (byte_count ty) ≡ true → p.machine.regs.x 6 ≡ address
      → Stands place p.machine.regs.pc (Store (store_op (width ty)) T0 T1 (pos 0) ∷ []) → Goes m functions place lowb highb 1 p (kept_point p address (byte_count ty))
  store-runs here ty address p stored small inside at st =
      let op : StoreOp = store_op (width ty) in
      let size = store-size-is ty stored in
      let bound = st.1 in let base' = st.0 in
      let acts = store-acts here p.machine op address small bound at (ap (is_inside here address) size ∙ inside)
      ∙ ap (λ (k : ℕ). On (record p.machine { regs = next-regs p.machine; bytes = store_bytes p.machine.bytes address k (p.machine.regs.x 5) })) size in
      plain-step m functions place lowb highb p (Store op T0 T1 (pos 0)) (kept_point p address (byte_count ty)).machine st.2 refl acts (omega (arith, base'))

  pub hold-kept : (values : List Value) (here : Memory) (address count : ℕ) (value : Value) (p : Point) → is_inside here address count ≡ true → Is value (p.machine.regs.x 5) → Held values here p
      → Held values (with_bytes here address (to_bytes count value)) (kept_point p address count)
  hold-kept values here address count value p inside is h =
      let b = inside-bounds here address count inside in
      record {
        sp = h.sp;
        slots = h.slots;
        ra = h.ra;
        aside = h.aside;
        saved = h.saved;
        data_top = h.data_top ∙ ap (λ (k : ℕ). data_base + k) (sym (with_bytes-length here address (to_bytes count value) (ap (is_inside here address) (to_bytes-length count value) ∙ inside)));
        kept = h.kept;
        memory' = store-refines here p.machine.bytes address count (p.machine.regs.x 5) value b.0 b.1 is h.memory';
        counted = h.counted;
      }
