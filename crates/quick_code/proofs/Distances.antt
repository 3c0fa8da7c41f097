-- What the indices of an address add is what its pieces add.
use Rattle.std.proofs.Common.{◌≡◌, refl, sym, ap, subst, ◌∙◌, ℕ, ◌+◌, ◌*◌, ◌%◌, ◌^◌, ◌<◌, ◌≤◌, List, [], ◌∷◌, ◌++◌, length, Option, Some, None, Bool, true, false, cond, arith}
use Rattle.std.specs.Prelude.{slice_get, map, ◌&&◌, nat_lt}
use Rattle.std.proofs.lemmas.Bool.{and_parts}
use Rattle.std.proofs.lemmas.List.{length-append}
use Rattle.ir_core.specs.declared.types.Ty.{Ty}
use Rattle.ir_core.specs.declared.types.MemTy.{MemTy, out-MemTy}
use Rattle.ir_core.specs.declared.types.MemTy.TheOpen.{MemTy-F, Int as MemInt, Ptr as MemPtr, Array, Struct}
use Rattle.ir_core.specs.declared.code.Operand.{Operand}
use Rattle.ir_core.specs.declared.code.Operand.TheVariants.{Value as Local, Num, Null, Place as PlaceOf, Poison}
use Rattle.ir_core.specs.declared.program.Function.{Function}
use Rattle.ir_core.specs.Layout.{size, extent_of, offset_of_field}
use Rattle.ir_core.specs.Units.{values as value_count}
use Rattle.ir_meaning.specs.Value.{Value}
use Rattle.rv_core.specs.declared.instr.Instr.{Instr}
use Rattle.ir_meaning.specs.Memory.{Memory, index_64, into_part, into_parts, distance}
use Rattle.ir_meaning.specs.Plays.{Meaning, Invocation}
use Rattle.ir_meaning.specs.Operators.{width}
use Rattle.ir_meaning.specs.Ranges.{FitsWidth}
use Rattle.ir_meaning.specs.Step.{Program, operand, index_numbers, part}
use Rattle.ir_meaning.specs.Typed.{types, AreIndices, IsInteger, IsOperand}
use Rattle.rv_play.specs.Machine.{Machine, code_base, code_limit, control_base, control_end}
use Rattle.rv_play.specs.CodePlay.{Place, Point}
use Rattle.rv_play.proofs.Lines.{Stands, stands-apart, goes-then}
use Rattle.quick_code.specs.Parts.{Piece, Bytes, sized, literal, of_field, times_code, bytes_code, parts_code, piece, pieces_into, pieces, bytes_in, pieces_code, is_index, is_literal, is_step, are_steps, is_path, AreSmall}
use Rattle.code_pieces.proofs.Frame.{Is, Holds}
use Rattle.quick_code.proofs.Numbers.{width-small, width-some, operand-inside}
use Rattle.quick_code.proofs.Typing.{integer-value}
use Rattle.quick_code.proofs.Operations.{Worked}
use Rattle.quick_code.proofs.Parts.{Adds, ArePieces, times-short, bytes-short, pieces-go, bytes-go}

-- ---- lists of numbers of indices

-- each index that is a number has its width
abbrev pub AreFit : Program → List Value → List (Ty × Operand) → Type 0
AreFit program values [] = Unit {0}
AreFit program values (index ∷ indices) = FitsWidth (width index.0) (operand program values index.1) × AreFit program values indices

record Split (program : Program) (values : List Value) (index : Ty × Operand) (indices : List (Ty × Operand)) (ns : List ℕ) : Type 0 where
  v : ℕ
  more : List ℕ
  is : operand program values index.1 ≡ Some v
  rest : index_numbers program values indices ≡ Some more
  all : ns ≡ index_64 (width index.0) v ∷ more

split-of : (program : Program) (values : List Value) (index : Ty × Operand) (indices : List (Ty × Operand)) (ns : List ℕ) → index_numbers program values (index ∷ indices) ≡ Some ns → Split program values index indices ns
split-of program values index indices ns e = by_parts (operand program values index.1) (index_numbers program values indices) refl refl
  where
    by_parts : (v : Value) (r : Option (List ℕ)) → operand program values index.1 ≡ v → index_numbers program values indices ≡ r → Split program values index indices ns
    by_parts None r ev er = absurd (let h : None ≡ Some ns = rw ev at e in let bad : ⊥ = cc in bad)
    by_parts (Some v) None ev er = absurd (let h : None ≡ Some ns = rw (ev, er) at e in let bad : ⊥ = cc in bad)
    by_parts (Some v) (Some more) ev er = record {
      v = v;
      more = more;
      is = ev;
      rest = er;
      all = (let h : Some (index_64 (width index.0) v ∷ more) ≡ Some ns = rw (ev, er) at e in sym (taken h));
    }
      where
        taken : {x y : List ℕ} → Some x ≡ Some y → x ≡ y
        taken h = cc

-- ---- what pieces add

pub record AddsUp (values : List Value) (ps : List Piece) (far : ℕ) : Type 0 where
  pub total : ℕ
  pub adds : Adds values ps total
  pub sum : far ≡ bytes_in ps + total

adds-none : (values : List Value) → AddsUp values [] 0
adds-none values = record { total = 0; adds = refl; sum = omega arith }

adds-bytes : (values : List Value) (ps : List Piece) (count far : ℕ) → AddsUp values ps far → AddsUp values (Bytes count ∷ ps) (count + far)
adds-bytes values ps count far h = let s = h.sum in record { total = h.total; adds = h.adds; sum = omega (arith, s) }

adds-sized : (program : Program) (values : List Value) (size : ℕ) (ty : Ty) (o : Operand) (v far : ℕ) (ps : List Piece) → is_index o ≡ true → operand program values o ≡ Some v → FitsWidth (width ty) (operand program values o) → AddsUp values ps far
    → AddsUp values (sized size ty o ++ ps) (index_64 (width ty) v * size + far)
adds-sized program values size ty (Local number) v far ps index is fits h =
    let s = h.sum in
    let product : ℕ = index_64 (width ty) v * size in
    record {
      total = product + h.total;
      adds = record { v = v; more = h.total; is = is; small = subst (FitsWidth (width ty)) is fits; others = h.adds; sum = refl };
      sum = omega (arith, s);
    }
adds-sized program values size ty (Num k) v far ps index is fits h =
    let same : k ≡ v = (let e : Some k ≡ Some v = is in cc) in
    let s = h.sum in
    let product : index_64 (width ty) k * size ≡ index_64 (width ty) v * size = ap (λ (x : ℕ). index_64 (width ty) x * size) same in
    record { total = h.total; adds = h.adds; sum = omega (arith, s, product) }
adds-sized program values size ty Null v far ps index is fits h = absurd (let bad : false ≡ true = index in cc)
adds-sized program values size ty (PlaceOf g k) v far ps index is fits h = absurd (let bad : false ≡ true = index in cc)
adds-sized program values size ty Poison v far ps index is fits h = absurd (let bad : None ≡ Some v = is in cc)

both-true : (b c : Bool) → cond b c false ≡ true → (b ≡ true) × (c ≡ true)
both-true true c h = (refl, h)
both-true false c h = absurd (let bad : false ≡ true = h in cc)

literal-is : (program : Program) (values : List Value) (ty : Ty) (o : Operand) (v : ℕ) → is_literal o ≡ true → operand program values o ≡ Some v → literal ty o ≡ index_64 (width ty) v
literal-is program values ty (Num k) v h e = ap (index_64 (width ty)) (let z : Some k ≡ Some v = e in cc)
literal-is program values ty (Local number) v h e = absurd (let bad : false ≡ true = h in cc)
literal-is program values ty Null v h e = absurd (let bad : false ≡ true = h in cc)
literal-is program values ty (PlaceOf g k) v h e = absurd (let bad : false ≡ true = h in cc)
literal-is program values ty Poison v h e = absurd (let bad : false ≡ true = h in cc)

module _ (program : Program) (values : List Value) where
  into-adds : (indices : List (Ty × Operand)) (ty : MemTy) (ns : List ℕ) → index_numbers program values indices ≡ Some ns → AreFit program values indices → are_steps indices ty ≡ true → AddsUp values (pieces_into indices ty) (into_parts ns ty)
  into-adds [] ty ns e fits steps = subst (λ (xs : List ℕ). AddsUp values [] (into_parts xs ty)) (let z : [] ≡ ns = (let h : Some [] ≡ Some ns = e in cc) in z) (adds-none values)
  into-adds (index ∷ indices) ty ns e fits steps =
      let s = split-of program values index indices ns e in
      subst (λ (xs : List ℕ). AddsUp values (pieces_into (index ∷ indices) ty) (into_parts xs ty)) (sym s.all)
      (by_layer s (out-MemTy ty) (λ part steps. into-adds indices part s.more s.rest fits.1 steps) steps)
    where
      by_layer : (s : Split program values index indices ns) (l : MemTy-F MemTy) → ((part : MemTy) → are_steps indices part ≡ true → AddsUp values (pieces_into indices part) (into_parts s.more part)) → is_step (are_steps indices) l index ≡ true
          → AddsUp values (piece (pieces_into indices) l index) (into_part (into_parts s.more) l (index_64 (width index.0) s.v))
      by_layer s (MemInt w) rest steps = absurd (let bad : false ≡ true = steps in cc)
      by_layer s MemPtr rest steps = absurd (let bad : false ≡ true = steps in cc)
      by_layer s (Array count element) rest steps =
          let both = both-true (is_index index.1) (are_steps indices element) steps in
          adds-sized program values (size element) index.0 index.1 s.v (into_parts s.more element) (pieces_into indices element) both.0 s.is fits.0 (rest element both.1)
      by_layer s (Struct fields packed) rest steps =
          let both = both-true (is_literal index.1 && nat_lt (length fields) (2 ^ 32)) (of_field true (are_steps indices) (slice_get fields (literal index.0 index.1))) steps in
          let same = literal-is program values index.0 index.1 s.v (and_parts (is_literal index.1) (nat_lt (length fields) (2 ^ 32)) both.0).0 s.is in
          subst (λ (x : ℕ). AddsUp values (piece (pieces_into indices) (Struct fields packed) index) (into_part (into_parts s.more) (Struct fields packed) x)) same
          (by_field (slice_get fields (literal index.0 index.1)) refl both.1)
        where
          off : ℕ
          off = offset_of_field (map extent_of fields) packed (literal index.0 index.1)

          by_field : (f : Option MemTy) → slice_get fields (literal index.0 index.1) ≡ f → of_field true (are_steps indices) f ≡ true
              → AddsUp values (Bytes off ∷ of_field [] (pieces_into indices) f) (into_part (into_parts s.more) (Struct fields packed) (literal index.0 index.1))
          by_field None e h =
              let inner : into_part (into_parts s.more) (Struct fields packed) (literal index.0 index.1) ≡ off + 0 = rw e refl in
              subst (λ (d : ℕ). AddsUp values (Bytes off ∷ []) d) (sym inner) (adds-bytes values [] off 0 (adds-none values))
          by_field (Some field) e h =
              let inner : into_part (into_parts s.more) (Struct fields packed) (literal index.0 index.1) ≡ off + into_parts s.more field = rw e refl in
              subst (λ (d : ℕ). AddsUp values (Bytes off ∷ pieces_into indices field) d) (sym inner) (adds-bytes values (pieces_into indices field) off (into_parts s.more field) (rest field h))

  pub parts-add : (indices : List (Ty × Operand)) (ty : MemTy) (ns : List ℕ) → index_numbers program values indices ≡ Some ns → AreFit program values indices → is_path ty indices ≡ true → AddsUp values (pieces ty indices) (distance ty ns)
  parts-add [] ty ns e fits path = subst (λ (xs : List ℕ). AddsUp values [] (distance ty xs)) (let z : [] ≡ ns = (let h : Some [] ≡ Some ns = e in cc) in z) (adds-none values)
  parts-add (index ∷ indices) ty ns e fits path =
      let s = split-of program values index indices ns e in
      let both = both-true (is_index index.1) (are_steps indices ty) path in
      subst (λ (xs : List ℕ). AddsUp values (pieces ty (index ∷ indices)) (distance ty xs)) (sym s.all)
      (adds-sized program values (size ty) index.0 index.1 s.v (into_parts s.more ty) (pieces_into indices ty) both.0 s.is fits.0 (into-adds indices ty s.more s.rest fits.1 both.1))

-- ---- pieces of typed indices stand among the values

sized-are : (function : Function) (size : ℕ) (ty : Ty) (o : Operand) (ps : List Piece) → IsInteger ty → IsOperand (types function) ty o → AreSmall (sized size ty o ++ ps) → (AreSmall ps → ArePieces (value_count function) ps)
    → ArePieces (value_count function) (sized size ty o ++ ps)
sized-are function size ty (Local number) ps is-int is small rest =
    let v = integer-value ty is-int in
    (width-some ty v, width-small ty v, operand-inside function ty (Local number) (width-small ty v) is, small.0, rest small.1)
sized-are function size ty (Num k) ps is-int is small rest = rest small
sized-are function size ty Null ps is-int is small rest = rest small
sized-are function size ty (PlaceOf g k) ps is-int is small rest = rest small
sized-are function size ty Poison ps is-int is small rest = rest small

into-are : (function : Function) (indices : List (Ty × Operand)) (ty : MemTy) → AreIndices (types function) indices → AreSmall (pieces_into indices ty) → ArePieces (value_count function) (pieces_into indices ty)
into-are function [] ty typed small = tt
into-are function (index ∷ indices) ty typed small = by_layer (out-MemTy ty) (λ part. into-are function indices part typed.2) small
  where
    by_layer : (l : MemTy-F MemTy) → ((part : MemTy) → AreSmall (pieces_into indices part) → ArePieces (value_count function) (pieces_into indices part)) → AreSmall (piece (pieces_into indices) l index)
        → ArePieces (value_count function) (piece (pieces_into indices) l index)
    by_layer (MemInt w) rest small = tt
    by_layer MemPtr rest small = tt
    by_layer (Array count element) rest small = sized-are function (size element) index.0 index.1 (pieces_into indices element) typed.0 typed.1 small (rest element)
    by_layer (Struct fields packed) rest small = by_field (slice_get fields (literal index.0 index.1)) small
      where
        by_field : (f : Option MemTy) → AreSmall (of_field [] (pieces_into indices) f) → ArePieces (value_count function) (of_field [] (pieces_into indices) f)
        by_field None small = tt
        by_field (Some field) small = rest field small

pub pieces-are : (function : Function) (indices : List (Ty × Operand)) (ty : MemTy) → AreIndices (types function) indices → AreSmall (pieces ty indices) → ArePieces (value_count function) (pieces ty indices)
pieces-are function [] ty typed small = tt
pieces-are function (index ∷ indices) ty typed small = sized-are function (size ty) index.0 index.1 (pieces_into indices ty) typed.0 typed.1 small (into-are function indices ty typed.2)

-- ---- how long their code is

code-append : (ps : List Piece) (size : ℕ) (ty : Ty) (o : Operand) → length (pieces_code (sized size ty o ++ ps)) ≤ 15 + length (pieces_code ps)
code-append ps size ty (Local number) =
    let l = length-append (times_code (width ty) number size) (pieces_code ps) in
    let t = times-short (width ty) number size in
    omega (arith, l, t)
code-append ps size ty (Num k) = omega arith
code-append ps size ty Null = omega arith
code-append ps size ty (PlaceOf g k) = omega arith
code-append ps size ty Poison = omega arith

into-short : (indices : List (Ty × Operand)) (ty : MemTy) → length (pieces_code (pieces_into indices ty)) ≤ 15 * length indices
into-short [] ty = omega arith
into-short (index ∷ indices) ty = by_layer (out-MemTy ty) (λ part. into-short indices part)
  where
    by_layer : (l : MemTy-F MemTy) → ((part : MemTy) → length (pieces_code (pieces_into indices part)) ≤ 15 * length indices) → length (pieces_code (piece (pieces_into indices) l index)) ≤ 15 * length (index ∷ indices)
    by_layer (MemInt w) rest = omega arith
    by_layer MemPtr rest = omega arith
    by_layer (Array count element) rest = let a = code-append (pieces_into indices element) (size element) index.0 index.1 in let r = rest element in omega (arith, a, r)
    by_layer (Struct fields packed) rest = by_field (slice_get fields (literal index.0 index.1))
      where
        by_field : (f : Option MemTy) → length (pieces_code (of_field [] (pieces_into indices) f)) ≤ 15 * length (index ∷ indices)
        by_field None = omega arith
        by_field (Some field) = let r = rest field in omega (arith, r)

pub parts-short : (ty : MemTy) (indices : List (Ty × Operand)) → length (parts_code ty indices) ≤ 9 + 15 * length indices
parts-short ty indices =
    let l = length-append (pieces_code (pieces ty indices)) (bytes_code (bytes_in (pieces ty indices) % 2 ^ 64)) in
    let b = bytes-short (bytes_in (pieces ty indices) % 2 ^ 64) in
    let p = pieces-short ty indices in
    omega (arith, l, b, p)
  where
    pieces-short : (ty : MemTy) (indices : List (Ty × Operand)) → length (pieces_code (pieces ty indices)) ≤ 15 * length indices
    pieces-short ty [] = omega arith
    pieces-short ty (index ∷ indices) = let a = code-append (pieces_into indices ty) (size ty) index.0 index.1 in let r = into-short indices ty in omega (arith, a, r)

-- ---- the whole

module _ (program : Program) (a : Invocation) (s : Machine) (low frame n : ℕ) (m : Meaning) (functions : m.functions ≤ 1024) (room : m.room ≤ 67108864) (place : Place) (lowb : code_base + 4 ≤ place.base) (highb : place.base + 4 * length place.words ≤ code_limit)
    (bottom : control_base ≤ low) (top : low + frame ≤ control_end) (is-frame : frame ≡ 128 + 32 * n) where
  abbrev Work : List Instr → List Value → Memory → Value → Point → Type 0
  Work = Worked program a s low frame n m functions room place lowb highb bottom top is-frame

  -- the address of a part stands in t0, where the base and each index is a number
  pub parts-work : (ty : MemTy) (indices : List (Ty × Operand)) (base : Value) (values : List Value) (here : Memory) (p : Point) → ArePieces n (pieces ty indices) → AreFit program values indices → is_path ty indices ≡ true
      → FitsWidth 64 base → Is base (p.machine.regs.x 5) → Holds a s low frame values here p → Stands place p.machine.regs.pc (parts_code ty indices)
      → Work (parts_code ty indices) values here (part ty base (index_numbers program values indices)) p
  parts-work ty indices base values here p are fits path fb is h st =
      let c0 : List Instr = pieces_code (pieces ty indices) in
      let count : ℕ = bytes_in (pieces ty indices) % 2 ^ 64 in
      let c1 : List Instr = bytes_code count in
      let g = pieces-go program a s low frame n m functions room place lowb highb bottom top is-frame (pieces ty indices) values here p are h (stands-apart place p.machine.regs.pc c0 c1 st).0 in
      let q : Point = g.point in
      let pc0 = g.went.pc in
      let b = bytes-go program a s low frame n m functions room place lowb highb bottom top is-frame count values here q (omega arith) g.went.holds
      (subst (λ (k : ℕ). Stands place k c1) (sym pc0) (stands-apart place p.machine.regs.pc c0 c1 st).1) in
      let pc1 = b.went.pc in
      let len = length-append c0 c1 in
      record {
        count = length c0 + length c1;
        few = omega (arith, len);
        point = b.point;
        run = goes-then m functions place lowb highb (length c0) (length c1) p q b.point g.went.run b.went.run;
        pc = omega (arith, len, pc0, pc1);
        holds = b.went.holds;
        is = by_base base (index_numbers program values indices) refl fb is g.adds b.adds;
      }
    where
      x5 : Point → ℕ
      x5 q = q.machine.regs.x 5

      sums : (b t c k : ℕ) (x y : ℕ) → x ≡ (b + t) % 2 ^ 64 → y ≡ (x + c % 2 ^ 64) % 2 ^ 64 → (b + (c + t)) % 2 ^ 64 ≡ k → y ≡ k
      sums b t c k x y e f g = omega (arith, e, f, g)

      by_base : {q r : ℕ} (base : Value) (ns : Option (List ℕ)) → index_numbers program values indices ≡ ns → FitsWidth 64 base → Is base (p.machine.regs.x 5)
          → ((total : ℕ) → p.machine.regs.x 5 < 2 ^ 64 → Adds values (pieces ty indices) total → q ≡ (p.machine.regs.x 5 + total) % 2 ^ 64)
          → (q < 2 ^ 64 → r ≡ (q + bytes_in (pieces ty indices) % 2 ^ 64) % 2 ^ 64) → Is (part ty base ns) r
      by_base None ns e fb is first second = λ k z. absurd (let bad : ⊥ = cc in bad)
      by_base (Some b) None e fb is first second = λ k z. absurd (let bad : ⊥ = cc in bad)
      by_base {q} {r} (Some b) (Some ns) e fb is first second = λ k z.
          let same : p.machine.regs.x 5 ≡ b = is b refl in
          let up = parts-add program values indices ty ns e fits path in
          let far = up.sum in
          let moved = first up.total (omega (arith, same, fb)) up.adds in
          let last = second (omega (arith, moved)) in
          let value : (b + distance ty ns) % 2 ^ 64 ≡ k = (let w : Some ((b + distance ty ns) % 2 ^ 64) ≡ Some k = z in cc) in
          sums b up.total (bytes_in (pieces ty indices)) k q r (moved ∙ ap (λ (x : ℕ). (x + up.total) % 2 ^ 64) same) last (ap (λ (d : ℕ). (b + d) % 2 ^ 64) (sym far) ∙ value)
