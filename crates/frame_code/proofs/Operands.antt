-- Operands are read from their places, and results written to theirs.
use Rattle.std.proofs.Common.{◌≡◌, ◌≢◌, refl, sym, ap, subst, ◌∙◌, ℕ, zero, suc, ◌+◌, ◌-◌, ◌*◌, ◌%◌, ◌^◌, ◌<◌, ◌≤◌, ◌⊎◌, inl, inr, Bool, true, false, List, [], ◌∷◌, ◌++◌, length, Option, Some, None, arith, ap₂, append_assoc}
use Rattle.std.specs.Prelude.{◌==◌, nat_lt, pos, ℤ}
use Rattle.std.proofs.lemmas.Bool.{cases_lt}
use Rattle.std.proofs.lemmas.List.{length-append}
use Rattle.rv_core.specs.Reg.{number_of}
use Rattle.rv_core.specs.declared.reg.Reg.{Reg}
use Rattle.rv_core.specs.declared.reg.Reg.TheVariants.{T0, T1}
use Rattle.rv_core.specs.declared.instr.ImmOp.{ImmOp}
use Rattle.rv_core.specs.declared.instr.ImmOp.TheVariants.{Addi}
use Rattle.rv_core.specs.declared.instr.RegOp.{RegOp}
use Rattle.rv_core.specs.declared.instr.Instr.{Instr}
use Rattle.rv_core.specs.declared.instr.Instr.TheVariants as rv
use Rattle.rv_core.specs.Bytes.{load_bytes, store_bytes}
use Rattle.rv_core.specs.Step.{Registers, read, written, write, next, op_value, register_form, modulo}
use Rattle.rv_core.proofs.Bytes.{load_stored, load_outside, store_outside}
use Rattle.abi.specs.Frame.{slot_place}
use Rattle.ir_meaning.specs.Plays.{Meaning}
use Rattle.rv_play.specs.Machine.{Machine, Act, On, act, code_base, code_limit, control_base, control_end}
use Rattle.rv_play.specs.CodePlay.{Place as Words, Point, is_jalr}
use Rattle.rv_play.proofs.Lines.{Stands, stands-apart, Goes, goes-then, goes-none}
use Rattle.mir.specs.declared.places.Place.{Place}
use Rattle.mir.specs.declared.places.Place.TheVariants.{Saved, Slot}
use Rattle.mir.specs.Places.{IsPlace}
use Rattle.rv_play.proofs.Fits.{op_value_below, modulo_below}
use Rattle.code_pieces.specs.Code.{load_at, store_at, const_code}
use Rattle.code_pieces.proofs.Const.{Puts, put, puts-one, read-put, const-puts}
use Rattle.code_pieces.proofs.Const.{read-is}
use Rattle.code_pieces.proofs.Slots.{Alters, Saves, loads-at, saves-at, other-register}
use Rattle.frame_code.specs.Frame.{saved_reg}
use Rattle.frame_code.specs.Code.{held_in, fetch, keep, load_place, store_place, op_code, imm_code, number_code, move_code}
use Rattle.frame_code.specs.Stands.{saved_number, number_at}
use Rattle.frame_code.proofs.Numbers.{IsSaved, is-saved, saved-is-one}

-- t0 and t1, which stand for slots
pub record IsSpare (t : Reg) : Type 0 where
  pub some : number_of t ≢ 0
  pub few : number_of t < 8
  pub not-sp : number_of t ≢ 2
  pub spare : (number_of t ≡ 5) ⊎ (number_of t ≡ 6)

pub spare-t0 : IsSpare T0
spare-t0 = record { some = λ z. cc; few = omega arith; not-sp = λ z. cc; spare = inl refl }

pub spare-t1 : IsSpare T1
spare-t1 = record { some = λ z. cc; few = omega arith; not-sp = λ z. cc; spare = inr refl }

-- nothing has changed but t0, t1 and t6
pub record Quiet (p q : Point) : Type 0 where
  pub others : (j : ℕ) → j ≢ 5 → j ≢ 6 → j ≢ 31 → q.machine.regs.x j ≡ p.machine.regs.x j
  pub control : q.machine.control ≡ p.machine.control
  pub bytes : q.machine.bytes ≡ p.machine.bytes
  pub counted : q.counted ≡ p.counted

pub quiet-none : (p : Point) → Quiet p p
quiet-none p = record { others = λ j a b c. refl; control = refl; bytes = refl; counted = refl }

pub quiet-then : (p q r : Point) → Quiet p q → Quiet q r → Quiet p r
quiet-then p q r h k = record {
  others = λ j a b c. k.others j a b c ∙ h.others j a b c;
  control = k.control ∙ h.control;
  bytes = k.bytes ∙ h.bytes;
  counted = k.counted ∙ h.counted;
}

-- the register is the place
abbrev pub IsOwn : Place → ℕ → Type 0
IsOwn (Saved k) j = j ≡ saved_number k
IsOwn (Slot i) j = ⊥

-- eight bytes at an address are none of the place's
abbrev pub Misses : ℕ → Place → ℕ → Type 0
Misses low (Saved k) x = Unit {0}
Misses low (Slot i) x = (x + 8 ≤ low + slot_place i) ⊎ (low + slot_place i + 8 ≤ x)

-- a number was written to a place, and nothing else has changed but t0, t1 and t6
pub record Writes (low slots : ℕ) (p q : Point) (place : Place) (v : ℕ) : Type 0 where
  pub at : number_at low q.machine (Some place) ≡ v
  pub others : (j : ℕ) → j ≢ 5 → j ≢ 6 → j ≢ 31 → (IsOwn place j → ⊥) → q.machine.regs.x j ≡ p.machine.regs.x j
  pub apart : (x : ℕ) → Misses low place x → load_bytes q.machine.control x 8 ≡ load_bytes p.machine.control x 8
  pub above : (x : ℕ) → low + 8 * slots ≤ x → q.machine.control x ≡ p.machine.control x
  pub bytes : q.machine.bytes ≡ p.machine.bytes
  pub counted : q.counted ≡ p.counted

pub writes-behind : (low slots : ℕ) (p q r : Point) (place : Place) (v : ℕ) → Quiet p q → Writes low slots q r place v → Writes low slots p r place v
writes-behind low slots p q r place v h w = record {
  at = w.at;
  others = λ j a b c own. w.others j a b c own ∙ h.others j a b c;
  apart = λ x m. w.apart x m ∙ ap (λ (f : ℕ → ℕ). load_bytes f x 8) h.control;
  above = λ x m. w.above x m ∙ ap (λ (f : ℕ → ℕ). f x) h.control;
  bytes = w.bytes ∙ h.bytes;
  counted = w.counted ∙ h.counted;
}

-- what stands at a place stays there
pub number-quiet : (low slots : ℕ) (p q : Point) (place : Place) → IsPlace slots place → Quiet p q → number_at low q.machine (Some place) ≡ number_at low p.machine (Some place)
number-quiet low slots p q (Saved k) is h =
    let s = is-saved k is in let l = s.low in let t = s.high in
    h.others (saved_number k) (λ z. let bad : ⊥ = omega (arith, z, l) in bad) (λ z. let bad : ⊥ = omega (arith, z, l) in bad) (λ z. let bad : ⊥ = omega (arith, z, t) in bad)
number-quiet low slots p q (Slot j) is h = ap (λ (f : ℕ → ℕ). load_bytes f (low + slot_place j) 8) h.control

order : (i d : ℕ) → i ≢ d → (i + 1 ≤ d) ⊎ (d + 1 ≤ i)
order i d ne = by_order (cases_lt i d)
  where
    by_order : (i < d) ⊎ (d ≤ i) → (i + 1 ≤ d) ⊎ (d + 1 ≤ i)
    by_order (inl h) = inl (omega (arith, h))
    by_order (inr h) = inr (omega (arith, h, ne))

-- and at each other place where one was written
pub elsewhere : (low slots : ℕ) (p q : Point) (place other : Place) (v : ℕ) → IsPlace slots place → IsPlace slots other → other ≢ place → Writes low slots p q place v
    → number_at low q.machine (Some other) ≡ number_at low p.machine (Some other)
elsewhere low slots p q place (Saved k) v is is' ne w =
    let s = is-saved k is' in let l = s.low in let t = s.high in
    w.others (saved_number k) (λ z. let bad : ⊥ = omega (arith, z, l) in bad) (λ z. let bad : ⊥ = omega (arith, z, l) in bad) (λ z. let bad : ⊥ = omega (arith, z, t) in bad) (not-own place is ne)
  where
    not-own : (place : Place) → IsPlace slots place → Saved k ≢ place → IsOwn place (saved_number k) → ⊥
    not-own (Saved j) is ne own = ne (ap Saved (saved-is-one k j is' is own))
    not-own (Slot j) is ne own = own
elsewhere low slots p q place (Slot j) v is is' ne w = w.apart (low + slot_place j) (misses place ne)
  where
    misses : (place : Place) → Slot j ≢ place → Misses low place (low + slot_place j)
    misses (Saved k) ne = tt
    misses (Slot i) ne = by_order (order j i (λ e. ne (ap Slot e)))
      where
        by_order : (j + 1 ≤ i) ⊎ (i + 1 ≤ j) → (low + slot_place j + 8 ≤ low + slot_place i) ⊎ (low + slot_place i + 8 ≤ low + slot_place j)
        by_order (inl h) = inl (omega (arith, h))
        by_order (inr h) = inr (omega (arith, h))

module _ (m : Meaning) (functions : m.functions ≤ 1024) (room : m.room ≤ 67108864) (words : Words) (lowb : code_base + 4 ≤ words.base) (highb : words.base + 4 * length words.words ≤ code_limit)
    (low frame slots : ℕ) (bottom : control_base ≤ low) (top : low + frame ≤ control_end) (inside : 8 * slots ≤ frame) where
  abbrev Runs : ℕ → Point → Point → Type 0
  Runs = Goes m functions words lowb highb

  abbrev Brings : Point → Reg → ℕ → List Instr → Type 0
  Brings = Puts m functions words lowb highb

  -- after code that leaves these registers
  pub record Goes_on (code : List Instr) (p q : Point) : Type 0 where
    pub run : Runs (length code) p q
    pub pc : q.machine.regs.pc ≡ p.machine.regs.pc + 4 * length code

  pub on-then : (xs ys : List Instr) (p q r : Point) → Goes_on xs p q → Goes_on ys q r → Goes_on (xs ++ ys) p r
  on-then xs ys p q r h k =
      let len = length-append xs ys in let a = h.pc in let b = k.pc in
      record {
        run = subst (λ (n : ℕ). Runs n p r) (sym len) (goes-then m functions words lowb highb (length xs) (length ys) p q r h.run k.run);
        pc = omega (arith, len, a, b);
      }

  pub on-puts : (p : Point) (rd : Reg) (v : ℕ) (code : List Instr) → Brings p rd v code → Stands words p.machine.regs.pc code → Goes_on code p (put p rd v (length code))
  on-puts p rd v code h st = record { run = h st; pc = refl }

  -- ---- an operand

  -- what stands at a place is in the register in which it is read
  pub record Fetched (t : Reg) (place : Place) (p : Point) : Type 0 where
    pub point : Point
    pub on : Goes_on (fetch t (Some place)) p point
    pub value : read point.machine.regs (held_in t (Some place)) ≡ number_at low p.machine (Some place)
    pub others : (j : ℕ) → j ≢ number_of t → point.machine.regs.x j ≡ p.machine.regs.x j
    pub control : point.machine.control ≡ p.machine.control
    pub bytes : point.machine.bytes ≡ p.machine.bytes
    pub counted : point.counted ≡ p.counted

  pub saved-some : (k : ℕ) → k < 11 → number_of (saved_reg k) ≢ 0
  saved-some k is = let s = is-saved k is in let l = s.low in λ z. let bad : ⊥ = omega (arith, z, l) in bad

  sp-apart : (n : ℕ) → n ≢ 2 → (x : ℕ → ℕ) (v : ℕ) → written x n v 2 ≡ x 2
  sp-apart n ne x v = other-register x n 2 v (λ z. ne (sym z))

  pub fetched : (t : Reg) (place : Place) (p : Point) → IsSpare t → IsPlace slots place → p.machine.regs.x 2 ≡ low → Stands words p.machine.regs.pc (fetch t (Some place)) → Fetched t place p
  fetched t (Saved k) p spare is sp st = record {
    point = p;
    on = record { run = goes-none m functions words lowb highb p; pc = omega arith };
    value = read-is p.machine.regs (saved_reg k) (saved-some k is);
    others = λ j ne. refl;
    control = refl;
    bytes = refl;
    counted = refl;
  }
  fetched t (Slot j) p spare is sp st =
      let v = load_bytes p.machine.control (low + slot_place j) 8 in
      record {
        point = put p t v (length (load_at t (slot_place j)));
        on = on-puts p t v (load_at t (slot_place j))
            (loads-at m functions room words lowb highb low frame bottom top p t (slot_place j) spare.some (sp-apart (number_of t) spare.not-sp) sp (omega (arith, is, inside))) st;
        value = read-put m functions words lowb highb p t v (length (load_at t (slot_place j))) spare.some;
        others = λ i ne. other-register p.machine.regs.x (number_of t) i v ne;
        control = refl;
        bytes = refl;
        counted = refl;
      }

  pub fetched-quiet : (t : Reg) (place : Place) (p : Point) → IsSpare t → (h : Fetched t place p) → Quiet p h.point
  fetched-quiet t place p spare h = record {
    others = λ j a b c. h.others j (not-t spare.spare a b);
    control = h.control;
    bytes = h.bytes;
    counted = h.counted;
  }
    where
      not-t : {j : ℕ} → (number_of t ≡ 5) ⊎ (number_of t ≡ 6) → j ≢ 5 → j ≢ 6 → j ≢ number_of t
      not-t (inl e) a b z = a (z ∙ e)
      not-t (inr e) a b z = b (z ∙ e)

  -- ---- two operands, the first in t0 and the second in t1 where they stand in slots

  pub record Ready (a b : Place) (p : Point) : Type 0 where
    pub point : Point
    pub on : Goes_on (fetch T0 (Some a) ++ fetch T1 (Some b)) p point
    pub first : read point.machine.regs (held_in T0 (Some a)) ≡ number_at low p.machine (Some a)
    pub second : read point.machine.regs (held_in T1 (Some b)) ≡ number_at low p.machine (Some b)
    pub quiet : Quiet p point

  -- the register of the first operand isn't t1
  kept-first : (a : Place) (r s : Registers) → IsPlace slots a → ((j : ℕ) → j ≢ 6 → s.x j ≡ r.x j) → read s (held_in T0 (Some a)) ≡ read r (held_in T0 (Some a))
  kept-first (Slot j) r s is h = h 5 (λ z. cc)
  kept-first (Saved k) r s is h =
      let i = is-saved k is in let l = i.low in
      read-is s (saved_reg k) (saved-some k is) ∙ h (saved_number k) (λ z. let bad : ⊥ = omega (arith, z, l) in bad) ∙ sym (read-is r (saved_reg k) (saved-some k is))

  pub ready : (a b : Place) (p : Point) → IsPlace slots a → IsPlace slots b → p.machine.regs.x 2 ≡ low → Stands words p.machine.regs.pc (fetch T0 (Some a) ++ fetch T1 (Some b)) → Ready a b p
  ready a b p is-a is-b sp st =
      let parts = stands-apart words p.machine.regs.pc (fetch T0 (Some a)) (fetch T1 (Some b)) st in
      let x = fetched T0 a p spare-t0 is-a sp parts.0 in
      let quiet-x = fetched-quiet T0 a p spare-t0 x in
      let y = fetched T1 b x.point spare-t1 is-b (x.others 2 (λ z. cc) ∙ sp) (subst (λ (pc : ℕ). Stands words pc (fetch T1 (Some b))) (sym x.on.pc) parts.1) in
      record {
        point = y.point;
        on = on-then (fetch T0 (Some a)) (fetch T1 (Some b)) p x.point y.point x.on y.on;
        first = kept-first a x.point.machine.regs y.point.machine.regs is-a y.others ∙ x.value;
        second = y.value ∙ number-quiet low slots p x.point b is-b quiet-x;
        quiet = quiet-then p x.point y.point quiet-x (fetched-quiet T1 b x.point spare-t1 y);
      }

  -- ---- a result

  pub record Wrote (code : List Instr) (place : Place) (v : ℕ) (p : Point) : Type 0 where
    pub point : Point
    pub on : Goes_on code p point
    pub writes : Writes low slots p point place v

  -- a store into a slot
  pub slot-stored : (j v : ℕ) (p q : Point) → Slot j ≡ Slot j → IsPlace slots (Slot j) → v < 2 ^ 64 → Alters p q (low + slot_place j) v → Writes low slots p q (Slot j) v
  slot-stored j v p q e is lt h = record {
    at = ap (λ (f : ℕ → ℕ). load_bytes f (low + slot_place j) 8) h.control ∙ load_stored p.machine.control (low + slot_place j) 8 v ∙ (let small : v % 256 ^ 8 ≡ v = omega (arith, lt) in small);
    others = λ i a b c own. h.others i c;
    apart = λ x m. ap (λ (f : ℕ → ℕ). load_bytes f x 8) h.control ∙ load_outside p.machine.control (low + slot_place j) 8 v x 8 m;
    above = λ x m. ap (λ (f : ℕ → ℕ). f x) h.control ∙ store_outside p.machine.control (low + slot_place j) 8 v x (inr (omega (arith, is, m)));
    bytes = h.bytes;
    counted = h.counted;
  }

  -- a register of its own
  pub saved-put : (k v n : ℕ) (p : Point) → IsPlace slots (Saved k) → Writes low slots p (put p (saved_reg k) v n) (Saved k) v
  saved-put k v n p is = record {
    at = sym (read-is (put p (saved_reg k) v n).machine.regs (saved_reg k) (saved-some k is)) ∙ read-put m functions words lowb highb p (saved_reg k) v n (saved-some k is);
    others = λ j a b c own. other-register p.machine.regs.x (saved_number k) j v own;
    apart = λ x miss. refl;
    above = λ x h. refl;
    bytes = refl;
    counted = refl;
  }

  t0-put : (v n : ℕ) (p : Point) → Quiet p (put p T0 v n)
  t0-put v n p = record { others = λ j a b c. other-register p.machine.regs.x 5 j v a; control = refl; bytes = refl; counted = refl }

  -- code that makes a number in the register of a place, and then puts it there
  pub made : (code : List Instr) (place : Place) (v : ℕ) (p : Point) → IsPlace slots place → v < 2 ^ 64 → p.machine.regs.x 2 ≡ low → Brings p (held_in T0 (Some place)) v code
      → Stands words p.machine.regs.pc (code ++ keep T0 (Some place)) → Wrote (code ++ keep T0 (Some place)) place v p
  made code (Saved k) v p is lt sp brings st =
      let parts = stands-apart words p.machine.regs.pc code [] st in
      record {
        point = put p (saved_reg k) v (length code);
        on = on-then code [] p (put p (saved_reg k) v (length code)) (put p (saved_reg k) v (length code)) (on-puts p (saved_reg k) v code brings parts.0) (record { run = goes-none m functions words lowb highb _; pc = omega arith });
        writes = saved-put k v (length code) p is;
      }
  made code (Slot j) v p is lt sp brings st =
      let parts = stands-apart words p.machine.regs.pc code (store_at T0 (slot_place j)) st in
      let q = put p T0 v (length code) in
      let x = saves-at m functions room words lowb highb low frame bottom top q T0 (slot_place j) (λ z. cc) sp (omega (arith, is, inside)) parts.1 in
      let same : read q.machine.regs T0 ≡ v = refl in
      record {
        point = x.point;
        on = on-then code (store_at T0 (slot_place j)) p q x.point (on-puts p T0 v code brings parts.0) (record { run = x.run; pc = x.pc });
        writes = writes-behind low slots p q x.point (Slot j) v (t0-put v (length code) p) (slot-stored j v q x.point refl is lt x.alters);
      }

  -- ---- the code of operations, between places

  pub held-some : (place : Place) → IsPlace slots place → number_of (held_in T0 (Some place)) ≢ 0
  held-some (Saved k) is = saved-some k is
  held-some (Slot j) is = λ z. cc

  -- an instruction that writes a register with what it makes of numbers
  abbrev wrote : Point → Reg → ℕ → Act
  wrote p rd v = On (record p.machine { regs = next (write p.machine.regs rd v) })

  pub op-done : (op : RegOp) (d a b : Place) (p : Point) → IsPlace slots d → IsPlace slots a → IsPlace slots b → p.machine.regs.x 2 ≡ low
      → number_at low p.machine (Some a) < 2 ^ 64 → number_at low p.machine (Some b) < 2 ^ 64 → Stands words p.machine.regs.pc (op_code op (Some d) (Some a) (Some b))
      → Wrote (op_code op (Some d) (Some a) (Some b)) d (op_value op (number_at low p.machine (Some a)) (number_at low p.machine (Some b))) p
  op-done op d a b p is-d is-a is-b sp lt-a lt-b st =
      let first = fetch T0 (Some a) in
      let second = fetch T1 (Some b) in
      let i = rv.Op op (held_in T0 (Some d)) (held_in T0 (Some a)) (held_in T1 (Some b)) in
      let behind = i ∷ keep T0 (Some d) in
      let v = op_value op (number_at low p.machine (Some a)) (number_at low p.machine (Some b)) in
      let parts = stands-apart words p.machine.regs.pc (first ++ second) behind (subst (Stands words p.machine.regs.pc) (sym (append_assoc first second behind)) st) in
      let x = ready a b p is-a is-b sp parts.0 in
      let sp' = x.quiet.others 2 (λ z. cc) (λ z. cc) (λ z. cc) ∙ sp in
      let brings : Brings x.point (held_in T0 (Some d)) v (i ∷ []) =
      puts-one m functions words lowb highb x.point (held_in T0 (Some d)) v i (held-some d is-d) refl (ap (wrote x.point (held_in T0 (Some d))) (ap₂ (op_value op) x.first x.second)) in
      let y = made (i ∷ []) d v x.point is-d (op_value_below op _ _ lt-a lt-b) sp' brings (subst (λ (pc : ℕ). Stands words pc behind) (sym x.on.pc) parts.1) in
      record {
        point = y.point;
        on = subst (λ (code : List Instr). Goes_on code p y.point) (append_assoc first second behind) (on-then (first ++ second) behind p x.point y.point x.on y.on);
        writes = writes-behind low slots p x.point y.point d v x.quiet y.writes;
      }

  pub imm-done : (op : ImmOp) (d a : Place) (n : ℤ) (p : Point) → IsPlace slots d → IsPlace slots a → p.machine.regs.x 2 ≡ low
      → number_at low p.machine (Some a) < 2 ^ 64 → Stands words p.machine.regs.pc (imm_code op (Some d) (Some a) n)
      → Wrote (imm_code op (Some d) (Some a) n) d (op_value (register_form op) (number_at low p.machine (Some a)) (modulo n)) p
  imm-done op d a n p is-d is-a sp lt-a st =
      let first = fetch T0 (Some a) in
      let i = rv.Imm op (held_in T0 (Some d)) (held_in T0 (Some a)) n in
      let behind = i ∷ keep T0 (Some d) in
      let v = op_value (register_form op) (number_at low p.machine (Some a)) (modulo n) in
      let parts = stands-apart words p.machine.regs.pc first behind st in
      let x = fetched T0 a p spare-t0 is-a sp parts.0 in
      let quiet = fetched-quiet T0 a p spare-t0 x in
      let sp' = quiet.others 2 (λ z. cc) (λ z. cc) (λ z. cc) ∙ sp in
      let brings : Brings x.point (held_in T0 (Some d)) v (i ∷ []) =
      puts-one m functions words lowb highb x.point (held_in T0 (Some d)) v i (held-some d is-d) refl (ap (wrote x.point (held_in T0 (Some d))) (ap (λ (w : ℕ). op_value (register_form op) w (modulo n)) x.value)) in
      let y = made (i ∷ []) d v x.point is-d (op_value_below (register_form op) _ _ lt-a (modulo_below n)) sp' brings (subst (λ (pc : ℕ). Stands words pc behind) (sym x.on.pc) parts.1) in
      record {
        point = y.point;
        on = on-then first behind p x.point y.point x.on y.on;
        writes = writes-behind low slots p x.point y.point d v quiet y.writes;
      }

  pub const-done : (d : Place) (n : ℕ) (p : Point) → IsPlace slots d → p.machine.regs.x 2 ≡ low → Stands words p.machine.regs.pc (number_code (Some d) n) → Wrote (number_code (Some d) n) d (n % 2 ^ 64) p
  const-done d n p is sp st = made (const_code 3 (held_in T0 (Some d)) (n % 2 ^ 64)) d (n % 2 ^ 64) p is (omega arith) sp (const-puts m functions words lowb highb p (held_in T0 (Some d)) (n % 2 ^ 64) (held-some d is) (omega arith)) st

  -- ---- moves

  -- what stands at a place is brought into a register
  pub place-loaded : (rd : Reg) (place : Place) (p : Point) → number_of rd ≢ 0 → number_of rd ≢ 2 → IsPlace slots place → p.machine.regs.x 2 ≡ low → number_at low p.machine (Some place) < 2 ^ 64
      → Brings p rd (number_at low p.machine (Some place)) (load_place rd (Some place))
  place-loaded rd (Saved k) p nz nsp is sp lt =
      puts-one m functions words lowb highb p rd (p.machine.regs.x (saved_number k)) (rv.Imm Addi rd (saved_reg k) (pos 0)) nz refl
      (ap (wrote p rd) (ap (λ (w : ℕ). (w + 0) % 2 ^ 64) (read-is p.machine.regs (saved_reg k) (saved-some k is)) ∙ (let same : (p.machine.regs.x (saved_number k) + 0) % 2 ^ 64 ≡ p.machine.regs.x (saved_number k) = omega (arith, lt) in same)))
  place-loaded rd (Slot j) p nz nsp is sp lt = loads-at m functions room words lowb highb low frame bottom top p rd (slot_place j) nz (sp-apart (number_of rd) nsp) sp (omega (arith, is, inside))

  -- what a register has is put to a place, and t0 is as it was
  pub record Stored (code : List Instr) (place : Place) (v : ℕ) (p : Point) : Type 0 where
    pub wrote : Wrote code place v p
    pub t0 : wrote.point.machine.regs.x 5 ≡ p.machine.regs.x 5

  pub place-stored : (rs : Reg) (place : Place) (v : ℕ) (p : Point) → number_of rs ≢ 31 → IsPlace slots place → p.machine.regs.x 2 ≡ low → read p.machine.regs rs ≡ v → v < 2 ^ 64
      → Stands words p.machine.regs.pc (store_place rs (Some place)) → Stored (store_place rs (Some place)) place v p
  place-stored rs (Saved k) v p other is sp value lt st =
      let code = rv.Imm Addi (saved_reg k) rs (pos 0) ∷ [] in
      let brings : Brings p (saved_reg k) v code =
      puts-one m functions words lowb highb p (saved_reg k) v (rv.Imm Addi (saved_reg k) rs (pos 0)) (saved-some k is) refl
      (ap (wrote p (saved_reg k)) (ap (λ (w : ℕ). (w + 0) % 2 ^ 64) value ∙ (let same : (v + 0) % 2 ^ 64 ≡ v = omega (arith, lt) in same))) in
      let low' = is-saved k is in let few = low'.low in
      record {
        wrote = record { point = put p (saved_reg k) v 1; on = on-puts p (saved_reg k) v code brings st; writes = saved-put k v 1 p is };
        t0 = other-register p.machine.regs.x (saved_number k) 5 v (λ z. let bad : ⊥ = omega (arith, z, few) in bad);
      }
  place-stored rs (Slot j) v p other is sp value lt st =
      let x = saves-at m functions room words lowb highb low frame bottom top p rs (slot_place j) other sp (omega (arith, is, inside)) st in
      record {
        wrote = record { point = x.point; on = record { run = x.run; pc = x.pc }; writes = slot-stored j v p x.point refl is lt (subst (Alters p x.point (low + slot_place j)) value x.alters) };
        t0 = x.alters.others 5 (λ z. cc);
      }

  saved-not-sp : (k : ℕ) → k < 11 → number_of (saved_reg k) ≢ 2
  saved-not-sp k is = let x = is-saved k is in let l = x.low in λ z. let bad : ⊥ = omega (arith, z, l) in bad

  held-not-t6 : (place : Place) → IsPlace slots place → number_of (held_in T0 (Some place)) ≢ 31
  held-not-t6 (Saved k) is = let x = is-saved k is in let t = x.high in λ z. let bad : ⊥ = omega (arith, z, t) in bad
  held-not-t6 (Slot j) is = λ z. cc

  -- from one place to another
  pub move-done : (d a : Place) (p : Point) → IsPlace slots d → IsPlace slots a → p.machine.regs.x 2 ≡ low → number_at low p.machine (Some a) < 2 ^ 64
      → Stands words p.machine.regs.pc (move_code (Some d) (Some a)) → Wrote (move_code (Some d) (Some a)) d (number_at low p.machine (Some a)) p
  move-done (Saved k) a p is-d is-a sp lt st =
      let v = number_at low p.machine (Some a) in
      let code = load_place (saved_reg k) (Some a) in
      record {
        point = put p (saved_reg k) v (length code);
        on = on-puts p (saved_reg k) v code (place-loaded (saved_reg k) a p (saved-some k is-d) (saved-not-sp k is-d) is-a sp lt) st;
        writes = saved-put k v (length code) p is-d;
      }
  move-done (Slot j) a p is-d is-a sp lt st =
      let v = number_at low p.machine (Some a) in
      let first = fetch T0 (Some a) in
      let behind = store_at (held_in T0 (Some a)) (slot_place j) in
      let parts = stands-apart words p.machine.regs.pc first behind st in
      let x = fetched T0 a p spare-t0 is-a sp parts.0 in
      let quiet = fetched-quiet T0 a p spare-t0 x in
      let y = saves-at m functions room words lowb highb low frame bottom top x.point (held_in T0 (Some a)) (slot_place j) (held-not-t6 a is-a) (quiet.others 2 (λ z. cc) (λ z. cc) (λ z. cc) ∙ sp) (omega (arith, is-d, inside))
      (subst (λ (pc : ℕ). Stands words pc behind) (sym x.on.pc) parts.1) in
      record {
        point = y.point;
        on = on-then first behind p x.point y.point x.on (record { run = y.run; pc = y.pc });
        writes = writes-behind low slots p x.point y.point (Slot j) v quiet (slot-stored j v x.point y.point refl is-d lt (subst (Alters x.point y.point (low + slot_place j)) x.value y.alters));
      }
