-- What the code of an activation keeps in its frame.
use Rattle.std.proofs.Common.{◌≡◌, ◌≢◌, refl, sym, ap, subst, ◌∙◌, ℕ, zero, suc, ◌+◌, ◌-◌, ◌*◌, ◌^◌, ◌<◌, ◌≤◌, ◌⊎◌, inl, inr, List, [], ◌∷◌, ◌++◌, length, Some, None, arith}
use Rattle.std.specs.Prelude.{slice_get, slice_set, slice_index_or}
use Rattle.rv_core.specs.Reg.{number_of}
use Rattle.rv_core.specs.declared.reg.Reg.{Reg}
use Rattle.rv_core.specs.declared.reg.Reg.TheVariants.{Ra, Sp, T0, T1, T2, S0, S1, S2, S3, S4, S5, S6, S7, S8, S9, S10, S11}
use Rattle.rv_core.specs.Bytes.{load_bytes, store_bytes}
use Rattle.rv_core.proofs.Bytes.{load_stored, load_outside, store_outside}
use Rattle.rv_core.specs.Step.{Registers, written, read}
use Rattle.ir_meaning.specs.Value.{Value}
use Rattle.ir_meaning.specs.Memory.{Memory}
use Rattle.ir_meaning.specs.Plays.{Meaning, Invocation}
use Rattle.rv_play.specs.Machine.{Machine, code_base, code_limit, control_base, control_end, data_base}
use Rattle.rv_play.specs.CodePlay.{Place, Point}
use Rattle.rv_play.specs.Good.{RefinesMemory, KeepsControl, KeepsRegs}
use Rattle.rv_play.proofs.Lines.{Stands, Goes}
use Rattle.code_pieces.specs.Code.{argument_reg, load_value, store_value}
use Rattle.code_pieces.proofs.Const.{put}
use Rattle.code_pieces.proofs.Slots.{Alters, Saves, loads-at, saves-at, other-register}

-- the saved registers but for s11, which is the data top
abbrev pub saved_regs : List Reg
saved_regs = S0 ∷ S1 ∷ S2 ∷ S3 ∷ S4 ∷ S5 ∷ S6 ∷ S7 ∷ S8 ∷ S9 ∷ S10 ∷ []

-- A number is what a value is, where that isn't poison.
abbrev pub Is : Value → ℕ → Type 0
Is value n = (k : ℕ) → value ≡ Some k → n ≡ k

-- The frame stands from `low` on: each value has its slot, ra has its own, the place where s11 is saved is as in s, and what is above the frame is the
-- caller's. s11 is the data top.
pub record Holds (a : Invocation) (s : Machine) (low frame : ℕ) (values : List Value) (here : Memory) (p : Point) : Type 0 where
  pub sp : p.machine.regs.x 2 ≡ low
  pub slots : (i v : ℕ) → slice_get values i ≡ Some (Some v) → load_bytes p.machine.control (low + 32 * i) 8 ≡ v
  pub ra : load_bytes p.machine.control (low + (frame - 8)) 8 ≡ read s.regs Ra
  pub aside : load_bytes p.machine.control (low + (frame - 104)) 8 ≡ load_bytes s.control (low + (frame - 104)) 8
  pub saved : KeepsRegs saved_regs s.regs p.machine.regs
  pub data_top : p.machine.regs.x 27 ≡ data_base + length here
  pub kept : KeepsControl s (low + frame) p.machine
  pub memory' : RefinesMemory here p.machine.bytes
  pub counted : p.counted ≡ a.symbol ∷ []

pub keeps-then : (rs : List Reg) (r s t : Registers) → KeepsRegs rs r s → KeepsRegs rs s t → KeepsRegs rs r t
keeps-then [] r s t h k = tt
keeps-then (x ∷ rs) r s t h k = (k.0 ∙ h.0, keeps-then rs r s t h.1 k.1)

-- registers that differ in t6 alone
pub keeps-others : (r t : Registers) → ((j : ℕ) → j ≢ 31 → t.x j ≡ r.x j) → KeepsRegs saved_regs r t
keeps-others r t o =
    (o 8 (λ z. omega (arith, z)), (o 9 (λ z. omega (arith, z)), (o 18 (λ z. omega (arith, z)), (o 19 (λ z. omega (arith, z)), (o 20 (λ z. omega (arith, z)), (o 21 (λ z. omega (arith, z)), (o 22 (λ z. omega (arith, z)), (o 23 (λ z. omega (arith, z)), (o 24 (λ z. omega (arith, z)), (o 25 (λ z. omega (arith, z)), (o 26 (λ z. omega (arith, z)), tt)))))))))))

-- one register more
pub keeps-last : (rs : List Reg) (r : Reg) (s t : Registers) → KeepsRegs rs s t → read t r ≡ read s r → KeepsRegs (rs ++ r ∷ []) s t
keeps-last [] r s t h e = (e, tt)
keeps-last (x ∷ rs) r s t h e = (h.0, keeps-last rs r s t h.1 e)

-- a register that the frame doesn't need
abbrev pub IsScratch : Reg → Type 0
IsScratch rd = (number_of rd ≢ 0) × ((s : Registers) (v pc : ℕ) → KeepsRegs (Sp ∷ S11 ∷ saved_regs) s (record { x = written s.x (number_of rd) v; pc = pc }))

pub scratch-t0 : IsScratch T0
scratch-t0 = (λ bad. cc, λ s v pc. (refl, (refl, (refl, (refl, (refl, (refl, (refl, (refl, (refl, (refl, (refl, (refl, (refl, tt))))))))))))))

pub scratch-t1 : IsScratch T1
scratch-t1 = (λ bad. cc, λ s v pc. (refl, (refl, (refl, (refl, (refl, (refl, (refl, (refl, (refl, (refl, (refl, (refl, (refl, tt))))))))))))))

pub scratch-t2 : IsScratch T2
scratch-t2 = (λ bad. cc, λ s v pc. (refl, (refl, (refl, (refl, (refl, (refl, (refl, (refl, (refl, (refl, (refl, (refl, (refl, tt))))))))))))))

pub argument-number : (p : ℕ) → p < 8 → number_of (argument_reg p) ≡ 10 + p
argument-number zero h = refl
argument-number (suc zero) h = refl
argument-number (suc (suc zero)) h = refl
argument-number (suc (suc (suc zero))) h = refl
argument-number (suc (suc (suc (suc zero)))) h = refl
argument-number (suc (suc (suc (suc (suc zero))))) h = refl
argument-number (suc (suc (suc (suc (suc (suc zero)))))) h = refl
argument-number (suc (suc (suc (suc (suc (suc (suc zero))))))) h = refl
argument-number (suc (suc (suc (suc (suc (suc (suc (suc n)))))))) h = absurd (omega arith)

pub scratch-argument : (p : ℕ) → p < 8 → IsScratch (argument_reg p)
scratch-argument p h =
    let e = argument-number p h in (
      λ z. let bad : ⊥ = omega (arith, e, z) in bad,
      λ s v pc. let o : (j : ℕ) → (j < 10) ⊎ (18 ≤ j) → written s.x (number_of (argument_reg p)) v j ≡ s.x j = λ j k. other-register s.x (number_of (argument_reg p)) j v (apart j k e) in
          (o 2 (inl (omega arith)), (o 27 (inr (omega arith)), (o 8 (inl (omega arith)), (o 9 (inl (omega arith)), (o 18 (inr (omega arith)), (o 19 (inr (omega arith)), (o 20 (inr (omega arith)), (o 21 (inr (omega arith)), (o 22 (inr (omega arith)), (o 23 (inr (omega arith)), (o 24 (inr (omega arith)), (o 25 (inr (omega arith)), (o 26 (inr (omega arith)), tt))))))))))))),
    )
  where
    apart : (j : ℕ) → (j < 10) ⊎ (18 ≤ j) → number_of (argument_reg p) ≡ 10 + p → j ≢ number_of (argument_reg p)
    apart j (inl k) e = λ z. let bad : ⊥ = omega (arith, e, z) in bad
    apart j (inr k) e = λ z. let bad : ⊥ = omega (arith, e, z) in bad

module _ (a : Invocation) (s : Machine) (low frame : ℕ) where
  -- a scratch register changes nothing in the frame
  pub hold-put : (values : List Value) (here : Memory) (p : Point) (rd : Reg) (v k : ℕ) → IsScratch rd → Holds a s low frame values here p → Holds a s low frame values here (put p rd v k)
  hold-put values here p rd v k scratch h =
      let keeps = scratch.1 p.machine.regs v (p.machine.regs.pc + 4 * k) in
      record {
        sp = keeps.0 ∙ h.sp;
        slots = h.slots;
        ra = h.ra;
        aside = h.aside;
        saved = keeps-then saved_regs s.regs p.machine.regs (put p rd v k).machine.regs h.saved keeps.1.1;
        data_top = keeps.1.0 ∙ h.data_top;
        kept = h.kept;
        memory' = h.memory';
        counted = h.counted;
      }

  -- ---- a value is stored in its slot

  set-cases : (values : List Value) (d i : ℕ) (value : Value) (v : ℕ) → slice_get (slice_set values d value) i ≡ Some (Some v) → ((i ≡ d) × (value ≡ Some v)) ⊎ ((i ≢ d) × (slice_get values i ≡ Some (Some v)))
  set-cases [] d i value v h = absurd (let bad : ⊥ = cc in bad)
  set-cases (x ∷ xs) zero zero value v h = inl (refl, let e : value ≡ Some v = cc in e)
  set-cases (x ∷ xs) zero (suc i) value v h = inr (λ z. let bad : ⊥ = omega (arith, z) in bad, h)
  set-cases (x ∷ xs) (suc d) zero value v h = inr (λ z. let bad : ⊥ = omega (arith, z) in bad, h)
  set-cases (x ∷ xs) (suc d) (suc i) value v h = up (set-cases xs d i value v h)
    where
      up : ((i ≡ d) × (value ≡ Some v)) ⊎ ((i ≢ d) × (slice_get xs i ≡ Some (Some v))) → ((suc i ≡ suc d) × (value ≡ Some v)) ⊎ ((suc i ≢ suc d) × (slice_get xs i ≡ Some (Some v)))
      up (inl k) = inl (ap suc k.0, k.1)
      up (inr k) = inr (λ z. k.0 (omega (arith, z)), k.1)

  slots-apart : (i d : ℕ) → i ≢ d → (i < d) ⊎ (d ≤ i) → (low + 32 * i + 8 ≤ low + 32 * d) ⊎ (low + 32 * d + 8 ≤ low + 32 * i)
  slots-apart i d ne (inl h) = inl (omega arith)
  slots-apart i d ne (inr h) = inr (let k : d < i = omega (arith, ne) in omega arith)

  order : (i d : ℕ) → (i < d) ⊎ (d ≤ i)
  order i zero = inr (omega arith)
  order zero (suc d) = inl (omega arith)
  order (suc i) (suc d) = up (order i d)
    where
      up : (i < d) ⊎ (d ≤ i) → (suc i < suc d) ⊎ (suc d ≤ suc i)
      up (inl h) = inl (omega arith)
      up (inr h) = inr (omega arith)

  pub hold-store : (values : List Value) (here : Memory) (p q : Point) (d n : ℕ) (value : Value) → Alters p q (low + 32 * d) n → 32 * d + 112 ≤ frame → Is value n → ((k : ℕ) → value ≡ Some k → k < 2 ^ 64) → Holds a s low frame values here p
      → Holds a s low frame (slice_set values d value) here q
  hold-store values here p q d n value alters inside is fits h = record {
    sp = alters.others 2 (λ z. omega (arith, z)) ∙ h.sp;
    slots = λ i v e. ap (λ (c : ℕ → ℕ). load_bytes c (low + 32 * i) 8) alters.control ∙ slot i v (set-cases values d i value v e);
    ra = ap (λ (c : ℕ → ℕ). load_bytes c (low + (frame - 8)) 8) alters.control ∙ load_outside p.machine.control (low + 32 * d) 8 n (low + (frame - 8)) 8 (inr (omega (arith, inside))) ∙ h.ra;
    aside = ap (λ (c : ℕ → ℕ). load_bytes c (low + (frame - 104)) 8) alters.control ∙ load_outside p.machine.control (low + 32 * d) 8 n (low + (frame - 104)) 8 (inr (omega (arith, inside))) ∙ h.aside;
    data_top = alters.others 27 (λ z. omega (arith, z)) ∙ h.data_top;
    saved = keeps-then saved_regs s.regs p.machine.regs q.machine.regs h.saved (keeps-others p.machine.regs q.machine.regs alters.others);
    kept = λ x le. ap (λ (c : ℕ → ℕ). c x) alters.control ∙ store_outside p.machine.control (low + 32 * d) 8 n x (inr (omega (arith, inside, le))) ∙ h.kept x le;
    memory' = subst (λ (b : ℕ → ℕ). RefinesMemory here b) (sym alters.bytes) h.memory';
    counted = alters.counted ∙ h.counted;
  }
    where
      slot : (i v : ℕ) → ((i ≡ d) × (value ≡ Some v)) ⊎ ((i ≢ d) × (slice_get values i ≡ Some (Some v))) → load_bytes (store_bytes p.machine.control (low + 32 * d) 8 n) (low + 32 * i) 8 ≡ v
      slot i v (inl k) =
          let same : n ≡ v = is v k.1 in
          let small : v < 2 ^ 64 = fits v k.1 in
          ap (λ (j : ℕ). load_bytes (store_bytes p.machine.control (low + 32 * d) 8 n) (low + 32 * j) 8) k.0
          ∙ load_stored p.machine.control (low + 32 * d) 8 n ∙ omega (arith, same, small)
      slot i v (inr k) =
          load_outside p.machine.control (low + 32 * d) 8 n (low + 32 * i) 8 (slots-apart i d k.0 (order i d)) ∙ h.slots i v k.1

  -- ---- an operand is loaded

  module _ (m : Meaning) (functions : m.functions ≤ 1024) (room : m.room ≤ 67108864) (place : Place) (lowb : code_base + 4 ≤ place.base) (highb : place.base + 4 * length place.words ≤ code_limit)
      (bottom : control_base ≤ low) (top : low + frame ≤ control_end) where
    -- a value of the frame
    pub value-puts : (values : List Value) (here : Memory) (p : Point) (rd : Reg) (i : ℕ) → IsScratch rd → 32 * i + 16 ≤ frame → Holds a s low frame values here p → Stands place p.machine.regs.pc (load_value rd i)
        → Goes m functions place lowb highb (length (load_value rd i)) p (put p rd (load_bytes p.machine.control (low + 32 * i) 8) (length (load_value rd i)))
    value-puts values here p rd i scratch inside h st =
        loads-at m functions room place lowb highb low frame bottom top p rd (32 * i) scratch.0 (λ x v. (scratch.1 (record { x = x; pc = 0 }) v 0).0) h.sp (omega (arith, inside)) st

    -- a register is stored in a slot
    pub store-goes : (values : List Value) (here : Memory) (p : Point) (rs : Reg) (d : ℕ) → number_of rs ≢ 31 → 32 * d + 16 ≤ frame → Holds a s low frame values here p → Stands place p.machine.regs.pc (store_value rs d)
        → Saves m functions room place lowb highb low frame bottom top rs (32 * d) p
    store-goes values here p rs d other inside h st = saves-at m functions room place lowb highb low frame bottom top p rs (32 * d) other h.sp (omega (arith, inside)) st

-- a value that is a number
pub operand-some : (values : List Value) (i k : ℕ) → slice_index_or values i None ≡ Some k → slice_get values i ≡ Some (Some k)
operand-some [] i k e = absurd (let bad : ⊥ = cc in bad)
operand-some (v ∷ vs) zero k e = ap (λ (x : Value). Some x) e
operand-some (v ∷ vs) (suc i) k e = operand-some vs i k e
