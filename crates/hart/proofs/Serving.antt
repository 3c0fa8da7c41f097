-- What an instruction asks, served from the lists of bytes.
use Rattle.std.proofs.Common.{◌≡◌, refl, sym, ap, ◌∙◌, ℕ, ◌-◌, ◌≤◌, Bool, true, false, cond, List, length, slice_index, Some, None, arith}
use Rattle.rv_core.specs.declared.reg.Reg.{Reg}
use Rattle.rv_core.specs.declared.instr.LoadOp.{LoadOp}
use Rattle.rv_core.specs.declared.instr.LoadOp.TheVariants.{Lb, Lh, Lw, Ld, Lbu, Lhu, Lwu}
use Rattle.rv_core.specs.declared.instr.StoreOp.{StoreOp}
use Rattle.rv_core.specs.declared.step.Stepped.TheVariants as stepped
use Rattle.rv_core.specs.Bytes.{load_bytes, store_bytes}
use Rattle.rv_core.specs.Step.{Registers, write}
use Rattle.ir_meaning.specs.Plays.{Meaning}
use Rattle.rv_play.specs.Machine.{Machine, On, serve, load_size, store_size, extended, data_base, control_base, in_data, in_control}
use Rattle.rv_play.specs.Ending.{cell_load}
use Rattle.hart.specs.declared.map.Found.TheVariants.{Bytes, Control, Nowhere}
use Rattle.hart.specs.Places.{bytes_from, is_within, found_at, symbol_of_cell}
use Rattle.hart.proofs.Stores.{pick, pick_no, load_from, store_from}

abbrev pub machine_at : Registers → List ℕ → List ℕ → Machine
machine_at regs b c = record { regs = regs; bytes = bytes_from data_base b; control = bytes_from control_base c }

none_by : {A B : Type 0} (t : Bool) (x : A) (y : B) → cond t (Some x) None ≡ None → cond t (Some y) None ≡ None
none_by true x y h = absurd (let bad : Some x ≡ None = h in cc)
none_by false x y h = refl

-- no cell is read
pub no_cell : (m : Meaning) (op : LoadOp) (rd : Reg) (a f : ℕ) → m.functions ≡ f → symbol_of_cell op f a ≡ None → cell_load m (stepped.Load op rd a) ≡ None
no_cell m Ld rd a f e h = none_by _ _ _ (let at_m : symbol_of_cell Ld m.functions a ≡ None = ap (λ (n : ℕ). symbol_of_cell Ld n a) e ∙ h in at_m)
no_cell m Lb rd a f e h = refl
no_cell m Lh rd a f e h = refl
no_cell m Lw rd a f e h = refl
no_cell m Lbu rd a f e h = refl
no_cell m Lhu rd a f e h = refl
no_cell m Lwu rd a f e h = refl

-- the tests behind a place
pub first_found : (s t : Bool) (p q place : ℕ) → cond s (Bytes p) (cond t (Control q) Nowhere) ≡ Bytes place → (s ≡ true) × (place ≡ p)
first_found true t p q place h = (refl, let e : Bytes p ≡ Bytes place = h in cc)
first_found false true p q place h = absurd (let bad : Control q ≡ Bytes place = h in cc)
first_found false false p q place h = absurd (let bad : Nowhere ≡ Bytes place = h in cc)

pub second_found : (s t : Bool) (p q place : ℕ) → cond s (Bytes p) (cond t (Control q) Nowhere) ≡ Control place → (s ≡ false) × (t ≡ true) × (place ≡ q)
second_found true t p q place h = absurd (let bad : Bytes p ≡ Control place = h in cc)
second_found false true p q place h = (refl, refl, let e : Control q ≡ Control place = h in cc)
second_found false false p q place h = absurd (let bad : Nowhere ≡ Control place = h in cc)

pub above : (base length a n : ℕ) → is_within base length a n ≡ true → base ≤ a
above base length a n h = grind arith

pub in_bytes : (m : Meaning) (l a n : ℕ) → m.room ≡ l → in_data m a n ≡ is_within data_base l a n
in_bytes m l a n e = ap (λ (r : ℕ). is_within data_base r a n) e

pub in_stack : (l a n : ℕ) → l ≡ 8388608 → in_control a n ≡ is_within control_base l a n
in_stack l a n e = sym (ap (λ (r : ℕ). is_within control_base r a n) e)

pub load_bytes_served : (m : Meaning) (regs regs' : Registers) (b c : List ℕ) (lb lc a place v : ℕ) (op : LoadOp) (rd : Reg)
    → m.room ≡ lb → found_at lb lc a (load_size op) ≡ Bytes place
    → v ≡ extended op (load_bytes (slice_index b) place (load_size op)) → regs' ≡ write regs rd v
    → serve m (machine_at regs b c) (stepped.Load op rd a) ≡ On (machine_at regs' b c)
load_bytes_served m regs regs' b c lb lc a place v op rd room found value put =
    let t = first_found (is_within data_base lb a (load_size op)) (is_within control_base lc a (load_size op)) (a - data_base) (a - control_base) place found in
    let low : data_base ≤ a = above data_base lb a (load_size op) t.0 in
    let same : extended op (load_bytes (bytes_from data_base b) a (load_size op)) ≡ v =
    ap (λ (n : ℕ). extended op n) (load_from data_base b a (load_size op) low ∙ ap (λ (i : ℕ). load_bytes (slice_index b) i (load_size op)) (sym t.1)) ∙ sym value in
    pick (in_data m a (load_size op)) _ _ (in_bytes m lb a (load_size op) room ∙ t.0)
    ∙ ap (λ (r : Registers). On (machine_at r b c)) (ap (λ (n : ℕ). write regs rd n) same ∙ sym put)

pub load_control_served : (m : Meaning) (regs regs' : Registers) (b c : List ℕ) (lb lc a place v : ℕ) (op : LoadOp) (rd : Reg)
    → m.room ≡ lb → lc ≡ 8388608 → found_at lb lc a (load_size op) ≡ Control place
    → v ≡ extended op (load_bytes (slice_index c) place (load_size op)) → regs' ≡ write regs rd v
    → serve m (machine_at regs b c) (stepped.Load op rd a) ≡ On (machine_at regs' b c)
load_control_served m regs regs' b c lb lc a place v op rd room stack found value put =
    let t = second_found (is_within data_base lb a (load_size op)) (is_within control_base lc a (load_size op)) (a - data_base) (a - control_base) place found in
    let low : control_base ≤ a = above control_base lc a (load_size op) t.1 in
    let same : extended op (load_bytes (bytes_from control_base c) a (load_size op)) ≡ v =
    ap (λ (n : ℕ). extended op n) (load_from control_base c a (load_size op) low ∙ ap (λ (i : ℕ). load_bytes (slice_index c) i (load_size op)) (sym t.2)) ∙ sym value in
    pick_no (in_data m a (load_size op)) _ _ (in_bytes m lb a (load_size op) room ∙ t.0)
    ∙ pick (in_control a (load_size op)) _ _ (in_stack lc a (load_size op) stack ∙ t.1)
    ∙ ap (λ (r : Registers). On (machine_at r b c)) (ap (λ (n : ℕ). write regs rd n) same ∙ sym put)

pub store_bytes_served : (m : Meaning) (regs : Registers) (b b' c : List ℕ) (lb lc a place v : ℕ) (op : StoreOp)
    → m.room ≡ lb → found_at lb lc a (store_size op) ≡ Bytes place
    → slice_index b' ≡ store_bytes (slice_index b) place (store_size op) v
    → serve m (machine_at regs b c) (stepped.Store op v a) ≡ On (machine_at regs b' c)
store_bytes_served m regs b b' c lb lc a place v op room found stored =
    let t = first_found (is_within data_base lb a (store_size op)) (is_within control_base lc a (store_size op)) (a - data_base) (a - control_base) place found in
    let low : data_base ≤ a = above data_base lb a (store_size op) t.0 in
    pick (in_data m a (store_size op)) _ _ (in_bytes m lb a (store_size op) room ∙ t.0)
    ∙ ap (λ (f : ℕ → ℕ). On (record { regs = regs; bytes = f; control = bytes_from control_base c }))
    (sym (store_from data_base b b' a (store_size op) v low (stored ∙ ap (λ (i : ℕ). store_bytes (slice_index b) i (store_size op) v) t.1)))

pub store_control_served : (m : Meaning) (regs : Registers) (b c c' : List ℕ) (lb lc a place v : ℕ) (op : StoreOp)
    → m.room ≡ lb → lc ≡ 8388608 → found_at lb lc a (store_size op) ≡ Control place
    → slice_index c' ≡ store_bytes (slice_index c) place (store_size op) v
    → serve m (machine_at regs b c) (stepped.Store op v a) ≡ On (machine_at regs b c')
store_control_served m regs b c c' lb lc a place v op room stack found stored =
    let t = second_found (is_within data_base lb a (store_size op)) (is_within control_base lc a (store_size op)) (a - data_base) (a - control_base) place found in
    let low : control_base ≤ a = above control_base lc a (store_size op) t.1 in
    pick_no (in_data m a (store_size op)) _ _ (in_bytes m lb a (store_size op) room ∙ t.0)
    ∙ pick (in_control a (store_size op)) _ _ (in_stack lc a (store_size op) stack ∙ t.1)
    ∙ ap (λ (f : ℕ → ℕ). On (record { regs = regs; bytes = bytes_from data_base b; control = f }))
    (sym (store_from control_base c c' a (store_size op) v low (stored ∙ ap (λ (i : ℕ). store_bytes (slice_index c) i (store_size op) v) t.2)))
