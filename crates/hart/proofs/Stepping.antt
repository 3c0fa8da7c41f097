-- An instruction in its form: loads and stores.
use Rattle.std.proofs.Common.{◌≡◌, refl, sym, ap, subst, ◌∙◌, ℕ, ◌+◌, ◌*◌, ◌<◌, ◌≤◌, ◌==◌, Bool, true, false, cond, ℤ, pos, List, length, slice_index, None, arith}
use Rattle.rv_core.specs.Reg.{number_of}
use Rattle.rv_core.specs.declared.reg.Reg.{Reg}
use Rattle.rv_core.specs.declared.instr.LoadOp.{LoadOp}
use Rattle.rv_core.specs.declared.instr.LoadOp.TheVariants.{Lb, Lh, Lw, Ld, Lbu, Lhu, Lwu}
use Rattle.rv_core.specs.declared.instr.StoreOp.{StoreOp}
use Rattle.rv_core.specs.declared.instr.Instr.TheVariants.{Load, Store}
use Rattle.rv_core.specs.declared.step.Stepped.TheVariants as stepped
use Rattle.rv_core.specs.Bytes.{load_bytes, store_bytes}
use Rattle.rv_core.specs.Step.{Registers, view, read, write, written, at_pc, plus}
use Rattle.ir_meaning.specs.Plays.{Meaning}
use Rattle.rv_play.specs.Machine.{Machine, On, load_size, store_size, extended, data_base, control_base, cell_base}
use Rattle.rv_play.specs.Ending.{Item, Goes, cell_load, is_cell, do_instr}
use Rattle.hart.specs.declared.hart.Hart.{Hart}
use Rattle.hart.specs.declared.map.Found.TheVariants.{Bytes, Control}
use Rattle.hart.specs.Places.{found_at, is_within}
use Rattle.hart.specs.Standing.{IsFor, run_of}
use Rattle.hart.specs.Steps.{at_address}
use Rattle.hart.proofs.Stores.{pick_no}
use Rattle.hart.proofs.Doing.{acts}
use Rattle.hart.proofs.Serving.{machine_at, first_found, second_found, above, load_bytes_served, load_control_served, store_bytes_served, store_control_served}

put_at : (q : ℕ) (s : Registers) (f : ℕ → ℕ) (b : Bool) → at_pc q (cond b s (record s { x = f })) ≡ cond b (at_pc q s) (record (at_pc q s) { x = f })
put_at q s f true = refl
put_at q s f false = refl

-- the program counter and a register are written in either order
pub write_at : (q : ℕ) (s t : Registers) (rd : Reg) (v : ℕ) → t ≡ write s rd v → at_pc q t ≡ write (at_pc q s) rd v
write_at q s t rd v e = ap (at_pc q) e ∙ put_at q s (written s.x (number_of rd) v) (number_of rd == 0)

-- above the cells none is read
pub no_cell_above : (m : Meaning) (op : LoadOp) (rd : Reg) (a : ℕ) → m.functions ≤ 1024 → data_base ≤ a → cell_load m (stepped.Load op rd a) ≡ None
no_cell_above m Ld rd a f h = pick_no (is_cell m a) _ _ (let high : cell_base + 8 * m.functions ≤ a = omega arith in grind arith)
no_cell_above m Lb rd a f h = refl
no_cell_above m Lh rd a f h = refl
no_cell_above m Lw rd a f h = refl
no_cell_above m Lbu rd a f h = refl
no_cell_above m Lhu rd a f h = refl
no_cell_above m Lwu rd a f h = refl

-- a machine of these registers and lists
abbrev run_at : Registers → List ℕ → List ℕ → List ℕ → List Item → Rattle.rv_play.specs.Ending.Run
run_at regs b c counted pass = record { machine = machine_at regs b c; pass = pass; counted = counted }

abbrev regs_at : ℕ → Hart → Registers
regs_at pc h = at_pc pc (view h.regs)

pub load_from_data : (m : Meaning) (h : Hart) (t : Registers) (pc q lb lc a place v : ℕ) (op : LoadOp) (rd rs1 : Reg) (n : ℤ) (counted : List ℕ) (pass : List Item)
    → q ≡ plus pc (pos 4) → m.room ≡ lb → m.functions ≤ 1024 → a ≡ plus (read (view h.regs) rs1) n → found_at lb lc a (load_size op) ≡ Bytes place
    → v ≡ extended op (load_bytes (slice_index h.bytes.items) place (load_size op)) → t ≡ write (view h.regs) rd v
    → do_instr m (run_of (at_address pc h) counted pass) (Load op rd rs1 n) ≡ Goes (run_at (at_pc q t) h.bytes.items h.control.items counted pass)
load_from_data m h t pc q lb lc a place v op rd rs1 n counted pass go room few e found value put =
    let there : found_at lb lc (plus (read (view h.regs) rs1) n) (load_size op) ≡ Bytes place = subst (λ (x : ℕ). found_at lb lc x (load_size op) ≡ Bytes place) e found in
    let at = first_found (is_within data_base lb (plus (read (view h.regs) rs1) n) (load_size op)) (is_within control_base lc (plus (read (view h.regs) rs1) n) (load_size op)) _ _ place there in
    let low : data_base ≤ plus (read (view h.regs) rs1) n = above data_base lb _ (load_size op) at.0 in
    acts m (machine_at (regs_at pc h) h.bytes.items h.control.items) counted pass (Load op rd rs1 n) (On (machine_at (at_pc (plus pc (pos 4)) t) h.bytes.items h.control.items))
    (no_cell_above m op rd (plus (read (view h.regs) rs1) n) few low)
    (load_bytes_served m (regs_at (plus pc (pos 4)) h) (at_pc (plus pc (pos 4)) t) h.bytes.items h.control.items lb lc (plus (read (view h.regs) rs1) n) place v op rd room there value
    (write_at (plus pc (pos 4)) (view h.regs) t rd v put))
    ∙ ap (λ (x : ℕ). Goes (run_at (at_pc x t) h.bytes.items h.control.items counted pass)) (sym go)

pub load_from_control : (m : Meaning) (h : Hart) (t : Registers) (pc q lb lc a place v : ℕ) (op : LoadOp) (rd rs1 : Reg) (n : ℤ) (counted : List ℕ) (pass : List Item)
    → q ≡ plus pc (pos 4) → m.room ≡ lb → lc ≡ 8388608 → m.functions ≤ 1024 → a ≡ plus (read (view h.regs) rs1) n → found_at lb lc a (load_size op) ≡ Control place
    → v ≡ extended op (load_bytes (slice_index h.control.items) place (load_size op)) → t ≡ write (view h.regs) rd v
    → do_instr m (run_of (at_address pc h) counted pass) (Load op rd rs1 n) ≡ Goes (run_at (at_pc q t) h.bytes.items h.control.items counted pass)
load_from_control m h t pc q lb lc a place v op rd rs1 n counted pass go room stack few e found value put =
    let there : found_at lb lc (plus (read (view h.regs) rs1) n) (load_size op) ≡ Control place = subst (λ (x : ℕ). found_at lb lc x (load_size op) ≡ Control place) e found in
    let at = second_found (is_within data_base lb (plus (read (view h.regs) rs1) n) (load_size op)) (is_within control_base lc (plus (read (view h.regs) rs1) n) (load_size op)) _ _ place there in
    let high : control_base ≤ plus (read (view h.regs) rs1) n = above control_base lc _ (load_size op) at.1 in
    let low : data_base ≤ plus (read (view h.regs) rs1) n = omega arith in
    acts m (machine_at (regs_at pc h) h.bytes.items h.control.items) counted pass (Load op rd rs1 n) (On (machine_at (at_pc (plus pc (pos 4)) t) h.bytes.items h.control.items))
    (no_cell_above m op rd (plus (read (view h.regs) rs1) n) few low)
    (load_control_served m (regs_at (plus pc (pos 4)) h) (at_pc (plus pc (pos 4)) t) h.bytes.items h.control.items lb lc (plus (read (view h.regs) rs1) n) place v op rd room stack there value
    (write_at (plus pc (pos 4)) (view h.regs) t rd v put))
    ∙ ap (λ (x : ℕ). Goes (run_at (at_pc x t) h.bytes.items h.control.items counted pass)) (sym go)

pub store_to_data : (m : Meaning) (h : Hart) (b : List ℕ) (pc q lb lc a place v : ℕ) (op : StoreOp) (rs2 rs1 : Reg) (n : ℤ) (counted : List ℕ) (pass : List Item)
    → q ≡ plus pc (pos 4) → m.room ≡ lb → a ≡ plus (read (view h.regs) rs1) n → v ≡ read (view h.regs) rs2 → found_at lb lc a (store_size op) ≡ Bytes place
    → slice_index b ≡ store_bytes (slice_index h.bytes.items) place (store_size op) v
    → do_instr m (run_of (at_address pc h) counted pass) (Store op rs2 rs1 n) ≡ Goes (run_at (regs_at q h) b h.control.items counted pass)
store_to_data m h b pc q lb lc a place v op rs2 rs1 n counted pass go room e f found stored =
    let there : found_at lb lc (plus (read (view h.regs) rs1) n) (store_size op) ≡ Bytes place = subst (λ (x : ℕ). found_at lb lc x (store_size op) ≡ Bytes place) e found in
    let put : slice_index b ≡ store_bytes (slice_index h.bytes.items) place (store_size op) (read (view h.regs) rs2) =
    subst (λ (x : ℕ). slice_index b ≡ store_bytes (slice_index h.bytes.items) place (store_size op) x) f stored in
    acts m (machine_at (regs_at pc h) h.bytes.items h.control.items) counted pass (Store op rs2 rs1 n) (On (machine_at (regs_at (plus pc (pos 4)) h) b h.control.items)) refl
    (store_bytes_served m (regs_at (plus pc (pos 4)) h) h.bytes.items b h.control.items lb lc (plus (read (view h.regs) rs1) n) place (read (view h.regs) rs2) op room there put)
    ∙ ap (λ (x : ℕ). Goes (run_at (regs_at x h) b h.control.items counted pass)) (sym go)

pub store_to_control : (m : Meaning) (h : Hart) (c : List ℕ) (pc q lb lc a place v : ℕ) (op : StoreOp) (rs2 rs1 : Reg) (n : ℤ) (counted : List ℕ) (pass : List Item)
    → q ≡ plus pc (pos 4) → m.room ≡ lb → lc ≡ 8388608 → a ≡ plus (read (view h.regs) rs1) n → v ≡ read (view h.regs) rs2 → found_at lb lc a (store_size op) ≡ Control place
    → slice_index c ≡ store_bytes (slice_index h.control.items) place (store_size op) v
    → do_instr m (run_of (at_address pc h) counted pass) (Store op rs2 rs1 n) ≡ Goes (run_at (regs_at q h) h.bytes.items c counted pass)
store_to_control m h c pc q lb lc a place v op rs2 rs1 n counted pass go room stack e f found stored =
    let there : found_at lb lc (plus (read (view h.regs) rs1) n) (store_size op) ≡ Control place = subst (λ (x : ℕ). found_at lb lc x (store_size op) ≡ Control place) e found in
    let put : slice_index c ≡ store_bytes (slice_index h.control.items) place (store_size op) (read (view h.regs) rs2) =
    subst (λ (x : ℕ). slice_index c ≡ store_bytes (slice_index h.control.items) place (store_size op) x) f stored in
    acts m (machine_at (regs_at pc h) h.bytes.items h.control.items) counted pass (Store op rs2 rs1 n) (On (machine_at (regs_at (plus pc (pos 4)) h) h.bytes.items c)) refl
    (store_control_served m (regs_at (plus pc (pos 4)) h) h.bytes.items h.control.items c lb lc (plus (read (view h.regs) rs1) n) place (read (view h.regs) rs2) op room stack there put)
    ∙ ap (λ (x : ℕ). Goes (run_at (regs_at x h) h.bytes.items c counted pass)) (sym go)
