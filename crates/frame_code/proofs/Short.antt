-- How many instructions the code of operations has.
use Rattle.std.proofs.Common.{◌≡◌, refl, sym, ap, ◌∙◌, ℕ, zero, suc, ◌+◌, ◌*◌, ◌%◌, ◌^◌, ◌≤◌, List, [], ◌∷◌, ◌++◌, length, Option, Some, None, arith}
use Rattle.std.specs.Prelude.{ℤ, pos}
use Rattle.std.proofs.lemmas.List.{length-append}
use Rattle.rv_core.specs.declared.reg.Reg.{Reg}
use Rattle.rv_core.specs.declared.reg.Reg.TheVariants.{T0, T1}
use Rattle.rv_core.specs.declared.instr.ImmOp.{ImmOp}
use Rattle.rv_core.specs.declared.instr.RegOp.{RegOp}
use Rattle.rv_core.specs.declared.instr.Instr.{Instr}
use Rattle.rv_core.specs.declared.instr.Instr.TheVariants as rv
use Rattle.abi.specs.Frame.{slot_place}
use Rattle.mir.specs.declared.places.Place.{Place}
use Rattle.mir.specs.declared.places.Place.TheVariants.{Saved, Slot}
use Rattle.code_pieces.specs.Code.{const_code, store_at}
use Rattle.code_pieces.proofs.Const.{const-short}
use Rattle.code_pieces.proofs.Slots.{load-short, store-short}
use Rattle.frame_code.specs.Frame.{saved_reg}
use Rattle.frame_code.specs.Code.{held_in, fetch, keep, load_place, store_place, op_code, imm_code, number_code, move_code}

pub fetch-short : (t : Reg) (place : Option Place) → length (fetch t place) ≤ 3
fetch-short t None = omega arith
fetch-short t (Some (Saved k)) = omega arith
fetch-short t (Some (Slot j)) = load-short t (slot_place j)

pub keep-short : (t : Reg) (place : Option Place) → length (keep t place) ≤ 3
keep-short t None = omega arith
keep-short t (Some (Saved k)) = omega arith
keep-short t (Some (Slot j)) = store-short t (slot_place j)

pub load-place-short : (rd : Reg) (place : Option Place) → length (load_place rd place) ≤ 3
load-place-short rd None = omega arith
load-place-short rd (Some (Saved k)) = omega arith
load-place-short rd (Some (Slot j)) = load-short rd (slot_place j)

pub store-place-short : (rs : Reg) (place : Option Place) → length (store_place rs place) ≤ 3
store-place-short rs None = omega arith
store-place-short rs (Some (Saved k)) = omega arith
store-place-short rs (Some (Slot j)) = store-short rs (slot_place j)

pub op-short : (op : RegOp) (d a b : Option Place) → length (op_code op d a b) ≤ 10
op-short op d a b =
    let i = rv.Op op (held_in T0 d) (held_in T0 a) (held_in T1 b) in
    let first = length-append (fetch T0 a) (fetch T1 b ++ i ∷ keep T0 d) in
    let second = length-append (fetch T1 b) (i ∷ keep T0 d) in
    let x = fetch-short T0 a in let y = fetch-short T1 b in let z = keep-short T0 d in
    omega (arith, first, second, x, y, z)

pub imm-short : (op : ImmOp) (d a : Option Place) (n : ℤ) → length (imm_code op d a n) ≤ 7
imm-short op d a n =
    let i = rv.Imm op (held_in T0 d) (held_in T0 a) n in
    let first = length-append (fetch T0 a) (i ∷ keep T0 d) in
    let x = fetch-short T0 a in let z = keep-short T0 d in
    omega (arith, first, x, z)

pub number-short : (d : Option Place) (n : ℕ) → length (number_code d n) ≤ 11
number-short d n =
    let all = length-append (const_code 3 (held_in T0 d) (n % 2 ^ 64)) (keep T0 d) in
    let x = const-short 3 (held_in T0 d) (n % 2 ^ 64) in let z = keep-short T0 d in
    omega (arith, all, x, z)

pub move-short : (d a : Option Place) → length (move_code d a) ≤ 6
move-short None a = omega arith
move-short (Some (Saved k)) a = let x = load-place-short (saved_reg k) a in omega (arith, x)
move-short (Some (Slot j)) a =
    let all = length-append (fetch T0 a) (store_at (held_in T0 a) (slot_place j)) in
    let x = fetch-short T0 a in let y = store-short (held_in T0 a) (slot_place j) in
    omega (arith, all, x, y)
