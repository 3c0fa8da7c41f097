-- Facts on registers and on what is left of a block, which each step of a function keeps.
use Rattle.std.proofs.Common.{refl, ℕ, zero, suc, ◌+◌, Bool, true, false, List, ◌++◌, Option, Some, None}
use Rattle.std.specs.Prelude.{if◌then◌else◌, nat_le, replicate, IsTrue}
use Rattle.ir_meaning.specs.Memory.{Memory, top, is_inside, bytes_at, with_bytes}
use Rattle.ir_meaning.specs.Step.{copied, set}
use Rattle.mir.specs.declared.code.MInst.{MInst}
use Rattle.mir.specs.declared.code.MInst.TheVariants.{Param, Op, Imm, Const, Move, Load, Store, Phi, Call, TakeData, CopyBytes, FillBytes, Branch, Jump, Return, Trap}
use Rattle.mir.specs.declared.code.MFunction.{MFunction}
use Rattle.mir.specs.Code.{block_of, writes}
use Rattle.walks.specs.Walk.{Bits, Does, Goes, Wants, Breaks, Step}
use Rattle.walks.specs.Bits.{free, constant, number}
use Rattle.walks.specs.Bytes.{bits_of_bytes, bytes_of_bits}
use Rattle.walks.specs.Registers.{Registers, write, put}
use Rattle.walks.specs.Simulation.{KeptBy}
use Rattle.mir_play.specs.Values.{value, immediate_value, divisor, taken, address, load_size, extended, store_size}
use Rattle.mir_play.specs.Play.{State, with_phis, behind_phis, give, divided, take_edge, branch, at_address, change, moved, by_inst}

-- the instruction writes a value that it doesn't compute
abbrev pub brings : MInst → Bool
brings (Param d n) = true
brings (Load op d a n) = true
brings (Call g args results) = true
brings (TakeData d n) = true
brings _ = false

-- the value that an instruction computes
abbrev pub result : Registers → MInst → Bits
result regs (Op op d a b) = value op (regs a) (regs b)
result regs (Imm op d a n) = immediate_value op (regs a) n
result regs (Const d n) = constant 64 n
result regs (Move d a) = regs a
result regs _ = free

module _ (f : MFunction) (OnRegs : Registers → Type 0) (OnRest : List MInst → Type 0) where
  abbrev pub OnState : State → Type 0
  OnState s = OnRegs s.regs × OnRest s.rest

  module _ (edge_rest : (to : ℕ) → OnRest (behind_phis (block_of f to)))
      (edge_regs : (to from : ℕ) (before regs : Registers) → OnRegs regs → OnRegs (with_phis from before (block_of f to) regs))
      (s : State) (r : List MInst) (regs : OnRegs s.regs) (rest : OnRest r) where
    abbrev Kept : Step State → Type 0
    Kept st = KeptBy State OnState st.does

    edge : (w to : ℕ) → Kept (take_edge f s r w to)
    edge w to = (edge_regs to s.block s.regs s.regs regs, edge_rest to)

    branches : (w : ℕ) (o : Option Bool) (t e : ℕ) → Kept (branch f s r w o t e)
    branches w None t e = tt
    branches w (Some true) t e = edge w t
    branches w (Some false) t e = edge w e

    divides : (o : Option (Option ℕ)) (d : Does State) → KeptBy State OnState d → KeptBy State OnState (divided f s r o d)
    divides None d k = k
    divides (Some None) d k = tt
    divides (Some (Some zero)) d k = tt
    divides (Some (Some (suc n))) d k = k

    by_test : (b : Bool) (d : Does State) → KeptBy State OnState d → KeptBy State OnState (if b then d else Breaks)
    by_test true d k = k
    by_test false d k = tt

    by_room : (b : Bool) (d : Does State) → KeptBy State OnState d → KeptBy State OnState (if b then d else Wants)
    by_room true d k = k
    by_room false d k = tt

    addressed : (o : Option ℕ) (n : ℕ) (go : ℕ → Does State) → ((a : ℕ) → KeptBy State OnState (go a)) → KeptBy State OnState (at_address f s r o n go)
    addressed None n go k = tt
    addressed (Some a) n go k = by_test (is_inside s.memory a n) (go a) (k a)

    moves : (w : ℕ) (n : Option ℕ) (after : Option Memory) → Kept (moved f s r w n after)
    moves w None after = tt
    moves w (Some n) None = tt
    moves w (Some n) (Some after) = (regs, rest)

    -- where what it computes keeps the fact on registers, and what it brings does, whatever it is
    pub kept : (i : MInst) → OnRegs (put s.regs (writes i) (result s.regs i)) → (IsTrue (brings i) → (a : Bits) → OnRegs (put s.regs (writes i) a)) → Kept (by_inst f s r i)
    kept (Param d n) computed brought = (brought refl _, rest)
    kept (Op op d a b) computed brought = divides (divisor op (s.regs b)) (give f s r d (value op (s.regs a) (s.regs b))) (computed, rest)
    kept (Imm op d a n) computed brought = (computed, rest)
    kept (Const d n) computed brought = (computed, rest)
    kept (Move d a) computed brought = (computed, rest)
    kept (Load op d a n) computed brought =
        addressed (address (s.regs a) n) (load_size op) (λ at. give f s r d (extended op (bits_of_bytes (bytes_at s.memory at (load_size op))))) (λ at. (brought refl _, rest))
    kept (Store op a b n) computed brought =
        addressed (address (s.regs b) n) (store_size op) (λ at. change f s r (with_bytes s.memory at (bytes_of_bits (store_size op) (s.regs a)))) (λ at. (regs, rest))
    kept (Phi d pairs) computed brought = tt
    kept (Call g args results) computed brought = λ q. (brought refl _, rest)
    kept (TakeData d n) computed brought =
        by_room (nat_le (top s.memory + n) f.end) (Goes (record s {
          rest = r;
          memory = s.memory ++ replicate n None;
          regs = write s.regs d (constant 64 (top s.memory));
        })) (brought refl _, rest)
    kept (CopyBytes a b n) computed brought =
        moves 64 (number 64 (s.regs n)) (copied (λ to from count. true) s.memory (number 64 (s.regs a)) (number 64 (s.regs b)) (number 64 (s.regs n)))
    kept (FillBytes a b n) computed brought = moves 64 (number 64 (s.regs n)) (set s.memory (number 64 (s.regs a)) (number 8 (s.regs b)) (number 64 (s.regs n)))
    kept (Branch op a b t e) computed brought = branches 32 (taken op (s.regs a) (s.regs b)) t e
    kept (Jump t) computed brought = edge 4 t
    kept (Return rs) computed brought = tt
    kept Trap computed brought = tt
