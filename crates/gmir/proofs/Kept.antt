-- Facts on registers and on what is left of a block, which each step of a function keeps.
use Rattle.std.proofs.Common.{refl, ℕ, zero, suc, ◌+◌, ◌/◌, Bool, true, false, List, ◌++◌, Option, Some, None}
use Rattle.std.specs.Prelude.{if◌then◌else◌, nat_le, slice_index_or, replicate, IsTrue}
use Rattle.walks.specs.Walk.{Bits, Does, Goes, Wants, Breaks, Step}
use Rattle.ir_meaning.specs.Memory.{Memory, top, is_inside}
use Rattle.walks.specs.Simulation.{KeptBy}
use Rattle.gmir.specs.declared.code.GOp.{GOp}
use Rattle.gmir.specs.declared.code.GOp.TheVariants.{Add, Sub, Mul, UDiv, SDiv, URem, SRem, And, Or, Xor, Shl, LShr, AShr, Icmp, Select, Trunc, ZExt, SExt, AnyExt, SExtInReg, PtrToInt, IntToPtr, PtrAdd, Constant, Phi, Load, Store, Br, BrCond, Param, Call, Return, TakeData, CopyBytes, FillBytes, Copy, Trap}
use Rattle.gmir.specs.declared.code.GInst.{GInst}
use Rattle.gmir.specs.declared.code.GFunction.{GFunction}
use Rattle.walks.specs.Bits.{constant, number}
use Rattle.walks.specs.Registers.{Registers, put}
use Rattle.gmir.specs.Play.{width, use_at, Kind, Computes, Divides, Other, State, insts_at, phis, behind_phis, with_phis, plain, operand, result, divided, take_edge, branch, at_address, moved, load_at, store_at, other, by_kind}
use Rattle.ir_meaning.specs.Step.{copied, set}

-- the instruction writes a value that it doesn't compute
abbrev pub brings : GOp → Bool
brings Load = true
brings Param = true
brings Call = true
brings TakeData = true
brings _ = false

module _ (f : GFunction) (OnRegs : Registers → Type 0) (OnRest : List GInst → Type 0) where
  abbrev pub OnState : State → Type 0
  OnState s = OnRegs s.regs × OnRest s.rest

  module _ (edge_rest : (to : ℕ) → OnRest (behind_phis (insts_at f to)))
      (edge_regs : (to from : ℕ) (before regs : Registers) → OnRegs regs → OnRegs (with_phis f.types from before (phis (insts_at f to)) regs))
      (s : State) (i : GInst) (r : List GInst) (regs : OnRegs s.regs) (rest : OnRest r)
      (computed : OnRegs (put s.regs i.defs (result f s i r)))
      (brought : IsTrue (brings i.op) → (a : Bits) → OnRegs (put s.regs i.defs a)) where
    abbrev Kept : Step State → Type 0
    Kept st = KeptBy State OnState st.does

    edge : (to : ℕ) → Kept (take_edge f s i r to)
    edge to = (edge_regs to s.block s.regs s.regs regs, edge_rest to)

    branches : (o : Option Bool) → Kept (branch f s i r o)
    branches None = tt
    branches (Some true) = edge (slice_index_or i.to 0 0)
    branches (Some false) = edge (slice_index_or i.to 1 0)

    divides : (o : Option ℕ) → Kept (plain f s i r (divided f s i r o))
    divides None = tt
    divides (Some zero) = tt
    divides (Some (suc n)) = (computed, rest)

    by_test : (b : Bool) (d : Does State) → KeptBy State OnState d → KeptBy State OnState (if b then d else Breaks)
    by_test true d k = k
    by_test false d k = tt

    by_room : (b : Bool) (d : Does State) → KeptBy State OnState d → KeptBy State OnState (if b then d else Wants)
    by_room true d k = k
    by_room false d k = tt

    addressed : (o : Option ℕ) (n : ℕ) (go : ℕ → Does State) → ((offset : ℕ) → KeptBy State OnState (go offset)) → Kept (plain f s i r (at_address f s i r o n go))
    addressed None n go k = tt
    addressed (Some a) n go k = by_test (is_inside s.memory a n) (go a) (k a)

    moves : (n : Option ℕ) (after : Option Memory) → Kept (moved f s i r n after)
    moves None after = tt
    moves (Some n) None = tt
    moves (Some n) (Some after) = (regs, rest)

    others : (op : GOp) → (IsTrue (brings op) → (a : Bits) → OnRegs (put s.regs i.defs a)) → Kept (other f s i r op)
    others Load h = addressed (number 64 (operand f s i r 0)) (i.num / 8) (load_at f s i r) (λ offset. (h refl _, rest))
    others Store h = addressed (number 64 (operand f s i r 1)) (i.num / 8) (store_at f s i r) (λ offset. (regs, rest))
    others Br h = edge (slice_index_or i.to 0 0)
    others BrCond h = branches (operand f s i r 0 0)
    others Param h = (h refl _, rest)
    others Call h = λ q. (h refl _, rest)
    others Return h = tt
    others TakeData h =
        by_room (nat_le (top s.memory + i.num) f.end) (Goes (record s {
          rest = r;
          memory = s.memory ++ replicate i.num None;
          regs = put s.regs i.defs (constant 64 (top s.memory));
        })) (h refl _, rest)
    others CopyBytes h =
        moves (number (width f.types (use_at i 2)) (operand f s i r 2))
        (copied (λ to from count. true) s.memory (number 64 (operand f s i r 0)) (number 64 (operand f s i r 1)) (number (width f.types (use_at i 2)) (operand f s i r 2)))
    others FillBytes h =
        moves (number (width f.types (use_at i 2)) (operand f s i r 2))
        (set s.memory (number 64 (operand f s i r 0)) (number 8 (operand f s i r 1)) (number (width f.types (use_at i 2)) (operand f s i r 2)))
    others Trap h = tt
    others Phi h = tt
    others Add h = tt
    others Sub h = tt
    others Mul h = tt
    others UDiv h = tt
    others SDiv h = tt
    others URem h = tt
    others SRem h = tt
    others And h = tt
    others Or h = tt
    others Xor h = tt
    others Shl h = tt
    others LShr h = tt
    others AShr h = tt
    others Icmp h = tt
    others Select h = tt
    others Trunc h = tt
    others ZExt h = tt
    others SExt h = tt
    others AnyExt h = tt
    others SExtInReg h = tt
    others PtrToInt h = tt
    others IntToPtr h = tt
    others PtrAdd h = tt
    others Constant h = tt
    others Copy h = tt

    pub kept : (k : Kind) → KeptBy State OnState (by_kind f s i r k).does
    kept Computes = (computed, rest)
    kept Divides = divides (number (width f.types (use_at i 1)) (operand f s i r 1))
    kept Other = others i.op brought
