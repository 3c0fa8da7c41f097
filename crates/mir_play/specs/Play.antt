-- The play of a function of target code: what each instruction does to registers of bits and to data memory, and what it weighs.
use Rattle.std.specs.Prelude.{ℕ, zero, suc, ◌+◌, ◌*◌, ◌==◌, Bool, true, false, nat_lt, nat_le, List, [], ◌∷◌, ◌++◌, length, take, map, replicate, slice_index_or, Option, Some, None, if◌then◌else◌}
use Rattle.mir.specs.declared.code.MInst.{MInst}
use Rattle.mir.specs.declared.code.MInst.TheVariants.{Param, Op, Imm, Const, Move, Load, Store, Phi, Call, TakeData, CopyBytes, FillBytes, Branch, Jump, Return, Trap}
use Rattle.mir.specs.declared.code.MFunction.{MFunction}
use Rattle.mir.specs.Code.{block_of}
use Rattle.ir_meaning.specs.Memory.{Memory, top, is_inside, bytes_at, with_bytes}
use Rattle.ir_meaning.specs.Step.{stack_start, copied, set}
use Rattle.walks.specs.Walk.{Bits, Reply, Entry, Does, Goes, Asks, Gives, Wants, Breaks, Step, Walk}
use Rattle.walks.specs.Bits.{free, cut, constant, number}
use Rattle.walks.specs.Bytes.{bits_of_bytes, bytes_of_bits}
use Rattle.walks.specs.Registers.{Registers, unwritten, read, write, put}
use Rattle.walks.specs.Face.{frame_of}
use Rattle.mir_play.specs.Values.{value, immediate_value, divisor, taken, address, load_size, extended, store_size}

-- what an instruction weighs, without the bytes that it moves
abbrev pub weight : MInst → ℕ
weight (Param d n) = 12
weight (Op op d a b) = 20
weight (Imm op d a n) = 12
weight (Const d n) = 12
weight (Move d a) = 12
weight (Load op d a n) = 12
weight (Store op a b n) = 20
weight (Phi d pairs) = 40
weight (Call g args results) = 64 + 12 * length args
weight (TakeData d n) = 48
weight (CopyBytes a b n) = 64
weight (FillBytes a b n) = 64
weight (Branch op a b t e) = 32
weight (Jump t) = 4
weight (Return rs) = 64
weight Trap = 4

-- ---- states

-- an activation on its way, with the instructions that are left of its block
pub record State : Type 0 where
  pub args : List Bits
  pub base_length : ℕ
  pub block : ℕ
  pub rest : List MInst
  pub regs : Registers
  pub memory : Memory

-- the register that a phi reads on the edge from a block
abbrev pub on_edge : ℕ → List (ℕ × ℕ) → Option ℕ
on_edge from [] = None
on_edge from (pair ∷ pairs) = if pair.1 == from then Some pair.0 else on_edge from pairs

-- behind the phis at the head of a block, all at once: each reads what stood before the edge
abbrev pub with_phis : ℕ → Registers → List MInst → Registers → Registers
with_phis from before (Phi d pairs ∷ is) regs = with_phis from before is (write regs d (read before (on_edge from pairs)))
with_phis from before _ regs = regs

abbrev pub behind_phis : List MInst → List MInst
behind_phis (Phi d pairs ∷ is) = behind_phis is
behind_phis is = is

abbrev pub phi_weights : List MInst → ℕ
phi_weights (Phi d pairs ∷ is) = weight (Phi d pairs) + phi_weights is
phi_weights _ = 0

abbrev pub jumped : MFunction → State → ℕ → State
jumped f s to = record s {
  block = to;
  rest = behind_phis (block_of f to);
  regs = with_phis s.block s.regs (block_of f to) s.regs;
}

-- ---- steps

module _ (f : MFunction) (s : State) (rest : List MInst) where
  abbrev pub plain : ℕ → Does State → Step State
  plain weight does = record { weight = weight; jumps = 0; does = does }

  -- goes on behind the instruction with a register's value
  abbrev pub give : ℕ → Bits → Does State
  give d a = Goes (record s { rest = rest; regs = write s.regs d a })

  -- a division asks for a divisor that is known and not 0
  abbrev pub divided : Option (Option ℕ) → Does State → Does State
  divided None go = go
  divided (Some None) go = Breaks
  divided (Some (Some zero)) go = Breaks
  divided (Some (Some (suc n))) go = go

  abbrev pub take_edge : ℕ → ℕ → Step State
  take_edge weight to = record { weight = weight + phi_weights (block_of f to); jumps = 1; does = Goes (jumped f s to) }

  abbrev pub branch : ℕ → Option Bool → ℕ → ℕ → Step State
  branch weight None t e = plain weight Breaks
  branch weight (Some true) t e = take_edge weight t
  branch weight (Some false) t e = take_edge weight e

  -- goes on where the address is known and so many bytes there are wholly inside
  abbrev pub at_address : Option ℕ → ℕ → (ℕ → Does State) → Does State
  at_address None n go = Breaks
  at_address (Some a) n go = if is_inside s.memory a n then go a else Breaks

  -- goes on behind the instruction with this memory
  abbrev pub change : Memory → Does State
  change after = Goes (record s { rest = rest; memory = after })

  -- bytes that are moved weigh 32 each, and each is a jump; what is undefined moves none
  abbrev pub moved : ℕ → Option ℕ → Option Memory → Step State
  moved weight None after = plain weight Breaks
  moved weight (Some n) None = plain weight Breaks
  moved weight (Some n) (Some after) = record { weight = weight + 32 * n; jumps = n; does = change after }

  -- the data top grows, unless it would pass the end of data memory
  abbrev pub grown : ℕ → ℕ → Does State
  grown d n =
      if nat_le (top s.memory + n) f.end
      then Goes (record s {
        rest = rest;
        memory = s.memory ++ replicate n None;
        regs = write s.regs d (constant 64 (top s.memory));
      })
      else Wants

  abbrev pub behind_call : List ℕ → Reply → State
  behind_call results r = record s { rest = rest; memory = r.memory; regs = put s.regs results (cut 64 r.value) }

  abbrev pub returned : List ℕ → Bits
  returned [] = free
  returned (r ∷ rs) = s.regs r

  abbrev pub by_inst : MInst → Step State
  by_inst (Param d n) = plain (weight (Param d n)) (give d (cut 64 (slice_index_or s.args n free)))
  by_inst (Op op d a b) = plain (weight (Op op d a b)) (divided (divisor op (s.regs b)) (give d (value op (s.regs a) (s.regs b))))
  by_inst (Imm op d a n) = plain (weight (Imm op d a n)) (give d (immediate_value op (s.regs a) n))
  by_inst (Const d n) = plain (weight (Const d n)) (give d (constant 64 n))
  by_inst (Move d a) = plain (weight (Move d a)) (give d (s.regs a))
  by_inst (Load op d a n) =
      plain (weight (Load op d a n))
      (at_address (address (s.regs a) n) (load_size op) (λ at. give d (extended op (bits_of_bytes (bytes_at s.memory at (load_size op))))))
  by_inst (Store op a b n) =
      plain (weight (Store op a b n))
      (at_address (address (s.regs b) n) (store_size op) (λ at. change (with_bytes s.memory at (bytes_of_bits (store_size op) (s.regs a)))))
  by_inst (Phi d pairs) = plain (weight (Phi d pairs)) Breaks
  by_inst (Call g args results) = plain (weight (Call g args results)) (Asks g (map (λ r. s.regs r) args) s.memory (behind_call results))
  by_inst (TakeData d n) = plain (weight (TakeData d n)) (grown d n)
  by_inst (CopyBytes a b n) =
      moved (weight (CopyBytes a b n)) (number 64 (s.regs n))
      (copied (λ to from count. true) s.memory (number 64 (s.regs a)) (number 64 (s.regs b)) (number 64 (s.regs n)))
  by_inst (FillBytes a b n) =
      moved (weight (FillBytes a b n)) (number 64 (s.regs n)) (set s.memory (number 64 (s.regs a)) (number 8 (s.regs b)) (number 64 (s.regs n)))
  by_inst (Branch op a b t e) = branch (weight (Branch op a b t e)) (taken op (s.regs a) (s.regs b)) t e
  by_inst (Jump t) = take_edge (weight (Jump t)) t
  by_inst (Return rs) = plain (weight (Return rs)) (Gives (returned rs) (take s.base_length s.memory))
  by_inst Trap = plain (weight Trap) Breaks

abbrev pub step_at : MFunction → State → List MInst → Step State
step_at f s [] = record { weight = 0; jumps = 0; does = Breaks }
step_at f s (i ∷ rest) = by_inst f s rest i

abbrev pub step : MFunction → State → Step State
step f s = step_at f s s.rest

abbrev pub first : MFunction → Entry → State
first f entry = record { args = entry.args; base_length = length entry.memory; block = 0; rest = block_of f 0; regs = unwritten; memory = entry.memory }

-- the entry weighs 160; it wants stack where the frame passes the start of the control stack
abbrev pub enter : MFunction → Entry → Step State
enter f entry = record {
  weight = 160;
  jumps = 0;
  does = if nat_lt entry.sp (stack_start + frame_of f.values) then Wants else Goes (first f entry);
}

abbrev pub walk : MFunction → Walk
walk f = record { State = State; enter = enter f; step = step f }
