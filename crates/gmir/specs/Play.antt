-- The play of a function of generic machine code: what each instruction does to registers of bits and to data memory, and what it weighs.
use Rattle.std.specs.Prelude.{ℕ, zero, suc, ◌+◌, ◌*◌, ◌/◌, ◌%◌, ◌==◌, Bool, true, false, ◌&&◌, nat_lt, nat_le, List, [], ◌∷◌, ◌++◌, length, take, map, replicate, sum_by, slice_get, slice_index_or, Option, Some, None, if◌then◌else◌}
use Rattle.gmir.specs.declared.code.GType.{GType}
use Rattle.gmir.specs.declared.code.GType.TheVariants.{S, P0}
use Rattle.gmir.specs.declared.code.GOp.{GOp}
use Rattle.gmir.specs.declared.code.GOp.TheVariants.{Add, Sub, Mul, UDiv, SDiv, URem, SRem, And, Or, Xor, Shl, LShr, AShr, Icmp, Select, Trunc, ZExt, SExt, AnyExt, SExtInReg, PtrToInt, IntToPtr, PtrAdd, Constant, Phi, Load, Store, Br, BrCond, Param, Call, Return, TakeData, CopyBytes, FillBytes, Copy, Trap}
use Rattle.gmir.specs.declared.code.GInst.{GInst}
use Rattle.gmir.specs.declared.code.GFunction.{GFunction}
use Rattle.ir_meaning.specs.Memory.{Memory, top, is_inside, bytes_at, with_bytes}
use Rattle.ir_meaning.specs.Step.{stack_start, copied, set}
use Rattle.walks.specs.Walk.{Bits, Reply, Entry, Does, Goes, Asks, Gives, Wants, Breaks, Step, Walk}
use Rattle.walks.specs.Bits.{free, cut, constant, number, low_exact, whole, and_bit, or_bit, xor_bit, bitwise, shifted, shift_left, shift_right, shift_right_signed, zero_extended, sign_extended, chosen, add_low, sub_low, mul_low, divide_signed, rest_signed, compared}
use Rattle.walks.specs.Bytes.{bits_of_bytes, bytes_of_bits}
use Rattle.walks.specs.Registers.{Registers, unwritten, read, put}
use Rattle.walks.specs.Face.{frame_of}

-- ---- registers

abbrev pub width_of : GType → ℕ
width_of (S w) = w
width_of P0 = 64

-- the width of a register
abbrev pub width : List GType → ℕ → ℕ
width types r = width_of (slice_index_or types r P0)

-- the k-th register that an instruction writes, or reads
abbrev pub def_at : GInst → ℕ → ℕ
def_at i k = slice_index_or i.defs k 0

abbrev pub use_at : GInst → ℕ → ℕ
use_at i k = slice_index_or i.uses k 0

-- ---- what instructions are

-- computes, divides, or does something else
pub data Kind : Type 0 where
  Computes : Kind
  Divides : Kind
  Other : Kind

abbrev pub kind : GOp → Kind
kind UDiv = Divides
kind SDiv = Divides
kind URem = Divides
kind SRem = Divides
kind Phi = Other
kind Load = Other
kind Store = Other
kind Br = Other
kind BrCond = Other
kind Param = Other
kind Call = Other
kind Return = Other
kind TakeData = Other
kind CopyBytes = Other
kind FillBytes = Other
kind Trap = Other
kind _ = Computes

-- The value of an instruction that computes, by its width, that of its first operand, that of its second, its number and three operands.
abbrev pub value : GOp → ℕ → ℕ → ℕ → ℕ → Bits → Bits → Bits → Bits
value Add w v u n a b c = low_exact add_low w a b
value Sub w v u n a b c = low_exact sub_low w a b
value Mul w v u n a b c = low_exact mul_low w a b
value UDiv w v u n a b c = whole (λ x y. x / y) w w a b
value SDiv w v u n a b c = whole (divide_signed w) w w a b
value URem w v u n a b c = whole (λ x y. x % y) w w a b
value SRem w v u n a b c = whole (rest_signed w) w w a b
value And w v u n a b c = bitwise and_bit w a b
value Or w v u n a b c = bitwise or_bit w a b
value Xor w v u n a b c = bitwise xor_bit w a b
value Shl w v u n a b c = shifted (shift_left w a) w (number u b)
value LShr w v u n a b c = shifted (shift_right w a) w (number u b)
value AShr w v u n a b c = shifted (shift_right_signed w a) w (number u b)
value Icmp w v u n a b c = whole (compared v n) v w a b
value Select w v u n a b c = cut w (chosen (a 0) b c)
value Trunc w v u n a b c = cut w a
value ZExt w v u n a b c = zero_extended v w a
value SExt w v u n a b c = sign_extended v w a
value AnyExt w v u n a b c = cut w (cut v a)
value SExtInReg w v u n a b c = sign_extended n w a
value PtrToInt w v u n a b c = zero_extended v w a
value IntToPtr w v u n a b c = zero_extended v w a
value PtrAdd w v u n a b c = low_exact add_low w a b
value Constant w v u n a b c = constant w n
value Copy w v u n a b c = cut w a
value _ w v u n a b c = free

-- ---- weights: the first where each register is a pointer or has 64 bits, else the second

abbrev pub is_full : GType → Bool
is_full (S w) = w == 64
is_full P0 = true

abbrev pub all_full : List GType → List ℕ → Bool
all_full types [] = true
all_full types (r ∷ rs) = is_full (slice_index_or types r P0) && all_full types rs

abbrev pub is_legal : List GType → GInst → Bool
is_legal types i = all_full types i.defs && all_full types i.uses

abbrev pub by : Bool → ℕ → ℕ → ℕ
by legal m n = if legal then m else n

abbrev pub op_weight : GOp → Bool → ℕ → ℕ
op_weight Constant legal n = by legal 12 24
op_weight Param legal n = by legal 12 24
op_weight Copy legal n = by legal 12 36
op_weight Trunc legal n = by legal 12 36
op_weight AnyExt legal n = by legal 12 36
op_weight PtrToInt legal n = by legal 12 36
op_weight IntToPtr legal n = by legal 12 36
op_weight ZExt legal n = by legal 24 72
op_weight SExt legal n = by legal 24 72
op_weight SExtInReg legal n = by legal 24 72
op_weight Mul legal n = by legal 40 184
op_weight UDiv legal n = by legal 40 184
op_weight SDiv legal n = by legal 40 184
op_weight URem legal n = by legal 40 184
op_weight SRem legal n = by legal 40 184
op_weight Icmp legal n = by legal 44 152
op_weight Select legal n = by legal 96 184
op_weight BrCond legal n = by legal 64 80
op_weight Br legal n = 4
op_weight Trap legal n = 4
op_weight Phi legal n = by legal 40 64
op_weight Call legal n = by legal (64 + 12 * n) (96 + 36 * n)
op_weight Return legal n = by legal 64 96
op_weight TakeData legal n = 48
op_weight CopyBytes legal n = by legal 64 160
op_weight FillBytes legal n = by legal 64 160
op_weight _ legal n = by legal 24 160

-- what an instruction weighs, without the bytes that it moves
abbrev pub weight : List GType → GInst → ℕ
weight types i = op_weight i.op (is_legal types i) (length i.uses)

-- ---- states

-- an activation on its way, with the instructions that are left of its block
pub record State : Type 0 where
  pub args : List Bits
  pub base_length : ℕ
  pub block : ℕ
  pub rest : List GInst
  pub regs : Registers
  pub memory : Memory

abbrev pub insts_at : GFunction → ℕ → List GInst
insts_at f block = slice_index_or f.blocks block []

abbrev pub is_phi : GOp → Bool
is_phi Phi = true
is_phi _ = false

abbrev pub phis : List GInst → List GInst
phis [] = []
phis (i ∷ is) = if is_phi i.op then i ∷ phis is else []

abbrev pub behind_phis : List GInst → List GInst
behind_phis [] = []
behind_phis (i ∷ is) = if is_phi i.op then behind_phis is else i ∷ is

-- the register that a phi reads on the edge from a block
abbrev pub on_edge : ℕ → List ℕ → List ℕ → Option ℕ
on_edge from (b ∷ bs) (r ∷ rs) = if b == from then Some r else on_edge from bs rs
on_edge from _ _ = None

-- all at once: each reads what stood before the edge
abbrev pub with_phis : List GType → ℕ → Registers → List GInst → Registers → Registers
with_phis types from before [] regs = regs
with_phis types from before (i ∷ is) regs =
    with_phis types from before is (put regs i.defs (cut (width types (def_at i 0)) (read before (on_edge from i.to i.uses))))

abbrev pub jumped : GFunction → State → ℕ → State
jumped f s to = record s {
  block = to;
  rest = behind_phis (insts_at f to);
  regs = with_phis f.types s.block s.regs (phis (insts_at f to)) s.regs;
}

abbrev pub phi_weights : GFunction → ℕ → ℕ
phi_weights f to = sum_by (weight f.types) (phis (insts_at f to))

-- ---- steps

module _ (f : GFunction) (s : State) (i : GInst) (rest : List GInst) where
  abbrev pub operand : ℕ → Bits
  operand k = read s.regs (slice_get i.uses k)

  abbrev pub reg_width : ℕ → ℕ
  reg_width r = width f.types r

  -- a step of the instruction's own weight
  abbrev pub plain : Does State → Step State
  plain does = record { weight = weight f.types i; jumps = 0; does = does }

  -- goes on behind the instruction with its value
  abbrev pub give : Bits → Does State
  give a = Goes (record s { rest = rest; regs = put s.regs i.defs a })

  abbrev pub result : Bits
  result = value i.op (reg_width (def_at i 0)) (reg_width (use_at i 0)) (reg_width (use_at i 1)) i.num (operand 0) (operand 1) (operand 2)

  -- a division asks for a divisor that is known and not 0
  abbrev pub divided : Option ℕ → Does State
  divided None = Breaks
  divided (Some zero) = Breaks
  divided (Some (suc n)) = give result

  abbrev pub take_edge : ℕ → Step State
  take_edge to = record { weight = weight f.types i + phi_weights f to; jumps = 1; does = Goes (jumped f s to) }

  abbrev pub branch : Option Bool → Step State
  branch None = plain Breaks
  branch (Some true) = take_edge (slice_index_or i.to 0 0)
  branch (Some false) = take_edge (slice_index_or i.to 1 0)

  -- goes on where the address is known and so many bytes there are wholly inside
  abbrev pub at_address : Option ℕ → ℕ → (ℕ → Does State) → Does State
  at_address None n go = Breaks
  at_address (Some a) n go = if is_inside s.memory a n then go a else Breaks

  -- goes on behind the instruction with this memory
  abbrev pub change : Memory → Does State
  change after = Goes (record s { rest = rest; memory = after })

  -- bytes that are moved weigh 32 each, and each is a jump; what is undefined moves none
  abbrev pub moved : Option ℕ → Option Memory → Step State
  moved None after = plain Breaks
  moved (Some n) None = plain Breaks
  moved (Some n) (Some after) = record { weight = weight f.types i + 32 * n; jumps = n; does = change after }

  -- the data top grows, unless it would pass the end of data memory
  abbrev pub grown : ℕ → Does State
  grown n =
      if nat_le (top s.memory + n) f.end
      then Goes (record s {
        rest = rest;
        memory = s.memory ++ replicate n None;
        regs = put s.regs i.defs (constant 64 (top s.memory));
      })
      else Wants

  abbrev pub behind_call : Reply → State
  behind_call r = record s { rest = rest; memory = r.memory; regs = put s.regs i.defs (cut (reg_width (def_at i 0)) r.value) }

  abbrev pub returned : List ℕ → Bits
  returned [] = free
  returned (r ∷ rs) = s.regs r

  abbrev pub load_at : ℕ → Does State
  load_at a = give (cut (reg_width (def_at i 0)) (bits_of_bytes (bytes_at s.memory a (i.num / 8))))

  abbrev pub store_at : ℕ → Does State
  store_at a = change (with_bytes s.memory a (bytes_of_bits (i.num / 8) (operand 0)))

  abbrev pub other : GOp → Step State
  other Load = plain (at_address (number 64 (operand 0)) (i.num / 8) load_at)
  other Store = plain (at_address (number 64 (operand 1)) (i.num / 8) store_at)
  other Br = take_edge (slice_index_or i.to 0 0)
  other BrCond = branch (operand 0 0)
  other Param = plain (give (cut (reg_width (def_at i 0)) (slice_index_or s.args i.num free)))
  other Call = plain (Asks (slice_index_or i.to 0 0) (map (λ r. s.regs r) i.uses) s.memory behind_call)
  other Return = plain (Gives (returned i.uses) (take s.base_length s.memory))
  other TakeData = plain (grown i.num)
  other CopyBytes =
      moved (number (reg_width (use_at i 2)) (operand 2))
      (copied (λ to from count. true) s.memory (number 64 (operand 0)) (number 64 (operand 1)) (number (reg_width (use_at i 2)) (operand 2)))
  other FillBytes =
      moved (number (reg_width (use_at i 2)) (operand 2))
      (set s.memory (number 64 (operand 0)) (number 8 (operand 1)) (number (reg_width (use_at i 2)) (operand 2)))
  other _ = plain Breaks

  abbrev pub by_kind : Kind → Step State
  by_kind Computes = plain (give result)
  by_kind Divides = plain (divided (number (reg_width (use_at i 1)) (operand 1)))
  by_kind Other = other i.op

abbrev pub step_at : GFunction → State → List GInst → Step State
step_at f s [] = record { weight = 0; jumps = 0; does = Breaks }
step_at f s (i ∷ rest) = by_kind f s i rest (kind i.op)

abbrev pub step : GFunction → State → Step State
step f s = step_at f s s.rest

abbrev pub first : GFunction → Entry → State
first f entry = record { args = entry.args; base_length = length entry.memory; block = 0; rest = insts_at f 0; regs = unwritten; memory = entry.memory }

-- the entry weighs 160; it wants stack where the frame passes the start of the control stack
abbrev pub enter : GFunction → Entry → Step State
enter f entry = record {
  weight = 160;
  jumps = 0;
  does = if nat_lt entry.sp (stack_start + frame_of f.values) then Wants else Goes (first f entry);
}

abbrev pub walk : GFunction → Walk
walk f = record { State = State; enter = enter f; step = step f }
