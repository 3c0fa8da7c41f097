-- The code of a function of target code whose registers have places, as instructions with labels. An operand that stands in a slot goes through t0 or t1, a result through t0.
use Rattle.std.specs.Prelude.{ℕ, ◌+◌, ◌%◌, ◌^◌, ◌==◌, nat_le, ℤ, pos, List, [], ◌∷◌, ◌++◌, Option, Some, None, if◌then◌else◌}
use Rattle.rv_core.specs.declared.reg.Reg.{Reg}
use Rattle.rv_core.specs.declared.reg.Reg.TheVariants.{X0, T0, T1, T2, A0, S11}
use Rattle.rv_core.specs.declared.instr.BranchOp.TheVariants.{Bgeu}
use Rattle.rv_core.specs.declared.instr.ImmOp.{ImmOp}
use Rattle.rv_core.specs.declared.instr.ImmOp.TheVariants.{Addi}
use Rattle.rv_core.specs.declared.instr.LoadOp.{LoadOp}
use Rattle.rv_core.specs.declared.instr.StoreOp.{StoreOp}
use Rattle.rv_core.specs.declared.instr.RegOp.{RegOp}
use Rattle.rv_core.specs.declared.instr.RegOp.TheVariants.{Add, Sub}
use Rattle.rv_core.specs.declared.instr.Instr.{Instr}
use Rattle.rv_core.specs.declared.instr.Instr.TheVariants as rv
use Rattle.abi.specs.Frame.{slot_place}
use Rattle.mir.specs.declared.code.MInst.{MInst}
use Rattle.mir.specs.declared.code.MInst.TheVariants.{Param, Op, Imm, Const, Move, Load, Store, Phi, Call, TakeData, CopyBytes, FillBytes, Branch, Jump, Return, Trap}
use Rattle.mir.specs.declared.code.MFunction.{MFunction}
use Rattle.mir.specs.declared.places.Place.{Place}
use Rattle.mir.specs.declared.places.Place.TheVariants.{Saved, Slot}
use Rattle.mir.specs.declared.places.Places.{Places}
use Rattle.mir.specs.Code.{block_of}
use Rattle.mir.specs.Places.{place_of}
use Rattle.walks.specs.Face.{frame_of}
use Rattle.code_pieces.specs.Code.{negative, argument_reg, load_at, store_at, const_code, call_code, prologue, leave_code}
use Rattle.code_pieces.specs.Bytes.{taken_bytes, move_code as copy_code, fill_code}
use Rattle.code_pieces.specs.Items.{Item, Plain, Bind, Goto, Test, plain}
use Rattle.frame_code.specs.Frame.{saved_reg, save_offset, used}

-- ---- places

-- the register of what stands at a place: its own, or t for a slot. A register without a place is neither read nor written
abbrev pub held_in : Reg → Option Place → Reg
held_in t None = X0
held_in t (Some (Saved k)) = saved_reg k
held_in t (Some (Slot j)) = t

-- brings what stands in a slot into t
abbrev pub fetch : Reg → Option Place → List Instr
fetch t (Some (Slot j)) = load_at t (slot_place j)
fetch t _ = []

-- puts what is in t into a slot
abbrev pub keep : Reg → Option Place → List Instr
keep t (Some (Slot j)) = store_at t (slot_place j)
keep t _ = []

-- what stands at a place goes to a register
abbrev pub load_place : Reg → Option Place → List Instr
load_place rd None = []
load_place rd (Some (Saved k)) = rv.Imm Addi rd (saved_reg k) (pos 0) ∷ []
load_place rd (Some (Slot j)) = load_at rd (slot_place j)

-- what a register has goes to a place
abbrev pub store_place : Reg → Option Place → List Instr
store_place rs None = []
store_place rs (Some (Saved k)) = rv.Imm Addi (saved_reg k) rs (pos 0) ∷ []
store_place rs (Some (Slot j)) = store_at rs (slot_place j)

-- ---- operations

-- both operands are read before the result is written
abbrev pub op_code : RegOp → Option Place → Option Place → Option Place → List Instr
op_code op d a b = fetch T0 a ++ (fetch T1 b ++ rv.Op op (held_in T0 d) (held_in T0 a) (held_in T1 b) ∷ keep T0 d)

abbrev pub imm_code : ImmOp → Option Place → Option Place → ℤ → List Instr
imm_code op d a n = fetch T0 a ++ rv.Imm op (held_in T0 d) (held_in T0 a) n ∷ keep T0 d

-- the number that 64 bits hold of one
abbrev pub number_code : Option Place → ℕ → List Instr
number_code d n = const_code 3 (held_in T0 d) (n % 2 ^ 64) ++ keep T0 d

-- a move: a place that is a register is written at once
abbrev pub move_code : Option Place → Option Place → List Instr
move_code (Some (Slot j)) a = fetch T0 a ++ store_at (held_in T0 a) (slot_place j)
move_code (Some (Saved k)) a = load_place (saved_reg k) a
move_code None a = []

abbrev pub load_code : LoadOp → Option Place → Option Place → ℤ → List Instr
load_code op d a n = fetch T0 a ++ rv.Load op (held_in T0 d) (held_in T0 a) n ∷ keep T0 d

-- the number at a goes to the address at b
abbrev pub store_code : StoreOp → Option Place → Option Place → ℤ → List Instr
store_code op a b n = fetch T0 a ++ (fetch T1 b ++ rv.Store op (held_in T0 a) (held_in T1 b) n ∷ [])

-- two addresses, or an address and a byte, and how many, in t0 to t2
abbrev pub bytes_code : Option Place → Option Place → Option Place → List Instr
bytes_code a b n = load_place T0 a ++ (load_place T1 b ++ load_place T2 n)

-- ---- saved registers

abbrev pub save_code : ℕ → List ℕ → List Instr
save_code frame [] = []
save_code frame (k ∷ ks) = store_at (saved_reg k) (save_offset frame k) ++ save_code frame ks

abbrev pub restore_code : ℕ → List ℕ → List Instr
restore_code frame [] = []
restore_code frame (k ∷ ks) = load_at (saved_reg k) (save_offset frame k) ++ restore_code frame ks

-- ---- data memory

-- the bytes of data memory that an instruction takes
abbrev pub taken_by : MInst → ℕ
taken_by (TakeData d n) = n
taken_by _ = 0

abbrev pub taken_in : List MInst → ℕ
taken_in [] = 0
taken_in (inst ∷ insts) = taken_by inst + taken_in insts

-- all that the function takes: its first block alone does
abbrev pub taken : MFunction → ℕ
taken f = taken_in (block_of f 0)

-- the data top falls by so many bytes
unfoldable pub give_back : ℕ → List Instr
give_back bytes =
    if bytes == 0 then []
    else if nat_le bytes 2048 then rv.Imm Addi S11 S11 (negative bytes) ∷ []
    else const_code 3 T0 (taken_bytes bytes) ++ rv.Op Sub S11 S11 T0 ∷ []

-- ---- instructions

module _ (f : MFunction) (places : Places) where
  abbrev pub at : ℕ → Option Place
  at r = place_of places r

  abbrev pub frame : ℕ
  frame = frame_of f.values

  -- the new data top stands in t0; where it passes the end of data memory the call ends for want of stack; else the old one is the result
  abbrev pub take_code : Option Place → ℕ → List Instr
  take_code d n =
      const_code 3 T0 (taken_bytes n)
      ++ (rv.Op Add T0 S11 T0
      ∷ (const_code 3 T1 f.end
      ++ (rv.Branch Bgeu T1 T0 (pos 12) ∷ rv.Imm Addi T0 X0 (pos 2) ∷ rv.Ecall ∷ (store_place S11 d ++ rv.Imm Addi S11 T0 (pos 0) ∷ []))))

  -- The arguments of a call, from that of number p on. They stand in no register of an argument, so those written before are read by none behind.
  abbrev pub arguments_code : ℕ → List ℕ → List Instr
  arguments_code p [] = []
  arguments_code p (r ∷ rs) = load_place (argument_reg p) (at r) ++ arguments_code (p + 1) rs

  -- the answer of a call
  abbrev pub answer_code : List ℕ → List Instr
  answer_code [] = []
  answer_code (d ∷ ds) = store_place A0 (at d)

  abbrev pub result_code : List ℕ → List Instr
  result_code [] = []
  result_code (r ∷ rs) = load_place A0 (at r)

  -- the instructions of one that doesn't go to a block
  abbrev pub inst_code : MInst → List Instr
  inst_code (Param d n) = store_place (argument_reg n) (at d)
  inst_code (Op op d a b) = op_code op (at d) (at a) (at b)
  inst_code (Imm op d a n) = imm_code op (at d) (at a) n
  inst_code (Const d n) = number_code (at d) n
  inst_code (Move d a) = move_code (at d) (at a)
  inst_code (Load op d a n) = load_code op (at d) (at a) n
  inst_code (Store op a b n) = store_code op (at a) (at b) n
  inst_code (Call g args results) = arguments_code 0 args ++ (call_code g ++ answer_code results)
  inst_code (TakeData d n) = take_code (at d) n
  inst_code (CopyBytes a b n) = bytes_code (at a) (at b) (at n) ++ copy_code
  inst_code (FillBytes a b n) = bytes_code (at a) (at b) (at n) ++ fill_code
  inst_code (Return rs) = result_code rs ++ (give_back (taken f) ++ (restore_code frame (used places) ++ leave_code frame))
  inst_code Trap = rv.Ebreak ∷ []
  inst_code _ = []

  -- no jump leads to the block that comes next
  abbrev pub goto_items : ℕ → ℕ → List Item
  goto_items block to = if to == block + 1 then [] else Goto to ∷ []

  -- an instruction of a block; the label of a block is its number
  abbrev pub inst_items : ℕ → MInst → List Item
  inst_items block (Branch op a b t e) =
      plain (fetch T0 (at a) ++ fetch T1 (at b)) ++ Test op (held_in T0 (at a)) (held_in T1 (at b)) t ∷ goto_items block e
  inst_items block (Jump t) = goto_items block t
  inst_items block inst = plain (inst_code inst)

  abbrev pub insts_items : ℕ → List MInst → List Item
  insts_items block [] = []
  insts_items block (inst ∷ insts) = inst_items block inst ++ insts_items block insts

  -- blocks, the first of which has this number
  abbrev pub blocks_items : ℕ → List (List MInst) → List Item
  blocks_items block [] = []
  blocks_items block (insts ∷ blocks) = Bind block ∷ (insts_items block insts ++ blocks_items (block + 1) blocks)

  -- the count, the guard of the control stack, the frame, ra, and the s registers in use
  abbrev pub entry_code : List Instr
  entry_code = prologue f.symbol frame ++ save_code frame (used places)

  abbrev pub function_items : List Item
  function_items = plain entry_code ++ blocks_items 0 f.blocks
