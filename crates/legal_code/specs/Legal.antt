-- The legal form of a function of generic machine code: each register is a pointer or has 64 bits, and an operand is extended first
-- where its meaning asks for the bits above its width, as the legaliser of LLVM's GlobalISel widens a scalar.
use Rattle.std.specs.Prelude.{◌≡◌, ℕ, suc, ◌+◌, ◌-◌, ◌^◌, ◌==◌, ◌&&◌, nat_le, List, [], ◌∷◌, ◌++◌, length, map, replicate, slice_get, slice_index_or, Some, if◌then◌else◌}
use Rattle.gmir.specs.declared.code.GType.{GType}
use Rattle.gmir.specs.declared.code.GType.TheVariants.{S, P0}
use Rattle.gmir.specs.declared.code.GOp.{GOp}
use Rattle.gmir.specs.declared.code.GOp.TheVariants.{UDiv, SDiv, URem, SRem, And, Shl, LShr, AShr, Icmp, Trunc, ZExt, SExt, AnyExt, SExtInReg, IntToPtr, Constant, CopyBytes, FillBytes, Copy}
use Rattle.gmir.specs.declared.code.GInst.{GInst}
use Rattle.gmir.specs.declared.code.GFunction.{GFunction}
use Rattle.gmir.specs.Play.{width, use_at, insts_at}

-- ---- what is legal

abbrev pub legal_type : GType → GType
legal_type (S w) = S 64
legal_type P0 = P0

-- the registers of the first are the first of the second, each with its legal type
abbrev pub KeepsRegisters : GFunction → GFunction → Type 0
KeepsRegisters f g = (r : ℕ) (ty : GType) → slice_get f.types r ≡ Some ty → slice_get g.types r ≡ Some (legal_type ty)

-- ---- what a meaning asks of the bits above an operand's width

pub data Above : Type 0 where
  Anything : Above
  Zeros : Above
  Signs : Above

-- the unsigned predicates stand at the places 2 to 5
abbrev pub compared_above : ℕ → Above
compared_above n = if nat_le 2 n && nat_le n 5 then Zeros else Signs

-- An operand at a place: a quotient and a remainder, and a compare, ask for all bits by their sign or without; a shift to the right asks
-- for the bits that come in, and each shift for its amount; a move or a fill of bytes asks for their count. Sums, products, bitwise
-- operations, choices, branches, loads, stores and calls ask for no bit above.
abbrev pub above : GOp → ℕ → ℕ → Above
above UDiv n k = Zeros
above URem n k = Zeros
above SDiv n k = Signs
above SRem n k = Signs
above Shl n k = if k == 1 then Zeros else Anything
above LShr n k = Zeros
above AShr n k = if k == 1 then Zeros else Signs
above Icmp n k = compared_above n
above CopyBytes n k = if k == 2 then Zeros else Anything
above FillBytes n k = if k == 2 then Zeros else Anything
above _ n k = Anything

-- ---- how an operand is extended

pub data Extension : Type 0 where
  Kept : Extension
  ByZeros : (w : ℕ) → Extension
  BySigns : (w : ℕ) → Extension

-- of a register of 64 bits nothing is above
abbrev pub by_type : Above → GType → Extension
by_type Zeros (S w) = if w == 64 then Kept else ByZeros w
by_type Signs (S w) = if w == 64 then Kept else BySigns w
by_type _ ty = Kept

-- the ones of a width, in a new register
abbrev pub mask : ℕ → ℕ → GInst
mask d w = record { op = Constant; defs = d ∷ []; uses = []; num = 2 ^ w - 1; to = [] }

abbrev pub masked : ℕ → ℕ → ℕ → GInst
masked d a m = record { op = And; defs = d ∷ []; uses = a ∷ m ∷ []; num = 0; to = [] }

abbrev pub signed : ℕ → ℕ → ℕ → GInst
signed d a w = record { op = SExtInReg; defs = d ∷ []; uses = a ∷ []; num = w; to = [] }

-- the instructions that extend a register, into new registers from this one on: zeros come by a mask
abbrev pub extends : Extension → ℕ → ℕ → List GInst
extends Kept a next = []
extends (ByZeros w) a next = mask next w ∷ masked (next + 1) a next ∷ []
extends (BySigns w) a next = signed next a w ∷ []

-- how many new registers they take
abbrev pub taken : Extension → ℕ
taken Kept = 0
taken (ByZeros w) = 2
taken (BySigns w) = 1

-- where the extended operand stands
abbrev pub extended : Extension → ℕ → ℕ → ℕ
extended Kept a next = a
extended (ByZeros w) a next = next + 1
extended (BySigns w) a next = next

module _ (types : List GType) where
  module _ (op : GOp) (n : ℕ) where
    abbrev pub extension : ℕ → ℕ → Extension
    extension k r = by_type (above op n k) (slice_index_or types r P0)

    -- the operands from a place on: the instructions that extend them, where they then stand, and how many new registers they took
    abbrev pub extensions : ℕ → ℕ → List ℕ → List GInst
    extensions k next [] = []
    extensions k next (r ∷ rs) = extends (extension k r) r next ++ extensions (suc k) (next + taken (extension k r)) rs

    abbrev pub operands : ℕ → ℕ → List ℕ → List ℕ
    operands k next [] = []
    operands k next (r ∷ rs) = extended (extension k r) r next ∷ operands (suc k) (next + taken (extension k r)) rs

    abbrev pub taken_all : ℕ → List ℕ → ℕ
    taken_all k [] = 0
    taken_all k (r ∷ rs) = taken (extension k r) + taken_all (suc k) rs

-- ---- instructions

-- What has no form at 64 bits takes another operation: a wider number by zeros is one under a mask, one by its sign is extended within
-- its register, and a narrower one, or one whose new bits are free, is a copy.
pub data Form : Type 0 where
  Same : Form
  Masks : Form
  Extends : Form
  Copies : Form

abbrev pub form : GOp → Form
form ZExt = Masks
form SExt = Extends
form Trunc = Copies
form AnyExt = Copies
form _ = Same

module _ (types : List GType) where
  -- the instructions before one in its legal form, itself, and how many new registers they take
  abbrev pub before_by : Form → ℕ → GInst → List GInst
  before_by Same next i = extensions types i.op i.num 0 next i.uses
  before_by Masks next i = mask next (width types (use_at i 0)) ∷ []
  before_by _ next i = []

  abbrev pub last_by : Form → ℕ → GInst → GInst
  last_by Same next i = record i { uses = operands types i.op i.num 0 next i.uses }
  last_by Masks next i = record i { op = And; uses = i.uses ++ next ∷ [] }
  last_by Extends next i = record i { op = SExtInReg; num = width types (use_at i 0) }
  last_by Copies next i = record i { op = Copy }

  abbrev pub spent_by : Form → GInst → ℕ
  spent_by Same i = taken_all types i.op i.num 0 i.uses
  spent_by Masks i = 1
  spent_by _ i = 0

  abbrev pub before : ℕ → GInst → List GInst
  before next i = before_by (form i.op) next i

  abbrev pub last : ℕ → GInst → GInst
  last next i = last_by (form i.op) next i

  abbrev pub spent : GInst → ℕ
  spent i = spent_by (form i.op) i

  -- ---- blocks, with new registers from this one on

  abbrev pub legal_insts : ℕ → List GInst → List GInst
  legal_insts next [] = []
  legal_insts next (i ∷ is) = before next i ++ last next i ∷ legal_insts (next + spent i) is

  abbrev pub spent_insts : List GInst → ℕ
  spent_insts [] = 0
  spent_insts (i ∷ is) = spent i + spent_insts is

  abbrev pub legal_blocks : ℕ → List (List GInst) → List (List GInst)
  legal_blocks next [] = []
  legal_blocks next (b ∷ bs) = legal_insts next b ∷ legal_blocks (next + spent_insts b) bs

  abbrev pub spent_blocks : List (List GInst) → ℕ
  spent_blocks [] = 0
  spent_blocks (b ∷ bs) = spent_insts b + spent_blocks bs

-- The legal form of a function. Its new registers stand behind those that it has.
abbrev pub legalized : GFunction → GFunction
legalized f = record f {
  types = map legal_type f.types ++ replicate (spent_blocks f.types f.blocks) (S 64);
  blocks = legal_blocks f.types (length f.types) f.blocks;
}

-- Each number that becomes an address has 64 bits: one that is narrower has no legal form of its weight, and is extended before.
abbrev pub HasWideAddresses : GFunction → Type 0
HasWideAddresses f = (block k a : ℕ) (i : GInst) → slice_get (insts_at f block) k ≡ Some i → i.op ≡ IntToPtr → i.uses ≡ a ∷ []
    → slice_get f.types a ≡ Some (S 64)
