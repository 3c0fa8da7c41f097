-- When a function of generic machine code is well formed.
use Rattle.std.specs.Prelude.{◌≡◌, ℕ, ◌^◌, ◌<◌, ◌≤◌, ◌⊎◌, ◌==◌, true, false, Bool, List, [], ◌∷◌, ◌++◌, length, map, flat_map, count_by, slice_get, Some, if◌then◌else◌}
use Rattle.gmir.specs.declared.code.GType.{GType}
use Rattle.gmir.specs.declared.code.GType.TheVariants.{S, P0}
use Rattle.gmir.specs.declared.code.GOp.{GOp}
use Rattle.gmir.specs.declared.code.GOp.TheVariants.{Add, Sub, Mul, UDiv, SDiv, URem, SRem, And, Or, Xor, Shl, LShr, AShr, Icmp, Select, Trunc, ZExt, SExt, AnyExt, SExtInReg, PtrToInt, IntToPtr, PtrAdd, Constant, Phi, Load, Store, Br, BrCond, Param, Call, Return, TakeData, CopyBytes, FillBytes, Copy, Trap}
use Rattle.gmir.specs.declared.code.GInst.{GInst}
use Rattle.gmir.specs.declared.code.GFunction.{GFunction}
use Rattle.ir_flow.specs.Flow.{Walk, next_in}
use Rattle.gmir.specs.Play.{is_phi, insts_at, width_of}

-- ---- what an instruction is and names

abbrev pub is_branch : GOp → Bool
is_branch Br = true
is_branch BrCond = true
is_branch _ = false

-- it ends a block
abbrev pub is_end : GOp → Bool
is_end Br = true
is_end BrCond = true
is_end Return = true
is_end Trap = true
is_end _ = false

abbrev pub is_param : GOp → Bool
is_param Param = true
is_param _ = false

abbrev pub takes_data : GOp → Bool
takes_data TakeData = true
takes_data _ = false

-- the blocks that an instruction jumps to
abbrev pub targets : GInst → List ℕ
targets i = if is_branch i.op then i.to else []

-- the edges of a block
abbrev pub edges : List GInst → List ℕ
edges insts = flat_map targets insts

abbrev pub edges_of : GFunction → List (List ℕ)
edges_of f = map edges f.blocks

-- the registers that a block writes, and those that a function writes
abbrev pub written : List GInst → List ℕ
written insts = flat_map (λ i. i.defs) insts

abbrev pub all_written : GFunction → List ℕ
all_written f = flat_map written f.blocks

abbrev pub times : ℕ → List ℕ → ℕ
times n ns = count_by (λ m. m == n) ns

-- ---- types

module _ (f : GFunction) where
  abbrev pub Has : ℕ → GType → Type 0
  Has r ty = slice_get f.types r ≡ Some ty

  abbrev pub IsScalar : ℕ → Type 0
  IsScalar r = (w : ℕ) × Has r (S w)

  abbrev pub AllHave : GType → List ℕ → Type 0
  AllHave ty [] = Unit {0}
  AllHave ty (r ∷ rs) = Has r ty × AllHave ty rs

  abbrev pub AllExist : List ℕ → Type 0
  AllExist [] = Unit {0}
  AllExist (r ∷ rs) = (r < length f.types) × AllExist rs

  -- one register of a type is written, and these are read
  pub record Gives (i : GInst) (d : ℕ) (ty : GType) (rs : List ℕ) : Type 0 where
    pub defs : i.defs ≡ d ∷ []
    pub type : Has d ty
    pub uses : i.uses ≡ rs

  -- two scalars of one width, which is the result's
  abbrev pub IsTwo : GInst → Type 0
  IsTwo i = (d a b w : ℕ) × Gives i d (S w) (a ∷ b ∷ []) × Has a (S w) × Has b (S w)

  -- a scalar and an amount
  abbrev pub IsShift : GInst → Type 0
  IsShift i = (d a b w : ℕ) × Gives i d (S w) (a ∷ b ∷ []) × Has a (S w) × IsScalar b

  -- from one scalar to another
  abbrev pub IsResize : (ℕ → ℕ → Type 0) → GInst → Type 0
  IsResize fits i = (d a w v : ℕ) × Gives i d (S w) (a ∷ []) × Has a (S v) × fits w v

  -- so many bits stand in memory, and in a register of that type
  abbrev pub IsSize : ℕ → GType → Type 0
  IsSize n ty = ((n ≡ 8) ⊎ (n ≡ 16) ⊎ (n ≡ 32) ⊎ (n ≡ 64)) × (n ≤ width_of ty)

  abbrev pub AtMostOne : List ℕ → Type 0
  AtMostOne rs = length rs ≤ 1

  -- the registers, types and number that an operation asks of its instruction
  abbrev pub HasForm : GInst → GOp → Type 0
  HasForm i Add = IsTwo i
  HasForm i Sub = IsTwo i
  HasForm i Mul = IsTwo i
  HasForm i UDiv = IsTwo i
  HasForm i SDiv = IsTwo i
  HasForm i URem = IsTwo i
  HasForm i SRem = IsTwo i
  HasForm i And = IsTwo i
  HasForm i Or = IsTwo i
  HasForm i Xor = IsTwo i
  HasForm i Shl = IsShift i
  HasForm i LShr = IsShift i
  HasForm i AShr = IsShift i
  HasForm i Icmp = (d a b w : ℕ) × (ty : GType) × Gives i d (S w) (a ∷ b ∷ []) × Has a ty × Has b ty × (i.num < 10)
  HasForm i Select = (d c a b : ℕ) × (ty : GType) × Gives i d ty (c ∷ a ∷ b ∷ []) × IsScalar c × Has a ty × Has b ty
  HasForm i Trunc = IsResize (λ w v. w < v) i
  HasForm i ZExt = IsResize (λ w v. v < w) i
  HasForm i SExt = IsResize (λ w v. v < w) i
  HasForm i AnyExt = IsResize (λ w v. v < w) i
  HasForm i SExtInReg = (d a w : ℕ) × Gives i d (S w) (a ∷ []) × Has a (S w) × (1 ≤ i.num) × (i.num ≤ w)
  HasForm i PtrToInt = (d a w : ℕ) × Gives i d (S w) (a ∷ []) × Has a P0
  HasForm i IntToPtr = (d a : ℕ) × Gives i d P0 (a ∷ []) × IsScalar a
  HasForm i PtrAdd = (d a b : ℕ) × Gives i d P0 (a ∷ b ∷ []) × Has a P0 × Has b (S 64)
  HasForm i Constant = (d : ℕ) × (ty : GType) × Gives i d ty [] × (i.num < 2 ^ width_of ty)
  HasForm i Phi = (d : ℕ) × (ty : GType) × Gives i d ty i.uses × AllHave ty i.uses × (length i.to ≡ length i.uses)
  HasForm i Load = (d a : ℕ) × (ty : GType) × Gives i d ty (a ∷ []) × Has a P0 × IsSize i.num ty
  HasForm i Store = (v a : ℕ) × (ty : GType) × (i.defs ≡ []) × (i.uses ≡ v ∷ a ∷ []) × Has v ty × Has a P0 × IsSize i.num ty
  HasForm i Br = (to : ℕ) × (i.defs ≡ []) × (i.uses ≡ []) × (i.to ≡ to ∷ [])
  HasForm i BrCond = (c one zero : ℕ) × (i.defs ≡ []) × (i.uses ≡ c ∷ []) × IsScalar c × (i.to ≡ one ∷ zero ∷ [])
  HasForm i Param = (d : ℕ) × (ty : GType) × Gives i d ty [] × (i.num < 8)
  HasForm i Call = (callee : ℕ) × AtMostOne i.defs × (length i.uses ≤ 8) × (i.to ≡ callee ∷ []) × (callee < 1024)
  HasForm i Return = (i.defs ≡ []) × AtMostOne i.uses
  HasForm i TakeData = (d : ℕ) × Gives i d P0 []
  HasForm i CopyBytes = (to from n : ℕ) × (i.defs ≡ []) × (i.uses ≡ to ∷ from ∷ n ∷ []) × Has to P0 × Has from P0 × IsScalar n
  HasForm i FillBytes = (to byte n w : ℕ) × (i.defs ≡ []) × (i.uses ≡ to ∷ byte ∷ n ∷ []) × Has to P0 × Has byte (S w) × (8 ≤ w) × IsScalar n
  HasForm i Copy = (d a : ℕ) × (ty : GType) × Gives i d ty (a ∷ []) × Has a ty
  HasForm i Trap = (i.defs ≡ []) × (i.uses ≡ [])

  -- ---- assignment: each walk from the entry that comes to a use has passed its definition

  -- one of these blocks writes the register
  abbrev pub Passes : ℕ → List ℕ → Type 0
  Passes r [] = ⊥
  Passes r (block ∷ blocks) = (1 ≤ times r (written (insts_at f block))) ⊎ Passes r blocks

  -- a use behind these instructions of a block: one of them writes the register, or each walk that ends in the block has passed a
  -- block that does
  abbrev pub IsAssigned : ℕ → List GInst → ℕ → Type 0
  IsAssigned block before r =
      (1 ≤ times r (written before)) ⊎ ((earlier : List ℕ) → Walk (next_in (edges_of f)) earlier block → Passes r earlier)

  abbrev pub AllAssigned : ℕ → List GInst → List ℕ → Type 0
  AllAssigned block before [] = Unit {0}
  AllAssigned block before (r ∷ rs) = IsAssigned block before r × AllAssigned block before rs

  -- a phi's uses stand at the ends of the blocks that they come from
  abbrev pub AllOnEdges : List ℕ → List ℕ → Type 0
  AllOnEdges (block ∷ blocks) (r ∷ rs) = IsAssigned block (insts_at f block) r × AllOnEdges blocks rs
  AllOnEdges _ _ = Unit {0}

  abbrev pub AssignedBy : Bool → ℕ → List GInst → GInst → Type 0
  AssignedBy true block before i = AllOnEdges i.to i.uses
  AssignedBy false block before i = AllAssigned block before i.uses

  abbrev pub UsesAssigned : ℕ → List GInst → GInst → Type 0
  UsesAssigned block before i = AssignedBy (is_phi i.op) block before i

  -- ---- where instructions stand

  -- a phi stands behind phis alone, and not in the first block; it names once each block that jumps to its block, and no other
  pub record IsPhiAt (block : ℕ) (before : List GInst) (i : GInst) : Type 0 where
    pub later : 1 ≤ block
    pub first : (other : GInst) (k : ℕ) → slice_get before k ≡ Some other → is_phi other.op ≡ true
    pub named : (from : ℕ) → 1 ≤ times block (edges (insts_at f from)) → times from i.to ≡ 1
    pub only : (from : ℕ) → 1 ≤ times from i.to → 1 ≤ times block (edges (insts_at f from))

  -- a parameter stands in the first block, behind parameters alone
  pub record IsParamAt (block : ℕ) (before : List GInst) : Type 0 where
    pub entry : block ≡ 0
    pub first : (other : GInst) (k : ℕ) → slice_get before k ≡ Some other → is_param other.op ≡ true

  -- an instruction at its place: the instructions of its block before it and behind it
  pub record IsInstAt (block : ℕ) (before : List GInst) (i : GInst) (behind : List GInst) : Type 0 where
    pub form : HasForm i i.op
    pub defs : AllExist i.defs
    pub uses : AllExist i.uses
    pub assigned : UsesAssigned block before i
    -- it ends the block exactly where it is the last
    pub ends : is_end i.op ≡ (length behind == 0)
    pub targets' : (k to : ℕ) → slice_get (targets i) k ≡ Some to → (1 ≤ to) × (to < length f.blocks)
    pub phi : is_phi i.op ≡ true → IsPhiAt block before i
    pub param : is_param i.op ≡ true → IsParamAt block before
    pub data' : takes_data i.op ≡ true → block ≡ 0

-- Each register has from 1 to 64 bits and is written at most once; there is a block, each has an instruction, and each instruction
-- stands as it may.
pub record IsFormed (f : GFunction) : Type 0 where
  pub widths : (r w : ℕ) → slice_get f.types r ≡ Some (S w) → (1 ≤ w) × (w ≤ 64)
  pub once : (r : ℕ) → times r (all_written f) ≤ 1
  pub some : 1 ≤ length f.blocks
  pub filled : (block : ℕ) → block < length f.blocks → 1 ≤ length (insts_at f block)
  pub insts : (block : ℕ) (before : List GInst) (i : GInst) (behind : List GInst) → block < length f.blocks
      → insts_at f block ≡ before ++ i ∷ behind → IsInstAt f block before i behind
