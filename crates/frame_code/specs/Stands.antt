-- When the machine stands for a state of a function of target code.
use Rattle.std.specs.Prelude.{◌≡◌, ◌<◌, ◌≤◌, ℕ, ◌+◌, ◌-◌, ◌%◌, ◌^◌, Bool, true, false, List, [], ◌∷◌, ◌++◌, length, drop, map, sum_by, slice_index_or, Option, Some, None}
use Rattle.std.specs.List.{Contains}
use Rattle.rv_core.specs.Reg.{number_of as number_of_reg}
use Rattle.rv_core.specs.declared.reg.Reg.TheVariants.{Ra}
use Rattle.rv_core.specs.Bytes.{load_bytes}
use Rattle.rv_core.specs.Step.{read}
use Rattle.abi.specs.Frame.{slot_place}
use Rattle.ir_meaning.specs.Memory.{top}
use Rattle.ir_meaning.specs.Plays.{Meaning, Invocation}
use Rattle.rv_play.specs.Machine.{Machine, data_base, data_end}
use Rattle.rv_play.specs.CodePlay.{Place as Words, Point}
use Rattle.rv_play.specs.Good.{IsBytes, RefinesMemory, KeepsControl}
use Rattle.walks.specs.Bits.{free}
use Rattle.walks.specs.Face.{frame_of}
use Rattle.mir.specs.declared.code.MInst.{MInst}
use Rattle.mir.specs.declared.code.MInst.TheVariants.{Param}
use Rattle.mir.specs.declared.code.MFunction.{MFunction}
use Rattle.mir.specs.declared.places.Place.{Place}
use Rattle.mir.specs.declared.places.Place.TheVariants.{Saved, Slot}
use Rattle.mir.specs.declared.places.Places.{Places}
use Rattle.mir.specs.Code.{block_of}
use Rattle.mir.specs.Live.{ReadFrom}
use Rattle.mir.specs.Places.{place_of}
use Rattle.mir_play.specs.Play.{State}
use Rattle.mir_play.specs.Machine.{IsHeld}
use Rattle.code_pieces.specs.Labels.{StandsAs}
use Rattle.frame_code.specs.Frame.{saved_reg, ra_offset, save_offset, uses}
use Rattle.frame_code.specs.Code.{taken_in, taken, insts_items, blocks_items}

-- the number of s(k)
abbrev pub saved_number : ℕ → ℕ
saved_number k = number_of_reg (saved_reg k)

-- the number that stands at a place, with a frame from this address on
abbrev pub number_at : ℕ → Machine → Option Place → ℕ
number_at low s None = 0
number_at low s (Some (Saved k)) = s.regs.x (saved_number k)
number_at low s (Some (Slot j)) = load_bytes s.control (low + slot_place j) 8

module _ (m : Meaning) (f : MFunction) (places : Places) (a : Invocation) (s : Machine) where
  -- the frame lies right below the caller's
  abbrev pub low : ℕ
  low = a.sp - frame_of f.values

  -- What an activation, entered with the machine s, keeps, whatever it has read and written: sp and its frame, in which ra and the s registers in use are saved, the other
  -- s registers and the control stack above the frame as they were, data memory with its top in s11, and its one entry counted. Each of the machine's bytes is below 256.
  pub record Keeps (length_taken : ℕ) (p : Point) : Type 0 where
    pub sp : p.machine.regs.x 2 ≡ low
    pub ra : load_bytes p.machine.control (low + ra_offset (frame_of f.values)) 8 ≡ read s.regs Ra
    pub saved : (k : ℕ) → k < 11 → uses places k ≡ true → load_bytes p.machine.control (low + save_offset (frame_of f.values) k) 8 ≡ s.regs.x (saved_number k)
    pub others : (k : ℕ) → k < 11 → uses places k ≡ false → p.machine.regs.x (saved_number k) ≡ s.regs.x (saved_number k)
    pub data_top : p.machine.regs.x 27 ≡ data_base + length_taken
    pub kept : KeepsControl s a.sp p.machine
    pub counted : p.counted ≡ a.symbol ∷ []
    pub bytes : IsBytes p.machine.bytes

  -- each register that is read from a place of a block on before it is written has, where it stands, a number that refines its bits
  abbrev pub HoldsRead : ℕ → ℕ → State → Point → Type 0
  HoldsRead block place now p = (r : ℕ) → ReadFrom f r block place → IsHeld (now.regs r) (number_at low p.machine (place_of places r))

  -- the arguments that are still to be read stand in a0 to a7
  abbrev pub HoldsArguments : State → Point → Type 0
  HoldsArguments now p = (d n : ℕ) → n < 8 → Contains now.rest (Param d n) → IsHeld (slice_index_or now.args n free) (p.machine.regs.x (10 + n))

  -- data memory is as long as at the entry, and as much longer as was taken since: all that the first block takes, less what it has yet to take
  abbrev pub IsLong : State → Type 0
  IsLong now = (now.base_length ≡ length a.memory) × (length now.memory + taken_in now.rest ≡ now.base_length + taken f)

  pub record Stands (now : State) (p : Point) : Type 0 where
    pub place : ℕ
    pub rests : drop place (block_of f now.block) ≡ now.rest
    pub held : HoldsRead now.block place now p
    pub arguments : HoldsArguments now p
    pub keeps : Keeps (length now.memory) p
    pub long : IsLong now
    pub room : top now.memory ≤ data_end m
    pub memory' : RefinesMemory now.memory p.machine.bytes

  -- the code for what is left of the block stands at the program counter, with the later blocks behind it
  pub record Here (words : Words) (labels : ℕ → ℕ) (now : State) (p : Point) : Type 0 where
    pub stands : Stands now p
    pub even : p.machine.regs.pc % 4 ≡ 0
    pub code : StandsAs m words labels p.machine.regs.pc (insts_items f places now.block now.rest ++ blocks_items f places (now.block + 1) (drop (now.block + 1) f.blocks))

-- how many instructions are left in the order of blocks: where an instruction needs no word it falls
abbrev pub left : MFunction → State → ℕ
left f now = length now.rest + sum_by (λ insts. length insts) (drop (now.block + 1) f.blocks)
