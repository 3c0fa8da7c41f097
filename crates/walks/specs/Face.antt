-- What is seen of a function of any kind of code, and when one refines another.
use Rattle.std.specs.Prelude.{◌≡◌, ℕ, ◌+◌, ◌*◌, ◌≤◌, List}
use Rattle.ir_core.specs.Program.{Program}
use Rattle.ir_core.specs.declared.program.Function.{Function}
use Rattle.ir_core.specs.Units.{units_of_function, values as value_count}
use Rattle.ir_meaning.specs.Memory.{data_start}
use Rattle.ir_meaning.specs.Meaning.{phi_operands_of}
use Rattle.walks.specs.Walk.{Reply, Entry, End, Walk, Play, play_of}
use Rattle.walks.specs.Refines.{RefinesPlay}
use Rattle.walks.specs.Functions.{function_walk}

-- the bytes of the frame of a function with so many values
abbrev pub frame_of : ℕ → ℕ
frame_of n = 128 + 32 * n

-- a function: its number in the module, how many values its frame is for, the address at which data memory ends, its static weight,
-- and its walk
pub record Face : Type 1 where
  pub symbol : ℕ
  pub values : ℕ
  pub end : ℕ
  pub static : ℕ
  pub walk : Walk

-- the second refines the first
pub record RefinesFace (f g : Face) : Type 0 where
  pub symbol : g.symbol ≡ f.symbol
  pub values : g.values ≡ f.values
  pub end' : g.end ≡ f.end
  pub static : g.static ≤ f.static
  pub play : RefinesPlay f.end (play_of f.walk) (play_of g.walk)

-- a function of a module: a unit weighs 256, and its static weight is that of its units and of the operands of its phis
abbrev pub function_face : Program → ℕ → Function → Face
function_face program symbol function = record {
  symbol = symbol;
  values = value_count function;
  end = data_start + program.room;
  static = 256 * (units_of_function function + phi_operands_of function);
  walk = function_walk program symbol;
}

-- from one entry, with the same replies, the play comes to one end, with one weight and one number of jumps
abbrev pub HasOneEnd : Play → Type 0
HasOneEnd play = (entry : Entry) (rs : List Reply) (e e' : End) (w w' j j' : ℕ) → play entry rs e w j → play entry rs e' w' j'
    → (e' ≡ e) × (w' ≡ w) × (j' ≡ j)
