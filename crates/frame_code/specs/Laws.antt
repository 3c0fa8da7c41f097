-- What holds of words that are the code of a function of target code.
use Rattle.std.specs.Prelude.{◌≡◌, ℕ, ◌+◌, ◌*◌, ◌%◌, ◌<◌, ◌≤◌, ◌^◌, List, ◌∷◌, ◌++◌, length, drop, Some}
use Rattle.ir_core.specs.Program.{Program}
use Rattle.ir_core.specs.declared.program.Function.{Function}
use Rattle.ir_meaning.specs.Step.{function_at}
use Rattle.ir_meaning.specs.Meaning.{meaning}
use Rattle.ir_meaning.specs.Typed.{IsTyped}
use Rattle.ir_meaning.specs.Plays.{Meaning, Invocation}
use Rattle.ir_meaning.specs.Ranges.{IsInvocation}
use Rattle.rv_play.specs.Machine.{Machine, data_end, control_base, control_end, code_base, code_limit}
use Rattle.rv_play.specs.CodePlay.{Place as Words, Point, CodeReply, code_run, place_of as words_at}
use Rattle.rv_play.specs.Good.{Good, IsBase, Enters}
use Rattle.walks.specs.Walk.{Goes}
use Rattle.mir.specs.declared.code.MInst.{MInst}
use Rattle.mir.specs.declared.code.MInst.TheVariants.{Param, Op, Imm, Const, Move, Branch, Jump}
use Rattle.mir.specs.Code.{block_of}
use Rattle.rv_asm.specs.Runs.{RunsAs as AssemblyRuns}
use Rattle.walks.specs.Walk.{play_of}
use Rattle.walks.specs.Face.{frame_of}
use Rattle.mir.specs.declared.code.MFunction.{MFunction}
use Rattle.mir.specs.declared.places.Intervals.{Intervals}
use Rattle.mir.specs.declared.places.Places.{Places}
use Rattle.mir.specs.WellFormed.{IsWellFormed, HasNoPhi}
use Rattle.mir.specs.Live.{Covers}
use Rattle.mir.specs.Places.{Fits}
use Rattle.mir_play.specs.Play.{State, step, walk}
use Rattle.mir_play.specs.Refines.{static_weight, IsCompiled}
use Rattle.code_pieces.specs.Labels.{StandsAs, StandEverywhere}
use Rattle.good_code.specs.Runs.{RunsAs}
use Rattle.frame_code.specs.Frame.{slots_of}
use Rattle.frame_code.specs.Code.{insts_items, blocks_items, function_items}
use Rattle.frame_code.specs.Stands.{Here}
use Rattle.frame_code.specs.Assembly.{code_of, IsLaidOut}

-- the words are no more than the function's static weight
abbrev pub FewWords : Type 0
FewWords = (f : MFunction) (places : Places) (words : List ℕ) → IsLaidOut f places words → length words ≤ static_weight f

-- words that the assembler made of the code, and that run as it does, stand as the function's code wherever they stand
abbrev pub LaidOutStands : Type 0
LaidOutStands =
    (m : Meaning) (f : MFunction) (places : Places) (words : List ℕ) → m.functions ≤ 1024 → (length words ≤ 2 ^ 22 → AssemblyRuns (code_of f places) words)
    → StandEverywhere m words (function_items f places)

-- the function may be laid out with these places: it has no phi, and the places fit spans that cover it
pub record CanLayOut (f : MFunction) (places : Places) : Type 0 where
  pub formed : IsWellFormed f
  pub without_phi : HasNoPhi f
  pub intervals : Intervals
  pub covers : Covers f intervals
  pub fits : Fits intervals (slots_of f.values) places
  pub small : frame_of f.values ≤ 2 ^ 20

-- Words stand as the function's code, entered with the machine s where the frame fits on the control stack; each block stands at its label, with the later blocks behind it.
pub record StandsLaidOut (m : Meaning) (f : MFunction) (places : Places) (a : Invocation) (s : Machine) (words : Words) (labels : ℕ → ℕ) : Type 0 where
  pub functions : m.functions ≤ 1024
  pub room : m.room ≤ 67108864
  pub wide : control_base + frame_of f.values ≤ a.sp
  pub high : a.sp ≤ control_end
  pub low_base : code_base + 4 ≤ words.base
  pub high_base : words.base + 4 * length words.words ≤ code_limit
  pub entering : words.sp ≡ a.sp
  pub aligned : (label : ℕ) → labels label % 4 ≡ 0
  pub placed : (t : ℕ) → t < length f.blocks → StandsAs m words labels (labels t) (insts_items f places t (block_of f t) ++ blocks_items f places (t + 1) (drop (t + 1) f.blocks))

-- at most so many steps of the words lead from a point to a point
pub record Reaches (m : Meaning) (words : Words) (most : ℕ) (p q : Point) : Type 0 where
  pub count : ℕ
  pub few : count ≤ most
  pub run : (n : ℕ) (replies : List CodeReply) → code_run m words (count + n) p replies ≡ code_run m words n q replies

-- an instruction that makes a register of registers and numbers, or goes to a block
abbrev pub IsSimple : MInst → Type 0
IsSimple (Param d n) = n < 8
IsSimple (Op op d a b) = Unit {0}
IsSimple (Imm op d a n) = Unit {0}
IsSimple (Const d n) = Unit {0}
IsSimple (Move d a) = Unit {0}
IsSimple (Branch op a b t e) = Unit {0}
IsSimple (Jump t) = Unit {0}
IsSimple _ = ⊥

-- where such an instruction goes on, words that stand for the state go on, within its weight, to where they stand for the next
abbrev pub SimpleStepsRun : Type 0
SimpleStepsRun =
    (m : Meaning) (f : MFunction) (places : Places) (a : Invocation) (s : Machine) (words : Words) (labels : ℕ → ℕ) (now next : State) (p : Point) (inst : MInst) (rest : List MInst)
    → CanLayOut f places → StandsLaidOut m f places a s words labels → Here m f places a s words labels now p → now.rest ≡ inst ∷ rest → IsSimple inst → (step f now).does ≡ Goes next
    → (q : Point) × Reaches m words (step f now).weight p q × Here m f places a s words labels next q

-- words that stand as the function's code stand so from each entry where the frame fits
abbrev pub CodeStandsLaidOut : Type 0
CodeStandsLaidOut =
    (m : Meaning) (f : MFunction) (places : Places) (a : Invocation) (s : Machine) (base : ℕ) (code : List ℕ)
    → m.functions ≤ 1024 → m.room ≤ 67108864 → control_base + frame_of f.values ≤ a.sp → IsInvocation m a → IsBase code base → Enters m a s → StandEverywhere m code (function_items f places)
    → (labels : ℕ → ℕ) × StandsLaidOut m f places a s (words_at code base s) labels

-- it is a function of the meaning, by its symbol, its frame and the end of data memory
pub record IsOf (m : Meaning) (f : MFunction) : Type 0 where
  pub exists : f.symbol < m.functions
  pub frame : m.frame f.symbol ≡ frame_of f.values
  pub end' : f.end ≡ data_end m

-- words that stand as the function's code run as the function does
abbrev pub CodeRuns : Type 0
CodeRuns =
    (m : Meaning) (f : MFunction) (places : Places) (words : List ℕ) → m.functions ≤ 1024 → m.room ≤ 67108864 → IsOf m f → CanLayOut f places
    → StandEverywhere m words (function_items f places) → RunsAs m f.symbol words (play_of (walk f))

-- Words that the assembler made of the code, and that run as it does, are a good version of the function of a typed module with at most eight parameters that it is compiled from.
abbrev pub LaidOutIsGood : Type 0
LaidOutIsGood =
    (program : Program) (function : Function) (f : MFunction) (places : Places) (words : List ℕ)
    → IsTyped program → function_at program f.symbol ≡ Some function → length function.params ≤ 8 → IsCompiled program f.symbol f
    → CanLayOut f places → IsLaidOut f places words → (length words ≤ 2 ^ 22 → AssemblyRuns (code_of f places) words)
    → Good (meaning program) f.symbol words
