-- The words of a function, and where its blocks and labels stand.
use Rattle.std.specs.Prelude.{Bool, true, not, [], ◌∷◌, ◌≡◌, ℕ, ◌+◌, ◌<◌, ◌≤◌, slice_get, List, length, Option, Some, None, if◌then◌else◌}
use Rattle.ir_core.specs.declared.program.Function.{Function}
use Rattle.ir_core.specs.declared.program.Global.{Global}
use Rattle.ir_core.specs.declared.code.Inst.{Inst}
use Rattle.ir_core.specs.Units.{has_result}
use Rattle.ir_flow.specs.Code.{is_phi}
use Rattle.rv_asm.specs.Code.{Code}
use Rattle.rv_asm.specs.Layout.{IsAssembly}
use Rattle.ir_flow.specs.Limits.{op_limit}
use Rattle.ir_meaning.specs.Step.{Program, function_at, insts_at, number_at}
use Rattle.quick_code.specs.Blocks.{block_label, label_count}
use Rattle.quick_code.specs.Assembly.{code_of}
use Rattle.fast_isel.specs.declared.starts.Start.{Start}

-- the words of a function's quick code
abbrev pub AreWordsOf : List Global → ℕ → ℕ → List ℕ → Option Function → Type 0
AreWordsOf globals room symbol words None = ⊥
AreWordsOf globals room symbol words (Some function) = IsAssembly (code_of globals symbol function room) words

-- the same of a program's function
abbrev pub AreQuickWords : Program → ℕ → List ℕ → Type 0
AreQuickWords program symbol words = AreWordsOf program.module_.globals program.room symbol words (function_at program symbol)

-- the types that a function's instructions name keep their limits
abbrev pub AreLimited : Function → Type 0
AreLimited function = (block place : ℕ) (inst : Inst) → slice_get (insts_at function block) place ≡ Some inst → op_limit inst.op ≡ None

-- the number of the first value and the label of each block, and behind the last; there are few labels
abbrev pub AreStarts : Function → List Start → Type 0
AreStarts function starts =
    (length function.blocks + 1 ≤ length starts)
    × ((block : ℕ) → block ≤ length function.blocks → slice_get starts block ≡ Some (record { value = number_at function block 0; label = block_label function block }))
    × (label_count function ≤ 32768)

-- how many values an instruction gives
abbrev pub given_by : Inst → ℕ
given_by inst = if has_result inst then 1 else 0

-- a function's labels from one on stand nowhere yet
abbrev pub AreFree : Function → ℕ → Code → Type 0
AreFree function low code = (label : ℕ) → low ≤ label → label < label_count function → slice_get code.bound label ≡ Some None

-- whether instructions begin with none that is a phi
abbrev pub begins_plainly : List Inst → Bool
begins_plainly [] = true
begins_plainly (inst ∷ insts) = not (is_phi inst.op)
