-- The code of a function of target code as the assembler holds it.
use Rattle.std.specs.Prelude.{◌≡◌, ℕ, ◌≤◌, List, length}
use Rattle.rv_asm.specs.Code.{Code}
use Rattle.rv_asm.specs.Layout.{IsAssembly}
use Rattle.code_pieces.specs.Assembly.{put, labelled}
use Rattle.mir.specs.declared.code.MFunction.{MFunction}
use Rattle.mir.specs.declared.places.Places.{Places}
use Rattle.frame_code.specs.Code.{function_items}

-- a label for each block
abbrev pub code_of : MFunction → Places → Code
code_of f places = put (labelled (length f.blocks)) (function_items f places)

-- the words are the function's code with its registers at these places
abbrev pub IsLaidOut : MFunction → Places → List ℕ → Type 0
IsLaidOut f places words = IsAssembly (code_of f places) words
