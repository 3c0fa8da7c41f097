-- What the reader of a line answers.
use Rattle.std.specs.Prelude.{◌≡◌, ℕ, Option, Some, None, Result, Ok, Err}
use Rattle.ir_meaning.specs.declared.calls.ListedCall.{ListedCall}
use Rattle.jit_calls.specs.declared.line.LineFault.{LineFault}
use Rattle.jit_calls.specs.declared.line.LineFault.TheVariants as faults
use Rattle.jit_calls.specs.Form.{Next, more, stop}
use Rattle.jit_calls.specs.Line.{Argument}

abbrev pub argument_of : Option Argument → Next Argument (Unit {0})
argument_of None = stop tt
argument_of (Some one) = more one

-- a fault, but for want of memory, is that of the line
abbrev pub Faults : LineFault → Result ListedCall LineFault → Type 0
Faults faults.NoMemory said = Unit {0}
Faults faults.Syntax said = said ≡ Err faults.Syntax
Faults faults.NoSuchFunction said = said ≡ Err faults.NoSuchFunction
Faults faults.Shape said = said ≡ Err faults.Shape

-- what was answered to a line is what it says
abbrev pub Finds : Result ListedCall LineFault → Result ListedCall LineFault → Type 0
Finds (Ok call) said = said ≡ Ok call
Finds (Err fault) said = Faults fault said
