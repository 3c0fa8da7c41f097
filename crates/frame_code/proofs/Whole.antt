-- Words of a function that is compiled from one of a typed module are a good version of that.
use Rattle.std.proofs.Common.{◌≡◌, refl, sym, ap, subst, ◌∙◌, ℕ, ◌+◌, ◌*◌, ◌^◌, ◌≤◌, List, length, Option, Some, None, arith}
use Rattle.std.proofs.lemmas.Option.{slice_get_within}
use Rattle.ir_core.specs.Program.{Program}
use Rattle.ir_core.specs.declared.program.Function.{Function}
use Rattle.ir_core.specs.Units.{frame, values as value_count}
use Rattle.ir_meaning.specs.Step.{function_at}
use Rattle.ir_meaning.specs.Meaning.{meaning, of_function}
use Rattle.ir_meaning.specs.Typed.{IsTyped}
use Rattle.walks.specs.Face.{frame_of}
use Rattle.mir.specs.declared.code.MFunction.{MFunction}
use Rattle.mir.specs.declared.places.Places.{Places}
use Rattle.mir_play.specs.Refines.{IsCompiled}
use Rattle.good_code.proofs.Compiled.{compiled_is_good}
use Rattle.good_code.proofs.Narrow.{typed_is_narrow}
use Rattle.frame_code.specs.Laws.{CanLayOut, IsOf, LaidOutIsGood}
use Rattle.frame_code.proofs.Labelled.{laid-out-stands}
use Rattle.frame_code.proofs.Few.{few-words}
use Rattle.frame_code.proofs.Runs.{code-runs}

-- a compiled function is one of the module's, with its frame and its data memory
is-of : (program : Program) (function : Function) (f : MFunction) → function_at program f.symbol ≡ Some function → IsCompiled program f.symbol f → IsOf (meaning program) f
is-of program function f at (other, there, refines) =
    let values = refines.values in
    record {
      exists = slice_get_within program.module_.functions f.symbol function at;
      frame = ap (of_function 0 frame) there ∙ ap frame_of (sym values);
      end' = refines.end';
    }

pub laid-out-is-good : LaidOutIsGood
laid-out-is-good program function f places words typed at few compiled can laid runs =
    compiled_is_good program f.symbol words f typed (typed_is_narrow program f.symbol function typed at few) compiled
    (code-runs (meaning program) f places words typed.functions typed.room (is-of program function f at compiled) can (laid-out-stands (meaning program) f places words typed.functions runs))
    (few-words f places words laid)
