-- What the evaluation of a list of calls prints.
use Rattle.std.specs.Prelude.{◌≡◌, ℕ, Bool, List, map, Ok}
use Rattle.ir_core.specs.Program.{Program}
use Rattle.ir_meaning.specs.declared.calls.ListedCall.{ListedCall}
use Rattle.ir_meaning.specs.declared.calls.Outcome.{Outcome}
use Rattle.ir_meaning.specs.Eval.{eval_call}
use Rattle.jit_calls.specs.Lists.{calls_of}
use Rattle.jit_calls.specs.Answers.{outcome_lines, any_no_answer}
use Rattle.jit_main.specs.Run.{IsCheckedText, HasImage}

-- how the evaluation of a call from the module's image ends within its turns
abbrev pub outcome_of_call : Program → ListedCall → Outcome
outcome_of_call program call = (eval_call program call call.turns).outcome

abbrev pub outcomes : Program → List ListedCall → List Outcome
outcomes program list = map (outcome_of_call program) list

-- the texts are those of a module and its list of calls, and the text has a line with the outcome of each call
pub record Evaluated (module_text calls_text : List ℕ) (room : ℕ) (text : List ℕ) (unanswered : Bool) : Type 0 where
  pub program : Program
  pub list : List ListedCall
  pub is_module : IsCheckedText module_text room program
  pub image : HasImage program
  pub is_calls : calls_of program.module_ calls_text ≡ Ok list
  pub lines : text ≡ outcome_lines program.module_.functions list (outcomes program list)
  pub status : unanswered ≡ any_no_answer (outcomes program list)
