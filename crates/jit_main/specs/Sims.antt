-- The answers of a list of calls over drawn events.
use Rattle.std.specs.Prelude.{◌≡◌, ℕ, ◌≤◌, Bool, List, ◌++◌, codes, decimal, Ok}
use Rattle.ir_core.specs.Program.{Program}
use Rattle.ir_meaning.specs.declared.calls.ListedCall.{ListedCall}
use Rattle.rv_play.specs.declared.version.Version.{Version}
use Rattle.ir_data.specs.declared.image.Image.{Image as First}
use Rattle.command_words.specs.declared.line.SimOptions.{SimOptions}
use Rattle.jit_core.specs.declared.run.Plan.{Plan}
use Rattle.jit_core.specs.declared.run.Report.{Report}
use Rattle.jit_core.specs.Ran.{Ran as RanOverEvents}
use Rattle.jit_calls.specs.Lists.{calls_of}
use Rattle.jit_calls.specs.Answers.{answer_lines, any_unanswered}
use Rattle.jit_session.specs.Runs.{AllRight}
use Rattle.fast_isel.specs.Modules.{AreQuick, words_needed}
use Rattle.jit_main.specs.Run.{IsCheckedText, IsImageFor}
use Rattle.jit_main.specs.Images.{hart_image}

abbrev pub plan_of : SimOptions → Plan
plan_of options = record { draw = options.draw; steps = options.steps; harts = options.harts; code_words = options.code_words }

abbrev pub versions_line : ℕ → List ℕ
versions_line versions = codes "versions " ++ decimal versions ++ codes "\n"

-- the quick code of a module fits, and a run over the drawn events led to this report, whose answers to these calls are right
pub record RanDrawn (program : Program) (list : List ListedCall) (options : SimOptions) (report : Report) : Type 0 where
  pub image : First
  pub versions : List Version
  pub has_image : IsImageFor program image
  pub quick : AreQuick program versions
  pub fits : words_needed versions ≤ options.code_words
  pub ran : RanOverEvents program (hart_image image) list versions (plan_of options) report
  pub right : AllRight program list report.answers.items

-- the texts are those of a module and its list of calls, and the text has a line with the right answer to each call, and the
-- number of versions in the last line
pub record Simulated (module_text calls_text : List ℕ) (options : SimOptions) (text : List ℕ) (unanswered : Bool) : Type 0 where
  pub program : Program
  pub list : List ListedCall
  pub report : Report
  pub is_module : IsCheckedText module_text options.room program
  pub is_calls : calls_of program.module_ calls_text ≡ Ok list
  pub ran : RanDrawn program list options report
  pub lines : text ≡ answer_lines program.module_.functions list report.answers.items ++ versions_line report.versions
  pub status : unanswered ≡ any_unanswered report.answers.items
