-- A run of the calls of a module: what it writes, and why there is none.
use Rattle.std.specs.Prelude.{◌≡◌, ℕ, ◌+◌, ◌-◌, ◌^◌, ◌<◌, ◌≤◌, min, Bool, false, List, [], ◌++◌, length, Ok, Err, if◌then◌else◌}
use Rattle.ir_core.specs.declared.program.Module.{Module}
use Rattle.ir_core.specs.Program.{Program}
use Rattle.ir_reader.specs.Reads.{Reads, Refuses as ShowsFault, IsMemoryRefusal}
use Rattle.ir_reader.specs.declared.reading.ReadRefusal.{ReadRefusal}
use Rattle.ir_verify.specs.Verdict.{Passes, Refuses}
use Rattle.ir_verify.specs.declared.refusal.VerifyRefusal.{VerifyRefusal}
use Rattle.ir_verify.specs.declared.refusal.VerifyRefusal.TheVariants as rows
use Rattle.ir_meaning.specs.declared.calls.ListedCall.{ListedCall}
use Rattle.rv_play.specs.declared.version.Version.{Version}
use Rattle.ir_meaning.specs.Memory.{data_start}
use Rattle.fast_isel.specs.Modules.{AreQuick, Needs, words_needed}
use Rattle.jit_main.specs.declared.stop.Stop.{Stop}
use Rattle.jit_main.specs.declared.stop.Stop.TheVariants.{NoRoom, NoMemory}
use Rattle.ir_data.specs.declared.image.Image.{Image}
use Rattle.ir_data.specs.declared.image.ImageRefusal.TheVariants.{TooBig as TooBigFor}
use Rattle.ir_data.specs.Image.{IsFirstImage}
use Rattle.ir_data.specs.Refusals.{Refuses as HasNoImage}
use Rattle.jit_calls.specs.declared.lists.CallsRefusal.{CallsRefusal}
use Rattle.jit_calls.specs.declared.lists.CallsRefusal.TheVariants as lists
use Rattle.jit_calls.specs.Lists.{calls_of}
use Rattle.jit_calls.specs.Answers.{any_unanswered}
use Rattle.jit_calls.specs.Reports.{report_lines, rows_text}
use Rattle.session_types.specs.declared.settled.Settled.{Settled}
use Rattle.jit_session.specs.Sessions.{IsSettled}
use Rattle.command_words.specs.declared.line.RunOptions.{RunOptions}
use Rattle.jit_text.specs.ManyCallsTexts as many
use Rattle.jit_text.specs.Counts.{counts_line}

-- the text is that of a module that passes each row of the verifier, with so many bytes of data memory
pub record IsCheckedText (text : List ℕ) (room : ℕ) (program : Program) : Type 0 where
  pub reads : Reads text program.module_
  pub passes : Passes program.module_
  pub size : program.room ≡ room

-- the image of the globals, which stands within the data memory
abbrev pub IsImageFor : Program → Image → Type 0
IsImageFor program image = IsFirstImage program.module_.globals image × (image.top ≤ data_start + program.room)

abbrev pub HasImage : Program → Type 0
HasImage program = (image : Image) × IsImageFor program image

-- no job of the quick compiler is refused as crowded
abbrev pub never : ℕ → ℕ → Bool
never symbol level = false

-- the quick code of a module fits the code words, and a session of its harts, whose policy has these marks, came to this over it: each
-- answer is right
pub record HasSettled (marks : List ℕ) (program : Program) (list : List ListedCall) (options : RunOptions) (settled : Settled) : Type 0 where
  pub versions : List Version
  pub quick : AreQuick program versions
  pub fits : words_needed versions ≤ options.code_words
  pub comes : IsSettled program list options.harts (length program.module_.functions) options.code_words marks never settled

-- the texts are those of a module and its list of calls, and a session of these calls came to this
pub record HasRun (marks : List ℕ) (module_text calls_text : List ℕ) (options : RunOptions) (program : Program) (list : List ListedCall) (settled : Settled) : Type 0 where
  pub is_module : IsCheckedText module_text options.room program
  pub image : HasImage program
  pub is_calls : calls_of program.module_ calls_text ≡ Ok list
  pub session : HasSettled marks program list options settled

-- the text has a line with the right answer to each call, and the rows behind them where they are asked for
pub record Ran (marks : List ℕ) (module_text calls_text : List ℕ) (options : RunOptions) (text : List ℕ) (unanswered : Bool) : Type 0 where
  pub program : Program
  pub list : List ListedCall
  pub settled : Settled
  pub has_run : HasRun marks module_text calls_text options program list settled
  pub lines : text ≡ report_lines program.module_.functions list settled options.report
  pub status : unanswered ≡ any_unanswered settled.answers

-- the text is the line of the counts of right answers to so many calls of the module of many calls, and the rows behind it where they
-- are asked for
pub record Counted (marks : List ℕ) (calls : ℕ) (options : RunOptions) (text : List ℕ) (unanswered : Bool) : Type 0 where
  pub program : Program
  pub list : List ListedCall
  pub settled : Settled
  pub has_run : HasRun marks many.module_text (many.calls_text calls) options program list settled
  pub line : text ≡ counts_line settled.answers ++ (if options.report then rows_text program.module_.functions settled else [])
  pub status : unanswered ≡ any_unanswered settled.answers

-- no module reads of the text, and the refusal shows its cause
pub record NoModule (text : List ℕ) (refusal : ReadRefusal) : Type 0 where
  pub fault : IsMemoryRefusal refusal → ⊥
  pub shown : ShowsFault text refusal

-- a refusal but for want of memory
abbrev pub IsRow : VerifyRefusal → Type 0
IsRow rows.NoMemory = ⊥
IsRow row = Unit {0}

-- the text is that of a module, and this is the first row that it doesn't pass
pub record NoPass (text : List ℕ) (module_ : Module) (refusal : VerifyRefusal) : Type 0 where
  pub reads : Reads text module_
  pub row : IsRow refusal
  pub refused : Refuses module_ refusal

-- the module passes, and its globals take more bytes than the data memory has
pub record NoImage (module_text : List ℕ) (room bytes size : ℕ) : Type 0 where
  pub program : Program
  pub is_module : IsCheckedText module_text room program
  pub refused : HasNoImage program (TooBigFor bytes size)

-- a refusal of a list of calls but for want of memory
abbrev pub IsListFault : CallsRefusal → Type 0
IsListFault lists.NoMemory = ⊥
IsListFault refusal = Unit {0}

-- the module has its image, and this is why the list of calls is none of its
pub record NoCalls (module_text calls_text : List ℕ) (room : ℕ) (refusal : CallsRefusal) : Type 0 where
  pub program : Program
  pub is_module : IsCheckedText module_text room program
  pub image : HasImage program
  pub fault : IsListFault refusal
  pub refused : calls_of program.module_ calls_text ≡ Err refusal

-- the quick code of a module takes more words than there are
pub record NoWords (program : Program) (code_words needed : ℕ) : Type 0 where
  pub words : ℕ
  pub needs : Needs program words
  pub more : code_words < words
  pub number : needed ≡ min words (2 ^ 64 - 1)

-- the module and its calls are such, and its quick code takes more words than there are
pub record NoCode (module_text calls_text : List ℕ) (room code_words needed : ℕ) : Type 0 where
  pub program : Program
  pub list : List ListedCall
  pub is_module : IsCheckedText module_text room program
  pub image : HasImage program
  pub is_calls : calls_of program.module_ calls_text ≡ Ok list
  pub words : NoWords program code_words needed

-- why a module has no answers over so many code words
abbrev pub QuickStop : Program → ℕ → Stop → Type 0
QuickStop program code_words (NoRoom needed had) = (had ≡ code_words) × NoWords program code_words needed
QuickStop program code_words NoMemory = Unit {0}
QuickStop program code_words _ = ⊥
