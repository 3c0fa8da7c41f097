-- When a run has all that it needs, and when something is wrong with what its files have.
use Rattle.std.specs.Prelude.{◌≡◌, ℕ, ◌≤◌, ◌<◌, ◌⊎◌, List, take, Option, Some, Ok}
use Rattle.rj_io.specs.Faults.{Rose}
use Rattle.ir_core.specs.Program.{Program}
use Rattle.ir_meaning.specs.declared.calls.ListedCall.{ListedCall}
use Rattle.jit_calls.specs.Lists.{calls_of}
use Rattle.command_words.specs.Commands.{Line, run, big, eval, sim, dump, command_of}
use Rattle.jit_text.specs.ManyCallsTexts as many
use Rattle.fast_isel.specs.Modules.{Needs}
use Rattle.jit_main.specs.Dumps.{dump_room}
use Rattle.jit_main.specs.Ends.{Sinks}
use Rattle.jit_main.specs.Run.{IsCheckedText, HasImage}

-- the source tells the file, and these bytes of it are loaded
abbrev pub IsLoaded : Option (List ℕ) → List ℕ → Type 0
IsLoaded told text = (file : List ℕ) × (told ≡ Some file) × (text ≡ take 4194305 file)

-- both files are told, and such are the bytes that are loaded of them
abbrev pub OfLoaded : (List ℕ → Option (List ℕ)) → List ℕ → List ℕ → (List ℕ → List ℕ → Type 0) → Type 0
OfLoaded told module_name calls_name P =
    (module_text calls_text : List ℕ) × IsLoaded (told module_name) module_text × IsLoaded (told calls_name) calls_text × P module_text calls_text

-- the texts are those of a module that passes and whose globals fit the data memory, and of its list of calls
pub record AreRead (module_text calls_text : List ℕ) (room : ℕ) (program : Program) (list : List ListedCall) : Type 0 where
  pub is_module : IsCheckedText module_text room program
  pub image : HasImage program
  pub is_calls : calls_of program.module_ calls_text ≡ Ok list

-- the same, and the quick code takes so many code words
abbrev pub TakeWords : List ℕ → List ℕ → ℕ → (ℕ → Type 0) → Type 0
TakeWords module_text calls_text room P =
    (program : Program) × (list : List ListedCall) × (words : ℕ) × AreRead module_text calls_text room program list × Needs program words × P words

-- the texts are such of some program
abbrev pub AreSome : List ℕ → List ℕ → ℕ → Type 0
AreSome module_text calls_text room = (program : Program) × (list : List ListedCall) × AreRead module_text calls_text room program list

-- a command has all that it needs: what its files have reads, passes and fits, and so does the quick code that it runs
abbrev pub HasAll : Line → (List ℕ → Option (List ℕ)) → Type 0
HasAll (run module_name calls_name options) told =
    OfLoaded told module_name calls_name (λ m c. TakeWords m c options.room (λ words. words ≤ options.code_words))
HasAll (big calls options) told = TakeWords many.module_text (many.calls_text calls) options.room (λ words. words ≤ options.code_words)
HasAll (eval module_name calls_name room) told = OfLoaded told module_name calls_name (λ m c. AreSome m c room)
HasAll (sim module_name calls_name options) told =
    OfLoaded told module_name calls_name (λ m c. TakeWords m c options.room (λ words. words ≤ options.code_words))
HasAll (dump module_name level) told =
    (module_text : List ℕ) × IsLoaded (told module_name) module_text × ((program : Program) × IsCheckedText module_text dump_room program)

-- it has all but enough code words for the quick code that it runs
abbrev pub HasNoRoom : Line → (List ℕ → Option (List ℕ)) → Type 0
HasNoRoom (run module_name calls_name options) told =
    OfLoaded told module_name calls_name (λ m c. TakeWords m c options.room (λ words. options.code_words < words))
HasNoRoom (big calls options) told = TakeWords many.module_text (many.calls_text calls) options.room (λ words. options.code_words < words)
HasNoRoom (eval module_name calls_name room) told = ⊥
HasNoRoom (sim module_name calls_name options) told =
    OfLoaded told module_name calls_name (λ m c. TakeWords m c options.room (λ words. options.code_words < words))
HasNoRoom (dump module_name level) told = ⊥

-- what the files have is no module that passes and fits, with a list of its calls
abbrev pub IsRefused : Line → (List ℕ → Option (List ℕ)) → Type 0
IsRefused (run module_name calls_name options) told = OfLoaded told module_name calls_name (λ m c. AreSome m c options.room → ⊥)
IsRefused (big calls options) told = AreSome many.module_text (many.calls_text calls) options.room → ⊥
IsRefused (eval module_name calls_name room) told = OfLoaded told module_name calls_name (λ m c. AreSome m c room → ⊥)
IsRefused (sim module_name calls_name options) told = OfLoaded told module_name calls_name (λ m c. AreSome m c options.room → ⊥)
IsRefused (dump module_name level) told =
    (module_text : List ℕ) × IsLoaded (told module_name) module_text × (((program : Program) × IsCheckedText module_text dump_room program) → ⊥)

-- What a status must be, where no fault of the files was counted, and none of `out`: 0 or 1 where the command has all that it needs, 7
-- where its quick code doesn't fit, 2 where its texts are refused; or 6, for want of memory.
pub record Must (words : List (List ℕ)) (told : List ℕ → Option (List ℕ)) (before now : ℕ) (sinks : Sinks) (status : ℕ) : Type 0 where
  pub complete : (line : Line) → command_of words ≡ Some line → HasAll line told → (Rose before now → ⊥) → (Rose sinks.out_before sinks.out_now → ⊥)
      → (status ≡ 0) ⊎ (status ≡ 1) ⊎ (status ≡ 6)
  pub crowded : (line : Line) → command_of words ≡ Some line → HasNoRoom line told → (Rose before now → ⊥) → (status ≡ 7) ⊎ (status ≡ 6)
  pub refused : (line : Line) → command_of words ≡ Some line → IsRefused line told → (Rose before now → ⊥) → (status ≡ 2) ⊎ (status ≡ 6)
