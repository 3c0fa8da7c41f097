-- The files that commands name.
use Rattle.std.specs.Prelude.{◌≡◌, ℕ, Bool, true, false, ◌⊎◌, List, take, Option, Some, None, IfSome}
use Rattle.command_words.specs.Commands.{Line, run, big, eval, sim, dump}

-- whether a command is `run` or `big`
abbrev pub is_run : Option Line → Bool
is_run (Some (run module_name calls_name options)) = true
is_run (Some (big calls options)) = true
is_run (Some (eval module_name calls_name room)) = false
is_run (Some (sim module_name calls_name options)) = false
is_run (Some (dump module_name level)) = false
is_run None = false

-- what is loaded, where the source tells the file: its first bytes
abbrev pub IsText : Option (List ℕ) → List ℕ → Type 0
IsText told text = IfSome told (λ file. text ≡ take 4194305 file)

-- these are the texts of the two files of these names, where the files are told
pub record AreTexts (told : List ℕ → Option (List ℕ)) (module_name calls_name module_text calls_text : List ℕ) : Type 0 where
  pub module_loaded : IsText (told module_name) module_text
  pub calls_loaded : IsText (told calls_name) calls_text

-- a file of this name is one that a command names
abbrev pub IsNamed : Line → List ℕ → Type 0
IsNamed (run module_name calls_name options) name = (name ≡ module_name) ⊎ (name ≡ calls_name)
IsNamed (big calls options) name = ⊥
IsNamed (eval module_name calls_name room) name = (name ≡ module_name) ⊎ (name ≡ calls_name)
IsNamed (sim module_name calls_name options) name = (name ≡ module_name) ⊎ (name ≡ calls_name)
IsNamed (dump module_name level) name = name ≡ module_name
