-- What is read is printed so that it reads back.
use Rattle.std.specs.Prelude.{◌≡◌, ℕ, ◌≤◌, List, length}
use Rattle.ir_core.specs.declared.program.Module.{Module}
use Rattle.ir_reader.specs.Reads.{Reads}
use Rattle.ir_print.specs.Modules.{module_text}
use Rattle.ir_print_laws.specs.Fits.{AreBytes, FitsModule}

-- a text reads as one module
abbrev pub TextsReadAsOne : Type 0
TextsReadAsOne = (text : List ℕ) (a b : Module) → Reads text a → Reads text b → a ≡ b

-- a module that a text of bytes reads as has parts that fit
abbrev pub ReadsFit : Type 0
ReadsFit = (text : List ℕ) (m : Module) → AreBytes text → Reads text m → FitsModule m

-- a module that a text of bytes reads as reads back from its printed text, where that isn't longer than a text may be
abbrev pub ReadModulesPrintBack : Type 0
ReadModulesPrintBack = (text : List ℕ) (m : Module) → AreBytes text → Reads text m → length (module_text m) ≤ 4194304 → Reads (module_text m) m
