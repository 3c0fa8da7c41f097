-- What the texts of many calls say.
use Rattle.std.specs.Prelude.{◌≡◌, ℕ, ◌%◌, ◌≤◌, Ok}
use Rattle.ir_core.specs.declared.program.Module.{Module}
use Rattle.ir_reader.specs.Reads.{Reads}
use Rattle.ir_print.specs.Modules.{module_text as printed}
use Rattle.ir_verify.specs.Verdict.{IsChecked, program_of}
use Rattle.ir_data.specs.Image.{taken}
use Rattle.jit_calls.specs.Lists.{calls_of}
use Rattle.jit_text.specs.ManyCallsTexts.{module_text, calls_text}
use Rattle.ir_print_laws.specs.Modules.{many_module, calls_before}

-- the text is what is printed of the module, and reads as it and as no other
abbrev pub TextReads : Type 0
TextReads = (module_text ≡ printed many_module) × Reads module_text many_module × ((other : Module) → Reads module_text other → other ≡ many_module)

-- each row of the verifier passes, in each room that there may be, and the image takes no byte
abbrev pub ModulePasses : Type 0
ModulePasses = ((room : ℕ) → 4096 ≤ room → room ≤ 67108864 → room % 16 ≡ 0 → IsChecked (program_of many_module room)) × (taken many_module.globals ≡ 0)

-- the text of up to 65,536 calls is a list of these calls
abbrev pub CallsRead : Type 0
CallsRead = (n : ℕ) → n ≤ 65536 → calls_of many_module (calls_text n) ≡ Ok (calls_before n)
