-- The module's text is what is printed of it, and it reads as this module alone.
use Rattle.std.proofs.Common.{◌≡◌, ◌≤◌, true, length, refl}
use Rattle.std.specs.Prelude.{nat_le}
use Rattle.std.specs.Fmt.{digits}
use Rattle.std.proofs.lemmas.Bool.{leb-true}
use Rattle.ir_print.specs.Modules.{module_text as printed, insts_text, blocks_text, params_text}
use Rattle.ir_print.specs.Types.{listed}
use Rattle.jit_text.specs.ManyCallsTexts.{module_text, functions_text}
use Rattle.ir_print_laws.specs.Modules.{many_module}

pub text_is : module_text ≡ printed many_module
unfolding digits functions_text insts_text blocks_text params_text listed
text_is = refl

short : nat_le (length module_text) 4194304 ≡ true
unfolding digits functions_text
short = refl

pub text_short : length module_text ≤ 4194304
text_short = leb-true (length module_text) 4194304 short
