use Rattle.std.proofs.Common.{List, ℕ, length, ◌≤◌, sym, subst}
use Rattle.ir_reader.specs.Reads.{Reads}
use Rattle.ir_print_laws.specs.Modules.{many_module}
use Rattle.ir_print_laws.proofs.Fits.{many_fits}
use Rattle.ir_print_laws.proofs.Printed.{text_is, text_short}
use Rattle.ir_print_laws.proofs.Alone.{reads_alone}
use Rattle.ir_print_laws.proofs.many_calls_laws.text_reads.Goals as goal

pub returns : goal.returns
returns c =
    let few = subst (λ (text : List ℕ). length text ≤ 4194304) text_is text_short in (
      text_is,
      subst (λ (text : List ℕ). Reads text many_module) (sym text_is) (c.prints_back.ensures many_module many_fits few),
      λ other reads. reads_alone c.modules_read_back.ensures c.fits_is_written.ensures c.trees_say_modules.ensures many_module other many_fits few (subst (λ (text : List ℕ). Reads text other) text_is reads),
    )
