use Rattle.ir_print_laws.proofs.Forms.{fits_written}
use Rattle.ir_print_laws.proofs.print_laws.fits_is_written.Goals as goal

pub returns : goal.returns
returns c = fits_written
