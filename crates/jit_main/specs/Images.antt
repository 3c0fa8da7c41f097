-- The image of the first data memory as harts take it.
use Rattle.std.specs.Prelude.{◌≡◌}
use Rattle.hart.specs.declared.hart.Image.{Image}
use Rattle.ir_data.specs.declared.image.Image.{Image as First}

abbrev pub hart_image : First → Image
hart_image image = record { bytes = image.bytes; top = image.top }
