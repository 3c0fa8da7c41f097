-- Why a module has no image.
use Rattle.std.specs.Prelude.{◌≡◌, ℕ, ◌<◌}
use Rattle.ir_meaning.specs.Step.{Program}
use Rattle.ir_data.specs.declared.image.ImageRefusal.{ImageRefusal}
use Rattle.ir_data.specs.declared.image.ImageRefusal.TheVariants.{TooBig, NoMemory}
use Rattle.ir_data.specs.Image.{taken}

-- the globals take more bytes than the data memory has; memory may be wanting anywhere
abbrev pub Refuses : Program → ImageRefusal → Type 0
Refuses program (TooBig bytes room) = (bytes ≡ taken program.module_.globals) × (room ≡ program.room) × (room < bytes)
Refuses program NoMemory = Unit {0}
