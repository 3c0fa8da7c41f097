-- What an image tells of the first memory.
use Rattle.std.specs.Prelude.{◌≡◌, ℕ, ◌-◌, List, length, slice_get, slice_index, Some}
use Rattle.ir_core.specs.declared.program.Global.{Global}
use Rattle.ir_meaning.specs.Memory.{data_start}
use Rattle.ir_meaning.specs.Image.{first_memory}
use Rattle.ir_data.specs.declared.image.Image.{Image}
use Rattle.ir_data.specs.Image.{IsFirstImage}

-- the image is as long as the first memory, and has each number of it in its place; 0 stands behind the image's bytes
abbrev pub ImagesShowMemories : Type 0
ImagesShowMemories =
    (globals : List Global) (image : Image) → IsFirstImage globals image
    → (length (first_memory globals) ≡ image.top - data_start)
    × ((i b : ℕ) → slice_get (first_memory globals) i ≡ Some (Some b) → slice_index image.bytes i ≡ b)
