-- Where stubs, cells and code words stand.
use Rattle.std.specs.Prelude.{ℕ, ◌+◌, ◌*◌}

abbrev pub stub_place : ℕ → ℕ
stub_place symbol = 0x10000 + 16 * symbol

abbrev pub cell_place : ℕ → ℕ
cell_place symbol = 0x100000 + 8 * symbol

abbrev pub word_place : ℕ → ℕ
word_place index = 0x1000000 + 4 * index
