-- When the code of an instruction can be written: its places lie in a frame of at most a mebibyte, and its numbers fit.
use Rattle.std.specs.Prelude.{◌≡◌, ℕ, ◌+◌, ◌*◌, ◌^◌, ◌<◌, ◌≤◌, List, [], ◌∷◌, ◌++◌, slice_get, Option, Some, None}
use Rattle.mir.specs.declared.code.MInst.{MInst}
use Rattle.mir.specs.declared.code.MInst.TheVariants.{Branch, Jump}
use Rattle.mir.specs.declared.places.Place.{Place}
use Rattle.mir.specs.declared.places.Place.TheVariants.{Slot}
use Rattle.mir.specs.declared.places.Places.{Places}
use Rattle.mir.specs.declared.code.MFunction.{MFunction}
use Rattle.mir.specs.Code.{reads, writes}
use Rattle.mir.specs.Places.{place_of}
use Rattle.mir.specs.WellFormed.{HasRanges}
use Rattle.rv_core.specs.declared.reg.Reg.TheVariants.{T0, T1}
use Rattle.rv_asm.specs.Code.{Code}
use Rattle.code_pieces.specs.Items.{Item, Test, plain}
use Rattle.frame_code.specs.Code.{held_in, fetch, goto_items}

-- a slot ends below a mebibyte
abbrev pub IsNear : Option Place → Type 0
IsNear (Some (Slot j)) = 8 * j + 8 ≤ 2 ^ 20
IsNear _ = Unit {0}

abbrev pub AreNear : Places → List ℕ → Type 0
AreNear places [] = Unit {0}
AreNear places (r ∷ rs) = IsNear (place_of places r) × AreNear places rs

pub record IsReady (places : Places) (inst : MInst) : Type 0 where
  pub reads : AreNear places (reads inst)
  pub writes : AreNear places (writes inst)
  pub ranges : HasRanges inst

-- what an instruction's code has that goes to a block
abbrev pub goes_items : MFunction → Places → ℕ → MInst → List Item
goes_items f places block (Branch op a b t e) =
    plain (fetch T0 (place_of places a) ++ fetch T1 (place_of places b))
    ++ Test op (held_in T0 (place_of places a)) (held_in T1 (place_of places b)) t ∷ goto_items f places block e
goes_items f places block (Jump t) = goto_items f places block t
goes_items f places block _ = []

-- the labels from one on, of so many, stand nowhere yet
abbrev pub AreFree : ℕ → ℕ → Code → Type 0
AreFree labels low code = (label : ℕ) → low ≤ label → label < labels → slice_get code.bound label ≡ Some None
