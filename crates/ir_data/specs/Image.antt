-- Where globals stand, and the image of the first data memory.
use Rattle.std.specs.Prelude.{◌≡◌, ℕ, ◌+◌, ◌-◌, ◌^◌, ◌≤◌, Bool, true, List, [], ◌∷◌, ◌++◌, length, map, replicate, sum_by, All, Option, Some, None}
use Rattle.ir_core.specs.declared.types.MemTy.{MemTy}
use Rattle.ir_core.specs.declared.types.MemTy.TheVariants.{Struct}
use Rattle.ir_core.specs.declared.program.Init.{Init}
use Rattle.ir_core.specs.declared.program.Global.{Global}
use Rattle.ir_core.specs.Layout.{size, extent_of, HasSizesWithin}
use Rattle.ir_meaning.specs.Value.{Byte}
use Rattle.ir_meaning.specs.Memory.{data_start}
use Rattle.ir_meaning.specs.Image.{Filling, span, initial, first_memory}
use Rattle.ir_verify.specs.Ranges.{all_fit, init_fits}
use Rattle.ir_data.specs.declared.image.Image.{Image}

-- where these globals stand, the first of them here
abbrev pub places_from : ℕ → List Global → List ℕ
places_from start [] = []
places_from start (global ∷ globals) = start ∷ places_from (start + span global) globals

-- the bytes from the start of data memory to the image's top
abbrev pub taken : List Global → ℕ
taken globals = sum_by span globals

-- where the last of these globals ends, the first of them here; this end where there is none
abbrev pub last_end : ℕ → ℕ → List Global → ℕ
last_end end start [] = end
last_end end start (global ∷ globals) = last_end (start + size global.ty) (start + span global) globals

-- a byte as a machine shows it: 0 for poison
abbrev pub known : Byte → ℕ
known None = 0
known (Some b) = b

-- the first memory of these globals, written as bytes to the last global's end; 0 stands behind, up to the top
pub record AreFirstBytes (globals : List Global) (bytes : List ℕ) : Type 0 where
  pub top : length (first_memory globals) ≡ taken globals
  pub end : length bytes ≡ last_end 0 0 globals
  pub known : map known (first_memory globals) ≡ bytes ++ replicate (taken globals - length bytes) 0

pub record IsFirstImage (globals : List Global) (image : Image) : Type 0 where
  pub bytes : AreFirstBytes globals image.bytes
  pub top : image.top ≡ data_start + length (first_memory globals)

-- neither a global's type nor a type inside it takes more than 2^32 bytes, and globals are at most 4,096
pub record HasFewBytes (globals : List Global) : Type 0 where
  pub count : length globals ≤ 4096
  pub sizes : All (λ global. HasSizesWithin global.ty) globals

-- a first value that fits its type, with the places of all globals
pub record IsWritable (globals : List Global) (places : List ℕ) (init : Init) (ty : MemTy) : Type 0 where
  pub stand : places ≡ places_from data_start globals
  pub sizes : HasSizesWithin ty
  pub fits : init_fits (length globals) init ty ≡ true

-- the first values of the items of a list, by the type that each has
abbrev pub fillings : List Global → List Init → List Filling
fillings globals items = map (λ item. λ part. initial globals part item) items

-- items that fit the elements of an array, with the places of all globals
pub record AreElements (globals : List Global) (places : List ℕ) (items : List Init) (element : MemTy) : Type 0 where
  pub stand : places ≡ places_from data_start globals
  pub sizes : HasSizesWithin element
  pub fit : all_fit (map (init_fits (length globals)) items) (replicate (length items) element) ≡ true

-- items that fit the fields of a struct of this size, with the places of all globals
pub record AreFields (globals : List Global) (places : List ℕ) (items : List Init) (fields : List MemTy) (packed : Bool) (size : ℕ) : Type 0 where
  pub stand : places ≡ places_from data_start globals
  pub sizes : HasSizesWithin (Struct fields packed)
  pub fit : all_fit (map (init_fits (length globals)) items) fields ≡ true
  pub whole : size ≡ (extent_of (Struct fields packed)).size

-- a first value that fits the type of a struct's field, which comes after this place
pub record IsField (globals : List Global) (places : List ℕ) (init : Init) (ty : MemTy) (place : ℕ) : Type 0 where
  pub stand : places ≡ places_from data_start globals
  pub sizes : HasSizesWithin ty
  pub fits : init_fits (length globals) init ty ≡ true
  pub low : place ≤ 2 ^ 32
