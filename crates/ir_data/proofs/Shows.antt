-- An image shows the first memory.
use Rattle.std.proofs.Common.{◌≡◌, ℕ, zero, suc, ◌+◌, ◌-◌, List, [], ◌∷◌, ◌++◌, map, length, replicate, Some, None, sym, ◌∙◌, ap, refl, arith}
use Rattle.std.specs.Prelude.{slice_get, slice_index}
use Rattle.ir_core.specs.declared.program.Global.{Global}
use Rattle.ir_meaning.specs.Value.{Byte}
use Rattle.ir_meaning.specs.Memory.{Memory, data_start}
use Rattle.ir_meaning.specs.Image.{first_memory}
use Rattle.ir_data.specs.declared.image.Image.{Image}
use Rattle.ir_data.specs.Image.{known, taken, IsFirstImage}
use Rattle.ir_data.specs.Laws.{ImagesShowMemories}

none_some : {A : Type 0} (x : A) → None ≡ Some x → ⊥
none_some x e = cc

no_cons : {A : Type 0} (x : A) (xs : List A) → x ∷ xs ≡ [] → ⊥
no_cons x xs e = cc

heads : {A : Type 0} (x y : A) (xs ys : List A) → x ∷ xs ≡ y ∷ ys → x ≡ y
heads x y xs ys e = cc

tails : {A : Type 0} (x y : A) (xs ys : List A) → x ∷ xs ≡ y ∷ ys → xs ≡ ys
tails x y xs ys e = cc

byte_is : (m : Byte) (b : ℕ) → Some m ≡ Some (Some b) → known m ≡ b
byte_is m b e = let same : m ≡ Some b = cc in ap known same

shows : (memory : Memory) (bytes : List ℕ) (n : ℕ) → map known memory ≡ bytes ++ replicate n 0 → (i b : ℕ) → slice_get memory i ≡ Some (Some b) → slice_index bytes i ≡ b
shows [] bytes n e i b at = absurd (none_some _ at)
shows (m ∷ ms) [] zero e i b at = absurd (no_cons _ _ e)
shows (m ∷ ms) [] (suc n) e zero b at = sym (heads _ _ _ _ e) ∙ byte_is m b at
shows (m ∷ ms) [] (suc n) e (suc i) b at = shows ms [] n (tails _ _ _ _ e) i b at
shows (m ∷ ms) (x ∷ xs) n e zero b at = sym (heads _ _ _ _ e) ∙ byte_is m b at
shows (m ∷ ms) (x ∷ xs) n e (suc i) b at = shows ms xs n (tails _ _ _ _ e) i b at

pub images_show_memories : ImagesShowMemories
images_show_memories globals image is = (
  omega (arith, is.top),
  shows (first_memory globals) image.bytes (taken globals - length image.bytes) is.bytes.known,
)
