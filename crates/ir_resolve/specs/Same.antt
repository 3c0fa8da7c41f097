-- When two types of memory are the same.
use Rattle.std.specs.Prelude.{ℕ, zero, suc, Bool, true, false, ◌&&◌, ◌==◌, List, [], ◌∷◌}
use Rattle.ir_core.specs.declared.types.MemTy.{MemTy, out-MemTy}
use Rattle.ir_core.specs.declared.types.MemTy.TheOpen.{MemTy-F, Int, Ptr, Array, Struct}

abbrev pub same_bool : Bool → Bool → Bool
same_bool true other = other
same_bool false true = false
same_bool false false = true

abbrev pub all_same : (MemTy → MemTy → Bool) → List MemTy → List MemTy → Bool
all_same same [] [] = true
all_same same [] (y ∷ ys) = false
all_same same (x ∷ xs) [] = false
all_same same (x ∷ xs) (y ∷ ys) = same x y && all_same same xs ys

abbrev pub same_layer : (MemTy → MemTy → Bool) → MemTy-F MemTy → MemTy-F MemTy → Bool
same_layer same (Int w) (Int v) = w == v
same_layer same (Int w) Ptr = false
same_layer same (Int w) (Array n b) = false
same_layer same (Int w) (Struct gs q) = false
same_layer same Ptr (Int v) = false
same_layer same Ptr Ptr = true
same_layer same Ptr (Array n b) = false
same_layer same Ptr (Struct gs q) = false
same_layer same (Array m a) (Int v) = false
same_layer same (Array m a) Ptr = false
same_layer same (Array m a) (Array n b) = m == n && same a b
same_layer same (Array m a) (Struct gs q) = false
same_layer same (Struct fs p) (Int v) = false
same_layer same (Struct fs p) Ptr = false
same_layer same (Struct fs p) (Array n b) = false
same_layer same (Struct fs p) (Struct gs q) = same_bool p q && all_same same fs gs

-- two types of memory of at most this depth are the same
unfoldable pub same_type : ℕ → MemTy → MemTy → Bool
same_type zero a b = false
same_type (suc depth) a b = same_layer (same_type depth) (out-MemTy a) (out-MemTy b)
