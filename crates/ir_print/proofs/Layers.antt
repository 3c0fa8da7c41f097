-- The texts of each kind of type and of initial value, as equations.
use Rattle.std.proofs.Common.{◌≡◌, ℕ, Bool, List, [], ◌∷◌, ◌++◌, refl, sym, ◌∙◌, ap}
use Rattle.std.specs.Prelude.{map, length, nat_eq, suc, ◌+◌, codes, decimal, Result, Ok, Err, OnOk}
use Rattle.ir_core.specs.declared.types.MemTy.{MemTy, Int, Ptr, fold-roll-MemTy, out-MemTy, out-roll-MemTy}
use Rattle.ir_core.specs.declared.types.MemTy.TheVariants.{Array, Struct, rolls-Int, rolls-Ptr, rolls-Array, rolls-Struct}
use Rattle.ir_core.specs.declared.types.MemTy.TheOpen as layer
use Rattle.ir_core.specs.declared.program.Init.{Init, fold-roll-Init}
use Rattle.ir_core.specs.declared.program.Init.TheVariants as init
use Rattle.ir_core.specs.declared.program.Init.TheOpen as open_init
use Rattle.ir_core.specs.declared.program.Global.{Global}
use Rattle.ir_print_names.specs.Names.{quoted_text}
use Rattle.ir_print.specs.Types.{integer_text, comma, listed, opening_of, ending_of, memory_step, memory_text}
use Rattle.ir_print_names.specs.Numbers.{number_text}
use Rattle.ir_print.specs.Values.{width_of_memory, place_text, list_text, init_step, init_text}

pub listed_map : {X Y : Type 0} (text : Y → List ℕ) (f : X → Y) (number : ℕ) (xs : List X) → listed text number (map f xs) ≡ listed (λ x. text (f x)) number xs
unfolding listed
listed_map text f number [] = refl
listed_map text f number (x ∷ xs) = ap (λ (t : List ℕ). comma number ++ text (f x) ++ t) (listed_map text f (number + 1) xs)

length_map : {X Y : Type 0} (f : X → Y) (xs : List X) → length (map f xs) ≡ length xs
length_map f [] = refl
length_map f (x ∷ xs) = ap (λ (n : ℕ). suc n) (length_map f xs)

pub memory_int : (w : ℕ) → memory_text (Int w) ≡ integer_text w
memory_int w = ap (λ (t : MemTy). memory_text t) (sym (rolls-Int w)) ∙ fold-roll-MemTy (List ℕ) memory_step (layer.Int w)

pub memory_ptr : memory_text Ptr ≡ codes "ptr"
memory_ptr = ap (λ (t : MemTy). memory_text t) (sym rolls-Ptr) ∙ fold-roll-MemTy (List ℕ) memory_step layer.Ptr

pub memory_array : (count : ℕ) (element : MemTy) → memory_text (Array count element) ≡ codes "[" ++ decimal count ++ codes " x " ++ memory_text element ++ codes "]"
memory_array count element = ap (λ (t : MemTy). memory_text t) (sym (rolls-Array count element)) ∙ fold-roll-MemTy (List ℕ) memory_step (layer.Array count element)

pub memory_struct : (fields : List MemTy) (packed : Bool)
    → memory_text (Struct fields packed) ≡ opening_of packed (nat_eq (length fields) 0) ++ listed memory_text 0 fields ++ ending_of packed (nat_eq (length fields) 0)
memory_struct fields packed =
    ap (λ (t : MemTy). memory_text t) (sym (rolls-Struct fields packed)) ∙ fold-roll-MemTy (List ℕ) memory_step (layer.Struct fields packed)
    ∙ ap (λ (n : ℕ). opening_of packed (nat_eq n 0) ++ listed (λ (t : List ℕ). t) 0 (map memory_text fields) ++ ending_of packed (nat_eq n 0)) (length_map memory_text fields)
    ∙ ap (λ (t : List ℕ). opening_of packed (nat_eq (length fields) 0) ++ t ++ ending_of packed (nat_eq (length fields) 0)) (listed_map (λ (t : List ℕ). t) memory_text 0 fields)

pub out_int : (w : ℕ) → out-MemTy (Int w) ≡ layer.Int w
out_int w = ap (λ (t : MemTy). out-MemTy t) (sym (rolls-Int w)) ∙ out-roll-MemTy (layer.Int w)

pub out_ptr : out-MemTy Ptr ≡ layer.Ptr
out_ptr = ap (λ (t : MemTy). out-MemTy t) (sym rolls-Ptr) ∙ out-roll-MemTy layer.Ptr

pub out_array : (count : ℕ) (element : MemTy) → out-MemTy (Array count element) ≡ layer.Array count element
out_array count element = ap (λ (t : MemTy). out-MemTy t) (sym (rolls-Array count element)) ∙ out-roll-MemTy (layer.Array count element)

pub out_struct : (fields : List MemTy) (packed : Bool) → out-MemTy (Struct fields packed) ≡ layer.Struct fields packed
out_struct fields packed = ap (λ (t : MemTy). out-MemTy t) (sym (rolls-Struct fields packed)) ∙ out-roll-MemTy (layer.Struct fields packed)

same_text : (globals : List Global) (a b : Init) (ty : MemTy) → a ≡ b → init_text globals a ty ≡ init_text globals b ty
same_text globals a b ty e = ap (λ (t : Init). init_text globals t ty) e

pub init_num : (globals : List Global) (n : ℕ) (ty : MemTy) → init_text globals (init.Num n) ty ≡ number_text (width_of_memory ty) n
init_num globals n ty = same_text globals _ _ ty (sym (init.rolls-Num n)) ∙ ap (λ (f : MemTy → List ℕ). f ty) (fold-roll-Init (MemTy → List ℕ) (init_step globals) (open_init.Num n))

pub init_null : (globals : List Global) (ty : MemTy) → init_text globals init.Null ty ≡ codes "null"
init_null globals ty = same_text globals _ _ ty (sym init.rolls-Null) ∙ ap (λ (f : MemTy → List ℕ). f ty) (fold-roll-Init (MemTy → List ℕ) (init_step globals) open_init.Null)

pub init_zero : (globals : List Global) (ty : MemTy) → init_text globals init.Zero ty ≡ codes "zeroinitializer"
init_zero globals ty = same_text globals _ _ ty (sym init.rolls-Zero) ∙ ap (λ (f : MemTy → List ℕ). f ty) (fold-roll-Init (MemTy → List ℕ) (init_step globals) open_init.Zero)

pub init_place : (globals : List Global) (k offset : ℕ) (ty : MemTy) → init_text globals (init.Place k offset) ty ≡ place_text globals k offset
init_place globals k offset ty = same_text globals _ _ ty (sym (init.rolls-Place k offset)) ∙ ap (λ (f : MemTy → List ℕ). f ty) (fold-roll-Init (MemTy → List ℕ) (init_step globals) (open_init.Place k offset))

pub init_bytes : (globals : List Global) (bytes : List ℕ) (ty : MemTy) → init_text globals (init.Bytes bytes) ty ≡ codes "c" ++ quoted_text bytes
init_bytes globals bytes ty = same_text globals _ _ ty (sym (init.rolls-Bytes bytes)) ∙ ap (λ (f : MemTy → List ℕ). f ty) (fold-roll-Init (MemTy → List ℕ) (init_step globals) (open_init.Bytes bytes))

pub init_list : (globals : List Global) (items : List Init) (ty : MemTy) → init_text globals (init.List items) ty ≡ list_text (out-MemTy ty) (map (init_text globals) items)
init_list globals items ty = same_text globals _ _ ty (sym (init.rolls-List items)) ∙ ap (λ (f : MemTy → List ℕ). f ty) (fold-roll-Init (MemTy → List ℕ) (init_step globals) (open_init.List items))

-- `zeroinitializer` behind a page
pub zero_written : {X E : Type 0} (r : Result X E) (globals : List Global) (one : Init) (ty : MemTy) (page after : List ℕ) → one ≡ init.Zero → OnOk r (after ≡ page ++ codes "zeroinitializer") → OnOk r (after ≡ page ++ init_text globals one ty)
zero_written (Ok x) globals one ty page after is h = h ∙ ap (λ (t : List ℕ). page ++ t) (sym (same_text globals one init.Zero ty is ∙ init_zero globals ty))
zero_written (Err x) globals one ty page after is h = h
