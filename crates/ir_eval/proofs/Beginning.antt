-- The first memory, global by global.
use Rattle.std.proofs.Common.{◌≡◌, ℕ, ◌+◌, ◌-◌, ◌<◌, List, [], ◌∷◌, ◌++◌, length, take, replicate, get_or, None, sym, ◌∙◌, ap, refl, append_assoc}
use Rattle.std.specs.Prelude.{flat_map}
use Rattle.std.proofs.lemmas.Grind.{flat_map-append}
use Rattle.std.proofs.lemmas.List.{take_more}
use Rattle.ir_core.specs.declared.program.Global.{Global}
use Rattle.ir_core.specs.Layout.{size}
use Rattle.ir_meaning.specs.Value.{Byte}
use Rattle.ir_meaning.specs.Memory.{Memory}
use Rattle.ir_meaning.specs.Image.{span, initial, global_bytes}

right_nil : (xs : List Byte) → xs ++ [] ≡ xs
right_nil [] = refl
right_nil (x ∷ xs) = ap (λ (ys : List Byte). x ∷ ys) (right_nil xs)

pub one_more : (globals : List Global) (i : ℕ) (g : Global) (memory after : Memory) (gap : ℕ) (bytes : List Byte) → i < length globals → g ≡ get_or globals i g
    → memory ≡ flat_map (global_bytes globals) (take i globals) → bytes ≡ initial globals g.ty g.init → gap ≡ span g - size g.ty
    → after ≡ (memory ++ bytes) ++ replicate gap None → after ≡ flat_map (global_bytes globals) (take (i + 1) globals)
one_more globals i g memory after gap bytes below is so_far own gap_is e =
    let taken : flat_map (global_bytes globals) (take (i + 1) globals) ≡ flat_map (global_bytes globals) (take i globals) ++ global_bytes globals g =
    ap (flat_map (global_bytes globals)) (take_more globals i g below ∙ ap (λ (x : Global). take i globals ++ x ∷ []) (sym is))
    ∙ flat_map-append (global_bytes globals) (take i globals) (g ∷ [])
    ∙ ap (λ (bs : List Byte). flat_map (global_bytes globals) (take i globals) ++ bs) (right_nil (global_bytes globals g)) in
    e ∙ append_assoc memory bytes (replicate gap None)
    ∙ ap (λ (m : Memory). m ++ (bytes ++ replicate gap None)) so_far
    ∙ ap (λ (bs : List Byte). flat_map (global_bytes globals) (take i globals) ++ (bs ++ replicate gap None)) own
    ∙ ap (λ (n : ℕ). flat_map (global_bytes globals) (take i globals) ++ (initial globals g.ty g.init ++ replicate n None)) gap_is
    ∙ sym taken
