-- There is one choice for each constant.
use Rattle.std.proofs.Common.{◌≡◌, ℕ, ◌+◌, List, [], ◌∷◌, length, Bool, refl, arith, length-append, cond, if◌then◌else◌}
use Rattle.std.specs.Prelude.{sum_by, count_by}
use Rattle.std.proofs.lemmas.List.Sums.{sum_by-cons}
use Rattle.std.proofs.lemmas.List.Recursion.{is_count_by}
use Rattle.gmir.specs.declared.code.GOp.{GOp}
use Rattle.gmir.specs.declared.code.GOp.TheVariants.{Constant}
use Rattle.gmir.specs.declared.code.GInst.{GInst}
use Rattle.gmir.specs.declared.code.GFunction.{GFunction}
use Rattle.gmir.specs.Play.{def_at}
use Rattle.gmir.specs.Legal.{is_constant, constants}
use Rattle.regbank.specs.Choice.{is_constant as is_made, is_kept, words_of, choices, block_choices, kept_of}
use Rattle.regbank.specs.Counts.{uses_of}

by-op : (op : GOp) (k : Bool) (rest : List Bool) → length (if is_made op then k ∷ rest else rest) ≡ cond (is_constant op) (1 + length rest) (length rest)
by-op Constant k rest = omega arith
by-op _ k rest = refl

in-block : (uses : ℕ → ℕ) (is : List GInst) → length (choices uses is) ≡ count_by (λ (i : GInst). is_constant i.op) is
in-block uses is = is_count_by (λ (xs : List GInst). length (choices uses xs)) (λ (i : GInst). is_constant i.op) refl
    (λ (i : GInst) (xs : List GInst). by-op i.op (is_kept (words_of i) (uses (def_at i 0))) (choices uses xs)) is

in-blocks : (uses : ℕ → ℕ) (bs : List (List GInst)) → length (block_choices uses bs) ≡ sum_by (λ insts. count_by (λ (i : GInst). is_constant i.op) insts) bs
in-blocks uses [] = refl
in-blocks uses (b ∷ bs) =
    let both = length-append (choices uses b) (block_choices uses bs) in
    let more = sum_by-cons (λ insts. count_by (λ (i : GInst). is_constant i.op) insts) b bs in
    let one = in-block uses b in
    let rest = in-blocks uses bs in
    omega (arith, both, more, one, rest)

pub one-each : (f : GFunction) → length (kept_of f) ≡ constants f
one-each f = in-blocks (uses_of f) f.blocks
