use Rattle.std.proofs.Common.{◌≡◌, ℕ, suc, ◌+◌, ◌-◌, ◌*◌, ◌/◌, ◌%◌, ◌^◌, List, [], ◌∷◌, ◌++◌, ◌∙◌, arith, append_assoc}
use Rattle.jit_calls.specs.Answers.{hexadecimal_digit, hexadecimal}
use Rattle.jit_calls.proofs.answers.push_hexadecimal.Goals as goal

next : (page : List ℕ) (digit n k m : ℕ) → k ≡ suc m → digit ≡ hexadecimal_digit (n / 2 ^ (4 * m) % 16) → (page ++ digit ∷ []) ++ hexadecimal m n ≡ page ++ hexadecimal k n
unfolding hexadecimal
next page digit n k m e is = rw (e, is) (append_assoc page (hexadecimal_digit (n / 2 ^ (4 * m) % 16) ∷ []) (hexadecimal m n))

pub loop-place-preserved : goal.loop-place-preserved
loop-place-preserved c =
    let m : 16 - c.loop-place.place ≡ suc (16 - (c.loop-place.place + 1)) = omega (arith, c.loop-place-test.true) in
    let k : 15 - c.loop-place.place ≡ 16 - (c.loop-place.place + 1) = omega (arith, c.loop-place-test.true) in
    rw c.in_ok-byte.ensures (next c.loop-place.page c.hexadecimal_digit.result c.args.n (16 - c.loop-place.place) (16 - (c.loop-place.place + 1)) m (rw (← k) c.hexadecimal_digit.ensures)) ∙ c.loop-place.invariant
