-- Two hexadecimal digits, and the lines from one word on.
use Rattle.std.proofs.Common.{◌≡◌, sym, ap, ap₂, ◌∙◌, ℕ, suc, ◌+◌, ◌/◌, ◌%◌, ◌<◌, List, ◌++◌, length, drop, get_or, false, arith}
use Rattle.std.proofs.Math.Seq.{drop-cons}
use Rattle.std.proofs.lemmas.Fmt.{hex_one_digit}
use Rattle.std.specs.Fmt.{digits}
use Rattle.rv_print.specs.Listing.{two_digits, line, listing_of}

pub two_digits_are : (byte : ℕ) → byte < 256 → digits 16 false (byte / 16) ++ digits 16 false (byte % 16) ≡ two_digits byte
two_digits_are byte h = ap₂ (λ (x y : List ℕ). x ++ y) (hex_one_digit false (byte / 16) (omega arith)) (hex_one_digit false (byte % 16) (omega arith))

-- the lines from a word on are its own and those from the next on
pub lines_from : (words : List ℕ) (i d : ℕ) → i < length words → listing_of (drop i words) ≡ line (get_or words i d) ++ listing_of (drop (i + 1) words)
lines_from words i d h =
    let one : i + 1 ≡ suc i = omega arith in
    ap listing_of (drop-cons words i d h) ∙ ap (λ (j : ℕ). line (get_or words i d) ++ listing_of (drop j words)) (sym one)
