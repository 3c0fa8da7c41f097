-- How numbers of a width are printed.
use Rattle.std.specs.Prelude.{ℕ, Bool, ◌&&◌, ◌==◌, nat_le, List, codes, decimal, if◌then◌else◌}
use Rattle.std.specs.Fmt.{signed_decimal}
use Rattle.rj_num.specs.Width.{signed, holds_unsigned}

-- `true` and `false` of one bit, and else a number with its sign; a number that its width doesn't hold stands as it is
abbrev pub number_text : ℕ → ℕ → List ℕ
number_text width n =
    if width == 1 && n == 0 then codes "false"
    else if width == 1 && n == 1 then codes "true"
    else if nat_le 1 width && nat_le width 128 && holds_unsigned width n then signed_decimal (signed width n)
    else decimal n
