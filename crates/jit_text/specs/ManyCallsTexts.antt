-- The module of many calls, and its list of calls.
use Rattle.std.specs.Prelude.{ℕ, zero, suc, ◌+◌, ◌%◌, List, [], ◌++◌, codes, decimal}

-- @f0 returns its argument
abbrev pub first_text : List ℕ
first_text = codes "define i64 @f0(i64 %v0) {\nb0:\n  ret i64 %v0\n}\n"

abbrev pub head_text : ℕ → List ℕ
head_text number = codes "define i64 @f" ++ decimal number ++ codes "(i64 %v0) {\nb0:\n"

abbrev pub body_text : ℕ → List ℕ
body_text callee = codes "  %v1 = call i64 @f" ++ decimal callee ++ codes "(i64 %v0)\n  %v2 = add i64 %v1, %v0\n  ret i64 %v2\n}\n"

-- the function behind @f(place) adds its argument to what that one returns
abbrev pub next_text : ℕ → List ℕ
next_text place = head_text (place + 1) ++ body_text place

-- @f0 and so many functions behind it
unfoldable pub functions_text : ℕ → List ℕ
functions_text zero = first_text
functions_text (suc place) = functions_text place ++ next_text place

-- @f0 to @f63
abbrev pub module_text : List ℕ
module_text = functions_text 63

-- call i is @f(i mod 64)(i64 i)
abbrev pub call_text : ℕ → List ℕ
call_text i = codes "@f" ++ decimal (i % 64) ++ codes "(i64 " ++ decimal i ++ codes ")\n"

-- so many calls, from call 0 on
unfoldable pub calls_text : ℕ → List ℕ
calls_text zero = []
calls_text (suc i) = calls_text i ++ call_text i
