-- What a list of answers comes to.
use Rattle.std.specs.Prelude.{ℕ, ◌%◌, ◌^◌, Bool, true, false, List, ◌++◌, length, codes, decimal, count_by, sum_by}
use Rattle.ir_meaning.specs.declared.calls.Ended.{Ended}
use Rattle.ir_meaning.specs.declared.calls.Ended.TheVariants.{Value, Void, Stack, Fuel, Fault}

abbrev pub is_value : Ended → Bool
is_value (Value value) = true
is_value _ = false

abbrev pub is_void : Ended → Bool
is_void Void = true
is_void _ = false

abbrev pub is_stack : Ended → Bool
is_stack Stack = true
is_stack _ = false

abbrev pub is_fuel : Ended → Bool
is_fuel (Fuel spent) = true
is_fuel _ = false

abbrev pub is_fault : Ended → Bool
is_fault (Fault pc) = true
is_fault _ = false

-- the number that an answer adds to the sum
abbrev pub value_of : Ended → ℕ
value_of (Value value) = value
value_of _ = 0

-- the sum of the values modulo 2^64
abbrev pub sum_of : List Ended → ℕ
sum_of list = sum_by value_of list % (2 ^ 64)

abbrev pub kinds_text : List Ended → List ℕ
kinds_text list =
    (codes " value " ++ decimal (count_by is_value list))
    ++ (codes " void " ++ decimal (count_by is_void list))
    ++ (codes " stack " ++ decimal (count_by is_stack list))
    ++ (codes " fuel " ++ decimal (count_by is_fuel list))
    ++ (codes " fault " ++ decimal (count_by is_fault list))

abbrev pub counts_line : List Ended → List ℕ
counts_line list =
    (codes "calls " ++ decimal (length list)) ++ kinds_text list ++ (codes " sum " ++ decimal (sum_of list)) ++ codes "\n"
