-- Small functions, computed.
use Rattle.std.specs.Prelude.{if◌then◌else◌, ◌==◌}
use Rattle.std.proofs.Common.{◌≡◌, refl, ℕ, zero, suc, false, List, [], ◌∷◌, Option, Some, None}
use Rattle.gmir.specs.declared.code.GType.TheVariants.{S, P0}
use Rattle.gmir.specs.declared.code.GOp.{GOp}
use Rattle.gmir.specs.declared.code.GOp.TheVariants.{Add, UDiv, SDiv, Shl, Icmp, IntToPtr, Constant, Load, Param, Return, TakeData, FillBytes}
use Rattle.gmir.specs.declared.code.GInst.{GInst}
use Rattle.gmir.specs.declared.code.GFunction.{GFunction}
use Rattle.walks.specs.Walk.{Bits, Entry, Does, Goes, Breaks, Gives}
use Rattle.walks.specs.Bits.{free, constant, number}
use Rattle.gmir.specs.Play.{State, value, step, enter, first}
use Rattle.gmir.specs.Refines.{static_weight}

abbrev pub inst : GOp → List ℕ → List ℕ → ℕ → List ℕ → GInst
inst op defs uses num to = record { op = op; defs = defs; uses = uses; num = num; to = to }

-- the low two bits are known, the third is free
abbrev partly : Bits
partly i = if i == 2 then None else constant 8 249 i

-- a sum is known below the lowest free bit
low_bits : (value Add 8 8 8 0 partly (constant 8 3) (constant 8 0) 1) ≡ Some false
low_bits = refl

not_above : (value Add 8 8 8 0 partly (constant 8 3) (constant 8 0) 3) ≡ None
not_above = refl

-- the least value of a byte by -1 wraps
wraps : number 8 (value SDiv 8 8 8 0 (constant 8 128) (constant 8 255) free) ≡ Some 128
wraps = refl

-- a shift by the width frees the result
too_far : number 8 (value Shl 8 8 8 0 (constant 8 1) (constant 8 8) free) ≡ None
too_far = refl

-- an address of a narrower number has zeros above
low_address : number 64 (value IntToPtr 64 16 0 0 (constant 16 65535) free free) ≡ Some 65535
low_address = refl

-- signed less
below : number 1 (value Icmp 1 8 8 8 (constant 8 255) (constant 8 1) free) ≡ Some 1
below = refl

-- two parameters of five bits, and their quotient
abbrev pub quotient : GFunction
quotient = record {
  symbol = 0;
  values = 3;
  end = 268439552;
  types = S 5 ∷ S 5 ∷ S 5 ∷ [];
  blocks = (inst Param (0 ∷ []) [] 0 [] ∷ inst Param (1 ∷ []) [] 1 [] ∷ inst UDiv (2 ∷ []) (0 ∷ 1 ∷ []) 0 [] ∷ inst Return [] (2 ∷ []) 0 [] ∷ []) ∷ [];
}

-- 160 for the entry, 24 a parameter, 184, and 96
weighs : static_weight quotient ≡ 488
weighs = refl

-- where it goes, and the numbers that are answered
abbrev on : GFunction → State → Does State → Does State
on f s (Goes next) = (step f next).does
on f s other = other

abbrev answer : Does State → Option ℕ
answer (Gives a memory) = number 5 a
answer other = None

abbrev entered : Entry
entered = record { args = constant 5 29 ∷ constant 5 4 ∷ []; memory = []; sp = 1082130432 }

abbrev start : State
start = first quotient entered

abbrev run : GFunction → ℕ → Does State → Does State
run f zero d = d
run f (suc n) d = run f n (on f start d)

opens : (enter quotient entered).does ≡ Goes start
opens = refl

divides : answer (run quotient 4 (Goes start)) ≡ Some 7
divides = refl

-- a divisor 0 is undefined
by_zero : run quotient 3 (Goes (first quotient (record { args = constant 5 29 ∷ constant 5 0 ∷ []; memory = []; sp = 1082130432 }))) ≡ Breaks
by_zero = refl

-- sixteen fresh bytes, two of them filled by 7 and copied: weights, and bytes that are jumps
abbrev bytes : GFunction
bytes = record {
  symbol = 0;
  values = 1;
  end = 268439552;
  types = P0 ∷ S 8 ∷ S 64 ∷ S 64 ∷ P0 ∷ S 16 ∷ [];
  blocks = (inst TakeData (0 ∷ []) [] 16 [] ∷ inst Constant (1 ∷ []) [] 7 [] ∷ inst Constant (2 ∷ []) [] 2 []
      ∷ inst FillBytes [] (0 ∷ 1 ∷ 2 ∷ []) 0 [] ∷ inst Load (5 ∷ []) (0 ∷ []) 16 [] ∷ inst Return [] (5 ∷ []) 0 [] ∷ []) ∷ [];
}

abbrev number_of : Does State → Option ℕ
number_of (Gives a memory) = number 16 a
number_of other = None

abbrev at_start : Does State
at_start = Goes (first bytes (record { args = []; memory = []; sp = 1082130432 }))

seven_twice : number_of (run bytes 6 at_start) ≡ Some 1799
seven_twice = refl
