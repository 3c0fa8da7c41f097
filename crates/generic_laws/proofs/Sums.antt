-- What holds of each instruction of a sum of an address, where it holds of all of six operations that compute.
use Rattle.std.proofs.Common.{◌≡◌, refl, ℕ, ◌%◌, ◌^◌, Bool, true, false, List, [], ◌∷◌, ◌++◌, Option, Some, None}
use Rattle.std.specs.Prelude.{◌==◌, if◌then◌else◌}
use Rattle.ir_core.specs.declared.types.Ty.{Ty}
use Rattle.ir_core.specs.declared.code.Operand.{Operand}
use Rattle.ir_core.specs.declared.program.Global.{Global}
use Rattle.ir_verify.proofs.Lists.{Every, every_both}
use Rattle.gmir.specs.declared.code.GOp.{GOp}
use Rattle.gmir.specs.declared.code.GOp.TheVariants as g
use Rattle.gmir.specs.declared.code.GInst.{GInst}
use Rattle.generic_code.specs.Literals.{Pool, plain, constant, literal, scalar_width, find, write_code, load, loads, behind}
use Rattle.generic_code.specs.Parts.{Addend, Bytes, Times, Left, extended, exponent, scale_by, literal_64, with_literal, multiplied, left_of, sum_code}

-- an operation that a sum of an address takes
abbrev pub summing : GOp → Bool
summing g.Constant = true
summing g.SExt = true
summing g.Shl = true
summing g.Mul = true
summing g.PtrAdd = true
summing g.Copy = true
summing _ = false

module _ (globals : List Global) (P : GInst → Type 0) (ok : (i : GInst) → summing i.op ≡ true → P i) where
  each_write : (o : Option ℕ) (next n : ℕ) → Every P (write_code o next n)
  each_write None next n = (ok (constant next n) refl, tt)
  each_write (Some r) next n = tt

  each_load : (o : Option ℕ) (ty : Ty) (pool : Pool) → Every P (load o ty pool)
  each_load None ty pool = tt
  each_load (Some n) ty pool = each_write (find pool (scalar_width ty, n)) pool.next n

  pub each_loads : (pool : Pool) (ops : List (Ty × Operand)) → Every P (loads globals pool ops)
  each_loads pool [] = tt
  each_loads pool (one ∷ more) =
      every_both P (load (literal globals one.1) one.0 pool) (loads globals (behind (literal globals one.1) one.0 pool) more) (each_load (literal globals one.1) one.0 pool)
      (each_loads (behind (literal globals one.1) one.0 pool) more)

  pub loads_then : (pool : Pool) (ops : List (Ty × Operand)) (code : List GInst) → Every P code → Every P (loads globals pool ops ++ code)
  loads_then pool ops code h = every_both P (loads globals pool ops) code (each_loads pool ops) h

  -- ---- addresses of parts

  each_if : (t : Bool) (x y : Left) → Every P x.code → Every P y.code → Every P (if t then x else y).code
  each_if true x y h h' = h
  each_if false x y h h' = h'

  each_extended : (t : Bool) (pool : Pool) (number : ℕ) → Every P (extended t pool number).code
  each_extended true pool number = tt
  each_extended false pool number = (ok (plain g.SExt (pool.next ∷ []) (number ∷ []) 0) refl, tt)

  scaled : (o : Option ℕ) (size : ℕ) → summing (scale_by o size).0 ≡ true
  scaled None size = refl
  scaled (Some k) size = refl

  each_multiplied : (size : ℕ) (pool : Pool) (number : ℕ) → Every P (multiplied globals size pool number).code
  each_multiplied size pool number =
      each_if (size == 1) (record { code = []; types = []; register = number; pool = pool }) (with_literal globals (scale_by (exponent size) size) pool number) tt
      (loads_then pool (literal_64 (scale_by (exponent size) size).1) _ (ok _ (scaled (exponent size) size), tt))

  each_left : (a : Addend) (pool : Pool) → Every P (left_of globals a pool).code
  each_left (Bytes count) pool = each_loads pool (literal_64 count)
  each_left (Times w number size) pool =
      every_both P (extended (w == 64) pool number).code _ (each_extended (w == 64) pool number)
      (each_multiplied (size % 2 ^ 64) (extended (w == 64) pool number).pool (extended (w == 64) pool number).register)

  pub each_sum : (result from : ℕ) (pool : Pool) (all : List Addend) → Every P (sum_code globals result from pool all)
  each_sum result from pool [] = (ok (plain g.Copy (result ∷ []) (from ∷ []) 0) refl, tt)
  each_sum result from pool (a ∷ []) = every_both P (left_of globals a pool).code _ (each_left a pool) (ok _ refl, tt)
  each_sum result from pool (a ∷ two ∷ more) = every_both P (left_of globals a pool).code _ (each_left a pool) (ok _ refl, each_sum result (left_of globals a pool).pool.next _ (two ∷ more))
