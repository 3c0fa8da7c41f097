-- What the end of a block has written, kind by kind.
use Rattle.std.proofs.Common.{◌≡◌, refl, sym, ap, ap₂, ◌∙◌, ℕ, zero, suc, ◌+◌, List, [], ◌∷◌, length, drop, get_or, ◌<◌, true, arith}
use Rattle.std.specs.Prelude.{◌==◌}
use Rattle.std.proofs.lemmas.Bool.{eqb-true}
use Rattle.std.proofs.lemmas.List.{drop_all}
use Rattle.ir_core.specs.declared.types.Ty.{Ty}
use Rattle.ir_core.specs.declared.types.Ty.TheVariants.{Int}
use Rattle.ir_core.specs.declared.code.Operand.{Operand}
use Rattle.ir_core.specs.declared.code.Op.{Op}
use Rattle.ir_core.specs.declared.code.Op.TheVariants.{Br}
use Rattle.ir_core.specs.declared.program.Function.{Function}
use Rattle.ir_core.specs.declared.program.Global.{Global}
use Rattle.generic_code.specs.Literals.{loads, all_loaded, behind_all, registers}
use Rattle.generic_code.specs.Parts.{first_register}
use Rattle.generic_code.specs.Edges.{no_ending, ending_behind, jump, branch, tests, ending_of}
use Rattle.ir_translator_emit.specs.Written.{Written, put, put_edge, put_reads}
use Rattle.ir_translator_emit.specs.Jumps.{whole, jumped, branched}
use Rattle.ir_translator_emit.specs.Forms.{AreLed}
use Rattle.ir_translator_emit.proofs.Wholes.{whole_put, jump_whole, branch_whole, rest_cases}

-- a case leads to a block
pub led_at : (blocks : ℕ) (cases : List (ℕ × ℕ)) (i : ℕ) (d : ℕ × ℕ) → i < length cases → AreLed blocks cases → (get_or cases i d).1 < blocks
led_at blocks [] i d lt h = absurd (let bad : ⊥ = omega (arith, lt) in bad)
led_at blocks (one ∷ cases) zero d lt h = h.0
led_at blocks (one ∷ cases) (suc i) d lt h = led_at blocks cases i d (omega (arith, lt)) h.1

-- the last test of a switch, whose other cases are written
pub tests_end : (globals : List Global) (function : Function) (w u total : Written) (from at : ℕ) (of : Ty) (r otherwise : ℕ) (cases : List (ℕ × ℕ)) (i last : ℕ) (d : ℕ × ℕ) → last + 1 ≡ length cases → i ≡ last → w.globals ≡ globals → w.function ≡ function
    → whole w (tests globals function from of r otherwise at w.pool w.own (drop i cases)) ≡ total
    → whole u no_ending ≡ whole w (tests w.globals w.function from of r otherwise at w.pool w.own (get_or cases last d ∷ []))
    → whole u no_ending ≡ total
tests_end globals function w u total from at of r otherwise cases i last d e is g f h b =
    let none : drop (i + 1) cases ≡ [] = drop_all (i + 1) cases (omega (arith, e, is)) in
    let here : drop i cases ≡ get_or cases last d ∷ [] = rest_cases globals function from cases i d (omega (arith, e, is)) ∙ ap₂ (λ (n : ℕ) (xs : List (ℕ × ℕ)). get_or cases n d ∷ xs) is none in
    b ∙ ap₂ (λ (x : List Global) (y : Function). whole w (tests x y from of r otherwise at w.pool w.own (get_or cases last d ∷ []))) g f
    ∙ ap (λ (xs : List (ℕ × ℕ)). whole w (tests globals function from of r otherwise at w.pool w.own xs)) (sym here) ∙ h

-- a list without items
pub none_of : (cases : List (ℕ × ℕ)) → true ≡ (length cases == 0) → cases ≡ []
none_of [] e = refl
none_of (one ∷ cases) e = absurd (let none = eqb-true (length (one ∷ cases)) 0 (sym e) in let bad : ⊥ = omega (arith, none) in bad)

-- a jump takes no block
pub jumped_own : (globals : List Global) (function : Function) (w u : Written) (from at to : ℕ) → u ≡ jumped globals function from w at to → u.own ≡ w.own
unfolding jumped put_edge put
jumped_own globals function w u from at to e = ap (λ (x : Written). x.own) e

-- a jump ends a block
pub br_whole : (from : ℕ) (w u : Written) (op : Op) (to : ℕ) → op ≡ Br to → u ≡ jumped w.globals w.function from w from to → whole u no_ending ≡ whole w (ending_of w.globals w.function from w.pool w.own op)
br_whole from w u op to is e =
    ap (λ (x : Written). whole x no_ending) e ∙ jump_whole w.globals w.function from w from to
    ∙ ap (λ (o : Op). whole w (ending_of w.globals w.function from w.pool w.own o)) (sym is)

module _ (from : ℕ) where
  -- one operand, which is read first
  abbrev read_one : Ty → Operand → List (Ty × Operand)
  read_one ty a = (ty, a) ∷ []

  read_same : (w v : Written) (ty : Ty) (a : Operand) → v ≡ put_reads w (read_one ty a) → (v.globals ≡ w.globals) × (v.function ≡ w.function)
  unfolding put
  read_same w v ty a e = (ap (λ (x : Written). x.globals) e, ap (λ (x : Written). x.function) e)

  pub conditional_whole : (w v u : Written) (condition : Operand) (bit one other : ℕ) → v ≡ put_reads w (read_one (Int 1) condition)
      → bit ≡ first_register (registers w.globals w.pool (read_one (Int 1) condition)) → u ≡ branched v.globals v.function from v from bit one other
      → whole u no_ending ≡ whole w (ending_behind (loads w.globals w.pool (read_one (Int 1) condition)) (all_loaded w.globals w.pool (read_one (Int 1) condition))
      (branch w.globals w.function from from (behind_all w.globals w.pool (read_one (Int 1) condition)).next w.own (first_register (registers w.globals w.pool (read_one (Int 1) condition))) one other))
  unfolding put
  conditional_whole w v u condition bit one other e is b =
      let same = read_same w v (Int 1) condition e in
      let read : List (Ty × Operand) = read_one (Int 1) condition in
      let number : ℕ = first_register (registers w.globals w.pool read) in
      ap (λ (x : Written). whole x no_ending)
      (b ∙ ap₂ (λ (g : List Global) (f : Function). branched g f from v from bit one other) same.0 same.1 ∙ ap₂ (λ (x : Written) (n : ℕ). branched w.globals w.function from x from n one other) e is)
      ∙ branch_whole w.globals w.function from (put_reads w read) from number one other
      ∙ whole_put w (loads w.globals w.pool read) (all_loaded w.globals w.pool read) (behind_all w.globals w.pool read) (branch w.globals w.function from from (behind_all w.globals w.pool read).next w.own number one other)

  -- a switch without cases
  pub none_whole : (w v u : Written) (of : Ty) (a : Operand) (r otherwise : ℕ) (cases : List (ℕ × ℕ)) → v ≡ put_reads w (read_one of a) → cases ≡ [] → u ≡ jumped v.globals v.function from v from otherwise
      → whole u no_ending ≡ whole w (ending_behind (loads w.globals w.pool (read_one of a)) (all_loaded w.globals w.pool (read_one of a))
      (tests w.globals w.function from of r otherwise from (behind_all w.globals w.pool (read_one of a)) w.own cases))
  unfolding put
  none_whole w v u of a r otherwise cases e none b =
      let same = read_same w v of a e in
      let read : List (Ty × Operand) = read_one of a in
      ap (λ (x : Written). whole x no_ending)
      (b ∙ ap₂ (λ (g : List Global) (f : Function). jumped g f from v from otherwise) same.0 same.1 ∙ ap (λ (x : Written). jumped w.globals w.function from x from otherwise) e)
      ∙ jump_whole w.globals w.function from (put_reads w read) from otherwise
      ∙ whole_put w (loads w.globals w.pool read) (all_loaded w.globals w.pool read) (behind_all w.globals w.pool read) (jump w.globals w.function from from (behind_all w.globals w.pool read) otherwise)
      ∙ ap (λ (cs : List (ℕ × ℕ)). whole w (ending_behind (loads w.globals w.pool read) (all_loaded w.globals w.pool read) (tests w.globals w.function from of r otherwise from (behind_all w.globals w.pool read) w.own cs))) (sym none)

  -- a switch by its tests
  pub switch_whole : (w v u : Written) (of : Ty) (a : Operand) (r otherwise : ℕ) (cases : List (ℕ × ℕ)) → v ≡ put_reads w (read_one of a) → r ≡ first_register (registers w.globals w.pool (read_one of a))
      → whole u no_ending ≡ whole v (tests v.globals v.function from of r otherwise from v.pool v.own cases)
      → whole u no_ending ≡ whole w (ending_behind (loads w.globals w.pool (read_one of a)) (all_loaded w.globals w.pool (read_one of a))
      (tests w.globals w.function from of (first_register (registers w.globals w.pool (read_one of a))) otherwise from (behind_all w.globals w.pool (read_one of a)) w.own cases))
  unfolding put
  switch_whole w v u of a r otherwise cases e is b =
      let read : List (Ty × Operand) = read_one of a in
      let number : ℕ = first_register (registers w.globals w.pool read) in
      b ∙ ap₂ (λ (x : Written) (n : ℕ). whole x (tests x.globals x.function from of n otherwise from x.pool x.own cases)) e is
      ∙ whole_put w (loads w.globals w.pool read) (all_loaded w.globals w.pool read) (behind_all w.globals w.pool read)
      (tests w.globals w.function from of number otherwise from (behind_all w.globals w.pool read) w.own cases)
