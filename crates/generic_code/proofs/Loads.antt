-- Literals of operands: the block writes those that it doesn't hold yet one after another, and then each operand's register has its bits.
use Rattle.std.proofs.Common.{◌≡◌, refl, sym, ap, subst, ◌∙◌, ℕ, zero, suc, ◌+◌, ◌*◌, ◌<◌, ◌≤◌, Bool, true, false, cond, List, [], ◌∷◌, ◌++◌, length, Option, Some, None, arith}
use Rattle.std.specs.Prelude.{slice_get, slice_set, slice_index_or, if◌then◌else◌, ◌==◌}
use Rattle.std.specs.Map.{lookup}
use Rattle.std.proofs.lemmas.Bool.{and_parts}
use Rattle.std.proofs.lemmas.List.{append_assoc}
use Rattle.ir_core.specs.Program.{Program}
use Rattle.ir_core.specs.declared.types.Ty.{Ty}
use Rattle.ir_core.specs.declared.types.Ty.TheVariants.{Void, Int, Ptr}
use Rattle.ir_core.specs.declared.code.Operand.{Operand}
use Rattle.ir_core.specs.declared.code.Operand.TheVariants.{Value as Local, Num, Null, Place, Poison}
use Rattle.ir_core.specs.declared.program.Global.{Global}
use Rattle.ir_meaning.specs.Value.{Value}
use Rattle.ir_meaning.specs.Operators.{width}
use Rattle.ir_meaning.specs.Image.{place_address}
use Rattle.ir_meaning.specs.Step.{operand}
use Rattle.ir_meaning.specs.Typed.{IsOperand, IsValueType}
use Rattle.gmir.specs.declared.code.GType.{GType}
use Rattle.gmir.specs.declared.code.GType.TheVariants.{S, P0}
use Rattle.gmir.specs.declared.code.GInst.{GInst}
use Rattle.gmir.specs.declared.code.GFunction.{GFunction}
use Rattle.gmir.specs.Play as play
use Rattle.gmir.specs.Play.{State, step, weight, by, is_legal, width_of}
use Rattle.walks.specs.Walk.{Bits}
use Rattle.walks.specs.Bits.{constant}
use Rattle.walks.specs.Registers.{Registers, write}
use Rattle.walks.specs.Refines.{RefinesBits}
use Rattle.walks.specs.Simulation.{Chain, here, further}
use Rattle.walks.specs.Functions.{bits_of}
use Rattle.generic_code.specs.Literals.{Literal, Pool, type_of, constant as constant_inst, literal, scalar_width, same_literal, find, write_code, write_types, write_register, write_pool, load, loaded, behind, register_of, loads, all_loaded, registers, behind_all}

-- ---- registers of these types stand from a number on

abbrev pub Stand : List GType → ℕ → List GType → Type 0
Stand types next tys = (k : ℕ) (ty : GType) → slice_get tys k ≡ Some ty → slice_get types (next + k) ≡ Some ty

pub stand_first : (types : List GType) (next : ℕ) (ty : GType) (tys : List GType) → Stand types next (ty ∷ tys) → slice_get types next ≡ Some ty
stand_first types next ty tys h = let e : next + 0 ≡ next = omega arith in subst (λ (n : ℕ). slice_get types n ≡ Some ty) e (h 0 ty refl)

pub stand_tail : (types : List GType) (next : ℕ) (ty : GType) (tys : List GType) → Stand types next (ty ∷ tys) → Stand types (next + 1) tys
stand_tail types next ty tys h k t e =
    let count : next + suc k ≡ (next + 1) + k = omega arith in subst (λ (n : ℕ). slice_get types n ≡ Some t) count (h (suc k) t e)

get_first : (xs ys : List GType) (k : ℕ) (ty : GType) → slice_get xs k ≡ Some ty → slice_get (xs ++ ys) k ≡ Some ty
get_first [] ys k ty e = absurd (let bad : ⊥ = cc in bad)
get_first (x ∷ xs) ys zero ty e = e
get_first (x ∷ xs) ys (suc k) ty e = get_first xs ys k ty e

pub stand_front : (types : List GType) (next : ℕ) (xs ys : List GType) → Stand types next (xs ++ ys) → Stand types next xs
stand_front types next xs ys h k ty e = h k ty (get_first xs ys k ty e)

pub stand_rest : (types : List GType) (next : ℕ) (xs ys : List GType) → Stand types next (xs ++ ys) → Stand types (next + length xs) ys
stand_rest types next [] ys h = let e : next ≡ next + 0 = omega arith in subst (λ (n : ℕ). Stand types n ys) e h
stand_rest types next (x ∷ xs) ys h =
    let e : (next + 1) + length xs ≡ next + length (x ∷ xs) = omega arith in
    subst (λ (n : ℕ). Stand types n ys) e (stand_rest types (next + 1) xs ys (stand_tail types next x (xs ++ ys) h))

get_there : (types : List GType) (r : ℕ) (ty z : GType) → slice_get types r ≡ Some ty → slice_index_or types r z ≡ ty
get_there [] r ty z e = absurd (let bad : ⊥ = cc in bad)
get_there (t ∷ ts) zero ty z e = cc
get_there (t ∷ ts) (suc r) ty z e = get_there ts r ty z e

pub width_there : (types : List GType) (r : ℕ) (ty : GType) → slice_get types r ≡ Some ty → play.width types r ≡ width_of ty
width_there types r ty e = ap width_of (get_there types r ty _ e)

pub same_width : (ty : Ty) → (ty ≡ Void → ⊥) → width_of (type_of ty) ≡ width ty
same_width Void h = absurd (h refl)
same_width (Int w) h = refl
same_width Ptr h = refl

pub value_not_void : (ty : Ty) → IsValueType ty → ty ≡ Void → ⊥
value_not_void Void h e = h
value_not_void (Int w) h e = let bad : ⊥ = cc in bad
value_not_void Ptr h e = let bad : ⊥ = cc in bad

-- ---- what a literal's key says of its type

abbrev pub key_type : ℕ → GType
key_type k = if k == 0 then P0 else S k

pub key_is : (ty : Ty) → IsValueType ty → key_type (scalar_width ty) ≡ type_of ty
key_is Void h = absurd h
key_is (Int w) h = let some = h.0 in let e : (w == 0) ≡ false = grind (arith, some) in rw e refl
key_is Ptr h = refl

pub key_width : (ty : Ty) → IsValueType ty → width_of (key_type (scalar_width ty)) ≡ width ty
key_width ty h = ap width_of (key_is ty h) ∙ same_width ty (value_not_void ty h)

same_of : (a b : Literal) → same_literal a b ≡ true → a ≡ b
same_of (k, n) (k', n') e =
    let parts = and_parts (k == k') (n == n') e in
    let first : k ≡ k' = (let h = parts.0 in grind (arith, h)) in
    let second : n ≡ n' = (let h = parts.1 in grind (arith, h)) in
    cc

-- ---- registers behind the literals

abbrev pub put_literal : List GType → Option ℕ → ℕ → ℕ → Registers → Registers
put_literal types None next n regs = write regs next (constant (play.width types next) n)
put_literal types (Some r) next n regs = regs

abbrev pub load_register : List GType → Option ℕ → Ty → Pool → Registers → Registers
load_register types None ty pool regs = regs
load_register types (Some n) ty pool regs = put_literal types (find pool (scalar_width ty, n)) pool.next n regs

-- a register below or above isn't changed
pub other_same : (regs : Registers) (next : ℕ) (a : Bits) (x : ℕ) → (x ≡ next → ⊥) → write regs next a x ≡ regs x
other_same regs next a x h = by_test (x == next) refl
  where
    by_test : (b : Bool) → (x == next) ≡ b → (if b then a else regs x) ≡ regs x
    by_test false e = refl
    by_test true e = absurd (h (let same : x ≡ next = grind (arith, e) in same))

pub written_there : (regs : Registers) (next : ℕ) (a : Bits) → write regs next a next ≡ a
written_there regs next a = let e : (next == next) ≡ true = grind arith in rw e refl

put_below : (types : List GType) (found : Option ℕ) (next n : ℕ) (regs : Registers) (x : ℕ) → x < next → put_literal types found next n regs x ≡ regs x
put_below types None next n regs x h = other_same regs next (constant (play.width types next) n) x (λ e. let bad : ⊥ = omega (arith, h, e) in bad)
put_below types (Some r) next n regs x h = refl

load_below : (types : List GType) (o : Option ℕ) (ty : Ty) (pool : Pool) (regs : Registers) (x : ℕ) → x < pool.next → load_register types o ty pool regs x ≡ regs x
load_below types None ty pool regs x h = refl
load_below types (Some n) ty pool regs x h = put_below types (find pool (scalar_width ty, n)) pool.next n regs x h

write_above : (found : Option ℕ) (key : Literal) (pool : Pool) → pool.next ≤ (write_pool found key pool).next
write_above None key pool = omega arith
write_above (Some r) key pool = omega arith

pub behind_above : (o : Option ℕ) (ty : Ty) (pool : Pool) → pool.next ≤ (behind o ty pool).next
behind_above None ty pool = omega arith
behind_above (Some n) ty pool = write_above (find pool (scalar_width ty, n)) (scalar_width ty, n) pool

pub behind_all_above : (globals : List Global) (ops : List (Ty × Operand)) (pool : Pool) → pool.next ≤ (behind_all globals pool ops).next
behind_all_above globals [] pool = omega arith
behind_all_above globals (one ∷ more) pool =
    let first = behind_above (literal globals one.1) one.0 pool in
    let rest = behind_all_above globals more (behind (literal globals one.1) one.0 pool) in
    omega (arith, first, rest)

-- further registers stand behind those of literals
write_stand : (types : List GType) (found : Option ℕ) (key : Literal) (ty : GType) (pool : Pool) (more : List GType) → Stand types pool.next (write_types found ty ++ more) → Stand types (write_pool found key pool).next more
write_stand types None key ty pool more h = stand_tail types pool.next ty more h
write_stand types (Some r) key ty pool more h = h

load_stand : (types : List GType) (o : Option ℕ) (ty : Ty) (pool : Pool) (more : List GType) → Stand types pool.next (loaded o ty pool ++ more) → Stand types (behind o ty pool).next more
load_stand types None ty pool more h = h
load_stand types (Some n) ty pool more h = write_stand types (find pool (scalar_width ty, n)) (scalar_width ty, n) (type_of ty) pool more h

regroup : (types : List GType) (next : ℕ) (xs ys zs : List GType) → Stand types next ((xs ++ ys) ++ zs) → Stand types next (xs ++ (ys ++ zs))
regroup types next xs ys zs h = subst (λ (z : List GType). Stand types next z) (append_assoc xs ys zs) h

pub stand_behind : (globals : List Global) (types : List GType) (ops : List (Ty × Operand)) (pool : Pool) (more : List GType) → Stand types pool.next (all_loaded globals pool ops ++ more)
    → Stand types (behind_all globals pool ops).next more
stand_behind globals types [] pool more h = h
stand_behind globals types (one ∷ ops) pool more h =
    stand_behind globals types ops (behind (literal globals one.1) one.0 pool) more
    (load_stand types (literal globals one.1) one.0 pool (all_loaded globals (behind (literal globals one.1) one.0 pool) ops ++ more)
    (regroup types pool.next (loaded (literal globals one.1) one.0 pool) (all_loaded globals (behind (literal globals one.1) one.0 pool) ops) more h))

-- a constant weighs 24 or less
pub by_most : (legal : Bool) (m n k : ℕ) → m ≤ k → n ≤ k → by legal m n ≤ k
by_most true m n k h h' = h
by_most false m n k h h' = h'

module _ (globals : List Global) (f : GFunction) where
  abbrev pub registers_behind : Pool → List (Ty × Operand) → Registers → Registers
  registers_behind pool [] regs = regs
  registers_behind pool (one ∷ more) regs =
      registers_behind (behind (literal globals one.1) one.0 pool) more (load_register f.types (literal globals one.1) one.0 pool regs)

  pub unchanged : (ops : List (Ty × Operand)) (pool : Pool) (regs : Registers) (x : ℕ) → x < pool.next → registers_behind pool ops regs x ≡ regs x
  unchanged [] pool regs x h = refl
  unchanged (one ∷ more) pool regs x h =
      let low = behind_above (literal globals one.1) one.0 pool in
      unchanged more (behind (literal globals one.1) one.0 pool) (load_register f.types (literal globals one.1) one.0 pool regs) x (omega (arith, h, low))
      ∙ load_below f.types (literal globals one.1) one.0 pool regs x h

  -- the literals run, and leave these registers
  abbrev pub Runs : State → List GInst → List GInst → Registers → ℕ → Type 0
  Runs s code r regs most =
      (w : ℕ) × Chain State (step f) (step f (record s { rest = code ++ r })) (step f (record s { rest = r; regs = regs })) w 0 × (w ≤ most)

  put_runs : (s : State) (found : Option ℕ) (next n most : ℕ) (code r : List GInst) (regs : Registers)
      → Runs (record s { regs = put_literal f.types found next n s.regs }) code r regs most → Runs s (write_code found next n ++ code) r regs (24 + most)
  put_runs s (Some q) next n most code r regs (w, chain, low) = (w, chain, omega (arith, low))
  put_runs s None next n most code r regs (w, chain, low) =
      let light = by_most (is_legal f.types (constant_inst next n)) 12 24 24 (omega arith) (omega arith) in (
        weight f.types (constant_inst next n) + w,
        further (record s { rest = code ++ r; regs = put_literal f.types None next n s.regs }) refl chain,
        omega (arith, low, light),
      )

  one_runs : (s : State) (o : Option ℕ) (ty : Ty) (pool : Pool) (most : ℕ) (code r : List GInst) (regs : Registers)
      → Runs (record s { regs = load_register f.types o ty pool s.regs }) code r regs most → Runs s (load o ty pool ++ code) r regs (24 + most)
  one_runs s None ty pool most code r regs (w, chain, low) = (w, chain, omega (arith, low))
  one_runs s (Some n) ty pool most code r regs run = put_runs s (find pool (scalar_width ty, n)) pool.next n most code r regs run

  pub loads_run : (ops : List (Ty × Operand)) (s : State) (pool : Pool) (r : List GInst)
      → Runs s (loads globals pool ops) r (registers_behind pool ops s.regs) (24 * length ops)
  loads_run [] s pool r = (0, here, omega arith)
  loads_run (one ∷ more) s pool r =
      let rest = loads_run more (record s { regs = load_register f.types (literal globals one.1) one.0 pool s.regs }) (behind (literal globals one.1) one.0 pool) r in
      let all = one_runs s (literal globals one.1) one.0 pool (24 * length more) (loads globals (behind (literal globals one.1) one.0 pool) more) r
      (registers_behind pool (one ∷ more) s.regs) rest in
      (all.0, all.1, (let low = all.2 in let e : 24 + 24 * length more ≡ 24 * length (one ∷ more) = omega arith in omega (arith, low, e)))

-- ---- the literals that registers hold

-- a register beyond those of these values, and below the free ones, has the type and the bits of its literal
pub record IsKnown (f : GFunction) (tys : List Ty) (next : ℕ) (regs : Registers) (entry : Literal × ℕ) : Type 0 where
  pub type : slice_get f.types entry.1 ≡ Some (key_type entry.0.0)
  pub bits : RefinesBits (constant (width_of (key_type entry.0.0)) entry.0.1) (regs entry.1)
  pub above : length tys ≤ entry.1
  pub below : entry.1 < next

abbrev pub AllKnown : GFunction → List Ty → ℕ → Registers → List (Literal × ℕ) → Type 0
AllKnown f tys next regs [] = Unit {0}
AllKnown f tys next regs (entry ∷ entries) = IsKnown f tys next regs entry × AllKnown f tys next regs entries

-- the free registers stand behind those of values, and each literal that is known is held
pub record Known (f : GFunction) (tys : List Ty) (pool : Pool) (regs : Registers) : Type 0 where
  pub low : length tys ≤ pool.next
  pub all : AllKnown f tys pool.next regs pool.known

module _ (f : GFunction) (tys : List Ty) where
  known_first : (next : ℕ) (regs : Registers) (entries : List (Literal × ℕ)) (one : Literal) (r : ℕ) → AllKnown f tys next regs entries → lookup (same_literal one) entries ≡ Some r → IsKnown f tys next regs (one, r)
  known_first next regs [] one r all e = absurd (let bad : ⊥ = cc in bad)
  known_first next regs (entry ∷ entries) one r all e = by_test (λ e'. known_first next regs entries one r all.1 e') (same_literal one entry.0) refl e
    where
      by_test : (lookup (same_literal one) entries ≡ Some r → IsKnown f tys next regs (one, r)) → (b : Bool) → same_literal one entry.0 ≡ b → cond b (Some entry.1) (lookup (same_literal one) entries) ≡ Some r → IsKnown f tys next regs (one, r)
      by_test rest false t e' = rest e'
      by_test rest true t e' =
          let key : one ≡ entry.0 = same_of one entry.0 t in
          let register : entry.1 ≡ r = cc in
          subst (λ (z : Literal). IsKnown f tys next regs (z, r)) (sym key) (subst (λ (z : ℕ). IsKnown f tys next regs (entry.0, z)) register all.0)

  all_keep : (next next' : ℕ) (regs regs' : Registers) (entries : List (Literal × ℕ)) → next ≤ next' → ((x : ℕ) → length tys ≤ x → x < next → regs' x ≡ regs x)
      → AllKnown f tys next regs entries → AllKnown f tys next' regs' entries
  all_keep next next' regs regs' [] up same all = tt
  all_keep next next' regs regs' (entry ∷ entries) up same all =
      let below = all.0.below in (
        record {
          type = all.0.type;
          bits = subst (RefinesBits (constant (width_of (key_type entry.0.0)) entry.0.1)) (sym (same entry.1 all.0.above all.0.below)) all.0.bits;
          above = all.0.above;
          below = omega (arith, below, up);
        },
        all_keep next next' regs regs' entries up same all.1,
      )

  all_more : (next : ℕ) (regs : Registers) (entries : List (Literal × ℕ)) (entry : Literal × ℕ) → AllKnown f tys next regs entries → IsKnown f tys next regs entry → AllKnown f tys next regs (entries ++ entry ∷ [])
  all_more next regs [] entry all one = (one, tt)
  all_more next regs (e ∷ entries) entry all one = (all.0, all_more next regs entries entry all.1 one)

  -- more registers, and registers of values that change, leave what is known
  pub known_keep : (pool : Pool) (next' : ℕ) (regs regs' : Registers) → pool.next ≤ next' → ((x : ℕ) → length tys ≤ x → x < pool.next → regs' x ≡ regs x)
      → Known f tys pool regs → Known f tys (record { next = next'; known = pool.known }) regs'
  known_keep pool next' regs regs' up same h =
      let low = h.low in record { low = omega (arith, low, up); all = all_keep pool.next next' regs regs' pool.known up same h.all }

  -- the register of a value is written
  pub known_write : (pool : Pool) (regs : Registers) (n : ℕ) (a : Bits) → n < length tys → Known f tys pool regs → Known f tys pool (write regs n a)
  known_write pool regs n a small h = known_keep pool pool.next regs (write regs n a) (omega arith) (λ x up below. other_same regs n a x (λ e. let bad : ⊥ = omega (arith, e, up, small) in bad)) h

  -- the first free register is written, and is free no more
  pub known_next : (pool : Pool) (regs : Registers) (a : Bits) → Known f tys pool regs → Known f tys (record { next = pool.next + 1; known = pool.known }) (write regs pool.next a)
  known_next pool regs a h = known_keep pool (pool.next + 1) regs (write regs pool.next a) (omega arith) (λ x up below. other_same regs pool.next a x (λ e. let bad : ⊥ = omega (arith, e, below) in bad)) h

  -- the first two free registers are
  pub known_second : (pool : Pool) (regs : Registers) (a b : Bits) → Known f tys pool regs → Known f tys (record { next = pool.next + 2; known = pool.known }) (write (write regs pool.next a) (pool.next + 1) b)
  known_second pool regs a b h =
      known_keep pool (pool.next + 2) regs (write (write regs pool.next a) (pool.next + 1) b) (omega arith)
      (λ x up below. other_same (write regs pool.next a) (pool.next + 1) b x (λ e. let bad : ⊥ = omega (arith, e, below) in bad) ∙ other_same regs pool.next a x (λ e. let bad : ⊥ = omega (arith, e, below) in bad)) h

  pub known_empty : (next : ℕ) (regs : Registers) → length tys ≤ next → Known f tys (record { next = next; known = [] }) regs
  known_empty next regs low = record { low = low; all = tt }

  -- one literal
  put_known : (found : Option ℕ) (ty : Ty) (n : ℕ) (pool : Pool) (regs : Registers) → IsValueType ty → find pool (scalar_width ty, n) ≡ found → Known f tys pool regs
      → Stand f.types pool.next (write_types found (type_of ty))
      → Known f tys (write_pool found (scalar_width ty, n) pool) (put_literal f.types found pool.next n regs)
      × IsKnown f tys (write_pool found (scalar_width ty, n) pool).next (put_literal f.types found pool.next n regs) ((scalar_width ty, n), write_register found pool.next)
  put_known (Some r) ty n pool regs some e h stand = (h, known_first pool.next regs pool.known (scalar_width ty, n) r h.all e)
  put_known None ty n pool regs some e h stand = (record { low = kept.low; all = all_more (pool.next + 1) after pool.known ((scalar_width ty, n), pool.next) kept.all entry }, entry)
    where
      after : Registers
      after = write regs pool.next (constant (play.width f.types pool.next) n)

      kept : Known f tys (record { next = pool.next + 1; known = pool.known }) after
      kept = known_next pool regs (constant (play.width f.types pool.next) n) h

      type_is : slice_get f.types pool.next ≡ Some (key_type (scalar_width ty))
      type_is = stand_first f.types pool.next (type_of ty) [] stand ∙ ap Some (sym (key_is ty some))

      entry : IsKnown f tys (pool.next + 1) after ((scalar_width ty, n), pool.next)
      entry =
          let low = h.low in
          record {
            type = type_is;
            bits =
                subst (RefinesBits (constant (width_of (key_type (scalar_width ty))) n)) (sym (written_there regs pool.next (constant (play.width f.types pool.next) n)))
                (subst (λ (w : ℕ). RefinesBits (constant (width_of (key_type (scalar_width ty))) n) (constant w n)) (sym (width_there f.types pool.next (key_type (scalar_width ty)) type_is)) (λ i b e. e));
            above = low;
            below = omega arith;
          }

  pub literal_known : (ty : Ty) (n : ℕ) (pool : Pool) (regs : Registers) → IsValueType ty → Known f tys pool regs → Stand f.types pool.next (loaded (Some n) ty pool)
      → Known f tys (behind (Some n) ty pool) (load_register f.types (Some n) ty pool regs)
      × IsKnown f tys (behind (Some n) ty pool).next (load_register f.types (Some n) ty pool regs) ((scalar_width ty, n), write_register (find pool (scalar_width ty, n)) pool.next)
  literal_known ty n pool regs some h stand = put_known (find pool (scalar_width ty, n)) ty n pool regs some refl h stand

  load_known : (o : Option ℕ) (ty : Ty) (pool : Pool) (regs : Registers) → IsValueType ty → Known f tys pool regs → Stand f.types pool.next (loaded o ty pool)
      → Known f tys (behind o ty pool) (load_register f.types o ty pool regs)
  load_known None ty pool regs some h stand = h
  load_known (Some n) ty pool regs some h stand = (literal_known ty n pool regs some h stand).0

-- ---- what the operands' registers have

-- registers below a number
abbrev pub AllBelow : ℕ → List ℕ → Type 0
AllBelow n [] = Unit {0}
AllBelow n (r ∷ rs) = (r < n) × AllBelow n rs

module _ (program : Program) (f : GFunction) (tys : List Ty) (values : List Value) where
  -- the register of each value has its bits
  abbrev pub Holds : Registers → Type 0
  Holds regs = (n : ℕ) (ty : Ty) → slice_get tys n ≡ Some ty → RefinesBits (bits_of (width ty) (slice_index_or values n None)) (regs n)

  abbrev globals : List Global
  globals = program.module_.globals

  -- the bits of an operand of a type
  abbrev pub operand_bits : Ty × Operand → Bits
  operand_bits one = bits_of (width one.0) (operand program values one.1)

  pub value_below : (n : ℕ) (ty : Ty) (ts : List Ty) → slice_get ts n ≡ Some ty → n < length ts
  value_below n ty [] e = absurd (let bad : ⊥ = cc in bad)
  value_below zero ty (t ∷ ts) e = omega arith
  value_below (suc n) ty (t ∷ ts) e = let low = value_below n ty ts e in omega (arith, low)

  -- the registers of values have their types
  abbrev pub ValuesTyped : Type 0
  ValuesTyped = (n : ℕ) (ty : Ty) → slice_get tys n ≡ Some ty → slice_get f.types n ≡ Some (type_of ty)

  -- an operand's register has its bits and its type's width, and lies below the free ones
  pub record IsReady (regs : Registers) (next : ℕ) (one : Ty × Operand) (r : ℕ) : Type 0 where
    pub bits : RefinesBits (operand_bits one) (regs r)
    pub wide : play.width f.types r ≡ width one.0
    pub below : r < next

  ready_literal : (ty : Ty) (o : Operand) (n : ℕ) (pool : Pool) (regs : Registers) → IsValueType ty → RefinesBits (operand_bits (ty, o)) (constant (width ty) n) → Known f tys pool regs
      → Stand f.types pool.next (loaded (Some n) ty pool)
      → IsReady (load_register f.types (Some n) ty pool regs) (behind (Some n) ty pool).next (ty, o) (write_register (find pool (scalar_width ty, n)) pool.next)
  ready_literal ty o n pool regs some row h stand =
      let entry = (literal_known f tys ty n pool regs some h stand).1 in
      record {
        bits = λ i b e. entry.bits i b (subst (λ (w : ℕ). constant w n i ≡ Some b) (sym (key_width ty some)) (row i b e));
        wide = width_there f.types (write_register (find pool (scalar_width ty, n)) pool.next) (key_type (scalar_width ty)) entry.type ∙ key_width ty some;
        below = entry.below;
      }

  first_ready : (ty : Ty) (o : Operand) (pool : Pool) (regs : Registers) → IsValueType ty → IsOperand tys ty o → ValuesTyped → Known f tys pool regs → Holds regs
      → Stand f.types pool.next (loaded (literal globals o) ty pool)
      → IsReady (load_register f.types (literal globals o) ty pool regs) (behind (literal globals o) ty pool).next (ty, o) (register_of o (literal globals o) ty pool)
  first_ready ty (Local n) pool regs some is typed h holds stand =
      let below = value_below n ty tys is in
      let low = h.low in
      record { bits = holds n ty is; wide = width_there f.types n (type_of ty) (typed n ty is) ∙ same_width ty (value_not_void ty some); below = omega (arith, below, low) }
  first_ready ty (Num n) pool regs some is typed h holds stand = ready_literal ty (Num n) n pool regs some (λ i b e. e) h stand
  first_ready ty Null pool regs some is typed h holds stand = ready_literal ty Null 0 pool regs some (λ i b e. e) h stand
  first_ready ty (Place g o) pool regs some is typed h holds stand = ready_literal ty (Place g o) (place_address program.module_.globals g o) pool regs some (λ i b e. e) h stand
  first_ready ty Poison pool regs some is typed h holds stand = ready_literal ty Poison 0 pool regs some (λ i b e. absurd (let bad : ⊥ = cc in bad)) h stand

  -- each operand's register is ready
  abbrev pub AllReady : Registers → ℕ → List (Ty × Operand) → List ℕ → Type 0
  AllReady regs next [] [] = Unit {0}
  AllReady regs next (one ∷ more) (r ∷ rs) = IsReady regs next one r × AllReady regs next more rs
  AllReady regs next _ _ = ⊥

  -- operands of types that values may have
  abbrev pub AreTyped : List (Ty × Operand) → Type 0
  AreTyped [] = Unit {0}
  AreTyped (one ∷ more) = IsValueType one.0 × IsOperand tys one.0 one.1 × AreTyped more

  -- the values' registers hold still
  still : (o : Option ℕ) (ty : Ty) (pool : Pool) (regs : Registers) → Known f tys pool regs → Holds regs → Holds (load_register f.types o ty pool regs)
  still o ty pool regs h holds n t is =
      let below = value_below n t tys is in
      let low = h.low in
      rw (load_below f.types o ty pool regs n (omega (arith, low, below))) (holds n t is)

  -- what the literals of operands leave
  pub record Prepared (pool : Pool) (ops : List (Ty × Operand)) (regs : Registers) : Type 0 where
    pub known : Known f tys (behind_all globals pool ops) regs
    pub holds : Holds regs
    pub ready : AllReady regs (behind_all globals pool ops).next ops (registers globals pool ops)

  pub prepared : (ops : List (Ty × Operand)) (pool : Pool) (regs : Registers) → AreTyped ops → ValuesTyped → Known f tys pool regs → Holds regs → Stand f.types pool.next (all_loaded globals pool ops)
      → Prepared pool ops (registers_behind globals f pool ops regs)
  prepared [] pool regs are typed h holds stand = record { known = h; holds = holds; ready = tt }
  prepared (one ∷ more) pool regs are typed h holds stand =
      let stand_one = stand_front f.types pool.next (loaded (literal globals one.1) one.0 pool) (all_loaded globals (behind (literal globals one.1) one.0 pool) more) stand in
      let first = first_ready one.0 one.1 pool regs are.0 are.1 typed h holds stand_one in
      let known_one = load_known f tys (literal globals one.1) one.0 pool regs are.0 h stand_one in
      let rest = prepared more (behind (literal globals one.1) one.0 pool) (load_register f.types (literal globals one.1) one.0 pool regs) are.2 typed known_one
      (still (literal globals one.1) one.0 pool regs h holds)
      (load_stand f.types (literal globals one.1) one.0 pool (all_loaded globals (behind (literal globals one.1) one.0 pool) more) stand) in
      let up = behind_all_above globals more (behind (literal globals one.1) one.0 pool) in
      let below = first.below in
      record {
        known = rest.known;
        holds = rest.holds;
        ready = (
          record {
            bits =
                subst (RefinesBits (operand_bits one))
                (sym (unchanged globals f more (behind (literal globals one.1) one.0 pool) (load_register f.types (literal globals one.1) one.0 pool regs) (register_of one.1 (literal globals one.1) one.0 pool) first.below)) first.bits;
            wide = first.wide;
            below = omega (arith, below, up);
          },
          rest.ready,
        );
      }

  abbrev pub Readied : Pool → List (Ty × Operand) → Registers → Type 0
  Readied pool ops regs = AllReady (registers_behind globals f pool ops regs) (behind_all globals pool ops).next ops (registers globals pool ops)

  -- behind the literals the values' registers hold still
  pub hold_behind : (ops : List (Ty × Operand)) (pool : Pool) (regs : Registers) → Known f tys pool regs → Holds regs → Holds (registers_behind globals f pool ops regs)
  hold_behind ops pool regs h holds n ty is =
      let below = value_below n ty tys is in
      let low = h.low in
      rw (unchanged globals f ops pool regs n (omega (arith, low, below))) (holds n ty is)

-- ---- a value is written

eq_of : (k n : ℕ) → (k == n) ≡ true → k ≡ n
eq_of k n e = grind arith

set_first : (values : List Value) (n : ℕ) (v : Value) (w : ℕ) (a : Bits) → RefinesBits (bits_of w v) a → RefinesBits (bits_of w (slice_index_or (slice_set values n v) n None)) a
set_first [] n v w a h = λ i b e. absurd (let bad : ⊥ = cc in bad)
set_first (x ∷ xs) zero v w a h = h
set_first (x ∷ xs) (suc n) v w a h = set_first xs n v w a h

set_other : (values : List Value) (n k : ℕ) (v : Value) → (k ≡ n → ⊥) → slice_index_or (slice_set values n v) k None ≡ slice_index_or values k None
set_other [] n k v h = refl
set_other (x ∷ xs) zero zero v h = absurd (h refl)
set_other (x ∷ xs) zero (suc k) v h = refl
set_other (x ∷ xs) (suc n) zero v h = refl
set_other (x ∷ xs) (suc n) (suc k) v h = set_other xs n k v (λ e. h (ap suc e))

pub holds_set : (program : Program) (f : GFunction) (tys : List Ty) (values : List Value) (regs : Registers) (n : ℕ) (ty : Ty) (v : Value) (a : Bits) → slice_get tys n ≡ Some ty
    → Holds program f tys values regs → RefinesBits (bits_of (width ty) v) a → Holds program f tys (slice_set values n v) (write regs n a)
holds_set program f tys values regs n ty v a at holds h k t is = by_place (k == n) refl
  where
    by_place : (same : Bool) → (k == n) ≡ same → RefinesBits (bits_of (width t) (slice_index_or (slice_set values n v) k None)) (if same then a else regs k)
    by_place true e =
        let is_n : k ≡ n = eq_of k n e in
        let one : Some t ≡ Some ty = sym is ∙ ap (slice_get tys) is_n ∙ at in
        let type : t ≡ ty = cc in
        subst (λ (z : ℕ). RefinesBits (bits_of (width t) (slice_index_or (slice_set values n v) z None)) a) (sym is_n)
        (set_first values n v (width t) a (subst (λ (z : Ty). RefinesBits (bits_of (width z) v) a) (sym type) h))
    by_place false e =
        let other : k ≡ n → ⊥ = λ same. let bad : (k == n) ≡ true = grind (arith, same) in let no_way : ⊥ = cc in no_way in
        rw (set_other values n k v other) (holds k t is)
