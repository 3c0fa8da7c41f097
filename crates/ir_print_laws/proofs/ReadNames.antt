-- What names inside a function that is read stand for is there.
use Rattle.std.proofs.Common.{◌≡◌, ◌⊎◌, inl, inr, ℕ, zero, suc, ◌+◌, ◌<◌, ◌≤◌, Bool, true, false, cond, List, [], ◌∷◌, ◌++◌, length, Option, Some, None, Result, Ok, Err, refl, sym, ◌∙◌, ap, subst, arith, if◌then◌else◌}
use Rattle.std.specs.Prelude.{nat_lt, nat_eq, is_some}
use Rattle.std.specs.Map.{lookup}
use Rattle.std.specs.Str.{bytes_eq}
use Rattle.ir_text.specs.declared.name.Name.{Name}
use Rattle.ir_tree.specs.declared.tree.Parameter.{Parameter}
use Rattle.ir_core.specs.declared.types.Ty.{Ty}
use Rattle.ir_core.specs.declared.types.Ty.TheVariants as values
use Rattle.ir_types.specs.declared.fault.Fault.{Fault}
use Rattle.ir_types.specs.declared.fault.Fault.TheVariants as faults
use Rattle.ir_types.specs.declared.tables.Target.{Target}
use Rattle.ir_types.specs.declared.tables.Target.TheVariants as targets
use Rattle.ir_types.specs.Walk.{◌>>=◌, or_fault, walk}
use Rattle.ir_types.specs.Tables.{target_named, target_numbered, put_named, put_numbered}
use Rattle.ir_types.specs.declared.names.Table.{Table}
use Rattle.ir_types.specs.declared.table.Types.{Types}
use Rattle.ir_types.specs.Names.{is_numbered, bytes_of, number_of, numbered_target, named_target, target_of, if_new}
use Rattle.ir_types.specs.Types.{type_of}
use Rattle.ir_resolve.specs.Operands.{is_ty, place_of_type}
use Rattle.ir_functions.specs.declared.locals.Numbering.{Numbering}
use Rattle.ir_functions.specs.declared.locals.ParamList.{ParamList}
use Rattle.ir_functions.specs.Functions.{behind_number, number_local, bytes_local, name_local, parameter_type, parameter_step}
use Rattle.ir_print_laws.specs.Written.{Each}
use Rattle.ir_print_laws.specs.Fits.{FitsTy, IsNoVoid, FitsParameter}
use Rattle.ir_print_laws.proofs.TreeWords.{each_last, length_last}
use Rattle.ir_print_laws.proofs.Inverting.{bind, same_ok, same_some, or_ok, known, Any, each_any, walk_keeps, first_walk, no_walk}
use Rattle.ir_print_laws.proofs.Typed.{WellBodies, type_fits}

-- a value or a block that is one of so many
abbrev pub Below : ℕ → ℕ → Target → Type 0
Below most_values most_blocks (targets.Value n) = n < most_values
Below most_values most_blocks (targets.Block n) = n < most_blocks
Below most_values most_blocks (targets.Global n) = Unit {0}
Below most_values most_blocks (targets.Function n) = Unit {0}
Below most_values most_blocks (targets.Type n) = Unit {0}

below_more : (v b w c : ℕ) (target : Target) → v ≤ w → b ≤ c → Below v b target → Below w c target
below_more v b w c (targets.Value n) p q h = omega (arith, p, h)
below_more v b w c (targets.Block n) p q h = omega (arith, q, h)
below_more v b w c (targets.Global n) p q h = tt
below_more v b w c (targets.Function n) p q h = tt
below_more v b w c (targets.Type n) p q h = tt

abbrev NamedBelow : ℕ → ℕ → List ℕ × Target → Type 0
NamedBelow v b entry = Below v b entry.1

abbrev NumberBelow : ℕ → ℕ → ℕ × Target → Type 0
NumberBelow v b entry = Below v b entry.1

-- each name of a table stands for one of so many
abbrev pub TableFits : ℕ → ℕ → Table → Type 0
TableFits v b table = Each (NamedBelow v b) table.named × Each (NumberBelow v b) table.numbered

each_more : {X : Type 0} (Is Has : X → Type 0) → ((x : X) → Is x → Has x) → (xs : List X) → Each Is xs → Each Has xs
each_more Is Has f [] all = tt
each_more Is Has f (x ∷ xs) all = (f x all.0, each_more Is Has f xs all.1)

pub table_more : (v b w c : ℕ) (table : Table) → v ≤ w → b ≤ c → TableFits v b table → TableFits w c table
table_more v b w c table p q h =
    (each_more (NamedBelow v b) (NamedBelow w c) (λ e i. below_more v b w c e.1 p q i) table.named h.0, each_more (NumberBelow v b) (NumberBelow w c) (λ e i. below_more v b w c e.1 p q i) table.numbered h.1)

-- ---- look-ups

look_named : (v b : ℕ) (name : List ℕ) (all : List (List ℕ × Target)) (target : Target) → Each (NamedBelow v b) all → target_named name all ≡ Some target → Below v b target
look_named v b name [] target h e = absurd cc
look_named v b name (x ∷ all) target h e = by (bytes_eq name x.0) (look_named v b name all target h.1) e
  where
    by : (c : Bool) → (target_named name all ≡ Some target → Below v b target) → cond c (Some x.1) (target_named name all) ≡ Some target → Below v b target
    by true rest i = subst (Below v b) (same_some x.1 target i) h.0
    by false rest i = rest i

look_number : (v b n : ℕ) (all : List (ℕ × Target)) (target : Target) → Each (NumberBelow v b) all → target_numbered n all ≡ Some target → Below v b target
look_number v b n [] target h e = absurd cc
look_number v b n (x ∷ all) target h e = by (nat_eq n x.0) (look_number v b n all target h.1) e
  where
    by : (c : Bool) → (target_numbered n all ≡ Some target → Below v b target) → cond c (Some x.1) (target_numbered n all) ≡ Some target → Below v b target
    by true rest i = subst (Below v b) (same_some x.1 target i) h.0
    by false rest i = rest i

pub target_below : (v b : ℕ) (table : Table) (name : Name) (target : Target) → TableFits v b table → target_of table name ≡ Ok target → Below v b target
unfolding target_of numbered_target named_target
target_below v b table name target h e = by (is_numbered name.spelling) e
  where
    by : (c : Bool) → (if c then (number_of name >>= λ n. or_fault (faults.Name name.left) (target_numbered n table.numbered)) else (bytes_of name >>= λ bytes. or_fault (faults.Name name.left) (target_named bytes table.named))) ≡ Ok target → Below v b target
    by true i =
        let a = bind (number_of name) (λ n. or_fault (faults.Name name.left) (target_numbered n table.numbered)) target i in
        look_number v b a.0 table.numbered target h.1 (or_ok (faults.Name name.left) (target_numbered a.0 table.numbered) target a.2)
    by false i =
        let a = bind (bytes_of name) (λ bytes. or_fault (faults.Name name.left) (target_named bytes table.named)) target i in
        look_named v b a.0 table.named target h.0 (or_ok (faults.Name name.left) (target_named a.0 table.named) target a.2)

-- ---- one more name

put_each : {X : Type 0} (Is : X → Type 0) (c : Bool) (all : List X) (x : X) → Each Is all → Is x → Each Is (if◌then◌else◌ {A = Bool × List X} c (false, all) (true, all ++ x ∷ [])).1
put_each Is true all x h p = h
put_each Is false all x h p = each_last Is all x h p

new_same : {A : Type 0} (c : Bool) (left : ℕ) (after next : A) → if_new c left after ≡ Ok next → after ≡ next
new_same true left after next e = same_ok after next e
new_same false left after next e = absurd cc

behind_same : (c : Bool) (left : ℕ) (after next : Numbering) → behind_number c left after ≡ Ok next → after ≡ next
behind_same true left after next e = absurd cc
behind_same false left after next e = same_ok after next e

abbrev NumberingFits : ℕ → ℕ → Numbering → Type 0
NumberingFits v b names = TableFits v b names.table

number_fits : (v b : ℕ) (before : Numbering) (name : Name) (target : Target) (after : Numbering) → TableFits v b before.table → Below v b target → number_local before name target ≡ Ok after → NumberingFits v b after
unfolding number_local
number_fits v b before name target after h p e =
    let a = bind (number_of name) (λ n. if_new (put_numbered n target before.table.numbered).0 name.left (put_numbered n target before.table.numbered).1 >>= λ numbered. behind_number (nat_lt n before.counter) name.left (record { table = record { numbered = numbered; named = before.table.named }; counter = n + 1 })) after e in
    let c = bind (if_new (put_numbered a.0 target before.table.numbered).0 name.left (put_numbered a.0 target before.table.numbered).1) (λ numbered. behind_number (nat_lt a.0 before.counter) name.left (record { table = record { numbered = numbered; named = before.table.named }; counter = a.0 + 1 })) after a.2 in
    let all = subst (Each (NumberBelow v b)) (new_same _ name.left (put_numbered a.0 target before.table.numbered).1 c.0 c.1) (put_each (NumberBelow v b) (is_some (target_numbered a.0 before.table.numbered)) before.table.numbered (a.0, target) h.1 p) in
    subst (NumberingFits v b) (behind_same (nat_lt a.0 before.counter) name.left (record { table = record { numbered = c.0; named = before.table.named }; counter = a.0 + 1 }) after c.2) (h.0, all)

bytes_fits : (v b : ℕ) (before : Numbering) (name : Name) (target : Target) (after : Numbering) → TableFits v b before.table → Below v b target → bytes_local before name target ≡ Ok after → NumberingFits v b after
unfolding bytes_local
bytes_fits v b before name target after h p e =
    let a = bind (bytes_of name) (λ bytes. if_new (put_named bytes target before.table.named).0 name.left (put_named bytes target before.table.named).1 >>= λ named. Ok (record { table = record { numbered = before.table.numbered; named = named }; counter = before.counter })) after e in
    let c = bind (if_new (put_named a.0 target before.table.named).0 name.left (put_named a.0 target before.table.named).1) (λ named. Ok (record { table = record { numbered = before.table.numbered; named = named }; counter = before.counter })) after a.2 in
    let all = subst (Each (NamedBelow v b)) (new_same _ name.left (put_named a.0 target before.table.named).1 c.0 c.1) (put_each (NamedBelow v b) (is_some (target_named a.0 before.table.named)) before.table.named (a.0, target) h.0 p) in
    known (NumberingFits v b) (record { table = record { numbered = before.table.numbered; named = c.0 }; counter = before.counter }) after c.2 (all, h.1)

pub local_fits : (v b : ℕ) (before : Numbering) (given : Option Name) (target : Target) (after : Numbering) → TableFits v b before.table → Below v b target → name_local before given target ≡ Ok after → NumberingFits v b after
local_fits v b before None target after h p e =
    known (NumberingFits v b) (record { table = record { numbered = (put_numbered before.counter target before.table.numbered).1; named = before.table.named }; counter = before.counter + 1 }) after e
    (h.0, put_each (NumberBelow v b) (is_some (target_numbered before.counter before.table.numbered)) before.table.numbered (before.counter, target) h.1 p)
local_fits v b before (Some name) target after h p e = by (is_numbered name.spelling) e
  where
    by : (c : Bool) → (if c then number_local before name target else bytes_local before name target) ≡ Ok after → NumberingFits v b after
    by true i = number_fits v b before name target after h p i
    by false i = bytes_fits v b before name target after h p i

-- ---- parameters

param_type : (left : ℕ) (ty other : Ty) → parameter_type left ty ≡ Ok other → (ty ≡ other) × IsNoVoid other
param_type left values.Void other e = absurd cc
param_type left (values.Int w) other e = (same_ok (values.Int w) other e, known IsNoVoid (values.Int w) other e tt)
param_type left values.Ptr other e = (same_ok values.Ptr other e, known IsNoVoid values.Ptr other e tt)

abbrev pub ParamsFit : ParamList → Type 0
ParamsFit params = TableFits (length params.tys) 0 params.names.table × Each FitsParameter params.tys

param_fits : (types : Types) → WellBodies types.bodies → (before : ParamList) (given : Parameter) (after : ParamList) → ParamsFit before → parameter_step types before given ≡ Ok after → ParamsFit after
unfolding parameter_step
param_fits types well before given after h e =
    let a = bind (type_of types given.ty) (λ written. parameter_type (place_of_type given.ty) written >>= λ ty. name_local before.names given.name (targets.Value (length before.tys)) >>= λ names. Ok (record { names = names; tys = before.tys ++ ty ∷ [] })) after e in
    let b = bind (parameter_type (place_of_type given.ty) a.0) (λ ty. name_local before.names given.name (targets.Value (length before.tys)) >>= λ names. Ok (record { names = names; tys = before.tys ++ ty ∷ [] })) after a.2 in
    let c = bind (name_local before.names given.name (targets.Value (length before.tys))) (λ names. Ok (record { names = names; tys = before.tys ++ b.0 ∷ [] })) after b.2 in
    let p = param_type (place_of_type given.ty) a.0 b.0 b.1 in
    let fits : FitsParameter b.0 = (subst FitsTy p.0 (type_fits types given.ty a.0 well a.1), p.1) in
    let longer = length_last before.tys b.0 in
    let table = table_more (length before.tys) 0 (length before.tys + 1) 0 before.names.table (omega arith) (omega arith) h.0 in
    let names = local_fits (length before.tys + 1) 0 before.names given.name (targets.Value (length before.tys)) c.0 table (omega arith) c.1 in
    known ParamsFit (record { names = c.0; tys = before.tys ++ b.0 ∷ [] }) after c.2
    (subst (λ (n : ℕ). TableFits n 0 c.0.table) (sym longer) names, each_last FitsParameter before.tys b.0 h.1 fits)

pub params_fit : (types : Types) → WellBodies types.bodies → (given : List Parameter) (after : ParamList) → walk (parameter_step types) (record { names = record { table = record { numbered = []; named = [] }; counter = 0 }; tys = [] }) given ≡ Ok after → ParamsFit after
params_fit types well given after e = walk_keeps (parameter_step types) ParamsFit Any (λ s t next h _ is. param_fits types well s t next h is) given _ after (each_any given) ((tt, tt), tt) e

param_longer : (types : Types) (before : ParamList) (given : Parameter) (after : ParamList) → parameter_step types before given ≡ Ok after → length after.tys ≡ length before.tys + 1
unfolding parameter_step
param_longer types before given after e =
    let a = bind (type_of types given.ty) (λ written. parameter_type (place_of_type given.ty) written >>= λ ty. name_local before.names given.name (targets.Value (length before.tys)) >>= λ names. Ok (record { names = names; tys = before.tys ++ ty ∷ [] })) after e in
    let b = bind (parameter_type (place_of_type given.ty) a.0) (λ ty. name_local before.names given.name (targets.Value (length before.tys)) >>= λ names. Ok (record { names = names; tys = before.tys ++ ty ∷ [] })) after a.2 in
    let c = bind (name_local before.names given.name (targets.Value (length before.tys))) (λ names. Ok (record { names = names; tys = before.tys ++ b.0 ∷ [] })) after b.2 in
    ap (λ (x : ParamList). length x.tys) (sym (same_ok (record { names = c.0; tys = before.tys ++ b.0 ∷ [] }) after c.2)) ∙ length_last before.tys b.0

pub params_length : (types : Types) (given : List Parameter) (before after : ParamList) → walk (parameter_step types) before given ≡ Ok after → length after.tys ≡ length before.tys + length given
params_length types [] before after e = let same = ap (λ (x : ParamList). length x.tys) (no_walk (parameter_step types) before after e) in omega (arith, same)
params_length types (one ∷ given) before after e =
    let f = first_walk (parameter_step types) before after one given e in
    let a = param_longer types before one f.0 f.1 in
    let b = params_length types given f.0 after f.2 in
    omega (arith, a, b)
