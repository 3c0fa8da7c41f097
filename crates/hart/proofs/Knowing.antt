-- What a hart learns of a module.
use Rattle.std.proofs.Common.{◌≡◌, refl, sym, ap, ◌∙◌, ℕ, ◌<◌, ◌≤◌, List, length, map, Option, Some, None, arith, get_or, ◌⊎◌, inl, inr}
use Rattle.std.specs.List.{slice_get}
use Rattle.std.specs.Option.{option_map}
use Rattle.std.proofs.lemmas.Option.{slice_get-map, slice_get_cases}
use Rattle.ir_core.specs.declared.program.Function.{Function}
use Rattle.ir_core.specs.Program.{Program}
use Rattle.ir_meaning.specs.Meaning.{meaning, result_width, of_function}
use Rattle.hart.specs.declared.hart.Hart.{Hart}
use Rattle.hart.specs.Standing.{IsFor}

not_none_by : (xs : List Function) (i : ℕ) → i < length xs → slice_get xs i ≡ None
    → ((x : Function) × (i < length xs) × (slice_get xs i ≡ Some x) × (get_or xs i x ≡ x)) ⊎ ((length xs ≤ i) × (slice_get xs i ≡ None)) → ⊥
not_none_by xs i b e (inl w) = let bad : Some w.0 ≡ None = sym w.2 ∙ e in cc
not_none_by xs i b e (inr w) = let above : length xs ≤ i = w.0 in omega arith

not_none : (xs : List Function) (i : ℕ) → i < length xs → slice_get xs i ≡ None → ⊥
not_none xs i b e = not_none_by xs i b e (slice_get_cases xs i).1

-- the width at a place of the list
listed : (functions : List Function) (o : Option Function) (symbol : ℕ) → slice_get functions symbol ≡ o → symbol < length functions
    → slice_get (map (λ (f : Function). result_width f.ret) functions) symbol ≡ Some (of_function None (λ (f : Function). result_width f.ret) o)
listed functions (Some f) symbol e below = slice_get-map (λ (g : Function). result_width g.ret) functions symbol ∙ ap (option_map (λ (g : Function). result_width g.ret)) e
listed functions None symbol e below = absurd (not_none functions symbol below e)

pub is_for_program : (program : Program) (h : Hart) → program.room ≡ length h.bytes.items
    → h.widths.items ≡ map (λ (f : Function). result_width f.ret) program.module_.functions → h.functions ≡ length program.module_.functions
    → IsFor (meaning program) h
is_for_program program h room widths functions = record {
  functions = sym functions;
  room = room;
  results = λ symbol below. rw widths (listed program.module_.functions (slice_get program.module_.functions symbol) symbol refl below);
}
