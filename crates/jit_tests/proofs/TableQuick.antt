-- One good version of a module's one function.
use Rattle.std.proofs.Common.{◌≡◌, ℕ, zero, suc, ◌+◌, List, [], ◌∷◌, ◌++◌, length, length-append, sym, subst, ◌∙◌, ap, arith}
use mathlib.Core.Option.{some-injective, some-ne-none}
use Rattle.ir_core.specs.Program.{Program}
use Rattle.ir_meaning.specs.Meaning.{meaning}
use Rattle.rv_play.specs.declared.version.Version.{Version}
use Rattle.rv_play.specs.Good.{Good}
use Rattle.rv_play.specs.Versions.{IsVersion}
use Rattle.code_epochs.specs.Sound.{At}
use Rattle.code_epochs.proofs.Lists.{at_last}
use Rattle.redirect_cells.specs.declared.view.Plan.{Plan}
use Rattle.redirect_cells.specs.declared.table.CodeTable.{CodeTable}
use Rattle.redirect_cells.specs.declared.hart_seat.HartSeat.{HartSeat}
use Rattle.redirect_cells.specs.Kept.{meaning_of, word_in}
use Rattle.redirect_cells.specs.Opened.{AreQuick, AreNewSeats}
use Rattle.redirect_cells.proofs.Plans.{functions_counted, good_in}

first_good : (plan : Plan) (program : Program) (v : Version) → plan.module.value ≡ program → IsVersion program 0 1 v
    → (k : ℕ) (u : Version) → At (v ∷ []) k u → (u.symbol ≡ k) × Good (meaning_of plan) k u.words
first_good plan program v value is zero u e =
    let same : v ≡ u = some-injective v u e in
    subst (λ (w : Version). (w.symbol ≡ 0) × Good (meaning_of plan) 0 w.words) same (is.of_symbol, good_in plan program 0 v.words value is.good)
first_good plan program v value is (suc k) u e = absurd (some-ne-none u (sym e))

pub one_quick : (plan : Plan) (program : Program) (v : Version) → plan.module.value ≡ program → length program.module_.functions ≡ 1 → IsVersion program 0 1 v → AreQuick plan (v ∷ [])
one_quick plan program v value one is = (functions_counted plan program 1 value (sym one), first_good plan program v value is)

-- the version is good for the plan's module, by its own symbol
pub published_good : (plan : Plan) (program : Program) (v : Version) → plan.module.value ≡ program → IsVersion program 0 1 v → Good (meaning_of plan) v.symbol v.words
published_good plan program v value is = good_in plan program v.symbol v.words value (subst (λ (k : ℕ). Good (meaning program) k v.words) (sym is.of_symbol) is.good)

-- the only seat is the first hart's, which is idle
pub only_seat : (table : CodeTable) (items rest : List HartSeat) (s : HartSeat) → AreNewSeats table 1 items → items ≡ rest ++ s ∷ []
    → (word_in s.seat.me.0.role ≡ 0) × (s.table.now ≡ table) × (s.number ≡ 0)
only_seat table items rest s all last =
    let count : length items ≡ 1 = all.0 in
    let long : length items ≡ length rest + 1 = ap length last ∙ length-append rest (s ∷ []) in
    let none : length rest ≡ 0 = omega arith in
    let at : At items 0 s = subst (λ (l : List HartSeat). At l 0 s) (sym last) (subst (λ (k : ℕ). At (rest ++ s ∷ []) k s) none (at_last rest s)) in
    let is = all.1 0 s at in
    (ap word_in is.2, is.0, is.1)
