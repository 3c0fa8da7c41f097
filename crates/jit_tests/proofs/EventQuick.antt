-- One good version of a module's one function.
use Rattle.std.proofs.Common.{◌≡◌, ℕ, zero, suc, ◌<◌, [], ◌∷◌, length, sym, subst, arith}
use mathlib.Core.Option.{some-injective, some-ne-none}
use Rattle.ir_core.specs.Program.{Program}
use Rattle.ir_meaning.specs.Meaning.{meaning}
use Rattle.ir_meaning.specs.Plays.{Meaning}
use Rattle.rv_play.specs.declared.version.Version.{Version}
use Rattle.rv_play.specs.Good.{Good}
use Rattle.rv_play.specs.Versions.{IsVersion}
use Rattle.code_epochs.specs.Sound.{At}
use Rattle.jit_core.specs.First.{AreQuick}

first_good : (program : Program) (v : Version) → IsVersion program 0 1 v → (k : ℕ) (u : Version) → At (v ∷ []) k u → (u.symbol ≡ k) × Good (meaning program) k u.words
first_good program v is zero u e = subst (λ (w : Version). (w.symbol ≡ 0) × Good (meaning program) 0 w.words) (some-injective v u e) (is.of_symbol, is.good)
first_good program v is (suc k) u e = absurd (some-ne-none u (sym e))

pub one_quick : (program : Program) (v : Version) → length program.module_.functions ≡ 1 → IsVersion program 0 1 v → AreQuick (meaning program) (v ∷ [])
one_quick program v one is = (sym one, first_good program v is)

-- the version can be ordered by its own symbol
pub symbol_low : (m : Meaning) (program : Program) (v : Version) → m ≡ meaning program → length program.module_.functions ≡ 1 → IsVersion program 0 1 v → v.symbol < m.functions
symbol_low m program v same one is = let symbol = is.of_symbol in subst (λ (x : Meaning). v.symbol < x.functions) (sym same) (let e : v.symbol < length program.module_.functions = omega arith in e)

pub good_here : (m : Meaning) (program : Program) (v : Version) → m ≡ meaning program → IsVersion program 0 1 v → Good m v.symbol v.words
good_here m program v same is = subst (λ (x : Meaning). Good x v.symbol v.words) (sym same) (subst (λ (k : ℕ). Good (meaning program) k v.words) (sym is.of_symbol) is.good)
