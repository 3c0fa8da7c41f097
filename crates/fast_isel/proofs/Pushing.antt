-- One version more.
use Rattle.std.proofs.Common.{◌≡◌, ℕ, ◌+◌, List, [], ◌∷◌, ◌++◌, length, subst, arith}
use Rattle.ir_core.specs.Program.{Program}
use Rattle.rv_play.specs.declared.version.Version.{Version}
use Rattle.rv_play.specs.Versions.{IsVersion}
use Rattle.fast_isel.specs.Written.{AreQuickWords}
use Rattle.fast_isel.specs.Modules.{quick_from}

pub one_more : (program : Program) (symbol at : ℕ) (versions : List Version) (v : Version) → quick_from program symbol versions → at ≡ symbol + length versions
    → IsVersion program at 1 v → AreQuickWords program at v.words → quick_from program symbol (versions ++ v ∷ [])
one_more program symbol at [] v made e is words =
    let here : at ≡ symbol = omega arith in
    (subst (λ (k : ℕ). IsVersion program k 1 v) here is, subst (λ (k : ℕ). AreQuickWords program k v.words) here words, tt)
one_more program symbol at (first ∷ versions) v made e is words =
    (made.0, made.1, one_more program (symbol + 1) at versions v made.2 (omega arith) is words)
