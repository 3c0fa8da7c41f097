-- Items that stand somewhere, in parts.
use Rattle.std.proofs.Common.{[], ◌≡◌, subst, ℕ, suc, ◌+◌, ◌*◌, List, ◌∷◌, ◌++◌, length, arith}
use Rattle.rv_core.specs.declared.instr.Instr.{Instr}
use Rattle.ir_meaning.specs.Plays.{Meaning}
use Rattle.rv_play.specs.CodePlay.{Place}
use Rattle.rv_play.proofs.Lines.{Stands}
use Rattle.code_pieces.specs.Items.{Item, Plain, Bind, Goto, Test, plain}
use Rattle.code_pieces.specs.Labels.{StandsAs}

module _ (m : Meaning) (place : Place) (labels : ℕ → ℕ) where
  abbrev At : ℕ → List Item → Type 0
  At = StandsAs m place labels

  -- instructions, and what stands behind them
  pub plain-apart : (pc : ℕ) (xs : List Instr) (ys : List Item) → At pc (plain xs ++ ys) → Stands place pc xs × At (pc + 4 * length xs) ys
  plain-apart pc [] ys h = (tt, subst (λ (q : ℕ). At q ys) (let e : pc ≡ pc + 4 * 0 = omega arith in e) h)
  plain-apart pc (x ∷ xs) ys h =
      let r = plain-apart (pc + 4) xs ys h.3 in
      ((h.0, h.1, h.2, r.0), subst (λ (q : ℕ). At q ys) (let e : pc + 4 + 4 * length xs ≡ pc + 4 * suc (length xs) = omega arith in e) r.1)

  -- what stands behind items
  pub behind-items : (xs ys : List Item) (pc : ℕ) → At pc (xs ++ ys) → (q : ℕ) × At q ys
  behind-items [] ys pc h = (pc, h)
  behind-items (Plain i ∷ xs) ys pc h = behind-items xs ys (pc + 4) h.3
  behind-items (Bind l ∷ xs) ys pc h = behind-items xs ys pc h.1
  behind-items (Goto l ∷ xs) ys pc h = behind-items xs ys h.0 h.2
  behind-items (Test op a b l ∷ xs) ys pc h = behind-items xs ys h.0 h.3
