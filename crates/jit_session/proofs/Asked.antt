-- Each job is put once.
use Rattle.std.proofs.Common.{◌≡◌, ℕ, ◌<◌, ◌≤◌, List, [], ◌∷◌, ◌++◌, length, set, sym, ap, subst, ◌∙◌, ⊎_elim, arith}
use Rattle.std.proofs.lemmas.List.{get_or-set_same, get_or-set_other}
use Rattle.std.specs.Prelude.{slice_index}
use mathlib.Core.Logic.{dite}
use mathlib.Core.Option.{some-ne-none}
use native.Mathlib.Decide.{ℕ_discrete}
use Rattle.code_epochs.specs.Sound.{At}
use Rattle.code_epochs.proofs.Lists.{at_snoc}
use Rattle.reopt_queue.specs.Balance.{hand, with_put}
use Rattle.reopt_queue.specs.declared.job.Hand.{Hand}
use Rattle.reopt_queue.specs.declared.job.Job.{Job}
use Rattle.jit_session.specs.Asked.{IsOnce}

pub none_once : (h : Hand) (asked : List ℕ) → h ≡ hand [] [] → IsOnce h.put asked
none_once h asked none = subst (λ (v : Hand). IsOnce v.put asked) (sym none) (λ i j x at there. absurd (some-ne-none x (sym at)), λ i x at. absurd (some-ne-none x (sym at)))

-- the levels that were asked last don't fall
risen : (asked : List ℕ) (job : Job) (k : ℕ) → job.symbol < length asked → slice_index asked job.symbol < job.level → slice_index asked k ≤ slice_index (set asked job.symbol job.level) k
risen asked job k low above = dite (ℕ_discrete k job.symbol)
    (λ same. let now = get_or-set_same asked job.symbol job.level 0 low in let a = ap (slice_index (set asked job.symbol job.level)) same in let b = ap (slice_index asked) same in omega (arith, now, a, b, above))
    (λ other. let now = get_or-set_other asked job.symbol k job.level 0 other in omega (arith, now))

pub put_once : (jobs : List Job) (asked : List ℕ) (job : Job) → job.symbol < length asked → slice_index asked job.symbol < job.level → IsOnce jobs asked → IsOnce (jobs ++ job ∷ []) (set asked job.symbol job.level)
put_once jobs asked job low above once = (
  λ i j x at_i at_j. ⊎_elim
      (λ old_i. ⊎_elim (λ old_j. once.0 i j x old_i old_j) (λ t. absurd (new_is_not_old i x old_i t.1)) (at_snoc jobs job x j at_j))
      (λ t. ⊎_elim (λ old_j. absurd (new_is_not_old j x old_j t.1)) (λ u. t.0 ∙ sym u.0) (at_snoc jobs job x j at_j))
      (at_snoc jobs job x i at_i),
  λ i x at. ⊎_elim
      (λ old. let most = once.1 i x old in let rise = risen asked job x.symbol low above in omega (arith, most, rise))
      (λ t. let now = get_or-set_same asked job.symbol job.level 0 low in
      subst (λ (y : Job). y.level ≤ slice_index (set asked job.symbol job.level) y.symbol) t.1 (omega (arith, now)))
      (at_snoc jobs job x i at),
)
  where
    new_is_not_old : (i : ℕ) (x : Job) → At jobs i x → job ≡ x → ⊥
    new_is_not_old i x at same =
        let most = once.1 i x at in
        let a = ap (λ (y : Job). y.level) same in
        let b = ap (λ (y : Job). slice_index asked y.symbol) same in
        omega (arith, most, a, b, above)

-- what a seat has put once the level is noted
pub noted : (old new : Hand) (asked : List ℕ) (job : Job) (symbol : ℕ) → new ≡ with_put old job → job.symbol ≡ symbol → symbol < length asked → slice_index asked symbol < job.level → IsOnce old.put asked
    → IsOnce new.put (set asked symbol job.level)
noted old new asked job symbol put is low above once =
    subst (λ (h : Hand). IsOnce h.put (set asked symbol job.level)) (sym put)
    (subst (λ (k : ℕ). IsOnce (old.put ++ job ∷ []) (set asked k job.level)) is
    (put_once old.put asked job (subst (λ (k : ℕ). k < length asked) (sym is) low) (subst (λ (k : ℕ). slice_index asked k < job.level) (sym is) above) once))
