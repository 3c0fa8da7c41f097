-- The jobs that were put.
use Rattle.std.specs.Prelude.{◌≡◌, ℕ, ◌≤◌, List, slice_index}
use Rattle.code_epochs.specs.Sound.{At}
use Rattle.reopt_queue.specs.declared.job.Job.{Job}

-- each job stands in the list once, and the level that was asked last of its symbol isn't below its own
abbrev pub IsOnce : List Job → List ℕ → Type 0
IsOnce jobs asked =
    ((i j : ℕ) (x : Job) → At jobs i x → At jobs j x → i ≡ j)
    × ((i : ℕ) (x : Job) → At jobs i x → x.level ≤ slice_index asked x.symbol)
