-- Room for what a session comes to.
use Rattle.std.specs.Prelude.{◌≡◌, ℕ, ◌≤◌, [], vec_capacity}
use Rattle.jit_session.specs.declared.reserve.Reserve.{Reserve}

-- nothing is in it yet, and there is room for so many harts, calls and symbols
pub record IsReserve (harts calls symbols : ℕ) (r : Reserve) : Type 0 where
  pub seats : (r.seats.items ≡ []) × (harts ≤ vec_capacity r.seats)
  pub answers : (r.answers.items ≡ []) × (calls ≤ vec_capacity r.answers)
  pub by_hart : (r.by_hart.items ≡ []) × (harts ≤ vec_capacity r.by_hart)
  pub rows : (r.rows.items ≡ []) × (symbols ≤ vec_capacity r.rows)
  pub refused : (r.refused.items ≡ []) × (symbols ≤ vec_capacity r.refused)
