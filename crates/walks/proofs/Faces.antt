-- Refinement of functions of any kinds: it follows from a simulation, and it composes.
use Rattle.std.proofs.Common.{◌≡◌, ◌≤◌, refl, subst, ◌∙◌, ℕ, arith}
use Rattle.walks.specs.Walk.{play_of}
use Rattle.walks.specs.Refines.{RefinesPlay}
use Rattle.walks.specs.Simulation.{Simulation}
use Rattle.walks.specs.Face.{Face, RefinesFace}
use Rattle.walks.proofs.Compose.{compose}
use Rattle.walks.proofs.Simulate.{simulated}

-- a function whose steps follow themselves refines itself
pub itself : (f : Face) (R : f.walk.State → f.walk.State → Type 0) (measure : f.walk.State → ℕ) → Simulation f.end f.walk f.walk R measure → RefinesFace f f
itself f R measure sim = record { symbol = refl; values = refl; end' = refl; static = omega arith; play = simulated f.end f.walk f.walk R measure sim }

pub composes : (f g h : Face) → RefinesFace f g → RefinesFace g h → RefinesFace f h
composes f g h p q =
    let low = p.static in let low' = q.static in
    record {
      symbol = q.symbol ∙ p.symbol;
      values = q.values ∙ p.values;
      end' = q.end' ∙ p.end';
      static = omega (arith, low, low');
      play =
          compose f.end (play_of f.walk) (play_of g.walk) (play_of h.walk) p.play
          (subst (λ (limit : ℕ). RefinesPlay limit (play_of g.walk) (play_of h.walk)) p.end' q.play);
    }

-- one whose steps follow those of another refines it
pub simulated_face : (f g : Face) → g.symbol ≡ f.symbol → g.values ≡ f.values → g.end ≡ f.end → g.static ≤ f.static
    → (R : f.walk.State → g.walk.State → Type 0) (measure : f.walk.State → ℕ) → Simulation f.end f.walk g.walk R measure → RefinesFace f g
simulated_face f g symbol values end static R measure sim =
    record { symbol = symbol; values = values; end' = end; static = static; play = simulated f.end f.walk g.walk R measure sim }
