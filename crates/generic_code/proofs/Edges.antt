-- The phis of a block change at once in the function and in its code.
use Rattle.std.proofs.Common.{◌≡◌, refl, sym, ap, subst, ℕ, ◌+◌, Bool, true, false, List, [], ◌∷◌, map, Some}
use Rattle.std.specs.Prelude.{slice_get, slice_set, if◌then◌else◌, ◌==◌}
use Rattle.ir_core.specs.Program.{Program}
use Rattle.ir_core.specs.Units.{has_result}
use Rattle.ir_core.specs.declared.code.Inst.{Inst}
use Rattle.ir_core.specs.declared.program.Function.{Function}
use Rattle.ir_core.specs.declared.program.Global.{Global}
use Rattle.ir_meaning.specs.Value.{Value}
use Rattle.ir_meaning.specs.Operators.{width}
use Rattle.ir_meaning.specs.Step as ir
use Rattle.ir_meaning.specs.Step.{number_at, phi_value, with_result}
use Rattle.ir_meaning.specs.Typed.{types}
use Rattle.gmir.specs.declared.code.GFunction.{GFunction}
use Rattle.gmir.specs.Play as play
use Rattle.gmir.specs.Play.{on_edge}
use Rattle.walks.specs.Registers.{Registers, read, write}
use Rattle.walks.specs.Bits.{cut}
use Rattle.walks.specs.Refines.{RefinesBits}
use Rattle.walks.specs.Functions.{bits_of}
use Rattle.generic_code.specs.Edges.{Edge}
use Rattle.generic_code.specs.Whole.{phi_register, phis_code}
use Rattle.generic_code.proofs.Loads.{Holds, holds_set}
use Rattle.generic_code.proofs.Results.{cut_same}

-- ---- the edge that is taken, among those of a phi

-- the first of these edges that a block takes is that one
pub data IsTaken (at : ℕ) (edge : Edge) : List Edge → Type 0 where
  first : {edges : List Edge} → (edge.at == at) ≡ true → IsTaken at edge (edge ∷ edges)
  later : {edges : List Edge} (other : Edge) → (other.at == at) ≡ false → IsTaken at edge edges → IsTaken at edge (other ∷ edges)

pub found : (register_of : Edge → ℕ) (at : ℕ) (edge : Edge) (edges : List Edge) → IsTaken at edge edges
    → on_edge at (map (λ e. e.at) edges) (map register_of edges) ≡ Some (register_of edge)
found register_of at edge edges (first {edges = rest} e) = rw e refl
found register_of at edge edges (later {edges = rest} other e taken) = rw e (found register_of at edge rest taken)

-- ---- all phis of a block, each by what stood before the edge

module _ (program : Program) (function : Function) (f : GFunction) (from to at : ℕ) (edges : List Edge) (before : List Value) (before_regs : Registers) where
  abbrev globals : List Global
  globals = program.module_.globals

  -- a phi gives the value of its type to the register of its number, which reads what has the operand's bits
  pub record IsHead (place number : ℕ) (inst : Inst) : Type 0 where
    pub gives : has_result inst ≡ true
    pub type : slice_get (types function) (number_at function to place) ≡ Some inst.gives
    pub number_is : number_at function to place ≡ number
    pub width_is : play.width f.types number ≡ width inst.gives
    pub reads : RefinesBits (bits_of (width inst.gives) (phi_value program before from inst.op)) (read before_regs (on_edge at (map (λ e. e.at) edges) (map (phi_register globals function place) edges)))

  abbrev pub AreHeads : ℕ → ℕ → List Inst → Type 0
  AreHeads place number [] = Unit {0}
  AreHeads place number (inst ∷ insts) = IsHead place number inst × AreHeads (place + 1) (number + 1) insts

  -- then each value's register has its bits behind the edge too
  pub phis_hold : (heads : List Inst) (place number : ℕ) (values : List Value) (regs : Registers) → AreHeads place number heads → Holds program f (types function) values regs
      → Holds program f (types function) (ir.with_phis program function from before to place heads values) (play.with_phis f.types at before_regs (phis_code globals function number place edges heads) regs)
  phis_hold [] place number values regs are holds = holds
  phis_hold (inst ∷ insts) place number values regs are holds =
      phis_hold insts (place + 1) (number + 1) (with_result function to place inst (phi_value program before from inst.op) values)
      (write regs number (cut (play.width f.types number) (read before_regs (on_edge at (map (λ e. e.at) edges) (map (phi_register globals function place) edges)))))
      are.1 one
    where
      known : RefinesBits (bits_of (width inst.gives) (phi_value program before from inst.op)) (cut (play.width f.types number) (read before_regs (on_edge at (map (λ e. e.at) edges) (map (phi_register globals function place) edges))))
      known =
          subst (λ (w : ℕ). RefinesBits (bits_of (width inst.gives) (phi_value program before from inst.op)) (cut w (read before_regs (on_edge at (map (λ e. e.at) edges) (map (phi_register globals function place) edges))))) (sym are.0.width_is)
          (cut_same (width inst.gives) (phi_value program before from inst.op) _ are.0.reads)

      set_there : Holds program f (types function) (slice_set values (number_at function to place) (phi_value program before from inst.op))
          (write regs number (cut (play.width f.types number) (read before_regs (on_edge at (map (λ e. e.at) edges) (map (phi_register globals function place) edges)))))
      set_there =
          subst (λ (n : ℕ). Holds program f (types function) (slice_set values (number_at function to place) (phi_value program before from inst.op))
          (write regs n (cut (play.width f.types number) (read before_regs (on_edge at (map (λ e. e.at) edges) (map (phi_register globals function place) edges)))))) are.0.number_is
          (holds_set program f (types function) values regs (number_at function to place) inst.gives (phi_value program before from inst.op) _ are.0.type holds known)

      one : Holds program f (types function) (with_result function to place inst (phi_value program before from inst.op) values)
          (write regs number (cut (play.width f.types number) (read before_regs (on_edge at (map (λ e. e.at) edges) (map (phi_register globals function place) edges)))))
      one =
          subst (λ (vs : List Value). Holds program f (types function) vs (write regs number (cut (play.width f.types number) (read before_regs (on_edge at (map (λ e. e.at) edges) (map (phi_register globals function place) edges))))))
          (ap (λ (b : Bool). if b then slice_set values (number_at function to place) (phi_value program before from inst.op) else values) (sym are.0.gives)) set_there
