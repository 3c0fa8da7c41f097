-- What the code of a block reads has been written, where each use of the block is assigned.
use Rattle.std.proofs.Common.{◌≡◌, refl, sym, subst, ℕ, ◌+◌, ◌≤◌, ◌⊎◌, inl, inr, Bool, true, false, List, [], ◌∷◌}
use Rattle.std.specs.Prelude.{if◌then◌else◌}
use Rattle.ir_core.specs.Program.{Program}
use Rattle.ir_core.specs.Units.{has_result}
use Rattle.ir_core.specs.declared.types.Ty.{Ty}
use Rattle.ir_core.specs.declared.code.Operand.{Operand}
use Rattle.ir_core.specs.declared.code.Op.{Op}
use Rattle.ir_core.specs.declared.code.Inst.{Inst}
use Rattle.ir_core.specs.declared.program.Function.{Function}
use Rattle.ir_core.specs.declared.program.Global.{Global}
use Rattle.ir_flow.specs.Code.{places, is_phi, targets as op_targets}
use Rattle.ir_meaning.specs.Typed.{IsOp}
use Rattle.ir_verify.proofs.Lists.{Every, every_map}
use Rattle.gmir.specs.declared.code.GInst.{GInst}
use Rattle.generic_code.specs.Literals.{Pool}
use Rattle.generic_code.specs.Code.{Piece, piece_of}
use Rattle.generic_code.specs.Edges.{Ending, ending_behind, edge_operands, ending_of}
use Rattle.generic_code.specs.Whole.{is_jump, insts_ending}
use Rattle.generic_laws.proofs.Scopes.{After, after_keeps, after_both, after_wrote, wrote, Held, Can, can_more}
use Rattle.generic_laws.proofs.Served.{Served, piece_served}
use Rattle.generic_laws.proofs.Edged.{CanGo, Ends, end_before, ending_served}
use Rattle.generic_laws.proofs.Gives.{piece_gives}

-- assigned values, by the number of the next: with it behind its instruction, but no other
module _ (program : Program) (function : Function) (from : ℕ) (A : ℕ → ℕ → Type 0) (step : (value v : ℕ) → A (value + 1) v → (v ≡ value) ⊎ A value v) where
  abbrev gl : List Global
  gl = program.module_.globals

  abbrev pub Go : ℕ → Op → Type 0
  Go value op = Every (λ (to : ℕ). Every (Can (A value)) (edge_operands program.module_.globals function from to)) (op_targets op)

  -- each use of these instructions is assigned, and so is what phis read on the edges
  abbrev pub Using : ℕ → List Inst → Type 0
  Using value [] = Unit {0}
  Using value (inst ∷ insts) =
      IsOp program function inst.gives inst.op × (is_phi inst.op ≡ false) × Every (Can (A value)) (places function.ret inst.gives inst.op) × (is_jump inst.op ≡ true → Go value inst.op) × Using (if has_result inst then value + 1 else value) insts

  abbrev Sees : (ℕ → Type 0) → ℕ → Type 0
  Sees S value = (v : ℕ) → A value v → S v

  seen_all : (S : ℕ → Type 0) (value : ℕ) → ((v : ℕ) → A value v → S v) → (ops : List (Ty × Operand)) → Every (Can (A value)) ops → Every (Can S) ops
  seen_all S value h ops c = every_map (Can (A value)) (Can S) ops (λ x k. can_more (A value) S h x k) c

  seen_go : (S : ℕ → Type 0) (value : ℕ) → ((v : ℕ) → A value v → S v) → (op : Op) → Every (λ (to : ℕ). Every (Can (A value)) (edge_operands gl function from to)) (op_targets op) → Every (CanGo gl function from S) (op_targets op)
  seen_go S value h op c = every_map (λ (to : ℕ). Every (Can (A value)) (edge_operands gl function from to)) (CanGo gl function from S) (op_targets op) (λ to k. seen_all S value h (edge_operands gl function from to) k) c

  -- behind an instruction
  next_seen : (S : ℕ → Type 0) (value : ℕ) (code : List GInst) (r : Bool) → ((v : ℕ) → A value v → S v) → (r ≡ true → 1 ≤ wrote value code) → (v : ℕ) → A (if r then value + 1 else value) v → After S code v
  next_seen S value code false h w v a = after_keeps code S v (h v a)
  next_seen S value code true h w v a = by_step (step value v a)
    where
      by_step : (v ≡ value) ⊎ A value v → After S code v
      by_step (inl same) = subst (After S code) (sym same) (after_wrote code S value (w refl))
      by_step (inr other) = after_keeps code S v (h v other)

  pub insts_served : (insts : List Inst) (S T : ℕ → Type 0) (value : ℕ) (pool : Pool) (own : ℕ) → Held S pool → ((v : ℕ) → A value v → S v) → Using value insts
      → ((q : ℕ) → After S (insts_ending gl function from value pool own insts).code q → T q) → Ends gl function from S T from own (insts_ending gl function from value pool own insts)
  insts_served [] S T value pool own held sees u more = record { reads = tt; later = tt; edges = tt }
  insts_served (inst ∷ insts) S T value pool own held sees u more =
      by_jump (is_jump inst.op) refl more
      (λ more'. insts_served insts (After S piece.code) T (if has_result inst then value + 1 else value) piece.pool own served.held
      (next_seen S value piece.code (has_result inst) sees (λ r. piece_gives gl value program function pool inst.gives inst.op u.0 u.1 r)) u.4 more')
    where
      piece : Piece
      piece = piece_of program.module_.globals function.ret value pool inst.gives inst.op

      served : Served gl S (piece_of program.module_.globals function.ret value pool inst.gives inst.op)
      served = piece_served gl S function.ret value pool inst.gives inst.op held (λ p. seen_all S value sees (places function.ret inst.gives inst.op) u.2)

      rest : Ending
      rest = insts_ending gl function from (if has_result inst then value + 1 else value) (piece_of gl function.ret value pool inst.gives inst.op).pool own insts

      by_jump : (j : Bool) → is_jump inst.op ≡ j
          → ((q : ℕ) → After S (if j then ending_of gl function from pool own inst.op else (let piece = piece_of gl function.ret value pool inst.gives inst.op in
          ending_behind piece.code piece.types (insts_ending gl function from (if has_result inst then value + 1 else value) piece.pool own insts))).code q → T q)
          → (((q : ℕ) → After (After S (piece_of gl function.ret value pool inst.gives inst.op).code) (insts_ending gl function from (if has_result inst then value + 1 else value) (piece_of gl function.ret value pool inst.gives inst.op).pool own insts).code q → T q)
          → Ends gl function from (After S (piece_of gl function.ret value pool inst.gives inst.op).code) T from own (insts_ending gl function from (if has_result inst then value + 1 else value) (piece_of gl function.ret value pool inst.gives inst.op).pool own insts))
          → Ends gl function from S T from own (insts_ending gl function from value pool own (inst ∷ insts))
      by_jump true e more ih =
          let go = u.3 e in
          let code = (ending_of gl function from pool own inst.op).code in
          rw e (ending_served gl function from S T pool own inst.gives inst.op e held (seen_all S value sees (places function.ret inst.gives inst.op) u.2) more
          (seen_go S value sees inst.op go) (seen_go T value (λ v a. more v (after_keeps code S v (sees v a))) inst.op go))
      by_jump false e more ih =
          let code = (piece_of gl function.ret value pool inst.gives inst.op).code in
          let all = end_before gl function from S T from own code rest served.reads (ih (λ q s. more q (after_both code rest.code S q s))) in
          rw e (record { reads = all.0; later = all.1; edges = all.2 })
