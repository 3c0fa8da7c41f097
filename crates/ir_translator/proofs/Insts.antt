-- The instructions of a block, one after another.
use Rattle.std.proofs.Common.{◌≡◌, sym, ap, ap₂, ◌∙◌, subst, ℕ, zero, suc, ◌+◌, ◌<◌, ◌≤◌, List, [], ◌∷◌, length, drop, get_or, Bool, true, false, arith}
use Rattle.std.specs.Prelude.{if◌then◌else◌}
use Rattle.std.proofs.Math.Seq.{drop-cons}
use Rattle.std.proofs.lemmas.List.{drop_all}
use Rattle.ir_core.specs.declared.types.Ty.{Ty}
use Rattle.ir_core.specs.declared.code.Inst.{Inst}
use Rattle.ir_core.specs.declared.program.Function.{Function}
use Rattle.ir_core.specs.declared.program.Global.{Global}
use Rattle.ir_core.specs.Units.{has_result, parts_in}
use Rattle.generic_code.specs.Literals.{Pool}
use Rattle.generic_code.specs.Code.{Piece, piece_of}
use Rattle.generic_code.specs.Edges.{Ending, no_ending, ending_behind, ending_of}
use Rattle.generic_code.specs.Whole.{is_jump, insts_ending}
use Rattle.ir_translator_emit.specs.Written.{Written, put, put_piece}
use Rattle.ir_translator_emit.specs.Jumps.{whole}
use Rattle.ir_translator_emit.specs.Forms.{IsTaken, IsLed}
use Rattle.ir_translator_emit.proofs.Wholes.{whole_put}
use Rattle.ir_translator.specs.Fit.{AreFit, weight}

rest_is : (insts : List Inst) (i : ℕ) (d : Inst) → i < length insts → drop i insts ≡ get_or insts i d ∷ drop (i + 1) insts
rest_is insts i d lt = drop-cons insts i d lt ∙ ap (λ (n : ℕ). get_or insts i d ∷ drop n insts) (let k : suc i ≡ i + 1 = omega arith in k)

-- an instruction and those behind it
pub here_is : (insts : List Inst) (i : ℕ) (inst : Inst) → i < length insts → inst ≡ get_or insts i inst → drop i insts ≡ inst ∷ drop (i + 1) insts
here_is insts i inst lt is = rest_is insts i inst lt ∙ ap (λ (x : Inst). x ∷ drop (i + 1) insts) (sym is)

fit_at : (blocks : ℕ) (insts : List Inst) (i : ℕ) (d : Inst) → i < length insts → AreFit blocks insts → IsTaken (get_or insts i d).op × IsLed blocks (get_or insts i d).op
fit_at blocks [] i d lt h = absurd (let bad : ⊥ = omega (arith, lt) in bad)
fit_at blocks (one ∷ insts) zero d lt h = (h.0, h.1)
fit_at blocks (one ∷ insts) (suc i) d lt h = fit_at blocks insts i d (omega (arith, lt)) h.2

-- an instruction is fit
pub fit_here : (blocks : ℕ) (insts : List Inst) (i : ℕ) (inst : Inst) → i < length insts → inst ≡ get_or insts i inst → AreFit blocks insts → IsTaken inst.op × IsLed blocks inst.op
fit_here blocks insts i inst lt is h = subst (λ (x : Inst). IsTaken x.op × IsLed blocks x.op) (sym is) (fit_at blocks insts i inst lt h)

-- what an instruction weighs with those behind it
pub weight_here : (insts : List Inst) (i : ℕ) (inst : Inst) → i < length insts → inst ≡ get_or insts i inst → weight (drop i insts) ≡ 1 + parts_in inst.op + weight (drop (i + 1) insts)
weight_here insts i inst lt is = ap weight (here_is insts i inst lt is)

-- a value more at most
pub behind_few : (inst : Inst) (value next : ℕ) → next ≡ (if has_result inst then value + 1 else value) → next ≤ value + 1
behind_few inst value next e = by (has_result inst) e
  where
    by : (b : Bool) → next ≡ (if b then value + 1 else value) → next ≤ value + 1
    by true e = omega (arith, e)
    by false e = omega (arith, e)

-- what a piece leaves as it was
pub record Kept (w v : Written) : Type 0 where
  pub globals : v.globals ≡ w.globals
  pub function : v.function ≡ w.function
  pub own : v.own ≡ w.own

pub piece_kept : (w v : Written) (piece : Piece) → v ≡ put_piece w piece → Kept w v
unfolding put
piece_kept w v piece e = record {
  globals = ap (λ (x : Written). x.globals) e;
  function = ap (λ (x : Written). x.function) e;
  own = ap (λ (x : Written). x.own) e;
}

module _ (globals : List Global) (function : Function) (from : ℕ) where
  -- an instruction that takes no edge is written, and then those behind it
  first_is : (value : ℕ) (pool : Pool) (own : ℕ) (inst : Inst) (insts : List Inst) → is_jump inst.op ≡ false → (
      let piece = piece_of globals function.ret value pool inst.gives inst.op in
      insts_ending globals function from value pool own (inst ∷ insts)
      ≡ ending_behind piece.code piece.types (insts_ending globals function from (if has_result inst then value + 1 else value) piece.pool own insts))
  first_is value pool own inst insts e =
      let piece : Piece = piece_of globals function.ret value pool inst.gives inst.op in
      ap (λ (b : Bool). if b then ending_of globals function from pool own inst.op else (ending_behind piece.code piece.types (insts_ending globals function from (if has_result inst then value + 1 else value) piece.pool own insts))) e

  last_is : (value : ℕ) (pool : Pool) (own : ℕ) (inst : Inst) (insts : List Inst) → is_jump inst.op ≡ true → insts_ending globals function from value pool own (inst ∷ insts) ≡ ending_of globals function from pool own inst.op
  last_is value pool own inst insts e =
      let piece : Piece = piece_of globals function.ret value pool inst.gives inst.op in
      ap (λ (b : Bool). if b then ending_of globals function from pool own inst.op else (ending_behind piece.code piece.types (insts_ending globals function from (if has_result inst then value + 1 else value) piece.pool own insts))) e

  pub insts_more : (w v total : Written) (value next : ℕ) (ret : Ty) (insts : List Inst) (i : ℕ) (inst : Inst) → i < length insts → inst ≡ get_or insts i inst → is_jump inst.op ≡ false
      → w.globals ≡ globals → ret ≡ function.ret
      → whole w (insts_ending globals function from value w.pool w.own (drop i insts)) ≡ total
      → v ≡ put_piece w (piece_of w.globals ret value w.pool inst.gives inst.op) → next ≡ (if has_result inst then value + 1 else value)
      → whole v (insts_ending globals function from next v.pool v.own (drop (i + 1) insts)) ≡ total
  unfolding put
  insts_more w v total value next ret insts i inst lt is plain g r h e n =
      let piece : Piece = piece_of globals function.ret value w.pool inst.gives inst.op in
      let behind : ℕ = (if has_result inst then value + 1 else value) in
      let rest : Ending = insts_ending globals function from behind piece.pool w.own (drop (i + 1) insts) in
      let v-is : v ≡ put w piece.code piece.types piece.pool = e ∙ ap₂ (λ (gs : List Global) (t : Ty). put_piece w (piece_of gs t value w.pool inst.gives inst.op)) g r in
      ap₂ (λ (x : Written) (k : ℕ). whole x (insts_ending globals function from k x.pool x.own (drop (i + 1) insts))) v-is n
      ∙ whole_put w piece.code piece.types piece.pool rest
      ∙ ap (whole w) (sym (first_is value w.pool w.own inst (drop (i + 1) insts) plain))
      ∙ ap (λ (xs : List Inst). whole w (insts_ending globals function from value w.pool w.own xs)) (sym (here_is insts i inst lt is)) ∙ h

  pub insts_end : (w u total : Written) (value : ℕ) (insts : List Inst) (i : ℕ) (inst : Inst) → i < length insts → inst ≡ get_or insts i inst → is_jump inst.op ≡ true
      → w.globals ≡ globals → w.function ≡ function
      → whole w (insts_ending globals function from value w.pool w.own (drop i insts)) ≡ total
      → whole u no_ending ≡ whole w (ending_of w.globals w.function from w.pool w.own inst.op)
      → whole u no_ending ≡ total
  insts_end w u total value insts i inst lt is jumps g f h e =
      e ∙ ap₂ (λ (gs : List Global) (x : Function). whole w (ending_of gs x from w.pool w.own inst.op)) g f
      ∙ ap (whole w) (sym (last_is value w.pool w.own inst (drop (i + 1) insts) jumps))
      ∙ ap (λ (xs : List Inst). whole w (insts_ending globals function from value w.pool w.own xs)) (sym (here_is insts i inst lt is)) ∙ h

  pub insts_done : (w total : Written) (value : ℕ) (insts : List Inst) (i : ℕ) → length insts ≤ i → whole w (insts_ending globals function from value w.pool w.own (drop i insts)) ≡ total → whole w no_ending ≡ total
  insts_done w total value insts i le h =
      ap (λ (xs : List Inst). whole w (insts_ending globals function from value w.pool w.own xs)) (sym (drop_all i insts le)) ∙ h
