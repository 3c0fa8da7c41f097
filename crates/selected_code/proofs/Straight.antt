-- Instructions that compute, one behind another: what they leave in registers, and that the play runs through them.
use Rattle.std.proofs.Common.{◌≡◌, ◌≢◌, refl, sym, ap, subst, ◌∙◌, ℕ, zero, suc, ◌+◌, ◌<◌, ◌≤◌, Bool, true, false, List, [], ◌∷◌, ◌++◌, Option, Some, None, arith}
use Rattle.std.specs.Prelude.{◌==◌, nat_lt, slice_get, slice_index_or, IsTrue, if◌then◌else◌}
use Rattle.std.proofs.lemmas.Bool.{ne_eqb, eq-eqb, le-ltb}
use Rattle.mir.specs.declared.code.MInst.{MInst}
use Rattle.mir.specs.declared.code.MInst.TheVariants.{Op, Imm, Const, Move, Param, Load, Store, Phi, Call, TakeData, CopyBytes, FillBytes, Branch, Jump, Return, Trap}
use Rattle.mir.specs.declared.code.MFunction.{MFunction}
use Rattle.mir.specs.Code.{writes}
use Rattle.walks.specs.Walk.{Bits, Does, Goes, Step}
use Rattle.walks.specs.Refines.{RefinesBits}
use Rattle.walks.specs.Registers.{Registers, read, write, put, RegsAgree}
use Rattle.walks.specs.Simulation.{Chain, here, further}
use Rattle.mir_play.specs.Values.{value, immediate_value, divisor}
use Rattle.mir_play.specs.Play.{weight, State, divided, give, step_at, step}
use Rattle.mir_play.proofs.Kept.{result}

-- ---- registers

pub read_same : (regs : Registers) (r : ℕ) (a : Bits) → write regs r a r ≡ a
read_same regs r a = rw (eq-eqb r r refl) refl

pub read_other : (regs : Registers) (r x : ℕ) (a : Bits) → x ≢ r → write regs r a x ≡ regs x
read_other regs r x a h = rw (ne_eqb x r h) refl

-- the registers below n count
abbrev pub below : ℕ → ℕ → Bool
below n r = nat_lt r n

-- a write to a register that doesn't count changes none that does
pub beside : (n : ℕ) (regs regs' : Registers) (r : ℕ) (a : Bits) → n ≤ r → RegsAgree (below n) regs regs' → RegsAgree (below n) regs (write regs' r a)
beside n regs regs' r a high h x live =
    let inside : x < n = grind (arith, live) in
    subst (λ (z : Bits). RefinesBits (regs x) z) (sym (read_other regs' r x a (λ e. omega (arith, inside, high, e)))) (h x live)

-- registers that are read exist
abbrev pub AllBelow : ℕ → List ℕ → Type 0
AllBelow n [] = Unit {0}
AllBelow n (r ∷ rs) = (r < n) × AllBelow n rs

-- the k-th register that is read: where there is none, nothing is known of it
pub operand_agrees : (n : ℕ) (regs regs' : Registers) → RegsAgree (below n) regs regs' → (rs : List ℕ) → AllBelow n rs → (k : ℕ)
    → RefinesBits (read regs (slice_get rs k)) (regs' (slice_index_or rs k 0))
operand_agrees n regs regs' h [] exist k = λ i bit e. absurd (let bad : ⊥ = cc in bad)
operand_agrees n regs regs' h (r ∷ rs) exist zero = let low = exist.0 in h r (grind (arith, low))
operand_agrees n regs regs' h (r ∷ rs) exist (suc k) = operand_agrees n regs regs' h rs exist.1 k

-- ---- instructions that compute

abbrev pub Computes : MInst → Type 0
Computes (Op op d a b) = (x : Bits) → divisor op x ≡ None
Computes (Imm op d a n) = Unit {0}
Computes (Const d n) = Unit {0}
Computes (Move d a) = Unit {0}
Computes _ = ⊥

abbrev pub AllCompute : List MInst → Type 0
AllCompute [] = Unit {0}
AllCompute (i ∷ is) = Computes i × AllCompute is

-- what they leave in registers
abbrev pub after : List MInst → Registers → Registers
after [] regs = regs
after (i ∷ is) regs = after is (put regs (writes i) (result regs i))

abbrev pub weights : List MInst → ℕ
weights [] = 0
weights (i ∷ is) = weight i + weights is

module _ (f : MFunction) (s : State) where
  -- one of them goes on
  one_goes : (i : MInst) (rest : List MInst) → Computes i → step_at f s (i ∷ rest) ≡ record { weight = weight i; jumps = 0; does = Goes (record s { rest = rest; regs = put s.regs (writes i) (result s.regs i) }) }
  one_goes (Op op d a b) rest c =
      ap (λ (o : Option (Option ℕ)). record { weight = 20; jumps = 0; does = divided f s rest o (give f s rest d (value op (s.regs a) (s.regs b))) }) (c (s.regs b))
  one_goes (Imm op d a n) rest c = refl
  one_goes (Const d n) rest c = refl
  one_goes (Move d a) rest c = refl
  one_goes (Param d n) rest c = absurd c
  one_goes (Load op d a n) rest c = absurd c
  one_goes (Store op a b n) rest c = absurd c
  one_goes (Phi d pairs) rest c = absurd c
  one_goes (Call g args results) rest c = absurd c
  one_goes (TakeData d n) rest c = absurd c
  one_goes (CopyBytes a b n) rest c = absurd c
  one_goes (FillBytes a b n) rest c = absurd c
  one_goes (Branch op a b t e) rest c = absurd c
  one_goes (Jump t) rest c = absurd c
  one_goes (Return rs) rest c = absurd c
  one_goes Trap rest c = absurd c

-- a chain of steps whose last goes on to this state
pub record Runs (f : MFunction) (first : Step State) (last : State) (w : ℕ) : Type 0 where
  pub before : Step State
  pub before_weight : ℕ
  pub jumps : ℕ
  pub chain : Chain State (step f) first before before_weight jumps
  pub goes : before.does ≡ Goes last
  pub weight : before_weight + before.weight ≡ w

module _ (f : MFunction) where
  -- the state behind instructions
  abbrev pub behind : State → List MInst → List MInst → State
  behind s is rest = record s { rest = rest; regs = after is s.regs }

  first_step : (s : State) (i : MInst) (rest : List MInst) (last : State) (w : ℕ) → Computes i
      → Runs f (record { weight = weight i; jumps = 0; does = Goes (record s { rest = rest; regs = put s.regs (writes i) (result s.regs i) }) }) last w
      → Runs f (step_at f s (i ∷ rest)) last w
  first_step s i rest last w c r = subst (λ (st : Step State). Runs f st last w) (sym (one_goes f s i rest c)) r

  -- instructions that compute run through
  pub runs : (s : State) (i : MInst) (is rest : List MInst) → AllCompute (i ∷ is) → Runs f (step_at f s ((i ∷ is) ++ rest)) (behind s (i ∷ is) rest) (weights (i ∷ is))
  runs s i [] rest c =
      first_step s i rest (behind s (i ∷ []) rest) (weights (i ∷ [])) c.0
      (record {
        before = record { weight = weight i; jumps = 0; does = Goes (record s { rest = rest; regs = put s.regs (writes i) (result s.regs i) }) };
        before_weight = 0;
        jumps = 0;
        chain = here;
        goes = refl;
        weight = omega arith;
      })
  runs s i (j ∷ js) rest c =
      let next : State = record s { rest = (j ∷ js) ++ rest; regs = put s.regs (writes i) (result s.regs i) } in
      let r = runs next j js rest c.1 in
      let same = r.weight in
      first_step s i ((j ∷ js) ++ rest) (behind s (i ∷ j ∷ js) rest) (weights (i ∷ j ∷ js)) c.0
      (record {
        before = r.before;
        before_weight = weight i + r.before_weight;
        jumps = 0 + r.jumps;
        chain = further next refl r.chain;
        goes = r.goes;
        weight = omega (arith, same);
      })
