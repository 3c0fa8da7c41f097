-- The way of an assembled jump or branch, as steps of a version's play.
use Rattle.std.proofs.Common.{◌≡◌, ◌≢◌, refl, sym, ap, subst, ◌∙◌, ℕ, zero, suc, ◌+◌, ◌-◌, ◌*◌, ◌/◌, ◌%◌, ◌≤◌, List, length, Option, Some, None, Bool, true, false, cond, arith}
use Rattle.std.specs.Prelude.{◌==◌, ◌&&◌, nat_le, nat_lt, slice_get}
use Rattle.std.proofs.lemmas.Bool.{ne_eqb, leb-true}
use Rattle.rv_core.specs.declared.reg.Reg.TheVariants.{Sp}
use Rattle.rv_core.specs.declared.instr.Instr.{Instr}
use Rattle.rv_core.specs.declared.step.Stepped.{Stepped}
use Rattle.rv_core.specs.Step.{Registers, read, after}
use Rattle.rv_encode.specs.Reading.{instr_of}
use Rattle.ir_meaning.specs.Plays.{Meaning}
use Rattle.rv_play.specs.Machine.{On, act, serve, code_base, code_limit, stub_base, stub_of}
use Rattle.rv_play.specs.CodePlay.{Place, Point, Running, after_act, called, stub_at, is_return, is_jalr, arrive, word_at, option_bind, code_run}
use Rattle.rv_play.proofs.Lines.{Goes, goes-then, goes-none, one-step}
use Rattle.rv_asm.specs.Runs.{instr_at, spelled, Runs, Arrives}
use Rattle.code_pieces.specs.AssemblyLaws.{reached, JumpsArrive}

pick-no : {A : Type 0} (b : Bool) (x y : A) → b ≡ false → cond b x y ≡ y
pick-no false x y h = refl
pick-no true x y h = absurd (let bad : true ≡ false = h in cc)

never : (b c : Bool) → (b && (c && false)) ≡ false
never true true = refl
never true false = refl
never false c = refl

read-alike : (o : Option ℕ) → option_bind o instr_of ≡ spelled o
read-alike None = refl
read-alike (Some word) = refl

-- an address where a word stands isn't below the base
from-base : (words : List ℕ) (base pc : ℕ) (i : Instr) → instr_at words base pc ≡ Some i → base ≤ pc
from-base words base pc i h = at (nat_le base pc) ((pc - base) % 4 == 0) refl h
  where
    at : (b c : Bool) → nat_le base pc ≡ b → spelled (cond (b && c) (slice_get words ((pc - base) / 4)) None) ≡ Some i → base ≤ pc
    at true c e k = leb-true _ _ e
    at false c e k = absurd (let bad : None ≡ Some i = k in cc)

module _ (m : Meaning) (functions : m.functions ≤ 1024) (place : Place) (low : code_base + 4 ≤ place.base) (high : place.base + 4 * length place.words ≤ code_limit) where
  no-stub : (pc : ℕ) → code_base ≤ pc → stub_at m pc ≡ None
  no-stub pc h =
      let out : ((nat_le stub_base pc) && ((nat_lt pc (stub_of m.functions)) && ((pc - stub_base) % 16 == 0))) ≡ false = grind arith in
      pick-no _ _ _ out

  -- no step within the words returns while the stack pointer isn't the entering one
  no-return : (i : Instr) (p : Point) → read p.machine.regs Sp ≢ place.sp → code_base ≤ p.machine.regs.pc → arrive m place i p ≡ Running p
  no-return i p sp h =
      let out : is_return place i p.machine ≡ false =
      ap (λ (b : Bool). (is_jalr i) && ((p.machine.regs.pc == place.ra) && b)) (ne_eqb (read p.machine.regs Sp) place.sp sp) ∙ never (is_jalr i) (p.machine.regs.pc == place.ra) in
      pick-no (is_return place i p.machine) _ _ out ∙ ap (λ (o : Option ℕ). called o p) (no-stub p.machine.regs.pc h)

  start : (n : ℕ) (s t : Registers) → Runs place.words place.base n s t → code_base ≤ t.pc → code_base ≤ s.pc
  start zero s t r h = subst (λ (u : Registers). code_base ≤ u.pc) (sym r) h
  start (suc n) s t r h = let b = from-base place.words place.base s.pc r.0 r.1 in omega (arith, low, b)

  pub runs-go : (n : ℕ) (p : Point) (t : Registers) → read p.machine.regs Sp ≢ place.sp → code_base ≤ t.pc → Runs place.words place.base n p.machine.regs t → Goes m functions place low high n p (reached p n t)
  runs-go zero p t sp h r =
      let steps : p.steps ≡ p.steps + 0 = omega arith in
      let made : Registers → ℕ → Point = λ u k. record p { machine = record p.machine { regs = u }; steps = k } in
      subst (Goes m functions place low high 0 p) (ap (λ (u : Registers). made u p.steps) r ∙ ap (made t) steps) (goes-none m functions place low high p)
  runs-go (suc n) p t sp h r =
      let i : Instr = r.0 in
      let s' : Registers = after p.machine.regs r.0 in
      let q : Point = record p { machine = record p.machine { regs = s' }; steps = p.steps + 1 } in
      let same-sp : read s' Sp ≡ read p.machine.regs Sp = r.3 2 (λ e. absurd (omega (arith, e))) in
      let sp' : read s' Sp ≢ place.sp = λ e. sp (sym same-sp ∙ e) in
      let inside : code_base ≤ s'.pc = start n s' t r.4 h in
      let acts : act m p.machine r.0 ≡ On (record p.machine { regs = s' }) = ap (λ (x : Stepped). serve m (record p.machine { regs = s' }) x) r.2 in
      let goes : after_act m place r.0 p (act m p.machine r.0) ≡ Running q = ap (after_act m place r.0 p) acts ∙ no-return r.0 q sp' inside in
      let one : Goes m functions place low high 1 p q = λ f replies. (let e : 1 + f ≡ suc f = omega arith in ap (λ (j : ℕ). code_run m place j p replies) e) ∙ one-step m functions place low high p r.0 (Running q) (read-alike (word_at place p.machine.regs.pc) ∙ r.1) goes f replies in
      let rest = runs-go n q t sp' h r.4 in
      let all = goes-then m functions place low high 1 n p q (reached q n t) one rest in
      let count : 1 + n ≡ suc n = omega arith in
      let steps : p.steps + 1 + n ≡ p.steps + suc n = omega arith in
      subst (λ (k : ℕ). Goes m functions place low high k p (reached p (suc n) t)) count
      (subst (Goes m functions place low high (1 + n) p) (ap (λ (k : ℕ). record p { machine = record p.machine { regs = t }; steps = k }) steps) all)

  -- from a branch or jump the play goes to where it leads
  pub arrives-go : (p : Point) (to : ℕ) → read p.machine.regs Sp ≢ place.sp → code_base ≤ to → (a : Arrives place.words place.base p.machine.regs to) → Goes m functions place low high a.count p (reached p a.count a.last)
  arrives-go p to sp h a = runs-go a.count p a.last sp (subst (λ (pc : ℕ). code_base ≤ pc) (sym a.there) h) a.run

pub jumps-arrive : JumpsArrive
jumps-arrive m functions place low high p to sp h a = arrives-go m functions place low high p to sp h a
