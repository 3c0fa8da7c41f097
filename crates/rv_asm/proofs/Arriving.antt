-- Where the instructions of jumps and branches lead.
use Rattle.std.proofs.Common.{◌≡◌, ◌≢◌, refl, sym, ap, subst, ◌∙◌, ℕ, suc, ◌+◌, ◌-◌, ◌*◌, ◌%◌, ◌^◌, ◌<◌, ◌≤◌, ◌⊎◌, inl, inr, ⊎_elim, List, ◌∷◌, length, Some, Bool, true, false, cond, not, arith}
use Rattle.std.specs.Prelude.{nat_le, nat_lt, ℤ, pos, negsuc}
use Rattle.std.proofs.lemmas.Bool.{cases_lt, lt-ltb, le-ltb, le-leb, lt-leb, ltb-true, leb-true}
use Rattle.std.proofs.lemmas.Int.{ints}
use Rattle.rv_core.specs.Instr.{IsValid, AreValid, IsOffset}
use Rattle.rv_core.specs.Step.{Registers, read, after, asks, is_taken, plus, modulo, sign_extend_word}
use Rattle.rv_core.specs.declared.reg.Reg.{Reg}
use Rattle.rv_core.specs.declared.reg.Reg.TheVariants.{X0, T6}
use Rattle.rv_core.specs.declared.instr.BranchOp.{BranchOp}
use Rattle.rv_core.specs.declared.instr.BranchOp.TheVariants.{Beq, Bne, Blt, Bge, Bltu, Bgeu}
use Rattle.rv_core.specs.declared.instr.Instr.{Instr}
use Rattle.rv_core.specs.declared.instr.Instr.TheVariants.{Auipc, Jal, Jalr, Branch}
use Rattle.rv_core.specs.declared.step.Stepped.TheVariants as stepped
use Rattle.rv_asm.specs.declared.item.Form.{Form}
use Rattle.rv_asm.specs.declared.item.Form.TheVariants.{Short, Near, Far}
use Rattle.rv_asm.specs.Constant.{upper, lower}
use Rattle.rv_asm.specs.Layout.{offset, reaches, distance, opposite, far_code, jump_code, branch_code, CanJump, CanBranch}
use Rattle.rv_asm.specs.Runs.{instr_at, Runs, Arrives}
use Rattle.rv_asm.proofs.Bits.{written-other, far-forward, far-backward}
use Rattle.rv_asm.proofs.Standing.{Stands}

-- ---- offsets

pub offset-forward : (place to : ℕ) → place ≤ to → offset place to ≡ pos (4 * (to - place))
offset-forward place to h = ap (λ (b : Bool). cond b (pos (4 * (to - place))) (negsuc (4 * (place - to) - 1))) (le-leb place to h)

pub offset-backward : (place to : ℕ) → to < place → offset place to ≡ negsuc (4 * (place - to) - 1)
offset-backward place to h = ap (λ (b : Bool). cond b (pos (4 * (to - place))) (negsuc (4 * (place - to) - 1))) (lt-leb place to h)

pub reaches-forward : (half place to : ℕ) → place ≤ to → reaches half place to ≡ true → 4 * (to - place) < half
reaches-forward half place to h r = ltb-true _ _ (sym (ap (λ (b : Bool). cond b (nat_lt (4 * (to - place)) half) (nat_le (4 * (place - to)) half)) (le-leb place to h)) ∙ r)

pub reaches-backward : (half place to : ℕ) → to < place → reaches half place to ≡ true → 4 * (place - to) ≤ half
reaches-backward half place to h r = leb-true _ _ (sym (ap (λ (b : Bool). cond b (nat_lt (4 * (to - place)) half) (nat_le (4 * (place - to)) half)) (lt-leb place to h)) ∙ r)

-- an offset that reaches fits its field
pub offset-fits : (half place to : ℕ) → 0 < half → reaches half place to ≡ true → IsOffset half (offset place to)
offset-fits half place to some r =
    ⊎_elim
    (λ h. subst (IsOffset half) (sym (offset-backward place to h)) (back (4 * (place - to)) (omega (arith, h)) (reaches-backward half place to h r) (omega arith)))
    (λ h. subst (IsOffset half) (sym (offset-forward place to h)) (on (4 * (to - place)) (reaches-forward half place to h r) (omega arith)))
    (cases_lt to place)
  where
    on : (n : ℕ) → n < half → n % 2 ≡ 0 → IsOffset half (pos n)
    on n h e = (omega (arith, ints), omega (arith, ints, h), e)

    back : (n : ℕ) → 0 < n → n ≤ half → n % 2 ≡ 0 → IsOffset half (negsuc (n - 1))
    back n p h e = (omega (arith, ints, p, h, some), omega (arith, ints), let s : suc (n - 1) ≡ n = omega (arith, p) in ap (λ (k : ℕ). k % 2) s ∙ e)

-- where an offset leads, between places of words at a base
pub offset-leads : (base place to pc : ℕ) → pc ≡ base + 4 * place → base + 4 * to < 2 ^ 64 → pc < 2 ^ 64 → plus pc (offset place to) ≡ base + 4 * to
offset-leads base place to pc at t p =
    ⊎_elim
    (λ h. ap (plus pc) (offset-backward place to h) ∙ omega (arith, at, t, p, h))
    (λ h. ap (plus pc) (offset-forward place to h) ∙ omega (arith, at, t, p, h))
    (cases_lt to place)

-- where the two parts of an offset lead
pub far-leads : (base place to pc : ℕ) → base % 4 ≡ 0 → pc ≡ base + 4 * place → base + 4 * to < 2 ^ 64 → pc < 2 ^ 64 → place ≤ 2 ^ 23 → to ≤ 2 ^ 23
    → plus ((pc + sign_extend_word (upper (distance place to) % 2 ^ 20 * 2 ^ 12)) % 2 ^ 64) (lower (distance place to)) - plus ((pc + sign_extend_word (upper (distance place to) % 2 ^ 20 * 2 ^ 12)) % 2 ^ 64) (lower (distance place to)) % 2 ≡ base + 4 * to
far-leads base place to pc even at t p small small' =
    let high : ℕ = sign_extend_word (upper (distance place to) % 2 ^ 20 * 2 ^ 12) in
    let low : ℕ = modulo (lower (distance place to)) in
    whole high low
    (⊎_elim
    (λ h. inr (h, far-backward (distance place to) (4 * (place - to)) (omega (arith, h)) (omega (arith, small)) (omega (arith, h, small))))
    (λ h. inl (h, far-forward (distance place to) (omega (arith, h, small')) ∙ omega (arith, h, small')))
    (cases_lt to place))
  where
    whole : (high low : ℕ) → ((place ≤ to) × ((high + low) % 2 ^ 64 ≡ 4 * (to - place))) ⊎ ((to < place) × ((high + low) % 2 ^ 64 ≡ 2 ^ 64 - 4 * (place - to)))
        → ((pc + high) % 2 ^ 64 + low) % 2 ^ 64 - ((pc + high) % 2 ^ 64 + low) % 2 ^ 64 % 2 ≡ base + 4 * to
    whole high low (inl h) =
        let sum : ((pc + high) % 2 ^ 64 + low) % 2 ^ 64 ≡ base + 4 * to = omega (arith, h.0, h.1, at, t, p) in
        ap (λ (x : ℕ). x - x % 2) sum ∙ omega (arith, even)
    whole high low (inr h) =
        let sum : ((pc + high) % 2 ^ 64 + low) % 2 ^ 64 ≡ base + 4 * to = omega (arith, h.0, h.1, at, t, p) in
        ap (λ (x : ℕ). x - x % 2) sum ∙ omega (arith, even)

-- ---- conditions

not-not : (b : Bool) → b ≡ not (not b)
not-not true = refl
not-not false = refl

pub opposite-is : (op : BranchOp) (a b : ℕ) → is_taken (opposite op) a b ≡ not (is_taken op a b)
opposite-is Beq a b = refl
opposite-is Bne a b = not-not _
opposite-is Blt a b = refl
opposite-is Bge a b = not-not _
opposite-is Bltu a b = refl
opposite-is Bgeu a b = not-not _

-- ---- runs

-- at most so many instructions lead to an address, and change no register but t6
pub record Hops (words : List ℕ) (base most : ℕ) (s : Registers) (to : ℕ) : Type 0 where
  pub count : ℕ
  pub some : 1 ≤ count
  pub few : count ≤ most
  pub last : Registers
  pub run : Runs words base count s last
  pub there : last.pc ≡ to
  pub others : (j : ℕ) → j ≢ 31 → last.x j ≡ s.x j

pub arrives : (words : List ℕ) (base most : ℕ) (s : Registers) (to : ℕ) → most ≤ 3 → Hops words base most s to → Arrives words base s to
arrives words base most s to h k = record { count = k.count; some = k.some; few = omega (arith, h, k.few); last = k.last; run = k.run; there = k.there; others = k.others }

module _ (words : List ℕ) (base : ℕ) where
  one-hop : (s : Registers) (i : Instr) (to : ℕ) → instr_at words base s.pc ≡ Some i → asks s i ≡ stepped.Done → (after s i).pc ≡ to → ((j : ℕ) → j ≢ 31 → (after s i).x j ≡ s.x j) → Hops words base 1 s to
  one-hop s i to at done there others = record { count = 1; some = omega arith; few = omega arith; last = after s i; run = (i, at, done, others, refl); there = there; others = others }

  then-hops : (s : Registers) (i : Instr) (most to : ℕ) → instr_at words base s.pc ≡ Some i → asks s i ≡ stepped.Done → ((j : ℕ) → j ≢ 31 → (after s i).x j ≡ s.x j) → Hops words base most (after s i) to → Hops words base (suc most) s to
  then-hops s i most to at done others h = record {
    count = suc h.count;
    some = omega arith;
    few = omega (arith, h.few);
    last = h.last;
    run = (i, at, done, others, h.run);
    there = h.there;
    others = λ j k. h.others j k ∙ others j k;
  }

  wider : (s : Registers) (to few most : ℕ) → few ≤ most → Hops words base few s to → Hops words base most s to
  wider s to few most h k = record { count = k.count; some = k.some; few = omega (arith, h, k.few); last = k.last; run = k.run; there = k.there; others = k.others }

  -- a jump
  pub jump-hops : (form : Form) (s : Registers) (place to : ℕ) → base % 4 ≡ 0 → s.pc ≡ base + 4 * place → s.pc + 4 * length (jump_code form place to) < 2 ^ 64 → base + 4 * to < 2 ^ 64 → place ≤ 2 ^ 23 → to ≤ 2 ^ 23
      → Stands words base s.pc (jump_code form place to) → Hops words base 2 s (base + 4 * to)
  jump-hops Short s place to even at p t small small' st =
      wider s (base + 4 * to) 1 2 (omega arith) (one-hop s (Jal X0 (offset place to)) (base + 4 * to) st.0 refl (offset-leads base place to s.pc at t (omega (arith, p))) (λ j k. refl))
  jump-hops Near s place to even at p t small small' st =
      wider s (base + 4 * to) 1 2 (omega arith) (one-hop s (Jal X0 (offset place to)) (base + 4 * to) st.0 refl (offset-leads base place to s.pc at t (omega (arith, p))) (λ j k. refl))
  jump-hops Far s place to even at p t small small' st =
      let first : Instr = Auipc T6 (upper (distance place to) % 2 ^ 20) in
      let s1 : Registers = after s first in
      let on : s.pc + 4 ≡ plus s.pc (pos 4) = omega (arith, p) in
      then-hops s first 1 (base + 4 * to) st.0 refl (λ j k. written-other s.x 31 _ j k)
      (one-hop s1 (Jalr X0 T6 (lower (distance place to))) (base + 4 * to) (subst (λ (pc : ℕ). instr_at words base pc ≡ Some (Jalr X0 T6 (lower (distance place to)))) on st.1.0) refl
      (far-leads base place to s.pc even at t (omega (arith, p)) small small') (λ j k. refl))

  -- the opposite branch isn't taken, and a jump follows
  over : (form : Form) (op : BranchOp) (a b : Reg) (skip : ℤ) (s : Registers) (place to : ℕ) → base % 4 ≡ 0 → s.pc ≡ base + 4 * place → s.pc + 4 * suc (length (jump_code form (place + 1) to)) < 2 ^ 64 → base + 4 * to < 2 ^ 64 → place < 2 ^ 23 → to ≤ 2 ^ 23
      → is_taken op (read s a) (read s b) ≡ true → Stands words base s.pc (Branch (opposite op) a b skip ∷ jump_code form (place + 1) to) → Hops words base 3 s (base + 4 * to)
  over form op a b skip s place to even at p t small small' taken st =
      let first : Instr = Branch (opposite op) a b skip in
      let s1 : Registers = after s first in
      let fails : is_taken (opposite op) (read s a) (read s b) ≡ false = opposite-is op (read s a) (read s b) ∙ ap not taken in
      let on : s.pc + 4 ≡ s1.pc = (let e : s.pc + 4 ≡ plus s.pc (pos 4) = omega (arith, p) in e) ∙ sym (ap (λ (c : Bool). plus s.pc (cond c skip (pos 4))) fails) in
      then-hops s first 2 (base + 4 * to) st.0 refl (λ j k. refl)
      (jump-hops form s1 (place + 1) to even (sym on ∙ omega (arith, at)) (omega (arith, p, on)) t (omega (arith, small)) small' (subst (λ (pc : ℕ). Stands words base pc (jump_code form (place + 1) to)) on st.1))

  -- the opposite branch is taken
  past : (op : BranchOp) (a b : Reg) (s : Registers) (rest : List Instr) (skip to : ℕ) → is_taken op (read s a) (read s b) ≡ false → plus s.pc (pos skip) ≡ to → Stands words base s.pc (Branch (opposite op) a b (pos skip) ∷ rest) → Hops words base 3 s to
  past op a b s rest skip to fails there st =
      let yes' : is_taken (opposite op) (read s a) (read s b) ≡ true = opposite-is op (read s a) (read s b) ∙ ap not fails in
      wider s to 1 3 (omega arith) (one-hop s (Branch (opposite op) a b (pos skip)) to st.0 refl (ap (λ (c : Bool). plus s.pc (cond c (pos skip) (pos 4))) yes' ∙ there) (λ j k. refl))

  -- a branch
  pub branch-hops : (form : Form) (op : BranchOp) (a b : Reg) (s : Registers) (place to : ℕ) (taken : Bool) → base % 4 ≡ 0 → s.pc ≡ base + 4 * place → s.pc + 4 * length (branch_code form op a b place to) < 2 ^ 64 → base + 4 * to < 2 ^ 64 → place < 2 ^ 23 → to ≤ 2 ^ 23
      → is_taken op (read s a) (read s b) ≡ taken → Stands words base s.pc (branch_code form op a b place to) → Hops words base 3 s (base + 4 * cond taken to (place + length (branch_code form op a b place to)))
  branch-hops Short op a b s place to true even at p t small small' e st =
      wider s (base + 4 * to) 1 3 (omega arith) (one-hop s (Branch op a b (offset place to)) (base + 4 * to) st.0 refl
      (ap (λ (c : Bool). plus s.pc (cond c (offset place to) (pos 4))) e ∙ offset-leads base place to s.pc at t (omega (arith, p))) (λ j k. refl))
  branch-hops Short op a b s place to false even at p t small small' e st =
      wider s (base + 4 * (place + 1)) 1 3 (omega arith) (one-hop s (Branch op a b (offset place to)) (base + 4 * (place + 1)) st.0 refl
      (ap (λ (c : Bool). plus s.pc (cond c (offset place to) (pos 4))) e ∙ omega (arith, at, p)) (λ j k. refl))
  branch-hops Near op a b s place to true even at p t small small' e st = over Near op a b (pos 8) s place to even at p t small small' e st
  branch-hops Near op a b s place to false even at p t small small' e st = past op a b s (jump_code Near (place + 1) to) 8 (base + 4 * (place + 2)) e (omega (arith, at, p)) st
  branch-hops Far op a b s place to true even at p t small small' e st = over Far op a b (pos 12) s place to even at p t small small' e st
  branch-hops Far op a b s place to false even at p t small small' e st = past op a b s (jump_code Far (place + 1) to) 12 (base + 4 * (place + 3)) e (omega (arith, at, p)) st

-- ---- the first form can be written

pub first-jump : (form : Form) (place to : ℕ) → form ≡ cond (reaches (2 ^ 20) place to) Short Far → CanJump form place to
first-jump form place to e = by_test (reaches (2 ^ 20) place to) refl
  where
    by_test : (b : Bool) → reaches (2 ^ 20) place to ≡ b → CanJump form place to
    by_test true r = subst (λ (f : Form). CanJump f place to) (sym (e ∙ ap (λ (c : Bool). cond c Short Far) r)) r
    by_test false r = subst (λ (f : Form). CanJump f place to) (sym (e ∙ ap (λ (c : Bool). cond c Short Far) r)) tt

pub first-branch : (form : Form) (place to : ℕ) → form ≡ cond (reaches 4096 place to) Short (cond (reaches (2 ^ 20) (place + 1) to) Near Far) → CanBranch form place to
first-branch form place to e = by_test (reaches 4096 place to) (reaches (2 ^ 20) (place + 1) to) refl refl
  where
    by_test : (b c : Bool) → reaches 4096 place to ≡ b → reaches (2 ^ 20) (place + 1) to ≡ c → CanBranch form place to
    by_test true c r q = subst (λ (f : Form). CanBranch f place to) (sym (e ∙ ap (λ (d : Bool). cond d Short (cond (reaches (2 ^ 20) (place + 1) to) Near Far)) r)) r
    by_test false true r q = subst (λ (f : Form). CanBranch f place to) (sym (e ∙ ap (λ (d : Bool). cond d Short (cond (reaches (2 ^ 20) (place + 1) to) Near Far)) r ∙ ap (λ (d : Bool). cond d Near Far) q)) q
    by_test false false r q = subst (λ (f : Form). CanBranch f place to) (sym (e ∙ ap (λ (d : Bool). cond d Short (cond (reaches (2 ^ 20) (place + 1) to) Near Far)) r ∙ ap (λ (d : Bool). cond d Near Far) q)) tt

-- ---- instructions that can be written have spellings

far-valid : (place to : ℕ) → AreValid (far_code place to)
far-valid place to = (omega arith, (lower-fits (distance place to), tt))
  where
    lower-fits : (n : ℕ) → IsValid (Jalr X0 T6 (lower n))
    lower-fits n = ⊎_elim
        (λ h. subst (λ (z : ℤ). IsValid (Jalr X0 T6 z)) (sym (ap (λ (b : Bool). cond b (pos (n % 4096)) (negsuc (4095 - n % 4096))) (lt-ltb _ _ h))) (omega (arith, ints), omega (arith, ints, h)))
        (λ h. subst (λ (z : ℤ). IsValid (Jalr X0 T6 z)) (sym (ap (λ (b : Bool). cond b (pos (n % 4096)) (negsuc (4095 - n % 4096))) (le-ltb _ _ h))) (omega (arith, ints, h), omega (arith, ints)))
        (cases_lt (n % 4096) 2048)

pub jump-valid : (form : Form) (place to : ℕ) → CanJump form place to → AreValid (jump_code form place to)
jump-valid Short place to h = (offset-fits (2 ^ 20) place to (omega arith) h, tt)
jump-valid Near place to h = (offset-fits (2 ^ 20) place to (omega arith) h, tt)
jump-valid Far place to h = far-valid place to

skip-valid : (k : ℕ) → k < 4096 → k % 2 ≡ 0 → IsOffset 4096 (pos k)
skip-valid k h e = (omega (arith, ints), omega (arith, ints, h), e)

pub branch-valid : (form : Form) (op : BranchOp) (a b : Reg) (place to : ℕ) → CanBranch form place to → AreValid (branch_code form op a b place to)
branch-valid Short op a b place to h = (offset-fits 4096 place to (omega arith) h, tt)
branch-valid Near op a b place to h = (skip-valid 8 (omega arith) refl, jump-valid Near (place + 1) to h)
branch-valid Far op a b place to h = (skip-valid 12 (omega arith) refl, jump-valid Far (place + 1) to tt)
