-- Words of a place, at any base, and arrivals among them.
use Rattle.std.proofs.Common.{◌≡◌, refl, ap, ◌∙◌, ℕ, ◌+◌, ◌-◌, ◌*◌, ◌/◌, ◌%◌, ◌≤◌, Option, Some, None, Bool, true, false, cond, arith, length}
use Rattle.std.specs.Prelude.{◌==◌, ◌&&◌, nat_le, nat_lt, slice_get}
use Rattle.rv_core.specs.declared.instr.Instr.{Instr}
use Rattle.ir_meaning.specs.Plays.{Meaning}
use Rattle.rv_play.specs.Machine.{code_base, code_limit, stub_base, stub_of}
use Rattle.rv_play.specs.CodePlay.{Place, Point, Running, arrive, called, is_return, is_jalr, stub_at, word_at}

pick : {A : Type 0} (b : Bool) (x y : A) → b ≡ true → cond b x y ≡ x
pick true x y h = refl
pick false x y h = absurd (let bad : false ≡ true = h in cc)

pick_no : {A : Type 0} (b : Bool) (x y : A) → b ≡ false → cond b x y ≡ y
pick_no false x y h = refl
pick_no true x y h = absurd (let bad : true ≡ false = h in cc)

no_and : (b c : Bool) → b ≡ false → (b && c) ≡ false
no_and false c h = refl
no_and true c h = absurd (let bad : true ≡ false = h in cc)

module _ (m : Meaning) (functions : m.functions ≤ 1024) (place : Place) (low : code_base + 4 ≤ place.base) (high : place.base + 4 * length place.words ≤ code_limit) where
  -- the word that stands at an address
  pub word_is : (i w pc : ℕ) → slice_get place.words i ≡ Some w → pc ≡ place.base + 4 * i → word_at place pc ≡ Some w
  word_is i w pc is at =
      let inside : ((nat_le place.base pc) && ((pc - place.base) % 4 == 0)) ≡ true = grind arith in
      let which : (pc - place.base) / 4 ≡ i = omega arith in
      pick _ _ _ inside ∙ ap (slice_get place.words) which ∙ is

  stub_none : (pc : ℕ) → code_base ≤ pc → stub_at m pc ≡ None
  stub_none pc h =
      let out : ((nat_le stub_base pc) && ((nat_lt pc (stub_of m.functions)) && ((pc - stub_base) % 16 == 0))) ≡ false = grind arith in
      pick_no _ _ _ out

  -- an instruction that isn't a `jalr` and leads into the code region goes on
  pub arrives_inside : (instr : Instr) (p : Point) → is_jalr instr ≡ false → code_base ≤ p.machine.regs.pc → arrive m place instr p ≡ Running p
  arrives_inside instr p plain h = pick_no (is_return place instr p.machine) _ _ (no_and _ _ plain) ∙ ap (λ (o : Option ℕ). called o p) (stub_none p.machine.regs.pc h)
