-- Where a version may begin to be stored.
use Rattle.std.proofs.Common.{◌≡◌, ℕ, ◌+◌, ◌-◌, ◌*◌, ◌/◌, ◌<◌, List, length, None, refl, sym, subst, inl, arith}
use Rattle.ir_meaning.specs.Plays.{Meaning}
use Rattle.rv_play.specs.Good.{Good}
use Rattle.code_epochs.specs.Sound.{Whole, Sound, start_of}
use Rattle.code_epochs.specs.Steps.{CanBegin}
use Rattle.jit_core.specs.First.{AllBelow}

-- the next range is free for the version
pub may_begin : (m : Meaning) (x : Whole) (symbol base next : ℕ) (words : List ℕ) → Sound m x → x.book.draft ≡ None → length x.book.versions < 1048576 → Good m symbol words → symbol < m.functions
    → base ≡ 16777220 + 4 * next → next + length words < length x.code → AllBelow x.book.versions next → CanBegin m x symbol base words
may_begin m x symbol base next words sound none room good small is range below =
    let start : start_of base ≡ next = (let e : start_of base ≡ (base - 16777220) / 4 = refl in omega arith) in record {
      free = none;
      room = room;
      good = good;
      has_cell = subst (λ (n : ℕ). symbol < n) (sym sound.book.functions) small;
      fits = ((let e : base ≡ 16777220 + 4 * start_of base = omega arith in e), (let e : start_of base + length words < length x.code = omega arith in e));
      apart = λ i v at stays. inl (subst (λ (n : ℕ). start_of v.base + v.words < n) (sym start) (below i v at stays));
    }
