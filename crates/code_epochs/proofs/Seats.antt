-- What a new hart keeps.
use Rattle.std.proofs.Common.{◌≡◌, ℕ, ◌+◌, ◌<◌, List, [], ◌∷◌, ◌++◌, length, sym, refl, ap, ◌∙◌, subst, inl, ⊎_elim, arith, length-append}
use mathlib.Core.Option.{some-ne-none}
use Rattle.ir_meaning.specs.Plays.{Meaning}
use Rattle.code_epochs.specs.declared.parts.Item.{Item}
use Rattle.code_epochs.specs.declared.parts.Item.TheVariants.{Held}
use Rattle.code_epochs.specs.declared.parts.HartPart.{HartPart}
use Rattle.code_epochs.specs.declared.parts.Book.{Book}
use Rattle.code_epochs.specs.declared.state.Status.{Status}
use Rattle.code_epochs.specs.declared.state.Status.TheVariants.{Linked, Unlinked, Pending, GivenUp}
use Rattle.code_epochs.specs.Sound.{At, Whole, Sound, HartSound, Backed, AreMade, HoldsStaying, MayHold, Stays}
use Rattle.code_epochs.specs.Steps.{new_part, book_split, AllLinked, hart_split, IsIdle, book_joined, hart_joined}
use Rattle.code_epochs.proofs.Lists.{at_snoc, at_below, at_same, at_longer, at_some}
use Rattle.code_epochs.proofs.Keeper.{Grows, backed_grows}

split_grows : (book : Book) → Grows book (book_split book)
split_grows book = record { versions = λ i v at. (v, at, record { symbol = refl; base = refl; words = refl }); texts = λ i t at. at }

nothing : {A : Type 0} (i : ℕ) (a : A) → At [] i a → ⊥
nothing i a e = some-ne-none a (sym e)

hart_stays : (m : Meaning) (code : List ℕ) (epoch : ℕ) (book : Book) (h : ℕ) (p : HartPart) (word : ℕ) → HartSound m code epoch book h p word → HartSound m code epoch (book_split book) h p word
hart_stays m code epoch book h p word s = record {
  loaded = s.loaded;
  announced = s.announced;
  idle = s.idle;
  gone = s.gone;
  held = s.held;
  saw = s.saw;
  ended = λ e pass here. backed_grows m (length code) book (book_split book) pass (split_grows book) (s.ended e pass here);
}

pub split_sound : (m : Meaning) (x : Whole) → Sound m x → x.book.seated < length x.announced → AllLinked m.functions x.book → Sound m (hart_split x)
split_sound m x s room all =
    let n = length x.harts in
    let seated = s.book.seated in
    let longer : length (x.harts ++ new_part ∷ []) ≡ n + 1 = length-append x.harts (new_part ∷ []) in record {
      book = record {
        cell_is = s.book.cell_is;
        one_linked = s.book.one_linked;
        linked = λ k b at. inl (all k (subst (λ (y : ℕ). k < y) s.book.functions (at_below x.cells k b at)));
        symbols = s.book.symbols;
        functions = s.book.functions;
        code_size = s.book.code_size;
        count = s.book.count;
        seated = longer ∙ ap (λ (y : ℕ). y + 1) seated;
        gone = λ h away. let low = s.book.gone h away in omega arith;
        texts = s.book.texts;
        numbers = s.book.numbers;
        made = s.book.made;
        stands = s.book.stands;
        apart = s.book.apart;
        draft = s.book.draft;
        epoch_is = s.book.epoch_is;
        tags = s.book.tags;
      };
      places = (omega arith, s.places.1, λ h word beyond at. s.places.2 h word (omega arith) at);
      joined = (s.joined.0, λ i h p away was. at_longer x.harts (new_part ∷ []) h p (s.joined.1 i h p away was));
      harts = λ h p word here there. ⊎_elim
          (λ (t : At x.harts h p). hart_stays m x.code x.epoch x.book h p word (s.harts h p word t there))
          (λ (t : (h ≡ n) × (new_part ≡ p)).
          let at_n = t.0 in
          let idle : word ≡ 0 = s.places.2 h word (omega arith) there in
          subst (λ (q : HartPart). HartSound m x.code x.epoch (book_split x.book) h q word) t.1 record {
            loaded = omega arith;
            announced = inl idle;
            idle = λ _. refl;
            gone = λ away. idle;
            held = λ q k b here. absurd (nothing q (Held k b) here);
            saw = λ q r k b a w i j v here there. absurd (nothing q (Held k b) here);
            ended = λ e pass here. absurd (nothing e pass here);
          })
          (at_snoc x.harts new_part p h here);
    }

joined_grows : (book : Book) (h : ℕ) (p : HartPart) → Grows book (book_joined book h p)
joined_grows book h p = record { versions = λ i v at. (v, at, record { symbol = refl; base = refl; words = refl }); texts = λ i t at. at }

pub join_sound : (m : Meaning) (x : Whole) (h : ℕ) (p : HartPart) → Sound m x → IsIdle x h p → Sound m (hart_joined x h p)
join_sound m x h p s idle =
    let inside = at_below x.harts h p idle.0 in record {
      book = record {
        cell_is = s.book.cell_is;
        one_linked = s.book.one_linked;
        linked = s.book.linked;
        symbols = s.book.symbols;
        functions = s.book.functions;
        code_size = s.book.code_size;
        count = s.book.count;
        seated = s.book.seated;
        gone = λ g away. ⊎_elim (λ (t : At x.book.gone away.0 g). s.book.gone g (away.0, t)) (λ (t : (away.0 ≡ length x.book.gone) × (h ≡ g)). subst (λ (n : ℕ). n < length x.harts) t.1 inside) (at_snoc x.book.gone h g away.0 away.1);
        texts = s.book.texts;
        numbers = s.book.numbers;
        made = s.book.made;
        stands = s.book.stands;
        apart = s.book.apart;
        draft = s.book.draft;
        epoch_is = s.book.epoch_is;
        tags = s.book.tags;
      };
      places = s.places;
      joined = (
        let a = length-append x.book.joined (p ∷ []) in let b = length-append x.book.gone (h ∷ []) in let e = s.joined.0 in omega arith,
        λ i g q away was. ⊎_elim
            (λ (t : At x.book.gone i g). ⊎_elim
            (λ (z : At x.book.joined i q). s.joined.1 i g q t z)
            (λ (z : (i ≡ length x.book.joined) × (p ≡ q)). let low = at_below x.book.gone i g t in let e = s.joined.0 in let f = z.0 in absurd (omega arith))
            (at_snoc x.book.joined p q i was))
            (λ (t : (i ≡ length x.book.gone) × (h ≡ g)). ⊎_elim
            (λ (z : At x.book.joined i q). let low = at_below x.book.joined i q z in let e = s.joined.0 in let f = t.0 in absurd (omega arith))
            (λ (z : (i ≡ length x.book.joined) × (p ≡ q)). subst (λ (y : ℕ × HartPart). At x.harts y.0 y.1) (λ j. (t.1 j, z.1 j)) idle.0)
            (at_snoc x.book.joined p q i was))
            (at_snoc x.book.gone h g i away),
      );
      harts = λ g q word here there.
          let old = s.harts g q word here there in record {
            loaded = old.loaded;
            announced = old.announced;
            idle = old.idle;
            gone = λ away. ⊎_elim
                (λ (t : At x.book.gone away.0 g). old.gone (away.0, t))
                (λ (t : (away.0 ≡ length x.book.gone) × (h ≡ g)). at_same x.announced g word 0 there (subst (λ (n : ℕ). At x.announced n 0) t.1 idle.1))
                (at_snoc x.book.gone h g away.0 away.1);
            held = old.held;
            saw = old.saw;
            ended = λ e pass here. backed_grows m (length x.code) x.book (book_joined x.book h p) pass (joined_grows x.book h p) (old.ended e pass here);
          };
    }

-- the ended passes of the harts that are gone are backed by the keeper's versions
pub joined_backed : (m : Meaning) (x : Whole) → Sound m x → (i : ℕ) (p : HartPart) → At x.book.joined i p → (e : ℕ) (pass : List Item) → At p.ended e pass → Backed m (length x.code) x.book pass
joined_backed m x s i p was e pass here =
    let gone = at_some x.book.gone i (subst (λ (n : ℕ). i < n) s.joined.0 (at_below x.book.joined i p was)) in
    let there = s.joined.1 i gone.0 p gone.1 was in
    let low = at_below x.harts gone.0 p there in
    let word = at_some x.announced gone.0 (let more = s.places.0 in omega arith) in
    (s.harts gone.0 p word.0 there word.1).ended e pass here

-- each version has its words still, also one that was given up
pub are_made : (m : Meaning) (x : Whole) → Sound m x → AreMade m x.book
are_made m x s = record { texts = s.book.texts; made = s.book.made }

may_stay_held : (hart word : ℕ) (s : Status) → MayHold hart word s → Stays s
may_stay_held hart word Linked may = tt
may_stay_held hart word Unlinked may = tt
may_stay_held hart word (Pending tag passed) may = tt
may_stay_held hart word GivenUp may = absurd may

-- what a hart holds isn't given up
pub holds_staying : (m : Meaning) (x : Whole) (h : ℕ) (p : HartPart) (word : ℕ) → Sound m x → At x.harts h p → At x.announced h word → HoldsStaying x.book p.pass
holds_staying m x h p word s here there = λ q k b at.
    let o = (s.harts h p word here there).held q k b at in
    (o.0, o.1, o.2, o.3, o.4, may_stay_held h word o.1.status o.5)
