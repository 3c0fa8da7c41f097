-- The keeper's taking in of a hart, and its learning, keep the rule.
use Rattle.std.proofs.Common.{◌≡◌, ℕ, ◌≢◌, List, [], length, set, true, false, sym, refl, ap, ◌∙◌, subst, ⊎_elim}
use Rattle.atomic_table.specs.Table.{State, Me, keeps, Allows, Joins}
use Rattle.atomic_table.proofs.Lists.{set_again}
use Rattle.code_epochs.specs.declared.parts.HartPart.{HartPart}
use Rattle.code_epochs.specs.declared.parts.Book.{Book}
use Rattle.code_epochs.specs.Sound.{At, Whole, Backed, AreMade}
use Rattle.code_epochs.specs.Steps.{book_joined, hart_joined}
use Rattle.code_epochs.proofs.Lists.{at_set, at_snoc}
use Rattle.code_epochs.proofs.Seats.{join_sound, joined_backed, are_made}
use Rattle.redirect_cells.specs.declared.view.Plan.{Plan}
use Rattle.redirect_cells.specs.declared.view.Role.{Role}
use Rattle.redirect_cells.specs.declared.view.Role.TheVariants.{Hart, Keeper, Spent}
use Rattle.redirect_cells.specs.declared.view.View.{View}
use Rattle.redirect_cells.specs.Kept.{meaning_of, Fits, FitsView, Kept, is_keeper, IsKeeper, is_hart, word_in, book_of, joined_role, joined_view, spent_view, keeper_view, JoinedBacked}
use Rattle.redirect_cells.proofs.Words.{set_same}
use Rattle.redirect_cells.proofs.Stores.{keeper_is}

off : false ≡ true → ⊥
off e = absurd (cc)

others_fit : (x : Whole) (h : ℕ) (p : HartPart) (keeper : ℕ) (seat : ℕ → ℕ) (other j : ℕ) → j ≢ keeper → j ≢ other → other ≡ seat h → (r : Role) → Fits x keeper seat j r → Fits (hart_joined x h p) keeper seat j r
others_fit x h p keeper seat other j apart away mine (Hart v) fits = (
  fits.0,
  fits.1,
  fits.2,
  λ gone. ⊎_elim
      (λ (t : At x.book.gone gone.0 v.number). fits.3 (gone.0, t))
      (λ (t : (gone.0 ≡ length x.book.gone) × (h ≡ v.number)). away (fits.0 ∙ ap seat (sym t.1) ∙ sym mine))
      (at_snoc x.book.gone h v.number gone.0 gone.1),
)
others_fit x h p keeper seat other j apart away mine (Keeper book) fits = absurd (apart fits.0)
others_fit x h p keeper seat other j apart away mine Spent fits = fits

pub joined_keeper : (r w : Role) → is_keeper r ≡ true → is_keeper (joined_role r w) ≡ true
joined_keeper (Keeper book) (Hart h) e = refl
joined_keeper (Keeper book) (Keeper other) e = refl
joined_keeper (Keeper book) Spent e = refl
joined_keeper (Hart v) w e = absurd (off e)
joined_keeper Spent w e = absurd (off e)

module _ {S : Type 0} (plan : Plan) where
  abbrev Rule : State S View → Type 0
  Rule s = Kept plan s.words s.views

  joins_in : (id : ℕ) (v : View) (other : ℕ) (w : View) (r : Role) → w.role ≡ r → IsKeeper v → is_hart r ≡ true → word_in r ≡ 0 → Joins Rule id v other w (joined_view v w) spent_view
  joins_in id v other w (Keeper book) is keeper hart idle = absurd (off hart)
  joins_in id v other w Spent is keeper hart idle = absurd (off hart)
  joins_in id v other w (Hart hv) is keeper hart idle = λ s k at apart there.
      let x = k.whole in
      let book = book_of v in
      let both = joined_view v w in
      let role : v.role ≡ Keeper book = keeper_is v.role keeper in
      let mine = subst (λ (r : Role). Fits x k.keeper k.seat id r) role (k.fits id v at) in
      let same : book ≡ x.book = mine.1 in
      let there' : At s.views other w = ⊎_elim (λ (t : (other ≡ id) × (both ≡ w)). absurd (apart t.0)) (λ (t : (other ≢ id) × At s.views other w). t.1) (at_set s.views id other both w there) in
      let theirs = subst (λ (r : Role). Fits x k.keeper k.seat other r) is (k.fits other w there') in
      let sound = join_sound (meaning_of plan) x hv.number hv.part k.sound (theirs.1, subst (At x.announced hv.number) idle theirs.2) in
      let now = hart_joined x hv.number hv.part in
      let both_fits : Fits now k.keeper k.seat id both.role = subst (λ (y : Role × Role). Fits now k.keeper k.seat id (joined_role y.0 y.1)) (λ i. (sym role i, sym is i)) (mine.0, ap (λ (b : Book). book_joined b hv.number hv.part) same) in
      record {
        whole = now;
        keeper = k.keeper;
        seat = k.seat;
        sound = sound;
        words_are = k.words_are;
        harts = k.harts;
        code_words = k.code_words;
        small = k.small;
        fits = λ j u here. ⊎_elim
            (λ (t : (j ≡ other) × (spent_view ≡ u)). subst (λ (y : View). FitsView plan now k.keeper k.seat j y) t.1 tt)
            (λ (t : (j ≢ other) × At (set s.views id both) j u). ⊎_elim
            (λ (z : (j ≡ id) × (both ≡ u)). subst (λ (y : ℕ × View). FitsView plan now k.keeper k.seat y.0 y.1) (λ i. (sym z.0 i, z.1 i)) both_fits)
            (λ (z : (j ≢ id) × At s.views j u). others_fit x hv.number hv.part k.keeper k.seat other j (λ e. z.0 (e ∙ sym mine.0)) t.0 theirs.0 u.role (k.fits j u z.1))
            (at_set s.views id j both u t.1))
            (at_set (set s.views id both) other j spent_view u here);
      }

  pub joins_hart : (id : ℕ) (v : View) (other : ℕ) (w : View) → IsKeeper v → is_hart w.role ≡ true → word_in w.role ≡ 0 → Joins Rule id v other w (joined_view v w) spent_view
  joins_hart id v other w = joins_in id v other w w.role refl

  pub learns : (slots id : ℕ) (me : Me S View) → me.1 ≡ [] → me.0.plan ≡ plan → IsKeeper me.0 → Allows Rule slots id me 0 (λ n. n) (λ n w. (w.0 ≡ me.0) × JoinedBacked me.0 × AreMade (meaning_of me.0.plan) (book_of me.0) × (w.1 ≡ []))
  learns slots id me empty is_plan keeper s k homes at fits64 =
      let x = k.whole in
      let book = book_of me.0 in
      let role : me.0.role ≡ Keeper book = keeper_is me.0.role keeper in
      let mine = subst (λ (r : Role). Fits x k.keeper k.seat id r) role (k.fits id me.0 at) in
      let backed : JoinedBacked me.0 = λ i p was e pass here.
      subst (λ (y : Plan × ℕ × Book). Backed (meaning_of y.0) y.1 y.2 pass) (λ j. (sym is_plan j, (k.code_words ∙ ap (λ (q : Plan). q.code_words) (sym is_plan)) j, sym mine.1 j))
      (joined_backed (meaning_of plan) x k.sound i p (subst (λ (b : Book). At b.joined i p) mine.1 was) e pass here) in (
        me.0,
        keeps,
        tt,
        subst (λ (y : List ℕ × List View). Kept plan y.0 y.1) (λ j. (sym (set_same s.words 0) j, sym (set_again s.views id me.0 at) j)) k,
        (refl, backed, subst (λ (y : Plan × Book). AreMade (meaning_of y.0) y.1) (λ j. (sym is_plan j, sym mine.1 j)) (are_made (meaning_of plan) x k.sound), empty),
      )

-- the same of a view of the same plan that has what this keeper knows
pub viewed_backed : (v old : View) → v.plan ≡ old.plan → JoinedBacked v → JoinedBacked (keeper_view old (book_of v))
viewed_backed v old plan backed = λ i p was e pass here. subst (λ (q : Plan). Backed (meaning_of q) q.code_words (book_of v) pass) plan (backed i p was e pass here)
