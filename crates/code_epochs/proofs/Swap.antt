-- What the swap of a cell keeps.
use Rattle.std.proofs.Common.{◌≡◌, ℕ, zero, suc, ◌+◌, ◌<◌, ◌≢◌, ◌⊎◌, eqb, eq-eqb, ne_eqb, Bool, true, false, true≢false, List, [], ◌∷◌, ◌++◌, map, take, length, set, sym, refl, ap, ◌∙◌, subst, inl, inr, ⊎_elim, arith, length-set, length-append}
use mathlib.Core.Option.{some, some-injective, some-ne-none}
use Rattle.code_epochs.specs.declared.state.Status.{Status}
use Rattle.code_epochs.specs.declared.state.Status.TheVariants.{Linked, Unlinked, Pending, GivenUp}
use Rattle.code_epochs.specs.declared.state.VersionState.{VersionState}
use Rattle.ir_meaning.specs.Plays.{Meaning}
use Rattle.code_epochs.specs.declared.parts.HartPart.{HartPart}
use Rattle.code_epochs.specs.declared.parts.Draft.{Draft}
use Rattle.code_epochs.specs.declared.parts.Book.{Book}
use Rattle.code_epochs.specs.Sound.{IsText, NeverPublished, At, Whole, Sound, HartSound, Stand, Stored, DraftStands, DraftFits, Stays, MayHold, TagFits, Apart, start_of, left, count_left}
use Rattle.code_epochs.specs.Steps.{unlink, unlinked, linked_of, IsComplete, book_swapped, cell_swapped}
use Rattle.code_epochs.proofs.Lists.{at_set, at_snoc, at_below, set_here, set_else, at_longer}
use Rattle.code_epochs.proofs.Idle.{may_stay}
use Rattle.code_epochs.proofs.Keeper.{Grows, backed_grows}

abbrev pub swapped : ℕ → List VersionState → VersionState → List VersionState
swapped k vs new = map (unlinked k) vs ++ new ∷ []

pub at_swapped : (k : ℕ) (vs : List VersionState) (new : VersionState) (i : ℕ) (v : VersionState) → At (swapped k vs new) i v → ((u : VersionState) × At vs i u × (unlinked k u ≡ v)) ⊎ ((i ≡ length vs) × (new ≡ v))
at_swapped k [] new zero v e = inr (refl, some-injective new v e)
at_swapped k [] new (suc i) v e = absurd (some-ne-none v (sym e))
at_swapped k (x ∷ xs) new zero v e = inl (x, refl, some-injective (unlinked k x) v e)
at_swapped k (x ∷ xs) new (suc i) v e = ⊎_elim (λ t. inl t) (λ t. inr (ap suc t.0, t.1)) (at_swapped k xs new i v e)

swapped_at : (k : ℕ) (vs : List VersionState) (new : VersionState) (i : ℕ) (u : VersionState) → At vs i u → At (swapped k vs new) i (unlinked k u)
swapped_at k [] new i u e = absurd (some-ne-none u (sym e))
swapped_at k (x ∷ xs) new zero u e = ap (λ (y : VersionState). some (unlinked k y)) (some-injective x u e)
swapped_at k (x ∷ xs) new (suc i) u e = swapped_at k xs new i u e

swapped_last : (k : ℕ) (vs : List VersionState) (new : VersionState) → At (swapped k vs new) (length vs) new
swapped_last k [] new = refl
swapped_last k (x ∷ xs) new = swapped_last k xs new

pub swapped_length : (k : ℕ) (vs : List VersionState) (new : VersionState) → length (swapped k vs new) ≡ length vs + 1
swapped_length k [] new = refl
swapped_length k (x ∷ xs) new = let e = swapped_length k xs new in omega arith

unlink_linked : (b : Bool) (s : Status) → unlink b s ≡ Linked → (s ≡ Linked) × (b ≡ false)
unlink_linked true Linked e = absurd (cc)
unlink_linked true Unlinked e = absurd (cc)
unlink_linked true (Pending tag passed) e = absurd (cc)
unlink_linked true GivenUp e = absurd (cc)
unlink_linked false s e = (e, refl)

was_linked : (k : ℕ) (u v : VersionState) → unlinked k u ≡ v → v.status ≡ Linked → (u.status ≡ Linked) × (u.symbol ≢ k)
was_linked k u v is linked =
    let t = unlink_linked (eqb u.symbol k) u.status (ap (λ (y : VersionState). y.status) is ∙ linked) in
    (t.0, λ e. true≢false (sym (eq-eqb u.symbol k e) ∙ t.1))

still_linked : (k : ℕ) (u : VersionState) → u.symbol ≢ k → u.status ≡ Linked → (unlinked k u).status ≡ Linked
still_linked k u ne linked = (λ i. unlink (ne_eqb u.symbol k ne i) u.status) ∙ linked

pub stayed : (b : Bool) (s : Status) → Stays (unlink b s) → Stays s
stayed true Linked h = tt
stayed true Unlinked h = tt
stayed true (Pending tag passed) h = tt
stayed true GivenUp h = h
stayed false s h = h

may_still : (h word : ℕ) (b : Bool) (s : Status) → MayHold h word s → MayHold h word (unlink b s)
may_still h word true Linked m = tt
may_still h word true Unlinked m = tt
may_still h word true (Pending tag passed) m = m
may_still h word true GivenUp m = m
may_still h word false s m = m

tag_still : (epoch : ℕ) (b : Bool) (s : Status) → TagFits epoch s → TagFits epoch (unlink b s)
tag_still epoch true Linked m = tt
tag_still epoch true Unlinked m = tt
tag_still epoch true (Pending tag passed) m = m
tag_still epoch true GivenUp m = m
tag_still epoch false s m = m

left_still : (b : Bool) (s : Status) → left (unlink b s) ≡ left s
left_still true Linked = refl
left_still true Unlinked = refl
left_still true (Pending tag passed) = refl
left_still true GivenUp = refl
left_still false s = refl

count_swapped : (k : ℕ) (vs : List VersionState) (new : VersionState) → new.status ≡ Linked → count_left (swapped k vs new) ≡ count_left vs
count_swapped k [] new e = let z : left new.status ≡ 0 = ap left e in omega arith
count_swapped k (x ∷ xs) new e = let rec = count_swapped k xs new e in (λ i. left_still (eqb x.symbol k) x.status i + rec i)

swapped_grows : (book : Book) (d : Draft) → Grows book (book_swapped book d)
swapped_grows book d = record {
  versions = λ i v at. (unlinked d.symbol v, swapped_at d.symbol book.versions (linked_of d (length book.versions)) i v at, record { symbol = refl; base = refl; words = refl });
  texts = λ i t at. at_longer book.texts (d.words ∷ []) i t at;
}

apart_itself : (b m c n : ℕ) → b ≡ c → Apart b m c n → ⊥
apart_itself b m c n same a =
    let e : start_of b ≡ start_of c = ap start_of same in
    ⊎_elim (λ (t : start_of b + m < start_of c). let x : ℕ = start_of b in let y : ℕ = start_of c in let e' : x ≡ y = e in let t' : x + m < y = t in omega arith) (λ (t : start_of c + n < start_of b). let x : ℕ = start_of b in let y : ℕ = start_of c in let e' : x ≡ y = e in let t' : y + n < x = t in omega arith) a

hart_swapped : (m : Meaning) (cells : List ℕ) (functions : ℕ) (code : List ℕ) (epoch : ℕ) (book : Book) (d : Draft) (h : ℕ) (p : HartPart) (word : ℕ) → DraftStands m functions code book.versions d → HartSound m code epoch book h p word → HartSound m code epoch (book_swapped book d) h p word
hart_swapped m cells functions code epoch book d h p word stands s =
    let k = d.symbol in
    let vs = book.versions in
    let new = linked_of d (length vs) in record {
      loaded = s.loaded;
      announced = s.announced;
      idle = s.idle;
      gone = s.gone;
      held = λ q l b here.
          let o = s.held q l b here in
          (o.0, unlinked k o.1, swapped_at k vs new o.0 o.1 o.2, o.3, o.4, may_still h word (eqb o.1.symbol k) o.1.status o.5);
      saw = λ q r l b a w i j v here there before at stays base place small. ⊎_elim
          (λ (t : (u : VersionState) × At vs i u × (unlinked k u ≡ v)).
          let stays' : Stays t.0.status = stayed (eqb t.0.symbol k) t.0.status (subst (λ (y : VersionState). Stays y.status) (sym t.2) stays) in
          s.saw q r l b a w i j t.0 here there before t.1 stays' (ap (λ (y : VersionState). y.base) t.2 ∙ base) place (subst (λ (y : VersionState). j < y.words) (sym t.2) small))
          (λ (t : (i ≡ length vs) × (new ≡ v)).
          let o = s.held q l b here in
          absurd (apart_itself o.1.base o.1.words d.base (length d.words) (o.4 ∙ sym base ∙ sym (ap (λ (y : VersionState). y.base) t.1)) (stands.apart o.0 o.1 o.2 (may_stay h word o.1.status o.5))))
          (at_swapped k vs new i v at);
      ended = λ e pass here. backed_grows m (length code) book (book_swapped book d) pass (swapped_grows book d) (s.ended e pass here);
    }

apart_sym : (b m c n : ℕ) → Apart b m c n → Apart c n b m
apart_sym b m c n a = ⊎_elim (λ t. inr t) (λ t. inl t) a

pub swap_cell_sound : (m : Meaning) (x : Whole) (d : Draft) → Sound m x → IsComplete x d → Sound m (cell_swapped x d)
swap_cell_sound m x d s complete =
    let book = x.book in
    let k = d.symbol in
    let vs = book.versions in
    let n = length vs in
    let new = linked_of d n in
    let stands : DraftStands m (length x.cells) x.code vs d = subst (DraftFits m (length x.cells) x.code vs) complete.0 s.book.draft in
    let cells : List ℕ = set x.cells k d.base in
    let same : length cells ≡ length x.cells = length-set x.cells k d.base in record {
      book = record {
        cell_is = λ i v at linked. ⊎_elim
            (λ (t : (u : VersionState) × At vs i u × (unlinked k u ≡ v)).
            let was = was_linked k t.0 v t.2 linked in
            subst (λ (y : VersionState). At cells y.symbol y.base) t.2 (set_else x.cells k t.0.symbol d.base was.1 ∙ s.book.cell_is i t.0 t.1 was.0))
            (λ (t : (i ≡ n) × (new ≡ v)). subst (λ (y : VersionState). At cells y.symbol y.base) t.1 (set_here x.cells k d.base stands.symbol))
            (at_swapped k vs new i v at);
        one_linked = λ i j v w atv atw lv lw symbols. ⊎_elim
            (λ (t : (u : VersionState) × At vs i u × (unlinked k u ≡ v)). ⊎_elim
            (λ (z : (u : VersionState) × At vs j u × (unlinked k u ≡ w)). s.book.one_linked i j t.0 z.0 t.1 z.1 (was_linked k t.0 v t.2 lv).0 (was_linked k z.0 w z.2 lw).0 (ap (λ (y : VersionState). y.symbol) t.2 ∙ symbols ∙ sym (ap (λ (y : VersionState). y.symbol) z.2)))
            (λ (z : (j ≡ n) × (new ≡ w)). absurd ((was_linked k t.0 v t.2 lv).1 (ap (λ (y : VersionState). y.symbol) t.2 ∙ symbols ∙ sym (ap (λ (y : VersionState). y.symbol) z.1))))
            (at_swapped k vs new j w atw))
            (λ (t : (i ≡ n) × (new ≡ v)). ⊎_elim
            (λ (z : (u : VersionState) × At vs j u × (unlinked k u ≡ w)). absurd ((was_linked k z.0 w z.2 lw).1 (ap (λ (y : VersionState). y.symbol) z.2 ∙ sym symbols ∙ sym (ap (λ (y : VersionState). y.symbol) t.1))))
            (λ (z : (j ≡ n) × (new ≡ w)). t.0 ∙ sym z.0)
            (at_swapped k vs new j w atw))
            (at_swapped k vs new i v atv);
        linked = λ l b at. ⊎_elim
            (λ (t : (l ≡ k) × (d.base ≡ b)). inl (n, new, swapped_last k vs new, refl, sym t.0))
            (λ (t : (l ≢ k) × At x.cells l b). ⊎_elim
            (λ (z : (i : ℕ) × (v : VersionState) × At vs i v × (v.status ≡ Linked) × (v.symbol ≡ l)).
            inl (z.0, unlinked k z.1, swapped_at k vs new z.0 z.1 z.2, still_linked k z.1 (λ e. t.0 (sym z.4 ∙ e)) z.3, z.4))
            (λ (z : (b ≡ 0) × (length x.harts ≡ 0) × NeverPublished vs l). inr (
              z.0,
              z.1,
              λ i v here e. ⊎_elim
                  (λ (y : (u : VersionState) × At vs i u × (unlinked k u ≡ v)). z.2 i y.0 y.1 (ap (λ (y : VersionState). y.symbol) y.2 ∙ e))
                  (λ (y : (i ≡ n) × (new ≡ v)). t.0 (sym (ap (λ (y : VersionState). y.symbol) y.1 ∙ e)))
                  (at_swapped k vs new i v here),
            ))
            (s.book.linked l b t.1))
            (at_set x.cells k l d.base b at);
        symbols = λ i v at. ⊎_elim
            (λ (t : (u : VersionState) × At vs i u × (unlinked k u ≡ v)). subst (λ (y : ℕ × ℕ). y.0 < y.1) (λ j. ((t.2 j).symbol, sym same j)) (s.book.symbols i t.0 t.1))
            (λ (t : (i ≡ n) × (new ≡ v)). subst (λ (y : ℕ × ℕ). y.0 < y.1) (λ j. ((t.1 j).symbol, sym same j)) stands.symbol)
            (at_swapped k vs new i v at);
        functions = same ∙ s.book.functions;
        code_size = s.book.code_size;
        count = let room = stands.room in let e = swapped_length k vs new in omega arith;
        seated = s.book.seated;
        gone = s.book.gone;
        texts = let e = s.book.texts in let f = swapped_length k vs new in let g = length-append book.texts (d.words ∷ []) in omega arith;
        numbers = λ i v at. ⊎_elim
            (λ (t : (u : VersionState) × At vs i u × (unlinked k u ≡ v)). sym (ap (λ (y : VersionState). y.number) t.2) ∙ s.book.numbers i t.0 t.1)
            (λ (t : (i ≡ n) × (new ≡ v)). sym (ap (λ (y : VersionState). y.number) t.1) ∙ sym t.0)
            (at_swapped k vs new i v at);
        made = λ i v l at text. ⊎_elim
            (λ (t : (u : VersionState) × At vs i u × (unlinked k u ≡ v)). ⊎_elim
            (λ (z : At book.texts i l). subst (λ (y : VersionState). IsText m y l) t.2 (s.book.made i t.0 l t.1 z))
            (λ (z : (i ≡ length book.texts) × (d.words ≡ l)). let low = at_below vs i t.0 t.1 in let e = s.book.texts in let f = z.0 in absurd (omega arith))
            (at_snoc book.texts d.words l i text))
            (λ (t : (i ≡ n) × (new ≡ v)). ⊎_elim
            (λ (z : At book.texts i l). let low = at_below book.texts i l z in let e = s.book.texts in let f = t.0 in absurd (omega arith))
            (λ (z : (i ≡ length book.texts) × (d.words ≡ l)). subst (λ (y : VersionState × List ℕ). IsText m y.0 y.1) (λ j. (t.1 j, z.1 j)) (stands.good, refl))
            (at_snoc book.texts d.words l i text))
            (at_swapped k vs new i v at);
        stands = λ i v l at stays text. ⊎_elim
            (λ (t : (u : VersionState) × At vs i u × (unlinked k u ≡ v)).
            let stays' : Stays t.0.status = stayed (eqb t.0.symbol k) t.0.status (subst (λ (y : VersionState). Stays y.status) (sym t.2) stays) in
            ⊎_elim
            (λ (z : At book.texts i l). let old = s.book.stands i t.0 l t.1 stays' z in subst (λ (y : VersionState). Stand m x.code i y l) t.2 record { good = old.good; size = old.size; base = old.base; header = old.header; words = old.words })
            (λ (z : (i ≡ length book.texts) × (d.words ≡ l)). let low = at_below vs i t.0 t.1 in let e = s.book.texts in let f = z.0 in absurd (omega arith))
            (at_snoc book.texts d.words l i text))
            (λ (t : (i ≡ n) × (new ≡ v)). ⊎_elim
            (λ (z : At book.texts i l). let low = at_below book.texts i l z in let e = s.book.texts in let f = t.0 in absurd (omega arith))
            (λ (z : (i ≡ length book.texts) × (d.words ≡ l)).
            let all : Stored x.code (start_of d.base + 1) d.words (length d.words) = λ j w small here. stands.words j w (let f = complete.1 in omega arith) here in
            subst (λ (y : ℕ × VersionState × List ℕ). Stand m x.code y.0 y.1 y.2) (λ j. (sym t.0 j, t.1 j, z.1 j))
            record { good = stands.good; size = refl; base = stands.base; header = stands.header; words = all })
            (at_snoc book.texts d.words l i text))
            (at_swapped k vs new i v at);
        apart = λ i j v w atv atw sv sw ne. ⊎_elim
            (λ (t : (u : VersionState) × At vs i u × (unlinked k u ≡ v)).
            let sv' : Stays t.0.status = stayed (eqb t.0.symbol k) t.0.status (subst (λ (y : VersionState). Stays y.status) (sym t.2) sv) in ⊎_elim
            (λ (z : (u : VersionState) × At vs j u × (unlinked k u ≡ w)).
            let sw' : Stays z.0.status = stayed (eqb z.0.symbol k) z.0.status (subst (λ (y : VersionState). Stays y.status) (sym z.2) sw) in
            subst (λ (y : VersionState × VersionState). Apart y.0.base y.0.words y.1.base y.1.words) (λ i. (t.2 i, z.2 i)) (s.book.apart i j t.0 z.0 t.1 z.1 sv' sw' ne))
            (λ (z : (j ≡ n) × (new ≡ w)). subst (λ (y : VersionState × VersionState). Apart y.0.base y.0.words y.1.base y.1.words) (λ i. (t.2 i, z.1 i)) (stands.apart i t.0 t.1 sv'))
            (at_swapped k vs new j w atw))
            (λ (t : (i ≡ n) × (new ≡ v)). ⊎_elim
            (λ (z : (u : VersionState) × At vs j u × (unlinked k u ≡ w)).
            let sw' : Stays z.0.status = stayed (eqb z.0.symbol k) z.0.status (subst (λ (y : VersionState). Stays y.status) (sym z.2) sw) in
            subst (λ (y : VersionState × VersionState). Apart y.0.base y.0.words y.1.base y.1.words) (λ i. (t.1 i, z.2 i)) (apart_sym z.0.base z.0.words d.base (length d.words) (stands.apart j z.0 z.1 sw')))
            (λ (z : (j ≡ n) × (new ≡ w)). absurd (ne (t.0 ∙ sym z.0)))
            (at_swapped k vs new j w atw))
            (at_swapped k vs new i v atv);
        draft = tt;
        epoch_is = s.book.epoch_is ∙ ap (λ (y : ℕ). 1 + y) (sym (count_swapped k vs new refl));
        tags = λ i v at. ⊎_elim
            (λ (t : (u : VersionState) × At vs i u × (unlinked k u ≡ v)). subst (λ (y : VersionState). TagFits x.epoch y.status) t.2 (tag_still x.epoch (eqb t.0.symbol k) t.0.status (s.book.tags i t.0 t.1)))
            (λ (t : (i ≡ n) × (new ≡ v)). subst (λ (y : VersionState). TagFits x.epoch y.status) t.1 tt)
            (at_swapped k vs new i v at);
      };
      places = s.places;
      joined = s.joined;
      harts = λ h p word here there. hart_swapped m x.cells (length x.cells) x.code x.epoch book d h p word stands (s.harts h p word here there);
    }

pub take_front : (l m : List VersionState) (n : ℕ) → n ≡ length l → take n (l ++ m) ≡ l
take_front l m n is = ap (λ (k : ℕ). take k (l ++ m)) is ∙ go l m
  where
    go : (l m : List VersionState) → take (length l) (l ++ m) ≡ l
    go [] m = refl
    go (x ∷ xs) m = ap (λ (l : List VersionState). x ∷ l) (go xs m)
