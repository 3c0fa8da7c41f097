-- What raising the epoch, looking at a hart and clearing a header keep.
use Rattle.std.proofs.Common.{◌≡◌, ℕ, zero, suc, ◌+◌, ◌/◌, ◌%◌, ◌^◌, ◌<◌, ◌≤◌, ◌≢◌, ◌⊎◌, List, [], ◌∷◌, length, set, Option, Some, None, sym, refl, ap, ◌∙◌, subst, inl, inr, ⊎_elim, arith, length-set}
use Rattle.std.proofs.Math.Nat.{zero-div}
use mathlib.Core.Option.{some-injective, some-ne-none}
use native.Mathlib.Decide.{ℕ_discrete}
use mathlib.Core.Logic.{dite}
use Rattle.code_epochs.specs.declared.state.Status.{Status}
use Rattle.code_epochs.specs.declared.state.Status.TheVariants.{Linked, Unlinked, Pending, GivenUp}
use Rattle.code_epochs.specs.declared.state.VersionState.{VersionState}
use Rattle.ir_meaning.specs.Plays.{Meaning}
use Rattle.code_epochs.specs.declared.parts.Item.{Item}
use Rattle.code_epochs.specs.declared.parts.Item.TheVariants.{Held}
use Rattle.code_epochs.specs.declared.parts.HartPart.{HartPart}
use Rattle.code_epochs.specs.declared.parts.Draft.{Draft}
use Rattle.code_epochs.specs.declared.parts.Look.{Look}
use Rattle.code_epochs.specs.declared.parts.Book.{Book}
use Rattle.code_epochs.specs.Sound.{IsText, At, Whole, Sound, BookSound, HartSound, Stand, DraftStands, DraftFits, HasPassed, Stays, MayHold, TagFits, NeverPublished, IsBase, Apart, start_of, left, count_left}
use Rattle.code_epochs.specs.Steps.{with_status, restatus, IsUnlinked, epoch_raised, IsPending, IsMarked, Marks, with_look, hart_looked, AllPassed, header_cleared}
use Rattle.code_epochs.proofs.Lists.{at_set, at_below, at_same, set_here, set_else}
use Rattle.code_epochs.proofs.Harts.{announced_low}
use Rattle.code_epochs.proofs.Keeper.{Grows, backed_grows, stand_outside, hart_outside, Outside}

-- the status may become this one, where a version has that one
pub record MayBecome (epoch : ℕ) (old new : Status) : Type 0 where
  pub was : old ≡ Linked → ⊥
  pub is : new ≡ Linked → ⊥
  pub stayed : Stays old
  pub tag : TagFits epoch new

tag_later : (epoch epoch' : ℕ) (s : Status) → epoch ≤ epoch' → TagFits epoch s → TagFits epoch' s
tag_later epoch epoch' Linked more fits = tt
tag_later epoch epoch' Unlinked more fits = tt
tag_later epoch epoch' (Pending tag passed) more fits = omega arith
tag_later epoch epoch' GivenUp more fits = tt

count_set : (vs : List VersionState) (i : ℕ) (v w : VersionState) → At vs i v → count_left (set vs i w) + left v.status ≡ count_left vs + left w.status
count_set [] i v w at = absurd (some-ne-none v (sym at))
count_set (x ∷ xs) zero v w at = let e : left x.status ≡ left v.status = ap (λ (y : VersionState). left y.status) (some-injective x v at) in omega arith
count_set (x ∷ xs) (suc i) v w at = let e = count_set xs i v w at in omega arith

restatus_grows : (book : Book) (i : ℕ) (v : VersionState) (s : Status) → At book.versions i v → Grows book (restatus book i v s)
restatus_grows book i v s at = record {
  versions = λ j u here. dite (ℕ_discrete j i)
      (λ e.
      let same : v ≡ u = at_same book.versions i v u at (subst (λ (n : ℕ). At book.versions n u) e here) in
      let there : At (set book.versions i (with_status v s)) j (with_status v s) = subst (λ (n : ℕ). At (set book.versions i (with_status v s)) n (with_status v s)) (sym e) (set_here book.versions i (with_status v s) (at_below book.versions i v at)) in
      (with_status v s, there, record { symbol = sym (ap (λ (y : VersionState). y.symbol) same); base = sym (ap (λ (y : VersionState). y.base) same); words = sym (ap (λ (y : VersionState). y.words) same) }))
      (λ ne. (u, set_else book.versions i j (with_status v s) ne ∙ here, record { symbol = refl; base = refl; words = refl }));
  texts = λ j t here. here;
}

draft_kept : (m : Meaning) (functions : ℕ) (code : List ℕ) (vs : List VersionState) (i : ℕ) (v : VersionState) (s : Status) (o : Option Draft) → At vs i v → Stays v.status → DraftFits m functions code vs o → DraftFits m functions code (set vs i (with_status v s)) o
draft_kept m functions code vs i v s None at stay fits = tt
draft_kept m functions code vs i v s (Some d) at stay fits =
    let same : length (set vs i (with_status v s)) ≡ length vs = length-set vs i (with_status v s) in record {
      good = fits.good;
      symbol = fits.symbol;
      room = subst (λ (n : ℕ). n < 1048576) (sym same) fits.room;
      base = fits.base;
      stored = fits.stored;
      header = subst (λ (n : ℕ). At code (start_of d.base) (n + 1)) (sym same) fits.header;
      words = fits.words;
      apart = λ j u here stays. ⊎_elim
          (λ (t : (j ≡ i) × (with_status v s ≡ u)). subst (λ (y : VersionState). Apart y.base y.words d.base (length d.words)) t.1 (fits.apart i v at stay))
          (λ (t : (j ≢ i) × At vs j u). fits.apart j u t.1 stays)
          (at_set vs i j (with_status v s) u here);
    }

restatus_book : (m : Meaning) (cells : List ℕ) (harts : ℕ) (code : List ℕ) (epoch epoch' : ℕ) (book : Book) (i : ℕ) (v : VersionState) (s : Status) → BookSound m cells harts code epoch book → At book.versions i v → MayBecome epoch' v.status s → epoch ≤ epoch' → epoch' + left v.status ≡ epoch + left s
    → BookSound m cells harts code epoch' (restatus book i v s)
restatus_book m cells harts code epoch epoch' book i v s b at may more counted =
    let vs = book.versions in
    let new = with_status v s in
    let same : length (set vs i new) ≡ length vs = length-set vs i new in
    let inside = at_below vs i v at in record {
      cell_is = λ j u here linked. ⊎_elim
          (λ (t : (j ≡ i) × (new ≡ u)). absurd (may.is (ap (λ (y : VersionState). y.status) t.1 ∙ linked)))
          (λ (t : (j ≢ i) × At vs j u). b.cell_is j u t.1 linked)
          (at_set vs i j new u here);
      one_linked = λ j k u w atu atw lu lw symbols. ⊎_elim
          (λ (t : (j ≡ i) × (new ≡ u)). absurd (may.is (ap (λ (y : VersionState). y.status) t.1 ∙ lu)))
          (λ (t : (j ≢ i) × At vs j u). ⊎_elim
          (λ (z : (k ≡ i) × (new ≡ w)). absurd (may.is (ap (λ (y : VersionState). y.status) z.1 ∙ lw)))
          (λ (z : (k ≢ i) × At vs k w). b.one_linked j k u w t.1 z.1 lu lw symbols)
          (at_set vs i k new w atw))
          (at_set vs i j new u atu);
      linked = λ k a here. ⊎_elim
          (λ (t : (j : ℕ) × (u : VersionState) × At vs j u × (u.status ≡ Linked) × (u.symbol ≡ k)).
          let ne : t.0 ≢ i = λ e. may.was (ap (λ (y : VersionState). y.status) (at_same vs i v t.1 at (subst (λ (n : ℕ). At vs n t.1) e t.2)) ∙ t.3) in
          inl (t.0, t.1, set_else vs i t.0 new ne ∙ t.2, t.3, t.4))
          (λ (t : (a ≡ 0) × (harts ≡ 0) × NeverPublished vs k). inr (
            t.0,
            t.1,
            λ j u there e. ⊎_elim
                (λ (z : (j ≡ i) × (new ≡ u)). t.2 i v at (ap (λ (y : VersionState). y.symbol) z.1 ∙ e))
                (λ (z : (j ≢ i) × At vs j u). t.2 j u z.1 e)
                (at_set vs i j new u there),
          ))
          (b.linked k a here);
      symbols = λ j u here. ⊎_elim
          (λ (t : (j ≡ i) × (new ≡ u)). subst (λ (y : VersionState). y.symbol < length cells) t.1 (b.symbols i v at))
          (λ (t : (j ≢ i) × At vs j u). b.symbols j u t.1)
          (at_set vs i j new u here);
      functions = b.functions;
      code_size = b.code_size;
      count = subst (λ (n : ℕ). n ≤ 1048576) (sym same) b.count;
      seated = b.seated;
      gone = b.gone;
      texts = b.texts ∙ sym same;
      numbers = λ j u here. ⊎_elim
          (λ (t : (j ≡ i) × (new ≡ u)). sym (ap (λ (y : VersionState). y.number) t.1) ∙ b.numbers i v at ∙ sym t.0)
          (λ (t : (j ≢ i) × At vs j u). b.numbers j u t.1)
          (at_set vs i j new u here);
      made = λ j u t here text. ⊎_elim
          (λ (z : (j ≡ i) × (new ≡ u)). subst (λ (y : VersionState). IsText m y t) z.1 (b.made i v t at (subst (λ (n : ℕ). At book.texts n t) z.0 text)))
          (λ (z : (j ≢ i) × At vs j u). b.made j u t z.1 text)
          (at_set vs i j new u here);
      stands = λ j u l here stays text. ⊎_elim
          (λ (t : (j ≡ i) × (new ≡ u)).
          let old = b.stands i v l at may.stayed (subst (λ (n : ℕ). At book.texts n l) t.0 text) in
          subst (λ (y : ℕ × VersionState). Stand m code y.0 y.1 l) (λ k. (sym t.0 k, t.1 k)) record { good = old.good; size = old.size; base = old.base; header = old.header; words = old.words })
          (λ (t : (j ≢ i) × At vs j u). b.stands j u l t.1 stays text)
          (at_set vs i j new u here);
      apart = λ j k u w atu atw su sw ne. ⊎_elim
          (λ (t : (j ≡ i) × (new ≡ u)). ⊎_elim
          (λ (z : (k ≡ i) × (new ≡ w)). absurd (ne (t.0 ∙ sym z.0)))
          (λ (z : (k ≢ i) × At vs k w). subst (λ (y : VersionState). Apart y.base y.words w.base w.words) t.1 (b.apart i k v w at z.1 may.stayed sw (λ e. z.0 (sym e))))
          (at_set vs i k new w atw))
          (λ (t : (j ≢ i) × At vs j u). ⊎_elim
          (λ (z : (k ≡ i) × (new ≡ w)). subst (λ (y : VersionState). Apart u.base u.words y.base y.words) z.1 (b.apart j i u v t.1 at su may.stayed t.0))
          (λ (z : (k ≢ i) × At vs k w). b.apart j k u w t.1 z.1 su sw ne)
          (at_set vs i k new w atw))
          (at_set vs i j new u atu);
      draft = draft_kept m (length cells) code vs i v s book.draft at may.stayed b.draft;
      epoch_is = let e = count_set vs i v new at in let f = b.epoch_is in omega arith;
      tags = λ j u here. ⊎_elim
          (λ (t : (j ≡ i) × (new ≡ u)). subst (λ (y : VersionState). TagFits epoch' y.status) t.1 may.tag)
          (λ (t : (j ≢ i) × At vs j u). tag_later epoch epoch' u.status more (b.tags j u t.1))
          (at_set vs i j new u here);
    }

restatus_hart : (m : Meaning) (code : List ℕ) (epoch epoch' : ℕ) (book : Book) (i : ℕ) (v : VersionState) (s : Status) (h : ℕ) (p : HartPart) (word : ℕ) → HartSound m code epoch book h p word → At book.versions i v → Stays v.status → epoch ≤ epoch'
    → (0 < word → MayHold h word v.status → MayHold h word s) → HartSound m code epoch' (restatus book i v s) h p word
restatus_hart m code epoch epoch' book i v s h p word b at stayed more may =
    let vs = book.versions in
    let new = with_status v s in
    let busy : (q : ℕ) (item : Item) → At p.pass q item → 0 < word = λ q item here. dite (ℕ_discrete word 0)
    (λ e. absurd (some-ne-none item (sym (subst (λ (l : List Item). At l q item) (b.idle e) here))))
    (λ ne. omega arith) in record {
      loaded = let l = b.loaded in omega arith;
      announced = b.announced;
      idle = b.idle;
      gone = b.gone;
      held = λ q k a here.
          let o = b.held q k a here in
          dite (ℕ_discrete o.0 i)
          (λ e.
          let same : v ≡ o.1 = at_same vs i v o.1 at (subst (λ (n : ℕ). At vs n o.1) e o.2) in
          (i, new, set_here vs i new (at_below vs i v at), ap (λ (y : VersionState). y.symbol) same ∙ o.3, ap (λ (y : VersionState). y.base) same ∙ o.4, may (busy q (Held k a) here) (subst (λ (y : VersionState). MayHold h word y.status) (sym same) o.5)))
          (λ ne. (o.0, o.1, set_else vs i o.0 new ne ∙ o.2, o.3, o.4, o.5));
      saw = λ q r k a c w n j u here there before atu stays base place small. ⊎_elim
          (λ (t : (n ≡ i) × (new ≡ u)). b.saw q r k a c w i j v here there before at stayed (ap (λ (y : VersionState). y.base) t.1 ∙ base) place (subst (λ (y : VersionState). j < y.words) (sym t.1) small))
          (λ (t : (n ≢ i) × At vs n u). b.saw q r k a c w n j u here there before t.1 stays base place small)
          (at_set vs i n new u atu);
      ended = λ e pass here. backed_grows m (length code) book (restatus book i v s) pass (restatus_grows book i v s at) (b.ended e pass here);
    }

none_passed : (h : ℕ) → ¬ HasPassed 0 h
none_passed h e = let z : 0 / 2 ^ h ≡ 0 = zero-div (2 ^ h) in let f : 0 % 2 ≡ 1 = sym (ap (λ (n : ℕ). n % 2) z) ∙ e in absurd (cc)

pub raise_epoch_sound : (m : Meaning) (x : Whole) (i : ℕ) (v : VersionState) → Sound m x → IsUnlinked x i v → Sound m (epoch_raised x i v)
raise_epoch_sound m x i v s can =
    let e' = x.epoch + 1 in
    let stay : Stays v.status = subst Stays (sym can.1) tt in
    let may : MayBecome e' v.status (Pending e' 0) = record { was = λ e. let f = can.1 in absurd (cc); is = λ e. absurd (cc); stayed = stay; tag = omega arith } in
    let zero_left : left v.status ≡ 0 = ap left can.1 in record {
      book = restatus_book m x.cells (length x.harts) x.code x.epoch e' x.book i v (Pending e' 0) s.book can.0 may (omega arith) (omega arith);
      places = s.places;
      joined = s.joined;
      harts = λ h p word here there.
          let old = s.harts h p word here there in
          let low = announced_low m x.code x.epoch x.book h p word old in
          restatus_hart m x.code x.epoch e' x.book i v (Pending e' 0) h p word old can.0 stay (omega arith) (λ _ _. (omega arith, none_passed h));
    }

look_book : (m : Meaning) (cells : List ℕ) (harts : ℕ) (code : List ℕ) (epoch : ℕ) (book : Book) (look : Look) → BookSound m cells harts code epoch book → BookSound m cells harts code epoch (with_look book look)
look_book m cells harts code epoch book look b = record { cell_is = b.cell_is; one_linked = b.one_linked; linked = b.linked; symbols = b.symbols; functions = b.functions; code_size = b.code_size; count = b.count; seated = b.seated; gone = b.gone; texts = b.texts; numbers = b.numbers; made = b.made; stands = b.stands; apart = b.apart; draft = b.draft; epoch_is = b.epoch_is; tags = b.tags }

look_hart : (m : Meaning) (code : List ℕ) (epoch : ℕ) (book : Book) (look : Look) (h : ℕ) (p : HartPart) (word : ℕ) → HartSound m code epoch book h p word → HartSound m code epoch (with_look book look) h p word
look_hart m code epoch book look h p word b = record {
  loaded = b.loaded;
  announced = b.announced;
  idle = b.idle;
  gone = b.gone;
  held = b.held;
  saw = b.saw;
  ended = λ e pass here. let o = b.ended e pass here in record { pick = o.pick; held = o.held; saw = o.saw; apart = o.apart };
}

pub look_sound : (m : Meaning) (x : Whole) (i : ℕ) (v : VersionState) (tag passed marked hart found : ℕ) → Sound m x → IsPending x i v tag passed → At x.announced hart found → Marks tag passed hart found marked → Sound m (hart_looked x i v tag marked hart found)
look_sound m x i v tag passed marked hart found s can at marks =
    let new : Status = Pending tag marked in
    let look : Look = record { version = i; hart = hart; found = found } in
    let stay : Stays v.status = subst Stays (sym can.1) tt in
    let tag_fits : TagFits x.epoch v.status = s.book.tags i v can.0 in
    let low : tag ≤ x.epoch = subst (TagFits x.epoch) can.1 tag_fits in
    let may : MayBecome x.epoch v.status new = record { was = λ e. let f = can.1 in absurd (cc); is = λ e. absurd (cc); stayed = stay; tag = low } in
    let one_left : left v.status ≡ 1 = ap left can.1 in
    let still : (h word : ℕ) → At x.announced h word → 0 < word → MayHold h word v.status → MayHold h word new = λ h word there busy held.
    let was : (word < tag) × ¬ HasPassed passed h = subst (MayHold h word) can.1 held in (
      was.0,
      λ is. ⊎_elim
          (λ (t : ((found ≡ 0) ⊎ (tag ≤ found)) × IsMarked passed marked hart). dite (ℕ_discrete h hart)
          (λ e.
          let same : found ≡ word = at_same x.announced hart found word at (subst (λ (n : ℕ). At x.announced n word) e there) in
          let below = was.0 in
          absurd (⊎_elim (λ (z : found ≡ 0). omega arith) (λ (z : tag ≤ found). omega arith) t.0))
          (λ ne. was.1 (t.1.others h ne is)))
          (λ (t : (0 < found) × (found < tag) × (marked ≡ passed)). was.1 (subst (λ (n : ℕ). HasPassed n h) t.2 is))
          marks,
    ) in record {
      book = look_book m x.cells (length x.harts) x.code x.epoch (restatus x.book i v new) look (restatus_book m x.cells (length x.harts) x.code x.epoch x.epoch x.book i v new s.book can.0 may (omega arith) (omega arith));
      places = s.places;
      joined = s.joined;
      harts = λ h p word here there. look_hart m x.code x.epoch (restatus x.book i v new) look h p word (restatus_hart m x.code x.epoch x.epoch x.book i v new h p word (s.harts h p word here there) can.0 stay (omega arith) (still h word there));
    }

draft_outside : (m : Meaning) (functions : ℕ) (code : List ℕ) (vs : List VersionState) (c w : ℕ) (o : Option Draft) → ((d : Draft) → o ≡ Some d → (c < start_of d.base) ⊎ (start_of d.base + length d.words < c)) → DraftFits m functions code vs o → DraftFits m functions (set code c w) vs o
draft_outside m functions code vs c w None out fits = tt
draft_outside m functions code vs c w (Some d) out fits =
    let start : ℕ = start_of d.base in
    let o : (c < start) ⊎ (start + length d.words < c) = out d refl in
    let stored = fits.stored in record {
      good = fits.good;
      symbol = fits.symbol;
      room = fits.room;
      base = subst (λ (n : ℕ). IsBase n d.base (length d.words)) (sym (length-set code c w)) fits.base;
      stored = fits.stored;
      header = set_else code c start w (λ e. ⊎_elim (λ (z : c < start). omega arith) (λ (z : start + length d.words < c). omega arith) o) ∙ fits.header;
      words = λ j u small at. set_else code c (start + 1 + j) w (λ e. ⊎_elim (λ (z : c < start). omega arith) (λ (z : start + length d.words < c). omega arith) o) ∙ fits.words j u small at;
      apart = fits.apart;
    }

-- a word outside all ranges is changed
code_book : (m : Meaning) (cells : List ℕ) (harts : ℕ) (code : List ℕ) (epoch : ℕ) (book : Book) (c w : ℕ) → BookSound m cells harts code epoch book → Outside book.versions c → ((d : Draft) → book.draft ≡ Some d → (c < start_of d.base) ⊎ (start_of d.base + length d.words < c))
    → BookSound m cells harts (set code c w) epoch book
code_book m cells harts code epoch book c w b out apart = record {
  cell_is = b.cell_is;
  one_linked = b.one_linked;
  linked = b.linked;
  symbols = b.symbols;
  functions = b.functions;
  code_size = subst (λ (n : ℕ). n ≤ 4194304) (sym (length-set code c w)) b.code_size;
  count = b.count;
  seated = b.seated;
  gone = b.gone;
  texts = b.texts;
  numbers = b.numbers;
  made = b.made;
  stands = λ i v t at stays text. stand_outside m code i v t c w (b.stands i v t at stays text) (out i v at stays);
  apart = b.apart;
  draft = draft_outside m (length cells) code book.versions c w book.draft apart b.draft;
  epoch_is = b.epoch_is;
  tags = b.tags;
}

pub clear_header_sound : (m : Meaning) (x : Whole) (i : ℕ) (v : VersionState) (tag passed : ℕ) → Sound m x → IsPending x i v tag passed → AllPassed x passed → Sound m (header_cleared x i v)
clear_header_sound m x i v tag passed s can all =
    let vs = x.book.versions in
    let new = with_status v GivenUp in
    let book = restatus x.book i v GivenUp in
    let c : ℕ = start_of v.base in
    let stay : Stays v.status = subst Stays (sym can.1) tt in
    let may : MayBecome x.epoch v.status GivenUp = record { was = λ e. let f = can.1 in absurd (cc); is = λ e. absurd (cc); stayed = stay; tag = tt } in
    let one_left : left v.status ≡ 1 = ap left can.1 in
    let given = restatus_book m x.cells (length x.harts) x.code x.epoch x.epoch x.book i v GivenUp s.book can.0 may (omega arith) (omega arith) in
    let out : Outside (set vs i new) c = λ j u here stays. ⊎_elim
    (λ (t : (j ≡ i) × (new ≡ u)). absurd (subst (λ (y : VersionState). Stays y.status) (sym t.1) stays))
    (λ (t : (j ≢ i) × At vs j u). ⊎_elim
    (λ (z : start_of u.base + u.words < c). inr z)
    (λ (z : c + v.words < start_of u.base). inl (omega arith))
    (s.book.apart j i u v t.1 can.0 stays stay t.0))
    (at_set vs i j new u here) in
    let apart : (d : Draft) → x.book.draft ≡ Some d → (c < start_of d.base) ⊎ (start_of d.base + length d.words < c) = λ d is.
    let stands : DraftStands m (length x.cells) x.code vs d = subst (DraftFits m (length x.cells) x.code vs) is s.book.draft in ⊎_elim
    (λ (z : c + v.words < start_of d.base). inl (omega arith))
    (λ (z : start_of d.base + length d.words < c). inr z)
    (stands.apart i v can.0 stay) in record {
      book = code_book m x.cells (length x.harts) x.code x.epoch book c 0 given out apart;
      places = s.places;
      joined = s.joined;
      harts = λ h p word here there.
          let inside = at_below x.announced h word there in
          let none : 0 < word → MayHold h word v.status → MayHold h word GivenUp = λ busy held. let was : (word < tag) × ¬ HasPassed passed h = subst (MayHold h word) can.1 held in was.1 (all h inside) in
          hart_outside m x.code x.epoch book x.book.draft c 0 h p word (restatus_hart m x.code x.epoch x.epoch x.book i v GivenUp h p word (s.harts h p word here there) can.0 stay (omega arith) none) out;
    }
