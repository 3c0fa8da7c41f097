use Rattle.std.proofs.Common.{◌≡◌, ℕ, ◌++◌, ◌∷◌, [], true, false, refl, sym, ap, ◌∙◌}
use Rattle.redirect_cells.specs.declared.view.View.{View}
use Rattle.redirect_cells.specs.declared.view.Role.{Role}
use Rattle.redirect_cells.specs.declared.view.Role.TheVariants.{Hart, Keeper, Spent}
use Rattle.redirect_cells.specs.Kept.{book_of, book_in, joined_role, is_keeper, is_hart, number_in, part_in}
use Rattle.redirect_cells.proofs.desk.Desk.take_in.Goals as goal

joined_versions : (r q : Role) → (book_in (joined_role r q)).versions ≡ (book_in r).versions
joined_versions (Keeper book) (Hart h) = refl
joined_versions (Keeper book) (Keeper other) = refl
joined_versions (Keeper book) Spent = refl
joined_versions (Hart v) q = refl
joined_versions Spent q = refl

joined_draft : (r q : Role) → (book_in (joined_role r q)).draft ≡ (book_in r).draft
joined_draft (Keeper book) (Hart h) = refl
joined_draft (Keeper book) (Keeper other) = refl
joined_draft (Keeper book) Spent = refl
joined_draft (Hart v) q = refl
joined_draft Spent q = refl

off : false ≡ true → ⊥
off e = absurd (cc)

joined_gone : (r q : Role) → is_keeper r ≡ true → is_hart q ≡ true → (book_in (joined_role r q)).gone ≡ (book_in r).gone ++ number_in q ∷ []
joined_gone (Keeper book) (Hart h) e f = refl
joined_gone (Keeper book) (Keeper other) e f = absurd (off f)
joined_gone (Keeper book) Spent e f = absurd (off f)
joined_gone (Hart v) q e f = absurd (off e)
joined_gone Spent q e f = absurd (off e)

joined_parts : (r q : Role) → is_keeper r ≡ true → is_hart q ≡ true → (book_in (joined_role r q)).joined ≡ (book_in r).joined ++ part_in q ∷ []
joined_parts (Keeper book) (Hart h) e f = refl
joined_parts (Keeper book) (Keeper other) e f = absurd (off f)
joined_parts (Keeper book) Spent e f = absurd (off f)
joined_parts (Hart v) q e f = absurd (off e)
joined_parts Spent q e f = absurd (off e)

pub returns-clause-gone : goal.returns-clause-gone
returns-clause-gone c =
    let me = c.args.self.now in
    let seat = c.args.seat in
    ap (λ (y : View). (book_of y).gone) c.join.ensures.joined ∙ joined_gone me.seat.seat.me.0.role seat.seat.me.0.role me.seat.keeper seat.hart ∙ ap (λ (n : ℕ). (book_of me.seat.seat.me.0).gone ++ n ∷ []) seat.number_is

pub returns-clause-parts : goal.returns-clause-parts
returns-clause-parts c =
    let me = c.args.self.now in
    let seat = c.args.seat in
    ap (λ (y : View). (book_of y).joined) c.join.ensures.joined ∙ joined_parts me.seat.seat.me.0.role seat.seat.me.0.role me.seat.keeper seat.hart

pub invariant_of-self : goal.invariant_of-self
invariant_of-self c =
    let me = c.args.self.now in
    let joined = c.join.ensures.joined in
    let table = c.join.ensures.table in
    let mine = me.seat.seat.me.0.role in
    let other = c.args.seat.seat.me.0.role in record {
      versions_are = ap (λ (y : View). (book_of y).versions) joined ∙ joined_versions mine other ∙ me.versions_are;
      no_draft = ap (λ (y : View). (book_of y).draft) joined ∙ joined_draft mine other ∙ me.no_draft;
      size_is = me.size_is ∙ sym (ap (λ t. t.now.code_words) table);
      functions_are = me.functions_are ∙ sym (ap (λ t. t.now.functions) table);
      linked_are = me.linked_are;
    }
