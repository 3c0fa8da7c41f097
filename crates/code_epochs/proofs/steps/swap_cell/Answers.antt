use Rattle.std.proofs.Common.{rules, ◌≡◌, [], ◌∷◌, ◌++◌, map, take, drop, List, length, set, sym, ap, ◌∙◌}
use Rattle.std.proofs.lemmas.List.{length-map}
use Rattle.code_epochs.specs.declared.state.Status.TheVariants.{Linked}
use Rattle.code_epochs.specs.declared.state.VersionState.{VersionState}
use Rattle.code_epochs.specs.Steps.{unlinked, linked_of}
use Rattle.code_epochs.proofs.Lists.{at_index}
use Rattle.code_epochs.proofs.Swap.{swap_cell_sound, take_front}
use Rattle.code_epochs.proofs.steps.swap_cell.Goals as goal

pub returns-clause-found : goal.returns-clause-found
returns-clause-found c = at_index c.args.state.now.cells.items c.args.draft.now.symbol c.index-old.result.now c.requires.symbol c.index-old.ensures

pub returns-clause-sound : goal.returns-clause-sound
returns-clause-sound c = λ m x d is sound complete draft.
    let version = c.args.draft.now in
    let items = c.args.state.now.versions.items in
    let new : VersionState = record { number = c.len-number.result; symbol = version.symbol; level = version.level; base = c.args.base; words = c.len.result; status = Linked } in
    let number : c.len-number.result ≡ length x.book.versions = (let count : c.len-number.result ≡ length items = search rules in count ∙ ap length is.4) in
    let words : c.len.result ≡ length d.words = (let count : c.len.result ≡ length version.words = search rules in count ∙ sym (ap length draft.3)) in
    let mapped = c.unlink_all.new.versions in
    let mapped_is : mapped ≡ map (unlinked version.symbol) items = c.unlink_all.ensures ∙ ap (map (unlinked version.symbol)) c.as_mut_slice.ensures.value in
    let size : c.args.state.now.versions.len ≡ length mapped = sym c.as_mut_slice.ensures.len ∙ sym (ap length c.unlink_all.ensures ∙ length-map c.as_mut_slice.result.now (unlinked version.symbol)) in
    let rest = drop (length mapped) items in
    let first : c.push_reserved.new.self.items ≡ take c.args.state.now.versions.len (mapped ++ rest) ++ new ∷ [] = c.push_reserved.ensures.items in
    let pushed : c.push_reserved.new.self.items ≡ mapped ++ new ∷ [] = first ∙ ap (λ (l : List VersionState). l ++ new ∷ []) (take_front mapped rest c.args.state.now.versions.len size) in
    let new_is : new ≡ linked_of d (length x.book.versions) = (λ i. record { number = number i; symbol = sym draft.0 i; level = sym draft.1 i; base = sym draft.2 i; words = words i; status = Linked }) in
    let versions : c.push_reserved.new.self.items ≡ map (unlinked d.symbol) x.book.versions ++ linked_of d (length x.book.versions) ∷ [] = pushed ∙ (λ i. mapped_is i ++ new ∷ []) ∙ (λ i. map (unlinked (sym draft.0 i)) (is.4 i) ++ new_is i ∷ []) in
    (swap_cell_sound m x d sound complete, ((λ i. set (is.0 i) (sym draft.0 i) (sym draft.2 i)), is.1, is.2, is.3, versions))
