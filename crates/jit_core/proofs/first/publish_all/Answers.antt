use Rattle.std.proofs.Common.{◌≡◌, ◌∷◌, [], ◌++◌, List, length, length-append, refl, sym, ap, subst, ◌∙◌, append_assoc, append-nil, arith}
use Rattle.std.specs.Vec.Iter.{into_iter_items}
use Rattle.rv_play.specs.declared.version.Version.{Version}
use Rattle.jit_core.specs.First.{words_of, Publishes, Opens}
use Rattle.jit_core.proofs.Opening.{opens_none, opens_more, at_front, words_push, words_split, size_more, nothing_left}
use Rattle.jit_core.proofs.first.publish_all.Goals as goal

pub loop-version-init : goal.loop-version-init
loop-version-init c =
    let none = ap length c.requires.none in record {
      order = c.into_iter-version-iterator.ensures.into_iter_gives.0;
      left = c.into_iter-version-iterator.ensures.into_iter_gives.1 ∙ c.args.versions.ok.0 ∙ sym (ap length c.into_iter-version-iterator.ensures.into_iter_gives.0);
      next = refl;
      count = none;
      size = (refl, refl, refl);
      opens = opens_none c.args.state.now c.args.versions.items;
    }

pub publish-requires-clause-range : goal.publish-requires-clause-range
publish-requires-clause-range c =
    let at = c.loop-version in
    let inv = at.invariant in
    let v = c.in-Some.version in
    let rest = into_iter_items c.next.new.self in
    let steps : into_iter_items at.version-iterator ≡ v ∷ rest = c.in-Some.ensures.steps.0 in
    let order : at.yielded ++ v ∷ rest ≡ c.args.versions.items = rw steps at inv.order in
    let split = ap words_of (sym order) ∙ words_split at.yielded v rest in
    let room = c.requires.room in
    let next = inv.next in
    let size = inv.size.2 in
    omega arith

pub publish-requires-clause-symbol : goal.publish-requires-clause-symbol
publish-requires-clause-symbol c =
    let at = c.loop-version in
    let inv = at.invariant in
    let v = c.in-Some.version in
    let rest = into_iter_items c.next.new.self in
    let steps : into_iter_items at.version-iterator ≡ v ∷ rest = c.in-Some.ensures.steps.0 in
    let order : at.yielded ++ v ∷ rest ≡ c.args.versions.items = rw steps at inv.order in
    let low = c.requires.symbols (length at.yielded) v (at_front at.yielded v rest c.args.versions.items order) in
    let size = inv.size.0 in
    omega arith

pub publish-requires-clause-count : goal.publish-requires-clause-count
publish-requires-clause-count c =
    let at = c.loop-version in
    let inv = at.invariant in
    let v = c.in-Some.version in
    let rest = into_iter_items c.next.new.self in
    let steps : into_iter_items at.version-iterator ≡ v ∷ rest = c.in-Some.ensures.steps.0 in
    let order : at.yielded ++ v ∷ rest ≡ c.args.versions.items = rw steps at inv.order in
    let long = ap length (sym order) ∙ length-append at.yielded (v ∷ rest) in
    let few = c.requires.few in
    let count = inv.count in
    omega arith

pub loop-version-preserved : goal.loop-version-preserved
loop-version-preserved c =
    let at = c.loop-version in
    let inv = at.invariant in
    let v = c.in-Some.version in
    let rest = into_iter_items c.next.new.self in
    let steps : into_iter_items at.version-iterator ≡ v ∷ rest = c.in-Some.ensures.steps.0 in
    let order : at.yielded ++ v ∷ rest ≡ c.args.versions.items = rw steps at inv.order in
    let p = c.in_ok-next.ensures in
    let old = c.args.state.now in
    let mid = at.state in
    let new = c.publish.new.state in record {
      order = append_assoc at.yielded (v ∷ []) rest ∙ order;
      left = (let was = inv.left in
          let gone = c.in-Some.ensures.steps.1 in
          let short = ap length steps in
          omega arith);
      next = (let more = words_push at.yielded v in let n = p.next in let was = inv.next in omega arith);
      count = (let more = length-append at.yielded (v ∷ []) in let n = p.count in let was = inv.count in omega arith);
      size = size_more old mid new inv.size p.size;
      opens = opens_more old mid new c.args.versions.items at.yielded rest v order c.requires.room c.requires.few inv.opens
          (subst (λ k. Publishes mid new v k) inv.next p.publishes);
    }

pub returns-clause-opens : goal.returns-clause-opens
returns-clause-opens c =
    let at = c.loop-version in
    let inv = at.invariant in
    let none = c.in-None.ensures.steps in
    let empty : into_iter_items at.version-iterator ≡ [] = nothing_left _ (sym inv.left ∙ none.0) in
    let all : at.yielded ≡ c.args.versions.items = sym (append-nil at.yielded) ∙ rw empty at inv.order in
    subst (λ (l : List Version). Opens c.args.state.now at.state c.args.versions.items l) all inv.opens

pub returns-clause-next : goal.returns-clause-next
returns-clause-next c =
    let at = c.loop-version in
    let inv = at.invariant in
    let none = c.in-None.ensures.steps in
    let empty : into_iter_items at.version-iterator ≡ [] = nothing_left _ (sym inv.left ∙ none.0) in
    let all : at.yielded ≡ c.args.versions.items = sym (append-nil at.yielded) ∙ rw empty at inv.order in
    inv.next ∙ ap words_of all

pub returns-clause-count : goal.returns-clause-count
returns-clause-count c =
    let at = c.loop-version in
    let inv = at.invariant in
    let none = c.in-None.ensures.steps in
    let empty : into_iter_items at.version-iterator ≡ [] = nothing_left _ (sym inv.left ∙ none.0) in
    let all : at.yielded ≡ c.args.versions.items = sym (append-nil at.yielded) ∙ rw empty at inv.order in
    inv.count ∙ ap length all
