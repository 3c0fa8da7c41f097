use Rattle.std.proofs.Common.{◌≡◌, ◌≢◌, ◌+◌, ◌-◌, ◌<◌, ℕ, List, length, sym, refl, subst, ap, ◌∙◌, arith}
use Rattle.code_epochs.specs.Sound.{At}
use Rattle.code_epochs.proofs.Lists.{at_index}
use Rattle.redirect_cells.specs.Keeping.{AllCurrent}
use Rattle.redirect_cells.proofs.Keeps as K
use Rattle.redirect_cells.proofs.desk.Desk.linked.Goals as goal

-- one more than a number stands in the cell's place
some_number : (l : List ℕ) (k a : ℕ) → AllCurrent l → At l k a → 0 < a
some_number l k a all at = let e : a ≢ 0 = λ z. all k (subst (At l k) z at) in omega arith

pub overflow_sub-number : goal.overflow_sub-number
overflow_sub-number c =
    let me = c.args.self.now in
    let l = me.shelf.current.items in
    let low : c.args.symbol < length l = subst (λ (n : ℕ). c.args.symbol < n) (sym me.functions_are) c.requires.exists in
    some_number l c.args.symbol c.index.result.now c.requires.all (K.number_at l c.args.symbol c.index.result.now low c.index.ensures)

pub index-requires-2 : goal.index-requires-2
index-requires-2 c =
    let me = c.args.self.now in
    let l = me.shelf.current.items in
    let x = c.index.result.now in
    let low : c.args.symbol < length l = subst (λ (n : ℕ). c.args.symbol < n) (sym me.functions_are) c.requires.exists in
    let at = K.number_at l c.args.symbol x low c.index.ensures in
    let some = some_number l c.args.symbol x c.requires.all at in
    let is : x ≡ x - 1 + 1 = omega arith in
    let below = me.shelf.numbers_are c.args.symbol (x - 1) (subst (At l c.args.symbol) is at) in
    let o = me.shelf.versions.ok.0 in
    omega arith

pub returns : goal.returns
returns c =
    let me = c.args.self.now in
    let l = me.shelf.current.items in
    let x = c.index.result.now in
    let v = c.index-2.result.now in
    let low : c.args.symbol < length l = subst (λ (n : ℕ). c.args.symbol < n) (sym me.functions_are) c.requires.exists in
    let at = K.number_at l c.args.symbol x low c.index.ensures in
    let some = some_number l c.args.symbol x c.requires.all at in
    let is : x ≡ x - 1 + 1 = omega arith in
    let mine : At l c.args.symbol (x - 1 + 1) = subst (At l c.args.symbol) is at in
    let below = me.shelf.numbers_are c.args.symbol (x - 1) mine in
    let here = at_index me.shelf.versions.items (x - 1) v below c.index-2.ensures in
    let fact = me.shelf.current_are c.args.symbol (x - 1) v mine here in
    (x - 1, mine, here, fact.0, fact.1)
