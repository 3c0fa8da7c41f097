use Rattle.std.proofs.Common.{◌≡◌, ◌<◌, ◌≤◌, ap, subst, ◌∙◌, length, get_or, List, ℕ}
use Rattle.ir_meaning.specs.Memory.{data_start}
use Rattle.ir_meaning.specs.Image.{address_of}
use Rattle.ir_data.proofs.Stand.{place-found, place-none}
use Rattle.ir_data.proofs.addresses.Places.start_of.Goals as goal

pub returns-in-Some : goal.returns-in-Some
returns-in-Some c =
    let are = c.as_slice.ensures ∙ c.self.invariant.0 in
    let v = c.in-Some.address.now in
    place-found data_start c.self.inside.globals.now c.args.global v (subst (λ (xs : List ℕ). c.args.global < length xs) are c.in-Some.ensures.lookup.3.0)
    (subst (λ (xs : List ℕ). v ≡ get_or xs c.args.global v) are c.in-Some.ensures.lookup.1)
    ∙ ap (λ gs. address_of gs c.args.global) c.self.view_is

pub returns-in-None : goal.returns-in-None
returns-in-None c =
    let are = c.as_slice.ensures ∙ c.self.invariant.0 in
    c.self.invariant.1 ∙ place-none data_start c.self.inside.globals.now c.args.global (subst (λ (xs : List ℕ). length xs ≤ c.args.global) are c.in-None.ensures.lookup.3)
    ∙ ap (λ gs. address_of gs c.args.global) c.self.view_is
