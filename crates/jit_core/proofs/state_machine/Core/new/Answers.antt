use Rattle.std.proofs.Common.{◌≡◌, ℕ, length, refl, ap, subst, arith}
use Rattle.jit_core.specs.First.{words_of, IsBehind}
use Rattle.jit_core.proofs.Opening.{words_long}
use Rattle.jit_core.proofs.Founding.{new_stands, new_kept}
use Rattle.jit_core.proofs.state_machine.Core.new.Goals as goal

pub overflow_cast-gives : goal.overflow_cast-gives
overflow_cast-gives c =
    let needed = c.words_needed-needed.ensures in
    let slice = ap words_of c.as_slice.ensures.value in
    let same = c.from.ensures in
    let few = c.if-needed-from.false in
    let code = c.requires.code in
    let long = words_long c.args.versions.items in
    let vec = c.args.versions.ok.0 in
    let len = c.len-gives.ensures in
    omega arith

pub returns-clause-stands : goal.returns-clause-stands
returns-clause-stands c =
    let s = c.in-Ok-new_seats.ensures in
    let needed = c.words_needed-needed.ensures in
    let slice = ap words_of c.as_slice.ensures.value in
    let same = c.from.ensures in
    let few = c.if-needed-from.false in
    let code = c.requires.code in
    let vec = c.args.versions.ok.0 in
    let len = c.len-gives.ensures in
    let words : c.words_needed-needed.result ≡ words_of c.args.versions.items = omega arith in
    let gives : c.len-gives.result ≡ length c.args.versions.items = omega arith in
    let space : IsBehind c.args.code_words (words_of c.args.versions.items) (length c.args.versions.items) c.in-Ok.space =
    subst (λ (n : ℕ). IsBehind c.args.code_words (words_of c.args.versions.items) n c.in-Ok.space) gives (subst (λ (n : ℕ). IsBehind c.args.code_words n c.len-gives.result c.in-Ok.space) words c.in-Ok.ensures) in
    new_stands _ c.args.harts c.args.code_words c.args.versions.items c.in-Ok-opened.ensures c.requires.versions refl refl space refl s.count c.requires.image s.seats

pub returns-clause-kept : goal.returns-clause-kept
returns-clause-kept c =
    let s = c.in-Ok-new_seats.ensures in
    let needed = c.words_needed-needed.ensures in
    let slice = ap words_of c.as_slice.ensures.value in
    let same = c.from.ensures in
    let few = c.if-needed-from.false in
    let code = c.requires.code in
    let vec = c.args.versions.ok.0 in
    let len = c.len-gives.ensures in
    let words : c.words_needed-needed.result ≡ words_of c.args.versions.items = omega arith in
    let gives : c.len-gives.result ≡ length c.args.versions.items = omega arith in
    let space : IsBehind c.args.code_words (words_of c.args.versions.items) (length c.args.versions.items) c.in-Ok.space =
    subst (λ (n : ℕ). IsBehind c.args.code_words (words_of c.args.versions.items) n c.in-Ok.space) gives (subst (λ (n : ℕ). IsBehind c.args.code_words n c.len-gives.result c.in-Ok.space) words c.in-Ok.ensures) in
    let stands = new_stands _ c.args.harts c.args.code_words c.args.versions.items c.in-Ok-opened.ensures c.requires.versions refl refl space refl s.count c.requires.image s.seats in
    new_kept _ c.args.harts c.args.code_words c.args.versions.items c.in-Ok-opened.ensures stands refl space refl s.count c.requires.image c.requires.harts c.requires.code c.requires.calls s.seats
