use Rattle.std.proofs.Common.{◌≡◌, ◌⊎◌, ◌↔◌, ◌≤◌, ℕ, ◌+◌, ◌*◌, ◌<◌, Some, length, ap, subst, arith}
use Rattle.code_space.specs.Space.{IsFree, HasRoom, IsFirstRoom}
use Rattle.jit_core.specs.declared.publishing.Publishing.TheVariants.{Storing}
use Rattle.jit_core.proofs.Ordering.{unstored, taken_stands, taken_kept}
use Rattle.jit_core.proofs.state_machine.Core.take_range.Goals as goal

pub unreachable-requires : goal.unreachable-requires
unreachable-requires c =
    let me = c.args.self.now in
    let len : c.len.result ≡ length c.args.version.words = (let l = c.len.ensures in omega arith) in
    absurd (c.in_default.ensures.first c.requires.fits.1.0 (subst (λ (n : ℕ). HasRoom me.space.ranges c.requires.fits.1.0 (n + 1)) (let e : length c.args.version.words ≡ c.len.result = omega arith in e) c.requires.fits.1.1))

pub returns-clause-stands : goal.returns-clause-stands
returns-clause-stands c = λ told s.
    let me = c.args.self.now in
    let e = c.in-Some.ensures in
    let place = c.in-Some.place in
    let same = c.from.ensures in
    let len : c.len.result ≡ length c.args.version.words = (let l = c.len.ensures in omega arith) in
    let base : 16777220 + 4 * c.from.result ≡ 16777220 + 4 * place = omega arith in
    taken_stands me c.args.version (16777220 + 4 * c.from.result) place c.take.new.self told base c.requires.none c.requires.symbol c.requires.good c.requires.count c.take.ensures.size
    (subst (λ (n : ℕ). (w : ℕ) → IsFree c.take.new.self.ranges w ↔ (IsFree me.space.ranges w × ((w < place) ⊎ (place + (n + 1) ≤ w)))) len e.free)
    (subst (λ (n : ℕ). HasRoom me.space.ranges place (n + 1)) len e.first.0) (subst (λ (n : ℕ). place + (n + 1) ≤ me.space.size) len e.count.1) s

pub returns-clause-kept : goal.returns-clause-kept
returns-clause-kept c =
    let me = c.args.self.now in
    let e = c.in-Some.ensures in
    let place = c.in-Some.place in
    let same = c.from.ensures in
    let len : c.len.result ≡ length c.args.version.words = (let l = c.len.ensures in omega arith) in
    let base : 16777220 + 4 * c.from.result ≡ 16777220 + 4 * place = omega arith in
    taken_kept me c.args.version (16777220 + 4 * c.from.result) place c.take.new.self base c.requires.none c.requires.symbol c.requires.good c.requires.memory c.requires.count c.take.ensures.size c.take.ensures.spare
    (subst (λ (n : ℕ). (w : ℕ) → IsFree c.take.new.self.ranges w ↔ (IsFree me.space.ranges w × ((w < place) ⊎ (place + (n + 1) ≤ w)))) len e.free)
    (subst (λ (n : ℕ). HasRoom me.space.ranges place (n + 1)) len e.first.0) (subst (λ (n : ℕ). place + (n + 1) ≤ me.space.size) len e.count.1) c.requires.kept

pub returns-clause-answer : goal.returns-clause-answer
returns-clause-answer c =
    let me = c.args.self.now in
    let e = c.in-Some.ensures in
    let place = c.in-Some.place in
    let same = c.from.ensures in
    let len : c.len.result ≡ length c.args.version.words = (let l = c.len.ensures in omega arith) in
    let base : 16777220 + 4 * c.from.result ≡ 16777220 + 4 * place = omega arith in
    (c.requires.none, c.requires.count, (place, subst (λ (n : ℕ). IsFirstRoom me.space.ranges place (n + 1)) len e.first, ap (λ (b : ℕ). Some (Storing (unstored c.args.version b))) base))
