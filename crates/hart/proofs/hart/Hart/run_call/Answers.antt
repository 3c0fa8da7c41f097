use Rattle.std.proofs.Common.{◌≡◌, sym, subst, ◌∙◌, ℕ, [], ◌++◌}
use Rattle.ir_meaning.specs.Plays.{Meaning}
use Rattle.hart.specs.declared.hart.Phase.{Phase}
use Rattle.hart.specs.declared.hart.Wanted.TheVariants as wanted
use Rattle.hart.specs.declared.hart.Given.TheVariants as given
use Rattle.hart.specs.Standing.{IsFor, IsNext, item_of, with_counted}
use Rattle.hart.specs.Calls.{Origin, Stands, origin_of}
use Rattle.rv_play.specs.Machine.{data_base, control_base}
use Rattle.hart.proofs.Stores.{bytes_in_range}
use Rattle.hart.proofs.Asking.{at_done, answered}
use Rattle.hart.proofs.hart.Hart.run_call.Goals as goal

pub returns-clause-answers : goal.returns-clause-answers
returns-clause-answers g c =
    let o : Origin = origin_of c.args.self.now c.args.image.now c.args.call.now (g.F.Fabric.code_word_count c.args.fabric.now) in
    let started : (m : Meaning) → IsFor m c.args.self.now → Stands m o c.start.new.self [] [] =
    subst (λ (n : ℕ). (m : Meaning) → IsFor m c.args.self.now → Stands m (origin_of c.args.self.now c.args.image.now c.args.call.now n) c.start.new.self [] [])
    c.code_words.ensures c.start.ensures.stands in
    let begun : (m : Meaning) → IsFor m c.args.self.now → Stands m o c.turn.new.self [] (with_counted c.turn.new.self.phase []) =
    λ m for_it. subst (λ (p : Phase). Stands m o c.turn.new.self ([] ++ item_of c.start.new.self p given.Nothing) (with_counted c.turn.new.self.phase []))
    c.start.ensures.phase (c.turn.ensures.stands m o [] [] (started m for_it)) in
    let served = c.serve_call.ensures.both c.args.fabric.now c.args.self.now o
    (record { pass = []; counted = []; fabric_stands = c.begin.ensures.stands; hart_stands = begun }) in
    let ended = c.serve_call.ensures.ended in
    let last : c.turn-2.result ≡ wanted.Done ended.0 =
    subst (λ (p : Phase). IsNext p c.turn-2.new.self c.turn-2.result) ended.1 c.turn-2.ensures.next in
    let same : wanted.Done c.in-Done.ended ≡ wanted.Done ended.0 = sym c.in-Done.is ∙ last in
    answered g.F.Fabric.stands c.args.fabric.now c.serve_call.new.fabric c.end.new.self c.args.self.now o c.serve_call.new.self c.turn-2.new.self
    ended.0 c.in-Done.ended ended.1
    (at_done c.turn-2.new.self c.turn-2.new.self.phase c.turn-2.result c.in-Done.ended c.turn-2.ensures.wanted c.in-Done.is)
    (cc) c.turn-2.ensures.stands
    (λ pass counted x. c.end.ensures.stands c.args.fabric.now pass counted x)
    served

pub returns-clause-in_range : goal.returns-clause-in_range
returns-clause-in_range g c = (
  bytes_in_range data_base _ c.start.new.self.bytes.items c.start.ensures.bytes c.start.ensures.in_range.0,
  bytes_in_range control_base _ c.start.new.self.control.items (cc) c.start.ensures.in_range.1,
)
