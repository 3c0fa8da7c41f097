use Rattle.std.proofs.Common.{◌≡◌, ◌∙◌, refl, sym, ap, subst, ℕ, true, false, pos, ◌==◌, ◌+◌, ◌*◌, ◌-◌, List, [], ◌∷◌, arith}
use Rattle.rv_play.specs.Ending.{Saw, in_code}
use Rattle.hart.specs.declared.hart.Phase.TheVariants as phase
use Rattle.rv_play.specs.Machine.{code_base}
use Rattle.hart.specs.declared.hart.Phase.{Phase}
use Rattle.hart.specs.Standing.{IsSameCall, IsCodeAddress, HasTurned, with_counted}
use Rattle.hart.specs.Calls.{Both}
use Rattle.rv_core.specs.Step.{plus}
use Rattle.hart.specs.Steps.{CountsAt, standing_at, going_at}
use Rattle.hart.proofs.Entering.{both_by, form_reaches, both_counted, both_to_word, alike_by}
use Rattle.hart.proofs.Turning.{same_then, code_address}
use Rattle.hart.proofs.Following.{both_seen, next_word, fewer_left}
use Rattle.hart.proofs.Looping.{IsAlike, at_in_code, form_turned, form_to_word, runs_alike, turned_by, same_as}
use Rattle.hart.proofs.hart.Hart.run_words.Goals as goal

pub returns-then-left-eq0-clause-both : goal.returns-then-left-eq0-clause-both
returns-then-left-eq0-clause-both g c = λ since known o b.
    both_seen g.F.Fabric.stands since c.loop-next.fabric c.fetch-word.new.self known o (standing_at c.loop-next.pc c.loop-next.left c.loop-next.self) c.go_on_at.new.self
    c.fetch-word.result c.loop-next.invariant.phase c.fetch-word.ensures.stands (
      c.go_on_at.result,
      form_turned c.loop-next.self c.run_form.new.self c.go_on_at.new.self c.loop-next.pc c.loop-next.left c.fetch-word.result c.in-Some.next
          c.read-form.result c.go_on_at.result c.loop-next.invariant.phase c.read-form.ensures (runs_alike c.loop-next.self _ c.run_form.new.self c.loop-next.pc c.in-Some.next c.read-form.result (record {
            same = record { room = refl; widths = refl; functions = refl; code_words = refl; width = refl; fuel = refl };
            regs = refl;
            bytes = refl;
            control = refl;
            phase = refl;
          }) c.in-Some.ensures) c.go_on_at.ensures,
    )
    (c.loop-next.invariant.both since known o b)

pub returns-then-left-eq0-clause-same : goal.returns-then-left-eq0-clause-same
returns-then-left-eq0-clause-same g c =
    same_then c.args.self.now c.loop-next.self c.go_on_at.new.self c.loop-next.invariant.same
    (same_as c.loop-next.self c.go_on_at.new.self c.loop-next.pc c.loop-next.left
    (form_turned c.loop-next.self c.run_form.new.self c.go_on_at.new.self c.loop-next.pc c.loop-next.left c.fetch-word.result c.in-Some.next
    c.read-form.result c.go_on_at.result c.loop-next.invariant.phase c.read-form.ensures (runs_alike c.loop-next.self _ c.run_form.new.self c.loop-next.pc c.in-Some.next c.read-form.result (record {
      same = record { room = refl; widths = refl; functions = refl; code_words = refl; width = refl; fuel = refl };
      regs = refl;
      bytes = refl;
      control = refl;
      phase = refl;
    }) c.in-Some.ensures) c.go_on_at.ensures).same)

pub loop-next-preserved-then-is_code : goal.loop-next-preserved-then-is_code
loop-next-preserved-then-is_code g c =
    let some : (c.loop-next.left == 0) ≡ false = (let n = c.if-left-eq0.false in grind arith) in
    let does = c.in-Some.ensures (Rattle.std.proofs.Common.None) in
    let turned : HasTurned (standing_at c.loop-next.pc c.loop-next.left c.loop-next.self) (standing_at c.in-Some.next (c.loop-next.left - 1) c.run_form.new.self)
    (Saw c.loop-next.pc c.fetch-word.result ∷ []) =
    form_to_word c.loop-next.self c.run_form.new.self c.loop-next.pc c.loop-next.left c.fetch-word.result c.in-Some.next c.read-form.result
    c.loop-next.invariant.phase (c.run_form.new.self.few) some
    (subst (λ (n : ℕ). in_code n c.in-Some.next ≡ true) (sym (does.same.code_words ∙ c.loop-next.invariant.same.code_words)) (sym c.is_code.ensures ∙ c.if-is_code.true)) c.read-form.ensures (runs_alike c.loop-next.self _ c.run_form.new.self c.loop-next.pc c.in-Some.next c.read-form.result (record {
      same = record { room = refl; widths = refl; functions = refl; code_words = refl; width = refl; fuel = refl };
      regs = refl;
      bytes = refl;
      control = refl;
      phase = refl;
    }) c.in-Some.ensures) in
    let fetches : c.run_form.new.self.phase ≡ phase.Fetch = does.phase ∙ c.loop-next.invariant.phase in
    record {
      phase = fetches;
      inside = next_word (standing_at c.in-Some.next (c.loop-next.left - 1) c.run_form.new.self) turned.0 fetches turned.1.wanted turned.1.asked;
      both = λ since known o b.
          both_seen g.F.Fabric.stands since c.loop-next.fabric c.fetch-word.new.self known o (standing_at c.loop-next.pc c.loop-next.left c.loop-next.self)
          (standing_at c.in-Some.next (c.loop-next.left - 1) c.run_form.new.self) c.fetch-word.result
          c.loop-next.invariant.phase c.fetch-word.ensures.stands turned (c.loop-next.invariant.both since known o b);
      begun = c.fetch-word.ensures.begun;
      symbols = c.fetch-word.ensures.symbols ∙ c.loop-next.invariant.symbols;
      code_words = c.fetch-word.ensures.code_words ∙ c.loop-next.invariant.code_words;
      same = record {
        room = does.same.room ∙ c.loop-next.invariant.same.room;
        widths = does.same.widths ∙ c.loop-next.invariant.same.widths;
        functions = does.same.functions ∙ c.loop-next.invariant.same.functions;
        code_words = does.same.code_words ∙ c.loop-next.invariant.same.code_words;
        width = does.same.width ∙ c.loop-next.invariant.same.width;
        fuel = does.same.fuel ∙ c.loop-next.invariant.same.fuel;
      };
      fewer = let few = c.loop-next.invariant.fewer in omega arith;
    }

pub returns-then-not-take_next_at-clause-both : goal.returns-then-not-take_next_at-clause-both
returns-then-not-take_next_at-clause-both g c = λ since known o b.
    both_seen g.F.Fabric.stands since c.loop-next.fabric c.fetch-word.new.self known o (standing_at c.loop-next.pc c.loop-next.left c.loop-next.self) c.take_next_at.new.self
    c.fetch-word.result c.loop-next.invariant.phase c.fetch-word.ensures.stands
    (turned_by c.loop-next.self c.run_form.new.self _ c.take_next_at.new.self c.loop-next.pc c.loop-next.left c.fetch-word.result c.in-None.ensures (record {
      same = record { room = refl; widths = refl; functions = refl; code_words = refl; width = refl; fuel = refl };
      regs = refl;
      bytes = refl;
      control = refl;
      phase = refl;
    }) c.loop-next.invariant.phase
    c.take_next_at.ensures.turned)
    (c.loop-next.invariant.both since known o b)

pub loop-next-preserved : goal.loop-next-preserved
loop-next-preserved g c =
    let next = c.take_next_at.ensures.word c.if-not-take_next_at.false in
    let turned : HasTurned (standing_at c.loop-next.pc c.loop-next.left c.loop-next.self) c.take_next_at.new.self (Saw c.loop-next.pc c.fetch-word.result ∷ []) =
    turned_by c.loop-next.self c.run_form.new.self _ c.take_next_at.new.self c.loop-next.pc c.loop-next.left c.fetch-word.result c.in-None.ensures (record {
      same = record { room = refl; widths = refl; functions = refl; code_words = refl; width = refl; fuel = refl };
      regs = refl;
      bytes = refl;
      control = refl;
      phase = refl;
    }) c.loop-next.invariant.phase
    c.take_next_at.ensures.turned in
    record {
      phase = next;
      inside = next_word c.take_next_at.new.self turned.0 next turned.1.wanted turned.1.asked;
      both = λ since known o b.
          both_seen g.F.Fabric.stands since c.loop-next.fabric c.fetch-word.new.self known o (standing_at c.loop-next.pc c.loop-next.left c.loop-next.self)
          c.take_next_at.new.self c.fetch-word.result
          c.loop-next.invariant.phase c.fetch-word.ensures.stands turned (c.loop-next.invariant.both since known o b);
      begun = c.fetch-word.ensures.begun;
      symbols = c.fetch-word.ensures.symbols ∙ c.loop-next.invariant.symbols;
      code_words = c.fetch-word.ensures.code_words ∙ c.loop-next.invariant.code_words;
      same = same_then c.args.self.now c.loop-next.self c.take_next_at.new.self c.loop-next.invariant.same
          (same_as c.loop-next.self c.take_next_at.new.self c.loop-next.pc c.loop-next.left turned.1.same);
      fewer = let less = fewer_left (standing_at c.loop-next.pc c.loop-next.left c.loop-next.self) c.take_next_at.new.self c.loop-next.invariant.phase next turned.1.fewer in
          let few = c.loop-next.invariant.fewer in omega arith;
    }

pub enter-requires-clause-phase : goal.enter-requires-clause-phase
enter-requires-clause-phase g c = let does = c.in-Some.ensures (Rattle.std.proofs.Common.None) in does.phase ∙ c.loop-next.invariant.phase

pub enter-requires-clause-limit : goal.enter-requires-clause-limit
enter-requires-clause-limit g c =
    let does = c.in-Some.ensures (Rattle.std.proofs.Common.None) in
    ap (λ (n : ℕ). code_base + 4 * n) (sym (does.same.code_words ∙ c.loop-next.invariant.same.code_words))

pub enter-requires-clause-symbols : goal.enter-requires-clause-symbols
enter-requires-clause-symbols g c =
    let does = c.in-Some.ensures (Rattle.std.proofs.Common.None) in
    c.fetch-word.ensures.symbols ∙ c.loop-next.invariant.symbols ∙ c.requires.symbols ∙ sym (does.same.functions ∙ c.loop-next.invariant.same.functions)

pub loop-next-preserved-in-Some-enter : goal.loop-next-preserved-in-Some-enter
loop-next-preserved-in-Some-enter g c =
    let does = c.in-Some.ensures (Rattle.std.proofs.Common.None) in
    let entered = c.in-Some-enter.ensures.entered in
    record {
      phase = entered.phase;
      inside = entered.inside;
      both = λ since known o b. entered.both since known o (both_by g.F.Fabric.stands since c.loop-next.fabric c.fetch-word.new.self known o (standing_at c.loop-next.pc c.loop-next.left c.loop-next.self)
          (going_at c.in-Some.next c.loop-next.left c.run_form.new.self) (Saw c.loop-next.pc c.fetch-word.result ∷ [])
          (λ counted. ap (λ (q : Phase). with_counted q counted) c.loop-next.invariant.phase) (c.fetch-word.ensures.stands)
          (form_reaches c.loop-next.self c.run_form.new.self c.loop-next.pc c.loop-next.left c.fetch-word.result c.in-Some.next c.read-form.result c.loop-next.invariant.phase
          c.read-form.ensures (runs_alike c.loop-next.self _ c.run_form.new.self c.loop-next.pc c.in-Some.next c.read-form.result (record {
            same = record { room = refl; widths = refl; functions = refl; code_words = refl; width = refl; fuel = refl };
            regs = refl;
            bytes = refl;
            control = refl;
            phase = refl;
          }) c.in-Some.ensures))
          (c.loop-next.invariant.both since known o b));
      begun = c.enter.ensures.begun;
      symbols = c.enter.ensures.symbols ∙ c.fetch-word.ensures.symbols ∙ c.loop-next.invariant.symbols;
      code_words = c.enter.ensures.code_words ∙ c.fetch-word.ensures.code_words ∙ c.loop-next.invariant.code_words;
      same = same_then c.args.self.now c.loop-next.self c.enter.new.self c.loop-next.invariant.same
          (same_then c.loop-next.self c.run_form.new.self c.enter.new.self
          (record { room = does.same.room; widths = does.same.widths; functions = does.same.functions; code_words = does.same.code_words; width = does.same.width; fuel = does.same.fuel })
          c.enter.ensures.same);
      fewer = let few = c.loop-next.invariant.fewer in omega arith;
    }

pub returns-in-None-enter-clause-both : goal.returns-in-None-enter-clause-both
returns-in-None-enter-clause-both g c = λ since known o b. c.in-None-enter.ensures.entered.both since known o (both_by g.F.Fabric.stands since c.loop-next.fabric c.fetch-word.new.self known o (standing_at c.loop-next.pc c.loop-next.left c.loop-next.self)
    (going_at c.in-Some.next c.loop-next.left c.run_form.new.self) (Saw c.loop-next.pc c.fetch-word.result ∷ [])
    (λ counted. ap (λ (q : Phase). with_counted q counted) c.loop-next.invariant.phase) (c.fetch-word.ensures.stands)
    (form_reaches c.loop-next.self c.run_form.new.self c.loop-next.pc c.loop-next.left c.fetch-word.result c.in-Some.next c.read-form.result c.loop-next.invariant.phase
    c.read-form.ensures (runs_alike c.loop-next.self _ c.run_form.new.self c.loop-next.pc c.in-Some.next c.read-form.result (record {
      same = record { room = refl; widths = refl; functions = refl; code_words = refl; width = refl; fuel = refl };
      regs = refl;
      bytes = refl;
      control = refl;
      phase = refl;
    }) c.in-Some.ensures))
    (c.loop-next.invariant.both since known o b))

pub returns-in-None-enter-clause-same : goal.returns-in-None-enter-clause-same
returns-in-None-enter-clause-same g c =
    let does = c.in-Some.ensures (Rattle.std.proofs.Common.None) in
    same_then c.args.self.now c.loop-next.self c.enter.new.self c.loop-next.invariant.same
    (same_then c.loop-next.self c.run_form.new.self c.enter.new.self
    (record { room = does.same.room; widths = does.same.widths; functions = does.same.functions; code_words = does.same.code_words; width = does.same.width; fuel = does.same.fuel })
    c.enter.ensures.same)

pub loop-next-preserved-in-Some-counted_at : goal.loop-next-preserved-in-Some-counted_at
loop-next-preserved-in-Some-counted_at g c =
    let alike : IsAlike c.loop-next.self c.run_form.new.self = alike_by c.loop-next.self c.run_form.new.self _ c.in-None.ensures (record {
      same = record { room = refl; widths = refl; functions = refl; code_words = refl; width = refl; fuel = refl };
      regs = refl;
      bytes = refl;
      control = refl;
      phase = refl;
    }) in
    let counts : CountsAt c.run_form.new.self (16777216 + 4 * c.args.self.now.code_words) c.loop-next.pc c.loop-next.left c.fetch-word.result c.in-Some-counted_at.symbol =
    c.in-Some-counted_at.ensures in
    let fetches : c.run_form.new.self.phase ≡ phase.Fetch = alike.phase ∙ c.loop-next.invariant.phase in
    let same : IsSameCall c.args.self.now c.run_form.new.self = same_then c.args.self.now c.loop-next.self c.run_form.new.self c.loop-next.invariant.same alike.same in
    let code : in_code c.run_form.new.self.code_words (plus c.loop-next.pc (pos 4)) ≡ true =
    subst (λ (n : ℕ). in_code n (plus c.loop-next.pc (pos 4)) ≡ true) (sym same.code_words) counts.code in
    let some : (c.loop-next.left == 0) ≡ false = (let more = counts.some in grind arith) in
    let next : c.add_offset-pc.result ≡ plus c.loop-next.pc (pos 4) = c.add_offset-pc.ensures in
    record {
      phase = fetches;
      inside = subst (IsCodeAddress c.run_form.new.self.code_words) (sym next)
          (code_address (standing_at (plus c.loop-next.pc (pos 4)) c.loop-next.left c.run_form.new.self)
          (at_in_code (standing_at (plus c.loop-next.pc (pos 4)) c.loop-next.left c.run_form.new.self) c.run_form.new.self.few some code));
      both = λ since known o b.
          subst (λ (n : ℕ). Both g.F.Fabric.stands since c.count.new.self known o (standing_at n (c.loop-next.left - 1) c.run_form.new.self)) (sym next)
          (both_to_word g.F.Fabric.stands since c.count.new.self known o c.run_form.new.self (plus c.loop-next.pc (pos 4)) c.loop-next.left c.run_form.new.self.few fetches counts.some code
          (both_counted g.F.Fabric.stands since c.loop-next.fabric c.fetch-word.new.self c.count.new.self known o c.loop-next.self c.run_form.new.self c.loop-next.pc c.loop-next.left
          c.fetch-word.result c.in-Some-counted_at.symbol (16777216 + 4 * c.args.self.now.code_words) alike c.loop-next.invariant.phase counts
          c.fetch-word.ensures.stands c.count.ensures.stands (c.loop-next.invariant.both since known o b)));
      begun = c.count.ensures.begun;
      symbols = c.count.ensures.symbols ∙ c.fetch-word.ensures.symbols ∙ c.loop-next.invariant.symbols;
      code_words = c.count.ensures.code_words ∙ c.fetch-word.ensures.code_words ∙ c.loop-next.invariant.code_words;
      same = same;
      fewer = let few = c.loop-next.invariant.fewer in omega arith;
    }
