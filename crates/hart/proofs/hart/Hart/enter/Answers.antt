use Rattle.std.proofs.Common.{◌≡◌, ◌∙◌, refl, sym, ap, subst, ℕ, true, ◌+◌, ◌-◌, ◌*◌, ◌/◌, ◌%◌, ◌<◌, ◌≤◌, ◌==◌, ◌&&◌, nat_le, nat_lt, [], ◌∷◌, arith}
use Rattle.rv_play.specs.Machine.{code_base, stub_base}
use Rattle.rv_play.specs.Ending.{Held}
use Rattle.hart.specs.Steps.{going_at}
use Rattle.hart.proofs.Entering.{both_by, left_by, entered_by, stub_reaches, stub_at}
use Rattle.hart.proofs.hart.Hart.enter.Goals as goal

pub returns-then-is_code-clause-entered : goal.returns-then-is_code-clause-entered
returns-then-is_code-clause-entered g c =
    let stub = stub_at c.args.address c.args.self.now.functions (sym c.is_stub.ensures ∙ c.if-is_stub.true) in
    let more : 4 ≤ c.args.left = (let m = c.if-left-gt3.true in omega arith) in
    entered_by g.F.Fabric.stands c.args.fabric.now c.cell-base.new.self c.args.self.now c.set_base.new.self c.args.address c.args.left (c.cell-base.result - c.cell-base.result % 2)
    (λ since known o x.
    both_by g.F.Fabric.stands since c.args.fabric.now c.cell-base.new.self known o (going_at c.args.address c.args.left c.args.self.now) (going_at (c.cell-base.result - c.cell-base.result % 2) (c.args.left - 3) c.set_base.new.self)
    (Held ((c.args.address - stub_base) / 16) c.cell-base.result ∷ []) (λ counted. refl) c.cell-base.ensures.stands
    (stub_reaches c.args.self.now c.set_base.new.self c.args.address c.args.left ((c.args.address - stub_base) / 16) c.cell-base.result c.args.self.now.few stub.1 stub.0 (omega arith)
    c.cell-base.type_inv c.set_base.ensures.regs c.set_base.ensures.bytes c.set_base.ensures.control c.set_base.ensures.same)
    x)
    more c.set_base.new.self.few (c.set_base.ensures.phase ∙ c.requires.phase)
    (subst (λ (n : ℕ). ((nat_le code_base (c.cell-base.result - c.cell-base.result % 2)) && ((nat_lt (c.cell-base.result - c.cell-base.result % 2) n) && ((c.cell-base.result - c.cell-base.result % 2) % 4 == 0))) ≡ true)
    (c.requires.limit ∙ ap (λ (n : ℕ). code_base + 4 * n) (sym c.set_base.ensures.same.code_words)) (sym c.is_code.ensures ∙ c.if-is_code.true))

pub returns-then-is_stub-clause-entered : goal.returns-then-is_stub-clause-entered
returns-then-is_stub-clause-entered g c =
    let stub = stub_at c.args.address c.args.self.now.functions (sym c.is_stub.ensures ∙ c.if-is_stub.true) in
    let more = c.if-left-gt3.true in
    left_by g.F.Fabric.stands c.args.fabric.now c.cell-base.new.self c.args.self.now c.set_base.new.self c.go_on_at.new.self c.args.address c.args.left
    (c.cell-base.result - c.cell-base.result % 2) (c.args.left - 3) c.go_on_at.result
    (λ since known o x.
    both_by g.F.Fabric.stands since c.args.fabric.now c.cell-base.new.self known o (going_at c.args.address c.args.left c.args.self.now) (going_at (c.cell-base.result - c.cell-base.result % 2) (c.args.left - 3) c.set_base.new.self)
    (Held ((c.args.address - stub_base) / 16) c.cell-base.result ∷ []) (λ counted. refl) c.cell-base.ensures.stands
    (stub_reaches c.args.self.now c.set_base.new.self c.args.address c.args.left ((c.args.address - stub_base) / 16) c.cell-base.result c.args.self.now.few stub.1 stub.0 (omega arith)
    c.cell-base.type_inv c.set_base.ensures.regs c.set_base.ensures.bytes c.set_base.ensures.control c.set_base.ensures.same)
    x)
    (omega arith) c.go_on_at.ensures

pub returns-clause-entered : goal.returns-clause-entered
returns-clause-entered g c =
    left_by g.F.Fabric.stands c.args.fabric.now c.args.fabric.now c.args.self.now c.args.self.now c.go_on_at-2.new.self c.args.address c.args.left
    c.args.address c.args.left c.go_on_at-2.result (λ since known o x. x) (omega arith) c.go_on_at-2.ensures
