use Rattle.std.proofs.Common.{◌≡◌, ap, ◌∙◌, arith, get_or, List}
use Rattle.ir_core.specs.declared.types.Ty.TheVariants.{Void}
use Rattle.ir_core.specs.declared.code.Operand.TheVariants.{Value as Local}
use Rattle.ir_core.specs.declared.program.Global.{Global}
use Rattle.generic_code.specs.Literals.{literal, load, loaded, behind, register_of}
use Rattle.ir_translator_emit.specs.Written.{Written, put}
use Rattle.ir_translator_emit.proofs.Put.{reads_more, registers_more, reads_done, registers_done, put_globals}
use Rattle.ir_translator_emit.proofs.translator.Translator.read_all.Goals as goal

pub loop-ty-preserved : goal.loop-ty-preserved
loop-ty-preserved c =
    let one = get_or c.args.operands.now c.loop-ty.ty-index (Void, Local 0) in
    let globals = c.args.self.now.globals in
    let here = c.loop-ty.invariant in
    let is : c.read.new.self ≡ put c.loop-ty.self (load (literal globals one.1) one.0 c.loop-ty.self.pool) (loaded (literal globals one.1) one.0 c.loop-ty.self.pool) (behind (literal globals one.1) one.0 c.loop-ty.self.pool) =
    c.in_ok-register.ensures.written
    ∙ ap (λ (gs : List Global). put c.loop-ty.self (load (literal gs one.1) one.0 c.loop-ty.self.pool) (loaded (literal gs one.1) one.0 c.loop-ty.self.pool) (behind (literal gs one.1) one.0 c.loop-ty.self.pool)) here.globals in
    let number = c.in_ok-register.ensures.register ∙ ap (λ (gs : List Global). register_of one.1 (literal gs one.1) one.0 c.loop-ty.self.pool) here.globals in
    let most = c.in_ok-register.ensures.most in
    let few = here.few in
    record {
      globals = ap (λ (w : Written). w.globals) is ∙ put_globals c.loop-ty.self _ _ _ ∙ here.globals;
      few = omega (arith, most, few);
      registers = rw c.in_ok-push.ensures (registers_more globals c.loop-ty.self c.read.new.self c.loop-ty.all c.in_ok-register.register _ c.args.operands.now c.loop-ty.ty-index (Void, Local 0) c.loop-ty-test.true here.registers is number);
      written = reads_more globals c.loop-ty.self c.read.new.self _ c.args.operands.now c.loop-ty.ty-index (Void, Local 0) c.loop-ty-test.true here.written is;
    }

pub returns-clause-registers : goal.returns-clause-registers
returns-clause-registers c = registers_done c.args.self.now.globals c.loop-ty.self c.loop-ty.all _ c.args.operands.now c.loop-ty.ty-index c.loop-ty-test.false c.loop-ty.invariant.registers

pub returns-clause-written : goal.returns-clause-written
returns-clause-written c = reads_done c.args.self.now.globals c.loop-ty.self _ c.args.operands.now c.loop-ty.ty-index c.loop-ty-test.false c.loop-ty.invariant.written
