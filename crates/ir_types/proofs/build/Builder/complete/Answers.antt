use Rattle.std.proofs.Common.{sym}
use Rattle.ir_types.proofs.Building.{array_goes_on, struct_goes_on, whole_at_last}
use Rattle.ir_types.proofs.build.Builder.complete.Goals as goal

pub loop-open-preserved : goal.loop-open-preserved
loop-open-preserved c = array_goes_on c.loop-open.self.outer c.pop.new.self c.in-Some.open c.in-Array.count c.loop-open.ty c.in_ok-new-in-Array.field-0 _ c.in-Some.ensures c.in-Array.is c.in_ok-new-in-Array.ensures c.loop-open.invariant

pub returns-in-Struct : goal.returns-in-Struct
returns-in-Struct c = rw (sym (struct_goes_on c.loop-open.self.outer c.pop.new.self c.in-Some.open c.in-Struct.fields c.in-Struct.packed c.loop-open.ty _ c.in-Some.ensures c.in-Struct.is c.loop-open.invariant)) c.reopen.ensures

pub returns : goal.returns
returns c = whole_at_last c.loop-open.self.outer c.pop.new.self c.loop-open.ty _ c.in_default.ensures.0 c.in_default.ensures.1 c.loop-open.invariant
