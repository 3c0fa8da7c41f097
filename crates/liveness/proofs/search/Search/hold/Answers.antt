use Rattle.std.proofs.Common.{refl}
use Rattle.liveness.proofs.Extending.{held_extends, held_point, held_adds}
use Rattle.liveness.proofs.search.Search.hold.Goals as goal

pub returns-clause-extends : goal.returns-clause-extends
returns-clause-extends c = held_extends c.args.self.now (record c.args.self.now { spans = c.take_in.new.spans }) c.args.register c.args.point c.requires c.take_in.ensures refl refl

pub returns-clause-holds : goal.returns-clause-holds
returns-clause-holds c = held_point c.args.self.now (record c.args.self.now { spans = c.take_in.new.spans }) c.args.register c.args.point c.requires c.take_in.ensures refl refl

pub returns-clause-adds : goal.returns-clause-adds
returns-clause-adds c = held_adds c.args.self.now (record c.args.self.now { spans = c.take_in.new.spans }) c.args.register c.args.point c.requires c.take_in.ensures refl refl
