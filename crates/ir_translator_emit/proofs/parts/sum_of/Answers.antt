use Rattle.std.proofs.Common.{◌∙◌, ap, get_or, rules, List, []}
use Rattle.ir_core.specs.declared.types.Ty.TheVariants.{Void}
use Rattle.ir_core.specs.declared.code.Operand.TheVariants.{Value as Local}
use Rattle.generic_code.specs.Parts.{Addend, sized, addends_into, addends_of}
use Rattle.ir_translator_emit.specs.Sums.{addends_of_values}
use Rattle.ir_translator_emit.proofs.Adding.{two_values, read_apart, rest_of, indices_all}
use Rattle.ir_translator_emit.proofs.parts.sum_of.Goals as goal

pub add_index-requires : goal.add_index-requires
add_index-requires c = (read_apart c.args.indices.now (Void, Local 0) c.in-len1-up.len_at_least c.requires.indices).0

pub add_into-requires : goal.add_into-requires
add_into-requires c = record {
  indices = (read_apart c.args.indices.now (Void, Local 0) c.in-len1-up.len_at_least c.requires.indices).1;
  sizes = c.requires.sizes;
  few = c.requires.few;
}

pub returns-clause-scaled : goal.returns-clause-scaled
returns-clause-scaled c =
    two_values (sized c.size_of.result (get_or c.args.indices.now 0 (Void, Local 0)).0 (get_or c.args.indices.now 0 (Void, Local 0)).1) (addends_into (rest_of c.args.indices.now) c.args.of.now)
    (addends_of c.args.of.now c.args.indices.now) [] (addends_of_values c.add_index.new.scaled) (addends_of_values c.add_into.new.scaled) (c.in_ok-bytes.ensures.scaled ∙ ap (λ (xs : List Addend). xs) search rules)
    c.in_ok-bytes-2.ensures.scaled (indices_all c.args.of.now c.size_of.result c.args.indices.now (Void, Local 0) c.in-len1-up.len_at_least c.size_of.ensures)
