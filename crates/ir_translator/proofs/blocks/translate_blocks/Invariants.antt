use Rattle.std.proofs.Common.{◌≡◌, ◌+◌, ◌*◌, ◌≤◌, ◌++◌, [], drop, length}
use Rattle.generic_code.specs.Literals.{empty_pool}
use Rattle.generic_code.specs.Whole.{bodies_from}
use Rattle.ir_translator.specs.Fit.{weight_of}
use Rattle.ir_translator.specs.Laid.{all_laid, codes_of}
use Rattle.ir_translator.proofs.blocks.translate_blocks.Given as goal

abbrev pub invariant-loop-block : goal.invariant-loop-block
invariant-loop-block l = record {
  from : l.from ≡ l.block-index;
  globals : l.translator.globals ≡ l.fn.translator.globals;
  function : l.translator.function ≡ l.fn.translator.function;
  begins : l.translator.code ≡ [];
  fresh : l.translator.pool ≡ empty_pool (length l.translator.types);
  value : l.value + weight_of (drop l.block-index l.blocks) ≤ l.first + weight_of l.blocks;
  next : l.translator.pool.next + 32771 * weight_of (drop l.block-index l.blocks) ≤ l.fn.translator.pool.next + 32771 * weight_of l.blocks;
  own : l.translator.own + 2 * weight_of (drop l.block-index l.blocks) ≤ l.fn.translator.own + 2 * weight_of l.blocks;
  codes : l.codes.items ++ codes_of (bodies_from l.fn.translator.globals l.fn.translator.function l.from l.value l.translator.pool.next l.translator.own (drop l.block-index l.blocks))
      ≡ codes_of (bodies_from l.fn.translator.globals l.fn.translator.function 0 l.first l.fn.translator.pool.next l.fn.translator.own l.blocks);
  written : all_laid l.translator (bodies_from l.fn.translator.globals l.fn.translator.function l.from l.value l.translator.pool.next l.translator.own (drop l.block-index l.blocks))
      ≡ all_laid l.fn.translator (bodies_from l.fn.translator.globals l.fn.translator.function 0 l.first l.fn.translator.pool.next l.fn.translator.own l.blocks);
}
