use Rattle.std.proofs.Common.{◌≡◌, ◌+◌, ◌++◌, length, drop, map, replicate}
use Rattle.ir_verify.specs.Ranges.{all_fit, init_fits}
use Rattle.ir_verify.proofs.inits.+inits.Given as goal

abbrev pub invariant-elements_fit-loop-item : goal.invariant-elements_fit-loop-item
invariant-elements_fit-loop-item l =
    all_fit (map (init_fits l.globals) (drop l.item-index l.items)) (replicate (length (drop l.item-index l.items)) l.element)
    ≡ all_fit (map (init_fits l.globals) l.items) (replicate (length l.items) l.element)

abbrev pub invariant-fields_fit-loop-i : goal.invariant-fields_fit-loop-i
invariant-fields_fit-loop-i l =
    all_fit (map (init_fits l.globals) (drop l.i l.items)) (drop l.i l.fields) ≡ all_fit (map (init_fits l.globals) l.items) l.fields
