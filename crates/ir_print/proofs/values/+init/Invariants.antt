use Rattle.std.proofs.Common.{◌≡◌, ◌++◌, drop, length, map}
use Rattle.std.specs.Prelude.{nat_eq}
use Rattle.ir_core.specs.declared.types.MemTy.{out-MemTy}
use Rattle.ir_print.specs.Values.{list_opening, parts_text, init_text}
use Rattle.ir_print.proofs.values.+init.Given as goal

abbrev pub invariant-list-loop-index : goal.invariant-list-loop-index
invariant-list-loop-index l =
    l.page ++ parts_text (out-MemTy l.ty) l.index (map (init_text l.globals) (drop l.index l.items))
    ≡ (l.fn.page ++ list_opening (out-MemTy l.ty) (nat_eq (length l.items) 0)) ++ parts_text (out-MemTy l.ty) 0 (map (init_text l.globals) l.items)
