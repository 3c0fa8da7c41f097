-- Where each block of a function stands in its code: the number of its first value, its further registers and its own blocks.
use Rattle.std.proofs.Common.{◌≡◌, refl, ap, subst, ◌∙◌, ℕ, zero, suc, ◌+◌, ◌≤◌, cond, List, [], ◌∷◌, ◌++◌, length, Some, arith}
use Rattle.std.specs.Prelude.{slice_get, slice_index_or, flat_map, take}
use Rattle.std.proofs.lemmas.List.Sums.{sum_by-append}
use Rattle.ir_core.specs.Units.{instructions, results, has_result}
use Rattle.ir_core.specs.declared.code.Inst.{Inst}
use Rattle.ir_core.specs.declared.code.Block.{Block}
use Rattle.ir_core.specs.declared.program.Function.{Function}
use Rattle.ir_core.specs.declared.program.Global.{Global}
use Rattle.gmir.specs.declared.code.GType.{GType}
use Rattle.gmir.specs.declared.code.GInst.{GInst}
use Rattle.generic_code.specs.Whole.{Body, body_of, bodies_from}
use Rattle.generic_code.proofs.Loads.{Stand, stand_front, stand_rest}
use Rattle.generic_laws.proofs.Lists.{get_left, get_right}

-- these blocks stand from a number on
abbrev pub StandFrom : List (List GInst) → ℕ → List (List GInst) → Type 0
StandFrom blocks own later = (k : ℕ) (code : List GInst) → slice_get later k ≡ Some code → slice_index_or blocks (own + k) [] ≡ code

blocks_front : (blocks : List (List GInst)) (own : ℕ) (xs ys : List (List GInst)) → StandFrom blocks own (xs ++ ys) → StandFrom blocks own xs
blocks_front blocks own xs ys h k code e = h k code (get_left xs ys k code e)

blocks_rest : (blocks : List (List GInst)) (own : ℕ) (xs ys : List (List GInst)) → StandFrom blocks own (xs ++ ys) → StandFrom blocks (own + length xs) ys
blocks_rest blocks own xs ys h k code e =
    ap (λ (n : ℕ). slice_index_or blocks n []) (let z : own + length xs + k ≡ own + (length xs + k) = omega arith in z) ∙ h (length xs + k) code (get_right xs ys k ∙ e)

append_long : {A : Type 0} (xs ys : List A) → length (xs ++ ys) ≡ length xs + length ys
append_long [] ys = omega arith
append_long (x ∷ xs) ys = let ih = append_long xs ys in omega (arith, ih)

results_both : (xs ys : List Inst) → results (xs ++ ys) ≡ results xs + results ys
results_both xs ys = sum_by-append (λ (inst : Inst). cond (has_result inst) 1 0) xs ys

module _ (globals : List Global) (function : Function) where
  -- a block's body among all, by its number and that of its first value
  pub record BodyAt (types : List GType) (code : List (List GInst)) (all : List Body) (low start k number value : ℕ) (block : Block) : Type 0 where
    pub next : ℕ
    pub own : ℕ
    pub get : slice_get all k ≡ Some (body_of globals function number value next own block.insts)
    pub up : low ≤ next
    pub above : start ≤ own
    pub room : own + length (body_of globals function number value next own block.insts).ending.later ≤ start + length (flat_map (λ body. body.ending.later) all)
    pub types' : Stand types next (body_of globals function number value next own block.insts).ending.types
    pub later : StandFrom code own (body_of globals function number value next own block.insts).ending.later

  pub body_at : (types : List GType) (code : List (List GInst)) (blocks : List Block) (from value next own : ℕ) (k : ℕ) (block : Block) → slice_get blocks k ≡ Some block
      → Stand types next (flat_map (λ body. body.ending.types) (bodies_from globals function from value next own blocks))
      → StandFrom code own (flat_map (λ body. body.ending.later) (bodies_from globals function from value next own blocks))
      → BodyAt types code (bodies_from globals function from value next own blocks) next own k (from + k) (value + results (instructions (take k blocks))) block
  body_at types code [] from value next own k block e stand later = absurd (let bad : ⊥ = cc in bad)
  body_at types code (x ∷ blocks) from value next own zero block e stand later =
      let same : x ≡ block = cc in
      let body = body_of globals function from value next own x.insts in
      let rest = bodies_from globals function (from + 1) (value + results x.insts) (next + length body.ending.types) (own + length body.ending.later) blocks in
      subst (λ (b : Block). BodyAt types code (bodies_from globals function from value next own (x ∷ blocks)) next own 0 (from + 0) (value + 0) b) same
      (subst (λ (n : ℕ). BodyAt types code (bodies_from globals function from value next own (x ∷ blocks)) next own 0 n (value + 0) x) (let z : from ≡ from + 0 = omega arith in z)
      (subst (λ (n : ℕ). BodyAt types code (bodies_from globals function from value next own (x ∷ blocks)) next own 0 from n x) (let z : value ≡ value + 0 = omega arith in z)
      (record {
        next = next;
        own = own;
        get = refl;
        up = omega arith;
        above = omega arith;
        room = (let long = append_long body.ending.later (flat_map (λ body. body.ending.later) rest) in omega (arith, long));
        types' = stand_front types next body.ending.types (flat_map (λ body. body.ending.types) rest) stand;
        later = blocks_front code own body.ending.later (flat_map (λ body. body.ending.later) rest) later;
      })))
  body_at types code (x ∷ blocks) from value next own (suc k) block e stand later =
      let body = body_of globals function from value next own x.insts in
      let rest = bodies_from globals function (from + 1) (value + results x.insts) (next + length body.ending.types) (own + length body.ending.later) blocks in
      let ih = body_at types code blocks (from + 1) (value + results x.insts) (next + length body.ending.types) (own + length body.ending.later) k block e
      (stand_rest types next body.ending.types (flat_map (λ body. body.ending.types) rest) stand)
      (blocks_rest code own body.ending.later (flat_map (λ body. body.ending.later) rest) later) in
      let up = ih.up in
      let number : from + 1 + k ≡ from + suc k = omega arith in
      let both = results_both x.insts (instructions (take k blocks)) in
      let first : value + results x.insts + results (instructions (take k blocks)) ≡ value + results (instructions (take (suc k) (x ∷ blocks))) = omega (arith, both) in
      subst (λ (n : ℕ). BodyAt types code (bodies_from globals function from value next own (x ∷ blocks)) next own (suc k) n (value + results (instructions (take (suc k) (x ∷ blocks)))) block) number
      (subst (λ (v : ℕ). BodyAt types code (bodies_from globals function from value next own (x ∷ blocks)) next own (suc k) (from + 1 + k) v block) first
      (record {
        next = ih.next;
        own = ih.own;
        get = ih.get;
        up = omega (arith, up);
        above = (let above = ih.above in omega (arith, above));
        room = (let room = ih.room in let long = append_long body.ending.later (flat_map (λ body. body.ending.later) rest) in omega (arith, room, long));
        types' = ih.types';
        later = ih.later;
      }))
