-- Lists of values, item by item.
use Rattle.std.proofs.Common.{get_or, ◌≡◌, ℕ, suc, ◌+◌, ◌-◌, ◌<◌, ◌≤◌, List, [], ◌∷◌, ◌++◌, length, drop, Result, Ok, sym, ◌∙◌, ap, arith}
use Rattle.std.proofs.lemmas.List.{drop_more, drop_all}
use Rattle.ir_value_trees.specs.declared.value_tree.InitNode.{InitNode}
use Rattle.ir_core.specs.declared.types.MemTy.{MemTy}
use Rattle.ir_core.specs.declared.program.Init.{Init}
use Rattle.ir_types.specs.declared.fault.Fault.{Fault}
use Rattle.ir_types.specs.Walk.{◌>>=◌, Fails}
use Rattle.ir_types.proofs.Walks.{fails-then}
use Rattle.ir_resolve.specs.Inits.{Reading, closed, elements, fields_of}

Read : Type 0
Read = Init × List InitNode

module _ (one : Reading) (count i : ℕ) (items : List Init) (given : List InitNode) (total : Result (Init × List InitNode) Fault) (e : elements one (count - i) items given ≡ total) where
  unrolled : i < count → total ≡ (one given >>= λ read. elements one (count - (i + 1)) (items ++ read.0 ∷ []) read.1)
  unrolled lt = let same : count - i ≡ suc (count - (i + 1)) = omega arith in sym e ∙ ap (λ n. elements one n items given) same

  pub element_goes : (item : Init) (rest : List InitNode) → i < count → one given ≡ Ok (item, rest) → elements one (count - (i + 1)) (items ++ item ∷ []) rest ≡ total
  element_goes item rest lt is = sym (unrolled lt ∙ ap (λ r. r >>= λ read. elements one (count - (i + 1)) (items ++ read.0 ∷ []) read.1) is)

  pub element_fails : (fault : Fault) → i < count → Fails fault (one given) → Fails fault total
  element_fails fault lt h = fails-then _ fault _ _ h (unrolled lt)

  pub elements_end : count ≤ i → closed items given ≡ total
  elements_end le = let none : count - i ≡ 0 = omega arith in sym (ap (λ n. elements one n items given) none) ∙ e

module _ (one : MemTy → Reading) (fields : List MemTy) (i : ℕ) (items : List Init) (given : List InitNode) (total : Result (Init × List InitNode) Fault) (e : fields_of one (drop i fields) items given ≡ total) where
  next_field : (field : MemTy) → i < length fields → field ≡ get_or fields i field → total ≡ (one field given >>= λ read. fields_of one (drop (i + 1) fields) (items ++ read.0 ∷ []) read.1)
  next_field field lt is = sym e ∙ ap (λ tys. fields_of one tys items given) (drop_more fields i field lt ∙ ap (λ (y : MemTy). y ∷ drop (i + 1) fields) (sym is))

  pub field_goes : (field : MemTy) (item : Init) (rest : List InitNode) → i < length fields → field ≡ get_or fields i field → one field given ≡ Ok (item, rest) → fields_of one (drop (i + 1) fields) (items ++ item ∷ []) rest ≡ total
  field_goes field item rest lt is made = sym (next_field field lt is ∙ ap (λ r. r >>= λ read. fields_of one (drop (i + 1) fields) (items ++ read.0 ∷ []) read.1) made)

  pub field_fails : (field : MemTy) (fault : Fault) → i < length fields → field ≡ get_or fields i field → Fails fault (one field given) → Fails fault total
  field_fails field fault lt is h = fails-then _ fault _ _ h (next_field field lt is)

  pub fields_end : length fields ≤ i → closed items given ≡ total
  fields_end le = sym (ap (λ tys. fields_of one tys items given) (drop_all i fields le)) ∙ e
