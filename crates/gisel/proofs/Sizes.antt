-- What the stages add to a function is few where it is small.
use Rattle.std.proofs.Common.{◌≡◌, ◌≤◌, ◌<◌, ℕ, suc, ◌+◌, ◌*◌, ◌^◌, List, map, replicate, [], ◌∷◌, ◌++◌, length, refl, ap, arith}
use Rattle.std.specs.Prelude.{sum_by, slice_index_or}
use Rattle.std.proofs.lemmas.List.Sums.{sum_by-append, sum_by-cons}
use Rattle.std.proofs.lemmas.List.{length-append, length-map, length-replicate}
use Rattle.gmir.specs.declared.code.GType.{GType}
use Rattle.gmir.specs.declared.code.GType.TheVariants.{S}
use Rattle.gmir.specs.declared.code.GFunction.{GFunction}
use Rattle.gmir.specs.declared.code.GOp.{GOp}
use Rattle.gmir.specs.declared.code.GOp.TheVariants as gop
use Rattle.gmir.specs.declared.code.GInst.{GInst}
use Rattle.ir_core.specs.declared.code.Pred.{Pred}
use Rattle.ir_core.specs.declared.code.Pred.TheVariants as pred
use Rattle.gmir.specs.Play.{def_at, use_at}
use Rattle.walks.specs.Bits.{predicates}
use Rattle.mir.specs.declared.code.MInst.{MInst}
use Rattle.mir.specs.Code.{targets}
use Rattle.phi_out.specs.Lowering.{edges_of, edge_count}
use Rattle.legal_code.specs.Legal.{Extension, Kept, ByZeros, BySigns, extends, taken, extension, extensions, operands, taken_all, Form, Same, Masks, Extends, Copies, form, before_by, last_by, spent_by, before, last, spent, legal_insts, spent_insts, spent_blocks, legal_type, legal_blocks, legalized}
use Rattle.selected_code.specs.Selected.{compare, code, code_by, code_from, blocks_from, fresh, fresh_in, fresh_of, selected}
use Rattle.gisel.specs.Size.{size, sizes, IsSmall}

taken-few : (e : Extension) → taken e ≤ 2
taken-few Kept = omega arith
taken-few (ByZeros w) = omega arith
taken-few (BySigns w) = omega arith

module _ (types : List GType) where
  all-few : (op : GOp) (n k : ℕ) (rs : List ℕ) → taken_all types op n k rs ≤ 2 * length rs
  all-few op n k [] = omega arith
  all-few op n k (r ∷ rs) =
      let one = taken-few (extension types op n k r) in
      let rest = all-few op n (suc k) rs in
      omega (arith, one, rest)

  spent-few : (f : Form) (i : GInst) → spent_by types f i ≤ 2 * (1 + length i.uses)
  spent-few Same i = let few = all-few i.op i.num 0 i.uses in omega (arith, few)
  spent-few Masks i = omega arith
  spent-few Extends i = omega arith
  spent-few Copies i = omega arith

  insts-few : (is : List GInst) → spent_insts types is ≤ 2 * size is
  insts-few [] = omega arith
  insts-few (i ∷ is) = let one = spent-few (form i.op) i in let rest = insts-few is in omega (arith, one, rest)

  -- the registers that the legal form adds
  pub blocks-few : (bs : List (List GInst)) → spent_blocks types bs ≤ 2 * sizes bs
  blocks-few [] = omega arith
  blocks-few (b ∷ bs) = let one = insts-few b in let rest = blocks-few bs in omega (arith, one, rest)

fresh-few : (op : GOp) → fresh op ≤ 5
fresh-few gop.Icmp = omega arith
fresh-few gop.Select = omega arith
fresh-few gop.SExtInReg = omega arith
fresh-few gop.BrCond = omega arith
fresh-few _ = omega arith

fresh-in-few : (is : List GInst) → fresh_in is ≤ 5 * size is
fresh-in-few [] = omega arith
fresh-in-few (i ∷ is) = let one = fresh-few i.op in let rest = fresh-in-few is in omega (arith, one, rest)

-- the registers that selection adds
pub fresh-of-few : (bs : List (List GInst)) → fresh_of bs ≤ 5 * sizes bs
fresh-of-few [] = omega arith
fresh-of-few (b ∷ bs) = let one = fresh-in-few b in let rest = fresh-of-few bs in omega (arith, one, rest)

-- ---- the edges of selected code

compare-none : (p : Pred) (t d a b : ℕ) → edges_of (compare p t d a b) ≡ 0
compare-none pred.Eq t d a b = refl
compare-none pred.Ne t d a b = refl
compare-none pred.Ugt t d a b = refl
compare-none pred.Uge t d a b = refl
compare-none pred.Ult t d a b = refl
compare-none pred.Ule t d a b = refl
compare-none pred.Sgt t d a b = refl
compare-none pred.Sge t d a b = refl
compare-none pred.Slt t d a b = refl
compare-none pred.Sle t d a b = refl

edges-few : (t : ℕ) (i : GInst) (op : GOp) → edges_of (code_by t i op) ≤ 2
edges-few t i gop.Icmp = let none = compare-none (slice_index_or predicates i.num pred.Eq) t (def_at i 0) (use_at i 0) (use_at i 1) in omega (arith, none)
edges-few t i gop.Br = omega arith
edges-few t i gop.BrCond = omega arith
edges-few t i _ = omega arith

from-few : (t : ℕ) (is : List GInst) → edges_of (code_from t is) ≤ 2 * size is
from-few t [] = omega arith
from-few t (i ∷ is) =
    let both = sum_by-append (λ (inst : MInst). length (targets inst)) (code t i) (code_from (t + fresh i.op) is) in
    let one = edges-few t i i.op in
    let rest = from-few (t + fresh i.op) is in
    omega (arith, both, one, rest)

pub edge-count-few : (t : ℕ) (bs : List (List GInst)) → sum_by edges_of (blocks_from t bs) ≤ 2 * sizes bs
edge-count-few t [] = omega arith
edge-count-few t (b ∷ bs) =
    let both = sum_by-cons edges_of (code_from t b) (blocks_from (t + fresh_in b) bs) in
    let one = from-few t b in
    let rest = edge-count-few (t + fresh_in b) bs in
    omega (arith, both, one, rest)

pub as-many-blocks : (t : ℕ) (bs : List (List GInst)) → length (blocks_from t bs) ≡ length bs
as-many-blocks t [] = refl
as-many-blocks t (b ∷ bs) = ap suc (as-many-blocks (t + fresh_in b) bs)

pub as-many-legal : (types : List GType) (next : ℕ) (bs : List (List GInst)) → length (legal_blocks types next bs) ≡ length bs
as-many-legal types next [] = refl
as-many-legal types next (b ∷ bs) = ap suc (as-many-legal types (next + spent_insts types b) bs)

-- ---- the legal form of a small function

extends-few : (e : Extension) (a next : ℕ) → size (extends e a next) ≤ 4
extends-few Kept a next = omega arith
extends-few (ByZeros w) a next = omega arith
extends-few (BySigns w) a next = omega arith

size-append : (xs ys : List GInst) → size (xs ++ ys) ≡ size xs + size ys
size-append [] ys = omega arith
size-append (x ∷ xs) ys = let rest = size-append xs ys in omega (arith, rest)

module _ (types : List GType) where
  extensions-few : (op : GOp) (n k next : ℕ) (rs : List ℕ) → size (extensions types op n k next rs) ≤ 4 * length rs
  extensions-few op n k next [] = omega arith
  extensions-few op n k next (r ∷ rs) =
      let e = extension types op n k r in
      let both = size-append (extends e r next) (extensions types op n (suc k) (next + taken e) rs) in
      let one = extends-few e r next in
      let rest = extensions-few op n (suc k) (next + taken e) rs in
      omega (arith, both, one, rest)

  as-many-operands : (op : GOp) (n k next : ℕ) (rs : List ℕ) → length (operands types op n k next rs) ≡ length rs
  as-many-operands op n k next [] = refl
  as-many-operands op n k next (r ∷ rs) = ap suc (as-many-operands op n (suc k) (next + taken (extension types op n k r)) rs)

  form-few : (f : Form) (next : ℕ) (i : GInst) → size (before_by types f next i) + (1 + length (last_by types f next i).uses) ≤ 6 * (1 + length i.uses)
  form-few Same next i =
      let few = extensions-few i.op i.num 0 next i.uses in
      let many = as-many-operands i.op i.num 0 next i.uses in
      omega (arith, few, many)
  form-few Masks next i = let many = length-append i.uses (next ∷ []) in omega (arith, many)
  form-few Extends next i = omega arith
  form-few Copies next i = omega arith

  legal-insts-few : (next : ℕ) (is : List GInst) → size (legal_insts types next is) ≤ 6 * size is
  legal-insts-few next [] = omega arith
  legal-insts-few next (i ∷ is) =
      let both = size-append (before types next i) (last types next i ∷ legal_insts types (next + spent types i) is) in
      let one = form-few (form i.op) next i in
      let rest = legal-insts-few (next + spent types i) is in
      omega (arith, both, one, rest)

  pub legal-blocks-few : (next : ℕ) (bs : List (List GInst)) → sizes (legal_blocks types next bs) ≤ 6 * sizes bs
  legal-blocks-few next [] = omega arith
  legal-blocks-few next (b ∷ bs) =
      let one = legal-insts-few next b in
      let rest = legal-blocks-few (next + spent_insts types b) bs in
      omega (arith, one, rest)

-- ---- numbers for all that the stages add

pub legal-has-numbers : (f : GFunction) → IsSmall f → length f.types + spent_blocks f.types f.blocks < 2 ^ 32
legal-has-numbers f small =
    let few = blocks-few f.types f.blocks in
    let registers = small.registers in
    let insts = small.instructions in
    omega (arith, few, registers, insts)

legal-types : (f : GFunction) → length (legalized f).types ≡ length f.types + spent_blocks f.types f.blocks
legal-types f =
    let both = length-append (map legal_type f.types) (replicate (spent_blocks f.types f.blocks) (S 64)) in
    let kept = length-map f.types legal_type in
    let new = length-replicate (spent_blocks f.types f.blocks) (S 64) in
    omega (arith, both, kept, new)

selected-few : (f : GFunction) → IsSmall f → length (legalized f).types + fresh_of (legalized f).blocks ≤ 2 ^ 30
selected-few f small =
    let types = legal-types f in
    let few = blocks-few f.types f.blocks in
    let fresh' = fresh-of-few (legal_blocks f.types (length f.types) f.blocks) in
    let more = legal-blocks-few f.types (length f.types) f.blocks in
    let registers = small.registers in
    let insts = small.instructions in
    omega (arith, types, few, fresh', more, registers, insts)

pub selected-has-numbers : (f : GFunction) → IsSmall f → length (legalized f).types + fresh_of (legalized f).blocks < 2 ^ 32
selected-has-numbers f small = let few = selected-few f small in omega (arith, few)

-- so has the code without phis
pub regs-have-numbers : (f : GFunction) → IsSmall f → (selected (legalized f)).regs + 1 < 2 ^ 32
regs-have-numbers f small = let few = selected-few f small in omega (arith, few)

pub blocks-have-numbers : (f : GFunction) → IsSmall f → length (selected (legalized f)).blocks + edge_count (selected (legalized f)) < 2 ^ 32
blocks-have-numbers f small =
    let legal = legal_blocks f.types (length f.types) f.blocks in
    let edges = edge-count-few (length (legalized f).types) legal in
    let more = legal-blocks-few f.types (length f.types) f.blocks in
    let as-many = as-many-blocks (length (legalized f).types) legal in
    let as-many' = as-many-legal f.types (length f.types) f.blocks in
    let few = small.blocks in
    let insts = small.instructions in
    omega (arith, edges, more, as-many, as-many', few, insts)
