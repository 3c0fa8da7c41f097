-- The words of items in the first forms that reach run as the items, wherever they stand.
use Rattle.std.proofs.Common.{◌≡◌, refl, sym, ap, subst, ◌∙◌, ℕ, zero, suc, ◌+◌, ◌*◌, ◌%◌, ◌^◌, ◌<◌, ◌≤◌, List, [], ◌∷◌, map, length, Option, Some, Bool, true, false, cond, arith, slice_index}
use Rattle.std.proofs.lemmas.List.{length-append, length-map}
use Rattle.rv_core.specs.Instr.{AreValid}
use Rattle.rv_core.specs.declared.reg.Reg.{Reg}
use Rattle.rv_core.specs.declared.instr.BranchOp.{BranchOp}
use Rattle.rv_core.specs.Step.{read, is_taken}
use Rattle.rv_encode.specs.Spelling.{word_of}
use Rattle.rv_asm.specs.declared.item.Item.{Item}
use Rattle.rv_asm.specs.declared.item.Item.TheVariants.{Plain, BranchTo, JumpTo}
use Rattle.rv_asm.specs.declared.item.Form.{Form}
use Rattle.rv_asm.specs.declared.item.Form.TheVariants.{Short, Near, Far}
use Rattle.rv_asm.specs.declared.item.Formed.{Formed}
use Rattle.rv_asm.specs.Code.{Code, target, leads_to, IsSound, AreSound}
use Rattle.rv_asm.specs.Layout.{jump_code, branch_code, item_code, size, first_form, places_from, laid, AreFirst, item_of, way, IsAssembly}
use Rattle.rv_asm.specs.Runs.{instr_at, ItemStands, ItemsStand, RunsAs}
use Rattle.rv_asm.proofs.Standing.{Stands, stands-apart, stands-from, valid-append}
use Rattle.rv_asm.proofs.Arriving.{Hops, arrives, jump-hops, branch-hops, first-jump, first-branch, jump-valid, branch-valid}

pub size-is : (form : Form) (item : Item) (place to : ℕ) → length (item_code form item place to) ≡ size form item
size-is form (Plain i) place to = refl
size-is Short (BranchTo op a b l) place to = refl
size-is Near (BranchTo op a b l) place to = refl
size-is Far (BranchTo op a b l) place to = refl
size-is Short (JumpTo l) place to = refl
size-is Near (JumpTo l) place to = refl
size-is Far (JumpTo l) place to = refl

pub size-few : (form : Form) (item : Item) → size form item ≤ 3
size-few form (Plain i) = omega arith
size-few Short (BranchTo op a b l) = omega arith
size-few Near (BranchTo op a b l) = omega arith
size-few Far (BranchTo op a b l) = omega arith
size-few Short (JumpTo l) = omega arith
size-few Near (JumpTo l) = omega arith
size-few Far (JumpTo l) = omega arith

-- how many words items have
abbrev pub sizes : List Formed → ℕ
sizes [] = 0
sizes (x ∷ xs) = size x.form x.item + sizes xs

laid-size : (to : Item → ℕ) (place : ℕ) (xs : List Formed) → length (laid to place xs) ≡ sizes xs
laid-size to place [] = refl
laid-size to place (x ∷ xs) =
    let code = item_code x.form x.item place (to x.item) in
    let rest = laid to (place + size x.form x.item) xs in
    omega (arith, length-append code rest, size-is x.form x.item place (to x.item), laid-size to (place + size x.form x.item) xs)

pub sizes-few : (xs : List Formed) → sizes xs ≤ 3 * length xs
sizes-few [] = omega arith
sizes-few (x ∷ xs) = omega (arith, size-few x.form x.item, sizes-few xs)

first-place : (place : ℕ) (xs : List Formed) → slice_index (places_from place xs) 0 ≡ place
first-place place [] = refl
first-place place (x ∷ xs) = refl

last-place : (place : ℕ) (xs : List Formed) → slice_index (places_from place xs) (length xs) ≡ place + sizes xs
last-place place [] = omega arith
last-place place (x ∷ xs) = last-place (place + size x.form x.item) xs ∙ omega arith

pub place-below : (place : ℕ) (xs : List Formed) (k : ℕ) → slice_index (places_from place xs) k ≤ place + sizes xs
place-below place [] zero = omega arith
place-below place [] (suc k) = omega arith
place-below place (x ∷ xs) zero = omega arith
place-below place (x ∷ xs) (suc k) = let r = place-below (place + size x.form x.item) xs k in omega (arith, r)

item-valid : (form : Form) (item : Item) (place to : ℕ) → IsSound item → form ≡ first_form item place to → AreValid (item_code form item place to)
item-valid form (Plain i) place to h e = (h, tt)
item-valid form (BranchTo op a b l) place to h e = branch-valid form op a b place to (first-branch form place to e)
item-valid form (JumpTo l) place to h e = jump-valid form place to (first-jump form place to e)

laid-valid : (to : Item → ℕ) (place : ℕ) (xs : List Formed) → AreSound (map item_of xs) → AreFirst to place xs → AreValid (laid to place xs)
laid-valid to place [] h f = tt
laid-valid to place (x ∷ xs) h f = valid-append _ _ (item-valid x.form x.item place (to x.item) h.0 f.0) (laid-valid to (place + size x.form x.item) xs h.1 f.1)

module _ (words : List ℕ) (base : ℕ) (even : base % 4 ≡ 0) (high : base + 4 * length words < 2 ^ 64) (small : length words ≤ 2 ^ 22)
    (bound : List (Option ℕ)) (at : ℕ → ℕ) (to : Item → ℕ) (leads : (item : Item) → at (leads_to bound item) ≡ base + 4 * to item) (within : (item : Item) → to item ≤ length words) where
  item-stands : (form : Form) (item : Item) (k place : ℕ) → at k ≡ base + 4 * place → at (k + 1) ≡ base + 4 * (place + size form item) → place + size form item ≤ length words
      → Stands words base (base + 4 * place) (item_code form item place (to item)) → ItemStands words base (target bound) at k item
  item-stands form (Plain i) k place here next le st =
      (subst (λ (pc : ℕ). instr_at words base pc ≡ Some i) (sym here) st.0, next ∙ omega (arith, here))
  item-stands form (JumpTo l) k place here next le st = λ s e.
      let pc : s.pc ≡ base + 4 * place = e ∙ here in
      let len = size-is form (JumpTo l) place (to (JumpTo l)) in
      let goes = within (JumpTo l) in
      arrives words base 2 s (at (target bound l)) (omega arith)
      (subst (Hops words base 2 s) (sym (leads (JumpTo l)))
      (jump-hops words base form s place (to (JumpTo l)) even pc (omega (arith, pc, len, le, high)) (omega (arith, goes, high)) (omega (arith, le, small)) (omega (arith, goes, small))
      (subst (λ (p : ℕ). Stands words base p (jump_code form place (to (JumpTo l)))) (sym pc) st)))
  item-stands form (BranchTo op a b l) k place here next le st = λ s e.
      let pc : s.pc ≡ base + 4 * place = e ∙ here in
      let item : Item = BranchTo op a b l in
      let len = size-is form item place (to item) in
      let goes = within item in
      let behind : at (k + 1) ≡ base + 4 * (place + length (branch_code form op a b place (to item))) = next ∙ ap (λ (n : ℕ). base + 4 * (place + n)) (sym len) in
      let taken : Bool = is_taken op (read s a) (read s b) in
      arrives words base 3 s (at (cond taken (target bound l) (k + 1))) (omega arith)
      (subst (Hops words base 3 s) (sym (choice taken (target bound l) (k + 1) (to item) (place + length (branch_code form op a b place (to item))) (leads item) behind))
      (branch-hops words base form op a b s place (to item) taken even pc (omega (arith, pc, len, le, high)) (omega (arith, goes, high)) (below form op a b l place le) (omega (arith, goes, small)) refl
      (subst (λ (p : ℕ). Stands words base p (branch_code form op a b place (to item))) (sym pc) st)))
    where
      choice : (c : Bool) (x y m n : ℕ) → at x ≡ base + 4 * m → at y ≡ base + 4 * n → at (cond c x y) ≡ base + 4 * cond c m n
      choice true x y m n h k = h
      choice false x y m n h k = k

      below : (form : Form) (op : BranchOp) (a b : Reg) (l place : ℕ) → place + size form (BranchTo op a b l) ≤ length words → place < 2 ^ 23
      below form op a b l place le = omega (arith, le, small)

  items-stand : (xs : List Formed) (k place : ℕ) → ((j : ℕ) → at (k + j) ≡ base + 4 * slice_index (places_from place xs) j) → place + sizes xs ≤ length words
      → Stands words base (base + 4 * place) (laid to place xs) → ItemsStand words base (target bound) at k (map item_of xs)
  items-stand [] k place h le st = tt
  items-stand (x ∷ xs) k place h le st =
      let code = item_code x.form x.item place (to x.item) in
      let next : ℕ = place + size x.form x.item in
      let parts = stands-apart words base (base + 4 * place) code (laid to next xs) st in
      let len = size-is x.form x.item place (to x.item) in
      let none : k + 0 ≡ k = omega arith in
      let here : at k ≡ base + 4 * place = ap at (sym none) ∙ h 0 in
      let after : at (k + 1) ≡ base + 4 * next = h 1 ∙ ap (λ (p : ℕ). base + 4 * p) (first-place next xs) in
      let there : base + 4 * place + 4 * length code ≡ base + 4 * next = omega (arith, len) in (
        item-stands x.form x.item k place here after (omega (arith, le)) parts.0,
        items-stand xs (k + 1) next (λ j. (let one : k + 1 + j ≡ k + suc j = omega arith in ap at one) ∙ h (suc j)) (omega (arith, le)) (subst (λ (p : ℕ). Stands words base p (laid to next xs)) there parts.1),
      )

pub assembled : (code : Code) (words : List ℕ) → AreSound code.items → IsAssembly code words → length words ≤ 2 ^ 22 → RunsAs code words
assembled code words sound a small base even high =
    let xs = a.formed in
    let places : List ℕ = places_from 0 xs in
    let to : Item → ℕ = way code.bound xs in
    let many : length words ≡ sizes xs = ap length a.made ∙ length-map (laid to 0 xs) word_of ∙ laid-size to 0 xs in
    let count : length code.items ≡ length xs = ap length (sym a.items) ∙ length-map xs item_of in
    let valid : AreValid (laid to 0 xs) = laid-valid to 0 xs (subst AreSound (sym a.items) sound) a.first in
    let start : base + 4 * 0 ≡ base = omega arith in
    record {
      at = λ k. base + 4 * slice_index places k;
      first = ap (λ (p : ℕ). base + 4 * p) (first-place 0 xs) ∙ start;
      last = ap (λ (k : ℕ). base + 4 * slice_index places k) count ∙ ap (λ (p : ℕ). base + 4 * p) (last-place 0 xs) ∙ omega (arith, many);
      each = subst (ItemsStand words base (target code.bound) (λ k. base + 4 * slice_index places k) 0) a.items
          (items-stand words base even high small code.bound (λ k. base + 4 * slice_index places k) to (λ item. refl) (λ item. let b = place-below 0 xs (leads_to code.bound item) in omega (arith, b, many))
          xs 0 0 (λ j. let z : 0 + j ≡ j = omega arith in ap (λ (k : ℕ). base + 4 * slice_index places k) z) (omega (arith, many)) (stands-from words base [] (laid to 0 xs) a.made valid));
    }
