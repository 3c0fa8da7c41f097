-- The blocks of a legal form.
use Rattle.std.proofs.Common.{◌≡◌, refl, sym, ap, ◌∙◌, ℕ, zero, suc, ◌+◌, ◌≤◌, Bool, true, false, List, [], ◌∷◌, ◌++◌, arith}
use Rattle.std.specs.Prelude.{if◌then◌else◌, slice_index_or}
use Rattle.gmir.specs.declared.code.GType.{GType}
use Rattle.gmir.specs.declared.code.GOp.{GOp}
use Rattle.gmir.specs.declared.code.GOp.TheVariants.{And, SExtInReg, Constant, Phi}
use Rattle.gmir.specs.declared.code.GInst.{GInst}
use Rattle.gmir.specs.Play.{is_phi, phis, behind_phis}
use Rattle.legal_code.specs.Legal.{Anything, above, Extension, Kept, ByZeros, BySigns, extends, taken, extension, extensions, Form, Same, Masks, Extends, Copies, form, before, before_by, last, last_by, spent, spent_by, legal_insts, legal_blocks, spent_insts, spent_blocks}
use Rattle.legal_code.proofs.Work.{none_extended}
use Rattle.legal_code.proofs.Weights.{masks_zext, extends_sext, IsCopied, trunc, any, copied_op}

-- the operations of instructions that extend
pub data Works : GOp → Type 0 where
  constant : Works Constant
  and_ : Works And
  signed_ : Works SExtInReg

abbrev pub AllWork : List GInst → Type 0
AllWork [] = Unit {0}
AllWork (p ∷ ps) = Works p.op × AllWork ps

work_append : (ps qs : List GInst) → AllWork ps → AllWork qs → AllWork (ps ++ qs)
work_append [] qs p q = q
work_append (x ∷ ps) qs p q = (p.0, work_append ps qs p.1 q)

one_works : (e : Extension) (a next : ℕ) → AllWork (extends e a next)
one_works Kept a next = tt
one_works (ByZeros w) a next = (constant, (and_, tt))
one_works (BySigns w) a next = (signed_, tt)

module _ (types : List GType) where
  extensions_work : (op : GOp) (n k next : ℕ) (rs : List ℕ) → AllWork (extensions types op n k next rs)
  extensions_work op n k next [] = tt
  extensions_work op n k next (r ∷ rs) =
      work_append (extends (extension types op n k r) r next) (extensions types op n (suc k) (next + taken (extension types op n k r)) rs)
      (one_works (extension types op n k r) r next) (extensions_work op n (suc k) (next + taken (extension types op n k r)) rs)

  pub before_works : (next : ℕ) (i : GInst) → AllWork (before types next i)
  before_works next i = by (form i.op)
    where
      by : (x : Form) → AllWork (before_by types x next i)
      by Same = extensions_work i.op i.num 0 next i.uses
      by Masks = (constant, tt)
      by Extends = tt
      by Copies = tt

  -- where nothing is asked above its operands an instruction stays
  pub record Stays (next : ℕ) (i : GInst) : Type 0 where
    pub before' : before types next i ≡ []
    pub last' : last types next i ≡ i
    pub spent' : spent types i ≡ 0

  pub stays : (next : ℕ) (i : GInst) → form i.op ≡ Same → ((k : ℕ) → above i.op i.num k ≡ Anything) → Stays next i
  stays next i e h =
      let none = none_extended types i.op i.num h 0 next i.uses in
      record {
        before' = ap (λ x. before_by types x next i) e ∙ none.before';
        last' = ap (λ x. last_by types x next i) e ∙ ap (λ us. record i { uses = us }) none.uses';
        spent' = ap (λ x. spent_by types x i) e ∙ none.taken';
      }

  pub is_phi_op : (op : GOp) → is_phi op ≡ true → op ≡ Phi
  is_phi_op Phi e = refl
  is_phi_op _ e = absurd (let bad : ⊥ = cc in bad)

  pub phi_stays : (next : ℕ) (i : GInst) → is_phi i.op ≡ true → Stays next i
  phi_stays next i e = let is = is_phi_op i.op e in stays next i (ap form is) (λ k. ap (λ op. above op i.num k) is)

  pub works_no_phi : (op : GOp) → Works op → is_phi op ≡ false
  works_no_phi _ constant = refl
  works_no_phi _ and_ = refl
  works_no_phi _ signed_ = refl

  pub last_phi : (next : ℕ) (i : GInst) → is_phi (last types next i).op ≡ is_phi i.op
  last_phi next i = by (form i.op) refl
    where
      copied : (op : GOp) → IsCopied op → false ≡ is_phi op
      copied _ trunc = refl
      copied _ any = refl

      by : (x : Form) → form i.op ≡ x → is_phi (last_by types x next i).op ≡ is_phi i.op
      by Same e = refl
      by Masks e = sym (ap is_phi (masks_zext i.op e))
      by Extends e = sym (ap is_phi (extends_sext i.op e))
      by Copies e = copied i.op (copied_op i.op e)

  -- no phi stands first
  none_first : (ps : List GInst) (j : GInst) (rest : List GInst) → AllWork ps → is_phi j.op ≡ false → (phis (ps ++ j ∷ rest) ≡ []) × (behind_phis (ps ++ j ∷ rest) ≡ ps ++ j ∷ rest)
  none_first [] j rest w e = (ap (λ b. if b then j ∷ phis rest else []) e, ap (λ b. if b then behind_phis rest else j ∷ rest) e)
  none_first (p ∷ ps) j rest w e =
      let none = works_no_phi p.op w.0 in
      (ap (λ b. if b then p ∷ phis (ps ++ j ∷ rest) else []) none, ap (λ b. if b then behind_phis (ps ++ j ∷ rest) else p ∷ (ps ++ j ∷ rest)) none)

  -- the phis stay, and what stands behind them is legal from some register on
  pub record IsLegalBehind (next : ℕ) (is : List GInst) : Type 0 where
    pub phis' : phis (legal_insts types next is) ≡ phis is
    pub from : ℕ
    pub low : next ≤ from
    pub behind : behind_phis (legal_insts types next is) ≡ legal_insts types from (behind_phis is)

  pub legal_behind : (next : ℕ) (is : List GInst) → IsLegalBehind next is
  legal_behind next [] = record { phis' = refl; from = next; low = omega arith; behind = refl }
  legal_behind next (i ∷ is) = by (is_phi i.op) refl (legal_behind (next + spent types i) is)
    where
      by : (b : Bool) → is_phi i.op ≡ b → IsLegalBehind (next + spent types i) is → IsLegalBehind next (i ∷ is)
      by true e rest =
          let one = phi_stays next i e in
          let all : legal_insts types next (i ∷ is) ≡ i ∷ legal_insts types (next + spent types i) is =
          ap (λ ps. ps ++ last types next i ∷ legal_insts types (next + spent types i) is) one.before' ∙ ap (λ j. j ∷ legal_insts types (next + spent types i) is) one.last' in
          let low = rest.low in
          record {
            phis' = ap phis all ∙ ap (λ b. if b then i ∷ phis (legal_insts types (next + spent types i) is) else []) e ∙ ap (λ ps. i ∷ ps) rest.phis' ∙ sym (ap (λ b. if b then i ∷ phis is else []) e);
            from = rest.from;
            low = omega (arith, low);
            behind = ap behind_phis all ∙ ap (λ b. if b then behind_phis (legal_insts types (next + spent types i) is) else i ∷ legal_insts types (next + spent types i) is) e ∙ rest.behind
                ∙ ap (legal_insts types rest.from) (sym (ap (λ b. if b then behind_phis is else i ∷ is) e));
          }
      by false e rest =
          let none = none_first (before types next i) (last types next i) (legal_insts types (next + spent types i) is) (before_works next i) (last_phi next i ∙ e) in
          record {
            phis' = none.0 ∙ sym (ap (λ b. if b then i ∷ phis is else []) e);
            from = next;
            low = omega arith;
            behind = none.1 ∙ ap (legal_insts types next) (sym (ap (λ b. if b then behind_phis is else i ∷ is) e));
          }

  -- a block, legal from some register on, with enough new ones behind it
  pub legal_at : (next : ℕ) (blocks : List (List GInst)) (b : ℕ)
      → (n : ℕ) × (next ≤ n) × (slice_index_or (legal_blocks types next blocks) b [] ≡ legal_insts types n (slice_index_or blocks b []))
      × (n + spent_insts types (slice_index_or blocks b []) ≤ next + spent_blocks types blocks)
  legal_at next [] b = (next, (let z : next ≤ next = omega arith in z), refl, (let z : next + 0 ≤ next + 0 = omega arith in z))
  legal_at next (x ∷ xs) zero = (next, (let z : next ≤ next = omega arith in z), refl, (let z : next + spent_insts types x ≤ next + (spent_insts types x + spent_blocks types xs) = omega arith in z))
  legal_at next (x ∷ xs) (suc b) =
      let rest = legal_at (next + spent_insts types x) xs b in
      (rest.0, (let low = rest.1 in omega (arith, low)), rest.2, (let top = rest.3 in omega (arith, top)))
