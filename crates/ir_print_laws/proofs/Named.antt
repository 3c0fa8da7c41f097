-- What printed names stand for.
use Rattle.std.proofs.Common.{◌≡◌, ◌⊎◌, inl, inr, ℕ, zero, suc, ◌+◌, ◌<◌, ◌≤◌, ◌^◌, Bool, true, false, cond, List, [], ◌∷◌, ◌++◌, slice_get, Option, Some, None, refl, sym, ◌∙◌, ap, subst, append_assoc, arith}
use Rattle.std.specs.Prelude.{codes, decimal, nat_lt, Ok}
use Rattle.std.specs.Str.{bytes_eq}
use Rattle.std.proofs.lemmas.Slice.Eq.{bytes_eq-Decides}
use Rattle.ir_text.specs.declared.token.Spelling.{Spelling}
use Rattle.ir_text.specs.declared.token.Spelling.TheVariants.{Bare}
use Rattle.ir_text.specs.declared.name.Name.{Name}
use Rattle.ir_text.specs.Token.{Token, global, token_at, token_here, behind_blanks}
use Rattle.ir_text.specs.Quoted.{said}
use Rattle.ir_types.specs.declared.tables.Target.{Target}
use Rattle.ir_types.specs.declared.tables.Target.TheVariants as targets
use Rattle.ir_types.specs.Tables.{target_named, put_named}
use Rattle.ir_types.specs.Names.{Symbols, bytes_of, named_target}
use Rattle.ir_print_names.specs.Names.{is_bare, name_text}
use Rattle.ir_print_names.proofs.NamesBack.{globals_back}
use Rattle.ir_print_laws.specs.FormTrees.{spelling_of, written_of, IsNameOf}
use Rattle.ir_print_laws.proofs.NamesHere.{global_token}
use Rattle.ir_print_laws.specs.Fits.{AreBytes, AllNew}
use Rattle.ir_print_laws.proofs.Digits.{same_digits}

-- ---- names of globals and functions say their bytes

at_sign : (t : List ℕ) → token_at (64 ∷ t) ≡ token_here (64 ∷ t)
unfolding token_at behind_blanks
at_sign t = refl

abbrev spelling_in : Token × List ℕ → Option (Spelling × List ℕ)
spelling_in (global spelling written, rest) = Some (spelling, written)
spelling_in other = None

abbrev spelling_at : Option (Spelling × List ℕ) → Spelling
spelling_at None = Bare
spelling_at (Some x) = x.0

abbrev bytes_at : Option (Spelling × List ℕ) → List ℕ
bytes_at None = []
bytes_at (Some x) = x.1

written_says : (name : List ℕ) → AreBytes name → said (spelling_of name) (written_of name) ≡ Some name
written_says name all =
    let read = globals_back name [] all refl in
    let one = ap spelling_in (sym read.2 ∙ sym (at_sign (name_text name ++ [])) ∙ global_token name [] refl) in
    let spelling = ap spelling_at one in
    let written = ap bytes_at one in
    subst (λ (x : List ℕ). said (spelling_of name) x ≡ Some name) written (subst (λ (x : Spelling). said x read.1 ≡ Some name) spelling read.3)

pub name_says : (name : List ℕ) (given : Name) → AreBytes name → IsNameOf name given → bytes_of given ≡ Ok name
unfolding bytes_of
name_says name given all is = rw (is.0, is.1, written_says name all) refl

pub bare_says : (name : List ℕ) (given : Name) → is_bare name ≡ true → IsNameOf name given → bytes_of given ≡ Ok name
unfolding bytes_of
bare_says name given bare is = rw (is.0, is.1, bare) refl

-- ---- lists in which each name is new

abbrev pub Entries : Type 0
Entries = List (List ℕ × Target)

pub found_before : (name : List ℕ) (target : Target) (xs ys : Entries) → target_named name xs ≡ Some target → target_named name (xs ++ ys) ≡ Some target
found_before name target [] ys e = absurd cc
found_before name target (x ∷ xs) ys e = by (bytes_eq name x.0) (found_before name target xs ys) e
  where
    by : (b : Bool) → (target_named name xs ≡ Some target → target_named name (xs ++ ys) ≡ Some target) → cond b (Some x.1) (target_named name xs) ≡ Some target → cond b (Some x.1) (target_named name (xs ++ ys)) ≡ Some target
    by true rest h = h
    by false rest h = rest h

pub found_last : (name : List ℕ) (target : Target) (xs : Entries) → target_named name xs ≡ None → target_named name (xs ++ (name, target) ∷ []) ≡ Some target
found_last name target [] e = rw ((bytes_eq-Decides name name).1 refl) refl
found_last name target (x ∷ xs) e = by (bytes_eq name x.0) (found_last name target xs) e
  where
    by : (b : Bool) → (target_named name xs ≡ None → target_named name (xs ++ (name, target) ∷ []) ≡ Some target) → cond b (Some x.1) (target_named name xs) ≡ None → cond b (Some x.1) (target_named name (xs ++ (name, target) ∷ [])) ≡ Some target
    by true rest h = absurd cc
    by false rest h = rest h

pub not_last : (name other : List ℕ) (target : Target) (xs : Entries) → target_named name xs ≡ None → bytes_eq name other ≡ false → target_named name (xs ++ (other, target) ∷ []) ≡ None
not_last name other target [] e apart = rw apart refl
not_last name other target (x ∷ xs) e apart = by (bytes_eq name x.0) (λ h. not_last name other target xs h apart) e
  where
    by : (b : Bool) → (target_named name xs ≡ None → target_named name (xs ++ (other, target) ∷ []) ≡ None) → cond b (Some x.1) (target_named name xs) ≡ None → cond b (Some x.1) (target_named name (xs ++ (other, target) ∷ [])) ≡ None
    by true rest h = absurd cc
    by false rest h = rest h

-- in such a list each entry is found by its name
pub all_found : (before more : Entries) (k : ℕ) (name : List ℕ) (target : Target) → AllNew before more → slice_get more k ≡ Some (name, target) → target_named name (before ++ more) ≡ Some target
all_found before [] k name target new e = absurd cc
all_found before (one ∷ more) zero name target new e =
    let same : one ≡ (name, target) = cc in
    let here : target_named one.0 (before ++ one ∷ []) ≡ Some one.1 = found_last one.0 one.1 before new.0 in
    let all = found_before one.0 one.1 (before ++ one ∷ []) more here in
    let joined = subst (λ (xs : Entries). target_named one.0 xs ≡ Some one.1) (append_assoc before (one ∷ []) more) all in
    subst (λ (x : List ℕ × Target). target_named x.0 (before ++ one ∷ more) ≡ Some x.1) same joined
all_found before (one ∷ more) (suc k) name target new e =
    subst (λ (xs : Entries). target_named name xs ≡ Some target) (append_assoc before (one ∷ []) more) (all_found (before ++ one ∷ []) more k name target new.1 e)

pub is_new : (name : List ℕ) (target : Target) (xs : Entries) → target_named name xs ≡ None → put_named name target xs ≡ (true, xs ++ (name, target) ∷ [])
is_new name target xs e = rw e refl

pub target_says : (symbols : Symbols) (name : List ℕ) (given : Name) (target : Target) → bytes_of given ≡ Ok name → target_named name symbols ≡ Some target → named_target symbols given ≡ Ok target
unfolding named_target
target_says symbols name given target said_name found = rw (said_name, found) refl

-- ---- names of values and blocks

abbrev pub value_name : ℕ → List ℕ
value_name v = codes "v" ++ decimal v

abbrev pub block_name : ℕ → List ℕ
block_name k = codes "b" ++ decimal k

apart_by : (x y : List ℕ) (b : Bool) → bytes_eq x y ≡ b → (x ≡ y → ⊥) → bytes_eq x y ≡ false
apart_by x y true e differ = absurd (differ ((bytes_eq-Decides x y).0 e))
apart_by x y false e differ = e

tail_same : (c : ℕ) (x y : List ℕ) → c ∷ x ≡ c ∷ y → x ≡ y
tail_same c x y e = cc

differ_of : (n m : ℕ) → n < m → n ≡ m → ⊥
differ_of n m lt e = let f : m < m = subst (λ (x : ℕ). x < m) e lt in omega (arith, f)

pub values_apart : (v w : ℕ) → v < 10 ^ 64 → w < 10 ^ 64 → (v ≡ w → ⊥) → bytes_eq (value_name v) (value_name w) ≡ false
values_apart v w p q differ = apart_by (value_name v) (value_name w) _ refl (λ e. differ (same_digits v w p q (tail_same 118 (decimal v) (decimal w) e)))

pub blocks_apart : (v w : ℕ) → v < 10 ^ 64 → w < 10 ^ 64 → (v ≡ w → ⊥) → bytes_eq (block_name v) (block_name w) ≡ false
blocks_apart v w p q differ = apart_by (block_name v) (block_name w) _ refl (λ e. differ (same_digits v w p q (tail_same 98 (decimal v) (decimal w) e)))

pub value_no_block : (v k : ℕ) → bytes_eq (value_name v) (block_name k) ≡ false
value_no_block v k = refl

pub block_no_value : (v k : ℕ) → bytes_eq (block_name k) (value_name v) ≡ false
block_no_value v k = refl

-- the names of so many values and blocks, and of no others
pub record Knows (named : Entries) (values blocks : ℕ) : Type 0 where
  pub value : (v : ℕ) → v < values → target_named (value_name v) named ≡ Some (targets.Value v)
  pub no_value : (v : ℕ) → values ≤ v → v < 10 ^ 64 → target_named (value_name v) named ≡ None
  pub block : (k : ℕ) → k < blocks → target_named (block_name k) named ≡ Some (targets.Block k)
  pub no_block : (k : ℕ) → blocks ≤ k → k < 10 ^ 64 → target_named (block_name k) named ≡ None

pub none_known : Knows [] 0 0
none_known = record { value = λ v lt. absurd (omega (arith, lt)); no_value = λ v le lt. refl; block = λ k lt. absurd (omega (arith, lt)); no_block = λ k le lt. refl }

either_below : (v n : ℕ) → v < n + 1 → (v < n) ⊎ (v ≡ n)
either_below v n lt = by (nat_lt v n) refl
  where
    by : (b : Bool) → nat_lt v n ≡ b → (v < n) ⊎ (v ≡ n)
    by true e = inl (grind (arith, e))
    by false e = inr (grind (arith, e, lt))

pub one_value : (named : Entries) (values blocks : ℕ) → values < 2 ^ 64 → Knows named values blocks → Knows (named ++ (value_name values, targets.Value values) ∷ []) (values + 1) blocks
one_value named values blocks few knows =
    record {
      value = λ v lt. here v (either_below v values lt);
      no_value = λ v le lt. not_last (value_name v) (value_name values) (targets.Value values) named (knows.no_value v (omega (arith, le)) lt) (values_apart v values lt (omega (arith, few)) (λ e. differ_of values v (omega (arith, le)) (sym e)));
      block = λ k lt. found_before (block_name k) (targets.Block k) named _ (knows.block k lt);
      no_block = λ k le lt. not_last (block_name k) (value_name values) (targets.Value values) named (knows.no_block k le lt) (block_no_value values k);
    }
  where
    here : (v : ℕ) → (v < values) ⊎ (v ≡ values) → target_named (value_name v) (named ++ (value_name values, targets.Value values) ∷ []) ≡ Some (targets.Value v)
    here v (inl lt) = found_before (value_name v) (targets.Value v) named _ (knows.value v lt)
    here v (inr e) = subst (λ (x : ℕ). target_named (value_name x) (named ++ (value_name values, targets.Value values) ∷ []) ≡ Some (targets.Value x)) (sym e) (found_last (value_name values) (targets.Value values) named (knows.no_value values (omega arith) (omega (arith, few))))

pub one_block : (named : Entries) (values blocks : ℕ) → blocks < 2 ^ 64 → Knows named values blocks → Knows (named ++ (block_name blocks, targets.Block blocks) ∷ []) values (blocks + 1)
one_block named values blocks few knows =
    record {
      value = λ v lt. found_before (value_name v) (targets.Value v) named _ (knows.value v lt);
      no_value = λ v le lt. not_last (value_name v) (block_name blocks) (targets.Block blocks) named (knows.no_value v le lt) (value_no_block v blocks);
      block = λ k lt. here k (either_below k blocks lt);
      no_block = λ k le lt. not_last (block_name k) (block_name blocks) (targets.Block blocks) named (knows.no_block k (omega (arith, le)) lt) (blocks_apart k blocks lt (omega (arith, few)) (λ e. differ_of blocks k (omega (arith, le)) (sym e)));
    }
  where
    here : (k : ℕ) → (k < blocks) ⊎ (k ≡ blocks) → target_named (block_name k) (named ++ (block_name blocks, targets.Block blocks) ∷ []) ≡ Some (targets.Block k)
    here k (inl lt) = found_before (block_name k) (targets.Block k) named _ (knows.block k lt)
    here k (inr e) = subst (λ (x : ℕ). target_named (block_name x) (named ++ (block_name blocks, targets.Block blocks) ∷ []) ≡ Some (targets.Block x)) (sym e) (found_last (block_name blocks) (targets.Block blocks) named (knows.no_block blocks (omega arith) (omega (arith, few))))
