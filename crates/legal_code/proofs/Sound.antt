-- What is known of each instruction of a well formed function.
use Rattle.std.proofs.Common.{◌≡◌, refl, sym, ap, subst, ◌∙◌, ℕ, zero, suc, ◌<◌, ◌≤◌, ⊎_elim, Bool, true, false, List, [], ◌∷◌, ◌++◌, length, Some, arith}
use Rattle.std.specs.Prelude.{if◌then◌else◌, ◌==◌, nat_lt, slice_get, slice_index_or, IsTrue}
use Rattle.std.proofs.lemmas.List.{append_assoc}
use Rattle.std.proofs.lemmas.Bool.{cases_lt}
use Rattle.gmir.specs.declared.code.GType.TheVariants.{S}
use Rattle.gmir.specs.declared.code.GOp.TheVariants.{IntToPtr}
use Rattle.gmir.specs.declared.code.GInst.{GInst}
use Rattle.gmir.specs.declared.code.GFunction.{GFunction}
use Rattle.walks.proofs.Numbers.{lt_true}
use Rattle.walks.proofs.Registers.{ReadsAlive}
use Rattle.gmir.specs.Play.{is_phi, phis, behind_phis, on_edge, insts_at}
use Rattle.gmir.specs.Formed.{Has, HasForm, AllExist, IsFormed}
use Rattle.legal_code.specs.Legal.{HasWideAddresses}
use Rattle.legal_code.proofs.Work.{AllBelow}

-- it has the form of its operation, over registers that there are, and a number that becomes an address has 64 bits
pub record Sound (f : GFunction) (i : GInst) : Type 0 where
  pub form_is : HasForm f i i.op
  pub defs : AllExist f i.defs
  pub uses : AllExist f i.uses
  pub address : i.op ≡ IntToPtr → (x : ℕ) → i.uses ≡ x ∷ [] → Has f x (S 64)

module _ (f : GFunction) where
  abbrev pub AllSound : List GInst → Type 0
  AllSound [] = Unit {0}
  AllSound (i ∷ is) = Sound f i × AllSound is

  pub phis_sound : (is : List GInst) → AllSound is → AllSound (phis is)
  phis_sound [] h = tt
  phis_sound (i ∷ is) h = by (is_phi i.op) (phis_sound is h.1)
    where
      by : (b : Bool) → AllSound (phis is) → AllSound (if b then i ∷ phis is else [])
      by true rest = (h.0, rest)
      by false rest = tt

  pub behind_sound : (is : List GInst) → AllSound is → AllSound (behind_phis is)
  behind_sound [] h = tt
  behind_sound (i ∷ is) h = by (is_phi i.op) (behind_sound is h.1)
    where
      by : (b : Bool) → AllSound (behind_phis is) → AllSound (if b then behind_phis is else i ∷ is)
      by true rest = rest
      by false rest = h

  -- the registers that there are
  abbrev pub alive : ℕ → Bool
  alive r = nat_lt r (length f.types)

  pub reads_alive : (rs : List ℕ) → AllExist f rs → ReadsAlive alive rs
  reads_alive [] h = tt
  reads_alive (r ∷ rs) h = (lt_true r (length f.types) h.0, reads_alive rs h.1)

  pub alive_below : (r : ℕ) → IsTrue (alive r) → r < length f.types
  alive_below r h = grind arith

  pub exist_below : (bound : ℕ) → length f.types ≤ bound → (rs : List ℕ) → AllExist f rs → AllBelow bound rs
  exist_below bound le [] h = tt
  exist_below bound le (r ∷ rs) h = ((let l = h.0 in omega (arith, l, le)), exist_below bound le rs h.1)

  -- the register that a phi reads
  pub edge_exists : (from : ℕ) (bs rs : List ℕ) → AllExist f rs → (r : ℕ) → on_edge from bs rs ≡ Some r → r < length f.types
  edge_exists from [] rs h r e = absurd (let bad : ⊥ = cc in bad)
  edge_exists from (b ∷ bs) [] h r e = absurd (let bad : ⊥ = cc in bad)
  edge_exists from (b ∷ bs) (x ∷ rs) h r e = by (b == from) (edge_exists from bs rs h.1 r) e
    where
      by : (t : Bool) → (on_edge from bs rs ≡ Some r → r < length f.types) → (if t then Some x else on_edge from bs rs) ≡ Some r → r < length f.types
      by true rest e = let same : x ≡ r = cc in subst (λ z. z < length f.types) same h.0
      by false rest e = rest e

  module _ (formed : IsFormed f) (wide_ : HasWideAddresses f) where
    at_length : (before : List GInst) (i : GInst) (is : List GInst) → slice_get (before ++ i ∷ is) (length before) ≡ Some i
    at_length [] i is = refl
    at_length (x ∷ xs) i is = at_length xs i is

    sound_from : (b : ℕ) → b < length f.blocks → (before is : List GInst) → insts_at f b ≡ before ++ is → AllSound is
    sound_from b l before [] e = tt
    sound_from b l before (i ∷ is) e =
        let at = formed.insts b before i is l e in (
          record {
            form_is = at.form;
            defs = at.defs;
            uses = at.uses;
            address = λ op x uses. wide_ b (length before) x i (ap (λ xs. slice_get xs (length before)) e ∙ at_length before i is) op uses;
          },
          sound_from b l (before ++ i ∷ []) is (e ∙ sym (append_assoc before (i ∷ []) is)),
        )

    past : (xs : List (List GInst)) (b : ℕ) → length xs ≤ b → slice_index_or xs b [] ≡ []
    past [] b l = refl
    past (x ∷ xs) zero l = absurd (let bad : ⊥ = omega (arith, l) in bad)
    past (x ∷ xs) (suc b) l = past xs b (let z : length xs ≤ b = omega (arith, l) in z)

    pub block_sound : (b : ℕ) → AllSound (insts_at f b)
    block_sound b = ⊎_elim (λ l. sound_from b l [] (insts_at f b) refl) (λ l. subst AllSound (sym (past f.blocks b l)) tt) (cases_lt b (length f.blocks))
