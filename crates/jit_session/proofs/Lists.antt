-- Lists of harts and workers, put together and after they went.
use Rattle.std.proofs.Common.{◌≡◌, ℕ, zero, suc, ◌<◌, List, [], ◌∷◌, ◌++◌, length, All, Option, Some, None, refl, sym, ap, subst, ◌∙◌, arith}
use Rattle.std.specs.Prelude.{slice_index_or}
use Rattle.ir_core.specs.Program.{Program}
use Rattle.ir_meaning.specs.declared.calls.ListedCall.{ListedCall}
use Rattle.jit_session.specs.declared.runner.Runner.{Runner}
use Rattle.jit_session.specs.Runners.{CanRun, HasRun}
use Rattle.jit_session.specs.declared.asking.Asking.{Asking}
use Rattle.jit_session.specs.declared.parts.Part.{Part}
use Rattle.jit_session.specs.declared.parts.Part.TheVariants.{Runs, Works}
use Rattle.jit_session.specs.declared.worker.Worker.{Worker}
use Rattle.jit_session.specs.Parts.{CanGo, Went, harts_of, asking_in, or_else}
use Rattle.jit_session.specs.Workers.{IsSameAsking, IsSameAsker}

pub or_else_none : {A : Type 0} (o : Option A) → or_else o None ≡ o
or_else_none None = refl
or_else_none (Some x) = refl

or_else_assoc : {A : Type 0} (a b c : Option A) → or_else (or_else a b) c ≡ or_else a (or_else b c)
or_else_assoc None b c = refl
or_else_assoc (Some x) b c = refl

module _ {P : Type 0} (marks : P → List ℕ) where
  same_else : (a b c d : Option (Asking P)) → IsSameAsker marks a b → IsSameAsker marks c d → IsSameAsker marks (or_else a c) (or_else b d)
  same_else None None c d first second = second
  same_else None (Some b) c d first second = absurd first
  same_else (Some a) None c d first second = absurd first
  same_else (Some a) (Some b) c d first second = first

  one_same : (a : Asking P) (o : Option (Asking P)) → IsSameAsker marks (Some a) o → (b : Asking P) × (o ≡ Some b) × IsSameAsking marks a b
  one_same a None same = absurd same
  one_same a (Some b) same = (b, refl, same)

  same_idle : (o : Option (Asking P)) → IsSameAsker marks o o
  same_idle None = tt
  same_idle (Some a) = record { marks_are = refl; counts = record { table = refl; parts = refl; joined = refl }; own = refl }

module _ {G M P : Type 0} where
  pub harts_push : (ps : List (Part G M P)) (r : Runner G) → harts_of (ps ++ Runs r ∷ []) ≡ harts_of ps ++ r ∷ []
  harts_push [] r = refl
  harts_push (Runs x ∷ ps) r = ap (λ (l : List (Runner G)). x ∷ l) (harts_push ps r)
  harts_push (Works w ∷ ps) r = harts_push ps r

  pub harts_worker : (ps : List (Part G M P)) (w : Worker M P) → harts_of (ps ++ Works w ∷ []) ≡ harts_of ps
  harts_worker [] w = refl
  harts_worker (Runs x ∷ ps) w = ap (λ (l : List (Runner G)). x ∷ l) (harts_worker ps w)
  harts_worker (Works v ∷ ps) w = harts_worker ps w

  pub asking_hart : (ps : List (Part G M P)) (r : Runner G) → asking_in (ps ++ Runs r ∷ []) ≡ asking_in ps
  asking_hart [] r = refl
  asking_hart (Runs x ∷ ps) r = asking_hart ps r
  asking_hart (Works w ∷ ps) r = ap (or_else w.asking) (asking_hart ps r)

  pub asking_worker : (ps : List (Part G M P)) (w : Worker M P) → asking_in (ps ++ Works w ∷ []) ≡ or_else (asking_in ps) w.asking
  asking_worker [] w = or_else_none w.asking
  asking_worker (Runs x ∷ ps) w = asking_worker ps w
  asking_worker (Works v ∷ ps) w = ap (or_else v.asking) (asking_worker ps w) ∙ sym (or_else_assoc v.asking (asking_in ps) w.asking)

  pub worker_added : (ps qs : List (Part G M P)) (w : Worker M P) (start : Option (Asking P)) → qs ≡ ps ++ Works w ∷ [] → or_else (asking_in ps) w.asking ≡ start → or_else (asking_in qs) None ≡ start
  worker_added ps qs w start items is = or_else_none (asking_in qs) ∙ ap asking_in items ∙ asking_worker ps w ∙ is

  pub worker_kept : (ps qs : List (Part G M P)) (w : Worker M P) (rs : List (Runner G)) → qs ≡ ps ++ Works w ∷ [] → harts_of ps ≡ rs → harts_of qs ≡ rs
  worker_kept ps qs w rs items is = ap harts_of items ∙ harts_worker ps w ∙ is

  pub hart_added : (ps qs : List (Part G M P)) (r : Runner G) (rs : List (Runner G)) → qs ≡ ps ++ Runs r ∷ [] → harts_of ps ≡ rs → harts_of qs ≡ rs ++ r ∷ []
  hart_added ps qs r rs items is = ap harts_of items ∙ harts_push ps r ∙ ap (λ (l : List (Runner G)). l ++ r ∷ []) is

  pub hart_asks_none : (ps qs : List (Part G M P)) (r : Runner G) (o : Option (Asking P)) → qs ≡ ps ++ Runs r ∷ [] → asking_in ps ≡ o → asking_in qs ≡ o
  hart_asks_none ps qs r o items is = ap asking_in items ∙ asking_hart ps r ∙ is

  pub none_yet : (ps : List (Part G M P)) → ps ≡ [] → (harts_of ps ≡ []) × (asking_in ps ≡ None)
  none_yet ps none = (ap harts_of none, ap asking_in none)

  pub none_first : (ps : List (Part G M P)) (o : Option (Asking P)) → asking_in ps ≡ None → or_else (asking_in ps) o ≡ o
  none_first ps o none = ap (λ (a : Option (Asking P)). or_else a o) none

  -- before a hart is taken from a list there is room for it
  pub harts_before : (xs ys : List (Part G M P)) (r : Runner G) → length (harts_of xs) < length (harts_of (xs ++ Runs r ∷ ys))
  harts_before [] ys r = omega arith
  harts_before (Runs x ∷ xs) ys r = let rest = harts_before xs ys r in omega (arith, rest)
  harts_before (Works w ∷ xs) ys r = harts_before xs ys r

  pub all_can_go : (program : Program) (calls : List ListedCall) (harts : ℕ) (ps : List (Part G M P)) → All (CanRun program calls harts) (harts_of ps) → All (CanGo program calls harts) ps
  all_can_go program calls harts [] all i d low = absurd (omega arith)
  all_can_go program calls harts (Runs r ∷ ps) all zero d low = all 0 r (omega arith)
  all_can_go program calls harts (Runs r ∷ ps) all (suc i) d low = all_can_go program calls harts ps (λ j e l. all (suc j) e (omega arith)) i d (omega arith)
  all_can_go program calls harts (Works w ∷ ps) all zero d low = tt
  all_can_go program calls harts (Works w ∷ ps) all (suc i) d low = all_can_go program calls harts ps all i d (omega arith)

  -- what all parts did
  abbrev pub AllWent : (P → List ℕ) → Program → List ListedCall → ℕ → List (Part G M P) → List (Part G M P) → Type 0
  AllWent marks program calls harts [] [] = Unit {0}
  AllWent marks program calls harts [] (y ∷ ys) = ⊥
  AllWent marks program calls harts (x ∷ xs) [] = ⊥
  AllWent marks program calls harts (x ∷ xs) (y ∷ ys) = Went marks program calls harts x y × AllWent marks program calls harts xs ys

  module _ (marks : P → List ℕ) (program : Program) (calls : List ListedCall) (harts : ℕ) where
    pub all_went : (xs ys : List (Part G M P)) → length ys ≡ length xs → ((i : ℕ) (d : Part G M P) → i < length xs → Went marks program calls harts (slice_index_or xs i d) (slice_index_or ys i d))
        → AllWent marks program calls harts xs ys
    all_went [] [] long all = tt
    all_went [] (y ∷ ys) long all = absurd (omega arith)
    all_went (x ∷ xs) [] long all = absurd (omega arith)
    all_went (x ∷ xs) (y ∷ ys) long all = (all 0 x (omega arith), all_went xs ys (omega arith) (λ i d low. all (suc i) d (omega arith)))

    pub harts_long : (xs ys : List (Part G M P)) → AllWent marks program calls harts xs ys → length (harts_of ys) ≡ length (harts_of xs)
    harts_long [] [] all = refl
    harts_long [] (y ∷ ys) all = absurd all
    harts_long (x ∷ xs) [] all = absurd all
    harts_long (Runs r ∷ xs) (Runs s ∷ ys) all = let rest = harts_long xs ys all.1 in omega (arith, rest)
    harts_long (Runs r ∷ xs) (Works w ∷ ys) all = absurd all.0
    harts_long (Works w ∷ xs) (Runs r ∷ ys) all = absurd all.0
    harts_long (Works w ∷ xs) (Works v ∷ ys) all = harts_long xs ys all.1

    pub harts_ran : (xs ys : List (Part G M P)) → AllWent marks program calls harts xs ys → (i : ℕ) (d : Runner G) → i < length (harts_of xs) → HasRun program calls harts (slice_index_or (harts_of xs) i d) (slice_index_or (harts_of ys) i d)
    harts_ran [] ys all i d low = absurd (omega arith)
    harts_ran (x ∷ xs) [] all i d low = absurd all
    harts_ran (Runs r ∷ xs) (Runs s ∷ ys) all zero d low = all.0
    harts_ran (Runs r ∷ xs) (Runs s ∷ ys) all (suc i) d low = harts_ran xs ys all.1 i d (omega arith)
    harts_ran (Runs r ∷ xs) (Works w ∷ ys) all i d low = absurd all.0
    harts_ran (Works w ∷ xs) (Runs r ∷ ys) all i d low = absurd all.0
    harts_ran (Works w ∷ xs) (Works v ∷ ys) all i d low = harts_ran xs ys all.1 i d low

    same_asker : (xs ys : List (Part G M P)) → AllWent marks program calls harts xs ys → IsSameAsker marks (asking_in xs) (asking_in ys)
    same_asker [] [] all = tt
    same_asker [] (y ∷ ys) all = absurd all
    same_asker (x ∷ xs) [] all = absurd all
    same_asker (Runs r ∷ xs) (Runs s ∷ ys) all = same_asker xs ys all.1
    same_asker (Runs r ∷ xs) (Works w ∷ ys) all = absurd all.0
    same_asker (Works w ∷ xs) (Runs r ∷ ys) all = absurd all.0
    same_asker (Works w ∷ xs) (Works v ∷ ys) all = same_else marks w.asking v.asking (asking_in xs) (asking_in ys) all.0 (same_asker xs ys all.1)

    -- what asks is there still
    pub asker_left : (xs ys : List (Part G M P)) (idle : Option (Asking P)) (a : Asking P) → AllWent marks program calls harts xs ys → or_else (asking_in xs) idle ≡ Some a
        → (b : Asking P) × (or_else (asking_in ys) idle ≡ Some b) × IsSameAsking marks a b
    asker_left xs ys idle a all is =
        let same = same_else marks (asking_in xs) (asking_in ys) idle idle (same_asker xs ys all) (same_idle marks idle) in
        one_same marks a (or_else (asking_in ys) idle) (subst (λ (o : Option (Asking P)). IsSameAsker marks o (or_else (asking_in ys) idle)) is same)
