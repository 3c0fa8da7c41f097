-- What was read and what is done stays so while the search goes on.
use Rattle.std.proofs.Common.{ℕ, inl, inr, Bool, List}
use Rattle.mir.specs.declared.code.MInst.{MInst}
use Rattle.liveness.specs.declared.search.Search.{Search}
use Rattle.liveness.specs.Search.{Grows}
use Rattle.liveness.specs.Scan.{IsRead, AreRead, IsDone}

pub read_kept : (s t : Search) → Grows s t → (written : List Bool) (block : List MInst) (number count first : ℕ)
    → IsRead s written block number count first → IsRead t written block number count first
read_kept s t grows written block number count first is = record {
  reads_held = λ j inst r below at in'. grows.points r _ (is.reads_held j inst r below at in');
  reads_found = λ j inst r below at in'. elim (is.reads_found j inst r below at in') [ inl before ↦ inl before | inr found ↦ inr (grows.found number r found) ];
  writes_held = λ j inst r below at in'. grows.points r _ (is.writes_held j inst r below at in');
  exact = is.exact;
  all = is.all;
}

pub all_kept : (s t : Search) → Grows s t → (written : List (List Bool)) (blocks : List (List MInst)) (count : ℕ)
    → AreRead s written blocks count → AreRead t written blocks count
all_kept s t grows written blocks count are b below = read_kept s t grows _ _ _ _ _ (are b below)

pub done_kept : (s t : Search) → Grows s t → (blocks : List (List MInst)) (sources : List (List ℕ)) (written : List (List Bool)) (b r : ℕ)
    → IsDone blocks sources written s b r → IsDone blocks sources written t b r
done_kept s t grows blocks sources written b r is = record {
  start = grows.points r _ is.start;
  back = λ from in'. grows.points r _ (is.back from in');
  source = λ from in'. elim (is.source from in') [ inl written' ↦ inl written' | inr found ↦ inr (grows.found from r found) ];
}
