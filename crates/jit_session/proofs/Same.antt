-- What asks, before and after several calls.
use Rattle.std.proofs.Common.{ℕ, List, Option, Some, None, refl, ◌∙◌}
use Rattle.jit_session.specs.declared.asking.Asking.{Asking}
use Rattle.jit_session.specs.Workers.{IsSameAsking, IsSameAsker}

module _ {P : Type 0} (marks : P → List ℕ) where
  pub same_asking : (a : Asking P) → IsSameAsking marks a a
  same_asking a = record { marks_are = refl; counts = record { table = refl; parts = refl; joined = refl }; own = refl }

  pub asking_after : (a b c : Asking P) → IsSameAsking marks a b → IsSameAsking marks b c → IsSameAsking marks a c
  asking_after a b c first second = record {
    marks_are = second.marks_are ∙ first.marks_are;
    counts = record { table = second.counts.table ∙ first.counts.table; parts = second.counts.parts ∙ first.counts.parts; joined = second.counts.joined ∙ first.counts.joined };
    own = second.own ∙ first.own;
  }

  pub same_asker : (o : Option (Asking P)) → IsSameAsker marks o o
  same_asker None = tt
  same_asker (Some a) = same_asking a

  pub asker_after : (a b c : Option (Asking P)) → IsSameAsker marks a b → IsSameAsker marks b c → IsSameAsker marks a c
  asker_after None None None first second = tt
  asker_after None None (Some c) first second = second
  asker_after None (Some b) c first second = absurd first
  asker_after (Some a) None c first second = absurd first
  asker_after (Some a) (Some b) None first second = second
  asker_after (Some a) (Some b) (Some c) first second = asking_after a b c first second
