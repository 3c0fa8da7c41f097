-- What a refusal of a text says.
use Rattle.std.proofs.Common.{◌≡◌, ◌≤◌, ◌<◌, ◌-◌, ℕ, List, length, Result, Ok, Err, refl, inl, inr, sym, ◌∙◌, ap, subst, arith}
use Rattle.std.specs.Prelude.{◌⊎◌, IfErr}
use Rattle.ir_text.proofs.Exact.{same_gave}
use Rattle.ir_tree.specs.declared.tree.Tree.{Tree}
use Rattle.ir_tree.specs.Modules.{IsTextOf, module_form}
use Rattle.ir_tree.specs.LeftOut.{FirstLeftOut, HasNoLeftOut}
use Rattle.ir_tree.proofs.ModulesExact.{exact-module_form}
use Rattle.ir_core.specs.declared.program.Module.{Module}
use Rattle.ir_core.specs.declared.program.What.{What}
use Rattle.ir_core.specs.declared.program.What.TheVariants as what
use Rattle.ir_types.specs.declared.fault.Fault.{Fault}
use Rattle.ir_types.specs.declared.fault.Fault.TheVariants as faults
use Rattle.ir_functions.specs.Functions.{IsModuleOf, IsTreeFault, FailsBy}
use Rattle.ir_functions.specs.TreeCauses.{TreeFault, FitsTree}
use Rattle.ir_functions.proofs.TreeShown.{tree_fails, none_fails}
use Rattle.ir_functions.proofs.TreeForms.{syntax_misfits}
use Rattle.ir_reader.specs.declared.reading.ReadRefusal.{ReadRefusal}
use Rattle.ir_reader.specs.declared.reading.ReadRefusal.TheVariants as refusals
use Rattle.ir_reader.specs.Reads.{Reads, Forms, HasFault, IsMemoryRefusal, Tells, Told, IsBlamed, IsToldFor, Refuses, Answers, HasNone, ShowsSyntax, ShowsLeftOut, ShowsName, ShowsLimit}

-- a text has one tree
pub one_tree : (text : List ℕ) (tree other : Tree) → IsTextOf text tree → IsTextOf text other → tree ≡ other
unfolding IsTextOf
one_tree text tree other w v = (same_gave tree other w.0 v.0 (sym (exact-module_form.complete text tree w.0 w.1) ∙ exact-module_form.complete text other v.0 v.1)).0

abbrev NoneReads : List ℕ → Type 0
NoneReads text = (module_ : Module) → Reads text module_ → ⊥

none_reads : (text : List ℕ) (tree : Tree) (fault : Fault) → IsTextOf text tree → (fault ≡ faults.NoMemory → ⊥) → IsTreeFault tree fault → NoneReads text
none_reads text tree fault w apart e module_ r =
    none_fails tree fault apart e module_ (subst (λ t. IsModuleOf t module_) (one_tree text r.1.0 tree r.1.1 w) r.1.2)

has_fault : (text : List ℕ) (tree : Tree) (fault : Fault) → IsTextOf text tree → IsTreeFault tree fault → HasFault text fault
has_fault text tree fault w e = (tree, w, tree_fails tree fault e)

no_forms : (text : List ℕ) (tree : Tree) (left : ℕ) → IsTextOf text tree → IsTreeFault tree (faults.Syntax left) → Forms text → ⊥
no_forms text tree left w e (other, v, fits) = syntax_misfits tree left (tree_fails tree (faults.Syntax left) e) (rw (one_tree text other tree v w) at fits)

pub memory_refuses : (text : List ℕ) (refusal : ReadRefusal) → IsMemoryRefusal refusal → Refuses text refusal
memory_refuses text refusals.NoMemory h = (tt, (tt, (tt, (tt, tt))))
memory_refuses text (refusals.Syntax at) h = absurd h
memory_refuses text (refusals.LeftOut at name) h = absurd h
memory_refuses text (refusals.Name at name) h = absurd h
memory_refuses text (refusals.Limit counted count) h = absurd h

-- in the place of a fault of syntax
pub blamed_refuses : (text : List ℕ) (told : Fault) (refusal : ReadRefusal) → NoneReads text → (Forms text → ⊥) → IsBlamed text told → Told text told refusal → Refuses text refusal
blamed_refuses text told refusal none forms blamed (inl memory) = memory_refuses text refusal memory
blamed_refuses text faults.NoMemory refusal none forms blamed (inr tells) = absurd tells
blamed_refuses text (faults.Syntax left) refusal none forms blamed (inr tells) = rw tells (none, ((forms, blamed), (tt, (tt, tt))))
blamed_refuses text (faults.LeftOut left) refusal none forms blamed (inr tells) = rw tells (none, (tt, ((left, (refl, refl), inl blamed), (tt, tt))))
blamed_refuses text (faults.Name left) refusal none forms blamed (inr tells) = absurd blamed
blamed_refuses text (faults.Limit counted count) refusal none forms blamed (inr tells) = absurd blamed

other_refuses : (text : List ℕ) (tree : Tree) (fault : Fault) (refusal : ReadRefusal) → IsTextOf text tree → IsTreeFault tree fault → (((left : ℕ) → fault ≡ faults.Syntax left → ⊥)) → Told text fault refusal → Refuses text refusal
other_refuses text tree fault refusal w e apart (inl memory) = memory_refuses text refusal memory
other_refuses text tree faults.NoMemory refusal w e apart (inr tells) = absurd tells
other_refuses text tree (faults.Syntax left) refusal w e apart (inr tells) = absurd (apart left refl)
other_refuses text tree (faults.LeftOut left) refusal w e apart (inr tells) = rw tells (none_reads text tree (faults.LeftOut left) w (λ same. absurd cc) e, (tt, ((left, (refl, refl), inr (has_fault text tree (faults.LeftOut left) w e)), (tt, tt))))
other_refuses text tree (faults.Name left) refusal w e apart (inr tells) = rw tells (none_reads text tree (faults.Name left) w (λ same. absurd cc) e, (tt, (tt, ((left, (refl, refl), has_fault text tree (faults.Name left) w e), tt))))
other_refuses text tree (faults.Limit counted count) refusal w e apart (inr tells) = rw tells (none_reads text tree (faults.Limit counted count) w (λ same. absurd cc) e, (tt, (tt, (tt, inr (has_fault text tree (faults.Limit counted count) w e)))))

-- what is answered where the tree has no module
pub tree_refuses : (text : List ℕ) (tree : Tree) (fault told : Fault) (refusal : ReadRefusal) → IsTextOf text tree → FailsBy tree fault → IsToldFor text fault told → Told text told refusal → Refuses text refusal
tree_refuses text tree faults.NoMemory told refusal w e is h = by (rw is at h)
  where
    by : IsMemoryRefusal refusal ⊎ ⊥ → Refuses text refusal
    by (inl memory) = memory_refuses text refusal memory
    by (inr none) = absurd none
tree_refuses text tree (faults.Syntax left) told refusal w e is h = blamed_refuses text told refusal (none_reads text tree (faults.Syntax left) w (λ same. absurd cc) e) (no_forms text tree left w e) is h
tree_refuses text tree (faults.LeftOut left) told refusal w e is h = other_refuses text tree (faults.LeftOut left) refusal w e (λ at apart. absurd cc) (rw is at h)
tree_refuses text tree (faults.Name left) told refusal w e is h = other_refuses text tree (faults.Name left) refusal w e (λ at apart. absurd cc) (rw is at h)
tree_refuses text tree (faults.Limit counted count) told refusal w e is h = other_refuses text tree (faults.Limit counted count) refusal w e (λ at apart. absurd cc) (rw is at h)

-- what is answered where there is no tree
pub text_refuses : (text : List ℕ) (told : Fault) (refusal : ReadRefusal) → ((tree : Tree) → IsTextOf text tree → ⊥) → IsBlamed text told → Told text told refusal → Refuses text refusal
text_refuses text told refusal none blamed h = blamed_refuses text told refusal (λ module_ r. none r.1.0 r.1.1) (λ forms. none forms.0 forms.1) blamed h

-- what is answered to a text that is too long
pub long_refuses : (text : List ℕ) → 4194304 < length text → Refuses text (refusals.Limit what.Bytes (length text))
long_refuses text lt = ((λ module_ r. let le = r.0 in absurd (grind arith)), (tt, (tt, (tt, inl (refl, refl, lt)))))
