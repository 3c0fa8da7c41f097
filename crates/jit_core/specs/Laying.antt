-- The keeper's steps for a version that is being stored.
use Rattle.std.specs.Prelude.{◌≡◌, ◌⊎◌, ◌+◌, ◌*◌, ◌<◌, ◌≤◌, [], ◌∷◌, ◌++◌, map, length, vec_len, vec_capacity, Some, None}
use Rattle.ir_meaning.specs.Plays.{Meaning}
use Rattle.code_epochs.specs.declared.state.CodeState.{CodeState}
use Rattle.code_epochs.specs.declared.parts.Draft.{Draft}
use Rattle.code_epochs.specs.Sound.{Whole, Sound, IsStateOf, start_of}
use Rattle.code_epochs.specs.Steps.{CanBegin, draft_of, unlinked, linked_of}
use Rattle.jit_core.specs.declared.laying.Laying.{Laying}
use Rattle.jit_core.specs.Events.{KeeperStep, lay_draft}

-- the draft of the version
abbrev pub draft_from : Laying → Draft
draft_from d = draft_of d.version.symbol d.version.level d.base d.version.words d.stored

-- nothing of the version is stored yet, and it may begin; or what is stored of it is the keeper's draft
abbrev pub LaysAs : Meaning → Whole → Laying → Type 0
LaysAs m x d =
    ((d.stored ≡ 0) × CanBegin m x d.version.symbol d.base d.version.words)
    ⊎ ((0 < d.stored) × (x.book.draft ≡ Some (draft_from d)))

-- its range lies in the code, its symbol has a cell, and there is room for one more version
pub record CanLay (d : Laying) (state : CodeState) : Type 0 where
  pub base : d.base ≡ 16777220 + 4 * start_of d.base
  pub range : start_of d.base + length d.version.words < length state.code.items
  pub code : length state.code.items ≤ 4194304
  pub symbol : d.version.symbol < length state.cells.items
  pub room : vec_len state.versions < vec_capacity state.versions
  pub count : length state.versions.items < 1048576

-- the harts and their words, the harts that are gone, the looks and the number of code words are the same
pub record IsFrame (x y : Whole) : Type 0 where
  pub harts : y.harts ≡ x.harts
  pub announced : y.announced ≡ x.announced
  pub code : length y.code ≡ length x.code
  pub gone : y.book.gone ≡ x.book.gone
  pub looks : y.book.looks ≡ x.book.looks

-- One more word of the version is stored, whatever is known beside the state.
abbrev pub Stores : CodeState → CodeState → Laying → Laying → Type 0
Stores old new before after =
    (m : Meaning) (x : Whole) → Sound m x → IsStateOf old x → LaysAs m x before
    → (y : Whole) × KeeperStep m x lay_draft y × Sound m y × IsStateOf new y × LaysAs m y after × IsFrame x y × (y.book.versions ≡ x.book.versions)

-- The version is linked, whatever is known beside the state: the one that its symbol had is unlinked.
abbrev pub Links : CodeState → CodeState → Laying → Type 0
Links old new d =
    (m : Meaning) (x : Whole) → Sound m x → IsStateOf old x → LaysAs m x d
    → (y : Whole) × KeeperStep m x lay_draft y × Sound m y × IsStateOf new y × (y.book.draft ≡ None) × IsFrame x y
    × (y.book.versions ≡ map (unlinked d.version.symbol) x.book.versions ++ linked_of (draft_from d) (length x.book.versions) ∷ [])
