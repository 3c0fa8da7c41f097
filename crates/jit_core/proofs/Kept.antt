-- Every list of events keeps the code state sound, and passes that ended stay backed.
use Rattle.std.proofs.Common.{◌≡◌, ℕ, List, [], ◌∷◌, ◌<◌, length, sym, subst, arith}
use Rattle.ir_core.specs.Program.{Program}
use Rattle.ir_meaning.specs.declared.calls.Ended.{Ended}
use Rattle.ir_meaning.specs.declared.calls.ListedCall.{ListedCall}
use Rattle.ir_meaning.specs.Memory.{Memory}
use Rattle.ir_meaning.specs.Meaning.{meaning}
use Rattle.ir_meaning.specs.Plays.{Meaning}
use Rattle.ir_meaning.specs.Right.{RightFrom}
use Rattle.rv_play.specs.ListedCalls.{Follows}
use Rattle.code_epochs.specs.declared.parts.HartPart.{HartPart}
use Rattle.code_epochs.specs.declared.parts.Item.{Item}
use Rattle.code_epochs.specs.Sound.{At, Whole, Sound, Backed}
use Rattle.code_epochs.specs.Passes.{items_of}
use Rattle.code_epochs.proofs.Harts.{load_cell_sound, load_word_sound}
use Rattle.code_epochs.proofs.Idle.{load_epoch_sound, announce_sound, go_idle_sound}
use Rattle.code_epochs.proofs.Keeper.{store_header_sound, store_next_sound}
use Rattle.code_epochs.proofs.Swap.{swap_cell_sound}
use Rattle.code_epochs.proofs.Epochs.{raise_epoch_sound, look_sound, clear_header_sound}
use Rattle.code_epochs.proofs.Marked.{marks_are}
use Rattle.code_epochs.proofs.Lists.{at_below}
use Rattle.code_epochs.specs.Steps.{marked_by}
use Rattle.code_epochs.proofs.Good.{good_backed}
use Rattle.hart.specs.declared.hart.Hart as hart
use Rattle.hart.specs.declared.hart.Image.{Image}
use Rattle.hart.specs.Standing.{run_of}
use Rattle.hart.specs.Calls.{EndedOver, origin_of}
use Rattle.hart.specs.Right.{IsListedOn}
use Rattle.hart.proofs.Answering.{right_answers}
use Rattle.jit_core.specs.declared.event.Event.{Event}
use Rattle.jit_core.specs.declared.event.Event.TheVariants.{Hart, Keeper, Order}
use Rattle.jit_core.specs.declared.event.Stepped.{Stepped}
use Rattle.jit_core.specs.declared.event.Stepped.TheVariants.{Moved, Taken, Nothing, Busy, Refused}
use Rattle.jit_core.specs.Events.{HartStep, loads_epoch, announces, loads_cell, loads_word, goes_idle, KeeperStep, stores_header, stores_next, swaps_cell, raises_epoch, looks_at, clears_header, Task, Leads, Told, Runs}

hart-sound : (m : Meaning) (x : Whole) (h : ℕ) (y : Whole) → Sound m x → HartStep x h y → Sound m y
hart-sound m x h _ s (loads_epoch p idle here) = load_epoch_sound m x h p s idle here
hart-sound m x h _ s (announces p idle here) = announce_sound m x h p s idle here
hart-sound m x h _ s (loads_cell p word symbol base active at) = load_cell_sound m x h p word symbol base s active at
hart-sound m x h _ s (loads_word p word place found active at) = load_word_sound m x h p word place found s active at
hart-sound m x h _ s (goes_idle p word active) = go_idle_sound m x h p word s active

keeper-sound : (m : Meaning) (x : Whole) (task : Task) (y : Whole) → Sound m x → KeeperStep m x task y → Sound m y
keeper-sound m x _ _ s (stores_header v base begins) = store_header_sound m x v.symbol v.level base v.words s begins
keeper-sound m x _ _ s (stores_next d word next) = store_next_sound m x d word s next
keeper-sound m x _ _ s (swaps_cell d complete) = swap_cell_sound m x d s complete
keeper-sound m x _ _ s (raises_epoch i v is) = raise_epoch_sound m x i v s is
keeper-sound m x _ _ s (looks_at i v tag passed h found is at) =
    let here = at_below x.announced h found at in
    let few = s.places.1 in
    let small : h < 32 = omega arith in look_sound m x i v tag passed (marked_by tag passed h found) h found s is at (marks_are tag passed h found small)
keeper-sound m x _ _ s (clears_header i v tag passed is all) = clear_header_sound m x i v tag passed s is all

same-sound : (m : Meaning) (x y : Whole) → Sound m x → y ≡ x → Sound m y
same-sound m x y s e = subst (λ (z : Whole). Sound m z) (sym e) s

pub event_sound : (m : Meaning) (x y : Whole) (event : Event) (answer : Stepped) → Sound m x → Leads m x event answer y → Sound m y
event_sound m x y (Hart h) Moved s l = hart-sound m x h y s l
event_sound m x y (Hart h) Taken s l = absurd l
event_sound m x y (Hart h) Nothing s l = same-sound m x y s l
event_sound m x y (Hart h) (Busy v) s l = absurd l
event_sound m x y (Hart h) (Refused v cause) s l = absurd l
event_sound m x y Keeper Moved s l = keeper-sound m x l.0 y s l.1
event_sound m x y Keeper Taken s l = absurd l
event_sound m x y Keeper Nothing s l = same-sound m x y s l
event_sound m x y Keeper (Busy v) s l = absurd l
event_sound m x y Keeper (Refused v cause) s l = absurd l
event_sound m x y (Order v) Moved s l = absurd l
event_sound m x y (Order v) Taken s l = same-sound m x y s l
event_sound m x y (Order v) Nothing s l = absurd l
event_sound m x y (Order v) (Busy w) s l = same-sound m x y s l.1
event_sound m x y (Order v) (Refused w cause) s l = same-sound m x y s l.1

pub runs_sound : (m : Meaning) (x z : Whole) (told : List Told) → Sound m x → Runs m x told z → Sound m z
runs_sound m x z [] s r = same-sound m x z s r
runs_sound m x z (t ∷ told) s r = runs_sound m r.0 z told (event_sound m x r.0 t.event t.answer s r.1) r.2

pub ended_backed : (m : Meaning) (x y : Whole) (told : List Told) (h i : ℕ) (p : HartPart) (pass : List Item) (word : ℕ) → Sound m x → Runs m x told y → At y.harts h p → At y.announced h word → At p.ended i pass → Backed m (length y.code) y.book pass
ended_backed m x y told h i p pass word s r at announced here = ((runs_sound m x y told s r).harts h p word at announced).ended i pass here

pub ended_right : (program : Program) (x y : Whole) (told : List Told) (h i : ℕ) (p : HartPart) (pass : List Item) (word : ℕ) (call : ListedCall) (memory : Memory) (image : Image) (before after : hart.Hart) (counted : List ℕ) (end : Ended)
    → Sound (meaning program) x → Runs (meaning program) x told y → At y.harts h p → At y.announced h word → At p.ended i pass → IsListedOn program call memory image before
    → EndedOver (meaning program) (origin_of before image call (length y.code)) (items_of pass) end after counted
    → RightFrom program call memory end × Follows program call memory (run_of after counted []) call.turns
ended_right program x y told h i p pass word call memory image before after counted end s r at announced here listed over =
    let m = meaning program in
    let sound = runs_sound m x y told s r in
    let backed = (sound.harts h p word at announced).ended i pass here in
    right_answers program call memory image before after (length y.code) (items_of pass) counted end listed (good_backed m (length y.code) y.book pass sound.book.code_size backed) over
