-- Many events, one after another.
use Rattle.std.proofs.Common.{◌≡◌, ℕ, ◌<◌, List, [], ◌∷◌, ◌++◌, map, refl, sym, ap, subst, ◌∙◌, append_assoc, append-nil}
use Rattle.ir_meaning.specs.Meaning.{meaning}
use Rattle.rv_play.specs.Good.{Good}
use Rattle.jit_core.specs.declared.event.Event.{Event}
use Rattle.jit_core.specs.declared.event.Event.TheVariants as event
use Rattle.jit_core.specs.declared.state_machine.Core.{Core}
use Rattle.jit_core.specs.Events.{Told}
use Rattle.jit_core.specs.Cores.{Stands, IsEvent, IsSameCore}
use Rattle.jit_core.specs.Simulated.{Makes, MakesAll, event_of}

-- one event more
pub makes_more : (c d e : Core) (told : List Told) (t : Told) → MakesAll c told d → Makes d t e → MakesAll c (told ++ t ∷ []) e
makes_more c d e [] t m s = (e, subst (λ (x : Core). Makes x t e) m s, refl)
makes_more c d e (u ∷ told) t m s = (m.0, m.1, makes_more m.0 d e told t m.2 s)

-- and more events
pub makes_then : (c d e : Core) (told more : List Told) → MakesAll c told d → MakesAll d more e → MakesAll c (told ++ more) e
makes_then c d e [] more m s = subst (λ (x : Core). MakesAll x more e) m s
makes_then c d e (u ∷ told) more m s = (m.0, m.1, makes_then m.0 d e told more m.2 s)

pub events_then : (told more : List Told) → map event_of (told ++ more) ≡ map event_of told ++ map event_of more
events_then [] more = refl
events_then (u ∷ told) more = ap (λ (l : List Event). u.event ∷ l) (events_then told more)

pub same_core : (c : Core) → IsSameCore c c
same_core c = (refl, refl, refl, refl)

pub same_more : (c d e : Core) → IsSameCore c d → IsSameCore d e → IsSameCore c e
same_more c d e s t = (t.0 ∙ s.0, t.1 ∙ s.1, t.2 ∙ s.2, t.3 ∙ s.3)

-- an event that a core can be given it can be given later
pub event_later : (c d : Core) (e : Event) → IsSameCore c d → IsEvent c e → IsEvent d e
event_later c d (event.Hart h) same is = subst (λ (n : ℕ). h < n) (sym same.2) is
event_later c d event.Keeper same is = tt
event_later c d (event.Order v) same is = subst (λ a. (v.symbol < (meaning a.now).functions) × Good (meaning a.now) v.symbol v.words) (sym same.0) is

-- the core stands for all events
pub all_stand_for : (c d : Core) (told : List Told) → MakesAll c told d → (before : List Told) → Stands c before → Stands d (before ++ told)
all_stand_for c d [] m before s = subst (λ (l : List Told). Stands d l) (sym (append-nil before)) (subst (λ (x : Core). Stands x before) (sym m) s)
all_stand_for c d (t ∷ told) m before s = subst (λ (l : List Told). Stands d l) (append_assoc before (t ∷ []) told) (all_stand_for m.0 d told m.2 (before ++ t ∷ []) (m.1.stands before s))
