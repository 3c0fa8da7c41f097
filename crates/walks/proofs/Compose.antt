-- Refinement is reflexive and composes.
use Rattle.std.proofs.Common.{refl, ◌∙◌, ℕ, List, [], ◌∷◌, arith}
use Rattle.ir_meaning.specs.Memory.{Memory}
use Rattle.walks.specs.Walk.{Bits, Reply, Entry, End, Calls, Returns, Overflows, Undefined, Play}
use Rattle.walks.specs.Refines.{RefinesBits, AllRefine, RefinesMemory, AllReply, RefinesEntry, RefinesEnd, IsDefined, RefinesPlay}

pub same_bits : (a : Bits) → RefinesBits a a
same_bits a i bit h = h

pub same_all : (a : List Bits) → AllRefine a a
same_all [] = tt
same_all (a ∷ as_) = (same_bits a, same_all as_)

pub same_memory : (m : Memory) → RefinesMemory m m
same_memory m = record { long = refl; bytes = λ i b h. h }

pub same_replies : (limit : ℕ) (rs rs' : List Reply) → AllReply limit rs rs' → AllReply limit rs rs
same_replies limit [] rs' h = tt
same_replies limit (r ∷ rs) [] h = absurd h
same_replies limit (r ∷ rs) (r' ∷ rs') h =
    (record { value = same_bits r.value; memory = same_memory r.memory; room = h.0.room; bytes = h.0.bytes; bytes' = h.0.bytes }, same_replies limit rs rs' h.1)

pub same_entry : (limit : ℕ) (a b : Entry) → RefinesEntry limit a b → RefinesEntry limit a a
same_entry limit a b h = record { args = same_all a.args; memory = same_memory a.memory; room = h.room; bytes = h.bytes; bytes' = h.bytes; sp = refl }

pub same_end : (e : End) → RefinesEnd e e
same_end (Calls symbol args memory) = (refl, same_all args, same_memory memory)
same_end (Returns value memory) = (same_bits value, same_memory memory)
same_end Overflows = tt
same_end Undefined = tt

pub bits_compose : (a b c : Bits) → RefinesBits a b → RefinesBits b c → RefinesBits a c
bits_compose a b c p q i bit h = q i bit (p i bit h)

pub all_compose : (a b c : List Bits) → AllRefine a b → AllRefine b c → AllRefine a c
all_compose [] [] [] p q = tt
all_compose [] [] (c ∷ cs) p q = q
all_compose [] (b ∷ bs) c p q = absurd p
all_compose (a ∷ as_) [] c p q = absurd p
all_compose (a ∷ as_) (b ∷ bs) [] p q = q
all_compose (a ∷ as_) (b ∷ bs) (c ∷ cs) p q = (bits_compose a b c p.0 q.0, all_compose as_ bs cs p.1 q.1)

pub memory_compose : (a b c : Memory) → RefinesMemory a b → RefinesMemory b c → RefinesMemory a c
memory_compose a b c p q = record { long = q.long ∙ p.long; bytes = λ i x h. q.bytes i x (p.bytes i x h) }

pub end_compose : (a b c : End) → IsDefined a → RefinesEnd a b → RefinesEnd b c → RefinesEnd a c
end_compose (Calls s x m) (Calls s' x' m') (Calls s'' x'' m'') d p q = (q.0 ∙ p.0, all_compose x x' x'' p.1 q.1, memory_compose m m' m'' p.2 q.2)
end_compose (Returns v m) (Returns v' m') (Returns v'' m'') d p q = (bits_compose v v' v'' p.0 q.0, memory_compose m m' m'' p.1 q.1)
end_compose Overflows Overflows Overflows d p q = tt
end_compose Undefined b c d p q = tt
end_compose (Calls s x m) (Calls s' x' m') (Returns v'' m'') d p q = q
end_compose (Calls s x m) (Calls s' x' m') Overflows d p q = q
end_compose (Calls s x m) (Calls s' x' m') Undefined d p q = q
end_compose (Calls s x m) (Returns v m') c d p q = absurd p
end_compose (Calls s x m) Overflows c d p q = absurd p
end_compose (Calls s x m) Undefined c d p q = absurd p
end_compose (Returns v m) (Returns v' m') (Calls s x m'') d p q = q
end_compose (Returns v m) (Returns v' m') Overflows d p q = q
end_compose (Returns v m) (Returns v' m') Undefined d p q = q
end_compose (Returns v m) (Calls s x m') c d p q = absurd p
end_compose (Returns v m) Overflows c d p q = absurd p
end_compose (Returns v m) Undefined c d p q = absurd p
end_compose Overflows Overflows (Calls s x m) d p q = q
end_compose Overflows Overflows (Returns v m) d p q = q
end_compose Overflows Overflows Undefined d p q = q
end_compose Overflows (Calls s x m) c d p q = absurd p
end_compose Overflows (Returns v m) c d p q = absurd p
end_compose Overflows Undefined c d p q = absurd p

pub defined_too : (a b : End) → IsDefined a → RefinesEnd a b → IsDefined b
defined_too (Calls s x m) (Calls s' x' m') d p = tt
defined_too (Returns v m) (Returns v' m') d p = tt
defined_too Overflows Overflows d p = tt
defined_too Undefined b d p = absurd d
defined_too (Calls s x m) Undefined d p = absurd p
defined_too (Returns v m) Undefined d p = absurd p
defined_too Overflows Undefined d p = absurd p
defined_too (Calls s x m) (Returns v m') d p = tt
defined_too (Calls s x m) Overflows d p = tt
defined_too (Returns v m) (Calls s x m') d p = tt
defined_too (Returns v m) Overflows d p = tt
defined_too Overflows (Calls s x m) d p = tt
defined_too Overflows (Returns v m) d p = tt

-- g refines f, and h refines g
pub compose : (limit : ℕ) (f g h : Play) → RefinesPlay limit f g → RefinesPlay limit g h → RefinesPlay limit f h
compose limit f g h p q = record {
  ends = λ a b rs rs' e w j entry replies d x.
      let r = p.ends a a rs rs e w j (same_entry limit a b entry) (same_replies limit rs rs' replies) d x in
      let r' = q.ends a b rs rs' r.0 r.1 r.2 entry replies (defined_too e r.0 d r.4) r.3 in
      let low = r.5 in let low' = r'.5 in
      (r'.0, r'.1, r'.2, r'.3, end_compose e r.0 r'.0 d r.4 r'.4, omega (arith, low, low'));
  ended = λ a b rs rs' e' w' j' entry replies x.
      let r' = q.ended a b rs rs' e' w' j' entry replies x in
      let r = p.ended a a rs rs r'.0 r'.1 r'.2 (same_entry limit a b entry) (same_replies limit rs rs' replies) r'.3 in
      let low = r.4 in let low' = r'.4 in
      (r.0, r.1, r.2, r.3, omega (arith, low, low'));
}
