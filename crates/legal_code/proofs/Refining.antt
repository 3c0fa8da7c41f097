-- The legal form of a function refines it.
use Rattle.std.proofs.Common.{◌≡◌, refl, sym, ap, subst, ◌∙◌, ℕ, zero, suc, ◌+◌, ◌*◌, ◌/◌, ◌-◌, ◌^◌, ◌<◌, ◌≤◌, Bool, true, false, List, [], ◌∷◌, ◌++◌, length, map, take, Option, Some, None, arith}
use Rattle.std.specs.Prelude.{if◌then◌else◌, ◌==◌, nat_le, nat_lt, slice_get, slice_index_or, sum_by, replicate}
use Rattle.std.proofs.lemmas.Bool.{ne_eqb}
use Rattle.std.proofs.lemmas.Nat.{mul-le}
use Rattle.std.proofs.lemmas.List.Sums.{sum_by-cons, sum_by-append}
use Rattle.gmir.specs.declared.code.GType.TheVariants.{P0}
use Rattle.gmir.specs.declared.code.GOp.{GOp}
use Rattle.gmir.specs.declared.code.GOp.TheVariants.{UDiv, SDiv, URem, SRem, ZExt, SExt, Phi, Load, Store, Br, BrCond, Param, Call, Return, TakeData, CopyBytes, FillBytes}
use Rattle.gmir.specs.declared.code.GInst.{GInst}
use Rattle.gmir.specs.declared.code.GFunction.{GFunction}
use Rattle.ir_meaning.specs.Memory.{Memory, top, is_inside, bytes_at, data_start}
use Rattle.ir_meaning.specs.Step.{stack_start}
use Rattle.rj_num.specs.Width.{is_negative}
use Rattle.walks.specs.Walk.{Bits, Reply, Entry, Does, Goes, Asks, Gives, Wants, Breaks, Step}
use Rattle.walks.specs.Refines.{RefinesBits, AllRefine, RefinesMemory, RefinesReply, RefinesEntry}
use Rattle.walks.specs.Bits.{free, cut, constant, number, and_bit, bitwise, zero_extended, sign_extended}
use Rattle.walks.specs.Bytes.{bits_of_bytes, bytes_of_bits}
use Rattle.walks.specs.Simulation.{Chain, here, Follows, moves, asks, gives, wants, breaks, Simulation}
use Rattle.walks.specs.Registers.{Registers, read, put, RegsAgree}
use Rattle.walks.specs.Face.{frame_of}
use Rattle.walks.proofs.Registers.{read_agrees, args_agree, put_agrees, item_agrees}
use Rattle.walks.proofs.Monotone.{Keeps, keeps_number, cut_mono, zero_mono, sign_mono, bitwise_mono, keeps_and}
use Rattle.walks.proofs.Bytes.{bits_mono, stored_mono, append_mono, take_mono, read_mono, written_mono, MemoryKept, copied_mono, set_mono}
use Rattle.walks.proofs.Compose.{bits_compose, same_memory}
use Rattle.walks.proofs.Faces.{simulated_face}
use Rattle.gmir.specs.Play.{width_of, width, def_at, use_at, is_full, Kind, Computes, Divides, Other, kind, value, op_weight, is_legal, weight, State, insts_at, is_phi, phis, behind_phis, on_edge, with_phis, jumped, phi_weights, plain, give, operand, result, divided, take_edge, branch, at_address, change, moved, load_at, store_at, grown, behind_call, returned, other, by_kind, step_at, step, first, enter, walk}
use Rattle.gmir.specs.Formed.{HasForm, AllExist, IsFormed}
use Rattle.gmir.specs.Refines.{static_of, static_of_block, static_weight, face}
use Rattle.gmir.proofs.Lock.{Agree}
use Rattle.gmir.proofs.Values.{value_mono}
use Rattle.legal_code.specs.Legal.{Anything, Zeros, Signs, above, Extension, Kept, ByZeros, BySigns, by_type, Form, Same, Masks, Extends, Copies, form, before, last, before_by, last_by, spent, legal_insts, legal_blocks, legalized, operands, HasWideAddresses, spent_blocks, spent_insts}
use Rattle.legal_code.specs.Laws.{LegalFormsRefine}
use Rattle.legal_code.proofs.Numbers.{power_low}
use Rattle.legal_code.proofs.Values.{wide, by_zeros, by_signs, zeros_number, signs_number, cut_widens, sign_widens, cut_twice, zeros_masked}
use Rattle.legal_code.proofs.Widens.{type_of, type_at, HasWidths, widths_at, widths_of, widens, are_two}
use Rattle.legal_code.proofs.Work.{ran, AllCompute, weights, works, Worked, AllBelow, all_compute, all_kept, all_extended, none_extended}
use Rattle.legal_code.proofs.Weights.{legal_weight, inst_light, masks_zext, extends_sext, IsCopied, trunc, any, copied_op}
use Rattle.legal_code.proofs.Registers.{whole_at}
use Rattle.legal_code.proofs.Blocks.{phi_stays, last_phi, legal_behind, legal_at, before_works, AllWork, works_no_phi}
use Rattle.legal_code.proofs.Sound.{Sound, AllSound, alive, reads_alive, alive_below, exist_below, edge_exists, phis_sound, behind_sound, block_sound}

-- an instruction that reads as many registers as it likes
abbrev IsListed : GOp → Type 0
IsListed Call = Unit {0}
IsListed Return = Unit {0}
IsListed Phi = Unit {0}
IsListed _ = ⊥

listed_form : (op : GOp) → IsListed op → form op ≡ Same
listed_form Call h = refl
listed_form Return h = refl
listed_form Phi h = refl
listed_form _ h = absurd h

listed_free : (op : GOp) → IsListed op → (n k : ℕ) → above op n k ≡ Anything
listed_free Call h n k = refl
listed_free Return h n k = refl
listed_free Phi h n k = refl
listed_free _ h n k = absurd h

divides_same : (op : GOp) → kind op ≡ Divides → form op ≡ Same
divides_same UDiv e = refl
divides_same SDiv e = refl
divides_same URem e = refl
divides_same SRem e = refl
divides_same _ e = absurd (let bad : ⊥ = cc in bad)

module _ (f : GFunction) (formed : IsFormed f) (wide_ : HasWideAddresses f) where
  abbrev h : GFunction
  h = legalized f

  abbrev bound : ℕ
  bound = length f.types

  full : (r : ℕ) → width h.types r ≡ 64
  full r = (whole_at f.types (spent_blocks f.types f.blocks) r).0

  wholly : (r : ℕ) → is_full (slice_index_or h.types r P0) ≡ true
  wholly r = (whole_at f.types (spent_blocks f.types f.blocks) r).1

  widths : HasWidths f.types
  widths = formed.widths

  small : (r : ℕ) → width f.types r ≤ 64
  small r = (widths_at f.types widths r).1

  -- ---- the relation of states

  record Rests (r r' : List GInst) : Type 0 where
    next : ℕ
    low : bound ≤ next
    is : r' ≡ legal_insts f.types next r
    sound : AllSound f r

  record Alike (s s' : State) : Type 0 where
    agree : Agree (alive f) s s'
    rests : Rests s.rest s'.rest

  abbrev Fol : Step State → Step State → Type 0
  Fol = Follows f.end State State (step h) Alike (λ s. 0) 0

  abbrev Ch : Step State → Step State → ℕ → Type 0
  Ch st st' w = Chain State (step h) st st' w 0

  -- what is cut at a register's width
  cut_wider : (r x : ℕ) (a a' : Bits) → RefinesBits a a' → RefinesBits (cut (width f.types r) a) (cut (width h.types x) a')
  cut_wider r x a a' p =
      rw (full x) (bits_compose (cut (width f.types r) a) (cut (width f.types r) a') (cut 64 a') (cut_mono (width f.types r) a a' p) (cut_widens (width f.types r) a' (small r)))

  -- ---- edges

  edge_agrees : (from : ℕ) (before before' : Registers) → RegsAgree (alive f) before before' → (bs rs : List ℕ) → AllExist f rs
      → RefinesBits (read before (on_edge from bs rs)) (read before' (on_edge from bs rs))
  edge_agrees from before before' agree bs rs exist = by (on_edge from bs rs) refl
    where
      by : (o : Option ℕ) → on_edge from bs rs ≡ o → RefinesBits (read before o) (read before' o)
      by None e = λ i b z. z
      by (Some r) e = agree r (let l = edge_exists f from bs rs exist r e in grind arith)

  phis_agree : (from : ℕ) (before before' : Registers) → RegsAgree (alive f) before before' → (is : List GInst) → AllSound f is → (regs regs' : Registers) → RegsAgree (alive f) regs regs'
      → RegsAgree (alive f) (with_phis f.types from before is regs) (with_phis h.types from before' is regs')
  phis_agree from before before' agree [] sound regs regs' k = k
  phis_agree from before before' agree (i ∷ is) sound regs regs' k =
      phis_agree from before before' agree is sound.1 _ _
      (put_agrees (alive f) regs regs' i.defs _ _ k
      (cut_wider (def_at i 0) (def_at i 0) (read before (on_edge from i.to i.uses)) (read before' (on_edge from i.to i.uses)) (edge_agrees from before before' agree i.to i.uses sound.0.uses)))

  weight_less : (i : GInst) → weight h.types i ≤ weight f.types i
  weight_less i = let own = legal_weight f h wholly i in let most = by i.op (is_legal f.types i) in omega (arith, own, most)
    where
      lighter : (op : GOp) (n : ℕ) → op_weight op true n ≤ op_weight op false n
      lighter Call n = omega arith
      lighter _ n = omega arith

      by : (op : GOp) (b : Bool) → op_weight op true (length i.uses) ≤ op_weight op b (length i.uses)
      by op true = omega arith
      by op false = lighter op (length i.uses)

  sums_less : (is : List GInst) → sum_by (weight h.types) is ≤ sum_by (weight f.types) is
  sums_less [] = omega arith
  sums_less (i ∷ is) =
      let one = weight_less i in let rest = sums_less is in
      let left = sum_by-cons (weight h.types) i is in let right = sum_by-cons (weight f.types) i is in omega (arith, one, rest, left, right)

  module _ (to : ℕ) where
    at_block : (n : ℕ) × (bound ≤ n) × (insts_at h to ≡ legal_insts f.types n (insts_at f to)) × (n + spent_insts f.types (insts_at f to) ≤ bound + spent_blocks f.types f.blocks)
    at_block = legal_at f.types bound f.blocks to

    same_phis : phis (insts_at h to) ≡ phis (insts_at f to)
    same_phis = ap phis at_block.2 ∙ (legal_behind f.types at_block.0 (insts_at f to)).phis'

    edge_rests : Rests (behind_phis (insts_at f to)) (behind_phis (insts_at h to))
    edge_rests =
        let b = legal_behind f.types at_block.0 (insts_at f to) in
        let l = at_block.1 in let m = b.low in
        record { next = b.from; low = omega (arith, l, m); is = ap behind_phis at_block.2 ∙ b.behind; sound = behind_sound f (insts_at f to) (block_sound f formed wide_ to) }

    edge_regs : (from : ℕ) (before before' regs regs' : Registers) → RegsAgree (alive f) before before' → RegsAgree (alive f) regs regs'
        → RegsAgree (alive f) (with_phis f.types from before (phis (insts_at f to)) regs) (with_phis h.types from before' (phis (insts_at h to)) regs')
    edge_regs from before before' regs regs' p q =
        subst (λ is. RegsAgree (alive f) (with_phis f.types from before (phis (insts_at f to)) regs) (with_phis h.types from before' is regs')) (sym same_phis)
        (phis_agree from before before' p (phis (insts_at f to)) (phis_sound f (insts_at f to) (block_sound f formed wide_ to)) regs regs' q)

    edge_weights : phi_weights h to ≤ phi_weights f to
    edge_weights = let same = ap (sum_by (weight h.types)) same_phis in let less = sums_less (phis (insts_at f to)) in omega (arith, same, less)

  -- ---- the instruction itself, behind those that extend its operands
  module _ (s t : State) (i j : GInst) (r tail : List GInst) (st' : Step State) (w : ℕ) (chain : Ch st' (by_kind h t j tail (kind j.op)) w) (agree : Agree (alive f) s t)
      (rests : Rests r tail) (defs : j.defs ≡ i.defs) (light : w + weight h.types j ≤ weight f.types i) (sound : Sound f i) where
    abbrev Is : Step State → Type 0
    Is st = by_kind h t j tail (kind j.op) ≡ st

    goes_on : (regs regs' : Registers) (memory memory' : Memory) → RegsAgree (alive f) regs regs' → RefinesMemory memory memory'
        → Is (plain h t j tail (Goes (record t { rest = tail; regs = regs'; memory = memory' })))
        → Fol (plain f s i r (Goes (record s { rest = r; regs = regs; memory = memory }))) st'
    goes_on regs regs' memory memory' p q e =
        moves (record s { rest = r; regs = regs; memory = memory }) (record t { rest = tail; regs = regs'; memory = memory' }) refl (subst (λ st. Ch st' st w) e chain) refl
        (record { agree = record { args = agree.args; base = agree.base; block = agree.block; regs = p; memory = q }; rests = rests }) (omega (arith, light)) (omega arith)

    puts : (a a' : Bits) → RefinesBits a a' → RegsAgree (alive f) (put s.regs i.defs a) (put t.regs j.defs a')
    puts a a' p = subst (λ ds. RegsAgree (alive f) (put s.regs i.defs a) (put t.regs ds a')) (sym defs) (put_agrees (alive f) s.regs t.regs i.defs a a' agree.regs p)

    gives_value : (a a' : Bits) → RefinesBits a a' → Is (plain h t j tail (give h t j tail a')) → Fol (plain f s i r (give f s i r a)) st'
    gives_value a a' p e = goes_on (put s.regs i.defs a) (put t.regs j.defs a') s.memory t.memory (puts a a' p) agree.memory e

    edge : (to : ℕ) → Is (take_edge h t j tail to) → Fol (take_edge f s i r to) st'
    edge to e =
        let less = edge_weights to in
        moves (jumped f s to) (jumped h t to) refl (subst (λ st. Ch st' st w) e chain) refl
        (record {
          agree = record {
            args = agree.args;
            base = agree.base;
            block = refl;
            regs = subst (λ (b : ℕ). RegsAgree (alive f) (with_phis f.types s.block s.regs (phis (insts_at f to)) s.regs) (with_phis h.types b t.regs (phis (insts_at h to)) t.regs)) (sym agree.block)
                (edge_regs to s.block s.regs t.regs s.regs t.regs agree.regs agree.regs);
            memory = agree.memory;
          };
          rests = edge_rests to;
        }) (omega (arith, light, less)) (omega arith)

    branches : (o o' : Option Bool) → Keeps o o' → slice_index_or i.to 0 0 ≡ slice_index_or j.to 0 0 → slice_index_or i.to 1 0 ≡ slice_index_or j.to 1 0
        → Is (branch h t j tail o') → Fol (branch f s i r o) st'
    branches None o' k p q e = breaks refl refl
    branches (Some true) o' k p q e =
        edge (slice_index_or i.to 0 0) (e ∙ ap (branch h t j tail) (k true refl) ∙ ap (take_edge h t j tail) (sym p))
    branches (Some false) o' k p q e =
        edge (slice_index_or i.to 1 0) (e ∙ ap (branch h t j tail) (k false refl) ∙ ap (take_edge h t j tail) (sym q))

    inside_same : (a n : ℕ) → is_inside t.memory a n ≡ is_inside s.memory a n
    inside_same a n = rw agree.memory.long refl

    addressed : (o o' : Option ℕ) (n : ℕ) (go go' : ℕ → Does State) → Keeps o o' → Is (plain h t j tail (at_address h t j tail o' n go'))
        → ((a : ℕ) → Is (plain h t j tail (go' a)) → Fol (plain f s i r (go a)) st') → Fol (plain f s i r (at_address f s i r o n go)) st'
    addressed None o' n go go' k e on = breaks refl refl
    addressed (Some a) o' n go go' k e on = by (is_inside s.memory a n) refl
      where
        by : (b : Bool) → is_inside s.memory a n ≡ b → Fol (plain f s i r (if b then go a else Breaks)) st'
        by false z = breaks refl refl
        by true z = on a (e ∙ ap (λ q. plain h t j tail (at_address h t j tail q n go')) (k a refl) ∙ ap (λ b. plain h t j tail (if b then go' a else Breaks)) (inside_same a n ∙ z))

    changes : (memory memory' : Memory) → RefinesMemory memory memory' → Is (plain h t j tail (change h t j tail memory')) → Fol (plain f s i r (change f s i r memory)) st'
    changes memory memory' q e = goes_on s.regs t.regs memory memory' agree.regs q e

    moved_after : (n : ℕ) (after : Memory) (o' : Option Memory) → (after' : Memory) × (o' ≡ Some after') × RefinesMemory after after' → Is (moved h t j tail (Some n) o')
        → Fol (moved f s i r (Some n) (Some after)) st'
    moved_after n after o' (after', q, k) e =
        moves (record s { rest = r; memory = after }) (record t { rest = tail; memory = after' }) refl (subst (λ st. Ch st' st w) (e ∙ ap (moved h t j tail (Some n)) q) chain) refl
        (record { agree = record { args = agree.args; base = agree.base; block = agree.block; regs = agree.regs; memory = k }; rests = rests }) (omega (arith, light)) (omega arith)

    moved_both : (n n' : Option ℕ) (after after' : Option Memory) → Keeps n n' → MemoryKept after after' → Is (moved h t j tail n' after') → Fol (moved f s i r n after) st'
    moved_both None n' after after' k q e = breaks refl refl
    moved_both (Some n) n' None after' k q e = breaks refl refl
    moved_both (Some n) n' (Some after) after' k q e = moved_after n after after' (q after refl) (e ∙ ap (λ z. moved h t j tail z after') (k n refl))

    grows : (n : ℕ) → Is (plain h t j tail (grown h t j tail n)) → Fol (plain f s i r (grown f s i r n)) st'
    grows n e = by (nat_le (top s.memory + n) f.end) refl
      where
        test : nat_le (top t.memory + n) f.end ≡ nat_le (top s.memory + n) f.end
        test = ap (λ (l : ℕ). nat_le (data_start + l + n) f.end) agree.memory.long

        gone : Does State
        gone = Goes (record t { rest = tail; memory = t.memory ++ replicate n None; regs = put t.regs j.defs (constant 64 (top t.memory)) })

        by : (b : Bool) → nat_le (top s.memory + n) f.end ≡ b
            → Fol (plain f s i r (if b then Goes (record s { rest = r; memory = s.memory ++ replicate n None; regs = put s.regs i.defs (constant 64 (top s.memory)) }) else Wants)) st'
        by true z =
            goes_on (put s.regs i.defs (constant 64 (top s.memory))) (put t.regs j.defs (constant 64 (top t.memory))) (s.memory ++ replicate n None) (t.memory ++ replicate n None)
            (subst (λ (l : ℕ). RegsAgree (alive f) (put s.regs i.defs (constant 64 (top s.memory))) (put t.regs j.defs (constant 64 (data_start + l)))) (sym agree.memory.long)
            (puts (constant 64 (top s.memory)) (constant 64 (top s.memory)) (λ x y k. k)))
            (append_mono s.memory t.memory (replicate n None) (replicate n None) agree.memory (same_memory (replicate n None)))
            (e ∙ ap (λ b. plain h t j tail (if b then Goes (record t { rest = tail; memory = t.memory ++ replicate n None; regs = put t.regs j.defs (constant 64 (top t.memory)) }) else Wants)) (test ∙ z))
        by false z =
            wants refl (subst (λ st. Ch st' st w) (e ∙ ap (λ b. plain h t j tail (if b then Goes (record t { rest = tail; memory = t.memory ++ replicate n None; regs = put t.regs j.defs (constant 64 (top t.memory)) }) else Wants)) (test ∙ z)) chain)
            refl (omega (arith, light)) (omega arith)

    behind : (q q' : Reply) → RefinesReply f.end q q' → Alike (behind_call f s i r q) (behind_call h t j tail q')
    behind q q' k = record {
      agree = record {
        args = agree.args;
        base = agree.base;
        block = agree.block;
        regs = puts (cut (width f.types (def_at i 0)) q.value) (cut (width h.types (def_at j 0)) q'.value) (cut_wider (def_at i 0) (def_at j 0) q.value q'.value k.value);
        memory = k.memory;
      };
      rests = rests;
    }

    returned_agrees : (rs : List ℕ) → AllExist f rs → RefinesBits (returned f s i r rs) (returned h t j tail rs)
    returned_agrees [] exist = λ x z e. e
    returned_agrees (x ∷ xs) exist = agree.regs x (let l = exist.0 in grind arith)

    calls : (to : ℕ) → j.uses ≡ i.uses → Is (plain h t j tail (Asks to (map (λ x. t.regs x) j.uses) t.memory (behind_call h t j tail)))
        → Fol (plain f s i r (Asks to (map (λ x. s.regs x) i.uses) s.memory (behind_call f s i r))) st'
    calls to same e =
        asks to (map (λ x. s.regs x) i.uses) (map (λ x. t.regs x) j.uses) s.memory t.memory (behind_call f s i r) (behind_call h t j tail) refl (subst (λ st. Ch st' st w) e chain) refl
        (subst (λ us. AllRefine (map (λ x. s.regs x) i.uses) (map (λ x. t.regs x) us)) (sym same) (args_agree (alive f) s.regs t.regs agree.regs i.uses (reads_alive f i.uses sound.uses)))
        agree.memory behind (omega (arith, light)) (omega arith)

    returns : j.uses ≡ i.uses → Is (plain h t j tail (Gives (returned h t j tail j.uses) (take t.base_length t.memory)))
        → Fol (plain f s i r (Gives (returned f s i r i.uses) (take s.base_length s.memory))) st'
    returns same e =
        gives (returned f s i r i.uses) (returned h t j tail j.uses) (take s.base_length s.memory) (take t.base_length t.memory) refl (subst (λ st. Ch st' st w) e chain) refl
        (subst (λ us. RefinesBits (returned f s i r i.uses) (returned h t j tail us)) (sym same) (returned_agrees i.uses sound.uses))
        (subst (λ (n : ℕ). RefinesMemory (take s.base_length s.memory) (take n t.memory)) (sym agree.base) (take_mono s.base_length s.memory t.memory agree.memory))
        (omega (arith, light)) (omega arith)

  module _ (i : GInst) (same : width f.types (use_at i 1) ≡ width_of (type_at f i 1)) (b : Bits) (n : ℕ) (e : number (width f.types (use_at i 1)) b ≡ Some (suc n)) where
    known : number (width_of (type_at f i 1)) b ≡ Some (suc n)
    known = ap (λ z. number z b) (sym same) ∙ e

    is_width : (1 ≤ width_of (type_at f i 1)) × (width_of (type_at f i 1) ≤ 64)
    is_width = widths_of f.types widths (slice_get i.uses 1)

    unsigned : (m : ℕ) × (number 64 (wide (by_type Zeros (type_at f i 1)) b) ≡ Some (suc m))
    unsigned = (n, zeros_number (width_of (type_at f i 1)) b _ is_width.1 (by_zeros (type_at f i 1) is_width.1 b) (suc n) known)

    not_zero : (t : Bool) (v : ℕ) → v ≤ 64 → (m : ℕ) × ((if t then (suc n + 2 ^ 64) - 2 ^ v else suc n) ≡ suc m)
    not_zero true v l = let p = power_low v 64 l in ((n + 2 ^ 64) - 2 ^ v, omega (arith, p))
    not_zero false v l = (n, refl)

    signed_ : (m : ℕ) × (number 64 (wide (by_type Signs (type_at f i 1)) b) ≡ Some (suc m))
    signed_ =
        let some = not_zero (is_negative (width_of (type_at f i 1)) (suc n)) (width_of (type_at f i 1)) is_width.1 in
        (some.0, signs_number (width_of (type_at f i 1)) b _ is_width.0 is_width.1 (by_signs (type_at f i 1) is_width.1 b) (suc n) known ∙ ap Some some.1)

  -- the operation in its own form, with other operands
  module _ (s t : State) (i : GInst) (us : List ℕ) (r tail : List GInst) (st' : Step State) (w : ℕ) (chain : Ch st' (by_kind h t (record i { uses = us }) tail (kind i.op)) w) (agree : Agree (alive f) s t)
      (rests : Rests r tail) (light : w + weight h.types (record i { uses = us }) ≤ weight f.types i) (sound : Sound f i) where
    abbrev j : GInst
    j = record i { uses = us }

    -- each operand stands extended as this operation asks
    abbrev Ready : GOp → Type 0
    Ready op = (k : ℕ) → RefinesBits (wide (by_type (above op i.num k) (type_at f i k)) (operand f s i r k)) (operand h t j tail k)

    abbrev IsDone : Step State → Type 0
    IsDone st = by_kind h t j tail (kind i.op) ≡ st

    result_refines : Ready i.op → (kind i.op ≡ Other → ⊥) → form i.op ≡ Same → RefinesBits (result f s i r) (result h t j tail)
    result_refines ready kind_is form_is =
        rw (full (def_at j 0), full (use_at j 0), full (use_at j 1))
        (bits_compose _ _ _
        (widens f i widths i.op sound.form_is kind_is form_is sound.address (operand f s i r 0) (operand f s i r 1) (operand f s i r 2))
        (value_mono i.op 64 64 64 i.num _ (operand h t j tail 0) _ (operand h t j tail 1) _ (operand h t j tail 2) (ready 0) (ready 1) (ready 2)))

    -- a divisor that is known and not 0 is so where it is extended
    divisor : (op : GOp) → HasForm f i op → kind op ≡ Divides → (b : Bits) (n : ℕ) → number (width f.types (use_at i 1)) b ≡ Some (suc n)
        → (m : ℕ) × (number 64 (wide (by_type (above op i.num 1) (type_at f i 1)) b) ≡ Some (suc m))
    divisor UDiv form_is k b n e = unsigned i (are_two f i form_is).second_use b n e
    divisor URem form_is k b n e = unsigned i (are_two f i form_is).second_use b n e
    divisor SDiv form_is k b n e = signed_ i (are_two f i form_is).second_use b n e
    divisor SRem form_is k b n e = signed_ i (are_two f i form_is).second_use b n e
    divisor _ form_is k b n e = absurd (let bad : ⊥ = cc in bad)

    by_divisor : Ready i.op → kind i.op ≡ Divides → (o : Option ℕ) → number (width f.types (use_at i 1)) (operand f s i r 1) ≡ o
        → IsDone (plain h t j tail (divided h t j tail (number (width h.types (use_at j 1)) (operand h t j tail 1)))) → Fol (plain f s i r (divided f s i r o)) st'
    by_divisor ready k None e is = breaks refl refl
    by_divisor ready k (Some zero) e is = breaks refl refl
    by_divisor ready k (Some (suc n)) e is =
        let d = divisor i.op sound.form_is k (operand f s i r 1) n e in
        gives_value s t i j r tail st' w chain agree rests refl light sound (result f s i r) (result h t j tail) (result_refines ready (λ z. absurd (let bad : ⊥ = cc in bad)) (divides_same i.op k))
        (is ∙ ap (λ z. plain h t j tail (divided h t j tail (number z (operand h t j tail 1)))) (full (use_at j 1))
        ∙ ap (λ z. plain h t j tail (divided h t j tail z)) (keeps_number 64 _ (operand h t j tail 1) (ready 1) (suc d.0) d.1))

    address_kept : (k : ℕ) → RefinesBits (operand f s i r k) (operand h t j tail k) → Keeps (number 64 (operand f s i r k)) (number 64 (operand h t j tail k))
    address_kept k p = keeps_number 64 (operand f s i r k) (operand h t j tail k) p

    -- the number of bytes
    count_kept : (op : GOp) → above op i.num 2 ≡ Zeros → width f.types (use_at i 2) ≡ width_of (type_at f i 2) → Ready op
        → Keeps (number (width f.types (use_at i 2)) (operand f s i r 2)) (number (width h.types (use_at j 2)) (operand h t j tail 2))
    count_kept op asks_ same ready n e =
        rw (full (use_at j 2))
        (keeps_number 64 _ (operand h t j tail 2) (ready 2) n
        (ap (λ x. number 64 (wide (by_type x (type_at f i 2)) (operand f s i r 2))) asks_
        ∙ zeros_number (width_of (type_at f i 2)) (operand f s i r 2) _ (widths_of f.types widths (slice_get i.uses 2)).1 (by_zeros (type_at f i 2) (widths_of f.types widths (slice_get i.uses 2)).1 (operand f s i r 2)) n
        (ap (λ z. number z (operand f s i r 2)) (sym same) ∙ e)))

    third : (a b c : ℕ) → i.uses ≡ a ∷ b ∷ c ∷ [] → width f.types (use_at i 2) ≡ width_of (type_at f i 2)
    third a b c e = ap (λ (xs : List ℕ). width f.types (slice_index_or xs 2 0)) e ∙ sym (ap (λ (xs : List ℕ). width_of (type_of f.types (slice_get xs 2))) e)

    others : (op : GOp) → HasForm f i op → Ready op → (IsListed op → us ≡ i.uses) → IsDone (other h t j tail op) → Fol (other f s i r op) st'
    others Load form_is ready same e =
        addressed s t i j r tail st' w chain agree rests refl light sound (number 64 (operand f s i r 0)) (number 64 (operand h t j tail 0)) (i.num / 8) (load_at f s i r) (load_at h t j tail) (address_kept 0 (ready 0)) e
        (λ a is. gives_value s t i j r tail st' w chain agree rests refl light sound _ _
        (cut_wider (def_at i 0) (def_at j 0) (bits_of_bytes (bytes_at s.memory a (i.num / 8))) (bits_of_bytes (bytes_at t.memory a (i.num / 8)))
        (bits_mono (bytes_at s.memory a (i.num / 8)) (bytes_at t.memory a (i.num / 8)) (read_mono s.memory t.memory a (i.num / 8) agree.memory))) is)
    others Store form_is ready same e =
        addressed s t i j r tail st' w chain agree rests refl light sound (number 64 (operand f s i r 1)) (number 64 (operand h t j tail 1)) (i.num / 8) (store_at f s i r) (store_at h t j tail) (address_kept 1 (ready 1)) e
        (λ a is. changes s t i j r tail st' w chain agree rests refl light sound _ _
        (written_mono s.memory t.memory a (bytes_of_bits (i.num / 8) (operand f s i r 0)) (bytes_of_bits (i.num / 8) (operand h t j tail 0)) agree.memory
        (stored_mono (i.num / 8) (operand f s i r 0) (operand h t j tail 0) (ready 0))) is)
    others Br form_is ready same e = edge s t i j r tail st' w chain agree rests refl light sound (slice_index_or i.to 0 0) e
    others BrCond form_is ready same e = branches s t i j r tail st' w chain agree rests refl light sound (operand f s i r 0 0) (operand h t j tail 0 0) (ready 0 0) refl refl e
    others Param form_is ready same e =
        gives_value s t i j r tail st' w chain agree rests refl light sound _ _ (cut_wider (def_at i 0) (def_at j 0) (slice_index_or s.args i.num free) (slice_index_or t.args i.num free) (item_agrees s.args t.args agree.args i.num)) e
    others Call form_is ready same e = calls s t i j r tail st' w chain agree rests refl light sound (slice_index_or i.to 0 0) (same tt) e
    others Return form_is ready same e = returns s t i j r tail st' w chain agree rests refl light sound (same tt) e
    others TakeData form_is ready same e = grows s t i j r tail st' w chain agree rests refl light sound i.num e
    others CopyBytes (x, y, z, defs, uses, p, q, k) ready same e =
        let count = count_kept CopyBytes refl (third x y z uses) ready in
        moved_both s t i j r tail st' w chain agree rests refl light sound (number (width f.types (use_at i 2)) (operand f s i r 2)) (number (width h.types (use_at j 2)) (operand h t j tail 2)) _ _ count
        (copied_mono (λ to from count. true) s.memory t.memory (number 64 (operand f s i r 0)) (number 64 (operand h t j tail 0)) (number 64 (operand f s i r 1)) (number 64 (operand h t j tail 1))
        (number (width f.types (use_at i 2)) (operand f s i r 2)) (number (width h.types (use_at j 2)) (operand h t j tail 2)) agree.memory
        (address_kept 0 (ready 0)) (address_kept 1 (ready 1)) count) e
    others FillBytes (x, y, z, v, defs, uses, p, q, le, k) ready same e =
        let count = count_kept FillBytes refl (third x y z uses) ready in
        moved_both s t i j r tail st' w chain agree rests refl light sound (number (width f.types (use_at i 2)) (operand f s i r 2)) (number (width h.types (use_at j 2)) (operand h t j tail 2)) _ _ count
        (set_mono s.memory t.memory (number 64 (operand f s i r 0)) (number 64 (operand h t j tail 0)) (number 8 (operand f s i r 1)) (number 8 (operand h t j tail 1))
        (number (width f.types (use_at i 2)) (operand f s i r 2)) (number (width h.types (use_at j 2)) (operand h t j tail 2)) agree.memory
        (address_kept 0 (ready 0)) (keeps_number 8 (operand f s i r 1) (operand h t j tail 1) (ready 1)) count) e
    others _ form_is ready same e = breaks refl refl

    same_step : form i.op ≡ Same → Ready i.op → (IsListed i.op → us ≡ i.uses) → (k : Kind) → kind i.op ≡ k → Fol (by_kind f s i r k) st'
    same_step form_is ready same Computes e =
        gives_value s t i j r tail st' w chain agree rests refl light sound (result f s i r) (result h t j tail) (result_refines ready (λ z. absurd (let bad : ⊥ = cc in bad)) form_is) (ap (by_kind h t j tail) e)
    same_step form_is ready same Divides e =
        by_divisor ready e (number (width f.types (use_at i 1)) (operand f s i r 1)) refl (ap (by_kind h t j tail) e)
    same_step form_is ready same Other e = others i.op sound.form_is ready same (ap (by_kind h t j tail) e)

  wide_mono : (e : Extension) (a a' : Bits) → RefinesBits a a' → RefinesBits (wide e a) (wide e a')
  wide_mono Kept a a' p = p
  wide_mono (ByZeros w) a a' p = bitwise_mono and_bit keeps_and 64 a a' (constant 64 (2 ^ w - 1)) (constant 64 (2 ^ w - 1)) p (λ x z e. e)
  wide_mono (BySigns w) a a' p = sign_mono w 64 a a' p

  -- a copy of low bits
  copy_refines : (op : GOp) → IsCopied op → (w v u n : ℕ) (a a' b c : Bits) → w ≤ 64 → RefinesBits a a' → RefinesBits (value op w v u n a b c) (cut 64 a')
  copy_refines _ trunc w v u n a a' b c low p = bits_compose (cut w a) (cut w a') (cut 64 a') (cut_mono w a a' p) (cut_widens w a' low)
  copy_refines _ any w v u n a a' b c low p =
      bits_compose (cut w (cut v a)) (cut w (cut v a')) (cut 64 a') (cut_mono w (cut v a) (cut v a') (cut_mono v a a' p)) (cut_twice v w a' low)

  copies_compute : (op : GOp) → IsCopied op → Computes ≡ kind op
  copies_compute _ trunc = refl
  copies_compute _ any = refl

  -- ---- an instruction and its legal form
  module _ (s s' : State) (i : GInst) (r : List GInst) (next : ℕ) (low : bound ≤ next) (agree : Agree (alive f) s s') (sound : AllSound f (i ∷ r)) where
    abbrev tail : List GInst
    tail = legal_insts f.types (next + spent f.types i) r

    rests_behind : Rests r tail
    rests_behind = record { next = next + spent f.types i; low = omega (arith, low); is = refl; sound = sound.1 }

    below : AllBelow next i.uses
    below = exist_below f next low i.uses sound.0.uses

    computes_by : (x : Form) → AllCompute h (before_by f.types x next i)
    computes_by Same = all_compute h full f.types i.op i.num 0 next i.uses
    computes_by Masks = (refl, tt)
    computes_by Extends = tt
    computes_by Copies = tt

    -- registers that there were stay
    kept_by : (x : Form) (y : ℕ) → y < bound → ran h s'.regs (before_by f.types x next i) y ≡ s'.regs y
    kept_by Same y l = all_kept h full f.types i.op i.num 0 next i.uses s'.regs y (omega (arith, l, low))
    kept_by Masks y l = rw (ne_eqb y next (λ e. let bad : ⊥ = omega (arith, l, low, e) in bad)) refl
    kept_by Extends y l = refl
    kept_by Copies y l = refl

    agree_after : (x : Form) (t : State) → Worked h s' t (ran h s'.regs (before_by f.types x next i)) → Agree (alive f) s t
    agree_after x t k = record {
      args = subst (AllRefine s.args) (sym k.args) agree.args;
      base = k.base ∙ agree.base;
      block = k.block ∙ agree.block;
      regs = λ y live. subst (λ z. RefinesBits (s.regs y) z) (sym (ap (λ (z : Registers). z y) k.regs' ∙ kept_by x y (alive_below f y live))) (agree.regs y live);
      memory = subst (RefinesMemory s.memory) (sym k.memory) agree.memory;
    }

    light_by : (x : Form) → form i.op ≡ x → weights h (before_by f.types x next i) + weight h.types (last_by f.types x next i) ≤ weight f.types i
    light_by x e =
        subst (λ x. weights h (before_by f.types x next i) + weight h.types (last_by f.types x next i) ≤ weight f.types i) e
        (inst_light f h wholly next i sound.0.form_is (λ y w z. (widths y w z).1))

    abbrev Gone : Form → Type 0
    Gone x = Fol (by_kind f s i r (kind i.op)) (step_at h s' (before_by f.types x next i ++ last_by f.types x next i ∷ tail))

    abbrev Run : Form → Type 0
    Run x = (t : State) × Ch (step_at h s' (before_by f.types x next i ++ last_by f.types x next i ∷ tail)) (step_at h t (last_by f.types x next i ∷ tail)) (weights h (before_by f.types x next i))
        × Worked h s' t (ran h s'.regs (before_by f.types x next i))

    run_by : (x : Form) → Run x
    run_by x = works h s' (before_by f.types x next i) (last_by f.types x next i ∷ tail) (computes_by x)

    by_same : form i.op ≡ Same → Run Same → Gone Same
    by_same e (t, chain, k) =
        same_step s t i (operands f.types i.op i.num 0 next i.uses) r tail _ (weights h (before_by f.types Same next i)) chain (agree_after Same t k) rests_behind (light_by Same e) sound.0 e
        (λ x. subst (λ z. RefinesBits (wide (by_type (above i.op i.num x) (type_at f i x)) (operand f s i r x)) z)
        (sym (ap (λ (regs : Registers). read regs (slice_get (operands f.types i.op i.num 0 next i.uses) x)) k.regs' ∙ all_extended h full f.types i.op i.num 0 next i.uses s'.regs x x (omega arith) below))
        (wide_mono (by_type (above i.op i.num x) (type_at f i x)) (operand f s i r x) (read s'.regs (slice_get i.uses x))
        (read_agrees (alive f) s.regs s'.regs agree.regs i.uses (reads_alive f i.uses sound.0.uses) x)))
        (λ l. (none_extended f.types i.op i.num (listed_free i.op l i.num) 0 next i.uses).uses') (kind i.op) refl

    by_masks : i.op ≡ ZExt → form i.op ≡ Masks → Run Masks → Gone Masks
    by_masks op e (t, chain, k) = by (subst (HasForm f i) op sound.0.form_is)
      where
        by : HasForm f i ZExt → Gone Masks
        by (d, a, w, v, g, has, less) =
            let first : operand h t (last_by f.types Masks next i) tail 0 ≡ t.regs a = ap (λ us. read t.regs (slice_get (us ++ next ∷ []) 0)) g.uses in
            let second : operand h t (last_by f.types Masks next i) tail 1 ≡ t.regs next = ap (λ us. read t.regs (slice_get (us ++ next ∷ []) 1)) g.uses in
            let own : operand f s i r 0 ≡ s.regs a = ap (λ us. read s.regs (slice_get us 0)) g.uses in
            let ones : t.regs next ≡ constant 64 (2 ^ width f.types (use_at i 0) - 1) =
            ap (λ (z : Registers). z next) k.regs' ∙ ap (λ b. if b then constant (width h.types next) (2 ^ width f.types (use_at i 0) - 1) else s'.regs next) (let z : (next == next) ≡ true = grind arith in z)
            ∙ ap (λ z. constant z (2 ^ width f.types (use_at i 0) - 1)) (full next) in
            let is : result h t (last_by f.types Masks next i) tail ≡ bitwise and_bit 64 (t.regs a) (constant 64 (2 ^ width f.types (use_at i 0) - 1)) =
            ap (λ z. bitwise and_bit z (operand h t (last_by f.types Masks next i) tail 0) (operand h t (last_by f.types Masks next i) tail 1)) (full (def_at i 0))
            ∙ ap (λ z. bitwise and_bit 64 z (operand h t (last_by f.types Masks next i) tail 1)) first ∙ ap (λ z. bitwise and_bit 64 (t.regs a) z) (second ∙ ones) in
            let after = agree_after Masks t k in
            let p : RefinesBits (s.regs a) (t.regs a) = after.regs a (let l = (subst (AllExist f) g.uses sound.0.uses).0 in grind arith) in
            let refines : RefinesBits (zero_extended (width f.types (use_at i 0)) (width f.types (def_at i 0)) (s.regs a)) (bitwise and_bit 64 (t.regs a) (constant 64 (2 ^ width f.types (use_at i 0) - 1))) =
            bits_compose _ (zero_extended (width f.types (use_at i 0)) (width f.types (def_at i 0)) (t.regs a)) _ (zero_mono (width f.types (use_at i 0)) (width f.types (def_at i 0)) (s.regs a) (t.regs a) p)
            (zeros_masked (width f.types (use_at i 0)) (width f.types (def_at i 0)) (t.regs a) (small (use_at i 0)) (small (def_at i 0))) in
            subst (λ z. Fol (by_kind f s i r z) (step_at h s' (before_by f.types Masks next i ++ last_by f.types Masks next i ∷ tail))) (sym (ap kind op))
            (gives_value s t i (last_by f.types Masks next i) r tail _ (weights h (before_by f.types Masks next i)) chain after rests_behind refl (light_by Masks e) sound.0
            (result f s i r) (result h t (last_by f.types Masks next i) tail)
            (subst (λ z. RefinesBits (value z (width f.types (def_at i 0)) (width f.types (use_at i 0)) (width f.types (use_at i 1)) i.num (operand f s i r 0) (operand f s i r 1) (operand f s i r 2)) (result h t (last_by f.types Masks next i) tail)) (sym op)
            (subst (λ z. RefinesBits (zero_extended (width f.types (use_at i 0)) (width f.types (def_at i 0)) z) (result h t (last_by f.types Masks next i) tail)) (sym own)
            (subst (RefinesBits (zero_extended (width f.types (use_at i 0)) (width f.types (def_at i 0)) (s.regs a))) (sym is) refines))) refl)

    by_extends : i.op ≡ SExt → form i.op ≡ Extends → Run Extends → Gone Extends
    by_extends op e (t, chain, k) =
        let after = agree_after Extends t k in
        let p : RefinesBits (operand f s i r 0) (operand h t (last_by f.types Extends next i) tail 0) = read_agrees (alive f) s.regs t.regs after.regs i.uses (reads_alive f i.uses sound.0.uses) 0 in
        let is : result h t (last_by f.types Extends next i) tail ≡ sign_extended (width f.types (use_at i 0)) 64 (operand h t (last_by f.types Extends next i) tail 0) =
        ap (λ z. sign_extended (width f.types (use_at i 0)) z (operand h t (last_by f.types Extends next i) tail 0)) (full (def_at i 0)) in
        let refines : RefinesBits (sign_extended (width f.types (use_at i 0)) (width f.types (def_at i 0)) (operand f s i r 0)) (sign_extended (width f.types (use_at i 0)) 64 (operand h t (last_by f.types Extends next i) tail 0)) =
        bits_compose _ (sign_extended (width f.types (use_at i 0)) (width f.types (def_at i 0)) (operand h t (last_by f.types Extends next i) tail 0)) _
        (sign_mono (width f.types (use_at i 0)) (width f.types (def_at i 0)) (operand f s i r 0) (operand h t (last_by f.types Extends next i) tail 0) p)
        (sign_widens (width f.types (use_at i 0)) (width f.types (def_at i 0)) (operand h t (last_by f.types Extends next i) tail 0) (small (def_at i 0))) in
        subst (λ z. Fol (by_kind f s i r z) (step_at h s' (last_by f.types Extends next i ∷ tail))) (sym (ap kind op))
        (gives_value s t i (last_by f.types Extends next i) r tail _ (weights h (before_by f.types Extends next i)) chain after rests_behind refl (light_by Extends e) sound.0
        (result f s i r) (result h t (last_by f.types Extends next i) tail)
        (subst (λ z. RefinesBits (value z (width f.types (def_at i 0)) (width f.types (use_at i 0)) (width f.types (use_at i 1)) i.num (operand f s i r 0) (operand f s i r 1) (operand f s i r 2)) (result h t (last_by f.types Extends next i) tail)) (sym op)
        (subst (RefinesBits (sign_extended (width f.types (use_at i 0)) (width f.types (def_at i 0)) (operand f s i r 0))) (sym is) refines)) refl)

    by_copies : IsCopied i.op → form i.op ≡ Copies → Run Copies → Gone Copies
    by_copies op e (t, chain, k) =
        let after = agree_after Copies t k in
        let p : RefinesBits (operand f s i r 0) (operand h t (last_by f.types Copies next i) tail 0) = read_agrees (alive f) s.regs t.regs after.regs i.uses (reads_alive f i.uses sound.0.uses) 0 in
        let is : result h t (last_by f.types Copies next i) tail ≡ cut 64 (operand h t (last_by f.types Copies next i) tail 0) =
        ap (λ z. cut z (operand h t (last_by f.types Copies next i) tail 0)) (full (def_at i 0)) in
        subst (λ z. Fol (by_kind f s i r z) (step_at h s' (last_by f.types Copies next i ∷ tail))) (copies_compute i.op op)
        (gives_value s t i (last_by f.types Copies next i) r tail _ (weights h (before_by f.types Copies next i)) chain after rests_behind refl (light_by Copies e) sound.0
        (result f s i r) (result h t (last_by f.types Copies next i) tail)
        (subst (RefinesBits (result f s i r)) (sym is)
        (copy_refines i.op op (width f.types (def_at i 0)) (width f.types (use_at i 0)) (width f.types (use_at i 1)) i.num (operand f s i r 0) (operand h t (last_by f.types Copies next i) tail 0) (operand f s i r 1) (operand f s i r 2) (small (def_at i 0)) p)) refl)

    by_form : (x : Form) → form i.op ≡ x → Gone x
    by_form Same e = by_same e (run_by Same)
    by_form Masks e = by_masks (masks_zext i.op e) e (run_by Masks)
    by_form Extends e = by_extends (extends_sext i.op e) e (run_by Extends)
    by_form Copies e = by_copies (copied_op i.op e) e (run_by Copies)

  -- ---- the simulation

  by_rest : (s s' : State) → Agree (alive f) s s' → (r : List GInst) → AllSound f r → (next : ℕ) → bound ≤ next → Fol (step_at f s r) (step_at h s' (legal_insts f.types next r))
  by_rest s s' agree [] sound next low = breaks refl refl
  by_rest s s' agree (i ∷ r) sound next low = by_form s s' i r next low agree sound (form i.op) refl

  steps : (s s' : State) → Alike s s' → Fol (step f s) (step h s')
  steps s s' k =
      subst (λ (r' : List GInst). Fol (step f s) (step_at h s' r')) (sym k.rests.is)
      (by_rest s s' k.agree s.rest k.rests.sound k.rests.next k.rests.low)

  first_alike : (a b : Entry) → RefinesEntry f.end a b → Alike (first f a) (first h b)
  first_alike a b k = record {
    agree = record { args = k.args; base = k.memory.long; block = refl; regs = λ x live z bit e. e; memory = k.memory };
    rests = record { next = (at_block 0).0; low = (at_block 0).1; is = (at_block 0).2; sound = block_sound f formed wide_ 0 };
  }

  enters_by : (a b : Entry) → RefinesEntry f.end a b → (deep : Bool)
      → Fol (record { weight = 160; jumps = 0; does = if deep then Wants else Goes (first f a) }) (record { weight = 160; jumps = 0; does = if deep then Wants else Goes (first h b) })
  enters_by a b k true = wants refl here refl (omega arith) (omega arith)
  enters_by a b k false = moves (first f a) (first h b) refl here refl (first_alike a b k) (omega arith) (omega arith)

  enters : (a b : Entry) → RefinesEntry f.end a b → Fol (enter f a) (enter h b)
  enters a b k = rw k.sp (enters_by a b k (nat_lt a.sp (stack_start + frame_of f.values)))

  simulation : Simulation f.end (walk f) (walk h) Alike (λ s. 0)
  simulation = record { enters = λ a b k. (0, enters a b k); steps = steps }

  -- ---- static weights

  work_static : (ps : List GInst) → AllWork ps → sum_by (static_of h.types) ps ≡ weights h ps
  work_static [] w = refl
  work_static (p ∷ ps) w =
      let one : static_of h.types p ≡ weight h.types p = ap (λ b. if b then length p.uses * weight h.types p else weight h.types p) (works_no_phi f.types p.op w.0) in
      let rest = work_static ps w.1 in let all = sum_by-cons (static_of h.types) p ps in omega (arith, one, rest, all)

  inst_static : (next : ℕ) (i : GInst) → Sound f i → sum_by (static_of h.types) (before f.types next i) + static_of h.types (last f.types next i) ≤ static_of f.types i
  inst_static next i sound = by (is_phi i.op) refl
    where
      by : (b : Bool) → is_phi i.op ≡ b → sum_by (static_of h.types) (before f.types next i) + static_of h.types (last f.types next i) ≤ static_of f.types i
      by true e =
          let k = phi_stays f.types next i e in
          let none : sum_by (static_of h.types) (before f.types next i) ≡ 0 = ap (sum_by (static_of h.types)) k.before' in
          let one : static_of h.types (last f.types next i) ≡ length i.uses * weight h.types i = ap (static_of h.types) k.last' ∙ ap (λ b. if b then length i.uses * weight h.types i else weight h.types i) e in
          let own : static_of f.types i ≡ length i.uses * weight f.types i = ap (λ b. if b then length i.uses * weight f.types i else weight f.types i) e in
          let less : length i.uses * weight h.types i ≤ length i.uses * weight f.types i = mul-le (length i.uses) (weight h.types i) (length i.uses) (weight f.types i) (omega arith) (weight_less i) in
          omega (arith, none, one, own, less)
      by false e =
          let one : static_of h.types (last f.types next i) ≡ weight h.types (last f.types next i) =
          ap (λ b. if b then length (last f.types next i).uses * weight h.types (last f.types next i) else weight h.types (last f.types next i)) (last_phi f.types next i ∙ e) in
          let own : static_of f.types i ≡ weight f.types i = ap (λ b. if b then length i.uses * weight f.types i else weight f.types i) e in
          let work = work_static (before f.types next i) (before_works f.types next i) in
          let less = inst_light f h wholly next i sound.form_is (λ y w z. (widths y w z).1) in
          omega (arith, one, own, work, less)

  insts_static : (next : ℕ) (is : List GInst) → AllSound f is → sum_by (static_of h.types) (legal_insts f.types next is) ≤ sum_by (static_of f.types) is
  insts_static next [] sound = omega arith
  insts_static next (i ∷ is) sound =
      let one = inst_static next i sound.0 in
      let rest = insts_static (next + spent f.types i) is sound.1 in
      let sum = sum_by-append (static_of h.types) (before f.types next i) (last f.types next i ∷ legal_insts f.types (next + spent f.types i) is) in
      let more = sum_by-cons (static_of h.types) (last f.types next i) (legal_insts f.types (next + spent f.types i) is) in
      let own = sum_by-cons (static_of f.types) i is in
      omega (arith, one, rest, sum, more, own)

  blocks_static : (next : ℕ) (bs : List (List GInst)) → ((b : ℕ) → AllSound f (slice_index_or bs b [])) → sum_by (static_of_block h.types) (legal_blocks f.types next bs) ≤ sum_by (static_of_block f.types) bs
  blocks_static next [] sound = omega arith
  blocks_static next (b ∷ bs) sound =
      let one = insts_static next b (sound 0) in
      let rest = blocks_static (next + spent_insts f.types b) bs (λ x. sound (suc x)) in
      let sum = sum_by-cons (static_of_block h.types) (legal_insts f.types next b) (legal_blocks f.types (next + spent_insts f.types b) bs) in
      let own = sum_by-cons (static_of_block f.types) b bs in
      omega (arith, one, rest, sum, own)

  static_less : static_weight h ≤ static_weight f
  static_less = let less = blocks_static bound f.blocks (block_sound f formed wide_) in omega (arith, less)

pub legal_forms_refine : LegalFormsRefine
legal_forms_refine f formed wide_ =
    simulated_face (face f) (face (legalized f)) refl refl refl (static_less f formed wide_) (Alike f formed wide_) (λ s. 0) (simulation f formed wide_)
