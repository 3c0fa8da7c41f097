-- An instruction that stands in two functions does the same in both, from states that agree on the registers that it reads.
use Rattle.std.proofs.Common.{◌≡◌, refl, sym, subst, ℕ, zero, suc, ◌+◌, Bool, true, false, List, [], ◌∷◌, ◌++◌, take, map, Option, Some, None, arith}
use Rattle.std.specs.Prelude.{if◌then◌else◌, nat_le, slice_index_or, replicate}
use Rattle.ir_meaning.specs.Memory.{Memory, top, is_inside, bytes_at, with_bytes, data_start}
use Rattle.mir.specs.declared.code.MInst.{MInst}
use Rattle.mir.specs.declared.code.MInst.TheVariants.{Param, Op, Imm, Const, Move, Load, Store, Phi, Call, TakeData, CopyBytes, FillBytes, Branch, Jump, Return, Trap}
use Rattle.mir.specs.declared.code.MFunction.{MFunction}
use Rattle.std.specs.List.{Contains}
use Rattle.mir.specs.Code.{reads, targets}
use Rattle.walks.specs.Walk.{Bits, Reply, Does, Goes, Wants, Breaks, Step}
use Rattle.walks.specs.Bits.{free, cut, constant, number}
use Rattle.walks.specs.Bytes.{bits_of_bytes, bytes_of_bits}
use Rattle.walks.specs.Refines.{RefinesBits, AllRefine, RefinesMemory, RefinesReply}
use Rattle.walks.specs.Registers.{Registers, write, RegsAgree}
use Rattle.walks.specs.Simulation.{here, Follows, moves, asks, gives, wants, breaks}
use Rattle.walks.proofs.Monotone.{Keeps, keeps_number, cut_mono}
use Rattle.walks.proofs.Compose.{same_memory}
use Rattle.walks.proofs.Registers.{ReadsAlive, args_agree, write_agrees, put_agrees, item_agrees}
use Rattle.walks.proofs.Bytes.{bits_mono, stored_mono, append_mono, take_mono, read_mono, written_mono, MemoryKept, copied_mono, set_mono}
use Rattle.mir_play.specs.Values.{divisor, taken, address, load_size, extended, store_size}
use Rattle.mir_play.specs.Play.{State, plain, give, divided, take_edge, branch, at_address, change, moved, grown, behind_call, returned, by_inst, step}
use Rattle.mir_play.proofs.Values.{value_mono, immediate_mono, taken_keeps, address_keeps, extended_mono, DivisorKept, divisor_kept}

-- the states agree, but for where they stand
pub record Agree (alive : ℕ → Bool) (s s' : State) : Type 0 where
  pub args : AllRefine s.args s'.args
  pub base : s'.base_length ≡ s.base_length
  pub regs : RegsAgree alive s.regs s'.regs
  pub memory : RefinesMemory s.memory s'.memory

-- Two functions whose data memories end at one address, and a relation of where their states stand: by block and by what is left of it.
module _ (f g : MFunction) (same_end : g.end ≡ f.end) (alive : ℕ → Bool) (Stands : ℕ → List MInst → ℕ → List MInst → Type 0) (measure : State → ℕ) where
  -- the relation of states
  pub record Alike (s s' : State) : Type 0 where
    pub agree : Agree alive s s'
    pub stands : Stands s.block s.rest s'.block s'.rest

  abbrev Fol : ℕ → Step State → Step State → Type 0
  Fol = Follows f.end State State (step g) Alike measure

  module _ (s s' : State) (r r' : List MInst) (h : Agree alive s s') (stands : Stands s.block r s'.block r') (m : ℕ) where
    goes_on : (w : ℕ) (regs regs' : Registers) (memory memory' : Memory) → RegsAgree alive regs regs' → RefinesMemory memory memory'
        → Fol m (plain f s r w (Goes (record s { rest = r; regs = regs; memory = memory }))) (plain g s' r' w (Goes (record s' { rest = r'; regs = regs'; memory = memory' })))
    goes_on w regs regs' memory memory' p q =
        moves (record s { rest = r; regs = regs; memory = memory }) (record s' { rest = r'; regs = regs'; memory = memory' }) refl here refl
        (record { agree = record { args = h.args; base = h.base; regs = p; memory = q }; stands = stands }) (omega arith) (omega arith)

    gives_value : (w d : ℕ) (a a' : Bits) → RefinesBits a a' → Fol m (plain f s r w (give f s r d a)) (plain g s' r' w (give g s' r' d a'))
    gives_value w d a a' p = goes_on w (write s.regs d a) (write s'.regs d a') s.memory s'.memory (write_agrees alive s.regs s'.regs d a a' h.regs p) h.memory

    divides_known : (w : ℕ) (o o' : Option ℕ) (d d' : Does State) → Keeps o o' → Fol m (plain f s r w d) (plain g s' r' w d')
        → Fol m (plain f s r w (divided f s r (Some o) d)) (plain g s' r' w (divided g s' r' (Some o') d'))
    divides_known w None o' d d' k on = breaks refl refl
    divides_known w (Some zero) o' d d' k on = breaks refl refl
    divides_known w (Some (suc n)) o' d d' k on =
        subst (λ (z : Option ℕ). Fol m (plain f s r w d) (plain g s' r' w (divided g s' r' (Some z) d'))) (sym (k (suc n) refl)) on

    divides : (w : ℕ) (o o' : Option (Option ℕ)) (d d' : Does State) → DivisorKept o o' → Fol m (plain f s r w d) (plain g s' r' w d')
        → Fol m (plain f s r w (divided f s r o d)) (plain g s' r' w (divided g s' r' o' d'))
    divides w None None d d' k on = on
    divides w None (Some o') d d' k on = absurd k
    divides w (Some o) None d d' k on = absurd k
    divides w (Some o) (Some o') d d' k on = divides_known w o o' d d' k on

    pub branches : (w t e : ℕ) (o o' : Option Bool) → Keeps o o' → Fol m (take_edge f s r w t) (take_edge g s' r' w t) → Fol m (take_edge f s r w e) (take_edge g s' r' w e)
        → Fol m (branch f s r w o t e) (branch g s' r' w o' t e)
    branches w t e None o' k one other = breaks refl refl
    branches w t e (Some true) o' k one other = subst (λ (z : Option Bool). Fol m (branch f s r w (Some true) t e) (branch g s' r' w z t e)) (sym (k true refl)) one
    branches w t e (Some false) o' k one other = subst (λ (z : Option Bool). Fol m (branch f s r w (Some false) t e) (branch g s' r' w z t e)) (sym (k false refl)) other

    inside_by : (w : ℕ) (b : Bool) (d d' : Does State) → Fol m (plain f s r w d) (plain g s' r' w d')
        → Fol m (plain f s r w (if b then d else Breaks)) (plain g s' r' w (if b then d' else Breaks))
    inside_by w true d d' k = k
    inside_by w false d d' k = breaks refl refl

    inside_same : (a n : ℕ) → is_inside s'.memory a n ≡ is_inside s.memory a n
    inside_same a n = rw h.memory.long refl

    addressed : (w : ℕ) (o o' : Option ℕ) (n : ℕ) (go go' : ℕ → Does State) → Keeps o o' → ((a : ℕ) → Fol m (plain f s r w (go a)) (plain g s' r' w (go' a)))
        → Fol m (plain f s r w (at_address f s r o n go)) (plain g s' r' w (at_address g s' r' o' n go'))
    addressed w None o' n go go' k on = breaks refl refl
    addressed w (Some a) o' n go go' k on =
        subst (λ (z : Option ℕ). Fol m (plain f s r w (at_address f s r (Some a) n go)) (plain g s' r' w (at_address g s' r' z n go'))) (sym (k a refl))
        (subst (λ (b : Bool). Fol m (plain f s r w (if is_inside s.memory a n then go a else Breaks)) (plain g s' r' w (if b then go' a else Breaks))) (sym (inside_same a n))
        (inside_by w (is_inside s.memory a n) (go a) (go' a) (on a)))

    grows_by : (w : ℕ) (b : Bool) (d d' : Does State) → Fol m (plain f s r w d) (plain g s' r' w d')
        → Fol m (plain f s r w (if b then d else Wants)) (plain g s' r' w (if b then d' else Wants))
    grows_by w true d d' k = k
    grows_by w false d d' k = wants refl here refl (omega arith) (omega arith)

    grows : (w d n : ℕ) → Fol m (plain f s r w (grown f s r d n)) (plain g s' r' w (grown g s' r' d n))
    grows w d n =
        subst (λ (end : ℕ). Fol m (plain f s r w (grown f s r d n)) (plain g s' r' w (if nat_le (top s'.memory + n) end
        then Goes (record s' { rest = r'; memory = s'.memory ++ replicate n None; regs = write s'.regs d (constant 64 (top s'.memory)) })
        else Wants))) (sym same_end)
        (subst (λ (l : ℕ). Fol m (plain f s r w (grown f s r d n)) (plain g s' r' w (if nat_le (data_start + l + n) f.end
        then Goes (record s' { rest = r'; memory = s'.memory ++ replicate n None; regs = write s'.regs d (constant 64 (data_start + l)) })
        else Wants))) (sym h.memory.long)
        (grows_by w (nat_le (top s.memory + n) f.end)
        (Goes (record s { rest = r; memory = s.memory ++ replicate n None; regs = write s.regs d (constant 64 (top s.memory)) }))
        (Goes (record s' { rest = r'; memory = s'.memory ++ replicate n None; regs = write s'.regs d (constant 64 (top s.memory)) }))
        (goes_on w (write s.regs d (constant 64 (top s.memory))) (write s'.regs d (constant 64 (top s.memory)))
        (s.memory ++ replicate n None) (s'.memory ++ replicate n None)
        (write_agrees alive s.regs s'.regs d _ _ h.regs (λ x z e. e)) (append_mono s.memory s'.memory (replicate n None) (replicate n None) h.memory (same_memory (replicate n None))))))

    behind : (results : List ℕ) (q q' : Reply) → RefinesReply f.end q q' → Alike (behind_call f s r results q) (behind_call g s' r' results q')
    behind results q q' k = record {
      agree = record {
        args = h.args;
        base = h.base;
        regs = put_agrees alive s.regs s'.regs results (cut 64 q.value) (cut 64 q'.value) h.regs (cut_mono 64 q.value q'.value k.value);
        memory = k.memory;
      };
      stands = stands;
    }

    returned_agrees : (rs : List ℕ) → ReadsAlive alive rs → RefinesBits (returned f s r rs) (returned g s' r' rs)
    returned_agrees [] reads' = λ x z e. e
    returned_agrees (x ∷ xs) reads' = h.regs x reads'.0

    changes : (w : ℕ) (memory memory' : Memory) → RefinesMemory memory memory'
        → Fol m (plain f s r w (change f s r memory)) (plain g s' r' w (change g s' r' memory'))
    changes w memory memory' q = goes_on w s.regs s'.regs memory memory' h.regs q

    moved_after : (w n : ℕ) (after : Memory) (o : Option Memory) → (after' : Memory) × (o ≡ Some after') × RefinesMemory after after'
        → Fol m (moved f s r w (Some n) (Some after)) (moved g s' r' w (Some n) o)
    moved_after w n after o (after', e, k) =
        subst (λ (z : Option Memory). Fol m (moved f s r w (Some n) (Some after)) (moved g s' r' w (Some n) z)) (sym e)
        (moves (record s { rest = r; memory = after }) (record s' { rest = r'; memory = after' }) refl here refl
        (record { agree = record { args = h.args; base = h.base; regs = h.regs; memory = k }; stands = stands }) (omega arith) (omega arith))

    moved_both : (w : ℕ) (n n' : Option ℕ) (after after' : Option Memory) → Keeps n n' → MemoryKept after after'
        → Fol m (moved f s r w n after) (moved g s' r' w n' after')
    moved_both w None n' after after' k q = breaks refl refl
    moved_both w (Some n) n' None after' k q = breaks refl refl
    moved_both w (Some n) n' (Some after) after' k q =
        subst (λ (z : Option ℕ). Fol m (moved f s r w (Some n) (Some after)) (moved g s' r' w z after')) (sym (k n refl))
        (moved_after w n after after' (q after refl))

    -- the same instruction in both; of edges it is told by the caller
    pub in_step : (i : MInst) → ReadsAlive alive (reads i) → ((w to : ℕ) → Contains (targets i) to → Fol m (take_edge f s r w to) (take_edge g s' r' w to))
        → Fol m (by_inst f s r i) (by_inst g s' r' i)
    in_step (Param d n) read edge = gives_value 12 d _ _ (cut_mono 64 (slice_index_or s.args n free) (slice_index_or s'.args n free) (item_agrees s.args s'.args h.args n))
    in_step (Op op d a b) read edge =
        divides 20 (divisor op (s.regs b)) (divisor op (s'.regs b)) _ _ (divisor_kept op (s.regs b) (s'.regs b) (h.regs b read.1.0))
        (gives_value 20 d _ _ (value_mono (s.regs a) (s'.regs a) (s.regs b) (s'.regs b) (h.regs a read.0) (h.regs b read.1.0) op))
    in_step (Imm op d a n) read edge = gives_value 12 d _ _ (immediate_mono op (s.regs a) (s'.regs a) n (h.regs a read.0))
    in_step (Const d n) read edge = gives_value 12 d (constant 64 n) (constant 64 n) (λ x z e. e)
    in_step (Move d a) read edge = gives_value 12 d (s.regs a) (s'.regs a) (h.regs a read.0)
    in_step (Load op d a n) read edge =
        addressed 12 (address (s.regs a) n) (address (s'.regs a) n) (load_size op)
        (λ at. give f s r d (extended op (bits_of_bytes (bytes_at s.memory at (load_size op)))))
        (λ at. give g s' r' d (extended op (bits_of_bytes (bytes_at s'.memory at (load_size op)))))
        (address_keeps (s.regs a) (s'.regs a) n (h.regs a read.0))
        (λ at. gives_value 12 d _ _ (extended_mono op (bits_of_bytes (bytes_at s.memory at (load_size op))) (bits_of_bytes (bytes_at s'.memory at (load_size op)))
        (bits_mono (bytes_at s.memory at (load_size op)) (bytes_at s'.memory at (load_size op)) (read_mono s.memory s'.memory at (load_size op) h.memory))))
    in_step (Store op a b n) read edge =
        addressed 20 (address (s.regs b) n) (address (s'.regs b) n) (store_size op)
        (λ at. change f s r (with_bytes s.memory at (bytes_of_bits (store_size op) (s.regs a))))
        (λ at. change g s' r' (with_bytes s'.memory at (bytes_of_bits (store_size op) (s'.regs a))))
        (address_keeps (s.regs b) (s'.regs b) n (h.regs b read.1.0))
        (λ at. changes 20 _ _
        (written_mono s.memory s'.memory at (bytes_of_bits (store_size op) (s.regs a)) (bytes_of_bits (store_size op) (s'.regs a)) h.memory
        (stored_mono (store_size op) (s.regs a) (s'.regs a) (h.regs a read.0))))
    in_step (Phi d pairs) read edge = breaks refl refl
    in_step (Call callee args results) read edge =
        asks callee (map (λ x. s.regs x) args) (map (λ x. s'.regs x) args) s.memory s'.memory
        (behind_call f s r results) (behind_call g s' r' results) refl here refl
        (args_agree alive s.regs s'.regs h.regs args read) h.memory (behind results) (omega arith) (omega arith)
    in_step (TakeData d n) read edge = grows 48 d n
    in_step (CopyBytes a b n) read edge =
        moved_both 64 (number 64 (s.regs n)) (number 64 (s'.regs n)) _ _ (keeps_number 64 (s.regs n) (s'.regs n) (h.regs n read.1.1.0))
        (copied_mono (λ to from count. true) s.memory s'.memory (number 64 (s.regs a)) (number 64 (s'.regs a)) (number 64 (s.regs b)) (number 64 (s'.regs b))
        (number 64 (s.regs n)) (number 64 (s'.regs n)) h.memory
        (keeps_number 64 _ _ (h.regs a read.0)) (keeps_number 64 _ _ (h.regs b read.1.0)) (keeps_number 64 _ _ (h.regs n read.1.1.0)))
    in_step (FillBytes a b n) read edge =
        moved_both 64 (number 64 (s.regs n)) (number 64 (s'.regs n)) _ _ (keeps_number 64 (s.regs n) (s'.regs n) (h.regs n read.1.1.0))
        (set_mono s.memory s'.memory (number 64 (s.regs a)) (number 64 (s'.regs a)) (number 8 (s.regs b)) (number 8 (s'.regs b))
        (number 64 (s.regs n)) (number 64 (s'.regs n)) h.memory
        (keeps_number 64 _ _ (h.regs a read.0)) (keeps_number 8 _ _ (h.regs b read.1.0)) (keeps_number 64 _ _ (h.regs n read.1.1.0)))
    in_step (Branch op a b t e) read edge =
        branches 32 t e (taken op (s.regs a) (s.regs b)) (taken op (s'.regs a) (s'.regs b))
        (taken_keeps (s.regs a) (s'.regs a) (s.regs b) (s'.regs b) (h.regs a read.0) (h.regs b read.1.0) op)
        (edge 32 t (0, omega arith, refl)) (edge 32 e (1, omega arith, refl))
    in_step (Jump t) read edge = edge 4 t (0, omega arith, refl)
    in_step (Return rs) read edge =
        gives (returned f s r rs) (returned g s' r' rs) (take s.base_length s.memory) (take s'.base_length s'.memory) refl here refl
        (returned_agrees rs read)
        (subst (λ (n : ℕ). RefinesMemory (take s.base_length s.memory) (take n s'.memory)) (sym h.base) (take_mono s.base_length s.memory s'.memory h.memory))
        (omega arith) (omega arith)
    in_step Trap read edge = breaks refl refl
