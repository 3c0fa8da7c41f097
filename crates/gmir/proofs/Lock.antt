-- An instruction that stands in two functions does the same in both, from states that agree on the registers that it reads.
use Rattle.std.proofs.Common.{◌≡◌, refl, sym, subst, ℕ, zero, suc, ◌+◌, ◌/◌, ◌≤◌, Bool, true, false, List, [], ◌∷◌, ◌++◌, take, map, Option, Some, None, arith}
use Rattle.std.specs.Prelude.{if◌then◌else◌, nat_le, slice_index_or, replicate}
use Rattle.walks.specs.Walk.{Bits, Reply, Does, Goes, Wants, Breaks, Step}
use Rattle.ir_meaning.specs.Memory.{Memory, top, is_inside, bytes_at, data_start}
use Rattle.walks.specs.Refines.{RefinesBits, AllRefine, RefinesMemory, RefinesReply}
use Rattle.walks.specs.Simulation.{here, Follows, moves, asks, gives, wants, breaks}
use Rattle.gmir.specs.declared.code.GOp.{GOp}
use Rattle.gmir.specs.declared.code.GOp.TheVariants.{Add, Sub, Mul, UDiv, SDiv, URem, SRem, And, Or, Xor, Shl, LShr, AShr, Icmp, Select, Trunc, ZExt, SExt, AnyExt, SExtInReg, PtrToInt, IntToPtr, PtrAdd, Constant, Phi, Load, Store, Br, BrCond, Param, Call, Return, TakeData, CopyBytes, FillBytes, Copy, Trap}
use Rattle.gmir.specs.declared.code.GInst.{GInst}
use Rattle.gmir.specs.declared.code.GFunction.{GFunction}
use Rattle.walks.specs.Bits.{free, cut, constant, number}
use Rattle.walks.specs.Bytes.{bits_of_bytes, bytes_of_bits}
use Rattle.walks.specs.Registers.{Registers, put, RegsAgree}
use Rattle.gmir.specs.Play.{width, def_at, use_at, Kind, Computes, Divides, Other, State, insts_at, phis, behind_phis, with_phis, jumped, phi_weights, plain, give, operand, result, divided, take_edge, branch, at_address, change, moved, load_at, store_at, grown, behind_call, returned, other, by_kind, step}
use Rattle.walks.proofs.Monotone.{Keeps, keeps_number, cut_mono}
use Rattle.gmir.proofs.Values.{value_mono}
use Rattle.walks.proofs.Compose.{same_memory}
use Rattle.walks.proofs.Registers.{ReadsAlive, read_agrees, args_agree, put_agrees, item_agrees}
use Rattle.walks.proofs.Bytes.{bits_mono, stored_mono, append_mono, take_mono, read_mono, written_mono, MemoryKept, copied_mono, set_mono}

-- the states agree, but for what is left of the block
pub record Agree (alive : ℕ → Bool) (s s' : State) : Type 0 where
  pub args : AllRefine s.args s'.args
  pub base : s'.base_length ≡ s.base_length
  pub block : s'.block ≡ s.block
  pub regs : RegsAgree alive s.regs s'.regs
  pub memory : RefinesMemory s.memory s'.memory

-- Two functions that differ in their blocks alone, and what is asked of the two targets of an edge.
module _ (f g : GFunction) (alive : ℕ → Bool) (Rests : List GInst → List GInst → Type 0) (measure : State → ℕ) where
  -- the first with the blocks of the second
  abbrev pub changed : GFunction
  changed = record f { blocks = g.blocks }

  -- the relation of states
  pub record Alike (s s' : State) : Type 0 where
    pub agree : Agree alive s s'
    pub rests : Rests s.rest s'.rest

  pub record EdgesAgree : Type 0 where
    pub rests : (to : ℕ) → Rests (behind_phis (insts_at f to)) (behind_phis (insts_at changed to))
    pub regs : (to from : ℕ) (before before' regs regs' : Registers) → RegsAgree alive before before' → RegsAgree alive regs regs'
        → RegsAgree alive (with_phis f.types from before (phis (insts_at f to)) regs) (with_phis f.types from before' (phis (insts_at changed to)) regs')
    pub weights : (to : ℕ) → phi_weights changed to ≤ phi_weights f to

  abbrev Fol : ℕ → Step State → Step State → Type 0
  Fol = Follows f.end State State (step changed) Alike measure

  module _ (edges : EdgesAgree) (s s' : State) (i : GInst) (r r' : List GInst) (h : Agree alive s s') (rests : Rests r r') (reads : ReadsAlive alive i.uses) (m : ℕ) where
    operand_agrees : (k : ℕ) → RefinesBits (operand f s i r k) (operand changed s' i r' k)
    operand_agrees k = read_agrees alive s.regs s'.regs h.regs i.uses reads k

    result_agrees : RefinesBits (result f s i r) (result changed s' i r')
    result_agrees =
        value_mono i.op (width f.types (def_at i 0)) (width f.types (use_at i 0)) (width f.types (use_at i 1)) i.num
        (operand f s i r 0) (operand changed s' i r' 0) (operand f s i r 1) (operand changed s' i r' 1) (operand f s i r 2) (operand changed s' i r' 2)
        (operand_agrees 0) (operand_agrees 1) (operand_agrees 2)

    goes_on : (regs regs' : Registers) (memory memory' : Memory) → RegsAgree alive regs regs' → RefinesMemory memory memory'
        → Fol m (plain f s i r (Goes (record s { rest = r; regs = regs; memory = memory }))) (plain changed s' i r' (Goes (record s' { rest = r'; regs = regs'; memory = memory' })))
    goes_on regs regs' memory memory' p q =
        moves (record s { rest = r; regs = regs; memory = memory }) (record s' { rest = r'; regs = regs'; memory = memory' }) refl here refl
        (record { agree = record { args = h.args; base = h.base; block = h.block; regs = p; memory = q }; rests = rests }) (omega arith) (omega arith)

    gives_value : (a a' : Bits) → RefinesBits a a' → Fol m (plain f s i r (give f s i r a)) (plain changed s' i r' (give changed s' i r' a'))
    gives_value a a' p = goes_on (put s.regs i.defs a) (put s'.regs i.defs a') s.memory s'.memory (put_agrees alive s.regs s'.regs i.defs a a' h.regs p) h.memory

    divides : (o o' : Option ℕ) → Keeps o o' → Fol m (plain f s i r (divided f s i r o)) (plain changed s' i r' (divided changed s' i r' o'))
    divides None o' k = breaks refl refl
    divides (Some zero) o' k = breaks refl refl
    divides (Some (suc n)) o' k =
        subst (λ (z : Option ℕ). Fol m (plain f s i r (divided f s i r (Some (suc n)))) (plain changed s' i r' (divided changed s' i r' z))) (sym (k (suc n) refl))
        (gives_value (result f s i r) (result changed s' i r') result_agrees)

    edge : (to : ℕ) → Fol m (take_edge f s i r to) (take_edge changed s' i r' to)
    edge to =
        let low = edges.weights to in
        moves (jumped f s to) (jumped changed s' to) refl here refl
        (record {
          agree = record {
            args = h.args;
            base = h.base;
            block = refl;
            regs = subst (λ (b : ℕ). RegsAgree alive (with_phis f.types s.block s.regs (phis (insts_at f to)) s.regs) (with_phis f.types b s'.regs (phis (insts_at changed to)) s'.regs)) (sym h.block)
                (edges.regs to s.block s.regs s'.regs s.regs s'.regs h.regs h.regs);
            memory = h.memory;
          };
          rests = edges.rests to;
        }) (omega (arith, low)) (omega arith)

    branches : (o o' : Option Bool) → Keeps o o' → Fol m (branch f s i r o) (branch changed s' i r' o')
    branches None o' k = breaks refl refl
    branches (Some true) o' k = subst (λ (z : Option Bool). Fol m (branch f s i r (Some true)) (branch changed s' i r' z)) (sym (k true refl)) (edge (slice_index_or i.to 0 0))
    branches (Some false) o' k = subst (λ (z : Option Bool). Fol m (branch f s i r (Some false)) (branch changed s' i r' z)) (sym (k false refl)) (edge (slice_index_or i.to 1 0))

    inside_by : (b : Bool) (d d' : Does State) → Fol m (plain f s i r d) (plain changed s' i r' d') → Fol m (plain f s i r (if b then d else Breaks)) (plain changed s' i r' (if b then d' else Breaks))
    inside_by true d d' k = k
    inside_by false d d' k = breaks refl refl

    inside_same : (a n : ℕ) → is_inside s'.memory a n ≡ is_inside s.memory a n
    inside_same a n = rw h.memory.long refl

    addressed : (o o' : Option ℕ) (n : ℕ) (go go' : ℕ → Does State) → Keeps o o' → ((offset : ℕ) → Fol m (plain f s i r (go offset)) (plain changed s' i r' (go' offset)))
        → Fol m (plain f s i r (at_address f s i r o n go)) (plain changed s' i r' (at_address changed s' i r' o' n go'))
    addressed None o' n go go' k on = breaks refl refl
    addressed (Some a) o' n go go' k on =
        subst (λ (z : Option ℕ). Fol m (plain f s i r (at_address f s i r (Some a) n go)) (plain changed s' i r' (at_address changed s' i r' z n go'))) (sym (k a refl))
        (subst (λ (b : Bool). Fol m (plain f s i r (if is_inside s.memory a n then go a else Breaks)) (plain changed s' i r' (if b then go' a else Breaks))) (sym (inside_same a n))
        (inside_by (is_inside s.memory a n) (go a) (go' a) (on a)))

    grows_by : (b : Bool) (d d' : Does State) → Fol m (plain f s i r d) (plain changed s' i r' d') → Fol m (plain f s i r (if b then d else Wants)) (plain changed s' i r' (if b then d' else Wants))
    grows_by true d d' k = k
    grows_by false d d' k = wants refl here refl (omega arith) (omega arith)

    grows : (n : ℕ) → Fol m (plain f s i r (grown f s i r n)) (plain changed s' i r' (grown changed s' i r' n))
    grows n =
        subst (λ (l : ℕ). Fol m (plain f s i r (grown f s i r n)) (plain changed s' i r' (if nat_le (data_start + l + n) f.end
        then Goes (record s' { rest = r'; memory = s'.memory ++ replicate n None; regs = put s'.regs i.defs (constant 64 (data_start + l)) })
        else Wants))) (sym h.memory.long)
        (grows_by (nat_le (top s.memory + n) f.end)
        (Goes (record s { rest = r; memory = s.memory ++ replicate n None; regs = put s.regs i.defs (constant 64 (top s.memory)) }))
        (Goes (record s' { rest = r'; memory = s'.memory ++ replicate n None; regs = put s'.regs i.defs (constant 64 (top s.memory)) }))
        (goes_on (put s.regs i.defs (constant 64 (top s.memory))) (put s'.regs i.defs (constant 64 (top s.memory)))
        (s.memory ++ replicate n None) (s'.memory ++ replicate n None)
        (put_agrees alive s.regs s'.regs i.defs _ _ h.regs (λ x z e. e)) (append_mono s.memory s'.memory (replicate n None) (replicate n None) h.memory (same_memory (replicate n None)))))

    behind : (q q' : Reply) → RefinesReply f.end q q' → Alike (behind_call f s i r q) (behind_call changed s' i r' q')
    behind q q' k = record {
      agree = record {
        args = h.args;
        base = h.base;
        block = h.block;
        regs = put_agrees alive s.regs s'.regs i.defs (cut (width f.types (def_at i 0)) q.value) (cut (width f.types (def_at i 0)) q'.value) h.regs (cut_mono (width f.types (def_at i 0)) q.value q'.value k.value);
        memory = k.memory;
      };
      rests = rests;
    }

    returned_agrees : (rs : List ℕ) → ReadsAlive alive rs → RefinesBits (returned f s i r rs) (returned changed s' i r' rs)
    returned_agrees [] reads' = λ x z e. e
    returned_agrees (x ∷ xs) reads' = h.regs x reads'.0

    changes : (memory memory' : Memory) → RefinesMemory memory memory'
        → Fol m (plain f s i r (change f s i r memory)) (plain changed s' i r' (change changed s' i r' memory'))
    changes memory memory' q = goes_on s.regs s'.regs memory memory' h.regs q

    count_agrees : Keeps (number (width f.types (use_at i 2)) (operand f s i r 2)) (number (width f.types (use_at i 2)) (operand changed s' i r' 2))
    count_agrees = keeps_number (width f.types (use_at i 2)) (operand f s i r 2) (operand changed s' i r' 2) (operand_agrees 2)

    moved_after : (n : ℕ) (after : Memory) (o : Option Memory) → (after' : Memory) × (o ≡ Some after') × RefinesMemory after after'
        → Fol m (moved f s i r (Some n) (Some after)) (moved changed s' i r' (Some n) o)
    moved_after n after o (after', e, k) =
        subst (λ (z : Option Memory). Fol m (moved f s i r (Some n) (Some after)) (moved changed s' i r' (Some n) z)) (sym e)
        (moves (record s { rest = r; memory = after }) (record s' { rest = r'; memory = after' }) refl here refl
        (record { agree = record { args = h.args; base = h.base; block = h.block; regs = h.regs; memory = k }; rests = rests }) (omega arith) (omega arith))

    moved_both : (n n' : Option ℕ) (after after' : Option Memory) → Keeps n n' → MemoryKept after after'
        → Fol m (moved f s i r n after) (moved changed s' i r' n' after')
    moved_both None n' after after' k q = breaks refl refl
    moved_both (Some n) n' None after' k q = breaks refl refl
    moved_both (Some n) n' (Some after) after' k q =
        subst (λ (z : Option ℕ). Fol m (moved f s i r (Some n) (Some after)) (moved changed s' i r' z after')) (sym (k n refl))
        (moved_after n after after' (q after refl))

    others : (op : GOp) → Fol m (other f s i r op) (other changed s' i r' op)
    others Load =
        addressed (number 64 (operand f s i r 0)) (number 64 (operand changed s' i r' 0)) (i.num / 8) (load_at f s i r) (load_at changed s' i r')
        (keeps_number 64 (operand f s i r 0) (operand changed s' i r' 0) (operand_agrees 0))
        (λ a. gives_value _ _ (cut_mono (width f.types (def_at i 0)) (bits_of_bytes (bytes_at s.memory a (i.num / 8))) (bits_of_bytes (bytes_at s'.memory a (i.num / 8)))
        (bits_mono (bytes_at s.memory a (i.num / 8)) (bytes_at s'.memory a (i.num / 8)) (read_mono s.memory s'.memory a (i.num / 8) h.memory))))
    others Store =
        addressed (number 64 (operand f s i r 1)) (number 64 (operand changed s' i r' 1)) (i.num / 8) (store_at f s i r) (store_at changed s' i r')
        (keeps_number 64 (operand f s i r 1) (operand changed s' i r' 1) (operand_agrees 1))
        (λ a. changes _ _
        (written_mono s.memory s'.memory a (bytes_of_bits (i.num / 8) (operand f s i r 0)) (bytes_of_bits (i.num / 8) (operand changed s' i r' 0)) h.memory
        (stored_mono (i.num / 8) (operand f s i r 0) (operand changed s' i r' 0) (operand_agrees 0))))
    others Br = edge (slice_index_or i.to 0 0)
    others BrCond = branches (operand f s i r 0 0) (operand changed s' i r' 0 0) (operand_agrees 0 0)
    others Param = gives_value _ _ (cut_mono (width f.types (def_at i 0)) (slice_index_or s.args i.num free) (slice_index_or s'.args i.num free) (item_agrees s.args s'.args h.args i.num))
    others Call =
        asks (slice_index_or i.to 0 0) (map (λ x. s.regs x) i.uses) (map (λ x. s'.regs x) i.uses) s.memory s'.memory
        (behind_call f s i r) (behind_call changed s' i r') refl here refl
        (args_agree alive s.regs s'.regs h.regs i.uses reads) h.memory behind (omega arith) (omega arith)
    others Return =
        gives (returned f s i r i.uses) (returned changed s' i r' i.uses) (take s.base_length s.memory) (take s'.base_length s'.memory) refl here refl
        (returned_agrees i.uses reads)
        (subst (λ (n : ℕ). RefinesMemory (take s.base_length s.memory) (take n s'.memory)) (sym h.base) (take_mono s.base_length s.memory s'.memory h.memory))
        (omega arith) (omega arith)
    others TakeData = grows i.num
    others CopyBytes =
        moved_both (number (width f.types (use_at i 2)) (operand f s i r 2)) (number (width f.types (use_at i 2)) (operand changed s' i r' 2)) _ _ count_agrees
        (copied_mono (λ to from count. true) s.memory s'.memory (number 64 (operand f s i r 0)) (number 64 (operand changed s' i r' 0)) (number 64 (operand f s i r 1)) (number 64 (operand changed s' i r' 1))
        (number (width f.types (use_at i 2)) (operand f s i r 2)) (number (width f.types (use_at i 2)) (operand changed s' i r' 2)) h.memory
        (keeps_number 64 _ _ (operand_agrees 0)) (keeps_number 64 _ _ (operand_agrees 1)) count_agrees)
    others FillBytes =
        moved_both (number (width f.types (use_at i 2)) (operand f s i r 2)) (number (width f.types (use_at i 2)) (operand changed s' i r' 2)) _ _ count_agrees
        (set_mono s.memory s'.memory (number 64 (operand f s i r 0)) (number 64 (operand changed s' i r' 0)) (number 8 (operand f s i r 1)) (number 8 (operand changed s' i r' 1))
        (number (width f.types (use_at i 2)) (operand f s i r 2)) (number (width f.types (use_at i 2)) (operand changed s' i r' 2)) h.memory
        (keeps_number 64 _ _ (operand_agrees 0)) (keeps_number 8 _ _ (operand_agrees 1)) count_agrees)
    others Trap = breaks refl refl
    others Phi = breaks refl refl
    others Add = breaks refl refl
    others Sub = breaks refl refl
    others Mul = breaks refl refl
    others UDiv = breaks refl refl
    others SDiv = breaks refl refl
    others URem = breaks refl refl
    others SRem = breaks refl refl
    others And = breaks refl refl
    others Or = breaks refl refl
    others Xor = breaks refl refl
    others Shl = breaks refl refl
    others LShr = breaks refl refl
    others AShr = breaks refl refl
    others Icmp = breaks refl refl
    others Select = breaks refl refl
    others Trunc = breaks refl refl
    others ZExt = breaks refl refl
    others SExt = breaks refl refl
    others AnyExt = breaks refl refl
    others SExtInReg = breaks refl refl
    others PtrToInt = breaks refl refl
    others IntToPtr = breaks refl refl
    others PtrAdd = breaks refl refl
    others Constant = breaks refl refl
    others Copy = breaks refl refl

    -- the same instruction in both
    pub in_step : (k : Kind) → Fol m (by_kind f s i r k) (by_kind changed s' i r' k)
    in_step Computes = gives_value (result f s i r) (result changed s' i r') result_agrees
    in_step Divides =
        divides (number (width f.types (use_at i 1)) (operand f s i r 1)) (number (width f.types (use_at i 1)) (operand changed s' i r' 1))
        (keeps_number (width f.types (use_at i 1)) (operand f s i r 1) (operand changed s' i r' 1) (operand_agrees 1))
    in_step Other = others i.op
