-- Each step of a function is answered by the steps of the function whose phis are lowered.
use Rattle.std.proofs.Common.{◌≡◌, ◌⊎◌, inl, inr, ◌<◌, ◌*◌, ℕ, zero, suc, ◌+◌, Bool, true, false, List, [], ◌∷◌, ◌++◌, length, Option, Some, None, refl, sym, subst, ap, arith, ◌∙◌}
use Rattle.std.specs.Prelude.{slice_get, slice_index_or, nat_lt, IsTrue, if◌then◌else◌}
use Rattle.std.specs.List.{Contains}
use Rattle.std.proofs.lemmas.List.{get_or_append_left, get_or-append-add, append_assoc}
use Rattle.std.proofs.lemmas.Option.{get_or_from_slice_get}
use Rattle.rv_core.specs.declared.instr.BranchOp.{BranchOp}
use Rattle.ir_meaning.specs.Step.{stack_start}
use Rattle.mir.specs.declared.code.MInst.{MInst}
use Rattle.mir.specs.declared.code.MInst.TheVariants.{Move, Phi, Branch, Jump}
use Rattle.mir.specs.declared.code.MFunction.{MFunction}
use Rattle.mir.specs.Code.{reads, targets, block_of, inst_at}
use Rattle.mir.specs.WellFormed.{is_phi, IsWellFormed}
use Rattle.walks.specs.Walk.{Entry, Goes, Wants, Step}
use Rattle.walks.specs.Refines.{RefinesBits, RefinesEntry}
use Rattle.walks.specs.Registers.{Registers, read, write, RegsAgree}
use Rattle.walks.specs.Simulation.{Chain, here, further, Follows, moves, wants, breaks, Simulation}
use Rattle.walks.specs.Face.{frame_of}
use Rattle.walks.proofs.Monotone.{Keeps}
use Rattle.walks.proofs.Registers.{ReadsAlive, write_agrees}
use Rattle.mir_play.specs.Values.{taken}
use Rattle.mir_play.specs.Play.{State, on_edge, with_phis, behind_phis, phi_weights, jumped, take_edge, branch, by_inst, step_at, step, first, enter, walk}
use Rattle.mir_play.proofs.Values.{taken_keeps}
use Rattle.mir_play.proofs.Lock.{Agree, Alike, in_step}
use Rattle.parallel_copies.specs.Moves.{IsMoveOf, all_moved}
use Rattle.parallel_copies.specs.Edges.{copies_on, heads}
use Rattle.phi_out.specs.Lowered.{IsEdge, Side, direct, through, Piece, stays, jumps, branches, Pieces, none, more, IsLowered}
use Rattle.phi_out.proofs.Heads.{Head, phi, plain, head, IsPlain, no_phi}
use Rattle.phi_out.proofs.Placing.{below, PhisAlive, IsSound, IsFine, AreFine, block_fine, first_of, behind_of}

-- ---- registers behind an edge

edge_agrees : (alive : ℕ → Bool) (before before' : Registers) → RegsAgree alive before before' → (o : Option ℕ) → ((s : ℕ) → o ≡ Some s → IsTrue (alive s))
    → RefinesBits (read before o) (read before' o)
edge_agrees alive before before' h None a = λ i b e. absurd (let bad : ⊥ = cc in bad)
edge_agrees alive before before' h (Some r) a = h r (a r refl)

phis_agree : (n from : ℕ) (before before' : Registers) → RegsAgree (below n) before before' → (insts : List MInst) → PhisAlive n from insts
    → (regs regs' : Registers) → RegsAgree (below n) regs regs' → RegsAgree (below n) (with_phis from before insts regs) (with_phis from before' insts regs')
phis_agree n from before before' h [] a regs regs' k = k
phis_agree n from before before' h (Phi d pairs ∷ insts) a regs regs' k =
    phis_agree n from before before' h insts a.1 _ _ (write_agrees (below n) regs regs' d _ _ k (edge_agrees (below n) before before' h (on_edge from pairs) a.0))
phis_agree n from before before' h (i ∷ insts) a regs regs' k = k

weights_of_heads : (insts : List MInst) → phi_weights insts ≡ 40 * heads insts
weights_of_heads [] = refl
weights_of_heads (Phi d pairs ∷ insts) = let rest = weights_of_heads insts in omega (arith, rest)
weights_of_heads (i ∷ insts) = refl

not_spare : (x n : ℕ) → IsTrue (nat_lt x n) → x ≡ n → ⊥
not_spare x n h e = grind arith

-- ---- moves one after another

abbrev pub AreMoves : List MInst → Type 0
AreMoves [] = Unit {0}
AreMoves (inst ∷ insts) = ((d : ℕ) × (s : ℕ) × (inst ≡ Move d s)) × AreMoves insts

pub are_moves : (f : MFunction) (from to : ℕ) (insts : List MInst) → ((inst : MInst) → Contains insts inst → IsMoveOf f.regs (copies_on from (block_of f to)) inst) → AreMoves insts
are_moves f from to [] h = tt
are_moves f from to (i ∷ insts) h =
    let one = h i (first_of i insts) in
    ((one.0, one.1, one.2), are_moves f from to insts (λ inst c. h inst (behind_of i inst insts c)))

module _ (g : MFunction) where
  run_from : (insts : List MInst) → AreMoves insts → (last : MInst) (others : List MInst) (s : State)
      → Chain State (step g) (step_at g s (insts ++ last ∷ others)) (step_at g (record s { rest = last ∷ others; regs = all_moved insts s.regs }) (last ∷ others)) (12 * length insts) 0
  run_from [] h last others s = here
  run_from (i ∷ insts) ((d, a, is), h) last others s =
      subst (λ (j : MInst). Chain State (step g) (step_at g s (j ∷ (insts ++ last ∷ others)))
      (step_at g (record s { rest = last ∷ others; regs = all_moved (j ∷ insts) s.regs }) (last ∷ others)) (12 * length (j ∷ insts)) 0) (sym is)
      (let next : State = record s { rest = insts ++ last ∷ others; regs = write s.regs d (s.regs a) } in
      let count : 12 + 12 * length insts ≡ 12 * suc (length insts) = omega arith in
      subst (λ (w : ℕ). Chain State (step g) (step_at g s (Move d a ∷ (insts ++ last ∷ others)))
      (step_at g (record s { rest = last ∷ others; regs = all_moved insts (write s.regs d (s.regs a)) }) (last ∷ others)) w 0) count
      (further next refl (run_from insts h last others next)))

-- ---- the two functions

module _ (f g : MFunction) (formed : IsWellFormed f) (low : IsLowered f g) where
  abbrev alive : ℕ → Bool
  alive = below f.regs

  -- in the same block, and what is left of it has become this
  abbrev Stands : ℕ → List MInst → ℕ → List MInst → Type 0
  Stands block rest block' rest' = (block' ≡ block) × ((rest ≡ []) ⊎ (AreFine f block rest × Pieces f low.edges block rest rest'))

  abbrev pub R : State → State → Type 0
  R = Alike f g low.end' alive Stands (λ s. 0)

  abbrev Fol : Step State → Step State → Type 0
  Fol = Follows f.end State State (step g) R (λ s. 0) 0

  -- blocks of g
  front : (block : ℕ) → block < length f.blocks → block_of g block ≡ slice_index_or low.blocks block []
  front block h = let inside : block < length low.blocks = rw low.count h in rw low.are (get_or_append_left low.blocks low.edges [] block inside)

  lowered_block : (block : ℕ) → block < length f.blocks → Pieces f low.edges block (behind_phis (block_of f block)) (block_of g block)
  lowered_block block h = rw (front block h) (low.pieces block h)

  edge_block : (place : ℕ) (insts : List MInst) → slice_get low.edges place ≡ Some insts → block_of g (length f.blocks + place) ≡ insts
  edge_block place insts h =
      rw low.are
      (subst (λ (n : ℕ). slice_index_or (low.blocks ++ low.edges) (n + place) [] ≡ insts) low.count
      (get_or-append-add low.blocks low.edges place [] ∙ get_or_from_slice_get low.edges place insts [] h))

  -- a lowered block has no phi at its head
  piece_plain : (from : ℕ) (inst : MInst) (piece : List MInst) → Piece f low.edges from inst piece → (others : List MInst) → IsPlain (piece ++ others)
  piece_plain from inst piece (stays i t p) others = no_phi i others p
  piece_plain from inst piece (jumps to ms e) others = moves_plain ms (are_moves f from to ms e.only) (Jump to) others refl
    where
      moves_plain : (ms : List MInst) → AreMoves ms → (last : MInst) (others : List MInst) → is_phi last ≡ false → IsPlain ((ms ++ last ∷ []) ++ others)
      moves_plain [] h last others p = no_phi last others p
      moves_plain (m ∷ ms) ((d, s, is), h) last others p = no_phi m ((ms ++ last ∷ []) ++ others) (rw is refl)
  piece_plain from inst piece (branches op a b t e t' e' side side') others = no_phi (Branch op a b t' e') others refl

  pieces_plain : (from : ℕ) (insts others : List MInst) → Pieces f low.edges from insts others → IsPlain others
  pieces_plain from insts others none = record { behind = refl; weights = refl; heads' = refl; registers = λ from before regs. refl }
  pieces_plain from insts others (more {others = rest} i p one m) = piece_plain from i p one rest

  -- ---- edges

  -- on the edge, after the moves, the jump to the block in g answers the edge in f
  lands : (s s' : State) → Agree alive s s' → (to : ℕ) → IsSound f s.block to → (ms : List MInst) → IsEdge f s.block to ms
      → (regs : Registers) → regs ≡ all_moved ms s'.regs → (rest : List MInst) (block : ℕ)
      → R (jumped f s to) (jumped g (record s' { rest = rest; regs = regs; block = block }) to)
  lands s s' h to sound ms edge regs is rest block =
      let plainly : IsPlain (block_of g to) = pieces_plain to (behind_phis (block_of f to)) (block_of g to) (lowered_block to sound.target.1) in
      record {
        agree = record {
          args = h.args;
          base = h.base;
          regs = λ x live.
              subst (λ (r : Registers). RefinesBits (with_phis s.block s.regs (block_of f to) s.regs x) (r x)) (sym (plainly.registers block regs regs))
              (subst (λ (r : Registers). RefinesBits (with_phis s.block s.regs (block_of f to) s.regs x) (r x)) (sym is)
              (subst (λ (a : _). RefinesBits (with_phis s.block s.regs (block_of f to) s.regs x) a) (sym (edge.made sound.has s'.regs x (not_spare x f.regs live)))
              (phis_agree f.regs s.block s.regs s'.regs h.regs (block_of f to) sound.alive s.regs s'.regs h.regs x live)));
          memory = h.memory;
        };
        stands = (refl, inr (block_fine f formed to, subst (λ (b : List MInst). Pieces f low.edges to (behind_phis (block_of f to)) b) (sym plainly.behind) (lowered_block to sound.target.1)));
      }

  no_weight : (to : ℕ) → to < length f.blocks → phi_weights (block_of g to) ≡ 0
  no_weight to h = (pieces_plain to (behind_phis (block_of f to)) (block_of g to) (lowered_block to h)).weights

  -- a jump with the moves before it
  jump_step : (s s' : State) → Agree alive s s' → (r : List MInst) (to : ℕ) → IsSound f s.block to → (ms : List MInst) → IsEdge f s.block to ms → (others : List MInst)
      → Fol (by_inst f s r (Jump to)) (step_at g s' (ms ++ Jump to ∷ others))
  jump_step s s' h r to sound ms edge others =
      let light : phi_weights (block_of g to) ≡ 0 = no_weight to sound.target.1 in
      let heavy : phi_weights (block_of f to) ≡ 40 * heads (block_of f to) = weights_of_heads (block_of f to) in
      let short = edge.short in
      moves (jumped f s to) (jumped g (record s' { rest = Jump to ∷ others; regs = all_moved ms s'.regs }) to) refl
      (run_from g ms (are_moves f s.block to ms edge.only) (Jump to) others s') refl
      (lands s s' h to sound ms edge (all_moved ms s'.regs) refl (Jump to ∷ others) s'.block)
      (omega (arith, light, heavy, short)) (omega arith)

  -- a side of a branch: the edge is taken at once, or by the block on it
  side_step : (s s' : State) → Agree alive s s' → s'.block ≡ s.block → (r r' : List MInst) (to to' : ℕ) → IsSound f s.block to → Side f low.edges s.block to to'
      → Fol (take_edge f s r 32 to) (take_edge g s' r' 32 to')
  side_step s s' h same r r' to to' sound (direct edge) =
      let light : phi_weights (block_of g to) ≡ 0 = no_weight to sound.target.1 in
      moves (jumped f s to) (jumped g s' to) refl here refl
      (lands s s' h to sound [] edge s'.regs refl s'.rest s'.block) (omega (arith, light)) (omega arith)
  side_step s s' h same r r' to to' sound (through ms place edge some at) =
      let stands : block_of g (length f.blocks + place) ≡ ms ++ Jump to ∷ [] = edge_block place (ms ++ Jump to ∷ []) at in
      let k = length f.blocks + place in
      let plainly : IsPlain (ms ++ Jump to ∷ []) = all_plain ms (are_moves f s.block to ms edge.only) to in
      let light : phi_weights (block_of g to) ≡ 0 = no_weight to sound.target.1 in
      let heavy : phi_weights (block_of f to) ≡ 40 * heads (block_of f to) = weights_of_heads (block_of f to) in
      let short = edge.short in
      let next : State = record s' { rest = ms ++ Jump to ∷ []; block = k } in
      subst (λ (j : Step State). Fol (take_edge f s r 32 to) j) (sym (edge_is ms to k stands plainly))
      (moves (jumped f s to) (jumped g (record s' { rest = Jump to ∷ []; regs = all_moved ms s'.regs; block = k }) to) refl
      (further next refl (run_from g ms (are_moves f s.block to ms edge.only) (Jump to) [] next)) refl
      (lands s s' h to sound ms edge (all_moved ms s'.regs) refl (Jump to ∷ []) k)
      (omega (arith, light, heavy, short, some)) (omega arith))
    where
      all_plain : (ms : List MInst) → AreMoves ms → (to : ℕ) → IsPlain (ms ++ Jump to ∷ [])
      all_plain [] h to = no_phi (Jump to) [] refl
      all_plain (m ∷ ms) ((d, x, is), h) to = no_phi m (ms ++ Jump to ∷ []) (rw is refl)

      edge_is : (ms : List MInst) (to k : ℕ) → block_of g k ≡ ms ++ Jump to ∷ [] → IsPlain (ms ++ Jump to ∷ [])
          → take_edge g s' r' 32 k ≡ record { weight = 32; jumps = 1; does = Goes (record s' { rest = ms ++ Jump to ∷ []; block = k }) }
      edge_is ms to k stands plainly = rw stands (rw plainly.weights (rw plainly.behind (rw (plainly.registers s'.block s'.regs s'.regs) refl)))

  branch_step : (s s' : State) → Agree alive s s' → s'.block ≡ s.block → (r r' : List MInst) (op : BranchOp) (a b t e t' e' : ℕ) → IsFine f s.block (Branch op a b t e)
      → Side f low.edges s.block t t' → Side f low.edges s.block e e' → Fol (by_inst f s r (Branch op a b t e)) (by_inst g s' r' (Branch op a b t' e'))
  branch_step s s' h same r r' op a b t e t' e' fine side side' =
      by_taken (taken op (s.regs a) (s.regs b)) (taken op (s'.regs a) (s'.regs b))
      (taken_keeps (s.regs a) (s'.regs a) (s.regs b) (s'.regs b) (h.regs a fine.alive.0) (h.regs b fine.alive.1.0) op)
    where
      by_taken : (o o' : Option Bool) → Keeps o o' → Fol (branch f s r 32 o t e) (branch g s' r' 32 o' t' e')
      by_taken None o' k = breaks refl refl
      by_taken (Some true) o' k = subst (λ (z : Option Bool). Fol (branch f s r 32 (Some true) t e) (branch g s' r' 32 z t' e')) (sym (k true refl))
          (side_step s s' h same r r' t t' (fine.edges t (first_of t (e ∷ []))) side)
      by_taken (Some false) o' k = subst (λ (z : Option Bool). Fol (branch f s r 32 (Some false) t e) (branch g s' r' 32 z t' e')) (sym (k false refl))
          (side_step s s' h same r r' e e' (fine.edges e (behind_of t e (e ∷ []) (first_of e []))) side')

  -- an instruction that stays ends no block, or ends the activation
  no_edge : (inst : MInst) → targets inst ≡ [] → is_phi inst ≡ false → (s s' : State) (r r' : List MInst) → Agree alive s s' → Stands s.block r s'.block r' → ReadsAlive alive (reads inst)
      → Fol (by_inst f s r inst) (by_inst g s' r' inst)
  no_edge inst none' p s s' r r' h stands a' = in_step f g low.end' alive Stands (λ x. 0) s s' r r' h stands 0 inst a' (λ w to c. absurd (nothing to (rw none' at c)))
    where
      nothing : (to : ℕ) → Contains {X = ℕ} [] to → ⊥
      nothing to (k, low', is) = omega (arith, low')

  -- ---- steps

  by_piece : (s s' : State) → Agree alive s s' → s'.block ≡ s.block → (inst : MInst) (r : List MInst) → IsFine f s.block inst → AreFine f s.block r
      → (piece : List MInst) → Piece f low.edges s.block inst piece → (others : List MInst) → Pieces f low.edges s.block r others
      → Fol (by_inst f s r inst) (step_at g s' (piece ++ others))
  by_piece s s' h same inst r fine rest piece (stays i none' p) others more' = no_edge i none' p s s' r others h (same, inr (rest, more')) fine.alive
  by_piece s s' h same inst r fine rest piece (jumps to ms edge) others more' =
      subst (λ (l : List MInst). Fol (by_inst f s r (Jump to)) (step_at g s' l)) (sym (append_assoc ms (Jump to ∷ []) others))
      (jump_step s s' h r to (fine.edges to (first_of to [])) ms edge others)
  by_piece s s' h same inst r fine rest piece (branches op a b t e t' e' side side') others more' = branch_step s s' h same r others op a b t e t' e' fine side side'

  by_pieces : (s s' : State) → Agree alive s s' → s'.block ≡ s.block → (rest : List MInst) → AreFine f s.block rest → (rest' : List MInst) → Pieces f low.edges s.block rest rest'
      → Fol (step_at f s rest) (step_at g s' rest')
  by_pieces s s' h same rest fine rest' none = breaks refl refl
  by_pieces s s' h same rest fine rest' (more {insts = r} {others = others} inst piece one m) = by_piece s s' h same inst r fine.0 fine.1 piece one others m

  by_rest : (s s' : State) → Agree alive s s' → s'.block ≡ s.block → (rest rest' : List MInst) → (rest ≡ []) ⊎ (AreFine f s.block rest × Pieces f low.edges s.block rest rest')
      → Fol (step_at f s rest) (step_at g s' rest')
  by_rest s s' h same rest rest' (inl e) = subst (λ (l : List MInst). Fol (step_at f s l) (step_at g s' rest')) (sym e) (breaks refl refl)
  by_rest s s' h same rest rest' (inr (fine, pieces)) = by_pieces s s' h same rest fine rest' pieces

  steps : (s s' : State) → R s s' → Fol (step f s) (step g s')
  steps s s' h = by_rest s s' h.agree h.stands.0 s.rest s'.rest h.stands.1

  -- ---- the entry

  -- the first block has no phi
  first_plain : behind_phis (block_of f 0) ≡ block_of f 0
  first_plain = by_head (block_of f 0) (head (block_of f 0)) refl
    where
      by_head : (insts : List MInst) → Head insts → block_of f 0 ≡ insts → behind_phis insts ≡ insts
      by_head insts (plain i p) e = p.behind
      by_head insts (phi d pairs others) e =
          let at : inst_at f 0 0 ≡ Some (Phi d pairs) = rw e refl in
          let p = (formed.placed 0 0 (Phi d pairs) at).phis refl in
          absurd (let low' = p.0 in let bad : ⊥ = omega (arith, low') in bad)

  begins : Stands 0 (block_of f 0) 0 (block_of g 0)
  begins = by_count (length f.blocks) refl
    where
      by_count : (n : ℕ) → length f.blocks ≡ n → Stands 0 (block_of f 0) 0 (block_of g 0)
      by_count zero e = (refl, inl (no_blocks f.blocks e))
        where
          no_blocks : (blocks : List (List MInst)) → length blocks ≡ 0 → slice_index_or blocks 0 [] ≡ []
          no_blocks [] e = refl
          no_blocks (b ∷ bs) e = absurd (let bad : ⊥ = omega (arith, e) in bad)
      by_count (suc n) e = (
        refl,
        inr (
          subst (AreFine f 0) first_plain (block_fine f formed 0),
          subst (λ (l : List MInst). Pieces f low.edges 0 l (block_of g 0)) first_plain (lowered_block 0 (omega (arith, e))),
        ),
      )

  enters_by : (a b : Entry) → RefinesEntry f.end a b → (deep : Bool)
      → Fol (record { weight = 160; jumps = 0; does = if deep then Wants else Goes (first f a) }) (record { weight = 160; jumps = 0; does = if deep then Wants else Goes (first g b) })
  enters_by a b h true = wants refl here refl (omega arith) (omega arith)
  enters_by a b h false =
      moves (first f a) (first g b) refl here refl
      (record { agree = record { args = h.args; base = h.memory.long; regs = λ x live i bit e. e; memory = h.memory }; stands = begins }) (omega arith) (omega arith)

  enters : (a b : Entry) → RefinesEntry f.end a b → Fol (enter f a) (enter g b)
  enters a b h =
      subst (λ (deep : Bool). Fol (enter f a) (record { weight = 160; jumps = 0; does = if deep then Wants else Goes (first g b) })) (as_deep a b h)
      (enters_by a b h (nat_lt a.sp (stack_start + frame_of f.values)))
    where
      as_deep : (a b : Entry) → RefinesEntry f.end a b → nat_lt a.sp (stack_start + frame_of f.values) ≡ nat_lt b.sp (stack_start + frame_of g.values)
      as_deep a b h = rw h.sp (ap (λ (v : ℕ). nat_lt a.sp (stack_start + frame_of v)) (sym low.values))

  pub simulation : Simulation f.end (walk f) (walk g) R (λ s. 0)
  simulation = record { enters = λ a b h. (0, enters a b h); steps = steps }
