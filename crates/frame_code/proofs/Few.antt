-- The words are no more than the static weight.
use Rattle.std.proofs.Common.{◌≡◌, refl, sym, ap, subst, ◌∙◌, ℕ, zero, suc, ◌+◌, ◌*◌, ◌≤◌, List, [], ◌∷◌, ◌++◌, length, map, Option, Some, None, Bool, true, false, cond, arith}
use Rattle.std.specs.Prelude.{ℤ, pos, sum_by, ◌==◌, nat_le}
use Rattle.std.proofs.lemmas.List.{length-append, length-map}
use Rattle.std.proofs.lemmas.List.Sums.{sum_by-cons}
use Rattle.rv_core.specs.declared.reg.Reg.{Reg}
use Rattle.rv_core.specs.declared.reg.Reg.TheVariants.{X0, T0, T1, T2, A0, S11}
use Rattle.rv_core.specs.declared.instr.ImmOp.TheVariants.{Addi}
use Rattle.rv_core.specs.declared.instr.RegOp.TheVariants.{Add, Sub}
use Rattle.rv_core.specs.declared.instr.BranchOp.TheVariants.{Bgeu}
use Rattle.rv_core.specs.declared.instr.LoadOp.{LoadOp}
use Rattle.rv_core.specs.declared.instr.StoreOp.{StoreOp}
use Rattle.rv_core.specs.declared.instr.Instr.{Instr}
use Rattle.rv_core.specs.declared.instr.Instr.TheVariants as rv
use Rattle.rv_encode.specs.Spelling.{word_of}
use Rattle.rv_asm.specs.declared.item.Item.{Item as Assembled}
use Rattle.rv_asm.specs.declared.item.Item.TheVariants as asm
use Rattle.rv_asm.specs.declared.item.Form.{Form}
use Rattle.rv_asm.specs.declared.item.Form.TheVariants.{Short, Near, Far}
use Rattle.rv_asm.specs.declared.item.Formed.{Formed}
use Rattle.rv_asm.specs.Layout.{IsAssembly, size, item_code, item_of, way, laid}
use Rattle.rv_asm.proofs.Laid.{sizes, size-is}
use Rattle.mir.specs.declared.code.MInst.{MInst}
use Rattle.mir.specs.declared.code.MInst.TheVariants.{Param, Op, Imm, Const, Move, Load, Store, Phi, Call, TakeData, CopyBytes, FillBytes, Branch, Jump, Return, Trap}
use Rattle.mir.specs.declared.code.MFunction.{MFunction}
use Rattle.mir.specs.declared.places.Place.{Place}
use Rattle.mir.specs.declared.places.Places.{Places}
use Rattle.mir.specs.Places.{place_of}
use Rattle.walks.specs.Face.{frame_of}
use Rattle.mir_play.specs.Refines.{static_of, static_of_block, static_weight}
use Rattle.code_pieces.specs.Code.{negative, argument_reg, load_at, store_at, const_code, call_code, prologue, leave_code}
use Rattle.code_pieces.specs.Bytes.{taken_bytes, move_code as copy_code, fill_code}
use Rattle.code_pieces.specs.Items.{Item, Plain, Bind, Goto, Test, plain}
use Rattle.code_pieces.specs.Assembly.{assembled, put}
use Rattle.code_pieces.proofs.Const.{const-short}
use Rattle.code_pieces.proofs.Slots.{load-short, store-short}
use Rattle.code_pieces.proofs.Entry.{prologue-short}
use Rattle.code_pieces.proofs.Ends.{leave-short}
use Rattle.frame_code.specs.Frame.{saved_reg, save_offset, uses, used, used_from}
use Rattle.frame_code.specs.Code.{held_in, fetch, keep, load_place, store_place, load_code, store_code, bytes_code, save_code, restore_code, give_back, taken, take_code, arguments_code, answer_code, result_code, goto_items, inst_code, inst_items, insts_items, blocks_items, entry_code, function_items}
use Rattle.frame_code.specs.Assembly.{code_of}
use Rattle.frame_code.specs.Laws.{FewWords}
use Rattle.frame_code.proofs.Short.{fetch-short, keep-short, load-place-short, store-place-short, op-short, imm-short, number-short, move-short}

-- ---- items

-- the most words that an item has
abbrev most : Assembled → ℕ
most (asm.Plain i) = 1
most (asm.BranchTo op a b label) = 3
most (asm.JumpTo label) = 2

abbrev most_all : List Assembled → ℕ
most_all [] = 0
most_all (x ∷ xs) = most x + most_all xs

-- the same of items among which labels stand
abbrev weight : List Item → ℕ
weight [] = 0
weight (Plain i ∷ items) = 1 + weight items
weight (Bind label ∷ items) = weight items
weight (Goto label ∷ items) = 2 + weight items
weight (Test op a b label ∷ items) = 3 + weight items

size-most : (form : Form) (item : Assembled) → size form item ≤ most item
size-most form (asm.Plain i) = omega arith
size-most Short (asm.BranchTo op a b l) = omega arith
size-most Near (asm.BranchTo op a b l) = omega arith
size-most Far (asm.BranchTo op a b l) = omega arith
size-most Short (asm.JumpTo l) = omega arith
size-most Near (asm.JumpTo l) = omega arith
size-most Far (asm.JumpTo l) = omega arith

laid-size : (to : Assembled → ℕ) (place : ℕ) (xs : List Formed) → length (laid to place xs) ≡ sizes xs
laid-size to place [] = refl
laid-size to place (x ∷ xs) =
    let code = item_code x.form x.item place (to x.item) in
    let rest = laid to (place + size x.form x.item) xs in
    omega (arith, length-append code rest, size-is x.form x.item place (to x.item), laid-size to (place + size x.form x.item) xs)

sizes-most : (xs : List Formed) → sizes xs ≤ most_all (map item_of xs)
sizes-most [] = omega arith
sizes-most (x ∷ xs) = let one = size-most x.form x.item in let rest = sizes-most xs in omega (arith, one, rest)

most-weight : (items : List Item) → most_all (assembled items) ≡ weight items
most-weight [] = refl
most-weight (Plain i ∷ items) = ap (λ (k : ℕ). 1 + k) (most-weight items)
most-weight (Bind label ∷ items) = most-weight items
most-weight (Goto label ∷ items) = ap (λ (k : ℕ). 2 + k) (most-weight items)
most-weight (Test op a b label ∷ items) = ap (λ (k : ℕ). 3 + k) (most-weight items)

weight-plain : (xs : List Instr) → weight (plain xs) ≡ length xs
weight-plain [] = refl
weight-plain (x ∷ xs) = let rest = weight-plain xs in omega (arith, rest)

weight-append : (xs ys : List Item) → weight (xs ++ ys) ≡ weight xs + weight ys
weight-append [] ys = omega arith
weight-append (Plain i ∷ xs) ys = let rest = weight-append xs ys in omega (arith, rest)
weight-append (Bind label ∷ xs) ys = weight-append xs ys
weight-append (Goto label ∷ xs) ys = let rest = weight-append xs ys in omega (arith, rest)
weight-append (Test op a b label ∷ xs) ys = let rest = weight-append xs ys in omega (arith, rest)

-- ---- parts

pub load-code-short : (op : LoadOp) (d a : Option Place) (n : ℤ) → length (load_code op d a n) ≤ 7
load-code-short op d a n =
    let i = rv.Load op (held_in T0 d) (held_in T0 a) n in
    let first = length-append (fetch T0 a) (i ∷ keep T0 d) in
    let x = fetch-short T0 a in let z = keep-short T0 d in
    omega (arith, first, x, z)

pub store-code-short : (op : StoreOp) (a b : Option Place) (n : ℤ) → length (store_code op a b n) ≤ 7
store-code-short op a b n =
    let i = rv.Store op (held_in T0 a) (held_in T1 b) n in
    let first = length-append (fetch T0 a) (fetch T1 b ++ i ∷ []) in
    let second = length-append (fetch T1 b) (i ∷ []) in
    let x = fetch-short T0 a in let y = fetch-short T1 b in
    omega (arith, first, second, x, y)

pub bytes-short : (a b n : Option Place) → length (bytes_code a b n) ≤ 9
bytes-short a b n =
    let first = length-append (load_place T0 a) (load_place T1 b ++ load_place T2 n) in
    let second = length-append (load_place T1 b) (load_place T2 n) in
    let x = load-place-short T0 a in let y = load-place-short T1 b in let z = load-place-short T2 n in
    omega (arith, first, second, x, y, z)

pub save-short : (frame : ℕ) (ks : List ℕ) → length (save_code frame ks) ≤ 3 * length ks
save-short frame [] = omega arith
save-short frame (k ∷ ks) =
    let all = length-append (store_at (saved_reg k) (save_offset frame k)) (save_code frame ks) in
    let x = store-short (saved_reg k) (save_offset frame k) in let rest = save-short frame ks in
    omega (arith, all, x, rest)

pub restore-short : (frame : ℕ) (ks : List ℕ) → length (restore_code frame ks) ≤ 3 * length ks
restore-short frame [] = omega arith
restore-short frame (k ∷ ks) =
    let all = length-append (load_at (saved_reg k) (save_offset frame k)) (restore_code frame ks) in
    let x = load-short (saved_reg k) (save_offset frame k) in let rest = restore-short frame ks in
    omega (arith, all, x, rest)

used-few : (places : Places) (k more : ℕ) → length (used_from places k more) ≤ more
used-few places k zero = omega arith
used-few places k (suc more) = by_test (uses places k) (used-few places (k + 1) more)
  where
    by_test : (b : Bool) → length (used_from places (k + 1) more) ≤ more → length (cond b (k ∷ used_from places (k + 1) more) (used_from places (k + 1) more)) ≤ suc more
    by_test true rest = omega (arith, rest)
    by_test false rest = omega (arith, rest)

pub give-back-short : (bytes : ℕ) → length (give_back bytes) ≤ 9
unfolding give_back
give-back-short bytes = by_test (bytes == 0) (nat_le bytes 2048)
  where
    by_test : (b c : Bool) → length (cond b [] (cond c (rv.Imm Addi S11 S11 (negative bytes) ∷ []) (const_code 3 T0 (taken_bytes bytes) ++ rv.Op Sub S11 S11 T0 ∷ []))) ≤ 9
    by_test true c = omega arith
    by_test false true = omega arith
    by_test false false =
        let all = length-append (const_code 3 T0 (taken_bytes bytes)) (rv.Op Sub S11 S11 T0 ∷ []) in
        let x = const-short 3 T0 (taken_bytes bytes) in omega (arith, all, x)

module _ (f : MFunction) (places : Places) where
  abbrev at : ℕ → Option Place
  at r = place_of places r

  abbrev fr : ℕ
  fr = frame_of f.values

  pub take-short : (d : Option Place) (n : ℕ) → length (take_code f places d n) ≤ 24
  take-short d n =
      let last = store_place S11 d ++ rv.Imm Addi S11 T0 (pos 0) ∷ [] in
      let test = rv.Branch Bgeu T1 T0 (pos 12) ∷ rv.Imm Addi T0 X0 (pos 2) ∷ rv.Ecall ∷ last in
      let end = const_code 3 T1 f.end in
      let start = const_code 3 T0 (taken_bytes n) in
      let all = length-append start (rv.Op Add T0 S11 T0 ∷ (end ++ test)) in
      let more = length-append end test in
      let ends = length-append (store_place S11 d) (rv.Imm Addi S11 T0 (pos 0) ∷ []) in
      let x = const-short 3 T0 (taken_bytes n) in let y = const-short 3 T1 f.end in let z = store-place-short S11 d in
      omega (arith, all, more, ends, x, y, z)

  arguments-short : (p : ℕ) (rs : List ℕ) → length (arguments_code f places p rs) ≤ 3 * length rs
  arguments-short p [] = omega arith
  arguments-short p (r ∷ rs) =
      let all = length-append (load_place (argument_reg p) (at r)) (arguments_code f places (p + 1) rs) in
      let x = load-place-short (argument_reg p) (at r) in let rest = arguments-short (p + 1) rs in
      omega (arith, all, x, rest)

  answer-short : (ds : List ℕ) → length (answer_code f places ds) ≤ 3
  answer-short [] = omega arith
  answer-short (d ∷ ds) = store-place-short A0 (at d)

  result-short : (rs : List ℕ) → length (result_code f places rs) ≤ 3
  result-short [] = omega arith
  result-short (r ∷ rs) = load-place-short A0 (at r)

  goto-few : (block to : ℕ) → weight (goto_items f places block to) ≤ 2
  goto-few block to = by_test (to == block + 1)
    where
      by_test : (b : Bool) → weight (cond b [] (Goto to ∷ [])) ≤ 2
      by_test true = omega arith
      by_test false = omega arith

  plain-few : (code : List Instr) (n : ℕ) → length code ≤ n → weight (plain code) ≤ n
  plain-few code n h = let e = weight-plain code in omega (arith, e, h)

  inst-few : (block : ℕ) (inst : MInst) → weight (inst_items f places block inst) ≤ static_of inst
  inst-few block (Param d n) = plain-few (inst_code f places (Param d n)) 12 (let x = store-place-short (argument_reg n) (at d) in omega (arith, x))
  inst-few block (Op op d a b) = plain-few (inst_code f places (Op op d a b)) 20 (let x = op-short op (at d) (at a) (at b) in omega (arith, x))
  inst-few block (Imm op d a n) = plain-few (inst_code f places (Imm op d a n)) 12 (let x = imm-short op (at d) (at a) n in omega (arith, x))
  inst-few block (Const d n) = plain-few (inst_code f places (Const d n)) 12 (let x = number-short (at d) n in omega (arith, x))
  inst-few block (Move d a) = plain-few (inst_code f places (Move d a)) 12 (let x = move-short (at d) (at a) in omega (arith, x))
  inst-few block (Load op d a n) = plain-few (inst_code f places (Load op d a n)) 12 (let x = load-code-short op (at d) (at a) n in omega (arith, x))
  inst-few block (Store op a b n) = plain-few (inst_code f places (Store op a b n)) 20 (let x = store-code-short op (at a) (at b) n in omega (arith, x))
  inst-few block (Phi d pairs) = omega arith
  inst-few block (Call g args results) =
      let all = length-append (arguments_code f places 0 args) (call_code g ++ answer_code f places results) in
      let more = length-append (call_code g) (answer_code f places results) in
      let x = arguments-short 0 args in let y = answer-short results in
      plain-few (inst_code f places (Call g args results)) (64 + 12 * length args) (omega (arith, all, more, x, y))
  inst-few block (TakeData d n) = plain-few (inst_code f places (TakeData d n)) 48 (let x = take-short (at d) n in omega (arith, x))
  inst-few block (CopyBytes a b n) =
      plain-few (inst_code f places (CopyBytes a b n)) 64 (let all = length-append (bytes_code (at a) (at b) (at n)) copy_code in let x = bytes-short (at a) (at b) (at n) in omega (arith, all, x))
  inst-few block (FillBytes a b n) =
      plain-few (inst_code f places (FillBytes a b n)) 64 (let all = length-append (bytes_code (at a) (at b) (at n)) fill_code in let x = bytes-short (at a) (at b) (at n) in omega (arith, all, x))
  inst-few block (Branch op a b t e) =
      let operands = fetch T0 (at a) ++ fetch T1 (at b) in
      let all = weight-append (plain operands) (Test op (held_in T0 (at a)) (held_in T1 (at b)) t ∷ goto_items f places block e) in
      let one = weight-plain operands in
      let both = length-append (fetch T0 (at a)) (fetch T1 (at b)) in
      let x = fetch-short T0 (at a) in let y = fetch-short T1 (at b) in let z = goto-few block e in
      omega (arith, all, one, both, x, y, z)
  inst-few block (Jump t) = let x = goto-few block t in omega (arith, x)
  inst-few block (Return rs) =
      let leave = leave_code fr in
      let restore = restore_code fr (used places) in
      let back = give_back (taken f) in
      let first = length-append (result_code f places rs) (back ++ (restore ++ leave)) in
      let second = length-append back (restore ++ leave) in
      let third = length-append restore leave in
      let x = result-short rs in let y = give-back-short (taken f) in let z = restore-short fr (used places) in let u = used-few places 0 11 in let w = leave-short fr in
      plain-few (inst_code f places (Return rs)) 64 (omega (arith, first, second, third, x, y, z, u, w))
  inst-few block Trap = omega arith

  insts-few : (block : ℕ) (insts : List MInst) → weight (insts_items f places block insts) ≤ static_of_block insts
  insts-few block [] = omega arith
  insts-few block (inst ∷ insts) =
      let all = weight-append (inst_items f places block inst) (insts_items f places block insts) in
      let one = inst-few block inst in let rest = insts-few block insts in
      let sum = sum_by-cons static_of inst insts in
      omega (arith, all, one, rest, sum)

  blocks-few : (block : ℕ) (blocks : List (List MInst)) → weight (blocks_items f places block blocks) ≤ sum_by static_of_block blocks
  blocks-few block [] = omega arith
  blocks-few block (insts ∷ blocks) =
      let all = weight-append (insts_items f places block insts) (blocks_items f places (block + 1) blocks) in
      let one = insts-few block insts in let rest = blocks-few (block + 1) blocks in
      let sum = sum_by-cons static_of_block insts blocks in
      omega (arith, all, one, rest, sum)

  pub function-few : weight (function_items f places) ≤ static_weight f
  function-few =
      let entry = entry_code f places in
      let blocks = blocks_items f places 0 f.blocks in
      let all = weight-append (plain entry) blocks in
      let one = weight-plain entry in
      let both = length-append (prologue f.symbol fr) (save_code fr (used places)) in
      let x = prologue-short f.symbol fr in let y = save-short fr (used places) in let u = used-few places 0 11 in let z = blocks-few 0 f.blocks in
      omega (arith, all, one, both, x, y, u, z)

pub few-words : FewWords
unfolding put
few-words f places words made =
    let xs = made.formed in
    let items = function_items f places in
    let bound = (code_of f places).bound in
    let many : length words ≡ sizes xs = ap length made.made ∙ length-map (laid (way bound xs) 0 xs) word_of ∙ laid-size (way bound xs) 0 xs in
    let most' : sizes xs ≤ most_all (assembled items) = subst (λ (ys : List Assembled). sizes xs ≤ most_all ys) made.items (sizes-most xs) in
    let same = most-weight items in
    let few = function-few f places in
    omega (arith, many, most', same, few)
