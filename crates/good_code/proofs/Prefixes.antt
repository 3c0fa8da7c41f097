-- Words that run as a play that refines a function's are good. The replies are taken one by one: as long as the function's play asks for the next of them, those so far
-- fit what the target's play asks, and where it asks for no more, what is left of them changes nothing.
use Rattle.std.proofs.Common.{◌≡◌, ◌≢◌, refl, sym, ap, subst, ◌∙◌, ℕ, ◌+◌, ◌*◌, ◌<◌, ◌≤◌, List, [], ◌∷◌, ◌++◌, length, Some, arith, inl, inr, append_assoc}
use Rattle.std.proofs.lemmas.List.{append-nil}
use Rattle.rv_core.specs.declared.reg.Reg.TheVariants.{A0}
use Rattle.ir_meaning.specs.declared.calls.Reply.{Reply as IrReply}
use Rattle.ir_meaning.specs.Value.{Value}
use Rattle.ir_meaning.specs.Memory.{Memory}
use Rattle.ir_meaning.specs.Play.{PlayEnd, NotEnded}
use Rattle.ir_meaning.specs.Play as plays
use Rattle.ir_meaning.specs.Plays.{Meaning, Invocation, play_of}
use Rattle.ir_meaning.specs.Ranges.{IsInvocation, IsReply, IsReplyTo, Answers, IsMeaning}
use Rattle.rv_play.specs.Machine.{Machine, data_base, data_end}
use Rattle.rv_play.specs.CodePlay.{Point, CodeEnd, CodeReply, code_play}
use Rattle.rv_play.specs.CodePlay as code
use Rattle.rv_play.specs.Good.{IsBase, Enters, AreReplies, RefinesReply, RefinesEnd, IsRunning, arg_regs}
use Rattle.rv_play.proofs.Law.{replies_more}
use Rattle.walks.specs.Walk.{Bits, Reply, End, Calls, Returns, Overflows, Undefined, Play}
use Rattle.walks.specs.Functions.{all_bits, result_bits, entry_of, replies_of, AreAnswers, end_of, IsPlayOf}
use Rattle.walks.specs.Refines.{RefinesBits, AllReply, RefinesEntry, IsDefined, RefinesPlay}
use Rattle.walks.specs.Refines as refines
use Rattle.walks.proofs.Compose.{same_memory, defined_too}
use Rattle.good_code.specs.Runs.{register, entry_at, replies_at, FitReplies, AtEnd, HasCallee, RunsAs}
use Rattle.good_code.specs.Narrow.{AllNarrow, IsNarrow}
use Rattle.walks.specs.Face.{HasOneEnd}
use Rattle.good_code.proofs.MoreReplies.{MoreReplies}
use Rattle.good_code.proofs.MoreReplies as play
use Rattle.good_code.proofs.MoreAnswers.{more_answers, settled}
use Rattle.good_code.proofs.MoreAnswers as run
use Rattle.good_code.proofs.Lists.{SplitLast, split_last}
use Rattle.good_code.proofs.Values.{args_refine, args_held, result_refines, result_held, bytes_refine}

-- ---- lists of replies with one more

answers_of : (m : Meaning) (a : Invocation) (before rs : List IrReply) (callees : List ℕ) → AreAnswers m a before rs callees → Answers m a before rs
answers_of m a before [] callees h = tt
answers_of m a before (r ∷ rs) [] h = absurd h
answers_of m a before (r ∷ rs) (callee ∷ callees) h = (
  λ t symbol args memory e. let q = h.0 t symbol args memory e in subst (λ (z : ℕ). IsReply m z memory r) (sym q.0) q.1,
  answers_of m a (before ++ r ∷ []) rs callees h.1,
)

answers_more : (m : Meaning) (a : Invocation) (before rs : List IrReply) (callees : List ℕ) (r : IrReply) (callee : ℕ) → AreAnswers m a before rs callees
    → IsReplyTo m a (before ++ rs) callee r → AreAnswers m a before (rs ++ r ∷ []) (callees ++ callee ∷ [])
answers_more m a before [] [] r callee h k = (λ t g args memory e. k t g args memory (ap (λ l. play_of m a l t) (append-nil before) ∙ e), tt)
answers_more m a before [] (g ∷ callees) r callee h k = absurd h
answers_more m a before (q ∷ rs) [] r callee h k = absurd h
answers_more m a before (q ∷ rs) (g ∷ callees) r callee h k = (
  h.0,
  answers_more m a (before ++ q ∷ []) rs callees r callee h.1 (λ t g args memory e. k t g args memory (ap (λ l. play_of m a l t) (sym (append_assoc before (q ∷ []) rs)) ∙ e)),
)

-- a reply over bits: in a register, and as the function's play takes it
abbrev reply_at : IrReply → CodeReply → Reply
reply_at r c = record { value = register c.regs A0; memory = r.memory }

abbrev reply_of : Meaning → ℕ → IrReply → Reply
reply_of m callee r = record { value = result_bits (m.result callee) r.value; memory = r.memory }

at_more : (m : Meaning) (a : Invocation) (before rs : List IrReply) (cs : List CodeReply) (r : IrReply) (c : CodeReply) → AreReplies m a before rs cs
    → replies_at (rs ++ r ∷ []) (cs ++ c ∷ []) ≡ replies_at rs cs ++ reply_at r c ∷ []
at_more m a before [] [] r c h = refl
at_more m a before [] (d ∷ cs) r c h = absurd h
at_more m a before (q ∷ rs) [] r c h = absurd h
at_more m a before (q ∷ rs) (d ∷ cs) r c h = ap (λ (z : List Reply). reply_at q d ∷ z) (at_more m a (before ++ q ∷ []) rs cs r c h.3)

of_more : (m : Meaning) (a : Invocation) (before rs : List IrReply) (callees : List ℕ) (r : IrReply) (callee : ℕ) → AreAnswers m a before rs callees
    → replies_of m (rs ++ r ∷ []) (callees ++ callee ∷ []) ≡ replies_of m rs callees ++ reply_of m callee r ∷ []
of_more m a before [] [] r callee h = refl
of_more m a before [] (g ∷ callees) r callee h = absurd h
of_more m a before (q ∷ rs) [] r callee h = absurd h
of_more m a before (q ∷ rs) (g ∷ callees) r callee h = ap (λ (z : List Reply). reply_of m g q ∷ z) (of_more m a (before ++ q ∷ []) rs callees r callee h.1)

all_more : (limit : ℕ) (xs ys : List Reply) (x y : Reply) → AllReply limit xs ys → refines.RefinesReply limit x y → AllReply limit (xs ++ x ∷ []) (ys ++ y ∷ [])
all_more limit [] [] x y h k = (k, tt)
all_more limit [] (y' ∷ ys) x y h k = absurd h
all_more limit (x' ∷ xs) [] x y h k = absurd h
all_more limit (x' ∷ xs) (y' ∷ ys) x y h k = (h.0, all_more limit xs ys x y h.1 k)

-- ---- ends

-- what refines a call of a function calls it too
callee_too : (functions : ℕ) (e e' : End) → IsDefined e → refines.RefinesEnd e e' → HasCallee functions e → HasCallee functions e'
callee_too functions (Calls g args memory) (Calls g' args' memory') d h k = subst (λ (z : ℕ). z < functions) (sym h.0) k
callee_too functions (Returns v memory) (Calls g' args' memory') d h k = absurd h
callee_too functions Overflows (Calls g' args' memory') d h k = absurd h
callee_too functions Undefined (Calls g' args' memory') d h k = absurd d
callee_too functions e (Returns v' memory') d h k = tt
callee_too functions e Overflows d h k = tt
callee_too functions e Undefined d h k = tt

module _ (m : Meaning) (meaning : IsMeaning m) (more : MoreReplies m) (symbol limit : ℕ) (words : List ℕ) (f g : Play) (narrow : IsNarrow m symbol) (room : data_end m ≤ limit)
    (one : HasOneEnd g) (is_play : IsPlayOf m symbol f) (refined : RefinesPlay limit f g) (runs : RunsAs m symbol words g)
    (a : Invocation) (base : ℕ) (s : Machine) (own : a.symbol ≡ symbol) (is : IsInvocation m a) (stands : IsBase words base) (enters : Enters m a s) where
  entries : RefinesEntry limit (entry_of m a) (entry_at m a s)
  entries = record {
    args = args_refine (m.parameters a.symbol) a.args arg_regs s.regs (subst (λ (z : ℕ). AllNarrow (m.parameters z)) (sym own) narrow.own.0) is.args
        (subst (λ (z : ℕ). length (m.parameters z) ≤ 8) (sym own) narrow.few) enters.args;
    memory = same_memory a.memory;
    room = let low = is.room in omega (arith, low, room);
    bytes = is.memory;
    bytes' = is.memory;
    sp = refl;
  }

  -- these replies were asked for, and the target's play is as well answered by them
  record Valid (done : List IrReply) (callees : List ℕ) (cs : List CodeReply) : Type 0 where
    answers : AreAnswers m a [] done callees
    replies : AreReplies m a [] done cs
    refine : AllReply limit (replies_of m done callees) (replies_at done cs)
    fit : FitReplies m.functions g (entry_at m a s) (replies_at done cs)

  no_split : (before behind : List Reply) (q : Reply) → [] ≡ before ++ q ∷ behind → ⊥
  no_split [] behind q h = cc
  no_split (b ∷ before) behind q h = cc

  valid_start : Valid [] [] []
  valid_start = record {
    answers = tt;
    replies = tt;
    refine = tt;
    fit = λ before behind q callee args memory w j split x. absurd (no_split before behind q split);
  }

  -- the target's play comes to the end of the function's
  abbrev Found : List IrReply → List CodeReply → ℕ → End → Type 0
  Found done cs t e = (e' : End) × (w' : ℕ) × (j' : ℕ) × g (entry_at m a s) (replies_at done cs) e' w' j' × refines.RefinesEnd e e' × (w' ≤ 256 * t)

  found : (done : List IrReply) (callees : List ℕ) (cs : List CodeReply) → Valid done callees cs → (t : ℕ) (e : End) → IsDefined e
      → end_of m symbol (play_of m a done t) ≡ Some e → Found done cs t e
  found done callees cs v t e d h =
      let x = is_play.ends a done callees t e own is v.answers h in
      let y = refined.ends (entry_of m a) (entry_at m a s) (replies_of m done callees) (replies_at done cs) e x.0 x.1 entries v.refine d x.2 in
      let low = x.3 in let low' = y.5 in
      (y.0, y.1, y.2, y.3, y.4, omega (arith, low, low'))

  -- the words come to it
  abbrev Came : List CodeReply → ℕ → End → Type 0
  Came cs t e = (e' : End) × (n : ℕ) × refines.RefinesEnd e e' × (n ≤ 256 * t) × AtEnd m a s e' (code_play m words base s cs n)

  came : (done : List IrReply) (callees : List ℕ) (cs : List CodeReply) → Valid done callees cs → (t : ℕ) (e : End) → IsDefined e → HasCallee m.functions e
      → end_of m symbol (play_of m a done t) ≡ Some e → Came cs t e
  came done callees cs v t e d has h =
      let x = found done callees cs v t e d h in
      let y = runs.ends a base s done cs x.0 x.1 x.2 own is stands enters v.replies v.fit x.3 (defined_too e x.0 d x.4) (callee_too m.functions e x.0 d x.4 has) in
      let low = x.5 in let low' = y.1 in
      (x.0, y.0, x.4, omega (arith, low, low'), y.2)

  -- ---- one reply more

  module _ (done : List IrReply) (callees : List ℕ) (cs : List CodeReply) (v : Valid done callees cs) (t callee : ℕ) (args : List Value) (memory : Memory)
      (h : play_of m a done t ≡ plays.Calls callee args memory) where
    abbrev asked : End
    asked = Calls callee (all_bits (m.parameters callee) args) memory

    exists : callee < m.functions
    exists = (meaning.calls a done t callee args memory is (answers_of m a [] done callees v.answers) h).0

    -- each call of the target's play after these replies is the function's
    abbrev Same : ℕ → Memory → Type 0
    Same callee' memory' = (callee' ≡ callee) × (length memory' ≡ length memory)

    same_call : (callee' : ℕ) (args' : List Bits) (memory' : Memory) (w j : ℕ) → g (entry_at m a s) (replies_at done cs) (Calls callee' args' memory') w j → Same callee' memory'
    same_call callee' args' memory' w j x = from (found done callees cs v t asked tt (ap (end_of m symbol) h))
      where
        from : Found done cs t asked → Same callee' memory'
        from (Calls callee'' args'' memory'', w', j', y, r, low) =
            let e = (one (entry_at m a s) (replies_at done cs) (Calls callee' args' memory') (Calls callee'' args'' memory'') w w' j j' x y).0 in
            let callees' : callee' ≡ callee'' = cc in
            let memories : memory' ≡ memory'' = cc in
            (callees' ∙ r.0, ap length memories ∙ r.2.long)
        from (Returns v' memory'', w', j', y, r, low) = absurd r
        from (Overflows, w', j', y, r, low) = absurd r
        from (Undefined, w', j', y, r, low) = absurd r

    module _ (r : IrReply) (c : CodeReply) (is_reply : IsReply m callee memory r) (to : IsReplyTo m a done callee r) (refine : RefinesReply m callee r c) where
      fits : FitReplies m.functions g (entry_at m a s) (replies_at (done ++ r ∷ []) (cs ++ c ∷ []))
      fits before behind q callee' args' memory' w j split x =
          by_split (split_last (replies_at done cs) before behind (reply_at r c) q (sym (at_more m a [] done cs r c v.replies) ∙ split))
        where
          by_split : SplitLast (replies_at done cs) (reply_at r c) before q behind → (callee' < m.functions) × (length q.memory ≡ length memory')
          by_split (inl last) =
              let same = same_call callee' args' memory' w j (subst (λ (z : List Reply). g (entry_at m a s) z (Calls callee' args' memory') w j) last.0 x) in
              (subst (λ (z : ℕ). z < m.functions) (sym same.0) exists, ap (λ (z : Reply). length z.memory) last.1 ∙ is_reply.long ∙ sym same.1)
          by_split (inr earlier) = v.fit before earlier.0 q callee' args' memory' w j earlier.1 x

      reply_refines : refines.RefinesReply limit (reply_of m callee r) (reply_at r c)
      reply_refines = record {
        value = result_refines (m.result callee) r.value c.regs (narrow.callees a done t callee args memory own h).1 refine.result;
        memory = same_memory r.memory;
        room = let low = (meaning.calls a done t callee args memory is (answers_of m a [] done callees v.answers) h).3 in let same = is_reply.long in omega (arith, low, same, room);
        bytes = is_reply.memory';
        bytes' = is_reply.memory';
      }

      valid_next : Valid (done ++ r ∷ []) (callees ++ callee ∷ []) (cs ++ c ∷ [])
      valid_next = record {
        answers = answers_more m a [] done callees r callee v.answers to;
        replies = replies_more m a [] done cs r c callee v.replies to refine;
        refine =
            subst (λ (z : List Reply). AllReply limit z (replies_at (done ++ r ∷ []) (cs ++ c ∷ []))) (sym (of_more m a [] done callees r callee v.answers))
            (subst (λ (z : List Reply). AllReply limit (replies_of m done callees ++ reply_of m callee r ∷ []) z) (sym (at_more m a [] done cs r c v.replies))
            (all_more limit (replies_of m done callees) (replies_at done cs) (reply_of m callee r) (reply_at r c) v.refine reply_refines));
        fit = fits;
      }

    -- the reply that comes next is valid too
    valid_more : (r : IrReply) (c : CodeReply) (rs : List IrReply) (rest : List CodeReply) → AreReplies m a done (r ∷ rs) (c ∷ rest)
        → Valid (done ++ r ∷ []) (callees ++ callee ∷ []) (cs ++ c ∷ [])
    valid_more r c rs rest k =
        let at = k.1 t callee args memory h in
        valid_next r c (subst (λ (z : ℕ). IsReply m z memory r) (sym at.0) at.1) (subst (λ (z : ℕ). IsReplyTo m a done z r) (sym at.0) k.1)
        (subst (λ (z : ℕ). RefinesReply m z r c) (sym at.0) k.2)

  -- ---- the words refine the play after replies that were asked for

  abbrev Refines : List IrReply → List CodeReply → ℕ → Type 0
  Refines rs cs t = RefinesEnd m a s (play_of m a rs t) (code_play m words base s cs (256 * t))

  at_end : (done : List IrReply) (callees : List ℕ) (cs : List CodeReply) → Valid done callees cs → (t : ℕ) (pe : PlayEnd) → play_of m a done t ≡ pe
      → RefinesEnd m a s pe (code_play m words base s cs (256 * t))
  at_end done callees cs v t NotEnded h = tt
  at_end done callees cs v t plays.Undefined h = tt
  at_end done callees cs v t plays.Overflows h = from (came done callees cs v t Overflows tt tt (ap (end_of m symbol) h))
    where
      from : Came cs t Overflows → RefinesEnd m a s plays.Overflows (code_play m words base s cs (256 * t))
      from (Overflows, n, r, le, (p, e, counted)) = (p, settled m words base s cs n (256 * t) (code.Overflows p) le e (λ bad. bad), counted)
      from (Calls g' args' memory', n, r, le, x) = absurd r
      from (Returns v' memory', n, r, le, x) = absurd r
      from (Undefined, n, r, le, x) = absurd r
  at_end done callees cs v t (plays.Calls callee args memory) h =
      from (came done callees cs v t (Calls callee (all_bits (m.parameters callee) args) memory) tt (exists done callees cs v t callee args memory h) (ap (end_of m symbol) h))
    where
      from : Came cs t (Calls callee (all_bits (m.parameters callee) args) memory) → RefinesEnd m a s (plays.Calls callee args memory) (code_play m words base s cs (256 * t))
      from (Calls g' args' memory', n, r, le, (p, e, x)) = (
        p,
        settled m words base s cs n (256 * t) (code.Calls callee p) le (e ∙ ap (λ (z : ℕ). code.Calls z p) r.0) (λ bad. bad),
        record {
          counted = x.counted;
          control = x.control;
          sp = x.sp;
          top = x.top ∙ ap (λ (z : ℕ). data_base + z) r.2.long;
          ra = x.ra;
          registers = args_held (m.parameters callee) args args' arg_regs p.machine.regs (is_play.arguments a done callees t callee args memory is v.answers h) r.1 x.registers;
          memory' = bytes_refine memory memory' p.machine.bytes r.2 x.memory';
        },
      )
      from (Overflows, n, r, le, x) = absurd r
      from (Returns v' memory', n, r, le, x) = absurd r
      from (Undefined, n, r, le, x) = absurd r
  at_end done callees cs v t (plays.Returns value memory) h = from (came done callees cs v t (Returns (result_bits (m.result symbol) value) memory) tt tt (ap (end_of m symbol) h))
    where
      from : Came cs t (Returns (result_bits (m.result symbol) value) memory) → RefinesEnd m a s (plays.Returns value memory) (code_play m words base s cs (256 * t))
      from (Returns v' memory', n, r, le, (p, e, x)) = (
        p,
        settled m words base s cs n (256 * t) (code.Returns p) le e (λ bad. bad),
        record {
          counted = x.counted;
          control = x.control;
          regs = x.regs;
          result = result_held (m.result a.symbol) value v' p.machine.regs (is_play.results a done callees t value memory is v.answers h)
              (subst (λ (z : ℕ). RefinesBits (result_bits (m.result z) value) v') (sym own) r.0) x.result;
          memory' = bytes_refine memory memory' p.machine.bytes r.1 x.memory';
        },
      )
      from (Calls g' args' memory', n, r, le, x) = absurd r
      from (Overflows, n, r, le, x) = absurd r
      from (Undefined, n, r, le, x) = absurd r

  -- ---- replies that nobody asks for change nothing

  play_stays : (done rs : List IrReply) (t : ℕ) (pe : PlayEnd) → play_of m a done t ≡ pe → (play.IsCall pe → ⊥) → play_of m a (done ++ rs) t ≡ pe
  play_stays done rs t pe h over = from (more a done rs t)
    where
      from : play.CallsOrStays (play_of m a done t) (play_of m a (done ++ rs) t) → play_of m a (done ++ rs) t ≡ pe
      from (inl calls) = absurd (over (subst play.IsCall h calls))
      from (inr same) = same ∙ h

  run_stays : (cs rest : List CodeReply) (n : ℕ) (e : CodeEnd) → code_play m words base s cs n ≡ e → (run.IsCall e → ⊥) → code_play m words base s (cs ++ rest) n ≡ e
  run_stays cs rest n e h over = from (more_answers m words base s cs rest n)
    where
      from : run.CallsOrStays (code_play m words base s cs n) (code_play m words base s (cs ++ rest) n) → code_play m words base s (cs ++ rest) n ≡ e
      from (inl calls) = absurd (over (subst run.IsCall h calls))
      from (inr same) = same ∙ h

  refines_stays : (done rs : List IrReply) (cs rest : List CodeReply) (t : ℕ) (pe : PlayEnd) → play_of m a done t ≡ pe → (play.IsCall pe → ⊥)
      → RefinesEnd m a s pe (code_play m words base s cs (256 * t)) → Refines (done ++ rs) (cs ++ rest) t
  refines_stays done rs cs rest t pe h over x =
      subst (λ (z : PlayEnd). RefinesEnd m a s z (code_play m words base s (cs ++ rest) (256 * t))) (sym (play_stays done rs t pe h over)) (by_end pe over x)
    where
      by_end : (pe : PlayEnd) → (play.IsCall pe → ⊥) → RefinesEnd m a s pe (code_play m words base s cs (256 * t)) → RefinesEnd m a s pe (code_play m words base s (cs ++ rest) (256 * t))
      by_end (plays.Calls callee args memory) over x = absurd (over tt)
      by_end (plays.Returns value memory) over x = (x.0, run_stays cs rest (256 * t) (code.Returns x.0) x.1 (λ bad. bad), x.2)
      by_end plays.Overflows over x = (x.0, run_stays cs rest (256 * t) (code.Overflows x.0) x.1 (λ bad. bad), x.2)
      by_end NotEnded over x = tt
      by_end plays.Undefined over x = tt

  -- the replies that are left
  abbrev GoesOn : List IrReply → List CodeReply → ℕ → Type 0
  GoesOn rs rest t = (done : List IrReply) (callees : List ℕ) (cs : List CodeReply) → Valid done callees cs → AreReplies m a done rs rest → Refines (done ++ rs) (cs ++ rest) t

  refines_next : (r : IrReply) (rs : List IrReply) (c : CodeReply) (rest : List CodeReply) (t : ℕ) → GoesOn rs rest t
      → (done : List IrReply) (callees : List ℕ) (cs : List CodeReply) → Valid done callees cs → AreReplies m a done (r ∷ rs) (c ∷ rest)
      → (pe : PlayEnd) → play_of m a done t ≡ pe → RefinesEnd m a s pe (code_play m words base s cs (256 * t)) → Refines (done ++ r ∷ rs) (cs ++ c ∷ rest) t
  refines_next r rs c rest t ih done callees cs v k (plays.Calls callee args memory) h x =
      subst (λ (z : List IrReply). Refines z (cs ++ c ∷ rest) t) (append_assoc done (r ∷ []) rs)
      (subst (λ (z : List CodeReply). Refines ((done ++ r ∷ []) ++ rs) z t) (append_assoc cs (c ∷ []) rest)
      (ih (done ++ r ∷ []) (callees ++ callee ∷ []) (cs ++ c ∷ []) (valid_more done callees cs v t callee args memory h r c rs rest k) k.3))
  refines_next r rs c rest t ih done callees cs v k (plays.Returns value memory) h x = refines_stays done (r ∷ rs) cs (c ∷ rest) t (plays.Returns value memory) h (λ bad. bad) x
  refines_next r rs c rest t ih done callees cs v k plays.Overflows h x = refines_stays done (r ∷ rs) cs (c ∷ rest) t plays.Overflows h (λ bad. bad) x
  refines_next r rs c rest t ih done callees cs v k NotEnded h x = refines_stays done (r ∷ rs) cs (c ∷ rest) t NotEnded h (λ bad. bad) x
  refines_next r rs c rest t ih done callees cs v k plays.Undefined h x = refines_stays done (r ∷ rs) cs (c ∷ rest) t plays.Undefined h (λ bad. bad) x

  refines_from : (rs : List IrReply) (rest : List CodeReply) (t : ℕ) → GoesOn rs rest t
  refines_from [] [] t done callees cs v k =
      subst (λ (z : List IrReply). Refines z (cs ++ []) t) (sym (append-nil done))
      (subst (λ (z : List CodeReply). Refines done z t) (sym (append-nil cs)) (at_end done callees cs v t (play_of m a done t) refl))
  refines_from [] (c ∷ rest) t done callees cs v k = absurd k
  refines_from (r ∷ rs) [] t done callees cs v k = absurd k
  refines_from (r ∷ rs) (c ∷ rest) t done callees cs v k =
      refines_next r rs c rest t (refines_from rs rest t) done callees cs v k (play_of m a done t) refl (at_end done callees cs v t (play_of m a done t) refl)

  pub refines_all : (rs : List IrReply) (cs : List CodeReply) (t : ℕ) → AreReplies m a [] rs cs → RefinesEnd m a s (play_of m a rs t) (code_play m words base s cs (256 * t))
  refines_all rs cs t k = refines_from rs cs t [] [] [] valid_start k

  -- ---- where the words have ended, the play ends

  abbrev PlayEnds : List IrReply → Type 0
  PlayEnds rs = (t : ℕ) × (play_of m a rs t ≢ NotEnded)

  ended_at : (done : List IrReply) (callees : List ℕ) (cs : List CodeReply) → Valid done callees cs → (n : ℕ) → (IsRunning (code_play m words base s cs n) → ⊥) → PlayEnds done
  ended_at done callees cs v n over =
      let x = runs.ended a base s done cs n own is stands enters v.replies v.fit over in
      let y = refined.ended (entry_of m a) (entry_at m a s) (replies_of m done callees) (replies_at done cs) x.0 x.1 x.2 entries v.refine x.3 in
      is_play.ended a done callees y.0 y.1 y.2 own is v.answers y.3

  -- a run that goes on does so with more answers
  running_stays : (cs rest : List CodeReply) (n : ℕ) → (IsRunning (code_play m words base s (cs ++ rest) n) → ⊥) → IsRunning (code_play m words base s cs n) → ⊥
  running_stays cs rest n over = by_end (code_play m words base s cs n) refl
    where
      by_end : (e : CodeEnd) → code_play m words base s cs n ≡ e → IsRunning e → ⊥
      by_end (code.Running p) h on = over (subst IsRunning (sym (run_stays cs rest n (code.Running p) h (λ bad. bad))) tt)
      by_end (code.Calls callee p) h on = on
      by_end (code.Returns p) h on = on
      by_end (code.Overflows p) h on = on
      by_end (code.Fault p) h on = on

  abbrev EndsToo : List IrReply → List CodeReply → ℕ → Type 0
  EndsToo rs rest n = (done : List IrReply) (callees : List ℕ) (cs : List CodeReply) → Valid done callees cs → AreReplies m a done rs rest
      → (IsRunning (code_play m words base s (cs ++ rest) n) → ⊥) → PlayEnds (done ++ rs)

  ended_next : (r : IrReply) (rs : List IrReply) (c : CodeReply) (rest : List CodeReply) (n : ℕ) → EndsToo rs rest n
      → (done : List IrReply) (callees : List ℕ) (cs : List CodeReply) → Valid done callees cs → AreReplies m a done (r ∷ rs) (c ∷ rest)
      → (IsRunning (code_play m words base s (cs ++ c ∷ rest) n) → ⊥) → (t : ℕ) (pe : PlayEnd) → play_of m a done t ≡ pe → pe ≢ NotEnded → PlayEnds (done ++ r ∷ rs)
  ended_next r rs c rest n ih done callees cs v k over t (plays.Calls callee args memory) h some =
      subst PlayEnds (append_assoc done (r ∷ []) rs)
      (ih (done ++ r ∷ []) (callees ++ callee ∷ []) (cs ++ c ∷ []) (valid_more done callees cs v t callee args memory h r c rs rest k) k.3
      (subst (λ (z : List CodeReply). IsRunning (code_play m words base s z n) → ⊥) (sym (append_assoc cs (c ∷ []) rest)) over))
  ended_next r rs c rest n ih done callees cs v k over t (plays.Returns value memory) h some =
      (t, λ e. some (sym (play_stays done (r ∷ rs) t (plays.Returns value memory) h (λ bad. bad)) ∙ e))
  ended_next r rs c rest n ih done callees cs v k over t plays.Overflows h some = (t, λ e. some (sym (play_stays done (r ∷ rs) t plays.Overflows h (λ bad. bad)) ∙ e))
  ended_next r rs c rest n ih done callees cs v k over t NotEnded h some = absurd (some refl)
  ended_next r rs c rest n ih done callees cs v k over t plays.Undefined h some = (t, λ e. some (sym (play_stays done (r ∷ rs) t plays.Undefined h (λ bad. bad)) ∙ e))

  ended_from : (rs : List IrReply) (rest : List CodeReply) (n : ℕ) → EndsToo rs rest n
  ended_from [] [] n done callees cs v k over =
      subst PlayEnds (sym (append-nil done)) (ended_at done callees cs v n (subst (λ (z : List CodeReply). IsRunning (code_play m words base s z n) → ⊥) (append-nil cs) over))
  ended_from [] (c ∷ rest) n done callees cs v k over = absurd k
  ended_from (r ∷ rs) [] n done callees cs v k over = absurd k
  ended_from (r ∷ rs) (c ∷ rest) n done callees cs v k over =
      let x = ended_at done callees cs v n (running_stays cs (c ∷ rest) n over) in
      ended_next r rs c rest n (ended_from rs rest n) done callees cs v k over x.0 (play_of m a done x.0) refl x.1

  pub ended_all : (rs : List IrReply) (cs : List CodeReply) (n : ℕ) → AreReplies m a [] rs cs → (IsRunning (code_play m words base s cs n) → ⊥) → PlayEnds rs
  ended_all rs cs n k over = ended_from rs cs n [] [] [] valid_start k over
