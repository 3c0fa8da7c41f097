-- Words that do for each step of a walk what it does run as the walk's play. A compiler shows what its words do for one step (`Advances`), from any point at which they stand
-- for the walk's state; the rest is proved here.
use Rattle.std.proofs.Common.{◌≡◌, refl, sym, ap, subst, ◌∙◌, ℕ, zero, suc, ◌+◌, ◌-◌, ◌<◌, ◌≤◌, ◌⊎◌, inl, inr, List, [], ◌∷◌, ◌++◌, length, Bool, true, false, cond, arith}
use Rattle.std.specs.Prelude.{nat_lt}
use Rattle.std.proofs.lemmas.Bool.{ltb-false, le-ltb, cases_lt}
use Rattle.rv_core.specs.declared.reg.Reg.TheVariants.{A0}
use Rattle.ir_meaning.specs.declared.calls.Reply.{Reply as IrReply}
use Rattle.ir_meaning.specs.Memory.{Memory}
use Rattle.ir_meaning.specs.Plays.{Meaning, Invocation}
use Rattle.ir_meaning.specs.Ranges.{IsInvocation}
use Rattle.rv_play.specs.Machine.{Machine}
use Rattle.rv_play.specs.CodePlay.{Place, Point, CodeEnd, CodeReply, Running, code_run, code_play, go_on, place_of, resume, entered}
use Rattle.rv_play.specs.CodePlay as code
use Rattle.rv_play.specs.Good.{IsBase, Enters, AreReplies, RefinesReply, IsRunning}
use Rattle.walks.specs.Walk.{Bits, Reply, Does, Goes, Asks, Gives, Wants, Breaks, Step, Walk, End, Calls, Returns, Overflows, Undefined, Ends, returns, overflows, breaks, calls, goes, answered, play_of}
use Rattle.walks.specs.Refines.{IsDefined}
use Rattle.good_code.specs.Runs.{register, entry_at, replies_at, FitReplies, AtCall, AtReturn, AtEnd, HasCallee, RunsAs}
use Rattle.good_code.proofs.MoreAnswers.{RunsOrStays, run-settles}

-- ---- runs of words

module _ (m : Meaning) (place : Place) where
  -- a run that goes on has gone on before
  pub ran_before : (n k : ℕ) (p : Point) (cs : List CodeReply) → n ≤ k → IsRunning (code_run m place k p cs) → IsRunning (code_run m place n p cs)
  ran_before n k p cs le on = from (run-settles m place n (k - n) p cs)
    where
      from : RunsOrStays (code_run m place n p cs) (code_run m place (n + (k - n)) p cs) → IsRunning (code_run m place n p cs)
      from (inl running) = running
      from (inr same) = subst IsRunning (ap (λ (z : ℕ). code_run m place z p cs) (let e : k ≡ n + (k - n) = omega arith in e) ∙ same) on

  -- whatever steps and answers follow, a run of n steps goes from a point to a point
  abbrev pub Leads : ℕ → Point → Point → Type 0
  Leads n p q = (f : ℕ) (cs : List CodeReply) → code_run m place (n + f) p cs ≡ code_run m place f q cs

  -- a run of fewer steps goes on
  pub leads_on : (n k : ℕ) (p q : Point) (cs : List CodeReply) → n ≤ k → Leads k p q → IsRunning (code_run m place n p cs)
  leads_on n k p q cs le run = ran_before n (k + 0) p cs (omega arith) (subst IsRunning (sym (run 0 cs)) tt)

  -- what is left behind them
  pub leads_left : (n k : ℕ) (p q : Point) (cs : List CodeReply) → k ≤ n → Leads k p q → code_run m place n p cs ≡ code_run m place (n - k) q cs
  leads_left n k p q cs le run = ap (λ (j : ℕ). code_run m place j p cs) (let e : n ≡ k + (n - k) = omega arith in e) ∙ run (n - k) cs

-- ---- one step

module _ (m : Meaning) (S : Type 0) (a : Invocation) (s : Machine) (place : Place) (At : S → Point → Type 0) (left : S → ℕ) where
  abbrev Run : ℕ → Point → List CodeReply → CodeEnd
  Run = code_run m place

  -- The words have come to the next state, by some instruction, or the state's measure has fallen below this one. So many steps of the weight are spent before.
  pub record Onward (spent top weight : ℕ) (p : Point) (next : S) : Type 0 where
    pub count : ℕ
    pub point : Point
    pub moves : (1 ≤ count) ⊎ (left next < top)
    pub few : spent + count ≤ weight
    pub run : Leads m place count p point
    pub at : At next point

  -- they go on behind a call that was answered
  pub record Resumed (more : ℕ) (p : Point) (next : S) : Type 0 where
    pub point : Point
    pub run : Leads m place more p point
    pub at : At next point

  -- they call, and go on behind each answer that leaves data memory as long as it was
  pub record Asked (spent weight : ℕ) (p : Point) (callee : ℕ) (args : List Bits) (memory : Memory) (next : Reply → S) : Type 0 where
    pub count : ℕ
    pub more : ℕ
    pub point : Point
    pub some : 1 ≤ count
    pub few : spent + count + more ≤ weight
    pub run : (f : ℕ) (cs : List CodeReply) → Run (count + f) p cs ≡ go_on (Run f) cs (code.Calls callee point)
    pub call : AtCall m a s args memory point
    pub back : (r : IrReply) (c : CodeReply) (of : ℕ) → RefinesReply m of r c → length r.memory ≡ length memory
        → Resumed more (resume point c) (next (record { value = register c.regs A0; memory = r.memory }))

  -- they end
  pub record Stopped (spent weight : ℕ) (p : Point) (end : Point → CodeEnd) (Is : Point → Type 0) : Type 0 where
    pub count : ℕ
    pub point : Point
    pub few : spent + count ≤ weight
    pub run : (f : ℕ) (cs : List CodeReply) → Run (count + f) p cs ≡ end point
    pub is : Is point

  -- what the words do where a step of this weight does this: nothing is asked where it is undefined, or where it calls what isn't there
  abbrev pub Advances : ℕ → ℕ → ℕ → Point → Does S → Type 0
  Advances spent top weight p (Goes next) = Onward spent top weight p next
  Advances spent top weight p (Asks callee args memory next) = callee < m.functions → Asked spent weight p callee args memory next
  Advances spent top weight p (Gives value memory) = Stopped spent weight p code.Returns (AtReturn a s value memory)
  Advances spent top weight p Wants = Stopped spent weight p code.Overflows (λ q. q.counted ≡ a.symbol ∷ [])
  Advances spent top weight p Breaks = Unit {0}

  -- at each state, from each point at which the words stand for it
  abbrev pub Steps : (S → Step S) → Type 0
  Steps step = (now : S) (p : Point) → At now p → Advances 0 (left now) (step now).weight p (step now).does

  module _ (step : S → Step S) where
    -- the replies fit what is called from this step on
    abbrev pub Fit : Step S → List Reply → Type 0
    Fit st qs = (before behind : List Reply) (r : Reply) (callee : ℕ) (args : List Bits) (memory : Memory) (w j : ℕ)
        → qs ≡ before ++ r ∷ behind → Ends S step st before (Calls callee args memory) w j → (callee < m.functions) × (length r.memory ≡ length memory)

    fit_next : (st : Step S) (now : S) (qs : List Reply) → st.does ≡ Goes now → Fit st qs → Fit (step now) qs
    fit_next st now qs h fit before behind r callee args memory w j split x = fit before behind r callee args memory (st.weight + w) (st.jumps + j) split (goes now h x)

    fit_behind : (st : Step S) (callee : ℕ) (args : List Bits) (memory : Memory) (next : Reply → S) (q : Reply) (qs : List Reply) → st.does ≡ Asks callee args memory next
        → Fit st (q ∷ qs) → Fit (step (next q)) qs
    fit_behind st callee args memory next q qs h fit before behind r callee' args' memory' w j split x =
        fit (q ∷ before) behind r callee' args' memory' (st.weight + w) (st.jumps + j) (ap (λ (z : List Reply). q ∷ z) split) (answered callee args memory next q h x)

    fit_here : (st : Step S) (callee : ℕ) (args : List Bits) (memory : Memory) (next : Reply → S) (q : Reply) (qs : List Reply) → st.does ≡ Asks callee args memory next
        → Fit st (q ∷ qs) → (callee < m.functions) × (length q.memory ≡ length memory)
    fit_here st callee args memory next q qs h fit = fit [] qs q callee args memory st.weight st.jumps refl (calls callee args memory next h)

  module _ (step : S → Step S) (steps : Steps step) where
    -- ---- the words come to each end

    abbrev Comes : ℕ → Point → List CodeReply → End → ℕ → Type 0
    Comes spent p cs e w = (n : ℕ) × (spent + n ≤ w) × AtEnd m a s e (Run n p cs)

    -- after some steps
    comes_later : (spent count w1 w : ℕ) (p q : Point) (cs : List CodeReply) (e : End) → Leads m place count p q → spent + count ≤ w1 → Comes 0 q cs e w → Comes spent p cs e (w1 + w)
    comes_later spent count w1 w p q cs e run few x =
        let low = x.1 in (count + x.0, omega (arith, few, low), subst (λ (z : CodeEnd). AtEnd m a s e z) (sym (run x.0 cs)) x.2)

    -- after some steps to a call, and some behind the answer
    comes_behind : (spent count more w1 w callee : ℕ) (p point q : Point) (c : CodeReply) (cs : List CodeReply) (e : End)
        → ((f : ℕ) (cs : List CodeReply) → Run (count + f) p cs ≡ go_on (Run f) cs (code.Calls callee point)) → Leads m place more (resume point c) q → spent + count + more ≤ w1
        → Comes 0 q cs e w → Comes spent p (c ∷ cs) e (w1 + w)
    comes_behind spent count more w1 w callee p point q c cs e run back few x =
        let low = x.1 in
        (count + (more + x.0), omega (arith, few, low), subst (λ (z : CodeEnd). AtEnd m a s e z) (sym (run (more + x.0) (c ∷ cs) ∙ back x.0 cs)) x.2)

    pub comes : {st : Step S} {qs : List Reply} {e : End} {w j : ℕ} → Ends S step st qs e w j
        → (spent top : ℕ) (before rs : List IrReply) (cs : List CodeReply) (p : Point) → qs ≡ replies_at rs cs → AreReplies m a before rs cs → Fit step st qs
        → Advances spent top st.weight p st.does → IsDefined e → HasCallee m.functions e → Comes spent p cs e w
    comes (returns {st = st} value memory h) spent top before rs cs p same replies fit o d has =
        let x : Stopped spent st.weight p code.Returns (AtReturn a s value memory) = subst (Advances spent top st.weight p) h o in
        (x.count, x.few, (x.point, ap (λ (z : ℕ). Run z p cs) (let e : x.count ≡ x.count + 0 = omega arith in e) ∙ x.run 0 cs, x.is))
    comes (overflows {st = st} h) spent top before rs cs p same replies fit o d has =
        let x : Stopped spent st.weight p code.Overflows (λ q. q.counted ≡ a.symbol ∷ []) = subst (Advances spent top st.weight p) h o in
        (x.count, x.few, (x.point, ap (λ (z : ℕ). Run z p cs) (let e : x.count ≡ x.count + 0 = omega arith in e) ∙ x.run 0 cs, x.is))
    comes (breaks h) spent top before rs cs p same replies fit o d has = absurd d
    comes (calls {st = st} callee args memory next h) spent top before [] [] p same replies fit o d has =
        let x : Asked spent st.weight p callee args memory next = subst (Advances spent top st.weight p) h o has in
        let few = x.few in
        (x.count, omega (arith, few), (x.point, ap (λ (z : ℕ). Run z p []) (let e : x.count ≡ x.count + 0 = omega arith in e) ∙ x.run 0 [], x.call))
    comes (calls callee args memory next h) spent top before [] (c ∷ cs) p same replies fit o d has = absurd replies
    comes (calls callee args memory next h) spent top before (r ∷ rs) [] p same replies fit o d has = absurd replies
    comes (calls callee args memory next h) spent top before (r ∷ rs) (c ∷ cs) p same replies fit o d has = absurd (let bad : ⊥ = cc in bad)
    comes (goes {st = st} {rs = qs} {e = e} {w = w} now h rest) spent top before rs cs p same replies fit o d has =
        let x : Onward spent top st.weight p now = subst (Advances spent top st.weight p) h o in
        comes_later spent x.count st.weight w p x.point cs e x.run x.few
        (comes rest 0 (left now) before rs cs x.point same replies (fit_next step st now qs h fit) (steps now x.point x.at) d has)
    comes (answered callee args memory next q h rest) spent top before [] [] p same replies fit o d has = absurd (let bad : ⊥ = cc in bad)
    comes (answered callee args memory next q h rest) spent top before [] (c ∷ cs) p same replies fit o d has = absurd replies
    comes (answered callee args memory next q h rest) spent top before (r ∷ rs) [] p same replies fit o d has = absurd replies
    comes (answered {st = st} {rs = qs} {e = e} {w = w} callee args memory next q h rest) spent top before (r ∷ rs) (c ∷ cs) p same replies fit o d has =
        let first : q ≡ record { value = register c.regs A0; memory = r.memory } = cc in
        let others : qs ≡ replies_at rs cs = cc in
        let here = fit_here step st callee args memory next q qs h fit in
        let x : Asked spent st.weight p callee args memory next = subst (Advances spent top st.weight p) h o here.0 in
        let b = x.back r c replies.0 replies.2 (ap (λ (z : Reply). length z.memory) (sym first) ∙ here.1) in
        let at : At (next q) b.point = subst (λ (z : Reply). At (next z) b.point) (sym first) b.at in
        comes_behind spent x.count x.more st.weight w callee p x.point b.point c cs e x.run b.run x.few
        (comes rest 0 (left (next q)) (before ++ r ∷ []) rs cs b.point others replies.3 (fit_behind step st callee args memory next q qs h fit) (steps (next q) b.point at) d has)

    -- ---- where the words have ended, the play ends

    abbrev Ended : Step S → List Reply → Type 0
    Ended st qs = (e : End) × (w : ℕ) × (j : ℕ) × Ends S step st qs e w j

    -- within so many steps, with this measure or less
    abbrev EndsToo : ℕ → ℕ → Type 0
    EndsToo bound top = (n : ℕ) (now : S) (before rs : List IrReply) (cs : List CodeReply) (p : Point) → n ≤ bound → left now ≤ top → At now p → AreReplies m a before rs cs
        → Fit step (step now) (replies_at rs cs) → (IsRunning (Run n p cs) → ⊥) → Ended (step now) (replies_at rs cs)

    ended_goes : (st : Step S) (now : S) (qs : List Reply) → st.does ≡ Goes now → Ended (step now) qs → Ended st qs
    ended_goes st now qs h x = (x.0, st.weight + x.1, st.jumps + x.2, goes now h x.3)

    ended_next : (spent bound top : ℕ) → ((l : ℕ) → EndsToo bound l) → ((l : ℕ) → l < top → EndsToo (suc bound) l)
        → (n : ℕ) (st : Step S) (before rs : List IrReply) (cs : List CodeReply) (p : Point) (now : S) → n ≤ suc bound → AreReplies m a before rs cs
        → Fit step st (replies_at rs cs) → (IsRunning (Run n p cs) → ⊥) → st.does ≡ Goes now → Onward spent top st.weight p now → Ended st (replies_at rs cs)
    ended_next spent bound top ih same n st before rs cs p now le replies fit over h o = ended_goes st now (replies_at rs cs) h (by_count (cases_lt n o.count))
      where
        by_count : (n < o.count) ⊎ (o.count ≤ n) → Ended (step now) (replies_at rs cs)
        by_count (inl short) = absurd (over (leads_on m place n o.count p o.point cs (omega (arith, short)) o.run))
        by_count (inr long) = by_move o.moves
          where
            over' : IsRunning (Run (n - o.count) o.point cs) → ⊥
            over' on = over (subst IsRunning (sym (leads_left m place n o.count p o.point cs long o.run)) on)

            by_move : (1 ≤ o.count) ⊎ (left now < top) → Ended (step now) (replies_at rs cs)
            by_move (inl some) = ih (left now) (n - o.count) now before rs cs o.point (omega (arith, some, le)) (omega arith) o.at replies (fit_next step st now (replies_at rs cs) h fit) over'
            by_move (inr fewer) = same (left now) fewer (n - o.count) now before rs cs o.point (omega (arith, le)) (omega arith) o.at replies (fit_next step st now (replies_at rs cs) h fit) over'

    ended_behind : (spent bound : ℕ) → ((l : ℕ) → EndsToo bound l)
        → (n : ℕ) (st : Step S) (before rs : List IrReply) (cs : List CodeReply) (r : IrReply) (c : CodeReply) (p : Point) (callee : ℕ) (args : List Bits) (memory : Memory) (next : Reply → S)
        → n ≤ suc bound → AreReplies m a before (r ∷ rs) (c ∷ cs) → Fit step st (replies_at (r ∷ rs) (c ∷ cs)) → (IsRunning (Run n p (c ∷ cs)) → ⊥)
        → st.does ≡ Asks callee args memory next → length r.memory ≡ length memory → Asked spent st.weight p callee args memory next → Ended st (replies_at (r ∷ rs) (c ∷ cs))
    ended_behind spent bound ih n st before rs cs r c p callee args memory next le replies fit over h long o = by_count (cases_lt n o.count)
      where
        reply : Reply
        reply = record { value = register c.regs A0; memory = r.memory }

        by_count : (n < o.count) ⊎ (o.count ≤ n) → Ended st (replies_at (r ∷ rs) (c ∷ cs))
        by_count (inl short) = absurd (over (ran_before m place n (o.count + 0) p (c ∷ cs) (omega (arith, short)) (subst IsRunning (sym (o.run 0 (c ∷ cs))) tt)))
        by_count (inr enough) = by_more (cases_lt (n - o.count) o.more)
          where
            b : Resumed o.more (resume o.point c) (next reply)
            b = o.back r c replies.0 replies.2 long

            left_over : Run n p (c ∷ cs) ≡ Run (n - o.count) (resume o.point c) cs
            left_over = ap (λ (j : ℕ). Run j p (c ∷ cs)) (let e : n ≡ o.count + (n - o.count) = omega (arith, enough) in e) ∙ o.run (n - o.count) (c ∷ cs)

            by_more : (n - o.count < o.more) ⊎ (o.more ≤ n - o.count) → Ended st (replies_at (r ∷ rs) (c ∷ cs))
            by_more (inl short) = absurd (over (subst IsRunning (sym left_over) (leads_on m place (n - o.count) o.more (resume o.point c) b.point cs (omega (arith, short)) b.run)))
            by_more (inr far) =
                let some = o.some in
                let x = ih (left (next reply)) (n - o.count - o.more) (next reply) (before ++ r ∷ []) rs cs b.point (omega (arith, some, le)) (omega arith) b.at replies.3
                (fit_behind step st callee args memory next reply (replies_at rs cs) h fit)
                (λ on. over (subst IsRunning (sym (left_over ∙ leads_left m place (n - o.count) o.more (resume o.point c) b.point cs far b.run)) on)) in
                (x.0, st.weight + x.1, st.jumps + x.2, answered callee args memory next reply h x.3)

    ended_does : (spent bound top : ℕ) → ((l : ℕ) → EndsToo bound l) → ((l : ℕ) → l < top → EndsToo (suc bound) l)
        → (n : ℕ) (st : Step S) (before rs : List IrReply) (cs : List CodeReply) (p : Point) → n ≤ suc bound → AreReplies m a before rs cs
        → Fit step st (replies_at rs cs) → (IsRunning (Run n p cs) → ⊥) → (does : Does S) → st.does ≡ does → Advances spent top st.weight p does → Ended st (replies_at rs cs)
    ended_does spent bound top ih same n st before rs cs p le replies fit over (Goes now) h o = ended_next spent bound top ih same n st before rs cs p now le replies fit over h o
    ended_does spent bound top ih same n st before [] [] p le replies fit over (Asks callee args memory next) h o = (Calls callee args memory, st.weight, st.jumps, calls callee args memory next h)
    ended_does spent bound top ih same n st before [] (c ∷ cs) p le replies fit over (Asks callee args memory next) h o = absurd replies
    ended_does spent bound top ih same n st before (r ∷ rs) [] p le replies fit over (Asks callee args memory next) h o = absurd replies
    ended_does spent bound top ih same n st before (r ∷ rs) (c ∷ cs) p le replies fit over (Asks callee args memory next) h o =
        let here = fit_here step st callee args memory next (record { value = register c.regs A0; memory = r.memory }) (replies_at rs cs) h fit in
        ended_behind spent bound ih n st before rs cs r c p callee args memory next le replies fit over h here.1 (o here.0)
    ended_does spent bound top ih same n st before rs cs p le replies fit over (Gives value memory) h o = (Returns value memory, st.weight, st.jumps, returns value memory h)
    ended_does spent bound top ih same n st before rs cs p le replies fit over Wants h o = (Overflows, st.weight, st.jumps, overflows h)
    ended_does spent bound top ih same n st before rs cs p le replies fit over Breaks h o = (Undefined, st.weight, st.jumps, breaks h)

    ends_top : (bound : ℕ) → ((l : ℕ) → EndsToo bound l) → (top : ℕ) → EndsToo (suc bound) top
    ends_top bound ih zero n now before rs cs p le few at replies fit over =
        ended_does 0 bound (left now) ih (λ l lt. absurd (let bad : ⊥ = omega (arith, lt, few) in bad)) n (step now) before rs cs p le replies fit over (step now).does refl (steps now p at)
    ends_top bound ih (suc top) n now before rs cs p le few at replies fit over =
        ended_does 0 bound (left now) ih
        (λ l lt k now' before' rs' cs' p' le' few' at' replies' fit' over'. ends_top bound ih top k now' before' rs' cs' p' le' (omega (arith, lt, few, few')) at' replies' fit' over')
        n (step now) before rs cs p le replies fit over (step now).does refl (steps now p at)

    ends_too : (bound top : ℕ) → EndsToo bound top
    ends_too zero top n now before rs cs p le few at replies fit over = absurd (over (subst (λ (k : ℕ). IsRunning (Run k p cs)) (let e : 0 ≡ n = omega arith in e) tt))
    ends_too (suc bound) top n now before rs cs p le few at replies fit over = ends_top bound (ends_too bound) top n now before rs cs p le few at replies fit over

    -- from a step at which the words stand
    pub ended : (spent top n : ℕ) (st : Step S) (rs : List IrReply) (cs : List CodeReply) (p : Point) → AreReplies m a [] rs cs → Fit step st (replies_at rs cs) → (IsRunning (Run n p cs) → ⊥)
        → Advances spent top st.weight p st.does → Ended st (replies_at rs cs)
    ended spent top n st rs cs p replies fit over o =
        ended_does spent n top (ends_too n) (λ l lt. ends_too (suc n) l) n st [] rs cs p (omega arith) replies fit over st.does refl o

-- ---- from the entry

-- how words of a function stand for the states of a walk, by where they stand and with which machine they were entered
module _ (m : Meaning) (symbol : ℕ) (words : List ℕ) (p : Walk) (At : Invocation → ℕ → Machine → p.State → Point → Type 0) (left : p.State → ℕ) where
  abbrev Doing : Invocation → ℕ → Machine → ℕ → ℕ → ℕ → Point → Does p.State → Type 0
  Doing a base s = Advances m p.State a s (place_of words base s) (At a base s) left

  -- behind the stub's three steps the words do what the entry does, and then what each step does
  pub record DoesEach : Type 0 where
    pub begins : (a : Invocation) (base : ℕ) (s : Machine) → a.symbol ≡ symbol → IsInvocation m a → IsBase words base → Enters m a s
        → (top : ℕ) × Doing a base s 3 top (p.enter (entry_at m a s)).weight (entered base s) (p.enter (entry_at m a s)).does
    pub goes_on : (a : Invocation) (base : ℕ) (s : Machine) → a.symbol ≡ symbol → IsInvocation m a → IsBase words base → Enters m a s
        → Steps m p.State a s (place_of words base s) (At a base s) left p.step

  behind_stub : (base : ℕ) (s : Machine) (n : ℕ) (cs : List CodeReply) → 3 ≤ n → code_play m words base s cs n ≡ code_run m (place_of words base s) (n - 3) (entered base s) cs
  behind_stub base s n cs le =
      ap (λ (b : Bool). cond b (Running (record { machine = s; counted = []; steps = n })) (code_run m (place_of words base s) (n - 3) (entered base s) cs)) (le-ltb _ _ le)

  ended_all : DoesEach → (a : Invocation) (base : ℕ) (s : Machine) (rs : List IrReply) (cs : List CodeReply) (n : ℕ) → a.symbol ≡ symbol → IsInvocation m a → IsBase words base → Enters m a s
      → AreReplies m a [] rs cs → FitReplies m.functions (play_of p) (entry_at m a s) (replies_at rs cs) → (IsRunning (code_play m words base s cs n) → ⊥) → (short : Bool) → nat_lt n 3 ≡ short
      → (e : End) × (w : ℕ) × (j : ℕ) × play_of p (entry_at m a s) (replies_at rs cs) e w j
  ended_all each a base s rs cs n own is stands enters replies fit over true e =
      absurd (over (subst (λ (b : Bool). IsRunning (cond b (Running (record { machine = s; counted = []; steps = n })) (code_run m (place_of words base s) (n - 3) (entered base s) cs))) (sym e) tt))
  ended_all each a base s rs cs n own is stands enters replies fit over false e =
      let b = each.begins a base s own is stands enters in
      ended m p.State a s (place_of words base s) (At a base s) left p.step (each.goes_on a base s own is stands enters) 3 b.0 (n - 3) (p.enter (entry_at m a s)) rs cs (entered base s) replies fit
      (λ on. over (subst IsRunning (sym (behind_stub base s n cs (ltb-false _ _ e))) on)) b.1

  -- words that do each step run as the walk's play
  pub runs_as : DoesEach → RunsAs m symbol words (play_of p)
  runs_as each = record {
    ends = λ a base s rs cs e w j own is stands enters replies fit x d has.
        let b = each.begins a base s own is stands enters in
        let y = comes m p.State a s (place_of words base s) (At a base s) left p.step (each.goes_on a base s own is stands enters) x 3 b.0 [] rs cs (entered base s) refl replies fit b.1 d has in
        let same : code_play m words base s cs (3 + y.0) ≡ code_run m (place_of words base s) y.0 (entered base s) cs =
        behind_stub base s (3 + y.0) cs (omega arith) ∙ ap (λ (z : ℕ). code_run m (place_of words base s) z (entered base s) cs) (let z : 3 + y.0 - 3 ≡ y.0 = omega arith in z) in
        (3 + y.0, y.1, subst (λ (z : CodeEnd). AtEnd m a s e z) (sym same) y.2);
    ended = λ a base s rs cs n own is stands enters replies fit over. ended_all each a base s rs cs n own is stands enters replies fit over (nat_lt n 3) refl;
  }
