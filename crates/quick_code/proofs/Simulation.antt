-- Code that goes step by step as a play does refines it, and ends only where it ends. A compiler shows what its code does for
-- one step of the play (`Advances`), from any state at which the code stands for it; the rest is proved here.
use Rattle.std.proofs.Common.{◌≡◌, ◌≢◌, refl, sym, ap, subst, ◌∙◌, ℕ, zero, suc, ◌+◌, ◌-◌, ◌*◌, ◌<◌, ◌≤◌, ◌⊎◌, inl, inr, List, [], ◌∷◌, ◌++◌, length, Bool, true, false, cond, arith}
use Rattle.std.specs.Prelude.{nat_lt}
use Rattle.std.proofs.lemmas.Bool.{ltb-false, le-ltb, cases_lt}
use Rattle.ir_meaning.specs.declared.activation.Activation.{Activation}
use Rattle.ir_meaning.specs.declared.calls.Reply.{Reply}
use Rattle.ir_meaning.specs.Value.{Value}
use Rattle.ir_meaning.specs.Memory.{Memory}
use Rattle.ir_core.specs.declared.program.Function.{Function}
use Rattle.ir_meaning.specs.Step.{function_at, Program, Does, Goes, Calls, Returns, Overflows, Breaks, Entry, Opens, TooDeep, NoFunction, step, answered, entry, entry_units, walker}
use Rattle.ir_meaning.specs.Play.{PlayEnd, NotEnded, play_on, play_after, play_entry}
use Rattle.ir_meaning.specs.Plays.{Meaning, Invocation, play_of}
use Rattle.ir_meaning.specs.Meaning.{meaning, of_function}
use Rattle.ir_meaning.specs.Ranges.{IsReply}
use Rattle.ir_meaning.proofs.Steps.{step-costs}
use Rattle.ir_meaning.proofs.Plays.{paid, unpaid, playing, playing-paid, play-paid, play-unpaid}
use Rattle.ir_meaning.proofs.Bridge.{Arrives, at_step, arrives_next, arrives_behind, entered}
use Rattle.rv_play.specs.Machine.{Machine}
use Rattle.rv_play.specs.CodePlay.{Place, Point, CodeEnd, CodeReply, Running, code_run, code_step, code_play, go_on, place_of, resume, entered as entered_at}
use Rattle.rv_play.specs.CodePlay as code
use Rattle.rv_play.specs.Good.{AreReplies, RefinesEnd, RefinesReply, AtCall, AtReturn, IsRunning}
use Rattle.rv_play.proofs.Law.{reply_at}

-- ---- runs of code

module _ (m : Meaning) (place : Place) where
  -- a run that goes on has gone on before
  pub ran-before : (n k : ℕ) (p : Point) (answers : List CodeReply) → n ≤ k → IsRunning (code_run m place k p answers) → IsRunning (code_run m place n p answers)
  ran-before zero k p answers le on = tt
  ran-before (suc n) zero p answers le on = absurd (let bad : ⊥ = omega arith in bad)
  ran-before (suc n) (suc k) p answers le on = after (code_step m place p) answers (ran-before n k) on
    where
      after : (e : CodeEnd) (answers : List CodeReply) → ((q : Point) (cs : List CodeReply) → n ≤ k → IsRunning (code_run m place k q cs) → IsRunning (code_run m place n q cs))
          → IsRunning (go_on (code_run m place k) answers e) → IsRunning (go_on (code_run m place n) answers e)
      after (code.Running q) answers ih on = ih q answers (omega arith) on
      after (code.Calls g q) [] ih on = absurd on
      after (code.Calls g q) (c ∷ cs) ih on = ih (resume q c) cs (omega arith) on
      after (code.Returns q) answers ih on = absurd on
      after (code.Overflows q) answers ih on = absurd on
      after (code.Fault q) answers ih on = absurd on

  -- whatever steps and replies follow, a run of n steps goes from a point to a point
  abbrev pub Leads : ℕ → Point → Point → Type 0
  Leads n p q = (f : ℕ) (answers : List CodeReply) → code_run m place (n + f) p answers ≡ code_run m place f q answers

  -- a run of fewer steps goes on
  pub leads-on : (n k : ℕ) (p q : Point) (answers : List CodeReply) → n ≤ k → Leads k p q → IsRunning (code_run m place n p answers)
  leads-on n k p q answers le run = ran-before n (k + 0) p answers (omega arith) (subst IsRunning (sym (run 0 answers)) tt)

  -- what is left behind them
  pub leads-left : (n k : ℕ) (p q : Point) (answers : List CodeReply) → k ≤ n → Leads k p q → code_run m place n p answers ≡ code_run m place (n - k) q answers
  leads-left n k p q answers le run = ap (λ (j : ℕ). code_run m place j p answers) (let e : n ≡ k + (n - k) = omega arith in e) ∙ run (n - k) answers

-- ---- one step

module _ (program : Program) (a : Invocation) (s : Machine) (place : Place) (At : Activation → Memory → Point → Type 0) where
  abbrev m : Meaning
  m = meaning program

  abbrev Run : ℕ → Point → List CodeReply → CodeEnd
  Run = code_run m place

  -- how many blocks stand from that of a state on
  abbrev pub blocks_left : Activation → ℕ
  blocks_left now = of_function 0 (λ (f : Function). length f.blocks) (function_at program now.symbol) - now.block

  -- the code has come to the next state, by some instruction, or by falling through to a block behind
  pub record Onward (units : ℕ) (now next : Activation) (after : Memory) (p : Point) : Type 0 where
    pub count : ℕ
    pub point : Point
    pub moves : (1 ≤ count) ⊎ (blocks_left next < blocks_left now)
    pub few : count ≤ 256 * units
    pub run : Leads m place count p point
    pub at : At next after point

  -- the code goes on behind a call that was answered
  pub record Resumed (more : ℕ) (now : Activation) (r : Reply) (p : Point) : Type 0 where
    pub point : Point
    pub run : Leads m place more p point
    pub at : At (answered program now r.value) r.memory point

  -- the code calls, and goes on behind each answer
  pub record Asked (units : ℕ) (now : Activation) (here : Memory) (p : Point) (g : ℕ) (given : List Value) : Type 0 where
    pub count : ℕ
    pub more : ℕ
    pub point : Point
    pub some : 1 ≤ count
    pub few : count + more ≤ 256 * units
    pub run : (f : ℕ) (answers : List CodeReply) → Run (count + f) p answers ≡ go_on (Run f) answers (code.Calls g point)
    pub call : AtCall m a s g given here point
    pub back : (r : Reply) (c : CodeReply) → IsReply m g here r → RefinesReply m g r c → Resumed more now r (resume point c)

  -- the code ends
  pub record Stopped (units : ℕ) (p : Point) (end : Point → CodeEnd) (Is : Point → Type 0) : Type 0 where
    pub count : ℕ
    pub point : Point
    pub few : count ≤ 256 * units
    pub run : (f : ℕ) (answers : List CodeReply) → Run (count + f) p answers ≡ end point
    pub is : Is point

  -- what the code does where the play does this, for so many units
  abbrev pub Advances : ℕ → Activation → Memory → Point → Does → Type 0
  Advances units now here p (Goes next after) = Onward units now next after p
  Advances units now here p (Calls g given) = Asked units now here p g given
  Advances units now here p (Returns value after) = Stopped units p code.Returns (AtReturn m a s value after)
  Advances units now here p Overflows = Stopped units p code.Overflows (λ q. q.counted ≡ a.symbol ∷ [])
  Advances units now here p Breaks = Unit {0}

  -- at each state of the play, from each point at which the code stands for it
  abbrev pub Steps : Type 0
  Steps = (now : Activation) (here : Memory) (p : Point) → At now here p → Advances (step program now here).units now here p (step program now here).does

  -- ---- all steps

  module _ (steps : Steps) where
    -- the code refines the rest of the play
    abbrev Follows : ℕ → Type 0
    Follows n =
        (left spent f : ℕ) (before replies : List Reply) (answers : List CodeReply) (now : Activation) (here : Memory) (p : Point)
        → Arrives program a spent before now here → At now here p → AreReplies m a before replies answers → 256 * left ≤ f
        → RefinesEnd m a s (play_on (walker program) n left replies now here) (Run f p answers)

    follows-answer : (n : ℕ) → Follows n → (left spent f : ℕ) (before replies : List Reply) (answers : List CodeReply) (now : Activation) (here : Memory) (p : Point) (g : ℕ) (given : List Value)
        → Arrives program a spent before now here → AreReplies m a before replies answers → (step program now here).units ≤ left → 256 * left ≤ f
        → (step program now here).does ≡ Calls g given → (o : Asked (step program now here).units now here p g given)
        → RefinesEnd m a s (play_after (walker program) (play_on (walker program) n) (left - (step program now here).units) replies now here (Calls g given)) (go_on (Run (f - o.count)) answers (code.Calls g o.point))
    follows-answer n ih left spent f before [] [] now here p g given at rs le budget d o = (o.point, refl, o.call)
    follows-answer n ih left spent f before [] (c ∷ cs) now here p g given at rs le budget d o = absurd rs
    follows-answer n ih left spent f before (r ∷ rest) [] now here p g given at rs le budget d o = absurd rs
    follows-answer n ih left spent f before (r ∷ rest) (c ∷ cs) now here p g given at rs le budget d o =
        let u = (step program now here).units in
        let reply = reply_at m a before rest cs r c rs (spent + u) g given here (at_step program a spent before now here (Calls g given) at d) in
        let b = o.back r c reply.0 reply.1 in
        let few = o.few in
        subst (λ (z : CodeEnd). RefinesEnd m a s (play_on (walker program) n (left - u) rest (answered program now r.value) r.memory) z)
        (sym (leads-left m place (f - o.count) o.more (resume o.point c) b.point cs (omega (arith, few, le, budget)) b.run))
        (ih (left - u) (spent + u) (f - o.count - o.more) (before ++ r ∷ []) rest cs (answered program now r.value) r.memory b.point
        (arrives_behind program a spent before now here g given r at d) b.at rs.3 (omega (arith, few, le, budget)))

    follows-does : (n : ℕ) → Follows n → (left spent f : ℕ) (before replies : List Reply) (answers : List CodeReply) (now : Activation) (here : Memory) (p : Point)
        → Arrives program a spent before now here → AreReplies m a before replies answers → (step program now here).units ≤ left → 256 * left ≤ f
        → (does : Does) → (step program now here).does ≡ does → Advances (step program now here).units now here p does
        → RefinesEnd m a s (play_after (walker program) (play_on (walker program) n) (left - (step program now here).units) replies now here does) (Run f p answers)
    follows-does n ih left spent f before replies answers now here p at rs le budget (Goes next after) d o =
        let u = (step program now here).units in
        let few = o.few in
        subst (λ (z : CodeEnd). RefinesEnd m a s (play_on (walker program) n (left - u) replies next after) z)
        (sym (leads-left m place f o.count p o.point answers (omega (arith, few, le, budget)) o.run))
        (ih (left - u) (spent + u) (f - o.count) before replies answers next after o.point (arrives_next program a spent before now next here after at d) o.at rs (omega (arith, few, le, budget)))
    follows-does n ih left spent f before replies answers now here p at rs le budget (Calls g given) d o =
        let few = o.few in
        let count : f ≡ o.count + (f - o.count) = omega (arith, few, le, budget) in
        subst (λ (z : CodeEnd). RefinesEnd m a s (play_after (walker program) (play_on (walker program) n) (left - (step program now here).units) replies now here (Calls g given)) z)
        (sym (ap (λ (j : ℕ). Run j p answers) count ∙ o.run (f - o.count) answers))
        (follows-answer n ih left spent f before replies answers now here p g given at rs le budget d o)
    follows-does n ih left spent f before replies answers now here p at rs le budget (Returns value after) d o =
        let few = o.few in
        let count : f ≡ o.count + (f - o.count) = omega (arith, few, le, budget) in
        (o.point, ap (λ (j : ℕ). Run j p answers) count ∙ o.run (f - o.count) answers, o.is)
    follows-does n ih left spent f before replies answers now here p at rs le budget Overflows d o =
        let few = o.few in
        let count : f ≡ o.count + (f - o.count) = omega (arith, few, le, budget) in
        (o.point, ap (λ (j : ℕ). Run j p answers) count ∙ o.run (f - o.count) answers, o.is)
    follows-does n ih left spent f before replies answers now here p at rs le budget Breaks d o = tt

    pub follows : (n : ℕ) → Follows n
    follows zero left spent f before replies answers now here p at held rs budget = tt
    follows (suc n) left spent f before replies answers now here p at held rs budget = by_test (follows n) (nat_lt left (step program now here).units) refl
      where
        by_test : Follows n → (b : Bool) → nat_lt left (step program now here).units ≡ b → RefinesEnd m a s (play_on (walker program) (suc n) left replies now here) (Run f p answers)
        by_test ih true e =
            subst (λ (z : PlayEnd). RefinesEnd m a s z (Run f p answers)) (sym (unpaid (walker program) (play_on (walker program) n) left replies now here (step program now here) e)) tt
        by_test ih false e =
            subst (λ (z : PlayEnd). RefinesEnd m a s z (Run f p answers)) (sym (paid (walker program) (play_on (walker program) n) left replies now here (step program now here) e))
            (follows-does n ih left spent f before replies answers now here p at rs (ltb-false _ _ e) budget (step program now here).does refl (steps now here p held))

    -- ---- the play ends where the code has ended

    -- a number of units at which the rest of the play has ended
    abbrev Ended : List Reply → Activation → Memory → Type 0
    Ended replies now here = (t : ℕ) × (playing (walker program) t replies now here ≢ NotEnded)

    -- within so many steps, with so many blocks from the state's on
    abbrev EndsToo : ℕ → ℕ → Type 0
    EndsToo bound left =
        (n spent : ℕ) (before replies : List Reply) (answers : List CodeReply) (now : Activation) (here : Memory) (p : Point)
        → n ≤ bound → blocks_left now ≤ left → Arrives program a spent before now here → At now here p → AreReplies m a before replies answers → (IsRunning (Run n p answers) → ⊥) → Ended replies now here

    -- a step that is paid for
    one-more : (replies : List Reply) (now : Activation) (here : Memory) (does : Does) (t : ℕ) → (step program now here).does ≡ does
        → playing (walker program) ((step program now here).units + t) replies now here ≡ play_after (walker program) (playing (walker program)) t replies now here does
    one-more replies now here does t d =
        let u = (step program now here).units in
        playing-paid (walker program) (step-costs program) (u + t) replies now here (omega arith)
        ∙ ap (λ (k : ℕ). play_after (walker program) (playing (walker program)) k replies now here (step program now here).does) (let e : u + t - u ≡ t = omega arith in e)
        ∙ ap (λ (x : Does). play_after (walker program) (playing (walker program)) t replies now here x) d

    ended-by : (replies : List Reply) (now : Activation) (here : Memory) (does : Does) (t : ℕ) → (step program now here).does ≡ does
        → play_after (walker program) (playing (walker program)) t replies now here does ≢ NotEnded → Ended replies now here
    ended-by replies now here does t d h = ((step program now here).units + t, λ e. h (sym (one-more replies now here does t d) ∙ e))

    ends-answer : (bound : ℕ) → ((left : ℕ) → EndsToo bound left) → (n spent : ℕ) (before replies : List Reply) (answers : List CodeReply) (now : Activation) (here : Memory) (p : Point) (g : ℕ) (given : List Value)
        → Arrives program a spent before now here → AreReplies m a before replies answers → (step program now here).does ≡ Calls g given → (o : Asked (step program now here).units now here p g given)
        → n ≤ suc bound → o.count ≤ n → (IsRunning (Run n p answers) → ⊥) → Ended replies now here
    ends-answer bound ih n spent before [] [] now here p g given at rs d o lt le over = ended-by [] now here (Calls g given) 0 d (λ e. cc)
    ends-answer bound ih n spent before [] (c ∷ cs) now here p g given at rs d o lt le over = absurd rs
    ends-answer bound ih n spent before (r ∷ rest) [] now here p g given at rs d o lt le over = absurd rs
    ends-answer bound ih n spent before (r ∷ rest) (c ∷ cs) now here p g given at rs d o lt le over =
        let u = (step program now here).units in
        let reply = reply_at m a before rest cs r c rs (spent + u) g given here (at_step program a spent before now here (Calls g given) at d) in
        let b = o.back r c reply.0 reply.1 in
        let some = o.some in
        let left : Run n p (c ∷ cs) ≡ Run (n - o.count) (resume o.point c) cs = ap (λ (j : ℕ). Run j p (c ∷ cs)) (let e : n ≡ o.count + (n - o.count) = omega arith in e) ∙ o.run (n - o.count) (c ∷ cs) in
        let over' : IsRunning (Run (n - o.count) (resume o.point c) cs) → ⊥ = λ on. over (subst IsRunning (sym left) on) in
        behind b (cases_lt (n - o.count) o.more) over' (ih (blocks_left (answered program now r.value)) (n - o.count - o.more) (spent + u) (before ++ r ∷ []) rest cs (answered program now r.value) r.memory b.point (omega (arith, some, lt)) (omega arith) (arrives_behind program a spent before now here g given r at d) b.at rs.3)
      where
        behind : (b : Resumed o.more now r (resume o.point c)) → (n - o.count < o.more) ⊎ (o.more ≤ n - o.count) → (IsRunning (Run (n - o.count) (resume o.point c) cs) → ⊥)
            → ((IsRunning (Run (n - o.count - o.more) b.point cs) → ⊥) → Ended rest (answered program now r.value) r.memory) → Ended (r ∷ rest) now here
        behind b (inl short) over' inner = absurd (over' (leads-on m place (n - o.count) o.more (resume o.point c) b.point cs (omega (arith, short)) b.run))
        behind b (inr long) over' inner =
            let t = inner (λ on. over' (subst IsRunning (sym (leads-left m place (n - o.count) o.more (resume o.point c) b.point cs long b.run)) on)) in
            ended-by (r ∷ rest) now here (Calls g given) t.0 d t.1

    -- the code calls within the run
    calls-late : (n : ℕ) (replies : List Reply) (answers : List CodeReply) (now : Activation) (here : Memory) (p : Point) (g : ℕ) (given : List Value) (u : ℕ) (o : Asked u now here p g given) → n < o.count
        → (c : CodeReply) (cs : List CodeReply) → IsRunning (Run n p (c ∷ cs))
    calls-late n replies answers now here p g given u o lt c cs = ran-before m place n (o.count + 0) p (c ∷ cs) (omega (arith, lt)) (subst IsRunning (sym (o.run 0 (c ∷ cs))) tt)

    ends-does : (bound left : ℕ) → ((l : ℕ) → EndsToo bound l) → ((l : ℕ) → l < left → EndsToo (suc bound) l)
        → (n spent : ℕ) (before replies : List Reply) (answers : List CodeReply) (now : Activation) (here : Memory) (p : Point)
        → n ≤ suc bound → blocks_left now ≤ left → Arrives program a spent before now here → AreReplies m a before replies answers → (IsRunning (Run n p answers) → ⊥)
        → (does : Does) → (step program now here).does ≡ does → Advances (step program now here).units now here p does → Ended replies now here
    ends-does bound left ih same n spent before replies answers now here p le few at rs over (Goes next after) d o = by_count (cases_lt n o.count)
      where
        by_count : (n < o.count) ⊎ (o.count ≤ n) → Ended replies now here
        by_count (inl short) = absurd (over (leads-on m place n o.count p o.point answers (omega (arith, short)) o.run))
        by_count (inr long) = by_move o.moves
          where
            over' : IsRunning (Run (n - o.count) o.point answers) → ⊥
            over' on = over (subst IsRunning (sym (leads-left m place n o.count p o.point answers long o.run)) on)

            by_move : (1 ≤ o.count) ⊎ (blocks_left next < blocks_left now) → Ended replies now here
            by_move (inl some) =
                let t = ih (blocks_left next) (n - o.count) (spent + (step program now here).units) before replies answers next after o.point (omega (arith, some, le)) (omega arith) (arrives_next program a spent before now next here after at d) o.at rs over' in
                ended-by replies now here (Goes next after) t.0 d t.1
            by_move (inr fewer) =
                let t = same (blocks_left next) (omega (arith, fewer, few)) (n - o.count) (spent + (step program now here).units) before replies answers next after o.point (omega (arith, le)) (omega arith) (arrives_next program a spent before now next here after at d) o.at rs over' in
                ended-by replies now here (Goes next after) t.0 d t.1
    ends-does bound left ih same n spent before replies answers now here p le few at rs over (Calls g given) d o = by_replies replies answers rs over
      where
        by_replies : (replies : List Reply) (answers : List CodeReply) → AreReplies m a before replies answers → (IsRunning (Run n p answers) → ⊥) → Ended replies now here
        by_replies [] [] rs over = ended-by [] now here (Calls g given) 0 d (λ e. cc)
        by_replies [] (c ∷ cs) rs over = absurd rs
        by_replies (r ∷ rest) [] rs over = absurd rs
        by_replies (r ∷ rest) (c ∷ cs) rs over = by_count (cases_lt n o.count)
          where
            by_count : (n < o.count) ⊎ (o.count ≤ n) → Ended (r ∷ rest) now here
            by_count (inl short) = absurd (over (calls-late n (r ∷ rest) (c ∷ cs) now here p g given (step program now here).units o short c cs))
            by_count (inr long) = ends-answer bound ih n spent before (r ∷ rest) (c ∷ cs) now here p g given at rs d o le long over
    ends-does bound left ih same n spent before replies answers now here p le few at rs over (Returns value after) d o = ended-by replies now here (Returns value after) 0 d (λ e. cc)
    ends-does bound left ih same n spent before replies answers now here p le few at rs over Overflows d o = ended-by replies now here Overflows 0 d (λ e. cc)
    ends-does bound left ih same n spent before replies answers now here p le few at rs over Breaks d o = ended-by replies now here Breaks 0 d (λ e. cc)

    ends-left : (bound : ℕ) → ((l : ℕ) → EndsToo bound l) → (left : ℕ) → EndsToo (suc bound) left
    ends-left bound ih zero n spent before replies answers now here p le few at held rs over =
        ends-does bound zero ih (λ l lt. absurd (let bad : ⊥ = omega (arith, lt) in bad)) n spent before replies answers now here p le few at rs over (step program now here).does refl (steps now here p held)
    ends-left bound ih (suc left) n spent before replies answers now here p le few at held rs over =
        ends-does bound (suc left) ih
        (λ l lt k spent' before' replies' answers' now' here' p' le' few' at' held' rs' over'.
        ends-left bound ih left k spent' before' replies' answers' now' here' p' le' (omega (arith, lt, few')) at' held' rs' over')
        n spent before replies answers now here p le few at rs over (step program now here).does refl (steps now here p held)

    pub ends-too : (bound left : ℕ) → EndsToo bound left
    ends-too zero left n spent before replies answers now here p le few at held rs over =
        absurd (over (subst (λ (k : ℕ). IsRunning (Run k p answers)) (let e : 0 ≡ n = omega arith in e) tt))
    ends-too (suc bound) left n spent before replies answers now here p le few at held rs over =
        ends-left bound (ends-too bound) left n spent before replies answers now here p le few at held rs over

    -- ---- from the entry

    -- the code has opened the frame, behind the stub's three steps
    pub record OpensAt (first : Activation) (p : Point) : Type 0 where
      pub count : ℕ
      pub point : Point
      pub few : 3 + count ≤ 512
      pub run : Leads m place count p point
      pub at : At first a.memory point

    -- the code finds no room for the frame
    pub record OverflowsAt (p : Point) : Type 0 where
      pub count : ℕ
      pub point : Point
      pub few : 3 + count ≤ 512
      pub run : (f : ℕ) (answers : List CodeReply) → Run (count + f) p answers ≡ code.Overflows point
      pub counted : point.counted ≡ a.symbol ∷ []

    abbrev pub Begins : Point → Entry → Type 0
    Begins p (Opens first) = OpensAt first p
    Begins p TooDeep = OverflowsAt p
    Begins p NoFunction = Unit {0}

    module _ (words : List ℕ) (base : ℕ) (same : place_of words base s ≡ place) (begins : Begins (entered_at base s) (entry program a.symbol a.args a.memory a.sp)) where
      behind-stub : (n : ℕ) (answers : List CodeReply) → 3 ≤ n → code_play m words base s answers n ≡ Run (n - 3) (entered_at base s) answers
      behind-stub n answers le =
          ap (λ (b : Bool). cond b (Running (record { machine = s; counted = []; steps = n })) (code_run m (place_of words base s) (n - 3) (entered_at base s) answers)) (le-ltb _ _ le)
          ∙ ap (λ (q : Place). code_run m q (n - 3) (entered_at base s) answers) same

      begun-refines : (t : ℕ) (replies : List Reply) (answers : List CodeReply) → 2 ≤ t → AreReplies m a [] replies answers → (e : Entry) → entry program a.symbol a.args a.memory a.sp ≡ e → Begins (entered_at base s) e
          → RefinesEnd m a s (play_entry (walker program) (play_on (walker program) t) (t - 2) replies a.memory e) (Run (256 * t - 3) (entered_at base s) answers)
      begun-refines t replies answers two rs (Opens first) is b =
          let few = b.few in
          subst (λ (z : CodeEnd). RefinesEnd m a s (play_on (walker program) t (t - 2) replies first a.memory) z)
          (sym (leads-left m place (256 * t - 3) b.count (entered_at base s) b.point answers (omega (arith, few, two)) b.run))
          (follows t (t - 2) 2 (256 * t - 3 - b.count) [] replies answers first a.memory b.point (entered program a first is) b.at rs (omega (arith, few, two)))
      begun-refines t replies answers two rs TooDeep is b =
          let few = b.few in
          let count : 256 * t - 3 ≡ b.count + (256 * t - 3 - b.count) = omega (arith, few, two) in
          (b.point, ap (λ (j : ℕ). Run j (entered_at base s) answers) count ∙ b.run (256 * t - 3 - b.count) answers, b.counted)
      begun-refines t replies answers two rs NoFunction is b = tt

      pub refines-play : (t : ℕ) (replies : List Reply) (answers : List CodeReply) → AreReplies m a [] replies answers
          → RefinesEnd m a s (play_of m a replies t) (code_play m words base s answers (256 * t))
      refines-play t replies answers rs = by_test (nat_lt t entry_units) refl
        where
          by_test : (short : Bool) → nat_lt t entry_units ≡ short → RefinesEnd m a s (play_of m a replies t) (code_play m words base s answers (256 * t))
          by_test true e =
              subst (λ (z : PlayEnd). RefinesEnd m a s z (code_play m words base s answers (256 * t))) (sym (play-unpaid (walker program) a.symbol a.args a.memory a.sp replies t e)) tt
          by_test false e =
              let two : 2 ≤ t = ltb-false _ _ e in
              subst (λ (z : PlayEnd). RefinesEnd m a s z (code_play m words base s answers (256 * t))) (sym (play-paid (walker program) a.symbol a.args a.memory a.sp replies t e))
              (subst (λ (z : CodeEnd). RefinesEnd m a s (play_entry (walker program) (play_on (walker program) t) (t - 2) replies a.memory (entry program a.symbol a.args a.memory a.sp)) z)
              (sym (behind-stub (256 * t) answers (omega (arith, two))))
              (begun-refines t replies answers two rs (entry program a.symbol a.args a.memory a.sp) refl begins))

      -- a play that is paid for its entry
      opened : (first : Activation) (t : ℕ) (replies : List Reply) → entry program a.symbol a.args a.memory a.sp ≡ Opens first → play_of m a replies (2 + t) ≡ playing (walker program) t replies first a.memory
      opened first t replies is = entered program a first is replies t

      entry-over : (replies : List Reply) (e : Entry) → entry program a.symbol a.args a.memory a.sp ≡ e → play_of m a replies 2 ≡ play_entry (walker program) (play_on (walker program) 2) 0 replies a.memory e
      entry-over replies e is =
          play-paid (walker program) a.symbol a.args a.memory a.sp replies 2 refl
          ∙ ap (λ (x : Entry). play_entry (walker program) (play_on (walker program) 2) 0 replies a.memory x) is

      begun-ends : (n : ℕ) (replies : List Reply) (answers : List CodeReply) → AreReplies m a [] replies answers → (IsRunning (Run (n - 3) (entered_at base s) answers) → ⊥)
          → (e : Entry) → entry program a.symbol a.args a.memory a.sp ≡ e → Begins (entered_at base s) e → (t : ℕ) × (play_of m a replies t ≢ NotEnded)
      begun-ends n replies answers rs over (Opens first) is b = by_count (cases_lt (n - 3) b.count)
        where
          by_count : (n - 3 < b.count) ⊎ (b.count ≤ n - 3) → (t : ℕ) × (play_of m a replies t ≢ NotEnded)
          by_count (inl short) = absurd (over (leads-on m place (n - 3) b.count (entered_at base s) b.point answers (omega (arith, short)) b.run))
          by_count (inr long) =
              let t = ends-too (n - 3 - b.count) (blocks_left first) (n - 3 - b.count) 2 [] replies answers first a.memory b.point (omega arith) (omega arith) (entered program a first is) b.at rs
              (λ on. over (subst IsRunning (sym (leads-left m place (n - 3) b.count (entered_at base s) b.point answers long b.run)) on)) in
              (2 + t.0, λ e. t.1 (sym (opened first t.0 replies is) ∙ e))
      begun-ends n replies answers rs over TooDeep is b = (2, λ e. let bad = sym (entry-over replies TooDeep is) ∙ e in cc)
      begun-ends n replies answers rs over NoFunction is b = (2, λ e. let bad = sym (entry-over replies NoFunction is) ∙ e in cc)

      pub ends-play : (n : ℕ) (replies : List Reply) (answers : List CodeReply) → AreReplies m a [] replies answers → (IsRunning (code_play m words base s answers n) → ⊥)
          → (t : ℕ) × (play_of m a replies t ≢ NotEnded)
      ends-play n replies answers rs over = by_test (nat_lt n 3) refl
        where
          by_test : (short : Bool) → nat_lt n 3 ≡ short → (t : ℕ) × (play_of m a replies t ≢ NotEnded)
          by_test true e =
              absurd (over (subst (λ (b : Bool). IsRunning (cond b (Running (record { machine = s; counted = []; steps = n })) (code_run m (place_of words base s) (n - 3) (entered_at base s) answers))) (sym e) tt))
          by_test false e =
              begun-ends n replies answers rs (λ on. over (subst IsRunning (sym (behind-stub n answers (ltb-false _ _ e))) on)) (entry program a.symbol a.args a.memory a.sp) refl begins
