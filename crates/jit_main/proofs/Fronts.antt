-- What writes of the parts of a text leave.
use Rattle.std.proofs.Common.{◌≡◌, ◌∙◌, ℕ, ◌+◌, ◌≤◌, ◌<◌, List, ◌++◌, length, length-append, take, take_all, Option, Result, Ok, Err, sym, subst, arith}
use Rattle.std.specs.Prelude.{OnOk, OnErr, IfOk, IfErr}
use Rattle.std.proofs.lemmas.List.{take-append-le}
use Rattle.std.proofs.Math.Seq.{take-append-add}
use Rattle.rj_io.specs.declared.sink.Short.{Short}
use Rattle.rj_io.specs.Sinks.{Took}
use Rattle.rj_io.proofs.Writing.{Took-then}
use Rattle.rj_io.specs.Faults.{Rose}
use Rattle.std.proofs.Common.{Vec}
use Rattle.std.specs.Global.{Global}
use Rattle.rj_num.specs.declared.NoMemory.{NoMemory}
use Rattle.jit_main.specs.declared.stop.Stop.{Stop}
use Rattle.jit_main.specs.declared.stop.Stop.TheVariants.{NoMemory as OfMemory}
use Rattle.jit_main.specs.Ends.{TookFront, Said, SaidWhy, WithText, WithoutMemory, TakesMemory, text_of, status_of}

-- all of the text went out
pub front-all : (a b : Option (List ℕ)) (text : List ℕ) → Took a b text → TookFront a b text
front-all a b text h = (length text, omega arith, subst (λ (t : List ℕ). Took a b t) (sym (take_all (length text) text (omega arith))) h)

-- what a write answers
pub front-of : (a b : Option (List ℕ)) (text : List ℕ) (result : Result (Unit {0}) Short) → OnOk result (Took a b text) → IfErr result (λ short. short.sent < length text) → IfErr result (λ short. Took a b (take short.sent text)) → TookFront a b text
front-of a b text (Ok done) all bound part = front-all a b text all
front-of a b text (Err short) all bound part = (short.sent, omega arith, part)

pub front-cut : (a b : Option (List ℕ)) (text : List ℕ) (sent : ℕ) → sent < length text → Took a b (take sent text) → TookFront a b text
front-cut a b text sent lt h = (sent, omega arith, h)

-- the front of a part is one of the whole
pub front-more : (a b : Option (List ℕ)) (x y : List ℕ) → TookFront a b x → TookFront a b (x ++ y)
front-more a b x y h =
    let within : h.0 ≤ length x = h.1 in
    (h.0, omega (arith, length-append x y), subst (λ (t : List ℕ). Took a b t) (sym (take-append-le h.0 x y within)) h.2)

-- a part, and a front of the rest
pub front-then : (a b c : Option (List ℕ)) (x y : List ℕ) → Took a b x → TookFront b c y → TookFront a c (x ++ y)
front-then a b c x y p h =
    (length x + h.0, omega (arith, length-append x y, h.1), subst (λ (t : List ℕ). Took a c t) (sym (take-append-add x y h.0)) (Took-then a b c x (take h.0 y) p h.2))

-- all of the text went out, and no fault was counted
pub said-all : (a b : Option (List ℕ)) (f g : ℕ) (text : List ℕ) → Took a b text → Said a b f g text
said-all a b f g text took = record { front = front-all a b text took; whole = λ calm. took }

-- a fault was counted
pub said-front : (a b : Option (List ℕ)) (f g : ℕ) (text : List ℕ) → TookFront a b text → Rose f g → Said a b f g text
said-front a b f g text front rose = record { front = front; whole = λ calm. absurd (calm rose) }

-- what a write answers
pub said-of : (a b : Option (List ℕ)) (f g : ℕ) (text : List ℕ) (result : Result (Unit {0}) Short) → OnOk result (Took a b text) → IfErr result (λ short. short.sent < length text)
    → IfErr result (λ short. Took a b (take short.sent text)) → IfErr result (λ short. Rose f g) → Said a b f g text
said-of a b f g text (Ok done) all bound part cause = said-all a b f g text all
said-of a b f g text (Err short) all bound part cause = said-front a b f g text (front-cut a b text short.sent bound part) cause

-- a part that went out, and then the rest
pub said-then : (a b c : Option (List ℕ)) (f g h : ℕ) (x y : List ℕ) → Took a b x → g ≡ f → Said b c g h y → Said a c f h (x ++ y)
said-then a b c f g h x y took same said = record {
  front = front-then a b c x y took said.front;
  whole = λ calm. Took-then a b c x y took (said.whole (λ rose. calm (subst (λ (n : ℕ). Rose n h) same rose)));
}

-- a text that takes no memory
pub with_text : (stop : Stop) (status : ℕ) (a b : Option (List ℕ)) (f g : ℕ) → status ≡ status_of stop → Said a b f g (text_of stop) → SaidWhy stop status a b f g
with_text stop status a b f g is said = WithText is said

-- a text that was made, or that there is no memory for it
pub made_why : (stop : Stop) (made : Result (Vec ℕ Global) NoMemory) (status given : ℕ) (a b : Option (List ℕ)) (f g : ℕ) → TakesMemory stop → given ≡ status_of stop
    → IfOk made (λ text. text.items ≡ text_of stop) → IfOk made (λ text. (status ≡ given) × Said a b f g text.items) → OnErr made ((status ≡ 6) × Said a b f g (text_of OfMemory))
    → SaidWhy stop status a b f g
made_why stop (Ok text) status given a b f g takes is line said unsaid = WithText (said.0 ∙ is) (subst (λ (t : List ℕ). Said a b f g t) line said.1)
made_why stop (Err no_memory) status given a b f g takes is line said unsaid = WithoutMemory takes unsaid.0 unsaid.1
