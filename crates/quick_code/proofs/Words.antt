-- The words of quick code are good.
use Rattle.std.proofs.Common.{◌≡◌, refl, sym, ap, subst, ℕ, zero, suc, List, length, replicate, Option, None, arith}
use Rattle.ir_core.specs.declared.program.Function.{Function}
use Rattle.ir_core.specs.declared.program.Global.{Global}
use Rattle.ir_core.specs.Units.{frame}
use Rattle.ir_meaning.specs.Meaning.{meaning}
use Rattle.quick_code.specs.Blocks.{label_count, function_items}
use Rattle.code_pieces.specs.Assembly.{assembled, bind_all, put}
use Rattle.quick_code.specs.Assembly.{code_of}
use Rattle.quick_code.specs.Laws.{QuickCodeIsGood}
use Rattle.code_pieces.proofs.Bridge.{AreBound, AreWithin, stand-everywhere}
use Rattle.code_pieces.proofs.Rising.{are-bound, bind-within, none-within}
use Rattle.quick_code.proofs.Fresh.{labels-rise}
use Rattle.quick_code.proofs.FlowWhole.{flow-is-good}
use Rattle.quick_code.proofs.Size.{words-few}

length-replicate : (n : ℕ) (x : Option ℕ) → length (replicate n x) ≡ n
length-replicate zero x = refl
length-replicate (suc n) x = ap suc (length-replicate n x)

items-of : (globals : List Global) (symbol : ℕ) (function : Function) (room : ℕ) → (code_of globals symbol function room).items ≡ assembled (function_items globals symbol function room (frame function))
unfolding put
items-of globals symbol function room = refl

bound-of : (globals : List Global) (symbol : ℕ) (function : Function) (room : ℕ) → (code_of globals symbol function room).bound ≡ bind_all 0 (function_items globals symbol function room (frame function)) (replicate (label_count function) None)
unfolding put
bound-of globals symbol function room = refl

pub quick-code-is-good : QuickCodeIsGood
quick-code-is-good program symbol function words typed flow there made runs =
    let globals = program.module_.globals in
    let room = program.room in
    let items = function_items globals symbol function room (frame function) in
    let labels = label_count function in
    let rise = labels-rise globals function flow symbol room (frame function) in
    let many = length-replicate labels None in
    let bound : AreBound (code_of globals symbol function room).bound 0 items = subst (λ (b : List (Option ℕ)). AreBound b 0 items) (sym (bound-of globals symbol function room)) (are-bound items 0 0 labels (replicate labels None) rise (omega (arith, many))) in
    let within : AreWithin (code_of globals symbol function room).bound (length (code_of globals symbol function room).items) =
    subst (λ (b : List (Option ℕ)). AreWithin b (length (code_of globals symbol function room).items)) (sym (bound-of globals symbol function room))
    (bind-within items 0 (length (code_of globals symbol function room).items) (replicate labels None) (none-within labels (length (code_of globals symbol function room).items)) (let same = ap length (items-of globals symbol function room) in omega (arith, same))) in
    flow-is-good program symbol function words typed flow there
    (stand-everywhere (meaning program) (code_of globals symbol function room) words items typed.functions (items-of globals symbol function room) bound within runs)
    (words-few program symbol function words flow there made)
