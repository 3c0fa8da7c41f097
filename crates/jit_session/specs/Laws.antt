-- When the answers of calls over a bench are right.
use Rattle.std.specs.Prelude.{◌≡◌, ℕ, List, [], false}
use Rattle.ir_core.specs.Program.{Program}
use Rattle.ir_meaning.specs.declared.calls.Ended.{Ended}
use Rattle.ir_meaning.specs.declared.calls.ListedCall.{ListedCall}
use Rattle.ir_meaning.specs.Memory.{Memory}
use Rattle.ir_meaning.specs.Meaning.{meaning}
use Rattle.ir_meaning.specs.Right.{RightFrom}
use Rattle.rv_play.specs.Ending.{Item}
use Rattle.rv_play.specs.ListedCalls.{Follows}
use Rattle.hart.specs.declared.hart.Hart.{Hart}
use Rattle.hart.specs.declared.hart.Image.{Image}
use Rattle.hart.specs.Standing.{run_of}
use Rattle.hart.specs.Calls.{EndedOver, origin_of}
use Rattle.hart.specs.Right.{IsListedOn}
use Rattle.entry_counts.specs.declared.seat.CountSeat.{CountSeat}
use Rattle.redirect_cells.specs.declared.hart_seat.HartSeat.{HartSeat}
use Rattle.jit_session.specs.Benches.{has_begun, StandsFor}

-- Of a table for this program: where a bench that is ended stands for a pass, and the call ended over it, the answer is right, and
-- the run follows the evaluation.
abbrev pub BenchAnswersAreRight : Type 0
BenchAnswersAreRight =
    (program : Program) (call : ListedCall) (memory : Memory) (image : Image) (h h' : Hart) (since now : HartSeat) (counts counts' : CountSeat) (pass : List Item) (counted : List ℕ) (e : Ended)
    → since.table.now.table.shared.key.module.value ≡ program → IsListedOn program call memory image h
    → StandsFor since counts now counts' pass counted → has_begun now.seat.me.0.role ≡ false
    → EndedOver (meaning program) (origin_of h image call since.table.now.code_words) pass e h' counted
    → RightFrom program call memory e × Follows program call memory (run_of h' counted []) call.turns
