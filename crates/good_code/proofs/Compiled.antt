-- From refinement to good versions.
use Rattle.std.proofs.Common.{◌≡◌, ap, ℕ, ◌+◌, ◌*◌, ◌<◌, ◌≤◌, List, length, Option, arith}
use Rattle.std.proofs.lemmas.Option.{slice_get_within}
use Rattle.ir_core.specs.Program.{Program}
use Rattle.ir_core.specs.declared.program.Function.{Function}
use Rattle.ir_core.specs.Units.{units_of_function}
use Rattle.ir_meaning.specs.Plays.{Meaning}
use Rattle.ir_meaning.specs.Meaning.{meaning, of_function, phi_operands_of}
use Rattle.ir_meaning.specs.Ranges.{IsMeaning}
use Rattle.ir_meaning.specs.Typed.{IsTyped}
use Rattle.ir_meaning.proofs.Ranges.{is-meaning}
use Rattle.rv_play.specs.Machine.{data_end}
use Rattle.rv_play.specs.Good.{Good}
use Rattle.walks.specs.Walk.{Play, Walk, play_of}
use Rattle.walks.specs.Refines.{RefinesPlay}
use Rattle.walks.specs.Functions.{function_walk, IsPlayOf}
use Rattle.walks.proofs.IsPlay.{walks_are_plays}
use Rattle.mir_play.specs.Play.{walk}
use Rattle.good_code.specs.Runs.{RunsAs}
use Rattle.good_code.specs.Narrow.{IsNarrow}
use Rattle.good_code.specs.Laws.{CompiledIsGood}
use Rattle.walks.specs.Face.{HasOneEnd}
use Rattle.walks.proofs.OneEnd.{plays_have_one_end}
use Rattle.good_code.proofs.MoreReplies.{MoreReplies, more_replies}
use Rattle.good_code.proofs.Prefixes.{refines_all, ended_all}

-- for any plays: that of the function by `f`, and that which the words run as by `g`
pub good_by : (m : Meaning) → IsMeaning m → MoreReplies m → (symbol limit : ℕ) (words : List ℕ) (f g : Play) → symbol < m.functions → IsNarrow m symbol → data_end m ≤ limit
    → HasOneEnd g → IsPlayOf m symbol f → RefinesPlay limit f g → RunsAs m symbol words g → length words ≤ 256 * (m.units symbol + m.phi_operands symbol) → Good m symbol words
good_by m meaning more symbol limit words f g exists narrow room one is_play refined runs short = record {
  exists = exists;
  refines = λ a base s rs cs t own is stands enters replies.
      refines_all m meaning more symbol limit words f g narrow room one is_play refined runs a base s own is stands enters rs cs t replies;
  ended = λ a base s rs cs n own is stands enters replies over.
      ended_all m meaning more symbol limit words f g narrow room one is_play refined runs a base s own is stands enters rs cs n replies over;
  short = short;
}

-- for the function of a typed module, and any play that comes to one end
pub good_by_play : (program : Program) (symbol : ℕ) (words : List ℕ) (g : Play) → IsTyped program → symbol < (meaning program).functions → IsNarrow (meaning program) symbol → HasOneEnd g
    → RefinesPlay (data_end (meaning program)) (play_of (function_walk program symbol)) g → RunsAs (meaning program) symbol words g
    → length words ≤ 256 * ((meaning program).units symbol + (meaning program).phi_operands symbol) → Good (meaning program) symbol words
good_by_play program symbol words g typed exists narrow one refined runs short =
    good_by (meaning program) (is-meaning program typed) (more_replies program) symbol (data_end (meaning program)) words (play_of (function_walk program symbol)) g exists narrow (omega arith)
    one (walks_are_plays program symbol typed) refined runs short

-- for the play of a walk
pub good_by_walk : (program : Program) (symbol : ℕ) (words : List ℕ) (p : Walk) → IsTyped program → symbol < (meaning program).functions → IsNarrow (meaning program) symbol
    → RefinesPlay (data_end (meaning program)) (play_of (function_walk program symbol)) (play_of p) → RunsAs (meaning program) symbol words (play_of p)
    → length words ≤ 256 * ((meaning program).units symbol + (meaning program).phi_operands symbol) → Good (meaning program) symbol words
good_by_walk program symbol words p typed exists narrow refined runs short = good_by_play program symbol words (play_of p) typed exists narrow (plays_have_one_end p) refined runs short

-- ---- for functions of target code

pub compiled_is_good : CompiledIsGood
compiled_is_good program symbol words f typed narrow (function, there, refines) runs short =
    let weights : (meaning program).units symbol + (meaning program).phi_operands symbol ≡ units_of_function function + phi_operands_of function =
    ap (λ (o : Option Function). of_function 0 units_of_function o + of_function 0 phi_operands_of o) there in
    let low = refines.static in
    good_by_walk program symbol words (walk f) typed (slice_get_within program.module_.functions symbol function there) narrow refines.play runs (omega (arith, short, low, weights))
