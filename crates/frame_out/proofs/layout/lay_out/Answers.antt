use Rattle.std.proofs.Common.{sym, subst, ◌≤◌, ◌^◌, List, length, ℕ}
use Rattle.rv_asm.specs.Code.{Code}
use Rattle.rv_asm.specs.Layout.{IsAssembly}
use Rattle.rv_asm.specs.Runs.{RunsAs}
use Rattle.ir_meaning.specs.Meaning.{meaning}
use Rattle.rv_play.specs.Good.{Good}
use Rattle.frame_code.specs.Laws.{CanLayOut}
use Rattle.frame_code.proofs.Whole.{laid-out-is-good}
use Rattle.frame_out.proofs.Readiness.{ready}
use Rattle.frame_out.proofs.layout.lay_out.Goals as goal

pub code_of-requires-clause-ready : goal.code_of-requires-clause-ready
code_of-requires-clause-ready c =
    let fits = c.requires.fits in
    ready c.args.function.now c.args.places.now fits.0 fits.1 fits.2 c.requires.small c.requires.formed

pub returns-clause-good : goal.returns-clause-good
returns-clause-good c = λ program function typed at few compiled.
    let f = c.args.function.now in
    let fits = c.requires.fits in
    let words = c.in_ok-words.words.items in
    let can : CanLayOut f c.args.places.now = record {
      formed = c.requires.formed;
      without_phi = c.requires.without_phi;
      intervals = fits.0;
      covers = fits.1;
      fits = fits.2;
      small = c.requires.small;
    } in
    subst (λ (ws : List ℕ). Good (meaning program) f.symbol ws) (sym c.from_vec.ensures)
    (laid-out-is-good program function f c.args.places.now words typed at few compiled can (subst (λ (code : Code). IsAssembly code words) c.in_ok-asm.ensures c.in_ok-words.ensures.words)
    (subst (λ (code : Code). length words ≤ 2 ^ 22 → RunsAs code words) c.in_ok-asm.ensures c.in_ok-words.ensures.runs))
