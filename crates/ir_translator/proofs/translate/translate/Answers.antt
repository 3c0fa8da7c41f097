use Rattle.std.proofs.Common.{sym, ap, ◌+◌, ℕ}
use Rattle.std.proofs.lemmas.Result.{IfOk-weaker}
use Rattle.ir_meaning.specs.Memory.{data_start}
use Rattle.ir_translator.proofs.Whole.{is-there, exactly, refined, addressed}
use Rattle.ir_translator.proofs.translate.translate.Goals as goal

pub translate_function-requires-clause-fit : goal.translate_function-requires-clause-fit
translate_function-requires-clause-fit c =
    (is-there c.args.module.now c.args.symbol c.room-room.result c.module-all.result.now c.as_slice.result.now c.index-as_slice-symbol.result c.requires c.module-all.ensures.value c.module-all.ensures.passes c.module-all.ensures.typed c.room-room.ensures.value
    c.room-room.ensures.fits c.as_slice.ensures c.index-as_slice-symbol.is).fit

pub returns-clause-exact : goal.returns-clause-exact
returns-clause-exact c =
    let is = is-there c.args.module.now c.args.symbol c.room-room.result c.module-all.result.now c.as_slice.result.now c.index-as_slice-symbol.result c.requires c.module-all.ensures.value c.module-all.ensures.passes c.module-all.ensures.typed c.room-room.ensures.value
    c.room-room.ensures.fits c.as_slice.ensures c.index-as_slice-symbol.is in
    IfOk-weaker c.translate_function.result _ _
    (λ generic e function at. exactly c.args.module.now c.args.symbol c.index-as_slice-symbol.result function generic is (e c.args.module.now (sym c.in_ok-globals.ensures) (ap (λ (n : ℕ). data_start + n) (sym c.room-room.ensures.value))) at) c.translate_function.ensures

pub returns-clause-refines : goal.returns-clause-refines
returns-clause-refines c =
    let is = is-there c.args.module.now c.args.symbol c.room-room.result c.module-all.result.now c.as_slice.result.now c.index-as_slice-symbol.result c.requires c.module-all.ensures.value c.module-all.ensures.passes c.module-all.ensures.typed c.room-room.ensures.value
    c.room-room.ensures.fits c.as_slice.ensures c.index-as_slice-symbol.is in
    IfOk-weaker c.translate_function.result _ _
    (λ generic e function at. refined c.args.module.now c.args.symbol c.index-as_slice-symbol.result function generic c.translated_refines.ensures is (e c.args.module.now (sym c.in_ok-globals.ensures) (ap (λ (n : ℕ). data_start + n) (sym c.room-room.ensures.value))) at) c.translate_function.ensures

pub returns-clause-addresses : goal.returns-clause-addresses
returns-clause-addresses c =
    let is = is-there c.args.module.now c.args.symbol c.room-room.result c.module-all.result.now c.as_slice.result.now c.index-as_slice-symbol.result c.requires c.module-all.ensures.value c.module-all.ensures.passes c.module-all.ensures.typed c.room-room.ensures.value
    c.room-room.ensures.fits c.as_slice.ensures c.index-as_slice-symbol.is in
    IfOk-weaker c.translate_function.result _ _
    (λ generic e. addressed c.args.module.now c.args.symbol c.index-as_slice-symbol.result generic c.translated_has_wide_addresses.ensures is (e c.args.module.now (sym c.in_ok-globals.ensures) (ap (λ (n : ℕ). data_start + n) (sym c.room-room.ensures.value)))) c.translate_function.ensures
