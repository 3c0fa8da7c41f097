use Rattle.std.proofs.Common.{◌≤◌, ◌^◌, arith}
use Rattle.std.proofs.lemmas.Nat.{mul-le}
use Rattle.ir_data.proofs.Sizes.{size_within}
use Rattle.ir_translator_emit.proofs.translator.Translator.emit_alloca.Goals as goal

pub aligned-requires : goal.aligned-requires
aligned-requires c =
    let within = size_within c.args.of.now c.requires.sizes in
    let is = c.size_of.ensures in
    let size = c.from.ensures in
    let count = c.from-2.ensures in
    let fits = c.ranges.count.fits in
    let low : c.from.result ≤ 2 ^ 32 = omega (arith, within, is, size) in
    let high : c.from-2.result ≤ 2 ^ 64 = omega (arith, count, fits) in
    let most = mul-le c.from.result c.from-2.result (2 ^ 32) (2 ^ 64) low high in
    omega (arith, most)
