use Rattle.std.proofs.Common.{◌≡◌, refl, ap, ◌∙◌, ℤ, to_z, of_z, w32, arith}
use Rattle.rv_core.specs.Step.{view, read, plus}
use Rattle.std.proofs.lemmas.Int.{to_z-of_z}
use Rattle.rv_play.specs.Machine.{store_size}
use Rattle.hart.specs.Places.{found_at}
use Rattle.hart.specs.declared.map.Found.TheVariants.{Bytes, Control}
use Rattle.hart.proofs.Stepping.{store_to_data, store_to_control}
use Rattle.hart.proofs.hart.Hart.store_at.Goals as goal

pub returns-in-Bytes : goal.returns-in-Bytes
returns-in-Bytes c =
    let found : found_at c.len.result c.len-2.result c.address_of-address.result (store_size c.args.op) ≡ Bytes c.in-Bytes.place = cc in
    let address : c.address_of-address.result ≡ plus (read (view c.args.self.now.regs) c.args.rs1) c.args.offset =
    c.address_of-address.ensures ∙ ap (λ (z : ℤ). plus (read (view c.args.self.now.regs) c.args.rs1) z) (to_z-of_z w32 c.args.offset c.ranges.offset) in
    let long = c.store_number.ensures.length in
    record {
      goes = λ m for_it counted pass.
          store_to_data m c.args.self.now c.store_number.new.bytes.items c.args.pc c.add_offset.result c.len.result c.len-2.result c.address_of-address.result c.in-Bytes.place
          c.read-value.result c.args.op c.args.rs2 c.args.rs1 c.args.offset counted pass
          c.add_offset.ensures (let room = for_it.room in omega arith) address c.read-value.ensures found c.store_number.ensures.bytes;
      same = record { room = omega arith; widths = refl; functions = refl; code_words = refl; width = refl; fuel = refl };
      phase = refl;
    }

pub returns-in-Control : goal.returns-in-Control
returns-in-Control c =
    let found : found_at c.len.result c.len-2.result c.address_of-address.result (store_size c.args.op) ≡ Control c.in-Control.place = cc in
    let address : c.address_of-address.result ≡ plus (read (view c.args.self.now.regs) c.args.rs1) c.args.offset =
    c.address_of-address.ensures ∙ ap (λ (z : ℤ). plus (read (view c.args.self.now.regs) c.args.rs1) z) (to_z-of_z w32 c.args.offset c.ranges.offset) in
    record {
      goes = λ m for_it counted pass.
          store_to_control m c.args.self.now c.store_number-in-Control.new.bytes.items c.args.pc c.add_offset-in-Control.result c.len.result c.len-2.result c.address_of-address.result c.in-Control.place
          c.read-value.result c.args.op c.args.rs2 c.args.rs1 c.args.offset counted pass
          c.add_offset-in-Control.ensures (let room = for_it.room in omega arith) (omega arith) address c.read-value.ensures found c.store_number-in-Control.ensures.bytes;
      same = record { room = refl; widths = refl; functions = refl; code_words = refl; width = refl; fuel = refl };
      phase = refl;
    }
