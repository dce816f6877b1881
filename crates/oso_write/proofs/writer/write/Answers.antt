use Rattle.oso_write.proofs.ValidParts.{header_data, symbols_data, all_inside}
use Rattle.oso_write.proofs.writer.write.Goals as goal

pub write_raw-requires : goal.write_raw-requires
write_raw-requires c =
    let raw = c.args.shader.now in
    let valid = c.raw.ensures.valid in
    rw c.raw.ensures.value (record { metas = header_data raw valid; symbols = symbols_data raw valid; sections = all_inside raw valid })
