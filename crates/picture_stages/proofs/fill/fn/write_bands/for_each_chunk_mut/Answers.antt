use Rattle.std.proofs.Common.{◌≡◌, ◌+◌, ◌-◌, ◌*◌, ◌/◌, length, get_or, ap, ◌∙◌, arith}
use Rattle.cam_types.specs.Picture.{raw_picture}
use Rattle.picture_stages.proofs.RawLemmas.{byte-of-band}
use Rattle.picture_stages.proofs.fill.fn.write_bands.for_each_chunk_mut.Goals as goal

pub returns : goal.returns
returns c = λ k h.
    let at : c.args.start / 2 * 2 + k ≡ c.args.start + k = omega arith in
    ap (λ l. get_or l k 0) c.write_bytes.ensures
    ∙ (byte-of-band c.captures.values.now (c.args.start / 2) (c.args.start / 2 + length c.args.band.now / 2 - c.args.start / 2) k (omega arith) (omega arith)
    ∙ ap (λ i. get_or (raw_picture c.captures.values.now) i 0) at)
