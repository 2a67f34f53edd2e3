use Rattle.std.proofs.Common.{get_or, ap, sym, ◌∙◌, arith}
use Rattle.std.proofs.lemmas.Grind.{same_number_lists}
use Rattle.cam_types.specs.Picture.{raw_picture}
use Rattle.cam_types.proofs.PictureLemmas.{length-raw_picture}
use Rattle.picture_stages.proofs.fill.write_bands.Goals as goal

pub returns : goal.returns
returns g c = same_number_lists c.for_each_chunk_mut.new.s (raw_picture c.args.values.now) (c.for_each_chunk_mut.auto.s ∙ (c.requires.room ∙ sym (length-raw_picture c.args.values.now))) (λ k h.
    let at = (c.for_each_chunk_mut.ensures.by_index k 0 (omega arith)).1 in
    sym at.new_element ∙ (at.call at.offset at.offset_in_chunk ∙ ap (λ i. get_or (raw_picture c.args.values.now) i 0) at.start_plus_offset))
