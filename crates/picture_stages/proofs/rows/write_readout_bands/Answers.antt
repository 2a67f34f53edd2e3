use Rattle.std.proofs.Common.{arith, sym, ◌∙◌}
use Rattle.picture_stages.proofs.RowLemmas.{readout-all, whole-rows, place-of-band}
use Rattle.picture_stages.proofs.rows.write_readout_bands.Goals as goal

pub returns : goal.returns
returns g c = readout-all c.args.settings c.args.frame.0 c.for_each_chunk_mut.new.s (c.for_each_chunk_mut.auto.s ∙ c.requires.len) (λ k h.
    let at = (c.for_each_chunk_mut.ensures.by_index k 0 (omega arith)).1 in
    sym at.new_element ∙ (at.call at.offset at.offset_in_chunk ∙ place-of-band c.args.settings c.args.frame.0 at.start at.offset k (whole-rows c.div_ceil-rows.result at.start at.argument_is.start_is_multiple) at.start_plus_offset))
