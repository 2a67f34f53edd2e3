use Rattle.run_model.proofs.laws.a_complete_run_keeps_the_laws.Goals as goal

pub returns : goal.returns
returns c = λ script past complete. record {
  buffers = c.buffers_are_conserved.ensures script past complete.legal;
  ends = record {
    items = c.items_end_once.ensures script past complete;
    metadata = c.metadata_ends_once.ensures script past complete;
    buffers = c.buffers_end_once.ensures.once script past complete;
  };
  shutters = c.shutters_rise.ensures script past complete.legal;
  deliveries = c.deliveries_are_in_order.ensures script past complete.legal;
  metadata = c.metadata_ends_in_order.ensures script past complete.legal;
  parts = c.partials_count_up.ensures.whole script past complete;
  fences = c.fences_are_released_and_signalled_once.ensures.signalled script past complete;
  resent = c.buffers_are_sent_from_home.ensures script past complete.legal;
}
