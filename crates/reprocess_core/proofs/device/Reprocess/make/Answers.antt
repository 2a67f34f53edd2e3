use Rattle.reprocess_core.proofs.device.Reprocess.make.Goals as goal

pub invariant_of-self : goal.invariant_of-self
invariant_of-self c = record {
  steps = rw c.make_take.ensures.course c.self.invariant.steps;
  room = c.self.invariant.room;
  places = c.make_take.ensures.places;
  readout = c.make_take.ensures.readout;
  blocks = c.self.invariant.blocks;
}

pub invariant_of-self-in-ReturnFilled : goal.invariant_of-self-in-ReturnFilled
invariant_of-self-in-ReturnFilled c = record {
  steps = rw c.make_fill.ensures.course c.self.invariant.steps;
  room = c.self.invariant.room;
  places = c.make_fill.ensures.places;
  readout = c.self.invariant.readout;
  blocks = c.make_fill.ensures.blocks;
}

pub invariant_of-self-in-ReturnInput : goal.invariant_of-self-in-ReturnInput
invariant_of-self-in-ReturnInput c = record {
  steps = rw c.make_return.ensures.course c.self.invariant.steps;
  room = c.self.invariant.room;
  places = c.make_return.ensures.places;
  readout = c.self.invariant.readout;
  blocks = c.self.invariant.blocks;
}
