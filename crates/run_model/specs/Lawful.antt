use Rattle.std.specs.Prelude.{List, IsTrue}
use Rattle.cam_types.specs.declared.script.Script.{Script}
use Rattle.trace_model.specs.declared.entry.Entry.{Entry}
use Rattle.trace_laws.specs.BufferLaws.{sends_what_is_home}
use Rattle.trace_model.specs.Laws.{ConservesBuffers, CountsUp, EndsOnce, FencesOnce, delivers_in_order, ends_in_order, rises}

-- What holds of a complete run, in the words of a user of the contract: every buffer is in one place and comes back
-- once for each frame; each item of a once or a burst is sent or dropped once, and each frame's metadata ends once;
-- shutters, deliveries and ends of metadata are in order; parts count up; fences are released and signalled once; a
-- buffer is sent only where it is home.
-- (docs/CONTRACT.md, laws)
pub record KeepsLaws (script : Script) (past : List Entry) : Type 0 where
  pub buffers : ConservesBuffers past
  pub ends : EndsOnce script past
  pub shutters : IsTrue (rises past)
  pub deliveries : IsTrue (delivers_in_order past)
  pub metadata : IsTrue (ends_in_order past)
  pub parts : CountsUp past
  pub fences : FencesOnce past
  pub resent : IsTrue (sends_what_is_home past)
