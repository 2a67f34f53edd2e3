-- The numbers of a valid script are small, so that its bounds fit.
use Rattle.std.proofs.Common.{◌≡◌, ◌*◌, ◌≤◌, true, List, [], ◌∷◌, arith, length, sum_by}
use Rattle.std.specs.List.{list_all}
use Rattle.std.specs.Prelude.{IsTrue}
use Rattle.std.proofs.lemmas.Bool.{and_parts}
use Rattle.std.proofs.lemmas.List.Sums.{sum_by-cons}
use Rattle.cam_types.specs.Script.{awaited_by, is_valid}
use Rattle.cam_types.specs.declared.script.Script.{Script}
use Rattle.trace_laws.specs.Bounds.{frame_bound, queued_by}
use Rattle.trace_laws.proofs.ValidLemmas.{few-frames, valid, queue_few}

pub record Few (s : Script) : Type 0 where
  pub commands : length s.commands ≤ 512
  pub awaited : sum_by awaited_by s.commands ≤ 16384
  pub queued : sum_by queued_by s.commands ≤ 16384
  pub frames : frame_bound s ≤ 65664

pub few : (s : Script) → IsTrue (is_valid s) → Few s
few s h =
    let v = valid s h in
    let each = queue_few s.commands v.fit in
    record { commands = v.commands; awaited = v.awaited; queued = omega (arith, each, v.commands); frames = few-frames s v }
