use Rattle.logical_call.proofs.Sides.{pairs_follow, pairs_once}
use Rattle.logical_call.proofs.Whole.{pairs_say}
use Rattle.logical_call.proofs.laws.each_frame_has_one_pair.Goals as goal

pub returns-clause-once : goal.returns-clause-once
returns-clause-once c = pairs_once

pub returns-clause-follow : goal.returns-clause-follow
returns-clause-follow c = pairs_follow

pub returns-clause-say : goal.returns-clause-say
returns-clause-say c = pairs_say
