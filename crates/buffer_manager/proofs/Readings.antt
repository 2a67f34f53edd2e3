-- What a call makes of the manager's state is what an entry makes of the state of a trace's buffers, whatever release
-- fences are signalled.
use Rattle.std.proofs.Common.{◌≡◌, ℕ, Bool, List, Some, None, refl}
use Rattle.cam_types.specs.declared.number.BufferId.{BufferId}
use Rattle.cam_types.specs.declared.number.DeviceFenceNo.{DeviceFenceNo}
use Rattle.cam_types.specs.declared.number.FrameNo.{FrameNo}
use Rattle.cam_types.specs.declared.number.StreamIx.{StreamIx}
use Rattle.trace_model.specs.declared.entry.Entry.TheVariants.{Early, Late}
use Rattle.trace_model.specs.declared.entry.Sent.{Sent}
use Rattle.trace_model.specs.Place.{Client}
use Rattle.state_facts.specs.Homes.{homes_after, sent_with}
use Rattle.buffer_manager.specs.Managed.{Managed, homes_with, moved, sent_away, with_late, with_picture}

pub early-is : (signalled : List Bool) (n : FrameNo) (s : StreamIx) (b : BufferId) (d : DeviceFenceNo) (m : Managed) → homes_with signalled (with_late (moved b.0 Client None (Some d) None m)) ≡ homes_after (Early n s b d) (homes_with signalled m)
early-is signalled n s b d m = refl

pub late-is : (signalled : List Bool) (d : DeviceFenceNo) (b : ℕ) (picture digest : List ℕ) (m : Managed) → homes_with signalled (with_picture d.0 b picture m) ≡ homes_after (Late d digest) (homes_with signalled m)
late-is signalled d b picture digest m = refl

pub sent-is : (signalled : List Bool) (targets : List Sent) (m : Managed) → homes_with signalled (sent_away targets m) ≡ sent_with targets (homes_with signalled m)
sent-is signalled targets m = refl
