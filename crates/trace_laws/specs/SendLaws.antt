use Rattle.std.specs.Prelude.{◌≡◌, ℕ, Bool, List, Some, IsSome}
use Rattle.cam_types.specs.declared.four.Four.{Four}
use Rattle.cam_types.specs.declared.number.FrameNo.{FrameNo}
use Rattle.cam_types.specs.declared.number.RequestId.{RequestId}
use Rattle.cam_types.specs.declared.script.Script.{Script}
use Rattle.trace_model.specs.declared.entry.Entry.{Entry}
use Rattle.trace_model.specs.declared.entry.Entry.TheVariants.{Send}
use Rattle.trace_model.specs.declared.entry.Sent.{Sent}
use Rattle.trace_model.specs.Allowed.{IsAllowed}
use Rattle.trace_model.specs.Send.{send_due}

-- Of a send the buffers are free: what the send that is due has to do with those that are allowed.

-- the send that is due is one that is allowed
abbrev pub AllowsWhatIsDue : Script → List Entry → Type 0
AllowsWhatIsDue script past = (e : Entry) → send_due script past ≡ Some e → IsAllowed script past e

-- one is due where one is allowed
abbrev pub IsDueWhereAllowed : Script → List Entry → Type 0
IsDueWhereAllowed script past =
    (n : FrameNo) (r : RequestId) (i : ℕ) (same : Bool) (targets : Four Sent) →
    IsAllowed script past (Send n r i same targets) → IsSome (send_due script past)
