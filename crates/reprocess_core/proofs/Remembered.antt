-- What the keys of outputs say.
use Rattle.std.proofs.Common.{◌≡◌, ℕ, true, List, ap}
use Rattle.cam_types.specs.Picture.{is_offered, picture}
use Rattle.cam_types.specs.declared.stream.StreamSpec.{StreamSpec}
use Rattle.picture_stages.proofs.KeyLemmas.{by-key}
use Rattle.reprocess_model.specs.Plan.{is_yuv}
use Rattle.reprocess_model.specs.Reduce.{reduced, reduced_to}
use Rattle.reprocess_core.specs.Keys.{key_of, output_by}
use Rattle.reprocess_core.specs.Tickets.{TicketView}
use Rattle.reprocess_core.proofs.Yuv.{yuv-format, yuv-size}

offered : (spec : StreamSpec) → is_yuv spec ≡ true → is_offered spec ≡ true
offered spec h = rw (yuv-format spec h) (yuv-size spec h)

-- what is made of the ticket's picture is the picture of the key
pub by-output-key : (ticket : TicketView) (to : StreamSpec) → is_yuv ticket.spec ≡ true → reduced ticket.spec to (picture ticket.spec ticket.settings ticket.frame.0) ≡ output_by (key_of ticket to)
by-output-key ticket to h =
    ap (λ (shown : List ℕ). reduced_to ticket.spec.width ticket.spec.height to.width to.height shown)
    (by-key ticket.spec ticket.settings ticket.frame.0 (offered ticket.spec h))
