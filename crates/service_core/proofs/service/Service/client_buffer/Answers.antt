use Rattle.std.proofs.Common.{sym, ap, ◌∙◌}
use Rattle.service_parts.specs.After.{picture_in}
use Rattle.service_parts.specs.Parts.{Parts}
use Rattle.service_parts.proofs.Shown.{shown_read}
use Rattle.service_core.proofs.service.Service.client_buffer.Goals as goal

pub returns : goal.returns
returns c =
    let s = c.self.inside.state in
    let log = c.self.inside.log in
    rw (← c.self.view_is) (record { picture = c.client_buffer.ensures ∙ (ap (λ (p : Parts). picture_in p c.args.buffer.0) c.self.invariant.left ∙ sym (shown_read s.script log.moves c.args.buffer.0 c.self.invariant.run)) })
