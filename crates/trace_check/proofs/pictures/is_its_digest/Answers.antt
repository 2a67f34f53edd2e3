use Rattle.std.proofs.Common.{◌∙◌, sym, ap, slice_get}
use Rattle.cam_types.specs.Picture.{is_offered}
use Rattle.state_facts.specs.Clients.{Clients}
use Rattle.trace_model.specs.Picture.{digest_on}
use Rattle.trace_check.proofs.Dark.{drawn}
use Rattle.trace_check.proofs.pictures.is_its_digest.Goals as goal
use Rattle.basic_lemmas.proofs.Lists.{all-at}

pub digest-memory-requires-clause-offered : goal.digest-memory-requires-clause-offered
digest-memory-requires-clause-offered c =
    let at = sym (c.stream.ensures ∙ ap (λ (z : Clients). slice_get z.streams c.args.stream.0) c.client.ensures) ∙ c.in-Some.is in
    all-at is_offered c.args.tables.now.state.client.streams c.args.stream.0 c.in-Some.spec c.requires.offered at

pub returns-in-Some : goal.returns-in-Some
returns-in-Some c =
    let at = sym (c.stream.ensures ∙ ap (λ (z : Clients). slice_get z.streams c.args.stream.0) c.client.ensures) ∙ c.in-Some.is in
    let own = c.args.row.now.settings in
    let n = c.args.row.now.frame.0 in
    let its = drawn c.in-Some.spec c.settings_to_draw-settings.result own n (c.settings_to_draw-settings.ensures.picture c.in-Some.spec n) in
    let same = c.digest-memory.ensures.digest ∙ (its ∙ sym (ap (λ o. digest_on o own n) at)) in
    (λ h. c.is_same_digest.ensures.0 h ∙ same, λ h. c.is_same_digest.ensures.1 (h ∙ sym same))
