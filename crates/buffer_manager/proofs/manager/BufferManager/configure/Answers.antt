use Rattle.std.proofs.Common.{◌≡◌, false, ◌+◌, List, true, sym, ap, ◌∙◌, arith, length, take}
use Rattle.std.specs.Prelude.{slice_index_or}
use Rattle.std.proofs.lemmas.List.{length-replicate, length-take-le, take_all, take_more}
use Rattle.cam_types.specs.Profile.{is_profile}
use Rattle.cam_types.specs.declared.stream.Format.TheVariants.{Raw16}
use Rattle.cam_types.specs.declared.stream.StreamSpec.{StreamSpec}
use Rattle.trace_model.specs.Place.{Pool}
use Rattle.trace_model.specs.Reply.{made_for}
use Rattle.state_facts.specs.Homes.{count_in}
use Rattle.buffer_manager.specs.Managed.{Managed, cleared, opened, with_stream}
use Rattle.buffer_manager.proofs.Accepted.{accepted, few-made, offered-at, opened-more, room-for}
use Rattle.buffer_manager.proofs.manager.BufferManager.configure.Goals as goal

pub loop-spec-init : goal.loop-spec-init
loop-spec-init c = c.clear.ensures.cleared

pub open_stream-requires-clause-offered : goal.open_stream-requires-clause-offered
open_stream-requires-clause-offered c =
    let ok = accepted c.as_slice-spec-items.result.now (rw c.as_slice-spec-items.ensures c.requires.accepted) in
    offered-at c.as_slice-spec-items.result.now c.loop-spec.spec-index (record { input = false; format = Raw16; width = 0; height = 0 }) ok c.loop-spec-test.true

pub open_stream-requires-clause-room : goal.open_stream-requires-clause-room
open_stream-requires-clause-room c =
    let ok = accepted c.as_slice-spec-items.result.now (rw c.as_slice-spec-items.ensures c.requires.accepted) in
    let specs = ap (λ (m : Managed). m.specs) c.loop-spec.invariant in
    rw specs (room-for c.as_slice-spec-items.result.now c.loop-spec.spec-index (record { input = false; format = Raw16; width = 0; height = 0 }) ok c.loop-spec-test.true)

pub open_stream-requires-clause-numbered : goal.open_stream-requires-clause-numbered
open_stream-requires-clause-numbered c =
    let items = c.as_slice-spec-items.result.now in
    let i = c.loop-spec.spec-index in
    let m = c.args.self.now in
    let next = m.first + length m.places in
    let ok = accepted c.as_slice-spec-items.result.now (rw c.as_slice-spec-items.ensures c.requires.accepted) in
    let valid : is_profile c.args.self.now.profile ≡ true = rw c.clear.ensures.cleared at c.clear.ensures.valid in
    let few = few-made c.args.self.now.profile (c.args.self.now.first + length c.args.self.now.places) (take c.loop-spec.spec-index c.as_slice-spec-items.result.now) valid in
    let within = c.loop-spec-test.true in
    let long = length-take-le c.loop-spec.spec-index c.as_slice-spec-items.result.now (omega (arith, within)) in
    let first = ap (λ (m : Managed). m.first) c.loop-spec.invariant in
    let places = ap (λ (m : Managed). length m.places) c.loop-spec.invariant ∙ length-replicate (count_in (made_for c.args.self.now.profile (c.args.self.now.first + length c.args.self.now.places) (take c.loop-spec.spec-index c.as_slice-spec-items.result.now))) Pool in
    let most = ok.few in
    let numbered = c.requires.numbered in
    omega (arith, few, within, long, first, places, most, numbered)

pub loop-spec-preserved : goal.loop-spec-preserved
loop-spec-preserved c =
    let more = take_more c.as_slice-spec-items.result.now c.loop-spec.spec-index (record { input = false; format = Raw16; width = 0; height = 0 }) c.loop-spec-test.true in
    c.open_stream.ensures ∙ (ap (λ (m : Managed). with_stream (slice_index_or c.as_slice-spec-items.result.now c.loop-spec.spec-index (record { input = false; format = Raw16; width = 0; height = 0 })) m) c.loop-spec.invariant ∙ (opened-more (take c.loop-spec.spec-index c.as_slice-spec-items.result.now) (slice_index_or c.as_slice-spec-items.result.now c.loop-spec.spec-index (record { input = false; format = Raw16; width = 0; height = 0 })) (cleared c.args.self.now) ∙ ap (λ (s : List StreamSpec). opened s (cleared c.args.self.now)) (sym more)))

pub returns-clause-reopened : goal.returns-clause-reopened
returns-clause-reopened c =
    let past = c.loop-spec-test.false in
    let all = take_all c.loop-spec.spec-index c.as_slice-spec-items.result.now (omega (arith, past)) ∙ c.as_slice-spec-items.ensures in
    c.loop-spec.invariant ∙ ap (λ (s : List StreamSpec). opened s (cleared c.args.self.now)) all
