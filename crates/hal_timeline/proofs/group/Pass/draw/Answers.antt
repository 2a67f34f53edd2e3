-- Field by field.
use Rattle.std.proofs.Common.{◌∙◌, ◌∷◌, ap, sym}
use Rattle.hal_timeline.specs.Groups.{number_at}
use Rattle.hal_timeline.specs.Pieces.{pieces_of}
use Rattle.hal_timeline.specs.Walks.{standing_of}
use Rattle.hal_timeline.proofs.Drawn.{changed_same, group_same, stops_same}
use Rattle.hal_timeline.proofs.group.Pass.draw.Goals as goal

pub returns-clause-drawn : goal.returns-clause-drawn
returns-clause-drawn c =
    λ past h long.
    let next = c.in_ok-broken.ensures.past past h long in
    let live = c.live-level.ensures c.args.parts past h.table in
    let live' = c.live-next.ensures c.args.parts (c.args.event.now ∷ past) next.table in
    let stops = c.is_stopping-stopping.ensures ∙ stops_same (standing_of c.args.self.now.walk) past h.stands in
    let stops' = c.is_stopping-then_stopping.ensures ∙ stops_same (standing_of c.judge.new.self.walk) (c.args.event.now ∷ past) next.stands in
    group_same c.args.parts c.args.lines.now c.args.event.now past c.args.place c.from.result c.live-next.result c.in_ok-shown_event.field-0 c.in_ok-pieces.pieces c.is_stopping-then_stopping.result c.is_changed.result c.in_ok-broken.broken (sym long) (c.from.ensures ∙ (c.number_at.ensures ∙ ap (number_at c.args.lines.now) (sym long))) c.in_ok-shown_event.ensures (c.in_ok-pieces.ensures ∙ ap (pieces_of c.args.event.now) h.stands) live' stops' (c.is_changed.ensures ∙ changed_same _ _ _ _ _ _ _ _ live live' stops stops') (c.in_ok-broken.ensures.broken past h long)
