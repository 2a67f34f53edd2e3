-- What stands after the pass is what stands after the log.
use Rattle.std.proofs.Common.{◌≡◌, ◌∙◌, ap, length, refl, reverse, sym}
use Rattle.std.proofs.lemmas.List.{length-reverse}
use Rattle.hal_timeline.specs.Charts.{chart_of}
use Rattle.hal_timeline.specs.Passes.{IsPast}
use Rattle.hal_timeline.specs.Rows.{Seating, rows, seating_of}
use Rattle.hal_timeline.specs.Walks.{Standing}
use Rattle.hal_timeline.proofs.chart.judged_in.Goals as goal

pub returns-clause-chart : goal.returns-clause-chart
unfolding chart_of
returns-clause-chart c =
    let past = reverse c.args.log.now.events in
    let pass = c.draw_all.new.pass in
    let is : IsPast c.args.log.now.parts past pass = rw c.as_slice-events.ensures at c.in_ok-groups.ensures.past in
    let seated : seating_of pass.walk.rows ≡ rows past = ap (λ (s : Standing). s.rows) is.stands in
    let count : c.len-count.result ≡ length past = c.len-count.ensures ∙ sym (length-reverse c.args.log.now.events) in
    let most = ap (λ (r : Seating). r.most) seated in
    let lanes = ap (λ (r : Seating). r.lanes) seated in
    let seats = ap (λ (r : Seating). r.seats) seated in
    let left = ap (λ (r : Seating). r.left) seated in
    rw (c.min-rows.ensures, c.lanes_of.ensures, count, c.in_ok-groups.ensures.drawn, c.as_slice-events.ensures, c.in_ok-notes.ensures, c.as_slice-breaches.ensures.value, c.in_ok-unfinished.ensures, c.as_slice-seats.ensures.value, is.told, most, lanes, seats, left) refl

pub returns-clause-broken : goal.returns-clause-broken
returns-clause-broken c =
    let is : IsPast c.args.log.now.parts (reverse c.args.log.now.events) c.draw_all.new.pass = rw c.as_slice-events.ensures at c.in_ok-groups.ensures.past in
    rw (c.is_some_breach-broken.ensures, c.as_slice-breaches.ensures.value, is.told) refl
