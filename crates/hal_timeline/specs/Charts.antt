-- A hal log as a chart (our own choice of what is drawn).
use Rattle.std.specs.Prelude.{ℕ, ◌+◌, List, None, length, map, min, reverse}
use Rattle.hal_model.specs.Rules.{plain_rules, report_by}
use Rattle.hal_model.specs.declared.event.HalEvent.{HalEvent}
use Rattle.hal_model.specs.declared.rule.Breach.{Breach}
use Rattle.hal_text.specs.declared.log.HalLog.{HalLog}
use Rattle.timeline_model.specs.declared.chart.Chart.{Chart}
use Rattle.timeline_model.specs.declared.chart.Kind.TheVariants as kind
use Rattle.timeline_model.specs.declared.look.Look.TheVariants.{Unfinished}
use Rattle.hal_timeline.specs.Groups.{all_groups}
use Rattle.hal_timeline.specs.Notes.{notes_of}
use Rattle.hal_timeline.specs.Pieces.{gone_piece}
use Rattle.hal_timeline.specs.Rows.{rows}

-- the breaches of a log, as `hal` reports them
abbrev pub breaches_of : HalLog → List Breach
breaches_of log = report_by plain_rules log.parts (reverse log.events)

-- of a log whose events are these, the newest first
abbrev pub chart_in : ℕ → List ℕ → List HalEvent → List Breach → Chart
chart_in k lines past breaches = record {
  kind = kind.Hal;
  rows = min (rows past).most 15 + 1;
  lanes = (rows past).lanes;
  count = length past;
  groups = all_groups k lines past;
  unfinished = map (gone_piece Unfinished) (rows past).seats;
  fault = None;
  notes = notes_of lines breaches (rows past).left;
}

unfoldable pub chart_of : HalLog → Chart
chart_of log = chart_in log.parts log.lines (reverse log.events) (breaches_of log)
