-- The text of a trace that was judged.
use Rattle.std.specs.Prelude.{ℕ, List, Option, None, reverse, slice_get, take}
use Rattle.cam_types.specs.declared.script.Script.{Script}
use Rattle.trace_model.specs.declared.verdict.Verdict.{Verdict}
use Rattle.trace_model.specs.declared.verdict.Verdict.TheVariants.{IllegalAt}
use Rattle.trace_model.specs.declared.entry.Entry.{Entry}
use Rattle.timeline_model.specs.declared.chart.Chart.{Chart}
use Rattle.timeline_model.specs.Charts.{chart_of}
use Rattle.timeline_model.specs.Timelines.{timeline}
use Rattle.timeline_svg.specs.Pictures.{svg_text}
use Rattle.timeline_json.specs.Timelines.{json_text}
use Rattle.run_views.specs.declared.form.Form.{Form}
use Rattle.run_views.specs.declared.form.Form.TheVariants.{Svg, Perfetto}
use Rattle.run_views.specs.Notes.{note_text}

-- the entries before the one that isn't allowed, or all: what stands behind it has no meaning
abbrev pub front : List Entry → Verdict → List Entry
front entries (IllegalAt position _) = take position entries
front entries _ = entries

-- the entry that isn't allowed
abbrev pub fault_in : List Entry → Verdict → Option Entry
fault_in entries (IllegalAt position _) = slice_get entries position
fault_in entries _ = None

-- the text of a chart in a form
abbrev pub text_in : Form → Chart → List ℕ
text_in Svg chart = svg_text chart
text_in Perfetto chart = json_text chart

-- the timeline of the entries that are allowed, with the one that isn't and the verdict
unfoldable pub text_of : Form → Script → List Entry → Verdict → List ℕ
text_of form script entries v =
    text_in form (chart_of (timeline script (reverse (front entries v))) (fault_in entries v)
    (note_text script (front entries v) (fault_in entries v) v))
