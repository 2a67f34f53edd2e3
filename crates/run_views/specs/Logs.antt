-- The text of a hal log that was judged.
use Rattle.std.specs.Prelude.{ℕ, List, if◌then◌else◌}
use Rattle.hal_text.specs.declared.log.HalLog.{HalLog}
use Rattle.hal_timeline.specs.Charts.{breaches_of, chart_of}
use Rattle.hal_timeline.specs.Groups.{is_some_breach}
use Rattle.run_views.specs.Fronts.{text_in}
use Rattle.run_views.specs.declared.form.Form.{Form}

-- 0 where nothing is broken
abbrev pub log_status : HalLog → ℕ
log_status log = if is_some_breach (breaches_of log) then 1 else 0

unfoldable pub log_text : Form → HalLog → List ℕ
log_text form log = text_in form (chart_of log)
