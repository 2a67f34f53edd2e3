use Rattle.std.proofs.Common.{◌∙◌, ap}
use Rattle.std.specs.List.{list_any}
use Rattle.hal_checks.specs.Meant.{is_meant}
use Rattle.hal_checks.proofs.Lists.{any_rows}
use Rattle.hal_checks.proofs.meant.is_some_meant.Goals as goal

pub returns : goal.returns
returns c =
    let p = is_meant c.args.which c.args.event.now in
    c.is_some_of.ensures ∙ (any_rows p c.rows.result ∙ ap (list_any p) c.rows.ensures.rows)
