use Rattle.std.proofs.Common.{sym, ap, ◌∙◌}
use Rattle.service_core.specs.Kinds.{first_of}
use Rattle.service_core.proofs.FirstOfKind.{first_read}
use Rattle.service_core.proofs.Reading.{read}
use Rattle.service_core.proofs.asking.first.Goals as goal

pub returns : goal.returns
returns c =
    let s = c.args.service.now in
    let v = c.parts.result.now in
    let all = read s v c.parts.ensures.parts (c.candidates_are_read_from_the_parts.ensures s.script s.history c.is_a_run.ensures.run) in
    let kinds = c.kinds_of_candidates.ensures v.script v.parts in
    c.first_ready.ensures ∙ (sym (first_read v.script v.parts c.args.kind) ∙ ap (first_of c.args.kind) (sym kinds ∙ all))
