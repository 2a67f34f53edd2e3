use Rattle.std.proofs.Common.{◌≡◌, ◌+◌, Ok, Err, ap, ◌∙◌}
use Rattle.std.proofs.lemmas.Result.{err_from_is_err_and}
use Rattle.text_parts.specs.Cuts.{parts_at}
use Rattle.trace_reader.specs.Grammar.{entries_from, with_profile, trace_of}
use Rattle.trace_reader.specs.Lines.{named_profile}
use Rattle.trace_reader.proofs.Fronts.{good_first, bad_first, refused_behind}
use Rattle.trace_reader.proofs.reading.read.Goals as goal

pub returns-in_err-entries-in-Ok : goal.returns-in_err-entries-in-Ok
returns-in_err-entries-in-Ok c =
    let named : named_profile c.in-Some.line.now ≡ Ok c.in-Ok.profile = cc in
    let p = err_from_is_err_and c.from_residual.result c.from_residual.ensures.1 in
    let same = good_first c.args.first_line c.in-Some.line.now c.in-Some.rest.now c.args.bytes.now c.in-Ok.profile c.in-Some.ensures.parts named in
    rw (p.1, p.2) (refused_behind c.in_err-entries-in-Ok.field-0.0 c.in-Ok.profile (entries_from (c.args.first_line + 1) (parts_at 10 c.in-Some.rest.now)) (trace_of c.args.first_line c.args.bytes.now) same c.in_err-entries-in-Ok.ensures)

pub returns-in_ok-entries-in-Ok : goal.returns-in_ok-entries-in-Ok
returns-in_ok-entries-in-Ok c =
    let named : named_profile c.in-Some.line.now ≡ Ok c.in-Ok.profile = cc in
    good_first c.args.first_line c.in-Some.line.now c.in-Some.rest.now c.args.bytes.now c.in-Ok.profile c.in-Some.ensures.parts named ∙ ap (with_profile c.in-Ok.profile) c.in_ok-entries-in-Ok.ensures

pub returns-in-Err : goal.returns-in-Err
returns-in-Err c =
    let named : named_profile c.in-Some.line.now ≡ Err c.in-Err.cause = cc in
    rw c.bad-in-Err.ensures (bad_first c.args.first_line c.in-Some.line.now c.in-Some.rest.now c.args.bytes.now c.in-Err.cause c.in-Some.ensures.parts named)
