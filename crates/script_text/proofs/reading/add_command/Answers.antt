use Rattle.std.proofs.Common.{sym}
use Rattle.std.proofs.lemmas.Result.{err_from_is_err_and}
use Rattle.text_parts.specs.Words.{loose_words}
use Rattle.script_text.specs.Lines.{command_of}
use Rattle.script_text.specs.Grammar.{begun}
use Rattle.script_text.proofs.Added.{command_refused}
use Rattle.script_text.proofs.reading.add_command.Goals as goal

pub returns-in_err-command : goal.returns-in_err-command
returns-in_err-command c =
    let p = err_from_is_err_and c.from_residual.result c.from_residual.ensures.1 in
    rw (p.1, p.2, sym c.in-Some.ensures)
    (command_refused (begun c.args.draft.now.script c.args.draft.now.devices) (command_of c.in-Some.word (loose_words c.args.rest.now)) c.in_err-command.field-0.0 c.in_err-command.ensures)
