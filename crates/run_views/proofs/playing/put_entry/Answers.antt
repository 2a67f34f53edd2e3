use Rattle.std.proofs.Common.{◌∙◌, [], option_to_list}
use Rattle.std.specs.List.{flat_map}
use Rattle.trace_text.specs.Spelling.{line_of}
use Rattle.run_views.proofs.Moves.{no_line, some_line}
use Rattle.run_views.proofs.Pieces.{nothing_more, same_bytes}
use Rattle.run_views.proofs.playing.put_entry.Goals as goal

pub returns-in-Some : goal.returns-in-Some
returns-in-Some g c =
    same_bytes c.line.result.now (flat_map line_of (option_to_list c.args.entry)) c.args.teller.now c.put.new.self (g.K.Sink.state c.args.sink.now) (g.K.Sink.state c.put.new.sink) (c.line.ensures ∙ some_line c.args.entry c.in-Some.entry c.in-Some.is) c.put.ensures

pub returns-in-None : goal.returns-in-None
returns-in-None g c =
    let here = g.K.Sink.state c.args.sink.now in
    same_bytes [] (flat_map line_of (option_to_list c.args.entry)) c.args.teller.now c.args.teller.now here here (no_line c.args.entry c.in-None.is) (nothing_more c.args.teller.now here)
