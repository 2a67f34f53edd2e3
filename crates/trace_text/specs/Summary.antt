-- The one spelling of how much of each a trace has: our own choice. (docs/FORMATS.md, summary)
use Rattle.std.specs.Prelude.{ℕ, Bool, List, [], ◌∷◌, codes, decimal}
use Rattle.text_parts.specs.Lines.{line_text}
use Rattle.trace_model.specs.declared.entry.Entry.{Entry}
use Rattle.trace_model.specs.Entry.{is_call}
use Rattle.trace_model.specs.Summary.{Summary, is_drop, is_failed_buffer, is_filled_buffer, is_last_part, is_request_error, is_result_error, is_send}
use Rattle.trace_text.specs.declared.summary.Kind.{Kind}
use Rattle.trace_text.specs.declared.summary.Kind.TheVariants.{Call, Send, Drop, LastPart, RequestError, ResultError, FilledBuffer, FailedBuffer}

abbrev pub summary_words : Summary → List (List ℕ)
summary_words s =
    codes "commands" ∷ decimal s.commands
    ∷ codes "frames" ∷ decimal s.frames
    ∷ codes "dropped" ∷ decimal s.dropped
    ∷ codes "results" ∷ decimal s.results
    ∷ codes "request-errors" ∷ decimal s.request_errors
    ∷ codes "result-errors" ∷ decimal s.result_errors
    ∷ codes "buffers-ok" ∷ decimal s.buffers_ok
    ∷ codes "buffers-error" ∷ decimal s.buffers_error
    ∷ codes "entries" ∷ decimal s.entries
    ∷ []

-- the line of a summary, with its end
unfoldable pub summary_line : Summary → List ℕ
summary_line s = line_text (summary_words s)

-- an entry is of a kind that is counted
unfoldable pub is_of : Kind → Entry → Bool
is_of Call e = is_call e
is_of Send e = is_send e
is_of Drop e = is_drop e
is_of LastPart e = is_last_part e
is_of RequestError e = is_request_error e
is_of ResultError e = is_result_error e
is_of FilledBuffer e = is_filled_buffer e
is_of FailedBuffer e = is_failed_buffer e
