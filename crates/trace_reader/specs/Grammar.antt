-- What a text means as a trace: a function of the whole text. (docs/FORMATS.md, trace text)
use Rattle.std.specs.Prelude.{ℕ, ◌+◌, List, [], ◌∷◌, Option, Result, Ok, Err, if◌then◌else◌, codes, bytes_eq}
use Rattle.cam_types.specs.declared.profile.Profile.{Profile}
use Rattle.trace_model.specs.declared.entry.Entry.{Entry}
use Rattle.trace_model.specs.declared.list.TraceList.{TraceList}
use Rattle.trace_reader.specs.declared.cause.Cause.{Cause}
use Rattle.trace_reader.specs.declared.cause.Cause.TheVariants.{Truncated, BadLine}
use Rattle.trace_reader.specs.declared.cause.TraceRefused.{TraceRefused}
use Rattle.trace_reader.specs.declared.cause.TraceRefused.TheVariants.{Bad}
use Rattle.text_parts.specs.Cuts.{parts_at}
use Rattle.trace_reader.specs.Lines.{entry_of, named_profile}

-- The complete lines are those that end by LF; the last part of a text is what stands behind them, mostly nothing.

-- a refusal names its line
abbrev pub at_line : {A B : Type 0} → ℕ → Result A Cause → (A → Result B TraceRefused) → Result B TraceRefused
at_line n (Ok x) f = f x
at_line n (Err cause) f = Err (Bad n cause)

abbrev pub with_entry : Entry → Result (List Entry) TraceRefused → Result (List Entry) TraceRefused
with_entry entry (Ok entries) = Ok (entry ∷ entries)
with_entry entry (Err refused) = Err refused

-- behind `end` stands nothing
abbrev pub after_end : ℕ → List (List ℕ) → Result (List Entry) TraceRefused
after_end n ([] ∷ []) = Ok []
after_end n _ = Err (Bad n BadLine)

-- the entries of the lines from number n on, up to `end`
unfoldable pub entries_from : ℕ → List (List ℕ) → Result (List Entry) TraceRefused
entries_from n [] = Err (Bad n Truncated)
entries_from n (rest ∷ []) = Err (Bad n Truncated)
entries_from n (line ∷ part ∷ parts) =
    if bytes_eq line (codes "end") then after_end (n + 1) (part ∷ parts)
    else at_line n (entry_of line) (λ entry. with_entry entry (entries_from (n + 1) (part ∷ parts)))

abbrev pub with_profile : Option Profile → Result (List Entry) TraceRefused → Result TraceList TraceRefused
with_profile profile (Ok entries) = Ok (record { profile = profile; entries = entries })
with_profile profile (Err refused) = Err refused

-- the first line, and the lines of the entries behind it
unfoldable pub trace_from : ℕ → List (List ℕ) → Result TraceList TraceRefused
trace_from n [] = Err (Bad n Truncated)
trace_from n (rest ∷ []) = Err (Bad n Truncated)
trace_from n (line ∷ part ∷ parts) =
    at_line n (named_profile line) (λ profile. with_profile profile (entries_from (n + 1) (part ∷ parts)))

-- the trace that a text means, whose first line has the number n; or the first line that has a cause, with its first
-- cause
unfoldable pub trace_of : ℕ → List ℕ → Result TraceList TraceRefused
trace_of n text = trace_from n (parts_at 10 text)
