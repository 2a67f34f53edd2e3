-- What a text means as a hal log: a function of the whole text. (docs/FORMATS.md, hal log)
use Rattle.std.specs.Prelude.{ℕ, ◌+◌, List, [], ◌∷◌, ◌++◌, length, nat_lt, Option, Some, None, Result, Ok, Err, if◌then◌else◌}
use Rattle.std.specs.List.{list_all}
use Rattle.hal_model.specs.declared.event.HalEvent.{HalEvent}
use Rattle.hal_model.specs.Fits.{has_begin}
use Rattle.hal_lines.specs.declared.cause.Cause.{Cause}
use Rattle.hal_lines.specs.declared.cause.Cause.TheVariants.{Truncated, BadLine, TooLong}
use Rattle.hal_text.specs.declared.refused.LogRefused.{LogRefused}
use Rattle.hal_text.specs.declared.refused.LogRefused.TheVariants.{Bad}
use Rattle.hal_text.specs.declared.log.HalLog.{HalLog}
use Rattle.hal_lines.specs.Lines.{count_of, event_of}
use Rattle.hal_lines.specs.Values.{◌>>=◌}
use Rattle.text_parts.specs.LineReading.{is_comment, is_printable}
use Rattle.text_parts.specs.Lines.{lines_of}
use Rattle.text_parts.specs.Words.{loose_words}

-- the most bytes of a text
abbrev pub text_limit : ℕ
text_limit = 134217728

-- a refusal names its line
abbrev pub at_line : {A B : Type 0} → ℕ → Result A Cause → (A → Result B LogRefused) → Result B LogRefused
at_line n (Ok x) f = f x
at_line n (Err cause) f = Err (Bad n cause)

-- a log with one more event, whose line has the number n; an end is refused that has no begin before it
abbrev pub added : ℕ → HalLog → HalEvent → Result (Option HalLog) Cause
added n log event =
    if has_begin log.events event
    then Ok (Some (record log { events = log.events ++ event ∷ []; lines = log.lines ++ n ∷ [] }))
    else Err BadLine

-- a log without events
abbrev pub empty_log : ℕ → HalLog
empty_log parts = record { parts = parts; events = []; lines = [] }

-- What stands after line n, which isn't ignored, by its words: the first such line begins the log, and each further one
-- is an event.
unfoldable pub after_words : ℕ → Option HalLog → List ℕ → List (List ℕ) → Result (Option HalLog) Cause
after_words n None word words = count_of (word ∷ words) >>= λ parts. Ok (Some (empty_log parts))
after_words n (Some log) word words = event_of word words >>= added n log

-- a line of spaces alone, and a comment, are ignored
abbrev pub after_line : ℕ → Option HalLog → List (List ℕ) → Result (Option HalLog) Cause
after_line n before [] = Ok before
after_line n before (word ∷ words) = if is_comment word then Ok before else after_words n before word words

-- what stands after line n; each of its bytes is from space to `~`
unfoldable pub after : ℕ → Option HalLog → List ℕ → Result (Option HalLog) Cause
after n before line = if list_all is_printable line then after_line n before (loose_words line) else Err BadLine

-- what stands at the end of a text, of which n is the number that a next line would have
abbrev pub at_end : ℕ → Option HalLog → Result HalLog LogRefused
at_end n None = Err (Bad n Truncated)
at_end n (Some log) = Ok log

-- the lines from number n on, after what stands before them
unfoldable pub log_from : Option HalLog → ℕ → List (List ℕ) → Result HalLog LogRefused
log_from before n [] = at_end n before
log_from before n (line ∷ lines) = at_line n (after n before line) (λ next. log_from next (n + 1) lines)

-- the log that a text means, or the first line that has a cause, counted from 1, and the first of its causes
unfoldable pub log_of : List ℕ → Result HalLog LogRefused
log_of text = if nat_lt text_limit (length text) then Err (Bad 0 TooLong) else log_from None 1 (lines_of text)

-- the partial result count and the events of what a text means, without the numbers of lines
abbrev pub said : Result HalLog LogRefused → Result (ℕ × List HalEvent) LogRefused
said (Ok log) = Ok (log.parts, log.events)
said (Err refused) = Err refused
