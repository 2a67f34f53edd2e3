-- The lines that are spelled are read again.
use Rattle.std.proofs.Common.{◌≡◌, ℕ, ◌≤◌, ◌^◌, Bool, true, false, ltb, List, [], ◌∷◌, ◌++◌, length, map, Option, None, Some, Result, Ok, refl, sym, ap, ◌∙◌, arith}
use Rattle.std.specs.Prelude.{bytes_eq, codes, decimal}
use Rattle.std.specs.List.{list_all}
use Rattle.std.proofs.lemmas.Bool.{and_parts, and_from, leb-true, le-ltb, ltb-true}
use Rattle.std.proofs.lemmas.List.{append-nil, length-map}
use Rattle.std.proofs.lemmas.List.Folds.{list_all-append}
use Rattle.hal_model.specs.declared.event.HalEvent.{HalEvent}
use Rattle.hal_model.specs.declared.event.HalEvent.TheVariants.{OpenBegin, OpenOk, OpenError, InitBegin, InitOk, InitError, TemplateBegin, TemplateOk, TemplateNull, ConfigureBegin, ConfigureOk, ConfigureError, RequestBegin, RequestOk, RequestError, Shutter, ErrorRequest, ErrorResult, ErrorBuffer, ErrorDevice, Results, FlushBegin, FlushOk, FlushError}
use Rattle.hal_model.specs.declared.event.HalStream.{HalStream}
use Rattle.hal_model.specs.declared.event.StreamMax.{StreamMax}
use Rattle.hal_model.specs.declared.event.Pack.{Pack}
use Rattle.hal_model.specs.declared.event.Pack.TheVariants as pack
use Rattle.hal_model.specs.Fits.{few, is_max_typed, is_returned_typed, is_small, is_small_or_none, is_stream_typed, is_target_typed, is_typed, is_well_made}
use Rattle.hal_model.specs.Spelling.{event_words, mark_words, max_text, mode_words, number_or, pack_text, returned_text, settings_text, stream_text, target_text}
use Rattle.hal_lines.specs.declared.cause.Cause.{Cause}
use Rattle.hal_lines.specs.declared.kind.Ending.TheVariants as ending
use Rattle.hal_lines.specs.Lines.{asked_streams, before_marks, close_of, configure_end, configure_of, each, ending_of, event_in, event_of, flaws_of, from_marks, given_streams, input_of, is_mark, kind_of, list_of, notice_of, request_of, result_of, stage_of, streams_of, template_stage, event_by_words}
use Rattle.hal_lines.specs.Values.{buffer_of, max_of, mode_in, mode_of, pack_of, returned_of, settings_of, stream_of, target_of}
use Rattle.hal_lines.proofs.AgainValues.{below, error-again, error-word, known-again, large-again, max-again, max-no-mark, max-word, number-other, or-avoids, or-plain, returned-again, returned-no-mark, returned-word, small-again, small-word, stream-again, stream-no-mark, stream-word, target-again, target-no-mark, target-word}
use Rattle.text_parts.specs.Cuts.{two_parts}
use Rattle.text_parts.specs.Words.{is_word}
use Rattle.text_parts.proofs.Joined.{cut-first, in-two-again, word-from}
use Rattle.text_parts.proofs.Spelled.{number-avoids, number-plain, number-word}

-- ---- lists

module _ {X : Type 0} (read : List ℕ → Result X Cause) (text : X → List ℕ) (ok : X → Bool) where
  each-again : ((x : X) → ok x ≡ true → read (text x) ≡ Ok x) → (xs : List X) → list_all ok xs ≡ true → each read (map text xs) ≡ Ok xs
  each-again again [] h = refl
  each-again again (x ∷ xs) h =
      let p = and_parts (ok x) (list_all ok xs) h in
      rw (again x p.0, each-again again xs p.1) refl

  before-again : ((x : X) → ok x ≡ true → is_mark (text x) ≡ false) → (xs : List X) → list_all ok xs ≡ true → (marks : List (List ℕ)) → before_marks marks ≡ [] → before_marks (map text xs ++ marks) ≡ map text xs
  before-again none [] h marks m = m
  before-again none (x ∷ xs) h marks m =
      let p = and_parts (ok x) (list_all ok xs) h in
      rw (none x p.0) (ap (λ ws. text x ∷ ws) (before-again none xs p.1 marks m))

  from-again : ((x : X) → ok x ≡ true → is_mark (text x) ≡ false) → (xs : List X) → list_all ok xs ≡ true → (marks : List (List ℕ)) → from_marks marks ≡ marks → from_marks (map text xs ++ marks) ≡ marks
  from-again none [] h marks m = m
  from-again none (x ∷ xs) h marks m =
      let p = and_parts (ok x) (list_all ok xs) h in
      rw (none x p.0) (from-again none xs p.1 marks m)

  list-again : ((x : X) → ok x ≡ true → read (text x) ≡ Ok x) → ((x : X) → ok x ≡ true → is_mark (text x) ≡ false) → (xs : List X) → list_all ok xs ≡ true → few xs ≡ true → (marks : List (List ℕ)) → before_marks marks ≡ [] → list_of read (map text xs ++ marks) ≡ Ok xs
  list-again again none xs h f marks m =
      let short : length (map text xs) ≤ 16 = omega (arith, length-map xs text, leb-true _ _ f) in
      rw (before-again none xs h marks m, le-ltb 16 (length (map text xs)) short) (each-again again xs h)

  words-again : ((x : X) → ok x ≡ true → is_word (text x) ≡ true) → (xs : List X) → list_all ok xs ≡ true → list_all is_word (map text xs) ≡ true
  words-again word [] h = refl
  words-again word (x ∷ xs) h = let p = and_parts (ok x) (list_all ok xs) h in and_from _ _ (word x p.0) (words-again word xs p.1)

-- ---- marks

abbrev flaw_words : Bool → Bool → List (List ℕ)
flaw_words a b = mark_words a (codes "nohandle") ++ mark_words b (codes "badsettings")

flaws-before : (a b : Bool) → before_marks (flaw_words a b) ≡ []
flaws-before true true = refl
flaws-before true false = refl
flaws-before false true = refl
flaws-before false false = refl

flaws-from : (a b : Bool) → from_marks (flaw_words a b) ≡ flaw_words a b
flaws-from true true = refl
flaws-from true false = refl
flaws-from false true = refl
flaws-from false false = refl

flaws-again : (a b : Bool) → flaws_of (flaw_words a b) ≡ Ok (a, b)
unfolding flaws_of
flaws-again true true = refl
flaws-again true false = refl
flaws-again false true = refl
flaws-again false false = refl

flaws-words : (a b : Bool) → list_all is_word (flaw_words a b) ≡ true
flaws-words true true = refl
flaws-words true false = refl
flaws-words false true = refl
flaws-words false false = refl

-- ---- the words of an event are read

typed-number : (s : HalStream) → is_stream_typed s ≡ true → is_small s.stream ≡ true
typed-number s h = (and_parts (is_small s.stream) _ h).0

no-mode : (w : List ℕ) (fields : List (List ℕ)) → bytes_eq w (codes "mode") ≡ false → mode_in (two_parts (w ∷ fields)) ≡ None
no-mode w [] f = refl
no-mode w (q ∷ []) f = rw f refl
no-mode w (q ∷ r ∷ rs) f = refl

-- a stream is no mode
stream-no-mode : (s : HalStream) → is_stream_typed s ≡ true → mode_of (stream_text s) ≡ None
unfolding stream_text
stream-no-mode s h =
    let l = typed-number s h in
    rw (cut-first 58 (decimal s.stream) _ (number-avoids 58 s.stream refl (below s.stream l))) (no-mode (decimal s.stream) _ (number-other s.stream 109 (codes "ode") l refl))

streams-read : (mode : Option ℕ) (streams : List HalStream) → list_all is_stream_typed streams ≡ true → few streams ≡ true → streams_of (Ok mode) (map stream_text streams) ≡ Ok (ConfigureBegin mode streams)
streams-read mode streams h f =
    let words = append-nil (map stream_text streams) in
    let read : list_of stream_of (map stream_text streams) ≡ Ok streams = ap (list_of stream_of) (sym words) ∙ list-again stream_of stream_text is_stream_typed stream-again stream-no-mark streams h f [] refl in
    let rest : from_marks (map stream_text streams) ≡ [] = ap from_marks (sym words) ∙ from-again stream_of stream_text is_stream_typed stream-no-mark streams h [] refl in
    rw (read, rest) refl

streams-again : (streams : List HalStream) → list_all is_stream_typed streams ≡ true → few streams ≡ true → asked_streams (map stream_text streams) ≡ Ok (ConfigureBegin None streams)
unfolding asked_streams
streams-again [] h f = refl
streams-again (s ∷ streams) h f =
    let p = and_parts (is_stream_typed s) (list_all is_stream_typed streams) h in
    let words = append-nil (map stream_text (s ∷ streams)) in
    rw (stream-no-mode s p.0) (streams-read None (s ∷ streams) h f)

mode-again : (m : ℕ) → is_small m ≡ true → mode_of (codes "mode:" ++ decimal m) ≡ Some (decimal m)
mode-again m h = rw (in-two-again 58 (codes "mode") (decimal m) refl (number-avoids 58 m refl (below m h))) refl

configure-again : (mode : Option ℕ) (streams : List HalStream) → is_small_or_none mode ≡ true → list_all is_stream_typed streams ≡ true → few streams ≡ true → asked_streams (mode_words mode ++ map stream_text streams) ≡ Ok (ConfigureBegin mode streams)
unfolding asked_streams
configure-again None streams m h f = streams-again streams h f
configure-again (Some m) streams k h f = rw (mode-again m k, small-again m k) (streams-read (Some m) streams h f)

max-list-again : (most : List StreamMax) → list_all is_max_typed most ≡ true → few most ≡ true → given_streams (map max_text most) ≡ Ok (ConfigureOk most)
max-list-again most h f =
    let words = append-nil (map max_text most) in
    let read : list_of max_of (map max_text most) ≡ Ok most = ap (list_of max_of) (sym words) ∙ list-again max_of max_text is_max_typed max-again max-no-mark most h f [] refl in
    let rest : from_marks (map max_text most) ≡ [] = ap from_marks (sym words) ∙ from-again max_of max_text is_max_typed max-no-mark most h [] refl in
    rw (read, rest) refl

settings-again : (same : Bool) → settings_of (settings_text same) ≡ Ok same
settings-again true = refl
settings-again false = refl

pack-again : (p : Pack) → pack_of (pack_text p) ≡ Ok p
unfolding pack_of
pack-again pack.Entries = refl
pack-again pack.Empty = refl
pack-again pack.Absent = refl

input-again : (b : Bool) → input_of (mark_words b (codes "input")) ≡ Ok b
input-again true = refl
input-again false = refl

input-before : (b : Bool) → before_marks (mark_words b (codes "input")) ≡ []
input-before true = refl
input-before false = refl

input-from : (b : Bool) → from_marks (mark_words b (codes "input")) ≡ mark_words b (codes "input")
input-from true = refl
input-from false = refl

buffer-again : (s : Option ℕ) → is_small_or_none s ≡ true → buffer_of (codes "buffer:" ++ number_or (codes "?") s) ≡ Ok s
buffer-again s h = rw (in-two-again 58 (codes "buffer") (number_or (codes "?") s) refl (or-avoids 58 (codes "?") s refl refl h), known-again s h) refl

pub event-again : (e : HalEvent) → is_well_made e ≡ true → is_typed e ≡ true → event_by_words (event_words e) ≡ Ok e
unfolding event_of event_in kind_of stage_of ending_of close_of template_stage configure_of configure_end request_of notice_of result_of
event-again OpenBegin h t = refl
event-again OpenOk h t = refl
event-again (OpenError error) h t = rw (error-again error h) refl
event-again InitBegin h t = refl
event-again InitOk h t = refl
event-again (InitError error) h t = rw (error-again error h) refl
event-again (TemplateBegin n) h t = rw (small-again n t) refl
event-again (TemplateOk n) h t = rw (small-again n t) refl
event-again (TemplateNull n) h t = rw (small-again n t) refl
event-again (ConfigureBegin mode streams) h t =
    let p = and_parts (is_small_or_none mode) (list_all is_stream_typed streams) t in
    rw (configure-again mode streams p.0 p.1 h) refl
event-again (ConfigureOk most) h t = rw (max-list-again most t h) refl
event-again (ConfigureError error) h t = rw (error-again error h) refl
event-again (RequestBegin n same targets a b) h t =
    let p = and_parts (is_small n) (list_all is_target_typed targets) t in
    let marks = flaw_words a b in
    rw (
      small-again n p.0,
      settings-again same,
      list-again target_of target_text is_target_typed target-again target-no-mark targets p.1 h marks (flaws-before a b),
      from-again target_of target_text is_target_typed target-no-mark targets p.1 marks (flaws-from a b),
      flaws-again a b,
    ) refl
event-again (RequestOk n) h t = rw (small-again n t) refl
event-again (RequestError n error) h t = rw (small-again n t, error-again error h) refl
event-again (Shutter n time) h t =
    let p = and_parts (is_small n) (ltb time (2 ^ 64)) t in
    rw (small-again n p.0, large-again time p.1) refl
event-again (ErrorRequest n) h t = rw (small-again n t) refl
event-again (ErrorResult n) h t = rw (small-again n t) refl
event-again (ErrorBuffer n s) h t =
    let p = and_parts (is_small n) (is_small_or_none s) t in
    rw (small-again n p.0, buffer-again s p.1) refl
event-again ErrorDevice h t = refl
event-again (Results n k content buffers input) h t =
    let p = and_parts (is_small n) _ t in
    let q = and_parts (is_small k) (list_all is_returned_typed buffers) p.1 in
    let marks = mark_words input (codes "input") in
    rw (
      small-again n p.0,
      small-again k q.0,
      pack-again content,
      list-again returned_of returned_text is_returned_typed returned-again returned-no-mark buffers q.1 h marks (input-before input),
      from-again returned_of returned_text is_returned_typed returned-no-mark buffers q.1 marks (input-from input),
      input-again input,
    ) refl
event-again FlushBegin h t = refl
event-again FlushOk h t = refl
event-again (FlushError error) h t = rw (error-again error h) refl
event-again _ h t = refl

-- ---- the words of an event are words

mode-words : (mode : Option ℕ) → is_small_or_none mode ≡ true → list_all is_word (mode_words mode) ≡ true
mode-words None h = refl
mode-words (Some m) h = and_from _ _ (word-from (codes "mode:" ++ decimal m) (number-plain m (below m h)) (omega arith)) refl

settings-word : (same : Bool) → is_word (settings_text same) ≡ true
settings-word true = refl
settings-word false = refl

pack-word : (p : Pack) → is_word (pack_text p) ≡ true
pack-word pack.Entries = refl
pack-word pack.Empty = refl
pack-word pack.Absent = refl

input-words : (b : Bool) → list_all is_word (mark_words b (codes "input")) ≡ true
input-words true = refl
input-words false = refl

all-words : (a b : List (List ℕ)) → list_all is_word a ≡ true → list_all is_word b ≡ true → list_all is_word (a ++ b) ≡ true
all-words a b h k = list_all-append is_word a b ∙ and_from _ _ h k

pub event-are-words : (e : HalEvent) → is_well_made e ≡ true → is_typed e ≡ true → list_all is_word (event_words e) ≡ true
event-are-words OpenBegin h t = refl
event-are-words OpenOk h t = refl
event-are-words (OpenError error) h t = rw (error-word error h) refl
event-are-words InitBegin h t = refl
event-are-words InitOk h t = refl
event-are-words (InitError error) h t = rw (error-word error h) refl
event-are-words (TemplateBegin n) h t = rw (small-word n t) refl
event-are-words (TemplateOk n) h t = rw (small-word n t) refl
event-are-words (TemplateNull n) h t = rw (small-word n t) refl
event-are-words (ConfigureBegin mode streams) h t =
    let p = and_parts (is_small_or_none mode) (list_all is_stream_typed streams) t in
    all-words (mode_words mode) (map stream_text streams) (mode-words mode p.0) (words-again stream_of stream_text is_stream_typed stream-word streams p.1)
event-are-words (ConfigureOk most) h t = words-again max_of max_text is_max_typed max-word most t
event-are-words (ConfigureError error) h t = rw (error-word error h) refl
event-are-words (RequestBegin n same targets a b) h t =
    let p = and_parts (is_small n) (list_all is_target_typed targets) t in
    rw (small-word n p.0, settings-word same) (all-words (map target_text targets) (flaw_words a b) (words-again target_of target_text is_target_typed target-word targets p.1) (flaws-words a b))
event-are-words (RequestOk n) h t = rw (small-word n t) refl
event-are-words (RequestError n error) h t = rw (small-word n t, error-word error h) refl
event-are-words (Shutter n time) h t =
    let p = and_parts (is_small n) (ltb time (2 ^ 64)) t in
    rw (small-word n p.0, number-word time (ltb-true _ _ p.1)) refl
event-are-words (ErrorRequest n) h t = rw (small-word n t) refl
event-are-words (ErrorResult n) h t = rw (small-word n t) refl
event-are-words (ErrorBuffer n s) h t =
    let p = and_parts (is_small n) (is_small_or_none s) t in
    rw (small-word n p.0) (and_from _ _ (word-from (codes "buffer:" ++ number_or (codes "?") s) (or-plain (codes "?") s refl p.1) (omega arith)) refl)
event-are-words ErrorDevice h t = refl
event-are-words (Results n k content buffers input) h t =
    let p = and_parts (is_small n) _ t in
    let q = and_parts (is_small k) (list_all is_returned_typed buffers) p.1 in
    rw (small-word n p.0, small-word k q.0, pack-word content) (all-words (map returned_text buffers) (mark_words input (codes "input")) (words-again returned_of returned_text is_returned_typed returned-word buffers q.1) (input-words input))
event-are-words FlushBegin h t = refl
event-are-words FlushOk h t = refl
event-are-words (FlushError error) h t = rw (error-word error h) refl
event-are-words _ h t = refl
