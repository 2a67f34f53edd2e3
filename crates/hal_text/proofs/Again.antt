-- The text that is spelled is read again.
use Rattle.std.proofs.Common.{◌≡◌, ℕ, ◌+◌, ◌<◌, ◌≤◌, true, List, [], ◌∷◌, ◌++◌, length, Option, None, Some, Ok, refl, sym, ap, ◌∙◌, arith, append_assoc, leb}
use Rattle.std.specs.List.{flat_map, list_all}
use Rattle.std.proofs.lemmas.Bool.{and_parts, leb-true, le-ltb}
use Rattle.std.proofs.lemmas.Bool.Decides.{nat_tests}
use Rattle.std.proofs.lemmas.List.{append-nil}
use Rattle.hal_model.specs.declared.event.HalEvent.{HalEvent}
use Rattle.hal_model.specs.declared.event.HalEvent.TheVariants.{OpenBegin}
use Rattle.hal_model.specs.Fits.{fits, has_begin, have_begins, is_count, is_typed, is_valid, is_well_made}
use Rattle.hal_model.specs.Spelling.{event_line, event_words, first_words, text_of}
use Rattle.hal_text.specs.declared.log.HalLog.{HalLog}
use Rattle.hal_text.specs.Drafts.{longer}
use Rattle.hal_lines.specs.Lines.{count_of, event_by_words}
use Rattle.hal_text.specs.Meaning.{added, after, after_line, after_words, empty_log, log_from, log_of, said, text_limit}
use Rattle.hal_lines.specs.Values.{◌>>=◌}
use Rattle.hal_lines.proofs.AgainLines.{event-again, event-are-words}
use Rattle.text_parts.specs.LineReading.{is_printable}
use Rattle.text_parts.specs.Lines.{line_text, lines_of}
use Rattle.text_parts.specs.Words.{is_plain, is_word}
use Rattle.text_parts.proofs.Joined.{line-all, line-text-cut, loose-words-again}
use Rattle.text_parts.proofs.Spelled.{number-word, within-again}

-- ---- one line

plain-printable : (b : ℕ) → is_plain b ≡ true → is_printable b ≡ true
plain-printable b h = grind (arith, nat_tests)

-- one spelled line of a text
line-read : (before next : Option HalLog) (n : ℕ) (words : List (List ℕ)) (rest : List ℕ) → list_all is_word words ≡ true → 0 < length words → after_line n before words ≡ Ok next
    → log_from before n (lines_of (line_text words ++ rest)) ≡ log_from next (n + 1) (lines_of rest)
unfolding log_from after
line-read before next n [] rest h s a = absurd (omega arith)
line-read before next n (w ∷ ws) rest h s a =
    rw (line-text-cut w ws rest h, line-all is_printable plain-printable refl w ws h, loose-words-again w ws h, a) refl

some-words : (e : HalEvent) → 0 < length (event_words e)
some-words OpenBegin = omega arith
some-words _ = omega arith

after-words : (n : ℕ) (log : HalLog) (e : HalEvent) → after_line n (Some log) (event_words e) ≡ (event_by_words (event_words e) >>= added n log)
unfolding after_words
after-words n log OpenBegin = refl
after-words n log _ = refl

after-event : (n : ℕ) (log : HalLog) (e : HalEvent) → is_well_made e ≡ true → is_typed e ≡ true → has_begin log.events e ≡ true → after_line n (Some log) (event_words e) ≡ Ok (Some (longer n log e))
after-event n log e h t b = after-words n log e ∙ rw (event-again e h t, b) refl

-- ---- the whole text

events-again : (events : List HalEvent) (log : HalLog) (n : ℕ) → list_all is_well_made events ≡ true → list_all is_typed events ≡ true → have_begins log.events events ≡ true
    → said (log_from (Some log) n (lines_of (flat_map event_line events))) ≡ Ok (log.parts, log.events ++ events)
unfolding log_from
events-again [] log n h t b = ap (λ es. Ok (log.parts, es)) (sym (append-nil log.events))
events-again (e ∷ es) log n h t b =
    let p = and_parts (is_well_made e) (list_all is_well_made es) h in
    let q = and_parts (is_typed e) (list_all is_typed es) t in
    let r = and_parts (has_begin log.events e) (have_begins (log.events ++ e ∷ []) es) b in
    let step = line-read (Some log) (Some (longer n log e)) n (event_words e) (flat_map event_line es) (event-are-words e p.0 q.0) (some-words e) (after-event n log e p.0 q.0 r.0) in
    ap said step ∙ events-again es (longer n log e) (n + 1) p.1 q.1 r.1 ∙ ap (λ xs. Ok (log.parts, xs)) (append_assoc log.events (e ∷ []) es)

first-read : (parts : ℕ) → is_count parts ≡ true → after_line 1 None (first_words parts) ≡ Ok (Some (empty_log parts))
unfolding after_words count_of
first-read parts h =
    let p = and_parts (leb 1 parts) (leb parts 16) h in
    rw (within-again 1 16 parts (leb-true _ _ p.0) (leb-true _ _ p.1) (omega arith)) refl

first-are-words : (parts : ℕ) → is_count parts ≡ true → list_all is_word (first_words parts) ≡ true
first-are-words parts h =
    let p = and_parts (leb 1 parts) (leb parts 16) h in
    rw (number-word parts (omega (arith, leb-true _ _ p.1))) refl

pub text-again : (parts : ℕ) (events : List HalEvent) → fits parts events ≡ true → length (text_of parts events) ≤ text_limit → said (log_of (text_of parts events)) ≡ Ok (parts, events)
unfolding log_of text_of
text-again parts events h l =
    let p = and_parts (is_valid parts events) (list_all is_typed events) h in
    let q = and_parts (is_count parts) _ p.0 in
    let r = and_parts (list_all is_well_made events) (have_begins [] events) q.1 in
    let short = le-ltb text_limit (length (line_text (first_words parts) ++ flat_map event_line events)) l in
    rw short
    (ap said (line-read None (Some (empty_log parts)) 1 (first_words parts) (flat_map event_line events) (first-are-words parts q.0) (omega arith) (first-read parts q.0))
    ∙ events-again events (empty_log parts) 2 r.0 p.1 r.1)
