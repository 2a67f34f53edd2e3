-- Entries behind those that stand already.
use Rattle.std.proofs.Common.{◌≡◌, ℕ, ◌+◌, ◌<◌, Bool, true, false, cond, eqb, List, [], ◌∷◌, ◌++◌, length, Option, Result, Ok, Err, refl, ap, sym, ◌∙◌, arith, append_assoc}
use Rattle.std.specs.Prelude.{codes, bytes_eq}
use Rattle.std.specs.List.{onto_first}
use Rattle.cam_types.specs.declared.profile.Profile.{Profile}
use Rattle.trace_model.specs.declared.entry.Entry.{Entry}
use Rattle.trace_model.specs.declared.list.TraceList.{TraceList}
use Rattle.trace_reader.specs.declared.cause.Cause.{Cause}
use Rattle.trace_reader.specs.declared.cause.Cause.TheVariants.{BadLine}
use Rattle.trace_reader.specs.declared.cause.LineRefused.{LineRefused}
use Rattle.trace_reader.specs.declared.cause.LineRefused.TheVariants as line
use Rattle.trace_reader.specs.declared.cause.TraceRefused.{TraceRefused}
use Rattle.trace_reader.specs.declared.cause.TraceRefused.TheVariants.{Bad, NoMemory}
use Rattle.text_parts.specs.Cuts.{parts_at}
use Rattle.trace_reader.specs.Lines.{entry_of, named_profile}
use Rattle.trace_reader.specs.Grammar.{at_line, with_entry, with_profile, after_end, entries_from, trace_from, trace_of}
use Rattle.trace_reader.specs.Reader.{Refuses, AnswersTrace, refused}
use Rattle.text_parts.proofs.Cuts.{parts_some}

abbrev pub with_front : List Entry → Result (List Entry) TraceRefused → Result (List Entry) TraceRefused
with_front front (Ok entries) = Ok (front ++ entries)
with_front front (Err refused) = Err refused

pub front_more : (front : List Entry) (entry : Entry) (r : Result (List Entry) TraceRefused) → with_front (front ++ entry ∷ []) r ≡ with_front front (with_entry entry r)
front_more front entry (Ok entries) = ap Ok (append_assoc front (entry ∷ []) entries)
front_more front entry (Err refused) = refl

-- ---- one line, and what stands behind it

front_line : (n : ℕ) (text behind rest : List ℕ) → parts_at 10 rest ≡ text ∷ parts_at 10 behind → entries_from n (parts_at 10 rest) ≡ cond (bytes_eq text (codes "end")) (after_end (n + 1) (parts_at 10 behind)) (at_line n (entry_of text) (λ entry. with_entry entry (entries_from (n + 1) (parts_at 10 behind))))
unfolding entries_from
front_line n text behind rest cut = let some = parts_some 10 behind in rw (cut, some.2) refl

more_than_end : (here : Bool) (n b : ℕ) (q : List ℕ) (qs : List (List ℕ)) → after_end n (cond here ([] ∷ q ∷ qs) (onto_first b (q ∷ qs))) ≡ Err (Bad n BadLine)
more_than_end true n b q qs = refl
more_than_end false n b q qs = refl

past_end : (n : ℕ) (behind : List ℕ) → 0 < length behind → after_end n (parts_at 10 behind) ≡ Err (Bad n BadLine)
past_end n [] more = absurd (omega arith)
past_end n (b ∷ bs) more = let some = parts_some 10 bs in rw some.2 (more_than_end (eqb b 10) n b some.0 some.1)

pub front_end : (front : List Entry) (whole : Result (List Entry) TraceRefused) (n : ℕ) (text behind rest : List ℕ) → parts_at 10 rest ≡ text ∷ parts_at 10 behind → bytes_eq text (codes "end") ≡ true → 0 < length behind → with_front front (entries_from n (parts_at 10 rest)) ≡ whole → whole ≡ Err (Bad (n + 1) BadLine)
front_end front whole n text behind rest cut end more same = sym same ∙ rw (front_line n text behind rest cut, end, past_end (n + 1) behind more) refl

pub front_refused : (front : List Entry) (whole : Result (List Entry) TraceRefused) (n : ℕ) (text behind rest : List ℕ) (why : LineRefused) → parts_at 10 rest ≡ text ∷ parts_at 10 behind → bytes_eq text (codes "end") ≡ false → Refuses why (entry_of text) → with_front front (entries_from n (parts_at 10 rest)) ≡ whole → AnswersTrace (Err (refused n why)) whole
front_refused front whole n text behind rest (line.Bad cause) cut goes_on why same = sym same ∙ rw (front_line n text behind rest cut, goes_on, why) refl
front_refused front whole n text behind rest line.NoMemory cut goes_on why same = tt

pub front_read : (front after : List Entry) (whole : Result (List Entry) TraceRefused) (n : ℕ) (text behind rest : List ℕ) (entry : Entry) → parts_at 10 rest ≡ text ∷ parts_at 10 behind → bytes_eq text (codes "end") ≡ false → entry_of text ≡ Ok entry → after ≡ front ++ entry ∷ [] → with_front front (entries_from n (parts_at 10 rest)) ≡ whole → with_front after (entries_from (n + 1) (parts_at 10 behind)) ≡ whole
front_read front after whole n text behind rest entry cut goes_on read grown same =
    rw grown (front_more front entry (entries_from (n + 1) (parts_at 10 behind)) ∙ (rw (front_line n text behind rest cut, goes_on, read) at same))

-- ---- the first line

first_line : (n : ℕ) (text behind whole : List ℕ) → parts_at 10 whole ≡ text ∷ parts_at 10 behind → trace_of n whole ≡ at_line n (named_profile text) (λ profile. with_profile profile (entries_from (n + 1) (parts_at 10 behind)))
unfolding trace_of trace_from
first_line n text behind whole cut = let some = parts_some 10 behind in rw (cut, some.2) refl

pub good_first : (n : ℕ) (text behind whole : List ℕ) (profile : Option Profile) → parts_at 10 whole ≡ text ∷ parts_at 10 behind → named_profile text ≡ Ok profile → trace_of n whole ≡ with_profile profile (entries_from (n + 1) (parts_at 10 behind))
good_first n text behind whole profile cut named = first_line n text behind whole cut ∙ rw named refl

pub bad_first : (n : ℕ) (text behind whole : List ℕ) (cause : Cause) → parts_at 10 whole ≡ text ∷ parts_at 10 behind → named_profile text ≡ Err cause → trace_of n whole ≡ Err (Bad n cause)
bad_first n text behind whole cause cut named = first_line n text behind whole cut ∙ rw named refl

-- a refusal behind a good first line
pub refused_behind : (why : TraceRefused) (profile : Option Profile) (meaning : Result (List Entry) TraceRefused) (same : Result TraceList TraceRefused) → same ≡ with_profile profile meaning → AnswersTrace (Err why) meaning → AnswersTrace (Err why) same
refused_behind (Bad n cause) profile meaning same e h = e ∙ ap (with_profile profile) h
refused_behind NoMemory profile meaning same e h = tt
