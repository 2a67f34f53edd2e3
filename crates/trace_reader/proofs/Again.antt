-- What is spelled is read again.
use Rattle.std.proofs.Common.{◌≡◌, ℕ, ◌+◌, true, false, ◌&&◌, not, eqb, ltb, List, [], ◌∷◌, ◌++◌, length, Option, Some, None, Ok, refl, ap, ◌∙◌, inl, inr, arith, append_assoc}
use Rattle.std.specs.Prelude.{codes, bytes_eq}
use Rattle.std.specs.List.{flat_map, join_by, list_all}
use Rattle.std.proofs.lemmas.Bool.{cases_Bool, and_parts}
use Rattle.std.proofs.lemmas.Bool.Decides.{nat_tests}
use Rattle.std.proofs.lemmas.Slice.Eq.{bytes_eq-Decides}
use Rattle.trace_model.specs.Printable.{is_printable}
use Rattle.cam_types.specs.Profile.{is_profile_number}
use Rattle.cam_types.specs.declared.profile.Profile.{Profile}
use Rattle.trace_model.specs.declared.entry.Entry.{Entry}
use Rattle.trace_model.specs.declared.entry.Entry.TheVariants.{Begin}
use Rattle.text_parts.specs.Lines.{line_text}
use Rattle.trace_text.specs.Spelling.{entry_words, line_of, first_words, first_line_fits, first_line_of, spelling}
use Rattle.text_parts.specs.Cuts.{parts_at}
use Rattle.trace_reader.specs.Lines.{kind_of, entry_with, is_plain_line, entry_of, first_with, version_of, named_profile}
use Rattle.trace_reader.specs.Grammar.{entries_from, trace_from, trace_of}
use Rattle.text_parts.proofs.Cuts.{parts_some}
use Rattle.text_parts.specs.Words.{is_plain, is_word}
use Rattle.text_parts.proofs.Joined.{avoids, cut-first, line-all, strict-words-again}
use Rattle.basic_lemmas.proofs.Lists.{all-where}
use Rattle.trace_reader.proofs.AgainLines.{first, behind, entry-again}
use Rattle.trace_reader.proofs.AgainValues.{profile-number-again}
use Rattle.trace_reader.proofs.WordLemmas.{entry-plain, first-plain}

abbrev joined : List (List ℕ) → List ℕ
joined words = join_by (λ w. w) (codes " ") words

plain-ascii : (b : ℕ) → is_plain b ≡ true → ltb b 128 ≡ true
plain-ascii b h = grind (arith, nat_tests)

plain-no-end : (b : ℕ) → is_plain b ≡ true → not (eqb b 10) ≡ true
plain-no-end b h = grind (arith, nat_tests)

some-word : (w : List ℕ) → is_word w ≡ true → not (eqb (length w) 0) ≡ true
some-word w h = (and_parts (list_all is_plain w) _ h).1

plain-line : (w : List ℕ) (ws : List (List ℕ)) → list_all is_word (w ∷ ws) ≡ true → is_plain_line (joined (w ∷ ws)) ≡ true
plain-line w ws h =
    let ascii : list_all (λ b. ltb b 128) (joined (w ∷ ws)) ≡ true = line-all (λ b. ltb b 128) plain-ascii refl w ws h in
    let full : list_all (λ v. not (eqb (length v) 0)) (w ∷ ws) ≡ true = all-where is_word (λ v. not (eqb (length v) 0)) (w ∷ ws) some-word h in
    rw (ascii, strict-words-again w ws h) full

words-read : (w : List ℕ) (ws : List (List ℕ)) (e : Entry) → list_all is_word (w ∷ ws) ≡ true → entry_with w ws ≡ Ok e → entry_of (joined (w ∷ ws)) ≡ Ok e
unfolding entry_of
words-read w ws e h read =
    let plain = plain-line w ws h in
    let words = strict-words-again w ws h in
    rw (plain, words) read

split-words : (e : Entry) → entry_words e ≡ first (entry_words e) ∷ behind (entry_words e)
split-words (Begin _) = refl
split-words _ = refl

plain-words : (e : Entry) → is_printable e ≡ true → list_all is_word (first (entry_words e) ∷ behind (entry_words e)) ≡ true
plain-words e h = rw (split-words e) at (entry-plain e h)

-- the line of an entry is that entry's
pub line-again : (e : Entry) → is_printable e ≡ true → entry_of (joined (entry_words e)) ≡ Ok e
line-again e h =
    ap (λ ws. entry_of (joined ws)) (split-words e) ∙ words-read (first (entry_words e)) (behind (entry_words e)) e (plain-words e h) (entry-again e h)

line-no-end : (e : Entry) → is_printable e ≡ true → avoids 10 (joined (entry_words e)) ≡ true
line-no-end e h =
    ap (λ ws. avoids 10 (joined ws)) (split-words e) ∙ line-all (λ b. not (eqb b 10)) plain-no-end refl (first (entry_words e)) (behind (entry_words e)) (plain-words e h)

end-is-no-entry : (e : Entry) → entry_of (codes "end") ≡ Ok e → ⊥
unfolding entry_of kind_of
end-is-no-entry e h = cc

no-end : (e : Entry) → is_printable e ≡ true → bytes_eq (joined (entry_words e)) (codes "end") ≡ false
no-end e h = elim (cases_Bool (bytes_eq (joined (entry_words e)) (codes "end"))) [
  | inl t ↦ absurd (let same = (bytes_eq-Decides (joined (entry_words e)) (codes "end")).0 t in end-is-no-entry e (rw same at (line-again e h)))
  | inr f ↦ f
]

one-entry : (n : ℕ) (e : Entry) (rest : List ℕ) (entries : List Entry) → is_printable e ≡ true → entries_from (n + 1) (parts_at 10 rest) ≡ Ok entries → entries_from n (parts_at 10 (line_of e ++ rest)) ≡ Ok (e ∷ entries)
unfolding entries_from line_of
one-entry n e rest entries h read =
    let text : line_of e ++ rest ≡ joined (entry_words e) ++ 10 ∷ rest = append_assoc (joined (entry_words e)) (10 ∷ []) rest in
    let cut : parts_at 10 (line_of e ++ rest) ≡ joined (entry_words e) ∷ parts_at 10 rest = ap (parts_at 10) text ∙ cut-first 10 (joined (entry_words e)) rest (line-no-end e h) in
    let some = parts_some 10 rest in
    let read' = rw some.2 at read in
    rw (cut, some.2, no-end e h, line-again e h, read') refl

pub entries-again : (n : ℕ) (trace : List Entry) → list_all is_printable trace ≡ true → entries_from n (parts_at 10 (flat_map line_of trace ++ line_text (codes "end" ∷ []))) ≡ Ok trace
unfolding entries_from
entries-again n [] h = refl
entries-again n (e ∷ trace) h =
    let p = and_parts (is_printable e) (list_all is_printable trace) h in
    ap (λ t. entries_from n (parts_at 10 t)) (append_assoc (line_of e) (flat_map line_of trace) (line_text (codes "end" ∷ [])))
    ∙ one-entry n e (flat_map line_of trace ++ line_text (codes "end" ∷ [])) trace p.0 (entries-again (n + 1) trace p.1)

-- ---- the first line

named-read : (w : List ℕ) (ws : List (List ℕ)) (profile : Option Profile) → list_all is_word (w ∷ ws) ≡ true → first_with w ws ≡ Ok profile → named_profile (joined (w ∷ ws)) ≡ Ok profile
unfolding named_profile
named-read w ws profile h read =
    let plain = plain-line w ws h in
    let words = strict-words-again w ws h in
    rw (plain, words) read

first-again : (profile : Option Profile) → first_line_fits profile ≡ true → first_with (codes "trace") (behind (first_words profile)) ≡ Ok profile
unfolding version_of
first-again None h = refl
first-again (Some p) h =
    let q = and_parts (is_profile_number p.depth) (is_profile_number p.raw && is_profile_number p.yuv) h in
    let r = and_parts (is_profile_number p.raw) (is_profile_number p.yuv) q.1 in
    rw (profile-number-again p.depth q.0, profile-number-again p.raw r.0, profile-number-again p.yuv r.1) refl

split-first : (profile : Option Profile) → first_words profile ≡ codes "trace" ∷ behind (first_words profile)
split-first None = refl
split-first (Some p) = refl

first-words : (profile : Option Profile) → first_line_fits profile ≡ true → list_all is_word (codes "trace" ∷ behind (first_words profile)) ≡ true
first-words profile h = rw (split-first profile) at (first-plain profile h)

named-again : (profile : Option Profile) → first_line_fits profile ≡ true → named_profile (joined (first_words profile)) ≡ Ok profile
named-again profile h =
    ap (λ ws. named_profile (joined ws)) (split-first profile) ∙ named-read (codes "trace") (behind (first_words profile)) profile (first-words profile h) (first-again profile h)

first-no-end : (profile : Option Profile) → first_line_fits profile ≡ true → avoids 10 (joined (first_words profile)) ≡ true
first-no-end profile h =
    ap (λ ws. avoids 10 (joined ws)) (split-first profile) ∙ line-all (λ b. not (eqb b 10)) plain-no-end refl (codes "trace") (behind (first_words profile)) (first-words profile h)

whole-again : (n : ℕ) (profile : Option Profile) (rest : List ℕ) (entries : List Entry) → first_line_fits profile ≡ true → entries_from (n + 1) (parts_at 10 rest) ≡ Ok entries → trace_of n (first_line_of profile ++ rest) ≡ Ok (record { profile = profile; entries = entries })
unfolding trace_of trace_from first_line_of
whole-again n profile rest entries h read =
    let text : first_line_of profile ++ rest ≡ joined (first_words profile) ++ 10 ∷ rest = append_assoc (joined (first_words profile)) (10 ∷ []) rest in
    let cut : parts_at 10 (first_line_of profile ++ rest) ≡ joined (first_words profile) ∷ parts_at 10 rest = ap (parts_at 10) text ∙ cut-first 10 (joined (first_words profile)) rest (first-no-end profile h) in
    let some = parts_some 10 rest in
    let read' = rw some.2 at read in
    rw (cut, some.2, named-again profile h, read') refl

-- a trace's spelling is that trace's
pub trace-again : (n : ℕ) (profile : Option Profile) (entries : List Entry) → first_line_fits profile ≡ true → list_all is_printable entries ≡ true → trace_of n (spelling profile entries) ≡ Ok (record { profile = profile; entries = entries })
unfolding spelling
trace-again n profile entries h k =
    whole-again n profile (flat_map line_of entries ++ line_text (codes "end" ∷ [])) entries h (entries-again (n + 1) entries k)
