-- A text that is read is the spelling of its trace.
use Rattle.std.proofs.Common.{◌≡◌, ℕ, ◌+◌, true, ◌&&◌, cond, List, [], ◌∷◌, ◌++◌, Option, None, Some, Result, Ok, Err, refl, sym, ap, subst, ◌∙◌, inl, inr, append_assoc}
use Rattle.std.specs.Prelude.{codes, bytes_eq}
use Rattle.std.specs.List.{flat_map, join_by, list_all}
use Rattle.std.proofs.lemmas.Bool.{cases_Bool, and_from}
use Rattle.hex.specs.Hex.{encode_lower}
use Rattle.trace_model.specs.Printable.{is_printable}
use Rattle.trace_model.specs.declared.entry.Entry.{Entry}
use Rattle.trace_model.specs.declared.entry.Entry.TheVariants.{Partial}
use Rattle.trace_model.specs.declared.list.TraceList.{TraceList}
use Rattle.cam_types.specs.declared.profile.Profile.{Profile}
use Rattle.text_parts.specs.Lines.{line_text}
use Rattle.trace_text.specs.Spelling.{entry_words, line_of, first_words, first_line_fits, first_line_of, spelling}
use Rattle.trace_reader.specs.declared.cause.Cause.{Cause}
use Rattle.trace_reader.specs.declared.cause.Cause.TheVariants.{BadLine}
use Rattle.trace_reader.specs.declared.cause.TraceRefused.{TraceRefused}
use Rattle.trace_reader.specs.declared.line.Kind.{Kind}
use Rattle.trace_reader.specs.declared.line.Kind.TheVariants as kind
use Rattle.text_parts.specs.Cuts.{parts_at}
use Rattle.text_parts.specs.Words.{strict_words}
use Rattle.trace_reader.specs.Values.{◌>>=◌, both, profile_number, small, part_number, hex_bytes}
use Rattle.text_parts.specs.Words.{three_of}
use Rattle.trace_reader.specs.Lines.{shape, no_profile, profile_of, version_of, first_by, named_profile, metadata, partial_of, kind_of, entry_in, entry_with, entry_by, is_plain_line, entry_of}
use Rattle.trace_reader.specs.Grammar.{at_line, with_entry, with_profile, after_end, entries_from, trace_from, trace_of}
use Rattle.text_parts.proofs.Joined.{join-cut}
use Rattle.basic_lemmas.proofs.Tests.{chosen}
use Rattle.trace_reader.proofs.Means.{bind-ok, both-ok, profile-number-is, if-ok, text-is, small-is, part_number-is, hex-is}
use Rattle.trace_reader.proofs.MeansLines.{shape-ok, finish, same-cons, drop-is, shutter-is, release-is, signal-is, late-is, begin-is}
use Rattle.trace_reader.proofs.MeansEntries.{send-is, call-is, buffer-is, early-is, error-is}
use Rattle.trace_reader.proofs.MeansParts.{metadata-means}

three-is : (ws : List (List ℕ)) (p : List ℕ × List ℕ × List ℕ) → three_of ws ≡ Some p → ws ≡ p.0 ∷ p.1 ∷ p.2 ∷ []
three-is [] p h = absurd (cc)
three-is (v ∷ []) p h = absurd (cc)
three-is (v ∷ u ∷ []) p h = absurd (cc)
three-is (v ∷ u ∷ t ∷ []) p h = let e : (v, u, t) ≡ p = cc in ap (λ (q : List ℕ × List ℕ × List ℕ). q.0 ∷ q.1 ∷ q.2 ∷ []) e
three-is (v ∷ u ∷ t ∷ s ∷ ws) p h = absurd (cc)

partial-is : (ws : List (List ℕ)) (e : Entry) → partial_of ws ≡ Ok e → (codes "partial" ∷ ws ≡ entry_words e) × (is_printable e ≡ true)
unfolding partial_of
partial-is ws e h =
    let w = bind-ok (shape (three_of ws)) _ e h in
    let n = bind-ok (small w.0.0) _ e w.2 in
    let k = bind-ok (part_number w.0.1) _ e n.2 in
    let b = bind-ok (hex_bytes w.0.2) _ e k.2 in
    let m = bind-ok (metadata k.0 b.0) _ e b.2 in
    let wn = small-is w.0.0 n.0 n.1 in
    let wk = part_number-is w.0.1 k.0 k.1 in
    let wb = hex-is w.0.2 b.0 b.1 in
    let wm = metadata-means k.0 b.0 m.0 wb.1 m.1 in
    finish (codes "partial" ∷ ws) (Partial (record { 0 = n.0 }) k.0 m.0) e (cc)
    (ap (λ (x : List (List ℕ)). codes "partial" ∷ x) (three-is ws w.0 (shape-ok (three_of ws) w.0 w.1) ∙ same-cons w.0.0 _ (w.0.1 ∷ w.0.2 ∷ []) _ wn.0 (same-cons w.0.1 _ (w.0.2 ∷ []) _ wk (ap (λ (x : List ℕ). x ∷ []) (wb.0 ∙ ap encode_lower wm.0)))))
    (and_from _ _ wn.1 wm.1)

abbrev IsLine : List (List ℕ) → Entry → Type 0
IsLine ws e = (ws ≡ entry_words e) × (is_printable e ≡ true)

abbrev entry_if : Option Kind → List (List ℕ) → Result Entry Cause
entry_if k ws = shape k >>= λ found. entry_in found ws

kind-step : (w v : List ℕ) (ws : List (List ℕ)) (e : Entry) (this : Kind) (more : Option Kind) → entry_if (cond (bytes_eq w v) (Some this) more) ws ≡ Ok e → (entry_in this ws ≡ Ok e → IsLine (v ∷ ws) e) → (entry_if more ws ≡ Ok e → IsLine (w ∷ ws) e) → IsLine (w ∷ ws) e
kind-step w v ws e this more h a b = elim (cases_Bool (bytes_eq w v)) [
  | inl t ↦ (let k = a (rw t at h) in (ap (λ (x : List ℕ). x ∷ ws) (text-is w v t) ∙ k.0, k.1))
  | inr f ↦ b (rw f at h)
]

entry_with-is : (w : List ℕ) (ws : List (List ℕ)) (e : Entry) → entry_with w ws ≡ Ok e → IsLine (w ∷ ws) e
unfolding kind_of entry_in
entry_with-is w ws e h =
    kind-step w (codes "partial") ws e kind.Partial _ h (partial-is ws e) (λ h1.
    kind-step w (codes "buffer") ws e kind.Buffer _ h1 (buffer-is ws e) (λ h2.
    kind-step w (codes "release") ws e kind.Release _ h2 (release-is ws e) (λ h3.
    kind-step w (codes "send") ws e kind.Send _ h3 (send-is ws e) (λ h4.
    kind-step w (codes "shutter") ws e kind.Shutter _ h4 (shutter-is ws e) (λ h5.
    kind-step w (codes "signal") ws e kind.Signal _ h5 (signal-is ws e) (λ h6.
    kind-step w (codes "begin") ws e kind.Begin _ h6 (begin-is ws e) (λ h7.
    kind-step w (codes "call") ws e kind.Call _ h7 (call-is ws e) (λ h8.
    kind-step w (codes "filled") ws e kind.Late _ h8 (late-is ws e) (λ h9.
    kind-step w (codes "early") ws e kind.Early _ h9 (early-is ws e) (λ h10.
    kind-step w (codes "error") ws e kind.Error _ h10 (error-is ws e) (λ h11.
    kind-step w (codes "drop") ws e kind.Drop None h11 (drop-is ws e) (λ h12. absurd (cc)))))))))))))

entry_by-is : (ws : List (List ℕ)) (e : Entry) → entry_by ws ≡ Ok e → IsLine ws e
entry_by-is [] e h = absurd (cc)
entry_by-is (w ∷ ws) e h = entry_with-is w ws e h

-- ---- lines and texts

line-is : (line : List ℕ) (e : Entry) → entry_of line ≡ Ok e → (line ++ 10 ∷ [] ≡ line_of e) × (is_printable e ≡ true)
unfolding entry_of line_of
line-is line e h =
    let p = if-ok (is_plain_line line) (entry_by (strict_words line)) BadLine e h in
    let k = entry_by-is (strict_words line) e p.1 in
    (ap (λ (x : List ℕ). x ++ 10 ∷ []) (sym (join-cut 32 line)) ∙ ap line_text k.0, k.1)

abbrev lines : List (List ℕ) → List ℕ
lines parts = join_by (λ (w : List ℕ). w) (10 ∷ []) parts

after-is : (n : ℕ) (parts : List (List ℕ)) (entries : List Entry) → after_end n parts ≡ Ok entries → (parts ≡ [] ∷ []) × (entries ≡ [])
after-is n [] entries h = absurd (cc)
after-is n ([] ∷ []) entries h = (refl, cc)
after-is n ((b ∷ bs) ∷ []) entries h = absurd (cc)
after-is n ([] ∷ p ∷ ps) entries h = absurd (cc)
after-is n ((b ∷ bs) ∷ p ∷ ps) entries h = absurd (cc)

with-is : (r : Result (List Entry) TraceRefused) (e : Entry) (entries : List Entry) → with_entry e r ≡ Ok entries → (es : List Entry) × (r ≡ Ok es) × (e ∷ es ≡ entries)
with-is (Ok es) e entries h = (es, refl, cc)
with-is (Err c) e entries h = absurd (cc)

at-is : {A B : Type 0} (n : ℕ) (r : Result A Cause) (f : A → Result B TraceRefused) (y : B) → at_line n r f ≡ Ok y → (x : A) × (r ≡ Ok x) × (f x ≡ Ok y)
at-is n (Ok x) f y h = (x, refl, h)
at-is n (Err c) f y h = absurd (cc)

abbrev last_line : List ℕ
last_line = line_text (codes "end" ∷ [])

abbrev IsText : List (List ℕ) → List Entry → Type 0
IsText parts entries = (lines parts ≡ flat_map line_of entries ++ last_line) × (list_all is_printable entries ≡ true)

entries-are : (n : ℕ) (parts : List (List ℕ)) (entries : List Entry) → entries_from n parts ≡ Ok entries → IsText parts entries
unfolding entries_from
entries-are n [] entries h = absurd (cc)
entries-are n (line ∷ []) entries h = absurd (cc)
entries-are n (line ∷ part ∷ parts) entries h = elim (chosen (bytes_eq line (codes "end")) (after_end (n + 1) (part ∷ parts)) (at_line n (entry_of line) (λ e. with_entry e (entries_from (n + 1) (part ∷ parts)))) (Ok entries) h) [
  | inl p ↦
      let a = after-is (n + 1) (part ∷ parts) entries p.1 in
      let text : lines (line ∷ part ∷ parts) ≡ last_line = ap (λ (x : List (List ℕ)). lines (line ∷ x)) a.0 ∙ ap (λ (x : List ℕ). lines (x ∷ [] ∷ [])) (text-is line (codes "end") p.0) in
      (text ∙ ap (λ (x : List Entry). flat_map line_of x ++ last_line) (sym a.1), ap (list_all is_printable) a.1)
  | inr p ↦
      let a = at-is n (entry_of line) (λ e. with_entry e (entries_from (n + 1) (part ∷ parts))) entries p.1 in
      let b = with-is (entries_from (n + 1) (part ∷ parts)) a.0 entries a.2 in
      let ih = entries-are (n + 1) (part ∷ parts) b.0 b.1 in
      let l = line-is line a.0 a.1 in
      let text : lines (line ∷ part ∷ parts) ≡ flat_map line_of (a.0 ∷ b.0) ++ last_line =
      sym (append_assoc line (10 ∷ []) (lines (part ∷ parts))) ∙ (ap (λ (x : List ℕ). x ++ lines (part ∷ parts)) l.0 ∙ (ap (λ (x : List ℕ). line_of a.0 ++ x) ih.0 ∙ sym (append_assoc (line_of a.0) (flat_map line_of b.0) last_line))) in
      let fits : (is_printable a.0 && list_all is_printable b.0) ≡ true = and_from _ _ l.1 ih.1 in
      (text ∙ ap (λ (x : List Entry). flat_map line_of x ++ last_line) b.2, sym (ap (list_all is_printable) b.2) ∙ fits)
]

-- ---- the first line

profile-is : (ws : List (List ℕ)) (profile : Option Profile) → profile_of ws ≡ Ok profile → (codes "trace" ∷ codes "2" ∷ ws ≡ first_words profile) × (first_line_fits profile ≡ true)
profile-is ws profile h =
    let w = bind-ok (shape (three_of ws)) _ profile h in
    let m = bind-ok (both (profile_number w.0.0) (both (profile_number w.0.1) (profile_number w.0.2))) _ profile w.2 in
    let p = both-ok (profile_number w.0.0) (both (profile_number w.0.1) (profile_number w.0.2)) m.0.0 m.0.1 m.1 in
    let q = both-ok (profile_number w.0.1) (profile_number w.0.2) m.0.1.0 m.0.1.1 p.1 in
    let depth = profile-number-is w.0.0 m.0.0 p.0 in
    let raw = profile-number-is w.0.1 m.0.1.0 q.0 in
    let yuv = profile-number-is w.0.2 m.0.1.1 q.1 in
    let e : Some (record { depth = m.0.0; raw = m.0.1.0; yuv = m.0.1.1 }) ≡ profile = cc in
    let text : codes "trace" ∷ codes "2" ∷ ws ≡ first_words (Some (record { depth = m.0.0; raw = m.0.1.0; yuv = m.0.1.1 })) =
    ap (λ (x : List (List ℕ)). codes "trace" ∷ codes "2" ∷ x) (three-is ws w.0 (shape-ok (three_of ws) w.0 w.1) ∙ same-cons w.0.0 _ (w.0.1 ∷ w.0.2 ∷ []) _ depth.0 (same-cons w.0.1 _ (w.0.2 ∷ []) _ raw.0 (ap (λ (x : List ℕ). x ∷ []) yuv.0))) in
    let fits : first_line_fits (Some (record { depth = m.0.0; raw = m.0.1.0; yuv = m.0.1.1 })) ≡ true = and_from _ _ depth.1 (and_from _ _ raw.1 yuv.1) in
    (text ∙ ap first_words e, sym (ap first_line_fits e) ∙ fits)

none-is : (ws : List (List ℕ)) (profile : Option Profile) → no_profile ws ≡ Ok profile → (codes "trace" ∷ codes "1" ∷ ws ≡ first_words profile) × (first_line_fits profile ≡ true)
none-is [] profile h = let e : None ≡ profile = cc in (ap first_words e, sym (ap first_line_fits e))
none-is (w ∷ ws) profile h = absurd (cc)

version-is : (ws : List (List ℕ)) (profile : Option Profile) → version_of ws ≡ Ok profile → (codes "trace" ∷ ws ≡ first_words profile) × (first_line_fits profile ≡ true)
unfolding version_of
version-is [] profile h = absurd (cc)
version-is (v ∷ ws) profile h = elim (chosen (bytes_eq v (codes "1")) (no_profile ws) (cond (bytes_eq v (codes "2")) (profile_of ws) (Err BadLine)) (Ok profile) h) [
  | inl p ↦ (let k = none-is ws profile p.1 in (ap (λ (x : List ℕ). codes "trace" ∷ x ∷ ws) (text-is v (codes "1") p.0) ∙ k.0, k.1))
  | inr p ↦
      let q = if-ok (bytes_eq v (codes "2")) (profile_of ws) BadLine profile p.1 in
      let k = profile-is ws profile q.1 in
      (ap (λ (x : List ℕ). codes "trace" ∷ x ∷ ws) (text-is v (codes "2") q.0) ∙ k.0, k.1)
]

first-is : (ws : List (List ℕ)) (profile : Option Profile) → first_by ws ≡ Ok profile → (ws ≡ first_words profile) × (first_line_fits profile ≡ true)
first-is [] profile h = absurd (cc)
first-is (w ∷ ws) profile h =
    let p = if-ok (bytes_eq w (codes "trace")) (version_of ws) BadLine profile h in
    let k = version-is ws profile p.1 in
    (ap (λ (x : List ℕ). x ∷ ws) (text-is w (codes "trace") p.0) ∙ k.0, k.1)

named-is : (line : List ℕ) (profile : Option Profile) → named_profile line ≡ Ok profile → (line ++ 10 ∷ [] ≡ first_line_of profile) × (first_line_fits profile ≡ true)
unfolding named_profile first_line_of
named-is line profile h =
    let p = if-ok (is_plain_line line) (first_by (strict_words line)) BadLine profile h in
    let k = first-is (strict_words line) profile p.1 in
    (ap (λ (x : List ℕ). x ++ 10 ∷ []) (sym (join-cut 32 line)) ∙ ap line_text k.0, k.1)

-- ---- a whole text

abbrev trace_with : Option Profile → List Entry → TraceList
trace_with profile entries = record { profile = profile; entries = entries }

profiled-is : (profile : Option Profile) (r : Result (List Entry) TraceRefused) (trace : TraceList) → with_profile profile r ≡ Ok trace → (es : List Entry) × (r ≡ Ok es) × (trace_with profile es ≡ trace)
profiled-is profile (Ok es) trace h = (es, refl, cc)
profiled-is profile (Err c) trace h = absurd (cc)

abbrev IsSpelled : List ℕ → TraceList → Type 0
IsSpelled text trace = (text ≡ first_line_of trace.profile ++ (flat_map line_of trace.entries ++ last_line)) × (first_line_fits trace.profile ≡ true) × (list_all is_printable trace.entries ≡ true)

from-is : (n : ℕ) (parts : List (List ℕ)) (trace : TraceList) → trace_from n parts ≡ Ok trace → IsSpelled (lines parts) trace
unfolding trace_from
from-is n [] trace h = absurd (cc)
from-is n (line ∷ []) trace h = absurd (cc)
from-is n (line ∷ part ∷ parts) trace h =
    let a = at-is n (named_profile line) (λ profile. with_profile profile (entries_from (n + 1) (part ∷ parts))) trace h in
    let b = profiled-is a.0 (entries_from (n + 1) (part ∷ parts)) trace a.2 in
    let l = named-is line a.0 a.1 in
    let k = entries-are (n + 1) (part ∷ parts) b.0 b.1 in
    let text : lines (line ∷ part ∷ parts) ≡ first_line_of a.0 ++ (flat_map line_of b.0 ++ last_line) =
    sym (append_assoc line (10 ∷ []) (lines (part ∷ parts))) ∙ (ap (λ (x : List ℕ). x ++ lines (part ∷ parts)) l.0 ∙ ap (λ (x : List ℕ). first_line_of a.0 ++ x) k.0) in
    let whole : IsSpelled (lines (line ∷ part ∷ parts)) (trace_with a.0 b.0) = (text, l.1, k.1) in
    subst (IsSpelled (lines (line ∷ part ∷ parts))) b.2 whole

-- a text means a trace only where it is that trace's spelling
pub trace-is : (n : ℕ) (text : List ℕ) (trace : TraceList) → trace_of n text ≡ Ok trace → (text ≡ spelling trace.profile trace.entries) × (first_line_fits trace.profile ≡ true) × (list_all is_printable trace.entries ≡ true)
unfolding trace_of spelling
trace-is n text trace h =
    let k = from-is n (parts_at 10 text) trace h in
    (sym (join-cut 10 text) ∙ k.0, k.1, k.2)
