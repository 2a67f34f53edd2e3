-- A summary's line from its parts.
use Rattle.std.proofs.Common.{◌≡◌, ℕ, List, [], ◌∷◌, ◌++◌, append_assoc, refl, ap, ◌∙◌}
use Rattle.std.specs.Prelude.{codes, decimal, count_by, length}
use Rattle.text_parts.specs.Lines.{line_text}
use Rattle.trace_model.specs.declared.entry.Entry.{Entry}
use Rattle.trace_model.specs.Summary.{Summary, summary_of}
use Rattle.trace_text.specs.declared.summary.Kind.TheVariants.{Call, Send, Drop, LastPart, RequestError, ResultError, FilledBuffer, FailedBuffer}
use Rattle.trace_text.specs.Summary.{is_of, summary_line}

-- a label and a number, and what stands behind them, up to the end of the line
step : (out label n rest end : List ℕ) → ((out ++ label) ++ n) ++ (rest ++ end) ≡ out ++ ((label ++ (n ++ rest)) ++ end)
step out label n rest end = simp append_assoc refl

-- numbers behind their labels
abbrev more : List (List ℕ × List ℕ) → List ℕ
more [] = []
more (p ∷ ps) = p.0 ++ (p.1 ++ more ps)

abbrev put : List ℕ → List (List ℕ × List ℕ) → List ℕ
put out [] = out
put out (p ∷ ps) = put ((out ++ p.0) ++ p.1) ps

put-more : (out end : List ℕ) (ps : List (List ℕ × List ℕ)) → put out ps ++ end ≡ out ++ (more ps ++ end)
put-more out end [] = refl
put-more out end (p ∷ ps) = put-more ((out ++ p.0) ++ p.1) end ps ∙ step out p.0 p.1 (more ps) end

regrouped : (out c f d r q u a b t : List ℕ) →
    ((((((((((((((((((out ++ codes "commands ") ++ c) ++ codes " frames ") ++ f) ++ codes " dropped ") ++ d) ++ codes " results ") ++ r) ++ codes " request-errors ") ++ q) ++ codes " result-errors ") ++ u) ++ codes " buffers-ok ") ++ a) ++ codes " buffers-error ") ++ b) ++ codes " entries ") ++ t) ++ 10 ∷ []
    ≡ out ++ line_text (codes "commands" ∷ c ∷ codes "frames" ∷ f ∷ codes "dropped" ∷ d ∷ codes "results" ∷ r ∷ codes "request-errors" ∷ q ∷ codes "result-errors" ∷ u ∷ codes "buffers-ok" ∷ a ∷ codes "buffers-error" ∷ b ∷ codes "entries" ∷ t ∷ [])
regrouped out c f d r q u a b t =
    put-more out (10 ∷ []) ((codes "commands ", c) ∷ (codes " frames ", f) ∷ (codes " dropped ", d) ∷ (codes " results ", r) ∷ (codes " request-errors ", q) ∷ (codes " result-errors ", u) ∷ (codes " buffers-ok ", a) ∷ (codes " buffers-error ", b) ∷ (codes " entries ", t) ∷ [])

-- the summary with these numbers
abbrev with : ℕ → ℕ → ℕ → ℕ → ℕ → ℕ → ℕ → ℕ → ℕ → Summary
with c f d r q u a b t = record { commands = c; frames = f; dropped = d; results = r; request_errors = q; result_errors = u; buffers_ok = a; buffers_error = b; entries = t }

whole : (trace : List Entry) →
    with (count_by (is_of Call) trace) (count_by (is_of Send) trace) (count_by (is_of Drop) trace) (count_by (is_of LastPart) trace) (count_by (is_of RequestError) trace) (count_by (is_of ResultError) trace) (count_by (is_of FilledBuffer) trace) (count_by (is_of FailedBuffer) trace) (length trace)
    ≡ summary_of trace
unfolding is_of
whole trace = refl

pub put-whole : (out : List ℕ) (trace : List Entry) (c f d r q u a b : ℕ) →
    c ≡ count_by (is_of Call) trace → f ≡ count_by (is_of Send) trace → d ≡ count_by (is_of Drop) trace → r ≡ count_by (is_of LastPart) trace → q ≡ count_by (is_of RequestError) trace → u ≡ count_by (is_of ResultError) trace → a ≡ count_by (is_of FilledBuffer) trace → b ≡ count_by (is_of FailedBuffer) trace →
    ((((((((((((((((((out ++ codes "commands ") ++ decimal c) ++ codes " frames ") ++ decimal f) ++ codes " dropped ") ++ decimal d) ++ codes " results ") ++ decimal r) ++ codes " request-errors ") ++ decimal q) ++ codes " result-errors ") ++ decimal u) ++ codes " buffers-ok ") ++ decimal a) ++ codes " buffers-error ") ++ decimal b) ++ codes " entries ") ++ decimal (length trace)) ++ 10 ∷ []
    ≡ out ++ summary_line (summary_of trace)
unfolding summary_line
put-whole out trace c f d r q u a b ec ef ed er eq eu ea eb =
    regrouped out (decimal c) (decimal f) (decimal d) (decimal r) (decimal q) (decimal u) (decimal a) (decimal b) (decimal (length trace))
    ∙ (rw (ec, ef, ed, er, eq, eu, ea, eb) (ap (λ (s : Summary). out ++ summary_line s) (whole trace)))
