use Rattle.std.proofs.Common.{◌≡◌, ℕ, Bool, List, ◌∷◌, Result, Err, refl, sym}
use Rattle.std.proofs.lemmas.Result.{err_from_is_err_and}
use Rattle.cam_types.specs.declared.four.Four.{Four}
use Rattle.trace_model.specs.declared.entry.Sent.{Sent}
use Rattle.trace_reader.specs.declared.cause.Cause.{Cause}
use Rattle.trace_reader.specs.Lines.{up_to_four, send_of}
use Rattle.trace_reader.specs.Values.{both, small, item, mark, sent}
use Rattle.text_parts.specs.Words.{strict_words_behind}
use Rattle.trace_reader.proofs.frame.send_of.Goals as goal

send_refused : (ws : List (List ℕ)) (n i m : List ℕ) (more : List (List ℕ)) (number : Result ℕ Cause) (name : Result (ℕ × ℕ) Cause) (same : Result Bool Cause) (targets : Result (Four Sent) Cause)
    (last : Result (Bool × Four Sent) Cause) (named : Result ((ℕ × ℕ) × (Bool × Four Sent)) Cause) (all : Result (ℕ × ((ℕ × ℕ) × (Bool × Four Sent))) Cause) (cause : Cause)
    → ws ≡ n ∷ i ∷ m ∷ more → number ≡ small n → name ≡ item i → same ≡ mark m → targets ≡ up_to_four (λ s. sent) more
    → last ≡ both same targets → named ≡ both name last → all ≡ both number named → all ≡ Err cause → send_of ws ≡ Err cause
unfolding send_of
send_refused ws n i m more number name same targets last named all cause e en ei em et el ed ea h =
    let k : both (small n) (both (item i) (both (mark m) (up_to_four (λ s. sent) more))) ≡ Err cause = rw (ea, ed, el, et, em, ei, en) at h in
    rw (e, k) refl

pub returns-in_err-frame : goal.returns-in_err-frame
returns-in_err-frame c =
    let p = err_from_is_err_and c.from_residual.result c.from_residual.ensures.1 in
    let words : strict_words_behind c.args.rest.now ≡ c.in-Some.number.now ∷ c.in-Some-next_strict_word.name.now ∷ c.in-Some-next_strict_word-2.sign.now ∷ strict_words_behind c.in-Some-next_strict_word-2.rest.now = rw (c.in-Some.ensures.words, c.in-Some-next_strict_word.ensures.words, c.in-Some-next_strict_word-2.ensures.words) refl in
    rw (p.1, p.2) (sym (send_refused (strict_words_behind c.args.rest.now) c.in-Some.number.now c.in-Some-next_strict_word.name.now c.in-Some-next_strict_word-2.sign.now (strict_words_behind c.in-Some-next_strict_word-2.rest.now)
    c.small.result c.item.result c.mark.result c.targets.result c.both.result c.both-2.result c.both-3.result c.in_err-frame.field-0.0
    words c.small.ensures c.item.ensures c.mark.ensures c.targets.ensures c.both.ensures c.both-2.ensures c.both-3.ensures c.in_err-frame.was))
