-- The report, one rule and one event after the other.
use Rattle.std.proofs.Common.{◌≡◌, ◌∙◌, ℕ, zero, suc, ◌+◌, ◌<◌, ◌≤◌, List, [], ◌∷◌, ◌++◌, refl, sym, ap, arith, filter, get_or, length, map, reverse, take}
use Rattle.std.proofs.Math.Seq.{take-suc}
use Rattle.std.proofs.lemmas.Grind.{common_steps}
use Rattle.std.proofs.lemmas.List.{reverse-append}
use Rattle.hal_model.specs.declared.event.HalEvent.{HalEvent}
use Rattle.hal_model.specs.declared.rule.Breach.{Breach}
use Rattle.hal_model.specs.declared.rule.Rule.{Rule}
use Rattle.hal_model.specs.Rules.{ascending, breaches_in, known, open_requests, report_by}
use Rattle.hal_rows.specs.Judged.{all_breaches_at, breaches_at}
use Rattle.hal_rows.specs.Noting.{next_state}
use Rattle.hal_rows.specs.Row.{is_row_outstanding}
use Rattle.hal_rows.specs.State.{HalState, hal_state}
use Rattle.hal_rows.proofs.Whole.{breaches-read, log_noted, open_reads, report_reads}
use Rattle.hal_judge.proofs.Faults.{append-turned}
use Rattle.basic_lemmas.proofs.Lists.{append-none}

-- ---- one more rule

breaches-append : (k line : ℕ) (e : HalEvent) (s : HalState) (some : List Rule) (rule : Rule) → all_breaches_at k line e s (some ++ rule ∷ []) ≡ all_breaches_at k line e s some ++ breaches_at k line e s rule
breaches-append k line e s [] rule = append-none (breaches_at k line e s rule)
breaches-append k line e s (first ∷ some) rule =
    ap (λ z. breaches_at k line e s first ++ z) (breaches-append k line e s some rule)
    ∙ sym (append-turned (breaches_at k line e s first) (all_breaches_at k line e s some) (breaches_at k line e s rule))

pub breaches_more : (k line : ℕ) (e : HalEvent) (s : HalState) (some : List Rule) (i : ℕ) (d : Rule) (init old new : List Breach) → i < length some → old ≡ init ++ all_breaches_at k line e s (take i some) → new ≡ old ++ breaches_at k line e s (get_or some i d) → new ≡ init ++ all_breaches_at k line e s (take (i + 1) some)
breaches_more k line e s some i d init old new l before' now' =
    let n : i + 1 ≡ suc i = omega arith in
    now' ∙ (ap (λ z. z ++ breaches_at k line e s (get_or some i d)) before'
    ∙ (append-turned init (all_breaches_at k line e s (take i some)) (breaches_at k line e s (get_or some i d))
    ∙ ap (λ z. init ++ z) (sym (rw (n, take-suc some i d l) (breaches-append k line e s (take i some) (get_or some i d))))))

-- ---- one more event

turned-more : (es : List HalEvent) (i : ℕ) (d : HalEvent) → i < length es → reverse (take (i + 1) es) ≡ get_or es i d ∷ reverse (take i es)
turned-more es i d l =
    let n : i + 1 ≡ suc i = omega arith in
    rw (n, take-suc es i d l) (reverse-append (take i es) (get_or es i d ∷ []))

pub state_more : (k : ℕ) (es : List HalEvent) (i : ℕ) (d : HalEvent) (s s' : HalState) → i < length es → s ≡ hal_state k (known k (reverse (take i es))) → s' ≡ next_state k (get_or es i d) s → s' ≡ hal_state k (known k (reverse (take (i + 1) es)))
state_more k es i d s s' l before' now' =
    now' ∙ (ap (next_state k (get_or es i d)) before' ∙ (sym (log_noted k (get_or es i d) (reverse (take i es))) ∙ ap (λ log. hal_state k (known k log)) (sym (turned-more es i d l))))

pub long-turned : (es : List HalEvent) (i : ℕ) → i < length es → length (reverse (take i es)) ≡ i
long-turned es i l = grind (arith, common_steps)

pub report_more : (k : ℕ) (some : List Rule) (es : List HalEvent) (i : ℕ) (d : HalEvent) (s : HalState) (old new : List Breach) → i < length es → s ≡ hal_state k (known k (reverse (take i es))) → old ≡ report_by some k (reverse (take i es)) → new ≡ old ++ all_breaches_at k i (get_or es i d) s some → new ≡ report_by some k (reverse (take (i + 1) es))
report_more k some es i d s old new l state before' now' =
    now' ∙ (ap (λ z. z ++ all_breaches_at k i (get_or es i d) s some) before'
    ∙ (ap (λ z. report_by some k (reverse (take i es)) ++ z) told
    ∙ (sym (report_reads k (get_or es i d) (reverse (take i es)) some) ∙ ap (report_by some k) (sym (turned-more es i d l)))))
  where
    told : all_breaches_at k i (get_or es i d) s some ≡ all_breaches_at k (length (reverse (take i es))) (get_or es i d) (hal_state k (known k (reverse (take i es)))) some
    told =
        ap (λ n. all_breaches_at k n (get_or es i d) s some) (sym (long-turned es i l))
        ∙ ap (λ t. all_breaches_at k (length (reverse (take i es))) (get_or es i d) t some) state

-- ---- the same of an event that is owned, and at the end

pub state_item : (k : ℕ) (es : List HalEvent) (i : ℕ) (e : HalEvent) (s s' : HalState) → i < length es → e ≡ get_or es i e → s ≡ hal_state k (known k (reverse (take i es))) → s' ≡ next_state k e s → s' ≡ hal_state k (known k (reverse (take (i + 1) es)))
state_item k es i e s s' l item before' now' = state_more k es i e s s' l before' (now' ∙ ap (λ z. next_state k z s) item)

pub report_item : (k : ℕ) (some : List Rule) (es : List HalEvent) (i : ℕ) (e : HalEvent) (s : HalState) (old new : List Breach) → i < length es → e ≡ get_or es i e → s ≡ hal_state k (known k (reverse (take i es))) → old ≡ report_by some k (reverse (take i es)) → new ≡ old ++ all_breaches_at k i e s some → new ≡ report_by some k (reverse (take (i + 1) es))
report_item k some es i e s old new l item state before' now' =
    report_more k some es i e s old new l state before' (now' ∙ ap (λ z. old ++ all_breaches_at k i z s some) item)

pub take_all : (es : List HalEvent) (i : ℕ) → length es ≤ i → take i es ≡ es
take_all [] zero l = refl
take_all [] (suc i) l = refl
take_all (e ∷ es) zero l = absurd (omega arith)
take_all (e ∷ es) (suc i) l = ap (λ z. e ∷ z) (take_all es i (omega arith))

-- ---- the same in the words of the log

pub state_next : (k : ℕ) (e : HalEvent) (log : List HalEvent) (s s' : HalState) → s ≡ hal_state k (known k log) → s' ≡ next_state k e s → s' ≡ hal_state k (known k (e ∷ log))
state_next k e log s s' state now' = now' ∙ (ap (next_state k e) state ∙ sym (log_noted k e log))

pub told_next : (k line : ℕ) (e : HalEvent) (log : List HalEvent) (some : List Rule) (s : HalState) (old new : List Breach) → s ≡ hal_state k (known k log) → length log ≡ line → new ≡ old ++ all_breaches_at k line e s some → new ≡ old ++ breaches_in k e log some
told_next k line e log some s old new state long now' =
    now' ∙ ap (λ z. old ++ z) (ap (λ n. all_breaches_at k n e s some) (sym long)
    ∙ (ap (λ t. all_breaches_at k (length log) e t some) state ∙ sym (breaches-read k e log some)))

pub open_next : (k : ℕ) (log : List HalEvent) (s : HalState) (left : List ℕ) → s ≡ hal_state k (known k log) → left ≡ ascending (map (λ r. r.frame) (filter is_row_outstanding s.rows)) → left ≡ open_requests k log
open_next k log s left state now' =
    now' ∙ (ap (λ t. ascending (map (λ r. r.frame) (filter is_row_outstanding t.rows))) state ∙ sym (open_reads k log))
