-- Each end of a call in the hal log of a legal trace has its begin before it.
use Rattle.std.proofs.Common.{◌≡◌, ℕ, ◌==◌, Bool, true, ◌&&◌, List, [], ◌∷◌, ◌++◌, append_assoc, Some, refl, ◌∙◌, arith, inl, inr}
use Rattle.std.specs.List.{list_any}
use Rattle.std.proofs.lemmas.Bool.{cases_Bool, false≢true}
use Rattle.std.proofs.lemmas.Bool.Decides.{nat_tests}
use Rattle.cam_types.specs.declared.script.Script.{Script}
use Rattle.cam_types.specs.declared.script.Word.{Word}
use Rattle.trace_model.specs.declared.entry.Entry.{Entry}
use Rattle.trace_model.specs.declared.entry.Entry.TheVariants.{Begin, Call, Send}
use Rattle.trace_model.specs.Calls.{begun}
use Rattle.trace_model.specs.Legal.{IsLegal}
use Rattle.hal_model.specs.declared.event.HalEvent.{HalEvent}
use Rattle.hal_model.specs.declared.event.HalEvent.TheVariants.{OpenBegin}
use Rattle.hal_model.specs.Words.{begins_flush, ends_flush, is_flushing, is_within}
use Rattle.hal_model.specs.Fits.{has_begin}
use Rattle.hal_model.specs.Hal.{called, flush_begun, flushes, hal, whole_log}
use Rattle.hal_laws.proofs.Cases.{by-called}
use Rattle.hal_laws.proofs.Standing.{flushing-reads}
use Rattle.basic_lemmas.proofs.Tests.{own-number}

-- each event of a log, the newest first, has its begin
abbrev pub all_begun : List HalEvent → Bool
all_begun [] = true
all_begun (e ∷ past) = has_begin past e && all_begun past

within_any : (start end' : HalEvent → Bool) (past : List HalEvent) → is_within start end' past ≡ true → list_any start past ≡ true
within_any start end' [] h = absurd (false≢true h)
within_any start end' (e ∷ past) h =
    elim (cases_Bool (start e)) [
      | inl here ↦ rw here refl
      | inr no' ↦ elim (cases_Bool (end' e)) [
        | inl ended ↦ (let h' = rw (no', ended) at h in absurd (false≢true h'))
        | inr more ↦ (let h' = rw (no', more) at h in rw no' (within_any start end' past h'))
      ]
    ]

any_front : (p : HalEvent → Bool) (xs ys : List HalEvent) → list_any p xs ≡ true → list_any p (xs ++ ys) ≡ true
any_front p [] ys h = absurd (false≢true h)
any_front p (x ∷ xs) ys h =
    elim (cases_Bool (p x)) [
      | inl here ↦ rw here refl
      | inr no' ↦ (let h' = rw no' at h in rw no' (any_front p xs ys h'))
    ]

-- where a call is answered that flushes, the flush has begun
flush_stands : (script : Script) (past : List Entry) (w : Word) → IsLegal script past → begun past ≡ Some w → flushes w past ≡ true → list_any begins_flush (whole_log script past) ≡ true
flush_stands script past w legal word flush =
    let runs : is_flushing (hal script past) ≡ true = flushing-reads script past legal ∙ rw word flush in
    any_front begins_flush (hal script past) (OpenBegin ∷ []) (within_any begins_flush ends_flush (hal script past) runs)

begin_begun : (w : Word) (past : List Entry) (log : List HalEvent) → all_begun log ≡ true → all_begun (flush_begun w past ++ log) ≡ true
begin_begun w past log h = elim (cases_Bool (flushes w past)) [ inl yes' ↦ rw yes' h | inr no' ↦ rw no' h ]

-- the log's own last event stays behind
behind : (script : Script) (past : List Entry) (hs : List HalEvent) → all_begun (hs ++ whole_log script past) ≡ true → all_begun ((hs ++ hal script past) ++ OpenBegin ∷ []) ≡ true
behind script past hs h = rw (append_assoc hs (hal script past) (OpenBegin ∷ [])) h

pub log_begun : (script : Script) (past : List Entry) → IsLegal script past → all_begun (whole_log script past) ≡ true
log_begun script [] legal = refl
log_begun script (Begin w ∷ past) legal = behind script past (flush_begun w past) (begin_begun w past (whole_log script past) (log_begun script past legal.1))
log_begun script (Call i w r ∷ past) legal =
    let ih = log_begun script past legal.1 in
    behind script past (called script past i w r)
    (by-called (λ hs. all_begun (hs ++ whole_log script past) ≡ true) script past i w r legal
    (record {
      none = λ no'. ih;
      configure = λ specs is. ih;
      flush = λ is yes'. rw (flush_stands script past _ legal.1 is.word yes') ih;
      close = λ v is no'. ih;
      disconnect = λ is yes'. rw (flush_stands script past _ legal.1 is.word yes') ih;
    }))
log_begun script (Send n r i same targets ∷ past) legal = rw (own-number n.0) (log_begun script past legal.1)
log_begun script (e ∷ past) legal = log_begun script past legal.1
