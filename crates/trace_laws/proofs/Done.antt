-- A frame with which the device is done stays so.
use Rattle.std.proofs.Common.{◌≡◌, ℕ, Bool, true, false, ◌&&◌, ◌||◌, not, List, [], ◌∷◌, refl, sym}
use Rattle.std.specs.List.{list_all}
use Rattle.std.proofs.lemmas.Bool.{and_from, and_parts, false≢true}
use Rattle.cam_types.specs.declared.script.Script.{Script}
use Rattle.trace_model.specs.declared.entry.Entry.{Entry}
use Rattle.trace_model.specs.declared.entry.Entry.TheVariants.{Begin}
use Rattle.trace_model.specs.Allowed.{IsAllowed}
use Rattle.trace_model.specs.Client.{before_begin}
use Rattle.trace_model.specs.Entry.{is_error_request, is_error_result, is_part, sends}
use Rattle.trace_model.specs.Frames.{has_error_request, is_sent, targets_of}
use Rattle.trace_model.specs.Legal.{IsLegal}
use Rattle.trace_model.specs.Open.{all_settled, has_error_result, has_part, is_done, is_metadata_ended, is_open, is_settled}
use Rattle.basic_lemmas.proofs.Lists.{any-behind, all-where}
use Rattle.trace_laws.proofs.Frames.{sent-once}
use Rattle.trace_laws.proofs.Settled.{settled-stays}

pub ended-stays : (n : ℕ) (e : Entry) (past : List Entry) → is_metadata_ended n past ≡ true → is_metadata_ended n (e ∷ past) ≡ true
ended-stays n e past h = ended-more (is_part n 3 e) (has_part n 3 past) (is_error_result n e) (has_error_result n past) (is_error_request n e) (has_error_request n past) h
  where
    ended-more : (x a y b z c : Bool) → (a || (b || c)) ≡ true → ((x || a) || ((y || b) || (z || c))) ≡ true
    ended-more true a y b z c h = refl
    ended-more false true y b z c h = refl
    ended-more false false true b z c h = refl
    ended-more false false false true z c h = refl
    ended-more false false false false true c h = refl
    ended-more false false false false false c h = h

pub done-more : (n : ℕ) (e : Entry) (past : List Entry) → sends n e ≡ false → is_done n past ≡ true → is_done n (e ∷ past) ≡ true
done-more n e past other h =
    let parts = and_parts (is_sent n past) (is_metadata_ended n past && all_settled n past) h in
    let both = and_parts (is_metadata_ended n past) (all_settled n past) parts.1 in
    let settled : list_all (λ t. is_settled n t.stream.0 (e ∷ past)) (targets_of n past) ≡ true = all-where (λ t. is_settled n t.stream.0 past) (λ t. is_settled n t.stream.0 (e ∷ past)) (targets_of n past) (λ t r. settled-stays n t.stream.0 e past r) both.1 in
    let targets : targets_of n (e ∷ past) ≡ targets_of n past = rw other refl in
    let settled' : all_settled n (e ∷ past) ≡ true = rw targets settled in
    and_from _ _ (any-behind (sends n) e past parts.0) (and_from _ _ (ended-stays n e past both.0) settled')

pub done-stays : (script : Script) (past : List Entry) (e : Entry) (n : ℕ) → IsLegal script past → IsAllowed script past e → is_done n past ≡ true → is_done n (e ∷ past) ≡ true
done-stays script past e n legal may h =
    done-more n e past (sent-once script past e n legal may (and_parts (is_sent n past) (is_metadata_ended n past && all_settled n past) h).0) h

-- what was done when the last command began is done
pub done-before : (script : Script) (past : List Entry) (n : ℕ) → IsLegal script past → is_done n (before_begin past) ≡ true → is_done n past ≡ true
done-before script [] n legal h = h
done-before script (Begin word ∷ past) n legal h = h
done-before script (e ∷ past) n legal h = done-stays script past e n legal.1 legal.0 (done-before script past n legal.1 h)

pub closed-stays : (script : Script) (past : List Entry) (e : Entry) (n : ℕ) → IsLegal script (e ∷ past) → is_sent n past ≡ true → is_open n past ≡ false → is_open n (e ∷ past) ≡ false
closed-stays script past e n legal sent closed =
    let done' = done-stays script past e n legal.1 legal.0 (closed-done (is_sent n past) (is_metadata_ended n past && all_settled n past) sent closed) in
    done-closed (is_sent n (e ∷ past)) (is_metadata_ended n (e ∷ past) && all_settled n (e ∷ past)) done'
  where
    closed-done : (s d : Bool) → s ≡ true → (s && not d) ≡ false → (s && d) ≡ true
    closed-done true true h k = refl
    closed-done true false h k = absurd (false≢true (sym k))
    closed-done false d h k = absurd (false≢true h)

    done-closed : (s d : Bool) → (s && d) ≡ true → (s && not d) ≡ false
    done-closed true true h = refl
    done-closed true false h = absurd (false≢true h)
    done-closed false d h = refl

-- what isn't open and was sent ended its metadata, and the device is done with its buffers
pub closed-is : (past : List Entry) (n : ℕ) → is_sent n past ≡ true → is_open n past ≡ false → (is_metadata_ended n past ≡ true) × (all_settled n past ≡ true)
closed-is past n sent closed = closed-parts (is_sent n past) (is_metadata_ended n past) (all_settled n past) sent closed
  where
    closed-parts : (s a b : Bool) → s ≡ true → (s && not (a && b)) ≡ false → (a ≡ true) × (b ≡ true)
    closed-parts true true true h k = (refl, refl)
    closed-parts true true false h k = absurd (false≢true (sym k))
    closed-parts true false b h k = absurd (false≢true (sym k))
    closed-parts false a b h k = absurd (false≢true h)
