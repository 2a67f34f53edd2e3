-- Rules of calls: the device's state, configurations, and what is missing where a call returns.
use Rattle.std.proofs.Common.{◌≡◌, ℕ, ◌==◌, ◌+◌, Bool, true, false, ◌&&◌, ◌||◌, not, List, [], ◌∷◌, Some, None, refl, sym, ◌∙◌, inl, inr, map, nat_lt, length, count_by}
use Rattle.std.specs.List.{list_any, list_all}
use Rattle.std.proofs.lemmas.Bool.{and_parts, both_ways, cases_Bool, eq-eqb, eqb-true, false≢true, not-true, or_parts}
use Rattle.basic_lemmas.proofs.Lists.{any-never}
use Rattle.basic_lemmas.proofs.Tests.{and-false, not-false, not-so}
use Rattle.cam_types.specs.Four.{four_list}
use Rattle.cam_types.specs.Refusals.{refused, specs_refusal, where_true}
use Rattle.cam_types.specs.declared.four.Four.{Four}
use Rattle.cam_types.specs.declared.number.FrameNo.{FrameNo}
use Rattle.cam_types.specs.declared.number.RequestId.{RequestId}
use Rattle.cam_types.specs.declared.script.Script.{Script}
use Rattle.cam_types.specs.declared.script.Word.{Word}
use Rattle.cam_types.specs.declared.stream.StreamSpec.{StreamSpec}
use Rattle.trace_model.specs.declared.entry.Entry.{Entry}
use Rattle.trace_model.specs.declared.entry.Entry.TheVariants.{Send, Failed, Filled, Early, Shutter}
use Rattle.trace_model.specs.declared.entry.Sent.{Sent}
use Rattle.trace_model.specs.Calls.{begun}
use Rattle.trace_model.specs.Configuration.{buffers_of, is_configured}
use Rattle.trace_model.specs.Entry.{is_error_buffer, is_error_request}
use Rattle.trace_laws.proofs.BufferSends.{is_with}
use Rattle.trace_model.specs.Frames.{has_error_request, has_shutter, target_of, targets_of}
use Rattle.trace_model.specs.Legal.{IsLegal}
use Rattle.trace_model.specs.Open.{has_error_buffer, has_error_result, has_part, is_metadata_ended}
use Rattle.trace_model.specs.Send.{takes_from_pool}
use Rattle.trace_model.proofs.LawLemmas.{sends-from-pool}
use Rattle.state_facts.proofs.Targets.{has_some, sent-targets}
use Rattle.trace_laws.proofs.Exposed.{part-shutter, result-shutter}
use Rattle.hal_model.specs.declared.event.HalEvent.{HalEvent}
use Rattle.hal_model.specs.declared.event.HalEvent.TheVariants.{FlushOk, CloseBegin, CloseEnd}
use Rattle.hal_model.specs.declared.rule.Rule.TheVariants.{AcceptedBeforeInit, AcceptedDead, AcceptedNoOutput, AcceptedTwoInputs, FailedWithoutNotice, NoConfiguration, NoOutput, NoShutter, OverlappingCalls, TwoInputs}
use Rattle.hal_model.specs.Device.{accepted_before_init, accepted_dead, accepted_no_output, accepted_two_inputs}
use Rattle.hal_model.specs.Framework.{is_empty, no_configuration, no_output, overlapping_calls, puts_out, takes_in, two_inputs}
use Rattle.hal_model.specs.Points.{failed_without_notice, is_dark, is_newly_complete, is_silent, is_unlit, no_shutter}
use Rattle.hal_model.specs.Callbacks.{ends_again}
use Rattle.hal_model.specs.Rules.{keeps_in_session, keeps_with}
use Rattle.hal_model.specs.Words.{begins_close, begins_flush, ends_close, gives, gives_something, has_notice, inited, inits, is_complete, is_configuring, is_dead, is_failed, is_failed_buffer, is_flushing, is_point, is_requesting, is_unannounced, is_unannounced_at, is_within, opened, opens, stands, templated, templates, frames as hal_frames}
use Rattle.hal_model.specs.Hal.{flushes, hal, streams_from, target}
use Rattle.hal_laws.proofs.Alone.{dead-end}
use Rattle.hal_laws.proofs.Calling.{not-failed, send-going}
use Rattle.hal_laws.proofs.Homes.{Sees, home, pool-own, targets-never}
use Rattle.hal_laws.proofs.Over.{complete-over}
use Rattle.hal_laws.proofs.Resting.{not-requesting}
use Rattle.hal_laws.proofs.Readings.{buffer-error-reads, request-error-reads, shutter-reads}
use Rattle.hal_laws.proofs.Standing.{closing, dead-before, configured-reads, configuring, dead-reads, flushes-sound, flushing-reads, initialized-always, initialized-before, initing, not-in-call, opening, templating}
use Rattle.hal_laws.proofs.Comes.{CalledBack, CloseBegun, CloseBegunAfter, CloseEnded, CloseEndedAfter, ConfigureBegun, ConfigureEnded, FlushEnded, ForbidsNone, RequestBegun, RequestEnded, kept, Comes, before_it, event, passes_now}
use Rattle.cam_types.proofs.RefusalLemmas.{or-none, where-none}
use Rattle.state_facts.proofs.Caused.{failed_cause}
use Rattle.state_facts.proofs.Made.{no-made}

-- ---- calls don't overlap

ended-flushing : (script : Script) (past : List Entry) (w : Word) → IsLegal script past → begun past ≡ Some w → is_flushing (hal script past) ≡ flushes w past
ended-flushing script past w legal word = flushing-reads script past legal ∙ rw word refl

pub overlapping_calls_kept : (script : Script) (past : List Entry) → IsLegal script past → keeps_in_session 3 (hal script past) OverlappingCalls ≡ true
overlapping_calls_kept script past legal = kept overlapping_calls script rule past legal
  where
    after : (past : List Entry) → is_requesting (hal script past) ≡ false → is_configuring (hal script past) ≡ false → is_within opens opened (hal script past) ≡ false → is_within inits inited (hal script past) ≡ false → is_within templates templated (hal script past) ≡ false → is_within begins_close ends_close (hal script past) ≡ false → overlapping_calls CloseBegin (FlushOk ∷ hal script past) ≡ false
    after past a b c d e f = rw (a, b, c, d, e, f) refl

    rule : ForbidsNone overlapping_calls script
    rule (RequestBegun past n r i same targets legal) = rw (not-requesting script past, configuring script past) refl
    rule (ConfigureBegun past specs legal is) = rw (not-requesting script past, configuring script past) refl
    rule (CloseBegun past w legal is no') = rw (not-requesting script past, configuring script past) (not-in-call script past (ended-flushing script past w legal is.word ∙ no'))
    rule (CloseBegunAfter past w legal is yes') = after past (not-requesting script past) (configuring script past) (opening script past) (initing script past) (templating script past) (closing script past)
    rule (CalledBack past (Shutter n time) legal may) = refl
    rule _ = refl

-- ---- the device works

pub accepted_before_init_kept : (script : Script) (past : List Entry) → IsLegal script past → keeps_in_session 3 (hal script past) AcceptedBeforeInit ≡ true
accepted_before_init_kept script past legal = kept accepted_before_init script rule past legal
  where
    rule : ForbidsNone accepted_before_init script
    rule (RequestEnded past n r i same targets legal) = rw (eq-eqb n.0 n.0 refl, initialized-always script past) refl
    rule (ConfigureEnded past specs legal is) = rw (initialized-always script past) refl
    rule (FlushEnded past w legal is yes') = rw (initialized-before script past legal (ended-flushing script past w legal is.word ∙ yes')) refl
    rule (CalledBack past (Shutter n time) legal may) = refl
    rule _ = refl

pub accepted_dead_kept : (script : Script) (past : List Entry) → IsLegal script past → keeps_in_session 3 (hal script past) AcceptedDead ≡ true
accepted_dead_kept script past legal = kept accepted_dead script rule past legal
  where
    rule : ForbidsNone accepted_dead script
    rule (RequestEnded past n r i same targets legal) = rw (eq-eqb n.0 n.0 refl) (dead-reads script past ∙ not-failed past (send-going script past n.0 r.0 i same targets legal.0))
    rule (ConfigureEnded past specs legal is) = dead-reads script past ∙ is.sound
    rule (FlushEnded past w legal is yes') = dead-before begins_flush (hal script past) (dead-reads script past ∙ flushes-sound w past yes')
    rule (CalledBack past (Shutter n time) legal may) = refl
    rule _ = refl

-- ---- configurations

any_out : (k : ℕ) (specs : List StreamSpec) → list_any (λ s. not s.input) specs ≡ true → list_any (λ x. puts_out x.direction) (streams_from k specs) ≡ true
any_out k [] h = h
any_out k (spec ∷ specs) h =
    elim (cases_Bool spec.input) [
      | inl input ↦ (let h' = rw input at h in rw input (any_out (k + 1) specs h'))
      | inr output ↦ rw output refl
    ]

none_in : (k : ℕ) (specs : List StreamSpec) → list_any (λ s. s.input) specs ≡ false → count_by (λ x. takes_in x.direction) (streams_from k specs) ≡ 0
none_in k [] h = refl
none_in k (spec ∷ specs) h =
    let parts = or_parts spec.input (list_any (λ s. s.input) specs) h in
    rw parts.0 (none_in (k + 1) specs parts.1)

-- an accepted configuration has an output and no input
pub outputs : (specs : List StreamSpec) → specs_refusal specs ≡ None → (list_any (λ s. not s.input) specs ≡ true) × (list_any (λ s. s.input) specs ≡ false)
outputs specs h =
    let first = or-none (where_true (not (list_any (λ s. not s.input) specs)) (refused 21)) _ h in
    let second = or-none (where_true (nat_lt 4 (length specs)) (refused 22)) _ first.1 in
    let third = or-none (where_true (list_any (λ s. s.input) specs) (refused 23)) _ second.1 in
    (not-false (list_any (λ s. not s.input) specs) (where-none _ _ first.0), where-none _ _ third.0)

some_mapped : (ts : List Sent) → has_some ts ≡ true → is_empty (map target ts) ≡ false
some_mapped [] h = absurd (false≢true h)
some_mapped (t ∷ ts) h = refl

send-some : (script : Script) (past : List Entry) (n : FrameNo) (r : RequestId) (i : ℕ) (same : Bool) (targets : Four Sent) → IsLegal script (Send n r i same targets ∷ past) → has_some (four_list targets) ≡ true
send-some script past n r i same targets legal =
    let number : (n.0 == n.0) ≡ true = eq-eqb n.0 n.0 refl in
    let some = sent-targets script (Send n r i same targets ∷ past) n.0 legal (rw number refl) in
    rw number at some

-- what is asked for has an output, and no input
record AsksOutputs (script : Script) (c : Comes script) : Type 0 where
  output : passes_now no_output (event c) (before_it c) ≡ false
  accepted_output : passes_now accepted_no_output (event c) (before_it c) ≡ false
  inputs : passes_now two_inputs (event c) (before_it c) ≡ false
  accepted_inputs : passes_now accepted_two_inputs (event c) (before_it c) ≡ false

asks_outputs : (script : Script) (c : Comes script) → AsksOutputs script c
asks_outputs script (RequestBegun past n r i same targets legal) = record { output = some_mapped (four_list targets) (send-some script past n r i same targets legal); accepted_output = refl; inputs = refl; accepted_inputs = refl }
asks_outputs script (RequestEnded past n r i same targets legal) = record { output = refl; accepted_output = rw (eq-eqb n.0 n.0 refl) (some_mapped (four_list targets) (send-some script past n r i same targets legal)); inputs = refl; accepted_inputs = refl }
asks_outputs script (ConfigureBegun past specs legal is) = let has = outputs specs is.accepted in record { output = rw (any_out 0 specs has.0) refl; accepted_output = refl; inputs = rw (none_in 0 specs has.1) refl; accepted_inputs = refl }
asks_outputs script (ConfigureEnded past specs legal is) = let has = outputs specs is.accepted in record { output = refl; accepted_output = rw (any_out 0 specs has.0) refl; inputs = refl; accepted_inputs = rw (none_in 0 specs has.1) refl }
asks_outputs script (CalledBack past (Shutter n time) legal may) = record { output = refl; accepted_output = refl; inputs = refl; accepted_inputs = refl }
asks_outputs script _ = record { output = refl; accepted_output = refl; inputs = refl; accepted_inputs = refl }

pub accepted_no_output_kept : (script : Script) (past : List Entry) → IsLegal script past → keeps_in_session 3 (hal script past) AcceptedNoOutput ≡ true
accepted_no_output_kept script past legal = kept accepted_no_output script (λ c. (asks_outputs script c).accepted_output) past legal

pub no_output_kept : (script : Script) (past : List Entry) → IsLegal script past → keeps_in_session 3 (hal script past) NoOutput ≡ true
no_output_kept script past legal = kept no_output script (λ c. (asks_outputs script c).output) past legal

pub two_inputs_kept : (script : Script) (past : List Entry) → IsLegal script past → keeps_in_session 3 (hal script past) TwoInputs ≡ true
two_inputs_kept script past legal = kept two_inputs script (λ c. (asks_outputs script c).inputs) past legal

pub accepted_two_inputs_kept : (script : Script) (past : List Entry) → IsLegal script past → keeps_in_session 3 (hal script past) AcceptedTwoInputs ≡ true
accepted_two_inputs_kept script past legal = kept accepted_two_inputs script (λ c. (asks_outputs script c).accepted_inputs) past legal

-- where a stream has buffers a configuration stands
configured_by_buffers : (past : List Entry) (s b : ℕ) → list_any (λ c. c == b) (buffers_of past s) ≡ true → is_configured past ≡ true
configured_by_buffers past s b own =
    elim (cases_Bool (is_configured past)) [
      | inl here ↦ here
      | inr no' ↦ (let own' = rw (no-made past no') at own in absurd (false≢true own'))
    ]

send_configured : (past : List Entry) (ts : List Sent) → has_some ts ≡ true → list_all (takes_from_pool past) ts ≡ true → is_configured past ≡ true
send_configured past [] some all = absurd (false≢true some)
send_configured past (t ∷ ts) some all = configured_by_buffers past t.stream.0 t.buffer.0 (pool-own past t (and_parts (takes_from_pool past t) (list_all (takes_from_pool past) ts) all).0).0

pub no_configuration_kept : (script : Script) (past : List Entry) → IsLegal script past → keeps_in_session 3 (hal script past) NoConfiguration ≡ true
no_configuration_kept script past legal = kept no_configuration script rule past legal
  where
    rule : ForbidsNone no_configuration script
    rule (RequestBegun past n r i same targets legal) = rw (configured-reads script past, send_configured past (four_list targets) (send-some script past n r i same targets legal) (sends-from-pool script past n.0 r.0 i same targets legal.0)) refl
    rule (CalledBack past (Shutter n time) legal may) = refl
    rule _ = refl

-- ---- notices

-- the entry gives a buffer back in error
abbrev pub is_failed_return : ℕ → ℕ → Entry → Bool
is_failed_return n s (Failed m t _ _) = (m.0 == n) && (t.0 == s)
is_failed_return n s _ = false

abbrev pub is_noticed : ℕ → ℕ → List Entry → Bool
is_noticed n s past = has_error_request n past || has_error_buffer n s past

noticed_more : (n s : ℕ) (e : Entry) (past : List Entry) → is_noticed n s past ≡ true → is_noticed n s (e ∷ past) ≡ true
noticed_more n s e past h = more (is_error_request n e) (has_error_request n past) (is_error_buffer n s e) (has_error_buffer n s past) h
  where
    more : (a b c d : Bool) → (b || d) ≡ true → ((a || b) || (c || d)) ≡ true
    more true b c d h = refl
    more false true c d h = refl
    more false false true true h = refl
    more false false false true h = refl
    more false false c false h = absurd (false≢true h)

pub failed-noticed : (script : Script) (past : List Entry) (n s : ℕ) → IsLegal script past → list_any (is_failed_return n s) past ≡ true → is_noticed n s past ≡ true
failed-noticed script [] n s legal h = absurd (false≢true h)
failed-noticed script (Failed m t b f ∷ past) n s legal h =
    noticed_more n s (Failed m t b f) past
    (elim (cases_Bool ((m.0 == n) && (t.0 == s))) [
      | inl own ↦ (
          let parts = and_parts (m.0 == n) (t.0 == s) own in
          let noticed = failed_cause past m.0 t.0 (target_of m.0 t.0 past) (Failed m t b f) legal.0 in
          rw (eqb-true m.0 n parts.0, eqb-true t.0 s parts.1) at noticed
          )
      | inr other ↦ (let h' = rw other at h in failed-noticed script past n s legal.1 h')
    ])
failed-noticed script (e ∷ past) n s legal h = noticed_more n s e past (failed-noticed script past n s legal.1 h)

sees-failed : Sees is_failed_buffer is_failed_return
sees-failed n s (Failed m t c f) h = h
sees-failed n s (Filled m t c f d) h = absurd (false≢true (sym (and-false (m.0 == n)) ∙ h))
sees-failed n s (Early m t c d) h = absurd (false≢true (sym (and-false (m.0 == n)) ∙ h))
sees-failed n s _ h = absurd (false≢true h)

-- a failed buffer that is back was told of
told_target : (script : Script) (past : List Entry) (n : ℕ) (t : Sent) → IsLegal script past → is_failed n (hal script past) ≡ false → list_any (is_with t.stream.0 t.buffer.0) (targets_of n past) ≡ true → is_unannounced_at n (hal script past) (target t) ≡ false
told_target script past n t legal sound among =
    not-so (is_unannounced_at n (hal script past) (target t))
    (λ both.
    let parts = and_parts (stands n (gives is_failed_buffer n t.buffer.0) (hal script past)) (not (has_notice n (Some t.stream.0) (hal script past))) both in
    let back : list_any (is_failed_return n t.stream.0) past ≡ true = home is_failed_buffer is_failed_return sees-failed script past n t.stream.0 t.buffer.0 legal among parts.0 in
    let noticed = failed-noticed script past n t.stream.0 legal back in
    let whole : has_error_request n past ≡ false = sym (request-error-reads n script past legal) ∙ sound in
    let noticed' = rw whole at noticed in
    let none = sym (buffer-error-reads n t.stream.0 script past legal) ∙ not-true (has_notice n (Some t.stream.0) (hal script past)) parts.1 in
    both_ways (has_error_buffer n t.stream.0 past) none noticed')

pub announced : (script : Script) (past : List Entry) (n : ℕ) → IsLegal script past → is_unannounced n (hal script past) ≡ false
announced script past n legal =
    elim (cases_Bool (is_failed n (hal script past))) [
      | inl failed ↦ rw failed refl
      | inr sound ↦ dead-end (not (is_failed n (hal script past))) (targets-never script past n (is_unannounced_at n (hal script past)) (λ t among. told_target script past n t legal sound among))
    ]

none_unannounced : (script : Script) (past : List Entry) (e : HalEvent) (p : List HalEvent) → IsLegal script past → ((n : ℕ) → is_unannounced n p ≡ is_unannounced n (hal script past)) → failed_without_notice 3 e p ≡ false
none_unannounced script past e p legal same =
    dead-end (is_point e) (dead-end (not (is_dead p))
    (any-never (is_silent 3 e p) (hal_frames p) (λ n. dead-end (is_newly_complete 3 e p n) (same n ∙ announced script past n legal))))

pub failed_without_notice_kept : (script : Script) (past : List Entry) → IsLegal script past → keeps_in_session 3 (hal script past) FailedWithoutNotice ≡ true
failed_without_notice_kept script past legal = kept (failed_without_notice 3) script rule past legal
  where
    rule : ForbidsNone (failed_without_notice 3) script
    rule (FlushEnded past w legal is yes') = none_unannounced script past FlushOk (hal script past) legal (λ n. refl)
    rule (CloseEnded past w legal is no') = none_unannounced script past CloseEnd (CloseBegin ∷ hal script past) legal (λ n. refl)
    rule (CloseEndedAfter past w legal is yes') = none_unannounced script past CloseEnd (CloseBegin ∷ (FlushOk ∷ hal script past)) legal (λ n. refl)
    rule (CalledBack past (Shutter n time) legal may) = refl
    rule _ = refl

-- ---- a complete frame has its shutter, unless it failed whole

lit : (script : Script) (past : List Entry) (n : ℕ) → IsLegal script past → is_metadata_ended n past ≡ true → (not (has_error_request n past) && not (has_shutter n past)) ≡ false
lit script past n legal ended =
    elim (cases_Bool (has_part n 3 past)) [
      | inl part ↦ rw (part-shutter script past n legal part) (and-false (not (has_error_request n past)))
      | inr no' ↦ elim (cases_Bool (has_error_result n past)) [
        | inl result ↦ rw (result-shutter script past n legal result) (and-false (not (has_error_request n past)))
        | inr none ↦ (let ended' = rw (no', none) at ended in rw ended' refl)
      ]
    ]

unlit_not : (f x s : Bool) → (not f && not s) ≡ false → (not f && (x && not s)) ≡ false
unlit_not true x s h = refl
unlit_not false x true h = and-false x
unlit_not false x false h = absurd (false≢true (sym h))

not_dark : (script : Script) (past : List Entry) (n : ℕ) → IsLegal script past → is_complete 3 n (hal script past) ≡ true → is_dark n (hal script past) ≡ false
not_dark script past n legal complete =
    let dim = lit script past n legal (complete-over script past n legal complete).ended in
    rw (request-error-reads n script past legal, shutter-reads n script past legal)
    (unlit_not (has_error_request n past) (stands n (gives_something n) (hal script past)) (has_shutter n past) dim)

none_dark : (script : Script) (past : List Entry) (e : HalEvent) (p : List HalEvent) → IsLegal script past → ((n : ℕ) → is_complete 3 n p ≡ is_complete 3 n (hal script past)) → ((n : ℕ) → is_dark n p ≡ is_dark n (hal script past)) → no_shutter 3 e p ≡ false
none_dark script past e p legal same same' =
    dead-end (is_point e) (dead-end (not (is_dead p))
    (any-never (is_unlit 3 e p) (hal_frames p) one))
  where
    one : (n : ℕ) → is_unlit 3 e p n ≡ false
    one n =
        elim (cases_Bool (is_complete 3 n (hal script past))) [
          | inl complete ↦ dead-end (is_newly_complete 3 e p n) (same' n ∙ not_dark script past n legal complete)
          | inr none ↦ (let none' : is_complete 3 n p ≡ false = same n ∙ none in short (is_complete 3 n p) _ _ none')
        ]
      where
        short : (c a b : Bool) → c ≡ false → ((c && a) && b) ≡ false
        short true a b h = absurd (false≢true (sym h))
        short false a b h = refl

pub no_shutter_kept : (script : Script) (past : List Entry) → IsLegal script past → keeps_in_session 3 (hal script past) NoShutter ≡ true
no_shutter_kept script past legal = kept (no_shutter 3) script rule past legal
  where
    rule : ForbidsNone (no_shutter 3) script
    rule (FlushEnded past w legal is yes') = none_dark script past FlushOk (hal script past) legal (λ n. refl) (λ n. refl)
    rule (CloseEnded past w legal is no') = none_dark script past CloseEnd (CloseBegin ∷ hal script past) legal (λ n. refl) (λ n. refl)
    rule (CloseEndedAfter past w legal is yes') = none_dark script past CloseEnd (CloseBegin ∷ (FlushOk ∷ hal script past)) legal (λ n. refl) (λ n. refl)
    rule (CalledBack past (Shutter n time) legal may) = refl
    rule _ = refl

-- ---- a call returns once

pub ends-once : (script : Script) (past : List Entry) → IsLegal script past → keeps_with ends_again (hal script past) ≡ true
ends-once script past legal = kept ends_again script rule past legal
  where
    rule : ForbidsNone ends_again script
    rule (RequestEnded past n r i same targets legal) = rw (eq-eqb n.0 n.0 refl) refl
    rule (CalledBack past (Shutter n time) legal may) = refl
    rule _ = refl
