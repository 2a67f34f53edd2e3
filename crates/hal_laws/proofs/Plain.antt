-- The rules that each event of a trace's log keeps, whatever stands before it.
use Rattle.std.proofs.Common.{◌≡◌, true, false, List, refl}
use Rattle.cam_types.specs.declared.script.Script.{Script}
use Rattle.trace_model.specs.declared.entry.Entry.{Entry}
use Rattle.trace_model.specs.declared.entry.Entry.TheVariants.{Shutter}
use Rattle.trace_model.specs.Legal.{IsLegal}
use Rattle.hal_model.specs.declared.rule.Rule.TheVariants.{AcceptedInitTwice, AcquireFence, BufferStatus, EmptyResult, InitTwice, RefusedAfterCallback, RefusedRequest}
use Rattle.hal_model.specs.Callbacks.{acquire_fence, buffer_status, empty_result}
use Rattle.hal_model.specs.Device.{accepted_init_twice, refused_after_callback, refused_request}
use Rattle.hal_model.specs.Framework.{init_twice}
use Rattle.hal_model.specs.Hal.{hal}
use Rattle.hal_model.specs.Rules.{keeps_in_session}
use Rattle.hal_laws.proofs.Comes.{CalledBack, Comes, before_it, event, kept, passes_now}

record KeepsPlain (script : Script) (c : Comes script) : Type 0 where
  inits : passes_now init_twice (event c) (before_it c) ≡ false
  refusals : passes_now (refused_request 3) (event c) (before_it c) ≡ false
  late_refusals : passes_now refused_after_callback (event c) (before_it c) ≡ false
  accepted_inits : passes_now accepted_init_twice (event c) (before_it c) ≡ false
  results : passes_now empty_result (event c) (before_it c) ≡ false
  fences : passes_now acquire_fence (event c) (before_it c) ≡ false
  statuses : passes_now buffer_status (event c) (before_it c) ≡ false

keeps_plain : (script : Script) (c : Comes script) → KeepsPlain script c
keeps_plain script (CalledBack past (Shutter n time) legal may) = record { inits = refl; refusals = refl; late_refusals = refl; accepted_inits = refl; results = refl; fences = refl; statuses = refl }
keeps_plain script _ = record { inits = refl; refusals = refl; late_refusals = refl; accepted_inits = refl; results = refl; fences = refl; statuses = refl }

pub init_twice_kept : (script : Script) (past : List Entry) → IsLegal script past → keeps_in_session 3 (hal script past) InitTwice ≡ true
init_twice_kept script past legal = kept init_twice script (λ c. (keeps_plain script c).inits) past legal

pub refused_request_kept : (script : Script) (past : List Entry) → IsLegal script past → keeps_in_session 3 (hal script past) RefusedRequest ≡ true
refused_request_kept script past legal = kept (refused_request 3) script (λ c. (keeps_plain script c).refusals) past legal

pub refused_after_kept : (script : Script) (past : List Entry) → IsLegal script past → keeps_in_session 3 (hal script past) RefusedAfterCallback ≡ true
refused_after_kept script past legal = kept refused_after_callback script (λ c. (keeps_plain script c).late_refusals) past legal

pub accepted_init_twice_kept : (script : Script) (past : List Entry) → IsLegal script past → keeps_in_session 3 (hal script past) AcceptedInitTwice ≡ true
accepted_init_twice_kept script past legal = kept accepted_init_twice script (λ c. (keeps_plain script c).accepted_inits) past legal

pub empty_result_kept : (script : Script) (past : List Entry) → IsLegal script past → keeps_in_session 3 (hal script past) EmptyResult ≡ true
empty_result_kept script past legal = kept empty_result script (λ c. (keeps_plain script c).results) past legal

pub acquire_fence_kept : (script : Script) (past : List Entry) → IsLegal script past → keeps_in_session 3 (hal script past) AcquireFence ≡ true
acquire_fence_kept script past legal = kept acquire_fence script (λ c. (keeps_plain script c).fences) past legal

pub buffer_status_kept : (script : Script) (past : List Entry) → IsLegal script past → keeps_in_session 3 (hal script past) BufferStatus ≡ true
buffer_status_kept script past legal = kept buffer_status script (λ c. (keeps_plain script c).statuses) past legal
