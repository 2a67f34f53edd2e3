-- What the words on calls and configurations say of the log of a trace.
use Rattle.std.proofs.Common.{◌≡◌, ℕ, Bool, true, false, ◌&&◌, ◌||◌, not, List, [], ◌∷◌, ◌++◌, Option, Some, None, if◌then◌else◌, refl, sym, ap, ◌∙◌, inl, inr, is_some, map}
use Rattle.std.specs.List.{list_all, list_any}
use Rattle.std.specs.Option.{option_to_list}
use Rattle.std.proofs.lemmas.Bool.{and_parts, cases_Bool, false≢true, not-true, or_parts}
use Rattle.basic_lemmas.proofs.Tests.{or-false, passed-where}
use Rattle.cam_types.specs.Four.{four_list}
use Rattle.cam_types.specs.declared.reply.Reply.{Reply}
use Rattle.cam_types.specs.declared.reply.Reply.TheVariants.{Configured}
use Rattle.cam_types.specs.declared.script.Command.{Command}
use Rattle.cam_types.specs.declared.script.Script.{Script}
use Rattle.cam_types.specs.declared.script.Word.{Word}
use Rattle.cam_types.specs.declared.script.Word.TheVariants.{Flush as WordFlush, Disconnect as WordDisconnect}
use Rattle.trace_model.specs.declared.entry.Entry.{Entry}
use Rattle.trace_model.specs.declared.entry.Entry.TheVariants.{Begin, Call, Send, Shutter, ErrorDevice}
use Rattle.trace_model.specs.Calls.{accepts as accepts_word, begun, command_at, is_closed, is_closing_word, is_waiting_command, next_command, word_of}
use Rattle.trace_model.specs.Client.{begin_of}
use Rattle.trace_model.specs.Configuration.{is_configured, streams, streams_of}
use Rattle.trace_model.specs.Errors.{may_fail_device, may_fail_device_at}
use Rattle.trace_model.specs.Frames.{frames}
use Rattle.trace_model.specs.Legal.{IsLegal}
use Rattle.trace_model.specs.Send.{last_settings}
use Rattle.trace_model.specs.Stopping.{has_failed, is_stopping, stops_by}
use Rattle.hal_model.specs.declared.event.HalEvent.{HalEvent}
use Rattle.hal_model.specs.declared.event.HalEvent.TheVariants.{ConfigureBegin, ConfigureOk, RequestBegin, RequestOk, FlushBegin, FlushOk, CloseBegin, CloseEnd}
use Rattle.hal_model.specs.declared.event.HalStream.{HalStream}
use Rattle.hal_model.specs.declared.event.HalTarget.{HalTarget}
use Rattle.hal_model.specs.declared.event.StreamMax.{StreamMax}
use Rattle.hal_model.specs.Words.{before, begins_close, begins_configure, begins_flush, ends_close, ends_configure, inited, inits, is_configured as hal_configured, is_dead, is_death, is_flushing, is_in_other_call, is_initialized, is_settings_known, is_within, most, opened, opens, streams as hal_streams, templated, templates}
use Rattle.hal_model.specs.Hal.{callback, called, closed_by, configured_by, flush_begun, flushes, hal, initialized, most_from, streams_from, target}
use Rattle.hal_laws.proofs.Cases.{by-called, flushes_by}
use Rattle.hal_laws.proofs.Keep.{any-append, begun-other, by-begin, called-other, is_other}
use Rattle.basic_lemmas.proofs.Lists.{any-appended}

-- ---- closed, configured

closed_any : (p : HalEvent → Bool) (b c : Bool) (hs : List HalEvent) (x : Bool) → list_any p (CloseEnd ∷ (CloseBegin ∷ [])) ≡ true → p FlushOk ≡ false → list_any p hs ≡ x → list_any p ((closed_by b ++ ((if c then FlushOk ∷ [] else []) ++ hs))) ≡ (b || x)
closed_any p true c hs x close flush rest = yes (p CloseEnd) (p CloseBegin) _ close
  where
    yes : (a b c : Bool) → (a || (b || false)) ≡ true → (a || (b || c)) ≡ true
    yes true b c h = refl
    yes false true c h = refl
    yes false false c h = absurd (false≢true h)
closed_any p false true hs x close flush rest = rw flush rest
closed_any p false false hs x close flush rest = rest

configured_none : (p : HalEvent → Bool) (script : Script) (i : ℕ) (reply : Reply) → ((m : Option ℕ) (ss : List HalStream) → p (ConfigureBegin m ss) ≡ false) → ((ms : List StreamMax) → p (ConfigureOk ms) ≡ false) → list_any p (configured_by script i reply) ≡ false
configured_none p script i (Configured each) h k = rw (k _, h None _) refl
configured_none p script i _ h k = refl

begin_none : (p : HalEvent → Bool) (word : Word) (past : List Entry) → p FlushBegin ≡ false → list_any p (flush_begun word past) ≡ false
begin_none p word past h = by-begin (λ hs. list_any p hs ≡ false) word past (rw h refl) refl

pub close-begun : (script : Script) (past : List Entry) → list_any begins_close (hal script past) ≡ is_closed past
close-begun script [] = refl
close-begun script (Begin w ∷ past) = any-append begins_close (flush_begun w past) (hal script past) (begin_none begins_close w past refl) ∙ close-begun script past
close-begun script (Call i w r ∷ past) =
    any-appended begins_close (called script past i w r) (hal script past) ∙
    rw (closed_any begins_close (accepts_word is_closing_word (Call i w r)) (flushes w past) (configured_by script i r) false refl refl (configured_none begins_close script i r (λ m ss. refl) (λ ms. refl)), close-begun script past)
    (ap (λ b. b || is_closed past) (or-false (accepts_word is_closing_word (Call i w r))))
close-begun script (Send n r i same targets ∷ past) = close-begun script past
close-begun script (e ∷ past) = close-begun script past

pub close-ended : (script : Script) (past : List Entry) → list_any ends_close (hal script past) ≡ is_closed past
close-ended script [] = refl
close-ended script (Begin w ∷ past) = any-append ends_close (flush_begun w past) (hal script past) (begin_none ends_close w past refl) ∙ close-ended script past
close-ended script (Call i w r ∷ past) =
    any-appended ends_close (called script past i w r) (hal script past) ∙
    rw (closed_any ends_close (accepts_word is_closing_word (Call i w r)) (flushes w past) (configured_by script i r) false refl refl (configured_none ends_close script i r (λ m ss. refl) (λ ms. refl)), close-ended script past)
    (ap (λ b. b || is_closed past) (or-false (accepts_word is_closing_word (Call i w r))))
close-ended script (Send n r i same targets ∷ past) = close-ended script past
close-ended script (e ∷ past) = close-ended script past

-- what a configuration leaves, whichever of its words is read
pub call_reads : {X : Type 0} (f : List HalEvent → X) (x : X) (b c : Bool) (hs p : List HalEvent) → ((q : List HalEvent) → f (CloseEnd ∷ (CloseBegin ∷ q)) ≡ f q) → ((q : List HalEvent) → f (FlushOk ∷ q) ≡ f q) → f (hs ++ p) ≡ x → f ((closed_by b ++ ((if c then FlushOk ∷ [] else []) ++ hs)) ++ p) ≡ x
call_reads f x true true hs p close flush h = close (FlushOk ∷ (hs ++ p)) ∙ flush (hs ++ p) ∙ h
call_reads f x true false hs p close flush h = close (hs ++ p) ∙ h
call_reads f x false true hs p close flush h = flush (hs ++ p) ∙ h
call_reads f x false false hs p close flush h = h

pub begin_reads : {X : Type 0} (f : List HalEvent → X) (x : X) (word : Word) (past : List Entry) (p : List HalEvent) → ((q : List HalEvent) → f (FlushBegin ∷ q) ≡ f q) → f p ≡ x → f (flush_begun word past ++ p) ≡ x
begin_reads f x word past p flush h = by-begin (λ hs. f (hs ++ p) ≡ x) word past (flush p ∙ h) h

pub configured-reads : (script : Script) (past : List Entry) → hal_configured (hal script past) ≡ is_configured past
configured-reads script [] = refl
configured-reads script (Begin w ∷ past) = begin_reads hal_configured (is_configured past) w past (hal script past) (λ q. refl) (configured-reads script past)
configured-reads script (Call i w (Configured each) ∷ past) = call_reads hal_configured true (accepts_word is_closing_word (Call i w (Configured each))) (flushes w past) (configured_by script i (Configured each)) (hal script past) (λ q. refl) (λ q. refl) refl
configured-reads script (Call i w r ∷ past) = call_reads hal_configured (is_configured past) (accepts_word is_closing_word (Call i w r)) (flushes w past) [] (hal script past) (λ q. refl) (λ q. refl) (configured-reads script past)
configured-reads script (Send n r i same targets ∷ past) = configured-reads script past
configured-reads script (e ∷ past) = configured-reads script past

pub streams-read : (script : Script) (past : List Entry) → hal_streams (hal script past) ≡ streams_from 0 (streams script past)
streams-read script [] = refl
streams-read script (Begin w ∷ past) = begin_reads hal_streams (streams_from 0 (streams script past)) w past (hal script past) (λ q. refl) (streams-read script past)
streams-read script (Call i w (Configured each) ∷ past) = call_reads hal_streams (streams_from 0 (streams_of (command_at script i))) (accepts_word is_closing_word (Call i w (Configured each))) (flushes w past) (configured_by script i (Configured each)) (hal script past) (λ q. refl) (λ q. refl) refl
streams-read script (Call i w r ∷ past) = call_reads hal_streams (streams_from 0 (streams script past)) (accepts_word is_closing_word (Call i w r)) (flushes w past) [] (hal script past) (λ q. refl) (λ q. refl) (streams-read script past)
streams-read script (Send n r i same targets ∷ past) = streams-read script past
streams-read script (e ∷ past) = streams-read script past

pub most-reads : (script : Script) (past : List Entry) → most (hal script past) ≡ most_from script.profile 0 (streams script past)
most-reads script [] = refl
most-reads script (Begin w ∷ past) = begin_reads most (most_from script.profile 0 (streams script past)) w past (hal script past) (λ q. refl) (most-reads script past)
most-reads script (Call i w (Configured each) ∷ past) = call_reads most (most_from script.profile 0 (streams_of (command_at script i))) (accepts_word is_closing_word (Call i w (Configured each))) (flushes w past) (configured_by script i (Configured each)) (hal script past) (λ q. refl) (λ q. refl) refl
most-reads script (Call i w r ∷ past) = call_reads most (most_from script.profile 0 (streams script past)) (accepts_word is_closing_word (Call i w r)) (flushes w past) [] (hal script past) (λ q. refl) (λ q. refl) (most-reads script past)
most-reads script (Send n r i same targets ∷ past) = most-reads script past
most-reads script (e ∷ past) = most-reads script past

pub settings-known : (script : Script) (past : List Entry) → is_settings_known (hal script past) ≡ is_some (last_settings script past)
settings-known script [] = refl
settings-known script (Begin w ∷ past) = begin_reads is_settings_known (is_some (last_settings script past)) w past (hal script past) (λ q. refl) (settings-known script past)
settings-known script (Call i w (Configured each) ∷ past) = call_reads is_settings_known false (accepts_word is_closing_word (Call i w (Configured each))) (flushes w past) (configured_by script i (Configured each)) (hal script past) (λ q. refl) (λ q. refl) refl
settings-known script (Call i w r ∷ past) = call_reads is_settings_known (is_some (last_settings script past)) (accepts_word is_closing_word (Call i w r)) (flushes w past) [] (hal script past) (λ q. refl) (λ q. refl) (settings-known script past)
settings-known script (Send n r i same targets ∷ past) = refl
settings-known script (e ∷ past) = settings-known script past

-- ---- words that a trace's log never changes

-- what an initialized device's log is told at once
data Told : Type 0 where
  FlushBegun : Told
  FlushEnded : Told
  CloseCalled : Told
  ConfigureCalled : Option ℕ → List HalStream → List StreamMax → Told
  RequestCalled : ℕ → Bool → List HalTarget → Told
  CalledBack : Entry → Told

-- its events, the newest first
abbrev told : Told → List HalEvent
told FlushBegun = FlushBegin ∷ []
told FlushEnded = FlushOk ∷ []
told CloseCalled = CloseEnd ∷ (CloseBegin ∷ [])
told (ConfigureCalled m ss ms) = ConfigureOk ms ∷ (ConfigureBegin m ss ∷ [])
told (RequestCalled n same ts) = RequestOk n ∷ (RequestBegin n same ts false false ∷ [])
told (CalledBack e) = option_to_list (callback e)

-- a word that none of it changes
abbrev ReadsOn : {X : Type 0} → (List HalEvent → X) → Type 0
ReadsOn f = (t : Told) (q : List HalEvent) → f (told t ++ q) ≡ f q

reads_on : {X : Type 0} (f : List HalEvent → X) → ReadsOn f → (script : Script) (past : List Entry) → f (hal script past) ≡ f initialized
reads_on f on script [] = refl
reads_on f on script (Begin w ∷ past) = begin_reads f (f initialized) w past (hal script past) (λ q. on FlushBegun q) (reads_on f on script past)
reads_on f on script (Call i w (Configured each) ∷ past) = call_reads f (f initialized) (accepts_word is_closing_word (Call i w (Configured each))) (flushes w past) (configured_by script i (Configured each)) (hal script past) (λ q. on CloseCalled q) (λ q. on FlushEnded q) (on (ConfigureCalled None (streams_from 0 (streams_of (command_at script i))) (most_from script.profile 0 (streams_of (command_at script i)))) (hal script past) ∙ reads_on f on script past)
reads_on f on script (Call i w r ∷ past) = call_reads f (f initialized) (accepts_word is_closing_word (Call i w r)) (flushes w past) [] (hal script past) (λ q. on CloseCalled q) (λ q. on FlushEnded q) (reads_on f on script past)
reads_on f on script (Send n r i same targets ∷ past) = on (RequestCalled n.0 same (map target (four_list targets))) (hal script past) ∙ reads_on f on script past
reads_on f on script (e ∷ past) = on (CalledBack e) (hal script past) ∙ reads_on f on script past

-- whether the device is initialized, and which of the calls before that is out
record FirstCalls : Type 0 where
  initialized : Bool
  opening : Bool
  initing : Bool
  templating : Bool

abbrev first_calls : List HalEvent → FirstCalls
first_calls p = record {
  initialized = is_initialized p;
  opening = is_within opens opened p;
  initing = is_within inits inited p;
  templating = is_within templates templated p;
}

first_calls_stay : (script : Script) (past : List Entry) → first_calls (hal script past) ≡ first_calls initialized
first_calls_stay = reads_on first_calls on
  where
    on : ReadsOn first_calls
    on (CalledBack (Shutter n t)) q = refl
    on _ q = refl

pub initialized-always : (script : Script) (past : List Entry) → is_initialized (hal script past) ≡ true
initialized-always script past = ap (λ (c : FirstCalls). c.initialized) (first_calls_stay script past)

pub opening : (script : Script) (past : List Entry) → is_within opens opened (hal script past) ≡ false
opening script past = ap (λ (c : FirstCalls). c.opening) (first_calls_stay script past)

pub initing : (script : Script) (past : List Entry) → is_within inits inited (hal script past) ≡ false
initing script past = ap (λ (c : FirstCalls). c.initing) (first_calls_stay script past)

pub templating : (script : Script) (past : List Entry) → is_within templates templated (hal script past) ≡ false
templating script past = ap (λ (c : FirstCalls). c.templating) (first_calls_stay script past)

pub flushes-kept : (o : Option Word) (p q : List Entry) → is_closed p ≡ is_closed q → has_failed p ≡ has_failed q → is_configured p ≡ is_configured q → flushes_by o p ≡ flushes_by o q
flushes-kept None p q a b c = refl
flushes-kept (Some WordFlush) p q a b c = rw (a, b, c) refl
flushes-kept (Some WordDisconnect) p q a b c = rw (a, b) refl
flushes-kept (Some _) p q a b c = refl

stops_flush : (o : Option Word) (past : List Entry) → stops_by o ≡ false → flushes_by o past ≡ false
stops_flush None past h = refl
stops_flush (Some WordFlush) past h = absurd (false≢true (sym h))
stops_flush (Some WordDisconnect) past h = absurd (false≢true (sym h))
stops_flush (Some _) past h = refl

begin_fresh : (past : List Entry) (o : Option Command) (w : Word) → begin_of past o ≡ Some (Begin w) → is_some (begun past) ≡ false
begin_fresh past None w h = absurd (cc)
begin_fresh past (Some c) w h = not-true (is_some (begun past)) (and_parts (is_waiting_command c) (not (is_some (begun past))) (passed-where (is_waiting_command c && not (is_some (begun past))) (Begin (word_of c)) (Begin w) h)).1

none_flushes : (o : Option Word) (past : List Entry) → is_some o ≡ false → flushes_by o past ≡ false
none_flushes None past h = refl
none_flushes (Some w) past h = absurd (false≢true (sym h))

-- a flush runs in the log where the call that has begun flushes the device
pub flushing-reads : (script : Script) (past : List Entry) → IsLegal script past → is_flushing (hal script past) ≡ flushes_by (begun past) past
flushing-reads script [] legal = refl
flushing-reads script (Begin w ∷ past) legal =
    elim (cases_Bool (flushes w past)) [
      | inl yes' ↦ rw yes' (sym (flushes-kept (Some w) (Begin w ∷ past) past refl refl refl ∙ yes'))
      | inr no' ↦ rw no' (flushing-reads script past legal.1 ∙ (none_flushes (begun past) past (begin_fresh past (next_command script past) w legal.0) ∙ sym (flushes-kept (Some w) (Begin w ∷ past) past refl refl refl ∙ no')))
    ]
flushing-reads script (Call i w r ∷ past) legal =
    by-called (λ hs. is_flushing (hs ++ hal script past) ≡ false) script past i w r legal
    (record { none = λ no'. flushing-reads script past legal.1 ∙ no'; configure = λ specs is. flushing-reads script past legal.1 ∙ rw is.word refl; flush = λ is yes'. refl; close = λ v is no'. flushing-reads script past legal.1 ∙ rw is.word no'; disconnect = λ is yes'. refl })
flushing-reads script (Send n r i same targets ∷ past) legal = flushing-reads script past legal.1 ∙ flushes-kept (begun past) past (Send n r i same targets ∷ past) refl refl refl
flushing-reads script (ErrorDevice ∷ past) legal =
    let fails = passed-where (may_fail_device script past) ErrorDevice ErrorDevice legal.0 in
    let going = (and_parts (not (is_stopping past)) (list_any (may_fail_device_at script past) (frames past)) fails).0 in
    let stops = (or_parts (stops_by (begun past)) (has_failed past) (not-true (is_stopping past) going)).0 in
    flushing-reads script past legal.1 ∙ (stops_flush (begun past) past stops ∙ sym (stops_flush (begun past) (ErrorDevice ∷ past) stops))
flushing-reads script (e ∷ past) legal = flushing-reads script past legal.1 ∙ flushes-kept (begun past) past (e ∷ past) refl refl refl

-- ---- no other call is out

pub configuring : (script : Script) (past : List Entry) → is_within begins_configure ends_configure (hal script past) ≡ false
configuring script [] = refl
configuring script (Begin w ∷ past) = begin_reads (is_within begins_configure ends_configure) false w past (hal script past) (λ q. refl) (configuring script past)
configuring script (Call i w (Configured each) ∷ past) = call_reads (is_within begins_configure ends_configure) false (accepts_word is_closing_word (Call i w (Configured each))) (flushes w past) (configured_by script i (Configured each)) (hal script past) (λ q. refl) (λ q. refl) refl
configuring script (Call i w r ∷ past) = call_reads (is_within begins_configure ends_configure) false (accepts_word is_closing_word (Call i w r)) (flushes w past) [] (hal script past) (λ q. refl) (λ q. refl) (configuring script past)
configuring script (Send n r i same targets ∷ past) = configuring script past
configuring script (e ∷ past) = configuring script past

closing_call : (b c : Bool) (hs p : List HalEvent) → is_within begins_close ends_close (hs ++ p) ≡ false → is_within begins_close ends_close ((closed_by b ++ ((if c then FlushOk ∷ [] else []) ++ hs)) ++ p) ≡ false
closing_call true c hs p h = refl
closing_call false true hs p h = h
closing_call false false hs p h = h

pub closing : (script : Script) (past : List Entry) → is_within begins_close ends_close (hal script past) ≡ false
closing script [] = refl
closing script (Begin w ∷ past) = begin_reads (is_within begins_close ends_close) false w past (hal script past) (λ q. refl) (closing script past)
closing script (Call i w (Configured each) ∷ past) = closing_call (accepts_word is_closing_word (Call i w (Configured each))) (flushes w past) (configured_by script i (Configured each)) (hal script past) (closing script past)
closing script (Call i w r ∷ past) = closing_call (accepts_word is_closing_word (Call i w r)) (flushes w past) [] (hal script past) (closing script past)
closing script (Send n r i same targets ∷ past) = closing script past
closing script (e ∷ past) = closing script past

pub not-in-call : (script : Script) (past : List Entry) → is_flushing (hal script past) ≡ false → is_in_other_call (hal script past) ≡ false
not-in-call script past still = rw (opening script past, initing script past, templating script past, still, closing script past) refl

-- ---- the device

no_death : (h : HalEvent) (p : List HalEvent) → is_other h ≡ true → is_death h p ≡ false
no_death FlushBegin p h = refl
no_death FlushOk p h = refl
no_death CloseBegin p h = refl
no_death CloseEnd p h = refl
no_death (ConfigureBegin m ss) p h = refl
no_death (ConfigureOk ms) p h = refl
no_death _ p h = absurd (false≢true h)

dead-append : (hs p : List HalEvent) → list_all is_other hs ≡ true → is_dead (hs ++ p) ≡ is_dead p
dead-append [] p all = refl
dead-append (h ∷ hs) p all =
    let parts = and_parts (is_other h) (list_all is_other hs) all in
    rw (no_death h (hs ++ p) parts.0) (dead-append hs p parts.1)

pub dead-reads : (script : Script) (past : List Entry) → is_dead (hal script past) ≡ has_failed past
dead-reads script [] = refl
dead-reads script (Begin w ∷ past) = dead-append (flush_begun w past) (hal script past) (begun-other w past) ∙ dead-reads script past
dead-reads script (Call i w r ∷ past) = dead-append (called script past i w r) (hal script past) (called-other script past i w r) ∙ dead-reads script past
dead-reads script (Send n r i same targets ∷ past) = dead-reads script past
dead-reads script (ErrorDevice ∷ past) = refl
dead-reads script (e ∷ past) = dead-reads script past

pub flushes-sound : (w : Word) (past : List Entry) → flushes w past ≡ true → has_failed past ≡ false
flushes-sound WordFlush past h = not-true (has_failed past) (and_parts (not (has_failed past)) (is_configured past) (and_parts (not (is_closed past)) (not (has_failed past) && is_configured past) h).1).0
flushes-sound WordDisconnect past h = not-true (has_failed past) (and_parts (not (is_closed past)) (not (has_failed past)) h).1
flushes-sound _ past h = absurd (false≢true h)

-- the device was initialized before the flush that runs began
pub initialized-before : (script : Script) (past : List Entry) → IsLegal script past → is_flushing (hal script past) ≡ true → is_initialized (before begins_flush (hal script past)) ≡ true
initialized-before script [] legal h = absurd (false≢true h)
initialized-before script (Begin w ∷ past) legal h =
    elim (cases_Bool (flushes w past)) [
      | inl yes' ↦ rw yes' (initialized-always script past)
      | inr no' ↦ (let h' = rw no' at h in rw no' (initialized-before script past legal.1 h'))
    ]
initialized-before script (Call i w r ∷ past) legal h =
    by-called (λ hs. is_flushing (hs ++ hal script past) ≡ true → is_initialized (before begins_flush (hs ++ hal script past)) ≡ true) script past i w r legal
    (record { none = λ no' k. initialized-before script past legal.1 k; configure = λ specs is k. initialized-before script past legal.1 k; flush = λ is yes' k. absurd (false≢true k); close = λ v is no' k. initialized-before script past legal.1 k; disconnect = λ is yes' k. absurd (false≢true k) }) h
initialized-before script (Send n r i same targets ∷ past) legal h = initialized-before script past legal.1 h
initialized-before script (e ∷ past) legal h = initialized-before script past legal.1 h

pub dead-before : (b : HalEvent → Bool) (hs : List HalEvent) → is_dead hs ≡ false → is_dead (before b hs) ≡ false
dead-before b [] h = refl
dead-before b (x ∷ hs) h =
    let parts = or_parts (is_death x hs) (is_dead hs) h in
    elim (cases_Bool (b x)) [ inl here ↦ rw here parts.1 | inr other ↦ rw other (dead-before b hs parts.1) ]
