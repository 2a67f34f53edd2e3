-- What comes to the log of a legal trace, one event after the other: a rule is kept where it forbids none of it.
use Rattle.std.proofs.Common.{◌≡◌, ℕ, Bool, true, false, List, [], ◌∷◌, ◌++◌, Option, Some, None, refl, inl, inr, map}
use Rattle.std.specs.Option.{option_to_list}
use Rattle.std.proofs.lemmas.Bool.{cases_Bool}
use Rattle.cam_types.specs.Four.{four_list}
use Rattle.cam_types.specs.declared.four.Four.{Four}
use Rattle.cam_types.specs.declared.number.FrameNo.{FrameNo}
use Rattle.cam_types.specs.declared.number.RequestId.{RequestId}
use Rattle.cam_types.specs.declared.script.Script.{Script}
use Rattle.cam_types.specs.declared.script.Word.{Word}
use Rattle.cam_types.specs.declared.script.Word.TheVariants.{Flush as WordFlush, Disconnect as WordDisconnect}
use Rattle.cam_types.specs.declared.stream.StreamSpec.{StreamSpec}
use Rattle.trace_model.specs.declared.entry.Entry.{Entry}
use Rattle.trace_model.specs.declared.entry.Entry.TheVariants.{Begin, Call, Send}
use Rattle.trace_model.specs.declared.entry.Sent.{Sent}
use Rattle.trace_model.specs.Allowed.{IsAllowed}
use Rattle.trace_model.specs.Legal.{IsLegal}
use Rattle.hal_model.specs.declared.event.HalEvent.{HalEvent}
use Rattle.hal_model.specs.declared.event.HalEvent.TheVariants.{ConfigureBegin, ConfigureOk, RequestBegin, RequestOk, FlushBegin, FlushOk, CloseBegin, CloseEnd, OpenOk, InitBegin, InitOk}
use Rattle.hal_model.specs.Rules.{keeps_with}
use Rattle.hal_model.specs.Hal.{callback, flushes, hal, most_from, streams_from, target}
use Rattle.hal_laws.proofs.Cases.{Configures, Ended, by-called}

abbrev pub ask : Four Sent → ℕ → Bool → HalEvent
ask targets n same = RequestBegin n same (map target (four_list targets)) false false

abbrev pub ask_configure : List StreamSpec → HalEvent
ask_configure specs = ConfigureBegin None (streams_from 0 specs)

-- an event that comes, by the step that brings it; a close begins and ends twice, alone or after a flush
pub data Comes (script : Script) : Type 0 where
  Opened : Comes script
  InitBegun : Comes script
  InitEnded : Comes script
  FlushBegun : (past : List Entry) (w : Word) → IsLegal script (Begin w ∷ past) → flushes w past ≡ true → Comes script
  RequestBegun : (past : List Entry) (n : FrameNo) (r : RequestId) (i : ℕ) (same : Bool) (targets : Four Sent) → IsLegal script (Send n r i same targets ∷ past) → Comes script
  RequestEnded : (past : List Entry) (n : FrameNo) (r : RequestId) (i : ℕ) (same : Bool) (targets : Four Sent) → IsLegal script (Send n r i same targets ∷ past) → Comes script
  ConfigureBegun : (past : List Entry) (specs : List StreamSpec) → IsLegal script past → Configures past specs → Comes script
  ConfigureEnded : (past : List Entry) (specs : List StreamSpec) → IsLegal script past → Configures past specs → Comes script
  FlushEnded : (past : List Entry) (w : Word) → IsLegal script past → Ended past w → flushes w past ≡ true → Comes script
  CloseBegun : (past : List Entry) (w : Word) → IsLegal script past → Ended past w → flushes w past ≡ false → Comes script
  CloseEnded : (past : List Entry) (w : Word) → IsLegal script past → Ended past w → flushes w past ≡ false → Comes script
  CloseBegunAfter : (past : List Entry) (w : Word) → IsLegal script past → Ended past w → flushes w past ≡ true → Comes script
  CloseEndedAfter : (past : List Entry) (w : Word) → IsLegal script past → Ended past w → flushes w past ≡ true → Comes script
  CalledBack : (past : List Entry) (e : Entry) → IsLegal script past → IsAllowed script past e → Comes script

-- the event: of an entry its callback, if it has one
abbrev pub event : {script : Script} → Comes script → Option HalEvent
event Opened = Some OpenOk
event InitBegun = Some InitBegin
event InitEnded = Some InitOk
event (FlushBegun past w legal yes') = Some FlushBegin
event (RequestBegun past n r i same targets legal) = Some (ask targets n.0 same)
event (RequestEnded past n r i same targets legal) = Some (RequestOk n.0)
event (ConfigureBegun past specs legal is) = Some (ask_configure specs)
event {script} (ConfigureEnded past specs legal is) = Some (ConfigureOk (most_from script.profile 0 specs))
event (FlushEnded past w legal is yes') = Some FlushOk
event (CloseBegun past w legal is no') = Some CloseBegin
event (CloseEnded past w legal is no') = Some CloseEnd
event (CloseBegunAfter past w legal is yes') = Some CloseBegin
event (CloseEndedAfter past w legal is yes') = Some CloseEnd
event (CalledBack past e legal may) = callback e

-- the log before it
abbrev pub before_it : {script : Script} → Comes script → List HalEvent
before_it Opened = []
before_it InitBegun = OpenOk ∷ []
before_it InitEnded = InitBegin ∷ (OpenOk ∷ [])
before_it {script} (FlushBegun past w legal yes') = hal script past
before_it {script} (RequestBegun past n r i same targets legal) = hal script past
before_it {script} (RequestEnded past n r i same targets legal) = ask targets n.0 same ∷ hal script past
before_it {script} (ConfigureBegun past specs legal is) = hal script past
before_it {script} (ConfigureEnded past specs legal is) = ask_configure specs ∷ hal script past
before_it {script} (FlushEnded past w legal is yes') = hal script past
before_it {script} (CloseBegun past w legal is no') = hal script past
before_it {script} (CloseEnded past w legal is no') = CloseBegin ∷ hal script past
before_it {script} (CloseBegunAfter past w legal is yes') = FlushOk ∷ hal script past
before_it {script} (CloseEndedAfter past w legal is yes') = CloseBegin ∷ (FlushOk ∷ hal script past)
before_it {script} (CalledBack past e legal may) = hal script past

abbrev pub passes_now : (HalEvent → List HalEvent → Bool) → Option HalEvent → List HalEvent → Bool
passes_now test None p = false
passes_now test (Some h) p = test h p

-- the rule forbids nothing of what comes
abbrev pub ForbidsNone : (HalEvent → List HalEvent → Bool) → Script → Type 0
ForbidsNone test script = (c : Comes script) → passes_now test (event c) (before_it c) ≡ false

now_kept : (test : HalEvent → List HalEvent → Bool) (o : Option HalEvent) (p : List HalEvent) → passes_now test o p ≡ false → keeps_with test p ≡ true → keeps_with test (option_to_list o ++ p) ≡ true
now_kept test None p broken kept = kept
now_kept test (Some h) p broken kept = rw broken kept

pub kept : (test : HalEvent → List HalEvent → Bool) (script : Script) → ForbidsNone test script → (past : List Entry) → IsLegal script past → keeps_with test (hal script past) ≡ true
kept test script rule [] legal = rw (rule InitEnded, rule InitBegun, rule Opened) refl
kept test script rule (Begin w ∷ past) legal =
    let ih = kept test script rule past legal.1 in
    elim (cases_Bool (flushes w past)) [
      | inl yes' ↦ rw yes' (rw (rule (FlushBegun past w legal yes')) ih)
      | inr no' ↦ rw no' ih
    ]
kept test script rule (Call i w r ∷ past) legal =
    let ih = kept test script rule past legal.1 in
    by-called (λ hs. keeps_with test (hs ++ hal script past) ≡ true) script past i w r legal
    (record {
      none = λ no'. ih;
      configure = λ specs is. rw (rule (ConfigureEnded past specs legal.1 is), rule (ConfigureBegun past specs legal.1 is)) ih;
      flush = λ is yes'. rw (rule (FlushEnded past WordFlush legal.1 is yes')) ih;
      close = λ v is no'. rw (rule (CloseEnded past v legal.1 is no'), rule (CloseBegun past v legal.1 is no')) ih;
      disconnect = λ is yes'. rw (rule (CloseEndedAfter past WordDisconnect legal.1 is yes'), rule (CloseBegunAfter past WordDisconnect legal.1 is yes'), rule (FlushEnded past WordDisconnect legal.1 is yes')) ih;
    })
kept test script rule (Send n r i same targets ∷ past) legal =
    rw (rule (RequestEnded past n r i same targets legal), rule (RequestBegun past n r i same targets legal)) (kept test script rule past legal.1)
kept test script rule (e ∷ past) legal =
    now_kept test (callback e) (hal script past) (rule (CalledBack past e legal.1 legal.0)) (kept test script rule past legal.1)
