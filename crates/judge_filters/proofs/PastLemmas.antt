-- Each definition by recursion on the past, as a search in it.
use Rattle.std.proofs.Common.{◌≡◌, ℕ, ◌+◌, ◌==◌, Bool, true, false, ◌&&◌, ◌||◌, List, [], ◌∷◌, ◌++◌, Option, Some, None, refl, sym, ◌∙◌, ap, arith, count_by, reverse, find, option_to_list, inl, inr}
use Rattle.std.specs.List.{list_any, list_all}
use Rattle.std.proofs.lemmas.Grind.{common_steps}
use Rattle.std.proofs.lemmas.Bool.{cases_Bool}
use Rattle.cam_types.specs.declared.reply.Reply.TheVariants.{Ok, Submitted, Configured, Refused}
use Rattle.cam_types.specs.declared.script.Script.{Script}
use Rattle.trace_model.specs.declared.entry.Entry.{Entry}
use Rattle.trace_model.specs.declared.entry.Entry.TheVariants.{Begin, Call, Shutter}
use Rattle.trace_model.specs.Calls.{begun, command_of, submits}
use Rattle.trace_model.specs.Configuration.{streams, made, configures}
use Rattle.trace_model.specs.Entry.{is_shutter}
use Rattle.trace_model.specs.Frames.{shutter_time}
use Rattle.judge_filters.specs.Past.{is_begin_or_call, begun_in, command_in, streams_in, made_in, time_in}

pub begun_found : (past : List Entry) → begun past ≡ begun_in (find is_begin_or_call past)
begun_found [] = refl
begun_found (Begin word ∷ past) = refl
begun_found (Call i w r ∷ past) = refl
begun_found (e ∷ past) = begun_found past

pub command_found : (script : Script) (past : List Entry) (r : ℕ) → command_of script past r ≡ command_in script (find (submits r) past)
command_found script [] r = refl
command_found script (Call i w (Submitted q) ∷ past) r =
    elim (cases_Bool (q.0 == r)) [
      | inl e ↦ rw e refl
      | inr n ↦ rw n (command_found script past r)
    ]
command_found script (Call i w Ok ∷ past) r = command_found script past r
command_found script (Call i w (Configured each) ∷ past) r = command_found script past r
command_found script (Call i w (Refused a b c) ∷ past) r = command_found script past r
command_found script (e ∷ past) r = command_found script past r

pub streams_found : (script : Script) (past : List Entry) → streams script past ≡ streams_in script (find configures past)
streams_found script [] = refl
streams_found script (Call i w (Configured each) ∷ past) = refl
streams_found script (Call i w Ok ∷ past) = streams_found script past
streams_found script (Call i w (Submitted q) ∷ past) = streams_found script past
streams_found script (Call i w (Refused a b c) ∷ past) = streams_found script past
streams_found script (e ∷ past) = streams_found script past

pub made_found : (past : List Entry) → made past ≡ made_in (find configures past)
made_found [] = refl
made_found (Call i w (Configured each) ∷ past) = refl
made_found (Call i w Ok ∷ past) = made_found past
made_found (Call i w (Submitted q) ∷ past) = made_found past
made_found (Call i w (Refused a b c) ∷ past) = made_found past
made_found (e ∷ past) = made_found past

pub shutter_found : (n : ℕ) (past : List Entry) → shutter_time n past ≡ time_in (find (is_shutter n) past)
shutter_found n [] = refl
shutter_found n (Shutter m time ∷ past) =
    elim (cases_Bool (m.0 == n)) [
      | inl e ↦ rw e refl
      | inr ne ↦ rw ne (shutter_found n past)
    ]
shutter_found n (e ∷ past) = shutter_found n past
