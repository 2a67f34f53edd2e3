-- The lists of each event of a hal log are short.
use Rattle.std.proofs.Common.{◌≡◌, ℕ, ◌+◌, ◌≤◌, Bool, true, false, suc, List, [], ◌∷◌, ◌++◌, Option, Some, refl, ◌∙◌, ap, arith, inl, inr, length, map, nat_le}
use Rattle.std.specs.List.{list_all}
use Rattle.std.proofs.lemmas.Bool.{and_from, and_parts, cases_Bool}
use Rattle.std.proofs.lemmas.Bool.Decides.{nat_tests}
use Rattle.std.proofs.lemmas.List.Folds.{list_all-append}
use Rattle.cam_types.specs.Four.{four_list}
use Rattle.cam_types.specs.Script.{command_fits, is_valid, spec_fits}
use Rattle.cam_types.specs.declared.four.Four.{Four}
use Rattle.cam_types.specs.declared.profile.Profile.{Profile}
use Rattle.cam_types.specs.declared.reply.Reply.{Reply}
use Rattle.cam_types.specs.declared.reply.Reply.TheVariants.{Configured}
use Rattle.cam_types.specs.declared.script.Command.{Command}
use Rattle.cam_types.specs.declared.script.Command.TheVariants.{Configure}
use Rattle.cam_types.specs.declared.script.Script.{Script}
use Rattle.cam_types.specs.declared.script.Word.{Word}
use Rattle.cam_types.specs.declared.stream.StreamSpec.{StreamSpec}
use Rattle.trace_model.specs.declared.entry.Entry.{Entry}
use Rattle.trace_model.specs.declared.entry.Entry.TheVariants.{Begin, Call, Send}
use Rattle.trace_model.specs.Calls.{accepts, command_at, is_closing_word}
use Rattle.trace_model.specs.Configuration.{streams_of}
use Rattle.trace_laws.proofs.ValidLemmas.{valid}
use Rattle.hal_model.specs.declared.event.HalEvent.TheVariants.{OpenBegin}
use Rattle.hal_model.specs.Fits.{few, is_well_made}
use Rattle.hal_model.specs.Hal.{closed_by, configured, configured_by, events, flush_begun, flush_ended, flushes, hal, most_from, streams_from, target, whole_log}
use Rattle.basic_lemmas.proofs.Lists.{all-at}

length_streams : (s : ℕ) (specs : List StreamSpec) → length (streams_from s specs) ≡ length specs
length_streams s [] = refl
length_streams s (spec ∷ specs) = ap suc (length_streams (s + 1) specs)

length_most : (p : Profile) (s : ℕ) (specs : List StreamSpec) → length (most_from p s specs) ≡ length specs
length_most p s [] = refl
length_most p s (spec ∷ specs) = ap suc (length_most p (s + 1) specs)

specs_short : (script : Script) (o : Option Command) (i : ℕ) → list_all command_fits script.commands ≡ true → command_at script i ≡ o → few (streams_of o) ≡ true
specs_short script (Some (Configure specs)) i fit at = (and_parts (nat_le (length specs) 16) (list_all spec_fits specs) (all-at command_fits script.commands i (Configure specs) fit at)).0
specs_short script _ i fit at = refl

configured_short : (p : Profile) (specs : List StreamSpec) → few specs ≡ true → list_all is_well_made (configured p specs) ≡ true
configured_short p specs short =
    let streams : few (streams_from 0 specs) ≡ true = rw (length_streams 0 specs) short in
    let most : few (most_from p 0 specs) ≡ true = rw (length_most p 0 specs) short in
    rw (most, streams) refl

reply_short : (script : Script) (i : ℕ) (r : Reply) → list_all command_fits script.commands ≡ true → list_all is_well_made (configured_by script i r) ≡ true
reply_short script i (Configured each) fit = configured_short script.profile (streams_of (command_at script i)) (specs_short script (command_at script i) i fit refl)
reply_short script i _ fit = refl

begun_short : (w : Word) (past : List Entry) → list_all is_well_made (flush_begun w past) ≡ true
begun_short w past = elim (cases_Bool (flushes w past)) [ inl yes' ↦ rw yes' refl | inr no' ↦ rw no' refl ]

ended_short : (w : Word) (past : List Entry) → list_all is_well_made (flush_ended w past) ≡ true
ended_short w past = elim (cases_Bool (flushes w past)) [ inl yes' ↦ rw yes' refl | inr no' ↦ rw no' refl ]

closed_short : (closes : Bool) → list_all is_well_made (closed_by closes) ≡ true
closed_short true = refl
closed_short false = refl

few_targets : {T U : Type 0} (f : T → U) (four : Four T) → few (map f (four_list four)) ≡ true
few_targets f four = let l : length (map f (four_list four)) ≤ 4 = grind arith in grind (arith, nat_tests, l)

events_short : (script : Script) (past : List Entry) (e : Entry) → list_all command_fits script.commands ≡ true → list_all is_well_made (events script past e) ≡ true
events_short script past (Begin w) fit = begun_short w past
events_short script past (Call i w r) fit =
    let inner = list_all-append is_well_made (flush_ended w past) (configured_by script i r) ∙ and_from _ _ (ended_short w past) (reply_short script i r fit) in
    list_all-append is_well_made (closed_by (accepts is_closing_word (Call i w r))) (flush_ended w past ++ configured_by script i r) ∙ and_from _ _ (closed_short (accepts is_closing_word (Call i w r))) inner
events_short script past (Send n r i same targets) fit = rw (few_targets target targets) refl
events_short script past _ fit = refl

hal_short : (script : Script) (past : List Entry) → list_all command_fits script.commands ≡ true → list_all is_well_made (hal script past) ≡ true
hal_short script [] fit = refl
hal_short script (e ∷ past) fit = list_all-append is_well_made (events script past e) (hal script past) ∙ and_from _ _ (events_short script past e fit) (hal_short script past fit)

pub log_short : (script : Script) (past : List Entry) → is_valid script ≡ true → list_all is_well_made (whole_log script past) ≡ true
log_short script past h = list_all-append is_well_made (hal script past) (OpenBegin ∷ []) ∙ and_from _ _ (hal_short script past (valid script h).fit) refl
