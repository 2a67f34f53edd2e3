-- A request with more than four targets ends as one without a target does.
use Rattle.std.proofs.Common.{◌≡◌, ℕ, ◌<◌, ◌≤◌, Bool, true, false, ◌||◌, if◌then◌else◌, List, [], ◌++◌, length, map, nat_lt, Option, Some, None, option_to_list, refl, sym, ◌∙◌, arith, length-append}
use Rattle.std.proofs.lemmas.Bool.{lt-ltb}
use Rattle.std.proofs.lemmas.List.{length-map}
use Rattle.cam_types.specs.Four.{four_list}
use Rattle.cam_types.specs.declared.four.Four.{Four}
use Rattle.cam_types.specs.declared.item.Settings.{Settings}
use Rattle.device_core.specs.Stored.{spec_of}
use Rattle.hal_device_c.proofs.Few.{many-bad}
use Rattle.hal_device_c.specs.Records.{target_of}
use Rattle.hal_device_c.specs.declared.records.TargetRecord.{TargetRecord}
use Rattle.hal_device_model.specs.Calls.{are_bad_settings, are_bad_targets, is_early, is_malformed, is_over, request_error, settings_of}
use Rattle.hal_device_model.specs.Log.{Request, after_call, unless}
use Rattle.hal_device_model.specs.State.{HalDeviceState, streams_in}
use Rattle.hal_device_model.specs.declared.error.CallError.{CallError}
use Rattle.hal_device_model.specs.declared.error.CallError.TheVariants.{InvalidArgument, NoDevice, WrongSequence}
use Rattle.hal_model.specs.declared.event.HalTarget.{HalTarget}
use Rattle.basic_lemmas.proofs.Options.{one-each}

four-few : {X : Type 0} (f : Four X) → length (four_list f) ≤ 4
four-few f =
    let a = one-each f.a in let b = one-each f.b in let c = one-each f.c in let d = one-each f.d in
    omega (
      arith,
      length-append (option_to_list f.a) (option_to_list f.b ++ (option_to_list f.c ++ option_to_list f.d)),
      length-append (option_to_list f.b) (option_to_list f.c ++ option_to_list f.d),
      length-append (option_to_list f.c) (option_to_list f.d),
    )

streams-few : (state : HalDeviceState) → length (streams_in state) ≤ 4
streams-few state =
    let few = four-few state.device.plan.streams in
    omega (arith, length-map (four_list state.device.plan.streams) spec_of)

-- a part of a disjunction that is true
malformed : (early bad settings : Bool) → bad ≡ true → (early || (bad || settings)) ≡ true
malformed true bad settings h = refl
malformed false true settings h = refl
malformed false false settings h = absurd (cc)

-- the error of a request that is malformed, whatever it would wait for
abbrev error-if : Bool → Bool → Bool → Option CallError → Option CallError
error-if over early bad waits =
    if over then Some NoDevice else (if early then Some WrongSequence else (if bad then Some InvalidArgument else waits))

same-end : (over early bad other : Bool) (waits delays : Option CallError) → bad ≡ true → other ≡ true
    → error-if over early bad waits ≡ error-if over early other delays
same-end over early true true waits delays h g = by over early
  where
    by : (o e : Bool) → error-if o e true waits ≡ error-if o e true delays
    by true e = refl
    by false true = refl
    by false false = refl
same-end over early false other waits delays h g = absurd (cc)
same-end over early true false waits delays h g = absurd (cc)

stays-if : (over early bad : Bool) (waits : Option CallError) (after state : HalDeviceState) → bad ≡ true
    → unless (error-if over early bad waits) after state ≡ state
stays-if true early bad waits after state h = refl
stays-if false true bad waits after state h = refl
stays-if false false true waits after state h = refl
stays-if false false false waits after state h = absurd (cc)

module _ (n : ℕ) (settings : Option Settings) (targets : List HalTarget) (state : HalDeviceState) (many : nat_lt 4 (length targets) ≡ true) where
  bad : are_bad_targets (length (streams_in state)) targets ≡ true
  bad = many-bad (length (streams_in state)) targets (streams-few state) many

  is-malformed : is_malformed n settings targets state ≡ true
  is-malformed = malformed (nat_lt n state.next) (are_bad_targets (length (streams_in state)) targets) (are_bad_settings (settings_of settings state.last)) bad

  none-malformed : is_malformed n settings [] state ≡ true
  none-malformed = malformed (nat_lt n state.next) true (are_bad_settings (settings_of settings state.last)) refl

  pub many-error : request_error n settings [] state ≡ request_error n settings targets state
  many-error = same-end (is_over state) (is_early state) (is_malformed n settings [] state) (is_malformed n settings targets state) _ _ none-malformed is-malformed

  pub many-state : after_call (Request n settings []) state ≡ after_call (Request n settings targets) state
  many-state =
      stays-if (is_over state) (is_early state) (is_malformed n settings [] state) _ _ state none-malformed
      ∙ sym (stays-if (is_over state) (is_early state) (is_malformed n settings targets state) _ _ state is-malformed)

pub many-mapped : (targets : List TargetRecord) → 4 < length targets → nat_lt 4 (length (map target_of targets)) ≡ true
many-mapped targets h = lt-ltb 4 (length (map target_of targets)) (omega (arith, length-map targets target_of))
