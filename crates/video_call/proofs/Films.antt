-- The film of a legal trace: its pictures can be drawn, and they are those of the trace's digests.
use Rattle.std.proofs.Common.{◌≡◌, ℕ, zero, suc, ◌==◌, true, List, [], ◌∷◌, Option, Some, None, refl, sym, ap, subst, ◌∙◌, slice_get, eqb-true, inl, inr}
use Rattle.std.specs.Prelude.{option_to_list}
use Rattle.std.specs.List.{list_all}
use Rattle.std.proofs.lemmas.Bool.{and_parts, cases_Bool}
use Rattle.sha2.specs.Sha256.{sha256}
use Rattle.basic_lemmas.proofs.Lists.{all-append}
use Rattle.trace_laws.proofs.Early.{given}
use Rattle.trace_laws.proofs.Returns.{filled-back}
use Rattle.trace_laws.proofs.BufferSends.{out-sent}
use Rattle.cam_types.specs.Metadata.{range_fault}
use Rattle.cam_types.specs.declared.item.Settings.{Settings}
use Rattle.cam_types.specs.declared.number.FrameNo.{FrameNo}
use Rattle.cam_types.specs.declared.number.StreamIx.{StreamIx}
use Rattle.cam_types.specs.declared.script.Script.{Script}
use Rattle.cam_types.specs.declared.stream.StreamSpec.{StreamSpec}
use Rattle.judge_rules.specs.Fills.{early_in}
use Rattle.run_rows.proofs.Ranges.{sent-range}
use Rattle.service_state.proofs.Fitting.{offered_streams}
use Rattle.video_call.specs.Film.{brought, film, shot_for, shot_on}
use Rattle.video_call.specs.declared.shot.Shot.{Shot}
use Rattle.trace_laws.proofs.Shapes.{filled-is, late-is}
use Rattle.trace_model.specs.declared.entry.Entry.{Entry}
use Rattle.trace_model.specs.declared.entry.Entry.TheVariants.{Begin, Call, Send, Dropped, Shutter, Partial, Filled, Failed, ErrorRequest, ErrorResult, ErrorBuffer, ErrorDevice, Release, Signal, Early, Late}
use Rattle.trace_model.specs.Configuration.{streams}
use Rattle.trace_model.specs.Frames.{is_sent, settings_of}
use Rattle.trace_model.specs.Legal.{IsLegal}
use Rattle.trace_model.specs.Picture.{digest, digest_of, digest_on}
use Rattle.video_call.specs.Digests.{digest_in}
use Rattle.video_call.specs.Drawing.{are_drawable, is_drawable}
use Rattle.video_call.specs.Shows.{bytes_of}
use Rattle.service_state.proofs.Shown.{all-at}

-- ---- what an entry brings

-- the frame whose picture is there was sent, and the entry's digest is its picture's
pub record Brings (script : Script) (past : List Entry) (e : Entry) (target : FrameNo × StreamIx) : Type 0 where
  pub sent : is_sent target.0.0 past ≡ true
  pub told : digest_in e ≡ digest_of script past target.0.0 target.1.0

pub brings : (script : Script) (past : List Entry) (e : Entry) (target : FrameNo × StreamIx) → IsLegal script (e ∷ past) → brought past e ≡ Some target → Brings script past e target
brings script past (Filled n t b f x) target legal at =
    let is = filled-is script past n t b f x legal.0 in
    let back = filled-back script past n t b f x legal.0 in
    let same : (n, t) ≡ target = cc in
    let here : Brings script past (Filled n t b f x) (n, t) = record { sent = out-sent past n.0 t.0 b.0 back.out; told = is.5 } in
    subst (λ (k : FrameNo × StreamIx). Brings script past (Filled n t b f x) k) same here
brings script past (Late g x) target legal at =
    let is = late-is script past g x legal.0 in
    let found = is.4 in
    let at' : Some (is.0, is.1) ≡ Some target = sym (ap early_in found) ∙ at in
    let same : (is.0, is.1) ≡ target = cc in
    let early = given script past g.0 is.0 is.1 is.2 is.3 legal.1 found in
    let here : Brings script past (Late g x) (is.0, is.1) = record { sent = early.sent; told = is.6 } in
    subst (λ (k : FrameNo × StreamIx). Brings script past (Late g x) k) same here
brings script past (Begin word) target legal at = absurd (cc)
brings script past (Call i word reply) target legal at = absurd (cc)
brings script past (Send n r i same targets) target legal at = absurd (cc)
brings script past (Dropped n r i) target legal at = absurd (cc)
brings script past (Shutter n time) target legal at = absurd (cc)
brings script past (Partial n k part) target legal at = absurd (cc)
brings script past (Failed n t b f) target legal at = absurd (cc)
brings script past (ErrorRequest n) target legal at = absurd (cc)
brings script past (ErrorResult n) target legal at = absurd (cc)
brings script past (ErrorBuffer n t) target legal at = absurd (cc)
brings script past ErrorDevice target legal at = absurd (cc)
brings script past (Release b f) target legal at = absurd (cc)
brings script past (Signal f) target legal at = absurd (cc)
brings script past (Early n t b d) target legal at = absurd (cc)

-- ---- of a picture

-- the picture is of the target, for the stream at its place
pub record IsOf (script : Script) (past : List Entry) (target : FrameNo × StreamIx) (shot : Shot) : Type 0 where
  pub spec : slice_get (streams script past) target.1.0 ≡ Some shot.spec
  pub settings : shot.settings ≡ settings_of script past target.0.0
  pub frame : shot.frame ≡ target.0

is-on : (script : Script) (past : List Entry) (target : FrameNo × StreamIx) (o : Option StreamSpec) (shot : Shot) → slice_get (streams script past) target.1.0 ≡ o → shot_on o (settings_of script past target.0.0) target.0 ≡ Some shot → IsOf script past target shot
is-on script past target None shot is at = absurd (cc)
is-on script past target (Some spec) shot is at =
    let made : record { frame = target.0; settings = settings_of script past target.0.0; spec = spec } ≡ shot = cc in
    let told : spec ≡ shot.spec = ap (λ (x : Shot). x.spec) made in
    record {
      spec = is ∙ ap Some told;
      settings = sym (ap (λ (x : Shot). x.settings) made);
      frame = sym (ap (λ (x : Shot). x.frame) made);
    }

is-for : (script : Script) (past : List Entry) (s : ℕ) (target : FrameNo × StreamIx) (shot : Shot) → shot_for script past s (Some target) ≡ Some shot → IsOf script past target shot
is-for script past s target shot at = elim (cases_Bool (target.1.0 == s)) [
  | inl own ↦ (
      let at' = rw own at at in
      let same : target.1.0 ≡ s = eqb-true target.1.0 s own in
      is-on script past target (slice_get (streams script past) s) shot (ap (λ k. slice_get (streams script past) k) same) at'
      )
  | inr other ↦ (let at' = rw other at at in absurd (cc))
]

-- a picture that an entry brings: its target
pub record Shot-of (script : Script) (past : List Entry) (e : Entry) (shot : Shot) : Type 0 where
  pub target : FrameNo × StreamIx
  pub brings : Brings script past e target
  pub is : IsOf script past target shot

shot-of : (script : Script) (past : List Entry) (s : ℕ) (e : Entry) (shot : Shot) → IsLegal script (e ∷ past) → shot_for script past s (brought past e) ≡ Some shot → Shot-of script past e shot
shot-of script past s e shot legal at = by (brought past e) refl at
  where
    by : (o : Option (FrameNo × StreamIx)) → brought past e ≡ o → shot_for script past s o ≡ Some shot → Shot-of script past e shot
    by None is at = absurd (cc)
    by (Some target) is at = record { target = target; brings = brings script past e target legal is; is = is-for script past s target shot at }

-- ---- its digest

digest-is : (spec : StreamSpec) (settings : Settings) (n : ℕ) (shot : Shot) → shot.spec ≡ spec → shot.settings ≡ settings → shot.frame.0 ≡ n → digest spec settings n ≡ sha256 (bytes_of shot)
unfolding digest
digest-is spec settings n shot one two three = rw (← one, ← two, ← three) refl

pub told-digest : (script : Script) (past : List Entry) (e : Entry) (s : ℕ) (shot : Shot) → IsLegal script (e ∷ past) → shot_for script past s (brought past e) ≡ Some shot → digest_in e ≡ sha256 (bytes_of shot)
told-digest script past e s shot legal at =
    let of = shot-of script past s e shot legal at in
    let n = of.target.0.0 in
    of.brings.told
    ∙ (ap (λ o. digest_on o (settings_of script past n) n) of.is.spec
    ∙ digest-is shot.spec (settings_of script past n) n shot refl of.is.settings (ap (λ (m : FrameNo). m.0) of.is.frame))

-- ---- it can be drawn

pub drawable-shot : (script : Script) (past : List Entry) (s : ℕ) (e : Entry) (shot : Shot) → IsLegal script (e ∷ past) → shot_for script past s (brought past e) ≡ Some shot → is_drawable shot ≡ true
drawable-shot script past s e shot legal at =
    let of = shot-of script past s e shot legal at in
    let range : range_fault shot.settings ≡ None = ap range_fault of.is.settings ∙ sent-range script past of.target.0.0 legal.1 of.brings.sent in
    let offered = all-at (streams script past) of.target.1.0 shot.spec (offered_streams script past legal.1) of.is.spec in
    rw (range, offered) refl

all-of : (o : Option Shot) → ((shot : Shot) → o ≡ Some shot → is_drawable shot ≡ true) → list_all is_drawable (option_to_list o) ≡ true
all-of None each = refl
all-of (Some shot) each = rw (each shot refl) refl

pub drawable-film : (script : Script) (s : ℕ) (past : List Entry) → IsLegal script past → are_drawable (film script s past) ≡ true
drawable-film script s [] legal = refl
drawable-film script s (e ∷ past) legal =
    all-append is_drawable (film script s past) (option_to_list (shot_for script past s (brought past e))) (drawable-film script s past legal.1)
    (all-of (shot_for script past s (brought past e)) (λ shot at. drawable-shot script past s e shot legal at))
