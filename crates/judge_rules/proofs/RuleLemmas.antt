-- What the rules say, entry by entry.
use Rattle.std.proofs.Common.{◌≡◌, ℕ, Bool, ◌||◌, List, [], ◌∷◌, refl, ap}
use Rattle.std.specs.List.{list_any}
use Rattle.cam_types.specs.declared.script.Script.{Script}
use Rattle.judge_filters.specs.Past.{on_send}
use Rattle.trace_model.specs.declared.entry.Entry.{Entry}
use Rattle.trace_model.specs.declared.entry.Entry.TheVariants.{Send, Shutter}
use Rattle.trace_model.specs.Frames.{frames}
use Rattle.trace_model.specs.Shutter.{next_time}
use Rattle.judge_rules.specs.Times.{time_after}

pub time_more : (script : Script) (past : List Entry) (e : Entry) → next_time script (e ∷ past) ≡ time_after (next_time script past) script past e
time_more script past (Shutter n time) = refl
time_more script past e = refl

pub frames_any : (p : ℕ → Bool) (past : List Entry) → list_any p (frames past) ≡ list_any (on_send p) past
frames_any p [] = refl
frames_any p (Send n r i same targets ∷ past) = ap (λ (b : Bool). p n.0 || b) (frames_any p past)
frames_any p (e ∷ past) = frames_any p past
