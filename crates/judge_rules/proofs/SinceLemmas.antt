-- What came since the last begin, entry by entry.
use Rattle.std.proofs.Common.{◌≡◌, ℕ, List, [], ◌∷◌, refl, sym, ◌∙◌, cond, not, count_by}
use Rattle.std.specs.Prelude.{is_some}
use Rattle.cam_types.specs.declared.script.Script.{Script}
use Rattle.judge_filters.proofs.FrameLemmas.{frames_count}
use Rattle.judge_filters.specs.Past.{on_send}
use Rattle.trace_model.specs.declared.entry.Entry.{Entry}
use Rattle.trace_model.specs.declared.entry.Entry.TheVariants.{Begin}
use Rattle.trace_model.specs.Client.{before_begin, done_since_begin, is_empty}
use Rattle.trace_model.specs.Queue.{first_in}
use Rattle.cam_types.specs.declared.request.WaitingItem.{WaitingItem}
use Rattle.judge_rules.specs.Since.{is_begin, is_done_since}

pub before_more : (e : Entry) (past : List Entry) → before_begin (e ∷ past) ≡ cond (is_begin e) past (before_begin past)
before_more (Begin word) past = refl
before_more e past = refl

pub empty_first : (items : List WaitingItem) → is_empty items ≡ not (is_some (first_in items))
empty_first [] = refl
empty_first (w ∷ items) = refl

pub since_counted : (script : Script) (past earlier : List Entry) (count : ℕ) → earlier ≡ before_begin past → count ≡ count_by (on_send (is_done_since script past earlier)) past → count ≡ done_since_begin script past
since_counted script past earlier count e h =
    let k = rw e at h in
    k ∙ sym (frames_count (is_done_since script past (before_begin past)) past)
