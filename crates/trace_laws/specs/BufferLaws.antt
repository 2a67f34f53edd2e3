use Rattle.std.specs.Prelude.{ℕ, ◌==◌, ◌≤◌, Bool, true, ◌&&◌, List, [], ◌∷◌, count_by, IsTrue}
use Rattle.std.specs.List.{list_all}
use Rattle.cam_types.specs.Four.{four_list}
use Rattle.cam_types.specs.declared.script.Script.{Script}
use Rattle.trace_model.specs.declared.entry.Entry.{Entry}
use Rattle.trace_model.specs.declared.entry.Entry.TheVariants.{Send}
use Rattle.trace_model.specs.Complete.{IsComplete, released}
use Rattle.trace_model.specs.Entry.{releases_fence, returns_target}
use Rattle.trace_model.specs.Frames.{frames, targets_of}
use Rattle.trace_model.specs.Laws.{ConservesBuffers, FencesOnce, delivers_in_order, signals_after_release}
use Rattle.trace_model.specs.Legal.{IsLegal}
use Rattle.trace_model.specs.Place.{Pool, is_at, place}

-- What is said of buffers and fences. The laws themselves stand in trace_model, beside the definitions.

-- in a legal run no buffer is lost, and none is sent twice
abbrev pub KeepsBuffers : Script → List Entry → Type 0
KeepsBuffers script past = IsLegal script past → ConservesBuffers past

-- in a legal run each fence is released once, and no fence is signalled before its release
abbrev pub ReleasesOnce : Script → List Entry → Type 0
ReleasesOnce script past =
    IsLegal script past → IsTrue (list_all (λ f. count_by (releases_fence f) past == 1) (released past))

abbrev pub SignalsLater : Script → List Entry → Type 0
SignalsLater script past = IsLegal script past → IsTrue (signals_after_release past)

-- in a complete one each is signalled once, too
abbrev pub SignalsOnce : Script → List Entry → Type 0
SignalsOnce script past = IsComplete script past → FencesOnce past

-- in a legal run no buffer of a frame comes back twice; in a complete one each comes back once
abbrev pub ReturnsAtMostOnce : Script → List Entry → Type 0
ReturnsAtMostOnce script past = IsLegal script past → (n s : ℕ) → count_by (returns_target n s) past ≤ 1

abbrev pub ReturnsOnce : Script → List Entry → Type 0
ReturnsOnce script past = IsComplete script past →
    IsTrue (list_all (λ n. list_all (λ t. count_by (returns_target n t.stream.0) past == 1) (targets_of n past))
    (frames past))

-- in a legal run the filled buffers of each stream come in the order of frames
abbrev pub DeliversInOrder : Script → List Entry → Type 0
DeliversInOrder script past = IsLegal script past → IsTrue (delivers_in_order past)

-- in a legal run a buffer is sent only where it is home. So behind an early return it was released before, which waits
-- for its late fill
abbrev pub sends_what_is_home : List Entry → Bool
sends_what_is_home [] = true
sends_what_is_home (Send _ _ _ _ targets ∷ past) =
    list_all (λ t. is_at (place t.buffer.0 past) Pool) (four_list targets) && sends_what_is_home past
sends_what_is_home (_ ∷ past) = sends_what_is_home past

abbrev pub SendsFromHome : Script → List Entry → Type 0
SendsFromHome script past = IsLegal script past → IsTrue (sends_what_is_home past)
