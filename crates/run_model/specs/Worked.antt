use Rattle.std.specs.Prelude.{ℕ, false, List, [], ◌∷◌}
use Rattle.cam_types.specs.Four.{four_of}
use Rattle.cam_types.specs.declared.partial_result.PartialResult.TheVariants.{Time}
use Rattle.trace_model.specs.declared.entry.Entry.{Entry}
use Rattle.trace_model.specs.declared.entry.Entry.TheVariants.{Send, Dropped, Shutter, Partial, ErrorRequest, ErrorResult, Release, Early, Late}

-- Pasts that no legal run has, the newest entry first: each breaks one law on frames.

abbrev pub send : ℕ → Entry
send n = Send (record { 0 = n }) (record { 0 = 0 }) 0 false (four_of [])

abbrev pub drop : ℕ → Entry
drop n = Dropped (record { 0 = n }) (record { 0 = 0 }) 0

abbrev pub shutter : ℕ → ℕ → Entry
shutter n time = Shutter (record { 0 = n }) time

abbrev pub partial : ℕ → ℕ → Entry
partial n k = Partial (record { 0 = n }) k (Time 0)

abbrev pub lost_result : ℕ → Entry
lost_result n = ErrorResult (record { 0 = n })

abbrev pub lost_request : ℕ → Entry
lost_request n = ErrorRequest (record { 0 = n })

abbrev pub early : ℕ → ℕ → Entry
early b d = Early (record { 0 = 0 }) (record { 0 = 0 }) (record { 0 = b }) (record { 0 = d })

-- frame 1 was exposed before frame 0, and at the same time
abbrev pub exposed_backwards : List Entry
exposed_backwards = shutter 0 1033333333 ∷ (shutter 1 1000000000 ∷ [])

abbrev pub exposed_at_once : List Entry
exposed_at_once = shutter 1 1000000000 ∷ (shutter 0 1000000000 ∷ [])

-- the metadata of frame 1 ended before that of frame 0: by its last part, by an error, and by one of the whole request,
-- which may come in any order
abbrev pub ended_backwards : List Entry
ended_backwards = partial 0 3 ∷ (partial 1 3 ∷ [])

abbrev pub lost_backwards : List Entry
lost_backwards = lost_result 0 ∷ (partial 1 3 ∷ [])

abbrev pub failed_backwards : List Entry
failed_backwards = lost_request 0 ∷ (partial 1 3 ∷ [])

-- a part with the number 7, the second without the first, and the first twice
abbrev pub seventh_part : List Entry
seventh_part = partial 0 7 ∷ (send 0 ∷ [])

abbrev pub second_alone : List Entry
second_alone = partial 0 2 ∷ (send 0 ∷ [])

abbrev pub first_twice : List Entry
first_twice = partial 0 1 ∷ (partial 0 1 ∷ (send 0 ∷ []))

-- all parts and an error of the result, and neither
abbrev pub whole_and_lost : List Entry
whole_and_lost = lost_result 0 ∷ (partial 0 3 ∷ (send 0 ∷ []))

abbrev pub never_ended : List Entry
never_ended = send 0 ∷ []

-- one item was sent and dropped
abbrev pub sent_and_dropped : List Entry
sent_and_dropped = drop 1 ∷ (send 0 ∷ [])

-- device fence 0 was signalled and not given, and buffer 4 was released before it was filled
abbrev pub signalled_unasked : List Entry
signalled_unasked = Late (record { 0 = 0 }) [] ∷ []

abbrev pub released_unfilled : List Entry
released_unfilled = Release (record { 0 = 4 }) (record { 0 = 0 }) ∷ (early 4 0 ∷ [])
