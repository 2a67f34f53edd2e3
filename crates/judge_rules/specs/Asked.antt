use Rattle.std.specs.Prelude.{ℕ, ◌==◌, ◌-◌, Bool, false, ◌&&◌, List, Option, Some, None, filter, take}
use Rattle.std.specs.List.{list_all, list_any, range_with_len}
use Rattle.cam_types.specs.declared.item.Targets.{Targets}
use Rattle.cam_types.specs.Four.{four_list}
use Rattle.cam_types.specs.declared.four.Four.{Four}
use Rattle.trace_model.specs.declared.entry.Entry.{Entry}
use Rattle.trace_model.specs.declared.entry.Sent.{Sent}
use Rattle.trace_model.specs.Printable.{is_filled}
use Rattle.trace_model.specs.Send.{are_streams, takes_from_pool}

-- The streams that an item asks for, one after the other. Our own choice.

-- a picture of stream s is asked for
abbrev pub asks : Targets → ℕ → Bool
asks targets s = list_any (λ t. t == s) (take targets.count targets.list)

-- the streams below 4 that pass, from stream s on
abbrev pub left_from : (ℕ → Bool) → ℕ → List ℕ
left_from p s = filter p (range_with_len s (4 - s))

-- the targets are those of the streams that pass, from the stream on; of none where there is no such stream
abbrev pub are_left : List Sent → (ℕ → Bool) → Option ℕ → Bool
are_left sents p (Some s) = are_streams sents (left_from p s)
are_left sents p None = false

-- the targets are those of the streams, in order, and each takes its buffer from the pool
abbrev pub fit : List Entry → Four Sent → List ℕ → Bool
fit past targets streams =
    are_streams (four_list targets) streams
    && (is_filled targets && list_all (takes_from_pool past) (four_list targets))
