-- What a text may ask for. (our own choice)
use Rattle.std.specs.Prelude.{ℕ, Bool, true, ◌&&◌, length, nat_le}
use Rattle.std.specs.List.{list_all}
use Rattle.arbiter_call.specs.Ranges.{is_count, is_line}
use Rattle.arbiter_call.specs.declared.draft.Stage.{Stage}
use Rattle.arbiter_call.specs.declared.draft.Stage.TheVariants.{Named, Whole}
use Rattle.arbiter_call.specs.declared.text.ArbiterText.{ArbiterText}

-- the most lines behind the cameras
abbrev pub line_limit : ℕ
line_limit = 128

abbrev pub is_valid : ArbiterText → Bool
is_valid text =
    is_count text.cameras && (list_all (is_line text.cameras) text.lines && nat_le (length text.lines) line_limit)

-- what may stand after some lines
abbrev pub may_stand : Stage → Bool
may_stand Named = true
may_stand (Whole text) = is_valid text
