use Rattle.std.specs.Prelude.{ℕ, Bool, List}
use Rattle.trace_model.specs.declared.entry.Entry.{Entry}
use Rattle.trace_model.specs.Filled.{lets_pass}
use Rattle.trace_model.specs.Open.{is_metadata_ended}
use Rattle.judge_filters.specs.Past.{is_exposed}
use Rattle.judge_filters.specs.declared.order.Passed.{Passed}
use Rattle.judge_filters.specs.declared.order.Passed.TheVariants.{Exposure, Metadata, Buffers}

-- The test of a frame that the code asks of each earlier one. Our own choice.

abbrev pub has_passed : List Entry → Passed → ℕ → Bool
has_passed past Exposure = is_exposed past
has_passed past Metadata = λ n. is_metadata_ended n past
has_passed past (Buffers s) = lets_pass past s.0
