-- What a call of the library answers: 0, or the negative number that Linux has for the error (errno.h).
use Rattle.std.specs.Prelude.{ℤ, pos, negsuc, Bool, Option, Some, None, if◌then◌else◌}
use Rattle.hal_device_model.specs.declared.error.CallError.{CallError}
use Rattle.hal_device_model.specs.declared.error.CallError.TheVariants.{InvalidArgument, NoDevice, WrongSequence, NoMemory, Busy}

-- -22, -19, -38, -12, -11
abbrev pub number_of : CallError → ℤ
number_of InvalidArgument = negsuc 21
number_of NoDevice = negsuc 18
number_of WrongSequence = negsuc 37
number_of NoMemory = negsuc 11
number_of Busy = negsuc 10

abbrev pub answer_of : Option CallError → ℤ
answer_of None = pos 0
answer_of (Some error) = number_of error

-- a step that isn't ready has to wait
abbrev pub step_answer : Bool → ℤ
step_answer is_made = if is_made then pos 0 else number_of Busy
