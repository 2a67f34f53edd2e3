-- The settings of a template (camera3.h, construct_default_request_settings).
use Rattle.std.specs.Prelude.{ℕ, ◌==◌, ◌||◌, nat_lt, Option, Some, None, if◌then◌else◌, not}
use Rattle.cam_types.specs.declared.item.Settings.{Settings}
use Rattle.hal_device_model.specs.Calls.{is_over}
use Rattle.hal_device_model.specs.State.{HalDeviceState}
use Rattle.hal_device_model.specs.declared.error.CallError.{CallError}
use Rattle.hal_device_model.specs.declared.error.CallError.TheVariants.{InvalidArgument, NoDevice, WrongSequence}
use Rattle.metadata.specs.Templates.{template_of}
use Rattle.metadata.specs.declared.rule.Template.TheVariants.{Preview, Still}

-- the header has the templates 1 to 6
abbrev pub template_error : ℕ → HalDeviceState → Option CallError
template_error t state =
    if is_over state then Some NoDevice
    else (if not state.initialized then Some WrongSequence
    else (if (t == 0) || nat_lt 6 t then Some InvalidArgument else None))

-- STILL_CAPTURE is 2; that the others have the same settings is our own choice
abbrev pub default_settings : ℕ → Settings
default_settings t = if t == 2 then template_of Still else template_of Preview
