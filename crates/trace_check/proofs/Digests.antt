-- What a frame's digest is drawn from: a stream that isn't there has none, and settings of zeros give the dark picture.
use Rattle.std.proofs.Common.{◌≡◌, ℕ, List, sym, ap, ◌∙◌, Some, slice_get}
use Rattle.cam_types.specs.Picture.{picture}
use Rattle.cam_types.specs.declared.item.Settings.{Settings}
use Rattle.cam_types.specs.declared.stream.StreamSpec.{StreamSpec}
use Rattle.sha2.specs.Sha256.{sha256}
use Rattle.cam_types.specs.declared.script.Script.{Script}
use Rattle.trace_model.specs.declared.entry.Entry.{Entry}
use Rattle.trace_model.specs.Configuration.{streams}
use Rattle.trace_model.specs.Frames.{settings_of}
use Rattle.trace_model.specs.Picture.{digest_of, digest_on}
use Rattle.trace_check.proofs.Dark.{digest-picture}

abbrev pub dark : Settings
dark = record { pattern = 0; level = 0; exposure = 100000; iso = 100 }

-- the digest of the frame's picture for the stream, drawn with settings that give the same picture
pub drawn : (script : Script) (past : List Entry) (n s : ℕ) (spec : StreamSpec) (settings : Settings) → slice_get (streams script past) s ≡ Some spec → picture spec settings n ≡ picture spec (settings_of script past n) n → sha256 (picture spec settings n) ≡ digest_of script past n s
drawn script past n s spec settings at same =
    ap sha256 same
    ∙ (sym (digest-picture spec (settings_of script past n) n) ∙ sym (ap (λ o. digest_on o (settings_of script past n) n) at))
