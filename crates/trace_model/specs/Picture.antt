use Rattle.std.specs.Prelude.{ℕ, List, [], Option, Some, None, slice_get}
use Rattle.sha2.specs.Sha256.{sha256}
use Rattle.cam_types.specs.Picture.{picture}
use Rattle.cam_types.specs.declared.item.Settings.{Settings}
use Rattle.cam_types.specs.declared.script.Script.{Script}
use Rattle.cam_types.specs.declared.stream.StreamSpec.{StreamSpec}
use Rattle.trace_model.specs.declared.entry.Entry.{Entry}
use Rattle.trace_model.specs.Configuration.{streams}
use Rattle.trace_model.specs.Frames.{settings_of}

-- the SHA-256 of frame n's picture on a stream
unfoldable pub digest : StreamSpec → Settings → ℕ → List ℕ
digest spec s n = sha256 (picture spec s n)

abbrev pub digest_on : Option StreamSpec → Settings → ℕ → List ℕ
digest_on (Some spec) s n = digest spec s n
digest_on None s n = []

-- the digest of frame n's picture for stream s of the configuration
abbrev pub digest_of : Script → List Entry → ℕ → ℕ → List ℕ
digest_of script past n s = digest_on (slice_get (streams script past) s) (settings_of script past n) n
