use Rattle.std.specs.Prelude.{◌≡◌, ℕ, List, Option, IfSome}
use Rattle.cam_types.specs.declared.stream.StreamSpec.{StreamSpec}
use Rattle.picture_stages.specs.Keys.{picture_by}
use Rattle.picture_stages.specs.Keys as picture
use Rattle.reprocess_model.specs.Reduce.{reduced_to}
use Rattle.reprocess_core.specs.Tickets.{TicketView}
use Rattle.reprocess_core.specs.declared.key.OutputKey.{OutputKey}
use Rattle.reprocess_core.specs.declared.memory.Told.{Told}
use Rattle.sha2.specs.Sha256.{sha256}

-- What an output's picture depends on (our own choice, as the pictures are).

-- the input's picture, and the size of the output
abbrev pub key_of : TicketView → StreamSpec → OutputKey
key_of ticket to = record {
  input = picture.key_of ticket.spec ticket.settings ticket.frame.0;
  width = to.width;
  height = to.height;
}

-- the picture of a key: that of the input's key, made smaller
abbrev pub output_by : OutputKey → List ℕ
output_by key = reduced_to key.input.width key.input.height key.width key.height (picture_by key.input)

-- a digest is that of its key's picture
abbrev pub IsTold : Told → Type 0
IsTold told = told.digest ≡ sha256 (output_by told.key)

-- a place is free, or has a digest of its key's picture
abbrev pub IsPlaceOf : Option Told → Type 0
IsPlaceOf place = IfSome place IsTold
