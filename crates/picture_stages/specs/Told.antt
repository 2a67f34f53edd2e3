use Rattle.std.specs.Prelude.{◌≡◌, ◌≤◌, List, length}
use Rattle.std.specs.List.{All}
use Rattle.sha2.specs.Sha256.{sha256}
use Rattle.picture_stages.specs.declared.memory.Told.{Told}
use Rattle.picture_stages.specs.Keys.{picture_by}

-- What is remembered of pictures (our own choice).

-- the digest is that of the key's picture
abbrev pub IsTold : Told → Type 0
IsTold t = t.digest ≡ sha256 (picture_by t.key)

-- each digest is, and there are no more of them than the limit
pub record AreTold (told : List Told) : Type 0 where
  pub each : All IsTold told
  pub few : length told ≤ 16384
