use Rattle.std.specs.Prelude.{ℕ, ◌+◌, ◌-◌}
use Rattle.cam_types.specs.declared.stream.Format.{Format}
use Rattle.cam_types.specs.declared.stream.Format.TheVariants.{Raw16, Yuv, Other}
use Rattle.buffer_pool.specs.Shelf.{Shelved}

-- The memory of buffers (our own choice): a block fits the largest picture of its format, so that the blocks that one
-- configuration gives back serve the next.

-- how many blocks of a format are free, and how many are lent
pub record Counts : Type 0 where
  pub free : ℕ
  pub lent : ℕ

-- the blocks of each format
pub record Stock : Type 0 where
  pub raw : Counts
  pub yuv : Counts

-- the bytes of a block
abbrev pub block_length : Format → ℕ
block_length Raw16 = 38400
block_length Yuv = 28800
block_length (Other _) = 0

abbrev pub all_free : ℕ → Counts
all_free count = record { free = count; lent = 0 }

abbrev pub full_blocks : ℕ → ℕ → Stock
full_blocks raw yuv = record { raw = all_free raw; yuv = all_free yuv }

abbrev pub free_of : Format → Stock → ℕ
free_of Raw16 b = b.raw.free
free_of Yuv b = b.yuv.free
free_of (Other _) b = 0

abbrev pub lent_of : Format → Stock → ℕ
lent_of Raw16 b = b.raw.lent
lent_of Yuv b = b.yuv.lent
lent_of (Other _) b = 0

abbrev pub lent_out : ℕ → Counts → Counts
lent_out n c = record { free = c.free - n; lent = c.lent + n }

abbrev pub taken_in : ℕ → Counts → Counts
taken_in n c = record { free = c.free + n; lent = c.lent - n }

-- n blocks of a format are lent
abbrev pub with_lent : Format → ℕ → Stock → Stock
with_lent Raw16 n b = record b { raw = lent_out n b.raw }
with_lent Yuv n b = record b { yuv = lent_out n b.yuv }
with_lent (Other _) n b = b

-- n lent blocks of a format are back
abbrev pub with_returned : Format → ℕ → Stock → Stock
with_returned Raw16 n b = record b { raw = taken_in n b.raw }
with_returned Yuv n b = record b { yuv = taken_in n b.yuv }
with_returned (Other _) n b = b

abbrev pub counts_of : Shelved → Counts
counts_of s = record { free = s.free; lent = s.lent }
