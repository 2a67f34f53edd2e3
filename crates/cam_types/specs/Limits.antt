use Rattle.std.specs.Prelude.{ℕ}

-- the most that a script's numbers of each kind may be: see `src/limit.rt`, whose constants have these values
abbrev pub command_limit : ℕ
command_limit = 512

abbrev pub burst_limit : ℕ
burst_limit = 32

abbrev pub repeat_limit : ℕ
repeat_limit = 8

abbrev pub target_limit : ℕ
target_limit = 8

abbrev pub spec_limit : ℕ
spec_limit = 16

abbrev pub awaited_limit : ℕ
awaited_limit = 16384

abbrev pub fault_limit : ℕ
fault_limit = 64

abbrev pub pick_limit : ℕ
pick_limit = 8192

-- the most that each number of a device's profile may be
abbrev pub profile_limit : ℕ
profile_limit = 16

-- the most items that wait in the queue
abbrev pub queue_limit : ℕ
queue_limit = 256

-- the most streams of a configuration, of both formats, of RAW16 and of YUV
abbrev pub stream_limit : ℕ
stream_limit = 4

abbrev pub raw_limit : ℕ
raw_limit = 1

abbrev pub yuv_limit : ℕ
yuv_limit = 3

-- the buffers that a stream's pool has beside those that may be at the device
abbrev pub spare_buffers : ℕ
spare_buffers = 2

-- how many repeating frames may be sent after a call, beside those that an await asks for
abbrev pub repeating_ahead : ℕ
repeating_ahead = 64

-- the time of the first shutter, and the least time from one shutter to the next, in nanoseconds
abbrev pub first_shutter : ℕ
first_shutter = 1000000000

abbrev pub frame_time : ℕ
frame_time = 33333333
