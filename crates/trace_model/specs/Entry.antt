use Rattle.std.specs.Prelude.{ℕ, ◌==◌, Bool, true, false, ◌&&◌}
use Rattle.std.specs.List.{list_any}
use Rattle.cam_types.specs.Four.{four_list}
use Rattle.cam_types.specs.declared.reply.Reply.{Reply}
use Rattle.cam_types.specs.declared.reply.Reply.TheVariants.{Refused}
use Rattle.cam_types.specs.declared.script.Word.{Word}
use Rattle.cam_types.specs.declared.script.Word.TheVariants.{Flush as WordFlush, Disconnect as WordDisconnect}
use Rattle.trace_model.specs.declared.entry.Entry.{Entry}
use Rattle.trace_model.specs.declared.entry.Entry.TheVariants.{Begin, Call, Send, Dropped, Shutter, Partial, Filled, Failed, ErrorRequest, ErrorResult, ErrorBuffer, ErrorDevice, Release, Signal, Early, Late}

-- What one entry says. Everything that this project means by a legal trace is said by these tests over the past.
-- A past is a list of entries, the newest first.

-- the entry sends frame n to the device
abbrev pub sends : ℕ → Entry → Bool
sends n (Send m _ _ _ _) = m.0 == n
sends n _ = false

-- the entry gives a frame number away, by a send or a drop
abbrev pub is_numbering : Entry → Bool
is_numbering (Send _ _ _ _ _) = true
is_numbering (Dropped _ _ _) = true
is_numbering _ = false

-- the entry takes item i of request r, by a send or a drop
abbrev pub takes : ℕ → ℕ → Entry → Bool
takes r i (Send _ q j _ _) = (q.0 == r) && (j == i)
takes r i (Dropped _ q j) = (q.0 == r) && (j == i)
takes r i _ = false

-- the entry sends an item of request r
abbrev pub sends_for : ℕ → Entry → Bool
sends_for r (Send _ q _ _ _) = q.0 == r
sends_for r _ = false

abbrev pub is_shutter : ℕ → Entry → Bool
is_shutter n (Shutter m _) = m.0 == n
is_shutter n _ = false

abbrev pub is_partial : ℕ → Entry → Bool
is_partial n (Partial m _ _) = m.0 == n
is_partial n _ = false

-- the entry is part k of frame n
abbrev pub is_part : ℕ → ℕ → Entry → Bool
is_part n k (Partial m j _) = (m.0 == n) && (j == k)
is_part n k _ = false

-- the entry gives back the buffer of frame n for stream s, filled or failed
abbrev pub brings : ℕ → ℕ → Entry → Bool
brings n s (Filled m t _ _ _) = (m.0 == n) && (t.0 == s)
brings n s (Failed m t _ _) = (m.0 == n) && (t.0 == s)
brings n s _ = false

-- the entry gives it back, filled, failed or early
abbrev pub returns_target : ℕ → ℕ → Entry → Bool
returns_target n s (Filled m t _ _ _) = (m.0 == n) && (t.0 == s)
returns_target n s (Failed m t _ _) = (m.0 == n) && (t.0 == s)
returns_target n s (Early m t _ _) = (m.0 == n) && (t.0 == s)
returns_target n s _ = false

-- the entry gives back some buffer of frame n
abbrev pub returns_of_frame : ℕ → Entry → Bool
returns_of_frame n (Filled m _ _ _ _) = m.0 == n
returns_of_frame n (Failed m _ _ _) = m.0 == n
returns_of_frame n (Early m _ _ _) = m.0 == n
returns_of_frame n _ = false

abbrev pub is_error_request : ℕ → Entry → Bool
is_error_request n (ErrorRequest m) = m.0 == n
is_error_request n _ = false

abbrev pub is_error_result : ℕ → Entry → Bool
is_error_result n (ErrorResult m) = m.0 == n
is_error_result n _ = false

abbrev pub is_error_buffer : ℕ → ℕ → Entry → Bool
is_error_buffer n s (ErrorBuffer m t) = (m.0 == n) && (t.0 == s)
is_error_buffer n s _ = false

-- the entry is an error of frame n
abbrev pub is_error_of : ℕ → Entry → Bool
is_error_of n (ErrorRequest m) = m.0 == n
is_error_of n (ErrorResult m) = m.0 == n
is_error_of n (ErrorBuffer m _) = m.0 == n
is_error_of n _ = false

abbrev pub is_error_device : Entry → Bool
is_error_device ErrorDevice = true
is_error_device _ = false

abbrev pub is_release : Entry → Bool
is_release (Release _ _) = true
is_release _ = false

abbrev pub releases_fence : ℕ → Entry → Bool
releases_fence f (Release _ g) = g.0 == f
releases_fence f _ = false

abbrev pub signals : ℕ → Entry → Bool
signals f (Signal g) = g.0 == f
signals f _ = false

abbrev pub is_early : Entry → Bool
is_early (Early _ _ _ _) = true
is_early _ = false

-- the entry gives a buffer back early, with device fence d
abbrev pub is_early_with : ℕ → Entry → Bool
is_early_with d (Early _ _ _ f) = f.0 == d
is_early_with d _ = false

-- the entry signals device fence d
abbrev pub is_late_with : ℕ → Entry → Bool
is_late_with d (Late f _) = f.0 == d
is_late_with d _ = false

-- the entry names buffer b
abbrev pub names : ℕ → Entry → Bool
names b (Send _ _ _ _ targets) = list_any (λ t. t.buffer.0 == b) (four_list targets)
names b (Filled _ _ c _ _) = c.0 == b
names b (Failed _ _ c _) = c.0 == b
names b (Release c _) = c.0 == b
names b (Early _ _ c _) = c.0 == b
names b _ = false

abbrev pub is_refusal : Reply → Bool
is_refusal (Refused _ _ _) = true
is_refusal _ = false

abbrev pub is_call : Entry → Bool
is_call (Call _ _ _) = true
is_call _ = false

-- the entry begins a command that stops what the device has in process
abbrev pub is_stop_word : Word → Bool
is_stop_word WordFlush = true
is_stop_word WordDisconnect = true
is_stop_word _ = false

-- from the entry on, frames that were sent before are stopped
abbrev pub is_stop : Entry → Bool
is_stop (Begin word) = is_stop_word word
is_stop ErrorDevice = true
is_stop _ = false
