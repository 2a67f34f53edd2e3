use Rattle.std.specs.Prelude.{ℕ, ◌==◌, Bool, true, false, ◌&&◌, ◌||◌}
use Rattle.reprocess_model.specs.declared.entry.ReEntry.{ReEntry}
use Rattle.reprocess_model.specs.declared.entry.ReEntry.TheVariants.{Called, BeginFlush, Flushed, Take, Dropped, Error, Failed, Fill, Input}

-- What a single line is.

-- a command is answered
abbrev pub is_call : ReEntry → Bool
is_call (Called _) = true
is_call (Flushed _) = true
is_call _ = false

-- a request is called
abbrev pub is_called : ReEntry → Bool
is_called (Called _) = true
is_called _ = false

abbrev pub is_begin_flush : ReEntry → Bool
is_begin_flush BeginFlush = true
is_begin_flush _ = false

abbrev pub is_flushed : ReEntry → Bool
is_flushed (Flushed _) = true
is_flushed _ = false

-- request n is taken, or dropped
abbrev pub takes : ℕ → ReEntry → Bool
takes n (Take m _ _) = m.0 == n
takes n _ = false

abbrev pub drops : ℕ → ReEntry → Bool
drops n (Dropped m) = m.0 == n
drops n _ = false

abbrev pub leaves : ℕ → ReEntry → Bool
leaves n e = takes n e || drops n e

abbrev pub is_error_of : ℕ → ReEntry → Bool
is_error_of n (Error m) = m.0 == n
is_error_of n _ = false

-- an output of request n is filled, or the one of output s comes back
abbrev pub is_fill_of : ℕ → ReEntry → Bool
is_fill_of n (Fill m _ _ _) = m.0 == n
is_fill_of n _ = false

abbrev pub is_return_of : ℕ → ℕ → ReEntry → Bool
is_return_of n s (Failed m t _) = (m.0 == n) && (t.0 == s)
is_return_of n s (Fill m t _ _) = (m.0 == n) && (t.0 == s)
is_return_of n s _ = false

-- the input of request n comes back
abbrev pub is_input_of : ℕ → ReEntry → Bool
is_input_of n (Input m _) = m.0 == n
is_input_of n _ = false
