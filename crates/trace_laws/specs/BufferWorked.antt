use Rattle.std.specs.Prelude.{ℕ, false, List, [], ◌∷◌, None, Some}
use Rattle.trace_model.specs.declared.entry.Entry.{Entry}
use Rattle.trace_model.specs.declared.entry.Entry.TheVariants.{Early, Filled, Late, Release, Send, Signal}

-- Pasts that no legal run has, the newest entry first: each breaks one law.

abbrev pub filled : ℕ → ℕ → ℕ → Entry
filled n s b = Filled (record { 0 = n }) (record { 0 = s }) (record { 0 = b }) None []

abbrev pub release : ℕ → ℕ → Entry
release b f = Release (record { 0 = b }) (record { 0 = f })

abbrev pub signal : ℕ → Entry
signal f = Signal (record { 0 = f })

abbrev pub early : ℕ → ℕ → ℕ → Entry
early n b d = Early (record { 0 = n }) (record { 0 = 0 }) (record { 0 = b }) (record { 0 = d })

abbrev pub late : ℕ → Entry
late d = Late (record { 0 = d }) []

abbrev pub send : ℕ → ℕ → Entry
send n b =
    Send (record { 0 = n }) (record { 0 = 0 }) n false
    (record {
      a = Some (record { stream = record { 0 = 0 }; buffer = record { 0 = b }; fence = None });
      b = None;
      c = None;
      d = None;
    })

-- frame 1 came before frame 0 for one stream, and for two
abbrev pub swapped : List Entry
swapped = filled 0 0 4 ∷ (filled 1 0 5 ∷ [])

abbrev pub of_two_streams : List Entry
of_two_streams = filled 0 0 4 ∷ (filled 1 1 9 ∷ [])

-- a buffer of frame 0 came back twice
abbrev pub returned_twice : List Entry
returned_twice = filled 0 0 4 ∷ (filled 0 0 5 ∷ [])

-- fence 0 was released with two buffers
abbrev pub released_twice : List Entry
released_twice = release 5 0 ∷ (release 4 0 ∷ [])

-- fence 0 was signalled before its release
abbrev pub signalled_early : List Entry
signalled_early = release 4 0 ∷ (signal 0 ∷ [])

-- two buffers came back early with device fence 0
abbrev pub given_twice : List Entry
given_twice = early 1 5 0 ∷ (early 0 4 0 ∷ [])

-- device fence 0 was signalled twice
abbrev pub filled_twice : List Entry
filled_twice = late 0 ∷ (late 0 ∷ (early 0 4 0 ∷ []))

-- buffer 4 came back early and was never released
abbrev pub never_home : List Entry
never_home = late 0 ∷ (early 0 4 0 ∷ [])

-- it was sent again before that
abbrev pub sent_again : List Entry
sent_again = send 1 4 ∷ (late 0 ∷ (early 0 4 0 ∷ []))
