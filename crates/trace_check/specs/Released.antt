use Rattle.std.specs.Prelude.{ℕ, Bool, true}
use Rattle.trace_model.specs.declared.entry.Entry.{Entry}
use Rattle.trace_model.specs.declared.entry.Entry.TheVariants.{Release}

-- the test holds of the fence that the entry releases, if it releases one (our own choice: the same as over the
-- released fences)
abbrev pub on_release : (ℕ → Bool) → Entry → Bool
on_release p (Release _ f) = p f.0
on_release p _ = true
