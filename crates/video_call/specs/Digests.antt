-- The digest of a good buffer in a trace.
use Rattle.std.specs.Prelude.{ℕ, List, []}
use Rattle.trace_model.specs.declared.entry.Entry.{Entry}
use Rattle.trace_model.specs.declared.entry.Entry.TheVariants.{Filled, Late}

-- the digest that the entry tells
abbrev pub digest_in : Entry → List ℕ
digest_in (Filled _ _ _ _ digest) = digest
digest_in (Late _ digest) = digest
digest_in _ = []
