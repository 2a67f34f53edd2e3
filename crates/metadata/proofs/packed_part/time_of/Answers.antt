use Rattle.std.proofs.Common.{[], ◌∷◌, ap, sym, refl, length, ◌∙◌}
use Rattle.std.specs.Prelude.{pos}
use Rattle.cam_types.specs.Metadata.{timestamp_tag}
use Rattle.metadata.specs.Entries.{values_at}
use Rattle.metadata.specs.declared.values.Values.TheVariants.{Int64}
use Rattle.metadata.proofs.Parts.{int64_is, one_entry}
use Rattle.metadata.proofs.packed_part.time_of.Goals as goal

pub returns-then-entries-eq1-clause-some : goal.returns-then-entries-eq1-clause-some
returns-then-entries-eq1-clause-some c =
    let es = c.args.packed.now in (
      refl,
      one_entry es timestamp_tag (Int64 (pos c.in_ok-timestamp.timestamp ∷ [])) (sym (ap length c.entries.ensures.entries) ∙ c.if-entries-eq1.true)
          (int64_is (values_at timestamp_tag es) c.in_ok-timestamp.timestamp (sym c.in_ok-timestamp.ensures)),
    )
