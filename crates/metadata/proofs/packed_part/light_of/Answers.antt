use Rattle.std.proofs.Common.{[], ◌∷◌, ap, sym, refl, length, ◌∙◌, arith}
use Rattle.std.specs.Prelude.{pos}
use Rattle.cam_types.specs.Metadata.{exposure_tag, sensitivity_tag}
use Rattle.metadata.specs.Entries.{values_at}
use Rattle.metadata.specs.declared.values.Values.TheVariants.{Int32, Int64}
use Rattle.metadata.proofs.Parts.{int32_is, int64_is, two_entries}
use Rattle.metadata.proofs.packed_part.light_of.Goals as goal

pub returns-then-entries-eq2-clause-some : goal.returns-then-entries-eq2-clause-some
returns-then-entries-eq2-clause-some c =
    let es = c.args.packed.now in (
      refl,
      two_entries es exposure_tag sensitivity_tag (Int64 (pos c.in_ok-exposure.exposure ∷ [])) (Int32 (pos c.in_ok-iso.iso ∷ [])) (omega arith) c.entries.ensures.packed.ascending (sym (ap length c.entries.ensures.entries) ∙ c.if-entries-eq2.true)
          (int64_is (values_at exposure_tag es) c.in_ok-exposure.exposure (sym c.in_ok-exposure.ensures)) (int32_is (values_at sensitivity_tag es) c.in_ok-iso.iso (sym c.in_ok-iso.ensures)),
    )
