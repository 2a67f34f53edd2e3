use Rattle.std.proofs.Common.{[], ◌∷◌, ap, sym, refl, length, ◌∙◌, arith}
use Rattle.std.specs.Prelude.{pos}
use Rattle.cam_types.specs.Metadata.{pattern_tag, level_tag}
use Rattle.metadata.specs.Entries.{values_at}
use Rattle.metadata.specs.declared.values.Values.TheVariants.{Bytes, Int32}
use Rattle.metadata.proofs.Parts.{byte_is, int32_is, two_entries}
use Rattle.metadata.proofs.packed_part.look_of.Goals as goal

pub returns-then-entries-eq2-clause-some : goal.returns-then-entries-eq2-clause-some
returns-then-entries-eq2-clause-some c =
    let es = c.args.packed.now in (
      refl,
      two_entries es pattern_tag level_tag (Bytes (c.in_ok-pattern.pattern ∷ [])) (Int32 (pos c.in_ok-level.level ∷ [])) (omega arith) c.entries.ensures.packed.ascending (sym (ap length c.entries.ensures.entries) ∙ c.if-entries-eq2.true)
          (byte_is (values_at pattern_tag es) c.in_ok-pattern.pattern (sym c.in_ok-pattern.ensures)) (int32_is (values_at level_tag es) c.in_ok-level.level (sym c.in_ok-level.ensures)),
    )
