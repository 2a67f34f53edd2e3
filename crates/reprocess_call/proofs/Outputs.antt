-- Outputs that are added one by one.
use Rattle.std.proofs.Common.{◌≡◌, true, false, ◌&&◌, ◌||◌, Option, Some, None, sym}
use Rattle.std.proofs.lemmas.Bool.{and_from, and_parts, or_right, false≢true}
use Rattle.cam_types.specs.declared.four.Four.{Four}
use Rattle.cam_types.specs.declared.stream.StreamSpec.{StreamSpec}
use Rattle.reprocess_model.specs.Plan.{are_outputs_at, is_output, is_yuv}
use Rattle.reprocess_call.specs.Begun.{no_outputs, outputs_fit}
use Rattle.reprocess_call.specs.Grammar.{one_more_output}

-- the outputs with one more, where they are outputs or none
more-fit : (input spec : StreamSpec) (a b c d : Option StreamSpec) (outs : Four StreamSpec) → (no_outputs (record { a = a; b = b; c = c; d = d }) || are_outputs_at input a b c d) ≡ true → is_output input spec ≡ true → one_more_output (record { a = a; b = b; c = c; d = d }) spec ≡ Some outs → are_outputs_at input outs.a outs.b outs.c outs.d ≡ true
more-fit input spec None None None None outs h k is = let same : record { a = Some spec; b = None; c = None; d = None } ≡ outs = cc in rw (← same) k
more-fit input spec None None None (Some d) outs h k is = absurd (false≢true h)
more-fit input spec None None (Some c) d outs h k is = absurd (false≢true h)
more-fit input spec None (Some b) c d outs h k is = absurd (false≢true h)
more-fit input spec (Some a) None None None outs h k is = let same : record { a = Some a; b = Some spec; c = None; d = None } ≡ outs = cc in rw (← same) (and_from (is_output input a) (is_output input spec) h k)
more-fit input spec (Some a) None None (Some d) outs h k is = absurd (false≢true h)
more-fit input spec (Some a) None (Some c) None outs h k is = absurd (false≢true h)
more-fit input spec (Some a) None (Some c) (Some d) outs h k is = absurd (false≢true h)
more-fit input spec (Some a) (Some b) None None outs h k is =
    let p = and_parts (is_output input a) (is_output input b) h in
    let same : record { a = Some a; b = Some b; c = Some spec; d = None } ≡ outs = cc in
    rw (← same) (and_from (is_output input a) (is_output input b && is_output input spec) p.0 (and_from (is_output input b) (is_output input spec) p.1 k))
more-fit input spec (Some a) (Some b) None (Some d) outs h k is = absurd (false≢true h)
more-fit input spec (Some a) (Some b) (Some c) d outs h k is = absurd (cc)

pub more-outputs : (input spec : StreamSpec) (o : Option StreamSpec) (old outs : Four StreamSpec) → o ≡ Some input → outputs_fit o old ≡ true → is_output input spec ≡ true → Some outs ≡ one_more_output old spec → outputs_fit o outs ≡ true
more-outputs input spec None old outs e h k is = absurd (cc)
more-outputs input spec (Some i) old outs e h k is =
    let same : i ≡ input = cc in
    let parts = and_parts (is_yuv i) (no_outputs old || are_outputs_at i old.a old.b old.c old.d) h in
    let more = more-fit i spec old.a old.b old.c old.d outs parts.1 (rw same k) (sym is) in
    and_from (is_yuv i) (no_outputs outs || are_outputs_at i outs.a outs.b outs.c outs.d) parts.0 (or_right (no_outputs outs) (are_outputs_at i outs.a outs.b outs.c outs.d) more)
