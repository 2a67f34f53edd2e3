use Rattle.std.proofs.Common.{◌∙◌, sym}
use Rattle.basic_lemmas.proofs.Lists.{all-mapped}
use Rattle.trace_model.specs.Place.{Pool as ThePool, is_at}
use Rattle.judge_rows.specs.Homes.{place_of}
use Rattle.judge_rows.specs.declared.homes.Berth.{Berth}
use Rattle.judge_rows.proofs.reading.are_home.Goals as goal

pub returns : goal.returns
returns c = c.all_at_home.ensures ∙ sym (all-mapped (λ p. is_at p ThePool) (λ (b : Berth). place_of b.home) c.args.berths.now)
