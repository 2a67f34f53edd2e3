use Rattle.std.proofs.Common.{◌≡◌, ◌∙◌, List, None, replicate, ap, arith}
use Rattle.std.proofs.lemmas.Grind.{common_steps}
use Rattle.judge_rows.specs.Homes.{fences_in, helds_in, place_of, places_in}
use Rattle.judge_rows.specs.declared.homes.Berth.{Berth}
use Rattle.judge_rows.specs.declared.homes.Home.TheVariants.{Pool as HomePool}
use Rattle.judge_rows.proofs.homes.fill_fresh.Goals as goal
use Rattle.basic_lemmas.proofs.Tests.{map-replicate}

abbrev fresh : Berth
fresh = record { home = HomePool; fence = None; held = None }

pub returns-clause-places : goal.returns-clause-places
returns-clause-places c =
    let items : c.resize.new.self.items ≡ replicate c.args.count fresh = grind (arith, common_steps) in
    ap (λ (z : List Berth). places_in z) items ∙ map-replicate (λ (b : Berth). place_of b.home) c.args.count fresh

pub returns-clause-fences : goal.returns-clause-fences
returns-clause-fences c =
    let items : c.resize.new.self.items ≡ replicate c.args.count fresh = grind (arith, common_steps) in
    ap (λ (z : List Berth). fences_in z) items ∙ map-replicate (λ (b : Berth). b.fence) c.args.count fresh

pub returns-clause-held : goal.returns-clause-held
returns-clause-held c =
    let items : c.resize.new.self.items ≡ replicate c.args.count fresh = grind (arith, common_steps) in
    ap (λ (z : List Berth). helds_in z) items ∙ map-replicate (λ (b : Berth). b.held) c.args.count fresh
