use Rattle.std.proofs.Common.{◌≡◌, ◌==◌, nat_lt, true, false, arith}
use Rattle.std.specs.List.{list_any}
use Rattle.std.proofs.lemmas.Bool.Decides.{nat_tests}
use Rattle.judge_rows.proofs.FenceLemmas.{mark-at}
use Rattle.judge_rows.proofs.fences.FenceBook.is_signalled.Goals as goal

pub returns-then-number-self : goal.returns-then-number-self
returns-then-number-self c =
    let at = mark-at c.self.inside.waiting.items c.self.inside.count c.args.number in
    let within : nat_lt c.args.number c.self.inside.count ≡ true = grind (arith, nat_tests) in
    let stands : c.stands.result ≡ list_any (λ n. n == c.args.number) c.self.inside.waiting.items = grind arith in
    rw (← c.self.view_is) (rw (at, within, stands) (grind arith))

pub returns-else-number-self : goal.returns-else-number-self
returns-else-number-self c =
    let at = mark-at c.self.inside.waiting.items c.self.inside.count c.args.number in
    let past : nat_lt c.args.number c.self.inside.count ≡ false = grind (arith, nat_tests) in
    rw (← c.self.view_is) (rw (at, past) (grind arith))
