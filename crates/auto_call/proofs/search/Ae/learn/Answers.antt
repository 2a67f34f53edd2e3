use Rattle.std.proofs.Common.{◌≡◌, ◌+◌, ap, sym, ◌∙◌, subst}
use Rattle.std.specs.Prelude.{nat_le}
use Rattle.auto_call.specs.Search.{Search, Spans, narrowed}
use Rattle.auto_call.specs.Brightness.{least}
use Rattle.auto_call.specs.Scene.{seen}
use Rattle.auto_call.proofs.Found.{spans-seen, measured-more}
use Rattle.auto_call.proofs.search.Ae.learn.Goals as goal

pub returns-clause-keeps : goal.returns-clause-keeps
returns-clause-keeps c = λ s n still is span.
    let P : Search → Type 0 = λ next. Spans next (least s c.args.target) in
    let seen-next : seen s c.args.target n c.args.self.now ≡ c.narrow.new.self =
    ap (λ m. narrowed (nat_le c.args.target m) c.args.self.now) (sym is) ∙ sym c.narrow.ensures.value in
    subst P seen-next (spans-seen s c.args.target n c.args.self.now still c.narrow.ensures.within span)

pub returns-clause-follows : goal.returns-clause-follows
returns-clause-follows c = λ s first frames was is.
    let seen-next : c.narrow.new.self ≡ seen s c.args.target (first + frames) c.args.self.now =
    c.narrow.ensures.value ∙ ap (λ m. narrowed (nat_le c.args.target m) c.args.self.now) is in
    seen-next ∙ (ap (seen s c.args.target (first + frames)) was ∙ measured-more s c.args.target first frames)
