use Rattle.std.proofs.Common.{◌≡◌, Bool, true, false, List, ◌++◌, option_to_list, sym, ◌∙◌}
use Rattle.std.specs.List.{list_any}
use Rattle.std.proofs.lemmas.List.Folds.{list_any-append}
use Rattle.service_core.specs.Looks.{fits}
use Rattle.service_core.proofs.looks.may_have_some.Goals as goal

module _ {X : Type 0} (p : X → Bool) (xs ys : List X) (r : Bool) where
  at_first : r ≡ list_any p xs → r ≡ true → r ≡ list_any p (xs ++ ys)
  at_first told so = rw (list_any-append p xs ys, sym told ∙ so) so

  at_others : (s : Bool) → s ≡ list_any p xs → s ≡ false → r ≡ list_any p ys → r ≡ list_any p (xs ++ ys)
  at_others s told not rest = rw (list_any-append p xs ys, sym told ∙ not) rest

pub returns-then-fits_at : goal.returns-then-fits_at
returns-then-fits_at c =
    at_first (fits c.args.script.now c.args.kind c.args.row) (option_to_list c.args.row.targets.a) _ _ c.fits_at.ensures c.if-fits_at.true

pub returns-then-fits_at-2 : goal.returns-then-fits_at-2
returns-then-fits_at-2 c =
    let p = fits c.args.script.now c.args.kind c.args.row in
    let t = c.args.row.targets in
    at_others p (option_to_list t.a) _ _ _ c.fits_at.ensures c.if-fits_at.false (at_first p (option_to_list t.b) _ _ c.fits_at-else-fits_at.ensures c.if-fits_at-2.true)

pub returns-then-fits_at-3 : goal.returns-then-fits_at-3
returns-then-fits_at-3 c =
    let p = fits c.args.script.now c.args.kind c.args.row in
    let t = c.args.row.targets in
    at_others p (option_to_list t.a) _ _ _ c.fits_at.ensures c.if-fits_at.false
    (at_others p (option_to_list t.b) _ _ _ c.fits_at-else-fits_at.ensures c.if-fits_at-2.false (at_first p (option_to_list t.c) _ _ c.fits_at-else-fits_at-2.ensures c.if-fits_at-3.true))

pub returns-else-fits_at-3 : goal.returns-else-fits_at-3
returns-else-fits_at-3 c =
    let p = fits c.args.script.now c.args.kind c.args.row in
    let t = c.args.row.targets in
    at_others p (option_to_list t.a) _ _ _ c.fits_at.ensures c.if-fits_at.false
    (at_others p (option_to_list t.b) _ _ _ c.fits_at-else-fits_at.ensures c.if-fits_at-2.false (at_others p (option_to_list t.c) _ _ _ c.fits_at-else-fits_at-2.ensures c.if-fits_at-3.false c.fits_at-else-fits_at-3.ensures))
