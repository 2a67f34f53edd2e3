-- A valid text may have one more line that fits, while there are few.
use Rattle.std.proofs.Common.{◌≡◌, ◌+◌, ◌≤◌, ◌<◌, true, List, [], ◌∷◌, ◌++◌, length, leb, refl, arith}
use Rattle.std.specs.List.{list_all}
use Rattle.std.proofs.lemmas.Bool.{and_parts, and_from, le-leb}
use Rattle.std.proofs.lemmas.Bool.Decides.{nat_tests}
use Rattle.std.proofs.lemmas.List.{length-append}
use Rattle.basic_lemmas.proofs.Lists.{all-append}
use Rattle.arbiter_call.specs.Ranges.{is_count, is_line}
use Rattle.arbiter_call.specs.declared.line.ArbiterLine.{ArbiterLine}
use Rattle.arbiter_call.specs.Valid.{is_valid}
use Rattle.arbiter_call.specs.declared.text.ArbiterText.{ArbiterText}

-- the parts of a valid text
pub record Parts (text : ArbiterText) : Type 0 where
  pub count : is_count text.cameras ≡ true
  pub lines : list_all (is_line text.cameras) text.lines ≡ true
  pub few : length text.lines ≤ 128

pub parts-of : (text : ArbiterText) → is_valid text ≡ true → Parts text
parts-of text h =
    let a = and_parts (is_count text.cameras) _ h in
    let b = and_parts (list_all (is_line text.cameras) text.lines) _ a.1 in
    let few = b.1 in
    record { count = a.0; lines = b.0; few = grind (arith, nat_tests) }

pub added-valid : (text : ArbiterText) (line : ArbiterLine) → is_valid text ≡ true → is_line text.cameras line ≡ true → length text.lines < 128 → is_valid (record text { lines = text.lines ++ line ∷ [] }) ≡ true
added-valid text line h k few =
    let p = parts-of text h in
    let more = length-append text.lines (line ∷ []) in
    let less : length (text.lines ++ line ∷ []) ≤ 128 = omega arith in
    and_from _ _ p.count (and_from _ _ (all-append (is_line text.cameras) text.lines (line ∷ []) p.lines (and_from _ _ k refl)) (le-leb (length (text.lines ++ line ∷ [])) 128 less))
