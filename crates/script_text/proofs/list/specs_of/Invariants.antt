use Rattle.std.proofs.Common.{◌≡◌, true, length}
use Rattle.text_parts.specs.Words.{loose_words}
use Rattle.text_parts.specs.Values.{all_of}
use Rattle.script_text.specs.Values.{spec_of}
use Rattle.script_text.specs.Within.{specs_within}
use Rattle.text_parts.proofs.Fronts.{with_front}
use Rattle.script_text.proofs.list.specs_of.Given as goal

abbrev pub invariant-loop-word : goal.invariant-loop-word
invariant-loop-word l = record {
  same : with_front l.specs (all_of spec_of (loose_words l.rest)) ≡ all_of spec_of (loose_words l.words);
  within : specs_within l.specs ≡ true;
}

abbrev pub decreases-loop-word : goal.decreases-loop-word
decreases-loop-word l = length l.rest
