use Rattle.text_parts.proofs.Cuts.{first-word}
use Rattle.text_parts.proofs.word.first_strict_word.Goals as goal

pub returns-clause-words : goal.returns-clause-words
returns-clause-words c =
    rw (c.split_at.ensures.front, c.split_at.ensures.back)
    (first-word c.args.line.now c.place_of.result c.place_of.ensures.within c.place_of.ensures.before c.place_of.ensures.found)
