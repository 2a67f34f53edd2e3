use Rattle.wrong_words.proofs.WordTexts.{bad_word}
use Rattle.wrong_words.proofs.word_laws.a_bad_word_is_found.Goals as goal

pub returns : goal.returns
returns c = bad_word
