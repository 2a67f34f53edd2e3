use Rattle.std.proofs.Common.{length}
use Rattle.hal_lines.proofs.list.+are_words.Given as goal

abbrev pub decreases-are_words : goal.decreases-are_words
decreases-are_words g l = length l.words.now
