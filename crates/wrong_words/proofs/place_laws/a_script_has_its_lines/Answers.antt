use Rattle.wrong_words.proofs.Texts.{stands_in}
use Rattle.wrong_words.proofs.place_laws.a_script_has_its_lines.Goals as goal

pub returns : goal.returns
returns c = stands_in
