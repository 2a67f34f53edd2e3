use Rattle.std.proofs.Common.{◌≡◌, map, string_bytes, ap, ◌∙◌}
use Rattle.std.proofs.lemmas.List.{take_all}
use Rattle.call_parts.proofs.program.as_words.Goals as goal

pub returns : goal.returns
returns c = c.loop-text.invariant.same ∙ ap (λ texts. map string_bytes texts) (take_all c.loop-text.text-index c.args.texts.now c.loop-text-test.false)
