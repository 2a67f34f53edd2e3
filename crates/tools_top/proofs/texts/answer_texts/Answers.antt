use Rattle.std.proofs.Common.{◌≡◌, ℕ, List, ap, map, sym, rules, ◌∙◌, Bor}
use Rattle.std.specs.Prelude.{string_bytes}
use Rattle.call_parts.proofs.Sinks.{nothing_read}
use Rattle.call_parts.specs.Program.{number_of}
use Rattle.tools_top.specs.Words.{limit_of}
use Rattle.tools_top.specs.Tools.{tool_of}
use Rattle.tools_top.proofs.Words.{same_tool}
use Rattle.tools_top.proofs.texts.answer_texts.Goals as goal

pub returns-in_err-words-clause-read : goal.returns-in_err-words-clause-read
returns-in_err-words-clause-read g c words same =
    let five : number_of c.from_residual.result ≡ 5 = search rules in
    rw five (nothing_read (limit_of (tool_of words)) (g.S.Source.left c.args.source.now) (g.S.Source.left c.args.source.now))

pub returns : goal.returns
returns g c =
    let said = c.tools_main.ensures in
    let alike : (words : List (Bor (List ℕ))) → map (λ word. word.now) words ≡ map string_bytes c.args.texts.now → tool_of c.as_slice.result.now ≡ tool_of words = λ words same. same_tool c.as_slice.result.now words (ap (λ items. map (λ word. word.now) items) c.as_slice.ensures.value ∙ (c.in_ok-words.ensures ∙ sym same)) in
    record {
      tells = λ words same. rw (alike words same) at said.tells;
      source = said.source;
      sink = said.sink;
      read = λ words same. rw (alike words same) at said.read;
      unread = λ words same none. let told = said.unread (rw (alike words same) none) in (told.0, told.1, told.2, told.3);
      known = said.known;
    }
