use Rattle.std.proofs.Common.{◌≡◌, ℕ, List, ap, map, sym, rules, ◌∙◌, Bor}
use Rattle.std.specs.Prelude.{string_bytes}
use Rattle.call_parts.proofs.Sinks.{nothing_read}
use Rattle.call_parts.specs.Program.{number_of}
use Rattle.camera_top.specs.Words.{limit_of}
use Rattle.text_parts.specs.Forms.{form_of}
use Rattle.camera_top.proofs.Words.{same_form}
use Rattle.camera_top.proofs.texts.answer_texts.Goals as goal

pub returns-in_err-words-clause-read : goal.returns-in_err-words-clause-read
returns-in_err-words-clause-read g c words same =
    let five : number_of c.from_residual.result ≡ 5 = search rules in
    rw five (nothing_read (limit_of (form_of words)) (g.S.Source.left c.args.source.now) (g.S.Source.left c.args.source.now))

pub returns : goal.returns
returns g c =
    let said = c.camera_main.ensures in
    let alike : (words : List (Bor (List ℕ))) → map (λ word. word.now) words ≡ map string_bytes c.args.texts.now → form_of c.as_slice.result.now ≡ form_of words = λ words same. same_form c.as_slice.result.now words (ap (λ items. map (λ word. word.now) items) c.as_slice.ensures.value ∙ (c.in_ok-words.ensures ∙ sym same)) in
    record {
      tells = λ words same. rw (alike words same) at said.tells;
      source = said.source;
      sink = said.sink;
      read = λ words same. rw (alike words same) at said.read;
      unread = λ words same none. said.unread (rw (alike words same) none);
      known = said.known;
    }
