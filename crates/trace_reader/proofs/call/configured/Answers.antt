use Rattle.std.proofs.Common.{◌≡◌, [], Ok, Err, sym, ◌∙◌, rules, arith}
use Rattle.std.proofs.lemmas.Grind.{common_steps}
use Rattle.std.proofs.lemmas.Result.{err_from_is_err_and}
use Rattle.trace_reader.specs.Values.{both, made}
use Rattle.text_parts.specs.Words.{strict_words_behind}
use Rattle.trace_reader.proofs.Fours.{four_read, joined_ok, joined_err}
use Rattle.trace_reader.proofs.call.configured.Goals as goal

pub returns-in_err-a : goal.returns-in_err-a
returns-in_err-a c =
    let p = err_from_is_err_and c.from_residual.result c.from_residual.ensures.1 in
    let none : strict_words_behind c.next_made-d.result.1.now ≡ [] = first_of (grind (arith, common_steps), search rules) in
    let four = four_read made (strict_words_behind c.args.rest.now) (strict_words_behind c.next_made-a.result.1.now) (strict_words_behind c.next_made-b.result.1.now) (strict_words_behind c.next_made-c.result.1.now) (strict_words_behind c.next_made-d.result.1.now) c.next_made-a.result.0 c.next_made-b.result.0 c.next_made-c.result.0 c.next_made-d.result.0 c.next_made-a.ensures.value c.next_made-a.ensures.rest c.next_made-b.ensures.value c.next_made-b.ensures.rest c.next_made-c.ensures.value c.next_made-c.ensures.rest c.next_made-d.ensures.value c.next_made-d.ensures.rest none in
    let was : c.both-3.result ≡ Err c.in_err-a.field-0.0 = c.in_err-a.was in
    let failed : both c.next_made-a.result.0 (both c.next_made-b.result.0 (both c.next_made-c.result.0 c.next_made-d.result.0)) ≡ Err c.in_err-a.field-0.0 = cc in
    let whole = four ∙ joined_err c.next_made-a.result.0 c.next_made-b.result.0 c.next_made-c.result.0 c.next_made-d.result.0 c.in_err-a.field-0.0 failed in
    cc (p.1, p.2, whole)

pub returns : goal.returns
returns c =
    let none : strict_words_behind c.next_made-d.result.1.now ≡ [] = first_of (grind (arith, common_steps), search rules) in
    let four = four_read made (strict_words_behind c.args.rest.now) (strict_words_behind c.next_made-a.result.1.now) (strict_words_behind c.next_made-b.result.1.now) (strict_words_behind c.next_made-c.result.1.now) (strict_words_behind c.next_made-d.result.1.now) c.next_made-a.result.0 c.next_made-b.result.0 c.next_made-c.result.0 c.next_made-d.result.0 c.next_made-a.ensures.value c.next_made-a.ensures.rest c.next_made-b.ensures.value c.next_made-b.ensures.rest c.next_made-c.ensures.value c.next_made-c.ensures.rest c.next_made-d.ensures.value c.next_made-d.ensures.rest none in
    let was : c.both-3.result ≡ Ok (c.in_ok-a.a, (c.in_ok-a.b, (c.in_ok-a.c, c.in_ok-a.d))) = c.in_ok-a.was in
    let read : both c.next_made-a.result.0 (both c.next_made-b.result.0 (both c.next_made-c.result.0 c.next_made-d.result.0)) ≡ Ok (c.in_ok-a.a, (c.in_ok-a.b, (c.in_ok-a.c, c.in_ok-a.d))) = cc in
    sym (four ∙ joined_ok c.next_made-a.result.0 c.next_made-b.result.0 c.next_made-c.result.0 c.next_made-d.result.0 c.in_ok-a.a c.in_ok-a.b c.in_ok-a.c c.in_ok-a.d read)
