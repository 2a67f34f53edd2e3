use Rattle.std.proofs.Common.{◌≡◌, ◌+◌, true, false, get_or, sym, arith}
use Rattle.std.specs.Char.{is_ascii_digit}
use Rattle.text_parts.proofs.Digits.{no_digit, one_too_many, one_more}
use Rattle.text_parts.proofs.number.digits_up_to.Goals as goal

pub returns-then-not-is_ascii_digit-clause-value : goal.returns-then-not-is_ascii_digit-clause-value
returns-then-not-is_ascii_digit-clause-value c =
    let d : is_ascii_digit (get_or c.args.word.now c.loop-byte.byte-index 0) ≡ false = grind arith in
    sym (no_digit c.args.word.now c.loop-byte.byte-index (c.args.greatest + 1) c.loop-byte-test.true d)

pub returns-in_err-value-clause-value : goal.returns-in_err-value-clause-value
returns-in_err-value-clause-value c =
    let d : is_ascii_digit (get_or c.args.word.now c.loop-byte.byte-index 0) ≡ true = grind arith in
    rw c.from_residual.ensures (sym (one_too_many c.args.word.now c.loop-byte.byte-index (c.args.greatest + 1) c.loop-byte.value c.loop-byte-test.true d c.loop-byte.invariant.1 (sym c.in_err-value.ensures)))

pub loop-byte-preserved : goal.loop-byte-preserved
loop-byte-preserved c =
    let d : is_ascii_digit (get_or c.args.word.now c.loop-byte.byte-index 0) ≡ true = grind arith in
    one_more c.args.word.now c.loop-byte.byte-index (c.args.greatest + 1) c.loop-byte.value c.in_ok-value.value c.loop-byte-test.true d c.loop-byte.invariant (sym c.in_ok-value.ensures)
