use Rattle.std.proofs.Common.{◌≡◌, true, false, get_or, sym, arith, add-one}
use Rattle.std.specs.Char.{is_ascii_digit}
use Rattle.text_parts.proofs.Digits.{not_digits, digits-more}
use Rattle.text_parts.proofs.number.are_digits.Goals as goal

pub returns-then-not-is_ascii_digit : goal.returns-then-not-is_ascii_digit
returns-then-not-is_ascii_digit c =
    let d : is_ascii_digit (get_or c.args.word.now c.loop-byte.byte-index 0) ≡ false = grind arith in
    sym (not_digits c.args.word.now c.loop-byte.byte-index c.loop-byte-test.true d)

pub loop-byte-preserved : goal.loop-byte-preserved
loop-byte-preserved c =
    let d : is_ascii_digit (get_or c.args.word.now c.loop-byte.byte-index 0) ≡ true = grind arith in
    rw add-one (digits-more c.args.word.now c.loop-byte.byte-index c.loop-byte-test.true c.loop-byte.invariant d)
