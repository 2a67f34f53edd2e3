use Rattle.std.proofs.Common.{◌≡◌, true, rules, arith}
use Rattle.hal_lines.specs.Values.{is_hexadecimal_number}
use Rattle.hal_lines.proofs.Hexadecimal.{digit-at, hexadecimal-facts, room, small-more, value-more}
use Rattle.hal_lines.proofs.value.hexadecimal.Goals as goal

pub overflow_mul-value : goal.overflow_mul-value
overflow_mul-value c =
    let h : is_hexadecimal_number c.args.word.now ≡ true = first_of (search rules, grind arith) in
    let f = hexadecimal-facts c.args.word.now h in
    let r = room c.loop-byte.value c.loop-byte.byte-index c.loop-byte.invariant.small (omega (arith, f.0)) in
    first_of (omega (arith, r), search rules, grind arith)

pub digit-requires : goal.digit-requires
digit-requires c =
    let h : is_hexadecimal_number c.args.word.now ≡ true = first_of (search rules, grind arith) in
    let f = hexadecimal-facts c.args.word.now h in
    digit-at c.args.word.now c.loop-byte.byte-index (first_of (omega arith, search rules, grind arith)) f.1

pub overflow_add-value : goal.overflow_add-value
overflow_add-value c =
    let h : is_hexadecimal_number c.args.word.now ≡ true = first_of (search rules, grind arith) in
    let f = hexadecimal-facts c.args.word.now h in
    let r = room c.loop-byte.value c.loop-byte.byte-index c.loop-byte.invariant.small (omega (arith, f.0)) in
    let b = c.digit.ensures.below in
    first_of (omega (arith, r, b), search rules, grind arith)

pub loop-byte-preserved : goal.loop-byte-preserved
loop-byte-preserved c = record {
  same = value-more c.args.word.now c.loop-byte.byte-index c.loop-byte.value c.digit.result (first_of (omega arith, search rules, grind arith)) c.loop-byte.invariant.same c.digit.ensures.value;
  small = small-more c.loop-byte.value c.loop-byte.byte-index c.digit.result c.loop-byte.invariant.small c.digit.ensures.below;
}
