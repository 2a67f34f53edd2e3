-- Which values a part of the spelling has, each number in its type's range.
use Rattle.std.specs.Prelude.{◌≡◌, true, false}
use Rattle.metadata.specs.declared.entry.Entry.{Entry}
use Rattle.metadata.specs.Values.{payload, ValuesFit}
use Rattle.metadata.specs.Spelling.{is_short}

abbrev pub ShortFits : Entry → Type 0
ShortFits e = is_short (payload e.values) ≡ true → ValuesFit e.values

abbrev pub LongFits : Entry → Type 0
LongFits e = is_short (payload e.values) ≡ false → ValuesFit e.values
