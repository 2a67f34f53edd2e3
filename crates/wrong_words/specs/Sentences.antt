-- Why an input isn't read, in words: one sentence for each cause of docs/FORMATS.md, Causes, and what may stand in the
-- places of its lines. (Words of lines are those of docs/FORMATS.md, Script text and Trace text.)
use Rattle.std.specs.Prelude.{ℕ, List, Option, Some, None, bytes_eq, codes, if◌then◌else◌}
use Rattle.text_parts.specs.declared.cause.Cause.{Cause}
use Rattle.text_parts.specs.declared.cause.Cause.TheVariants as script
use Rattle.trace_reader.specs.declared.cause.Cause.{Cause as TraceCause}
use Rattle.trace_reader.specs.declared.cause.Cause.TheVariants as trace
use Rattle.wrong_words.specs.declared.word_kind.WordKind.{WordKind}
use Rattle.wrong_words.specs.declared.word_kind.WordKind.TheVariants as kind

-- the cause of a script's line
unfoldable pub script_sentence : Cause → List ℕ
script_sentence script.NotAscii = codes "A byte of the line isn't from 0x20 to 0x7E"
script_sentence script.Version = codes "The first line that counts isn't camera 1 or camera 2"
script_sentence script.UnknownWord = codes "The first word isn't that of any line of its version, or the word after fault isn't that of a fault"
script_sentence script.BadNumber = codes "A word in the place of a number, a stream or an item isn't one, or is out of its range"
script_sentence script.Missing = codes "The line has too few words"
script_sentence script.Extra = codes "The line has too many words"
script_sentence script.Limit = codes "With this line a limit is passed"
script_sentence script.FaultAfterCommand = codes "A fault, pick, early or device line stands after a command"

-- the cause of a trace's line
unfoldable pub trace_sentence : TraceCause → List ℕ
trace_sentence trace.Truncated = codes "No complete line of the trace is end"
trace_sentence trace.BadNumber = codes "A number or a hexadecimal text isn't one in its one spelling, or is out of its range"
trace_sentence trace.BadLine = codes "The line has none of the shapes of a trace's lines at its place"
trace_sentence trace.BadMetadata = codes "The text of a partial line isn't the packed form of the part with its number"

-- the first words of a script's lines
unfoldable pub line_words : List ℕ
line_words = codes "device, early, fault, pick, configure, once, burst, repeat, stop, wait, await, flush, close or disconnect"

-- the words behind `fault`
unfoldable pub fault_words : List ℕ
fault_words = codes "request, result, buffer or device"

-- the version lines of a script
unfoldable pub version_lines : List ℕ
version_lines = codes "camera 1 or camera 2"

-- the sentence of a script that is too long
unfoldable pub long_script : List ℕ
long_script = codes "The script has more than 65536 bytes"

-- the sentence of an input that is too long
unfoldable pub long_input : List ℕ
long_input = codes "The input has more than 134217728 bytes"

-- the sentence of a trace whose profile isn't its script's
unfoldable pub other_profile : List ℕ
other_profile = codes "Both parts are read, but the trace's profile isn't the script's"

-- what may stand as the text of a `partial` line
unfoldable pub packed_part : List ℕ
packed_part = codes "the packed form of that part"

-- the first words of a trace's lines
unfoldable pub trace_words : List ℕ
trace_words = codes "trace on the first line, then begin, call, send, drop, shutter, partial, buffer, early, filled, error, release or signal, and end"

-- what may stand in a place that asks for the kind
unfoldable pub kind_text : WordKind → List ℕ
kind_text kind.Any = codes "a word"
kind_text kind.Number = codes "a number from 0 to 4294967295"
kind_text kind.Byte = codes "a number from 0 to 255"
kind_text kind.Count = codes "a number from 1 to 4294967295"
kind_text kind.ProfileNumber = codes "a number from 1 to 16"
kind_text kind.Time = codes "a number from 0 to 18446744073709551615"
kind_text kind.PartNumber = codes "1, 2 or 3"
kind_text kind.Item = codes "SETTINGS@TARGETS, as preview@0 or 2,128,10000000,100@0+1"
kind_text kind.Spec = codes "FORMAT:WxH, as raw16:160x120, or in:FORMAT:WxH"
kind_text kind.Buffer = codes "bB: b and a number from 0 to 4294967295"
kind_text kind.Fence = codes "fF: f and a number from 0 to 4294967295"
kind_text kind.FenceOrNone = codes "fF: f and a number from 0 to 4294967295, or -"
kind_text kind.DeviceFence = codes "dK: d and a number from 0 to 4294967295"
kind_text kind.ItemName = codes "rR.I with numbers from 0 to 4294967295"
kind_text kind.Reply = codes "rR, or of a configure S:bB+C, with numbers from 0 to 4294967295, S to 255"
kind_text kind.Target = codes "S:bB:F with S from 0 to 255, a number B and a fence fF or -"
kind_text kind.Bytes = codes "bytes of two hexadecimal digits each, 0 to 9 and a to f"
kind_text kind.Digest = codes "64 hexadecimal digits, 0 to 9 and a to f"

-- the form of a script's lines with this first word; other words stand alone
unfoldable pub script_form : List ℕ → Option (List ℕ)
script_form first =
    if bytes_eq first (codes "fault")
    then Some (codes "fault request N | fault result N | fault buffer N S | fault device N")
    else (if bytes_eq first (codes "pick")
    then Some (codes "pick P ..")
    else (if bytes_eq first (codes "device")
    then Some (codes "device DEPTH RAW YUV")
    else (if bytes_eq first (codes "early")
    then Some (codes "early")
    else (if bytes_eq first (codes "configure")
    then Some (codes "configure SPEC ..")
    else (if bytes_eq first (codes "once")
    then Some (codes "once ITEM")
    else (if bytes_eq first (codes "burst")
    then Some (codes "burst ITEM ..")
    else (if bytes_eq first (codes "repeat")
    then Some (codes "repeat ITEM ..")
    else (if bytes_eq first (codes "await")
    then Some (codes "await K")
    else None))))))))

-- the limits that a script's line with this first word may pass
unfoldable pub script_limits : List ℕ → List ℕ
script_limits first =
    if bytes_eq first (codes "fault")
    then codes "64 faults"
    else (if bytes_eq first (codes "pick")
    then codes "8192 picks"
    else (if bytes_eq first (codes "device")
    then codes "one device line"
    else (if bytes_eq first (codes "configure")
    then codes "16 streams of a configure; 512 commands, with the close that is added"
    else (if bytes_eq first (codes "burst")
    then codes "32 items of a burst, 8 targets of an item; 512 commands, with the close that is added"
    else (if bytes_eq first (codes "repeat")
    then codes "8 items of a repeat, 8 targets of an item; 512 commands, with the close that is added"
    else (if bytes_eq first (codes "once")
    then codes "8 targets of an item; 512 commands, with the close that is added"
    else (if bytes_eq first (codes "await")
    then codes "16384 for the sum of all await; 512 commands, with the close that is added"
    else codes "512 commands, with the close that is added")))))))

-- the forms of a trace's lines of buffers, errors and fences
unfoldable pub return_form : List ℕ → Option (List ℕ)
return_form first =
    if bytes_eq first (codes "buffer")
    then Some (codes "buffer N S bB ok - HEX | buffer N S bB error F")
    else (if bytes_eq first (codes "early")
    then Some (codes "early N S bB dK")
    else (if bytes_eq first (codes "filled")
    then Some (codes "filled dK HEX")
    else (if bytes_eq first (codes "error")
    then Some (codes "error request N | error result N | error buffer N S | error device")
    else (if bytes_eq first (codes "release")
    then Some (codes "release bB fF")
    else (if bytes_eq first (codes "signal")
    then Some (codes "signal fF")
    else None)))))

-- the forms of a trace's lines with this first word; nothing where there are none
unfoldable pub trace_form : List ℕ → Option (List ℕ)
trace_form first =
    if bytes_eq first (codes "trace")
    then Some (codes "trace 1 | trace 2 DEPTH RAW YUV")
    else (if bytes_eq first (codes "begin")
    then Some (codes "begin W")
    else (if bytes_eq first (codes "call")
    then Some (codes "call I W = ok | call I W = ok rR | call I configure = ok S:bB+C .. | call I W = refused CODE ..")
    else (if bytes_eq first (codes "send")
    then Some (codes "send N rR.I new S:bB:F .. | send N rR.I same S:bB:F ..")
    else (if bytes_eq first (codes "drop")
    then Some (codes "drop N rR.I")
    else (if bytes_eq first (codes "shutter")
    then Some (codes "shutter N T")
    else (if bytes_eq first (codes "partial")
    then Some (codes "partial N K HEX")
    else return_form first))))))
