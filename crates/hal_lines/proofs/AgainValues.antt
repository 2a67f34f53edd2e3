-- The words that are spelled are read again: numbers, names, streams, targets and buffers that come back.
use Rattle.std.proofs.Common.{◌≡◌, ℕ, zero, suc, ◌-◌, ◌<◌, ◌≤◌, ◌^◌, Bool, true, false, ◌&&◌, not, cond, eqb, ltb, leb, List, [], ◌∷◌, ◌++◌, length, take, drop, Option, None, Some, Ok, refl, sym, ap, ◌∙◌, arith}
use Rattle.std.specs.Prelude.{bytes_eq, codes, decimal, replicate}
use Rattle.std.specs.Char.{is_ascii_digit}
use Rattle.std.specs.Fmt.{digit_glyph}
use Rattle.std.specs.List.{list_all}
use Rattle.std.proofs.lemmas.Bool.{and_parts, eqb-true, ltb-true, leb-true, not-true}
use Rattle.std.proofs.lemmas.Bool.Decides.{nat_tests}
use Rattle.std.proofs.lemmas.List.{append-nil, length-drop, length-take, take-append-drop}
use Rattle.basic_lemmas.proofs.Lists.{all-where}
use Rattle.hal_model.specs.declared.event.Direction.{Direction}
use Rattle.hal_model.specs.declared.event.Direction.TheVariants.{Output, Input, Bidirectional}
use Rattle.hal_model.specs.declared.event.ErrorName.{ErrorName}
use Rattle.hal_model.specs.declared.event.HalError.{HalError}
use Rattle.hal_model.specs.declared.event.HalError.TheVariants.{NoDevice, Other}
use Rattle.hal_model.specs.declared.event.HalFence.{HalFence}
use Rattle.hal_model.specs.declared.event.HalFence.TheVariants as fence
use Rattle.hal_model.specs.declared.event.HalFormat.{HalFormat}
use Rattle.hal_model.specs.declared.event.HalFormat.TheVariants as format
use Rattle.hal_model.specs.declared.event.HalStream.{HalStream}
use Rattle.hal_model.specs.declared.event.HalTarget.{HalTarget}
use Rattle.hal_model.specs.declared.event.Returned.{Returned}
use Rattle.hal_model.specs.declared.event.Status.{Status}
use Rattle.hal_model.specs.declared.event.Status.TheVariants.{Filled}
use Rattle.hal_model.specs.declared.event.StreamMax.{StreamMax}
use Rattle.hal_model.specs.Fits.{error_fits, is_error_name, is_format_typed, is_letter, is_max_typed, is_release_typed, is_returned_typed, is_small, is_small_or_none, is_stream_typed, is_target_typed, name_fits}
use Rattle.hal_model.specs.Spelling.{acquire_text, direction_text, error_text, format_text, max_text, number_or, release_text, returned_text, rotation_text, size_text, status_text, stream_text, target_text}
use Rattle.hal_lines.specs.Lines.{is_mark}
use Rattle.hal_lines.specs.Values.{acquire, direction_by, error_of, fences_by, format_of, known, large, max_of, release, returned_of, size_by, small, status_of, stream_of, target_of, turned_by}
use Rattle.hal_lines.proofs.HexadecimalAgain.{hexadecimal-again, hexadecimal-all}
use Rattle.text_parts.specs.Cuts.{parts_at}
use Rattle.text_parts.specs.Words.{is_plain, is_word}
use Rattle.text_parts.proofs.Joined.{avoids, avoids-append, cut-first, cut-none, in-two-again, plain-append, word-from}
use Rattle.text_parts.proofs.Spelled.{number-again, number-avoids, number-first, number-plain, number-word, within-again}

-- ---- numbers

pub below : (n : ℕ) → is_small n ≡ true → n < 2 ^ 64
below n h = omega (arith, ltb-true n (2 ^ 32) h)

pub small-again : (n : ℕ) → is_small n ≡ true → small (decimal n) ≡ Ok n
small-again n h = rw (number-again (2 ^ 32) n (ltb-true n (2 ^ 32) h) (omega arith)) refl

pub large-again : (n : ℕ) → ltb n (2 ^ 64) ≡ true → large (decimal n) ≡ Ok n
large-again n h = rw (number-again (2 ^ 64) n (ltb-true n (2 ^ 64) h) (omega arith)) refl

pub small-word : (n : ℕ) → is_small n ≡ true → is_word (decimal n) ≡ true
small-word n h = number-word n (below n h)

pub number-other : (n c : ℕ) (cs : List ℕ) → is_small n ≡ true → is_ascii_digit c ≡ false → bytes_eq (decimal n) (c ∷ cs) ≡ false
number-other n c cs h d = ap (λ t. bytes_eq t (c ∷ cs)) (sym (append-nil (decimal n))) ∙ number-first n [] c cs (below n h) d

pub known-again : (o : Option ℕ) → is_small_or_none o ≡ true → known (number_or (codes "?") o) ≡ Ok o
known-again None h = refl
known-again (Some n) h = rw (number-other n 63 [] h refl, small-again n h) refl

acquire-again : (o : Option ℕ) → is_small_or_none o ≡ true → acquire (number_or (codes "-") o) ≡ Ok o
acquire-again None h = refl
acquire-again (Some n) h = rw (number-other n 45 [] h refl, small-again n h) refl

release-again : (f : HalFence) → is_release_typed f ≡ true → release (release_text f) ≡ Ok f
unfolding release
release-again fence.Absent h = refl
release-again (fence.Number n) h = rw (number-other n 45 [] h refl, number-other n 63 [] h refl, small-again n h) refl
release-again fence.Foreign h = refl

status-again : (s : Status) → status_of (status_text s) ≡ Ok s
unfolding status_of
status-again Filled = refl
status-again _ = refl

-- ---- their bytes

pub or-avoids : (c : ℕ) (sign : List ℕ) (o : Option ℕ) → is_ascii_digit c ≡ false → avoids c sign ≡ true → is_small_or_none o ≡ true → avoids c (number_or sign o) ≡ true
or-avoids c sign None d s h = s
or-avoids c sign (Some n) d s h = number-avoids c n d (below n h)

pub or-plain : (sign : List ℕ) (o : Option ℕ) → list_all is_plain sign ≡ true → is_small_or_none o ≡ true → list_all is_plain (number_or sign o) ≡ true
or-plain sign None s h = s
or-plain sign (Some n) s h = number-plain n (below n h)

release-avoids : (f : HalFence) → is_release_typed f ≡ true → avoids 58 (release_text f) ≡ true
release-avoids (fence.Number n) h = number-avoids 58 n refl (below n h)
release-avoids _ h = refl

release-plain : (f : HalFence) → is_release_typed f ≡ true → list_all is_plain (release_text f) ≡ true
release-plain (fence.Number n) h = number-plain n (below n h)
release-plain _ h = refl

status-avoids : (s : Status) → avoids 58 (status_text s) ≡ true
status-avoids Filled = refl
status-avoids _ = refl

status-plain : (s : Status) → list_all is_plain (status_text s) ≡ true
status-plain Filled = refl
status-plain _ = refl

pub some-byte : (a : List ℕ) (c : ℕ) (b : List ℕ) → 0 < length (a ++ c ∷ b)
some-byte [] c b = omega arith
some-byte (x ∷ a) c b = omega arith

-- ---- formats and sizes

glyph-no-x : (d : ℕ) → d < 16 → not (eqb (digit_glyph true d) 120) ≡ true
glyph-no-x d l = grind (arith, nat_tests)

glyph-no-colon : (d : ℕ) → d < 16 → not (eqb (digit_glyph true d) 58) ≡ true
glyph-no-colon d l = grind (arith, nat_tests)

glyph-plain : (d : ℕ) → d < 16 → is_plain (digit_glyph true d) ≡ true
glyph-plain d l = grind (arith, nat_tests)

format-no-x : (f : HalFormat) → avoids 120 (format_text f) ≡ true
format-no-x format.Yuv = refl
format-no-x format.Implementation = refl
format-no-x format.Blob = refl
format-no-x format.Raw16 = refl
format-no-x (format.Number n) = hexadecimal-all (λ b. not (eqb b 120)) glyph-no-x n

format-no-colon : (f : HalFormat) → avoids 58 (format_text f) ≡ true
format-no-colon format.Yuv = refl
format-no-colon format.Implementation = refl
format-no-colon format.Blob = refl
format-no-colon format.Raw16 = refl
format-no-colon (format.Number n) = hexadecimal-all (λ b. not (eqb b 58)) glyph-no-colon n

format-plain : (f : HalFormat) → list_all is_plain (format_text f) ≡ true
format-plain format.Yuv = refl
format-plain format.Implementation = refl
format-plain format.Blob = refl
format-plain format.Raw16 = refl
format-plain (format.Number n) = hexadecimal-all is_plain glyph-plain n

format-again : (f : HalFormat) → is_format_typed f ≡ true → format_of (format_text f) ≡ Ok f
unfolding format_of
format-again format.Yuv h = refl
format-again format.Implementation h = refl
format-again format.Blob h = refl
format-again format.Raw16 h = refl
format-again (format.Number n) h = rw (hexadecimal-again n (ltb-true n (2 ^ 32) h)) refl

record TypedStream (s : HalStream) : Type 0 where
  stream : is_small s.stream ≡ true
  format : is_format_typed s.format ≡ true
  width : is_small s.width ≡ true
  height : is_small s.height ≡ true
  rotation : is_small s.rotation ≡ true

typed-stream : (s : HalStream) → is_stream_typed s ≡ true → TypedStream s
typed-stream s h =
    let p = and_parts (is_small s.stream) _ h in
    let q = and_parts (is_format_typed s.format) _ p.1 in
    let r = and_parts (is_small s.width) _ q.1 in
    let t = and_parts (is_small s.height) (is_small s.rotation) r.1 in
    record { stream = p.0; format = q.0; width = r.0; height = t.0; rotation = t.1 }

size-again : (s : HalStream) → TypedStream s → size_by (parts_at 120 (size_text s)) ≡ Ok (s.format, (s.width, s.height))
size-again s t =
    rw (
      cut-first 120 (format_text s.format) (decimal s.width ++ 120 ∷ decimal s.height) (format-no-x s.format),
      cut-first 120 (decimal s.width) (decimal s.height) (number-avoids 120 s.width refl (below s.width t.width)),
      cut-none 120 (decimal s.height) (number-avoids 120 s.height refl (below s.height t.height)),
      format-again s.format t.format,
      small-again s.width t.width,
      small-again s.height t.height,
    ) refl

size-avoids : (s : HalStream) → TypedStream s → avoids 58 (size_text s) ≡ true
size-avoids s t =
    avoids-append 58 (format_text s.format) (120 ∷ (decimal s.width ++ 120 ∷ decimal s.height)) (format-no-colon s.format)
    (avoids-append 58 (decimal s.width) (120 ∷ decimal s.height) (number-avoids 58 s.width refl (below s.width t.width)) (number-avoids 58 s.height refl (below s.height t.height)))

size-plain : (s : HalStream) → TypedStream s → list_all is_plain (size_text s) ≡ true
size-plain s t =
    plain-append (format_text s.format) (120 ∷ (decimal s.width ++ 120 ∷ decimal s.height)) (format-plain s.format)
    (plain-append (decimal s.width) (120 ∷ decimal s.height) (number-plain s.width (below s.width t.width)) (number-plain s.height (below s.height t.height)))

-- ---- rotation and direction

abbrev direction_fields : Direction → List (List ℕ)
direction_fields Output = []
direction_fields Input = codes "in" ∷ []
direction_fields Bidirectional = codes "bidi" ∷ []

direction-again : (d : Direction) → direction_by (direction_fields d) ≡ Ok d
direction-again Output = refl
direction-again _ = refl

direction-plain : (d : Direction) → list_all is_plain (direction_text d) ≡ true
direction-plain Output = refl
direction-plain _ = refl

-- the fields behind a size, where a stream is rotated or not
fields-behind : (b : Bool) (size more : List ℕ) (d : Direction) → avoids 58 size ≡ true → avoids 58 more ≡ true
    → parts_at 58 (size ++ (cond b [] (58 ∷ more) ++ direction_text d)) ≡ size ∷ (cond b [] (more ∷ []) ++ direction_fields d)
fields-behind true size more Output h k = ap (parts_at 58) (append-nil size) ∙ cut-none 58 size h
fields-behind true size more Input h k = cut-first 58 size (codes "in") h
fields-behind true size more Bidirectional h k = cut-first 58 size (codes "bidi") h
fields-behind false size more Output h k =
    cut-first 58 size (more ++ []) h ∙ ap (λ ps. size ∷ ps) (ap (parts_at 58) (append-nil more) ∙ cut-none 58 more k)
fields-behind false size more Input h k =
    cut-first 58 size (more ++ codes ":in") h ∙ ap (λ ps. size ∷ ps) (cut-first 58 more (codes "in") k)
fields-behind false size more Bidirectional h k =
    cut-first 58 size (more ++ codes ":bidi") h ∙ ap (λ ps. size ∷ ps) (cut-first 58 more (codes "bidi") k)

not-rotated : (r : ℕ) (d : Direction) → r ≡ 0 → turned_by (direction_fields d) ≡ Ok (r, d)
not-rotated r Output e = rw e refl
not-rotated r _ e = rw e refl

rotated : (r : ℕ) (d : Direction) → is_small r ≡ true → eqb r 0 ≡ false → turned_by ((114 ∷ decimal r) ∷ direction_fields d) ≡ Ok (r, d)
rotated r d h f =
    let some : 1 ≤ r = grind (arith, nat_tests) in
    let most : r ≤ 4294967295 = omega (arith, ltb-true r (2 ^ 32) h) in
    rw (within-again 1 4294967295 r some most (omega arith), direction-again d) refl

turned-by : (b : Bool) (r : ℕ) (d : Direction) → eqb r 0 ≡ b → is_small r ≡ true → turned_by (cond b [] ((114 ∷ decimal r) ∷ []) ++ direction_fields d) ≡ Ok (r, d)
turned-by true r d e h = not-rotated r d (eqb-true r 0 e)
turned-by false r d e h = rotated r d h e

pub stream-again : (s : HalStream) → is_stream_typed s ≡ true → stream_of (stream_text s) ≡ Ok s
unfolding stream_text
stream-again s h =
    let t = typed-stream s h in
    rw (
      cut-first 58 (decimal s.stream) (size_text s ++ (rotation_text s.rotation ++ direction_text s.direction)) (number-avoids 58 s.stream refl (below s.stream t.stream)),
      fields-behind (eqb s.rotation 0) (size_text s) (114 ∷ decimal s.rotation) s.direction (size-avoids s t) (number-avoids 58 s.rotation refl (below s.rotation t.rotation)),
      small-again s.stream t.stream,
      size-again s t,
      turned-by (eqb s.rotation 0) s.rotation s.direction refl t.rotation,
    ) refl

rotation-plain : (b : Bool) (r : ℕ) → is_small r ≡ true → list_all is_plain (cond b [] (58 ∷ 114 ∷ decimal r)) ≡ true
rotation-plain true r h = refl
rotation-plain false r h = number-plain r (below r h)

pub stream-word : (s : HalStream) → is_stream_typed s ≡ true → is_word (stream_text s) ≡ true
unfolding stream_text
stream-word s h =
    let t = typed-stream s h in
    let behind = size_text s ++ (rotation_text s.rotation ++ direction_text s.direction) in
    word-from (decimal s.stream ++ 58 ∷ behind)
    (plain-append (decimal s.stream) (58 ∷ behind) (number-plain s.stream (below s.stream t.stream))
    (plain-append (size_text s) (rotation_text s.rotation ++ direction_text s.direction) (size-plain s t)
    (plain-append (rotation_text s.rotation) (direction_text s.direction) (rotation-plain (eqb s.rotation 0) s.rotation t.rotation) (direction-plain s.direction))))
    (some-byte (decimal s.stream) 58 behind)

-- what begins with a number is no mark
number-no-mark : (n : ℕ) (rest : List ℕ) → is_small n ≡ true → is_mark (decimal n ++ rest) ≡ false
number-no-mark n rest h =
    let l = below n h in
    rw (number-first n rest 110 (codes "ohandle") l refl, number-first n rest 98 (codes "adsettings") l refl, number-first n rest 105 (codes "nput") l refl) refl

pub stream-no-mark : (s : HalStream) → is_stream_typed s ≡ true → is_mark (stream_text s) ≡ false
unfolding stream_text
stream-no-mark s h = number-no-mark s.stream _ (typed-stream s h).stream

-- ---- what the device takes of a stream

pub max-again : (m : StreamMax) → is_max_typed m ≡ true → max_of (max_text m) ≡ Ok m
max-again m h =
    let p = and_parts (is_small m.stream) (is_small m.max) h in
    rw (
      in-two-again 58 (decimal m.stream) (decimal m.max) (number-avoids 58 m.stream refl (below m.stream p.0)) (number-avoids 58 m.max refl (below m.max p.1)),
      small-again m.stream p.0,
      small-again m.max p.1,
    ) refl

pub max-word : (m : StreamMax) → is_max_typed m ≡ true → is_word (max_text m) ≡ true
max-word m h =
    let p = and_parts (is_small m.stream) (is_small m.max) h in
    word-from (max_text m) (plain-append (decimal m.stream) (58 ∷ decimal m.max) (number-plain m.stream (below m.stream p.0)) (number-plain m.max (below m.max p.1))) (some-byte (decimal m.stream) 58 (decimal m.max))

pub max-no-mark : (m : StreamMax) → is_max_typed m ≡ true → is_mark (max_text m) ≡ false
max-no-mark m h = number-no-mark m.stream (58 ∷ decimal m.max) (and_parts (is_small m.stream) (is_small m.max) h).0

-- ---- targets

-- the three parts of a condition
three : (a b c : Bool) → (a && (b && c)) ≡ true → (a ≡ true) × (b ≡ true) × (c ≡ true)
three a b c h = let p = and_parts a (b && c) h in let q = and_parts b c p.1 in (p.0, q.0, q.1)

pub target-again : (t : HalTarget) → is_target_typed t ≡ true → target_of (target_text t) ≡ Ok t
target-again t h =
    let k = three (is_small t.stream) (is_small t.buffer) (is_small_or_none t.fence) h in
    rw (
      cut-first 58 (decimal t.stream) (98 ∷ (decimal t.buffer ++ 58 ∷ number_or (codes "-") t.fence)) (number-avoids 58 t.stream refl (below t.stream k.0)),
      cut-first 58 (98 ∷ decimal t.buffer) (number_or (codes "-") t.fence) (number-avoids 58 t.buffer refl (below t.buffer k.1)),
      cut-none 58 (number_or (codes "-") t.fence) (or-avoids 58 (codes "-") t.fence refl refl k.2),
      small-again t.stream k.0,
      small-again t.buffer k.1,
      acquire-again t.fence k.2,
    ) refl

pub target-word : (t : HalTarget) → is_target_typed t ≡ true → is_word (target_text t) ≡ true
target-word t h =
    let k = three (is_small t.stream) (is_small t.buffer) (is_small_or_none t.fence) h in
    word-from (target_text t)
    (plain-append (decimal t.stream) (58 ∷ 98 ∷ (decimal t.buffer ++ 58 ∷ number_or (codes "-") t.fence)) (number-plain t.stream (below t.stream k.0))
    (plain-append (decimal t.buffer) (58 ∷ number_or (codes "-") t.fence) (number-plain t.buffer (below t.buffer k.1)) (or-plain (codes "-") t.fence refl k.2)))
    (some-byte (decimal t.stream) 58 (98 ∷ (decimal t.buffer ++ 58 ∷ number_or (codes "-") t.fence)))

pub target-no-mark : (t : HalTarget) → is_target_typed t ≡ true → is_mark (target_text t) ≡ false
target-no-mark t h = number-no-mark t.stream (58 ∷ 98 ∷ (decimal t.buffer ++ 58 ∷ number_or (codes "-") t.fence)) (three (is_small t.stream) (is_small t.buffer) (is_small_or_none t.fence) h).0

-- ---- buffers that come back

fences-again : (f : HalFence) (b : Bool) → is_release_typed f ≡ true → fences_by (parts_at 58 (release_text f ++ acquire_text b)) ≡ Ok (f, b)
fences-again f true h = rw (cut-first 58 (release_text f) (codes "acquire") (release-avoids f h), release-again f h) refl
fences-again f false h = rw (append-nil (release_text f), cut-none 58 (release_text f) (release-avoids f h), release-again f h) refl

acquire-plain : (b : Bool) → list_all is_plain (acquire_text b) ≡ true
acquire-plain true = refl
acquire-plain false = refl

abbrev fences : Returned → List ℕ
fences r = release_text r.release ++ acquire_text r.acquire

pub returned-again : (r : Returned) → is_returned_typed r ≡ true → returned_of (returned_text r) ≡ Ok r
unfolding returned_text
returned-again r h =
    let k = three (is_small_or_none r.stream) (is_small_or_none r.buffer) (is_release_typed r.release) h in
    rw (
      cut-first 58 (number_or (codes "?") r.stream) (98 ∷ (number_or (codes "?") r.buffer ++ 58 ∷ (status_text r.status ++ 58 ∷ fences r))) (or-avoids 58 (codes "?") r.stream refl refl k.0),
      cut-first 58 (98 ∷ number_or (codes "?") r.buffer) (status_text r.status ++ 58 ∷ fences r) (or-avoids 58 (codes "?") r.buffer refl refl k.1),
      cut-first 58 (status_text r.status) (fences r) (status-avoids r.status),
      fences-again r.release r.acquire k.2,
      known-again r.stream k.0,
      known-again r.buffer k.1,
      status-again r.status,
    ) refl

pub returned-word : (r : Returned) → is_returned_typed r ≡ true → is_word (returned_text r) ≡ true
unfolding returned_text
returned-word r h =
    let k = three (is_small_or_none r.stream) (is_small_or_none r.buffer) (is_release_typed r.release) h in
    let status = status_text r.status ++ 58 ∷ fences r in
    let name = number_or (codes "?") r.buffer ++ 58 ∷ status in
    word-from (number_or (codes "?") r.stream ++ 58 ∷ 98 ∷ name)
    (plain-append (number_or (codes "?") r.stream) (58 ∷ 98 ∷ name) (or-plain (codes "?") r.stream refl k.0)
    (plain-append (number_or (codes "?") r.buffer) (58 ∷ status) (or-plain (codes "?") r.buffer refl k.1)
    (plain-append (status_text r.status) (58 ∷ fences r) (status-plain r.status)
    (plain-append (release_text r.release) (acquire_text r.acquire) (release-plain r.release k.2) (acquire-plain r.acquire)))))
    (some-byte (number_or (codes "?") r.stream) 58 (98 ∷ name))

or-no-mark : (o : Option ℕ) (rest : List ℕ) → is_small_or_none o ≡ true → is_mark (number_or (codes "?") o ++ rest) ≡ false
or-no-mark None rest h = refl
or-no-mark (Some n) rest h = number-no-mark n rest h

pub returned-no-mark : (r : Returned) → is_returned_typed r ≡ true → is_mark (returned_text r) ≡ false
unfolding returned_text
returned-no-mark r h = or-no-mark r.stream _ (three (is_small_or_none r.stream) (is_small_or_none r.buffer) (is_release_typed r.release) h).0

-- ---- names of errors

all-zero : (xs : List ℕ) → list_all (λ b. eqb b 0) xs ≡ true → xs ≡ replicate (length xs) 0
all-zero [] h = refl
all-zero (x ∷ xs) h =
    let p = and_parts (eqb x 0) (list_all (λ b. eqb b 0) xs) h in
    rw (eqb-true x 0 p.0) (ap (λ t. 0 ∷ t) (all-zero xs p.1))

drop-zeros : (n m : ℕ) → drop {A = ℕ} n (replicate m 0) ≡ replicate (m - n) 0
drop-zeros zero m = let e : m ≡ m - 0 = omega arith in ap (λ k. replicate k 0) e
drop-zeros (suc n) zero = let e : 0 ≡ 0 - suc n = omega arith in ap (λ k. replicate k 0) e
drop-zeros (suc n) (suc m) = let e : m - n ≡ suc m - suc n = omega arith in drop-zeros n m ∙ ap (λ k. replicate k 0) e

other-same : (name : ErrorName) (count : ℕ) (letters : List ℕ) → count ≡ name.count → letters ≡ name.letters → Other (record { count = count; letters = letters }) ≡ Other name
other-same name count letters e f = let k : Other (record { count = count; letters = letters }) ≡ Other (record { count = name.count; letters = name.letters }) = rw (e, f) refl in k

record FitsName (name : ErrorName) : Type 0 where
  long : length name.letters ≡ 15
  short : name.count ≤ 15
  named : is_error_name (take name.count name.letters) ≡ true
  other : bytes_eq (take name.count name.letters) (codes "ENODEV") ≡ false
  zeros : list_all (λ b. eqb b 0) (drop name.count name.letters) ≡ true

fits-name : (name : ErrorName) → name_fits name ≡ true → FitsName name
fits-name name h =
    let p = and_parts (eqb (length name.letters) 15 && leb name.count 15) _ h in
    let q = and_parts (eqb (length name.letters) 15) (leb name.count 15) p.0 in
    let r = and_parts (is_error_name (take name.count name.letters) && not (bytes_eq (take name.count name.letters) (codes "ENODEV"))) _ p.1 in
    let s = and_parts (is_error_name (take name.count name.letters)) _ r.0 in
    record { long = eqb-true _ _ q.0; short = leb-true _ _ q.1; named = s.0; other = not-true _ s.1; zeros = r.1 }

pub error-again : (e : HalError) → error_fits e ≡ true → error_of (error_text e) ≡ Ok e
unfolding error_of
error-again NoDevice h = refl
error-again (Other name) h =
    let f = fits-name name h in
    let n : length (take name.count name.letters) ≡ name.count = omega (arith, length-take name.count name.letters, f.long, f.short) in
    let rest : drop name.count name.letters ≡ replicate (15 - name.count) 0 =
    all-zero (drop name.count name.letters) f.zeros ∙ ap (λ k. replicate k 0) (omega (arith, length-drop name.count name.letters, f.long)) in
    let padded : take name.count name.letters ++ drop (length (take name.count name.letters)) (replicate 15 0) ≡ name.letters =
    ap (λ k. take name.count name.letters ++ k) (drop-zeros (length (take name.count name.letters)) 15 ∙ ap (λ k. replicate (15 - k) 0) n ∙ sym rest)
    ∙ take-append-drop name.count name.letters in
    rw (f.named, f.other) (ap Ok (other-same name _ _ n padded))

letter-plain : (b : ℕ) → is_letter b ≡ true → is_plain b ≡ true
letter-plain b h = grind (arith, nat_tests)

pub error-word : (e : HalError) → error_fits e ≡ true → is_word (error_text e) ≡ true
error-word NoDevice h = refl
error-word (Other name) h =
    let f = fits-name name h in
    let p = and_parts (list_all is_letter (take name.count name.letters)) _ f.named in
    let q = and_parts (leb 1 (length (take name.count name.letters))) _ p.1 in
    word-from (take name.count name.letters) (all-where is_letter is_plain (take name.count name.letters) letter-plain p.0) (omega (arith, leb-true _ _ q.0))
