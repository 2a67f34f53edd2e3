-- Values that are spelled are read again.
use Rattle.std.proofs.Common.{◌≡◌, ℕ, zero, suc, ◌-◌, ◌<◌, ◌≤◌, ◌^◌, Bool, true, false, ◌&&◌, not, cond, eqb, ltb, leb, List, [], ◌∷◌, ◌++◌, length, take, drop, map, replicate, Option, Some, refl, sym, ap, ◌∙◌, arith}
use Rattle.std.specs.Prelude.{codes, decimal, nat_eq}
use Rattle.std.specs.List.{flat_map, join_by, list_all, starts_with}
use Rattle.std.specs.Char.{is_ascii_digit}
use Rattle.std.proofs.lemmas.Bool.{and_parts, and_from, eq-eqb, ltb-true, leb-true, eqb-true, not-true}
use Rattle.std.proofs.lemmas.Bool.Decides.{nat_tests}
use Rattle.std.proofs.lemmas.List.{length-take, take-append-drop, length-drop}
use Rattle.cam_types.specs.declared.item.Item.{Item}
use Rattle.cam_types.specs.declared.item.Settings.{Settings}
use Rattle.cam_types.specs.declared.item.Targets.{Targets}
use Rattle.cam_types.specs.declared.stream.Format.{Format}
use Rattle.cam_types.specs.declared.stream.Format.TheVariants.{Raw16, Yuv, Other}
use Rattle.cam_types.specs.declared.stream.StreamSpec.{StreamSpec}
use Rattle.script_text.proofs.Fitting.{settings_fit, targets_fit, item_fits, format_fits, spec_fits}
use Rattle.text_parts.specs.Numbers.{number_below}
use Rattle.text_parts.specs.Values.{all_of, four_numbers}
use Rattle.script_text.specs.Values.{format_of, side_of, stream_of, spec_of, settings_of, targets, joined_targets, targets_of, item_of}
use Rattle.script_text.specs.Spelling.{settings_text, targets_text, item_text, format_text, spec_text}
use Rattle.script_text.proofs.Valid.{is_byte}
use Rattle.basic_lemmas.proofs.Lists.{all-where, all-taken}
use Rattle.text_parts.specs.Words.{is_plain, is_word}
use Rattle.text_parts.proofs.Joined.{avoids, avoids-append, in-two-again, join-parts, plain-append}
use Rattle.text_parts.proofs.Spelled.{number-again, number-avoids, number-first, number-plain, more-avoid, more-plain}

-- ---- streams

format-again : (f : Format) → format_fits f ≡ true → format_of (format_text f) ≡ Some f
unfolding format_of
format-again Raw16 h = refl
format-again Yuv h = refl
format-again (Other n) h =
    let p = and_parts (ltb n (2 ^ 32)) _ h in
    let q = and_parts (not (eqb n 32)) _ p.1 in
    rw (number-again (2 ^ 32) n (ltb-true _ _ p.0) (omega arith), not-true _ q.0, not-true _ q.1) refl

format-avoids : (f : Format) → format_fits f ≡ true → avoids 58 (format_text f) ≡ true
format-avoids Raw16 h = refl
format-avoids Yuv h = refl
format-avoids (Other n) h = number-avoids 58 n refl (let p = and_parts (ltb n (2 ^ 32)) _ h in omega (arith, ltb-true _ _ p.0))

format-plain : (f : Format) → format_fits f ≡ true → list_all is_plain (format_text f) ≡ true
format-plain Raw16 h = refl
format-plain Yuv h = refl
format-plain (Other n) h = number-plain n (let p = and_parts (ltb n (2 ^ 32)) _ h in omega (arith, ltb-true _ _ p.0))

side-again : (n : ℕ) → 0 < n → n < 2 ^ 16 → side_of (decimal n) ≡ Some n
unfolding side_of
side-again n l u = let z : eqb n 0 ≡ false = grind (arith, nat_tests) in rw (number-again (2 ^ 16) n u (omega arith), z) refl

pub record FitsStream (s : StreamSpec) : Type 0 where
  format : format_fits s.format ≡ true
  width_some : 0 < s.width
  width : s.width < 2 ^ 16
  height_some : 0 < s.height
  height : s.height < 2 ^ 16

fits-stream : (s : StreamSpec) → spec_fits s ≡ true → FitsStream s
fits-stream s h =
    let p = and_parts (format_fits s.format) _ h in
    let q = and_parts (ltb 0 s.width && ltb s.width (2 ^ 16)) _ p.1 in
    let w = and_parts (ltb 0 s.width) _ q.0 in
    let g = and_parts (ltb 0 s.height) _ q.1 in
    record { format = p.0; width_some = ltb-true _ _ w.0; width = ltb-true _ _ w.1; height_some = ltb-true _ _ g.0; height = ltb-true _ _ g.1 }

abbrev stream_text : StreamSpec → List ℕ
stream_text s = format_text s.format ++ 58 ∷ (decimal s.width ++ 120 ∷ decimal s.height)

stream-again : (s : StreamSpec) → FitsStream s → stream_of s.input (stream_text s) ≡ Some s
unfolding stream_of
stream-again s f =
    let w : s.width < 2 ^ 64 = omega (arith, f.width) in
    let g : s.height < 2 ^ 64 = omega (arith, f.height) in
    let sides : avoids 58 (decimal s.width ++ 120 ∷ decimal s.height) ≡ true = avoids-append 58 (decimal s.width) (120 ∷ decimal s.height) (number-avoids 58 s.width refl w) (number-avoids 58 s.height refl g) in
    rw (
      in-two-again 58 (format_text s.format) (decimal s.width ++ 120 ∷ decimal s.height) (format-avoids s.format f.format) sides,
      format-again s.format f.format,
      in-two-again 120 (decimal s.width) (decimal s.height) (number-avoids 120 s.width refl w) (number-avoids 120 s.height refl g),
      side-again s.width f.width_some f.width,
      side-again s.height f.height_some f.height,
    ) refl

stream-plain : (s : StreamSpec) → FitsStream s → list_all is_plain (stream_text s) ≡ true
stream-plain s f =
    plain-append (format_text s.format) (58 ∷ (decimal s.width ++ 120 ∷ decimal s.height)) (format-plain s.format f.format)
    (plain-append (decimal s.width) (120 ∷ decimal s.height) (number-plain s.width (omega (arith, f.width))) (number-plain s.height (omega (arith, f.height))))

-- a format doesn't begin like an input stream
no-input : (f : Format) (rest : List ℕ) → starts_with nat_eq (format_text f ++ rest) (codes "in:") ≡ false
no-input Raw16 rest = refl
no-input _ rest = refl

spec-step : (b : Bool) (s : StreamSpec) → s.input ≡ b → FitsStream s → spec_of (cond b (codes "in:") [] ++ stream_text s) ≡ Some s
unfolding spec_of
spec-step true s e f = ap (λ b. stream_of b (stream_text s)) (sym e) ∙ stream-again s f
spec-step false s e f = rw (no-input s.format (58 ∷ (decimal s.width ++ 120 ∷ decimal s.height))) (ap (λ b. stream_of b (stream_text s)) (sym e) ∙ stream-again s f)

pub spec-again : (s : StreamSpec) → spec_fits s ≡ true → spec_of (spec_text s) ≡ Some s
spec-again s h = spec-step s.input s refl (fits-stream s h)

some-byte : (a : List ℕ) (c : ℕ) (b : List ℕ) → eqb (length (a ++ c ∷ b)) 0 ≡ false
some-byte [] c b = grind (arith, nat_tests)
some-byte (x ∷ a) c b = grind (arith, nat_tests)

stream-some : (s : StreamSpec) → eqb (length (stream_text s)) 0 ≡ false
stream-some s = some-byte (format_text s.format) 58 (decimal s.width ++ 120 ∷ decimal s.height)

spec-word-step : (b : Bool) (s : StreamSpec) → FitsStream s → is_word (cond b (codes "in:") [] ++ stream_text s) ≡ true
spec-word-step true s f = and_from _ _ (stream-plain s f) (grind (arith, nat_tests))
spec-word-step false s f = and_from _ _ (stream-plain s f) (rw (stream-some s) refl)

pub spec-word : (s : StreamSpec) → spec_fits s ≡ true → is_word (spec_text s) ≡ true
spec-word s h = spec-word-step s.input s (fits-stream s h)

-- ---- settings

pub record FitsSettings (s : Settings) : Type 0 where
  pattern : s.pattern < 2 ^ 8
  level : s.level < 2 ^ 31
  exposure : s.exposure < 2 ^ 63
  iso : s.iso < 2 ^ 31

fits-settings : (s : Settings) → settings_fit s ≡ true → FitsSettings s
fits-settings s h =
    let p = and_parts (ltb s.pattern (2 ^ 8)) _ h in
    let q = and_parts (ltb s.level (2 ^ 31)) _ p.1 in
    let r = and_parts (ltb s.exposure (2 ^ 63)) _ q.1 in
    record { pattern = ltb-true _ _ p.0; level = ltb-true _ _ q.0; exposure = ltb-true _ _ r.0; iso = ltb-true _ _ r.1 }

abbrev numbers_of : Settings → List ℕ
numbers_of s = s.pattern ∷ s.level ∷ s.exposure ∷ s.iso ∷ []

four-avoid : (c : ℕ) (s : Settings) → is_ascii_digit c ≡ false → FitsSettings s → list_all (λ n. avoids c (decimal n)) (numbers_of s) ≡ true
four-avoid c s d f =
    and_from _ _ (number-avoids c s.pattern d (omega (arith, f.pattern)))
    (and_from _ _ (number-avoids c s.level d (omega (arith, f.level)))
    (and_from _ _ (number-avoids c s.exposure d (omega (arith, f.exposure)))
    (and_from _ _ (number-avoids c s.iso d (omega (arith, f.iso))) refl)))

four-again : (s : Settings) → FitsSettings s → four_numbers (settings_text s) ≡ Some s
unfolding four_numbers
four-again s f =
    rw (
      join-parts 44 decimal s.pattern (s.level ∷ s.exposure ∷ s.iso ∷ []) (four-avoid 44 s refl f),
      number-again (2 ^ 8) s.pattern f.pattern (omega arith),
      number-again (2 ^ 31) s.level f.level (omega arith),
      number-again (2 ^ 63) s.exposure f.exposure (omega arith),
      number-again (2 ^ 31) s.iso f.iso (omega arith),
    ) refl

settings-again : (s : Settings) → FitsSettings s → settings_of (settings_text s) ≡ Some s
unfolding settings_of
settings-again s f =
    let small : s.pattern < 2 ^ 64 = omega (arith, f.pattern) in
    rw (
      number-first s.pattern (flat_map (λ n. 44 ∷ decimal n) (s.level ∷ s.exposure ∷ s.iso ∷ [])) 112 (drop 1 (codes "preview")) small refl,
      number-first s.pattern (flat_map (λ n. 44 ∷ decimal n) (s.level ∷ s.exposure ∷ s.iso ∷ [])) 115 (drop 1 (codes "still")) small refl,
    )
    (four-again s f)

settings-avoid : (c : ℕ) (s : Settings) → is_ascii_digit c ≡ false → eqb 44 c ≡ false → FitsSettings s → avoids c (settings_text s) ≡ true
settings-avoid c s d e f =
    let a = number-avoids c s.pattern d (omega (arith, f.pattern)) in
    let more : avoids c (flat_map (λ n. 44 ∷ decimal n) (s.level ∷ s.exposure ∷ s.iso ∷ [])) ≡ true =
    more-avoid c 44 (s.level ∷ s.exposure ∷ s.iso ∷ []) e (and_parts _ _ (four-avoid c s d f)).1 in
    avoids-append c (decimal s.pattern) _ a more

settings-plain : (s : Settings) → FitsSettings s → list_all is_plain (settings_text s) ≡ true
settings-plain s f =
    plain-append (decimal s.pattern) (flat_map (λ n. 44 ∷ decimal n) (s.level ∷ s.exposure ∷ s.iso ∷ [])) (number-plain s.pattern (omega (arith, f.pattern)))
    (more-plain 44 (s.level ∷ s.exposure ∷ s.iso ∷ []) refl
    (and_from _ _ (number-plain s.level (omega (arith, f.level))) (and_from _ _ (number-plain s.exposure (omega (arith, f.exposure))) (and_from _ _ (number-plain s.iso (omega (arith, f.iso))) refl))))

-- ---- targets

byte-small : (n : ℕ) → is_byte n ≡ true → n < 2 ^ 64
byte-small n h = omega (arith, ltb-true n (2 ^ 8) h)

bytes-again : (ns : List ℕ) → list_all is_byte ns ≡ true → all_of (number_below (2 ^ 8)) (map decimal ns) ≡ Some ns
bytes-again [] h = refl
bytes-again (n ∷ ns) h =
    let p = and_parts (is_byte n) (list_all is_byte ns) h in
    rw (number-again (2 ^ 8) n (ltb-true n (2 ^ 8) p.0) (omega arith), bytes-again ns p.1) refl

bytes-avoid : (c : ℕ) → is_ascii_digit c ≡ false → (ns : List ℕ) → list_all is_byte ns ≡ true → list_all (λ n. avoids c (decimal n)) ns ≡ true
bytes-avoid c d ns h = all-where is_byte (λ n. avoids c (decimal n)) ns (λ n k. number-avoids c n d (byte-small n k)) h

joined-again : (n : ℕ) (ns : List ℕ) → list_all is_byte (n ∷ ns) ≡ true → targets_of (join_by decimal (43 ∷ []) (n ∷ ns)) ≡ Some (targets (n ∷ ns))
unfolding targets_of joined_targets
joined-again n ns h =
    let p = and_parts (is_byte n) (list_all is_byte ns) h in
    rw (
      number-first n (flat_map (λ m. 43 ∷ decimal m) ns) 45 [] (byte-small n p.0) refl,
      join-parts 43 decimal n ns (bytes-avoid 43 refl (n ∷ ns) h),
      bytes-again (n ∷ ns) h,
    ) refl

all-zero : (xs : List ℕ) → list_all (λ s. eqb s 0) xs ≡ true → xs ≡ replicate (length xs) 0
all-zero [] h = refl
all-zero (x ∷ xs) h =
    let p = and_parts (eqb x 0) (list_all (λ s. eqb s 0) xs) h in
    rw (eqb-true x 0 p.0) (ap (λ t. 0 ∷ t) (all-zero xs p.1))

targets-same : (t : Targets) (list : List ℕ) → length list ≡ t.count → t.list ≡ list ++ replicate (8 - length list) 0 → t ≡ targets list
targets-same t list e f = let k : record { count = t.count; list = t.list } ≡ targets list = rw (sym e, f) refl in k

pub record FitsTargets (t : Targets) : Type 0 where
  short : t.count ≤ 8
  long : length t.list ≡ 8
  bytes : list_all is_byte t.list ≡ true
  zeros : list_all (λ s. eqb s 0) (drop t.count t.list) ≡ true

fits-targets : (t : Targets) → targets_fit t ≡ true → FitsTargets t
fits-targets t h =
    let p = and_parts (leb t.count 8) _ h in
    let q = and_parts (eqb (length t.list) 8) _ p.1 in
    let r = and_parts (list_all is_byte t.list) _ q.1 in
    record { short = leb-true _ _ p.0; long = eqb-true _ _ q.0; bytes = r.0; zeros = r.1 }

front-length : (t : Targets) → FitsTargets t → length (take t.count t.list) ≡ t.count
front-length t f = omega (arith, length-take t.count t.list, f.short, f.long)

front-same : (t : Targets) → FitsTargets t → t ≡ targets (take t.count t.list)
front-same t f =
    let rest : length (drop t.count t.list) ≡ 8 - length (take t.count t.list) = omega (arith, length-drop t.count t.list, front-length t f, f.long) in
    let zeros : drop t.count t.list ≡ replicate (8 - length (take t.count t.list)) 0 = all-zero (drop t.count t.list) f.zeros ∙ ap (λ n. replicate n 0) rest in
    targets-same t (take t.count t.list) (front-length t f) (sym (take-append-drop t.count t.list) ∙ ap (λ z. take t.count t.list ++ z) zeros)

none-again : targets_of (codes "-") ≡ Some (targets [])
unfolding targets_of
none-again = refl

-- by the streams that are there
front-again : (t : Targets) (front : List ℕ) → t ≡ targets front → list_all is_byte front ≡ true → length front ≡ t.count → targets_of (cond (eqb t.count 0) (codes "-") (join_by decimal (codes "+") front)) ≡ Some t
front-again t [] same bytes e = let none : eqb t.count 0 ≡ true = eq-eqb t.count 0 (sym e) in rw none (none-again ∙ ap Some (sym same))
front-again t (n ∷ ns) same bytes e =
    let some : eqb t.count 0 ≡ false = grind (arith, nat_tests) in
    rw some (joined-again n ns bytes ∙ ap Some (sym same))

targets-again : (t : Targets) → FitsTargets t → targets_of (targets_text t) ≡ Some t
targets-again t f = front-again t (take t.count t.list) (front-same t f) (all-taken is_byte t.count t.list f.bytes) (front-length t f)

streams-avoid : (c n : ℕ) (ns : List ℕ) → is_ascii_digit c ≡ false → eqb 43 c ≡ false → list_all is_byte (n ∷ ns) ≡ true → avoids c (join_by decimal (43 ∷ []) (n ∷ ns)) ≡ true
streams-avoid c n [] d e h = avoids-append c (decimal n) [] (and_parts _ _ (bytes-avoid c d (n ∷ []) h)).0 refl
streams-avoid c n (m ∷ ns) d e h =
    avoids-append c (decimal n) (43 ∷ join_by decimal (43 ∷ []) (m ∷ ns)) (and_parts _ _ (bytes-avoid c d (n ∷ m ∷ ns) h)).0
    (rw e (streams-avoid c m ns d e (and_parts (is_byte n) (list_all is_byte (m ∷ ns)) h).1))

front-avoid : (t : Targets) (front : List ℕ) → list_all is_byte front ≡ true → avoids 64 (cond (eqb t.count 0) (codes "-") (join_by decimal (codes "+") front)) ≡ true
front-avoid t front h = either (eqb t.count 0) front h
  where
    either : (b : Bool) (front : List ℕ) → list_all is_byte front ≡ true → avoids 64 (cond b (codes "-") (join_by decimal (codes "+") front)) ≡ true
    either true front h = refl
    either false [] h = refl
    either false (n ∷ ns) h = streams-avoid 64 n ns refl refl h

streams-plain : (b : Bool) (front : List ℕ) → list_all is_byte front ≡ true → list_all is_plain (cond b (codes "-") (join_by decimal (codes "+") front)) ≡ true
streams-plain true front h = refl
streams-plain false [] h = refl
streams-plain false (n ∷ ns) h =
    let p = and_parts (is_byte n) (list_all is_byte ns) h in
    plain-append (decimal n) (flat_map (λ m. 43 ∷ decimal m) ns) (number-plain n (byte-small n p.0))
    (more-plain 43 ns refl (all-where is_byte (λ m. list_all is_plain (decimal m)) ns (λ m k. number-plain m (byte-small m k)) p.1))

-- ---- captures

pub item-again : (i : Item) → item_fits i ≡ true → item_of (item_text i) ≡ Some i
unfolding item_of
item-again i h =
    let p = and_parts (settings_fit i.settings) (targets_fit i.targets) h in
    let s = fits-settings i.settings p.0 in
    let t = fits-targets i.targets p.1 in
    rw (
      in-two-again 64 (settings_text i.settings) (targets_text i.targets) (settings-avoid 64 i.settings refl refl s) (front-avoid i.targets (take i.targets.count i.targets.list) (all-taken is_byte i.targets.count i.targets.list t.bytes)),
      settings-again i.settings s,
      targets-again i.targets t,
    ) refl

pub item-word : (i : Item) → item_fits i ≡ true → is_word (item_text i) ≡ true
item-word i h =
    let p = and_parts (settings_fit i.settings) (targets_fit i.targets) h in
    let s = fits-settings i.settings p.0 in
    let t = fits-targets i.targets p.1 in
    and_from _ _
    (plain-append (settings_text i.settings) (64 ∷ targets_text i.targets) (settings-plain i.settings s) (streams-plain (eqb i.targets.count 0) (take i.targets.count i.targets.list) (all-taken is_byte i.targets.count i.targets.list t.bytes)))
    (rw (some-byte (settings_text i.settings) 64 (targets_text i.targets)) refl)

-- ---- lists

-- what is spelled word by word is read word by word
pub all-again : {X : Type 0} (read : List ℕ → Option X) (text : X → List ℕ) (fits : X → Bool) → ((x : X) → fits x ≡ true → read (text x) ≡ Some x) → (xs : List X) → list_all fits xs ≡ true → all_of read (map text xs) ≡ Some xs
all-again read text fits again [] h = refl
all-again read text fits again (x ∷ xs) h =
    let p = and_parts (fits x) (list_all fits xs) h in
    rw (again x p.0, all-again read text fits again xs p.1) refl

pub all-words : {X : Type 0} (text : X → List ℕ) (fits : X → Bool) → ((x : X) → fits x ≡ true → is_word (text x) ≡ true) → (xs : List X) → list_all fits xs ≡ true → list_all is_word (map text xs) ≡ true
all-words text fits word [] h = refl
all-words text fits word (x ∷ xs) h = let p = and_parts (fits x) (list_all fits xs) h in and_from _ _ (word x p.0) (all-words text fits word xs p.1)
