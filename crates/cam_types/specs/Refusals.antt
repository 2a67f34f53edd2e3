use Rattle.std.specs.Prelude.{ℕ, ◌==◌, ◌+◌, Bool, true, false, ◌&&◌, not, List, [], ◌∷◌, Option, Some, None, nat_lt, find, length, take, count_by, if◌then◌else◌}
use Rattle.std.specs.List.{list_any, position_from}
use Rattle.cam_types.specs.Limits.{raw_limit, stream_limit, yuv_limit}
use Rattle.cam_types.specs.Metadata.{range_fault}
use Rattle.cam_types.specs.Picture.{is_size_of}
use Rattle.cam_types.specs.declared.item.Item.{Item}
use Rattle.cam_types.specs.declared.reply.Reply.{Reply}
use Rattle.cam_types.specs.declared.reply.Reply.TheVariants.{Refused}
use Rattle.cam_types.specs.declared.stream.Format.{Format}
use Rattle.cam_types.specs.declared.stream.Format.TheVariants.{Raw16, Yuv}
use Rattle.cam_types.specs.declared.stream.StreamSpec.{StreamSpec}

-- What is refused of the items and streams that a call names: the first refusal whose condition holds. Numbers and
-- order are our own choice; that a configuration which a device can't have is refused is camera3.h, configure_streams.

abbrev pub refused : ℕ → Reply
refused code = Refused code None None

abbrev pub refused_at : ℕ → ℕ → Reply
refused_at code i = Refused code (Some i) None

abbrev pub refused_for : ℕ → ℕ → ℕ → Reply
refused_for code i value = Refused code (Some i) (Some value)

abbrev pub or_else : Option Reply → Option Reply → Option Reply
or_else (Some r) other = Some r
or_else None other = other

abbrev pub where_true : Bool → Reply → Option Reply
where_true test r = if test then Some r else None

abbrev pub at_place : ℕ → Option ℕ → Option Reply
at_place code (Some i) = Some (refused_at code i)
at_place code None = None

abbrev pub with_value : ℕ → ℕ → Option ℕ → Option Reply
with_value code i (Some value) = Some (refused_for code i value)
with_value code i None = None

-- ---- items: 5 NoTargets, 6 UnknownStream, 7 RepeatedStream, 8 BadSetting, each with the item's place

-- the first target that occurred before
abbrev pub first_repeated : List ℕ → List ℕ → Option ℕ
first_repeated seen [] = None
first_repeated seen (t ∷ targets) = if list_any (λ s. s == t) seen then Some t else first_repeated (t ∷ seen) targets

abbrev pub targets_refusal : ℕ → ℕ → List ℕ → Option Reply
targets_refusal streams i [] = Some (refused_at 5 i)
targets_refusal streams i targets =
    or_else (with_value 6 i (find (λ t. not (nat_lt t streams)) targets)) (with_value 7 i (first_repeated [] targets))

-- of the item at place i, where so many streams are configured
abbrev pub item_refusal : ℕ → ℕ → Item → Option Reply
item_refusal streams i item =
    or_else (targets_refusal streams i (take item.targets.count item.targets.list))
    (with_value 8 i (range_fault item.settings))

-- item by item, from place i on
abbrev pub items_refusal : ℕ → ℕ → List Item → Option Reply
items_refusal streams i [] = None
items_refusal streams i (item ∷ items) = or_else (item_refusal streams i item) (items_refusal streams (i + 1) items)

-- 4 EmptyList comes before them
abbrev pub list_refusal : ℕ → List Item → Option Reply
list_refusal streams [] = Some (refused 4)
list_refusal streams items = items_refusal streams 0 items

-- ---- configurations: 21 NoOutput, 22 TooMany, 23 InputStream, 24 BadFormat, 25 BadSize, 26 TooManyRaw, 27 TooManyYuv;
-- 24 and 25 name the first such stream

abbrev pub is_raw : Format → Bool
is_raw Raw16 = true
is_raw _ = false

abbrev pub is_yuv : Format → Bool
is_yuv Yuv = true
is_yuv _ = false

abbrev pub specs_refusal : List StreamSpec → Option Reply
specs_refusal specs =
    or_else (where_true (not (list_any (λ s. not s.input) specs)) (refused 21))
    (or_else (where_true (nat_lt stream_limit (length specs)) (refused 22))
    (or_else (where_true (list_any (λ s. s.input) specs) (refused 23))
    (or_else (at_place 24 (position_from (λ s. not (is_raw s.format) && not (is_yuv s.format)) 0 specs))
    (or_else (at_place 25 (position_from (λ s. not (is_size_of s.format s.width s.height)) 0 specs))
    (or_else (where_true (nat_lt raw_limit (count_by (λ s. is_raw s.format) specs)) (refused 26))
    (where_true (nat_lt yuv_limit (count_by (λ s. is_yuv s.format) specs)) (refused 27)))))))
