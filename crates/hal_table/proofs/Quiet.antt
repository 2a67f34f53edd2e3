-- Events that leave a row as it is: those that name another request, and those that change nothing in it.
use Rattle.std.proofs.Common.{◌≡◌, ◌∙◌, ℕ, ◌==◌, Bool, true, false, ◌&&◌, ◌||◌, not, List, [], ◌∷◌, Option, Some, None, refl, sym, ap, map, if◌then◌else◌}
use Rattle.std.proofs.lemmas.Bool.{false≢true}
use Rattle.hal_model.specs.declared.event.HalEvent.{HalEvent}
use Rattle.hal_model.specs.declared.event.HalEvent.TheVariants.{CloseBegin, CloseEnd, ConfigureBegin, ErrorBuffer, ErrorRequest, ErrorResult, FlushBegin, FlushOk, RequestBegin, RequestError, RequestOk, Results, Shutter}
use Rattle.hal_model.specs.declared.event.Pack.TheVariants.{Entries, Empty, Absent}
use Rattle.hal_model.specs.Device.{is_entered, is_said}
use Rattle.hal_model.specs.Rules.{frame_in}
use Rattle.hal_model.specs.Words.{accepts, begins_flush, begins_request, gives_something, is_error_buffer, is_error_in, is_error_request, is_error_result, is_last_empty, is_last_part, is_part, is_point, is_shutter, refuses}
use Rattle.hal_row.specs.Given.{buffers_of, notice_in, part_in}
use Rattle.hal_row.proofs.Given.{notices_kept, parts_kept, targets_kept}
use Rattle.hal_rows.specs.declared.row.PartRow.{PartRow}
use Rattle.hal_rows.specs.declared.row.Row.{Row}
use Rattle.hal_rows.specs.declared.row.TargetRow.{TargetRow}
use Rattle.hal_rows.specs.Row.{is_flush_ok, is_row_complete, note_part, note_row, note_target}
use Rattle.hal_table.specs.Index.{is_touched}
use Rattle.hal_table.proofs.Counted.{some_is}
use Rattle.basic_lemmas.proofs.Tests.{or-first, or-second, equal-turned}

-- an event that says nothing of the request, and isn't one that is noted of each
quiet : (k : ℕ) (fl : Bool) (e : HalEvent) (r : Row) → is_entered e ≡ false → begins_flush e ≡ false → is_flush_ok e ≡ false → is_point e ≡ false → accepts r.frame e ≡ false → refuses r.frame e ≡ false → is_said r.frame e ≡ false → is_shutter r.frame e ≡ false → is_error_request r.frame e ≡ false → is_error_result r.frame e ≡ false → is_error_in r.frame e ≡ false → is_error_buffer r.frame None e ≡ false → is_last_part k r.frame e ≡ false → is_last_empty k r.frame e ≡ false → gives_something r.frame e ≡ false → is_part r.frame k e ≡ false → buffers_of r.frame e ≡ [] → part_in r.frame e ≡ None → notice_in r.frame e ≡ None → note_row k fl e r ≡ r
quiet k fl e r entered begun ok' point accepted refused said shutter failed wrong in' unknown last empty' something part buffers parts notices =
    rw (entered, begun, ok', point, accepted, refused, said, shutter, failed, wrong, in', unknown, last, empty', something, part, targets_kept r.frame fl e r.targets buffers, parts_kept r.frame e r.parts parts, notices_kept r.frame e r.notices notices) refl

-- the event names another request
pub other_row : (k : ℕ) (fl : Bool) (e : HalEvent) (n : ℕ) (r : Row) → begins_request e ≡ false → frame_in e ≡ Some n → (r.frame == n) ≡ false → note_row k fl e r ≡ r
other_row k fl (RequestBegin m same ts a b) n r no' names other = absurd (false≢true (sym no'))
other_row k fl (RequestOk m) n r no' names other =
    quiet k fl (RequestOk m) r refl refl refl refl ne refl refl refl refl refl refl refl refl refl refl refl refl refl refl
  where
    ne : (m == r.frame) ≡ false
    ne = ap (λ z. z == r.frame) (some_is m n names) ∙ (equal-turned n r.frame ∙ other)
other_row k fl (RequestError m error) n r no' names other =
    quiet k fl (RequestError m error) r refl refl refl refl refl ne refl refl refl refl refl refl refl refl refl refl refl refl refl
  where
    ne : (m == r.frame) ≡ false
    ne = ap (λ z. z == r.frame) (some_is m n names) ∙ (equal-turned n r.frame ∙ other)
other_row k fl (Shutter m t) n r no' names other =
    quiet k fl (Shutter m t) r refl refl refl refl refl refl (rw ne refl) ne refl refl refl refl refl refl refl refl refl refl refl
  where
    ne : (m == r.frame) ≡ false
    ne = ap (λ z. z == r.frame) (some_is m n names) ∙ (equal-turned n r.frame ∙ other)
other_row k fl (ErrorRequest m) n r no' names other =
    quiet k fl (ErrorRequest m) r refl refl refl refl refl refl (rw ne refl) refl ne refl refl refl refl refl refl refl refl refl refl
  where
    ne : (m == r.frame) ≡ false
    ne = ap (λ z. z == r.frame) (some_is m n names) ∙ (equal-turned n r.frame ∙ other)
other_row k fl (ErrorResult m) n r no' names other =
    quiet k fl (ErrorResult m) r refl refl refl refl refl refl (rw ne refl) refl refl ne ne refl refl refl refl refl refl refl refl
  where
    ne : (m == r.frame) ≡ false
    ne = ap (λ z. z == r.frame) (some_is m n names) ∙ (equal-turned n r.frame ∙ other)
other_row k fl (ErrorBuffer m s) n r no' names other =
    quiet k fl (ErrorBuffer m s) r refl refl refl refl refl refl (rw ne refl) refl refl refl ne (rw ne refl) refl refl refl refl refl refl (rw ne refl)
  where
    ne : (m == r.frame) ≡ false
    ne = ap (λ z. z == r.frame) (some_is m n names) ∙ (equal-turned n r.frame ∙ other)
other_row k fl (Results m j Entries buffers input) n r no' names other =
    quiet k fl (Results m j Entries buffers input) r refl refl refl refl refl refl (rw ne refl) refl refl refl refl refl (rw ne refl) refl ne (rw ne refl) (rw ne refl) (rw ne refl) refl
  where
    ne : (m == r.frame) ≡ false
    ne = ap (λ z. z == r.frame) (some_is m n names) ∙ (equal-turned n r.frame ∙ other)
other_row k fl (Results m j Empty buffers input) n r no' names other =
    quiet k fl (Results m j Empty buffers input) r refl refl refl refl refl refl (rw ne refl) refl refl refl refl refl refl (rw ne refl) (rw ne refl) refl (rw ne refl) (rw ne refl) refl
  where
    ne : (m == r.frame) ≡ false
    ne = ap (λ z. z == r.frame) (some_is m n names) ∙ (equal-turned n r.frame ∙ other)
other_row k fl (Results m j Absent buffers input) n r no' names other =
    quiet k fl (Results m j Absent buffers input) r refl refl refl refl refl refl (rw ne refl) refl refl refl refl refl refl refl (rw ne refl) refl (rw ne refl) (rw ne refl) refl
  where
    ne : (m == r.frame) ≡ false
    ne = ap (λ z. z == r.frame) (some_is m n names) ∙ (equal-turned n r.frame ∙ other)
other_row k fl _ n r no' names other = absurd (cc)

-- ---- the event names no request

-- a row with other marks, and what it has
abbrev marked : Row → Bool → Bool → Bool → Bool → List TargetRow → List PartRow → Row
marked r entered before_flush flushed passed targets parts = record {
  frame = r.frame;
  rank = r.rank;
  targets = targets;
  parts = parts;
  same = r.same;
  initialized = r.initialized;
  dead = r.dead;
  excused = r.excused;
  entered = entered;
  accepted = r.accepted;
  refused = r.refused;
  said = r.said;
  shutter = r.shutter;
  failed = r.failed;
  result_error = r.result_error;
  part_error = r.part_error;
  unknown_notice = r.unknown_notice;
  last_part = r.last_part;
  last_empty = r.last_empty;
  something = r.something;
  sound = r.sound;
  notices = r.notices;
  before_flush = before_flush;
  flushed = flushed;
  passed = passed;
}

marked_same : (r : Row) (entered before_flush flushed passed : Bool) (ts : List TargetRow) (ps : List PartRow) → entered ≡ r.entered → before_flush ≡ r.before_flush → flushed ≡ r.flushed → passed ≡ r.passed → ts ≡ r.targets → ps ≡ r.parts → marked r entered before_flush flushed passed ts ps ≡ r
marked_same r entered before_flush flushed passed ts ps a b c d e f = rw (a, b, c, d, e, f) refl

not_false : (a : Bool) → not a ≡ false → true ≡ a
not_false true h = refl
not_false false h = absurd (false≢true (sym h))

flush_same : (accepted before_flush : Bool) → (if accepted then not before_flush else before_flush) ≡ false → accepted ≡ before_flush
flush_same true before_flush h = not_false before_flush h
flush_same false before_flush h = sym h

flushed_same : (b f c : Bool) → (b && (not f || c)) ≡ false → (b || f) ≡ f
flushed_same true true c h = refl
flushed_same true false c h = absurd (false≢true (sym h))
flushed_same false f c h = refl

passed_same : (b f c p : Bool) → (b && (not f || c)) ≡ false → ((b && c) || p) ≡ p
passed_same true true true p h = absurd (false≢true (sym h))
passed_same true true false p h = refl
passed_same true false c p h = absurd (false≢true (sym h))
passed_same false f c p h = refl

-- the event doesn't change the row
pub untouched : (k : ℕ) (fl : Bool) (e : HalEvent) (r : Row) → frame_in e ≡ None → is_touched e r ≡ false → note_row k fl e r ≡ r
untouched k fl (RequestBegin m same ts a b) r none still = absurd (cc)
untouched k fl (RequestOk m) r none still = absurd (cc)
untouched k fl (RequestError m error) r none still = absurd (cc)
untouched k fl (Shutter m t) r none still = absurd (cc)
untouched k fl (ErrorRequest m) r none still = absurd (cc)
untouched k fl (ErrorResult m) r none still = absurd (cc)
untouched k fl (ErrorBuffer m s) r none still = absurd (cc)
untouched k fl (Results m j pack buffers input) r none still = absurd (cc)
untouched k fl (ConfigureBegin mode streams) r none still =
    marked_same r true r.before_flush r.flushed r.passed (map (note_target r.frame fl (ConfigureBegin mode streams)) r.targets) (map (note_part r.frame (ConfigureBegin mode streams)) r.parts) (not_false r.entered still) refl refl refl (targets_kept r.frame fl (ConfigureBegin mode streams) r.targets refl) (parts_kept r.frame (ConfigureBegin mode streams) r.parts refl)
untouched k fl CloseBegin r none still =
    marked_same r true r.before_flush r.flushed r.passed (map (note_target r.frame fl CloseBegin) r.targets) (map (note_part r.frame CloseBegin) r.parts) (not_false r.entered still) refl refl refl (targets_kept r.frame fl CloseBegin r.targets refl) (parts_kept r.frame CloseBegin r.parts refl)
untouched k fl FlushBegin r none still =
    let entered = not_false r.entered (or-first (not r.entered) (if r.accepted then not r.before_flush else r.before_flush) still) in
    let flush = flush_same r.accepted r.before_flush (or-second (not r.entered) (if r.accepted then not r.before_flush else r.before_flush) still) in
    marked_same r true r.accepted r.flushed r.passed (map (note_target r.frame fl FlushBegin) r.targets) (map (note_part r.frame FlushBegin) r.parts) entered flush refl refl (targets_kept r.frame fl FlushBegin r.targets refl) (parts_kept r.frame FlushBegin r.parts refl)
untouched k fl FlushOk r none still =
    marked_same r r.entered r.before_flush (r.before_flush || r.flushed) ((r.before_flush && is_row_complete r) || r.passed) (map (note_target r.frame fl FlushOk) r.targets) (map (note_part r.frame FlushOk) r.parts) refl refl (flushed_same r.before_flush r.flushed (is_row_complete r) still) (passed_same r.before_flush r.flushed (is_row_complete r) r.passed still) (targets_kept r.frame fl FlushOk r.targets refl) (parts_kept r.frame FlushOk r.parts refl)
untouched k fl CloseEnd r none still =
    marked_same r r.entered r.before_flush r.flushed (is_row_complete r || r.passed) (map (note_target r.frame fl CloseEnd) r.targets) (map (note_part r.frame CloseEnd) r.parts) refl refl refl (rw still refl) (targets_kept r.frame fl CloseEnd r.targets refl) (parts_kept r.frame CloseEnd r.parts refl)
untouched k fl e r none still =
    quiet k fl e r refl refl refl refl refl refl refl refl refl refl refl refl refl refl refl refl refl refl refl
