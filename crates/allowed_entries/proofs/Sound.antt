-- Each of the list is told of an entry that is allowed, and has a line.
use Rattle.std.proofs.Common.{◌≡◌, ℕ, Bool, true, false, List, [], ◌∷◌, ◌++◌, Option, Some, None, IsTrue, refl, sym, ap, ◌∙◌, if◌then◌else◌}
use Rattle.std.specs.List.{flat_map, list_all, range_with_len}
use Rattle.std.proofs.lemmas.Bool.{and_from, and_parts}
use Rattle.cam_types.specs.declared.script.Script.{Script}
use Rattle.trace_model.specs.declared.entry.Entry.{Entry}
use Rattle.trace_model.specs.declared.entry.Entry.TheVariants.{Send, Filled, Late}
use Rattle.trace_model.specs.Allowed.{IsAllowed}
use Rattle.trace_model.specs.Client.{begin_due, call_due}
use Rattle.trace_model.specs.Configuration.{buffers_of}
use Rattle.trace_model.specs.Drop.{drop_due}
use Rattle.trace_model.specs.Entry.{is_shutter}
use Rattle.trace_model.specs.Errors.{error_buffer_due, error_device_due, error_request_due, error_result_due, failed_due}
use Rattle.trace_model.specs.Filled.{early_due, filled_due, late_due}
use Rattle.trace_model.specs.Legal.{IsLegal}
use Rattle.trace_model.specs.Numbers.{next_early, next_fence}
use Rattle.trace_model.specs.Partial.{partial_due}
use Rattle.trace_model.specs.Printable.{is_printable}
use Rattle.trace_model.specs.Release.{release_due, signal_due}
use Rattle.trace_model.specs.Send.{send_due}
use Rattle.trace_model.specs.Shutter.{shutter_due}
use Rattle.trace_laws.proofs.Due.{send-allowed}
use Rattle.allowed_entries.specs.declared.entry.AllowedEntry.{AllowedEntry}
use Rattle.allowed_entries.specs.Entries.{allowed_entries, by_streams, of_ends, of_frame, of_frames, of_lates, of_next, of_releases, of_signals, open_frames}
use Rattle.allowed_entries.specs.Known.{known_of, prints, shown, shown_where}
use Rattle.allowed_entries.specs.Told.{AllTellAllowed, TellsAllowed}
use Rattle.allowed_entries.proofs.Due.{begin-allowed, call-allowed, device-allowed, error-allowed}
use Rattle.run_model.proofs.Legal.{drop_allowed, shutter_allowed, part_allowed, failed_allowed, filled_allowed, early_allowed, late_allowed, release_allowed, signal_allowed, request_allowed, result_allowed}

-- ---- of two lists, of an entry that is due, and of those of numbers

all-two : (script : Script) (past : List Entry) (xs ys : List AllowedEntry) → AllTellAllowed script past xs → AllTellAllowed script past ys → AllTellAllowed script past (xs ++ ys)
all-two script past [] ys all more = more
all-two script past (x ∷ xs) ys all more = (all.0, all-two script past xs ys all.1 more)

of-due : (script : Script) (past : List Entry) (o : Option Entry) → ((e : Entry) → o ≡ Some e → IsAllowed script past e) → AllTellAllowed script past (shown o)
of-due script past None each = tt
of-due script past (Some e) each = ((e, (each e refl, refl)), tt)

of-due-where : (script : Script) (past : List Entry) (test : Entry → Bool) (o : Option Entry) → ((e : Entry) → o ≡ Some e → IsAllowed script past e) → AllTellAllowed script past (shown_where test o)
of-due-where script past test None each = tt
of-due-where script past test (Some e) each = by (test e)
  where
    by : (b : Bool) → AllTellAllowed script past (if b then known_of e ∷ [] else [])
    by true = ((e, (each e refl, refl)), tt)
    by false = tt

of-each : (script : Script) (past : List Entry) (f : ℕ → List AllowedEntry) (xs : List ℕ) → ((x : ℕ) → AllTellAllowed script past (f x)) → AllTellAllowed script past (flat_map f xs)
of-each script past f [] each = tt
of-each script past f (x ∷ xs) each = all-two script past (f x) (flat_map f xs) (each x) (of-each script past f xs each)

of-streams : (script : Script) (past : List Entry) (f : ℕ → List AllowedEntry) → ((s : ℕ) → AllTellAllowed script past (f s)) → AllTellAllowed script past (by_streams f)
of-streams script past f each =
    all-two script past (f 0) _ (each 0) (all-two script past (f 1) _ (each 1) (all-two script past (f 2) (f 3) (each 2) (each 3)))

-- ---- of each part

frame-tells : (script : Script) (past : List Entry) (n : ℕ) → AllTellAllowed script past (of_frame script past n)
unfolding of_frame
frame-tells script past n =
    let join = all-two script past in
    let due = of-due script past in
    let streams = of-streams script past in
    join _ _ (of-due-where script past (is_shutter n) (shutter_due script past) (shutter_allowed script past))
    (join _ _ (due (partial_due script past n) (part_allowed script past n))
    (join _ _ (streams _ (λ s. due (filled_due script past n s) (filled_allowed script past n s)))
    (join _ _ (streams _ (λ s. due (early_due script past n s) (early_allowed script past n s)))
    (join _ _ (due (error_request_due script past n) (request_allowed script past n))
    (join _ _ (due (error_result_due script past n) (result_allowed script past n))
    (join _ _ (streams _ (λ s. due (error_buffer_due script past n s) (error-allowed script past n s)))
    (streams _ (λ s. due (failed_due past n s) (failed_allowed script past n s)))))))))

frames-tell : (script : Script) (past : List Entry) → AllTellAllowed script past (of_frames script past)
unfolding of_frames
frames-tell script past = of-each script past (of_frame script past) (open_frames past) (frame-tells script past)

next-tell : (script : Script) (past : List Entry) → AllTellAllowed script past (of_next script past)
unfolding of_next
next-tell script past =
    all-two script past _ _ (of-due script past (send_due script past) (send-allowed script past)) (of-due script past (drop_due script past) (drop_allowed script past))

ends-tell : (script : Script) (past : List Entry) → AllTellAllowed script past (of_ends script past)
unfolding of_ends
ends-tell script past =
    all-two script past _ _ (of-due script past (begin_due script past) (begin-allowed script past))
    (all-two script past _ _ (of-due script past (call_due script past) (call-allowed script past)) (of-due script past (error_device_due script past) (device-allowed script past)))

releases-tell : (script : Script) (past : List Entry) → AllTellAllowed script past (of_releases past)
unfolding of_releases
releases-tell script past =
    of-streams script past _ (λ s. of-each script past (λ b. shown (release_due past b)) (buffers_of past s) (λ b. of-due script past (release_due past b) (release_allowed script past b)))

signals-tell : (script : Script) (past : List Entry) → AllTellAllowed script past (of_signals past)
unfolding of_signals
signals-tell script past =
    of-each script past (λ f. shown (signal_due past f)) (range_with_len 0 (next_fence past)) (λ f. of-due script past (signal_due past f) (signal_allowed script past f))

lates-tell : (script : Script) (past : List Entry) → AllTellAllowed script past (of_lates script past)
unfolding of_lates
lates-tell script past =
    of-each script past (λ d. shown (late_due script past d)) (range_with_len 0 (next_early past)) (λ d. of-due script past (late_due script past d) (late_allowed script past d))

-- each of the list is told of an entry that is allowed
pub all_tell : (script : Script) (past : List Entry) → AllTellAllowed script past (allowed_entries script past)
unfolding allowed_entries
all_tell script past =
    let join = all-two script past in
    join _ _ (frames-tell script past)
    (join _ _ (next-tell script past)
    (join _ _ (ends-tell script past)
    (join _ _ (releases-tell script past) (join _ _ (signals-tell script past) (lates-tell script past)))))

-- ---- so each has a line

known-prints : (e : Entry) → is_printable e ≡ true → prints (known_of e) ≡ true
known-prints (Send n r i same targets) h = refl
known-prints (Filled n s b f digest) h = refl
known-prints (Late d digest) h = refl
known-prints e h = h

one-prints : (script : Script) (past : List Entry) (a : AllowedEntry) → ((q : List Entry) → IsLegal script q → IsTrue (list_all is_printable q)) → IsLegal script past → TellsAllowed script past a → prints a ≡ true
one-prints script past a print legal tells =
    let both = and_parts (is_printable tells.0) (list_all is_printable past) (print (tells.0 ∷ past) (tells.1.0, legal)) in
    ap prints (sym tells.1.1) ∙ known-prints tells.0 both.0

pub all-print : (script : Script) (past : List Entry) (all : List AllowedEntry) → ((q : List Entry) → IsLegal script q → IsTrue (list_all is_printable q)) → IsLegal script past → AllTellAllowed script past all → list_all prints all ≡ true
all-print script past [] print legal tell = refl
all-print script past (a ∷ all) print legal tell =
    and_from (prints a) (list_all prints all) (one-prints script past a print legal tell.0) (all-print script past all print legal tell.1)
