-- What is allowed after a legal past is read from its state.
use Rattle.std.proofs.Common.{◌≡◌, ◌∙◌, ℕ, List, [], ◌∷◌, ◌++◌, refl, sym, ap, length, map}
use Rattle.std.specs.List.{flat_map, range_with_len}
use Rattle.cam_types.specs.declared.script.Script.{Script}
use Rattle.trace_model.specs.declared.entry.Entry.{Entry}
use Rattle.trace_model.specs.Configuration.{buffers_of}
use Rattle.trace_model.specs.Entry.{is_shutter}
use Rattle.trace_model.specs.Legal.{IsLegal}
use Rattle.trace_model.specs.Numbers.{next_early, next_fence}
use Rattle.state_facts.specs.Homes.{homes}
use Rattle.state_facts.proofs.BufferReadings.{earlies_are, release_is, signal_is}
use Rattle.state_facts.proofs.ClientReadings.{begin_is}
use Rattle.state_facts.specs.Row.{open_rows}
use Rattle.state_facts.specs.States.{late_in, state}
use Rattle.state_facts.proofs.OpenRows.{row-numbers}
use Rattle.state_facts.proofs.StateFrames.{early_is, error_buffer_is, error_device_is, error_request_is, error_result_is, failed_is, filled_is, late_is, partial_is, shutter_is}
use Rattle.state_facts.proofs.StateSends.{drop_is, send_is}
use Rattle.allowed_entries.specs.declared.entry.AllowedEntry.{AllowedEntry}
use Rattle.allowed_entries.specs.Entries.{allowed_entries, by_streams, of_ends, of_frame, of_frames, of_lates, of_next, of_releases, of_signals, open_frames}
use Rattle.allowed_entries.specs.Known.{shown, shown_where}
use Rattle.allowed_entries.specs.Readings.{all_in, buffers_in, ends_in, frame_in, frames_in, lates_in, next_in, releases_in, signals_in}
use Rattle.state_facts.proofs.Runs.{call-by-rows}

-- lists that agree at each number
streams-same : (f g : ℕ → List AllowedEntry) → ((s : ℕ) → f s ≡ g s) → by_streams f ≡ by_streams g
streams-same f g each = rw (each 0, each 1, each 2, each 3) refl

flat-same : (f g : ℕ → List AllowedEntry) (xs : List ℕ) → ((x : ℕ) → f x ≡ g x) → flat_map f xs ≡ flat_map g xs
flat-same f g [] each = refl
flat-same f g (x ∷ xs) each = rw (each x, flat-same f g xs each) refl

two : {a b c d : List AllowedEntry} → a ≡ c → b ≡ d → a ++ b ≡ c ++ d
two p q = rw (p, q) refl

-- of a frame
frame-is : (script : Script) (past : List Entry) (n : ℕ) → IsLegal script past → of_frame script past n ≡ frame_in script (state script past) n
unfolding of_frame frame_in buffers_in
frame-is script past n legal =
    two (ap (shown_where (is_shutter n)) (shutter_is script past legal))
    (two (ap shown (partial_is script past n legal))
    (two (streams-same _ _ (λ s. ap shown (filled_is script past n s legal)))
    (two (streams-same _ _ (λ s. ap shown (early_is script past n s legal)))
    (two (ap shown (error_request_is script past n legal))
    (two (ap shown (error_result_is script past n legal))
    (two (streams-same _ _ (λ s. ap shown (error_buffer_is script past n s legal)))
    (streams-same _ _ (λ s. ap shown (failed_is script past n s legal)))))))))

frames-are : (script : Script) (past : List Entry) → IsLegal script past → of_frames script past ≡ frames_in script (state script past) (map (λ r. r.number) (open_rows script past))
unfolding of_frames frames_in
frames-are script past legal =
    flat-same (of_frame script past) (frame_in script (state script past)) (open_frames past) (λ n. frame-is script past n legal)
    ∙ ap (flat_map (frame_in script (state script past))) (sym (row-numbers script past legal))

-- of the next frame, of the client and the device
next-are : (script : Script) (past : List Entry) → IsLegal script past → of_next script past ≡ next_in script (state script past)
unfolding of_next next_in
next-are script past legal = two (ap shown (send_is script past legal)) (ap shown (drop_is script past))

ends-are : (script : Script) (past : List Entry) → IsLegal script past → of_ends script past ≡ ends_in script (state script past)
unfolding of_ends ends_in
ends-are script past legal =
    two (ap shown (begin_is script past)) (two (ap shown (call-by-rows script past legal)) (ap shown (error_device_is script past legal)))

-- of buffers and fences
releases-are : (script : Script) (past : List Entry) → IsLegal script past → of_releases past ≡ releases_in (homes past)
unfolding of_releases releases_in
releases-are script past legal =
    streams-same _ _ (λ s. flat-same _ _ (buffers_of past s) (λ b. ap shown (release_is script past b legal)))

signals-are : (script : Script) (past : List Entry) → IsLegal script past → of_signals past ≡ signals_in (homes past) (next_fence past)
unfolding of_signals signals_in
signals-are script past legal =
    flat-same _ _ (range_with_len 0 (next_fence past)) (λ f. ap shown (signal_is script past f legal))

lates-are : (script : Script) (past : List Entry) → IsLegal script past → of_lates script past ≡ lates_in (state script past) (length (homes past).late)
unfolding of_lates lates_in
lates-are script past legal =
    flat-same _ _ (range_with_len 0 (next_early past)) (λ d. ap shown (late_is script past d legal))
    ∙ ap (λ (count : ℕ). flat_map (λ d. shown (late_in (state script past) d)) (range_with_len 0 count)) (earlies_are past)

-- all of them
pub allowed_are : (script : Script) (past : List Entry) → IsLegal script past → allowed_entries script past ≡ all_in script (state script past) (next_fence past)
unfolding allowed_entries all_in
allowed_are script past legal =
    two (frames-are script past legal)
    (two (next-are script past legal)
    (two (ends-are script past legal)
    (two (releases-are script past legal) (two (signals-are script past legal) (lates-are script past legal)))))
