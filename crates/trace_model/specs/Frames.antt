use Rattle.std.specs.Prelude.{ℕ, ◌==◌, Bool, false, ◌||◌, not, List, [], ◌∷◌, Option, Some, None, nat_lt, find, if◌then◌else◌}
use Rattle.std.specs.List.{list_any, list_all}
use Rattle.cam_types.specs.Four.{four_list}
use Rattle.cam_types.specs.declared.item.Item.{Item}
use Rattle.cam_types.specs.declared.item.Settings.{Settings}
use Rattle.cam_types.specs.declared.script.Script.{Script}
use Rattle.trace_model.specs.declared.entry.Entry.{Entry}
use Rattle.trace_model.specs.declared.entry.Entry.TheVariants.{Send, Shutter}
use Rattle.trace_model.specs.declared.entry.Sent.{Sent}
use Rattle.trace_model.specs.Calls.{item_at, is_repeating}
use Rattle.trace_model.specs.Entry.{sends, is_shutter, is_error_request, is_error_of}

-- A frame is what a send makes of an item: its number, its settings and its buffers stay what they were sent as.

-- the numbers of the frames that were sent, the newest first
abbrev pub frames : List Entry → List ℕ
frames [] = []
frames (Send n _ _ _ _ ∷ past) = n.0 ∷ frames past
frames (_ ∷ past) = frames past

abbrev pub is_sent : ℕ → List Entry → Bool
is_sent n past = list_any (sends n) past

-- the test holds of each smaller frame that was sent
abbrev pub each_earlier : ℕ → (ℕ → Bool) → List Entry → Bool
each_earlier n p past = list_all (λ m. not (nat_lt m n) || p m) (frames past)

-- the entry that sent frame n
abbrev pub send_of : ℕ → List Entry → Option Entry
send_of n past = find (sends n) past

abbrev pub targets_in : Option Entry → List Sent
targets_in (Some (Send _ _ _ _ targets)) = four_list targets
targets_in _ = []

-- the buffers that frame n was sent with
abbrev pub targets_of : ℕ → List Entry → List Sent
targets_of n past = targets_in (send_of n past)

abbrev pub target_of : ℕ → ℕ → List Entry → Option Sent
target_of n s past = find (λ t. t.stream.0 == s) (targets_of n past)

abbrev pub has_target : ℕ → ℕ → List Entry → Bool
has_target n s past = list_any (λ t. t.stream.0 == s) (targets_of n past)

abbrev pub item_in : Script → List Entry → Option Entry → Option Item
item_in script past (Some (Send _ r i _ _)) = item_at script past r.0 i
item_in script past _ = None

-- the item that frame n was sent for
abbrev pub item_of : Script → List Entry → ℕ → Option Item
item_of script past n = item_in script past (send_of n past)

abbrev pub no_settings : Settings
no_settings = record { pattern = 0; level = 0; exposure = 0; iso = 0 }

abbrev pub settings_in : Option Item → Settings
settings_in (Some item) = item.settings
settings_in None = no_settings

-- the settings of frame n, which was sent
abbrev pub settings_of : Script → List Entry → ℕ → Settings
settings_of script past n = settings_in (item_of script past n)

abbrev pub repeats_in : Script → List Entry → Option Entry → Bool
repeats_in script past (Some (Send _ r _ _ _)) = is_repeating script past r.0
repeats_in script past _ = false

-- frame n is of a repeating request
abbrev pub is_repeating_frame : Script → List Entry → ℕ → Bool
is_repeating_frame script past n = repeats_in script past (send_of n past)

abbrev pub has_shutter : ℕ → List Entry → Bool
has_shutter n past = list_any (is_shutter n) past

abbrev pub has_error_request : ℕ → List Entry → Bool
has_error_request n past = list_any (is_error_request n) past

abbrev pub has_error : ℕ → List Entry → Bool
has_error n past = list_any (is_error_of n) past

-- the time of frame n's shutter
abbrev pub shutter_time : ℕ → List Entry → Option ℕ
shutter_time n [] = None
shutter_time n (Shutter m time ∷ past) = if m.0 == n then Some time else shutter_time n past
shutter_time n (_ ∷ past) = shutter_time n past
