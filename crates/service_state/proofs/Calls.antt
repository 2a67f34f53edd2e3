-- The client's step: what a begin and a call leave.
use Rattle.std.proofs.Common.{◌≡◌, ◌<◌, ◌≤◌, ◌^◌, ℕ, ◌+◌, Bool, true, false, ◌&&◌, not, List, [], ◌∷◌, Option, Some, None, refl, sym, ap, ◌∙◌, length, if◌then◌else◌, suc, is_some}
use Rattle.std.specs.Prelude.{replicate}
use Rattle.std.proofs.lemmas.Bool.{false≢true}
use Rattle.cam_types.specs.declared.four.Four.{Four}
use Rattle.cam_types.specs.declared.item.Settings.{Settings}
use Rattle.cam_types.specs.declared.number.RequestId.{RequestId}
use Rattle.cam_types.specs.declared.reply.Made.{Made}
use Rattle.cam_types.specs.declared.reply.Reply.{Reply}
use Rattle.cam_types.specs.declared.reply.Reply.TheVariants.{Submitted, Configured}
use Rattle.cam_types.specs.declared.row.RowView.{RowView}
use Rattle.cam_types.specs.declared.script.Command.{Command}
use Rattle.cam_types.specs.declared.script.Word.{Word}
use Rattle.trace_model.specs.declared.entry.Entry.{Entry}
use Rattle.trace_model.specs.declared.entry.Entry.TheVariants.{Begin, Call}
use Rattle.trace_model.specs.Calls.{command_at, word_of}
use Rattle.trace_model.specs.Entry.{is_stop_word}
use Rattle.trace_model.specs.Frames.{no_settings}
use Rattle.run_model.specs.declared.step.StepName.TheVariants.{Client}
use Rattle.run_model.specs.History.{trace_of}
use Rattle.run_model.specs.Ready.{or_entry}
use Rattle.state_facts.specs.Turns.{next_of, turns}
use Rattle.state_facts.specs.Turns as queue
use Rattle.state_facts.specs.Homes.{Homes, all_home, configured as configured_with, count_in}
use Rattle.cam_types.specs.Refusals.{specs_refusal}
use Rattle.request_checks.proofs.Accepted.{few_specs}
use Rattle.state_facts.specs.Homes as buffers
use Rattle.state_facts.specs.Clients as client
use Rattle.client_calls.specs.Around.{Fits}
use Rattle.client_calls.specs.Captures.{CanTake}
use Rattle.state_facts.specs.Turns.{settings_next}
use Rattle.state_facts.specs.States.{last_after}
use Rattle.device_rows.specs.Rows.{all_stopped}
use Rattle.run_rows.specs.Kept.{is_no_row}
use Rattle.service_parts.specs.Facts.{IsConfigured, IsConfiguredBy}
use Rattle.cam_types.specs.Four.{four_list, four_of}
use Rattle.cam_types.specs.Profile.{pool_size}
use Rattle.cam_types.specs.declared.profile.Profile.{Profile}
use Rattle.cam_types.specs.declared.script.Command.TheVariants.{Configure}
use Rattle.cam_types.specs.declared.script.Script.{Script}
use Rattle.cam_types.specs.declared.stream.StreamSpec.{StreamSpec}
use Rattle.trace_model.specs.Reply.{made_for}
use Rattle.trace_model.specs.Calls.{is_repeating, is_waiting_command, request_count}
use Rattle.state_facts.specs.Clients.{Clients}
use Rattle.state_facts.specs.Replies.{begin_with, call_with, may_answer_in, reply_in}
use Rattle.client_calls.specs.Room.{IsSubmitted}
use Rattle.service_parts.specs.Parts.{kinds}
use Rattle.std.proofs.lemmas.List.FromFn.{length-map-range_with_len}
use Rattle.service_parts.proofs.AtRest.{configured_home, configured_rest}
use Rattle.service_parts.proofs.Room.{buffers_fit, requests_fit}
use Rattle.service_parts.proofs.Taken.{call_taken}
use Rattle.service_parts.specs.After.{kinds_with, parts_after, pictures_with}
use Rattle.service_parts.specs.Moves.{move_by}
use Rattle.service_parts.specs.Parts.{Parts}
use Rattle.service_state.specs.Answers.{Makes, move_with}
use Rattle.service_state.specs.Configuring.{CanTakeAt, due_in, is_configuration}
use Rattle.service_state.specs.Serving.{IsServing, Serving}
use Rattle.service_state.proofs.Made.{fits_next, makes, same_parts}
use Rattle.service_state.proofs.Runs.{legal_left, legal_next, moves, rows_left, whole_left}
use Rattle.trace_laws.proofs.Due.{four_list_of}

pub due_ready : (s : Serving) (e : Entry) → due_in s ≡ Some e → move_by s.script s.parts Client ≡ Some (move_with Client (Some e))
due_ready s e due = rw due refl

pub none_due : (s : Serving) → due_in s ≡ None → move_by s.script s.parts Client ≡ None
none_due s due = rw due refl

-- an entry that is due, as a contract sees it
pub record IsDue (s : Serving) (e : Entry) : Type 0 where
  pub serving : IsServing s
  pub due : due_in s ≡ Some e

pub due_as : (s t : Serving) → s ≡ t → IsServing t → (e : Entry) → due_in t ≡ Some e → IsDue s e
due_as s t same serving e due = rw same (record { serving = serving; due = due })

-- the client's calls fit after it
pub client_fits : (s : Serving) (e : Entry) → IsDue s e → Fits (parts_after s.script (move_with Client (Some e)) s.parts).client
client_fits s e h = fits_next s h.serving (move_with Client (Some e)) (due_ready s e h.due)

-- ---- a begin

abbrev pub begin_left : Serving → Word → Parts
begin_left s word =
    record s.parts {
      client = client.clients_after s.script false false (Begin word) s.parts.client;
      rows = if is_stop_word word then all_stopped s.parts.rows else s.parts.rows;
    }

pub begins : (s : Serving) (word : Word) → IsDue s (Begin word) → Makes s (record { script = s.script; parts = begin_left s word }) (move_with Client (Some (Begin word)))
begins s word h =
    let m = move_with Client (Some (Begin word)) in
    let ready = due_ready s (Begin word) h.due in
    makes s (begin_left s word) m ready
    (same_parts _ _ refl refl refl refl refl (sym (whole_left s.script s.parts h.serving.run m ready refl)) refl refl)

-- ---- a call

any-last : (a b : Settings) (i : ℕ) (word : Word) (reply : Reply) (old : Option Settings) → last_after a (Call i word reply) old ≡ last_after b (Call i word reply) old
any-last a b i word (Configured each) old = refl
any-last a b i word _ old = refl

-- ---- what a call asks of the parts

pub call_has_place : (s : Serving) → IsServing s → (i : ℕ) (word : Word) (reply : Reply) (c : Command) → due_in s ≡ Some (Call i word reply) → command_at s.script i ≡ Some c → (word ≡ word_of c) × CanTake s.parts.queue c reply
call_has_place s serving i word reply c due at =
    let r = serving.run in
    let legal = legal_next s.script s.parts r (move_with Client (Some (Call i word reply))) (due_ready s (Call i word reply) due) in
    let told = call_taken s.script (trace_of r.history) i word reply c serving.valid legal at in
    let same : s.parts.queue ≡ turns s.script (trace_of r.history) = ap (λ p. p.queue) r.left in
    (told.0, rw same told.1)

pub request_has_room : (s : Serving) → IsServing s → (i : ℕ) (word : Word) (reply : Reply) → due_in s ≡ Some (Call i word reply) → (q : RequestId) → reply ≡ Submitted q → s.parts.queue.requests < length s.script.commands
request_has_room s serving i word reply due q is =
    let r = serving.run in
    let due' : due_in s ≡ Some (Call i word (Submitted q)) = due ∙ ap (λ x. Some (Call i word x)) is in
    let legal = legal_next s.script s.parts r (move_with Client (Some (Call i word (Submitted q)))) (due_ready s (Call i word (Submitted q)) due') in
    let told = requests_fit s.script (trace_of r.history) i word q legal in
    let same : s.parts.queue ≡ turns s.script (trace_of r.history) = ap (λ p. p.queue) r.left in
    rw same told

pub buffers_have_room : (s : Serving) → IsServing s → s.parts.buffers.first + (length s.parts.buffers.places + 72) < 2 ^ 32
buffers_have_room s serving =
    let r = serving.run in
    rw (ap (λ p. p.buffers) r.left) (buffers_fit s.script (trace_of r.history) serving.valid (legal_left s.script s.parts r))

pub configures : (s : Serving) → IsServing s → (i : ℕ) (word : Word) (each : Four Made) → due_in s ≡ Some (Call i word (Configured each)) → IsConfiguredBy s.script s.parts.buffers (command_at s.script i) each
configures s serving i word each due =
    let r = serving.run in
    let legal = legal_next s.script s.parts r (move_with Client (Some (Call i word (Configured each)))) (due_ready s (Call i word (Configured each)) due) in
    rw (ap (λ p. p.buffers) r.left) (configured_home s.script (trace_of r.history) i word each legal)

pub configures_at_rest : (s : Serving) → IsServing s → (i : ℕ) (word : Word) (each : Four Made) → due_in s ≡ Some (Call i word (Configured each)) → s.parts.rows ≡ []
configures_at_rest s serving i word each due =
    let r = serving.run in
    let m = move_with Client (Some (Call i word (Configured each))) in
    let none = configured_rest s.script r.history m i word each (moves s.script s.parts r m (due_ready s (Call i word (Configured each)) due)) refl in
    rw (rows_left s.script s.parts r) (by _ none)
  where
    by : (rows : List RowView) → is_no_row rows ≡ true → rows ≡ []
    by [] e = refl
    by (row ∷ rows) e = absurd (false≢true e)

-- ---- which entries are due of the client

-- a begin, or the call of one of the script's commands
abbrev pub IsClientEntry : Script → Entry → Type 0
IsClientEntry script (Begin word) = Unit {0}
IsClientEntry script (Call i word reply) = (c : Command) × (command_at script i ≡ Some c)
IsClientEntry script _ = ⊥

pub due_kind : (s : Serving) (e : Entry) → due_in s ≡ Some e → IsClientEntry s.script e
due_kind s e due = by-begin (command_at s.script s.parts.client.calls) refl due
  where
    called : (c : Command) → command_at s.script s.parts.client.calls ≡ Some c → (b : Bool) → (if b then Some (Call s.parts.client.calls (word_of c) (reply_in s.script s.parts.client s.parts.queue s.parts.buffers c)) else None) ≡ Some e → IsClientEntry s.script e
    called c at true is = (let k : Call s.parts.client.calls (word_of c) (reply_in s.script s.parts.client s.parts.queue s.parts.buffers c) ≡ e = cc in rw (sym k) (c, at))
    called c at false is = absurd (cc)

    begun : (c : Command) → command_at s.script s.parts.client.calls ≡ Some c → (b : Bool) → or_entry (if b then Some (Begin (word_of c)) else None) (call_with s.script (is_no_row s.parts.rows) s.parts.client s.parts.queue s.parts.buffers (Some c)) ≡ Some e → IsClientEntry s.script e
    begun c at true is = (let k : Begin (word_of c) ≡ e = cc in rw (sym k) tt)
    begun c at false is = called c at (may_answer_in s.script (is_no_row s.parts.rows) s.parts.client s.parts.queue s.parts.buffers c) is

    by-begin : (o : Option Command) → command_at s.script s.parts.client.calls ≡ o → or_entry (begin_with s.parts.client.begun o) (call_with s.script (is_no_row s.parts.rows) s.parts.client s.parts.queue s.parts.buffers o) ≡ Some e → IsClientEntry s.script e
    by-begin (Some c) at is = begun c at (is_waiting_command c && not (is_some s.parts.client.begun)) is
    by-begin None at is = absurd (cc)

-- ---- what an answered call asks, of the command at its place

pub can_take_at : (s : Serving) (i : ℕ) (word : Word) (reply : Reply) → IsDue s (Call i word reply) → CanTakeAt s.parts.queue (command_at s.script i) word reply
can_take_at s i word reply h =
    let called = due_kind s (Call i word reply) h.due in
    let told = call_has_place s h.serving i word reply called.0 h.due called.1 in
    rw called.1 told

-- of each request there is a kind
pub kinds_count : (s : Serving) → IsServing s → length s.parts.kinds ≡ s.parts.queue.requests
kinds_count s serving =
    let r = serving.run in
    let past = trace_of r.history in
    let count : length (kinds s.script past) ≡ request_count past = length-map-range_with_len (λ q. is_repeating s.script past q) 0 (request_count past) in
    rw r.left count

pub kind_has_room : (s : Serving) (i : ℕ) (word : Word) (reply : Reply) → IsDue s (Call i word reply) → IsSubmitted reply → length s.parts.kinds < length s.script.commands
kind_has_room s i word (Submitted r) h is = rw (kinds_count s h.serving) (request_has_room s h.serving i word (Submitted r) h.due r refl)
kind_has_room s i word _ h is = absurd is

-- ---- a reply that configures nothing leaves buffers and settings

pub same_buffers : (i : ℕ) (word : Word) (reply : Reply) (homes : Homes) → is_configuration reply ≡ false → buffers.homes_after (Call i word reply) homes ≡ homes
same_buffers i word (Configured each) homes not' = absurd (false≢true (sym not'))
same_buffers i word _ homes not' = refl

same_pictures : (i : ℕ) (word : Word) (reply : Reply) (p : Parts) → is_configuration reply ≡ false → pictures_with p Client (Call i word reply) ≡ p.pictures
same_pictures i word (Configured each) p not' = absurd (false≢true (sym not'))
same_pictures i word _ p not' = refl

pub same_last : (i : ℕ) (word : Word) (reply : Reply) (last : Option Settings) → is_configuration reply ≡ false → last_after no_settings (Call i word reply) last ≡ last
same_last i word (Configured each) last not' = absurd (false≢true (sym not'))
same_last i word _ last not' = refl

pub same_streams : (script : Script) (i : ℕ) (word : Word) (reply : Reply) (t : Clients) → is_configuration reply ≡ false → (client.clients_after script false false (Call i word reply) t).streams ≡ t.streams
same_streams script i word (Configured each) t not' = absurd (false≢true (sym not'))
same_streams script i word _ t not' = refl

pub configured_by : (reply : Reply) → is_configuration reply ≡ true → (each : Four Made) × (reply ≡ Configured each)
configured_by (Configured each) is = (each, refl)
configured_by _ is = absurd (false≢true is)

-- ---- a configuration

pub record IsReconfigured (s : Serving) (i : ℕ) (each : Four Made) (specs : List StreamSpec) : Type 0 where
  pub command : command_at s.script i ≡ Some (Configure specs)
  pub by : IsConfigured s.script s.parts.buffers specs each

pub reconfigured : (s : Serving) → IsServing s → (i : ℕ) (word : Word) (each : Four Made) → due_in s ≡ Some (Call i word (Configured each)) → (specs : List StreamSpec) × IsReconfigured s i each specs
reconfigured s serving i word each due = by (command_at s.script i) refl (configures s serving i word each due)
  where
    by : (o : Option Command) → command_at s.script i ≡ o → IsConfiguredBy s.script s.parts.buffers o each → (specs : List StreamSpec) × IsReconfigured s i each specs
    by (Some (Configure specs)) at told = (specs, record { command = at; by = told })
    by (Some _) at told = absurd told
    by None at told = absurd told

made-count : (p : Profile) (next : ℕ) (specs : List StreamSpec) → length (made_for p next specs) ≡ length specs
made-count p next [] = refl
made-count p next (spec ∷ specs) = ap suc (made-count p (next + pool_size p spec.format) specs)

-- the buffers that are made are those of the reply
pub made_each : (p : Profile) (next : ℕ) (specs : List StreamSpec) (each : Four Made) → length specs ≤ 4 → each ≡ four_of (made_for p next specs) → four_list each ≡ made_for p next specs
made_each p next specs each few is = ap four_list is ∙ four_list_of (made_for p next specs) (rw (made-count p next specs) few)

-- ---- what an answered call leaves, by its reply

-- one that configures nothing
pub plain_calls : (s : Serving) (i : ℕ) (word : Word) (reply : Reply) → is_configuration reply ≡ false → IsDue s (Call i word reply) → Makes s (record { script = s.script; parts = record s.parts { client = client.clients_after s.script false false (Call i word reply) s.parts.client; queue = queue.turns_after s.script (Call i word reply) s.parts.queue; kinds = kinds_with s.script (Call i word reply) s.parts.kinds } }) (move_with Client (Some (Call i word reply)))
plain_calls s i word reply other h =
    let m = move_with Client (Some (Call i word reply)) in
    let ready = due_ready s (Call i word reply) h.due in
    makes s (record s.parts { client = client.clients_after s.script false false (Call i word reply) s.parts.client; queue = queue.turns_after s.script (Call i word reply) s.parts.queue; kinds = kinds_with s.script (Call i word reply) s.parts.kinds }) m ready
    (same_parts _ _ refl refl refl (sym (same_buffers i word reply s.parts.buffers other)) (sym (same_pictures i word reply s.parts other)) (sym (whole_left s.script s.parts h.serving.run m ready refl))
    (sym (any-last (settings_next (next_of s.parts.queue)) no_settings i word reply s.parts.last ∙ same_last i word reply s.parts.last other)) refl)

-- an accepted configuration: of a command with these streams, at rest; fresh buffers are what it leaves
pub record Reconfiguring (s : Serving) (i : ℕ) (word : Word) (reply : Reply) (specs : List StreamSpec) : Type 0 where
  pub command : command_at s.script i ≡ Some (Configure specs)
  pub accepted : specs_refusal specs ≡ None
  pub home : all_home s.parts.buffers ≡ true
  pub rest : s.parts.rows ≡ []
  pub streams : (client.clients_after s.script false false (Call i word reply) s.parts.client).streams ≡ specs
  pub made : (homes : Homes) (pictures : List (Option (List ℕ))) → homes ≡ configured_with (made_for s.script.profile (s.parts.buffers.first + length s.parts.buffers.places) specs) s.parts.buffers → pictures ≡ replicate (count_in (made_for s.script.profile (s.parts.buffers.first + length s.parts.buffers.places) specs)) None →
      Makes s (record { script = s.script; parts = record s.parts { client = client.clients_after s.script false false (Call i word reply) s.parts.client; queue = queue.turns_after s.script (Call i word reply) s.parts.queue; kinds = kinds_with s.script (Call i word reply) s.parts.kinds; buffers = homes; pictures = pictures; last = None } }) (move_with Client (Some (Call i word reply)))

pub reconfiguring : (s : Serving) (i : ℕ) (word : Word) (reply : Reply) → is_configuration reply ≡ true → IsDue s (Call i word reply) → (specs : List StreamSpec) × Reconfiguring s i word reply specs
reconfiguring s i word (Configured each) is h =
    let it = reconfigured s h.serving i word each h.due in
    let specs = it.0 in
    let m = move_with Client (Some (Call i word (Configured each))) in
    let ready = due_ready s (Call i word (Configured each)) h.due in
    let fresh : four_list each ≡ made_for s.script.profile (s.parts.buffers.first + length s.parts.buffers.places) specs = made_each s.script.profile (s.parts.buffers.first + length s.parts.buffers.places) specs each (few_specs specs it.1.by.accepted) it.1.by.made in (
      specs,
      record {
        command = it.1.command;
        accepted = it.1.by.accepted;
        home = it.1.by.home;
        rest = configures_at_rest s h.serving i word each h.due;
        streams = rw it.1.command refl;
        made = λ homes pictures same shown. makes s (record s.parts { client = client.clients_after s.script false false (Call i word (Configured each)) s.parts.client; queue = queue.turns_after s.script (Call i word (Configured each)) s.parts.queue; kinds = kinds_with s.script (Call i word (Configured each)) s.parts.kinds; buffers = homes; pictures = pictures; last = None }) m ready
            (same_parts _ _ refl refl refl (same ∙ ap (λ ms. configured_with ms s.parts.buffers) (sym fresh)) (shown ∙ ap (λ (ms : List Made). let fresh' : List (Option (List ℕ)) = replicate (count_in ms) None in fresh') (sym fresh)) (sym (whole_left s.script s.parts h.serving.run m ready refl)) refl refl);
      },
    )
reconfiguring s i word _ is h = absurd (false≢true is)
