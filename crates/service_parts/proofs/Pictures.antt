-- The digest of a frame whose row stands is read from the parts.
use Rattle.std.proofs.Common.{◌≡◌, ℕ, true, List, Option, sym, ap, slice_get}
use Rattle.cam_types.specs.declared.row.RowView.{RowView}
use Rattle.cam_types.specs.declared.script.Script.{Script}
use Rattle.trace_model.specs.Configuration.{streams}
use Rattle.trace_model.specs.Open.{is_open}
use Rattle.trace_model.specs.Picture.{digest_of, digest_on}
use Rattle.run_model.specs.declared.step.Move.{Move}
use Rattle.run_model.specs.History.{trace_of}
use Rattle.service_parts.specs.Moves.{digest_by, settings_at}
use Rattle.service_parts.specs.Parts.{parts}
use Rattle.run_rows.proofs.WorkJobs.{open-found}

pub digest-read : (script : Script) (h : List Move) (n s : ℕ) → is_open n (trace_of h) ≡ true → digest_of script (trace_of h) n s ≡ digest_by (parts script h) n s
digest-read script h n s open_ =
    ap (λ (o : Option RowView). digest_on (slice_get (streams script (trace_of h)) s) (settings_at o) n) (sym (open-found script h n open_))
