use Rattle.std.specs.Prelude.{ℕ, ◌==◌, Bool, true, false, ◌&&◌, ◌||◌, is_none, IsTrue}
use Rattle.std.specs.List.{list_all}
use Rattle.cam_types.specs.Metadata.{range_fault}
use Rattle.cam_types.specs.Picture.{is_offered}
use Rattle.cam_types.specs.declared.item.Settings.{Settings}
use Rattle.trace_model.specs.declared.entry.Entry.{Entry}
use Rattle.trace_model.specs.declared.entry.Entry.TheVariants.{Filled, Late}
use Rattle.state_facts.specs.States.{State}

-- What the pictures of a trace ask of its state (our own choice: every legal trace meets it).

-- the entry gives the digest of a picture (our own choice: these two kinds are judged by drawing)
abbrev pub has_digest : Entry → Bool
has_digest (Filled _ _ _ _ _) = true
has_digest (Late _ _) = true
has_digest _ = false

-- the settings are in their range, or all zeros, which stand where no item is known
abbrev pub is_drawable : Settings → Bool
is_drawable s =
    is_none (range_fault s) || ((s.pattern == 0) && ((s.level == 0) && ((s.exposure == 0) && (s.iso == 0))))

-- each stream is offered, and the settings of each open frame can be drawn
pub record CanDraw (s : State) : Type 0 where
  pub offered : IsTrue (list_all is_offered s.client.streams)
  pub drawable : IsTrue (list_all (λ r. is_drawable r.settings) s.rows)
