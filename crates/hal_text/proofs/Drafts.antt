-- A log that can be written, with one more event.
use Rattle.std.proofs.Common.{◌≡◌, ℕ, true, ◌&&◌, eqb, List, [], ◌∷◌, ◌++◌, length, Some, refl, sym, ◌∙◌, arith, append_assoc}
use Rattle.std.specs.List.{list_all}
use Rattle.std.proofs.lemmas.Bool.{and_parts, and_from, eq-eqb}
use Rattle.std.proofs.lemmas.List.{append-nil, length-append}
use Rattle.std.proofs.lemmas.List.Folds.{list_all-append}
use Rattle.hal_model.specs.declared.event.HalEvent.{HalEvent}
use Rattle.hal_model.specs.Fits.{has_begin, have_begins, is_count, is_valid, is_well_made}
use Rattle.hal_text.specs.Begun.{Knows}
use Rattle.hal_text.specs.Drafts.{Stands, longer}
use Rattle.hal_text.specs.declared.begun.Begun.{Begun}
use Rattle.hal_text.specs.declared.log.HalLog.{HalLog}

begins-more : (past events : List HalEvent) (event : HalEvent) → have_begins past events ≡ true → has_begin (past ++ events) event ≡ true → have_begins past (events ++ event ∷ []) ≡ true
begins-more past [] event h k = and_from _ _ (rw (sym (append-nil past)) k) refl
begins-more past (e ∷ events) event h k =
    let p = and_parts (has_begin past e) (have_begins (past ++ e ∷ []) events) h in
    and_from _ _ p.0 (begins-more (past ++ e ∷ []) events event p.1 (rw (append_assoc past (e ∷ []) events) k))

valid-more : (parts : ℕ) (events : List HalEvent) (event : HalEvent) → is_valid parts events ≡ true → is_well_made event ≡ true → has_begin events event ≡ true → is_valid parts (events ++ event ∷ []) ≡ true
valid-more parts events event h made begun =
    let p = and_parts (is_count parts) _ h in
    let q = and_parts (list_all is_well_made events) (have_begins [] events) p.1 in
    and_from _ _ p.0 (and_from _ _ (list_all-append is_well_made events (event ∷ []) ∙ and_from _ _ q.0 (and_from _ _ made refl)) (begins-more [] events event q.1 begun))

pub stands-more : (n : ℕ) (log more : HalLog) (event : HalEvent) (b : Begun) → is_valid log.parts log.events ≡ true → is_well_made event ≡ true → has_begin log.events event ≡ true → length log.lines ≡ length log.events → more ≡ longer n log event → Knows b more.events → Stands (Some more) b
stands-more n log more event b h made begun same is knows =
    (rw is (and_from _ _ (valid-more log.parts log.events event h made begun) (eq-eqb _ _ (omega (arith, length-append log.lines (n ∷ []), length-append log.events (event ∷ []), same)))), knows)
