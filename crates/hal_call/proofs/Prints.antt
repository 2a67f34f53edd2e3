-- The hal log of a legal trace has a text.
use Rattle.std.proofs.Common.{◌≡◌, true, List, [], ◌∷◌, ◌++◌, append_assoc, append-nil, refl, ◌∙◌, reverse}
use Rattle.std.specs.List.{list_all}
use Rattle.std.proofs.lemmas.Bool.{and_from, and_parts}
use Rattle.std.proofs.lemmas.List.{reverse-append}
use Rattle.cam_types.specs.Script.{is_valid}
use Rattle.cam_types.specs.declared.script.Script.{Script}
use Rattle.trace_model.specs.declared.entry.Entry.{Entry}
use Rattle.trace_model.specs.Legal.{IsLegal}
use Rattle.hal_model.specs.Words.{begins, begins_close, begins_configure, begins_flush, inits, opens, templates}
use Rattle.hal_model.specs.declared.event.HalEvent.{HalEvent}
use Rattle.hal_model.specs.declared.event.HalEvent.TheVariants.{OpenOk, OpenError, InitOk, InitError, TemplateOk, TemplateNull, ConfigureOk, ConfigureError, RequestOk, RequestError, FlushOk, FlushError, CloseEnd}
use Rattle.hal_model.specs.Fits.{has_begin, have_begins, is_well_made, is_valid as is_valid_log}
use Rattle.hal_model.specs.Hal.{whole_log}
use Rattle.hal_call.specs.Printed.{log_of}
use Rattle.hal_call.proofs.Begun.{all_begun, log_begun}
use Rattle.hal_call.proofs.Short.{log_short}
use Rattle.basic_lemmas.proofs.Lists.{any-reversed, all-reversed}

-- a begin is looked for in no order
begin_back : (past : List HalEvent) (e : HalEvent) → has_begin (reverse past) e ≡ has_begin past e
begin_back past OpenOk = any-reversed opens past
begin_back past (OpenError error) = any-reversed opens past
begin_back past InitOk = any-reversed inits past
begin_back past (InitError error) = any-reversed inits past
begin_back past (TemplateOk template) = any-reversed templates past
begin_back past (TemplateNull template) = any-reversed templates past
begin_back past (ConfigureOk most) = any-reversed begins_configure past
begin_back past (ConfigureError error) = any-reversed begins_configure past
begin_back past (RequestOk n) = any-reversed (begins n) past
begin_back past (RequestError n error) = any-reversed (begins n) past
begin_back past FlushOk = any-reversed begins_flush past
begin_back past (FlushError error) = any-reversed begins_flush past
begin_back past CloseEnd = any-reversed begins_close past
begin_back past _ = refl

-- one event more at the end
begins_more : (past xs : List HalEvent) (e : HalEvent) → have_begins past xs ≡ true → has_begin (past ++ xs) e ≡ true → have_begins past (xs ++ e ∷ []) ≡ true
begins_more past [] e all one = let one' = rw (append-nil past) at one in and_from _ _ one' refl
begins_more past (x ∷ xs) e all one =
    let parts = and_parts (has_begin past x) (have_begins (past ++ x ∷ []) xs) all in
    and_from _ _ parts.0 (begins_more (past ++ x ∷ []) xs e parts.1 (rw (append_assoc past (x ∷ []) xs) one))

back_begun : (log : List HalEvent) → all_begun log ≡ true → have_begins [] (reverse log) ≡ true
back_begun [] h = refl
back_begun (e ∷ past) h =
    let parts = and_parts (has_begin past e) (all_begun past) h in
    let more = begins_more [] (reverse past) e (back_begun past parts.1) (begin_back past e ∙ parts.0) in
    rw (reverse-append (e ∷ []) past) more

pub log_prints : (script : Script) (entries : List Entry) → is_valid script ≡ true → IsLegal script (reverse entries) → is_valid_log 3 (log_of script entries) ≡ true
log_prints script entries fits legal =
    let log = whole_log script (reverse entries) in
    let short = all-reversed is_well_made log (log_short script (reverse entries) fits) in
    let begun' = back_begun log (log_begun script (reverse entries) legal) in
    and_from (list_all is_well_made (reverse log)) (have_begins [] (reverse log)) short begun'
