-- What a request that failed whole brings, and in which order what comes back comes.
use Rattle.std.proofs.Common.{◌≡◌, ℕ, Bool, true, false, ◌&&◌, not, List, [], ◌∷◌, refl, sym, ◌∙◌, inl, inr}
use Rattle.std.specs.List.{list_any}
use Rattle.std.proofs.lemmas.Bool.{cases_Bool, false≢true}
use Rattle.basic_lemmas.proofs.Lists.{any-less}
use Rattle.basic_lemmas.proofs.Tests.{and-false, and-true, and-none}
use Rattle.hal_model.specs.declared.event.HalEvent.{HalEvent}
use Rattle.hal_model.specs.declared.event.HalEvent.TheVariants.{Results}
use Rattle.hal_model.specs.declared.event.Pack.{Pack}
use Rattle.hal_model.specs.declared.event.Pack.TheVariants.{Absent, Empty, Entries}
use Rattle.hal_model.specs.declared.event.Returned.{Returned}
use Rattle.hal_model.specs.declared.rule.Rule.TheVariants.{BufferOrder, GoodAfterError, MetadataAfterRequestError, MetadataOrder, UnknownFrame}
use Rattle.hal_model.specs.Callbacks.{has_sound_part, is_overtaken, is_wrongly_filled}
use Rattle.hal_model.specs.Rules.{known}
use Rattle.hal_model.specs.Words.{has_later, is_failed, is_filled, is_live}
use Rattle.hal_laws.specs.Promised.{BuffersInOrder, KeepsRules, MetadataInOrder, NothingGoodFails}
use Rattle.hal_laws.proofs.Empty.{kept-at}

-- a callback that isn't a last word names a live request
live-named : (a b : Bool) → (not a && not b) ≡ false → b ≡ false → a ≡ true
live-named true b h k = refl
live-named false b h k = absurd (false≢true (sym h ∙ rw k refl))

live-metadata : (k n j : ℕ) (buffers : List Returned) (input : Bool) (log : List HalEvent) → KeepsRules k (Results n j Entries buffers input ∷ log) → is_live k n (known k log) ≡ true
live-metadata k n j buffers input log keeps = live-named (is_live k n (known k log)) false (kept-at k (Results n j Entries buffers input) log 23 UnknownFrame keeps refl) refl

live-buffer : (k n j : ℕ) (pack : Pack) (r : Returned) (buffers : List Returned) (input : Bool) (log : List HalEvent) → KeepsRules k (Results n j pack (r ∷ buffers) input ∷ log) → is_live k n (known k log) ≡ true
live-buffer k n j Entries r buffers input log keeps = live-metadata k n j (r ∷ buffers) input log keeps
live-buffer k n j e r buffers input log keeps = live-named (is_live k n (known k log)) false (kept-at k (Results n j e (r ∷ buffers) input) log 23 UnknownFrame keeps refl) refl

-- ---- a request that failed whole

-- an ok buffer of a request that failed whole is wrongly ok
none-filled : (n : ℕ) (past : List HalEvent) (buffers : List Returned) → list_any (is_wrongly_filled n past) buffers ≡ false → (list_any is_filled buffers && is_failed n past) ≡ false
none-filled n past buffers none = elim (cases_Bool (is_failed n past)) [
  | inl failed ↦ rw failed (and-true (list_any is_filled buffers) ∙ any-less (is_wrongly_filled n past) is_filled buffers (λ r filled. rw (filled, failed) refl) none)
  | inr well ↦ rw well (and-false (list_any is_filled buffers))
]

buffers-well : (k n j : ℕ) (pack : Pack) (buffers : List Returned) (input : Bool) (log : List HalEvent) → KeepsRules k (Results n j pack buffers input ∷ log) → (list_any is_filled buffers && is_failed n (known k log)) ≡ false
buffers-well k n j pack [] input log keeps = refl
buffers-well k n j pack (r ∷ buffers) input log keeps =
    none-filled n (known k log) (r ∷ buffers)
    (and-none (is_live k n (known k log)) (list_any (is_wrongly_filled n (known k log)) (r ∷ buffers))
    (kept-at k (Results n j pack (r ∷ buffers) input) log 37 GoodAfterError keeps refl) (live-buffer k n j pack r buffers input log keeps))

pub nothing_good_fails : (k : ℕ) (e : HalEvent) (log : List HalEvent) → NothingGoodFails k e log
nothing_good_fails k (Results n j Entries buffers input) log keeps =
    and-none (is_live k n (known k log)) (is_failed n (known k log)) (kept-at k (Results n j Entries buffers input) log 32 MetadataAfterRequestError keeps refl) (live-metadata k n j buffers input log keeps)
nothing_good_fails k (Results n j Empty buffers input) log keeps = buffers-well k n j Empty buffers input log keeps
nothing_good_fails k (Results n j Absent buffers input) log keeps = buffers-well k n j Absent buffers input log keeps
nothing_good_fails k _ log keeps = refl

-- ---- order

pub buffers_in_order : (k : ℕ) (e : HalEvent) (log : List HalEvent) → BuffersInOrder k e log
buffers_in_order k (Results n j pack [] input) log keeps = refl
buffers_in_order k (Results n j pack (r ∷ buffers) input) log keeps =
    and-none (is_live k n (known k log)) (list_any (is_overtaken n (known k log)) (r ∷ buffers)) (kept-at k (Results n j pack (r ∷ buffers) input) log 36 BufferOrder keeps refl) (live-buffer k n j pack r buffers input log keeps)
buffers_in_order k _ log keeps = refl

pub metadata_in_order : (k : ℕ) (e : HalEvent) (log : List HalEvent) → MetadataInOrder k e log
metadata_in_order k (Results n j Entries buffers input) log keeps =
    let past = known k log in
    let broken = kept-at k (Results n j Entries buffers input) log 33 MetadataOrder keeps refl in
    by (is_live k n past) _ (has_later (has_sound_part k) n past) (live-metadata k n j buffers input log keeps) broken
  where
    by : (a b c : Bool) → a ≡ true → ((a && b) && c) ≡ false → (b && c) ≡ false
    by true b c h i = i
    by false b c h i = absurd (false≢true h)
metadata_in_order k _ log keeps = refl
