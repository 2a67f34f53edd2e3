-- What an event does to a row's targets, parts and notices, of its own frame and of others.
use Rattle.std.proofs.Common.{◌≡◌, ◌∙◌, ℕ, ◌==◌, Bool, true, false, ◌&&◌, List, [], ◌∷◌, Some, None, refl, sym, ap, arith, length, map, if◌then◌else◌}
use Rattle.std.specs.List.{list_any}
use Rattle.basic_lemmas.proofs.Lists.{map-same}
use Rattle.hal_model.specs.declared.event.HalEvent.{HalEvent}
use Rattle.hal_model.specs.declared.event.HalEvent.TheVariants.{ErrorBuffer, Results}
use Rattle.hal_model.specs.declared.event.Pack.TheVariants.{Entries, Empty, Absent}
use Rattle.hal_model.specs.declared.event.Returned.{Returned}
use Rattle.hal_model.specs.Callbacks.{is_not_filled}
use Rattle.hal_model.specs.Words.{gives, is_any, is_failed_buffer, is_filled, is_good, is_number}
use Rattle.hal_rows.specs.declared.row.PartRow.{PartRow}
use Rattle.hal_rows.specs.declared.row.TargetRow.{TargetRow}
use Rattle.hal_rows.specs.Row.{is_orderly_in, note_notice, note_part, note_target, with_number}
use Rattle.hal_row.specs.Given.{buffers_of, is_given, notice_in, part_in, with_buffers, with_part}

given-reads : (q : Returned → Bool) (n b : ℕ) (e : HalEvent) → is_given q b (buffers_of n e) ≡ gives q n b e
given-reads q n b (Results m j pack buffers input) = by (m == n)
  where
    by : (own : Bool) → is_given q b (if own then buffers else []) ≡ (own && list_any (λ r. q r && is_number b r.buffer) buffers)
    by true = refl
    by false = refl
given-reads q n b _ = refl

own-map : {X : Type 0} (f : X → X) (xs : List X) → ((x : X) → f x ≡ x) → map f xs ≡ xs
own-map f [] same = refl
own-map f (x ∷ xs) same = rw (same x, own-map f xs same) refl

target-noted : (n : ℕ) (flushing : Bool) (e : HalEvent) (t : TargetRow) → with_buffers (buffers_of n e) flushing t ≡ note_target n flushing e t
target-noted n flushing e t =
    rw (given-reads is_any n t.target.buffer e, given-reads is_filled n t.target.buffer e, given-reads is_good n t.target.buffer e, given-reads is_failed_buffer n t.target.buffer e, given-reads (λ r. is_any r && is_orderly_in flushing r) n t.target.buffer e, given-reads (λ r. is_not_filled r && is_orderly_in flushing r) n t.target.buffer e) refl

pub targets_noted : (n : ℕ) (flushing : Bool) (e : HalEvent) (ts : List TargetRow) → map (with_buffers (buffers_of n e) flushing) ts ≡ map (note_target n flushing e) ts
targets_noted n flushing e ts = map-same (with_buffers (buffers_of n e) flushing) (note_target n flushing e) ts (target-noted n flushing e)

pub targets_kept : (n : ℕ) (flushing : Bool) (e : HalEvent) (ts : List TargetRow) → buffers_of n e ≡ [] → map (note_target n flushing e) ts ≡ ts
targets_kept n flushing e ts none = sym (targets_noted n flushing e ts) ∙ rw none (own-map (with_buffers [] flushing) ts (λ t. refl))

part-noted : (n j : ℕ) (e : HalEvent) (p : PartRow) → part_in n e ≡ Some j → with_part j p ≡ note_part n e p
part-noted n j (Results m i Entries buffers input) p h = by (m == n) refl
  where
    by : (own : Bool) → (m == n) ≡ own → with_part j p ≡ note_part n (Results m i Entries buffers input) p
    by true own = let h' = rw own at h in rw own (grind arith)
    by false other = let h' = rw other at h in absurd (cc)
part-noted n j (Results m i Empty buffers input) p h = let h' = rw (never (m == n)) at h in absurd (cc)
  where
    never : (b : Bool) → (b && false) ≡ false
    never true = refl
    never false = refl
part-noted n j (Results m i Absent buffers input) p h = let h' = rw (never (m == n)) at h in absurd (cc)
  where
    never : (b : Bool) → (b && false) ≡ false
    never true = refl
    never false = refl
part-noted n j _ p h = absurd (cc)

part-kept : (n : ℕ) (e : HalEvent) (p : PartRow) → part_in n e ≡ None → note_part n e p ≡ p
part-kept n (Results m i Entries buffers input) p h = by (m == n) refl
  where
    by : (own : Bool) → (m == n) ≡ own → note_part n (Results m i Entries buffers input) p ≡ p
    by true own = let h' = rw own at h in absurd (cc)
    by false other = rw other refl
part-kept n (Results m i Empty buffers input) p h = refl
part-kept n (Results m i Absent buffers input) p h = refl
part-kept n _ p h = refl

pub parts_noted : (n j : ℕ) (e : HalEvent) (ps : List PartRow) → part_in n e ≡ Some j → map (with_part j) ps ≡ map (note_part n e) ps
parts_noted n j e ps h = map-same (with_part j) (note_part n e) ps (λ p. part-noted n j e p h)

pub parts_kept : (n : ℕ) (e : HalEvent) (ps : List PartRow) → part_in n e ≡ None → map (note_part n e) ps ≡ ps
parts_kept n e ps h = own-map (note_part n e) ps (λ p. part-kept n e p h)

pub notice_noted : (n s : ℕ) (e : HalEvent) (notices : List ℕ) → notice_in n e ≡ Some s → with_number s notices ≡ note_notice n e notices
notice_noted n s (ErrorBuffer m (Some t)) notices h = by (m == n) refl
  where
    by : (own : Bool) → (m == n) ≡ own → with_number s notices ≡ note_notice n (ErrorBuffer m (Some t)) notices
    by true own = let h' = rw own at h in rw own (ap (λ x. with_number x notices) (some-is h'))
      where
        some-is : Some t ≡ Some s → s ≡ t
        some-is g = cc
    by false other = let h' = rw other at h in absurd (cc)
notice_noted n s (ErrorBuffer m None) notices h = by (m == n) refl
  where
    by : (own : Bool) → (m == n) ≡ own → with_number s notices ≡ note_notice n (ErrorBuffer m None) notices
    by true own = let h' = rw own at h in absurd (cc)
    by false other = let h' = rw other at h in absurd (cc)
notice_noted n s _ notices h = absurd (cc)

pub notices_kept : (n : ℕ) (e : HalEvent) (notices : List ℕ) → notice_in n e ≡ None → note_notice n e notices ≡ notices
notices_kept n (ErrorBuffer m (Some t)) notices h = by (m == n) refl
  where
    by : (own : Bool) → (m == n) ≡ own → note_notice n (ErrorBuffer m (Some t)) notices ≡ notices
    by true own = let h' = rw own at h in absurd (cc)
    by false other = rw other refl
notices_kept n (ErrorBuffer m None) notices h = refl
notices_kept n _ notices h = refl

pub empty-is : {X : Type 0} (xs : List X) → length xs ≡ 0 → xs ≡ []
empty-is [] h = refl
empty-is (x ∷ xs) h = absurd (omega arith)
