-- What is told piece by piece.
use Rattle.std.proofs.Common.{◌≡◌, ℕ, Bool, true, false, List, [], ◌++◌, refl, ◌∙◌, append_assoc, append-nil, sym, inr, subst}
use Rattle.std.proofs.KnownBytes.{Appends-nil}
use Rattle.io_edge.specs.Faults.{Rose}
use Rattle.io_edge.specs.States.{Breaks, SinkState}
use Rattle.call_parts.specs.Answers.{Answers, Broken}
use Rattle.io_edge.specs.Pieces.{Gathers}
use Rattle.io_edge.proofs.Gathering.{broken, put, put-broken}
use Rattle.run_views.specs.Told.{IsTold, IsToldWith, TellsMore}
use Rattle.run_views.specs.declared.teller.Teller.{Teller}

-- before anything is told
pub none_told : (s : SinkState) → IsTold (record { pieces = []; broken = false }) s s []
none_told s = (record { sent = []; written = Appends-nil s.written; whole = refl }, refl)

-- one text behind the other
pub behind : (a b : List ℕ) (o m n : Teller) (s t u : SinkState) → TellsMore a o m s t → TellsMore b m n t u → TellsMore (a ++ b) o n s u
behind a b o m n s t u one two first text h =
    subst (λ (l : List ℕ). IsTold n first u l) (append_assoc text a b) (two first (text ++ a) (one first text h))

-- the same bytes
pub same_bytes : (a b : List ℕ) (o n : Teller) (s t : SinkState) → a ≡ b → TellsMore a o n s t → TellsMore b o n s t
same_bytes a b o n s t e more first text h = subst (λ (l : List ℕ). IsTold n first t (text ++ l)) e (more first text h)

-- nothing at all
pub nothing_more : (o : Teller) (s : SinkState) → TellsMore [] o o s s
nothing_more o s first text h = subst (λ (l : List ℕ). IsTold o first s l) (sym (append-nil text)) h

-- ---- bytes, where the sink hasn't failed before

pub gathered_more : (bytes old new : List ℕ) (broken : Bool) (s t : SinkState) → broken ≡ false → Gathers s t new (old ++ bytes) → t.faults ≡ s.faults → (first : SinkState) (text : List ℕ) → IsToldWith broken old first s text → IsToldWith broken new first t (text ++ bytes)
gathered_more bytes old new false s t sound more same first text h =
    (put first s t old new text (text ++ bytes) bytes h.0 more refl, same ∙ h.1)
gathered_more bytes old new true s t sound more same first text h = absurd (cc)

pub broken_now : (bytes old : List ℕ) (broken : Bool) (s t : SinkState) → broken ≡ false → Breaks s t (old ++ bytes) → Rose s.faults t.faults → (first : SinkState) (text : List ℕ) → IsToldWith broken old first s text → Broken (text ++ bytes) first t
broken_now bytes old false s t sound breaks rose first text h =
    (put-broken first s t old text (text ++ bytes) bytes [] h.0 breaks (append-nil (text ++ bytes)), rw h.1 at rose)
broken_now bytes old true s t sound breaks rose first text h = absurd (cc)

-- ---- the end

pub broken_at_end : (old text : List ℕ) (failed : Bool) (first s t : SinkState) → failed ≡ false → IsToldWith failed old first s text → Breaks s t old → Rose s.faults t.faults → Answers 0 text 4 first t
broken_at_end old text false first s t sound h breaks rose = inr (refl, (broken first s t old text h.0 breaks, rw h.1 at rose))
broken_at_end old text true first s t sound h breaks rose = absurd (cc)
