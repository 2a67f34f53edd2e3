-- The derived `==` of an entry decides equality.
use Rattle.std.proofs.Common.{◌≡◌, refl, rules}
use Rattle.std.proofs.lemmas.Bool.{false≢true}
use Rattle.std.specs.Bool.{Decides}
use Rattle.std.proofs.lemmas.Bool.Decides.{Decides-and, Decides-like, Decides-eqb}
use Rattle.std.specs.Cmp.{booleans_Decides}
use Rattle.cam_types.proofs.Decided.{Decides-four_eq, Decides-frame_eq, Decides-reply_eq, Decides-request_eq}
use Rattle.cam_types.specs.declared.script.Word.{Word}
use Rattle.cam_types.specs.contracts.script.WordPartialEq.TheImpl.{eq-value as word_eq}
use Rattle.trace_model.specs.declared.entry.Entry.{Entry}
use Rattle.trace_model.specs.declared.entry.Entry.TheVariants.{Begin, Call, Send, Dropped, Shutter, Partial, Filled, Failed, ErrorRequest, ErrorResult, ErrorBuffer, ErrorDevice, Release, Signal, Early, Late}
use Rattle.trace_model.specs.declared.entry.Sent.{Sent}
use Rattle.trace_model.specs.contracts.entry.EntryPartialEq.TheImpl.{eq-value as entry_eq}
use Rattle.trace_model.specs.contracts.entry.SentPartialEq.TheImpl.{eq-value as sent_eq}

Decides-sent_eq : (a b : Sent) → Decides (sent_eq.it a b) (a ≡ b)
Decides-sent_eq a b = search rules

Decides-word_eq : (a b : Word) → Decides (word_eq.it a b) (a ≡ b)
Decides-word_eq a b = search rules

pub Decides-entry_eq : (a b : Entry) → Decides (entry_eq.it a b) (a ≡ b)
Decides-entry_eq (Begin w) (Begin v) = search rules
Decides-entry_eq (Call i w r) (Call j v s) =
    Decides-like _ (λ h. rw (h.0, h.1.0, h.1.1) refl) (λ h. (cc, (cc, cc))) (Decides-and _ _ (Decides-eqb i j) (Decides-and _ _ (Decides-word_eq w v) (Decides-reply_eq r s)))
Decides-entry_eq (Send n r i s ts) (Send m q j t us) =
    Decides-like _ (λ h. rw (h.0, h.1.0, h.1.1.0, h.1.1.1.0, h.1.1.1.1) refl) (λ h. (cc, (cc, (cc, (cc, cc))))) (Decides-and _ _ (Decides-frame_eq n m) (Decides-and _ _ (Decides-request_eq r q) (Decides-and _ _ (Decides-eqb i j) (Decides-and _ _ (booleans_Decides s t) (Decides-four_eq sent_eq.it Decides-sent_eq ts us)))))
Decides-entry_eq (Dropped n r i) (Dropped m q j) = search rules
Decides-entry_eq (Shutter n t) (Shutter m u) = search rules
Decides-entry_eq (Partial n k p) (Partial m l q) = search rules
Decides-entry_eq (Filled n s b f d) (Filled m t c g e) = search rules
Decides-entry_eq (Failed n s b f) (Failed m t c g) = search rules
Decides-entry_eq (ErrorRequest n) (ErrorRequest m) = search rules
Decides-entry_eq (ErrorResult n) (ErrorResult m) = search rules
Decides-entry_eq (ErrorBuffer n s) (ErrorBuffer m t) = search rules
Decides-entry_eq ErrorDevice ErrorDevice = (λ _. refl, λ _. refl)
Decides-entry_eq (Release b f) (Release c g) = search rules
Decides-entry_eq (Signal f) (Signal g) = search rules
Decides-entry_eq (Early n s b d) (Early m t c e) = search rules
Decides-entry_eq (Late d e) (Late f g) = search rules
Decides-entry_eq _ _ = (λ h. absurd (false≢true h), λ h. absurd (cc))
