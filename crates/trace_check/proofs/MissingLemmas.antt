-- The released fences by the entries that release them.
use Rattle.std.proofs.Common.{◌≡◌, ℕ, Bool, ◌&&◌, List, [], ◌∷◌, refl, ap}
use Rattle.std.specs.List.{list_all}
use Rattle.trace_model.specs.declared.entry.Entry.{Entry}
use Rattle.trace_model.specs.declared.entry.Entry.TheVariants.{Begin, Call, Send, Dropped, Shutter, Partial, Filled, Failed, ErrorRequest, ErrorResult, ErrorBuffer, ErrorDevice, Release, Signal, Early, Late}
use Rattle.trace_model.specs.Complete.{released}
use Rattle.trace_check.specs.Released.{on_release}

pub released-all : (p : ℕ → Bool) (past : List Entry) → list_all p (released past) ≡ list_all (on_release p) past
released-all p [] = refl
released-all p (Release b f ∷ past) = ap (λ x. p f.0 && x) (released-all p past)
released-all p (Begin word ∷ past) = released-all p past
released-all p (Call i word r ∷ past) = released-all p past
released-all p (Send n r i same targets ∷ past) = released-all p past
released-all p (Dropped n r i ∷ past) = released-all p past
released-all p (Shutter n time ∷ past) = released-all p past
released-all p (Partial n k part ∷ past) = released-all p past
released-all p (Filled n s b f digest ∷ past) = released-all p past
released-all p (Failed n s b f ∷ past) = released-all p past
released-all p (ErrorRequest n ∷ past) = released-all p past
released-all p (ErrorResult n ∷ past) = released-all p past
released-all p (ErrorBuffer n s ∷ past) = released-all p past
released-all p (ErrorDevice ∷ past) = released-all p past
released-all p (Signal f ∷ past) = released-all p past
released-all p (Early n s b f ∷ past) = released-all p past
released-all p (Late f digest ∷ past) = released-all p past
