-- An event that doesn't speak of a request leaves what stands for it.
use Rattle.std.proofs.Common.{◌≡◌, ℕ, ◌==◌, Bool, false, Option, refl}
use Rattle.hal_model.specs.Words.{begins, gives, is_any, is_error_buffer, is_error_request, is_error_result, is_part, is_shutter, refuses}
use Rattle.hal_model.specs.declared.event.HalEvent.{HalEvent}
use Rattle.hal_model.specs.declared.event.HalEvent.TheVariants.{RequestBegin, RequestOk, RequestError, Shutter, ErrorRequest, ErrorResult, ErrorBuffer, Results}
use Rattle.hal_model.specs.declared.event.Pack.TheVariants.{Entries, Empty, Absent}

-- the event is of request n
abbrev pub speaks : ℕ → HalEvent → Bool
speaks n (RequestBegin m _ _ _ _) = m == n
speaks n (RequestOk m) = m == n
speaks n (RequestError m _) = m == n
speaks n (Shutter m _) = m == n
speaks n (ErrorRequest m) = m == n
speaks n (ErrorResult m) = m == n
speaks n (ErrorBuffer m _) = m == n
speaks n (Results m _ _ _ _) = m == n
speaks n _ = false

pub no_begin : (n : ℕ) (e : HalEvent) → speaks n e ≡ false → begins n e ≡ false
no_begin n (RequestBegin m same targets a b) h = h
no_begin n _ h = refl

pub no_refusal : (n : ℕ) (e : HalEvent) → speaks n e ≡ false → refuses n e ≡ false
no_refusal n (RequestError m error) h = h
no_refusal n _ h = refl

pub no_shutter : (n : ℕ) (e : HalEvent) → speaks n e ≡ false → is_shutter n e ≡ false
no_shutter n (Shutter m time) h = h
no_shutter n _ h = refl

pub no_request_error : (n : ℕ) (e : HalEvent) → speaks n e ≡ false → is_error_request n e ≡ false
no_request_error n (ErrorRequest m) h = h
no_request_error n _ h = refl

pub no_result_error : (n : ℕ) (e : HalEvent) → speaks n e ≡ false → is_error_result n e ≡ false
no_result_error n (ErrorResult m) h = h
no_result_error n _ h = refl

pub no_part : (n j : ℕ) (e : HalEvent) → speaks n e ≡ false → is_part n j e ≡ false
no_part n j (Results m i Entries buffers input) h = rw h refl
no_part n j (Results m i Empty buffers input) h = refl
no_part n j (Results m i Absent buffers input) h = refl
no_part n j _ h = refl

pub no_buffer : (n b : ℕ) (e : HalEvent) → speaks n e ≡ false → gives is_any n b e ≡ false
no_buffer n b (Results m i pack buffers input) h = rw h refl
no_buffer n b _ h = refl

pub no_notice : (n : ℕ) (s : Option ℕ) (e : HalEvent) → speaks n e ≡ false → is_error_buffer n s e ≡ false
no_notice n s (ErrorBuffer m t) h = rw h refl
no_notice n s _ h = refl
