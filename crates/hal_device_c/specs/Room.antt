-- What a handle owns.
use Rattle.std.specs.Prelude.{◌≡◌, Option, Some, None}
use Rattle.std.specs.Coded.{Coded, coded_option}
use base.Fml.{Fml, fex, ftrue}
use denote.RawPtr.{Ptr, null_ptr}
use Rattle.std.specs.contracts.impls.GlobalAllocator.TheImpl.{ghosts}
use Rattle.std.specs.declared.alloc.Global.{Global}
use Rattle.std.specs.Box.Ownership.{box_owns}
use Rattle.hal_device_model.specs.State.{HalDeviceState}
use Rattle.hal_device_c.specs.contracts.handle.Held.{the_row}

-- the device stands at p, in a block of the heap; with none, p is null
abbrev pub holds : Ptr → Option HalDeviceState → Fml
holds p None = fex (p ≡ null_ptr) (λ _. ftrue)
holds p (Some state) = fex Global (λ heap. box_owns (ghosts.dealloc_token heap) the_row p state)

-- how the logic stores what a handle has
abbrev pub coded_device : Coded (Option HalDeviceState)
coded_device = coded_option the_row.coded
