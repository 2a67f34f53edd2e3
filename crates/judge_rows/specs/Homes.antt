use Rattle.std.specs.Prelude.{List, Option, map}
use Rattle.cam_types.specs.declared.number.DeviceFenceNo.{DeviceFenceNo}
use Rattle.cam_types.specs.declared.number.FenceNo.{FenceNo}
use Rattle.trace_model.specs.Place.{Place, Pool, Device, Client}
use Rattle.judge_rows.specs.declared.homes.Berth.{Berth}
use Rattle.judge_rows.specs.declared.homes.Home.{Home}
use Rattle.judge_rows.specs.declared.homes.Home.TheVariants.{Pool as HomePool, Device as HomeDevice, Client as HomeClient}

-- What the table says of each buffer, as the lists that the state of a trace has (our own choice of tables).

abbrev pub place_of : Home → Place
place_of HomePool = Pool
place_of HomeDevice = Device
place_of HomeClient = Client

-- the place of each buffer, its fence and its device fence
abbrev pub places_in : List Berth → List Place
places_in berths = map (λ b. place_of b.home) berths

abbrev pub fences_in : List Berth → List (Option FenceNo)
fences_in berths = map (λ b. b.fence) berths

abbrev pub helds_in : List Berth → List (Option DeviceFenceNo)
helds_in berths = map (λ b. b.held) berths
