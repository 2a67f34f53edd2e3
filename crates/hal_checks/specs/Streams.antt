-- Which streams are asked for. Our own choice.
use Rattle.std.specs.Prelude.{ℕ, ◌==◌, Bool, ◌&&◌}
use Rattle.hal_model.specs.declared.event.HalStream.{HalStream}
use Rattle.hal_model.specs.Framework.{puts_out}
use Rattle.hal_checks.specs.declared.stream.Asked.{Asked}
use Rattle.hal_checks.specs.declared.stream.Asked.TheVariants.{Output, Number, OutputNumber}

abbrev pub is_asked : Asked → HalStream → Bool
is_asked Output x = puts_out x.direction
is_asked (Number n) x = x.stream == n
is_asked (OutputNumber n) x = (x.stream == n) && puts_out x.direction
