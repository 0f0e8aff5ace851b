-- What the code reads in front of a URL's parameters stands for what stands there.
use Rattle.std.specs.Prelude.{◌<◌, ℕ, length}
use Rattle.pg_config.specs.declared.url_parameter.Stands.{Stands}
use Rattle.pg_config.specs.declared.url_parameter.Stands.TheVariants as code
use Rattle.pg_config.specs.ParameterReading as spec

-- what stands in front
abbrev pub stands_view : Stands → spec.Front
stands_view code.Done = spec.Done
stands_view code.Broken = spec.Broken
stands_view (code.Parameter key value rest) = spec.Parameter key.now value.now rest.now

-- less than so many bytes are left behind it
abbrev pub LeavesLess : ℕ → Stands → Type 0
LeavesLess n (code.Parameter key value rest) = length rest.now < n
LeavesLess n front = Unit {0}
