-- The keys of a get, wherever they stand.
use Rattle.std.specs.Prelude.{List}
use Rattle.hk_base.specs.declared.key.Key.{Key}
use Rattle.hk_request.specs.declared.keys.Listed.{Listed}
use Rattle.hk_request.specs.declared.keys.Listed.TheVariants.{One, Many}

abbrev pub listed : Listed → List Key
listed (One keys) = keys
listed (Many keys) = keys.items
