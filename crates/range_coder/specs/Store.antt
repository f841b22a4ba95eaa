-- The bytes of a store. Assumes nothing: these are definitions.
use Rattle.std.specs.Prelude.{ℕ, List}
use Rattle.range_coder.specs.declared.store.Store.{Store}
use Rattle.range_coder.specs.declared.store.Store.TheVariants.{Few, Many}

abbrev pub stored : Store → List ℕ
stored (Few bytes) = bytes
stored (Many bytes) = bytes

-- how many there are
abbrev pub size_of : Store → ℕ
size_of (Few bytes) = 1024
size_of (Many bytes) = 62728
